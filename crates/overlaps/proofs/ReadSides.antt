-- Sides of an equation whose open parts are replaced by variables: they have no alias, and a substitution makes of them what reading makes of the
-- sides, if it maps each of these variables to what its part is read as.
use Rattle.std.proofs.Common.{◌≡◌, ℕ, ◌+◌, Bool, true, false, not, ◌&&◌, ◌||◌, List, [], ◌∷◌, ◌++◌, Option, Some, None, refl, sym, ap, subst, ◌∙◌, if◌then◌else◌}
use Rattle.std.specs.List.{All}
use Rattle.std.specs.Option.{unwrap_or}
use Rattle.std.proofs.lemmas.List.Elements.{All-append, All-cons, All-nil, All-weaker}
use Rattle.ir_trees.specs.declared.ir.heads.Head.{Head}
use Rattle.ir_trees.specs.declared.ir.heads.Head.TheVariants as H
use Rattle.ir_trees.specs.declared.ir.heads.ListHead.{ListHead}
use Rattle.ir_trees.specs.declared.ir.heads.ListHead.TheVariants as L
use Rattle.ir_trees.specs.declared.ir.heads.PartHead.{PartHead}
use Rattle.ir_trees.specs.declared.ir.heads.PartHead.TheVariants as P
use Rattle.ir_trees.specs.declared.ir.heads.Variable.{Variable}
use Rattle.ir_trees.specs.declared.ir.heads.VariableSort.{VariableSort}
use Rattle.ir_trees.specs.declared.ir.heads.VariableSort.TheVariants as V
use Rattle.ir_trees.specs.Hierarchy.Elaboration.{same_tree}
use Rattle.ir_trees.specs.Hierarchy.Supers.{after_first}
use Rattle.ir_trees.specs.Instantiation.Folding.{fold}
use Rattle.ir_trees.specs.Instantiation.Folds.{node}
use Rattle.ir_trees.specs.declared.ir.kinds.RegionKind.{RegionKind as AnyRegion}
use Rattle.ir_trees.specs.declared.ir.kinds.RegionKind.TheVariants as R
use Rattle.ir_trees.specs.Syntax.Binders.{escapes}
use Rattle.ir_trees.specs.Syntax.Trees.{Kind, TypeKind, ConstantKind, RegionKind, Forest, none, tree, Tree, binders_of, holds, is_alias, kind_of, list_kind, part_kind, sort_kind}
use Rattle.ir_trees.specs.Unification.Substitutions.{IsAllowed, Substitution, Universes, alone, apply, is_variable, replaced}
use Rattle.ir_context.proofs.Hierarchy.Elaboration.{tree_itself}
use Rattle.ir_trees.proofs.Instantiation.Folding.{begin}
use Rattle.candidate_eval.specs.Judges.Lawful.{is_type_or_constant}
use Rattle.candidate_eval.specs.Judges.Soundness.{AreLeaves, is_leaf}
use Rattle.candidate_eval.proofs.Marks.Holds.{holds_parts, or_false}
use Rattle.rounds_judge.specs.Aliases.Listed.{listed_in}
use Rattle.rounds_judge.specs.Aliases.OpenParts.{first_or, has_loose_alias, is_among, is_closed_term, is_open_part, paired, with_part, with_parts}
use Rattle.rounds_judge.proofs.Aliases.OpenedParts.{AllPairs, pair_found}
use Rattle.rounds_judge.proofs.States.Marks.{escape_parts, escape_whole, whole}
use Rattle.rounds_judge.proofs.Unifiers.Further.{instance_of}
use Rattle.rounds_judge.proofs.Unifiers.Solving.{value_under}
use Rattle.overlaps.specs.Readings.{Reading, read_part}
use Rattle.overlaps.proofs.Readings.{closed_adds, closed_is, open_same, read_tree, variable_not_open}

-- Parts

abbrev pub IsOpen : Tree → Type 0
IsOpen t = is_open_part t.head t.children ≡ true

-- an open part whose variables and regions are leaves
abbrev pub IsLeafy : Tree → Type 0
IsLeafy t = IsOpen t × AreLeaves (alone t)

-- each open part of the trees, from the top, is among the parts
abbrev pub AllAmong : List Tree → Forest → Type 0
AllAmong ps none = Unit {0}
AllAmong ps (tree h below rest) = (is_open_part h below ≡ true → is_among ps (node h below) ≡ true) × (is_open_part h below ≡ false → AllAmong ps below) × AllAmong ps rest

-- what is among the first is among the others
abbrev Within : List Tree → List Tree → Type 0
Within ps qs = (t : Tree) → is_among ps t ≡ true → is_among qs t ≡ true

pub among_within : (ps qs : List Tree) → Within ps qs → (ts : Forest) → AllAmong ps ts → AllAmong qs ts
among_within ps qs w none a = tt
among_within ps qs w (tree h below rest) a = ((λ o. w (node h below) (a.0 o)), (λ o. among_within ps qs w below (a.1 o)), among_within ps qs w rest a.2)

append_within : (ps qs : List Tree) → Within ps (ps ++ qs)
append_within [] qs t e = absurd cc
append_within (p ∷ ps) qs t e = at (same_tree p t) e (append_within ps qs t)
  where
    at : (b : Bool) → b || is_among ps t ≡ true → (is_among ps t ≡ true → is_among (ps ++ qs) t ≡ true) → b || is_among (ps ++ qs) t ≡ true
    at true e f = refl
    at false e f = f e

last_among : (ps : List Tree) (t : Tree) → is_among (ps ++ t ∷ []) t ≡ true
last_among [] t = ap (λ b. b || false) (tree_itself t)
last_among (p ∷ ps) t = at (same_tree p t) (last_among ps t)
  where
    at : (b : Bool) → is_among (ps ++ t ∷ []) t ≡ true → b || is_among (ps ++ t ∷ []) t ≡ true
    at true f = refl
    at false f = f

part_within : (ps : List Tree) (t : Tree) → Within ps (with_part ps t)
part_within ps t u e = at (is_among ps t)
  where
    at : (b : Bool) → is_among (if b then ps else ps ++ t ∷ []) u ≡ true
    at true = e
    at false = append_within ps (t ∷ []) u e

part_among : (ps : List Tree) (t : Tree) → is_among (with_part ps t) t ≡ true
part_among ps t = at (is_among ps t) refl
  where
    at : (b : Bool) → is_among ps t ≡ b → is_among (if b then ps else ps ++ t ∷ []) t ≡ true
    at true e = e
    at false e = last_among ps t

abbrev with_node : Bool → List Tree → Head → Forest → List Tree
with_node b ps h below = if b then with_part ps (node h below) else with_parts ps below

pub parts_within : (ps : List Tree) (ts : Forest) → Within ps (with_parts ps ts)
parts_within ps none t e = e
parts_within ps (tree h below rest) t e = parts_within (with_node (is_open_part h below) ps h below) rest t (at (is_open_part h below) (parts_within ps below t e))
  where
    at : (b : Bool) → is_among (with_parts ps below) t ≡ true → is_among (with_node b ps h below) t ≡ true
    at true under = part_within ps (node h below) t e
    at false under = under

-- Each open part of trees is among the parts with those of the trees.
pub all_among : (ps : List Tree) (ts : Forest) → AllAmong (with_parts ps ts) ts
all_among ps none = tt
all_among ps (tree h below rest) =
    let qs = with_node (is_open_part h below) ps h below in (
      (λ o. parts_within qs rest (node h below) (subst (λ b. is_among (with_node b ps h below) (node h below) ≡ true) (sym o) (part_among ps (node h below)))),
      (λ o. among_within qs (with_parts qs rest) (parts_within qs rest) below (subst (λ b. AllAmong (with_node b ps h below) below) (sym o) (all_among ps below))),
      all_among qs rest,
    )

-- All that are noted are open parts, and leafy.
pub parts_leafy : (ps : List Tree) (ts : Forest) → All IsLeafy ps → AreLeaves ts → All IsLeafy (with_parts ps ts)
parts_leafy ps none a l = a
parts_leafy ps (tree h below rest) a l = parts_leafy (with_node (is_open_part h below) ps h below) rest (at (is_open_part h below) refl (parts_leafy ps below a l.1)) l.2
  where
    more : (b : Bool) → IsLeafy (node h below) → All IsLeafy (if b then ps else ps ++ node h below ∷ [])
    more true p = a
    more false p = All-append IsLeafy ps (node h below ∷ []) a (All-cons IsLeafy (node h below) [] p (All-nil IsLeafy))

    at : (b : Bool) → is_open_part h below ≡ b → All IsLeafy (with_parts ps below) → All IsLeafy (with_node b ps h below)
    at true o under = more (is_among ps (node h below)) (o, (l.0, l.1, tt))
    at false o under = under

-- What they are paired with

-- each open part of the trees, from the top, is paired with something
abbrev pub AllFound : List (Tree × Tree) → Forest → Type 0
AllFound pairs none = Unit {0}
AllFound pairs (tree h below rest) =
    (is_open_part h below ≡ true → (v : Tree) × (listed_in pairs (node h below) ≡ Some v)) × (is_open_part h below ≡ false → AllFound pairs below) × AllFound pairs rest

found_among : (ps : List Tree) (vs : Forest) (t : Tree) → is_among ps t ≡ true → (v : Tree) × (listed_in (paired ps vs) t ≡ Some v)
found_among [] vs t e = absurd cc
found_among (p ∷ ps) vs t e = at (same_tree p t) e (found_among ps (after_first vs) t)
  where
    at : (b : Bool) → b || is_among ps t ≡ true → (is_among ps t ≡ true → (v : Tree) × (listed_in (paired ps (after_first vs)) t ≡ Some v))
        → (v : Tree) × ((if b then Some (first_or p vs) else listed_in (paired ps (after_first vs)) t) ≡ Some v)
    at true e f = (first_or p vs, refl)
    at false e f = f e

pub all_found : (ps : List Tree) (vs : Forest) (ts : Forest) → AllAmong ps ts → AllFound (paired ps vs) ts
all_found ps vs none a = tt
all_found ps vs (tree h below rest) a = ((λ o. found_among ps vs (node h below) (a.0 o)), (λ o. all_found ps vs below (a.1 o)), all_found ps vs rest a.2)

abbrev FirstOpen : Tree → Tree → Type 0
FirstOpen t v = IsOpen t

-- nothing else is
unlisted : (pairs : List (Tree × Tree)) → AllPairs FirstOpen pairs → (t : Tree) → is_open_part t.head t.children ≡ false → listed_in pairs t ≡ None
unlisted pairs a t e = at (listed_in pairs t) refl
  where
    at : (o : Option Tree) → listed_in pairs t ≡ o → o ≡ None
    at None f = refl
    at (Some v) f = absurd (let clash : true ≡ false = sym (pair_found FirstOpen pairs t v f a) ∙ e in cc)

-- Trees with what their open parts are paired with in their places, under so many binders.
abbrev pub placed : List (Tree × Tree) → ℕ → Forest → Forest
placed pairs d ts = fold (λ e u. listed_in pairs u) d ts

abbrev read_at : Reading → ℕ → Forest → Forest
read_at r d ts = fold (λ e t. read_part r t) d ts

-- under how many binders trees are read is all one
read_depth : (r : Reading) (d e : ℕ) (ts : Forest) → read_at r d ts ≡ read_at r e ts
read_depth r d e none = refl
read_depth r d e (tree h below rest) =
    ap (λ b. begin (unwrap_or (read_part r (node h below)) (node h b)) (read_at r d rest)) (read_depth r (d + binders_of h) (e + binders_of h) below)
    ∙ ap (begin (unwrap_or (read_part r (node h below)) (node h (read_at r (e + binders_of h) below)))) (read_depth r d e rest)

-- a variable, or another head
data Which : Head → Type 0 where
  a_variable : (v : Variable) → Which (H.Infer v)
  another : {h : Head} → is_variable h ≡ false → Which h

which : (h : Head) → Which h
which (H.Infer v) = a_variable v
which _ = another refl

pub not_replaced : (s : Substitution) (h : Head) (below : Forest) → is_variable h ≡ false → replaced s h below ≡ node h below
not_replaced s (H.Infer v) below e = absurd cc
not_replaced s _ below e = refl

-- what is made of a node that is no variable
node_applied : (s : Substitution) (h : Head) (below rest : Forest) → is_variable h ≡ false → apply s (tree h below rest) ≡ tree h (apply s below) (apply s rest)
node_applied s h below rest e = ap (λ (t : Tree). begin t (apply s rest)) (not_replaced s h (apply s below) e)

-- The variable that an open part is paired with is mapped to what the part's instance is read as.
abbrev pub IsMapped : Reading → Substitution → Substitution → Tree → Tree → Type 0
IsMapped r s z t v = IsOpen t × (instance_of z v ≡ r (node t.head (apply s t.children)))

module _ (u : Universes) (s : Substitution) (ok : IsAllowed u s) (r : Reading) (z : Substitution) (mark : Head → Bool) (pairs : List (Tree × Tree)) (parts : AllPairs (IsMapped r s z) pairs)
    (variables : (v : Variable) → mark (H.Infer v) ≡ false → value_under z v ≡ read_tree r (value_under s v)) where
  all_open : AllPairs FirstOpen pairs
  all_open = All-weaker (λ (p : Tree × Tree). IsMapped r s z p.0 p.1) (λ (p : Tree × Tree). FirstOpen p.0 p.1) (λ p m. m.0) pairs parts

  -- an open part
  part_read : (d e : ℕ) (h : Head) (below rest : Forest) (v : Tree) → is_variable h ≡ false → is_open_part h below ≡ true → AreLeaves below → listed_in pairs (node h below) ≡ Some v
      → apply z (placed pairs d rest) ≡ read_at r e (apply s rest) → apply z (placed pairs d (tree h below rest)) ≡ read_at r e (apply s (tree h below rest))
  part_read d e h below rest v n o a f others =
      ap (λ x. apply z (begin (unwrap_or x (node h (placed pairs (d + binders_of h) below))) (placed pairs d rest))) f
      ∙ (ap (λ (t : Tree). begin t (apply z (placed pairs d rest))) (pair_found (IsMapped r s z) pairs (node h below) v f parts).1
      ∙ (ap (begin (r (node h (apply s below)))) others
      ∙ (sym (ap (λ b. begin (unwrap_or (if b then Some (r (node h (apply s below))) else None) (node h (read_at r (e + binders_of h) (apply s below)))) (read_at r e (apply s rest))) (open_same u s ok h below a ∙ o))
      ∙ sym (ap (read_at r e) (node_applied s h below rest n)))))

  -- a node that is none
  inner_read : (d e : ℕ) (h : Head) (below rest : Forest) → is_variable h ≡ false → is_open_part h below ≡ false → AreLeaves below
      → apply z (placed pairs (d + binders_of h) below) ≡ read_at r (e + binders_of h) (apply s below)
      → apply z (placed pairs d rest) ≡ read_at r e (apply s rest) → apply z (placed pairs d (tree h below rest)) ≡ read_at r e (apply s (tree h below rest))
  inner_read d e h below rest n o a under others =
      ap (λ x. apply z (begin (unwrap_or x (node h (placed pairs (d + binders_of h) below))) (placed pairs d rest))) (unlisted pairs all_open (node h below) o)
      ∙ (node_applied z h (placed pairs (d + binders_of h) below) (placed pairs d rest) n
      ∙ (ap (λ b. tree h b (apply z (placed pairs d rest))) under
      ∙ (ap (tree h (read_at r (e + binders_of h) (apply s below))) others
      ∙ (sym (ap (λ b. begin (unwrap_or (if b then Some (r (node h (apply s below))) else None) (node h (read_at r (e + binders_of h) (apply s below)))) (read_at r e (apply s rest))) (open_same u s ok h below a ∙ o))
      ∙ sym (ap (read_at r e) (node_applied s h below rest n))))))

  -- a variable
  variable_read : (d e : ℕ) (v : Variable) (rest : Forest) → mark (H.Infer v) ≡ false → apply z (placed pairs d rest) ≡ read_at r e (apply s rest)
      → apply z (placed pairs d (tree (H.Infer v) none rest)) ≡ read_at r e (apply s (tree (H.Infer v) none rest))
  variable_read d e v rest k others =
      let t = value_under s v in
      ap (λ x. apply z (begin (unwrap_or x (node (H.Infer v) none)) (placed pairs d rest))) (unlisted pairs all_open (node (H.Infer v) none) (variable_not_open v))
      ∙ (ap (λ (y : Tree). begin y (apply z (placed pairs d rest))) (variables v k)
      ∙ (ap (begin (read_tree r t)) others
      ∙ ap (λ b. begin (unwrap_or (read_part r t) (node t.head b)) (read_at r e (apply s rest))) (read_depth r (0 + binders_of t.head) (e + binders_of t.head) t.children)))

  pub placed_read : (d e : ℕ) (ts : Forest) → AreLeaves ts → holds mark ts ≡ false → AllFound pairs ts → apply z (placed pairs d ts) ≡ read_at r e (apply s ts)
  placed_read d e none a k f = refl
  placed_read d e (tree h below rest) a k f =
      let p = holds_parts mark h below rest k in
      at h (which h) a.0 p.here (is_open_part h below) refl (λ o. (f.0 o)) (λ o. placed_read (d + binders_of h) (e + binders_of h) below a.1 p.under (f.1 o)) (placed_read d e rest a.2 p.others f.2)
    where
      at : (h : Head) → Which h → (is_leaf h ≡ true → below ≡ none) → mark h ≡ false → (b : Bool) → is_open_part h below ≡ b → (is_open_part h below ≡ true → (v : Tree) × (listed_in pairs (node h below) ≡ Some v))
          → (is_open_part h below ≡ false → apply z (placed pairs (d + binders_of h) below) ≡ read_at r (e + binders_of h) (apply s below))
          → apply z (placed pairs d rest) ≡ read_at r e (apply s rest) → apply z (placed pairs d (tree h below rest)) ≡ read_at r e (apply s (tree h below rest))
      at h (a_variable v) single m b o found under others =
          subst (λ x. apply z (placed pairs d (tree (H.Infer v) x rest)) ≡ read_at r e (apply s (tree (H.Infer v) x rest))) (sym (single refl)) (variable_read d e v rest m others)
      at h (another n) single m true o found under others = let q = found o in part_read d e h below rest q.0 n o a.1 q.1 others
      at h (another n) single m false o found under others = inner_read d e h below rest n o a.1 (under o) others

-- The trees with variables in the places of their open parts have no alias, if none was loose; and variables and regions stay leaves.

either_way : (c x : Bool) → not c && x ≡ false → c && x ≡ false → x ≡ false
either_way true x e f = f
either_way false x e f = e

-- what stands for an open part has no alias
abbrev pub IsFreed : Tree → Tree → Type 0
IsFreed t v = IsOpen t × (holds is_alias (alone v) ≡ false)

pub placed_no_alias : (pairs : List (Tree × Tree)) → AllPairs IsFreed pairs → (d : ℕ) (ts : Forest) → AllFound pairs ts → has_loose_alias ts ≡ false → holds is_alias (placed pairs d ts) ≡ false
placed_no_alias pairs a d none f e = refl
placed_no_alias pairs a d (tree h below rest) f e =
    let p = or_false (not (is_closed_term h below) && (is_alias h || has_loose_alias below)) (has_loose_alias rest) e in
    at (is_open_part h below) refl p.0 (λ l o. placed_no_alias pairs a (d + binders_of h) below (f.1 o) l) (placed_no_alias pairs a d rest f.2 p.1)
  where
    at : (b : Bool) → is_open_part h below ≡ b → not (is_closed_term h below) && (is_alias h || has_loose_alias below) ≡ false
        → (has_loose_alias below ≡ false → is_open_part h below ≡ false → holds is_alias (placed pairs (d + binders_of h) below) ≡ false)
        → holds is_alias (placed pairs d rest) ≡ false
        → holds is_alias (begin (unwrap_or (listed_in pairs (node h below)) (node h (placed pairs (d + binders_of h) below))) (placed pairs d rest)) ≡ false
    at true o loose under others =
        let q = f.0 o in
        let v = q.0 in
        let m = holds_parts is_alias v.head v.children none (pair_found IsFreed pairs (node h below) v q.1 a).1 in
        subst (λ (x : Option Tree). holds is_alias (begin (unwrap_or x (node h (placed pairs (d + binders_of h) below))) (placed pairs d rest)) ≡ false) (sym q.1)
        (whole is_alias v.head v.children (placed pairs d rest) m.here m.under others)
    at false o loose under others =
        let q = or_false (is_alias h) (has_loose_alias below) (either_way (is_closed_term h below) (is_alias h || has_loose_alias below) loose o) in
        let opens : AllPairs FirstOpen pairs = All-weaker (λ (p : Tree × Tree). IsFreed p.0 p.1) (λ (p : Tree × Tree). FirstOpen p.0 p.1) (λ p m. m.0) pairs a in
        subst (λ (x : Option Tree). holds is_alias (begin (unwrap_or x (node h (placed pairs (d + binders_of h) below))) (placed pairs d rest)) ≡ false) (sym (unlisted pairs opens (node h below) o))
        (whole is_alias h (placed pairs (d + binders_of h) below) (placed pairs d rest) q.0 (under q.1 o) others)

abbrev pub LeafyValue : Tree → Tree → Type 0
LeafyValue t v = AreLeaves (alone v)

pub placed_leaves : (pairs : List (Tree × Tree)) → AllPairs LeafyValue pairs → (d : ℕ) (ts : Forest) → AreLeaves ts → AreLeaves (placed pairs d ts)
placed_leaves pairs a d none k = tt
placed_leaves pairs a d (tree h below rest) k = at (listed_in pairs (node h below)) refl (placed_leaves pairs a (d + binders_of h) below k.1) (placed_leaves pairs a d rest k.2)
  where
    at : (o : Option Tree) → listed_in pairs (node h below) ≡ o → AreLeaves (placed pairs (d + binders_of h) below) → AreLeaves (placed pairs d rest)
        → AreLeaves (begin (unwrap_or o (node h (placed pairs (d + binders_of h) below))) (placed pairs d rest))
    at None e under others = ((λ l. ap (placed pairs (d + binders_of h)) (k.0 l)), under, others)
    at (Some v) e under others = let z = pair_found LeafyValue pairs (node h below) v e a in (z.0, z.1, others)

-- In a row of types, constants and regions from which no bound variable escapes, no alias is loose.

is_leaf_region : (x : AnyRegion) → is_leaf (H.Region x) ≡ true
is_leaf_region (R.Var n) = refl
is_leaf_region _ = refl

no_region_sort : (z : VariableSort) → sort_kind z ≡ RegionKind → ⊥
no_region_sort V.Constant e = cc
no_region_sort _ e = cc

no_region_part : (p : PartHead) → part_kind p ≡ RegionKind → ⊥
no_region_part (P.Pred _) e = cc
no_region_part (P.Clause _) e = cc
no_region_part P.Sig e = cc
no_region_part P.Vars e = cc
no_region_part (P.Var _) e = cc

no_region_list : (l : ListHead) → list_kind l ≡ RegionKind → ⊥
no_region_list L.Args e = cc
no_region_list L.Preds e = cc
no_region_list L.Clauses e = cc

abbrev pub is_argument : Kind → Bool
is_argument RegionKind = true
is_argument k = is_type_or_constant k

abbrev pub AreArguments : Forest → Type 0
AreArguments none = Unit {0}
AreArguments (tree h below rest) = (is_argument (kind_of h) ≡ true) × AreArguments rest

pub arguments_not_loose : (ts : Forest) → AreArguments ts → AreLeaves ts → escapes 0 ts ≡ false → has_loose_alias ts ≡ false
arguments_not_loose none a l e = refl
arguments_not_loose (tree h below rest) a l e =
    let p = escape_parts 0 h below rest e in
    at h (kind_of h) refl a.0 l.0 (escape_whole 0 h below none p.here p.under refl) (arguments_not_loose rest a.1 l.2 p.others)
  where
    term : (h : Head) → is_type_or_constant (kind_of h) ≡ true → escapes 0 (tree h below none) ≡ false → has_loose_alias rest ≡ false → has_loose_alias (tree h below rest) ≡ false
    term h k c others = closed_adds h below rest (closed_is h below k c) ∙ others

    region : (h : Head) → kind_of h ≡ RegionKind → (is_leaf h ≡ true → below ≡ none) → has_loose_alias rest ≡ false → has_loose_alias (tree h below rest) ≡ false
    region (H.Region x) k single others = ap (λ b. has_loose_alias (tree (H.Region x) b rest)) (single (is_leaf_region x)) ∙ others
    region (H.Infer v) k single others = absurd (no_region_sort v.sort k)
    region (H.Part p) k single others = absurd (no_region_part p k)
    region (H.List l) k single others = absurd (no_region_list l k)
    region _ k single others = absurd cc

    at : (h : Head) (k : Kind) → kind_of h ≡ k → is_argument k ≡ true → (is_leaf h ≡ true → below ≡ none) → escapes 0 (tree h below none) ≡ false → has_loose_alias rest ≡ false
        → has_loose_alias (tree h below rest) ≡ false
    at h RegionKind k e single c others = region h k single others
    at h TypeKind k e single c others = term h (ap is_type_or_constant k) c others
    at h ConstantKind k e single c others = term h (ap is_type_or_constant k) c others
    at h _ k e single c others = absurd cc

-- Trees without aliases have no open part.

pub no_alias_loose : (ts : Forest) → holds is_alias ts ≡ false → has_loose_alias ts ≡ false
no_alias_loose none e = refl
no_alias_loose (tree h below rest) e =
    let p = holds_parts is_alias h below rest e in
    ap (λ x. not (is_closed_term h below) && x || has_loose_alias rest) (ap (λ x. x || has_loose_alias below) p.here ∙ no_alias_loose below p.under)
    ∙ at (not (is_closed_term h below)) (no_alias_loose rest p.others)
  where
    at : (c : Bool) → has_loose_alias rest ≡ false → c && false || has_loose_alias rest ≡ false
    at true f = f
    at false f = f

pub no_alias_among : (ps : List Tree) (ts : Forest) → holds is_alias ts ≡ false → AllAmong ps ts
no_alias_among ps none e = tt
no_alias_among ps (tree h below rest) e =
    let p = holds_parts is_alias h below rest e in
    let no_open : is_open_part h below ≡ false = ap (λ x. is_closed_term h below && x) (ap (λ x. x || has_loose_alias below) p.here ∙ no_alias_loose below p.under) ∙ at (is_closed_term h below) in
    ((λ o. absurd (let clash : true ≡ false = sym o ∙ no_open in cc)), (λ o. no_alias_among ps below p.under), no_alias_among ps rest p.others)
  where
    at : (c : Bool) → c && false ≡ false
    at true = refl
    at false = refl
