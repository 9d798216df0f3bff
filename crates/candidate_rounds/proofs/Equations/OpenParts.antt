-- Open parts, as walks over numbers find them: what a walk has still to look at, and what it notes.
use Rattle.std.proofs.Common.{◌≡◌, ◌≤◌, ◌<◌, ℕ, zero, suc, ◌+◌, Bool, true, false, not, ◌&&◌, ◌||◌, ◌↔◌, IsTrue, MatchOption, Option, Some, None, List, [], ◌∷◌, ◌++◌, length, map, drop, slice_index_or, refl, sym, ◌∙◌, ap, subst, arith, if◌then◌else◌}
use Rattle.std.specs.Option.{is_some}
use Rattle.std.proofs.lemmas.Bool.{or_parts}
use Rattle.std.proofs.lemmas.List.{append_assoc, append-nil, map-append}
use Rattle.ir_trees.specs.declared.ir.heads.Head.{Head}
use Rattle.ir_trees.specs.declared.ir.kinds.GenericArg.{GenericArg}
use Rattle.ir_trees.specs.declared.ir.kinds.GenericArg.TheVariants as A
use Rattle.ir_trees.specs.declared.ir.kinds.Region.{Region}
use Rattle.ir_trees.specs.declared.ir.kinds.VarKind.{VarKind}
use Rattle.ir_trees.specs.Declarations.Context.{parameter_kind}
use Rattle.ir_trees.specs.Hierarchy.Supers.{after_first}
use Rattle.ir_trees.specs.Syntax.Kinds.{arg_kind, arg_number}
use Rattle.ir_trees.specs.Syntax.Words.{list_forest}
use Rattle.candidate_eval.specs.Interface.Evaluators.{kinds_listed}
use Rattle.rounds_judge.specs.Aliases.Listed.{listed_in}
use Rattle.candidate_rounds.proofs.Obligations.Noting.{arg-row}
use Rattle.candidate_rounds.proofs.Snapshots.Knowing.{there-arg}
use Rattle.ir_trees.proofs.Syntax.Rows.{kind-of}
use Rattle.ir_trees.specs.Hierarchy.Elaboration.{same_tree}
use Rattle.ir_trees.specs.Instantiation.Folds.{IsArg, arg_tree, is_asked, is_asked_kind, node}
use Rattle.ir_trees.specs.Syntax.Binders.{escapes}
use Rattle.ir_trees.specs.declared.ir.heads.Flag.TheVariants as F
use Rattle.ir_trees.specs.declared.ir.heads.Marks.{Marks}
use Rattle.ir_trees.specs.Syntax.Flags.{mark}
use Rattle.ir_trees.specs.Syntax.Marks.{AreMarks, marked}
use Rattle.ir_trees.specs.Syntax.Nodes.{tree_at}
use Rattle.ir_trees.specs.Syntax.Trees.{Kind, TypeKind, ConstantKind, RegionKind, Forest, none, tree, Tree, count, holds, is_alias, kind_of, skip, tree_holds}
use Rattle.candidate_eval.specs.Judges.Lawful.{is_type_or_constant}
use Rattle.candidate_eval.proofs.Marks.Holds.{holds_parts}
use Rattle.ir_context.proofs.Hierarchy.Elaboration.{tree_itself}
use Rattle.rounds_judge.specs.Aliases.OpenParts.{first_or, has_loose_alias, is_among, is_closed_term, is_open_part, kinds_of, paired, with_part, with_parts}
use Rattle.candidate_rounds.specs.Calls.Opening.{AreArgs, AreNoted, ArePaired, IsPair, pairs_at, trees_of}
use Rattle.candidate_rounds.proofs.Resolution.Listing.{same-says}
use Rattle.candidate_rounds.proofs.Resolution.Walking.{each-weaker}
use Rattle.candidate_rounds.proofs.Snapshots.Undoing.{drop-beyond, drop-one}
use Rattle.candidate_rounds.proofs.Stops.ResponseStops.{one-more-child}

-- What is no closed term

no-term : (k : Kind) (b : Bool) → is_asked_kind k ≡ false → is_type_or_constant k && b ≡ false
no-term TypeKind b e = absurd cc
no-term ConstantKind b e = absurd cc
no-term RegionKind b e = absurd cc
no-term _ b e = refl

pub unasked-open : (h : Head) (below : Forest) → is_asked h ≡ false → is_closed_term h below ≡ false
unasked-open h below e = no-term (kind_of h) (not (escapes 0 (tree h below none))) e

pub region-open : (h : Head) (below : Forest) → kind_of h ≡ RegionKind → is_closed_term h below ≡ false
region-open h below e = ap (λ (k : Kind). is_type_or_constant k && not (escapes 0 (tree h below none))) e

pub escaping-open : (h : Head) (below : Forest) → escapes 0 (tree h below none) ≡ true → is_closed_term h below ≡ false
escaping-open h below e = ap (λ b. is_type_or_constant (kind_of h) && not b) e ∙ at (is_type_or_constant (kind_of h))
  where
    at : (b : Bool) → b && false ≡ false
    at true = refl
    at false = refl

pub term-closed : (ts : List Tree) (x : GenericArg) (t : Tree) → IsArg ts x → arg_tree ts x ≡ t → ((r : Region) → x ≡ A.Region r → ⊥) → escapes 0 (tree t.head t.children none) ≡ false → is_closed_term t.head t.children ≡ true
term-closed ts (A.Ty y) t i e n c = rw (sym (ap (λ (u : Tree). kind_of u.head) e) ∙ kind-of ts y.0 TypeKind refl i, c) refl
term-closed ts (A.Const y) t i e n c = rw (sym (ap (λ (u : Tree). kind_of u.head) e) ∙ kind-of ts y.0 ConstantKind refl i, c) refl
term-closed ts (A.Region y) t i e n c = absurd (n y refl)

pub region-is : (ts : List Tree) (x : GenericArg) (r : Region) (t : Tree) → x ≡ A.Region r → IsArg ts x → arg_tree ts x ≡ t → is_closed_term t.head t.children ≡ false
region-is ts x r t e i f =
    region-open t.head t.children
    (sym (ap (λ (u : Tree). kind_of u.head) (sym (ap (arg_tree ts) e) ∙ f)) ∙ kind-of ts r.0 RegionKind refl (subst (IsArg ts) e i))

-- whether the tree of a number is one, as it was found
module _ (ts : List Tree) (t : Tree) where
  abbrev pub IsFound : Option GenericArg → Type 0
  IsFound o = MatchOption o (is_closed_term t.head t.children ≡ false) (λ a. IsArg ts a × (arg_tree ts a ≡ t) × (is_closed_term t.head t.children ≡ true))

  pub found-closed : (o : Option GenericArg) (b : Bool) → IsFound o → b ≡ is_some o → b ≡ true → is_closed_term t.head t.children ≡ true
  found-closed None b m e f = let clash : true ≡ false = sym f ∙ e in absurd cc
  found-closed (Some a) b m e f = m.2

  pub found-open : (o : Option GenericArg) (b : Bool) → IsFound o → b ≡ is_some o → b ≡ false → is_closed_term t.head t.children ≡ false
  found-open None b m e f = m
  found-open (Some a) b m e f = let clash : false ≡ true = sym f ∙ e in absurd cc

-- whether it is an open part, as it was found
abbrev pub IsPart : List Tree → Tree → Option GenericArg → Type 0
IsPart ts t o = MatchOption o (is_open_part t.head t.children ≡ false) (λ a. IsArg ts a × (arg_tree ts a ≡ t) × (is_open_part t.head t.children ≡ true))

-- Loose aliases, one child after the other

-- of one tree of a row
abbrev pub is_loose : Head → Forest → Bool
is_loose h below = not (is_closed_term h below) && (is_alias h || has_loose_alias below)

pub not-loose-closed : (h : Head) (below : Forest) → is_closed_term h below ≡ true → is_loose h below ≡ false
not-loose-closed h below e = ap (λ c. not c && (is_alias h || has_loose_alias below)) e

pub not-loose-open : (h : Head) (below : Forest) → is_alias h ≡ false → has_loose_alias below ≡ false → is_loose h below ≡ false
not-loose-open h below a b = rw (a, b) (at (is_closed_term h below))
  where
    at : (c : Bool) → not c && (false || false) ≡ false
    at true = refl
    at false = refl

pub none-loose-in : (ts : Forest) → holds is_alias ts ≡ false → has_loose_alias ts ≡ false
none-loose-in none e = refl
none-loose-in (tree h below rest) e =
    let p = holds_parts is_alias h below rest e in
    rw (p.here, none-loose-in below p.under, none-loose-in rest p.others) (both (not (is_closed_term h below)))
  where
    both : (b : Bool) → (b && (false || false)) || false ≡ false
    both true = refl
    both false = refl

pub record LooseTo (below : Forest) (place : ℕ) : Type 0 where
  pub same : has_loose_alias (skip place below) ≡ has_loose_alias below
  pub fewer : place ≤ count below

module _ (ts : List Tree) (below : Forest) (place child : ℕ) (at : skip place below ≡ tree (tree_at ts child).head (tree_at ts child).children (skip (suc place) below)) where
  abbrev here : Bool
  here = is_loose (tree_at ts child).head (tree_at ts child).children

  pub next-loose : LooseTo below place → here ≡ false → LooseTo below (place + 1)
  next-loose to e = record {
    same = (let j : place + 1 ≡ suc place = omega arith in ap (λ k. has_loose_alias (skip k below)) j ∙ (sym (ap has_loose_alias at ∙ ap (λ b. b || has_loose_alias (skip (suc place) below)) e) ∙ to.same));
    fewer = one-more-child place below (tree_at ts child).head (tree_at ts child).children (skip (suc place) below) at;
  }

  pub found-loose : LooseTo below place → here ≡ true → true ≡ has_loose_alias below
  found-loose to e = sym (ap has_loose_alias at ∙ ap (λ b. b || has_loose_alias (skip (suc place) below)) e) ∙ to.same

pub none-loose : (below : Forest) (place : ℕ) → LooseTo below place → skip place below ≡ none → has_loose_alias below ≡ false
none-loose below place to e = sym to.same ∙ ap has_loose_alias e

-- Parts that are missing among some

abbrev misses : List Tree → Forest → Bool
misses ps none = false
misses ps (tree h below rest) = (if is_open_part h below then not (is_among ps (node h below)) else misses ps below) || misses ps rest

abbrev Keeps : List Tree → List Tree → Type 0
Keeps ps qs = (t : Tree) → is_among ps t ≡ true → is_among qs t ≡ true

among-longer : (ps qs : List Tree) (t : Tree) → is_among ps t ≡ true → is_among (ps ++ qs) t ≡ true
among-longer [] qs t e = absurd cc
among-longer (p ∷ ps) qs t e = at (same_tree p t) e (among-longer ps qs t)
  where
    at : (b : Bool) → b || is_among ps t ≡ true → (is_among ps t ≡ true → is_among (ps ++ qs) t ≡ true) → b || is_among (ps ++ qs) t ≡ true
    at true e f = refl
    at false e f = f e

among-last : (ps : List Tree) (t : Tree) → is_among (ps ++ t ∷ []) t ≡ true
among-last [] t = ap (λ b. b || false) (tree_itself t)
among-last (p ∷ ps) t = at (same_tree p t) (among-last ps t)
  where
    at : (b : Bool) → is_among (ps ++ t ∷ []) t ≡ true → b || is_among (ps ++ t ∷ []) t ≡ true
    at true e = refl
    at false e = e

part-kept : (ps : List Tree) (u : Tree) → Keeps ps (with_part ps u)
part-kept ps u t e = at (is_among ps u)
  where
    at : (b : Bool) → is_among (if b then ps else ps ++ u ∷ []) t ≡ true
    at true = e
    at false = among-longer ps (u ∷ []) t e

part-there : (ps : List Tree) (u : Tree) → is_among (with_part ps u) u ≡ true
part-there ps u = at (is_among ps u) refl
  where
    at : (b : Bool) → is_among ps u ≡ b → is_among (if b then ps else ps ++ u ∷ []) u ≡ true
    at true e = e
    at false e = among-last ps u

parts-kept : (ps : List Tree) (ts : Forest) → Keeps ps (with_parts ps ts)
parts-kept ps none t e = e
parts-kept ps (tree h below rest) t e = parts-kept (if is_open_part h below then with_part ps (node h below) else with_parts ps below) rest t (at (is_open_part h below) (parts-kept ps below t e))
  where
    at : (b : Bool) → is_among (with_parts ps below) t ≡ true → is_among (if b then with_part ps (node h below) else with_parts ps below) t ≡ true
    at true f = part-kept ps (node h below) t e
    at false f = f

fewer-missing : (ps qs : List Tree) → Keeps ps qs → (ts : Forest) → misses ps ts ≡ false → misses qs ts ≡ false
fewer-missing ps qs k none e = refl
fewer-missing ps qs k (tree h below rest) e =
    let p = or_parts (if is_open_part h below then not (is_among ps (node h below)) else misses ps below) (misses ps rest) e in
    rw (at (is_open_part h below) p.0 (fewer-missing ps qs k below), fewer-missing ps qs k rest p.1) refl
  where
    kept : (b : Bool) → is_among ps (node h below) ≡ b → not b ≡ false → not (is_among qs (node h below)) ≡ false
    kept true e f = ap not (k (node h below) e)
    kept false e f = absurd cc

    at : (b : Bool) → (if b then not (is_among ps (node h below)) else misses ps below) ≡ false → (misses ps below ≡ false → misses qs below ≡ false)
        → (if b then not (is_among qs (node h below)) else misses qs below) ≡ false
    at true e f = kept (is_among ps (node h below)) refl e
    at false e f = f e

all-there : (ps : List Tree) (ts : Forest) → misses (with_parts ps ts) ts ≡ false
all-there ps none = refl
all-there ps (tree h below rest) =
    let qs : List Tree = if is_open_part h below then with_part ps (node h below) else with_parts ps below in
    rw (at (is_open_part h below) refl (all-there ps below), all-there qs rest) refl
  where
    at : (b : Bool) → is_open_part h below ≡ b → misses (with_parts ps below) below ≡ false
        → (if b then not (is_among (with_parts (if is_open_part h below then with_part ps (node h below) else with_parts ps below) rest) (node h below))
        else misses (with_parts (if is_open_part h below then with_part ps (node h below) else with_parts ps below) rest) below) ≡ false
    at true e f =
        ap not (parts-kept (if is_open_part h below then with_part ps (node h below) else with_parts ps below) rest (node h below)
        (subst (λ b. is_among (if b then with_part ps (node h below) else with_parts ps below) (node h below) ≡ true) (sym e) (part-there ps (node h below))))
    at false e f =
        fewer-missing (with_parts ps below) (with_parts (if is_open_part h below then with_part ps (node h below) else with_parts ps below) rest)
        (λ t k. parts-kept (if is_open_part h below then with_part ps (node h below) else with_parts ps below) rest t (subst (λ b. is_among (if b then with_part ps (node h below) else with_parts ps below) t ≡ true) (sym e) k)) below f

none-new : (ps : List Tree) (ts : Forest) → misses ps ts ≡ false → with_parts ps ts ≡ ps
none-new ps none e = refl
none-new ps (tree h below rest) e =
    let p = or_parts (if is_open_part h below then not (is_among ps (node h below)) else misses ps below) (misses ps rest) e in
    ap (λ qs. with_parts qs rest) (at (is_open_part h below) p.0 (none-new ps below)) ∙ none-new ps rest p.1
  where
    there : (b : Bool) → not b ≡ false → (if b then ps else ps ++ node h below ∷ []) ≡ ps
    there true e = refl
    there false e = absurd cc

    at : (b : Bool) → (if b then not (is_among ps (node h below)) else misses ps below) ≡ false → (misses ps below ≡ false → with_parts ps below ≡ ps)
        → (if b then with_part ps (node h below) else with_parts ps below) ≡ ps
    at true e f = there (is_among ps (node h below)) e
    at false e f = f e

-- Numbers that were walked stay so while more is noted.

pub noted-below : (ts : List Tree) (from ps : List Tree) (n : ℕ) → ps ≡ with_parts from (tree_at ts n).children → with_parts ps (tree_at ts n).children ≡ ps
noted-below ts from ps n e =
    subst (λ qs. with_parts qs (tree_at ts n).children ≡ qs) (sym e) (none-new (with_parts from (tree_at ts n).children) (tree_at ts n).children (all-there from (tree_at ts n).children))

pub noted-later : (ts ps qs : List Tree) (t : Tree) (walked : List ℕ) → qs ≡ with_part ps t → AreNoted ps ts walked → AreNoted qs ts walked
noted-later ts ps qs t walked e a =
    subst (λ xs. AreNoted xs ts walked) (sym e)
    (each-weaker (λ n. with_parts ps (tree_at ts n).children ≡ ps) (λ n. with_parts (with_part ps t) (tree_at ts n).children ≡ with_part ps t)
    (λ n k. none-new (with_part ps t) (tree_at ts n).children
    (fewer-missing ps (with_part ps t) (part-kept ps t) (tree_at ts n).children (subst (λ xs. misses xs (tree_at ts n).children ≡ false) k (all-there ps (tree_at ts n).children)))) walked a)

-- One child after the other

pub record PartsTo (from : List Tree) (below : Forest) (place : ℕ) (ps : List Tree) : Type 0 where
  pub noted : with_parts ps (skip place below) ≡ with_parts from below
  pub fewer : place ≤ count below

module _ (ts : List Tree) (from ps qs : List Tree) (below : Forest) (place child : ℕ) (a : PartsTo from below place ps)
    (at : skip place below ≡ tree (tree_at ts child).head (tree_at ts child).children (skip (suc place) below)) where
  abbrev h : Head
  h = (tree_at ts child).head

  abbrev under : Forest
  under = (tree_at ts child).children

  next-part : qs ≡ (if is_open_part h under then with_part ps (node h under) else with_parts ps under) → PartsTo from below (place + 1) qs
  next-part e = record {
    noted =
        (let j : place + 1 ≡ suc place = omega arith in
        ap (λ k. with_parts qs (skip k below)) j ∙ (ap (λ xs. with_parts xs (skip (suc place) below)) e ∙ (ap (with_parts ps) (sym at) ∙ a.noted)));
    fewer = one-more-child place below h under (skip (suc place) below) at;
  }

  pub next-open : is_open_part h under ≡ true → qs ≡ with_part ps (node h under) → PartsTo from below (place + 1) qs
  next-open o e = next-part (e ∙ sym (ap (λ b. if b then with_part ps (node h under) else with_parts ps under) o))

  pub next-closed : is_open_part h under ≡ false → qs ≡ with_parts ps under → PartsTo from below (place + 1) qs
  next-closed o e = next-part (e ∙ sym (ap (λ b. if b then with_part ps (node h under) else with_parts ps under) o))

-- Where no alias stands, there is no open part.

closed-part : (h : Head) (below : Forest) → is_alias h ≡ false → has_loose_alias below ≡ false → is_open_part h below ≡ false
closed-part h below a b = rw (a, b) (at (is_closed_term h below))
  where
    at : (c : Bool) → c && (false || false) ≡ false
    at true = refl
    at false = refl

pub no-parts : (ps : List Tree) (ts : Forest) → holds is_alias ts ≡ false → ps ≡ with_parts ps ts
no-parts ps none e = refl
no-parts ps (tree h below rest) e =
    let p = holds_parts is_alias h below rest e in
    let c : is_open_part h below ≡ false = closed-part h below p.here (none-loose-in below p.under) in
    no-parts ps rest p.others ∙ ap (λ qs. with_parts qs rest) (no-parts ps below p.under ∙ sym (ap (λ b. if b then with_part ps (node h below) else with_parts ps below) c))

-- Whether a part is among those noted

abbrev pub IsAmongFrom : List Tree → List GenericArg → Tree → ℕ → Type 0
IsAmongFrom ts xs t i = is_among (trees_of ts xs) t ≡ is_among (trees_of ts (drop i xs)) t

module _ (ts : List Tree) (xs : List GenericArg) (t : Tree) (i : ℕ) (d : GenericArg) (a : IsAmongFrom ts xs t i) (l : i < length xs) where
  this : (b : Bool) → same_tree (arg_tree ts (slice_index_or xs i d)) t ≡ b → is_among (trees_of ts xs) t ≡ b || is_among (trees_of ts (drop (suc i) xs)) t
  this b e = a ∙ (ap (λ ys. is_among (trees_of ts ys) t) (drop-one xs i d l) ∙ ap (λ c. c || is_among (trees_of ts (drop (suc i) xs)) t) e)

  pub not-among : (b : Bool) → IsTrue b ↔ (arg_tree ts (slice_index_or xs i d) ≡ t) → b ≡ false → IsAmongFrom ts xs t (i + 1)
  not-among b s f =
      let j : suc i ≡ i + 1 = omega arith in
      this false (same-says (arg_tree ts (slice_index_or xs i d)) t b s ∙ f) ∙ ap (λ k. is_among (trees_of ts (drop k xs)) t) j

  pub among-here : (b : Bool) → IsTrue b ↔ (arg_tree ts (slice_index_or xs i d) ≡ t) → b ≡ true → trees_of ts xs ≡ with_part (trees_of ts xs) t
  among-here b s f = sym (ap (λ c. if c then trees_of ts xs else trees_of ts xs ++ t ∷ []) (this true (same-says (arg_tree ts (slice_index_or xs i d)) t b s ∙ f)))

pub added-part : (ts : List Tree) (xs ys : List GenericArg) (x : GenericArg) (i : ℕ) → IsAmongFrom ts xs (arg_tree ts x) i → length xs ≤ i → ys ≡ xs ++ x ∷ [] → trees_of ts ys ≡ with_part (trees_of ts xs) (arg_tree ts x)
added-part ts xs ys x i a l e =
    ap (trees_of ts) e ∙ (map-append (arg_tree ts) xs (x ∷ []) ∙ sym (ap (λ c. if c then trees_of ts xs else trees_of ts xs ++ arg_tree ts x ∷ []) (a ∙ ap (λ zs. is_among (trees_of ts zs) (arg_tree ts x)) (drop-beyond xs i l))))

pub added-arg : (ts : List Tree) (xs ys : List GenericArg) (x : GenericArg) → AreArgs ts xs → IsArg ts x → ys ≡ xs ++ x ∷ [] → AreArgs ts ys
added-arg ts xs ys x a i e = subst (AreArgs ts) (sym e) (go xs a)
  where
    go : (xs : List GenericArg) → AreArgs ts xs → AreArgs ts (xs ++ x ∷ [])
    go [] a = (i, tt)
    go (y ∷ xs) a = (a.0, go xs a.1)

-- what is kept of a tree says where no alias stands below it
pub unmarked-below : (m : Marks) (t : Tree) (b : Bool) → AreMarks m t → b ≡ marked m F.Alias → b ≡ false → holds is_alias t.children ≡ false
unmarked-below m t b a e f =
    let same : mark F.Alias ≡ is_alias = λ i h. is_alias h in
    let none : is_alias t.head || holds is_alias t.children ≡ false = ap (λ k. tree_holds k t) (sym same) ∙ (sym (a F.Alias) ∙ (sym e ∙ f)) in
    (or_parts (is_alias t.head) (holds is_alias t.children) none).1

-- Pairs, one after the other

pub pair-at : (ts : List Tree) (xs ys : List GenericArg) (i : ℕ) (d e : GenericArg) → ArePaired ts xs ys → i < length xs → (i < length ys) × IsPair ts (slice_index_or xs i d) (slice_index_or ys i e)
pair-at ts [] ys i d e a l = absurd (omega (arith, l))
pair-at ts (x ∷ xs) [] i d e a l = absurd a
pair-at ts (x ∷ xs) (y ∷ ys) zero d e a l = (omega arith, a.0)
pair-at ts (x ∷ xs) (y ∷ ys) (suc i) d e a l = let p = pair-at ts xs ys i d e a.1 (omega (arith, l)) in let k = p.0 in (omega (arith, k), p.1)

abbrev pub IsFoundFrom : List Tree → List GenericArg → List GenericArg → Tree → ℕ → Type 0
IsFoundFrom ts xs ys t i = listed_in (pairs_at ts xs ys) t ≡ listed_in (pairs_at ts (drop i xs) (drop i ys)) t

pair-next : (ts : List Tree) (xs ys : List GenericArg) (i : ℕ) (d e : GenericArg) (t : Tree) → ArePaired ts xs ys → i < length xs
    → listed_in (pairs_at ts (drop i xs) (drop i ys)) t
    ≡ (if same_tree (arg_tree ts (slice_index_or xs i d)) t then Some (arg_tree ts (slice_index_or ys i e)) else listed_in (pairs_at ts (drop (suc i) xs) (drop (suc i) ys)) t)
pair-next ts [] ys i d e t a l = absurd (omega (arith, l))
pair-next ts (x ∷ xs) [] i d e t a l = absurd a
pair-next ts (x ∷ xs) (y ∷ ys) zero d e t a l =
    ap (λ (r : Forest). listed_in ((arg_tree ts x, first_or (arg_tree ts x) r) ∷ paired (trees_of ts xs) (after_first r)) t) (arg-row ts y (list_forest ts ys) a.0.other)
pair-next ts (x ∷ xs) (y ∷ ys) (suc i) d e t a l = pair-next ts xs ys i d e t a.1 (omega (arith, l))

module _ (ts : List Tree) (xs ys : List GenericArg) (t : Tree) (i : ℕ) (d e : GenericArg) (paired : ArePaired ts xs ys) (a : IsFoundFrom ts xs ys t i) (l : i < length xs) where
  found-by : (b : Bool) → same_tree (arg_tree ts (slice_index_or xs i d)) t ≡ b
      → listed_in (pairs_at ts xs ys) t ≡ (if b then Some (arg_tree ts (slice_index_or ys i e)) else listed_in (pairs_at ts (drop (suc i) xs) (drop (suc i) ys)) t)
  found-by b q =
      a ∙ (pair-next ts xs ys i d e t paired l ∙ ap (λ c. if c then Some (arg_tree ts (slice_index_or ys i e)) else listed_in (pairs_at ts (drop (suc i) xs) (drop (suc i) ys)) t) q)

  pub other-part : (b : Bool) → IsTrue b ↔ (arg_tree ts (slice_index_or xs i d) ≡ t) → b ≡ false → IsFoundFrom ts xs ys t (i + 1)
  other-part b s f =
      let j : suc i ≡ i + 1 = omega arith in
      found-by false (same-says (arg_tree ts (slice_index_or xs i d)) t b s ∙ f) ∙ ap (λ k. listed_in (pairs_at ts (drop k xs) (drop k ys)) t) j

  pub this-part : (b : Bool) → IsTrue b ↔ (arg_tree ts (slice_index_or xs i d) ≡ t) → b ≡ true → Some (arg_tree ts (slice_index_or ys i e)) ≡ listed_in (pairs_at ts xs ys) t
  this-part b s f = sym (found-by true (same-says (arg_tree ts (slice_index_or xs i d)) t b s ∙ f))

pub no-part : (ts : List Tree) (xs ys : List GenericArg) (t : Tree) (i : ℕ) → IsFoundFrom ts xs ys t i → length xs ≤ i → None ≡ listed_in (pairs_at ts xs ys) t
no-part ts xs ys t i a l = sym (a ∙ ap (λ (zs : List GenericArg). listed_in (pairs_at ts zs (drop i ys)) t) (drop-beyond xs i l))

-- Kinds, one after the other

abbrev pub KindsTo : List VarKind → List GenericArg → ℕ → Type 0
KindsTo ks xs i = kinds_listed ks ++ map arg_kind (drop i xs) ≡ map arg_kind xs

pub one-more-kind : (ks js : List VarKind) (k : VarKind) (xs : List GenericArg) (i : ℕ) (d : GenericArg) → KindsTo ks xs i → i < length xs → js ≡ ks ++ k ∷ [] → parameter_kind k ≡ arg_kind (slice_index_or xs i d) → KindsTo js xs (i + 1)
one-more-kind ks js k xs i d a l e q =
    let j : i + 1 ≡ suc i = omega arith in
    let rest : List Kind = map arg_kind (drop (suc i) xs) in
    ap (λ n. kinds_listed js ++ map arg_kind (drop n xs)) j
    ∙ (ap (λ zs. kinds_listed zs ++ rest) e
    ∙ (ap (λ zs. zs ++ rest) (map-append parameter_kind ks (k ∷ []))
    ∙ (append_assoc (kinds_listed ks) (parameter_kind k ∷ []) rest
    ∙ (ap (λ c. kinds_listed ks ++ c ∷ rest) q ∙ (sym (ap (λ zs. kinds_listed ks ++ map arg_kind zs) (drop-one xs i d l)) ∙ a)))))

pub all-kinds : (ks : List VarKind) (xs : List GenericArg) (i : ℕ) → KindsTo ks xs i → length xs ≤ i → kinds_listed ks ≡ map arg_kind xs
all-kinds ks xs i a l = sym (append-nil (kinds_listed ks)) ∙ (sym (ap (λ zs. kinds_listed ks ++ map arg_kind zs) (drop-beyond xs i l)) ∙ a)

-- the kinds of trees, by their arguments
pub kinds-are : (ts : List Tree) (xs : List GenericArg) → AreArgs ts xs → kinds_of (trees_of ts xs) ≡ map arg_kind xs
kinds-are ts [] a = refl
kinds-are ts (x ∷ xs) a =
    let k : kind_of (arg_tree ts x).head ≡ arg_kind x = kind-of ts (arg_number x) (arg_kind x) (there-arg x) a.0 in
    let rest = kinds-are ts xs a.1 in
    λ i. k i ∷ rest i

-- arguments with one tree are of one kind
pub same-kind : (ts : List Tree) (x y : GenericArg) (b : Bool) → IsArg ts x → IsArg ts y → IsTrue b ↔ (arg_tree ts x ≡ arg_tree ts y) → b ≡ true → arg_kind x ≡ arg_kind y
same-kind ts x y b i j s f =
    sym (kind-of ts (arg_number x) (arg_kind x) (there-arg x) i)
    ∙ (ap (λ (t : Tree). kind_of t.head) (s.0 (subst IsTrue (sym f) refl)) ∙ kind-of ts (arg_number y) (arg_kind y) (there-arg y) j)
