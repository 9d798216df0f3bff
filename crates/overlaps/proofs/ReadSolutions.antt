-- A substitution of a state's variables and a reading make a substitution of the state with a fresh variable for each open part.
use Rattle.std.proofs.Common.{◌≡◌, ◌≤◌, ℕ, zero, suc, ◌+◌, ◌-◌, ◌||◌, Bool, true, false, List, [], ◌∷◌, length, slice_get, Option, Some, None, refl, sym, ap, subst, ◌∙◌, arith, nat_lt}
use Rattle.std.specs.List.{All}
use Rattle.std.specs.Option.{option_map, unwrap_or}
use Rattle.std.proofs.lemmas.Bool.{and_parts, le-ltb, lt-ltb, ltb-false}
use Rattle.std.proofs.lemmas.List.{length-append}
use Rattle.std.proofs.lemmas.List.Elements.{All-cons, All-head, All-nil, All-tail}
use Rattle.std.proofs.lemmas.Option.{slice_get-map, slice_get_within}
use Rattle.ir_trees.specs.declared.ir.heads.ConstHead.TheVariants as C
use Rattle.ir_trees.specs.declared.ir.heads.Head.{Head}
use Rattle.ir_trees.specs.declared.ir.heads.Head.TheVariants as H
use Rattle.ir_trees.specs.declared.ir.heads.Variable.{Variable}
use Rattle.ir_trees.specs.declared.ir.heads.VariableSort.{VariableSort}
use Rattle.ir_trees.specs.declared.ir.heads.VariableSort.TheVariants as V
use Rattle.ir_trees.specs.Instantiation.Folding.{leaf}
use Rattle.ir_trees.specs.Instantiation.Folds.{node}
use Rattle.ir_trees.specs.Syntax.Trees.{Kind, TypeKind, ConstantKind, RegionKind, Forest, none, Tree, erase, erased_head, holds, is_alias, is_type_kind, kind_of}
use Rattle.ir_trees.specs.Unification.Substitutions.{IsAllowed, IsAllowedBinding, Substitution, Universes, alone, apply, fits_sort, is_constant_kind, is_placeholder_above, is_variable}
use Rattle.candidate_eval.specs.declared.eval.variable.VariableKind.{VariableKind}
use Rattle.candidate_eval.specs.declared.eval.variable.VariableKind.TheVariants.{Term, Region}
use Rattle.candidate_eval.specs.Judges.Alike.{info}
use Rattle.candidate_eval.specs.Judges.Lawful.{is_type_or_constant}
use Rattle.candidate_eval.specs.Judges.Soundness.{IsSolution, Live, is_leaf, is_strange, is_variable_above, universe_in, universes}
use Rattle.candidate_eval.specs.Judges.States.{State, VariableInfo, fresh_info, fresh_variables, has_kind, variable, variable_kind, with_fresh}
use Rattle.candidate_eval.proofs.Marks.Holds.{holds_imply}
use Rattle.candidate_assembly.proofs.Refusals.KnownFresh.{fresh-there, fresher, info-kept, new-universe, old-info, valued-old, wider}
use Rattle.rounds_judge.specs.Aliases.OpenParts.{is_closed_term, is_open_part, has_loose_alias, kinds_of, paired}
use Rattle.rounds_judge.proofs.Aliases.OpenedParts.{AllPairs}
use Rattle.rounds_judge.proofs.States.Later.{has_info, kind_there}
use Rattle.rounds_judge.proofs.States.Marks.{holds_erased}
use Rattle.rounds_judge.proofs.Unifiers.Further.{Choice, chosen, chosen_allowed, instance_low, instance_of, lookup_allowed, lookup_chosen}
use Rattle.rounds_judge.proofs.Unifiers.Solving.{kind_is, value_under}
use Rattle.overlaps.specs.Readings.{IsReading, Reading}
use Rattle.overlaps.proofs.Sides.{AllFresh, IsFresh}
use Rattle.overlaps.proofs.Readings.{open_same, read_closed, read_kind, read_low, read_tree, variable_not_open}
use Rattle.overlaps.proofs.ReadSides.{IsLeafy, IsMapped, not_replaced}

-- Sorts of fresh variables

-- what is of the kind fits a fresh variable for the kind
fits_fresh : (k : Kind) (y : VariableSort) (h : Head) → variable_kind k ≡ Term y → is_type_or_constant k ≡ true → kind_of h ≡ k → fits_sort y h ≡ true
fits_fresh TypeKind y h e t k = let sort : V.General ≡ y = cc in subst (λ z. fits_sort z h ≡ true) sort (ap is_type_kind k)
fits_fresh ConstantKind y h e t k = let sort : V.Constant ≡ y = cc in subst (λ z. fits_sort z h ≡ true) sort (ap is_constant_kind k)
fits_fresh _ y h e t k = absurd cc

-- a fresh variable is of types or of constants, so what is of the kind of a value of it fits it, too
fits_still : (k : Kind) (y : VariableSort) (g h : Head) → variable_kind k ≡ Term y → fits_sort y g ≡ true → kind_of h ≡ kind_of g → fits_sort y h ≡ true
fits_still ConstantKind y g h e f k =
    let sort : V.Constant ≡ y = cc in
    subst (λ z. fits_sort z h ≡ true) sort (ap is_constant_kind k ∙ subst (λ z. fits_sort z g ≡ true) (sym sort) f)
fits_still RegionKind y g h e f k = absurd cc
fits_still _ y g h e f k =
    let sort : V.General ≡ y = cc in
    subst (λ z. fits_sort z h ≡ true) sort (ap is_type_kind k ∙ subst (λ z. fits_sort z g ≡ true) (sym sort) f)

-- a fresh variable for a type or a constant is no region
fresh_sort : (k : Kind) → is_type_or_constant k ≡ true → (y : VariableSort) × (variable_kind k ≡ Term y)
fresh_sort TypeKind e = (V.General, refl)
fresh_sort ConstantKind e = (V.Constant, refl)
fresh_sort _ e = absurd cc

open_is_term : (h : Head) (below : Forest) → is_open_part h below ≡ true → is_type_or_constant (kind_of h) ≡ true
open_is_term h below o = (and_parts (is_type_or_constant (kind_of h)) _ (and_parts (is_closed_term h below) (is_alias h || has_loose_alias below) o).0).0

all_at : {X : Type 0} (P : X → Type 0) (xs : List X) (n : ℕ) (x : X) → slice_get xs n ≡ Some x → All P xs → P x
all_at P [] n x e a = absurd cc
all_at P (y ∷ ys) zero x e a = let same : y ≡ x = cc in subst P same (All-head P y ys a)
all_at P (y ∷ ys) (suc n) x e a = all_at P ys n x e (All-tail P y ys a)

-- what some value of an option is made of
from_some : {A B : Type 0} (f : A → B) (o : Option A) (b : B) → option_map f o ≡ Some b → (a : A) × (o ≡ Some a) × (f a ≡ b)
from_some f None b e = absurd cc
from_some f (Some a) b e = (a, refl, cc)

none_more : (n : ℕ) → n ≡ n + 0
none_more n = omega arith

far_on : (n m j : ℕ) → m ≡ n + j → n ≤ m
far_on n m j e = omega (arith, e)

taken : (n m j : ℕ) → m ≡ n + j → m - n ≡ j
taken n m j e = omega (arith, e)

put_back : (n m : ℕ) → n ≤ m → n + (m - n) ≡ m
put_back n m h = omega (arith, h)

next_place : (n j m r : ℕ) → m ≡ n + j → r ≡ m + 1 → r ≡ n + suc j
next_place n j m r e f = omega (arith, e, f)

shifted : (j m : ℕ) → j + suc m ≡ suc j + m
shifted j m = omega arith

module _ (S : State) (L : Live) (fresh : AllFresh S L) (r : Reading) (reading : IsReading S.newest_universe r) (s : Substitution) (ok : IsAllowed (universes S) s) (ps : List Tree) (leafy : All IsLeafy ps)
    (known : All (λ t. holds (is_strange S L) (alone t) ≡ false) ps) where
  abbrev pub T : State
  T = fresher S (kinds_of ps)

  abbrev pub M : Live
  M = wider S L

  abbrev N : ℕ
  N = length S.variables

  -- what the instance of an open part is read as
  abbrev part_read : Tree → Tree
  part_read t = r (node t.head (apply s t.children))

  -- a variable that counts is mapped to what its value is read as, and a fresh one to what its part is
  abbrev picked : Variable → Bool → Bool → Option Tree
  picked v true true = Some (read_tree r (value_under s v))
  picked v true false = None
  picked v false c = option_map part_read (slice_get ps (v.number - N))

  abbrev choice : Choice
  choice v i = picked v (nat_lt v.number N) (L v.number)

  abbrev pub read_values : Substitution
  read_values = chosen choice 0 T.variables

  pub old_read : (v : Variable) → is_strange S L (H.Infer v) ≡ false → value_under read_values v ≡ read_tree r (value_under s v)
  old_read v k =
      let i = has_info (L v.number) (Term v.sort) (info S v.number) k in
      let kind : i.0.kind ≡ Term v.sort = kind_is i.0 v.sort (sym (ap (has_kind (Term v.sort)) i.1) ∙ kind_there (L v.number) (Term v.sort) (info S v.number) k) in
      let less : nat_lt v.number N ≡ true = lt-ltb v.number N (slice_get_within S.variables v.number i.0 i.1) in
      let o = leaf (H.Infer v) in
      lookup_chosen choice T v i.0 o (info-kept S L (kinds_of ps) v.number i.0 i.1) kind
      ∙ (ap (λ b. unwrap_or (picked v b (L v.number)) o) less ∙ ap (λ c. unwrap_or (picked v true c) o) i.2)

  -- the fresh variable for a part
  fresh_read : (j n : ℕ) (q : Tree) → slice_get ps j ≡ Some q → n ≡ N + j → (y : VariableSort) → variable_kind (kind_of q.head) ≡ Term y
      → value_under read_values (record { sort = y; number = n }) ≡ part_read q
  fresh_read j n q e at y kind =
      let v : Variable = record { sort = y; number = n } in
      let o = leaf (H.Infer v) in
      let listed : slice_get (kinds_of ps) j ≡ Some (kind_of q.head) = slice_get-map (λ (t : Tree). kind_of t.head) ps j ∙ ap (option_map (λ (t : Tree). kind_of t.head)) e in
      let there : info T n ≡ Some (fresh_info S (variable_kind (kind_of q.head))) = ap (info T) at ∙ fresh-there S L (kinds_of ps) j (kind_of q.head) listed in
      let far : nat_lt n N ≡ false = le-ltb n N (far_on N n j at) in
      lookup_chosen choice T v (fresh_info S (variable_kind (kind_of q.head))) o there kind
      ∙ (ap (λ b. unwrap_or (picked v b (L n)) o) far
      ∙ ap (λ x. unwrap_or (option_map part_read x) o) (ap (slice_get ps) (taken N n j at) ∙ e))

  -- each part and its variable, from a place on

  abbrev Mapped : Tree × Tree → Type 0
  Mapped p = IsMapped r s read_values p.0 p.1

  one_mapped : (j n : ℕ) (q : Tree) → slice_get ps j ≡ Some q → n ≡ N + j → IsLeafy q → Mapped (q, variable (variable_kind (kind_of q.head)) n)
  one_mapped j n q e at l = (l.0, by (variable_kind (kind_of q.head)) refl)
    where
      by : (w : VariableKind) → variable_kind (kind_of q.head) ≡ w → instance_of read_values (variable w n) ≡ part_read q
      by (Term y) f = fresh_read j n q e at y f
      by Region f = let z = fresh_sort (kind_of q.head) (open_is_term q.head q.children l.0) in absurd (let clash : Region ≡ Term z.0 = sym f ∙ z.1 in cc)

  mapped_from : (qs : List Tree) (R : State) (j : ℕ) → length R.variables ≡ N + j → ((m : ℕ) → slice_get ps (j + m) ≡ slice_get qs m) → All IsLeafy qs → AllPairs (IsMapped r s read_values) (paired qs (fresh_variables R (kinds_of qs)))
  mapped_from [] R j at same l = All-nil Mapped
  mapped_from (q ∷ qs) R j at same l =
      let k = variable_kind (kind_of q.head) in
      let U = with_fresh R k in
      All-cons Mapped (q, variable k (length R.variables)) (paired qs (fresh_variables U (kinds_of qs)))
      (one_mapped j (length R.variables) q (ap (slice_get ps) (none_more j) ∙ same 0) at (All-head IsLeafy q qs l))
      (mapped_from qs U (suc j) (next_place N j (length R.variables) (length U.variables) at (length-append R.variables (fresh_info R k ∷ [])))
      (λ m. ap (slice_get ps) (sym (shifted j m)) ∙ same (suc m)) (All-tail IsLeafy q qs l))

  pub all_mapped : AllPairs (IsMapped r s read_values) (paired ps (fresh_variables S (kinds_of ps)))
  all_mapped = mapped_from ps S 0 (none_more N) (λ m. ap (slice_get ps) (none_first m)) leafy
    where
      none_first : (m : ℕ) → 0 + m ≡ m
      none_first m = omega arith

  -- It is allowed.

  old_allowed : (universe : Universes) (v : Variable) (i : VariableInfo) → universe v ≡ S.newest_universe → universes S v ≡ S.newest_universe → i.kind ≡ Term v.sort → IsFresh S i
      → IsAllowedBinding universe (record { variable = v; value = read_tree r (value_under s v) })
  old_allowed universe v i here before kind f =
      let x = lookup_allowed (universes S) s ok v in
      let t = value_under s v in
      record {
        fits = fits_still f.of v.sort t.head (read_tree r t).head (sym f.kind ∙ kind) x.fits (read_kind S.newest_universe r reading t);
        is_closed = read_closed S.newest_universe r reading 0 (alone t) x.is_closed;
        in_universe = subst (λ n. holds (is_placeholder_above n) (erase (alone (read_tree r t))) ≡ false) (sym here)
            (read_low S.newest_universe r reading (alone t) (subst (λ n. holds (is_placeholder_above n) (erase (alone t)) ≡ false) before x.in_universe));
      }

  -- In the instance of a part no placeholder of a universe above the state's is, since the part is the state's.

  known_low : (h : Head) → is_strange S L h ≡ false → is_placeholder_above S.newest_universe (erased_head h) ≡ false
  known_low (H.Placeholder p) e = e
  known_low (H.Const (C.Placeholder p)) e = e
  known_low _ e = refl

  known_no_higher : (h : Head) → is_strange S L h ≡ false → is_variable_above (universes S) S.newest_universe (erased_head h) ≡ false
  known_no_higher (H.Infer v) e =
      let i = has_info (L v.number) (Term v.sort) (info S v.number) e in
      let u : universes S v ≡ S.newest_universe = ap universe_in i.1 ∙ (fresh v.number i.0 i.2 i.1).universe in
      ap (nat_lt S.newest_universe) u ∙ le-ltb S.newest_universe S.newest_universe (omega arith)
  known_no_higher _ e = refl

  -- an open part is no variable
  open_no_variable : (h : Head) (below : Forest) → (is_leaf h ≡ true → below ≡ none) → is_open_part h below ≡ true → is_variable h ≡ false
  open_no_variable (H.Infer v) below single o =
      let shut : is_open_part (H.Infer v) none ≡ true = subst (λ b. is_open_part (H.Infer v) b ≡ true) (single refl) o in
      absurd (let clash : true ≡ false = sym shut ∙ variable_not_open v in cc)
  open_no_variable _ below single o = refl

  part_low : (q : Tree) → IsLeafy q → holds (is_strange S L) (alone q) ≡ false → holds (is_placeholder_above S.newest_universe) (erase (alone (node q.head (apply s q.children)))) ≡ false
  part_low q l k =
      let n = S.newest_universe in
      ap (λ (t : Tree). holds (is_placeholder_above n) (erase (alone t))) (sym (not_replaced s q.head (apply s q.children) (open_no_variable q.head q.children l.1.0 l.0)))
      ∙ instance_low (universes S) s ok n (alone q) (holds_erased (is_placeholder_above n) (alone q) ∙ holds_imply (is_strange S L) (λ h. is_placeholder_above n (erased_head h)) known_low (alone q) k)
      (holds_erased (is_variable_above (universes S) n) (alone q) ∙ holds_imply (is_strange S L) (λ h. is_variable_above (universes S) n (erased_head h)) known_no_higher (alone q) k)

  part_allowed : (universe : Universes) (v : Variable) (q : Tree) → universe v ≡ S.newest_universe → variable_kind (kind_of q.head) ≡ Term v.sort → IsLeafy q → holds (is_strange S L) (alone q) ≡ false
      → IsAllowedBinding universe (record { variable = v; value = part_read q })
  part_allowed universe v q here kind l k =
      let open_there : is_open_part q.head (apply s q.children) ≡ true = open_same (universes S) s ok q.head q.children l.1.1 ∙ l.0 in
      record {
        fits = fits_fresh (kind_of q.head) v.sort (part_read q).head kind (open_is_term q.head q.children l.0) (reading.kind q.head (apply s q.children) open_there);
        is_closed = reading.is_closed q.head (apply s q.children) open_there;
        in_universe = subst (λ n. holds (is_placeholder_above n) (erase (alone (part_read q))) ≡ false) (sym here) (reading.in_universe q.head (apply s q.children) open_there (part_low q l k));
      }

  -- a part's variable is of its kind
  part_kind : (v : Variable) (i : VariableInfo) (q : Tree) → info T v.number ≡ Some i → i.kind ≡ Term v.sort → N ≤ v.number → slice_get ps (v.number - N) ≡ Some q → variable_kind (kind_of q.head) ≡ Term v.sort
  part_kind v i q there kind far e =
      let j = v.number - N in
      let listed : slice_get (kinds_of ps) j ≡ Some (kind_of q.head) = slice_get-map (λ (t : Tree). kind_of t.head) ps j ∙ ap (option_map (λ (t : Tree). kind_of t.head)) e in
      let is : Some (fresh_info S (variable_kind (kind_of q.head))) ≡ Some i = sym (fresh-there S L (kinds_of ps) j (kind_of q.head) listed) ∙ (ap (info T) (put_back N v.number far) ∙ there) in
      let same : fresh_info S (variable_kind (kind_of q.head)) ≡ i = cc in
      ap (λ (x : VariableInfo). x.kind) same ∙ kind

  picked_allowed : (v : Variable) (i : VariableInfo) (t : Tree) → info T v.number ≡ Some i → i.kind ≡ Term v.sort → (b c : Bool) → nat_lt v.number N ≡ b → L v.number ≡ c → picked v b c ≡ Some t
      → IsAllowedBinding (universes T) (record { variable = v; value = t })
  picked_allowed v i t there kind true true less c e =
      let is : read_tree r (value_under s v) ≡ t = cc in
      let before = old-info S L (kinds_of ps) v.number i there less in
      let f = fresh v.number i c before in
      subst (λ x. IsAllowedBinding (universes T) (record { variable = v; value = x })) is
      (old_allowed (universes T) v i (ap universe_in there ∙ f.universe) (ap universe_in before ∙ f.universe) kind f)
  picked_allowed v i t there kind true false less c e = absurd cc
  picked_allowed v i t there kind false c less d e =
      let q = from_some part_read (slice_get ps (v.number - N)) t e in
      subst (λ x. IsAllowedBinding (universes T) (record { variable = v; value = x })) q.2
      (part_allowed (universes T) v q.0 (ap universe_in there ∙ new-universe S L (kinds_of ps) v.number i there less) (part_kind v i q.0 there kind (ltb-false v.number N less) q.1) (all_at IsLeafy ps (v.number - N) q.0 q.1 leafy)
      (all_at (λ t. holds (is_strange S L) (alone t) ≡ false) ps (v.number - N) q.0 q.1 known))

  read_allowed : IsAllowed (universes T) read_values
  read_allowed = chosen_allowed choice (universes T) T (λ i v t there kind e. picked_allowed v i t there kind (nat_lt v.number N) (L v.number) refl refl e)

  -- It is a solution, since nothing that counts has a value.
  pub read_solution : IsSolution T M read_values
  read_solution = record {
    allowed = read_allowed;
    extends = λ v i t c there kind value.
        let old = valued-old S L (kinds_of ps) v.number i t c there value in
        absurd (let clash : None ≡ Some t = sym (fresh v.number i old.0 old.1).value ∙ value in cc);
  }
