-- Refused equations in which aliases may be open have no solution, whatever types their aliases are read as.
use Rattle.std.proofs.Common.{◌≡◌, ℕ, ◌+◌, Bool, true, false, ◌&&◌, ◌⊎◌, inl, inr, List, [], ◌∷◌, length, Option, Some, None, refl, sym, ap, subst, ◌∙◌, arith, if◌then◌else◌}
use Rattle.std.specs.List.{All}
use Rattle.std.proofs.lemmas.List.Elements.{All-cons, All-head, All-nil, All-tail, All-weaker}
use Rattle.ir_trees.specs.declared.ir.heads.Head.{Head}
use Rattle.ir_trees.specs.declared.ir.heads.Head.TheVariants as H
use Rattle.ir_trees.specs.declared.ir.kinds.RegionKind.TheVariants as R
use Rattle.ir_trees.specs.Syntax.Binders.{escapes}
use Rattle.ir_trees.specs.Syntax.Trees.{Kind, Forest, none, Tree, erase, holds, is_alias, kind_of}
use Rattle.ir_trees.specs.Unification.Substitutions.{Substitution, alone, apply}
use Rattle.ir_trees.proofs.Instantiation.Folding.{fold-nothing}
use Rattle.candidate_eval.specs.declared.eval.variable.VariableKind.{VariableKind}
use Rattle.candidate_eval.specs.declared.eval.variable.VariableKind.TheVariants.{Term, Region}
use Rattle.candidate_eval.specs.Judges.Alike.{info}
use Rattle.candidate_eval.specs.Judges.Lawful.{AreSides, HasNoAlias}
use Rattle.candidate_eval.specs.Judges.Soundness.{AreLeaves, AreTreesOf, IsSolution, IsSound, Live, ValuesFit, has_value, is_strange}
use Rattle.candidate_eval.specs.Judges.States.{Env, Pending, State, VariableInfo, fresh_variables, is_some, next, resolved, value_at, variable, variable_kind, with_fresh, with_fresh_variables}
use Rattle.candidate_eval.proofs.Marks.Holds.{holds_imply, or_false}
use Rattle.candidate_assembly.proofs.Refusals.KnownFresh.{counts-fresh, fits-still, fresh-all, fresh-there, fresher, known-still, sound-still, trees-still, valued-old, wider}
use Rattle.candidate_assembly.proofs.Refusals.KnownHeaders.{fresh-closed, fresh-unmarked, strange-fresh}
use Rattle.rounds_judge.specs.Aliases.Listed.{Listing, listed, listed_in}
use Rattle.rounds_judge.specs.Aliases.OpenParts.{all_to_be, kinds_of, opened, paired, with_parts}
use Rattle.rounds_judge.specs.Equations.Equating.{equated, without_goals}
use Rattle.rounds_judge.specs.Equations.Opening.{are_open, equated_openly, equation, has_alias, readied}
use Rattle.rounds_judge.specs.Equations.Standing.{IsListed, IsListing}
use Rattle.rounds_judge.proofs.Aliases.OpenedParts.{AllPairs, AreClosed, AreFree, opened_closed, opened_unmarked, pair_found, pairs_closed, pairs_unmarked, parts_closed, parts_unmarked}
use Rattle.rounds_judge.proofs.Lawfulness.OpenEquations.{readied_trees}
use Rattle.rounds_judge.proofs.States.Later.{has_info, resolved_stays, value_there}
use Rattle.rounds_judge.proofs.Unifiers.Solutions.{unequated_unsolved}
use Rattle.overlaps.specs.Readings.{IsReading, Reading, read}
use Rattle.overlaps.proofs.Sides.{AllFresh, IsSide, OpenSides}
use Rattle.overlaps.proofs.ReadSides.{AllAmong, IsFreed, IsLeafy, LeafyValue, all_among, all_found, among_within, no_alias_among, parts_leafy, parts_within, placed_leaves, placed_no_alias, placed_read}
use Rattle.overlaps.proofs.ReadSolutions.{all_mapped, old_read, read_solution, read_values}

-- Where only fresh variables count, no value is there, so all that is asked of values holds.

module _ (S : State) (L : Live) (fresh : AllFresh S L) where
  pub no_value_there : {A : Type 0} → (n : ℕ) (i : VariableInfo) (t : Tree) → L n ≡ true → info S n ≡ Some i → i.value ≡ Some t → A
  no_value_there n i t c e v = absurd (let clash : None ≡ Some t = sym (fresh n i c e).value ∙ v in cc)

  pub sound_fresh : IsSound S L
  sound_fresh = record {
    allowed = λ s n i t c e v k. no_value_there n i t c e v;
    no_higher = λ n i t c e v. no_value_there n i t c e v;
    is_resolved = λ n i t c e v. no_value_there n i t c e v;
    known = λ n i t c e v. no_value_there n i t c e v;
    universes = λ n i c e. let u = (fresh n i c e).universe in omega (arith, u);
  }

  pub fits_fresh : ValuesFit S L
  fits_fresh n c = record { kind = λ i t e v. no_value_there n i t c e v; is_closed = λ i t e v. no_value_there n i t c e v }

abbrev pub HaveNoValue : State → Live → Type 0
HaveNoValue S L = (n : ℕ) (i : VariableInfo) (t : Tree) → L n ≡ true → info S n ≡ Some i → i.value ≡ Some t → ⊥

unvalued : (S : State) (L : Live) → HaveNoValue S L → (h : Head) → is_strange S L h ≡ false → has_value S h ≡ false
unvalued S L free (H.Infer v) e = at (value_at S (H.Infer v)) refl
  where
    at : (o : Option Tree) → value_at S (H.Infer v) ≡ o → is_some o ≡ false
    at None f = refl
    at (Some t) f = let i = has_info (L v.number) (Term v.sort) (info S v.number) e in absurd (free v.number i.0 t i.2 i.1 (value_there S (Term v.sort) v.number i.0 t i.1 f))
unvalued S L free (H.Region (R.Var n)) e = at (value_at S (H.Region (R.Var n))) refl
  where
    at : (o : Option Tree) → value_at S (H.Region (R.Var n)) ≡ o → is_some o ≡ false
    at None f = refl
    at (Some t) f = let i = has_info (L n) Region (info S n) e in absurd (free n i.0 t i.2 i.1 (value_there S Region n i.0 t i.1 f))
unvalued S L free _ e = refl

-- so putting values in does nothing
pub nothing_resolved : (S : State) (L : Live) → HaveNoValue S L → (ts : Forest) → holds (is_strange S L) ts ≡ false → resolved S ts ≡ ts
nothing_resolved S L free ts k = resolved_stays S ts (holds_imply (is_strange S L) (has_value S) (unvalued S L free) ts k)

-- Fresh variables and the parts that they are paired with

variable_leaves : (w : VariableKind) (n : ℕ) → AreLeaves (alone (variable w n))
variable_leaves (Term s) n = ((λ e. refl), tt, tt)
variable_leaves Region n = ((λ e. refl), tt, tt)

variable_no_alias : (w : VariableKind) (n : ℕ) → holds is_alias (alone (variable w n)) ≡ false
variable_no_alias (Term s) n = refl
variable_no_alias Region n = refl

pairs_leaves : (qs : List Tree) (R : State) → AllPairs LeafyValue (paired qs (fresh_variables R (kinds_of qs)))
pairs_leaves [] R = All-nil (λ (p : Tree × Tree). LeafyValue p.0 p.1)
pairs_leaves (q ∷ qs) R =
    let k = variable_kind (kind_of q.head) in
    All-cons (λ (p : Tree × Tree). LeafyValue p.0 p.1) (q, variable k (length R.variables)) (paired qs (fresh_variables (with_fresh R k) (kinds_of qs)))
    (variable_leaves k (length R.variables)) (pairs_leaves qs (with_fresh R k))

pairs_no_alias : (qs : List Tree) (R : State) → All IsLeafy qs → AllPairs IsFreed (paired qs (fresh_variables R (kinds_of qs)))
pairs_no_alias [] R a = All-nil (λ (p : Tree × Tree). IsFreed p.0 p.1)
pairs_no_alias (q ∷ qs) R a =
    let k = variable_kind (kind_of q.head) in
    All-cons (λ (p : Tree × Tree). IsFreed p.0 p.1) (q, variable k (length R.variables)) (paired qs (fresh_variables (with_fresh R k) (kinds_of qs)))
    ((All-head IsLeafy q qs a).0, variable_no_alias k (length R.variables)) (pairs_no_alias qs (with_fresh R k) (All-tail IsLeafy q qs a))

-- Sides whose open parts are among some parts
module _ (l : Listing) (listing : IsListing l) (S : State) (L : Live) (fresh : AllFresh S L) (ps : List Tree) (leafy : All IsLeafy ps) (known : All (λ t. holds (is_strange S L) (alone t) ≡ false) ps)
    (shut : All (λ t. escapes 0 (alone t) ≡ false) ps) where
  abbrev ks : List Kind
  ks = kinds_of ps

  abbrev vs : Forest
  vs = fresh_variables S ks

  abbrev pairs : List (Tree × Tree)
  pairs = paired ps vs

  abbrev T : State
  T = fresher S ks

  abbrev M : Live
  M = wider S L

  variables_known : holds (is_strange T M) vs ≡ false
  variables_known = fresh-unmarked (is_strange T M) S ks (λ j k e. strange-fresh S L ks none refl (variable_kind k) (length S.variables + j) (fresh-there S L ks j k e) (counts-fresh S L ks j))

  pairs_known : AllPairs (AreFree (is_strange T M)) pairs
  pairs_known = pairs_unmarked (is_strange T M) ps vs (All-weaker (λ t. holds (is_strange S L) (alone t) ≡ false) (λ t. holds (is_strange T M) (alone t) ≡ false) (λ t k. known-still S L ks (alone t) k) ps known) variables_known

  pairs_shut : AllPairs AreClosed pairs
  pairs_shut = pairs_closed ps vs shut (fresh-closed S ks)

  -- nothing that counts has a value
  none_after : HaveNoValue T M
  none_after n i t c e v = let old = valued-old S L ks n i t c e v in no_value_there S L fresh n i t old.0 old.1 v

  opened_trees : (ts : Forest) → AreTreesOf S L ts → AreTreesOf T M (opened pairs ts)
  opened_trees ts k = record {
    known = opened_unmarked (is_strange T M) pairs ts pairs_known (trees-still S L ks ts k).known;
    is_closed = opened_closed pairs ts pairs_shut k.is_closed;
  }

  opened_no_alias : (ts : Forest) → IsSide S L ts → AllAmong ps ts → HasNoAlias T (opened pairs ts)
  opened_no_alias ts k a =
      ap (holds is_alias) (nothing_resolved T M none_after (opened pairs ts) (opened_trees ts k.trees).known)
      ∙ placed_no_alias pairs (pairs_no_alias ps S leafy) 0 ts (all_found ps vs ts a) k.not_loose

  module _ (A B : Forest) (left : IsSide S L A) (right : IsSide S L B) (left_among : AllAmong ps A) (right_among : AllAmong ps B) where
    opened_sides : AreSides T M (opened pairs A) (opened pairs B)
    opened_sides = record {
      sound = sound-still S L ks (sound_fresh S L fresh);
      fits = fits-still S L ks (fits_fresh S L fresh);
      left = opened_trees A left.trees;
      right = opened_trees B right.trees;
      left_has_no_alias = opened_no_alias A left left_among;
      right_has_no_alias = opened_no_alias B right right_among;
      left_has_leaves = placed_leaves pairs (pairs_leaves ps S) 0 A left.leaves;
      right_has_leaves = placed_leaves pairs (pairs_leaves ps S) 0 B right.leaves;
      values_have_leaves = λ n i t c e v. absurd (none_after n i t c e v);
    }

    module _ (r : Reading) (reading : IsReading S.newest_universe r) (s : Substitution) (solution : IsSolution S L s) where
      abbrev z : Substitution
      z = read_values S L fresh r reading s solution.allowed ps leafy known

      -- what the substitution makes of an opened side is what the side is read as
      side_read : (ts : Forest) → IsSide S L ts → AllAmong ps ts → apply z (opened pairs ts) ≡ read r (apply s ts)
      side_read ts k a =
          placed_read _ s solution.allowed r z (is_strange S L) pairs (all_mapped S L fresh r reading s solution.allowed ps leafy known) (old_read S L fresh r reading s solution.allowed ps leafy known)
          0 0 ts k.leaves k.trees.known (all_found ps vs ts a)

      pub parts_unsolved : equated l (with_fresh_variables S ks) (opened pairs A) (opened pairs B) ≡ None → erase (read r (apply s A)) ≡ erase (read r (apply s B)) → ⊥
      parts_unsolved answer equal =
          unequated_unsolved l listing T M (opened pairs A) (opened pairs B) opened_sides (subst (λ (U : State). equated l U (opened pairs A) (opened pairs B) ≡ None) (fresh-all S ks) answer) z
          (record {
            solution = read_solution S L fresh r reading s solution.allowed ps leafy known;
            equal = ap erase (side_read A left left_among) ∙ (equal ∙ sym (ap erase (side_read B right right_among)));
          })

-- An equation whose aliases are open

no_state : {A : Type 0} (o : Option State) (x : A) → next {B = A × State} o (λ T. Some (x, T)) ≡ None → o ≡ None
no_state None x e = refl
no_state (Some T) x e = absurd cc

module _ (l : Listing) (listing : IsListing l) (S : State) (L : Live) (a b : Forest) (sides : OpenSides l S L a b) where
  abbrev A : Forest
  A = readied l S a

  abbrev B : Forest
  B = readied l S b

  sound : IsSound S L
  sound = sound_fresh S L sides.fresh

  fits : ValuesFit S L
  fits = fits_fresh S L sides.fresh

  left_side : IsSide S L A
  left_side = record { trees = readied_trees l listing L S sound a fits sides.left; leaves = sides.left_has_leaves; not_loose = sides.left_not_loose }

  right_side : IsSide S L B
  right_side = record { trees = readied_trees l listing L S sound b fits sides.right; leaves = sides.right_has_leaves; not_loose = sides.right_not_loose }

  module _ (e : Env) (r : Reading) (reading : IsReading S.newest_universe r) (s : Substitution) (solution : IsSolution S L s) (equal : erase (read r (apply s (readied l S a))) ≡ erase (read r (apply s (readied l S b)))) where
    open_unsolved : equated_openly l S e a b ≡ None → ⊥
    open_unsolved answer =
        parts_unsolved l listing S L sides.fresh ps
        (parts_leafy first B (parts_leafy [] A (All-nil IsLeafy) sides.left_has_leaves) sides.right_has_leaves)
        (parts_unmarked (is_strange S L) first B (parts_unmarked (is_strange S L) [] A (All-nil (λ t. holds (is_strange S L) (alone t) ≡ false)) left_side.trees.known) right_side.trees.known)
        (parts_closed first B (parts_closed [] A (All-nil (λ t. escapes 0 (alone t) ≡ false))))
        A B left_side right_side (among_within first ps (parts_within first B) A (all_among [] A)) (all_among first B) r reading s solution
        (no_state (equated l (with_fresh_variables S (kinds_of ps)) (opened pairs A) (opened pairs B)) (all_to_be e pairs) answer) equal
      where
        first : List Tree
        first = with_parts [] A

        ps : List Tree
        ps = with_parts first B

        pairs : List (Tree × Tree)
        pairs = paired ps (fresh_variables S (kinds_of ps))

-- Sides without aliases

-- what is listed is an alias
listed_alias : (l : Listing) → IsListing l → (t u : Tree) → listed l t ≡ Some u → is_alias t.head ≡ true
listed_alias l listing t u e =
    pair_found (λ t u. is_alias t.head ≡ true) l.pairs t u e (All-weaker IsListed (λ (p : Tree × Tree). is_alias p.0.head ≡ true) (λ (p : Tree × Tree) k. k.is_alias) l.pairs listing)

not_listed : (l : Listing) → IsListing l → (t : Tree) → is_alias t.head ≡ false → listed l t ≡ None
not_listed l listing t m = at (listed l t) refl
  where
    at : (o : Option Tree) → listed l t ≡ o → o ≡ None
    at None e = refl
    at (Some u) e = absurd (let clash : true ≡ false = sym (listed_alias l listing t u e) ∙ m in cc)

-- nothing is put in
readied_plain : (l : Listing) → IsListing l → (S : State) (L : Live) → AllFresh S L → (ts : Forest) → holds (is_strange S L) ts ≡ false → holds is_alias (resolved S ts) ≡ false → readied l S ts ≡ ts
readied_plain l listing S L fresh ts k m =
    fold-nothing (λ d u. listed l u) is_alias (λ d t e. not_listed l listing t e) 0 (resolved S ts) m
    ∙ nothing_resolved S L (λ n i t c e v. no_value_there S L fresh n i t c e v) ts k

nothing_opened : (ts : Forest) → holds is_alias ts ≡ false → opened [] ts ≡ ts
nothing_opened ts m = fold-nothing (λ d u. listed_in [] u) is_alias (λ d t e. refl) 0 ts m

module _ (l : Listing) (listing : IsListing l) (S : State) (L : Live) (a b : Forest) (sides : OpenSides l S L a b) (r : Reading) (reading : IsReading S.newest_universe r) (s : Substitution) (solution : IsSolution S L s)
    (equal : erase (read r (apply s (readied l S a))) ≡ erase (read r (apply s (readied l S b)))) where
  plain_unsolved : has_alias S a b ≡ false → equated l S a b ≡ None → ⊥
  plain_unsolved plain answer =
      let p = or_false (holds is_alias (resolved S a)) (holds is_alias (resolved S b)) plain in
      let left_is = readied_plain l listing S L sides.fresh a sides.left.known p.0 in
      let right_is = readied_plain l listing S L sides.fresh b sides.right.known p.1 in
      let left_plain : holds is_alias (readied l S a) ≡ false = ap (holds is_alias) (left_is ∙ sym (nothing_resolved S L free a sides.left.known)) ∙ p.0 in
      let right_plain : holds is_alias (readied l S b) ≡ false = ap (holds is_alias) (right_is ∙ sym (nothing_resolved S L free b sides.right.known)) ∙ p.1 in
      parts_unsolved l listing S L sides.fresh [] (All-nil IsLeafy) (All-nil (λ t. holds (is_strange S L) (alone t) ≡ false)) (All-nil (λ t. escapes 0 (alone t) ≡ false))
      (readied l S a) (readied l S b) (left_side l listing S L a b sides) (right_side l listing S L a b sides) (no_alias_among [] (readied l S a) left_plain) (no_alias_among [] (readied l S b) right_plain)
      r reading s solution
      (ap (λ x. equated l S x (opened [] (readied l S b))) (nothing_opened (readied l S a) left_plain ∙ left_is) ∙ (ap (equated l S a) (nothing_opened (readied l S b) right_plain ∙ right_is) ∙ answer)) equal
    where
      free : HaveNoValue S L
      free n i t c e v = no_value_there S L sides.fresh n i t c e v

no_answer : (o : Option State) → without_goals o ≡ None → o ≡ None
no_answer None e = refl
no_answer (Some T) e = absurd cc

-- Any equation, where aliases are open or neither side has one

abbrev equation_if : Bool → Listing → State → Env → Forest → Forest → Option (List Pending × State)
equation_if o l S e a b = if o then equated_openly l S e a b else without_goals (equated l S a b)

-- If an equation with open aliases is refused, no substitution and no reading makes the sides equal.
pub openly-unsolved : (l : Listing) → IsListing l → (S : State) (L : Live) (e : Env) (a b : Forest) → OpenSides l S L a b → equated_openly l S e a b ≡ None
    → (r : Reading) → IsReading S.newest_universe r → (s : Substitution) → IsSolution S L s → erase (read r (apply s (readied l S a))) ≡ erase (read r (apply s (readied l S b))) → ⊥
openly-unsolved l listing S L e a b sides answer r reading s solution equal = open_unsolved l listing S L a b sides e r reading s solution equal answer

-- nor if a rigid one of sides without aliases is
pub plainly-unsolved : (l : Listing) → IsListing l → (S : State) (L : Live) (a b : Forest) → OpenSides l S L a b → has_alias S a b ≡ false → equated l S a b ≡ None
    → (r : Reading) → IsReading S.newest_universe r → (s : Substitution) → IsSolution S L s → erase (read r (apply s (readied l S a))) ≡ erase (read r (apply s (readied l S b))) → ⊥
plainly-unsolved l listing S L a b sides plain answer r reading s solution equal = plain_unsolved l listing S L a b sides r reading s solution equal plain answer

pub equation-unsolved : (l : Listing) → IsListing l → (S : State) (L : Live) (e : Env) (a b : Forest) → OpenSides l S L a b → (are_open l S ≡ true) ⊎ (has_alias S a b ≡ false) → equation l S e a b ≡ None
    → (r : Reading) → IsReading S.newest_universe r → (s : Substitution) → IsSolution S L s → erase (read r (apply s (readied l S a))) ≡ erase (read r (apply s (readied l S b))) → ⊥
equation-unsolved l listing S L e a b sides which answer r reading s solution equal = at (has_alias S a b) refl
  where
    openly : are_open l S ≡ true → has_alias S a b ≡ true → ⊥
    openly o h =
        openly-unsolved l listing S L e a b sides (sym (ap (λ x. equation_if x l S e a b) (ap (λ x. x && has_alias S a b) o ∙ h)) ∙ answer) r reading s solution equal

    and_false : (o : Bool) → o && false ≡ false
    and_false true = refl
    and_false false = refl

    plainly : has_alias S a b ≡ false → ⊥
    plainly h =
        plainly-unsolved l listing S L a b sides h
        (no_answer (equated l S a b) (sym (ap (λ x. equation_if x l S e a b) (ap (λ x. are_open l S && x) h ∙ and_false (are_open l S))) ∙ answer)) r reading s solution equal

    either : (are_open l S ≡ true) ⊎ (has_alias S a b ≡ false) → has_alias S a b ≡ true → ⊥
    either (inl o) h = openly o h
    either (inr p) h = let clash : true ≡ false = sym h ∙ p in cc

    at : (x : Bool) → has_alias S a b ≡ x → ⊥
    at true h = either which h
    at false h = plainly h
