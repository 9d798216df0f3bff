-- What a Yes gives leads on.
use Rattle.std.proofs.Common.{◌≡◌, ◌≤◌, ℕ, zero, suc, ◌-◌, Bool, true, false, not, ◌&&◌, nat_lt, List, [], ◌∷◌, ◌++◌, slice_get, slice_index_or, map, Option, Some, None, arith, refl, sym, ap, subst, ◌∙◌, if◌then◌else◌}
use Rattle.std.proofs.lemmas.Bool.{and_parts, not-true, le-ltb, ltb-false}
use Rattle.ir_trees.specs.declared.ir.heads.ConstHead.TheVariants as C
use Rattle.ir_trees.specs.declared.ir.heads.Head.{Head}
use Rattle.ir_trees.specs.declared.ir.heads.Head.TheVariants as H
use Rattle.ir_trees.specs.declared.ir.heads.Variable.{Variable}
use Rattle.ir_trees.specs.declared.ir.kinds.Placeholder.{Placeholder}
use Rattle.ir_trees.specs.declared.ir.kinds.RegionKind.TheVariants as R
use Rattle.ir_trees.specs.Instantiation.Folding.{leaf}
use Rattle.ir_trees.specs.Syntax.Binders.{escapes}
use Rattle.ir_trees.specs.Unification.Substitutions.{alone}
use Rattle.ir_trees.specs.Syntax.Trees.{Forest, none, tree, Tree, holds, is_number}
use Rattle.ir_trees.proofs.Unification.Instances.{same_sort_is}
use Rattle.candidate_eval.specs.contracts.eval.variable.CanonicalVarPartialEq.TheImpl as variable
use Rattle.candidate_eval.specs.declared.eval.variable.CanonicalVar.{CanonicalVar}
use Rattle.candidate_eval.specs.declared.eval.variable.VariableKind.{VariableKind}
use Rattle.candidate_eval.specs.declared.eval.variable.VariableKind.TheVariants.{Term, Region}
use Rattle.candidate_eval.specs.Judges.Alike.{info}
use Rattle.candidate_eval.specs.Outcomes.Responses.{Response}
use Rattle.candidate_eval.specs.Judges.Soundness.{Live, IsSound, ValuesFit, AreTreesOf, is_strange}
use Rattle.candidate_eval.specs.Judges.States.{State, Values, valued, valued_tree, has_kind, next}
use Rattle.candidate_eval.specs.Judges.States as states
use Rattle.rounds_judge.specs.Equations.Binding.{numbered}
use Rattle.rounds_judge.specs.Equations.Equating.{equated}
use Rattle.rounds_judge.specs.Table.GoalTable.{left_by, is_foreign, may_be_given}
use Rattle.rounds_judge.specs.Table.Keys.{Key, newest_of, root_of}
use Rattle.rounds_judge.specs.Aliases.Listed.{Listing}
use Rattle.rounds_judge.specs.Equations.Standing.{IsListing}
use Rattle.rounds_judge.specs.Table.TableSettling.{Lift, own_variable, greatest_said, lift_to, lifted, lifted_leaf, translation, variables_row, ready_for, given}
use Rattle.rounds_judge.proofs.States.Bound.{same_sort_itself}
use Rattle.rounds_judge.proofs.States.Later.{counted, fits_later}
use Rattle.rounds_judge.proofs.Equations.Looks.{SoundLater, regions_keep}
use Rattle.rounds_judge.proofs.States.Marks.{whole, fold_marked, fold_closed}
use Rattle.rounds_judge.proofs.Obligations.Settling.{lead_along, lead_equated}
use Rattle.rounds_judge.proofs.Table.TableFresh.{IsNumberOf, AreNumbersOf, AreOwn, CountsNew, lead_ready, ready_numbers, numbers_later}
use Rattle.rounds_judge.proofs.Table.TableKeys.{variable_is}

-- The goal's own variables are of the kinds of those that are left open.

both : (a b : Bool) → (a && b) ≡ true → (a ≡ true) × (b ≡ true)
both a b e = and_parts a b e

module _ (S : State) (L : Live) where
  own_is : (vs : List CanonicalVar) (ns : List ℕ) (ts : Forest) (j : ℕ) (c : CanonicalVar) → AreNumbersOf S L vs ns → (n : ℕ) → own_variable vs ns ts j c ≡ Some n → IsNumberOf S L c.kind n
  own_is (v ∷ vs) (m ∷ ms) (tree h below rest) j c a n e =
      at (is_number j h && variable.eq-value.it v c) refl (λ f. own_is vs ms rest j c a.1 n f) e
    where
      at : (b : Bool) → (is_number j h && variable.eq-value.it v c) ≡ b → (own_variable vs ms rest j c ≡ Some n → IsNumberOf S L c.kind n)
          → (if b then Some m else own_variable vs ms rest j c) ≡ Some n → IsNumberOf S L c.kind n
      at true f ih e =
          let is : v ≡ c = variable_is v c (both (is_number j h) (variable.eq-value.it v c) f).1 in
          subst (IsNumberOf S L c.kind) (let same : m ≡ n = cc in same) (subst (λ k. IsNumberOf S L k m) (ap (λ (x : CanonicalVar). x.kind) is) a.0)
      at false f ih e = ih e
  own_is [] [] ts j c a n e = cc
  own_is (v ∷ vs) (m ∷ ms) none j c a n e = cc
  own_is [] (m ∷ ms) ts j c a n e = absurd a
  own_is (v ∷ vs) [] ts j c a n e = absurd a

  pub all_own : (vs : List CanonicalVar) (ns : List ℕ) (ts : Forest) → AreNumbersOf S L vs ns → (j : ℕ) (cs : List CanonicalVar) → AreOwn S L cs (numbered (own_variable vs ns ts) j cs)
  all_own vs ns ts a j [] = tt
  all_own vs ns ts a j (c ∷ cs) = at (own_variable vs ns ts j c) refl (all_own vs ns ts a (suc j) cs)
    where
      at : (o : Option ℕ) → own_variable vs ns ts j c ≡ o → AreOwn S L cs (numbered (own_variable vs ns ts) (suc j) cs) → AreOwn S L (c ∷ cs) (o ∷ numbered (own_variable vs ns ts) (suc j) cs)
      at None e more = more
      at (Some n) e more = (own_is vs ns ts j c a n e, more)

-- Trees of such variables are trees of the state.

module _ (T : State) (L : Live) where
  pub number_known : (k : VariableKind) (n : ℕ) → IsNumberOf T L k n → not (L n && has_kind k (info T n)) ≡ false
  number_known k n x = counted (L n) (has_kind k (info T n)) x.live (ap (has_kind k) x.there ∙ subst (λ i. states.same_kind i k ≡ true) (sym x.kind) (itself k))
    where
      itself : (k : VariableKind) → states.same_kind k k ≡ true
      itself (Term s) = same_sort_itself s
      itself Region = refl

  pub row_known : (vs : List CanonicalVar) (ns : List ℕ) → AreNumbersOf T L vs ns → AreTreesOf T L (variables_row vs ns)
  row_known [] [] a = record { known = refl; is_closed = refl }
  row_known (v ∷ vs) (n ∷ ns) a = at v.kind (number_known v.kind n a.0) (row_known vs ns a.1)
    where
      at : (k : VariableKind) → not (L n && has_kind k (info T n)) ≡ false → AreTreesOf T L (variables_row vs ns)
          → AreTreesOf T L (let t = states.variable k n in tree t.head t.children (variables_row vs ns))
      at (Term s) e rest = record {
        known = whole (is_strange T L) (H.Infer (record { sort = s; number = n })) none (variables_row vs ns) e refl rest.known;
        is_closed = rest.is_closed;
      }
      at Region e rest = record {
        known = whole (is_strange T L) (H.Region (R.Var n)) none (variables_row vs ns) e refl rest.known;
        is_closed = rest.is_closed;
      }
  row_known [] (n ∷ ns) a = absurd a
  row_known (v ∷ vs) [] a = absurd a

  -- a number of a variable that is left open, as the state has it
  pub number_at : (cs : List CanonicalVar) (ns : List ℕ) → AreNumbersOf T L cs ns → (k : VariableKind) (j : ℕ) → has_kind k (slice_get (map root_of cs) j) ≡ true → not (L (slice_index_or ns j 0) && has_kind k (info T (slice_index_or ns j 0))) ≡ false
  number_at [] [] a k j e = cc
  number_at (c ∷ cs) (n ∷ ns) a k zero e = subst (λ o. not (L n && o) ≡ false) (same_kinds c.kind k e) (number_known c.kind n a.0)
    where
      kinds_are : (i k : VariableKind) → states.same_kind i k ≡ true → i ≡ k
      kinds_are (Term s) (Term t) e = ap Term (same_sort_is s t e)
      kinds_are Region Region e = refl
      kinds_are (Term s) Region e = cc
      kinds_are Region (Term t) e = cc

      same_kinds : (i k : VariableKind) → states.same_kind i k ≡ true → has_kind i (info T n) ≡ has_kind k (info T n)
      same_kinds i k e = ap (λ x. has_kind x (info T n)) (kinds_are i k e)
  number_at (c ∷ cs) (n ∷ ns) a k (suc j) e = number_at cs ns a.1 k j e
  number_at [] (n ∷ ns) a k j e = absurd a
  number_at (c ∷ cs) [] a k j e = absurd a

not_not : (b : Bool) → not b ≡ false → b ≡ true
not_not true e = refl
not_not false e = cc

-- what holds of each leaf that stands for something
module _ (x : Lift) (ns : List ℕ) (P : Tree → Type 0) where
  lifted_is : (p : Placeholder) (head : Placeholder → Head) → P (leaf (head (lifted x p))) → (u : Tree) → lifted_leaf x p head ≡ Some u → P u
  lifted_is p head a u f = at (nat_lt x.above p.universe) f
    where
      at : (b : Bool) → (if b then Some (leaf (head (lifted x p))) else None) ≡ Some u → P u
      at true f = subst P (let is : leaf (head (lifted x p)) ≡ u = cc in is) a
      at false f = cc

  pub translated : ((v : Variable) → P (leaf (H.Infer v))) → ((n : ℕ) → P (leaf (H.Region (R.Var n)))) → ((p : Placeholder) → P (leaf (H.Placeholder p)))
      → ((p : Placeholder) → P (leaf (H.Const (C.Placeholder p)))) → ((p : Placeholder) → P (leaf (H.Region (R.Placeholder p)))) → (h : Head) (u : Tree) → translation x ns h ≡ Some u → P u
  translated a b c d e (H.Infer v) u f =
      let w : Variable = record { sort = v.sort; number = slice_index_or ns v.number 0 } in
      subst P (let is : leaf (H.Infer w) ≡ u = cc in is) (a w)
  translated a b c d e (H.Region (R.Var n)) u f = subst P (let is : leaf (H.Region (R.Var (slice_index_or ns n 0))) ≡ u = cc in is) (b (slice_index_or ns n 0))
  translated a b c d e (H.Placeholder p) u f = lifted_is p H.Placeholder (c (lifted x p)) u f
  translated a b c d e (H.Const (C.Placeholder p)) u f = lifted_is p (λ q. H.Const (C.Placeholder q)) (d (lifted x p)) u f
  translated a b c d e (H.Region (R.Placeholder p)) u f = lifted_is p (λ q. H.Region (R.Placeholder q)) (e (lifted x p)) u f
  translated a b c d e _ u f = cc

module _ (k : Key) (r : Response) (ok : may_be_given k r ≡ true) where
  pub values_strange : holds (is_foreign (left_by k r)) r.values ≡ false
  values_strange = not-true (holds (is_foreign (left_by k r)) r.values) (and_parts (not (holds (is_foreign (left_by k r)) r.values)) _ ok).0

  values_closed : escapes 0 r.values ≡ false
  values_closed = not-true (escapes 0 r.values) (and_parts (not (escapes 0 r.values)) _ (and_parts (not (holds (is_foreign (left_by k r)) r.values)) _ ok).1).0

  module _ (T : State) (L : Live) (ns : List ℕ) (named : AreNumbersOf T L r.vars ns) (low : newest_of k ≤ T.newest_universe) where
    low_there : (u : ℕ) → nat_lt (newest_of k) u ≡ false → nat_lt T.newest_universe u ≡ false
    low_there u e = let h = ltb-false (newest_of k) u e in le-ltb T.newest_universe u (omega (arith, h, low))

    abbrev x : Lift
    x = lift_to T k r

    stays_known : (h : Head) → is_foreign (left_by k r) h ≡ false → translation x ns h ≡ None → is_strange T L h ≡ false
    stays_known (H.Infer v) e f = cc
    stays_known (H.Region (R.Var n)) e f = cc
    stays_known (H.Placeholder p) e f = low_there p.universe e
    stays_known (H.Const (C.Placeholder p)) e f = low_there p.universe e
    stays_known (H.Region (R.Placeholder p)) e f = low_there p.universe (at (nat_lt (newest_of k) p.universe) f)
      where
        at : (b : Bool) → (if b then Some (leaf (H.Region (R.Placeholder (lifted x p)))) else None) ≡ None → b ≡ false
        at true f = cc
        at false f = refl
    stays_known _ e f = refl

    some_is : (P : Tree → Type 0) (t u : Tree) → Some t ≡ Some u → P t → P u
    some_is P t u e x = subst P (let is : t ≡ u = cc in is) x

    -- what is lifted is of a universe of the state
    lifted_known : (p : Placeholder) (head : Placeholder → Head) (u : Tree) → is_strange T L (head (lifted x p)) ≡ nat_lt T.newest_universe (lifted x p).universe → lifted_leaf x p head ≡ Some u
        → holds (is_strange T L) (alone u) ≡ false
    lifted_known p head u same f =
        lifted_is x ns (λ u. holds (is_strange T L) (alone u) ≡ false) p head
        (whole (is_strange T L) (head (lifted x p)) none none (same ∙ le-ltb T.newest_universe (T.newest_universe - (greatest_said r - p.universe)) (omega arith)) refl refl) u f

    put_known : (h : Head) (u : Tree) → is_foreign (left_by k r) h ≡ false → translation x ns h ≡ Some u → holds (is_strange T L) (alone u) ≡ false
    put_known (H.Infer v) u e f =
        some_is (λ u. holds (is_strange T L) (alone u) ≡ false) (record { head = H.Infer (record { sort = v.sort; number = slice_index_or ns v.number 0 }); children = none }) u f
        (whole (is_strange T L) (H.Infer (record { sort = v.sort; number = slice_index_or ns v.number 0 })) none none
        (number_at T L r.vars ns named (Term v.sort) v.number (not_not (has_kind (Term v.sort) (slice_get (map root_of r.vars) v.number)) e)) refl refl)
    put_known (H.Region (R.Var n)) u e f =
        some_is (λ u. holds (is_strange T L) (alone u) ≡ false) (record { head = H.Region (R.Var (slice_index_or ns n 0)); children = none }) u f
        (whole (is_strange T L) (H.Region (R.Var (slice_index_or ns n 0))) none none (number_at T L r.vars ns named Region n (not_not (has_kind Region (slice_get (map root_of r.vars) n)) e)) refl refl)
    put_known (H.Placeholder p) u e f = lifted_known p H.Placeholder u refl f
    put_known (H.Const (C.Placeholder p)) u e f = lifted_known p (λ q. H.Const (C.Placeholder q)) u refl f
    put_known (H.Region (R.Placeholder p)) u e f = lifted_known p (λ q. H.Region (R.Placeholder q)) u refl f
    put_known _ u e f = cc

    pub values_known : AreTreesOf T L (valued (translation x ns) r.values)
    values_known = record {
      known = fold_marked (λ d t. translation x ns t.head) (is_foreign (left_by k r)) (is_foreign (left_by k r)) (is_strange T L) (λ d t a b f. stays_known t.head a f) (λ d t u a b f. put_known t.head u a f)
          0 r.values values_strange values_strange;
      is_closed = fold_closed (λ d t. translation x ns t.head) (λ d t u f. translated x ns (λ u. escapes 0 (alone u) ≡ false) (λ v. refl) (λ n. refl) (λ p. refl) (λ p. refl) (λ p. refl) t.head u f) 0 0 r.values values_closed;
    }

-- What a Yes gives leads on, where all numbers that the state doesn't have count.

module _ (l : Listing) (listing : IsListing l) (S : State) (L : Live) (sound : IsSound S L) (fits : ValuesFit S L) (new : CountsNew S L)
    (k : Key) (ns : List ℕ) (of : AreNumbersOf S L k.variables ns) (low : newest_of k ≤ S.newest_universe) (r : Response) (ok : may_be_given k r ≡ true) where
  abbrev begun : State × List ℕ
  begun = ready_for S k ns r

  abbrev says : Values
  says = translation (lift_to begun.0 k r) begun.1

  pub given_leads : (T : State) → given l S k ns r ≡ Some T → SoundLater S L T
  given_leads T e = at (equated l begun.0 (variables_row k.variables ns) (valued says r.values)) refl e
    where
      first : SoundLater S L begun.0
      first = lead_ready S L k ns r sound

      named : AreNumbersOf begun.0 L r.vars begun.1
      named = ready_numbers S L k ns r sound new (all_own S L k.variables ns r.values of 0 r.vars)

      at : (o : Option State) → equated l begun.0 (variables_row k.variables ns) (valued says r.values) ≡ o
          → next o (λ R. Some (record R { regions = R.regions ++ map (valued_tree says) r.regions })) ≡ Some T → SoundLater S L T
      at None f e = cc
      at (Some R) f e =
          let second = lead_equated l listing begun.0 R L (variables_row k.variables ns) (valued says r.values) first.sound (fits_later first.later fits)
          (row_known begun.0 L k.variables ns (numbers_later S begun.0 L k.variables ns first.later of))
          (values_known k r ok begun.0 L begun.1 named (let newest = first.later.newest in omega (arith, newest, low))) f in
          let third = regions_keep R L (R.regions ++ map (valued_tree says) r.regions) second.sound in
          let all : SoundLater S L (record R { regions = R.regions ++ map (valued_tree says) r.regions }) =
          lead_along S R (record R { regions = R.regions ++ map (valued_tree says) r.regions }) L sound (lead_along S begun.0 R L sound first second) third in
          subst (SoundLater S L) (let is : record R { regions = R.regions ++ map (valued_tree says) r.regions } ≡ T = cc in is) all
