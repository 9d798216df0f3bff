-- Facts that are granted stay so where values are put in, and fresh universes stay fresh.
use Rattle.std.proofs.Common.{◌≡◌, ℕ, suc, Bool, true, false, List, [], ◌∷◌, None, arith, refl, sym, ap, ◌∙◌}
use Rattle.std.proofs.lemmas.Bool.{leb-false, lt-leb, ltb-false}
use Rattle.std.proofs.lemmas.Option.{slice_get_within}
use Rattle.ir_trees.specs.declared.ir.heads.Head.{Head}
use Rattle.ir_trees.specs.declared.ir.heads.Head.TheVariants as H
use Rattle.ir_trees.specs.declared.ir.heads.ConstHead.TheVariants as C
use Rattle.ir_trees.specs.declared.ir.heads.PartHead.TheVariants as P
use Rattle.ir_trees.specs.declared.ir.heads.ClauseHead.TheVariants as Cl
use Rattle.ir_trees.specs.declared.ir.kinds.AssocId.{AssocId}
use Rattle.ir_trees.specs.declared.ir.kinds.RegionKind.TheVariants as R
use Rattle.ir_trees.specs.Syntax.Trees.{Kind, ConstantKind, RegionKind, Forest, none, tree, Tree, join, holds}
use Rattle.ir_trees.specs.Unification.Substitutions.{alone}
use Rattle.ir_trees.specs.Hierarchy.Supers.{after_first}
use Rattle.ir_trees.proofs.Instantiation.Folding.{begin}
use Rattle.candidate_eval.specs.declared.eval.variable.VariableKind.TheVariants.{Term}
use Rattle.candidate_eval.specs.Judges.States.{State, Goal, Values, valued, valued_tree, value_at, resolved, placeholder}
use Rattle.candidate_eval.specs.Judges.Alike.{info}
use Rattle.candidate_eval.specs.Derivations.Characterization.{is_any_bound}
use Rattle.candidate_eval.specs.Judges.Instances.{is_of_universe}
use Rattle.candidate_eval.specs.Judges.Soundness.{Live, IsSound, ValuesFit, IsLater, Within, GoalIsOf, universes, universe_in, is_strange}
use Rattle.candidate_eval.proofs.Marks.Holds.{holds_parts, holds_imply}
use Rattle.rounds_judge.specs.Aliases.Congruence.{SameTree}
use Rattle.rounds_judge.specs.Aliases.Listed.{Listing}
use Rattle.rounds_judge.specs.Equations.Standing.{IsListing}
use Rattle.rounds_judge.specs.Obligations.Settling.{last_or, without_last, alias_of, first_fact, term_of, arguments_of}
use Rattle.rounds_judge.specs.Obligations.Granted.{FactsGranted, IsFresh, IsFreshFor}
use Rattle.rounds_judge.proofs.States.Marks.{whole, holds_to}
use Rattle.rounds_judge.proofs.States.Later.{value_closed, has_info, known_later, resolved_known}
use Rattle.rounds_judge.proofs.Obligations.Opening.{opens, each_error, opened_valued, opened_marked}
use Rattle.rounds_judge.proofs.Aliases.Congruent.{same_to, same_resolved, is_stray, strange_stray}
use Rattle.rounds_judge.proofs.Obligations.Settling.{after_first_marked}

-- Values in the facts of a projection

last_valued : (v : Values) (t : Tree) (ts : Forest) → last_or (valued_tree v t) (valued v ts) ≡ valued_tree v (last_or t ts)
last_valued v t none = refl
last_valued v t (tree h below rest) = last_valued v (record { head = h; children = below }) rest

without_last_valued : (v : Values) (t : Tree) (ts : Forest) → without_last (valued_tree v t) (valued v ts) ≡ valued v (without_last t ts)
without_last_valued v t none = refl
without_last_valued v t (tree h below rest) = ap (begin (valued_tree v t)) (without_last_valued v (record { head = h; children = below }) rest)

pub term_resolved : (S : State) (ts : Forest) → alone (term_of (resolved S ts)) ≡ resolved S (alone (term_of ts))
term_resolved S none = refl
term_resolved S (tree h below rest) = ap alone (last_valued (value_at S) (record { head = h; children = below }) rest)

arguments_resolved : (S : State) (ts : Forest) → arguments_of (resolved S ts) ≡ resolved S (arguments_of ts)
arguments_resolved S none = refl
arguments_resolved S (tree h below rest) = without_last_valued (value_at S) (record { head = h; children = below }) rest

pub alias_resolved : (S : State) (i : AssocId) (ts : Forest) → alone (alias_of i (resolved S ts)) ≡ resolved S (alone (alias_of i ts))
alias_resolved S i ts = ap (λ xs. tree (alias_of i ts).head xs none) (arguments_resolved S ts)

pub first_resolved : (S : State) (ts : Forest) → alone (first_fact (resolved S ts)) ≡ resolved S (alone (first_fact ts))
first_resolved S none = refl
first_resolved S (tree h below rest) = refl

first_marked : (mark : Head → Bool) → mark H.Error ≡ false → (ts : Forest) → holds mark ts ≡ false → holds mark (alone (first_fact ts)) ≡ false
first_marked mark e none f = whole mark H.Error none none e refl refl
first_marked mark e (tree h below rest) f = let p = holds_parts mark h below rest f in whole mark h below none p.here p.under refl

last_marked : (mark : Head → Bool) (t : Tree) (ts : Forest) → holds mark (alone t) ≡ false → holds mark ts ≡ false → holds mark (alone (last_or t ts)) ≡ false
last_marked mark t none a b = a
last_marked mark t (tree h below rest) a b =
    let p = holds_parts mark h below rest b in
    last_marked mark (record { head = h; children = below }) rest (whole mark h below none p.here p.under refl) p.others

pub term_marked : (mark : Head → Bool) → mark H.Error ≡ false → (ts : Forest) → holds mark ts ≡ false → holds mark (alone (term_of ts)) ≡ false
term_marked mark e none b = whole mark H.Error none none e refl refl
term_marked mark e (tree h below rest) b =
    let p = holds_parts mark h below rest b in
    last_marked mark (record { head = h; children = below }) rest (whole mark h below none p.here p.under refl) p.others

without_last_marked : (mark : Head → Bool) (t : Tree) (ts : Forest) → holds mark (alone t) ≡ false → holds mark ts ≡ false → holds mark (without_last t ts) ≡ false
without_last_marked mark t none a b = refl
without_last_marked mark t (tree h below rest) a b =
    let p = holds_parts mark h below rest b in
    let q = holds_parts mark t.head t.children none a in
    whole mark t.head t.children (without_last (record { head = h; children = below }) rest) q.here q.under (without_last_marked mark (record { head = h; children = below }) rest (whole mark h below none p.here p.under refl) p.others)

arguments_marked : (mark : Head → Bool) (ts : Forest) → holds mark ts ≡ false → holds mark (arguments_of ts) ≡ false
arguments_marked mark none b = refl
arguments_marked mark (tree h below rest) b =
    let p = holds_parts mark h below rest b in
    without_last_marked mark (record { head = h; children = below }) rest (whole mark h below none p.here p.under refl) p.others

pub alias_marked : (mark : Head → Bool) (i : AssocId) (ts : Forest) → mark (alias_of i ts).head ≡ false → holds mark ts ≡ false → holds mark (alone (alias_of i ts)) ≡ false
alias_marked mark i ts e b = whole mark (alias_of i ts).head (arguments_of ts) none e (arguments_marked mark ts b) refl

-- The values of a state, and placeholders for what a binder binds

module _ (S : State) (L : Live) (fits : ValuesFit S L) where
  bound_free : (h : Head) → is_any_bound h ≡ true → value_at S h ≡ None
  bound_free (H.Bound v) e = refl
  bound_free (H.Const (C.Bound v)) e = refl
  bound_free (H.Region (R.Bound v)) e = refl
  bound_free _ e = cc

  placeholder_free : (k : Kind) (u i : ℕ) → value_at S (placeholder k u i) ≡ None
  placeholder_free ConstantKind u i = refl
  placeholder_free RegionKind u i = refl
  placeholder_free _ u i = refl

  pub opened_resolved : (u : ℕ) (ks : List Kind) (ts : Forest) → holds (is_strange S L) ts ≡ false → opens u ks 0 (resolved S ts) ≡ resolved S (opens u ks 0 ts)
  opened_resolved u ks ts k = opened_valued (value_at S) bound_free placeholder_free (each_error (λ h. value_at S h ≡ None) refl refl refl) (is_strange S L) (value_closed S L fits) u ks 0 ts k

-- what was resolved before is resolved further, whatever the placeholders
pub resolved_further : (S T : State) (L M : Live) → IsSound S L → ValuesFit S L → ValuesFit T M → Within S L M → IsLater S T L → (u : ℕ) (ks : List Kind) (ts : Forest) → holds (is_strange S L) ts ≡ false
    → resolved T (resolved S (opens u ks 0 ts)) ≡ resolved T (opens u ks 0 ts)
resolved_further S T L M sound fits then within later u ks ts k =
    ap (resolved T) (sym (opened_resolved S L fits u ks ts k)) ∙ sym (opened_resolved T M then u ks (resolved S ts) (known_later S T L M within later (resolved S ts) (resolved_known S L sound ts k)))
    ∙ ap (opens u ks 0) (later.values ts k) ∙ opened_resolved T M then u ks ts (known_later S T L M within later ts k)

module _ (S : State) (L : Live) where
  bound_stray : (h : Head) → is_any_bound h ≡ true → is_stray S L h ≡ false
  bound_stray (H.Bound v) e = refl
  bound_stray (H.Const (C.Bound v)) e = refl
  bound_stray (H.Region (R.Bound v)) e = refl
  bound_stray _ e = cc

  placeholder_stray : (u : ℕ) (k : Kind) (i : ℕ) → is_stray S L (placeholder k u i) ≡ false
  placeholder_stray u ConstantKind i = refl
  placeholder_stray u RegionKind i = refl
  placeholder_stray u _ i = refl

  pub opened_stray : (u : ℕ) (ks : List Kind) (ts : Forest) → holds (is_strange S L) ts ≡ false → holds (is_stray S L) (opens u ks 0 ts) ≡ false
  opened_stray u ks ts k = opened_marked u ks (is_strange S L) (is_stray S L) (strange_stray S L) bound_stray (placeholder_stray u) (each_error (λ h. is_stray S L h ≡ false) refl refl refl) 0 ts k

-- Universes

module _ (S T : State) (L : Live) (later : IsLater S T L) where
  fresh_head : (n : ℕ) (h : Head) → is_strange S L h ≡ false → is_of_universe (universes S) n h ≡ false → is_of_universe (universes T) n h ≡ false
  fresh_head n (H.Infer v) k e =
      let i = has_info (L v.number) (Term v.sort) (info S v.number) k in
      let lower = later.universes v.number (slice_get_within S.variables v.number i.0 i.1) in
      let less = leb-false n (universes S v) e in
      lt-leb n (universes T v) (omega (arith, lower, less))
  fresh_head n (H.Placeholder p) k e = e
  fresh_head n (H.Const (C.Placeholder p)) k e = e
  fresh_head n _ k e = refl

  fresh_later : (n : ℕ) (ts : Forest) → holds (is_strange S L) ts ≡ false → IsFresh (universes S) n ts → IsFresh (universes T) n ts
  fresh_later n ts k f = record { above_root = f.above_root; unmentioned = holds_to (is_strange S L) (is_of_universe (universes S) n) (is_of_universe (universes T) n) (fresh_head n) ts k f.unmentioned }

  pub fresh_for_later : (ks : List Kind) (n : ℕ) (ts : Forest) → holds (is_strange S L) ts ≡ false → IsFreshFor (universes S) ks n ts → IsFreshFor (universes T) ks n ts
  fresh_for_later [] n ts k f = tt
  fresh_for_later (x ∷ ks) n ts k f = fresh_later n ts k f

-- A universe above the newest is fresh.

module _ (S : State) (L : Live) (sound : IsSound S L) where
  newest_head : (h : Head) → is_strange S L h ≡ false → is_of_universe (universes S) (suc S.newest_universe) h ≡ false
  newest_head (H.Infer v) k =
      let i = has_info (L v.number) (Term v.sort) (info S v.number) k in
      let low = sound.universes v.number i.0 i.2 i.1 in
      let is : universes S v ≡ i.0.universe = ap universe_in i.1 in
      lt-leb (suc S.newest_universe) (universes S v) (omega (arith, low, is))
  newest_head (H.Placeholder p) k = let low = ltb-false S.newest_universe p.universe k in lt-leb (suc S.newest_universe) p.universe (omega (arith, low))
  newest_head (H.Const (C.Placeholder p)) k = let low = ltb-false S.newest_universe p.universe k in lt-leb (suc S.newest_universe) p.universe (omega (arith, low))
  newest_head _ k = refl

  pub newest_fresh : (ks : List Kind) (ts : Forest) → holds (is_strange S L) ts ≡ false → IsFreshFor (universes S) ks (suc S.newest_universe) ts
  newest_fresh [] ts k = tt
  newest_fresh (x ∷ ks) ts k = record { above_root = omega arith; unmentioned = holds_imply (is_strange S L) (is_of_universe (universes S) (suc S.newest_universe)) newest_head ts k }

-- Facts

module _ (l : Listing) (listing : IsListing l) (T : State) (M : Live) (fits : ValuesFit T M) where
  both_resolved : (ts : Forest) → holds (is_stray T M) ts ≡ false → SameTree l (first_fact ts) (term_of ts) → SameTree l (first_fact (resolved T ts)) (term_of (resolved T ts))
  both_resolved ts k g =
      same_to l (resolved T (alone (first_fact ts))) (resolved T (alone (term_of ts))) (alone (first_fact (resolved T ts))) (alone (term_of (resolved T ts))) (sym (first_resolved T ts)) (sym (term_resolved T ts))
      (same_resolved l T M fits listing (alone (first_fact ts)) (alone (term_of ts)) (first_marked (is_stray T M) refl ts k) (term_marked (is_stray T M) refl ts k) g)

  -- granted facts stay so where values are put in
  pub facts_resolved : (h : Head) (ts : Forest) → holds (is_stray T M) ts ≡ false → FactsGranted l h ts → FactsGranted l h (resolved T ts)
  facts_resolved (H.Part (P.Clause (Cl.Projection i))) ts k g =
      same_to l (resolved T (alone (alias_of i ts))) (resolved T (alone (term_of ts))) (alone (alias_of i (resolved T ts))) (alone (term_of (resolved T ts))) (sym (alias_resolved T i ts)) (sym (term_resolved T ts))
      (same_resolved l T M fits listing (alone (alias_of i ts)) (alone (term_of ts)) (alias_marked (is_stray T M) i ts refl k) (term_marked (is_stray T M) refl ts k) g)
  facts_resolved (H.Part (P.Clause Cl.AliasRelate)) ts k g = both_resolved ts k g
  facts_resolved (H.Part (P.Clause Cl.ConstEquate)) ts k g = both_resolved ts k g
  facts_resolved (H.Part (P.Clause Cl.TypeOutlives)) ts k g = tt
  facts_resolved (H.Part (P.Clause Cl.RegionOutlives)) ts k g = tt
  facts_resolved _ ts k g = absurd g

join_marked : (mark : Head → Bool) (a b : Forest) → holds mark a ≡ false → holds mark b ≡ false → holds mark (join a b) ≡ false
join_marked mark none b e f = f
join_marked mark (tree h below rest) b e f = let p = holds_parts mark h below rest e in whole mark h below (join rest b) p.here p.under (join_marked mark rest b p.others f)

pub facts_known : (S : State) (L : Live) (g : Goal) → GoalIsOf S L g → holds (is_strange S L) (after_first g.clause.children) ≡ false
facts_known S L g of = after_first_marked (is_strange S L) g.clause.children (holds_parts (is_strange S L) g.clause.head g.clause.children none of.clause.known).under

pub goal_known : (S : State) (L : Live) (g : Goal) → GoalIsOf S L g → holds (is_strange S L) (join g.env (after_first g.clause.children)) ≡ false
goal_known S L g of = join_marked (is_strange S L) g.env (after_first g.clause.children) of.env.known (facts_known S L g of)
