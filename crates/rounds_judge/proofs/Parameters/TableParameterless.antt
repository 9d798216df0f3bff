-- With a table, settling and responding bring no parameter in.
use Rattle.std.proofs.Common.{◌≡◌, ℕ, zero, suc, Bool, true, false, not, ◌&&◌, List, [], ◌∷◌, ◌++◌, map, Option, Some, None, inl, inr, arith, refl, ap, subst, ◌∙◌, if◌then◌else◌}
use Rattle.std.specs.List.{All, list_all}
use Rattle.std.proofs.lemmas.Bool.{and_parts, not-true}
use Rattle.std.proofs.lemmas.List.Elements.{All-append, All-head, All-tail, All-cons, All-nil}
use Rattle.ir_trees.specs.declared.ir.heads.Head.{Head}
use Rattle.ir_trees.specs.declared.ir.heads.Head.TheVariants as H
use Rattle.ir_trees.specs.declared.ir.heads.PartHead.TheVariants as P
use Rattle.ir_trees.specs.declared.ir.heads.ClauseHead.TheVariants as Cl
use Rattle.ir_trees.specs.declared.ir.kinds.RegionKind.TheVariants as R
use Rattle.ir_trees.specs.Syntax.Binders.{escapes}
use Rattle.ir_trees.specs.Unification.Substitutions.{alone}
use Rattle.ir_trees.specs.Hierarchy.Supers.{after_first}
use Rattle.ir_trees.specs.Syntax.Trees.{Kind, Forest, none, tree, Tree, holds, is_param}
use Rattle.candidate_eval.specs.declared.eval.certainty.Certainty.{Certainty}
use Rattle.candidate_eval.specs.declared.eval.variable.CanonicalVar.{CanonicalVar}
use Rattle.candidate_eval.specs.declared.eval.variable.VariableKind.{VariableKind}
use Rattle.candidate_eval.specs.declared.eval.variable.VariableKind.TheVariants.{Term, Region}
use Rattle.candidate_eval.specs.Derivations.Characterization.{Bounded, bound_kinds, group_at}
use Rattle.candidate_eval.specs.Derivations.ImplRules.{TraitGoal}
use Rattle.candidate_eval.specs.Judges.Lawful.{GoalHasNoParameter, GoalsHaveNoParameter, HasNoParameter, LeavesGoals, RegionsHaveNoParameter, RootsCount}
use Rattle.candidate_eval.specs.Outcomes.Responses.{Response}
use Rattle.candidate_eval.specs.Judges.Soundness.{Live, IsSound, ValuesFit, AreTreesOf, GoalIsOf, GoalsAreOf, is_strange}
use Rattle.candidate_eval.specs.Judges.States.{State, Pending, VariableInfo, Values, resolved, valued, valued_tree, with_universe, next}
use Rattle.candidate_eval.specs.Judges.States as states
use Rattle.rounds_judge.specs.Equations.Binding.{numbered}
use Rattle.rounds_judge.specs.Equations.Equating.{equated}
use Rattle.rounds_judge.specs.Table.GoalTable.{GoalTable, verdict_in, left_by, is_foreign, may_be_given, has_parameter}
use Rattle.rounds_judge.specs.Table.Keys.{Key, key_at, numbers_at, goal_trees, trait_goal_of}
use Rattle.rounds_judge.specs.Aliases.Listed.{Listing}
use Rattle.rounds_judge.specs.Obligations.Responding.{open_numbers, root_values}
use Rattle.rounds_judge.specs.Obligations.Settling.{Outcome, stays, instance_of, before, with_staying, gave_a_value}
use Rattle.rounds_judge.specs.Equations.Standing.{IsListing}
use Rattle.rounds_judge.specs.Table.TableSettling.{own_variable, with_open, named_at, Lift, lift_to, translation, variables_row, are_bare, ready_for, given, tried_by, tried_trait, tried_as_with, tried_with, all_by, pass_by, passes_by, settled_with, responded_with}
use Rattle.rounds_judge.specs.Table.Verdicts.{Verdict, Yes, Maybe, Refused}
use Rattle.rounds_judge.proofs.Unifiers.EquatingLaws.{no_goals}
use Rattle.rounds_judge.proofs.States.Later.{fits_later}
use Rattle.rounds_judge.proofs.States.Marks.{fold_marked, whole}
use Rattle.rounds_judge.proofs.Obligations.Opening.{opens}
use Rattle.rounds_judge.proofs.Parameters.Parameterless.{equated-free}
use Rattle.rounds_judge.proofs.Parameters.ParameterlessGoals.{StaysFree, facts_free, instance_free, instance_stays}
use Rattle.rounds_judge.proofs.Parameters.ParameterlessResponses.{roots-later, renumbered-free, values-free}
use Rattle.rounds_judge.proofs.Obligations.Settling.{facts_of, goal_later, goals_later, lead_universe, instance_is_of, same_outcome}
use Rattle.rounds_judge.proofs.Table.TableDropped.{passed_with}
use Rattle.rounds_judge.proofs.Table.TableFresh.{CountsNew, new_info, old_or_new, numbers_later, lead_ready, ready_numbers}
use Rattle.rounds_judge.proofs.Table.TableGiving.{all_own, row_known, values_known, translated}
use Rattle.rounds_judge.proofs.Table.TableResponding.{answered}
use Rattle.rounds_judge.proofs.Table.TableSettled.{ReadsWell, joined, key_numbers, key_low, counts_later, tried_leaves_with, pass_leaves_with, passes_leave_with, with_new, new_count, counts_as, still_counts, sound_with_new, fits_with_new, goals_with_new, fewer_later}

-- Fresh variables have no values, and nothing is recorded.

pub free_open : (S : State) (c : CanonicalVar) (L : Live) → HasNoParameter S L → HasNoParameter (with_open S c) L
free_open S c L free n i t live e v = elim (old_or_new (new_info S c) S.variables n i e) [
  | inl o ↦ free n i t live o v
  | inr o ↦ absurd (let clash : None ≡ Some t = ap (λ (j : VariableInfo). j.value) o.1 ∙ v in cc)
]

free_named : (S : State) (L : Live) (cs : List CanonicalVar) (os : List (Option ℕ)) → HasNoParameter S L → HasNoParameter (named_at S cs os).0 L
free_named S L (c ∷ cs) (Some n ∷ os) free = free_named S L cs os free
free_named S L (c ∷ cs) (None ∷ os) free = free_named (with_open S c) L cs os (free_open S c L free)
free_named S L [] os free = free
free_named S L (c ∷ cs) [] free = free

regions_named : (S : State) (cs : List CanonicalVar) (os : List (Option ℕ)) → RegionsHaveNoParameter S → RegionsHaveNoParameter (named_at S cs os).0
regions_named S (c ∷ cs) (Some n ∷ os) free = regions_named S cs os free
regions_named S (c ∷ cs) (None ∷ os) free = regions_named (with_open S c) cs os free
regions_named S [] os free = free
regions_named S (c ∷ cs) [] free = free

-- Variables are no parameters.

row_free : (vs : List CanonicalVar) (ns : List ℕ) → holds is_param (variables_row vs ns) ≡ false
row_free [] ns = refl
row_free (v ∷ vs) [] = refl
row_free (v ∷ vs) (n ∷ ns) = at v.kind (row_free vs ns)
  where
    at : (k : VariableKind) → holds is_param (variables_row vs ns) ≡ false → holds is_param (let t = states.variable k n in tree t.head t.children (variables_row vs ns)) ≡ false
    at (Term s) e = whole is_param (H.Infer (record { sort = s; number = n })) none (variables_row vs ns) refl refl e
    at Region e = whole is_param (H.Region (R.Var n)) none (variables_row vs ns) refl refl e

named_free : (x : Lift) (ns : List ℕ) (ts : Forest) → holds is_param ts ≡ false → holds is_param (valued (translation x ns) ts) ≡ false
named_free x ns ts e =
    fold_marked (λ d t. translation x ns t.head) is_param is_param is_param (λ d t a b f. a)
    (λ d t u a b f. translated x ns (λ u. holds is_param (alone u) ≡ false) (λ v. refl) (λ n. refl) (λ p. refl) (λ p. refl) (λ p. refl) t.head u f) 0 ts e e

abbrev Free : Tree → Type 0
Free t = holds is_param (alone t) ≡ false

all_named_free : (x : Lift) (ns : List ℕ) (rs : List Tree) → list_all (λ t. not (has_parameter t)) rs ≡ true → All Free (map (valued_tree (translation x ns)) rs)
all_named_free x ns [] e = All-nil Free
all_named_free x ns (r ∷ rs) e =
    let p = and_parts (not (has_parameter r)) (list_all (λ t. not (has_parameter t)) rs) e in
    All-cons Free (valued_tree (translation x ns) r) (map (valued_tree (translation x ns)) rs) (named_free x ns (alone r) (not-true (has_parameter r) p.0)) (all_named_free x ns rs p.1)

module _ (k : Key) (r : Response) (ok : may_be_given k r ≡ true) where
  without_strange : not (escapes 0 r.values) && (not (holds is_param r.values) && list_all (λ t. not (has_parameter t)) r.regions) ≡ true
  without_strange = (and_parts (not (holds (is_foreign (left_by k r)) r.values)) _ ok).1

  without_escaping : not (holds is_param r.values) && list_all (λ t. not (has_parameter t)) r.regions ≡ true
  without_escaping = (and_parts (not (escapes 0 r.values)) _ without_strange).1

  values_without : holds is_param r.values ≡ false
  values_without = not-true (holds is_param r.values) (and_parts (not (holds is_param r.values)) _ without_escaping).0

  constraints_without : list_all (λ t. not (has_parameter t)) r.regions ≡ true
  constraints_without = (and_parts (not (holds is_param r.values)) _ without_escaping).1

-- What a Yes gives

module _ {W : Type 0} (K : GoalTable W) (reads : ReadsWell K) (l : Listing) (listing : IsListing l) (M : Live) (before_it : Type 0) where
  module _ (S : State) (sound : IsSound S M) (fits : ValuesFit S M) (new : CountsNew S M) (free : HasNoParameter S M) (recorded : before_it → RegionsHaveNoParameter S) where
    pub given_free : (g : TraitGoal) → holds (is_strange S M) (goal_trees g) ≡ false → (r : Response) → may_be_given (key_at S g) r ≡ true → (q : State) → given l S (key_at S g) (numbers_at S g) r ≡ Some q → StaysFree before_it M ([], q)
    given_free g known r ok q e = at (equated l begun.0 row values) refl e
      where
        k : Key
        k = key_at S g

        ns : List ℕ
        ns = numbers_at S g

        own : List (Option ℕ)
        own = numbered (own_variable (key_at S g).variables (numbers_at S g) r.values) 0 r.vars

        begun : State × List ℕ
        begun = ready_for S (key_at S g) (numbers_at S g) r

        says : Values
        says = translation (lift_to begun.0 (key_at S g) r) begun.1

        row : Forest
        row = variables_row (key_at S g).variables (numbers_at S g)

        values : Forest
        values = valued says r.values

        at : (o : Option State) → equated l begun.0 row values ≡ o → next o (λ R. Some (record R { regions = R.regions ++ map (valued_tree says) r.regions })) ≡ Some q → StaysFree before_it M ([], q)
        at None f e = cc
        at (Some R) f e =
            let numbers = key_numbers S M sound g known in
            let first = lead_ready S M k ns r sound in
            let named = ready_numbers S M k ns r sound new (all_own S M k.variables ns r.values numbers 0 r.vars) in
            let left = row_known begun.0 M k.variables ns (numbers_later S begun.0 M k.variables ns first.later numbers) in
            let right = values_known k r ok begun.0 M begun.1 named (let low = key_low S M sound g known in let newest = first.later.newest in omega (arith, newest, low)) in
            let stay = equated-free l listing begun.0 R M before_it row values first.sound (fits_later first.later fits) left right (free_named S M r.vars own free) (λ b. regions_named S r.vars own (recorded b))
            (row_free k.variables ns) (named_free (lift_to begun.0 k r) begun.1 r.values (values_without k r ok)) f in
            let R_third : State = record R { regions = R.regions ++ map (valued_tree says) r.regions } in
            subst (λ q. StaysFree before_it M ([], q)) (let is : R_third ≡ q = cc in is)
            (record {
              values = stay.values;
              goals = All-nil (λ (p : Pending). GoalHasNoParameter p.goal);
              regions = λ b. All-append Free R.regions (map (valued_tree says) r.regions) (stay.regions b) (all_named_free (lift_to begun.0 k r) begun.1 r.regions (constraints_without k r ok));
            })

    -- One goal
    module _ (p : Pending) (goal : GoalHasNoParameter p.goal) where
      left_free : (q : List Pending × State) → stays S p ≡ Some q → StaysFree before_it M q
      left_free q e = same_outcome (StaysFree before_it M) (p ∷ [], S) q e
          (record { values = free; goals = All-cons (λ (p : Pending). GoalHasNoParameter p.goal) p [] goal (All-nil (λ (p : Pending). GoalHasNoParameter p.goal)); regions = recorded })

      pub trait_free : (g : TraitGoal) → holds (is_strange S M) (goal_trees g) ≡ false → (q : List Pending × State) → tried_trait K l S p g ≡ Some q → StaysFree before_it M q
      trait_free g known q e = at (are_bare (resolved S (goal_trees g))) e
        where
          by : (v : Option (Verdict W)) → verdict_in K (key_at S g) ≡ v → tried_by l S p (key_at S g) (numbers_at S g) v ≡ Some q → StaysFree before_it M q
          by (Some Refused) f e = cc
          by (Some (Maybe r w)) f e = left_free q e
          by None f e = left_free q e
          by (Some (Yes r w)) f e =
              let n = no_goals (given l S (key_at S g) (numbers_at S g) r) q.0 q.1 e in
              subst (λ gs. StaysFree before_it M (gs, q.1)) n.none (given_free g known r (reads (key_at S g) r w f) q.1 n.is)

          at : (b : Bool) → (if b then tried_by l S p (key_at S g) (numbers_at S g) (verdict_in K (key_at S g)) else stays S p) ≡ Some q → StaysFree before_it M q
          at true e = by (verdict_in K (key_at S g)) refl e
          at false e = left_free q e

      instance_stays_with : GoalIsOf S M p.goal → (ts : Forest) → AreTreesOf S M ts → holds is_param ts ≡ false → (h : Head) (q : List Pending × State) → tried_as_with K l S p ts h ≡ Some q → StaysFree before_it M q
      instance_stays_with of ts a m (H.Part (P.Clause (Cl.Trait i x))) q e = trait_free (trait_goal_of p.goal.env i x ts) (joined (is_strange S M) p.goal.env ts of.env.known a.known) q e
      instance_stays_with of ts a m h q e = instance_stays l listing M before_it S sound fits free recorded p goal ts a m h q e

  tried_free_with : (S : State) → IsSound S M → ValuesFit S M → CountsNew S M → HasNoParameter S M → (before_it → RegionsHaveNoParameter S) → (p : Pending) → GoalIsOf S M p.goal → GoalHasNoParameter p.goal → (q : List Pending × State)
      → tried_with K l S p ≡ Some q → StaysFree before_it M q
  tried_free_with S sound fits new free recorded p of goal q e = at (bound_kinds p.goal.clause.children) e
    where
      at : (ks : List Kind)
          → (let f = group_at S (Bounded ks (after_first p.goal.clause.children)) in tried_as_with K l f.0 (instance_of p ks f.1) f.1 p.goal.clause.head) ≡ Some q → StaysFree before_it M q
      at [] e =
          instance_stays_with S sound fits new free recorded p goal of (opens 0 [] 0 (after_first p.goal.clause.children)) (facts_of S M 0 [] p.goal.clause (omega arith) of.clause) (facts_free 0 [] p.goal.clause goal.clause) p.goal.clause.head q e
      at (k ∷ ks) e =
          let R : State = with_universe S in
          let lead = lead_universe S M sound in
          let there = goal_later S R M lead.later p.goal of in
          let facts = facts_of R M (suc S.newest_universe) (k ∷ ks) p.goal.clause (omega arith) there.clause in
          let ts : Forest = opens (suc S.newest_universe) (k ∷ ks) 0 (after_first p.goal.clause.children) in
          let none_in = facts_free (suc S.newest_universe) (k ∷ ks) p.goal.clause goal.clause in
          instance_stays_with R lead.sound (fits_later lead.later fits) new free recorded (instance_of p (k ∷ ks) ts) (instance_free p (k ∷ ks) ts goal none_in) (instance_is_of R M p (k ∷ ks) ts there facts) ts facts none_in p.goal.clause.head q e

  -- Goals in order

  all_free : (S : State) → IsSound S M → ValuesFit S M → CountsNew S M → HasNoParameter S M → (before_it → RegionsHaveNoParameter S) → (ps : List Pending) → GoalsAreOf S M ps → GoalsHaveNoParameter ps → (q : List Pending × State)
      → all_by (tried_with K l) S ps ≡ Some q → StaysFree before_it M q
  all_free S sound fits new free recorded [] of goals q e = same_outcome (StaysFree before_it M) ([], S) q e (record { values = free; goals = goals; regions = recorded })
  all_free S sound fits new free recorded (p ∷ ps) of goals q e =
      at (tried_with K l S p) refl (λ R sound fits new free recorded_then of r e. all_free R sound fits new free recorded_then ps of (All-tail (λ (p : Pending). GoalHasNoParameter p.goal) p ps goals) r e) e
    where
      rest : (r : List Pending × State) → StaysFree before_it M r → (o : Outcome) → ((s : List Pending × State) → o ≡ Some s → StaysFree before_it M s) → before r.0 o ≡ Some q → StaysFree before_it M q
      rest r left None f e = cc
      rest r left (Some s) f e =
          let more = f s refl in
          same_outcome (StaysFree before_it M) (r.0 ++ s.0, s.1) q e (record { values = more.values; goals = All-append (λ (p : Pending). GoalHasNoParameter p.goal) r.0 s.0 left.goals more.goals; regions = more.regions })

      at : (o : Outcome) → tried_with K l S p ≡ o
          → ((R : State) → IsSound R M → ValuesFit R M → CountsNew R M → HasNoParameter R M → (before_it → RegionsHaveNoParameter R) → GoalsAreOf R M ps → (r : List Pending × State) → all_by (tried_with K l) R ps ≡ Some r → StaysFree before_it M r)
          → next o (λ r. before r.0 (all_by (tried_with K l) r.1 ps)) ≡ Some q → StaysFree before_it M q
      at None f ih e = cc
      at (Some r) f ih e =
          let leaves = tried_leaves_with K reads l listing M S sound fits new p (All-head (λ (p : Pending). GoalIsOf S M p.goal) p ps of) r f in
          let stay = tried_free_with S sound fits new free recorded p (All-head (λ (p : Pending). GoalIsOf S M p.goal) p ps of) (All-head (λ (p : Pending). GoalHasNoParameter p.goal) p ps goals) r f in
          rest r stay (all_by (tried_with K l) r.1 ps)
          (λ s g. ih r.1 leaves.leads.sound (fits_later leaves.leads.later fits) (counts_later K reads l listing M S r.1 leaves.leads.later new) stay.values stay.regions
          (goals_later S r.1 M leaves.leads.later ps (All-tail (λ (p : Pending). GoalIsOf S M p.goal) p ps of)) s g) e

  -- Passes

  pass_free : (S T : State) → IsSound S M → ValuesFit S M → CountsNew S M → HasNoParameter S M → (before_it → RegionsHaveNoParameter S) → GoalsAreOf S M S.pending → GoalsHaveNoParameter S.pending → pass_by (tried_with K l) S ≡ Some T
      → StaysFree before_it M (T.pending, T)
  pass_free S T sound fits new free recorded of goals e = at (all_by (tried_with K l) S S.pending) refl e
    where
      at : (o : Outcome) → all_by (tried_with K l) S S.pending ≡ o → next o (λ q. Some (with_staying q)) ≡ Some T → StaysFree before_it M (T.pending, T)
      at None f e = cc
      at (Some q) f e =
          let stay = all_free S sound fits new free recorded S.pending of goals q f in
          subst (λ (R : State). StaysFree before_it M (R.pending, R)) (let is : with_staying q ≡ T = cc in is) (record { values = stay.values; goals = stay.goals; regions = stay.regions })

  pub passes_free_with : (n : ℕ) (S T : State) → IsSound S M → ValuesFit S M → CountsNew S M → HasNoParameter S M → (before_it → RegionsHaveNoParameter S) → GoalsAreOf S M S.pending → GoalsHaveNoParameter S.pending
      → passes_by (tried_with K l) n S ≡ Some T → StaysFree before_it M (T.pending, T)
  passes_free_with zero S T sound fits new free recorded of goals e = subst (λ (R : State). StaysFree before_it M (R.pending, R)) (let is : S ≡ T = cc in is) (record { values = free; goals = goals; regions = recorded })
  passes_free_with (suc n) S T sound fits new free recorded of goals e =
      at (pass_by (tried_with K l) S) refl (λ R sound fits new free recorded_then of goals e. passes_free_with n R T sound fits new free recorded_then of goals e) e
    where
      goes : (R : State) → StaysFree before_it M (R.pending, R) → (b : Bool) → (passes_by (tried_with K l) n R ≡ Some T → StaysFree before_it M (T.pending, T)) → (if b then passes_by (tried_with K l) n R else Some R) ≡ Some T → StaysFree before_it M (T.pending, T)
      goes R stay true f e = f e
      goes R stay false f e = subst (λ (R : State). StaysFree before_it M (R.pending, R)) (let is : R ≡ T = cc in is) stay

      at : (o : Option State) → pass_by (tried_with K l) S ≡ o
          → ((R : State) → IsSound R M → ValuesFit R M → CountsNew R M → HasNoParameter R M → (before_it → RegionsHaveNoParameter R) → GoalsAreOf R M R.pending → GoalsHaveNoParameter R.pending → passes_by (tried_with K l) n R ≡ Some T
          → StaysFree before_it M (T.pending, T))
          → next o (λ R. if gave_a_value S.variables R.variables then passes_by (tried_with K l) n R else Some R) ≡ Some T → StaysFree before_it M (T.pending, T)
      at None f ih e = cc
      at (Some R) f ih e =
          let leaves = pass_leaves_with K reads l listing M S R sound fits new of f in
          let stay = pass_free S R sound fits new free recorded of goals f in
          goes R stay (gave_a_value S.variables R.variables)
          (λ e. ih R leaves.leads.sound (fits_later leaves.leads.later fits) (counts_later K reads l listing M S R leaves.leads.later new) stay.values stay.regions leaves.goals stay.goals e) e

-- What settling and responding leave

module _ {W : Type 0} (K : GoalTable W) (reads : ReadsWell K) (l : Listing) (listing : IsListing l) (S T : State) (L : Live) (sound : IsSound S L) (fits : ValuesFit S L) (of : GoalsAreOf S L S.pending)
    (passed : passes_by (tried_with K l) 8 S ≡ Some T) where
  abbrev M : Live
  M = with_new S L

  leaves_free : HasNoParameter S L → GoalsHaveNoParameter S.pending → StaysFree (RegionsHaveNoParameter S) M (T.pending, T)
  leaves_free free goals = passes_free_with K reads l listing M (RegionsHaveNoParameter S) 8 S T (sound_with_new S L sound) (fits_with_new S L fits) (new_count S L) (λ n i t c e v. free n i t (counts_as S L n i e c) e v) (λ r. r)
      (goals_with_new S L S.pending of) goals passed

  pub leaves_goals : LeavesGoals S T L T.pending (HasNoParameter S L × GoalsHaveNoParameter S.pending)
  leaves_goals =
      let leaves = passes_leave_with K reads l listing M 8 S T (sound_with_new S L sound) (fits_with_new S L fits) (new_count S L) (goals_with_new S L S.pending of) passed in
      record {
        follows = record { live = M; within = λ n h c. still_counts S L n c; sound = leaves.leads.sound; fits = fits_later leaves.leads.later (fits_with_new S L fits); later = fewer_later S L T leaves.leads.later };
        goals = leaves.goals;
        no_parameter = λ free. let stay = leaves_free free.0 free.1 in (stay.values, stay.goals);
        regions_without = λ free r. (leaves_free free.0 free.1).regions r;
      }

  pub roots_without : RootsCount S L → HasNoParameter S L → GoalsHaveNoParameter S.pending → holds is_param (root_values T) ≡ false
  roots_without roots free goals =
      let leaves = passes_leave_with K reads l listing M 8 S T (sound_with_new S L sound) (fits_with_new S L fits) (new_count S L) (goals_with_new S L S.pending of) passed in
      values-free T M (roots-later S T M leaves.leads.later (λ n i e r. still_counts S L n (roots n i e r))) l listing leaves.leads.sound (leaves_free free goals).values

pub settling_follows : {W : Type 0} (K : GoalTable W) → ReadsWell K → (l : Listing) → IsListing l → (S T : State) (L : Live) (c : Certainty) → IsSound S L → ValuesFit S L → GoalsAreOf S L S.pending → settled_with K l S ≡ Some (c, T)
    → LeavesGoals S T L T.pending (HasNoParameter S L × GoalsHaveNoParameter S.pending)
settling_follows K reads l listing S T L c sound fits of e = leaves_goals K reads l listing S T L sound fits of (passed_with K l S T c e)

pub responding_brings_none : {W : Type 0} (K : GoalTable W) → ReadsWell K → (l : Listing) → IsListing l → (S : State) (L : Live) (c : Certainty) (r : Response) → IsSound S L → ValuesFit S L → GoalsAreOf S L S.pending → RootsCount S L
    → HasNoParameter S L → GoalsHaveNoParameter S.pending → responded_with K l S c ≡ Some r → holds is_param r.values ≡ false
responding_brings_none K reads l listing S L c r sound fits of roots free goals e =
    let a = answered K l S c r e in
    subst (λ (r : Response). holds is_param r.values ≡ false) a.is (renumbered-free (open_numbers a.last) (root_values a.last) (roots_without K reads l listing S a.last L sound fits of a.passed roots free goals))
