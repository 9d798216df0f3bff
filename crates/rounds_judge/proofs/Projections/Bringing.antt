-- With the tables, settling and responding bring no parameter in.
use Rattle.std.proofs.Common.{◌≡◌, ℕ, zero, suc, Bool, true, false, ◌||◌, List, [], ◌∷◌, ◌++◌, Option, Some, None, arith, refl, ap, subst, ◌∙◌, if◌then◌else◌}
use Rattle.std.proofs.lemmas.List.Elements.{All-append, All-head, All-tail, All-cons, All-nil}
use Rattle.ir_trees.specs.declared.ir.heads.Head.{Head}
use Rattle.ir_trees.specs.declared.ir.heads.Head.TheVariants as H
use Rattle.ir_trees.specs.declared.ir.heads.PartHead.TheVariants as P
use Rattle.ir_trees.specs.declared.ir.heads.ClauseHead.TheVariants as Cl
use Rattle.ir_trees.specs.Unification.Substitutions.{alone}
use Rattle.ir_trees.specs.Hierarchy.Supers.{after_first}
use Rattle.ir_trees.specs.Syntax.Trees.{Kind, Forest, none, tree, Tree, holds, is_param}
use Rattle.candidate_eval.specs.declared.eval.certainty.Certainty.{Certainty}
use Rattle.candidate_eval.specs.Derivations.Characterization.{Bounded, bound_kinds, group_at}
use Rattle.candidate_eval.specs.Derivations.ImplRules.{TraitGoal}
use Rattle.candidate_eval.specs.Judges.Lawful.{GoalHasNoParameter, GoalsHaveNoParameter, HasNoParameter, LeavesGoals, RegionsHaveNoParameter, RootsCount}
use Rattle.candidate_eval.specs.Outcomes.Responses.{Response}
use Rattle.candidate_eval.specs.Judges.Soundness.{Live, IsSound, ValuesFit, AreTreesOf, GoalIsOf, GoalsAreOf, is_strange}
use Rattle.candidate_eval.specs.Judges.States.{State, Pending, with_universe, next}
use Rattle.rounds_judge.specs.Equations.Equating.{equated}
use Rattle.rounds_judge.specs.Table.GoalTable.{GoalTable}
use Rattle.rounds_judge.specs.Table.Keys.{goal_trees, trait_goal_of}
use Rattle.rounds_judge.specs.Aliases.Listed.{Listing}
use Rattle.rounds_judge.specs.Obligations.Responding.{open_numbers, root_values}
use Rattle.rounds_judge.specs.Obligations.Settling.{Outcome, alias_of, arguments_of, before, first_fact, gave_a_value, has_unlisted, instance_of, projected, stays, term_of, with_staying, without_last}
use Rattle.rounds_judge.specs.Equations.Standing.{IsListing}
use Rattle.rounds_judge.specs.Table.TableSettling.{all_by, pass_by, passes_by, tried_trait}
use Rattle.rounds_judge.proofs.Unifiers.EquatingLaws.{no_goals}
use Rattle.rounds_judge.proofs.States.Later.{fits_later, trees_later}
use Rattle.rounds_judge.proofs.Equations.Looks.{SoundLater}
use Rattle.rounds_judge.proofs.Lawfulness.OpenEquations as openly
use Rattle.rounds_judge.proofs.Lawfulness.OpenEquations.{NoneBefore, asks_openly, equation_if}
use Rattle.rounds_judge.proofs.Parameters.ParameterlessGoals as goals
use Rattle.rounds_judge.proofs.Parameters.TableParameterless.{free_open, trait_free}
use Rattle.rounds_judge.proofs.Projections.PureFolder.{answered_by, passed_by}
use Rattle.rounds_judge.proofs.Projections.Leaving.{arguments_are_of, asked_known, children_are_of, counts_all, counts_still, lead_term, pass_leaves_by, passes_leave_by, term_known, tried_leaves_by}
use Rattle.rounds_judge.specs.Projections.ProjectionGoals.{ProjectionTables, new_term, term_asked, term_variable, with_term}
use Rattle.rounds_judge.specs.Projections.ProjectionSettling.{alias_asked, asked_term, projected_with, related_with, responded_by_tables, settled_by_tables, tried_as_by, tried_by_tables, tried_term, with_value}
use Rattle.rounds_judge.specs.Equations.Opening.{are_open, equation}
use Rattle.rounds_judge.specs.Aliases.Listed.{listed}
use Rattle.ir_trees.specs.declared.ir.kinds.AssocId.{AssocId}
use Rattle.ir_trees.specs.declared.ir.kinds.AliasKind.TheVariants as A
use Rattle.candidate_eval.specs.Judges.States.{Env, resolved_tree}
use Rattle.candidate_eval.proofs.Marks.Holds.{holds_parts}
use Rattle.rounds_judge.specs.Equations.Equating.{without_goals}
use Rattle.rounds_judge.proofs.States.Marks.{whole}
use Rattle.rounds_judge.proofs.Obligations.Opening.{opens}
use Rattle.rounds_judge.proofs.Parameters.Parameterless.{equated-free}
use Rattle.rounds_judge.proofs.Parameters.ParameterlessGoals.{StaysFree, facts_free, instance_free, instance_stays}
use Rattle.rounds_judge.proofs.Parameters.ParameterlessResponses.{roots-later, renumbered-free, values-free}
use Rattle.rounds_judge.proofs.Obligations.Settling.{Leaves, facts_of, first_is_of, goal_later, goals_later, instance_is_of, lead_along, lead_universe, same_outcome, term_is_of}
use Rattle.rounds_judge.proofs.Table.TableFresh.{CountsNew}
use Rattle.rounds_judge.proofs.Table.TableSettled.{ReadsWell, counts_as, fewer_later, fits_with_new, goals_with_new, joined, new_count, sound_with_new, still_counts, trait_leaves, with_new}

-- Variables are no parameters, and a new one has no value.

-- the arguments of a projection

without_last_free : (t : Tree) (ts : Forest) → holds is_param (alone t) ≡ false → holds is_param ts ≡ false → holds is_param (without_last t ts) ≡ false
without_last_free t none a m = refl
without_last_free t (tree h below rest) a m =
    let k = holds_parts is_param h below rest m in
    let x = holds_parts is_param t.head t.children none a in
    whole is_param t.head t.children (without_last (record { head = h; children = below }) rest) x.here x.under (without_last_free (record { head = h; children = below }) rest (whole is_param h below none k.here k.under refl) k.others)

arguments_free : (ts : Forest) → holds is_param ts ≡ false → holds is_param (arguments_of ts) ≡ false
arguments_free none m = refl
arguments_free (tree h below rest) m =
    let k = holds_parts is_param h below rest m in
    without_last_free (record { head = h; children = below }) rest (whole is_param h below none k.here k.under refl) k.others

module _ (l : Listing) (listing : IsListing l) (M : Live) (before_it : Type 0) where
  -- equations bring none in
  pub equation_free : (S : State) → IsSound S M → ValuesFit S M → CountsNew S M → HasNoParameter S M → (before_it → RegionsHaveNoParameter S) → (e a b : Forest) → AreTreesOf S M e → AreTreesOf S M a → AreTreesOf S M b
      → holds is_param e ≡ false → holds is_param a ≡ false → holds is_param b ≡ false → (q : List Pending × State) → equation l S e a b ≡ Some q → StaysFree before_it M q
  equation_free S sound fits new free recorded e a b env left right x y z q h = at (asks_openly l S a b) h
    where
      at : (o : Bool) → equation_if o l S e a b ≡ Some q → StaysFree before_it M q
      at true h =
          let none_before : NoneBefore S M e a b = (free, x, y, z) in
          let end = openly.free_end l listing S q.1 M e a b q.0 sound fits env left right h none_before in
          let is = openly.is l listing S q.1 M e a b q.0 sound fits env left right h in
          record {
            values = subst (λ L. HasNoParameter q.1 L) (counts_all S M new) end.values;
            goals = subst GoalsHaveNoParameter is.left (openly.goals_free e x (openly.o l listing S q.1 M e a b q.0 sound fits env left right h).pairs (openly.pairs_free l listing S q.1 M e a b q.0 sound fits env left right h none_before));
            regions = λ c. end.regions (recorded c);
          }
      at false h =
          let n = no_goals (equated l S a b) q.0 q.1 h in
          let left_free = equated-free l listing S q.1 M before_it a b sound fits left right free recorded y z n.is in
          record { values = left_free.values; goals = subst GoalsHaveNoParameter n.none (All-nil (λ (p : Pending). GoalHasNoParameter p.goal)); regions = left_free.regions }

-- One goal

module _ {W : Type 0} (Q : ProjectionTables W) (reads_terms : (i : AssocId) → ReadsWell (Q i)) (K : GoalTable W) (reads : ReadsWell K) (l : Listing) (listing : IsListing l) (M : Live) (before_it : Type 0) where
  module _ (S : State) (sound : IsSound S M) (fits : ValuesFit S M) (new : CountsNew S M) (free : HasNoParameter S M) (recorded : before_it → RegionsHaveNoParameter S) (p : Pending) (goal : GoalHasNoParameter p.goal) (of : GoalIsOf S M p.goal) where
    left_so : (q : List Pending × State) → stays S p ≡ Some q → StaysFree before_it M q
    left_so q e = same_outcome (StaysFree before_it M) (p ∷ [], S) q e
        (record { values = free; goals = All-cons (λ (p : Pending). GoalHasNoParameter p.goal) p [] goal (All-nil (λ (p : Pending). GoalHasNoParameter p.goal)); regions = recorded })

    term_stays : (i : AssocId) (args : Forest) (t : Tree) → AreTreesOf S M args → AreTreesOf S M (alone t) → holds is_param (alone t) ≡ false → (q : List Pending × State) → tried_term (Q i) l S p i args t ≡ Some q → StaysFree before_it M q
    term_stays i args t x y n q h = at (tried_trait (Q i) l R p g) refl h
      where
        e : Env
        e = p.goal.env

        R : State
        R = with_term S e i args

        g : TraitGoal
        g = term_asked S e i args

        lead : SoundLater S M R
        lead = lead_term S M sound new e i args

        fits_then : ValuesFit R M
        fits_then = fits_later lead.later fits

        new_then : CountsNew R M
        new_then = counts_still S R M lead.later new

        known : holds (is_strange R M) (goal_trees g) ≡ false
        known = asked_known S M sound new e i args of.env x

        by : (qs : List Pending) (T : State) → Leaves R M (qs, T) → StaysFree before_it M (qs, T) → with_value l S p t T qs ≡ Some q → StaysFree before_it M q
        by [] T left stay h =
            let to_T = lead_along S R T M sound lead left.leads in
            let there : (ts : Forest) → AreTreesOf S M ts → AreTreesOf T M ts = λ ts k. trees_later S T M M (λ n l c. c) to_T.later ts k in
            equation_free l listing M before_it T left.leads.sound (fits_later left.leads.later fits_then) (counts_still R T M left.leads.later new_then) stay.values stay.regions e (alone (new_term S)) (alone t)
            (there e of.env) (trees_later R T M M (λ n l c. c) left.leads.later (alone (new_term S)) (term_known S M sound new e i args)) (there (alone t) y) goal.env refl n q h
        by (z ∷ zs) T left stay h = left_so q h

        at : (o : Outcome) → tried_trait (Q i) l R p g ≡ o → next o (λ r. with_value l S p t r.1 r.0) ≡ Some q → StaysFree before_it M q
        at None f h = cc
        at (Some r) f h =
            by r.0 r.1 (trait_leaves (Q i) (reads_terms i) l listing M R lead.sound fits_then new_then p (goal_later S R M lead.later p.goal of) g known r f)
            (trait_free (Q i) (reads_terms i) l listing M before_it R lead.sound fits_then new_then (free_open S (term_variable S e i args) M free) recorded p goal g known r f) h

    asked_stays : (i : AssocId) (args : Forest) (t : Tree) → AreTreesOf S M args → AreTreesOf S M (alone t) → holds is_param (alone t) ≡ false → (q : List Pending × State) → asked_term (Q i) l S p i args t ≡ Some q → StaysFree before_it M q
    asked_stays i args t x y n q h = at (are_open l S) h
      where
        at : (o : Bool) → (if o then tried_term (Q i) l S p i args t else stays S p) ≡ Some q → StaysFree before_it M q
        at true h = term_stays i args t x y n q h
        at false h = left_so q h

    projected_stays : (i : AssocId) (ts : Forest) → AreTreesOf S M ts → holds is_param ts ≡ false → (o : Option Tree) → listed l (resolved_tree S (alias_of i ts)) ≡ o → (q : List Pending × State) → projected_with Q l S p i ts o ≡ Some q → StaysFree before_it M q
    projected_stays i ts a m None f q h = asked_stays i (arguments_of ts) (term_of ts) (arguments_are_of S M ts a) (term_is_of S M ts a) (goals.term_free ts m) q h
    projected_stays i ts a m (Some u) f q h =
        instance_stays l listing M before_it S sound fits free recorded p goal ts a m (H.Part (P.Clause (Cl.Projection i))) q (ap (λ o. projected l S p (term_of ts) o) f ∙ h)

    alias_stays : (t u : Tree) → AreTreesOf S M (alone t) → AreTreesOf S M (alone u) → holds is_param (alone u) ≡ false → (q : List Pending × State) → alias_asked Q l S p t.head t.children u ≡ Some q → StaysFree before_it M q
    alias_stays t u a b n q h = at t.head t.children a h
      where
        at : (x : Head) (below : Forest) → AreTreesOf S M (tree x below none) → alias_asked Q l S p x below u ≡ Some q → StaysFree before_it M q
        at (H.Alias A.Projection i) args a h = asked_stays (record { 0 = i.0 }) args u (children_are_of S M i args a) b n q h
        at _ below a h = left_so q h

    related_stays : (t u : Tree) → AreTreesOf S M (alone t) → AreTreesOf S M (alone u) → holds is_param (alone t) ≡ false → holds is_param (alone u) ≡ false → (q : List Pending × State) → related_with Q l S p t u ≡ Some q → StaysFree before_it M q
    related_stays t u a b m n q h = at (has_unlisted l S (alone t) || has_unlisted l S (alone u)) h
      where
        at : (o : Bool) → (if o then alias_asked Q l S p t.head t.children u else without_goals (equated l S (alone t) (alone u))) ≡ Some q → StaysFree before_it M q
        at true h = alias_stays t u a b n q h
        at false h =
            let none_left = no_goals (equated l S (alone t) (alone u)) q.0 q.1 h in
            let left_free = equated-free l listing S q.1 M before_it (alone t) (alone u) sound fits a b free recorded m n none_left.is in
            record { values = left_free.values; goals = subst GoalsHaveNoParameter none_left.none (All-nil (λ (p : Pending). GoalHasNoParameter p.goal)); regions = left_free.regions }

    instance_stays_by : (ts : Forest) → AreTreesOf S M ts → holds is_param ts ≡ false → (h : Head) (q : List Pending × State) → tried_as_by Q K l S p ts h ≡ Some q → StaysFree before_it M q
    instance_stays_by ts a m (H.Part (P.Clause (Cl.Trait i x))) q e = trait_free K reads l listing M before_it S sound fits new free recorded p goal (trait_goal_of p.goal.env i x ts) (joined (is_strange S M) p.goal.env ts of.env.known a.known) q e
    instance_stays_by ts a m (H.Part (P.Clause (Cl.Projection i))) q e = projected_stays i ts a m (listed l (resolved_tree S (alias_of i ts))) refl q e
    instance_stays_by ts a m (H.Part (P.Clause Cl.AliasRelate)) q e = related_stays (first_fact ts) (term_of ts) (first_is_of S M ts a) (term_is_of S M ts a) (goals.first_free ts m) (goals.term_free ts m) q e
    instance_stays_by ts a m h q e = instance_stays l listing M before_it S sound fits free recorded p goal ts a m h q e

  tried_free_by : (S : State) → IsSound S M → ValuesFit S M → CountsNew S M → HasNoParameter S M → (before_it → RegionsHaveNoParameter S) → (p : Pending) → GoalIsOf S M p.goal → GoalHasNoParameter p.goal → (q : List Pending × State)
      → tried_by_tables Q K l S p ≡ Some q → StaysFree before_it M q
  tried_free_by S sound fits new free recorded p of goal q e = at (bound_kinds p.goal.clause.children) e
    where
      at : (ks : List Kind)
          → (let f = group_at S (Bounded ks (after_first p.goal.clause.children)) in tried_as_by Q K l f.0 (instance_of p ks f.1) f.1 p.goal.clause.head) ≡ Some q → StaysFree before_it M q
      at [] e =
          instance_stays_by S sound fits new free recorded p goal of (opens 0 [] 0 (after_first p.goal.clause.children)) (facts_of S M 0 [] p.goal.clause (omega arith) of.clause) (facts_free 0 [] p.goal.clause goal.clause) p.goal.clause.head q e
      at (k ∷ ks) e =
          let R : State = with_universe S in
          let lead = lead_universe S M sound in
          let there = goal_later S R M lead.later p.goal of in
          let facts = facts_of R M (suc S.newest_universe) (k ∷ ks) p.goal.clause (omega arith) there.clause in
          let ts : Forest = opens (suc S.newest_universe) (k ∷ ks) 0 (after_first p.goal.clause.children) in
          let none_in = facts_free (suc S.newest_universe) (k ∷ ks) p.goal.clause goal.clause in
          instance_stays_by R lead.sound (fits_later lead.later fits) new free recorded (instance_of p (k ∷ ks) ts) (instance_free p (k ∷ ks) ts goal none_in) (instance_is_of R M p (k ∷ ks) ts there facts) ts facts none_in p.goal.clause.head q e

  -- Goals in order

  all_free : (S : State) → IsSound S M → ValuesFit S M → CountsNew S M → HasNoParameter S M → (before_it → RegionsHaveNoParameter S) → (ps : List Pending) → GoalsAreOf S M ps → GoalsHaveNoParameter ps → (q : List Pending × State)
      → all_by (tried_by_tables Q K l) S ps ≡ Some q → StaysFree before_it M q
  all_free S sound fits new free recorded [] of goals q e = same_outcome (StaysFree before_it M) ([], S) q e (record { values = free; goals = goals; regions = recorded })
  all_free S sound fits new free recorded (p ∷ ps) of goals q e =
      at (tried_by_tables Q K l S p) refl (λ R sound fits new free recorded_then of r e. all_free R sound fits new free recorded_then ps of (All-tail (λ (p : Pending). GoalHasNoParameter p.goal) p ps goals) r e) e
    where
      rest : (r : List Pending × State) → StaysFree before_it M r → (o : Outcome) → ((s : List Pending × State) → o ≡ Some s → StaysFree before_it M s) → before r.0 o ≡ Some q → StaysFree before_it M q
      rest r left None f e = cc
      rest r left (Some s) f e =
          let more = f s refl in
          same_outcome (StaysFree before_it M) (r.0 ++ s.0, s.1) q e (record { values = more.values; goals = All-append (λ (p : Pending). GoalHasNoParameter p.goal) r.0 s.0 left.goals more.goals; regions = more.regions })

      at : (o : Outcome) → tried_by_tables Q K l S p ≡ o
          → ((R : State) → IsSound R M → ValuesFit R M → CountsNew R M → HasNoParameter R M → (before_it → RegionsHaveNoParameter R) → GoalsAreOf R M ps → (r : List Pending × State) → all_by (tried_by_tables Q K l) R ps ≡ Some r → StaysFree before_it M r)
          → next o (λ r. before r.0 (all_by (tried_by_tables Q K l) r.1 ps)) ≡ Some q → StaysFree before_it M q
      at None f ih e = cc
      at (Some r) f ih e =
          let leaves = tried_leaves_by Q reads_terms K reads l listing M S sound fits new p (All-head (λ (p : Pending). GoalIsOf S M p.goal) p ps of) r f in
          let stay = tried_free_by S sound fits new free recorded p (All-head (λ (p : Pending). GoalIsOf S M p.goal) p ps of) (All-head (λ (p : Pending). GoalHasNoParameter p.goal) p ps goals) r f in
          rest r stay (all_by (tried_by_tables Q K l) r.1 ps)
          (λ s g. ih r.1 leaves.leads.sound (fits_later leaves.leads.later fits) (counts_still S r.1 M leaves.leads.later new) stay.values stay.regions
          (goals_later S r.1 M leaves.leads.later ps (All-tail (λ (p : Pending). GoalIsOf S M p.goal) p ps of)) s g) e

  -- Passes

  pass_free : (S T : State) → IsSound S M → ValuesFit S M → CountsNew S M → HasNoParameter S M → (before_it → RegionsHaveNoParameter S) → GoalsAreOf S M S.pending → GoalsHaveNoParameter S.pending → pass_by (tried_by_tables Q K l) S ≡ Some T
      → StaysFree before_it M (T.pending, T)
  pass_free S T sound fits new free recorded of goals e = at (all_by (tried_by_tables Q K l) S S.pending) refl e
    where
      at : (o : Outcome) → all_by (tried_by_tables Q K l) S S.pending ≡ o → next o (λ q. Some (with_staying q)) ≡ Some T → StaysFree before_it M (T.pending, T)
      at None f e = cc
      at (Some q) f e =
          let stay = all_free S sound fits new free recorded S.pending of goals q f in
          subst (λ (R : State). StaysFree before_it M (R.pending, R)) (let is : with_staying q ≡ T = cc in is) (record { values = stay.values; goals = stay.goals; regions = stay.regions })

  pub passes_free_by : (n : ℕ) (S T : State) → IsSound S M → ValuesFit S M → CountsNew S M → HasNoParameter S M → (before_it → RegionsHaveNoParameter S) → GoalsAreOf S M S.pending → GoalsHaveNoParameter S.pending
      → passes_by (tried_by_tables Q K l) n S ≡ Some T → StaysFree before_it M (T.pending, T)
  passes_free_by zero S T sound fits new free recorded of goals e = subst (λ (R : State). StaysFree before_it M (R.pending, R)) (let is : S ≡ T = cc in is) (record { values = free; goals = goals; regions = recorded })
  passes_free_by (suc n) S T sound fits new free recorded of goals e =
      at (pass_by (tried_by_tables Q K l) S) refl (λ R sound fits new free recorded_then of goals e. passes_free_by n R T sound fits new free recorded_then of goals e) e
    where
      goes : (R : State) → StaysFree before_it M (R.pending, R) → (b : Bool) → (passes_by (tried_by_tables Q K l) n R ≡ Some T → StaysFree before_it M (T.pending, T)) → (if b then passes_by (tried_by_tables Q K l) n R else Some R) ≡ Some T → StaysFree before_it M (T.pending, T)
      goes R stay true f e = f e
      goes R stay false f e = subst (λ (R : State). StaysFree before_it M (R.pending, R)) (let is : R ≡ T = cc in is) stay

      at : (o : Option State) → pass_by (tried_by_tables Q K l) S ≡ o
          → ((R : State) → IsSound R M → ValuesFit R M → CountsNew R M → HasNoParameter R M → (before_it → RegionsHaveNoParameter R) → GoalsAreOf R M R.pending → GoalsHaveNoParameter R.pending → passes_by (tried_by_tables Q K l) n R ≡ Some T
          → StaysFree before_it M (T.pending, T))
          → next o (λ R. if gave_a_value S.variables R.variables then passes_by (tried_by_tables Q K l) n R else Some R) ≡ Some T → StaysFree before_it M (T.pending, T)
      at None f ih e = cc
      at (Some R) f ih e =
          let leaves = pass_leaves_by Q reads_terms K reads l listing M S R sound fits new of f in
          let stay = pass_free S R sound fits new free recorded of goals f in
          goes R stay (gave_a_value S.variables R.variables)
          (λ e. ih R leaves.leads.sound (fits_later leaves.leads.later fits) (counts_still S R M leaves.leads.later new) stay.values stay.regions leaves.goals stay.goals e) e

-- What settling and responding leave

module _ {W : Type 0} (Q : ProjectionTables W) (reads_terms : (i : AssocId) → ReadsWell (Q i)) (K : GoalTable W) (reads : ReadsWell K) (l : Listing) (listing : IsListing l) (S T : State) (L : Live) (sound : IsSound S L) (fits : ValuesFit S L) (of : GoalsAreOf S L S.pending)
    (passed : passes_by (tried_by_tables Q K l) 8 S ≡ Some T) where
  abbrev M : Live
  M = with_new S L

  leaves_free : HasNoParameter S L → GoalsHaveNoParameter S.pending → StaysFree (RegionsHaveNoParameter S) M (T.pending, T)
  leaves_free free goals = passes_free_by Q reads_terms K reads l listing M (RegionsHaveNoParameter S) 8 S T (sound_with_new S L sound) (fits_with_new S L fits) (new_count S L) (λ n i t c e v. free n i t (counts_as S L n i e c) e v) (λ r. r)
      (goals_with_new S L S.pending of) goals passed

  pub leaves_goals : LeavesGoals S T L T.pending (HasNoParameter S L × GoalsHaveNoParameter S.pending)
  leaves_goals =
      let leaves = passes_leave_by Q reads_terms K reads l listing M 8 S T (sound_with_new S L sound) (fits_with_new S L fits) (new_count S L) (goals_with_new S L S.pending of) passed in
      record {
        follows = record { live = M; within = λ n h c. still_counts S L n c; sound = leaves.leads.sound; fits = fits_later leaves.leads.later (fits_with_new S L fits); later = fewer_later S L T leaves.leads.later };
        goals = leaves.goals;
        no_parameter = λ free. let stay = leaves_free free.0 free.1 in (stay.values, stay.goals);
        regions_without = λ free r. (leaves_free free.0 free.1).regions r;
      }

  pub roots_without : RootsCount S L → HasNoParameter S L → GoalsHaveNoParameter S.pending → holds is_param (root_values T) ≡ false
  roots_without roots free goals =
      let leaves = passes_leave_by Q reads_terms K reads l listing M 8 S T (sound_with_new S L sound) (fits_with_new S L fits) (new_count S L) (goals_with_new S L S.pending of) passed in
      values-free T M (roots-later S T M leaves.leads.later (λ n i e r. still_counts S L n (roots n i e r))) l listing leaves.leads.sound (leaves_free free goals).values

pub settling_follows_by : {W : Type 0} (Q : ProjectionTables W) → ((i : AssocId) → ReadsWell (Q i)) → (K : GoalTable W) → ReadsWell K → (l : Listing) → IsListing l → (S T : State) (L : Live) (c : Certainty) → IsSound S L → ValuesFit S L → GoalsAreOf S L S.pending → settled_by_tables Q K l S ≡ Some (c, T)
    → LeavesGoals S T L T.pending (HasNoParameter S L × GoalsHaveNoParameter S.pending)
settling_follows_by Q reads_terms K reads l listing S T L c sound fits of e = leaves_goals Q reads_terms K reads l listing S T L sound fits of (passed_by Q K l S T c e)

pub responding_brings_none_by : {W : Type 0} (Q : ProjectionTables W) → ((i : AssocId) → ReadsWell (Q i)) → (K : GoalTable W) → ReadsWell K → (l : Listing) → IsListing l → (S : State) (L : Live) (c : Certainty) (r : Response) → IsSound S L → ValuesFit S L → GoalsAreOf S L S.pending → RootsCount S L
    → HasNoParameter S L → GoalsHaveNoParameter S.pending → responded_by_tables Q K l S c ≡ Some r → holds is_param r.values ≡ false
responding_brings_none_by Q reads_terms K reads l listing S L c r sound fits of roots free goals e =
    let a = answered_by Q K l S c r e in
    subst (λ (r : Response). holds is_param r.values ≡ false) a.is (renumbered-free (open_numbers a.last) (root_values a.last) (roots_without Q reads_terms K reads l listing S a.last L sound fits of a.passed roots free goals))
