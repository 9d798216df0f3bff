-- Settling with the tables takes no variable away.
use Rattle.std.proofs.Common.{◌≡◌, ◌≤◌, ℕ, zero, suc, Bool, true, false, ◌||◌, List, [], ◌∷◌, ◌++◌, Option, Some, None, arith, length, refl, ap, subst, if◌then◌else◌}
use Rattle.std.proofs.Math.Nat.{le_trans}
use Rattle.ir_trees.specs.declared.ir.heads.ClauseHead.TheVariants as Cl
use Rattle.ir_trees.specs.declared.ir.heads.Head.{Head}
use Rattle.ir_trees.specs.declared.ir.heads.Head.TheVariants as H
use Rattle.ir_trees.specs.declared.ir.heads.PartHead.TheVariants as P
use Rattle.ir_trees.specs.declared.ir.kinds.AliasKind.TheVariants as A
use Rattle.ir_trees.specs.declared.ir.kinds.AssocId.{AssocId}
use Rattle.ir_trees.specs.Syntax.Trees.{Forest, Tree}
use Rattle.ir_trees.specs.Unification.Substitutions.{alone}
use Rattle.candidate_eval.specs.declared.eval.certainty.Certainty.{Certainty}
use Rattle.candidate_eval.specs.Derivations.Characterization.{bound_kinds}
use Rattle.candidate_eval.specs.Derivations.ImplRules.{TraitGoal}
use Rattle.candidate_eval.specs.Judges.States.{Pending, State, next, resolved_tree}
use Rattle.rounds_judge.specs.Aliases.Listed.{Listing, listed}
use Rattle.rounds_judge.specs.Equations.Equating.{equated, without_goals}
use Rattle.rounds_judge.specs.Equations.Opening.{are_open}
use Rattle.rounds_judge.specs.Equations.Standing.{IsListing}
use Rattle.rounds_judge.specs.Obligations.Settling.{Outcome, alias_of, arguments_of, before, first_fact, gave_a_value, has_unlisted, instance_of, instantiated, recorded, stays, term_of, with_certainty, with_staying}
use Rattle.rounds_judge.specs.Projections.ProjectionGoals.{ProjectionTables, new_term, term_asked, term_variable, with_term}
use Rattle.rounds_judge.specs.Projections.ProjectionSettling.{alias_asked, asked_term, projected_with, related_with, settled_by_tables, tried_as_by, tried_by_tables, tried_term, with_value}
use Rattle.rounds_judge.specs.Table.GoalTable.{GoalTable}
use Rattle.rounds_judge.specs.Table.Keys.{trait_goal_of}
use Rattle.rounds_judge.specs.Table.TableSettling.{all_by, pass_by, passes_by, tried_trait}
use Rattle.rounds_judge.proofs.Lawfulness.OpenEquations.{keeps_variables}
use Rattle.rounds_judge.proofs.Table.TableFresh.{new_info, one_longer}
use Rattle.rounds_judge.proofs.Table.TableVariables.{AsMany, Leaves, by_state, equated_many, opened_many, projected_many, related_many, trait_many}

module _ {W : Type 0} (Q : ProjectionTables W) (K : GoalTable W) (l : Listing) (listing : IsListing l) where
  term_many : (S : State) (p : Pending) (i : AssocId) (args : Forest) (t : Tree) → Leaves S (tried_term (Q i) l S p i args t)
  term_many S p i args t q h = at (tried_trait (Q i) l R p g) refl h
    where
      R : State
      R = with_term S p.goal.env i args

      g : TraitGoal
      g = term_asked S p.goal.env i args

      first : AsMany S R
      first = let one = one_longer (new_info S (term_variable S p.goal.env i args)) S.variables in omega (arith, one)

      by : (qs : List Pending) (T : State) → AsMany R T → with_value l S p t T qs ≡ Some q → AsMany S q.1
      by [] T m h = le_trans first (le_trans m (keeps_variables l listing T q.1 p.goal.env (alone (new_term S)) (alone t) q.0 h))
      by (x ∷ xs) T m h = by_state S S (p ∷ []) q h (omega arith)

      at : (o : Outcome) → tried_trait (Q i) l R p g ≡ o → next o (λ r. with_value l S p t r.1 r.0) ≡ Some q → AsMany S q.1
      at None f h = cc
      at (Some r) f h = by r.0 r.1 (trait_many (Q i) l R p g r f) h

  asked_many : (S : State) (p : Pending) (i : AssocId) (args : Forest) (t : Tree) → Leaves S (asked_term (Q i) l S p i args t)
  asked_many S p i args t q h = at (are_open l S) h
    where
      at : (o : Bool) → (if o then tried_term (Q i) l S p i args t else stays S p) ≡ Some q → AsMany S q.1
      at true h = term_many S p i args t q h
      at false h = by_state S S (p ∷ []) q h (omega arith)

  projection_many : (S : State) (p : Pending) (i : AssocId) (ts : Forest) (o : Option Tree) → Leaves S (projected_with Q l S p i ts o)
  projection_many S p i ts None q h = asked_many S p i (arguments_of ts) (term_of ts) q h
  projection_many S p i ts (Some u) q h = projected_many K l S p (term_of ts) (Some u) q h

  alias_many : (S : State) (p : Pending) (x : Head) (below : Forest) (u : Tree) → Leaves S (alias_asked Q l S p x below u)
  alias_many S p (H.Alias A.Projection i) args u q h = asked_many S p (record { 0 = i.0 }) args u q h
  alias_many S p _ below u q h = by_state S S (p ∷ []) q h (omega arith)

  relation_many : (S : State) (p : Pending) (t u : Tree) → Leaves S (related_with Q l S p t u)
  relation_many S p t u q h = at (has_unlisted l S (alone t) || has_unlisted l S (alone u)) h
    where
      at : (o : Bool) → (if o then alias_asked Q l S p t.head t.children u else without_goals (equated l S (alone t) (alone u))) ≡ Some q → AsMany S q.1
      at true h = alias_many S p t.head t.children u q h
      at false h = equated_many K l S p false t u q h

  instance_many : (S : State) (p : Pending) (ts : Forest) (h : Head) → Leaves S (tried_as_by Q K l S p ts h)
  instance_many S p ts (H.Part (P.Clause (Cl.Trait i m))) q e = trait_many K l S p (trait_goal_of p.goal.env i m ts) q e
  instance_many S p ts (H.Part (P.Clause (Cl.Projection i))) q e = projection_many S p i ts (listed l (resolved_tree S (alias_of i ts))) q e
  instance_many S p ts (H.Part (P.Clause Cl.AliasRelate)) q e = relation_many S p (first_fact ts) (term_of ts) q e
  instance_many S p ts (H.Part (P.Clause Cl.ConstEquate)) q e = related_many K l S p (first_fact ts) (term_of ts) q e
  instance_many S p ts (H.Part (P.Clause Cl.TypeOutlives)) q e = by_state S (recorded S p.goal.clause) [] q e (omega arith)
  instance_many S p ts (H.Part (P.Clause Cl.RegionOutlives)) q e = by_state S (recorded S p.goal.clause) [] q e (omega arith)
  instance_many S p ts _ q e = by_state S S (p ∷ []) q e (omega arith)

  tried_many : (S : State) (p : Pending) → Leaves S (tried_by_tables Q K l S p)
  tried_many S p q e =
      let f = instantiated S p.goal.clause in
      le_trans (opened_many K l S (bound_kinds p.goal.clause.children) _) (instance_many f.0 (instance_of p (bound_kinds p.goal.clause.children) f.1) f.1 p.goal.clause.head q e)

  all_many : (S : State) (ps : List Pending) → Leaves S (all_by (tried_by_tables Q K l) S ps)
  all_many S [] q e = by_state S S [] q e (omega arith)
  all_many S (p ∷ ps) q e = at (tried_by_tables Q K l S p) (tried_many S p) (λ R. all_many R ps) e
    where
      after : (r : List Pending × State) (o : Outcome) → AsMany S r.1 → Leaves r.1 o → before r.0 o ≡ Some q → AsMany S q.1
      after r None m f e = cc
      after r (Some s) m f e = by_state S s.1 (r.0 ++ s.0) q e (le_trans m (f s refl))

      at : (o : Outcome) → Leaves S o → ((R : State) → Leaves R (all_by (tried_by_tables Q K l) R ps)) → next o (λ r. before r.0 (all_by (tried_by_tables Q K l) r.1 ps)) ≡ Some q → AsMany S q.1
      at None f ih e = cc
      at (Some r) f ih e = after r (all_by (tried_by_tables Q K l) r.1 ps) (f r refl) (ih r.1) e

  pass_many : (S T : State) → pass_by (tried_by_tables Q K l) S ≡ Some T → AsMany S T
  pass_many S T e = at (all_by (tried_by_tables Q K l) S S.pending) (all_many S S.pending) e
    where
      at : (o : Outcome) → Leaves S o → next o (λ q. Some (with_staying q)) ≡ Some T → AsMany S T
      at None f e = cc
      at (Some q) f e = subst (AsMany S) (let is : with_staying q ≡ T = cc in is) (f q refl)

  passes_many : (n : ℕ) (S T : State) → passes_by (tried_by_tables Q K l) n S ≡ Some T → AsMany S T
  passes_many zero S T e = subst (AsMany S) (let is : S ≡ T = cc in is) (omega arith)
  passes_many (suc n) S T e = at (pass_by (tried_by_tables Q K l) S) (pass_many S) (λ R. passes_many n R T) e
    where
      goes : (R : State) → AsMany S R → (b : Bool) → (passes_by (tried_by_tables Q K l) n R ≡ Some T → AsMany R T) → (if b then passes_by (tried_by_tables Q K l) n R else Some R) ≡ Some T → AsMany S T
      goes R m true f e = le_trans m (f e)
      goes R m false f e = subst (AsMany S) (let is : R ≡ T = cc in is) m

      at : (o : Option State) → ((R : State) → o ≡ Some R → AsMany S R) → ((R : State) → passes_by (tried_by_tables Q K l) n R ≡ Some T → AsMany R T)
          → next o (λ R. if gave_a_value S.variables R.variables then passes_by (tried_by_tables Q K l) n R else Some R) ≡ Some T → AsMany S T
      at None f ih e = cc
      at (Some R) f ih e = goes R (f R refl) (gave_a_value S.variables R.variables) (ih R) e

  pub settling_keeps_variables_by : (S T : State) (c : Certainty) → settled_by_tables Q K l S ≡ Some (c, T) → length S.variables ≤ length T.variables
  settling_keeps_variables_by S T c e = at (passes_by (tried_by_tables Q K l) 8 S) (passes_many 8 S) e
    where
      at : (o : Option State) → ((R : State) → o ≡ Some R → AsMany S R) → next o (λ U. Some (with_certainty U)) ≡ Some (c, T) → AsMany S T
      at None f e = cc
      at (Some R) f e = subst (AsMany S) (ap (λ (q : Certainty × State). q.1) (let is : with_certainty R ≡ (c, T) = cc in is)) (f R refl)
