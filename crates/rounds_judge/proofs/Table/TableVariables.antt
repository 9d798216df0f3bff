-- Settling with a table takes no variable away.
use Rattle.std.proofs.Common.{◌≡◌, ◌≤◌, ℕ, zero, suc, Bool, true, false, ◌&&◌, ◌||◌, List, [], ◌∷◌, ◌++◌, map, Option, Some, None, arith, length, refl, ap, subst, if◌then◌else◌}
use Rattle.std.proofs.Math.Nat.{le_trans}
use Rattle.ir_trees.specs.declared.ir.heads.ClauseHead.TheVariants as Cl
use Rattle.ir_trees.specs.declared.ir.heads.Head.{Head}
use Rattle.ir_trees.specs.declared.ir.heads.Head.TheVariants as H
use Rattle.ir_trees.specs.declared.ir.heads.PartHead.TheVariants as P
use Rattle.ir_trees.specs.Unification.Substitutions.{alone}
use Rattle.ir_trees.specs.Syntax.Trees.{Kind, Forest, Tree}
use Rattle.candidate_eval.specs.declared.eval.certainty.Certainty.{Certainty}
use Rattle.candidate_eval.specs.declared.eval.variable.CanonicalVar.{CanonicalVar}
use Rattle.candidate_eval.specs.Derivations.Characterization.{Bounded, bound_kinds, group_at}
use Rattle.candidate_eval.specs.Derivations.ImplRules.{TraitGoal}
use Rattle.candidate_eval.specs.Outcomes.Responses.{Response}
use Rattle.candidate_eval.specs.Judges.States.{State, Pending, Values, next, resolved, resolved_tree, valued, valued_tree}
use Rattle.rounds_judge.specs.Equations.Binding.{numbered}
use Rattle.rounds_judge.specs.Equations.Equating.{equated, without_goals}
use Rattle.rounds_judge.specs.Equations.Opening.{are_open}
use Rattle.rounds_judge.specs.Table.GoalTable.{GoalTable, verdict_in}
use Rattle.rounds_judge.specs.Table.Keys.{Key, goal_trees, key_at, numbers_at, trait_goal_of}
use Rattle.rounds_judge.specs.Aliases.Listed.{Listing, listed}
use Rattle.rounds_judge.specs.Obligations.Settling.{Outcome, alias_of, before, first_fact, gave_a_value, has_unlisted, instance_of, instantiated, projected, recorded, related, stays, term_of, with_certainty, with_staying}
use Rattle.rounds_judge.specs.Table.TableSettling.{are_bare, own_variable, with_open, named_at, lift_to, translation, variables_row, ready_for, given, tried_by, tried_trait, tried_as_with, tried_with, all_by, pass_by, passes_by, settled_with}
use Rattle.rounds_judge.specs.Table.Verdicts.{Verdict, Yes, Maybe, Refused}
use Rattle.rounds_judge.proofs.Unifiers.EquatingLaws.{no_goals}
use Rattle.rounds_judge.proofs.Equations.Looks.{equated_variables}
use Rattle.rounds_judge.proofs.Table.TableFresh.{new_info, one_longer}

abbrev pub AsMany : State → State → Type 0
AsMany S T = length S.variables ≤ length T.variables

-- what comes of a goal has at least as many
abbrev pub Leaves : State → Outcome → Type 0
Leaves S o = (q : List Pending × State) → o ≡ Some q → AsMany S q.1

pub by_state : (S R : State) (ps : List Pending) (q : List Pending × State) → Some (ps, R) ≡ Some q → AsMany S R → AsMany S q.1
by_state S R ps q e m = subst (λ (q : List Pending × State). AsMany S q.1) (let is : (ps, R) ≡ q = cc in is) m

named_many : (S : State) (cs : List CanonicalVar) (os : List (Option ℕ)) → AsMany S (named_at S cs os).0
named_many S (c ∷ cs) (Some n ∷ os) = named_many S cs os
named_many S (c ∷ cs) (None ∷ os) =
    let one = one_longer (new_info S c) S.variables in
    let rest = named_many (with_open S c) cs os in
    omega (arith, one, rest)
named_many S [] os = omega arith
named_many S (c ∷ cs) [] = omega arith

pub given_many : (l : Listing) (S T : State) (k : Key) (ns : List ℕ) (r : Response) → given l S k ns r ≡ Some T → AsMany S T
given_many l S T k ns r e = at (equated l begun.0 (variables_row k.variables ns) (valued says r.values)) refl e
  where
    begun : State × List ℕ
    begun = ready_for S k ns r

    says : Values
    says = translation (lift_to begun.0 k r) begun.1

    at : (o : Option State) → equated l begun.0 (variables_row k.variables ns) (valued says r.values) ≡ o
        → next o (λ R. Some (record R { regions = R.regions ++ map (valued_tree says) r.regions })) ≡ Some T → AsMany S T
    at None f e = cc
    at (Some R) f e =
        let first = named_many S r.vars (numbered (own_variable k.variables ns r.values) 0 r.vars) in
        let second = equated_variables l begun.0 R (variables_row k.variables ns) (valued says r.values) f in
        subst (AsMany S) (let is : record R { regions = R.regions ++ map (valued_tree says) r.regions } ≡ T = cc in is) (omega (arith, first, second))

module _ {W : Type 0} (K : GoalTable W) (l : Listing) where
  pub trait_many : (S : State) (p : Pending) (g : TraitGoal) → Leaves S (tried_trait K l S p g)
  trait_many S p g q e = at (are_bare (resolved S (goal_trees g))) e
    where
      by : (v : Option (Verdict W)) → tried_by l S p (key_at S g) (numbers_at S g) v ≡ Some q → AsMany S q.1
      by (Some Refused) e = cc
      by (Some (Maybe r w)) e = by_state S S (p ∷ []) q e (omega arith)
      by None e = by_state S S (p ∷ []) q e (omega arith)
      by (Some (Yes r w)) e = given_many l S q.1 (key_at S g) (numbers_at S g) r (no_goals (given l S (key_at S g) (numbers_at S g) r) q.0 q.1 e).is

      at : (b : Bool) → (if b then tried_by l S p (key_at S g) (numbers_at S g) (verdict_in K (key_at S g)) else stays S p) ≡ Some q → AsMany S q.1
      at true e = by (verdict_in K (key_at S g)) e
      at false e = by_state S S (p ∷ []) q e (omega arith)

  -- it stays, or two trees are equated
  pub equated_many : (S : State) (p : Pending) (b : Bool) (t u : Tree) → Leaves S (if b then stays S p else without_goals (equated l S (alone t) (alone u)))
  equated_many S p true t u q e = by_state S S (p ∷ []) q e (omega arith)
  equated_many S p false t u q e = let same = equated_variables l S q.1 (alone t) (alone u) (no_goals (equated l S (alone t) (alone u)) q.0 q.1 e).is in omega (arith, same)

  pub related_many : (S : State) (p : Pending) (t u : Tree) → Leaves S (related l S p t u)
  related_many S p t u q e = equated_many S p (has_unlisted l S (alone t) || has_unlisted l S (alone u)) t u q e

  pub projected_many : (S : State) (p : Pending) (t : Tree) (o : Option Tree) → Leaves S (projected l S p t o)
  projected_many S p t None q e = by_state S S (p ∷ []) q e (omega arith)
  projected_many S p t (Some u) q e = equated_many S p (are_open l S && has_unlisted l S (alone t)) u t q e

  instance_many : (S : State) (p : Pending) (ts : Forest) (h : Head) → Leaves S (tried_as_with K l S p ts h)
  instance_many S p ts (H.Part (P.Clause (Cl.Trait i m))) q e = trait_many S p (trait_goal_of p.goal.env i m ts) q e
  instance_many S p ts (H.Part (P.Clause (Cl.Projection i))) q e = projected_many S p (term_of ts) (listed l (resolved_tree S (alias_of i ts))) q e
  instance_many S p ts (H.Part (P.Clause Cl.AliasRelate)) q e = related_many S p (first_fact ts) (term_of ts) q e
  instance_many S p ts (H.Part (P.Clause Cl.ConstEquate)) q e = related_many S p (first_fact ts) (term_of ts) q e
  instance_many S p ts (H.Part (P.Clause Cl.TypeOutlives)) q e = by_state S (recorded S p.goal.clause) [] q e (omega arith)
  instance_many S p ts (H.Part (P.Clause Cl.RegionOutlives)) q e = by_state S (recorded S p.goal.clause) [] q e (omega arith)
  instance_many S p ts _ q e = by_state S S (p ∷ []) q e (omega arith)

  pub opened_many : (S : State) (ks : List Kind) (ts : Forest) → AsMany S (group_at S (Bounded ks ts)).0
  opened_many S [] ts = omega arith
  opened_many S (k ∷ ks) ts = omega arith

  tried_many : (S : State) (p : Pending) → Leaves S (tried_with K l S p)
  tried_many S p q e =
      let f = instantiated S p.goal.clause in
      le_trans (opened_many S (bound_kinds p.goal.clause.children) _) (instance_many f.0 (instance_of p (bound_kinds p.goal.clause.children) f.1) f.1 p.goal.clause.head q e)

  all_many : (S : State) (ps : List Pending) → Leaves S (all_by (tried_with K l) S ps)
  all_many S [] q e = by_state S S [] q e (omega arith)
  all_many S (p ∷ ps) q e = at (tried_with K l S p) (tried_many S p) (λ R. all_many R ps) e
    where
      after : (r : List Pending × State) (o : Outcome) → AsMany S r.1 → Leaves r.1 o → before r.0 o ≡ Some q → AsMany S q.1
      after r None m f e = cc
      after r (Some s) m f e = by_state S s.1 (r.0 ++ s.0) q e (le_trans m (f s refl))

      at : (o : Outcome) → Leaves S o → ((R : State) → Leaves R (all_by (tried_with K l) R ps)) → next o (λ r. before r.0 (all_by (tried_with K l) r.1 ps)) ≡ Some q → AsMany S q.1
      at None f ih e = cc
      at (Some r) f ih e = after r (all_by (tried_with K l) r.1 ps) (f r refl) (ih r.1) e

  pass_many : (S T : State) → pass_by (tried_with K l) S ≡ Some T → AsMany S T
  pass_many S T e = at (all_by (tried_with K l) S S.pending) (all_many S S.pending) e
    where
      at : (o : Outcome) → Leaves S o → next o (λ q. Some (with_staying q)) ≡ Some T → AsMany S T
      at None f e = cc
      at (Some q) f e = subst (AsMany S) (let is : with_staying q ≡ T = cc in is) (f q refl)

  passes_many : (n : ℕ) (S T : State) → passes_by (tried_with K l) n S ≡ Some T → AsMany S T
  passes_many zero S T e = subst (AsMany S) (let is : S ≡ T = cc in is) (omega arith)
  passes_many (suc n) S T e = at (pass_by (tried_with K l) S) (pass_many S) (λ R. passes_many n R T) e
    where
      goes : (R : State) → AsMany S R → (b : Bool) → (passes_by (tried_with K l) n R ≡ Some T → AsMany R T) → (if b then passes_by (tried_with K l) n R else Some R) ≡ Some T → AsMany S T
      goes R m true f e = le_trans m (f e)
      goes R m false f e = subst (AsMany S) (let is : R ≡ T = cc in is) m

      at : (o : Option State) → ((R : State) → o ≡ Some R → AsMany S R) → ((R : State) → passes_by (tried_with K l) n R ≡ Some T → AsMany R T)
          → next o (λ R. if gave_a_value S.variables R.variables then passes_by (tried_with K l) n R else Some R) ≡ Some T → AsMany S T
      at None f ih e = cc
      at (Some R) f ih e = goes R (f R refl) (gave_a_value S.variables R.variables) (ih R) e

  pub settling_keeps_variables : (S T : State) (c : Certainty) → settled_with K l S ≡ Some (c, T) → length S.variables ≤ length T.variables
  settling_keeps_variables S T c e = at (passes_by (tried_with K l) 8 S) (passes_many 8 S) e
    where
      at : (o : Option State) → ((R : State) → o ≡ Some R → AsMany S R) → next o (λ U. Some (with_certainty U)) ≡ Some (c, T) → AsMany S T
      at None f e = cc
      at (Some R) f e = subst (AsMany S) (ap (λ (q : Certainty × State). q.1) (let is : with_certainty R ≡ (c, T) = cc in is)) (f R refl)
