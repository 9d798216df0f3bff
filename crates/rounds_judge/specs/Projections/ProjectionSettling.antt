-- Pending goals are evaluated with a table of goals of traits, and with tables that say what projections are.
use Rattle.std.specs.Prelude.{◌||◌, Option, Some, None, List, [], ◌∷◌, if◌then◌else◌}
use Rattle.ir_trees.specs.declared.ir.heads.ClauseHead.TheVariants as Cl
use Rattle.ir_trees.specs.declared.ir.heads.Head.{Head}
use Rattle.ir_trees.specs.declared.ir.heads.Head.TheVariants as H
use Rattle.ir_trees.specs.declared.ir.heads.PartHead.TheVariants as P
use Rattle.ir_trees.specs.declared.ir.kinds.AliasKind.TheVariants as A
use Rattle.ir_trees.specs.declared.ir.kinds.AssocId.{AssocId}
use Rattle.ir_trees.specs.Syntax.Trees.{Forest, Tree}
use Rattle.ir_trees.specs.Unification.Substitutions.{alone}
use Rattle.candidate_eval.specs.declared.eval.certainty.Certainty.{Certainty}
use Rattle.candidate_eval.specs.Derivations.Characterization.{bound_kinds}
use Rattle.candidate_eval.specs.Outcomes.Certainties.{certainty_and}
use Rattle.candidate_eval.specs.Outcomes.Responses.{Response}
use Rattle.candidate_eval.specs.Judges.States.{State, Pending, next, resolved_tree}
use Rattle.rounds_judge.specs.Aliases.Listed.{Listing, listed}
use Rattle.rounds_judge.specs.Equations.Equating.{equated, without_goals}
use Rattle.rounds_judge.specs.Equations.Opening.{are_open, equation}
use Rattle.rounds_judge.specs.Obligations.Responding.{response}
use Rattle.rounds_judge.specs.Obligations.Settling.{Outcome, alias_of, arguments_of, first_fact, has_unlisted, instance_of, instantiated, projected, stays, term_of, tried_as, with_certainty}
use Rattle.rounds_judge.specs.Projections.ProjectionGoals.{ProjectionTables, new_term, term_asked, with_term}
use Rattle.rounds_judge.specs.Table.GoalTable.{GoalTable}
use Rattle.rounds_judge.specs.Table.Keys.{trait_goal_of}
use Rattle.rounds_judge.specs.Table.TableSettling.{Try, passes_by, tried_trait}

-- Once the new variable has its value it is made equal to the term, which may leave goals; where the goal of the variable stays, so does the
-- clause.
abbrev pub with_value : Listing → State → Pending → Tree → State → List Pending → Outcome
with_value l S p t T [] = equation l T p.goal.env (alone (new_term S)) (alone t)
with_value l S p t T (q ∷ qs) = stays S p

-- A clause that the projection of these arguments is the term: the table is asked what the projection is. A refusal refuses the clause.
abbrev pub tried_term : {W : Type 0} → GoalTable W → Listing → State → Pending → AssocId → Forest → Tree → Outcome
tried_term T l S p i args t =
    next (tried_trait T l (with_term S p.goal.env i args) p (term_asked S p.goal.env i args)) (λ q. with_value l S p t q.1 q.0)

-- It is asked where aliases are open.
abbrev pub asked_term : {W : Type 0} → GoalTable W → Listing → State → Pending → AssocId → Forest → Tree → Outcome
asked_term T l S p i args t = if are_open l S then tried_term T l S p i args t else stays S p

-- A projection clause: what is listed goes before what tables say.
abbrev pub projected_with : {W : Type 0} → ProjectionTables W → Listing → State → Pending → AssocId → Forest → Option Tree → Outcome
projected_with Q l S p i ts None = asked_term (Q i) l S p i (arguments_of ts) (term_of ts)
projected_with Q l S p i ts (Some u) = projected l S p (term_of ts) (Some u)

-- A projection that is to be one with a tree is asked for; what else has an alias that isn't listed stays.
abbrev pub alias_asked : {W : Type 0} → ProjectionTables W → Listing → State → Pending → Head → Forest → Tree → Outcome
alias_asked Q l S p (H.Alias A.Projection i) args t = asked_term (Q (record { 0 = i.0 })) l S p (record { 0 = i.0 }) args t
alias_asked Q l S p h below t = stays S p

-- two trees that are to be one
abbrev pub related_with : {W : Type 0} → ProjectionTables W → Listing → State → Pending → Tree → Tree → Outcome
related_with Q l S p t u =
    if has_unlisted l S (alone t) || has_unlisted l S (alone u) then alias_asked Q l S p t.head t.children u else without_goals (equated l S (alone t) (alone u))

-- An instance by the head of its clause.
abbrev pub tried_as_by : {W : Type 0} → ProjectionTables W → GoalTable W → Listing → State → Pending → Forest → Head → Outcome
tried_as_by Q T l S p ts (H.Part (P.Clause (Cl.Trait i q))) = tried_trait T l S p (trait_goal_of p.goal.env i q ts)
tried_as_by Q T l S p ts (H.Part (P.Clause (Cl.Projection i))) = projected_with Q l S p i ts (listed l (resolved_tree S (alias_of i ts)))
tried_as_by Q T l S p ts (H.Part (P.Clause Cl.AliasRelate)) = related_with Q l S p (first_fact ts) (term_of ts)
tried_as_by Q T l S p ts h = tried_as l S p ts h

abbrev pub tried_by_tables : {W : Type 0} → ProjectionTables W → GoalTable W → Listing → Try
tried_by_tables Q T l S p =
    let f = instantiated S p.goal.clause in
    tried_as_by Q T l f.0 (instance_of p (bound_kinds p.goal.clause.children) f.1) f.1 p.goal.clause.head

-- What is pending, evaluated with the tables; and the response then, no surer than that.

abbrev pub settled_by_tables : {W : Type 0} → ProjectionTables W → GoalTable W → Listing → State → Option (Certainty × State)
settled_by_tables Q T l S = next (passes_by (tried_by_tables Q T l) 8 S) (λ U. Some (with_certainty U))

abbrev pub responded_by_tables : {W : Type 0} → ProjectionTables W → GoalTable W → Listing → State → Certainty → Option Response
responded_by_tables Q T l S c = next (settled_by_tables Q T l S) (λ q. Some (response q.1 (certainty_and c q.0)))
