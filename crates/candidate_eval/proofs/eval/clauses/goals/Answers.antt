use Rattle.std.proofs.Common.{[], ◌∷◌, ◌++◌, List, get_or, sym, ◌∙◌, ap}
use Rattle.std.proofs.lemmas.List.{map_more, take_all}
use Rattle.ir_trees.specs.declared.ir.kinds.Clause.{Clause}
use Rattle.ir_trees.specs.declared.ir.kinds.Goal.{Goal}
use Rattle.candidate_eval.specs.Dynamic.ObjectRequirements.{goals_in}
use Rattle.candidate_eval.proofs.Dynamic.ObjectCandidates.{goal_with}
use Rattle.candidate_eval.proofs.eval.clauses.goals.Goals as goal

pub loop-clause-init : goal.loop-clause-init
loop-clause-init c = c.new-list.ensures.items

pub loop-clause-preserved : goal.loop-clause-preserved
loop-clause-preserved c =
    let past : Clause = record { 0 = 0 } in
    let x = get_or c.args.clauses.now c.loop-clause.clause-index past in
    c.in_ok-push.ensures.items
    ∙ (ap (λ (gs : List (Goal Clause)). gs ++ goal_with c.args.env x ∷ []) c.loop-clause.invariant ∙ sym (map_more (goal_with c.args.env) c.args.clauses.now c.loop-clause.clause-index past c.loop-clause-test.true))

pub returns-clause-are : goal.returns-clause-are
returns-clause-are c = c.loop-clause.invariant ∙ ap (goals_in c.args.env) (take_all c.loop-clause.clause-index c.args.clauses.now c.loop-clause-test.false)
