use Rattle.ir_trees.proofs.Growth.Kept.{args-kept}
use Rattle.candidate_assembly.proofs.Goals.TraitClauses.{fact-fits, fact-takes, fit-kept}
use Rattle.candidate_assembly.specs.Goals.TraitGoals.{trait_goal}
use Rattle.candidate_rounds.specs.Evaluators.Stopping.{IsTreeStop, clause_saying}
use Rattle.candidate_rounds.proofs.Table.Entering.{binder-unmade, goal-made, goal-seen, saying-unmade}
use Rattle.candidate_rounds.proofs.Stops.ResponseStops.{passed-on}
use Rattle.candidate_rounds.proofs.rounds.running.goal_in.Goals as goal

pub mk_clause-requires-clause-fits : goal.mk_clause-requires-clause-fits
mk_clause-requires-clause-fits c = fact-fits c.mk_vars.new.self.trees c.in_ok-vars.vars c.args.predicate c.in_ok-vars.ensures.made.sort (args-kept _ _ c.args.predicate.trait_ref.args c.mk_vars.ensures.made.kept c.requires.arguments).0

pub mk_clause-requires-clause-takes : goal.mk_clause-requires-clause-takes
mk_clause-requires-clause-takes c = λ strict.
    fact-takes c.mk_vars.new.self c.in_ok-vars.vars c.args.predicate c.in_ok-vars.ensures.made.sort (args-kept _ _ c.args.predicate.trait_ref.args c.mk_vars.ensures.made.kept c.requires.arguments).0
    (fit-kept c.args.cx.now c.mk_vars.new.self c.args.predicate.trait_ref c.mk_vars.ensures.made.kept c.requires.arguments c.requires.fit)

pub returns-clause-sort : goal.returns-clause-sort
returns-clause-sort c =
    goal-made c.args.cx.now c.mk_vars.new.self c.mk_clause.new.self c.in_ok-vars.vars c.args.param_env c.args.predicate c.in_ok-predicate.predicate c.mk_vars.ensures.made.kept c.mk_clause.ensures.made.kept c.requires.env c.requires.arguments
    c.in_ok-vars.ensures.made.sort c.in_ok-vars.ensures.made.tree c.in_ok-predicate.ensures.made.sort c.in_ok-predicate.ensures.made.tree

pub returns-clause-goal : goal.returns-clause-goal
returns-clause-goal c =
    goal-seen c.args.cx.now c.mk_vars.new.self c.mk_clause.new.self c.in_ok-vars.vars c.args.param_env c.args.predicate c.in_ok-predicate.predicate c.mk_vars.ensures.made.kept c.mk_clause.ensures.made.kept c.requires.env c.requires.arguments
    c.in_ok-vars.ensures.made.sort c.in_ok-vars.ensures.made.tree c.in_ok-predicate.ensures.made.tree

pub returns-in_err-vars-clause-cause : goal.returns-in_err-vars-clause-cause
returns-in_err-vars-clause-cause c =
    let t = clause_saying (trait_goal c.args.cx.now.trees c.args.param_env c.args.predicate) in
    let stop = c.in_err-vars.field-0.0 in
    let made = c.in_err-vars.ensures.made in
    passed-on (IsTreeStop c.mk_vars.new.self.trees t) c.from_residual.result stop c.from_residual.ensures.1 (binder-unmade c.args.cx.now c.mk_vars.new.self t stop made.unchanged made.cause)

pub returns-in_err-predicate-clause-cause : goal.returns-in_err-predicate-clause-cause
returns-in_err-predicate-clause-cause c =
    let old = c.args.cx.now in
    let mid = c.mk_vars.new.self in
    let new = c.mk_clause.new.self in
    let t = clause_saying (trait_goal old.trees c.args.param_env c.args.predicate) in
    let stop = c.in_err-predicate.field-0.0 in
    let made = c.in_err-predicate.ensures.made in
    passed-on (IsTreeStop new.trees t) c.from_residual-in_err-predicate.result stop c.from_residual-in_err-predicate.ensures.1
    (saying-unmade old mid c.in_ok-vars.vars c.args.param_env c.args.predicate c.mk_vars.ensures.made.kept c.requires.arguments c.in_ok-vars.ensures.made.sort c.in_ok-vars.ensures.made.tree new stop made.unchanged made.cause)
