use Rattle.ir_trees.specs.Instantiation.Folds.{arg_tree}
use Rattle.ir_trees.specs.Syntax.Words.{env_forest}
use Rattle.ir_trees.specs.Unification.Substitutions.{alone}
use Rattle.candidate_eval.specs.Interface.Evaluators.{pendings_of}
use Rattle.candidate_rounds.specs.Evaluators.Known.{listing, state}
use Rattle.candidate_rounds.specs.Evaluators.Stopping.{IsOpeningStop}
use Rattle.candidate_rounds.proofs.Evaluators.Between.{parts}
use Rattle.candidate_rounds.proofs.Evaluators.Following.{goals-follow}
use Rattle.candidate_rounds.proofs.Evaluators.Going.{goes-listing}
use Rattle.candidate_rounds.proofs.Evaluators.Interface.{eq-stopped, equation-none, equation-some, goals-all, keeps-going}
use Rattle.candidate_rounds.proofs.Stops.Accounting.{listed-stop}
use Rattle.candidate_rounds.proofs.rounds.evaluator.RoundsEvalCtxt.eq_and_get_goals.Goals as goal

pub returns-clause-kept : goal.returns-clause-kept
returns-clause-kept c = keeps-going c.args.self.now c.equation.new.self c.equation.ensures.goes c.recall_well_kept.ensures

pub returns-clause-follows : goal.returns-clause-follows
returns-clause-follows c =
    let ts = c.args.self.now.context.trees in
    let us = c.equation.new.self.context.trees in
    goals-follow c.args.self.now (env_forest ts c.args.env) (alone (arg_tree ts c.args.a)) (alone (arg_tree ts c.args.b)) c.equation.result (λ v. pendings_of us v.items) (state c.equation.new.self) (parts c.recall_well_kept.ensures).given c.equation.ensures.ok

pub returns-clause-ok : goal.returns-clause-ok
returns-clause-ok c =
    let ts = c.args.self.now.context.trees in
    let us = c.equation.new.self.context.trees in
    equation-some c.equation.result c.args.self.now (env_forest ts c.args.env) (alone (arg_tree ts c.args.a)) (alone (arg_tree ts c.args.b)) (λ v. pendings_of us v.items) (state c.equation.new.self) (parts c.recall_well_kept.ensures).given c.equation.ensures.ok

pub returns-clause-refused : goal.returns-clause-refused
returns-clause-refused c =
    let ts = c.args.self.now.context.trees in
    equation-none c.equation.result c.args.self.now (env_forest ts c.args.env) (alone (arg_tree ts c.args.a)) (alone (arg_tree ts c.args.b)) (parts c.recall_well_kept.ensures).given c.equation.ensures.refused

pub returns-clause-sort : goal.returns-clause-sort
returns-clause-sort c = goals-all c.equation.result c.equation.new.self (λ v. v.items) c.equation.ensures.sort

pub returns-clause-stopped : goal.returns-clause-stopped
returns-clause-stopped c = eq-stopped c.equation.result c.args.self.now c.equation.new.self c.equation.ensures.goes c.recall_well_kept.ensures c.equation.ensures.undone

pub returns-clause-cause : goal.returns-clause-cause
returns-clause-cause c =
    let old = c.args.self.now in
    let new = c.equation.new.self in
    let ts = old.context.trees in
    listed-stop (λ l s. IsOpeningStop new.context.trees l (state old) (env_forest ts c.args.env) (alone (arg_tree ts c.args.a)) (alone (arg_tree ts c.args.b)) s) (listing old) (listing new) (goes-listing old new c.equation.ensures.goes (parts c.recall_well_kept.ensures).given)
    c.equation.result c.equation.ensures.cause
