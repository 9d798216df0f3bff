use Rattle.ir_trees.specs.Syntax.Words.{env_forest}
use Rattle.ir_trees.specs.Instantiation.Folds.{arg_tree}
use Rattle.ir_trees.specs.Unification.Substitutions.{alone}
use Rattle.candidate_rounds.specs.Evaluators.Known.{listing, state}
use Rattle.candidate_rounds.specs.Evaluators.Stopping.{IsOpeningStop}
use Rattle.candidate_rounds.proofs.Evaluators.Between.{parts}
use Rattle.candidate_rounds.proofs.Evaluators.Going.{goes-listing}
use Rattle.candidate_rounds.proofs.Evaluators.Interface.{eq-ok, eq-refused, eq-stopped, keeps-going}
use Rattle.candidate_rounds.proofs.Stops.Accounting.{listed-stop}
use Rattle.candidate_rounds.proofs.rounds.evaluator.RoundsEvalCtxt.eq.Goals as goal

pub returns-clause-kept : goal.returns-clause-kept
returns-clause-kept c = keeps-going c.args.self.now c.lead.new.self c.lead.ensures.goes c.recall_well_kept.ensures

pub returns-clause-ok : goal.returns-clause-ok
returns-clause-ok c =
    let ts = c.args.self.now.context.trees in
    eq-ok c.lead.result c.args.self.now (env_forest ts c.args.env) (alone (arg_tree ts c.args.a)) (alone (arg_tree ts c.args.b)) (state c.lead.new.self) (parts c.recall_well_kept.ensures).given c.lead.ensures.ok

pub returns-clause-refused : goal.returns-clause-refused
returns-clause-refused c =
    let ts = c.args.self.now.context.trees in
    eq-refused c.lead.result c.args.self.now (env_forest ts c.args.env) (alone (arg_tree ts c.args.a)) (alone (arg_tree ts c.args.b)) (parts c.recall_well_kept.ensures).given c.lead.ensures.refused

pub returns-clause-stopped : goal.returns-clause-stopped
returns-clause-stopped c = eq-stopped c.lead.result c.args.self.now c.lead.new.self c.lead.ensures.goes c.recall_well_kept.ensures c.lead.ensures.undone

pub returns-clause-cause : goal.returns-clause-cause
returns-clause-cause c =
    let old = c.args.self.now in
    let new = c.lead.new.self in
    let ts = old.context.trees in
    listed-stop (λ l s. IsOpeningStop new.context.trees l (state old) (env_forest ts c.args.env) (alone (arg_tree ts c.args.a)) (alone (arg_tree ts c.args.b)) s) (listing old) (listing new) (goes-listing old new c.lead.ensures.goes (parts c.recall_well_kept.ensures).given)
    c.lead.result c.lead.ensures.cause
