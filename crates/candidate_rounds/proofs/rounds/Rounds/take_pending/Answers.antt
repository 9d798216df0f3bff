use Rattle.std.proofs.Common.{sym, ◌∙◌, ap, subst}
use Rattle.ir_trees.specs.Declarations.Context.{Context}
use Rattle.candidate_eval.specs.Interface.Evaluators.{IsGoal, pendings_of}
use Rattle.candidate_rounds.specs.Evaluators.Known.{Each}
use Rattle.candidate_rounds.proofs.Evaluators.Between.{parts}
use Rattle.candidate_rounds.proofs.Evaluators.Going.{goes-refl, goes-table}
use Rattle.candidate_rounds.proofs.Evaluators.Interface.{keeps-going, keeps-refl}
use Rattle.candidate_rounds.proofs.rounds.Rounds.take_pending.Goals as goal

pub returns-in_err-goals-clause-goes : goal.returns-in_err-goals-clause-goes
returns-in_err-goals-clause-goes c = goes-refl c.args.self.now

pub returns-in_err-goals-clause-kept : goal.returns-in_err-goals-clause-kept
returns-in_err-goals-clause-kept c = keeps-refl c.args.self.now

pub returns-in_err-set_aside-clause-kept : goal.returns-in_err-set_aside-clause-kept
returns-in_err-set_aside-clause-kept c = keeps-going c.args.self.now c.set_aside.new.self c.set_aside.ensures.goes c.recall_well_kept.ensures

pub returns-in_err-set_aside-clause-table : goal.returns-in_err-set_aside-clause-table
returns-in_err-set_aside-clause-table c = goes-table c.args.self.now c.set_aside.new.self c.set_aside.ensures.goes (parts c.recall_well_kept.ensures).tabled

pub returns-clause-kept : goal.returns-clause-kept
returns-clause-kept c = keeps-going c.args.self.now c.set_aside.new.self c.set_aside.ensures.goes c.recall_well_kept.ensures

pub returns-clause-table : goal.returns-clause-table
returns-clause-table c = goes-table c.args.self.now c.set_aside.new.self c.set_aside.ensures.goes (parts c.recall_well_kept.ensures).tabled

pub returns-clause-fit : goal.returns-clause-fit
returns-clause-fit c = subst (λ (x : Context). Each (λ g. IsGoal x.trees g.1) c.in_ok-goals.goals.items) (sym c.set_aside.ensures.context) c.in_ok-goals.ensures.fit

pub returns-clause-goals : goal.returns-clause-goals
returns-clause-goals c = ap (λ (x : Context). pendings_of x.trees c.in_ok-goals.goals.items) c.set_aside.ensures.context ∙ c.in_ok-goals.ensures.goals
