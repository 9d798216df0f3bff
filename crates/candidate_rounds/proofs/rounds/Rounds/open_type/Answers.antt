use Rattle.std.proofs.Common.{false}
use Rattle.ir_trees.specs.declared.ir.heads.VariableSort.TheVariants.{General}
use Rattle.candidate_eval.specs.declared.eval.variable.VariableKind.TheVariants.{Term}
use Rattle.candidate_rounds.specs.Evaluators.Inferences.{with_variable}
use Rattle.candidate_rounds.proofs.Equations.Leading.{goes-with, sort-of-type, variable-type}
use Rattle.candidate_rounds.proofs.Evaluators.Going.{further-refl, further-variable, goes-same}
use Rattle.candidate_rounds.proofs.Evaluators.Between.{parts}
use Rattle.candidate_rounds.proofs.Obligations.Trying.{on-err}
use Rattle.candidate_rounds.proofs.rounds.Rounds.open_type.Goals as goal

pub returns-in_err-new_variable-clause-goes : goal.returns-in_err-new_variable-clause-goes
returns-in_err-new_variable-clause-goes c =
    let old = c.args.self.now in
    let made = c.new_variable.ensures in
    goes-with old c.new_variable.new.self made.grows made.given made.mode made.marks made.faults old.inference (further-refl old.inference) c.in_err-new_variable.ensures.stopped

pub type_of-requires : goal.type_of-requires
type_of-requires c = variable-type c.new_variable.new.self.context.trees c.in_ok-new_variable.field-0 _ c.in_ok-new_variable.ensures.sort c.in_ok-new_variable.ensures.tree

pub returns-clause-goes : goal.returns-clause-goes
returns-clause-goes c =
    let old = c.args.self.now in
    let made = c.new_variable.ensures in
    goes-with old c.new_variable.new.self made.grows made.given made.mode made.marks made.faults (with_variable old.inference (Term General) false) (further-variable old.inference (Term General) false) c.in_ok-new_variable.ensures.made

pub returns-clause-sort : goal.returns-clause-sort
returns-clause-sort c =
    let ts = c.new_variable.new.self.context.trees in
    sort-of-type ts c.in_ok-new_variable.field-0 c.type_of.result c.in_ok-new_variable.ensures.sort (variable-type ts c.in_ok-new_variable.field-0 _ c.in_ok-new_variable.ensures.sort c.in_ok-new_variable.ensures.tree) c.type_of.ensures

pub returns-in_err-new_variable-clause-stopped : goal.returns-in_err-new_variable-clause-stopped
returns-in_err-new_variable-clause-stopped c =
    let old = c.args.self.now in
    let made = c.new_variable.ensures in
    on-err c.from_residual.result
    (goes-same old c.new_variable.new.self (goes-with old c.new_variable.new.self made.grows made.given made.mode made.marks made.faults old.inference (further-refl old.inference) c.in_err-new_variable.ensures.stopped)
    c.in_err-new_variable.ensures.stopped (parts c.recall_well_kept.ensures).consistent.known)
