use Rattle.std.proofs.Common.{[], refl, ap, ◌∙◌}
use Rattle.ir_trees.specs.Syntax.Trees.{Forest}
use Rattle.rounds_judge.specs.Obligations.Responding.{renumbered, with_numbers}
use Rattle.overlaps.proofs.PureFolder.{asked-kept, asked-then, sure-kept, sure-then}
use Rattle.overlaps.proofs.Stopping.{asking-stop, later-kept, later-refl, passed-on, step-stop}
use Rattle.overlaps.specs.Stopping.{IsOverlapStop, step_numbering}
use Rattle.overlaps.proofs.Staying.{stays-same}
use Rattle.candidate_assembly.proofs.Calls.Causes.{asked-somehow}
use Rattle.candidate_eval.specs.Interface.Accounts.{resolve}
use Rattle.ir_trees.specs.Syntax.Words.{args_forest}
use Rattle.overlaps.proofs.instance.common_instance.Goals as goal

pub returns-in_err-args-clause-stays : goal.returns-in_err-args-clause-stays
returns-in_err-args-clause-stays c = (asked-kept c.resolve_args_if_possible.ensures.kept c.resolve_args_if_possible.ensures.same).stays

pub returns-in_err-args-clause-table : goal.returns-in_err-args-clause-table
returns-in_err-args-clause-table c = (asked-kept c.resolve_args_if_possible.ensures.kept c.resolve_args_if_possible.ensures.same).table

pub returns-in_err-args-2-clause-stays : goal.returns-in_err-args-2-clause-stays
returns-in_err-args-2-clause-stays c = (asked-then (asked-kept c.resolve_args_if_possible.ensures.kept c.resolve_args_if_possible.ensures.same) (stays-same c.canonical_args.ensures.stays c.canonical_args.ensures.table) c.canonical_args.ensures.table).stays

pub returns-in_err-args-2-clause-table : goal.returns-in_err-args-2-clause-table
returns-in_err-args-2-clause-table c = (asked-then (asked-kept c.resolve_args_if_possible.ensures.kept c.resolve_args_if_possible.ensures.same) (stays-same c.canonical_args.ensures.stays c.canonical_args.ensures.table) c.canonical_args.ensures.table).table

pub returns-clause-stays : goal.returns-clause-stays
returns-clause-stays c = (asked-then (asked-kept c.resolve_args_if_possible.ensures.kept c.resolve_args_if_possible.ensures.same) (stays-same c.canonical_args.ensures.stays c.canonical_args.ensures.table) c.canonical_args.ensures.table).stays

pub returns-clause-table : goal.returns-clause-table
returns-clause-table c = (asked-then (asked-kept c.resolve_args_if_possible.ensures.kept c.resolve_args_if_possible.ensures.same) (stays-same c.canonical_args.ensures.stays c.canonical_args.ensures.table) c.canonical_args.ensures.table).table

pub returns-clause-is : goal.returns-clause-is
returns-clause-is c = record {
  of_trait = refl;
  sort = c.in_ok-args-2.ensures.sort;
  is = c.in_ok-args-2.ensures.trees ∙ ap (λ (f : Forest). renumbered (with_numbers [] f) f) c.in_ok-args.ensures.tree;
}

pub returns-in_err-args-clause-cause : goal.returns-in_err-args-clause-cause
returns-in_err-args-clause-cause c = passed-on (IsOverlapStop c.args.rounds.now c.resolve_args_if_possible.new.self) c.from_residual.result c.in_err-args.field-0.0 c.from_residual.ensures.1 (asking-stop (later-refl c.args.rounds.now) (asked-somehow (resolve (args_forest c.args.rounds.now.context.trees c.args.first.now.header)) c.resolve_args_if_possible.ensures.kept c.in_err-args.ensures.cause))

pub returns-in_err-args-2-clause-cause : goal.returns-in_err-args-2-clause-cause
returns-in_err-args-2-clause-cause c = passed-on (IsOverlapStop c.args.rounds.now c.canonical_args.new.self) c.from_residual-in_err-args-2.result c.in_err-args-2.field-0.0 c.from_residual-in_err-args-2.ensures.1 (step-stop (later-kept c.resolve_args_if_possible.ensures.kept) (step_numbering c.in_ok-args.args c.canonical_args.ensures.stays.grows.kept c.in_ok-args.ensures.sort c.in_err-args-2.ensures.cause))

pub returns-in_err-args-clause-sure : goal.returns-in_err-args-clause-sure
returns-in_err-args-clause-sure c = (sure-kept c.resolve_args_if_possible.ensures.kept c.resolve_args_if_possible.ensures.same).sure

pub returns-in_err-args-2-clause-sure : goal.returns-in_err-args-2-clause-sure
returns-in_err-args-2-clause-sure c = (sure-then (sure-kept c.resolve_args_if_possible.ensures.kept c.resolve_args_if_possible.ensures.same) (stays-same c.canonical_args.ensures.stays c.canonical_args.ensures.table) c.canonical_args.ensures.sure).sure

pub returns-clause-sure : goal.returns-clause-sure
returns-clause-sure c = (sure-then (sure-kept c.resolve_args_if_possible.ensures.kept c.resolve_args_if_possible.ensures.same) (stays-same c.canonical_args.ensures.stays c.canonical_args.ensures.table) c.canonical_args.ensures.sure).sure
