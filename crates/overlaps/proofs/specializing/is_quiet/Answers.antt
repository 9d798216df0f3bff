use Rattle.std.proofs.Common.{◌==◌, List, length, ap, ◌∙◌}
use Rattle.ir_trees.specs.declared.ir.kinds.Clause.{Clause}
use Rattle.ir_trees.specs.declared.ir.kinds.Goal.{Goal}
use Rattle.ir_trees.specs.declared.ir.kinds.GoalSource.{GoalSource}
use Rattle.candidate_eval.proofs.Interface.Accounts.{memory-somehow}
use Rattle.overlaps.proofs.Staying.{known-kept}
use Rattle.overlaps.proofs.Stopping.{asking-stop, later-refl, passed-on}
use Rattle.overlaps.proofs.Typed.{quiet-state}
use Rattle.overlaps.specs.Stopping.{IsOverlapStop}
use Rattle.overlaps.proofs.specializing.is_quiet.Goals as goal

pub returns-in_err-goals-clause-stays : goal.returns-in_err-goals-clause-stays
returns-in_err-goals-clause-stays c = known-kept c.take_pending.ensures.kept

pub returns-in_err-goals-clause-cause : goal.returns-in_err-goals-clause-cause
returns-in_err-goals-clause-cause c = passed-on (IsOverlapStop c.args.rounds.now c.take_pending.new.self) c.from_residual.result c.in_err-goals.field-0.0 c.from_residual.ensures.1 (asking-stop (later-refl c.args.rounds.now) (memory-somehow c.in_err-goals.ensures.cause))

pub returns-clause-stays : goal.returns-clause-stays
returns-clause-stays c = known-kept c.take_pending.ensures.kept

pub returns-clause-quiet : goal.returns-clause-quiet
returns-clause-quiet c = λ e.
    quiet-state c.args.rounds.now c.take_pending.new.self c.take_pending.new.self.context.trees c.in_ok-goals.goals.items c.is_empty.result c.in_ok-goals.ensures.goals c.in_ok-goals.ensures.made
    (c.is_empty.ensures ∙ ap (λ (xs : List (GoalSource × Goal Clause)). length xs == 0) c.as_slice.ensures.value) e
