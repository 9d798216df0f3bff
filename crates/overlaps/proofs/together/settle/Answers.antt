use Rattle.std.proofs.Common.{◌≡◌, [], ◌∷◌, Some, refl, subst, sym}
use Rattle.ir_trees.specs.declared.ir.kinds.TraitId.{TraitId}
use Rattle.ir_trees.specs.Declarations.Context.{Context}
use Rattle.ir_trees.specs.Syntax.Words.{clause_tree}
use Rattle.candidate_eval.specs.Interface.Accounts.{add_goals, evaluate}
use Rattle.candidate_eval.specs.Interface.Evaluators.{pending_of}
use Rattle.candidate_eval.proofs.Interface.Accounts.{memory-somehow}
use Rattle.candidate_assembly.proofs.Calls.Causes.{asked-somehow, so-err}
use Rattle.overlaps.proofs.Jointly.{kept-tried, obligations-there, settled-left, speaks-of-none, unsettled}
use Rattle.overlaps.proofs.Staying.{known-kept, known-refl, known-then}
use Rattle.overlaps.proofs.Stopping.{asking-stop, later-kept, later-refl, later-then, passed-on}
use Rattle.overlaps.specs.PartTraits.{RestsOnPart, trait_spoken_of}
use Rattle.overlaps.specs.Stopping.{IsOverlapStop}
use Rattle.overlaps.proofs.together.settle.Goals as goal

pub returns-in_err-clause_may_rest_on_part-clause-stays : goal.returns-in_err-clause_may_rest_on_part-clause-stays
returns-in_err-clause_may_rest_on_part-clause-stays c = known-refl c.args.rounds.now

pub returns-in_err-clause_may_rest_on_part-clause-cause : goal.returns-in_err-clause_may_rest_on_part-clause-cause
returns-in_err-clause_may_rest_on_part-clause-cause c = passed-on (IsOverlapStop c.args.rounds.now c.args.rounds.now) c.from_residual.result c.in_err-clause_may_rest_on_part.field-0.0 c.from_residual.ensures.1 (asking-stop (later-refl c.args.rounds.now) (memory-somehow c.in_err-clause_may_rest_on_part.ensures.cause))

pub returns-then-branch-clause-stays : goal.returns-then-branch-clause-stays
returns-then-branch-clause-stays c = known-refl c.args.rounds.now

pub returns-then-branch-clause-tried : goal.returns-then-branch-clause-tried
returns-then-branch-clause-tried c = kept-tried c.args.rounds.now c.args.rounds.now c.args.goal c.args.left.now.items c.keep.new.left.items c.keep.result (later-refl c.args.rounds.now) refl c.requires.pending c.requires.fit c.requires.left c.keep.ensures.open c.keep.ensures.pushed

pub returns-then-branch-clause-cause : goal.returns-then-branch-clause-cause
returns-then-branch-clause-cause c = so-err c.keep.result (λ s k. asking-stop (later-refl c.args.rounds.now) (memory-somehow k)) c.keep.ensures.cause

pub returns-in_err-add_goal-clause-stays : goal.returns-in_err-add_goal-clause-stays
returns-in_err-add_goal-clause-stays c = known-kept c.add_goal.ensures.kept

pub returns-in_err-add_goal-clause-cause : goal.returns-in_err-add_goal-clause-cause
returns-in_err-add_goal-clause-cause c = passed-on (IsOverlapStop c.args.rounds.now c.add_goal.new.self) c.from_residual-in_err-add_goal.result c.in_err-add_goal.field-0.0 c.from_residual-in_err-add_goal.ensures.1 (asking-stop (later-refl c.args.rounds.now) (asked-somehow (add_goals (pending_of c.args.rounds.now.context.trees c.args.goal.0 c.args.goal.1 ∷ [])) c.add_goal.ensures.kept c.in_err-add_goal.ensures.cause))

pub leave_pending-requires : goal.leave_pending-requires
leave_pending-requires c = record { fit = obligations-there c.args.rounds.now c.try_evaluate_added_goals.new.self c.args.left.now.items (later-then (later-kept c.add_goal.ensures.kept) (later-kept c.try_evaluate_added_goals.ensures.kept)) c.requires.left }

pub returns-in_err-leave_pending-in-Ok-clause-stays : goal.returns-in_err-leave_pending-in-Ok-clause-stays
returns-in_err-leave_pending-in-Ok-clause-stays c = known-then (known-kept c.add_goal.ensures.kept) (known-then (known-kept c.try_evaluate_added_goals.ensures.kept) (known-kept c.leave_pending.ensures.kept))

pub returns-in_err-leave_pending-in-Ok-clause-cause : goal.returns-in_err-leave_pending-in-Ok-clause-cause
returns-in_err-leave_pending-in-Ok-clause-cause c = passed-on (IsOverlapStop c.args.rounds.now c.leave_pending.new.rounds) c.from_residual-in_err-leave_pending-in-Ok.result c.in_err-leave_pending-in-Ok.field-0.0 c.from_residual-in_err-leave_pending-in-Ok.ensures.1 (asking-stop (later-then (later-kept c.add_goal.ensures.kept) (later-kept c.try_evaluate_added_goals.ensures.kept)) (memory-somehow c.in_err-leave_pending-in-Ok.ensures.cause))

pub returns-in_ok-leave_pending-in-Ok-clause-stays : goal.returns-in_ok-leave_pending-in-Ok-clause-stays
returns-in_ok-leave_pending-in-Ok-clause-stays c = known-then (known-kept c.add_goal.ensures.kept) (known-then (known-kept c.try_evaluate_added_goals.ensures.kept) (known-kept c.leave_pending.ensures.kept))

pub returns-in_ok-leave_pending-in-Ok-clause-tried : goal.returns-in_ok-leave_pending-in-Ok-clause-tried
returns-in_ok-leave_pending-in-Ok-clause-tried c =
    let cx = c.args.rounds.now.context in
    let x = c.args.goal.1.predicate in
    let speaks
    = speaks-of-none cx (clause_tree cx.trees x)
    (subst (λ (y : Context). (t : TraitId) → trait_spoken_of y (clause_tree y.trees x).head ≡ Some t → RestsOnPart y t → ⊥) c.cx.ensures (c.in_ok-clause_may_rest_on_part.ensures.never c.if-branch.false)) in
    let l = later-kept c.add_goal.ensures.kept in
    let done = c.in_ok-leave_pending-in-Ok.ensures in
    settled-left c.args.rounds.now c.add_goal.new.self c.try_evaluate_added_goals.new.self c.leave_pending.new.rounds c.args.goal c.args.left.now.items c.leave_pending.new.left.items c.in-Ok.field-0 speaks l
    (later-then l (later-then (later-kept c.try_evaluate_added_goals.ensures.kept) (later-kept c.leave_pending.ensures.kept))) c.requires.pending c.in_ok-add_goal.ensures.ok c.in-Ok.ensures.ok done.aside c.requires.left done.fit done.left

pub returns-in-Err-NoSolution-clause-stays : goal.returns-in-Err-NoSolution-clause-stays
returns-in-Err-NoSolution-clause-stays c = known-then (known-kept c.add_goal.ensures.kept) (known-kept c.try_evaluate_added_goals.ensures.kept)

pub returns-in-Err-NoSolution-clause-tried : goal.returns-in-Err-NoSolution-clause-tried
returns-in-Err-NoSolution-clause-tried c =
    let cx = c.args.rounds.now.context in
    let x = c.args.goal.1.predicate in
    let speaks
    = speaks-of-none cx (clause_tree cx.trees x)
    (subst (λ (y : Context). (t : TraitId) → trait_spoken_of y (clause_tree y.trees x).head ≡ Some t → RestsOnPart y t → ⊥) c.cx.ensures (c.in_ok-clause_may_rest_on_part.ensures.never c.if-branch.false)) in
    unsettled c.args.rounds.now c.add_goal.new.self c.args.goal speaks (later-kept c.add_goal.ensures.kept) c.requires.pending c.in_ok-add_goal.ensures.ok (c.in-Err-NoSolution.ensures.refused c.in-Err-NoSolution.field-0-is)

pub returns-in-Err-Stop-clause-stays : goal.returns-in-Err-Stop-clause-stays
returns-in-Err-Stop-clause-stays c = known-then (known-kept c.add_goal.ensures.kept) (known-kept c.try_evaluate_added_goals.ensures.kept)

pub returns-in-Err-Stop-clause-cause : goal.returns-in-Err-Stop-clause-cause
returns-in-Err-Stop-clause-cause c =
    subst (IsOverlapStop c.args.rounds.now c.try_evaluate_added_goals.new.self) (sym c.in-Err-Stop.stop-is)
    (asking-stop (later-kept c.add_goal.ensures.kept) (asked-somehow evaluate c.try_evaluate_added_goals.ensures.kept (rw c.in-Err-Stop.field-0-is at c.in-Err-Stop.ensures.cause)))
