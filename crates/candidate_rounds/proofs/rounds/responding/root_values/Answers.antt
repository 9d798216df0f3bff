use Rattle.std.proofs.Common.{slice_get, ◌∙◌, ap, arith}
use Rattle.std.specs.Option.{option_map}
use Rattle.ir_trees.specs.Syntax.Words.{list_forest}
use Rattle.candidate_eval.specs.declared.eval.mode.TypingMode.{TypingMode}
use Rattle.candidate_eval.specs.Judges.States.{resolved_tree}
use Rattle.candidate_rounds.specs.Calls.Gathered.{root_at}
use Rattle.candidate_rounds.specs.Evaluators.Known.{state_of}
use Rattle.candidate_rounds.specs.Evaluators.Stopping.{IsResponseStop, full_table, response_memory}
use Rattle.candidate_rounds.proofs.Obligations.Gathering.{all-roots, if-ok-then, more-roots, state-later}
use Rattle.candidate_rounds.proofs.Snapshots.Knowing.{known-stays}
use Rattle.candidate_rounds.proofs.Stops.ResponseStops.{many-variables, passed-on, passed-growth, roots-stop}
use Rattle.ir_trees.proofs.Growth.Kept.{grows-trans}
use Rattle.candidate_rounds.proofs.rounds.responding.root_values.Goals as goal

pub root_value-requires : goal.root_value-requires
root_value-requires c = known-stays c.args.cx.now.trees c.loop-number.cx.trees c.args.inference.now c.loop-number.invariant.0.grows.kept c.requires

pub loop-number-preserved : goal.loop-number-preserved
loop-number-preserved c =
    let s = c.args.inference.now in
    let n = c.loop-number.number in (
      more-roots TypingMode (λ m. resolved_tree (state_of c.args.cx.now.trees m s)) c.args.cx.now c.loop-number.cx c.root_value.new.cx s.variables n c.loop-number.list.items c.loop-number.invariant.0
          (let a = c.loop-number-test.true in let b = c.in_ok-count.ensures.number in omega (arith, a, b)) c.root_value.ensures.grows c.push_some.new.list.items c.in_ok-root.root c.in_ok-root.ensures.sort
          (λ m. c.in_ok-root.ensures.tree m ∙ ap (λ S. option_map (resolved_tree S) (root_at n (slice_get s.variables n))) (state-later m s c.args.cx.now c.loop-number.cx c.requires c.loop-number.invariant.0.grows))
          c.in_ok-push_some.ensures.pushed,
      c.root_value.ensures.faults ∙ c.loop-number.invariant.1,
    )

pub returns-clause-trees : goal.returns-clause-trees
returns-clause-trees c = λ m.
    let s = c.args.inference.now in
    if-ok-then c.mk_arg_list.result _ _
    (λ a e. e ∙ all-roots TypingMode (λ m. state_of c.args.cx.now.trees m s) c.args.cx.now c.loop-number.cx c.args.cx.now.trees s.variables c.loop-number.number c.loop-number.list.items c.loop-number.invariant.0
    (let a = c.loop-number-test.false in let b = c.in_ok-count.ensures.number in omega (arith, a, b)) m)
    c.mk_arg_list.ensures.tree

pub returns-in_err-count-clause-cause : goal.returns-in_err-count-clause-cause
returns-in_err-count-clause-cause c = λ m.
    passed-on (IsResponseStop c.args.cx.now.trees (state_of c.args.cx.now.trees m c.args.inference.now)) c.from_residual.result c.in_err-count.field-0.0 c.from_residual.ensures.1
    (many-variables c.args.cx.now.trees c.args.cx.now.trees m c.args.inference.now c.in_err-count.field-0.0 c.in_err-count.ensures.cause)

pub returns-in_err-root-clause-cause : goal.returns-in_err-root-clause-cause
returns-in_err-root-clause-cause c = λ m.
    passed-on (IsResponseStop c.root_value.new.cx.trees (state_of c.args.cx.now.trees m c.args.inference.now)) c.from_residual-in_err-root.result c.in_err-root.field-0.0 c.from_residual-in_err-root.ensures.1 (full_table c.in_err-root.ensures.cause)

pub returns-in_err-push_some-clause-cause : goal.returns-in_err-push_some-clause-cause
returns-in_err-push_some-clause-cause c = λ m.
    passed-growth (IsResponseStop c.root_value.new.cx.trees (state_of c.args.cx.now.trees m c.args.inference.now)) c.from_residual-in_err-push_some.result c.in_err-push_some.field-0.0 c.from_residual-in_err-push_some.ensures.1 c.in_err-push_some.ensures.cause
    response_memory

pub returns-clause-cause : goal.returns-clause-cause
returns-clause-cause c = λ m.
    let s = c.args.inference.now in
    roots-stop c.loop-number.cx c.mk_arg_list.new.self (list_forest c.loop-number.cx.trees c.loop-number.list.items) (state_of c.args.cx.now.trees m s) c.mk_arg_list.result
    (all-roots TypingMode (λ m. state_of c.args.cx.now.trees m s) c.args.cx.now c.loop-number.cx c.args.cx.now.trees s.variables c.loop-number.number c.loop-number.list.items c.loop-number.invariant.0
    (let a = c.loop-number-test.false in let b = c.in_ok-count.ensures.number in omega (arith, a, b)) m)
    c.mk_arg_list.ensures.unchanged c.mk_arg_list.ensures.cause

pub returns-in_err-root-clause-grows : goal.returns-in_err-root-clause-grows
returns-in_err-root-clause-grows c = grows-trans _ _ _ c.loop-number.invariant.0.grows c.root_value.ensures.grows

pub returns-in_err-push_some-clause-grows : goal.returns-in_err-push_some-clause-grows
returns-in_err-push_some-clause-grows c = grows-trans _ _ _ c.loop-number.invariant.0.grows c.root_value.ensures.grows

pub returns-clause-grows : goal.returns-clause-grows
returns-clause-grows c = grows-trans _ _ _ c.loop-number.invariant.0.grows c.mk_arg_list.ensures.kept
