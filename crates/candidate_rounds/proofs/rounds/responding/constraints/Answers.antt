use Rattle.std.proofs.Common.{map, sym, ◌∙◌, ap, subst}
use Rattle.ir_trees.specs.Syntax.Words.{IsClause, clause_tree}
use Rattle.ir_trees.specs.declared.ir.stop.Stop.TheVariants.{Memory}
use Rattle.candidate_eval.specs.declared.eval.mode.TypingMode.{TypingMode}
use Rattle.candidate_eval.specs.Judges.States.{resolved_tree}
use Rattle.candidate_rounds.specs.Evaluators.Known.{Each, state_of}
use Rattle.candidate_rounds.specs.Evaluators.Stopping.{IsResponseStop, response_memory}
use Rattle.candidate_rounds.proofs.Snapshots.Knowing.{is-clause-stays, kinds-grown, known-stays}
use Rattle.candidate_rounds.proofs.Obligations.Gathering.{all-clauses, clause-later, each-index, one-more-clause}
use Rattle.candidate_rounds.proofs.Stops.ResponseStops.{constraint-stop, passed-on}
use Rattle.ir_trees.proofs.Growth.Kept.{grows-trans}
use Rattle.candidate_rounds.proofs.rounds.responding.constraints.Goals as goal

pub resolved-requires-clause-value : goal.resolved-requires-clause-value
resolved-requires-clause-value c =
    let f = subst (Each (IsClause c.args.cx.now.trees)) (sym c.regions-regions.ensures) c.requires.known.regions in
    is-clause-stays c.args.cx.now.trees c.loop-i.cx.trees _ c.loop-i.invariant.0.grows.kept (each-index (IsClause c.args.cx.now.trees) c.regions-regions.result.now c.loop-i.i _ f c.loop-i-test.true)

pub resolved-requires-clause-known : goal.resolved-requires-clause-known
resolved-requires-clause-known c = known-stays c.args.cx.now.trees c.loop-i.cx.trees c.args.inference.now c.loop-i.invariant.0.grows.kept c.requires.known

pub resolved-requires-clause-kinds : goal.resolved-requires-clause-kinds
resolved-requires-clause-kinds c = kinds-grown c.args.cx.now.trees c.loop-i.cx.trees c.args.inference.now.variables c.loop-i.invariant.0.grows.kept c.requires.known.values c.requires.kinds

pub loop-i-preserved : goal.loop-i-preserved
loop-i-preserved c =
    let f = subst (Each (IsClause c.args.cx.now.trees)) (sym c.regions-regions.ensures) c.requires.known.regions in (
      one-more-clause TypingMode (λ m. resolved_tree (state_of c.args.cx.now.trees m c.args.inference.now)) c.args.cx.now c.loop-i.cx c.resolved.new.cx c.regions-regions.result.now c.loop-i.i _ c.loop-i.list.items
          c.push.new.self.items c.in_ok-resolved.field-0 c.loop-i.invariant.0 c.loop-i-test.true c.resolved.ensures.grows c.in_ok-resolved.ensures.sort
          (λ m. clause-later m c.args.inference.now c.args.cx.now c.loop-i.cx c.regions-regions.result.now c.loop-i.i _ _ c.requires.known c.loop-i.invariant.0.grows c.loop-i-test.true f (c.in_ok-resolved.ensures.tree m))
          c.in_ok-push.ensures.items,
      c.resolved.ensures.faults ∙ c.loop-i.invariant.1,
    )

pub returns-clause-trees : goal.returns-clause-trees
returns-clause-trees c = λ m.
    let S = state_of c.args.cx.now.trees m c.args.inference.now in
    all-clauses TypingMode (λ m. resolved_tree (state_of c.args.cx.now.trees m c.args.inference.now)) c.args.cx.now c.loop-i.cx c.regions-regions.result.now c.loop-i.i c.loop-i.list.items c.loop-i.invariant.0 c.loop-i-test.false m
    ∙ ap (λ cs. map (resolved_tree S) (map (clause_tree c.args.cx.now.trees) cs)) c.regions-regions.ensures

pub returns-in_err-resolved-clause-cause : goal.returns-in_err-resolved-clause-cause
returns-in_err-resolved-clause-cause c = λ m.
    passed-on (IsResponseStop c.resolved.new.cx.trees (state_of c.args.cx.now.trees m c.args.inference.now)) c.from_residual.result c.in_err-resolved.field-0.0 c.from_residual.ensures.1
    (constraint-stop m c.args.inference.now c.args.cx.now c.loop-i.cx c.resolved.new.cx c.regions-regions.result.now c.loop-i.i _ c.in_err-resolved.field-0.0 c.requires.known c.loop-i.invariant.0.grows
    c.loop-i-test.true c.regions-regions.ensures (c.in_err-resolved.ensures.cause m))

pub returns-in_err-push-clause-cause : goal.returns-in_err-push-clause-cause
returns-in_err-push-clause-cause c = λ m.
    passed-on (IsResponseStop c.resolved.new.cx.trees (state_of c.args.cx.now.trees m c.args.inference.now)) c.from_residual-in_err-push.result Memory c.from_residual-in_err-push.ensures.1 response_memory

pub returns-in_err-resolved-clause-grows : goal.returns-in_err-resolved-clause-grows
returns-in_err-resolved-clause-grows c = grows-trans _ _ _ c.loop-i.invariant.0.grows c.resolved.ensures.grows

pub returns-in_err-push-clause-grows : goal.returns-in_err-push-clause-grows
returns-in_err-push-clause-grows c = grows-trans _ _ _ c.loop-i.invariant.0.grows c.resolved.ensures.grows
