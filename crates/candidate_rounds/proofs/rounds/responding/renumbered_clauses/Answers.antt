use Rattle.std.proofs.Common.{◌∙◌, ap, length, map, subst}
use Rattle.ir_trees.specs.declared.ir.stop.Stop.TheVariants.{Memory}
use Rattle.ir_trees.specs.Syntax.Words.{clause_tree}
use Rattle.ir_trees.proofs.Growth.Made.{IsClause-listed}
use Rattle.candidate_rounds.specs.Evaluators.Stopping.{AreRenumberingStops, IsRenumberingStop, no_list}
use Rattle.rounds_judge.specs.Obligations.Responding.{renumbered_tree}
use Rattle.candidate_rounds.proofs.Obligations.Anew.{alone-is}
use Rattle.candidate_rounds.proofs.Snapshots.Knowing.{clause-stays}
use Rattle.candidate_rounds.proofs.Obligations.Gathering.{all-clauses, clauses-kept, one-more-clause}
use Rattle.candidate_rounds.proofs.Stops.ResponseStops.{clause-unnumbered, passed-on}
use Rattle.ir_trees.proofs.Growth.Kept.{grows-trans}
use Rattle.candidate_rounds.proofs.rounds.responding.renumbered_clauses.Goals as goal

pub renumbered-requires : goal.renumbered-requires
renumbered-requires c =
    IsClause-listed c.loop-i.cx.trees c.args.clauses.now c.loop-i.i _ c.loop-i-test.true (clauses-kept c.args.cx.now c.loop-i.cx c.args.clauses.now c.loop-i.invariant.0.grows c.requires).0

pub loop-i-preserved : goal.loop-i-preserved
loop-i-preserved c =
    let i = IsClause-listed c.args.cx.now.trees c.args.clauses.now c.loop-i.i _ c.loop-i-test.true c.requires in (
      one-more-clause (Unit {0}) (λ m. renumbered_tree c.args.numbers.now) c.args.cx.now c.loop-i.cx c.renumbered.new.cx c.args.clauses.now c.loop-i.i _ c.loop-i.list.items c.push.new.self.items
          c.in_ok-renumbered.field-0 c.loop-i.invariant.0 c.loop-i-test.true c.renumbered.ensures.grows c.in_ok-renumbered.ensures.sort
          (λ m. c.in_ok-renumbered.ensures.tree ∙ ap (renumbered_tree c.args.numbers.now) (clause-stays c.args.cx.now.trees c.loop-i.cx.trees _ c.loop-i.invariant.0.grows.kept i))
          c.in_ok-push.ensures.items,
      c.renumbered.ensures.faults ∙ c.loop-i.invariant.1,
    )

pub returns-clause-trees : goal.returns-clause-trees
returns-clause-trees c =
    all-clauses (Unit {0}) (λ m. renumbered_tree c.args.numbers.now) c.args.cx.now c.loop-i.cx c.args.clauses.now c.loop-i.i c.loop-i.list.items c.loop-i.invariant.0 c.loop-i-test.false tt

pub returns-in_err-renumbered-clause-cause : goal.returns-in_err-renumbered-clause-cause
returns-in_err-renumbered-clause-cause c =
    passed-on (AreRenumberingStops c.renumbered.new.cx.trees c.args.numbers.now (map (clause_tree c.args.cx.now.trees) c.args.clauses.now)) c.from_residual.result c.in_err-renumbered.field-0.0
    c.from_residual.ensures.1
    (clause-unnumbered c.args.cx.now c.loop-i.cx c.renumbered.new.cx c.args.numbers.now c.args.clauses.now c.loop-i.i _ c.in_err-renumbered.field-0.0 c.loop-i-test.true c.requires c.loop-i.invariant.0.grows
    (subst (λ f. IsRenumberingStop (length c.args.numbers.now) (length c.renumbered.new.cx.trees) f c.in_err-renumbered.field-0.0) (alone-is c.args.numbers.now _) c.in_err-renumbered.ensures.cause))

pub returns-in_err-push-clause-cause : goal.returns-in_err-push-clause-cause
returns-in_err-push-clause-cause c =
    passed-on (AreRenumberingStops c.renumbered.new.cx.trees c.args.numbers.now (map (clause_tree c.args.cx.now.trees) c.args.clauses.now)) c.from_residual-in_err-push.result Memory c.from_residual-in_err-push.ensures.1 no_list

pub returns-in_err-renumbered-clause-grows : goal.returns-in_err-renumbered-clause-grows
returns-in_err-renumbered-clause-grows c = grows-trans _ _ _ c.loop-i.invariant.0.grows c.renumbered.ensures.grows

pub returns-in_err-push-clause-grows : goal.returns-in_err-push-clause-grows
returns-in_err-push-clause-grows c = grows-trans _ _ _ c.loop-i.invariant.0.grows c.renumbered.ensures.grows
