use Rattle.std.proofs.Common.{◌∙◌}
use Rattle.candidate_rounds.proofs.Resolution.Leafing.{one-more-leaf}
use Rattle.candidate_rounds.proofs.Stops.Rooms.{leaves-stop}
use Rattle.ir_trees.proofs.Growth.Kept.{grows-trans}
use Rattle.candidate_rounds.proofs.rounds.fresh.leaf_args.Goals as goal

pub loop-i-preserved : goal.loop-i-preserved
loop-i-preserved c = (
  one-more-leaf c.args.cx.now c.loop-i.cx c.leaf.new.cx c.args.leaves c.args.kinds.now c.loop-i.i c.loop-i.list.items c.push.new.self.items c.in_ok-leaf.field-0 _ c.loop-i.invariant.0 c.loop-i-test.true
      c.leaf.ensures.grows c.in_ok-leaf.ensures.sort c.in_ok-leaf.ensures.tree c.in_ok-push.ensures.items,
  c.leaf.ensures.faults ∙ c.loop-i.invariant.1,
)

pub returns-clause-cause : goal.returns-clause-cause
returns-clause-cause c =
    leaves-stop c.args.cx.now c.loop-i.cx c.mk_args.new.self c.args.leaves c.args.kinds.now c.loop-i.i c.loop-i.list.items c.as_slice.result.now c.mk_args.result c.loop-i.invariant.0 c.loop-i-test.false c.as_slice.ensures.value
    c.mk_args.ensures.made.cause c.mk_args.ensures.made.unchanged

pub returns-in_err-leaf-clause-grows : goal.returns-in_err-leaf-clause-grows
returns-in_err-leaf-clause-grows c = grows-trans _ _ _ c.loop-i.invariant.0.grows c.leaf.ensures.grows

pub returns-in_err-push-clause-grows : goal.returns-in_err-push-clause-grows
returns-in_err-push-clause-grows c = grows-trans _ _ _ c.loop-i.invariant.0.grows c.leaf.ensures.grows

pub returns-clause-grows : goal.returns-clause-grows
returns-clause-grows c = grows-trans _ _ _ c.loop-i.invariant.0.grows c.mk_args.ensures.made.kept
