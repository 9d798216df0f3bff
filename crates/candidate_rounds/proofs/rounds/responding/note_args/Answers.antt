use Rattle.candidate_rounds.proofs.Obligations.Noting.{arg-listed, one-more-noted}
use Rattle.candidate_rounds.proofs.rounds.responding.note_args.Goals as goal

pub note_arg-requires-clause-arg : goal.note_arg-requires-clause-arg
note_arg-requires-clause-arg c = arg-listed c.args.cx.now.trees c.args-list.result.now c.loop-i.i _ c.loop-i-test.true c.args-list.ensures.fits

pub loop-i-preserved : goal.loop-i-preserved
loop-i-preserved c = (
  one-more-noted c.args.cx.now.trees c.args.numbers.now.items c.args-list.result.now c.loop-i.i _ c.loop-i.numbers.items c.note_arg.new.numbers.items
      c.args-list.ensures.fits c.loop-i.invariant.0 c.loop-i-test.true c.in_ok-note_arg.ensures.noted,
  c.in_ok-note_arg.ensures.walked,
)
