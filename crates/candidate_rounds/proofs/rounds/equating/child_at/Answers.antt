use Rattle.candidate_rounds.proofs.Obligations.Noting.{member-at, members-end}
use Rattle.candidate_rounds.proofs.rounds.equating.child_at.Goals as goal

pub returns-then-place-list : goal.returns-then-place-list
returns-then-place-list c = members-end c.args.cx.now.trees c.args.number c.args-list.result.now c.args-list.ensures.fits c.args-list.ensures.tree c.args.place c.if-place-list.true

pub returns : goal.returns
returns c = member-at c.args.cx.now.trees c.args.number c.args-list.result.now c.args-list.ensures.fits c.args-list.ensures.tree c.args.place c.number.result _ c.if-place-list.false c.number.ensures
