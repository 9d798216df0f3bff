use Rattle.std.proofs.Common.{rules, subst, sym}
use Rattle.ir_trees.proofs.Growth.Kept.{grows-trans}
use Rattle.assembly_text.specs.Solving.{IsSolved, IsSolvedBefore}
use Rattle.assembly_text.proofs.Answered.{on-answer}
use Rattle.assembly_text.proofs.Giving.{given_grows}
use Rattle.assembly_text.proofs.MayBeGiven.{read-kept}
use Rattle.assembly_text.proofs.explaining.explain_by_rounds.Goals as goal

pub with_rounds-requires-clause-given : goal.with_rounds-requires-clause-given
with_rounds-requires-clause-given c = given_grows c.args.cx c.explain_run-cx.result.0 c.args.given.now c.explain_run-cx.ensures.grows c.requires.given

pub with_rounds-requires-clause-read : goal.with_rounds-requires-clause-read
with_rounds-requires-clause-read c = read-kept c.args.cx c.explain_run-cx.result.0 c.args.predicate c.explain_run-cx.ensures.grows c.requires.read

pub returns-in-Ok-clause-grows : goal.returns-in-Ok-clause-grows
returns-in-Ok-clause-grows c = grows-trans _ _ _ c.explain_run-cx.ensures.grows c.with_rounds.ensures.grows

pub returns-in-Ok-clause-comes : goal.returns-in-Ok-clause-comes
returns-in-Ok-clause-comes c =
    let cx = c.args.cx in
    let given = c.args.given.now in
    let p = c.args.predicate in
    let effort = c.args.effort in
    let solved : IsSolvedBefore cx given p effort c.explain_run-cx.result.0 c.in-Ok.explained.verdict = search rules in
    on-answer c.with_rounds.result.1 (λ e h. (solved.0, subst (IsSolved cx given p effort solved.0) (sym h) solved.1, grows-trans _ _ _ solved.2 c.with_rounds.ensures.grows)) c.with_rounds.ensures.verdict
