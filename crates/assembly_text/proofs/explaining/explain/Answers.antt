use Rattle.std.proofs.Common.{rules, subst, sym}
use Rattle.ir_trees.proofs.Growth.Kept.{grows-trans}
use Rattle.assembly_text.specs.Solving.{IsSolved, IsSolvedBefore}
use Rattle.assembly_text.proofs.Answered.{on-answer}
use Rattle.assembly_text.proofs.explaining.explain.Goals as goal

pub returns-in-Ok-clause-grows : goal.returns-in-Ok-clause-grows
returns-in-Ok-clause-grows c = grows-trans _ _ _ c.explain_by_rounds-cx.ensures.grows c.with_open_goals.ensures.grows

pub returns-in-Ok-clause-comes : goal.returns-in-Ok-clause-comes
returns-in-Ok-clause-comes c =
    let cx = c.args.cx in
    let given = c.args.given.now in
    let p = c.args.predicate in
    let effort = c.args.effort in
    let solved : IsSolvedBefore cx given p effort c.explain_by_rounds-cx.result.0 c.in-Ok.explained.verdict = search rules in
    on-answer c.with_open_goals.result.1 (λ e h. (solved.0, subst (IsSolved cx given p effort solved.0) (sym h) solved.1, grows-trans _ _ _ solved.2 c.with_open_goals.ensures.grows)) c.with_open_goals.ensures.verdict
