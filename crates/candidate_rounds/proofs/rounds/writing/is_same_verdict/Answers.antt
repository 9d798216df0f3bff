use Rattle.std.proofs.Common.{sym, subst}
use Rattle.candidate_rounds.specs.declared.rounds.goals.Verdict.TheVariants as V
use Rattle.candidate_rounds.specs.Calls.Writing.{SayOther}
use Rattle.candidate_rounds.proofs.Table.Changing.{maybe-other, yes-other}
use Rattle.candidate_rounds.proofs.rounds.writing.is_same_verdict.Goals as goal

pub returns-then-eq-clause-other : goal.returns-then-eq-clause-other
returns-then-eq-clause-other c = λ f.
    let on = c.in-Yes-Yes in
    subst (λ v. SayOther v c.args.b.now) (sym on.is-0) (subst (SayOther (V.Yes on.a on.way)) (sym on.is-1) (yes-other on.a on.b on.way on.other (c.is_same_response.ensures.other f)))

pub returns-then-eq-2-clause-other : goal.returns-then-eq-2-clause-other
returns-then-eq-2-clause-other c = λ f.
    let on = c.in-Maybe-Maybe in
    subst (λ v. SayOther v c.args.b.now) (sym on.is-0) (subst (SayOther (V.Maybe on.a on.way)) (sym on.is-1) (maybe-other on.a on.b on.way on.other (c.is_same_response-then-eq-2.ensures.other f)))
