use Rattle.std.proofs.Common.{set, true, if◌then◌else◌, sym, ◌∙◌, ap}
use Rattle.std.proofs.lemmas.Bool.{le-ltb, lt-ltb}
use Rattle.candidate_rounds.proofs.rounds.derivation.mark_below.Goals as goal

pub returns-then-place-bound : goal.returns-then-place-bound
returns-then-place-bound c =
    let ms = c.args.marks.now.items in
    let n = c.args.place in
    sym (ap (λ b. if b then set ms n true else ms) (le-ltb n c.args.bound c.if-place-bound.true))

pub returns : goal.returns
returns c =
    let ms = c.args.marks.now.items in
    let n = c.args.place in
    c.mark.ensures ∙ sym (ap (λ b. if b then set ms n true else ms) (lt-ltb n c.args.bound c.if-place-bound.false))
