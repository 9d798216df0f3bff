use Rattle.std.proofs.Common.{◌<◌, length, ◌∙◌, subst, rules}
use Rattle.candidate_rounds.specs.Table.Steps.{IsSureOfOne}
use Rattle.candidate_rounds.proofs.Table.Finding.{get-same}
use Rattle.candidate_rounds.proofs.Table.Running.{get-there}
use Rattle.candidate_rounds.proofs.Table.Steps.{sure-there}
use Rattle.candidate_rounds.proofs.rounds.derivation.rule_of.Goals as goal

pub returns-then-is_sure : goal.returns-then-is_sure
returns-then-is_sure c =
    let xs = c.args.candidates.now in
    let i = c.loop-i.i in
    let x = c.index-candidates-i.result in
    let y = c.index-candidates-i-then-is_sure.result in
    let r = c.args.response.now in
    let below : i < length xs = search rules in
    let there = get-there xs i x below c.index-candidates-i.is in
    let same = get-same xs i x y there (get-there xs i y below c.index-candidates-i-then-is_sure.is) ∙ c.index-candidates-i-then-is_sure.is in
    subst (λ w. IsSureOfOne xs w r) (λ n. let z = same n in z.source) (sure-there xs i x x.source r there (c.is_sure.ensures.sure c.if-is_sure.true))
