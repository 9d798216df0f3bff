use Rattle.candidate_assembly.proofs.Rules.Unmarked.{none-of-interest}
use Rattle.candidate_assembly.proofs.assembly.characterize.OfInterestMark.may_stand.Goals as goal

pub returns-else-has_placeholder : goal.returns-else-has_placeholder
returns-else-has_placeholder c = λ t a n.
    none-of-interest c.args.kept t c.has_infer.result c.has_placeholder.result c.has.result a c.has_infer.ensures c.if-has_infer.false
    c.has_placeholder.ensures c.if-has_placeholder.false c.has.ensures n
