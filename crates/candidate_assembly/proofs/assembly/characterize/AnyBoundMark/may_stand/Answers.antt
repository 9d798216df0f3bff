use Rattle.candidate_assembly.proofs.Rules.Unmarked.{none-bound}
use Rattle.candidate_assembly.proofs.assembly.characterize.AnyBoundMark.may_stand.Goals as goal

pub returns : goal.returns
returns c = λ t a n. none-bound c.args.kept t c.has_bound.result a c.has_bound.ensures n
