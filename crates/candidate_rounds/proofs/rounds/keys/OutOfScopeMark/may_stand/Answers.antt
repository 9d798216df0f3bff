use Rattle.candidate_rounds.proofs.Table.Asked.{strange-kept}
use Rattle.candidate_rounds.proofs.rounds.keys.OutOfScopeMark.may_stand.Goals as goal

pub returns-else-has_infer : goal.returns-else-has_infer
returns-else-has_infer c = λ t a n.
    strange-kept c.args.kept c.args.self.now.newest c.args.self.now.variables.now t c.has_infer.result c.has_placeholder.result a c.has_infer.ensures c.if-has_infer.false c.has_placeholder.ensures n
