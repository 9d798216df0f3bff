use Rattle.ir_trees.proofs.Instantiation.Quiet.{placeholder-kept}
use Rattle.ir_trees.proofs.ir.marks.PlaceholderAboveMark.may_stand.Goals as goal

pub returns : goal.returns
returns c = λ t a n. placeholder-kept c.args.kept c.args.self.now.0 t c.has_placeholder.result a c.has_placeholder.ensures n
