use Rattle.std.proofs.Common.{sym, ◌∙◌}
use Rattle.ir_trees.proofs.ir.marks.FlagMark.may_stand.Goals as goal

pub returns : goal.returns
returns c = λ t a n. sym (a c.args.self.now) ∙ (sym c.has.ensures ∙ n)
