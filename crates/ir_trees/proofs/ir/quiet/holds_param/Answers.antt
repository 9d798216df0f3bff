use Rattle.std.proofs.Common.{◌∙◌}
use Rattle.ir_trees.specs.declared.ir.heads.Flag.TheVariants as F
use Rattle.ir_trees.proofs.ir.quiet.holds_param.Goals as goal

pub returns : goal.returns
returns g c = c.has.ensures ∙ c.marks.ensures F.Param
