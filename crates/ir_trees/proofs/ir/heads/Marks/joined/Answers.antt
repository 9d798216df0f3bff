use Rattle.ir_trees.specs.Syntax.Marks.{bit_place}
use Rattle.ir_trees.proofs.Syntax.MarkBits.{bit-or}
use Rattle.ir_trees.proofs.ir.heads.Marks.joined.Goals as goal

pub returns : goal.returns
returns c = λ f. bit-or c.args.self.bits c.args.other.bits (bit_place f)
