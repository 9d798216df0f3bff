use Rattle.std.proofs.Common.{ℕ, ap, ◌∙◌}
use Rattle.std.specs.Prelude.{nat_eq}
use Rattle.std.specs.Int.{bit_at}
use Rattle.ir_trees.specs.Syntax.Marks.{bit_place}
use Rattle.ir_trees.proofs.Syntax.MarkBits.{head-bit}
use Rattle.ir_trees.proofs.ir.heads.Head.marks.Goals as goal

pub returns : goal.returns
returns c = λ f. ap (λ (b : ℕ). nat_eq (bit_at b (bit_place f)) 1) c.mark_bit.ensures ∙ head-bit c.args.self f
