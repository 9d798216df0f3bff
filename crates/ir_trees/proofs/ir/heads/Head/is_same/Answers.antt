use Rattle.std.proofs.Common.{ap, sym, ◌∙◌}
use Rattle.ir_trees.specs.declared.ir.heads.Head.{Head}
use Rattle.ir_trees.specs.contracts.ir.heads.HeadPartialEq.TheImpl.{eq-value}
use Rattle.ir_trees.proofs.Syntax.Equal.{head_is, head_itself}
use Rattle.ir_trees.proofs.ir.heads.Head.is_same.Goals as goal

pub returns : goal.returns
returns c = (
  (λ h. head_is c.args.self c.args.other (sym c.eq.ensures ∙ h)),
  (λ h. c.eq.ensures ∙ (ap (λ (x : Head). eq-value.it x c.args.other) h ∙ head_itself c.args.other)),
)
