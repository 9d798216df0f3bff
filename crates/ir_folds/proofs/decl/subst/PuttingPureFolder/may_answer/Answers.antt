use Rattle.std.proofs.Common.{sym, ◌∙◌}
use Rattle.ir_trees.specs.declared.ir.heads.Flag.TheVariants as F
use Rattle.ir_trees.specs.Syntax.Words.{args_forest}
use Rattle.ir_trees.proofs.Instantiation.Quiet.{put-quiet}
use Rattle.ir_folds.proofs.decl.subst.PuttingPureFolder.may_answer.Goals as goal

pub returns : goal.returns
returns g c = λ ts d t are off. put-quiet (args_forest ts c.args.self.now.args) d t (sym (are F.Param) ∙ (sym c.has.ensures ∙ off))
