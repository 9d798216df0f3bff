use Rattle.std.proofs.Common.{◌≡◌, sym, ◌∙◌, false}
use Rattle.std.specs.Prelude.{◌||◌}
use Rattle.ir_trees.specs.declared.ir.heads.Flag.TheVariants as F
use Rattle.ir_trees.specs.Syntax.Trees.{is_param, tree_holds}
use Rattle.ir_trees.specs.Syntax.Words.{args_forest}
use Rattle.ir_trees.proofs.Instantiation.Quiet.{instance_at-quiet, bound-kept}
use Rattle.ir_folds.proofs.decl.elaborate.InstancingPureFolder.may_answer.Goals as goal

pub returns-else-has : goal.returns-else-has
returns-else-has g c = λ ts d t are off.
    let param : tree_holds is_param t ≡ false = sym (are F.Param) ∙ (sym c.has.ensures ∙ c.if-has.false) in
    let bound = bound-kept c.args.marks t c.has_bound.result are c.has_bound.ensures off in
    instance_at-quiet (args_forest ts c.args.self.now.args) c.args.self.now.by d t (λ i. param i || bound i)
