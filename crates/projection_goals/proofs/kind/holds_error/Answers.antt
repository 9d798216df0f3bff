use Rattle.std.proofs.Common.{◌∙◌, false, refl, sym, true}
use Rattle.ir_trees.specs.declared.ir.heads.Flag.TheVariants.{Error}
use Rattle.ir_trees.specs.Syntax.Flags.{mark}
use Rattle.ir_trees.specs.Syntax.Trees.{tree_holds}
use Rattle.ir_trees.specs.Syntax.Words.{args_forest, ty_tree}
use Rattle.projection_goals.proofs.Changing.{held-either}
use Rattle.projection_goals.proofs.kind.holds_error.Goals as goal

pub returns-then-has : goal.returns-then-has
returns-then-has c =
    let ts = c.args.cx.now.trees in
    let p = c.args.predicate in
    c.if-has.true ∙ sym (held-either (mark Error) (args_forest ts p.alias.args) (ty_tree ts p.term) true (tree_holds (mark Error) (ty_tree ts p.term)) (sym c.if-has.true ∙ c.has.ensures.list refl) refl)

pub returns-else-has : goal.returns-else-has
returns-else-has c =
    let ts = c.args.cx.now.trees in
    let p = c.args.predicate in
    sym (held-either (mark Error) (args_forest ts p.alias.args) (ty_tree ts p.term) false c.has-else-has.result (sym c.if-has.false ∙ c.has.ensures.list refl) c.has-else-has.ensures.is)
