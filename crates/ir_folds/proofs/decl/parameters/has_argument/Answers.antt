use Rattle.std.proofs.Common.{refl}
use Rattle.ir_trees.specs.declared.ir.kinds.GenericArg.TheVariants as A
use Rattle.ir_trees.specs.Declarations.Context.{parameter_kind}
use Rattle.ir_trees.specs.Syntax.Words.{args_forest}
use Rattle.ir_folds.proofs.Instantiation.Arguments.{has-kind, has-none}
use Rattle.ir_folds.proofs.decl.parameters.has_argument.Goals as goal

pub returns-then-index-list : goal.returns-then-index-list
returns-then-index-list c =
    has-none c.args.cx.now.trees (args_forest c.args.cx.now.trees c.args.args) c.args-list.result.now c.args.index (parameter_kind c.args.kind) c.args-list.ensures.fits c.args-list.ensures.tree c.if-index-list.true

pub returns : goal.returns
returns c =
    has-kind c.args.cx.now.trees (args_forest c.args.cx.now.trees c.args.args) c.args-list.result.now c.args.index (A.Ty (record { 0 = 0 })) _ (parameter_kind c.args.kind) c.is_of.result c.args-list.ensures.fits c.args-list.ensures.tree c.if-index-list.false refl c.is_of.ensures
