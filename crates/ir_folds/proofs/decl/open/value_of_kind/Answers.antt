use Rattle.std.proofs.Common.{sym}
use Rattle.ir_trees.specs.Syntax.Words.{args_forest}
use Rattle.ir_folds.proofs.Instantiation.Opening.{value-missing, value-there, value-other}
use Rattle.ir_folds.proofs.Instantiation.Substituting.{not-both}
use Rattle.ir_folds.proofs.decl.open.value_of_kind.Goals as goal

pub returns-in_err-value : goal.returns-in_err-value
returns-in_err-value c = rw c.from_residual.ensures (value-missing c.args.kind (args_forest c.args.cx.now.trees c.args.values) c.args.index c.in_err-value.ensures)

pub returns-then-is_of : goal.returns-then-is_of
returns-then-is_of c =
    let found = c.in_ok-value.ensures in
    let kind = sym (c.is_of.ensures.0 c.if-is_of.true) in (
      found.0,
      kind,
      value-there c.args.kind (args_forest c.args.cx.now.trees c.args.values) c.args.index c.args.cx.now.trees c.in_ok-value.value found.2 found.0 kind,
    )

pub returns-else-is_of : goal.returns-else-is_of
returns-else-is_of c =
    let found = c.in_ok-value.ensures in
    value-other c.args.kind (args_forest c.args.cx.now.trees c.args.values) c.args.index c.args.cx.now.trees c.in_ok-value.value found.2 found.0 (λ e. not-both _ (c.is_of.ensures.1 e) c.if-is_of.false)
