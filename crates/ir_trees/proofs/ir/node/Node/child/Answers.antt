use Rattle.std.proofs.Common.{◌<◌, ◌∙◌, length, ap, subst, Some, slice_get, sym, arith}
use Rattle.ir_trees.specs.Syntax.Kinds.{numbers}
use Rattle.ir_trees.specs.Syntax.Nodes.{children_of}
use Rattle.ir_trees.specs.declared.ir.node.Node.{Node}
use Rattle.ir_trees.proofs.Syntax.Children.{arg_at, length_args, pred_at, length_preds, clause_at, length_clauses, var_at, length_vars}
use Rattle.ir_trees.proofs.ir.node.Node.child.Goals as goal

pub returns-in-Args : goal.returns-in-Args
returns-in-Args c =
    let P : Node → Type 0 = λ d. c.args.i < length (children_of d) in
    let h : c.args.i < length c.in-Args.list.items = omega (arith, subst P c.in-Args.is c.requires, length_args c.in-Args.list.items) in
    let at = arg_at c.in-Args.list.items c.args.i c.index.result.now h c.index.ensures in
    ap (λ (d : Node). slice_get (numbers (children_of d)) c.args.i) c.in-Args.is ∙ (at ∙ ap Some (sym c.number.ensures))

pub returns-in-Preds : goal.returns-in-Preds
returns-in-Preds c =
    let P : Node → Type 0 = λ d. c.args.i < length (children_of d) in
    let h : c.args.i < length c.in-Preds.list.items = omega (arith, subst P c.in-Preds.is c.requires, length_preds c.in-Preds.list.items) in
    let at = pred_at c.in-Preds.list.items c.args.i c.index-in-Preds.result.now h c.index-in-Preds.ensures in
    ap (λ (d : Node). slice_get (numbers (children_of d)) c.args.i) c.in-Preds.is ∙ at

pub returns-in-Clauses : goal.returns-in-Clauses
returns-in-Clauses c =
    let P : Node → Type 0 = λ d. c.args.i < length (children_of d) in
    let h : c.args.i < length c.in-Clauses.list.items = omega (arith, subst P c.in-Clauses.is c.requires, length_clauses c.in-Clauses.list.items) in
    let at = clause_at c.in-Clauses.list.items c.args.i c.index-in-Clauses.result.now h c.index-in-Clauses.ensures in
    ap (λ (d : Node). slice_get (numbers (children_of d)) c.args.i) c.in-Clauses.is ∙ at

pub returns-in-Vars : goal.returns-in-Vars
returns-in-Vars c =
    let P : Node → Type 0 = λ d. c.args.i < length (children_of d) in
    let h : c.args.i < length c.in-Vars.list.items = omega (arith, subst P c.in-Vars.is c.requires, length_vars c.in-Vars.list.items) in
    let at = var_at c.in-Vars.list.items c.args.i c.index-in-Vars.result.now h c.index-in-Vars.ensures in
    ap (λ (d : Node). slice_get (numbers (children_of d)) c.args.i) c.in-Vars.is ∙ at
