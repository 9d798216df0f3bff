use Rattle.std.proofs.Common.{sym, ap}
use Rattle.ir_trees.specs.Syntax.Nodes.{head_of, children_of}
use Rattle.ir_trees.proofs.Kinding.References.{no-result}
use Rattle.ir_trees.proofs.ir.node.Node.copy.Goals as goal

pub returns-in_err-to_vec-in-Args-clause-head : goal.returns-in_err-to_vec-in-Args-clause-head
returns-in_err-to_vec-in-Args-clause-head c = no-result c.from_residual.result _ c.from_residual.ensures.0

pub returns-in_err-to_vec-in-Args-clause-children : goal.returns-in_err-to_vec-in-Args-clause-children
returns-in_err-to_vec-in-Args-clause-children c = no-result c.from_residual.result _ c.from_residual.ensures.0

pub returns-in_ok-to_vec-in-Args-clause-head : goal.returns-in_ok-to_vec-in-Args-clause-head
returns-in_ok-to_vec-in-Args-clause-head c = sym (ap head_of c.in-Args.is)

pub returns-in_err-to_vec-in-Preds-clause-head : goal.returns-in_err-to_vec-in-Preds-clause-head
returns-in_err-to_vec-in-Preds-clause-head c = no-result c.from_residual-in_err-to_vec-in-Preds.result _ c.from_residual-in_err-to_vec-in-Preds.ensures.0

pub returns-in_err-to_vec-in-Preds-clause-children : goal.returns-in_err-to_vec-in-Preds-clause-children
returns-in_err-to_vec-in-Preds-clause-children c = no-result c.from_residual-in_err-to_vec-in-Preds.result _ c.from_residual-in_err-to_vec-in-Preds.ensures.0

pub returns-in_ok-to_vec-in-Preds-clause-head : goal.returns-in_ok-to_vec-in-Preds-clause-head
returns-in_ok-to_vec-in-Preds-clause-head c = sym (ap head_of c.in-Preds.is)

pub returns-in_err-to_vec-in-Clauses-clause-head : goal.returns-in_err-to_vec-in-Clauses-clause-head
returns-in_err-to_vec-in-Clauses-clause-head c = no-result c.from_residual-in_err-to_vec-in-Clauses.result _ c.from_residual-in_err-to_vec-in-Clauses.ensures.0

pub returns-in_err-to_vec-in-Clauses-clause-children : goal.returns-in_err-to_vec-in-Clauses-clause-children
returns-in_err-to_vec-in-Clauses-clause-children c = no-result c.from_residual-in_err-to_vec-in-Clauses.result _ c.from_residual-in_err-to_vec-in-Clauses.ensures.0

pub returns-in_ok-to_vec-in-Clauses-clause-head : goal.returns-in_ok-to_vec-in-Clauses-clause-head
returns-in_ok-to_vec-in-Clauses-clause-head c = sym (ap head_of c.in-Clauses.is)

pub returns-in_err-to_vec-in-Vars-clause-head : goal.returns-in_err-to_vec-in-Vars-clause-head
returns-in_err-to_vec-in-Vars-clause-head c = no-result c.from_residual-in_err-to_vec-in-Vars.result _ c.from_residual-in_err-to_vec-in-Vars.ensures.0

pub returns-in_err-to_vec-in-Vars-clause-children : goal.returns-in_err-to_vec-in-Vars-clause-children
returns-in_err-to_vec-in-Vars-clause-children c = no-result c.from_residual-in_err-to_vec-in-Vars.result _ c.from_residual-in_err-to_vec-in-Vars.ensures.0

pub returns-in_ok-to_vec-in-Vars-clause-head : goal.returns-in_ok-to_vec-in-Vars-clause-head
returns-in_ok-to_vec-in-Vars-clause-head c = sym (ap head_of c.in-Vars.is)

pub returns-in-Ty-clause-head : goal.returns-in-Ty-clause-head
returns-in-Ty-clause-head c = sym (ap head_of c.in-Ty.is)

pub returns-in-Ty-clause-children : goal.returns-in-Ty-clause-children
returns-in-Ty-clause-children c = sym (ap children_of c.in-Ty.is)

pub returns-in-Const-clause-head : goal.returns-in-Const-clause-head
returns-in-Const-clause-head c = sym (ap head_of c.in-Const.is)

pub returns-in-Const-clause-children : goal.returns-in-Const-clause-children
returns-in-Const-clause-children c = sym (ap children_of c.in-Const.is)

pub returns-in-Region-clause-head : goal.returns-in-Region-clause-head
returns-in-Region-clause-head c = sym (ap head_of c.in-Region.is)

pub returns-in-Region-clause-children : goal.returns-in-Region-clause-children
returns-in-Region-clause-children c = sym (ap children_of c.in-Region.is)

pub returns-in-Pred-clause-head : goal.returns-in-Pred-clause-head
returns-in-Pred-clause-head c = sym (ap head_of c.in-Pred.is)

pub returns-in-Pred-clause-children : goal.returns-in-Pred-clause-children
returns-in-Pred-clause-children c = sym (ap children_of c.in-Pred.is)

pub returns-in-Clause-clause-head : goal.returns-in-Clause-clause-head
returns-in-Clause-clause-head c = sym (ap head_of c.in-Clause.is)

pub returns-in-Clause-clause-children : goal.returns-in-Clause-clause-children
returns-in-Clause-clause-children c = sym (ap children_of c.in-Clause.is)

pub returns-in-Sig-clause-head : goal.returns-in-Sig-clause-head
returns-in-Sig-clause-head c = sym (ap head_of c.in-Sig.is)

pub returns-in-Sig-clause-children : goal.returns-in-Sig-clause-children
returns-in-Sig-clause-children c = sym (ap children_of c.in-Sig.is)

pub returns-in-Var-clause-head : goal.returns-in-Var-clause-head
returns-in-Var-clause-head c = sym (ap head_of c.in-Var.is)

pub returns-in-Var-clause-children : goal.returns-in-Var-clause-children
returns-in-Var-clause-children c = sym (ap children_of c.in-Var.is)
