use Rattle.ir_trees.proofs.ir.nodes.Nodes.mk_pred_list.Goals as goal

pub returns-clause-fit : goal.returns-clause-fit
returns-clause-fit c = λ w f. c.add.ensures.fit w f (λ e. cc)
