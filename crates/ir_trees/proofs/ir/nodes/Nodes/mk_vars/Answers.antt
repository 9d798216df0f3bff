use Rattle.ir_trees.proofs.ir.nodes.Nodes.mk_vars.Goals as goal

pub returns-in-Ok : goal.returns-in-Ok
returns-in-Ok c = record {
  kept = c.in-Ok.ensures.kept;
  fit = λ w f t. c.in-Ok.ensures.fit w f;
  sort = c.in-Ok.ensures.sort;
  tree = c.in-Ok.ensures.tree;
  unchanged = tt;
  cause = tt;
}
