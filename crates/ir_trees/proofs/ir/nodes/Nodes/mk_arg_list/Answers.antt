use Rattle.std.proofs.Common.{rules}
use Rattle.ir_trees.proofs.ir.nodes.Nodes.mk_arg_list.Goals as goal

pub returns : goal.returns
returns c = record {
  kept = c.in_ok-add.ensures.kept;
  fit = λ w f u. c.in_ok-add.ensures.fit w f (λ e. cc);
  sort = c.in_ok-add.ensures.sort;
  tree = search rules;
  unchanged = tt;
  cause = tt;
}
