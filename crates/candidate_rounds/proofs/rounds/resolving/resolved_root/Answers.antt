use Rattle.std.proofs.Common.{◌∙◌, ap}
use Rattle.ir_trees.specs.Instantiation.Folds.{arg_tree}
use Rattle.candidate_rounds.specs.Evaluators.Known.{state_of}
use Rattle.candidate_rounds.proofs.Resolution.Rooted.{or-root, region-stays, root-sort}
use Rattle.candidate_rounds.proofs.rounds.resolving.resolved_root.Goals as goal

pub returns-in-Region-clause-tree : goal.returns-in-Region-clause-tree
returns-in-Region-clause-tree c = λ m. region-stays c.args.cx.now.trees (state_of c.args.cx.now.trees m c.args.inference.now) c.args.arg c.in-Region.field-0 c.requires.arg c.in-Region.is

pub returns : goal.returns
returns c =
    let ts = c.args.cx.now.trees in
    record {
      sort = rw c.unwrap_or.ensures (root-sort ts c.args.inference.now c.args.arg c.requires.arg c.in_default.not-Region c.value_for.result c.requires.known c.requires.kinds c.value_for.ensures);
      tree = λ m. ap (arg_tree ts) c.unwrap_or.ensures ∙ or-root ts c.args.inference.now c.args.arg c.requires.arg c.in_default.not-Region m c.value_for.result c.value_for.ensures;
    }
