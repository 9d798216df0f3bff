use Rattle.std.proofs.Common.{◌∙◌, ap}
use Rattle.ir_trees.specs.Syntax.Nodes.{kind_at}
use Rattle.candidate_rounds.proofs.Resolution.Values.{region-value}
use Rattle.candidate_rounds.proofs.rounds.evaluator.RoundsEvalCtxt.eager_resolve_region.Goals as goal

pub region_of-requires : goal.region_of-requires
region_of-requires c = region-value c.args.self.now.context.trees c.in-Some.value c.in-Some.ensures.0 c.in-Some.ensures.2

pub returns-in-Some-clause-sort : goal.returns-in-Some-clause-sort
returns-in-Some-clause-sort c =
    let ts = c.args.self.now.context.trees in
    ap (kind_at ts) c.region_of.ensures ∙ (c.in-Some.ensures.0 ∙ region-value ts c.in-Some.value c.in-Some.ensures.0 c.in-Some.ensures.2)
