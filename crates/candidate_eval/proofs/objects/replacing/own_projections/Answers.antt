use Rattle.std.proofs.Common.{refl}
use Rattle.ir_trees.specs.Syntax.Trees.{ClauseKind}
use Rattle.ir_trees.proofs.Syntax.Lists.{below_kind}
use Rattle.candidate_eval.proofs.objects.replacing.own_projections.Goals as goal

pub push_projections-requires-clause-number : goal.push_projections-requires-clause-number
push_projections-requires-clause-number c = below_kind c.args.cx.now.trees c.args.clause.0 ClauseKind refl c.requires.clause
