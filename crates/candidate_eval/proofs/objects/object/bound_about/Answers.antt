use Rattle.std.proofs.Common.{rules, ◌≡◌}
use Rattle.ir_trees.specs.declared.ir.kinds.ClauseKind.TheVariants as K
use Rattle.candidate_eval.proofs.Dynamic.Objects.{about_yes}
use Rattle.candidate_eval.proofs.objects.object.bound_about.Goals as goal

pub returns-then-predicate-item : goal.returns-then-predicate-item
returns-then-predicate-item c =
    let is : c.clause.result.value ≡ K.Projection c.in-Projection.predicate = search rules in
    about_yes c.args.cx.now.trees c.args.bound c.clause.result c.in-Projection.predicate c.args.item.0 c.clause.ensures.fits c.clause.ensures.tree is c.if-predicate-item.true
