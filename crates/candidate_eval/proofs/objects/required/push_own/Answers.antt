use Rattle.std.proofs.Common.{rules, ◌≡◌, ◌∷◌, ◌++◌, [], List, ◌∙◌, ap, subst}
use Rattle.std.specs.Prelude.{map}
use Rattle.ir_trees.specs.Declarations.Context.{Context}
use Rattle.ir_trees.specs.Declarations.References.{IsWellFormed}
use Rattle.ir_trees.specs.Syntax.Trees.{Tree}
use Rattle.ir_trees.specs.Syntax.Words.{clause_tree, pred_kind_tree, pred_tree, ty_tree}
use Rattle.candidate_eval.specs.Dynamic.Required.{as_bound, said_of}
use Rattle.candidate_eval.proofs.Dynamic.Required.{projection_said, projection_takes, pushed_fit, pushed_trees}
use Rattle.std.proofs.lemmas.Result.{err_from_is_err_and}
use Rattle.candidate_eval.specs.Interface.Unmade.IsUnmade.{no_memory}
use Rattle.candidate_eval.proofs.objects.required.push_own.Goals as goal

pub bound_clause-requires-clause-takes : goal.bound_clause-requires-clause-takes
bound_clause-requires-clause-takes g c =
    let start = g.M.Build.context c.args.make.now in
    let tree = subst (λ (x : Context). pred_kind_tree x.trees c.pred-bound.result ≡ pred_tree x.trees c.args.bound) c.cx-2.ensures c.pred-bound.ensures.tree in
    projection_takes start c.args.bound c.pred-bound.result c.in-Projection.value (subst IsWellFormed c.cx.ensures c.recall_well_formed.ensures) tree c.in-Projection.is

pub returns-in_ok-push-clause-sort : goal.returns-in_ok-push-clause-sort
returns-in_ok-push-clause-sort g c =
    let items : c.push.new.self.items ≡ c.args.list.now.items ++ c.in_ok-clause.clause ∷ [] = search rules in
    pushed_fit (g.M.Build.context c.args.make.now) (g.M.Build.context c.bound_clause.new.make) c.args.list.now.items c.push.new.self.items c.in_ok-clause.clause c.in_ok-clause.ensures.grows c.requires.list c.in_ok-clause.ensures.sort items

pub returns-in_ok-push-clause-trees : goal.returns-in_ok-push-clause-trees
returns-in_ok-push-clause-trees g c =
    let start = g.M.Build.context c.args.make.now in
    let object = ty_tree start.trees c.args.object in
    let items : c.push.new.self.items ≡ c.args.list.now.items ++ c.in_ok-clause.clause ∷ [] = search rules in
    let tree = subst (λ (x : Context). pred_kind_tree x.trees c.pred-bound.result ≡ pred_tree x.trees c.args.bound) c.cx-2.ensures c.pred-bound.ensures.tree in
    pushed_trees start (g.M.Build.context c.bound_clause.new.make) c.args.list.now.items c.push.new.self.items c.in_ok-clause.clause
    (said_of object (pred_kind_tree start.trees (as_bound (record { vars = c.pred-bound.result.vars; value = c.in-Projection.value })))) c.in_ok-clause.ensures.grows c.requires.list items c.in_ok-clause.ensures.tree
    ∙ ap (λ (ts : List Tree). map (clause_tree start.trees) c.args.list.now.items ++ ts) (projection_said start.trees object c.args.bound c.pred-bound.result c.in-Projection.value tree c.in-Projection.is)

pub returns-in_err-push-clause-cause : goal.returns-in_err-push-clause-cause
returns-in_err-push-clause-cause g c =
    let p = err_from_is_err_and c.from_residual-in_err-push.result c.from_residual-in_err-push.ensures.1 in
    rw (p.1, p.2) no_memory
