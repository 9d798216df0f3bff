use Rattle.std.proofs.Common.{rules, ◌≡◌, ◌∷◌, [], ◌++◌, ap, ◌∙◌}
use Rattle.ir_trees.specs.Syntax.Trees.{Forest}
use Rattle.ir_trees.specs.Syntax.Words.{args_forest, ty_tree}
use Rattle.ir_trees.proofs.Growth.Kept.{args-kept, grows-trans}
use Rattle.candidate_eval.proofs.Dynamic.Required.{pushed_fit, pushed_trees}
use Rattle.candidate_assembly.specs.Rules.BuiltinRules.{opened_by, said_of_type, values_at}
use Rattle.candidate_assembly.proofs.Goals.TraitClauses.{fit-kept}
use Rattle.std.proofs.lemmas.Result.{err_from_is_err_and}
use Rattle.candidate_eval.specs.Interface.Unmade.IsUnmade.{no_memory}
use Rattle.candidate_eval.proofs.Interface.Unmade.{unmade-before}
use Rattle.candidate_assembly.proofs.trait_goals.parts.push_part.Goals as goal

pub for_type-requires-clause-args : goal.for_type-requires-clause-args
for_type-requires-clause-args g c = (args-kept _ _ c.args.predicate.trait_ref.args c.opened_part.ensures.grows c.requires.args).0

pub for_type-requires-clause-fit : goal.for_type-requires-clause-fit
for_type-requires-clause-fit g c = fit-kept _ _ c.args.predicate.trait_ref c.opened_part.ensures.grows c.requires.args c.requires.fit

pub returns-clause-sort : goal.returns-clause-sort
returns-clause-sort g c =
    let items : c.push.new.self.items ≡ c.args.list.now.items ++ c.in_ok-clause.clause ∷ [] = search rules in
    pushed_fit (g.M.Build.context c.args.make.now) (g.M.Build.context c.for_type.new.make) c.args.list.now.items c.push.new.self.items c.in_ok-clause.clause
    (grows-trans _ _ _ c.opened_part.ensures.grows c.for_type.ensures.grows) c.requires.list c.in_ok-clause.ensures.sort items

pub returns-clause-trees : goal.returns-clause-trees
returns-clause-trees g c =
    let old = g.M.Build.context c.args.make.now in
    let mid = g.M.Build.context c.opened_part.new.make in
    let a = c.args.predicate.trait_ref.args in
    let items : c.push.new.self.items ≡ c.args.list.now.items ++ c.in_ok-clause.clause ∷ [] = search rules in
    pushed_trees old (g.M.Build.context c.for_type.new.make) c.args.list.now.items c.push.new.self.items c.in_ok-clause.clause
    (said_of_type (args_forest old.trees a) c.args.predicate (opened_by (values_at old.trees c.args.under) (ty_tree old.trees c.args.ty)))
    (grows-trans _ _ _ c.opened_part.ensures.grows c.for_type.ensures.grows) c.requires.list items
    (c.in_ok-clause.ensures.tree ∙ (ap (λ (x : Forest). said_of_type x c.args.predicate (ty_tree mid.trees c.in_ok-ty.ty)) (args-kept old mid a c.opened_part.ensures.grows c.requires.args).1
    ∙ ap (said_of_type (args_forest old.trees a) c.args.predicate) c.in_ok-ty.ensures.tree))

pub returns-in_err-clause-clause-grows : goal.returns-in_err-clause-clause-grows
returns-in_err-clause-clause-grows g c = grows-trans _ _ _ c.opened_part.ensures.grows c.for_type.ensures.grows

pub returns-in_err-push-clause-grows : goal.returns-in_err-push-clause-grows
returns-in_err-push-clause-grows g c = grows-trans _ _ _ c.opened_part.ensures.grows c.for_type.ensures.grows

pub returns-clause-grows : goal.returns-clause-grows
returns-clause-grows g c = grows-trans _ _ _ c.opened_part.ensures.grows c.for_type.ensures.grows

pub returns-in_err-push-clause-cause : goal.returns-in_err-push-clause-cause
returns-in_err-push-clause-cause g c =
    let p = err_from_is_err_and c.from_residual-in_err-push.result c.from_residual-in_err-push.ensures.1 in
    rw (p.1, p.2) no_memory

pub returns-in_err-clause-clause-cause : goal.returns-in_err-clause-clause-cause
returns-in_err-clause-clause-cause g c =
    let p = err_from_is_err_and c.from_residual-in_err-clause.result c.from_residual-in_err-clause.ensures.1 in
    rw (p.1, p.2) (unmade-before c.opened_part.ensures.grows c.in_err-clause.ensures.cause)
