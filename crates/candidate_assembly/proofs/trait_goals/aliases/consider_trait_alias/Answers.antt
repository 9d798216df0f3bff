use Rattle.std.proofs.Common.{[], true, map, ap, sym, ◌∙◌}
use Rattle.std.proofs.lemmas.Result.{err_from_is_err_and}
use Rattle.ir_trees.specs.declared.ir.kinds.Clause.{Clause}
use Rattle.ir_trees.specs.declared.ir.kinds.GoalSource.TheVariants.{Misc}
use Rattle.ir_trees.specs.Declarations.Declaring.{trait_at}
use Rattle.ir_trees.specs.Instantiation.Folding.{substituted_tree}
use Rattle.ir_trees.specs.Declarations.Lookups.{maybe}
use Rattle.ir_trees.specs.Syntax.Words.{args_forest, clause_tree, env_forest}
use Rattle.candidate_eval.specs.declared.eval.certainty.Certainty.TheVariants.{Yes}
use Rattle.candidate_eval.proofs.Dynamic.Objects.{env-kept}
use Rattle.candidate_eval.proofs.Builtins.PartsFree.{put-parameterless}
use Rattle.candidate_eval.proofs.Interface.Probing.{made}
use Rattle.candidate_assembly.specs.Rules.BuiltinRules.{misc, positive, trait_alias_rule}
use Rattle.candidate_assembly.specs.Answers.Telling.{flat_rule}
use Rattle.candidate_assembly.specs.Calls.Seen.{wheres_of}
use Rattle.candidate_assembly.specs.Goals.TraitGoals.{trait_goal}
use Rattle.candidate_assembly.proofs.Calls.Causes.{answered-stop, made-here}
use Rattle.candidate_assembly.proofs.Calls.Considering.{considers-after, not-made}
use Rattle.candidate_assembly.proofs.Calls.Stepping.{unmade-own}
use Rattle.candidate_assembly.proofs.Rules.PureFolder.{rejected-at-once}
use Rattle.candidate_assembly.proofs.Rules.Flat.{flat-refused}
use Rattle.candidate_assembly.proofs.Rules.TraitAliases.{alias-rule-is, free-clauses}
use Rattle.candidate_assembly.proofs.trait_goals.aliases.consider_trait_alias.Goals as goal

pub returns-then-not-is_positive : goal.returns-then-not-is_positive
returns-then-not-is_positive g c =
    let E = g.E.EvalCtxt in
    let first = c.args.ecx.now in
    let old = g.E.Build.context first in
    let now = trait_goal old.trees c.args.env c.args.predicate in
    let r = c.args.predicate.trait_ref in
    rejected-at-once (λ f. (g.met.E.EvalCtxt.lawful f).alike_judged_alike) first (trait_alias_rule old now)
    (flat-refused (E.judge (E.fixed first)) (E.state first) now.env (positive now) Misc (wheres_of old r) misc Yes (sym c.is_positive.ensures ∙ c.if-not-is_positive.true))

pub returns-in_err-clauses : goal.returns-in_err-clauses
returns-in_err-clauses g c =
    let first = c.args.ecx.now in
    let old = g.E.Build.context first in
    let r = g.met.E.EvalCtxt.by_rest first c.where_clauses.new.make c.where_clauses.ensures.rest in
    let s = c.in_err-clauses.field-0.0 in
    let m = c.in_err-clauses.ensures.cause in
    not-made (λ f. (g.met.E.EvalCtxt.lawful f).alike_judged_alike) first c.where_clauses.new.make (trait_alias_rule old (trait_goal old.trees c.args.env c.args.predicate)) c.from_residual.result s
    (answered-stop c.from_residual.result s (err_from_is_err_and c.from_residual.result c.from_residual.ensures.1)) (unmade-own s m) (made r c.where_clauses.ensures.grows) r.1 (made-here m)

pub consider_with_nested-requires-clause-env : goal.consider_with_nested-requires-clause-env
consider_with_nested-requires-clause-env g c = (env-kept (g.E.Build.context c.args.ecx.now) _ c.args.env c.where_clauses.ensures.grows c.requires.goal.env).0

pub consider_with_nested-requires-clause-free : goal.consider_with_nested-requires-clause-free
consider_with_nested-requires-clause-free g c =
    let old = g.E.Build.context c.args.ecx.now in
    let a = c.args.predicate.trait_ref.args in
    rw c.as_slice-nested.ensures.value (free-clauses (g.E.Build.context c.where_clauses.new.make).trees c.in_ok-clauses.clauses.items (maybe [] (λ t. t.wheres) (trait_at old c.args.predicate.trait_ref.def_id.0))
    (λ (x : Clause). substituted_tree (args_forest old.trees a) (clause_tree old.trees x)) c.in_ok-clauses.ensures.trees (λ w. put-parameterless (args_forest old.trees a) (clause_tree old.trees w) c.requires.goal.no_parameter))

pub returns : goal.returns
returns g c =
    let first = c.args.ecx.now in
    let middle = c.where_clauses.new.make in
    let old = g.E.Build.context first in
    let mid = g.E.Build.context middle in
    let now = trait_goal old.trees c.args.env c.args.predicate in
    let r = g.met.E.EvalCtxt.by_rest first middle c.where_clauses.ensures.rest in
    let xs = c.as_slice-nested.result.now in
    considers-after first middle c.consider_with_nested.new.ecx (trait_alias_rule old now) (flat_rule (env_forest mid.trees c.args.env) true Misc (map (clause_tree mid.trees) xs) misc Yes) c.consider_with_nested.result
    (made r c.where_clauses.ensures.grows) r.1
    (alias-rule-is now (env_forest mid.trees c.args.env) true (map (clause_tree mid.trees) xs) _ (env-kept old mid c.args.env c.where_clauses.ensures.grows c.requires.goal.env).1 (sym c.if-not-is_positive.false ∙ c.is_positive.ensures)
    (ap (map (clause_tree mid.trees)) c.as_slice-nested.ensures.value ∙ c.in_ok-clauses.ensures.trees)) c.consider_with_nested.ensures
