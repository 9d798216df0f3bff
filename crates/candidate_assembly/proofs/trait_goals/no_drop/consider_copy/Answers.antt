use Rattle.std.proofs.Common.{◌≡◌, true, Some, [], ◌∷◌, ap, subst, sym, ◌∙◌}
use Rattle.std.proofs.lemmas.Result.{err_from_is_err_and}
use Rattle.ir_trees.specs.declared.decl.contents.LangItem.TheVariants as L
use Rattle.ir_trees.specs.declared.ir.kinds.GoalSource.TheVariants.{ImplWhereBound}
use Rattle.ir_trees.specs.Declarations.Context.{Context}
use Rattle.ir_trees.specs.Syntax.Trees.{Tree}
use Rattle.ir_trees.specs.Syntax.Words.{args_forest, clause_tree, env_forest, ty_tree}
use Rattle.candidate_eval.specs.declared.eval.certainty.Certainty.TheVariants.{Yes}
use Rattle.candidate_eval.specs.Dynamic.ObjectRequirements.{first_tree}
use Rattle.candidate_eval.proofs.Dynamic.Objects.{env-kept}
use Rattle.candidate_eval.proofs.Interface.Probing.{made}
use Rattle.candidate_assembly.specs.Rules.BuiltinRules.{copy_rule, meets, misc, positive}
use Rattle.candidate_assembly.specs.Answers.Telling.{flat_rule}
use Rattle.candidate_assembly.specs.Goals.TraitGoals.{item_trait, trait_goal}
use Rattle.candidate_assembly.proofs.Calls.Causes.{answered-stop, made-here}
use Rattle.candidate_assembly.proofs.Calls.Considering.{considers-after, not-made}
use Rattle.candidate_assembly.proofs.Calls.Stepping.{unmade-own}
use Rattle.candidate_assembly.proofs.Rules.PureFolder.{rejected-at-once}
use Rattle.candidate_assembly.proofs.Rules.MeetingClauses.{copy-refused}
use Rattle.candidate_assembly.proofs.trait_goals.no_drop.consider_copy.Goals as goal

pub returns-then-not-is_positive : goal.returns-then-not-is_positive
returns-then-not-is_positive g c =
    let E = g.E.EvalCtxt in
    let first = c.args.ecx.now in
    let old = g.E.Build.context first in
    let now = trait_goal old.trees c.args.env c.args.predicate in
    rejected-at-once (λ f. (g.met.E.EvalCtxt.lawful f).alike_judged_alike) first (copy_rule now (item_trait old L.Copy))
    (copy-refused (E.judge (E.fixed first)) (E.state first) now (item_trait old L.Copy) (sym c.is_positive.ensures ∙ c.if-not-is_positive.true))

pub returns-in_err-clause : goal.returns-in_err-clause
returns-in_err-clause g c =
    let first = c.args.ecx.now in
    let old = g.E.Build.context first in
    let r = g.met.E.EvalCtxt.by_rest first c.meets_trait.new.make c.meets_trait.ensures.rest in
    let s = c.in_err-clause.field-0.0 in
    let m = c.in_err-clause.ensures.cause in
    not-made (λ f. (g.met.E.EvalCtxt.lawful f).alike_judged_alike) first c.meets_trait.new.make (copy_rule (trait_goal old.trees c.args.env c.args.predicate) (item_trait old L.Copy)) c.from_residual.result s
    (answered-stop c.from_residual.result s (err_from_is_err_and c.from_residual.result c.from_residual.ensures.1)) (unmade-own s m) (made r c.meets_trait.ensures.grows) r.1 (made-here m)

pub consider_with_nested-requires-clause-env : goal.consider_with_nested-requires-clause-env
consider_with_nested-requires-clause-env g c = (env-kept (g.E.Build.context c.args.ecx.now) _ c.args.env c.meets_trait.ensures.grows c.requires.goal.env).0

pub returns : goal.returns
returns g c =
    let first = c.args.ecx.now in
    let middle = c.meets_trait.new.make in
    let old = g.E.Build.context first in
    let mid = g.E.Build.context middle in
    let now = trait_goal old.trees c.args.env c.args.predicate in
    let copy = c.in-Some.copy in
    let r = g.met.E.EvalCtxt.by_rest first middle c.meets_trait.ensures.rest in
    let item = subst (λ (x : Context). item_trait x L.Copy ≡ Some copy) c.cx-2.ensures (sym c.lang_item.ensures ∙ c.in-Some.is) in
    let ty = subst (λ (x : Context). ty_tree x.trees c.self_ty-ty.result ≡ first_tree (args_forest x.trees c.args.predicate.trait_ref.args)) c.cx-3.ensures c.self_ty-ty.ensures.tree in
    let clause = c.in_ok-clause.ensures.tree ∙ ap (meets copy) ty in
    considers-after first middle c.consider_with_nested.new.ecx (copy_rule now (item_trait old L.Copy)) (flat_rule (env_forest mid.trees c.args.env) true ImplWhereBound (clause_tree mid.trees c.in_ok-clause.clause ∷ []) misc Yes)
    c.consider_with_nested.result (made r c.meets_trait.ensures.grows) r.1
    (ap (λ e. flat_rule e true ImplWhereBound (clause_tree mid.trees c.in_ok-clause.clause ∷ []) misc Yes) (env-kept old mid c.args.env c.meets_trait.ensures.grows c.requires.goal.env).1
    ∙ (ap (λ b. flat_rule now.env b ImplWhereBound (clause_tree mid.trees c.in_ok-clause.clause ∷ []) misc Yes) (sym c.if-not-is_positive.false ∙ c.is_positive.ensures)
    ∙ (ap (λ (t : Tree). flat_rule now.env (positive now) ImplWhereBound (t ∷ []) misc Yes) clause ∙ ap (copy_rule now) (sym item))))
    c.consider_with_nested.ensures
