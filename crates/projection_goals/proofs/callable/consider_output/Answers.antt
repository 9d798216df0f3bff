use Rattle.std.proofs.Common.{◌≡◌, true, false, Err, Some, None, ap, refl, subst, sym, ◌∙◌}
use Rattle.std.proofs.lemmas.Result.{err_from_is_err_and}
use Rattle.ir_trees.specs.declared.decl.contents.LangItem.TheVariants as L
use Rattle.ir_trees.specs.Declarations.Context.{Context}
use Rattle.ir_trees.specs.Syntax.Trees.{Tree, is_param, tree_holds}
use Rattle.ir_trees.specs.Syntax.Words.{args_forest, env_forest, ty_tree}
use Rattle.ir_trees.proofs.Growth.Kept.{grows-refl}
use Rattle.candidate_eval.specs.declared.eval.refusal.NoSolutionOrStop.TheVariants.{NoSolution}
use Rattle.candidate_eval.specs.Builtins.Callable.{CalledWith, Undetermined, callable_of, calls, calls_of, is_unknown}
use Rattle.candidate_eval.specs.Dynamic.ObjectRequirements.{first_tree}
use Rattle.candidate_eval.specs.Interface.Unmade.IsUnmade.{of_call}
use Rattle.candidate_eval.specs.Outcomes.Certainties.{AMBIGUOUS}
use Rattle.candidate_eval.proofs.Dynamic.Objects.{env-kept}
use Rattle.candidate_eval.proofs.Interface.Probing.{made}
use Rattle.candidate_assembly.specs.Answers.Telling.{asking_rule}
use Rattle.candidate_assembly.specs.Goals.TraitGoals.{item_trait}
use Rattle.candidate_assembly.proofs.Calls.Causes.{answered-error}
use Rattle.candidate_assembly.proofs.Calls.Considering.{considers-after, not-given}
use Rattle.candidate_assembly.proofs.Calls.Keeping.{goal-kept}
use Rattle.candidate_assembly.proofs.Rules.CallFree.{call-free}
use Rattle.candidate_assembly.proofs.Rules.PartsTold.{first-parameterless}
use Rattle.projection_goals.specs.LanguageTypes.{output_rule}
use Rattle.projection_goals.specs.Normalizing.{goal_of_trait, normalizes_goal}
use Rattle.projection_goals.specs.NormalizingLaws.{normalizes_goal_stays}
use Rattle.projection_goals.specs.Rows.{held-parts}
use Rattle.projection_goals.proofs.LanguageRules.{refused-uncalled, refused-unsized, rule-called, rule-undetermined, says-same}
use Rattle.projection_goals.proofs.callable.consider_output.Goals as goal

pub extract_tupled_inputs_and_output_from_callable-requires-clause-known : goal.extract_tupled_inputs_and_output_from_callable-requires-clause-known
extract_tupled_inputs_and_output_from_callable-requires-clause-known g c =
    let old = g.E.Build.context c.args.ecx.now in
    let is = subst (λ (x : Context). ty_tree x.trees c.self_ty-ty.result ≡ first_tree (args_forest x.trees c.reference.result.args)) c.cx.ensures c.self_ty-ty.ensures.tree
    ∙ ap (λ a. first_tree (args_forest old.trees a)) c.reference.ensures.args in
    ap (λ (t : Tree). is_unknown t.head) is ∙ c.requires.typed

pub returns-in_err-extracted : goal.returns-in_err-extracted
returns-in_err-extracted g c =
    let E = g.E.EvalCtxt in
    let first = c.args.ecx.now in
    let table = c.extract_tupled_inputs_and_output_from_callable in
    let old = g.E.Build.context first in
    let now = normalizes_goal old.trees c.args.env c.args.predicate in
    let is = subst (λ (x : Context). ty_tree x.trees c.self_ty-ty.result ≡ first_tree (args_forest x.trees c.reference.result.args)) c.cx.ensures c.self_ty-ty.ensures.tree
    ∙ ap (λ a. first_tree (args_forest old.trees a)) c.reference.ensures.args in
    let r = g.met.E.EvalCtxt.by_rest first table.new.make table.ensures.rest in
    let e = c.in_err-extracted.field-0.0 in
    let answered = c.from_residual.result in
    let called = λ (t : Tree). calls old c.args.called t in
    not-given (λ f. (g.met.E.EvalCtxt.lawful f).alike_judged_alike) first table.new.make (output_rule (goal_of_trait old now) now.term (called (first_tree now.arguments)) (item_trait old L.Sized)) answered e
    (answered-error answered e (err_from_is_err_and answered c.from_residual.ensures.1)) (made r table.ensures.grows) r.1
    (λ n. refused-uncalled (E.judge (E.fixed first)) (E.state first) (goal_of_trait old now) now.term (called (first_tree now.arguments)) (item_trait old L.Sized) (ap called (sym is) ∙ c.in_err-extracted.ensures.refused n))
    (λ s q. of_call old c.self_ty-ty.result.0 (grows-refl old) table.ensures.grows (c.in_err-extracted.ensures.cause s q))

pub consider_unconditional-requires : goal.consider_unconditional-requires
consider_unconditional-requires g c = (env-kept (g.E.Build.context c.args.ecx.now) (g.E.Build.context c.extract_tupled_inputs_and_output_from_callable.new.make) c.args.env c.extract_tupled_inputs_and_output_from_callable.ensures.grows c.requires.goal.env).0

pub returns-in_default : goal.returns-in_default
returns-in_default g c =
    let first = c.args.ecx.now in
    let table = c.extract_tupled_inputs_and_output_from_callable in
    let old = g.E.Build.context first in
    let mid = g.E.Build.context table.new.make in
    let now = normalizes_goal old.trees c.args.env c.args.predicate in
    let is = subst (λ (x : Context). ty_tree x.trees c.self_ty-ty.result ≡ first_tree (args_forest x.trees c.reference.result.args)) c.cx.ensures c.self_ty-ty.ensures.tree
    ∙ ap (λ a. first_tree (args_forest old.trees a)) c.reference.ensures.args in
    let r = g.met.E.EvalCtxt.by_rest first table.new.make table.ensures.rest in
    let x = calls old c.args.called (first_tree now.arguments) in
    let unknown : x ≡ Undetermined = ap (calls old c.args.called) (sym is) ∙ (c.in_ok-extracted.ensures.calls ∙ ap (calls_of mid.trees) c.in_default.is) in
    considers-after first table.new.make c.consider_unconditional.new.ecx (output_rule (goal_of_trait old now) now.term x (item_trait old L.Sized)) (asking_rule (env_forest mid.trees c.args.env) true AMBIGUOUS)
    c.consider_unconditional.result (made r table.ensures.grows) r.1
    (rule-undetermined (goal_of_trait old now) now.term (env_forest mid.trees c.args.env) x (item_trait old L.Sized) (env-kept old mid c.args.env table.ensures.grows c.requires.goal.env).1 unknown)
    c.consider_unconditional.ensures

pub returns-in_default-lang_item : goal.returns-in_default-lang_item
returns-in_default-lang_item g c =
    let E = g.E.EvalCtxt in
    let first = c.args.ecx.now in
    let table = c.extract_tupled_inputs_and_output_from_callable in
    let old = g.E.Build.context first in
    let mid = g.E.Build.context table.new.make in
    let now = normalizes_goal old.trees c.args.env c.args.predicate in
    let is = subst (λ (x : Context). ty_tree x.trees c.self_ty-ty.result ≡ first_tree (args_forest x.trees c.reference.result.args)) c.cx.ensures c.self_ty-ty.ensures.tree
    ∙ ap (λ a. first_tree (args_forest old.trees a)) c.reference.ensures.args in
    let r = g.met.E.EvalCtxt.by_rest first table.new.make table.ensures.rest in
    let x = calls old c.args.called (first_tree now.arguments) in
    let callable = callable_of mid.trees c.in-Some.callable in
    let known : x ≡ CalledWith callable = ap (calls old c.args.called) (sym is) ∙ (c.in_ok-extracted.ensures.calls ∙ ap (calls_of mid.trees) c.in-Some.is) in
    let read = subst (λ (y : Context). c.lang_item.result ≡ item_trait y L.Sized) c.cx-4.ensures c.lang_item.ensures in
    let item : item_trait old L.Sized ≡ None = sym (ap (λ (y : Context). item_trait y L.Sized) table.ensures.grows.same) ∙ (sym read ∙ c.in_default-lang_item.is) in
    not-given (λ f. (g.met.E.EvalCtxt.lawful f).alike_judged_alike) first table.new.make (output_rule (goal_of_trait old now) now.term x (item_trait old L.Sized)) (Err NoSolution) NoSolution refl (made r table.ensures.grows) r.1
    (λ n. refused-unsized (E.judge (E.fixed first)) (E.state first) (goal_of_trait old now) now.term x callable (item_trait old L.Sized) known item) (λ s q. absurd cc)

pub probe_output-requires-clause-goal : goal.probe_output-requires-clause-goal
probe_output-requires-clause-goal g c =
    let grows = c.extract_tupled_inputs_and_output_from_callable.ensures.grows in
    goal-kept grows (normalizes_goal_stays (g.E.Build.context c.args.ecx.now) (g.E.Build.context c.extract_tupled_inputs_and_output_from_callable.new.make) c.args.env c.args.predicate grows c.requires.goal) c.requires.goal

pub probe_output-requires-clause-inputs : goal.probe_output-requires-clause-inputs
probe_output-requires-clause-inputs g c =
    let old = g.E.Build.context c.args.ecx.now in
    let mid = g.E.Build.context c.extract_tupled_inputs_and_output_from_callable.new.make in
    let now = normalizes_goal old.trees c.args.env c.args.predicate in
    let is = subst (λ (x : Context). ty_tree x.trees c.self_ty-ty.result ≡ first_tree (args_forest x.trees c.reference.result.args)) c.cx.ensures c.self_ty-ty.ensures.tree
    ∙ ap (λ a. first_tree (args_forest old.trees a)) c.reference.ensures.args in
    let free : tree_holds is_param (ty_tree old.trees c.self_ty-ty.result) ≡ false = ap (tree_holds is_param) is ∙ first-parameterless now.arguments (held-parts is_param now.arguments now.term c.requires.goal.no_parameter).0 in
    (call-free old c.args.called (ty_tree old.trees c.self_ty-ty.result) (callable_of mid.trees c.in-Some.callable) free (c.in_ok-extracted.ensures.calls ∙ ap (calls_of mid.trees) c.in-Some.is)).inputs

pub probe_output-requires-clause-output : goal.probe_output-requires-clause-output
probe_output-requires-clause-output g c =
    let old = g.E.Build.context c.args.ecx.now in
    let mid = g.E.Build.context c.extract_tupled_inputs_and_output_from_callable.new.make in
    let now = normalizes_goal old.trees c.args.env c.args.predicate in
    let is = subst (λ (x : Context). ty_tree x.trees c.self_ty-ty.result ≡ first_tree (args_forest x.trees c.reference.result.args)) c.cx.ensures c.self_ty-ty.ensures.tree
    ∙ ap (λ a. first_tree (args_forest old.trees a)) c.reference.ensures.args in
    let free : tree_holds is_param (ty_tree old.trees c.self_ty-ty.result) ≡ false = ap (tree_holds is_param) is ∙ first-parameterless now.arguments (held-parts is_param now.arguments now.term c.requires.goal.no_parameter).0 in
    (call-free old c.args.called (ty_tree old.trees c.self_ty-ty.result) (callable_of mid.trees c.in-Some.callable) free (c.in_ok-extracted.ensures.calls ∙ ap (calls_of mid.trees) c.in-Some.is)).output

pub returns : goal.returns
returns g c =
    let first = c.args.ecx.now in
    let table = c.extract_tupled_inputs_and_output_from_callable in
    let old = g.E.Build.context first in
    let mid = g.E.Build.context table.new.make in
    let now = normalizes_goal old.trees c.args.env c.args.predicate in
    let there = normalizes_goal mid.trees c.args.env c.args.predicate in
    let is = subst (λ (x : Context). ty_tree x.trees c.self_ty-ty.result ≡ first_tree (args_forest x.trees c.reference.result.args)) c.cx.ensures c.self_ty-ty.ensures.tree
    ∙ ap (λ a. first_tree (args_forest old.trees a)) c.reference.ensures.args in
    let r = g.met.E.EvalCtxt.by_rest first table.new.make table.ensures.rest in
    let x = calls old c.args.called (first_tree now.arguments) in
    let callable = callable_of mid.trees c.in-Some.callable in
    let known : x ≡ CalledWith callable = ap (calls old c.args.called) (sym is) ∙ (c.in_ok-extracted.ensures.calls ∙ ap (calls_of mid.trees) c.in-Some.is) in
    let sized = c.in-Some-lang_item.sized in
    let read = subst (λ (y : Context). c.lang_item.result ≡ item_trait y L.Sized) c.cx-4.ensures c.lang_item.ensures in
    let item : item_trait old L.Sized ≡ Some sized = sym (ap (λ (y : Context). item_trait y L.Sized) table.ensures.grows.same) ∙ (sym read ∙ c.in-Some-lang_item.is) in
    considers-after first table.new.make c.probe_output.new.ecx (output_rule (goal_of_trait old now) now.term x (item_trait old L.Sized)) (output_rule (goal_of_trait mid there) there.term (CalledWith callable) (Some sized)) c.probe_output.result
    (made r table.ensures.grows) r.1
    (says-same (λ y t. output_rule y t (CalledWith callable) (Some sized)) old mid c.args.env c.args.predicate table.ensures.grows c.requires.goal
    ∙ rule-called (goal_of_trait old now) now.term x callable callable (item_trait old L.Sized) sized refl known item)
    c.probe_output.ensures
