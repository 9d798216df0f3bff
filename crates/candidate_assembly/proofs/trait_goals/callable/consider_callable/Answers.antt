use Rattle.std.proofs.Common.{◌≡◌, true, false, Err, Some, None, ap, refl, subst, sym, ◌∙◌}
use Rattle.std.proofs.lemmas.Result.{err_from_is_err_and}
use Rattle.ir_trees.specs.declared.decl.contents.LangItem.TheVariants as L
use Rattle.ir_trees.specs.Declarations.Context.{Context}
use Rattle.ir_trees.specs.Syntax.Trees.{Tree, is_param, tree_holds}
use Rattle.ir_trees.specs.Syntax.Words.{args_forest, env_forest, ty_tree}
use Rattle.ir_trees.proofs.Growth.Kept.{grows-refl}
use Rattle.candidate_eval.specs.declared.eval.refusal.NoSolutionOrStop.TheVariants.{NoSolution}
use Rattle.candidate_eval.specs.Builtins.Callable.{CalledWith, Undetermined, callable_of, calls, calls_of}
use Rattle.candidate_eval.specs.Outcomes.Certainties.{AMBIGUOUS}
use Rattle.candidate_eval.specs.Dynamic.ObjectRequirements.{first_tree}
use Rattle.candidate_eval.proofs.Dynamic.Objects.{env-kept}
use Rattle.candidate_eval.proofs.Interface.Probing.{made}
use Rattle.candidate_assembly.specs.Rules.BuiltinRules.{call_rule}
use Rattle.candidate_assembly.specs.Answers.Telling.{asking_rule}
use Rattle.candidate_assembly.specs.Goals.TraitGoals.{item_trait, trait_goal}
use Rattle.candidate_assembly.proofs.Rules.CallFree.{call-free}
use Rattle.candidate_assembly.proofs.Rules.CallRules.{refused-negative, refused-uncalled, refused-unsized, rule-called, rule-undetermined}
use Rattle.candidate_assembly.proofs.Calls.Causes.{answered-error}
use Rattle.candidate_assembly.proofs.Calls.Considering.{considers-after, not-given}
use Rattle.candidate_assembly.proofs.Calls.Keeping.{trait-goal-kept}
use Rattle.candidate_assembly.proofs.Rules.PartsTold.{first-parameterless}
use Rattle.candidate_eval.specs.Interface.Unmade.IsUnmade.{of_call}
use Rattle.candidate_assembly.proofs.trait_goals.callable.consider_callable.Goals as goal

pub returns-then-not-is_positive : goal.returns-then-not-is_positive
returns-then-not-is_positive g c =
    let E = g.E.EvalCtxt in
    let first = c.args.ecx.now in
    let old = g.E.Build.context first in
    let now = trait_goal old.trees c.args.env c.args.predicate in
    let x = calls old c.args.called (first_tree now.reference.arguments) in
    not-given (λ f. (g.met.E.EvalCtxt.lawful f).alike_judged_alike) first first (call_rule now x (item_trait old L.Sized)) (Err NoSolution) NoSolution refl (record { fixed_same = refl; probes_same = refl; grows = grows-refl old; faults = refl }) refl
    (λ n. refused-negative (E.judge (E.fixed first)) (E.state first) now x (item_trait old L.Sized) (sym c.is_positive.ensures ∙ c.if-not-is_positive.true)) (λ s q. absurd cc)

pub returns-in_err-extracted : goal.returns-in_err-extracted
returns-in_err-extracted g c =
    let E = g.E.EvalCtxt in
    let first = c.args.ecx.now in
    let table = c.extract_tupled_inputs_and_output_from_callable in
    let old = g.E.Build.context first in
    let now = trait_goal old.trees c.args.env c.args.predicate in
    let is = subst (λ (x : Context). ty_tree x.trees c.self_ty-ty.result ≡ first_tree (args_forest x.trees c.args.predicate.trait_ref.args)) c.cx.ensures c.self_ty-ty.ensures.tree in
    let r = g.met.E.EvalCtxt.by_rest first table.new.make table.ensures.rest in
    let e = c.in_err-extracted.field-0.0 in
    let answered = c.from_residual.result in
    let called = λ (t : Tree). calls old c.args.called t in
    not-given (λ f. (g.met.E.EvalCtxt.lawful f).alike_judged_alike) first table.new.make (call_rule now (called (first_tree now.reference.arguments)) (item_trait old L.Sized)) answered e
    (answered-error answered e (err_from_is_err_and answered c.from_residual.ensures.1)) (made r table.ensures.grows) r.1
    (λ n. refused-uncalled (E.judge (E.fixed first)) (E.state first) now (called (first_tree now.reference.arguments)) (item_trait old L.Sized) (ap called (sym is) ∙ c.in_err-extracted.ensures.refused n))
    (λ s q. of_call old c.self_ty-ty.result.0 (grows-refl old) table.ensures.grows (c.in_err-extracted.ensures.cause s q))

pub consider_unconditional-requires : goal.consider_unconditional-requires
consider_unconditional-requires g c = (env-kept (g.E.Build.context c.args.ecx.now) (g.E.Build.context c.extract_tupled_inputs_and_output_from_callable.new.make) c.args.env c.extract_tupled_inputs_and_output_from_callable.ensures.grows c.requires.goal.env).0

pub returns-in_default : goal.returns-in_default
returns-in_default g c =
    let first = c.args.ecx.now in
    let table = c.extract_tupled_inputs_and_output_from_callable in
    let old = g.E.Build.context first in
    let mid = g.E.Build.context table.new.make in
    let now = trait_goal old.trees c.args.env c.args.predicate in
    let is = subst (λ (x : Context). ty_tree x.trees c.self_ty-ty.result ≡ first_tree (args_forest x.trees c.args.predicate.trait_ref.args)) c.cx.ensures c.self_ty-ty.ensures.tree in
    let r = g.met.E.EvalCtxt.by_rest first table.new.make table.ensures.rest in
    let x = calls old c.args.called (first_tree now.reference.arguments) in
    let unknown : x ≡ Undetermined = ap (calls old c.args.called) (sym is) ∙ (c.in_ok-extracted.ensures.calls ∙ ap (calls_of mid.trees) c.in_default.is) in
    considers-after first table.new.make c.consider_unconditional.new.ecx (call_rule now x (item_trait old L.Sized)) (asking_rule (env_forest mid.trees c.args.env) true AMBIGUOUS) c.consider_unconditional.result (made r table.ensures.grows) r.1
    (rule-undetermined now (env_forest mid.trees c.args.env) x (item_trait old L.Sized) (env-kept old mid c.args.env table.ensures.grows c.requires.goal.env).1 (sym c.is_positive.ensures ∙ c.if-not-is_positive.false) unknown)
    c.consider_unconditional.ensures

pub returns-in_default-lang_item : goal.returns-in_default-lang_item
returns-in_default-lang_item g c =
    let E = g.E.EvalCtxt in
    let first = c.args.ecx.now in
    let table = c.extract_tupled_inputs_and_output_from_callable in
    let old = g.E.Build.context first in
    let mid = g.E.Build.context table.new.make in
    let now = trait_goal old.trees c.args.env c.args.predicate in
    let is = subst (λ (x : Context). ty_tree x.trees c.self_ty-ty.result ≡ first_tree (args_forest x.trees c.args.predicate.trait_ref.args)) c.cx.ensures c.self_ty-ty.ensures.tree in
    let r = g.met.E.EvalCtxt.by_rest first table.new.make table.ensures.rest in
    let x = calls old c.args.called (first_tree now.reference.arguments) in
    let callable = callable_of mid.trees c.in-Some.callable in
    let known : x ≡ CalledWith callable = ap (calls old c.args.called) (sym is) ∙ (c.in_ok-extracted.ensures.calls ∙ ap (calls_of mid.trees) c.in-Some.is) in
    let read = subst (λ (y : Context). c.lang_item.result ≡ item_trait y L.Sized) c.cx-3.ensures c.lang_item.ensures in
    let item : item_trait old L.Sized ≡ None = sym (ap (λ (y : Context). item_trait y L.Sized) table.ensures.grows.same) ∙ (sym read ∙ c.in_default-lang_item.is) in
    not-given (λ f. (g.met.E.EvalCtxt.lawful f).alike_judged_alike) first table.new.make (call_rule now x (item_trait old L.Sized)) (Err NoSolution) NoSolution refl (made r table.ensures.grows) r.1
    (λ n. refused-unsized (E.judge (E.fixed first)) (E.state first) now x callable (item_trait old L.Sized) known item) (λ s q. absurd cc)

pub probe_call-requires-clause-goal : goal.probe_call-requires-clause-goal
probe_call-requires-clause-goal g c = (trait-goal-kept (g.E.Build.context c.args.ecx.now) (g.E.Build.context c.extract_tupled_inputs_and_output_from_callable.new.make) c.args.env c.args.predicate c.extract_tupled_inputs_and_output_from_callable.ensures.grows c.requires.goal).0

pub probe_call-requires-clause-inputs : goal.probe_call-requires-clause-inputs
probe_call-requires-clause-inputs g c =
    let old = g.E.Build.context c.args.ecx.now in
    let mid = g.E.Build.context c.extract_tupled_inputs_and_output_from_callable.new.make in
    let is = subst (λ (x : Context). ty_tree x.trees c.self_ty-ty.result ≡ first_tree (args_forest x.trees c.args.predicate.trait_ref.args)) c.cx.ensures c.self_ty-ty.ensures.tree in
    let free : tree_holds is_param (ty_tree old.trees c.self_ty-ty.result) ≡ false = ap (tree_holds is_param) is ∙ first-parameterless (args_forest old.trees c.args.predicate.trait_ref.args) c.requires.goal.no_parameter in
    (call-free old c.args.called (ty_tree old.trees c.self_ty-ty.result) (callable_of mid.trees c.in-Some.callable) free (c.in_ok-extracted.ensures.calls ∙ ap (calls_of mid.trees) c.in-Some.is)).inputs

pub probe_call-requires-clause-output : goal.probe_call-requires-clause-output
probe_call-requires-clause-output g c =
    let old = g.E.Build.context c.args.ecx.now in
    let mid = g.E.Build.context c.extract_tupled_inputs_and_output_from_callable.new.make in
    let is = subst (λ (x : Context). ty_tree x.trees c.self_ty-ty.result ≡ first_tree (args_forest x.trees c.args.predicate.trait_ref.args)) c.cx.ensures c.self_ty-ty.ensures.tree in
    let free : tree_holds is_param (ty_tree old.trees c.self_ty-ty.result) ≡ false = ap (tree_holds is_param) is ∙ first-parameterless (args_forest old.trees c.args.predicate.trait_ref.args) c.requires.goal.no_parameter in
    (call-free old c.args.called (ty_tree old.trees c.self_ty-ty.result) (callable_of mid.trees c.in-Some.callable) free (c.in_ok-extracted.ensures.calls ∙ ap (calls_of mid.trees) c.in-Some.is)).output

pub returns : goal.returns
returns g c =
    let first = c.args.ecx.now in
    let table = c.extract_tupled_inputs_and_output_from_callable in
    let old = g.E.Build.context first in
    let mid = g.E.Build.context table.new.make in
    let now = trait_goal old.trees c.args.env c.args.predicate in
    let there = trait_goal mid.trees c.args.env c.args.predicate in
    let is = subst (λ (x : Context). ty_tree x.trees c.self_ty-ty.result ≡ first_tree (args_forest x.trees c.args.predicate.trait_ref.args)) c.cx.ensures c.self_ty-ty.ensures.tree in
    let r = g.met.E.EvalCtxt.by_rest first table.new.make table.ensures.rest in
    let x = calls old c.args.called (first_tree now.reference.arguments) in
    let callable = callable_of mid.trees c.in-Some.callable in
    let known : x ≡ CalledWith callable = ap (calls old c.args.called) (sym is) ∙ (c.in_ok-extracted.ensures.calls ∙ ap (calls_of mid.trees) c.in-Some.is) in
    let read = subst (λ (y : Context). c.lang_item.result ≡ item_trait y L.Sized) c.cx-3.ensures c.lang_item.ensures in
    let item : item_trait old L.Sized ≡ Some c.in-Some-lang_item.sized = sym (ap (λ (y : Context). item_trait y L.Sized) table.ensures.grows.same) ∙ (sym read ∙ c.in-Some-lang_item.is) in
    considers-after first table.new.make c.probe_call.new.ecx (call_rule now x (item_trait old L.Sized)) (call_rule there (CalledWith callable) (Some c.in-Some-lang_item.sized)) c.probe_call.result (made r table.ensures.grows) r.1
    (rule-called now there x callable callable (item_trait old L.Sized) c.in-Some-lang_item.sized (trait-goal-kept old mid c.args.env c.args.predicate table.ensures.grows c.requires.goal).1 refl known item)
    c.probe_call.ensures
