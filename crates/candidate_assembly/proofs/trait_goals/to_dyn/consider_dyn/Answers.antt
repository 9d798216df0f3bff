use Rattle.std.proofs.Common.{◌≡◌, ap, subst, sym, ◌∙◌}
use Rattle.std.proofs.lemmas.Result.{err_from_is_err_and}
use Rattle.ir_trees.specs.Declarations.Context.{Context}
use Rattle.ir_trees.specs.Syntax.Words.{args_forest, env_forest, ty_tree}
use Rattle.candidate_eval.specs.Dynamic.ObjectRequirements.{first_tree}
use Rattle.candidate_eval.proofs.Dynamic.Objects.{env-kept}
use Rattle.candidate_eval.proofs.Interface.Probing.{made}
use Rattle.candidate_assembly.specs.Rules.BuiltinRules.{self_of}
use Rattle.candidate_assembly.specs.Rules.Requirements.{RequireNoParameter, RequirementsFit, requirement_steps, requiring_rule}
use Rattle.candidate_assembly.specs.Goals.TraitGoals.{trait_goal}
use Rattle.candidate_assembly.specs.Rules.Unsizing.{dyn_steps}
use Rattle.candidate_assembly.proofs.Calls.Causes.{answered-stop, made-here}
use Rattle.candidate_assembly.proofs.Calls.Considering.{considers-after, not-made}
use Rattle.candidate_assembly.proofs.Unsizing.DynRequirements.{dyn-required-free, steps-read}
use Rattle.candidate_assembly.proofs.Calls.Stepping.{unmade-own}
use Rattle.candidate_assembly.proofs.trait_goals.to_dyn.consider_dyn.Goals as goal

pub returns-in_err-requirements : goal.returns-in_err-requirements
returns-in_err-requirements g c =
    let first = c.args.ecx.now in
    let old = g.E.Build.context first in
    let r = g.met.E.EvalCtxt.by_rest first c.dyn_requirements.new.make c.dyn_requirements.ensures.rest in
    let s = c.in_err-requirements.field-0.0 in
    let m = c.in_err-requirements.ensures.cause in
    not-made (λ f. (g.met.E.EvalCtxt.lawful f).alike_judged_alike) first c.dyn_requirements.new.make
    (requiring_rule (env_forest old.trees c.args.env) (dyn_steps c.args.sized (self_of (trait_goal old.trees c.args.env c.args.predicate)) (ty_tree old.trees c.args.target))) c.from_residual.result s
    (answered-stop c.from_residual.result s (err_from_is_err_and c.from_residual.result c.from_residual.ensures.1)) (unmade-own s m) (made r c.dyn_requirements.ensures.grows) r.1 (made-here m)

pub consider_requirements-requires-clause-env : goal.consider_requirements-requires-clause-env
consider_requirements-requires-clause-env g c = (env-kept (g.E.Build.context c.args.ecx.now) (g.E.Build.context c.dyn_requirements.new.make) c.args.env c.dyn_requirements.ensures.grows c.requires.goal.env).0

pub consider_requirements-requires-clause-requirements : goal.consider_requirements-requires-clause-requirements
consider_requirements-requires-clause-requirements g c =
    subst (RequirementsFit (g.E.Build.context c.dyn_requirements.new.make).trees) (sym c.as_slice.ensures.value) c.in_ok-requirements.ensures.fit

pub consider_requirements-requires-clause-free : goal.consider_requirements-requires-clause-free
consider_requirements-requires-clause-free g c =
    let old = g.E.Build.context c.args.ecx.now in
    let mid = g.E.Build.context c.dyn_requirements.new.make in
    let args = args_forest old.trees c.args.predicate.trait_ref.args in
    let ty = subst (λ (x : Context). ty_tree x.trees c.self_ty-ty.result ≡ first_tree (args_forest x.trees c.args.predicate.trait_ref.args)) c.cx.ensures c.self_ty-ty.ensures.tree in
    subst (RequireNoParameter mid.trees) (sym c.as_slice.ensures.value)
    (dyn-required-free mid.trees c.in_ok-requirements.requirements.items c.args.sized (ty_tree old.trees c.self_ty-ty.result) (ty_tree old.trees c.args.target) args c.in_ok-requirements.ensures.steps ty c.requires.goal.no_parameter c.requires.free)

pub returns : goal.returns
returns g c =
    let first = c.args.ecx.now in
    let middle = c.dyn_requirements.new.make in
    let old = g.E.Build.context first in
    let mid = g.E.Build.context middle in
    let r = g.met.E.EvalCtxt.by_rest first middle c.dyn_requirements.ensures.rest in
    let grows = c.dyn_requirements.ensures.grows in
    let env = env_forest old.trees c.args.env in
    let to = ty_tree old.trees c.args.target in
    let from = self_of (trait_goal old.trees c.args.env c.args.predicate) in
    let slice = c.as_slice.result.now in
    let ty = subst (λ (x : Context). ty_tree x.trees c.self_ty-ty.result ≡ first_tree (args_forest x.trees c.args.predicate.trait_ref.args)) c.cx.ensures c.self_ty-ty.ensures.tree in
    considers-after first middle c.consider_requirements.new.ecx (requiring_rule env (dyn_steps c.args.sized from to)) (requiring_rule (env_forest mid.trees c.args.env) (requirement_steps mid.trees slice))
    c.consider_requirements.result (made r grows) r.1
    (ap (λ e. requiring_rule e (requirement_steps mid.trees slice)) (env-kept old mid c.args.env grows c.requires.goal.env).1
    ∙ ap (requiring_rule env) (steps-read mid.trees slice c.in_ok-requirements.requirements.items c.args.sized (ty_tree old.trees c.self_ty-ty.result) from to c.as_slice.ensures.value c.in_ok-requirements.ensures.steps ty))
    c.consider_requirements.ensures
