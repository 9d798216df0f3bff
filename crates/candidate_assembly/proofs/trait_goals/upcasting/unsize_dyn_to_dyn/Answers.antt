use Rattle.std.proofs.Common.{rules, ◌≡◌, [], ◌∷◌, Err, length, map, false, true, subst, sym, ap, ◌∙◌}
use Rattle.std.specs.Prelude.{IfSome, option_map}
use Rattle.std.proofs.lemmas.Result.{err_from_is_err_and}
use Rattle.ir_trees.specs.Declarations.Context.{Context}
use Rattle.ir_trees.specs.Syntax.Trees.{Tree}
use Rattle.ir_trees.specs.Syntax.Words.{args_forest, clause_tree, env_forest, ty_tree}
use Rattle.candidate_eval.specs.Interface.Evaluators.{Keeps}
use Rattle.candidate_eval.specs.Derivations.Mentions.{IsBelow}
use Rattle.candidate_eval.specs.Dynamic.ObjectRequirements.{first_tree}
use Rattle.candidate_eval.specs.Dynamic.Replacing.{without_first}
use Rattle.candidate_eval.specs.Judges.States.{Env}
use Rattle.candidate_eval.proofs.Dynamic.Objects.{env-kept}
use Rattle.candidate_eval.proofs.Interface.Probing.{made}
use Rattle.candidate_assembly.specs.Rules.BuiltinRules.{misc, self_of}
use Rattle.candidate_assembly.specs.Rules.DynBounds.{first_listed, principal_in}
use Rattle.candidate_assembly.specs.Goals.TraitGoals.{trait_goal}
use Rattle.candidate_assembly.specs.Rules.Unsizing.{keeps_principal, IsUnsizedTo}
use Rattle.candidate_assembly.specs.Calls.Upcasting.{IsRuleClause, IsUpcast, IsUpcastOf, upcast_by, upcasts_by}
use Rattle.candidate_assembly.proofs.Calls.Considering.{considers-after}
use Rattle.candidate_assembly.proofs.Lists.Listing.{candidates-kept, one-listed, whole_list}
use Rattle.candidate_assembly.proofs.Unsizing.UnsizedRows.{listed-as}
use Rattle.candidate_assembly.proofs.Upcasting.UpcastLists.{as-many-there, env-low, first-there, first-tree, listed-later, not-made-list, rule-only, rules-proper, source-stands, target-stands, unsized-by}
use Rattle.candidate_assembly.proofs.trait_goals.upcasting.unsize_dyn_to_dyn.Goals as goal

pub returns-in_err-upcast : goal.returns-in_err-upcast
returns-in_err-upcast g c =
    let first = c.args.ecx.now in
    let rest = g.met.E.EvalCtxt.by_rest first c.upcast_between.new.make c.upcast_between.ensures.rest in
    let p = err_from_is_err_and c.from_residual.result c.from_residual.ensures.1 in
    not-made-list (λ f. (g.met.E.EvalCtxt.lawful f).alike_judged_alike) first c.upcast_between.new.make _ _ c.from_residual.result c.in_err-upcast.field-0.0 (made rest c.upcast_between.ensures.grows) rest.1 (p.1 ∙ ap Err p.2) c.in_err-upcast.ensures.cause

pub consider_upcasts-requires-clause-env : goal.consider_upcasts-requires-clause-env
consider_upcasts-requires-clause-env g c =
    (env-kept (g.E.Build.context c.args.ecx.now) (g.E.Build.context c.upcast_between.new.make) c.args.env c.upcast_between.ensures.grows c.requires.goal.env).0

pub consider_upcasts-requires-clause-env_below : goal.consider_upcasts-requires-clause-env_below
consider_upcasts-requires-clause-env_below g c =
    let E = g.E.EvalCtxt in
    let first = c.args.ecx.now in
    let then-on = c.upcast_between.new.make in
    let old = g.E.Build.context first in
    let mid = g.E.Build.context then-on in
    let S = E.state first in
    let rest = g.met.E.EvalCtxt.by_rest first then-on c.upcast_between.ensures.rest in
    let goals = trait_goal old.trees c.args.env c.args.predicate in
    let to = ty_tree old.trees c.args.target in
    as-many-there (λ n. IsBelow n (env_forest mid.trees c.args.env)) S (E.state then-on) rest.1
    (subst (λ (e : Env). IsBelow (length S.variables) e) (sym (env-kept old mid c.args.env c.upcast_between.ensures.grows c.requires.goal.env).1) (env-low S goals to c.requires.stands))

pub consider_upcasts-requires-clause-upcast : goal.consider_upcasts-requires-clause-upcast
consider_upcasts-requires-clause-upcast g c =
    let E = g.E.EvalCtxt in
    let first = c.args.ecx.now in
    let then-on = c.upcast_between.new.make in
    let old = g.E.Build.context first in
    let mid = g.E.Build.context then-on in
    let S = E.state first in
    let rest = g.met.E.EvalCtxt.by_rest first then-on c.upcast_between.ensures.rest in
    let goals = trait_goal old.trees c.args.env c.args.predicate in
    let to = ty_tree old.trees c.args.target in
    let u = c.in_ok-upcast.upcast in
    let from = subst (λ (x : Context). ty_tree x.trees c.self_ty-ty.result ≡ first_tree (args_forest x.trees c.args.predicate.trait_ref.args)) c.cx.ensures c.self_ty-ty.ensures.tree in
    let is : IsUpcastOf old mid u (self_of goals) to = subst (λ (t : Tree). IsUpcastOf old mid u t to) from c.in_ok-upcast.ensures.is in
    as-many-there (λ n. IsUpcast mid.trees n u) S (E.state then-on) rest.1 (is.may_stand (length S.variables) (source-stands S goals to c.requires.stands) (target-stands S goals to c.requires.stands))

pub consider_upcasts-requires-clause-candidates : goal.consider_upcasts-requires-clause-candidates
consider_upcasts-requires-clause-candidates g c =
    (candidates-kept (g.E.Build.context c.args.ecx.now) (g.E.Build.context c.upcast_between.new.make) c.args.candidates.now.items c.upcast_between.ensures.grows c.requires.candidates).0

pub returns-then-not-keeps : goal.returns-then-not-keeps
returns-then-not-keeps g c =
    let E = g.E.EvalCtxt in
    let first = c.args.ecx.now in
    let then-on = c.upcast_between.new.make in
    let old = g.E.Build.context first in
    let mid = g.E.Build.context then-on in
    let S = E.state first in
    let rest = g.met.E.EvalCtxt.by_rest first then-on c.upcast_between.ensures.rest in
    let goals = trait_goal old.trees c.args.env c.args.predicate in
    let to = ty_tree old.trees c.args.target in
    let u = c.in_ok-upcast.upcast in
    let from = subst (λ (x : Context). ty_tree x.trees c.self_ty-ty.result ≡ first_tree (args_forest x.trees c.args.predicate.trait_ref.args)) c.cx.ensures c.self_ty-ty.ensures.tree in
    let is : IsUpcastOf old mid u (self_of goals) to = subst (λ (t : Tree). IsUpcastOf old mid u t to) from c.in_ok-upcast.ensures.is in
    let kept : Keeps E.fixed E.probes g.E.Build.context first then-on = made rest c.upcast_between.ensures.grows in
    let read = subst (λ (x : Context). c.keeps_principal-keeps.result ≡ keeps_principal (principal_in (ty_tree x.trees c.self_ty-ty.result)) (principal_in (ty_tree x.trees c.args.target))) c.cx-2.ensures c.keeps_principal-keeps.ensures in
    let keeps : keeps_principal (principal_in (self_of goals)) (principal_in to) ≡ false = ap (λ (t : Tree). keeps_principal (principal_in t) (principal_in to)) (sym from) ∙ (sym read ∙ (search rules)) in
    let same = (env-kept old mid c.args.env c.upcast_between.ensures.grows c.requires.goal.env).1 in
    let e = env_forest mid.trees c.args.env in
    let J = E.judge (E.fixed first) in
    let before = c.args.candidates.now.items in
    listed-later first then-on c.consider_upcasts.new.ecx _ before (upcasts_by mid e u 1 (without_first (map (clause_tree mid.trees) u.supers.items))) (IsUnsizedTo J old S goals to before) c.consider_upcasts.result kept rest.1 c.requires.candidates
    (λ l so. unsized-by J S old mid u goals to before _ l c.requires.source_dynamic c.requires.dynamic is (rules-proper old mid c.upcast_between.ensures.grows goals e same u (self_of goals) to is keeps) so)
    c.consider_upcasts.ensures

pub consider_upcast-answer-requires-clause-env : goal.consider_upcast-answer-requires-clause-env
consider_upcast-answer-requires-clause-env g c =
    (env-kept (g.E.Build.context c.args.ecx.now) (g.E.Build.context c.upcast_between.new.make) c.args.env c.upcast_between.ensures.grows c.requires.goal.env).0

pub consider_upcast-answer-requires-clause-env_below : goal.consider_upcast-answer-requires-clause-env_below
consider_upcast-answer-requires-clause-env_below g c =
    let E = g.E.EvalCtxt in
    let first = c.args.ecx.now in
    let then-on = c.upcast_between.new.make in
    let old = g.E.Build.context first in
    let mid = g.E.Build.context then-on in
    let S = E.state first in
    let rest = g.met.E.EvalCtxt.by_rest first then-on c.upcast_between.ensures.rest in
    let goals = trait_goal old.trees c.args.env c.args.predicate in
    let to = ty_tree old.trees c.args.target in
    as-many-there (λ n. IsBelow n (env_forest mid.trees c.args.env)) S (E.state then-on) rest.1
    (subst (λ (e : Env). IsBelow (length S.variables) e) (sym (env-kept old mid c.args.env c.upcast_between.ensures.grows c.requires.goal.env).1) (env-low S goals to c.requires.stands))

pub consider_upcast-answer-requires-clause-upcast : goal.consider_upcast-answer-requires-clause-upcast
consider_upcast-answer-requires-clause-upcast g c =
    let E = g.E.EvalCtxt in
    let first = c.args.ecx.now in
    let then-on = c.upcast_between.new.make in
    let old = g.E.Build.context first in
    let mid = g.E.Build.context then-on in
    let S = E.state first in
    let rest = g.met.E.EvalCtxt.by_rest first then-on c.upcast_between.ensures.rest in
    let goals = trait_goal old.trees c.args.env c.args.predicate in
    let to = ty_tree old.trees c.args.target in
    let u = c.in_ok-upcast.upcast in
    let from = subst (λ (x : Context). ty_tree x.trees c.self_ty-ty.result ≡ first_tree (args_forest x.trees c.args.predicate.trait_ref.args)) c.cx.ensures c.self_ty-ty.ensures.tree in
    let is : IsUpcastOf old mid u (self_of goals) to = subst (λ (t : Tree). IsUpcastOf old mid u t to) from c.in_ok-upcast.ensures.is in
    as-many-there (λ n. IsUpcast mid.trees n u) S (E.state then-on) rest.1 (is.may_stand (length S.variables) (source-stands S goals to c.requires.stands) (target-stands S goals to c.requires.stands))

pub consider_upcast-answer-requires-clause-principal : goal.consider_upcast-answer-requires-clause-principal
consider_upcast-answer-requires-clause-principal g c =
    let E = g.E.EvalCtxt in
    let first = c.args.ecx.now in
    let then-on = c.upcast_between.new.make in
    let old = g.E.Build.context first in
    let mid = g.E.Build.context then-on in
    let S = E.state first in
    let rest = g.met.E.EvalCtxt.by_rest first then-on c.upcast_between.ensures.rest in
    let goals = trait_goal old.trees c.args.env c.args.predicate in
    let to = ty_tree old.trees c.args.target in
    let u = c.in_ok-upcast.upcast in
    let from = subst (λ (x : Context). ty_tree x.trees c.self_ty-ty.result ≡ first_tree (args_forest x.trees c.args.predicate.trait_ref.args)) c.cx.ensures c.self_ty-ty.ensures.tree in
    let is : IsUpcastOf old mid u (self_of goals) to = subst (λ (t : Tree). IsUpcastOf old mid u t to) from c.in_ok-upcast.ensures.is in
    let all = is.may_stand (length S.variables) (source-stands S goals to c.requires.stands) (target-stands S goals to c.requires.stands) in
    as-many-there (λ n. IfSome c.first_of-principal.result (IsRuleClause mid.trees n)) S (E.state then-on) rest.1
    (first-there (IsRuleClause mid.trees (length S.variables)) u.supers.items c.first_of-principal.result (c.first_of-principal.ensures ∙ ap first_listed c.as_slice.ensures.value) all.supers)

pub returns : goal.returns
returns g c =
    let E = g.E.EvalCtxt in
    let first = c.args.ecx.now in
    let then-on = c.upcast_between.new.make in
    let old = g.E.Build.context first in
    let mid = g.E.Build.context then-on in
    let S = E.state first in
    let rest = g.met.E.EvalCtxt.by_rest first then-on c.upcast_between.ensures.rest in
    let goals = trait_goal old.trees c.args.env c.args.predicate in
    let to = ty_tree old.trees c.args.target in
    let u = c.in_ok-upcast.upcast in
    let from = subst (λ (x : Context). ty_tree x.trees c.self_ty-ty.result ≡ first_tree (args_forest x.trees c.args.predicate.trait_ref.args)) c.cx.ensures c.self_ty-ty.ensures.tree in
    let is : IsUpcastOf old mid u (self_of goals) to = subst (λ (t : Tree). IsUpcastOf old mid u t to) from c.in_ok-upcast.ensures.is in
    let kept : Keeps E.fixed E.probes g.E.Build.context first then-on = made rest c.upcast_between.ensures.grows in
    let read = subst (λ (x : Context). c.keeps_principal-keeps.result ≡ keeps_principal (principal_in (ty_tree x.trees c.self_ty-ty.result)) (principal_in (ty_tree x.trees c.args.target))) c.cx-2.ensures c.keeps_principal-keeps.ensures in
    let keeps : keeps_principal (principal_in (self_of goals)) (principal_in to) ≡ true = ap (λ (t : Tree). keeps_principal (principal_in t) (principal_in to)) (sym from) ∙ (sym read ∙ (search rules)) in
    let same = (env-kept old mid c.args.env c.upcast_between.ensures.grows c.requires.goal.env).1 in
    let e = env_forest mid.trees c.args.env in
    let J = E.judge (E.fixed first) in
    let before = c.args.candidates.now.items in
    let o = c.first_of-principal.result in
    let held = first-tree (clause_tree mid.trees) u.supers.items o (c.first_of-principal.ensures ∙ ap first_listed c.as_slice.ensures.value) in
    let rule = upcast_by mid e u (first_listed (map (clause_tree mid.trees) u.supers.items)) misc in
    let told = considers-after first then-on c.consider_upcast-answer.new.ecx rule (upcast_by mid e u (option_map (clause_tree mid.trees) o) misc) c.consider_upcast-answer.result kept rest.1 (ap (λ p. upcast_by mid e u p misc) held) c.consider_upcast-answer.ensures in
    listed-as first c.consider_upcast-answer.new.ecx S _ (whole_list E.fixed E.judge E.state g.E.Build.context first before (rule ∷ [])) (IsUnsizedTo J old S goals to before)
    (λ l so. unsized-by J S old mid u goals to before _ l c.requires.source_dynamic c.requires.dynamic is (rule-only old mid c.upcast_between.ensures.grows goals e same u (self_of goals) to is keeps) so) _
    (one-listed (λ f. (g.met.E.EvalCtxt.lawful f).alike_judged_alike) first c.consider_upcast-answer.new.ecx before _ rule c.consider_upcast-answer.result _ c.requires.candidates told c.push_considered.ensures)
