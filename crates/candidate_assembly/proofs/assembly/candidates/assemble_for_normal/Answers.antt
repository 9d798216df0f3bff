use Rattle.std.proofs.Common.{refl, sym, ap, subst, ◌∙◌, Err}
use Rattle.std.proofs.lemmas.Result.{err_from_is_err_and}
use Rattle.ir_trees.specs.Declarations.Context.{Context}
use Rattle.ir_trees.specs.Validity.WellFormed.{IsWellFormedTable}
use Rattle.ir_trees.specs.Syntax.Trees.{TypeKind}
use Rattle.ir_trees.specs.Syntax.Words.{IsTy, ty_tree}
use Rattle.ir_trees.proofs.Growth.Kept.{grows-refl, ty-kept}
use Rattle.ir_trees.proofs.Syntax.Rows.{kind-of}
use Rattle.candidate_eval.specs.Judges.States.{State, resolved}
use Rattle.candidate_eval.proofs.Dynamic.Objects.{env-kept}
use Rattle.candidate_eval.proofs.Interface.Probing.{then as after}
use Rattle.candidate_assembly.proofs.Lists.AssembledSteps.{general-told, list-not-reached, normal-below, normal-closed, normal-free, normal-stands, others-listed, resolved-is, resolved-stands, resolved-typed, variable-listed}
use Rattle.candidate_assembly.specs.Rules.AliasFaults.{PutsOffOnce}
use Rattle.candidate_assembly.proofs.Aliases.AliasChains.{list-but}
use Rattle.candidate_assembly.proofs.Calls.Keeping.{goal-kept}
use Rattle.candidate_assembly.proofs.assembly.candidates.assemble_for_normal.Goals as goal

pub returns-in_err-predicate : goal.returns-in_err-predicate
returns-in_err-predicate g c =
    let E = g.E.EvalCtxt in
    let old = c.args.ecx.now in
    let why = c.in_err-predicate.ensures in
    let p = err_from_is_err_and c.from_residual.result c.from_residual.ensures.1 in
    list-but _ _ _ _ (λ us vs e. PutsOffOnce.none e) (list-not-reached g.met.E.EvalCtxt.stops_itself (λ f. (g.met.E.EvalCtxt.lawful f).alike_judged_alike) old old c.with_replaced_self_ty.new.ecx c.from_residual.result c.in_err-predicate.field-0.0 (p.1 ∙ ap Err p.2)
    (record { fixed_same = refl; probes_same = refl; grows = grows-refl (g.E.Build.context old); faults = refl }) refl why.kept why.same why.cause)

pub kind-requires : goal.kind-requires
kind-requires g c =
    subst (λ (x : Context). IsTy x.trees c.args.ty) (sym c.cx-2.ensures) (ty-kept (g.E.Build.context c.args.ecx.now) (g.E.Build.context c.with_replaced_self_ty.new.ecx) c.args.ty c.in_ok-predicate.ensures.kept.grows c.requires.ty).0

pub assemble_opaque_candidates-requires-clause-below : goal.assemble_opaque_candidates-requires-clause-below
assemble_opaque_candidates-requires-clause-below g c =
    let E = g.E.EvalCtxt in
    let K = g.G.GoalKind in
    let old = c.args.ecx.now in
    let ts = (g.E.Build.context old).trees in
    normal-below K.kind.rules K.kind.bounds g.met.G.GoalKind.laws.change (E.state old) (K.kind.seen ts c.args.env c.args.predicate) (ty_tree ts c.args.ty) c.requires.stands (E.state c.with_replaced_self_ty.new.ecx) _ c.in_ok-predicate.ensures.same c.in_ok-predicate.ensures.is

pub returns-then-is_ty_var : goal.returns-then-is_ty_var
returns-then-is_ty_var g c =
    let E = g.E.EvalCtxt in
    let K = g.G.GoalKind in
    let old = c.args.ecx.now in
    let ts = (g.E.Build.context old).trees in
    let d = K.kind.seen ts c.args.env c.args.predicate in
    let u = ty_tree ts c.args.ty in
    let h = c.in_ok-predicate.ensures in
    variable-listed (λ f. (g.met.E.EvalCtxt.lawful f).alike_judged_alike) old c.with_replaced_self_ty.new.ecx c.assemble_opaque_candidates.new.ecx d (K.kind.seen (g.E.Build.context c.with_replaced_self_ty.new.ecx).trees c.args.env c.in_ok-predicate.predicate) u c.args.from
    c.assemble_opaque_candidates.result h.kept h.same h.is (general-told (g.E.Build.context old) (g.E.Build.context c.with_replaced_self_ty.new.ecx) c.cx-2.result.now c.cx-2.ensures h.kept.grows c.args.ty c.requires.ty c.kind.result c.is_ty_var.result c.is_ty_var.ensures c.kind.ensures.tree ∙ c.if-is_ty_var.true) c.assemble_opaque_candidates.ensures

pub returns-in_err-resolved_env : goal.returns-in_err-resolved_env
returns-in_err-resolved_env g c =
    let E = g.E.EvalCtxt in
    let why = c.in_err-resolved_env.ensures in
    let h = c.in_ok-predicate.ensures in
    let p = err_from_is_err_and c.from_residual-in_err-resolved_env.result c.from_residual-in_err-resolved_env.ensures.1 in
    list-but _ _ _ _ (λ us vs e. PutsOffOnce.none e) (list-not-reached g.met.E.EvalCtxt.stops_itself (λ f. (g.met.E.EvalCtxt.lawful f).alike_judged_alike) c.args.ecx.now c.with_replaced_self_ty.new.ecx c.resolve_env_if_possible.new.ecx c.from_residual-in_err-resolved_env.result c.in_err-resolved_env.field-0.0 (p.1 ∙ ap Err p.2)
    h.kept h.same why.kept why.same why.cause)

pub resolve_vars_if_possible-requires-clause-goal : goal.resolve_vars_if_possible-requires-clause-goal
resolve_vars_if_possible-requires-clause-goal g c =
    let E = g.E.EvalCtxt in
    let K = g.G.GoalKind in
    let old = c.args.ecx.now in
    let ts = (g.E.Build.context old).trees in
    let d = K.kind.seen ts c.args.env c.args.predicate in
    let u = ty_tree ts c.args.ty in
    let h = c.in_ok-predicate.ensures in
    let normal = h.goal (normal-free K.kind.rules K.kind.bounds g.met.G.GoalKind.laws.change (E.state old) d u c.requires.stands) (normal-closed K.kind.rules K.kind.bounds g.met.G.GoalKind.laws.change (E.state old) d u c.requires.stands) in
    let grows = c.in_ok-resolved_env.ensures.kept.grows in
    goal-kept grows (g.met.G.GoalKind.stays (g.E.Build.context c.with_replaced_self_ty.new.ecx) (g.E.Build.context c.resolve_env_if_possible.new.ecx) c.args.env c.in_ok-predicate.predicate grows normal) normal

pub returns-in_err-resolved : goal.returns-in_err-resolved
returns-in_err-resolved g c =
    let E = g.E.EvalCtxt in
    let why = c.in_err-resolved.ensures in
    let h = c.in_ok-predicate.ensures in
    let r = c.in_ok-resolved_env.ensures in
    let p = err_from_is_err_and c.from_residual-in_err-resolved.result c.from_residual-in_err-resolved.ensures.1 in
    list-but _ _ _ _ (λ us vs e. PutsOffOnce.none e) (list-not-reached g.met.E.EvalCtxt.stops_itself (λ f. (g.met.E.EvalCtxt.lawful f).alike_judged_alike) c.args.ecx.now c.resolve_env_if_possible.new.ecx c.resolve_vars_if_possible.new.ecx c.from_residual-in_err-resolved.result c.in_err-resolved.field-0.0 (p.1 ∙ ap Err p.2)
    (after h.kept r.kept) (r.same ∙ h.same) why.kept why.same why.cause)

pub assemble_resolved-requires-clause-goal : goal.assemble_resolved-requires-clause-goal
assemble_resolved-requires-clause-goal g c =
    let E = g.E.EvalCtxt in
    let K = g.G.GoalKind in
    let old = c.args.ecx.now in
    let ts = (g.E.Build.context old).trees in
    let d = K.kind.seen ts c.args.env c.args.predicate in
    let u = ty_tree ts c.args.ty in
    let h = c.in_ok-predicate.ensures in
    let normal = h.goal (normal-free K.kind.rules K.kind.bounds g.met.G.GoalKind.laws.change (E.state old) d u c.requires.stands) (normal-closed K.kind.rules K.kind.bounds g.met.G.GoalKind.laws.change (E.state old) d u c.requires.stands) in
    let r = c.in_ok-resolved_env.ensures in
    let v = c.in_ok-resolved.ensures in
    let says = g.met.G.GoalKind.stays (g.E.Build.context c.with_replaced_self_ty.new.ecx) (g.E.Build.context c.resolve_env_if_possible.new.ecx) c.args.env c.in_ok-predicate.predicate r.kept.grows normal in
    let is = says.seen ∙ h.is in
    let same = r.same ∙ h.same in
    v.goal (normal-stands K.kind.rules K.kind.bounds g.met.G.GoalKind.laws.change (E.state old) d u c.requires.stands (E.state c.resolve_env_if_possible.new.ecx) _ same is)

pub assemble_resolved-requires-clause-typed : goal.assemble_resolved-requires-clause-typed
assemble_resolved-requires-clause-typed g c =
    let E = g.E.EvalCtxt in
    let K = g.G.GoalKind in
    let old = c.args.ecx.now in
    let ts = (g.E.Build.context old).trees in
    let d = K.kind.seen ts c.args.env c.args.predicate in
    let u = ty_tree ts c.args.ty in
    let h = c.in_ok-predicate.ensures in
    let normal = h.goal (normal-free K.kind.rules K.kind.bounds g.met.G.GoalKind.laws.change (E.state old) d u c.requires.stands) (normal-closed K.kind.rules K.kind.bounds g.met.G.GoalKind.laws.change (E.state old) d u c.requires.stands) in
    let r = c.in_ok-resolved_env.ensures in
    let v = c.in_ok-resolved.ensures in
    let says = g.met.G.GoalKind.stays (g.E.Build.context c.with_replaced_self_ty.new.ecx) (g.E.Build.context c.resolve_env_if_possible.new.ecx) c.args.env c.in_ok-predicate.predicate r.kept.grows normal in
    let is = says.seen ∙ h.is in
    let same = r.same ∙ h.same in
    let all = resolved-is K.kind.rules K.kind.bounds g.met.G.GoalKind.laws.change (E.state old) d u c.requires.stands (E.state c.resolve_env_if_possible.new.ecx) _ _ _ same is (r.tree ∙ (ap (resolved (E.state c.with_replaced_self_ty.new.ecx)) (sym (env-kept (g.E.Build.context c.with_replaced_self_ty.new.ecx) (g.E.Build.context c.resolve_env_if_possible.new.ecx) c.args.env r.kept.grows normal.env).1 ∙ sym (g.met.G.GoalKind.env_given (g.E.Build.context c.resolve_env_if_possible.new.ecx).trees c.args.env c.in_ok-predicate.predicate)) ∙ ap (λ (S : State). resolved S (K.kind.rules.env_of (K.kind.seen (g.E.Build.context c.resolve_env_if_possible.new.ecx).trees c.args.env c.in_ok-predicate.predicate))) (sym r.same))) v.is in
    resolved-typed K.kind.rules K.kind.bounds g.met.G.GoalKind.laws.change (E.state old) d u c.requires.stands (g.E.Build.context c.resolve_vars_if_possible.new.ecx) _ all (kind-of ts c.args.ty.0 TypeKind refl c.requires.ty) (general-told (g.E.Build.context old) (g.E.Build.context c.with_replaced_self_ty.new.ecx) c.cx-2.result.now c.cx-2.ensures h.kept.grows c.args.ty c.requires.ty c.kind.result c.is_ty_var.result c.is_ty_var.ensures c.kind.ensures.tree ∙ c.if-is_ty_var.false)

pub assemble_resolved-requires-clause-stands : goal.assemble_resolved-requires-clause-stands
assemble_resolved-requires-clause-stands g c =
    let E = g.E.EvalCtxt in
    let K = g.G.GoalKind in
    let old = c.args.ecx.now in
    let ts = (g.E.Build.context old).trees in
    let d = K.kind.seen ts c.args.env c.args.predicate in
    let u = ty_tree ts c.args.ty in
    let h = c.in_ok-predicate.ensures in
    let normal = h.goal (normal-free K.kind.rules K.kind.bounds g.met.G.GoalKind.laws.change (E.state old) d u c.requires.stands) (normal-closed K.kind.rules K.kind.bounds g.met.G.GoalKind.laws.change (E.state old) d u c.requires.stands) in
    let r = c.in_ok-resolved_env.ensures in
    let v = c.in_ok-resolved.ensures in
    let says = g.met.G.GoalKind.stays (g.E.Build.context c.with_replaced_self_ty.new.ecx) (g.E.Build.context c.resolve_env_if_possible.new.ecx) c.args.env c.in_ok-predicate.predicate r.kept.grows normal in
    let is = says.seen ∙ h.is in
    let same = r.same ∙ h.same in
    let all = resolved-is K.kind.rules K.kind.bounds g.met.G.GoalKind.laws.change (E.state old) d u c.requires.stands (E.state c.resolve_env_if_possible.new.ecx) _ _ _ same is (r.tree ∙ (ap (resolved (E.state c.with_replaced_self_ty.new.ecx)) (sym (env-kept (g.E.Build.context c.with_replaced_self_ty.new.ecx) (g.E.Build.context c.resolve_env_if_possible.new.ecx) c.args.env r.kept.grows normal.env).1 ∙ sym (g.met.G.GoalKind.env_given (g.E.Build.context c.resolve_env_if_possible.new.ecx).trees c.args.env c.in_ok-predicate.predicate)) ∙ ap (λ (S : State). resolved S (K.kind.rules.env_of (K.kind.seen (g.E.Build.context c.resolve_env_if_possible.new.ecx).trees c.args.env c.in_ok-predicate.predicate))) (sym r.same))) v.is in
    resolved-stands K.kind.rules K.kind.bounds g.met.G.GoalKind.laws.change (E.state old) d u c.requires.stands (E.state c.resolve_vars_if_possible.new.ecx) _ (v.same ∙ same) all

pub returns : goal.returns
returns g c =
    let E = g.E.EvalCtxt in
    let K = g.G.GoalKind in
    let old = c.args.ecx.now in
    let ts = (g.E.Build.context old).trees in
    let d = K.kind.seen ts c.args.env c.args.predicate in
    let u = ty_tree ts c.args.ty in
    let h = c.in_ok-predicate.ensures in
    let normal = h.goal (normal-free K.kind.rules K.kind.bounds g.met.G.GoalKind.laws.change (E.state old) d u c.requires.stands) (normal-closed K.kind.rules K.kind.bounds g.met.G.GoalKind.laws.change (E.state old) d u c.requires.stands) in
    let r = c.in_ok-resolved_env.ensures in
    let v = c.in_ok-resolved.ensures in
    let says = g.met.G.GoalKind.stays (g.E.Build.context c.with_replaced_self_ty.new.ecx) (g.E.Build.context c.resolve_env_if_possible.new.ecx) c.args.env c.in_ok-predicate.predicate r.kept.grows normal in
    let is = says.seen ∙ h.is in
    let same = r.same ∙ h.same in
    let all = resolved-is K.kind.rules K.kind.bounds g.met.G.GoalKind.laws.change (E.state old) d u c.requires.stands (E.state c.resolve_env_if_possible.new.ecx) _ _ _ same is (r.tree ∙ (ap (resolved (E.state c.with_replaced_self_ty.new.ecx)) (sym (env-kept (g.E.Build.context c.with_replaced_self_ty.new.ecx) (g.E.Build.context c.resolve_env_if_possible.new.ecx) c.args.env r.kept.grows normal.env).1 ∙ sym (g.met.G.GoalKind.env_given (g.E.Build.context c.resolve_env_if_possible.new.ecx).trees c.args.env c.in_ok-predicate.predicate)) ∙ ap (λ (S : State). resolved S (K.kind.rules.env_of (K.kind.seen (g.E.Build.context c.resolve_env_if_possible.new.ecx).trees c.args.env c.in_ok-predicate.predicate))) (sym r.same))) v.is in
    others-listed (λ f. (g.met.E.EvalCtxt.lawful f).alike_judged_alike) old c.resolve_vars_if_possible.new.ecx c.assemble_resolved.new.ecx d _ u c.args.from c.assemble_resolved.result
    (g.met.G.GoalKind.laws.stay.reference (g.E.Build.context old) (g.E.Build.context c.resolve_vars_if_possible.new.ecx) (subst IsWellFormedTable c.cx.ensures c.recall_well_formed_table.ensures) (after h.kept (after r.kept v.kept)).grows _)
    (after h.kept (after r.kept v.kept)) (v.same ∙ same) all (general-told (g.E.Build.context old) (g.E.Build.context c.with_replaced_self_ty.new.ecx) c.cx-2.result.now c.cx-2.ensures h.kept.grows c.args.ty c.requires.ty c.kind.result c.is_ty_var.result c.is_ty_var.ensures c.kind.ensures.tree ∙ c.if-is_ty_var.false) c.assemble_resolved.ensures
