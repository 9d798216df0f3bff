use Rattle.std.proofs.Common.{◌≡◌, All, Err, List, ap, length, subst, sym, ◌∙◌}
use Rattle.std.proofs.lemmas.Result.{err_from_is_err_and}
use Rattle.ir_trees.specs.declared.ir.kinds.AliasTy.{AliasTy}
use Rattle.ir_trees.specs.Declarations.Context.{Context}
use Rattle.ir_trees.specs.Syntax.Words.{IsTy, env_forest, ty_tree}
use Rattle.candidate_eval.specs.Interface.Evaluators.{IsHiddenOpaque, alias_trees}
use Rattle.candidate_eval.specs.Judges.States.{State}
use Rattle.candidate_eval.proofs.Dynamic.Objects.{env-kept}
use Rattle.candidate_assembly.specs.Goals.Kinds.{self_type}
use Rattle.candidate_assembly.proofs.Calls.Keeping.{goal-kept}
use Rattle.candidate_assembly.proofs.Opaques.OpaqueAnswers.{asked-back, below-later, empty-is, none-found, not-empty, no-trees, not-found, said-nothing, said-something, said-stops, some-trees}
use Rattle.candidate_assembly.proofs.Opaques.OpaqueLists.{hidden-each, like-first, lists-so, said-each, stops-as}
use Rattle.candidate_assembly.proofs.Opaques.SaidBounds.{hidden-bounded}
use Rattle.candidate_assembly.proofs.assembly.opaques.assemble_opaque_candidates.Goals as goal

pub opaques_behind-requires : goal.opaques_behind-requires
opaques_behind-requires g c =
    subst (λ (x : Context). IsTy x.trees c.self_ty-self_ty.result) c.cx.ensures c.self_ty-self_ty.ensures.sort

pub returns-in_err-behind : goal.returns-in_err-behind
returns-in_err-behind g c =
    let first = c.args.ecx.now in
    let mid = c.opaques_behind.new.ecx in
    let p = err_from_is_err_and c.from_residual.result c.from_residual.ensures.1 in
    not-found (λ f. (g.met.E.EvalCtxt.lawful f).alike_judged_alike) first mid c.from_residual.result c.in_err-behind.field-0.0 (p.1 ∙ ap Err p.2) c.opaques_behind.ensures.kept c.opaques_behind.ensures.same c.in_err-behind.ensures.own c.in_err-behind.ensures.cause

pub list_ambiguity-requires : goal.list_ambiguity-requires
list_ambiguity-requires g c =
    let first = c.args.ecx.now in
    let old = g.E.Build.context first in
    let mid = c.opaques_behind.new.ecx in
    let now = g.E.Build.context mid in
    let kept = c.opaques_behind.ensures.kept in
    (env-kept old now c.args.env kept.grows c.requires.goal.env).0

pub consider_opaques-requires-clause-goal : goal.consider_opaques-requires-clause-goal
consider_opaques-requires-clause-goal g c =
    let first = c.args.ecx.now in
    let old = g.E.Build.context first in
    let mid = c.opaques_behind.new.ecx in
    let now = g.E.Build.context mid in
    let kept = c.opaques_behind.ensures.kept in
    goal-kept kept.grows (g.met.G.GoalKind.stays old now c.args.env c.args.predicate kept.grows c.requires.goal) c.requires.goal

pub consider_opaques-requires-clause-below : goal.consider_opaques-requires-clause-below
consider_opaques-requires-clause-below g c =
    let E = g.E.EvalCtxt in
    let G = g.G.GoalKind in
    let first = c.args.ecx.now in
    let old = g.E.Build.context first in
    let mid = c.opaques_behind.new.ecx in
    let now = g.E.Build.context mid in
    let kept = c.opaques_behind.ensures.kept in
    let S = E.state first in
    let like = like-first E.fixed E.judge E.state (λ f. (g.met.E.EvalCtxt.lawful f).alike_judged_alike) first mid c.opaques_behind.ensures.same in
    let says = g.met.G.GoalKind.stays old now c.args.env c.args.predicate kept.grows c.requires.goal in
    below-later G.kind.rules S (E.state mid) _ _ ((g.met.E.EvalCtxt.lawful (E.fixed first)).alike_judged_alike.alike_looks S (E.state mid) like) says.seen c.requires.below

pub consider_opaques-requires-clause-opaques : goal.consider_opaques-requires-clause-opaques
consider_opaques-requires-clause-opaques g c =
    let E = g.E.EvalCtxt in
    let first = c.args.ecx.now in
    let mid = c.opaques_behind.new.ecx in
    let now = g.E.Build.context mid in
    let S = E.state first in
    subst (λ (s : State). All (IsHiddenOpaque now (length s.variables)) c.as_slice-opaques.result.now) (sym c.opaques_behind.ensures.same)
    (subst (λ (zs : List AliasTy). All (IsHiddenOpaque now (length S.variables)) zs) (sym c.as_slice-opaques.ensures.value) c.in_ok-behind.ensures.hidden)

pub returns-then-is_empty : goal.returns-then-is_empty
returns-then-is_empty g c =
    let E = g.E.EvalCtxt in
    let G = g.G.GoalKind in
    let first = c.args.ecx.now in
    let old = g.E.Build.context first in
    let mid = c.opaques_behind.new.ecx in
    let now = g.E.Build.context mid in
    let kept = c.opaques_behind.ensures.kept in
    let seen = G.kind.seen old.trees c.args.env c.args.predicate in
    let self = c.self_ty-self_ty.result in
    let is : ty_tree old.trees self ≡ self_type G.kind.rules old seen = subst (λ (x : Context). ty_tree x.trees self ≡ self_type G.kind.rules x (G.kind.seen x.trees c.args.env c.args.predicate)) c.cx.ensures c.self_ty-self_ty.ensures.tree in
    let J = E.judge (E.fixed first) in
    let S = E.state first in
    let like = like-first E.fixed E.judge E.state (λ f. (g.met.E.EvalCtxt.lawful f).alike_judged_alike) first mid c.opaques_behind.ensures.same in
    let ys = c.as_slice-opaques.result.now in
    let us = alias_trees now.trees ys in
    let are = hidden-each G.kind.rules G.kind.bounds g.met.G.GoalKind.laws J S old seen (ty_tree old.trees self) us (ap (λ (zs : List AliasTy). alias_trees now.trees zs) c.as_slice-opaques.ensures.value ∙ c.in_ok-behind.ensures.are) is in
    let env : env_forest now.trees c.args.env ≡ G.kind.rules.env_of seen = (env-kept old now c.args.env kept.grows c.requires.goal.env).1 ∙ sym (g.met.G.GoalKind.env_given old.trees c.args.env c.args.predicate) in
    asked-back (λ f. (g.met.E.EvalCtxt.lawful f).alike_judged_alike) first mid c.list_ambiguity.new.ecx (G.kind.rules.env_of seen) (env_forest now.trees c.args.env) _ c.list_ambiguity.result kept like env c.requires.below.env
    (λ l h x w. h ∙ none-found G.kind.rules J x S seen c.args.from us (are x w) (no-trees now.trees ys (sym c.is_empty.ensures ∙ c.if-is_empty.true))) c.list_ambiguity.ensures

pub returns-in_err-candidates : goal.returns-in_err-candidates
returns-in_err-candidates g c =
    let E = g.E.EvalCtxt in
    let G = g.G.GoalKind in
    let first = c.args.ecx.now in
    let old = g.E.Build.context first in
    let mid = c.opaques_behind.new.ecx in
    let now = g.E.Build.context mid in
    let kept = c.opaques_behind.ensures.kept in
    let seen = G.kind.seen old.trees c.args.env c.args.predicate in
    let self = c.self_ty-self_ty.result in
    let is : ty_tree old.trees self ≡ self_type G.kind.rules old seen = subst (λ (x : Context). ty_tree x.trees self ≡ self_type G.kind.rules x (G.kind.seen x.trees c.args.env c.args.predicate)) c.cx.ensures c.self_ty-self_ty.ensures.tree in
    let J = E.judge (E.fixed first) in
    let S = E.state first in
    let says = g.met.G.GoalKind.stays old now c.args.env c.args.predicate kept.grows c.requires.goal in
    let ys = c.as_slice-opaques.result.now in
    let us = alias_trees now.trees ys in
    let are = hidden-each G.kind.rules G.kind.bounds g.met.G.GoalKind.laws J S old seen (ty_tree old.trees self) us (ap (λ (zs : List AliasTy). alias_trees now.trees zs) c.as_slice-opaques.ensures.value ∙ c.in_ok-behind.ensures.are) is in
    let some = some-trees now.trees ys (sym c.is_empty.ensures ∙ c.if-is_empty.false) in
    let hidden = subst (λ (zs : List AliasTy). All (IsHiddenOpaque now (length S.variables)) zs) (sym c.as_slice-opaques.ensures.value) c.in_ok-behind.ensures.hidden in
    let late = c.consider_opaques.new.ecx in
    let p = err_from_is_err_and c.from_residual-in_err-candidates.result c.from_residual-in_err-candidates.ensures.1 in
    let z = c.in_err-candidates.field-0.0 in
    stops-as first late S z c.from_residual-in_err-candidates.result (p.1 ∙ ap Err p.2) (λ e x w. said-stops G.kind.rules J x S seen c.args.from us (are x w) some z (e x w))
    (said-each (λ f. (g.met.E.EvalCtxt.lawful f).alike_judged_alike) G.kind.rules G.kind.bounds g.met.G.GoalKind.laws first mid late seen (G.kind.seen now.trees c.args.env c.args.predicate) ys c.args.from (Err z) kept c.opaques_behind.ensures.same says.seen (λ k d l. hidden-bounded now _ _ (hidden k d l)) c.in_err-candidates.ensures)

pub list_ambiguity-requires-then-is_empty-2 : goal.list_ambiguity-requires-then-is_empty-2
list_ambiguity-requires-then-is_empty-2 g c =
    let E = g.E.EvalCtxt in
    let G = g.G.GoalKind in
    let first = c.args.ecx.now in
    let old = g.E.Build.context first in
    let mid = c.opaques_behind.new.ecx in
    let now = g.E.Build.context mid in
    let kept = c.opaques_behind.ensures.kept in
    let seen = G.kind.seen old.trees c.args.env c.args.predicate in
    let S = E.state first in
    let says = g.met.G.GoalKind.stays old now c.args.env c.args.predicate kept.grows c.requires.goal in
    let ys = c.as_slice-opaques.result.now in
    let hidden = subst (λ (zs : List AliasTy). All (IsHiddenOpaque now (length S.variables)) zs) (sym c.as_slice-opaques.ensures.value) c.in_ok-behind.ensures.hidden in
    let late = c.consider_opaques.new.ecx in
    let far = g.E.Build.context late in
    let done = said-each (λ f. (g.met.E.EvalCtxt.lawful f).alike_judged_alike) G.kind.rules G.kind.bounds g.met.G.GoalKind.laws first mid late seen (G.kind.seen now.trees c.args.env c.args.predicate) ys c.args.from _ kept c.opaques_behind.ensures.same says.seen (λ k d l. hidden-bounded now _ _ (hidden k d l)) c.in_ok-candidates.ensures in
    (env-kept old far c.args.env done.kept.grows c.requires.goal.env).0

pub returns-then-is_empty-2 : goal.returns-then-is_empty-2
returns-then-is_empty-2 g c =
    let E = g.E.EvalCtxt in
    let G = g.G.GoalKind in
    let first = c.args.ecx.now in
    let old = g.E.Build.context first in
    let mid = c.opaques_behind.new.ecx in
    let now = g.E.Build.context mid in
    let kept = c.opaques_behind.ensures.kept in
    let seen = G.kind.seen old.trees c.args.env c.args.predicate in
    let self = c.self_ty-self_ty.result in
    let is : ty_tree old.trees self ≡ self_type G.kind.rules old seen = subst (λ (x : Context). ty_tree x.trees self ≡ self_type G.kind.rules x (G.kind.seen x.trees c.args.env c.args.predicate)) c.cx.ensures c.self_ty-self_ty.ensures.tree in
    let J = E.judge (E.fixed first) in
    let S = E.state first in
    let says = g.met.G.GoalKind.stays old now c.args.env c.args.predicate kept.grows c.requires.goal in
    let ys = c.as_slice-opaques.result.now in
    let us = alias_trees now.trees ys in
    let are = hidden-each G.kind.rules G.kind.bounds g.met.G.GoalKind.laws J S old seen (ty_tree old.trees self) us (ap (λ (zs : List AliasTy). alias_trees now.trees zs) c.as_slice-opaques.ensures.value ∙ c.in_ok-behind.ensures.are) is in
    let some = some-trees now.trees ys (sym c.is_empty.ensures ∙ c.if-is_empty.false) in
    let hidden = subst (λ (zs : List AliasTy). All (IsHiddenOpaque now (length S.variables)) zs) (sym c.as_slice-opaques.ensures.value) c.in_ok-behind.ensures.hidden in
    let late = c.consider_opaques.new.ecx in
    let far = g.E.Build.context late in
    let done = said-each (λ f. (g.met.E.EvalCtxt.lawful f).alike_judged_alike) G.kind.rules G.kind.bounds g.met.G.GoalKind.laws first mid late seen (G.kind.seen now.trees c.args.env c.args.predicate) ys c.args.from _ kept c.opaques_behind.ensures.same says.seen (λ k d l. hidden-bounded now _ _ (hidden k d l)) c.in_ok-candidates.ensures in
    let env : env_forest far.trees c.args.env ≡ G.kind.rules.env_of seen = (env-kept old far c.args.env done.kept.grows c.requires.goal.env).1 ∙ sym (g.met.G.GoalKind.env_given old.trees c.args.env c.args.predicate) in
    asked-back (λ f. (g.met.E.EvalCtxt.lawful f).alike_judged_alike) first late c.list_ambiguity-then-is_empty-2.new.ecx (G.kind.rules.env_of seen) (env_forest far.trees c.args.env) _ c.list_ambiguity-then-is_empty-2.result done.kept done.alike env c.requires.below.env
    (λ l h x w. h ∙ said-nothing G.kind.rules J x S seen c.args.from us (are x w) some far.trees c.in_ok-candidates.candidates.items (sym c.as_slice.ensures.value ∙ empty-is _ (sym c.is_empty-2.ensures ∙ c.if-is_empty-2.true)) (done.told.ok x w)) c.list_ambiguity-then-is_empty-2.ensures

pub returns : goal.returns
returns g c =
    let E = g.E.EvalCtxt in
    let G = g.G.GoalKind in
    let first = c.args.ecx.now in
    let old = g.E.Build.context first in
    let mid = c.opaques_behind.new.ecx in
    let now = g.E.Build.context mid in
    let kept = c.opaques_behind.ensures.kept in
    let seen = G.kind.seen old.trees c.args.env c.args.predicate in
    let self = c.self_ty-self_ty.result in
    let is : ty_tree old.trees self ≡ self_type G.kind.rules old seen = subst (λ (x : Context). ty_tree x.trees self ≡ self_type G.kind.rules x (G.kind.seen x.trees c.args.env c.args.predicate)) c.cx.ensures c.self_ty-self_ty.ensures.tree in
    let J = E.judge (E.fixed first) in
    let S = E.state first in
    let says = g.met.G.GoalKind.stays old now c.args.env c.args.predicate kept.grows c.requires.goal in
    let ys = c.as_slice-opaques.result.now in
    let us = alias_trees now.trees ys in
    let are = hidden-each G.kind.rules G.kind.bounds g.met.G.GoalKind.laws J S old seen (ty_tree old.trees self) us (ap (λ (zs : List AliasTy). alias_trees now.trees zs) c.as_slice-opaques.ensures.value ∙ c.in_ok-behind.ensures.are) is in
    let some = some-trees now.trees ys (sym c.is_empty.ensures ∙ c.if-is_empty.false) in
    let hidden = subst (λ (zs : List AliasTy). All (IsHiddenOpaque now (length S.variables)) zs) (sym c.as_slice-opaques.ensures.value) c.in_ok-behind.ensures.hidden in
    let late = c.consider_opaques.new.ecx in
    let far = g.E.Build.context late in
    let done = said-each (λ f. (g.met.E.EvalCtxt.lawful f).alike_judged_alike) G.kind.rules G.kind.bounds g.met.G.GoalKind.laws first mid late seen (G.kind.seen now.trees c.args.env c.args.predicate) ys c.args.from _ kept c.opaques_behind.ensures.same says.seen (λ k d l. hidden-bounded now _ _ (hidden k d l)) c.in_ok-candidates.ensures in
    lists-so first late S _ done (λ x w. said-something G.kind.rules J x S seen c.args.from us (are x w) some far.trees c.in_ok-candidates.candidates.items (λ e. not-empty _ (sym c.is_empty-2.ensures ∙ c.if-is_empty-2.false) (c.as_slice.ensures.value ∙ e)) (done.told.ok x w))
