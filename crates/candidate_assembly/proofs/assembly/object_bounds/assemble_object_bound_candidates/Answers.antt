use Rattle.std.proofs.Common.{◌≡◌, true, Err, refl, subst, sym, ap, ◌∙◌}
use Rattle.std.proofs.lemmas.Result.{err_from_is_err_and}
use Rattle.ir_trees.specs.Declarations.Context.{Context}
use Rattle.ir_trees.specs.Unification.Substitutions.{alone}
use Rattle.ir_trees.specs.Syntax.Trees.{Tree, holds, is_param}
use Rattle.ir_trees.specs.Validity.WellFormed.{IsWellFormedTable}
use Rattle.ir_trees.specs.Syntax.Words.{ty_tree}
use Rattle.candidate_eval.proofs.Interface.Probing.{made}
use Rattle.candidate_assembly.specs.Rules.DynBounds.{is_dynamic}
use Rattle.candidate_assembly.specs.Goals.Kinds.{self_type}
use Rattle.candidate_assembly.proofs.Objects.ObjectLaws.{has_dynamic}
use Rattle.candidate_assembly.proofs.Aliases.BoundRules.{not-made-listed}
use Rattle.candidate_assembly.proofs.Calls.Keeping.{goal-kept}
use Rattle.candidate_assembly.proofs.Lists.Listing.{candidates-kept}
use Rattle.candidate_assembly.proofs.Objects.ObjectFollowing.{bounds-listed, dynamic-head, nothing-said}
use Rattle.candidate_assembly.proofs.Objects.ObjectJudging.{has-as-read, self-kept}
use Rattle.candidate_assembly.proofs.assembly.object_bounds.assemble_object_bound_candidates.Goals as goal

pub returns-then-not-has_own_clauses : goal.returns-then-not-has_own_clauses
returns-then-not-has_own_clauses g c =
    let K = g.G.GoalKind in
    let first = c.args.ecx.now in
    let old = g.E.Build.context first in
    let has = has-as-read K.kind.rules K.kind.seen old c.cx-2.result.now c.cx-3.result.now c.cx-4.result.now c.args.env c.args.predicate c.trait_def_id-trait_id.result c.self_ty-self_ty.result c.cx-2.ensures c.cx-3.ensures c.cx-4.ensures c.trait_def_id-trait_id.ensures c.self_ty-self_ty.ensures.tree in
    nothing-said (λ f. (g.met.E.EvalCtxt.lawful f).alike_judged_alike) K.kind.rules (K.kind.seen old.trees c.args.env c.args.predicate) first c.args.candidates.now.items _ c.requires.candidates (sym has ∙ (sym c.has_own_clauses.ensures ∙ c.if-not-has_own_clauses.true))

pub own_clauses-requires-clause-dynamic : goal.own_clauses-requires-clause-dynamic
own_clauses-requires-clause-dynamic g c =
    let d = has_dynamic c.cx-4.result.now c.trait_def_id-trait_id.result.0 (ty_tree c.cx-4.result.now.trees c.self_ty-self_ty.result) (sym c.has_own_clauses.ensures ∙ c.if-not-has_own_clauses.false) in
    dynamic-head _ (subst (λ (x : Context). is_dynamic (ty_tree x.trees c.self_ty-self_ty.result).head ≡ true) c.cx-4.ensures d)

pub own_clauses-requires-clause-free : goal.own_clauses-requires-clause-free
own_clauses-requires-clause-free g c =
    let K = g.G.GoalKind in
    let old = g.E.Build.context c.args.ecx.now in
    let is = subst (λ (x : Context). ty_tree x.trees c.self_ty-self_ty.result ≡ self_type K.kind.rules x (K.kind.seen x.trees c.args.env c.args.predicate)) c.cx-3.ensures c.self_ty-self_ty.ensures.tree in
    ap (λ (t : Tree). holds is_param (alone t)) is ∙ g.met.G.GoalKind.laws.change.self_type_holds is_param old (K.kind.seen old.trees c.args.env c.args.predicate) refl c.requires.goal.no_parameter

pub returns-in_err-clauses : goal.returns-in_err-clauses
returns-in_err-clauses g c =
    let first = c.args.ecx.now in
    let r = g.met.E.EvalCtxt.by_rest first c.own_clauses.new.make c.own_clauses.ensures.rest in
    let p = err_from_is_err_and c.from_residual.result c.from_residual.ensures.1 in
    not-made-listed (λ f. (g.met.E.EvalCtxt.lawful f).alike_judged_alike) first c.own_clauses.new.make c.from_residual.result c.in_err-clauses.field-0.0 (p.1 ∙ ap Err p.2) c.in_err-clauses.ensures.cause (made r c.own_clauses.ensures.grows) r.1

pub consider_own_clauses-requires-clause-goal : goal.consider_own_clauses-requires-clause-goal
consider_own_clauses-requires-clause-goal g c =
    let grows = c.own_clauses.ensures.grows in
    goal-kept grows (g.met.G.GoalKind.stays (g.E.Build.context c.args.ecx.now) (g.E.Build.context c.own_clauses.new.make) c.args.env c.args.predicate grows c.requires.goal) c.requires.goal

pub consider_own_clauses-requires-clause-dynamic : goal.consider_own_clauses-requires-clause-dynamic
consider_own_clauses-requires-clause-dynamic g c =
    let K = g.G.GoalKind in
    let old = g.E.Build.context c.args.ecx.now in
    let grows = c.own_clauses.ensures.grows in
    let says = g.met.G.GoalKind.stays old (g.E.Build.context c.own_clauses.new.make) c.args.env c.args.predicate grows c.requires.goal in
    let has = has-as-read K.kind.rules K.kind.seen old c.cx-2.result.now c.cx-3.result.now c.cx-4.result.now c.args.env c.args.predicate c.trait_def_id-trait_id.result c.self_ty-self_ty.result c.cx-2.ensures c.cx-3.ensures c.cx-4.ensures c.trait_def_id-trait_id.ensures c.self_ty-self_ty.ensures.tree in
    ap (λ (u : Tree). u.head) (self-kept K.kind.rules says) ∙ dynamic-head _ (has_dynamic old _ (self_type K.kind.rules old (K.kind.seen old.trees c.args.env c.args.predicate)) (sym has ∙ (sym c.has_own_clauses.ensures ∙ c.if-not-has_own_clauses.false)))

pub consider_own_clauses-requires-clause-candidates : goal.consider_own_clauses-requires-clause-candidates
consider_own_clauses-requires-clause-candidates g c =
    (candidates-kept (g.E.Build.context c.args.ecx.now) (g.E.Build.context c.own_clauses.new.make) c.args.candidates.now.items c.own_clauses.ensures.grows c.requires.candidates).0

pub returns : goal.returns
returns g c =
    let E = g.E.EvalCtxt in
    let K = g.G.GoalKind in
    let first = c.args.ecx.now in
    let mid = c.own_clauses.new.make in
    let old = g.E.Build.context first in
    let grows = c.own_clauses.ensures.grows in
    let r = g.met.E.EvalCtxt.by_rest first mid c.own_clauses.ensures.rest in
    let says = g.met.G.GoalKind.stays old (g.E.Build.context mid) c.args.env c.args.predicate grows c.requires.goal in
    let seen = K.kind.seen old.trees c.args.env c.args.predicate in
    let has = has-as-read K.kind.rules K.kind.seen old c.cx-2.result.now c.cx-3.result.now c.cx-4.result.now c.args.env c.args.predicate c.trait_def_id-trait_id.result c.self_ty-self_ty.result c.cx-2.ensures c.cx-3.ensures c.cx-4.ensures c.trait_def_id-trait_id.ensures c.self_ty-self_ty.ensures.tree in
    let is = subst (λ (x : Context). ty_tree x.trees c.self_ty-self_ty.result ≡ self_type K.kind.rules x (K.kind.seen x.trees c.args.env c.args.predicate)) c.cx-3.ensures c.self_ty-self_ty.ensures.tree in
    let xs = c.in_ok-clauses.clauses.items in
    bounds-listed K.kind.rules first mid c.consider_own_clauses.new.ecx seen (K.kind.seen (g.E.Build.context mid).trees c.args.env c.args.predicate) c.self_ty-self_ty.result c.args.candidates.now.items c.consider_own_clauses.new.candidates.items xs c.consider_own_clauses.result
    (subst IsWellFormedTable c.cx.ensures c.recall_well_formed_table.ensures) (made r grows) r.1 says.seen says.reference says.fits is c.requires.candidates (sym has ∙ (sym c.has_own_clauses.ensures ∙ c.if-not-has_own_clauses.false)) c.in_ok-clauses.ensures.are
    (rw c.as_slice.ensures.value at c.consider_own_clauses.ensures)
