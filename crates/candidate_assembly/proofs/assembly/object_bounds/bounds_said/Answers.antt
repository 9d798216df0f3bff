use Rattle.std.proofs.Common.{rules, ◌≡◌, ◌≤◌, length, get_or, map, refl, sym, ap, subst, ◌∙◌}
use Rattle.ir_trees.specs.declared.ir.kinds.Pred.{Pred}
use Rattle.ir_trees.specs.Declarations.Context.{Context}
use Rattle.ir_trees.specs.Syntax.Trees.{Tree}
use Rattle.ir_trees.specs.Syntax.Words.{IsPred, clause_tree, pred_tree, ty_tree}
use Rattle.ir_trees.proofs.Growth.Kept.{grows-trans, ty-kept}
use Rattle.ir_trees.proofs.Growth.Made.{IsPred-listed}
use Rattle.candidate_assembly.specs.Rules.DynBounds.{is_principal}
use Rattle.candidate_assembly.proofs.Objects.ObjectClauses.{all-said, none-said, one-said, pred-kept, principal-passed, said-before}
use Rattle.candidate_assembly.proofs.assembly.object_bounds.bounds_said.Goals as goal
use Rattle.candidate_assembly.proofs.assembly.object_bounds.bounds_said.Goals.{then-not-is_principal+in_ok-clause+in_ok-push, else-not-is_principal}
use Rattle.std.proofs.lemmas.Result.{err_from_is_err_and}
use Rattle.candidate_eval.specs.Interface.Unmade.IsUnmade.{no_memory}
use Rattle.candidate_eval.proofs.Interface.Unmade.{unmade-before}

pub loop-bound-init : goal.loop-bound-init
loop-bound-init g c =
    let start = g.M.Build.context c.args.make.now in
    (none-said start (ty_tree start.trees c.args.ty) (map (pred_tree start.trees) c.args.bounds.now) _ c.new-clauses.ensures.items, refl)

pub is_principal-requires : goal.is_principal-requires
is_principal-requires g c =
    let start = g.M.Build.context c.args.make.now in
    let d : Pred = record { 0 = 0 } in
    let k = c.loop-bound.bound-index in
    let x = get_or c.args.bounds.now k d in
    let there = (pred-kept start (g.M.Build.context c.loop-bound.make) x c.loop-bound.invariant.0.grows (IsPred-listed start.trees c.args.bounds.now k d c.loop-bound-test.true c.requires.fit)).0 in
    subst (λ (z : Context). IsPred z.trees x) (sym c.cx.ensures) there

pub bound_clause-requires-clause-ty : goal.bound_clause-requires-clause-ty
bound_clause-requires-clause-ty g c = (ty-kept (g.M.Build.context c.args.make.now) (g.M.Build.context c.loop-bound.make) c.args.ty c.loop-bound.invariant.0.grows c.requires.ty).0

pub bound_clause-requires-clause-bound : goal.bound_clause-requires-clause-bound
bound_clause-requires-clause-bound g c =
    let start = g.M.Build.context c.args.make.now in
    let d : Pred = record { 0 = 0 } in
    let k = c.loop-bound.bound-index in
    (pred-kept start (g.M.Build.context c.loop-bound.make) (get_or c.args.bounds.now k d) c.loop-bound.invariant.0.grows (IsPred-listed start.trees c.args.bounds.now k d c.loop-bound-test.true c.requires.fit)).0

pub returns-in_err-clause-clause-grows : goal.returns-in_err-clause-clause-grows
returns-in_err-clause-clause-grows g c = grows-trans _ _ _ c.loop-bound.invariant.0.grows c.bound_clause.ensures.grows

pub returns-in_err-push-clause-grows : goal.returns-in_err-push-clause-grows
returns-in_err-push-clause-grows g c = grows-trans _ _ _ c.loop-bound.invariant.0.grows c.bound_clause.ensures.grows

pub loop-bound-preserved : goal.loop-bound-preserved
loop-bound-preserved g c =
    let start = g.M.Build.context c.args.make.now in
    let now = g.M.Build.context c.loop-bound.make in
    let so = c.loop-bound.invariant in
    let d : Pred = record { 0 = 0 } in
    let k = c.loop-bound.bound-index in
    let xs = c.args.bounds.now in
    let x = get_or xs k d in
    let is = IsPred-listed start.trees xs k d c.loop-bound-test.true c.requires.fit in
    let same : is_principal (pred_tree start.trees x).head ≡ c.is_principal.result
    = ap (λ (t : Tree). is_principal t.head) (sym (pred-kept start now x so.0.grows is).1) ∙ (sym (ap (λ (z : Context). is_principal (pred_tree z.trees x).head) c.cx.ensures) ∙ sym c.is_principal.ensures) in
    elim c.if-not-is_principal.branch [
      | then-not-is_principal+in_ok-clause+in_ok-push w ↦
          let y = w.in_ok-clause.clause in
          let new = g.M.Build.context w.bound_clause.new.make in
          rw (w.make-is, w.clauses-is) (
            one-said start now c.args.ty xs k d c.loop-bound.clauses.items c.loop-bound-test.true so.0 new y w.push.new.self.items (same ∙ w.if-not-is_principal.true) w.bound_clause.ensures.grows w.in_ok-clause.ensures.sort
                (said-before start now c.args.ty x (clause_tree new.trees y) so.0.grows c.requires.ty is w.in_ok-clause.ensures.tree) w.in_ok-push.ensures.items,
            w.bound_clause.ensures.rest ∙ so.1,
          )
      | else-not-is_principal w ↦ rw (w.make-is, w.clauses-is) (principal-passed start now c.args.ty xs k d c.loop-bound.clauses.items c.loop-bound-test.true so.0 (same ∙ w.if-not-is_principal.false), so.1)
    ]

pub returns-clause-are : goal.returns-clause-are
returns-clause-are g c =
    let start = g.M.Build.context c.args.make.now in
    let past : length c.args.bounds.now ≤ c.loop-bound.bound-index = search rules in
    all-said start (g.M.Build.context c.loop-bound.make) (ty_tree start.trees c.args.ty) start.trees c.args.bounds.now c.loop-bound.bound-index c.loop-bound.clauses.items past c.loop-bound.invariant.0

pub returns-in_err-push-clause-cause : goal.returns-in_err-push-clause-cause
returns-in_err-push-clause-cause g c =
    let p = err_from_is_err_and c.from_residual-in_err-push.result c.from_residual-in_err-push.ensures.1 in
    rw (p.1, p.2) no_memory

pub returns-in_err-clause-clause-cause : goal.returns-in_err-clause-clause-cause
returns-in_err-clause-clause-cause g c =
    let p = err_from_is_err_and c.from_residual.result c.from_residual.ensures.1 in
    rw (p.1, p.2) (unmade-before c.loop-bound.invariant.0.grows c.in_err-clause.ensures.cause)
