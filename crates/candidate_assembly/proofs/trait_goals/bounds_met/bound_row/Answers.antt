use Rattle.std.proofs.Common.{[], ap, refl, subst, sym, ◌∙◌, ◌≡◌}
use Rattle.ir_trees.specs.Declarations.Context.{Context}
use Rattle.ir_trees.specs.Syntax.Words.{PredFits, pred_kind_tree, pred_tree}
use Rattle.ir_trees.proofs.Growth.Kept.{grows-refl}
use Rattle.candidate_assembly.specs.Calls.Upcasting.{IsRow, row_under, row_at}
use Rattle.candidate_assembly.proofs.Upcasting.UpcastRows.{auto-row, projection-row, row-made, trait-row}
use Rattle.candidate_assembly.proofs.trait_goals.bounds_met.bound_row.Goals.{in-Trait, in-Projection+in_ok-value-in-Projection, in-AutoTrait+in_ok-value-in-AutoTrait}
use Rattle.std.proofs.lemmas.Result.{err_from_is_err_and}
use Rattle.candidate_eval.proofs.Interface.Unmade.{members-unmade}
use Rattle.candidate_assembly.proofs.trait_goals.bounds_met.bound_row.Goals as goal

made : (g : _) (c : goal.After-result-1 g)
    → IsRow (g.M.Build.context c.match-bound.make).trees (record { vars = c.pred-bound.result.vars; value = c.match-bound.value })
    × (row_at (g.M.Build.context c.match-bound.make).trees (record { vars = c.pred-bound.result.vars; value = c.match-bound.value }) ≡ row_under (pred_tree (g.M.Build.context c.args.make.now).trees c.args.bound))
made g c =
    let old = g.M.Build.context c.args.make.now in
    let b = c.pred-bound.result in
    let fits = subst (λ (x : Context). PredFits x.trees b) c.cx.ensures c.pred-bound.ensures.fits in
    let tree = subst (λ (x : Context). pred_kind_tree x.trees b ≡ pred_tree x.trees c.args.bound) c.cx.ensures c.pred-bound.ensures.tree in
    let is = ap row_under (sym tree) in
    elim c.match-bound.branch [
      | in-Trait w ↦
          let r = trait-row old.trees b w.in-Trait.reference w.in-Trait.is fits in
          rw (w.make-is, w.value-is) (row-made old old b.vars w.in-Trait.reference.args _ _ (grows-refl old) r.0 r.1 refl (is ∙ r.2))
      | in-Projection+in_ok-value-in-Projection w ↦
          let r = projection-row old.trees b w.in-Projection.said w.in-Projection.is fits in
          let a = w.in_ok-value-in-Projection in
          rw (w.make-is, w.value-is) (row-made old (g.M.Build.context w.with_term.new.make) b.vars a.value _ _ w.with_term.ensures.grows r.0 a.ensures.sort a.ensures.trees (is ∙ r.3))
      | in-AutoTrait+in_ok-value-in-AutoTrait w ↦
          let r = auto-row old.trees b w.in-AutoTrait.field-0 w.in-AutoTrait.is fits in
          let a = w.in_ok-value-in-AutoTrait in
          rw (w.make-is, w.value-is) (row-made old (g.M.Build.context w.mk_args.new.self) b.vars a.value _ _ w.mk_args.ensures.made.kept r.0 a.ensures.made.sort a.ensures.made.tree (is ∙ r.1))
    ]

pub returns-clause-sort : goal.returns-clause-sort
returns-clause-sort g c = (made g c).0

pub returns-clause-row : goal.returns-clause-row
returns-clause-row g c = (made g c).1

pub returns-in_err-value-in-AutoTrait-clause-cause : goal.returns-in_err-value-in-AutoTrait-clause-cause
returns-in_err-value-in-AutoTrait-clause-cause g c =
    let p = err_from_is_err_and c.from_residual-in_err-value-in-AutoTrait.result c.from_residual-in_err-value-in-AutoTrait.ensures.1 in
    rw (p.1, p.2) (members-unmade [] c.mk_args.ensures.made.kept c.in_err-value-in-AutoTrait.ensures.made.cause)
