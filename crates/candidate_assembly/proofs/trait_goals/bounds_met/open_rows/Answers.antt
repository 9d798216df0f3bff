use Rattle.std.proofs.Common.{ap, refl, subst, sym, ◌∙◌}
use Rattle.std.proofs.lemmas.Result.{err_from_is_err_and}
use Rattle.ir_trees.specs.Instantiation.Opening.{opened}
use Rattle.ir_trees.proofs.Growth.Kept.{args-kept}
use Rattle.candidate_eval.specs.Judges.States.{State, fresh_variables, with_fresh_variables}
use Rattle.candidate_assembly.specs.Calls.Upcasting.{Row, row_at}
use Rattle.candidate_eval.proofs.Interface.Accounts.{reaches, somehow, somehow-later}
use Rattle.candidate_eval.proofs.Interface.Probing.{then}
use Rattle.candidate_assembly.proofs.Upcasting.UpcastRows.{row-kept}
use Rattle.candidate_eval.specs.Interface.Unmade.{IsMade}
use Rattle.candidate_eval.specs.Interface.Unmade.IsMade.{under_binder}
use Rattle.candidate_eval.specs.Interface.Unmade.AreValues.{rigid, variables}
use Rattle.candidate_assembly.proofs.trait_goals.bounds_met.open_rows.Goals as goal

pub returns-in_err-entered-clause-cause : goal.returns-in_err-entered-clause-cause
returns-in_err-entered-clause-cause g c =
    let p = err_from_is_err_and c.from_residual.result c.from_residual.ensures.1 in
    rw (p.1, p.2) (somehow (reaches c.in_err-entered.ensures.kept) (λ ts e. subst (IsMade _) (sym e) (under_binder c.args.target.value.0 (rigid (g.E.EvalCtxt.state c.args.ecx.now) _))) c.in_err-entered.ensures.cause)

pub instantiate_binder_with_infer-requires-clause-vars : goal.instantiate_binder_with_infer-requires-clause-vars
instantiate_binder_with_infer-requires-clause-vars g c =
    (row-kept (g.E.Build.context c.args.ecx.now) (g.E.Build.context c.enter_binder.new.ecx) c.args.source c.enter_binder.ensures.kept.grows c.requires.source).0.0

pub instantiate_binder_with_infer-requires-clause-under : goal.instantiate_binder_with_infer-requires-clause-under
instantiate_binder_with_infer-requires-clause-under g c =
    (row-kept (g.E.Build.context c.args.ecx.now) (g.E.Build.context c.enter_binder.new.ecx) c.args.source c.enter_binder.ensures.kept.grows c.requires.source).0.1

pub returns-in_err-instance-clause-kept : goal.returns-in_err-instance-clause-kept
returns-in_err-instance-clause-kept g c = then c.enter_binder.ensures.kept c.instantiate_binder_with_infer.ensures.kept

pub returns-in_err-instance-clause-cause : goal.returns-in_err-instance-clause-cause
returns-in_err-instance-clause-cause g c =
    let p = err_from_is_err_and c.from_residual-in_err-instance.result c.from_residual-in_err-instance.ensures.1 in
    rw (p.1, p.2) (somehow-later (reaches c.enter_binder.ensures.kept) (somehow (reaches c.in_err-instance.ensures.kept) (λ ts e. subst (IsMade _) (sym e) (under_binder c.args.source.value.0 (variables (g.E.EvalCtxt.state c.enter_binder.new.ecx) _))) c.in_err-instance.ensures.cause))

pub returns-clause-kept : goal.returns-clause-kept
returns-clause-kept g c = then c.enter_binder.ensures.kept c.instantiate_binder_with_infer.ensures.kept

pub returns-clause-state : goal.returns-clause-state
returns-clause-state g c =
    let E = g.E.EvalCtxt in
    let old = g.E.Build.context c.args.ecx.now in
    let mid = c.enter_binder.new.ecx in
    let same = (row-kept old (g.E.Build.context mid) c.args.source c.enter_binder.ensures.kept.grows c.requires.source).1 in
    c.in_ok-instance.ensures.state
    ∙ (ap (λ (r : Row). with_fresh_variables (E.state mid) r.kinds) same ∙ ap (λ (S : State). with_fresh_variables S (row_at old.trees c.args.source).kinds) c.in_ok-entered.ensures.state)

pub returns-clause-source : goal.returns-clause-source
returns-clause-source g c =
    let E = g.E.EvalCtxt in
    let old = g.E.Build.context c.args.ecx.now in
    let mid = c.enter_binder.new.ecx in
    let same = (row-kept old (g.E.Build.context mid) c.args.source c.enter_binder.ensures.kept.grows c.requires.source).1 in
    let row = row_at old.trees c.args.source in (
      c.in_ok-instance.ensures.sort,
      c.in_ok-instance.ensures.list refl
          ∙ (ap (λ (r : Row). opened (fresh_variables (E.state mid) r.kinds) r.trees) same ∙ ap (λ (S : State). opened (fresh_variables S row.kinds) row.trees) c.in_ok-entered.ensures.state),
    )

pub returns-clause-target : goal.returns-clause-target
returns-clause-target g c =
    let kept = args-kept (g.E.Build.context c.enter_binder.new.ecx) (g.E.Build.context c.instantiate_binder_with_infer.new.ecx) c.in_ok-entered.entered c.instantiate_binder_with_infer.ensures.kept.grows c.in_ok-entered.ensures.sort in
    (kept.0, kept.1 ∙ c.in_ok-entered.ensures.list refl)
