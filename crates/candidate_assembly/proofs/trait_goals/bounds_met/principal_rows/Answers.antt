use Rattle.candidate_assembly.proofs.Upcasting.UpcastRows.{pred-kept, rest-made, row-of-bound, row-of-kept}
use Rattle.std.proofs.lemmas.Result.{err_from_is_err_and}
use Rattle.candidate_eval.proofs.Interface.Unmade.{unmade-before}
use Rattle.candidate_assembly.proofs.trait_goals.bounds_met.principal_rows.Goals as goal

pub bound_row-requires : goal.bound_row-requires
bound_row-requires g c = (pred-kept (g.M.Build.context c.args.make.now) (g.M.Build.context c.without_self.new.make) c.args.target c.without_self.ensures.grows c.requires.target).0

pub returns-clause-source : goal.returns-clause-source
returns-clause-source g c =
    let old = g.M.Build.context c.args.make.now in
    let mid = g.M.Build.context c.without_self.new.make in
    row-of-kept mid (g.M.Build.context c.bound_row.new.make) (record { vars = c.args.principal.vars; value = c.in_ok-value.value }) _ c.bound_row.ensures.grows
    (rest-made old mid c.args.principal.vars c.args.principal.value.args c.in_ok-value.value c.without_self.ensures.grows c.requires.vars c.in_ok-value.ensures.sort c.in_ok-value.ensures.trees)

pub returns-clause-target : goal.returns-clause-target
returns-clause-target g c =
    row-of-bound (g.M.Build.context c.args.make.now) (g.M.Build.context c.without_self.new.make) (g.M.Build.context c.bound_row.new.make) c.args.target c.in_ok-target.target c.without_self.ensures.grows c.requires.target
    (c.in_ok-target.ensures.sort, c.in_ok-target.ensures.row)

pub returns-in_err-target-clause-cause : goal.returns-in_err-target-clause-cause
returns-in_err-target-clause-cause g c =
    let p = err_from_is_err_and c.from_residual-in_err-target.result c.from_residual-in_err-target.ensures.1 in
    rw (p.1, p.2) (unmade-before c.without_self.ensures.grows c.in_err-target.ensures.cause)
