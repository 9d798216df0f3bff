use Rattle.candidate_assembly.proofs.Upcasting.UpcastRows.{pred-kept, row-of-bound, row-of-kept}
use Rattle.std.proofs.lemmas.Result.{err_from_is_err_and}
use Rattle.candidate_eval.proofs.Interface.Unmade.{unmade-before}
use Rattle.candidate_assembly.proofs.trait_goals.bounds_met.bound_rows.Goals as goal

pub bound_row-requires-2 : goal.bound_row-requires-2
bound_row-requires-2 g c = (pred-kept (g.M.Build.context c.args.make.now) (g.M.Build.context c.bound_row.new.make) c.args.target c.bound_row.ensures.grows c.requires.target).0

pub returns-clause-source : goal.returns-clause-source
returns-clause-source g c =
    row-of-kept (g.M.Build.context c.bound_row.new.make) (g.M.Build.context c.bound_row-2.new.make) c.in_ok-source.source _ c.bound_row-2.ensures.grows (c.in_ok-source.ensures.sort, c.in_ok-source.ensures.row)

pub returns-clause-target : goal.returns-clause-target
returns-clause-target g c =
    row-of-bound (g.M.Build.context c.args.make.now) (g.M.Build.context c.bound_row.new.make) (g.M.Build.context c.bound_row-2.new.make) c.args.target c.in_ok-target.target c.bound_row.ensures.grows c.requires.target
    (c.in_ok-target.ensures.sort, c.in_ok-target.ensures.row)

pub returns-in_err-target-clause-cause : goal.returns-in_err-target-clause-cause
returns-in_err-target-clause-cause g c =
    let p = err_from_is_err_and c.from_residual-in_err-target.result c.from_residual-in_err-target.ensures.1 in
    rw (p.1, p.2) (unmade-before c.bound_row.ensures.grows c.in_err-target.ensures.cause)
