use Rattle.std.proofs.Common.{◌∙◌}
use Rattle.ir_trees.proofs.Growth.Kept.{args-kept}
use Rattle.candidate_assembly.proofs.Unsizing.StructParts.{clause-still, mixed-still}
use Rattle.candidate_assembly.proofs.Unsizing.Tails.{adt-fits-still}
use Rattle.std.proofs.lemmas.Result.{err_from_is_err_and}
use Rattle.candidate_eval.proofs.Interface.Unmade.{unmade-before}
use Rattle.candidate_assembly.proofs.trait_goals.unsizing.struct_parts.Goals as goal

pub mixed_type-requires-clause-first : goal.mixed_type-requires-clause-first
mixed_type-requires-clause-first g c = (args-kept (g.M.Build.context c.args.make.now) (g.M.Build.context c.tails_unsize.new.make) c.args.from c.tails_unsize.ensures.grows c.requires.from).0

pub mixed_type-requires-clause-second : goal.mixed_type-requires-clause-second
mixed_type-requires-clause-second g c = (args-kept (g.M.Build.context c.args.make.now) (g.M.Build.context c.tails_unsize.new.make) c.args.to c.tails_unsize.ensures.grows c.requires.to).0

pub mixed_type-requires-clause-first_fit : goal.mixed_type-requires-clause-first_fit
mixed_type-requires-clause-first_fit g c =
    adt-fits-still (g.M.Build.context c.args.make.now) (g.M.Build.context c.tails_unsize.new.make) c.args.adt c.args.from c.tails_unsize.ensures.grows c.requires.from c.requires.from_fit

pub mixed_type-requires-clause-second_fit : goal.mixed_type-requires-clause-second_fit
mixed_type-requires-clause-second_fit g c =
    adt-fits-still (g.M.Build.context c.args.make.now) (g.M.Build.context c.tails_unsize.new.make) c.args.adt c.args.to c.tails_unsize.ensures.grows c.requires.to c.requires.to_fit

pub returns-clause-mixed : goal.returns-clause-mixed
returns-clause-mixed g c = (
  c.in_ok-mixed.ensures.sort,
  c.in_ok-mixed.ensures.tree ∙ mixed-still (g.M.Build.context c.args.make.now) (g.M.Build.context c.tails_unsize.new.make) c.args.adt c.args.from c.args.to c.tails_unsize.ensures.grows c.requires.from c.requires.to,
)

pub returns-clause-clause : goal.returns-clause-clause
returns-clause-clause g c =
    let k = clause-still (g.M.Build.context c.tails_unsize.new.make) (g.M.Build.context c.mixed_type.new.make) c.in_ok-clause.clause c.mixed_type.ensures.grows c.in_ok-clause.ensures.sort in
    (k.0, k.1 ∙ c.in_ok-clause.ensures.tree)

pub returns-in_err-mixed-clause-cause : goal.returns-in_err-mixed-clause-cause
returns-in_err-mixed-clause-cause g c =
    let p = err_from_is_err_and c.from_residual-in_err-mixed.result c.from_residual-in_err-mixed.ensures.1 in
    rw (p.1, p.2) (unmade-before c.tails_unsize.ensures.grows c.in_err-mixed.ensures.cause)
