use Rattle.ir_trees.proofs.Growth.Kept.{grows-trans}
use Rattle.assembly_notation.proofs.types.Scope.read_arguments.Goals as goal

pub returns-in_err-args-clause-grows : goal.returns-in_err-args-clause-grows
returns-in_err-args-clause-grows g c = grows-trans _ _ _ c.read_args.ensures.grows c.args-2.ensures.kept

pub returns-then-not-reference_fits-clause-grows : goal.returns-then-not-reference_fits-clause-grows
returns-then-not-reference_fits-clause-grows g c = grows-trans _ _ _ c.read_args.ensures.grows c.args-2.ensures.kept

pub returns-clause-grows : goal.returns-clause-grows
returns-clause-grows g c = grows-trans _ _ _ c.read_args.ensures.grows c.args-2.ensures.kept
