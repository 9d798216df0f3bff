use Rattle.std.proofs.Common.{get_or, refl, rules}
use Rattle.ir_trees.specs.declared.ir.kinds.GenericArg.{GenericArg}
use Rattle.ir_trees.specs.declared.ir.kinds.GenericArg.TheVariants as A
use Rattle.ir_trees.specs.Instantiation.Folds.{IsArg}
use Rattle.ir_trees.proofs.Growth.Made.{IsPred-listed}
use Rattle.spelling.proofs.Listed.{IsArg-listed}
use Rattle.spelling.proofs.types.Spelling.+spelling.Goals as goal

pub spell_list-spell_arg-requires : goal.spell_list-spell_arg-requires
spell_list-spell_arg-requires t c = search (rules, IsArg-listed)

pub spell_object-pred-requires : goal.spell_object-pred-requires
spell_object-pred-requires t c = IsPred-listed _ _ c.loop-bound.bound-index _ c.loop-bound-test.true c.loop-bound.invariant
