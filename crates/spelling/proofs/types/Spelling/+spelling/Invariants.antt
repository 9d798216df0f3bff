use Rattle.std.proofs.Common.{◌+◌, ◌*◌}
use Rattle.ir_trees.specs.Syntax.Words.{PredListFits}
use Rattle.spelling.proofs.types.Spelling.+spelling.Given as goal

abbrev pub decreases-spell : goal.decreases-spell
decreases-spell l = 8 * l.below.left

abbrev pub decreases-spell_arg : goal.decreases-spell_arg
decreases-spell_arg l = 8 * l.below.left + 1

abbrev pub decreases-spell_list : goal.decreases-spell_list
decreases-spell_list l = 8 * l.below.left + 2

abbrev pub decreases-spell_in_angles : goal.decreases-spell_in_angles
decreases-spell_in_angles l = 8 * l.below.left + 3

abbrev pub decreases-spell_tuple : goal.decreases-spell_tuple
decreases-spell_tuple l = 8 * l.below.left + 3

abbrev pub decreases-spell_signature : goal.decreases-spell_signature
decreases-spell_signature l = 8 * l.below.left + 3

abbrev pub decreases-spell_fn : goal.decreases-spell_fn
decreases-spell_fn l = 8 * l.below.left + 4

abbrev pub decreases-spell_unbound : goal.decreases-spell_unbound
decreases-spell_unbound l = 8 * l.below.left + 4

abbrev pub decreases-spell_bound : goal.decreases-spell_bound
decreases-spell_bound l = 8 * l.below.left + 5

abbrev pub decreases-spell_object : goal.decreases-spell_object
decreases-spell_object l = 8 * l.below.left + 6

abbrev pub decreases-spell_projection : goal.decreases-spell_projection
decreases-spell_projection l = 8 * l.below.left + 5

abbrev pub decreases-spell_alias : goal.decreases-spell_alias
decreases-spell_alias l = 8 * l.below.left + 6

abbrev pub invariant-spell_object-loop-bound : goal.invariant-spell_object-loop-bound
invariant-spell_object-loop-bound l = PredListFits l.self.cx.now.trees l.bound-items
