use Rattle.std.proofs.Common.{◌+◌, ◌*◌, drop, string_bytes}
use Rattle.ir_trees.specs.Syntax.Words.{ListFits, PredListFits, list_forest, pred_list_forest}
use Rattle.assembly_notation.specs.Spelling.{words}
use Rattle.assembly_notation.proofs.Printed.{IsAddedTo}
use Rattle.assembly_notation.proofs.types.Scope+Cx.+printing.Given as goal

abbrev pub decreases-spell_type : goal.decreases-spell_type
decreases-spell_type l = 5 * l.depth

abbrev pub decreases-spell_next : goal.decreases-spell_next
decreases-spell_next l = 5 * l.depth + 1

abbrev pub decreases-spell_arg : goal.decreases-spell_arg
decreases-spell_arg l = 5 * l.depth + 1

abbrev pub decreases-spell_types : goal.decreases-spell_types
decreases-spell_types l = 5 * l.depth + 2

abbrev pub decreases-spell_bound : goal.decreases-spell_bound
decreases-spell_bound l = 5 * l.depth + 3

abbrev pub decreases-spell_bounds : goal.decreases-spell_bounds
decreases-spell_bounds l = 5 * l.depth + 4

abbrev pub invariant-spell_types-loop-arg : goal.invariant-spell_types-loop-arg
invariant-spell_types-loop-arg l =
    let ts = l.self.maker.trees in
    ListFits ts l.arg-items
    × IsAddedTo (words (list_forest ts l.arg-items)) (words (list_forest ts (drop l.arg-index l.arg-items))) (string_bytes l.fn.text) (string_bytes l.text)

abbrev pub invariant-spell_bounds-loop-pred : goal.invariant-spell_bounds-loop-pred
invariant-spell_bounds-loop-pred l =
    let ts = l.self.maker.trees in
    PredListFits ts l.pred-items
    × IsAddedTo (words (pred_list_forest ts l.pred-items)) (words (pred_list_forest ts (drop l.pred-index l.pred-items))) (string_bytes l.fn.text) (string_bytes l.text)
