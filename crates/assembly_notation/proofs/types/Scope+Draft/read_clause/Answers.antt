use Rattle.ir_trees.proofs.Growth.Made.{ListFits-grows}
use Rattle.assembly_notation.proofs.types.Scope+Draft.read_clause.Goals as goal

pub projection_clause-requires-clause-list : goal.projection_clause-requires-clause-list
projection_clause-requires-clause-list c =
    ListFits-grows _ _ _ c.read_type.ensures.grows c.in_ok-list-in-Assoc.ensures.fits
