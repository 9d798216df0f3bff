-- What is of a context while nodes are made: the tests make several, one after the other.
use Rattle.ir_trees.proofs.Growth.Kept.{grows-trans}
use Rattle.ir_trees.proofs.Growth.Made.{IsArgs-grows, IsRegion-grows, IsTy-grows, IsVars-grows}

pub ruleset making = (IsTy-grows, IsArgs-grows, IsRegion-grows, IsVars-grows, grows-trans)
