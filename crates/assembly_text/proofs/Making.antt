-- What is of a context while nodes are made: one after the other, to be printed.
use Rattle.ir_trees.proofs.Growth.Kept.{grows-trans}
use Rattle.ir_trees.proofs.Growth.Made.{IsArgs-grows, IsTy-grows}

pub ruleset making = (IsTy-grows, IsArgs-grows, grows-trans)
