use Rattle.std.proofs.Common.{◌≡◌, Some}
use Rattle.ir_trees.specs.Syntax.Words.{clause_tree}
use Rattle.overlaps.specs.PartTraits.{Adds, trait_spoken_of}
use Rattle.overlaps.proofs.PartTraits.{Before}
use Rattle.overlaps.proofs.auto.add_traits.Given as goal

-- the traits of the clauses so far were added
abbrev pub invariant-loop-number : goal.invariant-loop-number
invariant-loop-number l =
    let c = l.fn.cx in Adds (Before (λ x t. trait_spoken_of c (clause_tree c.trees x).head ≡ Some t) l.fn.clauses (record { 0 = 0 }) l.number) l.fn.traits.items l.traits.items
