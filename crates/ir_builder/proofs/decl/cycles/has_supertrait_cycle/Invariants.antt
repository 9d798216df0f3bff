use Rattle.std.proofs.Common.{◌≡◌, ℕ, ◌<◌, Some, None, [], length}
use Rattle.ir_builder.specs.declared.decl.cycles.Visit.TheVariants.{Unseen}
use Rattle.ir_builder.specs.Calls.Cycles.{Knows, visit_of}
use Rattle.ir_trees.specs.Declarations.Declaring.{contents_of}
use Rattle.ir_trees.specs.Hierarchy.Supertraits.{named_supers}
use Rattle.ir_builder.proofs.decl.cycles.has_supertrait_cycle.Given as goal

-- the search is in no trait, and all before are seen
abbrev pub invariant-loop-number : goal.invariant-loop-number
invariant-loop-number l = record {
  knows : Knows (named_supers l.nodes l.definitions (contents_of l.contents)) l.search None;
  ended : l.search.frames ≡ [];
  all : length l.search.visits ≡ length l.definitions;
  seen : (i : ℕ) → i < l.number → visit_of l.search i ≡ Some Unseen → ⊥;
}
