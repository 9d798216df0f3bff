use Rattle.std.proofs.Common.{None}
use Rattle.ir_builder.specs.Calls.Cycles.{Knows, KeepsSeen, left}
use Rattle.ir_trees.specs.Declarations.Declaring.{contents_of}
use Rattle.ir_trees.specs.Hierarchy.Supertraits.{named_supers}
use Rattle.ir_builder.proofs.decl.cycles.Search.run.Given as goal

abbrev pub invariant-loop-frame : goal.invariant-loop-frame
invariant-loop-frame l = record {
  knows : Knows (named_supers l.nodes l.definitions (contents_of l.contents)) l.self None;
  kept : KeepsSeen l.fn.self l.self;
}

-- what is left to do
abbrev pub decreases-loop-frame : goal.decreases-loop-frame
decreases-loop-frame l = left (named_supers l.nodes l.definitions (contents_of l.contents)) l.self
