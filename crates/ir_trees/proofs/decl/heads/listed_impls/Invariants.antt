use Rattle.ir_trees.proofs.Unification.ImplLists.{ListedSoFar}
use Rattle.ir_trees.proofs.decl.heads.listed_impls.Given as goal

-- those of the traits before are listed
abbrev pub invariant-loop-of : goal.invariant-loop-of
invariant-loop-of l = ListedSoFar l.lists l.nodes l.contents.traits.items l.contents.impls.items l.of
