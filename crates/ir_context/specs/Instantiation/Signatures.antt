-- The signature of a function whose parameters are given arguments.
use Rattle.std.specs.Prelude.{◌≡◌, false, List}
use Rattle.ir_trees.specs.declared.ir.kinds.Binder.{Binder}
use Rattle.ir_trees.specs.declared.ir.kinds.FnSig.{FnSig}
use Rattle.ir_trees.specs.Instantiation.Folding.{lacks_argument}
use Rattle.ir_trees.specs.Syntax.Nodes.{tree_at}
use Rattle.ir_trees.specs.Syntax.Trees.{Forest, Tree, tree_holds}

-- Each parameter in the signature has one of the arguments.
pub record SignatureHas (ts : List Tree) (args : Forest) (s : Binder FnSig) : Type 0 where
  pub vars : tree_holds (lacks_argument args) (tree_at ts s.vars.0) ≡ false
  pub inputs : tree_holds (lacks_argument args) (tree_at ts s.value.inputs.0) ≡ false
  pub output : tree_holds (lacks_argument args) (tree_at ts s.value.output.0) ≡ false
