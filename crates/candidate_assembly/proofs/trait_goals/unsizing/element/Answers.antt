use Rattle.candidate_assembly.proofs.Unsizing.Elements.{array-element, slice-element}
use Rattle.ir_trees.specs.Syntax.Words.{ty_tree}
use Rattle.candidate_assembly.proofs.trait_goals.unsizing.element.Goals as goal

pub returns-in-Array-clause-tree : goal.returns-in-Array-clause-tree
returns-in-Array-clause-tree c = array-element c.args.cx.now.trees c.in-Array.element _ (ty_tree c.args.cx.now.trees c.args.ty) c.in-Array.ensures.fits c.in-Array.ensures.tree

pub returns-in-Array-2-clause-tree : goal.returns-in-Array-2-clause-tree
returns-in-Array-2-clause-tree c = slice-element c.args.cx.now.trees c.in-Array.element (ty_tree c.args.cx.now.trees c.args.ty) c.in-Array.ensures.fits c.in-Array.ensures.tree
