-- What is declared mentions no variable, so none from any number on; and what stood under a binder, over a context that has grown.
use Rattle.std.proofs.Common.{◌≡◌, ℕ, List, false, Option, Some, None, refl, ◌∙◌, ap}
use Rattle.ir_trees.specs.Syntax.Nodes.{tree_at}
use Rattle.ir_trees.specs.Instantiation.Opening.{opened, opened_tree}
use Rattle.ir_trees.specs.Instantiation.Owned.{is_numbered, is_unsolved}
use Rattle.ir_trees.specs.Unification.Substitutions.{alone}
use Rattle.ir_trees.specs.Syntax.Trees.{Forest, none, row, tree, Tree, holds, tree_holds, variable_number}
use Rattle.ir_trees.proofs.Instantiation.Folding.{or-left, or-right}
use Rattle.ir_context.proofs.Instantiation.Owned.{or-none}
use Rattle.candidate_eval.specs.Derivations.Mentions.{IsBelow, is_at_least}

number-below : (n : ℕ) (o : Option ℕ) → is_numbered o ≡ false → is_at_least n o ≡ false
number-below n None e = refl
number-below n (Some m) e = absurd cc

pub unsolved-below : (n : ℕ) (ts : Forest) → holds is_unsolved ts ≡ false → IsBelow n ts
unsolved-below n none e = refl
unsolved-below n (tree h below rest) e =
    let inner = or-right _ _ e in
    or-none _ _ (number-below n (variable_number h) (or-left _ _ e)) (or-none _ _ (unsolved-below n below (or-left _ _ inner)) (unsolved-below n rest (or-right _ _ inner)))

pub unsolved-tree-below : (n : ℕ) (t : Tree) → tree_holds is_unsolved t ≡ false → IsBelow n (alone t)
unsolved-tree-below n t e =
    or-none _ _ (number-below n (variable_number t.head) (or-left _ _ e)) (or-none _ _ (unsolved-below n t.children (or-right _ _ e)) refl)

pub opened-kept : (old mid : List Tree) (n : ℕ) (v w : Forest) (t : Tree) → v ≡ w → tree_at mid n ≡ tree_at old n → t ≡ opened_tree v (tree_at mid n) → t ≡ opened_tree w (tree_at old n)
opened-kept old mid n v w t f s e = e ∙ (ap (λ (x : Forest). opened_tree x (tree_at mid n)) f ∙ ap (opened_tree w) s)

pub opened-row-kept : (old mid : List Tree) (n : ℕ) (v w : Forest) → v ≡ w → tree_at mid n ≡ tree_at old n → opened v (row (tree_at mid n) none) ≡ opened w (row (tree_at old n) none)
opened-row-kept old mid n v w f s = ap (λ (x : Forest). opened x (row (tree_at mid n) none)) f ∙ ap (λ (x : Tree). opened w (row x none)) s

pub opened-list-kept : (old mid : List Tree) (n : ℕ) (v w ts : Forest) → v ≡ w → tree_at mid n ≡ tree_at old n → ts ≡ opened v (tree_at mid n).children
    → ts ≡ opened w (tree_at old n).children
opened-list-kept old mid n v w ts f s e = e ∙ (ap (λ (x : Forest). opened x (tree_at mid n).children) f ∙ ap (λ (x : Tree). opened w x.children) s)
