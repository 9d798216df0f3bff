-- The type of the elements of arrays and slices.
use Rattle.std.proofs.Common.{◌≡◌, refl, sym, ap, ◌∙◌, List}
use Rattle.ir_trees.specs.declared.ir.kinds.Const.{Const}
use Rattle.ir_trees.specs.declared.ir.kinds.Ty.{Ty}
use Rattle.ir_trees.specs.declared.ir.kinds.TyKind.TheVariants as K
use Rattle.ir_trees.specs.Syntax.Trees.{TypeKind, Tree, none, row}
use Rattle.ir_trees.specs.Syntax.Nodes.{tree_at}
use Rattle.ir_trees.specs.Syntax.Words.{IsTy, KindFits, kind_tree, ty_tree}
use Rattle.ir_trees.proofs.Syntax.Rows.{row-single}
use Rattle.candidate_eval.specs.Dynamic.ObjectRequirements.{first_tree}

pub array-element : (ts : List Tree) (e : Ty) (n : Const) (t : Tree) → KindFits ts (K.Array e n) → kind_tree ts (K.Array e n) ≡ t → ty_tree ts e ≡ first_tree t.children
array-element ts e n t fits is =
    let k : IsTy ts e = cc in
    sym (ap first_tree (row-single ts e.0 TypeKind (row (tree_at ts n.0) none) refl refl k)) ∙ ap (λ (u : Tree). first_tree u.children) is

pub slice-element : (ts : List Tree) (e : Ty) (t : Tree) → KindFits ts (K.Slice e) → kind_tree ts (K.Slice e) ≡ t → ty_tree ts e ≡ first_tree t.children
slice-element ts e t fits is =
    let k : IsTy ts e = cc in
    sym (ap first_tree (row-single ts e.0 TypeKind none refl refl k)) ∙ ap (λ (u : Tree). first_tree u.children) is
