-- A variable, a placeholder or a bound variable among the types of a tree.
use Rattle.std.proofs.Common.{◌≡◌, Bool, true, false, refl, ◌∙◌, ap}
use Rattle.std.specs.Prelude.{◌||◌}
use Rattle.ir_trees.specs.declared.ir.heads.Head.{Head}
use Rattle.ir_trees.specs.declared.ir.heads.Head.TheVariants as H
use Rattle.ir_trees.specs.declared.ir.heads.VariableSort.{VariableSort}
use Rattle.ir_trees.specs.declared.ir.heads.VariableSort.TheVariants as V
use Rattle.ir_trees.specs.declared.ir.heads.Flag.TheVariants as F
use Rattle.ir_trees.specs.Syntax.Flags.{mark, of_type}
use Rattle.ir_trees.specs.Syntax.Trees.{Forest, none, tree, Tree, holds, tree_holds, is_loose, is_type_kind, sort_kind}

sides : (a b c d : Bool) → (a || b) || (c || d) ≡ (a || c) || (b || d)
sides true b c d = refl
sides false true true d = refl
sides false true false d = refl
sides false false true d = refl
sides false false false d = refl

-- a mark that is one of two
holds-or : (p q : Head → Bool) (f : Forest) → holds (λ h. p h || q h) f ≡ holds p f || holds q f
holds-or p q none = refl
holds-or p q (tree h below rest) =
    let e = holds-or p q below in let g = holds-or p q rest in
    ap (λ (x : Bool). (p h || q h) || (x || holds (λ h. p h || q h) rest)) e
    ∙ (ap (λ (x : Bool). (p h || q h) || ((holds p below || holds q below) || x)) g
    ∙ (ap (λ (x : Bool). (p h || q h) || x) (sides (holds p below) (holds q below) (holds p rest) (holds q rest))
    ∙ sides (p h) (q h) (holds p below || holds p rest) (holds q below || holds q rest)))

tree_holds-or : (p q : Head → Bool) (t : Tree) → tree_holds (λ h. p h || q h) t ≡ tree_holds p t || tree_holds q t
tree_holds-or p q t =
    ap (λ (x : Bool). (p t.head || q t.head) || x) (holds-or p q t.children)
    ∙ sides (p t.head) (q t.head) (holds p t.children) (holds q t.children)

holds-same : (p q : Head → Bool) → ((h : Head) → p h ≡ q h) → (f : Forest) → holds p f ≡ holds q f
holds-same p q e none = refl
holds-same p q e (tree h below rest) =
    let a = e h in let b = holds-same p q e below in let c = holds-same p q e rest in cc

of-sort : (s : VariableSort) → is_type_kind (sort_kind s) ≡ of_type s || false
of-sort V.Constant = refl
of-sort V.General = refl
of-sort V.Integer = refl
of-sort V.Floating = refl

loose : (h : Head) → is_loose h ≡ mark F.TyInfer h || (mark F.TyPlaceholder h || mark F.TyBound h)
loose (H.Infer v) = of-sort v.sort
loose (H.Placeholder p) = refl
loose (H.Bound v) = refl
loose _ = refl

pub loose_is : (t : Tree) → tree_holds is_loose t ≡ tree_holds (mark F.TyInfer) t || (tree_holds (mark F.TyPlaceholder) t || tree_holds (mark F.TyBound) t)
loose_is t =
    let a = loose t.head in
    let b = holds-same is_loose (λ h. mark F.TyInfer h || (mark F.TyPlaceholder h || mark F.TyBound h)) loose t.children in
    let same : tree_holds is_loose t ≡ tree_holds (λ h. mark F.TyInfer h || (mark F.TyPlaceholder h || mark F.TyBound h)) t = cc in
    same
    ∙ (tree_holds-or (mark F.TyInfer) (λ h. mark F.TyPlaceholder h || mark F.TyBound h) t
    ∙ ap (λ (x : Bool). tree_holds (mark F.TyInfer) t || x) (tree_holds-or (mark F.TyPlaceholder) (mark F.TyBound) t))
