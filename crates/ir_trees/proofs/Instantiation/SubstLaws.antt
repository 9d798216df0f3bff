-- Laws of what a substitution makes.
use Rattle.std.proofs.Common.{◌≡◌, ℕ, zero, suc, ◌+◌, ◌≤◌, Bool, true, false, Option, Some, None, refl, sym, ◌∙◌, ap, arith}
use Rattle.std.specs.Prelude.{◌||◌, nat_le, if◌then◌else◌}
use Rattle.std.specs.Option.{unwrap_or}
use Rattle.ir_trees.specs.declared.ir.heads.Head.{Head}
use Rattle.ir_trees.specs.declared.ir.heads.Head.TheVariants as H
use Rattle.ir_trees.specs.declared.ir.heads.ConstHead.{ConstHead}
use Rattle.ir_trees.specs.declared.ir.heads.ConstHead.TheVariants as C
use Rattle.ir_trees.specs.declared.ir.kinds.RegionKind.{RegionKind}
use Rattle.ir_trees.specs.declared.ir.kinds.RegionKind.TheVariants as R
use Rattle.ir_trees.specs.Syntax.Trees.{Forest, none, tree, Tree, weight, heights, height, binders_of, holds, tree_holds, is_param}
use Rattle.ir_trees.specs.Unification.Substitutions.{alone}
use Rattle.ir_trees.specs.Instantiation.Folding.{fold, leaf, further, moved, shift_tree, argument, put, substituted, substituted_tree}
use Rattle.ir_trees.specs.Instantiation.Folds.{node}
use Rattle.ir_trees.proofs.Instantiation.Folding.{HeadAnswers, by_head, substituted-nothing, substituted-twice}

-- A fold by answers that are no higher than the head and so much more makes trees higher by so much at most.
module _ (f : HeadAnswers) (more : ℕ) (low : (d : ℕ) (h : Head) (u : Tree) → f d h ≡ Some u → height u ≤ weight h + more) where
  fold-height : (d : ℕ) (ts : Forest) → heights (fold (by_head f) d ts) ≤ heights ts + more
  fold-height d none = omega arith
  fold-height d (tree h below rest) =
      let first = at (f d h) refl (fold-height (d + binders_of h) below) in
      let others = fold-height d rest in
      omega (arith, first, others)
    where
      at : (o : Option Tree) → f d h ≡ o → heights (fold (by_head f) (d + binders_of h) below) ≤ heights below + more
          → height (unwrap_or o (node h (fold (by_head f) (d + binders_of h) below))) ≤ weight h + (heights below + more)
      at (Some u) e inner = let l = low d h u e in omega (arith, l)
      at None e inner = omega (arith, inner)

leaf-height : (b : Bool) (t u : Tree) → (if b then Some t else None) ≡ Some u → height u ≡ height t
leaf-height true t u q = let e : t ≡ u = cc in ap height (sym e)
leaf-height false t u q = absurd cc

moved-height : (n d : ℕ) (h : Head) (u : Tree) → moved n d h ≡ Some u → height u ≤ weight h + 0
moved-height n d (H.Bound v) u q = let e = leaf-height (nat_le d v.depth) (leaf (H.Bound (further n v))) u q in omega (arith, e)
moved-height n d (H.Const c) u q = at c q
  where
    at : (k : ConstHead) → moved n d (H.Const k) ≡ Some u → height u ≤ 1
    at (C.Bound v) q = let e = leaf-height (nat_le d v.depth) (leaf (H.Const (C.Bound (further n v)))) u q in omega (arith, e)
    at _ q = absurd cc
moved-height n d (H.Region r) u q = at r q
  where
    at : (k : RegionKind) → moved n d (H.Region k) ≡ Some u → height u ≤ 0
    at (R.Bound v) q = let e = leaf-height (nat_le d v.depth) (leaf (H.Region (R.Bound (further n v)))) u q in omega (arith, e)
    at _ q = absurd cc
moved-height n d _ u q = absurd cc

-- a shift makes nothing higher
shift-height : (n : ℕ) (t : Tree) → height (shift_tree n t) ≤ height t
shift-height n t = let l = fold-height (moved n) 0 (moved-height n) 0 (alone t) in omega (arith, l)

argument-height : (args : Forest) (i : ℕ) → height (argument args i) ≤ 1 + heights args
argument-height none i = omega arith
argument-height (tree h below rest) zero = omega arith
argument-height (tree h below rest) (suc i) = let l = argument-height rest i in omega (arith, l)

shifted-height : (args : Forest) (d i : ℕ) (u : Tree) → shift_tree d (argument args i) ≡ u → height u ≤ 1 + heights args
shifted-height args d i u e = let s = shift-height d (argument args i) in let a = argument-height args i in let h = ap height e in omega (arith, s, a, h)

put-height : (args : Forest) (d : ℕ) (h : Head) (u : Tree) → put args d h ≡ Some u → height u ≤ weight h + heights args
put-height args d (H.Param i) u q = shifted-height args d i u (let e : shift_tree d (argument args i) ≡ u = cc in e)
put-height args d (H.Const c) u q = at c q
  where
    at : (k : ConstHead) → put args d (H.Const k) ≡ Some u → height u ≤ 1 + heights args
    at (C.Param i) q = shifted-height args d i u (let e : shift_tree d (argument args i) ≡ u = cc in e)
    at _ q = absurd cc
put-height args d _ u q = absurd cc

-- The laws, of what a substitution of a row made.
module _ (args ts us : Forest) (e : us ≡ substituted args 0 ts) where
  pub row-unchanged : holds is_param ts ≡ false → us ≡ ts
  row-unchanged h = e ∙ substituted-nothing args 0 ts h

  pub row-twice : (others : Forest) → substituted others 0 us ≡ substituted (substituted others 0 args) 0 ts
  row-twice others = ap (substituted others 0) e ∙ substituted-twice args others 0 ts

  pub row-height : heights us ≤ heights ts + heights args
  row-height = let l = fold-height (put args) (heights args) (put-height args) 0 ts in let h = ap heights e in omega (arith, l, h)

-- The same of one tree.
module _ (args : Forest) (t u : Tree) (e : u ≡ substituted_tree args t) where
  abbrev first : Forest → Tree
  first none = t
  first (tree h below rest) = node h below

  rows : alone u ≡ substituted args 0 (alone t)
  rows = ap alone e

  pub tree-unchanged : tree_holds is_param t ≡ false → u ≡ t
  tree-unchanged h = ap first (row-unchanged args (alone t) (alone u) rows (one (is_param t.head) (holds is_param t.children) h))
    where
      one : (a b : Bool) → a || b ≡ false → a || (b || false) ≡ false
      one true b k = k
      one false true k = k
      one false false k = refl

  pub tree-twice : (others : Forest) → substituted_tree others u ≡ substituted_tree (substituted others 0 args) t
  tree-twice others = ap first (row-twice args (alone t) (alone u) rows others)

  pub tree-height : height u ≤ height t + heights args
  tree-height = let l = row-height args (alone t) (alone u) rows in omega (arith, l)
