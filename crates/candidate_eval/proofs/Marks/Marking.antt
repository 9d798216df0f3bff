-- Marks that no head of folded trees bears, and the highest variables that trees mention.
use Rattle.std.proofs.Common.{◌≡◌, ℕ, zero, suc, ◌+◌, ◌≤◌, Bool, true, false, Option, Some, None, arith, nat_le, refl}
use Rattle.std.specs.Option.{unwrap_or}
use Rattle.std.specs.Prelude.{if◌then◌else◌}
use Rattle.ir_trees.specs.declared.ir.heads.ConstHead.{ConstHead}
use Rattle.ir_trees.specs.declared.ir.heads.ConstHead.TheVariants as C
use Rattle.ir_trees.specs.declared.ir.heads.Head.{Head}
use Rattle.ir_trees.specs.declared.ir.heads.Head.TheVariants as H
use Rattle.ir_trees.specs.declared.ir.kinds.BoundVar.{BoundVar}
use Rattle.ir_trees.specs.declared.ir.kinds.RegionKind.{RegionKind}
use Rattle.ir_trees.specs.declared.ir.kinds.RegionKind.TheVariants as R
use Rattle.ir_trees.specs.Instantiation.Folding.{fold, leaf, shift_tree, argument, further, moved}
use Rattle.ir_trees.specs.Instantiation.Folds.{node}
use Rattle.ir_trees.specs.Unification.Substitutions.{alone}
use Rattle.ir_trees.specs.Hierarchy.Supers.{after_first}
use Rattle.ir_trees.specs.Syntax.Trees.{Forest, none, tree, Tree, binders_of, holds, tree_holds, variable_number}
use Rattle.ir_trees.proofs.Instantiation.Folding.{HeadAnswers, begin, by_head}
use Rattle.candidate_eval.specs.Builtins.Callable.{all_but_last, last_tree}
use Rattle.candidate_eval.specs.Derivations.Mentions.{IsBelow, is_at_least, is_from}
use Rattle.candidate_eval.proofs.Marks.Holds.{holds_imply, holds_parts, or_false}

-- Marks that no head bears.

pub unmarked : (mark : Head → Bool) (h : Head) (below rest : Forest) → mark h ≡ false → holds mark below ≡ false → holds mark rest ≡ false → holds mark (tree h below rest) ≡ false
unmarked mark h below rest a b c = rw (a, b, c) refl

-- what is said of a tree, of it as a row
pub alone-unmarked : (mark : Head → Bool) (t : Tree) → tree_holds mark t ≡ false → holds mark (alone t) ≡ false
alone-unmarked mark t e = let p = or_false (mark t.head) (holds mark t.children) e in unmarked mark t.head t.children none p.0 p.1 refl

-- what stands in a place, if anything does, has no such mark
abbrev pub IsUnmarked : (Head → Bool) → Option Tree → Type 0
IsUnmarked mark None = Unit {0}
IsUnmarked mark (Some t) = holds mark (alone t) ≡ false

-- Answers without the other mark, put into trees without the first, which stands wherever the other does.
module _ (f : HeadAnswers) (mark other : Head → Bool) (implied : (h : Head) → mark h ≡ false → other h ≡ false)
    (answers : (d : ℕ) (h : Head) → IsUnmarked other (f d h)) where
  pub fold-unmarked : (d : ℕ) (ts : Forest) → holds mark ts ≡ false → holds other (fold (by_head f) d ts) ≡ false
  fold-unmarked d none e = refl
  fold-unmarked d (tree h below rest) e =
      let p = holds_parts mark h below rest e in
      at (f d h) (answers d h) (implied h p.here) (fold-unmarked (d + binders_of h) below p.under) (fold-unmarked d rest p.others)
    where
      at : (o : Option Tree) → IsUnmarked other o → other h ≡ false → holds other (fold (by_head f) (d + binders_of h) below) ≡ false → holds other (fold (by_head f) d rest) ≡ false
          → holds other (begin (unwrap_or o (node h (fold (by_head f) (d + binders_of h) below))) (fold (by_head f) d rest)) ≡ false
      at None n here under others = unmarked other h (fold (by_head f) (d + binders_of h) below) (fold (by_head f) d rest) here under others
      at (Some u) n here under others =
          let p = holds_parts other u.head u.children none n in
          unmarked other u.head u.children (fold (by_head f) d rest) p.here p.under others

pub but-last-unmarked : (mark : Head → Bool) (ts : Forest) → holds mark ts ≡ false → holds mark (all_but_last ts) ≡ false
but-last-unmarked mark none e = refl
but-last-unmarked mark (tree h below none) e = refl
but-last-unmarked mark (tree h below (tree g inner rest)) e =
    let p = holds_parts mark h below (tree g inner rest) e in
    unmarked mark h below (all_but_last (tree g inner rest)) p.here p.under (but-last-unmarked mark (tree g inner rest) p.others)

pub last-unmarked : (mark : Head → Bool) (ts : Forest) → mark H.Error ≡ false → holds mark ts ≡ false → holds mark (alone (last_tree ts)) ≡ false
last-unmarked mark none x e = unmarked mark H.Error none none x refl refl
last-unmarked mark (tree h below none) x e = e
last-unmarked mark (tree h below (tree g inner rest)) x e = last-unmarked mark (tree g inner rest) x (holds_parts mark h below (tree g inner rest) e).others

pub argument-unmarked : (mark : Head → Bool) (ts : Forest) (i : ℕ) → mark H.Error ≡ false → holds mark ts ≡ false → holds mark (alone (argument ts i)) ≡ false
argument-unmarked mark none i x e = unmarked mark H.Error none none x refl refl
argument-unmarked mark (tree h below rest) zero x e = let p = holds_parts mark h below rest e in unmarked mark h below none p.here p.under refl
argument-unmarked mark (tree h below rest) (suc i) x e = argument-unmarked mark rest i x (holds_parts mark h below rest e).others

pub after-unmarked : (mark : Head → Bool) (ts : Forest) → holds mark ts ≡ false → holds mark (after_first ts) ≡ false
after-unmarked mark none e = refl
after-unmarked mark (tree h below rest) e = (holds_parts mark h below rest e).others

-- A shift brings no mark, where no bound variable bears it.
module _ (mark : Head → Bool) (ty : (v : BoundVar) → mark (H.Bound v) ≡ false) (constant : (v : BoundVar) → mark (H.Const (C.Bound v)) ≡ false) (region : (v : BoundVar) → mark (H.Region (R.Bound v)) ≡ false) where
  moved-unmarked : (n d : ℕ) (h : Head) → IsUnmarked mark (moved n d h)
  moved-unmarked n d (H.Bound v) = at (nat_le d v.depth)
    where
      at : (b : Bool) → IsUnmarked mark (if b then Some (leaf (H.Bound (further n v))) else None)
      at true = unmarked mark (H.Bound (further n v)) none none (ty (further n v)) refl refl
      at false = tt
  moved-unmarked n d (H.Const c) = of c
    where
      of : (c : ConstHead) → IsUnmarked mark (moved n d (H.Const c))
      of (C.Bound v) = at (nat_le d v.depth)
        where
          at : (b : Bool) → IsUnmarked mark (if b then Some (leaf (H.Const (C.Bound (further n v)))) else None)
          at true = unmarked mark (H.Const (C.Bound (further n v))) none none (constant (further n v)) refl refl
          at false = tt
      of _ = tt
  moved-unmarked n d (H.Region r) = of r
    where
      of : (r : RegionKind) → IsUnmarked mark (moved n d (H.Region r))
      of (R.Bound v) = at (nat_le d v.depth)
        where
          at : (b : Bool) → IsUnmarked mark (if b then Some (leaf (H.Region (R.Bound (further n v)))) else None)
          at true = unmarked mark (H.Region (R.Bound (further n v))) none none (region (further n v)) refl refl
          at false = tt
      of _ = tt
  moved-unmarked n d _ = tt

  pub shift-unmarked : (n : ℕ) (t : Tree) → holds mark (alone t) ≡ false → holds mark (alone (shift_tree n t)) ≡ false
  shift-unmarked n t e = fold-unmarked (moved n) mark mark (λ h m. m) (moved-unmarked n) 0 (alone t) e

-- Numbers of variables.

higher : (n m k : ℕ) → n ≤ m → nat_le n k ≡ false → nat_le m k ≡ false
higher n m k l e = grind (arith, l, e)

from-higher : (n m : ℕ) → n ≤ m → (h : Head) → is_from n h ≡ false → is_from m h ≡ false
from-higher n m l h e = at (variable_number h) e
  where
    at : (o : Option ℕ) → is_at_least n o ≡ false → is_at_least m o ≡ false
    at None e = refl
    at (Some k) e = higher n m k l e

-- what mentions no variable from a number on mentions none from a higher one on
pub below-more : (n m : ℕ) (ts : Forest) → n ≤ m → IsBelow n ts → IsBelow m ts
below-more n m ts l e = holds_imply (is_from n) (is_from m) (from-higher n m l) ts e

pub below-shifted : (n d : ℕ) (t : Tree) → IsBelow n (alone t) → IsBelow n (alone (shift_tree d t))
below-shifted n d t e = shift-unmarked (is_from n) (λ v. refl) (λ v. refl) (λ v. refl) d t e
