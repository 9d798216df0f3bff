-- What looks for parameters or variables leaves trees without them as they are, and finds nothing there.
use Rattle.std.proofs.Common.{◌≡◌, ℕ, ◌+◌, Bool, true, false, Option, None, refl, sym, ◌∙◌, ap}
use Rattle.std.specs.Prelude.{◌-◌, ◌||◌}
use Rattle.std.specs.Option.{unwrap_or}
use Rattle.ir_trees.specs.declared.ir.heads.Flag.{Flag}
use Rattle.ir_trees.specs.declared.ir.heads.Flag.TheVariants as F
use Rattle.ir_trees.specs.declared.ir.heads.Marks.{Marks}
use Rattle.ir_trees.specs.declared.ir.heads.Head.{Head}
use Rattle.ir_trees.specs.declared.ir.heads.Head.TheVariants as H
use Rattle.ir_trees.specs.declared.ir.heads.ConstHead.{ConstHead}
use Rattle.ir_trees.specs.declared.ir.heads.ConstHead.TheVariants as C
use Rattle.ir_trees.specs.declared.ir.heads.VariableSort.{VariableSort}
use Rattle.ir_trees.specs.declared.ir.heads.VariableSort.TheVariants as V
use Rattle.ir_trees.specs.declared.ir.kinds.RegionKind.{RegionKind}
use Rattle.ir_trees.specs.declared.ir.kinds.RegionKind.TheVariants as R
use Rattle.ir_trees.specs.Hierarchy.Elaboration.{instance_below, instance_head}
use Rattle.ir_trees.specs.Instantiation.Folding.{Answers, fold, fold_tree, lacks_argument, moved, put_if_there, shift_tree, substituted, substituted_tree}
use Rattle.ir_trees.specs.Instantiation.Opening.{is_bound_variable, opened, opened_below, opened_head, opened_tree}
use Rattle.ir_trees.specs.Instantiation.Owned.{is_unsolved}
use Rattle.ir_trees.specs.Syntax.Binders.{escapes, is_beyond, tree_escapes}
use Rattle.ir_trees.specs.Syntax.Flags.{mark, of_constant, of_type}
use Rattle.ir_trees.specs.Syntax.Marks.{AreMarks, marked}
use Rattle.ir_trees.specs.Syntax.Trees.{Forest, none, tree, Tree, binders_of, holds, is_number, is_param, tree_holds}
use Rattle.ir_trees.specs.Unification.Substitutions.{is_made, is_placeholder_above}
use Rattle.ir_trees.proofs.Instantiation.Folding.{fold-nothing, or-left, or-right, substituted-nothing}
use Rattle.ir_trees.proofs.Instantiation.SubstLaws.{tree-unchanged}

-- the same of one tree
tree-nothing : (f : Answers) (mark : Head → Bool) → ((d : ℕ) (t : Tree) → mark t.head ≡ false → f d t ≡ None)
    → (d : ℕ) (t : Tree) → tree_holds mark t ≡ false → fold_tree f d t ≡ t
tree-nothing f mark quiet d t e =
    let kept : Tree = record { head = t.head; children = fold f (d + binders_of t.head) t.children } in
    ap (λ (o : Option Tree). unwrap_or o kept) (quiet d t (or-left (mark t.head) (holds mark t.children) e))
    ∙ ap (λ (b : Forest). let u : Tree = record { head = t.head; children = b } in u) (fold-nothing f mark quiet (d + binders_of t.head) t.children (or-right (mark t.head) (holds mark t.children) e))

pub subst-quiet : (args : Forest) (t : Tree) → tree_holds is_param t ≡ false → (substituted_tree args t ≡ t) × (substituted args 0 t.children ≡ t.children)
subst-quiet args t e =
    let below = substituted-nothing args in
    (tree-unchanged args t (substituted_tree args t) refl e, below 0 t.children (or-right (is_param t.head) (holds is_param t.children) e))

-- what isn't bound has no answer
moved-none : (n d : ℕ) (h : Head) → is_bound_variable h ≡ false → moved n d h ≡ None
moved-none n d (H.Bound v) e = absurd cc
moved-none n d (H.Const c) e = at c e
  where
    at : (k : ConstHead) → is_bound_variable (H.Const k) ≡ false → moved n d (H.Const k) ≡ None
    at (C.Bound v) f = absurd cc
    at _ f = refl
moved-none n d (H.Region r) e = at r e
  where
    at : (k : RegionKind) → is_bound_variable (H.Region k) ≡ false → moved n d (H.Region k) ≡ None
    at (R.Bound v) f = absurd cc
    at _ f = refl
moved-none n d _ e = refl

opened-none : (values : Forest) (d : ℕ) (h : Head) → is_bound_variable h ≡ false → opened_head values d h ≡ None
opened-none values d (H.Bound v) e = absurd cc
opened-none values d (H.Const c) e = at c e
  where
    at : (k : ConstHead) → is_bound_variable (H.Const k) ≡ false → opened_head values d (H.Const k) ≡ None
    at (C.Bound v) f = absurd cc
    at _ f = refl
opened-none values d (H.Region r) e = at r e
  where
    at : (k : RegionKind) → is_bound_variable (H.Region k) ≡ false → opened_head values d (H.Region k) ≡ None
    at (R.Bound v) f = absurd cc
    at _ f = refl
opened-none values d _ e = refl

instance-none : (args : Forest) (n d : ℕ) (h : Head) → is_param h ≡ false → is_bound_variable h ≡ false → instance_head args n d h ≡ None
instance-none args n d (H.Bound v) p e = absurd cc
instance-none args n d (H.Param i) p e = absurd cc
instance-none args n d (H.Const c) p e = at c p e
  where
    at : (k : ConstHead) → is_param (H.Const k) ≡ false → is_bound_variable (H.Const k) ≡ false → instance_head args n d (H.Const k) ≡ None
    at (C.Bound v) q f = absurd cc
    at (C.Param i) q f = absurd cc
    at _ q f = refl
instance-none args n d (H.Region r) p e = at r e
  where
    at : (k : RegionKind) → is_bound_variable (H.Region k) ≡ false → instance_head args n d (H.Region k) ≡ None
    at (R.Bound v) f = absurd cc
    at _ f = refl
instance-none args n d _ p e = refl

pub shift-quiet : (n : ℕ) (t : Tree) → tree_holds is_bound_variable t ≡ false → shift_tree n t ≡ t
shift-quiet n t e = tree-nothing (λ d u. moved n d u.head) is_bound_variable (λ d u. moved-none n d u.head) 0 t e

pub opened-quiet : (values : Forest) (t : Tree) → tree_holds is_bound_variable t ≡ false → (opened_tree values t ≡ t) × (opened values t.children ≡ t.children)
opened-quiet values t e = (
  tree-nothing (λ d u. opened_head values d u.head) is_bound_variable (λ d u. opened-none values d u.head) 0 t e,
  fold-nothing (λ d u. opened_head values d u.head) is_bound_variable (λ d u. opened-none values d u.head) 0 t.children (or-right (is_bound_variable t.head) (holds is_bound_variable t.children) e),
)

pub opened_below-quiet : (values : Forest) (t : Tree) → tree_holds is_bound_variable t ≡ false → opened_below values t ≡ t
opened_below-quiet values t e = tree-nothing (λ d u. opened_head values (d - 1) u.head) is_bound_variable (λ d u. opened-none values (d - 1) u.head) 0 t e

or-swap : (a b c d : Bool) → (a || b) || (c || d) ≡ (a || c) || (b || d)
or-swap true b c d = refl
or-swap false true true d = refl
or-swap false true false d = refl
or-swap false false c d = refl

-- what one mark or another is on
holds-or : (p q : Head → Bool) (ts : Forest) → holds (λ h. p h || q h) ts ≡ holds p ts || holds q ts
holds-or p q none = refl
holds-or p q (tree h below rest) =
    let x = holds-or p q below in
    let y = holds-or p q rest in
    ap (λ (b : Bool). (p h || q h) || (b || holds (λ g. p g || q g) rest)) x
    ∙ (ap (λ (b : Bool). (p h || q h) || ((holds p below || holds q below) || b)) y
    ∙ (ap (λ (b : Bool). (p h || q h) || b) (or-swap (holds p below) (holds q below) (holds p rest) (holds q rest))
    ∙ or-swap (p h) (q h) (holds p below || holds p rest) (holds q below || holds q rest)))

tree-or : (p q : Head → Bool) (t : Tree) → tree_holds (λ h. p h || q h) t ≡ tree_holds p t || tree_holds q t
tree-or p q t =
    ap (λ (b : Bool). (p t.head || q t.head) || b) (holds-or p q t.children) ∙ or-swap (p t.head) (q t.head) (holds p t.children) (holds q t.children)

pub instance-quiet : (args : Forest) (n : ℕ) (t : Tree) → tree_holds is_param t ≡ false → tree_holds is_bound_variable t ≡ false → instance_below args n t ≡ t
instance-quiet args n t e f =
    tree-nothing (λ d u. instance_head args n (d - 1) u.head) (λ h. is_param h || is_bound_variable h)
    (λ d u q. instance-none args n (d - 1) u.head (or-left (is_param u.head) (is_bound_variable u.head) q) (or-right (is_param u.head) (is_bound_variable u.head) q)) 0 t
    (tree-or is_param is_bound_variable t ∙ (ap (λ (b : Bool). b || tree_holds is_bound_variable t) e ∙ f))

-- a bound variable is one of a type, a constant or a region
bound-marks : (h : Head) → (mark F.TyBound h || (mark F.RegionBound h || mark F.ConstBound h)) ≡ is_bound_variable h
bound-marks (H.Const c) = at c
  where
    at : (k : ConstHead) → (mark F.TyBound (H.Const k) || (mark F.RegionBound (H.Const k) || mark F.ConstBound (H.Const k))) ≡ is_bound_variable (H.Const k)
    at (C.Bound v) = refl
    at _ = refl
bound-marks (H.Region r) = at r
  where
    at : (k : RegionKind) → (mark F.TyBound (H.Region k) || (mark F.RegionBound (H.Region k) || mark F.ConstBound (H.Region k))) ≡ is_bound_variable (H.Region k)
    at (R.Bound v) = refl
    at _ = refl
bound-marks (H.Bound v) = refl
bound-marks _ = refl

marks-tree : (p q r s : Head → Bool) → ((h : Head) → (p h || (q h || r h)) ≡ s h) → (t : Tree) → tree_holds p t || (tree_holds q t || tree_holds r t) ≡ tree_holds s t
marks-tree p q r s e t =
    ap (λ (b : Bool). tree_holds p t || b) (sym (tree-or q r t)) ∙ (sym (tree-or p (λ h. q h || r h) t) ∙ (λ i. tree_holds (λ h. e h i) t))

pub bound-tree : (t : Tree) → tree_holds (mark F.TyBound) t || (tree_holds (mark F.RegionBound) t || tree_holds (mark F.ConstBound) t) ≡ tree_holds is_bound_variable t
bound-tree t = marks-tree (mark F.TyBound) (mark F.RegionBound) (mark F.ConstBound) is_bound_variable bound-marks t

-- so is a variable to be solved
sort-marks : (s : VariableSort) → of_type s || (false || of_constant s) ≡ true
sort-marks V.Constant = refl
sort-marks _ = refl

variable-marks : (h : Head) → (mark F.TyInfer h || (mark F.RegionInfer h || mark F.ConstInfer h)) ≡ is_unsolved h
variable-marks (H.Infer v) = sort-marks v.sort
variable-marks (H.Region r) = at r
  where
    at : (k : RegionKind) → (mark F.TyInfer (H.Region k) || (mark F.RegionInfer (H.Region k) || mark F.ConstInfer (H.Region k))) ≡ is_unsolved (H.Region k)
    at (R.Var v) = refl
    at _ = refl
variable-marks _ = refl

-- where one mark stands nowhere, none that implies it does
holds-fewer : (p q : Head → Bool) → ((h : Head) → p h ≡ false → q h ≡ false) → (ts : Forest) → holds p ts ≡ false → holds q ts ≡ false
holds-fewer p q less none e = refl
holds-fewer p q less (tree h below rest) e =
    let inner = or-right (p h) (holds p below || holds p rest) e in
    ap (λ (b : Bool). b || (holds q below || holds q rest)) (less h (or-left (p h) (holds p below || holds p rest) e))
    ∙ (ap (λ (b : Bool). b || holds q rest) (holds-fewer p q less below (or-left (holds p below) (holds p rest) inner))
    ∙ holds-fewer p q less rest (or-right (holds p below) (holds p rest) inner))

tree-fewer : (p q : Head → Bool) → ((h : Head) → p h ≡ false → q h ≡ false) → (t : Tree) → tree_holds p t ≡ false → tree_holds q t ≡ false
tree-fewer p q less t e =
    ap (λ (b : Bool). b || holds q t.children) (less t.head (or-left (p t.head) (holds p t.children) e)) ∙ holds-fewer p q less t.children (or-right (p t.head) (holds p t.children) e)

lacks-none : (args : Forest) (h : Head) → is_param h ≡ false → lacks_argument args h ≡ false
lacks-none args (H.Param i) e = absurd cc
lacks-none args (H.Const c) e = at c e
  where
    at : (k : ConstHead) → is_param (H.Const k) ≡ false → lacks_argument args (H.Const k) ≡ false
    at (C.Param i) f = absurd cc
    at _ f = refl
lacks-none args _ e = refl

pub lacks-quiet : (args : Forest) (t : Tree) → tree_holds is_param t ≡ false → tree_holds (lacks_argument args) t ≡ false
lacks-quiet args t e = tree-fewer is_param (lacks_argument args) (lacks-none args) t e

-- so is a placeholder
abbrev is_placeholder : Head → Bool
is_placeholder h = mark F.TyPlaceholder h || (mark F.RegionPlaceholder h || mark F.ConstPlaceholder h)

-- what is kept of a tree says where none of them stands
kept-none : (m : Marks) (f g k : Flag) (t : Tree) (b : Bool) → AreMarks m t → b ≡ marked m f || (marked m g || marked m k) → b ≡ false
    → tree_holds (λ h. mark f h || (mark g h || mark k h)) t ≡ false
kept-none m f g k t b a e n =
    sym (marks-tree (mark f) (mark g) (mark k) (λ h. mark f h || (mark g h || mark k h)) (λ h. refl) t)
    ∙ ((λ i. sym (a f) i || (sym (a g) i || sym (a k) i)) ∙ (sym e ∙ n))

pub variable-kept : (m : Marks) (t : Tree) (b : Bool) → AreMarks m t → b ≡ marked m F.TyInfer || (marked m F.RegionInfer || marked m F.ConstInfer) → b ≡ false → tree_holds is_unsolved t ≡ false
variable-kept m t b a e n = (λ i. tree_holds (λ h. sym (variable-marks h) i) t) ∙ kept-none m F.TyInfer F.RegionInfer F.ConstInfer t b a e n

above-none : (u : ℕ) (h : Head) → is_placeholder h ≡ false → is_placeholder_above u h ≡ false
above-none u (H.Placeholder v) e = absurd cc
above-none u (H.Const c) e = at c e
  where
    at : (k : ConstHead) → (mark F.TyPlaceholder (H.Const k) || (mark F.RegionPlaceholder (H.Const k) || mark F.ConstPlaceholder (H.Const k))) ≡ false → is_placeholder_above u (H.Const k) ≡ false
    at (C.Placeholder v) f = absurd cc
    at _ f = refl
above-none u _ e = refl

made-none : (h : Head) → is_unsolved h ≡ false → is_placeholder h ≡ false → is_made h ≡ false
made-none (H.Infer v) e p = absurd cc
made-none (H.Placeholder v) e p = absurd cc
made-none (H.Const c) e p = at c p
  where
    at : (k : ConstHead) → (mark F.TyPlaceholder (H.Const k) || (mark F.RegionPlaceholder (H.Const k) || mark F.ConstPlaceholder (H.Const k))) ≡ false → is_made (H.Const k) ≡ false
    at (C.Placeholder v) f = absurd cc
    at _ f = refl
made-none (H.Region r) e p = at r e p
  where
    at : (k : RegionKind) → is_unsolved (H.Region k) ≡ false → (mark F.TyPlaceholder (H.Region k) || (mark F.RegionPlaceholder (H.Region k) || mark F.ConstPlaceholder (H.Region k))) ≡ false → is_made (H.Region k) ≡ false
    at (R.Var v) f q = absurd cc
    at (R.Placeholder v) f q = absurd cc
    at _ f q = refl
made-none _ e p = refl

pub placeholder-kept : (m : Marks) (u : ℕ) (t : Tree) (b : Bool) → AreMarks m t → b ≡ marked m F.TyPlaceholder || (marked m F.RegionPlaceholder || marked m F.ConstPlaceholder) → b ≡ false
    → tree_holds (is_placeholder_above u) t ≡ false
placeholder-kept m u t b a e n = tree-fewer is_placeholder (is_placeholder_above u) (above-none u) t (kept-none m F.TyPlaceholder F.RegionPlaceholder F.ConstPlaceholder t b a e n)

pub made-kept : (m : Marks) (t : Tree) (b d : Bool) → AreMarks m t → b ≡ marked m F.TyInfer || (marked m F.RegionInfer || marked m F.ConstInfer) → b ≡ false
    → d ≡ marked m F.TyPlaceholder || (marked m F.RegionPlaceholder || marked m F.ConstPlaceholder) → d ≡ false → tree_holds is_made t ≡ false
made-kept m t b d a e n f k =
    tree-fewer (λ h. is_unsolved h || is_placeholder h) is_made
    (λ h q. made-none h (or-left (is_unsolved h) (is_placeholder h) q) (or-right (is_unsolved h) (is_placeholder h) q)) t
    (tree-or is_unsolved is_placeholder t ∙ (ap (λ (x : Bool). x || tree_holds is_placeholder t) (variable-kept m t b a e n)
    ∙ kept-none m F.TyPlaceholder F.RegionPlaceholder F.ConstPlaceholder t d a f k))

number-none : (n : ℕ) (h : Head) → is_unsolved h ≡ false → is_number n h ≡ false
number-none n (H.Infer v) e = absurd cc
number-none n (H.Region r) e = at r e
  where
    at : (k : RegionKind) → is_unsolved (H.Region k) ≡ false → is_number n (H.Region k) ≡ false
    at (R.Var v) f = absurd cc
    at _ f = refl
number-none n _ e = refl

pub number-quiet : (n : ℕ) (t : Tree) → tree_holds is_unsolved t ≡ false → tree_holds (is_number n) t ≡ false
number-quiet n t e = tree-fewer is_unsolved (is_number n) (number-none n) t e

beyond-none : (n : ℕ) (h : Head) → is_bound_variable h ≡ false → is_beyond n h ≡ false
beyond-none n (H.Bound v) e = absurd cc
beyond-none n (H.Const c) e = at c e
  where
    at : (k : ConstHead) → is_bound_variable (H.Const k) ≡ false → is_beyond n (H.Const k) ≡ false
    at (C.Bound v) f = absurd cc
    at _ f = refl
beyond-none n (H.Region r) e = at r e
  where
    at : (k : RegionKind) → is_bound_variable (H.Region k) ≡ false → is_beyond n (H.Region k) ≡ false
    at (R.Bound v) f = absurd cc
    at _ f = refl
beyond-none n _ e = refl

escapes-none : (n : ℕ) (ts : Forest) → holds is_bound_variable ts ≡ false → escapes n ts ≡ false
escapes-none n none e = refl
escapes-none n (tree h below rest) e =
    let p = is_bound_variable in
    let inner = or-right (p h) (holds p below || holds p rest) e in
    ap (λ (b : Bool). b || (escapes (n + binders_of h) below || escapes n rest)) (beyond-none n h (or-left (p h) (holds p below || holds p rest) e))
    ∙ (ap (λ (b : Bool). b || escapes n rest) (escapes-none (n + binders_of h) below (or-left (holds p below) (holds p rest) inner))
    ∙ escapes-none n rest (or-right (holds p below) (holds p rest) inner))

pub escapes-quiet : (n : ℕ) (t : Tree) → tree_holds is_bound_variable t ≡ false → tree_escapes n t ≡ false
escapes-quiet n t e =
    let p = is_bound_variable in
    ap (λ (b : Bool). b || escapes (n + binders_of t.head) t.children) (beyond-none n t.head (or-left (p t.head) (holds p t.children) e))
    ∙ escapes-none (n + binders_of t.head) t.children (or-right (p t.head) (holds p t.children) e)

-- under however many binders
pub moved-quiet : (n d : ℕ) (t : Tree) → tree_holds is_bound_variable t ≡ false → fold_tree (λ e u. moved n e u.head) d t ≡ t
moved-quiet n d t e = tree-nothing (λ e u. moved n e u.head) is_bound_variable (λ e u. moved-none n e u.head) d t e

put-none : (args : Forest) (d : ℕ) (h : Head) → is_param h ≡ false → put_if_there args d h ≡ None
put-none args d (H.Param i) e = absurd cc
put-none args d (H.Const c) e = at c e
  where
    at : (k : ConstHead) → is_param (H.Const k) ≡ false → put_if_there args d (H.Const k) ≡ None
    at (C.Param i) f = absurd cc
    at _ f = refl
put-none args d _ e = refl

pub put-quiet : (args : Forest) (d : ℕ) (t : Tree) → tree_holds is_param t ≡ false → fold_tree (λ e u. put_if_there args e u.head) d t ≡ t
put-quiet args d t e = tree-nothing (λ e u. put_if_there args e u.head) is_param (λ e u. put-none args e u.head) d t e

pub open-quiet : (values : Forest) (d : ℕ) (t : Tree) → tree_holds is_bound_variable t ≡ false → fold_tree (λ e u. opened_head values e u.head) d t ≡ t
open-quiet values d t e = tree-nothing (λ e u. opened_head values e u.head) is_bound_variable (λ e u. opened-none values e u.head) d t e

pub open_below-quiet : (values : Forest) (d : ℕ) (t : Tree) → tree_holds is_bound_variable t ≡ false → fold_tree (λ e u. opened_head values (e - 1) u.head) d t ≡ t
open_below-quiet values d t e = tree-nothing (λ e u. opened_head values (e - 1) u.head) is_bound_variable (λ e u. opened-none values (e - 1) u.head) d t e

pub instance_at-quiet : (args : Forest) (n d : ℕ) (t : Tree) → tree_holds is_param t || tree_holds is_bound_variable t ≡ false
    → fold_tree (λ e u. instance_head args n (e - 1) u.head) d t ≡ t
instance_at-quiet args n d t e =
    tree-nothing (λ c u. instance_head args n (c - 1) u.head) (λ h. is_param h || is_bound_variable h)
    (λ c u q. instance-none args n (c - 1) u.head (or-left (is_param u.head) (is_bound_variable u.head) q) (or-right (is_param u.head) (is_bound_variable u.head) q)) d t
    (tree-or is_param is_bound_variable t ∙ e)

-- what is kept of a tree tells it
pub bound-kept : (m : Marks) (t : Tree) (b : Bool) → AreMarks m t → b ≡ marked m F.TyBound || (marked m F.RegionBound || marked m F.ConstBound) → b ≡ false → tree_holds is_bound_variable t ≡ false
bound-kept m t b are is off = sym (bound-tree t) ∙ ((λ i. sym (are F.TyBound) i || (sym (are F.RegionBound) i || sym (are F.ConstBound) i)) ∙ (sym is ∙ off))
