-- Bound variables, which a shift, an instance or an opened binder makes anew: all three ask first which one a head is.
use Rattle.std.proofs.Common.{◌≡◌, ℕ, ◌+◌, ◌<◌, Option, Some, None, Bool, true, false, refl, sym, ◌∙◌, ap, subst}
use Rattle.std.specs.Prelude.{nat_le, nat_eq, ◌==◌, if◌then◌else◌}
use Rattle.ir_trees.specs.declared.ir.heads.ConstHead.TheVariants as C
use Rattle.ir_trees.specs.declared.ir.heads.Head.{Head}
use Rattle.ir_trees.specs.declared.ir.heads.Head.TheVariants as H
use Rattle.ir_trees.specs.declared.ir.kinds.BoundVar.{BoundVar}
use Rattle.ir_trees.specs.declared.ir.kinds.RegionKind.TheVariants as R
use Rattle.ir_trees.specs.declared.ir.kinds.VarKind.{VarKind}
use Rattle.ir_trees.specs.declared.ir.kinds.VarKind.TheVariants as K
use Rattle.ir_trees.specs.declared.ir.stop.Stop.{Stop}
use Rattle.ir_trees.specs.declared.ir.stop.Stop.TheVariants.{NodesFull}
use Rattle.ir_trees.specs.Hierarchy.Elaboration.{later, later_head, IsHeadStop, unput}
use Rattle.ir_trees.specs.Instantiation.Folding.{leaf, further, moved, IsSubstStop, IsAnswerStop}
use Rattle.ir_trees.specs.Instantiation.Opening.{bound_head, is_bound_variable, opened_head}
use Rattle.ir_trees.specs.Unification.Substitutions.{alone}
use Rattle.ir_trees.specs.Syntax.Trees.{Forest, Tree}
use Rattle.ir_folds.proofs.Traversal.FoldStops as shift
use Rattle.ir_folds.proofs.Hierarchy.Implying as instance

-- what is no bound variable stays
pub unmoved : (n d : ℕ) (h : Head) → is_bound_variable h ≡ false → moved n d h ≡ None
unmoved n d (H.Bound v) e = absurd cc
unmoved n d (H.Const (C.Bound v)) e = absurd cc
unmoved n d (H.Region (R.Bound v)) e = absurd cc
unmoved n d (H.Const k) e = cc
unmoved n d (H.Region k) e = cc
unmoved n d h e = cc

pub unnumbered : (n d : ℕ) (h : Head) → is_bound_variable h ≡ false → later_head n d h ≡ None
unnumbered n d (H.Bound v) e = absurd cc
unnumbered n d (H.Const (C.Bound v)) e = absurd cc
unnumbered n d (H.Region (R.Bound v)) e = absurd cc
unnumbered n d (H.Const k) e = cc
unnumbered n d (H.Region k) e = cc
unnumbered n d h e = cc

pub unopened : (values : Forest) (d : ℕ) (h : Head) → is_bound_variable h ≡ false → opened_head values d h ≡ None
unopened values d (H.Bound v) e = absurd cc
unopened values d (H.Const (C.Bound v)) e = absurd cc
unopened values d (H.Region (R.Bound v)) e = absurd cc
unopened values d (H.Const k) e = cc
unopened values d (H.Region k) e = cc
unopened values d h e = cc

-- A shift moves the variable, or leaves it.
moved-bound : (n d : ℕ) (k : VarKind) (v : BoundVar) → moved n d (bound_head k v) ≡ (if nat_le d v.depth then Some (leaf (bound_head k (further n v))) else None)
moved-bound n d K.Ty v = refl
moved-bound n d K.Const v = refl
moved-bound n d K.Region v = refl

pub moves : (n d : ℕ) (h : Head) (k : VarKind) (v w : BoundVar) (t : Tree) → h ≡ bound_head k v
    → Some w ≡ (if nat_le d v.depth then Some (further n v) else None) → t ≡ leaf (bound_head k w) → Some t ≡ moved n d h
moves n d h k v w t is e made = at (nat_le d v.depth) e ∙ sym (ap (moved n d) is ∙ moved-bound n d k v)
  where
    at : (b : Bool) → Some w ≡ (if b then Some (further n v) else None) → Some t ≡ (if b then Some (leaf (bound_head k (further n v))) else None)
    at true e = let p : w ≡ further n v = cc in ap Some (made ∙ ap (λ x. leaf (bound_head k x)) p)
    at false e = absurd cc

pub stays : (n d : ℕ) (h : Head) (k : VarKind) (v : BoundVar) → h ≡ bound_head k v
    → None ≡ (if nat_le d v.depth then Some (further n v) else None) → None ≡ moved n d h
stays n d h k v is e = at (nat_le d v.depth) e ∙ sym (ap (moved n d) is ∙ moved-bound n d k v)
  where
    at : (b : Bool) → None ≡ (if b then Some (further n v) else None) → None ≡ (if b then Some (leaf (bound_head k (further n v))) else None)
    at true e = absurd cc
    at false e = refl

shifted-variable : (k : VarKind) (h : Head) (v : BoundVar) → h ≡ bound_head k v → shift.IsVariable h v
shifted-variable K.Ty h v e = shift.type-variable h v e
shifted-variable K.Const h v e = shift.constant-variable h v e
shifted-variable K.Region h v e = shift.region-variable h v e

pub moves-too-far : (given n d : ℕ) (h : Head) (k : VarKind) (v : BoundVar) (x : Stop) → h ≡ bound_head k v
    → (x ≡ NodesFull) × (nat_le d v.depth ≡ true) × (4294967295 < v.depth + n) → IsAnswerStop given (moved n d h) x
moves-too-far given n d h k v x is far = shift.variable-too-far given n d h v x (shifted-variable k h v is) far

pub moves-unmade : (given n d : ℕ) (h : Head) (k : VarKind) (v w : BoundVar) (x : Stop) → h ≡ bound_head k v
    → Some w ≡ (if nat_le d v.depth then Some (further n v) else None) → IsSubstStop given (alone (leaf (bound_head k w))) x → IsAnswerStop given (moved n d h) x
moves-unmade given n d h k v w x is e stop = subst (λ (o : Option Tree). IsAnswerStop given o x) (moves n d h k v w (leaf (bound_head k w)) is e refl) stop

-- An instance renumbers the variable, or leaves it.
later-bound : (n d : ℕ) (k : VarKind) (v : BoundVar) → later_head n d (bound_head k v) ≡ (if v.depth == d then Some (leaf (bound_head k (later n v))) else None)
later-bound n d K.Ty v = refl
later-bound n d K.Const v = refl
later-bound n d K.Region v = refl

pub renumbers : (n d : ℕ) (h : Head) (k : VarKind) (v w : BoundVar) (t : Tree) → h ≡ bound_head k v
    → Some w ≡ (if v.depth == d then Some (later n v) else None) → t ≡ leaf (bound_head k w) → Some t ≡ later_head n d h
renumbers n d h k v w t is e made = at (v.depth == d) e ∙ sym (ap (later_head n d) is ∙ later-bound n d k v)
  where
    at : (b : Bool) → Some w ≡ (if b then Some (later n v) else None) → Some t ≡ (if b then Some (leaf (bound_head k (later n v))) else None)
    at true e = let p : w ≡ later n v = cc in ap Some (made ∙ ap (λ x. leaf (bound_head k x)) p)
    at false e = absurd cc

pub keeps-number : (n d : ℕ) (h : Head) (k : VarKind) (v : BoundVar) → h ≡ bound_head k v
    → None ≡ (if v.depth == d then Some (later n v) else None) → None ≡ later_head n d h
keeps-number n d h k v is e = at (v.depth == d) e ∙ sym (ap (later_head n d) is ∙ later-bound n d k v)
  where
    at : (b : Bool) → None ≡ (if b then Some (later n v) else None) → None ≡ (if b then Some (leaf (bound_head k (later n v))) else None)
    at true e = absurd cc
    at false e = refl

instance-variable : (k : VarKind) (h : Head) (v : BoundVar) → h ≡ bound_head k v → instance.IsVariable h v
instance-variable K.Ty h v e = instance.type-variable h v e
instance-variable K.Const h v e = instance.constant-variable h v e
instance-variable K.Region h v e = instance.region-variable h v e

pub renumbers-too-high : (given n d : ℕ) (h : Head) (k : VarKind) (v : BoundVar) (x : Stop) → h ≡ bound_head k v
    → (x ≡ NodesFull) × (nat_eq v.depth d ≡ true) × (4294967295 < v.index + n) → IsHeadStop given (later_head n d h) x
renumbers-too-high given n d h k v x is high = instance.variable-too-high given n d h v x (instance-variable k h v is) high

pub renumbers-unmade : (given n d : ℕ) (h : Head) (k : VarKind) (v w : BoundVar) (x : Stop) → h ≡ bound_head k v
    → Some w ≡ (if v.depth == d then Some (later n v) else None) → IsSubstStop given (alone (leaf (bound_head k w))) x → IsHeadStop given (later_head n d h) x
renumbers-unmade given n d h k v w x is e stop = subst (λ (o : Option Tree). IsHeadStop given o x) (renumbers n d h k v w (leaf (bound_head k w)) is e refl) (unput stop)
