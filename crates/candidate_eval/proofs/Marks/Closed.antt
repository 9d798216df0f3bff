-- Trees from which no bound variable escapes.
use Rattle.std.proofs.Common.{◌≡◌, ℕ, ◌+◌, ◌≤◌, Bool, false, Option, Some, None, arith, nat_le, refl, ap, ◌∙◌}
use Rattle.std.proofs.lemmas.Bool.{or_parts}
use Rattle.std.specs.Option.{unwrap_or}
use Rattle.std.specs.Prelude.{◌||◌, if◌then◌else◌}
use Rattle.ir_trees.specs.declared.ir.heads.Builtin.{Builtin}
use Rattle.ir_trees.specs.declared.ir.heads.Builtin.TheVariants as B
use Rattle.ir_trees.specs.declared.ir.heads.ConstHead.TheVariants as C
use Rattle.ir_trees.specs.declared.ir.heads.Head.{Head}
use Rattle.ir_trees.specs.declared.ir.heads.Head.TheVariants as H
use Rattle.ir_trees.specs.declared.ir.heads.PartHead.{PartHead}
use Rattle.ir_trees.specs.declared.ir.heads.PartHead.TheVariants as P
use Rattle.ir_trees.specs.declared.ir.kinds.BoundVar.{BoundVar}
use Rattle.ir_trees.specs.declared.ir.kinds.RegionKind.TheVariants as R
use Rattle.ir_trees.specs.Syntax.Binders.{is_beyond, escapes}
use Rattle.ir_trees.specs.Instantiation.Folding.{argument, leaf, further, moved, moved_leaf, shift, shift_tree}
use Rattle.ir_trees.specs.Instantiation.Folds.{node}
use Rattle.ir_trees.specs.Unification.Substitutions.{alone}
use Rattle.ir_trees.specs.Hierarchy.Supers.{after_first}
use Rattle.ir_trees.specs.Syntax.Trees.{Forest, none, tree, Tree, binders_of}
use Rattle.ir_trees.proofs.Instantiation.Folding.{begin}
use Rattle.candidate_eval.specs.Builtins.Callable.{last_tree}

farther : (n m k : ℕ) → n ≤ m → nat_le n k ≡ false → nat_le m k ≡ false
farther n m k l e = grind (arith, l, e)

beyond-on : (n m : ℕ) (h : Head) → n ≤ m → is_beyond n h ≡ false → is_beyond m h ≡ false
beyond-on n m (H.Bound v) l e = farther n m v.depth l e
beyond-on n m (H.Const (C.Bound v)) l e = farther n m v.depth l e
beyond-on n m (H.Region (R.Bound v)) l e = farther n m v.depth l e
beyond-on n m _ l e = refl

pub record Parts (n : ℕ) (h : Head) (below rest : Forest) : Type 0 where
  pub here : is_beyond n h ≡ false
  pub under : escapes (n + binders_of h) below ≡ false
  pub others : escapes n rest ≡ false

pub closed-parts : (n : ℕ) (h : Head) (below rest : Forest) → escapes n (tree h below rest) ≡ false → Parts n h below rest
closed-parts n h below rest e =
    let p = or_parts (is_beyond n h) (escapes (n + binders_of h) below || escapes n rest) e in
    let q = or_parts (escapes (n + binders_of h) below) (escapes n rest) p.1 in
    record { here = p.0; under = q.0; others = q.1 }

pub closed : (n : ℕ) (h : Head) (below rest : Forest) → is_beyond n h ≡ false → escapes (n + binders_of h) below ≡ false → escapes n rest ≡ false → escapes n (tree h below rest) ≡ false
closed n h below rest a b c = rw (a, b, c) refl

-- under more binders no more escapes
pub closed-on : (n m : ℕ) (ts : Forest) → n ≤ m → escapes n ts ≡ false → escapes m ts ≡ false
closed-on n m none l e = refl
closed-on n m (tree h below rest) l e =
    let p = closed-parts n h below rest e in
    closed m h below rest (beyond-on n m h l p.here) (closed-on (n + binders_of h) (m + binders_of h) below (omega (arith, l)) p.under) (closed-on n m rest l p.others)

pub after-closed : (n : ℕ) (ts : Forest) → escapes n ts ≡ false → escapes n (after_first ts) ≡ false
after-closed n none e = refl
after-closed n (tree h below rest) e = (closed-parts n h below rest e).others

pub last-closed : (n : ℕ) (ts : Forest) → escapes n ts ≡ false → escapes n (alone (last_tree ts)) ≡ false
last-closed n none e = refl
last-closed n (tree h below none) e = e
last-closed n (tree h below (tree g inner rest)) e = last-closed n (tree g inner rest) (closed-parts n h below (tree g inner rest) e).others

-- below a head stands one binder at most
pub binder-one : (h : Head) → binders_of h ≤ 1
binder-one (H.Builtin b) = of b
  where
    of : (b : Builtin) → binders_of (H.Builtin b) ≤ 1
    of (B.FnPtr s) = omega arith
    of B.UnsafeBinder = omega arith
    of _ = omega arith
binder-one (H.Part p) = of p
  where
    of : (p : PartHead) → binders_of (H.Part p) ≤ 1
    of (P.Pred p) = omega arith
    of (P.Clause c) = omega arith
    of P.Sig = omega arith
    of _ = omega arith
binder-one _ = omega arith

-- A shift does nothing where nothing escapes.

stays : (n d : ℕ) (v : BoundVar) (head : BoundVar → Head) → nat_le d v.depth ≡ false → moved_leaf n d v head ≡ None
stays n d v head e = ap (λ (b : Bool). if b then Some (leaf (head (further n v))) else None) e

head-stays : (n d : ℕ) (h : Head) → is_beyond d h ≡ false → moved n d h ≡ None
head-stays n d (H.Bound v) e = stays n d v H.Bound e
head-stays n d (H.Const (C.Bound v)) e = stays n d v (λ x. H.Const (C.Bound x)) e
head-stays n d (H.Region (R.Bound v)) e = stays n d v (λ x. H.Region (R.Bound x)) e
head-stays n d _ e = refl

pub shift-closed : (n d : ℕ) (ts : Forest) → escapes d ts ≡ false → shift n d ts ≡ ts
shift-closed n d none e = refl
shift-closed n d (tree h below rest) e =
    let p = closed-parts d h below rest e in
    ap (λ (o : Option Tree). begin (unwrap_or o (node h (shift n (d + binders_of h) below))) (shift n d rest)) (head-stays n d h p.here)
    ∙ (ap (λ (b : Forest). tree h b (shift n d rest)) (shift-closed n (d + binders_of h) below p.under) ∙ ap (tree h below) (shift-closed n d rest p.others))

pub closed-shift : (n : ℕ) (t : Tree) → escapes 0 (alone t) ≡ false → shift_tree n t ≡ t
closed-shift n t e = ap (λ (ts : Forest). argument ts 0) (shift-closed n 0 (alone t) e)
