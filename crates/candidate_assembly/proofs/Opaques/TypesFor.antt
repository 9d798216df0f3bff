-- A clause with one type in the place of another.
use Rattle.std.proofs.Common.{Bool, List, None, Option, Some, ap, false, inl, inr, length, refl, subst, sym, true, ℕ, ◌+◌, ◌<◌, ◌∙◌, ◌≡◌, ◌⊎◌}
use Rattle.std.specs.Option.{unwrap_or}
use Rattle.std.specs.Prelude.{IsTrue, ◌↔◌, if◌then◌else◌}
use Rattle.ir_trees.specs.declared.ir.kinds.Const.{Const}
use Rattle.ir_trees.specs.declared.ir.kinds.GenericArg.{GenericArg}
use Rattle.ir_trees.specs.declared.ir.kinds.GenericArg.TheVariants as G
use Rattle.ir_trees.specs.declared.ir.kinds.Region.{Region}
use Rattle.ir_trees.specs.declared.ir.kinds.Ty.{Ty}
use Rattle.ir_trees.specs.Hierarchy.Elaboration.{same_tree}
use Rattle.ir_trees.specs.Instantiation.Folding.{fold}
use Rattle.ir_trees.specs.Instantiation.Folds.{IsArg, arg_tree, is_asked, is_asked_kind, node}
use Rattle.ir_trees.specs.Syntax.Trees.{ConstantKind, Forest, RegionKind, Tree, TypeKind, binders_of, holds, is_alias, kind_of, none, tree, tree_holds}
use Rattle.ir_trees.specs.Syntax.Nodes.{Extends, tree_at}
use Rattle.ir_trees.specs.Syntax.Words.{IsTy, ty_tree}
use Rattle.ir_context.proofs.Hierarchy.Elaboration.{tree_is}
use Rattle.ir_trees.proofs.Growth.Kept.{number-kept}
use Rattle.ir_trees.proofs.Instantiation.Folding.{fold-nothing, or-left, or-right}
use Rattle.ir_trees.proofs.Syntax.Lists.{below_kind}
use Rattle.ir_trees.proofs.Syntax.Rows.{kind-of}
use Rattle.candidate_eval.proofs.Dynamic.Replacing.{same-says}
use Rattle.candidate_assembly.specs.Rules.Opaques.{answer_for, type_for, with_type_for}
use Rattle.ir_trees.specs.declared.ir.heads.Head.{Head}
use Rattle.candidate_eval.specs.Interface.Unmade.{IsFilled}

-- what is of another kind is another tree
other-tree : (t old : Tree) → (kind_of t.head ≡ TypeKind → ⊥) → kind_of old.head ≡ TypeKind → same_tree t old ≡ false
other-tree t old other is = of (same_tree t old) refl
  where
    of : (b : Bool) → same_tree t old ≡ b → same_tree t old ≡ false
    of false e = e
    of true e = absurd (other (ap (λ (u : Tree). kind_of u.head) (tree_is t old e) ∙ is))

pub none-for : (t old new : Tree) → (kind_of t.head ≡ TypeKind → ⊥) → kind_of old.head ≡ TypeKind → type_for old new t ≡ None
none-for t old new other is = ap (λ b. if b then Some new else None) (other-tree t old other is)

-- nothing stands for what isn't asked about
pub unasked-for : (t old new : Tree) → kind_of old.head ≡ TypeKind → is_asked t.head ≡ false → type_for old new t ≡ None
unasked-for t old new is e = none-for t old new (λ k. let z = sym (ap is_asked_kind k) ∙ e in absurd cc) is

-- so that answers where a fold asks are all
pub answer-for-is : (old new : Tree) → kind_of old.head ≡ TypeKind → answer_for old new ≡ (λ d t. type_for old new t)
answer-for-is old new is = λ i d t. at t (is_asked t.head) refl i
  where
    at : (t : Tree) (b : Bool) → is_asked t.head ≡ b → (if is_asked t.head then type_for old new t else None) ≡ type_for old new t
    at t true e = ap (λ b. if b then type_for old new t else None) e
    at t false e = ap (λ b. if b then type_for old new t else None) e ∙ sym (unasked-for t old new is e)

pub unasked-answer : (old new : Tree) (d : ℕ) (t : Tree) → is_asked t.head ≡ false → answer_for old new d t ≡ None
unasked-answer old new d t e = ap (λ b. if b then type_for old new t else None) e

-- an argument is asked about
pub answer-of-arg : (ts : List Tree) (old new : Tree) (d : ℕ) (a : GenericArg) (o : Option Tree) → kind_of old.head ≡ TypeKind → o ≡ type_for old new (arg_tree ts a) → o ≡ answer_for old new d (arg_tree ts a)
answer-of-arg ts old new d a o is e = e ∙ (λ i. sym (answer-for-is old new is) i d (arg_tree ts a))

-- Types stay while nodes are made.
pub types-extend : (ts us : List Tree) (old new : Ty) → Extends ts us → IsTy ts old × IsTy ts new → IsTy us old × IsTy us new × (answer_for (ty_tree us old) (ty_tree us new) ≡ answer_for (ty_tree ts old) (ty_tree ts new))
types-extend ts us old new e h =
    let a = number-kept ts us old.0 e (below_kind ts old.0 TypeKind refl h.0) in
    let b = number-kept ts us new.0 e (below_kind ts new.0 TypeKind refl h.1) in
    (a.0 ∙ h.0, b.0 ∙ h.1, λ i. answer_for (a.1 i) (b.1 i))

-- Where no alias stands, no type is put in the place of one.

quiet-for : (old new : Tree) → is_alias old.head ≡ true → (d : ℕ) (t : Tree) → is_alias t.head ≡ false → type_for old new t ≡ None
quiet-for old new is d t e = of (same_tree t old) refl
  where
    of : (b : Bool) → same_tree t old ≡ b → (if same_tree t old then Some new else None) ≡ None
    of false q = ap (λ b. if b then Some new else None) q
    of true q = let z = sym e ∙ (ap (λ (u : Tree). is_alias u.head) (tree_is t old q) ∙ is) in absurd cc

pub no-alias-put : (old new c : Tree) → is_alias old.head ≡ true → tree_holds is_alias c ≡ false → c ≡ with_type_for old new c
no-alias-put old new c is e =
    let kept : Tree = record { head = c.head; children = fold (λ d t. type_for old new t) (0 + binders_of c.head) c.children } in
    sym (ap (λ (o : Option Tree). unwrap_or o kept) (quiet-for old new is 0 c (or-left (is_alias c.head) (holds is_alias c.children) e))
    ∙ ap (λ (b : Forest). let u : Tree = record { head = c.head; children = b } in u) (fold-nothing (λ d t. type_for old new t) is_alias (quiet-for old new is) (0 + binders_of c.head) c.children (or-right (is_alias c.head) (holds is_alias c.children) e)))

-- by what was tested
pub type-for-tested : (t old new : Tree) (b c : Bool) → IsTrue b ↔ (t ≡ old) → b ≡ c → type_for old new t ≡ (if c then Some new else None)
type-for-tested t old new b c says is = ap (λ x. if x then Some new else None) (sym (same-says t old b says) ∙ is)

-- An argument that is no type.

pub other-arg : (a : GenericArg) → ((x : Const) × (a ≡ G.Const x)) ⊎ ((x : Region) × (a ≡ G.Region x)) → (t : Ty) → a ≡ G.Ty t → ⊥
other-arg a (inl p) t e = let z : G.Const p.0 ≡ G.Ty t = sym p.1 ∙ e in absurd cc
other-arg a (inr p) t e = let z : G.Region p.0 ≡ G.Ty t = sym p.1 ∙ e in absurd cc

pub no-type-for : (ts : List Tree) (old new : Ty) (a : GenericArg) → IsTy ts old → IsArg ts a → ((t : Ty) → a ≡ G.Ty t → ⊥) → None ≡ type_for (ty_tree ts old) (ty_tree ts new) (arg_tree ts a)
no-type-for ts old new (G.Ty t) i k other = absurd (other t refl)
no-type-for ts old new (G.Const x) i k other =
    sym (none-for (arg_tree ts (G.Const x)) (ty_tree ts old) (ty_tree ts new) (λ e. let z : ConstantKind ≡ TypeKind = sym (kind-of ts x.0 ConstantKind refl k) ∙ e in absurd cc) (kind-of ts old.0 TypeKind refl i))
no-type-for ts old new (G.Region x) i k other =
    sym (none-for (arg_tree ts (G.Region x)) (ty_tree ts old) (ty_tree ts new) (λ e. let z : RegionKind ≡ TypeKind = sym (kind-of ts x.0 RegionKind refl k) ∙ e in absurd cc) (kind-of ts old.0 TypeKind refl i))

-- The fold puts in the type that is there.
module _ (ts : List Tree) (n : ℕ) (l : n < length ts) (old : Tree) where
  put-type : (h : Head) (below : Forest) (o : Option Tree) {inner rest us : Forest} → (o ≡ None) ⊎ (o ≡ Some (tree_at ts n)) → IsFilled ts below inner → IsFilled ts rest us
      → IsFilled ts (tree h below rest) (tree (unwrap_or o (node h inner)).head (unwrap_or o (node h inner)).children us)
  put-type h below None e b r = IsFilled.stays b r
  put-type h below (Some u) (inl e) b r = absurd cc
  put-type h below (Some u) {rest = rest} {us = us} (inr e) b r =
      let same : u ≡ tree_at ts n = cc in
      subst (λ (t : Tree). IsFilled ts (tree h below rest) (tree t.head t.children us)) (sym same) (IsFilled.put_in n l r)

  answered-type : (d : ℕ) (t : Tree) → (answer_for old (tree_at ts n) d t ≡ None) ⊎ (answer_for old (tree_at ts n) d t ≡ Some (tree_at ts n))
  answered-type d t = at (is_asked t.head) (same_tree t old)
    where
      at : (a b : Bool) → ((if a then (if b then Some (tree_at ts n) else None) else None) ≡ None) ⊎ ((if a then (if b then Some (tree_at ts n) else None) else None) ≡ Some (tree_at ts n))
      at false b = inl refl
      at true false = inl refl
      at true true = inr refl

  pub type-filled : (d : ℕ) (us : Forest) → IsFilled ts us (fold (answer_for old (tree_at ts n)) d us)
  type-filled d none = IsFilled.ended
  type-filled d (tree h below rest) =
      put-type h below (answer_for old (tree_at ts n) d (node h below)) (answered-type d (node h below)) (type-filled (d + binders_of h) below) (type-filled d rest)
