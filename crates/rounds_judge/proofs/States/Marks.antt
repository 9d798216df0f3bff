-- Marks that no head of folded trees bears, bound variables that escape from none, and folds one after another.
use Rattle.std.proofs.Common.{◌≡◌, ◌≤◌, ◌<◌, ℕ, ◌+◌, Bool, false, ◌||◌, Option, Some, None, refl, sym, ap, ◌∙◌, arith, nat_le}
use Rattle.std.specs.Option.{unwrap_or}
use Rattle.std.proofs.lemmas.Bool.{or_parts, leb-false, lt-leb}
use Rattle.ir_trees.specs.declared.ir.heads.Head.{Head}
use Rattle.ir_trees.specs.declared.ir.heads.Head.TheVariants as H
use Rattle.ir_trees.specs.declared.ir.heads.ConstHead.TheVariants as C
use Rattle.ir_trees.specs.declared.ir.kinds.RegionKind.TheVariants as R
use Rattle.ir_trees.specs.Syntax.Trees.{Forest, none, tree, Tree, erase, erased_head, holds, binders_of}
use Rattle.ir_trees.specs.Syntax.Binders.{is_beyond, escapes}
use Rattle.ir_trees.specs.Instantiation.Folding.{Answers, fold}
use Rattle.ir_trees.specs.Unification.Substitutions.{alone}
use Rattle.ir_trees.proofs.Instantiation.Folding.{begin}
use Rattle.candidate_eval.specs.Judges.States.{Values, valued, valued_tree}
use Rattle.candidate_eval.proofs.Marks.Holds.{holds_parts}

pub whole : (mark : Head → Bool) (h : Head) (below rest : Forest) → mark h ≡ false → holds mark below ≡ false → holds mark rest ≡ false → holds mark (tree h below rest) ≡ false
whole mark h below rest a b c = rw (a, b, c) refl

-- a mark of trees without regions is a mark of the trees
pub holds_erased : (mark : Head → Bool) (ts : Forest) → holds mark (erase ts) ≡ holds (λ h. mark (erased_head h)) ts
holds_erased mark none = refl
holds_erased mark (tree h below rest) = rw (holds_erased mark below, holds_erased mark rest) refl

-- what bears neither of two marks bears no third
pub holds_to : (a b c : Head → Bool) → ((h : Head) → a h ≡ false → b h ≡ false → c h ≡ false) → (ts : Forest) → holds a ts ≡ false → holds b ts ≡ false → holds c ts ≡ false
holds_to a b c f none p q = refl
holds_to a b c f (tree h below rest) p q =
    let x = holds_parts a h below rest p in
    let y = holds_parts b h below rest q in
    whole c h below rest (f h x.here y.here) (holds_to a b c f below x.under y.under) (holds_to a b c f rest x.others y.others)

-- A mark that no head bears that has no answer, nor any answer; asked of heads without two other marks.
module _ (f : Answers) (a b c : Head → Bool)
    (heads : (d : ℕ) (t : Tree) → a t.head ≡ false → b t.head ≡ false → f d t ≡ None → c t.head ≡ false)
    (puts : (d : ℕ) (t u : Tree) → a t.head ≡ false → b t.head ≡ false → f d t ≡ Some u → holds c (alone u) ≡ false) where
  pub fold_marked : (d : ℕ) (ts : Forest) → holds a ts ≡ false → holds b ts ≡ false → holds c (fold f d ts) ≡ false
  fold_marked d none p q = refl
  fold_marked d (tree h below rest) p q =
      let x = holds_parts a h below rest p in
      let y = holds_parts b h below rest q in
      node (f d (record { head = h; children = below })) refl x.here y.here (fold_marked (d + binders_of h) below x.under y.under) (fold_marked d rest x.others y.others)
    where
      node : (o : Option Tree) → f d (record { head = h; children = below }) ≡ o → a h ≡ false → b h ≡ false
          → holds c (fold f (d + binders_of h) below) ≡ false → holds c (fold f d rest) ≡ false
          → holds c (begin (unwrap_or o (record { head = h; children = fold f (d + binders_of h) below })) (fold f d rest)) ≡ false
      node None e p q under others = whole c h (fold f (d + binders_of h) below) (fold f d rest) (heads d (record { head = h; children = below }) p q e) under others
      node (Some u) e p q under others =
          let z = holds_parts c u.head u.children none (puts d (record { head = h; children = below }) u p q e) in
          whole c u.head u.children (fold f d rest) z.here z.under others

-- Bound variables

farther : (n m k : ℕ) → n ≤ m → nat_le n k ≡ false → nat_le m k ≡ false
farther n m k l e = lt-leb m k (less (leb-false n k e))
  where
    less : k < n → k < m
    less h = omega (arith, h, l)

beyond_on : (n m : ℕ) (h : Head) → n ≤ m → is_beyond n h ≡ false → is_beyond m h ≡ false
beyond_on n m (H.Bound v) l e = farther n m v.depth l e
beyond_on n m (H.Const (C.Bound v)) l e = farther n m v.depth l e
beyond_on n m (H.Region (R.Bound v)) l e = farther n m v.depth l e
beyond_on n m _ l e = refl

pub record Escaping (n : ℕ) (h : Head) (below rest : Forest) : Type 0 where
  pub here : is_beyond n h ≡ false
  pub under : escapes (n + binders_of h) below ≡ false
  pub others : escapes n rest ≡ false

pub escape_parts : (n : ℕ) (h : Head) (below rest : Forest) → escapes n (tree h below rest) ≡ false → Escaping n h below rest
escape_parts n h below rest e =
    let p = or_parts (is_beyond n h) (escapes (n + binders_of h) below || escapes n rest) e in
    let q = or_parts (escapes (n + binders_of h) below) (escapes n rest) p.1 in
    record { here = p.0; under = q.0; others = q.1 }

pub escape_whole : (n : ℕ) (h : Head) (below rest : Forest) → is_beyond n h ≡ false → escapes (n + binders_of h) below ≡ false → escapes n rest ≡ false
    → escapes n (tree h below rest) ≡ false
escape_whole n h below rest a b c = rw (a, b, c) refl

pub escapes_on : (n m : ℕ) (ts : Forest) → n ≤ m → escapes n ts ≡ false → escapes m ts ≡ false
escapes_on n m none l e = refl
escapes_on n m (tree h below rest) l e =
    let p = escape_parts n h below rest e in
    escape_whole m h below rest (beyond_on n m h l p.here) (escapes_on (n + binders_of h) (m + binders_of h) below (omega (arith, l)) p.under) (escapes_on n m rest l p.others)

-- answers from which none escapes let none escape; asked of heads without a mark
module _ (f : Answers) (m : Head → Bool) (are_closed : (d : ℕ) (t u : Tree) → m t.head ≡ false → f d t ≡ Some u → escapes 0 (alone u) ≡ false) where
  pub fold_closed_among : (n d : ℕ) (ts : Forest) → holds m ts ≡ false → escapes n ts ≡ false → escapes n (fold f d ts) ≡ false
  fold_closed_among n d none k e = refl
  fold_closed_among n d (tree h below rest) k e =
      let p = escape_parts n h below rest e in
      let q = holds_parts m h below rest k in
      node (f d (record { head = h; children = below })) refl p.here (fold_closed_among (n + binders_of h) (d + binders_of h) below q.under p.under) (fold_closed_among n d rest q.others p.others)
    where
      node : (o : Option Tree) → f d (record { head = h; children = below }) ≡ o → is_beyond n h ≡ false
          → escapes (n + binders_of h) (fold f (d + binders_of h) below) ≡ false → escapes n (fold f d rest) ≡ false
          → escapes n (begin (unwrap_or o (record { head = h; children = fold f (d + binders_of h) below })) (fold f d rest)) ≡ false
      node None e here under others = escape_whole n h (fold f (d + binders_of h) below) (fold f d rest) here under others
      node (Some u) e here under others =
          let z = escape_parts n u.head u.children none (escapes_on 0 n (alone u) (omega arith) (are_closed d (record { head = h; children = below }) u (holds_parts m h below rest k).here e)) in
          escape_whole n u.head u.children (fold f d rest) z.here z.under others

no_mark : Head → Bool
no_mark h = false

unmarked : (ts : Forest) → holds no_mark ts ≡ false
unfolding no_mark
unmarked none = refl
unmarked (tree h below rest) = rw (unmarked below, unmarked rest) refl

pub fold_closed : (f : Answers) → ((d : ℕ) (t u : Tree) → f d t ≡ Some u → escapes 0 (alone u) ≡ false) → (n d : ℕ) (ts : Forest) → escapes n ts ≡ false → escapes n (fold f d ts) ≡ false
fold_closed f are_closed n d ts e = fold_closed_among f no_mark (λ d t u k q. are_closed d t u q) n d ts (unmarked ts) e

-- Values

-- values look at heads alone, so under how many binders they are put in is all one
abbrev pub valued_at : Values → ℕ → Forest → Forest
valued_at v d ts = fold (λ _ t. v t.head) d ts

pub same_depth : (v : Values) (d e : ℕ) (ts : Forest) → valued_at v d ts ≡ valued_at v e ts
same_depth v d e none = refl
same_depth v d e (tree h below rest) = rw (same_depth v (d + binders_of h) (e + binders_of h) below, same_depth v d e rest) refl

pub valued_node : (v : Values) (h : Head) (below rest : Forest)
    → valued v (tree h below rest) ≡ begin (unwrap_or (v h) (record { head = h; children = valued v below })) (valued v rest)
valued_node v h below rest = ap (λ b. begin (unwrap_or (v h) (record { head = h; children = b })) (valued v rest)) (same_depth v (0 + binders_of h) 0 below)

-- Values of which one after the other is the third, at heads without the mark.
module _ (u v w : Values) (mark : Head → Bool)
    (some : (h : Head) (x : Tree) → mark h ≡ false → u h ≡ Some x → w h ≡ Some (valued_tree v x))
    (otherwise : (h : Head) → mark h ≡ false → u h ≡ None → w h ≡ v h) where
  pub valued_twice : (ts : Forest) → holds mark ts ≡ false → valued v (valued u ts) ≡ valued w ts
  valued_twice none e = refl
  valued_twice (tree h below rest) e =
      let p = holds_parts mark h below rest e in
      ap (valued v) (valued_node u h below rest) ∙ node (u h) refl p.here (valued_twice below p.under) (valued_twice rest p.others) ∙ sym (valued_node w h below rest)
    where
      node : (o : Option Tree) → u h ≡ o → mark h ≡ false → valued v (valued u below) ≡ valued w below → valued v (valued u rest) ≡ valued w rest
          → valued v (begin (unwrap_or o (record { head = h; children = valued u below })) (valued u rest)) ≡ begin (unwrap_or (w h) (record { head = h; children = valued w below })) (valued w rest)
      node None e m under others =
          valued_node v h (valued u below) (valued u rest)
          ∙ ap (λ b. begin (unwrap_or (v h) (record { head = h; children = b })) (valued v (valued u rest))) under
          ∙ ap (λ o. begin (unwrap_or o (record { head = h; children = valued w below })) (valued v (valued u rest))) (sym (otherwise h m e))
          ∙ ap (begin (unwrap_or (w h) (record { head = h; children = valued w below }))) others
      node (Some x) e m under others =
          ap (begin (valued_tree v x)) others ∙ ap (λ o. begin (unwrap_or o (record { head = h; children = valued w below })) (valued w rest)) (sym (some h x m e))

-- values that are the same at heads without the mark
pub valued_same : (v w : Values) (mark : Head → Bool) → ((h : Head) → mark h ≡ false → v h ≡ w h) → (ts : Forest) → holds mark ts ≡ false → valued v ts ≡ valued w ts
valued_same v w mark e none m = refl
valued_same v w mark e (tree h below rest) m =
    let p = holds_parts mark h below rest m in
    valued_node v h below rest
    ∙ ap (λ o. begin (unwrap_or o (record { head = h; children = valued v below })) (valued v rest)) (e h p.here)
    ∙ ap (λ b. begin (unwrap_or (w h) (record { head = h; children = b })) (valued v rest)) (valued_same v w mark e below p.under)
    ∙ ap (begin (unwrap_or (w h) (record { head = h; children = valued w below }))) (valued_same v w mark e rest p.others)
    ∙ sym (valued_node w h below rest)
