-- Trees that come to stand under more binders, and whose variables are numbered from some number on: what is closed stays so.
use Rattle.std.proofs.Common.{◌≡◌, ◌+◌, ◌==◌, ◌≤◌, ℕ, zero, suc, Bool, true, false, Option, Some, None, refl, sym, ◌∙◌, arith, nat_le, if◌then◌else◌}
use Rattle.std.specs.Option.{unwrap_or}
use Rattle.ir_trees.specs.declared.ir.heads.ConstHead.TheVariants as C
use Rattle.ir_trees.specs.declared.ir.heads.Head.{Head}
use Rattle.ir_trees.specs.declared.ir.heads.Head.TheVariants as H
use Rattle.ir_trees.specs.declared.ir.kinds.BoundVar.{BoundVar}
use Rattle.ir_trees.specs.declared.ir.kinds.RegionKind.TheVariants as R
use Rattle.ir_trees.specs.Syntax.Binders.{escapes, is_beyond}
use Rattle.ir_trees.specs.Hierarchy.Elaboration.{later, later_head, later_leaf, renumbered}
use Rattle.ir_trees.specs.Instantiation.Folding.{argument, fold, further, leaf, moved, moved_leaf, put, shift, shift_tree, substituted}
use Rattle.ir_trees.specs.Unification.Substitutions.{alone}
use Rattle.ir_trees.specs.Syntax.Trees.{Forest, Tree, binders_of, holds, none, tree}
use Rattle.ir_trees.proofs.Instantiation.Folding.{begin}
use Rattle.candidate_eval.specs.Judges.Soundness.{Live, is_strange}
use Rattle.candidate_eval.specs.Judges.States.{State}
use Rattle.candidate_eval.proofs.Marks.Closed.{closed, closed-on, closed-parts}
use Rattle.candidate_eval.proofs.Marks.Marking.{IsUnmarked, fold-unmarked, unmarked}

-- Under how many binders trees are closed that stand under more of them.

beyond-further : (n m : ℕ) (h : Head) → n ≤ m → is_beyond n h ≡ false → is_beyond m h ≡ false
beyond-further n m h l e = (closed-parts m h none none (closed-on n m (tree h none none) l (closed n h none none e refl refl))).here

deeper : (k n d m : ℕ) → nat_le (k + d) m ≡ false → nat_le (k + n + d) (m + n) ≡ false
deeper k n d m e = grind (arith, e)

data Moves (n d : ℕ) (h : Head) : Option Tree → Type 0 where
  moves_out : (g : Head) → ((k : ℕ) → is_beyond (k + d) h ≡ false → is_beyond (k + n + d) g ≡ false) → Moves n d h (Some (leaf g))
  moves_not : Moves n d h None

leaf-moves : (n d : ℕ) (h : Head) (v : BoundVar) (head : BoundVar → Head) → ((m : ℕ) → is_beyond m h ≡ nat_le m v.depth) → ((m : ℕ) (w : BoundVar) → is_beyond m (head w) ≡ nat_le m w.depth)
    → Moves n d h (moved_leaf n d v head)
leaf-moves n d h v head here there = at (nat_le d v.depth)
  where
    at : (b : Bool) → Moves n d h (if b then Some (leaf (head (further n v))) else None)
    at true = moves_out (head (further n v)) (λ k e. there (k + n + d) (further n v) ∙ deeper k n d v.depth (sym (here (k + d)) ∙ e))
    at false = moves_not

how-moves : (n d : ℕ) (h : Head) → Moves n d h (moved n d h)
how-moves n d (H.Bound v) = leaf-moves n d (H.Bound v) v H.Bound (λ m. refl) (λ m w. refl)
how-moves n d (H.Const (C.Bound v)) = leaf-moves n d (H.Const (C.Bound v)) v (λ x. H.Const (C.Bound x)) (λ m. refl) (λ m w. refl)
how-moves n d (H.Region (R.Bound v)) = leaf-moves n d (H.Region (R.Bound v)) v (λ x. H.Region (R.Bound x)) (λ m. refl) (λ m w. refl)
how-moves n d _ = moves_not

shifted-closed : (k n d : ℕ) (ts : Forest) → escapes (k + d) ts ≡ false → escapes (k + n + d) (shift n d ts) ≡ false
shifted-closed k n d none e = refl
shifted-closed k n d (tree h below rest) e =
    let p = closed-parts (k + d) h below rest e in
    let b = binders_of h in
    let under = shifted-closed k n (d + b) below (closed-on (k + d + b) (k + (d + b)) below (omega arith) p.under) in
    node (moved n d h) (how-moves n d h) p.here (closed-on (k + n + (d + b)) (k + n + d + b) (shift n (d + b) below) (omega arith) under) (shifted-closed k n d rest p.others)
  where
    node : (o : Option Tree) → Moves n d h o → is_beyond (k + d) h ≡ false → escapes (k + n + d + binders_of h) (shift n (d + binders_of h) below) ≡ false → escapes (k + n + d) (shift n d rest) ≡ false
        → escapes (k + n + d) (begin (unwrap_or o (record { head = h; children = shift n (d + binders_of h) below })) (shift n d rest)) ≡ false
    node _ (moves_out g f) here under others = closed (k + n + d) g none (shift n d rest) (f k here) refl others
    node _ moves_not here under others = closed (k + n + d) h (shift n (d + binders_of h) below) (shift n d rest) (beyond-further (k + d) (k + n + d) h (omega arith) here) under others

-- Arguments that stand under some binders, put into trees that stand under these.
module _ (F : Forest) (k : ℕ) (e : escapes k F ≡ false) where
  argument-closed-at : (ts : Forest) (i : ℕ) → escapes k ts ≡ false → escapes k (alone (argument ts i)) ≡ false
  argument-closed-at none i x = refl
  argument-closed-at (tree h below rest) zero x = let p = closed-parts k h below rest x in closed k h below none p.here p.under refl
  argument-closed-at (tree h below rest) (suc i) x = argument-closed-at rest i (closed-parts k h below rest x).others

  data PutsIn (d : ℕ) : Option Tree → Type 0 where
    puts : (u : Tree) → escapes (k + d) (alone u) ≡ false → PutsIn d (Some u)
    puts_not : PutsIn d None

  put-there : (d i : ℕ) → PutsIn d (Some (shift_tree d (argument F i)))
  put-there d i =
      let u = argument F i in
      let low : escapes (k + 0) (alone u) ≡ false = closed-on k (k + 0) (alone u) (omega arith) (argument-closed-at F i e) in
      puts (shift_tree d u) (closed-on (k + d + 0) (k + d) (alone (shift_tree d u)) (omega arith) (shifted-closed k d 0 (alone u) low))

  how-puts : (d : ℕ) (h : Head) → PutsIn d (put F d h)
  how-puts d (H.Param i) = put-there d i
  how-puts d (H.Const (C.Param i)) = put-there d i
  how-puts d _ = puts_not

  pub put-closed : (d : ℕ) (ts : Forest) → escapes (k + d) ts ≡ false → escapes (k + d) (substituted F d ts) ≡ false
  put-closed d none x = refl
  put-closed d (tree h below rest) x =
      let p = closed-parts (k + d) h below rest x in
      let b = binders_of h in
      let under = put-closed (d + b) below (closed-on (k + d + b) (k + (d + b)) below (omega arith) p.under) in
      node (put F d h) (how-puts d h) p.here (closed-on (k + (d + b)) (k + d + b) (substituted F (d + b) below) (omega arith) under) (put-closed d rest p.others)
    where
      node : (o : Option Tree) → PutsIn d o → is_beyond (k + d) h ≡ false → escapes (k + d + binders_of h) (substituted F (d + binders_of h) below) ≡ false → escapes (k + d) (substituted F d rest) ≡ false
          → escapes (k + d) (begin (unwrap_or o (record { head = h; children = substituted F (d + binders_of h) below })) (substituted F d rest)) ≡ false
      node _ (puts u f) here under others = let q = closed-parts (k + d) u.head u.children none f in closed (k + d) u.head u.children (substituted F d rest) q.here q.under others
      node _ puts_not here under others = closed (k + d) h (substituted F (d + binders_of h) below) (substituted F d rest) here under others

-- Variables numbered from some number on.

data Renumbers (h : Head) : Option Tree → Type 0 where
  renumbers : (g : Head) → ((m : ℕ) → is_beyond m h ≡ false → is_beyond m g ≡ false) → ((S : State) (L : Live) → is_strange S L g ≡ false) → Renumbers h (Some (leaf g))
  renumbers_not : Renumbers h None

leaf-renumbers : (n d : ℕ) (h : Head) (v : BoundVar) (head : BoundVar → Head) → ((m : ℕ) → is_beyond m (head (later n v)) ≡ is_beyond m h) → ((S : State) (L : Live) (w : BoundVar) → is_strange S L (head w) ≡ false)
    → Renumbers h (later_leaf n d v head)
leaf-renumbers n d h v head same known = at (v.depth == d)
  where
    at : (b : Bool) → Renumbers h (if b then Some (leaf (head (later n v))) else None)
    at true = renumbers (head (later n v)) (λ m e. same m ∙ e) (λ S L. known S L (later n v))
    at false = renumbers_not

how-renumbers : (n d : ℕ) (h : Head) → Renumbers h (later_head n d h)
how-renumbers n d (H.Bound v) = leaf-renumbers n d (H.Bound v) v H.Bound (λ m. refl) (λ S L w. refl)
how-renumbers n d (H.Const (C.Bound v)) = leaf-renumbers n d (H.Const (C.Bound v)) v (λ x. H.Const (C.Bound x)) (λ m. refl) (λ S L w. refl)
how-renumbers n d (H.Region (R.Bound v)) = leaf-renumbers n d (H.Region (R.Bound v)) v (λ x. H.Region (R.Bound x)) (λ m. refl) (λ S L w. refl)
how-renumbers n d _ = renumbers_not

abbrev pub renumbered-at : ℕ → ℕ → Forest → Forest
renumbered-at n d ts = fold (λ d t. later_head n d t.head) d ts

pub renumbered-closed : (n m d : ℕ) (ts : Forest) → escapes m ts ≡ false → escapes m (renumbered-at n d ts) ≡ false
renumbered-closed n m d none e = refl
renumbered-closed n m d (tree h below rest) e =
    let p = closed-parts m h below rest e in
    node (later_head n d h) (how-renumbers n d h) p.here (renumbered-closed n (m + binders_of h) (d + binders_of h) below p.under) (renumbered-closed n m d rest p.others)
  where
    node : (o : Option Tree) → Renumbers h o → is_beyond m h ≡ false → escapes (m + binders_of h) (renumbered-at n (d + binders_of h) below) ≡ false → escapes m (renumbered-at n d rest) ≡ false
        → escapes m (begin (unwrap_or o (record { head = h; children = renumbered-at n (d + binders_of h) below })) (renumbered-at n d rest)) ≡ false
    node _ (renumbers g f k) here under others = closed m g none (renumbered-at n d rest) (f m here) refl others
    node _ renumbers_not here under others = closed m h (renumbered-at n (d + binders_of h) below) (renumbered-at n d rest) here under others

pub renumbered-known : (S : State) (L : Live) (n : ℕ) (ts : Forest) → holds (is_strange S L) ts ≡ false → holds (is_strange S L) (renumbered n ts) ≡ false
renumbered-known S L n ts e = fold-unmarked (later_head n) (is_strange S L) (is_strange S L) (λ h x. x) (λ d h. known (how-renumbers n d h)) 0 ts e
  where
    known : {h : Head} {o : Option Tree} → Renumbers h o → IsUnmarked (is_strange S L) o
    known (renumbers g f k) = unmarked (is_strange S L) g none none (k S L) refl refl
    known renumbers_not = tt
