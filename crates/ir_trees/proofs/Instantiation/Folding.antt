-- Laws of folds, shifts and substitutions.
use Rattle.std.proofs.Common.{◌≡◌, ℕ, zero, suc, ◌+◌, Option, Some, None, List, ◌∷◌, refl, sym, ◌∙◌, ap, subst, arith}
use Rattle.std.specs.Prelude.{Bool, true, false, not, ◌||◌, nat_le, if◌then◌else◌}
use Rattle.std.specs.Option.{unwrap_or}
use Rattle.ir_trees.specs.declared.ir.heads.Head.{Head}
use Rattle.ir_trees.specs.declared.ir.heads.Head.TheVariants as H
use Rattle.ir_trees.specs.declared.ir.heads.ConstHead.{ConstHead}
use Rattle.ir_trees.specs.declared.ir.heads.ConstHead.TheVariants as C
use Rattle.ir_trees.specs.declared.ir.kinds.BoundVar.{BoundVar}
use Rattle.ir_trees.specs.declared.ir.kinds.RegionKind.{RegionKind}
use Rattle.ir_trees.specs.declared.ir.kinds.RegionKind.TheVariants as R
use Rattle.ir_trees.specs.Syntax.Trees.{Kind, TypeKind, ConstantKind, Forest, none, tree, Tree, kind_of, is_type_kind, binders_of, holds, is_param}
use Rattle.ir_trees.specs.Syntax.Nodes.{error_tree}
use Rattle.ir_trees.specs.Declarations.Worlds.{World, Fits, child_kinds, kinds_of}
use Rattle.ir_trees.specs.Instantiation.Folding.{Answers, fold, fold_tree, leaf, further, moved_leaf, moved, shift, shift_tree, argument, put, substituted, is_misplaced}
use Rattle.ir_trees.specs.Unification.Substitutions.{is_constant_kind}

-- two rows that begin alike
abbrev pub begin : Tree → Forest → Forest
begin t rest = tree t.head t.children rest

pub same_row : (s t : Tree) (a b : Forest) → s ≡ t → a ≡ b → begin s a ≡ begin t b
same_row s t a b e f = ap (λ (x : Tree). begin x a) e ∙ ap (begin t) f

pub or-left : (a b : Bool) → a || b ≡ false → a ≡ false
or-left true b e = e
or-left false b e = refl

pub or-right : (a b : Bool) → a || b ≡ false → b ≡ false
or-right true b e = absurd cc
or-right false b e = e

-- nothing happens to trees in which nothing has an answer
pub fold-nothing : (f : Answers) (mark : Head → Bool) → ((d : ℕ) (t : Tree) → mark t.head ≡ false → f d t ≡ None)
    → (d : ℕ) (ts : Forest) → holds mark ts ≡ false → fold f d ts ≡ ts
fold-nothing f mark quiet d none e = refl
fold-nothing f mark quiet d (tree h below rest) e =
    let inner = or-right (mark h) (holds mark below || holds mark rest) e in
    let t : Tree = record { head = h; children = below } in
    let kept : Tree = record { head = h; children = fold f (d + binders_of h) below } in
    let here = quiet d t (or-left (mark h) (holds mark below || holds mark rest) e) in
    let under = fold-nothing f mark quiet (d + binders_of h) below (or-left (holds mark below) (holds mark rest) inner) in
    let others = fold-nothing f mark quiet d rest (or-right (holds mark below) (holds mark rest) inner) in
    same_row (unwrap_or (f d t) kept) t (fold f d rest) rest
    (ap (λ (o : Option Tree). unwrap_or o kept) here ∙ ap (λ (b : Forest). let u : Tree = record { head = h; children = b } in u) under) others

put-none : (args : Forest) (d : ℕ) (h : Head) → is_param h ≡ false → put args d h ≡ None
put-none args d (H.Param i) e = absurd cc
put-none args d (H.Const (C.Param i)) e = absurd cc
put-none args d (H.Const c) e = at c e
  where
    at : (k : ConstHead) → is_param (H.Const k) ≡ false → put args d (H.Const k) ≡ None
    at (C.Param i) f = absurd cc
    at _ f = refl
put-none args d _ e = refl

-- so a substitution does nothing to trees without parameters
pub substituted-nothing : (args : Forest) (d : ℕ) (ts : Forest) → holds is_param ts ≡ false → substituted args d ts ≡ ts
substituted-nothing args d ts e = fold-nothing (λ n t. put args n t.head) is_param (λ n t q. put-none args n t.head q) d ts e

-- Answers of the kinds of what they stand for keep the kinds of a row; asked of heads without the mark.
module _ (f : Answers) (mark : Head → Bool) (keeps : (d : ℕ) (t u : Tree) → mark t.head ≡ false → f d t ≡ Some u → kind_of u.head ≡ kind_of t.head) where
  pub fold-kinds : (d : ℕ) (ts : Forest) → holds mark ts ≡ false → kinds_of (fold f d ts) ≡ kinds_of ts
  fold-kinds d none e = refl
  fold-kinds d (tree h below rest) e =
      let t : Tree = record { head = h; children = below } in
      let kept : Tree = record { head = h; children = fold f (d + binders_of h) below } in
      let inner = or-right (mark h) (holds mark below || holds mark rest) e in
      let here : kind_of (unwrap_or (f d t) kept).head ≡ kind_of h = at (f d t) refl (or-left (mark h) (holds mark below || holds mark rest) e) in
      ap (λ (k : Kind). k ∷ kinds_of (fold f d rest)) here ∙ ap (λ (ks : List Kind). kind_of h ∷ ks) (fold-kinds d rest (or-right (holds mark below) (holds mark rest) inner))
    where
      at : (o : Option Tree) → f d (record { head = h; children = below }) ≡ o → mark h ≡ false
          → kind_of (unwrap_or o (record { head = h; children = fold f (d + binders_of h) below })).head ≡ kind_of h
      at (Some u) e m = keeps d (record { head = h; children = below }) u m e
      at None e m = refl

  -- a row that fits still does, if the answers fit, too
  module _ (w : World) (fit : (d : ℕ) (t u : Tree) → mark t.head ≡ false → f d t ≡ Some u → Fits w (begin u none)) where
    pub fold-fits : (d : ℕ) (ts : Forest) → holds mark ts ≡ false → Fits w ts → Fits w (fold f d ts)
    fold-fits d none e g = tt
    fold-fits d (tree h below rest) e g =
        let inner = or-right (mark h) (holds mark below || holds mark rest) e in
        let lower = or-left (holds mark below) (holds mark rest) inner in
        at (f d (record { head = h; children = below })) refl (or-left (mark h) (holds mark below || holds mark rest) e)
        (fold-kinds (d + binders_of h) below lower) (fold-fits (d + binders_of h) below lower g.1)
        (fold-fits d rest (or-right (holds mark below) (holds mark rest) inner) g.2)
      where
        at : (o : Option Tree) → f d (record { head = h; children = below }) ≡ o → mark h ≡ false
            → kinds_of (fold f (d + binders_of h) below) ≡ kinds_of below → Fits w (fold f (d + binders_of h) below) → Fits w (fold f d rest)
            → Fits w (begin (unwrap_or o (record { head = h; children = fold f (d + binders_of h) below })) (fold f d rest))
        at (Some u) e m same under others = let k = fit d (record { head = h; children = below }) u m e in (k.0, k.1, others)
        at None e m same under others = (ap (child_kinds w h) same ∙ (g.0 ∙ ap Some (sym same)), under, others)

-- answers that look at the head alone
abbrev pub HeadAnswers : Type 0
HeadAnswers = ℕ → Head → Option Tree

abbrev pub by_head : HeadAnswers → Answers
by_head f d t = f d t.head

-- One fold after another, which counts `n` binders more: it is the fold by the answers of the first with those of the second put
-- in, and by those of the second where the first has none.
module _ (f g k : HeadAnswers) (n : ℕ)
    (some : (e : ℕ) (h : Head) (u : Tree) → f e h ≡ Some u → k e h ≡ Some (fold_tree (by_head g) (e + n) u))
    (otherwise : (e : ℕ) (h : Head) → f e h ≡ None → k e h ≡ g (e + n) h) where
  pub fuse : (d : ℕ) (ts : Forest) → fold (by_head g) (d + n) (fold (by_head f) d ts) ≡ fold (by_head k) d ts
  fuse d none = refl
  fuse d (tree h below rest) =
      same_row (fold_tree (by_head g) (d + n) (unwrap_or (f d h) first)) (unwrap_or (k d h) both) _ _ (at (f d h) refl (fuse (d + binders_of h) below)) (fuse d rest)
    where
      first : Tree
      first = record { head = h; children = fold (by_head f) (d + binders_of h) below }

      both : Tree
      both = record { head = h; children = fold (by_head k) (d + binders_of h) below }

      at : (o : Option Tree) → f d h ≡ o
          → fold (by_head g) (d + binders_of h + n) (fold (by_head f) (d + binders_of h) below) ≡ fold (by_head k) (d + binders_of h) below
          → fold_tree (by_head g) (d + n) (unwrap_or o first) ≡ unwrap_or (k d h) both
      at (Some u) e below_it = sym (ap (λ (x : Option Tree). unwrap_or x both) (some d h u e))
      at None e below_it =
          let turned : d + n + binders_of h ≡ d + binders_of h + n = omega arith in
          let under = ap (λ (m : ℕ). fold (by_head g) m (fold (by_head f) (d + binders_of h) below)) turned ∙ below_it in
          let t : Tree = record { head = h; children = fold (by_head g) (d + n + binders_of h) (fold (by_head f) (d + binders_of h) below) } in
          let same : t ≡ both = ap (λ (b : Forest). let u : Tree = record { head = h; children = b } in u) under in
          ap (λ (x : Option Tree). unwrap_or x t) (sym (otherwise d h e)) ∙ ap (unwrap_or (k d h)) same

-- Trees that move under more binders in two steps move under as many in one.
further-twice : (a b : ℕ) (v : BoundVar) → further b (further a v) ≡ further (a + b) v
further-twice a b v = let e : v.depth + a + b ≡ v.depth + (a + b) = omega arith in ap (λ (d : ℕ). let x : BoundVar = record { depth = d; index = v.index } in x) e

le-more : (d e n : ℕ) → nat_le d e ≡ true → nat_le (d + n) (e + n) ≡ true
le-more d e n h = grind (arith, h)

gt-more : (d e n : ℕ) → nat_le d e ≡ false → nat_le (d + n) e ≡ false
gt-more d e n h = grind (arith, h)

-- a bound variable that moved, and moves once more
record Moved (a e : ℕ) (v : BoundVar) (head : BoundVar → Head) (u : Tree) : Type 0 where
  escaped : nat_le e v.depth ≡ true
  is : u ≡ leaf (head (further a v))

leaf-moved : (a e : ℕ) (v : BoundVar) (head : BoundVar → Head) (u : Tree) → moved_leaf a e v head ≡ Some u → Moved a e v head u
leaf-moved a e v head u q = at (nat_le e v.depth) refl
  where
    at : (b : Bool) → nat_le e v.depth ≡ b → Moved a e v head u
    at true h =
        let r : Some (leaf (head (further a v))) ≡ Some u = sym (ap (λ (b : Bool). if b then Some (leaf (head (further a v))) else None) h) ∙ q in
        record { escaped = h; is = cc }
    at false h = absurd (let r : None ≡ Some u = sym (ap (λ (b : Bool). if b then Some (leaf (head (further a v))) else None) h) ∙ q in cc)

leaf-stays : (a e : ℕ) (v : BoundVar) (head : BoundVar → Head) → moved_leaf a e v head ≡ None → nat_le e v.depth ≡ false
leaf-stays a e v head q = at (nat_le e v.depth) refl
  where
    at : (b : Bool) → nat_le e v.depth ≡ b → nat_le e v.depth ≡ false
    at true h = absurd (let r : Some (leaf (head (further a v))) ≡ None = sym (ap (λ (b : Bool). if b then Some (leaf (head (further a v))) else None) h) ∙ q in cc)
    at false h = h

leaf-moves : (a e : ℕ) (v : BoundVar) (head : BoundVar → Head) → nat_le e v.depth ≡ true → moved_leaf a e v head ≡ Some (leaf (head (further a v)))
leaf-moves a e v head h = ap (λ (b : Bool). if b then Some (leaf (head (further a v))) else None) h

leaf-rests : (a e : ℕ) (v : BoundVar) (head : BoundVar → Head) → nat_le e v.depth ≡ false → moved_leaf a e v head ≡ None
leaf-rests a e v head h = ap (λ (b : Bool). if b then Some (leaf (head (further a v))) else None) h

leaf-again : (a b e : ℕ) (v : BoundVar) (head : BoundVar → Head) → nat_le e v.depth ≡ true
    → moved_leaf (a + b) e v head ≡ Some (unwrap_or (moved_leaf b (e + a) (further a v) head) (leaf (head (further a v))))
leaf-again a b e v head h =
    let second = leaf-moves b (e + a) (further a v) head (le-more e v.depth a h) in
    leaf-moves (a + b) e v head h
    ∙ (ap (λ (x : BoundVar). Some (leaf (head x))) (sym (further-twice a b v))
    ∙ ap (λ (o : Option Tree). Some (unwrap_or o (leaf (head (further a v))))) (sym second))

leaf-neither : (a b e : ℕ) (v : BoundVar) (head : BoundVar → Head) → nat_le e v.depth ≡ false → moved_leaf (a + b) e v head ≡ moved_leaf b (e + a) v head
leaf-neither a b e v head h = leaf-rests (a + b) e v head h ∙ sym (leaf-rests b (e + a) v head (gt-more e v.depth a h))

shifted-some : (a b e : ℕ) (h : Head) (u : Tree) → moved a e h ≡ Some u → moved (a + b) e h ≡ Some (fold_tree (by_head (moved b)) (e + a) u)
shifted-some a b e (H.Bound v) u q =
    let m = leaf-moved a e v H.Bound u q in
    leaf-again a b e v H.Bound m.escaped ∙ ap (λ (t : Tree). Some (fold_tree (by_head (moved b)) (e + a) t)) (sym m.is)
shifted-some a b e (H.Const c) u q = at c q
  where
    at : (k : ConstHead) → moved a e (H.Const k) ≡ Some u → moved (a + b) e (H.Const k) ≡ Some (fold_tree (by_head (moved b)) (e + a) u)
    at (C.Bound v) q =
        let head : BoundVar → Head = λ x. H.Const (C.Bound x) in
        let m = leaf-moved a e v head u q in
        leaf-again a b e v head m.escaped ∙ ap (λ (t : Tree). Some (fold_tree (by_head (moved b)) (e + a) t)) (sym m.is)
    at _ q = absurd cc
shifted-some a b e (H.Region r) u q = at r q
  where
    at : (k : RegionKind) → moved a e (H.Region k) ≡ Some u → moved (a + b) e (H.Region k) ≡ Some (fold_tree (by_head (moved b)) (e + a) u)
    at (R.Bound v) q =
        let head : BoundVar → Head = λ x. H.Region (R.Bound x) in
        let m = leaf-moved a e v head u q in
        leaf-again a b e v head m.escaped ∙ ap (λ (t : Tree). Some (fold_tree (by_head (moved b)) (e + a) t)) (sym m.is)
    at _ q = absurd cc
shifted-some a b e _ u q = absurd cc

shifted-none : (a b e : ℕ) (h : Head) → moved a e h ≡ None → moved (a + b) e h ≡ moved b (e + a) h
shifted-none a b e (H.Bound v) q = leaf-neither a b e v H.Bound (leaf-stays a e v H.Bound q)
shifted-none a b e (H.Const c) q = at c q
  where
    at : (k : ConstHead) → moved a e (H.Const k) ≡ None → moved (a + b) e (H.Const k) ≡ moved b (e + a) (H.Const k)
    at (C.Bound v) q = leaf-neither a b e v (λ x. H.Const (C.Bound x)) (leaf-stays a e v (λ x. H.Const (C.Bound x)) q)
    at _ q = refl
shifted-none a b e (H.Region r) q = at r q
  where
    at : (k : RegionKind) → moved a e (H.Region k) ≡ None → moved (a + b) e (H.Region k) ≡ moved b (e + a) (H.Region k)
    at (R.Bound v) q = leaf-neither a b e v (λ x. H.Region (R.Bound x)) (leaf-stays a e v (λ x. H.Region (R.Bound x)) q)
    at _ q = refl
shifted-none a b e _ q = refl

pub shift-twice : (a b d : ℕ) (ts : Forest) → shift b (d + a) (shift a d ts) ≡ shift (a + b) d ts
shift-twice a b d ts = fuse (moved a) (moved b) (moved (a + b)) a (shifted-some a b) (shifted-none a b) d ts

-- the same of one tree
abbrev first : Forest → Tree
first none = error_tree
first (tree h below rest) = record { head = h; children = below }

shift_tree-twice : (a b : ℕ) (t : Tree) → fold_tree (by_head (moved b)) (0 + a) (shift_tree a t) ≡ shift_tree (a + b) t
shift_tree-twice a b t = ap first (shift-twice a b 0 (begin t none))

-- The parameters that stand in arguments, after a shift and before: shifting and putting arguments in may be exchanged.
abbrev or_else : Option Tree → Option Tree → Option Tree
or_else (Some t) o = Some t
or_else None o = o

or_else-none : (o : Option Tree) → or_else o None ≡ o
or_else-none (Some t) = refl
or_else-none None = refl

abbrev either_of : Forest → ℕ → HeadAnswers
either_of args n e h = or_else (moved n e h) (put args (e + n) h)

moved-leaf-of : (args : Forest) (n e m : ℕ) (h : Head) (u : Tree) → moved n e h ≡ Some u → fold_tree (by_head (put args)) m u ≡ u
moved-leaf-of args n e m (H.Bound v) u q =
    let i = (leaf-moved n e v H.Bound u q).is in ap (fold_tree (by_head (put args)) m) i ∙ sym i
moved-leaf-of args n e m (H.Const c) u q = at c q
  where
    at : (k : ConstHead) → moved n e (H.Const k) ≡ Some u → fold_tree (by_head (put args)) m u ≡ u
    at (C.Bound v) q = let i = (leaf-moved n e v (λ x. H.Const (C.Bound x)) u q).is in ap (fold_tree (by_head (put args)) m) i ∙ sym i
    at _ q = absurd cc
moved-leaf-of args n e m (H.Region r) u q = at r q
  where
    at : (k : RegionKind) → moved n e (H.Region k) ≡ Some u → fold_tree (by_head (put args)) m u ≡ u
    at (R.Bound v) q = let i = (leaf-moved n e v (λ x. H.Region (R.Bound x)) u q).is in ap (fold_tree (by_head (put args)) m) i ∙ sym i
    at _ q = absurd cc
moved-leaf-of args n e m _ u q = absurd cc

put-still : (args other : Forest) (d e : ℕ) (h : Head) → put args d h ≡ None → put other e h ≡ None
put-still args other d e (H.Param i) q = absurd cc
put-still args other d e (H.Const c) q = at c q
  where
    at : (k : ConstHead) → put args d (H.Const k) ≡ None → put other e (H.Const k) ≡ None
    at (C.Param i) q = absurd cc
    at _ q = refl
put-still args other d e _ q = refl

put-shifted : (args : Forest) (n e i : ℕ) → shift_tree (e + n) (argument args i) ≡ fold_tree (by_head (moved n)) (e + 0) (shift_tree e (argument args i))
put-shifted args n e i =
    let turned : 0 + e ≡ e + 0 = omega arith in
    sym (ap (λ (m : ℕ). fold_tree (by_head (moved n)) m (shift_tree e (argument args i))) (sym turned) ∙ shift_tree-twice e n (argument args i))

put-some : (args : Forest) (n e : ℕ) (h : Head) (u : Tree) → put args e h ≡ Some u → either_of args n e h ≡ Some (fold_tree (by_head (moved n)) (e + 0) u)
put-some args n e (H.Param i) u q =
    let is : shift_tree e (argument args i) ≡ u = cc in
    ap Some (put-shifted args n e i ∙ ap (fold_tree (by_head (moved n)) (e + 0)) is)
put-some args n e (H.Const c) u q = at c q
  where
    at : (k : ConstHead) → put args e (H.Const k) ≡ Some u → either_of args n e (H.Const k) ≡ Some (fold_tree (by_head (moved n)) (e + 0) u)
    at (C.Param i) q =
        let is : shift_tree e (argument args i) ≡ u = cc in
        ap Some (put-shifted args n e i ∙ ap (fold_tree (by_head (moved n)) (e + 0)) is)
    at _ q = absurd cc
put-some args n e _ u q = absurd cc

pub substituted-shift : (args : Forest) (n d : ℕ) (ts : Forest) → substituted args (d + n) (shift n d ts) ≡ shift n d (substituted args d ts)
substituted-shift args n d ts =
    let left = fuse (moved n) (put args) (either_of args n) n
    (λ e h u q. ap (λ (o : Option Tree). or_else o (put args (e + n) h)) q ∙ ap Some (sym (moved-leaf-of args n e (e + n) h u q)))
    (λ e h q. ap (λ (o : Option Tree). or_else o (put args (e + n) h)) q) d ts in
    let right = fuse (put args) (moved n) (either_of args n) 0 (put-some args n)
    (λ e h q. let same : e ≡ e + 0 = omega arith in
    ap (or_else (moved n e h)) (put-still args args e (e + n) h q) ∙ (or_else-none (moved n e h) ∙ ap (λ (m : ℕ). moved n m h) same)) d ts in
    let depth : d + 0 ≡ d = omega arith in
    left ∙ (sym right ∙ ap (λ (m : ℕ). fold (by_head (moved n)) m (substituted args d ts)) depth)

argument-of : (b : Forest) (a : Forest) (i : ℕ) → argument (substituted b 0 a) i ≡ fold_tree (by_head (put b)) 0 (argument a i)
argument-of b none i = refl
argument-of b (tree h below rest) zero = refl
argument-of b (tree h below rest) (suc i) = argument-of b rest i

shifted-argument : (a b : Forest) (e i : ℕ)
    → shift_tree e (argument (substituted b 0 a) i) ≡ fold_tree (by_head (put b)) (e + 0) (shift_tree e (argument a i))
shifted-argument a b e i =
    let turned : 0 + e ≡ e + 0 = omega arith in
    let t = argument a i in
    ap (shift_tree e) (argument-of b a i)
    ∙ (sym (ap first (substituted-shift b e 0 (begin t none))) ∙ ap (λ (m : ℕ). fold_tree (by_head (put b)) m (shift_tree e t)) turned)

twice-some : (a b : Forest) (e : ℕ) (h : Head) (u : Tree) → put a e h ≡ Some u → put (substituted b 0 a) e h ≡ Some (fold_tree (by_head (put b)) (e + 0) u)
twice-some a b e (H.Param i) u q =
    let is : shift_tree e (argument a i) ≡ u = cc in ap Some (shifted-argument a b e i ∙ ap (fold_tree (by_head (put b)) (e + 0)) is)
twice-some a b e (H.Const c) u q = at c q
  where
    at : (k : ConstHead) → put a e (H.Const k) ≡ Some u → put (substituted b 0 a) e (H.Const k) ≡ Some (fold_tree (by_head (put b)) (e + 0) u)
    at (C.Param i) q =
        let is : shift_tree e (argument a i) ≡ u = cc in ap Some (shifted-argument a b e i ∙ ap (fold_tree (by_head (put b)) (e + 0)) is)
    at _ q = absurd cc
twice-some a b e _ u q = absurd cc

-- substituting twice is substituting once, by the first arguments with the second put in
pub substituted-twice : (a b : Forest) (d : ℕ) (ts : Forest) → substituted b d (substituted a d ts) ≡ substituted (substituted b 0 a) d ts
substituted-twice a b d ts =
    let depth : d ≡ d + 0 = omega arith in
    ap (λ (m : ℕ). substituted b m (substituted a d ts)) depth
    ∙ fuse (put a) (put b) (put (substituted b 0 a)) 0 (twice-some a b)
    (λ e h q. put-still a (substituted b 0 a) e e h q ∙ sym (put-still a b e (e + 0) h q)) d ts

-- A shift keeps kinds, and what fits fits after it.
abbrev nowhere : Head → Bool
nowhere h = false

holds-nowhere : (ts : Forest) → holds nowhere ts ≡ false
holds-nowhere none = refl
holds-nowhere (tree h below rest) = ap (λ (b : Bool). b || holds nowhere rest) (holds-nowhere below) ∙ holds-nowhere rest

moved-kind : (n e : ℕ) (h : Head) (u : Tree) → moved n e h ≡ Some u → kind_of u.head ≡ kind_of h
moved-kind n e (H.Bound v) u q = ap (λ (t : Tree). kind_of t.head) (leaf-moved n e v H.Bound u q).is
moved-kind n e (H.Const c) u q = at c q
  where
    at : (k : ConstHead) → moved n e (H.Const k) ≡ Some u → kind_of u.head ≡ kind_of (H.Const k)
    at (C.Bound v) q = ap (λ (t : Tree). kind_of t.head) (leaf-moved n e v (λ x. H.Const (C.Bound x)) u q).is
    at _ q = absurd cc
moved-kind n e (H.Region r) u q = at r q
  where
    at : (k : RegionKind) → moved n e (H.Region k) ≡ Some u → kind_of u.head ≡ kind_of (H.Region k)
    at (R.Bound v) q = ap (λ (t : Tree). kind_of t.head) (leaf-moved n e v (λ x. H.Region (R.Bound x)) u q).is
    at _ q = absurd cc
moved-kind n e _ u q = absurd cc

moved-fits : (w : World) (n e : ℕ) (h : Head) (u : Tree) → moved n e h ≡ Some u → Fits w (begin u none)
moved-fits w n e (H.Bound v) u q = subst (λ (t : Tree). Fits w (begin t none)) (sym (leaf-moved n e v H.Bound u q).is) (refl, tt, tt)
moved-fits w n e (H.Const c) u q = at c q
  where
    at : (k : ConstHead) → moved n e (H.Const k) ≡ Some u → Fits w (begin u none)
    at (C.Bound v) q = subst (λ (t : Tree). Fits w (begin t none)) (sym (leaf-moved n e v (λ x. H.Const (C.Bound x)) u q).is) (refl, tt, tt)
    at _ q = absurd cc
moved-fits w n e (H.Region r) u q = at r q
  where
    at : (k : RegionKind) → moved n e (H.Region k) ≡ Some u → Fits w (begin u none)
    at (R.Bound v) q = subst (λ (t : Tree). Fits w (begin t none)) (sym (leaf-moved n e v (λ x. H.Region (R.Bound x)) u q).is) (refl, tt, tt)
    at _ q = absurd cc
moved-fits w n e _ u q = absurd cc

pub shift-fits : (w : World) (n d : ℕ) (ts : Forest) → Fits w ts → Fits w (shift n d ts)
shift-fits w n d ts g =
    fold-fits (by_head (moved n)) nowhere (λ e t u m q. moved-kind n e t.head u q) w (λ e t u m q. moved-fits w n e t.head u q) d ts (holds-nowhere ts) g

shift_tree-kind : (n : ℕ) (t : Tree) → kind_of (shift_tree n t).head ≡ kind_of t.head
shift_tree-kind n t = at (moved n 0 t.head) refl
  where
    at : (o : Option Tree) → moved n 0 t.head ≡ o
        → kind_of (unwrap_or o (record { head = t.head; children = fold (by_head (moved n)) (0 + binders_of t.head) t.children })).head ≡ kind_of t.head
    at (Some u) q = moved-kind n 0 t.head u q
    at None q = refl

-- A substitution by arguments that fit fits, where each parameter's argument is of its kind.
type-kind : (k : Kind) → is_type_kind k ≡ true → k ≡ TypeKind
type-kind TypeKind e = refl
type-kind _ e = absurd cc

constant-kind : (k : Kind) → is_constant_kind k ≡ true → k ≡ ConstantKind
constant-kind ConstantKind e = refl
constant-kind _ e = absurd cc

not-false : (b : Bool) → not b ≡ false → b ≡ true
not-false true e = refl
not-false false e = absurd cc

argument-fits : (w : World) (args : Forest) (i : ℕ) → Fits w args → Fits w (begin (argument args i) none)
argument-fits w none i g = (refl, tt, tt)
argument-fits w (tree h below rest) zero g = (g.0, g.1, tt)
argument-fits w (tree h below rest) (suc i) g = argument-fits w rest i g.2

put-kind : (args : Forest) (d : ℕ) (h : Head) (u : Tree) → is_misplaced args h ≡ false → put args d h ≡ Some u → kind_of u.head ≡ kind_of h
put-kind args d (H.Param i) u m q =
    let is : shift_tree d (argument args i) ≡ u = cc in
    sym (ap (λ (t : Tree). kind_of t.head) is) ∙ (shift_tree-kind d (argument args i) ∙ type-kind _ (not-false _ m))
put-kind args d (H.Const c) u m q = at c m q
  where
    at : (k : ConstHead) → is_misplaced args (H.Const k) ≡ false → put args d (H.Const k) ≡ Some u → kind_of u.head ≡ ConstantKind
    at (C.Param i) m q =
        let is : shift_tree d (argument args i) ≡ u = cc in
        sym (ap (λ (t : Tree). kind_of t.head) is) ∙ (shift_tree-kind d (argument args i) ∙ constant-kind _ (not-false _ m))
    at _ m q = absurd cc
put-kind args d _ u m q = absurd cc

put-fits : (w : World) (args : Forest) → Fits w args → (d : ℕ) (h : Head) (u : Tree) → put args d h ≡ Some u → Fits w (begin u none)
put-fits w args g d (H.Param i) u q =
    let is : shift_tree d (argument args i) ≡ u = cc in
    subst (λ (t : Tree). Fits w (begin t none)) is (shift-fits w d 0 (begin (argument args i) none) (argument-fits w args i g))
put-fits w args g d (H.Const c) u q = at c q
  where
    at : (k : ConstHead) → put args d (H.Const k) ≡ Some u → Fits w (begin u none)
    at (C.Param i) q =
        let is : shift_tree d (argument args i) ≡ u = cc in
        subst (λ (t : Tree). Fits w (begin t none)) is (shift-fits w d 0 (begin (argument args i) none) (argument-fits w args i g))
    at _ q = absurd cc
put-fits w args g d _ u q = absurd cc

pub substituted-fits : (w : World) (args : Forest) (d : ℕ) (ts : Forest) → holds (is_misplaced args) ts ≡ false → Fits w args → Fits w ts
    → Fits w (substituted args d ts)
substituted-fits w args d ts m a g =
    fold-fits (by_head (put args)) (is_misplaced args) (λ e t u n q. put-kind args e t.head u n q) w (λ e t u n q. put-fits w args a e t.head u q) d ts m g
