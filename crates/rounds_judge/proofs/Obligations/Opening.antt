-- What stood under a binder, with placeholders in the place of its variables.
use Rattle.std.proofs.Common.{◌≡◌, ℕ, zero, suc, ◌+◌, ◌==◌, Bool, true, false, List, [], ◌∷◌, Option, Some, None, nat_le, nat_lt, arith, refl, sym, ap, subst, ◌∙◌, if◌then◌else◌}
use Rattle.std.specs.Option.{unwrap_or}
use Rattle.ir_trees.specs.declared.ir.heads.Head.{Head}
use Rattle.ir_trees.specs.declared.ir.heads.Head.TheVariants as H
use Rattle.ir_trees.specs.declared.ir.heads.ConstHead.TheVariants as C
use Rattle.ir_trees.specs.declared.ir.kinds.BoundVar.{BoundVar}
use Rattle.ir_trees.specs.declared.ir.kinds.RegionKind.TheVariants as R
use Rattle.ir_trees.specs.declared.ir.kinds.VarKind.{VarKind}
use Rattle.ir_trees.specs.declared.ir.kinds.VarKind.TheVariants as V
use Rattle.candidate_eval.proofs.Marks.Holds.{holds_parts}
use Rattle.ir_trees.specs.Syntax.Trees.{Kind, ConstantKind, RegionKind, Forest, none, tree, Tree, kind_of, holds, binders_of}
use Rattle.ir_trees.specs.Syntax.Binders.{is_beyond, escapes}
use Rattle.ir_trees.specs.Instantiation.Folding.{fold, leaf, argument, shift_tree}
use Rattle.ir_trees.specs.Unification.Substitutions.{alone}
use Rattle.ir_trees.proofs.Instantiation.Folding.{begin}
use Rattle.ir_trees.specs.Instantiation.Opening.{is_of, of_kind, error_of, bound_head, nearer, opened_variable, opened_head}
use Rattle.candidate_eval.specs.Judges.States.{Values, valued, valued_tree, placeholder, placeholders}
use Rattle.candidate_eval.specs.Derivations.Characterization.{is_any_bound}
use Rattle.rounds_judge.proofs.States.Marks.{escape_parts, escape_whole, escapes_on, fold_marked, valued_node}

-- What stands for a head: an argument, a variable that is bound further out, or nothing.
pub data Opens (ts : Forest) (d : ℕ) (h : Head) : Option Tree → Type 0 where
  argument_of : (k : VarKind) (i : ℕ) → is_any_bound h ≡ true → Opens ts d h (Some (shift_tree d (of_kind k (argument ts i))))
  further_out : (g : Head) → is_any_bound h ≡ true → is_any_bound g ≡ true → is_beyond (suc d) h ≡ true → Opens ts d h (Some (leaf g))
  itself : (is_beyond (suc d) h ≡ false → is_beyond d h ≡ false) → Opens ts d h None

is_bound : (k : VarKind) (v : BoundVar) → is_any_bound (bound_head k v) ≡ true
is_bound V.Ty v = refl
is_bound V.Const v = refl
is_bound V.Region v = refl

module _ (ts : Forest) (d : ℕ) (h : Head) (v : BoundVar) (k : VarKind) (bound : is_any_bound h ≡ true) (depth : (n : ℕ) → is_beyond n h ≡ nat_le n v.depth) where
  opens_variable : Opens ts d h (opened_variable ts d k v)
  opens_variable = at (v.depth == d) refl
    where
      less : (n m : ℕ) → (n == m) ≡ false → nat_lt m n ≡ false → nat_le m n ≡ false
      less n m e f = grind (arith, e, f)

      by : (b : Bool) → nat_lt d v.depth ≡ b → (v.depth == d) ≡ false → Opens ts d h (if b then Some (leaf (bound_head k (nearer v))) else None)
      by true e f = further_out (bound_head k (nearer v)) bound (is_bound k (nearer v)) (depth (suc d) ∙ e)
      by false e f = itself (λ g. depth d ∙ less v.depth d f e)

      at : (b : Bool) → (v.depth == d) ≡ b → Opens ts d h (if b then Some (shift_tree d (of_kind k (argument ts v.index))) else (if nat_lt d v.depth then Some (leaf (bound_head k (nearer v))) else None))
      at true e = argument_of k v.index bound
      at false e = by (nat_lt d v.depth) refl e

pub which_opens : (ts : Forest) (d : ℕ) (h : Head) → Opens ts d h (opened_head ts d h)
which_opens ts d (H.Bound v) = opens_variable ts d (H.Bound v) v V.Ty refl (λ n. refl)
which_opens ts d (H.Const (C.Bound v)) = opens_variable ts d (H.Const (C.Bound v)) v V.Const refl (λ n. refl)
which_opens ts d (H.Region (R.Bound v)) = opens_variable ts d (H.Region (R.Bound v)) v V.Region refl (λ n. refl)
which_opens ts d _ = itself (λ e. refl)

pub each_error : (P : Head → Type 0) → P H.Error → P (H.Const C.Error) → P (H.Region R.Error) → (k : VarKind) → P (error_of k)
each_error P a b c V.Ty = a
each_error P a b c V.Const = b
each_error P a b c V.Region = c

-- What holds of each placeholder, and of each error, holds of each argument.
pub each_argument : (P : Tree → Type 0) (u : ℕ) → ((k : Kind) (i : ℕ) → P (leaf (placeholder k u i))) → ((k : VarKind) → P (leaf (error_of k))) → (v : VarKind) (n : ℕ) (ks : List Kind) (i : ℕ)
    → P (of_kind v (argument (placeholders u n ks) i))
each_argument P u p e v n ks i = at (is_of v (kind_of (argument (placeholders u n ks) i).head))
  where
    raw : (n : ℕ) (ks : List Kind) (i : ℕ) → P (argument (placeholders u n ks) i)
    raw n [] i = e V.Ty
    raw n (k ∷ ks) zero = p k n
    raw n (k ∷ ks) (suc i) = raw (suc n) ks i

    at : (b : Bool) → P (if b then argument (placeholders u n ks) i else leaf (error_of v))
    at true = raw n ks i
    at false = e v

shifted_placeholder : (d u : ℕ) (k : Kind) (i : ℕ) → shift_tree d (leaf (placeholder k u i)) ≡ leaf (placeholder k u i)
shifted_placeholder d u ConstantKind i = refl
shifted_placeholder d u RegionKind i = refl
shifted_placeholder d u _ i = refl

shifted_error : (d : ℕ) (k : VarKind) → shift_tree d (leaf (error_of k)) ≡ leaf (error_of k)
shifted_error d = each_error (λ h. shift_tree d (leaf h) ≡ leaf h) refl refl refl

pub shifted_argument : (d u : ℕ) (k : VarKind) (n : ℕ) (ks : List Kind) (i : ℕ) → shift_tree d (of_kind k (argument (placeholders u n ks) i)) ≡ of_kind k (argument (placeholders u n ks) i)
shifted_argument d u k n ks i = each_argument (λ t. shift_tree d t ≡ t) u (λ k i. shifted_placeholder d u k i) (shifted_error d) k n ks i

module _ (u : ℕ) (ks : List Kind) where
  abbrev pub opens : ℕ → Forest → Forest
  opens d ts = fold (λ d t. opened_head (placeholders u 0 ks) d t.head) d ts

  placeholder_closed : (n : ℕ) (k : Kind) (i : ℕ) → escapes n (alone (leaf (placeholder k u i))) ≡ false
  placeholder_closed n ConstantKind i = refl
  placeholder_closed n RegionKind i = refl
  placeholder_closed n _ i = refl

  error_closed : (n : ℕ) (k : VarKind) → escapes n (alone (leaf (error_of k))) ≡ false
  error_closed n = each_error (λ h. escapes n (alone (leaf h)) ≡ false) refl refl refl

  argument_closed : (n d : ℕ) (k : VarKind) (i : ℕ) → escapes n (alone (shift_tree d (of_kind k (argument (placeholders u 0 ks) i)))) ≡ false
  argument_closed n d k i = subst (λ t. escapes n (alone t) ≡ false) (sym (shifted_argument d u k 0 ks i)) (each_argument (λ t. escapes n (alone t) ≡ false) u (placeholder_closed n) (error_closed n) k 0 ks i)

  -- one binder less
  pub opened_closed : (d : ℕ) (ts : Forest) → escapes (suc d) ts ≡ false → escapes d (opens d ts) ≡ false
  opened_closed d none e = refl
  opened_closed d (tree h below rest) e =
      let p = escape_parts (suc d) h below rest e in
      node (opened_head (placeholders u 0 ks) d h) (which_opens (placeholders u 0 ks) d h) p.here (opened_closed (d + binders_of h) below (escapes_on (suc d + binders_of h) (suc (d + binders_of h)) below (omega arith) p.under)) (opened_closed d rest p.others)
    where
      node : (o : Option Tree) → Opens (placeholders u 0 ks) d h o → is_beyond (suc d) h ≡ false → escapes (d + binders_of h) (opens (d + binders_of h) below) ≡ false → escapes d (opens d rest) ≡ false
          → escapes d (begin (unwrap_or o (record { head = h; children = opens (d + binders_of h) below })) (opens d rest)) ≡ false
      node _ (argument_of k i b) q under others =
          let t : Tree = shift_tree d (of_kind k (argument (placeholders u 0 ks) i)) in
          let z = escape_parts d t.head t.children none (argument_closed d d k i) in
          escape_whole d t.head t.children (opens d rest) z.here z.under others
      node _ (further_out g b c f) q under others = absurd (let clash : true ≡ false = sym f ∙ q in cc)
      node _ (itself f) q under others = escape_whole d h (opens (d + binders_of h) below) (opens d rest) (f q) under others

  -- what is closed stays
  pub closed_stays : (d : ℕ) (ts : Forest) → escapes d ts ≡ false → opens d ts ≡ ts
  closed_stays d none e = refl
  closed_stays d (tree h below rest) e =
      let p = escape_parts d h below rest e in
      node (opened_head (placeholders u 0 ks) d h) refl p.here (closed_stays (d + binders_of h) below p.under) (closed_stays d rest p.others)
    where
      quiet : (v : BoundVar) (k : VarKind) → nat_le d v.depth ≡ false → opened_variable (placeholders u 0 ks) d k v ≡ None
      quiet v k e = ap (λ b. if b then Some (shift_tree d (of_kind k (argument (placeholders u 0 ks) v.index))) else (if nat_lt d v.depth then Some (leaf (bound_head k (nearer v))) else None)) (not_same v.depth d e)
          ∙ ap (λ b. if b then Some (leaf (bound_head k (nearer v))) else None) (not_less v.depth d e)
        where
          not_same : (n m : ℕ) → nat_le m n ≡ false → (n == m) ≡ false
          not_same n m e = grind (arith, e)

          not_less : (n m : ℕ) → nat_le m n ≡ false → nat_lt m n ≡ false
          not_less n m e = grind (arith, e)

      nothing : (h : Head) → is_beyond d h ≡ false → opened_head (placeholders u 0 ks) d h ≡ None
      nothing (H.Bound v) e = quiet v V.Ty e
      nothing (H.Const (C.Bound v)) e = quiet v V.Const e
      nothing (H.Region (R.Bound v)) e = quiet v V.Region e
      nothing _ e = refl

      node : (o : Option Tree) → opened_head (placeholders u 0 ks) d h ≡ o → is_beyond d h ≡ false → opens (d + binders_of h) below ≡ below → opens d rest ≡ rest
          → begin (unwrap_or o (record { head = h; children = opens (d + binders_of h) below })) (opens d rest) ≡ tree h below rest
      node None f q under others = ap (λ b. tree h b (opens d rest)) under ∙ ap (tree h below) others
      node (Some t) f q under others = absurd (let clash : None ≡ Some t = sym (nothing h q) ∙ f in cc)

  -- a mark that neither bound variables bear nor these placeholders
  pub opened_marked : (mark other : Head → Bool) → ((h : Head) → mark h ≡ false → other h ≡ false) → ((h : Head) → is_any_bound h ≡ true → other h ≡ false)
      → ((k : Kind) (i : ℕ) → other (placeholder k u i) ≡ false) → ((k : VarKind) → other (error_of k) ≡ false) → (d : ℕ) (ts : Forest) → holds mark ts ≡ false → holds other (opens d ts) ≡ false
  opened_marked mark other kept bound placed err d ts m =
      fold_marked (λ d t. opened_head (placeholders u 0 ks) d t.head) mark mark other (λ d t a b e. kept t.head a) (λ d t x a b e. node d t.head (opened_head (placeholders u 0 ks) d t.head) (which_opens (placeholders u 0 ks) d t.head) x e) d ts m m
    where
      single : (h : Head) → other h ≡ false → holds other (alone (leaf h)) ≡ false
      single h e = rw e refl

      argument_marked : (d : ℕ) (k : VarKind) (i : ℕ) → holds other (alone (shift_tree d (of_kind k (argument (placeholders u 0 ks) i)))) ≡ false
      argument_marked d k i =
          subst (λ t. holds other (alone t) ≡ false) (sym (shifted_argument d u k 0 ks i)) (each_argument (λ t. holds other (alone t) ≡ false) u (λ k i. single (placeholder k u i) (placed k i)) (λ k. single (error_of k) (err k)) k 0 ks i)

      node : (d : ℕ) (h : Head) (o : Option Tree) → Opens (placeholders u 0 ks) d h o → (x : Tree) → o ≡ Some x → holds other (alone x) ≡ false
      node d h _ (argument_of k i b) x e = subst (λ t. holds other (alone t) ≡ false) (let is : shift_tree d (of_kind k (argument (placeholders u 0 ks) i)) ≡ x = cc in is) (argument_marked d k i)
      node d h _ (further_out g b c f) x e = subst (λ t. holds other (alone t) ≡ false) (let is : leaf g ≡ x = cc in is) (single g (bound g c))
      node d h _ (itself f) x e = cc

-- Values and placeholders may be put in in either order, where the values are closed and stand for variables alone; asked of heads without a mark.
module _ (v : Values) (free : (h : Head) → is_any_bound h ≡ true → v h ≡ None) (placed : (k : Kind) (u i : ℕ) → v (placeholder k u i) ≡ None) (err : (k : VarKind) → v (error_of k) ≡ None)
    (m : Head → Bool) (are_closed : (h : Head) (t : Tree) → m h ≡ false → v h ≡ Some t → escapes 0 (alone t) ≡ false) (u : ℕ) (ks : List Kind) where
  single_stays : (h : Head) → v h ≡ None → valued_tree v (leaf h) ≡ leaf h
  single_stays h e = ap (λ o. unwrap_or o (leaf h)) e

  argument_stays : (d : ℕ) (k : VarKind) (i : ℕ) → valued_tree v (shift_tree d (of_kind k (argument (placeholders u 0 ks) i))) ≡ shift_tree d (of_kind k (argument (placeholders u 0 ks) i))
  argument_stays d k i =
      subst (λ t. valued_tree v t ≡ t) (sym (shifted_argument d u k 0 ks i)) (each_argument (λ t. valued_tree v t ≡ t) u (λ k i. single_stays (placeholder k u i) (placed k u i)) (λ k. single_stays (error_of k) (err k)) k 0 ks i)

  with_rest : Forest → Forest → Forest
  with_rest r none = none
  with_rest r (tree h a b) = tree h a r

  closed_first : (d : ℕ) (x : Tree) (r : Forest) → escapes 0 (alone x) ≡ false → opens u ks d (begin x r) ≡ begin x (opens u ks d r)
  unfolding with_rest
  closed_first d x r e = ap (with_rest (opens u ks d r)) (closed_stays u ks d (alone x) (escapes_on 0 d (alone x) (omega arith) e))

  module _ (d : ℕ) (h : Head) (below rest : Forest) where
    abbrev under : Forest
    under = opens u ks (d + binders_of h) below

    abbrev others : Forest
    others = opens u ks d rest

    -- what stands for the head holds no variable
    opened_first : v h ≡ None → (p : Option Tree) → Opens (placeholders u 0 ks) d h p
        → begin (unwrap_or p (record { head = h; children = valued v under })) (valued v others) ≡ valued v (begin (unwrap_or p (record { head = h; children = under })) others)
    opened_first e _ (argument_of k i b) = ap (λ t. begin t (valued v others)) (sym (argument_stays d k i))
    opened_first e _ (further_out g b c f) = ap (λ t. begin t (valued v others)) (sym (single_stays g (free g c)))
    opened_first e _ (itself f) = ap (λ o. begin (unwrap_or o (record { head = h; children = valued v under })) (valued v others)) (sym e) ∙ sym (valued_node v h under others)

    -- a head that has a value is none of those
    valued_first : (x : Tree) → v h ≡ Some x → (p : Option Tree) → Opens (placeholders u 0 ks) d h p → begin x (valued v others) ≡ valued v (begin (unwrap_or p (record { head = h; children = under })) others)
    valued_first x e _ (argument_of k i b) = absurd (let clash : None ≡ Some x = sym (free h b) ∙ e in cc)
    valued_first x e _ (further_out g b c f) = absurd (let clash : None ≡ Some x = sym (free h b) ∙ e in cc)
    valued_first x e _ (itself f) = ap (λ o. begin (unwrap_or o (record { head = h; children = valued v under })) (valued v others)) (sym e) ∙ sym (valued_node v h under others)

    opened_node : m h ≡ false → opens u ks (d + binders_of h) (valued v below) ≡ valued v under → opens u ks d (valued v rest) ≡ valued v others → (o : Option Tree) → v h ≡ o
        → opens u ks d (begin (unwrap_or o (record { head = h; children = valued v below })) (valued v rest)) ≡ valued v (begin (unwrap_or (opened_head (placeholders u 0 ks) d h) (record { head = h; children = under })) others)
    opened_node k a b None e =
        ap (λ x. begin (unwrap_or (opened_head (placeholders u 0 ks) d h) (record { head = h; children = x })) (opens u ks d (valued v rest))) a
        ∙ ap (begin (unwrap_or (opened_head (placeholders u 0 ks) d h) (record { head = h; children = valued v under }))) b
        ∙ opened_first e (opened_head (placeholders u 0 ks) d h) (which_opens (placeholders u 0 ks) d h)
    opened_node k a b (Some x) e =
        closed_first d x (valued v rest) (are_closed h x k e) ∙ ap (begin x) b
        ∙ valued_first x e (opened_head (placeholders u 0 ks) d h) (which_opens (placeholders u 0 ks) d h)

  pub opened_valued : (d : ℕ) (ts : Forest) → holds m ts ≡ false → opens u ks d (valued v ts) ≡ valued v (opens u ks d ts)
  opened_valued d none k = refl
  opened_valued d (tree h below rest) k =
      let p = holds_parts m h below rest k in
      ap (opens u ks d) (valued_node v h below rest) ∙ opened_node d h below rest p.here (opened_valued (d + binders_of h) below p.under) (opened_valued d rest p.others) (v h) refl
