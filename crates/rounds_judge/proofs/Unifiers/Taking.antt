-- Where a solution makes two trees equal, a look doesn't refuse them.
use Rattle.std.proofs.Common.{◌≡◌, ◌≤◌, ◌⊎◌, inl, inr, ℕ, suc, ◌+◌, Bool, true, false, not, ◌||◌, ◌&&◌, refl, sym, ap, subst, ◌∙◌, arith}
use Rattle.ir_trees.specs.declared.ir.heads.Head.{Head}
use Rattle.ir_trees.specs.declared.ir.heads.Head.TheVariants as H
use Rattle.ir_trees.specs.declared.ir.heads.Builtin.{Builtin}
use Rattle.ir_trees.specs.declared.ir.heads.Builtin.TheVariants as B
use Rattle.ir_trees.specs.declared.ir.heads.Variable.{Variable}
use Rattle.ir_trees.specs.declared.ir.heads.VariableSort.{VariableSort}
use Rattle.ir_trees.specs.declared.ir.heads.VariableSort.TheVariants as V
use Rattle.ir_trees.specs.Syntax.Trees.{Kind, ConstantKind, Forest, none, tree, Tree, kind_of, is_type_kind, sort_kind, erase, erased_head, holds, is_number}
use Rattle.ir_trees.specs.Syntax.Binders.{escapes}
use Rattle.ir_trees.specs.Unification.Unify.{same_head}
use Rattle.ir_trees.specs.Unification.Substitutions.{Substitution, alone, same_sort, fits_sort, is_integer, is_float, is_constant_kind, is_variable, is_placeholder_above}
use Rattle.ir_trees.proofs.Syntax.Equal.{head_is, head_itself}
use Rattle.ir_trees.proofs.Unification.Instances.{same_sort_is}
use Rattle.candidate_eval.specs.declared.eval.variable.VariableKind.TheVariants.{Term}
use Rattle.candidate_eval.specs.Judges.States.{State, has_kind}
use Rattle.candidate_eval.specs.Judges.Alike.{info}
use Rattle.candidate_eval.specs.Judges.Soundness.{Live, AreLeaves, is_leaf, is_region, universe_in}
use Rattle.candidate_eval.proofs.Marks.Holds.{holds_parts}
use Rattle.rounds_judge.specs.Equations.Scopes.{Scope}
use Rattle.rounds_judge.specs.Equations.Binding.{occurs, may_take}
use Rattle.rounds_judge.proofs.States.Later.{kind_there}
use Rattle.rounds_judge.proofs.States.Bound.{same_sort_itself, integer_is_type, float_is_type}
use Rattle.rounds_judge.proofs.Unifiers.Putting.{put_in, assigned}
use Rattle.rounds_judge.proofs.Equations.Meeting.{Declines}
use Rattle.rounds_judge.proofs.Equations.Sides.{Absorbs}
use Rattle.rounds_judge.proofs.Equations.Offered.{IsOffered, is_unknown}
use Rattle.rounds_judge.proofs.Unifiers.Solving.{value_under, IsMet, made, is_quiet, fits_erased, fits_region, erased_closed, back_closed, back_marked, numbered_head, or_either}

-- No tree is part of a variable's own tree.

abbrev nodes : Forest → ℕ
nodes none = 0
nodes (tree h a r) = suc (nodes a + nodes r)

nodes_erased : (ts : Forest) → nodes (erase ts) ≡ nodes ts
nodes_erased none = refl
nodes_erased (tree h a r) = rw (nodes_erased a, nodes_erased r) refl

no_smaller : (S : State) (L : Live) (s : Substitution) (v : Variable) → is_unknown S L (H.Infer v) ≡ false → (ts : Forest) → holds (is_unknown S L) ts ≡ false
    → holds (is_number v.number) ts ≡ true → AreLeaves ts → nodes (alone (value_under s v)) ≤ nodes (put_in (assigned s) ts)
no_smaller S L s v k none u o l = cc
no_smaller S L s v k (tree h a r) u o l =
    let q = holds_parts (is_unknown S L) h a r u in
    at (or_either (is_number v.number h) (holds (is_number v.number) a || holds (is_number v.number) r) o)
    (λ n. here (numbered_head S L v h k q.here n))
    (λ n. inside h (l.0) n (no_smaller S L s v k a q.under n l.1))
    (λ n. others (no_smaller S L s v k r q.others n l.2))
  where
    here : h ≡ H.Infer v → nodes (alone (value_under s v)) ≤ nodes (put_in (assigned s) (tree h a r))
    here e = subst (λ g. nodes (alone (value_under s v)) ≤ nodes (put_in (assigned s) (tree g a r))) (sym e) (omega arith)

    inside : (h : Head) → (is_leaf h ≡ true → a ≡ none) → holds (is_number v.number) a ≡ true → nodes (alone (value_under s v)) ≤ nodes (put_in (assigned s) a)
        → nodes (alone (value_under s v)) ≤ nodes (put_in (assigned s) (tree h a r))
    inside (H.Infer w) l n f = absurd (let clash : false ≡ true = sym (ap (holds (is_number v.number)) (l refl)) ∙ n in cc)
    inside h l n f = omega (arith, f)

    others : nodes (alone (value_under s v)) ≤ nodes (put_in (assigned s) r) → nodes (alone (value_under s v)) ≤ nodes (put_in (assigned s) (tree h a r))
    others f = omega (arith, f)

    at : (is_number v.number h ≡ true) ⊎ ((holds (is_number v.number) a || holds (is_number v.number) r) ≡ true)
        → (is_number v.number h ≡ true → nodes (alone (value_under s v)) ≤ nodes (put_in (assigned s) (tree h a r)))
        → (holds (is_number v.number) a ≡ true → nodes (alone (value_under s v)) ≤ nodes (put_in (assigned s) (tree h a r)))
        → (holds (is_number v.number) r ≡ true → nodes (alone (value_under s v)) ≤ nodes (put_in (assigned s) (tree h a r)))
        → nodes (alone (value_under s v)) ≤ nodes (put_in (assigned s) (tree h a r))
    at (inl n) f g j = f n
    at (inr n) f g j = by (or_either (holds (is_number v.number) a) (holds (is_number v.number) r) n)
      where
        by : (holds (is_number v.number) a ≡ true) ⊎ (holds (is_number v.number) r ≡ true) → nodes (alone (value_under s v)) ≤ nodes (put_in (assigned s) (tree h a r))
        by (inl n) = g n
        by (inr n) = j n

too_large : (s : Substitution) (x t : Tree) → is_variable t.head ≡ false → erase (alone x) ≡ made s (alone t) → nodes (alone x) ≤ nodes (put_in (assigned s) t.children) → ⊥
too_large s x t n e le = at t.head n e
  where
    larger : (a b : ℕ) → a ≡ suc (b + 0) → a ≤ b → ⊥
    larger a b e f = omega (arith, e, f)

    count : (h : Head) → erase (alone x) ≡ erase (tree h (put_in (assigned s) t.children) none) → nodes (alone x) ≡ suc (nodes (put_in (assigned s) t.children) + 0)
    count h e = sym (nodes_erased (alone x)) ∙ ap nodes e ∙ nodes_erased (tree h (put_in (assigned s) t.children) none)

    at : (h : Head) → is_variable h ≡ false → erase (alone x) ≡ made s (tree h t.children none) → ⊥
    at (H.Infer v) n e = cc
    at h n e = larger (nodes (alone x)) (nodes (put_in (assigned s) t.children)) (count h e) le

-- What a solution makes equal to a variable, the variable may take.

five : (a b c d e : Bool) → a ≡ true → b ≡ true → c ≡ false → d ≡ false → e ≡ false → (a && (b && (not c && (not d && not e)))) ≡ true
five a b c d e f g i j k = rw (f, g, i, j, k) refl

module _ (S : State) (L : Live) (us : Scope) (s : Substitution) (m : IsMet S L s) (a : Absorbs (assigned s) S L) (v : Variable) (k : is_unknown S L (H.Infer v) ≡ false)
    (y t : Tree) (o : IsOffered S L us y t) (e : erase (alone (value_under s v)) ≡ made s (alone y)) (n : same_head (H.Infer v) y.head ≡ false) (f : fits_sort v.sort y.head ≡ true) where
  own : t.head ≡ y.head
  own = o.head (fits_region v.sort y.head f)

  same : erase (alone (value_under s v)) ≡ made s (alone t)
  same = e ∙ sym (o.same (assigned s) a (is_quiet s))

  not_own : is_number v.number t.head ≡ false
  not_own = at (is_number v.number t.head) refl
    where
      at : (b : Bool) → is_number v.number t.head ≡ b → b ≡ false
      at false g = refl
      at true g =
          let is : t.head ≡ H.Infer v = numbered_head S L v t.head k (holds_parts (is_unknown S L) t.head t.children none o.known).here g in
          sym (head_itself (H.Infer v)) ∙ ap (same_head (H.Infer v)) (sym is ∙ own) ∙ n

  not_below : holds (is_number v.number) t.children ≡ false
  not_below = at (holds (is_number v.number) t.children) refl
    where
      bare : (h : Head) → (is_leaf h ≡ true → t.children ≡ none) → holds (is_number v.number) t.children ≡ true → is_variable h ≡ false
      bare (H.Infer w) l g = absurd (let clash : false ≡ true = sym (ap (holds (is_number v.number)) (l refl)) ∙ g in cc)
      bare h l g = refl

      at : (b : Bool) → holds (is_number v.number) t.children ≡ b → b ≡ false
      at false g = refl
      at true g = absurd (too_large s (value_under s v) t (bare t.head o.leaves.0 g) same
          (no_smaller S L s v k t.children (holds_parts (is_unknown S L) t.head t.children none o.known).under g o.leaves.1))

  not_in : occurs v.number t ≡ false
  not_in = rw (not_own, not_below) refl

  is_closed : escapes 0 (alone t) ≡ false
  is_closed = o.is_closed (back_closed s 0 (alone t) o.leaves (ap (escapes 0) (sym same) ∙ erased_closed 0 (alone (value_under s v)) (m.allowed v k).is_closed))

  in_universe : holds (is_placeholder_above (universe_in (info S v.number))) (erase (alone t)) ≡ false
  in_universe = back_marked s (is_placeholder_above (universe_in (info S v.number))) (λ w. refl) (alone t) o.leaves
      (ap (holds (is_placeholder_above (universe_in (info S v.number)))) (sym same) ∙ (m.allowed v k).in_universe)

  unnot : (b : Bool) → not b ≡ false → b ≡ true
  unnot true e = refl
  unnot false e = cc

  pub takes : may_take S v t ≡ true
  takes = five (has_kind (Term v.sort) (info S v.number)) (fits_sort v.sort t.head) (occurs v.number t) (escapes 0 (alone t)) (holds (is_placeholder_above (universe_in (info S v.number))) (erase (alone t)))
      (kind_there (L v.number) (Term v.sort) (info S v.number) k) (ap (fits_sort v.sort) own ∙ f) not_in is_closed in_universe

-- Sorts

two_builtins : (b : Builtin) → is_integer (H.Builtin b) ≡ true → is_float (H.Builtin b) ≡ true → ⊥
two_builtins (B.Int w) e f = cc
two_builtins (B.Uint w) e f = cc
two_builtins _ e f = cc

not_both : (x : Head) → is_integer x ≡ true → is_float x ≡ true → ⊥
not_both (H.Infer v) e f = let a = same_sort_is v.sort V.Integer e in let b = same_sort_is v.sort V.Floating f in let clash : V.Integer ≡ V.Floating = sym a ∙ b in cc
not_both (H.Builtin b) e f = two_builtins b e f
not_both _ e f = cc

constant_no_type : (k : Kind) → is_constant_kind k ≡ true → is_type_kind k ≡ true → ⊥
constant_no_type ConstantKind e f = cc
constant_no_type _ e f = cc

sort_of_its_own : (w : Variable) (s : VariableSort) → w.sort ≡ s → same_sort w.sort s ≡ true
sort_of_its_own w s e = subst (λ z. same_sort z s ≡ true) (sym e) (same_sort_itself s)

-- of two variables that can go to one tree, one can go to the other
sorts : (v w : Variable) (x : Head) → fits_sort v.sort x ≡ true → fits_sort w.sort x ≡ true → (fits_sort v.sort (H.Infer w) ≡ true) ⊎ (fits_sort w.sort (H.Infer v) ≡ true)
sorts v w x = at v.sort w.sort refl refl
  where
    at : (s t : VariableSort) → v.sort ≡ s → w.sort ≡ t → fits_sort s x ≡ true → fits_sort t x ≡ true → (fits_sort s (H.Infer w) ≡ true) ⊎ (fits_sort t (H.Infer v) ≡ true)
    at V.General V.General e f i j = inl (ap (λ s. is_type_kind (sort_kind s)) f)
    at V.General V.Integer e f i j = inl (ap (λ s. is_type_kind (sort_kind s)) f)
    at V.General V.Floating e f i j = inl (ap (λ s. is_type_kind (sort_kind s)) f)
    at V.General V.Constant e f i j = absurd (constant_no_type (kind_of x) j i)
    at V.Integer V.General e f i j = inr (ap (λ s. is_type_kind (sort_kind s)) e)
    at V.Integer V.Integer e f i j = inl (sort_of_its_own w V.Integer f)
    at V.Integer V.Floating e f i j = absurd (not_both x i j)
    at V.Integer V.Constant e f i j = absurd (constant_no_type (kind_of x) j (integer_is_type x i))
    at V.Floating V.General e f i j = inr (ap (λ s. is_type_kind (sort_kind s)) e)
    at V.Floating V.Integer e f i j = absurd (not_both x j i)
    at V.Floating V.Floating e f i j = inl (sort_of_its_own w V.Floating f)
    at V.Floating V.Constant e f i j = absurd (constant_no_type (kind_of x) j (float_is_type x i))
    at V.Constant V.General e f i j = absurd (constant_no_type (kind_of x) i j)
    at V.Constant V.Integer e f i j = absurd (constant_no_type (kind_of x) i (integer_is_type x j))
    at V.Constant V.Floating e f i j = absurd (constant_no_type (kind_of x) i (float_is_type x j))
    at V.Constant V.Constant e f i j = inl (ap (λ s. is_constant_kind (sort_kind s)) f)

-- Heads

region_erased : (h : Head) → is_region (erased_head h) ≡ is_region h
region_erased (H.Region r) = refl
region_erased h = refl

stays_erased : (h : Head) → is_region h ≡ false → erased_head h ≡ h
stays_erased (H.Region r) e = cc
stays_erased h e = refl

same_erased : (h g : Head) → (is_region h && is_region g) ≡ false → erased_head h ≡ erased_head g → h ≡ g
same_erased h g n e = at (is_region h) refl
  where
    alike : is_region h ≡ is_region g
    alike = sym (region_erased h) ∙ ap is_region e ∙ region_erased g

    at : (b : Bool) → is_region h ≡ b → h ≡ g
    at false f = sym (stays_erased h f) ∙ e ∙ stays_erased g (sym alike ∙ f)
    at true f = absurd (let clash : true ≡ false = sym (rw (f, sym alike ∙ f) refl) ∙ n in cc)

row_head : (x y : Tree) → erase (alone x) ≡ erase (alone y) → erased_head x.head ≡ erased_head y.head
row_head x y e = at (erased_head x.head) (erased_head y.head) (erase x.children) (erase y.children) e
  where
    at : (h g : Head) (a b : Forest) → tree h a none ≡ tree g b none → h ≡ g
    at h g a b e = cc

data View (h : Head) : Type 0 where
  variable : (v : Variable) → h ≡ H.Infer v → View h
  rigid : is_variable h ≡ false → View h

view : (h : Head) → View h
view (H.Infer v) = variable v refl
view h = rigid refl

pub made_variable : (s : Substitution) (x : Tree) (v : Variable) → x.head ≡ H.Infer v → made s (alone x) ≡ erase (alone (value_under s v))
made_variable s x v e = ap (λ h. made s (tree h x.children none)) e

made_rigid : (s : Substitution) (h : Head) (a : Forest) → is_variable h ≡ false → made s (tree h a none) ≡ erase (tree h (put_in (assigned s) a) none)
made_rigid s (H.Infer v) a n = cc
made_rigid s h a n = refl

flipped : (h g : Head) → same_head h g ≡ false → same_head g h ≡ false
flipped h g n = at (same_head g h) refl
  where
    at : (b : Bool) → same_head g h ≡ b → b ≡ false
    at false e = refl
    at true e = let same : g ≡ h = head_is g h e in sym (head_itself h) ∙ ap (same_head h) (sym same) ∙ n

-- Trees that a solution makes equal are not refused.
module _ (S : State) (L : Live) (us : Scope) (s : Substitution) (m : IsMet S L s) (a : Absorbs (assigned s) S L) (x y t u : Tree) (known_x : is_unknown S L x.head ≡ false) (known_y : is_unknown S L y.head ≡ false)
    (for_y : IsOffered S L us y t) (for_x : IsOffered S L us x u) (e : made s (alone x) ≡ made s (alone y)) where
  module _ (f : Declines S x.head t) (g : Declines S y.head u) (n : (is_region x.head && is_region y.head) ≡ false) (apart : same_head x.head y.head ≡ false) where
    left : (v : Variable) → x.head ≡ H.Infer v → fits_sort v.sort y.head ≡ true → ⊥
    left v is fit =
        let may : may_take S v t ≡ true = takes S L us s m a v (ap (is_unknown S L) (sym is) ∙ known_x) y t for_y (sym (made_variable s x v is) ∙ e) (subst (λ h. same_head h y.head ≡ false) is apart) fit in
        let clash : true ≡ false = sym may ∙ f v is in cc

    right : (v : Variable) → y.head ≡ H.Infer v → fits_sort v.sort x.head ≡ true → ⊥
    right v is fit =
        let may : may_take S v u ≡ true = takes S L us s m a v (ap (is_unknown S L) (sym is) ∙ known_y) x u for_x (sym (made_variable s y v is) ∙ sym e) (flipped x.head (H.Infer v) (subst (λ h. same_head x.head h ≡ false) is apart)) fit in
        let clash : true ≡ false = sym may ∙ g v is in cc

    fits_of : (v : Variable) (h : Head) → is_unknown S L h ≡ false → h ≡ H.Infer v → fits_sort v.sort (value_under s v).head ≡ true
    fits_of v h k is = (m.allowed v (ap (is_unknown S L) (sym is) ∙ k)).fits

    pub not_stuck : ⊥
    not_stuck = at (view x.head) (view y.head)
      where
        at : View x.head → View y.head → ⊥
        at (variable v i) (variable w j) =
            let heads : erased_head (value_under s v).head ≡ erased_head (value_under s w).head = row_head (value_under s v) (value_under s w) (sym (made_variable s x v i) ∙ e ∙ made_variable s y w j) in
            let second : fits_sort w.sort (value_under s v).head ≡ true = sym (fits_erased w.sort (value_under s v).head) ∙ ap (fits_sort w.sort) heads ∙ fits_erased w.sort (value_under s w).head ∙ fits_of w y.head known_y j in
            by (sorts v w (value_under s v).head (fits_of v x.head known_x i) second)
          where
            by : (fits_sort v.sort (H.Infer w) ≡ true) ⊎ (fits_sort w.sort (H.Infer v) ≡ true) → ⊥
            by (inl k) = left v i (ap (fits_sort v.sort) j ∙ k)
            by (inr k) = right w j (ap (fits_sort w.sort) i ∙ k)
        at (variable v i) (rigid r) =
            let heads : erased_head (value_under s v).head ≡ erased_head y.head = row_head (value_under s v) (record { head = y.head; children = put_in (assigned s) y.children }) (sym (made_variable s x v i) ∙ e ∙ made_rigid s y.head y.children r) in
            left v i (sym (fits_erased v.sort y.head) ∙ ap (fits_sort v.sort) (sym heads) ∙ fits_erased v.sort (value_under s v).head ∙ fits_of v x.head known_x i)
        at (rigid r) (variable w j) =
            let heads : erased_head (value_under s w).head ≡ erased_head x.head = row_head (value_under s w) (record { head = x.head; children = put_in (assigned s) x.children }) (sym (made_variable s y w j) ∙ sym e ∙ made_rigid s x.head x.children r) in
            right w j (sym (fits_erased w.sort x.head) ∙ ap (fits_sort w.sort) (sym heads) ∙ fits_erased w.sort (value_under s w).head ∙ fits_of w y.head known_y j)
        at (rigid q) (rigid r) =
            let heads : erased_head x.head ≡ erased_head y.head = row_head (record { head = x.head; children = put_in (assigned s) x.children }) (record { head = y.head; children = put_in (assigned s) y.children }) (sym (made_rigid s x.head x.children q) ∙ e ∙ made_rigid s y.head y.children r) in
            let same : x.head ≡ y.head = same_erased x.head y.head n heads in
            let clash : true ≡ false = sym (head_itself y.head) ∙ ap (λ h. same_head h y.head) (sym same) ∙ apart in cc
