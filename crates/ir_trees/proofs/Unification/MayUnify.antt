-- Rows with a common instance may be made equal.
use Rattle.std.proofs.Common.{◌≡◌, refl, sym, ◌∙◌, ap, subst}
use Rattle.std.specs.Prelude.{Bool, true, false, ◌&&◌, ◌||◌}
use Rattle.ir_trees.specs.declared.ir.heads.Builtin.{Builtin}
use Rattle.ir_trees.specs.declared.ir.heads.Builtin.TheVariants as B
use Rattle.ir_trees.specs.declared.ir.heads.VariableSort.{VariableSort}
use Rattle.ir_trees.specs.declared.ir.heads.VariableSort.TheVariants as V
use Rattle.ir_trees.specs.declared.ir.heads.Head.{Head}
use Rattle.ir_trees.specs.declared.ir.heads.Head.TheVariants as H
use Rattle.ir_trees.specs.declared.ir.unify.RightSide.{RightSide}
use Rattle.ir_trees.specs.Syntax.Trees.{Forest, none, tree, Tree, erase, erased_head}
use Rattle.ir_trees.specs.Unification.Substitutions.{Substitution, Universes, IsAllowed, apply, replaced, lookup, same_sort, fits_sort, is_integer, is_float, is_variable, alone}
use Rattle.ir_trees.specs.Unification.Unify.{stands_for_any, stands_for_any_on_right, is_free, meets_any, meets_any_on_right, is_variable_of, same_head, pair_may, may_unify, trees_may_unify, IsFilled, NoCommonInstance}
use Rattle.ir_trees.proofs.Syntax.Equal.{head_itself}
use Rattle.ir_trees.proofs.Unification.Instances.{lookup_fits, made, head_made, below_made}
use Rattle.ir_trees.proofs.Unification.Pairs.{each_line, and_true, var_integer, var_float}

erased_integer : (h : Head) → is_integer (erased_head h) ≡ is_integer h
erased_integer (H.Region r) = refl
erased_integer _ = refl

erased_float : (h : Head) → is_float (erased_head h) ≡ is_float h
erased_float (H.Region r) = refl
erased_float _ = refl

-- What a head is, beside its instance's.
data Side (h x : Head) : Type 0 where
  Free : is_free h ≡ true → Side h x
  AnInteger : is_variable_of V.Integer h ≡ true → is_integer x ≡ true → Side h x
  AFloat : is_variable_of V.Floating h ≡ true → is_float x ≡ true → Side h x
  Itself : is_variable h ≡ false → x ≡ h → Side h x

side : (u : Universes) (p : Substitution) (h : Head) (a : Forest) → IsAllowed u p → Side h (head_made p h a)
side u p (H.Infer v) a ok = at v.sort refl
  where
    at : (s : VariableSort) → v.sort ≡ s → Side (H.Infer v) (head_made p (H.Infer v) a)
    at V.General e = Free (rw e refl)
    at V.Constant e = Free (rw e refl)
    at V.Integer e = AnInteger (rw e refl) (erased_integer _ ∙ subst (λ s. fits_sort s (lookup p v (record { head = H.Infer v; children = apply p a })).head ≡ true) e (lookup_fits u p v (apply p a) ok))
    at V.Floating e = AFloat (rw e refl) (erased_float _ ∙ subst (λ s. fits_sort s (lookup p v (record { head = H.Infer v; children = apply p a })).head ≡ true) e (lookup_fits u p v (apply p a) ok))
side u p (H.Region r) a ok = Free refl
side u p h a ok = Itself refl refl

two_sorts : (s : VariableSort) → same_sort s V.Integer ≡ true → same_sort s V.Floating ≡ true → ⊥
two_sorts V.Integer e f = cc
two_sorts _ e f = cc

two_builtins : (b : Builtin) → is_integer (H.Builtin b) ≡ true → is_float (H.Builtin b) ≡ true → ⊥
two_builtins (B.Int w) e f = cc
two_builtins (B.Uint w) e f = cc
two_builtins _ e f = cc

not_both : (x : Head) → is_integer x ≡ true → is_float x ≡ true → ⊥
not_both (H.Infer v) e f = two_sorts v.sort e f
not_both (H.Builtin b) e f = two_builtins b e f
not_both _ e f = cc

no_variable_of : (s : VariableSort) (h : Head) → is_variable h ≡ false → is_variable_of s h ≡ false
no_variable_of s (H.Infer v) e = absurd cc
no_variable_of s _ e = refl

-- a head whose instance is an integer type may become one
integer_by : (h x : Head) → is_free h ≡ false → Side h x → is_integer x ≡ true → is_integer h ≡ true
integer_by h x n (Free e) i = absurd cc
integer_by h x n (AnInteger e j) i = var_integer h e
integer_by h x n (AFloat e f) i = absurd (not_both x i f)
integer_by h x n (Itself e f) i = ap is_integer (sym f) ∙ i

float_by : (h x : Head) → is_free h ≡ false → Side h x → is_float x ≡ true → is_float h ≡ true
float_by h x n (Free e) f = absurd cc
float_by h x n (AnInteger e i) f = absurd (not_both x i f)
float_by h x n (AFloat e g) f = var_float h e
float_by h x n (Itself e g) f = ap is_float (sym g) ∙ f

-- an instance of an integer variable
integer_of : (h x : Head) → is_free h ≡ false → Side h x → is_variable_of V.Integer h ≡ true → is_integer x ≡ true
integer_of h x n (Free e) v = absurd cc
integer_of h x n (AnInteger e i) v = i
integer_of h x n (AFloat e f) v = absurd (not_both h (var_integer h v) (var_float h e))
integer_of h x n (Itself e f) v = absurd (let g = no_variable_of V.Integer h e in cc)

float_of : (h x : Head) → is_free h ≡ false → Side h x → is_variable_of V.Floating h ≡ true → is_float x ≡ true
float_of h x n (Free e) v = absurd cc
float_of h x n (AnInteger e i) v = absurd (not_both h (var_integer h e) (var_float h v))
float_of h x n (AFloat e f) v = f
float_of h x n (Itself e f) v = absurd (let g = no_variable_of V.Floating h e in cc)

-- what is no variable is its own instance
itself_of : (h x : Head) → is_free h ≡ false → is_variable_of V.Integer h ≡ false → is_variable_of V.Floating h ≡ false → Side h x
    → (is_variable h ≡ false) × (x ≡ h)
itself_of h x n i f (Free e) = absurd cc
itself_of h x n i f (AnInteger e j) = absurd cc
itself_of h x n i f (AFloat e g) = absurd cc
itself_of h x n i f (Itself e g) = (e, g)

or_cases : {A : Type 0} → (a b : Bool) → a || b ≡ true → (a ≡ true → A) → (b ≡ true → A) → A
or_cases true b e p q = p refl
or_cases false b e p q = q e

or_none : (a b : Bool) → a || b ≡ false → (a ≡ false) × (b ≡ false)
or_none true b e = absurd cc
or_none false b e = (refl, e)

-- a pair with a common instance
pair_meets : (right : RightSide) (h g x y : Head) (below : Bool) → Side h x → Side g y → x ≡ y
    → (is_variable h ≡ false → is_variable g ≡ false → h ≡ g → below ≡ true)
    → is_free h ≡ false → is_free g ≡ false → pair_may right h g below ≡ true
pair_meets right h g x y below s t e under n m =
    each_line (meets_any h || meets_any_on_right right g) (is_variable_of V.Integer h || is_variable_of V.Integer g) (is_integer h && is_integer g)
    (is_variable_of V.Floating h || is_variable_of V.Floating g) (is_float h && is_float g) (same_head h g && below)
    (λ _ v.
    let i : is_integer x ≡ true = or_cases (is_variable_of V.Integer h) (is_variable_of V.Integer g) v (integer_of h x n s)
    (λ w. ap is_integer e ∙ integer_of g y m t w) in
    and_true (is_integer h) (is_integer g) (integer_by h x n s i) (integer_by g y m t (ap is_integer (sym e) ∙ i)))
    (λ _ v.
    let i : is_float x ≡ true = or_cases (is_variable_of V.Floating h) (is_variable_of V.Floating g) v (float_of h x n s)
    (λ w. ap is_float e ∙ float_of g y m t w) in
    and_true (is_float h) (is_float g) (float_by h x n s i) (float_by g y m t (ap is_float (sym e) ∙ i)))
    (λ _ i f.
    let i = or_none (is_variable_of V.Integer h) (is_variable_of V.Integer g) i in
    let f = or_none (is_variable_of V.Floating h) (is_variable_of V.Floating g) f in
    let j = itself_of h x n i.0 f.0 s in
    let k = itself_of g y m i.1 f.1 t in
    let one : h ≡ g = sym j.1 ∙ (e ∙ k.1) in
    and_true (same_head h g) below (ap (λ (z : Head). same_head z g) one ∙ head_itself g) (under j.0 k.0 one))

pair_any : (right : RightSide) (h g : Head) (below : Bool) → meets_any h || meets_any_on_right right g ≡ true → pair_may right h g below ≡ true
pair_any right h g below e = rw e refl

-- the same, where the trees are fillings of the pair
pair_common : (right : RightSide) (u v : Universes) (p q : Substitution) → IsAllowed u p → IsAllowed v q
    → (h g k l : Head) (c d : Forest) (below : Bool) (A B : Type 0)
    → (stands_for_any h ≡ false → (k ≡ h) × A) → (stands_for_any_on_right right g ≡ false → (l ≡ g) × B)
    → head_made p k c ≡ head_made q l d → erase (replaced p k (apply p c)).children ≡ erase (replaced q l (apply q d)).children
    → (A → B → made p c ≡ made q d → below ≡ true) → pair_may right h g below ≡ true
pair_common right u v p q ok ok' h g k l c d below A B f f' eh eb under = at (meets_any h || meets_any_on_right right g) refl
  where
    at : (m : Bool) → meets_any h || meets_any_on_right right g ≡ m → pair_may right h g below ≡ true
    at true e = pair_any right h g below e
    at false e =
        let m = or_none (meets_any h) (meets_any_on_right right g) e in
        let n = or_none (is_free h) (stands_for_any h) m.0 in
        let o = or_none (is_free g) (stands_for_any_on_right right g) m.1 in
        let x = f n.1 in
        let y = f' o.1 in
        pair_meets right h g (head_made p k c) (head_made q l d) below
        (subst (λ (z : Head). Side z (head_made p k c)) x.0 (side u p k c ok))
        (subst (λ (z : Head). Side z (head_made q l d)) y.0 (side v q l d ok'))
        eh
        (λ vh vg _. under x.1 y.1 (below_made p q k l c d (ap is_variable x.0 ∙ vh) (ap is_variable y.0 ∙ vg) eb)) n.0 o.0

-- Rows whose fillings have a common instance may be made equal.
rows_meet : (right : RightSide) (u v : Universes) (p q : Substitution) → IsAllowed u p → IsAllowed v q → (a b x y : Forest)
    → IsFilled stands_for_any a x → IsFilled (stands_for_any_on_right right) b y → made p x ≡ made q y → may_unify right a b ≡ true
rows_meet right u v p q ok ok' none none none none f f' e = refl
rows_meet right u v p q ok ok' none none none (tree l d w) f f' e = absurd f'
rows_meet right u v p q ok ok' none (tree g b s) none none f f' e = absurd f'
rows_meet right u v p q ok ok' none (tree g b s) none (tree l d w) f f' e = absurd cc
rows_meet right u v p q ok ok' none b (tree k c t) y f f' e = absurd f
rows_meet right u v p q ok ok' (tree h a r) b none y f f' e = absurd f
rows_meet right u v p q ok ok' (tree h a r) none (tree k c t) none f f' e = absurd cc
rows_meet right u v p q ok ok' (tree h a r) none (tree k c t) (tree l d w) f f' e = absurd f'
rows_meet right u v p q ok ok' (tree h a r) (tree g b s) (tree k c t) none f f' e = absurd f'
rows_meet right u v p q ok ok' (tree h a r) (tree g b s) (tree k c t) (tree l d w) f f' e =
    let eh : head_made p k c ≡ head_made q l d = cc in
    let eb : erase (replaced p k (apply p c)).children ≡ erase (replaced q l (apply q d)).children = cc in
    let er : made p t ≡ made q w = cc in
    and_true (pair_may right h g (may_unify right a b)) (may_unify right r s)
    (pair_common right u v p q ok ok' h g k l c d (may_unify right a b) (IsFilled stands_for_any a c) (IsFilled (stands_for_any_on_right right) b d) f.0 f'.0 eh eb
    (λ m n i. rows_meet right u v p q ok ok' a b c d m n i))
    (rows_meet right u v p q ok ok' r s t w f.1 f'.1 er)

pub list_rejected : (right : RightSide) (a b : Forest) (r : Bool) → r ≡ may_unify right a b → r ≡ false → NoCommonInstance right a b
list_rejected right a b r e n =
    record {
      apart = λ u v c. absurd (let y =
          rows_meet right u v c.first_values c.second_values c.first_allowed c.second_allowed a b c.first c.second c.first_is c.second_is c.common in cc);
    }

pub tree_rejected : (right : RightSide) (t u : Tree) (r : Bool) → r ≡ trees_may_unify right t u → r ≡ false → NoCommonInstance right (alone t) (alone u)
tree_rejected right t u r e n = list_rejected right (alone t) (alone u) (r && true) (ap (λ (b : Bool). b && true) e) (ap (λ (b : Bool). b && true) n)
