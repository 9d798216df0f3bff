-- Instances of trees by allowed substitutions, and a substitution that gives each variable of a state what is chosen for it.
use Rattle.std.proofs.Common.{◌≡◌, ◌≤◌, ◌<◌, ◌==◌, ℕ, zero, suc, ◌+◌, Bool, true, false, Option, Some, None, List, [], ◌∷◌, slice_get, refl, sym, ap, subst, ◌∙◌, arith, nat_lt, if◌then◌else◌}
use Rattle.std.specs.Option.{unwrap_or}
use Rattle.std.proofs.lemmas.Bool.{and_parts, eq-eqb, eqb-true, ltb-false, le-ltb}
use Rattle.ir_trees.specs.declared.ir.heads.Head.{Head}
use Rattle.ir_trees.specs.declared.ir.heads.Head.TheVariants as H
use Rattle.ir_trees.specs.declared.ir.heads.ConstHead.TheVariants as C
use Rattle.ir_trees.specs.declared.ir.heads.Variable.{Variable}
use Rattle.ir_trees.specs.declared.ir.heads.VariableSort.{VariableSort}
use Rattle.ir_trees.specs.declared.ir.heads.VariableSort.TheVariants as V
use Rattle.ir_trees.specs.Syntax.Trees.{Forest, none, tree, Tree, erase, erased_head, holds, binders_of, sort_kind}
use Rattle.ir_trees.specs.Syntax.Binders.{is_beyond, escapes}
use Rattle.ir_trees.specs.Unification.Substitutions.{Substitution, Universes, IsAllowed, IsAllowedBinding, lookup, replaced, apply, alone, same_sort, same_variable, fits_sort, is_constant_kind, is_placeholder_above}
use Rattle.ir_trees.proofs.Instantiation.Folding.{begin}
use Rattle.ir_trees.proofs.Unification.Instances.{lookup_fits, replaced_kind, same_sort_is}
use Rattle.candidate_eval.specs.declared.eval.variable.VariableKind.{VariableKind}
use Rattle.candidate_eval.specs.declared.eval.variable.VariableKind.TheVariants.{Term, Region}
use Rattle.candidate_eval.specs.Judges.States.{State, VariableInfo}
use Rattle.candidate_eval.specs.Judges.Alike.{info}
use Rattle.candidate_eval.specs.Judges.Soundness.{is_variable_above}
use Rattle.candidate_eval.proofs.Marks.Closed.{closed, closed-on, closed-parts}
use Rattle.candidate_eval.proofs.Marks.Holds.{holds_parts}
use Rattle.candidate_eval.proofs.Marks.Marking.{unmarked}

pub same_variable_is : (v w : Variable) → same_variable v w ≡ true → v ≡ w
same_variable_is v w e =
    let p = and_parts (same_sort v.sort w.sort) (v.number == w.number) e in
    let s = same_sort_is v.sort w.sort p.0 in
    let n = eqb-true v.number w.number p.1 in
    λ i. record { sort = s i; number = n i }

pub same_sort_itself : (s : VariableSort) → same_sort s s ≡ true
same_sort_itself V.General = refl
same_sort_itself V.Integer = refl
same_sort_itself V.Floating = refl
same_sort_itself V.Constant = refl

-- What a substitution holds of a variable, if it holds it.

abbrev pub found : Substitution → Variable → Option Tree
found [] v = None
found (b ∷ bs) v = if same_variable b.variable v then Some b.value else found bs v

pub lookup_found : (s : Substitution) (v : Variable) (o : Tree) → lookup s v o ≡ unwrap_or (found s v) o
lookup_found [] v o = refl
lookup_found (b ∷ bs) v o = at (same_variable b.variable v) (lookup_found bs v o)
  where
    at : (x : Bool) → lookup bs v o ≡ unwrap_or (found bs v) o → (if x then b.value else lookup bs v o) ≡ unwrap_or (if x then Some b.value else found bs v) o
    at true ih = refl
    at false ih = ih

pub found_allowed : (u : Universes) (s : Substitution) (v : Variable) (t : Tree) → IsAllowed u s → found s v ≡ Some t → IsAllowedBinding u (record { variable = v; value = t })
found_allowed u [] v t ok e = absurd cc
found_allowed u (b ∷ bs) v t ok e = at (same_variable b.variable v) refl (found_allowed u bs v t ok.1) e
  where
    at : (x : Bool) → same_variable b.variable v ≡ x → (found bs v ≡ Some t → IsAllowedBinding u (record { variable = v; value = t })) → (if x then Some b.value else found bs v) ≡ Some t
        → IsAllowedBinding u (record { variable = v; value = t })
    at true h ih e =
        let same : b.value ≡ t = cc in
        subst (λ y. IsAllowedBinding u (record { variable = v; value = y })) same (subst (λ w. IsAllowedBinding u (record { variable = w; value = b.value })) (same_variable_is b.variable v h) ok.0)
    at false h ih e = ih e

-- Instances by allowed substitutions

abbrev pub instance_of : Substitution → Tree → Tree
instance_of p t = replaced p t.head (apply p t.children)

constant_sort : (s : VariableSort) → is_constant_kind (sort_kind s) ≡ true → s ≡ V.Constant
constant_sort V.Constant e = refl
constant_sort _ e = absurd cc

pub instance_fits : (u : Universes) (p : Substitution) → IsAllowed u p → (s : VariableSort) (h : Head) (c : Forest) → fits_sort s h ≡ true → fits_sort s (replaced p h c).head ≡ true
instance_fits u p ok V.General h c e = replaced_kind u p h c ok ∙ e
instance_fits u p ok V.Integer (H.Infer w) c e = let h : Tree = record { head = H.Infer w; children = c } in subst (λ s. fits_sort s (lookup p w h).head ≡ true) (same_sort_is w.sort V.Integer e) (lookup_fits u p w c ok)
instance_fits u p ok V.Floating (H.Infer w) c e = let h : Tree = record { head = H.Infer w; children = c } in subst (λ s. fits_sort s (lookup p w h).head ≡ true) (same_sort_is w.sort V.Floating e) (lookup_fits u p w c ok)
instance_fits u p ok V.Constant (H.Infer w) c e = let h : Tree = record { head = H.Infer w; children = c } in subst (λ s. fits_sort s (lookup p w h).head ≡ true) (constant_sort w.sort e) (lookup_fits u p w c ok)
instance_fits u p ok V.Integer h c e = e
instance_fits u p ok V.Floating h c e = e
instance_fits u p ok V.Constant h c e = e

closed_lookup : (u : Universes) (p : Substitution) → IsAllowed u p → (d : ℕ) (v : Variable) (o : Tree) → escapes d (alone o) ≡ false → escapes d (alone (lookup p v o)) ≡ false
closed_lookup u [] ok d v o e = e
closed_lookup u (b ∷ bs) ok d v o e = at (same_variable b.variable v) (closed_lookup u bs ok.1 d v o e)
  where
    at : (x : Bool) → escapes d (alone (lookup bs v o)) ≡ false → escapes d (alone (if x then b.value else lookup bs v o)) ≡ false
    at true ih = closed-on 0 d (alone b.value) (omega arith) ok.0.is_closed
    at false ih = ih

pub instance_closed : (u : Universes) (p : Substitution) → IsAllowed u p → (d : ℕ) (ts : Forest) → escapes d ts ≡ false → escapes d (apply p ts) ≡ false
instance_closed u p ok d none e = refl
instance_closed u p ok d (tree h a r) e =
    let x = closed-parts d h a r e in
    let it : Tree = replaced p h (apply p a) in
    let y = closed-parts d it.head it.children none (node h x.here (instance_closed u p ok (d + binders_of h) a x.under)) in
    closed d it.head it.children (apply p r) y.here y.under (instance_closed u p ok d r x.others)
  where
    node : (h : Head) → is_beyond d h ≡ false → escapes (d + binders_of h) (apply p a) ≡ false → escapes d (alone (replaced p h (apply p a))) ≡ false
    node (H.Infer v) here under = closed_lookup u p ok d v (record { head = H.Infer v; children = apply p a }) (closed d (H.Infer v) (apply p a) none here under refl)
    node h here under = closed d h (apply p a) none here under refl

lower_lt : (u w x : ℕ) → u ≤ w → nat_lt u x ≡ false → nat_lt w x ≡ false
lower_lt u w x h f = le-ltb w x (least (ltb-false u x f))
  where
    least : x ≤ u → x ≤ w
    least g = omega (arith, h, g)

lower_head : (u w : ℕ) (h : Head) → u ≤ w → is_placeholder_above u h ≡ false → is_placeholder_above w h ≡ false
lower_head u w (H.Placeholder p) le f = lower_lt u w p.universe le f
lower_head u w (H.Const (C.Placeholder p)) le f = lower_lt u w p.universe le f
lower_head u w _ le f = refl

lower : (u w : ℕ) (ts : Forest) → u ≤ w → holds (is_placeholder_above u) ts ≡ false → holds (is_placeholder_above w) ts ≡ false
lower u w none le f = refl
lower u w (tree h a r) le f =
    let p = holds_parts (is_placeholder_above u) h a r f in
    unmarked (is_placeholder_above w) h a r (lower_head u w h le p.here) (lower u w a le p.under) (lower u w r le p.others)

low_lookup : (univ : Universes) (p : Substitution) → IsAllowed univ p → (u : ℕ) (v : Variable) (o : Tree) → univ v ≤ u
    → holds (is_placeholder_above u) (erase (alone o)) ≡ false → holds (is_placeholder_above u) (erase (alone (lookup p v o))) ≡ false
low_lookup univ [] ok u v o le e = e
low_lookup univ (b ∷ bs) ok u v o le e = at (same_variable b.variable v) refl (low_lookup univ bs ok.1 u v o le e)
  where
    at : (x : Bool) → same_variable b.variable v ≡ x → holds (is_placeholder_above u) (erase (alone (lookup bs v o))) ≡ false
        → holds (is_placeholder_above u) (erase (alone (if x then b.value else lookup bs v o))) ≡ false
    at true h ih = lower (univ b.variable) u (erase (alone b.value)) (subst (λ z. univ z ≤ u) (sym (same_variable_is b.variable v h)) le) ok.0.in_universe
    at false h ih = ih

pub instance_low : (univ : Universes) (p : Substitution) → IsAllowed univ p → (u : ℕ) (ts : Forest) → holds (is_placeholder_above u) (erase ts) ≡ false
    → holds (is_variable_above univ u) (erase ts) ≡ false → holds (is_placeholder_above u) (erase (apply p ts)) ≡ false
instance_low univ p ok u none e f = refl
instance_low univ p ok u (tree h a r) e f =
    let x = holds_parts (is_placeholder_above u) (erased_head h) (erase a) (erase r) e in
    let y = holds_parts (is_variable_above univ u) (erased_head h) (erase a) (erase r) f in
    let it : Tree = replaced p h (apply p a) in
    let n = holds_parts (is_placeholder_above u) (erased_head it.head) (erase it.children) none (node h x.here y.here (instance_low univ p ok u a x.under y.under)) in
    unmarked (is_placeholder_above u) (erased_head it.head) (erase it.children) (erase (apply p r)) n.here n.under (instance_low univ p ok u r x.others y.others)
  where
    node : (h : Head) → is_placeholder_above u (erased_head h) ≡ false → is_variable_above univ u (erased_head h) ≡ false → holds (is_placeholder_above u) (erase (apply p a)) ≡ false
        → holds (is_placeholder_above u) (erase (alone (replaced p h (apply p a)))) ≡ false
    node (H.Infer v) b c g =
        low_lookup univ p ok u v (record { head = H.Infer v; children = apply p a }) (ltb-false u (univ v) c)
        (unmarked (is_placeholder_above u) (H.Infer v) (erase (apply p a)) none b g refl)
    node h b c g = unmarked (is_placeholder_above u) (erased_head h) (erase (apply p a)) none b g refl

-- substitutions that say the same of the variables without two marks
pub apply_agree : (a b : Head → Bool) (s r : Substitution) → ((v : Variable) → a (H.Infer v) ≡ false → b (H.Infer v) ≡ false → (o : Tree) → lookup s v o ≡ lookup r v o)
    → (ts : Forest) → holds a ts ≡ false → holds b ts ≡ false → apply s ts ≡ apply r ts
apply_agree a b s r f none p q = refl
apply_agree a b s r f (tree h c d) p q =
    let x = holds_parts a h c d p in
    let y = holds_parts b h c d q in
    ap (λ (t : Tree). begin t (apply s d)) (node h (apply s c) (apply r c) x.here y.here (apply_agree a b s r f c x.under y.under))
    ∙ ap (begin (replaced r h (apply r c))) (apply_agree a b s r f d x.others y.others)
  where
    node : (h : Head) (c d : Forest) → a h ≡ false → b h ≡ false → c ≡ d → replaced s h c ≡ replaced r h d
    node (H.Infer v) c d x y e = f v x y (record { head = H.Infer v; children = c }) ∙ ap (λ z. lookup r v (record { head = H.Infer v; children = z })) e
    node h c d x y e = ap (λ z. let t : Tree = record { head = h; children = z } in t) e

-- A substitution of a state's variables, each given what is chosen for it.

abbrev pub Choice : Type 0
Choice = Variable → VariableInfo → Option Tree

abbrev pub with_choice : Variable → Option Tree → Substitution → Substitution
with_choice v None rest = rest
with_choice v (Some t) rest = record { variable = v; value = t } ∷ rest

abbrev pub entry : Choice → ℕ → VariableKind → VariableInfo → Substitution → Substitution
entry f n (Term z) i rest = with_choice (record { sort = z; number = n }) (f (record { sort = z; number = n }) i) rest
entry f n Region i rest = rest

abbrev pub chosen : Choice → ℕ → List VariableInfo → Substitution
chosen f n [] = []
chosen f n (i ∷ is) = entry f n i.kind i (chosen f (suc n) is)

other_number : (z : VariableSort) (n : ℕ) (v : Variable) → (v.number ≡ n → ⊥) → same_variable (record { sort = z; number = n }) v ≡ false
other_number z n v d = at (same_variable (record { sort = z; number = n }) v) refl
  where
    at : (x : Bool) → same_variable (record { sort = z; number = n }) v ≡ x → x ≡ false
    at false e = refl
    at true e = absurd (d (sym (ap (λ (w : Variable). w.number) (same_variable_is (record { sort = z; number = n }) v e))))

own_number : (n : ℕ) (v : Variable) → v.number ≡ n → same_variable (record { sort = v.sort; number = n }) v ≡ true
own_number n v e = rw (eq-eqb n v.number (sym e), same_sort_itself v.sort) refl

module _ (f : Choice) where
  skip : (n : ℕ) (k : VariableKind) (i : VariableInfo) (rest : Substitution) (v : Variable) (o : Tree) → (v.number ≡ n → ⊥) → lookup (entry f n k i rest) v o ≡ lookup rest v o
  skip n Region i rest v o d = refl
  skip n (Term z) i rest v o d = at (f (record { sort = z; number = n }) i)
    where
      at : (c : Option Tree) → lookup (with_choice (record { sort = z; number = n }) c rest) v o ≡ lookup rest v o
      at None = refl
      at (Some t) = ap (λ x. if x then t else lookup rest v o) (other_number z n v d)

  before_all : (n : ℕ) (is : List VariableInfo) (v : Variable) (o : Tree) → v.number < n → lookup (chosen f n is) v o ≡ o
  before_all n [] v o lt = refl
  before_all n (i ∷ is) v o lt =
      skip n i.kind i (chosen f (suc n) is) v o (less v.number n lt) ∙ before_all (suc n) is v o (omega (arith, lt))
    where
      less : (a b : ℕ) → a < b → a ≡ b → ⊥
      less a b lt e = omega (arith, lt, e)

  take : (n : ℕ) (i : VariableInfo) (rest : Substitution) (v : Variable) (o : Tree) → v.number ≡ n → lookup rest v o ≡ o → lookup (entry f n (Term v.sort) i rest) v o ≡ unwrap_or (f v i) o
  take n i rest v o e r = at (f (record { sort = v.sort; number = n }) i) ∙ ap (λ m. unwrap_or (f (record { sort = v.sort; number = m }) i) o) (sym e)
    where
      at : (c : Option Tree) → lookup (with_choice (record { sort = v.sort; number = n }) c rest) v o ≡ unwrap_or c o
      at None = r
      at (Some t) = ap (λ x. if x then t else lookup rest v o) (own_number n v e)

  lookup_from : (n : ℕ) (is : List VariableInfo) (m : ℕ) (i : VariableInfo) (v : Variable) (o : Tree) → slice_get is m ≡ Some i → v.number ≡ n + m → i.kind ≡ Term v.sort
      → lookup (chosen f n is) v o ≡ unwrap_or (f v i) o
  lookup_from n [] m i v o g e k = let clash : None ≡ Some i = g in cc
  lookup_from n (j ∷ is) zero i v o g e k =
      let same : j ≡ i = cc in
      let here : v.number ≡ n = e ∙ no_more n in
      ap (λ (j : VariableInfo). lookup (entry f n j.kind j (chosen f (suc n) is)) v o) same
      ∙ ap (λ k. lookup (entry f n k i (chosen f (suc n) is)) v o) k
      ∙ take n i (chosen f (suc n) is) v o here (before_all (suc n) is v o (omega (arith, here)))
    where
      no_more : (n : ℕ) → n + 0 ≡ n
      no_more n = omega arith
  lookup_from n (j ∷ is) (suc m) i v o g e k =
      skip n j.kind j (chosen f (suc n) is) v o (apart v.number n m e) ∙ lookup_from (suc n) is m i v o g (e ∙ one_more n m) k
    where
      apart : (a n m : ℕ) → a ≡ n + suc m → a ≡ n → ⊥
      apart a n m e f = omega (arith, e, f)

      one_more : (n m : ℕ) → n + suc m ≡ suc n + m
      one_more n m = omega arith

  pub lookup_chosen : (S : State) (v : Variable) (i : VariableInfo) (o : Tree) → info S v.number ≡ Some i → i.kind ≡ Term v.sort → lookup (chosen f 0 S.variables) v o ≡ unwrap_or (f v i) o
  lookup_chosen S v i o g k = lookup_from 0 S.variables v.number i v o g (no_more v.number) k
    where
      no_more : (n : ℕ) → n ≡ 0 + n
      no_more n = omega arith

  entry_allowed : (u : Universes) (n : ℕ) (k : VariableKind) (i : VariableInfo) (rest : Substitution) → IsAllowed u rest
      → ((z : VariableSort) (t : Tree) → k ≡ Term z → f (record { sort = z; number = n }) i ≡ Some t → IsAllowedBinding u (record { variable = record { sort = z; number = n }; value = t }))
      → IsAllowed u (entry f n k i rest)
  entry_allowed u n Region i rest ok h = ok
  entry_allowed u n (Term z) i rest ok h = at (f (record { sort = z; number = n }) i) refl
    where
      at : (c : Option Tree) → f (record { sort = z; number = n }) i ≡ c → IsAllowed u (with_choice (record { sort = z; number = n }) c rest)
      at None e = ok
      at (Some t) e = (h z t refl e, ok)

  chosen_from : (u : Universes) (n : ℕ) (is : List VariableInfo)
      → ((m : ℕ) (i : VariableInfo) (v : Variable) (t : Tree) → slice_get is m ≡ Some i → v.number ≡ n + m → i.kind ≡ Term v.sort → f v i ≡ Some t → IsAllowedBinding u (record { variable = v; value = t }))
      → IsAllowed u (chosen f n is)
  chosen_from u n [] h = tt
  chosen_from u n (i ∷ is) h =
      entry_allowed u n i.kind i (chosen f (suc n) is) (chosen_from u (suc n) is (λ m j v t g e k c. h (suc m) j v t g (e ∙ one_more n m) k c))
      (λ z t k c. h 0 i (record { sort = z; number = n }) t refl (no_more n) k c)
    where
      no_more : (n : ℕ) → n ≡ n + 0
      no_more n = omega arith

      one_more : (n m : ℕ) → suc n + m ≡ n + suc m
      one_more n m = omega arith

  pub chosen_allowed : (u : Universes) (S : State)
      → ((i : VariableInfo) (v : Variable) (t : Tree) → info S v.number ≡ Some i → i.kind ≡ Term v.sort → f v i ≡ Some t → IsAllowedBinding u (record { variable = v; value = t }))
      → IsAllowed u (chosen f 0 S.variables)
  chosen_allowed u S h = chosen_from u 0 S.variables (λ m i v t g e k c. h i v t (ap (slice_get S.variables) (e ∙ no_more m) ∙ g) k c)
    where
      no_more : (n : ℕ) → 0 + n ≡ n
      no_more n = omega arith
