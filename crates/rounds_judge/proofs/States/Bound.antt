-- A variable that got a value: the state is sound and follows.
use Rattle.std.proofs.Common.{◌≡◌, ◌≤◌, ℕ, zero, suc, ◌+◌, Bool, true, false, not, ◌&&◌, ◌||◌, ◌==◌, min, List, [], ◌∷◌, Option, Some, None, length, slice_get, refl, sym, ap, subst, ◌∙◌, arith, nat_lt, if◌then◌else◌}
use Rattle.std.specs.Option.{option_map, unwrap_or}
use Rattle.std.proofs.lemmas.Bool.{and_parts, and_from, eqb-true, eq-eqb, ltb-false, le-ltb, false_from_ne_true, or_left, or_right}
use Rattle.std.proofs.Math.Nat.{le_trans}
use Rattle.ir_trees.specs.declared.ir.heads.Head.{Head}
use Rattle.ir_trees.specs.declared.ir.heads.Head.TheVariants as H
use Rattle.ir_trees.specs.declared.ir.heads.ConstHead.TheVariants as C
use Rattle.ir_trees.specs.declared.ir.heads.Variable.{Variable}
use Rattle.ir_trees.specs.declared.ir.heads.VariableSort.{VariableSort}
use Rattle.ir_trees.specs.declared.ir.heads.VariableSort.TheVariants as V
use Rattle.ir_trees.specs.declared.ir.kinds.RegionKind.TheVariants as R
use Rattle.ir_trees.specs.Syntax.Trees.{Forest, none, tree, Tree, erase, erased_head, holds, is_type, is_type_kind, sort_kind, binders_of, is_number}
use Rattle.ir_trees.specs.Syntax.Binders.{escapes}
use Rattle.ir_trees.specs.Instantiation.Folding.{fold}
use Rattle.ir_trees.specs.Unification.Substitutions.{IsAllowedBinding, alone, same_sort, same_variable, fits_sort, is_constant_kind, is_integer, is_float, is_placeholder_above}
use Rattle.ir_trees.proofs.Unification.Instances.{same_sort_is}
use Rattle.candidate_eval.specs.declared.eval.variable.VariableKind.{VariableKind}
use Rattle.candidate_eval.specs.declared.eval.variable.VariableKind.TheVariants.{Term, Region}
use Rattle.candidate_eval.specs.Judges.States.{State, VariableInfo, value_in, value_of, value_as, value_at, valued, valued_tree, resolved, is_some, has_kind, same_kind}
use Rattle.candidate_eval.specs.Judges.Alike.{info}
use Rattle.candidate_eval.specs.Judges.Soundness.{Live, OfValues, IsSound, FitsVariable, IsResolved, IsLater, universes, universe_in, is_variable_above, has_value, is_strange, is_region, fits_kind}
use Rattle.rounds_judge.specs.Equations.Binding.{occurs, single, info_after, numbered, bound}
use Rattle.rounds_judge.proofs.States.Marks.{whole, holds_erased, holds_to, fold_marked, fold_closed, valued_twice}
use Rattle.rounds_judge.proofs.States.Later.{has_info, kind_there, no_value, value_as_is, value_as_of, resolved_known, idle}

get_numbered : {A B : Type 0} (f : ℕ → A → B) (n m : ℕ) (xs : List A) → slice_get (numbered f n xs) m ≡ option_map (f (n + m)) (slice_get xs m)
get_numbered f n m [] = refl
get_numbered f n zero (x ∷ xs) = ap (λ k. Some (f k x)) (none_more n)
  where
    none_more : (n : ℕ) → n ≡ n + 0
    none_more n = omega arith
get_numbered f n (suc m) (x ∷ xs) = get_numbered f (suc n) m xs ∙ ap (λ k. option_map (f k) (slice_get xs m)) (one_more n m)
  where
    one_more : (n m : ℕ) → suc n + m ≡ n + suc m
    one_more n m = omega arith

length_numbered : {A B : Type 0} (f : ℕ → A → B) (n : ℕ) (xs : List A) → length (numbered f n xs) ≡ length xs
length_numbered f n [] = refl
length_numbered f n (x ∷ xs) = ap suc (length_numbered f (suc n) xs)

pub same_variable_is : (v w : Variable) → same_variable v w ≡ true → v ≡ w
same_variable_is v w e =
    let p = and_parts (same_sort v.sort w.sort) (v.number == w.number) e in
    let s = same_sort_is v.sort w.sort p.0 in
    let n = eqb-true v.number w.number p.1 in
    λ i. record { sort = s i; number = n i }

pub same_sort_itself : (s : VariableSort) → same_sort s s ≡ true
same_sort_itself V.General = refl
same_sort_itself V.Integer = refl
same_sort_itself V.Floating = refl
same_sort_itself V.Constant = refl

-- What a look knows of a variable that gets a value.
pub record CanTake (S : State) (L : Live) (v : Variable) (t : Tree) : Type 0 where
  pub is_known : is_strange S L (H.Infer v) ≡ false
  pub free : value_of S v.number ≡ None
  pub fits : fits_sort v.sort t.head ≡ true
  pub not_in : occurs v.number t ≡ false
  pub is_closed : escapes 0 (alone t) ≡ false
  pub in_universe : holds (is_placeholder_above (universe_in (info S v.number))) (erase (alone t)) ≡ false
  pub known : holds (is_strange S L) (alone t) ≡ false
  pub is_resolved : IsResolved S (alone t)

-- Infos after it

module _ (S : State) (v : Variable) (t : Tree) where
  abbrev u : ℕ
  u = universe_in (info S v.number)

  pub info_bound : (m : ℕ) → info (bound S v t) m ≡ option_map (info_after v u t m) (info S m)
  info_bound m = get_numbered (info_after v u t) 0 m S.variables ∙ ap (λ k. option_map (info_after v u t k) (info S m)) (no_more m)
    where
      no_more : (m : ℕ) → 0 + m ≡ m
      no_more m = omega arith

  pub length_bound : length (bound S v t).variables ≡ length S.variables
  length_bound = length_numbered (info_after v u t) 0 S.variables

  -- what a variable was before
  pub record Before (m : ℕ) (j : VariableInfo) : Type 0 where
    pub old : VariableInfo
    pub there : info S m ≡ Some old
    pub is : info_after v u t m old ≡ j

  pub before : (m : ℕ) (j : VariableInfo) → info (bound S v t) m ≡ Some j → Before m j
  before m j e = at (info S m) refl
    where
      at : (o : Option VariableInfo) → info S m ≡ o → Before m j
      at None f = absurd (let clash : None ≡ Some j = sym (ap (option_map (info_after v u t m)) f) ∙ sym (info_bound m) ∙ e in cc)
      at (Some i) f =
          let same : Some (info_after v u t m i) ≡ Some j = sym (ap (option_map (info_after v u t m)) f) ∙ sym (info_bound m) ∙ e in
          record { old = i; there = f; is = cc }

  pub now : (m : ℕ) (i : VariableInfo) → info S m ≡ Some i → info (bound S v t) m ≡ Some (info_after v u t m i)
  now m i e = info_bound m ∙ ap (option_map (info_after v u t m)) e

  pub kind_bound : (k : VariableKind) (m : ℕ) → has_kind k (info (bound S v t) m) ≡ has_kind k (info S m)
  kind_bound k m = ap (has_kind k) (info_bound m) ∙ at (info S m)
    where
      at : (o : Option VariableInfo) → has_kind k (option_map (info_after v u t m) o) ≡ has_kind k o
      at None = refl
      at (Some i) = refl

  pub strange_bound : (L : Live) (h : Head) → is_strange (bound S v t) L h ≡ is_strange S L h
  strange_bound L (H.Infer w) = ap (λ b. not (L w.number && b)) (kind_bound (Term w.sort) w.number)
  strange_bound L (H.Region (R.Var n)) = ap (λ b. not (L n && b)) (kind_bound Region n)
  strange_bound L _ = refl

  pub known_bound : (L : Live) (ts : Forest) → holds (is_strange S L) ts ≡ false → holds (is_strange (bound S v t) L) ts ≡ false
  known_bound L ts e = holds_to (is_strange S L) (is_strange S L) (is_strange (bound S v t) L) (λ h a b. strange_bound L h ∙ a) ts e e

  -- universes

  after_apart : (m : ℕ) (i : VariableInfo) → occurs m t ≡ false → (info_after v u t m i).universe ≡ i.universe
  after_apart m i e = ap (λ b. if b then min i.universe u else i.universe) e

  after_in : (m : ℕ) (i : VariableInfo) → occurs m t ≡ true → (info_after v u t m i).universe ≡ min i.universe u
  after_in m i e = ap (λ b. if b then min i.universe u else i.universe) e

  after_lower : (m : ℕ) (i : VariableInfo) → (info_after v u t m i).universe ≤ i.universe
  after_lower m i = at (occurs m t)
    where
      at : (b : Bool) → (if b then min i.universe u else i.universe) ≤ i.universe
      at true = omega arith
      at false = omega arith

  pub universe_apart : (m : ℕ) → occurs m t ≡ false → universe_in (info (bound S v t) m) ≡ universe_in (info S m)
  universe_apart m e = ap universe_in (info_bound m) ∙ at (info S m)
    where
      at : (o : Option VariableInfo) → universe_in (option_map (info_after v u t m) o) ≡ universe_in o
      at None = refl
      at (Some i) = after_apart m i e

  pub universe_lower : (m : ℕ) → universe_in (info (bound S v t) m) ≤ universe_in (info S m)
  universe_lower m = subst (λ o. universe_in o ≤ universe_in (info S m)) (sym (info_bound m)) (at (info S m))
    where
      at : (o : Option VariableInfo) → universe_in (option_map (info_after v u t m) o) ≤ universe_in o
      at None = omega arith
      at (Some i) = after_lower m i

  -- what stands in the value is of no universe above the variable's
  pub universe_in_value : (m : ℕ) → occurs m t ≡ true → universe_in (info (bound S v t) m) ≤ u
  universe_in_value m e = subst (λ o. universe_in o ≤ u) (sym (info_bound m)) (at (info S m))
    where
      least : (a b : ℕ) → a ≡ min b u → a ≤ u
      least a b e = omega (arith, e)

      at : (o : Option VariableInfo) → universe_in (option_map (info_after v u t m) o) ≤ u
      at None = omega arith
      at (Some i) = least (info_after v u t m i).universe i.universe (after_in m i e)

  -- values

  pub value_other : (m : ℕ) → (m == v.number) ≡ false → value_of (bound S v t) m ≡ option_map (valued_tree (single v t)) (value_of S m)
  value_other m e = ap value_in (info_bound m) ∙ at (info S m)
    where
      at : (o : Option VariableInfo) → value_in (option_map (info_after v u t m) o) ≡ option_map (valued_tree (single v t)) (value_in o)
      at None = refl
      at (Some i) = ap (λ b. if b then Some t else option_map (valued_tree (single v t)) i.value) e

  pub value_as_other : (k : VariableKind) (m : ℕ) → (m == v.number) ≡ false → value_as (bound S v t) k m ≡ option_map (valued_tree (single v t)) (value_as S k m)
  value_as_other k m e =
      ap (λ b. if b then value_of (bound S v t) m else None) (kind_bound k m)
      ∙ ap (λ o. if has_kind k (info S m) then o else None) (value_other m e) ∙ at (has_kind k (info S m))
    where
      at : (b : Bool) → (if b then option_map (valued_tree (single v t)) (value_of S m) else None) ≡ option_map (valued_tree (single v t)) (if b then value_of S m else None)
      at true = refl
      at false = refl

  pub value_own : (i : VariableInfo) → info S v.number ≡ Some i → value_of (bound S v t) v.number ≡ Some t
  value_own i e = ap value_in (now v.number i e) ∙ ap (λ b. if b then Some t else option_map (valued_tree (single v t)) i.value) (eq-eqb v.number v.number refl)

  -- the variable has its value in its own kind
  pub value_given : (L : Live) → is_strange S L (H.Infer v) ≡ false → value_at (bound S v t) (H.Infer v) ≡ Some t
  value_given L k =
      let i = has_info (L v.number) (Term v.sort) (info S v.number) k in
      let there : has_kind (Term v.sort) (info S v.number) ≡ true = kind_there (L v.number) (Term v.sort) (info S v.number) k in
      value_as_is (bound S v t) (Term v.sort) v.number (kind_bound (Term v.sort) v.number ∙ there) ∙ value_own i.0 i.1

  -- where a value comes from
  pub data ValueAfter (m : ℕ) (i : VariableInfo) (x : Tree) : Type 0 where
    own : m ≡ v.number → t ≡ x → ValueAfter m i x
    put : (y : Tree) → (m == v.number) ≡ false → i.value ≡ Some y → valued_tree (single v t) y ≡ x → ValueAfter m i x

  pub value_after : (m : ℕ) (i : VariableInfo) (x : Tree) → (info_after v u t m i).value ≡ Some x → ValueAfter m i x
  value_after m i x e = at (m == v.number) refl e
    where
      inner : (o : Option Tree) → i.value ≡ o → (m == v.number) ≡ false → option_map (valued_tree (single v t)) o ≡ Some x → ValueAfter m i x
      inner None f n e = cc
      inner (Some y) f n e = put y n f (let is : valued_tree (single v t) y ≡ x = cc in is)

      at : (b : Bool) → (m == v.number) ≡ b → (if b then Some t else option_map (valued_tree (single v t)) i.value) ≡ Some x → ValueAfter m i x
      at true n e = own (eqb-true m v.number n) (let is : t ≡ x = cc in is)
      at false n e = inner i.value refl n e

-- Sorts

pub integer_is_type : (h : Head) → is_integer h ≡ true → is_type h ≡ true
integer_is_type (H.Infer v) e = ap (λ s. is_type_kind (sort_kind s)) (same_sort_is v.sort V.Integer e)
integer_is_type (H.Builtin b) e = refl
integer_is_type _ e = cc

pub float_is_type : (h : Head) → is_float h ≡ true → is_type h ≡ true
float_is_type (H.Infer v) e = ap (λ s. is_type_kind (sort_kind s)) (same_sort_is v.sort V.Floating e)
float_is_type (H.Builtin b) e = refl
float_is_type _ e = cc

-- what fits a variable's sort fits where the variable fits
pub fits_through : (s : VariableSort) (w : Variable) (h : Head) → fits_sort s (H.Infer w) ≡ true → fits_sort w.sort h ≡ true → fits_sort s h ≡ true
fits_through V.Integer w h e f = subst (λ s. fits_sort s h ≡ true) (same_sort_is w.sort V.Integer e) f
fits_through V.Floating w h e f = subst (λ s. fits_sort s h ≡ true) (same_sort_is w.sort V.Floating e) f
fits_through V.General w h e f = at w.sort e f
  where
    at : (s : VariableSort) → is_type_kind (sort_kind s) ≡ true → fits_sort s h ≡ true → fits_sort V.General h ≡ true
    at V.General e f = f
    at V.Integer e f = integer_is_type h f
    at V.Floating e f = float_is_type h f
    at V.Constant e f = cc
fits_through V.Constant w h e f = at w.sort e f
  where
    at : (s : VariableSort) → is_constant_kind (sort_kind s) ≡ true → fits_sort s h ≡ true → fits_sort V.Constant h ≡ true
    at V.Constant e f = f
    at _ e f = cc

pub data Single (v : Variable) (t : Tree) (h : Head) : Option Tree → Type 0 where
  given : h ≡ H.Infer v → Single v t h (Some t)
  stays : single v t h ≡ None → Single v t h None

pub which_single : (v : Variable) (t : Tree) (h : Head) → Single v t h (single v t h)
which_single v t (H.Infer w) = at (same_variable v w) refl
  where
    at : (b : Bool) → same_variable v w ≡ b → Single v t (H.Infer w) (if b then Some t else None)
    at true e = given (ap H.Infer (sym (same_variable_is v w e)))
    at false e = stays (ap (λ b. if b then Some t else None) e)
which_single v t h = stays refl

-- the variable, and the value, of which something is put in
pub single_is : (v : Variable) (t : Tree) (h : Head) (x : Tree) → single v t h ≡ Some x → (h ≡ H.Infer v) × (t ≡ x)
single_is v t h x e = at (single v t h) (which_single v t h) e
  where
    at : (o : Option Tree) → Single v t h o → o ≡ Some x → (h ≡ H.Infer v) × (t ≡ x)
    at _ (given f) e = (f, let is : t ≡ x = cc in is)
    at _ (stays f) e = cc

put_fits : (s : VariableSort) (v : Variable) (t y : Tree) → fits_sort v.sort t.head ≡ true → fits_sort s y.head ≡ true → fits_sort s (valued_tree (single v t) y).head ≡ true
put_fits s v t y f e = at (single v t y.head) refl
  where
    at : (o : Option Tree) → single v t y.head ≡ o → fits_sort s (unwrap_or o (record { head = y.head; children = fold (λ _ u. single v t u.head) (0 + binders_of y.head) y.children })).head ≡ true
    at None g = e
    at (Some x) g =
        let p = single_is v t y.head x g in
        subst (λ x. fits_sort s x.head ≡ true) p.1 (fits_through s v t.head (subst (λ h. fits_sort s h ≡ true) p.0 e) f)

put_region : (v : Variable) (t y : Tree) → is_region y.head ≡ true → is_region (valued_tree (single v t) y).head ≡ true
put_region v t y e = at (single v t y.head) refl
  where
    at : (o : Option Tree) → single v t y.head ≡ o → is_region (unwrap_or o (record { head = y.head; children = fold (λ _ u. single v t u.head) (0 + binders_of y.head) y.children })).head ≡ true
    at None g = e
    at (Some x) g = let clash : false ≡ true = sym (ap is_region (single_is v t y.head x g).0) ∙ e in cc

pub put_kind : (k : VariableKind) (v : Variable) (t y : Tree) → fits_sort v.sort t.head ≡ true → fits_kind k y.head ≡ true → fits_kind k (valued_tree (single v t) y).head ≡ true
put_kind (Term s) v t y f e = put_fits s v t y f e
put_kind Region v t y f e = put_region v t y e

put_closed : (v : Variable) (t y : Tree) → escapes 0 (alone t) ≡ false → escapes 0 (alone y) ≡ false → escapes 0 (alone (valued_tree (single v t) y)) ≡ false
put_closed v t y f e = fold_closed (λ _ u. single v t u.head) (λ d x w g. subst (λ w. escapes 0 (alone w) ≡ false) (single_is v t x.head w g).1 f) 0 0 (alone y) e

-- The state is sound

module _ (S : State) (L : Live) (v : Variable) (t : Tree) (can : CanTake S L v t) where
  abbrev T : State
  T = bound S v t

  own_kind : has_kind (Term v.sort) (info S v.number) ≡ true
  own_kind = kind_there (L v.number) (Term v.sort) (info S v.number) can.is_known

  -- a variable of that number is of that sort
  same_sort_there : (s : VariableSort) (o : Option VariableInfo) → has_kind (Term s) o ≡ true → has_kind (Term v.sort) o ≡ true → s ≡ v.sort
  same_sort_there s None a b = cc
  same_sort_there s (Some i) a b = at i.kind a b
    where
      at : (k : VariableKind) → same_kind k (Term s) ≡ true → same_kind k (Term v.sort) ≡ true → s ≡ v.sort
      at (Term r) a b = sym (same_sort_is r s a) ∙ same_sort_is r v.sort b
      at Region a b = cc

  not_region : (o : Option VariableInfo) → has_kind Region o ≡ true → has_kind (Term v.sort) o ≡ true → ⊥
  not_region None a b = cc
  not_region (Some i) a b = at i.kind a b
    where
      at : (k : VariableKind) → same_kind k Region ≡ true → same_kind k (Term v.sort) ≡ true → ⊥
      at (Term r) a b = cc
      at Region a b = cc

  -- what stays where the value is put in is another variable, if any
  pub another : (h : Head) → is_strange S L h ≡ false → single v t h ≡ None → is_number v.number h ≡ false
  another (H.Infer w) k e = false_from_ne_true (w.number == v.number) (λ n. clash n)
    where
      clash : (w.number == v.number) ≡ true → ⊥
      clash n =
          let same : w.number ≡ v.number = eqb-true w.number v.number n in
          let sort : w.sort ≡ v.sort = same_sort_there w.sort (info S w.number) (kind_there (L w.number) (Term w.sort) (info S w.number) k) (subst (λ m. has_kind (Term v.sort) (info S m) ≡ true) (sym same) own_kind) in
          let sorts : same_sort v.sort w.sort ≡ true = subst (λ s. same_sort v.sort s ≡ true) (sym sort) (same_sort_itself v.sort) in
          let is : same_variable v w ≡ true = and_from (same_sort v.sort w.sort) (v.number == w.number) sorts (eq-eqb v.number w.number (sym same)) in
          let bad : Some t ≡ None = sym (ap (λ b. if b then Some t else None) is) ∙ e in cc
  another (H.Region (R.Var n)) k e = false_from_ne_true (n == v.number) (λ m. clash m)
    where
      clash : (n == v.number) ≡ true → ⊥
      clash m = not_region (info S n) (kind_there (L n) Region (info S n) k) (subst (λ j. has_kind (Term v.sort) (info S j) ≡ true) (sym (eqb-true n v.number m)) own_kind)
  another _ k e = refl

  pub unvalued : (h : Head) → has_value S h ≡ false → is_number v.number h ≡ false → has_value T h ≡ false
  unvalued (H.Infer w) e n = ap is_some (value_as_other S v t (Term w.sort) w.number n ∙ ap (option_map (valued_tree (single v t))) (no_value (value_at S (H.Infer w)) e))
  unvalued (H.Region (R.Var m)) e n = ap is_some (value_as_other S v t Region m n ∙ ap (option_map (valued_tree (single v t))) (no_value (value_as S Region m) e))
  unvalued _ e n = refl

  -- the value is put in as the state's values are
  some_bound : (h : Head) (x : Tree) → is_strange S L h ≡ false → value_at S h ≡ Some x → value_at T h ≡ Some (valued_tree (single v t) x)
  some_bound h x k e = at h e
    where
      by : (l : VariableKind) (n : ℕ) → value_as S l n ≡ Some x → value_as T l n ≡ Some (valued_tree (single v t) x)
      by l n e =
          value_as_other S v t l n (false_from_ne_true (n == v.number) (λ m. let clash : Some x ≡ None = sym (value_as_of S l n x e) ∙ ap (value_of S) (eqb-true n v.number m) ∙ can.free in cc))
          ∙ ap (option_map (valued_tree (single v t))) e

      at : (h : Head) → value_at S h ≡ Some x → value_at T h ≡ Some (valued_tree (single v t) x)
      at (H.Infer w) e = by (Term w.sort) w.number e
      at (H.Region (R.Var n)) e = by Region n e
      at _ e = cc

  other_bound : (h : Head) → is_strange S L h ≡ false → value_at S h ≡ None → value_at T h ≡ single v t h
  other_bound h k e = at (single v t h) (which_single v t h)
    where
      by : (h : Head) → value_at S h ≡ None → is_number v.number h ≡ false → value_at T h ≡ None
      by (H.Infer w) e n = value_as_other S v t (Term w.sort) w.number n ∙ ap (option_map (valued_tree (single v t))) e
      by (H.Region (R.Var m)) e n = value_as_other S v t Region m n ∙ ap (option_map (valued_tree (single v t))) e
      by _ e n = refl

      at : (o : Option Tree) → Single v t h o → value_at T h ≡ o
      at _ (given f) = ap (value_at T) f ∙ value_given S v t L can.is_known
      at _ (stays f) = by h e (another h k f)

  pub resolved_bound : (ts : Forest) → holds (is_strange S L) ts ≡ false → resolved T ts ≡ valued (single v t) (resolved S ts)
  resolved_bound ts k = sym (valued_twice (value_at S) (single v t) (value_at T) (is_strange S L) some_bound other_bound ts k)

  -- the value has no value in it
  pub value_is_resolved : IsResolved T (alone t)
  value_is_resolved = holds_to (has_value S) (is_number v.number) (has_value T) unvalued (alone t) can.is_resolved can.not_in

  -- a variable with a value doesn't stand in it
  valued_not_in : (m : ℕ) (x : Tree) → value_of S m ≡ Some x → occurs m t ≡ false
  valued_not_in m x e = holds_to (has_value S) (is_strange S L) (is_number m) (λ h a b. at h a b) (alone t) can.is_resolved can.known
    where
      by : (l : VariableKind) (n : ℕ) → has_kind l (info S n) ≡ true → is_some (value_as S l n) ≡ false → (n == m) ≡ false
      by l n c f = false_from_ne_true (n == m) (λ k. let clash : false ≡ true = sym f ∙ ap is_some (value_as_is S l n c) ∙ ap (λ j. is_some (value_of S j)) (eqb-true n m k) ∙ ap is_some e in cc)

      at : (h : Head) → has_value S h ≡ false → is_strange S L h ≡ false → is_number m h ≡ false
      at (H.Infer w) f k = by (Term w.sort) w.number (kind_there (L w.number) (Term w.sort) (info S w.number) k) f
      at (H.Region (R.Var n)) f k = by Region n (kind_there (L n) Region (info S n) k) f
      at _ f k = refl

  -- marks of values with the value put in

  put_known : (y : Tree) → holds (is_strange S L) (alone y) ≡ false → holds (is_strange S L) (alone (valued_tree (single v t) y)) ≡ false
  put_known y k =
      fold_marked (λ _ x. single v t x.head) (is_strange S L) (is_strange S L) (is_strange S L) (λ d x a b e. a)
      (λ d x w a b e. subst (λ w. holds (is_strange S L) (alone w) ≡ false) (single_is v t x.head w e).1 can.known) 0 (alone y) k k

  put_resolved : (y : Tree) → holds (is_strange S L) (alone y) ≡ false → IsResolved S (alone y) → IsResolved T (alone (valued_tree (single v t) y))
  put_resolved y k r =
      fold_marked (λ _ x. single v t x.head) (is_strange S L) (has_value S) (has_value T) (λ d x a b e. unvalued x.head b (another x.head a e))
      (λ d x w a b e. subst (λ w. IsResolved T (alone w)) (single_is v t x.head w e).1 value_is_resolved) 0 (alone y) k r

  abbrev high : ℕ → Head → Bool
  high k h = is_placeholder_above k (erased_head h)

  abbrev higher : State → ℕ → Head → Bool
  higher R k h = is_variable_above (universes R) k (erased_head h)

  not_less : (k m n : ℕ) → k ≤ m → nat_lt k n ≡ false → nat_lt m n ≡ false
  not_less k m n l e = le-ltb m n (le_trans (ltb-false k n e) l)

  high_on : (k m : ℕ) → k ≤ m → (h : Head) → high k h ≡ false → high m h ≡ false
  high_on k m l (H.Placeholder p) e = not_less k m p.universe l e
  high_on k m l (H.Const (C.Placeholder p)) e = not_less k m p.universe l e
  high_on k m l _ e = refl

  higher_on : (R : State) (k m : ℕ) → k ≤ m → (h : Head) → higher R k h ≡ false → higher R m h ≡ false
  higher_on R k m l (H.Infer w) e = not_less k m (universes R w) l e
  higher_on R k m l _ e = refl

  higher_later : (k : ℕ) (h : Head) → higher S k h ≡ false → higher T k h ≡ false
  higher_later k (H.Infer w) e = le-ltb k (universe_in (info T w.number)) (le_trans (universe_lower S v t w.number) (ltb-false k (universe_in (info S w.number)) e))
  higher_later k _ e = refl

  -- trees whose variables are of no universe above that one
  no_higher_in : (k : ℕ) (ts : Forest) → ((m : ℕ) → holds (is_number m) ts ≡ true → universe_in (info T m) ≤ k) → holds (higher T k) ts ≡ false
  no_higher_in k none f = refl
  no_higher_in k (tree h below rest) f =
      whole (higher T k) h below rest (here h (λ m e. f m (or_left (is_number m h) (holds (is_number m) below || holds (is_number m) rest) e)))
      (no_higher_in k below (λ m e. f m (or_right (is_number m h) (holds (is_number m) below || holds (is_number m) rest) (or_left (holds (is_number m) below) (holds (is_number m) rest) e))))
      (no_higher_in k rest (λ m e. f m (or_right (is_number m h) (holds (is_number m) below || holds (is_number m) rest) (or_right (holds (is_number m) below) (holds (is_number m) rest) e))))
    where
      here : (h : Head) → ((m : ℕ) → is_number m h ≡ true → universe_in (info T m) ≤ k) → higher T k h ≡ false
      here (H.Infer w) f = le-ltb k (universe_in (info T w.number)) (f w.number (eq-eqb w.number w.number refl))
      here _ f = refl

  value_not_higher : holds (higher T (universe_in (info S v.number))) (alone t) ≡ false
  value_not_higher = no_higher_in (universe_in (info S v.number)) (alone t) (universe_in_value S v t)

  universe_below : (k : ℕ) (h : Head) (x : Tree) → higher S k h ≡ false → single v t h ≡ Some x → universe_in (info S v.number) ≤ k
  universe_below k h x e f = ltb-false k (universe_in (info S v.number)) (ap (higher S k) (sym (single_is v t h x f).0) ∙ e)

  put_low : (k : ℕ) (y : Tree) → holds (is_placeholder_above k) (erase (alone y)) ≡ false → holds (is_variable_above (universes S) k) (erase (alone y)) ≡ false
      → holds (is_placeholder_above k) (erase (alone (valued_tree (single v t) y))) ≡ false
  put_low k y p q =
      holds_erased (is_placeholder_above k) (alone (valued_tree (single v t) y))
      ∙ fold_marked (λ _ x. single v t x.head) (high k) (higher S k) (high k) (λ d x a b e. a)
      (λ d x w a b e. subst (λ w. holds (high k) (alone w) ≡ false) (single_is v t x.head w e).1 (low (universe_below k x.head w b e))) 0 (alone y)
      (sym (holds_erased (is_placeholder_above k) (alone y)) ∙ p) (sym (holds_erased (is_variable_above (universes S) k) (alone y)) ∙ q)
    where
      low : universe_in (info S v.number) ≤ k → holds (high k) (alone t) ≡ false
      low l =
          let e = sym (holds_erased (is_placeholder_above (universe_in (info S v.number))) (alone t)) ∙ can.in_universe in
          holds_to (high (universe_in (info S v.number))) (high (universe_in (info S v.number))) (high k) (λ h a b. high_on (universe_in (info S v.number)) k l h a) (alone t) e e

  put_not_higher : (k : ℕ) (y : Tree) → holds (is_variable_above (universes S) k) (erase (alone y)) ≡ false
      → holds (is_variable_above (universes T) k) (erase (alone (valued_tree (single v t) y))) ≡ false
  put_not_higher k y q =
      let p = sym (holds_erased (is_variable_above (universes S) k) (alone y)) ∙ q in
      holds_erased (is_variable_above (universes T) k) (alone (valued_tree (single v t) y))
      ∙ fold_marked (λ _ x. single v t x.head) (higher S k) (higher S k) (higher T k) (λ d x a b e. higher_later k x.head a)
      (λ d x w a b e. subst (λ w. holds (higher T k) (alone w) ≡ false) (single_is v t x.head w e).1 (low (universe_below k x.head w b e))) 0 (alone y) p p
    where
      low : universe_in (info S v.number) ≤ k → holds (higher T k) (alone t) ≡ false
      low l = holds_to (higher T (universe_in (info S v.number))) (higher T (universe_in (info S v.number))) (higher T k) (λ h a b. higher_on T (universe_in (info S v.number)) k l h a) (alone t) value_not_higher value_not_higher

  -- values fit, whether they count or not
  pub bound_fits : (m : ℕ) → FitsVariable (info S m) → FitsVariable (info T m)
  bound_fits m fit = record { kind = λ i x e f. (both i x e f).0; is_closed = λ i x e f. (both i x e f).1 }
    where
      by : (old : VariableInfo) (x : Tree) → info S m ≡ Some old → ValueAfter S v t m old x → (fits_kind old.kind x.head ≡ true) × (escapes 0 (alone x) ≡ false)
      by old x e (own n is) = subst (λ x. (fits_kind old.kind x.head ≡ true) × (escapes 0 (alone x) ≡ false)) is (own_fits old.kind (ap (has_kind (Term v.sort)) (sym (sym (ap (info S) n) ∙ e)) ∙ own_kind), can.is_closed)
        where
          own_fits : (k : VariableKind) → same_kind k (Term v.sort) ≡ true → fits_kind k t.head ≡ true
          own_fits (Term s) g = subst (λ s. fits_sort s t.head ≡ true) (sym (same_sort_is s v.sort g)) can.fits
          own_fits Region g = cc
      by old x e (put y n f is) = subst (λ x. (fits_kind old.kind x.head ≡ true) × (escapes 0 (alone x) ≡ false)) is (
        put_kind old.kind v t y can.fits (fit.kind old y e f),
        put_closed v t y can.is_closed (fit.is_closed old y e f),
      )

      both : (i : VariableInfo) (x : Tree) → info T m ≡ Some i → i.value ≡ Some x → (fits_kind i.kind x.head ≡ true) × (escapes 0 (alone x) ≡ false)
      both i x e f =
          let b = before S v t m i e in
          subst (λ (j : VariableInfo). (fits_kind j.kind x.head ≡ true) × (escapes 0 (alone x) ≡ false)) b.is (by b.old x b.there (value_after S v t m b.old x (ap (λ (j : VariableInfo). j.value) b.is ∙ f)))

  -- What is asked of values, of the values before and of the one given.
  values_bound : (P : ℕ → VariableInfo → Tree → Type 0)
      → ((m : ℕ) (old : VariableInfo) → L m ≡ true → info S m ≡ Some old → m ≡ v.number → P m (info_after v (universe_in (info S v.number)) t m old) t)
      → ((m : ℕ) (old : VariableInfo) (y : Tree) → L m ≡ true → info S m ≡ Some old → old.value ≡ Some y → occurs m t ≡ false → P m (info_after v (universe_in (info S v.number)) t m old) (valued_tree (single v t) y))
      → OfValues T L P
  values_bound P of_own of_put m i x c e f =
      let b = before S v t m i e in
      subst (λ j. P m j x) b.is (by b.old b.there (value_after S v t m b.old x (ap (λ (j : VariableInfo). j.value) b.is ∙ f)))
    where
      by : (old : VariableInfo) → info S m ≡ Some old → ValueAfter S v t m old x → P m (info_after v (universe_in (info S v.number)) t m old) x
      by old there (own n is) = subst (P m (info_after v (universe_in (info S v.number)) t m old)) is (of_own m old c there n)
      by old there (put y n g is) =
          subst (P m (info_after v (universe_in (info S v.number)) t m old)) is (of_put m old y c there g (valued_not_in m y (ap value_in there ∙ g)))

  module _ (sound : IsSound S L) where
    own_not_in : (m : ℕ) → m ≡ v.number → occurs m t ≡ false
    own_not_in m n = subst (λ k. occurs k t ≡ false) (sym n) can.not_in

    own_sort : (m : ℕ) (old : VariableInfo) (s : VariableSort) → info S m ≡ Some old → m ≡ v.number → old.kind ≡ Term s → v.sort ≡ s
    own_sort m old s there n k =
        let is : has_kind (Term s) (info S m) ≡ true = ap (has_kind (Term s)) there ∙ ap (λ l. same_kind l (Term s)) k ∙ same_sort_itself s in
        sym (same_sort_there s (info S m) is (subst (λ k. has_kind (Term v.sort) (info S k) ≡ true) (sym n) own_kind))

    bound_allowed : (s : VariableSort) → OfValues T L (λ n i x. i.kind ≡ Term s → IsAllowedBinding (universes T) (record { variable = record { sort = s; number = n }; value = x }))
    bound_allowed s = values_bound (λ n i x. i.kind ≡ Term s → IsAllowedBinding (universes T) (record { variable = record { sort = s; number = n }; value = x }))
        (λ m old c there n k. record {
          fits = subst (λ s. fits_sort s t.head ≡ true) (own_sort m old s there n k) can.fits;
          is_closed = can.is_closed;
          in_universe = subst (λ u. holds (is_placeholder_above u) (erase (alone t)) ≡ false) (sym (universe_apart S v t m (own_not_in m n) ∙ ap (λ k. universe_in (info S k)) n)) can.in_universe;
        })
        (λ m old y c there g o k.
        let a = sound.allowed s m old y c there g k in
        record {
          fits = put_fits s v t y can.fits a.fits;
          is_closed = put_closed v t y can.is_closed a.is_closed;
          in_universe = subst (λ u. holds (is_placeholder_above u) (erase (alone (valued_tree (single v t) y))) ≡ false) (sym (universe_apart S v t m o))
              (put_low (universe_in (info S m)) y a.in_universe (subst (λ u. holds (is_variable_above (universes S) u) (erase (alone y)) ≡ false) (sym (ap universe_in there)) (sound.no_higher m old y c there g)));
        })

    bound_no_higher : OfValues T L (λ n i x. holds (is_variable_above (universes T) i.universe) (erase (alone x)) ≡ false)
    bound_no_higher = values_bound (λ n i x. holds (is_variable_above (universes T) i.universe) (erase (alone x)) ≡ false)
        (λ m old c there n.
        let is : universe_in (info S v.number) ≡ (info_after v (universe_in (info S v.number)) t m old).universe = ap (λ k. universe_in (info S k)) (sym n) ∙ ap universe_in there ∙ sym (after_apart S v t m old (own_not_in m n)) in
        subst (λ u. holds (is_variable_above (universes T) u) (erase (alone t)) ≡ false) is (holds_erased (is_variable_above (universes T) (universe_in (info S v.number))) (alone t) ∙ value_not_higher))
        (λ m old y c there g o. subst (λ u. holds (is_variable_above (universes T) u) (erase (alone (valued_tree (single v t) y))) ≡ false) (sym (after_apart S v t m old o)) (put_not_higher old.universe y (sound.no_higher m old y c there g)))

    pub bound_sound : IsSound T L
    bound_sound = record {
      allowed = bound_allowed;
      no_higher = bound_no_higher;
      is_resolved = values_bound (λ n i x. IsResolved T (alone x)) (λ m old c there n. value_is_resolved) (λ m old y c there g o. put_resolved y (sound.known m old y c there g) (sound.is_resolved m old y c there g));
      known = values_bound (λ n i x. holds (is_strange T L) (alone x) ≡ false) (λ m old c there n. known_bound S v t L (alone t) can.known)
          (λ m old y c there g o. known_bound S v t L (alone (valued_tree (single v t) y)) (put_known y (sound.known m old y c there g)));
      universes = λ m i c e.
          let b = before S v t m i e in
          le_trans (subst (λ (j : VariableInfo). j.universe ≤ b.old.universe) b.is (after_lower S v t m b.old)) (sound.universes m b.old c b.there);
    }

    -- what was resolved before is resolved further
    bound_values : (ts : Forest) → holds (is_strange S L) ts ≡ false → resolved T (resolved S ts) ≡ resolved T ts
    bound_values ts k =
        resolved_bound (resolved S ts) (resolved_known S L sound ts k) ∙ ap (valued (single v t)) (idle S L sound ts k) ∙ sym (resolved_bound ts k)

    pub bound_later : IsLater S T L
    bound_later = record {
      longer = same_le (sym (length_bound S v t));
      infos = λ m i e. record { now = info_after v (universe_in (info S v.number)) t m i; there = now S v t m i e; kind = refl; is_root = refl };
      no_root = λ m j e f. absurd (let clash : None ≡ Some j = sym (ap (option_map (info_after v (universe_in (info S v.number)) t m)) e) ∙ sym (info_bound S v t m) ∙ f in cc);
      universes = λ m l. universe_lower S v t m;
      fits = bound_fits;
      values = bound_values;
      newest = omega arith;
      mode = refl;
    }
      where
        same_le : {a b : ℕ} → a ≡ b → a ≤ b
        same_le e = omega (arith, e)
