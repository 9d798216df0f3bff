-- Variables that get values, one after another.
use Rattle.std.proofs.Common.{◌≡◌, ◌≤◌, ◌<◌, ℕ, zero, suc, ◌+◌, Bool, true, false, not, ◌&&◌, ◌||◌, ◌==◌, min, List, [], ◌∷◌, ◌++◌, Option, Some, None, Result, Ok, Err, IfOk, IfErr, OnOk, ◌⊎◌, inl, inr, length, map, slice_get, refl, sym, ap, subst, ◌∙◌, arith, if◌then◌else◌}
use Rattle.std.specs.Option.{option_map}
use Rattle.std.specs.Prelude.{nat_le, nat_lt}
use Rattle.std.proofs.Math.Dec.{leb}
use Rattle.std.proofs.lemmas.Bool.{eq-eqb, ne_eqb, leb-true, leb-false, le-leb, lt-leb, le-ltb, lt-ltb}
use Rattle.std.proofs.lemmas.Option.{slice_get-map}
use Rattle.std.proofs.lemmas.List.{length-append}
use Rattle.ir_trees.specs.declared.ir.heads.Head.{Head}
use Rattle.ir_trees.specs.declared.ir.heads.Head.TheVariants as H
use Rattle.ir_trees.specs.declared.ir.heads.Variable.{Variable}
use Rattle.ir_trees.specs.declared.ir.heads.VariableSort.{VariableSort}
use Rattle.ir_trees.specs.declared.ir.heads.VariableSort.TheVariants as V
use Rattle.ir_trees.specs.declared.ir.kinds.GenericArg.{GenericArg}
use Rattle.ir_trees.specs.declared.ir.kinds.GenericArg.TheVariants as A
use Rattle.ir_trees.specs.declared.ir.kinds.Ty.{Ty}
use Rattle.ir_trees.specs.declared.ir.kinds.Const.{Const}
use Rattle.ir_trees.specs.declared.ir.stop.Stop.{Stop}
use Rattle.ir_trees.specs.Syntax.Binders.{is_beyond, escapes, tree_escapes}
use Rattle.ir_trees.specs.declared.ir.heads.Flag.TheVariants as F
use Rattle.ir_trees.specs.Syntax.Flags.{mark, of_constant, of_type}
use Rattle.ir_trees.specs.Instantiation.Folds.{IsArg, IsOfKind, arg_tree}
use Rattle.ir_trees.specs.Syntax.Kinds.{arg_kind, arg_number}
use Rattle.ir_trees.specs.Unification.Substitutions.{alone, fits_sort, is_constant_kind, is_placeholder_above, same_variable}
use Rattle.ir_trees.specs.Syntax.Trees.{Forest, none, tree, Kind, ConstantKind, Tree, binders_of, erase, erased_head, holds, tree_holds, kind_of, is_type_kind, sort_kind, is_number}
use Rattle.ir_trees.proofs.Instantiation.Folding.{fold-nothing}
use Rattle.ir_trees.proofs.Syntax.Rows.{kind-of}
use Rattle.candidate_eval.specs.declared.eval.mode.TypingMode.{TypingMode}
use Rattle.candidate_eval.specs.declared.eval.variable.VariableKind.{VariableKind}
use Rattle.candidate_eval.specs.declared.eval.variable.VariableKind.TheVariants.{Term}
use Rattle.candidate_eval.specs.Judges.States.{State, VariableInfo, valued_tree, has_kind, same_kind}
use Rattle.candidate_eval.specs.Judges.Alike.{info}
use Rattle.candidate_eval.specs.Judges.Soundness.{fits_kind, universe_in}
use Rattle.candidate_rounds.specs.declared.rounds.inference.Entry.{Entry}
use Rattle.candidate_rounds.specs.Calls.Assigning.{single_arg, with_member, partly, within, with_info, with_its_value, with_its_universe, with_values_within, with_values, with_universes_up_to, with_universes, allows}
use Rattle.rounds_judge.specs.Equations.Binding.{occurs, single, info_after, numbered, bound, may_take}
use Rattle.candidate_rounds.specs.Evaluators.Inferences.{Inference, IsFurther, assign, lower, with_entry, with_value, with_universe, is_of_kind, back_to, value_of}
use Rattle.candidate_rounds.specs.Evaluators.Known.{info_of, state_of, Each, IsChange, IsConsistent, IsEntry, IsValue, IsTidy, IsWithin, SuitsKind, AreMarks, EachAt, is_open}
use Rattle.rounds_judge.proofs.States.Bound.{integer_is_type, float_is_type, same_variable_is, single_is}
use Rattle.candidate_rounds.proofs.Snapshots.Holding.{tidy-now}
use Rattle.candidate_rounds.proofs.Snapshots.Knowing.{each-append, each-entry, each-at-entry, each-at-imply, each-get, there-arg}
use Rattle.rounds_judge.proofs.States.Marks.{holds_erased}
use Rattle.rounds_judge.proofs.Unifiers.Solving.{kind_same}
use Rattle.candidate_rounds.proofs.Snapshots.Probing.{holds-after, holds-back}
use Rattle.candidate_rounds.proofs.Snapshots.Undoing.{undo-assign, undo-lower}
use Rattle.candidate_rounds.proofs.Resolution.Values.{is-type-kind}

-- A tree alone in a row

or-none : (b : Bool) → b || false ≡ b
or-none true = refl
or-none false = refl

pub holds-alone : (mark : Head → Bool) (t : Tree) → holds mark (alone t) ≡ tree_holds mark t
holds-alone mark t = ap (λ b. mark t.head || b) (or-none (holds mark t.children))

pub escapes-alone : (t : Tree) → escapes 0 (alone t) ≡ tree_escapes 0 t
escapes-alone t = ap (λ b. is_beyond 0 t.head || b) (or-none (escapes (0 + binders_of t.head) t.children))

-- regions are no placeholders of types or constants
erased-placeholder : (u : ℕ) (h : Head) → is_placeholder_above u (erased_head h) ≡ is_placeholder_above u h
erased-placeholder u (H.Region r) = refl
erased-placeholder u _ = refl

holds-by : (a b : Head → Bool) → ((h : Head) → a h ≡ b h) → (ts : Forest) → holds a ts ≡ holds b ts
holds-by a b f none = refl
holds-by a b f (tree h below rest) = rw (f h, holds-by a b f below, holds-by a b f rest) refl

pub placeholders-alone : (u : ℕ) (t : Tree) → holds (is_placeholder_above u) (erase (alone t)) ≡ tree_holds (is_placeholder_above u) t
placeholders-alone u t =
    holds_erased (is_placeholder_above u) (alone t)
    ∙ (holds-by (λ h. is_placeholder_above u (erased_head h)) (is_placeholder_above u) (erased-placeholder u) (alone t)
    ∙ holds-alone (is_placeholder_above u) t)

-- so the walks over a tree say whether it is allowed

pub held-refused : (n u : ℕ) (t : Tree) → tree_holds (is_number n) t ≡ true → false ≡ allows n u t
held-refused n u t e = sym (ap (λ b. not b && (not (escapes 0 (alone t)) && not (holds (is_placeholder_above u) (erase (alone t))))) (holds-alone (is_number n) t ∙ e))

pub open-refused : (n u : ℕ) (t : Tree) → tree_escapes 0 t ≡ true → false ≡ allows n u t
open-refused n u t e = sym (ap (λ b. not (occurs n t) && (not b && not (holds (is_placeholder_above u) (erase (alone t))))) (escapes-alone t ∙ e) ∙ at (not (occurs n t)))
  where
    at : (b : Bool) → b && false ≡ false
    at true = refl
    at false = refl

pub else-allowed : (n u : ℕ) (t : Tree) (b : Bool) → tree_holds (is_number n) t ≡ false → tree_escapes 0 t ≡ false → b ≡ tree_holds (is_placeholder_above u) t → not b ≡ allows n u t
else-allowed n u t b p q r =
    let x : occurs n t ≡ false = holds-alone (is_number n) t ∙ p in
    let y : escapes 0 (alone t) ≡ false = escapes-alone t ∙ q in
    let z : holds (is_placeholder_above u) (erase (alone t)) ≡ b = placeholders-alone u t ∙ sym r in
    sym (ap (λ a. not a && (not (escapes 0 (alone t)) && not (holds (is_placeholder_above u) (erase (alone t))))) x
    ∙ (ap (λ a. not a && not (holds (is_placeholder_above u) (erase (alone t)))) y
    ∙ ap not z))

-- Sorts

-- a variable for types of any sort goes to types, and one for constants to constants

pub fits-general : (ts : List Tree) (a : GenericArg) → IsArg ts a → fits_sort V.General (arg_tree ts a).head ≡ is_type_kind (arg_kind a)
fits-general ts a i = ap is_type_kind (kind-of ts (arg_number a) (arg_kind a) (there-arg a) i)

pub fits-constant : (ts : List Tree) (a : GenericArg) → IsArg ts a → fits_sort V.Constant (arg_tree ts a).head ≡ is_constant_kind (arg_kind a)
fits-constant ts a i = ap is_constant_kind (kind-of ts (arg_number a) (arg_kind a) (there-arg a) i)

pub not-type : (a : GenericArg) → ((t : Ty) → a ≡ A.Ty t → ⊥) → is_type_kind (arg_kind a) ≡ false
not-type (A.Ty t) n = absurd (n t refl)
not-type (A.Const c) n = refl
not-type (A.Region r) n = refl

pub not-constant : (a : GenericArg) → ((c : Const) → a ≡ A.Const c → ⊥) → is_constant_kind (arg_kind a) ≡ false
not-constant (A.Ty t) n = refl
not-constant (A.Const c) n = absurd (n c refl)
not-constant (A.Region r) n = refl

-- Members

pub with_member-same : {A : Type 0} (xs : List A) (n : ℕ) (f : A → A) → ((x : A) → slice_get xs n ≡ Some x → f x ≡ x) → with_member xs n f ≡ xs
with_member-same [] n f k = refl
with_member-same (x ∷ xs) zero f k = ap (λ y. y ∷ xs) (k x refl)
with_member-same (x ∷ xs) (suc n) f k = ap (λ ys. x ∷ ys) (with_member-same xs n f k)

pub with_member-twice : {A : Type 0} (xs : List A) (n : ℕ) (f g : A → A) → with_member (with_member xs n f) n g ≡ with_member xs n (λ x. g (f x))
with_member-twice [] n f g = refl
with_member-twice (x ∷ xs) zero f g = refl
with_member-twice (x ∷ xs) (suc n) f g = ap (λ ys. x ∷ ys) (with_member-twice xs n f g)

map-with_entry : (g : Entry → VariableInfo) (es : List Entry) (n : ℕ) (f : Entry → Entry) (h : VariableInfo → VariableInfo) → ((e : Entry) → slice_get es n ≡ Some e → g (f e) ≡ h (g e))
    → map g (with_entry es n f) ≡ with_member (map g es) n h
map-with_entry g [] n f h k = refl
map-with_entry g (e ∷ es) zero f h k = ap (λ y. y ∷ map g es) (k e refl)
map-with_entry g (e ∷ es) (suc n) f h k = ap (λ ys. g e ∷ ys) (map-with_entry g es n f h k)

map-same : (g : Entry → VariableInfo) (es : List Entry) (n : ℕ) (h : VariableInfo → VariableInfo) → ((e : Entry) → slice_get es n ≡ Some e → h (g e) ≡ g e) → with_member (map g es) n h ≡ map g es
map-same g [] n h k = refl
map-same g (e ∷ es) zero h k = ap (λ y. y ∷ map g es) (k e refl)
map-same g (e ∷ es) (suc n) h k = ap (λ ys. g e ∷ ys) (map-same g es n h k)

each-at : (P : Entry → Type 0) (es : List Entry) (n : ℕ) (f : Entry → Entry) → ((e : Entry) → slice_get es n ≡ Some e → P (f e)) → Each P es → Each P (with_entry es n f)
each-at P [] n f h k = tt
each-at P (e ∷ es) zero f h k = (h e refl, k.1)
each-at P (e ∷ es) (suc n) f h k = (k.0, each-at P es n f h k.1)

pub partly-more : {A : Type 0} (f : ℕ → A → A) (n k : ℕ) (xs : List A) → with_member (partly f n k xs) k (f (n + k)) ≡ partly f n (suc k) xs
partly-more f n zero [] = refl
partly-more f n zero (x ∷ xs) = ap (λ i. f i x ∷ xs) (let e : n + 0 ≡ n = omega arith in e)
partly-more f n (suc k) [] = refl
partly-more f n (suc k) (x ∷ xs) = ap (λ i. f n x ∷ with_member (partly f (suc n) k xs) k (f i)) (let e : n + suc k ≡ suc n + k = omega arith in e) ∙ ap (λ ys. f n x ∷ ys) (partly-more f (suc n) k xs)

pub partly-all : {A : Type 0} (f : ℕ → A → A) (n k : ℕ) (xs : List A) → k ≡ length xs → partly f n k xs ≡ numbered f n xs
partly-all f n zero [] e = refl
partly-all f n zero (x ∷ xs) e = absurd (omega (arith, e))
partly-all f n (suc k) [] e = refl
partly-all f n (suc k) (x ∷ xs) e = ap (λ ys. f n x ∷ ys) (partly-all f (suc n) k xs (omega (arith, e)))

pub get-below : {A : Type 0} (xs : List A) (n : ℕ) (x : A) → slice_get xs n ≡ Some x → n < length xs
get-below [] n x e = cc
get-below (y ∷ ys) zero x e = omega arith
get-below (y ∷ ys) (suc n) x e = let l = get-below ys n x e in omega (arith, l)

pub some-is : {A : Type 0} {x y : A} → Some x ≡ Some y → x ≡ y
some-is e = cc

-- What is kept still holds

one-more : {A : Type 0} (xs : List A) (x : A) → length (xs ++ x ∷ []) ≡ suc (length xs)
one-more xs x = length-append xs (x ∷ []) ∙ omega arith

pub holds-lower : (ts : List Tree) (s : Inference) (ks : List ℕ) (n u : ℕ) → IsConsistent ts s ks → u ≤ s.newest_universe → IsConsistent ts (lower s n u) ks
holds-lower ts s ks n u h l =
    holds-after ts s (lower s n u) ks h (undo-lower s n u) (one-more s.trail _)
    (record { values = each-entry (IsEntry ts) s.variables n (with_universe u) (λ e j. j) h.known.values; regions = h.known.regions; goals = h.known.goals; changes = each-append (IsChange ts) s.trail _ h.known.changes tt })
    (let t = tidy-now ts s ks h in record {
      pending = t.pending;
      kinds = each-entry (SuitsKind ts) s.variables n (with_universe u) (λ e j. j) t.kinds;
      room = each-at-entry (IsWithin ts s.first_open s.end_open) 0 s.variables n (with_universe u) (λ e g j. j) t.room;
      universes = each-entry (λ (e : Entry). e.universe ≤ s.newest_universe) s.variables n (with_universe u) (λ e j. l) t.universes;
    })

value-there : (ts : List Tree) (es : List Entry) (n : ℕ) → Each (IsEntry ts) es → IsValue ts (value_of (slice_get es n))
value-there ts es n k = at (slice_get es n) refl
  where
    at : (o : Option Entry) → slice_get es n ≡ o → IsValue ts (value_of o)
    at None g = tt
    at (Some e) g = each-get (IsEntry ts) es n e k g

pub holds-assign : (ts : List Tree) (s : Inference) (ks : List ℕ) (n : ℕ) (x : GenericArg) → IsConsistent ts s ks → IsArg ts x → ((e : Entry) → slice_get s.variables n ≡ Some e → fits_kind e.kind (arg_tree ts x).head ≡ true)
    → (tree_holds is_open (arg_tree ts x) ≡ true → (s.first_open ≤ n) × (n < s.end_open)) → IsConsistent ts (assign s n x) ks
holds-assign ts s ks n x h i f o =
    holds-after ts s (assign s n x) ks h (undo-assign s n x) (one-more s.trail _)
    (record { values = each-entry (IsEntry ts) s.variables n (with_value (Some x)) (λ e j. i) h.known.values; regions = h.known.regions; goals = h.known.goals; changes = each-append (IsChange ts) s.trail _ h.known.changes (value-there ts s.variables n h.known.values) })
    (let t = tidy-now ts s ks h in record {
      pending = t.pending;
      kinds = each-at (SuitsKind ts) s.variables n (with_value (Some x)) (λ e g v q. let same : x ≡ v = cc in subst (λ y. fits_kind e.kind (arg_tree ts y).head ≡ true) same (f e g)) t.kinds;
      room = each-at-entry (IsWithin ts s.first_open s.end_open) 0 s.variables n (with_value (Some x)) (λ e g j v q p. let same : v ≡ x = cc in let l = o (ap (λ y. tree_holds is_open (arg_tree ts y)) (sym same) ∙ p) in (omega (arith, l.0), omega (arith, l.1))) t.room;
      universes = each-entry (λ (e : Entry). e.universe ≤ s.newest_universe) s.variables n (with_value (Some x)) (λ e j. j) t.universes;
    })

-- of a call that made one change or none
pub call-holds : {A : Type 0} (ts : List Tree) (s t u : Inference) (ks : List ℕ) (r : Result A Stop) → IsConsistent ts s ks → IsConsistent ts u ks → IfOk r (λ _. t ≡ u) → IfErr r (λ _. t ≡ s) → IsConsistent ts t ks
call-holds ts s t u ks (Ok a) h k p q = subst (λ x. IsConsistent ts x ks) (sym p) k
call-holds ts s t u ks (Err e) h k p q = subst (λ x. IsConsistent ts x ks) (sym q) h

-- going back to where no open probe began later
pub holds-back-to : (ts : List Tree) (s : Inference) (n : ℕ) (ks : List ℕ) → IsConsistent ts s ks → n ≤ length s.trail → AreMarks n ks → IsConsistent ts (back_to n s) ks
holds-back-to ts s n ks h l m = holds-back ts s n ks (record { known = h.known; marks = (l, m); tidy = h.tidy })

-- The probes that were open are, where what is known is more.
pub holds-marks : (ts : List Tree) (s t : Inference) (ks : List ℕ) → AreMarks (length s.trail) ks → IsFurther s t → IsConsistent ts t [] → IsConsistent ts t ks
holds-marks ts s t ks m f h = record { known = h.known; marks = later (length s.trail) (length t.trail) ks f.0 m; tidy = h.tidy }
  where
    later : (n m : ℕ) (ks : List ℕ) → n ≤ m → AreMarks n ks → AreMarks m ks
    later n m [] l a = tt
    later n m (k ∷ ks) l a = (omega (arith, l, a.0), a.1)

pub holds-unmarked : (ts : List Tree) (s : Inference) (ks : List ℕ) → IsConsistent ts s ks → IsConsistent ts s []
holds-unmarked ts s ks h = record { known = h.known; marks = tt; tidy = h.tidy }

-- The universe of a variable, renewed

module _ (ts : List Tree) (m : TypingMode) (s : Inference) (n u : ℕ) (t : Tree) where
  pub universe-stays : ((e : Entry) → slice_get s.variables n ≡ Some e → (tree_holds (is_number n) t ≡ false) ⊎ (e.universe ≤ u)) → state_of ts m s ≡ with_info (state_of ts m s) n (with_its_universe u t n)
  universe-stays k = ap (λ vs. record (state_of ts m s) { variables = vs }) (sym (map-same (info_of ts) s.variables n (with_its_universe u t n) (λ e g. by e (k e g))))
    where
      by : (e : Entry) → (tree_holds (is_number n) t ≡ false) ⊎ (e.universe ≤ u) → with_its_universe u t n (info_of ts e) ≡ info_of ts e
      by e (inl f) = ap (λ (b : Bool). record (info_of ts e) { universe = if b then min e.universe u else e.universe }) (holds-alone (is_number n) t ∙ f)
      by e (inr l) = ap (λ (k : ℕ). record (info_of ts e) { universe = k }) (at (occurs n t))
        where
          least : min e.universe u ≡ e.universe
          least = omega (arith, l)

          at : (b : Bool) → (if b then min e.universe u else e.universe) ≡ e.universe
          at true = least
          at false = refl

  pub universe-lowered : (e : Entry) → slice_get s.variables n ≡ Some e → u ≤ e.universe → tree_holds (is_number n) t ≡ true → state_of ts m (lower s n u) ≡ with_info (state_of ts m s) n (with_its_universe u t n)
  universe-lowered e g l h = ap (λ vs. record (state_of ts m s) { variables = vs }) (map-with_entry (info_of ts) s.variables n (with_universe u) (with_its_universe u t n) by)
    where
      by : (d : Entry) → slice_get s.variables n ≡ Some d → info_of ts (with_universe u d) ≡ with_its_universe u t n (info_of ts d)
      by d k =
          let same : e ≡ d = cc in
          let below : u ≤ d.universe = subst (λ (x : Entry). u ≤ x.universe) same l in
          let least : u ≡ min d.universe u = omega (arith, below) in
          ap (λ (k : ℕ). record (info_of ts d) { universe = k }) (least ∙ ap (λ b. if b then min d.universe u else d.universe) (sym (holds-alone (is_number n) t ∙ h)))

pub renewed-call : {A : Type 0} (ts : List Tree) (m : TypingMode) (t u : Inference) (S : State) (r : Result A Stop) → state_of ts m u ≡ S → IfOk r (λ _. t ≡ u) → OnOk r (state_of ts m t ≡ S)
renewed-call ts m t u S (Ok a) k p = ap (state_of ts m) p ∙ k
renewed-call ts m t u S (Err e) k p = tt

-- The value of a variable, renewed

put-nowhere : (v : Variable) (t y : Tree) → tree_holds (is_number v.number) y ≡ false → valued_tree (single v t) y ≡ y
put-nowhere v t y e = ap first (fold-nothing (λ d x. single v t x.head) (is_number v.number) (λ d x q. quiet x.head q) 0 (alone y) (holds-alone (is_number v.number) y ∙ e))
  where
    first : Forest → Tree
    first none = y
    first (tree h a r) = record { head = h; children = a }

    quiet : (h : Head) → is_number v.number h ≡ false → single v t h ≡ None
    quiet h q = at (single v t h) refl
      where
        at : (o : Option Tree) → single v t h ≡ o → o ≡ None
        at None g = refl
        at (Some x) g = let clash : true ≡ false = sym (eq-eqb v.number v.number refl) ∙ (sym (ap (is_number v.number) (single_is v t h x g).0) ∙ q) in cc

module _ (ts : List Tree) (m : TypingMode) (s : Inference) (n : ℕ) (v : Variable) where
  pub value-own : (x : GenericArg) → n ≡ v.number → state_of ts m (assign s n x) ≡ with_info (state_of ts m s) n (with_its_value v (arg_tree ts x) n)
  value-own x e = ap (λ vs. record (state_of ts m s) { variables = vs }) (map-with_entry (info_of ts) s.variables n (with_value (Some x)) (with_its_value v (arg_tree ts x) n) by)
    where
      by : (d : Entry) → slice_get s.variables n ≡ Some d → info_of ts (with_value (Some x) d) ≡ with_its_value v (arg_tree ts x) n (info_of ts d)
      by d g = ap (λ (o : Option Tree). record (info_of ts d) { value = o }) (sym (ap (λ b. if b then Some (arg_tree ts x) else option_map (valued_tree (single v (arg_tree ts x))) (option_map (arg_tree ts) d.value)) (eq-eqb n v.number e)))

  pub value-put : (t : Tree) (x y : GenericArg) (e : Entry) → (n == v.number) ≡ false → slice_get s.variables n ≡ Some e → e.value ≡ Some y → arg_tree ts x ≡ valued_tree (single v t) (arg_tree ts y)
      → state_of ts m (assign s n x) ≡ with_info (state_of ts m s) n (with_its_value v t n)
  value-put t x y e o g f k = ap (λ vs. record (state_of ts m s) { variables = vs }) (map-with_entry (info_of ts) s.variables n (with_value (Some x)) (with_its_value v t n) by)
    where
      by : (d : Entry) → slice_get s.variables n ≡ Some d → info_of ts (with_value (Some x) d) ≡ with_its_value v t n (info_of ts d)
      by d h =
          let same : e ≡ d = cc in
          let has : d.value ≡ Some y = subst (λ (z : Entry). z.value ≡ Some y) same f in
          ap (λ (o : Option Tree). record (info_of ts d) { value = o }) (ap Some k ∙ (sym (ap (λ z. option_map (valued_tree (single v t)) (option_map (arg_tree ts) z)) has) ∙ sym (ap (λ b. if b then Some t else option_map (valued_tree (single v t)) (option_map (arg_tree ts) d.value)) o)))

  pub value-stays : (t : Tree) → (n == v.number) ≡ false → ((e : Entry) (y : GenericArg) → slice_get s.variables n ≡ Some e → e.value ≡ Some y → tree_holds (is_number v.number) (arg_tree ts y) ≡ false)
      → state_of ts m s ≡ with_info (state_of ts m s) n (with_its_value v t n)
  value-stays t o k = ap (λ vs. record (state_of ts m s) { variables = vs }) (sym (map-same (info_of ts) s.variables n (with_its_value v t n) by))
    where
      by : (e : Entry) → slice_get s.variables n ≡ Some e → with_its_value v t n (info_of ts e) ≡ info_of ts e
      by e g = ap (λ (o : Option Tree). record (info_of ts e) { value = o }) (ap (λ b. if b then Some t else option_map (valued_tree (single v t)) (option_map (arg_tree ts) e.value)) o ∙ at e.value refl)
        where
          at : (z : Option GenericArg) → e.value ≡ z → option_map (valued_tree (single v t)) (option_map (arg_tree ts) z) ≡ option_map (arg_tree ts) z
          at None f = refl
          at (Some y) f = ap Some (put-nowhere v t (arg_tree ts y) (k e y g f))

-- Members of a range of numbers

abbrev in-range : ℕ → ℕ → ℕ → Bool
in-range first end n = nat_le first n && nat_lt n end

below-range : (first end n : ℕ) → n < first → in-range first end n ≡ false
below-range first end n l = ap (λ b. b && nat_lt n end) (lt-leb first n l)

pub above-range : (first end n : ℕ) → end ≤ n → in-range first end n ≡ false
above-range first end n l = ap (λ b. nat_le first n && b) (le-ltb n end l) ∙ at (nat_le first n)
  where
    at : (b : Bool) → b && false ≡ false
    at true = refl
    at false = refl

inside-range : (first end n : ℕ) → first ≤ n → n < end → in-range first end n ≡ true
inside-range first end n l k = ap (λ b. b && nat_lt n end) (le-leb first n l) ∙ lt-ltb n end k

within-nothing : {A : Type 0} (f : ℕ → A → A) (first end n : ℕ) (xs : List A) → end ≤ first → within f first end n xs ≡ xs
within-nothing f first end n [] l = refl
within-nothing f first end n (x ∷ xs) l = ap (λ b. (if b then f n x else x) ∷ within f first end (suc n) xs) (outside (leb first n) refl) ∙ ap (λ ys. x ∷ ys) (within-nothing f first end (suc n) xs l)
  where
    outside : (b : Bool) → leb first n ≡ b → in-range first end n ≡ false
    outside true e = above-range first end n (let k = leb-true first n e in omega (arith, l, k))
    outside false e = below-range first end n (leb-false first n e)

within-above : {A : Type 0} (f : ℕ → A → A) (first end n : ℕ) (xs : List A) → end ≤ n → within f first end n xs ≡ xs
within-above f first end n [] l = refl
within-above f first end n (x ∷ xs) l = ap (λ b. (if b then f n x else x) ∷ within f first end (suc n) xs) (above-range first end n l) ∙ ap (λ ys. x ∷ ys) (within-above f first end (suc n) xs (omega (arith, l)))

-- one more
within-more : {A : Type 0} (f : ℕ → A → A) (first n j k : ℕ) (xs : List A) → first ≤ k → n + j ≡ k → with_member (within f first k n xs) j (f k) ≡ within f first (suc k) n xs
within-more f first n j k [] l e = refl
within-more f first n zero k (x ∷ xs) l e =
    let same : n ≡ k = omega (arith, e) in
    ap (λ b. f k (if b then f n x else x) ∷ within f first k (suc n) xs) (above-range first k n (omega (arith, same)))
    ∙ (ap (λ i. f i x ∷ within f first k (suc n) xs) (sym same)
    ∙ (ap (λ ys. f n x ∷ ys) (within-above f first k (suc n) xs (omega (arith, same)) ∙ sym (within-above f first (suc k) (suc n) xs (omega (arith, same))))
    ∙ ap (λ b. (if b then f n x else x) ∷ within f first (suc k) (suc n) xs) (sym (inside-range first (suc k) n (omega (arith, l, same)) (omega (arith, same))))))
within-more f first n (suc j) k (x ∷ xs) l e =
    ap (λ ys. (if in-range first k n then f n x else x) ∷ ys) (within-more f first (suc n) j k xs l (omega (arith, e)))
    ∙ ap (λ b. (if b then f n x else x) ∷ within f first (suc k) (suc n) xs) (same (leb first n) refl)
  where
    same : (b : Bool) → leb first n ≡ b → in-range first k n ≡ in-range first (suc k) n
    same true e2 = let p = leb-true first n e2 in inside-range first k n p (omega (arith, e)) ∙ sym (inside-range first (suc k) n p (omega (arith, e)))
    same false e2 = let p = leb-false first n e2 in below-range first k n p ∙ sym (below-range first (suc k) n p)

pub values-more : (first k : ℕ) (v : Variable) (t : Tree) (S : State) → first ≤ k → with_info (with_values_within first k v t S) k (with_its_value v t k) ≡ with_values_within first (suc k) v t S
values-more first k v t S l = ap (λ vs. record S { variables = vs }) (within-more (with_its_value v t) first 0 k k S.variables l (omega arith))

pub no-values : (first : ℕ) (v : Variable) (t : Tree) (S : State) → with_values_within first first v t S ≡ S
no-values first v t S = ap (λ vs. record S { variables = vs }) (within-nothing (with_its_value v t) first first 0 S.variables (omega arith))

-- Values in which no variable stands stay, and where the others are all renewed, all are.

-- where no variable of a type stands, and none of a constant, none stands
pub no-variable : (t : Tree) → tree_holds (mark F.TyInfer) t ≡ false → tree_holds (mark F.ConstInfer) t ≡ false → tree_holds is_open t ≡ false
no-variable t a b = sym (holds-alone is_open t) ∙ go (alone t) (holds-alone (mark F.TyInfer) t ∙ a) (holds-alone (mark F.ConstInfer) t ∙ b)
  where
    sorts : (s : VariableSort) → of_type s ≡ false → of_constant s ≡ false → ⊥
    sorts V.General p q = cc
    sorts V.Integer p q = cc
    sorts V.Floating p q = cc
    sorts V.Constant p q = cc

    head : (h : Head) → mark F.TyInfer h ≡ false → mark F.ConstInfer h ≡ false → is_open h ≡ false
    head (H.Infer v) p q = absurd (sorts v.sort p q)
    head _ p q = refl

    left : (x y : Bool) → x || y ≡ false → x ≡ false
    left false y e = refl
    left true y e = cc

    right : (x y : Bool) → x || y ≡ false → y ≡ false
    right false y e = e
    right true y e = cc

    go : (ts : Forest) → holds (mark F.TyInfer) ts ≡ false → holds (mark F.ConstInfer) ts ≡ false → holds is_open ts ≡ false
    go none p q = refl
    go (tree h below rest) p q =
        let p1 = right (mark F.TyInfer h) _ p in
        let q1 = right (mark F.ConstInfer h) _ q in
        ap (λ x. x || (holds is_open below || holds is_open rest)) (head h (left (mark F.TyInfer h) _ p) (left (mark F.ConstInfer h) _ q))
        ∙ (ap (λ x. x || holds is_open rest) (go below (left (holds (mark F.TyInfer) below) _ p1) (left (holds (mark F.ConstInfer) below) _ q1))
        ∙ go rest (right (holds (mark F.TyInfer) below) _ p1) (right (holds (mark F.ConstInfer) below) _ q1))

put-closed : (v : Variable) (t y : Tree) → tree_holds is_open y ≡ false → valued_tree (single v t) y ≡ y
put-closed v t y e = ap first (fold-nothing (λ d x. single v t x.head) is_open (λ d x q. quiet x.head q) 0 (alone y) (holds-alone is_open y ∙ e))
  where
    first : Forest → Tree
    first none = y
    first (tree h a r) = record { head = h; children = a }

    quiet : (h : Head) → is_open h ≡ false → single v t h ≡ None
    quiet (H.Infer w) q = cc
    quiet _ q = refl

module _ (ts : List Tree) (v : Variable) (t : Tree) (first end : ℕ) where
  closed-stays : (n : ℕ) (e : Entry) → (n == v.number) ≡ false → IsWithin ts first end n e → in-range first end n ≡ false → with_its_value v t n (info_of ts e) ≡ info_of ts e
  closed-stays n e o w r = ap (λ (o : Option Tree). record (info_of ts e) { value = o }) (ap (λ b. if b then Some t else option_map (valued_tree (single v t)) (option_map (arg_tree ts) e.value)) o ∙ at e.value refl)
    where
      at : (z : Option GenericArg) → e.value ≡ z → option_map (valued_tree (single v t)) (option_map (arg_tree ts) z) ≡ option_map (arg_tree ts) z
      at None f = refl
      at (Some y) f = ap Some (put-closed v t (arg_tree ts y) (closed (tree_holds is_open (arg_tree ts y)) refl))
        where
          closed : (b : Bool) → tree_holds is_open (arg_tree ts y) ≡ b → tree_holds is_open (arg_tree ts y) ≡ false
          closed false g = g
          closed true g = let p = w y f g in let clash : true ≡ false = sym (inside-range first end n p.0 p.1) ∙ r in cc

  either-way : (n : ℕ) (e : Entry) → (n == v.number) ≡ false → IsWithin ts first end n e → (if in-range first end n then with_its_value v t n (info_of ts e) else info_of ts e) ≡ with_its_value v t n (info_of ts e)
  either-way n e o w = at (in-range first end n) refl
    where
      at : (b : Bool) → in-range first end n ≡ b → (if b then with_its_value v t n (info_of ts e) else info_of ts e) ≡ with_its_value v t n (info_of ts e)
      at true r = refl
      at false r = sym (closed-stays n e o w r)

  own-value : (i : VariableInfo) → with_its_value v t v.number i ≡ record i { value = Some t }
  own-value i = ap (λ b. let o : Option Tree = if b then Some t else option_map (valued_tree (single v t)) i.value in record i { value = o }) (eq-eqb v.number v.number refl)

  beyond : (n : ℕ) (es : List Entry) → v.number < n → EachAt (IsWithin ts first end) n es → within (with_its_value v t) first end n (map (info_of ts) es) ≡ numbered (with_its_value v t) n (map (info_of ts) es)
  beyond n [] l k = refl
  beyond n (e ∷ es) l k =
      ap (λ i. i ∷ within (with_its_value v t) first end (suc n) (map (info_of ts) es)) (either-way n e (ne_eqb n v.number (λ x. omega (arith, l, x))) k.0)
      ∙ ap (λ is. with_its_value v t n (info_of ts e) ∷ is) (beyond (suc n) es (omega (arith, l)) k.1)

  with-own : (n j : ℕ) (es : List Entry) → n + j ≡ v.number → EachAt (IsWithin ts first end) n es
      → with_member (within (with_its_value v t) first end n (map (info_of ts) es)) j (with_its_value v t v.number) ≡ numbered (with_its_value v t) n (map (info_of ts) es)
  with-own n j [] e k = refl
  with-own n zero (d ∷ es) e k =
      let same : n ≡ v.number = omega (arith, e) in
      ap (λ i. i ∷ within (with_its_value v t) first end (suc n) (map (info_of ts) es)) (twice (in-range first end n) same)
      ∙ ap (λ is. with_its_value v t n (info_of ts d) ∷ is) (beyond (suc n) es (omega (arith, same)) k.1)
    where
      twice : (b : Bool) → n ≡ v.number → with_its_value v t v.number (if b then with_its_value v t n (info_of ts d) else info_of ts d) ≡ with_its_value v t n (info_of ts d)
      twice true same = own-value (with_its_value v t n (info_of ts d)) ∙ (sym (own-value (info_of ts d)) ∙ ap (λ m. with_its_value v t m (info_of ts d)) (sym same))
      twice false same = ap (λ m. with_its_value v t m (info_of ts d)) (sym same)
  with-own n (suc j) (d ∷ es) e k =
      ap (λ i. i ∷ with_member (within (with_its_value v t) first end (suc n) (map (info_of ts) es)) j (with_its_value v t v.number)) (either-way n d (ne_eqb n v.number (λ x. omega (arith, e, x))) k.0)
      ∙ ap (λ is. with_its_value v t n (info_of ts d) ∷ is) (with-own (suc n) j es (omega (arith, e)) k.1)

-- All variables have the values that they have then.
pub all-values : (ts : List Tree) (m : TypingMode) (s : Inference) (v : Variable) (t : Tree) (end : ℕ) → IsTidy ts s → s.end_open ≤ end
    → with_info (with_values_within s.first_open end v t (state_of ts m s)) v.number (with_its_value v t v.number) ≡ with_values v t (state_of ts m s)
all-values ts m s v t end h l =
    let more = each-at-imply (IsWithin ts s.first_open s.end_open) (IsWithin ts s.first_open end) 0 s.variables (λ n e w y q p. let k = w y q p in (k.0, omega (arith, k.1, l))) h.room in
    ap (λ vs. record (state_of ts m s) { variables = vs }) (with-own ts v t s.first_open end 0 v.number s.variables (omega arith) more)

-- The universes, of all variables

pub universes-more : (k u : ℕ) (t : Tree) (S : State) → with_info (with_universes_up_to k u t S) k (with_its_universe u t k) ≡ with_universes_up_to (suc k) u t S
universes-more k u t S =
    let zero-more : k ≡ 0 + k = omega arith in
    ap (λ vs. record S { variables = vs }) (ap (λ j. with_member (partly (with_its_universe u t) 0 k S.variables) k (with_its_universe u t j)) zero-more ∙ partly-more (with_its_universe u t) 0 k S.variables)

pub universes-all : (k u : ℕ) (t : Tree) (S : State) → k ≡ length S.variables → with_universes_up_to k u t S ≡ with_universes u t S
universes-all k u t S e = ap (λ vs. record S { variables = vs }) (partly-all (with_its_universe u t) 0 k S.variables e)

-- where none is above
pub universes-stay : (ts : List Tree) (m : TypingMode) (s : Inference) (u : ℕ) (t : Tree) → IsTidy ts s → s.newest_universe ≤ u → with_universes u t (state_of ts m s) ≡ state_of ts m s
universes-stay ts m s u t h l = ap (λ vs. record (state_of ts m s) { variables = vs }) (go 0 s.variables h.universes)
  where
    least : (e : Entry) (b : Bool) → e.universe ≤ s.newest_universe → (if b then min e.universe u else e.universe) ≡ e.universe
    least e true k = omega (arith, k, l)
    least e false k = refl

    go : (n : ℕ) (es : List Entry) → Each (λ (e : Entry). e.universe ≤ s.newest_universe) es → numbered (with_its_universe u t) n (map (info_of ts) es) ≡ map (info_of ts) es
    go n [] k = refl
    go n (e ∷ es) k =
        ap (λ (x : ℕ). record (info_of ts e) { universe = x } ∷ numbered (with_its_universe u t) (suc n) (map (info_of ts) es)) (least e (occurs n t) k.0)
        ∙ ap (λ is. info_of ts e ∷ is) (go (suc n) es k.1)

-- Both together are what variables are once the variable has its value.
pub bound-of-both : (v : Variable) (u : ℕ) (t : Tree) (S : State) → u ≡ universe_in (info S v.number) → with_universes u t (with_values v t S) ≡ bound S v t
bound-of-both v u t S e = ap (λ vs. record S { variables = vs }) (both 0 S.variables) ∙ ap (λ j. record S { variables = numbered (info_after v j t) 0 S.variables }) e
  where
    both : (n : ℕ) (xs : List VariableInfo) → numbered (with_its_universe u t) n (numbered (with_its_value v t) n xs) ≡ numbered (info_after v u t) n xs
    both n [] = refl
    both n (x ∷ xs) = ap (λ ys. info_after v u t n x ∷ ys) (both (suc n) xs)

kind-after : (k : VariableKind) (v : Variable) (t : Tree) (first end n : ℕ) (xs : List VariableInfo) (m : ℕ) → has_kind k (slice_get (within (with_its_value v t) first end n xs) m) ≡ has_kind k (slice_get xs m)
kind-after k v t first end n [] m = refl
kind-after k v t first end n (x ∷ xs) zero = at (in-range first end n)
  where
    at : (b : Bool) → has_kind k (Some (if b then with_its_value v t n x else x)) ≡ has_kind k (Some x)
    at true = refl
    at false = refl
kind-after k v t first end n (x ∷ xs) (suc m) = kind-after k v t first end (suc n) xs m

kind-kept : (ts : List Tree) (k : VariableKind) (o : Option Entry) → has_kind k (option_map (info_of ts) o) ≡ is_of_kind k o
kind-kept ts k None = refl
kind-kept ts k (Some e) = refl

pub kind-of-state : (ts : List Tree) (m : TypingMode) (s : Inference) (k : VariableKind) (n : ℕ) → has_kind k (slice_get (state_of ts m s).variables n) ≡ is_of_kind k (slice_get s.variables n)
kind-of-state ts m s k n = ap (has_kind k) (slice_get-map (info_of ts) s.variables n) ∙ kind-kept ts k (slice_get s.variables n)

-- the variable is of its kind still
pub kind-so-far : (ts us : List Tree) (m : TypingMode) (s r : Inference) (k : VariableKind) (n first end : ℕ) (v : Variable) (t : Tree) → state_of us m r ≡ with_values_within first end v t (state_of ts m s)
    → is_of_kind k (slice_get s.variables n) ≡ true → is_of_kind k (slice_get r.variables n) ≡ true
kind-so-far ts us m s r k n first end v t e h =
    sym (kind-of-state us m r k n)
    ∙ (ap (λ (S : State). has_kind k (slice_get S.variables n)) e
    ∙ (kind-after k v t first end 0 (state_of ts m s).variables n
    ∙ (kind-of-state ts m s k n ∙ h)))

pub kind-suits : (k : VariableKind) (o : Option Entry) (e : Entry) → o ≡ Some e → is_of_kind k o ≡ true → e.kind ≡ k
kind-suits k o e g h = kind_same e.kind k (sym (ap (is_of_kind k) g) ∙ h)

-- What is put in

pub single-tree : (ts : List Tree) (v : Variable) (x : GenericArg) (h : Head) → option_map (arg_tree ts) (single_arg v x h) ≡ single v (arg_tree ts x) h
single-tree ts v x (H.Infer w) = at (same_variable v w)
  where
    at : (b : Bool) → option_map (arg_tree ts) (if b then Some x else None) ≡ (if b then Some (arg_tree ts x) else None)
    at true = refl
    at false = refl
single-tree ts v x _ = refl

-- it is of its variable's kind
sort-head : (s : VariableSort) (h : Head) → fits_sort s h ≡ true → kind_of h ≡ sort_kind s
sort-head V.General h f = is-type-kind (kind_of h) f
sort-head V.Integer h f = is-type-kind (kind_of h) (integer_is_type h f)
sort-head V.Floating h f = is-type-kind (kind_of h) (float_is_type h f)
sort-head V.Constant h f = constant (kind_of h) f
  where
    constant : (k : Kind) → is_constant_kind k ≡ true → k ≡ ConstantKind
    constant ConstantKind e = refl
    constant _ e = cc

pub data SingleArg (v : Variable) (x : GenericArg) (h : Head) : Option GenericArg → Type 0 where
  put : h ≡ H.Infer v → SingleArg v x h (Some x)
  leaves : SingleArg v x h None

which-arg : (v : Variable) (x : GenericArg) (h : Head) → SingleArg v x h (single_arg v x h)
which-arg v x (H.Infer w) = at (same_variable v w) refl
  where
    at : (b : Bool) → same_variable v w ≡ b → SingleArg v x (H.Infer w) (if b then Some x else None)
    at true e = put (ap H.Infer (sym (same_variable_is v w e)))
    at false e = leaves
which-arg v x _ = leaves

pub single-of-kind : (ts : List Tree) (v : Variable) (x y : GenericArg) → IsArg ts x → fits_sort v.sort (arg_tree ts x).head ≡ true → IsArg ts y → IsOfKind ts y (single_arg v x (arg_tree ts y).head)
single-of-kind ts v x y i f j = at (single_arg v x (arg_tree ts y).head) (which-arg v x (arg_tree ts y).head)
  where
    at : (o : Option GenericArg) → SingleArg v x (arg_tree ts y).head o → IsOfKind ts y o
    at _ (put e) = (i, sym (kind-of ts (arg_number x) (arg_kind x) (there-arg x) i) ∙ (sort-head v.sort (arg_tree ts x).head f ∙ (sym (ap kind_of e) ∙ kind-of ts (arg_number y) (arg_kind y) (there-arg y) j)))
    at _ leaves = tt

-- Whether a variable that is there may get the value
pub may-entry : (ts : List Tree) (m : TypingMode) (s : Inference) (v : Variable) (t : Tree) (e : Entry) → slice_get s.variables v.number ≡ Some e
    → may_take (state_of ts m s) v t ≡ same_kind e.kind (Term v.sort) && (fits_sort v.sort t.head && allows v.number e.universe t)
may-entry ts m s v t e g =
    let is : info (state_of ts m s) v.number ≡ Some (info_of ts e) = slice_get-map (info_of ts) s.variables v.number ∙ ap (option_map (info_of ts)) g in
    ap (λ o. has_kind (Term v.sort) o && (fits_sort v.sort t.head && allows v.number (universe_in o) t)) is
