-- Variables that become what they are once one of them has a value.
use Rattle.std.proofs.Common.{◌≡◌, ◌≤◌, ◌<◌, ◌+◌, inl, inr, ℕ, zero, suc, true, false, List, [], ◌∷◌, Some, Result, Ok, Err, IfOk, IfErr, OnOk, length, map, slice_get, refl, sym, ap, subst, ◌∙◌, arith}
use Rattle.std.specs.Option.{option_map}
use Rattle.std.proofs.lemmas.Bool.{ne_eqb}
use Rattle.std.proofs.lemmas.Option.{slice_get-map}
use Rattle.ir_trees.specs.declared.ir.heads.Variable.{Variable}
use Rattle.ir_trees.specs.declared.ir.kinds.GenericArg.{GenericArg}
use Rattle.ir_trees.specs.declared.ir.stop.Stop.{Stop}
use Rattle.ir_trees.specs.Declarations.Context.{Context, Grows}
use Rattle.ir_trees.specs.Instantiation.Folds.{IsArg, arg_tree}
use Rattle.ir_trees.specs.Syntax.Nodes.{Extends}
use Rattle.ir_trees.specs.Unification.Substitutions.{fits_sort}
use Rattle.ir_trees.specs.Syntax.Trees.{Tree, tree_holds}
use Rattle.ir_folds.proofs.Hierarchy.Implying.{arg-kept}
use Rattle.ir_trees.proofs.Growth.Kept.{grows-refl, grows-trans}
use Rattle.candidate_eval.specs.declared.eval.mode.TypingMode.{TypingMode}
use Rattle.candidate_eval.specs.declared.eval.mode.TypingMode.TheVariants as M
use Rattle.candidate_eval.specs.declared.eval.variable.VariableKind.TheVariants.{Term}
use Rattle.candidate_eval.specs.Judges.States.{VariableInfo, valued_tree}
use Rattle.candidate_eval.specs.Judges.Soundness.{fits_kind, universe_in}
use Rattle.candidate_rounds.specs.declared.rounds.inference.Entry.{Entry}
use Rattle.candidate_rounds.specs.Calls.Assigning.{IsRoom, with_member, with_info, with_its_value, with_its_universe, with_values_within, with_values, with_universes_up_to, with_universes}
use Rattle.rounds_judge.specs.Equations.Binding.{bound, single}
use Rattle.candidate_rounds.specs.Evaluators.Inferences.{Inference, IsFurther, assign, widen, is_of_kind}
use Rattle.candidate_rounds.specs.Evaluators.Known.{info_of, state_of, IsConsistent, IsEntry, IsKnown, IsValue, SuitsKind, is_open}
use Rattle.candidate_rounds.proofs.Equations.Assigning.{all-values, bound-of-both, call-holds, holds-assign, kind-so-far, kind-suits, no-values, renewed-call, some-is, universes-all, universes-more, value-put, values-more}
use Rattle.rounds_judge.proofs.States.Bound.{put_kind}
use Rattle.candidate_rounds.proofs.Evaluators.Going.{further-refl, further-trans, further-widen}
use Rattle.candidate_rounds.proofs.Snapshots.Holding.{holds-widen, kinds-now, tidy-now}
use Rattle.candidate_rounds.proofs.Snapshots.Knowing.{each-get, state-stays}
use Rattle.candidate_rounds.proofs.Snapshots.Probing.{holds-grown}

-- Where there is no variable of that number, none is renewed.

missing : (g : Entry → VariableInfo) (es : List Entry) (n : ℕ) (f : VariableInfo → VariableInfo) → ((e : Entry) → slice_get es n ≡ Some e → ⊥) → with_member (map g es) n f ≡ map g es
missing g [] n f k = refl
missing g (e ∷ es) zero f k = absurd (k e refl)
missing g (e ∷ es) (suc n) f k = ap (λ ys. g e ∷ ys) (missing g es n f k)

pub none-there : (ts : List Tree) (m : TypingMode) (s : Inference) (n : ℕ) (f : VariableInfo → VariableInfo) → ((e : Entry) → slice_get s.variables n ≡ Some e → ⊥) → state_of ts m s ≡ with_info (state_of ts m s) n f
none-there ts m s n f k = ap (λ vs. record (state_of ts m s) { variables = vs }) (sym (missing (info_of ts) s.variables n f k))

-- Values in which a variable stands may be there, or it is the variable's own value and none stands in it.

own-room : (s : Inference) (n : ℕ) (v : Variable) (t : Tree) → IsRoom s n v t → tree_holds is_open t ≡ true → (s.first_open ≤ n) × (n < s.end_open)
own-room s n v t (inl k) o = k
own-room s n v t (inr k) o = let clash : false ≡ true = sym k.1 ∙ o in cc

other-room : (s : Inference) (n : ℕ) (v : Variable) (t : Tree) → (n ≡ v.number → ⊥) → IsRoom s n v t → (s.first_open ≤ n) × (n < s.end_open)
other-room s n v t apart (inl k) = k
other-room s n v t apart (inr k) = absurd (apart k.0)

-- The value of the variable itself.

own-fits : (v : Variable) (n : ℕ) (es : List Entry) (e : Entry) (t : Tree) → n ≡ v.number → is_of_kind (Term v.sort) (slice_get es v.number) ≡ true → fits_sort v.sort t.head ≡ true → slice_get es n ≡ Some e
    → fits_kind e.kind t.head ≡ true
own-fits v n es e t same k f g =
    ap (λ k. fits_kind k t.head) (kind-suits (Term v.sort) (slice_get es v.number) e (ap (slice_get es) (sym same) ∙ g) k) ∙ f

pub holds-own : {A : Type 0} (ts : List Tree) (s t : Inference) (n : ℕ) (v : Variable) (x : GenericArg) (r : Result A Stop) → IsConsistent ts s [] → IsArg ts x → fits_sort v.sort (arg_tree ts x).head ≡ true
    → is_of_kind (Term v.sort) (slice_get s.variables v.number) ≡ true → n ≡ v.number → IsRoom s n v (arg_tree ts x) → IfOk r (λ _. t ≡ assign s n x) → IfErr r (λ _. t ≡ s)
    → IsConsistent ts t []
holds-own ts s t n v x r h i f k same o p q =
    call-holds ts s t (assign s n x) [] r h (holds-assign ts s [] n x h i (λ e g. own-fits v n s.variables e (arg_tree ts x) same k f g) (own-room s n v (arg_tree ts x) o)) p q

-- The universe of a variable is none above the newest.
pub universe-is : (ts : List Tree) (s : Inference) (n : ℕ) (e : Entry) → IsConsistent ts s [] → slice_get s.variables n ≡ Some e → e.universe ≤ s.newest_universe
universe-is ts s n e h g = each-get (λ (d : Entry). d.universe ≤ s.newest_universe) s.variables n e (tidy-now ts s [] h).universes g

-- The values of the others.

pub value-is : (ts : List Tree) (s : Inference) (n : ℕ) (e : Entry) (y : GenericArg) → IsKnown ts s → slice_get s.variables n ≡ Some e → e.value ≡ Some y → IsArg ts y
value-is ts s n e y k g f = subst (IsValue ts) f (each-get (IsEntry ts) s.variables n e k.values g)

pub holds-put : {A : Type 0} (ts us : List Tree) (s t : Inference) (n : ℕ) (v : Variable) (w : Tree) (e : Entry) (x y : GenericArg) (r : Result A Stop) → Extends ts us → IsConsistent ts s [] → IsArg us x
    → fits_sort v.sort w.head ≡ true → slice_get s.variables n ≡ Some e → e.value ≡ Some y → arg_tree us x ≡ valued_tree (single v w) (arg_tree ts y) → (n ≡ v.number → ⊥) → IsRoom s n v w
    → IfOk r (λ _. t ≡ assign s n x) → IfErr r (λ _. t ≡ s) → IsConsistent us t []
holds-put ts us s t n v w e x y r grown h i f g has is apart o p q =
    let later = holds-grown ts us s [] grown h in
    call-holds us s t (assign s n x) [] r later (holds-assign us s [] n x later i fits (λ _. other-room s n v w apart o)) p q
  where
    fits : (d : Entry) → slice_get s.variables n ≡ Some d → fits_kind d.kind (arg_tree us x).head ≡ true
    fits d k =
        let same : e ≡ d = some-is (sym g ∙ k) in
        let here : d.value ≡ Some y = subst (λ (z : Entry). z.value ≡ Some y) same has in
        let suits : SuitsKind ts d = each-get (SuitsKind ts) s.variables n d (kinds-now ts s [] h) k in
        ap (λ (z : Tree). fits_kind d.kind z.head) is ∙ put_kind d.kind v w (arg_tree ts y) f (suits y here)

pub renewed-put : {A : Type 0} (old new : Context) (m : TypingMode) (s t : Inference) (n : ℕ) (v : Variable) (w : Tree) (e : Entry) (x y : GenericArg) (r : Result A Stop) → Grows old new → IsKnown old.trees s
    → (n ≡ v.number → ⊥) → slice_get s.variables n ≡ Some e → e.value ≡ Some y → arg_tree new.trees x ≡ valued_tree (single v w) (arg_tree old.trees y) → IfOk r (λ _. t ≡ assign s n x)
    → OnOk r (state_of new.trees m t ≡ with_info (state_of old.trees m s) n (with_its_value v w n))
renewed-put old new m s t n v w e x y r grown k apart g has is p =
    let there = arg-kept old new y grown (value-is old.trees s n e y k g has) in
    renewed-call new.trees m t (assign s n x) _ r
    (value-put new.trees m s n v w x y e (ne_eqb n v.number apart) g has (is ∙ ap (valued_tree (single v w)) (sym there.1))
    ∙ ap (λ S. with_info S n (with_its_value v w n)) (state-stays old.trees new.trees m s grown.kept k)) p

-- Where values in which a variable stands may be is as it was.

abbrev pub KeepsRoom : Inference → Inference → Type 0
KeepsRoom s t = (t.first_open ≡ s.first_open) × (t.end_open ≡ s.end_open)

pub room-call : {A : Type 0} (s t : Inference) (n : ℕ) (x : GenericArg) (r : Result A Stop) → IfOk r (λ _. t ≡ assign s n x) → IfErr r (λ _. t ≡ s) → (t.first_open ≡ s.first_open) × (t.end_open ≡ s.end_open)
room-call s t n x (Ok a) p q = (ap (λ (i : Inference). i.first_open) p, ap (λ (i : Inference). i.end_open) p)
room-call s t n x (Err e) p q = (ap (λ (i : Inference). i.first_open) q, ap (λ (i : Inference). i.end_open) q)

-- the variable may have the value, where one stands in it
pub room-made : {A : Type 0} (s t : Inference) (v : Variable) (w : Tree) (r : Result A Stop) → IfOk r (λ _. t ≡ widen s v.number) → OnOk r (IsRoom t v.number v w)
room-made s t v w (Err e) p = tt
room-made s t v w (Ok a) p = subst (λ (i : Inference). IsRoom i v.number v w) (sym p) (inl (omega arith, omega arith))

pub room-kept : (s t : Inference) (v : Variable) (a b : Tree) → IsRoom s v.number v a → t.first_open ≡ s.first_open → t.end_open ≡ s.end_open → b ≡ a → IsRoom t v.number v b
room-kept s t v a b (inl k) e f g = inl (omega (arith, k.0, e), omega (arith, k.1, f))
room-kept s t v a b (inr k) e f g = inr (k.0, ap (tree_holds is_open) g ∙ k.1)

pub widen-call : {A : Type 0} (ts : List Tree) (s t : Inference) (n : ℕ) (r : Result A Stop) → IsConsistent ts s [] → IfOk r (λ _. t ≡ widen s n) → IfErr r (λ _. t ≡ s)
    → IsConsistent ts t [] × (IsFurther s t × ((t.variables ≡ s.variables) × ((m : TypingMode) → state_of ts m t ≡ state_of ts m s)))
widen-call ts s t n (Ok a) h p q = (
  subst (λ i. IsConsistent ts i []) (sym p) (holds-widen ts s [] n h),
  (subst (IsFurther s) (sym p) (further-widen s n), (ap (λ (i : Inference). i.variables) p, λ m. ap (state_of ts m) p)),
)
widen-call ts s t n (Err e) h p q = (
  subst (λ i. IsConsistent ts i []) (sym q) h,
  (subst (IsFurther s) (sym q) (further-refl s), (ap (λ (i : Inference). i.variables) q, λ m. ap (state_of ts m) q)),
)

-- The variables of so many of these numbers have the values that they have then.
pub record ValuesSoFar (old now : Context) (s t : Inference) (v : Variable) (x : GenericArg) (first n : ℕ) : Type 0 where
  pub grows : Grows old now
  pub further : IsFurther s t
  pub consistent : IsConsistent now.trees t []
  pub room : KeepsRoom s t
  pub renewed : (m : TypingMode) → state_of now.trees m t ≡ with_values_within first n v (arg_tree old.trees x) (state_of old.trees m s)

pub none-renewed : (c : Context) (s : Inference) (v : Variable) (x : GenericArg) (first : ℕ) → IsConsistent c.trees s [] → ValuesSoFar c c s s v x first first
none-renewed c s v x first h = record { grows = grows-refl c; further = further-refl s; consistent = h; room = (refl, refl); renewed = λ m. sym (no-values first v (arg_tree c.trees x) (state_of c.trees m s)) }

module _ (a b : Context) (s t : Inference) (v : Variable) (x : GenericArg) (first n : ℕ) where
  -- the value is what it was
  pub so-far-value : ValuesSoFar a b s t v x first n → IsArg a.trees x → IsArg b.trees x × (arg_tree b.trees x ≡ arg_tree a.trees x)
  so-far-value h i = arg-kept a b x h.grows i

  pub so-far-fits : ValuesSoFar a b s t v x first n → IsArg a.trees x → fits_sort v.sort (arg_tree a.trees x).head ≡ true → fits_sort v.sort (arg_tree b.trees x).head ≡ true
  so-far-fits h i f = ap (λ (t : Tree). fits_sort v.sort t.head) (so-far-value h i).1 ∙ f

  -- and so is the variable's kind
  pub so-far-kind : ValuesSoFar a b s t v x first n → is_of_kind (Term v.sort) (slice_get s.variables v.number) ≡ true → is_of_kind (Term v.sort) (slice_get t.variables v.number) ≡ true
  so-far-kind h k = kind-so-far a.trees b.trees M.Analysis s t (Term v.sort) v.number first n v (arg_tree a.trees x) (h.renewed M.Analysis) k

  -- it is one of the numbers
  pub so-far-room : ValuesSoFar a b s t v x first n → first ≤ n → first ≡ s.first_open → n < s.end_open → (m : ℕ) → m ≡ n → (w : Tree) → IsRoom t m v w
  so-far-room h l e k m q w = inl (omega (arith, l, e, h.room.0, q), omega (arith, k, h.room.1, q))

  pub so-far-own-room : ValuesSoFar a b s t v x first n → IsArg a.trees x → IsRoom s v.number v (arg_tree a.trees x) → IsRoom t v.number v (arg_tree b.trees x)
  so-far-own-room h i o = room-kept s t v (arg_tree a.trees x) (arg_tree b.trees x) o h.room.0 h.room.1 (so-far-value h i).1

  -- one more
  pub one-more-renewed : (d : Context) (q : Inference) → ValuesSoFar a b s t v x first n → IsArg a.trees x → first ≤ n → Grows b d → IsFurther t q → IsConsistent d.trees q [] → KeepsRoom t q
      → ((m : TypingMode) → state_of d.trees m q ≡ with_info (state_of b.trees m t) n (with_its_value v (arg_tree b.trees x) n)) → ValuesSoFar a d s q v x first (n + 1)
  one-more-renewed d q h i l g f c o e = record {
    grows = grows-trans a b d h.grows g;
    further = further-trans s t q h.further f;
    consistent = c;
    room = (o.0 ∙ h.room.0, o.1 ∙ h.room.1);
    renewed = step;
  }
    where
      step : (m : TypingMode) → state_of d.trees m q ≡ with_values_within first (n + 1) v (arg_tree a.trees x) (state_of a.trees m s)
      step m =
          let w = arg_tree a.trees x in
          let S = state_of a.trees m s in
          let next : suc n ≡ n + 1 = omega arith in
          e m
          ∙ (ap (λ y. with_info (state_of b.trees m t) n (with_its_value v y n)) (so-far-value h i).1
          ∙ (ap (λ T. with_info T n (with_its_value v w n)) (h.renewed m)
          ∙ (values-more first n v w S l ∙ ap (λ j. with_values_within first j v w S) next)))

  -- and last the variable itself
  pub all-renewed : (d : Context) (q : Inference) (m : TypingMode) → ValuesSoFar a b s t v x first n → IsArg a.trees x → IsConsistent a.trees s [] → first ≡ s.first_open → s.end_open ≤ n
      → state_of d.trees m q ≡ with_info (state_of b.trees m t) v.number (with_its_value v (arg_tree b.trees x) v.number) → state_of d.trees m q ≡ with_values v (arg_tree a.trees x) (state_of a.trees m s)
  all-renewed d q m h i c e l k =
      let w = arg_tree a.trees x in
      let S = state_of a.trees m s in
      k
      ∙ (ap (λ y. with_info (state_of b.trees m t) v.number (with_its_value v y v.number)) (so-far-value h i).1
      ∙ (ap (λ T. with_info T v.number (with_its_value v w v.number)) (h.renewed m)
      ∙ (ap (λ j. with_info (with_values_within j n v w S) v.number (with_its_value v w v.number)) e
      ∙ all-values a.trees m s v w n (tidy-now a.trees s [] c) l)))

  pub all-renewed-call : {A : Type 0} (d : Context) (q : Inference) (m : TypingMode) (r : Result A Stop) → ValuesSoFar a b s t v x first n → IsArg a.trees x → IsConsistent a.trees s [] → first ≡ s.first_open → s.end_open ≤ n
      → OnOk r (state_of d.trees m q ≡ with_info (state_of b.trees m t) v.number (with_its_value v (arg_tree b.trees x) v.number)) → OnOk r (state_of d.trees m q ≡ with_values v (arg_tree a.trees x) (state_of a.trees m s))
  all-renewed-call d q m (Err f) h i c e l k = tt
  all-renewed-call d q m (Ok z) h i c e l k = all-renewed d q m h i c e l k

-- The first so many variables have the universes that they have then.
pub record UniversesSoFar (ts : List Tree) (s t : Inference) (u : ℕ) (w : Tree) (n : ℕ) : Type 0 where
  pub further : IsFurther s t
  pub consistent : IsConsistent ts t []
  pub renewed : (m : TypingMode) → state_of ts m t ≡ with_universes_up_to n u w (state_of ts m s)

pub none-lowered : (ts : List Tree) (s : Inference) (u : ℕ) (w : Tree) → IsConsistent ts s [] → UniversesSoFar ts s s u w 0
none-lowered ts s u w h = record { further = further-refl s; consistent = h; renewed = λ m. refl }

pub one-more-lowered : (ts : List Tree) (s t q : Inference) (u : ℕ) (w : Tree) (n : ℕ) → UniversesSoFar ts s t u w n → IsFurther t q → IsConsistent ts q []
    → ((m : TypingMode) → state_of ts m q ≡ with_info (state_of ts m t) n (with_its_universe u w n)) → UniversesSoFar ts s q u w (n + 1)
one-more-lowered ts s t q u w n h f c e = record {
  further = further-trans s t q h.further f;
  consistent = c;
  renewed = λ m.
      let S = state_of ts m s in
      let next : suc n ≡ n + 1 = omega arith in
      e m ∙ (ap (λ T. with_info T n (with_its_universe u w n)) (h.renewed m) ∙ (universes-more n u w S ∙ ap (λ j. with_universes_up_to j u w S) next));
}

pub all-lowered : (ts : List Tree) (m : TypingMode) (s t : Inference) (u : ℕ) (w : Tree) (n : ℕ) → UniversesSoFar ts s t u w n → n ≡ length s.variables → state_of ts m t ≡ with_universes u w (state_of ts m s)
all-lowered ts m s t u w n h e = h.renewed m ∙ universes-all n u w (state_of ts m s) (e ∙ many s.variables)
  where
    many : (es : List Entry) → length es ≡ length (map (info_of ts) es)
    many [] = refl
    many (e ∷ es) = ap suc (many es)

-- First the values, and then the universes.
pub lowered-after : {A : Type 0} (a b : Context) (m : TypingMode) (s r t q : Inference) (v : Variable) (x : GenericArg) (u : ℕ) (e : Result A Stop) → Grows a b → IsArg a.trees x
    → state_of a.trees m r ≡ state_of a.trees m s → state_of b.trees m t ≡ with_values v (arg_tree a.trees x) (state_of a.trees m r)
    → OnOk e (state_of b.trees m q ≡ with_universes u (arg_tree b.trees x) (state_of b.trees m t)) → OnOk e (state_of b.trees m q ≡ with_universes u (arg_tree a.trees x) (with_values v (arg_tree a.trees x) (state_of a.trees m s)))
lowered-after a b m s r t q v x u (Err f) g i j k l = tt
lowered-after a b m s r t q v x u (Ok z) g i j k l =
    let w = arg_tree a.trees x in
    l
    ∙ (ap (λ y. with_universes u y (state_of b.trees m t)) (arg-kept a b x g i).1
    ∙ (ap (with_universes u w) k ∙ ap (λ S. with_universes u w (with_values v w S)) j))

-- All variables are what they are once it has the value.
pub all-bound : (ts us : List Tree) (m : TypingMode) (s t : Inference) (v : Variable) (x : Tree) (e : Entry) → slice_get s.variables v.number ≡ Some e
    → state_of us m t ≡ with_universes e.universe x (with_values v x (state_of ts m s)) → state_of us m t ≡ bound (state_of ts m s) v x
all-bound ts us m s t v x e g k =
    k ∙ bound-of-both v e.universe x (state_of ts m s) (sym (ap universe_in (slice_get-map (info_of ts) s.variables v.number ∙ ap (option_map (info_of ts)) g)))
