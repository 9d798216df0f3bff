-- A state with one more variable that has no value leads on, and so does one with fresh variables for what a response leaves open.
use Rattle.std.proofs.Common.{◌≡◌, ◌≤◌, ◌<◌, ℕ, zero, suc, ◌+◌, ◌-◌, Bool, true, false, List, [], ◌∷◌, ◌++◌, length, slice_get, nat_lt, min, Option, Some, None, arith, refl, sym, ap, subst, ◌∙◌, ◌⊎◌, inl, inr, if◌then◌else◌}
use Rattle.ir_trees.specs.declared.ir.heads.Head.{Head}
use Rattle.ir_trees.specs.declared.ir.heads.Head.TheVariants as H
use Rattle.ir_trees.specs.declared.ir.heads.VariableSort.{VariableSort}
use Rattle.ir_trees.specs.declared.ir.kinds.RegionKind.TheVariants as R
use Rattle.ir_trees.specs.Unification.Substitutions.{alone, is_placeholder_above, IsAllowedBinding}
use Rattle.ir_trees.specs.Syntax.Trees.{Forest, Tree, holds, erase, erased_head}
use Rattle.candidate_eval.specs.declared.eval.variable.CanonicalVar.{CanonicalVar}
use Rattle.candidate_eval.specs.declared.eval.variable.VariableKind.{VariableKind}
use Rattle.candidate_eval.specs.declared.eval.variable.VariableKind.TheVariants.{Term, Region}
use Rattle.candidate_eval.specs.Judges.Alike.{info}
use Rattle.candidate_eval.specs.Outcomes.Responses.{Response}
use Rattle.candidate_eval.specs.Judges.Soundness.{Live, IsSound, IsLater, FitsVariable, universes, universe_in, is_strange, is_variable_above, has_value}
use Rattle.candidate_eval.specs.Judges.States.{State, VariableInfo, value_at, value_in, has_kind, resolved, is_some}
use Rattle.candidate_eval.proofs.Marks.Holds.{holds_imply}
use Rattle.rounds_judge.specs.Equations.Binding.{numbered}
use Rattle.rounds_judge.specs.Table.Keys.{Key, newest_of}
use Rattle.rounds_judge.specs.Table.TableSettling.{own_variable, with_open, named_at, greatest_said, ready_for}
use Rattle.rounds_judge.proofs.States.Later.{has_info, idle, known_later, resolved_known}
use Rattle.rounds_judge.proofs.Equations.Looks.{SoundLater, universes_keep}
use Rattle.rounds_judge.proofs.States.Marks.{holds_erased, holds_to, valued_same}
use Rattle.rounds_judge.proofs.Obligations.Settling.{lead_itself, lead_along}

-- One more member

module _ (x : VariableInfo) where
  abbrev more : List VariableInfo → List VariableInfo
  more xs = xs ++ x ∷ []

  pub one_longer : (xs : List VariableInfo) → length (more xs) ≡ suc (length xs)
  one_longer [] = refl
  one_longer (y ∷ ys) = ap suc (one_longer ys)

  there_before : (xs : List VariableInfo) (n : ℕ) (i : VariableInfo) → slice_get xs n ≡ Some i → slice_get (more xs) n ≡ Some i
  there_before [] n i e = cc
  there_before (y ∷ ys) zero i e = e
  there_before (y ∷ ys) (suc n) i e = there_before ys n i e

  same_before : (xs : List VariableInfo) (n : ℕ) → n < length xs → slice_get (more xs) n ≡ slice_get xs n
  same_before [] n l = absurd (omega (arith, l))
  same_before (y ∷ ys) zero l = refl
  same_before (y ∷ ys) (suc n) l = same_before ys n (omega (arith, l))

  pub old_or_new : (xs : List VariableInfo) (n : ℕ) (i : VariableInfo) → slice_get (more xs) n ≡ Some i → (slice_get xs n ≡ Some i) ⊎ ((slice_get xs n ≡ None) × (x ≡ i))
  old_or_new [] zero i e = inr (refl, let is : x ≡ i = cc in is)
  old_or_new [] (suc n) i e = cc
  old_or_new (y ∷ ys) zero i e = inl e
  old_or_new (y ∷ ys) (suc n) i e = old_or_new ys n i e

  pub new_there : (xs : List VariableInfo) → slice_get (more xs) (length xs) ≡ Some x
  new_there [] = refl
  new_there (y ∷ ys) = new_there ys

  -- one without a value gives none
  abbrev value_by : VariableKind → Option VariableInfo → Option Tree
  value_by k o = if has_kind k o then value_in o else None

  same_value : x.value ≡ None → (k : VariableKind) (xs : List VariableInfo) (n : ℕ) → value_by k (slice_get (more xs) n) ≡ value_by k (slice_get xs n)
  same_value e k [] zero = at (has_kind k (Some x))
    where
      at : (b : Bool) → (if b then x.value else None) ≡ None
      at true = e
      at false = refl
  same_value e k [] (suc n) = refl
  same_value e k (y ∷ ys) zero = refl
  same_value e k (y ∷ ys) (suc n) = same_value e k ys n

module _ (S : State) (c : CanonicalVar) where
  abbrev pub new_info : VariableInfo
  new_info = record { kind = c.kind; universe = min c.universe S.newest_universe; value = None; is_root = false }

  abbrev T : State
  T = with_open S c

  values_same : (h : Head) → value_at T h ≡ value_at S h
  values_same (H.Infer v) = same_value new_info refl (Term v.sort) S.variables v.number
  values_same (H.Region (R.Var n)) = same_value new_info refl Region S.variables n
  values_same _ = refl

  module _ (L : Live) (sound : IsSound S L) where
    resolved_same : (ts : Forest) → holds (is_strange S L) ts ≡ false → resolved T ts ≡ resolved S ts
    resolved_same ts k = valued_same (value_at T) (value_at S) (is_strange S L) (λ h e. values_same h) ts k

    fits_open : (n : ℕ) → FitsVariable (info S n) → FitsVariable (info T n)
    fits_open n f = record {
      kind = λ i t e v. elim (old_or_new new_info S.variables n i e) [ inl o ↦ f.kind i t o v | inr o ↦ absurd (none_there i t o.1 v) ];
      is_closed = λ i t e v. elim (old_or_new new_info S.variables n i e) [ inl o ↦ f.is_closed i t o v | inr o ↦ absurd (none_there i t o.1 v) ];
    }
      where
        none_there : (i : VariableInfo) (t : Tree) → new_info ≡ i → i.value ≡ Some t → ⊥
        none_there i t e v = let clash : None ≡ Some t = ap (λ (j : VariableInfo). j.value) e ∙ v in cc

    later_open : IsLater S T L
    later_open = record {
      longer = let longer = one_longer new_info S.variables in omega (arith, longer);
      infos = λ n i e. record { now = i; there = there_before new_info S.variables n i e; kind = refl; is_root = refl };
      no_root = λ n j e f. elim (old_or_new new_info S.variables n j f) [
        | inl o ↦ absurd (let clash : None ≡ Some j = sym e ∙ o in cc)
        | inr o ↦ sym (ap (λ (i : VariableInfo). i.is_root) o.1)
      ];
      universes = λ n l. let same = ap universe_in (same_before new_info S.variables n l) in omega (arith, same);
      fits = fits_open;
      values = λ ts k. resolved_same (resolved S ts) (resolved_known S L sound ts k) ∙ idle S L sound ts k ∙ sym (resolved_same ts k);
      newest = omega arith;
      mode = refl;
    }

    -- of an old variable all is as it was
    own_universe : (n : ℕ) (i : VariableInfo) → info S n ≡ Some i → universe_in (info T n) ≡ universe_in (info S n)
    own_universe n i e = ap universe_in (there_before new_info S.variables n i e) ∙ sym (ap universe_in e)

    -- a value of a variable is one of a variable that was there
    had : (P : ℕ → VariableInfo → Tree → Type 0) → ((n : ℕ) (i : VariableInfo) (t : Tree) → L n ≡ true → info S n ≡ Some i → i.value ≡ Some t → P n i t)
        → (n : ℕ) (i : VariableInfo) (t : Tree) → L n ≡ true → info T n ≡ Some i → i.value ≡ Some t → P n i t
    had P f n i t l e v = elim (old_or_new new_info S.variables n i e) [
      | inl o ↦ f n i t l o v
      | inr o ↦ absurd (let clash : None ≡ Some t = ap (λ (j : VariableInfo). j.value) o.1 ∙ v in cc)
    ]

    sound_open : IsSound T L
    sound_open = record {
      allowed = λ s n i t l e v k. had (λ n i t. i.kind ≡ Term s → IsAllowedBinding (universes T) (record { variable = record { sort = s; number = n }; value = t })) (allowed s) n i t l e v k;
      no_higher = had (λ n i t. holds (is_variable_above (universes T) i.universe) (erase (alone t)) ≡ false) no_higher;
      is_resolved = had (λ n i t. holds (has_value T) (alone t) ≡ false)
          (λ n i t l e v. holds_imply (has_value S) (has_value T) (λ h f. ap is_some (values_same h) ∙ f) (alone t) (sound.is_resolved n i t l e v));
      known = had (λ n i t. holds (is_strange T L) (alone t) ≡ false) (λ n i t l e v. known_later S T L L (λ n l c. c) later_open (alone t) (sound.known n i t l e v));
      universes = λ n i l e. elim (old_or_new new_info S.variables n i e) [
        | inl o ↦ sound.universes n i l o
        | inr o ↦ let is : min c.universe S.newest_universe ≡ i.universe = ap (λ (j : VariableInfo). j.universe) o.1 in omega (arith, is)
      ];
    }
      where
        allowed : (s : VariableSort) (n : ℕ) (i : VariableInfo) (t : Tree) → L n ≡ true → info S n ≡ Some i → i.value ≡ Some t → i.kind ≡ Term s
            → IsAllowedBinding (universes T) (record { variable = record { sort = s; number = n }; value = t })
        allowed s n i t l e v k =
            let a = sound.allowed s n i t l e v k in
            record { fits = a.fits; is_closed = a.is_closed; in_universe = subst (λ u. holds (is_placeholder_above u) (erase (alone t)) ≡ false) (sym (own_universe n i e)) a.in_universe }

        no_higher : (n : ℕ) (i : VariableInfo) (t : Tree) → L n ≡ true → info S n ≡ Some i → i.value ≡ Some t → holds (is_variable_above (universes T) i.universe) (erase (alone t)) ≡ false
        no_higher n i t l e v =
            holds_erased (is_variable_above (universes T) i.universe) (alone t)
            ∙ holds_to (is_strange S L) (λ h. is_variable_above (universes S) i.universe (erased_head h)) (λ h. is_variable_above (universes T) i.universe (erased_head h)) low (alone t)
            (sound.known n i t l e v) (sym (holds_erased (is_variable_above (universes S) i.universe) (alone t)) ∙ sound.no_higher n i t l e v)
          where
            low : (h : Head) → is_strange S L h ≡ false → is_variable_above (universes S) i.universe (erased_head h) ≡ false → is_variable_above (universes T) i.universe (erased_head h) ≡ false
            low (H.Infer w) k e =
                let x = has_info (L w.number) (Term w.sort) (info S w.number) k in
                ap (nat_lt i.universe) (own_universe w.number x.0 x.1) ∙ e
            low (H.Region r) k e = refl
            low _ k e = refl

    pub lead_open : SoundLater S L T
    lead_open = record { sound = sound_open; later = later_open }

-- Fresh variables for what a response leaves open: the state leads on.

pub lead_named : (S : State) (L : Live) (cs : List CanonicalVar) (os : List (Option ℕ)) → IsSound S L → SoundLater S L (named_at S cs os).0
lead_named S L (c ∷ cs) (Some n ∷ os) sound = lead_named S L cs os sound
lead_named S L (c ∷ cs) (None ∷ os) sound =
    let first = lead_open S c L sound in
    lead_along S (with_open S c) (named_at (with_open S c) cs os).0 L sound first (lead_named (with_open S c) L cs os first.sound)
lead_named S L [] os sound = lead_itself S L sound
lead_named S L (c ∷ cs) [] sound = lead_itself S L sound

-- The numbers are of variables of the kinds, which count.

pub record IsNumberOf (S : State) (L : Live) (k : VariableKind) (n : ℕ) : Type 0 where
  pub entry : VariableInfo
  pub there : info S n ≡ Some entry
  pub kind : entry.kind ≡ k
  pub live : L n ≡ true

abbrev pub AreNumbersOf : State → Live → List CanonicalVar → List ℕ → Type 0
AreNumbersOf S L [] [] = Unit {0}
AreNumbersOf S L (c ∷ cs) (n ∷ ns) = IsNumberOf S L c.kind n × AreNumbersOf S L cs ns
AreNumbersOf S L _ _ = ⊥

-- where there is a number, it is of such a variable
abbrev pub AreOwn : State → Live → List CanonicalVar → List (Option ℕ) → Type 0
AreOwn S L [] [] = Unit {0}
AreOwn S L (c ∷ cs) (Some n ∷ os) = IsNumberOf S L c.kind n × AreOwn S L cs os
AreOwn S L (c ∷ cs) (None ∷ os) = AreOwn S L cs os
AreOwn S L _ _ = ⊥

-- all numbers that the state doesn't have count
abbrev pub CountsNew : State → Live → Type 0
CountsNew S L = (n : ℕ) → length S.variables ≤ n → L n ≡ true

pub number_later : (S T : State) (L : Live) (k : VariableKind) (n : ℕ) → IsLater S T L → IsNumberOf S L k n → IsNumberOf T L k n
number_later S T L k n later x =
    let y = later.infos n x.entry x.there in
    record { entry = y.now; there = y.there; kind = y.kind ∙ x.kind; live = x.live }

pub numbers_later : (S T : State) (L : Live) (cs : List CanonicalVar) (ns : List ℕ) → IsLater S T L → AreNumbersOf S L cs ns → AreNumbersOf T L cs ns
numbers_later S T L [] [] later a = tt
numbers_later S T L (c ∷ cs) (n ∷ ns) later a = (number_later S T L c.kind n later a.0, numbers_later S T L cs ns later a.1)
numbers_later S T L [] (n ∷ ns) later a = absurd a
numbers_later S T L (c ∷ cs) [] later a = absurd a

own_later : (S T : State) (L : Live) (cs : List CanonicalVar) (os : List (Option ℕ)) → IsLater S T L → AreOwn S L cs os → AreOwn T L cs os
own_later S T L [] [] later a = tt
own_later S T L (c ∷ cs) (Some n ∷ os) later a = (number_later S T L c.kind n later a.0, own_later S T L cs os later a.1)
own_later S T L (c ∷ cs) (None ∷ os) later a = own_later S T L cs os later a
own_later S T L [] (o ∷ os) later a = absurd a
own_later S T L (c ∷ cs) [] later a = absurd a

pub named_numbers : (S : State) (L : Live) (cs : List CanonicalVar) (os : List (Option ℕ)) → IsSound S L → CountsNew S L → AreOwn S L cs os
    → AreNumbersOf (named_at S cs os).0 L cs (named_at S cs os).1
named_numbers S L [] [] sound new a = tt
named_numbers S L (c ∷ cs) (Some n ∷ os) sound new a = (number_later S (named_at S cs os).0 L c.kind n (lead_named S L cs os sound).later a.0, named_numbers S L cs os sound new a.1)
named_numbers S L (c ∷ cs) (None ∷ os) sound new a =
    let R : State = with_open S c in
    let first = lead_open S c L sound in
    let here : IsNumberOf R L c.kind (length S.variables) = record { entry = new_info S c; there = new_there (new_info S c) S.variables; kind = refl; live = new (length S.variables) (omega arith) } in (
      number_later R (named_at R cs os).0 L c.kind (length S.variables) (lead_named R L cs os first.sound).later here,
      named_numbers R L cs os first.sound (λ n l. new n (let longer = first.later.longer in omega (arith, l, longer))) (own_later S R L cs os first.later a),
    )
named_numbers S L [] (o ∷ os) sound new a = absurd a
named_numbers S L (c ∷ cs) [] sound new a = absurd a

-- The state that asks, with its new universes

module _ (S : State) (L : Live) (k : Key) (ns : List ℕ) (r : Response) (sound : IsSound S L) where
  abbrev pub own : List (Option ℕ)
  own = numbered (own_variable k.variables ns r.values) 0 r.vars

  abbrev begun : State
  begun = (named_at S r.vars own).0

  named : SoundLater S L begun
  named = lead_named S L r.vars own sound

  pub with_new_universes : SoundLater begun L (ready_for S k ns r).0
  with_new_universes = universes_keep begun L (begun.newest_universe + (greatest_said r - newest_of k)) (omega arith) named.sound

  pub lead_ready : SoundLater S L (ready_for S k ns r).0
  lead_ready = lead_along S begun (ready_for S k ns r).0 L sound named with_new_universes

  pub ready_numbers : CountsNew S L → AreOwn S L r.vars own → AreNumbersOf (ready_for S k ns r).0 L r.vars (ready_for S k ns r).1
  ready_numbers new a = numbers_later begun (ready_for S k ns r).0 L r.vars (ready_for S k ns r).1 with_new_universes.later (named_numbers S L r.vars own sound new a)
