-- A state with fresh variables, which count too: its values make sense as before, and what stood there stands there still.
use Rattle.std.proofs.Common.{◌≡◌, ◌≤◌, ◌+◌, ◌||◌, ◌&&◌, ℕ, zero, suc, Bool, true, false, not, List, [], ◌∷◌, ◌++◌, map, length, slice_get, Option, Some, None, refl, sym, ap, subst, ◌∙◌, arith, append_assoc, nat_le, nat_lt, if◌then◌else◌}
use Rattle.std.proofs.lemmas.Bool.{le-leb, lt-leb, ltb-true, ltb-false}
use Rattle.std.proofs.lemmas.List.{append-nil}
use Rattle.std.proofs.lemmas.Option.{slice_get_within}
use Rattle.ir_trees.specs.declared.ir.heads.ConstHead.TheVariants as C
use Rattle.ir_trees.specs.declared.ir.heads.Head.{Head}
use Rattle.ir_trees.specs.declared.ir.heads.Head.TheVariants as H
use Rattle.ir_trees.specs.declared.ir.kinds.RegionKind.TheVariants as R
use Rattle.ir_trees.specs.Unification.Substitutions.{alone, is_placeholder_above}
use Rattle.ir_trees.specs.Syntax.Trees.{Kind, Forest, Tree, erase, erased_head, holds}
use Rattle.candidate_eval.specs.declared.eval.variable.VariableKind.{VariableKind}
use Rattle.candidate_eval.specs.declared.eval.variable.VariableKind.TheVariants.{Term, Region}
use Rattle.candidate_eval.specs.Judges.Alike.{info}
use Rattle.candidate_eval.specs.Judges.Lawful.{HasLeafValues}
use Rattle.candidate_eval.specs.Judges.Soundness.{AreTreesOf, IsResolved, IsSound, Live, ValuesFit, has_value, is_strange, is_variable_above, universe_in, universes}
use Rattle.candidate_eval.specs.Judges.States.{State, VariableInfo, fresh_info, has_kind, is_some, value_in, variable_kind, with_fresh, with_fresh_variables}
use Rattle.candidate_eval.proofs.Marks.Holds.{holds_imply}
use Rattle.candidate_assembly.proofs.Goals.Standing.{counted, erased-holds, kind-there, neither}

-- Lists

get-kept : {X : Type 0} (xs ys : List X) (n : ℕ) (x : X) → slice_get xs n ≡ Some x → slice_get (xs ++ ys) n ≡ Some x
get-kept [] ys n x e = absurd cc
get-kept (y ∷ xs) ys zero x e = e
get-kept (y ∷ xs) ys (suc n) x e = get-kept xs ys n x e

get-more : {X : Type 0} (xs ys : List X) (m : ℕ) → slice_get (xs ++ ys) (length xs + m) ≡ slice_get ys m
get-more [] ys m = ap (slice_get ys) (none-more m)
  where
    none-more : (m : ℕ) → 0 + m ≡ m
    none-more m = omega arith
get-more (x ∷ xs) ys m = ap (slice_get (x ∷ xs ++ ys)) (one-more (length xs) m) ∙ get-more xs ys m
  where
    one-more : (n m : ℕ) → suc n + m ≡ suc (n + m)
    one-more n m = omega arith

-- where an element of two lists stands
data Stands {X : Type 0} (xs ys : List X) (n : ℕ) (x : X) : Type 0 where
  before : slice_get xs n ≡ Some x → Stands xs ys n x
  after : (m : ℕ) → n ≡ length xs + m → slice_get ys m ≡ Some x → Stands xs ys n x

stands : {X : Type 0} (xs ys : List X) (n : ℕ) (x : X) → slice_get (xs ++ ys) n ≡ Some x → Stands xs ys n x
stands [] ys n x e = after n (none-more n) e
  where
    none-more : (m : ℕ) → m ≡ 0 + m
    none-more m = omega arith
stands (y ∷ xs) ys zero x e = before e
stands (y ∷ xs) ys (suc n) x e = at (stands xs ys n x e)
  where
    one-more : (a n m : ℕ) → a ≡ n + m → suc a ≡ suc n + m
    one-more a n m e = omega (arith, e)

    at : Stands xs ys n x → Stands (y ∷ xs) ys (suc n) x
    at (before h) = before h
    at (after m h g) = after m (one-more n (length xs) m h) g

-- Fresh variables are the last.

abbrev pub fresh_infos : State → List Kind → List VariableInfo
fresh_infos S ks = map (λ k. fresh_info S (variable_kind k)) ks

abbrev pub fresher : State → List Kind → State
fresher S ks = record S { variables = S.variables ++ fresh_infos S ks }

pub fresh-all : (S : State) (ks : List Kind) → with_fresh_variables S ks ≡ fresher S ks
fresh-all S [] = ap (λ vs. record S { variables = vs }) (sym (append-nil S.variables))
fresh-all S (k ∷ ks) =
    fresh-all (with_fresh S (variable_kind k)) ks
    ∙ ap (λ vs. record S { variables = vs }) (append_assoc S.variables (fresh_info S (variable_kind k) ∷ []) (fresh_infos S ks))

fresh-at : (S : State) (ks : List Kind) (j : ℕ) (k : Kind) → slice_get ks j ≡ Some k → slice_get (fresh_infos S ks) j ≡ Some (fresh_info S (variable_kind k))
fresh-at S [] j k e = absurd cc
fresh-at S (l ∷ ks) zero k e = let same : l ≡ k = cc in ap (λ x. Some (fresh_info S (variable_kind x))) same
fresh-at S (l ∷ ks) (suc j) k e = fresh-at S ks j k e

fresh-is : (S : State) (ks : List Kind) (j : ℕ) (i : VariableInfo) → slice_get (fresh_infos S ks) j ≡ Some i → (i.value ≡ None) × (i.universe ≡ S.newest_universe)
fresh-is S [] j i e = absurd cc
fresh-is S (l ∷ ks) zero i e = let same : fresh_info S (variable_kind l) ≡ i = cc in (ap (λ (x : VariableInfo). x.value) (sym same), ap (λ (x : VariableInfo). x.universe) (sym same))
fresh-is S (l ∷ ks) (suc j) i e = fresh-is S ks j i e

fresh-no-root : (S : State) (ks : List Kind) (j : ℕ) (i : VariableInfo) → slice_get (fresh_infos S ks) j ≡ Some i → i.is_root ≡ false
fresh-no-root S [] j i e = absurd cc
fresh-no-root S (l ∷ ks) zero i e = let same : fresh_info S (variable_kind l) ≡ i = cc in ap (λ (x : VariableInfo). x.is_root) (sym same)
fresh-no-root S (l ∷ ks) (suc j) i e = fresh-no-root S ks j i e

-- a fresh variable is no root
pub fresh-root : (S : State) (ks : List Kind) (n : ℕ) (i : VariableInfo) → info S n ≡ None → info (fresher S ks) n ≡ Some i → i.is_root ≡ false
fresh-root S ks n i none-there e = at (stands S.variables (fresh_infos S ks) n i e)
  where
    at : Stands S.variables (fresh_infos S ks) n i → i.is_root ≡ false
    at (before h) = absurd (let clash : None ≡ Some i = sym none-there ∙ h in cc)
    at (after m h g) = fresh-no-root S ks m i g

-- what counted, and all from the fresh ones on
abbrev pub wider : State → Live → Live
wider S L n = L n || nat_le (length S.variables) n

or-true : (a b : Bool) → b ≡ true → (a || b) ≡ true
or-true true b e = refl
or-true false b e = e

pub counts : (x : Bool) (k : VariableKind) (o : Option VariableInfo) → x ≡ true → has_kind k o ≡ true → not (x && has_kind k o) ≡ false
counts x k o e f = rw (e, f) refl

module _ (S : State) (L : Live) (ks : List Kind) where
  abbrev T : State
  T = fresher S ks

  abbrev M : Live
  M = wider S L

  abbrev N : ℕ
  N = length S.variables

  pub info-kept : (n : ℕ) (i : VariableInfo) → info S n ≡ Some i → info T n ≡ Some i
  info-kept n i e = get-kept S.variables (fresh_infos S ks) n i e

  pub fresh-there : (j : ℕ) (k : Kind) → slice_get ks j ≡ Some k → info T (N + j) ≡ Some (fresh_info S (variable_kind k))
  fresh-there j k e = get-more S.variables (fresh_infos S ks) j ∙ fresh-at S ks j k e

  pub counts-fresh : (j : ℕ) → M (N + j) ≡ true
  counts-fresh j = or-true (L (N + j)) (nat_le N (N + j)) (le-leb N (N + j) (omega arith))

  pub data Which (n : ℕ) (i : VariableInfo) : Type 0 where
    old : info S n ≡ Some i → Which n i
    new : N ≤ n → i.value ≡ None → i.universe ≡ S.newest_universe → Which n i

  pub which : (n : ℕ) (i : VariableInfo) → info T n ≡ Some i → Which n i
  which n i e = at (stands S.variables (fresh_infos S ks) n i e)
    where
      at : Stands S.variables (fresh_infos S ks) n i → Which n i
      at (before h) = old h
      at (after m h g) = let f = fresh-is S ks m i g in new (omega (arith, h)) f.0 f.1

  pub old-info : (n : ℕ) (i : VariableInfo) → info T n ≡ Some i → nat_lt n N ≡ true → info S n ≡ Some i
  old-info n i e l = at (which n i e)
    where
      at : Which n i → info S n ≡ Some i
      at (old h) = h
      at (new far v u) = let less = ltb-true n N l in absurd (omega (arith, less, far))

  pub new-universe : (n : ℕ) (i : VariableInfo) → info T n ≡ Some i → nat_lt n N ≡ false → i.universe ≡ S.newest_universe
  new-universe n i e l = at (which n i e)
    where
      at : Which n i → i.universe ≡ S.newest_universe
      at (old h) = let less = slice_get_within S.variables n i h in let far = ltb-false n N l in absurd (omega (arith, less, far))
      at (new far v u) = u

  -- an old one that counts now did so before
  pub counted-before : (n : ℕ) (i : VariableInfo) → info S n ≡ Some i → M n ≡ true → L n ≡ true
  counted-before n i e c = at (L n) (nat_le N n) (lt-leb N n (slice_get_within S.variables n i e)) c
    where
      at : (a b : Bool) → b ≡ false → (a || b) ≡ true → a ≡ true
      at true b f c = refl
      at false true f c = absurd cc
      at false false f c = c

  pub counted-still : (n : ℕ) → L n ≡ true → M n ≡ true
  counted-still n e = ap (λ b. b || nat_le N n) e

  -- what has a value is old
  pub valued-old : (n : ℕ) (i : VariableInfo) (t : Tree) → M n ≡ true → info T n ≡ Some i → i.value ≡ Some t → (L n ≡ true) × (info S n ≡ Some i)
  valued-old n i t c e v = at (which n i e)
    where
      at : Which n i → (L n ≡ true) × (info S n ≡ Some i)
      at (old h) = (counted-before n i h c, h)
      at (new far w u) = absurd cc

  pub same-info : (x : Bool) (k : VariableKind) (n : ℕ) → not (x && has_kind k (info S n)) ≡ false → info T n ≡ info S n
  same-info x k n e = let i = counted x k (info S n) e in info-kept n i.0 i.1 ∙ sym i.1

  counts-still : (n : ℕ) (k : VariableKind) → not (L n && has_kind k (info S n)) ≡ false → not (M n && has_kind k (info T n)) ≡ false
  counts-still n k e = counts (M n) k (info T n) (counted-still n (counted (L n) k (info S n) e).2) (ap (has_kind k) (same-info (L n) k n e) ∙ kind-there (L n) k (info S n) e)

  pub strange-still : (h : Head) → is_strange S L h ≡ false → is_strange T M h ≡ false
  strange-still (H.Infer v) e = counts-still v.number (Term v.sort) e
  strange-still (H.Region (R.Var n)) e = counts-still n Region e
  strange-still (H.Placeholder p) e = e
  strange-still (H.Const (C.Placeholder p)) e = e
  strange-still (H.Region (R.Placeholder p)) e = e
  strange-still _ e = refl

  pub known-still : (ts : Forest) → holds (is_strange S L) ts ≡ false → holds (is_strange T M) ts ≡ false
  known-still ts e = holds_imply (is_strange S L) (is_strange T M) strange-still ts e

  pub trees-still : (ts : Forest) → AreTreesOf S L ts → AreTreesOf T M ts
  trees-still ts t = record { known = known-still ts t.known; is_closed = t.is_closed }

  erased-strange : (h : Head) → is_strange S L h ≡ false → is_strange S L (erased_head h) ≡ false
  erased-strange (H.Region r) e = refl
  erased-strange _ e = e

  erased-known : (ts : Forest) → holds (is_strange S L) ts ≡ false → holds (is_strange S L) (erase ts) ≡ false
  erased-known ts e = erased-holds (is_strange S L) ts ∙ holds_imply (is_strange S L) (λ h. is_strange S L (erased_head h)) erased-strange ts e

  no-higher : (u : ℕ) (h : Head) → is_variable_above (universes S) u h ≡ false → is_strange S L h ≡ false → is_variable_above (universes T) u h ≡ false
  no-higher u (H.Infer v) e k = ap (λ o. nat_lt u (universe_in o)) (same-info (L v.number) (Term v.sort) v.number k) ∙ e
  no-higher u _ e k = refl

  no-value : (h : Head) → has_value S h ≡ false → is_strange S L h ≡ false → has_value T h ≡ false
  no-value (H.Infer v) e k = ap (λ o. is_some (if has_kind (Term v.sort) o then value_in o else None)) (same-info (L v.number) (Term v.sort) v.number k) ∙ e
  no-value (H.Region (R.Var n)) e k = ap (λ o. is_some (if has_kind Region o then value_in o else None)) (same-info (L n) Region n k) ∙ e
  no-value _ e k = refl

  pub resolved-still : (ts : Forest) → holds (is_strange S L) ts ≡ false → IsResolved S ts → IsResolved T ts
  resolved-still ts k r = neither (has_value S) (is_strange S L) (has_value T) no-value ts r k

  pub sound-still : IsSound S L → IsSound T M
  sound-still sound = record {
    allowed = λ s n i t c e v k.
        let p = valued-old n i t c e v in
        let x = sound.allowed s n i t p.0 p.1 v k in
        record { fits = x.fits; is_closed = x.is_closed; in_universe = subst (λ u. holds (is_placeholder_above u) (erase (alone t)) ≡ false) (ap universe_in (p.1 ∙ sym e)) x.in_universe };
    no_higher = λ n i t c e v.
        let p = valued-old n i t c e v in
        neither (is_variable_above (universes S) i.universe) (is_strange S L) (is_variable_above (universes T) i.universe) (no-higher i.universe) (erase (alone t)) (sound.no_higher n i t p.0 p.1 v) (erased-known (alone t) (sound.known n i t p.0 p.1 v));
    is_resolved = λ n i t c e v. let p = valued-old n i t c e v in resolved-still (alone t) (sound.known n i t p.0 p.1 v) (sound.is_resolved n i t p.0 p.1 v);
    known = λ n i t c e v. let p = valued-old n i t c e v in known-still (alone t) (sound.known n i t p.0 p.1 v);
    universes = λ n i c e. at n i c (which n i e);
  }
    where
      at : (n : ℕ) (i : VariableInfo) → M n ≡ true → Which n i → i.universe ≤ S.newest_universe
      at n i c (old h) = sound.universes n i (counted-before n i h c) h
      at n i c (new far v u) = omega (arith, u)

  pub fits-still : ValuesFit S L → ValuesFit T M
  fits-still fits n c = record {
    kind = λ i t e v. let p = valued-old n i t c e v in (fits n p.0).kind i t p.1 v;
    is_closed = λ i t e v. let p = valued-old n i t c e v in (fits n p.0).is_closed i t p.1 v;
  }

  pub leaves-still : HasLeafValues S L → HasLeafValues T M
  leaves-still leaves n i t c e v = let p = valued-old n i t c e v in leaves n i t p.0 p.1 v
