-- States that follow one another: what is of a state stays of those that follow, and resolving twice is resolving once.
use Rattle.std.proofs.Common.{◌≡◌, ◌≤◌, ℕ, Bool, true, false, not, ◌&&◌, Option, Some, None, refl, sym, ap, ◌∙◌, arith, nat_lt, if◌then◌else◌}
use Rattle.std.proofs.lemmas.Bool.{ltb-false, le-ltb}
use Rattle.std.proofs.lemmas.Option.{slice_get_within}
use Rattle.std.proofs.Math.Nat.{le_trans}
use Rattle.ir_trees.specs.declared.ir.heads.Head.{Head}
use Rattle.ir_trees.specs.declared.ir.heads.Head.TheVariants as H
use Rattle.ir_trees.specs.declared.ir.heads.ConstHead.TheVariants as C
use Rattle.ir_trees.specs.declared.ir.kinds.RegionKind.TheVariants as R
use Rattle.ir_trees.specs.Syntax.Trees.{Forest, Tree, holds}
use Rattle.ir_trees.specs.Syntax.Binders.{escapes}
use Rattle.ir_trees.specs.Unification.Substitutions.{alone}
use Rattle.ir_trees.proofs.Instantiation.Folding.{fold-nothing}
use Rattle.candidate_eval.specs.declared.eval.variable.VariableKind.{VariableKind}
use Rattle.candidate_eval.specs.declared.eval.variable.VariableKind.TheVariants.{Term, Region}
use Rattle.candidate_eval.specs.Judges.States.{State, VariableInfo, value_in, value_of, value_as, value_at, resolved, is_some, has_kind, same_kind}
use Rattle.candidate_eval.specs.Judges.Alike.{info}
use Rattle.candidate_eval.specs.Judges.Soundness.{Live, IsSound, ValuesFit, IsResolved, AreTreesOf, Within, IsLater, Follows, has_value, is_strange}
use Rattle.rounds_judge.proofs.States.Marks.{holds_to, fold_marked, fold_closed_among}

not_false : (b : Bool) → not b ≡ false → b ≡ true
not_false true e = refl
not_false false e = cc

-- what is there of a variable that counts
pub has_info : (x : Bool) (k : VariableKind) (o : Option VariableInfo) → not (x && has_kind k o) ≡ false → (i : VariableInfo) × (o ≡ Some i) × (x ≡ true)
has_info true k None e = cc
has_info false k o e = cc
has_info true k (Some i) e = (i, refl, refl)

pub kind_there : (x : Bool) (k : VariableKind) (o : Option VariableInfo) → not (x && has_kind k o) ≡ false → has_kind k o ≡ true
kind_there true k o e = not_false (has_kind k o) e
kind_there false k o e = cc

pub counted : (a b : Bool) → a ≡ true → b ≡ true → not (a && b) ≡ false
counted a b e f = rw (e, f) refl

pub no_value : (o : Option Tree) → is_some o ≡ false → o ≡ None
no_value None e = refl
no_value (Some t) e = cc

-- Values in a kind

-- in the variable's own kind it is the variable's value
pub value_as_is : (S : State) (k : VariableKind) (n : ℕ) → has_kind k (info S n) ≡ true → value_as S k n ≡ value_of S n
value_as_is S k n e = ap (λ b. if b then value_of S n else None) e

-- where there is one, the variable is of the kind, and it is the variable's value
pub value_as_kind : (S : State) (k : VariableKind) (n : ℕ) (t : Tree) → value_as S k n ≡ Some t → has_kind k (info S n) ≡ true
value_as_kind S k n t e = at (has_kind k (info S n)) e
  where
    at : (b : Bool) → (if b then value_of S n else None) ≡ Some t → b ≡ true
    at true e = refl
    at false e = cc

pub value_as_of : (S : State) (k : VariableKind) (n : ℕ) (t : Tree) → value_as S k n ≡ Some t → value_of S n ≡ Some t
value_as_of S k n t e = sym (value_as_is S k n (value_as_kind S k n t e)) ∙ e

pub value_there : (S : State) (k : VariableKind) (n : ℕ) (i : VariableInfo) (t : Tree) → info S n ≡ Some i → value_as S k n ≡ Some t → i.value ≡ Some t
value_there S k n i t e v = sym (ap value_in e) ∙ value_as_of S k n t v

-- trees with all values put in stay
pub resolved_stays : (S : State) (ts : Forest) → IsResolved S ts → resolved S ts ≡ ts
resolved_stays S ts r = fold-nothing (λ d t. value_at S t.head) (has_value S) (λ d t e. no_value (value_at S t.head) e) 0 ts r

-- What a state resolves

pub value_closed : (S : State) (L : Live) → ValuesFit S L → (h : Head) (t : Tree) → is_strange S L h ≡ false → value_at S h ≡ Some t → escapes 0 (alone t) ≡ false
value_closed S L fits (H.Infer v) t k e = let i = has_info (L v.number) (Term v.sort) (info S v.number) k in (fits v.number i.2).is_closed i.0 t i.1 (value_there S (Term v.sort) v.number i.0 t i.1 e)
value_closed S L fits (H.Region (R.Var n)) t k e = let i = has_info (L n) Region (info S n) k in (fits n i.2).is_closed i.0 t i.1 (value_there S Region n i.0 t i.1 e)
value_closed S L fits _ t k e = cc

pub resolved_closed : (S : State) (L : Live) → ValuesFit S L → (n : ℕ) (ts : Forest) → holds (is_strange S L) ts ≡ false → escapes n ts ≡ false → escapes n (resolved S ts) ≡ false
resolved_closed S L fits n ts k e = fold_closed_among (λ d t. value_at S t.head) (is_strange S L) (λ d t u m f. value_closed S L fits t.head u m f) n 0 ts k e

pub fits_later : {S T : State} {L : Live} → IsLater S T L → ValuesFit S L → ValuesFit T L
fits_later later fits n c = later.fits n (fits n c)

-- where fewer variables count
pub fits_fewer : (S : State) (L M : Live) → ((n : ℕ) → L n ≡ true → M n ≡ true) → ValuesFit S M → ValuesFit S L
fits_fewer S L M within fits n c = fits n (within n c)

module _ (S : State) (L : Live) (sound : IsSound S L) where
  pub value_known : (h : Head) (t : Tree) → is_strange S L h ≡ false → value_at S h ≡ Some t → holds (is_strange S L) (alone t) ≡ false
  value_known (H.Infer v) t e f = let i = has_info (L v.number) (Term v.sort) (info S v.number) e in sound.known v.number i.0 t i.2 i.1 (value_there S (Term v.sort) v.number i.0 t i.1 f)
  value_known (H.Region (R.Var n)) t e f = let i = has_info (L n) Region (info S n) e in sound.known n i.0 t i.2 i.1 (value_there S Region n i.0 t i.1 f)
  value_known _ t e f = cc

  pub value_resolved : (h : Head) (t : Tree) → is_strange S L h ≡ false → value_at S h ≡ Some t → IsResolved S (alone t)
  value_resolved (H.Infer v) t e f = let i = has_info (L v.number) (Term v.sort) (info S v.number) e in sound.is_resolved v.number i.0 t i.2 i.1 (value_there S (Term v.sort) v.number i.0 t i.1 f)
  value_resolved (H.Region (R.Var n)) t e f = let i = has_info (L n) Region (info S n) e in sound.is_resolved n i.0 t i.2 i.1 (value_there S Region n i.0 t i.1 f)
  value_resolved _ t e f = cc

  pub resolved_known : (ts : Forest) → holds (is_strange S L) ts ≡ false → holds (is_strange S L) (resolved S ts) ≡ false
  resolved_known ts e =
      fold_marked (λ d t. value_at S t.head) (is_strange S L) (is_strange S L) (is_strange S L) (λ d t a b f. a) (λ d t u a b f. value_known t.head u a f) 0 ts e e

  pub resolved_once : (ts : Forest) → holds (is_strange S L) ts ≡ false → IsResolved S (resolved S ts)
  resolved_once ts e =
      fold_marked (λ d t. value_at S t.head) (is_strange S L) (is_strange S L) (has_value S) (λ d t a b f. ap is_some f) (λ d t u a b f. value_resolved t.head u a f) 0 ts e e

  -- resolving twice is resolving once
  pub idle : (ts : Forest) → holds (is_strange S L) ts ≡ false → resolved S (resolved S ts) ≡ resolved S ts
  idle ts e = resolved_stays S (resolved S ts) (resolved_once ts e)

-- What is of a state stays of those that follow

module _ (S T : State) (L M : Live) (within : Within S L M) (later : IsLater S T L) where
  stays_counted : (n : ℕ) (k : VariableKind) → not (L n && has_kind k (info S n)) ≡ false → not (M n && has_kind k (info T n)) ≡ false
  stays_counted n k e =
      let i = has_info (L n) k (info S n) e in
      let j = later.infos n i.0 i.1 in
      let has : has_kind k (info S n) ≡ true = kind_there (L n) k (info S n) e in
      let there : has_kind k (info T n) ≡ true = ap (has_kind k) j.there ∙ ap (λ l. same_kind l k) j.kind ∙ sym (ap (has_kind k) i.1) ∙ has in
      counted (M n) (has_kind k (info T n)) (within n (slice_get_within S.variables n i.0 i.1) i.2) there

  low_stays : (u : ℕ) → nat_lt S.newest_universe u ≡ false → nat_lt T.newest_universe u ≡ false
  low_stays u e = le-ltb T.newest_universe u (le_trans (ltb-false S.newest_universe u e) later.newest)

  pub strange_stays : (h : Head) → is_strange S L h ≡ false → is_strange T M h ≡ false
  strange_stays (H.Infer v) e = stays_counted v.number (Term v.sort) e
  strange_stays (H.Region (R.Var n)) e = stays_counted n Region e
  strange_stays (H.Placeholder p) e = low_stays p.universe e
  strange_stays (H.Const (C.Placeholder p)) e = low_stays p.universe e
  strange_stays (H.Region (R.Placeholder p)) e = low_stays p.universe e
  strange_stays _ e = refl

  pub known_later : (ts : Forest) → holds (is_strange S L) ts ≡ false → holds (is_strange T M) ts ≡ false
  known_later ts e = holds_to (is_strange S L) (is_strange S L) (is_strange T M) (λ h a b. strange_stays h a) ts e e

  pub trees_later : (ts : Forest) → AreTreesOf S L ts → AreTreesOf T M ts
  trees_later ts a = record { known = known_later ts a.known; is_closed = a.is_closed }

pub later_along : (S R U : State) (L M : Live) → IsSound S L → Within S L M → IsLater S R L → IsLater R U M → IsLater S U L
later_along S R U L M sound within a b = record {
  longer = le_trans a.longer b.longer;
  infos = λ n i e.
      let x = a.infos n i e in
      let y = b.infos n x.now x.there in
      record { now = y.now; there = y.there; kind = y.kind ∙ x.kind; is_root = y.is_root ∙ x.is_root };
  no_root = no_root;
  universes = λ n h. le_trans (b.universes n (le_trans h a.longer)) (a.universes n h);
  fits = λ n f. b.fits n (a.fits n f);
  values = λ ts k.
      sym (b.values (resolved S ts) (known_later S R L M within a (resolved S ts) (resolved_known S L sound ts k)))
      ∙ ap (resolved U) (a.values ts k) ∙ b.values ts (known_later S R L M within a ts k);
  newest = le_trans a.newest b.newest;
  mode = b.mode ∙ a.mode;
}
  where
    by : (n : ℕ) (j : VariableInfo) (o : Option VariableInfo) → info R n ≡ o → info S n ≡ None → info U n ≡ Some j → j.is_root ≡ false
    by n j None e none_there there = b.no_root n j e there
    by n j (Some i) e none_there there =
        let y = b.infos n i e in
        let same : Some j ≡ Some y.now = sym there ∙ y.there in
        let is : j ≡ y.now = cc in
        ap (λ (k : VariableInfo). k.is_root) is ∙ y.is_root ∙ a.no_root n i none_there e

    no_root : (n : ℕ) (j : VariableInfo) → info S n ≡ None → info U n ≡ Some j → j.is_root ≡ false
    no_root n j = by n j (info R n) refl

abbrev pub follows_along : (S R U : State) (L : Live) → IsSound S L → (f : Follows S R L) → Follows R U f.live → Follows S U L
follows_along S R U L sound f g = record {
  live = g.live;
  within = λ n l c. g.within n (le_trans l f.later.longer) (f.within n l c);
  sound = g.sound;
  fits = g.fits;
  later = later_along S R U L f.live sound f.within f.later g.later;
}

-- the same variables and values
pub later_itself : (S : State) (L : Live) → IsSound S L → IsLater S S L
later_itself S L sound = record {
  longer = omega arith;
  infos = λ n i e. record { now = i; there = e; kind = refl; is_root = refl };
  no_root = λ n j e f. absurd (let same : None ≡ Some j = sym e ∙ f in cc);
  universes = λ n l. omega arith;
  fits = λ n f. f;
  values = idle S L sound;
  newest = omega arith;
  mode = refl;
}

-- more universes
module _ (S : State) (L : Live) (sound : IsSound S L) (newest : ℕ) (more : S.newest_universe ≤ newest) where
  abbrev raised : State
  raised = record S { newest_universe = newest }

  pub later_raised : IsLater S raised L
  later_raised =
      let l : IsLater S S L = later_itself S L sound in
      record { longer = l.longer; infos = l.infos; no_root = l.no_root; universes = l.universes; fits = l.fits; values = l.values; newest = more; mode = l.mode }

  pub sound_raised : IsSound raised L
  sound_raised = record {
    allowed = sound.allowed;
    no_higher = sound.no_higher;
    is_resolved = sound.is_resolved;
    known = λ n i t c e v. known_later S raised L L (λ n l c. c) later_raised (alone t) (sound.known n i t c e v);
    universes = λ n i c e. le_trans (sound.universes n i c e) more;
  }
