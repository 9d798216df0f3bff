-- States that come after another: those that follow it, those alike one, and along such states.
use Rattle.std.proofs.Common.{◌≡◌, ◌+◌, ◌<◌, ◌≤◌, ℕ, suc, get_or, Bool, true, false, not, ◌&&◌, Option, Some, None, List, [], ◌∷◌, length, slice_get, refl, sym, ap, subst, ◌∙◌, arith, nat_lt, if◌then◌else◌, inl, inr, ◌⊎◌}
use Rattle.std.specs.Option.{unwrap_or}
use Rattle.std.proofs.lemmas.Bool.{le-ltb, lt-ltb, ltb-false}
use Rattle.std.proofs.lemmas.Option.{slice_get_cases, slice_get_within}
use Rattle.std.proofs.Math.Nat.{le_trans}
use Rattle.ir_trees.specs.declared.ir.heads.ConstHead.TheVariants as C
use Rattle.ir_trees.specs.declared.ir.heads.Head.{Head}
use Rattle.ir_trees.specs.declared.ir.heads.Head.TheVariants as H
use Rattle.ir_trees.specs.declared.ir.kinds.RegionKind.TheVariants as R
use Rattle.ir_trees.specs.Instantiation.Folding.{fold}
use Rattle.ir_trees.specs.Syntax.Trees.{Forest, Tree, binders_of, holds, none, tree}
use Rattle.ir_trees.proofs.Instantiation.Folding.{begin}
use Rattle.candidate_eval.specs.declared.eval.variable.VariableKind.{VariableKind}
use Rattle.candidate_eval.specs.declared.eval.variable.VariableKind.TheVariants.{Term, Region}
use Rattle.candidate_eval.specs.Judges.Alike.{LooksAlike, info}
use Rattle.candidate_eval.specs.Judges.Lawful.{AnswersYes}
use Rattle.candidate_eval.specs.Judges.Soundness.{Follows, IsSound, Live, ValuesFit, Within, is_strange, universe_in}
use Rattle.candidate_eval.specs.Judges.States.{Judge, State, VariableInfo, has_kind, resolved, same_kind, value_at, value_in}
use Rattle.candidate_eval.specs.Outcomes.Responses.{Response}
use Rattle.candidate_eval.proofs.Marks.Holds.{holds_imply, holds_parts}
use Rattle.candidate_assembly.specs.Answers.SureAnswers.{AnswersAfter, ComesAfter}
use Rattle.candidate_assembly.proofs.Goals.Standing.{counted, fits-alike, kind-there, sound-alike, still}
use Rattle.candidate_assembly.proofs.Sense.SenseLater.{resolved-known, resolved-twice}

-- What follows comes after.
abbrev pub follows-after : (S T : State) (L : Live) → Follows S T L → ComesAfter S T L
follows-after S T L f = record {
  live = f.live;
  within = f.within;
  sound = f.sound;
  fits = f.fits;
  longer = f.later.longer;
  infos = f.later.infos;
  no_root = f.later.no_root;
  universes = f.later.universes;
  values = f.later.values;
  newest = f.later.newest;
  mode = f.later.mode;
}

-- What stood at a state stands at one that comes after.

counts : (x : Bool) (k : VariableKind) (o : Option VariableInfo) → x ≡ true → has_kind k o ≡ true → not (x && has_kind k o) ≡ false
counts x k o e f = rw (e, f) refl

module _ (S T : State) (L : Live) (a : ComesAfter S T L) where
  counts-after : (n : ℕ) (k : VariableKind) → not (L n && has_kind k (info S n)) ≡ false → not (a.live n && has_kind k (info T n)) ≡ false
  counts-after n k e =
      let i = counted (L n) k (info S n) e in
      let j = a.infos n i.0 i.1 in
      counts (a.live n) k (info T n) (a.within n (slice_get_within S.variables n i.0 i.1) i.2) (ap (has_kind k) j.there ∙ (ap (λ l. same_kind l k) j.kind ∙ (sym (ap (has_kind k) i.1) ∙ kind-there (L n) k (info S n) e)))

  universe-after : (u : ℕ) → nat_lt S.newest_universe u ≡ false → nat_lt T.newest_universe u ≡ false
  universe-after u e = le-ltb T.newest_universe u (le_trans (ltb-false S.newest_universe u e) a.newest)

  pub strange-after : (h : Head) → is_strange S L h ≡ false → is_strange T a.live h ≡ false
  strange-after (H.Infer v) e = counts-after v.number (Term v.sort) e
  strange-after (H.Region (R.Var n)) e = counts-after n Region e
  strange-after (H.Placeholder p) e = universe-after p.universe e
  strange-after (H.Const (C.Placeholder p)) e = universe-after p.universe e
  strange-after (H.Region (R.Placeholder p)) e = universe-after p.universe e
  strange-after _ e = refl

  pub known-after : (ts : Forest) → holds (is_strange S L) ts ≡ false → holds (is_strange T a.live) ts ≡ false
  known-after ts e = holds_imply (is_strange S L) (is_strange T a.live) strange-after ts e

-- Along such states.

pub root-along : (S T U : State) (L : Live) (a : ComesAfter S T L) (b : ComesAfter T U a.live) (n : ℕ) (j : VariableInfo) → info S n ≡ None → info U n ≡ Some j → j.is_root ≡ false
root-along S T U L a b n j none_there there = at (info T n) refl
  where
    at : (o : Option VariableInfo) → info T n ≡ o → j.is_root ≡ false
    at None e = b.no_root n j e there
    at (Some i) e =
        let y = b.infos n i e in
        let same : Some j ≡ Some y.now = sym there ∙ y.there in
        let is : j ≡ y.now = cc in
        ap (λ (k : VariableInfo). k.is_root) is ∙ (y.is_root ∙ a.no_root n i none_there e)

pub values-along : (S T U : State) (L : Live) → IsSound S L → (a : ComesAfter S T L) (b : ComesAfter T U a.live) (ts : Forest) → holds (is_strange S L) ts ≡ false → resolved U (resolved S ts) ≡ resolved U ts
values-along S T U L sound a b ts k =
    sym (b.values (resolved S ts) (known-after S T L a (resolved S ts) (resolved-known S L sound ts k)))
    ∙ (ap (resolved U) (a.values ts k) ∙ b.values ts (known-after S T L a ts k))

abbrev pub after-along : (S T U : State) (L : Live) → IsSound S L → (a : ComesAfter S T L) → ComesAfter T U a.live → ComesAfter S U L
after-along S T U L sound a b = record {
  live = b.live;
  within = λ n l c. b.within n (le_trans l a.longer) (a.within n l c);
  sound = b.sound;
  fits = b.fits;
  longer = le_trans a.longer b.longer;
  infos = λ n i e.
      let x = a.infos n i e in
      let y = b.infos n x.now x.there in
      record { now = y.now; there = y.there; kind = y.kind ∙ x.kind; is_root = y.is_root ∙ x.is_root };
  no_root = root-along S T U L a b;
  universes = λ n h. le_trans (b.universes n (le_trans h a.longer)) (a.universes n h);
  values = values-along S T U L sound a b;
  newest = le_trans a.newest b.newest;
  mode = b.mode ∙ a.mode;
}

-- States alike one.

pub longer-list : {A : Type 0} (xs ys : List A) → ((n : ℕ) (i : A) → slice_get xs n ≡ Some i → slice_get ys n ≡ Some i) → length xs ≤ length ys
longer-list [] ys f = omega arith
longer-list (x ∷ xs) [] f = absurd (let clash = f 0 x refl in cc)
longer-list (x ∷ xs) (y ∷ ys) f = let l = longer-list xs ys (λ n i e. f (suc n) i e) in omega (arith, l)

module _ (S T : State) (a : LooksAlike S T) (L : Live) (sound : IsSound S L) where
  same-there : (x : Bool) (k : VariableKind) (n : ℕ) → not (x && has_kind k (info S n)) ≡ false → info T n ≡ info S n
  same-there x k n e = let i = counted x k (info S n) e in a.kept n i.0 i.1 ∙ sym i.1

  same-value : (h : Head) → is_strange S L h ≡ false → value_at T h ≡ value_at S h
  same-value (H.Infer v) e = ap (λ (o : Option VariableInfo). if has_kind (Term v.sort) o then value_in o else None) (same-there (L v.number) (Term v.sort) v.number e)
  same-value (H.Region (R.Var n)) e = ap (λ (o : Option VariableInfo). if has_kind Region o then value_in o else None) (same-there (L n) Region n e)
  same-value _ e = refl

  same-resolved : (d : ℕ) (ts : Forest) → holds (is_strange S L) ts ≡ false → fold (λ _ t. value_at T t.head) d ts ≡ fold (λ _ t. value_at S t.head) d ts
  same-resolved d none e = refl
  same-resolved d (tree h below rest) e =
      let p = holds_parts (is_strange S L) h below rest e in
      let f = λ (d : ℕ) (ts : Forest). fold (λ _ t. value_at T t.head) d ts in
      let o = value_at S h in
      ap (λ (x : Option Tree). begin (unwrap_or x (record { head = h; children = f (d + binders_of h) below })) (f d rest)) (same-value h p.here)
      ∙ (ap (λ (b : Forest). begin (unwrap_or o (record { head = h; children = b })) (f d rest)) (same-resolved (d + binders_of h) below p.under)
      ∙ ap (begin (unwrap_or o (record { head = h; children = fold (λ _ t. value_at S t.head) (d + binders_of h) below }))) (same-resolved d rest p.others))

  pub values-alike : (ts : Forest) → holds (is_strange S L) ts ≡ false → resolved T (resolved S ts) ≡ resolved T ts
  values-alike ts e = same-resolved 0 (resolved S ts) (resolved-known S L sound ts e) ∙ (resolved-twice S L sound ts e ∙ sym (same-resolved 0 ts e))

  pub universe-alike : (n : ℕ) → n < length S.variables → universe_in (info T n) ≤ universe_in (info S n)
  universe-alike n l = at (info S n) refl
    where
      at : (o : Option VariableInfo) → info S n ≡ o → universe_in (info T n) ≤ universe_in (info S n)
      at (Some i) e = subst (λ (o : Option VariableInfo). universe_in o ≤ universe_in (info S n)) (e ∙ sym (a.kept n i e)) (omega arith)
      at None e = absurd (there e (slice_get_cases S.variables n).1)
        where
          there : info S n ≡ None → ((x : VariableInfo) × (n < length S.variables) × (info S n ≡ Some x) × (get_or S.variables n x ≡ x)) ⊎ ((length S.variables ≤ n) × (info S n ≡ None)) → ⊥
          there e (inl x) = let clash : None ≡ Some x.0 = sym e ∙ x.2 in cc
          there e (inr x) = let past = x.0 in omega (arith, past, l)

  pub within-alike : Within S L (still S L)
  within-alike n l c = rw (lt-ltb n (length S.variables) l, c) refl

  abbrev pub alike-after : ValuesFit S L → ComesAfter S T L
  alike-after fits = record {
    live = still S L;
    within = within-alike;
    sound = sound-alike S T a L sound;
    fits = fits-alike S T a L fits;
    longer = longer-list S.variables T.variables a.kept;
    infos = λ n i e. record { now = i; there = a.kept n i e; kind = refl; is_root = refl };
    no_root = a.no_root;
    universes = universe-alike;
    values = values-alike;
    newest = subst (λ u. S.newest_universe ≤ u) (sym a.newest_universe) (omega arith);
    mode = a.mode;
  }

-- What is granted at a state that comes after is granted after the first.

pub answers-here : (J : Judge) (S T : State) (L : Live) (r : Response) → (f : Follows S T L) → AnswersYes J T f.live r → AnswersAfter J S L T r
answers-here J S T L r f y = record { after = follows-after S T L f; granted = y }

pub answers-along : (J : Judge) (S T U : State) (L : Live) (r : Response) → IsSound S L → (a : ComesAfter S T L) → AnswersAfter J T a.live U r → AnswersAfter J S L U r
answers-along J S T U L r sound a x = record { after = after-along S T U L sound a x.after; granted = x.granted }
