-- States that follow one another: along states, with a fresh universe, with other goals pending, and with fresh variables.
use Rattle.std.proofs.Common.{◌≡◌, ◌<◌, ◌≤◌, ◌+◌, ℕ, get_or, false, List, length, Option, Some, None, refl, sym, ap, subst, ◌∙◌, arith, if◌then◌else◌, inl, inr, ◌⊎◌}
use Rattle.std.specs.Option.{unwrap_or}
use Rattle.std.proofs.lemmas.List.{length-append}
use Rattle.std.proofs.lemmas.Option.{slice_get_cases}
use Rattle.std.proofs.Math.Nat.{le_trans}
use Rattle.ir_trees.specs.declared.ir.heads.Head.{Head}
use Rattle.ir_trees.specs.declared.ir.heads.Head.TheVariants as H
use Rattle.ir_trees.specs.declared.ir.kinds.RegionKind.TheVariants as R
use Rattle.ir_trees.specs.Instantiation.Folding.{fold}
use Rattle.ir_trees.specs.Unification.Substitutions.{alone}
use Rattle.ir_trees.specs.Syntax.Trees.{Forest, Kind, Tree, binders_of, holds, none, tree}
use Rattle.ir_trees.proofs.Instantiation.Folding.{begin, fold-nothing}
use Rattle.candidate_eval.specs.declared.eval.variable.VariableKind.TheVariants.{Term, Region}
use Rattle.candidate_eval.specs.Judges.Alike.{info}
use Rattle.candidate_eval.specs.Judges.Soundness.{FitsVariable, IsLater, IsResolved, IsSound, Live, Within, has_value, is_strange, universe_in}
use Rattle.candidate_eval.specs.Judges.States.{Pending, State, VariableInfo, has_kind, is_some, resolved, value_at, value_in, with_pending, with_universe}
use Rattle.candidate_eval.proofs.Marks.Holds.{holds_imply, holds_parts}
use Rattle.candidate_eval.proofs.Marks.Marking.{unmarked}
use Rattle.candidate_assembly.proofs.Refusals.KnownFresh.{Which, fresh-root, fresh_infos, fresher, info-kept, new, old, same-info, which}
use Rattle.candidate_assembly.proofs.Goals.Standing.{strange-later, value-has, valued-unmarked}

is-none : (o : Option Tree) → is_some o ≡ false → o ≡ None
is-none None e = refl
is-none (Some t) e = absurd cc

module _ (S : State) (L : Live) (sound : IsSound S L) where
  pub resolved-known : (ts : Forest) → holds (is_strange S L) ts ≡ false → holds (is_strange S L) (resolved S ts) ≡ false
  resolved-known ts e =
      valued-unmarked (value_at S) (is_strange S L) (is_strange S L) (is_strange S L) (λ h p q. p) (λ h u p q f. value-has S L (λ t. holds (is_strange S L) (alone t) ≡ false) sound.known h u p f) 0 ts e e

  -- all values are put in at once
  resolved-once : (d : ℕ) (ts : Forest) → holds (is_strange S L) ts ≡ false → IsResolved S (fold (λ _ t. value_at S t.head) d ts)
  resolved-once d none e = refl
  resolved-once d (tree h below rest) e =
      let p = holds_parts (is_strange S L) h below rest e in
      node (value_at S h) refl p.here (resolved-once (d + binders_of h) below p.under) (resolved-once d rest p.others)
    where
      node : (o : Option Tree) → value_at S h ≡ o → is_strange S L h ≡ false → IsResolved S (fold (λ _ t. value_at S t.head) (d + binders_of h) below) → IsResolved S (fold (λ _ t. value_at S t.head) d rest)
          → IsResolved S (begin (unwrap_or o (record { head = h; children = fold (λ _ t. value_at S t.head) (d + binders_of h) below })) (fold (λ _ t. value_at S t.head) d rest))
      node None f k under others = unmarked (has_value S) h (fold (λ _ t. value_at S t.head) (d + binders_of h) below) (fold (λ _ t. value_at S t.head) d rest) (ap is_some f) under others
      node (Some u) f k under others =
          let z = holds_parts (has_value S) u.head u.children none (value-has S L (λ t. IsResolved S (alone t)) sound.is_resolved h u k f) in
          unmarked (has_value S) u.head u.children (fold (λ _ t. value_at S t.head) d rest) z.here z.under others

  pub resolved-twice : (ts : Forest) → holds (is_strange S L) ts ≡ false → resolved S (resolved S ts) ≡ resolved S ts
  resolved-twice ts e = fold-nothing (λ d t. value_at S t.head) (has_value S) (λ d t f. is-none (value_at S t.head) f) 0 (resolved S ts) (resolved-once 0 ts e)

  pub later-itself : IsLater S S L
  later-itself = record {
    longer = omega arith;
    infos = λ n i e. record { now = i; there = e; kind = refl; is_root = refl };
    no_root = λ n j e f. absurd (let same : None ≡ Some j = sym e ∙ f in cc);
    universes = λ n l. omega arith;
    fits = λ n f. f;
    values = resolved-twice;
    newest = omega arith;
    mode = refl;
  }

  pub later-universe : IsLater S (with_universe S) L
  later-universe =
      let l = later-itself in
      record { longer = l.longer; infos = l.infos; no_root = l.no_root; universes = l.universes; fits = l.fits; values = l.values; newest = omega arith; mode = l.mode }

  pub later-pending : (ps : List Pending) → IsLater S (with_pending S ps) L
  later-pending ps =
      let l = later-itself in
      record { longer = l.longer; infos = l.infos; no_root = l.no_root; universes = l.universes; fits = l.fits; values = l.values; newest = l.newest; mode = l.mode }

  -- Fresh variables.
  module _ (ks : List Kind) where
    same-value : (h : Head) → is_strange S L h ≡ false → value_at (fresher S ks) h ≡ value_at S h
    same-value (H.Infer v) e = ap (λ (o : Option VariableInfo). if has_kind (Term v.sort) o then value_in o else None) (same-info S L ks (L v.number) (Term v.sort) v.number e)
    same-value (H.Region (R.Var n)) e = ap (λ (o : Option VariableInfo). if has_kind Region o then value_in o else None) (same-info S L ks (L n) Region n e)
    same-value _ e = refl

    resolved-same : (d : ℕ) (ts : Forest) → holds (is_strange S L) ts ≡ false → fold (λ _ t. value_at (fresher S ks) t.head) d ts ≡ fold (λ _ t. value_at S t.head) d ts
    resolved-same d none e = refl
    resolved-same d (tree h below rest) e =
        let p = holds_parts (is_strange S L) h below rest e in
        let f = λ (d : ℕ) (ts : Forest). fold (λ _ t. value_at (fresher S ks) t.head) d ts in
        let o = value_at S h in
        ap (λ (x : Option Tree). begin (unwrap_or x (record { head = h; children = f (d + binders_of h) below })) (f d rest)) (same-value h p.here)
        ∙ (ap (λ (b : Forest). begin (unwrap_or o (record { head = h; children = b })) (f d rest)) (resolved-same (d + binders_of h) below p.under)
        ∙ ap (begin (unwrap_or o (record { head = h; children = fold (λ _ t. value_at S t.head) (d + binders_of h) below }))) (resolved-same d rest p.others))

    kept-info : (n : ℕ) (o : Option VariableInfo) → info S n ≡ o → FitsVariable (info S n) → FitsVariable (info (fresher S ks) n)
    kept-info n (Some i) e f = subst FitsVariable (e ∙ sym (info-kept S L ks n i e)) f
    kept-info n None e f = record {
      kind = λ j t g v. no-value j t g v (which S L ks n j g);
      is_closed = λ j t g v. no-value j t g v (which S L ks n j g);
    }
      where
        no-value : {A : Type 0} (j : VariableInfo) (t : Tree) → info (fresher S ks) n ≡ Some j → j.value ≡ Some t → Which S L ks n j → A
        no-value j t g v (old h) = absurd (let clash : None ≡ Some j = sym e ∙ h in cc)
        no-value j t g v (new far w u) = absurd (let clash : None ≡ Some t = sym w ∙ v in cc)

    same-universe : (n : ℕ) → n < length S.variables → universe_in (info (fresher S ks) n) ≤ universe_in (info S n)
    same-universe n l = at (info S n) refl
      where
        at : (o : Option VariableInfo) → info S n ≡ o → universe_in (info (fresher S ks) n) ≤ universe_in (info S n)
        at (Some i) e = subst (λ (o : Option VariableInfo). universe_in o ≤ universe_in (info S n)) (e ∙ sym (info-kept S L ks n i e)) (omega arith)
        at None e = absurd (there e (slice_get_cases S.variables n).1)
          where
            there : info S n ≡ None → ((x : VariableInfo) × (n < length S.variables) × (info S n ≡ Some x) × (get_or S.variables n x ≡ x)) ⊎ ((length S.variables ≤ n) × (info S n ≡ None)) → ⊥
            there e (inl x) = let clash : None ≡ Some x.0 = sym e ∙ x.2 in cc
            there e (inr x) = let past = x.0 in omega (arith, past, l)

    pub later-fresh : IsLater S (fresher S ks) L
    later-fresh = record {
      longer = longer (length (fresh_infos S ks)) (length-append S.variables (fresh_infos S ks));
      infos = λ n i e. record { now = i; there = info-kept S L ks n i e; kind = refl; is_root = refl };
      no_root = λ n j e f. fresh-root S ks n j e f;
      universes = same-universe;
      fits = λ n f. kept-info n (info S n) refl f;
      values = λ ts e. resolved-same 0 (resolved S ts) (resolved-known ts e) ∙ (resolved-twice ts e ∙ sym (resolved-same 0 ts e));
      newest = omega arith;
      mode = refl;
    }
      where
        longer : {m : ℕ} (k : ℕ) → m ≡ length S.variables + k → length S.variables ≤ m
        longer k e = omega (arith, e)

-- Along states.
pub later-along : (S R U : State) (L M : Live) → IsSound S L → Within S L M → IsLater S R L → IsLater R U M → IsLater S U L
later-along S R U L M sound within a b = record {
  longer = le_trans a.longer b.longer;
  infos = λ n i e.
      let x = a.infos n i e in
      let y = b.infos n x.now x.there in
      record { now = y.now; there = y.there; kind = y.kind ∙ x.kind; is_root = y.is_root ∙ x.is_root };
  no_root = no-root;
  universes = λ n h. le_trans (b.universes n (le_trans h a.longer)) (a.universes n h);
  fits = λ n f. b.fits n (a.fits n f);
  values = λ ts k.
      sym (b.values (resolved S ts) (known-on (resolved S ts) (resolved-known S L sound ts k)))
      ∙ (ap (resolved U) (a.values ts k) ∙ b.values ts (known-on ts k));
  newest = le_trans a.newest b.newest;
  mode = b.mode ∙ a.mode;
}
  where
    known-on : (ts : Forest) → holds (is_strange S L) ts ≡ false → holds (is_strange R M) ts ≡ false
    known-on ts k = holds_imply (is_strange S L) (is_strange R M) (strange-later S R L M within a) ts k

    by : (n : ℕ) (j : VariableInfo) (o : Option VariableInfo) → info R n ≡ o → info S n ≡ None → info U n ≡ Some j → j.is_root ≡ false
    by n j None e none_there there = b.no_root n j e there
    by n j (Some i) e none_there there =
        let y = b.infos n i e in
        let same : Some j ≡ Some y.now = sym there ∙ y.there in
        let is : j ≡ y.now = cc in
        ap (λ (k : VariableInfo). k.is_root) is ∙ (y.is_root ∙ a.no_root n i none_there e)

    no-root : (n : ℕ) (j : VariableInfo) → info S n ≡ None → info U n ≡ Some j → j.is_root ≡ false
    no-root n j = by n j (info R n) refl
