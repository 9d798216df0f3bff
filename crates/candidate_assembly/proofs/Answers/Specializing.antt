-- A list that impls leave which others of it specialise.
use Rattle.std.proofs.Common.{◌≡◌, ℕ, suc, zero, ◌+◌, ◌<◌, ◌≤◌, List, [], ◌∷◌, ◌++◌, arith, length, take, drop, Bool, true, false, not, ◌&&◌, refl, sym, ◌∙◌, ap, subst}
use Rattle.std.specs.Prelude.{◌||◌, if◌then◌else◌, slice_index_or}
use Rattle.std.specs.List.{filter, list_any, remove}
use Rattle.std.proofs.lemmas.List.{append-nil, append_assoc, length-take-le, map-append, drop_all, take_all}
use Rattle.std.proofs.lemmas.List.Elements.{All-append, All-drop, All-take}
use Rattle.std.proofs.lemmas.List.Folds.{list_any-append}
use Rattle.std.proofs.Math.Seq.{drop-append_seam, drop-cons, take-append_seam, take-suc}
use Rattle.ir_trees.specs.declared.decl.contents.ImplId.{ImplId}
use Rattle.ir_trees.specs.Declarations.Context.{Context}
use Rattle.ir_trees.specs.Syntax.Trees.{Tree}
use Rattle.candidate_eval.specs.declared.eval.mode.TypingMode.{TypingMode}
use Rattle.candidate_eval.specs.declared.eval.response.Candidate.{Candidate as OfNumbers}
use Rattle.candidate_eval.specs.declared.eval.source.CandidateSource.{CandidateSource}
use Rattle.candidate_eval.specs.declared.eval.source.CandidateSource.TheVariants as Source
use Rattle.candidate_eval.specs.Outcomes.ResponseTrees.{AreCandidates, IsResponse, candidate_of, candidates_of}
use Rattle.candidate_eval.specs.Outcomes.Responses.{Candidate}
use Rattle.candidate_assembly.specs.declared.assembly.specialization.AllowInferenceConstraints.{AllowInferenceConstraints}
use Rattle.candidate_assembly.specs.Answers.Assembled.{is_coherence}
use Rattle.candidate_assembly.specs.Answers.Specialization.{IsStrictOrder, drives_out, is_driven_out, is_special_case, is_eligible, scanned, specializes, undriven, unspecialized}

-- What is left to see of the list would make of it what the whole list would have made of the first.
pub record ScannedSoFar (c : Context) (a : AllowInferenceConstraints) (ts : List Tree) (old now : List OfNumbers) (n : ℕ) : Type 0 where
  pub fit : AreCandidates ts now
  pub within : n ≤ length now
  pub same : scanned c a (candidates_of ts (take n now)) (candidates_of ts (drop n now)) ≡ scanned c a [] (candidates_of ts old)

pub none-scanned : (c : Context) (a : AllowInferenceConstraints) (ts : List Tree) (old : List OfNumbers) → AreCandidates ts old → ScannedSoFar c a ts old old 0
none-scanned c a ts old fit = record { fit = fit; within = omega arith; same = refl }

pub fit-without : (ts : List Tree) (xs : List OfNumbers) (n : ℕ) → AreCandidates ts xs → AreCandidates ts (remove xs n)
fit-without ts xs n fit =
    let P = λ (x : OfNumbers). IsResponse ts x.result in
    All-append P (take n xs) (drop (suc n) xs) (All-take P n xs fit) (All-drop P (suc n) xs fit)

pub chosen : {A : Type 0} (b : Bool) (x y : A) → b ≡ true → (if b then x else y) ≡ x
chosen true x y e = refl
chosen false x y e = cc

pub left-over : {A : Type 0} (b : Bool) (x y : A) → b ≡ false → (if b then x else y) ≡ y
left-over true x y e = cc
left-over false x y e = refl

others : (ts : List Tree) (xs : List OfNumbers) (n : ℕ) → candidates_of ts (remove xs n) ≡ candidates_of ts (take n xs) ++ candidates_of ts (drop (suc n) xs)
others ts xs n = map-append (candidate_of ts) (take n xs) (drop (suc n) xs)

pub one-gone : (c : Context) (a : AllowInferenceConstraints) (ts : List Tree) (old now : List OfNumbers) (n : ℕ) (x : OfNumbers) → ScannedSoFar c a ts old now n → n < length now → x ≡ slice_index_or now n x
    → is_driven_out c a (candidates_of ts (remove now n)) x.source ≡ true → ScannedSoFar c a ts old (remove now n) n
one-gone c a ts old now n x so there is gone = record {
  fit = fit-without ts now n so.fit;
  within = omega (arith, there, is-length);
  same = ap (λ (p : List OfNumbers). scanned c a (candidates_of ts p) (candidates_of ts (drop n (remove now n)))) front
      ∙ (ap (λ (q : List OfNumbers). scanned c a (candidates_of ts (take n now)) (candidates_of ts q)) back
      ∙ (sym (chosen _ _ _ (sym (ap (λ (q : List Candidate). is_driven_out c a q x.source) (others ts now n)) ∙ gone))
      ∙ (sym (ap (λ (q : List OfNumbers). scanned c a (candidates_of ts (take n now)) (candidates_of ts q)) split) ∙ so.same)));
}
  where
    rest : List OfNumbers
    rest = drop (suc n) now

    taken : length (take n now) ≡ n
    taken = length-take-le n now (omega (arith, there))

    front : take n (remove now n) ≡ take n now
    front = subst (λ k. take k (take n now ++ rest) ≡ take n now) taken (take-append_seam (take n now) rest)

    back : drop n (remove now n) ≡ rest
    back = subst (λ k. drop k (take n now ++ rest) ≡ rest) taken (drop-append_seam (take n now) rest)

    is-length : n ≤ length (remove now n)
    is-length = within-front (take n now) rest n taken
      where
        within-front : (ps qs : List OfNumbers) (k : ℕ) → length ps ≡ k → k ≤ length (ps ++ qs)
        within-front [] qs k e = omega (arith, e)
        within-front (p ∷ ps) qs zero e = omega arith
        within-front (p ∷ ps) qs (suc k) e = let m = within-front ps qs k (omega (arith, e)) in omega (arith, m)

    split : drop n now ≡ x ∷ rest
    split = drop-cons now n x there ∙ ap (λ (y : OfNumbers). y ∷ rest) (sym is)

pub one-stays : (c : Context) (a : AllowInferenceConstraints) (ts : List Tree) (old now : List OfNumbers) (n : ℕ) (x : OfNumbers) → ScannedSoFar c a ts old now n → n < length now → x ≡ slice_index_or now n x
    → is_driven_out c a (candidates_of ts (remove now n)) x.source ≡ false → ScannedSoFar c a ts old now (suc n)
one-stays c a ts old now n x so there is stays = record {
  fit = so.fit;
  within = omega (arith, there);
  same = ap (λ (p : List Candidate). scanned c a p (candidates_of ts rest)) (ap (candidates_of ts) front ∙ map-append (candidate_of ts) (take n now) (x ∷ []))
      ∙ (sym (left-over _ _ _ (sym (ap (λ (q : List Candidate). is_driven_out c a q x.source) (others ts now n)) ∙ stays))
      ∙ (sym (ap (λ (q : List OfNumbers). scanned c a (candidates_of ts (take n now)) (candidates_of ts q)) split) ∙ so.same));
}
  where
    rest : List OfNumbers
    rest = drop (suc n) now

    front : take (suc n) now ≡ take n now ++ x ∷ []
    front = take-suc now n x there ∙ ap (λ (y : OfNumbers). take n now ++ y ∷ []) (sym is)

    split : drop n now ≡ x ∷ rest
    split = drop-cons now n x there ∙ ap (λ (y : OfNumbers). y ∷ rest) (sym is)

pub all-scanned : (c : Context) (m : TypingMode) (a : AllowInferenceConstraints) (ts : List Tree) (old now : List OfNumbers) (n : ℕ) → ScannedSoFar c a ts old now n → length now ≤ n → is_coherence m ≡ false
    → candidates_of ts now ≡ unspecialized c m a (candidates_of ts old)
all-scanned c m a ts old now n so past outside =
    ap (candidates_of ts) (sym (take_all n now past))
    ∙ (sym (ap (λ (q : List OfNumbers). scanned c a (candidates_of ts (take n now)) (candidates_of ts q)) (drop_all n now past))
    ∙ (so.same ∙ sym (left-over (is_coherence m) _ _ outside)))

-- the same steps, where the call says of the element what it says whatever stands for a missing one
element : (xs : List OfNumbers) (n : ℕ) → n < length xs → OfNumbers
element [] n there = absurd (omega (arith, there))
element (x ∷ xs) n there = x

present : (xs : List OfNumbers) (n : ℕ) (d e : OfNumbers) → n < length xs → slice_index_or xs n d ≡ slice_index_or xs n e
present [] n d e there = absurd (omega (arith, there))
present (x ∷ xs) zero d e there = refl
present (x ∷ xs) (suc n) d e there = present xs n d e (omega (arith, there))

abbrev pub IsSaid : Context → AllowInferenceConstraints → List OfNumbers → ℕ → Bool → Type 0
IsSaid c a xs n b = (d : OfNumbers) → b ≡ is_driven_out c a (candidates_of c.trees (remove xs n)) (slice_index_or xs n d).source

pub goes-on-without : (c e : Context) (a : AllowInferenceConstraints) (old now ys new : List OfNumbers) (n : ℕ) (b : Bool) → e ≡ c → ys ≡ now → ScannedSoFar c a c.trees old now n → n < length now
    → IsSaid e a ys n b → b ≡ true → new ≡ remove now n → ScannedSoFar c a c.trees old new n
goes-on-without c e a old now ys new n b same is so there says gone left =
    let d = element now n there in
    let x = slice_index_or now n d in
    let said = subst (λ (zs : List OfNumbers). IsSaid c a zs n b) is (subst (λ (o : Context). IsSaid o a ys n b) same says) in
    subst (λ (zs : List OfNumbers). ScannedSoFar c a c.trees old zs n) (sym left) (one-gone c a c.trees old now n x so there (present now n d x there) (sym (said d) ∙ gone))

pub goes-on-with : (c e : Context) (a : AllowInferenceConstraints) (old now ys : List OfNumbers) (n : ℕ) (b : Bool) → e ≡ c → ys ≡ now → ScannedSoFar c a c.trees old now n → n < length now
    → IsSaid e a ys n b → b ≡ false → ScannedSoFar c a c.trees old now (n + 1)
goes-on-with c e a old now ys n b same is so there says stays =
    let one : suc n ≡ n + 1 = omega arith in
    let d = element now n there in
    let x = slice_index_or now n d in
    let said = subst (λ (zs : List OfNumbers). IsSaid c a zs n b) is (subst (λ (o : Context). IsSaid o a ys n b) same says) in
    subst (λ (k : ℕ). ScannedSoFar c a c.trees old now k) one (one-stays c a c.trees old now n x so there (present now n d x there) (sym (said d) ∙ stays))

-- Over a strict order.

or-last : (b c : Bool) → c ≡ true → (b || c) ≡ true
or-last true c e = refl
or-last false c e = e

or-two : (a b : Bool) → (a || b) ≡ true → (b ≡ true → a ≡ true) → a ≡ true
or-two true b e h = refl
or-two false b e h = h e

and-first : (a b : Bool) → (a && b) ≡ true → a ≡ true
and-first true b e = refl
and-first false b e = cc

and-last : (a b : Bool) → (a && b) ≡ true → b ≡ true
and-last true b e = e
and-last false b e = cc

and-both : (a b : Bool) → a ≡ true → b ≡ true → (a && b) ≡ true
and-both true b e f = f
and-both false b e f = cc

module _ (c : Context) (a : AllowInferenceConstraints) (strict : IsStrictOrder (specializes c)) where
  -- what drives an impl out drives out what that impl specialises
  over : (m n : ImplId) → specializes c m n ≡ true → (s : CandidateSource) → is_special_case c m s ≡ true → is_special_case c n s ≡ true
  over m n e (Source.Impl l) h = strict.transitive l m n h e
  over m n e (Source.BuiltinImpl _) h = cc
  over m n e (Source.ParamEnv _) h = cc
  over m n e (Source.AliasBound _) h = cc
  over m n e Source.CoherenceUnknowable h = cc

  drives-on : (m n : ImplId) → specializes c m n ≡ true → (x : Candidate) → drives_out c a m x ≡ true → drives_out c a n x ≡ true
  drives-on m n e x h =
      and-both _ _ (over m n e x.source (and-first (is_special_case c m x.source) (is_eligible a x.result) h)) (and-last (is_special_case c m x.source) (is_eligible a x.result) h)

  driven-on : (m n : ImplId) → specializes c m n ≡ true → (xs : List Candidate) → list_any (drives_out c a m) xs ≡ true → list_any (drives_out c a n) xs ≡ true
  driven-on m n e [] h = cc
  driven-on m n e (x ∷ xs) h = at (drives_out c a m x) refl h (driven-on m n e xs)
    where
      at : (b : Bool) → drives_out c a m x ≡ b → (b || list_any (drives_out c a m) xs) ≡ true → (list_any (drives_out c a m) xs ≡ true → list_any (drives_out c a n) xs ≡ true)
          → (drives_out c a n x || list_any (drives_out c a n) xs) ≡ true
      at true d h more = ap (λ b. b || list_any (drives_out c a n) xs) (drives-on m n e x d)
      at false d h more = or-last (drives_out c a n x) _ (more h)

  abbrev driven : ImplId → List Candidate → Bool
  driven n xs = list_any (drives_out c a n) xs

  with-one : (n : ImplId) (ys xs : List Candidate) (x : Candidate) → driven n (ys ++ x ∷ xs) ≡ (driven n ys || (drives_out c a n x || driven n xs))
  with-one n ys xs x = list_any-append (drives_out c a n) ys (x ∷ xs)

  without-one : (n : ImplId) (ys xs : List Candidate) → driven n (ys ++ xs) ≡ (driven n ys || driven n xs)
  without-one n ys xs = list_any-append (drives_out c a n) ys xs

  -- a candidate that drives nothing out doesn't matter
  idle : (n : ImplId) (ys xs : List Candidate) (x : Candidate) → drives_out c a n x ≡ false → driven n (ys ++ xs) ≡ driven n (ys ++ x ∷ xs)
  idle n ys xs x e = without-one n ys xs ∙ sym (with-one n ys xs x ∙ ap (λ b. driven n ys || (b || driven n xs)) e)

  not-itself : (n : ImplId) (x : Candidate) → x.source ≡ Source.Impl n → drives_out c a n x ≡ false
  not-itself n x e = ap (λ (s : CandidateSource). is_special_case c n s && is_eligible a x.result) e ∙ ap (λ b. b && is_eligible a x.result) (strict.irreflexive n)

  -- by others, or by all
  by-all : (ys xs : List Candidate) (x : Candidate) → is_driven_out c a (ys ++ xs) x.source ≡ is_driven_out c a (ys ++ x ∷ xs) x.source
  by-all ys xs x = at x.source refl
    where
      at : (s : CandidateSource) → x.source ≡ s → is_driven_out c a (ys ++ xs) s ≡ is_driven_out c a (ys ++ x ∷ xs) s
      at (Source.Impl n) e = idle n ys xs x (not-itself n x e)
      at (Source.BuiltinImpl _) e = refl
      at (Source.ParamEnv _) e = refl
      at (Source.AliasBound _) e = refl
      at Source.CoherenceUnknowable e = refl

  -- one that is driven out isn't needed to drive others out
  not-needed : (ys xs : List Candidate) (x : Candidate) → is_driven_out c a (ys ++ xs) x.source ≡ true → (n : ImplId) → driven n (ys ++ xs) ≡ driven n (ys ++ x ∷ xs)
  not-needed ys xs x gone n = at (drives_out c a n x) refl
    where
      there : (s : CandidateSource) → is_special_case c n s ≡ true → is_driven_out c a (ys ++ xs) s ≡ true → driven n (ys ++ xs) ≡ true
      there (Source.Impl m) e g = driven-on m n e (ys ++ xs) g
      there (Source.BuiltinImpl _) e g = cc
      there (Source.ParamEnv _) e g = cc
      there (Source.AliasBound _) e g = cc
      there Source.CoherenceUnknowable e g = cc

      at : (b : Bool) → drives_out c a n x ≡ b → driven n (ys ++ xs) ≡ driven n (ys ++ x ∷ xs)
      at true d = there x.source (and-first _ (is_eligible a x.result) d) gone ∙ sym (with-one n ys xs x ∙ or-last (driven n ys) _ (ap (λ b. b || driven n xs) d))
      at false d = idle n ys xs x d

  source-alike : (xs ys : List Candidate) → ((n : ImplId) → driven n xs ≡ driven n ys) → (s : CandidateSource) → is_driven_out c a xs s ≡ is_driven_out c a ys s
  source-alike xs ys h (Source.Impl n) = h n
  source-alike xs ys h (Source.BuiltinImpl _) = refl
  source-alike xs ys h (Source.ParamEnv _) = refl
  source-alike xs ys h (Source.AliasBound _) = refl
  source-alike xs ys h Source.CoherenceUnknowable = refl

  abbrev kept : List Candidate → List Candidate → List Candidate
  kept all xs = filter (λ (x : Candidate). not (is_driven_out c a all x.source)) xs

  scan-is : (all ys xs : List Candidate) → ((n : ImplId) → driven n (ys ++ xs) ≡ driven n all) → scanned c a ys xs ≡ ys ++ kept all xs
  scan-is all ys [] h = sym (append-nil ys)
  scan-is all ys (x ∷ xs) h = at (is_driven_out c a (ys ++ xs) x.source) refl (λ zs. scan-is all zs xs)
    where
      alike : is_driven_out c a (ys ++ xs) x.source ≡ is_driven_out c a all x.source
      alike = by-all ys xs x ∙ source-alike (ys ++ x ∷ xs) all h x.source

      again : ys ++ x ∷ [] ++ xs ≡ ys ++ x ∷ xs
      again = append_assoc ys (x ∷ []) xs

      at : (b : Bool) → is_driven_out c a (ys ++ xs) x.source ≡ b → ((zs : List Candidate) → ((n : ImplId) → driven n (zs ++ xs) ≡ driven n all) → scanned c a zs xs ≡ zs ++ kept all xs)
          → (if b then scanned c a ys xs else scanned c a (ys ++ x ∷ []) xs) ≡ ys ++ kept all (x ∷ xs)
      at true e more = more ys (λ n. not-needed ys xs x e n ∙ h n)
          ∙ ap (λ zs. ys ++ zs) (sym (ap (λ b. if not b then x ∷ kept all xs else kept all xs) (sym alike ∙ e)))
      at false e more = more (ys ++ x ∷ []) (λ n. ap (driven n) again ∙ h n)
          ∙ (append_assoc ys (x ∷ []) (kept all xs)
          ∙ ap (λ zs. ys ++ zs) (sym (ap (λ b. if not b then x ∷ kept all xs else kept all xs) (sym alike ∙ e))))

  -- An impl stays exactly if no other eligible impl of the list specialises it.
  pub specialization_is_pairwise : (m : TypingMode) (xs : List Candidate) → unspecialized c m a xs ≡ undriven c m a xs
  specialization_is_pairwise m xs = ap (λ (ys : List Candidate). if is_coherence m then xs else ys) (scan-is xs [] xs (λ n. refl))
