-- Candidates by the clauses of an object's own bounds, one after the other.
use Rattle.std.proofs.Common.{◌≡◌, arith, zero, suc, ◌+◌, ◌<◌, ◌≤◌, ℕ, false, refl, sym, ap, subst, ◌∙◌, List, [], ◌∷◌, length, map, get_or, Result, Ok, Err}
use Rattle.std.specs.Prelude.{IfErr}
use Rattle.std.proofs.Math.ListN.{drop}
use Rattle.ir_trees.specs.declared.ir.heads.Head.{Head}
use Rattle.ir_trees.specs.declared.ir.stop.Stop.{Stop}
use Rattle.ir_trees.specs.Declarations.Context.{Context, Grows}
use Rattle.ir_trees.specs.Syntax.Trees.{Tree}
use Rattle.ir_trees.specs.Validity.WellFormed.{IsWellFormedTable}
use Rattle.ir_trees.proofs.Growth.Kept.{grows-refl}
use Rattle.candidate_eval.specs.declared.eval.refusal.NoSolutionOrStop.{NoSolutionOrStop}
use Rattle.candidate_eval.specs.declared.eval.refusal.NoSolutionOrStop.TheVariants as N
use Rattle.candidate_eval.specs.declared.eval.response.Candidate.{Candidate as OfNumbers}
use Rattle.candidate_eval.specs.Interface.Accounts.{Account, by_stop}
use Rattle.candidate_eval.specs.Judges.Alike.{JudgesAlike}
use Rattle.candidate_eval.specs.Interface.Evaluators.{Keeps}
use Rattle.candidate_eval.specs.Derivations.Judging.{Judged, Gives, Refused, Stopped}
use Rattle.candidate_eval.specs.Interface.Knowing.{is_evaluator_stop}
use Rattle.candidate_eval.specs.Outcomes.ResponseTrees.{AreCandidates, candidate_of, candidates_of}
use Rattle.candidate_eval.specs.Judges.States.{Judge, State}
use Rattle.candidate_eval.proofs.Interface.Accounts.{reaches}
use Rattle.candidate_eval.proofs.Interface.Probing.{then as after}
use Rattle.candidate_assembly.specs.Laws.Given.{TraitIsGiven}
use Rattle.candidate_assembly.specs.Goals.Kinds.{KindRules}
use Rattle.candidate_assembly.specs.Answers.Listing.{Adds, ConsidersAll, IsNotAdded, Listed, Lists, Stops, after_these, listed, together}
use Rattle.candidate_assembly.specs.Rules.ObjectBounds.{ObjectJudged, ObjectsAnswer, OwnClause, none_left, one, rejected, required, stopped, trait_by, unknown, unmatched}
use Rattle.candidate_assembly.specs.Calls.ObjectCalls.{ObjectsFollow}
use Rattle.candidate_assembly.proofs.Objects.ObjectLaws.{judged_back}
use Rattle.candidate_assembly.specs.Answers.Telling.{StopsOfItself}
use Rattle.candidate_assembly.proofs.Calls.Causes.{later, memory-here}
use Rattle.candidate_assembly.proofs.Aliases.Chains.{together-joined, together-last}
use Rattle.candidate_assembly.proofs.Calls.Considering.{not-both}
use Rattle.candidate_assembly.proofs.Lists.Listing.{candidates-kept}
use Rattle.candidate_assembly.proofs.Calls.Stepping.{memory-own}
use Rattle.candidate_assembly.specs.Answers.ObjectAnswers.{ConsidersObject, ToldOf}

-- What is left of a list.

pub drop-step : {A B : Type 0} (f : A → B) (xs : List A) (k : ℕ) (d : A) → k < length xs → drop k (map f xs) ≡ f (get_or xs k d) ∷ drop (k + 1) (map f xs)
drop-step f [] k d l = absurd (omega (arith, l))
drop-step f (x ∷ xs) zero d l = refl
drop-step f (x ∷ xs) (suc k) d l =
    let turned : suc (k + 1) ≡ suc k + 1 = omega arith in
    subst (λ n. drop k (map f xs) ≡ f (get_or xs k d) ∷ drop n (map f (x ∷ xs))) turned (drop-step f xs k d (omega (arith, l)))

pub drop-past : {A B : Type 0} (f : A → B) (xs : List A) (k : ℕ) → length xs ≤ k → drop k (map f xs) ≡ []
drop-past f [] zero l = refl
drop-past f [] (suc k) l = refl
drop-past f (x ∷ xs) zero l = absurd (omega (arith, l))
drop-past f (x ∷ xs) (suc k) l = drop-past f xs k (omega (arith, l))

-- An answer that is added, where R holds of what it tells.

record IsAdded (ts : List Tree) (R : Judged → Type 0) (old new : List OfNumbers) : Type 0 where
  judged : Judged
  holds : R judged
  fits : AreCandidates ts new
  is : Lists (candidates_of ts new) ≡ after_these ts old (listed judged)

added : {A : Type 0} (ts : List Tree) (R : Judged → Type 0) (answer : Result OfNumbers NoSolutionOrStop) (old new : List OfNumbers) (x : A) → AreCandidates ts old → ToldOf ts R answer → Adds {A = A} answer old new (Ok x) → IsAdded ts R old new
added ts R (Ok c) old new x fit t a =
    let j = Gives (candidate_of ts c) in
    let done = a.told ts j fit (record { ok = refl; fits = t.fits; refused = tt; stopped = tt }) in
    record { judged = j; holds = t.ok; fits = done.fits; is = done.ok }
added ts R (Err N.NoSolution) old new x fit t a =
    let done = a.told ts Refused fit (record { ok = tt; fits = tt; refused = λ n. refl; stopped = tt }) in
    record { judged = Refused; holds = t.refused refl; fits = done.fits; is = done.ok }
added ts R (Err (N.Stop s)) old new x fit t a =
    let done = a.told ts (Stopped s) fit (record { ok = tt; fits = tt; refused = λ n. absurd cc; stopped = λ o. refl }) in
    let never = done.ok in absurd cc

-- one that isn't added, where the definitions say the stop
not-added : {A : Type 0} (ts : List Tree) (R : Judged → Type 0) (answer : Result OfNumbers NoSolutionOrStop) (old new : List OfNumbers) (z : Stop) → ToldOf ts R answer → Adds {A = A} answer old new (Err z) → is_evaluator_stop z ≡ false → R (Stopped z)
not-added ts R (Ok c) old new z t a other = absurd (not-both (is_evaluator_stop z) (memory-own z a.cause) other)
not-added ts R (Err N.NoSolution) old new z t a other = absurd (not-both (is_evaluator_stop z) (memory-own z a.cause) other)
not-added ts R (Err (N.Stop s)) old new z t a other = subst (λ y. R (Stopped y)) (sym a.cause) (t.stopped (subst (λ y. is_evaluator_stop y ≡ false) a.cause other))

-- A clause that is judged later, at a state that is alike, is judged so at first.

alike-before : {G : Type 0} (K : KindRules G) (J : Judge) → JudgesAlike J → (c : Context) (S T : State) (g : G) (o : OwnClause) (j : Judged) → J.alike S T → ObjectJudged K J c T g o j → ObjectJudged K J c S g o j
alike-before K J law c S T g o j like (rejected e) = rejected e
alike-before K J law c S T g o j like (unmatched U a q m) = unmatched U (law.alike_along S T U like a) q m
alike-before K J law c S T g o j like (required U V p goals a q m k) = required U V p goals (law.alike_along S T U like a) q m k
alike-before K J law c S T g o j like (unknown U V p a q m k) = unknown U V p (law.alike_along S T U like a) q m k

pub judged-before : {F G : Type 0} (K : KindRules G) (judge : F → Judge) → ((f : F) → JudgesAlike (judge f)) → (f h : F) (old now : Context) (S T : State) (g d : G) (o q : OwnClause) → IsWellFormedTable old → Grows old now
    → h ≡ f → (judge f).alike S T → d ≡ g → q ≡ o → K.reference_of now g ≡ K.reference_of old g → ((x : Head) → K.fits now g x ≡ K.fits old g x) → TraitIsGiven old (trait_by old o.clause.head)
    → (j : Judged) → ObjectJudged K (judge h) now T d q j → ObjectJudged K (judge f) old S g o j
judged-before K judge law f h old now S T g d o q table grows same like seen is reference fits given j a =
    alike-before K (judge f) (law f) old S T g o j like
    (judged_back K (judge f) old now table grows T g reference fits o j given
    (subst (λ z. ObjectJudged K (judge f) now T g z j) is (subst (λ z. ObjectJudged K (judge f) now T z q j) seen (subst (λ z. ObjectJudged K (judge z) now T d q j) same a))))

-- After candidates that are there, those by the clauses before the k-th were listed: what the others come to is what the whole comes to.
pub record ObjectsSoFar {E G X : Type 0} (fixed : E → X) (judge : X → Judge) (state : E → State) (probes : E → List State) (context : E → Context) (K : KindRules G) (first now : E) (g : G) (before items : List OfNumbers) (os : List OwnClause) (k : ℕ) : Type 0 where
  pub kept : Keeps fixed probes context first now
  pub alike : (judge (fixed first)).alike (state first) (state now)
  pub fits : AreCandidates (context now).trees items
  pub rest : (l : Listed) → ObjectsAnswer K (judge (fixed first)) (context first) (state first) g (drop k os) l
      → ObjectsFollow K (judge (fixed first)) (context first) (state first) g before os (after_these (context now).trees items l)

pub no-object-yet : {E G X : Type 0} {fixed : E → X} {judge : X → Judge} {state : E → State} {probes : E → List State} {context : E → Context} → ((f : X) → JudgesAlike (judge f)) → (K : KindRules G) (g : G) (first : E) (before : List OfNumbers)
    (os : List OwnClause) → AreCandidates (context first).trees before → ObjectsSoFar fixed judge state probes context K first first g before before os 0
no-object-yet {fixed = fixed} {state = state} {context = context} law K g first before os fit = record {
  kept = record { fixed_same = refl; probes_same = refl; grows = grows-refl (context first); faults = refl };
  alike = (law (fixed first)).alike_same (state first);
  fits = fit;
  rest = λ l a. record { by_clauses = l; answers = a; is = refl };
}

module _ {E G X : Type 0} {fixed : E → X} {judge : X → Judge} {state : E → State} {probes : E → List State} {context : E → Context} {stops : Account E} (law : (f : X) → JudgesAlike (judge f)) (K : KindRules G) (g : G) where
  module _ {I : Type 0} (f : I → OwnClause) (xs : List I) (k : ℕ) (i : I) (first now new : E) (before old items : List OfNumbers) (d : G) (q : OwnClause) (answer : Result OfNumbers NoSolutionOrStop)
      (s : ObjectsSoFar fixed judge state probes context K first now g before old (map f xs) k) (l : k < length xs) (c : ConsidersObject fixed judge state probes context stops K now new d q answer)
      (back : (j : Judged) → ObjectJudged K (judge (fixed now)) (context now) (state now) d q j → ObjectJudged K (judge (fixed first)) (context first) (state first) g (f (get_or xs k i)) j) where
    -- one more was considered, and its answer added
    pub next-object : {A : Type 0} (x : A) → Adds {A = A} answer old items (Ok x) → ObjectsSoFar fixed judge state probes context K first new g before items (map f xs) (k + 1)
    next-object x a =
        let J = judge (fixed first) in
        let was = candidates-kept (context now) (context new) old c.kept.grows s.fits in
        let ts = (context new).trees in
        let next = added ts (ObjectJudged K (judge (fixed now)) (context now) (state now) d q) answer old items x was.0 c.told a in
        let j = next.judged in
        record {
          kept = after s.kept c.kept;
          alike = (law (fixed first)).alike_along (state first) (state now) (state new) s.alike (subst (λ (x : X). (judge x).alike (state now) (state new)) s.kept.fixed_same c.alike);
          fits = next.fits;
          rest = λ m others.
              let whole = s.rest (together (listed j) m)
              (subst (λ os. ObjectsAnswer K J (context first) (state first) g os (together (listed j) m)) (sym (drop-step f xs k i l)) (one (back j next.holds) others)) in
              record {
                by_clauses = whole.by_clauses;
                answers = whole.answers;
                is = ap (λ z. together z m) next.is
                    ∙ (together-joined (Lists (candidates_of ts old)) (listed j) m ∙ (ap (λ cs. together (Lists cs) (together (listed j) m)) was.1 ∙ whole.is));
              };
        }

    -- one more was considered, and the list stops
    pub objects-stop : {A C : Type 0} {left : C → List OfNumbers} (z : Stop) → Adds {A = A} answer old items (Err z) → (result : Result C Stop) → result ≡ Err z
        → ConsidersAll fixed judge state probes context stops first new (state first) left (ObjectsFollow K (judge (fixed first)) (context first) (state first) g before (map f xs)) result
    objects-stop z a result is = rw is (record {
      kept = after s.kept c.kept;
      alike = (law (fixed first)).alike_along (state first) (state now) (state new) s.alike (subst (λ (x : X). (judge x).alike (state now) (state new)) s.kept.fixed_same c.alike);
      told = record {
        ok = tt;
        fits = tt;
        stopped = λ own.
            let h = back (Stopped z) (not-added (context new).trees (ObjectJudged K (judge (fixed now)) (context now) (state now) d q) answer old items z c.told a own) in
            s.rest (Stops z) (subst (λ os. ObjectsAnswer K (judge (fixed first)) (context first) (state first) g os (Stops z)) (sym (drop-step f xs k i l)) (stopped h));
      };
      cause = of answer c.cause a.cause;
    })
      where
        of : (y : Result OfNumbers NoSolutionOrStop) → IfErr y (by_stop (StopsOfItself fixed context state stops now new)) → IsNotAdded y z → StopsOfItself fixed context state stops first new z
        of (Ok y) w m = memory-here m
        of (Err N.NoSolution) w m = memory-here m
        of (Err (N.Stop y)) w m = later (reaches s.kept) (subst (StopsOfItself fixed context state stops now new) (sym m) w)

-- all were considered
pub all-objects : {E G X : Type 0} {fixed : E → X} {judge : X → Judge} {state : E → State} {probes : E → List State} {context : E → Context} {stops : Account E} (K : KindRules G) (g : G) {A I : Type 0} (f : I → OwnClause) (xs : List I) (k : ℕ) (first last : E) (before items : List OfNumbers) (x : A) → ObjectsSoFar fixed judge state probes context K first last g before items (map f xs) k → length xs ≤ k
    → ConsidersAll {A = A} fixed judge state probes context stops first last (state first) (λ _. items) (ObjectsFollow K (judge (fixed first)) (context first) (state first) g before (map f xs)) (Ok x)
all-objects {fixed = fixed} {judge = judge} {state = state} {context = context} K g f xs k first last before items x s l = record {
  kept = s.kept;
  alike = s.alike;
  told = record {
    ok = let whole = s.rest (Lists []) (subst (λ os. ObjectsAnswer K (judge (fixed first)) (context first) (state first) g os (Lists [])) (sym (drop-past f xs k l)) none_left) in
        record { by_clauses = whole.by_clauses; answers = whole.answers; is = sym (together-last (Lists (candidates_of (context last).trees items))) ∙ whole.is };
    fits = s.fits;
    stopped = tt;
  };
  cause = tt;
}
