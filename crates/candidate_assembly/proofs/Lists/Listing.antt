-- Lists of candidates that go on, rule by rule.
use Rattle.std.proofs.Common.{◌≡◌, arith, suc, ◌+◌, ◌<◌, ◌≤◌, ℕ, refl, sym, ap, subst, ◌∙◌, List, [], ◌∷◌, ◌++◌, length, take, map, get_or, Result, Ok, Err}
use Rattle.std.specs.Prelude.{IfErr, if◌then◌else◌}
use Rattle.std.proofs.lemmas.List.{append-nil, map-append, map_more, take-append-drop, take_all}
use Rattle.std.proofs.lemmas.List.Elements.{All-cons, All-nil}
use Rattle.std.proofs.Math.ListN.{drop}
use Rattle.ir_trees.specs.declared.ir.stop.Stop.{Stop}
use Rattle.ir_trees.specs.Declarations.Context.{Context, Grows}
use Rattle.ir_trees.specs.Syntax.Trees.{none}
use Rattle.ir_trees.proofs.Growth.Kept.{grows-refl}
use Rattle.candidate_eval.specs.declared.eval.refusal.NoSolutionOrStop.{NoSolutionOrStop}
use Rattle.candidate_eval.specs.declared.eval.refusal.NoSolutionOrStop.TheVariants as N
use Rattle.candidate_eval.specs.declared.eval.response.Candidate.{Candidate as OfNumbers}
use Rattle.candidate_eval.specs.Interface.Accounts.{Account, by_stop}
use Rattle.candidate_eval.specs.Judges.Alike.{JudgesAlike}
use Rattle.candidate_eval.specs.Interface.Evaluators.{Keeps}
use Rattle.candidate_eval.specs.Derivations.Judging.{Judged, Refused, judged, start}
use Rattle.candidate_eval.specs.Interface.Knowing.{is_evaluator_stop}
use Rattle.candidate_eval.specs.Derivations.Mentions.{RuleBelow}
use Rattle.candidate_eval.specs.Outcomes.ResponseTrees.{AreCandidates, IsResponse, candidate_of, candidates_of}
use Rattle.candidate_eval.specs.Outcomes.Responses.{Candidate, Response}
use Rattle.candidate_eval.specs.Derivations.Rules.{Rule}
use Rattle.candidate_eval.specs.Judges.States.{State, Judge}
use Rattle.candidate_eval.proofs.Interface.Accounts.{reaches}
use Rattle.candidate_eval.proofs.Interface.Probing.{then as after}
use Rattle.candidate_eval.proofs.Outcomes.Responding.{response-fits, response-kept}
use Rattle.candidate_assembly.specs.Answers.Listing.{Adds, ConsidersAll, IsNotAdded, Listed, Lists, Stops, after_these, answers, listed, together}
use Rattle.candidate_assembly.specs.Answers.Telling.{Considers, StopsOfItself}
use Rattle.candidate_assembly.proofs.Calls.Causes.{later, memory-here}
use Rattle.candidate_assembly.proofs.Aliases.Chains.{together-empty, together-joined, together-last}
use Rattle.candidate_assembly.proofs.Calls.Considering.{not-both}
use Rattle.candidate_assembly.proofs.Calls.Stepping.{memory-own}
use Rattle.ir_trees.specs.declared.ir.stop.Stop.TheVariants.{Memory}

-- Candidates of a context that grows.

one-kept : (old new : Context) (x : OfNumbers) → Grows old new → IsResponse old.trees x.result → candidate_of new.trees x ≡ candidate_of old.trees x
one-kept old new x g h = ap (λ (r : Response). let c : Candidate = record { source = x.source; result = r } in c) (response-kept old new x.result g h)

pub candidates-kept : (old new : Context) (xs : List OfNumbers) → Grows old new → AreCandidates old.trees xs → AreCandidates new.trees xs × (candidates_of new.trees xs ≡ candidates_of old.trees xs)
candidates-kept old new [] g h = (All-nil (λ (c : OfNumbers). IsResponse new.trees c.result), refl)
candidates-kept old new (x ∷ xs) g h =
    let first : IsResponse old.trees x.result = h 0 x (omega arith) in
    let rest : AreCandidates old.trees xs = λ i d l. h (suc i) d (omega (arith, l)) in
    let now : IsResponse new.trees x.result = response-fits old new x.result g first in
    let k = candidates-kept old new xs g rest in
    let more : AreCandidates new.trees xs = k.0 in
    (All-cons (λ (c : OfNumbers). IsResponse new.trees c.result) x xs now more, ap (λ (c : Candidate). c ∷ candidates_of new.trees xs) (one-kept old new x g first) ∙ ap (λ (cs : List Candidate). candidate_of old.trees x ∷ cs) k.1)

-- Rules in a row.

pub answers-joined : (J : Judge) (S : State) (xs ys : List Rule) → answers J S (xs ++ ys) ≡ together (answers J S xs) (answers J S ys)
answers-joined J S [] ys = sym (together-empty (answers J S ys))
answers-joined J S (x ∷ xs) ys = ap (together (listed (judged J S x))) (answers-joined J S xs ys) ∙ sym (together-joined (listed (judged J S x)) (answers J S xs) (answers J S ys))

-- What is judged of a rule that mentions only the state's variables is the same at a state that is alike.
pub judged-alike : (J : Judge) → JudgesAlike J → (S T : State) (r : Rule) → J.alike S T → RuleBelow (length S.variables) r → judged J T r ≡ judged J S r
judged-alike J law S T r a b =
    ap (λ j. if r.applies then j else Refused) (law.same_answers (length S.variables) (start S) (start T) r.env r.steps r.ending (law.alike_places S T none a refl) b.env b.steps b.ending)

-- After candidates that are there, those by some rules were listed.
pub record ListedSoFar {E X : Type 0} (fixed : E → X) (judge : X → Judge) (state : E → State) (probes : E → List State) (context : E → Context) (first now : E) (before items : List OfNumbers) (rules : List Rule) : Type 0 where
  pub kept : Keeps fixed probes context first now
  pub alike : (judge (fixed first)).alike (state first) (state now)
  pub fits : AreCandidates (context now).trees items
  pub whole : Lists (candidates_of (context now).trees items) ≡ after_these (context first).trees before (answers (judge (fixed first)) (state first) rules)

-- the whole list of rules, after candidates that are there
abbrev pub whole_list : {E X : Type 0} (fixed : E → X) (judge : X → Judge) (state : E → State) (context : E → Context) (first : E) (before : List OfNumbers) (rules : List Rule) → Listed → Type 0
whole_list fixed judge state context first before rules l = l ≡ after_these (context first).trees before (answers (judge (fixed first)) (state first) rules)

module _ {E X : Type 0} {fixed : E → X} {judge : X → Judge} {state : E → State} {probes : E → List State} {context : E → Context} (law : (f : X) → JudgesAlike (judge f)) where
  pub none-listed : (first : E) (before : List OfNumbers) → AreCandidates (context first).trees before → ListedSoFar fixed judge state probes context first first before before []
  none-listed first before fit = record {
    kept = record { fixed_same = refl; probes_same = refl; grows = grows-refl (context first); faults = refl };
    alike = (law (fixed first)).alike_same (state first);
    fits = fit;
    whole = ap Lists (sym (append-nil (candidates_of (context first).trees before)));
  }

  -- what comes of one more rule, after those that were listed
  one-more : (first now new : E) (before old : List OfNumbers) (rules : List Rule) (j : Judged) (r : Rule) → ListedSoFar fixed judge state probes context first now before old rules → Grows (context now) (context new)
      → j ≡ judged (judge (fixed first)) (state first) r
      → after_these (context new).trees old (listed j) ≡ after_these (context first).trees before (answers (judge (fixed first)) (state first) (rules ++ r ∷ []))
  one-more first now new before old rules j r s g is =
      let J = judge (fixed first) in
      let S = state first in
      let B = Lists (candidates_of (context first).trees before) in
      let single : listed j ≡ answers J S (r ∷ []) = ap listed is ∙ sym (together-last (listed (judged J S r))) in
      ap (λ l. together l (listed j)) (ap Lists (candidates-kept (context now) (context new) old g s.fits).1 ∙ s.whole)
      ∙ (together-joined B (answers J S rules) (listed j)
      ∙ ap (together B) (ap (together (answers J S rules)) single ∙ sym (answers-joined J S rules (r ∷ []))))

-- A rule that stops is where the whole stops.
stops-whole : {I : Type 0} (g : I → Rule) (xs : List I) (k : ℕ) (d : I) (J : Judge) (S : State) (B : Listed) (z : Stop) → k < length xs → Stops z ≡ together B (answers J S (map g (take k xs) ++ g (get_or xs k d) ∷ [])) → Stops z ≡ together B (answers J S (map g xs))
stops-whole g xs k d J S B z l e =
    let more = map g (drop (k + 1) xs) in
    let split : map g xs ≡ map g (take (k + 1) xs) ++ more = ap (map g) (sym (take-append-drop (k + 1) xs)) ∙ map-append g (take (k + 1) xs) (drop (k + 1) xs) in
    let there : Stops z ≡ together B (answers J S (map g (take (k + 1) xs))) = e ∙ ap (λ (rs : List Rule). together B (answers J S rs)) (sym (map_more g xs k d l)) in
    sym (ap (λ (rs : List Rule). together B (answers J S rs)) split
    ∙ (ap (together B) (answers-joined J S (map g (take (k + 1) xs)) more)
    ∙ (sym (together-joined B (answers J S (map g (take (k + 1) xs))) (answers J S more)) ∙ ap (λ l. together l (answers J S more)) (sym there))))

module _ {E X : Type 0} {fixed : E → X} {judge : X → Judge} {state : E → State} {probes : E → List State} {context : E → Context} {stops : Account E} (law : (f : X) → JudgesAlike (judge f)) where
  module _ {I : Type 0} (g : I → Rule) (xs : List I) (k : ℕ) (d : I) where
    -- one more was considered, and its answer added
    pub next-listed : {A : Type 0} (first now new : E) (before old items : List OfNumbers) (r : Rule) (answer : Result OfNumbers NoSolutionOrStop) (x : A) → ListedSoFar fixed judge state probes context first now before old (map g (take k xs)) → k < length xs
        → Considers fixed judge state probes context stops now new r answer → judged (judge (fixed now)) (state now) r ≡ judged (judge (fixed first)) (state first) (g (get_or xs k d)) → Adds {A = A} answer old items (Ok x)
        → ListedSoFar fixed judge state probes context first new before items (map g (take (k + 1) xs))
    next-listed first now new before old items r answer x s l c same a =
        let j = judged (judge (fixed now)) (state now) r in
        let t = a.told (context new).trees j (candidates-kept (context now) (context new) old c.kept.grows s.fits).0 c.told in
        record {
          kept = after s.kept c.kept;
          alike = (law (fixed first)).alike_along (state first) (state now) (state new) s.alike (subst (λ (x : X). (judge x).alike (state now) (state new)) s.kept.fixed_same c.alike);
          fits = t.fits;
          whole = t.ok ∙ (one-more law first now new before old (map g (take k xs)) j (g (get_or xs k d)) s c.kept.grows same
              ∙ ap (λ (rs : List Rule). after_these (context first).trees before (answers (judge (fixed first)) (state first) rs)) (sym (map_more g xs k d l)));
        }

    -- one more was considered, and the list stops
    pub listing-stops : {A : Type 0} (first now new : E) (before old items : List OfNumbers) (r : Rule) (answer : Result OfNumbers NoSolutionOrStop) (z : Stop) → ListedSoFar fixed judge state probes context first now before old (map g (take k xs)) → k < length xs
        → Considers fixed judge state probes context stops now new r answer → judged (judge (fixed now)) (state now) r ≡ judged (judge (fixed first)) (state first) (g (get_or xs k d)) → Adds {A = A} answer old items (Err z)
        → {left : A → List OfNumbers} (rules : List Rule) → rules ≡ map g xs → (result : Result A Stop) → result ≡ Err z
        → ConsidersAll fixed judge state probes context stops first new (state first) left (whole_list fixed judge state context first before rules) result
    listing-stops first now new before old items r answer z s l c same a rules are result is =
        let j = judged (judge (fixed now)) (state now) r in
        let t = a.told (context new).trees j (candidates-kept (context now) (context new) old c.kept.grows s.fits).0 c.told in
        rw (is, are) (record {
          kept = after s.kept c.kept;
          alike = (law (fixed first)).alike_along (state first) (state now) (state new) s.alike (subst (λ (x : X). (judge x).alike (state now) (state new)) s.kept.fixed_same c.alike);
          told = record {
            ok = tt;
            fits = tt;
            stopped = λ own. stops-whole g xs k d (judge (fixed first)) (state first) (Lists (candidates_of (context first).trees before)) z l
                (t.stopped own ∙ one-more law first now new before old (map g (take k xs)) j (g (get_or xs k d)) s c.kept.grows same);
          };
          cause = of answer c.cause a.cause;
        })
      where
        of : (y : Result OfNumbers NoSolutionOrStop) → IfErr y (by_stop (StopsOfItself fixed context state stops now new)) → IsNotAdded y z → StopsOfItself fixed context state stops first new z
        of (Ok y) w m = memory-here m
        of (Err N.NoSolution) w m = memory-here m
        of (Err (N.Stop y)) w m = later (reaches s.kept) (subst (StopsOfItself fixed context state stops now new) (sym m) w)

    -- all were considered
    pub all-listed : {A : Type 0} (first last : E) (before items : List OfNumbers) (x : A) → ListedSoFar fixed judge state probes context first last before items (map g (take k xs)) → length xs ≤ k
        → (rules : List Rule) → rules ≡ map g xs → ConsidersAll {A = A} fixed judge state probes context stops first last (state first) (λ _. items) (whole_list fixed judge state context first before rules) (Ok x)
    all-listed first last before items x s l rules are = rw are (record {
      kept = s.kept;
      alike = s.alike;
      told = record {
        ok = s.whole ∙ ap (λ (ys : List I). after_these (context first).trees before (answers (judge (fixed first)) (state first) (map g ys))) (take_all k xs l);
        fits = s.fits;
        stopped = tt;
      };
      cause = tt;
    })

  -- no rule was considered, since what to consider wasn't listed
  pub not-listed : {A : Type 0} (first : E) {left : A → List OfNumbers} {R : Listed → Type 0} (result : Result A Stop) (z : Stop) → result ≡ Err z → z ≡ Memory
      → ConsidersAll fixed judge state probes context stops first first (state first) left R result
  not-listed first result z is m = rw is (record {
    kept = record { fixed_same = refl; probes_same = refl; grows = grows-refl (context first); faults = refl };
    alike = (law (fixed first)).alike_same (state first);
    told = record { ok = tt; fits = tt; stopped = λ other. absurd (not-both (is_evaluator_stop z) (memory-own z m) other) };
    cause = memory-here m;
  })

  -- one rule was considered, at once
  pub one-listed : {A : Type 0} (first new : E) (before items : List OfNumbers) (r : Rule) (answer : Result OfNumbers NoSolutionOrStop) (result : Result A Stop) → AreCandidates (context first).trees before
      → Considers fixed judge state probes context stops first new r answer → Adds answer before items result
      → ConsidersAll fixed judge state probes context stops first new (state first) (λ _. items) (whole_list fixed judge state context first before (r ∷ [])) result
  one-listed first new before items r answer (Ok x) fit c a =
      all-listed (λ (y : Rule). y) (r ∷ []) 1 r first new before items x (next-listed (λ (y : Rule). y) (r ∷ []) 0 r first first new before before items r answer x (none-listed law first before fit) (omega arith) c refl a) (omega arith) (r ∷ []) refl
  one-listed first new before items r answer (Err z) fit c a =
      listing-stops (λ (y : Rule). y) (r ∷ []) 0 r first first new before before items r answer z (none-listed law first before fit) (omega arith) c refl a (r ∷ []) refl (Err z) refl

  -- there was no rule
  pub no-rule-listed : {A : Type 0} (first : E) (before : List OfNumbers) (x : A) → AreCandidates (context first).trees before
      → ConsidersAll fixed judge state probes context stops first first (state first) (λ _. before) (whole_list fixed judge state context first before []) (Ok x)
  no-rule-listed first before x fit =
      let s : ListedSoFar fixed judge state probes context first first before before [] = none-listed law first before fit in
      record { kept = s.kept; alike = s.alike; told = record { ok = s.whole; fits = fit; stopped = tt }; cause = tt }
