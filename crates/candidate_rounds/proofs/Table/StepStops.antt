-- Why lists of candidates, derivations and checks of them stop, from one call to the next.
use Rattle.std.proofs.Common.{◌≡◌, ◌⊎◌, inl, inr, ◌≤◌, ◌<◌, ◌+◌, ℕ, List, [], ◌∷◌, ◌++◌, length, Some, slice_get, take, Result, Ok, Err, IfErr, refl, sym, ◌∙◌, ap, subst, arith}
use Rattle.std.specs.List.{Contains}
use Rattle.std.proofs.lemmas.List.{length-append}
use Rattle.std.proofs.lemmas.List.Elements.{Contains-push_cases}
use Rattle.ir_trees.specs.declared.ir.stop.Stop.{Stop}
use Rattle.ir_trees.specs.declared.ir.stop.Stop.TheVariants.{Memory, EvaluatorLimit}
use Rattle.ir_trees.specs.Declarations.Context.{Context}
use Rattle.ir_trees.specs.Syntax.Nodes.{Extends}
use Rattle.ir_trees.specs.Syntax.Trees.{Tree}
use Rattle.ir_trees.proofs.Growth.Kept.{grows-refl, grows-trans}
use Rattle.candidate_eval.specs.declared.eval.mode.TypingMode.{TypingMode}
use Rattle.candidate_eval.specs.declared.eval.response.Candidate.{Candidate as OfNumbers}
use Rattle.candidate_eval.specs.Derivations.ImplRules.{TraitGoal}
use Rattle.candidate_eval.specs.Interface.Noting.{IsNotingStop, refused_note}
use Rattle.candidate_eval.specs.Judges.States.{State}
use Rattle.candidate_assembly.specs.declared.assembly.opaques.AssembleCandidatesFrom.TheVariants.{All}
use Rattle.candidate_assembly.specs.Answers.AssembledCalls.{IsAssembledAt}
use Rattle.candidate_assembly.specs.Answers.Listing.{Stops}
use Rattle.candidate_assembly.specs.Goals.TraitRules.{trait_bounds, trait_rules}
use Rattle.rounds_judge.specs.Table.GoalTable.{Entry, GoalTable, most_goals}
use Rattle.rounds_judge.specs.Table.Keys.{Key, newest_of, start_of}
use Rattle.candidate_rounds.specs.declared.rounds.derivation.DerivationStep.{DerivationStep}
use Rattle.candidate_rounds.specs.declared.rounds.goals.GoalKey.{GoalKey}
use Rattle.candidate_rounds.specs.Calls.Starting.{started}
use Rattle.candidate_rounds.specs.Evaluators.Inferences.{Inference}
use Rattle.candidate_rounds.specs.Evaluators.Interface.{Fixed, fixed, judge_of}
use Rattle.candidate_rounds.specs.Evaluators.Known.{Evaluator, listing, state, table_of}
use Rattle.candidate_rounds.specs.Table.Goals.{Each, Goals, IsTraitGoal, Via, key_seen, table_seen}
use Rattle.candidate_rounds.specs.Table.Running.{StaysBesideTable, with_table}
use Rattle.candidate_rounds.specs.Table.Steps.{AssemblesHere, IsStep, StepsHold, entries_of, no_goals, step_entry}
use Rattle.candidate_rounds.specs.Table.StepStops.{AreOfSteps, AreStepsStop, IsAssumingStop, IsKeyListStop, IsListingStop, IsSearchStop, IsStepStop, assuming_full, assuming_looking, list_listing, list_looking, search_memory, search_step, step_assuming, step_listing}
use Rattle.candidate_rounds.proofs.Table.Computing.{out-state, suspend_state}
use Rattle.candidate_rounds.proofs.Table.Running.{same-length, seen-length, stays-refl, stays-trans}
use Rattle.candidate_rounds.proofs.Table.Tabled.{key-sees}
use Rattle.candidate_rounds.proofs.Table.Steps.{EnteredOf, contains-step, entries-see, goals-only, none-entered-yet, none-there, one-more-entered, stays-with}

-- what is answered by an error
pub got-err : {A : Type 0} (a : Result A Stop) (x : Stop) → a ≡ Err x → (P : Stop → Type 0) → IfErr a P → P x
got-err a x e P h = subst (λ r. IfErr r P) e h

-- The list of a goal is that of its key, at the key's start.
module _ (r n : Evaluator) (s : Inference) (k : Key) (g : TraitGoal) (e : s ≡ started (newest_of k) k.variables) (q : g ≡ k.goal) where
  pub list-stopped : {A : Type 0} (ts : List Tree) (items : A → List OfNumbers) (a : Result A Stop) → Extends n.context.trees ts → AssemblesHere (suspend_state r s) n g items a → IfErr a (IsKeyListStop ts r (table_of r) k)
  list-stopped ts items (Ok v) among h = tt
  list-stopped ts items (Err x) among h =
      let p = out-state r k s e in
      list_listing (record {
        first = suspend_state r s;
        grows = grows-refl r.context;
        fixed_same = refl;
        begins = p;
        last = n;
        among = among;
        comes = λ o. subst (λ (y : State × TraitGoal). IsAssembledAt trait_rules trait_bounds r.context (judge_of (with_table (fixed r) (table_of r))) y.0 y.1 All (state n) (Stops x)) (λ i. (p i, q i)) (h.told.stopped o);
        own = h.cause;
      })

-- What stops for one evaluator stops for one before it, from which all stayed but the table.

listing-before : {r s : Evaluator} → StaysBesideTable r s → (ts : List Tree) (T : GoalTable Via) (k : Key) (e : Stop) → IsListingStop ts s T k e → IsListingStop ts r T k e
listing-before {r} {s} x ts T k e h =
    let f : with_table (fixed s) T ≡ with_table (fixed r) T = λ i. with_table (x.fixed_same i) T in
    let m : s.mode ≡ r.mode = ap (λ (S : State). S.mode) x.state_same in
    record {
      first = h.first;
      grows = grows-trans r.context s.context h.first.context x.grows h.grows;
      fixed_same = h.fixed_same ∙ f;
      begins = h.begins ∙ ap (λ (n : TypingMode). start_of n k) m;
      last = h.last;
      among = h.among;
      comes = λ o. subst (λ (q : Fixed × TypingMode). IsAssembledAt trait_rules trait_bounds h.first.context (judge_of q.0) (start_of q.1 k) k.goal All (state h.last) (Stops e)) (λ i. (f i, m i)) (h.comes o);
      own = h.own;
    }

-- by the same table and the same key
pub key-list-before : {r s : Evaluator} → StaysBesideTable r s → {ts : List Tree} {T U : GoalTable Via} {k l : Key} → T ≡ U → k ≡ l → {e : Stop} → IsKeyListStop ts s T k e → IsKeyListStop ts r U l e
key-list-before x t q (list_looking h) = list_looking h
key-list-before {r} x {ts} {T = T} {k = k} t q {e} (list_listing h) = list_listing (subst (λ (p : GoalTable Via × Key). IsListingStop ts r p.0 p.1 e) (λ i. (t i, q i)) (listing-before x ts T k e h))

step-before : {r s : Evaluator} → StaysBesideTable r s → {ts : List Tree} {ss : List DerivationStep} {places : List ℕ} {k : Key} {e : Stop} → IsStepStop ts s ss places k e → IsStepStop ts r ss places k e
step-before x (step_assuming h) = step_assuming h
step-before x (step_listing T o h) = step_listing T o (key-list-before x refl refl h)

pub search-before : {r s : Evaluator} → StaysBesideTable r s → {ts : List Tree} {e : Stop} → IsSearchStop ts s e → IsSearchStop ts r e
search-before x search_memory = search_memory
search-before x (search_step ss places k h) = search_step ss places k (step-before x h)

pub steps-stop-before : {r s : Evaluator} → StaysBesideTable r s → {ts : List Tree} {ss : List DerivationStep} {e : Stop} → AreStepsStop ts s ss e → AreStepsStop ts r ss e
steps-stop-before x h = record { place = h.place; step = h.step; there = h.there; stops = step-before x h.stops }

pub step-there : {r : Evaluator} {ts : List Tree} {ss : List DerivationStep} (i : ℕ) {t : DerivationStep} {e : Stop} → slice_get ss i ≡ Some t → IsStepStop ts r (take i ss) t.nested.items (key_seen ts t.key) e → AreStepsStop ts r ss e
step-there i {t} g h = record { place = i; step = t; there = g; stops = h }

-- a search of steps that are checked
pub checked-search : {r : Evaluator} {ts : List Tree} {ss : List DerivationStep} {e : Stop} → AreStepsStop ts r ss e → IsSearchStop ts r e
checked-search h = search_step _ _ _ h.stops

pub memory-search : {r : Evaluator} {ts : List Tree} {e : Stop} → e ≡ Memory → IsSearchStop ts r e
memory-search {r} {ts} m = subst (IsSearchStop ts r) (sym m) search_memory

pub memory-noting : {ts : List Tree} {e : Stop} → e ≡ Memory → IsNotingStop ts e
memory-noting {ts} m = subst (IsNotingStop ts) (sym m) refused_note

-- a step that wasn't entered
pub entering-stop : {ts : List Tree} {e : Stop} (n : ℕ) → (e ≡ Memory) ⊎ ((e ≡ EvaluatorLimit) × (most_goals ≤ n)) → IsNotingStop ts e ⊎ ((e ≡ EvaluatorLimit) × (most_goals ≤ n))
entering-stop n (inl m) = inl (memory-noting m)
entering-stop n (inr h) = inr h

-- What one step enters at most.

none-many : (r : Evaluator) → r.goals.table ≡ [] → length r.goals.table ≤ 0
none-many r e = let n = ap length e in omega (arith, n)

one-more-many : (r s : Evaluator) (x : DerivationStep) (n : ℕ) → length r.goals.table ≤ n → (table_of s ≡ table_of r) ⊎ (table_of s ≡ table_of r ++ step_entry r.context.trees x ∷ []) → length s.goals.table ≤ n + 1
one-more-many r s x n l (inl q) = let m = same-length r s q in omega (arith, l, m)
one-more-many r s x n l (inr q) =
    let a = seen-length r in
    let b = seen-length s in
    let c = ap length q in
    let d = length-append (table_of r) (step_entry r.context.trees x ∷ []) in
    omega (arith, l, a, b, c, d)

-- a full table of steps that were entered, of which there are so many before one that is named
pub assuming-stop : {ts : List Tree} {places : List ℕ} (n i : ℕ) (e : Stop) → n ≤ i → i < length places → IsNotingStop ts e ⊎ ((e ≡ EvaluatorLimit) × (most_goals ≤ n)) → IsAssumingStop ts places e
assuming-stop n i e l b (inl h) = assuming_looking h
assuming-stop {ts} {places} n i e l b (inr h) = let m = h.1 in subst (IsAssumingStop ts places) (sym h.0) (assuming_full (omega (arith, l, b, m)))

-- The goals of a table are those of steps.

none-of-steps : (ts : List Tree) (ss : List DerivationStep) (T : GoalTable Via) → T ≡ [] → AreOfSteps ts ss T
none-of-steps ts ss T q = record { among = λ e k. absurd (none-there e (subst (λ U. Contains U e) q k)) }

one-more-of-steps : (ts : List Tree) (ss : List DerivationStep) (T U : GoalTable Via) (n : ℕ) (x : DerivationStep) → slice_get ss n ≡ Some x → AreOfSteps ts ss T → (U ≡ T) ⊎ (U ≡ T ++ step_entry ts x ∷ []) → AreOfSteps ts ss U
one-more-of-steps ts ss T U n x g h (inl q) = subst (AreOfSteps ts ss) (sym q) h
one-more-of-steps ts ss T U n x g h (inr q) = subst (AreOfSteps ts ss) (sym q) (record { among = λ e k. at e (Contains-push_cases T (step_entry ts x) e k) })
  where
    at : (e : Entry Via) → Contains T e ⊎ (step_entry ts x ≡ e) → Contains (entries_of ts ss) e
    at e (inl k) = h.among e k
    at e (inr z) = subst (Contains (entries_of ts ss)) z (contains-step ts ss n x g)

-- Numbers have their trees still.
of-steps-later : (ts us : List Tree) → Extends ts us → (ss : List DerivationStep) → Each (IsStep ts) ss → (T : GoalTable Via) → AreOfSteps ts ss T → AreOfSteps us ss T
of-steps-later ts us x ss are T h = record { among = λ e k. subst (λ es. Contains es e) (sym (entries-see ts us x ss are)) (h.among e k) }

-- What is entered so far: no more than so many goals, of these steps.
pub record AssumedSoFar (r s : Evaluator) (ss : List DerivationStep) (n : ℕ) : Type 0 where
  pub entered : EnteredOf r s ss
  pub few : length s.goals.table ≤ n
  pub only : AreOfSteps r.context.trees ss (table_of s)

pub none-assumed-yet : (r s : Evaluator) (ss : List DerivationStep) → s ≡ record r { goals = no_goals } → StepsHold r.context (listing r) ss → AssumedSoFar r s ss 0
none-assumed-yet r s ss e h = record {
  entered = subst (λ (x : Evaluator). EnteredOf r x ss) (sym e) (none-entered-yet r ss h);
  few = none-many s (ap (λ (x : Evaluator). x.goals.table) e);
  only = none-of-steps r.context.trees ss (table_of s) (ap table_of e);
}

pub one-more-assumed : (r s t : Evaluator) (ss : List DerivationStep) (n i : ℕ) (x : DerivationStep) → slice_get ss n ≡ Some x → AssumedSoFar r s ss i → t ≡ record s { goals = t.goals } → t.goals.asked ≡ []
    → (table_of t ≡ table_of s) ⊎ (table_of t ≡ table_of s ++ step_entry s.context.trees x ∷ []) → AssumedSoFar r t ss (i + 1)
one-more-assumed r s t ss n i x g h e none either =
    let c = ap (λ (y : Evaluator). y.context) h.entered.same in
    record {
      entered = one-more-entered r s t ss n x g h.entered e none either;
      few = one-more-many s t x i h.few either;
      only = one-more-of-steps r.context.trees ss (table_of s) (table_of t) n x g h.only (subst (λ (y : Context). (table_of t ≡ table_of s) ⊎ (table_of t ≡ table_of s ++ step_entry y.trees x ∷ [])) c either);
    }

-- where the goals are put aside
pub stays-aside : (r m : Evaluator) → m ≡ record r { goals = no_goals } → StaysBesideTable r m
stays-aside r m e = subst (StaysBesideTable r) (sym e) (stays-with r r r.goals no_goals (stays-refl r))

-- with other goals, of the same table
pub only-same : (ts : List Tree) (ss : List DerivationStep) (a s : Evaluator) (g : Goals) → s ≡ record a { goals = g } → g.table ≡ a.goals.table → AreOfSteps ts ss (table_of a) → AreOfSteps ts ss (table_of s)
only-same ts ss a s g e q h = subst (AreOfSteps ts ss) (sym (ap table_of e ∙ ap (table_seen a.context.trees) q)) h

-- The candidates for a goal over what is entered weren't listed.
pub candidates-stop : {A : Type 0} (r s n : Evaluator) (ss : List DerivationStep) (places : List ℕ) (k : GoalKey) (a : Result A Stop) → s ≡ record r { goals = s.goals } → Each (IsStep r.context.trees) ss → IsTraitGoal r.context.trees k.goal
    → AreOfSteps r.context.trees ss (table_of s) → StaysBesideTable s n → IfErr a (IsKeyListStop n.context.trees s (table_of s) (key_seen s.context.trees k)) → IfErr a (IsStepStop n.context.trees r ss places (key_seen n.context.trees k))
candidates-stop r s n ss places k (Ok v) same are goal only stays h = tt
candidates-stop r s n ss places k (Err e) same are goal only stays h =
    let before : StaysBesideTable r s = goals-only r s same in
    let both : StaysBesideTable r n = stays-trans before stays in
    let here : key_seen s.context.trees k ≡ key_seen r.context.trees k = ap (λ (x : Evaluator). key_seen x.context.trees k) same in
    let later : key_seen n.context.trees k ≡ key_seen r.context.trees k = key-sees r.context.trees n.context.trees both.grows.kept k goal.goal in
    step_listing (table_of s) (of-steps-later r.context.trees n.context.trees both.grows.kept ss are (table_of s) only) (key-list-before before refl (here ∙ sym later) h)
