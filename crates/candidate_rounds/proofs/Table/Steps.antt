-- Derivations as data: goals are put aside, steps are entered, and candidates are listed over what is entered.
use Rattle.std.proofs.Common.{◌≡◌, false, ◌⊎◌, inl, inr, ◌+◌, ℕ, zero, suc, Option, Some, None, Result, Ok, Err, IfOk, IfSome, List, [], ◌∷◌, ◌++◌, map, take, slice_get, refl, sym, ◌∙◌, ap, subst, arith}
use Rattle.std.specs.List.{Contains}
use Rattle.std.proofs.lemmas.List.{map-append}
use Rattle.std.proofs.lemmas.List.Elements.{Contains-append_cases, Contains-append_left, Contains-append_right, Contains-push, Contains-push_cases}
use Rattle.ir_trees.specs.Declarations.Context.{Context, Grows, world}
use Rattle.ir_trees.specs.Declarations.References.{IsWellFormed}
use Rattle.ir_trees.specs.Syntax.Nodes.{Extends}
use Rattle.ir_trees.specs.Syntax.Trees.{Tree, holds}
use Rattle.ir_trees.specs.Validity.WellFormed.{IsWellFormedTable}
use Rattle.candidate_eval.specs.declared.eval.certainty.Certainty.TheVariants.{Yes}
use Rattle.candidate_eval.specs.declared.eval.response.Candidate.{Candidate as OfNumbers}
use Rattle.candidate_eval.specs.declared.eval.response.CanonicalResponse.{CanonicalResponse}
use Rattle.candidate_eval.specs.declared.eval.source.CandidateSource.{CandidateSource}
use Rattle.candidate_eval.specs.declared.eval.mode.TypingMode.{TypingMode}
use Rattle.candidate_eval.specs.Outcomes.Responses.{Candidate}
use Rattle.candidate_eval.specs.Outcomes.ResponseTrees.{AreCandidates, IsCopy, IsResponse, candidate_of, candidates_of, response_of}
use Rattle.ir_trees.specs.declared.ir.kinds.AliasTy.{AliasTy}
use Rattle.ir_trees.specs.declared.ir.stop.Stop.{Stop}
use Rattle.ir_trees.proofs.Growth.Kept.{grows-refl, grows-trans}
use Rattle.candidate_eval.specs.Derivations.ImplRules.{TraitGoal}
use Rattle.candidate_eval.specs.Judges.States.{State}
use Rattle.candidate_assembly.specs.declared.assembly.opaques.AssembleCandidatesFrom.TheVariants.{All}
use Rattle.candidate_assembly.specs.Answers.AssembledCalls.{IsAssembledAt}
use Rattle.candidate_assembly.specs.Answers.Listing.{Lists}
use Rattle.candidate_assembly.specs.Goals.TraitRules.{trait_bounds, trait_rules}
use Rattle.candidate_assembly.specs.Laws.Given.{IsCounted}
use Rattle.rounds_judge.specs.Aliases.Listed.{Listing}
use Rattle.rounds_judge.specs.Table.GoalTable.{Entry, GoalTable}
use Rattle.rounds_judge.specs.Table.Keys.{Key, newest_of, start_of}
use Rattle.rounds_judge.specs.Table.Verdicts as J
use Rattle.derivations.specs.Clean.{is_error_region}
use Rattle.derivations.specs.DerivedTables.{AreDerived, EachIsDerived, ListedAreClean, TableIsDerived, VerdictIsDerived}
use Rattle.derivations.proofs.Clean.{clean_without_errors}
use Rattle.derivations.proofs.Declared.{derived_parts, each_among, each_grown, each_parts, no_each, none_derived, of_each_parts}
use Rattle.candidate_rounds.specs.declared.rounds.derivation.DerivationStep.{DerivationStep}
use Rattle.candidate_rounds.specs.declared.rounds.goals.GoalKey.{GoalKey}
use Rattle.candidate_rounds.specs.declared.rounds.goals.Slot.{Slot}
use Rattle.candidate_rounds.specs.Calls.Starting.{started}
use Rattle.candidate_rounds.specs.Evaluators.Inferences.{Inference}
use Rattle.candidate_rounds.specs.Evaluators.Interface.{Fixed, fixed, judge_of}
use Rattle.candidate_rounds.specs.Evaluators.Known.{Evaluator, IsEvaluator, listing, state, table_of, NormalForms, listing_by}
use Rattle.candidate_rounds.specs.Table.Goals.{Each, Goals, IsKeyOf, IsTraitGoal, Via, entry_seen, key_seen, table_seen}
use Rattle.candidate_rounds.specs.Table.Running.{StaysBesideTable, with_table}
use Rattle.candidate_rounds.specs.Table.Steps.{AssemblesHere, HoldsBeside, IsListed, IsStep, IsSureBy, IsSureOfOne, StepsHold, SureHoldBeside, entries_of, no_goals, step_entry, yes_entry}
use Rattle.candidate_rounds.proofs.Evaluators.Between.{of-parts, parts}
use Rattle.candidate_rounds.proofs.Snapshots.Knowing.{each-get, each-imply, each-map}
use Rattle.candidate_rounds.proofs.Table.Running.{stays-refl}
use Rattle.candidate_rounds.proofs.Table.Computing.{back-stays, out-state, restore_state, suspend_state}
use Rattle.candidate_rounds.proofs.Table.Derived.{derived-beside, each-beside, listed-derived}
use Rattle.candidate_rounds.proofs.Table.Finding.{copy-is, copy-sees}
use Rattle.candidate_rounds.proofs.Table.KeysStand.{KeyFits, key-stands-there}
use Rattle.candidate_rounds.proofs.Table.Tabled.{key-sees, none_tabled, response-sees, response-stays, tabled-grown, tabled-sees, trait-goal-stays}

-- Goals are put aside, and are there again.

pub emptied : (c : Context) (s : Inference) (ks : List ℕ) (ns : NormalForms) (os : List AliasTy) (g : Goals) → IsWellFormedTable c → IsEvaluator c s ks ns os g → IsEvaluator c s ks ns os no_goals
emptied c s ks ns os g well h = of-parts (record {
  consistent = (parts h).consistent;
  resolved = (parts h).resolved;
  given = (parts h).given;
  tabled = none_tabled c.trees;
  derived = none_derived Via c (listing_by c.trees ns) well;
})

-- whatever goals there are meanwhile
pub stays-with : (r n : Evaluator) (g h : Goals) → StaysBesideTable (record r { goals = g }) n → StaysBesideTable r (record n { goals = h })
stays-with r n g h s = record { grows = s.grows; fixed_same = s.fixed_same; state_same = s.state_same; probes_same = s.probes_same; faults = s.faults }

pub stays-from : (r n : Evaluator) (g : Goals) → StaysBesideTable (record r { goals = g }) n → StaysBesideTable r n
stays-from r n g s = record { grows = s.grows; fixed_same = s.fixed_same; state_same = s.state_same; probes_same = s.probes_same; faults = s.faults }

module _ (r n : Evaluator) (h : IsEvaluator r.context r.inference r.marks r.normal r.opaques r.goals) (s : StaysBesideTable r n) where
  sees : table_seen n.context.trees r.goals.table ≡ table_of r
  sees = tabled-sees r.context.trees n.context.trees s.grows.kept r.goals (parts h).tabled

  pub goals-back : IsEvaluator n.context n.inference n.marks n.normal n.opaques n.goals → IsEvaluator n.context n.inference n.marks n.normal n.opaques r.goals
  goals-back i = of-parts (record {
    consistent = (parts i).consistent;
    resolved = (parts i).resolved;
    given = (parts i).given;
    tabled = tabled-grown r.context.trees n.context.trees s.grows.kept r.goals (parts h).tabled;
    derived = subst (TableIsDerived n.context (listing n)) (sym sees) (derived-beside r n s (table_of r) (parts h).derived);
  })

  pub table-back : table_of (record n { goals = r.goals }) ≡ table_of r
  table-back = sees

-- The list of a goal is that of its key, at the key's start.
module _ (r n : Evaluator) (s : Inference) (k : Key) (g : TraitGoal) (e : s ≡ started (newest_of k) k.variables) (q : g ≡ k.goal) where
  pub list-is : {A : Type 0} → IsWellFormedTable r.context → (items : A → List OfNumbers) (a : Result A Stop) → AssemblesHere (suspend_state r s) n g items a
      → IfOk a (λ v. IsListed r (table_of r) k (candidates_of n.context.trees (items v)))
  list-is well items (Err x) h = tt
  list-is well items (Ok v) h =
      let p = out-state r k s e in
      record {
        context = r.context;
        grows = grows-refl r.context;
        well_formed = well;
        left = state n;
        list =
            subst (λ (x : State × TraitGoal). IsAssembledAt trait_rules trait_bounds r.context (judge_of (with_table (fixed r) (table_of r))) x.0 x.1 All (state n) (Lists (candidates_of n.context.trees (items v))))
            (λ i. (p i, q i)) h.told.ok;
      }

  pub list-fits : {A : Type 0} (items : A → List OfNumbers) (a : Result A Stop) → AssemblesHere (suspend_state r s) n g items a → IfOk a (λ v. AreCandidates n.context.trees (items v))
  list-fits items (Err x) h = tt
  list-fits items (Ok v) h = h.told.fits

-- The same of the evaluator that is suspended, and restored after.
module _ {A : Type 0} (r m n : Evaluator) (s : Inference) (out : m ≡ suspend_state r s) (g : TraitGoal) (items : A → List OfNumbers) (a : Result A Stop) (h : AssemblesHere m n g items a) where
  pub when-suspended : AssemblesHere (suspend_state r s) n g items a
  when-suspended = subst (λ x. AssemblesHere x n g items a) out h

  pub list-grows : Grows r.context n.context
  list-grows = when-suspended.kept.grows

  pub list-stays : IsEvaluator r.context r.inference r.marks r.normal r.opaques r.goals → (t : Evaluator) → t ≡ restore_state r n → StaysBesideTable r t
  list-stays i t e = subst (StaysBesideTable r) (sym e) (back-stays r n s i when-suspended.kept)

-- A list is that of an evaluator before, of which all but the table stays.
pub listed-before : (r s : Evaluator) → StaysBesideTable r s → (T U : GoalTable Via) → T ≡ U → (k l : Key) → k ≡ l → (xs : List Candidate) → IsListed s T k xs → IsListed r U l xs
listed-before r s x T U t k l e xs h =
    let f : with_table (fixed s) T ≡ with_table (fixed r) U = λ i. with_table (x.fixed_same i) (t i) in
    let m : s.mode ≡ r.mode = ap (λ (S : State). S.mode) x.state_same in
    record {
      context = h.context;
      grows = grows-trans r.context s.context h.context x.grows h.grows;
      well_formed = h.well_formed;
      left = h.left;
      list =
          subst (λ (q : Fixed × TypingMode × Key). IsAssembledAt trait_rules trait_bounds h.context (judge_of q.0) (start_of q.1 q.2) q.2.goal All h.left (Lists xs)) (λ i. (f i, m i, e i)) h.list;
    }

-- Numbers have their trees still.

module _ (ts us : List Tree) (x : Extends ts us) where
  pub yes-sees : (k : GoalKey) (r : CanonicalResponse) → IsTraitGoal ts k.goal → IsResponse ts r → yes_entry us k r ≡ yes_entry ts k r
  yes-sees k r i j =
      let p = key-sees ts us x k i.goal in
      let q = response-sees ts us x r j in
      λ n. record { key = p n; verdict = Some (J.Yes (q n) None) }

  pub step-stays : (s : DerivationStep) → IsStep ts s → IsStep us s
  step-stays s i = record { goal = trait-goal-stays ts us x s.key.goal i.goal; response = response-stays ts us x s.response i.response }

  pub steps-stay : (ss : List DerivationStep) → Each (IsStep ts) ss → Each (IsStep us) ss
  steps-stay ss i = each-imply (IsStep ts) (IsStep us) ss step-stays i

  pub entries-see : (ss : List DerivationStep) → Each (IsStep ts) ss → entries_of us ss ≡ entries_of ts ss
  entries-see ss i = each-map (IsStep ts) (step_entry us) (step_entry ts) ss (λ s h. yes-sees s.key s.response h.goal h.response) i

-- Steps hold still, beside the table.
pub steps-beside : (r s : Evaluator) → StaysBesideTable r s → (ss : List DerivationStep) → StepsHold r.context (listing r) ss → StepsHold s.context (listing s) ss
steps-beside r s h ss k = record {
  are = steps-stay r.context.trees s.context.trees h.grows.kept ss k.are;
  derived = subst (EachIsDerived s.context (listing s)) (sym (entries-see r.context.trees s.context.trees h.grows.kept ss k.are)) (each-beside r s h (entries_of r.context.trees ss) k.derived);
}

pub beside-beside : (r s : Evaluator) → StaysBesideTable r s → (ss : List DerivationStep) (k : GoalKey) (x : CanonicalResponse) → Each (IsStep r.context.trees) ss → IsTraitGoal r.context.trees k.goal → IsResponse r.context.trees x
    → HoldsBeside r.context (listing r) ss k x → HoldsBeside s.context (listing s) ss k x
beside-beside r s h ss k x are goal response holds =
    let e = entries-see r.context.trees s.context.trees h.grows.kept ss are in
    let y = yes-sees r.context.trees s.context.trees h.grows.kept k x goal response in
    subst (EachIsDerived s.context (listing s)) (λ i. sym e i ++ sym y i ∷ []) (each-beside r s h (entries_of r.context.trees ss ++ yes_entry r.context.trees k x ∷ []) holds)

-- one more

pub each-take : {A : Type 0} (P : A → Type 0) (xs : List A) (n : ℕ) → Each P xs → Each P (take n xs)
each-take P xs zero h = tt
each-take P [] (suc n) h = tt
each-take P (x ∷ xs) (suc n) h = (h.0, each-take P xs n h.1)

pub take-more : {A : Type 0} (xs : List A) (n : ℕ) (x : A) → slice_get xs n ≡ Some x → take (n + 1) xs ≡ take n xs ++ x ∷ []
take-more [] n x e = absurd cc
take-more (y ∷ xs) zero x e = let q : y ≡ x = cc in ap (λ z. z ∷ []) q
take-more (y ∷ xs) (suc n) x e = let m : suc n + 1 ≡ suc (n + 1) = omega arith in ap (λ k. take k (y ∷ xs)) m ∙ ap (λ ys. y ∷ ys) (take-more xs n x e)

pub each-push : {A : Type 0} (P : A → Type 0) (xs : List A) (x : A) → Each P xs → P x → Each P (xs ++ x ∷ [])
each-push P [] x h p = (p, tt)
each-push P (y ∷ xs) x h p = (h.0, each-push P xs x h.1 p)

pub one-more-holds : (c : Context) (l : Listing) (ss : List DerivationStep) (s : DerivationStep) → Each (IsStep c.trees) ss → IsStep c.trees s → HoldsBeside c l ss s.key s.response → StepsHold c l (ss ++ s ∷ [])
one-more-holds c l ss s are i h = record {
  are = each-push (IsStep c.trees) ss s are i;
  derived = subst (EachIsDerived c l) (sym (map-append (step_entry c.trees) ss (s ∷ []))) h;
}

-- The steps are entered, or some of them are.

pub none-entered : (c : Context) (l : Listing) (ss : List DerivationStep) → StepsHold c l ss → EachIsDerived {W = Via} c l ([] ++ entries_of c.trees ss)
none-entered c l ss h = h.derived

pub contains-step : (ts : List Tree) (ss : List DerivationStep) (n : ℕ) (s : DerivationStep) → slice_get ss n ≡ Some s → Contains (entries_of ts ss) (step_entry ts s)
contains-step ts [] n s e = absurd cc
contains-step ts (y ∷ ss) zero s e = let q : y ≡ s = cc in subst (λ z. Contains (entries_of ts (y ∷ ss)) (step_entry ts z)) q (Contains-append_left (step_entry ts y ∷ []) (entries_of ts ss) (step_entry ts y) (Contains-push [] (step_entry ts y)))
contains-step ts (y ∷ ss) (suc n) s e = Contains-append_right (step_entry ts y ∷ []) (entries_of ts ss) (step_entry ts s) (contains-step ts ss n s e)

-- What is entered, and one of the steps more, is among what is entered and the steps.
pub may-enter : (c : Context) (l : Listing) (T : GoalTable Via) (ss : List DerivationStep) (n : ℕ) (s : DerivationStep) → slice_get ss n ≡ Some s → EachIsDerived c l (T ++ entries_of c.trees ss) → EachIsDerived c l (T ++ step_entry c.trees s ∷ [])
may-enter c l T ss n s g h = each_among c l (T ++ entries_of c.trees ss) (T ++ step_entry c.trees s ∷ []) among h
  where
    among : (e : Entry Via) → Contains (T ++ step_entry c.trees s ∷ []) e → Contains (T ++ entries_of c.trees ss) e
    among e there = at (Contains-push_cases T (step_entry c.trees s) e there)
      where
        at : Contains T e ⊎ (step_entry c.trees s ≡ e) → Contains (T ++ entries_of c.trees ss) e
        at (inl k) = Contains-append_left T (entries_of c.trees ss) e k
        at (inr q) = subst (Contains (T ++ entries_of c.trees ss)) q (Contains-append_right T (entries_of c.trees ss) (step_entry c.trees s) (contains-step c.trees ss n s g))

pub once-entered : (c : Context) (l : Listing) (T U : GoalTable Via) (ss : List DerivationStep) (n : ℕ) (s : DerivationStep) → slice_get ss n ≡ Some s → EachIsDerived c l (T ++ entries_of c.trees ss)
    → (U ≡ T) ⊎ (U ≡ T ++ step_entry c.trees s ∷ []) → EachIsDerived c l (U ++ entries_of c.trees ss)
once-entered c l T U ss n s g h (inl q) = subst (λ x. EachIsDerived c l (x ++ entries_of c.trees ss)) (sym q) h
once-entered c l T U ss n s g h (inr q) = subst (λ x. EachIsDerived c l (x ++ entries_of c.trees ss)) (sym q) (each_among c l (T ++ entries_of c.trees ss) ((T ++ step_entry c.trees s ∷ []) ++ entries_of c.trees ss) among h)
  where
    among : (e : Entry Via) → Contains ((T ++ step_entry c.trees s ∷ []) ++ entries_of c.trees ss) e → Contains (T ++ entries_of c.trees ss) e
    among e there = at (Contains-append_cases (T ++ step_entry c.trees s ∷ []) (entries_of c.trees ss) e there)
      where
        one : Contains T e ⊎ (step_entry c.trees s ≡ e) → Contains (T ++ entries_of c.trees ss) e
        one (inl k) = Contains-append_left T (entries_of c.trees ss) e k
        one (inr q) = subst (Contains (T ++ entries_of c.trees ss)) q (Contains-append_right T (entries_of c.trees ss) (step_entry c.trees s) (contains-step c.trees ss n s g))

        at : Contains (T ++ step_entry c.trees s ∷ []) e ⊎ Contains (entries_of c.trees ss) e → Contains (T ++ entries_of c.trees ss) e
        at (inl k) = one (Contains-push_cases T (step_entry c.trees s) e k)
        at (inr k) = Contains-append_right T (entries_of c.trees ss) e k

-- what stands at a place is there
pub got-there : {A : Type 0} (xs : List A) (i : ℕ) (x : A) → slice_get xs i ≡ Some x → Contains xs x
got-there [] i x e = absurd cc
got-there (y ∷ xs) zero x e = let q : y ≡ x = cc in subst (Contains (y ∷ xs)) q (Contains-append_left (y ∷ []) xs y (Contains-push [] y))
got-there (y ∷ xs) (suc i) x e = Contains-append_right (y ∷ []) xs x (got-there xs i x e)

pub none-there : {A : Type 0} (y : A) → Contains [] y → ⊥
none-there y k = let l = k.1 in absurd (omega (arith, l))

map-there : {A B : Type 0} (f : A → B) (z : A) (ys : List A) (y : A) → (Contains ys y → Contains (map f ys) (f y)) → Contains (z ∷ []) y ⊎ Contains ys y → Contains (f z ∷ map f ys) (f y)
map-there f z ys y rest (inr h) = Contains-append_right (f z ∷ []) (map f ys) (f y) (rest h)
map-there f z ys y rest (inl h) = head (Contains-push_cases [] z y h)
  where
    head : Contains [] y ⊎ (z ≡ y) → Contains (f z ∷ map f ys) (f y)
    head (inl k) = absurd (none-there y k)
    head (inr e) = subst (λ v. Contains (f z ∷ map f ys) (f v)) e (Contains-append_left (f z ∷ []) (map f ys) (f z) (Contains-push [] (f z)))

pub contains-map : {A B : Type 0} (f : A → B) (ys : List A) (y : A) → Contains ys y → Contains (map f ys) (f y)
contains-map f [] y k = absurd (none-there y k)
contains-map f (z ∷ ys) y k = map-there f z ys y (contains-map f ys y) (Contains-append_cases (z ∷ []) ys y k)

-- A sure candidate of the list over what is entered holds beside the steps.
pub sure-hold : (r s : Evaluator) → IsWellFormed r.context → IsCounted r.context → IsEvaluator r.context r.inference r.marks r.normal r.opaques r.goals → StaysBesideTable r s
    → (ss : List DerivationStep) → Each (IsStep r.context.trees) ss → EachIsDerived r.context (listing r) (table_of r ++ entries_of r.context.trees ss)
    → (k : GoalKey) → IsKeyOf r.context.trees k → holds is_error_region (key_seen r.context.trees k).goal.reference.arguments ≡ false
    → (xs : List OfNumbers) → IsListed r (table_of r) (key_seen r.context.trees k) (candidates_of s.context.trees xs) → SureHoldBeside s.context (listing s) ss k xs
sure-hold r s fit few h stays ss are derived k key without xs listed = λ x there sure.
    let T = table_of r in
    let E = entries_of r.context.trees ss in
    let a = response_of s.context.trees x.result in
    let p = each_parts r.context (listing r) (T ++ E) derived in
    let one : Entry Via = record { key = key_seen r.context.trees k; verdict = Some (J.Yes a None) } in
    let here : EachIsDerived r.context (listing r) (E ++ one ∷ []) = of_each_parts r.context (listing r) (E ++ one ∷ []) (record {
      declared = p.declared;
      grows = p.grows;
      well_formed = p.well_formed;
      holds = λ tidy e in_both. at p.declared p.well_formed p.grows tidy (p.holds tidy) x there sure e (Contains-push_cases E one e in_both);
    }) in
    let e = entries-see r.context.trees s.context.trees stays.grows.kept ss are in
    let q = key-sees r.context.trees s.context.trees stays.grows.kept k key.goal.goal in
    subst (EachIsDerived s.context (listing s)) (λ i. sym e i ++ record { key = sym q i; verdict = Some (J.Yes a None) } ∷ []) (each-beside r s stays (E ++ one ∷ []) here)
  where
    stands : KeyFits (world r.context) r.mode (key_seen r.context.trees k)
    stands = key-stands-there r.context fit r.mode k key

    at : (d : Context) → IsWellFormedTable d → Grows d r.context → ListedAreClean (listing r) → AreDerived d (listing r) (table_of r ++ entries_of r.context.trees ss) → (x : OfNumbers) → Contains xs x → x.result.certainty ≡ Yes
        → (e : Entry Via) → Contains (entries_of r.context.trees ss) e ⊎ (record { key = key_seen r.context.trees k; verdict = Some (J.Yes (response_of s.context.trees x.result) None) } ≡ e) → VerdictIsDerived d (listing r) e.key e.verdict
    at d well grows tidy all x there sure e (inl in_steps) = all e (Contains-append_right (table_of r) (entries_of r.context.trees ss) e in_steps)
    at d well grows tidy all x there sure e (inr is) =
        subst (λ (y : Entry Via). VerdictIsDerived d (listing r) y.key y.verdict) is
        (listed-derived r fit few (parts h).given d well grows tidy (table_of r) (λ y in_table. all y (Contains-append_left (table_of r) (entries_of r.context.trees ss) y in_table)) (key_seen r.context.trees k) (candidates_of s.context.trees xs)
        stands (clean_without_errors (key_seen r.context.trees k).goal.reference.arguments stands.stands.leaves without) listed (candidate_of s.context.trees x) (contains-map (candidate_of s.context.trees) xs x there) sure)

-- What one of the candidates says, the response says.
pub sure-of-one : (c : Context) (l : Listing) (ss : List DerivationStep) (k : GoalKey) (xs : List OfNumbers) (way : CandidateSource) (x : CanonicalResponse) → SureHoldBeside c l ss k xs → IsSureOfOne xs way x
    → HoldsBeside c l ss k x
sure-of-one c l ss k xs way x all one =
    let same : response_of c.trees x ≡ response_of c.trees one.candidate.result = copy-sees c.trees one.candidate.result x one.is.response in
    subst (λ a. EachIsDerived c l (entries_of c.trees ss ++ record { key = key_seen c.trees k; verdict = Some (J.Yes a None) } ∷ [])) (sym same) (all one.candidate one.listed one.is.sure)

-- the candidate of that place is by the source, is sure and has the response
pub sure-there : (xs : List OfNumbers) (i : ℕ) (x : OfNumbers) (way : CandidateSource) (r : CanonicalResponse) → slice_get xs i ≡ Some x → IsSureBy way r x → IsSureOfOne xs way r
sure-there xs i x way r e h = record { candidate = x; listed = got-there xs i x e; is = h }

-- A step with what it rests on said otherwise.
pub step-like : (ts : List Tree) (s t : DerivationStep) → t.key.goal ≡ s.key.goal → IsCopy s.response t.response → IsStep ts s → IsStep ts t
step-like ts s t e c i = record { goal = subst (IsTraitGoal ts) (sym e) i.goal; response = copy-is ts s.response t.response i.response c }

-- What a step says is entered as it says.
pub entry-like : (ts : List Tree) (s : DerivationStep) (k : GoalKey) (slot : Slot) → key_seen ts k ≡ key_seen ts s.key → entry_seen ts (k, slot) ≡ yes_entry ts k s.response → entry_seen ts (k, slot) ≡ step_entry ts s
entry-like ts s k slot same says = says ∙ (λ i. record { key = same i; verdict = Some (J.Yes (response_of ts s.response) None) })

pub entered-step : (r n : Evaluator) (s : DerivationStep) (k : GoalKey) (slot : Slot) → key_seen r.context.trees k ≡ key_seen r.context.trees s.key → entry_seen r.context.trees (k, slot) ≡ yes_entry r.context.trees k s.response
    → n ≡ record r { goals = record r.goals { table = r.goals.table ++ (k, slot) ∷ [] } } → table_of n ≡ table_of r ++ step_entry r.context.trees s ∷ []
entered-step r n s k slot same says e =
    let ts = r.context.trees in
    ap table_of e ∙ (map-append (entry_seen ts) r.goals.table ((k, slot) ∷ []) ∙ ap (λ x. table_of r ++ x ∷ []) (entry-like ts s k slot same says))

-- Loops.

-- What is entered so far, of steps that hold.
pub record EnteredOf (r s : Evaluator) (ss : List DerivationStep) : Type 0 where
  pub same : s ≡ record r { goals = s.goals }
  pub asked : s.goals.asked ≡ []
  pub derived : EachIsDerived s.context (listing s) (table_of s ++ entries_of s.context.trees ss)

pub none-entered-yet : (r : Evaluator) (ss : List DerivationStep) → StepsHold r.context (listing r) ss → EnteredOf r (record r { goals = no_goals }) ss
none-entered-yet r ss h = record { same = refl; asked = refl; derived = h.derived }

pub one-more-entered : (r s t : Evaluator) (ss : List DerivationStep) (n : ℕ) (x : DerivationStep) → slice_get ss n ≡ Some x → EnteredOf r s ss → t ≡ record s { goals = t.goals } → t.goals.asked ≡ []
    → (table_of t ≡ table_of s) ⊎ (table_of t ≡ table_of s ++ step_entry s.context.trees x ∷ []) → EnteredOf r t ss
one-more-entered r s t ss n x g h e none either =
    let c = ap (λ (y : Evaluator). y.context) e in
    let l = ap listing e in
    let d = once-entered s.context (listing s) (table_of s) (table_of t) ss n x g h.derived either in
    record {
      same = e ∙ ap (λ (y : Evaluator). record y { goals = t.goals }) h.same;
      asked = none;
      derived = subst (λ (q : Context × Listing). EachIsDerived q.0 q.1 (table_of t ++ entries_of q.0.trees ss)) (λ i. (sym c i, sym l i)) d;
    }

-- of an evaluator with other goals
pub goals-only : (r s : Evaluator) → s ≡ record r { goals = s.goals } → StaysBesideTable r s
goals-only r s e = subst (StaysBesideTable r) (sym e) (stays-with r r r.goals s.goals (stays-refl r))

pub entered-stays : (r s : Evaluator) (ss : List DerivationStep) → EnteredOf r s ss → StaysBesideTable r s
entered-stays r s ss h = goals-only r s h.same

-- So many steps hold, beside the table.
pub record HoldSoFar (r s : Evaluator) (ss : List DerivationStep) (n : ℕ) : Type 0 where
  pub stays : StaysBesideTable r s
  pub are : Each (IsStep s.context.trees) ss
  pub hold : StepsHold s.context (listing s) (take n ss)

pub kept-push : (ss us : List DerivationStep) (s t : DerivationStep) (i : ℕ) → slice_get ss i ≡ Some s → ((ts : List Tree) → IsStep ts s → IsStep ts t) → ((ts : List Tree) → Each (IsStep ts) ss → Each (IsStep ts) us)
    → (ts : List Tree) → Each (IsStep ts) ss → Each (IsStep ts) (us ++ t ∷ [])
kept-push ss us s t i g one all ts h = each-push (IsStep ts) us t (all ts h) (one ts (each-get (IsStep ts) ss i s h g))

-- no steps
pub none-hold : (r : Evaluator) → IsEvaluator r.context r.inference r.marks r.normal r.opaques r.goals → StepsHold r.context (listing r) []
none-hold r h =
    let p = derived_parts r.context (listing r) (table_of r) (parts h).derived in
    record { are = tt; derived = each_grown p.declared r.context p.grows (listing r) [] (no_each Via p.declared (listing r) p.well_formed) }

pub none-sure : (c : Context) (l : Listing) (ss : List DerivationStep) (k : GoalKey) (xs : List OfNumbers) → xs ≡ [] → SureHoldBeside c l ss k xs
none-sure c l ss k xs e x there sure = absurd (none-there x (subst (λ ys. Contains ys x) e there))

-- what is answered
pub got-ok : {A : Type 0} (a : Result A Stop) (v : A) → a ≡ Ok v → (P : A → Type 0) → IfOk a P → P v
got-ok a v e P h = subst (λ x. IfOk x P) e h

-- A step that is made of a key and a response.
pub step-made : (c : Context) (l : Listing) (ss : List DerivationStep) (k : GoalKey) (x : CanonicalResponse) (s : DerivationStep) → s.key.goal ≡ k.goal → ((ts : List Tree) → key_seen ts s.key ≡ key_seen ts k) → IsCopy x s.response
    → Each (IsStep c.trees) ss → IsTraitGoal c.trees k.goal → IsResponse c.trees x → HoldsBeside c l ss k x → StepsHold c l (ss ++ s ∷ [])
step-made c l ss k x s goal key copy are i j h =
    let same : yes_entry c.trees s.key s.response ≡ yes_entry c.trees k x = λ n. record { key = key c.trees n; verdict = Some (J.Yes (copy-sees c.trees x s.response copy n) None) } in
    one-more-holds c l ss s are (record { goal = subst (IsTraitGoal c.trees) (sym goal) i; response = copy-is c.trees x s.response j copy })
    (subst (λ e. EachIsDerived c l (entries_of c.trees ss ++ e ∷ [])) (sym same) h)

pub goals-also : (r a s : Evaluator) (g : Goals) → a ≡ record r { goals = a.goals } → s ≡ record a { goals = g } → s ≡ record r { goals = s.goals }
goals-also r a s g e f =
    let q : s.goals ≡ g = ap (λ (x : Evaluator). x.goals) f in
    f ∙ (ap (λ (x : Evaluator). record x { goals = g }) e ∙ (λ i. record r { goals = sym q i }))

-- the last step, and the same with what it rests on said otherwise

pub each-last : {A : Type 0} (P : A → Type 0) (xs : List A) (x : A) → Each P (xs ++ x ∷ []) → P x
each-last P [] x h = h.0
each-last P (y ∷ xs) x h = each-last P xs x h.1

pub each-before : {A : Type 0} (P : A → Type 0) (xs : List A) (x : A) → Each P (xs ++ x ∷ []) → Each P xs
each-before P [] x h = tt
each-before P (y ∷ xs) x h = (h.0, each-before P xs x h.1)

pub renested : (c : Context) (l : Listing) (ss : List DerivationStep) (s t : DerivationStep) → t.key ≡ s.key → t.response ≡ s.response → StepsHold c l (ss ++ s ∷ []) → StepsHold c l (ss ++ t ∷ [])
renested c l ss s t k x h =
    let last = each-last (IsStep c.trees) ss s h.are in
    let same : step_entry c.trees s ≡ step_entry c.trees t = λ i. yes_entry c.trees (sym k i) (sym x i) in
    let entries : entries_of c.trees (ss ++ s ∷ []) ≡ entries_of c.trees (ss ++ t ∷ []) =
    map-append (step_entry c.trees) ss (s ∷ []) ∙ (ap (λ e. entries_of c.trees ss ++ e ∷ []) same ∙ sym (map-append (step_entry c.trees) ss (t ∷ []))) in
    record {
      are = each-push (IsStep c.trees) ss t (each-before (IsStep c.trees) ss s h.are) (record { goal = subst (λ (q : GoalKey). IsTraitGoal c.trees q.goal) (sym k) last.goal; response = subst (IsResponse c.trees) (sym x) last.response });
      derived = subst (EachIsDerived c l) entries h.derived;
    }

-- A search that goes on: what is there stays beside the table, and the steps that were found hold.
pub record Searching (r s : Evaluator) (ss : List DerivationStep) : Type 0 where
  pub stays : StaysBesideTable r s
  pub holds : StepsHold s.context (listing s) ss

pub got-some : {A : Type 0} (o : Option A) (v : A) → o ≡ Some v → (P : A → Type 0) → IfSome o P → P v
got-some o v e P h = subst (λ x. IfSome x P) e h
