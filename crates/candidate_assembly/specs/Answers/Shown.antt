-- What calls over any evaluator say, by all that it shows (`E.EvalCtxt`): of the evaluator that they are given, and of the one that they leave.
use Rattle.std.specs.Prelude.{◌≡◌, ◌∷◌, ℕ, Bool, List, Option, Result}
use Rattle.std.specs.Borrow.{MutBor}
use Rattle.std.specs.Fn.{Once}
use Rattle.ir_trees.specs.declared.decl.contents.ImplId.{ImplId}
use Rattle.ir_trees.specs.declared.ir.kinds.Binder.{Binder}
use Rattle.ir_trees.specs.declared.ir.kinds.ParamEnv.{ParamEnv}
use Rattle.ir_trees.specs.declared.ir.kinds.TraitRef.{TraitRef}
use Rattle.ir_trees.specs.declared.ir.kinds.Ty.{Ty}
use Rattle.ir_trees.specs.declared.ir.stop.Stop.{Stop}
use Rattle.ir_trees.specs.Syntax.Trees.{Forest, Tree}
use Rattle.candidate_eval.specs.declared.eval.certainty.Certainty.{Certainty}
use Rattle.candidate_eval.specs.declared.eval.refusal.NoSolutionOrStop.{NoSolutionOrStop}
use Rattle.candidate_eval.specs.declared.eval.response.Candidate.{Candidate as OfNumbers}
use Rattle.candidate_eval.specs.declared.eval.response.CanonicalResponse.{CanonicalResponse}
use Rattle.candidate_eval.specs.declared.eval.source.CandidateSource.{CandidateSource}
use Rattle.candidate_eval.specs.declared.eval.source.CandidateSource.TheVariants as Source
use Rattle.candidate_eval.specs.Derivations.Characterization.{Walk, characterization}
use Rattle.candidate_eval.specs.Derivations.ImplRules.{TraitGoal}
use Rattle.candidate_eval.specs.Derivations.Judging.{Judged, Reached, judged}
use Rattle.candidate_eval.specs.Derivations.Rules.{Rule}
use Rattle.candidate_eval.specs.Interface.Evaluators.{PutsOffIfOk}
use Rattle.candidate_eval.specs.Interface.Shown.{Shown, View, view}
use Rattle.candidate_eval.specs.Judges.States.{Env, State}
use Rattle.candidate_eval.specs.Outcomes.Responses.{Candidate, Response}
use Rattle.candidate_assembly.specs.declared.assembly.opaques.AssembleCandidatesFrom.{AssembleCandidatesFrom}
use Rattle.candidate_assembly.specs.declared.assembly.opaques.AssembleCandidatesFrom.TheVariants.{EnvAndBounds}
use Rattle.candidate_assembly.specs.declared.assembly.characterize.Parts.{Parts}
use Rattle.candidate_assembly.specs.declared.assembly.characterize.Visited.{Visited}
use Rattle.candidate_assembly.specs.declared.assembly.merging.TraitGoalProvenVia.{TraitGoalProvenVia}
use Rattle.candidate_assembly.specs.Answers.Closures as closures
use Rattle.candidate_assembly.specs.Answers.Listing as listing
use Rattle.candidate_assembly.specs.Answers.Listing.{Listed, after_these, answers}
use Rattle.candidate_assembly.specs.Answers.MergedKinds as merged
use Rattle.candidate_assembly.specs.Answers.Preference as preference
use Rattle.candidate_assembly.specs.Answers.Preference.{Proved}
use Rattle.candidate_assembly.specs.Answers.Telling as telling
use Rattle.candidate_assembly.specs.Answers.TraitAnswers as trait_answers
use Rattle.candidate_assembly.specs.Calls.AliasChains as alias_chains
use Rattle.candidate_assembly.specs.Answers.AssembledCalls as assembled_calls
use Rattle.candidate_assembly.specs.Calls.Assembling as assembling
use Rattle.candidate_assembly.specs.Calls.Characterizing as characterizing
use Rattle.candidate_assembly.specs.Answers.ObjectAnswers as object_answers
use Rattle.candidate_assembly.specs.Calls.ObjectCalls as object_calls
use Rattle.candidate_assembly.specs.Goals.KindShown.{Kind, impl_applies, impl_certainty, impl_reached, matched}
use Rattle.candidate_assembly.specs.Goals.Kinds.{passes, self_type}
use Rattle.candidate_assembly.specs.Rules.AliasBounds.{ChainEnd, end_answers}
use Rattle.candidate_assembly.specs.Rules.AliasFaults.{ChainEnds, PutsOffAtEnd, PutsOffOnce, faults_at}
use Rattle.candidate_assembly.specs.Rules.ObjectBounds.{OwnClause}
use Rattle.ir_trees.specs.declared.ir.kinds.Clause.{Clause}
use Rattle.ir_trees.specs.Syntax.Words.{clause_tree, env_forest}

-- what a closure over the evaluator answers
abbrev pub Asked : Type 0 → Type 0 → Type 0 → Type 1
Asked E F R = Once F (MutBor E × Unit {0}) (R × (MutBor E × Unit {0}))

-- the same of one that is given a value besides
abbrev pub AskedWith : Type 0 → Type 0 → Type 0 → Type 0 → Type 1
AskedWith E F A R = Once F (MutBor E × (A × Unit {0})) (R × (MutBor E × Unit {0}))

-- A response, or none.
abbrev pub Responded : Type 0
Responded = Result CanonicalResponse NoSolutionOrStop

-- The walk that characterises a clause of the environment, where an evaluator stands.
abbrev pub characterized : View → ParamEnv → Clause → Walk
characterized V env x = characterization V.judge (env_forest V.trees env) V.state (clause_tree V.trees x)

-- What depends on the state or on the context of the evaluator that is given is a function of what is seen of it (`View`).
module _ {E : Type 0} (v : Shown E) where
  -- One rule.

  -- why a call stopped, if that is a stop of its own
  abbrev pub StopsOfItself : E → E → Stop → Type 0
  StopsOfItself = telling.StopsOfItself v.fixed v.context v.state v.stops

  -- a call considers a rule
  abbrev pub Considers : E → E → (View → Rule) → Result OfNumbers NoSolutionOrStop → Type 0
  Considers old new rule = telling.Considers v.fixed v.judge v.state v.probes v.context v.stops old new (rule (view v old))

  -- the same in a probe that is open: of what is left nothing is said
  abbrev pub TellsRule : E → E → (View → Rule) → Result OfNumbers NoSolutionOrStop → Type 0
  TellsRule old new rule answer = telling.Told (v.context new).trees answer (judged (v.judge (v.fixed old)) (v.state old) (rule (view v old)))

  -- the same where what is judged is known by a relation
  abbrev pub ConsidersSome : E → E → (View → Judged → Type 0) → Result OfNumbers NoSolutionOrStop → Type 0
  ConsidersSome old new R = telling.ConsidersSome v.fixed v.judge v.state v.probes v.context v.stops old new (R (view v old))

  -- a clause of the environment is characterised
  abbrev pub Walks : E → E → (View → Walk) → Result (Option Certainty) NoSolutionOrStop → Type 0
  Walks old new walk = characterizing.Walks v.fixed v.probes v.context v.state v.stops old new (walk (view v old))

  -- a part of it is visited, up to what stands below it
  abbrev pub Leads : Env → ℕ → E → E → (View → Walk) → Result Visited NoSolutionOrStop → Type 0
  Leads e bound old new walk = characterizing.Leads v.fixed v.probes v.context v.state v.stops v.judge e bound old new (walk (view v old))

  abbrev pub ArePartsHere : E → Parts → Type 0
  ArePartsHere now = characterizing.AreParts (v.judge (v.fixed now)) (v.context now).trees

  -- what is asked of an object, in a probe that is open
  abbrev pub AsksOfObject : E → E → Bool → Env → Binder TraitRef → Forest → CandidateSource → Result OfNumbers NoSolutionOrStop → Type 0
  AsksOfObject = object_calls.AsksOfObject v.fixed v.judge v.state v.probes v.context v.stops

  -- Lists of candidates.

  -- a list by a relation, and the state that is left alike
  abbrev pub ConsidersAll : {A : Type 0} → E → E → State → (A → List OfNumbers) → (Listed → Type 0) → Result A Stop → Type 0
  ConsidersAll = listing.ConsidersAll v.fixed v.judge v.state v.probes v.context v.stops

  -- the same where faults are put off so
  abbrev pub ConsidersAllBut : {A : Type 0} → (List (List ℕ) → List (List ℕ) → Type 0) → E → E → State → (A → List OfNumbers) → (Listed → Type 0) → Result A Stop → Type 0
  ConsidersAllBut PutsOff = listing.ConsidersAllBut PutsOff v.fixed v.judge v.state v.probes v.context v.stops

  -- candidates that are there are followed by others: a relation of the whole list
  abbrev pub AppendsSome : {A : Type 0} → E → E → List OfNumbers → (View → Listed → Type 0) → Result A Stop → Type 0
  AppendsSome old new after R = ConsidersAll old new (v.state old) (λ _. after) (R (view v old))

  -- they are followed by these answers
  abbrev pub AppendsAnswers : {A : Type 0} → E → E → List OfNumbers → List OfNumbers → (View → Listed) → Result A Stop → Type 0
  AppendsAnswers old new before after others = AppendsSome old new after (λ V l. l ≡ after_these V.trees before (others V))

  -- they are followed by the answers to these rules
  abbrev pub Appends : {A : Type 0} → E → E → List OfNumbers → List OfNumbers → (View → List Rule) → Result A Stop → Type 0
  Appends old new before after rules = AppendsAnswers old new before after (λ V. answers V.judge V.state (rules V))

  -- a new list: a relation of it
  abbrev pub ListsSome : {A : Type 0} → E → E → (A → List OfNumbers) → (View → Listed → Type 0) → Result A Stop → Type 0
  ListsSome old new items R = ConsidersAll old new (v.state old) items (R (view v old))

  -- a new list of the answers to these rules
  abbrev pub ListsRules : {A : Type 0} → E → E → (A → List OfNumbers) → (View → List Rule) → Result A Stop → Type 0
  ListsRules old new items rules = ListsSome old new items (λ V l. l ≡ answers V.judge V.state (rules V))

  -- the same where the fault of a chain's end may be put off
  abbrev pub ListsChained : {A : Type 0} → E → E → (View → ChainEnd → Type 0) → (A → List OfNumbers) → (View → Listed → Type 0) → Result A Stop → Type 0
  ListsChained old new ends items R = let V = view v old in ConsidersAllBut (PutsOffOnce (ends V)) old new V.state items (R V)

  -- where a chain of aliases goes on
  abbrev pub Continues : E → E → Env → Tree → Result (Option Ty) Stop → Type 0
  Continues = alias_chains.Continues v.fixed v.judge v.state v.probes v.context v.stops

  -- What a goal of a trait comes to.

  -- the merge of the candidates that win
  abbrev pub Proves : E → E → (View → Option Proved) → Result (CanonicalResponse × Option TraitGoalProvenVia) NoSolutionOrStop → Type 0
  Proves old new answer = preference.Proves v.fixed v.judge v.state v.probes v.context v.stops old new (answer (view v old))

  -- the answer to the goal
  abbrev pub Computes : E → E → TraitGoal → Result (CanonicalResponse × Option TraitGoalProvenVia) NoSolutionOrStop → Type 0
  Computes = trait_answers.Computes v.fixed v.judge v.state v.probes v.context v.stops

  -- the response of what candidates come to
  abbrev pub Answers : E → E → (View → Option Response) → Responded → Type 0
  Answers old new answer = merged.Answers v.fixed v.judge v.state v.probes v.context v.stops old new (answer (view v old))

  -- the response that the goal is ambiguous
  abbrev pub IsUnproved : E → E → Env → Responded → Type 0
  IsUnproved = merged.IsUnproved v.fixed v.judge v.state v.probes v.context v.stops

  -- what all candidates come to
  abbrev pub AfterAll : E → List Candidate → Responded → E → Type 0
  AfterAll = merged.AfterAll v.fixed v.judge v.state v.probes v.context v.stops

-- Kinds of goals.

module _ {E P : Type 0} (v : Shown E) (k : Kind P) where
  -- the goal as its rules see it
  abbrev pub goal_of : E → ParamEnv → P → k.Seen
  goal_of x = k.seen (v.context x).trees

  -- a clause of a `dyn` type, in a probe that is open
  abbrev pub TellsObject : E → E → ParamEnv → P → OwnClause → Result OfNumbers NoSolutionOrStop → Type 0
  TellsObject old new env p = object_answers.TellsObject v.fixed v.judge v.state v.probes v.context v.stops k.rules old new (goal_of old env p)

  -- the same in a probe of its own
  abbrev pub ConsidersObject : E → E → ParamEnv → P → OwnClause → Result OfNumbers NoSolutionOrStop → Type 0
  ConsidersObject old new env p =
      object_answers.ConsidersObject v.fixed v.judge v.state v.probes v.context v.stops k.rules old new (goal_of old env p)

  -- candidates that are there are followed by what a chain's end gives; what is put off there is
  abbrev pub EndsChain : {A : Type 0} → E → E → List OfNumbers → List OfNumbers → ParamEnv → P → ChainEnd → Result A Stop → Type 0
  EndsChain old new before after env p end result =
      let V = view v old in
      ConsidersAllBut v (PutsOffIfOk (faults_at end) result) old new V.state (λ _. after) (λ l. l ≡ after_these V.trees before (end_answers k.rules V.judge (goal_of old env p) end)) result

  -- candidates that are there are followed by those by the whole chain: what its end puts off is
  abbrev pub AppendsChain : {A : Type 0} → E → E → ParamEnv → P → List OfNumbers → (View → Listed → Type 0) → Result A Stop → Type 0
  AppendsChain old new env p after R result =
      let V = view v old in
      ConsidersAllBut v (PutsOffAtEnd (ChainEnds k.rules V.judge V.context (goal_of old env p) V.state) result) old new V.state (λ _. after) (R V) result

  -- the whole list of a goal
  abbrev pub Assembles : {A : Type 0} → E → E → ParamEnv → P → AssembleCandidatesFrom → (A → List OfNumbers) → Result A Stop → Type 0
  Assembles old new env p =
      assembled_calls.Assembles v.fixed v.judge v.state v.probes v.context v.stops k.rules k.bounds old new (goal_of old env p)

  -- what the list comes to
  abbrev pub AfterList : E → ParamEnv → P → AssembleCandidatesFrom → (E → List Candidate → Responded → E → Type 0) → Responded → E → Type 0
  AfterList old env p = merged.AfterList v.fixed v.judge v.state v.probes v.context v.stops k.rules k.bounds old (goal_of old env p)

  -- all candidates but for what is unknowable, as each earlier context has them
  abbrev pub ListsKnown : {A : Type 0} → E → E → ParamEnv → P → AssembleCandidatesFrom → (A → List OfNumbers) → Result A Stop → Type 0
  ListsKnown = assembling.ListsKnown v.fixed v.judge v.state v.probes v.context v.stops k.rules k.bounds k.seen

  -- the candidates by a chain of aliases, as each earlier context has them
  abbrev pub WalksChain : {A : Type 0} → E → E → ParamEnv → P → List OfNumbers → List OfNumbers → Result A Stop → Type 0
  WalksChain = alias_chains.WalksChain v.fixed v.judge v.state v.probes v.context v.stops k.rules k.bounds k.seen

-- Closures over the evaluator.

module _ {E F R : Type 0} (v : Shown E) (g : Asked E F R) (f : F) where
  -- it may be called at the evaluator, and keeps what that has
  abbrev pub KeepsHere : E → Type 0
  KeepsHere first = merged.KeepsWhere v.fixed v.probes v.context g f first (λ x. x ≡ first)

  -- it may be called at each evaluator that keeps what the first one has, at a state that listing a goal's candidates may leave, and keeps
  -- it then
  abbrev pub KeepsAfterList : {P : Type 0} → Kind P → E → ParamEnv → P → Type 0
  KeepsAfterList k first env p =
      let V = view v first in let d = k.seen V.trees env p in
      merged.KeepsWhere v.fixed v.probes v.context g f first (λ x. assembled_calls.IsLeftAlike V.judge V.state (k.rules.env_of d) (self_type k.rules V.context d) (v.state x))

module _ {E F R : Type 0} (v : Shown E) (g : Asked E F (Result R NoSolutionOrStop)) (f : F) where
  -- the same of one whose answer may be a refusal or a stop
  abbrev pub IsCallable : E → Type 0
  IsCallable = closures.IsCallable v.fixed v.state v.probes v.context v.stops g f

  -- what comes of steps and of the closure then
  abbrev pub After : E → Reached → Result R NoSolutionOrStop → E → Type 0
  After = closures.After v.fixed v.state v.probes v.context v.stops g f

module _ {E F A : Type 0} (v : Shown E) (g : AskedWith E F A Responded) (f : F) where
  -- it may be called with each value where these probes are open
  abbrev pub IsCallableWith : E → List State → Type 0
  IsCallableWith = closures.IsCallableWith v.fixed v.state v.probes v.context v.stops g f

  -- given that value, it answers at each state what is said
  abbrev pub TellsWith : E → List State → A → (State → Option Response) → Type 0
  TellsWith = closures.TellsWith v.fixed v.state v.probes v.context v.stops g f

  -- what comes of steps and of the closure then
  abbrev pub AfterWith : E → A → Reached → Responded → E → Type 0
  AfterWith = closures.AfterWith v.fixed v.state v.probes v.context v.stops g f

  -- what comes of a rule, if it applies, whose steps are run in a probe and where the closure is called then
  abbrev pub TriedWith : E → (View → Bool) → (View → A) → (View → Reached) → CandidateSource → Result OfNumbers NoSolutionOrStop → E → Type 0
  TriedWith old applies a reached source =
      let V = view v old in closures.InProbe v.fixed v.state v.probes v.context v.stops (applies V) (λ x. AfterWith x (a V) (reached V)) source old

  -- where it does so in a probe that is opened, the answer is judged by what it says
  abbrev pub TellsOfWith : E → E → (View → A) → Result OfNumbers NoSolutionOrStop → (View → (State → Option Response) → Judged) → Type 0
  TellsOfWith old new a answer judged =
      let V = view v old in (says : State → Option Response) → TellsWith old (V.state ∷ V.probes) (a V) says
      → telling.Told (v.context new).trees answer (judged V says)

  -- the same of a response that a source has, in a probe that is open
  abbrev pub TellsOfSource : E → E → A → CandidateSource → Responded → (View → (State → Option Response) → Judged) → Type 0
  TellsOfSource old new a source answer judged =
      let V = view v old in (says : State → Option Response) → TellsWith old V.probes a says
      → telling.ToldAs (v.context new).trees source answer (judged V says)

module _ {E F : Type 0} (v : Shown E) (g : Asked E F Responded) (f : F) where
  -- the same of a closure that is given no value
  abbrev pub IsCallableIn : E → List State → Type 0
  IsCallableIn = closures.IsCallableIn v.fixed v.state v.probes v.context v.stops g f

  abbrev pub TellsIn : E → List State → (State → Option Response) → Type 0
  TellsIn = closures.TellsIn v.fixed v.state v.probes v.context v.stops g f

  abbrev pub Tried : E → (View → Bool) → (View → Reached) → CandidateSource → Result OfNumbers NoSolutionOrStop → E → Type 0
  Tried old applies reached source =
      let V = view v old in
      closures.InProbe v.fixed v.state v.probes v.context v.stops (applies V) (λ x. closures.After v.fixed v.state v.probes v.context v.stops g f x (reached V)) source old

  abbrev pub TellsOf : E → E → Result OfNumbers NoSolutionOrStop → (View → (State → Option Response) → Judged) → Type 0
  TellsOf old new answer judged =
      let V = view v old in (says : State → Option Response) → TellsIn old (V.state ∷ V.probes) says
      → telling.Told (v.context new).trees answer (judged V says)

-- Closures over the evaluator, and rules of a kind of goals.

module _ {E F P : Type 0} (v : Shown E) (g : AskedWith E F Certainty Responded) (f : F) (k : Kind P) where
  -- what comes of the rule of an impl, where the closure is given the certainty that the impl gives
  abbrev pub TriesImpl : E → ParamEnv → P → ImplId → Result OfNumbers NoSolutionOrStop → E → Type 0
  TriesImpl old env p n =
      TriedWith v g f old (λ V. impl_applies k V env p n) (λ V. impl_certainty k V env p n) (λ V. impl_reached k V env p n) (Source.Impl n)

module _ {E F P : Type 0} (v : Shown E) (g : Asked E F Responded) (f : F) (k : Kind P) where
  -- what comes of the rule of a clause that is matched
  abbrev pub TriesClause : E → ParamEnv → P → CandidateSource → Clause → Result OfNumbers NoSolutionOrStop → E → Type 0
  TriesClause old env p source x =
      Tried v g f old (λ V. passes k.rules V.context (k.seen V.trees env p) (clause_tree V.trees x)) (λ V. matched k V env p x) source

module _ {E A B : Type 0} (v : Shown E) (g : Asked E A (Option Responded)) (ambiguity : A) (h : Asked E B Responded) (rigid : B) where
  -- what candidates by clauses of the environment and by bounds come to, with both closures
  abbrev pub AfterAssumptions : E → List Candidate → Responded → E → Type 0
  AfterAssumptions = merged.AfterAssumptions v.fixed v.judge v.state v.probes v.context v.stops g ambiguity h rigid

  module _ {P : Type 0} (k : Kind P) where
    -- the answer to a goal by such candidates
    abbrev pub AnswersByAssumptions : E → ParamEnv → P → Responded → E → Type 0
    AnswersByAssumptions old env p = AfterList v k old env p EnvAndBounds AfterAssumptions

    -- the answer to a goal, by how the goal of its trait was proved
    abbrev pub IsAnsweredBy : E → ParamEnv → P → Option TraitGoalProvenVia → Responded → E → Type 0
    IsAnsweredBy old env p =
        merged.IsAnsweredBy v.fixed v.judge v.state v.probes v.context v.stops g ambiguity h rigid k.rules k.bounds old (goal_of v k old env p)
