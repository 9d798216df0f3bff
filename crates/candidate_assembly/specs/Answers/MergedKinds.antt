-- How a goal that isn't of a trait is answered, once it is known how the goal of its trait was proved.
use Rattle.std.specs.Prelude.{◌≡◌, ◌≢◌, true, Option, Some, None, List, [], ◌∷◌, Result, Ok, Err, IfOk, IfErr, if◌then◌else◌}
use Rattle.std.specs.Fn.{Once, FnOnceReturnsAtMut, FnOnceTakesAtMut}
use Rattle.std.specs.Borrow.{MutBor}
use Rattle.ir_trees.specs.Declarations.Context.{Context}
use Rattle.ir_trees.specs.declared.ir.stop.Stop.{Stop}
use Rattle.candidate_eval.specs.declared.eval.refusal.NoSolutionOrStop.{NoSolutionOrStop}
use Rattle.candidate_eval.specs.declared.eval.refusal.NoSolutionOrStop.TheVariants as N
use Rattle.candidate_eval.specs.declared.eval.response.Candidate.{Candidate as OfNumbers}
use Rattle.candidate_eval.specs.declared.eval.response.CanonicalResponse.{CanonicalResponse}
use Rattle.candidate_eval.specs.Interface.Accounts.{Account, StopsSomehow, by_stop}
use Rattle.candidate_eval.specs.Outcomes.Certainties.{AMBIGUOUS}
use Rattle.candidate_eval.specs.Interface.Evaluators.{Keeps, KeepsBut}
use Rattle.candidate_eval.specs.Outcomes.Merging.{Merge, merged}
use Rattle.candidate_eval.specs.Outcomes.ResponseTrees.{IsResponse, response_of}
use Rattle.candidate_eval.specs.Outcomes.Responses.{Candidate, Response}
use Rattle.candidate_eval.specs.Judges.States.{Env, Judge, State, with_pending}
use Rattle.candidate_assembly.specs.declared.assembly.opaques.AssembleCandidatesFrom.{AssembleCandidatesFrom}
use Rattle.candidate_assembly.specs.declared.assembly.opaques.AssembleCandidatesFrom.TheVariants.{All, EnvAndBounds}
use Rattle.candidate_assembly.specs.declared.assembly.specialization.AllowInferenceConstraints.TheVariants as Allow
use Rattle.candidate_assembly.specs.declared.assembly.merging.TraitGoalProvenVia.{TraitGoalProvenVia}
use Rattle.candidate_assembly.specs.declared.assembly.merging.TraitGoalProvenVia.TheVariants as Via
use Rattle.candidate_assembly.specs.Answers.Assembled.{has_where_bound, is_of_environment}
use Rattle.candidate_assembly.specs.Answers.AssembledCalls.{Assembles, IsAssembledAt, NormalChainEnds}
use Rattle.candidate_assembly.specs.Goals.KindBounds.{KindBounds}
use Rattle.candidate_assembly.specs.Rules.AliasFaults.{PutsOffAny, PutsOffOnce}
use Rattle.candidate_assembly.specs.Goals.Kinds.{KindRules}
use Rattle.candidate_assembly.specs.Answers.Listing.{Lists}
use Rattle.candidate_assembly.specs.Answers.Preference.{by}
use Rattle.candidate_assembly.specs.Answers.Specialization.{unspecialized}
use Rattle.candidate_assembly.specs.Answers.Telling.{Considers, asking_rule}

-- Clauses of the environment win over all others, where there are any.
abbrev pub only_where_bounds : List Candidate → List Candidate
only_where_bounds xs = if has_where_bound xs then by is_of_environment xs else xs

-- What candidates come to: where they don't merge too little is known, and where there are none the goal is refused.

abbrev pub floundered : Judge → State → List Candidate → Option Response
floundered J S [] = None
floundered J S (x ∷ xs) = J.responded (with_pending S []) AMBIGUOUS

abbrev pub or_floundered : Judge → State → List Candidate → Option Merge → Option Response
or_floundered J S xs (Some m) = Some m.response
or_floundered J S xs None = floundered J S xs

abbrev pub come_to : Judge → State → List Candidate → Option Response
come_to J S xs = or_floundered J S xs (merged xs)

-- the response of a candidate
abbrev pub response_in : Result OfNumbers NoSolutionOrStop → Result CanonicalResponse NoSolutionOrStop
response_in (Ok c) = Ok c.result
response_in (Err e) = Err e

-- A call answers that response, or refuses where there is none. It keeps what calls keep, leaves a state alike the one before, and accounts
-- for its stops.
pub record Answers {E X : Type 0} (fixed : E → X) (judge : X → Judge) (state : E → State) (probes : E → List State) (context : E → Context) (stops : Account E)
    (old new : E) (answer : Option Response) (result : Result CanonicalResponse NoSolutionOrStop) : Type 0 where
  pub kept : Keeps fixed probes context old new
  pub alike : (judge (fixed old)).alike (state old) (state new)
  pub fits : IfOk result (λ r. IsResponse (context new).trees r)
  pub ok : IfOk result (λ r. answer ≡ Some (response_of (context new).trees r))
  pub refused : IfErr result (λ e. e ≡ N.NoSolution → answer ≡ None)
  pub cause : IfErr result (by_stop (StopsSomehow fixed context state stops old new))

-- The answer where nothing is known of how the goal of the trait was proved: the response of the candidate that the goal is ambiguous.
pub record IsUnproved {E X : Type 0} (fixed : E → X) (judge : X → Judge) (state : E → State) (probes : E → List State) (context : E → Context) (stops : Account E)
    (old new : E) (env : Env) (result : Result CanonicalResponse NoSolutionOrStop) : Type 0 where
  pub answer : Result OfNumbers NoSolutionOrStop
  pub considers : Considers fixed judge state probes context stops old new (asking_rule env true AMBIGUOUS) answer
  pub response : result ≡ response_in answer

-- A closure may be called at each evaluator of these that keeps what the first one has, and keeps it then, whatever faults are put off.
pub record KeepsWhere {E X F R : Type 0} (fixed : E → X) (probes : E → List State) (context : E → Context) (g : Once F (MutBor E × Unit {0}) (R × (MutBor E × Unit {0}))) (f : F) (first : E)
    (reached : E → Type 0) : Type 0 where
  pub may : (x : E) → KeepsBut PutsOffAny fixed probes context first x → reached x → FnOnceTakesAtMut g f x
  pub keeps : (x : E) (r : R) (y : E) → KeepsBut PutsOffAny fixed probes context first x → reached x → FnOnceReturnsAtMut g f x r y → KeepsBut PutsOffAny fixed probes context x y

-- What all candidates come to: clauses of the environment win over others, and impls over those that they specialise.
abbrev pub AfterAll : {E X : Type 0} → (E → X) → (X → Judge) → (E → State) → (E → List State) → (E → Context) → Account E
    → E → List Candidate → Result CanonicalResponse NoSolutionOrStop → E → Type 0
AfterAll fixed judge state probes context stops first xs r y =
    Answers fixed judge state probes context stops first y (come_to (judge (fixed first)) (state first) (unspecialized (context first) (state first).mode Allow.Yes (only_where_bounds xs))) r

-- The answer after a list of candidates: R says what these come to, at the evaluator that is there then. Where the list stops, the answer
-- is its stop.
pub data AfterList {E X G : Type 0} (fixed : E → X) (judge : X → Judge) (state : E → State) (probes : E → List State) (context : E → Context) (stops : Account E)
    (K : KindRules G) (L : KindBounds G) (old : E) (goal : G) (from : AssembleCandidatesFrom) (R : E → List Candidate → Result CanonicalResponse NoSolutionOrStop → E → Type 0)
    : Result CanonicalResponse NoSolutionOrStop → E → Type 0 where
  unassembled : {s : Stop} {y : E} → Assembles fixed judge state probes context stops K L old y goal from (λ (xs : List OfNumbers). xs) (Err s)
      → AfterList fixed judge state probes context stops K L old goal from R (Err (N.Stop s)) y
  assembled : {xs : List Candidate} {x : E} {r : Result CanonicalResponse NoSolutionOrStop} {y : E} → KeepsBut (PutsOffOnce (NormalChainEnds K L (context old) (judge (fixed old)) (state old) goal)) fixed probes context old x
      → IsAssembledAt K L (context old) (judge (fixed old)) (state old) goal from (state x) (Lists xs) → R x xs r y
      → AfterList fixed judge state probes context stops K L old goal from R r y

module _ {E X A B : Type 0} (fixed : E → X) (judge : X → Judge) (state : E → State) (probes : E → List State) (context : E → Context) (stops : Account E)
    (g : Once A (MutBor E × Unit {0}) (Option (Result CanonicalResponse NoSolutionOrStop) × (MutBor E × Unit {0}))) (ambiguity : A)
    (h : Once B (MutBor E × Unit {0}) (Result CanonicalResponse NoSolutionOrStop × (MutBor E × Unit {0}))) (rigid : B) where
  -- What candidates by clauses of the environment and by bounds come to: where there are none the goal's alias is rigid, as the one closure
  -- answers; else the other's answer counts, if it has one; else the candidates are merged, which are clauses of the environment if one is.
  pub data AfterAssumptions (first : E) (xs : List Candidate) : Result CanonicalResponse NoSolutionOrStop → E → Type 0 where
    is_rigid : {r : Result CanonicalResponse NoSolutionOrStop} {y : E} → xs ≡ [] → FnOnceReturnsAtMut h rigid first r y → AfterAssumptions first xs r y
    is_ambiguous : {r : Result CanonicalResponse NoSolutionOrStop} {y : E} → xs ≢ [] → FnOnceReturnsAtMut g ambiguity first (Some r) y → AfterAssumptions first xs r y
    are_merged : {x : E} {r : Result CanonicalResponse NoSolutionOrStop} {y : E} → xs ≢ [] → FnOnceReturnsAtMut g ambiguity first None x
        → Answers fixed judge state probes context stops x y (come_to (judge (fixed x)) (state x) (only_where_bounds xs)) r → AfterAssumptions first xs r y

  module _ {G : Type 0} (K : KindRules G) (L : KindBounds G) where
    -- The answer to a goal, by how the goal of its trait was proved. Where that isn't known the goal is ambiguous. Where it was proved by
    -- clauses of the environment or by bounds, no impls are looked for. Else all candidates are.
    abbrev pub IsAnsweredBy : E → G → Option TraitGoalProvenVia → Result CanonicalResponse NoSolutionOrStop → E → Type 0
    IsAnsweredBy old goal None r y = IsUnproved fixed judge state probes context stops old y (K.env_of goal) r
    IsAnsweredBy old goal (Some Via.Misc) r y = AfterList fixed judge state probes context stops K L old goal All (AfterAll fixed judge state probes context stops) r y
    IsAnsweredBy old goal (Some Via.ParamEnv) r y = AfterList fixed judge state probes context stops K L old goal EnvAndBounds AfterAssumptions r y
    IsAnsweredBy old goal (Some Via.AliasBound) r y = AfterList fixed judge state probes context stops K L old goal EnvAndBounds AfterAssumptions r y
