-- Which of the candidates for a goal of a trait win, and what these come to.
use Rattle.std.specs.Prelude.{Bool, true, false, not, ◌&&◌, ◌||◌, Option, Some, None, List, [], ◌∷◌, ◌++◌, Result, IfOk, IfErr, ◌≡◌, ◌⊎◌, ℕ, option_map, slice_get, if◌then◌else◌}
use Rattle.std.specs.List.{filter, list_all, list_any}
use Rattle.ir_trees.specs.declared.decl.contents.LangItem.TheVariants as L
use Rattle.ir_trees.specs.declared.ir.stop.Stop.TheVariants.{Memory}
use Rattle.ir_trees.specs.Declarations.Context.{Context}
use Rattle.candidate_eval.specs.declared.eval.mode.TypingMode.{TypingMode}
use Rattle.candidate_eval.specs.declared.eval.refusal.NoSolutionOrStop.{NoSolutionOrStop}
use Rattle.candidate_eval.specs.declared.eval.refusal.NoSolutionOrStop.TheVariants as N
use Rattle.candidate_eval.specs.declared.eval.response.CanonicalResponse.{CanonicalResponse}
use Rattle.candidate_eval.specs.declared.eval.source.CandidateSource.{CandidateSource}
use Rattle.candidate_eval.specs.Interface.Accounts.{Account, IsAccounted, by_stop}
use Rattle.candidate_eval.specs.Outcomes.Certainties.{AMBIGUOUS}
use Rattle.candidate_eval.specs.Interface.Evaluators.{Keeps}
use Rattle.candidate_eval.specs.Outcomes.Merging.{Merge, merged}
use Rattle.candidate_eval.specs.Outcomes.ResponseTrees.{IsResponse, response_of}
use Rattle.candidate_eval.specs.Outcomes.Responses.{Candidate, Response, has_only_region_constraints}
use Rattle.candidate_eval.specs.Judges.States.{Judge, State, with_pending}
use Rattle.candidate_assembly.specs.declared.assembly.specialization.AllowInferenceConstraints.TheVariants as Allow
use Rattle.candidate_assembly.specs.declared.trait_goals.preference.CandidatePreferenceMode.{CandidatePreferenceMode}
use Rattle.candidate_assembly.specs.declared.trait_goals.preference.CandidatePreferenceMode.TheVariants.{Default, Marker}
use Rattle.candidate_assembly.specs.declared.assembly.merging.TraitGoalProvenVia.{TraitGoalProvenVia}
use Rattle.candidate_assembly.specs.declared.assembly.merging.TraitGoalProvenVia.TheVariants as Via
use Rattle.candidate_assembly.specs.Answers.Assembled.{is_coherence, is_of_environment, is_trivial, leaves_out}
use Rattle.candidate_assembly.specs.Rules.BuiltinRules.{flag_of_trait}
use Rattle.candidate_assembly.specs.Answers.Sources.{is_alias_bound, is_global, is_impl, is_non_global, is_object, is_self_bound}
use Rattle.candidate_assembly.specs.Answers.Specialization.{unspecialized}
use Rattle.candidate_assembly.specs.Goals.TraitGoals.{is_item}

-- Candidates by their sources: whether there are such, whether all are such, those that are, and the others.

abbrev pub has : (CandidateSource → Bool) → List Candidate → Bool
has p xs = list_any (λ (x : Candidate). p x.source) xs

abbrev pub has_only : (CandidateSource → Bool) → List Candidate → Bool
has_only p xs = list_all (λ (x : Candidate). p x.source) xs

abbrev pub by : (CandidateSource → Bool) → List Candidate → List Candidate
by p xs = filter (λ (x : Candidate). p x.source) xs

abbrev pub not_by : (CandidateSource → Bool) → List Candidate → List Candidate
not_by p xs = filter (λ (x : Candidate). not (p x.source)) xs

-- An object's own bounds drive impls out where the first candidate by one finds no value of a variable. In coherence all stay.

abbrev pub object_wins : List Candidate → Bool
object_wins [] = false
object_wins (x ∷ xs) = if is_object x.source then has_only_region_constraints x.result else object_wins xs

abbrev pub prefer_objects : TypingMode → List Candidate → List Candidate
prefer_objects t xs = if is_coherence t then xs else (if object_wins xs then not_by is_impl xs else xs)

-- Candidates that win, and how the goal is then proved.
pub record Class : Type 0 where
  pub candidates : List Candidate
  pub via : TraitGoalProvenVia

abbrev pub is_marker : CandidatePreferenceMode → Bool
is_marker Marker = true
is_marker _ = false

abbrev pub class_of : List Candidate → TraitGoalProvenVia → Class
class_of xs via = record { candidates = xs; via = via }

-- Markers: auto traits, traits that types have by default, and those of sizedness.

abbrev pub is_marker_trait : Context → ℕ → Bool
is_marker_trait c n = (flag_of_trait (λ f. f.auto) c n || flag_of_trait (λ f. f.default) c n) || (is_item c L.Sized n || is_item c L.MetaSized n)

abbrev pub mode_of : Context → ℕ → CandidatePreferenceMode
mode_of c n = if is_marker_trait c n then Marker else Default

-- The first of these that there is: a trivial candidate; for markers a bound of an alias itself, where all bounds of aliases win; a clause
-- of the environment that isn't global, where all clauses of it win; a bound of an alias.
abbrev pub assumed : CandidatePreferenceMode → List Candidate → Option Class
assumed m xs =
    if has is_trivial xs then Some (class_of (by is_trivial xs) Via.Misc)
    else (if is_marker m && has is_self_bound xs then Some (class_of (by is_alias_bound xs) Via.AliasBound)
    else (if has is_non_global xs then Some (class_of (by is_of_environment xs) Via.ParamEnv)
    else (if has is_alias_bound xs then Some (class_of (by is_alias_bound xs) Via.AliasBound)
    else None)))

-- Global clauses of the environment win only where there is nothing else.
abbrev pub least_global : List Candidate → Class
least_global xs =
    if has_only is_global xs then class_of xs Via.ParamEnv
    else class_of (not_by is_global xs) Via.Misc

abbrev pub or_class : Option Class → Class → Class
or_class None k = k
or_class (Some k) other = k

-- The candidates that win: in coherence all; else by the first rows that apply; else what impls and objects leave of the list.
abbrev pub preferred : Context → TypingMode → CandidatePreferenceMode → List Candidate → Class
preferred c t m xs =
    if is_coherence t then class_of xs Via.Misc
    else or_class (assumed m xs) (least_global (prefer_objects t (unspecialized c t Allow.No xs)))

-- A response, and how the goal is proved; nothing where candidates didn't merge.
abbrev pub Proved : Type 0
Proved = Response × Option TraitGoalProvenVia

-- Where candidates don't merge too little is known, and where there are none the goal is refused.
abbrev pub unmerged : Judge → State → List Candidate → Option Proved
unmerged J S [] = None
unmerged J S (x ∷ xs) = option_map (λ (r : Response). (r, None)) (J.responded (with_pending S []) AMBIGUOUS)

abbrev pub proved : Judge → State → Class → Option Merge → Option Proved
proved J S k (Some m) = Some (m.response, Some k.via)
proved J S k None = unmerged J S k.candidates

-- What the candidates that win come to.
abbrev pub answer_by : Judge → State → Class → Option Proved
answer_by J S k = proved J S k (merged k.candidates)

-- Outside of coherence a candidate that is trivial is the answer, whatever it is.
abbrev pub TrivialWins : Judge → State → Context → TypingMode → CandidatePreferenceMode → List Candidate → Type 0
TrivialWins J S c t m xs = is_coherence t ≡ false → (n : ℕ) (x : Candidate) → slice_get xs n ≡ Some x → is_trivial x.source ≡ true
    → answer_by J S (preferred c t m xs) ≡ Some (x.result, Some Via.Misc)

-- Outside of coherence, where nothing is trivial and no bound of the alias itself wins, the others don't matter beside a clause of the
-- environment that isn't global.
abbrev pub EnvironmentWins : Context → TypingMode → CandidatePreferenceMode → List Candidate → Type 0
EnvironmentWins c t m xs = is_coherence t ≡ false → has is_trivial xs ≡ false → (is_marker m && has is_self_bound xs) ≡ false → has is_non_global xs ≡ true
    → preferred c t m xs ≡ preferred c t m (by is_of_environment xs)

-- Impls and objects that are left out would lose: with any of them behind these candidates the same ones win.
abbrev pub LeftOutLose : Context → TypingMode → CandidatePreferenceMode → List Candidate → List Candidate → Type 0
LeftOutLose c t m xs ys = leaves_out t xs ≡ true → has_only (λ s. is_impl s || is_object s) ys ≡ true → preferred c t m (xs ++ ys) ≡ preferred c t m xs

-- A call answers that response, or refuses where there is none. It keeps what calls keep, leaves a state alike the one before, and accounts
-- for its stops.
pub record Proves {E X : Type 0} (fixed : E → X) (judge : X → Judge) (state : E → State) (probes : E → List State) (context : E → Context) (stops : Account E)
    (old new : E) (answer : Option Proved) (result : Result (CanonicalResponse × Option TraitGoalProvenVia) NoSolutionOrStop) : Type 0 where
  pub kept : Keeps fixed probes context old new
  pub alike : (judge (fixed old)).alike (state old) (state new)
  pub fits : IfOk result (λ a. IsResponse (context new).trees a.0)
  pub ok : IfOk result (λ a. answer ≡ Some (response_of (context new).trees a.0, a.1))
  pub refused : IfErr result (λ e. e ≡ N.NoSolution → answer ≡ None)
  pub cause : IfErr result (by_stop (λ s. (s ≡ Memory) ⊎ IsAccounted fixed context state stops old new s))
