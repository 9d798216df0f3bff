-- What a projection of a text comes to: an evaluator is made for it, and so many rounds at most are done for the goal of its trait.
use Rattle.std.specs.Prelude.{◌≡◌, ◌++◌, ◌∷◌, [], ℕ, Bool, true, false, Option, Some, None, List, Ok}
use Rattle.ir_trees.specs.declared.ir.kinds.AliasKind.TheVariants as AK
use Rattle.ir_trees.specs.declared.ir.kinds.AliasTy.{AliasTy}
use Rattle.ir_trees.specs.declared.ir.kinds.Clause.{Clause}
use Rattle.ir_trees.specs.declared.ir.kinds.ParamEnv.{ParamEnv}
use Rattle.ir_trees.specs.Declarations.Context.{Context, Grows}
use Rattle.ir_trees.specs.Declarations.References.{ArgumentsFit}
use Rattle.ir_trees.specs.Instantiation.Owned.{AliasArgumentsFit}
use Rattle.ir_trees.specs.Syntax.Binders.{escapes}
use Rattle.ir_trees.specs.Syntax.Trees.{Forest, Tree}
use Rattle.ir_trees.specs.Syntax.Words.{IsArgs, args_forest}
use Rattle.candidate_eval.specs.declared.eval.certainty.Certainty.{Certainty}
use Rattle.candidate_eval.specs.declared.eval.certainty.Certainty.TheVariants as C
use Rattle.candidate_eval.specs.declared.eval.response.CanonicalResponse.{CanonicalResponse}
use Rattle.candidate_eval.specs.Knowability.Calls.{HasNoParam}
use Rattle.candidate_eval.specs.Outcomes.ResponseTrees.{IsResponse}
use Rattle.candidate_eval.specs.Outcomes.Responses.{Response}
use Rattle.candidate_rounds.specs.Evaluators.Interface.{fixed}
use Rattle.candidate_rounds.specs.Evaluators.Known.{Evaluator, state, table_of}
use Rattle.candidate_rounds.specs.Table.Goals.{Via}
use Rattle.candidate_rounds.specs.Table.Normalized.{IsNormalized}
use Rattle.candidate_rounds.specs.Table.Normalizing.{goal_of_trait, trait_predicate}
use Rattle.candidate_rounds.specs.Table.Running.{StaysBesideTable, computing}
use Rattle.rounds_judge.specs.Table.GoalTable.{may_be_asked, verdict_in}
use Rattle.rounds_judge.specs.Table.Keys.{Key, key_at}
use Rattle.candidate_rounds.specs.Table.Efforts.{Runs}
use Rattle.rounds_judge.specs.Table.Verdicts as verdict
use Rattle.assembly_notation.specs.declared.given.Given.{Given}
use Rattle.assembly_notation.specs.Spelling.{AddsEach}
use Rattle.assembly_text.specs.declared.solving.Normal.{Normal}
use Rattle.assembly_text.specs.declared.solving.Normal.TheVariants.{Answered, Open, Refused, Unasked}
use Rattle.assembly_text.specs.Solving.{IsReady, fixed_for, nothing_known}
use Rattle.candidate_rounds.specs.declared.rounds.effort.Effort.{Effort}

-- A projection as a text gives it: with the arguments that it and its trait take, in which no parameter stands.
pub record IsReadProjection (c : Context) (a : AliasTy) : Type 0 where
  pub projection : a.kind ≡ AK.Projection
  pub sort : IsArgs c.trees a.args
  pub fits : AliasArgumentsFit c a
  pub reference_fits : ArgumentsFit c (trait_predicate c a).trait_ref
  pub no_param : HasNoParam c (trait_predicate c a).trait_ref

-- what is answered is of the context
abbrev pub IsNormal : List Tree → Normal → Type 0
IsNormal ts (Answered r) = IsResponse ts r
IsNormal ts _ = Unit {0}

abbrev pub normal_by : Option CanonicalResponse → Normal
normal_by None = Refused
normal_by (Some r) = Answered r

-- the key of the goal that the projection's trait holds
abbrev pub trait_key : Evaluator → ParamEnv → AliasTy → Key
trait_key s env a = key_at (state s) (goal_of_trait s.context env a)

-- What the evaluator answers of a projection in that many rounds at most, and the evaluator that is left.
pub data IsNormalOf (s : Evaluator) (env : ParamEnv) (a : AliasTy) (effort : Effort) (last : Evaluator) : Normal → Type 0 where
  is_normal : (o : Option CanonicalResponse) → IsNormalized last.context.trees s env a effort (table_of last) (Ok o) → IsNormalOf s env a effort last (normal_by o)

-- The same where only an answer counts that no further round takes back: the goal of the projection's trait is run first. While that is a Maybe, the
-- projection is open; where it is refused, so is the projection; where it is a yes, the projection is normalised.
pub data IsSettledNormalOf (s : Evaluator) (env : ParamEnv) (a : AliasTy) (effort : Effort) (last : Evaluator) : Normal → Type 0 where
  is_open : (x : Response) (way : Option Via) → Runs (computing s) (trait_key s env a) effort (table_of s) (table_of last)
      → verdict_in (table_of last) (trait_key s env a) ≡ Some (verdict.Maybe x way) → IsSettledNormalOf s env a effort last Open
  is_refused : Runs (computing s) (trait_key s env a) effort (table_of s) (table_of last) → verdict_in (table_of last) (trait_key s env a) ≡ Some verdict.Refused
      → IsSettledNormalOf s env a effort last Refused
  is_settled : (t : Evaluator) {n : Normal} (x : Response) (way : Option Via) → StaysBesideTable s t → Runs (computing s) (trait_key s env a) effort (table_of s) (table_of t)
      → verdict_in (table_of t) (trait_key s env a) ≡ Some (verdict.Yes x way) → IsNormalOf t env a effort last n → IsSettledNormalOf s env a effort last n

-- Which of the two is asked for.
abbrev pub IsNormalBy : Bool → Evaluator → ParamEnv → AliasTy → Effort → Evaluator → Normal → Type 0
IsNormalBy false = IsNormalOf
IsNormalBy true = IsSettledNormalOf

-- What a projection comes to in an evaluator, and the evaluator that is left: nothing, where the goal of its trait may not be asked; else what
-- normalising it answers, in that many rounds at most, or once the goal of its trait is final. The goal's key is looked at first, which changes
-- nothing but nodes.
pub data NormalComes (r : Evaluator) (env : ParamEnv) (a : AliasTy) (effort : Effort) (waits : Bool) (last : Evaluator) : Normal → Type 0 where
  not_asked : (s : Evaluator) → StaysBesideTable r s → may_be_asked (trait_key s env a) ≡ false → NormalComes r env a effort waits last Unasked
  normalized : (s : Evaluator) {n : Normal} → StaysBesideTable r s → table_of s ≡ table_of r → IsNormalBy waits s env a effort last n → NormalComes r env a effort waits last n

-- What it comes to under clauses; nothing, where a bound variable escapes from it.
pub data NormalComesUnder (first last : Evaluator) (cs : List Clause) (a : AliasTy) (effort : Effort) (waits : Bool) : Normal → Type 0 where
  open_projection : escapes 0 (args_forest first.context.trees a.args) ≡ true → NormalComesUnder first last cs a effort waits Unasked
  asked : (r : Evaluator) (env : ParamEnv) {n : Normal} → IsReady first cs (trait_predicate first.context a) r env → NormalComes r env a effort waits last n
      → NormalComesUnder first last cs a effort waits n

-- What a projection of a text comes to under what is given: under the given clauses in a new evaluator, which knows nothing yet and is in the
-- given mode.
pub record IsNormalSolved (c : Context) (g : Given) (a : AliasTy) (effort : Effort) (waits : Bool) (last : Context) (n : Normal) : Type 0 where
  pub first : Evaluator
  pub left : Evaluator
  pub context : first.context ≡ c
  pub fixed_is : fixed first ≡ fixed_for c g
  pub state_is : state first ≡ nothing_known g.mode
  pub comes : NormalComesUnder first left g.clauses.items a effort waits n
  pub leaves : left.context ≡ last

-- In words: `refused`; `type` and the type, which has some word, where the response is sure; else `maybe`.

abbrev pub maybe_text : List ℕ
maybe_text = 109 ∷ 97 ∷ 121 ∷ 98 ∷ 101 ∷ 10 ∷ []

abbrev pub type_text : List ℕ
type_text = 116 ∷ 121 ∷ 112 ∷ 101 ∷ []

abbrev pub AddsType : List ℕ → List ℕ → Type 0
AddsType old new = (word : List ℕ) × (new ≡ old ++ (type_text ++ (word ++ 10 ∷ [])))

-- Each type of a row is added behind these words: whole, or where it has too many words its first ones alone. A line ends them.
abbrev pub AddsListAfter : List ℕ → Forest → List ℕ → List ℕ → Type 0
AddsListAfter before ts old new = (word : List ℕ) × AddsEach ts [] word × (new ≡ old ++ (before ++ (word ++ 10 ∷ [])))

abbrev pub AddsByCertainty : Certainty → List ℕ → List ℕ → Type 0
AddsByCertainty C.Yes old new = AddsType old new
AddsByCertainty (C.Maybe info) old new = new ≡ old ++ maybe_text

abbrev pub AddsNormalWords : Normal → List ℕ → List ℕ → Type 0
AddsNormalWords Unasked old new = new ≡ old ++ maybe_text
AddsNormalWords Open old new = new ≡ old ++ maybe_text
AddsNormalWords Refused old new = new ≡ old ++ 114 ∷ 101 ∷ 102 ∷ 117 ∷ 115 ∷ 101 ∷ 100 ∷ 10 ∷ []
AddsNormalWords (Answered r) old new = AddsByCertainty r.certainty old new

-- To a text is added what the projection comes to, in words. Printing makes nodes, too.
pub record AddsNormal (c : Context) (g : Given) (a : AliasTy) (effort : Effort) (waits : Bool) (last : Context) (old new : List ℕ) : Type 0 where
  pub normal : Normal
  pub left : Context
  pub solved : IsNormalSolved c g a effort waits left normal
  pub goes_on : Grows left last
  pub added : AddsNormalWords normal old new
