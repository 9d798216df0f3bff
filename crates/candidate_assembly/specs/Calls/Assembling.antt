-- What calls say that go on from a list of candidates.
use Rattle.std.specs.Prelude.{◌≡◌, List, IfErr, Result, length}
use Rattle.ir_trees.specs.declared.ir.kinds.ParamEnv.{ParamEnv}
use Rattle.ir_trees.specs.declared.ir.stop.Stop.{Stop}
use Rattle.ir_trees.specs.Declarations.Context.{Context}
use Rattle.ir_trees.specs.Syntax.Trees.{Tree}
use Rattle.candidate_eval.specs.declared.eval.response.Candidate.{Candidate as OfNumbers}
use Rattle.candidate_eval.specs.Interface.Accounts.{Account}
use Rattle.candidate_eval.specs.Interface.Evaluators.{KeepsBut}
use Rattle.candidate_eval.specs.Outcomes.Responses.{Candidate}
use Rattle.candidate_eval.specs.Judges.States.{Judge, State}
use Rattle.candidate_assembly.specs.declared.assembly.opaques.AssembleCandidatesFrom.{AssembleCandidatesFrom}
use Rattle.candidate_assembly.specs.Answers.Assembled.{IfUnsizing, AllKnown}
use Rattle.candidate_assembly.specs.Rules.AliasFaults.{ChainEnds, PutsOffFirst}
use Rattle.candidate_assembly.specs.Calls.Earlier.{IsEarlier}
use Rattle.candidate_assembly.specs.Goals.KindBounds.{KindBounds}
use Rattle.candidate_assembly.specs.Goals.Kinds.{GoalBelow, KindRules}
use Rattle.candidate_assembly.specs.Answers.Listing.{Listed, Lists, ToldList, together}
use Rattle.candidate_assembly.specs.Answers.Telling.{StopsOfItself}

-- A list that the candidates by unsizing follow, for goals of its trait.
pub record UnsizingFollows {G : Type 0} (K : KindRules G) (B : KindBounds G) (c : Context) (J : Judge) (S : State) (g : G) (xs : List Candidate) (l : Listed) : Type 0 where
  pub unsized : Listed
  pub by_unsizing : IfUnsizing K B c J S g unsized
  pub is : l ≡ together (Lists xs) unsized

-- An earlier context, and a state alike the one that is there now, of which the goal mentions no other variables.
pub record WasAsked {G : Type 0} (K : KindRules G) (J : Judge) (c now : Context) (S T : State) (g : G) : Type 0 where
  pub earlier : IsEarlier c now
  pub alike : J.alike S T
  pub below : GoalBelow K (length S.variables) g

-- A call that answers all candidates but for what is unknowable: as each such context has them, at each such state. It leaves a state alike
-- the one before. Of faults it puts off what the chain's end says.
pub record ListsKnown {E X G P A : Type 0} (fixed : E → X) (judge : X → Judge) (state : E → State) (probes : E → List State) (context : E → Context) (stops : Account E)
    (K : KindRules G) (B : KindBounds G) (see : List Tree → ParamEnv → P → G)
    (old new : E) (env : ParamEnv) (p : P) (from : AssembleCandidatesFrom) (items : A → List OfNumbers) (answer : Result A Stop) : Type 0 where
  pub kept : KeepsBut (PutsOffFirst (ChainEnds K (judge (fixed old)) (context old) (see (context old).trees env p) (state old)) answer) fixed probes context old new
  pub alike : (judge (fixed old)).alike (state old) (state new)
  pub told : (c : Context) (S : State) → WasAsked K (judge (fixed old)) c (context old) S (state old) (see (context old).trees env p)
      → ToldList items (context new).trees (AllKnown K B c (judge (fixed old)) S (see (context old).trees env p) from) answer
  pub cause : IfErr answer (StopsOfItself fixed context state stops old new)
