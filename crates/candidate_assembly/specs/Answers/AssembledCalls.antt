-- What the call for the list of a goal's candidates says.
use Rattle.std.specs.Prelude.{◌≡◌, false, List, Some, Result, IfErr}
use Rattle.ir_trees.specs.Declarations.Context.{Context}
use Rattle.ir_trees.specs.Syntax.Trees.{Tree}
use Rattle.ir_trees.specs.declared.ir.stop.Stop.{Stop}
use Rattle.candidate_eval.specs.declared.eval.response.Candidate.{Candidate as OfNumbers}
use Rattle.candidate_eval.specs.Interface.Accounts.{Account}
use Rattle.candidate_eval.specs.Interface.Evaluators.{KeepsBut}
use Rattle.candidate_eval.specs.Judges.States.{Env, State, Judge}
use Rattle.candidate_eval.specs.Knowability.Orphan.{is_general}
use Rattle.candidate_assembly.specs.declared.assembly.opaques.AssembleCandidatesFrom.{AssembleCandidatesFrom}
use Rattle.candidate_assembly.specs.Answers.Assembled.{IsAssembled, resolved_goal}
use Rattle.candidate_assembly.specs.Rules.AliasBounds.{ChainEnd}
use Rattle.candidate_assembly.specs.Rules.AliasFaults.{ChainEnds, PutsOffOnce}
use Rattle.candidate_assembly.specs.Goals.KindBounds.{KindBounds}
use Rattle.candidate_assembly.specs.Goals.Kinds.{KindRules, self_type}
use Rattle.candidate_assembly.specs.Answers.Listing.{Listed, ToldList}
use Rattle.candidate_assembly.specs.Answers.Telling.{StopsOfItself}

-- The list of a goal, where a state is left that is alike the one that normalising the goal's self type leaves.
pub record IsAssembledAt {G : Type 0} (K : KindRules G) (B : KindBounds G) (c : Context) (J : Judge) (S : State) (g : G) (from : AssembleCandidatesFrom) (U : State) (l : Listed) : Type 0 where
  pub left : State
  pub assembled : IsAssembled K B c J S g from l left
  pub alike : J.alike left U

-- A state that is alike the first, or alike the one that normalising a type leaves.
pub data IsLeftAlike (J : Judge) (S : State) (e : Env) (t : Tree) (U : State) : Type 0 where
  before : J.alike S U → IsLeftAlike J S e t U
  normal : {u : Tree} {T : State} → J.normalized S e t ≡ Some (u, T) → J.alike T U → IsLeftAlike J S e t U

-- The chain of a goal whose self type has that normal form ends so: with all values put in. A general variable has none.
pub record TypedChainEnds {G : Type 0} (K : KindRules G) (B : KindBounds G) (c : Context) (J : Judge) (S : State) (g : G) (t : Tree) (end : ChainEnd) : Type 0 where
  pub other : is_general t.head ≡ false
  pub ends : ChainEnds K J c (resolved_goal K B c S (K.with_self_type g t)) S end

-- So does the chain of the goal, from the normal form of its self type on.
pub record NormalChainEnds {G : Type 0} (K : KindRules G) (B : KindBounds G) (c : Context) (J : Judge) (S : State) (g : G) (end : ChainEnd) : Type 0 where
  pub self : Tree
  pub left : State
  pub normal : J.normalized S (K.env_of g) (self_type K c g) ≡ Some (self, left)
  pub typed : TypedChainEnds K B c J left g self end

-- The call answers the list of the goal; where it stops of itself, it leaves one of the two states, and accounts for it. Of faults it
-- puts off at most the one of the chain's end.
pub record Assembles {E X A G : Type 0} (fixed : E → X) (judge : X → Judge) (state : E → State) (probes : E → List State) (context : E → Context) (stops : Account E)
    (K : KindRules G) (B : KindBounds G) (old new : E) (g : G) (from : AssembleCandidatesFrom) (items : A → List OfNumbers) (answer : Result A Stop) : Type 0 where
  pub kept : KeepsBut (PutsOffOnce (NormalChainEnds K B (context old) (judge (fixed old)) (state old) g)) fixed probes context old new
  pub told : ToldList items (context new).trees (IsAssembledAt K B (context old) (judge (fixed old)) (state old) g from (state new)) answer
  pub stopped : IfErr answer (λ _. IsLeftAlike (judge (fixed old)) (state old) (K.env_of g) (self_type K (context old) g) (state new))
  pub cause : IfErr answer (StopsOfItself fixed context state stops old new)
