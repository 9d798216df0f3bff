-- What calls say that walk a chain of aliases.
use Rattle.std.specs.Prelude.{◌≡◌, ℕ, zero, suc, false, true, Option, Some, None, Result, IfErr, IfOk, IfSome, List, option_map}
use Rattle.ir_trees.specs.declared.decl.contents.AliasBoundKind.{AliasBoundKind}
use Rattle.ir_trees.specs.declared.decl.contents.AliasBoundKind.TheVariants.{NonSelfBounds}
use Rattle.ir_trees.specs.declared.ir.heads.Head.TheVariants as H
use Rattle.ir_trees.specs.declared.ir.kinds.AliasTy.{AliasTy}
use Rattle.ir_trees.specs.declared.ir.kinds.ParamEnv.{ParamEnv}
use Rattle.ir_trees.specs.declared.ir.kinds.Ty.{Ty}
use Rattle.ir_trees.specs.declared.ir.stop.Stop.{Stop}
use Rattle.ir_trees.specs.declared.ir.stop.Stop.TheVariants.{AliasDepth}
use Rattle.ir_trees.specs.Declarations.Context.{Context}
use Rattle.ir_trees.specs.Instantiation.Owned.{AliasArgumentsFit}
use Rattle.ir_trees.specs.Syntax.Trees.{Tree}
use Rattle.ir_trees.specs.Syntax.Words.{IsArgs, IsTy, ty_tree}
use Rattle.candidate_eval.specs.declared.eval.response.Candidate.{Candidate as OfNumbers}
use Rattle.candidate_eval.specs.Interface.Accounts.{Account}
use Rattle.candidate_eval.specs.Interface.Evaluators.{Keeps, KeepsBut}
use Rattle.candidate_eval.specs.Interface.Knowing.{is_evaluator_stop}
use Rattle.candidate_eval.specs.Dynamic.ObjectRequirements.{first_tree}
use Rattle.candidate_eval.specs.Outcomes.ResponseTrees.{candidates_of}
use Rattle.candidate_eval.specs.Outcomes.Responses.{Candidate}
use Rattle.candidate_eval.specs.Judges.States.{Env, State, Judge}
use Rattle.candidate_assembly.specs.declared.assembly.alias_chain.ChainEnd.{ChainEnd as Found}
use Rattle.candidate_assembly.specs.declared.assembly.alias_chain.ChainEnd.TheVariants as F
use Rattle.candidate_assembly.specs.Rules.AliasBounds.{ChainComes, ChainEnd, AtVariable, Done, Misplaced, end_answers, end_at, has_bounds, is_opaque, is_projection, link, link_rules}
use Rattle.candidate_assembly.specs.Rules.AliasFaults.{ChainEnds, PutsOffAtEnd}
use Rattle.candidate_assembly.specs.Goals.KindBounds.{Additional, KindBounds}
use Rattle.candidate_assembly.specs.Goals.Kinds.{KindRules}
use Rattle.candidate_assembly.specs.Calls.Earlier.{IsEarlier}
use Rattle.candidate_assembly.specs.Answers.Listing.{Listed, Lists, Stops, ToldList, answers_at, together}
use Rattle.candidate_assembly.specs.Answers.Telling.{StopsOfItself}

-- An alias of the context that has bounds, with the arguments that it takes.
pub record IsBoundedAlias (c : Context) (a : AliasTy) : Type 0 where
  pub args : IsArgs c.trees a.args
  pub fit : AliasArgumentsFit c a
  pub has : has_bounds (H.Alias a.kind a.id) ≡ true

-- Where a chain goes on after an alias, at the state that it leaves: nowhere from an opaque type, and where the normal form of a projection's
-- self type is refused; else at that normal form.
pub data GoesTo (J : Judge) (e : Env) (S : State) (t : Tree) : Option Tree → State → Type 0 where
  ends : {T : State} → is_opaque t.head ≡ true → GoesTo J e S t None T
  nowhere : {T : State} → is_projection t.head ≡ true → J.normalized S e (first_tree t.children) ≡ None → GoesTo J e S t None T
  further : {u : Tree} {T : State} → is_projection t.head ≡ true → J.normalized S e (first_tree t.children) ≡ Some (u, T) → GoesTo J e S t (Some u) T

-- A call that answers where it goes on; it stops of itself alone.
pub record Continues {E X : Type 0} (fixed : E → X) (judge : X → Judge) (state : E → State) (probes : E → List State) (context : E → Context) (stops : Account E)
    (old new : E) (e : Env) (t : Tree) (answer : Result (Option Ty) Stop) : Type 0 where
  pub kept : Keeps fixed probes context old new
  pub sort : IfOk answer (λ o. IfSome o (IsTy (context new).trees))
  pub goes : IfOk answer (λ o. GoesTo (judge (fixed old)) e (state old) t (option_map (ty_tree (context new).trees) o) (state new))
  pub own : IfErr answer (λ s. is_evaluator_stop s ≡ true)
  pub cause : IfErr answer (StopsOfItself fixed context state stops old new)

-- The candidates by a chain, as the walk along it finds them, alias by alias. Where a rule stops, nothing further is asked.
module _ {G : Type 0} (K : KindRules G) (more : Additional G) (J : Judge) (c : Context) (g : G) where
  abbrev pub answers_of_link : AliasBoundKind → State → Tree → Listed
  answers_of_link b S t = answers_at J (link_rules K more c g (link b S t))

  pub data Comes : ℕ → AliasBoundKind → State → Tree → Listed → Type 0 where
    no_bounds : {n : ℕ} {b : AliasBoundKind} {S : State} {t : Tree} → has_bounds t.head ≡ false → Comes n b S t (end_answers K J g (end_at b S t.head))
    too_long : {b : AliasBoundKind} {S : State} {t : Tree} → has_bounds t.head ≡ true → Comes zero b S t (Stops AliasDepth)
    stopped : {n : ℕ} {b : AliasBoundKind} {S : State} {t : Tree} {s : Stop} → has_bounds t.head ≡ true → answers_of_link b S t ≡ Stops s → Comes (suc n) b S t (Stops s)
    opaque : {n : ℕ} {b : AliasBoundKind} {S : State} {t : Tree} → is_opaque t.head ≡ true → Comes (suc n) b S t (answers_of_link b S t)
    refused : {n : ℕ} {b : AliasBoundKind} {S : State} {t : Tree} (T : State) → is_projection t.head ≡ true → J.alike S T
        → J.normalized T (K.env_of g) (first_tree t.children) ≡ None → Comes (suc n) b S t (answers_of_link b S t)
    projection : {n : ℕ} {b : AliasBoundKind} {S U : State} {t u : Tree} {rest : Listed} (T : State) → is_projection t.head ≡ true → J.alike S T
        → J.normalized T (K.env_of g) (first_tree t.children) ≡ Some (u, U) → Comes n NonSelfBounds U u rest
        → Comes (suc n) b S t (together (answers_of_link b S t) rest)

-- A list that the candidates by the chain follow.
pub record ChainFollows {G : Type 0} (K : KindRules G) (more : Additional G) (J : Judge) (c : Context) (g : G) (S : State) (xs : List Candidate) (l : Listed) : Type 0 where
  pub by_aliases : Listed
  pub chain : ChainComes K more J c g S by_aliases
  pub is : l ≡ together (Lists xs) by_aliases

-- A call in a probe that adds the candidates by a chain: as each earlier context has it. Of the state that it leaves nothing is said.
-- Where it answers, the fault of the chain's end is put off; where it stops, none.
pub record WalksChain {E X G P A : Type 0} (fixed : E → X) (judge : X → Judge) (state : E → State) (probes : E → List State) (context : E → Context) (stops : Account E)
    (K : KindRules G) (B : KindBounds G) (see : List Tree → ParamEnv → P → G)
    (old new : E) (env : ParamEnv) (p : P) (before after : List OfNumbers) (answer : Result A Stop) : Type 0 where
  pub kept : KeepsBut (PutsOffAtEnd (ChainEnds K (judge (fixed old)) (context old) (see (context old).trees env p) (state old)) answer) fixed probes context old new
  pub told : (c : Context) → IsEarlier c (context old)
      → ToldList (λ _. after) (context new).trees (ChainFollows K B.additional (judge (fixed old)) c (see (context old).trees env p) (state old) (candidates_of (context old).trees before)) answer
  pub cause : IfErr answer (StopsOfItself fixed context state stops old new)

-- how a chain ends that the code finds to end so at the state
abbrev pub as_seen : State → Found → ChainEnd
as_seen S F.Done = Done
as_seen S F.Misplaced = Misplaced
as_seen S F.AtVariable = AtVariable S
