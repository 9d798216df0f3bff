-- What is answered where other crates may write impls.
use Rattle.std.specs.Prelude.{◌≡◌, true, List, [], ◌∷◌}
use Rattle.ir_trees.specs.declared.ir.kinds.PredicatePolarity.TheVariants as Pol
use Rattle.ir_trees.specs.Declarations.Context.{Context}
use Rattle.ir_trees.specs.Hierarchy.Elaboration.{IsElaboration}
use Rattle.ir_trees.specs.Syntax.Trees.{none, Tree}
use Rattle.ir_trees.specs.Declarations.Worlds.{Reference}
use Rattle.candidate_eval.specs.declared.eval.source.CandidateSource.TheVariants as Source
use Rattle.candidate_eval.specs.Outcomes.Certainties.{AMBIGUOUS}
use Rattle.candidate_eval.specs.Derivations.Judging.{Judged, Over, judged, run, start}
use Rattle.candidate_eval.specs.Dynamic.Replacing.{without_first}
use Rattle.candidate_eval.specs.Derivations.Rules.{Rule, ask, nested_misc, unknowable}
use Rattle.candidate_eval.specs.Judges.States.{Env, State, Judge}
use Rattle.candidate_assembly.specs.Rules.BuiltinRules.{holds_of}

-- Other crates may write impls: then what the goal's clause implies may be known still. The first of what is implied is the clause itself.

abbrev pub positive_clause : Reference → Tree
positive_clause r = holds_of (record { 0 = r.trait }) Pol.Positive none r.arguments

abbrev pub unknowable_rule : Env → Reference → List Tree → Rule
unknowable_rule e r implied = record { env = e; applies = true; steps = unknowable r ∷ nested_misc (without_first implied); ending = ask Source.CoherenceUnknowable AMBIGUOUS }

-- The answer by what is unknowable. What the goal's clause implies is asked for where other crates may write impls.
pub data UnknowableJudged (J : Judge) (c : Context) (S : State) (e : Env) (r : Reference) : Judged → Type 0 where
  known : {j : Judged} → run J e (start S) (unknowable r ∷ []) ≡ Over j → UnknowableJudged J c S e r j
  unknown : (implied : List Tree) → IsElaboration c (positive_clause r ∷ []) implied → UnknowableJudged J c S e r (judged J S (unknowable_rule e r implied))
