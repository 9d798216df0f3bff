-- What it says that a goal of a trait is refused in coherence, where the goal leaves nothing open.
use Rattle.std.specs.Prelude.{◌≡◌, false, Option, None, List, [], ◌∷◌, map, Result, IfErr}
use Rattle.ir_trees.specs.declared.ir.kinds.GoalSource.TheVariants.{Misc}
use Rattle.ir_trees.specs.Declarations.Context.{Context, world}
use Rattle.ir_trees.specs.Hierarchy.Elaboration.{IsElaboration}
use Rattle.ir_trees.specs.Syntax.Trees.{Tree, holds, is_alias}
use Rattle.candidate_eval.specs.declared.eval.mode.TypingMode.TheVariants.{Coherence}
use Rattle.candidate_eval.specs.declared.eval.refusal.NoSolutionOrStop.{NoSolutionOrStop}
use Rattle.candidate_eval.specs.declared.eval.refusal.NoSolutionOrStop.TheVariants as N
use Rattle.candidate_eval.specs.declared.eval.response.CanonicalResponse.{CanonicalResponse}
use Rattle.candidate_eval.specs.Outcomes.Certainties.{AMBIGUOUS}
use Rattle.candidate_eval.specs.Derivations.ImplRules.{TraitGoal}
use Rattle.candidate_eval.specs.Knowability.Laws.{NoUnnamedHeader}
use Rattle.candidate_eval.specs.Dynamic.Replacing.{without_first}
use Rattle.candidate_eval.specs.Judges.Soundness.{IsResolved}
use Rattle.candidate_eval.specs.Judges.States.{Env, Judge, Pending, State, resolved, with_pending}
use Rattle.candidate_assembly.specs.declared.assembly.merging.TraitGoalProvenVia.{TraitGoalProvenVia}
use Rattle.candidate_assembly.specs.Rules.Unknowable.{positive_clause}

-- A goal that leaves nothing open: it is asked in coherence with nothing pending, all values are put into its arguments, and no alias stands
-- in them.
pub record IsPlainGoal (S : State) (g : TraitGoal) : Type 0 where
  pub in_coherence : S.mode ≡ Coherence
  pub nothing_pending : S.pending ≡ []
  pub is_resolved : IsResolved S g.reference.arguments
  pub no_alias : holds is_alias g.reference.arguments ≡ false

-- these clauses, pending
abbrev pub pending_clauses : Env → List Tree → List Pending
pending_clauses e ts = map (λ (t : Tree). record { source = Misc; goal = record { env = e; clause = t } }) ts

-- The clauses that the goal's clause implies, itself left out, were refused together: there are some, and with them pending the judge has no
-- response.
pub record ImpliedAreRefused (J : Judge) (c : Context) (S : State) (g : TraitGoal) : Type 0 where
  pub implied : List Tree
  pub elaboration : IsElaboration c (positive_clause g.reference ∷ []) implied
  pub some : without_first implied ≡ [] → ⊥
  pub refused : J.responded (with_pending S (pending_clauses (resolved S g.env) (without_first implied))) AMBIGUOUS ≡ None

-- Why the goal may be refused: what it implies was; or no header that a crate may write which the goal doesn't name overlaps it, in any world
-- that extends the declared one.
pub data IsCoherentRefusal (J : Judge) (c : Context) (S : State) (g : TraitGoal) : Type 0 where
  by_implied : ImpliedAreRefused J c S g → IsCoherentRefusal J c S g
  by_headers : NoUnnamedHeader (world c) g.reference → IsCoherentRefusal J c S g

-- A plain goal is refused for one of these reasons alone.
abbrev pub RefusesCoherently : Judge → Context → State → TraitGoal → Result (CanonicalResponse × Option TraitGoalProvenVia) NoSolutionOrStop → Type 0
RefusesCoherently J c S g result = IfErr result (λ e. e ≡ N.NoSolution → IsPlainGoal S g → IsCoherentRefusal J c S g)
