-- The rule of an impl: a goal of a trait holds by an impl of it.
use Rattle.std.specs.Prelude.{Option, Some, None, List, ◌∷◌, ◌++◌, ◌&&◌, map}
use Rattle.ir_trees.specs.declared.ir.kinds.PredicatePolarity.{PredicatePolarity}
use Rattle.ir_trees.specs.declared.ir.kinds.PredicatePolarity.TheVariants as P
use Rattle.ir_trees.specs.declared.ir.unify.RightSide.TheVariants as S
use Rattle.ir_trees.specs.declared.decl.contents.ImplId.{ImplId}
use Rattle.ir_trees.specs.declared.decl.contents.ImplPolarity.{ImplPolarity}
use Rattle.ir_trees.specs.declared.decl.contents.ImplPolarity.TheVariants as I
use Rattle.ir_trees.specs.Syntax.Trees.{Forest, Tree}
use Rattle.ir_trees.specs.Declarations.Context.{parameter_kind}
use Rattle.ir_trees.specs.Declarations.Contents.{Impl}
use Rattle.ir_trees.specs.Unification.Unify.{may_unify}
use Rattle.ir_trees.specs.Syntax.Words.{args_forest, clause_tree}
use Rattle.ir_trees.specs.Declarations.Worlds.{Reference}
use Rattle.candidate_eval.specs.declared.eval.mode.TypingMode.{TypingMode}
use Rattle.candidate_eval.specs.declared.eval.mode.TypingMode.TheVariants.{Coherence}
use Rattle.candidate_eval.specs.declared.eval.source.CandidateSource.TheVariants as Source
use Rattle.candidate_eval.specs.Outcomes.Certainties.{Certainty, Yes, AMBIGUOUS}
use Rattle.candidate_eval.specs.Judges.States.{Env, is_some}
use Rattle.candidate_eval.specs.Derivations.Rules.{Step, fresh, equate, Rule, ask, nested, nested_misc}

-- A trait is to hold of some trees, or not to hold.
pub record TraitGoal : Type 0 where
  pub env : Env
  pub reference : Reference
  pub polarity : PredicatePolarity

-- How sure an impl makes a goal. A reservation leaves open in coherence whether there is an impl, and is none outside of it.
-- Others serve goals of their own polarity.
abbrev pub impl_certainty : TypingMode → PredicatePolarity → ImplPolarity → Option Certainty
impl_certainty Coherence p I.Reservation = Some AMBIGUOUS
impl_certainty m p I.Reservation = None
impl_certainty m P.Positive I.Positive = Some Yes
impl_certainty m P.Negative I.Negative = Some Yes
impl_certainty m p i = None

-- A row of arguments is equated with a header, and clauses become pending: where clauses, and those that outlives bounds of super traits
-- give.
abbrev pub declared_steps : Forest → Forest → List Tree → List Tree → List Step
declared_steps a header wheres outlives = equate a header ∷ (nested wheres ++ nested_misc outlives)

-- What an impl's rule does for a row of arguments before it asks: fresh variables stand for the parameters, and then what is declared.
abbrev pub impl_steps : List Tree → Forest → Impl → List Step
impl_steps ts a i =
    fresh (map parameter_kind i.parameters)
    ∷ declared_steps a (args_forest ts i.trait_ref.args) (map (clause_tree ts) i.wheres) (map (clause_tree ts) i.super_outlives)

abbrev pub or_yes : Option Certainty → Certainty
or_yes None = Yes
or_yes (Some c) = c

-- It applies where quick rejection passes the arguments and the polarity serves. The trees are those of the numbers by which
-- the impl is declared.
abbrev pub impl_rule : List Tree → TypingMode → TraitGoal → ImplId → Impl → Rule
impl_rule ts m g n i =
    let certainty = impl_certainty m g.polarity i.polarity in
    record {
      env = g.env;
      applies = may_unify S.Header g.reference.arguments (args_forest ts i.trait_ref.args) && is_some certainty;
      steps = impl_steps ts g.reference.arguments i;
      ending = ask (Source.Impl n) (or_yes certainty);
    }
