-- What a projection comes to under a table of goals: the goal of its trait is run, and then the goal is computed that the projection is a new
-- variable.
use Rattle.std.specs.Prelude.{◌≡◌, ◌∷◌, ◌++◌, ℕ, true, [], length, Some}
use Rattle.ir_trees.specs.declared.ir.heads.VariableSort.TheVariants.{General}
use Rattle.ir_trees.specs.declared.ir.kinds.AliasKind.TheVariants as AK
use Rattle.ir_trees.specs.declared.ir.kinds.AliasTy.{AliasTy}
use Rattle.ir_trees.specs.declared.ir.kinds.ParamEnv.{ParamEnv}
use Rattle.ir_trees.specs.declared.ir.kinds.PredicatePolarity.TheVariants.{Positive}
use Rattle.ir_trees.specs.declared.ir.kinds.TraitPredicate.{TraitPredicate}
use Rattle.ir_trees.specs.Declarations.Context.{Context, world}
use Rattle.ir_trees.specs.Declarations.Worlds.{TraitSort, alias_kinds, joined, parameters}
use Rattle.ir_trees.specs.Instantiation.Owned.{AliasArgumentsFit}
use Rattle.ir_trees.specs.Syntax.Trees.{TypeKind}
use Rattle.ir_trees.specs.Unification.Substitutions.{alone}
use Rattle.candidate_eval.specs.declared.eval.variable.CanonicalVar.{CanonicalVar}
use Rattle.candidate_eval.specs.declared.eval.variable.VariableKind.TheVariants.{Term}
use Rattle.candidate_eval.specs.Derivations.ImplRules.{TraitGoal}
use Rattle.candidate_eval.specs.Interface.Shown.{Shown}
use Rattle.candidate_eval.specs.Judges.States.{State, variable}
use Rattle.candidate_assembly.specs.Goals.KindShown.{IsGoal, trait_kind}
use Rattle.candidate_assembly.specs.Goals.TraitGoals.{trait_goal}
use Rattle.candidate_rounds.specs.Evaluators.Interface.{Fixed, Rest, fixed, judge_of, rest}
use Rattle.candidate_rounds.specs.Evaluators.Known.{Evaluator, probes, state}
use Rattle.candidate_rounds.specs.Evaluators.Stopping.{accounts}
use Rattle.candidate_eval.specs.Interface.Evaluators.{resolved_root}
use Rattle.projection_goals.specs.Normalizing.{NormalizesGoal, trait_named}
use Rattle.rounds_judge.specs.Table.Keys.{Key, newest_of}

-- That the trait of a projection holds of the projection's arguments; and the goal of that in an environment.

abbrev pub trait_predicate : Context → AliasTy → TraitPredicate
trait_predicate c a = record { trait_ref = record { def_id = record { 0 = trait_named c a.id.0 }; args = a.args }; polarity = Positive }

abbrev pub goal_of_trait : Context → ParamEnv → AliasTy → TraitGoal
goal_of_trait c e a = trait_goal c.trees e (trait_predicate c a)

-- The numbers are a projection of the context, with the arguments that it and its trait take, and neither a parameter nor an escaping bound
-- variable in them.
pub record IsProjection (c : Context) (e : ParamEnv) (a : AliasTy) : Type 0 where
  pub projection : a.kind ≡ AK.Projection
  pub fits : AliasArgumentsFit c a
  pub goal : IsGoal trait_kind c e (trait_predicate c a)

-- A projection takes what its trait does.
pub record TakesAsTrait (c : Context) (a : AliasTy) : Type 0 where
  pub projection : a.kind ≡ AK.Projection
  pub takes : alias_kinds (world c) a.kind a.id.0 ≡ joined (Some (TypeKind ∷ [])) (parameters (world c) TraitSort (trait_named c a.id.0))

-- The variable that stands for the term: a general one, of the newest universe of the key. It comes after the key's variables.

abbrev pub term_variable : Key → CanonicalVar
term_variable k = record { kind = Term General; universe = newest_of k }

abbrev pub with_term : Key → Key
with_term k = record { goal = k.goal; variables = k.variables ++ term_variable k ∷ [] }

-- The goal that the associated type of the key's arguments is that variable.
abbrev pub term_goal : ℕ → Key → NormalizesGoal
term_goal item k = record { env = k.goal.env; item = item; arguments = k.goal.reference.arguments; term = alone (variable (Term General) (length k.variables)) }

-- An evaluator of rounds, as calls over any evaluator see it.
abbrev pub rounds_shown : Shown Evaluator
rounds_shown = record {
  context = λ r. r.context;
  Rest = Rest;
  rest = rest;
  is_strict = true;
  Seen = State;
  seen = state;
  resolved = resolved_root;
  Fixed = Fixed;
  fixed = fixed;
  judge = judge_of;
  state = state;
  probes = probes;
  stops = accounts;
}
