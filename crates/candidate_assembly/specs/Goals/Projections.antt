-- Goals that normalise a projection to a term: their rules, as data.
use Rattle.std.specs.Prelude.{ℕ, Bool, true, false, ◌&&◌, Option, Some, None, List, [], ◌∷◌, map}
use Rattle.ir_trees.specs.declared.decl.contents.ImplId.{ImplId}
use Rattle.ir_trees.specs.declared.decl.contents.ImplPolarity.{ImplPolarity}
use Rattle.ir_trees.specs.declared.decl.contents.ImplPolarity.TheVariants as I
use Rattle.ir_trees.specs.declared.ir.kinds.TraitId.{TraitId}
use Rattle.ir_trees.specs.declared.ir.unify.RightSide.TheVariants as S
use Rattle.ir_trees.specs.Declarations.Context.{Context, parameter_kind}
use Rattle.ir_trees.specs.Declarations.Contents.{Impl}
use Rattle.ir_trees.specs.Declarations.Declaring.{impl_at}
use Rattle.ir_trees.specs.Declarations.Lookups.{assoc_trait, definition, maybe}
use Rattle.ir_trees.specs.Unification.Substitutions.{alone}
use Rattle.ir_trees.specs.Hierarchy.Supers.{after_first}
use Rattle.ir_trees.specs.Syntax.Trees.{Forest, Tree, join}
use Rattle.ir_trees.specs.Unification.Unify.{may_unify}
use Rattle.ir_trees.specs.Syntax.Words.{args_forest, clause_tree}
use Rattle.ir_trees.specs.Declarations.Worlds.{Reference}
use Rattle.candidate_eval.specs.declared.eval.certainty.Certainty.TheVariants.{Yes}
use Rattle.candidate_eval.specs.Builtins.Callable.{all_but_last}
use Rattle.candidate_eval.specs.Derivations.Characterization.{bound_kinds}
use Rattle.candidate_eval.specs.Derivations.Naming.{named_clause}
use Rattle.candidate_eval.specs.Dynamic.Objects.{arguments_in, is_about, term_in}
use Rattle.candidate_eval.specs.Derivations.Rules.{Step, quick, fresh, equate, nested}
use Rattle.candidate_eval.specs.Judges.States.{Env}
use Rattle.candidate_assembly.specs.Goals.Kinds.{ImplPart, KindRules}
use Rattle.candidate_assembly.specs.Answers.Telling.{asking_rule}
use Rattle.candidate_assembly.specs.Goals.TraitGoals.{no_impl, with_first}

-- An associated type with its arguments is to be a term.
pub record ProjectionGoal : Type 0 where
  pub env : Env
  pub item : ℕ
  pub arguments : Forest
  pub term : Tree

-- its trait, with the same arguments
abbrev pub trait_number : Option TraitId → ℕ
trait_number None = 0
trait_number (Some i) = i.0

abbrev pub reference_of_item : Context → ProjectionGoal → Reference
reference_of_item c g = record { trait = trait_number (assoc_trait (definition c g.item)); arguments = g.arguments }

-- Quick rejection of the arguments, fresh variables for the clause's binder, and the arguments equated, and then the terms.
abbrev pub match_projection : ProjectionGoal → Tree → List Step
match_projection g c =
    quick g.arguments (all_but_last (after_first c.children))
    ∷ fresh (bound_kinds c.children)
    ∷ equate g.arguments (arguments_in (named_clause 0 c))
    ∷ equate (alone g.term) (alone (term_in (named_clause 0 c)))
    ∷ []

-- What impls say that associated types are: a lookup, as a kind of goals takes it from what is declared.
abbrev pub Given : Type 0
Given = Context → ImplId → ℕ → Option Tree

abbrev pub serves : ImplPolarity → Bool
serves I.Positive = true
serves _ = false

-- The references are equated, and the given term with the goal's, and the where clauses become pending. Where no term is given there is no
-- rule.
abbrev pub part_with : List Tree → ProjectionGoal → Impl → Option Tree → ImplPart
part_with ts g i None = no_impl
part_with ts g i (Some given) = record {
  applies = serves i.polarity && may_unify S.Header g.arguments (args_forest ts i.trait_ref.args);
  steps = fresh (map parameter_kind i.parameters) ∷ equate g.arguments (args_forest ts i.trait_ref.args) ∷ equate (alone given) (alone g.term) ∷ nested (map (clause_tree ts) i.wheres);
  certainty = Yes;
}

-- The language has no rule for such goals, and of an object a match is enough.
abbrev pub projection_rules : Given → KindRules ProjectionGoal
projection_rules given = record {
  env_of = λ g. g.env;
  reference_of = reference_of_item;
  trees_of = λ g. join g.arguments (alone g.term);
  with_self_type = λ g t. record g { arguments = with_first t g.arguments };
  fits = λ c g h. is_about g.item h;
  compared = λ g. g.arguments;
  match_steps = match_projection;
  impl_part = λ c m g n. maybe no_impl (λ i. part_with c.trees g i (given c n g.item)) (impl_at c n);
  builtin_rule = λ r c g. asking_rule g.env false Yes;
  asks_of_objects = false;
}
