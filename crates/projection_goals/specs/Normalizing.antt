-- Goals that a projection is a term, as a kind of goals: what they are, the rules that `Projections` has for them, over the values that impls
-- declare, and those of the language.
use Rattle.std.specs.Prelude.{ℕ, Bool, true, false, ◌&&◌, Option, Some, None, List, [], ◌∷◌, length, option_map, if◌then◌else◌}
use Rattle.ir_trees.specs.declared.decl.contents.ImplId.{ImplId}
use Rattle.ir_trees.specs.declared.ir.kinds.Args.{Args}
use Rattle.ir_trees.specs.declared.ir.kinds.ParamEnv.{ParamEnv}
use Rattle.ir_trees.specs.declared.ir.kinds.PredicatePolarity.TheVariants.{Positive}
use Rattle.ir_trees.specs.declared.ir.kinds.Ty.{Ty}
use Rattle.ir_trees.specs.Declarations.Context.{Context, world}
use Rattle.ir_trees.specs.Declarations.Contents.{Impl}
use Rattle.ir_trees.specs.Declarations.Declaring.{impl_at}
use Rattle.ir_trees.specs.Declarations.Lookups.{assoc_trait, definition, maybe, value_of}
use Rattle.ir_trees.specs.Declarations.Worlds.{AssociatedTypeSort, Reference, TraitSort, parameters}
use Rattle.ir_trees.specs.Syntax.Trees.{ConstantKind, Forest, Kind, RegionKind, Tree, TypeKind, join, none, tree}
use Rattle.ir_trees.specs.Syntax.Words.{args_forest, env_forest, ty_tree}
use Rattle.ir_trees.specs.Unification.Substitutions.{alone}
use Rattle.candidate_eval.specs.declared.eval.mode.TypingMode.{TypingMode}
use Rattle.candidate_eval.specs.Derivations.ImplRules.{TraitGoal}
use Rattle.candidate_eval.specs.Dynamic.ObjectRequirements.{first_tree}
use Rattle.candidate_eval.specs.Dynamic.Objects.{is_about}
use Rattle.candidate_eval.specs.Interface.Shown.{View}
use Rattle.candidate_eval.specs.Judges.States.{Env}
use Rattle.candidate_assembly.specs.Goals.KindBounds.{KindBounds}
use Rattle.candidate_assembly.specs.Goals.Kinds.{ImplPart, KindRules}
use Rattle.candidate_assembly.specs.Goals.KindShown as shown
use Rattle.candidate_assembly.specs.Goals.Projections.{Given, ProjectionGoal, match_projection, projection_rules, trait_number}
use Rattle.candidate_assembly.specs.Goals.TraitGoals.{with_first}
use Rattle.projection_goals.specs.declared.kind.NormalizesTo.{NormalizesTo}
use Rattle.projection_goals.specs.LanguageTypes.{language_rule}

-- An associated type with its arguments, and the term that it is to be, as a row of one tree.
pub record NormalizesGoal : Type 0 where
  pub env : Env
  pub item : ℕ
  pub arguments : Forest
  pub term : Forest

abbrev pub as_projection : NormalizesGoal → ProjectionGoal
as_projection g = record { env = g.env; item = g.item; arguments = g.arguments; term = first_tree g.term }

-- the goal of an environment and a predicate, and the numbers that the predicate holds

abbrev pub normalizes_goal : List Tree → ParamEnv → NormalizesTo → NormalizesGoal
normalizes_goal ts env p = record {
  env = env_forest ts env;
  item = p.alias.id.0;
  arguments = args_forest ts p.alias.args;
  term = alone (ty_tree ts p.term);
}

abbrev pub alias_arguments : NormalizesTo → Args
alias_arguments p = p.alias.args

abbrev pub term_types : NormalizesTo → List Ty
term_types p = p.term ∷ []

-- An associated type takes what its trait does. Of what takes something else the reference is to no trait.

abbrev pub same_kind : Kind → Kind → Bool
same_kind TypeKind TypeKind = true
same_kind ConstantKind ConstantKind = true
same_kind RegionKind RegionKind = true
same_kind _ _ = false

abbrev pub same_kinds : List Kind → List Kind → Bool
same_kinds [] [] = true
same_kinds (k ∷ ks) (j ∷ js) = same_kind k j && same_kinds ks js
same_kinds _ _ = false

abbrev pub take_alike : Option (List Kind) → Option (List Kind) → Bool
take_alike (Some ks) (Some js) = same_kinds ks js
take_alike _ _ = false

abbrev pub trait_named : Context → ℕ → ℕ
trait_named c item = trait_number (assoc_trait (definition c item))

abbrev pub takes_as_trait : Context → ℕ → Bool
takes_as_trait c item = take_alike (parameters (world c) AssociatedTypeSort item) (parameters (world c) TraitSort (trait_named c item))

abbrev pub trait_of_item : Context → ℕ → ℕ
trait_of_item c item = if takes_as_trait c item then trait_named c item else length c.declarations

abbrev pub reference_of_goal : Context → NormalizesGoal → Reference
reference_of_goal c g = record { trait = trait_of_item c g.item; arguments = g.arguments }

-- Trees instead of a goal's own: as many as it has arguments, and what is left for the term.

abbrev pub as_many : Forest → Forest → Forest
as_many none ts = none
as_many (tree h a r) none = none
as_many (tree h a r) (tree g b s) = tree g b (as_many r s)

abbrev pub left_after : Forest → Forest → Forest
left_after none ts = ts
left_after (tree h a r) none = none
left_after (tree h a r) (tree g b s) = left_after r s

abbrev pub with_trees : NormalizesGoal → Env → Forest → NormalizesGoal
with_trees g e ts = record { env = e; item = g.item; arguments = as_many g.arguments ts; term = left_after g.arguments ts }

-- What an impl declares the associated type to be, if it says so, as a tree.

abbrev pub value_in : List Tree → ℕ → Option Impl → Option Tree
value_in ts item o = maybe None (λ (i : Impl). option_map (ty_tree ts) (value_of (record { 0 = item }) i)) o

abbrev pub values : Given
values c n item = value_in c.trees item (impl_at c n)

-- by an impl: the rule for a projection
abbrev pub impl_part : Context → TypingMode → NormalizesGoal → ImplId → ImplPart
impl_part c m g n = (projection_rules values).impl_part c m (as_projection g) n

-- the goal of the associated type's trait, of the same arguments
abbrev pub goal_of_trait : Context → NormalizesGoal → TraitGoal
goal_of_trait c g = record { env = g.env; reference = reference_of_goal c g; polarity = Positive }

-- what is said of that goal and of the term, where an evaluator stands
abbrev pub by_language : {R : Type 0} → (TraitGoal → Forest → R) → View → ParamEnv → NormalizesTo → R
by_language says V env p = let g = normalizes_goal V.trees env p in says (goal_of_trait V.context g) g.term

-- Of an object a match is enough.
abbrev pub normalizes_rules : KindRules NormalizesGoal
normalizes_rules = record {
  env_of = λ g. g.env;
  reference_of = reference_of_goal;
  trees_of = λ g. join g.arguments g.term;
  with_self_type = λ g t. record g { arguments = with_first t g.arguments };
  fits = λ c g h. is_about g.item h;
  compared = λ g. g.arguments;
  match_steps = λ g t. match_projection (as_projection g) t;
  impl_part = impl_part;
  builtin_rule = λ r c g. language_rule r c (goal_of_trait c g) g.term;
  asks_of_objects = false;
}

-- nothing is added at an alias, and nothing unsizes
abbrev pub normalizes_bounds : KindBounds NormalizesGoal
normalizes_bounds = record { with_trees = with_trees; additional = λ c g t. []; unsizing_target = λ g. None; unsizing_rules = λ c supers g t. [] }

-- The kind, as one value.
abbrev pub normalizes_kind : shown.Kind NormalizesTo
normalizes_kind = record {
  Seen = NormalizesGoal;
  seen = normalizes_goal;
  arguments = alias_arguments;
  types = term_types;
  rules = normalizes_rules;
  bounds = normalizes_bounds;
}
