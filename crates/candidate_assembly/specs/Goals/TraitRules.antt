-- What goals of traits give to assembly.
use Rattle.std.specs.Prelude.{true, []}
use Rattle.ir_trees.specs.Syntax.Trees.{Forest}
use Rattle.candidate_eval.specs.Derivations.ImplRules.{TraitGoal}
use Rattle.candidate_eval.specs.Judges.States.{Env}
use Rattle.candidate_assembly.specs.Rules.BuiltinRules.{trait_rule}
use Rattle.candidate_assembly.specs.Goals.KindBounds.{KindBounds}
use Rattle.candidate_assembly.specs.Goals.Kinds.{KindRules}
use Rattle.candidate_assembly.specs.Goals.TraitGoals.{fits, impl_part_at, match_trait, with_self_type}
use Rattle.candidate_assembly.specs.Rules.Unsizing.{unsizing_rules, unsizing_target}

abbrev pub trait_rules : KindRules TraitGoal
trait_rules = record {
  env_of = λ g. g.env;
  reference_of = λ c g. g.reference;
  trees_of = λ g. g.reference.arguments;
  with_self_type = with_self_type;
  fits = fits;
  compared = λ g. g.reference.arguments;
  match_steps = match_trait;
  impl_part = impl_part_at;
  builtin_rule = trait_rule;
  asks_of_objects = true;
}

abbrev pub with_arguments : TraitGoal → Env → Forest → TraitGoal
with_arguments g e ts = record { env = e; reference = record { trait = g.reference.trait; arguments = ts }; polarity = g.polarity }

abbrev pub trait_bounds : KindBounds TraitGoal
trait_bounds = record { with_trees = with_arguments; additional = λ c g t. []; unsizing_target = unsizing_target; unsizing_rules = unsizing_rules }
