-- What a goal of the context is, in two parts.
use Rattle.std.specs.Prelude.{◌≡◌, false}
use Rattle.ir_trees.specs.declared.ir.kinds.AliasKind.TheVariants as K
use Rattle.ir_trees.specs.declared.ir.kinds.TraitId.{TraitId}
use Rattle.ir_trees.specs.Declarations.Context.{Context}
use Rattle.ir_trees.specs.Declarations.Lookups.{assoc_trait, definition}
use Rattle.ir_trees.specs.Declarations.References.{ArgumentsFit}
use Rattle.ir_trees.specs.Instantiation.Owned.{AliasArgumentsFit}
use Rattle.ir_trees.specs.Syntax.Binders.{escapes}
use Rattle.ir_trees.specs.Syntax.Trees.{holds, is_param, join}
use Rattle.ir_trees.specs.Syntax.Words.{args_forest, ty_tree}
use Rattle.ir_trees.specs.Unification.Substitutions.{alone}
use Rattle.candidate_assembly.specs.Goals.Projections.{trait_number}
use Rattle.projection_goals.specs.declared.kind.NormalizesTo.{NormalizesTo}

-- It is about a projection, with the arguments that the associated type and its trait take.
pub record Fits (c : Context) (p : NormalizesTo) : Type 0 where
  pub projection : p.alias.kind ≡ K.Projection
  pub of : TraitId
  pub named : of.0 ≡ trait_number (assoc_trait (definition c p.alias.id.0))
  pub alias_fits : AliasArgumentsFit c p.alias
  pub reference_fits : ArgumentsFit c (record { def_id = of; args = p.alias.args })

-- Neither a parameter nor an escaping bound variable stands in it.
pub record IsClosed (c : Context) (p : NormalizesTo) : Type 0 where
  pub no_parameter : holds is_param (join (args_forest c.trees p.alias.args) (alone (ty_tree c.trees p.term))) ≡ false
  pub closed : escapes 0 (join (args_forest c.trees p.alias.args) (alone (ty_tree c.trees p.term))) ≡ false
