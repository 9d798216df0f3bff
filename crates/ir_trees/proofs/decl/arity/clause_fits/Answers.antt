use Rattle.std.proofs.Common.{refl}
use Rattle.ir_trees.specs.Declarations.Context.{world_of}
use Rattle.ir_trees.proofs.Kinding.Arity.{trait-clause-tests, projection-clause-tests, either-outlives, relate-takes, equate-takes, surely}
use Rattle.ir_trees.proofs.decl.arity.clause_fits.Goals as goal

pub returns-in-Trait : goal.returns-in-Trait
returns-in-Trait c =
    trait-clause-tests (world_of c.args.definitions.now) _ _ c.args.clause c.in-Trait.predicate _ c.in-Trait.is c.requires
    (c.args-in-Trait.ensures.fits, c.args-in-Trait.ensures.tree) c.takes_after_self.ensures

pub returns-in-Projection : goal.returns-in-Projection
returns-in-Projection c =
    projection-clause-tests (world_of c.args.definitions.now) _ _ c.args.clause c.in-Projection.predicate _ c.in-Projection.is c.requires
    (c.args-in-Projection.ensures.fits, c.args-in-Projection.ensures.tree) c.takes_after_self-in-Projection.ensures

pub returns-in-TypeOutlives : goal.returns-in-TypeOutlives
returns-in-TypeOutlives c = surely _ refl (either-outlives (world_of c.args.definitions.now) _ c.args.clause c.in-TypeOutlives.is c.requires)

pub returns-in-AliasRelate : goal.returns-in-AliasRelate
returns-in-AliasRelate c = surely _ refl (relate-takes (world_of c.args.definitions.now) _ c.args.clause c.in-AliasRelate.field-0 c.in-AliasRelate.field-1 c.in-AliasRelate.is c.requires)

pub returns-in-ConstEquate : goal.returns-in-ConstEquate
returns-in-ConstEquate c = surely _ refl (equate-takes (world_of c.args.definitions.now) _ c.args.clause c.in-ConstEquate.field-0 c.in-ConstEquate.field-1 c.in-ConstEquate.is c.requires)
