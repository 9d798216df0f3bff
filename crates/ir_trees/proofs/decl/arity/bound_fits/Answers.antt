use Rattle.ir_trees.specs.Declarations.Context.{world_of}
use Rattle.ir_trees.proofs.Kinding.Arity.{trait-bound-tests, projection-bound-tests, auto-bound-tests}
use Rattle.ir_trees.proofs.decl.arity.bound_fits.Goals as goal

pub returns-in-Trait : goal.returns-in-Trait
returns-in-Trait c =
    trait-bound-tests (world_of c.args.definitions.now) _ _ c.args.bound c.in-Trait.trait_ref _ c.in-Trait.is c.requires
    (c.args-in-Trait.ensures.fits, c.args-in-Trait.ensures.tree) c.takes.ensures

pub returns-in-Projection : goal.returns-in-Projection
returns-in-Projection c =
    projection-bound-tests (world_of c.args.definitions.now) _ _ c.args.bound c.in-Projection.projection _ c.in-Projection.is c.requires
    (c.args-in-Projection.ensures.fits, c.args-in-Projection.ensures.tree) c.takes-in-Projection.ensures

pub returns-in-AutoTrait : goal.returns-in-AutoTrait
returns-in-AutoTrait c =
    auto-bound-tests (world_of c.args.definitions.now) _ _ c.args.bound c.in-AutoTrait.id c.in-AutoTrait.is c.requires c.takes-in-AutoTrait.ensures
