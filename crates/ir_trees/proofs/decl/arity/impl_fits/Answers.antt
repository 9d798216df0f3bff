use Rattle.std.proofs.Common.{ap}
use Rattle.ir_trees.specs.Declarations.Contents.{Impl}
use Rattle.ir_trees.specs.Declarations.Context.{world_of}
use Rattle.ir_trees.proofs.Validity.Headers.{header_fits, no_header_fits}
use Rattle.ir_trees.proofs.decl.arity.impl_fits.Goals as goal

pub returns-then-not-is_args : goal.returns-then-not-is_args
returns-then-not-is_args c =
    no_header_fits (world_of c.args.definitions.now) c.args.nodes.now c.args.of.now c.of.inside.trait_ref _ (ap (λ (i : Impl). i.trait_ref) c.of.view_is) c.is_args.ensures c.if-not-is_args.true

pub returns : goal.returns
returns c =
    header_fits (world_of c.args.definitions.now) c.args.nodes.now c.args.of.now c.of.inside.trait_ref _ _ (ap (λ (i : Impl). i.trait_ref) c.of.view_is) (c.is_args.ensures.0 c.if-not-is_args.false)
    c.args-2.ensures.fits c.args-2.ensures.tree c.takes_after_self.ensures
