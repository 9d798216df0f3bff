use Rattle.std.proofs.Common.{refl}
use Rattle.ir_trees.specs.Declarations.Context.{world_of}
use Rattle.ir_trees.proofs.Kinding.Arity.{unevaluated-tests, plain-constant-takes, surely}
use Rattle.ir_trees.proofs.decl.arity.const_fits.Goals as goal

pub returns-in-Unevaluated : goal.returns-in-Unevaluated
returns-in-Unevaluated c =
    unevaluated-tests (world_of c.args.definitions.now) _ _ _ c.in-Unevaluated.id _ _ c.in-Unevaluated.is c.requires
    (c.args-in-Unevaluated.ensures.fits, c.args-in-Unevaluated.ensures.tree) c.takes_after_self.ensures

pub returns-in_default : goal.returns-in_default
returns-in_default c = surely _ refl (plain-constant-takes (world_of c.args.definitions.now) _ _ c.in_default.not-Unevaluated)
