use Rattle.std.proofs.Common.{IfOk, subst, sym}
use Rattle.ir_trees.specs.Declarations.Context.{Context, Grows}
use Rattle.assembly_text.specs.Normalizing.{IsNormal, IsNormalSolved, IsReadProjection}
use Rattle.assembly_text.proofs.Answered.{over-all}
use Rattle.assembly_text.proofs.Giving.{given_declared, declared_grows}
use Rattle.assembly_text.proofs.asking.Asking.normalized.Goals as goal

pub normalize-maker-requires-clause-given : goal.normalize-maker-requires-clause-given
normalize-maker-requires-clause-given c = given_declared c.apart-maker.result.0 _ c.apart-maker.ensures.given_is_declared

pub normalize-maker-requires-clause-projection : goal.normalize-maker-requires-clause-projection
normalize-maker-requires-clause-projection c = subst (λ (x : Context). IsReadProjection x c.args.alias) (sym c.apart-maker.ensures.context) c.requires.projection

pub with-requires : goal.with-requires
with-requires c = declared_grows _ _ _ c.normalize-maker.ensures.grows c.apart-maker.ensures.given_is_declared

pub returns-clause-grows : goal.returns-clause-grows
returns-clause-grows c = over-all (λ x g y. Grows x y) _ _ _ _ _ _ c.apart-maker.ensures.context c.apart-maker.ensures.given c.with.ensures.context c.normalize-maker.ensures.grows

pub returns-clause-comes : goal.returns-clause-comes
returns-clause-comes c =
    over-all (λ x g y. IfOk c.normalize-maker.result.1 (λ n. IsNormalSolved x g c.args.alias c.args.effort c.args.waits y n)) _ _ _ _ _ _ c.apart-maker.ensures.context c.apart-maker.ensures.given c.with.ensures.context c.normalize-maker.ensures.comes

pub returns-clause-sort : goal.returns-clause-sort
returns-clause-sort c = subst (λ (x : Context). IfOk c.normalize-maker.result.1 (IsNormal x.trees)) (sym c.with.ensures.context) c.normalize-maker.ensures.sort
