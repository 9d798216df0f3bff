use Rattle.std.proofs.Common.{IfOk, subst, sym}
use Rattle.ir_trees.specs.Declarations.Context.{Context, Grows}
use Rattle.assembly_text.specs.Solving.{AreValues, IsReadGoal, IsSolvedBefore}
use Rattle.assembly_text.proofs.Answered.{over-all}
use Rattle.assembly_text.proofs.Giving.{given_declared, declared_grows}
use Rattle.assembly_text.proofs.asking.Asking.solved_for_values.Goals as goal

pub solve_for_values-maker-requires-clause-given : goal.solve_for_values-maker-requires-clause-given
solve_for_values-maker-requires-clause-given c = given_declared c.apart-maker.result.0 _ c.apart-maker.ensures.given_is_declared

pub solve_for_values-maker-requires-clause-read : goal.solve_for_values-maker-requires-clause-read
solve_for_values-maker-requires-clause-read c = subst (λ (x : Context). IsReadGoal x c.args.predicate) (sym c.apart-maker.ensures.context) c.requires.read

pub with-requires : goal.with-requires
with-requires c = declared_grows _ _ _ c.solve_for_values-maker.ensures.grows c.apart-maker.ensures.given_is_declared

pub returns-clause-grows : goal.returns-clause-grows
returns-clause-grows c = over-all (λ x g y. Grows x y) _ _ _ _ _ _ c.apart-maker.ensures.context c.apart-maker.ensures.given c.with.ensures.context c.solve_for_values-maker.ensures.grows

pub returns-clause-comes : goal.returns-clause-comes
returns-clause-comes c =
    over-all (λ x g y. IfOk c.solve_for_values-maker.result.1 (λ s. IsSolvedBefore x g c.args.predicate c.args.effort y s.verdict)) _ _ _ _ _ _ c.apart-maker.ensures.context c.apart-maker.ensures.given c.with.ensures.context c.solve_for_values-maker.ensures.comes

pub returns-clause-sorts : goal.returns-clause-sorts
returns-clause-sorts c = subst (λ (x : Context). IfOk c.solve_for_values-maker.result.1 (λ s. AreValues x.trees s.values.items)) (sym c.with.ensures.context) c.solve_for_values-maker.ensures.sorts
