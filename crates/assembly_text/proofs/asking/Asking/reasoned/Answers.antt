use Rattle.std.proofs.Common.{IfOk, sym, subst}
use Rattle.ir_trees.specs.Declarations.Context.{Context}
use Rattle.assembly_text.proofs.Giving.{given_declared, declared_grows}
use Rattle.assembly_text.specs.Reasons.{AreReasoned}
use Rattle.assembly_text.proofs.asking.Asking.reasoned.Goals as goal

pub ask_reasoned-maker-requires-clause-given : goal.ask_reasoned-maker-requires-clause-given
ask_reasoned-maker-requires-clause-given c = given_declared c.apart-maker.result.0 _ c.apart-maker.ensures.given_is_declared

pub with-requires : goal.with-requires
with-requires c = declared_grows _ _ _ c.ask_reasoned-maker.ensures.grows c.apart-maker.ensures.given_is_declared

pub returns-clause-sorts : goal.returns-clause-sorts
returns-clause-sorts c = subst (λ (x : Context). IfOk c.ask_reasoned-maker.result.1 (AreReasoned x.trees)) (sym c.with.ensures.context) c.ask_reasoned-maker.ensures.sorts
