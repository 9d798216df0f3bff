use Rattle.std.proofs.Common.{IfOk, sym, subst}
use Rattle.ir_trees.specs.Declarations.Context.{Context}
use Rattle.assembly_text.specs.Reasons.{AreReasoned}
use Rattle.assembly_text.proofs.reasons.ask_reasoned.Goals as goal

pub returns-in-Ok-clause-sorts : goal.returns-in-Ok-clause-sorts
returns-in-Ok-clause-sorts c = subst (λ (x : Context). IfOk c.find_open-reasoned.result (AreReasoned x.trees)) (sym c.context_of.ensures) c.find_open-reasoned.ensures.sorts
