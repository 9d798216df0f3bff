use Rattle.std.proofs.Common.{rules, inr, subst}
use Rattle.ir_trees.specs.Declarations.Context.{Context}
use Rattle.ir_trees.specs.Validity.ListedImpls.{ListsImpls}
use Rattle.ir_context.proofs.Validity.Faults.{tail_lowest, item_lowest, limit_lowest}
use Rattle.ir_context.proofs.Validity.WellFormed.{nothing_wrong}
use Rattle.ir_builder.proofs.decl.builder.DeclsBuilder.fault.Goals as goal

pub returns-then-any_lacks_tail : goal.returns-then-any_lacks_tail
returns-then-any_lacks_tail c = inr (tail_lowest _ (search rules) (search rules) (search rules) (search rules) c.in_default.ensures (search rules))

pub returns-then-any_item_has_wrong_arity : goal.returns-then-any_item_has_wrong_arity
returns-then-any_item_has_wrong_arity c =
    inr (item_lowest _ (search rules) (search rules) (search rules) (search rules) c.in_default.ensures (search rules) (search rules))

pub returns-then-is_bad : goal.returns-then-is_bad
returns-then-is_bad c =
    inr (limit_lowest _ (search rules) (search rules) (search rules) (search rules) c.in_default.ensures (search rules) (search rules) (search rules))

pub returns : goal.returns
returns c =
    let listed = subst (λ (v : Context). ListsImpls v.declarations v.contents.traits v.contents.impls v.contents.misnamed) c.self.view_is c.self.invariant in
    nothing_wrong _ listed (search rules) (search rules) (search rules) (search rules) c.in_default.ensures (search rules) (search rules) (search rules)
