use Rattle.std.proofs.Common.{◌≡◌, false, subst, sym}
use Rattle.ir_trees.specs.Declarations.Context.{Context}
use Rattle.ir_trees.specs.Declarations.Limits.{has_bad_limit}
use Rattle.ir_trees.specs.Validity.WellFormed.{IsWellFormedTable}
use Rattle.ir_context.proofs.Validity.WellFormed.{limits-good, table_of}
use Rattle.ir_context.proofs.decl.context.Cx.limits.Goals as goal

pub returns-clause-good : goal.returns-clause-good
returns-clause-good c =
    let here = limits-good _ (subst IsWellFormedTable c.self.view_is (table_of _ c.self.invariant.0)) in
    subst (λ (v : Context). has_bad_limit v.limits ≡ false) (sym c.self.view_is) here
