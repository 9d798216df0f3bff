use Rattle.std.proofs.Common.{◌≡◌, false, Option, IfSome, sym, subst}
use Rattle.ir_trees.specs.declared.ir.kinds.Ty.{Ty}
use Rattle.ir_trees.specs.Instantiation.Folding.{lacks_argument}
use Rattle.ir_trees.specs.Instantiation.Owned.{is_unsolved}
use Rattle.ir_trees.specs.Syntax.Binders.{tree_escapes}
use Rattle.ir_trees.specs.Syntax.Trees.{tree_holds}
use Rattle.ir_trees.specs.Syntax.Words.{IsTy, args_forest, ty_tree}
use Rattle.ir_context.proofs.Instantiation.Declared.{value_has, value_sort}
use Rattle.ir_context.proofs.decl.context.Cx.assoc_value.Goals as goal

pub returns-in-Some-clause-sort : goal.returns-in-Some-clause-sort
returns-in-Some-clause-sort c =
    let ts = c.args.self.now.trees in
    let args = args_forest ts c.args.args in
    subst (λ (o : Option Ty). IfSome o (IsTy ts)) (sym c.value.ensures) (value_sort ts args c.args.assoc c.in-Some.contents.now c.in-Some.ensures.owned)

pub returns-in-Some-clause-has : goal.returns-in-Some-clause-has
returns-in-Some-clause-has c =
    let ts = c.args.self.now.trees in
    let args = args_forest ts c.args.args in
    let P : Ty → Type 0 = λ t. tree_holds (lacks_argument args) (ty_tree ts t) ≡ false in
    subst (λ (o : Option Ty). IfSome o P) (sym c.value.ensures) (value_has ts args c.args.assoc c.in-Some.contents.now c.in-Some.ensures.owned P (λ v. v.have))

pub returns-in-Some-clause-closed : goal.returns-in-Some-clause-closed
returns-in-Some-clause-closed c =
    let ts = c.args.self.now.trees in
    let args = args_forest ts c.args.args in
    let P : Ty → Type 0 = λ t. tree_holds is_unsolved (ty_tree ts t) ≡ false in
    subst (λ (o : Option Ty). IfSome o P) (sym c.value.ensures) (value_has ts args c.args.assoc c.in-Some.contents.now c.in-Some.ensures.owned P (λ v. v.closed))

pub returns-in-Some-clause-bound : goal.returns-in-Some-clause-bound
returns-in-Some-clause-bound c =
    let ts = c.args.self.now.trees in
    let args = args_forest ts c.args.args in
    let P : Ty → Type 0 = λ t. tree_escapes 0 (ty_tree ts t) ≡ false in
    subst (λ (o : Option Ty). IfSome o P) (sym c.value.ensures) (value_has ts args c.args.assoc c.in-Some.contents.now c.in-Some.ensures.owned P (λ v. v.bound))
