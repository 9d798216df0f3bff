use Rattle.std.proofs.Common.{refl, ◌∙◌, ap}
use Rattle.ir_trees.specs.Syntax.Trees.{TypeKind, ArgumentsKind, holds, is_param}
use Rattle.ir_trees.proofs.Growth.Made.{IsTy-grows, IsArgs-grows}
use Rattle.assembly_notation.proofs.Lacking.{lacks-grows, made-lacks, args-lacks, fn-lacks}
use Rattle.ir_trees.proofs.Growth.Kept.{grows-trans}
use Rattle.assembly_notation.proofs.building.fn_pointer.Goals as goal

pub ty-requires : goal.ty-requires
ty-requires g c =
    let inputs = IsArgs-grows _ _ c.in_ok-inputs.inputs c.binder.ensures.grows c.in_ok-inputs.ensures.sort in
    let vars = c.in_ok-vars.ensures.sort in
    let now = IsTy-grows _ _ c.args.output c.args-2.ensures.kept c.requires.output in
    let output = IsTy-grows _ _ c.args.output c.binder.ensures.grows now in
    cc

pub returns-clause-no_param : goal.returns-clause-no_param
returns-clause-no_param g c =
    let inputs = c.in_ok-inputs.inputs in
    let is = c.in_ok-inputs.ensures.sort in
    let output = c.args.output in
    let now = IsTy-grows _ _ output c.args-2.ensures.kept c.requires.output in
    made-lacks _ c.ty.result _ _ c.ty.ensures.tree
    (λ s. fn-lacks _ c.args.form.safe c.args.form.rust_abi c.args.is_variadic c.in_ok-vars.vars inputs output c.in_ok-vars.ensures.no_param
    (lacks-grows _ _ inputs.0 ArgumentsKind c.binder.ensures.grows refl is (args-lacks _ inputs is (ap (holds is_param) c.in_ok-inputs.ensures.tree ∙ c.requires.no_param s)))
    (lacks-grows _ _ output.0 TypeKind c.binder.ensures.grows refl now
    (lacks-grows _ _ output.0 TypeKind c.args-2.ensures.kept refl c.requires.output (c.requires.output_no_param s))))

pub returns-in_err-vars-clause-grows : goal.returns-in_err-vars-clause-grows
returns-in_err-vars-clause-grows g c = grows-trans _ _ _ c.args-2.ensures.kept c.binder.ensures.grows

pub returns-clause-grows : goal.returns-clause-grows
returns-clause-grows g c = grows-trans _ _ _ (grows-trans _ _ _ c.args-2.ensures.kept c.binder.ensures.grows) c.ty.ensures.grows
