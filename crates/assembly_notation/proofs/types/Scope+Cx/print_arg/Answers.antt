use Rattle.std.proofs.Common.{◌≡◌, string_bytes, subst, ap, ◌∙◌}
use Rattle.std.specs.Prelude.{OnOk}
use Rattle.ir_trees.specs.declared.ir.kinds.GenericArg.TheVariants as A
use Rattle.ir_trees.specs.Instantiation.Folds.{IsArg, arg_tree}
use Rattle.assembly_notation.specs.Spelling.{AddsSpaces, tree_words}
use Rattle.assembly_notation.proofs.Printed.{const-word, prints-one, region-word, space-is}
use Rattle.assembly_notation.proofs.types.Scope+Cx.print_arg.Goals as goal

pub returns-in-Const : goal.returns-in-Const
returns-in-Const c =
    let ts = c.args.self.now.maker.trees in
    let r = c.print_constant.result in
    let new = string_bytes c.print_constant.new.text in
    let is : IsArg ts (A.Const c.in-Const.constant) = subst (IsArg ts) c.in-Const.is c.requires in
    let w : tree_words (arg_tree ts c.args.arg) ≡ 1 = ap (λ a. tree_words (arg_tree ts a)) c.in-Const.is ∙ const-word ts c.in-Const.constant.0 is in
    prints-one r (arg_tree ts c.args.arg) _ new w (subst (λ old. OnOk r (AddsSpaces 0 old new)) (space-is _ _ c.in_ok-push.ensures.bytes) c.print_constant.ensures)

pub returns-in-Region : goal.returns-in-Region
returns-in-Region c =
    let ts = c.args.self.now.maker.trees in
    let r = c.print_region.result in
    let new = string_bytes c.print_region.new.text in
    let is : IsArg ts (A.Region c.in-Region.region) = subst (IsArg ts) c.in-Region.is c.requires in
    let w : tree_words (arg_tree ts c.args.arg) ≡ 1 = ap (λ a. tree_words (arg_tree ts a)) c.in-Region.is ∙ region-word ts c.in-Region.region.0 is in
    prints-one r (arg_tree ts c.args.arg) _ new w (subst (λ old. OnOk r (AddsSpaces 0 old new)) (space-is _ _ c.in_ok-push.ensures.bytes) c.print_region.ensures)
