use Rattle.std.proofs.Common.{◌≡◌, ℕ, refl, sym, ◌∙◌, ap}
use Rattle.ir_trees.specs.declared.ir.heads.Head.TheVariants as H
use Rattle.ir_trees.specs.declared.ir.heads.ConstHead.TheVariants as CH
use Rattle.ir_trees.specs.Instantiation.Folding.{put_if_there}
use Rattle.ir_trees.specs.Instantiation.Folds.{arg_tree}
use Rattle.ir_trees.specs.Syntax.Nodes.{tree_at}
use Rattle.ir_trees.specs.Syntax.Words.{args_forest}
use Rattle.ir_trees.proofs.Traversal.Asking.{arg-head, arg-below}
use Rattle.ir_folds.proofs.Instantiation.Substituting.{type-there, constant-there, type-other, constant-other, not-both}
use Rattle.ir_folds.proofs.decl.subst.argument_for.Goals as goal

pub head-requires : goal.head-requires
head-requires c = rw c.number.ensures (arg-below c.args.cx.now.trees c.args.arg c.requires.arg)

pub returns-then-is_of : goal.returns-then-is_of
returns-then-is_of c =
    let ts = c.args.cx.now.trees in
    let found = c.in_ok-value-in-Param.ensures in
    let head : (arg_tree ts c.args.arg).head ≡ H.Param c.in-Param.index = sym (c.in-Param.ensures ∙ ap (λ (n : ℕ). (tree_at ts n).head) c.number.ensures) in
    let kind = sym (c.is_of.ensures.0 c.if-is_of.true) in (
      found.0,
      kind ∙ arg-head c.args.cx.now c.args.cx.now c.args.arg c.number.result (H.Param c.in-Param.index) refl c.number.ensures c.requires.arg c.in-Param.ensures,
      λ d. ap (put_if_there (args_forest ts c.args.args) d) head ∙ type-there (args_forest ts c.args.args) c.in-Param.index d ts c.in_ok-value-in-Param.value found.1 found.2 found.0 kind,
    )

pub returns-else-is_of : goal.returns-else-is_of
returns-else-is_of c =
    let ts = c.args.cx.now.trees in
    let found = c.in_ok-value-in-Param.ensures in
    let head : (arg_tree ts c.args.arg).head ≡ H.Param c.in-Param.index = sym (c.in-Param.ensures ∙ ap (λ (n : ℕ). (tree_at ts n).head) c.number.ensures) in
    λ d. ap (put_if_there (args_forest ts c.args.args) d) head
    ∙ type-other (args_forest ts c.args.args) c.in-Param.index d ts c.in_ok-value-in-Param.value found.2 found.0 (λ e. not-both _ (c.is_of.ensures.1 e) c.if-is_of.false)

pub returns-then-is_of-2 : goal.returns-then-is_of-2
returns-then-is_of-2 c =
    let ts = c.args.cx.now.trees in
    let found = c.in_ok-value-in-Const-Param.ensures in
    let was : c.head.result ≡ H.Const (CH.Param c.in-Const-Param.index) = c.in-Const-Param.is ∙ ap H.Const c.in-Const-Param.field-0-is in
    let here : H.Const (CH.Param c.in-Const-Param.index) ≡ (tree_at ts c.number.result).head = sym was ∙ c.head.ensures in
    let head : (arg_tree ts c.args.arg).head ≡ H.Const (CH.Param c.in-Const-Param.index) = sym (here ∙ ap (λ (n : ℕ). (tree_at ts n).head) c.number.ensures) in
    let kind = sym (c.is_of-in-Const-Param.ensures.0 c.if-is_of-2.true) in (
      found.0,
      kind ∙ arg-head c.args.cx.now c.args.cx.now c.args.arg c.number.result (H.Const (CH.Param c.in-Const-Param.index)) refl c.number.ensures c.requires.arg here,
      λ d. ap (put_if_there (args_forest ts c.args.args) d) head ∙ constant-there (args_forest ts c.args.args) c.in-Const-Param.index d ts c.in_ok-value-in-Const-Param.value found.1 found.2 found.0 kind,
    )

pub returns-else-is_of-2 : goal.returns-else-is_of-2
returns-else-is_of-2 c =
    let ts = c.args.cx.now.trees in
    let found = c.in_ok-value-in-Const-Param.ensures in
    let was : c.head.result ≡ H.Const (CH.Param c.in-Const-Param.index) = c.in-Const-Param.is ∙ ap H.Const c.in-Const-Param.field-0-is in
    let here : H.Const (CH.Param c.in-Const-Param.index) ≡ (tree_at ts c.number.result).head = sym was ∙ c.head.ensures in
    let head : (arg_tree ts c.args.arg).head ≡ H.Const (CH.Param c.in-Const-Param.index) = sym (here ∙ ap (λ (n : ℕ). (tree_at ts n).head) c.number.ensures) in
    λ d. ap (put_if_there (args_forest ts c.args.args) d) head
    ∙ constant-other (args_forest ts c.args.args) c.in-Const-Param.index d ts c.in_ok-value-in-Const-Param.value found.2 found.0 (λ e. not-both _ (c.is_of-in-Const-Param.ensures.1 e) c.if-is_of-2.false)
