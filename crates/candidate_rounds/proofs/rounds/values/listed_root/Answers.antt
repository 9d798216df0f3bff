use Rattle.std.proofs.Common.{sym, ◌∙◌, ap}
use Rattle.ir_trees.specs.Instantiation.Folds.{arg_tree}
use Rattle.candidate_rounds.specs.Evaluators.Known.{state_of}
use Rattle.ir_folds.proofs.Hierarchy.Implying.{arg-kept}
use Rattle.candidate_rounds.proofs.Resolution.Listing.{empty-root, listed-root, or-of-kind, other-root, types-kept}
use Rattle.std.proofs.lemmas.Result.{err_from_is_err_and}
use Rattle.candidate_rounds.proofs.rounds.values.listed_root.Goals as goal

pub returns-then-is_empty-clause-tree : goal.returns-then-is_empty-clause-tree
returns-then-is_empty-clause-tree c = λ m.
    empty-root c.args.cx.now.trees c.args.normal.now (state_of c.args.cx.now.trees m c.args.inference.now) (arg_tree c.args.cx.now.trees c.args.arg) (sym c.is_empty.ensures ∙ c.if-is_empty.true)

pub returns-then-not-is_alias-clause-tree : goal.returns-then-not-is_alias-clause-tree
returns-then-not-is_alias-clause-tree c = λ m.
    other-root c.args.cx.now c.args.cx.now (state_of c.args.cx.now.trees m c.args.inference.now) c.args.normal.now c.args.arg (sym c.is_alias.ensures ∙ c.if-not-is_alias.true)

pub listed_arg-requires-clause-types : goal.listed_arg-requires-clause-types
listed_arg-requires-clause-types c = types-kept c.args.cx.now c.resolved_arg.new.cx c.args.normal.now c.resolved_arg.ensures.grows c.requires.types

pub returns-clause-sort : goal.returns-clause-sort
returns-clause-sort c =
    rw c.unwrap_or.ensures
    (or-of-kind c.resolved_arg.new.cx.trees c.listed_arg.result c.args.arg c.in_ok-resolved.resolved
    (arg-kept c.args.cx.now c.resolved_arg.new.cx c.args.arg c.resolved_arg.ensures.grows c.requires.arg).0 c.in_ok-resolved.ensures.sort.1 c.listed_arg.ensures.kind)

pub returns-clause-tree : goal.returns-clause-tree
returns-clause-tree c = λ m.
    ap (arg_tree c.resolved_arg.new.cx.trees) c.unwrap_or.ensures
    ∙ listed-root c.args.cx.now c.resolved_arg.new.cx (state_of c.args.cx.now.trees m c.args.inference.now) c.args.normal.now c.args.arg c.in_ok-resolved.resolved c.listed_arg.result
    c.resolved_arg.ensures.grows c.requires.arg c.requires.types (sym c.is_alias.ensures ∙ c.if-not-is_alias.false) (c.in_ok-resolved.ensures.tree m) c.listed_arg.ensures.tree

pub returns-in_err-resolved-clause-cause : goal.returns-in_err-resolved-clause-cause
returns-in_err-resolved-clause-cause c = λ m.
    let p = err_from_is_err_and c.from_residual.result c.from_residual.ensures.1 in
    rw (p.1, p.2) (c.in_err-resolved.ensures.cause m)
