use Rattle.std.proofs.Common.{sym, ◌∙◌, ap}
use Rattle.ir_trees.specs.Declarations.Context.{world}
use Rattle.ir_trees.specs.Syntax.Words.{preds_forest}
use Rattle.candidate_eval.specs.Knowability.Orphan.{crate_test}
use Rattle.candidate_eval.specs.Calls.Table.{owned_in}
use Rattle.candidate_eval.proofs.Frontier.ShapeLemmas.{principal-some, principal-none}
use Rattle.candidate_eval.proofs.coherence.table.principal_class.Goals as goal

pub returns-in-Some : goal.returns-in-Some
returns-in-Some c =
    let cx = c.args.cx.now in
    c.owned_class.ensures
    ∙ ap owned_in
    (c.passes.ensures
    ∙ sym (principal-some (world cx) (crate_test c.args.in_crate cx.local.0) (preds_forest cx.trees c.args.preds) c.in-Some.id c.in-Some.ensures))

pub returns-in-None : goal.returns-in-None
returns-in-None c =
    let cx = c.args.cx.now in
    ap owned_in (sym (principal-none (world cx) (crate_test c.args.in_crate cx.local.0) (preds_forest cx.trees c.args.preds) c.in-None.ensures))
