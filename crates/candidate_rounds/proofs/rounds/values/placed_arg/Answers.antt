use Rattle.std.proofs.Common.{refl, sym, ◌∙◌, ap, reverse}
use Rattle.ir_trees.specs.Syntax.Trees.{kind_of}
use Rattle.ir_trees.proofs.Traversal.Asking.{arg-below, arg-head}
use Rattle.std.proofs.lemmas.Result.{err_from_is_err_and}
use Rattle.candidate_rounds.proofs.Stops.Stopping.{region-unmade}
use Rattle.std.specs.Prelude.{option_map}
use Rattle.ir_trees.specs.Syntax.Nodes.{tree_at}
use Rattle.ir_trees.specs.Syntax.Words.{region_kind_tree}
use Rattle.rounds_judge.specs.Equations.Scopes.{placed_head}
use Rattle.candidate_rounds.proofs.rounds.values.placed_arg.Goals as goal

pub head-requires : goal.head-requires
head-requires c = rw c.number.ensures (arg-below c.args.cx.now.trees c.args.arg c.requires)

pub returns-clause-kind : goal.returns-clause-kind
returns-clause-kind c =
    (c.in_ok-mk_region.ensures.made.sort, sym (ap kind_of c.in-Region.is) ∙ arg-head c.args.cx.now c.args.cx.now c.args.arg _ _ refl c.number.ensures c.requires c.head.ensures)

pub returns-in_err-mk_region-clause-cause : goal.returns-in_err-mk_region-clause-cause
returns-in_err-mk_region-clause-cause c =
    let p = err_from_is_err_and c.from_residual.result c.from_residual.ensures.1 in
    let ts = c.args.cx.now.trees in
    let us = reverse c.args.universes.now in
    rw (p.1, p.2)
    (region-unmade c.args.cx.now c.mk_region.new.self c.in-Some.placeholder _ _
    (sym (ap (option_map region_kind_tree) c.in-Some.is)
    ∙ (c.placeholder_for.ensures ∙ ap (placed_head us c.args.binders) (sym c.in-Region.is ∙ (c.head.ensures ∙ ap (λ n. (tree_at ts n).head) c.number.ensures))))
    c.in_err-mk_region.ensures.made.unchanged c.in_err-mk_region.ensures.made.cause)
