use Rattle.std.proofs.Common.{sym, ◌∙◌}
use Rattle.candidate_eval.proofs.Frontier.ShapeLemmas.{fundamental-shape, foreign-shape}
use Rattle.candidate_eval.proofs.coherence.table.shape_of_adt.Goals as goal

pub returns-then-is_fundamental : goal.returns-then-is_fundamental
returns-then-is_fundamental c =
    fundamental-shape c.args.cx.now _ c.args.id c.args.args c.requires (sym c.passes.ensures ∙ c.if-passes.false)
    (sym c.is_fundamental.ensures ∙ c.if-is_fundamental.true)

pub returns-else-is_fundamental : goal.returns-else-is_fundamental
returns-else-is_fundamental c =
    foreign-shape c.args.cx.now c.args.in_crate c.args.id c.args.args (sym c.passes.ensures ∙ c.if-passes.false)
    (sym c.is_fundamental.ensures ∙ c.if-is_fundamental.false)
