use Rattle.std.proofs.Common.{◌+◌, arith, ap, ◌∙◌}
use Rattle.assembly_notation.specs.Spelling.{spaces}
use Rattle.assembly_notation.proofs.Lines.{number-spaces}
use Rattle.assembly_notation.proofs.Printed.{adds-text, adds-both, adds-as}
use Rattle.assembly_notation.proofs.types.print_number.Goals as goal

pub returns : goal.returns
returns c =
    let mark = c.args.mark.now in
    adds-as (spaces mark + 0) (spaces mark) _ _ (omega arith)
    (adds-both (spaces mark) 0 _ _ _ (adds-text _ mark _ (spaces mark) c.in_ok-push_str.ensures.bytes (λ i. spaces mark))
    (adds-text _ c.format.result.now _ 0 c.in_ok-push_str-2.ensures.bytes (ap spaces c.format.ensures.text ∙ number-spaces c.args.number c.ranges.number.fits)))
