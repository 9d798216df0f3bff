use Rattle.std.proofs.Common.{sym, ◌∙◌}
use Rattle.assembly_notation.proofs.Tables.{table_has, table_goes_on, table_ends}
use Rattle.assembly_notation.proofs.words.listed.Goals as goal

pub returns-then-eq : goal.returns-then-eq
returns-then-eq g c =
    sym (c.loop-listed.invariant ∙ table_has _ _ _ _ c.loop-listed-test.true c.loop-listed-item.is (sym c.eq.ensures ∙ c.if-eq.true))

pub loop-listed-preserved : goal.loop-listed-preserved
loop-listed-preserved g c =
    c.loop-listed.invariant ∙ table_goes_on _ _ _ _ c.loop-listed-test.true c.loop-listed-item.is (sym c.eq.ensures ∙ c.if-eq.false)

pub returns : goal.returns
returns g c = sym (c.loop-listed.invariant ∙ table_ends _ _ c.loop-listed.listed-index c.loop-listed-test.false)
