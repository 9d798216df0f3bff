use Rattle.ir_trees.proofs.Growth.Made.{IsArgs-grows}
use Rattle.examples.proofs.declared.clause.Goals as goal

pub mk_clause-requires-clause-fits : goal.mk_clause-requires-clause-fits
mk_clause-requires-clause-fits c =
    let args = IsArgs-grows _ _ c.in_ok-trait_ref.trait_ref.args c.mk_vars.ensures.made.kept c.in_ok-trait_ref.ensures in
    let vars = c.in-Ok.ensures.made.sort in
    cc
