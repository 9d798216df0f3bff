use Rattle.ir_trees.proofs.Growth.Made.{IsTy-grows}
use Rattle.examples.proofs.calls.contexts.closure_sig.Goals as goal

pub mk_sig-requires : goal.mk_sig-requires
mk_sig-requires c =
    let inputs = IsTy-grows _ _ c.args.inputs c.mk_vars.ensures.made.kept c.requires.inputs in
    let output = IsTy-grows _ _ c.args.output c.mk_vars.ensures.made.kept c.requires.output in
    let vars = c.in_ok-vars.ensures.made.sort in
    cc
