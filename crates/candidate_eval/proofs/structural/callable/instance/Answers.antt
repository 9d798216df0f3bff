use Rattle.ir_trees.proofs.Growth.Kept.{args-kept, grows-trans}
use Rattle.candidate_eval.proofs.structural.callable.instance.Goals as goal

pub subst-requires-clause-args : goal.subst-requires-clause-args
subst-requires-clause-args g c = (args-kept _ _ c.args.args c.in_ok-declared.ensures.grows c.requires.args).0

pub returns-in_err-made-clause-grows : goal.returns-in_err-made-clause-grows
returns-in_err-made-clause-grows g c =
    grows-trans _ _ _ c.declared.ensures.grows c.subst.ensures.grows

pub returns-clause-grows : goal.returns-clause-grows
returns-clause-grows g c =
    grows-trans _ _ _ c.declared.ensures.grows c.subst.ensures.grows
