use Rattle.ir_trees.proofs.Growth.Kept.{grows-trans}
use Rattle.candidate_eval.proofs.structural.callable.declared.Goals as goal

pub returns-clause-grows : goal.returns-clause-grows
returns-clause-grows g c =
    grows-trans _ _ _ c.mk_ty.ensures.made.kept c.mk_sig.ensures.made.kept
