use Rattle.std.proofs.Common.{sym, ◌∙◌}
use Rattle.candidate_eval.proofs.Dynamic.ObjectCandidates.{first-is, first-there}
use Rattle.candidate_eval.proofs.Dynamic.Replacing.{first-fits}
use Rattle.candidate_eval.proofs.eval.clauses.self_ty.Goals as goal

pub unreachable-requires : goal.unreachable-requires
unreachable-requires c = first-there c.args.cx.now c.args.trait_ref c.args-2.result.now c.args-2.ensures.fits c.args-2.ensures.tree c.requires.fit (sym c.first_type.ensures ∙ c.in-None.is)

pub returns-clause-sort : goal.returns-clause-sort
returns-clause-sort c = first-fits c.args.cx.now.trees c.args-2.result.now c.in-Some.ty c.args-2.ensures.fits (sym c.first_type.ensures ∙ c.in-Some.is)

pub returns-clause-tree : goal.returns-clause-tree
returns-clause-tree c = first-is c.args.cx.now.trees c.args-2.result.now _ c.in-Some.ty c.args-2.ensures.fits c.args-2.ensures.tree (sym c.first_type.ensures ∙ c.in-Some.is)
