use Rattle.std.proofs.Common.{◌∙◌}
use Rattle.candidate_eval.proofs.Interface.Probing.{keeps-trans}
use Rattle.candidate_assembly.proofs.trait_goals.preference.ignore_losers.Goals as goal

pub returns-in-AlwaysApplicable-clause-kept : goal.returns-in-AlwaysApplicable-clause-kept
returns-in-AlwaysApplicable-clause-kept g c = keeps-trans g.E.EvalCtxt.fixed g.E.EvalCtxt.probes g.E.Build.context _ _ _ c.ignore_others.ensures.kept c.ignore_failed.ensures.kept

pub returns-in-AlwaysApplicable-clause-same : goal.returns-in-AlwaysApplicable-clause-same
returns-in-AlwaysApplicable-clause-same g c = c.ignore_failed.ensures.same ∙ c.ignore_others.ensures.same
