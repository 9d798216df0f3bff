use Rattle.std.proofs.Common.{◌∙◌}
use Rattle.candidate_eval.proofs.Interface.Probing.{keeps-trans}
use Rattle.candidate_assembly.proofs.trait_goals.preference.ignore_others.Goals as goal

pub loop-number-preserved-then-number-winner : goal.loop-number-preserved-then-number-winner
loop-number-preserved-then-number-winner g c =
    let forgot = c.ignore_candidate_head_usages in
    (keeps-trans g.E.EvalCtxt.fixed g.E.EvalCtxt.probes g.E.Build.context _ _ _ c.loop-number.invariant.0 forgot.ensures.kept, forgot.ensures.same ∙ c.loop-number.invariant.1)
