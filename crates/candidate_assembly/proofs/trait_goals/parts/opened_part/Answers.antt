use Rattle.candidate_assembly.proofs.Calls.Causes.{so-err}
use Rattle.candidate_eval.specs.Interface.Unmade.IsUnmade.{of_trees}
use Rattle.candidate_eval.specs.Interface.Unmade.IsMade.{under_binder}
use Rattle.candidate_eval.specs.Interface.Unmade.AreValues.{members}
use Rattle.ir_trees.proofs.Growth.Kept.{grows-refl}
use Rattle.candidate_assembly.proofs.trait_goals.parts.opened_part.Goals as goal

pub returns-in-Some-clause-cause : goal.returns-in-Some-clause-cause
returns-in-Some-clause-cause g c =
    so-err c.replace_bound_vars.result
    (λ s x. of_trees (g.M.Build.context c.args.make.now) (grows-refl _) c.replace_bound_vars.ensures.grows (under_binder c.args.ty.0 (members c.in-Some.values.0)) x) c.replace_bound_vars.ensures.cause
