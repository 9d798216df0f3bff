use Rattle.ir_trees.proofs.Growth.Kept.{grows-trans}
use Rattle.ir_trees.proofs.Growth.Made.{IsTy-grows}
use Rattle.candidate_eval.proofs.Builtins.Conditions.{own_kept}
use Rattle.candidate_eval.proofs.structural.destruct.all_conditions.Goals as goal

pub push_own-requires-clause-ty : goal.push_own-requires-clause-ty
push_own-requires-clause-ty g c = IsTy-grows _ _ c.args.ty c.push_conditions.ensures.grows c.requires.ty

pub returns-clause-trees : goal.returns-clause-trees
returns-clause-trees g c =
    own_kept c.args.of _ (g.M.Build.context c.args.make.now) _ c.args.ty c.args.own _ _ c.push_conditions.ensures.grows c.requires.ty c.in_ok-push_conditions.ensures.trees c.in_ok-push_own.ensures.trees

pub returns-in_err-push_own-clause-grows : goal.returns-in_err-push_own-clause-grows
returns-in_err-push_own-clause-grows g c =
    grows-trans _ _ _ c.push_conditions.ensures.grows c.push_own.ensures.grows

pub returns-clause-grows : goal.returns-clause-grows
returns-clause-grows g c =
    grows-trans _ _ _ c.push_conditions.ensures.grows c.push_own.ensures.grows
