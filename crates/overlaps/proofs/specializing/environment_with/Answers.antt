use Rattle.std.proofs.Common.{◌≡◌, List, refl, subst, sym, ◌∙◌}
use Rattle.std.specs.Prelude.{map}
use Rattle.std.proofs.lemmas.Result.{IfErr-weaker, IfOk-weaker, err_from_is_err_and}
use Rattle.ir_trees.specs.declared.ir.kinds.Clause.{Clause}
use Rattle.ir_trees.specs.Hierarchy.Elaboration.{IsElaboration}
use Rattle.ir_trees.specs.Syntax.Words.{ClauseListFits, clause_tree, env_forest}
use Rattle.ir_trees.proofs.Growth.Kept.{grows-refl}
use Rattle.candidate_eval.specs.Interface.Accounts.StopsSomehow.{making}
use Rattle.candidate_eval.specs.Interface.Unmade.IsUnmade.{of_elaboration}
use Rattle.candidate_eval.proofs.Interface.Probing.{made, then}
use Rattle.candidate_eval.proofs.Interface.Unmade.{members-unmade}
use Rattle.overlaps.proofs.Specialized.{environment-made}
use Rattle.overlaps.proofs.specializing.environment_with.Goals as goal

pub returns-in_err-all-clause-kept : goal.returns-in_err-all-clause-kept
returns-in_err-all-clause-kept g c = made (g.met.E.EvalCtxt.by_rest c.args.ecx.now c.elaborate.new.make c.elaborate.ensures.rest) c.elaborate.ensures.grows

pub returns-in_err-all-clause-same : goal.returns-in_err-all-clause-same
returns-in_err-all-clause-same g c = (g.met.E.EvalCtxt.by_rest c.args.ecx.now c.elaborate.new.make c.elaborate.ensures.rest).1

pub returns-in_err-all-clause-cause : goal.returns-in_err-all-clause-cause
returns-in_err-all-clause-cause g c =
    let start = g.E.Build.context c.args.ecx.now in
    let p = err_from_is_err_and c.from_residual.result c.from_residual.ensures.1 in
    rw (p.1, p.2) (making (of_elaboration start c.args.clauses.now (grows-refl start) c.elaborate.ensures.grows c.in_err-all.ensures.cause))

pub returns-clause-kept : goal.returns-clause-kept
returns-clause-kept g c =
    let r = g.met.E.EvalCtxt.by_rest c.args.ecx.now c.elaborate.new.make c.elaborate.ensures.rest in
    let q = g.met.E.EvalCtxt.by_rest c.elaborate.new.make c.mk_param_env.new.self c.mk_param_env.ensures.rest in
    then (made r c.elaborate.ensures.grows) (made q c.mk_param_env.ensures.made.kept)

pub returns-clause-same : goal.returns-clause-same
returns-clause-same g c =
    let r = g.met.E.EvalCtxt.by_rest c.args.ecx.now c.elaborate.new.make c.elaborate.ensures.rest in
    let q = g.met.E.EvalCtxt.by_rest c.elaborate.new.make c.mk_param_env.new.self c.mk_param_env.ensures.rest in
    q.1 ∙ r.1

pub returns-clause-is : goal.returns-clause-is
returns-clause-is g c =
    let start = g.E.Build.context c.args.ecx.now in
    let last = g.E.Build.context c.elaborate.new.make in
    let new = g.E.Build.context c.mk_param_env.new.self in
    let xs = c.args.clauses.now in
    let all = c.as_slice.result.now in
    let value : all ≡ c.in_ok-all.all.items = c.as_slice.ensures.value in
    let walk = subst (λ (ys : List Clause). IsElaboration start (map (clause_tree start.trees) xs) (map (clause_tree last.trees) ys)) (sym value) c.in_ok-all.ensures.list in
    let fit = subst (ClauseListFits last.trees) (sym value) c.in_ok-all.ensures.sort in
    IfOk-weaker c.mk_param_env.result _ _
    (λ e h. environment-made start start last (map (clause_tree start.trees) xs) xs all (env_forest new.trees e) (grows-refl start) refl walk fit h) c.mk_param_env.ensures.made.tree

pub returns-clause-cause : goal.returns-clause-cause
returns-clause-cause g c =
    IfErr-weaker c.mk_param_env.result _ _ (λ s x. making (members-unmade _ c.mk_param_env.ensures.made.kept x)) c.mk_param_env.ensures.made.cause
