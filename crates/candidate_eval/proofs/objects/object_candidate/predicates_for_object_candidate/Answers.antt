use Rattle.candidate_eval.proofs.Interface.Probing.{keeps-trans}
use Rattle.std.proofs.Common.{List, All, map, sym, ◌∙◌, ap, subst}
use Rattle.std.proofs.lemmas.Result.{err_from_is_err_and}
use Rattle.ir_trees.specs.declared.ir.kinds.Clause.{Clause}
use Rattle.ir_trees.specs.Syntax.Words.{ClauseListFits, clause_kind_tree, env_forest, preds_forest, ty_tree}
use Rattle.ir_trees.proofs.Growth.Kept.{grows-trans}
use Rattle.candidate_eval.specs.Interface.Evaluators.{IsGoal, goal_of}
use Rattle.candidate_eval.specs.Dynamic.Objects.{with_instance}
use Rattle.candidate_eval.specs.Dynamic.ObjectRequirements.{first_tree, fresh_arguments, goal_in, reference_clause}
use Rattle.candidate_eval.specs.Dynamic.Replacing.{AreReplaced, AreStuck, clauses_at}
use Rattle.candidate_eval.specs.Dynamic.Required.{own_bounds}
use Rattle.candidate_eval.proofs.Dynamic.ObjectCandidates.{are-replaced-at, are-stuck-at, goals-are, goals-fit}
use Rattle.candidate_eval.proofs.Dynamic.Objects.{env-kept}
use Rattle.candidate_eval.proofs.Dynamic.ObjectRules.{asked-by-rule, unknown-by-rule}
use Rattle.candidate_eval.proofs.Interface.Accounts.{by-object-stop, memory-somehow, reaches, somehow-later}
use Rattle.candidate_eval.proofs.objects.object_candidate.predicates_for_object_candidate.Goals as goal

pub replaced-requires-clause-env : goal.replaced-requires-clause-env
replaced-requires-clause-env g c = (env-kept (g.E.Build.context c.args.ecx.now) (g.E.Build.context c.prepare.new.ecx) c.args.env c.prepare.ensures.kept.grows c.requires.env).0

pub returns-in_err-clauses-clause-ambiguous : goal.returns-in_err-clauses-clause-ambiguous
returns-in_err-clauses-clause-ambiguous g c =
    let E = g.E.EvalCtxt in
    let old = c.args.ecx.now in
    let mid = c.prepare.new.ecx in
    let a = g.E.Build.context old in
    let b = g.E.Build.context mid in
    let p = c.in_ok-prepared.prepared in
    let reference = clause_kind_tree a.trees (reference_clause c.args.trait_ref) in
    let object = first_tree (fresh_arguments (E.state old) reference) in
    let bounds = own_bounds object (preds_forest a.trees c.args.object_bounds) in
    let start = with_instance (E.state old) reference in
    let r = err_from_is_err_and c.from_residual-in_err-clauses.result c.from_residual-in_err-clauses.ensures.1 in
    rw r.1 (λ n.
    let stuck : AreStuck (E.judge (E.fixed old)) (env_forest a.trees c.args.env) object bounds start (clauses_at b.trees p.required.items) (E.state c.replaced.new.ecx) =
    are-stuck-at E.judge (E.fixed old) (E.fixed mid) (env_forest a.trees c.args.env) (env_forest b.trees c.args.env) object (ty_tree b.trees p.object) (own_bounds object (preds_forest a.trees c.args.object_bounds))
    (clauses_at b.trees c.as_slice-bounds.result.now) (clauses_at b.trees p.required.items) (with_instance (E.state old) reference) (E.state mid) (E.state c.replaced.new.ecx) c.prepare.ensures.kept.fixed_same
    (env-kept a b c.args.env c.prepare.ensures.kept.grows c.requires.env).1 c.in_ok-prepared.ensures.object (ap (clauses_at b.trees) c.as_slice-bounds.ensures.value ∙ c.in_ok-prepared.ensures.bounds) c.in_ok-prepared.ensures.state
    (subst (λ (xs : List Clause). AreStuck (E.judge (E.fixed mid)) (env_forest b.trees c.args.env) (ty_tree b.trees p.object) (clauses_at b.trees c.as_slice-bounds.result.now) (E.state mid) (clauses_at b.trees xs) (E.state c.replaced.new.ecx))
    c.as_slice-required.ensures.value (c.in_err-clauses.ensures.ambiguous (sym r.2 ∙ n))) in
    record {
      required = clauses_at b.trees p.required.items;
      requirements = c.in_ok-prepared.ensures.required;
      stuck = stuck;
      as_rule = unknown-by-rule (E.judge (E.fixed old)) (env_forest a.trees c.args.env) object bounds (g.met.E.EvalCtxt.lawful (E.fixed old)) start (E.state c.replaced.new.ecx) (clauses_at b.trees p.required.items) stuck;
    })

pub returns-clause-sort : goal.returns-clause-sort
returns-clause-sort g c =
    let a = g.E.Build.context c.args.ecx.now in
    let b = g.E.Build.context c.prepare.new.ecx in
    let d = g.E.Build.context c.replaced.new.ecx in
    let env = env-kept a d c.args.env (grows-trans a b d c.prepare.ensures.kept.grows c.replaced.ensures.kept.grows) c.requires.env in
    subst (All (IsGoal d.trees)) (sym c.in_ok-goals.ensures.are)
    (goals-fit d.trees c.args.env c.as_slice.result.now env.0 (subst (ClauseListFits d.trees) (sym c.as_slice.ensures.value) c.in_ok-clauses.ensures.sort))

pub returns-clause-asked : goal.returns-clause-asked
returns-clause-asked g c =
    let E = g.E.EvalCtxt in
    let old = c.args.ecx.now in
    let mid = c.prepare.new.ecx in
    let new = c.replaced.new.ecx in
    let a = g.E.Build.context old in
    let b = g.E.Build.context mid in
    let d = g.E.Build.context new in
    let p = c.in_ok-prepared.prepared in
    let made = c.in_ok-clauses.clauses.items in
    let reference = clause_kind_tree a.trees (reference_clause c.args.trait_ref) in
    let object = first_tree (fresh_arguments (E.state old) reference) in
    let later = env-kept a d c.args.env (grows-trans a b d c.prepare.ensures.kept.grows c.replaced.ensures.kept.grows) c.requires.env in
    let bounds = own_bounds object (preds_forest a.trees c.args.object_bounds) in
    let start = with_instance (E.state old) reference in
    let all : AreReplaced (E.judge (E.fixed old)) (env_forest a.trees c.args.env) object bounds start (clauses_at b.trees p.required.items) (clauses_at d.trees made) (E.state new) =
    are-replaced-at E.judge (E.fixed old) (E.fixed mid) (env_forest a.trees c.args.env) (env_forest b.trees c.args.env) object (ty_tree b.trees p.object) (own_bounds object (preds_forest a.trees c.args.object_bounds))
    (clauses_at b.trees c.as_slice-bounds.result.now) (clauses_at b.trees p.required.items) (clauses_at d.trees made) (with_instance (E.state old) reference) (E.state mid) (E.state new) c.prepare.ensures.kept.fixed_same
    (env-kept a b c.args.env c.prepare.ensures.kept.grows c.requires.env).1 c.in_ok-prepared.ensures.object (ap (clauses_at b.trees) c.as_slice-bounds.ensures.value ∙ c.in_ok-prepared.ensures.bounds) c.in_ok-prepared.ensures.state
    (subst (λ (xs : List Clause). AreReplaced (E.judge (E.fixed mid)) (env_forest b.trees c.args.env) (ty_tree b.trees p.object) (clauses_at b.trees c.as_slice-bounds.result.now) (E.state mid) (clauses_at b.trees xs)
    (clauses_at d.trees made) (E.state new)) c.as_slice-required.ensures.value c.in_ok-clauses.ensures.replaced) in
    record {
      required = clauses_at b.trees p.required.items;
      requirements = c.in_ok-prepared.ensures.required;
      replaced = clauses_at d.trees made;
      are_replaced = all;
      as_rule = asked-by-rule (E.judge (E.fixed old)) (env_forest a.trees c.args.env) object bounds (g.met.E.EvalCtxt.lawful (E.fixed old)) start (E.state new) (clauses_at b.trees p.required.items) (clauses_at d.trees made) all;
      are = ap (map (goal_of d.trees)) c.in_ok-goals.ensures.are
          ∙ (goals-are d.trees c.args.env (env_forest a.trees c.args.env) c.as_slice.result.now later.1 ∙ ap (λ (xs : List Clause). map (goal_in (env_forest a.trees c.args.env)) (clauses_at d.trees xs)) c.as_slice.ensures.value);
    }

pub returns-in_err-clauses-clause-kept : goal.returns-in_err-clauses-clause-kept
returns-in_err-clauses-clause-kept g c =
    let E = g.E.EvalCtxt in
    keeps-trans E.fixed E.probes g.E.Build.context c.args.ecx.now c.prepare.new.ecx c.replaced.new.ecx c.prepare.ensures.kept c.replaced.ensures.kept

pub returns-in_err-goals-clause-kept : goal.returns-in_err-goals-clause-kept
returns-in_err-goals-clause-kept g c =
    let E = g.E.EvalCtxt in
    keeps-trans E.fixed E.probes g.E.Build.context c.args.ecx.now c.prepare.new.ecx c.replaced.new.ecx c.prepare.ensures.kept c.replaced.ensures.kept

pub returns-clause-kept : goal.returns-clause-kept
returns-clause-kept g c =
    let E = g.E.EvalCtxt in
    keeps-trans E.fixed E.probes g.E.Build.context c.args.ecx.now c.prepare.new.ecx c.replaced.new.ecx c.prepare.ensures.kept c.replaced.ensures.kept

pub returns-in_err-clauses-clause-cause : goal.returns-in_err-clauses-clause-cause
returns-in_err-clauses-clause-cause g c =
    let p = err_from_is_err_and c.from_residual-in_err-clauses.result c.from_residual-in_err-clauses.ensures.1 in
    rw (p.1, p.2) (by-object-stop c.in_err-clauses.field-0.0 (λ s x. somehow-later (reaches c.prepare.ensures.kept) x) c.in_err-clauses.ensures.cause)

pub returns-in_err-goals-clause-cause : goal.returns-in_err-goals-clause-cause
returns-in_err-goals-clause-cause g c =
    let p = err_from_is_err_and c.from_residual-in_err-goals.result c.from_residual-in_err-goals.ensures.1 in
    rw (p.1, p.2) (memory-somehow c.in_err-goals.ensures.cause)
