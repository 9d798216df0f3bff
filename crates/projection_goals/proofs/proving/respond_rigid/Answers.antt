use Rattle.std.proofs.Common.{◌≡◌, refl, subst, sym}
use Rattle.std.proofs.lemmas.Result.{err_from_is_err_and}
use Rattle.ir_trees.specs.declared.ir.kinds.TyKind.TheVariants as TK
use Rattle.ir_trees.specs.Syntax.Words.{env_forest, kind_tree, ty_tree}
use Rattle.ir_trees.proofs.Growth.Kept.{ty-kept}
use Rattle.candidate_eval.proofs.Dynamic.Objects.{env-kept}
use Rattle.candidate_assembly.proofs.Calls.Causes.{answered-stop}
use Rattle.projection_goals.specs.Equations.{equal_by}
use Rattle.projection_goals.specs.NormalizingLaws.{term-is}
use Rattle.projection_goals.proofs.Rigid.{answers-later, answers-stopped}
use Rattle.projection_goals.proofs.proving.respond_rigid.Goals as goal

pub returns-in_err-alias : goal.returns-in_err-alias
returns-in_err-alias g c =
    let E = g.E.EvalCtxt in
    let s = c.in_err-alias.field-0.0 in
    answers-stopped c.args.ecx.now c.alias_type.new.ecx c.from_residual.result s _ (answered-stop c.from_residual.result s (err_from_is_err_and c.from_residual.result c.from_residual.ensures.1)) c.alias_type.ensures.kept
    (subst (λ S. (E.judge (E.fixed c.args.ecx.now)).alike (E.state c.args.ecx.now) S) (sym c.alias_type.ensures.same) ((g.met.E.EvalCtxt.lawful (E.fixed c.args.ecx.now)).alike_judged_alike.alike_same (E.state c.args.ecx.now)))
    c.in_err-alias.ensures.cause

pub probe_equal-requires-clause-env : goal.probe_equal-requires-clause-env
probe_equal-requires-clause-env g c = (env-kept _ _ c.args.env c.alias_type.ensures.kept.grows c.requires.goal.env).0

pub probe_equal-requires-clause-term : goal.probe_equal-requires-clause-term
probe_equal-requires-clause-term g c = (ty-kept _ _ c.args.goal.term c.alias_type.ensures.kept.grows (term-is _ c.args.env c.args.goal c.requires.goal)).0

pub returns : goal.returns
returns g c =
    let E = g.E.EvalCtxt in
    let kept = c.alias_type.ensures.kept in
    let first = c.args.ecx.now in
    let middle = c.alias_type.new.ecx in
    let old = g.E.Build.context first in
    let mid = g.E.Build.context middle in
    let same : equal_by (E.judge (E.fixed middle)) (E.state middle) (env_forest mid.trees c.args.env) (ty_tree mid.trees c.args.goal.term) (ty_tree mid.trees c.in_ok-alias.alias)
    ≡ equal_by (E.judge (E.fixed first)) (E.state first) (env_forest old.trees c.args.env) (ty_tree old.trees c.args.goal.term) (kind_tree old.trees (TK.Alias c.args.goal.alias)) =
    rw (kept.fixed_same, c.alias_type.ensures.same, (env-kept _ _ c.args.env kept.grows c.requires.goal.env).1, (ty-kept _ _ c.args.goal.term kept.grows (term-is _ c.args.env c.args.goal c.requires.goal)).1, c.in_ok-alias.ensures.tree) refl in
    answers-later first middle c.probe_equal.new.ecx c.probe_equal.result _ _ kept c.alias_type.ensures.same same c.probe_equal.ensures
