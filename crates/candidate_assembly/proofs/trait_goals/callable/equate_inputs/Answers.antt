use Rattle.std.proofs.Common.{IfErr, IfOk, None, Some, [], false, subst, true, ◌∷◌, ◌≡◌}
use Rattle.std.proofs.lemmas.Result.{IfErr-weaker, IfOk-weaker, err_from_is_err_and}
use Rattle.ir_trees.specs.declared.ir.unify.RightSide.TheVariants.{Plain}
use Rattle.ir_trees.specs.Declarations.Context.{Context}
use Rattle.ir_trees.specs.Unification.Unify.{may_unify}
use Rattle.ir_trees.specs.Syntax.Words.{IsTy, args_forest, env_forest, ty_tree}
use Rattle.ir_trees.proofs.Growth.Kept.{args-kept}
use Rattle.candidate_eval.specs.declared.eval.refusal.NoSolutionOrStop.TheVariants.{NoSolution}
use Rattle.candidate_eval.specs.Interface.Accounts as question
use Rattle.candidate_eval.specs.Interface.Accounts.StopsSomehow.{asking, making}
use Rattle.candidate_eval.specs.Interface.Evaluators.{accepted}
use Rattle.candidate_eval.specs.Dynamic.ObjectRequirements.{first_tree}
use Rattle.candidate_eval.proofs.Interface.Accounts.{accounted-here, accounted-later, by-stop, reaches}
use Rattle.candidate_eval.proofs.Dynamic.Objects.{env-kept}
use Rattle.candidate_eval.proofs.Interface.Probing.{made, then}
use Rattle.candidate_assembly.proofs.Rules.CallSteps.{quickly-accepted, quickly-rejected, row-made, row-test}
use Rattle.candidate_assembly.proofs.trait_goals.callable.equate_inputs.Goals as goal
use Rattle.candidate_assembly.specs.Rules.BuiltinRules.{pair_of}
use Rattle.candidate_eval.proofs.Interface.Unmade.{members-unmade}

pub returns-in_err-called-clause-cause : goal.returns-in_err-called-clause-cause
returns-in_err-called-clause-cause g c =
    let p = err_from_is_err_and c.from_residual.result c.from_residual.ensures.1 in
    rw (p.1, p.2) (making
    (members-unmade (c.self_ty-ty.result.0 ∷ c.args.inputs.0 ∷ []) c.mk_args.ensures.made.kept c.in_err-called.ensures.made.cause))

pub args_may_unify-requires-clause-a : goal.args_may_unify-requires-clause-a
args_may_unify-requires-clause-a g c = rw c.cx-2.ensures (args-kept (g.E.Build.context c.args.ecx.now) (g.E.Build.context c.mk_args.new.self) c.args.trait_ref.args c.mk_args.ensures.made.kept c.requires.args).0

pub eq_args-requires-clause-env : goal.eq_args-requires-clause-env
eq_args-requires-clause-env g c = (env-kept (g.E.Build.context c.args.ecx.now) (g.E.Build.context c.mk_args.new.self) c.args.env c.mk_args.ensures.made.kept c.requires.env).0

pub eq_args-requires-clause-left : goal.eq_args-requires-clause-left
eq_args-requires-clause-left g c = (args-kept (g.E.Build.context c.args.ecx.now) (g.E.Build.context c.mk_args.new.self) c.args.trait_ref.args c.mk_args.ensures.made.kept c.requires.args).0

pub returns-clause-kept : goal.returns-clause-kept
returns-clause-kept g c =
    let r = g.met.E.EvalCtxt.by_rest c.args.ecx.now c.mk_args.new.self c.mk_args.ensures.rest in
    then (made r c.mk_args.ensures.made.kept) c.eq_args.ensures.kept

pub returns-clause-cause : goal.returns-clause-cause
returns-clause-cause g c =
    let r = g.met.E.EvalCtxt.by_rest c.args.ecx.now c.mk_args.new.self c.mk_args.ensures.rest in
    let mid = g.E.Build.context c.mk_args.new.self in
    IfErr-weaker c.eq_args.result _ _
    (λ e h. by-stop e (λ s x. asking (accounted-later (record { same = r.0; grows = c.mk_args.ensures.made.kept }) (accounted-here (question.equate (env_forest mid.trees c.args.env) (args_forest mid.trees c.args.trait_ref.args) (args_forest mid.trees c.in_ok-called.called)) (reaches c.eq_args.ensures.kept) x))) h) c.eq_args.ensures.cause

-- the list that was made, and its test

pub returns-then-not-args_may_unify-clause-refused : goal.returns-then-not-args_may_unify-clause-refused
returns-then-not-args_may_unify-clause-refused g c = λ same.
    let E = g.E.EvalCtxt in
    let old = g.E.Build.context c.args.ecx.now in
    let mid = g.E.Build.context c.mk_args.new.self in
    let a = args_forest old.trees c.args.trait_ref.args in
    let x = pair_of (first_tree a) (ty_tree old.trees c.args.inputs) in
    let self : (ty_tree old.trees c.self_ty-ty.result ≡ first_tree a) × IsTy old.trees c.self_ty-ty.result
    = subst (λ (y : Context). (ty_tree y.trees c.self_ty-ty.result ≡ first_tree (args_forest y.trees c.args.trait_ref.args)) × IsTy y.trees c.self_ty-ty.result) c.cx.ensures (c.self_ty-ty.ensures.tree, c.self_ty-ty.ensures.sort) in
    let list = row-made old mid c.self_ty-ty.result c.args.inputs c.in_ok-called.called (first_tree a) self.1 c.requires.inputs self.0 c.in_ok-called.ensures.made.tree in
    let test : may_unify Plain a x ≡ false
    = row-test old mid c.args.trait_ref.args c.in_ok-called.called x c.mk_args.ensures.made.kept c.requires.args list c.args_may_unify.result false c.if-not-args_may_unify.true
    (rw c.cx-2.ensures at c.args_may_unify.ensures.is) in
    quickly-rejected (E.judge (E.fixed c.args.ecx.now)) (E.state c.args.ecx.now) (env_forest old.trees c.args.env) a x test

pub returns-clause-ok : goal.returns-clause-ok
returns-clause-ok g c =
    let E = g.E.EvalCtxt in
    let r = g.met.E.EvalCtxt.by_rest c.args.ecx.now c.mk_args.new.self c.mk_args.ensures.rest in
    let old = g.E.Build.context c.args.ecx.now in
    let mid = g.E.Build.context c.mk_args.new.self in
    let J = E.judge (E.fixed c.args.ecx.now) in
    let S = E.state c.args.ecx.now in
    let e = env_forest old.trees c.args.env in
    let a = args_forest old.trees c.args.trait_ref.args in
    let x = pair_of (first_tree a) (ty_tree old.trees c.args.inputs) in
    let self : (ty_tree old.trees c.self_ty-ty.result ≡ first_tree a) × IsTy old.trees c.self_ty-ty.result
    = subst (λ (y : Context). (ty_tree y.trees c.self_ty-ty.result ≡ first_tree (args_forest y.trees c.args.trait_ref.args)) × IsTy y.trees c.self_ty-ty.result) c.cx.ensures (c.self_ty-ty.ensures.tree, c.self_ty-ty.ensures.sort) in
    let list = row-made old mid c.self_ty-ty.result c.args.inputs c.in_ok-called.called (first_tree a) self.1 c.requires.inputs self.0 c.in_ok-called.ensures.made.tree in
    let test : may_unify Plain a x ≡ true
    = row-test old mid c.args.trait_ref.args c.in_ok-called.called x c.mk_args.ensures.made.kept c.requires.args list c.args_may_unify.result true c.if-not-args_may_unify.false
    (rw c.cx-2.ensures at c.args_may_unify.ensures.is) in
    let kept = c.mk_args.ensures.made.kept in
    let ok : IfOk c.eq_args.result (λ _. accepted J S e a x ≡ Some (E.state c.eq_args.new.self))
    = rw (r.0, r.1, (env-kept old mid c.args.env kept c.requires.env).1, (args-kept old mid c.args.trait_ref.args kept c.requires.args).1, list) at c.eq_args.ensures.ok in
    IfOk-weaker c.eq_args.result _ _ (λ u h. quickly-accepted J S e a x (Some (E.state c.eq_args.new.self)) test h) ok

pub returns-clause-refused : goal.returns-clause-refused
returns-clause-refused g c =
    let E = g.E.EvalCtxt in
    let r = g.met.E.EvalCtxt.by_rest c.args.ecx.now c.mk_args.new.self c.mk_args.ensures.rest in
    let old = g.E.Build.context c.args.ecx.now in
    let mid = g.E.Build.context c.mk_args.new.self in
    let J = E.judge (E.fixed c.args.ecx.now) in
    let S = E.state c.args.ecx.now in
    let e = env_forest old.trees c.args.env in
    let a = args_forest old.trees c.args.trait_ref.args in
    let x = pair_of (first_tree a) (ty_tree old.trees c.args.inputs) in
    let self : (ty_tree old.trees c.self_ty-ty.result ≡ first_tree a) × IsTy old.trees c.self_ty-ty.result
    = subst (λ (y : Context). (ty_tree y.trees c.self_ty-ty.result ≡ first_tree (args_forest y.trees c.args.trait_ref.args)) × IsTy y.trees c.self_ty-ty.result) c.cx.ensures (c.self_ty-ty.ensures.tree, c.self_ty-ty.ensures.sort) in
    let list = row-made old mid c.self_ty-ty.result c.args.inputs c.in_ok-called.called (first_tree a) self.1 c.requires.inputs self.0 c.in_ok-called.ensures.made.tree in
    let test : may_unify Plain a x ≡ true
    = row-test old mid c.args.trait_ref.args c.in_ok-called.called x c.mk_args.ensures.made.kept c.requires.args list c.args_may_unify.result true c.if-not-args_may_unify.false
    (rw c.cx-2.ensures at c.args_may_unify.ensures.is) in
    let kept = c.mk_args.ensures.made.kept in
    let refused : IfErr c.eq_args.result (λ y. y ≡ NoSolution → accepted J S e a x ≡ None)
    = rw (r.0, r.1, (env-kept old mid c.args.env kept c.requires.env).1, (args-kept old mid c.args.trait_ref.args kept c.requires.args).1, list) at c.eq_args.ensures.refused in
    IfErr-weaker c.eq_args.result _ _ (λ y h is. quickly-accepted J S e a x None test (h is)) refused
