use Rattle.std.proofs.Common.{rules, ◌≡◌, ap, subst, sym, ◌∙◌, map}
use Rattle.std.specs.Prelude.{IfSome}
use Rattle.std.proofs.lemmas.Result.{err_from_is_err_and}
use Rattle.ir_trees.specs.Declarations.Context.{Context}
use Rattle.ir_trees.specs.Declarations.Declaring.{impl_at}
use Rattle.ir_trees.specs.Validity.WellFormed.{ImplIsGiven}
use Rattle.ir_trees.specs.Syntax.Words.{args_forest, clause_tree, env_forest}
use Rattle.ir_trees.specs.Declarations.Worlds.{kinds_of}
use Rattle.ir_trees.proofs.Growth.Kept.{args-kept}
use Rattle.candidate_eval.specs.Derivations.Judging.{At, Over, Refused}
use Rattle.candidate_eval.proofs.Interface.Accounts.{by-stop, memory-somehow, reaches, somehow-later}
use Rattle.candidate_eval.proofs.Dynamic.Objects.{env-kept}
use Rattle.candidate_eval.proofs.Interface.Probing.{then}
use Rattle.candidate_assembly.specs.Calls.Impls.{IsDeclared, impl_kinds}
use Rattle.candidate_assembly.specs.Answers.Telling.{standing}
use Rattle.candidate_assembly.proofs.Rules.ImplSteps.{declared-run, kinds-fit, moved-run}
use Rattle.candidate_assembly.proofs.trait_goals.impls.follow_impl.Goals as goal

pub declared_by-requires : goal.declared_by-requires
declared_by-requires g c =
    let old = g.E.Build.context c.args.ecx.now in
    let mid = g.E.Build.context c.fresh_args_for_impl.new.ecx in
    subst (λ (x : Context). kinds_of (args_forest x.trees c.in_ok-locals.locals) ≡ impl_kinds x c.args.of) (sym c.cx-2.ensures)
    (kinds-fit old mid c.args.of (g.E.EvalCtxt.state c.args.ecx.now) (args_forest mid.trees c.in_ok-locals.locals) c.fresh_args_for_impl.ensures.kept.grows c.in_ok-locals.ensures.trees)

pub returns-in_err-declared-clause-cause : goal.returns-in_err-declared-clause-cause
returns-in_err-declared-clause-cause g c =
    let p = err_from_is_err_and c.from_residual-in_err-declared.result c.from_residual-in_err-declared.ensures.1 in
    rw (p.1, p.2) (memory-somehow c.in_err-declared.ensures.cause)

pub equate_and_nest-requires-clause-env : goal.equate_and_nest-requires-clause-env
equate_and_nest-requires-clause-env g c = (env-kept _ _ c.args.env c.fresh_args_for_impl.ensures.kept.grows c.requires.env).0

pub equate_and_nest-requires-clause-args : goal.equate_and_nest-requires-clause-args
equate_and_nest-requires-clause-args g c = (args-kept _ _ c.args.args c.fresh_args_for_impl.ensures.kept.grows c.requires.args).0

pub equate_and_nest-requires-clause-no_parameter : goal.equate_and_nest-requires-clause-no_parameter
equate_and_nest-requires-clause-no_parameter g c = rw (args-kept _ _ c.args.args c.fresh_args_for_impl.ensures.kept.grows c.requires.args).1 c.requires.no_parameter

pub returns-in_err-equate_and_nest-clause-kept : goal.returns-in_err-equate_and_nest-clause-kept
returns-in_err-equate_and_nest-clause-kept g c = then c.fresh_args_for_impl.ensures.kept c.equate_and_nest.ensures.kept

pub returns-in_err-equate_and_nest-clause-cause : goal.returns-in_err-equate_and_nest-clause-cause
returns-in_err-equate_and_nest-clause-cause g c =
    let p = err_from_is_err_and c.from_residual-in_err-equate_and_nest.result c.from_residual-in_err-equate_and_nest.ensures.1 in
    rw (p.1, p.2) (by-stop c.in_err-equate_and_nest.field-0.0 (λ s x. somehow-later (reaches c.fresh_args_for_impl.ensures.kept) x) c.in_err-equate_and_nest.ensures.cause)

pub returns-in_err-equate_and_nest-clause-refused : goal.returns-in_err-equate_and_nest-clause-refused
returns-in_err-equate_and_nest-clause-refused g c =
    let E = g.E.EvalCtxt in
    let old = g.E.Build.context c.args.ecx.now in
    let mid = g.E.Build.context c.fresh_args_for_impl.new.ecx in
    let J = E.judge (E.fixed c.args.ecx.now) in
    let e = env_forest old.trees c.args.env in
    let ls = args_forest mid.trees c.in_ok-locals.locals in
    let T = E.state c.fresh_args_for_impl.new.ecx in
    let a = args_forest old.trees c.args.args in
    let d = c.in-Some.declared in
    let k = c.fresh_args_for_impl.ensures.kept in
    let is : IsDeclared mid c.args.of ls d = subst (λ (x : Context). IsDeclared x c.args.of (args_forest x.trees c.in_ok-locals.locals) d) c.cx-2.ensures (search rules) in
    let given : IfSome (impl_at old c.args.of) (ImplIsGiven old) = subst (λ (x : Context). IfSome (impl_at x c.args.of) (ImplIsGiven x)) c.cx.ensures c.recall_impl_given.ensures in
    let p = err_from_is_err_and c.from_residual-in_err-equate_and_nest.result c.from_residual-in_err-equate_and_nest.ensures.1 in
    rw p.1 (λ n. declared-run old mid c.args.of ls d k.grows is given J e (E.state c.args.ecx.now) T a c.as_slice.result.now c.as_slice-2.result.now (Over Refused) c.as_slice.ensures.value c.as_slice-2.ensures.value
    c.in_ok-locals.ensures.state c.in_ok-locals.ensures.trees
    (moved-run E.judge (E.fixed c.args.ecx.now) (E.fixed c.fresh_args_for_impl.new.ecx) e (env_forest mid.trees c.args.env) (standing T ls) a (args_forest mid.trees c.args.args) (args_forest mid.trees d.header)
    (map (clause_tree mid.trees) c.as_slice.result.now) (map (clause_tree mid.trees) c.as_slice-2.result.now) (Over Refused)
    k.fixed_same (env-kept old mid c.args.env k.grows c.requires.env).1 (args-kept old mid c.args.args k.grows c.requires.args).1 (c.in_err-equate_and_nest.ensures.refused (sym p.2 ∙ n))))

pub returns-clause-kept : goal.returns-clause-kept
returns-clause-kept g c = then c.fresh_args_for_impl.ensures.kept c.equate_and_nest.ensures.kept

pub returns-clause-ok : goal.returns-clause-ok
returns-clause-ok g c =
    let E = g.E.EvalCtxt in
    let old = g.E.Build.context c.args.ecx.now in
    let mid = g.E.Build.context c.fresh_args_for_impl.new.ecx in
    let J = E.judge (E.fixed c.args.ecx.now) in
    let e = env_forest old.trees c.args.env in
    let ls = args_forest mid.trees c.in_ok-locals.locals in
    let T = E.state c.fresh_args_for_impl.new.ecx in
    let U = E.state c.equate_and_nest.new.ecx in
    let a = args_forest old.trees c.args.args in
    let d = c.in-Some.declared in
    let k = c.fresh_args_for_impl.ensures.kept in
    let is : IsDeclared mid c.args.of ls d = subst (λ (x : Context). IsDeclared x c.args.of (args_forest x.trees c.in_ok-locals.locals) d) c.cx-2.ensures (search rules) in
    let given : IfSome (impl_at old c.args.of) (ImplIsGiven old) = subst (λ (x : Context). IfSome (impl_at x c.args.of) (ImplIsGiven x)) c.cx.ensures c.recall_impl_given.ensures in
    declared-run old mid c.args.of ls d k.grows is given J e (E.state c.args.ecx.now) T a c.as_slice.result.now c.as_slice-2.result.now (At (standing U ls)) c.as_slice.ensures.value c.as_slice-2.ensures.value
    c.in_ok-locals.ensures.state c.in_ok-locals.ensures.trees
    (moved-run E.judge (E.fixed c.args.ecx.now) (E.fixed c.fresh_args_for_impl.new.ecx) e (env_forest mid.trees c.args.env) (standing T ls) a (args_forest mid.trees c.args.args) (args_forest mid.trees d.header)
    (map (clause_tree mid.trees) c.as_slice.result.now) (map (clause_tree mid.trees) c.as_slice-2.result.now) (At (standing U ls))
    k.fixed_same (env-kept old mid c.args.env k.grows c.requires.env).1 (args-kept old mid c.args.args k.grows c.requires.args).1 c.in_ok-equate_and_nest.ensures.ok)
    ∙ ap (λ fs. At (standing U fs)) (sym (args-kept _ _ c.in_ok-locals.locals c.equate_and_nest.ensures.kept.grows c.in_ok-locals.ensures.sort).1)
