use Rattle.std.proofs.Common.{rules, ◌≡◌, ◌∙◌, None, ap, subst, sym}
use Rattle.std.specs.Prelude.{IfSome}
use Rattle.std.proofs.lemmas.Result.{err_from_is_err_and}
use Rattle.ir_trees.specs.Declarations.Context.{Context}
use Rattle.ir_trees.specs.Declarations.Declaring.{impl_at}
use Rattle.ir_trees.specs.Declarations.Worlds.{kinds_of}
use Rattle.ir_trees.specs.Syntax.Words.{args_forest}
use Rattle.ir_trees.specs.Validity.WellFormed.{ImplIsGiven}
use Rattle.ir_trees.proofs.Growth.Kept.{args-kept}
use Rattle.candidate_eval.specs.Derivations.Judging.{At, Over, Refused}
use Rattle.candidate_eval.proofs.Interface.Accounts.{by-stop, memory-somehow, reaches, somehow-later}
use Rattle.candidate_eval.proofs.Interface.Probing.{then}
use Rattle.candidate_assembly.specs.Answers.Telling.{standing}
use Rattle.candidate_assembly.specs.Calls.Impls.{impl_kinds}
use Rattle.candidate_assembly.proofs.Calls.Keeping.{goal-kept}
use Rattle.candidate_assembly.proofs.Rules.ImplSteps.{kinds-fit}
use Rattle.projection_goals.specs.Impls.{IsDeclared}
use Rattle.projection_goals.specs.Normalizing.{normalizes_goal, values}
use Rattle.projection_goals.specs.NormalizingLaws.{normalizes_goal_stays}
use Rattle.projection_goals.proofs.ImplSteps.{applies-by-value, followed-here, part-here}
use Rattle.projection_goals.proofs.impls.follow_impl.Goals as goal

pub declared_by-requires : goal.declared_by-requires
declared_by-requires g c =
    let old = g.E.Build.context c.args.ecx.now in
    let mid = g.E.Build.context c.fresh_args_for_impl.new.ecx in
    subst (λ (x : Context). kinds_of (args_forest x.trees c.in_ok-locals.locals) ≡ impl_kinds x c.args.of) (sym c.cx-2.ensures)
    (kinds-fit old mid c.args.of (g.E.EvalCtxt.state c.args.ecx.now) (args_forest mid.trees c.in_ok-locals.locals) c.fresh_args_for_impl.ensures.kept.grows c.in_ok-locals.ensures.trees)

pub returns-in_err-declared-clause-cause : goal.returns-in_err-declared-clause-cause
returns-in_err-declared-clause-cause g c =
    let p = err_from_is_err_and c.from_residual-in_err-declared.result c.from_residual-in_err-declared.ensures.1 in
    rw (p.1, p.2) (memory-somehow c.in_err-declared.ensures.cause)

pub unreachable-requires : goal.unreachable-requires
unreachable-requires g c =
    let E = g.E.EvalCtxt in
    let old = g.E.Build.context c.args.ecx.now in
    let mid = g.E.Build.context c.fresh_args_for_impl.new.ecx in
    let grows = c.fresh_args_for_impl.ensures.kept.grows in
    let given : IfSome (impl_at old c.args.of) (ImplIsGiven old) = subst (λ (x : Context). IfSome (impl_at x c.args.of) (ImplIsGiven x)) c.cx.ensures c.recall_impl_given.ensures in
    let none : values mid c.args.of c.args.predicate.alias.id.0 ≡ None = subst (λ (x : Context). values x c.args.of c.args.predicate.alias.id.0 ≡ None) c.cx-2.ensures (search rules) in
    let same = part-here old mid c.args.env c.args.predicate (E.state c.args.ecx.now).mode c.args.of grows c.requires.goal given in
    applies-by-value mid (E.state c.args.ecx.now).mode (normalizes_goal mid.trees c.args.env c.args.predicate) c.args.of (ap (λ x. x.applies) same ∙ c.requires.applies) none

pub equate_and_nest-requires-clause-goal : goal.equate_and_nest-requires-clause-goal
equate_and_nest-requires-clause-goal g c =
    let grows = c.fresh_args_for_impl.ensures.kept.grows in
    goal-kept grows (normalizes_goal_stays (g.E.Build.context c.args.ecx.now) (g.E.Build.context c.fresh_args_for_impl.new.ecx) c.args.env c.args.predicate grows c.requires.goal) c.requires.goal

pub returns-in_err-equate_and_nest-clause-kept : goal.returns-in_err-equate_and_nest-clause-kept
returns-in_err-equate_and_nest-clause-kept g c = then c.fresh_args_for_impl.ensures.kept c.equate_and_nest.ensures.kept

pub returns-in_err-equate_and_nest-clause-cause : goal.returns-in_err-equate_and_nest-clause-cause
returns-in_err-equate_and_nest-clause-cause g c =
    let p = err_from_is_err_and c.from_residual-in_err-equate_and_nest.result c.from_residual-in_err-equate_and_nest.ensures.1 in
    rw (p.1, p.2) (by-stop c.in_err-equate_and_nest.field-0.0 (λ s x. somehow-later (reaches c.fresh_args_for_impl.ensures.kept) x) c.in_err-equate_and_nest.ensures.cause)

pub returns-clause-kept : goal.returns-clause-kept
returns-clause-kept g c = then c.fresh_args_for_impl.ensures.kept c.equate_and_nest.ensures.kept

pub returns-in_err-equate_and_nest-clause-refused : goal.returns-in_err-equate_and_nest-clause-refused
returns-in_err-equate_and_nest-clause-refused g c =
    let E = g.E.EvalCtxt in
    let old = g.E.Build.context c.args.ecx.now in
    let mid = g.E.Build.context c.fresh_args_for_impl.new.ecx in
    let ls = args_forest mid.trees c.in_ok-locals.locals in
    let d = c.in-Some.declared in
    let k = c.fresh_args_for_impl.ensures.kept in
    let is : IsDeclared mid c.args.of (record { 0 = c.args.predicate.alias.id.0 }) ls d = subst (λ (x : Context). IsDeclared x c.args.of (record { 0 = c.args.predicate.alias.id.0 }) (args_forest x.trees c.in_ok-locals.locals) d) c.cx-2.ensures (search rules) in
    let given : IfSome (impl_at old c.args.of) (ImplIsGiven old) = subst (λ (x : Context). IfSome (impl_at x c.args.of) (ImplIsGiven x)) c.cx.ensures c.recall_impl_given.ensures in
    let p = err_from_is_err_and c.from_residual-in_err-equate_and_nest.result c.from_residual-in_err-equate_and_nest.ensures.1 in
    rw p.1 (λ n. followed-here E.judge (E.fixed c.args.ecx.now) (E.fixed c.fresh_args_for_impl.new.ecx) old mid c.args.env c.args.predicate c.args.of ls d k.grows c.requires.goal given is (E.state c.args.ecx.now) (E.state c.fresh_args_for_impl.new.ecx)
    c.as_slice.result.now (Over Refused) k.fixed_same c.as_slice.ensures.value c.in_ok-locals.ensures.state c.in_ok-locals.ensures.trees (c.in_err-equate_and_nest.ensures.refused (sym p.2 ∙ n)))

pub returns-clause-ok : goal.returns-clause-ok
returns-clause-ok g c =
    let E = g.E.EvalCtxt in
    let old = g.E.Build.context c.args.ecx.now in
    let mid = g.E.Build.context c.fresh_args_for_impl.new.ecx in
    let ls = args_forest mid.trees c.in_ok-locals.locals in
    let U = E.state c.equate_and_nest.new.ecx in
    let d = c.in-Some.declared in
    let k = c.fresh_args_for_impl.ensures.kept in
    let is : IsDeclared mid c.args.of (record { 0 = c.args.predicate.alias.id.0 }) ls d = subst (λ (x : Context). IsDeclared x c.args.of (record { 0 = c.args.predicate.alias.id.0 }) (args_forest x.trees c.in_ok-locals.locals) d) c.cx-2.ensures (search rules) in
    let given : IfSome (impl_at old c.args.of) (ImplIsGiven old) = subst (λ (x : Context). IfSome (impl_at x c.args.of) (ImplIsGiven x)) c.cx.ensures c.recall_impl_given.ensures in
    followed-here E.judge (E.fixed c.args.ecx.now) (E.fixed c.fresh_args_for_impl.new.ecx) old mid c.args.env c.args.predicate c.args.of ls d k.grows c.requires.goal given is (E.state c.args.ecx.now) (E.state c.fresh_args_for_impl.new.ecx)
    c.as_slice.result.now (At (standing U ls)) k.fixed_same c.as_slice.ensures.value c.in_ok-locals.ensures.state c.in_ok-locals.ensures.trees c.in_ok-equate_and_nest.ensures.ok
    ∙ ap (λ fs. At (standing U fs)) (sym (args-kept _ _ c.in_ok-locals.locals c.equate_and_nest.ensures.kept.grows c.in_ok-locals.ensures.sort).1)
