use Rattle.std.proofs.Common.{ap, subst, sym, ◌∙◌}
use Rattle.std.proofs.lemmas.Result.{err_from_is_err_and}
use Rattle.ir_trees.specs.Declarations.References.{reference_of}
use Rattle.ir_trees.specs.Syntax.Trees.{holds, is_param}
use Rattle.ir_trees.specs.Validity.WellFormed.{IsWellFormedTable}
use Rattle.ir_trees.specs.Syntax.Words.{ClauseListFits, env_forest}
use Rattle.ir_trees.proofs.Growth.Kept.{args-kept}
use Rattle.candidate_eval.specs.Dynamic.Replacing.{without_first}
use Rattle.candidate_eval.proofs.Interface.Accounts.{reaches}
use Rattle.candidate_eval.proofs.Dynamic.Objects.{env-kept}
use Rattle.candidate_eval.proofs.Interface.Probing.{then}
use Rattle.candidate_assembly.specs.Rules.Unknowable.{UnknowableJudged}
use Rattle.candidate_assembly.proofs.Calls.Causes.{answered-error, answered-stop, caused, later, made-here}
use Rattle.candidate_assembly.proofs.Calls.Stepping.{unmade-own}
use Rattle.candidate_assembly.proofs.Calls.ToldSome.{some-own}
use Rattle.candidate_assembly.proofs.Goals.TraitClauses.{fit-kept}
use Rattle.candidate_assembly.proofs.Lists.Unknowing.{implied-back, others-fit, unknowable-over, unknowable-told}
use Rattle.candidate_eval.proofs.Interface.Unmade.{unmade-before}
use Rattle.candidate_assembly.proofs.assembly.unknowable.try_unknowable.Goals as goal

pub returns-in_err-require_unknowable-clause-told : goal.returns-in_err-require_unknowable-clause-told
returns-in_err-require_unknowable-clause-told g c =
    let E = g.E.EvalCtxt in
    let first = c.args.ecx.now in
    let old = g.E.Build.context first in
    let r = c.from_residual.result in
    let e = c.in_err-require_unknowable.field-0.0 in
    unknowable-over (E.judge (E.fixed first)) old (E.state first) (env_forest old.trees c.args.env) (reference_of old.trees c.args.trait_ref) (g.E.Build.context c.require_unknowable.new.ecx).trees r e
    (answered-error r e (err_from_is_err_and r c.from_residual.ensures.1)) c.in_err-require_unknowable.ensures.refused c.in_err-require_unknowable.ensures.stopped

pub implied_by_reference-requires-clause-args : goal.implied_by_reference-requires-clause-args
implied_by_reference-requires-clause-args g c =
    (args-kept (g.E.Build.context c.args.ecx.now) (g.E.Build.context c.require_unknowable.new.ecx) c.args.trait_ref.args c.require_unknowable.ensures.kept.grows c.requires.args).0

pub implied_by_reference-requires-clause-fit : goal.implied_by_reference-requires-clause-fit
implied_by_reference-requires-clause-fit g c =
    fit-kept (g.E.Build.context c.args.ecx.now) (g.E.Build.context c.require_unknowable.new.ecx) c.args.trait_ref c.require_unknowable.ensures.kept.grows c.requires.args c.requires.fit

pub implied_by_reference-requires-clause-free : goal.implied_by_reference-requires-clause-free
implied_by_reference-requires-clause-free g c =
    ap (holds is_param) (args-kept (g.E.Build.context c.args.ecx.now) (g.E.Build.context c.require_unknowable.new.ecx) c.args.trait_ref.args c.require_unknowable.ensures.kept.grows c.requires.args).1 ∙ c.requires.free

pub returns-in_err-implied-clause-kept : goal.returns-in_err-implied-clause-kept
returns-in_err-implied-clause-kept g c = then c.require_unknowable.ensures.kept c.implied_by_reference.ensures.kept

pub returns-in_err-implied-clause-told : goal.returns-in_err-implied-clause-told
returns-in_err-implied-clause-told g c =
    let E = g.E.EvalCtxt in
    let first = c.args.ecx.now in
    let old = g.E.Build.context first in
    let r = c.from_residual-in_err-implied.result in
    let s = c.in_err-implied.field-0.0 in
    some-own (g.E.Build.context c.implied_by_reference.new.ecx).trees (UnknowableJudged (E.judge (E.fixed first)) old (E.state first) (env_forest old.trees c.args.env) (reference_of old.trees c.args.trait_ref)) r s
    (answered-stop r s (err_from_is_err_and r c.from_residual-in_err-implied.ensures.1)) (unmade-own s c.in_err-implied.ensures.cause)

pub returns-in_err-implied-clause-cause : goal.returns-in_err-implied-clause-cause
returns-in_err-implied-clause-cause g c =
    let p = err_from_is_err_and c.from_residual-in_err-implied.result c.from_residual-in_err-implied.ensures.1 in
    rw (p.1, p.2) (made-here (unmade-before c.require_unknowable.ensures.kept.grows c.in_err-implied.ensures.cause))

pub nest_and_respond-requires-clause-env : goal.nest_and_respond-requires-clause-env
nest_and_respond-requires-clause-env g c =
    let kept = then c.require_unknowable.ensures.kept c.implied_by_reference.ensures.kept in
    (env-kept (g.E.Build.context c.args.ecx.now) (g.E.Build.context c.implied_by_reference.new.ecx) c.args.env kept.grows c.requires.env).0

pub nest_and_respond-requires-clause-nested : goal.nest_and_respond-requires-clause-nested
nest_and_respond-requires-clause-nested g c =
    let ts = (g.E.Build.context c.implied_by_reference.new.ecx).trees in
    let xs = c.in_ok-implied.implied.items in
    let are = c.but_first-nested.ensures ∙ ap without_first c.as_slice.ensures.value in
    subst (ClauseListFits ts) (sym are) (others-fit ts xs c.in_ok-implied.ensures.sort)

pub returns-clause-kept : goal.returns-clause-kept
returns-clause-kept g c = then (then c.require_unknowable.ensures.kept c.implied_by_reference.ensures.kept) c.nest_and_respond.ensures.kept

pub returns-clause-told : goal.returns-clause-told
returns-clause-told g c =
    let E = g.E.EvalCtxt in
    let first = c.args.ecx.now in
    let old = g.E.Build.context first in
    let mid = g.E.Build.context c.require_unknowable.new.ecx in
    let now = g.E.Build.context c.implied_by_reference.new.ecx in
    let xs = c.in_ok-implied.implied.items in
    let known = c.require_unknowable.ensures.kept in
    let kept = then known c.implied_by_reference.ensures.kept in
    let table : IsWellFormedTable old = subst IsWellFormedTable c.cx.ensures c.recall_well_formed_table.ensures in
    let ys = c.but_first-nested.result.now in
    let are = c.but_first-nested.ensures ∙ ap without_first c.as_slice.ensures.value in
    unknowable-told (E.judge (E.fixed first)) old (E.state first) (env_forest old.trees c.args.env) (reference_of old.trees c.args.trait_ref) (g.E.Build.context c.nest_and_respond.new.ecx).trees now.trees c.args.env
    (E.state c.require_unknowable.new.ecx) xs ys c.nest_and_respond.result c.in_ok-require_unknowable.ensures.ok (env-kept old now c.args.env kept.grows c.requires.env).1
    (implied-back old mid table known.grows c.args.trait_ref c.requires.fit c.requires.args _ c.in_ok-implied.ensures.list) c.in_ok-implied.ensures.free are
    (rw (kept.fixed_same, c.implied_by_reference.ensures.same) at c.nest_and_respond.ensures.told)

pub returns-clause-cause : goal.returns-clause-cause
returns-clause-cause g c = caused c.nest_and_respond.result (λ s. later (reaches (then c.require_unknowable.ensures.kept c.implied_by_reference.ensures.kept))) c.nest_and_respond.ensures.cause
