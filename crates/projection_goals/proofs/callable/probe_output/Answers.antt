use Rattle.std.proofs.Common.{◌≡◌, ◌∙◌, [], Some, ap, refl, subst, sym}
use Rattle.std.proofs.lemmas.Result.{err_from_is_err_and}
use Rattle.ir_trees.specs.Declarations.Worlds.{World, TraitSort, parameters}
use Rattle.ir_trees.specs.Syntax.Trees.{is_param, tree_holds}
use Rattle.ir_trees.proofs.Growth.Kept.{ty-kept, world-kept}
use Rattle.candidate_eval.specs.declared.eval.context.ProbeKind.TheVariants.{Kept}
use Rattle.candidate_eval.specs.Builtins.Callable.{CalledWith, callable_of}
use Rattle.candidate_eval.specs.Interface.Accounts as question
use Rattle.candidate_assembly.proofs.Calls.Causes.{answered-stop}
use Rattle.candidate_assembly.proofs.Calls.Considering.{not-begun}
use Rattle.candidate_assembly.proofs.Calls.Keeping.{goal-kept, in-probe}
use Rattle.candidate_assembly.proofs.Calls.Using.{considers-using}
use Rattle.candidate_assembly.proofs.Rules.CallRules.{callable-kept}
use Rattle.projection_goals.specs.LanguageTypes.{output_rule}
use Rattle.projection_goals.specs.Normalizing.{goal_of_trait, normalizes_goal}
use Rattle.projection_goals.specs.NormalizingLaws.{normalizes_goal_stays}
use Rattle.projection_goals.proofs.LanguageRules.{rule-called, says-same}
use Rattle.projection_goals.proofs.callable.probe_output.Goals as goal

pub returns-in_err-probe : goal.returns-in_err-probe
returns-in_err-probe g c =
    let why = c.in_err-probe.ensures in
    let old = g.E.Build.context c.args.ecx.now in
    let now = normalizes_goal old.trees c.args.env c.args.predicate in
    let rule = output_rule (goal_of_trait old now) now.term (CalledWith (callable_of old.trees c.args.callable)) (Some c.args.sized) in
    let s = c.in_err-probe.field-0.0 in
    not-begun g.met.E.EvalCtxt.stops_itself (λ f. (g.met.E.EvalCtxt.lawful f).alike_judged_alike) c.args.ecx.now c.begin_probe.new.self (question.begin_probe Kept) rule c.from_residual.result s
    (answered-stop c.from_residual.result s (err_from_is_err_and c.from_residual.result c.from_residual.ensures.1)) why.fixed why.grows why.faults why.stopped why.cause

pub try_output-answer-requires-clause-goal : goal.try_output-answer-requires-clause-goal
try_output-answer-requires-clause-goal g c =
    let grows = c.begin_probe.ensures.grows in
    goal-kept grows (normalizes_goal_stays (g.E.Build.context c.args.ecx.now) (g.E.Build.context c.begin_probe.new.self) c.args.env c.args.predicate grows c.requires.goal) c.requires.goal

pub try_output-answer-requires-clause-callable : goal.try_output-answer-requires-clause-callable
try_output-answer-requires-clause-callable g c = (callable-kept (g.E.Build.context c.args.ecx.now) (g.E.Build.context c.begin_probe.new.self) c.args.callable c.begin_probe.ensures.grows c.requires.callable).0

pub try_output-answer-requires-clause-inputs : goal.try_output-answer-requires-clause-inputs
try_output-answer-requires-clause-inputs g c = ap (tree_holds is_param) (ty-kept (g.E.Build.context c.args.ecx.now) (g.E.Build.context c.begin_probe.new.self) c.args.callable.value.0 c.begin_probe.ensures.grows c.requires.callable.inputs).1 ∙ c.requires.inputs

pub try_output-answer-requires-clause-output : goal.try_output-answer-requires-clause-output
try_output-answer-requires-clause-output g c = ap (tree_holds is_param) (ty-kept (g.E.Build.context c.args.ecx.now) (g.E.Build.context c.begin_probe.new.self) c.args.callable.value.1 c.begin_probe.ensures.grows c.requires.callable.output).1 ∙ c.requires.output

pub try_output-answer-requires-clause-no_parameters : goal.try_output-answer-requires-clause-no_parameters
try_output-answer-requires-clause-no_parameters g c =
    subst (λ (w : World). parameters w TraitSort c.args.sized.0 ≡ Some []) (sym (world-kept (g.E.Build.context c.args.ecx.now) (g.E.Build.context c.begin_probe.new.self) c.begin_probe.ensures.grows).0) c.requires.no_parameters

pub returns : goal.returns
returns g c =
    let E = g.E.EvalCtxt in
    let old = g.E.Build.context c.args.ecx.now in
    let mid = g.E.Build.context c.begin_probe.new.self in
    let ran = c.try_output-answer in
    let end = c.end_probe-usages.ensures in
    let began = c.in_ok-probe.ensures in
    let now = normalizes_goal old.trees c.args.env c.args.predicate in
    let there = normalizes_goal mid.trees c.args.env c.args.predicate in
    let before = callable_of old.trees c.args.callable in
    let called = callable_of mid.trees c.args.callable in
    considers-using c.args.ecx.now c.end_probe-usages.new.self _ c.end_probe-usages.result ran.result c.with_head_usages.result c.with_head_usages.ensures
    (in-probe E.fixed E.judge E.state E.probes g.E.Build.context E.stops c.args.ecx.now c.begin_probe.new.self ran.new.ecx c.end_probe-usages.new.self
    (output_rule (goal_of_trait old now) now.term (CalledWith before) (Some c.args.sized)) (output_rule (goal_of_trait mid there) there.term (CalledWith called) (Some c.args.sized))
    ran.result began.fixed began.ok.0 began.ok.1 began.grows began.faults ran.ensures.kept end.fixed end.grows end.faults end.left end.closed
    (says-same (λ x t. output_rule x t (CalledWith called) (Some c.args.sized)) old mid c.args.env c.args.predicate began.grows c.requires.goal
    ∙ rule-called (goal_of_trait old now) now.term (CalledWith before) before called (Some c.args.sized) c.args.sized (callable-kept old mid c.args.callable began.grows c.requires.callable).1 refl refl)
    ran.ensures.told ran.ensures.cause)
