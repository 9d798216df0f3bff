use Rattle.std.proofs.Common.{ap, map, ◌∙◌}
use Rattle.std.proofs.lemmas.Result.{err_from_is_err_and}
use Rattle.ir_trees.specs.Syntax.Trees.{is_param, tree_holds}
use Rattle.ir_trees.specs.Syntax.Words.{clause_tree, env_forest, ty_tree}
use Rattle.ir_trees.proofs.Growth.Kept.{ty-kept}
use Rattle.candidate_eval.specs.declared.eval.context.ProbeKind.TheVariants.{Kept}
use Rattle.candidate_eval.specs.Interface.Accounts as question
use Rattle.candidate_eval.proofs.Dynamic.Objects.{env-kept}
use Rattle.candidate_eval.proofs.Outcomes.Responding.{clauses-kept}
use Rattle.candidate_assembly.specs.Rules.Unsizing.{equal_rule}
use Rattle.candidate_assembly.proofs.Calls.Causes.{answered-stop}
use Rattle.candidate_assembly.proofs.Calls.Considering.{not-begun}
use Rattle.candidate_assembly.proofs.Unsizing.EqualTypes.{equal-same}
use Rattle.candidate_assembly.proofs.Rules.Flat.{free-kept}
use Rattle.candidate_assembly.proofs.Calls.Keeping.{in-probe}
use Rattle.candidate_assembly.proofs.Calls.Using.{considers-using}
use Rattle.candidate_assembly.proofs.trait_goals.unsizing.consider_equal.Goals as goal

pub returns-in_err-probe : goal.returns-in_err-probe
returns-in_err-probe g c =
    let why = c.in_err-probe.ensures in
    let old = g.E.Build.context c.args.ecx.now in
    let rule = equal_rule (env_forest old.trees c.args.env) (ty_tree old.trees c.args.left) (ty_tree old.trees c.args.right) (map (clause_tree old.trees) c.args.nested.now) in
    let s = c.in_err-probe.field-0.0 in
    not-begun g.met.E.EvalCtxt.stops_itself (λ f. (g.met.E.EvalCtxt.lawful f).alike_judged_alike) c.args.ecx.now c.begin_probe.new.self (question.begin_probe Kept) rule c.from_residual.result s
    (answered-stop c.from_residual.result s (err_from_is_err_and c.from_residual.result c.from_residual.ensures.1)) why.fixed why.grows why.faults why.stopped why.cause

pub try_equal-answer-requires-clause-env : goal.try_equal-answer-requires-clause-env
try_equal-answer-requires-clause-env g c = (env-kept (g.E.Build.context c.args.ecx.now) (g.E.Build.context c.begin_probe.new.self) c.args.env c.begin_probe.ensures.grows c.requires.env).0

pub try_equal-answer-requires-clause-left : goal.try_equal-answer-requires-clause-left
try_equal-answer-requires-clause-left g c = (ty-kept (g.E.Build.context c.args.ecx.now) (g.E.Build.context c.begin_probe.new.self) c.args.left c.begin_probe.ensures.grows c.requires.left).0

pub try_equal-answer-requires-clause-right : goal.try_equal-answer-requires-clause-right
try_equal-answer-requires-clause-right g c = (ty-kept (g.E.Build.context c.args.ecx.now) (g.E.Build.context c.begin_probe.new.self) c.args.right c.begin_probe.ensures.grows c.requires.right).0

pub try_equal-answer-requires-clause-nested : goal.try_equal-answer-requires-clause-nested
try_equal-answer-requires-clause-nested g c = (clauses-kept (g.E.Build.context c.args.ecx.now) (g.E.Build.context c.begin_probe.new.self) c.args.nested.now c.begin_probe.ensures.grows c.requires.nested).0

pub try_equal-answer-requires-clause-free : goal.try_equal-answer-requires-clause-free
try_equal-answer-requires-clause-free g c =
    let old = g.E.Build.context c.args.ecx.now in
    let mid = g.E.Build.context c.begin_probe.new.self in
    free-kept old.trees mid.trees c.args.nested.now (clauses-kept old mid c.args.nested.now c.begin_probe.ensures.grows c.requires.nested).1 c.requires.free

pub try_equal-answer-requires-clause-left_free : goal.try_equal-answer-requires-clause-left_free
try_equal-answer-requires-clause-left_free g c =
    ap (tree_holds is_param) (ty-kept (g.E.Build.context c.args.ecx.now) (g.E.Build.context c.begin_probe.new.self) c.args.left c.begin_probe.ensures.grows c.requires.left).1 ∙ c.requires.left_free

pub try_equal-answer-requires-clause-right_free : goal.try_equal-answer-requires-clause-right_free
try_equal-answer-requires-clause-right_free g c =
    ap (tree_holds is_param) (ty-kept (g.E.Build.context c.args.ecx.now) (g.E.Build.context c.begin_probe.new.self) c.args.right c.begin_probe.ensures.grows c.requires.right).1 ∙ c.requires.right_free

pub returns : goal.returns
returns g c =
    let E = g.E.EvalCtxt in
    let old = g.E.Build.context c.args.ecx.now in
    let mid = g.E.Build.context c.begin_probe.new.self in
    let ran = c.try_equal-answer in
    let end = c.end_probe-usages.ensures in
    let began = c.in_ok-probe.ensures in
    let grows = began.grows in
    considers-using c.args.ecx.now c.end_probe-usages.new.self _ c.end_probe-usages.result ran.result c.with_head_usages.result c.with_head_usages.ensures
    (in-probe E.fixed E.judge E.state E.probes g.E.Build.context E.stops c.args.ecx.now c.begin_probe.new.self ran.new.ecx c.end_probe-usages.new.self
    (equal_rule (env_forest old.trees c.args.env) (ty_tree old.trees c.args.left) (ty_tree old.trees c.args.right) (map (clause_tree old.trees) c.args.nested.now))
    (equal_rule (env_forest mid.trees c.args.env) (ty_tree mid.trees c.args.left) (ty_tree mid.trees c.args.right) (map (clause_tree mid.trees) c.args.nested.now))
    ran.result began.fixed began.ok.0 began.ok.1 grows began.faults ran.ensures.kept end.fixed end.grows end.faults end.left end.closed
    (equal-same _ _ _ _ _ _ _ _ (env-kept old mid c.args.env grows c.requires.env).1 (ty-kept old mid c.args.left grows c.requires.left).1 (ty-kept old mid c.args.right grows c.requires.right).1
    (clauses-kept old mid c.args.nested.now grows c.requires.nested).1)
    ran.ensures.told ran.ensures.cause)
