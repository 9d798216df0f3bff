use Rattle.std.proofs.Common.{rules, ◌≡◌, true, false, subst, ap, ◌∙◌}
use Rattle.std.proofs.lemmas.Result.{err_from_is_err_and}
use Rattle.ir_trees.specs.Syntax.Trees.{Tree, holds, is_param}
use Rattle.ir_trees.specs.Validity.WellFormed.{IsWellFormedTable}
use Rattle.ir_trees.specs.Syntax.Words.{clause_tree}
use Rattle.ir_folds.proofs.Instantiation.Joining.{clause-kept}
use Rattle.candidate_eval.specs.declared.eval.context.ProbeKind.TheVariants.{Kept}
use Rattle.candidate_eval.specs.Interface.Accounts.{Question}
use Rattle.candidate_assembly.specs.Goals.Kinds.{passes}
use Rattle.candidate_assembly.specs.Rules.ObjectBounds.{own_clause, speaks_of_trait}
use Rattle.candidate_assembly.proofs.Objects.ObjectLaws.{clause_speaks, judged_back}
use Rattle.candidate_assembly.proofs.Rules.PureFolder.{passes-kept}
use Rattle.candidate_assembly.proofs.Calls.Causes.{answered-stop}
use Rattle.candidate_assembly.proofs.Calls.Keeping.{goal-kept}
use Rattle.candidate_assembly.proofs.Objects.ObjectJudging.{object-in-probe, object-not-begun, object-rejected, self-kept}
use Rattle.candidate_assembly.proofs.Calls.Using.{considers-object-using}
use Rattle.candidate_assembly.proofs.assembly.object_bounds.probe_and_consider_object_bound_candidate.Goals as goal

pub returns-then-is_err : goal.returns-then-is_err
returns-then-is_err g c =
    let E = g.E.EvalCtxt in
    let K = g.G.GoalKind in
    let first = c.args.ecx.now in
    let old = g.E.Build.context first in
    let seen = K.kind.seen old.trees c.args.env c.args.predicate in
    let t = clause_tree old.trees c.args.clause in
    let out : passes K.kind.rules old seen t ≡ false = search rules in
    object-rejected E.fixed E.judge E.state E.probes g.E.Build.context E.stops K.kind.rules (λ f. (g.met.E.EvalCtxt.lawful f).alike_judged_alike) first seen (own_clause c.args.source t) out

pub returns-in_err-probe : goal.returns-in_err-probe
returns-in_err-probe g c =
    let E = g.E.EvalCtxt in
    let K = g.G.GoalKind in
    let first = c.args.ecx.now in
    let old = g.E.Build.context first in
    let why = c.in_err-probe.ensures in
    let s = c.in_err-probe.field-0.0 in
    let r = c.from_residual.result in
    object-not-begun E.fixed E.judge E.state E.probes g.E.Build.context E.stops K.kind.rules g.met.E.EvalCtxt.stops_itself (λ f. (g.met.E.EvalCtxt.lawful f).alike_judged_alike) first c.begin_probe.new.self (Question.begin_probe Kept)
    (K.kind.seen old.trees c.args.env c.args.predicate) (own_clause c.args.source (clause_tree old.trees c.args.clause)) r s (answered-stop r s (err_from_is_err_and r c.from_residual.ensures.1)) why.fixed why.grows why.faults why.stopped why.cause

pub match_and_require-answer-requires-clause-goal : goal.match_and_require-answer-requires-clause-goal
match_and_require-answer-requires-clause-goal g c =
    let grows = c.begin_probe.ensures.grows in
    goal-kept grows (g.met.G.GoalKind.stays (g.E.Build.context c.args.ecx.now) (g.E.Build.context c.begin_probe.new.self) c.args.env c.args.predicate grows c.requires.goal) c.requires.goal

pub match_and_require-answer-requires-clause-clause : goal.match_and_require-answer-requires-clause-clause
match_and_require-answer-requires-clause-clause g c = (clause-kept (g.E.Build.context c.args.ecx.now) (g.E.Build.context c.begin_probe.new.self) c.args.clause c.begin_probe.ensures.grows c.requires.clause).0

pub match_and_require-answer-requires-clause-matches : goal.match_and_require-answer-requires-clause-matches
match_and_require-answer-requires-clause-matches g c =
    let K = g.G.GoalKind in
    let old = g.E.Build.context c.args.ecx.now in
    let mid = g.E.Build.context c.begin_probe.new.self in
    let grows = c.begin_probe.ensures.grows in
    let says = g.met.G.GoalKind.stays old mid c.args.env c.args.predicate grows c.requires.goal in
    let is = (clause-kept old mid c.args.clause grows c.requires.clause).1 in
    let yes : passes K.kind.rules old (K.kind.seen old.trees c.args.env c.args.predicate) (clause_tree old.trees c.args.clause) ≡ true = search rules in
    record {
      passes = passes-kept K.kind.rules old mid (K.kind.seen old.trees c.args.env c.args.predicate) (K.kind.seen mid.trees c.args.env c.args.predicate) (clause_tree old.trees c.args.clause) (clause_tree mid.trees c.args.clause) says.seen is says.fits yes;
      no_parameter = ap (λ (u : Tree). holds is_param u.children) is ∙ c.requires.free;
    }

pub match_and_require-answer-requires-clause-speaks : goal.match_and_require-answer-requires-clause-speaks
match_and_require-answer-requires-clause-speaks g c =
    ap (λ (u : Tree). speaks_of_trait u.head) (clause-kept (g.E.Build.context c.args.ecx.now) (g.E.Build.context c.begin_probe.new.self) c.args.clause c.begin_probe.ensures.grows c.requires.clause).1 ∙ c.requires.speaks

pub match_and_require-answer-requires-clause-dynamic : goal.match_and_require-answer-requires-clause-dynamic
match_and_require-answer-requires-clause-dynamic g c =
    let grows = c.begin_probe.ensures.grows in
    let says = g.met.G.GoalKind.stays (g.E.Build.context c.args.ecx.now) (g.E.Build.context c.begin_probe.new.self) c.args.env c.args.predicate grows c.requires.goal in
    ap (λ (u : Tree). u.head) (self-kept g.G.GoalKind.kind.rules says) ∙ c.requires.dynamic

pub returns : goal.returns
returns g c =
    let E = g.E.EvalCtxt in
    let K = g.G.GoalKind in
    let first = c.args.ecx.now in
    let middle = c.begin_probe.new.self in
    let ran = c.match_and_require-answer in
    let old = g.E.Build.context first in
    let mid = g.E.Build.context middle in
    let began = c.in_ok-probe.ensures in
    let end = c.end_probe-usages.ensures in
    let says = g.met.G.GoalKind.stays old mid c.args.env c.args.predicate began.grows c.requires.goal in
    let is = (clause-kept old mid c.args.clause began.grows c.requires.clause).1 in
    let seen = K.kind.seen old.trees c.args.env c.args.predicate in
    let t = clause_tree old.trees c.args.clause in
    let o = own_clause c.args.source t in
    let table = subst IsWellFormedTable c.cx.ensures c.recall_well_formed_table.ensures in
    let given = clause_speaks old table c.args.clause c.requires.speaks in
    considers-object-using K.kind.rules first c.end_probe-usages.new.self seen o c.end_probe-usages.result ran.result c.with_head_usages.result c.with_head_usages.ensures
    (object-in-probe E.fixed E.judge E.state E.probes g.E.Build.context E.stops K.kind.rules (λ f. (g.met.E.EvalCtxt.lawful f).alike_judged_alike) first middle ran.new.ecx c.end_probe-usages.new.self seen (K.kind.seen mid.trees c.args.env c.args.predicate) o (own_clause c.args.source (clause_tree mid.trees c.args.clause)) ran.result
    began.fixed began.ok.0 began.ok.1 began.grows began.faults end.fixed end.grows end.faults end.left end.closed says.seen (ap (own_clause c.args.source) is)
    (λ j a. judged_back K.kind.rules (E.judge (E.fixed first)) old mid table began.grows (E.state first) seen says.reference says.fits o j given a) ran.ensures)
