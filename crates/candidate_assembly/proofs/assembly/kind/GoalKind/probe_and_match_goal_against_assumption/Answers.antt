use Rattle.std.proofs.Common.{rules, ◌≡◌, true, false, refl, subst, ap, ◌∙◌}
use Rattle.std.proofs.lemmas.Result.{err_from_is_err_and}
use Rattle.ir_trees.specs.Syntax.Trees.{Tree, holds, is_param}
use Rattle.ir_trees.specs.Syntax.Words.{clause_tree}
use Rattle.ir_folds.proofs.Instantiation.Joining.{clause-kept}
use Rattle.candidate_eval.specs.Derivations.Judging.{Reached, run, start}
use Rattle.candidate_eval.specs.declared.eval.context.ProbeKind.TheVariants.{Kept}
use Rattle.candidate_eval.specs.Interface.Accounts.{Question, by_stop}
use Rattle.candidate_eval.specs.Interface.Evaluators.{Keeps}
use Rattle.candidate_eval.proofs.Interface.Probing.{alike-probe, keeps-but-probe, of-error}
use Rattle.candidate_assembly.specs.Goals.Kinds.{clause_judged, passes}
use Rattle.candidate_assembly.specs.Answers.Closures.{After, not_begun, not_tried, tried}
use Rattle.candidate_assembly.specs.Answers.Telling.{StopsOfItself, ToldAs}
use Rattle.candidate_assembly.proofs.Rules.PureFolder.{after-caused-in, after-told-in, callable-in, clause-moved, clause-refused, match-moved, passes-kept}
use Rattle.candidate_assembly.proofs.Calls.Causes.{answered-stop, asked-here, asked-somehow, so-err, until}
use Rattle.candidate_eval.proofs.Interface.Accounts.{by-stop}
use Rattle.candidate_assembly.proofs.Calls.Considering.{told-own, told-refused}
use Rattle.candidate_assembly.proofs.Calls.Keeping.{goal-kept}
use Rattle.candidate_assembly.proofs.Calls.Stepping.{evaluator-own, told-kept}
use Rattle.candidate_assembly.proofs.assembly.kind.GoalKind.probe_and_match_goal_against_assumption.Goals as goal

pub returns-then-is_err-clause-told : goal.returns-then-is_err-clause-told
returns-then-is_err-clause-told g c k tells =
    let E = g.E.EvalCtxt in
    let K = g.Self.GoalKind in
    let old = g.E.Build.context c.args.ecx.now in
    let seen = K.kind.seen old.trees c.args.env c.args.predicate in
    let t = clause_tree old.trees c.args.clause in
    let no : passes K.kind.rules old seen t ≡ false = search rules in
    let J = E.judge (E.fixed c.args.ecx.now) in
    let S = E.state c.args.ecx.now in
    told-refused old.trees _ (clause_judged K.kind.rules J old S seen c.args.source t k) refl
    (clause-refused K.kind.rules J old S seen c.args.source t k no)

pub returns-in_err-probe-clause-told : goal.returns-in_err-probe-clause-told
returns-in_err-probe-clause-told g c k tells =
    let why = c.in_err-probe.ensures in
    let s = c.in_err-probe.field-0.0 in
    let old = g.E.Build.context c.args.ecx.now in
    let seen = g.Self.GoalKind.kind.seen old.trees c.args.env c.args.predicate in
    let E = g.E.EvalCtxt in
    let first = c.args.ecx.now in
    let j = clause_judged g.Self.GoalKind.kind.rules (E.judge (E.fixed first)) old (E.state first) seen c.args.source (clause_tree old.trees c.args.clause) k in
    told-own (g.E.Build.context c.begin_probe.new.self).trees c.from_residual.result s j (answered-stop c.from_residual.result s (err_from_is_err_and c.from_residual.result c.from_residual.ensures.1))
    (evaluator-own s (g.met.E.EvalCtxt.stops_itself c.begin_probe.new.self (E.state first) (Question.begin_probe Kept) s why.cause))

pub returns-in_err-probe-clause-cause : goal.returns-in_err-probe-clause-cause
returns-in_err-probe-clause-cause g c =
    let why = c.in_err-probe.ensures in
    let p = err_from_is_err_and c.from_residual.result c.from_residual.ensures.1 in
    let kept : Keeps g.E.EvalCtxt.fixed g.E.EvalCtxt.probes g.E.Build.context c.args.ecx.now c.begin_probe.new.self = record { fixed_same = why.fixed; probes_same = why.stopped.1; grows = why.grows; faults = why.faults } in
    rw (p.1, p.2) (asked-here _ kept why.cause)

pub match_assumption-answer-requires-clause-goal : goal.match_assumption-answer-requires-clause-goal
match_assumption-answer-requires-clause-goal g c =
    let old = g.E.Build.context c.args.ecx.now in
    let grows = c.begin_probe.ensures.grows in
    goal-kept grows (g.met.Self.GoalKind.stays old (g.E.Build.context c.begin_probe.new.self) c.args.env c.args.predicate grows c.requires.goal) c.requires.goal

pub match_assumption-answer-requires-clause-assumption : goal.match_assumption-answer-requires-clause-assumption
match_assumption-answer-requires-clause-assumption g c = (clause-kept (g.E.Build.context c.args.ecx.now) (g.E.Build.context c.begin_probe.new.self) c.args.clause c.begin_probe.ensures.grows c.requires.clause).0

pub match_assumption-answer-requires-clause-matches : goal.match_assumption-answer-requires-clause-matches
match_assumption-answer-requires-clause-matches g c =
    let K = g.Self.GoalKind in
    let old = g.E.Build.context c.args.ecx.now in
    let mid = g.E.Build.context c.begin_probe.new.self in
    let grows = c.begin_probe.ensures.grows in
    let says = g.met.Self.GoalKind.stays old mid c.args.env c.args.predicate grows c.requires.goal in
    let is = (clause-kept old mid c.args.clause grows c.requires.clause).1 in
    let yes : passes K.kind.rules old (K.kind.seen old.trees c.args.env c.args.predicate) (clause_tree old.trees c.args.clause) ≡ true = search rules in
    record {
      passes = passes-kept K.kind.rules old mid (K.kind.seen old.trees c.args.env c.args.predicate) (K.kind.seen mid.trees c.args.env c.args.predicate) (clause_tree old.trees c.args.clause) (clause_tree mid.trees c.args.clause) says.seen is says.fits yes;
      no_parameter = ap (λ (u : Tree). holds is_param u.children) is ∙ c.requires.free;
    }

pub match_assumption-answer-requires-clause-callable : goal.match_assumption-answer-requires-clause-callable
match_assumption-answer-requires-clause-callable g c =
    let began = c.in_ok-probe.ensures in
    callable-in c.args.ecx.now c.begin_probe.new.self began.fixed began.ok.1 began.grows c.requires.callable

pub returns-clause-kept : goal.returns-clause-kept
returns-clause-kept g c =
    let E = g.E.EvalCtxt in
    let began = c.in_ok-probe.ensures in
    let end = c.end_probe-usages.ensures in
    keeps-but-probe E.fixed E.probes g.E.Build.context c.args.ecx.now c.begin_probe.new.self c.match_assumption-answer.new.ecx c.end_probe-usages.new.self (E.state c.args.ecx.now) (λ xs ys p. tt) began.fixed began.grows began.faults began.ok.1 c.match_assumption-answer.ensures.kept
    end.fixed end.grows end.faults end.left

pub returns-clause-alike : goal.returns-clause-alike
returns-clause-alike g c =
    let E = g.E.EvalCtxt in
    let began = c.in_ok-probe.ensures in
    let kept = c.match_assumption-answer.ensures.kept in
    alike-probe E.fixed E.probes E.judge E.state c.args.ecx.now c.begin_probe.new.self c.match_assumption-answer.new.ecx c.end_probe-usages.new.self began.fixed began.ok.1 kept.fixed_same kept.probes_same c.end_probe-usages.ensures.closed

pub returns-clause-told : goal.returns-clause-told
returns-clause-told g c k tells =
    let E = g.E.EvalCtxt in
    let K = g.Self.GoalKind in
    let first = c.args.ecx.now in
    let middle = c.begin_probe.new.self in
    let ran = c.match_assumption-answer in
    let old = g.E.Build.context first in
    let mid = g.E.Build.context middle in
    let began = c.in_ok-probe.ensures in
    let says = g.met.Self.GoalKind.stays old mid c.args.env c.args.predicate began.grows c.requires.goal in
    let is = (clause-kept old mid c.args.clause began.grows c.requires.clause).1 in
    let now = K.kind.seen old.trees c.args.env c.args.predicate in
    let there = K.kind.seen mid.trees c.args.env c.args.predicate in
    let t = clause_tree old.trees c.args.clause in
    let u = clause_tree mid.trees c.args.clause in
    let yes : passes K.kind.rules old now t ≡ true = search rules in
    let J = E.judge (E.fixed middle) in
    let steps = run J (K.kind.rules.env_of there) (start (E.state middle)) (K.kind.rules.match_steps there u) in
    let j = clause_judged K.kind.rules (E.judge (E.fixed first)) old (E.state first) now c.args.source t k in
    told-kept (g.E.Build.context ran.new.ecx) (g.E.Build.context c.end_probe-usages.new.self) c.with_source.result j c.end_probe-usages.ensures.grows
    (c.with_source.ensures.told (g.E.Build.context ran.new.ecx).trees j
    (subst (λ x. ToldAs (g.E.Build.context ran.new.ecx).trees c.args.source ran.result x)
    (clause-moved K.kind.rules E.judge (E.fixed first) (E.fixed middle) old (E.state first) (E.state middle) now there c.args.source t u k began.fixed began.ok.0 says.seen is yes)
    (after-told-in first middle began.fixed began.ok.1 began.grows J steps c.args.source k ran.result ran.new.ecx tells ran.ensures.after)))

pub returns-clause-cause : goal.returns-clause-cause
returns-clause-cause g c =
    let E = g.E.EvalCtxt in
    let K = g.Self.GoalKind in
    let middle = c.begin_probe.new.self in
    let mid = g.E.Build.context middle in
    let there = K.kind.seen mid.trees c.args.env c.args.predicate in
    let began = c.in_ok-probe.ensures in
    let ran = c.match_assumption-answer in
    let end = c.end_probe-usages.ensures in
    let steps = run (E.judge (E.fixed middle)) (K.kind.rules.env_of there) (start (E.state middle)) (K.kind.rules.match_steps there (clause_tree mid.trees c.args.clause)) in
    let caused = after-caused-in c.args.ecx.now middle began.fixed began.ok.1 began.grows steps ran.result ran.new.ecx c.requires.callable ran.ensures.after in
    so-err c.with_source.result
    (λ e is. by-stop e (λ s x. until x (record { same = end.fixed; grows = end.grows })) (of-error ran.result e (by_stop (StopsOfItself E.fixed g.E.Build.context E.state E.stops c.args.ecx.now ran.new.ecx)) is caused))
    c.with_source.ensures.error

pub returns-then-is_err-clause-tried : goal.returns-then-is_err-clause-tried
returns-then-is_err-clause-tried g c =
    let K = g.Self.GoalKind in
    let old = g.E.Build.context c.args.ecx.now in
    let no : passes K.kind.rules old (K.kind.seen old.trees c.args.env c.args.predicate) (clause_tree old.trees c.args.clause) ≡ false = search rules in
    not_tried c.args.ecx.now no refl

pub returns-in_err-probe-clause-tried : goal.returns-in_err-probe-clause-tried
returns-in_err-probe-clause-tried g c =
    let E = g.E.EvalCtxt in
    let why = c.in_err-probe.ensures in
    let p = err_from_is_err_and c.from_residual.result c.from_residual.ensures.1 in
    let kept : Keeps E.fixed E.probes g.E.Build.context c.args.ecx.now c.begin_probe.new.self = record { fixed_same = why.fixed; probes_same = why.stopped.1; grows = why.grows; faults = why.faults } in
    rw (p.1, p.2) (not_begun _ _ (evaluator-own _ (g.met.E.EvalCtxt.stops_itself c.begin_probe.new.self (E.state c.args.ecx.now) (Question.begin_probe Kept) _ why.cause)) (asked-somehow _ kept why.cause) why.faults)

pub returns-clause-tried : goal.returns-clause-tried
returns-clause-tried g c =
    let E = g.E.EvalCtxt in
    let K = g.Self.GoalKind in
    let first = c.args.ecx.now in
    let middle = c.begin_probe.new.self in
    let ran = c.match_assumption-answer in
    let old = g.E.Build.context first in
    let mid = g.E.Build.context middle in
    let began = c.in_ok-probe.ensures in
    let says = g.met.Self.GoalKind.stays old mid c.args.env c.args.predicate began.grows c.requires.goal in
    let now = K.kind.seen old.trees c.args.env c.args.predicate in
    let there = K.kind.seen mid.trees c.args.env c.args.predicate in
    let t = clause_tree old.trees c.args.clause in
    let yes : passes K.kind.rules old now t ≡ true = search rules in
    let moved = match-moved K.kind.rules E.judge (E.fixed first) (E.fixed middle) (E.state first) (E.state middle) now there t (clause_tree mid.trees c.args.clause) began.fixed began.ok.0 says.seen
    (clause-kept old mid c.args.clause began.grows c.requires.clause).1 in
    let after = subst (λ (x : Reached). After E.fixed E.state E.probes g.E.Build.context E.stops g.F.FnOnce c.args.then middle x ran.result ran.new.ecx) moved ran.ensures.after in
    tried middle ran.new.ecx c.end_probe-usages.new.self yes (record { fixed_same = began.fixed; probes_are = began.ok.1; grows = began.grows }) began.ok.0 began.faults after c.with_source.ensures.sourced c.end_probe-usages.ensures.faults
