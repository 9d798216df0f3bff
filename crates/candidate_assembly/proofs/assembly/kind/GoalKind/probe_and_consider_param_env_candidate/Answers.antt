use Rattle.std.proofs.Common.{rules, ◌≡◌, true, false, [], ◌∷◌, Err, ap, ◌∙◌}
use Rattle.std.proofs.lemmas.Result.{err_from_is_err_and}
use Rattle.ir_trees.specs.Syntax.Trees.{Tree, holds, is_param}
use Rattle.ir_trees.specs.Syntax.Words.{clause_tree}
use Rattle.ir_folds.proofs.Instantiation.Joining.{clause-kept}
use Rattle.candidate_eval.specs.declared.eval.context.ProbeKind.TheVariants.{Kept}
use Rattle.candidate_eval.specs.Interface.Accounts.{Question}
use Rattle.candidate_eval.specs.Derivations.Rules.{characterise, settle}
use Rattle.candidate_assembly.specs.Goals.Kinds.{match_rule, passes}
use Rattle.candidate_assembly.specs.Answers.Telling.{without_usages}
use Rattle.candidate_assembly.proofs.Rules.PureFolder.{passes-kept, rejected-at-once, rule-moved, rule-refused}
use Rattle.candidate_assembly.proofs.Calls.Considering.{not-begun}
use Rattle.candidate_assembly.proofs.Calls.Keeping.{goal-kept, in-probe}
use Rattle.candidate_assembly.proofs.Calls.Using.{considers-using, without-either}
use Rattle.candidate_assembly.proofs.assembly.kind.GoalKind.probe_and_consider_param_env_candidate.Goals as goal

pub returns-then-is_err : goal.returns-then-is_err
returns-then-is_err g c =
    let E = g.E.EvalCtxt in
    let K = g.Self.GoalKind in
    let first = c.args.ecx.now in
    let old = g.E.Build.context first in
    let seen = K.kind.seen old.trees c.args.env c.args.predicate in
    let t = clause_tree old.trees c.args.clause in
    let no : passes K.kind.rules old seen t ≡ false = search rules in
    rejected-at-once (λ f. (g.met.E.EvalCtxt.lawful f).alike_judged_alike) first (match_rule K.kind.rules old seen t (settle ∷ []) (characterise t))
    (rule-refused K.kind.rules (E.judge (E.fixed first)) old (E.state first) seen t (settle ∷ []) (characterise t) no)

pub returns-in_err-probe : goal.returns-in_err-probe
returns-in_err-probe g c =
    let E = g.E.EvalCtxt in
    let K = g.Self.GoalKind in
    let first = c.args.ecx.now in
    let old = g.E.Build.context first in
    let t = clause_tree old.trees c.args.clause in
    let why = c.in_err-probe.ensures in
    let s = c.in_err-probe.field-0.0 in
    let p = err_from_is_err_and c.from_residual.result c.from_residual.ensures.1 in
    let is : c.from_residual.result ≡ Err s = p.1 ∙ ap Err p.2 in
    not-begun g.met.E.EvalCtxt.stops_itself (λ f. (g.met.E.EvalCtxt.lawful f).alike_judged_alike) first c.begin_probe.new.self (Question.begin_probe Kept)
    (match_rule K.kind.rules old (K.kind.seen old.trees c.args.env c.args.predicate) t (settle ∷ []) (characterise t)) (without_usages c.from_residual.result) s (ap without_usages is) why.fixed why.grows why.faults why.stopped why.cause

pub match_and_characterize-answer-requires-clause-goal : goal.match_and_characterize-answer-requires-clause-goal
match_and_characterize-answer-requires-clause-goal g c =
    let old = g.E.Build.context c.args.ecx.now in
    let grows = c.begin_probe.ensures.grows in
    goal-kept grows (g.met.Self.GoalKind.stays old (g.E.Build.context c.begin_probe.new.self) c.args.env c.args.predicate grows c.requires.goal) c.requires.goal

pub match_and_characterize-answer-requires-clause-clause : goal.match_and_characterize-answer-requires-clause-clause
match_and_characterize-answer-requires-clause-clause g c = (clause-kept (g.E.Build.context c.args.ecx.now) (g.E.Build.context c.begin_probe.new.self) c.args.clause c.begin_probe.ensures.grows c.requires.clause).0

pub match_and_characterize-answer-requires-clause-matches : goal.match_and_characterize-answer-requires-clause-matches
match_and_characterize-answer-requires-clause-matches g c =
    let K = g.Self.GoalKind in
    let old = g.E.Build.context c.args.ecx.now in
    let mid = g.E.Build.context c.begin_probe.new.self in
    let grows = c.begin_probe.ensures.grows in
    let says = g.met.Self.GoalKind.stays old mid c.args.env c.args.predicate grows c.requires.goal in
    let is = (clause-kept old mid c.args.clause grows c.requires.clause).1 in
    let yes : passes K.kind.rules old (K.kind.seen old.trees c.args.env c.args.predicate) (clause_tree old.trees c.args.clause) ≡ true = search rules in
    record {
      passes = passes-kept K.kind.rules old mid (K.kind.seen old.trees c.args.env c.args.predicate) (K.kind.seen mid.trees c.args.env c.args.predicate) (clause_tree old.trees c.args.clause) (clause_tree mid.trees c.args.clause) says.seen is says.fits yes;
      no_parameter = ap (λ (u : Tree). holds is_param u.children) is ∙ c.requires.free;
    }

pub returns : goal.returns
returns g c =
    let E = g.E.EvalCtxt in
    let K = g.Self.GoalKind in
    let first = c.args.ecx.now in
    let middle = c.begin_probe.new.self in
    let ran = c.match_and_characterize-answer in
    let old = g.E.Build.context first in
    let mid = g.E.Build.context middle in
    let began = c.in_ok-probe.ensures in
    let end = c.end_probe-usages.ensures in
    let says = g.met.Self.GoalKind.stays old mid c.args.env c.args.predicate began.grows c.requires.goal in
    let is = (clause-kept old mid c.args.clause began.grows c.requires.clause).1 in
    let now = K.kind.seen old.trees c.args.env c.args.predicate in
    let there = K.kind.seen mid.trees c.args.env c.args.predicate in
    let t = clause_tree old.trees c.args.clause in
    let u = clause_tree mid.trees c.args.clause in
    let rule = match_rule K.kind.rules old now t (settle ∷ []) (characterise t) in
    considers-using first c.end_probe-usages.new.self rule c.end_probe-usages.result ran.result (without_usages c.with_usages.result) (ap without_usages c.with_usages.ensures ∙ without-either c.end_probe-usages.result ran.result)
    (in-probe E.fixed E.judge E.state E.probes g.E.Build.context E.stops first middle ran.new.ecx c.end_probe-usages.new.self rule (match_rule K.kind.rules mid there u (settle ∷ []) (characterise u)) ran.result
    began.fixed began.ok.0 began.ok.1 began.grows began.faults ran.ensures.kept end.fixed end.grows end.faults end.left end.closed
    (rule-moved K.kind.rules old mid now there t u (settle ∷ []) (characterise t) (characterise u) says.seen is says.fits (ap characterise is))
    ran.ensures.told ran.ensures.cause)
