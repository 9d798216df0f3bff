use Rattle.std.proofs.Common.{◌≡◌, true, false, IfOk, subst, sym}
use Rattle.std.proofs.lemmas.Result.{IfOk-weaker}
use Rattle.ir_trees.specs.Declarations.Context.{Context}
use Rattle.ir_trees.specs.Instantiation.Folding.{substituted_tree}
use Rattle.ir_trees.specs.Syntax.Words.{args_forest, clause_tree}
use Rattle.candidate_eval.specs.Judges.States.{resolved_tree}
use Rattle.candidate_rounds.specs.Evaluators.Known.{state, table_of}
use Rattle.overlaps.specs.Asked.{ClauseStays}
use Rattle.overlaps.specs.Refused.{RefusesHere, StaysBesideSteps, clause_at}
use Rattle.overlaps.proofs.AskedClauses.{clause-probed}
use Rattle.overlaps.proofs.Refusing.{here-probed}
use Rattle.overlaps.proofs.Staying.{probe-stays, stays-refl}
use Rattle.overlaps.proofs.Stopping.{asking-stop, later-begun, later-refl, passed-on, stop-later, stop-left}
use Rattle.overlaps.specs.Stopping.{IsOverlapStop}
use Rattle.candidate_assembly.proofs.Calls.Causes.{so-err}
use Rattle.candidate_eval.proofs.Interface.Accounts.{memory-somehow}
use Rattle.overlaps.proofs.clauses.probe_clause.Goals as goal

pub returns-in_err-probe-clause-stays : goal.returns-in_err-probe-clause-stays
returns-in_err-probe-clause-stays c = subst (StaysBesideSteps c.args.rounds.now) (sym c.in_err-probe.ensures.unchanged) (stays-refl c.args.rounds.now)

pub returns-clause-stays : goal.returns-clause-stays
returns-clause-stays c =
    let began = c.in_ok-probe.ensures in
    let end = c.end_probe.ensures in
    probe-stays c.args.rounds.now c.begin_probe.new.self c.is_clause_refused-answer.new.rounds c.end_probe.new.self began.fixed began.grows began.faults began.ok.1 c.is_clause_refused-answer.ensures.stays
    end.fixed end.grows end.faults end.closed end.left

pub returns-clause-refused : goal.returns-clause-refused
returns-clause-refused c =
    let old = c.args.rounds.now in
    let began = c.begin_probe.new.self in
    let ts = old.context.trees in
    let t = substituted_tree (args_forest ts c.args.locals) (clause_tree ts c.args.clause) in
    let ran = c.is_clause_refused-answer.new.rounds in
    let refused : IfOk c.is_clause_refused-answer.result (λ b. b ≡ true → RefusesHere began ran t)
    = subst (λ (x : Context). IfOk c.is_clause_refused-answer.result (λ b. b ≡ true → RefusesHere began ran (substituted_tree (args_forest x.trees c.args.locals) (clause_tree x.trees c.args.clause))))
    c.begin_probe.ensures.context c.is_clause_refused-answer.ensures.refused in
    IfOk-weaker c.is_clause_refused-answer.result _ _ (λ b h e. here-probed old began ran c.end_probe.new.self t c.begin_probe.ensures.context c.in_ok-probe.ensures.ok.0 c.end_probe.ensures.fixed (h e)) refused

pub returns-in_err-probe-clause-cause : goal.returns-in_err-probe-clause-cause
returns-in_err-probe-clause-cause c = passed-on (IsOverlapStop c.args.rounds.now c.begin_probe.new.self) c.from_residual.result c.in_err-probe.field-0.0 c.from_residual.ensures.1 (asking-stop (later-refl c.args.rounds.now) (memory-somehow c.in_err-probe.ensures.cause))

pub returns-clause-cause : goal.returns-clause-cause
returns-clause-cause c =
    so-err c.is_clause_refused-answer.result (λ s k. stop-left c.end_probe.ensures.context c.end_probe.ensures.fixed (stop-later (later-begun c.begin_probe.ensures.grows c.begin_probe.ensures.fixed) k)) c.is_clause_refused-answer.ensures.cause

pub returns-clause-asked : goal.returns-clause-asked
returns-clause-asked c =
    let old = c.args.rounds.now in
    let began = c.begin_probe.new.self in
    let ts = old.context.trees in
    let t = substituted_tree (args_forest ts c.args.locals) (clause_tree ts c.args.clause) in
    let ran = c.is_clause_refused-answer.new.rounds in
    let n = c.args.effort in
    let asked : IfOk c.is_clause_refused-answer.result (λ b. b ≡ false → ClauseStays began (state began) n (resolved_tree (state began) t) (table_of began) (table_of ran))
    = subst (λ (x : Context). IfOk c.is_clause_refused-answer.result (λ b. b ≡ false → ClauseStays began (state began) n (clause_at x (state began) (args_forest x.trees c.args.locals) c.args.clause) (table_of began) (table_of ran)))
    c.begin_probe.ensures.context c.is_clause_refused-answer.ensures.asked in
    IfOk-weaker c.is_clause_refused-answer.result _ _
    (λ b h no. clause-probed old began ran c.end_probe.new.self n t (later-begun c.begin_probe.ensures.grows c.begin_probe.ensures.fixed) c.begin_probe.ensures.fixed c.in_ok-probe.ensures.ok.0 c.end_probe.ensures.fixed (h no)) asked
