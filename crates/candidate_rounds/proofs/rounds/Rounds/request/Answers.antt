use Rattle.std.proofs.Common.{◌≡◌, ◌∙◌, ap, IfErr, OnOk, false, true, reverse, subst, sym}
use Rattle.ir_trees.specs.declared.ir.stop.Stop.TheVariants.{EvaluatorLimit}
use Rattle.ir_trees.specs.Syntax.Table.{AreDistinct}
use Rattle.candidate_eval.specs.Interface.Noting.{IsNotingStop}
use Rattle.candidate_rounds.specs.declared.rounds.Rounds.TheInside.{Inside}
use Rattle.candidate_rounds.specs.Table.Goals.{IsTraitGoal, key_seen, keys_seen}
use Rattle.candidate_rounds.specs.Calls.Requesting.{is_requested_at, requested_at}
use Rattle.candidate_rounds.specs.Evaluators.Known.{Evaluator, table_of}
use Rattle.candidate_rounds.specs.Evaluators.Stopping.{IsAskingStop, held, of_looking}
use Rattle.rounds_judge.specs.Table.GoalTable.{is_entered, may_be_asked}
use Rattle.candidate_rounds.proofs.Evaluators.Between.{parts}
use Rattle.candidate_rounds.proofs.Table.Finding.{other-goals}
use Rattle.candidate_rounds.proofs.Table.Numbered.{asked-either, full-for, table-either, tabled-either, unasked}
use Rattle.candidate_rounds.proofs.Stops.ResponseStops.{passed-on}
use Rattle.candidate_rounds.proofs.rounds.Rounds.request.Goals as goal

pub returns-in_err-may_be_asked-clause-cause : goal.returns-in_err-may_be_asked-clause-cause
returns-in_err-may_be_asked-clause-cause c =
    let s = c.in_err-may_be_asked.field-0.0 in
    passed-on (IsAskingStop (held c.args.self.now)) c.from_residual.result s c.from_residual.ensures.1
    (of_looking (subst (λ (e : Evaluator). IsNotingStop e.context.trees s) c.self.view_is (subst (λ (x : Inside). IsNotingStop x.cx.trees s) c.self-inside.view_is c.in_err-may_be_asked.ensures.cause)))

pub invariant_of-self : goal.invariant_of-self
invariant_of-self c =
    let i = c.self.inside in
    let k = c.args.key in
    let key = subst (λ (e : Evaluator). IsTraitGoal e.context.trees k.goal) (sym c.self.view_is) c.requires.key in
    let may = subst (λ (x : Inside). c.in_ok-may_be_asked.field-0 ≡ may_be_asked (key_seen x.cx.trees k)) c.self-inside.view_is c.in_ok-may_be_asked.ensures.is in
    let missing = subst (λ (e : Evaluator). is_entered (table_of e) (key_seen e.context.trees k) ≡ false) (sym c.self.view_is) c.requires.missing in
    let one = subst AreDistinct (ap (λ (x : Inside). x.cx.trees) c.self-inside.view_is) c.recall_distinct.ensures in
    let tabled = (parts c.self.invariant).tabled in
    other-goals i.cx i.inference (reverse i.probes.items) (record { pairs = i.normal.items; is_open = i.opens }) i.opaques.items i.goals c.ask.new.self c.self.invariant
    (table-either i.cx.trees one i.goals k tabled key missing c.ask.result c.ask.new.self c.ask.ensures.asked c.ask.ensures.stopped)
    (tabled-either i.cx.trees one i.goals k tabled key missing c.ask.result c.ask.new.self (sym may ∙ c.if-not-branch.false) c.ask.ensures.asked c.ask.ensures.room c.ask.ensures.stopped)

pub returns-clause-asked : goal.returns-clause-asked
returns-clause-asked c =
    let i = c.self.inside in
    let k = c.args.key in
    let key = subst (λ (e : Evaluator). IsTraitGoal e.context.trees k.goal) (sym c.self.view_is) c.requires.key in
    let may = subst (λ (x : Inside). c.in_ok-may_be_asked.field-0 ≡ may_be_asked (key_seen x.cx.trees k)) c.self-inside.view_is c.in_ok-may_be_asked.ensures.is in
    let missing = subst (λ (e : Evaluator). is_entered (table_of e) (key_seen e.context.trees k) ≡ false) (sym c.self.view_is) c.requires.missing in
    let one = subst AreDistinct (ap (λ (x : Inside). x.cx.trees) c.self-inside.view_is) c.recall_distinct.ensures in
    let tabled = (parts c.self.invariant).tabled in
    subst (λ (e : Evaluator). OnOk c.ask.result (keys_seen i.cx.trees c.ask.new.self.asked ≡ requested_at e (key_seen e.context.trees k))) c.self.view_is
    (asked-either i.cx.trees one i.goals k tabled key missing c.ask.result c.ask.new.self (sym (ap (λ (x : Inside). x.goals.asks) c.self-inside.view_is) ∙ c.if-not-self.false) (sym may ∙ c.if-not-branch.false) c.ask.ensures.asked)

pub returns-clause-cause : goal.returns-clause-cause
returns-clause-cause c = unasked c.self.inside.cx.trees c.self.inside.goals c.ask.new.self c.args.key c.ask.result c.ask.ensures.stopped c.ask.ensures.cause

pub returns-clause-full : goal.returns-clause-full
returns-clause-full c =
    let i = c.self.inside in
    let k = c.args.key in
    let key = subst (λ (e : Evaluator). IsTraitGoal e.context.trees k.goal) (sym c.self.view_is) c.requires.key in
    let may = subst (λ (x : Inside). c.in_ok-may_be_asked.field-0 ≡ may_be_asked (key_seen x.cx.trees k)) c.self-inside.view_is c.in_ok-may_be_asked.ensures.is in
    let missing = subst (λ (e : Evaluator). is_entered (table_of e) (key_seen e.context.trees k) ≡ false) (sym c.self.view_is) c.requires.missing in
    let one = subst AreDistinct (ap (λ (x : Inside). x.cx.trees) c.self-inside.view_is) c.recall_distinct.ensures in
    let tabled = (parts c.self.invariant).tabled in
    subst (λ (e : Evaluator). IfErr c.ask.result (λ s. s ≡ EvaluatorLimit → is_requested_at e (key_seen e.context.trees k) ≡ true)) c.self.view_is
    (full-for i.cx.trees one i.goals k tabled key missing c.ask.result (sym (ap (λ (x : Inside). x.goals.asks) c.self-inside.view_is) ∙ c.if-not-self.false) (sym may ∙ c.if-not-branch.false) c.ask.ensures.cause)
