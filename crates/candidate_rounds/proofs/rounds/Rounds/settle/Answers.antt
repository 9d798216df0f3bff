use Rattle.std.proofs.Common.{true, false, sym, ◌∙◌}
use Rattle.std.proofs.lemmas.Result.{err_from_is_err_and}
use Rattle.candidate_rounds.specs.Evaluators.Known.{state, reads}
use Rattle.ir_trees.specs.declared.ir.stop.Stop.TheVariants.{Memory}
use Rattle.candidate_rounds.specs.Evaluators.Stopping.{ArePassesStop, IsPassStop, pass_memory, held}
use Rattle.candidate_rounds.proofs.Obligations.Evaluating.{gave-of-states, last-pass, passes-refused}
use Rattle.candidate_rounds.proofs.Stops.SettlingStops.{begin-passes, growth-becomes, one-more-settled, pass-stops, refusal-passed}
use Rattle.candidate_rounds.proofs.Evaluators.Going.{goes-refl, goes-trans}
use Rattle.candidate_rounds.proofs.rounds.Rounds.settle.Goals as goal

pub returns-in_err-settle_once-clause-refused : goal.returns-in_err-settle_once-clause-refused
returns-in_err-settle_once-clause-refused c =
    let r = err_from_is_err_and c.from_residual-in_err-settle_once.result c.from_residual-in_err-settle_once.ensures.1 in
    rw r.1 (λ n. passes-refused c.args.self.now c.loop-pass.self c.args.most c.loop-pass._pass c.recall_well_kept.ensures c.loop-pass.invariant.passes c.loop-pass-test.true (c.in_err-settle_once.ensures.refused (sym r.2 ∙ n)))

pub returns-in_err-settle_once-clause-cause : goal.returns-in_err-settle_once-clause-cause
returns-in_err-settle_once-clause-cause c =
    let old = c.args.self.now in
    let now = c.loop-pass.self in
    let h = held c.settle_once.new.self in
    refusal-passed (λ s. ArePassesStop h (reads old) s c.args.most (state old)) (IsPassStop h (reads now) (state now)) c.from_residual-in_err-settle_once.result c.in_err-settle_once.field-0.0 c.from_residual-in_err-settle_once.ensures.1 c.in_err-settle_once.ensures.cause
    (λ s k. pass-stops old now c.args.most c.loop-pass._pass c.recall_well_kept.ensures c.loop-pass.invariant c.loop-pass-test.true h s k)

pub loop-pass-init : goal.loop-pass-init
loop-pass-init c = begin-passes c.args.self.now c.args.most (goes-refl c.args.self.now)

pub returns-in_err-settle_once-clause-goes : goal.returns-in_err-settle_once-clause-goes
returns-in_err-settle_once-clause-goes c = goes-trans c.args.self.now c.loop-pass.self c.settle_once.new.self c.loop-pass.invariant.passes.goes c.settle_once.ensures.goes

pub returns-in_err-before-clause-cause : goal.returns-in_err-before-clause-cause
returns-in_err-before-clause-cause c =
    let old = c.args.self.now in
    let now = c.loop-pass.self in
    growth-becomes (λ s. ArePassesStop (held now) (reads old) s c.args.most (state old)) c.from_residual.result c.in_err-before.field-0.0 c.from_residual.ensures.1 c.in_err-before.ensures.cause
    (pass-stops old now c.args.most c.loop-pass._pass c.recall_well_kept.ensures c.loop-pass.invariant c.loop-pass-test.true (held now) Memory pass_memory)

pub returns-then-not-gave_since-clause-ok : goal.returns-then-not-gave_since-clause-ok
returns-then-not-gave_since-clause-ok c =
    let now = c.loop-pass.self in
    let new = c.settle_once.new.self in
    last-pass c.args.self.now now c.args.most c.loop-pass._pass c.recall_well_kept.ensures c.loop-pass.invariant.passes c.loop-pass-test.true (state new) c.in_ok-settle_once.ensures.ok
    (gave-of-states now new c.as_slice.result.now c.gave_since.result false (c.as_slice.ensures.value ∙ c.in_ok-before.ensures.variables) c.gave_since.ensures c.if-not-gave_since.true)

pub loop-pass-preserved : goal.loop-pass-preserved
loop-pass-preserved c =
    let now = c.loop-pass.self in
    let new = c.settle_once.new.self in
    one-more-settled c.args.self.now now c.args.most c.loop-pass._pass c.recall_well_kept.ensures c.loop-pass.invariant c.loop-pass-test.true new c.settle_once.ensures.goes c.in_ok-settle_once.ensures.ok
    (gave-of-states now new c.as_slice.result.now c.gave_since.result true (c.as_slice.ensures.value ∙ c.in_ok-before.ensures.variables) c.gave_since.ensures c.if-not-gave_since.false)
