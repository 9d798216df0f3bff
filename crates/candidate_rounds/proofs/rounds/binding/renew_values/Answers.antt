use Rattle.std.proofs.Common.{◌≡◌, ℕ, ap, arith, ◌∙◌, refl}
use Rattle.candidate_rounds.proofs.Equations.Renewing.{none-renewed, so-far-value, so-far-fits, so-far-kind, so-far-own-room, one-more-renewed, all-renewed-call}
use Rattle.std.proofs.lemmas.Result.{err_from_is_err_and}
use Rattle.candidate_rounds.proofs.Stops.BindingStops.{own-renewal, renewal-before}
use Rattle.candidate_rounds.proofs.rounds.binding.renew_values.Goals as goal

pub loop-number-init : goal.loop-number-init
loop-number-init c = (none-renewed c.args.cx.now c.args.inference.now c.args.variable c.args.value c.open_values-first.result.0 c.requires.consistent, refl)

pub renew_value-requires-clause-value : goal.renew_value-requires-clause-value
renew_value-requires-clause-value c =
    (so-far-value c.args.cx.now c.loop-number.cx c.args.inference.now c.loop-number.inference c.args.variable c.args.value c.open_values-first.result.0 c.loop-number.number c.loop-number.invariant.0 c.requires.value).0

pub renew_value-requires-clause-fits : goal.renew_value-requires-clause-fits
renew_value-requires-clause-fits c =
    so-far-fits c.args.cx.now c.loop-number.cx c.args.inference.now c.loop-number.inference c.args.variable c.args.value c.open_values-first.result.0 c.loop-number.number c.loop-number.invariant.0 c.requires.value c.requires.fits

pub renew_value-requires-clause-kind : goal.renew_value-requires-clause-kind
renew_value-requires-clause-kind c =
    so-far-kind c.args.cx.now c.loop-number.cx c.args.inference.now c.loop-number.inference c.args.variable c.args.value c.open_values-first.result.0 c.loop-number.number c.loop-number.invariant.0 c.requires.kind

pub loop-number-preserved : goal.loop-number-preserved
loop-number-preserved c = (
  one-more-renewed c.args.cx.now c.loop-number.cx c.args.inference.now c.loop-number.inference c.args.variable c.args.value c.open_values-first.result.0 c.loop-number.number
      c.renew_value.new.cx c.renew_value.new.inference c.loop-number.invariant.0 c.requires.value c.loop-number.auto.number c.renew_value.ensures.grows c.renew_value.ensures.further c.renew_value.ensures.consistent c.renew_value.ensures.room
      c.in_ok-renew_value.ensures.renewed,
  c.renew_value.ensures.faults ∙ c.loop-number.invariant.1,
)

pub renew_value-requires-2-clause-value : goal.renew_value-requires-2-clause-value
renew_value-requires-2-clause-value c =
    (so-far-value c.args.cx.now c.loop-number.cx c.args.inference.now c.loop-number.inference c.args.variable c.args.value c.open_values-first.result.0 c.loop-number.number c.loop-number.invariant.0 c.requires.value).0

pub renew_value-requires-2-clause-fits : goal.renew_value-requires-2-clause-fits
renew_value-requires-2-clause-fits c =
    so-far-fits c.args.cx.now c.loop-number.cx c.args.inference.now c.loop-number.inference c.args.variable c.args.value c.open_values-first.result.0 c.loop-number.number c.loop-number.invariant.0 c.requires.value c.requires.fits

pub renew_value-requires-2-clause-kind : goal.renew_value-requires-2-clause-kind
renew_value-requires-2-clause-kind c =
    so-far-kind c.args.cx.now c.loop-number.cx c.args.inference.now c.loop-number.inference c.args.variable c.args.value c.open_values-first.result.0 c.loop-number.number c.loop-number.invariant.0 c.requires.kind

pub renew_value-requires-2-clause-room : goal.renew_value-requires-2-clause-room
renew_value-requires-2-clause-room c =
    so-far-own-room c.args.cx.now c.loop-number.cx c.args.inference.now c.loop-number.inference c.args.variable c.args.value c.open_values-first.result.0 c.loop-number.number c.loop-number.invariant.0 c.requires.value c.requires.room

pub returns-clause-renewed : goal.returns-clause-renewed
returns-clause-renewed c = λ m.
    let first : c.open_values-first.result.0 ≡ c.args.inference.now.first_open = ap (λ (p : ℕ × ℕ). p.0) c.open_values-first.ensures in
    let end : c.open_values-first.result.1 ≡ c.args.inference.now.end_open = ap (λ (p : ℕ × ℕ). p.1) c.open_values-first.ensures in
    all-renewed-call c.args.cx.now c.loop-number.cx c.args.inference.now c.loop-number.inference c.args.variable c.args.value c.open_values-first.result.0 c.loop-number.number
    c.renew_value-2.new.cx c.renew_value-2.new.inference m c.renew_value-2.result c.loop-number.invariant.0 c.requires.value c.requires.consistent first (omega (arith, end, c.loop-number-test.false)) (c.renew_value-2.ensures.renewed m)

pub returns-in_err-renew_value-clause-cause : goal.returns-in_err-renew_value-clause-cause
returns-in_err-renew_value-clause-cause c = λ m.
    let p = err_from_is_err_and c.from_residual.result c.from_residual.ensures.1 in
    rw (p.1, p.2)
    (renewal-before c.args.cx.now c.loop-number.cx c.args.inference.now c.loop-number.inference c.args.variable c.args.value c.open_values-first.result.0 c.loop-number.number c.loop-number.invariant.0 c.requires.value m _ _
    (c.in_err-renew_value.ensures.cause m))

pub returns-clause-cause : goal.returns-clause-cause
returns-clause-cause c = λ m. own-renewal _ _ _ c.args.variable _ _ c.renew_value-2.result (c.renew_value-2.ensures.cause m)
