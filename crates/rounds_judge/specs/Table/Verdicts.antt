-- What a goal of a trait has come to so far. How a goal is proved is told in words of the caller's, `W`.
use Rattle.std.specs.Prelude.{Bool, true, false, Option, Some, None}
use Rattle.candidate_eval.specs.declared.eval.certainty.Certainty.{Certainty}
use Rattle.candidate_eval.specs.declared.eval.certainty.Certainty.TheVariants as C
use Rattle.candidate_eval.specs.Outcomes.Responses.{Response}

-- The goal holds, as the response says; it may hold; or it is refused. Of the first two it is told how they are proved, if there is one way.
pub data Verdict (W : Type 0) : Type 0 where
  Yes : Response → Option W → Verdict W
  Maybe : Response → Option W → Verdict W
  Refused : Verdict W

-- What computing a goal comes to: a response, and how the goal is proved; or a refusal.
abbrev pub Answer : Type 0 → Type 0
Answer W = Option (Response × Option W)

-- The verdict of an answer: a response that is sure is a Yes.

abbrev pub by_certainty : {W : Type 0} → Certainty → Response → Option W → Verdict W
by_certainty C.Yes r w = Yes r w
by_certainty (C.Maybe i) r w = Maybe r w

abbrev pub verdict_of : {W : Type 0} → Answer W → Verdict W
verdict_of None = Refused
verdict_of (Some a) = by_certainty a.0.certainty a.0 a.1

-- A Yes and a refusal stay; a Maybe, or nothing, may still change.
abbrev pub is_final : {W : Type 0} → Option (Verdict W) → Bool
is_final (Some (Yes r w)) = true
is_final (Some Refused) = true
is_final _ = false
