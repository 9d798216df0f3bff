-- What a goal is asked for.
use Rattle.std.specs.Prelude.{Bool, true, false}
use Rattle.candidate_eval.specs.declared.eval.mode.TypingMode.{TypingMode}
use Rattle.candidate_eval.specs.declared.eval.mode.TypingMode.TheVariants.{Coherence}

-- Headers of impls are compared, as if other crates could still write impls.
abbrev pub is_coherence : TypingMode → Bool
is_coherence Coherence = true
is_coherence _ = false
