use Rattle.std.proofs.Common.{◌≡◌, drop}
use Rattle.candidate_eval.specs.Outcomes.Merging.{all_answer}
use Rattle.candidate_eval.specs.Outcomes.ResponseTrees.{response_of, candidates_of}
use Rattle.candidate_eval.proofs.eval.response.all_answer.Given as goal

-- the candidates before have the response
abbrev pub invariant-loop-candidate : goal.invariant-loop-candidate
invariant-loop-candidate l =
    let f = all_answer (response_of l.cx.trees l.response) in
    f (candidates_of l.cx.trees l.candidates) ≡ f (candidates_of l.cx.trees (drop l.candidate-index l.candidates))
