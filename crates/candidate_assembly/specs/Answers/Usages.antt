-- What a candidate has used: what its probe has.
use Rattle.std.specs.Prelude.{Result, Ok, Err}
use Rattle.ir_trees.specs.declared.ir.stop.Stop.{Stop}
use Rattle.candidate_eval.specs.declared.eval.refusal.NoSolutionOrStop.{NoSolutionOrStop}
use Rattle.candidate_eval.specs.declared.eval.refusal.NoSolutionOrStop.TheVariants as N
use Rattle.candidate_eval.specs.declared.eval.response.Candidate.{Candidate}
use Rattle.candidate_eval.specs.declared.eval.response.CandidateHeadUsages.{CandidateHeadUsages}

-- the candidate of that source and response, with these usages
abbrev pub candidate_using : CandidateHeadUsages → Candidate → Candidate
candidate_using u c = record { source = c.source; result = c.result; head_usages = u }

-- An answer whose candidate has these usages; an error stays as it is.
abbrev pub answer_using : CandidateHeadUsages → Result Candidate NoSolutionOrStop → Result Candidate NoSolutionOrStop
answer_using u (Ok c) = Ok (candidate_using u c)
answer_using u (Err e) = Err e

-- The same where a refusal hands them out, too.
abbrev pub either_using : CandidateHeadUsages → Result Candidate NoSolutionOrStop → Result (Result Candidate CandidateHeadUsages) Stop
either_using u (Ok c) = Ok (Ok (candidate_using u c))
either_using u (Err N.NoSolution) = Ok (Err u)
either_using u (Err (N.Stop s)) = Err s
