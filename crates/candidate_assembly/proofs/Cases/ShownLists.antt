-- What worked cases tell of a list of answers: each candidate's source and how sure it is.
use Rattle.std.proofs.Common.{List, map}
use Rattle.ir_trees.specs.declared.ir.stop.Stop.{Stop}
use Rattle.candidate_eval.specs.declared.eval.certainty.Certainty.{Certainty}
use Rattle.candidate_eval.specs.declared.eval.source.CandidateSource.{CandidateSource}
use Rattle.candidate_eval.specs.Outcomes.Responses.{Candidate}
use Rattle.candidate_assembly.specs.Answers.Listing.{Listed, Lists, Stops}

pub data Shown : Type 0 where
  Row : List (CandidateSource × Certainty) → Shown
  StopsBy : Stop → Shown

abbrev pub shown : Candidate → CandidateSource × Certainty
shown c = (c.source, c.result.certainty)

abbrev pub show : Listed → Shown
show (Lists cs) = Row (map shown cs)
show (Stops s) = StopsBy s
