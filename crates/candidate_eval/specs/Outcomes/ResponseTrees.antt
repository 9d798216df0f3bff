-- What contracts see of a response and of a candidate: the trees of their numbers.
use Rattle.std.specs.Prelude.{◌≡◌, Option, Some, None, List, map}
use Rattle.std.specs.List.{All}
use Rattle.std.specs.Borrow.{Bor}
use Rattle.ir_trees.specs.Syntax.Trees.{Tree}
use Rattle.ir_trees.specs.Syntax.Words.{IsArgs, ClauseListFits, args_forest, clause_tree}
use Rattle.candidate_eval.specs.declared.eval.response.CanonicalResponse.{CanonicalResponse}
use Rattle.candidate_eval.specs.declared.eval.response.Candidate.{Candidate as OfNumbers}
use Rattle.candidate_eval.specs.declared.eval.response.MergeCandidateInfo.{MergeCandidateInfo}
use Rattle.candidate_eval.specs.Outcomes.Responses.{Response, Candidate}
use Rattle.candidate_eval.specs.Outcomes.Merging.{Merge}

-- The numbers are of a list of arguments and of clauses.
pub record IsResponse (ts : List Tree) (r : CanonicalResponse) : Type 0 where
  pub values : IsArgs ts r.values
  pub regions : ClauseListFits ts r.regions.items

abbrev pub AreCandidates : List Tree → List OfNumbers → Type 0
AreCandidates ts cs = All (λ (c : OfNumbers). IsResponse ts c.result) cs

abbrev pub response_of : List Tree → CanonicalResponse → Response
response_of ts r = record {
  vars = r.vars.items;
  values = args_forest ts r.values;
  regions = map (clause_tree ts) r.regions.items;
  certainty = r.certainty;
}

abbrev pub candidate_of : List Tree → OfNumbers → Candidate
candidate_of ts c = record { source = c.source; result = response_of ts c.result }

abbrev pub candidates_of : List Tree → List OfNumbers → List Candidate
candidates_of ts cs = map (candidate_of ts) cs

abbrev pub merge_of : List Tree → Option (CanonicalResponse × MergeCandidateInfo) → Option Merge
merge_of ts None = None
merge_of ts (Some m) = Some (record { response = response_of ts m.0; info = m.1 })

-- the same in all parts
pub record IsCopy (r s : CanonicalResponse) : Type 0 where
  pub vars : s.vars.items ≡ r.vars.items
  pub values : s.values ≡ r.values
  pub regions : s.regions.items ≡ r.regions.items
  pub certainty : s.certainty ≡ r.certainty

-- nothing, where there is no candidate
abbrev pub IsMergeTo : Option (Bor OfNumbers) → MergeCandidateInfo → Option (CanonicalResponse × MergeCandidateInfo) → Type 0
IsMergeTo None info o = o ≡ None
IsMergeTo (Some c) info None = ⊥
IsMergeTo (Some c) info (Some m) = IsCopy c.now.result m.0 × (m.1 ≡ info)
