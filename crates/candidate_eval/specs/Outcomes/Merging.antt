-- What several candidates come to, where they say the same or one of them says all.
use Rattle.std.specs.Prelude.{ℕ, suc, Bool, true, false, ◌&&◌, Option, Some, None, List, [], ◌∷◌, slice_get, if◌then◌else◌}
use Rattle.std.specs.Cmp.Lexicographic.{pointwise}
use Rattle.std.specs.List.{list_all}
use Rattle.ir_trees.specs.Hierarchy.Elaboration.{same_forest, same_tree}
use Rattle.candidate_eval.specs.contracts.eval.certainty.CertaintyPartialEq.TheImpl as certainty
use Rattle.candidate_eval.specs.contracts.eval.variable.CanonicalVarPartialEq.TheImpl as variable
use Rattle.candidate_eval.specs.declared.eval.response.MergeCandidateInfo.{MergeCandidateInfo}
use Rattle.candidate_eval.specs.declared.eval.response.MergeCandidateInfo.TheVariants.{AlwaysApplicable, EqualResponse}
use Rattle.candidate_eval.specs.Outcomes.Certainties.{Certainty, Yes, Maybe}
use Rattle.candidate_eval.specs.Outcomes.Responses.{Response, Candidate, has_no_inference_or_external_constraints}

abbrev pub is_yes : Certainty → Bool
is_yes Yes = true
is_yes (Maybe i) = false

-- It is sure, and asks for nothing.
abbrev pub is_always_applicable : Response → Bool
is_always_applicable r = is_yes r.certainty && has_no_inference_or_external_constraints r

-- equality of all parts
abbrev pub same_response : Response → Response → Bool
same_response r s =
    pointwise variable.eq-value.it r.vars s.vars
    && (same_forest r.values s.values && (pointwise same_tree r.regions s.regions && certainty.eq-value.it r.certainty s.certainty))

-- What a list of candidates is merged to, and why.
pub record Merge : Type 0 where
  pub response : Response
  pub info : MergeCandidateInfo

-- the number of the first that is always applicable, counted from that number on
abbrev pub first_applicable : ℕ → List Candidate → Option ℕ
first_applicable n [] = None
first_applicable n (c ∷ cs) = if is_always_applicable c.result then Some n else first_applicable (suc n) cs

abbrev pub all_answer : Response → List Candidate → Bool
all_answer r cs = list_all (λ (c : Candidate). same_response c.result r) cs

-- what all answer
abbrev pub common : List Candidate → Option Merge
common [] = None
common (c ∷ cs) = if all_answer c.result cs then Some (record { response = c.result; info = EqualResponse }) else None

abbrev pub merge_to : MergeCandidateInfo → Option Candidate → Option Merge
merge_to info None = None
merge_to info (Some c) = Some (record { response = c.result; info = info })

abbrev pub chosen : List Candidate → Option ℕ → Option Merge
chosen cs None = common cs
chosen cs (Some n) = merge_to (AlwaysApplicable n) (slice_get cs n)

-- The first that is always applicable, else what all answer; nothing, where there is neither.
abbrev pub merged : List Candidate → Option Merge
merged cs = chosen cs (first_applicable 0 cs)
