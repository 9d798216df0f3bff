-- Loops over candidates and over the values of a response, step by step.
use Rattle.std.proofs.Common.{◌≡◌, sym, ap, ◌∙◌, arith, ℕ, zero, suc, ◌<◌, ◌+◌, List, [], ◌∷◌, length, drop, true, false, ◌&&◌, slice_index_or, subst}
use Rattle.ir_trees.specs.declared.ir.kinds.GenericArg.{GenericArg}
use Rattle.ir_trees.specs.Syntax.Trees.{Tree, is_number}
use Rattle.ir_trees.specs.Instantiation.Folds.{arg_tree}
use Rattle.ir_trees.specs.Syntax.Words.{ListFits, list_forest}
use Rattle.ir_trees.proofs.Syntax.Members.{member}
use Rattle.candidate_eval.specs.declared.eval.response.Candidate.{Candidate}
use Rattle.candidate_eval.specs.Outcomes.Responses.{Response, are_open}
use Rattle.candidate_eval.specs.Outcomes.ResponseTrees.{AreCandidates, response_of, candidates_of}
use Rattle.candidate_eval.specs.Outcomes.Merging.{same_response, all_answer}

-- one has another response
pub answer_out : (ts : List Tree) (r : Response) (cs : List Candidate) (i : ℕ) (x : Candidate) → i < length cs → x ≡ slice_index_or cs i x
    → same_response (response_of ts x.result) r ≡ false → all_answer r (candidates_of ts (drop i cs)) ≡ false
answer_out ts r [] i x l e n = absurd (omega (arith, l))
answer_out ts r (c ∷ cs) zero x l e n =
    ap (λ b. b && all_answer r (candidates_of ts cs)) (ap (λ (y : Candidate). same_response (response_of ts y.result) r) (sym e) ∙ n)
answer_out ts r (c ∷ cs) (suc i) x l e n = answer_out ts r cs i x (omega (arith, l)) e n

-- one has the response: it is left to the others
answer-next : (ts : List Tree) (r : Response) (cs : List Candidate) (i : ℕ) (x : Candidate) → i < length cs → x ≡ slice_index_or cs i x
    → same_response (response_of ts x.result) r ≡ true → all_answer r (candidates_of ts (drop i cs)) ≡ all_answer r (candidates_of ts (drop (suc i) cs))
answer-next ts r [] i x l e n = absurd (omega (arith, l))
answer-next ts r (c ∷ cs) zero x l e n =
    ap (λ b. b && all_answer r (candidates_of ts cs)) (ap (λ (y : Candidate). same_response (response_of ts y.result) r) (sym e) ∙ n)
answer-next ts r (c ∷ cs) (suc i) x l e n = answer-next ts r cs i x (omega (arith, l)) e n

pub answer_on : (ts : List Tree) (r : Response) (cs : List Candidate) (i : ℕ) (x : Candidate) → i < length cs → x ≡ slice_index_or cs i x
    → same_response (response_of ts x.result) r ≡ true → all_answer r (candidates_of ts (drop i cs)) ≡ all_answer r (candidates_of ts (drop (i + 1) cs))
answer_on ts r cs i x l e n =
    let one : suc i ≡ i + 1 = omega arith in
    answer-next ts r cs i x l e n ∙ ap (λ j. all_answer r (candidates_of ts (drop j cs))) one

-- a value is another variable, or none
pub open_out : (ts : List Tree) (xs : List GenericArg) (i n : ℕ) (d : GenericArg) → ListFits ts xs → i < length xs
    → is_number n (arg_tree ts (slice_index_or xs i d)).head ≡ false → are_open n (list_forest ts (drop i xs)) ≡ false
open_out ts [] i n d f l e = absurd (omega (arith, l))
open_out ts (x ∷ xs) zero n d f l e =
    ap (are_open n) (member ts x xs f) ∙ ap (λ b. b && are_open (suc n) (list_forest ts xs)) e
open_out ts (x ∷ xs) (suc i) n d f l e =
    let rest : ListFits ts xs = cc in
    open_out ts xs i n d rest (omega (arith, l)) e

-- what holds of all holds of those after the first
pub others_there : (ts : List Tree) (cs : List Candidate) (x : Candidate) (others : List Candidate) → AreCandidates ts cs → cs ≡ x ∷ others → AreCandidates ts others
others_there ts cs x others f e =
    let g : AreCandidates ts (x ∷ others) = subst (λ (l : List Candidate). AreCandidates ts l) e f in
    λ k d b. g (suc k) d (omega (arith, b))
