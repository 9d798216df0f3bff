-- The candidates that a call answers for a goal: one at most wins over all others.
use Rattle.std.proofs.Common.{◌≡◌, ◌∙◌, ◌+◌, ◌≤◌, refl, sym, ap, subst, List, [], ◌∷◌, Result, Ok, Err}
use Rattle.std.specs.Prelude.{cond}
use Rattle.std.specs.List.{count_by}
use Rattle.std.proofs.lemmas.List.Sums.{sum_by-cons}
use Rattle.ir_trees.specs.declared.ir.stop.Stop.{Stop}
use Rattle.ir_trees.specs.Declarations.Context.{Context}
use Rattle.ir_trees.specs.Syntax.Trees.{Tree}
use Rattle.candidate_eval.specs.declared.eval.response.Candidate.{Candidate as OfNumbers}
use Rattle.candidate_eval.specs.Interface.Accounts.{Account}
use Rattle.candidate_eval.specs.Derivations.ImplRules.{TraitGoal}
use Rattle.candidate_eval.specs.Outcomes.ResponseTrees.{candidate_of, candidates_of}
use Rattle.candidate_eval.specs.Outcomes.Responses.{Candidate}
use Rattle.candidate_eval.specs.Judges.States.{Judge, State}
use Rattle.candidate_assembly.specs.declared.assembly.opaques.AssembleCandidatesFrom.{AssembleCandidatesFrom}
use Rattle.candidate_assembly.specs.Answers.Assembled.{is_trivial, AddsOthers, AnswersOneTrivial}
use Rattle.candidate_assembly.specs.Answers.AssembledCalls.{Assembles}
use Rattle.candidate_assembly.specs.Goals.KindBounds.{KindBounds}
use Rattle.candidate_assembly.specs.Goals.Kinds.{KindRules}
use Rattle.candidate_assembly.specs.Answers.Listing.{Lists}
use Rattle.candidate_assembly.specs.Laws.UnsizingSources.{trait_adds}
use Rattle.candidate_assembly.proofs.Lists.Trivials.{one_trivial_of, trivials}
use Rattle.candidate_assembly.specs.Goals.TraitRules.{trait_bounds, trait_rules}

-- as many as there are by their numbers
same-count : (ts : List Tree) (xs : List OfNumbers) → trivials (candidates_of ts xs) ≡ count_by (λ (x : OfNumbers). is_trivial x.source) xs
same-count ts [] = refl
same-count ts (x ∷ xs) =
    sum_by-cons (λ (y : Candidate). cond (is_trivial y.source) 1 0) (candidate_of ts x) (candidates_of ts xs)
    ∙ ap (λ n. cond (is_trivial x.source) 1 0 + n) (same-count ts xs)
    ∙ sym (sum_by-cons (λ (y : OfNumbers). cond (is_trivial y.source) 1 0) x xs)

module _ {E X A : Type 0} {fixed : E → X} {judge : X → Judge} {state : E → State} {probes : E → List State} {context : E → Context} {stops : Account E}
    {items : A → List OfNumbers} where
  -- of goals of a kind that adds other candidates alone
  pub one-listed-of : {G : Type 0} {K : KindRules G} {B : KindBounds G} (old new : E) (g : G) (from : AssembleCandidatesFrom) (r : Result A Stop) → AddsOthers B (context old)
      → Assembles fixed judge state probes context stops K B old new g from items r → AnswersOneTrivial items r
  one-listed-of {K = K} {B = B} old new g from (Ok a) adds h =
      subst (λ n. n ≤ 1) (same-count (context new).trees (items a))
      (one_trivial_of K B (judge (fixed old)) (context old) adds (state old) h.told.ok.left g from
      (Lists (candidates_of (context new).trees (items a))) h.told.ok.assembled)
  one-listed-of old new g from (Err s) adds h = tt

  -- of goals of traits
  pub one-trivial-listed : (old new : E) (g : TraitGoal) (from : AssembleCandidatesFrom) (r : Result A Stop)
      → Assembles fixed judge state probes context stops trait_rules trait_bounds old new g from items r → AnswersOneTrivial items r
  one-trivial-listed old new g from r h = one-listed-of old new g from r (trait_adds (context old)) h
