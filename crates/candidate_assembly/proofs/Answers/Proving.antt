-- What the merge of the candidates that win says, exit by exit.
use Rattle.std.proofs.Common.{◌≡◌, ◌≢◌, inl, inr, Option, Some, None, List, [], ◌∷◌, Result, Ok, Err, refl, sym, ◌∙◌, ap, subst}
use Rattle.std.specs.Prelude.{option_map}
use Rattle.ir_trees.specs.Declarations.Context.{Context}
use Rattle.ir_trees.specs.Syntax.Trees.{Tree}
use Rattle.ir_trees.specs.declared.ir.stop.Stop.{Stop}
use Rattle.ir_trees.specs.declared.ir.stop.Stop.TheVariants.{Memory}
use Rattle.ir_trees.proofs.Growth.Kept.{grows-refl}
use Rattle.candidate_eval.specs.declared.eval.refusal.NoSolutionOrStop.{NoSolutionOrStop}
use Rattle.candidate_eval.specs.declared.eval.refusal.NoSolutionOrStop.TheVariants as N
use Rattle.candidate_eval.specs.declared.eval.response.Candidate.{Candidate as OfNumbers}
use Rattle.candidate_eval.specs.declared.eval.response.CanonicalResponse.{CanonicalResponse}
use Rattle.candidate_eval.specs.declared.eval.response.MergeCandidateInfo.{MergeCandidateInfo}
use Rattle.candidate_eval.specs.Interface.Accounts.{Account, IsAccounted, by_stop}
use Rattle.candidate_eval.specs.Judges.Alike.{JudgesAlike}
use Rattle.candidate_eval.specs.Outcomes.Certainties.{AMBIGUOUS}
use Rattle.candidate_eval.specs.Interface.Evaluators.{Keeps}
use Rattle.candidate_eval.specs.Outcomes.Merging.{Merge, merged}
use Rattle.candidate_eval.specs.Outcomes.ResponseTrees.{IsResponse, candidates_of, merge_of, response_of}
use Rattle.candidate_eval.specs.Outcomes.Responses.{Response}
use Rattle.candidate_eval.specs.Judges.States.{Judge, State, with_pending}
use Rattle.candidate_eval.proofs.Interface.Accounts.{by-stop}
use Rattle.candidate_eval.proofs.Outcomes.Responding.{response-fits, response-kept}
use Rattle.candidate_assembly.specs.declared.assembly.merging.TraitGoalProvenVia.{TraitGoalProvenVia}
use Rattle.candidate_assembly.specs.Answers.Preference.{Class, Proved, Proves, answer_by, class_of, proved, unmerged}

-- where candidates merge
pub merges-to : (J : Judge) (S : State) (k : Class) (ts : List Tree) (xs : List OfNumbers) (via : TraitGoalProvenVia) (m : Option Merge)
    → k ≡ class_of (candidates_of ts xs) via → m ≡ merged (candidates_of ts xs) → answer_by J S k ≡ proved J S (class_of (candidates_of ts xs) via) m
merges-to J S k ts xs via m is e = ap (answer_by J S) is ∙ ap (proved J S (class_of (candidates_of ts xs) via)) (sym e)

-- none are refused
refuses : (J : Judge) (S : State) (ts : List Tree) (xs : List OfNumbers) (via : TraitGoalProvenVia) → xs ≡ [] → answer_by J S (class_of (candidates_of ts xs) via) ≡ None
refuses J S ts xs via e = ap (λ (ys : List OfNumbers). answer_by J S (class_of (candidates_of ts ys) via)) e

-- too little is known of others
ambiguous : (J : Judge) (S : State) (ts : List Tree) (xs : List OfNumbers) (r : Response) → xs ≢ [] → J.responded (with_pending S []) AMBIGUOUS ≡ Some r → unmerged J S (candidates_of ts xs) ≡ Some (r, None)
ambiguous J S ts [] r some e = absurd (some refl)
ambiguous J S ts (x ∷ xs) r some e = ap (option_map (λ (s : Response). (s, None))) e

module _ {E X : Type 0} {fixed : E → X} {judge : X → Judge} {state : E → State} {probes : E → List State} {context : E → Context} {stops : Account E} where
  -- a growth was refused
  pub not-merged : ((f : X) → JudgesAlike (judge f)) → (e : E) (answer : Option Proved) (r : Result (CanonicalResponse × Option TraitGoalProvenVia) NoSolutionOrStop) (s : Stop) → r ≡ Err (N.Stop s) → s ≡ Memory
      → Proves fixed judge state probes context stops e e answer r
  not-merged law e answer r s is memory = subst (λ (x : Result (CanonicalResponse × Option TraitGoalProvenVia) NoSolutionOrStop). Proves fixed judge state probes context stops e e answer x) (sym is) (record {
    kept = record { fixed_same = refl; probes_same = refl; grows = grows-refl (context e); faults = refl };
    alike = (law (fixed e)).alike_same (state e);
    fits = tt;
    ok = tt;
    refused = λ n. absurd cc;
    cause = inl memory;
  })

  -- The candidates that win merge.
  pub proves-merged : ((f : X) → JudgesAlike (judge f)) → (old new : E) (k : Class) (xs : List OfNumbers) (via : TraitGoalProvenVia) (r : CanonicalResponse) (info : MergeCandidateInfo)
      → k ≡ class_of (candidates_of (context old).trees xs) via → Keeps fixed probes context old new → state new ≡ state old → IsResponse (context old).trees r
      → merge_of (context old).trees (Some (r, info)) ≡ merged (candidates_of (context old).trees xs)
      → Proves fixed judge state probes context stops old new (answer_by (judge (fixed old)) (state old) k) (Ok (r, Some via))
  proves-merged law old new k xs via r info is kept same fits e = record {
    kept = kept;
    alike = subst (λ (x : State). (judge (fixed old)).alike (state old) x) (sym same) ((law (fixed old)).alike_same (state old));
    fits = response-fits (context old) (context new) r kept.grows fits;
    ok = merges-to (judge (fixed old)) (state old) k (context old).trees xs via (merge_of (context old).trees (Some (r, info))) is e
        ∙ ap (λ (s : Response). Some (s, Some via)) (sym (response-kept (context old) (context new) r kept.grows fits));
    refused = tt;
    cause = tt;
  }

  -- They don't merge.
  pub proves-nothing : (old new : E) (k : Class) (xs : List OfNumbers) (via : TraitGoalProvenVia) (r : CanonicalResponse)
      → k ≡ class_of (candidates_of (context old).trees xs) via → None ≡ merged (candidates_of (context old).trees xs)
      → Keeps fixed probes context old new → (judge (fixed old)).alike (state old) (state new) → IsResponse (context new).trees r → xs ≢ []
      → (judge (fixed old)).responded (with_pending (state old) []) AMBIGUOUS ≡ Some (response_of (context new).trees r)
      → Proves fixed judge state probes context stops old new (answer_by (judge (fixed old)) (state old) k) (Ok (r, None))
  proves-nothing old new k xs via r is e kept alike fits some answer = record {
    kept = kept;
    alike = alike;
    fits = fits;
    ok = merges-to (judge (fixed old)) (state old) k (context old).trees xs via None is e ∙ ambiguous (judge (fixed old)) (state old) (context old).trees xs (response_of (context new).trees r) some answer;
    refused = tt;
    cause = tt;
  }

  pub proves-refused : (old new : E) (k : Class) (xs : List OfNumbers) (via : TraitGoalProvenVia) (r : Result (CanonicalResponse × Option TraitGoalProvenVia) NoSolutionOrStop) (f : NoSolutionOrStop) → r ≡ Err f
      → k ≡ class_of (candidates_of (context old).trees xs) via → Keeps fixed probes context old new → (judge (fixed old)).alike (state old) (state new) → (f ≡ N.NoSolution → xs ≡ [])
      → by_stop (IsAccounted fixed context state stops old new) f
      → Proves fixed judge state probes context stops old new (answer_by (judge (fixed old)) (state old) k) r
  proves-refused old new k xs via r f is class kept alike none why = subst (λ (x : Result (CanonicalResponse × Option TraitGoalProvenVia) NoSolutionOrStop). Proves fixed judge state probes context stops old new (answer_by (judge (fixed old)) (state old) k) x) (sym is) (record {
    kept = kept;
    alike = alike;
    fits = tt;
    ok = tt;
    refused = λ n. ap (answer_by (judge (fixed old)) (state old)) class ∙ refuses (judge (fixed old)) (state old) (context old).trees xs via (none n);
    cause = by-stop f (λ s a. inr a) why;
  })
