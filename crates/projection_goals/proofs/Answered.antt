-- An answer by closures is one by other closures that say what the first ones do.
use Rattle.std.proofs.Common.{Option, Some, None, List, Result}
use Rattle.std.specs.Borrow.{MutBor}
use Rattle.std.specs.Fn.{Once, FnOnceReturnsAtMut}
use Rattle.ir_trees.specs.Declarations.Context.{Context}
use Rattle.candidate_eval.specs.declared.eval.refusal.NoSolutionOrStop.{NoSolutionOrStop}
use Rattle.candidate_eval.specs.declared.eval.response.CanonicalResponse.{CanonicalResponse}
use Rattle.candidate_eval.specs.Interface.Accounts.{Account}
use Rattle.candidate_eval.specs.Outcomes.Responses.{Candidate}
use Rattle.candidate_eval.specs.Judges.States.{Judge, State}
use Rattle.candidate_assembly.specs.declared.assembly.merging.TraitGoalProvenVia.{TraitGoalProvenVia}
use Rattle.candidate_assembly.specs.Goals.KindBounds.{KindBounds}
use Rattle.candidate_assembly.specs.Goals.Kinds.{KindRules}
use Rattle.candidate_assembly.specs.declared.assembly.opaques.AssembleCandidatesFrom.TheVariants.{EnvAndBounds}
use Rattle.candidate_assembly.specs.declared.assembly.merging.TraitGoalProvenVia.TheVariants as Via
use Rattle.candidate_assembly.specs.Answers.MergedKinds.{AfterAssumptions, AfterList, IsAnsweredBy}
use Rattle.candidate_assembly.specs.Answers.MergedKinds.AfterAssumptions.{is_rigid, is_ambiguous, are_merged}
use Rattle.candidate_assembly.specs.Answers.MergedKinds.AfterList.{assembled, unassembled}

-- whatever the one closure returns, the other does
abbrev pub Says : {E F D R : Type 0} → Once F (MutBor E × Unit {0}) (R × (MutBor E × Unit {0})) → F → Once D (MutBor E × Unit {0}) (R × (MutBor E × Unit {0})) → D → Type 0
Says {E} {F} {D} {R} g f h d = (x : E) (r : R) (y : E) → FnOnceReturnsAtMut g f x r y → FnOnceReturnsAtMut h d x r y

module _ {E X A B C D : Type 0} {fixed : E → X} {judge : X → Judge} {state : E → State} {probes : E → List State} {context : E → Context} {stops : Account E}
    {g : Once A (MutBor E × Unit {0}) (Option (Result CanonicalResponse NoSolutionOrStop) × (MutBor E × Unit {0}))} {a : A}
    {h : Once B (MutBor E × Unit {0}) (Result CanonicalResponse NoSolutionOrStop × (MutBor E × Unit {0}))} {b : B}
    {u : Once C (MutBor E × Unit {0}) (Option (Result CanonicalResponse NoSolutionOrStop) × (MutBor E × Unit {0}))} {v : C}
    {w : Once D (MutBor E × Unit {0}) (Result CanonicalResponse NoSolutionOrStop × (MutBor E × Unit {0}))} {z : D} where
  after-as : (first : E) (xs : List Candidate) (r : Result CanonicalResponse NoSolutionOrStop) (y : E) → Says g a u v → Says h b w z
      → AfterAssumptions fixed judge state probes context stops g a h b first xs r y → AfterAssumptions fixed judge state probes context stops u v w z first xs r y
  after-as first xs r y f k (is_rigid none m) = is_rigid none (k first r y m)
  after-as first xs r y f k (is_ambiguous some m) = is_ambiguous some (f first (Some r) y m)
  after-as first xs r y f k (are_merged {x = x} some m merged) = are_merged {x = x} some (f first None x m) merged

  module _ {G : Type 0} (K : KindRules G) (L : KindBounds G) where
    listed-as : (old : E) (goal : G) (r : Result CanonicalResponse NoSolutionOrStop) (y : E) → Says g a u v → Says h b w z
        → AfterList fixed judge state probes context stops K L old goal EnvAndBounds (AfterAssumptions fixed judge state probes context stops g a h b) r y
        → AfterList fixed judge state probes context stops K L old goal EnvAndBounds (AfterAssumptions fixed judge state probes context stops u v w z) r y
    listed-as old goal r y f k (unassembled p) = unassembled p
    listed-as old goal r y f k (assembled {xs = xs} {x = x} kept p after) = assembled {xs = xs} {x = x} kept p (after-as x xs r y f k after)

module _ {E X A B C D G : Type 0} (fixed : E → X) (judge : X → Judge) (state : E → State) (probes : E → List State) (context : E → Context) (stops : Account E)
    (g : Once A (MutBor E × Unit {0}) (Option (Result CanonicalResponse NoSolutionOrStop) × (MutBor E × Unit {0}))) (a : A)
    (h : Once B (MutBor E × Unit {0}) (Result CanonicalResponse NoSolutionOrStop × (MutBor E × Unit {0}))) (b : B)
    (u : Once C (MutBor E × Unit {0}) (Option (Result CanonicalResponse NoSolutionOrStop) × (MutBor E × Unit {0}))) (v : C)
    (w : Once D (MutBor E × Unit {0}) (Result CanonicalResponse NoSolutionOrStop × (MutBor E × Unit {0}))) (z : D) (K : KindRules G) (L : KindBounds G) where
  pub answered-as : (old : E) (goal : G) (via : Option TraitGoalProvenVia) (r : Result CanonicalResponse NoSolutionOrStop) (y : E)
      → IsAnsweredBy fixed judge state probes context stops g a h b K L old goal via r y → Says g a u v → Says h b w z → IsAnsweredBy fixed judge state probes context stops u v w z K L old goal via r y
  answered-as old goal None r y p f k = p
  answered-as old goal (Some Via.Misc) r y p f k = p
  answered-as old goal (Some Via.ParamEnv) r y p f k = listed-as K L old goal r y f k p
  answered-as old goal (Some Via.AliasBound) r y p f k = listed-as K L old goal r y f k p
