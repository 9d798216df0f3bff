-- What candidates come to for a goal that isn't of a trait, exit by exit.
use Rattle.std.proofs.Common.{◌≡◌, ◌≢◌, ℕ, Bool, true, Option, Some, None, List, [], ◌∷◌, Result, Ok, Err, IfOk, IfErr, refl, sym, ◌∙◌, ap, subst}
use Rattle.std.specs.Fn.{Once}
use Rattle.std.specs.Borrow.{MutBor}
use Rattle.ir_trees.specs.Declarations.Context.{Context}
use Rattle.ir_trees.specs.Syntax.Trees.{Tree}
use Rattle.ir_trees.specs.declared.ir.stop.Stop.{Stop}
use Rattle.ir_trees.specs.declared.ir.stop.Stop.TheVariants.{Memory}
use Rattle.ir_trees.proofs.Growth.Kept.{grows-refl, grows-trans}
use Rattle.candidate_eval.specs.declared.eval.refusal.NoSolutionOrStop.{NoSolutionOrStop}
use Rattle.candidate_eval.specs.declared.eval.refusal.NoSolutionOrStop.TheVariants as N
use Rattle.candidate_eval.specs.declared.eval.response.Candidate.{Candidate as OfNumbers}
use Rattle.candidate_eval.specs.declared.eval.response.CanonicalResponse.{CanonicalResponse}
use Rattle.candidate_eval.specs.Interface.Accounts.{Account, IsAccounted, by_stop}
use Rattle.candidate_eval.specs.Interface.Accounts.StopsSomehow.{asking}
use Rattle.candidate_eval.specs.Judges.Alike.{JudgesAlike}
use Rattle.candidate_eval.specs.Outcomes.Certainties.{AMBIGUOUS}
use Rattle.candidate_eval.specs.Interface.Evaluators.{Keeps, KeepsBut}
use Rattle.candidate_eval.specs.Outcomes.Merging.{merged}
use Rattle.candidate_eval.specs.Outcomes.ResponseTrees.{IsResponse, candidates_of, response_of}
use Rattle.candidate_eval.specs.Outcomes.Responses.{Candidate, Response}
use Rattle.candidate_eval.specs.Judges.States.{Judge, State, with_pending}
use Rattle.candidate_eval.proofs.Interface.Accounts.{by-stop, memory-somehow}
use Rattle.candidate_assembly.specs.declared.assembly.opaques.AssembleCandidatesFrom.{AssembleCandidatesFrom}
use Rattle.candidate_assembly.specs.Answers.Assembled.{has_where_bound, is_of_environment}
use Rattle.candidate_assembly.specs.Answers.AssembledCalls.{Assembles}
use Rattle.candidate_assembly.specs.Rules.AliasFaults.{PutsOffAny}
use Rattle.candidate_assembly.specs.Goals.KindBounds.{KindBounds}
use Rattle.candidate_assembly.specs.Goals.Kinds.{KindRules}
use Rattle.candidate_assembly.specs.Answers.MergedKinds.{AfterList, Answers, KeepsWhere, come_to, floundered, only_where_bounds, or_floundered}
use Rattle.candidate_assembly.specs.Answers.MergedKinds.AfterList.{unassembled}
use Rattle.candidate_assembly.proofs.Answers.Preferring.{of-source, read-by}
use Rattle.candidate_assembly.proofs.Answers.Specializing.{chosen}

-- a clause of the environment was found
pub where-bounds-win : (old list new : List OfNumbers) (b : Bool) → list ≡ old → ((ts : List Tree) → b ≡ has_where_bound (candidates_of ts list)) → b ≡ true → new ≡ of-source is_of_environment old
    → (ts : List Tree) → candidates_of ts new ≡ only_where_bounds (candidates_of ts old)
where-bounds-win old list new b is says e k ts =
    let found : has_where_bound (candidates_of ts old) ≡ true = ap (λ (xs : List OfNumbers). has_where_bound (candidates_of ts xs)) (sym is) ∙ (sym (says ts) ∙ e) in
    sym (chosen (has_where_bound (candidates_of ts old)) _ _ found ∙ read-by is_of_environment ts old new k)

-- too little is known of candidates that are there
some-floundered : (J : Judge) (S : State) (ts : List Tree) (xs : List OfNumbers) (o : Option Response) → xs ≢ [] → J.responded (with_pending S []) AMBIGUOUS ≡ o → floundered J S (candidates_of ts xs) ≡ o
some-floundered J S ts [] o some e = absurd (some refl)
some-floundered J S ts (x ∷ xs) o some e = e

pub none-there : (ts : List Tree) (xs : List OfNumbers) → xs ≡ [] → candidates_of ts xs ≡ []
none-there ts xs e = ap (candidates_of ts) e

pub some-there : (ts : List Tree) (xs : List OfNumbers) → (xs ≡ [] → ⊥) → candidates_of ts xs ≢ []
some-there ts [] some = absurd (some refl)
some-there ts (x ∷ xs) some = λ e. absurd cc

pub keeps-same : {E X : Type 0} (fixed : E → X) (probes : E → List State) (context : E → Context) (e : E) → Keeps fixed probes context e e
keeps-same fixed probes context e = record { fixed_same = refl; probes_same = refl; grows = grows-refl (context e); faults = refl }

-- What is kept, whatever faults are put off.

pub any-kept : {E X : Type 0} {fixed : E → X} {probes : E → List State} {context : E → Context} {a b : E} {P : List (List ℕ) → List (List ℕ) → Type 0} → KeepsBut P fixed probes context a b
    → KeepsBut PutsOffAny fixed probes context a b
any-kept k = record { fixed_same = k.fixed_same; probes_same = k.probes_same; grows = k.grows; faults = tt }

pub any-then : {E X : Type 0} {fixed : E → X} {probes : E → List State} {context : E → Context} {a b c : E} {P Q : List (List ℕ) → List (List ℕ) → Type 0} → KeepsBut P fixed probes context a b
    → KeepsBut Q fixed probes context b c → KeepsBut PutsOffAny fixed probes context a c
any-then {context = context} {a = a} {b = b} {c = c} g h = record {
  fixed_same = h.fixed_same ∙ g.fixed_same;
  probes_same = h.probes_same ∙ g.probes_same;
  grows = grows-trans (context a) (context b) (context c) g.grows h.grows;
  faults = tt;
}

-- A closure that may be called at some evaluators that keep what the first one has may be called at a later one, if that is one of them.
pub keeps-later : {E X F R : Type 0} {fixed : E → X} {probes : E → List State} {context : E → Context} {g : Once F (MutBor E × Unit {0}) (R × (MutBor E × Unit {0}))} {f : F} {first later : E}
    {reached : E → Type 0} {P : List (List ℕ) → List (List ℕ) → Type 0} → KeepsBut P fixed probes context first later → reached later → KeepsWhere fixed probes context g f first reached → KeepsWhere fixed probes context g f later (λ x. x ≡ later)
keeps-later {reached = reached} k here h = record {
  may = λ x l e. h.may x (any-then k l) (subst reached (sym e) here);
  keeps = λ x r y l e. h.keeps x r y (any-then k l) (subst reached (sym e) here);
}

module _ {E X : Type 0} {fixed : E → X} {judge : X → Judge} {state : E → State} {probes : E → List State} {context : E → Context} {stops : Account E} where
  -- The list stopped.
  pub list-stopped : {A G : Type 0} {K : KindRules G} {L : KindBounds G} {items : A → List OfNumbers} (old new : E) (g : G) (from : AssembleCandidatesFrom)
      (R : E → List Candidate → Result CanonicalResponse NoSolutionOrStop → E → Type 0) (s : Stop) (r : Result CanonicalResponse NoSolutionOrStop) → r ≡ Err (N.Stop s)
      → Assembles {A = A} fixed judge state probes context stops K L old new g from items (Err s) → AfterList fixed judge state probes context stops K L old g from R r new
  list-stopped {K = K} {L = L} old new g from R s r is h = subst (λ (x : Result CanonicalResponse NoSolutionOrStop). AfterList fixed judge state probes context stops K L old g from R x new) (sym is)
      (unassembled (record { kept = h.kept; told = record { ok = tt; fits = tt; stopped = h.told.stopped }; stopped = h.stopped; cause = h.cause }))

  -- a growth was refused
  pub not-answered : ((f : X) → JudgesAlike (judge f)) → (e : E) (answer : Option Response) (r : Result CanonicalResponse NoSolutionOrStop) (s : Stop) → r ≡ Err (N.Stop s) → s ≡ Memory
      → Answers fixed judge state probes context stops e e answer r
  not-answered law e answer r s is memory = subst (λ (x : Result CanonicalResponse NoSolutionOrStop). Answers fixed judge state probes context stops e e answer x) (sym is) (record {
    kept = keeps-same fixed probes context e;
    alike = (law (fixed e)).alike_same (state e);
    fits = tt;
    ok = tt;
    refused = λ n. absurd cc;
    cause = memory-somehow memory;
  })

  -- The candidates don't merge.
  pub answers-floundered : (old new : E) (xs : List OfNumbers) (r : Result CanonicalResponse NoSolutionOrStop) → None ≡ merged (candidates_of (context old).trees xs)
      → Keeps fixed probes context old new → (judge (fixed old)).alike (state old) (state new) → IfOk r (λ a. IsResponse (context new).trees a)
      → IfOk r (λ a. (judge (fixed old)).responded (with_pending (state old) []) AMBIGUOUS ≡ Some (response_of (context new).trees a)) → IfOk r (λ a. xs ≢ [])
      → IfErr r (λ e. e ≡ N.NoSolution → xs ≡ []) → IfErr r (by_stop (IsAccounted fixed context state stops old new))
      → Answers fixed judge state probes context stops old new (come_to (judge (fixed old)) (state old) (candidates_of (context old).trees xs)) r
  answers-floundered old new xs (Ok a) none kept alike fits answer some refused cause = record {
    kept = kept;
    alike = alike;
    fits = fits;
    ok = ap (or_floundered (judge (fixed old)) (state old) (candidates_of (context old).trees xs)) (sym none) ∙ some-floundered (judge (fixed old)) (state old) (context old).trees xs _ some answer;
    refused = tt;
    cause = tt;
  }
  answers-floundered old new xs (Err f) none kept alike fits answer some refused cause = record {
    kept = kept;
    alike = alike;
    fits = tt;
    ok = tt;
    refused = λ n. ap (λ (ys : List OfNumbers). come_to (judge (fixed old)) (state old) (candidates_of (context old).trees ys)) (refused n);
    cause = by-stop f (λ s a. asking a) cause;
  }
