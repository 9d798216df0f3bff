-- Which faults calls put off that are handed a closure: those that the closure does, and none where it does none.
use Rattle.std.proofs.Common.{Bool, ◌∙◌, Result, List, ◌∷◌, ℕ}
use Rattle.std.specs.Fn.{Once, FnOnceReturnsAtMut}
use Rattle.std.specs.Borrow.{MutBor}
use Rattle.ir_trees.specs.Declarations.Context.{Context}
use Rattle.ir_trees.proofs.Growth.Kept.{grows-trans}
use Rattle.candidate_eval.specs.declared.eval.refusal.NoSolutionOrStop.{NoSolutionOrStop}
use Rattle.candidate_eval.specs.declared.eval.response.Candidate.{Candidate}
use Rattle.candidate_eval.specs.declared.eval.response.CanonicalResponse.{CanonicalResponse}
use Rattle.candidate_eval.specs.declared.eval.source.CandidateSource.{CandidateSource}
use Rattle.candidate_eval.specs.Interface.Accounts.{Account}
use Rattle.candidate_eval.specs.Interface.Evaluators.{Keeps, KeepsBut, NoFault}
use Rattle.candidate_eval.specs.Derivations.Judging.{Reached}
use Rattle.candidate_eval.specs.Judges.States.{State}
use Rattle.candidate_assembly.specs.Answers.Closures.{After, AfterWith, InProbe, KeepsIn, ReturnsWith, not_begun, not_tried, tried}
use Rattle.candidate_assembly.specs.Answers.Closures.After.{stopped, refused, called}
use Rattle.candidate_assembly.specs.Answers.Closures.AfterWith.{called as called_with, refused as refused_with, stopped as stopped_with}
use Rattle.candidate_assembly.specs.Rules.AliasFaults.{PutsOffAny}
use Rattle.candidate_assembly.proofs.Calls.Keeping.{keeps-in, keeps-open}

-- What is kept whatever faults are put off.

pub any-kept : {E X : Type 0} {fixed : E → X} {probes : E → List State} {context : E → Context} {a b : E} {P : List (List ℕ) → List (List ℕ) → Type 0} → KeepsBut P fixed probes context a b
    → KeepsBut PutsOffAny fixed probes context a b
any-kept k = record { fixed_same = k.fixed_same; probes_same = k.probes_same; grows = k.grows; faults = tt }

pub any-then : {E X : Type 0} {fixed : E → X} {probes : E → List State} {context : E → Context} {a b c : E} {P Q : List (List ℕ) → List (List ℕ) → Type 0} → KeepsBut P fixed probes context a b
    → KeepsBut Q fixed probes context b c → KeepsBut PutsOffAny fixed probes context a c
any-then {context = context} {a = a} {b = b} {c = c} g h = record {
  fixed_same = h.fixed_same ∙ g.fixed_same;
  probes_same = h.probes_same ∙ g.probes_same;
  grows = grows-trans (context a) (context b) (context c) g.grows h.grows;
  faults = tt;
}

pub quiet-kept : {E X : Type 0} {fixed : E → X} {probes : E → List State} {context : E → Context} {a b : E} {P : List (List ℕ) → List (List ℕ) → Type 0} → KeepsBut P fixed probes context a b
    → NoFault (context a) (context b) → Keeps fixed probes context a b
quiet-kept k n = record { fixed_same = k.fixed_same; probes_same = k.probes_same; grows = k.grows; faults = n }

-- Steps and then a closure that puts none off.

pub after-quiet : {E F X R : Type 0} {fixed : E → X} {state : E → State} {probes : E → List State} {context : E → Context} {stops : Account E} {g : Once F (MutBor E × Unit {0}) (Result R NoSolutionOrStop × (MutBor E × Unit {0}))} {f : F} (first : E)
    (reached : Reached) (r : Result R NoSolutionOrStop) (y : E)
    → ((x : E) (r : Result R NoSolutionOrStop) (y : E) → Keeps fixed probes context first x → FnOnceReturnsAtMut g f x r y → NoFault (context x) (context y))
    → After fixed state probes context stops g f first reached r y → NoFault (context first) (context y)
after-quiet first reached r y quiet (stopped s z own w n) = n
after-quiet first reached r y quiet (refused z is n) = n
after-quiet first reached r y quiet (called x p is at keeps met) = quiet x r y keeps met ∙ keeps.faults

after-quiet-with : {E F X A : Type 0} {fixed : E → X} {state : E → State} {probes : E → List State} {context : E → Context} {stops : Account E}
    {g : Once F (MutBor E × (A × Unit {0})) (Result CanonicalResponse NoSolutionOrStop × (MutBor E × Unit {0}))} {f : F} (first : E) (a : A) (reached : Reached) (r : Result CanonicalResponse NoSolutionOrStop) (y : E)
    → ((x : E) (r : Result CanonicalResponse NoSolutionOrStop) (y : E) → Keeps fixed probes context first x → ReturnsWith g f x a r y → NoFault (context x) (context y))
    → AfterWith fixed state probes context stops g f first a reached r y → NoFault (context first) (context y)
after-quiet-with first a reached r y quiet (stopped_with s z own w n) = n
after-quiet-with first a reached r y quiet (refused_with z is n) = n
after-quiet-with first a reached r y quiet (called_with x p is at keeps met) = quiet x r y keeps met ∙ keeps.faults

-- The same in a probe.

probe-quiet : {E X : Type 0} {fixed : E → X} {state : E → State} {probes : E → List State} {context : E → Context} {stops : Account E} {applies : Bool} {R : E → Result CanonicalResponse NoSolutionOrStop → E → Type 0} {source : CandidateSource}
    (first : E) (answer : Result Candidate NoSolutionOrStop) (last : E)
    → ((began : E) (r : Result CanonicalResponse NoSolutionOrStop) (y : E) → KeepsIn fixed probes context first (state first ∷ probes first) began → R began r y → NoFault (context began) (context y))
    → InProbe fixed state probes context stops applies R source first answer last → NoFault (context first) (context last)
probe-quiet first answer last quiet (not_tried z out n) = n
probe-quiet first answer last quiet (not_begun s z own w n) = n
probe-quiet first answer last quiet (tried {r = r} began y z applies keeps same n ran sourced m) = m ∙ (quiet began r y keeps ran ∙ n)

pub tried-quiet : {E F X : Type 0} {fixed : E → X} {state : E → State} {probes : E → List State} {context : E → Context} {stops : Account E} {applies : Bool} {source : CandidateSource}
    {g : Once F (MutBor E × Unit {0}) (Result CanonicalResponse NoSolutionOrStop × (MutBor E × Unit {0}))} {f : F} (reached : Reached) (first : E) (answer : Result Candidate NoSolutionOrStop) (last : E)
    → ((x : E) (r : Result CanonicalResponse NoSolutionOrStop) (y : E) → KeepsIn fixed probes context first (state first ∷ probes first) x → FnOnceReturnsAtMut g f x r y → NoFault (context x) (context y))
    → InProbe fixed state probes context stops applies (λ x. After fixed state probes context stops g f x reached) source first answer last → NoFault (context first) (context last)
tried-quiet reached first answer last quiet t =
    probe-quiet first answer last (λ began r y k ran. after-quiet began reached r y (λ x r y keeps met. quiet x r y (keeps-in k.fixed_same k.probes_are k.grows (keeps-open keeps)) met) ran) t

pub tried-quiet-with : {E F X A : Type 0} {fixed : E → X} {state : E → State} {probes : E → List State} {context : E → Context} {stops : Account E} {applies : Bool} {source : CandidateSource}
    {g : Once F (MutBor E × (A × Unit {0})) (Result CanonicalResponse NoSolutionOrStop × (MutBor E × Unit {0}))} {f : F} (a : A) (reached : Reached) (first : E) (answer : Result Candidate NoSolutionOrStop) (last : E)
    → ((x : E) (r : Result CanonicalResponse NoSolutionOrStop) (y : E) → KeepsIn fixed probes context first (state first ∷ probes first) x → ReturnsWith g f x a r y → NoFault (context x) (context y))
    → InProbe fixed state probes context stops applies (λ x. AfterWith fixed state probes context stops g f x a reached) source first answer last → NoFault (context first) (context last)
tried-quiet-with a reached first answer last quiet t =
    probe-quiet first answer last (λ began r y k ran. after-quiet-with began a reached r y (λ x r y keeps met. quiet x r y (keeps-in k.fixed_same k.probes_are k.grows (keeps-open keeps)) met) ran) t
