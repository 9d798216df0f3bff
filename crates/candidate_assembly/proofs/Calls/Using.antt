-- What is told of an answer stays so, whatever its candidate has used.
use Rattle.std.proofs.Common.{◌≡◌, List, Result, Ok, Err, IfErr, refl, sym, subst}
use Rattle.ir_trees.specs.Declarations.Context.{Context}
use Rattle.ir_trees.specs.Syntax.Trees.{Tree}
use Rattle.candidate_eval.specs.declared.eval.refusal.NoSolutionOrStop.{NoSolutionOrStop}
use Rattle.candidate_eval.specs.declared.eval.refusal.NoSolutionOrStop.TheVariants as N
use Rattle.candidate_eval.specs.declared.eval.response.Candidate.{Candidate}
use Rattle.candidate_eval.specs.declared.eval.response.CandidateHeadUsages.{CandidateHeadUsages}
use Rattle.candidate_eval.specs.Interface.Accounts.{Account}
use Rattle.candidate_eval.specs.Derivations.Judging.{Judged}
use Rattle.candidate_eval.specs.Derivations.Rules.{Rule}
use Rattle.candidate_eval.specs.Judges.States.{Judge, State}
use Rattle.candidate_assembly.specs.Answers.ObjectAnswers.{ConsidersObject, ToldOf}
use Rattle.candidate_assembly.specs.Answers.Telling.{Considers, ConsidersSome, Told, ToldSome, without_usages}
use Rattle.candidate_assembly.specs.Answers.Usages.{answer_using, either_using}
use Rattle.candidate_assembly.specs.Goals.Kinds.{KindRules}
use Rattle.candidate_assembly.specs.Rules.ObjectBounds.{OwnClause}

pub without-either : (u : CandidateHeadUsages) (a : Result Candidate NoSolutionOrStop) → without_usages (either_using u a) ≡ answer_using u a
without-either u (Ok c) = refl
without-either u (Err N.NoSolution) = refl
without-either u (Err (N.Stop s)) = refl

pub told-using : (ts : List Tree) (u : CandidateHeadUsages) (a : Result Candidate NoSolutionOrStop) (j : Judged) → Told ts a j → Told ts (answer_using u a) j
told-using ts u (Ok c) j t = record { ok = t.ok; fits = t.fits; refused = tt; stopped = tt }
told-using ts u (Err e) j t = t

pub some-using : (ts : List Tree) (R : Judged → Type 0) (u : CandidateHeadUsages) (a : Result Candidate NoSolutionOrStop) → ToldSome ts R a → ToldSome ts R (answer_using u a)
some-using ts R u (Ok c) t = record { ok = t.ok; fits = t.fits; refused = tt; stopped = tt }
some-using ts R u (Err e) t = t

pub object-using : (ts : List Tree) (R : Judged → Type 0) (u : CandidateHeadUsages) (a : Result Candidate NoSolutionOrStop) → ToldOf ts R a → ToldOf ts R (answer_using u a)
object-using ts R u (Ok c) t = record { ok = t.ok; fits = t.fits; refused = tt; stopped = tt }
object-using ts R u (Err e) t = t

pub cause-using : (P : NoSolutionOrStop → Type 0) (u : CandidateHeadUsages) (a : Result Candidate NoSolutionOrStop) → IfErr a P → IfErr (answer_using u a) P
cause-using P u (Ok c) h = tt
cause-using P u (Err e) h = h

module _ {E X : Type 0} {fixed : E → X} {judge : X → Judge} {state : E → State} {probes : E → List State} {context : E → Context} {stops : Account E} where
  pub considers-using : (old new : E) (rule : Rule) (u : CandidateHeadUsages) (a r : Result Candidate NoSolutionOrStop) → r ≡ answer_using u a
      → Considers fixed judge state probes context stops old new rule a → Considers fixed judge state probes context stops old new rule r
  considers-using old new rule u a r is c = subst (λ (x : Result Candidate NoSolutionOrStop). Considers fixed judge state probes context stops old new rule x) (sym is)
      (record { kept = c.kept; alike = c.alike; told = told-using (context new).trees u a _ c.told; cause = cause-using _ u a c.cause })

  -- of a call that answers by a relation
  pub considers-some-using : (old new : E) (R : Judged → Type 0) (u : CandidateHeadUsages) (a r : Result Candidate NoSolutionOrStop) → r ≡ answer_using u a
      → ConsidersSome fixed judge state probes context stops old new R a → ConsidersSome fixed judge state probes context stops old new R r
  considers-some-using old new R u a r is c = subst (λ (x : Result Candidate NoSolutionOrStop). ConsidersSome fixed judge state probes context stops old new R x) (sym is)
      (record { kept = c.kept; alike = c.alike; told = some-using (context new).trees R u a c.told; cause = cause-using _ u a c.cause })

  -- of a clause of a `dyn` type
  pub considers-object-using : {G : Type 0} (K : KindRules G) (old new : E) (g : G) (o : OwnClause) (u : CandidateHeadUsages) (a r : Result Candidate NoSolutionOrStop) → r ≡ answer_using u a
      → ConsidersObject fixed judge state probes context stops K old new g o a → ConsidersObject fixed judge state probes context stops K old new g o r
  considers-object-using K old new g o u a r is c = subst (λ (x : Result Candidate NoSolutionOrStop). ConsidersObject fixed judge state probes context stops K old new g o x) (sym is)
      (record { kept = c.kept; alike = c.alike; told = object-using (context new).trees _ u a c.told; as_rule = object-using (context new).trees _ u a c.as_rule; cause = cause-using _ u a c.cause })
