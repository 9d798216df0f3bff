use Rattle.std.proofs.Common.{◌≡◌, Err, Ok, IfOk, inl, rules, subst, true}
use Rattle.std.proofs.lemmas.Result.{IfOk-weaker}
use Rattle.ir_trees.proofs.Growth.Kept.{args-kept, grows-refl}
use Rattle.candidate_assembly.proofs.Calls.Causes.{so-err}
use Rattle.assembly_notation.specs.declared.given.Given.{Given}
use Rattle.assembly_text.specs.Specializing.{IsInstanceUnless, IsPairStop, overlap_stopped}
use Rattle.assembly_text.proofs.Compared.{err-value, ok-value, stop-before, unless-before}
use Rattle.assembly_text.proofs.asking.Asking.unless_kept_apart.Goals as goal

pub returns-in-Ok-true-clause-found : goal.returns-in-Ok-true-clause-found
returns-in-Ok-true-clause-found c =
    let first = c.args.self.scope.maker in
    let is : c.kept_apart-asking.result.1 ≡ Ok true = search rules in
    inl (record {
      context = first;
      last = c.kept_apart-asking.result.0.scope.maker;
      grows = grows-refl first;
      answered = ok-value _ c.kept_apart-asking.result.1 true is c.kept_apart-asking.ensures.is;
    })

pub unless_negated-requires-clause-printable : goal.unless_negated-requires-clause-printable
unless_negated-requires-clause-printable c = (args-kept c.args.self.scope.maker c.kept_apart-asking.result.0.scope.maker c.args.instance.trait_ref.args c.kept_apart-asking.ensures.grows c.requires.printable).0

pub returns-in-Ok-false-clause-found : goal.returns-in-Ok-false-clause-found
returns-in-Ok-false-clause-found c =
    let first = c.args.self in
    let mid = c.kept_apart-asking.result.0 in
    IfOk-weaker c.unless_negated.result.1 _ _ (unless-before first.scope.maker mid.scope.maker c.kept_apart-asking.ensures.grows first.given c.args.first c.args.second c.args.instance)
    (subst (λ (y : Given). IfOk c.unless_negated.result.1 (IsInstanceUnless mid.scope.maker y c.args.first c.args.second c.args.instance)) c.kept_apart-asking.ensures.given c.unless_negated.ensures.found)

pub returns-in-Ok-false-clause-stopped : goal.returns-in-Ok-false-clause-stopped
returns-in-Ok-false-clause-stopped c =
    let first = c.args.self in
    let mid = c.kept_apart-asking.result.0 in
    so-err c.unless_negated.result.1
    (λ s k. stop-before first.scope.maker mid.scope.maker c.kept_apart-asking.ensures.grows first.given s (subst (λ (y : Given). IsPairStop mid.scope.maker y s) c.kept_apart-asking.ensures.given k)) c.unless_negated.ensures.stopped

pub returns-in-Err-clause-stopped : goal.returns-in-Err-clause-stopped
returns-in-Err-clause-stopped c =
    let first = c.args.self.scope.maker in
    let is : c.kept_apart-asking.result.1 ≡ Err c.in-Err.stop = search rules in
    overlap_stopped first c.kept_apart-asking.result.0.scope.maker (grows-refl first) (err-value _ c.kept_apart-asking.result.1 c.in-Err.stop is c.kept_apart-asking.ensures.stopped)
