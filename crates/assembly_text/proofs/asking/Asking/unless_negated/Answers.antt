use Rattle.std.proofs.Common.{◌≡◌, Err, None, Ok, Some, IfOk, rules, subst, true}
use Rattle.std.proofs.lemmas.Result.{IfOk-weaker}
use Rattle.ir_trees.proofs.Growth.Kept.{args-kept, grows-refl}
use Rattle.candidate_assembly.proofs.Calls.Causes.{so-err}
use Rattle.assembly_notation.specs.declared.given.Given.{Given}
use Rattle.assembly_text.specs.Specializing.{IsInstanceOr, IsPairStop, test_stopped_there}
use Rattle.assembly_text.proofs.Compared.{err-value, ok-value, or-before, stop-before}
use Rattle.assembly_text.proofs.asking.Asking.unless_negated.Goals as goal

pub returns-in-Ok-Some-clause-found : goal.returns-in-Ok-Some-clause-found
returns-in-Ok-Some-clause-found c =
    let first = c.args.self in
    let w = c.in-Ok-Some.field-0-0 in
    let is : c.negated-asking.result.1 ≡ Ok (Some w) = search rules in
    let asked : first.given.negative ≡ true = search rules in (
      w,
      record {
        asked = asked;
        context = first.scope.maker;
        last = c.negated-asking.result.0.scope.maker;
        grows = grows-refl first.scope.maker;
        answered = ok-value _ c.negated-asking.result.1 (Some w) is c.negated-asking.ensures.is;
      },
    )

pub unless_special-requires-in-Ok-None-clause-printable : goal.unless_special-requires-in-Ok-None-clause-printable
unless_special-requires-in-Ok-None-clause-printable c = (args-kept c.args.self.scope.maker c.negated-asking.result.0.scope.maker c.args.instance.trait_ref.args c.negated-asking.ensures.grows c.requires.printable).0

pub returns-in-Ok-None-clause-found : goal.returns-in-Ok-None-clause-found
returns-in-Ok-None-clause-found c =
    let first = c.args.self in
    let mid = c.negated-asking.result.0 in
    IfOk-weaker c.unless_special-in-Ok-None.result.1 _ _ (or-before first.scope.maker mid.scope.maker c.negated-asking.ensures.grows first.given c.args.first c.args.second c.args.instance)
    (subst (λ (y : Given). IfOk c.unless_special-in-Ok-None.result.1 (IsInstanceOr mid.scope.maker y c.args.first c.args.second c.args.instance)) c.negated-asking.ensures.given c.unless_special-in-Ok-None.ensures.found)

pub returns-in-Ok-None-clause-stopped : goal.returns-in-Ok-None-clause-stopped
returns-in-Ok-None-clause-stopped c =
    let first = c.args.self in
    let mid = c.negated-asking.result.0 in
    so-err c.unless_special-in-Ok-None.result.1
    (λ s k. stop-before first.scope.maker mid.scope.maker c.negated-asking.ensures.grows first.given s (subst (λ (y : Given). IsPairStop mid.scope.maker y s) c.negated-asking.ensures.given k)) c.unless_special-in-Ok-None.ensures.stopped

pub returns-in-Err-clause-stopped : goal.returns-in-Err-clause-stopped
returns-in-Err-clause-stopped c =
    let first = c.args.self.scope.maker in
    let is : c.negated-asking.result.1 ≡ Err c.in-Err.stop = search rules in
    test_stopped_there first c.negated-asking.result.0.scope.maker (grows-refl first) (err-value _ c.negated-asking.result.1 c.in-Err.stop is c.negated-asking.ensures.stopped)
