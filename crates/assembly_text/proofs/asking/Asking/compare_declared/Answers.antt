use Rattle.std.proofs.Common.{◌≡◌, Err, IfOk, Ok, Some, rules, subst}
use Rattle.std.proofs.lemmas.Result.{IfOk-weaker}
use Rattle.candidate_assembly.proofs.Calls.Causes.{so-err}
use Rattle.assembly_notation.specs.declared.given.Given.{Given}
use Rattle.assembly_text.specs.Specializing.{IsFoundOf, IsPairStop, by_line}
use Rattle.assembly_text.proofs.Compared.{err-value, found-before, ok-value, stop-before}
use Rattle.assembly_text.proofs.asking.Asking.compare_declared.Goals as goal

pub returns-in-Ok-Some-clause-found : goal.returns-in-Ok-Some-clause-found
returns-in-Ok-Some-clause-found c =
    let p = c.in-Ok-Some.field-0-0 in
    let is : c.special_one-asking.result.1 ≡ Ok (Some p) = search rules in
    by_line p.0 p.1 (ok-value _ c.special_one-asking.result.1 (Some p) is c.special_one-asking.ensures.special)

pub returns-in-Ok-None-clause-found : goal.returns-in-Ok-None-clause-found
returns-in-Ok-None-clause-found c =
    let first = c.args.self in
    let mid = c.special_one-asking.result.0 in
    let s = c.special_one-asking.ensures.stays in
    IfOk-weaker c.compare_anyway.result.1 _ _ (found-before first.scope.maker mid.scope.maker s.grows first.given c.args.effort c.args.first c.args.second)
    (subst (λ (y : Given). IfOk c.compare_anyway.result.1 (IsFoundOf mid.scope.maker y c.args.effort c.args.first c.args.second)) s.given c.compare_anyway.ensures.found)

pub returns-in-Ok-None-clause-stopped : goal.returns-in-Ok-None-clause-stopped
returns-in-Ok-None-clause-stopped c =
    let first = c.args.self in
    let mid = c.special_one-asking.result.0 in
    let s = c.special_one-asking.ensures.stays in
    so-err c.compare_anyway.result.1 (λ x k. stop-before first.scope.maker mid.scope.maker s.grows first.given x (subst (λ (y : Given). IsPairStop mid.scope.maker y x) s.given k)) c.compare_anyway.ensures.stopped

pub returns-in-Err-clause-stopped : goal.returns-in-Err-clause-stopped
returns-in-Err-clause-stopped c =
    let is : c.special_one-asking.result.1 ≡ Err c.in-Err.stop = search rules in
    err-value _ c.special_one-asking.result.1 c.in-Err.stop is c.special_one-asking.ensures.stopped
