use Rattle.std.proofs.Common.{◌≡◌, Err, IfOk, None, Ok, false, true, refl, rules, subst}
use Rattle.std.proofs.lemmas.Result.{IfOk-weaker}
use Rattle.std.specs.Prelude.{IfSome}
use Rattle.candidate_assembly.proofs.Calls.Causes.{so-err}
use Rattle.assembly_notation.specs.declared.given.Given.{Given}
use Rattle.assembly_text.specs.Specializing.{IsNotOneBy, IsNotOtherBy, IsOneBy, IsOtherBy, IsPairStop}
use Rattle.assembly_text.proofs.Compared.{err-value, none-of-one, none-of-other, ok-value, ones-of-them, others-of-them, stop-before}
use Rattle.assembly_text.proofs.asking.Asking.special_one.Goals as goal

pub returns-in-Ok-true-clause-special : goal.returns-in-Ok-true-clause-special
returns-in-Ok-true-clause-special c =
    let first = c.args.self in
    let mid = c.is_special-asking.result.0 in
    let s = c.is_special-asking.ensures.stays in
    let is : c.is_special-asking.result.1 ≡ Ok true = search rules in
    let h = ok-value _ c.is_special-asking.result.1 true is c.is_special-asking.ensures.special refl in
    IfOk-weaker c.unless_other.result.1 _ _ (ones-of-them first.scope.maker mid.scope.maker s.grows first.given c.args.by_line c.args.first c.args.second h)
    (subst (λ (x : Given). IfOk c.unless_other.result.1 (λ o. IfSome o (IsOneBy mid.scope.maker x c.args.by_line c.args.first c.args.second))) s.given c.unless_other.ensures.special)

pub returns-in-Ok-true-clause-none : goal.returns-in-Ok-true-clause-none
returns-in-Ok-true-clause-none c =
    let first = c.args.self in
    let mid = c.is_special-asking.result.0 in
    let s = c.is_special-asking.ensures.stays in
    let is : c.is_special-asking.result.1 ≡ Ok true = search rules in
    let h = ok-value _ c.is_special-asking.result.1 true is c.is_special-asking.ensures.special refl in
    IfOk-weaker c.unless_other.result.1 _ _ (λ o k e. none-of-one first.scope.maker mid.scope.maker s.grows first.given c.args.by_line c.args.first c.args.second h (k e))
    (subst (λ (x : Given). IfOk c.unless_other.result.1 (λ o. o ≡ None → IsNotOneBy mid.scope.maker x c.args.by_line c.args.first c.args.second)) s.given c.unless_other.ensures.none)

pub returns-in-Ok-true-clause-stopped : goal.returns-in-Ok-true-clause-stopped
returns-in-Ok-true-clause-stopped c =
    let first = c.args.self in
    let mid = c.is_special-asking.result.0 in
    let s = c.is_special-asking.ensures.stays in
    so-err c.unless_other.result.1 (λ x k. stop-before first.scope.maker mid.scope.maker s.grows first.given x (subst (λ (y : Given). IsPairStop mid.scope.maker y x) s.given k)) c.unless_other.ensures.stopped

pub returns-in-Ok-false-clause-special : goal.returns-in-Ok-false-clause-special
returns-in-Ok-false-clause-special c =
    let first = c.args.self in
    let mid = c.is_special-asking.result.0 in
    let s = c.is_special-asking.ensures.stays in
    let is : c.is_special-asking.result.1 ≡ Ok false = search rules in
    let h = ok-value _ c.is_special-asking.result.1 false is c.is_special-asking.ensures.other refl in
    IfOk-weaker c.if_other.result.1 _ _ (others-of-them first.scope.maker mid.scope.maker s.grows first.given c.args.by_line c.args.first c.args.second h)
    (subst (λ (x : Given). IfOk c.if_other.result.1 (λ o. IfSome o (IsOtherBy mid.scope.maker x c.args.by_line c.args.first c.args.second))) s.given c.if_other.ensures.special)

pub returns-in-Ok-false-clause-none : goal.returns-in-Ok-false-clause-none
returns-in-Ok-false-clause-none c =
    let first = c.args.self in
    let mid = c.is_special-asking.result.0 in
    let s = c.is_special-asking.ensures.stays in
    let is : c.is_special-asking.result.1 ≡ Ok false = search rules in
    let h = ok-value _ c.is_special-asking.result.1 false is c.is_special-asking.ensures.other refl in
    IfOk-weaker c.if_other.result.1 _ _ (λ o k e. none-of-other first.scope.maker mid.scope.maker s.grows first.given c.args.by_line c.args.first c.args.second h (k e))
    (subst (λ (x : Given). IfOk c.if_other.result.1 (λ o. o ≡ None → IsNotOtherBy mid.scope.maker x c.args.by_line c.args.first c.args.second)) s.given c.if_other.ensures.none)

pub returns-in-Ok-false-clause-stopped : goal.returns-in-Ok-false-clause-stopped
returns-in-Ok-false-clause-stopped c =
    let first = c.args.self in
    let mid = c.is_special-asking.result.0 in
    let s = c.is_special-asking.ensures.stays in
    so-err c.if_other.result.1 (λ x k. stop-before first.scope.maker mid.scope.maker s.grows first.given x (subst (λ (y : Given). IsPairStop mid.scope.maker y x) s.given k)) c.if_other.ensures.stopped

pub returns-in-Err-clause-stopped : goal.returns-in-Err-clause-stopped
returns-in-Err-clause-stopped c =
    let is : c.is_special-asking.result.1 ≡ Err c.in-Err.stop = search rules in
    err-value _ c.is_special-asking.result.1 c.in-Err.stop is c.is_special-asking.ensures.stopped
