use Rattle.std.proofs.Common.{◌≡◌, Err, IfErr, IfOk, Ok, false, true, refl, rules, subst, sym, ◌∙◌}
use Rattle.std.proofs.lemmas.Result.{IfOk-weaker}
use Rattle.std.specs.Prelude.{IfSome}
use Rattle.ir_trees.proofs.Growth.Kept.{grows-refl, grows-trans}
use Rattle.candidate_assembly.proofs.Calls.Causes.{so-err}
use Rattle.assembly_notation.specs.declared.given.Given.{Given}
use Rattle.overlaps.specs.declared.overlap.Overlap.TheVariants as O
use Rattle.overlaps.specs.declared.allowance.Allowance.TheVariants as A
use Rattle.assembly_text.specs.Specializing.{IsFoundOf, IsInstanceUnlessApart, IsPairStop, anyway, as_declared, by_answer, overlap_stopped}
use Rattle.assembly_text.proofs.Answered.{anyway-prints, overlap-prints}
use Rattle.assembly_text.proofs.Compared.{err-value, found-before, instance-found, ok-value, stop-before}
use Rattle.assembly_text.proofs.asking.Asking.compare.Goals as goal

pub returns-in-Ok-Allowed-Reservation-clause-found : goal.returns-in-Ok-Allowed-Reservation-clause-found
returns-in-Ok-Allowed-Reservation-clause-found c =
    let first = c.args.self.scope.maker in
    let is : c.overlapped-asking.result.1 ≡ Ok (O.Allowed A.Reservation) = search rules in
    by_answer (O.Allowed A.Reservation) (as_declared first c.overlapped-asking.result.0.scope.maker (grows-refl first) (ok-value _ c.overlapped-asking.result.1 (O.Allowed A.Reservation) is c.overlapped-asking.ensures.is)) tt

pub returns-in-Ok-Allowed-Marker-clause-found : goal.returns-in-Ok-Allowed-Marker-clause-found
returns-in-Ok-Allowed-Marker-clause-found c =
    let first = c.args.self.scope.maker in
    let is : c.overlapped-asking.result.1 ≡ Ok (O.Allowed A.Marker) = search rules in
    by_answer (O.Allowed A.Marker) (as_declared first c.overlapped-asking.result.0.scope.maker (grows-refl first) (ok-value _ c.overlapped-asking.result.1 (O.Allowed A.Marker) is c.overlapped-asking.ensures.is)) tt

pub returns-in-Ok-NoCommonTrait-clause-found : goal.returns-in-Ok-NoCommonTrait-clause-found
returns-in-Ok-NoCommonTrait-clause-found c =
    let first = c.args.self.scope.maker in
    let is : c.overlapped-asking.result.1 ≡ Ok (O.NoCommonTrait) = search rules in
    by_answer (O.NoCommonTrait) (as_declared first c.overlapped-asking.result.0.scope.maker (grows-refl first) (ok-value _ c.overlapped-asking.result.1 (O.NoCommonTrait) is c.overlapped-asking.ensures.is)) tt

pub returns-in-Ok-DisjointHeaders-clause-found : goal.returns-in-Ok-DisjointHeaders-clause-found
returns-in-Ok-DisjointHeaders-clause-found c =
    let first = c.args.self.scope.maker in
    let is : c.overlapped-asking.result.1 ≡ Ok (O.DisjointHeaders) = search rules in
    by_answer (O.DisjointHeaders) (as_declared first c.overlapped-asking.result.0.scope.maker (grows-refl first) (ok-value _ c.overlapped-asking.result.1 (O.DisjointHeaders) is c.overlapped-asking.ensures.is)) tt

pub returns-in-Ok-DisjointClause-clause-found : goal.returns-in-Ok-DisjointClause-clause-found
returns-in-Ok-DisjointClause-clause-found c =
    let first = c.args.self.scope.maker in
    let o = O.DisjointClause c.in-Ok-DisjointClause.field-0-0 in
    let is : c.overlapped-asking.result.1 ≡ Ok o = search rules in
    by_answer o (as_declared first c.overlapped-asking.result.0.scope.maker (grows-refl first) (ok-value _ c.overlapped-asking.result.1 o is c.overlapped-asking.ensures.is)) tt

pub returns-in-Ok-May-clause-found : goal.returns-in-Ok-May-clause-found
returns-in-Ok-May-clause-found c =
    let first = c.args.self in
    let mid = c.overlapped-asking.result.0 in
    let w = c.overlapped-asking.ensures.grows in
    let x = c.in-Ok-May.instance in
    let is : c.overlapped-asking.result.1 ≡ Ok (O.May x) = search rules in
    let h = as_declared first.scope.maker mid.scope.maker (grows-refl first.scope.maker) (ok-value _ c.overlapped-asking.result.1 (O.May x) is c.overlapped-asking.ensures.is) in
    IfOk-weaker c.unless_apart.result.1 _ _ (instance-found first.scope.maker mid.scope.maker w first.given c.args.effort c.args.first c.args.second x h)
    (subst (λ (y : Given). IfOk c.unless_apart.result.1 (IsInstanceUnlessApart mid.scope.maker y c.args.first c.args.second x)) c.overlapped-asking.ensures.given c.unless_apart.ensures.found)

pub returns-in-Ok-May-clause-stopped : goal.returns-in-Ok-May-clause-stopped
returns-in-Ok-May-clause-stopped c =
    let first = c.args.self in
    let mid = c.overlapped-asking.result.0 in
    so-err c.unless_apart.result.1
    (λ s k. stop-before first.scope.maker mid.scope.maker c.overlapped-asking.ensures.grows first.given s (subst (λ (y : Given). IsPairStop mid.scope.maker y s) c.overlapped-asking.ensures.given k)) c.unless_apart.ensures.stopped

pub unless_apart-requires-clause-printable : goal.unless_apart-requires-clause-printable
unless_apart-requires-clause-printable c =
    let mid = c.overlapped-asking.result.0 in
    let x = c.in-Ok-May.instance in
    let is : c.overlapped-asking.result.1 ≡ Ok (O.May x) = search rules in
    overlap-prints c.args.self.scope.maker c.args.self.given c.args.first c.args.second c.args.effort mid.scope.maker (O.May x) (ok-value _ c.overlapped-asking.result.1 (O.May x) is c.overlapped-asking.ensures.is)

pub returns-in-Err-clause-stopped : goal.returns-in-Err-clause-stopped
returns-in-Err-clause-stopped c =
    let first = c.args.self.scope.maker in
    let is : c.overlapped-asking.result.1 ≡ Err c.in-Err.stop = search rules in
    overlap_stopped first c.overlapped-asking.result.0.scope.maker (grows-refl first) (err-value _ c.overlapped-asking.result.1 c.in-Err.stop is c.overlapped-asking.ensures.stopped)

pub returns-in-Ok-Allowed-Specializes-clause-found : goal.returns-in-Ok-Allowed-Specializes-clause-found
returns-in-Ok-Allowed-Specializes-clause-found c =
    let first = c.args.self in
    let mid = c.overlapped-asking.result.0 in
    IfOk-weaker c.compare_declared.result.1 _ _ (found-before first.scope.maker mid.scope.maker c.overlapped-asking.ensures.grows first.given c.args.effort c.args.first c.args.second)
    (subst (λ (y : Given). IfOk c.compare_declared.result.1 (IsFoundOf mid.scope.maker y c.args.effort c.args.first c.args.second)) c.overlapped-asking.ensures.given c.compare_declared.ensures.found)

pub returns-in-Ok-Allowed-Specializes-clause-stopped : goal.returns-in-Ok-Allowed-Specializes-clause-stopped
returns-in-Ok-Allowed-Specializes-clause-stopped c =
    let first = c.args.self in
    let mid = c.overlapped-asking.result.0 in
    so-err c.compare_declared.result.1
    (λ s k. stop-before first.scope.maker mid.scope.maker c.overlapped-asking.ensures.grows first.given s (subst (λ (y : Given). IsPairStop mid.scope.maker y s) c.overlapped-asking.ensures.given k)) c.compare_declared.ensures.stopped
