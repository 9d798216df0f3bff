use Rattle.std.proofs.Common.{ℕ, refl, subst}
use Rattle.std.specs.Prelude.{IfSome}
use Rattle.ir_trees.specs.Declarations.Context.{Context}
use Rattle.ir_trees.specs.Declarations.Declaring.{impl_at}
use Rattle.ir_trees.specs.Validity.WellFormed.{ImplIsGiven}
use Rattle.candidate_rounds.specs.Evaluators.Known.{state, sure_of}
use Rattle.overlaps.specs.Apart.{OfDeclared, aside}
use Rattle.overlaps.specs.Negated.{IsNegatedBy, clause_of_first, clause_of_second}
use Rattle.overlaps.proofs.Negated.{negated-earlier, some-holds}
use Rattle.overlaps.proofs.Stopping.{later-steps, passed-on, stop-later}
use Rattle.overlaps.specs.Stopping.{IsOverlapStop}
use Rattle.overlaps.proofs.Staying.{stays-refl, stays-trans}
use Rattle.overlaps.proofs.negation.kept_apart_by_negation.Goals as goal

pub returns-then-not-have_common_trait-clause-stays : goal.returns-then-not-have_common_trait-clause-stays
returns-then-not-have_common_trait-clause-stays c = stays-refl c.args.rounds.now

pub returns-in-Some-clause-negated : goal.returns-in-Some-clause-negated
returns-in-Some-clause-negated c =
    let old = c.args.rounds.now in
    let there = some-holds (λ (n : ℕ). OfDeclared old.context c.args.first c.args.second (IsNegatedBy old (aside (state old)) (sure_of c.negated_aside.new.rounds) n)) c.in_ok-number.field-0 c.in-Some.number c.in-Some.is
    c.in_ok-number.ensures.negated in
    clause_of_second refl there

pub returns-in_err-number-2-clause-stays : goal.returns-in_err-number-2-clause-stays
returns-in_err-number-2-clause-stays c = stays-trans c.negated_aside.ensures.stays c.negated_aside-2.ensures.stays

pub returns-in_err-number-2-clause-cause : goal.returns-in_err-number-2-clause-cause
returns-in_err-number-2-clause-cause c = passed-on (IsOverlapStop c.args.rounds.now c.negated_aside-2.new.rounds) c.from_residual-in_err-number-2.result c.in_err-number-2.field-0.0 c.from_residual-in_err-number-2.ensures.1 (stop-later (later-steps c.negated_aside.ensures.stays) c.in_err-number-2.ensures.cause)

pub returns-in-Some-2-clause-stays : goal.returns-in-Some-2-clause-stays
returns-in-Some-2-clause-stays c = stays-trans c.negated_aside.ensures.stays c.negated_aside-2.ensures.stays

pub returns-in-Some-2-clause-negated : goal.returns-in-Some-2-clause-negated
returns-in-Some-2-clause-negated c =
    let old = c.args.rounds.now in
    let a = c.args.first in
    let b = c.args.second in
    let given = subst (λ (x : Context). IfSome (impl_at x a) (ImplIsGiven x)) c.cx.ensures c.recall_impl_given.ensures in
    let other = subst (λ (x : Context). IfSome (impl_at x b) (ImplIsGiven x)) c.cx-2.ensures c.recall_impl_given-2.ensures in
    let mid = c.negated_aside.new.rounds in
    let T = sure_of c.negated_aside-2.new.rounds in
    let there = some-holds (λ (n : ℕ). OfDeclared mid.context b a (IsNegatedBy mid (aside (state mid)) T n)) c.in_ok-number-2.field-0 c.in-Some-2.number c.in-Some-2.is c.in_ok-number-2.ensures.negated in
    clause_of_first refl (negated-earlier old mid b a T c.negated_aside.ensures.stays other given c.in-Some-2.number there)

pub returns-clause-stays : goal.returns-clause-stays
returns-clause-stays c = stays-trans c.negated_aside.ensures.stays c.negated_aside-2.ensures.stays
