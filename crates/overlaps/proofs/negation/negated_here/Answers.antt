use Rattle.std.proofs.Common.{rules, subst, sym, ◌∙◌}
use Rattle.std.specs.Prelude.{IfSome}
use Rattle.std.proofs.lemmas.Result.{IfOk-weaker}
use Rattle.ir_trees.specs.Declarations.Context.{Context}
use Rattle.ir_trees.specs.Declarations.Declaring.{impl_at}
use Rattle.ir_trees.specs.Validity.WellFormed.{ImplIsGiven}
use Rattle.ir_trees.proofs.Growth.Kept.{args-kept, grows-trans}
use Rattle.candidate_assembly.proofs.Calls.Causes.{so-err}
use Rattle.candidate_rounds.specs.Evaluators.Known.{state, sure_of}
use Rattle.overlaps.specs.Opening.{AreOpened}
use Rattle.overlaps.proofs.Negated.{negated-here, some-weaker}
use Rattle.overlaps.proofs.Pairs.{are-open}
use Rattle.overlaps.proofs.Staying.{known-kept, known-then}
use Rattle.overlaps.proofs.Stopping.{asking-stop, later-kept, later-refl, later-then, passed-on, stop-later}
use Rattle.overlaps.specs.Stopping.{IsOverlapStop}
use Rattle.overlaps.proofs.negation.negated_here.Goals as goal

pub returns-in_err-of_first-clause-stays : goal.returns-in_err-of_first-clause-stays
returns-in_err-of_first-clause-stays c = known-kept c.placeholder_args_for_impl.ensures.kept

pub returns-in_err-of_first-clause-cause : goal.returns-in_err-of_first-clause-cause
returns-in_err-of_first-clause-cause c = passed-on (IsOverlapStop c.args.rounds.now c.placeholder_args_for_impl.new.ecx) c.from_residual.result c.in_err-of_first.field-0.0 c.from_residual.ensures.1 (asking-stop (later-refl c.args.rounds.now) c.in_err-of_first.ensures.cause)

pub returns-in_err-of_second-clause-stays : goal.returns-in_err-of_second-clause-stays
returns-in_err-of_second-clause-stays c = known-then (known-kept c.placeholder_args_for_impl.ensures.kept) (known-kept c.placeholder_args_for_impl-2.ensures.kept)

pub returns-in_err-of_second-clause-cause : goal.returns-in_err-of_second-clause-cause
returns-in_err-of_second-clause-cause c = passed-on (IsOverlapStop c.args.rounds.now c.placeholder_args_for_impl-2.new.ecx) c.from_residual-in_err-of_second.result c.in_err-of_second.field-0.0 c.from_residual-in_err-of_second.ensures.1 (asking-stop (later-kept c.placeholder_args_for_impl.ensures.kept) c.in_err-of_second.ensures.cause)

pub returns-in_err-pair-clause-stays : goal.returns-in_err-pair-clause-stays
returns-in_err-pair-clause-stays c = known-then (known-then (known-kept c.placeholder_args_for_impl.ensures.kept) (known-kept c.placeholder_args_for_impl-2.ensures.kept)) (known-kept c.open_both.ensures.kept)

pub returns-in_err-pair-clause-cause : goal.returns-in_err-pair-clause-cause
returns-in_err-pair-clause-cause c = passed-on (IsOverlapStop c.args.rounds.now c.open_both.new.ecx) c.from_residual-in_err-pair.result c.in_err-pair.field-0.0 c.from_residual-in_err-pair.ensures.1 (asking-stop (later-then (later-kept c.placeholder_args_for_impl.ensures.kept) (later-kept c.placeholder_args_for_impl-2.ensures.kept)) c.in_err-pair.ensures.cause)

pub returns-in_default-clause-stays : goal.returns-in_default-clause-stays
returns-in_default-clause-stays c = known-then (known-then (known-kept c.placeholder_args_for_impl.ensures.kept) (known-kept c.placeholder_args_for_impl-2.ensures.kept)) (known-kept c.open_both.ensures.kept)

pub negated_of_pair-requires-clause-pair : goal.negated_of_pair-requires-clause-pair
negated_of_pair-requires-clause-pair c =
    let two = c.placeholder_args_for_impl-2.new.ecx in
    let mid = c.open_both.new.ecx in
    let o : AreOpened two.context (state two) c.args.first c.args.second mid.context (state mid) c.in-Some.pair = search rules in
    are-open two.context (state two) c.args.first c.args.second mid.context (state mid) c.in-Some.pair o

pub negated_of_pair-requires-clause-first : goal.negated_of_pair-requires-clause-first
negated_of_pair-requires-clause-first c =
    (args-kept _ _ c.in_ok-of_first.of_first (grows-trans _ _ _ c.placeholder_args_for_impl-2.ensures.kept.grows c.open_both.ensures.kept.grows) c.in_ok-of_first.ensures.sort).0

pub negated_of_pair-requires-clause-second : goal.negated_of_pair-requires-clause-second
negated_of_pair-requires-clause-second c = (args-kept _ _ c.in_ok-of_second.of_second c.open_both.ensures.kept.grows c.in_ok-of_second.ensures.sort).0

pub returns-clause-stays : goal.returns-clause-stays
returns-clause-stays c =
    known-then (known-then (known-then (known-kept c.placeholder_args_for_impl.ensures.kept) (known-kept c.placeholder_args_for_impl-2.ensures.kept)) (known-kept c.open_both.ensures.kept)) c.negated_of_pair.ensures.stays

pub returns-clause-negated : goal.returns-clause-negated
returns-clause-negated c =
    let old = c.args.rounds.now in
    let one = c.placeholder_args_for_impl.new.ecx in
    let two = c.placeholder_args_for_impl-2.new.ecx in
    let mid = c.open_both.new.ecx in
    let a = c.args.first in
    let b = c.args.second in
    let k = c.placeholder_args_for_impl.ensures.kept in
    let l = c.placeholder_args_for_impl-2.ensures.kept in
    let m = c.open_both.ensures.kept in
    let p = c.in-Some.pair in
    let o : AreOpened two.context (state two) a b mid.context (state mid) p = search rules in
    let given = subst (λ (x : Context). IfSome (impl_at x a) (ImplIsGiven x)) c.cx.ensures c.recall_impl_given.ensures in
    let other = subst (λ (x : Context). IfSome (impl_at x b) (ImplIsGiven x)) c.cx-2.ensures c.recall_impl_given-2.ensures in
    IfOk-weaker c.negated_of_pair.result _ _
    (some-weaker (negated-here old one two mid a b p k.grows l.grows m.grows (sure_of c.negated_of_pair.new.rounds) c.in_ok-of_first.of_first c.in_ok-of_second.of_second
    (m.fixed_same ∙ (l.fixed_same ∙ k.fixed_same)) given other c.in_ok-of_first.ensures.state c.in_ok-of_second.ensures.state (c.in_ok-of_first.ensures.sort, c.in_ok-of_first.ensures.trees)
    (c.in_ok-of_second.ensures.sort, c.in_ok-of_second.ensures.trees) o))
    c.negated_of_pair.ensures.negated

pub returns-clause-cause : goal.returns-clause-cause
returns-clause-cause c =
    so-err c.negated_of_pair.result (λ s k. stop-later (later-then (later-then (later-kept c.placeholder_args_for_impl.ensures.kept) (later-kept c.placeholder_args_for_impl-2.ensures.kept)) (later-kept c.open_both.ensures.kept)) k) c.negated_of_pair.ensures.cause
