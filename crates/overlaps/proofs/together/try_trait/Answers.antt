use Rattle.std.proofs.Common.{◌∙◌, subst, sym}
use Rattle.std.proofs.lemmas.Result.{IfOk-weaker}
use Rattle.ir_trees.proofs.Growth.Kept.{args-kept}
use Rattle.candidate_eval.proofs.Dynamic.Objects.{env-kept}
use Rattle.candidate_eval.proofs.Interface.Accounts.{memory-somehow}
use Rattle.candidate_assembly.proofs.Calls.Causes.{so-err}
use Rattle.candidate_rounds.proofs.Obligations.Evaluating.{goal-kept}
use Rattle.overlaps.specs.Refused.{StaysBesideSteps}
use Rattle.overlaps.proofs.Jointly.{kept-tried, obligations-there, refused-tried, tried-later}
use Rattle.overlaps.proofs.Staying.{known-beside, known-then, stays-trans}
use Rattle.overlaps.proofs.Stopping.{asking-stop, later-steps, passed-on, stop-later}
use Rattle.overlaps.specs.Stopping.{IsOverlapStop}
use Rattle.overlaps.proofs.together.try_trait.Goals.{else-not-is_yes-via-then-not-is_yes+in_ok-is_refused_here+else-branch, else-not-is_yes-via-else-not-is_yes}
use Rattle.overlaps.proofs.together.try_trait.Goals as goal

pub returns-then-not-may_be_sure-clause-tried : goal.returns-then-not-may_be_sure-clause-tried
returns-then-not-may_be_sure-clause-tried c =
    let first = c.verdict_here.ensures.stays in
    kept-tried c.args.rounds.now c.verdict_here.new.rounds c.args.goal c.args.left.now.items c.keep.new.left.items c.keep.result (later-steps first) first.state_same c.requires.pending c.requires.fit c.requires.left c.keep.ensures.open c.keep.ensures.pushed

pub returns-then-not-may_be_sure-clause-cause : goal.returns-then-not-may_be_sure-clause-cause
returns-then-not-may_be_sure-clause-cause c = so-err c.keep.result (λ s k. asking-stop (later-steps c.verdict_here.ensures.stays) (memory-somehow k)) c.keep.ensures.cause

pub is_refused_here-requires-clause-env : goal.is_refused_here-requires-clause-env
is_refused_here-requires-clause-env c = (env-kept _ _ c.args.goal.1.param_env c.verdict_here.ensures.stays.grows c.requires.fit.0).0

pub is_refused_here-requires-clause-empty : goal.is_refused_here-requires-clause-empty
is_refused_here-requires-clause-empty c = (env-kept _ _ c.args.goal.1.param_env c.verdict_here.ensures.stays.grows c.requires.fit.0).1 ∙ c.requires.empty

pub is_refused_here-requires-clause-args : goal.is_refused_here-requires-clause-args
is_refused_here-requires-clause-args c = (args-kept _ _ c.args.predicate.trait_ref.args c.verdict_here.ensures.stays.grows c.requires.args).0

pub returns-in_err-is_refused_here-clause-stays : goal.returns-in_err-is_refused_here-clause-stays
returns-in_err-is_refused_here-clause-stays c = known-beside (stays-trans c.verdict_here.ensures.stays c.is_refused_here.ensures.stays)

pub returns-in_err-is_refused_here-clause-cause : goal.returns-in_err-is_refused_here-clause-cause
returns-in_err-is_refused_here-clause-cause c = passed-on (IsOverlapStop c.args.rounds.now c.is_refused_here.new.rounds) c.from_residual-in_err-is_refused_here.result c.in_err-is_refused_here.field-0.0 c.from_residual-in_err-is_refused_here.ensures.1 (stop-later (later-steps c.verdict_here.ensures.stays) c.in_err-is_refused_here.ensures.cause)

pub returns-then-branch-clause-stays : goal.returns-then-branch-clause-stays
returns-then-branch-clause-stays c = known-beside (stays-trans c.verdict_here.ensures.stays c.is_refused_here.ensures.stays)

pub returns-then-branch-clause-tried : goal.returns-then-branch-clause-tried
returns-then-branch-clause-tried c =
    let first = c.verdict_here.ensures.stays in
    refused-tried c.args.rounds.now c.verdict_here.new.rounds c.is_refused_here.new.rounds c.args.goal c.args.predicate (later-steps first) first.state_same (later-steps c.is_refused_here.ensures.stays) c.requires.empty c.requires.says
    (c.requires.arguments ∙ sym (args-kept _ _ c.args.predicate.trait_ref.args first.grows c.requires.args).1) (c.in_ok-is_refused_here.ensures.refused c.if-branch.true)

pub verdict_here-requires-2-clause-env : goal.verdict_here-requires-2-clause-env
verdict_here-requires-2-clause-env c =
    let first = c.verdict_here.ensures.stays in
    let joined : StaysBesideSteps c.args.rounds.now c.else-not-is_yes.rounds
    = elim c.else-not-is_yes.branch [
      | else-not-is_yes-via-then-not-is_yes+in_ok-is_refused_here+else-branch w ↦ subst (StaysBesideSteps c.args.rounds.now) (sym w.rounds-is) (stays-trans first w.is_refused_here.ensures.stays)
      | else-not-is_yes-via-else-not-is_yes w ↦ subst (StaysBesideSteps c.args.rounds.now) (sym w.rounds-is) first
    ] in
    (env-kept _ _ c.args.goal.1.param_env joined.grows c.requires.fit.0).0

pub verdict_here-requires-2-clause-args : goal.verdict_here-requires-2-clause-args
verdict_here-requires-2-clause-args c =
    let first = c.verdict_here.ensures.stays in
    let joined : StaysBesideSteps c.args.rounds.now c.else-not-is_yes.rounds
    = elim c.else-not-is_yes.branch [
      | else-not-is_yes-via-then-not-is_yes+in_ok-is_refused_here+else-branch w ↦ subst (StaysBesideSteps c.args.rounds.now) (sym w.rounds-is) (stays-trans first w.is_refused_here.ensures.stays)
      | else-not-is_yes-via-else-not-is_yes w ↦ subst (StaysBesideSteps c.args.rounds.now) (sym w.rounds-is) first
    ] in
    (args-kept _ _ c.args.predicate.trait_ref.args joined.grows c.requires.args).0

pub returns-in_err-verdict_here-clause-stays : goal.returns-in_err-verdict_here-clause-stays
returns-in_err-verdict_here-clause-stays c =
    let first = c.verdict_here.ensures.stays in
    let joined : StaysBesideSteps c.args.rounds.now c.else-not-is_yes.rounds
    = elim c.else-not-is_yes.branch [
      | else-not-is_yes-via-then-not-is_yes+in_ok-is_refused_here+else-branch w ↦ subst (StaysBesideSteps c.args.rounds.now) (sym w.rounds-is) (stays-trans first w.is_refused_here.ensures.stays)
      | else-not-is_yes-via-else-not-is_yes w ↦ subst (StaysBesideSteps c.args.rounds.now) (sym w.rounds-is) first
    ] in
    let all = stays-trans joined c.verdict_here-2.ensures.stays in
    known-beside all

pub returns-in_err-verdict_here-clause-cause : goal.returns-in_err-verdict_here-clause-cause
returns-in_err-verdict_here-clause-cause c =
    let first = c.verdict_here.ensures.stays in
    let joined : StaysBesideSteps c.args.rounds.now c.else-not-is_yes.rounds
    = elim c.else-not-is_yes.branch [
      | else-not-is_yes-via-then-not-is_yes+in_ok-is_refused_here+else-branch w ↦ subst (StaysBesideSteps c.args.rounds.now) (sym w.rounds-is) (stays-trans first w.is_refused_here.ensures.stays)
      | else-not-is_yes-via-else-not-is_yes w ↦ subst (StaysBesideSteps c.args.rounds.now) (sym w.rounds-is) first
    ] in
    passed-on (IsOverlapStop c.args.rounds.now c.verdict_here-2.new.rounds) c.from_residual-in_err-verdict_here.result c.in_err-verdict_here.field-0.0 c.from_residual-in_err-verdict_here.ensures.1 (stop-later (later-steps joined) c.in_err-verdict_here.ensures.cause)

pub returns-then-not-is_yes-2-clause-stays : goal.returns-then-not-is_yes-2-clause-stays
returns-then-not-is_yes-2-clause-stays c =
    let first = c.verdict_here.ensures.stays in
    let joined : StaysBesideSteps c.args.rounds.now c.else-not-is_yes.rounds
    = elim c.else-not-is_yes.branch [
      | else-not-is_yes-via-then-not-is_yes+in_ok-is_refused_here+else-branch w ↦ subst (StaysBesideSteps c.args.rounds.now) (sym w.rounds-is) (stays-trans first w.is_refused_here.ensures.stays)
      | else-not-is_yes-via-else-not-is_yes w ↦ subst (StaysBesideSteps c.args.rounds.now) (sym w.rounds-is) first
    ] in
    let all = stays-trans joined c.verdict_here-2.ensures.stays in
    known-beside all

pub returns-then-not-is_yes-2-clause-tried : goal.returns-then-not-is_yes-2-clause-tried
returns-then-not-is_yes-2-clause-tried c =
    let first = c.verdict_here.ensures.stays in
    let joined : StaysBesideSteps c.args.rounds.now c.else-not-is_yes.rounds
    = elim c.else-not-is_yes.branch [
      | else-not-is_yes-via-then-not-is_yes+in_ok-is_refused_here+else-branch w ↦ subst (StaysBesideSteps c.args.rounds.now) (sym w.rounds-is) (stays-trans first w.is_refused_here.ensures.stays)
      | else-not-is_yes-via-else-not-is_yes w ↦ subst (StaysBesideSteps c.args.rounds.now) (sym w.rounds-is) first
    ] in
    let all = stays-trans joined c.verdict_here-2.ensures.stays in
    kept-tried c.args.rounds.now c.verdict_here-2.new.rounds c.args.goal c.args.left.now.items c.keep-then-not-is_yes-2.new.left.items c.keep-then-not-is_yes-2.result (later-steps all) all.state_same c.requires.pending c.requires.fit c.requires.left c.keep-then-not-is_yes-2.ensures.open
    c.keep-then-not-is_yes-2.ensures.pushed

pub returns-then-not-is_yes-2-clause-cause : goal.returns-then-not-is_yes-2-clause-cause
returns-then-not-is_yes-2-clause-cause c =
    let first = c.verdict_here.ensures.stays in
    let joined : StaysBesideSteps c.args.rounds.now c.else-not-is_yes.rounds
    = elim c.else-not-is_yes.branch [
      | else-not-is_yes-via-then-not-is_yes+in_ok-is_refused_here+else-branch w ↦ subst (StaysBesideSteps c.args.rounds.now) (sym w.rounds-is) (stays-trans first w.is_refused_here.ensures.stays)
      | else-not-is_yes-via-else-not-is_yes w ↦ subst (StaysBesideSteps c.args.rounds.now) (sym w.rounds-is) first
    ] in
    let all = stays-trans joined c.verdict_here-2.ensures.stays in
    so-err c.keep-then-not-is_yes-2.result (λ s k. asking-stop (later-steps all) (memory-somehow k)) c.keep-then-not-is_yes-2.ensures.cause

pub settle-requires-clause-fit : goal.settle-requires-clause-fit
settle-requires-clause-fit c =
    let first = c.verdict_here.ensures.stays in
    let joined : StaysBesideSteps c.args.rounds.now c.else-not-is_yes.rounds
    = elim c.else-not-is_yes.branch [
      | else-not-is_yes-via-then-not-is_yes+in_ok-is_refused_here+else-branch w ↦ subst (StaysBesideSteps c.args.rounds.now) (sym w.rounds-is) (stays-trans first w.is_refused_here.ensures.stays)
      | else-not-is_yes-via-else-not-is_yes w ↦ subst (StaysBesideSteps c.args.rounds.now) (sym w.rounds-is) first
    ] in
    let all = stays-trans joined c.verdict_here-2.ensures.stays in
    goal-kept _ _ c.args.goal.1 all.grows c.requires.fit

pub settle-requires-clause-left : goal.settle-requires-clause-left
settle-requires-clause-left c =
    let first = c.verdict_here.ensures.stays in
    let joined : StaysBesideSteps c.args.rounds.now c.else-not-is_yes.rounds
    = elim c.else-not-is_yes.branch [
      | else-not-is_yes-via-then-not-is_yes+in_ok-is_refused_here+else-branch w ↦ subst (StaysBesideSteps c.args.rounds.now) (sym w.rounds-is) (stays-trans first w.is_refused_here.ensures.stays)
      | else-not-is_yes-via-else-not-is_yes w ↦ subst (StaysBesideSteps c.args.rounds.now) (sym w.rounds-is) first
    ] in
    let all = stays-trans joined c.verdict_here-2.ensures.stays in
    obligations-there c.args.rounds.now c.verdict_here-2.new.rounds c.args.left.now.items (later-steps all) c.requires.left

pub returns-clause-stays : goal.returns-clause-stays
returns-clause-stays c =
    let first = c.verdict_here.ensures.stays in
    let joined : StaysBesideSteps c.args.rounds.now c.else-not-is_yes.rounds
    = elim c.else-not-is_yes.branch [
      | else-not-is_yes-via-then-not-is_yes+in_ok-is_refused_here+else-branch w ↦ subst (StaysBesideSteps c.args.rounds.now) (sym w.rounds-is) (stays-trans first w.is_refused_here.ensures.stays)
      | else-not-is_yes-via-else-not-is_yes w ↦ subst (StaysBesideSteps c.args.rounds.now) (sym w.rounds-is) first
    ] in
    let all = stays-trans joined c.verdict_here-2.ensures.stays in
    known-then (known-beside all) c.settle.ensures.stays

pub returns-clause-tried : goal.returns-clause-tried
returns-clause-tried c =
    let first = c.verdict_here.ensures.stays in
    let joined : StaysBesideSteps c.args.rounds.now c.else-not-is_yes.rounds
    = elim c.else-not-is_yes.branch [
      | else-not-is_yes-via-then-not-is_yes+in_ok-is_refused_here+else-branch w ↦ subst (StaysBesideSteps c.args.rounds.now) (sym w.rounds-is) (stays-trans first w.is_refused_here.ensures.stays)
      | else-not-is_yes-via-else-not-is_yes w ↦ subst (StaysBesideSteps c.args.rounds.now) (sym w.rounds-is) first
    ] in
    let all = stays-trans joined c.verdict_here-2.ensures.stays in
    IfOk-weaker c.settle.result _ _
    (λ b k. tried-later c.args.rounds.now c.verdict_here-2.new.rounds c.settle.new.rounds c.args.goal c.args.left.now.items c.settle.new.left.items b (later-steps all) all.state_same c.requires.fit c.requires.left k) c.settle.ensures.tried

pub returns-clause-cause : goal.returns-clause-cause
returns-clause-cause c =
    let first = c.verdict_here.ensures.stays in
    let joined : StaysBesideSteps c.args.rounds.now c.else-not-is_yes.rounds
    = elim c.else-not-is_yes.branch [
      | else-not-is_yes-via-then-not-is_yes+in_ok-is_refused_here+else-branch w ↦ subst (StaysBesideSteps c.args.rounds.now) (sym w.rounds-is) (stays-trans first w.is_refused_here.ensures.stays)
      | else-not-is_yes-via-else-not-is_yes w ↦ subst (StaysBesideSteps c.args.rounds.now) (sym w.rounds-is) first
    ] in
    let all = stays-trans joined c.verdict_here-2.ensures.stays in
    so-err c.settle.result (λ s k. stop-later (later-steps all) k) c.settle.ensures.cause
