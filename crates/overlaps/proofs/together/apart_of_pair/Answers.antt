use Rattle.std.proofs.Common.{rules, [], Some, ap, ◌∙◌}
use Rattle.std.proofs.lemmas.Result.{IfOk-weaker}
use Rattle.ir_trees.proofs.Growth.Kept.{args-kept, grows-trans}
use Rattle.candidate_eval.proofs.Dynamic.Objects.{env-kept}
use Rattle.candidate_eval.specs.Judges.States.{State}
use Rattle.candidate_eval.proofs.Interface.Accounts.{memory-somehow}
use Rattle.candidate_eval.proofs.Interface.Unmade.{members-unmade}
use Rattle.candidate_eval.specs.Interface.Accounts.StopsSomehow.{making}
use Rattle.candidate_assembly.proofs.Calls.Causes.{so-err}
use Rattle.candidate_rounds.specs.Evaluators.Known.{state}
use Rattle.overlaps.proofs.JointPairs.{pair-cannot}
use Rattle.overlaps.proofs.Pairs.{equated-as-made, pair-later}
use Rattle.overlaps.proofs.Staying.{known-kept, known-made, known-then}
use Rattle.overlaps.proofs.Stopping.{asking-stop, later-kept, later-known, later-refl, later-then, passed-on, stop-later}
use Rattle.overlaps.specs.Stopping.{IsOverlapStop}
use Rattle.overlaps.proofs.together.apart_of_pair.Goals as goal

pub returns-in_err-env-clause-stays : goal.returns-in_err-env-clause-stays
returns-in_err-env-clause-stays c = known-made c.mk_param_env.ensures.made.kept c.mk_param_env.ensures.rest

pub returns-in_err-env-clause-cause : goal.returns-in_err-env-clause-cause
returns-in_err-env-clause-cause c = passed-on (IsOverlapStop c.args.rounds.now c.mk_param_env.new.self) c.from_residual.result c.in_err-env.field-0.0 c.from_residual.ensures.1 (asking-stop (later-refl c.args.rounds.now) (making (members-unmade [] c.mk_param_env.ensures.made.kept c.in_err-env.ensures.made.cause)))

pub make_equal-requires-clause-first : goal.make_equal-requires-clause-first
make_equal-requires-clause-first c = (args-kept _ _ c.args.pair.now.first.header c.mk_param_env.ensures.made.kept c.requires.pair.0.1).0

pub make_equal-requires-clause-second : goal.make_equal-requires-clause-second
make_equal-requires-clause-second c = (args-kept _ _ c.args.pair.now.second.header c.mk_param_env.ensures.made.kept c.requires.pair.1.1).0

pub returns-in_err-make_equal-clause-stays : goal.returns-in_err-make_equal-clause-stays
returns-in_err-make_equal-clause-stays c = known-then (known-made c.mk_param_env.ensures.made.kept c.mk_param_env.ensures.rest) (known-kept c.make_equal.ensures.kept)

pub returns-in_err-make_equal-clause-cause : goal.returns-in_err-make_equal-clause-cause
returns-in_err-make_equal-clause-cause c = passed-on (IsOverlapStop c.args.rounds.now c.make_equal.new.ecx) c.from_residual-in_err-make_equal.result c.in_err-make_equal.field-0.0 c.from_residual-in_err-make_equal.ensures.1 (asking-stop (later-known (known-made c.mk_param_env.ensures.made.kept c.mk_param_env.ensures.rest)) c.in_err-make_equal.ensures.cause)

pub returns-then-not-branch-clause-stays : goal.returns-then-not-branch-clause-stays
returns-then-not-branch-clause-stays c = known-then (known-made c.mk_param_env.ensures.made.kept c.mk_param_env.ensures.rest) (known-kept c.make_equal.ensures.kept)

pub returns-in_err-leave_pending-clause-stays : goal.returns-in_err-leave_pending-clause-stays
returns-in_err-leave_pending-clause-stays c = known-then (known-then (known-made c.mk_param_env.ensures.made.kept c.mk_param_env.ensures.rest) (known-kept c.make_equal.ensures.kept)) (known-kept c.leave_pending.ensures.kept)

pub returns-in_err-leave_pending-clause-cause : goal.returns-in_err-leave_pending-clause-cause
returns-in_err-leave_pending-clause-cause c =
    passed-on (IsOverlapStop c.args.rounds.now c.leave_pending.new.rounds) c.from_residual-in_err-leave_pending.result c.in_err-leave_pending.field-0.0 c.from_residual-in_err-leave_pending.ensures.1
    (asking-stop (later-refl c.args.rounds.now) (memory-somehow c.in_err-leave_pending.ensures.cause))

pub add_wheres-requires-clause-env : goal.add_wheres-requires-clause-env
add_wheres-requires-clause-env c = (env-kept _ _ c.in_ok-env.env (grows-trans _ _ _ c.make_equal.ensures.kept.grows c.leave_pending.ensures.kept.grows) c.in_ok-env.ensures.made.sort).0

pub add_wheres-requires-clause-empty : goal.add_wheres-requires-clause-empty
add_wheres-requires-clause-empty c = (env-kept _ _ c.in_ok-env.env (grows-trans _ _ _ c.make_equal.ensures.kept.grows c.leave_pending.ensures.kept.grows) c.in_ok-env.ensures.made.sort).1 ∙ c.in_ok-env.ensures.made.tree

pub add_wheres-requires-clause-open : goal.add_wheres-requires-clause-open
add_wheres-requires-clause-open c =
    (pair-later c.args.rounds.now.context c.leave_pending.new.rounds.context c.args.pair.now (grows-trans _ _ _ c.mk_param_env.ensures.made.kept (grows-trans _ _ _ c.make_equal.ensures.kept.grows c.leave_pending.ensures.kept.grows)) c.requires.pair).0

pub returns-in_err-add_wheres-clause-stays : goal.returns-in_err-add_wheres-clause-stays
returns-in_err-add_wheres-clause-stays c =
    known-then (known-then (known-then (known-made c.mk_param_env.ensures.made.kept c.mk_param_env.ensures.rest) (known-kept c.make_equal.ensures.kept)) (known-kept c.leave_pending.ensures.kept)) (known-kept c.add_wheres.ensures.kept)

pub returns-in_err-add_wheres-clause-cause : goal.returns-in_err-add_wheres-clause-cause
returns-in_err-add_wheres-clause-cause c =
    passed-on (IsOverlapStop c.args.rounds.now c.add_wheres.new.rounds) c.from_residual-in_err-add_wheres.result c.in_err-add_wheres.field-0.0 c.from_residual-in_err-add_wheres.ensures.1
    (stop-later (later-then (later-then (later-known (known-made c.mk_param_env.ensures.made.kept c.mk_param_env.ensures.rest)) (later-kept c.make_equal.ensures.kept)) (later-kept c.leave_pending.ensures.kept)) c.in_err-add_wheres.ensures.cause)

pub add_wheres-requires-2-clause-env : goal.add_wheres-requires-2-clause-env
add_wheres-requires-2-clause-env c =
    (env-kept _ _ c.in_ok-env.env (grows-trans _ _ _ (grows-trans _ _ _ c.make_equal.ensures.kept.grows c.leave_pending.ensures.kept.grows) c.add_wheres.ensures.kept.grows) c.in_ok-env.ensures.made.sort).0

pub add_wheres-requires-2-clause-empty : goal.add_wheres-requires-2-clause-empty
add_wheres-requires-2-clause-empty c =
    (env-kept _ _ c.in_ok-env.env (grows-trans _ _ _ (grows-trans _ _ _ c.make_equal.ensures.kept.grows c.leave_pending.ensures.kept.grows) c.add_wheres.ensures.kept.grows) c.in_ok-env.ensures.made.sort).1
    ∙ c.in_ok-env.ensures.made.tree

pub add_wheres-requires-2-clause-open : goal.add_wheres-requires-2-clause-open
add_wheres-requires-2-clause-open c =
    (pair-later c.args.rounds.now.context c.add_wheres.new.rounds.context c.args.pair.now
    (grows-trans _ _ _ c.mk_param_env.ensures.made.kept (grows-trans _ _ _ (grows-trans _ _ _ c.make_equal.ensures.kept.grows c.leave_pending.ensures.kept.grows) c.add_wheres.ensures.kept.grows)) c.requires.pair).1

pub returns-in_err-add_wheres-2-clause-stays : goal.returns-in_err-add_wheres-2-clause-stays
returns-in_err-add_wheres-2-clause-stays c =
    known-then (known-then (known-then (known-then (known-made c.mk_param_env.ensures.made.kept c.mk_param_env.ensures.rest) (known-kept c.make_equal.ensures.kept)) (known-kept c.leave_pending.ensures.kept)) (known-kept c.add_wheres.ensures.kept))
    (known-kept c.add_wheres-2.ensures.kept)

pub returns-in_err-add_wheres-2-clause-cause : goal.returns-in_err-add_wheres-2-clause-cause
returns-in_err-add_wheres-2-clause-cause c =
    passed-on (IsOverlapStop c.args.rounds.now c.add_wheres-2.new.rounds) c.from_residual-in_err-add_wheres-2.result c.in_err-add_wheres-2.field-0.0 c.from_residual-in_err-add_wheres-2.ensures.1
    (stop-later
    (later-then (later-then (later-then (later-known (known-made c.mk_param_env.ensures.made.kept c.mk_param_env.ensures.rest)) (later-kept c.make_equal.ensures.kept)) (later-kept c.leave_pending.ensures.kept))
    (later-kept c.add_wheres.ensures.kept)) c.in_err-add_wheres-2.ensures.cause)

pub cannot_hold-requires-clause-env : goal.cannot_hold-requires-clause-env
cannot_hold-requires-clause-env c =
    (env-kept _ _ c.in_ok-env.env (grows-trans _ _ _ (grows-trans _ _ _ (grows-trans _ _ _ c.make_equal.ensures.kept.grows c.leave_pending.ensures.kept.grows) c.add_wheres.ensures.kept.grows) c.add_wheres-2.ensures.kept.grows)
    c.in_ok-env.ensures.made.sort).0

pub cannot_hold-requires-clause-empty : goal.cannot_hold-requires-clause-empty
cannot_hold-requires-clause-empty c =
    (env-kept _ _ c.in_ok-env.env (grows-trans _ _ _ (grows-trans _ _ _ (grows-trans _ _ _ c.make_equal.ensures.kept.grows c.leave_pending.ensures.kept.grows) c.add_wheres.ensures.kept.grows) c.add_wheres-2.ensures.kept.grows)
    c.in_ok-env.ensures.made.sort).1
    ∙ c.in_ok-env.ensures.made.tree

pub cannot_hold-requires-clause-pending : goal.cannot_hold-requires-clause-pending
cannot_hold-requires-clause-pending c = ap (λ (S : State). S.pending) (c.add_wheres-2.ensures.same ∙ (c.add_wheres.ensures.same ∙ c.in_ok-leave_pending.ensures.aside))

pub returns-clause-stays : goal.returns-clause-stays
returns-clause-stays c =
    known-then
    (known-then (known-then (known-then (known-then (known-made c.mk_param_env.ensures.made.kept c.mk_param_env.ensures.rest) (known-kept c.make_equal.ensures.kept)) (known-kept c.leave_pending.ensures.kept)) (known-kept c.add_wheres.ensures.kept))
    (known-kept c.add_wheres-2.ensures.kept)) c.cannot_hold.ensures.stays

pub returns-clause-apart : goal.returns-clause-apart
returns-clause-apart c =
    let old = c.args.rounds.now in
    let mid = c.mk_param_env.new.self in
    let equal = c.make_equal.new.ecx in
    let wheres = c.leave_pending.new.rounds in
    let first = c.add_wheres.new.rounds in
    let second = c.add_wheres-2.new.rounds in
    let p = c.args.pair.now in
    let made = known-made c.mk_param_env.ensures.made.kept c.mk_param_env.ensures.rest in
    let k = known-then (known-then made (known-kept c.make_equal.ensures.kept)) (known-kept c.leave_pending.ensures.kept) in
    let l = known-then k (known-kept c.add_wheres.ensures.kept) in
    let m = known-then l (known-kept c.add_wheres-2.ensures.kept) in
    let is = equated-as-made old mid c.in_ok-env.env p (Some (state equal)) c.mk_param_env.ensures.made.kept c.mk_param_env.ensures.rest c.in_ok-env.ensures.made.tree c.requires.pair (c.in_ok-make_equal.ensures.equal c.if-not-branch.false) in
    IfOk-weaker c.cannot_hold.result _ _
    (λ b h e.
    pair-cannot old equal wheres first second p c.new-goals.result.items c.leave_pending.new.left.items c.add_wheres.new.goals.items c.add_wheres-2.new.goals.items c.requires.pair k.grows l.grows (later-known m) is (search rules)
    (c.add_wheres-2.ensures.same ∙ (c.add_wheres.ensures.same ∙ c.in_ok-leave_pending.ensures.aside)) c.in_ok-leave_pending.ensures.left c.in_ok-add_wheres.ensures.added c.in_ok-add_wheres-2.ensures.added (h e)) c.cannot_hold.ensures.cannot

pub returns-clause-cause : goal.returns-clause-cause
returns-clause-cause c =
    so-err c.cannot_hold.result
    (λ s k.
    stop-later
    (later-then (later-then (later-then (later-then (later-known (known-made c.mk_param_env.ensures.made.kept c.mk_param_env.ensures.rest)) (later-kept c.make_equal.ensures.kept)) (later-kept c.leave_pending.ensures.kept))
    (later-kept c.add_wheres.ensures.kept)) (later-kept c.add_wheres-2.ensures.kept)) k) c.cannot_hold.ensures.cause
