use Rattle.std.proofs.Common.{[], Some, None, sym, subst, ◌∙◌}
use Rattle.std.proofs.lemmas.Result.{IfOk-weaker}
use Rattle.ir_trees.proofs.Growth.Kept.{args-kept, grows-trans}
use Rattle.candidate_eval.proofs.Dynamic.Objects.{env-kept}
use Rattle.candidate_eval.proofs.Interface.Accounts.{memory-somehow}
use Rattle.candidate_eval.proofs.Interface.Unmade.{members-unmade}
use Rattle.candidate_eval.specs.Interface.Accounts.StopsSomehow.{making}
use Rattle.candidate_assembly.proofs.Calls.Causes.{so-err}
use Rattle.candidate_rounds.specs.Evaluators.Known.{state}
use Rattle.overlaps.specs.Reasons.{pair_apart, pair_undecided}
use Rattle.overlaps.specs.Refused.{StaysBesideKnown}
use Rattle.overlaps.specs.Stopping.{IsOverlapStop}
use Rattle.overlaps.proofs.Pairs.{equated-as-made, pair-later}
use Rattle.overlaps.proofs.OpenClauses.{pair-lists}
use Rattle.overlaps.proofs.Staying.{known-beside, known-kept, known-made, known-refl, known-then, probe-stays}
use Rattle.overlaps.proofs.Stopping.{asking-stop, later-begun, later-kept, later-known, later-refl, later-then, passed-on, stop-later, stop-left}
use Rattle.overlaps.proofs.reasons.open_of_pair.Goals as goal

pub returns-then-are_undecided-clause-stays : goal.returns-then-are_undecided-clause-stays
returns-then-are_undecided-clause-stays c = known-refl c.args.rounds.now

pub returns-then-are_undecided-clause-lists : goal.returns-then-are_undecided-clause-lists
returns-then-are_undecided-clause-lists c = pair_undecided (c.are_undecided.ensures.rigid c.if-are_undecided.true) (c.are_undecided.ensures.some c.if-are_undecided.true) c.new.ensures.items

pub returns-then-not-branch-clause-lists : goal.returns-then-not-branch-clause-lists
returns-then-not-branch-clause-lists c =
    let old = c.args.rounds.now in
    let mid = c.mk_param_env.new.self in
    let p = c.args.pair.now in
    pair_apart
    (equated-as-made old mid c.in_ok-env.env p None c.mk_param_env.ensures.made.kept c.mk_param_env.ensures.rest c.in_ok-env.ensures.made.tree c.requires.pair (c.in_ok-make_equal.ensures.apart c.if-not-branch.true))
    c.new-then-not-branch.ensures.items

pub returns-clause-lists : goal.returns-clause-lists
returns-clause-lists c =
    let old = c.args.rounds.now in
    let mid = c.mk_param_env.new.self in
    let p = c.args.pair.now in
    let after = state c.make_equal.new.ecx in
    let equal = equated-as-made old mid c.in_ok-env.env p (Some after) c.mk_param_env.ensures.made.kept c.mk_param_env.ensures.rest c.in_ok-env.ensures.made.tree c.requires.pair (c.in_ok-make_equal.ensures.equal c.if-not-branch.false) in
    IfOk-weaker c.open_where_equal-answer.result _ _
    (λ v h. pair-lists old c.begin_probe.new.self c.open_where_equal-answer.new.rounds c.end_probe.new.self p after v.items
    (grows-trans _ _ _ c.mk_param_env.ensures.made.kept (grows-trans _ _ _ c.make_equal.ensures.kept.grows c.begin_probe.ensures.grows)) c.requires.pair equal c.in_ok-aside.ensures.ok.0 c.end_probe.ensures.fixed
    c.end_probe.ensures.context h)
    c.open_where_equal-answer.ensures.lists

pub returns-in_err-env-clause-stays : goal.returns-in_err-env-clause-stays
returns-in_err-env-clause-stays c = known-made c.mk_param_env.ensures.made.kept c.mk_param_env.ensures.rest

pub make_equal-requires-clause-first : goal.make_equal-requires-clause-first
make_equal-requires-clause-first c = (args-kept _ _ c.args.pair.now.first.header c.mk_param_env.ensures.made.kept c.requires.pair.0.1).0

pub make_equal-requires-clause-second : goal.make_equal-requires-clause-second
make_equal-requires-clause-second c = (args-kept _ _ c.args.pair.now.second.header c.mk_param_env.ensures.made.kept c.requires.pair.1.1).0

pub returns-in_err-make_equal-clause-stays : goal.returns-in_err-make_equal-clause-stays
returns-in_err-make_equal-clause-stays c = known-then (known-made c.mk_param_env.ensures.made.kept c.mk_param_env.ensures.rest) (known-kept c.make_equal.ensures.kept)

pub returns-then-not-branch-clause-stays : goal.returns-then-not-branch-clause-stays
returns-then-not-branch-clause-stays c = known-then (known-made c.mk_param_env.ensures.made.kept c.mk_param_env.ensures.rest) (known-kept c.make_equal.ensures.kept)

pub returns-in_err-aside-clause-stays : goal.returns-in_err-aside-clause-stays
returns-in_err-aside-clause-stays c =
    subst (StaysBesideKnown c.args.rounds.now) (sym c.in_err-aside.ensures.unchanged) (known-then (known-made c.mk_param_env.ensures.made.kept c.mk_param_env.ensures.rest) (known-kept c.make_equal.ensures.kept))

pub open_where_equal-answer-requires-clause-env : goal.open_where_equal-answer-requires-clause-env
open_where_equal-answer-requires-clause-env c =
    (env-kept _ _ c.in_ok-env.env (grows-trans _ _ _ c.make_equal.ensures.kept.grows c.begin_probe.ensures.grows) c.in_ok-env.ensures.made.sort).0

pub open_where_equal-answer-requires-clause-empty : goal.open_where_equal-answer-requires-clause-empty
open_where_equal-answer-requires-clause-empty c =
    (env-kept _ _ c.in_ok-env.env (grows-trans _ _ _ c.make_equal.ensures.kept.grows c.begin_probe.ensures.grows) c.in_ok-env.ensures.made.sort).1 ∙ c.in_ok-env.ensures.made.tree

pub open_where_equal-answer-requires-clause-pair : goal.open_where_equal-answer-requires-clause-pair
open_where_equal-answer-requires-clause-pair c =
    pair-later c.args.rounds.now.context c.begin_probe.new.self.context c.args.pair.now
    (grows-trans _ _ _ c.mk_param_env.ensures.made.kept (grows-trans _ _ _ c.make_equal.ensures.kept.grows c.begin_probe.ensures.grows)) c.requires.pair

pub returns-clause-stays : goal.returns-clause-stays
returns-clause-stays c =
    let began = c.in_ok-aside.ensures in
    let end = c.end_probe.ensures in
    known-then (known-then (known-made c.mk_param_env.ensures.made.kept c.mk_param_env.ensures.rest) (known-kept c.make_equal.ensures.kept))
    (known-beside
    (probe-stays c.make_equal.new.ecx c.begin_probe.new.self c.open_where_equal-answer.new.rounds c.end_probe.new.self began.fixed began.grows began.faults began.ok.1
    (known-beside c.open_where_equal-answer.ensures.stays) end.fixed end.grows end.faults end.closed end.left))

pub returns-in_err-env-clause-cause : goal.returns-in_err-env-clause-cause
returns-in_err-env-clause-cause c = passed-on (IsOverlapStop c.args.rounds.now c.mk_param_env.new.self) c.from_residual.result c.in_err-env.field-0.0 c.from_residual.ensures.1 (asking-stop (later-refl c.args.rounds.now) (making (members-unmade [] c.mk_param_env.ensures.made.kept c.in_err-env.ensures.made.cause)))

pub returns-in_err-make_equal-clause-cause : goal.returns-in_err-make_equal-clause-cause
returns-in_err-make_equal-clause-cause c = passed-on (IsOverlapStop c.args.rounds.now c.make_equal.new.ecx) c.from_residual-in_err-make_equal.result c.in_err-make_equal.field-0.0 c.from_residual-in_err-make_equal.ensures.1 (asking-stop (later-known (known-made c.mk_param_env.ensures.made.kept c.mk_param_env.ensures.rest)) c.in_err-make_equal.ensures.cause)

pub returns-in_err-aside-clause-cause : goal.returns-in_err-aside-clause-cause
returns-in_err-aside-clause-cause c =
    passed-on (IsOverlapStop c.args.rounds.now c.begin_probe.new.self) c.from_residual-in_err-aside.result c.in_err-aside.field-0.0 c.from_residual-in_err-aside.ensures.1
    (asking-stop (later-then (later-known (known-made c.mk_param_env.ensures.made.kept c.mk_param_env.ensures.rest)) (later-kept c.make_equal.ensures.kept)) (memory-somehow c.in_err-aside.ensures.cause))

pub returns-clause-cause : goal.returns-clause-cause
returns-clause-cause c =
    so-err c.open_where_equal-answer.result
    (λ s k. stop-left c.end_probe.ensures.context c.end_probe.ensures.fixed
    (stop-later (later-then (later-then (later-known (known-made c.mk_param_env.ensures.made.kept c.mk_param_env.ensures.rest)) (later-kept c.make_equal.ensures.kept)) (later-begun c.begin_probe.ensures.grows c.begin_probe.ensures.fixed)) k))
    c.open_where_equal-answer.ensures.cause
