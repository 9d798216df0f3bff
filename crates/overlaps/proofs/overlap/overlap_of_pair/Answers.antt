use Rattle.std.proofs.Common.{◌≡◌, ℕ, [], Some, None, ap, subst, sym, ◌∙◌}
use Rattle.std.proofs.lemmas.Result.{IfOk-weaker}
use Rattle.ir_trees.proofs.Growth.Kept.{args-kept, grows-trans}
use Rattle.candidate_eval.proofs.Dynamic.Objects.{env-kept}
use Rattle.candidate_rounds.specs.Evaluators.Interface.{Fixed, Rest}
use Rattle.candidate_rounds.specs.Evaluators.Known.{state, table_of}
use Rattle.candidate_rounds.specs.Evaluators.Leaking.{Leaks}
use Rattle.overlaps.specs.Asked.{pair_undecided}
use Rattle.overlaps.proofs.AskedPairs.{may-weaker, of-clause-weaker, pair-asked, pair-asked-before}
use Rattle.overlaps.specs.Uncertain.{pair_has_alias}
use Rattle.overlaps.proofs.Uncertainty.{pair-uncertain, uncertain-weaker}
use Rattle.overlaps.proofs.Instances.{found-of-pair, instance-with-aliases}
use Rattle.overlaps.proofs.Pairs.{equated-as-made, pair-later}
use Rattle.overlaps.proofs.Staying.{known-beside, known-kept, known-made, known-then, probe-stays}
use Rattle.overlaps.proofs.Stopping.{asking-stop, later-begun, later-kept, later-known, later-refl, later-then, passed-on, stop-later, stop-left}
use Rattle.overlaps.specs.Refused.{StaysBesideKnown}
use Rattle.overlaps.specs.Stopping.{IsOverlapStop}
use Rattle.candidate_assembly.proofs.Calls.Causes.{so-err}
use Rattle.candidate_eval.proofs.Interface.Accounts.{memory-somehow}
use Rattle.candidate_eval.proofs.Interface.Unmade.{members-unmade}
use Rattle.candidate_eval.specs.Interface.Accounts.StopsSomehow.{making}
use Rattle.overlaps.proofs.overlap.overlap_of_pair.Goals as goal

pub common_instance-requires : goal.common_instance-requires
common_instance-requires c = c.requires.pair.0.1

pub returns-in_err-env-clause-stays : goal.returns-in_err-env-clause-stays
returns-in_err-env-clause-stays c = known-made c.mk_param_env.ensures.made.kept c.mk_param_env.ensures.rest

pub make_equal-requires-clause-first : goal.make_equal-requires-clause-first
make_equal-requires-clause-first c = (args-kept _ _ c.args.pair.now.first.header c.mk_param_env.ensures.made.kept c.requires.pair.0.1).0

pub make_equal-requires-clause-second : goal.make_equal-requires-clause-second
make_equal-requires-clause-second c = (args-kept _ _ c.args.pair.now.second.header c.mk_param_env.ensures.made.kept c.requires.pair.1.1).0

pub returns-in_err-make_equal-clause-stays : goal.returns-in_err-make_equal-clause-stays
returns-in_err-make_equal-clause-stays c = known-then (known-made c.mk_param_env.ensures.made.kept c.mk_param_env.ensures.rest) (known-kept c.make_equal.ensures.kept)

pub returns-then-not-branch-clause-stays : goal.returns-then-not-branch-clause-stays
returns-then-not-branch-clause-stays c = known-then (known-made c.mk_param_env.ensures.made.kept c.mk_param_env.ensures.rest) (known-kept c.make_equal.ensures.kept)

pub returns-in_err-leaks-clause-stays : goal.returns-in_err-leaks-clause-stays
returns-in_err-leaks-clause-stays c = known-then (known-made c.mk_param_env.ensures.made.kept c.mk_param_env.ensures.rest) (known-kept c.make_equal.ensures.kept)

pub returns-in_err-leaks-clause-cause : goal.returns-in_err-leaks-clause-cause
returns-in_err-leaks-clause-cause c =
    passed-on (IsOverlapStop c.args.rounds.now c.make_equal.new.ecx) c.from_residual-in_err-leaks.result c.in_err-leaks.field-0.0 c.from_residual-in_err-leaks.ensures.1
    (asking-stop (later-then (later-known (known-made c.mk_param_env.ensures.made.kept c.mk_param_env.ensures.rest)) (later-kept c.make_equal.ensures.kept)) (memory-somehow c.in_err-leaks.ensures.cause))

pub returns-in_err-aside-clause-stays : goal.returns-in_err-aside-clause-stays
returns-in_err-aside-clause-stays c =
    subst (StaysBesideKnown c.args.rounds.now) (sym c.in_err-aside.ensures.unchanged) (known-then (known-made c.mk_param_env.ensures.made.kept c.mk_param_env.ensures.rest) (known-kept c.make_equal.ensures.kept))

pub returns-then-are_undecided-clause-is : goal.returns-then-are_undecided-clause-is
returns-then-are_undecided-clause-is c =
    instance-with-aliases c.args.rounds.now c.common_instance.new.rounds c.args.pair.now c.in_ok-instance.instance (c.are_undecided.ensures.rigid c.if-are_undecided.true) (c.are_undecided.ensures.some c.if-are_undecided.true) c.in_ok-instance.ensures.certain
    c.in_ok-instance.ensures.leaks c.in_ok-instance.ensures.is

pub returns-then-not-branch-clause-is : goal.returns-then-not-branch-clause-is
returns-then-not-branch-clause-is c =
    let old = c.args.rounds.now in
    let mid = c.mk_param_env.new.self in
    let p = c.args.pair.now in
    record {
      decided = c.are_undecided.ensures.decided c.if-are_undecided.false;
      refused = equated-as-made old mid c.in_ok-env.env p None c.mk_param_env.ensures.made.kept c.mk_param_env.ensures.rest c.in_ok-env.ensures.made.tree c.requires.pair (c.in_ok-make_equal.ensures.apart c.if-not-branch.true);
    }

pub overlap_unless_leaking-answer-requires-clause-env : goal.overlap_unless_leaking-answer-requires-clause-env
overlap_unless_leaking-answer-requires-clause-env c =
    (env-kept _ _ c.in_ok-env.env (grows-trans _ _ _ c.make_equal.ensures.kept.grows c.begin_probe.ensures.grows) c.in_ok-env.ensures.made.sort).0

pub overlap_unless_leaking-answer-requires-clause-empty : goal.overlap_unless_leaking-answer-requires-clause-empty
overlap_unless_leaking-answer-requires-clause-empty c =
    (env-kept _ _ c.in_ok-env.env (grows-trans _ _ _ c.make_equal.ensures.kept.grows c.begin_probe.ensures.grows) c.in_ok-env.ensures.made.sort).1 ∙ c.in_ok-env.ensures.made.tree

pub overlap_unless_leaking-answer-requires-clause-pair : goal.overlap_unless_leaking-answer-requires-clause-pair
overlap_unless_leaking-answer-requires-clause-pair c =
    pair-later c.args.rounds.now.context c.begin_probe.new.self.context c.args.pair.now
    (grows-trans _ _ _ c.mk_param_env.ensures.made.kept (grows-trans _ _ _ c.make_equal.ensures.kept.grows c.begin_probe.ensures.grows)) c.requires.pair

pub returns-clause-stays : goal.returns-clause-stays
returns-clause-stays c =
    let began = c.in_ok-aside.ensures in
    let end = c.end_probe.ensures in
    known-then (known-then (known-made c.mk_param_env.ensures.made.kept c.mk_param_env.ensures.rest) (known-kept c.make_equal.ensures.kept))
    (known-beside
    (probe-stays c.make_equal.new.ecx c.begin_probe.new.self c.overlap_unless_leaking-answer.new.rounds c.end_probe.new.self began.fixed began.grows began.faults began.ok.1
    (known-beside c.overlap_unless_leaking-answer.ensures.stays) end.fixed end.grows end.faults end.closed end.left))

pub returns-clause-is : goal.returns-clause-is
returns-clause-is c =
    let old = c.args.rounds.now in
    let mid = c.mk_param_env.new.self in
    let after = state c.make_equal.new.ecx in
    let began = c.begin_probe.new.self in
    let p = c.args.pair.now in
    IfOk-weaker c.overlap_unless_leaking-answer.result _ _
    (found-of-pair old began c.overlap_unless_leaking-answer.new.rounds c.end_probe.new.self p after
    (grows-trans _ _ _ c.mk_param_env.ensures.made.kept (grows-trans _ _ _ c.make_equal.ensures.kept.grows c.begin_probe.ensures.grows)) c.requires.pair
    (equated-as-made old mid c.in_ok-env.env p (Some after) c.mk_param_env.ensures.made.kept c.mk_param_env.ensures.rest c.in_ok-env.ensures.made.tree c.requires.pair (c.in_ok-make_equal.ensures.equal c.if-not-branch.false))
    c.in_ok-leaks.leaks (λ e. subst (λ (u : ℕ). Leaks u after) c.newest_universe-above.ensures (c.in_ok-leaks.ensures.yes e))
    (λ e l. c.in_ok-leaks.ensures.no e (subst (λ (u : ℕ). Leaks u after) (sym c.newest_universe-above.ensures) l)) c.in_ok-aside.ensures.ok.0 c.end_probe.ensures.fixed c.end_probe.ensures.context)
    c.overlap_unless_leaking-answer.ensures.is

pub returns-in_err-instance-clause-cause : goal.returns-in_err-instance-clause-cause
returns-in_err-instance-clause-cause c = passed-on (IsOverlapStop c.args.rounds.now c.common_instance.new.rounds) c.from_residual.result c.in_err-instance.field-0.0 c.from_residual.ensures.1 (c.in_err-instance.ensures.cause)

pub returns-in_err-env-clause-cause : goal.returns-in_err-env-clause-cause
returns-in_err-env-clause-cause c = passed-on (IsOverlapStop c.args.rounds.now c.mk_param_env.new.self) c.from_residual-in_err-env.result c.in_err-env.field-0.0 c.from_residual-in_err-env.ensures.1 (asking-stop (later-refl c.args.rounds.now) (making (members-unmade [] c.mk_param_env.ensures.made.kept c.in_err-env.ensures.made.cause)))

pub returns-in_err-make_equal-clause-cause : goal.returns-in_err-make_equal-clause-cause
returns-in_err-make_equal-clause-cause c = passed-on (IsOverlapStop c.args.rounds.now c.make_equal.new.ecx) c.from_residual-in_err-make_equal.result c.in_err-make_equal.field-0.0 c.from_residual-in_err-make_equal.ensures.1 (asking-stop (later-known (known-made c.mk_param_env.ensures.made.kept c.mk_param_env.ensures.rest)) c.in_err-make_equal.ensures.cause)

pub returns-in_err-aside-clause-cause : goal.returns-in_err-aside-clause-cause
returns-in_err-aside-clause-cause c =
    passed-on (IsOverlapStop c.args.rounds.now c.begin_probe.new.self) c.from_residual-in_err-aside.result c.in_err-aside.field-0.0 c.from_residual-in_err-aside.ensures.1
    (asking-stop (later-then (later-known (known-made c.mk_param_env.ensures.made.kept c.mk_param_env.ensures.rest)) (later-kept c.make_equal.ensures.kept)) (memory-somehow c.in_err-aside.ensures.cause))

pub returns-clause-cause : goal.returns-clause-cause
returns-clause-cause c =
    so-err c.overlap_unless_leaking-answer.result
    (λ s k. stop-left c.end_probe.ensures.context c.end_probe.ensures.fixed
    (stop-later (later-then (later-then (later-known (known-made c.mk_param_env.ensures.made.kept c.mk_param_env.ensures.rest)) (later-kept c.make_equal.ensures.kept)) (later-begun c.begin_probe.ensures.grows c.begin_probe.ensures.fixed)) k))
    c.overlap_unless_leaking-answer.ensures.cause

pub returns-then-are_undecided-clause-asked : goal.returns-then-are_undecided-clause-asked
returns-then-are_undecided-clause-asked c = pair_undecided (c.are_undecided.ensures.rigid c.if-are_undecided.true) (c.are_undecided.ensures.some c.if-are_undecided.true) c.common_instance.ensures.table

pub returns-clause-asked : goal.returns-clause-asked
returns-clause-asked c =
    let old = c.args.rounds.now in
    let mid = c.mk_param_env.new.self in
    let p = c.args.pair.now in
    let after = state c.make_equal.new.ecx in
    let began = c.begin_probe.new.self in
    let later = later-then (later-then (later-known (known-made c.mk_param_env.ensures.made.kept c.mk_param_env.ensures.rest)) (later-kept c.make_equal.ensures.kept)) (later-begun c.begin_probe.ensures.grows c.begin_probe.ensures.fixed) in
    let table : table_of began ≡ table_of old
    = ap (λ (x : Fixed). x.table) c.begin_probe.ensures.fixed ∙ (ap (λ (x : Fixed). x.table) c.make_equal.ensures.kept.fixed_same ∙ ap (λ (x : Rest). x.fixed.table) c.mk_param_env.ensures.rest) in
    let equal = equated-as-made old mid c.in_ok-env.env p (Some after) c.mk_param_env.ensures.made.kept c.mk_param_env.ensures.rest c.in_ok-env.ensures.made.tree c.requires.pair (c.in_ok-make_equal.ensures.equal c.if-not-branch.false) in
    IfOk-weaker c.overlap_unless_leaking-answer.result _ _
    (may-weaker (pair-asked old began c.overlap_unless_leaking-answer.new.rounds c.end_probe.new.self c.args.effort p after later table c.requires.pair equal c.in_ok-aside.ensures.ok.0 c.end_probe.ensures.fixed))
    c.overlap_unless_leaking-answer.ensures.asked

pub returns-clause-before : goal.returns-clause-before
returns-clause-before c =
    let old = c.args.rounds.now in
    let mid = c.mk_param_env.new.self in
    let p = c.args.pair.now in
    let after = state c.make_equal.new.ecx in
    let began = c.begin_probe.new.self in
    let later = later-then (later-then (later-known (known-made c.mk_param_env.ensures.made.kept c.mk_param_env.ensures.rest)) (later-kept c.make_equal.ensures.kept)) (later-begun c.begin_probe.ensures.grows c.begin_probe.ensures.fixed) in
    let table : table_of began ≡ table_of old
    = ap (λ (x : Fixed). x.table) c.begin_probe.ensures.fixed ∙ (ap (λ (x : Fixed). x.table) c.make_equal.ensures.kept.fixed_same ∙ ap (λ (x : Rest). x.fixed.table) c.mk_param_env.ensures.rest) in
    let equal = equated-as-made old mid c.in_ok-env.env p (Some after) c.mk_param_env.ensures.made.kept c.mk_param_env.ensures.rest c.in_ok-env.ensures.made.tree c.requires.pair (c.in_ok-make_equal.ensures.equal c.if-not-branch.false) in
    IfOk-weaker c.overlap_unless_leaking-answer.result _ _ (of-clause-weaker (pair-asked-before old began c.args.effort p after later table c.requires.pair equal c.in_ok-aside.ensures.ok.0)) c.overlap_unless_leaking-answer.ensures.before

pub returns-then-are_undecided-clause-uncertain : goal.returns-then-are_undecided-clause-uncertain
returns-then-are_undecided-clause-uncertain c = λ e. pair_has_alias (c.are_undecided.ensures.some c.if-are_undecided.true)

pub returns-clause-uncertain : goal.returns-clause-uncertain
returns-clause-uncertain c =
    let old = c.args.rounds.now in
    let mid = c.mk_param_env.new.self in
    let p = c.args.pair.now in
    let after = state c.make_equal.new.ecx in
    let equal = equated-as-made old mid c.in_ok-env.env p (Some after) c.mk_param_env.ensures.made.kept c.mk_param_env.ensures.rest c.in_ok-env.ensures.made.tree c.requires.pair (c.in_ok-make_equal.ensures.equal c.if-not-branch.false) in
    IfOk-weaker c.overlap_unless_leaking-answer.result _ _
    (uncertain-weaker
    (pair-uncertain old c.begin_probe.new.self c.overlap_unless_leaking-answer.new.rounds c.end_probe.new.self p after
    (grows-trans _ _ _ c.mk_param_env.ensures.made.kept (grows-trans _ _ _ c.make_equal.ensures.kept.grows c.begin_probe.ensures.grows)) c.requires.pair equal c.in_ok-aside.ensures.ok.0 c.end_probe.ensures.fixed c.in_ok-leaks.leaks
    (λ e. subst (λ (u : ℕ). Leaks u after) c.newest_universe-above.ensures (c.in_ok-leaks.ensures.yes e))))
    c.overlap_unless_leaking-answer.ensures.uncertain

pub returns-in_err-instance-clause-stays : goal.returns-in_err-instance-clause-stays
returns-in_err-instance-clause-stays c = known-beside c.common_instance.ensures.stays

pub returns-then-are_undecided-clause-stays : goal.returns-then-are_undecided-clause-stays
returns-then-are_undecided-clause-stays c = known-beside c.common_instance.ensures.stays
