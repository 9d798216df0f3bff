use Rattle.std.proofs.Common.{◌≡◌, ℕ, false, sym, subst}
use Rattle.std.proofs.lemmas.Result.{IfOk-weaker}
use Rattle.ir_trees.specs.Declarations.Context.{Context}
use Rattle.ir_trees.specs.Syntax.Trees.{holds, is_alias}
use Rattle.ir_trees.specs.Syntax.Words.{args_forest}
use Rattle.ir_trees.proofs.Growth.Kept.{grows-trans}
use Rattle.candidate_eval.proofs.Dynamic.Objects.{env-kept}
use Rattle.candidate_eval.proofs.Interface.Accounts.{memory-somehow}
use Rattle.candidate_assembly.proofs.Calls.Causes.{so-err}
use Rattle.candidate_rounds.specs.Evaluators.Known.{state}
use Rattle.candidate_rounds.specs.Evaluators.Leaking.{Leaks}
use Rattle.overlaps.specs.Refused.{AreOpen, StaysBesideKnown}
use Rattle.overlaps.proofs.Pairs.{pair-later}
use Rattle.overlaps.proofs.Specialized.{found-under}
use Rattle.overlaps.proofs.Staying.{known-beside, known-kept, known-refl, known-then, probe-stays}
use Rattle.overlaps.proofs.Stopping.{asking-stop, later-begun, later-kept, later-refl, later-then, passed-on, stop-later, stop-left}
use Rattle.overlaps.specs.Stopping.{IsOverlapStop}
use Rattle.overlaps.proofs.specializing.specializes_under.Goals as goal

pub have_aliases-requires : goal.have_aliases-requires
have_aliases-requires c = subst (λ (x : Context). AreOpen x.trees c.args.pair.now) (sym c.cx.ensures) c.requires.pair

pub returns-then-have_aliases-clause-stays : goal.returns-then-have_aliases-clause-stays
returns-then-have_aliases-clause-stays c = known-refl c.args.rounds.now

pub make_equal-requires-clause-first : goal.make_equal-requires-clause-first
make_equal-requires-clause-first c = c.requires.pair.1.1

pub make_equal-requires-clause-second : goal.make_equal-requires-clause-second
make_equal-requires-clause-second c = c.requires.pair.0.1

pub returns-in_err-make_equal-clause-stays : goal.returns-in_err-make_equal-clause-stays
returns-in_err-make_equal-clause-stays c = known-kept c.make_equal.ensures.kept

pub returns-then-not-branch-clause-stays : goal.returns-then-not-branch-clause-stays
returns-then-not-branch-clause-stays c = known-kept c.make_equal.ensures.kept

pub returns-in_err-leaks-clause-stays : goal.returns-in_err-leaks-clause-stays
returns-in_err-leaks-clause-stays c = known-kept c.make_equal.ensures.kept

pub returns-in_err-leaks-clause-cause : goal.returns-in_err-leaks-clause-cause
returns-in_err-leaks-clause-cause c =
    passed-on (IsOverlapStop c.args.rounds.now c.make_equal.new.ecx) c.from_residual-in_err-leaks.result c.in_err-leaks.field-0.0 c.from_residual-in_err-leaks.ensures.1
    (asking-stop (later-kept c.make_equal.ensures.kept) (memory-somehow c.in_err-leaks.ensures.cause))

pub returns-then-leaks-clause-stays : goal.returns-then-leaks-clause-stays
returns-then-leaks-clause-stays c = known-kept c.make_equal.ensures.kept

pub returns-in_err-aside-clause-stays : goal.returns-in_err-aside-clause-stays
returns-in_err-aside-clause-stays c = subst (StaysBesideKnown c.args.rounds.now) (sym c.in_err-aside.ensures.unchanged) (known-kept c.make_equal.ensures.kept)

pub specializes_where_equal-answer-requires-clause-env : goal.specializes_where_equal-answer-requires-clause-env
specializes_where_equal-answer-requires-clause-env c = (env-kept _ _ c.args.env (grows-trans _ _ _ c.make_equal.ensures.kept.grows c.begin_probe.ensures.grows) c.requires.env).0

pub specializes_where_equal-answer-requires-clause-open : goal.specializes_where_equal-answer-requires-clause-open
specializes_where_equal-answer-requires-clause-open c =
    (pair-later c.args.rounds.now.context c.begin_probe.new.self.context c.args.pair.now (grows-trans _ _ _ c.make_equal.ensures.kept.grows c.begin_probe.ensures.grows) c.requires.pair).1

pub returns-clause-stays : goal.returns-clause-stays
returns-clause-stays c =
    let began = c.in_ok-aside.ensures in
    let end = c.end_probe.ensures in
    known-then (known-kept c.make_equal.ensures.kept)
    (known-beside
    (probe-stays c.make_equal.new.ecx c.begin_probe.new.self c.specializes_where_equal-answer.new.rounds c.end_probe.new.self began.fixed began.grows began.faults began.ok.1
    c.specializes_where_equal-answer.ensures.stays end.fixed end.grows end.faults end.closed end.left))

pub returns-clause-is : goal.returns-clause-is
returns-clause-is c =
    let old = c.args.rounds.now in
    let p = c.args.pair.now in
    let no-alias : holds is_alias (args_forest old.context.trees p.first.header) ≡ false
    = subst (λ (x : Context). holds is_alias (args_forest x.trees p.first.header) ≡ false) c.cx.ensures (c.have_aliases.ensures.first c.if-have_aliases.false) in
    let no-other : holds is_alias (args_forest old.context.trees p.second.header) ≡ false
    = subst (λ (x : Context). holds is_alias (args_forest x.trees p.second.header) ≡ false) c.cx.ensures (c.have_aliases.ensures.second c.if-have_aliases.false) in
    let kept : Leaks (state old).newest_universe (state c.make_equal.new.ecx) → ⊥ = λ l. c.in_ok-leaks.ensures.no c.if-leaks.false (subst (λ (u : ℕ). Leaks u (state c.make_equal.new.ecx)) (sym c.newest_universe-above.ensures) l) in
    IfOk-weaker c.specializes_where_equal-answer.result _ _
    (found-under old c.begin_probe.new.self c.specializes_where_equal-answer.new.rounds c.end_probe.new.self c.args.env p (state c.make_equal.new.ecx)
    (grows-trans _ _ _ c.make_equal.ensures.kept.grows c.begin_probe.ensures.grows) c.requires.env c.requires.pair (record { first = no-other; second = no-alias })
    (c.in_ok-make_equal.ensures.equal c.if-not-branch.false) kept (later-then (later-kept c.make_equal.ensures.kept) (later-begun c.begin_probe.ensures.grows c.begin_probe.ensures.fixed)) c.in_ok-aside.ensures.ok.0
    c.end_probe.ensures.fixed)
    c.specializes_where_equal-answer.ensures.is

pub returns-in_err-make_equal-clause-cause : goal.returns-in_err-make_equal-clause-cause
returns-in_err-make_equal-clause-cause c = passed-on (IsOverlapStop c.args.rounds.now c.make_equal.new.ecx) c.from_residual.result c.in_err-make_equal.field-0.0 c.from_residual.ensures.1 (asking-stop (later-refl c.args.rounds.now) c.in_err-make_equal.ensures.cause)

pub returns-in_err-aside-clause-cause : goal.returns-in_err-aside-clause-cause
returns-in_err-aside-clause-cause c =
    passed-on (IsOverlapStop c.args.rounds.now c.begin_probe.new.self) c.from_residual-in_err-aside.result c.in_err-aside.field-0.0 c.from_residual-in_err-aside.ensures.1
    (asking-stop (later-kept c.make_equal.ensures.kept) (memory-somehow c.in_err-aside.ensures.cause))

pub returns-clause-cause : goal.returns-clause-cause
returns-clause-cause c =
    so-err c.specializes_where_equal-answer.result
    (λ s k. stop-left c.end_probe.ensures.context c.end_probe.ensures.fixed (stop-later (later-then (later-kept c.make_equal.ensures.kept) (later-begun c.begin_probe.ensures.grows c.begin_probe.ensures.fixed)) k))
    c.specializes_where_equal-answer.ensures.cause
