use Rattle.std.proofs.Common.{ℕ, [], Some, ap, subst, sym, ◌∙◌}
use Rattle.std.proofs.lemmas.Result.{IfOk-weaker}
use Rattle.ir_trees.specs.Declarations.Context.{Context}
use Rattle.ir_trees.proofs.Growth.Kept.{args-kept, grows-trans}
use Rattle.candidate_eval.proofs.Dynamic.Objects.{env-kept}
use Rattle.candidate_eval.proofs.Interface.Accounts.{memory-somehow}
use Rattle.candidate_eval.proofs.Interface.Unmade.{members-unmade}
use Rattle.candidate_eval.specs.Interface.Accounts.StopsSomehow.{making}
use Rattle.candidate_assembly.proofs.Calls.Causes.{so-err}
use Rattle.candidate_rounds.specs.Evaluators.Interface.{Rest}
use Rattle.candidate_rounds.specs.Evaluators.Known.{state, sure_of}
use Rattle.candidate_rounds.specs.Evaluators.Leaking.{Leaks}
use Rattle.overlaps.specs.Refused.{AreOpen}
use Rattle.overlaps.proofs.Negated.{negated-of-pair, some-weaker}
use Rattle.overlaps.proofs.Pairs.{equated-as-made, pair-later}
use Rattle.overlaps.proofs.Staying.{known-kept, known-made, known-refl, known-then}
use Rattle.overlaps.proofs.Stopping.{asking-stop, later-kept, later-known, later-refl, later-then, passed-on, stop-later}
use Rattle.overlaps.specs.Stopping.{IsOverlapStop}
use Rattle.overlaps.proofs.negation.negated_of_pair.Goals as goal

pub have_aliases-requires : goal.have_aliases-requires
have_aliases-requires c = subst (λ (x : Context). AreOpen x.trees c.args.pair.now) (sym c.cx.ensures) c.requires.pair

pub returns-then-have_aliases-clause-stays : goal.returns-then-have_aliases-clause-stays
returns-then-have_aliases-clause-stays c = known-refl c.args.rounds.now

pub returns-in_err-env-clause-stays : goal.returns-in_err-env-clause-stays
returns-in_err-env-clause-stays c = known-made c.mk_param_env.ensures.made.kept c.mk_param_env.ensures.rest

pub returns-in_err-env-clause-cause : goal.returns-in_err-env-clause-cause
returns-in_err-env-clause-cause c = passed-on (IsOverlapStop c.args.rounds.now c.mk_param_env.new.self) c.from_residual.result c.in_err-env.field-0.0 c.from_residual.ensures.1 (asking-stop (later-refl c.args.rounds.now) (making (members-unmade [] c.mk_param_env.ensures.made.kept c.in_err-env.ensures.made.cause)))

pub make_equal-requires-clause-first : goal.make_equal-requires-clause-first
make_equal-requires-clause-first c = (args-kept _ _ c.args.pair.now.first.header c.mk_param_env.ensures.made.kept c.requires.pair.0.1).0

pub make_equal-requires-clause-second : goal.make_equal-requires-clause-second
make_equal-requires-clause-second c = (args-kept _ _ c.args.pair.now.second.header c.mk_param_env.ensures.made.kept c.requires.pair.1.1).0

pub returns-in_err-make_equal-clause-stays : goal.returns-in_err-make_equal-clause-stays
returns-in_err-make_equal-clause-stays c = known-then (known-made c.mk_param_env.ensures.made.kept c.mk_param_env.ensures.rest) (known-kept c.make_equal.ensures.kept)

pub returns-in_err-make_equal-clause-cause : goal.returns-in_err-make_equal-clause-cause
returns-in_err-make_equal-clause-cause c = passed-on (IsOverlapStop c.args.rounds.now c.make_equal.new.ecx) c.from_residual-in_err-make_equal.result c.in_err-make_equal.field-0.0 c.from_residual-in_err-make_equal.ensures.1 (asking-stop (later-known (known-made c.mk_param_env.ensures.made.kept c.mk_param_env.ensures.rest)) c.in_err-make_equal.ensures.cause)

pub returns-then-not-branch-clause-stays : goal.returns-then-not-branch-clause-stays
returns-then-not-branch-clause-stays c = known-then (known-made c.mk_param_env.ensures.made.kept c.mk_param_env.ensures.rest) (known-kept c.make_equal.ensures.kept)

pub returns-in_err-leaks-clause-stays : goal.returns-in_err-leaks-clause-stays
returns-in_err-leaks-clause-stays c = known-then (known-made c.mk_param_env.ensures.made.kept c.mk_param_env.ensures.rest) (known-kept c.make_equal.ensures.kept)

pub returns-in_err-leaks-clause-cause : goal.returns-in_err-leaks-clause-cause
returns-in_err-leaks-clause-cause c =
    passed-on (IsOverlapStop c.args.rounds.now c.make_equal.new.ecx) c.from_residual-in_err-leaks.result c.in_err-leaks.field-0.0 c.from_residual-in_err-leaks.ensures.1
    (asking-stop (later-then (later-known (known-made c.mk_param_env.ensures.made.kept c.mk_param_env.ensures.rest)) (later-kept c.make_equal.ensures.kept)) (memory-somehow c.in_err-leaks.ensures.cause))

pub returns-then-leaks-clause-stays : goal.returns-then-leaks-clause-stays
returns-then-leaks-clause-stays c = known-then (known-made c.mk_param_env.ensures.made.kept c.mk_param_env.ensures.rest) (known-kept c.make_equal.ensures.kept)

pub negated_where_equal-requires-clause-env : goal.negated_where_equal-requires-clause-env
negated_where_equal-requires-clause-env c = (env-kept _ _ c.in_ok-env.env c.make_equal.ensures.kept.grows c.in_ok-env.ensures.made.sort).0

pub negated_where_equal-requires-clause-empty : goal.negated_where_equal-requires-clause-empty
negated_where_equal-requires-clause-empty c = (env-kept _ _ c.in_ok-env.env c.make_equal.ensures.kept.grows c.in_ok-env.ensures.made.sort).1 ∙ c.in_ok-env.ensures.made.tree

pub negated_where_equal-requires-clause-pair : goal.negated_where_equal-requires-clause-pair
negated_where_equal-requires-clause-pair c =
    pair-later c.args.rounds.now.context c.make_equal.new.ecx.context c.args.pair.now (grows-trans _ _ _ c.mk_param_env.ensures.made.kept c.make_equal.ensures.kept.grows) c.requires.pair

pub negated_where_equal-requires-clause-first : goal.negated_where_equal-requires-clause-first
negated_where_equal-requires-clause-first c = (args-kept _ _ c.args.placeholders.0 (grows-trans _ _ _ c.mk_param_env.ensures.made.kept c.make_equal.ensures.kept.grows) c.requires.first).0

pub negated_where_equal-requires-clause-second : goal.negated_where_equal-requires-clause-second
negated_where_equal-requires-clause-second c = (args-kept _ _ c.args.placeholders.1 (grows-trans _ _ _ c.mk_param_env.ensures.made.kept c.make_equal.ensures.kept.grows) c.requires.second).0

pub returns-clause-stays : goal.returns-clause-stays
returns-clause-stays c = known-then (known-then (known-made c.mk_param_env.ensures.made.kept c.mk_param_env.ensures.rest) (known-kept c.make_equal.ensures.kept)) c.negated_where_equal.ensures.stays

pub returns-clause-negated : goal.returns-clause-negated
returns-clause-negated c =
    let old = c.args.rounds.now in
    let mid = c.mk_param_env.new.self in
    let now = c.make_equal.new.ecx in
    let p = c.args.pair.now in
    let grows = grows-trans _ _ _ c.mk_param_env.ensures.made.kept c.make_equal.ensures.kept.grows in
    let equal = equated-as-made old mid c.in_ok-env.env p (Some (state now)) c.mk_param_env.ensures.made.kept c.mk_param_env.ensures.rest c.in_ok-env.ensures.made.tree c.requires.pair (c.in_ok-make_equal.ensures.equal c.if-not-branch.false) in
    let kept : Leaks (state old).newest_universe (state now) → ⊥ = λ l. c.in_ok-leaks.ensures.no c.if-leaks.false (subst (λ (u : ℕ). Leaks u (state now)) (sym c.newest_universe-above.ensures) l) in
    let same = c.make_equal.ensures.kept.fixed_same ∙ ap (λ (x : Rest). x.fixed) c.mk_param_env.ensures.rest in
    IfOk-weaker c.negated_where_equal.result _ _ (some-weaker (negated-of-pair old now p c.args.placeholders (sure_of c.negated_where_equal.new.rounds) grows same c.requires.pair c.requires.first c.requires.second equal kept)) c.negated_where_equal.ensures.negated

pub returns-clause-cause : goal.returns-clause-cause
returns-clause-cause c =
    so-err c.negated_where_equal.result (λ s k. stop-later (later-then (later-known (known-made c.mk_param_env.ensures.made.kept c.mk_param_env.ensures.rest)) (later-kept c.make_equal.ensures.kept)) k) c.negated_where_equal.ensures.cause
