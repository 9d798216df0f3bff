use Rattle.std.proofs.Common.{List, rules, subst, sym, ◌∙◌}
use Rattle.std.proofs.lemmas.Result.{IfOk-weaker}
use Rattle.ir_trees.specs.declared.ir.kinds.Clause.{Clause}
use Rattle.ir_trees.specs.Instantiation.Owned.{ClausesAreOwned}
use Rattle.ir_trees.specs.Syntax.Words.{args_forest, env_forest}
use Rattle.candidate_assembly.proofs.Calls.Causes.{so-err}
use Rattle.candidate_rounds.specs.Evaluators.Known.{state, sure_of}
use Rattle.overlaps.specs.Opening.{AreEntered}
use Rattle.overlaps.specs.Specialized.{IsEnvironmentOf, IsEnvironmentOfOpen, clauses_with}
use Rattle.overlaps.proofs.Pairs.{pair-later}
use Rattle.overlaps.proofs.Specialized.{are-open, found-here}
use Rattle.overlaps.proofs.Staying.{known-kept, known-then}
use Rattle.overlaps.proofs.Stopping.{asking-stop, later-kept, later-refl, later-then, passed-on, stop-later}
use Rattle.overlaps.specs.Stopping.{IsOverlapStop}
use Rattle.overlaps.proofs.specializing.specializes_here.Goals as goal

pub returns-in_err-pair-clause-stays : goal.returns-in_err-pair-clause-stays
returns-in_err-pair-clause-stays c = known-kept c.enter_and_open.ensures.kept

pub returns-in_default-clause-stays : goal.returns-in_default-clause-stays
returns-in_default-clause-stays c = known-kept c.enter_and_open.ensures.kept

pub environment_of-requires-clause-locals : goal.environment_of-requires-clause-locals
environment_of-requires-clause-locals c =
    let old = c.args.rounds.now in
    let mid = c.enter_and_open.new.ecx in
    let o : AreEntered old.context (state old) c.args.special c.args.general mid.context (state mid) c.in-Some.pair = search rules in
    (are-open old.context (state old) c.args.special c.args.general mid.context (state mid) c.in-Some.pair o).0.0

pub environment_of-requires-clause-clauses : goal.environment_of-requires-clause-clauses
environment_of-requires-clause-clauses c =
    let old = c.args.rounds.now in
    let mid = c.enter_and_open.new.ecx in
    let ts = mid.context.trees in
    let o : AreEntered old.context (state old) c.args.special c.args.general mid.context (state mid) c.in-Some.pair = search rules in
    subst (ClausesAreOwned ts (args_forest ts c.in-Some.pair.first.locals)) (sym c.as_slice.ensures.value)
    (are-open old.context (state old) c.args.special c.args.general mid.context (state mid) c.in-Some.pair o).0.2

pub returns-in_err-env-clause-stays : goal.returns-in_err-env-clause-stays
returns-in_err-env-clause-stays c = known-then (known-kept c.enter_and_open.ensures.kept) (known-kept c.environment_of.ensures.kept)

pub specializes_under-requires-clause-pair : goal.specializes_under-requires-clause-pair
specializes_under-requires-clause-pair c =
    let old = c.args.rounds.now in
    let mid = c.enter_and_open.new.ecx in
    let o : AreEntered old.context (state old) c.args.special c.args.general mid.context (state mid) c.in-Some.pair = search rules in
    pair-later mid.context c.environment_of.new.ecx.context c.in-Some.pair c.environment_of.ensures.kept.grows
    (are-open old.context (state old) c.args.special c.args.general mid.context (state mid) c.in-Some.pair o)

pub returns-clause-stays : goal.returns-clause-stays
returns-clause-stays c = known-then (known-then (known-kept c.enter_and_open.ensures.kept) (known-kept c.environment_of.ensures.kept)) c.specializes_under.ensures.stays

pub returns-clause-is : goal.returns-clause-is
returns-clause-is c =
    let old = c.args.rounds.now in
    let mid = c.enter_and_open.new.ecx in
    let now = c.environment_of.new.ecx in
    let o : AreEntered old.context (state old) c.args.special c.args.general mid.context (state mid) c.in-Some.pair = search rules in
    let first = c.in-Some.pair.first in
    let ts = mid.context.trees in
    let e : IsEnvironmentOfOpen mid.context first (env_forest now.context.trees c.in_ok-env.env)
    = subst (λ (xs : List Clause). IsEnvironmentOf mid.context (clauses_with ts (args_forest ts first.locals) xs) (env_forest now.context.trees c.in_ok-env.env)) c.as_slice.ensures.value c.in_ok-env.ensures.is in
    IfOk-weaker c.specializes_under.result _ _
    (found-here old mid now c.args.special c.args.general c.in-Some.pair (env_forest now.context.trees c.in_ok-env.env) (sure_of c.specializes_under.new.rounds)
    c.enter_and_open.ensures.kept.grows c.environment_of.ensures.kept.grows (c.environment_of.ensures.kept.fixed_same ∙ c.enter_and_open.ensures.kept.fixed_same) c.environment_of.ensures.same o c.requires.alike e)
    c.specializes_under.ensures.is

pub returns-in_err-pair-clause-cause : goal.returns-in_err-pair-clause-cause
returns-in_err-pair-clause-cause c = passed-on (IsOverlapStop c.args.rounds.now c.enter_and_open.new.ecx) c.from_residual.result c.in_err-pair.field-0.0 c.from_residual.ensures.1 (asking-stop (later-refl c.args.rounds.now) c.in_err-pair.ensures.cause)

pub returns-in_err-env-clause-cause : goal.returns-in_err-env-clause-cause
returns-in_err-env-clause-cause c = passed-on (IsOverlapStop c.args.rounds.now c.environment_of.new.ecx) c.from_residual-in_err-env.result c.in_err-env.field-0.0 c.from_residual-in_err-env.ensures.1 (asking-stop (later-kept c.enter_and_open.ensures.kept) c.in_err-env.ensures.cause)

pub returns-clause-cause : goal.returns-clause-cause
returns-clause-cause c = so-err c.specializes_under.result (λ s k. stop-later (later-then (later-kept c.enter_and_open.ensures.kept) (later-kept c.environment_of.ensures.kept)) k) c.specializes_under.ensures.cause
