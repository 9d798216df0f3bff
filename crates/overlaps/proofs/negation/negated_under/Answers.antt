use Rattle.std.proofs.Common.{List, subst, sym}
use Rattle.std.proofs.lemmas.Result.{IfOk-weaker}
use Rattle.ir_trees.specs.Instantiation.Owned.{ClausesAreOwned}
use Rattle.ir_trees.specs.Syntax.Words.{args_forest}
use Rattle.candidate_assembly.proofs.Calls.Causes.{so-err}
use Rattle.candidate_rounds.specs.Evaluators.Known.{sure_of}
use Rattle.overlaps.proofs.Negated.{negated-under, some-weaker}
use Rattle.overlaps.proofs.Pairs.{pair-later}
use Rattle.overlaps.proofs.Staying.{stays-kept, stays-trans}
use Rattle.overlaps.proofs.Stopping.{asking-stop, later-kept, later-refl, passed-on, stop-later}
use Rattle.overlaps.specs.Stopping.{IsOverlapStop}
use Rattle.overlaps.proofs.negation.negated_under.Goals as goal

pub environment_here-requires : goal.environment_here-requires
environment_here-requires c = c.requires.pair.0

pub returns-in_err-env-clause-stays : goal.returns-in_err-env-clause-stays
returns-in_err-env-clause-stays c = stays-kept c.environment_here.ensures.kept c.environment_here.ensures.same

pub returns-in_err-env-clause-cause : goal.returns-in_err-env-clause-cause
returns-in_err-env-clause-cause c = passed-on (IsOverlapStop c.args.rounds.now c.environment_here.new.ecx) c.from_residual.result c.in_err-env.field-0.0 c.from_residual.ensures.1 (asking-stop (later-refl c.args.rounds.now) c.in_err-env.ensures.cause)

pub first_negated-requires-clause-locals : goal.first_negated-requires-clause-locals
first_negated-requires-clause-locals c = (pair-later c.args.rounds.now.context c.environment_here.new.ecx.context c.args.pair.now c.environment_here.ensures.kept.grows c.requires.pair).1.0

pub first_negated-requires-clause-clauses : goal.first_negated-requires-clause-clauses
first_negated-requires-clause-clauses c =
    let ts = c.environment_here.new.ecx.context.trees in
    subst (ClausesAreOwned ts (args_forest ts c.args.pair.now.second.locals)) (sym c.as_slice-clauses.ensures.value)
    (pair-later c.args.rounds.now.context c.environment_here.new.ecx.context c.args.pair.now c.environment_here.ensures.kept.grows c.requires.pair).1.2

pub returns-clause-stays : goal.returns-clause-stays
returns-clause-stays c = stays-trans (stays-kept c.environment_here.ensures.kept c.environment_here.ensures.same) c.first_negated.ensures.stays

pub returns-clause-negated : goal.returns-clause-negated
returns-clause-negated c =
    IfOk-weaker c.first_negated.result _ _
    (some-weaker (negated-under c.args.rounds.now c.environment_here.new.ecx c.in_ok-env.env c.args.pair.now c.as_slice-clauses.result.now (sure_of c.first_negated.new.rounds) c.environment_here.ensures.kept.grows
    c.environment_here.ensures.same c.requires.pair c.in_ok-env.ensures.is c.as_slice-clauses.ensures.value))
    c.first_negated.ensures.negated

pub returns-clause-cause : goal.returns-clause-cause
returns-clause-cause c = so-err c.first_negated.result (λ s k. stop-later (later-kept c.environment_here.ensures.kept) k) c.first_negated.ensures.cause
