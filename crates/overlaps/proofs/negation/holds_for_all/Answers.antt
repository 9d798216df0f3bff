use Rattle.std.proofs.Common.{◌≡◌, false, subst, ◌∙◌}
use Rattle.std.specs.Option.{option_map}
use Rattle.candidate_assembly.specs.Goals.TraitGoals.{trait_goal}
use Rattle.candidate_eval.proofs.Interface.Accounts.{memory-somehow}
use Rattle.overlaps.proofs.Stopping.{asking-stop, later-refl, passed-on, step-stop, there}
use Rattle.overlaps.proofs.Uncertainty.{no-then}
use Rattle.overlaps.specs.Answered.{HoldsForAll}
use Rattle.overlaps.specs.Stopping.{IsOverlapStop, step_key}
use Rattle.overlaps.proofs.Staying.{stays-refl, stays-same}
use Rattle.overlaps.proofs.negation.holds_for_all.Goals as goal

pub returns-then-not-stands_here-clause-stays : goal.returns-then-not-stands_here-clause-stays
returns-then-not-stands_here-clause-stays c = stays-refl c.args.rounds.now

pub returns-in_err-verdict-clause-cause : goal.returns-in_err-verdict-clause-cause
returns-in_err-verdict-clause-cause c =
    passed-on (IsOverlapStop c.args.rounds.now c.entry.new.self) c.from_residual.result c.in_err-verdict.field-0.0 c.from_residual.ensures.1
    (step-stop (later-refl c.args.rounds.now) (step_key c.args.env c.args.predicate (there c.args.env c.args.predicate (later-refl c.args.rounds.now) c.requires.env c.requires.args c.entry.ensures.stays.grows.kept) c.in_err-verdict.ensures.cause))

pub returns-in_err-leaks-clause-cause : goal.returns-in_err-leaks-clause-cause
returns-in_err-leaks-clause-cause c =
    passed-on (IsOverlapStop c.args.rounds.now c.entry.new.self) c.from_residual-in_err-leaks.result c.in_err-leaks.field-0.0 c.from_residual-in_err-leaks.ensures.1
    (asking-stop (later-refl c.args.rounds.now) (memory-somehow c.in_err-leaks.ensures.cause))

pub returns-clause-holds : goal.returns-clause-holds
returns-clause-holds c = λ yes. subst HoldsForAll c.in_ok-verdict.ensures.is (c.in_ok-leaks.ensures.no (no-then c.in_ok-leaks.leaks yes))

pub returns-in_err-verdict-clause-stays : goal.returns-in_err-verdict-clause-stays
returns-in_err-verdict-clause-stays c = stays-same c.entry.ensures.stays c.entry.ensures.table

pub returns-in_err-leaks-clause-stays : goal.returns-in_err-leaks-clause-stays
returns-in_err-leaks-clause-stays c = stays-same c.entry.ensures.stays c.entry.ensures.table

pub returns-clause-stays : goal.returns-clause-stays
returns-clause-stays c = stays-same c.entry.ensures.stays c.entry.ensures.table
