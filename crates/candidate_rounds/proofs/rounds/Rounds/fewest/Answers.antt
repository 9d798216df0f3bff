use Rattle.candidate_rounds.proofs.Table.Running.{stays-refl, stays-trans}
use Rattle.candidate_rounds.proofs.Table.Steps.{steps-beside}
use Rattle.candidate_rounds.proofs.Table.Tabled.{trait-goal-stays}
use Rattle.candidate_rounds.specs.Table.StepStops.{IsSearchStop, search_memory, search_step}
use Rattle.candidate_rounds.proofs.Table.StepStops.{memory-search, search-before}
use Rattle.candidate_rounds.proofs.Stops.ResponseStops.{passed-on}
use Rattle.ir_trees.specs.declared.ir.stop.Stop.TheVariants.{Memory}
use Rattle.candidate_rounds.proofs.rounds.Rounds.fewest.Goals as goal

pub loop-back-init : goal.loop-back-init
loop-back-init c = stays-refl c.args.self.now

pub candidates_by-requires-clause-holds : goal.candidates_by-requires-clause-holds
candidates_by-requires-clause-holds c = steps-beside c.args.self.now c.loop-back.self c.loop-back.invariant c.args.steps.now c.requires.holds

pub candidates_by-requires-clause-key : goal.candidates_by-requires-clause-key
candidates_by-requires-clause-key c = trait-goal-stays c.args.self.now.context.trees c.loop-back.self.context.trees c.loop-back.invariant.grows.kept c.args.step.now.key.goal c.requires.step.goal

pub returns-in_err-kept-clause-stays : goal.returns-in_err-kept-clause-stays
returns-in_err-kept-clause-stays c = stays-refl c.args.self.now

pub returns-in_err-candidates-clause-stays : goal.returns-in_err-candidates-clause-stays
returns-in_err-candidates-clause-stays c = stays-trans c.loop-back.invariant c.candidates_by.ensures.stays

pub loop-back-preserved : goal.loop-back-preserved
loop-back-preserved c = stays-trans c.loop-back.invariant c.candidates_by.ensures.stays

pub returns-in_err-kept-clause-cause : goal.returns-in_err-kept-clause-cause
returns-in_err-kept-clause-cause c = passed-on (IsSearchStop c.args.self.now.context.trees c.args.self.now) c.from_residual.result Memory c.from_residual.ensures.1 search_memory

pub returns-in_err-fewer-clause-cause : goal.returns-in_err-fewer-clause-cause
returns-in_err-fewer-clause-cause c = passed-on (IsSearchStop c.loop-back.self.context.trees c.args.self.now) c.from_residual-in_err-fewer.result c.in_err-fewer.field-0.0 c.from_residual-in_err-fewer.ensures.1 (memory-search c.in_err-fewer.ensures)

pub returns-in_err-candidates-clause-cause : goal.returns-in_err-candidates-clause-cause
returns-in_err-candidates-clause-cause c = passed-on (IsSearchStop c.candidates_by.new.self.context.trees c.args.self.now) c.from_residual-in_err-candidates.result c.in_err-candidates.field-0.0 c.from_residual-in_err-candidates.ensures.1 (search-before c.loop-back.invariant (search_step _ _ _ c.in_err-candidates.ensures.cause))
