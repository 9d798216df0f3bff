use Rattle.std.proofs.Common.{sym, subst}
use Rattle.ir_trees.specs.Declarations.Context.{Grows}
use Rattle.ir_trees.proofs.Growth.Kept.{args-kept, grows-trans}
use Rattle.candidate_eval.proofs.Outcomes.Responding.{clauses-kept}
use Rattle.candidate_rounds.specs.Evaluators.Known.{Evaluator}
use Rattle.assembly_text.proofs.solving.ask_for_values.Goals as goal
use Rattle.assembly_text.proofs.solving.ask_for_values.Goals.{in-Some-Yes+in_ok-values-in-Some-Yes, in_default}

pub found-requires-clause-clauses : goal.found-requires-clause-clauses
found-requires-clause-clauses c = (clauses-kept _ _ c.args.clauses.now c.in_ok-verdict.ensures.grows c.requires.clauses).0

pub found-requires-clause-args : goal.found-requires-clause-args
found-requires-clause-args c = (args-kept _ _ c.args.predicate.trait_ref.args c.in_ok-verdict.ensures.grows c.requires.read.args).0

pub returns-clause-grows : goal.returns-clause-grows
returns-clause-grows c = elim c.match-verdict.branch [
  | in-Some-Yes+in_ok-values-in-Some-Yes w ↦ subst (λ (r : Evaluator). Grows c.args.rounds.now.context r.context) (sym w.rounds-is) (grows-trans _ _ _ c.in_ok-verdict.ensures.grows w.found.ensures.grows)
  | in_default w ↦ subst (λ (r : Evaluator). Grows c.args.rounds.now.context r.context) (sym w.rounds-is) c.in_ok-verdict.ensures.grows
]
