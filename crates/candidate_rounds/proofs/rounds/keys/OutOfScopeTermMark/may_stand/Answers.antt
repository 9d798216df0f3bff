use Rattle.candidate_eval.specs.declared.eval.mode.TypingMode.TheVariants.{PostAnalysis}
use Rattle.rounds_judge.specs.Table.Keys.{fresh_state}
use Rattle.candidate_rounds.proofs.Table.Asked.{foreign-less}
use Rattle.candidate_rounds.proofs.rounds.keys.OutOfScopeTermMark.may_stand.Goals as goal

pub returns : goal.returns
returns c = λ t a n. foreign-less (fresh_state PostAnalysis c.args.self.now.0.newest c.args.self.now.0.variables.now) t (c.may_stand.ensures t a n)
