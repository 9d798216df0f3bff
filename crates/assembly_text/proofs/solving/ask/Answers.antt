use Rattle.std.proofs.Common.{◌≡◌, true, rules}
use Rattle.ir_trees.specs.Syntax.Binders.{escapes}
use Rattle.ir_trees.specs.Syntax.Words.{args_forest}
use Rattle.ir_trees.proofs.Growth.Kept.{grows-trans}
use Rattle.assembly_text.specs.Solving.{IsReady}
use Rattle.assembly_text.specs.Solving.ComesUnder.{asked, open_goal}
use Rattle.assembly_text.proofs.Answered.{on-answer}
use Rattle.assembly_text.proofs.solving.ask.Goals as goal

pub returns-in-Some-clause-grows : goal.returns-in-Some-clause-grows
returns-in-Some-clause-grows c = grows-trans _ _ _ c.environment.ensures.grows c.run.ensures.grows

pub returns-in-Some-clause-comes : goal.returns-in-Some-clause-comes
returns-in-Some-clause-comes c =
    let ready : IsReady c.args.rounds.now c.args.clauses.now c.args.predicate c.environment.new.rounds c.in-Some.env = search rules in
    on-answer c.run.result (λ v h. asked c.environment.new.rounds c.in-Some.env ready h) c.run.ensures.comes

pub returns-in-None-clause-comes : goal.returns-in-None-clause-comes
returns-in-None-clause-comes c =
    let is_open : escapes 0 (args_forest c.args.rounds.now.context.trees c.args.predicate.trait_ref.args) ≡ true = search rules in
    open_goal is_open
