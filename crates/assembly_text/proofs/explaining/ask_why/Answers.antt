use Rattle.std.proofs.Common.{◌≡◌, true, rules}
use Rattle.ir_trees.specs.Syntax.Binders.{escapes}
use Rattle.ir_trees.specs.Syntax.Words.{args_forest}
use Rattle.ir_trees.proofs.Growth.Kept.{grows-refl, grows-trans}
use Rattle.candidate_assembly.specs.Goals.KindShown.{IsGoal, trait_kind}
use Rattle.candidate_assembly.proofs.Calls.Keeping.{trait-goal-kept}
use Rattle.assembly_text.specs.Solving.{IsReady}
use Rattle.assembly_text.specs.Solving.ComesUnder.{asked, open_goal}
use Rattle.assembly_text.proofs.explaining.ask_why.Goals as goal

pub returns-in_default-clause-comes : goal.returns-in_default-clause-comes
returns-in_default-clause-comes c =
    let is_open : escapes 0 (args_forest c.args.rounds.now.context.trees c.args.predicate.trait_ref.args) ≡ true = search rules in
    (c.environment.new.rounds, open_goal is_open, grows-refl _)

pub returns-in_err-verdict-clause-grows : goal.returns-in_err-verdict-clause-grows
returns-in_err-verdict-clause-grows c = grows-trans _ _ _ c.environment.ensures.grows c.run.ensures.grows

pub find_reasons-requires : goal.find_reasons-requires
find_reasons-requires c =
    let asked : IsGoal trait_kind c.environment.new.rounds.context c.in-Some.env c.args.predicate = search rules in
    (trait-goal-kept c.environment.new.rounds.context c.run.new.rounds.context c.in-Some.env c.args.predicate c.run.ensures.grows asked).0

pub returns-in_err-reasons-clause-grows : goal.returns-in_err-reasons-clause-grows
returns-in_err-reasons-clause-grows c = grows-trans _ _ _ (grows-trans _ _ _ c.environment.ensures.grows c.run.ensures.grows) c.find_reasons.ensures.grows

pub returns-clause-grows : goal.returns-clause-grows
returns-clause-grows c = grows-trans _ _ _ (grows-trans _ _ _ c.environment.ensures.grows c.run.ensures.grows) c.find_reasons.ensures.grows

pub returns-clause-comes : goal.returns-clause-comes
returns-clause-comes c =
    let ready : IsReady c.args.rounds.now c.args.clauses.now c.args.predicate c.environment.new.rounds c.in-Some.env = search rules in
    (c.run.new.rounds, asked c.environment.new.rounds c.in-Some.env ready c.in_ok-verdict.ensures.comes, c.find_reasons.ensures.grows)
