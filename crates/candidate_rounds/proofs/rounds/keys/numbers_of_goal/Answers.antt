use Rattle.std.proofs.Common.{refl}
use Rattle.ir_trees.proofs.Syntax.Lists.{below_kind}
use Rattle.candidate_rounds.specs.Calls.Walking.{IsGathered}
use Rattle.candidate_rounds.proofs.Resolution.Walking.{each-of-none}
use Rattle.candidate_rounds.proofs.Table.KeyGoals.{bare-seen, numbers-seen}
use Rattle.candidate_rounds.proofs.rounds.keys.numbers_of_goal.Goals as goal

pub note_below-requires-clause-number : goal.note_below-requires-clause-number
note_below-requires-clause-number c = below_kind c.args.cx.now.trees c.args.goal.param_env.0 _ refl c.requires.goal.0

pub note_below-requires-clause-walked : goal.note_below-requires-clause-walked
note_below-requires-clause-walked c = each-of-none (IsGathered c.new-numbers.result.items c.args.cx.now.trees) c.new-walked.result c.new-walked.ensures

pub note_below-requires-2-clause-number : goal.note_below-requires-2-clause-number
note_below-requires-2-clause-number c = below_kind c.args.cx.now.trees c.args.goal.predicate.0 _ refl c.requires.goal.1

pub returns-clause-numbers : goal.returns-clause-numbers
returns-clause-numbers c =
    numbers-seen c.args.cx.now.trees c.args.goal c.requires.says c.new-numbers.result.items c.note_below.new.numbers.items c.note_below-2.new.numbers.items
    c.new-numbers.ensures.items c.in_ok-note_below.ensures.noted c.in_ok-note_below-2.ensures.noted

pub returns-clause-bare : goal.returns-clause-bare
returns-clause-bare c = bare-seen c.args.cx.now.trees c.args.goal c.requires.says c.in_ok-note_below.ensures.bare c.in_ok-note_below-2.ensures.bare
