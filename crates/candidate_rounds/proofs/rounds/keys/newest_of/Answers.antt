use Rattle.std.proofs.Common.{refl, ◌≡◌, ◌≤◌, ◌∙◌, max, ap, subst}
use Rattle.std.specs.Prelude.{IfOk}
use Rattle.ir_trees.proofs.Syntax.Lists.{below_kind}
use Rattle.ir_trees.specs.Syntax.Nodes.{tree_at}
use Rattle.rounds_judge.specs.Table.Keys.{greatest_named, greatest_of}
use Rattle.candidate_rounds.proofs.Resolution.Walking.{each-of-none}
use Rattle.candidate_rounds.proofs.Table.Keying.{newest-call}
use Rattle.candidate_rounds.proofs.rounds.keys.newest_of.Goals as goal

pub greatest_below-requires-clause-number : goal.greatest_below-requires-clause-number
greatest_below-requires-clause-number c = below_kind c.args.cx.now.trees c.args.key.now.goal.param_env.0 _ refl c.requires.goal.0

pub greatest_below-requires-clause-walked : goal.greatest_below-requires-clause-walked
greatest_below-requires-clause-walked c = each-of-none (λ n. greatest_named (tree_at c.args.cx.now.trees n).children ≤ c.greatest_of-variables.result) c.new-walked.result c.new-walked.ensures

pub greatest_below-requires-2-clause-number : goal.greatest_below-requires-2-clause-number
greatest_below-requires-2-clause-number c = below_kind c.args.cx.now.trees c.arguments.result.0 _ refl c.arguments.ensures.sort

pub returns-clause-newest : goal.returns-clause-newest
returns-clause-newest c =
    newest-call c.args.cx.now.trees c.args.key.now.goal c.greatest_of-variables.result c.in_ok-env.env c.args.key.now.variables.items c.greatest_below-2.result
    (c.greatest_of-variables.ensures ∙ ap greatest_of c.as_slice.ensures.value) c.in_ok-env.ensures.greatest
    (subst (λ f. IfOk c.greatest_below-2.result (λ n. n ≡ max c.in_ok-env.env (greatest_named f))) c.arguments.ensures.trees c.greatest_below-2.ensures.greatest)
