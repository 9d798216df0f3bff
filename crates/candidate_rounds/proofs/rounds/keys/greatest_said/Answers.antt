use Rattle.std.proofs.Common.{◌≤◌, ap, arith, map, refl, sym, subst}
use Rattle.ir_trees.specs.Syntax.Nodes.{tree_at}
use Rattle.ir_trees.specs.Syntax.Words.{ClauseListFits, clause_tree}
use Rattle.ir_trees.proofs.Syntax.Lists.{below_kind}
use Rattle.candidate_assembly.proofs.Calls.Causes.{so-ok}
use Rattle.rounds_judge.specs.Table.Keys.{greatest_named}
use Rattle.rounds_judge.specs.Table.TableSettling.{greatest_in}
use Rattle.candidate_rounds.proofs.Resolution.Walking.{each-of-none}
use Rattle.candidate_rounds.proofs.rounds.keys.greatest_said.Goals as goal

pub greatest_below-requires-clause-number : goal.greatest_below-requires-clause-number
greatest_below-requires-clause-number c = below_kind c.args.cx.now.trees c.args.response.now.values.0 _ refl c.requires.values

pub greatest_below-requires-clause-walked : goal.greatest_below-requires-clause-walked
greatest_below-requires-clause-walked c = each-of-none (λ n. greatest_named (tree_at c.args.cx.now.trees n).children ≤ 0) c.new-walked.result c.new-walked.ensures

pub greatest_in-requires-clause-clauses : goal.greatest_in-requires-clause-clauses
greatest_in-requires-clause-clauses c = subst (ClauseListFits c.args.cx.now.trees) (sym c.as_slice.ensures.value) c.requires.regions

pub returns-clause-greatest : goal.returns-clause-greatest
returns-clause-greatest c =
    let regions = ap (λ cs. greatest_in (map (clause_tree c.args.cx.now.trees) cs)) c.as_slice.ensures.value in
    let values = c.in_ok-values.ensures.greatest in
    so-ok c.greatest_in.result (λ n e. omega (arith, e, values, regions)) c.greatest_in.ensures.greatest
