use Rattle.std.proofs.Common.{sym, ◌∙◌, ap}
use Rattle.std.proofs.lemmas.Bool.{eqb-true}
use Rattle.ir_trees.specs.Instantiation.Folds.{arg_tree}
use Rattle.ir_trees.specs.Syntax.Nodes.{tree_at}
use Rattle.ir_folds.proofs.Hierarchy.Implying.{arg-kept}
use Rattle.candidate_rounds.specs.Evaluators.Known.{listing, state, tree_of}
use Rattle.candidate_rounds.proofs.Equations.Repeating.{are-one, ready-on}
use Rattle.candidate_rounds.proofs.Equations.Visiting.{number-on}
use Rattle.candidate_rounds.proofs.Evaluators.Between.{parts}
use Rattle.candidate_rounds.proofs.Evaluators.Exits.{below-goes}
use Rattle.candidate_rounds.proofs.Evaluators.Going.{goes-trans}
use Rattle.candidate_rounds.proofs.rounds.Rounds.are_one.Goals as goal

pub returns-clause-goes : goal.returns-clause-goes
returns-clause-goes c = goes-trans c.args.self.now c.ready.new.self c.ready-2.new.self c.ready.ensures.goes c.ready-2.ensures.goes

pub returns-in_default-clause-goes : goal.returns-in_default-clause-goes
returns-in_default-clause-goes c = c.ready.ensures.goes

pub returns-in_default-ready-clause-goes : goal.returns-in_default-ready-clause-goes
returns-in_default-ready-clause-goes c = goes-trans c.args.self.now c.ready.new.self c.ready-2.new.self c.ready.ensures.goes c.ready-2.ensures.goes

pub returns-in_default-ready-clause-state : goal.returns-in_default-ready-clause-state
returns-in_default-ready-clause-state c = c.ready-2.ensures.state ∙ c.ready.ensures.state

pub returns-clause-state : goal.returns-clause-state
returns-clause-state c = c.ready-2.ensures.state ∙ c.ready.ensures.state

pub ready-requires-2 : goal.ready-requires-2
ready-requires-2 c = below-goes c.args.self.now c.ready.new.self c.args.right c.ready.ensures.goes c.requires.right

pub returns-clause-one : goal.returns-clause-one
returns-clause-one c = λ e.
    let old = c.args.self.now in
    let mid = c.ready.new.self in
    let end = c.ready-2.new.self in
    let given = (parts c.recall_well_kept.ensures).given in
    let x = c.in-Some.left in
    let y = c.in-Some-ready.right in
    let same = sym c.number.ensures ∙ (eqb-true c.number.result c.number-2.result e ∙ c.number-2.ensures) in
    are-one (listing old) (state old) (tree_of old c.args.left) (tree_of old c.args.right) (arg_tree mid.context.trees x) (arg_tree end.context.trees y) c.in-Some.ensures.ready
    (ready-on old mid c.ready.ensures.goes given c.ready.ensures.state (tree_of old c.args.right) (tree_of mid c.args.right) (arg_tree end.context.trees y)
    (number-on old mid c.ready.ensures.goes given c.ready.ensures.state c.args.right c.requires.right) c.in-Some-ready.ensures.ready)
    (sym (arg-kept mid.context end.context x c.ready-2.ensures.goes.0 c.in-Some.ensures.sort).1 ∙ ap (tree_at end.context.trees) same)
