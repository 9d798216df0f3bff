use Rattle.std.proofs.Common.{◌≡◌, ◌<◌, ◌-◌, ◌∙◌, Some, ap, arith, length, rules, subst, sym}
use Rattle.ir_trees.specs.Instantiation.Folding.{IsAnswerStop}
use Rattle.ir_trees.specs.Instantiation.Folds.{arg_tree}
use Rattle.ir_trees.specs.Syntax.Kinds.{arg_kind}
use Rattle.ir_trees.proofs.Syntax.Lists.{below_kind}
use Rattle.candidate_rounds.specs.Calls.Giving.{lift_of, lifted_as, placeholder_in}
use Rattle.candidate_rounds.proofs.Snapshots.Knowing.{there-arg}
use Rattle.candidate_rounds.proofs.Stops.ResponseStops.{passed-on}
use Rattle.candidate_rounds.proofs.Table.Naming.{lift-unmade, lifted-made}
use Rattle.candidate_rounds.proofs.rounds.giving.lifted.Goals as goal

pub head-requires : goal.head-requires
head-requires c = subst (λ n. n < length c.args.cx.now.trees) (sym c.number.ensures) (below_kind _ _ (arg_kind c.args.arg) (there-arg c.args.arg) c.requires)

pub returns-clause-kind : goal.returns-clause-kind
returns-clause-kind c =
    let a = c.args in
    let k = c.in-Some.kind in
    let p = c.in-Some.placeholder in
    let in_it : placeholder_in (arg_tree a.cx.now.trees a.arg).head ≡ Some (k, p) = search rules in
    let high : a.lift.above < p.universe = (let f = c.if-placeholder-lift.false in omega (arith, f)) in
    let newest = c.saturating_sub.ensures ∙ ap (λ n. a.lift.newest - n) c.saturating_sub-below.ensures in
    (lifted-made a.cx.now.trees c.leaf.new.cx.trees a.arg k p c.requires in_it (lift_of a.lift) high c.saturating_sub.result newest c.in_ok-leaf.field-0 c.in_ok-leaf.ensures.sort c.in_ok-leaf.ensures.tree).0

pub returns-in_err-leaf-clause-cause : goal.returns-in_err-leaf-clause-cause
returns-in_err-leaf-clause-cause c =
    let a = c.args in
    let k = c.in-Some.kind in
    let p = c.in-Some.placeholder in
    let in_it : placeholder_in (arg_tree a.cx.now.trees a.arg).head ≡ Some (k, p) = search rules in
    let high : a.lift.above < p.universe = (let f = c.if-placeholder-lift.false in omega (arith, f)) in
    let newest = c.saturating_sub.ensures ∙ ap (λ n. a.lift.newest - n) c.saturating_sub-below.ensures in
    passed-on (IsAnswerStop (length c.leaf.new.cx.trees) (lifted_as (lift_of a.lift) (placeholder_in (arg_tree a.cx.now.trees a.arg).head))) c.from_residual.result c.in_err-leaf.field-0.0 c.from_residual.ensures.1
    (lift-unmade a.cx.now.trees c.leaf.new.cx.trees a.arg k p c.requires in_it (lift_of a.lift) high c.saturating_sub.result newest (length c.leaf.new.cx.trees) c.in_err-leaf.field-0.0 c.in_err-leaf.ensures.cause)
