use Rattle.std.proofs.Common.{◌≡◌, ◌++◌, rules, subst, sym}
use Rattle.ir_trees.specs.Declarations.Context.{Context}
use Rattle.candidate_rounds.specs.Evaluators.Known.{Each}
use Rattle.candidate_rounds.proofs.Table.Rounding.{each-join}
use Rattle.overlaps.specs.Together.{IsObligation}
use Rattle.overlaps.proofs.together.leave_pending.Goals as goal

pub returns-clause-fit : goal.returns-clause-fit
returns-clause-fit c =
    let now = c.take_pending.new.self.context in
    let P = IsObligation now.trees in
    let before = subst (λ (x : Context). Each (IsObligation x.trees) c.args.left.now.items) (sym c.take_pending.ensures.context) c.requires.fit in
    let xs = c.args.left.now.items in
    let ys = c.in_ok-goals.goals.items in
    let items : c.extend_from_slice.new.self.items ≡ xs ++ ys = search rules in
    subst (Each P) (sym items) (each-join P xs ys before c.in_ok-goals.ensures.fit)
