use Rattle.std.proofs.Common.{ap, arith, subst, sym, ◌∙◌}
use Rattle.ir_trees.specs.Declarations.Context.{Context}
use Rattle.ir_trees.specs.Syntax.Words.{IsArgs, args_forest}
use Rattle.candidate_eval.specs.Judges.States.{placeholders}
use Rattle.candidate_eval.specs.Interface.Evaluators.{kinds_listed}
use Rattle.candidate_rounds.specs.Evaluators.Known.{Evaluator}
use Rattle.candidate_rounds.proofs.Resolution.Leafing.{placeholders-are}
use Rattle.candidate_rounds.proofs.Evaluators.Going.{goes-refl, goes-trans}
use Rattle.candidate_rounds.proofs.Evaluators.Interface.{keeps-going, keeps-refl}
use Rattle.candidate_rounds.proofs.rounds.evaluator.RoundsEvalCtxt.placeholder_args.Goals as goal

pub returns-in_ok-enter-clause-trees : goal.returns-in_ok-enter-clause-trees
returns-in_ok-enter-clause-trees c =
    let k = ap (λ (e : Evaluator). e.inference.newest_universe) c.self.view_is in
    ap (λ (x : Context). args_forest x.trees c.in_ok-args.args) c.in_ok-enter.ensures.context
    ∙ (c.in_ok-args.ensures.trees
    ∙ (placeholders-are c.in_ok-universe.universe 0 c.args.kinds.now
    ∙ ap (λ u. placeholders u 0 (kinds_listed c.args.kinds.now)) (let u = c.in_ok-universe.ensures in omega (arith, u, k))))

pub returns-in_err-enter-clause-goes : goal.returns-in_err-enter-clause-goes
returns-in_err-enter-clause-goes c = goes-trans c.args.self.now c.make_leaves.new.self c.enter.new.self c.make_leaves.ensures.goes c.enter.ensures.goes

pub returns-in_ok-enter-clause-goes : goal.returns-in_ok-enter-clause-goes
returns-in_ok-enter-clause-goes c = goes-trans c.args.self.now c.make_leaves.new.self c.enter.new.self c.make_leaves.ensures.goes c.enter.ensures.goes

pub returns-in_ok-enter-clause-sort : goal.returns-in_ok-enter-clause-sort
returns-in_ok-enter-clause-sort c = subst (λ (x : Context). IsArgs x.trees c.in_ok-args.args) (sym c.in_ok-enter.ensures.context) c.in_ok-args.ensures.sort

pub returns-then-kinds-clause-goes : goal.returns-then-kinds-clause-goes
returns-then-kinds-clause-goes c = goes-refl c.args.self.now

pub returns-then-kinds-clause-kept : goal.returns-then-kinds-clause-kept
returns-then-kinds-clause-kept c = keeps-refl c.args.self.now

pub returns-in_err-universe-clause-kept : goal.returns-in_err-universe-clause-kept
returns-in_err-universe-clause-kept c = keeps-refl c.args.self.now

pub returns-in_err-args-clause-kept : goal.returns-in_err-args-clause-kept
returns-in_err-args-clause-kept c = keeps-going c.args.self.now c.make_leaves.new.self c.make_leaves.ensures.goes c.recall_well_kept.ensures

pub returns-in_err-enter-clause-kept : goal.returns-in_err-enter-clause-kept
returns-in_err-enter-clause-kept c = keeps-going c.args.self.now c.enter.new.self (goes-trans c.args.self.now c.make_leaves.new.self c.enter.new.self c.make_leaves.ensures.goes c.enter.ensures.goes) c.recall_well_kept.ensures

pub returns-in_ok-enter-clause-kept : goal.returns-in_ok-enter-clause-kept
returns-in_ok-enter-clause-kept c = keeps-going c.args.self.now c.enter.new.self (goes-trans c.args.self.now c.make_leaves.new.self c.enter.new.self c.make_leaves.ensures.goes c.enter.ensures.goes) c.recall_well_kept.ensures

pub returns-else-not-is_empty-clause-kept : goal.returns-else-not-is_empty-clause-kept
returns-else-not-is_empty-clause-kept c = keeps-going c.args.self.now c.make_leaves.new.self c.make_leaves.ensures.goes c.recall_well_kept.ensures
