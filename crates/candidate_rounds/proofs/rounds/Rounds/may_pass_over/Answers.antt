use Rattle.std.proofs.Common.{◌≡◌, false, sym, subst}
use Rattle.ir_trees.specs.Syntax.Trees.{holds}
use Rattle.rounds_judge.specs.Equations.Active.{is_active}
use Rattle.candidate_rounds.specs.Evaluators.Known.{Evaluator, state, tree_of}
use Rattle.candidate_rounds.proofs.rounds.Rounds.may_pass_over.Goals as goal

pub returns-then-frame-eq0 : goal.returns-then-frame-eq0
returns-then-frame-eq0 c = λ e. (
  sym c.if-frame.true,
  c.if-frame-eq0.true,
  subst (λ (r : Evaluator). holds (is_active (state r)) (tree_of r c.args.frame.left).children ≡ false) c.self.view_is (c.is_passive.ensures e c.self.inside.mode),
)
