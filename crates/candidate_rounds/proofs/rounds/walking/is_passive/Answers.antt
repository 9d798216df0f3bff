use Rattle.std.proofs.Common.{◌≡◌, false}
use Rattle.std.proofs.lemmas.Bool.{not-true}
use Rattle.ir_trees.specs.Syntax.Nodes.{tree_at}
use Rattle.ir_trees.specs.Syntax.Trees.{tree_holds}
use Rattle.candidate_rounds.specs.Calls.Walking.{is_active_at}
use Rattle.candidate_rounds.proofs.Equations.Passing.{passive-at}
use Rattle.ir_trees.proofs.Traversal.Noted.{each-of-none}
use Rattle.candidate_rounds.proofs.rounds.walking.is_passive.Goals as goal

pub number_holds-requires-clause-walked : goal.number_holds-requires-clause-walked
number_holds-requires-clause-walked c = each-of-none (λ n. tree_holds (is_active_at c.args.inference.now) (tree_at c.args.cx.now.trees n) ≡ false) c.new-walked.result c.new-walked.ensures

pub returns : goal.returns
returns c = λ e m. passive-at c.args.cx.now.trees m c.args.inference.now (tree_at c.args.cx.now.trees c.args.number) c.number_holds.result c.number_holds.ensures.is (not-true _ e)
