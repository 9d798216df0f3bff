use Rattle.std.proofs.Common.{ap, ◌∙◌}
use Rattle.ir_trees.specs.Instantiation.Folding.{Answers}
use Rattle.ir_trees.specs.Instantiation.Folds.{arg_tree}
use Rattle.ir_trees.specs.Syntax.Kinds.{arg_kind, arg_number}
use Rattle.ir_trees.specs.Syntax.Trees.{Tree}
use Rattle.ir_trees.specs.Unification.Substitutions.{fits_sort}
use Rattle.ir_folds.proofs.Traversal.FoldStops.{subst-cause}
use Rattle.rounds_judge.specs.Equations.Binding.{single}
use Rattle.candidate_rounds.proofs.Resolution.Quiet.{single-unasked}
use Rattle.candidate_rounds.proofs.Snapshots.Knowing.{kind-stays, there-arg, tree-stays}
use Rattle.candidate_rounds.proofs.rounds.binding.AssigningPureFolderCx.recall_laws.Goals as goal

pub returns-clause-stays : goal.returns-clause-stays
returns-clause-stays c = λ ts us e i.
    let v = c.args.self.now.variable in
    let x = c.args.self.now.value in
    let t = tree-stays ts us (arg_number x) (arg_kind x) e (there-arg x) i.0 in (
      (kind-stays ts us (arg_number x) (arg_kind x) e (there-arg x) i.0, ap (λ (u : Tree). fits_sort v.sort u.head) t ∙ i.1),
      ap (λ (w : Tree). let f : Answers = λ d u. single v w u.head in f) t,
    )

pub returns-clause-only : goal.returns-clause-only
returns-clause-only c = λ ts d t e. single-unasked c.args.self.now.variable (arg_tree ts c.args.self.now.value) t.head e

pub returns-clause-cause : goal.returns-clause-cause
returns-clause-cause c = subst-cause
