use Rattle.std.proofs.Common.{ap}
use Rattle.std.specs.Prelude.{◌-◌}
use Rattle.ir_trees.specs.Syntax.Trees.{Forest}
use Rattle.ir_trees.specs.Syntax.Words.{args_forest}
use Rattle.ir_trees.specs.Instantiation.Folding.{Answers}
use Rattle.ir_trees.specs.Instantiation.Opening.{opened_head}
use Rattle.ir_folds.proofs.Traversal.PureFolder.{args-extend}
use Rattle.ir_folds.proofs.Traversal.FoldStops.{subst-cause}
use Rattle.ir_folds.proofs.Instantiation.Opening.{opened-only}
use Rattle.ir_folds.proofs.decl.open.OpeningBelowPureFolder.recall_laws.Goals as goal

pub returns-clause-stays : goal.returns-clause-stays
returns-clause-stays g c = λ ts us e i. let k = args-extend ts us c.args.self.now.values e i in (k.0, ap (λ (f : Forest). let a : Answers = λ d t. opened_head f (d - 1) t.head in a) k.1)

pub returns-clause-only : goal.returns-clause-only
returns-clause-only g c = λ ts d t e. opened-only (args_forest ts c.args.self.now.values) (d - 1) t.head e

pub returns-clause-cause : goal.returns-clause-cause
returns-clause-cause g c = subst-cause
