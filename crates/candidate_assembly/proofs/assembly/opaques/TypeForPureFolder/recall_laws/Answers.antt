use Rattle.ir_trees.specs.Syntax.Words.{ty_tree}
use Rattle.ir_folds.proofs.Traversal.FoldStops.{subst-cause}
use Rattle.candidate_assembly.proofs.Opaques.TypesFor.{types-extend, unasked-answer}
use Rattle.candidate_assembly.proofs.assembly.opaques.TypeForPureFolder.recall_laws.Goals as goal

pub returns-clause-stays : goal.returns-clause-stays
returns-clause-stays g c = λ ts us e i. let k = types-extend ts us c.args.self.now.old c.args.self.now.new e i in ((k.0, k.1), k.2)

pub returns-clause-only : goal.returns-clause-only
returns-clause-only g c = λ ts d t e. unasked-answer (ty_tree ts c.args.self.now.old) (ty_tree ts c.args.self.now.new) d t e

pub returns-clause-cause : goal.returns-clause-cause
returns-clause-cause g c = subst-cause
