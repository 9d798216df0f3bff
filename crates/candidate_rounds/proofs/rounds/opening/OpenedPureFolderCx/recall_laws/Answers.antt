use Rattle.std.proofs.Common.{Bool, None, ap, if◌then◌else◌}
use Rattle.ir_folds.proofs.Traversal.FoldStops.{subst-cause}
use Rattle.rounds_judge.specs.Aliases.Listed.{listed_in}
use Rattle.ir_trees.specs.Instantiation.Folds.{is_asked}
use Rattle.candidate_rounds.specs.Calls.Opening.{pairs_at}
use Rattle.candidate_rounds.proofs.Equations.OpenVariables.{paired-extend, pairs-extend}
use Rattle.candidate_rounds.proofs.rounds.opening.OpenedPureFolderCx.recall_laws.Goals as goal

pub returns-clause-stays : goal.returns-clause-stays
returns-clause-stays c = λ ts us e k.
    let xs = c.args.self.now.parts.items in
    let ys = c.args.self.now.variables.items in
    let p = pairs-extend ts us xs ys e k in
    (paired-extend ts us xs ys e k, λ i d t. if is_asked t.head then listed_in (p i) t else None)

pub returns-clause-only : goal.returns-clause-only
returns-clause-only c = λ ts d t e. ap (λ (b : Bool). if b then listed_in (pairs_at ts c.args.self.now.parts.items c.args.self.now.variables.items) t else None) e

pub returns-clause-cause : goal.returns-clause-cause
returns-clause-cause c = subst-cause
