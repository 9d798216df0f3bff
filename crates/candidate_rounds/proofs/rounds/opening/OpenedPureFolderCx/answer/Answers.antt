use Rattle.std.proofs.Common.{Bool, None, ap, sym, ◌∙◌, if◌then◌else◌}
use Rattle.ir_trees.specs.Instantiation.Folds.{arg_tree}
use Rattle.rounds_judge.specs.Aliases.Listed.{listed_in}
use Rattle.candidate_rounds.specs.Calls.Opening.{pairs_at}
use Rattle.candidate_rounds.proofs.Equations.OpenVariables.{arg-asked}
use Rattle.candidate_rounds.proofs.rounds.opening.OpenedPureFolderCx.answer.Goals as goal

pub returns-clause-answer : goal.returns-clause-answer
returns-clause-answer c =
    let ts = c.args.make.now.trees in
    let t = arg_tree ts c.args.arg in
    let xs = c.as_slice.ensures.value in
    let ys = c.as_slice-2.ensures.value in
    c.variable_for.ensures.is
    ∙ ((λ i. listed_in (pairs_at ts (xs i) (ys i)) t)
    ∙ sym (ap (λ (b : Bool). if b then listed_in (pairs_at ts c.args.self.now.parts.items c.args.self.now.variables.items) t else None) (arg-asked ts c.args.arg c.requires.arg)))
