use Rattle.std.proofs.Common.{List, ℕ, subst, sym}
use Rattle.ir_folds.specs.declared.decl.answering.Place.{Place}
use Rattle.ir_folds.specs.Instantiation.PureFolder.{AreFolds}
use Rattle.ir_folds.proofs.Traversal.PureFolder.{insert-fold, same-place}
use Rattle.ir_folds.proofs.decl.answering.Results.note.Goals as goal

pub returns-clause-noted : goal.returns-clause-noted
returns-clause-noted c = λ a ts h i.
    let P : List (Place × ℕ) → Type 0 = λ es. AreFolds a ts es in
    subst P (sym c.in_ok-insert.ensures.entries) (insert-fold a ts _ c.args.place c.args.number (same-place c.args.place) i c.args.self.now.numbers.entries h)
