use Rattle.std.proofs.Common.{ℕ, Option, subst, sym, ◌∙◌}
use Rattle.std.specs.Prelude.{IfSome}
use Rattle.ir_folds.specs.Instantiation.PureFolder.{IsFoldOf}
use Rattle.ir_folds.proofs.Traversal.PureFolder.{lookup-fold, same-place}
use Rattle.ir_folds.proofs.decl.answering.Results.of.Goals as goal

pub returns : goal.returns
returns c = λ a ts h.
    let P : Option ℕ → Type 0 = λ o. IfSome o (IsFoldOf a ts c.args.place) in
    subst P (sym (c.copied.ensures ∙ c.get.ensures.value)) (lookup-fold a ts _ c.args.place (same-place c.args.place) c.args.self.now.numbers.entries h)
