use Rattle.std.proofs.Common.{rules, ◌≡◌, Some, None, refl, sym, ◌∙◌, ap, subst, arith}
use Rattle.std.proofs.lemmas.Result.{err_from_is_err_and}
use Rattle.ir_folds.specs.declared.decl.answering.Results.{Results}
use Rattle.ir_trees.specs.Syntax.Kinds.{arg_number}
use Rattle.ir_trees.specs.Syntax.Nodes.{is_bound_kind}
use Rattle.ir_folds.specs.Instantiation.PureFolder.{AreFolds}
use Rattle.ir_trees.specs.Instantiation.Folding.{Answers}
use Rattle.ir_trees.proofs.Growth.Kept.{number-kept}
use Rattle.ir_trees.proofs.Traversal.Asking.{arg-below, arg-bound}
use Rattle.ir_folds.proofs.Traversal.FoldLaws.{reached-keeps}
use Rattle.ir_folds.proofs.Traversal.FoldSteps.{extends-length}
use Rattle.ir_folds.proofs.Traversal.PureFolder.{folds-grown, number-noted, number-unnoted, number-fold, part-answered, part-refused, part-folded, part-stopped, noting-folds, noting-reached, number-keeps}
use Rattle.ir_folds.proofs.decl.answering.+answering.Goals as goal

pub fold_noted-returns-in-Some : goal.fold_noted-returns-in-Some
fold_noted-returns-in-Some g t c =
    let ts = (g.M.Build.context c.args.make.now).trees in
    let number = number-noted g.M.Build.context g.M.Build.rest (g.A.PureFolder.answers c.args.answering.now ts) (g.A.PureFolder.causes c.args.answering.now) c.args.make.now
    (record { number = c.args.number; binders = c.args.binders }) c.in-Some.made (c.in-Some.ensures (g.A.PureFolder.answers c.args.answering.now ts) ts c.requires.noted) in
    record { number = number; noted = c.requires.noted }

pub fold_noted-fold_number-requires-clause-callable : goal.fold_noted-fold_number-requires-clause-callable
fold_noted-fold_number-requires-clause-callable g t c = record {
  at = λ s x d lent e l grown i n b.
      let held = reached-keeps g.M.Build.context g.M.Build.rest _ (λ z. z.3.now ≡ c.args.number) (λ s x d r e n p. let k = n.called in let q = n.lends in let v = n.leaves in search rules) _ s l refl in
      let k = noting-reached g.M.Build.context g.M.Build.rest _ g.A.PureFolder.answers g.A.PureFolder.is_of g.A.PureFolder.causes (λ z. z.1.now) (λ z. z.2.now.numbers.entries) c.args.answering.now
      c.recall_laws.ensures.stays c.recall_laws.ensures.only c.recall_laws.ensures.cause
      (λ s y d r u n. let k = n.called in let l = n.lends in let v = n.leaves in record { same = search rules; part = search rules })
      _ c.requires.of refl c.requires.noted s l in
      let us = (g.M.Build.context s.1).trees in
      let st = c.recall_laws.ensures.stays _ us k.grows.kept c.requires.of in
      let of : g.A.PureFolder.is_of s.0.1.now us = subst (λ y. g.A.PureFolder.is_of y us) (sym k.same) st.0 in
      let notes : AreFolds (g.A.PureFolder.answers s.0.1.now us) us s.0.2.now.numbers.entries =
      subst (λ y. AreFolds (g.A.PureFolder.answers y us) us s.0.2.now.numbers.entries) (sym k.same) (subst (λ f. AreFolds f us s.0.2.now.numbers.entries) (sym st.1) k.noted) in
      rw e (omega (arith, held), ((λ a h. h), ((λ a h. h), (of, (i, notes)))));
}

pub fold_noted-fold_number-requires-clause-keeps : goal.fold_noted-fold_number-requires-clause-keeps
fold_noted-fold_number-requires-clause-keeps g t c = record {
  at = λ s x d r e l grown i n b p. let k = p.called in let q = p.lends in let v = p.leaves in search rules;
}

pub fold_noted-returns-in_err-made : goal.fold_noted-returns-in_err-made
fold_noted-returns-in_err-made g t c =
    let folded = (noting-folds g.M.Build.context g.M.Build.rest _ g.A.PureFolder.answers g.A.PureFolder.is_of g.A.PureFolder.causes (λ z. z.1.now) (λ z. z.2.now.numbers.entries) c.args.answering.now
    c.recall_laws.ensures.stays c.recall_laws.ensures.only c.recall_laws.ensures.cause
    (λ s y d r u n. let k = n.called in let l = n.lends in let v = n.leaves in record { same = search rules; part = search rules })
    _ c.requires.of refl c.requires.noted _ c.args.binders c.args.number _ c.requires.inside c.in_err-made.ensures) in
    let name = number-keeps g.M.Build.context g.M.Build.rest _ (λ z. z.2.ghost_name) (λ t x d r u n. let k = n.called in let l = n.lends in let v = n.leaves in search rules) _ _ c.args.binders c.args.number _ c.in_err-made.ensures in
    let same = c.results-1.given.1 (sym name) in
    let ts = (g.M.Build.context c.args.make.now).trees in
    let P : Results → Type 0 = λ m. AreFolds (g.A.PureFolder.answers c.args.answering.now ts) (g.M.Build.context c.fold_number.new.make).trees m.numbers.entries in
    let p = err_from_is_err_and c.from_residual.result c.from_residual.ensures.1 in
    rw (p.1, p.2) (record { number = folded.0; noted = subst P (sym same) folded.1 })

pub fold_noted-returns-in_err-note : goal.fold_noted-returns-in_err-note
fold_noted-returns-in_err-note g t c =
    let folded = noting-folds g.M.Build.context g.M.Build.rest _ g.A.PureFolder.answers g.A.PureFolder.is_of g.A.PureFolder.causes (λ z. z.1.now) (λ z. z.2.now.numbers.entries) c.args.answering.now
    c.recall_laws.ensures.stays c.recall_laws.ensures.only c.recall_laws.ensures.cause
    (λ s y d r u n. let k = n.called in let l = n.lends in let v = n.leaves in record { same = search rules; part = search rules })
    _ c.requires.of refl c.requires.noted _ c.args.binders c.args.number _ c.requires.inside c.in_ok-made.ensures in
    let ts = (g.M.Build.context c.args.make.now).trees in
    let a = g.A.PureFolder.answers c.args.answering.now ts in
    let is = number-fold g.M.Build.context g.M.Build.rest a (g.A.PureFolder.causes c.args.answering.now) c.args.make.now c.fold_number.new.make (record { number = c.args.number; binders = c.args.binders }) c.in_ok-made.made c.requires.inside folded.0 in
    let name = number-keeps g.M.Build.context g.M.Build.rest _ (λ z. z.2.ghost_name) (λ t x d r u n. let k = n.called in let l = n.lends in let v = n.leaves in search rules) _ _ c.args.binders c.args.number _ c.in_ok-made.ensures in
    let same = c.results-1.given.1 (sym name) in
    let P : Results → Type 0 = λ m. AreFolds a (g.M.Build.context c.fold_number.new.make).trees m.numbers.entries in
    let p = err_from_is_err_and c.from_residual-in_err-note.result c.from_residual-in_err-note.ensures.1 in
    let unnoted = number-unnoted g.M.Build.context g.M.Build.rest a (g.A.PureFolder.causes c.args.answering.now) _ _ c.args.binders c.args.number c.in_ok-made.made _ c.recall_laws.ensures.cause folded.0 c.in_err-note.ensures.cause in
    rw (p.1, p.2) (record { number = unnoted; noted = c.note.ensures.noted a (g.M.Build.context c.fold_number.new.make).trees (subst P (sym same) folded.1) is })

pub fold_noted-returns : goal.fold_noted-returns
fold_noted-returns g t c =
    let folded = noting-folds g.M.Build.context g.M.Build.rest _ g.A.PureFolder.answers g.A.PureFolder.is_of g.A.PureFolder.causes (λ z. z.1.now) (λ z. z.2.now.numbers.entries) c.args.answering.now
    c.recall_laws.ensures.stays c.recall_laws.ensures.only c.recall_laws.ensures.cause
    (λ s y d r u n. let k = n.called in let l = n.lends in let v = n.leaves in record { same = search rules; part = search rules })
    _ c.requires.of refl c.requires.noted _ c.args.binders c.args.number _ c.requires.inside c.in_ok-made.ensures in
    let ts = (g.M.Build.context c.args.make.now).trees in
    let a = g.A.PureFolder.answers c.args.answering.now ts in
    let is = number-fold g.M.Build.context g.M.Build.rest a (g.A.PureFolder.causes c.args.answering.now) c.args.make.now c.fold_number.new.make (record { number = c.args.number; binders = c.args.binders }) c.in_ok-made.made c.requires.inside folded.0 in
    let name = number-keeps g.M.Build.context g.M.Build.rest _ (λ z. z.2.ghost_name) (λ t x d r u n. let k = n.called in let l = n.lends in let v = n.leaves in search rules) _ _ c.args.binders c.args.number _ c.in_ok-made.ensures in
    let same = c.results-1.given.1 (sym name) in
    let P : Results → Type 0 = λ m. AreFolds a (g.M.Build.context c.fold_number.new.make).trees m.numbers.entries in
    record { number = folded.0; noted = c.note.ensures.noted a (g.M.Build.context c.fold_number.new.make).trees (subst P (sym same) folded.1) is }

pub fold_part-marks-requires : goal.fold_part-marks-requires
fold_part-marks-requires g t c = rw (c.number-number.ensures, c.cx.ensures) (arg-below (g.M.Build.context c.args.make.now).trees c.args.arg c.requires.arg)

pub fold_part-returns-in_err-answer : goal.fold_part-returns-in_err-answer
fold_part-returns-in_err-answer g t c =
    let ts = (g.M.Build.context c.args.make.now).trees in
    let x = c.args.answering.now in
    let p = err_from_is_err_and c.from_residual.result c.from_residual.ensures.1 in
    let said = c.in_err-answer.ensures in
    rw (p.1, p.2)
    (part-refused g.M.Build.context g.M.Build.rest (g.A.PureFolder.answers x ts) (g.A.PureFolder.causes x) c.args.make.now _ c.args.arg c.args.binders _ c.args.results.now.numbers.entries said.grows said.rest said.cause c.requires.noted)

pub fold_part-returns-in-Some : goal.fold_part-returns-in-Some
fold_part-returns-in-Some g t c =
    let ts = (g.M.Build.context c.args.make.now).trees in
    let x = c.args.answering.now in
    let said = rw c.in-Some.is at c.in_ok-answer.ensures in
    part-answered g.M.Build.context g.M.Build.rest (g.A.PureFolder.answers x ts) (g.A.PureFolder.causes x) c.args.make.now _ c.args.arg c.args.binders (Some c.in-Some.answer) c.args.results.now.numbers.entries
    said.grows said.rest said.kind said.answer c.requires.noted

pub fold_part-returns-then-number-whole : goal.fold_part-returns-then-number-whole
fold_part-returns-then-number-whole g t c =
    let ts = (g.M.Build.context c.args.make.now).trees in
    let x = c.args.answering.now in
    let said = rw c.in_default.is at c.in_ok-answer.ensures in
    part-answered g.M.Build.context g.M.Build.rest (g.A.PureFolder.answers x ts) (g.A.PureFolder.causes x) c.args.make.now _ c.args.arg c.args.binders None c.args.results.now.numbers.entries
    said.grows said.rest said.kind said.answer c.requires.noted

pub fold_part-fold_noted-requires : goal.fold_part-fold_noted-requires
fold_part-fold_noted-requires g t c κs within =
    let ts = (g.M.Build.context c.args.make.now).trees in
    let us = (g.M.Build.context c.answer.new.make).trees in
    let grown = c.in_ok-answer.ensures.grows in
    let below = arg-below ts c.args.arg c.requires.arg in
    let longer = extends-length ts us grown.kept in
    let kept = number-kept ts us (arg_number c.args.arg) grown.kept below in
    let st = c.recall_laws.ensures.stays ts us grown.kept c.requires.of in
    let notes = folds-grown (g.A.PureFolder.answers c.args.answering.now ts) ts us c.args.results.now.numbers.entries grown.kept c.requires.noted in
    let P : Answers → Type 0 = λ f. AreFolds f us c.args.results.now.numbers.entries in (
      omega (arith, c.if-number-whole.false),
      (
        within.0,
        (
          within.1,
          (
            st.0,
            (
              rw c.number-number.ensures (omega (arith, below, longer)),
              (
                rw c.number-number.ensures (ap is_bound_kind kept.0 ∙ arg-bound ts c.args.arg c.requires.arg),
                (omega (arith, c.if-number-binders.false), subst P (sym st.1) notes),
              ),
            ),
          ),
        ),
      ),
    )

pub fold_part-returns-in_err-made : goal.fold_part-returns-in_err-made
fold_part-returns-in_err-made g t c =
    let ts = (g.M.Build.context c.args.make.now).trees in
    let x = c.args.answering.now in
    let said = rw c.in_default.is at c.in_ok-answer.ensures in
    let p = err_from_is_err_and c.from_residual-in_err-made.result c.from_residual-in_err-made.ensures.1 in
    rw (p.1, p.2)
    (part-stopped g.M.Build.context g.M.Build.rest (g.A.PureFolder.answers x ts) (g.A.PureFolder.causes x) _ c.args.make.now _ _ c.args.arg c.args.binders c.number-number.result _
    (c.recall_laws.ensures.stays ts _ said.grows.kept c.requires.of).1 said.grows said.rest c.requires.arg c.number-number.ensures c.fold_noted.ensures.noted _ c.in_err-made.ensures.number)

pub fold_part-returns : goal.fold_part-returns
fold_part-returns g t c =
    let ts = (g.M.Build.context c.args.make.now).trees in
    let x = c.args.answering.now in
    let said = rw c.in_default.is at c.in_ok-answer.ensures in
    part-folded g.M.Build.context g.M.Build.rest (g.A.PureFolder.answers x ts) (g.A.PureFolder.causes x) _ c.args.make.now _ _ c.args.arg c.args.binders c.number-number.result _
    (c.recall_laws.ensures.stays ts _ said.grows.kept c.requires.of).1 said.grows said.rest c.requires.arg c.number-number.ensures c.fold_noted.ensures.noted
    c.with_number.result c.in_ok-made.made c.with_number.ensures.number c.with_number.ensures.kind c.in_ok-made.ensures.number
