use Rattle.std.proofs.Common.{◌≡◌, ℕ, ◌<◌, ◌≤◌, ◌+◌, length, slice_index_or, refl, sym, ◌∙◌, ap, subst, arith}
use Rattle.std.specs.Prelude.{map}
use Rattle.std.proofs.lemmas.List.{get_or_default}
use Rattle.std.proofs.lemmas.Result.{err_from_is_err_and}
use Rattle.ir_trees.specs.declared.ir.kinds.Pred.{Pred}
use Rattle.ir_trees.specs.declared.ir.node.Node.{Node}
use Rattle.ir_trees.specs.declared.ir.node.Node.TheVariants as N
use Rattle.ir_trees.specs.Declarations.Context.{Context}
use Rattle.ir_trees.specs.Syntax.Kinds.{numbers, sorts}
use Rattle.ir_trees.specs.Syntax.Nodes.{tree_at, children_of, kinds_at, pred_child, Fits}
use Rattle.ir_trees.specs.Declarations.References.{IsWellFormed}
use Rattle.ir_trees.specs.Syntax.Table.{Below}
use Rattle.ir_trees.specs.Syntax.Trees.{PredicateKind, binders_of}
use Rattle.ir_trees.specs.Syntax.Words.{PredFits, pred_kind_tree, bounds_forest}
use Rattle.ir_trees.proofs.Growth.Kept.{grows-trans, number-kept}
use Rattle.ir_trees.proofs.Syntax.Lists.{Fits-below, Below-there, there-preds}
use Rattle.ir_trees.proofs.Syntax.Children.{Below-get, length-numbers, length_preds, pred_at}
use Rattle.ir_trees.proofs.Growth.Made.{IsPred-listed, kind_at-grows}
use Rattle.ir_folds.proofs.Traversal.FoldSteps.{children-begin, children-next, relisted, relisted-stop, relisted-memory, renumbers-at, reached-then, folds-reached, may-later, keeps-later, unchanged-makes, extends-length}
use Rattle.ir_folds.proofs.Traversal.FoldBounds.{bounds-begin, bounds-next, bounds-stop, bounds-made, bounds-unmade, one-principal, outcome-memory}
use Rattle.ir_folds.proofs.Traversal.FoldNodes.{no-bound-at, no-bound-pred, no-bound, is-rebuilt, same-count, said-nothing, said-reached, number-unchanged, number-refused, number-answered, number-memory, number-leaf, number-variables, number-bounds, number-bound, number-stopped, number-again, number-takes, copy-fits, copy-below, copy-principal}
use Rattle.ir_folds.proofs.decl.fold.+fold.Goals as goal

pub fold_children-loop-i-init : goal.fold_children-loop-i-init
fold_children-loop-i-init g t c = rw c.new-children.ensures.items (children-begin g.M.Build.context g.M.Build.rest g.F.FnMut _ _ _)

pub fold_children-fold_number-requires : goal.fold_children-fold_number-requires
fold_children-fold_number-requires g t c κs within =
    let ks = numbers (children_of c.args.node.now) in
    let so = c.loop-i.invariant in
    let old = (g.M.Build.context c.args.make.now).trees in
    let now = (g.M.Build.context c.loop-i.make).trees in
    let small : c.child.result < c.args.number = Below-get c.args.number ks c.loop-i.i c.child.result c.requires.below c.child.ensures in
    let inside : c.child.result < length old = Below-get _ ks c.loop-i.i c.child.result (Fits-below _ c.args.node.now c.requires.fits) c.child.ensures in
    let longer = extends-length old now so.grows.kept in
    let there : c.child.result < length now = omega (arith, inside, longer) in
    let kind = number-kept old now c.child.result so.grows.kept inside in
    let plain = no-bound-at old ks (sorts (children_of c.args.node.now)) c.loop-i.i c.child.result c.requires.fits c.requires.no_bound c.child.ensures in
    let reached = folds-reached g.M.Build.context g.M.Build.rest g.F.FnMut so.folded in (
      omega arith,
      (
        within.0,
        (
          within.1,
          (
            there,
            (
              rw kind.0 plain,
              (
                omega (arith, small, c.requires.room, c.binders-more.ensures.most),
                (
                  may-later g.M.Build.context g.M.Build.rest g.F.FnMut _ _ reached so.grows c.requires.callable,
                  keeps-later g.M.Build.context g.M.Build.rest g.F.FnMut _ _ reached so.grows c.requires.keeps,
                ),
              ),
            ),
          ),
        ),
      ),
    )

pub fold_children-returns-in_err-child : goal.fold_children-returns-in_err-child
fold_children-returns-in_err-child g t c =
    let p = err_from_is_err_and c.from_residual.result c.from_residual.ensures.1 in
    rw (p.1, p.2)
    (relisted-stop g.M.Build.context g.M.Build.rest g.F.FnMut _ _ _ _ _ (children_of c.args.node.now) c.loop-i.children.items c.loop-i.i c.child.result _
    (Fits-below _ c.args.node.now c.requires.fits) c.loop-i.invariant c.child.ensures (renumbers-at g.M.Build.context g.M.Build.rest g.F.FnMut _ _ _ _ _ _ (ap (λ (x : ℕ). c.args.binders + x) (c.binders-more.ensures.is ∙ ap binders_of c.head.ensures)) c.in_err-child.ensures))

pub fold_children-returns-in_err-push : goal.fold_children-returns-in_err-push
fold_children-returns-in_err-push g t c =
    let p = err_from_is_err_and c.from_residual-in_err-push.result c.from_residual-in_err-push.ensures.1 in
    rw (p.1, p.2)
    (relisted-memory g.M.Build.context g.M.Build.rest g.F.FnMut _ _ _ _ (children_of c.args.node.now) (grows-trans _ _ _ c.loop-i.invariant.grows c.in_ok-child.ensures.grows)
    (reached-then g.M.Build.context g.M.Build.rest g.F.FnMut (folds-reached g.M.Build.context g.M.Build.rest g.F.FnMut c.loop-i.invariant.folded) (folds-reached g.M.Build.context g.M.Build.rest g.F.FnMut c.in_ok-child.ensures.folded)))

pub fold_children-loop-i-preserved : goal.fold_children-loop-i-preserved
fold_children-loop-i-preserved g t c =
    children-next g.M.Build.context g.M.Build.rest g.F.FnMut _ _ _ _ (numbers (children_of c.args.node.now)) c.loop-i.children.items _ c.loop-i.i c.child.result c.in_ok-child.child
    (Fits-below _ c.args.node.now c.requires.fits) c.loop-i.invariant c.child.ensures (renumbers-at g.M.Build.context g.M.Build.rest g.F.FnMut _ _ _ _ _ _ (ap (λ (x : ℕ). c.args.binders + x) (c.binders-more.ensures.is ∙ ap binders_of c.head.ensures)) c.in_ok-child.ensures) c.in_ok-push.ensures.items

pub fold_children-returns : goal.fold_children-returns
fold_children-returns g t c =
    let len = length-numbers (children_of c.args.node.now) in
    let most : length (numbers (children_of c.args.node.now)) ≤ c.loop-i.i = omega (arith, len, c.child_count-i-end.ensures, c.loop-i-test.false) in
    relisted g.M.Build.context g.M.Build.rest g.F.FnMut _ _ _ _ (children_of c.args.node.now) c.loop-i.children c.loop-i.i c.requires.fits c.loop-i.invariant most

pub fold_bounds-loop-i-init : goal.fold_bounds-loop-i-init
fold_bounds-loop-i-init g t c =
    rw c.new-bounds.ensures.items (bounds-begin g.M.Build.context g.M.Build.rest g.F.FnMut _ _ _)

pub fold_bounds-pred-bound-requires : goal.fold_bounds-pred-bound-requires
fold_bounds-pred-bound-requires g t c =
    let past : Pred = record { 0 = 0 } in
    let was = IsPred-listed _ c.args.list.now c.loop-i.i past (omega arith) c.requires.fits in
    let now = kind_at-grows _ _ (slice_index_or c.args.list.now c.loop-i.i past).0 PredicateKind c.loop-i.invariant.grows refl was in
    rw c.cx-in-loop-i.ensures now

pub fold_bounds-fold_children-requires : goal.fold_bounds-fold_children-requires
fold_bounds-fold_children-requires g t c κs within =
    let past : Pred = record { 0 = 0 } in
    let ks = numbers (map pred_child c.args.list.now) in
    let pred = slice_index_or c.args.list.now c.loop-i.i past in
    let at = pred_at c.args.list.now c.loop-i.i pred c.loop-i-test.true (get_or_default c.args.list.now c.loop-i.i past pred c.loop-i-test.true) in
    let inside = Below-get _ ks c.loop-i.i pred.0 (Below-there _ ks _ c.requires.fits (there-preds c.args.list.now)) at in
    let so = c.loop-i.invariant in
    let FitsIn : Context → Type 0 = λ x. PredFits x.trees c.pred-bound.result in
    let StandsIn : Context → Type 0 = λ x. pred_kind_tree x.trees c.pred-bound.result ≡ tree_at x.trees pred.0 in
    let fits : FitsIn (g.M.Build.context c.loop-i.make) = subst FitsIn c.cx-in-loop-i.ensures c.pred-bound.ensures.fits in
    let stands : StandsIn (g.M.Build.context c.loop-i.make) = subst StandsIn c.cx-in-loop-i.ensures c.pred-bound.ensures.tree in
    let small : pred.0 < c.args.number = Below-get c.args.number ks c.loop-i.i pred.0 c.requires.below at in
    let reached = folds-reached g.M.Build.context g.M.Build.rest g.F.FnMut so.folded in (
      omega (arith, small),
      (
        within.0,
        (
          within.1,
          (
            fits,
            (
              c.pred-bound.ensures.below,
              (
                no-bound-pred c.pred-bound.result.value c.pred-bound.result refl,
                (
                  omega (arith, small, c.requires.room),
                  (may-later g.M.Build.context g.M.Build.rest g.F.FnMut _ _ reached so.grows c.requires.callable, keeps-later g.M.Build.context g.M.Build.rest g.F.FnMut _ _ reached so.grows c.requires.keeps),
                ),
              ),
            ),
          ),
        ),
      ),
    )

pub fold_bounds-returns-in_err-children-clause-outcome : goal.fold_bounds-returns-in_err-children-clause-outcome
fold_bounds-returns-in_err-children-clause-outcome g t c =
    let past : Pred = record { 0 = 0 } in
    let ks = numbers (map pred_child c.args.list.now) in
    let pred = slice_index_or c.args.list.now c.loop-i.i past in
    let at = pred_at c.args.list.now c.loop-i.i pred c.loop-i-test.true (get_or_default c.args.list.now c.loop-i.i past pred c.loop-i-test.true) in
    let inside = Below-get _ ks c.loop-i.i pred.0 (Below-there _ ks _ c.requires.fits (there-preds c.args.list.now)) at in
    let so = c.loop-i.invariant in
    let FitsIn : Context → Type 0 = λ x. PredFits x.trees c.pred-bound.result in
    let StandsIn : Context → Type 0 = λ x. pred_kind_tree x.trees c.pred-bound.result ≡ tree_at x.trees pred.0 in
    let fits : FitsIn (g.M.Build.context c.loop-i.make) = subst FitsIn c.cx-in-loop-i.ensures c.pred-bound.ensures.fits in
    let stands : StandsIn (g.M.Build.context c.loop-i.make) = subst StandsIn c.cx-in-loop-i.ensures c.pred-bound.ensures.tree in
    let p = err_from_is_err_and c.from_residual.result c.from_residual.ensures.1 in
    rw (p.1, p.2) (bounds-stop g.M.Build.context g.M.Build.rest g.F.FnMut _ _ _ c.args.binders ks c.loop-i.bounds.items c.loop-i.i pred.0 c.pred-bound.result inside so at stands _ _ _ c.in_err-children.ensures)

pub fold_bounds-returns-in_err-push-clause-outcome : goal.fold_bounds-returns-in_err-push-clause-outcome
fold_bounds-returns-in_err-push-clause-outcome g t c =
    let p = err_from_is_err_and c.from_residual-in_err-push.result c.from_residual-in_err-push.ensures.1 in
    rw (p.1, p.2) (outcome-memory g.M.Build.context g.M.Build.rest g.F.FnMut _ _ _ c.args.binders _ (grows-trans _ _ _ c.loop-i.invariant.grows c.in_ok-children.ensures.grows)
    (reached-then g.M.Build.context g.M.Build.rest g.F.FnMut (folds-reached g.M.Build.context g.M.Build.rest g.F.FnMut c.loop-i.invariant.folded) (folds-reached g.M.Build.context g.M.Build.rest g.F.FnMut c.in_ok-children.ensures.folded)))

pub fold_bounds-loop-i-preserved : goal.fold_bounds-loop-i-preserved
fold_bounds-loop-i-preserved g t c =
    let well : IsWellFormed (g.M.Build.context c.loop-i.make) = subst IsWellFormed c.cx.ensures c.recall_well_formed.ensures in
    let past : Pred = record { 0 = 0 } in
    let ks = numbers (map pred_child c.args.list.now) in
    let pred = slice_index_or c.args.list.now c.loop-i.i past in
    let at = pred_at c.args.list.now c.loop-i.i pred c.loop-i-test.true (get_or_default c.args.list.now c.loop-i.i past pred c.loop-i-test.true) in
    let inside = Below-get _ ks c.loop-i.i pred.0 (Below-there _ ks _ c.requires.fits (there-preds c.args.list.now)) at in
    let so = c.loop-i.invariant in
    let FitsIn : Context → Type 0 = λ x. PredFits x.trees c.pred-bound.result in
    let StandsIn : Context → Type 0 = λ x. pred_kind_tree x.trees c.pred-bound.result ≡ tree_at x.trees pred.0 in
    let fits : FitsIn (g.M.Build.context c.loop-i.make) = subst FitsIn c.cx-in-loop-i.ensures c.pred-bound.ensures.fits in
    let stands : StandsIn (g.M.Build.context c.loop-i.make) = subst StandsIn c.cx-in-loop-i.ensures c.pred-bound.ensures.tree in
    bounds-next g.M.Build.context g.M.Build.rest g.F.FnMut _ _ _ c.args.binders ks c.loop-i.bounds.items c.loop-i.i pred.0 c.pred-bound.result inside so at stands well _ c.in_ok-children.children c.with_children.result _ c.in_ok-children.ensures c.with_children.ensures.head
    (c.with_children.ensures.numbers ∙ c.as_slice.ensures.value) c.with_children.ensures.sorts c.in_ok-push.ensures.items

pub fold_bounds-mk_preds-requires : goal.fold_bounds-mk_preds-requires
fold_bounds-mk_preds-requires g t c =
    let ks = numbers (map pred_child c.args.list.now) in
    let so = c.loop-i.invariant in
    let long = length-numbers (map pred_child c.args.list.now) in
    let len = length_preds c.args.list.now in
    let most : length ks ≤ c.loop-i.i = omega (arith, long, len, c.loop-i-test.false) in
    record {
      fit = rw c.as_slice-2.ensures.value so.fit;
      take = λ _. rw c.as_slice-2.ensures.value so.takes;
      principal = rw c.as_slice-2.ensures.value (one-principal g.M.Build.context g.M.Build.rest g.F.FnMut _ _ _ c.args.binders ks c.loop-i.bounds.items c.loop-i.i so most (unchanged-makes g.M.Build.context g.M.Build.rest g.F.FnMut _) c.requires.principal);
    }

pub fold_bounds-returns-in_err-mk_preds-clause-outcome : goal.fold_bounds-returns-in_err-mk_preds-clause-outcome
fold_bounds-returns-in_err-mk_preds-clause-outcome g t c =
    let ks = numbers (map pred_child c.args.list.now) in
    let so = c.loop-i.invariant in
    let long = length-numbers (map pred_child c.args.list.now) in
    let len = length_preds c.args.list.now in
    let most : length ks ≤ c.loop-i.i = omega (arith, long, len, c.loop-i-test.false) in
    let p = err_from_is_err_and c.from_residual-in_err-mk_preds.result c.from_residual-in_err-mk_preds.ensures.1 in
    rw (p.1, p.2)
    (bounds-unmade g.M.Build.context g.M.Build.rest g.F.FnMut _ _ _ c.args.binders ks c.loop-i.bounds.items c.loop-i.i so most (record { same = refl; grows = c.in_err-mk_preds.ensures.made.kept; rest = c.in_err-mk_preds.ensures.rest }) _ _
    c.in_err-mk_preds.ensures.made.unchanged (rw c.as_slice-2.ensures.value at c.in_err-mk_preds.ensures.made.cause))

pub fold_bounds-returns-clause-outcome : goal.fold_bounds-returns-clause-outcome
fold_bounds-returns-clause-outcome g t c =
    let ks = numbers (map pred_child c.args.list.now) in
    let so = c.loop-i.invariant in
    let long = length-numbers (map pred_child c.args.list.now) in
    let len = length_preds c.args.list.now in
    let most : length ks ≤ c.loop-i.i = omega (arith, long, len, c.loop-i-test.false) in
    bounds-made g.M.Build.context g.M.Build.rest g.F.FnMut _ _ _ c.args.binders ks c.loop-i.bounds.items c.loop-i.i so most (record { same = refl; grows = c.in_ok-mk_preds.ensures.made.kept; rest = c.in_ok-mk_preds.ensures.rest }) c.in_ok-mk_preds.field-0.0
    (c.in_ok-mk_preds.ensures.made.tree ∙ ap (bounds_forest _) c.as_slice-2.ensures.value)

pub fold_number-returns-in_err-answer : goal.fold_number-returns-in_err-answer
fold_number-returns-in_err-answer g t c =
    let p = err_from_is_err_and c.from_residual.result c.from_residual.ensures.1 in
    rw (p.1, p.2) (number-refused g.M.Build.context g.M.Build.rest g.F.FnMut _ _ c.args.binders c.args.number _ c.in_err-answer.ensures)

pub fold_number-returns-in-Some : goal.fold_number-returns-in-Some
fold_number-returns-in-Some g t c =
    number-answered g.M.Build.context g.M.Build.rest g.F.FnMut _ _ c.args.binders c.args.number c.in-Some.answer c.requires.inside (rw c.in-Some.is at c.in_ok-answer.ensures)

pub fold_number-node-requires : goal.fold_number-node-requires
fold_number-node-requires g t c =
    let longer = extends-length _ _ c.in_ok-answer.ensures.grows.kept in
    let there : c.args.number < length (g.M.Build.context c.answer_for.new.make).trees = omega (arith, c.requires.inside, longer) in
    rw c.cx-2.ensures there

pub fold_number-returns-in_err-node : goal.fold_number-returns-in_err-node
fold_number-returns-in_err-node g t c =
    let h = said-nothing g.M.Build.context g.M.Build.rest g.F.FnMut _ _ c.args.binders c.args.number c.in_ok-answer.field-0 c.in_default.not-Some c.in_ok-answer.ensures in
    let p = err_from_is_err_and c.from_residual-in_err-node.result c.from_residual-in_err-node.ensures.1 in
    rw (p.1, p.2) (number-memory g.M.Build.context g.M.Build.rest g.F.FnMut _ _ c.args.binders c.args.number c.in_ok-answer.ensures.grows
    (said-reached g.M.Build.context g.M.Build.rest g.F.FnMut _ _ c.args.binders c.args.number h))

pub fold_number-returns-in-Region : goal.fold_number-returns-in-Region
fold_number-returns-in-Region g t c =
    let h = said-nothing g.M.Build.context g.M.Build.rest g.F.FnMut _ _ c.args.binders c.args.number c.in_ok-answer.field-0 c.in_default.not-Some c.in_ok-answer.ensures in
    let i = rw c.cx-2.ensures at c.node.ensures in
    number-leaf g.M.Build.context g.M.Build.rest g.F.FnMut _ _ c.args.binders c.args.number c.requires.inside h c.node.result.now c.in_ok-node.node i c.in_ok-node.ensures.head c.in_ok-node.ensures.children (ap children_of c.in-Region.is)

pub fold_number-returns-in-Var : goal.fold_number-returns-in-Var
fold_number-returns-in-Var g t c =
    let h = said-nothing g.M.Build.context g.M.Build.rest g.F.FnMut _ _ c.args.binders c.args.number c.in_ok-answer.field-0 c.in_default.not-Some c.in_ok-answer.ensures in
    let i = rw c.cx-2.ensures at c.node.ensures in
    number-leaf g.M.Build.context g.M.Build.rest g.F.FnMut _ _ c.args.binders c.args.number c.requires.inside h c.node.result.now c.in_ok-node.node i c.in_ok-node.ensures.head c.in_ok-node.ensures.children (ap children_of c.in-Var.is)

pub fold_number-returns-in-Vars : goal.fold_number-returns-in-Vars
fold_number-returns-in-Vars g t c =
    let h = said-nothing g.M.Build.context g.M.Build.rest g.F.FnMut _ _ c.args.binders c.args.number c.in_ok-answer.field-0 c.in_default.not-Some c.in_ok-answer.ensures in
    let i = rw c.cx-2.ensures at c.node.ensures in
    number-variables g.M.Build.context g.M.Build.rest g.F.FnMut _ _ c.args.binders c.args.number c.requires.inside h c.node.result.now c.in_ok-node.node i c.in_ok-node.ensures.head c.in_ok-node.ensures.children c.in-Vars.field-0 c.in-Vars.is (rw c.cx-in-Vars.ensures at c.recall_variables_are_leaves.ensures)

pub fold_number-fold_bounds-requires : goal.fold_number-fold_bounds-requires
fold_number-fold_bounds-requires g t c κs within =
    let h = said-nothing g.M.Build.context g.M.Build.rest g.F.FnMut _ _ c.args.binders c.args.number c.in_ok-answer.field-0 c.in_default.not-Some c.in_ok-answer.ensures in
    let i = rw c.cx-2.ensures at c.node.ensures in
    let reached = said-reached g.M.Build.context g.M.Build.rest g.F.FnMut _ _ c.args.binders c.args.number h in
    let fits : Fits (g.M.Build.context c.answer_for.new.make).trees (N.Preds c.in-Preds.list) = subst (Fits (g.M.Build.context c.answer_for.new.make).trees) c.in-Preds.is (copy-fits g.M.Build.context g.M.Build.rest g.F.FnMut _ _ c.args.binders c.args.number c.requires.inside h c.node.result.now c.in_ok-node.node i c.in_ok-node.ensures.head c.in_ok-node.ensures.children) in
    let lower : Node → Type 0 = λ d. Below c.args.number (numbers (children_of d)) in
    let below : lower (N.Preds c.in-Preds.list) = subst lower c.in-Preds.is (copy-below g.M.Build.context g.M.Build.rest g.F.FnMut _ _ c.args.binders c.args.number c.requires.inside h c.node.result.now c.in_ok-node.node i c.in_ok-node.ensures.head c.in_ok-node.ensures.children) in (
      omega arith,
      (
        within.0,
        (
          within.1,
          (
            rw c.as_slice.ensures.value fits,
            (
              rw c.as_slice.ensures.value below,
              (
                rw c.as_slice.ensures.value (copy-principal g.M.Build.context g.M.Build.rest g.F.FnMut _ _ c.args.binders c.args.number c.requires.inside h c.node.result.now c.in_ok-node.node i c.in_ok-node.ensures.head c.in_ok-node.ensures.children c.in-Preds.list c.in-Preds.is),
                (c.requires.room, (may-later g.M.Build.context g.M.Build.rest g.F.FnMut _ _ reached h.grows c.requires.callable, keeps-later g.M.Build.context g.M.Build.rest g.F.FnMut _ _ reached h.grows c.requires.keeps)),
              ),
            ),
          ),
        ),
      ),
    )

pub fold_number-returns-in-Preds : goal.fold_number-returns-in-Preds
fold_number-returns-in-Preds g t c =
    let h = said-nothing g.M.Build.context g.M.Build.rest g.F.FnMut _ _ c.args.binders c.args.number c.in_ok-answer.field-0 c.in_default.not-Some c.in_ok-answer.ensures in
    let i = rw c.cx-2.ensures at c.node.ensures in
    number-bounds g.M.Build.context g.M.Build.rest g.F.FnMut _ _ c.args.binders c.args.number c.requires.inside h c.node.result.now c.in_ok-node.node i c.in_ok-node.ensures.head c.in_ok-node.ensures.children c.in-Preds.list _ _ c.in-Preds.is c.fold_bounds.ensures.sort (rw c.as_slice.ensures.value at c.fold_bounds.ensures.outcome)

pub fold_number-unreachable-requires : goal.fold_number-unreachable-requires
fold_number-unreachable-requires g t c =
    let h = said-nothing g.M.Build.context g.M.Build.rest g.F.FnMut _ _ c.args.binders c.args.number c.in_ok-answer.field-0 c.in_default.not-Some c.in_ok-answer.ensures in
    let i = rw c.cx-2.ensures at c.node.ensures in
    number-bound g.M.Build.context g.M.Build.rest g.F.FnMut _ _ c.args.binders c.args.number c.requires.inside h c.node.result.now c.in_ok-node.node i c.in_ok-node.ensures.head c.in_ok-node.ensures.children c.in-Pred.field-0 c.in-Pred.is c.requires.no_bound

pub fold_number-fold_children-requires : goal.fold_number-fold_children-requires
fold_number-fold_children-requires g t c κs within =
    let h = said-nothing g.M.Build.context g.M.Build.rest g.F.FnMut _ _ c.args.binders c.args.number c.in_ok-answer.field-0 c.in_default.not-Some c.in_ok-answer.ensures in
    let i = rw c.cx-2.ensures at c.node.ensures in
    let reached = said-reached g.M.Build.context g.M.Build.rest g.F.FnMut _ _ c.args.binders c.args.number h in (
      omega arith,
      (
        within.0,
        (
          within.1,
          (
            copy-fits g.M.Build.context g.M.Build.rest g.F.FnMut _ _ c.args.binders c.args.number c.requires.inside h c.node.result.now c.in_ok-node.node i c.in_ok-node.ensures.head c.in_ok-node.ensures.children,
            (
              copy-below g.M.Build.context g.M.Build.rest g.F.FnMut _ _ c.args.binders c.args.number c.requires.inside h c.node.result.now c.in_ok-node.node i c.in_ok-node.ensures.head c.in_ok-node.ensures.children,
              (
                no-bound c.in_ok-node.node c.in_default-node.not-Preds,
                (c.requires.room, (may-later g.M.Build.context g.M.Build.rest g.F.FnMut _ _ reached h.grows c.requires.callable, keeps-later g.M.Build.context g.M.Build.rest g.F.FnMut _ _ reached h.grows c.requires.keeps)),
              ),
            ),
          ),
        ),
      ),
    )

pub fold_number-returns-in_err-children-in_default-node : goal.fold_number-returns-in_err-children-in_default-node
fold_number-returns-in_err-children-in_default-node g t c =
    let h = said-nothing g.M.Build.context g.M.Build.rest g.F.FnMut _ _ c.args.binders c.args.number c.in_ok-answer.field-0 c.in_default.not-Some c.in_ok-answer.ensures in
    let i = rw c.cx-2.ensures at c.node.ensures in
    let p = err_from_is_err_and c.from_residual-in_err-children-in_default-node.result c.from_residual-in_err-children-in_default-node.ensures.1 in
    rw (p.1, p.2) (number-stopped g.M.Build.context g.M.Build.rest g.F.FnMut _ _ c.args.binders c.args.number c.requires.inside h c.node.result.now c.in_ok-node.node i c.in_ok-node.ensures.head c.in_ok-node.ensures.children _ _ _ c.in_err-children-in_default-node.ensures)

pub fold_number-has_children-requires : goal.fold_number-has_children-requires
fold_number-has_children-requires g t c =
    ap length c.as_slice-in_default-node.ensures.value
    ∙ same-count _ c.in_ok-children-in_default-node.children.items (children_of c.in_ok-node.node) c.in_ok-children-in_default-node.ensures.sorts_are

pub fold_number-returns-then-has_children : goal.fold_number-returns-then-has_children
fold_number-returns-then-has_children g t c =
    let h = said-nothing g.M.Build.context g.M.Build.rest g.F.FnMut _ _ c.args.binders c.args.number c.in_ok-answer.field-0 c.in_default.not-Some c.in_ok-answer.ensures in
    let i = rw c.cx-2.ensures at c.node.ensures in
    number-unchanged g.M.Build.context g.M.Build.rest g.F.FnMut _ _ c.args.binders c.args.number c.requires.inside h c.node.result.now c.in_ok-node.node i c.in_ok-node.ensures.head c.in_ok-node.ensures.children _ c.in_ok-children-in_default-node.children _ c.in_ok-children-in_default-node.ensures
    (c.has_children.ensures.0 c.if-has_children.true ∙ c.as_slice-in_default-node.ensures.value)

pub fold_number-rebuilt-requires : goal.fold_number-rebuilt-requires
fold_number-rebuilt-requires g t c =
    record {
      kind = is-rebuilt c.in_ok-node.node c.in_default-node.not-Region c.in_default-node.not-Preds c.in_default-node.not-Pred c.in_default-node.not-Vars c.in_default-node.not-Var;
      count = ap length c.as_slice-in_default-node-2.ensures.value
          ∙ same-count _ c.in_ok-children-in_default-node.children.items (children_of c.in_ok-node.node) c.in_ok-children-in_default-node.ensures.sorts_are;
    }

pub fold_number-add-requires : goal.fold_number-add-requires
fold_number-add-requires g t c =
    let h = said-nothing g.M.Build.context g.M.Build.rest g.F.FnMut _ _ c.args.binders c.args.number c.in_ok-answer.field-0 c.in_default.not-Some c.in_ok-answer.ensures in
    let i = rw c.cx-2.ensures at c.node.ensures in
    let numbered = c.in_ok-rebuilt-in_default-node.ensures.numbers ∙ c.as_slice-in_default-node-2.ensures.value in
    let well : IsWellFormed (g.M.Build.context c.answer_for.new.make) = subst IsWellFormed c.cx.ensures c.recall_well_formed.ensures in
    record {
      kind = c.in_ok-rebuilt-in_default-node.ensures.kind;
      fits = ap (kinds_at _) numbered ∙ (c.in_ok-children-in_default-node.ensures.sorts_are ∙ sym c.in_ok-rebuilt-in_default-node.ensures.sorts);
      takes = number-takes g.M.Build.context g.M.Build.rest g.F.FnMut _ _ c.args.binders c.args.number c.requires.inside h c.node.result.now c.in_ok-node.node i c.in_ok-node.ensures.head c.in_ok-node.ensures.children _ c.in_ok-children-in_default-node.children _ c.in_ok-rebuilt-in_default-node.rebuilt well c.in_ok-children-in_default-node.ensures
          c.in_ok-rebuilt-in_default-node.ensures.head numbered;
    }

pub fold_number-returns-in_err-rebuilt-in_default-node : goal.fold_number-returns-in_err-rebuilt-in_default-node
fold_number-returns-in_err-rebuilt-in_default-node g t c =
    let h = said-nothing g.M.Build.context g.M.Build.rest g.F.FnMut _ _ c.args.binders c.args.number c.in_ok-answer.field-0 c.in_default.not-Some c.in_ok-answer.ensures in
    let p = err_from_is_err_and c.from_residual-in_err-rebuilt-in_default-node.result c.from_residual-in_err-rebuilt-in_default-node.ensures.1 in
    rw (p.1, p.2) (number-memory g.M.Build.context g.M.Build.rest g.F.FnMut _ _ c.args.binders c.args.number (grows-trans _ _ _ c.in_ok-answer.ensures.grows c.in_ok-children-in_default-node.ensures.grows)
    (reached-then g.M.Build.context g.M.Build.rest g.F.FnMut (said-reached g.M.Build.context g.M.Build.rest g.F.FnMut _ _ c.args.binders c.args.number h)
    (folds-reached g.M.Build.context g.M.Build.rest g.F.FnMut c.in_ok-children-in_default-node.ensures.folded)))

pub fold_number-returns : goal.fold_number-returns
fold_number-returns g t c =
    let h = said-nothing g.M.Build.context g.M.Build.rest g.F.FnMut _ _ c.args.binders c.args.number c.in_ok-answer.field-0 c.in_default.not-Some c.in_ok-answer.ensures in
    let i = rw c.cx-2.ensures at c.node.ensures in
    number-again g.M.Build.context g.M.Build.rest g.F.FnMut _ _ c.args.binders c.args.number c.requires.inside h c.node.result.now c.in_ok-node.node i c.in_ok-node.ensures.head c.in_ok-node.ensures.children _ c.in_ok-children-in_default-node.children _ _ c.in_ok-rebuilt-in_default-node.rebuilt c.add.result c.in_ok-children-in_default-node.ensures
    c.in_ok-rebuilt-in_default-node.ensures.head (c.in_ok-rebuilt-in_default-node.ensures.numbers ∙ c.as_slice-in_default-node-2.ensures.value)
    (record { same = refl; grows = c.add.ensures.grows; rest = c.add.ensures.rest }) c.add.ensures.sort c.add.ensures.tree c.add.ensures.cause
