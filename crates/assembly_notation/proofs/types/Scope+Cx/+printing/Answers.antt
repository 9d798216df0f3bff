use Rattle.std.proofs.Common.{◌≡◌, ◌+◌, get_or, refl, sym, subst, ap, ◌∙◌, arith, rules}
use Rattle.ir_trees.specs.declared.ir.kinds.GenericArg.{GenericArg}
use Rattle.ir_trees.specs.declared.ir.kinds.GenericArg.TheVariants as A
use Rattle.ir_trees.specs.declared.ir.kinds.ExistentialPredicate.TheVariants as E
use Rattle.ir_trees.specs.declared.ir.kinds.TyKind.TheVariants as K
use Rattle.ir_trees.specs.Instantiation.Folds.{IsArg, arg_tree}
use Rattle.ir_trees.specs.Syntax.Words.{PredFits, args_forest, pred_kind_tree, preds_forest, region_tree, ty_tree, vars_tree}
use Rattle.ir_trees.proofs.Growth.Made.{IsPred-listed}
use Rattle.assembly_notation.specs.Spelling.{binder_words, first_spaces, region_words, tree_words, words}
use Rattle.assembly_notation.proofs.Listed.{IsArg-listed}
use Rattle.assembly_notation.proofs.Printed.{added-more, added-over, adds-as, adds-both, adds-space, adt-words, alias-words, args-left, array-words, auto-bound-words, const-word, dyn-words, fn-words, pointer-words, preds-left, projection-bound-words, ref-words, region-word, slice-words, spelled-over, trait-bound-words, tuple-words}
use Rattle.assembly_notation.proofs.types.Scope+Cx.+printing.Goals as goal

-- The first words of a type, and then what follows.

pub spell_type-returns-in_ok-print_borrowed-in-Ref : goal.spell_type-returns-in_ok-print_borrowed-in-Ref
spell_type-returns-in_ok-print_borrowed-in-Ref t c =
    let ts = c.args.self.now.maker.trees in
    let k = c.in-Ref in
    let r = region_words (region_tree ts k.region) in
    let n = tree_words (ty_tree ts k.target) in
    let w : tree_words (ty_tree ts c.args.ty) ≡ 1 + (r + n) = ap tree_words (sym k.ensures.tree) ∙ ref-words ts k.region k.target k.field-2 k.ensures.fits in
    let first = adds-both 0 r _ _ _ (adds-as _ 0 _ _ (ap (first_spaces ts) k.is) c.in_ok-print_head.ensures) c.in_ok-print_borrowed-in-Ref.ensures in
    spelled-over c.spell_next.result (0 + r) n _ _ _ _ first c.spell_next.ensures (omega (arith, w))

pub spell_type-returns-in-RawPtr : goal.spell_type-returns-in-RawPtr
spell_type-returns-in-RawPtr t c =
    let ts = c.args.self.now.maker.trees in
    let k = c.in-RawPtr in
    let n = tree_words (ty_tree ts k.target) in
    let w : tree_words (ty_tree ts c.args.ty) ≡ 1 + n = ap tree_words (sym k.ensures.tree) ∙ pointer-words ts k.target k.field-1 in
    spelled-over c.spell_next-in-RawPtr.result 0 n _ _ _ _ (adds-as _ 0 _ _ (ap (first_spaces ts) k.is) c.in_ok-print_head.ensures) c.spell_next-in-RawPtr.ensures (omega (arith, w))

pub spell_type-returns-in-Slice : goal.spell_type-returns-in-Slice
spell_type-returns-in-Slice t c =
    let ts = c.args.self.now.maker.trees in
    let k = c.in-Slice in
    let n = tree_words (ty_tree ts k.target) in
    let w : tree_words (ty_tree ts c.args.ty) ≡ 1 + n = ap tree_words (sym k.ensures.tree) ∙ slice-words ts k.target in
    spelled-over c.spell_next-in-Slice.result 0 n _ _ _ _ (adds-as _ 0 _ _ (ap (first_spaces ts) k.is) c.in_ok-print_head.ensures) c.spell_next-in-Slice.ensures (omega (arith, w))

pub spell_type-returns-in-Array : goal.spell_type-returns-in-Array
spell_type-returns-in-Array t c =
    let ts = c.args.self.now.maker.trees in
    let k = c.in-Array in
    let n = tree_words (ty_tree ts k.target) in
    let w : tree_words (ty_tree ts c.args.ty) ≡ 1 + n = ap tree_words (sym k.ensures.tree) ∙ array-words ts k.target k.field-1 k.ensures.fits in
    spelled-over c.spell_next-in-Array.result 0 n _ _ _ _ (adds-as _ 0 _ _ (ap (first_spaces ts) k.is) c.in_ok-print_head.ensures) c.spell_next-in-Array.ensures (omega (arith, w))

pub spell_type-returns-in-Tuple : goal.spell_type-returns-in-Tuple
spell_type-returns-in-Tuple t c =
    let ts = c.args.self.now.maker.trees in
    let k = c.in-Tuple in
    let n = words (args_forest ts k.args) in
    let w : tree_words (ty_tree ts c.args.ty) ≡ 1 + n = ap tree_words (sym k.ensures.tree) ∙ tuple-words ts k.args k.ensures.fits in
    spelled-over c.spell_types.result 0 n _ _ _ _ (adds-as _ 0 _ _ (ap (first_spaces ts) k.is) c.in_ok-print_head.ensures) c.spell_types.ensures (omega (arith, w))

pub spell_type-returns-in-Adt : goal.spell_type-returns-in-Adt
spell_type-returns-in-Adt t c =
    let ts = c.args.self.now.maker.trees in
    let k = c.in-Adt in
    let n = words (args_forest ts k.args) in
    let w : tree_words (ty_tree ts c.args.ty) ≡ 1 + n = ap tree_words (sym k.ensures.tree) ∙ adt-words ts k.field-0 k.args k.ensures.fits in
    spelled-over c.spell_types-in-Adt.result 0 n _ _ _ _ (adds-as _ 0 _ _ (ap (first_spaces ts) k.is) c.in_ok-print_head.ensures) c.spell_types-in-Adt.ensures (omega (arith, w))

pub spell_type-returns-in-Alias : goal.spell_type-returns-in-Alias
spell_type-returns-in-Alias t c =
    let ts = c.args.self.now.maker.trees in
    let k = c.in-Alias in
    let n = words (args_forest ts k.alias.args) in
    let w : tree_words (ty_tree ts c.args.ty) ≡ 1 + n = ap tree_words (sym k.ensures.tree) ∙ alias-words ts k.alias k.ensures.fits in
    spelled-over c.spell_types-in-Alias.result 0 n _ _ _ _ (adds-as _ 0 _ _ (ap (first_spaces ts) k.is) c.in_ok-print_head.ensures) c.spell_types-in-Alias.ensures (omega (arith, w))

pub spell_type-returns-in-Dynamic : goal.spell_type-returns-in-Dynamic
spell_type-returns-in-Dynamic t c =
    let ts = c.args.self.now.maker.trees in
    let k = c.in-Dynamic in
    let n = words (preds_forest ts k.preds) in
    let w : tree_words (ty_tree ts c.args.ty) ≡ 1 + n = ap tree_words (sym k.ensures.tree) ∙ dyn-words ts k.preds k.field-1 k.ensures.fits in
    spelled-over c.spell_bounds.result 0 n _ _ _ _ (adds-as _ 0 _ _ (ap (first_spaces ts) k.is) c.in_ok-print_head.ensures) c.spell_bounds.ensures (omega (arith, w))

pub spell_type-returns-in_ok-spell_types-in-FnPtr : goal.spell_type-returns-in_ok-spell_types-in-FnPtr
spell_type-returns-in_ok-spell_types-in-FnPtr t c =
    let ts = c.args.self.now.maker.trees in
    let k = c.in-FnPtr in
    let s = k.sig in
    let h = first_spaces ts (K.FnPtr s) in
    let a = words (args_forest ts s.value.inputs) in
    let n = tree_words (ty_tree ts s.value.output) in
    let w : tree_words (ty_tree ts c.args.ty) ≡ (h + 1) + (a + n) = ap tree_words (sym k.ensures.tree) ∙ fn-words ts s k.ensures.fits in
    let first = adds-both h a _ _ _ (adds-as _ h _ _ (ap (first_spaces ts) k.is) c.in_ok-print_head.ensures) c.in_ok-spell_types-in-FnPtr.ensures in
    spelled-over c.spell_next-in-FnPtr.result (h + a) n _ _ _ _ first c.spell_next-in-FnPtr.ensures (omega (arith, w))

-- A space, and an argument of one word.

pub spell_arg-returns-in-Const : goal.spell_arg-returns-in-Const
spell_arg-returns-in-Const t c =
    let ts = c.args.self.now.maker.trees in
    let is : IsArg ts (A.Const c.in-Const.constant) = subst (IsArg ts) c.in-Const.is c.requires in
    let w : tree_words (arg_tree ts c.args.arg) ≡ 1 = ap (λ a. tree_words (arg_tree ts a)) c.in-Const.is ∙ const-word ts c.in-Const.constant.0 is in
    added-over c.print_constant.result 1 0 _ _ _ _ (adds-space _ _ c.in_ok-push.ensures.bytes) c.print_constant.ensures (omega (arith, w))

pub spell_arg-returns-in-Region : goal.spell_arg-returns-in-Region
spell_arg-returns-in-Region t c =
    let ts = c.args.self.now.maker.trees in
    let is : IsArg ts (A.Region c.in-Region.region) = subst (IsArg ts) c.in-Region.is c.requires in
    let w : tree_words (arg_tree ts c.args.arg) ≡ 1 = ap (λ a. tree_words (arg_tree ts a)) c.in-Region.is ∙ region-word ts c.in-Region.region.0 is in
    added-over c.print_region.result 1 0 _ _ _ _ (adds-space _ _ c.in_ok-push.ensures.bytes) c.print_region.ensures (omega (arith, w))

-- A space, the first words of a bound, and then what follows.

pub spell_bound-returns-in-Trait : goal.spell_bound-returns-in-Trait
spell_bound-returns-in-Trait t c =
    let ts = c.args.self.now.maker.trees in
    let v = c.args.pred.vars in
    let r = c.in-Trait.trait_ref in
    let b = binder_words (vars_tree ts v).children in
    let n = words (args_forest ts r.args) in
    let f : PredFits ts (record { vars = v; value = E.Trait r }) = subst (λ x. PredFits ts (record { vars = v; value = x })) c.in-Trait.is c.requires in
    let w : tree_words (pred_kind_tree ts c.args.pred) ≡ (1 + b) + n = ap (λ x. tree_words (pred_kind_tree ts (record { vars = v; value = x }))) c.in-Trait.is ∙ trait-bound-words ts v r f in
    let first = adds-both (1 + b) 0 _ _ _ (adds-both 1 b _ _ _ (adds-space _ _ c.in_ok-push.ensures.bytes) c.in_ok-print_binder.ensures) c.in_ok-print_bound_name.ensures in
    added-over c.spell_types.result ((1 + b) + 0) n _ _ _ _ first c.spell_types.ensures (omega (arith, w))

pub spell_bound-returns-in_ok-spell_types-in-Projection : goal.spell_bound-returns-in_ok-spell_types-in-Projection
spell_bound-returns-in_ok-spell_types-in-Projection t c =
    let ts = c.args.self.now.maker.trees in
    let v = c.args.pred.vars in
    let p = c.in-Projection.projection in
    let b = binder_words (vars_tree ts v).children in
    let a = words (args_forest ts p.args) in
    let n = tree_words (ty_tree ts p.term) in
    let f : PredFits ts (record { vars = v; value = E.Projection p }) = subst (λ x. PredFits ts (record { vars = v; value = x })) c.in-Projection.is c.requires in
    let w : tree_words (pred_kind_tree ts c.args.pred) ≡ (1 + b) + (a + n) = ap (λ x. tree_words (pred_kind_tree ts (record { vars = v; value = x }))) c.in-Projection.is ∙ projection-bound-words ts v p f in
    let named = adds-both (1 + b) 0 _ _ _ (adds-both 1 b _ _ _ (adds-space _ _ c.in_ok-push.ensures.bytes) c.in_ok-print_binder.ensures) c.in_ok-print_bound_name.ensures in
    let first = adds-both ((1 + b) + 0) a _ _ _ named c.in_ok-spell_types-in-Projection.ensures in
    added-over c.spell_next.result (((1 + b) + 0) + a) n _ _ _ _ first c.spell_next.ensures (omega (arith, w))

pub spell_bound-returns-in-AutoTrait : goal.spell_bound-returns-in-AutoTrait
spell_bound-returns-in-AutoTrait t c =
    let ts = c.args.self.now.maker.trees in
    let v = c.args.pred.vars in
    let id = c.in-AutoTrait.field-0 in
    let b = binder_words (vars_tree ts v).children in
    let f : PredFits ts (record { vars = v; value = E.AutoTrait id }) = subst (λ x. PredFits ts (record { vars = v; value = x })) c.in-AutoTrait.is c.requires in
    let w : tree_words (pred_kind_tree ts c.args.pred) ≡ 1 + b = ap (λ x. tree_words (pred_kind_tree ts (record { vars = v; value = x }))) c.in-AutoTrait.is ∙ auto-bound-words ts v id f in
    adds-as ((1 + b) + 0) _ _ _ (omega (arith, w))
    (adds-both (1 + b) 0 _ _ _ (adds-both 1 b _ _ _ (adds-space _ _ c.in_ok-push.ensures.bytes) c.in_ok-print_binder.ensures) c.in_ok-print_bound_name.ensures)

-- The members of a list, one after the other.

pub spell_types-spell_arg-requires : goal.spell_types-spell_arg-requires
spell_types-spell_arg-requires t c =
    let xs = c.args-arg-items.result.now in
    let a : GenericArg = get_or xs c.loop-arg.arg-index (A.Ty (record { 0 = 0 })) in
    let is : IsArg c.args.self.now.maker.trees a = IsArg-listed _ xs c.loop-arg.arg-index (A.Ty (record { 0 = 0 })) a c.loop-arg-test.true refl c.loop-arg.invariant.0 in
    search (rules, is)

pub spell_types-loop-arg-preserved : goal.spell_types-loop-arg-preserved
spell_types-loop-arg-preserved t c =
    let ts = c.args.self.now.maker.trees in
    let xs = c.args-arg-items.result.now in (
      c.loop-arg.invariant.0,
      added-more _ _ _ _ _ _ _ c.loop-arg.invariant.1 (args-left ts xs c.loop-arg.arg-index (A.Ty (record { 0 = 0 })) c.loop-arg-test.true) c.in_ok-spell_arg.ensures,
    )

pub spell_bounds-pred-requires : goal.spell_bounds-pred-requires
spell_bounds-pred-requires t c = IsPred-listed _ _ c.loop-pred.pred-index _ c.loop-pred-test.true c.loop-pred.invariant.0

pub spell_bounds-loop-pred-preserved : goal.spell_bounds-loop-pred-preserved
spell_bounds-loop-pred-preserved t c =
    let ts = c.args.self.now.maker.trees in
    let xs = c.preds-pred-items.result.now in (
      c.loop-pred.invariant.0,
      added-more _ _ _ _ _ _ _ c.loop-pred.invariant.1 (preds-left ts xs c.loop-pred.pred-index (record { 0 = 0 }) (pred_kind_tree ts c.pred.result) c.loop-pred-test.true c.pred.ensures.tree) c.in_ok-spell_bound.ensures,
    )
