use Rattle.std.proofs.Common.{◌≡◌, ℕ, ◌+◌, [], ◌∷◌, ◌++◌, ◌∙◌, ap, refl, sym}
use Rattle.std.specs.Prelude.{Bool, ◌||◌}
use Rattle.ir_trees.specs.declared.ir.kinds.GenericArg.TheVariants as A
use Rattle.ir_trees.proofs.Growth.Kept.{grows-trans}
use Rattle.ir_trees.specs.Syntax.Trees.{RegionKind}
use Rattle.ir_trees.proofs.Growth.Made.{IsRegion-grows, ListFits-grows, BoundsFit-one, principals-one, one_if, one_if-or}
use Rattle.ir_trees.specs.Syntax.Words.{names_trait}
use Rattle.assembly_notation.proofs.Lacking.{fits-one, lacks-grows, list-lacks-one, list-lacks-grows, bounds-fit-grows, bounds-lack-grows, bounds-lack-one}
use Rattle.assembly_notation.proofs.types.Scope.+types.Goals as goal

pub read_args-loop-place-preserved : goal.read_args-loop-place-preserved
read_args-loop-place-preserved g t c =
    let one_more : c.push.new.self.items ≡ c.loop-place.list.items ++ c.in_ok-read_arg.field-0 ∷ [] = c.in_ok-push.ensures.items in
    record {
      grows = grows-trans _ _ _ c.loop-place.invariant.grows c.read_arg.ensures.grows;
      fits = rw one_more
          (fits-one _ _ _ (ListFits-grows _ _ _ c.read_arg.ensures.grows c.loop-place.invariant.fits) c.in_ok-read_arg.ensures.sort);
      no_param = λ s. rw one_more
          (list-lacks-one (g.M.Build.context c.read_arg.new.self.maker).trees c.loop-place.list.items c.in_ok-read_arg.field-0 (list-lacks-grows _ _ _ c.read_arg.ensures.grows c.loop-place.invariant.fits (c.loop-place.invariant.no_param s)) (c.in_ok-read_arg.ensures.no_param s));
    }

pub read_bounds-loop-begin-preserved : goal.read_bounds-loop-begin-preserved
read_bounds-loop-begin-preserved g t c =
    let one_more : c.push.new.self.items ≡ c.loop-begin.list.items ++ c.in_ok-bound.bound ∷ [] = c.in_ok-push.ensures.items in
    record {
      grows = grows-trans _ _ _ c.loop-begin.invariant.grows c.read_bound.ensures.grows;
      fit = rw one_more (BoundsFit-one _ _ _ _ c.read_bound.ensures.grows c.loop-begin.invariant.fit c.in_ok-bound.ensures.fits);
      no_param = λ s. rw one_more
          (bounds-lack-one _ _ _ _ c.read_bound.ensures.grows c.loop-begin.invariant.fit (c.loop-begin.invariant.no_param s) (c.in_ok-bound.ensures.no_param s));
      principals = rw one_more
          (principals-one c.loop-begin.list.items c.in_ok-bound.bound
          ∙ ap (λ (n : ℕ). n + one_if (names_trait c.in_ok-bound.bound.value)) c.loop-begin.invariant.principals
          ∙ one_if-or c.loop-begin.has_principal (names_trait c.in_ok-bound.bound.value) c.in_ok-bound.ensures.principal
          ∙ ap (λ (b : Bool). one_if (c.loop-begin.has_principal || b)) (sym c.is_principal-has_principal.ensures));
    }

pub read_bounds-loop-begin-preserved-then-is_among : goal.read_bounds-loop-begin-preserved-then-is_among
read_bounds-loop-begin-preserved-then-is_among g t c =
    record {
      grows = grows-trans _ _ _ c.loop-begin.invariant.grows c.read_bound.ensures.grows;
      fit = bounds-fit-grows _ _ c.loop-begin.list.items c.read_bound.ensures.grows c.loop-begin.invariant.fit;
      no_param = λ s.
          bounds-lack-grows _ _ c.loop-begin.list.items c.read_bound.ensures.grows c.loop-begin.invariant.fit (c.loop-begin.invariant.no_param s);
      principals = c.loop-begin.invariant.principals;
    }

pub read_bound-projection_bound-requires-clause-list :
    goal.read_bound-projection_bound-requires-clause-list
read_bound-projection_bound-requires-clause-list g t c =
    ListFits-grows _ _ _ c.read_type.ensures.grows c.in_ok-list-in-Projection.ensures.fits

pub read_bound-projection_bound-requires-clause-list_no_param :
    goal.read_bound-projection_bound-requires-clause-list_no_param
read_bound-projection_bound-requires-clause-list_no_param g t c = λ s.
    list-lacks-grows _ _ _ c.read_type.ensures.grows c.in_ok-list-in-Projection.ensures.fits (c.in_ok-list-in-Projection.ensures.no_param s)

pub read_fn-fn_pointer-requires-clause-fit : goal.read_fn-fn_pointer-requires-clause-fit
read_fn-fn_pointer-requires-clause-fit g t c = ListFits-grows _ _ _ c.read_type.ensures.grows c.in_ok-list.ensures.fits

pub read_fn-fn_pointer-requires-clause-no_param : goal.read_fn-fn_pointer-requires-clause-no_param
read_fn-fn_pointer-requires-clause-no_param g t c = λ s. list-lacks-grows _ _ _ c.read_type.ensures.grows c.in_ok-list.ensures.fits (c.in_ok-list.ensures.no_param s)

pub read_type-reference-requires-clause-region : goal.read_type-reference-requires-clause-region
read_type-reference-requires-clause-region g t c = IsRegion-grows _ _ c.in_ok-region-in-Borrow.region c.read_type-in-Borrow.ensures.grows c.in_ok-region-in-Borrow.ensures.sort

pub read_type-reference-requires-clause-region_no_param : goal.read_type-reference-requires-clause-region_no_param
read_type-reference-requires-clause-region_no_param g t c =
    lacks-grows _ _ c.in_ok-region-in-Borrow.region.0 RegionKind c.read_type-in-Borrow.ensures.grows refl c.in_ok-region-in-Borrow.ensures.sort c.in_ok-region-in-Borrow.ensures.no_param

pub read_bound-returns-in_err-term-in-Projection-clause-grows : goal.read_bound-returns-in_err-term-in-Projection-clause-grows
read_bound-returns-in_err-term-in-Projection-clause-grows g t c = grows-trans _ _ _ c.read_args-in-Projection.ensures.grows c.read_type.ensures.grows

pub read_bound-returns-in_ok-list-in-Trait-clause-grows : goal.read_bound-returns-in_ok-list-in-Trait-clause-grows
read_bound-returns-in_ok-list-in-Trait-clause-grows g t c = grows-trans _ _ _ c.read_args.ensures.grows c.trait_bound.ensures.grows

pub read_bound-returns-in_ok-term-in-Projection-clause-grows : goal.read_bound-returns-in_ok-term-in-Projection-clause-grows
read_bound-returns-in_ok-term-in-Projection-clause-grows g t c = grows-trans _ _ _ (grows-trans _ _ _ c.read_args-in-Projection.ensures.grows c.read_type.ensures.grows) c.projection_bound.ensures.grows

pub read_bounds-returns-in_err-bound-clause-grows : goal.read_bounds-returns-in_err-bound-clause-grows
read_bounds-returns-in_err-bound-clause-grows g t c = grows-trans _ _ _ c.loop-begin.invariant.grows c.read_bound.ensures.grows

pub read_bounds-returns-in_err-push-clause-grows : goal.read_bounds-returns-in_err-push-clause-grows
read_bounds-returns-in_err-push-clause-grows g t c = grows-trans _ _ _ c.loop-begin.invariant.grows c.read_bound.ensures.grows

pub read_type-returns-in_ok-target-in-Before-clause-grows : goal.read_type-returns-in_ok-target-in-Before-clause-grows
read_type-returns-in_ok-target-in-Before-clause-grows g t c = grows-trans _ _ _ c.read_type.ensures.grows c.pointer_to.ensures.grows

pub read_type-returns-in_ok-list-in-Over-clause-grows : goal.read_type-returns-in_ok-list-in-Over-clause-grows
read_type-returns-in_ok-list-in-Over-clause-grows g t c = grows-trans _ _ _ c.read_args.ensures.grows c.construct.ensures.grows

pub read_type-returns-in_ok-bounds-in-Dyn-clause-grows : goal.read_type-returns-in_ok-bounds-in-Dyn-clause-grows
read_type-returns-in_ok-bounds-in-Dyn-clause-grows g t c = grows-trans _ _ _ c.read_bounds.ensures.grows c.dyn_type.ensures.grows

pub read_type-returns-in_err-target-in-Borrow-clause-grows : goal.read_type-returns-in_err-target-in-Borrow-clause-grows
read_type-returns-in_err-target-in-Borrow-clause-grows g t c = grows-trans _ _ _ c.read_borrowed.ensures.grows c.read_type-in-Borrow.ensures.grows

pub read_type-returns-in_ok-target-in-Borrow-clause-grows : goal.read_type-returns-in_ok-target-in-Borrow-clause-grows
read_type-returns-in_ok-target-in-Borrow-clause-grows g t c = grows-trans _ _ _ (grows-trans _ _ _ c.read_borrowed.ensures.grows c.read_type-in-Borrow.ensures.grows) c.reference.ensures.grows

pub read_fn-returns-in_err-output-clause-grows : goal.read_fn-returns-in_err-output-clause-grows
read_fn-returns-in_err-output-clause-grows g t c = grows-trans _ _ _ c.read_args.ensures.grows c.read_type.ensures.grows

pub read_fn-returns-clause-grows : goal.read_fn-returns-clause-grows
read_fn-returns-clause-grows g t c = grows-trans _ _ _ (grows-trans _ _ _ c.read_args.ensures.grows c.read_type.ensures.grows) c.fn_pointer.ensures.grows

pub read_args-returns-in_err-read_arg-clause-grows : goal.read_args-returns-in_err-read_arg-clause-grows
read_args-returns-in_err-read_arg-clause-grows g t c = grows-trans _ _ _ c.loop-place.invariant.grows c.read_arg.ensures.grows

pub read_args-returns-in_err-push-clause-grows : goal.read_args-returns-in_err-push-clause-grows
read_args-returns-in_err-push-clause-grows g t c = grows-trans _ _ _ c.loop-place.invariant.grows c.read_arg.ensures.grows
