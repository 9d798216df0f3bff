-- A visit of a type that goes down through references: what the type that was reached comes to, the first one does.
use Rattle.std.proofs.Common.{◌≡◌, ◌≢◌, ◌≤◌, ◌-◌, ℕ, Bool, false, Option, Result, Ok, Err, refl, sym, ◌∙◌, ap, subst, arith}
use Rattle.std.specs.Fn.{Mut}
use Rattle.std.specs.Borrow.{MutBor}
use Rattle.ir_trees.specs.declared.ir.kinds.Args.{Args}
use Rattle.ir_trees.specs.declared.ir.kinds.Ty.{Ty}
use Rattle.ir_trees.specs.declared.ir.stop.Stop.TheVariants.{WalkDepth}
use Rattle.ir_trees.specs.Declarations.Context.{Context, Grows}
use Rattle.ir_trees.specs.Syntax.Trees.{Tree}
use Rattle.ir_trees.specs.Syntax.Words.{IsTy, ty_tree, args_forest}
use Rattle.candidate_eval.specs.declared.coherence.NormalizeErr.{NormalizeErr}
use Rattle.candidate_eval.specs.declared.coherence.OrphanStop.TheVariants as O
use Rattle.candidate_eval.specs.declared.coherence.table.ViewClass.{ViewClass}
use Rattle.candidate_eval.specs.declared.coherence.table.Shape.TheVariants as Sh
use Rattle.candidate_eval.specs.declared.coherence.walk.EarlyExit.{EarlyExit}
use Rattle.candidate_eval.specs.declared.coherence.walk.EarlyExit.TheVariants as X
use Rattle.candidate_eval.specs.declared.coherence.walk.Walk.{Walk}
use Rattle.candidate_eval.specs.Calls.Exits.{IsTaken, broken_by}
use Rattle.candidate_eval.specs.Knowability.Normalizer.{Description, IsToldAnswer, IsFunction, IsViewed, shown}
use Rattle.candidate_eval.specs.Knowability.Orphan.{view}
use Rattle.candidate_eval.specs.Calls.Shapes.{IsShape}
use Rattle.candidate_eval.specs.Calls.Visits.{MayVisit, Visited, Visits, GoesOverSome, GoesBelow, VisitsDown, ended, the_type, the_list}
use Rattle.candidate_eval.proofs.Frontier.TypeVisits.{may-visit, visits-deep, visits-nothing, visits-item, visits-target, visits-arguments, goes-item, goes-target, goes-arguments}

pub ended-same : (w : Walk) → w.is_first ≡ false → ended w ≡ w
ended-same w e = ap (λ (b : Bool). let x : Walk = record { in_crate = w.in_crate; seeks_local = w.seeks_local; is_first = b; non_local = w.non_local } in x) (sym e)

module _ {C F V E : Type 0} (context : C → Context) (shows : C → V) (resolve : V → Tree → Tree) (g : Mut F (MutBor C × (Ty × Unit {0})) (Result Ty (NormalizeErr E) × (MutBor C × Unit {0}))) where
  -- where a visit was broken off it doesn't matter whether it has ended
  pub broken-walk : (visited : Visited (F × V) E) (levels : ℕ) (f : F) (c : C) (walk : Walk) (f' : F) (c' : C) (new : Walk) (x : EarlyExit E)
      → Visits context shows resolve g visited levels f c walk f' c' (ended new) (Err x) → Visits context shows resolve g visited levels f c walk f' c' new (Err x)
  broken-walk visited levels f c walk f' c' new x v = record {
    calls = v.calls;
    same = record { in_crate = v.same.in_crate; seeks_local = v.same.seeks_local };
    recorded = v.recorded;
    firsts = tt;
    exit = v.exit;
    covers = v.covers;
    outcome = v.outcome;
  }

  -- the error that broke a visit off is passed on
  pub down-error : (t : Tree) (levels : ℕ) (f0 : F) (c0 : C) (walk : Walk) (f : F) (c : C) (new : Walk) (r : Result (Option (Args × ℕ)) (EarlyExit E)) (y x : EarlyExit E) → r ≡ Err y → y ≡ x
      → Visits context shows resolve g (the_type t) levels f0 c0 walk f c new (Err x) → VisitsDown context shows resolve g t levels f0 c0 walk f c new r
  down-error t levels f0 c0 walk f c new r y x i j v =
      let P : Result (Option (Args × ℕ)) (EarlyExit E) → Type 0 = λ z. VisitsDown context shows resolve g t levels f0 c0 walk f c new z in
      subst P (sym (i ∙ ap Err j)) v

  module _ (t : Tree) (levels : ℕ) (f0 : F) (c0 : C) (walk : Walk) where
    -- the first type comes to what this one does, with so many levels left
    pub record ComesDown (f : F) (c : C) (ty : Ty) (left : ℕ) : Type 0 where
      pub sort : IsTy (context c).trees ty
      pub may : MayVisit context g f c walk
      pub less : left ≤ levels
      pub some : GoesOverSome context shows resolve g f c walk.in_crate (ty_tree (context c).trees ty) left → GoesOverSome context shows resolve g f0 c0 walk.in_crate t levels
      pub ends : (f2 : F) (c2 : C) (new : Walk) → new.is_first ≡ false → GoesOverSome context shows resolve g f c walk.in_crate (ty_tree (context c).trees ty) left
          → Visits context shows resolve g (the_type (ty_tree (context c).trees ty)) left f c walk f2 c2 new (Ok tt) → Visits context shows resolve g (the_type t) levels f0 c0 walk f2 c2 new (Ok tt)
      pub breaks : (f2 : F) (c2 : C) (new : Walk) (x : EarlyExit E)
          → Visits context shows resolve g (the_type (ty_tree (context c).trees ty)) left f c walk f2 c2 new (Err x) → Visits context shows resolve g (the_type t) levels f0 c0 walk f2 c2 new (Err x)

    module _ (f : F) (c : C) (ty : Ty) (left : ℕ) (here : ComesDown f c ty left) where
      -- no level is left
      pub down-deep : left ≡ 0 → Visits context shows resolve g (the_type t) levels f0 c0 walk f c walk (Err (X.Broken (O.Stop WalkDepth)))
      down-deep z = here.breaks f c walk _ (visits-deep context shows resolve g f c walk left ty here.may z)

      module _ (some : left ≢ 0) (f1 : F) (c1 : C) (grows : Grows (context c) (context c1)) where
        -- the normaliser has no answer
        pub down-nothing : (e : NormalizeErr E) → IsViewed context g f c (Err e) f1 c1
            → ((d : Description F C V E) → IsFunction context g shows resolve d f c → IsToldAnswer d.untold (Err e)
            → view (λ s t. resolve s.1 t) d.normal (d.stands (f, c)) (ty_tree (context c).trees ty) ≡ record { seen = shown (context c1).trees (Err e); after = d.stands (f1, c1) })
            → Visits context shows resolve g (the_type t) levels f0 c0 walk f1 c1 walk (Err (broken_by e))
        down-nothing e viewed sees =
            here.breaks f1 c1 walk _ (visits-nothing context shows resolve g f c walk left ty here.may some f1 c1 grows e viewed sees (Err (broken_by e)) (broken_by e) refl refl)

        module _ (v : Ty) (sort : IsTy (context c1).trees v) (viewed : IsViewed context g f c (Ok v) f1 c1)
            (sees : (d : Description F C V E) → IsFunction context g shows resolve d f c → IsToldAnswer {E = E} d.untold (Ok v)
            → view (λ s t. resolve s.1 t) d.normal (d.stands (f, c)) (ty_tree (context c).trees ty) ≡ record { seen = shown (context c1).trees (Ok v); after = d.stands (f1, c1) }) where
          over-item : (k : ViewClass) → IsShape (context c1) walk.in_crate (ty_tree (context c1).trees v) (Sh.Item k)
              → GoesOverSome context shows resolve g f c walk.in_crate (ty_tree (context c).trees ty) left
          over-item k shape = λ d h. goes-item context shows resolve g f c walk left ty here.may some f1 c1 grows v sort viewed sees d h k shape (Ok tt)

          -- an item that was taken
          pub down-item : (k : ViewClass) → IsShape (context c1) walk.in_crate (ty_tree (context c1).trees v) (Sh.Item k)
              → (new : Walk) → new.in_crate ≡ walk.in_crate → new.seeks_local ≡ walk.seeks_local → IsTaken {E = E} walk new k v (Ok tt)
              → Visits context shows resolve g (the_type t) levels f0 c0 walk f1 c1 (ended new) (Ok tt) × GoesOverSome context shows resolve g f0 c0 walk.in_crate t levels
          down-item k shape new m s taken = (
            here.ends f1 c1 (ended new) refl (over-item k shape) (visits-item context shows resolve g f c walk left ty here.may some f1 c1 grows v sort viewed sees k shape new (Ok tt) m s taken),
            here.some (over-item k shape),
          )

          -- an item that breaks the walk off
          pub down-exit : (k : ViewClass) → IsShape (context c1) walk.in_crate (ty_tree (context c1).trees v) (Sh.Item k)
              → (new : Walk) (x : EarlyExit E) → new.in_crate ≡ walk.in_crate → new.seeks_local ≡ walk.seeks_local → IsTaken walk new k v (Err x)
              → Visits context shows resolve g (the_type t) levels f0 c0 walk f1 c1 (ended new) (Err x)
          down-exit k shape new x m s taken =
              here.breaks f1 c1 (ended new) x (visits-item context shows resolve g f c walk left ty here.may some f1 c1 grows v sort viewed sees k shape new (Err x) m s taken)

          -- a reference
          pub down-target : (u : Ty) → IsShape (context c1) walk.in_crate (ty_tree (context c1).trees v) (Sh.Target u) → ComesDown f1 c1 u (left - 1)
          down-target u shape = record {
            sort = shape.sort;
            may = may-visit context shows resolve g f c walk left ty here.may some f1 c1 grows v sort viewed sees;
            less = omega (arith, here.less);
            some = λ over. here.some (above over);
            ends = λ f2 c2 new first over visit. here.ends f2 c2 new first (above over)
                (subst (λ (w : Walk). Visits context shows resolve g (the_type (ty_tree (context c).trees ty)) left f c walk f2 c2 w (Ok tt)) (ended-same new first)
                (visits-target context shows resolve g f c walk left ty here.may some f1 c1 grows v sort viewed sees u shape f2 c2 new (Ok tt) visit over));
            breaks = λ f2 c2 new x visit. here.breaks f2 c2 new x
                (broken-walk _ left f c walk f2 c2 new x
                (visits-target context shows resolve g f c walk left ty here.may some f1 c1 grows v sort viewed sees u shape f2 c2 new (Err x) visit (λ d h. tt)));
          }
            where
              above : GoesOverSome context shows resolve g f1 c1 walk.in_crate (ty_tree (context c1).trees u) (left - 1)
                  → GoesOverSome context shows resolve g f c walk.in_crate (ty_tree (context c).trees ty) left
              above over = λ d h. goes-target context shows resolve g f c walk left ty here.may some f1 c1 grows v sort viewed sees d h u shape (Ok tt) (over d)

          -- a fundamental type
          pub down-arguments : (a : Args) → IsShape (context c1) walk.in_crate (ty_tree (context c1).trees v) (Sh.Arguments a)
              → GoesBelow context shows resolve g t levels f0 c0 walk f1 c1 a (left - 1)
          down-arguments a shape = record {
            sort = shape.sort;
            may = may-visit context shows resolve g f c walk left ty here.may some f1 c1 grows v sort viewed sees;
            less = omega (arith, here.less, some);
            some = here.some over;
            whole = λ f2 c2 new r visit. at f2 c2 new r visit;
          }
            where
              over : GoesOverSome context shows resolve g f c walk.in_crate (ty_tree (context c).trees ty) left
              over = λ d h. goes-arguments context shows resolve g f c walk left ty here.may some f1 c1 grows v sort viewed sees d h a shape (Ok tt)

              at : (f2 : F) (c2 : C) (new : Walk) (r : Result (Unit {0}) (EarlyExit E)) → Visits context shows resolve g (the_list (args_forest (context c1).trees a)) (left - 1) f1 c1 walk f2 c2 new r
                  → Visits context shows resolve g (the_type t) levels f0 c0 walk f2 c2 (ended new) r
              at f2 c2 new (Ok u) visit =
                  here.ends f2 c2 (ended new) refl over (visits-arguments context shows resolve g f c walk left ty here.may some f1 c1 grows v sort viewed sees a shape f2 c2 new (Ok tt) visit)
              at f2 c2 new (Err x) visit =
                  here.breaks f2 c2 (ended new) x (visits-arguments context shows resolve g f c walk left ty here.may some f1 c1 grows v sort viewed sees a shape f2 c2 new (Err x) visit)

  pub down-begun : (f : F) (c : C) (walk : Walk) (ty : Ty) (levels : ℕ) → IsTy (context c).trees ty → MayVisit context g f c walk
      → ComesDown (ty_tree (context c).trees ty) levels f c walk f c ty levels
  down-begun f c walk ty levels sort may = record {
    sort = sort;
    may = may;
    less = omega arith;
    some = λ over. over;
    ends = λ f2 c2 new first over visit. visit;
    breaks = λ f2 c2 new x visit. visit;
  }
