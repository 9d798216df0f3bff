-- A visit of a type in whole, by the shape of its view.
use Rattle.std.proofs.Common.{◌≡◌, ◌≢◌, ◌-◌, ℕ, true, false, Result, Ok, Err, refl, sym, ◌∙◌, ap, subst}
use Rattle.std.specs.Prelude.{OnOk}
use Rattle.std.specs.Fn.{Mut}
use Rattle.std.specs.Borrow.{MutBor}
use Rattle.ir_trees.specs.declared.ir.kinds.Ty.{Ty}
use Rattle.ir_trees.specs.declared.ir.kinds.Args.{Args}
use Rattle.ir_trees.specs.declared.ir.stop.Stop.TheVariants.{WalkDepth}
use Rattle.ir_trees.specs.Declarations.Context.{Context, Grows, world}
use Rattle.ir_trees.specs.Syntax.Trees.{Tree}
use Rattle.ir_trees.specs.Syntax.Words.{IsTy, ty_tree, args_forest}
use Rattle.candidate_eval.specs.declared.coherence.NormalizeErr.{NormalizeErr}
use Rattle.candidate_eval.specs.declared.coherence.OrphanStop.TheVariants as O
use Rattle.candidate_eval.specs.declared.coherence.table.ViewClass.{ViewClass}
use Rattle.candidate_eval.specs.declared.coherence.table.Shape.TheVariants as Sh
use Rattle.candidate_eval.specs.declared.coherence.walk.EarlyExit.{EarlyExit}
use Rattle.candidate_eval.specs.declared.coherence.walk.EarlyExit.TheVariants as X
use Rattle.candidate_eval.specs.declared.coherence.walk.Walk.{Walk}
use Rattle.candidate_eval.specs.Calls.Exits.{IsTaken, broken_by}
use Rattle.candidate_eval.specs.Knowability.Normalizer.{Description, IsToldAnswer, IsFunction, IsViewed, shown}
use Rattle.candidate_eval.specs.Knowability.Orphan.{view, crate_test}
use Rattle.candidate_eval.specs.Calls.Shapes.{IsShape}
use Rattle.candidate_eval.specs.Calls.Visits.{MayVisit, Visits, ended, the_type, the_list}
use Rattle.candidate_eval.specs.Calls.Walk.{setting, type_steps, still}
use Rattle.candidate_eval.proofs.Frontier.Calls.{function-later, normalizer-later}
use Rattle.candidate_eval.proofs.Frontier.Causes.{table-unnameable, take-stop, left-deep, viewed-reached, viewed-nothing, viewed-item, viewed-below}
use Rattle.candidate_eval.proofs.Frontier.Recorded.{table-covers, take-covers, broken-covers, taken-once, ended-once}
use Rattle.candidate_eval.proofs.Interface.Stops.{view-ends, view-stops, stops-view, deep-ends, depth-covers, broken-exit, level-left, some-level}
use Rattle.candidate_eval.proofs.Frontier.Visits.{visited-nothing, visited-item, visited-target, visited-arguments, item-some, target-some, arguments-some}
use Rattle.candidate_eval.proofs.Frontier.Walking.{too-deep, types-kept, item-types, item-exit}

module _ {C F V E : Type 0} (context : C → Context) (shows : C → V) (resolve : V → Tree → Tree) (g : Mut F (MutBor C × (Ty × Unit {0})) (Result Ty (NormalizeErr E) × (MutBor C × Unit {0})))
    (f : F) (c : C) (walk : Walk) (levels : ℕ) (ty : Ty) (may : MayVisit context g f c walk) where
  -- a visit of the type that leaves this
  abbrev Comes : F → C → Walk → Result (Unit {0}) (EarlyExit E) → Type 0
  Comes f' c' walk' r = Visits context shows resolve g (the_type (ty_tree (context c).trees ty)) levels f c walk f' c' walk' r

  -- no level is left
  pub visits-deep : levels ≡ 0 → Visits context shows resolve g (the_type (ty_tree (context c).trees ty)) levels f c walk f c walk (Err (X.Broken (O.Stop WalkDepth)))
  visits-deep z = record {
    calls = left-deep context g levels f c _ z (deep-ends WalkDepth);
    same = record { in_crate = refl; seeks_local = refl };
    recorded = may.recorded;
    firsts = tt;
    exit = tt;
    covers = λ u m. depth-covers WalkDepth u;
    outcome = λ d h told.
        too-deep (setting (context c) walk.in_crate) (view (λ s t. resolve s.1 t) d.normal) levels (d.stands (f, c)) (ty_tree (context c).trees ty) walk.seeks_local z;
  }

  module _ (some : levels ≢ 0) (f1 : F) (c1 : C) (grows : Grows (context c) (context c1)) where
    -- the normaliser has no answer
    pub visits-nothing : (e : NormalizeErr E) → IsViewed context g f c (Err e) f1 c1
        → ((d : Description F C V E) → IsFunction context g shows resolve d f c → IsToldAnswer d.untold (Err e)
        → view (λ s t. resolve s.1 t) d.normal (d.stands (f, c)) (ty_tree (context c).trees ty) ≡ record { seen = shown (context c1).trees (Err e); after = d.stands (f1, c1) })
        → (r : Result (Unit {0}) (EarlyExit E)) (y : EarlyExit E) → r ≡ Err y → y ≡ broken_by e
        → Visits context shows resolve g (the_type (ty_tree (context c).trees ty)) levels f c walk f1 c1 walk r
    visits-nothing e viewed sees r y i j =
        let P : Result (Unit {0}) (EarlyExit E) → Type 0 = λ x. Comes f1 c1 walk x in
        subst P (sym (i ∙ ap Err j))
        (record {
          calls = viewed-nothing context g f c (Err e) f1 c1 viewed levels _ grows (view-stops (Err (broken_by e)) (broken_by e) e refl refl) (stops-view (Err (broken_by e)) (broken_by e) e refl refl);
          same = record { in_crate = refl; seeks_local = refl };
          recorded = types-kept (context c) (context c1) walk.non_local.items grows may.recorded;
          firsts = tt;
          exit = broken-exit (context c1).trees e;
          covers = λ u m k. broken-covers e u cc;
          outcome = λ d h.
              visited-nothing (setting (context c) walk.in_crate) (view (λ s t. resolve s.1 t) d.normal) (context c1).trees levels (levels - 1) (level-left levels some)
              (d.stands (f, c)) (d.stands (f1, c1)) (ty_tree (context c).trees ty) e walk (Err (broken_by e)) (broken_by e) refl refl d.untold (sees d h);
        })

    module _ (v : Ty) (sort : IsTy (context c1).trees v) (viewed : IsViewed context g f c (Ok v) f1 c1)
        (sees : (d : Description F C V E) → IsFunction context g shows resolve d f c → IsToldAnswer {E = E} d.untold (Ok v)
        → view (λ s t. resolve s.1 t) d.normal (d.stands (f, c)) (ty_tree (context c).trees ty) ≡ record { seen = shown (context c1).trees (Ok v); after = d.stands (f1, c1) }) where
      -- what is visited below a view
      pub may-visit : MayVisit context g f1 c1 walk
      may-visit = record {
        normaliser = normalizer-later context g f c f1 c1 (viewed-reached context g f c (Ok v) f1 c1 viewed (view-ends v)) grows may.normaliser;
        recorded = types-kept (context c) (context c1) walk.non_local.items grows may.recorded;
        firsts = may.firsts;
      }

      later : (d : Description F C V E) → IsFunction context g shows resolve d f c → IsFunction context g shows resolve d f1 c1
      later d h = function-later context g f c f1 c1 (viewed-reached context g f c (Ok v) f1 c1 viewed (view-ends v)) grows shows resolve d h

      -- an item
      pub visits-item : (k : ViewClass) → IsShape (context c1) walk.in_crate (ty_tree (context c1).trees v) (Sh.Item k)
          → (new : Walk) (r : Result (Unit {0}) (EarlyExit E)) → new.in_crate ≡ walk.in_crate → new.seeks_local ≡ walk.seeks_local → IsTaken walk new k v r
          → Visits context shows resolve g (the_type (ty_tree (context c).trees ty)) levels f c walk f1 c1 (ended new) r
      visits-item k shape new r m s taken = record {
        calls = viewed-item context g f c (Ok v) f1 c1 viewed levels v refl k _ grows
            (λ z e. take-stop walk new k v r z taken e) (λ n. table-unnameable _ _ _ _ _ (shape.1 ∙ n));
        same = record { in_crate = m; seeks_local = s };
        recorded = item-types _ k walk new v r sort (types-kept (context c) (context c1) walk.non_local.items grows may.recorded) taken;
        firsts = taken-once walk new k v r may.firsts taken;
        exit = item-exit _ k walk new v r sort taken;
        covers = λ u n e.
            table-covers (world (context c1)) (crate_test walk.in_crate (context c1).local.0) walk.in_crate (ty_tree (context c1).trees v).head (ty_tree (context c1).trees v).children n
            (shape.1 ∙ take-covers walk new k v u r taken e);
        outcome = λ d h.
            visited-item (context c) (context c1) walk.in_crate grows (view (λ s t. resolve s.1 t) d.normal) levels (levels - 1) (level-left levels some)
            (d.stands (f, c)) (d.stands (f1, c1)) (ty_tree (context c).trees ty) v (sees d h (λ z o. view-ends v z)) k walk new (ended new) r shape refl taken d.untold d.refused;
      }

      -- a reference
      pub visits-target : (u : Ty) → IsShape (context c1) walk.in_crate (ty_tree (context c1).trees v) (Sh.Target u)
          → (f2 : F) (c2 : C) (new : Walk) (r : Result (Unit {0}) (EarlyExit E))
          → Visits context shows resolve g (the_type (ty_tree (context c1).trees u)) (levels - 1) f1 c1 walk f2 c2 new r
          → ((d : Description F C V E) → IsFunction context g shows resolve d f1 c1
          → OnOk r (still true (type_steps (setting (context c1) walk.in_crate) (view (λ s t. resolve s.1 t) d.normal) (levels - 1) (d.stands (f1, c1)) (ty_tree (context c1).trees u)) ≡ false))
          → Visits context shows resolve g (the_type (ty_tree (context c).trees ty)) levels f c walk f2 c2 (ended new) r
      visits-target u shape f2 c2 new r below goes = record {
        calls = viewed-below context g f c (Ok v) f1 c1 viewed levels v refl (some-level levels some) f2 c2 _ _ grows (λ z e. e) (λ z e. e) below.calls;
        same = record { in_crate = below.same.in_crate; seeks_local = below.same.seeks_local };
        recorded = below.recorded;
        firsts = ended-once _ _ r below.firsts;
        exit = below.exit;
        covers = below.covers;
        outcome = λ d h.
            visited-target (context c) (context c1) walk.in_crate grows (view (λ s t. resolve s.1 t) d.normal) levels (levels - 1) (level-left levels some)
            (d.stands (f, c)) (d.stands (f1, c1)) (ty_tree (context c).trees ty) v (sees d h (λ z o. view-ends v z)) u walk new (ended new) (d.stands (f2, c2)) (context c2).trees r shape refl
            (goes d (later d h)) d.untold (below.outcome d (later d h));
      }

      -- a fundamental type
      pub visits-arguments : (a : Args) → IsShape (context c1) walk.in_crate (ty_tree (context c1).trees v) (Sh.Arguments a)
          → (f2 : F) (c2 : C) (new : Walk) (r : Result (Unit {0}) (EarlyExit E))
          → Visits context shows resolve g (the_list (args_forest (context c1).trees a)) (levels - 1) f1 c1 walk f2 c2 new r
          → Visits context shows resolve g (the_type (ty_tree (context c).trees ty)) levels f c walk f2 c2 (ended new) r
      visits-arguments a shape f2 c2 new r below = record {
        calls = viewed-below context g f c (Ok v) f1 c1 viewed levels v refl (some-level levels some) f2 c2 _ _ grows (λ z e. e) (λ z e. e) below.calls;
        same = record { in_crate = below.same.in_crate; seeks_local = below.same.seeks_local };
        recorded = below.recorded;
        firsts = ended-once _ _ r below.firsts;
        exit = below.exit;
        covers = below.covers;
        outcome = λ d h.
            visited-arguments (context c) (context c1) walk.in_crate grows (view (λ s t. resolve s.1 t) d.normal) levels (levels - 1) (level-left levels some)
            (d.stands (f, c)) (d.stands (f1, c1)) (ty_tree (context c).trees ty) v (sees d h (λ z o. view-ends v z)) a walk new (ended new) (d.stands (f2, c2)) (context c2).trees r shape refl
            d.untold (below.outcome d (later d h));
      }

      -- each visit that goes on has gone over something
      module _ (d : Description F C V E) (h : IsFunction context g shows resolve d f c) where
        pub goes-item : (k : ViewClass) → IsShape (context c1) walk.in_crate (ty_tree (context c1).trees v) (Sh.Item k) → (r : Result (Unit {0}) (EarlyExit E))
            → OnOk r (still true (type_steps (setting (context c) walk.in_crate) (view (λ s t. resolve s.1 t) d.normal) levels (d.stands (f, c)) (ty_tree (context c).trees ty)) ≡ false)
        goes-item k shape r =
            item-some (context c) (context c1) walk.in_crate grows (view (λ s t. resolve s.1 t) d.normal) levels (levels - 1) (level-left levels some)
            (d.stands (f, c)) (d.stands (f1, c1)) (ty_tree (context c).trees ty) v (sees d h (λ z o. view-ends v z)) k r shape

        pub goes-target : (u : Ty) → IsShape (context c1) walk.in_crate (ty_tree (context c1).trees v) (Sh.Target u) → (r : Result (Unit {0}) (EarlyExit E))
            → ((k : IsFunction context g shows resolve d f1 c1)
            → OnOk r (still true (type_steps (setting (context c1) walk.in_crate) (view (λ s t. resolve s.1 t) d.normal) (levels - 1) (d.stands (f1, c1)) (ty_tree (context c1).trees u)) ≡ false))
            → OnOk r (still true (type_steps (setting (context c) walk.in_crate) (view (λ s t. resolve s.1 t) d.normal) levels (d.stands (f, c)) (ty_tree (context c).trees ty)) ≡ false)
        goes-target u shape r goes =
            target-some (context c) (context c1) walk.in_crate grows (view (λ s t. resolve s.1 t) d.normal) levels (levels - 1) (level-left levels some)
            (d.stands (f, c)) (d.stands (f1, c1)) (ty_tree (context c).trees ty) v (sees d h (λ z o. view-ends v z)) u r shape (goes (later d h))

        pub goes-arguments : (a : Args) → IsShape (context c1) walk.in_crate (ty_tree (context c1).trees v) (Sh.Arguments a) → (r : Result (Unit {0}) (EarlyExit E))
            → OnOk r (still true (type_steps (setting (context c) walk.in_crate) (view (λ s t. resolve s.1 t) d.normal) levels (d.stands (f, c)) (ty_tree (context c).trees ty)) ≡ false)
        goes-arguments a shape r =
            arguments-some (context c) (context c1) walk.in_crate grows (view (λ s t. resolve s.1 t) d.normal) levels (levels - 1) (level-left levels some)
            (d.stands (f, c)) (d.stands (f1, c1)) (ty_tree (context c).trees ty) v (sees d h (λ z o. view-ends v z)) a r shape
