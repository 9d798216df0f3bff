-- A visit of the types of a list, as a loop over its members.
use Rattle.std.proofs.Common.{◌≡◌, ◌+◌, ◌<◌, ℕ, true, false, List, length, get_or, Result, Ok, Err, refl, sym, ◌∙◌, ap, subst}
use Rattle.std.specs.Fn.{Mut}
use Rattle.std.specs.Borrow.{MutBor}
use Rattle.ir_trees.specs.declared.ir.kinds.Ty.{Ty}
use Rattle.ir_trees.specs.declared.ir.kinds.Args.{Args}
use Rattle.ir_trees.specs.declared.ir.kinds.GenericArg.{GenericArg}
use Rattle.ir_trees.specs.declared.ir.kinds.GenericArg.TheVariants as A
use Rattle.ir_trees.specs.Declarations.Context.{Context, Grows}
use Rattle.ir_trees.specs.Syntax.Trees.{Tree, none, skip}
use Rattle.ir_trees.specs.Syntax.Words.{IsArgs, ListFits, list_forest, args_forest, ty_tree}
use Rattle.ir_trees.proofs.Growth.Kept.{grows-refl, grows-trans}
use Rattle.candidate_eval.specs.declared.coherence.NormalizeErr.{NormalizeErr}
use Rattle.candidate_eval.specs.declared.coherence.walk.EarlyExit.{EarlyExit}
use Rattle.candidate_eval.specs.declared.coherence.walk.Walk.{Walk}
use Rattle.candidate_eval.specs.Knowability.Normalizer.{Description, IsFunction, IsReached}
use Rattle.candidate_eval.specs.Knowability.Orphan.{view}
use Rattle.candidate_eval.specs.Calls.Visits.{MayVisit, Visits, the_type, the_list}
use Rattle.candidate_eval.specs.Calls.Walk.{setting, type_steps, still, AreTypes, FirstOnce, SameWalk}
use Rattle.candidate_eval.proofs.Frontier.Calls.{function-later, normalizer-later, reached-same, reached-then}
use Rattle.candidate_eval.proofs.Frontier.Causes.{left-after, left-quietly, left-reached}
use Rattle.candidate_eval.proofs.Frontier.Lists.{Sofar, sofar-begin, sofar-end}
use Rattle.candidate_eval.proofs.Frontier.Loops.{next-skip, next-visit, next-found}
use Rattle.candidate_eval.proofs.Interface.Stops.{walk-goes-on, is-answer}

module _ {C F V E : Type 0} (context : C → Context) (shows : C → V) (resolve : V → Tree → Tree) (g : Mut F (MutBor C × (Ty × Unit {0})) (Result Ty (NormalizeErr E) × (MutBor C × Unit {0})))
    (levels : ℕ) (a : Args) (f0 : F) (c0 : C) (start : Walk) where
  -- as many members were visited, and this is left
  pub record AreVisited (i : ℕ) (f : F) (c : C) (walk : Walk) : Type 0 where
    pub grows : Grows (context c0) (context c)
    pub calls : IsReached context g f0 c0 f c
    pub same : SameWalk start walk
    pub recorded : AreTypes (context c).trees walk.non_local.items
    pub firsts : FirstOnce walk.is_first walk.non_local.items
    pub sofar : (d : Description F C V E) → IsFunction context g shows resolve d f0 c0
        → Sofar (setting (context c0) start.in_crate) (view (λ s t. resolve s.1 t) d.normal) levels (context c).trees start walk (d.stands (f0, c0)) (d.stands (f, c))
        (args_forest (context c0).trees a) (skip i (args_forest (context c0).trees a))

  module _ (may : MayVisit context g f0 c0 start) where
    pub none-visited : AreVisited 0 f0 c0 start
    none-visited = record {
      grows = grows-refl (context c0);
      calls = reached-same context g f0 c0;
      same = record { in_crate = refl; seeks_local = refl };
      recorded = may.recorded;
      firsts = may.firsts;
      sofar = λ d h.
          sofar-begin (setting (context c0) start.in_crate) (view (λ s t. resolve s.1 t) d.normal) levels (context c0).trees start (d.stands (f0, c0)) (args_forest (context c0).trees a);
    }

    module _ (i : ℕ) (f : F) (c : C) (walk : Walk) (were : AreVisited i f c walk) where
      pub may-visit-next : MayVisit context g f c walk
      may-visit-next = record {
        normaliser = normalizer-later context g f0 c0 f c were.calls were.grows may.normaliser;
        recorded = were.recorded;
        firsts = were.firsts;
      }

      later : (d : Description F C V E) → IsFunction context g shows resolve d f0 c0 → IsFunction context g shows resolve d f c
      later d h = function-later context g f0 c0 f c were.calls were.grows shows resolve d h

      -- all were visited
      pub visits-all : skip i (args_forest (context c0).trees a) ≡ none
          → Visits context shows resolve g (the_list (args_forest (context c0).trees a)) levels f0 c0 start f c walk (Ok tt)
      visits-all e = record {
        calls = left-quietly context g levels f0 c0 f c _ were.calls were.grows (walk-goes-on tt);
        same = were.same;
        recorded = were.recorded;
        firsts = were.firsts;
        exit = tt;
        covers = λ u m. is-answer _ _;
        outcome = λ d h.
            sofar-end (setting (context c0) start.in_crate) (view (λ s t. resolve s.1 t) d.normal) levels (context c).trees start walk (d.stands (f0, c0)) (d.stands (f, c))
            (args_forest (context c0).trees a) (skip i (args_forest (context c0).trees a)) e (were.sofar d h);
      }

      module _ (sort : IsArgs (context c0).trees a) (xs : List GenericArg) (arg : GenericArg) (fits : ListFits (context c).trees xs)
          (list : list_forest (context c).trees xs ≡ args_forest (context c).trees a) (below : i < length xs) where
        -- a member that is no type
        pub one-skipped : ((u : Ty) → get_or xs i arg ≡ A.Ty u → ⊥) → AreVisited (i + 1) f c walk
        one-skipped never = record {
          grows = were.grows;
          calls = were.calls;
          same = were.same;
          recorded = were.recorded;
          firsts = were.firsts;
          sofar = λ d h.
              next-skip (view (λ s t. resolve s.1 t) d.normal) levels (context c0) (context c) were.grows a sort xs i arg fits list below start walk were.same
              (d.stands (f0, c0)) (d.stands (f, c)) never (were.sofar d h);
        }

        module _ (u : Ty) (is : get_or xs i arg ≡ A.Ty u) (f1 : F) (c1 : C) (next : Walk) where
          -- a type
          pub one-visited : Visits context shows resolve g (the_type (ty_tree (context c).trees u)) levels f c walk f1 c1 next (Ok tt) → next.is_first ≡ false
              → ((d : Description F C V E) → IsFunction context g shows resolve d f c
              → still true (type_steps (setting (context c) walk.in_crate) (view (λ s t. resolve s.1 t) d.normal) levels (d.stands (f, c)) (ty_tree (context c).trees u)) ≡ false)
              → AreVisited (i + 1) f1 c1 next
          one-visited visit first goes = record {
            grows = grows-trans (context c0) (context c) (context c1) were.grows visit.calls.grows;
            calls = reached-then context g f0 c0 f c f1 c1 were.calls (left-reached context g levels f c f1 c1 _ visit.calls (walk-goes-on tt));
            same = record { in_crate = visit.same.in_crate ∙ were.same.in_crate; seeks_local = visit.same.seeks_local ∙ were.same.seeks_local };
            recorded = visit.recorded;
            firsts = visit.firsts;
            sofar = λ d h.
                next-visit (view (λ s t. resolve s.1 t) d.normal) levels (context c0) (context c) were.grows a sort xs i arg fits list below start walk were.same
                (d.stands (f0, c0)) (d.stands (f, c)) u is (context c1) visit.calls.grows next (d.stands (f1, c1)) may.recorded were.recorded first
                (goes d (later d h)) (visit.outcome d (later d h)) (were.sofar d h);
          }

          -- a type that breaks the walk off
          pub one-breaks : (x y : EarlyExit E) (r : Result (Unit {0}) (EarlyExit E)) → r ≡ Err y → y ≡ x
              → Visits context shows resolve g (the_type (ty_tree (context c).trees u)) levels f c walk f1 c1 next (Err x)
              → Visits context shows resolve g (the_list (args_forest (context c0).trees a)) levels f0 c0 start f1 c1 next r
          one-breaks x y r j k visit =
              let P : Result (Unit {0}) (EarlyExit E) → Type 0 = λ z. Visits context shows resolve g (the_list (args_forest (context c0).trees a)) levels f0 c0 start f1 c1 next z in
              subst P (sym (j ∙ ap Err k))
              (record {
                calls = left-after context g levels f0 c0 f c f1 c1 _ _ were.calls were.grows (λ z e. e) (λ z e. e) visit.calls;
                same = record { in_crate = visit.same.in_crate ∙ were.same.in_crate; seeks_local = visit.same.seeks_local ∙ were.same.seeks_local };
                recorded = visit.recorded;
                firsts = tt;
                exit = visit.exit;
                covers = λ t m e. visit.covers t (were.same.in_crate ∙ m) e;
                outcome = λ d h.
                    next-found (view (λ s t. resolve s.1 t) d.normal) levels (context c0) (context c) were.grows a sort xs i arg fits list below start walk were.same
                    (d.stands (f0, c0)) (d.stands (f, c)) u is (context c1).trees next (d.stands (f1, c1)) x x (Err x) refl refl d.untold (visit.outcome d (later d h)) (were.sofar d h);
              })
