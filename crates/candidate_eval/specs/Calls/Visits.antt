-- What a visit of a walk asks, and what it comes to: said once, for a type and for the types of a list.
use Rattle.std.specs.Prelude.{◌≡◌, ◌≢◌, ◌<◌, ℕ, true, false, Option, Some, None, Result, Ok, Err, List, OnOk, IfErr}
use Rattle.std.specs.Fn.{Mut}
use Rattle.std.specs.Borrow.{MutBor}
use Rattle.ir_trees.specs.declared.ir.kinds.Args.{Args}
use Rattle.ir_trees.specs.declared.ir.kinds.Ty.{Ty}
use Rattle.ir_trees.specs.Declarations.Context.{Context}
use Rattle.ir_trees.specs.Syntax.Trees.{Forest, Tree}
use Rattle.ir_trees.specs.Syntax.Words.{IsArgs, args_forest}
use Rattle.candidate_eval.specs.declared.coherence.NormalizeErr.{NormalizeErr}
use Rattle.candidate_eval.specs.declared.coherence.OrphanStop.TheVariants as O
use Rattle.candidate_eval.specs.declared.coherence.walk.EarlyExit.{EarlyExit}
use Rattle.candidate_eval.specs.declared.coherence.walk.EarlyExit.TheVariants as X
use Rattle.candidate_eval.specs.declared.coherence.walk.Walk.{Walk}
use Rattle.candidate_eval.specs.Knowability.Calls.{IfDescribed}
use Rattle.candidate_eval.specs.Knowability.Normalizer.{Description, IsNormalizer, IsFunction, IsLeftByCalls}
use Rattle.candidate_eval.specs.Knowability.Orphan.{InCrate, Remote, View, view, Step}
use Rattle.candidate_eval.specs.Calls.Walk.{Setting, setting, classes, still, type_steps, list_steps, AreTypes, IsExit, Outcome, FirstOnce, SameWalk}

-- the walk after a visit
abbrev pub ended : Walk → Walk
ended w = record { in_crate = w.in_crate; seeks_local = w.seeks_local; is_first = false; non_local = w.non_local }

-- What is visited, by the steps of a frontier that a visit of it goes over.
abbrev pub Visited : Type 0 → Type 0 → Type 0
Visited S E = Setting → View S E → ℕ → S → List (Step S E)

abbrev pub the_type : {S E : Type 0} → Tree → Visited S E
the_type t p see n s = type_steps p see n s t

abbrev pub the_list : {S E : Type 0} → Forest → Visited S E
the_list a p see n s = list_steps p see n s a

module _ {C F E : Type 0} (context : C → Context) (g : Mut F (MutBor C × (Ty × Unit {0})) (Result Ty (NormalizeErr E) × (MutBor C × Unit {0}))) where
  -- Before a visit the normaliser can be used, and what was recorded are types of the context; before the first one has
  -- ended nothing was, and later at most the first entry is the first input.
  pub record MayVisit (f : F) (c : C) (walk : Walk) : Type 0 where
    pub normaliser : IsNormalizer context g f c
    pub recorded : AreTypes (context c).trees walk.non_local.items
    pub firsts : FirstOnce walk.is_first walk.non_local.items

module _ {C F V E : Type 0} (context : C → Context) (shows : C → V) (resolve : V → Tree → Tree) (g : Mut F (MutBor C × (Ty × Unit {0})) (Result Ty (NormalizeErr E) × (MutBor C × Unit {0}))) where
  -- The visit leaves what its calls leave, and keeps how the walk goes on. What it recorded and what broke it off are types
  -- of the context; in `Remote` that is no uncovered one. For a normaliser that is a function but for what is left open, it
  -- went over the steps of what is visited.
  pub record Visits (visited : Visited (F × V) E) (levels : ℕ) (f : F) (c : C) (walk : Walk) (f' : F) (c' : C) (walk' : Walk) (result : Result (Unit {0}) (EarlyExit E)) : Type 0 where
    pub calls : IsLeftByCalls context g levels f c f' c' (λ s. result ≡ Err (X.Broken (O.Stop s)))
    pub same : SameWalk walk walk'
    pub recorded : AreTypes (context c').trees walk'.non_local.items
    pub firsts : OnOk result (FirstOnce walk'.is_first walk'.non_local.items)
    pub exit : IfErr result (λ x. IsExit (context c').trees x)
    pub covers : (t : Ty) → walk.in_crate ≡ Remote → result ≢ Err (X.Uncovered t)
    pub outcome : (d : Description F C V E) → IsFunction context g shows resolve d f c
        → Outcome d.untold (context c').trees (classes (setting (context c) walk.in_crate)) walk walk' (d.stands (f, c)) (d.stands (f', c'))
        (visited (setting (context c) walk.in_crate) (view (λ s t. resolve s.1 t) d.normal) levels (d.stands (f, c))) result

  -- A visit of a type goes over some step: by the definition nothing after it is visited first.
  abbrev pub GoesOverSome : F → C → InCrate → Tree → ℕ → Type 0
  GoesOverSome f c m t levels =
      IfDescribed context shows resolve g f c (λ d. still true (type_steps (setting (context c) m) (view (λ s u. resolve s.1 u) d.normal) levels
      (d.stands (f, c)) t) ≡ false)

  -- The visit of a type comes to what a visit of these arguments comes to, with fewer levels left, after which it has ended.
  pub record GoesBelow (t : Tree) (levels : ℕ) (f : F) (c : C) (walk : Walk) (f' : F) (c' : C) (args : Args) (below : ℕ) : Type 0 where
    pub sort : IsArgs (context c').trees args
    pub may : MayVisit context g f' c' walk
    pub less : below < levels
    pub some : GoesOverSome f c walk.in_crate t levels
    pub whole : (f2 : F) (c2 : C) (new : Walk) (r : Result (Unit {0}) (EarlyExit E))
        → Visits (the_list (args_forest (context c').trees args)) below f' c' walk f2 c2 new r
        → Visits (the_type t) levels f c walk f2 c2 (ended new) r

  -- The visit of a type has ended, or goes on with the arguments of a fundamental type, or is broken off.
  abbrev pub VisitsDown : Tree → ℕ → F → C → Walk → F → C → Walk → Result (Option (Args × ℕ)) (EarlyExit E) → Type 0
  VisitsDown t levels f c walk f' c' walk' (Ok None) =
      Visits (the_type t) levels f c walk f' c' walk' (Ok tt) × (walk'.is_first ≡ false) × GoesOverSome f c walk.in_crate t levels
  VisitsDown t levels f c walk f' c' walk' (Ok (Some below)) = (walk' ≡ walk) × GoesBelow t levels f c walk f' c' below.0 below.1
  VisitsDown t levels f c walk f' c' walk' (Err x) = Visits (the_type t) levels f c walk f' c' walk' (Err x)
