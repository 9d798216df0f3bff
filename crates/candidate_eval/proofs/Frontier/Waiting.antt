-- The lists that a walk keeps while it visits below one of their types: what each of them comes to once that visit has ended, and how much is
-- left to visit.
use Rattle.std.proofs.Common.{◌≡◌, ◌≤◌, ◌<◌, ◌+◌, ◌-◌, ℕ, suc, false, List, [], ◌∷◌, ◌++◌, length, get_or, inl, Result, Ok, Err, refl, sym, ◌∙◌, ap, subst, arith}
use Rattle.std.specs.Fn.{Mut}
use Rattle.std.specs.Borrow.{MutBor}
use Rattle.ir_trees.specs.declared.ir.kinds.Args.{Args}
use Rattle.ir_trees.specs.declared.ir.kinds.Ty.{Ty}
use Rattle.ir_trees.specs.declared.ir.kinds.GenericArg.{GenericArg}
use Rattle.ir_trees.specs.declared.ir.kinds.GenericArg.TheVariants as A
use Rattle.ir_trees.specs.declared.ir.stop.Stop.TheVariants.{Memory}
use Rattle.ir_trees.specs.Declarations.Context.{Context}
use Rattle.ir_trees.specs.Syntax.Trees.{Tree, count}
use Rattle.ir_trees.specs.Syntax.Words.{IsArgs, ListFits, list_forest, args_forest, ty_tree}
use Rattle.ir_trees.proofs.Growth.Kept.{grows-refl}
use Rattle.ir_trees.proofs.Syntax.Members.{skip-all}
use Rattle.candidate_eval.specs.declared.coherence.NormalizeErr.{NormalizeErr}
use Rattle.candidate_eval.specs.declared.coherence.OrphanStop.TheVariants as O
use Rattle.candidate_eval.specs.declared.coherence.walk.EarlyExit.{EarlyExit}
use Rattle.candidate_eval.specs.declared.coherence.walk.EarlyExit.TheVariants as X
use Rattle.candidate_eval.specs.declared.coherence.walk.Pending.{Pending}
use Rattle.candidate_eval.specs.declared.coherence.walk.Walk.{Walk}
use Rattle.candidate_eval.specs.Calls.Visits.{MayVisit, Visits, GoesOverSome, GoesBelow, ended, the_type, the_list}
use Rattle.candidate_eval.proofs.Frontier.Descent.{broken-walk}
use Rattle.candidate_eval.proofs.Frontier.Weights.{weighed, total, less-next, less-below}
use Rattle.candidate_eval.proofs.Frontier.ListVisits.{AreVisited, none-visited, visits-all, one-skipped, one-visited, one-breaks}
use Rattle.candidate_eval.proofs.Interface.Stops.{deep-ends, depth-covers}

module _ {C F V E : Type 0} (context : C → Context) (shows : C → V) (resolve : V → Tree → Tree) (g : Mut F (MutBor C × (Ty × Unit {0})) (Result Ty (NormalizeErr E) × (MutBor C × Unit {0}))) where
  nothing-there : {T : Type 0} (xs : List T) → length xs ≡ 0 → xs ≡ []
  nothing-there [] e = refl
  nothing-there (x ∷ xs) e = absurd (omega (arith, e))

  -- Of a visit of a list that begins so: what has to be known for what surrounds it.
  abbrev Surrounds : Type 1
  Surrounds = F → C → Walk → Args → ℕ → Type 0

  -- what the visit of a list comes to, the whole does
  pub record IsWhole (whole : F → C → Walk → Result (Unit {0}) (EarlyExit E) → Type 0) (f : F) (c : C) (walk : Walk) (a : Args) (levels : ℕ) : Type 0 where
    pub comes : (f' : F) (c' : C) (walk' : Walk) (r : Result (Unit {0}) (EarlyExit E))
        → Visits context shows resolve g (the_list (args_forest (context c).trees a)) levels f c walk f' c' walk' r → whole f' c' walk' r

  -- A list waits for the visit of another one, below its last type that was begun.
  pub record Waits (around : Surrounds) (p : Pending) (f : F) (c : C) (walk : Walk) (a : Args) (levels : ℕ) : Type 0 where
    pub f0 : F
    pub c0 : C
    pub start : Walk
    pub may : MayVisit context g f0 c0 start
    pub sort : IsArgs (context c0).trees p.args
    pub within : p.next ≤ p.end
    pub end_is : p.end ≡ count (args_forest (context c0).trees p.args)
    pub goes_on : (f' : F) (c' : C) (walk' : Walk) → Visits context shows resolve g (the_list (args_forest (context c).trees a)) levels f c walk f' c' walk' (Ok tt)
        → AreVisited context shows resolve g p.levels p.args f0 c0 start p.next f' c' (ended walk')
    pub breaks : (f' : F) (c' : C) (walk' : Walk) (x : EarlyExit E) → Visits context shows resolve g (the_list (args_forest (context c).trees a)) levels f c walk f' c' walk' (Err x)
        → Visits context shows resolve g (the_list (args_forest (context c0).trees p.args)) p.levels f0 c0 start f' c' walk' (Err x)
    pub around_it : around f0 c0 start p.args p.levels

  -- the lists that wait, the outermost first
  pub AllWait : Surrounds → List Pending → Surrounds
  AllWait around [] = around
  AllWait around (p ∷ ps) = AllWait (Waits around p) ps

  pub wait-last : (around : Surrounds) (ps : List Pending) (p : Pending) → AllWait around (ps ++ p ∷ []) ≡ Waits (AllWait around ps) p
  unfolding AllWait
  wait-last around [] p = refl
  wait-last around (q ∷ qs) p = wait-last (Waits around q) qs p

  module _ (whole : F → C → Walk → Result (Unit {0}) (EarlyExit E) → Type 0) where
    abbrev Breaks : Surrounds → Type 0
    Breaks around =
        (f : F) (c : C) (walk : Walk) (a : Args) (levels : ℕ) → around f c walk a levels → (f' : F) (c' : C) (walk' : Walk) (x : EarlyExit E)
        → Visits context shows resolve g (the_list (args_forest (context c).trees a)) levels f c walk f' c' walk' (Err x) → whole f' c' walk' (Err x)

    all-break : (around : Surrounds) → Breaks around → (ps : List Pending) → Breaks (AllWait around ps)
    unfolding AllWait
    all-break around h [] = h
    all-break around h (p ∷ ps) =
        all-break (Waits around p) (λ f c walk a levels w f' c' walk' x v. h w.f0 w.c0 w.start p.args p.levels w.around_it f' c' walk' x (w.breaks f' c' walk' x v)) ps

    -- a list that is visited, with those that wait for it
    pub record AreVisitedWithin (ps : List Pending) (p : Pending) (f : F) (c : C) (walk : Walk) : Type 0 where
      pub f0 : F
      pub c0 : C
      pub start : Walk
      pub may : MayVisit context g f0 c0 start
      pub sort : IsArgs (context c0).trees p.args
      pub within : p.next ≤ p.end
      pub end_is : p.end ≡ count (args_forest (context c0).trees p.args)
      pub visited : AreVisited context shows resolve g p.levels p.args f0 c0 start p.next f c walk
      pub waiting : AllWait (IsWhole whole) ps f0 c0 start p.args p.levels

    -- what breaks the visit of the last list off breaks the whole off
    pub breaks-whole : (ps : List Pending) (f : F) (c : C) (walk : Walk) (a : Args) (levels : ℕ) → AllWait (IsWhole whole) ps f c walk a levels
        → (f' : F) (c' : C) (walk' : Walk) (x : EarlyExit E) → Visits context shows resolve g (the_list (args_forest (context c).trees a)) levels f c walk f' c' walk' (Err x) → whole f' c' walk' (Err x)
    breaks-whole ps f c walk a levels w f' c' walk' x v =
        all-break (IsWhole whole) (λ f c walk a levels w f' c' walk' x v. w.comes f' c' walk' (Err x) v) ps f c walk a levels w f' c' walk' x v

    -- a list is begun
    pub within-begun : (ps : List Pending) (f : F) (c : C) (walk : Walk) (a : Args) (levels n : ℕ) → MayVisit context g f c walk → IsArgs (context c).trees a → n ≡ count (args_forest (context c).trees a)
        → AllWait (IsWhole whole) ps f c walk a levels → AreVisitedWithin ps (record { args = a; next = 0; end = n; levels = levels }) f c walk
    within-begun ps f c walk a levels n may sort e w = record {
      f0 = f;
      c0 = c;
      start = walk;
      may = may;
      sort = sort;
      within = omega arith;
      end_is = e;
      visited = none-visited context shows resolve g levels a f c walk may;
      waiting = w;
    }

    -- the whole list is begun
    pub within-first : (f : F) (c : C) (walk : Walk) (a : Args) (levels n : ℕ) → MayVisit context g f c walk → IsArgs (context c).trees a → n ≡ count (args_forest (context c).trees a)
        → ((f' : F) (c' : C) (walk' : Walk) (r : Result (Unit {0}) (EarlyExit E)) → Visits context shows resolve g (the_list (args_forest (context c).trees a)) levels f c walk f' c' walk' r → whole f' c' walk' r)
        → AreVisitedWithin [] (record { args = a; next = 0; end = n; levels = levels }) f c walk
    unfolding AllWait
    within-first f c walk a levels n may sort e comes = within-begun [] f c walk a levels n may sort e (record { comes = comes })

    module _ (ps : List Pending) (p : Pending) (f : F) (c : C) (walk : Walk) (here : AreVisitedWithin ps p f c walk) where
      -- all of the list was visited, and none waits
      pub within-all : p.next ≡ p.end → length ps ≡ 0 → whole f c walk (Ok tt)
      unfolding AllWait
      within-all e zero_long =
          let none : ps ≡ [] = nothing-there ps zero_long in
          let at : AllWait (IsWhole whole) [] here.f0 here.c0 here.start p.args p.levels = subst (λ (qs : List Pending). AllWait (IsWhole whole) qs here.f0 here.c0 here.start p.args p.levels) none here.waiting in
          at.comes f c walk (Ok tt) (visits-all context shows resolve g p.levels p.args here.f0 here.c0 here.start here.may p.next f c walk here.visited (skip-all _ p.next (e ∙ here.end_is)))

      -- all of the list was visited, and the last one that waits goes on
      pub within-back : p.next ≡ p.end → (qs : List Pending) (q : Pending) → ps ≡ qs ++ q ∷ [] → AreVisitedWithin qs q f c (ended walk)
      within-back e qs q last =
          let w : Waits (AllWait (IsWhole whole) qs) q here.f0 here.c0 here.start p.args p.levels =
          subst (λ (x : Surrounds). x here.f0 here.c0 here.start p.args p.levels) (ap (AllWait (IsWhole whole)) last ∙ wait-last (IsWhole whole) qs q) here.waiting in
          record {
            f0 = w.f0;
            c0 = w.c0;
            start = w.start;
            may = w.may;
            sort = w.sort;
            within = w.within;
            end_is = w.end_is;
            visited = w.goes_on f c walk (visits-all context shows resolve g p.levels p.args here.f0 here.c0 here.start here.may p.next f c walk here.visited (skip-all _ p.next (e ∙ here.end_is)));
            waiting = w.around_it;
          }

      module _ (some : p.next < p.end) (xs : List GenericArg) (arg : GenericArg) (fits : ListFits (context c).trees xs)
          (list : list_forest (context c).trees xs ≡ args_forest (context c).trees p.args) (below : p.next < length xs) where
        -- a member that is no type
        pub within-skipped : ((u : Ty) → get_or xs p.next arg ≡ A.Ty u → ⊥) → AreVisitedWithin ps (record p { next = p.next + 1 }) f c walk
        within-skipped never = record {
          f0 = here.f0;
          c0 = here.c0;
          start = here.start;
          may = here.may;
          sort = here.sort;
          within = omega (arith, some);
          end_is = here.end_is;
          visited = one-skipped context shows resolve g p.levels p.args here.f0 here.c0 here.start here.may p.next f c walk here.visited here.sort xs arg fits list below never;
          waiting = here.waiting;
        }

        module _ (u : Ty) (is : get_or xs p.next arg ≡ A.Ty u) (f1 : F) (c1 : C) (next : Walk) where
          -- a type
          pub within-visited : Visits context shows resolve g (the_type (ty_tree (context c).trees u)) p.levels f c walk f1 c1 next (Ok tt) → next.is_first ≡ false
              → GoesOverSome context shows resolve g f c walk.in_crate (ty_tree (context c).trees u) p.levels
              → AreVisitedWithin ps (record p { next = p.next + 1 }) f1 c1 next
          within-visited visit first goes = record {
            f0 = here.f0;
            c0 = here.c0;
            start = here.start;
            may = here.may;
            sort = here.sort;
            within = omega (arith, some);
            end_is = here.end_is;
            visited = one-visited context shows resolve g p.levels p.args here.f0 here.c0 here.start here.may p.next f c walk here.visited here.sort xs arg fits list below u is f1 c1 next visit first goes;
            waiting = here.waiting;
          }

          -- a type that breaks the walk off
          pub within-broken : (x : EarlyExit E) → Visits context shows resolve g (the_type (ty_tree (context c).trees u)) p.levels f c walk f1 c1 next (Err x) → whole f1 c1 next (Err x)
          within-broken x visit =
              breaks-whole ps here.f0 here.c0 here.start p.args p.levels here.waiting f1 c1 next x
              (one-breaks context shows resolve g p.levels p.args here.f0 here.c0 here.start here.may p.next f c walk here.visited here.sort xs arg fits list below u is f1 c1 next x x (Err x) refl refl visit)

          module _ (a : Args) (levels : ℕ) (down : GoesBelow context shows resolve g (ty_tree (context c).trees u) p.levels f c walk f1 c1 a levels) where
            waits : Waits (AllWait (IsWhole whole) ps) (record p { next = p.next + 1 }) f1 c1 walk a levels
            waits = record {
              f0 = here.f0;
              c0 = here.c0;
              start = here.start;
              may = here.may;
              sort = here.sort;
              within = omega (arith, some);
              end_is = here.end_is;
              goes_on = λ f' c' walk' v.
                  one-visited context shows resolve g p.levels p.args here.f0 here.c0 here.start here.may p.next f c walk here.visited here.sort xs arg fits list below u is f' c' (ended walk')
                  (down.whole f' c' walk' (Ok tt) v) refl down.some;
              breaks = λ f' c' walk' x v.
                  one-breaks context shows resolve g p.levels p.args here.f0 here.c0 here.start here.may p.next f c walk here.visited here.sort xs arg fits list below u is f' c' walk' x x (Err x) refl refl
                  (broken-walk context shows resolve g (the_type (ty_tree (context c).trees u)) p.levels f c walk f' c' walk' x (down.whole f' c' walk' (Err x) v));
              around_it = here.waiting;
            }

            -- a type below which a list is visited: this one waits then
            pub within-below : (n : ℕ) → n ≡ count (args_forest (context c1).trees a)
                → AreVisitedWithin (ps ++ record p { next = p.next + 1 } ∷ []) (record { args = a; next = 0; end = n; levels = levels }) f1 c1 walk
            within-below n e =
                within-begun _ f1 c1 walk a levels n down.may down.sort e
                (subst (λ (x : Surrounds). x f1 c1 walk a levels) (sym (wait-last (IsWhole whole) ps (record p { next = p.next + 1 }))) waits)

            -- it can't wait, since a growth was refused
            pub within-refused : whole f1 c1 walk (Err (X.Broken (O.Stop Memory)))
            unfolding waits
            within-refused =
                breaks-whole ps here.f0 here.c0 here.start p.args p.levels here.waiting f1 c1 walk _
                (waits.breaks f1 c1 walk _ (record {
                  calls = record {
                    grows = grows-refl (context c1);
                    calls = [];
                    lead = (refl, refl);
                    ends = tt;
                    passed_on = λ s e. absurd e;
                    cause = λ s e. inl (deep-ends Memory s e);
                  };
                  same = record { in_crate = refl; seeks_local = refl };
                  recorded = down.may.recorded;
                  firsts = tt;
                  exit = tt;
                  covers = λ t m. depth-covers Memory t;
                  outcome = λ d h told. absurd (told Memory d.refused refl);
                }))

-- How much is left to visit.

abbrev pub members_left : Pending → ℕ
members_left p = p.end - p.next

abbrev pub levels_left : Pending → ℕ
levels_left p = p.levels

abbrev pub left_of : Pending → ℕ
left_of p = weighed members_left levels_left p

abbrev pub left_of_all : List Pending → ℕ
left_of_all ps = total members_left levels_left ps

-- one member fewer
pub one-fewer : (ps : List Pending) (p : Pending) → p.next < p.end → left_of (record p { next = p.next + 1 }) + left_of_all ps < left_of p + left_of_all ps
one-fewer ps p h =
    let e : p.end - p.next ≡ suc (p.end - (p.next + 1)) = omega (arith, h) in
    less-next members_left levels_left ps p (record p { next = p.next + 1 }) e refl

-- a list below
pub fewer-below : (ps : List Pending) (p : Pending) (n l : ℕ) (a : Args) → p.next < p.end → n < 18446744073709551616 → l < p.levels
    → left_of (record { args = a; next = 0; end = n; levels = l }) + left_of_all (ps ++ record p { next = p.next + 1 } ∷ []) < left_of p + left_of_all ps
fewer-below ps p n l a h small deep =
    let e : p.end - p.next ≡ suc (p.end - (p.next + 1)) = omega (arith, h) in
    less-below members_left levels_left ps p (record p { next = p.next + 1 }) (record { args = a; next = 0; end = n; levels = l }) e refl (omega (arith, small)) deep
