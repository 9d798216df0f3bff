-- Looks, one after another: what the first one comes to, what those after it do, and that a pair of empty rows at the end changes
-- nothing.
use Rattle.std.proofs.Common.{◌≡◌, ◌≤◌, ◌<◌, ◌+◌, ◌&&◌, ℕ, zero, suc, Bool, true, false, List, [], ◌∷◌, ◌++◌, Option, Some, None, Result, Ok, Err, IfErr, OnOk, refl, sym, ◌∙◌, ap, subst, arith, if◌then◌else◌}
use Rattle.std.specs.Option.{option_map}
use Rattle.ir_trees.specs.declared.ir.heads.Head.{Head}
use Rattle.ir_trees.specs.declared.ir.heads.Head.TheVariants as H
use Rattle.ir_trees.specs.declared.ir.heads.Variable.{Variable}
use Rattle.ir_trees.specs.Unification.Substitutions.{alone}
use Rattle.ir_trees.specs.Syntax.Trees.{Forest, none, tree, Tree}
use Rattle.ir_trees.specs.Unification.Unify.{same_head}
use Rattle.candidate_eval.specs.declared.eval.refusal.NoSolutionOrStop.{NoSolutionOrStop}
use Rattle.candidate_eval.specs.Judges.States.{State}
use Rattle.candidate_eval.specs.Judges.Soundness.{is_region}
use Rattle.rounds_judge.specs.Equations.Binding.{may_take, bound}
use Rattle.rounds_judge.specs.Equations.Equating.{Pair, Visit, Done, Refused, Left, equated, first_of, looked, looks, matched, met, offered, taken, unified, value_for, visited, with_equal_regions}
use Rattle.rounds_judge.specs.Aliases.Listed.{Listing, current}
use Rattle.rounds_judge.specs.Equations.Scopes.{Scope, entered, placed_tree, scope_below}
use Rattle.rounds_judge.specs.Equations.Standing.{AreResolved, IsListing}
use Rattle.rounds_judge.proofs.Equations.Ending.{looked_enough, looks_some, unified_visit, visited_less, visited_resolved}

-- Further pairs stay at the end.

abbrev pub onto : List Pair → Visit → Visit
onto es Done = Done
onto es Refused = Refused
onto es (Left T ps) = Left T (ps ++ es)

module _ (S : State) (es : List Pair) where
  taken-onto : (v : Variable) (t : Tree) (more : List Pair) → taken S v t (more ++ es) ≡ option_map (onto es) (taken S v t more)
  taken-onto v t more = at (may_take S v t)
    where
      at : (b : Bool) → ◌≡◌ {A = Option Visit} (if b then Some (Left (bound S v t) (more ++ es)) else None) (option_map (onto es) (if b then Some (Left (bound S v t) more) else None))
      at true = refl
      at false = refl

  offered-onto : (l : Listing) (us : Scope) (h : Head) (t : Tree) (more : List Pair) → offered l S us h t (more ++ es) ≡ option_map (onto es) (offered l S us h t more)
  offered-onto l us (H.Infer v) t more = taken-onto v (value_for l S us t) more
  offered-onto l us _ t more = refl

  matched-onto : (us : Scope) (x y : Tree) (more : List Pair) → matched S us x y (more ++ es) ≡ onto es (matched S us x y more)
  matched-onto us x y more =
      at (with_equal_regions S (placed_tree us x) (placed_tree us y)) (entered S x.head x.children) (record { scope = scope_below S us x.head x.children; left = x.children; right = y.children })
      (is_region x.head && is_region y.head) (same_head x.head y.head)
    where
      at : (R B : State) (p : Pair) (b c : Bool) → ◌≡◌ {A = Visit} (if b then Left R (more ++ es) else (if c then Left B (p ∷ (more ++ es)) else Refused)) (onto es (if b then Left R more else (if c then Left B (p ∷ more) else Refused)))
      at R B p true c = refl
      at R B p false true = refl
      at R B p false false = refl

  first-onto : (o q : Option Visit) (w : Visit) → first_of (option_map (onto es) o) (option_map (onto es) q) (onto es w) ≡ onto es (first_of o q w)
  first-onto (Some v) q w = refl
  first-onto None (Some v) w = refl
  first-onto None None w = refl

  pub met-onto : (l : Listing) (us : Scope) (x y : Tree) (more : List Pair) → met l S us x y (more ++ es) ≡ onto es (met l S us x y more)
  met-onto l us x y more =
      ap (λ o. first_of o (offered l S us y.head x (more ++ es)) (matched S us x y (more ++ es))) (offered-onto l us x.head y more)
      ∙ (ap (λ o. first_of (option_map (onto es) (offered l S us x.head y more)) o (matched S us x y (more ++ es))) (offered-onto l us y.head x more)
      ∙ (ap (λ w. first_of (option_map (onto es) (offered l S us x.head y more)) (option_map (onto es) (offered l S us y.head x more)) w) (matched-onto us x y more)
      ∙ first-onto (offered l S us x.head y more) (offered l S us y.head x more) (matched S us x y more)))

  pub visited-onto : (l : Listing) (p : Pair) (more : List Pair) → visited l S (p ∷ (more ++ es)) ≡ onto es (visited l S (p ∷ more))
  visited-onto l p more = rows p.left p.right
    where
      rows : (a b : Forest) → visited l S (record { scope = p.scope; left = a; right = b } ∷ (more ++ es)) ≡ onto es (visited l S (record { scope = p.scope; left = a; right = b } ∷ more))
      rows none none = refl
      rows none (tree g b s) = refl
      rows (tree h a r) none = refl
      rows (tree h a r) (tree g b s) = met-onto l p.scope (current l S (record { head = h; children = a })) (current l S (record { head = g; children = b })) (record p { left = r; right = s } ∷ more)

abbrev pub no_rows : Scope → Pair
no_rows us = record { scope = us; left = none; right = none }

module _ (l : Listing) (listing : IsListing l) where
  -- one look more
  looked-then : (n : ℕ) (S : State) (ps : List Pair) (us : Scope) → AreResolved S → looks l S ps ≤ n → looked l (suc n) S (ps ++ no_rows us ∷ []) ≡ looked l n S ps
  looked-then zero S ps us r e = let one = looks_some l listing S ps in absurd (omega (arith, e, one))
  looked-then (suc n) S [] us r e = refl
  looked-then (suc n) S (p ∷ more) us r e =
      ap (λ w. elim w [ Done ↦ Some S | Refused ↦ None | Left T rest ↦ looked l (suc n) T rest ]) (visited-onto S (no_rows us ∷ []) l p more)
      ∙ at (visited l S (p ∷ more)) refl (λ T rest h f. looked-then n T rest us h f)
    where
      at_most : (j k : ℕ) → j < k → k ≤ suc n → j ≤ n
      at_most j k a b = omega (arith, a, b)

      at : (w : Visit) → visited l S (p ∷ more) ≡ w → ((T : State) (rest : List Pair) → AreResolved T → looks l T rest ≤ n → looked l (suc n) T (rest ++ no_rows us ∷ []) ≡ looked l n T rest)
          → ◌≡◌ {A = Option State} (elim (onto (no_rows us ∷ []) w) [ Done ↦ Some S | Refused ↦ None | Left T rest ↦ looked l (suc n) T rest ]) (elim w [ Done ↦ Some S | Refused ↦ None | Left T rest ↦ looked l n T rest ])
      at Done g ih = refl
      at Refused g ih = refl
      at (Left T rest) g ih = ih T rest (visited_resolved l listing S T (p ∷ more) rest r g) (at_most (looks l T rest) (looks l S (p ∷ more)) (visited_less l listing S T (p ∷ more) rest r g) e)

  unified-then : (S : State) (ps : List Pair) (us : Scope) → AreResolved S → unified l S (ps ++ no_rows us ∷ []) ≡ unified l S ps
  unified-then S ps us r =
      let n = looks l S (ps ++ no_rows us ∷ []) in
      let k = looks l S ps in
      looked_enough l listing n (suc (n + k)) S (ps ++ no_rows us ∷ []) r (omega arith) (omega arith)
      ∙ (looked-then (n + k) S ps us r (omega arith) ∙ looked_enough l listing (n + k) k S ps r (omega arith) (omega arith))

  -- What the first look comes to.

  pub unified-left : (S T : State) (ps rest : List Pair) → AreResolved S → visited l S ps ≡ Left T rest → unified l S ps ≡ unified l T rest
  unified-left S T ps rest r e = unified_visit l listing S ps r ∙ ap (λ w. elim w [ Done ↦ Some S | Refused ↦ None | Left T more ↦ unified l T more ]) e

  pub unified-refused : (S : State) (ps : List Pair) → AreResolved S → visited l S ps ≡ Refused → unified l S ps ≡ None
  unified-refused S ps r e = unified_visit l listing S ps r ∙ ap (λ w. elim w [ Done ↦ Some S | Refused ↦ None | Left T more ↦ unified l T more ]) e

  pub unified-nothing : (S : State) → AreResolved S → unified l S [] ≡ Some S
  unified-nothing S r = unified_visit l listing S [] r

  -- A call that looked once.
  module _ (S : State) (resolved_values : AreResolved S) where
    pub look-less : {A E : Type 0} (r : Result A E) (ps all : List Pair) (m : Listing) (T : State) (rest : List Pair) → m ≡ l → ps ≡ all → OnOk r (visited l S ps ≡ Left T rest) → OnOk r (looks m T rest < looks l S all)
    look-less (Ok a) ps all m T rest e f v = subst (λ m. looks m T rest < looks l S all) (sym e) (subst (λ qs. looks l T rest < looks l S qs) f (visited_less l listing S T ps rest resolved_values v))
    look-less (Err a) ps all m T rest e f v = tt

    pub look-on : {A E : Type 0} (r : Result A E) (ps all : List Pair) (m : Listing) (T : State) (rest : List Pair) → m ≡ l → ps ≡ all → OnOk r (visited l S ps ≡ Left T rest) → OnOk r (unified l S all ≡ unified m T rest)
    look-on (Ok a) ps all m T rest e f v = ap (unified l S) (sym f) ∙ (unified-left S T ps rest resolved_values v ∙ ap (λ m. unified m T rest) (sym e))
    look-on (Err a) ps all m T rest e f v = tt

    pub look-refused : {A : Type 0} (r : Result A NoSolutionOrStop) (ps all : List Pair) → ps ≡ all → IfErr r (λ e. e ≡ NoSolutionOrStop.NoSolution → visited l S ps ≡ Refused)
        → IfErr r (λ e. e ≡ NoSolutionOrStop.NoSolution → unified l S all ≡ None)
    look-refused (Ok a) ps all f v = tt
    look-refused (Err a) ps all f v = λ n. ap (unified l S) (sym f) ∙ unified-refused S ps resolved_values (v n)

  -- Two trees that meet first.

  module _ (S : State) (x y : Tree) (resolved_values : AreResolved S) where
    abbrev x_now : Tree
    x_now = current l S x

    abbrev y_now : Tree
    y_now = current l S y

    first-met : (w : Visit) → met l S [] x_now y_now [] ≡ w → visited l S (record { scope = []; left = alone x; right = alone y } ∷ []) ≡ onto (no_rows [] ∷ []) w
    first-met w e = met-onto S (no_rows [] ∷ []) l [] x_now y_now [] ∙ ap (onto (no_rows [] ∷ [])) e

    pub equated-left : (T : State) (ps : List Pair) → met l S [] x_now y_now [] ≡ Left T ps → equated l S (alone x) (alone y) ≡ unified l T ps
    equated-left T ps e =
        let whole : List Pair = record { scope = []; left = alone x; right = alone y } ∷ [] in
        let v = first-met (Left T ps) e in
        unified-left S T whole (ps ++ no_rows [] ∷ []) resolved_values v ∙ unified-then T ps [] (visited_resolved l listing S T whole (ps ++ no_rows [] ∷ []) resolved_values v)

    pub equated-refused : met l S [] x_now y_now [] ≡ Refused → equated l S (alone x) (alone y) ≡ None
    equated-refused e = unified-refused S (record { scope = []; left = alone x; right = alone y } ∷ []) resolved_values (first-met Refused e)
