-- What an object candidate asks for is what a rule with picks comes to.
use Rattle.std.proofs.Common.{◌≡◌, ℕ, suc, Bool, true, false, ◌&&◌, ◌+◌, ◌≤◌, Option, Some, None, List, [], ◌∷◌, ◌++◌, map, length, refl, sym, ◌∙◌, ap, subst, arith, append_assoc, All, slice_get}
use Rattle.std.specs.Prelude.{if◌then◌else◌, ◌||◌}
use Rattle.std.specs.List.{filter}
use Rattle.std.proofs.lemmas.List.{append-nil, length-append, length-map}
use Rattle.std.proofs.lemmas.Option.{slice_get-get_or, slice_get_within}
use Rattle.std.proofs.lemmas.List.Elements.{All-append, All-cons, All-filter, All-head, All-nil, All-same, All-tail, All-weaker, filter-append}
use Rattle.ir_trees.specs.declared.ir.heads.Head.{Head}
use Rattle.ir_trees.specs.Syntax.Binders.{escapes}
use Rattle.ir_trees.specs.Unification.Substitutions.{alone}
use Rattle.ir_trees.specs.Syntax.Trees.{Forest, none, tree, Tree, count, holds, is_param, join}
use Rattle.ir_trees.specs.Instantiation.Folding.{substituted_tree}
use Rattle.ir_trees.proofs.Instantiation.Folding.{substituted-nothing}
use Rattle.ir_folds.proofs.Traversal.FoldRows.{join-assoc}
use Rattle.ir_trees.proofs.Syntax.Rows.{join-none}
use Rattle.ir_trees.proofs.Syntax.Splits.{count-join, holds-join}
use Rattle.candidate_eval.specs.Judges.Alike.{JudgesAlike, LooksAlike}
use Rattle.candidate_eval.specs.Outcomes.Certainties.{Certainty, AMBIGUOUS}
use Rattle.candidate_eval.specs.Derivations.Characterization.{bound_kinds}
use Rattle.candidate_eval.specs.Derivations.Judging.{Place, At, Ambiguous, Refused, comes_to, concluded, continued, asked, at_state, go_on, matched, matches, made_fresh, picked, put_in, reached, run, is_at, settled_at, source_of, step, taken, with_goals}
use Rattle.candidate_eval.specs.Judges.Lawful.{Lawful}
use Rattle.candidate_eval.specs.Derivations.Mentions.{IsBelow, is_from, StepBelow, StepsBelow, EndingBelow, MatchesBelow}
use Rattle.candidate_eval.specs.Dynamic.ObjectRules.{match_of, matches_of, picks_of, projections_in, named_clauses, IsRuleTree, place_at, IsAskedByRule, IsUnknownByRule}
use Rattle.candidate_eval.specs.Dynamic.Objects.{Projection, IsAmbiguous, IsPicked, Tried, arguments_in, bound_equated, bound_matches, fresh_instance, is_about, is_equated, term_in, with_instance}
use Rattle.candidate_eval.specs.Interface.Evaluators.{with_left}
use Rattle.candidate_eval.specs.Derivations.Naming.{named_clause, names_from, row_of}
use Rattle.candidate_eval.specs.Dynamic.Replacing.{AreReplaced, AreStuck, Finds, Picks, any_is_about, filled_clause, found_or, item_of, own_item, own_projection, projection_if, projections, starts_with}
use Rattle.candidate_eval.specs.Derivations.Rules.{Match, Require, Step, fresh, enter, equate, quick, add, settle, pick, still_general, unknowable, Ending, ask, characterise}
use Rattle.candidate_eval.specs.Judges.States.{Env, State, Judge, Pending, fresh_variables, with_pending, is_some, next}
use Rattle.candidate_eval.proofs.Marks.Marking.{below-more}
use Rattle.candidate_eval.proofs.Derivations.NamedTerms.{AreClosed, filled-names-among}
use Rattle.candidate_eval.proofs.Derivations.Naming.{named-arguments, named-term, named-below, term-below, term-closed, instance-longer}

-- A bound is matched at a place as it is equated at its state.

below-free : (mark : Head → Bool) (c : Tree) → holds mark (alone c) ≡ false → holds mark c.children ≡ false
below-free mark c e = at (mark c.head) (holds mark c.children) e
  where
    at : (a b : Bool) → a || (b || false) ≡ false → b ≡ false
    at true b e = absurd cc
    at false true e = absurd cc
    at false false e = refl

-- a bound and a projection of which no name of a rule is a part
abbrev IsFree : Tree → Type 0
IsFree c = holds is_param (alone c) ≡ false

abbrev IsClear : Projection → Type 0
IsClear p = holds is_param p.arguments ≡ false

module _ (J : Judge) (e : Env) where
  one-matched : (S : State) (ls : Forest) (c : Tree) (p : Projection) → IsFree c → IsClear p
      → matched J e (place_at S ls) (match_of (count ls) p c) ≡ next (bound_equated J e S c p.arguments) (λ T. Some (place_at T (join ls (fresh_variables S (bound_kinds c.children)))))
  one-matched S ls c p free clear =
      let q = made_fresh (place_at S ls) (bound_kinds c.children) in
      ap (λ a. next (J.equated q.state e a (put_in q p.arguments)) (λ r. Some (with_goals q r))) (named-arguments S ls c (below-free is_param c free))
      ∙ (ap (λ b. next (J.equated q.state e (arguments_in (fresh_instance S c)) b) (λ r. Some (with_goals q r))) (substituted-nothing q.locals 0 p.arguments clear)
      ∙ by (J.equated q.state e (arguments_in (fresh_instance S c)) p.arguments))
    where
      by : (o : Option (List Pending × State)) → next o (λ r. Some (with_goals (made_fresh (place_at S ls) (bound_kinds c.children)) r))
          ≡ next (next o (λ r. Some (with_pending r.1 (r.1.pending ++ r.0)))) (λ T. Some (place_at T (join ls (fresh_variables S (bound_kinds c.children)))))
      by None = refl
      by (Some r) = refl

  settled-is : (o : Option State) (ls : Forest) → is_some (next (next o (λ T. Some (place_at T ls))) (settled_at J)) ≡ is_equated J o
  settled-is None ls = refl
  settled-is (Some T) ls = at (J.settled T)
    where
      at : (q : Option (Certainty × State)) → is_some (next q (λ r. Some (at_state (place_at T ls) r.1))) ≡ is_some q
      at None = refl
      at (Some q) = refl

  -- whether it matches
  match-is : (S : State) (ls : Forest) (c : Tree) (p : Projection) → IsFree c → IsClear p
      → matches J e Require (place_at S ls) (match_of (count ls) p c) ≡ is_equated J (bound_equated J e (with_pending S []) c p.arguments)
  match-is S ls c p free clear =
      ap (λ o. is_some (next o (settled_at J))) (one-matched (with_pending S []) ls c p free clear)
      ∙ settled-is (bound_equated J e (with_pending S []) c p.arguments) (join ls (fresh_variables (with_pending S []) (bound_kinds c.children)))

  -- which of the bounds match
  matching : (S : State) (ls : Forest) (p : Projection) (bs : List Tree) → All IsFree bs → IsClear p
      → filter (matches J e Require (place_at S ls)) (matches_of (count ls) bs p) ≡ map (match_of (count ls) p) (filter (λ c. bound_matches J e S c p) bs)
  matching S ls p [] a clear = refl
  matching S ls p (b ∷ bs) a clear =
      at (is_about p.item b.head) (is_equated J (bound_equated J e (with_pending S []) b p.arguments)) (match-is S ls b p (All-head IsFree b bs a) clear) (matching S ls p bs (All-tail IsFree b bs a) clear)
    where
      M : Match → Bool
      M = matches J e Require (place_at S ls)

      m : Tree → Match
      m = match_of (count ls) p

      about : Tree → Bool
      about c = is_about p.item c.head

      both : Tree → Bool
      both c = bound_matches J e S c p

      at : (x y : Bool) → M (m b) ≡ y → filter M (map m (filter about bs)) ≡ map m (filter both bs)
          → filter M (map m (if x then b ∷ filter about bs else filter about bs)) ≡ map m (if x && y then b ∷ filter both bs else filter both bs)
      at false y g more = more
      at true true g more = ap (λ z. if z then m b ∷ filter M (map m (filter about bs)) else filter M (map m (filter about bs))) g ∙ ap (λ ms. m b ∷ ms) more
      at true false g more = ap (λ z. if z then m b ∷ filter M (map m (filter about bs)) else filter M (map m (filter about bs))) g ∙ more

  -- Trying a bound from nothing, as steps.

  abbrev tries : Tree → Projection → List Step
  tries c p = fresh (bound_kinds c.children) ∷ equate (arguments_in (named_clause 0 c)) p.arguments ∷ []

  abbrev and-settled : Tree → Projection → List Step
  and-settled c p = fresh (bound_kinds c.children) ∷ equate (arguments_in (named_clause 0 c)) p.arguments ∷ settle ∷ []

  some-next : (o : Option State) (ls : Forest) → is_some (next o (λ T. Some (place_at T ls))) ≡ is_some o
  some-next None ls = refl
  some-next (Some T) ls = refl

  reached-at : (o : Option Place) → is_at (go_on (reached Refused o) (λ q. At q)) ≡ is_some o
  reached-at None = refl
  reached-at (Some q) = refl

  settled-reached : (o : Option Place) → is_at (go_on (reached Refused o) (λ q. go_on (reached Refused (settled_at J q)) (λ r. At r))) ≡ is_some (next o (settled_at J))
  settled-reached None = refl
  settled-reached (Some q) = reached-at (settled_at J q)

  equated-by : (S : State) (c : Tree) (p : Projection) → IsFree c → IsClear p → is_at (run J e (place_at S none) (tries c p)) ≡ is_some (bound_equated J e S c p.arguments)
  equated-by S c p free clear =
      reached-at (matched J e (place_at S none) (match_of 0 p c))
      ∙ (ap is_some (one-matched S none c p free clear) ∙ some-next (bound_equated J e S c p.arguments) (join none (fresh_variables S (bound_kinds c.children))))

  evaluated-by : (S : State) (c : Tree) (p : Projection) → IsFree c → IsClear p → is_at (run J e (place_at S none) (and-settled c p)) ≡ is_equated J (bound_equated J e S c p.arguments)
  evaluated-by S c p free clear =
      settled-reached (matched J e (place_at S none) (match_of 0 p c))
      ∙ (ap (λ o. is_some (next o (settled_at J))) (one-matched S none c p free clear) ∙ settled-is (bound_equated J e S c p.arguments) (join none (fresh_variables S (bound_kinds c.children))))

-- Of all members of a list, those before the last, and the last.

All-before : {A : Type 0} (P : A → Type 0) (xs : List A) (x : A) → All P (xs ++ x ∷ []) → All P xs
All-before P [] x a = All-nil P
All-before P (y ∷ ys) x a = All-cons P y ys (All-head P y (ys ++ x ∷ []) a) (All-before P ys x (All-tail P y (ys ++ x ∷ []) a))

All-last : {A : Type 0} (P : A → Type 0) (xs : List A) (x : A) → All P (xs ++ x ∷ []) → P x
All-last P [] x a = All-head P x [] a
All-last P (y ∷ ys) x a = All-last P ys x (All-tail P y (ys ++ x ∷ []) a)

-- So states that are alike try bounds alike.

longer : {A : Type 0} (xs ys : List A) → ((n : ℕ) (i : A) → slice_get xs n ≡ Some i → slice_get ys n ≡ Some i) → length xs ≤ length ys
longer [] ys k = omega arith
longer (x ∷ xs) ys k =
    let h = slice_get_within ys (length xs) _ (k (length xs) _ (slice_get-get_or (x ∷ xs) (length xs) x (omega arith))) in
    omega (arith, h)

longer-alike : (S T : State) → LooksAlike S T → length S.variables ≤ length T.variables
longer-alike S T l = longer S.variables T.variables l.kept

module _ (J : Judge) (law : JudgesAlike J) (e : Env) where
  module _ (S T : State) (a : J.alike S T) (c : Tree) (p : Projection) (free : IsFree c) (clear : IsClear p) (env : IsBelow (length S.variables) e) (below : IsBelow (length S.variables) (alone c))
      (arguments : IsBelow (length S.variables) p.arguments) where
    refused-alike : is_some (bound_equated J e T c p.arguments) ≡ is_some (bound_equated J e S c p.arguments)
    refused-alike =
        sym (equated-by J e T c p free clear)
        ∙ (law.same_refusals (length S.variables) (place_at S none) (place_at T none) e (tries J e c p) (law.alike_places S T none a refl) env (tt, (((named-below (length S.variables) 0 c below).0, arguments), tt))
        ∙ equated-by J e S c p free clear)

    matches-alike : bound_matches J e T c p ≡ bound_matches J e S c p
    matches-alike =
        ap (λ b. is_about p.item c.head && b)
        (sym (evaluated-by J e (with_pending T []) c p free clear)
        ∙ (law.same_refusals (length S.variables) (place_at (with_pending S []) none) (place_at (with_pending T []) none) e (and-settled J e c p)
        (law.alike_places (with_pending S []) (with_pending T []) none (law.alike_aside S T a) refl) env (tt, (((named-below (length S.variables) 0 c below).0, arguments), (tt, tt)))
        ∙ evaluated-by J e (with_pending S []) c p free clear))

  -- what was tried, and what matched, at the first state
  kept-one : (S : State) (p : Projection) (cs : List Tree) (c : Tree) (b : Bool) → bound_matches J e S c p ≡ b
      → filter (λ d. bound_matches J e S d p) (cs ++ c ∷ []) ≡ filter (λ d. bound_matches J e S d p) cs ++ (if b then c ∷ [] else [])
  kept-one S p cs c b m = filter-append (λ d. bound_matches J e S d p) cs (c ∷ []) ∙ ap (λ (x : Bool). filter (λ d. bound_matches J e S d p) cs ++ (if x then c ∷ [] else [])) m

  -- bounds and a projection that a rule may have at a state
  record AreFit (S : State) (p : Projection) (cs : List Tree) : Type 0 where
    free : All IsFree cs
    clear : IsClear p
    env : IsBelow (length S.variables) e
    below : All (λ (c : Tree). IsBelow (length S.variables) (alone c)) cs
    arguments : IsBelow (length S.variables) p.arguments

  fit-before : (S : State) (p : Projection) (cs : List Tree) (c : Tree) → AreFit S p (cs ++ c ∷ []) → AreFit S p cs
  fit-before S p cs c f = record {
    free = All-before IsFree cs c f.free;
    clear = f.clear;
    env = f.env;
    below = All-before (λ (c : Tree). IsBelow (length S.variables) (alone c)) cs c f.below;
    arguments = f.arguments;
  }

  tried-are : (S : State) (p : Projection) {cs ds : List Tree} {T : State} → Tried J e p S cs ds T → AreFit S p cs → J.alike S T × (ds ≡ filter (λ c. bound_matches J e S c p) cs)
  tried-are S p Tried.none_yet f = (law.alike_same S, refl)
  tried-are S p (Tried.found T c cs ds {U} t m a) f =
      let s = tried-are S p t (fit-before S p cs c f) in
      let here = sym (matches-alike S T s.0 c p (All-last IsFree cs c f.free) f.clear f.env (All-last (λ (c : Tree). IsBelow (length S.variables) (alone c)) cs c f.below) f.arguments) ∙ m in
      (law.alike_along S T U s.0 a, ap (λ (es : List Tree). es ++ c ∷ []) s.1 ∙ sym (kept-one S p cs c true here))
  tried-are S p (Tried.passed T c cs ds {U} t m a) f =
      let s = tried-are S p t (fit-before S p cs c f) in
      let here = sym (matches-alike S T s.0 c p (All-last IsFree cs c f.free) f.clear f.env (All-last (λ (c : Tree). IsBelow (length S.variables) (alone c)) cs c f.below) f.arguments) ∙ m in
      (law.alike_along S T U s.0 a, s.1 ∙ sym (kept-one S p cs c false here ∙ append-nil (filter (λ d. bound_matches J e S d p) cs)))

  -- the same at a state that is alike
  filter-alike : (S T : State) (p : Projection) → J.alike S T → (cs : List Tree) → AreFit S p cs → filter (λ c. bound_matches J e T c p) cs ≡ filter (λ c. bound_matches J e S c p) cs
  filter-alike S T p a [] f = refl
  filter-alike S T p a (c ∷ cs) f =
      let more = filter-alike S T p a cs (record {
        free = All-tail IsFree c cs f.free;
        clear = f.clear;
        env = f.env;
        below = All-tail (λ (c : Tree). IsBelow (length S.variables) (alone c)) c cs f.below;
        arguments = f.arguments;
      }) in
      let here = matches-alike S T a c p (All-head IsFree c cs f.free) f.clear f.env (All-head (λ (c : Tree). IsBelow (length S.variables) (alone c)) c cs f.below) f.arguments in
      ap (λ (b : Bool). if b then c ∷ filter (λ c. bound_matches J e T c p) cs else filter (λ c. bound_matches J e T c p) cs) here
      ∙ ap (λ (es : List Tree). if bound_matches J e S c p then c ∷ es else es) more

-- What mentions the first n variables alone mentions the first m alone, where m is no less.

module _ (n m : ℕ) (l : n ≤ m) where
  matches-more : (ms : List Match) → MatchesBelow n ms → MatchesBelow m ms
  matches-more [] b = tt
  matches-more (x ∷ ms) b = (below-more n m x.left l b.0, below-more n m x.right l b.1, below-more n m (alone x.term) l b.2, matches-more ms b.3)

  step-more : (s : Step) → StepBelow n s → StepBelow m s
  step-more (fresh ks) b = tt
  step-more (enter ks) b = tt
  step-more (equate x y) b = (below-more n m x l b.0, below-more n m y l b.1)
  step-more (quick x y) b = (below-more n m x l b.0, below-more n m y l b.1)
  step-more (add s c) b = below-more n m (alone c) l b
  step-more settle b = tt
  step-more (pick k ms) b = matches-more ms b
  step-more (still_general t) b = below-more n m (alone t) l b
  step-more (unknowable r) b = below-more n m r.arguments l b

  steps-more : (ss : List Step) → StepsBelow n ss → StepsBelow m ss
  steps-more [] b = tt
  steps-more (s ∷ ss) b = (step-more s b.0, steps-more ss b.1)

  ending-more : (end : Ending) → EndingBelow n end → EndingBelow m end
  ending-more (ask s c) b = tt
  ending-more (characterise c) b = below-more n m (alone c) l b

steps-join : (n : ℕ) (xs ys : List Step) → StepsBelow n xs → StepsBelow n ys → StepsBelow n (xs ++ ys)
steps-join n [] ys a b = b
steps-join n (x ∷ xs) ys a b = (a.0, steps-join n xs ys a.1 b)

-- Projections of which a rule may have picks.
abbrev IsPickable : ℕ → Projection → Type 0
IsPickable n p = IsClear p × IsBelow n p.arguments

matches-below : (n k : ℕ) (p : Projection) (bs : List Tree) → All (IsRuleTree n) bs → IsBelow n p.arguments → MatchesBelow n (matches_of k bs p)
matches-below n k p [] a g = tt
matches-below n k p (b ∷ bs) a g = at (is_about p.item b.head) (matches-below n k p bs (All-tail (IsRuleTree n) b bs a) g)
  where
    at : (x : Bool) → MatchesBelow n (matches_of k bs p) → MatchesBelow n (map (match_of k p) (if x then b ∷ filter (λ c. is_about p.item c.head) bs else filter (λ c. is_about p.item c.head) bs))
    at true more = let named = named-below n k b (All-head (IsRuleTree n) b bs a).below in (named.0, g, named.1, more)
    at false more = more

picks-below : (n k : ℕ) (bs : List Tree) (ps : List Projection) → All (IsRuleTree n) bs → All (IsPickable n) ps → StepsBelow n (picks_of k bs ps)
picks-below n k bs [] a g = tt
picks-below n k bs (p ∷ ps) a g = (matches-below n k p bs a (All-head (IsPickable n) p ps g).1, picks-below n (suc k) bs ps a (All-tail (IsPickable n) p ps g))

none-some : {A : Type 0} (o : Option A) → is_some o ≡ false → o ≡ None
none-some None e = refl
none-some (Some a) e = cc

-- One pick and several.

module _ (J : Judge) (laws : Lawful J) (e : Env) (n : ℕ) (env : IsBelow n e) (bs : List Tree) (bounds : All (IsRuleTree n) bs) where
  abbrev law : JudgesAlike J
  law = laws.alike_judged_alike

  abbrev pick-of : Forest → Projection → Step
  pick-of ls p = pick Require (matches_of (count ls) bs p)

  all-free : All IsFree bs
  all-free = All-weaker (IsRuleTree n) IsFree (λ c i. i.no_parameter) bs bounds

  -- where a rule stands
  record Stands (S : State) (ls : Forest) : Type 0 where
    there : n ≤ length S.variables
    locals : IsBelow (length S.variables) ls

  fits : (S : State) (p : Projection) → n ≤ length S.variables → IsPickable n p → AreFit J law e S p bs
  fits S p l i = record {
    free = all-free;
    clear = i.0;
    env = below-more n (length S.variables) e l env;
    below = All-weaker (IsRuleTree n) (λ (c : Tree). IsBelow (length S.variables) (alone c)) (λ c r. below-more n (length S.variables) (alone c) l r.below) bs bounds;
    arguments = below-more n (length S.variables) p.arguments l i.1;
  }

  -- from a state alike, at which the rule has the same variables
  moved : (S T : State) (ls : Forest) (p : Projection) (more : List Step) (end : Ending) → Stands S ls → J.alike S T → IsPickable n p → StepsBelow n more → EndingBelow n end
      → comes_to J e (place_at S ls) (pick-of ls p ∷ more) end ≡ comes_to J e (place_at T ls) (pick-of ls p ∷ more) end
  moved S T ls p more end w a i b c =
      let m = length S.variables in
      sym (law.same_answers m (place_at S ls) (place_at T ls) e (pick-of ls p ∷ more) end (law.alike_places S T ls a w.locals) (below-more n m e w.there env)
      (steps-more n m w.there (pick-of ls p ∷ more) (matches-below n (count ls) p bs bounds i.1, b)) (ending-more n m w.there end c))

  -- what a pick looks among at a state alike
  among : (S T : State) (ls : Forest) (p : Projection) (ds : List Tree) → n ≤ length S.variables → IsPickable n p → J.alike S T → ds ≡ filter (λ c. bound_matches J e S c p) bs
      → filter (matches J e Require (place_at T ls)) (matches_of (count ls) bs p) ≡ map (match_of (count ls) p) ds
  among S T ls p ds l i a q = matching J e T ls p bs all-free i.0 ∙ ap (map (match_of (count ls) p)) (filter-alike J law e S T p a bs (fits S p l i) ∙ sym q)

  -- what matches is a bound
  found-fits : (f : Tree → Bool) (d : Tree) → d ∷ [] ≡ filter f bs → IsRuleTree n d
  found-fits f d q = All-head (IsRuleTree n) d [] (All-same (IsRuleTree n) (d ∷ []) (filter f bs) q (All-filter f (IsRuleTree n) bs bounds))

  one-comes : (S T : State) (ls : Forest) (p : Projection) (u : Tree) → Stands S ls → IsPickable n p → IsPicked J e p S bs u T → (more : List Step) (end : Ending) → StepsBelow n more → EndingBelow n end
      → comes_to J e (place_at S ls) (pick-of ls p ∷ more) end ≡ comes_to J e (place_at T (join ls (alone u))) more end
  one-comes S T ls p u w i picked-by more end b c =
      let t = tried-are J law e S p picked-by.tried (fits S p w.there i) in
      let a = law.alike_along S picked-by.last picked-by.now t.0 picked-by.alike in
      let bound = picked-by.bound in
      let now = place_at picked-by.now ls in
      let free = (found-fits (λ c. bound_matches J e S c p) bound t.1).no_parameter in
      let m = match_of (count ls) p bound in
      let got = one-matched J e picked-by.now ls bound p free i.0 ∙ ap (λ o. next o (λ R. Some (place_at R (join ls (fresh_variables picked-by.now (bound_kinds bound.children)))))) picked-by.equated in
      let term = named-term picked-by.now ls bound (below-free is_param bound free) ∙ sym picked-by.is in
      let steps : step J e now (pick-of ls p) ≡ At (place_at T (join ls (alone u))) =
      ap (picked J e Require now) (among S picked-by.now ls p (bound ∷ []) w.there i a t.1)
      ∙ (ap (taken Require now m.term) got ∙ ap (λ v. At (place_at T (join ls (alone v)))) term) in
      moved S picked-by.now ls p more end w a i b c ∙ ap (λ r. continued J end (go_on r (λ q. run J e q more)) (λ q. concluded J e end q.state)) steps

  several : (p : Place) (ms : List Match) → (length ms ≡ 1 → ⊥) → picked J e Require p ms ≡ Ambiguous p.state
  several p [] l = refl
  several p (x ∷ []) l = absurd (l refl)
  several p (x ∷ y ∷ ms) l = refl

  -- where none is picked
  stuck-comes : (S T : State) (ls : Forest) (p : Projection) → Stands S ls → IsPickable n p → IsAmbiguous J e p S bs T → (more : List Step) (end : Ending) → StepsBelow n more → EndingBelow n end
      → comes_to J e (place_at S ls) (pick-of ls p ∷ more) end ≡ asked J T (source_of end) AMBIGUOUS
  stuck-comes S T ls p w i (IsAmbiguous.not_one ds t other) more end b c =
      let s = tried-are J law e S p t (fits S p w.there i) in
      let steps : step J e (place_at T ls) (pick-of ls p) ≡ Ambiguous T =
      ap (picked J e Require (place_at T ls)) (among S T ls p ds w.there i s.0 s.1) ∙ several (place_at T ls) (map (match_of (count ls) p) ds) (λ q. other (sym (length-map ds (match_of (count ls) p)) ∙ q)) in
      moved S T ls p more end w s.0 i b c ∙ ap (λ r. continued J end (go_on r (λ q. run J e q more)) (λ q. concluded J e end q.state)) steps
  stuck-comes S T ls p w i (IsAmbiguous.refused R d t r a) more end b c =
      let f = fits S p w.there i in
      let s = tried-are J law e S p t f in
      let along = law.alike_along S R T s.0 a in
      let bound = found-fits (λ c. bound_matches J e S c p) d s.1 in
      let below = below-more n (length S.variables) (alone d) w.there bound.below in
      let here = refused-alike J law e S T along d p bound.no_parameter i.0 f.env below f.arguments in
      let there = refused-alike J law e S R s.0 d p bound.no_parameter i.0 f.env below f.arguments in
      let none = none-some (bound_equated J e T d p.arguments) (here ∙ (sym there ∙ ap is_some r)) in
      let got = one-matched J e T ls d p bound.no_parameter i.0 ∙ ap (λ o. next o (λ Q. Some (place_at Q (join ls (fresh_variables T (bound_kinds d.children)))))) none in
      let steps : step J e (place_at T ls) (pick-of ls p) ≡ Ambiguous T =
      ap (picked J e Require (place_at T ls)) (among S T ls p (d ∷ []) w.there i along s.1) ∙ ap (taken Require (place_at T ls) (match_of (count ls) p d).term) got in
      moved S T ls p more end w along i b c ∙ ap (λ r. continued J end (go_on r (λ q. run J e q more)) (λ q. concluded J e end q.state)) steps
  stuck-comes S T ls p w i (IsAmbiguous.changed R Q d t x a r) more end b c =
      let f = fits S p w.there i in
      let s = tried-are J law e S p t f in
      let along = law.alike_along S R Q s.0 a in
      let bound = found-fits (λ c. bound_matches J e S c p) d s.1 in
      let below = below-more n (length S.variables) (alone d) w.there bound.below in
      let here = refused-alike J law e S Q along d p bound.no_parameter i.0 f.env below f.arguments in
      let there = refused-alike J law e S R s.0 d p bound.no_parameter i.0 f.env below f.arguments in
      let clash : true ≡ false = sym x ∙ (there ∙ (sym here ∙ ap is_some r)) in
      absurd cc

  -- Where the rule stands after a pick.

  longer-equated : (o : Option (List Pending × State)) (R T : State) → (((q : List Pending × State) → o ≡ Some q → length R.variables ≤ length q.1.variables)) → next o (λ q. Some (with_left q)) ≡ Some T
      → length R.variables ≤ length T.variables
  longer-equated None R T l q = cc
  longer-equated (Some r) R T l q = let same : with_left r ≡ T = cc in subst (λ (U : State). length R.variables ≤ length U.variables) same (l r refl)

  after-pick : (S T : State) (p : Projection) (u : Tree) → n ≤ length S.variables → IsPickable n p → IsPicked J e p S bs u T → (length S.variables ≤ length T.variables) × IsBelow (length T.variables) (alone u)
  after-pick S T p u l i picked-by =
      let t = tried-are J law e S p picked-by.tried (fits S p l i) in
      let R = picked-by.now in
      let bound = picked-by.bound in
      let first = longer-alike S R (law.alike_looks S R (law.alike_along S picked-by.last R t.0 picked-by.alike)) in
      let second = instance-longer R bound in
      let third = longer-equated (J.equated (with_instance R bound) e (arguments_in (fresh_instance R bound)) p.arguments) (with_instance R bound) T
      (λ q h. laws.equations.equating_keeps_variables (with_instance R bound) q.1 e (arguments_in (fresh_instance R bound)) p.arguments q.0 h) picked-by.equated in
      let below = below-more n (length R.variables) (alone bound) (omega (arith, l, first)) (found-fits (λ c. bound_matches J e S c p) bound t.1).below in (
        omega (arith, first, second, third),
        subst (λ (v : Tree). IsBelow (length T.variables) (alone v)) (sym picked-by.is)
            (below-more (length (with_instance R bound).variables) (length T.variables) (alone (term_in (fresh_instance R bound))) third (term-below R bound below)),
      )

  below-join : (m : ℕ) (a b : Forest) → IsBelow m a → IsBelow m b → IsBelow m (join a b)
  below-join m a b x y = holds-join (is_from m) a b ∙ (ap (λ z. z || holds (is_from m) b) x ∙ y)

  stands-after : (S T : State) (ls : Forest) (p : Projection) (u : Tree) → Stands S ls → IsPickable n p → IsPicked J e p S bs u T → Stands T (join ls (alone u))
  stands-after S T ls p u w i picked-by =
      let a = after-pick S T p u w.there i picked-by in
      record {
        there = let l = w.there in omega (arith, l, a.0);
        locals = below-join (length T.variables) ls (alone u) (below-more (length S.variables) (length T.variables) ls a.0 w.locals) a.1;
      }

  count-one : (ls : Forest) (u : Tree) → count (join ls (alone u)) ≡ suc (count ls)
  count-one ls u = count-join ls (alone u) ∙ (let s : count ls + 1 ≡ suc (count ls) = omega arith in s)

  -- Several picks.

  all-stand : (S T : State) (ls : Forest) (ps : List Projection) (us : List Tree) → Stands S ls → All (IsPickable n) ps → Picks J e bs S ps us T → Stands T (join ls (row_of us))
  all-stand S T ls ps us w a Picks.none_left = subst (Stands S) (sym (join-none ls)) w
  all-stand S U ls ps us w a (Picks.one {T = T} {p = p} {ps = qs} {u = u} {us = vs} i r) =
      subst (Stands U) (join-assoc ls (alone u) (row_of vs))
      (all-stand T U (join ls (alone u)) qs vs (stands-after S T ls p u w (All-head (IsPickable n) p qs a) i) (All-tail (IsPickable n) p qs a) r)

  all-come : (S T : State) (ls : Forest) (ps : List Projection) (us : List Tree) → Stands S ls → All (IsPickable n) ps → Picks J e bs S ps us T
      → (more : List Step) (end : Ending) → StepsBelow n more → EndingBelow n end
      → comes_to J e (place_at S ls) (picks_of (count ls) bs ps ++ more) end ≡ comes_to J e (place_at T (join ls (row_of us))) more end
  all-come S T ls ps us w a Picks.none_left more end b c = ap (λ ms. comes_to J e (place_at S ms) more end) (sym (join-none ls))
  all-come S U ls ps us w a (Picks.one {T = T} {p = p} {ps = qs} {u = u} {us = vs} i r) more end b c =
      let here = All-head (IsPickable n) p qs a in
      let rest = All-tail (IsPickable n) p qs a in
      let ms = join ls (alone u) in
      one-comes S T ls p u w here i (picks_of (suc (count ls)) bs qs ++ more) end (steps-join n (picks_of (suc (count ls)) bs qs) more (picks-below n (suc (count ls)) bs qs bounds rest) b) c
      ∙ (ap (λ k. comes_to J e (place_at T ms) (picks_of k bs qs ++ more) end) (sym (count-one ls u))
      ∙ (all-come T U ms qs vs (stands-after S T ls p u w here i) rest r more end b c
      ∙ ap (λ xs. comes_to J e (place_at U xs) more end) (join-assoc ls (alone u) (row_of vs))))

  picks-length : (S T : State) (ps : List Projection) (us : List Tree) → Picks J e bs S ps us T → length us ≡ length ps
  picks-length S T ps us Picks.none_left = refl
  picks-length S U ps us (Picks.one {T = T} {ps = qs} {us = vs} i r) = ap suc (picks-length T U qs vs r)

  count-row : (us : List Tree) → count (row_of us) ≡ length us
  count-row [] = refl
  count-row (u ∷ us) = let i = count-row us in omega (arith, i)

  picks-then : (k : ℕ) (ps qs : List Projection) → picks_of k bs (ps ++ qs) ≡ picks_of k bs ps ++ picks_of (k + length ps) bs qs
  picks-then k [] qs = ap (λ m. picks_of m bs qs) (let s : k ≡ k + 0 = omega arith in s)
  picks-then k (p ∷ ps) qs =
      ap (λ ss. pick Require (matches_of k bs p) ∷ ss) (picks-then (suc k) ps qs ∙ ap (λ m. picks_of (suc k) bs ps ++ picks_of m bs qs) (let s : suc k + length ps ≡ k + suc (length ps) = omega arith in s))

  -- where too little is known of one of them
  all-stuck : (S T U : State) (ls : Forest) (ps : List Projection) (p : Projection) (qs : List Projection) (us : List Tree) → Stands S ls → All (IsPickable n) (ps ++ p ∷ qs)
      → Picks J e bs S ps us T → IsAmbiguous J e p T bs U → (more : List Step) (end : Ending) → StepsBelow n more → EndingBelow n end
      → comes_to J e (place_at S ls) (picks_of (count ls) bs (ps ++ p ∷ qs) ++ more) end ≡ asked J U (source_of end) AMBIGUOUS
  all-stuck S T U ls ps p qs us w a r i more end b c =
      let before = first-all ps (p ∷ qs) a in
      let after = last-all ps (p ∷ qs) a in
      let k = count ls + length ps in
      let ms = join ls (row_of us) in
      let rest = picks_of (suc k) bs qs ++ more in
      let below = steps-join n (picks_of (suc k) bs qs) more (picks-below n (suc k) bs qs bounds (All-tail (IsPickable n) p qs after)) b in
      let here = All-head (IsPickable n) p qs after in
      let number : count ms ≡ k = count-join ls (row_of us) ∙ ap (λ m. count ls + m) (count-row us ∙ picks-length S T ps us r) in
      ap (λ ss. comes_to J e (place_at S ls) (ss ++ more) end) (picks-then (count ls) ps (p ∷ qs))
      ∙ (ap (λ ss. comes_to J e (place_at S ls) ss end) (append_assoc (picks_of (count ls) bs ps) (picks_of k bs (p ∷ qs)) more)
      ∙ (all-come S T ls ps us w before r (picks_of k bs (p ∷ qs) ++ more) end (matches-below n k p bs bounds here.1, below) c
      ∙ (ap (λ m. comes_to J e (place_at T ms) (pick Require (matches_of m bs p) ∷ rest) end) (sym number)
      ∙ stuck-comes T U ms p (all-stand S T ls ps us w before r) here i rest end below c)))
    where
      first-all : (xs ys : List Projection) → All (IsPickable n) (xs ++ ys) → All (IsPickable n) xs
      first-all [] ys a = All-nil (IsPickable n)
      first-all (x ∷ xs) ys a = All-cons (IsPickable n) x xs (All-head (IsPickable n) x (xs ++ ys) a) (first-all xs ys (All-tail (IsPickable n) x (xs ++ ys) a))

      last-all : (xs ys : List Projection) → All (IsPickable n) (xs ++ ys) → All (IsPickable n) ys
      last-all [] ys a = a
      last-all (x ∷ xs) ys a = last-all xs ys (All-tail (IsPickable n) x (xs ++ ys) a)

-- The projections in clauses are ones of which a rule may have picks.

own-arguments : (object : Tree) (bs : List Tree) (h : Head) (b : Forest) (p : Projection) → own_projection object bs h b ≡ Some p → p.arguments ≡ b
own-arguments object bs h b p q = of (item_of h) q
  where
    where-own : (i : ℕ) (x : Bool) → projection_if x i b ≡ Some p → p.arguments ≡ b
    where-own i false q = cc
    where-own i true q = let same : record { item = i; arguments = b } ≡ p = cc in sym (ap (λ (y : Projection). y.arguments) same)

    of : (o : Option ℕ) → own_item object bs b o ≡ Some p → p.arguments ≡ b
    of None q = cc
    of (Some i) q = where-own i (starts_with object b && any_is_about i bs) q

module _ (P : Forest → Type 0) (parts : (h : Head) (b r : Forest) → P (tree h b r) → P b × P r) (f : Finds) (own : (h : Head) (b : Forest) (p : Projection) → f h b ≡ Some p → p.arguments ≡ b) where
  abbrev IsOf : Projection → Type 0
  IsOf p = P p.arguments

  in-projections : (ts : Forest) → P ts → All IsOf (projections f ts)
  in-projections none a = All-nil IsOf
  in-projections (tree h b r) a =
      let q = parts h b r a in
      All-append IsOf (found_or (f h b) (projections f b)) (projections f r) (at (f h b) refl q.0 (in-projections b q.0)) (in-projections r q.1)
    where
      at : (o : Option Projection) → f h b ≡ o → P b → All IsOf (projections f b) → All IsOf (found_or o (projections f b))
      at None e x more = more
      at (Some p) e x more = All-cons IsOf p [] (subst P (sym (own h b p e)) x) (All-nil IsOf)

free-parts : (mark : Head → Bool) (h : Head) (b r : Forest) → holds mark (tree h b r) ≡ false → (holds mark b ≡ false) × (holds mark r ≡ false)
free-parts mark h b r e = at (mark h) (holds mark b) (holds mark r) e
  where
    at : (x y z : Bool) → x || (y || z) ≡ false → (y ≡ false) × (z ≡ false)
    at true y z e = absurd cc
    at false true z e = absurd cc
    at false false z e = (refl, e)

pickable : (n : ℕ) (object : Tree) (bs : List Tree) (c : Tree) → IsRuleTree n c → All (IsPickable n) (projections (own_projection object bs) c.children)
pickable n object bs c i =
    in-projections (λ ts. (holds is_param ts ≡ false) × IsBelow n ts)
    (λ h b r a. let x = free-parts is_param h b r a.0 in let y = free-parts (is_from n) h b r a.1 in ((x.0, y.0), (x.1, y.1)))
    (own_projection object bs) (own-arguments object bs) c.children (below-free is_param c i.no_parameter, below-free (is_from n) c i.below)

all-pickable : (n : ℕ) (object : Tree) (bs cs : List Tree) → All (IsRuleTree n) cs → All (IsPickable n) (projections_in (own_projection object bs) cs)
all-pickable n object bs [] a = All-nil (IsPickable n)
all-pickable n object bs (c ∷ cs) a =
    All-append (IsPickable n) (projections (own_projection object bs) c.children) (projections_in (own_projection object bs) cs)
    (pickable n object bs c (All-head (IsRuleTree n) c cs a)) (all-pickable n object bs cs (All-tail (IsRuleTree n) c cs a))

-- Clauses whose projections are replaced, one after the other.

module _ (J : Judge) (e : Env) (object : Tree) (bs : List Tree) where
  abbrev own : Finds
  own = own_projection object bs

  picks-join : (S T U : State) (ps qs : List Projection) (us vs : List Tree) → Picks J e bs S ps us T → Picks J e bs T qs vs U → Picks J e bs S (ps ++ qs) (us ++ vs) U
  picks-join S T U ps qs us vs Picks.none_left r = r
  picks-join S T U ps qs us vs (Picks.one {T = R} {ps = os} {us = ws} i more) r = Picks.one i (picks-join R T U os qs ws vs more r)

  terms-of : (S T : State) (cs ds : List Tree) → AreReplaced J e object bs S cs ds T → List Tree
  terms-of S T cs ds AreReplaced.none_left = []
  terms-of S U cs ds (AreReplaced.one {T = T} {cs = xs} {ds = ys} i r) = i.terms ++ terms-of T U xs ys r

  all-picks : (S T : State) (cs ds : List Tree) (r : AreReplaced J e object bs S cs ds T) → Picks J e bs S (projections_in own cs) (terms-of S T cs ds r) T
  unfolding terms-of
  all-picks S T cs ds AreReplaced.none_left = Picks.none_left
  all-picks S U cs ds (AreReplaced.one {T = T} {c = c} {cs = xs} {ds = ys} i r) =
      picks-join S T U (projections own c.children) (projections_in own xs) i.terms (terms-of T U xs ys r) i.picked (all-picks T U xs ys r)

  module _ (laws : Lawful J) (n : ℕ) (env : IsBelow n e) (bounds : All (IsRuleTree n) bs) (closed : AreClosed bs) where
    found-closed : (f : Tree → Bool) (d : Tree) → d ∷ [] ≡ filter f bs → escapes 0 (alone d) ≡ false
    found-closed f d q =
        let IsShut : Tree → Type 0 = λ v. escapes 0 (alone v) ≡ false in
        All-head IsShut d [] (All-same IsShut (d ∷ []) (filter f bs) q (All-filter f IsShut bs closed))

    picks-closed : (S T : State) (ps : List Projection) (us : List Tree) → n ≤ length S.variables → All (IsPickable n) ps → Picks J e bs S ps us T → AreClosed us
    picks-closed S T ps us l a Picks.none_left = All-nil (λ u. escapes 0 (alone u) ≡ false)
    picks-closed S U ps us l a (Picks.one {T = T} {p = p} {ps = qs} {u = u} {us = vs} i r) =
        let here = All-head (IsPickable n) p qs a in
        let t = tried-are J laws.alike_judged_alike e S p i.tried (fits J laws e n env bs bounds S p l here) in
        let bound = found-closed (λ c. bound_matches J e S c p) i.bound t.1 in
        let longer = after-pick J laws e n env bs bounds S T p u l here i in
        All-cons (λ v. escapes 0 (alone v) ≡ false) u vs (ap (λ (v : Tree). escapes 0 (alone v)) i.is ∙ term-closed i.now i.bound bound)
        (picks-closed T U qs vs (let k = longer.0 in omega (arith, l, k)) (All-tail (IsPickable n) p qs a) r)

    goals-are : (S T : State) (cs ds : List Tree) (r : AreReplaced J e object bs S cs ds T) → n ≤ length S.variables → All (IsRuleTree n) cs → (ls : Forest) (vs ws : List Tree)
        → map (substituted_tree (join ls (row_of (vs ++ terms-of S T cs ds r ++ ws)))) (named_clauses own (count ls + length vs) cs) ≡ ds
    unfolding terms-of
    goals-are S T cs ds AreReplaced.none_left l a ls vs ws = refl
    goals-are S U cs ds (AreReplaced.one {T = T} {c = c} {d = d} {cs = xs} {ds = ys} i r) l a ls vs ws =
        let us = i.terms in
        let rest = terms-of T U xs ys r in
        let m = length (projections own c.children) in
        let here = All-head (IsRuleTree n) c xs a in
        let ready = pickable n object bs c here in
        let many : length us ≡ m = picks-length J laws e n env bs bounds S T (projections own c.children) us i.picked in
        let w : Stands J laws e n env bs bounds S none = record { there = l; locals = refl } in
        let later = (all-stand J laws e n env bs bounds S T none (projections own c.children) us w ready i.picked).there in
        let row : vs ++ (us ++ rest) ++ ws ≡ vs ++ us ++ (rest ++ ws) = ap (λ (xs : List Tree). xs ++ ws) (sym (append_assoc vs us rest)) ∙ append_assoc (vs ++ us) rest ws in
        let first : substituted_tree (join ls (row_of (vs ++ (us ++ rest) ++ ws))) (filled_clause own (names_from (count ls + length vs) m) c) ≡ d =
        ap (λ (xs : List Tree). substituted_tree (join ls (row_of xs)) (filled_clause own (names_from (count ls + length vs) m) c)) row
        ∙ (ap (λ k. substituted_tree (join ls (row_of (vs ++ us ++ (rest ++ ws)))) (filled_clause own (names_from (count ls + length vs) k) c)) (sym many)
        ∙ (filled-names-among own ls vs us (rest ++ ws) c here.no_parameter (picks-closed S T (projections own c.children) us l ready i.picked) ∙ sym i.is)) in
        let from : count ls + length vs + m ≡ count ls + length (vs ++ us) = let k = length-append vs us in omega (arith, k, many) in
        let more : map (substituted_tree (join ls (row_of (vs ++ (us ++ rest) ++ ws)))) (named_clauses own (count ls + length vs + m) xs) ≡ ys =
        ap (λ (zs : List Tree). map (substituted_tree (join ls (row_of (zs ++ ws)))) (named_clauses own (count ls + length vs + m) xs)) (sym (append_assoc vs us rest))
        ∙ (ap (λ k. map (substituted_tree (join ls (row_of (vs ++ us ++ rest ++ ws)))) (named_clauses own k xs)) from
        ∙ goals-are T U xs ys r later (All-tail (IsRuleTree n) c xs a) ls (vs ++ us) ws) in
        ap (λ t. t ∷ map (substituted_tree (join ls (row_of (vs ++ (us ++ rest) ++ ws)))) (named_clauses own (count ls + length vs + m) xs)) first ∙ ap (λ ts. d ∷ ts) more

  -- What is asked for is what the rule comes to.
  pub asked-by-rule : Lawful J → (S T : State) (cs ds : List Tree) → AreReplaced J e object bs S cs ds T → IsAskedByRule J e object bs S cs ds T
  asked-by-rule laws S T cs ds r = record {
    terms = terms-of S T cs ds r;
    comes = λ n ls i more end b c. all-come J laws e n i.env bs i.bounds S T ls (projections_in own cs) (terms-of S T cs ds r) (record { there = i.there; locals = i.locals })
        (all-pickable n object bs cs i.required) (all-picks S T cs ds r) more end b c;
    goals = λ n ls i.
        ap (λ (us : List Tree). map (substituted_tree (join ls (row_of us))) (named_clauses own (count ls) cs)) (sym (append-nil (terms-of S T cs ds r)))
        ∙ (ap (λ k. map (substituted_tree (join ls (row_of (terms-of S T cs ds r ++ [])))) (named_clauses own k cs)) (let s : count ls ≡ count ls + 0 = omega arith in s)
        ∙ goals-are laws n i.env i.bounds i.closed S T cs ds r i.there i.required ls [] []);
  }

  projections-join : (xs ys : List Tree) → projections_in own (xs ++ ys) ≡ projections_in own xs ++ projections_in own ys
  projections-join [] ys = refl
  projections-join (x ∷ xs) ys = ap (λ ps. projections own x.children ++ ps) (projections-join xs ys) ∙ sym (append_assoc (projections own x.children) (projections_in own xs) (projections_in own ys))

  -- So is an ambiguity.
  pub unknown-by-rule : Lawful J → (S T : State) (cs : List Tree) → AreStuck J e object bs S cs T → IsUnknownByRule J e object bs S cs T
  unknown-by-rule laws S T cs r = λ n ls i more end b c.
      let s = r.stuck in
      let before = projections_in own r.before in
      let first = terms-of S r.last r.before r.replaced r.first in
      let whole : projections_in own cs ≡ (before ++ s.before) ++ s.projection ∷ (s.after ++ projections_in own r.after) =
      ap (projections_in own) r.are
      ∙ (projections-join r.before (r.clause ∷ r.after)
      ∙ (ap (λ ps. before ++ (ps ++ projections_in own r.after)) s.are
      ∙ (ap (λ ps. before ++ ps) (append_assoc s.before (s.projection ∷ s.after) (projections_in own r.after)) ∙ sym (append_assoc before s.before (s.projection ∷ (s.after ++ projections_in own r.after)))))) in
      let ready = subst (All (IsPickable n)) whole (all-pickable n object bs cs i.required) in
      ap (λ ps. comes_to J e (place_at S ls) (picks_of (count ls) bs ps ++ more) end) whole
      ∙ all-stuck J laws e n i.env bs i.bounds S s.last T ls (before ++ s.before) s.projection (s.after ++ projections_in own r.after) (first ++ s.terms) (record { there = i.there; locals = i.locals }) ready
      (picks-join S r.last s.last before s.before first s.terms (all-picks S r.last r.before r.replaced r.first) s.picked) s.ambiguous more end b c
