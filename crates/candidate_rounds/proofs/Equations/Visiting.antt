-- Looks by numbers: what was found at an evaluator holds of one that went on without knowing more.
use Rattle.std.proofs.Common.{◌≡◌, ◌<◌, ℕ, suc, Bool, List, [], ◌∷◌, ◌++◌, length, map, take, drop, reverse, Option, Some, None, Result, Ok, Err, IfErr, MatchOption, OnOk, sym, ◌∙◌, ap, subst, arith}
use Rattle.std.proofs.lemmas.List.{length-take-le, take-append-drop}
use Rattle.ir_trees.specs.declared.ir.heads.Head.{Head}
use Rattle.ir_trees.specs.Syntax.Nodes.{tree_at}
use Rattle.ir_trees.specs.Syntax.Trees.{Forest, none, tree, Tree, skip}
use Rattle.ir_trees.proofs.Growth.Kept.{number-kept}
use Rattle.candidate_eval.specs.declared.eval.refusal.NoSolutionOrStop.{NoSolutionOrStop}
use Rattle.candidate_eval.specs.Judges.States.{State}
use Rattle.candidate_rounds.specs.declared.rounds.equating.Frame.{Frame}
use Rattle.rounds_judge.specs.Equations.Equating.{Left, Pair, first_of, matched, met, offered, visited}
use Rattle.candidate_rounds.specs.Calls.Frames.{AreFrames, AreNested, pair_of, pairs_of, scope_of, taken_if}
use Rattle.candidate_rounds.specs.Evaluators.Known.{Evaluator, GoesOn, IsGiven, listing, state}
use Rattle.rounds_judge.specs.Aliases.Listed.{Listing, current}
use Rattle.rounds_judge.specs.Equations.Scopes.{Scope}
use Rattle.candidate_rounds.proofs.Equations.Framing.{nested-kept, pairs-pushed, reverse-one, scope-all}
use Rattle.candidate_rounds.proofs.Evaluators.Going.{goes-listing}

-- An answer by another name for what it is of.

pub ok-from : {A E X : Type 0} (r : Result A E) (a b c : X) → a ≡ b → OnOk r (b ≡ c) → OnOk r (a ≡ c)
ok-from (Ok x) a b c e f = e ∙ f
ok-from (Err x) a b c e f = tt

pub refused-from : {A X : Type 0} (r : Result A NoSolutionOrStop) (a b c : X) → a ≡ b → IfErr r (λ e. e ≡ NoSolutionOrStop.NoSolution → b ≡ c) → IfErr r (λ e. e ≡ NoSolutionOrStop.NoSolution → a ≡ c)
refused-from (Ok x) a b c e f = tt
refused-from (Err x) a b c e f = λ n. e ∙ f n

-- The same at the same state.

pub met-same : (l m : Listing) (S T : State) (us vs : Scope) (x y p q : Tree) (more others : List Pair) → m ≡ l → T ≡ S → vs ≡ us → p ≡ x → q ≡ y → others ≡ more → met l S us x y more ≡ met m T vs p q others
met-same l m S T us vs x y p q more others a b c d e f =
    sym (ap (λ l. met l T vs p q others) a
    ∙ (ap (λ S. met l S vs p q others) b
    ∙ (ap (λ us. met l S us p q others) c
    ∙ (ap (λ x. met l S us x q others) d
    ∙ (ap (λ y. met l S us x y others) e
    ∙ ap (met l S us x y) f)))))

-- The left one's variable takes the other tree, or the right one's does, or neither.

pub by-answer : (l : Listing) (S T : State) (us vs : List ℕ) (h : Head) (t : Tree) (more : List Pair) (b c : Bool) → vs ≡ us → b ≡ c → offered l S (reverse vs) h t more ≡ taken_if b T more → offered l S (reverse us) h t more ≡ taken_if c T more
by-answer l S T us vs h t more b c v k e = sym (ap (λ ws. offered l S (reverse ws) h t more) v) ∙ (e ∙ ap (λ b. taken_if b T more) k)

pub left-takes : (l : Listing) (S T : State) (us : Scope) (x y : Tree) (more left : List Pair) → offered l S us x.head y more ≡ Some (Left T more) → left ≡ more → met l S us x y more ≡ Left T left
left-takes l S T us x y more left e f = ap (λ o. first_of o (offered l S us y.head x more) (matched S us x y more)) e ∙ ap (Left T) (sym f)

pub right-takes : (l : Listing) (S T : State) (us : Scope) (x y : Tree) (more left : List Pair) → offered l S us x.head y more ≡ None → offered l S us y.head x more ≡ Some (Left T more) → left ≡ more → met l S us x y more ≡ Left T left
right-takes l S T us x y more left d e f =
    ap (λ o. first_of o (offered l S us y.head x more) (matched S us x y more)) d
    ∙ (ap (λ o. first_of None o (matched S us x y more)) e ∙ ap (Left T) (sym f))

pub neither-takes : (l : Listing) (S : State) (us : Scope) (x y : Tree) (more : List Pair) → offered l S us x.head y more ≡ None → offered l S us y.head x more ≡ None → met l S us x y more ≡ matched S us x y more
neither-takes l S us x y more d e = ap (λ o. first_of o (offered l S us y.head x more) (matched S us x y more)) d ∙ ap (λ o. first_of None o (matched S us x y more)) e

-- An evaluator that went on, and knows what it knew.
module _ (old mid : Evaluator) (g : GoesOn old mid) (given : IsGiven old.context.trees old.normal.pairs old.opaques) (s : state mid ≡ state old) where
  pub number-on : (n : ℕ) → n < length old.context.trees → tree_at mid.context.trees n ≡ tree_at old.context.trees n
  number-on n i = (number-kept old.context.trees mid.context.trees n g.0.kept i).1

  pub offered-on : (us : Scope) (a b : ℕ) (more : List Pair) → a < length old.context.trees → b < length old.context.trees
      → offered (listing old) (state old) us (tree_at old.context.trees a).head (tree_at old.context.trees b) more ≡ offered (listing mid) (state mid) us (tree_at mid.context.trees a).head (tree_at mid.context.trees b) more
  offered-on us a b more i j =
      sym (ap (λ l. offered l (state mid) us (tree_at mid.context.trees a).head (tree_at mid.context.trees b) more) (goes-listing old mid g given)
      ∙ (ap (λ S. offered (listing old) S us (tree_at mid.context.trees a).head (tree_at mid.context.trees b) more) s
      ∙ (ap (λ (t : Tree). offered (listing old) (state old) us t.head (tree_at mid.context.trees b) more) (number-on a i)
      ∙ ap (λ t. offered (listing old) (state old) us (tree_at old.context.trees a).head t more) (number-on b j))))

  pub matched-on : (us : Scope) (a b : ℕ) (more left : List Pair) → a < length old.context.trees → b < length old.context.trees → left ≡ more
      → matched (state old) us (tree_at old.context.trees a) (tree_at old.context.trees b) more ≡ matched (state mid) us (tree_at mid.context.trees a) (tree_at mid.context.trees b) left
  matched-on us a b more left i j e =
      sym (ap (λ S. matched S us (tree_at mid.context.trees a) (tree_at mid.context.trees b) left) s
      ∙ (ap (λ t. matched (state old) us t (tree_at mid.context.trees b) left) (number-on a i)
      ∙ (ap (λ t. matched (state old) us (tree_at old.context.trees a) t left) (number-on b j)
      ∙ ap (matched (state old) us (tree_at old.context.trees a) (tree_at old.context.trees b)) e)))

  pub current-on : (t u : Tree) → t ≡ u → current (listing mid) (state mid) t ≡ current (listing old) (state old) u
  current-on t u e =
      ap (λ l. current l (state mid) t) (goes-listing old mid g given)
      ∙ (ap (λ S. current (listing old) S t) s ∙ ap (current (listing old) (state old)) e)

pub frame-scope : (us : List ℕ) (f : Frame) → f.binders ≡ length us → scope_of us f.binders ≡ reverse us
frame-scope us f b = ap (scope_of us) b ∙ scope-all us

-- A look at two rows that begin with trees.
pub rows-begin : (l : Listing) (S : State) (us : Scope) (a b r s : Forest) (x y : Tree) (more : List Pair) → a ≡ tree x.head x.children r → b ≡ tree y.head y.children s
    → visited l S (record { scope = us; left = a; right = b } ∷ more) ≡ met l S us (current l S x) (current l S y) (record { scope = us; left = r; right = s } ∷ more)
rows-begin l S us a b r s x y more e f =
    ap (λ a. visited l S (record { scope = us; left = a; right = b } ∷ more)) e
    ∙ ap (λ b. visited l S (record { scope = us; left = tree x.head x.children r; right = b } ∷ more)) f

-- a child, and what stands after it
pub child-row : (ts : List Tree) (n place : ℕ) (o : Option ℕ) (k : ℕ) → o ≡ Some k
    → MatchOption o (skip place (tree_at ts n).children ≡ none) (λ c. (c < length ts) × (skip place (tree_at ts n).children ≡ tree (tree_at ts c).head (tree_at ts c).children (skip (suc place) (tree_at ts n).children)))
    → skip place (tree_at ts n).children ≡ tree (tree_at ts k).head (tree_at ts k).children (skip (suc place) (tree_at ts n).children)
child-row ts n place None k e m = cc
child-row ts n place (Some j) k e m =
    let is : j ≡ k = cc in
    m.1 ∙ ap (λ c. tree (tree_at ts c).head (tree_at ts c).children (skip (suc place) (tree_at ts n).children)) is

-- The next frame, from a place on, under all binders.
pub next-pairs : (ts : List Tree) (us vs : List ℕ) (fs gs : List Frame) (f : Frame) (k : ℕ) → vs ≡ us → gs ≡ fs ++ record f { place = k } ∷ [] → f.binders ≡ length us
    → pairs_of ts vs gs ≡ record { scope = reverse us; left = skip k (tree_at ts f.left).children; right = skip k (tree_at ts f.right).children } ∷ pairs_of ts us fs
next-pairs ts us vs fs gs f k e g b =
    ap (λ ws. pairs_of ts ws gs) e
    ∙ (ap (pairs_of ts us) g
    ∙ (pairs-pushed ts us fs (record f { place = k }) ∙ ap (λ sc. record { scope = sc; left = skip k (tree_at ts f.left).children; right = skip k (tree_at ts f.right).children } ∷ pairs_of ts us fs) (frame-scope us f b)))

-- The last frame, under the binders around it alone.
pub pairs-cut : (ts : List Tree) (us vs : List ℕ) (fs : List Frame) (f : Frame) → vs ≡ take f.binders us → AreFrames ts us (fs ++ f ∷ []) → pair_of ts vs f ∷ pairs_of ts vs fs ≡ pairs_of ts us (fs ++ f ∷ [])
pairs-cut ts us vs fs f e a =
    let nested = subst (AreNested (length us)) (reverse-one fs f) a.1 in
    let ns = take f.binders us in
    let ms = drop f.binders us in
    let whole = length-take-le f.binders us nested.0 in
    ap (λ ws. map (pair_of ts ws) (f ∷ reverse fs)) e
    ∙ (sym (nested-kept ts ns ms f.binders (f ∷ reverse fs) (omega (arith, whole)) (omega arith, nested.1))
    ∙ (ap (λ ws. map (pair_of ts ws) (f ∷ reverse fs)) (take-append-drop f.binders us) ∙ sym (pairs-pushed ts us fs f)))
