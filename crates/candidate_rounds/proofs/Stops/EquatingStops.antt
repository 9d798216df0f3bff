-- Why equations stop.
use Rattle.std.proofs.Common.{◌≡◌, ℕ, zero, suc, ◌≤◌, ◌<◌, length, reverse, ◌⊎◌, inl, inr, IsErrAnd, MatchOption, ◌&&◌, true, List, [], ◌∷◌, ◌++◌, Option, Some, Result, Ok, Err, IfErr, OnOk, refl, sym, ◌∙◌, ap, subst, arith}
use Rattle.ir_trees.specs.declared.ir.stop.Stop.{Stop}
use Rattle.ir_trees.specs.declared.ir.stop.Stop.TheVariants.{Memory}
use Rattle.ir_trees.specs.Unification.Substitutions.{alone}
use Rattle.ir_trees.specs.Syntax.Trees.{Forest, none, tree, Tree, skip}
use Rattle.candidate_eval.specs.declared.eval.refusal.NoSolutionOrStop.{NoSolutionOrStop}
use Rattle.candidate_eval.specs.Judges.States.{State}
use Rattle.candidate_eval.specs.Judges.Soundness.{is_region}
use Rattle.rounds_judge.specs.Equations.Equating.{Pair, Left, count_unbound, enough, looked, looks, met, size_of_pairs, unified, visited}
use Rattle.rounds_judge.specs.Aliases.Listed.{Listing, current}
use Rattle.rounds_judge.specs.Equations.Scopes.{Scope, has_binder, has_variables}
use Rattle.ir_trees.specs.Syntax.Nodes.{tree_at}
use Rattle.rounds_judge.proofs.Equations.Stepping.{met-onto, onto, visited-onto}
use Rattle.candidate_rounds.specs.Evaluators.Known.{Evaluator, GoesOn, IsGiven, listing, state}
use Rattle.candidate_rounds.specs.Evaluators.Inferences.{IsFullAt}
use Rattle.candidate_rounds.specs.Evaluators.Stopping.{IsEqualityStop, IsLookStop, IsMatchStop, IsMeetingStop, IsOfferStop, IsUnifyingStop, StopsAsBefore, at_once, later, no_space, no_universe, of_equality}
use Rattle.candidate_rounds.proofs.Evaluators.Going.{goes-listing}
use Rattle.candidate_rounds.proofs.Equations.Visiting.{child-row, number-on}

-- The error that `?` makes of a stop is of that stop.
pub stopped-by : (P : Stop → Type 0) (e : NoSolutionOrStop) (z s : Stop) → e ≡ NoSolutionOrStop.Stop z → P z → e ≡ NoSolutionOrStop.Stop s → P s
stopped-by P e z s is k n = let same : z ≡ s = let both = sym is ∙ n in cc in subst P same k

-- What a call by `?` stops with, stops the whole.

pub question : {A : Type 0} (P : Stop → Type 0) (r : Result A NoSolutionOrStop) (z : Stop) → IsErrAnd r (λ e. e ≡ NoSolutionOrStop.Stop z) → P z → IfErr r (λ e. (s : Stop) → e ≡ NoSolutionOrStop.Stop s → P s)
question P (Ok a) z h k = tt
question P (Err e) z h k = λ s n. stopped-by P e z s h k n

pub through : {A : Type 0} (Q : NoSolutionOrStop → Type 0) (r : Result A NoSolutionOrStop) (e : NoSolutionOrStop) → IsErrAnd r (λ x. x ≡ e) → Q e → IfErr r Q
through Q (Ok a) e h k = tt
through Q (Err x) e h k = subst Q (sym h) k

pub each-stop : {A : Type 0} (P Q : Stop → Type 0) (r : Result A NoSolutionOrStop) → ((s : Stop) → P s → Q s) → IfErr r (λ e. (s : Stop) → e ≡ NoSolutionOrStop.Stop s → P s)
    → IfErr r (λ e. (s : Stop) → e ≡ NoSolutionOrStop.Stop s → Q s)
each-stop P Q (Ok a) f k = tt
each-stop P Q (Err e) f k = λ s n. f s (k s n)

-- Why two trees don't match, said of the numbers that a call was given.

pub regions-unmatched : (ts : List Tree) (S : State) (us vs : List ℕ) (x y r q : Tree) (s : Stop) → is_region x.head && is_region y.head ≡ true → vs ≡ us → r ≡ x → q ≡ y
    → IsEqualityStop ts (reverse vs) r q s → IsMatchStop ts S (reverse us) x y s
regions-unmatched ts S us vs x y r q s both e f g k =
    of_equality both
    (subst (λ (ws : List ℕ). IsEqualityStop ts (reverse ws) x y s) e (subst (λ t. IsEqualityStop ts (reverse vs) t y s) f (subst (λ t. IsEqualityStop ts (reverse vs) r t s) g k)))

pub below-unmatched : (ts : List Tree) (S : State) (us : Scope) (x y : Tree) (s : Stop) → (s ≡ Memory) ⊎ ((has_binder x.head && has_variables x.children ≡ true) × IsFullAt S.newest_universe s) → IsMatchStop ts S us x y s
below-unmatched ts S us x y s (inl e) = subst (IsMatchStop ts S us x y) (sym e) no_space
below-unmatched ts S us x y s (inr k) = no_universe k.0 k.1

-- Where nothing is left, both sides are equal.

some-looks : (u n : ℕ) → 1 ≤ enough u n
some-looks zero n = omega arith
some-looks (suc u) n = omega arith

pub nothing-left : (l : Listing) (S : State) → unified l S [] ≡ Some S
nothing-left l S = at (looks l S []) (some-looks (count_unbound S.variables) (size_of_pairs l S []))
  where
    at : (k : ℕ) → 1 ≤ k → looked l k S [] ≡ Some S
    at zero e = absurd (omega (arith, e))
    at (suc k) e = refl

-- What is left after a look
pub look-later : {A E : Type 0} (r : Result A E) (l m : Listing) (S T : State) (ps all qs : List Pair) → m ≡ l → ps ≡ all → OnOk r (visited l S ps ≡ Left T qs) → OnOk r (StopsAsBefore l S all m T qs)
look-later (Ok a) l m S T ps all qs e f v = λ ts s k. later (ap (visited l S) (sym f) ∙ v) (subst (λ n. IsUnifyingStop ts n s T qs) e k)
look-later (Err a) l m S T ps all qs e f v = tt

-- An evaluator that went on, and knows what it knew: why a tree isn't offered, or two don't match.
module _ (old mid : Evaluator) (g : GoesOn old mid) (given : IsGiven old.context.trees old.normal.pairs old.opaques) (s : state mid ≡ state old) (ts : List Tree) (us : Scope) (a b : ℕ)
    (i : a < length old.context.trees) (j : b < length old.context.trees) (z : Stop) where
  pub offer-before : IsOfferStop ts (listing mid) (state mid) us (tree_at mid.context.trees a).head (tree_at mid.context.trees b) z
      → IsOfferStop ts (listing old) (state old) us (tree_at old.context.trees a).head (tree_at old.context.trees b) z
  offer-before k =
      subst (λ t. IsOfferStop ts (listing old) (state old) us (tree_at old.context.trees a).head t z) (number-on old mid g given s b j)
      (subst (λ (t : Tree). IsOfferStop ts (listing old) (state old) us t.head (tree_at mid.context.trees b) z) (number-on old mid g given s a i)
      (subst (λ S. IsOfferStop ts (listing old) S us (tree_at mid.context.trees a).head (tree_at mid.context.trees b) z) s
      (subst (λ l. IsOfferStop ts l (state mid) us (tree_at mid.context.trees a).head (tree_at mid.context.trees b) z) (goes-listing old mid g given) k)))

  pub match-before : IsMatchStop ts (state mid) us (tree_at mid.context.trees a) (tree_at mid.context.trees b) z → IsMatchStop ts (state old) us (tree_at old.context.trees a) (tree_at old.context.trees b) z
  match-before k =
      subst (λ t. IsMatchStop ts (state old) us (tree_at old.context.trees a) t z) (number-on old mid g given s b j)
      (subst (λ t. IsMatchStop ts (state old) us t (tree_at mid.context.trees b) z) (number-on old mid g given s a i)
      (subst (λ S. IsMatchStop ts S us (tree_at mid.context.trees a) (tree_at mid.context.trees b) z) s k))

pub meeting-same : (ts : List Tree) (l m : Listing) (S T : State) (us : Scope) (x y p q : Tree) (z : Stop) → m ≡ l → T ≡ S → p ≡ x → q ≡ y → IsMeetingStop ts m T us p q z → IsMeetingStop ts l S us x y z
meeting-same ts l m S T us x y p q z a b c d k =
    subst (λ t. IsMeetingStop ts l S us x t z) d (subst (λ t. IsMeetingStop ts l S us t q z) c (subst (λ R. IsMeetingStop ts l R us p q z) b (subst (λ n. IsMeetingStop ts n T us p q z) a k)))

-- A look at rows that begin with trees.
pub look-stops : (ts : List Tree) (l : Listing) (S : State) (us sc : Scope) (a b r q : Forest) (x y : Tree) (more : List Pair) (s : Stop) → a ≡ tree x.head x.children r → b ≡ tree y.head y.children q → us ≡ sc
    → IsLookStop ts l S us x y s → IsUnifyingStop ts l s S (record { scope = sc; left = a; right = b } ∷ more)
look-stops ts l S us sc a b r q x y more s e f g k =
    let P : Forest → Forest → Type 0 = λ c d. IsUnifyingStop ts l s S (record { scope = sc; left = c; right = d } ∷ more) in
    subst (λ d. P a d) (sym f) (subst (λ c. P c (tree y.head y.children q)) (sym e) (at_once (subst (λ vs. IsLookStop ts l S vs x y s) g k)))

-- a child, in the trees of an evaluator by another name
pub child-of : (us ts : List Tree) (n place : ℕ) (o : Option ℕ) (k : ℕ) → us ≡ ts → o ≡ Some k
    → MatchOption o (skip place (tree_at us n).children ≡ none) (λ c. (c < length us) × (skip place (tree_at us n).children ≡ tree (tree_at us c).head (tree_at us c).children (skip (suc place) (tree_at us n).children)))
    → skip place (tree_at ts n).children ≡ tree (tree_at ts k).head (tree_at ts k).children (skip (suc place) (tree_at ts n).children)
child-of us ts n place o k e f m =
    subst (λ ws. skip place (tree_at ws n).children ≡ tree (tree_at ws k).head (tree_at ws k).children (skip (suc place) (tree_at ws n).children)) e (child-row us n place o k f m)

-- Where more pairs stand at the end, what is left stops all the same.

module _ (S : State) (es : List Pair) where
  left-onto : (l : Listing) (T : State) (ps qs : List Pair) → visited l S ps ≡ Left T qs → visited l S (ps ++ es) ≡ Left T (qs ++ es)
  left-onto l T [] qs v = absurd cc
  left-onto l T (p ∷ more) qs v = visited-onto S es l p more ∙ ap (onto es) v

pub stops-onto : (ts : List Tree) (l : Listing) (s : Stop) (S : State) (ps es : List Pair) → IsUnifyingStop ts l s S ps → IsUnifyingStop ts l s S (ps ++ es)
stops-onto ts l s S ps es (at_once k) = at_once k
stops-onto ts l s S ps es (later {T = T} {qs = qs} v k) = later (left-onto S es l T ps qs v) (stops-onto ts l s T qs es k)

-- Two trees that meet first
pub first-left : (l : Listing) (S T : State) (x y : Tree) (ps : List Pair) → met l S [] (current l S x) (current l S y) [] ≡ Left T ps
    → visited l S (record { scope = []; left = alone x; right = alone y } ∷ []) ≡ Left T (ps ++ record { scope = []; left = none; right = none } ∷ [])
first-left l S T x y ps e =
    let es : List Pair = record { scope = []; left = none; right = none } ∷ [] in
    met-onto S es l [] (current l S x) (current l S y) [] ∙ ap (onto es) e
