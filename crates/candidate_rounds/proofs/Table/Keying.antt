-- What keys say, as it is read by numbers.
use Rattle.std.proofs.Common.{◌≡◌, ℕ, suc, ◌+◌, ◌<◌, ◌≤◌, max, Bool, true, false, not, List, length, drop, slice_index_or, Result, Ok, Err, refl, sym, ◌∙◌, ap, arith}
use Rattle.std.specs.Prelude.{◌&&◌, ◌||◌, IfOk, map}
use Rattle.std.specs.List.{list_all}
use Rattle.ir_trees.specs.declared.ir.heads.Head.{Head}
use Rattle.ir_trees.specs.declared.ir.heads.Head.TheVariants as H
use Rattle.ir_trees.specs.declared.ir.heads.PartHead.TheVariants as P
use Rattle.ir_trees.specs.declared.ir.heads.ClauseHead.TheVariants as Cl
use Rattle.ir_trees.specs.declared.ir.kinds.Clause.{Clause}
use Rattle.ir_trees.specs.declared.ir.kinds.Goal.{Goal}
use Rattle.ir_trees.specs.Syntax.Binders.{escapes, is_beyond}
use Rattle.ir_trees.specs.Hierarchy.Supers.{after_first}
use Rattle.ir_trees.specs.Syntax.Words.{clause_tree, env_forest}
use Rattle.candidate_eval.specs.Judges.States.{Env}
use Rattle.candidate_rounds.specs.Calls.Starting.{stand}
use Rattle.candidate_rounds.specs.Table.Goals.{goal_by, goal_seen, key_seen}
use Rattle.candidate_rounds.specs.declared.rounds.goals.GoalKey.{GoalKey}
use Rattle.candidate_eval.specs.declared.eval.mode.TypingMode.TheVariants.{PostAnalysis}
use Rattle.candidate_eval.specs.Judges.Soundness.{is_strange}
use Rattle.ir_trees.specs.Syntax.Nodes.{tree_at}
use Rattle.ir_trees.specs.Syntax.Trees.{Forest, none, tree, Tree, binders_of, count, holds, is_param, join, skip, variable_number}
use Rattle.ir_trees.proofs.Syntax.Splits.{holds-join, or-assoc}
use Rattle.candidate_eval.specs.declared.eval.variable.CanonicalVar.{CanonicalVar}
use Rattle.rounds_judge.specs.Table.GoalTable.{may_be_asked}
use Rattle.rounds_judge.specs.Table.Keys.{every, fresh_state, goal_trees, greatest_named, greatest_of, newest_of, over_trees, universe_named}
use Rattle.rounds_judge.specs.Obligations.Responding.{with_number, with_numbers}
use Rattle.rounds_judge.specs.Table.TableSettling.{are_bare, greatest_in, is_bare}
use Rattle.candidate_rounds.specs.Calls.Walking.{AreUpTo}
use Rattle.candidate_rounds.proofs.Resolution.Walking.{each-weaker}
use Rattle.candidate_rounds.proofs.Stops.ResponseStops.{one-more-child}
use Rattle.candidate_rounds.proofs.Snapshots.Undoing.{drop-one, drop-beyond}

-- The greatest universe of variables, one after the other.

abbrev pub IsGreatestTo : List CanonicalVar → ℕ → ℕ → Type 0
IsGreatestTo vs i n = max n (greatest_of (drop i vs)) ≡ greatest_of vs

pub one-greater : (vs : List CanonicalVar) (i : ℕ) (d : CanonicalVar) (n m : ℕ) → IsGreatestTo vs i n → i < length vs → m ≡ max n (slice_index_or vs i d).universe → IsGreatestTo vs (i + 1) m
one-greater vs i d n m a l e =
    let j : i + 1 ≡ suc i = omega arith in
    let p = ap greatest_of (drop-one vs i d l) in
    let q = ap (λ k. greatest_of (drop k vs)) j in
    omega (arith, a, p, q, e)

pub all-greatest : (vs : List CanonicalVar) (i n : ℕ) → IsGreatestTo vs i n → length vs ≤ i → n ≡ greatest_of vs
all-greatest vs i n a l = let p = ap greatest_of (drop-beyond vs i l) in omega (arith, a, p)

-- The greatest of a universe and those in trees, one after the other.
module _ {A : Type 0} (f : A → Tree) (from : ℕ) (xs : List A) where
  abbrev pub IsGreatestIn : ℕ → ℕ → Type 0
  IsGreatestIn i n = max n (greatest_in (map f (drop i xs))) ≡ max from (greatest_in (map f xs))

  pub one-greater-in : (i : ℕ) (d : A) (n m k : ℕ) → IsGreatestIn i n → i < length xs → m ≡ max n (universe_named (f (slice_index_or xs i d)).head)
      → k ≡ max m (greatest_named (f (slice_index_or xs i d)).children) → IsGreatestIn (i + 1) k
  one-greater-in i d n m k a l e w =
      let j : i + 1 ≡ suc i = omega arith in
      let p = ap (λ ys. greatest_in (map f ys)) (drop-one xs i d l) in
      let q = ap (λ z. greatest_in (map f (drop z xs))) j in
      omega (arith, a, p, q, e, w)

  pub all-greatest-in : (i n : ℕ) → IsGreatestIn i n → length xs ≤ i → n ≡ max from (greatest_in (map f xs))
  all-greatest-in i n a l = let p = ap (λ ys. greatest_in (map f ys)) (drop-beyond xs i l) in omega (arith, a, p)

-- The greatest of a universe and those below a node, so far, and that there are no fewer children than were looked at.
pub record GreatestBelow (from : ℕ) (below : Forest) (place n : ℕ) : Type 0 where
  pub so_far : max n (greatest_named (skip place below)) ≡ max from (greatest_named below)
  pub fewer : place ≤ count below

pub greater-child : (ts : List Tree) (from : ℕ) (below : Forest) (place child n m k : ℕ) → GreatestBelow from below place n
    → skip place below ≡ tree (tree_at ts child).head (tree_at ts child).children (skip (suc place) below)
    → m ≡ max n (universe_named (tree_at ts child).head) → k ≡ max m (greatest_named (tree_at ts child).children) → GreatestBelow from below (place + 1) k
greater-child ts from below place child n m k a e q w = record {
  so_far =
      (let j : place + 1 ≡ suc place = omega arith in
      let p = ap greatest_named e in
      let r = ap (λ k. greatest_named (skip k below)) j in
      let s = a.so_far in
      omega (arith, p, q, r, s, w));
  fewer = one-more-child place below (tree_at ts child).head (tree_at ts child).children (skip (suc place) below) e;
}

pub all-below : (from : ℕ) (below : Forest) (place n : ℕ) → GreatestBelow from below place n → skip place below ≡ none → n ≡ max from (greatest_named below)
all-below from below place n a e = let p = ap greatest_named e in let s = a.so_far in omega (arith, p, s)

-- where no universe of the noted numbers is greater than one, none is greater than one that isn't less
pub up-to-greater : (ts : List Tree) (a b : ℕ) (walked : List ℕ) → a ≤ b → AreUpTo a ts walked → AreUpTo b ts walked
up-to-greater ts a b walked l e =
    each-weaker (λ n. greatest_named (tree_at ts n).children ≤ a) (λ n. greatest_named (tree_at ts n).children ≤ b) (λ n m. omega (arith, l, m)) walked e

-- Two rows, one after the other.

pub greatest-join : (a b : Forest) → greatest_named (join a b) ≡ max (greatest_named a) (greatest_named b)
greatest-join none b = omega arith
greatest-join (tree h x r) b = let p = greatest-join r b in omega (arith, p)

escapes-join : (n : ℕ) (a b : Forest) → escapes n (join a b) ≡ escapes n a || escapes n b
escapes-join n none b = refl
escapes-join n (tree h x r) b =
    let p = is_beyond n h in let q = escapes (n + binders_of h) x in
    ap (λ (y : Bool). p || (q || y)) (escapes-join n r b)
    ∙ (ap (λ (y : Bool). p || y) (sym (or-assoc q (escapes n r) (escapes n b)))
    ∙ sym (or-assoc p (q || escapes n r) (escapes n b)))

pub numbers-join : (ns : List ℕ) (a b : Forest) → with_numbers ns (join a b) ≡ with_numbers (with_numbers ns a) b
numbers-join ns none b = refl
numbers-join ns (tree h x r) b = numbers-join (with_numbers (with_number ns (variable_number h)) x) r b

both-bare : (a b c d : Bool) → a && (b && (c && d)) ≡ (a && (b && c)) && d
both-bare true true c d = refl
both-bare true false c d = refl
both-bare false b c d = refl

pub bare-join : (a b : Forest) → are_bare (join a b) ≡ are_bare a && are_bare b
bare-join none b = refl
bare-join (tree h x r) b = ap (λ c. is_bare h x && (are_bare x && c)) (bare-join r b) ∙ both-bare (is_bare h x) (are_bare x) (are_bare r) (are_bare b)

-- A row stands where none of three is so of it.

none-of-both : (a b c d e f : Bool) → not (a || b) && (not (c || d) && not (e || f)) ≡ (not a && (not c && not e)) && (not b && (not d && not f))
none-of-both true b c d e f = refl
none-of-both false true true d e f = refl
none-of-both false true false d true f = refl
none-of-both false true false d false f = refl
none-of-both false false true d e f = refl
none-of-both false false false true true f = refl
none-of-both false false false true false f = refl
none-of-both false false false false true f = refl
none-of-both false false false false false f = refl

pub stand-join : (mark : Head → Bool) (a b : Forest) → stand mark (join a b) ≡ stand mark a && stand mark b
stand-join mark a b =
    let h = holds-join mark a b in
    let e = escapes-join 0 a b in
    let p = holds-join is_param a b in
    (λ i. not (h i) && (not (e i) && not (p i))) ∙ none-of-both (holds mark a) (holds mark b) (escapes 0 a) (escapes 0 b) (holds is_param a) (holds is_param b)

-- What a clause says, whatever it says it of.

module _ (e : Env) where
  pub goal-env : (h : Head) (ts : Forest) → (goal_by e h ts).env ≡ e
  goal-env (H.Part (P.Clause (Cl.Trait i p))) ts = refl
  goal-env _ ts = refl

  pub goal-arguments : (h : Head) (ts : Forest) → (goal_by e h ts).reference.arguments ≡ ts
  goal-arguments (H.Part (P.Clause (Cl.Trait i p))) ts = refl
  goal-arguments _ ts = refl

  pub over-goal : (f : Forest → Forest) (h : Head) (ts : Forest) → goal_by (f e) h (f ts) ≡ over_trees f (goal_by e h ts)
  over-goal f (H.Part (P.Clause (Cl.Trait i p))) ts = refl
  over-goal f _ ts = refl

module _ (ts : List Tree) (g : Goal Clause) where
  pub env-seen : (goal_seen ts g).env ≡ env_forest ts g.param_env
  env-seen = goal-env (env_forest ts g.param_env) (clause_tree ts g.predicate).head (after_first (clause_tree ts g.predicate).children)

  pub arguments-seen : (goal_seen ts g).reference.arguments ≡ after_first (clause_tree ts g.predicate).children
  arguments-seen = goal-arguments (env_forest ts g.param_env) (clause_tree ts g.predicate).head (after_first (clause_tree ts g.predicate).children)

  -- The greatest universe of a goal is that of its environment or of its arguments.
  newest-seen : (v e n : ℕ) (vs : List CanonicalVar) → v ≡ greatest_of vs → e ≡ max v (greatest_named (env_forest ts g.param_env))
      → n ≡ max e (greatest_named (goal_seen ts g).reference.arguments) → n ≡ max (greatest_named (goal_trees (goal_seen ts g))) (greatest_of vs)
  newest-seen v e n vs p q r =
      let j = greatest-join (goal_seen ts g).env (goal_seen ts g).reference.arguments in
      let k = ap greatest_named env-seen in
      omega (arith, p, q, r, j, k)

  pub newest-call : {E : Type 0} (v e : ℕ) (vs : List CanonicalVar) (r : Result ℕ E) → v ≡ greatest_of vs → e ≡ max v (greatest_named (env_forest ts g.param_env))
      → IfOk r (λ n. n ≡ max e (greatest_named (goal_seen ts g).reference.arguments)) → IfOk r (λ n. n ≡ max (greatest_named (goal_trees (goal_seen ts g))) (greatest_of vs))
  newest-call v e vs (Ok n) p q r = newest-seen v e n vs p q r
  newest-call v e vs (Err s) p q r = tt

-- A test of one member after the other.
abbrev pub IsAllTo : {A B : Type 0} → (B → Bool) → (A → B) → List A → ℕ → Type 0
IsAllTo p f xs i = list_all p (map f (drop i xs)) ≡ list_all p (map f xs)

-- Keys and responses that stand, at the state that has so many universes and these variables.

abbrev pub strange : ℕ → List CanonicalVar → Head → Bool
strange n vs = is_strange (fresh_state PostAnalysis n vs) every

module _ (ts : List Tree) (k : GoalKey) (n : ℕ) (vs : List CanonicalVar) (x : Bool) (newest : n ≡ newest_of (key_seen ts k)) where
  pub asked-seen : (y : Bool) → vs ≡ k.variables.items → x ≡ stand (strange n vs) (env_forest ts k.goal.param_env) → y ≡ stand (strange n vs) (goal_seen ts k.goal).reference.arguments
      → x && y ≡ may_be_asked (key_seen ts k)
  asked-seen y vars e f =
      let args = (goal_seen ts k.goal).reference.arguments in
      let env = env-seen ts k.goal in
      (λ i. e i && f i)
      ∙ ((λ i. stand (strange n vs) (sym env i) && stand (strange n vs) args)
      ∙ (sym (stand-join (strange n vs) (goal_seen ts k.goal).env args)
      ∙ (λ i. stand (strange (newest i) (vars i)) (goal_trees (goal_seen ts k.goal)))))

  pub asked-not : vs ≡ k.variables.items → x ≡ stand (strange n vs) (env_forest ts k.goal.param_env) → x ≡ false → x ≡ may_be_asked (key_seen ts k)
  asked-not vars e q =
      let y = stand (strange n vs) (goal_seen ts k.goal).reference.arguments in
      q ∙ (sym (ap (λ b. b && y) q) ∙ asked-seen y vars e refl)
