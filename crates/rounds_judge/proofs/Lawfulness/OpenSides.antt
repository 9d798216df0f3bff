-- Sides of an accepted equation are equal modulo the listed pairs at every state that follows and grants the goals that it leaves.
use Rattle.std.proofs.Common.{◌≡◌, Bool, true, false, List, [], ◌∷◌, Some, refl, sym, subst}
use Rattle.std.specs.List.{All}
use Rattle.std.proofs.lemmas.List.Elements.{All-cons, All-contains, All-head, All-nil, All-tail}
use Rattle.ir_trees.specs.declared.ir.heads.Head.TheVariants as H
use Rattle.ir_trees.specs.declared.ir.heads.PartHead.TheVariants as P
use Rattle.ir_trees.specs.Syntax.Binders.{escapes}
use Rattle.ir_trees.specs.Syntax.Trees.{Kind, ConstantKind, Forest, none, tree, Tree, holds, kind_of}
use Rattle.ir_trees.specs.Unification.Substitutions.{alone}
use Rattle.candidate_eval.specs.Judges.Soundness.{Follows, GoalIsOf, GoalsAreOf, IsSound, Live, ValuesFit, AreTreesOf, is_strange, universes}
use Rattle.candidate_eval.specs.Judges.States.{Env, State, Pending, resolved}
use Rattle.candidate_eval.proofs.Marks.Holds.{holds_imply, holds_parts}
use Rattle.rounds_judge.specs.Aliases.Congruence.{AreListed, Same, SameBy, SameTree, along, back}
use Rattle.rounds_judge.specs.Aliases.Listed.{Listing}
use Rattle.rounds_judge.specs.Aliases.OpenParts.{all_to_be, relation, to_be_one}
use Rattle.rounds_judge.specs.Equations.Opening.{Opened, equated_openly, equation, readied}
use Rattle.rounds_judge.specs.Equations.Standing.{IsListing}
use Rattle.rounds_judge.specs.Obligations.Settling.{first_fact, term_of}
use Rattle.rounds_judge.specs.Table.GoalTable.{GoalTable}
use Rattle.rounds_judge.specs.Table.TableGranted.{FactsGrantedWith, IsGrantedWith}
use Rattle.rounds_judge.proofs.Aliases.Congruent.{is_stray, same_resolved, same_to, strange_stray}
use Rattle.rounds_judge.proofs.Aliases.Equated.{equated_equal, listed_fold_same}
use Rattle.rounds_judge.proofs.Aliases.Faithful.{rigid_sides_equal}
use Rattle.rounds_judge.proofs.Aliases.OpenedParts.{AllPairs, AreEqual, AreFree, opened_unmarked}
use Rattle.rounds_judge.proofs.Lawfulness.OpenEquations.{asks_openly, by, equation_if, left_opened, right_opened}
use Rattle.rounds_judge.proofs.Lawfulness.OpenEquations as opened_as
use Rattle.rounds_judge.proofs.Obligations.Granting.{first_resolved, term_resolved}
use Rattle.rounds_judge.proofs.Obligations.Opening.{closed_stays}
use Rattle.rounds_judge.proofs.Projections.Equality.{opened_equal, wider}
use Rattle.rounds_judge.proofs.Projections.Sides.{AreEqualBy, HoldAt, pairs_hold}
use Rattle.rounds_judge.proofs.States.Later.{fits_later, known_later, later_along, later_itself, resolved_known}
use Rattle.rounds_judge.proofs.States.Marks.{escape_parts, escape_whole, whole}

-- The goals, where they are granted

module _ {W : Type 0} (K : GoalTable W) (l : Listing) (U : State) where
  abbrev pub Granted : Pending → Type 0
  Granted p = IsGrantedWith K l U p.goal

  pub both_closed : (t u : Tree) → escapes 0 (alone t) ≡ false → escapes 0 (alone u) ≡ false → escapes 0 (tree t.head t.children (tree u.head u.children none)) ≡ false
  both_closed t u c d = let p = escape_parts 0 t.head t.children none c in escape_whole 0 t.head t.children (tree u.head u.children none) p.here p.under d

  granted_one : (e : Env) (t u : Tree) → escapes 0 (alone t) ≡ false → escapes 0 (alone u) ≡ false → Granted (to_be_one e t u) → AreEqual l U t u
  granted_one e t u c d a = by (kind_of t.head) (subst (λ xs. FactsGrantedWith K l (universes U) (resolved U e) (relation (kind_of t.head)) (resolved U xs)) (closed_stays a.universe [] 0 facts (both_closed t u c d)) a.facts)
    where
      facts : Forest
      facts = tree t.head t.children (tree u.head u.children none)

      say : SameTree l (first_fact (resolved U facts)) (term_of (resolved U facts)) → AreEqual l U t u
      say s = same_to l (alone (first_fact (resolved U facts))) (alone (term_of (resolved U facts))) (resolved U (alone t)) (resolved U (alone u)) (first_resolved U facts) (term_resolved U facts) s

      by : (k : Kind) → FactsGrantedWith K l (universes U) (resolved U e) (relation k) (resolved U facts) → AreEqual l U t u
      by ConstantKind s = say s
      by _ s = say s

  pub all_hold : (e : Env) (gs : List Pending) → All Granted gs → HoldAt (AreListed l) U e gs
  all_hold e gs all t u c d there = granted_one e t u c d (All-contains Granted gs (to_be_one e t u) all there)

-- what stands in a goal of a state is known there
module _ (R : State) (F : Live) (e : Env) where
  both_known : (t u : Tree) → GoalIsOf R F (to_be_one e t u).goal → AreFree (is_strange R F) t u
  both_known t u g =
      let a = holds_parts (is_strange R F) (relation (kind_of t.head)) (tree (H.Part P.Vars) none (tree t.head t.children (tree u.head u.children none))) none g.clause.known in
      let b = holds_parts (is_strange R F) (H.Part P.Vars) none (tree t.head t.children (tree u.head u.children none)) a.under in
      let c = holds_parts (is_strange R F) t.head t.children (tree u.head u.children none) b.others in
      (whole (is_strange R F) t.head t.children none c.here c.under refl, c.others)

  all_known : (ps : List (Tree × Tree)) → GoalsAreOf R F (all_to_be e ps) → AllPairs (AreFree (is_strange R F)) ps
  all_known [] a = All-nil (λ (p : Tree × Tree). AreFree (is_strange R F) p.0 p.1)
  all_known (p ∷ ps) a =
      All-cons (λ (q : Tree × Tree). AreFree (is_strange R F) q.0 q.1) p ps (both_known p.0 p.1 (All-head (λ (q : Pending). GoalIsOf R F q.goal) (to_be_one e p.0 p.1) (all_to_be e ps) a))
      (all_known ps (All-tail (λ (q : Pending). GoalIsOf R F q.goal) (to_be_one e p.0 p.1) (all_to_be e ps) a))

-- Both sides, modulo pairs among which the listed ones are

module _ (P : Tree → Tree → Type 0) (l : Listing) (wide : (t u : Tree) → AreListed l t u → P t u) (listing : IsListing l) (S R U : State) (L : Live) (e a b : Forest) (gs : List Pending) (sound : IsSound S L) (fits : ValuesFit S L) (env : AreTreesOf S L e)
    (left : AreTreesOf S L a) (right : AreTreesOf S L b) (f : Follows S R L) (of : GoalsAreOf R f.live gs) (g : Follows R U f.live) (hold : HoldAt P U e gs) where
  listed_so : (x y : Forest) → Same l x y → SameBy P x y
  listed_so x y q = wider (AreListed l) P wide q

  -- what a side was before values were put in
  ready_same : (ts : Forest) → AreTreesOf S L ts → Same l (resolved U ts) (resolved U (readied l S ts))
  ready_same ts k =
      subst (λ x. Same l x (resolved U (readied l S ts))) ((later_along S R U L f.live sound f.within f.later g.later).values ts k.known) (listed_fold_same l listing U g.live g.fits (resolved S ts))

  ready_known : (ts : Forest) → AreTreesOf S L ts → holds (is_strange R f.live) (readied l S ts) ≡ false
  ready_known ts k = known_later S R L f.live f.within f.later (readied l S ts) (opened_as.readied_trees l listing L S sound ts fits k).known

  module _ (answer : equated_openly l S e a b ≡ Some (gs, R)) where
    abbrev M : Live
    M = opened_as.M l listing S R L e a b gs sound fits env left right answer

    abbrev o : Opened
    o = by l S a b

    abbrev X : Forest
    X = left_opened l S a b

    abbrev Y : Forest
    Y = right_opened l S a b

    goals_are : all_to_be e o.pairs ≡ gs
    goals_are = (opened_as.is l listing S R L e a b gs sound fits env left right answer).left

    pairs_known : AllPairs (AreFree (is_strange R f.live)) o.pairs
    pairs_known = all_known R f.live e o.pairs (subst (GoalsAreOf R f.live) (sym goals_are) of)

    pairs_equal : AllPairs (AreEqualBy P U) o.pairs
    pairs_equal = pairs_hold P U e o.pairs (opened_as.pairs_shut l listing S R L e a b gs sound fits env left right answer) (subst (HoldAt P U e) (sym goals_are) hold)

    X_known : holds (is_strange R f.live) X ≡ false
    X_known = opened_unmarked (is_strange R f.live) o.pairs (readied l S a) pairs_known (ready_known a left)

    Y_known : holds (is_strange R f.live) Y ≡ false
    Y_known = opened_unmarked (is_strange R f.live) o.pairs (readied l S b) pairs_known (ready_known b right)

    X_same : SameBy P (resolved U (readied l S a)) (resolved U X)
    X_same = opened_equal P U o.pairs (readied l S a) pairs_equal

    Y_same : SameBy P (resolved U (readied l S b)) (resolved U Y)
    Y_same = opened_equal P U o.pairs (readied l S b) pairs_equal

    -- equal where the equation ends
    ended : Same l (resolved R X) (resolved R Y)
    ended =
        let leads = opened_as.leads l listing S R L e a b gs sound fits env left right answer in
        let fits_there = opened_as.fits_there l listing S R L e a b gs sound fits env left right answer in
        let end = opened_as.end l listing S R L e a b gs sound fits env left right answer in
        equated_equal l listing R M (fits_later end.later fits_there) o.state R X Y leads.sound fits_there (opened_as.left_trees l listing S R L e a b gs sound fits env left right answer)
        (opened_as.right_trees l listing S R L e a b gs sound fits env left right answer) (opened_as.is l listing S R L e a b gs sound fits env left right answer).is (later_itself R M end.sound)

    stray_free : (ts : Forest) → holds (is_strange R f.live) ts ≡ false → holds (is_stray U g.live) (resolved R ts) ≡ false
    stray_free ts k = holds_imply (is_strange U g.live) (is_stray U g.live) (strange_stray U g.live) (resolved R ts) (known_later R U f.live g.live g.within g.later (resolved R ts) (resolved_known R f.live f.sound ts k))

    ends_equal : Same l (resolved U X) (resolved U Y)
    ends_equal =
        same_to l (resolved U (resolved R X)) (resolved U (resolved R Y)) (resolved U X) (resolved U Y) (g.later.values X X_known) (g.later.values Y Y_known)
        (same_resolved l U g.live g.fits listing (resolved R X) (resolved R Y) (stray_free X X_known) (stray_free Y Y_known) ended)

    open_sides_equal : SameBy P (resolved U a) (resolved U b)
    open_sides_equal =
        along (listed_so _ _ (ready_same a left)) (along X_same (along (listed_so _ _ ends_equal) (back (along (listed_so _ _ (ready_same b right)) Y_same))))

  pub sides_equal_modulo : equation l S e a b ≡ Some (gs, R) → SameBy P (resolved U a) (resolved U b)
  sides_equal_modulo answer = at (asks_openly l S a b) answer
    where
      at : (o : Bool) → equation_if o l S e a b ≡ Some (gs, R) → SameBy P (resolved U a) (resolved U b)
      at true h = open_sides_equal h
      at false h = listed_so _ _ (rigid_sides_equal l listing S R U L a b gs sound fits left right h f g)

-- Modulo the listed pairs, where the goals are granted.
pub sides_equal : {W : Type 0} (K : GoalTable W) (l : Listing) → IsListing l → (S R U : State) (L : Live) (e a b : Forest) (gs : List Pending) → IsSound S L → ValuesFit S L → AreTreesOf S L e → AreTreesOf S L a → AreTreesOf S L b → (f : Follows S R L)
    → GoalsAreOf R f.live gs → Follows R U f.live → All (Granted K l U) gs → equation l S e a b ≡ Some (gs, R) → Same l (resolved U a) (resolved U b)
sides_equal K l listing S R U L e a b gs sound fits env left right f of g granted answer =
    sides_equal_modulo (AreListed l) l (λ t u x. x) listing S R U L e a b gs sound fits env left right f of g (all_hold K l U e gs granted) answer
