-- Sides of an accepted equation are equal at every later state at which the goals that it leaves hold.
use Rattle.std.proofs.Common.{◌≡◌, zero, suc, Bool, true, false, List, [], ◌∷◌, Some, arith, refl, sym, subst}
use Rattle.std.specs.List.{Contains}
use Rattle.std.proofs.lemmas.List.Elements.{All-cons, All-head, All-nil, All-tail}
use Rattle.ir_trees.specs.Syntax.Binders.{escapes}
use Rattle.ir_trees.specs.Syntax.Trees.{Forest, Tree}
use Rattle.ir_trees.specs.Unification.Substitutions.{alone}
use Rattle.candidate_eval.specs.Judges.Soundness.{AreTreesOf, IsLater, IsSound, Live, ValuesFit}
use Rattle.candidate_eval.specs.Judges.States.{Env, Pending, State, resolved, resolved_tree}
use Rattle.rounds_judge.specs.Aliases.Congruence.{AreListed, Same, SameBy, along, back}
use Rattle.rounds_judge.specs.Aliases.Listed.{Listing}
use Rattle.rounds_judge.specs.Aliases.OpenParts.{all_to_be, to_be_one}
use Rattle.rounds_judge.specs.Equations.Equating.{equated}
use Rattle.rounds_judge.specs.Equations.Opening.{Opened, equated_openly, equation, readied}
use Rattle.rounds_judge.specs.Equations.Standing.{IsListing}
use Rattle.rounds_judge.proofs.Aliases.Equated.{equated_equal, listed_fold_same}
use Rattle.rounds_judge.proofs.Aliases.OpenedParts.{AllPairs, AreClosed}
use Rattle.rounds_judge.proofs.Lawfulness.OpenEquations as openly
use Rattle.rounds_judge.proofs.Lawfulness.OpenEquations.{asks_openly, by, equation_if, left_opened, right_opened}
use Rattle.rounds_judge.proofs.Projections.Equality.{opened_equal, wider}
use Rattle.rounds_judge.proofs.Projections.Leaving.{counts_all}
use Rattle.rounds_judge.proofs.States.Later.{later_along}
use Rattle.rounds_judge.proofs.Table.TableFresh.{CountsNew}
use Rattle.rounds_judge.proofs.Table.TableSettled.{with_new}
use Rattle.rounds_judge.proofs.Unifiers.EquatingLaws.{no_goals}

-- two trees are equal at a state
abbrev pub AreEqualBy : (Tree → Tree → Type 0) → State → Tree → Tree → Type 0
AreEqualBy P U t u = SameBy P (alone (resolved_tree U t)) (alone (resolved_tree U u))

-- Each goal of these that two closed trees are one holds there.
abbrev pub HoldAt : (Tree → Tree → Type 0) → State → Env → List Pending → Type 0
HoldAt P U e gs = (t u : Tree) → escapes 0 (alone t) ≡ false → escapes 0 (alone u) ≡ false → Contains gs (to_be_one e t u) → AreEqualBy P U t u

next_there : (p : Pending) (ps : List Pending) (q : Pending) → Contains ps q → Contains (p ∷ ps) q
next_there p ps q c = (suc c.0, (let less = c.1 in omega (arith, less)), c.2)

pub pairs_hold : (P : Tree → Tree → Type 0) (U : State) (e : Env) (ps : List (Tree × Tree)) → AllPairs AreClosed ps → HoldAt P U e (all_to_be e ps) → AllPairs (AreEqualBy P U) ps
pairs_hold P U e [] closed h = All-nil (λ (p : Tree × Tree). AreEqualBy P U p.0 p.1)
pairs_hold P U e (p ∷ ps) closed h =
    let c = All-head (λ (q : Tree × Tree). AreClosed q.0 q.1) p ps closed in
    All-cons (λ (q : Tree × Tree). AreEqualBy P U q.0 q.1) p ps (h p.0 p.1 c.0 c.1 (zero, omega arith, refl))
    (pairs_hold P U e ps (All-tail (λ (q : Tree × Tree). AreClosed q.0 q.1) p ps closed) (λ t u x y there. h t u x y (next_there (to_be_one e p.0 p.1) (all_to_be e ps) (to_be_one e t u) there)))

module _ (l : Listing) (listing : IsListing l) (P : Tree → Tree → Type 0) (wide : (t u : Tree) → AreListed l t u → P t u) (S R U : State) (L : Live) (e a b : Forest) (gs : List Pending) (sound : IsSound S L) (fits : ValuesFit S L)
    (new : CountsNew S L) (env : AreTreesOf S L e) (left : AreTreesOf S L a) (right : AreTreesOf S L b) (first : IsLater S R L) (fits_last : ValuesFit U L) (after : IsLater R U L) (hold : HoldAt P U e gs) where
  later : IsLater S U L
  later = later_along S R U L L sound (λ n l c. c) first after

  listed_so : (x y : Forest) → Same l x y → SameBy P x y
  listed_so x y s = wider (AreListed l) P wide s

  ready_equal : (ts : Forest) → AreTreesOf S L ts → SameBy P (resolved U ts) (resolved U (readied l S ts))
  ready_equal ts k = listed_so _ _ (subst (λ x. Same l x (resolved U (readied l S ts))) (later.values ts k.known) (listed_fold_same l listing U L fits_last (resolved S ts)))

  module _ (answer : equated_openly l S e a b ≡ Some (gs, R)) where
    abbrev M : Live
    M = with_new S L

    abbrev o : Opened
    o = by l S a b

    abbrev X : Forest
    X = left_opened l S a b

    abbrev Y : Forest
    Y = right_opened l S a b

    goals_are : all_to_be e o.pairs ≡ gs
    goals_are = (openly.is l listing S R L e a b gs sound fits env left right answer).left

    pairs_equal : AllPairs (AreEqualBy P U) o.pairs
    pairs_equal = pairs_hold P U e o.pairs (openly.pairs_shut l listing S R L e a b gs sound fits env left right answer) (subst (HoldAt P U e) (sym goals_are) hold)

    ended : SameBy P (resolved U X) (resolved U Y)
    ended =
        let leads = openly.leads l listing S R L e a b gs sound fits env left right answer in
        let fits_there = openly.fits_there l listing S R L e a b gs sound fits env left right answer in
        let all = counts_all S L new in
        listed_so _ _
        (equated_equal l listing U M (subst (ValuesFit U) (sym all) fits_last) o.state R X Y leads.sound fits_there (openly.left_trees l listing S R L e a b gs sound fits env left right answer)
        (openly.right_trees l listing S R L e a b gs sound fits env left right answer) (openly.is l listing S R L e a b gs sound fits env left right answer).is (subst (IsLater R U) (sym all) after))

    open_sides : SameBy P (resolved U a) (resolved U b)
    open_sides =
        along (ready_equal a left) (along (opened_equal P U o.pairs (readied l S a) pairs_equal) (along ended (back (along (ready_equal b right) (opened_equal P U o.pairs (readied l S b) pairs_equal)))))

  pub sides_hold : equation l S e a b ≡ Some (gs, R) → SameBy P (resolved U a) (resolved U b)
  sides_hold answer = at (asks_openly l S a b) answer
    where
      at : (x : Bool) → equation_if x l S e a b ≡ Some (gs, R) → SameBy P (resolved U a) (resolved U b)
      at true h = open_sides h
      at false h = listed_so _ _ (equated_equal l listing U L fits_last S R a b sound fits left right (no_goals (equated l S a b) gs R h).is after)
