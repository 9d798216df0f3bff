-- Projections of an object's own in what is required of it, and the terms in their place: of the state of which the clauses and the terms are;
-- and states to which fresh variables lead.
use Rattle.std.proofs.Common.{◌≡◌, ◌≤◌, ◌+◌, ℕ, Bool, true, false, ◌&&◌, Option, Some, None, List, [], ◌∷◌, ◌++◌, length, refl, sym, ap, subst, arith}
use Rattle.std.specs.List.{All}
use Rattle.std.proofs.Math.Nat.{le_trans}
use Rattle.std.proofs.lemmas.List.Elements.{All-append, All-cons, All-head, All-nil, All-tail}
use Rattle.ir_trees.specs.declared.ir.heads.Head.{Head}
use Rattle.ir_trees.specs.Hierarchy.Supers.{after_first}
use Rattle.ir_trees.specs.Instantiation.Folds.{node}
use Rattle.ir_trees.specs.Instantiation.Opening.{opened}
use Rattle.ir_trees.specs.Syntax.Binders.{escapes, is_beyond}
use Rattle.ir_trees.specs.Syntax.Trees.{Forest, Kind, none, tree, Tree, binders_of, holds}
use Rattle.ir_trees.specs.Unification.Substitutions.{alone}
use Rattle.candidate_eval.specs.Builtins.Callable.{all_but_last, last_tree}
use Rattle.candidate_eval.specs.Dynamic.ObjectRules.{projections_in}
use Rattle.candidate_eval.specs.Dynamic.Objects.{IsExact, Projection}
use Rattle.candidate_eval.specs.Dynamic.Replacing.{Filled, Finds, any_is_about, filled, filled_clause, filled_from, found_or, item_of, own_item, own_projection, projection_if, projections, starts_with, then_filled}
use Rattle.candidate_eval.specs.Judges.Lawful.{Lawful}
use Rattle.candidate_eval.specs.Judges.Soundness.{AreTreesOf, GoalsAreOf, IsLater, IsSound, Live, ValuesFit, Within, is_strange}
use Rattle.candidate_eval.specs.Judges.States.{Judge, State, fresh_variables, with_fresh_variables}
use Rattle.candidate_eval.proofs.Marks.Closed.{after-closed, closed, closed-on, closed-parts, last-closed}
use Rattle.candidate_eval.proofs.Marks.Holds.{holds_parts}
use Rattle.candidate_eval.proofs.Marks.Marking.{after-unmarked, but-last-unmarked, last-unmarked, unmarked}
use Rattle.candidate_assembly.specs.Laws.SuperLaws.{Each}
use Rattle.candidate_assembly.proofs.Refusals.KnownFresh.{counted-still, fits-still, fresh-all, fresher, sound-still, strange-still, wider}
use Rattle.candidate_assembly.proofs.Sense.Sense.{StaysKnown, fresh-trees, goals-stay}
use Rattle.candidate_assembly.proofs.Sense.SenseClauses.{below-closed, below-known, but-last-closed}
use Rattle.candidate_assembly.proofs.Sense.SenseLater.{later-along, later-fresh}
use Rattle.candidate_assembly.proofs.Sense.SenseWalks.{opened-trees}

-- The arguments of the projections in a row bear no mark that the row doesn't bear.

own-arguments : (object : Tree) (bs : List Tree) (h : Head) (b : Forest) (p : Projection) → own_projection object bs h b ≡ Some p → p.arguments ≡ b
own-arguments object bs h b p q = of (item_of h) q
  where
    where-own : (i : ℕ) (x : Bool) → projection_if x i b ≡ Some p → p.arguments ≡ b
    where-own i false q = cc
    where-own i true q = let same : record { item = i; arguments = b } ≡ p = cc in sym (ap (λ (y : Projection). y.arguments) same)

    of : (o : Option ℕ) → own_item object bs b o ≡ Some p → p.arguments ≡ b
    of None q = cc
    of (Some i) q = where-own i (starts_with object b && any_is_about i bs) q

module _ (object : Tree) (bs : List Tree) (mark : Head → Bool) where
  abbrev own : Finds
  own = own_projection object bs

  abbrev AreUnmarked : Projection → Type 0
  AreUnmarked p = holds mark p.arguments ≡ false

  pub projections-unmarked : (ts : Forest) → holds mark ts ≡ false → All AreUnmarked (projections own ts)
  projections-unmarked none e = All-nil AreUnmarked
  projections-unmarked (tree h b r) e =
      let p = holds_parts mark h b r e in
      All-append AreUnmarked (found_or (own h b) (projections own b)) (projections own r) (at (own h b) refl p.under (projections-unmarked b p.under)) (projections-unmarked r p.others)
    where
      at : (o : Option Projection) → own_projection object bs h b ≡ o → holds mark b ≡ false → All AreUnmarked (projections own b) → All AreUnmarked (found_or o (projections own b))
      at None q e more = more
      at (Some x) q e more = All-cons AreUnmarked x [] (subst (λ ts. holds mark ts ≡ false) (sym (own-arguments object bs h b x q)) e) (All-nil AreUnmarked)

-- Of two lists, one after the other.

pub all-first : {X : Type 0} (P : X → Type 0) (xs ys : List X) → All P (xs ++ ys) → All P xs
all-first P [] ys a = All-nil P
all-first P (x ∷ xs) ys a = All-cons P x xs (All-head P x (xs ++ ys) a) (all-first P xs ys (All-tail P x (xs ++ ys) a))

pub all-second : {X : Type 0} (P : X → Type 0) (xs ys : List X) → All P (xs ++ ys) → All P ys
all-second P [] ys a = a
all-second P (x ∷ xs) ys a = all-second P xs ys (All-tail P x (xs ++ ys) a)

-- Trees with terms in the place of projections.

module _ (S : State) (L : Live) where
  abbrev mark : Head → Bool
  mark = is_strange S L

  abbrev pub IsTerm : Tree → Type 0
  IsTerm u = AreTreesOf S L (alone u)

  record AreFilled (d : ℕ) (r : Filled) : Type 0 where
    known : holds mark r.trees ≡ false
    is_closed : escapes d r.trees ≡ false
    left : Each IsTerm r.left

  filled-of : (f : Finds) (d : ℕ) (ts : Forest) (us : List Tree) → holds mark ts ≡ false → escapes d ts ≡ false → Each IsTerm us → AreFilled d (filled f ts us)
  filled-of f d none us k e a = record { known = refl; is_closed = refl; left = a }
  filled-of f d (tree h below rest) us k e a =
      let p = holds_parts mark h below rest k in
      let q = closed-parts d h below rest e in
      at (f h below) p.here q.here (unmarked mark h below none p.here p.under refl) (closed d h below none q.here q.under refl) us a (filled-of f (d + binders_of h) below us p.under q.under a)
      (λ vs b. filled-of f d rest vs p.others q.others b)
    where
      one : (t : Tree) (more : Filled) → holds mark (alone t) ≡ false → escapes d (alone t) ≡ false → AreFilled d more → AreFilled d (then_filled t more)
      one t more x y m =
          let p = holds_parts mark t.head t.children none x in
          let q = closed-parts d t.head t.children none y in
          record { known = unmarked mark t.head t.children more.trees p.here p.under m.known; is_closed = closed d t.head t.children more.trees q.here q.under m.is_closed; left = m.left }

      at : (o : Option Projection) → mark h ≡ false → is_beyond d h ≡ false → holds mark (tree h below none) ≡ false → escapes d (tree h below none) ≡ false → (vs : List Tree) → Each IsTerm vs
          → AreFilled (d + binders_of h) (filled f below us) → ((ws : List Tree) → Each IsTerm ws → AreFilled d (filled f rest ws))
          → AreFilled d (filled_from o (node h below) (filled f below us) vs (filled f rest))
      at None m n x y vs b under others =
          let more = others (filled f below us).left under.left in
          one (node h (filled f below us).trees) (filled f rest (filled f below us).left) (unmarked mark h (filled f below us).trees none m under.known refl) (closed d h (filled f below us).trees none n under.is_closed refl) more
      at (Some p) m n x y [] b under others = one (node h below) (filled f rest []) x y (others [] tt)
      at (Some p) m n x y (v ∷ vs) b under others = one v (filled f rest vs) b.0.known (closed-on 0 d (alone v) (omega arith) b.0.is_closed) (others vs b.1)

  pub filled-clause-of : (f : Finds) (us : List Tree) (c : Tree) → AreTreesOf S L (alone c) → Each IsTerm us → AreTreesOf S L (alone (filled_clause f us c))
  filled-clause-of f us c a b =
      let p = holds_parts mark c.head c.children none a.known in
      let q = closed-parts 0 c.head c.children none a.is_closed in
      let r = filled-of f (0 + binders_of c.head) c.children us p.under q.under b in
      record { known = unmarked mark c.head (filled f c.children us).trees none p.here r.known refl; is_closed = closed 0 c.head (filled f c.children us).trees none q.here r.is_closed refl }

  -- An instance of a clause, with trees of the state for its binder's variables.
  pub instance-of : (F : Forest) (c : Tree) → AreTreesOf S L F → AreTreesOf S L (alone c) → AreTreesOf S L (opened F (after_first c.children))
  instance-of F c a b = opened-trees S L F (after_first c.children) a (after-unmarked mark c.children (below-known S L c b)) (after-closed 1 c.children (below-closed S L c b))

  pub but-last-of : (ts : Forest) → AreTreesOf S L ts → AreTreesOf S L (all_but_last ts)
  but-last-of ts a = record { known = but-last-unmarked mark ts a.known; is_closed = but-last-closed S L 0 ts a.is_closed }

  pub last-of : (ts : Forest) → AreTreesOf S L ts → AreTreesOf S L (alone (last_tree ts))
  last-of ts a = record { known = last-unmarked mark ts refl a.known; is_closed = last-closed 0 ts a.is_closed }

-- Projections of which the arguments are of a state: those in a clause of it, where no bound variable escapes from them.

abbrev pub ArgumentsAreOf : State → Live → Projection → Type 0
ArgumentsAreOf T M p = AreTreesOf T M p.arguments

abbrev pub ProjectionIsClosed : Projection → Type 0
ProjectionIsClosed p = escapes 0 p.arguments ≡ false

module _ (object : Tree) (bs : List Tree) (T : State) (M : Live) where
  arguments-of : (c : Tree) → AreTreesOf T M (alone c) → All ProjectionIsClosed (projections (own_projection object bs) c.children) → All (ArgumentsAreOf T M) (projections (own_projection object bs) c.children)
  arguments-of c a shut = both (projections (own_projection object bs) c.children) (projections-unmarked object bs (is_strange T M) c.children (below-known T M c a)) shut
    where
      both : (ps : List Projection) → All (λ (p : Projection). holds (is_strange T M) p.arguments ≡ false) ps → All ProjectionIsClosed ps → All (ArgumentsAreOf T M) ps
      both [] a b = All-nil (ArgumentsAreOf T M)
      both (p ∷ ps) a b =
          All-cons (ArgumentsAreOf T M) p ps (record { known = All-head (λ (p : Projection). holds (is_strange T M) p.arguments ≡ false) p ps a; is_closed = All-head ProjectionIsClosed p ps b })
          (both ps (All-tail (λ (p : Projection). holds (is_strange T M) p.arguments ≡ false) p ps a) (All-tail ProjectionIsClosed p ps b))

  pub all-arguments-of : (cs : List Tree) → Each (IsTerm T M) cs → All ProjectionIsClosed (projections_in (own_projection object bs) cs) → All (ArgumentsAreOf T M) (projections_in (own_projection object bs) cs)
  all-arguments-of [] a shut = All-nil (ArgumentsAreOf T M)
  all-arguments-of (c ∷ cs) a shut =
      let ps = projections (own_projection object bs) c.children in
      let qs = projections_in (own_projection object bs) cs in
      All-append (ArgumentsAreOf T M) ps qs (arguments-of c a.0 (all-first ProjectionIsClosed ps qs shut)) (all-arguments-of cs a.1 (all-second ProjectionIsClosed ps qs shut))

module _ (J : Judge) (law : Lawful J) (S : State) (L : Live) (first : IsSound S L) where
  -- A state after the first, of which some variables count whose values make sense; what is pending is of it, and what stood at the first does.
  -- Where closed probes leave the very state before, it comes after the first.
  pub record StandsAfter (T : State) : Type 0 where
    pub live : Live
    pub sound : IsSound T live
    pub fits : ValuesFit T live
    pub goals : GoalsAreOf T live T.pending
    pub stays : StaysKnown S L T live
    pub longer : length S.variables ≤ length T.variables
    pub within : Within S L live
    pub later : IsExact J → IsLater S T L

  -- one that comes after such a state
  pub record Moves (T : State) (m : StandsAfter T) (U : State) : Type 0 where
    pub to : StandsAfter U
    pub stays : StaysKnown T m.live U to.live

  -- with fresh variables, which are trees of it
  pub record FreshMoves (T : State) (m : StandsAfter T) (ks : List Kind) (U : State) : Type 0 where
    pub moves : Moves T m U
    pub trees : AreTreesOf U moves.to.live (fresh_variables T ks)

  pub fresh-moves : (T : State) (m : StandsAfter T) (ks : List Kind) → FreshMoves T m ks (with_fresh_variables T ks)
  fresh-moves T m ks =
      let U = fresher T ks in
      let M = wider T m.live in
      let stays : StaysKnown T m.live U M = strange-still T m.live ks in
      let after = later-fresh T m.live m.sound ks in
      subst (FreshMoves T m ks) (sym (fresh-all T ks))
      (record {
        moves = record {
          to = record {
            live = M;
            sound = sound-still T m.live ks m.sound;
            fits = fits-still T m.live ks m.fits;
            goals = goals-stay T m.live U M stays T.pending m.goals;
            stays = λ h x. stays h (m.stays h x);
            longer = le_trans m.longer after.longer;
            within = λ n l c. counted-still T m.live ks n (m.within n l c);
            later = λ x. later-along S T U L m.live first m.within (m.later x) after;
          };
          stays = stays;
        };
        trees = fresh-trees T m.live ks;
      })
