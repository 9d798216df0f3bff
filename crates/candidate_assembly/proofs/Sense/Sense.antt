-- Rules lead from a goal that stands to states whose values make sense: each step of a rule whose trees are of the first state.
use Rattle.std.proofs.Common.{◌≡◌, ℕ, suc, Bool, true, false, Option, Some, None, List, [], ◌∷◌, ◌++◌, refl, sym, ap, subst, arith, nat_lt}
use Rattle.std.specs.List.{All, filter}
use Rattle.std.proofs.lemmas.Bool.{le-ltb, ltb-false}
use Rattle.std.proofs.lemmas.List.Elements.{All-append, All-cons, All-filter, All-head, All-nil, All-tail, All-weaker}
use Rattle.std.proofs.Math.Nat.{le_trans}
use Rattle.ir_trees.specs.declared.ir.heads.ConstHead.TheVariants as C
use Rattle.ir_trees.specs.declared.ir.heads.Head.{Head}
use Rattle.ir_trees.specs.declared.ir.heads.Head.TheVariants as H
use Rattle.ir_trees.specs.declared.ir.kinds.GoalSource.{GoalSource}
use Rattle.ir_trees.specs.declared.ir.kinds.RegionKind.TheVariants as R
use Rattle.ir_trees.specs.Syntax.Binders.{escapes}
use Rattle.ir_trees.specs.Unification.Substitutions.{alone}
use Rattle.ir_trees.specs.Syntax.Trees.{ConstantKind, Forest, Kind, RegionKind, Tree, holds, join, none, tree}
use Rattle.candidate_eval.specs.declared.eval.certainty.Certainty.{Certainty}
use Rattle.candidate_eval.specs.Derivations.Judging.{Place, Reached, At, Ambiguous, Over, Judged, Refused, at_if, at_state, equated_at, go_on, goal_at, made_fresh, made_rigid, matched, matched_and_settled, matches, picked, put_in, put_in_tree, reached, run, settled_at, start, step, taken, with_goals, with_locals}
use Rattle.candidate_eval.specs.Judges.Lawful.{Lawful}
use Rattle.candidate_eval.specs.Derivations.Rules.{Match, Pick, Upcast, Require, Step, fresh, enter, equate, quick, add, settle, pick, still_general, unknowable}
use Rattle.candidate_eval.specs.Judges.Soundness.{AreTreesOf, GoalIsOf, GoalsAreOf, IsLater, IsSound, Live, ValuesFit, Within, is_strange}
use Rattle.candidate_eval.specs.Judges.States.{Env, Judge, Pending, State, added, fresh_variables, next, placeholder, placeholders, variable_kind, with_pending, with_universe}
use Rattle.candidate_eval.proofs.Marks.Closed.{closed, closed-parts}
use Rattle.candidate_eval.proofs.Marks.Holds.{holds_imply, holds_parts}
use Rattle.candidate_eval.proofs.Marks.Marking.{unmarked}
use Rattle.candidate_assembly.proofs.Refusals.KnownFresh.{counted-still, counts-fresh, fits-still, fresh-all, fresh-there, fresher, sound-still, strange-still, wider}
use Rattle.candidate_assembly.proofs.Refusals.KnownHeaders.{filled-closed, filled-unmarked, fresh-closed, fresh-unmarked, strange-fresh}
use Rattle.candidate_assembly.proofs.Rules.PartClauses.{placeholders-closed}
use Rattle.candidate_assembly.proofs.Sense.SenseLater.{later-along, later-fresh, later-itself, later-pending, later-universe}
use Rattle.candidate_assembly.proofs.Goals.Standing.{strange-later}

-- What stood at the one state stands at the other.

abbrev pub StaysKnown : State → Live → State → Live → Type 0
StaysKnown S L T M = (h : Head) → is_strange S L h ≡ false → is_strange T M h ≡ false

pub trees-stay : (S : State) (L : Live) (T : State) (M : Live) → StaysKnown S L T M → (ts : Forest) → AreTreesOf S L ts → AreTreesOf T M ts
trees-stay S L T M stays ts a = record { known = holds_imply (is_strange S L) (is_strange T M) stays ts a.known; is_closed = a.is_closed }

pub goals-stay : (S : State) (L : Live) (T : State) (M : Live) → StaysKnown S L T M → (ps : List Pending) → GoalsAreOf S L ps → GoalsAreOf T M ps
goals-stay S L T M stays ps all =
    All-weaker (λ (p : Pending). GoalIsOf S L p.goal) (λ (p : Pending). GoalIsOf T M p.goal)
    (λ p g. record { env = trees-stay S L T M stays p.goal.env g.env; clause = trees-stay S L T M stays (alone p.goal.clause) g.clause }) ps all

-- Two rows, one after the other.

pub join-unmarked : (mark : Head → Bool) (a b : Forest) → holds mark a ≡ false → holds mark b ≡ false → holds mark (join a b) ≡ false
join-unmarked mark none b e f = f
join-unmarked mark (tree h below rest) b e f = let p = holds_parts mark h below rest e in unmarked mark h below (join rest b) p.here p.under (join-unmarked mark rest b p.others f)

pub join-closed : (n : ℕ) (a b : Forest) → escapes n a ≡ false → escapes n b ≡ false → escapes n (join a b) ≡ false
join-closed n none b e f = f
join-closed n (tree h below rest) b e f = let p = closed-parts n h below rest e in closed n h below (join rest b) p.here p.under (join-closed n rest b p.others f)

pub trees-join : (S : State) (L : Live) (a b : Forest) → AreTreesOf S L a → AreTreesOf S L b → AreTreesOf S L (join a b)
trees-join S L a b x y = record { known = join-unmarked (is_strange S L) a b x.known y.known; is_closed = join-closed 0 a b x.is_closed y.is_closed }

-- Placeholders of a fresh universe.

more-universes : (n u : ℕ) → nat_lt n u ≡ false → nat_lt (suc n) u ≡ false
more-universes n u e = let low = ltb-false n u e in le-ltb (suc n) u (omega (arith, low))

own-universe : (n : ℕ) → nat_lt n n ≡ false
own-universe n = le-ltb n n (omega arith)

pub universe-stays : (S : State) (L : Live) → StaysKnown S L (with_universe S) L
universe-stays S L (H.Infer v) e = e
universe-stays S L (H.Region (R.Var n)) e = e
universe-stays S L (H.Placeholder p) e = more-universes S.newest_universe p.universe e
universe-stays S L (H.Const (C.Placeholder p)) e = more-universes S.newest_universe p.universe e
universe-stays S L (H.Region (R.Placeholder p)) e = more-universes S.newest_universe p.universe e
universe-stays S L _ e = refl

pub universe-sound : (S : State) (L : Live) → IsSound S L → IsSound (with_universe S) L
universe-sound S L sound = record {
  allowed = sound.allowed;
  no_higher = sound.no_higher;
  is_resolved = sound.is_resolved;
  known = λ n i t c e v. holds_imply (is_strange S L) (is_strange (with_universe S) L) (universe-stays S L) (alone t) (sound.known n i t c e v);
  universes = λ n i c e. le_trans (sound.universes n i c e) (omega arith);
}

placeholder-known : (S : State) (L : Live) (k : Kind) (n : ℕ) → is_strange (with_universe S) L (placeholder k (suc S.newest_universe) n) ≡ false
placeholder-known S L ConstantKind n = own-universe (suc S.newest_universe)
placeholder-known S L RegionKind n = own-universe (suc S.newest_universe)
placeholder-known S L _ n = own-universe (suc S.newest_universe)

placeholders-known : (S : State) (L : Live) (n : ℕ) (ks : List Kind) → holds (is_strange (with_universe S) L) (placeholders (suc S.newest_universe) n ks) ≡ false
placeholders-known S L n [] = refl
placeholders-known S L n (k ∷ ks) =
    let u = suc S.newest_universe in
    unmarked (is_strange (with_universe S) L) (placeholder k u n) none (placeholders u (suc n) ks) (placeholder-known S L k n) refl (placeholders-known S L (suc n) ks)

pub placeholders-trees : (S : State) (L : Live) (ks : List Kind) → AreTreesOf (with_universe S) L (placeholders (suc S.newest_universe) 0 ks)
placeholders-trees S L ks = record { known = placeholders-known S L 0 ks; is_closed = placeholders-closed (suc S.newest_universe) 0 ks }

-- Fresh variables.
pub fresh-trees : (S : State) (L : Live) (ks : List Kind) → AreTreesOf (fresher S ks) (wider S L) (fresh_variables S ks)
fresh-trees S L ks = record {
  known = fresh-unmarked (is_strange (fresher S ks) (wider S L)) S ks (λ j k e. strange-fresh S L ks none refl (variable_kind k) _ (fresh-there S L ks j k e) (counts-fresh S L ks j));
  is_closed = fresh-closed S ks;
}

-- Other goals that are pending.

pub pending-stays : (S : State) (L : Live) (ps : List Pending) → StaysKnown S L (with_pending S ps) L
pending-stays S L ps (H.Infer v) e = e
pending-stays S L ps (H.Region (R.Var n)) e = e
pending-stays S L ps (H.Placeholder p) e = e
pending-stays S L ps (H.Const (C.Placeholder p)) e = e
pending-stays S L ps (H.Region (R.Placeholder p)) e = e
pending-stays S L ps _ e = refl

pub pending-sound : (S : State) (L : Live) (ps : List Pending) → IsSound S L → IsSound (with_pending S ps) L
pending-sound S L ps h = record { allowed = h.allowed; no_higher = h.no_higher; is_resolved = h.is_resolved; known = h.known; universes = h.universes }

-- A place that makes sense: of its state some variables count, whose values make sense; what is pending are goals of it; what stands for the
-- rule's variables are trees of it; and so is what stood at a first state, which it follows.
pub record MakesSense (S : State) (L : Live) (p : Place) : Type 0 where
  pub live : Live
  pub sound : IsSound p.state live
  pub fits : ValuesFit p.state live
  pub goals : GoalsAreOf p.state live p.state.pending
  pub locals : AreTreesOf p.state live p.locals
  pub stays : StaysKnown S L p.state live
  pub first : IsSound S L
  pub within : Within S L live
  pub later : IsLater S p.state L

-- Steps of which the trees are of a state. The rule's own variables may stand in them. No impl of another crate is asked about.

pub record MatchIsOf (S : State) (L : Live) (m : Match) : Type 0 where
  pub left : AreTreesOf S L m.left
  pub right : AreTreesOf S L m.right
  pub term : AreTreesOf S L (alone m.term)

abbrev pub StepIsOf : State → Live → Step → Type 0
StepIsOf S L (fresh ks) = Unit {0}
StepIsOf S L (enter ks) = Unit {0}
StepIsOf S L (equate a b) = AreTreesOf S L a × AreTreesOf S L b
StepIsOf S L (quick a b) = Unit {0}
StepIsOf S L (add s c) = AreTreesOf S L (alone c)
StepIsOf S L settle = Unit {0}
StepIsOf S L (pick k ms) = All (MatchIsOf S L) ms
StepIsOf S L (still_general t) = Unit {0}
StepIsOf S L (unknowable r) = ⊥

abbrev pub StepsAreOf : State → Live → List Step → Type 0
StepsAreOf S L ss = All (StepIsOf S L) ss

-- What follows the place follows the first state.

pub within-on : (S : State) (L : Live) (p : Place) (m : MakesSense S L p) (M : Live) → Within p.state m.live M → Within S L M
within-on S L p m M within n l c = within n (le_trans l m.later.longer) (m.within n l c)

pub later-on : (S : State) (L : Live) (p : Place) (m : MakesSense S L p) (T : State) → IsLater p.state T m.live → IsLater S T L
later-on S L p m T later = later-along S p.state T L m.live m.first m.within m.later later

-- What steps come to.

at-place : (j : Judged) (o : Option Place) (q : Place) → reached j o ≡ At q → o ≡ Some q
at-place j None q e = absurd cc
at-place j (Some p) q e = let same : p ≡ q = cc in ap (λ (x : Place). Some x) same

at-same : (p : Place) (b : Bool) (q : Place) → at_if p b ≡ At q → p ≡ q
at-same p true q e = let same : p ≡ q = cc in same
at-same p false q e = absurd cc

module _ (J : Judge) (law : Lawful J) (S : State) (L : Live) (e : Env) (env : AreTreesOf S L e) where
  here : (p : Place) (m : MakesSense S L p) (ts : Forest) → AreTreesOf S L ts → AreTreesOf p.state m.live ts
  here p m ts a = trees-stay S L p.state m.live m.stays ts a

  pub put-here : (p : Place) (m : MakesSense S L p) (ts : Forest) → AreTreesOf S L ts → AreTreesOf p.state m.live (put_in p ts)
  put-here p m ts a =
      let b = here p m ts a in
      let mark = is_strange p.state m.live in
      record {
        known = filled-unmarked mark refl (λ v. refl) (λ v. refl) (λ v. refl) p.locals m.locals.known mark (λ h x. x) ts b.known;
        is_closed = filled-closed p.locals m.locals.is_closed 0 0 ts b.is_closed;
      }

  pub fresh-makes : (p : Place) (ks : List Kind) → MakesSense S L p → MakesSense S L (made_fresh p ks)
  fresh-makes p ks m =
      let T = fresher p.state ks in
      let M = wider p.state m.live in
      let still = strange-still p.state m.live ks in
      subst (λ (U : State). MakesSense S L (with_locals p U (fresh_variables p.state ks))) (sym (fresh-all p.state ks)) (record {
        live = M;
        sound = sound-still p.state m.live ks m.sound;
        fits = fits-still p.state m.live ks m.fits;
        goals = goals-stay p.state m.live T M still p.state.pending m.goals;
        locals = trees-join T M p.locals (fresh_variables p.state ks) (trees-stay p.state m.live T M still p.locals m.locals) (fresh-trees p.state m.live ks);
        stays = λ h x. still h (m.stays h x);
        first = m.first;
        within = within-on S L p m M (λ n l c. counted-still p.state m.live ks n c);
        later = later-on S L p m T (later-fresh p.state m.live m.sound ks);
      })

  pub rigid-makes : (p : Place) (ks : List Kind) → MakesSense S L p → MakesSense S L (made_rigid p ks)
  rigid-makes p [] m = m
  rigid-makes p (k ∷ ks) m =
      let T = with_universe p.state in
      let M = m.live in
      let still = universe-stays p.state M in
      record {
        live = M;
        sound = universe-sound p.state M m.sound;
        fits = m.fits;
        goals = goals-stay p.state M T M still p.state.pending m.goals;
        locals = trees-join T M p.locals (placeholders (suc p.state.newest_universe) 0 (k ∷ ks)) (trees-stay p.state M T M still p.locals m.locals) (placeholders-trees p.state M (k ∷ ks));
        stays = λ h x. still h (m.stays h x);
        first = m.first;
        within = within-on S L p m M (λ n l c. c);
        later = later-on S L p m T (later-universe p.state M m.sound);
      }

  pub equated-makes : (p : Place) (a b : Forest) (q : Place) → MakesSense S L p → AreTreesOf S L a → AreTreesOf S L b → equated_at J e p a b ≡ Some q → MakesSense S L q
  equated-makes p a b q m left right is = at (J.equated p.state e (put_in p a) (put_in p b)) refl is
    where
      at : (o : Option (List Pending × State)) → J.equated p.state e (put_in p a) (put_in p b) ≡ o → next o (λ r. Some (with_goals p r)) ≡ Some q → MakesSense S L q
      at None was g = absurd cc
      at (Some r) was g =
          let same : with_goals p r ≡ q = cc in
          let T = r.1 in
          let n = law.equations.equating_follows p.state T m.live e (put_in p a) (put_in p b) r.0 m.sound m.fits (here p m e env) (put-here p m a left) (put-here p m b right) was in
          let M = n.follows.live in
          let still = strange-later p.state T m.live M n.follows.within n.follows.later in
          let ps = T.pending ++ r.0 in
          let U = with_pending T ps in
          let set = pending-stays T M ps in
          let kept = law.equations.equating_keeps_pending p.state T e (put_in p a) (put_in p b) r.0 was in
          let old : GoalsAreOf T M T.pending = subst (GoalsAreOf T M) (sym kept) (goals-stay p.state m.live T M still p.state.pending m.goals) in
          subst (MakesSense S L) same (record {
            live = M;
            sound = pending-sound T M ps n.follows.sound;
            fits = n.follows.fits;
            goals = goals-stay T M U M set ps (All-append (λ (x : Pending). GoalIsOf T M x.goal) T.pending r.0 old n.goals);
            locals = trees-stay T M U M set p.locals (trees-stay p.state m.live T M still p.locals m.locals);
            stays = λ h x. set h (still h (m.stays h x));
            first = m.first;
            within = within-on S L p m M n.follows.within;
            later = later-on S L p m U (later-along p.state T U m.live M m.sound n.follows.within n.follows.later (later-pending T M n.follows.sound ps));
          })

  pub added-makes : (p : Place) (s : GoalSource) (c : Tree) → MakesSense S L p → AreTreesOf S L (alone c) → MakesSense S L (at_state p (added p.state (goal_at e p s c)))
  added-makes p s c m a =
      let T = p.state in
      let M = m.live in
      let ps = T.pending ++ goal_at e p s c ∷ [] in
      let U = with_pending T ps in
      let set = pending-stays T M ps in
      let IsOf = λ (x : Pending). GoalIsOf T M x.goal in
      record {
        live = M;
        sound = pending-sound T M ps m.sound;
        fits = m.fits;
        goals = goals-stay T M U M set ps (All-append IsOf T.pending (goal_at e p s c ∷ []) m.goals (All-cons IsOf (goal_at e p s c) [] (record { env = here p m e env; clause = put-here p m (alone c) a }) (All-nil IsOf)));
        locals = trees-stay T M U M set p.locals m.locals;
        stays = λ h x. set h (m.stays h x);
        first = m.first;
        within = within-on S L p m M (λ n l c. c);
        later = later-on S L p m U (later-pending T M m.sound ps);
      }

  pub settled-makes : (p q : Place) → MakesSense S L p → settled_at J p ≡ Some q → MakesSense S L q
  settled-makes p q m is = at (J.settled p.state) refl is
    where
      at : (o : Option (Certainty × State)) → J.settled p.state ≡ o → next o (λ r. Some (at_state p r.1)) ≡ Some q → MakesSense S L q
      at None was g = absurd cc
      at (Some r) was g =
          let same : at_state p r.1 ≡ q = cc in
          let T = r.1 in
          let n = law.granted.settling_follows p.state T m.live r.0 m.sound m.fits m.goals was in
          let M = n.follows.live in
          let still = strange-later p.state T m.live M n.follows.within n.follows.later in
          subst (MakesSense S L) same (record {
            live = M;
            sound = n.follows.sound;
            fits = n.follows.fits;
            goals = n.goals;
            locals = trees-stay p.state m.live T M still p.locals m.locals;
            stays = λ h x. still h (m.stays h x);
            first = m.first;
            within = within-on S L p m M n.follows.within;
            later = later-on S L p m T n.follows.later;
          })

  pub matched-makes : (p : Place) (x : Match) (q : Place) → MakesSense S L p → MatchIsOf S L x → matched J e p x ≡ Some q → MakesSense S L q
  matched-makes p x q m of is =
      equated-makes (made_fresh (made_rigid p x.entered) x.instantiated) x.left x.right q (fresh-makes (made_rigid p x.entered) x.instantiated (rigid-makes p x.entered m)) of.left of.right is

  pub matched-settled-makes : (p : Place) (x : Match) (q : Place) → MakesSense S L p → MatchIsOf S L x → matched_and_settled J e p x ≡ Some q → MakesSense S L q
  matched-settled-makes p x q m of is = at (matched J e p x) refl is
    where
      at : (o : Option Place) → matched J e p x ≡ o → next o (settled_at J) ≡ Some q → MakesSense S L q
      at None was g = absurd cc
      at (Some r) was g = settled-makes r q (matched-makes p x r m of was) g

-- One of some matches, and so all steps.

match-stays : (S : State) (L : Live) (T : State) (M : Live) → StaysKnown S L T M → (m : Match) → MatchIsOf S L m → MatchIsOf T M m
match-stays S L T M stays m a = record { left = trees-stay S L T M stays m.left a.left; right = trees-stay S L T M stays m.right a.right; term = trees-stay S L T M stays (alone m.term) a.term }

-- a place makes sense of itself
pub itself-makes : (S : State) (L : Live) (p : Place) (m : MakesSense S L p) → MakesSense p.state m.live p
itself-makes S L p m = record { live = m.live; sound = m.sound; fits = m.fits; goals = m.goals; locals = m.locals; stays = λ h x. x; first = m.sound; within = λ n l c. c; later = later-itself p.state m.live m.sound }

module _ (J : Judge) (law : Lawful J) (S : State) (L : Live) (e : Env) (env : AreTreesOf S L e) where
  -- the term of a match becomes one of the rule's variables
  term-makes : (p : Place) (m : MakesSense S L p) (q : Place) → MakesSense p.state m.live q → (t : Tree) → AreTreesOf S L (alone t) → MakesSense S L (with_locals p q.state (alone (put_in_tree q t)))
  term-makes p m q n t a =
      let T = q.state in
      record {
        live = n.live;
        sound = n.sound;
        fits = n.fits;
        goals = n.goals;
        locals =
            trees-join T n.live p.locals (alone (put_in_tree q t)) (trees-stay p.state m.live T n.live n.stays p.locals m.locals)
            (put-here J law p.state m.live e (trees-stay S L p.state m.live m.stays e env) q n (alone t) (trees-stay S L p.state m.live m.stays (alone t) a));
        stays = λ h x. n.stays h (m.stays h x);
        first = m.first;
        within = within-on S L p m n.live n.within;
        later = later-on S L p m T n.later;
      }

  upcast-makes : (p : Place) (m : MakesSense S L p) (x : Match) → MatchIsOf S L x → (q : Place) → taken Upcast p x.term (matched_and_settled J e p x) ≡ At q → MakesSense S L q
  upcast-makes p m x of q is = at (matched_and_settled J e p x) refl is
    where
      at : (o : Option Place) → matched_and_settled J e p x ≡ o → taken Upcast p x.term o ≡ At q → MakesSense S L q
      at None was g = absurd cc
      at (Some r) was g =
          let same : with_locals p r.state (alone (put_in_tree r x.term)) ≡ q = cc in
          let n = matched-settled-makes J law p.state m.live e (trees-stay S L p.state m.live m.stays e env) p x r (itself-makes S L p m) (match-stays S L p.state m.live m.stays x of) was in
          subst (MakesSense S L) same (term-makes p m r n x.term of.term)

  require-makes : (p : Place) (m : MakesSense S L p) (x : Match) → MatchIsOf S L x → (q : Place) → taken Require p x.term (matched J e p x) ≡ At q → MakesSense S L q
  require-makes p m x of q is = at (matched J e p x) refl is
    where
      at : (o : Option Place) → matched J e p x ≡ o → taken Require p x.term o ≡ At q → MakesSense S L q
      at None was g = absurd cc
      at (Some r) was g =
          let same : with_locals p r.state (alone (put_in_tree r x.term)) ≡ q = cc in
          let n = matched-makes J law p.state m.live e (trees-stay S L p.state m.live m.stays e env) p x r (itself-makes S L p m) (match-stays S L p.state m.live m.stays x of) was in
          subst (MakesSense S L) same (term-makes p m r n x.term of.term)

  picked-makes : (p : Place) (m : MakesSense S L p) (k : Pick) (xs : List Match) → All (MatchIsOf S L) xs → (q : Place) → picked J e k p xs ≡ At q → MakesSense S L q
  picked-makes p m Upcast [] all q is = absurd cc
  picked-makes p m Upcast (x ∷ []) all q is = upcast-makes p m x (All-head (MatchIsOf S L) x [] all) q is
  picked-makes p m Upcast (x ∷ (y ∷ xs)) all q is = absurd cc
  picked-makes p m Require [] all q is = absurd cc
  picked-makes p m Require (x ∷ []) all q is = require-makes p m x (All-head (MatchIsOf S L) x [] all) q is
  picked-makes p m Require (x ∷ (y ∷ xs)) all q is = absurd cc

  pub step-makes : (s : Step) → StepIsOf S L s → (p : Place) → MakesSense S L p → (q : Place) → step J e p s ≡ At q → MakesSense S L q
  step-makes (fresh ks) of p m q is = let same : made_fresh p ks ≡ q = cc in subst (MakesSense S L) same (fresh-makes J law S L e env p ks m)
  step-makes (enter ks) of p m q is = let same : made_rigid p ks ≡ q = cc in subst (MakesSense S L) same (rigid-makes J law S L e env p ks m)
  step-makes (equate a b) of p m q is = equated-makes J law S L e env p a b q m of.0 of.1 (at-place Refused (equated_at J e p a b) q is)
  step-makes (quick a b) of p m q is = subst (MakesSense S L) (at-same p _ q is) m
  step-makes (add s c) of p m q is = let same : at_state p (added p.state (goal_at e p s c)) ≡ q = cc in subst (MakesSense S L) same (added-makes J law S L e env p s c m of)
  step-makes settle of p m q is = settled-makes J law S L e env p q m (at-place Refused (settled_at J p) q is)
  step-makes (pick k ms) of p m q is = picked-makes p m k (filter (matches J e k p) ms) (All-filter (matches J e k p) (MatchIsOf S L) ms of) q is
  step-makes (still_general t) of p m q is = subst (MakesSense S L) (at-same p _ q is) m
  step-makes (unknowable r) of p m q is = absurd of

  pub run-makes : (ss : List Step) → StepsAreOf S L ss → (p : Place) → MakesSense S L p → (q : Place) → run J e p ss ≡ At q → MakesSense S L q
  run-makes [] all p m q is = let same : p ≡ q = cc in subst (MakesSense S L) same m
  run-makes (s ∷ ss) all p m q is = at (step J e p s) refl (λ x n g. run-makes ss (All-tail (StepIsOf S L) s ss all) x n q g) is
    where
      at : (r : Reached) → step J e p s ≡ r → ((x : Place) → MakesSense S L x → run J e x ss ≡ At q → MakesSense S L q) → go_on r (λ x. run J e x ss) ≡ At q → MakesSense S L q
      at (At x) was k g = k x (step-makes s (All-head (StepIsOf S L) s ss all) p m x was) g
      at (Ambiguous T) was k g = absurd cc
      at (Over j) was k g = absurd cc

-- where a rule begins
pub start-makes : (S : State) (L : Live) → IsSound S L → ValuesFit S L → GoalsAreOf S L S.pending → MakesSense S L (start S)
start-makes S L sound fits goals = record { live = L; sound = sound; fits = fits; goals = goals; locals = record { known = refl; is_closed = refl }; stays = λ h x. x; first = sound; within = λ n l c. c; later = later-itself S L sound }
