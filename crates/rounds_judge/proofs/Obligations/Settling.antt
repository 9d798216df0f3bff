-- A goal that is of no trait leads to a later state when it is tried, and what stays of it are goals of that state.
use Rattle.std.proofs.Common.{◌≡◌, ◌≤◌, ℕ, suc, ◌+◌, Bool, true, false, ◌&&◌, ◌||◌, if◌then◌else◌, List, [], ◌∷◌, ◌++◌, Option, Some, None, arith, refl, subst}
use Rattle.std.proofs.lemmas.Bool.{le-ltb}
use Rattle.std.proofs.lemmas.List.Elements.{All-head, All-tail, All-cons, All-nil, All-weaker}
use Rattle.ir_trees.specs.declared.ir.heads.Head.{Head}
use Rattle.ir_trees.specs.declared.ir.heads.Head.TheVariants as H
use Rattle.ir_trees.specs.declared.ir.heads.Builtin.TheVariants as B
use Rattle.ir_trees.specs.declared.ir.heads.ConstHead.TheVariants as C
use Rattle.ir_trees.specs.declared.ir.heads.PartHead.TheVariants as P
use Rattle.ir_trees.specs.declared.ir.heads.ClauseHead.TheVariants as Cl
use Rattle.ir_trees.specs.declared.ir.kinds.AssocId.{AssocId}
use Rattle.ir_trees.specs.declared.ir.kinds.RegionKind.TheVariants as R
use Rattle.ir_trees.specs.Syntax.Trees.{Kind, ConstantKind, RegionKind, Forest, none, tree, Tree, holds, binders_of}
use Rattle.ir_trees.specs.Syntax.Binders.{escapes}
use Rattle.ir_trees.specs.Unification.Substitutions.{alone}
use Rattle.ir_trees.specs.Hierarchy.Supers.{after_first}
use Rattle.candidate_eval.specs.Judges.States.{State, Goal, Pending, resolved_tree, with_pending, with_universe, placeholder}
use Rattle.candidate_eval.specs.Derivations.Characterization.{is_any_bound}
use Rattle.candidate_eval.specs.Judges.Soundness.{Live, IsSound, ValuesFit, IsLater, AreTreesOf, GoalIsOf, GoalsAreOf, is_strange}
use Rattle.candidate_eval.proofs.Marks.Holds.{holds_parts}
use Rattle.rounds_judge.specs.Aliases.Listed.{Listing, listed}
use Rattle.rounds_judge.specs.Equations.Standing.{IsListing}
use Rattle.rounds_judge.specs.Equations.Equating.{Pair, looks, equated, without_goals}
use Rattle.rounds_judge.specs.Equations.Opening.{are_open}
use Rattle.rounds_judge.specs.Obligations.Settling.{Outcome, first_fact, has_unlisted, related, stays, term_of, alias_of, last_or, with_facts, instance_of, recorded, projected, tried_as}
use Rattle.rounds_judge.proofs.States.Marks.{whole, escape_parts, escape_whole, escapes_on}
use Rattle.rounds_judge.proofs.States.Later.{trees_later, later_itself, later_along}
use Rattle.rounds_judge.proofs.Equations.Looks.{SoundLater, regions_keep, universes_keep, looked_keeps, start_stands}
use Rattle.rounds_judge.proofs.Equations.Current.{listed_fixed, listed_known}
use Rattle.rounds_judge.proofs.Unifiers.EquatingLaws.{no_goals}
use Rattle.rounds_judge.proofs.Obligations.Opening.{each_error, opened_closed, opened_marked, opens}

-- States that lead on, with what counts

pub lead_itself : (S : State) (L : Live) → IsSound S L → SoundLater S L S
lead_itself S L sound = record { sound = sound; later = later_itself S L sound }

pub lead_along : (S R T : State) (L : Live) → IsSound S L → SoundLater S L R → SoundLater R L T → SoundLater S L T
lead_along S R T L sound a b = record { sound = b.sound; later = later_along S R T L L sound (λ n l c. c) a.later b.later }

pub lead_universe : (S : State) (L : Live) → IsSound S L → SoundLater S L (with_universe S)
lead_universe S L sound = universes_keep S L (suc S.newest_universe) (omega arith) sound

pub lead_pending : (S : State) (L : Live) (ps : List Pending) → IsSound S L → SoundLater S L (with_pending S ps)
lead_pending S L ps h =
    let l : IsLater S S L = later_itself S L h in
    record {
      sound = record { allowed = h.allowed; no_higher = h.no_higher; is_resolved = h.is_resolved; known = h.known; universes = h.universes };
      later = record { longer = l.longer; infos = l.infos; no_root = l.no_root; universes = l.universes; fits = l.fits; values = l.values; newest = l.newest; mode = l.mode };
    }

pub lead_equated : (l : Listing) → IsListing l → (S T : State) (L : Live) (a b : Forest) → IsSound S L → ValuesFit S L → AreTreesOf S L a → AreTreesOf S L b → equated l S a b ≡ Some T → SoundLater S L T
lead_equated l listing S T L a b sound fits left right e =
    let ps : List Pair = record { scope = []; left = a; right = b } ∷ [] in
    looked_keeps l listing L (looks l S ps) S T ps (start_stands S L a b sound fits left right) e

pub goal_later : (S T : State) (L : Live) → IsLater S T L → (g : Goal) → GoalIsOf S L g → GoalIsOf T L g
goal_later S T L later g a = record { env = trees_later S T L L (λ n l c. c) later g.env a.env; clause = trees_later S T L L (λ n l c. c) later (alone g.clause) a.clause }

pub goals_later : (S T : State) (L : Live) → IsLater S T L → (ps : List Pending) → GoalsAreOf S L ps → GoalsAreOf T L ps
goals_later S T L later ps a = All-weaker (λ (p : Pending). GoalIsOf S L p.goal) (λ (p : Pending). GoalIsOf T L p.goal) (λ p. goal_later S T L later p.goal) ps a

-- Facts of a clause

-- no head has two binders
few_binders : (h : Head) → binders_of h ≤ 1
few_binders (H.Builtin (B.FnPtr k)) = omega arith
few_binders (H.Builtin B.UnsafeBinder) = omega arith
few_binders (H.Part (P.Pred k)) = omega arith
few_binders (H.Part (P.Clause k)) = omega arith
few_binders (H.Part P.Sig) = omega arith
few_binders _ = omega arith

pub after_first_marked : (mark : Head → Bool) (ts : Forest) → holds mark ts ≡ false → holds mark (after_first ts) ≡ false
after_first_marked mark none e = refl
after_first_marked mark (tree h below rest) e = (holds_parts mark h below rest e).others

pub after_first_closed : (n : ℕ) (ts : Forest) → escapes n ts ≡ false → escapes n (after_first ts) ≡ false
after_first_closed n none e = refl
after_first_closed n (tree h below rest) e = (escape_parts n h below rest e).others

pub facts_closed : (c : Tree) → escapes 0 (alone c) ≡ false → escapes 1 (after_first c.children) ≡ false
facts_closed c e = after_first_closed 1 c.children (escapes_on (0 + binders_of c.head) 1 c.children (few c.head) (escape_parts 0 c.head c.children none e).under)
  where
    few : (h : Head) → 0 + binders_of h ≤ 1
    few h = let f : binders_of h ≤ 1 = few_binders h in omega (arith, f)

module _ (S : State) (L : Live) where
  bound_known : (h : Head) → is_any_bound h ≡ true → is_strange S L h ≡ false
  bound_known (H.Bound v) e = refl
  bound_known (H.Const (C.Bound v)) e = refl
  bound_known (H.Region (R.Bound v)) e = refl
  bound_known _ e = cc

  placeholder_known : (u : ℕ) → u ≤ S.newest_universe → (k : Kind) (i : ℕ) → is_strange S L (placeholder k u i) ≡ false
  placeholder_known u h ConstantKind i = le-ltb S.newest_universe u h
  placeholder_known u h RegionKind i = le-ltb S.newest_universe u h
  placeholder_known u h _ i = le-ltb S.newest_universe u h

  pub facts_of : (u : ℕ) (ks : List Kind) (c : Tree) → u ≤ S.newest_universe → AreTreesOf S L (alone c) → AreTreesOf S L (opens u ks 0 (after_first c.children))
  facts_of u ks c h a = record {
    known = opened_marked u ks (is_strange S L) (is_strange S L) (λ h e. e) bound_known (placeholder_known u h) (each_error (λ h. is_strange S L h ≡ false) refl refl refl) 0 (after_first c.children)
        (after_first_marked (is_strange S L) c.children (holds_parts (is_strange S L) c.head c.children none a.known).under);
    is_closed = opened_closed u ks 0 (after_first c.children) (facts_closed c a.is_closed);
  }

  with_facts_of : (c : Tree) (ts : Forest) → AreTreesOf S L (alone c) → AreTreesOf S L ts → AreTreesOf S L (alone (with_facts c ts))
  with_facts_of c ts a b = record {
    known = whole (is_strange S L) c.head (tree (H.Part P.Vars) none ts) none (holds_parts (is_strange S L) c.head c.children none a.known).here (whole (is_strange S L) (H.Part P.Vars) none ts refl refl b.known) refl;
    is_closed = escape_whole 0 c.head (tree (H.Part P.Vars) none ts) none (escape_parts 0 c.head c.children none a.is_closed).here
        (escapes_on 0 (0 + binders_of c.head) (tree (H.Part P.Vars) none ts) (omega arith) (escape_whole 0 (H.Part P.Vars) none ts refl refl b.is_closed)) refl;
  }

  pub instance_is_of : (p : Pending) (ks : List Kind) (ts : Forest) → GoalIsOf S L p.goal → AreTreesOf S L ts → GoalIsOf S L (instance_of p ks ts).goal
  instance_is_of p [] ts a b = a
  instance_is_of p (k ∷ ks) ts a b = record { env = a.env; clause = with_facts_of p.goal.clause ts a.clause b }

  last_of : (t : Tree) (ts : Forest) → AreTreesOf S L (alone t) → AreTreesOf S L ts → AreTreesOf S L (alone (last_or t ts))
  last_of t none a b = a
  last_of t (tree h below rest) a b =
      let k = holds_parts (is_strange S L) h below rest b.known in
      let e = escape_parts 0 h below rest b.is_closed in
      last_of (record { head = h; children = below }) rest
      (record { known = whole (is_strange S L) h below none k.here k.under refl; is_closed = escape_whole 0 h below none e.here e.under refl })
      (record { known = k.others; is_closed = e.others })

  pub first_is_of : (ts : Forest) → AreTreesOf S L ts → AreTreesOf S L (alone (first_fact ts))
  first_is_of none a = record { known = refl; is_closed = refl }
  first_is_of (tree h below rest) b =
      let k = holds_parts (is_strange S L) h below rest b.known in
      let e = escape_parts 0 h below rest b.is_closed in
      record { known = whole (is_strange S L) h below none k.here k.under refl; is_closed = escape_whole 0 h below none e.here e.under refl }

  pub term_is_of : (ts : Forest) → AreTreesOf S L ts → AreTreesOf S L (alone (term_of ts))
  term_is_of none a = record { known = refl; is_closed = refl }
  term_is_of (tree h below rest) b =
      let k = holds_parts (is_strange S L) h below rest b.known in
      let e = escape_parts 0 h below rest b.is_closed in
      last_of (record { head = h; children = below }) rest
      (record { known = whole (is_strange S L) h below none k.here k.under refl; is_closed = escape_whole 0 h below none e.here e.under refl })
      (record { known = k.others; is_closed = e.others })

-- One goal

-- It stays, or something else comes of it.
abbrev pub stays_or : State → Pending → Bool → Outcome → Outcome
stays_or S p b o = if b then stays S p else o

-- What is left are goals of the state, to which it leads.
pub record Leaves (S : State) (L : Live) (q : List Pending × State) : Type 0 where
  pub leads : SoundLater S L q.1
  pub goals : GoalsAreOf q.1 L q.0

pub same_outcome : (P : List Pending × State → Type 0) (q r : List Pending × State) → Some q ≡ Some r → P q → P r
same_outcome P q r e x = subst P (let is : q ≡ r = cc in is) x

module _ (l : Listing) (listing : IsListing l) (L : Live) where
  module _ (S : State) (sound : IsSound S L) (fits : ValuesFit S L) (p : Pending) (of : GoalIsOf S L p.goal) where
    staying : Leaves S L (p ∷ [], S)
    staying = record { leads = lead_itself S L sound; goals = All-cons (λ (p : Pending). GoalIsOf S L p.goal) p [] of (All-nil (λ (p : Pending). GoalIsOf S L p.goal)) }

    recording : (c : Tree) → Leaves S L ([], recorded S c)
    recording c = record { leads = regions_keep S L (S.regions ++ c ∷ []) sound; goals = All-nil (λ (p : Pending). GoalIsOf (recorded S c) L p.goal) }

    -- it stays, or two trees are equated
    equating : (b : Bool) (t u : Tree) → AreTreesOf S L (alone t) → AreTreesOf S L (alone u) → (q : List Pending × State) → stays_or S p b (without_goals (equated l S (alone t) (alone u))) ≡ Some q → Leaves S L q
    equating true t u a b q e = same_outcome (Leaves S L) (p ∷ [], S) q e staying
    equating false t u a b q e =
        let n = no_goals (equated l S (alone t) (alone u)) q.0 q.1 e in
        record {
          leads = lead_equated l listing S q.1 L (alone t) (alone u) sound fits a b n.is;
          goals = subst (λ gs. GoalsAreOf q.1 L gs) n.none (All-nil (λ (p : Pending). GoalIsOf q.1 L p.goal));
        }

    projecting : (i : AssocId) (ts : Forest) → AreTreesOf S L ts → (o : Option Tree) → listed l (resolved_tree S (alias_of i ts)) ≡ o → (q : List Pending × State) → projected l S p (term_of ts) o ≡ Some q → Leaves S L q
    projecting i ts a None f q e = same_outcome (Leaves S L) (p ∷ [], S) q e staying
    projecting i ts a (Some u) f q e =
        let type : AreTreesOf S L (alone u) = record { known = listed_known l listing (resolved_tree S (alias_of i ts)) u f S L; is_closed = (listed_fixed l listing (resolved_tree S (alias_of i ts)) u f).is_closed } in
        equating (are_open l S && has_unlisted l S (alone (term_of ts))) u (term_of ts) type (term_is_of S L ts a) q e

    relating : (t u : Tree) → AreTreesOf S L (alone t) → AreTreesOf S L (alone u) → (q : List Pending × State) → related l S p t u ≡ Some q → Leaves S L q
    relating t u a b q e = equating (has_unlisted l S (alone t) || has_unlisted l S (alone u)) t u a b q e

    pub instance_leaves : (ts : Forest) → AreTreesOf S L ts → (h : Head) (q : List Pending × State) → tried_as l S p ts h ≡ Some q → Leaves S L q
    instance_leaves ts a (H.Part (P.Clause (Cl.Projection i))) q e = projecting i ts a (listed l (resolved_tree S (alias_of i ts))) refl q e
    instance_leaves ts a (H.Part (P.Clause Cl.AliasRelate)) q e = relating (first_fact ts) (term_of ts) (first_is_of S L ts a) (term_is_of S L ts a) q e
    instance_leaves ts a (H.Part (P.Clause Cl.ConstEquate)) q e = relating (first_fact ts) (term_of ts) (first_is_of S L ts a) (term_is_of S L ts a) q e
    instance_leaves ts a (H.Part (P.Clause Cl.TypeOutlives)) q e = same_outcome (Leaves S L) ([], recorded S p.goal.clause) q e (recording p.goal.clause)
    instance_leaves ts a (H.Part (P.Clause Cl.RegionOutlives)) q e = same_outcome (Leaves S L) ([], recorded S p.goal.clause) q e (recording p.goal.clause)
    instance_leaves ts a _ q e = same_outcome (Leaves S L) (p ∷ [], S) q e staying

  -- Goals in order

  pub both_left : (S T : State) → (later : IsLater S T L) → (ps qs : List Pending) → GoalsAreOf S L ps → GoalsAreOf T L qs → GoalsAreOf T L (ps ++ qs)
  both_left S T later [] qs a b = b
  both_left S T later (p ∷ ps) qs a b =
      All-cons (λ (p : Pending). GoalIsOf T L p.goal) p (ps ++ qs) (goal_later S T L later p.goal (All-head (λ (p : Pending). GoalIsOf S L p.goal) p ps a))
      (both_left S T later ps qs (All-tail (λ (p : Pending). GoalIsOf S L p.goal) p ps a) b)

  -- A state to which another leads, and the goals pending there.
  pub record LeavesPending (S T : State) : Type 0 where
    pub leads : SoundLater S L T
    pub goals : GoalsAreOf T L T.pending
