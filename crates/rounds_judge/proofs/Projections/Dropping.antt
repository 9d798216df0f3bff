-- What settling with the tables drops or replaces is granted at every state that follows and grants what settling leaves.
use Rattle.std.proofs.Common.{◌≡◌, ℕ, zero, suc, Bool, true, false, ◌&&◌, ◌||◌, List, [], ◌∷◌, ◌++◌, Option, Some, None, ◌⊎◌, inl, inr, arith, refl, sym, ap, subst, ◌∙◌, if◌then◌else◌}
use Rattle.std.specs.List.{All, Contains}
use Rattle.std.proofs.lemmas.List.Elements.{All-cons, All-contains, All-head, All-nil, All-tail, All-weaker}
use Rattle.ir_trees.specs.declared.ir.heads.ClauseHead.TheVariants as Cl
use Rattle.ir_trees.specs.declared.ir.heads.Head.{Head}
use Rattle.ir_trees.specs.declared.ir.heads.Head.TheVariants as H
use Rattle.ir_trees.specs.declared.ir.heads.PartHead.TheVariants as Part
use Rattle.ir_trees.specs.declared.ir.kinds.AliasKind.TheVariants as A
use Rattle.ir_trees.specs.declared.ir.kinds.AssocId.{AssocId}
use Rattle.ir_trees.specs.Hierarchy.Supers.{after_first}
use Rattle.ir_trees.specs.Syntax.Binders.{escapes}
use Rattle.ir_trees.specs.Syntax.Trees.{ConstantKind, Forest, Kind, none, tree, Tree, holds, join, kind_of}
use Rattle.ir_trees.specs.Unification.Substitutions.{alone}
use Rattle.ir_trees.proofs.Instantiation.Folding.{begin}
use Rattle.candidate_eval.specs.Derivations.Characterization.{Bounded, bound_kinds, group_at}
use Rattle.candidate_eval.specs.Derivations.ImplRules.{TraitGoal}
use Rattle.candidate_eval.specs.Judges.Instances.{Instance, instance}
use Rattle.candidate_eval.specs.Judges.Soundness.{AreTreesOf, Follows, GoalIsOf, GoalsAreOf, IsLater, IsSound, Live, ValuesFit, is_strange, universes}
use Rattle.candidate_eval.specs.Judges.States.{Env, Goal, Pending, State, next, resolved, resolved_tree, valued, valued_tree, with_universe}
use Rattle.candidate_eval.proofs.Marks.Holds.{holds_imply, holds_parts}
use Rattle.rounds_judge.specs.Aliases.Congruence.{AreListed, Same, SameBy, along, back, pair, same}
use Rattle.rounds_judge.specs.Aliases.Listed.{Listing, listed}
use Rattle.rounds_judge.specs.Aliases.OpenParts.{relation, to_be_one}
use Rattle.rounds_judge.specs.Equations.Equating.{equated, without_goals}
use Rattle.rounds_judge.specs.Equations.Opening.{are_open, equation}
use Rattle.rounds_judge.specs.Equations.Standing.{IsListing}
use Rattle.rounds_judge.specs.Obligations.Granted.{IsFreshFor}
use Rattle.rounds_judge.specs.Obligations.Settling.{Outcome, alias_of, arguments_of, before, first_fact, gave_a_value, has_unlisted, instance_of, last_or, stays, term_of, with_staying, without_last}
use Rattle.rounds_judge.specs.Projections.ProjectionGoals.{ProjectionTables, new_term, term_asked, with_term}
use Rattle.rounds_judge.specs.Projections.ProjectionGranted.{AreOne, FactsGrantedModulo, IsGrantedBy}
use Rattle.rounds_judge.specs.Projections.ProjectionSettling.{alias_asked, asked_term, projected_with, related_with, tried_as_by, tried_by_tables, tried_term, with_value}
use Rattle.rounds_judge.specs.Table.GoalTable.{GoalTable, verdict_in}
use Rattle.rounds_judge.specs.Table.Keys.{goal_trees, key_at, numbers_at, over_trees, trait_goal_of}
use Rattle.rounds_judge.specs.Table.TableGranted.{IsGrantedByYes}
use Rattle.rounds_judge.specs.Table.TableSettling.{all_by, are_bare, given, pass_by, passes_by, tried_by, tried_trait}
use Rattle.rounds_judge.specs.Table.Verdicts.{Maybe, Refused, Verdict, Yes}
use Rattle.rounds_judge.proofs.Aliases.Congruent.{is_stray, resolved_stray, strange_stray}
use Rattle.rounds_judge.proofs.Aliases.Equated.{equated_equal, listed_same}
use Rattle.rounds_judge.proofs.Equations.Current.{listed_fixed, listed_known}
use Rattle.rounds_judge.proofs.Equations.Looks.{SoundLater}
use Rattle.rounds_judge.proofs.Obligations.Granting.{alias_marked, alias_resolved, first_resolved, fresh_for_later, goal_known, newest_fresh, term_resolved}
use Rattle.rounds_judge.proofs.Obligations.Opening.{closed_stays, opens}
use Rattle.rounds_judge.proofs.Obligations.Settling.{Leaves, facts_of, first_is_of, goal_later, goals_later, instance_is_of, lead_along, lead_itself, lead_pending, lead_universe, same_outcome, term_is_of}
use Rattle.rounds_judge.proofs.Projections.Carrying.{one_onward, onward}
use Rattle.rounds_judge.proofs.Projections.Equality.{moved, wider}
use Rattle.rounds_judge.proofs.Projections.Leaving.{all_leave_by, arguments_are_of, asked_known, children_are_of, counts_still, equation_leaves, instance_leaves_by, lead_term, pass_leaves_by, passes_leave_by, term_known, tried_leaves_by}
use Rattle.rounds_judge.proofs.Projections.Sides.{AreEqualBy, HoldAt, sides_hold}
use Rattle.rounds_judge.proofs.Projections.Staying.{env_onward, goal_onward, known_onward}
use Rattle.rounds_judge.proofs.States.Later.{fits_later, later_along, trees_later}
use Rattle.rounds_judge.proofs.States.Marks.{escape_parts, escape_whole, whole}
use Rattle.rounds_judge.proofs.Table.TableFresh.{CountsNew}
use Rattle.rounds_judge.proofs.Table.TableSettled.{ReadsWell, fits_with_new, goals_with_new, joined, new_count, sound_with_new, trait_leaves, with_new}
use Rattle.rounds_judge.proofs.Table.TableYes.{given_granted}
use Rattle.rounds_judge.proofs.Unifiers.EquatingLaws.{no_goals}

-- A row, and a tree behind it

arguments_there : (t : Tree) (ts : Forest) (u : Tree) → without_last t (join ts (alone u)) ≡ begin t ts
arguments_there t none u = refl
arguments_there t (tree h below rest) u = ap (begin t) (arguments_there (record { head = h; children = below }) rest u)

pub arguments_before : (ts : Forest) (u : Tree) → arguments_of (join ts (alone u)) ≡ ts
arguments_before none u = refl
arguments_before (tree h below rest) u = arguments_there (record { head = h; children = below }) rest u

last_there : (t : Tree) (ts : Forest) (u : Tree) → last_or t (join ts (alone u)) ≡ u
last_there t none u = refl
last_there t (tree h below rest) u = last_there (record { head = h; children = below }) rest u

pub last_behind : (ts : Forest) (u : Tree) → term_of (join ts (alone u)) ≡ u
last_behind none u = refl
last_behind (tree h below rest) u = last_there (record { head = h; children = below }) rest u

pub resolved_row : (T : State) (a b : Forest) → resolved T (join a b) ≡ join (resolved T a) (resolved T b)
resolved_row T none b = refl
resolved_row T (tree h below rest) b = ap (begin (resolved_tree T (record { head = h; children = below }))) (resolved_row T rest b)

-- The facts of a goal that two trees are one
module _ (t u : Tree) (c : escapes 0 (alone t) ≡ false) (d : escapes 0 (alone u) ≡ false) where
  abbrev pub both_facts : Forest
  both_facts = tree t.head t.children (tree u.head u.children none)

  pub both_closed : escapes 0 both_facts ≡ false
  both_closed = let p = escape_parts 0 t.head t.children none c in escape_whole 0 t.head t.children (tree u.head u.children none) p.here p.under d

-- The state that settling leaves, and one that follows and grants what is pending there

module _ {W : Type 0} (Q : ProjectionTables W) (reads_terms : (i : AssocId) → ReadsWell (Q i)) (K : GoalTable W) (reads : ReadsWell K) (l : Listing) (listing : IsListing l) (T U : State) (M F : Live)
    (sound_there : IsSound T M) (fits_there : ValuesFit T M) (sound_last : IsSound T F) (fits_last : ValuesFit T F) (follows : Follows T U F) where
  abbrev pub Granted : Pending → Type 0
  Granted p = IsGrantedBy Q K l U p.goal

  abbrev pub IsThere : Pending → Type 0
  IsThere p = GoalIsOf T F p.goal

  -- Two trees are the values of two that a goal which is pending says are one.
  pub record IsLeftPair (e : Env) (t s : Tree) : Type 0 where
    pub first : Tree
    pub second : Tree
    pub there : Contains T.pending (to_be_one e first second)
    pub first_closed : escapes 0 (alone first) ≡ false
    pub second_closed : escapes 0 (alone second) ≡ false
    pub is_first : resolved_tree T first ≡ t
    pub is_second : resolved_tree T second ≡ s

  abbrev pub OneThere : Env → Tree → Tree → Type 0
  OneThere e t s = AreOne Q l (universes T) (resolved T e) t s ⊎ IsLeftPair e t s

  abbrev pub FactsThere : Env → Head → Forest → Type 0
  FactsThere e h ts = FactsGrantedModulo (OneThere e) K l (universes T) (resolved T e) h (resolved T ts)

  -- its facts are granted where settling ends, modulo such pairs
  pub record IsHeldThere (g : Goal) : Type 0 where
    pub universe : ℕ
    pub is_fresh : IsFreshFor (universes T) (bound_kinds g.clause.children) universe (join g.env (after_first g.clause.children))
    pub facts : FactsThere g.env g.clause.head (opens universe (bound_kinds g.clause.children) 0 (after_first g.clause.children))

  -- what a goal becomes that stays: itself, or an instance
  pub data Becomes (p : Pending) : Pending → Type 0 where
    itself : Becomes p p
    instance_so : (k : Kind) (ks : List Kind) (n : ℕ) → bound_kinds p.goal.clause.children ≡ k ∷ ks → IsFreshFor (universes T) (k ∷ ks) n (join p.goal.env (after_first p.goal.clause.children))
        → escapes 0 (opens n (k ∷ ks) 0 (after_first p.goal.clause.children)) ≡ false → Becomes p (instance_of p (k ∷ ks) (opens n (k ∷ ks) 0 (after_first p.goal.clause.children)))

  -- A goal that was tried is held there, or what it became is pending.
  pub data Held (p : Pending) : Type 0 where
    held : IsHeldThere p.goal → Held p
    left : (r : Pending) → Contains T.pending r → Becomes p r → Held p

  listed_there : (e : Env) (x y : Forest) → Same l x y → SameBy (OneThere e) x y
  listed_there e x y s = wider (AreListed l) (OneThere e) (λ t u c. inl (inl c)) s

  -- the sides of a goal that is held are equal there
  pub one_held : (e : Env) (t u : Tree) → escapes 0 (alone t) ≡ false → escapes 0 (alone u) ≡ false → Held (to_be_one e t u) → AreEqualBy (OneThere e) T t u
  one_held e t u c d (held a) = by (kind_of t.head) (subst (λ xs. FactsThere e (relation (kind_of t.head)) xs) (closed_stays a.universe [] 0 (both_facts t u c d) (both_closed t u c d)) a.facts)
    where
      say : SameBy (OneThere e) (alone (first_fact (resolved T (both_facts t u c d)))) (alone (term_of (resolved T (both_facts t u c d)))) → AreEqualBy (OneThere e) T t u
      say s = moved (OneThere e) _ _ _ _ (first_resolved T (both_facts t u c d)) (term_resolved T (both_facts t u c d)) s

      by : (k : Kind) → FactsThere e (relation k) (both_facts t u c d) → AreEqualBy (OneThere e) T t u
      by ConstantKind s = say s
      by _ s = say s
  one_held e t u c d (left _ there itself) =
      pair (resolved_tree T t) (resolved_tree T u) (inr (record { first = t; second = u; there = there; first_closed = c; second_closed = d; is_first = refl; is_second = refl })) (same none)
  one_held e t u c d (left _ there (instance_so k ks n is fresh closed)) = absurd (none_bound (kind_of t.head) is)
    where
      none_bound : (x : Kind) → [] ≡ k ∷ ks → ⊥
      none_bound x e = let clash : [] ≡ k ∷ ks = e in cc

  all_hold : (e : Env) (gs : List Pending) → All Held gs → HoldAt (OneThere e) T e gs
  all_hold e gs a t u c d there = one_held e t u c d (All-contains Held gs (to_be_one e t u) a there)

  -- One goal, at a state that leads there

  module _ (S : State) (sound : IsSound S M) (fits : ValuesFit S M) (new : CountsNew S M) (p : Pending) (of : GoalIsOf S M p.goal) (ts : Forest) (a : AreTreesOf S M ts) where
    abbrev pub e : Env
    e = p.goal.env

    abbrev pub Comes : Type 0 → List Pending × State → Type 0
    Comes P q = (All Held q.0 → P) ⊎ (q.0 ≡ p ∷ [])

    staying : (P : Type 0) (q : List Pending × State) → stays S p ≡ Some q → Comes P q
    staying P q h = inr (same_outcome (λ q. q.0 ≡ p ∷ []) (p ∷ [], S) q h refl)

    -- two trees are equated
    equating : (t u : Tree) → AreTreesOf S M (alone t) → AreTreesOf S M (alone u) → (P : Type 0) (q : List Pending × State) → (AreEqualBy (OneThere e) T t u → P) → without_goals (equated l S (alone t) (alone u)) ≡ Some q → IsLater q.1 T M → Comes P q
    equating t u x y P q f h after =
        let n = no_goals (equated l S (alone t) (alone u)) q.0 q.1 h in
        inl (λ all. f (listed_there e _ _ (equated_equal l listing T M fits_there S q.1 (alone t) (alone u) sound fits x y n.is after)))

    -- The table is asked what the projection is.
    asking : (i : AssocId) (args : Forest) (t : Tree) → AreTreesOf S M args → AreTreesOf S M (alone t) → (q : List Pending × State) → tried_term (Q i) l S p i args t ≡ Some q → IsLater S q.1 M → IsLater q.1 T M
        → Comes (SameBy (OneThere e) (tree (H.Alias A.Projection (record { 0 = i.0 })) (resolved T args) none) (alone (resolved_tree T t))) q
    asking i args t x y q h first after = at (tried_trait (Q i) l R p g) refl h
      where
        R : State
        R = with_term S e i args

        g : TraitGoal
        g = term_asked S e i args

        lead : SoundLater S M R
        lead = lead_term S M sound new e i args

        fits_then : ValuesFit R M
        fits_then = fits_later lead.later fits

        new_then : CountsNew R M
        new_then = counts_still S R M lead.later new

        known : holds (is_strange R M) (goal_trees g) ≡ false
        known = asked_known S M sound new e i args of.env x

        P : Type 0
        P = SameBy (OneThere e) (tree (H.Alias A.Projection (record { 0 = i.0 })) (resolved T args) none) (alone (resolved_tree T t))

        -- what the Yes says of the projection and the new variable
        says : IsGrantedByYes (Q i) l (universes T) (over_trees (resolved T) g) → SameBy (OneThere e) (tree (H.Alias A.Projection (record { 0 = i.0 })) (resolved T args) none) (alone (resolved_tree T (new_term S)))
        says given_yes =
            let row = resolved_row T args (alone (new_term S)) in
            let facts : Forest = resolved T (join args (alone (new_term S))) in
            moved (OneThere e) (alone (alias_of i facts)) (alone (term_of facts)) _ _
            (ap (λ xs. tree (H.Alias A.Projection (record { 0 = i.0 })) xs none) (ap arguments_of row ∙ arguments_before (resolved T args) (resolved_tree T (new_term S))))
            (ap alone (ap term_of row ∙ last_behind (resolved T args) (resolved_tree T (new_term S))))
            (pair (alias_of i facts) (term_of facts) (inl (inr (record { item = i; facts = facts; by = given_yes; alias = refl; type = refl }))) (same none))

        goes : (V : State) → Leaves R M ([], V) → (IsLater V T M → IsGrantedByYes (Q i) l (universes T) (over_trees (resolved T) g)) → equation l V e (alone (new_term S)) (alone t) ≡ Some q → Comes P q
        goes V leaves when h =
            let to_V = lead_along S R V M sound lead leaves.leads in
            let there : (xs : Forest) → AreTreesOf S M xs → AreTreesOf V M xs = λ xs k. trees_later S V M M (λ n l c. c) to_V.later xs k in
            let term_there = trees_later R V M M (λ n l c. c) leaves.leads.later (alone (new_term S)) (term_known S M sound new e i args) in
            let fits_V = fits_later leaves.leads.later fits_then in
            let new_V = counts_still R V M leaves.leads.later new_then in
            let last = equation_leaves l listing M V leaves.leads.sound fits_V new_V e (alone (new_term S)) (alone t) (there e of.env) term_there (there (alone t) y) q h in
            inl (λ all.
            along (says (when (later_along V q.1 T M M leaves.leads.sound (λ n l c. c) last.leads.later after)))
            (sides_hold l listing (OneThere e) (λ t u c. inl (inl c)) V q.1 T M e (alone (new_term S)) (alone t) q.0 leaves.leads.sound fits_V new_V (there e of.env) term_there (there (alone t) y) last.leads.later fits_there after
            (all_hold e q.0 all) h))

        by : are_bare (resolved R (goal_trees g)) ≡ true → (v : Option (Verdict W)) → verdict_in (Q i) (key_at R g) ≡ v → next (tried_by l R p (key_at R g) (numbers_at R g) v) (λ r. with_value l S p t r.1 r.0) ≡ Some q
            → tried_trait (Q i) l R p g ≡ tried_by l R p (key_at R g) (numbers_at R g) v → Comes P q
        by bare (Some Refused) f h is = cc
        by bare (Some (Maybe r w)) f h is = staying P q h
        by bare None f h is = staying P q h
        by bare (Some (Yes r w)) f h is = with_given (given l R (key_at R g) (numbers_at R g) r) refl h
          where
            with_given : (o : Option State) → given l R (key_at R g) (numbers_at R g) r ≡ o → next (without_goals o) (λ r. with_value l S p t r.1 r.0) ≡ Some q → Comes P q
            with_given None k h = cc
            with_given (Some V) k h =
                goes V
                (trait_leaves (Q i) (reads_terms i) l listing M R lead.sound fits_then new_then p (goal_later S R M lead.later p.goal of) g known ([], V) (is ∙ ap without_goals k))
                (λ after_V. given_granted (Q i) (reads_terms i) l listing T M sound_there fits_there R lead.sound fits_then new_then g known bare r w f V k after_V) h

        at : (o : Outcome) → tried_trait (Q i) l R p g ≡ o → next o (λ r. with_value l S p t r.1 r.0) ≡ Some q → Comes P q
        at o k h = bare_or (are_bare (resolved R (goal_trees g))) refl (ap (λ x. next x (λ r. with_value l S p t r.1 r.0)) k ∙ h)
          where
            bare_or : (b : Bool) → are_bare (resolved R (goal_trees g)) ≡ b → next (tried_trait (Q i) l R p g) (λ r. with_value l S p t r.1 r.0) ≡ Some q → Comes P q
            bare_or true bare h =
                let is : tried_trait (Q i) l R p g ≡ tried_by l R p (key_at R g) (numbers_at R g) (verdict_in (Q i) (key_at R g)) = ap (λ b. if b then tried_by l R p (key_at R g) (numbers_at R g) (verdict_in (Q i) (key_at R g)) else stays R p) bare in
                by bare (verdict_in (Q i) (key_at R g)) refl (ap (λ x. next x (λ r. with_value l S p t r.1 r.0)) (sym is) ∙ h) is
            bare_or false bare h =
                let is : tried_trait (Q i) l R p g ≡ stays R p = ap (λ b. if b then tried_by l R p (key_at R g) (numbers_at R g) (verdict_in (Q i) (key_at R g)) else stays R p) bare in
                staying P q (ap (λ x. next x (λ r. with_value l S p t r.1 r.0)) (sym is) ∙ h)

    asked : (i : AssocId) (args : Forest) (t : Tree) → AreTreesOf S M args → AreTreesOf S M (alone t) → (P : Type 0) → (SameBy (OneThere e) (tree (H.Alias A.Projection (record { 0 = i.0 })) (resolved T args) none) (alone (resolved_tree T t)) → P)
        → (q : List Pending × State) → asked_term (Q i) l S p i args t ≡ Some q → IsLater S q.1 M → IsLater q.1 T M → Comes P q
    asked i args t x y P f q h first after = at (are_open l S) h
      where
        at : (o : Bool) → (if o then tried_term (Q i) l S p i args t else stays S p) ≡ Some q → Comes P q
        at true h = elim (asking i args t x y q h first after) [ inl g ↦ inl (λ all. f (g all)) | inr is ↦ inr is ]
        at false h = staying P q h

    abbrev ProjectionHolds : AssocId → Type 0
    ProjectionHolds i = SameBy (OneThere e) (alone (alias_of i (resolved T ts))) (alone (term_of (resolved T ts)))

    projecting : (i : AssocId) (o : Option Tree) → listed l (resolved_tree S (alias_of i ts)) ≡ o → (q : List Pending × State) → projected_with Q l S p i ts o ≡ Some q → IsLater S q.1 M → IsLater q.1 T M → IsLater S T M → Comes (ProjectionHolds i) q
    projecting i None f q h first after later =
        asked i (arguments_of ts) (term_of ts) (arguments_are_of S M ts a) (term_is_of S M ts a) (ProjectionHolds i)
        (λ s. moved (OneThere e) _ _ _ _ (sym (alias_resolved T i ts)) (sym (term_resolved T ts)) s) q h first after
    projecting i (Some u) f q h first after later = at (are_open l S && has_unlisted l S (alone (term_of ts))) h
      where
        type : AreTreesOf S M (alone u)
        type = record { known = listed_known l listing (resolved_tree S (alias_of i ts)) u f S M; is_closed = (listed_fixed l listing (resolved_tree S (alias_of i ts)) u f).is_closed }

        alias : SameBy (OneThere e) (resolved T (alone (alias_of i ts))) (resolved T (alone u))
        alias =
            moved (OneThere e) _ _ _ _ (later.values (alone (alias_of i ts)) (alias_marked (is_strange S M) i ts refl a.known)) refl
            (listed_there e _ _ (listed_same l listing T M fits_there (resolved_tree S (alias_of i ts)) u f))

        at : (b : Bool) → (if b then stays S p else without_goals (equated l S (alone u) (alone (term_of ts)))) ≡ Some q → Comes (ProjectionHolds i) q
        at true h = staying (ProjectionHolds i) q h
        at false h =
            equating u (term_of ts) type (term_is_of S M ts a) (ProjectionHolds i) q
            (λ sides. moved (OneThere e) _ _ _ _ (sym (alias_resolved T i ts)) (sym (term_resolved T ts)) (along alias sides)) h after

    abbrev RelationHolds : Type 0
    RelationHolds = SameBy (OneThere e) (alone (first_fact (resolved T ts))) (alone (term_of (resolved T ts)))

    relation_so : AreEqualBy (OneThere e) T (first_fact ts) (term_of ts) → RelationHolds
    relation_so s = moved (OneThere e) _ _ _ _ (sym (first_resolved T ts)) (sym (term_resolved T ts)) s

    aliasing : (t : Tree) → AreTreesOf S M (alone t) → (u : Tree) → AreTreesOf S M (alone u) → (q : List Pending × State) → alias_asked Q l S p t.head t.children u ≡ Some q → IsLater S q.1 M → IsLater q.1 T M → Comes (AreEqualBy (OneThere e) T t u) q
    aliasing t x u y q h first after = at t.head t.children x h
      where
        at : (g : Head) (below : Forest) → AreTreesOf S M (tree g below none) → alias_asked Q l S p g below u ≡ Some q → Comes (AreEqualBy (OneThere e) T (record { head = g; children = below }) u) q
        at (H.Alias A.Projection i) args x h = asked (record { 0 = i.0 }) args u (children_are_of S M i args x) y _ (λ s. s) q h first after
        at g below x h = staying _ q h

    relating : (q : List Pending × State) → related_with Q l S p (first_fact ts) (term_of ts) ≡ Some q → IsLater S q.1 M → IsLater q.1 T M → Comes RelationHolds q
    relating q h first after = at (has_unlisted l S (alone (first_fact ts)) || has_unlisted l S (alone (term_of ts))) h
      where
        at : (b : Bool) → (if b then alias_asked Q l S p (first_fact ts).head (first_fact ts).children (term_of ts) else without_goals (equated l S (alone (first_fact ts)) (alone (term_of ts)))) ≡ Some q → Comes RelationHolds q
        at true h = elim (aliasing (first_fact ts) (first_is_of S M ts a) (term_of ts) (term_is_of S M ts a) q h first after) [ inl g ↦ inl (λ all. relation_so (g all)) | inr is ↦ inr is ]
        at false h = equating (first_fact ts) (term_of ts) (first_is_of S M ts a) (term_is_of S M ts a) RelationHolds q relation_so h after

    -- constants are one once no alias stands in them
    plainly : (q : List Pending × State) → (if has_unlisted l S (alone (first_fact ts)) || has_unlisted l S (alone (term_of ts)) then stays S p else without_goals (equated l S (alone (first_fact ts)) (alone (term_of ts)))) ≡ Some q
        → IsLater q.1 T M → Comes RelationHolds q
    plainly q h after = at (has_unlisted l S (alone (first_fact ts)) || has_unlisted l S (alone (term_of ts))) h
      where
        at : (b : Bool) → (if b then stays S p else without_goals (equated l S (alone (first_fact ts)) (alone (term_of ts)))) ≡ Some q → Comes RelationHolds q
        at true h = staying RelationHolds q h
        at false h = equating (first_fact ts) (term_of ts) (first_is_of S M ts a) (term_is_of S M ts a) RelationHolds q relation_so h after

    abbrev Given : TraitGoal → Type 0
    Given g = IsGrantedByYes K l (universes T) (over_trees (resolved T) g)

    trait_asked : (g : TraitGoal) → holds (is_strange S M) (goal_trees g) ≡ false → (q : List Pending × State) → tried_trait K l S p g ≡ Some q → IsLater q.1 T M → Comes (Given g) q
    trait_asked g known q h after = at (are_bare (resolved S (goal_trees g))) refl h
      where
        by : are_bare (resolved S (goal_trees g)) ≡ true → (v : Option (Verdict W)) → verdict_in K (key_at S g) ≡ v → tried_by l S p (key_at S g) (numbers_at S g) v ≡ Some q → Comes (Given g) q
        by bare (Some Refused) f h = cc
        by bare (Some (Maybe r w)) f h = staying (Given g) q h
        by bare None f h = staying (Given g) q h
        by bare (Some (Yes r w)) f h =
            let n = no_goals (given l S (key_at S g) (numbers_at S g) r) q.0 q.1 h in
            inl (λ all. given_granted K reads l listing T M sound_there fits_there S sound fits new g known bare r w f q.1 n.is after)

        at : (b : Bool) → are_bare (resolved S (goal_trees g)) ≡ b → (if b then tried_by l S p (key_at S g) (numbers_at S g) (verdict_in K (key_at S g)) else stays S p) ≡ Some q → Comes (Given g) q
        at true bare h = by bare (verdict_in K (key_at S g)) refl h
        at false bare h = staying (Given g) q h

    pub trying : (h : Head) (q : List Pending × State) → tried_as_by Q K l S p ts h ≡ Some q → IsLater S q.1 M → IsLater q.1 T M → IsLater S T M → Comes (FactsThere e h ts) q
    trying (H.Part (Part.Clause (Cl.Trait i m))) q h first after later = trait_asked (trait_goal_of e i m ts) (joined (is_strange S M) e ts of.env.known a.known) q h after
    trying (H.Part (Part.Clause (Cl.Projection i))) q h first after later = projecting i (listed l (resolved_tree S (alias_of i ts))) refl q h first after later
    trying (H.Part (Part.Clause Cl.AliasRelate)) q h first after later = relating q h first after
    trying (H.Part (Part.Clause Cl.ConstEquate)) q h first after later = plainly q h after
    trying (H.Part (Part.Clause Cl.TypeOutlives)) q h first after later = inl (λ all. tt)
    trying (H.Part (Part.Clause Cl.RegionOutlives)) q h first after later = inl (λ all. tt)
    trying g q h first after later = staying (FactsThere e g ts) q h

  -- an instance that is held, or pending
  onto : (p : Pending) (x : Kind) (ks : List Kind) (n : ℕ) → bound_kinds p.goal.clause.children ≡ x ∷ ks → IsFreshFor (universes T) (x ∷ ks) n (join p.goal.env (after_first p.goal.clause.children))
      → escapes 0 (opens n (x ∷ ks) 0 (after_first p.goal.clause.children)) ≡ false → (FactsThere p.goal.env p.goal.clause.head (opens n (x ∷ ks) 0 (after_first p.goal.clause.children)) → Held p)
      → Held (instance_of p (x ∷ ks) (opens n (x ∷ ks) 0 (after_first p.goal.clause.children))) → Held p
  onto p x ks n k fresh closed so (held y) =
      so (subst (λ xs. FactsThere p.goal.env p.goal.clause.head xs) (closed_stays y.universe [] 0 (opens n (x ∷ ks) 0 (after_first p.goal.clause.children)) closed) y.facts)
  onto p x ks n k fresh closed so (left _ there itself) = left (instance_of p (x ∷ ks) (opens n (x ∷ ks) 0 (after_first p.goal.clause.children))) there (instance_so x ks n k fresh closed)
  onto p x ks n k fresh closed so (left _ there (instance_so y js m is f c)) = absurd (let clash : [] ≡ y ∷ js = is in cc)

  -- with what is left, what was tried is held
  pub tried_drops : (S : State) → IsSound S M → ValuesFit S M → CountsNew S M → (p : Pending) → GoalIsOf S M p.goal → (q : List Pending × State) → tried_by_tables Q K l S p ≡ Some q → IsLater S q.1 M → IsLater q.1 T M → All Held q.0 → Held p
  tried_drops S sound fits new p of q h first after all = at (bound_kinds p.goal.clause.children) refl h
    where
      later : IsLater S T M
      later = later_along S q.1 T M M sound (λ n l c. c) first after

      at : (ks : List Kind) → bound_kinds p.goal.clause.children ≡ ks
          → (let f = group_at S (Bounded ks (after_first p.goal.clause.children)) in tried_as_by Q K l f.0 (instance_of p ks f.1) f.1 p.goal.clause.head) ≡ Some q → Held p
      at [] k h =
          let ts : Forest = opens 0 [] 0 (after_first p.goal.clause.children) in
          elim (trying S sound fits new p of ts (facts_of S M 0 [] p.goal.clause (omega arith) of.clause) p.goal.clause.head q h first after later) [
            | inl f ↦ held (record {
              universe = 0;
              is_fresh = subst (λ ks. IsFreshFor (universes T) ks 0 (join p.goal.env (after_first p.goal.clause.children))) (sym k) tt;
              facts = subst (λ ks. FactsThere p.goal.env p.goal.clause.head (opens 0 ks 0 (after_first p.goal.clause.children))) (sym k) (f all);
            })
            | inr is ↦ All-head Held p [] (subst (All Held) is all)
          ]
      at (x ∷ ks) k h =
          let R : State = with_universe S in
          let n : ℕ = suc S.newest_universe in
          let fs : Forest = join p.goal.env (after_first p.goal.clause.children) in
          let ts : Forest = opens n (x ∷ ks) 0 (after_first p.goal.clause.children) in
          let here : Pending = instance_of p (x ∷ ks) ts in
          let lead = lead_universe S M sound in
          let there = goal_later S R M lead.later p.goal of in
          let facts = facts_of R M n (x ∷ ks) p.goal.clause (omega arith) there.clause in
          let fits_here = fits_later lead.later fits in
          let of_here = instance_is_of R M p (x ∷ ks) ts there facts in
          let leaves = instance_leaves_by Q reads_terms K reads l listing M R lead.sound fits_here new here of_here ts facts p.goal.clause.head q h in
          let known = goal_known S M p.goal of in
          let fresh = fresh_for_later S T M later (x ∷ ks) n fs known (newest_fresh S M sound (x ∷ ks) fs known) in
          let so : FactsThere p.goal.env p.goal.clause.head ts → Held p = λ y. held (record {
            universe = n;
            is_fresh = subst (λ ks. IsFreshFor (universes T) ks n fs) (sym k) fresh;
            facts = subst (λ ks. FactsThere p.goal.env p.goal.clause.head (opens n ks 0 (after_first p.goal.clause.children))) (sym k) y;
          }) in
          elim (trying R lead.sound fits_here new here of_here ts facts p.goal.clause.head q h leaves.leads.later after (later_along R q.1 T M M lead.sound (λ n l c. c) leaves.leads.later after)) [
            | inl f ↦ so (f all)
            | inr is ↦ onto p x ks n k fresh facts.is_closed so (All-head Held here [] (subst (All Held) is all))
          ]

  -- Goals in order

  split : (ps qs : List Pending) → All Held (ps ++ qs) → All Held ps × All Held qs
  split [] qs a = (All-nil Held, a)
  split (p ∷ ps) qs a = let s = split ps qs (All-tail Held p (ps ++ qs) a) in (All-cons Held p ps (All-head Held p (ps ++ qs) a) s.0, s.1)

  all_drop : (S : State) → IsSound S M → ValuesFit S M → CountsNew S M → (ps : List Pending) → GoalsAreOf S M ps → (q : List Pending × State) → all_by (tried_by_tables Q K l) S ps ≡ Some q → IsLater q.1 T M → All Held q.0 → All Held ps
  all_drop S sound fits new [] of q h after all = All-nil Held
  all_drop S sound fits new (p ∷ ps) of q h after all =
      at (tried_by_tables Q K l S p) refl (λ R sound fits new of r e after all. all_drop R sound fits new ps of r e after all) h
    where
      rest : (r : List Pending × State) → tried_by_tables Q K l S p ≡ Some r → (o : Outcome) → all_by (tried_by_tables Q K l) r.1 ps ≡ o
          → ((R : State) → IsSound R M → ValuesFit R M → CountsNew R M → GoalsAreOf R M ps → (s : List Pending × State) → all_by (tried_by_tables Q K l) R ps ≡ Some s → IsLater s.1 T M → All Held s.0 → All Held ps)
          → before r.0 o ≡ Some q → All Held (p ∷ ps)
      rest r f None g ih e = cc
      rest r f (Some s) g ih e =
          let is : (r.0 ++ s.0, s.1) ≡ q = cc in
          let leaves = tried_leaves_by Q reads_terms K reads l listing M S sound fits new p (All-head (λ (p : Pending). GoalIsOf S M p.goal) p ps of) r f in
          let fits_then = fits_later leaves.leads.later fits in
          let new_then = counts_still S r.1 M leaves.leads.later new in
          let goals = goals_later S r.1 M leaves.leads.later ps (All-tail (λ (p : Pending). GoalIsOf S M p.goal) p ps of) in
          let more = all_leave_by Q reads_terms K reads l listing M r.1 leaves.leads.sound fits_then new_then ps goals s g in
          let after_more : IsLater s.1 T M = subst (λ (q : List Pending × State). IsLater q.1 T M) (sym is) after in
          let after_first : IsLater r.1 T M = later_along r.1 s.1 T M M leaves.leads.sound (λ n l c. c) more.leads.later after_more in
          let both = split r.0 s.0 (subst (λ (q : List Pending × State). All Held q.0) (sym is) all) in
          All-cons Held p ps (tried_drops S sound fits new p (All-head (λ (p : Pending). GoalIsOf S M p.goal) p ps of) r f leaves.leads.later after_first both.0)
          (ih r.1 leaves.leads.sound fits_then new_then goals s g after_more both.1)

      at : (o : Outcome) → tried_by_tables Q K l S p ≡ o
          → ((R : State) → IsSound R M → ValuesFit R M → CountsNew R M → GoalsAreOf R M ps → (s : List Pending × State) → all_by (tried_by_tables Q K l) R ps ≡ Some s → IsLater s.1 T M → All Held s.0 → All Held ps)
          → next o (λ r. before r.0 (all_by (tried_by_tables Q K l) r.1 ps)) ≡ Some q → All Held (p ∷ ps)
      at None f ih e = cc
      at (Some r) f ih e = rest r f (all_by (tried_by_tables Q K l) r.1 ps) refl ih e

  -- Passes

  pass_drops : (S R : State) → IsSound S M → ValuesFit S M → CountsNew S M → GoalsAreOf S M S.pending → pass_by (tried_by_tables Q K l) S ≡ Some R → IsLater R T M → All Held R.pending → All Held S.pending
  pass_drops S R sound fits new of e after all = at (all_by (tried_by_tables Q K l) S S.pending) refl e
    where
      at : (o : Outcome) → all_by (tried_by_tables Q K l) S S.pending ≡ o → next o (λ q. Some (with_staying q)) ≡ Some R → All Held S.pending
      at None f e = cc
      at (Some q) f e =
          let is : with_staying q ≡ R = cc in
          let leaves = all_leave_by Q reads_terms K reads l listing M S sound fits new S.pending of q f in
          let lead = lead_pending q.1 M q.0 leaves.leads.sound in
          all_drop S sound fits new S.pending of q f (later_along q.1 (with_staying q) T M M leaves.leads.sound (λ n l c. c) lead.later (subst (λ R. IsLater R T M) (sym is) after))
          (subst (λ (R : State). All Held R.pending) (sym is) all)

  passes_drop : (n : ℕ) (S : State) → IsSound S M → ValuesFit S M → CountsNew S M → GoalsAreOf S M S.pending → passes_by (tried_by_tables Q K l) n S ≡ Some T → All Held T.pending → All Held S.pending
  passes_drop zero S sound fits new of e all = subst (λ (T : State). All Held T.pending) (let is : T ≡ S = cc in is) all
  passes_drop (suc n) S sound fits new of e all = at (pass_by (tried_by_tables Q K l) S) refl (λ R sound fits new of e. passes_drop n R sound fits new of e all) e
    where
      goes : (R : State) → pass_by (tried_by_tables Q K l) S ≡ Some R → (b : Bool) → (passes_by (tried_by_tables Q K l) n R ≡ Some T → All Held R.pending) → (if b then passes_by (tried_by_tables Q K l) n R else Some R) ≡ Some T → All Held S.pending
      goes R f true ih e =
          let leaves = pass_leaves_by Q reads_terms K reads l listing M S R sound fits new of f in
          let more = passes_leave_by Q reads_terms K reads l listing M n R T leaves.leads.sound (fits_later leaves.leads.later fits) (counts_still S R M leaves.leads.later new) leaves.goals e in
          pass_drops S R sound fits new of f more.leads.later (ih e)
      goes R f false ih e =
          let is : T ≡ R = cc in
          let leaves = pass_leaves_by Q reads_terms K reads l listing M S R sound fits new of f in
          pass_drops S R sound fits new of f (subst (λ T. IsLater R T M) (sym is) (lead_itself R M leaves.leads.sound).later) (subst (λ (T : State). All Held T.pending) is all)

      at : (o : Option State) → pass_by (tried_by_tables Q K l) S ≡ o → ((R : State) → IsSound R M → ValuesFit R M → CountsNew R M → GoalsAreOf R M R.pending → passes_by (tried_by_tables Q K l) n R ≡ Some T → All Held R.pending)
          → next o (λ R. if gave_a_value S.variables R.variables then passes_by (tried_by_tables Q K l) n R else Some R) ≡ Some T → All Held S.pending
      at None f ih e = cc
      at (Some R) f ih e =
          let leaves = pass_leaves_by Q reads_terms K reads l listing M S R sound fits new of f in
          goes R f (gave_a_value S.variables R.variables) (λ e. ih R leaves.leads.sound (fits_later leaves.leads.later fits) (counts_still S R M leaves.leads.later new) leaves.goals e) e

  -- what is pending there is held
  pub pending_held : (ps : List Pending) → ((p : Pending) → Contains ps p → Contains T.pending p) → All Held ps
  pending_held [] f = All-nil Held
  pending_held (p ∷ ps) f = All-cons Held p ps (left p (f p (zero, omega arith, refl)) itself) (pending_held ps (λ q c. f q (suc c.0, (let less = c.1 in omega (arith, less)), c.2)))

  -- What is held there is granted where what is pending there is.
  module _ (end : All IsThere T.pending) (granted : All Granted T.pending) where
    abbrev on : Instance
    on = onward l listing T U F follows.live follows.sound follows.fits follows.within follows.later

    pair_carried : (e f : Env) → Same l (valued (instance on) (resolved T e)) (resolved U f) → e ≡ f → (t s : Tree) → OneThere e t s
        → SameBy (AreOne Q l (universes U) (resolved U f)) (alone (valued_tree (instance on) t)) (alone (valued_tree (instance on) s))
    pair_carried e f env same_env t s (inl c) = one_onward l listing T U F follows.live follows.sound follows.fits follows.within follows.later Q (resolved T e) (resolved U f) env t s c
    pair_carried e f env same_env t s (inr x) =
        let g = to_be_one e x.first x.second in
        let there = All-contains IsThere T.pending g end x.there in
        let free : (ts : Forest) → holds (is_strange T F) ts ≡ false → Same l (valued (instance on) (resolved T ts)) (resolved U (resolved T ts)) = λ ts k. known_onward K l listing T U F follows.live sound_last fits_last follows.sound follows.fits follows.within follows.later (resolved T ts)
        (resolved_stray T F sound_last ts (holds_imply (is_strange T F) (is_stray T F) (strange_stray T F) ts k)) in
        let parts = one_known e x.first x.second there in
        let first = subst (λ y. Same l (valued (instance on) (resolved T (alone x.first))) y) (follows.later.values (alone x.first) parts.0) (free (alone x.first) parts.0) in
        let second = subst (λ y. Same l (valued (instance on) (resolved T (alone x.second))) y) (follows.later.values (alone x.second) parts.1) (free (alone x.second) parts.1) in
        let R : Tree → Tree → Type 0 = AreOne Q l (universes U) (resolved U f) in
        let wide : (t u : Tree) → AreListed l t u → R t u = λ t u c. inl c in
        let said : SameBy R (alone (resolved_tree U x.first)) (alone (resolved_tree U x.second)) =
        subst (λ e. SameBy (AreOne Q l (universes U) (resolved U e)) (alone (resolved_tree U x.first)) (alone (resolved_tree U x.second))) same_env
        (one_granted e x.first x.second x.first_closed x.second_closed (All-contains Granted T.pending g granted x.there)) in
        moved R _ _ _ _ (ap (λ y. alone (valued_tree (instance on) y)) x.is_first) (ap (λ y. alone (valued_tree (instance on) y)) x.is_second)
        (along (wider (AreListed l) R wide first) (along said (back (wider (AreListed l) R wide second))))
      where
        one_known : (e : Env) (t u : Tree) → GoalIsOf T F (to_be_one e t u).goal → (holds (is_strange T F) (alone t) ≡ false) × (holds (is_strange T F) (alone u) ≡ false)
        one_known e t u g =
            let a = holds_parts (is_strange T F) (relation (kind_of t.head)) (tree (H.Part Part.Vars) none (tree t.head t.children (tree u.head u.children none))) none g.clause.known in
            let b = holds_parts (is_strange T F) (H.Part Part.Vars) none (tree t.head t.children (tree u.head u.children none)) a.under in
            let c = holds_parts (is_strange T F) t.head t.children (tree u.head u.children none) b.others in
            (whole (is_strange T F) t.head t.children none c.here c.under refl, c.others)

        one_granted : (e : Env) (t u : Tree) → escapes 0 (alone t) ≡ false → escapes 0 (alone u) ≡ false → Granted (to_be_one e t u) → SameBy (AreOne Q l (universes U) (resolved U e)) (alone (resolved_tree U t)) (alone (resolved_tree U u))
        one_granted e t u c d a = by (kind_of t.head) (subst (λ xs. FactsGrantedModulo (AreOne Q l (universes U) (resolved U e)) K l (universes U) (resolved U e) (relation (kind_of t.head)) (resolved U xs)) (closed_stays a.universe [] 0 (both_facts t u c d) (both_closed t u c d)) a.facts)
          where
            say : SameBy (AreOne Q l (universes U) (resolved U e)) (alone (first_fact (resolved U (both_facts t u c d)))) (alone (term_of (resolved U (both_facts t u c d)))) → SameBy (AreOne Q l (universes U) (resolved U e)) (alone (resolved_tree U t)) (alone (resolved_tree U u))
            say s = moved (AreOne Q l (universes U) (resolved U e)) _ _ _ _ (first_resolved U (both_facts t u c d)) (term_resolved U (both_facts t u c d)) s

            by : (k : Kind) → FactsGrantedModulo (AreOne Q l (universes U) (resolved U e)) K l (universes U) (resolved U e) (relation k) (resolved U (both_facts t u c d))
                → SameBy (AreOne Q l (universes U) (resolved U e)) (alone (resolved_tree U t)) (alone (resolved_tree U u))
            by ConstantKind s = say s
            by _ s = say s

    pub held_granted : (p : Pending) → IsThere p → Held p → Granted p
    held_granted p of (held a) =
        let ks = bound_kinds p.goal.clause.children in
        let fs : Forest = join p.goal.env (after_first p.goal.clause.children) in
        record {
          universe = a.universe;
          is_fresh = fresh_for_later T U F follows.later ks a.universe fs (goal_known T F p.goal of) a.is_fresh;
          facts = goal_onward K l listing T U F follows.live sound_last fits_last follows.sound follows.fits follows.within follows.later (OneThere p.goal.env) (AreOne Q l (universes U) (resolved U p.goal.env))
              (pair_carried p.goal.env p.goal.env (env_onward K l listing T U F follows.live sound_last fits_last follows.sound follows.fits follows.within follows.later p.goal of) refl) (λ t u c. inl c) p.goal of a.universe a.facts;
        }
    held_granted p of (left _ there itself) = All-contains Granted T.pending p granted there
    held_granted p of (left _ there (instance_so k ks n is fresh closed)) =
        let fs : Forest = join p.goal.env (after_first p.goal.clause.children) in
        let ts : Forest = opens n (k ∷ ks) 0 (after_first p.goal.clause.children) in
        let a = All-contains Granted T.pending (instance_of p (k ∷ ks) ts) granted there in
        record {
          universe = n;
          is_fresh = subst (λ ks. IsFreshFor (universes U) ks n fs) (sym is) (fresh_for_later T U F follows.later (k ∷ ks) n fs (goal_known T F p.goal of) fresh);
          facts = subst (λ ks. FactsGrantedModulo (AreOne Q l (universes U) (resolved U p.goal.env)) K l (universes U) (resolved U p.goal.env) p.goal.clause.head (resolved U (opens n ks 0 (after_first p.goal.clause.children)))) (sym is)
              (subst (λ xs. FactsGrantedModulo (AreOne Q l (universes U) (resolved U p.goal.env)) K l (universes U) (resolved U p.goal.env) p.goal.clause.head (resolved U xs)) (closed_stays a.universe [] 0 ts closed) a.facts);
        }

    pub all_granted : (ps : List Pending) → All IsThere ps → All Held ps → All Granted ps
    all_granted [] of all = All-nil Granted
    all_granted (p ∷ ps) of all = All-cons Granted p ps (held_granted p (All-head IsThere p ps of) (All-head Held p ps all)) (all_granted ps (All-tail IsThere p ps of) (All-tail Held p ps all))

-- What settling drops or replaces is granted at every state that follows and grants what settling leaves.
pub passes_dropped_by : {W : Type 0} (Q : ProjectionTables W) → ((i : AssocId) → ReadsWell (Q i)) → (K : GoalTable W) → ReadsWell K → (l : Listing) → IsListing l → (S T U : State) (L : Live) → IsSound S L → ValuesFit S L → GoalsAreOf S L S.pending
    → passes_by (tried_by_tables Q K l) 8 S ≡ Some T → (f : Follows S T L) → GoalsAreOf T f.live T.pending → Follows T U f.live → All (λ (p : Pending). IsGrantedBy Q K l U p.goal) T.pending → All (λ (p : Pending). IsGrantedBy Q K l U p.goal) S.pending
passes_dropped_by Q reads_terms K reads l listing S T U L sound fits of e f end g granted =
    let M : Live = with_new S L in
    let sound_new = sound_with_new S L sound in
    let fits_new = fits_with_new S L fits in
    let goals = goals_with_new S L S.pending of in
    let leaves = passes_leave_by Q reads_terms K reads l listing M 8 S T sound_new fits_new (new_count S L) goals e in
    let fits_there = fits_later leaves.leads.later fits_new in
    let first = All-weaker (λ (p : Pending). GoalIsOf S L p.goal) (λ (p : Pending). GoalIsOf T f.live p.goal)
    (λ p a. record { env = trees_later S T L f.live f.within f.later p.goal.env a.env; clause = trees_later S T L f.live f.within f.later (alone p.goal.clause) a.clause }) S.pending of in
    all_granted Q reads_terms K reads l listing T U M f.live leaves.leads.sound fits_there f.sound f.fits g end granted S.pending first
    (passes_drop Q reads_terms K reads l listing T U M f.live leaves.leads.sound fits_there f.sound f.fits g 8 S sound_new fits_new (new_count S L) goals e
    (pending_held Q reads_terms K reads l listing T U M f.live leaves.leads.sound fits_there f.sound f.fits g T.pending (λ p c. c)))
