-- What settling with a table drops or replaces is granted at every later state that grants what settling leaves.
use Rattle.std.proofs.Common.{◌≡◌, ℕ, zero, suc, Bool, true, false, ◌&&◌, ◌||◌, List, [], ◌∷◌, ◌++◌, Option, Some, None, ◌⊎◌, inl, inr, arith, refl, sym, ap, subst, if◌then◌else◌}
use Rattle.std.specs.List.{All}
use Rattle.std.proofs.lemmas.List.Elements.{All-head, All-tail, All-cons, All-nil, All-weaker}
use Rattle.ir_trees.specs.declared.ir.heads.Head.{Head}
use Rattle.ir_trees.specs.declared.ir.heads.Head.TheVariants as H
use Rattle.ir_trees.specs.declared.ir.heads.PartHead.TheVariants as P
use Rattle.ir_trees.specs.declared.ir.heads.ClauseHead.TheVariants as Cl
use Rattle.ir_trees.specs.declared.ir.kinds.AssocId.{AssocId}
use Rattle.ir_trees.specs.Syntax.Trees.{Kind, Forest, Tree, join, holds}
use Rattle.ir_trees.specs.Unification.Substitutions.{alone}
use Rattle.ir_trees.specs.Hierarchy.Supers.{after_first}
use Rattle.candidate_eval.specs.declared.eval.certainty.Certainty.{Certainty}
use Rattle.candidate_eval.specs.Derivations.Characterization.{Bounded, bound_kinds, group_at}
use Rattle.candidate_eval.specs.Derivations.ImplRules.{TraitGoal}
use Rattle.candidate_eval.specs.Judges.Soundness.{Live, Follows, IsSound, ValuesFit, IsLater, AreTreesOf, GoalIsOf, GoalsAreOf, is_strange, universes}
use Rattle.candidate_eval.specs.Judges.States.{State, Goal, Pending, resolved, resolved_tree, with_universe, next}
use Rattle.rounds_judge.specs.Aliases.Congruence.{Same, SameTree, along}
use Rattle.rounds_judge.specs.Equations.Equating.{equated, without_goals}
use Rattle.rounds_judge.specs.Equations.Opening.{are_open}
use Rattle.rounds_judge.specs.Obligations.Granted.{IsFreshFor}
use Rattle.rounds_judge.specs.Table.GoalTable.{GoalTable, verdict_in}
use Rattle.rounds_judge.specs.Table.Keys.{key_at, numbers_at, goal_trees, over_trees, trait_goal_of}
use Rattle.rounds_judge.specs.Aliases.Listed.{Listing, listed}
use Rattle.rounds_judge.specs.Obligations.Settling.{Outcome, first_fact, has_unlisted, related, stays, recorded, term_of, alias_of, instance_of, projected, before, with_certainty, with_staying, gave_a_value}
use Rattle.rounds_judge.specs.Equations.Standing.{IsListing}
use Rattle.rounds_judge.specs.Table.TableGranted.{FactsGrantedWith, IsGrantedByYes, IsGrantedWith}
use Rattle.rounds_judge.specs.Table.TableSettling.{are_bare, given, tried_by, tried_trait, tried_as_with, tried_with, all_by, pass_by, passes_by, settled_with}
use Rattle.rounds_judge.specs.Table.Verdicts.{Verdict, Yes, Maybe, Refused}
use Rattle.rounds_judge.proofs.Aliases.Congruent.{same_to}
use Rattle.rounds_judge.proofs.Equations.Current.{listed_fixed, listed_known}
use Rattle.rounds_judge.proofs.Aliases.Equated.{listed_same, equated_equal}
use Rattle.rounds_judge.proofs.Unifiers.EquatingLaws.{no_goals}
use Rattle.rounds_judge.proofs.Obligations.Granting.{first_resolved, term_resolved, alias_resolved, alias_marked, goal_known, fresh_for_later, newest_fresh}
use Rattle.rounds_judge.proofs.States.Later.{later_along, fits_later, trees_later}
use Rattle.rounds_judge.proofs.Obligations.Opening.{opens, closed_stays}
use Rattle.rounds_judge.proofs.Obligations.Settling.{lead_itself, lead_universe, lead_pending, goal_later, goals_later, facts_of, first_is_of, instance_is_of, term_is_of, same_outcome, stays_or}
use Rattle.rounds_judge.proofs.Table.TableFresh.{CountsNew}
use Rattle.rounds_judge.proofs.Table.TableGranting.{granted_stays}
use Rattle.rounds_judge.proofs.Table.TableSettled.{ReadsWell, joined, instance_leaves_with, counts_later, tried_leaves_with, all_leave, pass_leaves_with, passes_leave_with, with_new, new_count, sound_with_new, fits_with_new, goals_with_new}
use Rattle.rounds_judge.proofs.Table.TableYes.{given_granted}

module _ {W : Type 0} (K : GoalTable W) (l : Listing) (V : State) where
  -- to and from what is granted of facts, by the kinds of the binder
  granted_by : (g : Goal) (ks : List Kind) → bound_kinds g.clause.children ≡ ks → (n : ℕ) → IsFreshFor (universes V) ks n (join g.env (after_first g.clause.children))
      → FactsGrantedWith K l (universes V) (resolved V g.env) g.clause.head (resolved V (opens n ks 0 (after_first g.clause.children))) → IsGrantedWith K l V g
  granted_by g ks e n f a = record {
    universe = n;
    is_fresh = subst (λ ks. IsFreshFor (universes V) ks n (join g.env (after_first g.clause.children))) (sym e) f;
    facts = subst (λ ks. FactsGrantedWith K l (universes V) (resolved V g.env) g.clause.head (resolved V (opens n ks 0 (after_first g.clause.children)))) (sym e) a;
  }

  facts_granted : (g : Goal) → bound_kinds g.clause.children ≡ [] → IsGrantedWith K l V g → FactsGrantedWith K l (universes V) (resolved V g.env) g.clause.head (resolved V (opens 0 [] 0 (after_first g.clause.children)))
  facts_granted g e a = subst (λ ks. FactsGrantedWith K l (universes V) (resolved V g.env) g.clause.head (resolved V (opens a.universe ks 0 (after_first g.clause.children)))) e a.facts

-- The state that settling leaves, and one that follows

module _ {W : Type 0} (K : GoalTable W) (reads : ReadsWell K) (l : Listing) (listing : IsListing l) (T U : State) (M F : Live) (sound_there : IsSound T M) (fits_there : ValuesFit T M)
    (sound_last : IsSound T F) (fits_last : ValuesFit T F) (follows : Follows T U F) where
  abbrev pub Granted : Pending → Type 0
  Granted p = IsGrantedWith K l U p.goal

  -- a goal of what counts where settling ends
  abbrev pub IsThere : Pending → Type 0
  IsThere p = GoalIsOf T F p.goal

  -- what is granted where settling ends
  carried : (p : Pending) → IsThere p → IsGrantedWith K l T p.goal → Granted p
  carried p of a = granted_stays K l listing T U F p.goal sound_last fits_last of follows a

  -- A goal that was tried is done, and then its facts are granted where settling ends; or it stays.
  module _ (S : State) (sound : IsSound S M) (fits : ValuesFit S M) (new : CountsNew S M) (p : Pending) (of : GoalIsOf S M p.goal) (ts : Forest) (a : AreTreesOf S M ts) where
    abbrev Comes : Type 0 → List Pending × State → Type 0
    Comes P q = (P × (q.0 ≡ [])) ⊎ (q.0 ≡ p ∷ [])

    staying : (P : Type 0) (q : List Pending × State) → stays S p ≡ Some q → Comes P q
    staying P q e = inr (same_outcome (λ q. q.0 ≡ p ∷ []) (p ∷ [], S) q e refl)

    -- it stays, or two trees are equated
    equating : (b : Bool) (t u : Tree) → AreTreesOf S M (alone t) → AreTreesOf S M (alone u) → (P : Type 0) (q : List Pending × State) → (Same l (resolved T (alone t)) (resolved T (alone u)) → P)
        → stays_or S p b (without_goals (equated l S (alone t) (alone u))) ≡ Some q → IsLater q.1 T M → Comes P q
    equating true t u x y P q f e after = staying P q e
    equating false t u x y P q f e after =
        let n = no_goals (equated l S (alone t) (alone u)) q.0 q.1 e in
        inl (f (equated_equal l listing T M fits_there S q.1 (alone t) (alone u) sound fits x y n.is after), sym n.none)

    projecting : (i : AssocId) (o : Option Tree) → listed l (resolved_tree S (alias_of i ts)) ≡ o → (q : List Pending × State) → projected l S p (term_of ts) o ≡ Some q → IsLater q.1 T M → IsLater S T M
        → Comes (SameTree l (alias_of i (resolved T ts)) (term_of (resolved T ts))) q
    projecting i None f q e after later = staying (SameTree l (alias_of i (resolved T ts)) (term_of (resolved T ts))) q e
    projecting i (Some u) f q e after later =
        let type : AreTreesOf S M (alone u) = record { known = listed_known l listing (resolved_tree S (alias_of i ts)) u f S M; is_closed = (listed_fixed l listing (resolved_tree S (alias_of i ts)) u f).is_closed } in
        let alias = same_to l (resolved T (resolved S (alone (alias_of i ts)))) (resolved T (alone u)) (resolved T (alone (alias_of i ts))) (resolved T (alone u)) (later.values (alone (alias_of i ts)) (alias_marked (is_strange S M) i ts refl a.known)) refl
        (listed_same l listing T M fits_there (resolved_tree S (alias_of i ts)) u f) in
        equating (are_open l S && has_unlisted l S (alone (term_of ts))) u (term_of ts) type (term_is_of S M ts a) (SameTree l (alias_of i (resolved T ts)) (term_of (resolved T ts))) q
        (λ sides. same_to l (resolved T (alone (alias_of i ts))) (resolved T (alone (term_of ts))) (alone (alias_of i (resolved T ts))) (alone (term_of (resolved T ts))) (sym (alias_resolved T i ts)) (sym (term_resolved T ts)) (along alias sides)) e after

    relating : (q : List Pending × State) → related l S p (first_fact ts) (term_of ts) ≡ Some q → IsLater q.1 T M → Comes (SameTree l (first_fact (resolved T ts)) (term_of (resolved T ts))) q
    relating q e after =
        equating (has_unlisted l S (alone (first_fact ts)) || has_unlisted l S (alone (term_of ts))) (first_fact ts) (term_of ts) (first_is_of S M ts a) (term_is_of S M ts a)
        (SameTree l (first_fact (resolved T ts)) (term_of (resolved T ts))) q
        (λ sides. same_to l (resolved T (alone (first_fact ts))) (resolved T (alone (term_of ts))) (alone (first_fact (resolved T ts))) (alone (term_of (resolved T ts))) (sym (first_resolved T ts)) (sym (term_resolved T ts)) sides) e after

    -- a Yes that is of the goal where settling ends
    abbrev Given : TraitGoal → Type 0
    Given g = IsGrantedByYes K l (universes T) (over_trees (resolved T) g)

    asking : (g : TraitGoal) → holds (is_strange S M) (goal_trees g) ≡ false → (q : List Pending × State) → tried_trait K l S p g ≡ Some q → IsLater q.1 T M → Comes (Given g) q
    asking g known q e after = at (are_bare (resolved S (goal_trees g))) refl e
      where
        by : are_bare (resolved S (goal_trees g)) ≡ true → (v : Option (Verdict W)) → verdict_in K (key_at S g) ≡ v → tried_by l S p (key_at S g) (numbers_at S g) v ≡ Some q → Comes (Given g) q
        by bare (Some Refused) f e = cc
        by bare (Some (Maybe r w)) f e = staying (Given g) q e
        by bare None f e = staying (Given g) q e
        by bare (Some (Yes r w)) f e =
            let n = no_goals (given l S (key_at S g) (numbers_at S g) r) q.0 q.1 e in
            inl (given_granted K reads l listing T M sound_there fits_there S sound fits new g known bare r w f q.1 n.is after, sym n.none)

        at : (b : Bool) → are_bare (resolved S (goal_trees g)) ≡ b → (if b then tried_by l S p (key_at S g) (numbers_at S g) (verdict_in K (key_at S g)) else stays S p) ≡ Some q → Comes (Given g) q
        at true bare e = by bare (verdict_in K (key_at S g)) refl e
        at false bare e = staying (Given g) q e

    trying : (h : Head) (q : List Pending × State) → tried_as_with K l S p ts h ≡ Some q → IsLater q.1 T M → IsLater S T M
        → Comes (FactsGrantedWith K l (universes T) (resolved T p.goal.env) h (resolved T ts)) q
    trying (H.Part (P.Clause (Cl.Trait i m))) q e after later = asking (trait_goal_of p.goal.env i m ts) (joined (is_strange S M) p.goal.env ts of.env.known a.known) q e after
    trying (H.Part (P.Clause (Cl.Projection i))) q e after later = projecting i (listed l (resolved_tree S (alias_of i ts))) refl q e after later
    trying (H.Part (P.Clause Cl.AliasRelate)) q e after later = relating q e after
    trying (H.Part (P.Clause Cl.ConstEquate)) q e after later = relating q e after
    trying (H.Part (P.Clause Cl.TypeOutlives)) q e after later = inl (tt, same_outcome (λ q. q.0 ≡ []) ([], recorded S p.goal.clause) q e refl)
    trying (H.Part (P.Clause Cl.RegionOutlives)) q e after later = inl (tt, same_outcome (λ q. q.0 ≡ []) ([], recorded S p.goal.clause) q e refl)
    trying h q e after later = staying (FactsGrantedWith K l (universes T) (resolved T p.goal.env) h (resolved T ts)) q e

  -- What is left are goals that count where settling ends, and with them what was tried is granted.
  record Drops (ps qs : List Pending) : Type 0 where
    there : All IsThere qs
    granted : All Granted qs → All Granted ps

  done : (p : Pending) (qs : List Pending) → qs ≡ [] → Granted p → Drops (p ∷ []) qs
  done p qs e a = record { there = subst (All IsThere) (sym e) (All-nil IsThere); granted = λ all. All-cons Granted p [] a (All-nil Granted) }

  left : (p r : Pending) (qs : List Pending) → qs ≡ r ∷ [] → IsThere r → (Granted r → Granted p) → Drops (p ∷ []) qs
  left p r qs e of a = record {
    there = subst (All IsThere) (sym e) (All-cons IsThere r [] of (All-nil IsThere));
    granted = λ all. All-cons Granted p [] (a (All-head Granted r [] (subst (All Granted) e all))) (All-nil Granted);
  }

  tried_drops : (S : State) → IsSound S M → ValuesFit S M → CountsNew S M → (p : Pending) → GoalIsOf S M p.goal → IsThere p → (q : List Pending × State) → tried_with K l S p ≡ Some q → IsLater S q.1 M → IsLater q.1 T M
      → Drops (p ∷ []) q.0
  tried_drops S sound fits new p of last q e first after = at (bound_kinds p.goal.clause.children) refl e
    where
      later : IsLater S T M
      later = later_along S q.1 T M M sound (λ n l c. c) first after

      at : (ks : List Kind) → bound_kinds p.goal.clause.children ≡ ks
          → (let f = group_at S (Bounded ks (after_first p.goal.clause.children)) in tried_as_with K l f.0 (instance_of p ks f.1) f.1 p.goal.clause.head) ≡ Some q → Drops (p ∷ []) q.0
      at [] k e =
          let ts : Forest = opens 0 [] 0 (after_first p.goal.clause.children) in
          elim (trying S sound fits new p of ts (facts_of S M 0 [] p.goal.clause (omega arith) of.clause) p.goal.clause.head q e after later) [
            | inl d ↦ done p q.0 d.1 (carried p last (granted_by K l T p.goal [] k 0 tt d.0))
            | inr is ↦ left p p q.0 is last (λ a. a)
          ]
      at (x ∷ ks) k e =
          let R : State = with_universe S in
          let n : ℕ = suc S.newest_universe in
          let fs : Forest = join p.goal.env (after_first p.goal.clause.children) in
          let ts : Forest = opens n (x ∷ ks) 0 (after_first p.goal.clause.children) in
          let here : Pending = instance_of p (x ∷ ks) ts in
          let lead = lead_universe S M sound in
          let there = goal_later S R M lead.later p.goal of in
          let facts = facts_of R M n (x ∷ ks) p.goal.clause (omega arith) there.clause in
          let fits_here = fits_later lead.later fits in
          let of_here = instance_is_of R M p (x ∷ ks) ts there facts in
          let leaves = instance_leaves_with K reads l listing M R lead.sound fits_here new here of_here ts facts p.goal.clause.head q e in
          let known = goal_known S M p.goal of in
          let fresh = fresh_for_later S T M later (x ∷ ks) n fs known (newest_fresh S M sound (x ∷ ks) fs known) in
          let fresh_on = fresh_for_later T U F follows.later (x ∷ ks) n fs (goal_known T F p.goal last) fresh in
          let low = leaves.leads.later.newest in
          let newest = after.newest in
          let facts_last = facts_of T F n (x ∷ ks) p.goal.clause (omega (arith, low, newest)) last.clause in
          elim (trying R lead.sound fits_here new here of_here ts facts p.goal.clause.head q e after (later_along R q.1 T M M lead.sound (λ n l c. c) leaves.leads.later after)) [
            | inl d ↦ done p q.0 d.1 (carried p last (granted_by K l T p.goal (x ∷ ks) k n fresh d.0))
            | inr is ↦ left p here q.0 is (instance_is_of T F p (x ∷ ks) ts last facts_last)
                (λ a. granted_by K l U p.goal (x ∷ ks) k n fresh_on (subst (λ ts. FactsGrantedWith K l (universes U) (resolved U p.goal.env) p.goal.clause.head (resolved U ts)) (closed_stays 0 [] 0 ts facts.is_closed) (facts_granted K l U here.goal refl a)))
          ]

  -- Goals in order

  split : (ps qs : List Pending) → All Granted (ps ++ qs) → All Granted ps × All Granted qs
  split [] qs a = (All-nil Granted, a)
  split (p ∷ ps) qs a = let s = split ps qs (All-tail Granted p (ps ++ qs) a) in (All-cons Granted p ps (All-head Granted p (ps ++ qs) a) s.0, s.1)

  appended : (ps qs : List Pending) → All IsThere ps → All IsThere qs → All IsThere (ps ++ qs)
  appended [] qs a b = b
  appended (p ∷ ps) qs a b = All-cons IsThere p (ps ++ qs) (All-head IsThere p ps a) (appended ps qs (All-tail IsThere p ps a) b)

  all_drop : (S : State) → IsSound S M → ValuesFit S M → CountsNew S M → (ps : List Pending) → GoalsAreOf S M ps → All IsThere ps → (q : List Pending × State) → all_by (tried_with K l) S ps ≡ Some q → IsLater q.1 T M → Drops ps q.0
  all_drop S sound fits new [] of last q e after = same_outcome (λ q. Drops [] q.0) ([], S) q e (record { there = All-nil IsThere; granted = λ a. a })
  all_drop S sound fits new (p ∷ ps) of last q e after =
      at (tried_with K l S p) refl (λ R sound fits new of r e after. all_drop R sound fits new ps of (All-tail IsThere p ps last) r e after) e
    where
      rest : (r : List Pending × State) → tried_with K l S p ≡ Some r → (o : Outcome) → all_by (tried_with K l) r.1 ps ≡ o
          → ((R : State) → IsSound R M → ValuesFit R M → CountsNew R M → GoalsAreOf R M ps → (s : List Pending × State) → all_by (tried_with K l) R ps ≡ Some s → IsLater s.1 T M → Drops ps s.0)
          → before r.0 o ≡ Some q → Drops (p ∷ ps) q.0
      rest r f None g ih e = cc
      rest r f (Some s) g ih e =
          let is : (r.0 ++ s.0, s.1) ≡ q = cc in
          let leaves = tried_leaves_with K reads l listing M S sound fits new p (All-head (λ (p : Pending). GoalIsOf S M p.goal) p ps of) r f in
          let fits_then = fits_later leaves.leads.later fits in
          let new_then = counts_later K reads l listing M S r.1 leaves.leads.later new in
          let goals = goals_later S r.1 M leaves.leads.later ps (All-tail (λ (p : Pending). GoalIsOf S M p.goal) p ps of) in
          let more = all_leave K reads l listing M r.1 leaves.leads.sound fits_then new_then ps goals s g in
          let after_more : IsLater s.1 T M = subst (λ (q : List Pending × State). IsLater q.1 T M) (sym is) after in
          let after_first : IsLater r.1 T M = later_along r.1 s.1 T M M leaves.leads.sound (λ n l c. c) more.leads.later after_more in
          let one = tried_drops S sound fits new p (All-head (λ (p : Pending). GoalIsOf S M p.goal) p ps of) (All-head IsThere p ps last) r f leaves.leads.later after_first in
          let others = ih r.1 leaves.leads.sound fits_then new_then goals s g after_more in
          subst (λ (q : List Pending × State). Drops (p ∷ ps) q.0) is
          (record {
            there = appended r.0 s.0 one.there others.there;
            granted = λ a. let both = split r.0 s.0 a in All-cons Granted p ps (All-head Granted p [] (one.granted both.0)) (others.granted both.1);
          })

      at : (o : Outcome) → tried_with K l S p ≡ o
          → ((R : State) → IsSound R M → ValuesFit R M → CountsNew R M → GoalsAreOf R M ps → (s : List Pending × State) → all_by (tried_with K l) R ps ≡ Some s → IsLater s.1 T M → Drops ps s.0)
          → next o (λ r. before r.0 (all_by (tried_with K l) r.1 ps)) ≡ Some q → Drops (p ∷ ps) q.0
      at None f ih e = cc
      at (Some r) f ih e = rest r f (all_by (tried_with K l) r.1 ps) refl ih e

  -- Passes

  pass_drops : (S R : State) → IsSound S M → ValuesFit S M → CountsNew S M → GoalsAreOf S M S.pending → All IsThere S.pending → pass_by (tried_with K l) S ≡ Some R → IsLater R T M → Drops S.pending R.pending
  pass_drops S R sound fits new of last e after = at (all_by (tried_with K l) S S.pending) refl e
    where
      at : (o : Outcome) → all_by (tried_with K l) S S.pending ≡ o → next o (λ q. Some (with_staying q)) ≡ Some R → Drops S.pending R.pending
      at None f e = cc
      at (Some q) f e =
          let is : with_staying q ≡ R = cc in
          let leaves = all_leave K reads l listing M S sound fits new S.pending of q f in
          let lead = lead_pending q.1 M q.0 leaves.leads.sound in
          subst (λ (R : State). Drops S.pending R.pending) is
          (all_drop S sound fits new S.pending of last q f (later_along q.1 (with_staying q) T M M leaves.leads.sound (λ n l c. c) lead.later (subst (λ R. IsLater R T M) (sym is) after)))

  pub passes_drop : (n : ℕ) (S : State) → IsSound S M → ValuesFit S M → CountsNew S M → GoalsAreOf S M S.pending → All IsThere S.pending → passes_by (tried_with K l) n S ≡ Some T → All Granted T.pending → All Granted S.pending
  passes_drop zero S sound fits new of last e granted = subst (λ (T : State). All Granted T.pending) (let is : T ≡ S = cc in is) granted
  passes_drop (suc n) S sound fits new of last e granted = at (pass_by (tried_with K l) S) refl (λ R sound fits new of last e. passes_drop n R sound fits new of last e granted) e
    where
      goes : (R : State) → pass_by (tried_with K l) S ≡ Some R → (b : Bool) → (passes_by (tried_with K l) n R ≡ Some T → All IsThere R.pending → All Granted R.pending)
          → (if b then passes_by (tried_with K l) n R else Some R) ≡ Some T → All Granted S.pending
      goes R f true ih e =
          let leaves = pass_leaves_with K reads l listing M S R sound fits new of f in
          let more = passes_leave_with K reads l listing M n R T leaves.leads.sound (fits_later leaves.leads.later fits) (counts_later K reads l listing M S R leaves.leads.later new) leaves.goals e in
          let drops = pass_drops S R sound fits new of last f more.leads.later in
          drops.granted (ih e drops.there)
      goes R f false ih e =
          let is : T ≡ R = cc in
          let leaves = pass_leaves_with K reads l listing M S R sound fits new of f in
          (pass_drops S R sound fits new of last f (subst (λ T. IsLater R T M) (sym is) (lead_itself R M leaves.leads.sound).later)).granted (subst (λ (T : State). All Granted T.pending) is granted)

      at : (o : Option State) → pass_by (tried_with K l) S ≡ o
          → ((R : State) → IsSound R M → ValuesFit R M → CountsNew R M → GoalsAreOf R M R.pending → All IsThere R.pending → passes_by (tried_with K l) n R ≡ Some T → All Granted R.pending)
          → next o (λ R. if gave_a_value S.variables R.variables then passes_by (tried_with K l) n R else Some R) ≡ Some T → All Granted S.pending
      at None f ih e = cc
      at (Some R) f ih e =
          let leaves = pass_leaves_with K reads l listing M S R sound fits new of f in
          goes R f (gave_a_value S.variables R.variables)
          (λ e last. ih R leaves.leads.sound (fits_later leaves.leads.later fits) (counts_later K reads l listing M S R leaves.leads.later new) leaves.goals last e) e

-- The passes that settling does

pub passed_with : {W : Type 0} (K : GoalTable W) (l : Listing) (S T : State) (c : Certainty) → settled_with K l S ≡ Some (c, T) → passes_by (tried_with K l) 8 S ≡ Some T
passed_with K l S T c e = at (passes_by (tried_with K l) 8 S) e
  where
    at : (o : Option State) → next o (λ U. Some (with_certainty U)) ≡ Some (c, T) → o ≡ Some T
    at None e = cc
    at (Some R) e = ap (λ (q : Certainty × State). Some q.1) (let is : with_certainty R ≡ (c, T) = cc in is)

-- What settling drops or replaces is granted at every state that follows and grants what settling leaves.
pub passes_dropped : {W : Type 0} (K : GoalTable W) → ReadsWell K → (l : Listing) → IsListing l → (S T U : State) (L : Live) → IsSound S L → ValuesFit S L → GoalsAreOf S L S.pending
    → passes_by (tried_with K l) 8 S ≡ Some T → (f : Follows S T L) → Follows T U f.live → All (λ (p : Pending). IsGrantedWith K l U p.goal) T.pending → All (λ (p : Pending). IsGrantedWith K l U p.goal) S.pending
passes_dropped K reads l listing S T U L sound fits of e f g granted =
    let M : Live = with_new S L in
    let sound_new = sound_with_new S L sound in
    let fits_new = fits_with_new S L fits in
    let goals = goals_with_new S L S.pending of in
    let leaves = passes_leave_with K reads l listing M 8 S T sound_new fits_new (new_count S L) goals e in
    let last = All-weaker (λ (p : Pending). GoalIsOf S L p.goal) (λ (p : Pending). GoalIsOf T f.live p.goal)
    (λ p a. record { env = trees_later S T L f.live f.within f.later p.goal.env a.env; clause = trees_later S T L f.live f.within f.later (alone p.goal.clause) a.clause }) S.pending of in
    passes_drop K reads l listing T U M f.live leaves.leads.sound (fits_later leaves.leads.later fits_new) f.sound f.fits g 8 S sound_new fits_new (new_count S L) goals last e granted

pub settling_drops_granted : {W : Type 0} (K : GoalTable W) → ReadsWell K → (l : Listing) → IsListing l → (S T U : State) (L : Live) (c : Certainty) → IsSound S L → ValuesFit S L → GoalsAreOf S L S.pending
    → settled_with K l S ≡ Some (c, T) → (f : Follows S T L) → Follows T U f.live → All (λ (p : Pending). IsGrantedWith K l U p.goal) T.pending → All (λ (p : Pending). IsGrantedWith K l U p.goal) S.pending
settling_drops_granted K reads l listing S T U L c sound fits of e f g granted = passes_dropped K reads l listing S T U L sound fits of (passed_with K l S T c e) f g granted
