-- Settling with a table leads to a state that follows, and what it leaves pending are goals of that state.
use Rattle.std.proofs.Common.{◌≡◌, ◌≤◌, ℕ, zero, suc, Bool, true, false, ◌||◌, nat_lt, nat_le, List, [], ◌∷◌, ◌++◌, length, map, Option, Some, None, arith, refl, sym, ap, subst, ◌∙◌, if◌then◌else◌}
use Rattle.std.proofs.lemmas.Bool.{and_parts, le-leb, leb-true, le-ltb, ltb-false}
use Rattle.std.proofs.lemmas.Option.{slice_get_within}
use Rattle.std.proofs.lemmas.List.Elements.{All-weaker, All-head, All-tail, All-cons, All-nil}
use Rattle.ir_trees.specs.declared.ir.heads.ClauseHead.TheVariants as Cl
use Rattle.ir_trees.specs.declared.ir.heads.ConstHead.TheVariants as C
use Rattle.ir_trees.specs.declared.ir.heads.Head.{Head}
use Rattle.ir_trees.specs.declared.ir.heads.Head.TheVariants as H
use Rattle.ir_trees.specs.declared.ir.heads.PartHead.TheVariants as P
use Rattle.ir_trees.specs.declared.ir.kinds.RegionKind.TheVariants as R
use Rattle.ir_trees.specs.Instantiation.Folding.{leaf}
use Rattle.ir_trees.specs.Unification.Substitutions.{alone}
use Rattle.ir_trees.specs.Hierarchy.Supers.{after_first}
use Rattle.ir_trees.specs.Syntax.Trees.{Kind, Forest, none, tree, Tree, join, holds, variable_number}
use Rattle.candidate_eval.specs.declared.eval.certainty.Certainty.{Certainty}
use Rattle.candidate_eval.specs.declared.eval.variable.VariableKind.TheVariants.{Term, Region}
use Rattle.candidate_eval.specs.Judges.Alike.{info}
use Rattle.candidate_eval.specs.Derivations.Characterization.{Bounded, bound_kinds, group_at}
use Rattle.candidate_eval.specs.Derivations.ImplRules.{TraitGoal}
use Rattle.candidate_eval.specs.Judges.Instances.{instance}
use Rattle.candidate_eval.specs.Outcomes.Merging.{is_yes}
use Rattle.candidate_eval.specs.Outcomes.Responses.{Response}
use Rattle.candidate_eval.specs.Judges.Soundness.{Live, Follows, IsSound, ValuesFit, IsLater, AreTreesOf, GoalIsOf, GoalsAreOf, is_strange}
use Rattle.candidate_eval.specs.Judges.States.{State, Pending, VariableInfo, has_kind, resolved, valued, with_universe, next}
use Rattle.candidate_eval.proofs.Marks.Holds.{holds_parts, holds_imply}
use Rattle.rounds_judge.specs.Table.GoalTable.{GoalTable, verdict_in, may_be_given, may_be_read, well_entered}
use Rattle.rounds_judge.specs.Table.Keys.{Key, same_key, key_at, numbers_at, trait_goal_of, goal_trees, universe_named, greatest_named, greatest_of, newest_of}
use Rattle.rounds_judge.specs.Aliases.Listed.{Listing}
use Rattle.rounds_judge.specs.Obligations.Responding.{is_seen, place_of, with_number, with_numbers, renumbering, renumbered, renumbered_region, renumbered_regions, open_variable}
use Rattle.rounds_judge.specs.Obligations.Settling.{Outcome, stays, instance_of, before, with_certainty, with_staying, gave_a_value}
use Rattle.rounds_judge.specs.Equations.Standing.{IsListing}
use Rattle.rounds_judge.specs.Table.TableSettling.{are_bare, given, tried_by, tried_trait, tried_as_with, tried_with, all_by, pass_by, passes_by, settled_with}
use Rattle.rounds_judge.specs.Table.Verdicts.{Verdict, Yes, Maybe, Refused}
use Rattle.rounds_judge.proofs.Unifiers.EquatingLaws.{no_goals}
use Rattle.rounds_judge.proofs.States.Later.{counted, kind_there, has_info, fits_later, resolved_known}
use Rattle.rounds_judge.proofs.States.Marks.{whole, fold_marked}
use Rattle.rounds_judge.proofs.Obligations.Opening.{opens}
use Rattle.rounds_judge.proofs.Obligations.Settling.{Leaves, LeavesPending, lead_itself, lead_along, lead_universe, lead_pending, goal_later, goals_later, facts_of, instance_is_of, instance_leaves, same_outcome, both_left}
use Rattle.rounds_judge.proofs.Table.TableFresh.{AreNumbersOf, CountsNew}
use Rattle.rounds_judge.proofs.Table.TableGiving.{given_leads}
use Rattle.rounds_judge.proofs.Table.TableKeys.{key_is}

-- The numbers of a key are of variables that count.

module _ (S : State) (L : Live) where
  abbrev Counted : ℕ → Type 0
  Counted n = (i : VariableInfo) × (info S n ≡ Some i) × (L n ≡ true)

  abbrev AllCounted : List ℕ → Type 0
  AllCounted [] = Unit {0}
  AllCounted (n ∷ ns) = Counted n × AllCounted ns

  counted_last : (ns : List ℕ) (n : ℕ) → AllCounted ns → Counted n → AllCounted (ns ++ n ∷ [])
  counted_last [] n a c = (c, tt)
  counted_last (m ∷ ms) n a c = (a.0, counted_last ms n a.1 c)

  counted_number : (ns : List ℕ) (h : Head) → is_strange S L h ≡ false → AllCounted ns → AllCounted (with_number ns (variable_number h))
  counted_number ns (H.Infer v) e a = let i = has_info (L v.number) (Term v.sort) (info S v.number) e in at (is_seen ns v.number) (i.0, i.1, i.2)
    where
      at : (b : Bool) → Counted v.number → AllCounted (if b then ns else ns ++ v.number ∷ [])
      at true c = a
      at false c = counted_last ns v.number a c
  counted_number ns (H.Region (R.Var n)) e a = let i = has_info (L n) Region (info S n) e in at (is_seen ns n) (i.0, i.1, i.2)
    where
      at : (b : Bool) → Counted n → AllCounted (if b then ns else ns ++ n ∷ [])
      at true c = a
      at false c = counted_last ns n a c
  counted_number ns _ e a = a

  counted_numbers : (ns : List ℕ) (ts : Forest) → holds (is_strange S L) ts ≡ false → AllCounted ns → AllCounted (with_numbers ns ts)
  counted_numbers ns none e a = a
  counted_numbers ns (tree h below rest) e a =
      let p = holds_parts (is_strange S L) h below rest e in
      counted_numbers (with_numbers (with_number ns (variable_number h)) below) rest p.others (counted_numbers (with_number ns (variable_number h)) below p.under (counted_number ns h p.here a))

  are_numbers : (ns : List ℕ) → AllCounted ns → AreNumbersOf S L (map (λ n. open_variable (info S n)) ns) ns
  are_numbers [] a = tt
  are_numbers (n ∷ ns) a =
      (record { entry = a.0.0; there = a.0.1; kind = sym (ap (λ o. (open_variable o).kind) a.0.1); live = a.0.2 }, are_numbers ns a.1)

  module _ (sound : IsSound S L) where
    low_variables : (ns : List ℕ) → AllCounted ns → greatest_of (map (λ n. open_variable (info S n)) ns) ≤ S.newest_universe
    low_variables [] a = omega arith
    low_variables (n ∷ ns) a =
        let first = sound.universes n a.0.0 a.0.2 a.0.1 in
        let is : (open_variable (info S n)).universe ≡ a.0.0.universe = ap (λ o. (open_variable o).universe) a.0.1 in
        let rest = low_variables ns a.1 in
        omega (arith, first, is, rest)

-- Universes that trees name

abbrev is_above : ℕ → Head → Bool
is_above u h = nat_lt u (universe_named h)

low_named : (u : ℕ) (ts : Forest) → holds (is_above u) ts ≡ false → greatest_named ts ≤ u
low_named u none e = omega arith
low_named u (tree h below rest) e =
    let p = holds_parts (is_above u) h below rest e in
    let here = ltb-false u (universe_named h) p.here in
    let under = low_named u below p.under in
    let others = low_named u rest p.others in
    omega (arith, here, under, others)

pub joined : (mark : Head → Bool) (a b : Forest) → holds mark a ≡ false → holds mark b ≡ false → holds mark (join a b) ≡ false
joined mark none b e f = f
joined mark (tree h below rest) b e f = let p = holds_parts mark h below rest e in whole mark h below (join rest b) p.here p.under (joined mark rest b p.others f)

pub apart : (mark : Head → Bool) (a b : Forest) → holds mark (join a b) ≡ false → (holds mark a ≡ false) × (holds mark b ≡ false)
apart mark none b e = (refl, e)
apart mark (tree h below rest) b e =
    let p = holds_parts mark h below (join rest b) e in
    let q = apart mark rest b p.others in
    (whole mark h below rest p.here p.under q.0, q.1)

module _ (S : State) (L : Live) where
  known_low : (h : Head) → is_strange S L h ≡ false → is_above S.newest_universe h ≡ false
  known_low (H.Placeholder p) e = e
  known_low (H.Const (C.Placeholder p)) e = e
  known_low (H.Region (R.Placeholder p)) e = e
  known_low _ e = le-ltb S.newest_universe 0 (omega arith)

  renumbered_low : (ns : List ℕ) (ts : Forest) → holds (is_above S.newest_universe) ts ≡ false → holds (is_above S.newest_universe) (renumbered ns ts) ≡ false
  renumbered_low ns ts e = regions_low (valued (instance (renumbering ns)) ts)
      (fold_marked (λ d t. instance (renumbering ns) t.head) (is_above S.newest_universe) (is_above S.newest_universe) (is_above S.newest_universe) (λ d t a b f. a) (λ d t u a b f. leaf_low t.head u f) 0 ts e e)
    where
      leaf_low : (h : Head) (u : Tree) → instance (renumbering ns) h ≡ Some u → holds (is_above S.newest_universe) (alone u) ≡ false
      leaf_low (H.Infer v) u f =
          let t : Tree = leaf (H.Infer (record { sort = v.sort; number = place_of ns v.number })) in
          subst (λ (u : Tree). holds (is_above S.newest_universe) (alone u) ≡ false) (let is : t ≡ u = cc in is) (whole (is_above S.newest_universe) t.head none none (le-ltb S.newest_universe 0 (omega arith)) refl refl)
      leaf_low _ u f = cc

      regions_low : (ts : Forest) → holds (is_above S.newest_universe) ts ≡ false → holds (is_above S.newest_universe) (renumbered_regions ns ts) ≡ false
      regions_low none e = refl
      regions_low (tree h below rest) e =
          let p = holds_parts (is_above S.newest_universe) h below rest e in
          whole (is_above S.newest_universe) (renumbered_region ns h) (renumbered_regions ns below) (renumbered_regions ns rest) (region_low h p.here) (regions_low below p.under) (regions_low rest p.others)
        where
          region_low : (h : Head) → is_above S.newest_universe h ≡ false → is_above S.newest_universe (renumbered_region ns h) ≡ false
          region_low (H.Region (R.Var n)) e = e
          region_low (H.Region (R.Placeholder p)) e = e
          region_low _ e = e

  -- The key of a goal of the state: its numbers are of variables that count, and no universe in it is above the newest.

  module _ (sound : IsSound S L) (g : TraitGoal) (known : holds (is_strange S L) (goal_trees g) ≡ false) where
    counted_key : AllCounted S L (numbers_at S g)
    counted_key = counted_numbers S L [] (resolved S (goal_trees g)) (resolved_known S L sound (goal_trees g) known) tt

    pub key_numbers : AreNumbersOf S L (key_at S g).variables (numbers_at S g)
    key_numbers = are_numbers S L (numbers_at S g) counted_key

    pub key_low : newest_of (key_at S g) ≤ S.newest_universe
    key_low =
        let parts = apart (is_strange S L) g.env g.reference.arguments known in
        let trees = low_named S.newest_universe (goal_trees (key_at S g).goal)
        (joined (is_above S.newest_universe) (renumbered (numbers_at S g) (resolved S g.env)) (renumbered (numbers_at S g) (resolved S g.reference.arguments)) (low g.env parts.0) (low g.reference.arguments parts.1)) in
        let variables = low_variables S L sound (numbers_at S g) counted_key in
        omega (arith, trees, variables)
      where
        low : (ts : Forest) → holds (is_strange S L) ts ≡ false → holds (is_above S.newest_universe) (renumbered (numbers_at S g) (resolved S ts)) ≡ false
        low ts k = renumbered_low (numbers_at S g) (resolved S ts) (holds_imply (is_strange S L) (is_above S.newest_universe) known_low (resolved S ts) (resolved_known S L sound ts k))

-- What is read of a table may be given.

abbrev pub ReadsWell : {W : Type 0} → GoalTable W → Type 0
ReadsWell {W} K = (k : Key) (r : Response) (w : Option W) → verdict_in K k ≡ Some (Yes r w) → may_be_given k r ≡ true

pub well_read : {W : Type 0} (K : GoalTable W) → ReadsWell (well_entered K)
well_read [] k r w e = cc
well_read {W} (x ∷ xs) k r w e = at (may_be_read x.key x.verdict) refl (λ e. well_read xs k r w e) e
  where
    passes : x.verdict ≡ Some (Yes r w) → may_be_read x.key x.verdict ≡ true → x.key ≡ k → may_be_given k r ≡ true
    passes e f is = subst (λ k. may_be_given k r ≡ true) is ((and_parts (is_yes r.certainty) (may_be_given x.key r) (sym (ap (may_be_read x.key) e) ∙ f)).1)

    found : (b : Bool) → same_key x.key k ≡ b → may_be_read x.key x.verdict ≡ true → (verdict_in (well_entered xs) k ≡ Some (Yes r w) → may_be_given k r ≡ true)
        → (if b then x.verdict else verdict_in (well_entered xs) k) ≡ Some (Yes r w) → may_be_given k r ≡ true
    found true s f ih e = passes e f (key_is x.key k s)
    found false s f ih e = ih e

    at : (b : Bool) → may_be_read x.key x.verdict ≡ b → (verdict_in (well_entered xs) k ≡ Some (Yes r w) → may_be_given k r ≡ true)
        → verdict_in (if b then x ∷ well_entered xs else well_entered xs) k ≡ Some (Yes r w) → may_be_given k r ≡ true
    at true f ih e = found (same_key x.key k) refl f ih e
    at false f ih e = ih e

-- One goal

module _ {W : Type 0} (K : GoalTable W) (reads : ReadsWell K) (l : Listing) (listing : IsListing l) (L : Live) where
  module _ (S : State) (sound : IsSound S L) (fits : ValuesFit S L) (new : CountsNew S L) (p : Pending) (of : GoalIsOf S L p.goal) where
    staying : Leaves S L (p ∷ [], S)
    staying = record { leads = lead_itself S L sound; goals = All-cons (λ (p : Pending). GoalIsOf S L p.goal) p [] of (All-nil (λ (p : Pending). GoalIsOf S L p.goal)) }

    pub trait_leaves : (g : TraitGoal) → holds (is_strange S L) (goal_trees g) ≡ false → (q : List Pending × State) → tried_trait K l S p g ≡ Some q → Leaves S L q
    trait_leaves g known q e = at (are_bare (resolved S (goal_trees g))) e
      where
        by : (v : Option (Verdict W)) → verdict_in K (key_at S g) ≡ v → tried_by l S p (key_at S g) (numbers_at S g) v ≡ Some q → Leaves S L q
        by (Some Refused) f e = cc
        by (Some (Maybe r w)) f e = same_outcome (Leaves S L) (p ∷ [], S) q e staying
        by None f e = same_outcome (Leaves S L) (p ∷ [], S) q e staying
        by (Some (Yes r w)) f e =
            let n = no_goals (given l S (key_at S g) (numbers_at S g) r) q.0 q.1 e in
            record {
              leads = given_leads l listing S L sound fits new (key_at S g) (numbers_at S g) (key_numbers S L sound g known) (key_low S L sound g known) r (reads (key_at S g) r w f) q.1 n.is;
              goals = subst (λ gs. GoalsAreOf q.1 L gs) n.none (All-nil (λ (p : Pending). GoalIsOf q.1 L p.goal));
            }

        at : (b : Bool) → (if b then tried_by l S p (key_at S g) (numbers_at S g) (verdict_in K (key_at S g)) else stays S p) ≡ Some q → Leaves S L q
        at true e = by (verdict_in K (key_at S g)) refl e
        at false e = same_outcome (Leaves S L) (p ∷ [], S) q e staying

    pub instance_leaves_with : (ts : Forest) → AreTreesOf S L ts → (h : Head) (q : List Pending × State) → tried_as_with K l S p ts h ≡ Some q → Leaves S L q
    instance_leaves_with ts a (H.Part (P.Clause (Cl.Trait i m))) q e = trait_leaves (trait_goal_of p.goal.env i m ts) (joined (is_strange S L) p.goal.env ts of.env.known a.known) q e
    instance_leaves_with ts a h q e = instance_leaves l listing L S sound fits p of ts a h q e

  pub counts_later : (S T : State) → IsLater S T L → CountsNew S L → CountsNew T L
  counts_later S T later new n h = new n (let longer = later.longer in omega (arith, longer, h))

  -- the instance with placeholders is one of the state with their universe
  pub tried_leaves_with : (S : State) → IsSound S L → ValuesFit S L → CountsNew S L → (p : Pending) → GoalIsOf S L p.goal → (q : List Pending × State) → tried_with K l S p ≡ Some q → Leaves S L q
  tried_leaves_with S sound fits new p of q e = at (bound_kinds p.goal.clause.children) e
    where
      at : (ks : List Kind)
          → (let f = group_at S (Bounded ks (after_first p.goal.clause.children)) in tried_as_with K l f.0 (instance_of p ks f.1) f.1 p.goal.clause.head) ≡ Some q → Leaves S L q
      at [] e = instance_leaves_with S sound fits new p of (opens 0 [] 0 (after_first p.goal.clause.children)) (facts_of S L 0 [] p.goal.clause (omega arith) of.clause) p.goal.clause.head q e
      at (k ∷ ks) e =
          let R : State = with_universe S in
          let lead = lead_universe S L sound in
          let there = goal_later S R L lead.later p.goal of in
          let facts = facts_of R L (suc S.newest_universe) (k ∷ ks) p.goal.clause (omega arith) there.clause in
          let ts : Forest = opens (suc S.newest_universe) (k ∷ ks) 0 (after_first p.goal.clause.children) in
          let left = instance_leaves_with R lead.sound (fits_later lead.later fits) new (instance_of p (k ∷ ks) ts) (instance_is_of R L p (k ∷ ks) ts there facts) ts facts p.goal.clause.head q e in
          record { leads = lead_along S R q.1 L sound lead left.leads; goals = left.goals }

  -- Goals in order

  pub all_leave : (S : State) → IsSound S L → ValuesFit S L → CountsNew S L → (ps : List Pending) → GoalsAreOf S L ps → (q : List Pending × State) → all_by (tried_with K l) S ps ≡ Some q → Leaves S L q
  all_leave S sound fits new [] of q e = same_outcome (Leaves S L) ([], S) q e (record { leads = lead_itself S L sound; goals = of })
  all_leave S sound fits new (p ∷ ps) of q e =
      at (tried_with K l S p) refl (λ R sound fits new of r e. all_leave R sound fits new ps of r e) e
    where
      rest : (r : List Pending × State) → Leaves S L r → (o : Outcome) → ((s : List Pending × State) → o ≡ Some s → Leaves r.1 L s) → before r.0 o ≡ Some q → Leaves S L q
      rest r left None f e = cc
      rest r left (Some s) f e =
          let more = f s refl in
          same_outcome (Leaves S L) (r.0 ++ s.0, s.1) q e
          (record { leads = lead_along S r.1 s.1 L sound left.leads more.leads; goals = both_left l listing L r.1 s.1 more.leads.later r.0 s.0 left.goals more.goals })

      at : (o : Outcome) → tried_with K l S p ≡ o
          → ((R : State) → IsSound R L → ValuesFit R L → CountsNew R L → GoalsAreOf R L ps → (r : List Pending × State) → all_by (tried_with K l) R ps ≡ Some r → Leaves R L r)
          → next o (λ r. before r.0 (all_by (tried_with K l) r.1 ps)) ≡ Some q → Leaves S L q
      at None f ih e = cc
      at (Some r) f ih e =
          let left = tried_leaves_with S sound fits new p (All-head (λ (p : Pending). GoalIsOf S L p.goal) p ps of) r f in
          rest r left (all_by (tried_with K l) r.1 ps)
          (λ s g. ih r.1 left.leads.sound (fits_later left.leads.later fits) (counts_later S r.1 left.leads.later new)
          (goals_later S r.1 L left.leads.later ps (All-tail (λ (p : Pending). GoalIsOf S L p.goal) p ps of)) s g) e

  -- Passes

  pub pass_leaves_with : (S T : State) → IsSound S L → ValuesFit S L → CountsNew S L → GoalsAreOf S L S.pending → pass_by (tried_with K l) S ≡ Some T → LeavesPending l listing L S T
  pass_leaves_with S T sound fits new of e = at (all_by (tried_with K l) S S.pending) refl e
    where
      at : (o : Outcome) → all_by (tried_with K l) S S.pending ≡ o → next o (λ q. Some (with_staying q)) ≡ Some T → LeavesPending l listing L S T
      at None f e = cc
      at (Some q) f e =
          let left = all_leave S sound fits new S.pending of q f in
          let lead = lead_pending q.1 L q.0 left.leads.sound in
          subst (LeavesPending l listing L S) (let is : with_staying q ≡ T = cc in is)
          (record { leads = lead_along S q.1 (with_staying q) L sound left.leads lead; goals = goals_later q.1 (with_staying q) L lead.later q.0 left.goals })

  pub passes_leave_with : (n : ℕ) (S T : State) → IsSound S L → ValuesFit S L → CountsNew S L → GoalsAreOf S L S.pending → passes_by (tried_with K l) n S ≡ Some T → LeavesPending l listing L S T
  passes_leave_with zero S T sound fits new of e = subst (LeavesPending l listing L S) (let is : S ≡ T = cc in is) (record { leads = lead_itself S L sound; goals = of })
  passes_leave_with (suc n) S T sound fits new of e = at (pass_by (tried_with K l) S) refl (λ R sound fits new of e. passes_leave_with n R T sound fits new of e) e
    where
      goes : (R : State) → LeavesPending l listing L S R → (b : Bool) → (passes_by (tried_with K l) n R ≡ Some T → LeavesPending l listing L R T) → (if b then passes_by (tried_with K l) n R else Some R) ≡ Some T
          → LeavesPending l listing L S T
      goes R left true f e = let more = f e in record { leads = lead_along S R T L sound left.leads more.leads; goals = more.goals }
      goes R left false f e = subst (LeavesPending l listing L S) (let is : R ≡ T = cc in is) left

      at : (o : Option State) → pass_by (tried_with K l) S ≡ o → ((R : State) → IsSound R L → ValuesFit R L → CountsNew R L → GoalsAreOf R L R.pending → passes_by (tried_with K l) n R ≡ Some T → LeavesPending l listing L R T)
          → next o (λ R. if gave_a_value S.variables R.variables then passes_by (tried_with K l) n R else Some R) ≡ Some T → LeavesPending l listing L S T
      at None f ih e = cc
      at (Some R) f ih e =
          let left = pass_leaves_with S R sound fits new of f in
          goes R left (gave_a_value S.variables R.variables) (λ e. ih R left.leads.sound (fits_later left.leads.later fits) (counts_later S R left.leads.later new) left.goals e) e

-- What counts, with all numbers that the state doesn't have: nothing else is said of the state's variables.

abbrev pub with_new : State → Live → Live
with_new S L n = L n || nat_le (length S.variables) n

pub new_count : (S : State) (L : Live) → CountsNew S (with_new S L)
new_count S L n h = at (L n)
  where
    at : (b : Bool) → b || nat_le (length S.variables) n ≡ true
    at true = refl
    at false = le-leb (length S.variables) n h

module _ (S : State) (L : Live) where
  -- a variable that is there counts as before
  pub counts_as : (n : ℕ) (i : VariableInfo) → info S n ≡ Some i → with_new S L n ≡ true → L n ≡ true
  counts_as n i e c = at (L n) c
    where
      at : (b : Bool) → b || nat_le (length S.variables) n ≡ true → b ≡ true
      at true c = refl
      at false c = let far = leb-true (length S.variables) n c in let near = slice_get_within S.variables n i e in absurd (omega (arith, far, near))

  pub still_counts : (n : ℕ) → L n ≡ true → with_new S L n ≡ true
  still_counts n c = ap (λ b. b || nat_le (length S.variables) n) c

  still_known : (h : Head) → is_strange S L h ≡ false → is_strange S (with_new S L) h ≡ false
  still_known (H.Infer v) e = let i = has_info (L v.number) (Term v.sort) (info S v.number) e in counted (with_new S L v.number) (has_kind (Term v.sort) (info S v.number)) (still_counts v.number i.2) (kind_there (L v.number) (Term v.sort) (info S v.number) e)
  still_known (H.Region (R.Var n)) e = let i = has_info (L n) Region (info S n) e in counted (with_new S L n) (has_kind Region (info S n)) (still_counts n i.2) (kind_there (L n) Region (info S n) e)
  still_known (H.Placeholder p) e = e
  still_known (H.Const (C.Placeholder p)) e = e
  still_known (H.Region (R.Placeholder p)) e = e
  still_known _ e = refl

  pub trees_with_new : (ts : Forest) → AreTreesOf S L ts → AreTreesOf S (with_new S L) ts
  trees_with_new ts a = record { known = holds_imply (is_strange S L) (is_strange S (with_new S L)) still_known ts a.known; is_closed = a.is_closed }

  pub sound_with_new : IsSound S L → IsSound S (with_new S L)
  sound_with_new sound = record {
    allowed = λ s n i t c e v k. sound.allowed s n i t (counts_as n i e c) e v k;
    no_higher = λ n i t c e v. sound.no_higher n i t (counts_as n i e c) e v;
    is_resolved = λ n i t c e v. sound.is_resolved n i t (counts_as n i e c) e v;
    known = λ n i t c e v. holds_imply (is_strange S L) (is_strange S (with_new S L)) still_known (alone t) (sound.known n i t (counts_as n i e c) e v);
    universes = λ n i c e. sound.universes n i (counts_as n i e c) e;
  }

  pub fits_with_new : ValuesFit S L → ValuesFit S (with_new S L)
  fits_with_new fits n c = record {
    kind = λ i t e v. (fits n (counts_as n i e c)).kind i t e v;
    is_closed = λ i t e v. (fits n (counts_as n i e c)).is_closed i t e v;
  }

  pub goals_with_new : (ps : List Pending) → GoalsAreOf S L ps → GoalsAreOf S (with_new S L) ps
  goals_with_new ps a = All-weaker (λ (p : Pending). GoalIsOf S L p.goal) (λ (p : Pending). GoalIsOf S (with_new S L) p.goal)
      (λ p g. record { env = trees_with_new p.goal.env g.env; clause = trees_with_new (alone p.goal.clause) g.clause }) ps a

  pub fewer_later : (T : State) → IsLater S T (with_new S L) → IsLater S T L
  fewer_later T l = record {
    longer = l.longer;
    infos = l.infos;
    no_root = l.no_root;
    universes = l.universes;
    fits = l.fits;
    values = λ ts k. l.values ts (holds_imply (is_strange S L) (is_strange S (with_new S L)) still_known ts k);
    newest = l.newest;
    mode = l.mode;
  }

-- Settling with a table leads to a state that follows; what it leaves pending are goals of that state.

pub record SettlesTo (S T : State) (L : Live) : Type 0 where
  pub follows : Follows S T L
  pub goals : GoalsAreOf T follows.live T.pending

pub settled_follows : {W : Type 0} (K : GoalTable W) → ReadsWell K → (l : Listing) → IsListing l → (S T : State) (L : Live) (c : Certainty) → IsSound S L → ValuesFit S L → GoalsAreOf S L S.pending
    → settled_with K l S ≡ Some (c, T) → SettlesTo S T L
settled_follows K reads l listing S T L c sound fits of e =
    let M : Live = with_new S L in
    let left = passes_leave_with K reads l listing M 8 S T (sound_with_new S L sound) (fits_with_new S L fits) (new_count S L) (goals_with_new S L S.pending of) (passed (passes_by (tried_with K l) 8 S) e) in
    record {
      follows = record {
        live = M;
        within = λ n h c. still_counts S L n c;
        sound = left.leads.sound;
        fits = fits_later left.leads.later (fits_with_new S L fits);
        later = fewer_later S L T left.leads.later;
      };
      goals = left.goals;
    }
  where
    passed : (o : Option State) → next o (λ U. Some (with_certainty U)) ≡ Some (c, T) → o ≡ Some T
    passed None e = cc
    passed (Some R) e = ap (λ (q : Certainty × State). Some q.1) (let is : with_certainty R ≡ (c, T) = cc in is)
