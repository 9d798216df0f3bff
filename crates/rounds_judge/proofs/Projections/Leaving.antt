-- Settling with the tables leads to a state that follows, and what it leaves pending are goals of that state.
use Rattle.std.proofs.Common.{◌≡◌, ℕ, zero, suc, Bool, true, false, ◌||◌, nat_le, List, [], ◌∷◌, ◌++◌, length, Option, Some, None, arith, refl, sym, ap, subst, ◌∙◌, if◌then◌else◌}
use Rattle.std.proofs.lemmas.Bool.{leb-true}
use Rattle.std.proofs.lemmas.List.Elements.{All-cons, All-head, All-nil, All-tail}
use Rattle.ir_trees.specs.declared.ir.heads.ClauseHead.TheVariants as Cl
use Rattle.ir_trees.specs.declared.ir.heads.Head.{Head}
use Rattle.ir_trees.specs.declared.ir.heads.Head.TheVariants as H
use Rattle.ir_trees.specs.declared.ir.heads.PartHead.TheVariants as Part
use Rattle.ir_trees.specs.declared.ir.heads.VariableSort.TheVariants.{General}
use Rattle.ir_trees.specs.declared.ir.kinds.AliasKind.TheVariants as A
use Rattle.ir_trees.specs.declared.ir.kinds.AssocId.{AssocId}
use Rattle.ir_trees.specs.Hierarchy.Supers.{after_first}
use Rattle.ir_trees.specs.Syntax.Trees.{Forest, Kind, none, tree, Tree, holds, join}
use Rattle.ir_trees.specs.Unification.Substitutions.{alone}
use Rattle.candidate_eval.specs.declared.eval.variable.VariableKind.TheVariants.{Term}
use Rattle.candidate_eval.specs.Derivations.Characterization.{Bounded, bound_kinds, group_at}
use Rattle.candidate_eval.specs.Derivations.ImplRules.{TraitGoal}
use Rattle.candidate_eval.specs.Judges.Soundness.{AreTreesOf, GoalIsOf, GoalsAreOf, IsLater, IsSound, Live, ValuesFit, is_strange}
use Rattle.candidate_eval.specs.Judges.States.{Env, Pending, State, next, resolved_tree, with_universe}
use Rattle.rounds_judge.specs.Aliases.Listed.{Listing, listed}
use Rattle.rounds_judge.specs.Equations.Equating.{equated, without_goals}
use Rattle.rounds_judge.specs.Equations.Opening.{are_open, equation}
use Rattle.rounds_judge.specs.Equations.Standing.{IsListing}
use Rattle.rounds_judge.specs.Obligations.Settling.{Outcome, alias_of, arguments_of, before, first_fact, gave_a_value, has_unlisted, instance_of, projected, stays, term_of, with_staying, without_last}
use Rattle.rounds_judge.specs.Projections.ProjectionGoals.{ProjectionTables, new_term, term_asked, term_variable, with_term}
use Rattle.rounds_judge.specs.Projections.ProjectionSettling.{alias_asked, asked_term, projected_with, related_with, tried_as_by, tried_by_tables, tried_term, with_value}
use Rattle.rounds_judge.specs.Table.GoalTable.{GoalTable}
use Rattle.rounds_judge.specs.Table.Keys.{goal_trees, trait_goal_of}
use Rattle.rounds_judge.specs.Table.TableSettling.{all_by, pass_by, passes_by, tried_trait}
use Rattle.rounds_judge.proofs.Equations.Looks.{SoundLater}
use Rattle.rounds_judge.proofs.Lawfulness.OpenEquations as openly
use Rattle.rounds_judge.proofs.Lawfulness.OpenEquations.{asks_openly, equation_if}
use Rattle.rounds_judge.proofs.Obligations.Opening.{opens}
use Rattle.rounds_judge.proofs.Obligations.Settling.{Leaves, LeavesPending, both_left, facts_of, first_is_of, goal_later, goals_later, instance_is_of, instance_leaves, lead_along, lead_equated, lead_itself, lead_pending, lead_universe, same_outcome, term_is_of}
use Rattle.rounds_judge.proofs.States.Later.{fits_later, trees_later}
use Rattle.rounds_judge.proofs.States.Marks.{escape_parts, escape_whole, whole}
use Rattle.candidate_eval.proofs.Marks.Holds.{holds_parts}
use Rattle.rounds_judge.proofs.Table.TableFresh.{CountsNew, IsNumberOf, lead_open, new_info, new_there}
use Rattle.rounds_judge.proofs.Table.TableGiving.{number_known}
use Rattle.rounds_judge.proofs.Table.TableSettled.{ReadsWell, joined, trait_leaves, with_new}
use Rattle.rounds_judge.proofs.Unifiers.EquatingLaws.{no_goals}

-- What counts new variables counts them still.
pub counts_still : (S T : State) (L : Live) → IsLater S T L → CountsNew S L → CountsNew T L
counts_still S T L later new n h = new n (let longer = later.longer in omega (arith, longer, h))

-- Where all new variables count, counting them adds none.
pub counts_all : (S : State) (L : Live) → CountsNew S L → with_new S L ≡ L
counts_all S L new = λ i n. at n (L n) refl (nat_le (length S.variables) n) refl i
  where
    at : (n : ℕ) (b : Bool) → L n ≡ b → (c : Bool) → nat_le (length S.variables) n ≡ c → (L n || nat_le (length S.variables) n) ≡ L n
    at n true e c f = ap (λ x. x || nat_le (length S.variables) n) e ∙ sym e
    at n false e true f = absurd (let clash : true ≡ false = sym (new n (leb-true (length S.variables) n f)) ∙ e in cc)
    at n false e false f = ap (λ x. x || nat_le (length S.variables) n) e ∙ (f ∙ sym e)

-- the arguments and the term of a projection are trees of the state

last_of_rows : (S : State) (L : Live) (t : Tree) (ts : Forest) → AreTreesOf S L (alone t) → AreTreesOf S L ts → AreTreesOf S L (without_last t ts)
last_of_rows S L t none a b = record { known = refl; is_closed = refl }
last_of_rows S L t (tree h below rest) a b =
    let k = holds_parts (is_strange S L) h below rest b.known in
    let c = escape_parts 0 h below rest b.is_closed in
    let x = holds_parts (is_strange S L) t.head t.children none a.known in
    let y = escape_parts 0 t.head t.children none a.is_closed in
    let more = last_of_rows S L (record { head = h; children = below }) rest (record { known = whole (is_strange S L) h below none k.here k.under refl; is_closed = escape_whole 0 h below none c.here c.under refl })
    (record { known = k.others; is_closed = c.others }) in
    let rows : Forest = without_last (record { head = h; children = below }) rest in
    record { known = whole (is_strange S L) t.head t.children rows x.here x.under more.known; is_closed = escape_whole 0 t.head t.children rows y.here y.under more.is_closed }

pub arguments_are_of : (S : State) (L : Live) (ts : Forest) → AreTreesOf S L ts → AreTreesOf S L (arguments_of ts)
arguments_are_of S L none a = record { known = refl; is_closed = refl }
arguments_are_of S L (tree h below rest) b =
    let k = holds_parts (is_strange S L) h below rest b.known in
    let c = escape_parts 0 h below rest b.is_closed in
    last_of_rows S L (record { head = h; children = below }) rest (record { known = whole (is_strange S L) h below none k.here k.under refl; is_closed = escape_whole 0 h below none c.here c.under refl })
    (record { known = k.others; is_closed = c.others })

-- what stands below a tree that is no binder
pub children_are_of : (S : State) (L : Live) (i : _) (args : Forest) → AreTreesOf S L (tree (H.Alias A.Projection i) args none) → AreTreesOf S L args
children_are_of S L i args a =
    record { known = (holds_parts (is_strange S L) (H.Alias A.Projection i) args none a.known).under; is_closed = (escape_parts 0 (H.Alias A.Projection i) args none a.is_closed).under }

module _ (l : Listing) (listing : IsListing l) (L : Live) where
  -- an equation leaves goals of the state to which it leads
  pub equation_leaves : (S : State) → IsSound S L → ValuesFit S L → CountsNew S L → (e a b : Forest) → AreTreesOf S L e → AreTreesOf S L a → AreTreesOf S L b → (q : List Pending × State) → equation l S e a b ≡ Some q → Leaves S L q
  equation_leaves S sound fits new e a b env left right q h = at (asks_openly l S a b) h
    where
      at : (o : Bool) → equation_if o l S e a b ≡ Some q → Leaves S L q
      at true h =
          let one = openly.whole_lead l listing S q.1 L e a b q.0 sound fits env left right h in
          let is = openly.is l listing S q.1 L e a b q.0 sound fits env left right h in
          let goals = openly.goals l listing S q.1 L e a b q.0 sound fits env left right h in
          record {
            leads = subst (λ M. SoundLater S M q.1) (counts_all S L new) one;
            goals = subst (λ M. GoalsAreOf q.1 M q.0) (counts_all S L new) (subst (GoalsAreOf q.1 (with_new S L)) is.left goals);
          }
      at false h =
          let n = no_goals (equated l S a b) q.0 q.1 h in
          record { leads = lead_equated l listing S q.1 L a b sound fits left right n.is; goals = subst (λ gs. GoalsAreOf q.1 L gs) n.none (All-nil (λ (p : Pending). GoalIsOf q.1 L p.goal)) }

-- The new variable

module _ (S : State) (L : Live) (sound : IsSound S L) (new : CountsNew S L) (e : Env) (i : AssocId) (args : Forest) where
  pub lead_term : SoundLater S L (with_term S e i args)
  lead_term = lead_open S (term_variable S e i args) L sound

  pub term_known : AreTreesOf (with_term S e i args) L (alone (new_term S))
  term_known =
      let c = term_variable S e i args in
      let here : IsNumberOf (with_term S e i args) L (Term General) (length S.variables) = record { entry = new_info S c; there = new_there (new_info S c) S.variables; kind = refl; live = new (length S.variables) (omega arith) } in
      record { known = whole (is_strange (with_term S e i args) L) (new_term S).head none none (number_known (with_term S e i args) L (Term General) (length S.variables) here) refl refl; is_closed = refl }

  pub asked_known : AreTreesOf S L e → AreTreesOf S L args → holds (is_strange (with_term S e i args) L) (goal_trees (term_asked S e i args)) ≡ false
  asked_known env a =
      let R : State = with_term S e i args in
      let later = lead_term.later in
      joined (is_strange R L) e (join args (alone (new_term S))) (trees_later S R L L (λ n l c. c) later e env).known
      (joined (is_strange R L) args (alone (new_term S)) (trees_later S R L L (λ n l c. c) later args a).known term_known.known)

-- One goal

module _ {W : Type 0} (Q : ProjectionTables W) (reads_terms : (i : AssocId) → ReadsWell (Q i)) (K : GoalTable W) (reads : ReadsWell K) (l : Listing) (listing : IsListing l) (L : Live) where
  module _ (S : State) (sound : IsSound S L) (fits : ValuesFit S L) (new : CountsNew S L) (p : Pending) (of : GoalIsOf S L p.goal) where
    staying : (q : List Pending × State) → stays S p ≡ Some q → Leaves S L q
    staying q e = same_outcome (Leaves S L) (p ∷ [], S) q e
        (record { leads = lead_itself S L sound; goals = All-cons (λ (p : Pending). GoalIsOf S L p.goal) p [] of (All-nil (λ (p : Pending). GoalIsOf S L p.goal)) })

    term_leaves : (i : AssocId) (args : Forest) (t : Tree) → AreTreesOf S L args → AreTreesOf S L (alone t) → (q : List Pending × State) → tried_term (Q i) l S p i args t ≡ Some q → Leaves S L q
    term_leaves i args t a b q h = at (tried_trait (Q i) l R p g) refl h
      where
        e : Env
        e = p.goal.env

        R : State
        R = with_term S e i args

        g : TraitGoal
        g = term_asked S e i args

        first : SoundLater S L R
        first = lead_term S L sound new e i args

        fits_there : ValuesFit R L
        fits_there = fits_later first.later fits

        new_there_too : CountsNew R L
        new_there_too = counts_still S R L first.later new

        of_there : GoalIsOf R L p.goal
        of_there = goal_later S R L first.later p.goal of

        by : (qs : List Pending) (T : State) → Leaves R L (qs, T) → with_value l S p t T qs ≡ Some q → Leaves S L q
        by [] T left h =
            let to_T = lead_along S R T L sound first left.leads in
            let tree_there : (ts : Forest) → AreTreesOf S L ts → AreTreesOf T L ts = λ ts k. trees_later S T L L (λ n l c. c) to_T.later ts k in
            let last = equation_leaves l listing L T left.leads.sound (fits_later left.leads.later fits_there) (counts_still R T L left.leads.later new_there_too) e (alone (new_term S)) (alone t)
            (tree_there e of.env) (trees_later R T L L (λ n l c. c) left.leads.later (alone (new_term S)) (term_known S L sound new e i args)) (tree_there (alone t) b) q h in
            record { leads = lead_along S T q.1 L sound to_T last.leads; goals = last.goals }
        by (x ∷ xs) T left h = staying q h

        at : (o : Outcome) → tried_trait (Q i) l R p g ≡ o → next o (λ q. with_value l S p t q.1 q.0) ≡ Some q → Leaves S L q
        at None f h = cc
        at (Some r) f h = by r.0 r.1 (trait_leaves (Q i) (reads_terms i) l listing L R first.sound fits_there new_there_too p of_there g (asked_known S L sound new e i args of.env a) r f) h

    asking_leaves : (i : AssocId) (args : Forest) (t : Tree) → AreTreesOf S L args → AreTreesOf S L (alone t) → (q : List Pending × State) → asked_term (Q i) l S p i args t ≡ Some q → Leaves S L q
    asking_leaves i args t a b q h = at (are_open l S) h
      where
        at : (o : Bool) → (if o then tried_term (Q i) l S p i args t else stays S p) ≡ Some q → Leaves S L q
        at true h = term_leaves i args t a b q h
        at false h = staying q h

    projecting : (i : AssocId) (ts : Forest) → AreTreesOf S L ts → (o : Option Tree) → listed l (resolved_tree S (alias_of i ts)) ≡ o → (q : List Pending × State) → projected_with Q l S p i ts o ≡ Some q → Leaves S L q
    projecting i ts a None f q h = asking_leaves i (arguments_of ts) (term_of ts) (arguments_are_of S L ts a) (term_is_of S L ts a) q h
    projecting i ts a (Some u) f q h =
        instance_leaves l listing L S sound fits p of ts a (H.Part (Part.Clause (Cl.Projection i))) q (ap (λ o. projected l S p (term_of ts) o) f ∙ h)

    alias_leaves : (t u : Tree) → AreTreesOf S L (alone t) → AreTreesOf S L (alone u) → (q : List Pending × State) → alias_asked Q l S p t.head t.children u ≡ Some q → Leaves S L q
    alias_leaves t u a b q h = at t.head t.children a h
      where
        at : (x : Head) (below : Forest) → AreTreesOf S L (tree x below none) → alias_asked Q l S p x below u ≡ Some q → Leaves S L q
        at (H.Alias A.Projection i) args a h = asking_leaves (record { 0 = i.0 }) args u (children_are_of S L i args a) b q h
        at _ below a h = staying q h

    relating : (t u : Tree) → AreTreesOf S L (alone t) → AreTreesOf S L (alone u) → (q : List Pending × State) → related_with Q l S p t u ≡ Some q → Leaves S L q
    relating t u a b q h = at (has_unlisted l S (alone t) || has_unlisted l S (alone u)) h
      where
        at : (o : Bool) → (if o then alias_asked Q l S p t.head t.children u else without_goals (equated l S (alone t) (alone u))) ≡ Some q → Leaves S L q
        at true h = alias_leaves t u a b q h
        at false h =
            let n = no_goals (equated l S (alone t) (alone u)) q.0 q.1 h in
            record { leads = lead_equated l listing S q.1 L (alone t) (alone u) sound fits a b n.is; goals = subst (λ gs. GoalsAreOf q.1 L gs) n.none (All-nil (λ (p : Pending). GoalIsOf q.1 L p.goal)) }

    pub instance_leaves_by : (ts : Forest) → AreTreesOf S L ts → (h : Head) (q : List Pending × State) → tried_as_by Q K l S p ts h ≡ Some q → Leaves S L q
    instance_leaves_by ts a (H.Part (Part.Clause (Cl.Trait i m))) q e = trait_leaves K reads l listing L S sound fits new p of (trait_goal_of p.goal.env i m ts) (joined (is_strange S L) p.goal.env ts of.env.known a.known) q e
    instance_leaves_by ts a (H.Part (Part.Clause (Cl.Projection i))) q e = projecting i ts a (listed l (resolved_tree S (alias_of i ts))) refl q e
    instance_leaves_by ts a (H.Part (Part.Clause Cl.AliasRelate)) q e = relating (first_fact ts) (term_of ts) (first_is_of S L ts a) (term_is_of S L ts a) q e
    instance_leaves_by ts a h q e = instance_leaves l listing L S sound fits p of ts a h q e

  -- the instance with placeholders is one of the state with their universe
  pub tried_leaves_by : (S : State) → IsSound S L → ValuesFit S L → CountsNew S L → (p : Pending) → GoalIsOf S L p.goal → (q : List Pending × State) → tried_by_tables Q K l S p ≡ Some q → Leaves S L q
  tried_leaves_by S sound fits new p of q e = at (bound_kinds p.goal.clause.children) e
    where
      at : (ks : List Kind)
          → (let f = group_at S (Bounded ks (after_first p.goal.clause.children)) in tried_as_by Q K l f.0 (instance_of p ks f.1) f.1 p.goal.clause.head) ≡ Some q → Leaves S L q
      at [] e = instance_leaves_by S sound fits new p of (opens 0 [] 0 (after_first p.goal.clause.children)) (facts_of S L 0 [] p.goal.clause (omega arith) of.clause) p.goal.clause.head q e
      at (k ∷ ks) e =
          let R : State = with_universe S in
          let lead = lead_universe S L sound in
          let there = goal_later S R L lead.later p.goal of in
          let facts = facts_of R L (suc S.newest_universe) (k ∷ ks) p.goal.clause (omega arith) there.clause in
          let ts : Forest = opens (suc S.newest_universe) (k ∷ ks) 0 (after_first p.goal.clause.children) in
          let left = instance_leaves_by R lead.sound (fits_later lead.later fits) new (instance_of p (k ∷ ks) ts) (instance_is_of R L p (k ∷ ks) ts there facts) ts facts p.goal.clause.head q e in
          record { leads = lead_along S R q.1 L sound lead left.leads; goals = left.goals }

  -- Goals in order

  pub all_leave_by : (S : State) → IsSound S L → ValuesFit S L → CountsNew S L → (ps : List Pending) → GoalsAreOf S L ps → (q : List Pending × State) → all_by (tried_by_tables Q K l) S ps ≡ Some q → Leaves S L q
  all_leave_by S sound fits new [] of q e = same_outcome (Leaves S L) ([], S) q e (record { leads = lead_itself S L sound; goals = of })
  all_leave_by S sound fits new (p ∷ ps) of q e =
      at (tried_by_tables Q K l S p) refl (λ R sound fits new of r e. all_leave_by R sound fits new ps of r e) e
    where
      rest : (r : List Pending × State) → Leaves S L r → (o : Outcome) → ((s : List Pending × State) → o ≡ Some s → Leaves r.1 L s) → before r.0 o ≡ Some q → Leaves S L q
      rest r left None f e = cc
      rest r left (Some s) f e =
          let more = f s refl in
          same_outcome (Leaves S L) (r.0 ++ s.0, s.1) q e
          (record { leads = lead_along S r.1 s.1 L sound left.leads more.leads; goals = both_left l listing L r.1 s.1 more.leads.later r.0 s.0 left.goals more.goals })

      at : (o : Outcome) → tried_by_tables Q K l S p ≡ o
          → ((R : State) → IsSound R L → ValuesFit R L → CountsNew R L → GoalsAreOf R L ps → (r : List Pending × State) → all_by (tried_by_tables Q K l) R ps ≡ Some r → Leaves R L r)
          → next o (λ r. before r.0 (all_by (tried_by_tables Q K l) r.1 ps)) ≡ Some q → Leaves S L q
      at None f ih e = cc
      at (Some r) f ih e =
          let left = tried_leaves_by S sound fits new p (All-head (λ (p : Pending). GoalIsOf S L p.goal) p ps of) r f in
          rest r left (all_by (tried_by_tables Q K l) r.1 ps)
          (λ s g. ih r.1 left.leads.sound (fits_later left.leads.later fits) (counts_still S r.1 L left.leads.later new)
          (goals_later S r.1 L left.leads.later ps (All-tail (λ (p : Pending). GoalIsOf S L p.goal) p ps of)) s g) e

  -- Passes

  pub pass_leaves_by : (S T : State) → IsSound S L → ValuesFit S L → CountsNew S L → GoalsAreOf S L S.pending → pass_by (tried_by_tables Q K l) S ≡ Some T → LeavesPending l listing L S T
  pass_leaves_by S T sound fits new of e = at (all_by (tried_by_tables Q K l) S S.pending) refl e
    where
      at : (o : Outcome) → all_by (tried_by_tables Q K l) S S.pending ≡ o → next o (λ q. Some (with_staying q)) ≡ Some T → LeavesPending l listing L S T
      at None f e = cc
      at (Some q) f e =
          let left = all_leave_by S sound fits new S.pending of q f in
          let lead = lead_pending q.1 L q.0 left.leads.sound in
          subst (LeavesPending l listing L S) (let is : with_staying q ≡ T = cc in is)
          (record { leads = lead_along S q.1 (with_staying q) L sound left.leads lead; goals = goals_later q.1 (with_staying q) L lead.later q.0 left.goals })

  pub passes_leave_by : (n : ℕ) (S T : State) → IsSound S L → ValuesFit S L → CountsNew S L → GoalsAreOf S L S.pending → passes_by (tried_by_tables Q K l) n S ≡ Some T → LeavesPending l listing L S T
  passes_leave_by zero S T sound fits new of e = subst (LeavesPending l listing L S) (let is : S ≡ T = cc in is) (record { leads = lead_itself S L sound; goals = of })
  passes_leave_by (suc n) S T sound fits new of e = at (pass_by (tried_by_tables Q K l) S) refl (λ R sound fits new of e. passes_leave_by n R T sound fits new of e) e
    where
      goes : (R : State) → LeavesPending l listing L S R → (b : Bool) → (passes_by (tried_by_tables Q K l) n R ≡ Some T → LeavesPending l listing L R T) → (if b then passes_by (tried_by_tables Q K l) n R else Some R) ≡ Some T
          → LeavesPending l listing L S T
      goes R left true f e = let more = f e in record { leads = lead_along S R T L sound left.leads more.leads; goals = more.goals }
      goes R left false f e = subst (LeavesPending l listing L S) (let is : R ≡ T = cc in is) left

      at : (o : Option State) → pass_by (tried_by_tables Q K l) S ≡ o → ((R : State) → IsSound R L → ValuesFit R L → CountsNew R L → GoalsAreOf R L R.pending → passes_by (tried_by_tables Q K l) n R ≡ Some T → LeavesPending l listing L R T)
          → next o (λ R. if gave_a_value S.variables R.variables then passes_by (tried_by_tables Q K l) n R else Some R) ≡ Some T → LeavesPending l listing L S T
      at None f ih e = cc
      at (Some R) f ih e =
          let left = pass_leaves_by S R sound fits new of f in
          goes R left (gave_a_value S.variables R.variables) (λ e. ih R left.leads.sound (fits_later left.leads.later fits) (counts_still S R L left.leads.later new) left.goals e) e
