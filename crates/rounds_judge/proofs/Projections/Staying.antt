-- What is granted stays granted at every state that follows.
use Rattle.std.proofs.Common.{◌≡◌, false, inl, refl, sym, ap, subst, ◌∙◌}
use Rattle.ir_trees.specs.declared.ir.heads.ClauseHead.TheVariants as Cl
use Rattle.ir_trees.specs.declared.ir.heads.Head.{Head}
use Rattle.ir_trees.specs.declared.ir.heads.Head.TheVariants as H
use Rattle.ir_trees.specs.declared.ir.heads.PartHead.TheVariants as Part
use Rattle.ir_trees.specs.Hierarchy.Supers.{after_first}
use Rattle.ir_trees.specs.Syntax.Trees.{Forest, Tree, join, holds}
use Rattle.ir_trees.specs.Unification.Substitutions.{Universes, alone}
use Rattle.candidate_eval.specs.Derivations.Characterization.{bound_kinds}
use Rattle.candidate_eval.specs.Derivations.ImplRules.{TraitGoal}
use Rattle.candidate_eval.specs.Judges.Instances.{instance}
use Rattle.candidate_eval.specs.Judges.Soundness.{Follows, GoalIsOf, IsLater, IsSound, Live, ValuesFit, Within, is_strange, universes}
use Rattle.candidate_eval.specs.Judges.States.{Env, Goal, State, resolved, valued, valued_tree}
use Rattle.candidate_eval.proofs.Marks.Holds.{holds_imply}
use Rattle.rounds_judge.specs.Aliases.Congruence.{AreListed, Same, SameBy, along, back}
use Rattle.rounds_judge.specs.Aliases.Listed.{Listing}
use Rattle.rounds_judge.specs.Equations.Standing.{IsListing}
use Rattle.rounds_judge.specs.Obligations.Settling.{alias_of, first_fact, term_of}
use Rattle.rounds_judge.specs.Projections.ProjectionGoals.{ProjectionTables}
use Rattle.rounds_judge.specs.Projections.ProjectionGranted.{AreOne, FactsGrantedModulo, IsGrantedBy}
use Rattle.rounds_judge.specs.Table.GoalTable.{GoalTable}
use Rattle.rounds_judge.specs.Table.Keys.{trait_goal_of}
use Rattle.rounds_judge.specs.Table.TableGranted.{IsGrantedByYes, answered}
use Rattle.rounds_judge.proofs.Aliases.Congruent.{is_stray, resolved_stray, stray_later, strange_stray}
use Rattle.rounds_judge.proofs.Obligations.Granting.{facts_known, fresh_for_later, goal_known, opened_stray, resolved_further}
use Rattle.rounds_judge.proofs.Obligations.Opening.{opens}
use Rattle.rounds_judge.proofs.Projections.Carrying.{alias_put, first_put, onward, onward_known, one_onward, term_put, yes_onward}
use Rattle.rounds_judge.proofs.States.Marks.{holds_to}
use Rattle.rounds_judge.proofs.Projections.Equality.{Carries, aliases_equal, carried, firsts_equal, moved, terms_equal, wider}

-- a Yes of a goal is one of it with arguments that are equal
pub arguments_moved : {W : Type 0} (K : GoalTable W) (l : Listing) (u : Universes) (g h : TraitGoal) → g.env ≡ h.env → g.reference.trait ≡ h.reference.trait → g.polarity ≡ h.polarity
    → Same l g.reference.arguments h.reference.arguments → IsGrantedByYes K l u g → IsGrantedByYes K l u h
arguments_moved K l u g h e t p s a = record {
  entry = a.entry;
  entered = a.entered;
  response = a.response;
  way = a.way;
  is_yes = a.is_yes;
  values = a.values;
  allowed = a.allowed;
  same_trait = a.same_trait ∙ t;
  same_polarity = a.same_polarity ∙ p;
  env = subst (Same l (answered a.response a.values a.entry.key.goal.env)) e a.env;
  arguments = along a.arguments s;
}

module _ {W : Type 0} (K : GoalTable W) (l : Listing) (listing : IsListing l) (S T : State) (L M : Live) (sound : IsSound S L) (fits : ValuesFit S L) (sound_there : IsSound T M) (fits_there : ValuesFit T M)
    (within : Within S L M) (later : IsLater S T L) where
  stray_there : (ts : Forest) → holds (is_stray S L) ts ≡ false → holds (is_stray T M) ts ≡ false
  stray_there ts k = holds_to (is_stray S L) (is_stray S L) (is_stray T M) (λ h e f. stray_later S T L M within later h e) ts k k

  pub known_onward : (ts : Forest) → holds (is_stray S L) ts ≡ false → Same l (valued (instance (onward l listing S T L M sound_there fits_there within later)) ts) (resolved T ts)
  known_onward ts k = onward_known l listing S T L M sound_there fits_there within later ts k (stray_there ts k)

  -- Facts, where the sides of pairs come to be one.
  module _ (P R : Tree → Tree → Type 0) (carries : Carries P R (onward l listing S T L M sound_there fits_there within later)) (wide : (t u : Tree) → AreListed l t u → R t u) where
    onto : (ts : Forest) → holds (is_stray S L) ts ≡ false → SameBy R (valued (instance (onward l listing S T L M sound_there fits_there within later)) ts) (resolved T ts)
    onto ts k = wider (AreListed l) R wide (known_onward ts k)

    equal_onward : (t u : Tree) → SameBy P (alone t) (alone u)
        → SameBy R (alone (valued_tree (instance (onward l listing S T L M sound_there fits_there within later)) t)) (alone (valued_tree (instance (onward l listing S T L M sound_there fits_there within later)) u))
    equal_onward t u e = carried P R (onward l listing S T L M sound_there fits_there within later) carries (alone t) (alone u) e

    relation_stays : (ts : Forest) → holds (is_stray S L) ts ≡ false → SameBy P (alone (first_fact ts)) (alone (term_of ts)) → SameBy R (alone (first_fact (resolved T ts))) (alone (term_of (resolved T ts)))
    relation_stays ts k e =
        let o = onward l listing S T L M sound_there fits_there within later in
        along (back (firsts_equal R (onto ts k)))
        (along (moved R _ _ _ _ (ap alone (sym (first_put o ts))) (ap alone (sym (term_put o ts))) (equal_onward (first_fact ts) (term_of ts) e))
        (terms_equal R (valued (instance o) ts) (resolved T ts) (onto ts k)))

    pub facts_stay : (h : Head) (e : Env) (ts : Forest) → holds (is_stray S L) e ≡ false → holds (is_stray S L) ts ≡ false → FactsGrantedModulo P K l (universes S) e h ts
        → FactsGrantedModulo R K l (universes T) (resolved T e) h (resolved T ts)
    facts_stay (H.Part (Part.Clause (Cl.Trait i p))) e ts k m a =
        arguments_moved K l (universes T) _ (trait_goal_of (resolved T e) i p (resolved T ts)) refl refl refl (known_onward ts m)
        (yes_onward l listing S T L M sound_there fits_there within later K (trait_goal_of e i p ts) (resolved T e) (known_onward e k) a)
    facts_stay (H.Part (Part.Clause (Cl.Projection i))) e ts k m a =
        let o = onward l listing S T L M sound_there fits_there within later in
        along (back (aliases_equal R i (valued (instance o) ts) (resolved T ts) (onto ts m)))
        (along (moved R _ _ _ _ (ap alone (sym (alias_put o i ts))) (ap alone (sym (term_put o ts))) (equal_onward (alias_of i ts) (term_of ts) a))
        (terms_equal R (valued (instance o) ts) (resolved T ts) (onto ts m)))
    facts_stay (H.Part (Part.Clause Cl.AliasRelate)) e ts k m a = relation_stays ts m a
    facts_stay (H.Part (Part.Clause Cl.ConstEquate)) e ts k m a = relation_stays ts m a
    facts_stay (H.Part (Part.Clause Cl.TypeOutlives)) e ts k m a = tt
    facts_stay (H.Part (Part.Clause Cl.RegionOutlives)) e ts k m a = tt
    facts_stay _ e ts k m a = absurd a

  -- the environment of a goal, onward
  pub env_onward : (g : Goal) → GoalIsOf S L g → Same l (valued (instance (onward l listing S T L M sound_there fits_there within later)) (resolved S g.env)) (resolved T g.env)
  env_onward g of =
      subst (λ x. Same l (valued (instance (onward l listing S T L M sound_there fits_there within later)) (resolved S g.env)) x) (later.values g.env of.env.known)
      (known_onward (resolved S g.env) (resolved_stray S L sound g.env (holds_imply (is_strange S L) (is_stray S L) (strange_stray S L) g.env of.env.known)))

  -- Facts of a goal at the first state, with placeholders of that universe for what its binder binds, are facts of it at the other.
  pub goal_onward : (P R : Tree → Tree → Type 0) → Carries P R (onward l listing S T L M sound_there fits_there within later) → ((t u : Tree) → AreListed l t u → R t u)
      → (g : Goal) → GoalIsOf S L g → (n : _) → FactsGrantedModulo P K l (universes S) (resolved S g.env) g.clause.head (resolved S (opens n (bound_kinds g.clause.children) 0 (after_first g.clause.children)))
      → FactsGrantedModulo R K l (universes T) (resolved T g.env) g.clause.head (resolved T (opens n (bound_kinds g.clause.children) 0 (after_first g.clause.children)))
  goal_onward P R carries wide g of n a =
      let ks = bound_kinds g.clause.children in
      let fs : Forest = after_first g.clause.children in
      let known = facts_known S L g of in
      let env : holds (is_stray S L) (resolved S g.env) ≡ false = resolved_stray S L sound g.env (holds_imply (is_strange S L) (is_stray S L) (strange_stray S L) g.env of.env.known) in
      let facts : holds (is_stray S L) (resolved S (opens n ks 0 fs)) ≡ false = resolved_stray S L sound (opens n ks 0 fs) (opened_stray S L n ks fs known) in
      subst (λ e. FactsGrantedModulo R K l (universes T) e g.clause.head (resolved T (opens n ks 0 fs))) (later.values g.env of.env.known)
      (subst (FactsGrantedModulo R K l (universes T) (resolved T (resolved S g.env)) g.clause.head) (resolved_further S T L M sound fits fits_there within later n ks fs known)
      (facts_stay P R carries wide g.clause.head (resolved S g.env) (resolved S (opens n ks 0 fs)) env facts a))

  module _ (Q : ProjectionTables W) where
    still_granted : (g : Goal) → GoalIsOf S L g → IsGrantedBy Q K l S g → IsGrantedBy Q K l T g
    still_granted g of a =
        let ks = bound_kinds g.clause.children in
        let fs : Forest = after_first g.clause.children in
        record {
          universe = a.universe;
          is_fresh = fresh_for_later S T L later ks a.universe (join g.env fs) (goal_known S L g of) a.is_fresh;
          facts = goal_onward (AreOne Q l (universes S) (resolved S g.env)) (AreOne Q l (universes T) (resolved T g.env))
              (one_onward l listing S T L M sound_there fits_there within later Q (resolved S g.env) (resolved T g.env) (env_onward g of)) (λ t u c. inl c) g of a.universe a.facts;
        }

pub granted_stays_by : {W : Type 0} (Q : ProjectionTables W) (K : GoalTable W) (l : Listing) → IsListing l → (S T : State) (L : Live) (g : Goal) → IsSound S L → ValuesFit S L → GoalIsOf S L g → (f : Follows S T L)
    → IsGrantedBy Q K l S g → IsGrantedBy Q K l T g
granted_stays_by Q K l listing S T L g sound fits of f a = still_granted K l listing S T L f.live sound fits f.sound f.fits f.within f.later Q g of a
