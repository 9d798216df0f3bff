-- A goal that is of no trait brings no parameter in when it is tried.
use Rattle.std.proofs.Common.{◌≡◌, ℕ, Bool, true, false, ◌&&◌, ◌||◌, List, [], ◌∷◌, Option, Some, None, refl, subst}
use Rattle.std.proofs.lemmas.List.Elements.{All-append, All-cons, All-nil}
use Rattle.ir_trees.specs.declared.ir.heads.Head.{Head}
use Rattle.ir_trees.specs.declared.ir.heads.Head.TheVariants as H
use Rattle.ir_trees.specs.declared.ir.heads.ConstHead.TheVariants as C
use Rattle.ir_trees.specs.declared.ir.heads.PartHead.TheVariants as P
use Rattle.ir_trees.specs.declared.ir.heads.ClauseHead.TheVariants as Cl
use Rattle.ir_trees.specs.declared.ir.kinds.AssocId.{AssocId}
use Rattle.ir_trees.specs.declared.ir.kinds.RegionKind.TheVariants as R
use Rattle.ir_trees.specs.Syntax.Trees.{Kind, ConstantKind, RegionKind, Forest, none, tree, Tree, holds, is_param}
use Rattle.ir_trees.specs.Unification.Substitutions.{alone}
use Rattle.ir_trees.specs.Hierarchy.Supers.{after_first}
use Rattle.candidate_eval.specs.Judges.States.{State, Pending, resolved_tree, placeholder}
use Rattle.candidate_eval.specs.Derivations.Characterization.{is_any_bound}
use Rattle.candidate_eval.specs.Judges.Soundness.{Live, IsSound, ValuesFit, AreTreesOf}
use Rattle.candidate_eval.specs.Judges.Lawful.{GoalHasNoParameter, GoalsHaveNoParameter, HasNoParameter, RegionsHaveNoParameter}
use Rattle.candidate_eval.proofs.Marks.Holds.{holds_parts}
use Rattle.rounds_judge.specs.Aliases.Listed.{Listing, listed}
use Rattle.rounds_judge.specs.Equations.Standing.{IsListing}
use Rattle.rounds_judge.specs.Equations.Equating.{equated, without_goals}
use Rattle.rounds_judge.specs.Equations.Opening.{are_open}
use Rattle.rounds_judge.specs.Obligations.Settling.{first_fact, has_unlisted, related, term_of, alias_of, last_or, with_facts, instance_of, recorded, projected, tried_as}
use Rattle.rounds_judge.proofs.States.Marks.{whole}
use Rattle.rounds_judge.proofs.Equations.Current.{listed_fixed, listed_known}
use Rattle.rounds_judge.proofs.Unifiers.EquatingLaws.{no_goals}
use Rattle.rounds_judge.proofs.Obligations.Opening.{each_error, opened_marked, opens}
use Rattle.rounds_judge.proofs.Obligations.Settling.{after_first_marked, first_is_of, same_outcome, stays_or, term_is_of}
use Rattle.rounds_judge.proofs.Parameters.Parameterless.{equated-free}

-- No parameter stands in values and goals; nor in recorded regions, where none did before.
pub record StaysFree (before : Type 0) (L : Live) (q : List Pending × State) : Type 0 where
  pub values : HasNoParameter q.1 L
  pub goals : GoalsHaveNoParameter q.0
  pub regions : before → RegionsHaveNoParameter q.1

bound_free : (h : Head) → is_any_bound h ≡ true → is_param h ≡ false
bound_free (H.Bound v) e = refl
bound_free (H.Const (C.Bound v)) e = refl
bound_free (H.Region (R.Bound v)) e = refl
bound_free _ e = cc

placeholder_free : (u : ℕ) (k : Kind) (i : ℕ) → is_param (placeholder k u i) ≡ false
placeholder_free u ConstantKind i = refl
placeholder_free u RegionKind i = refl
placeholder_free u _ i = refl

pub facts_free : (u : ℕ) (ks : List Kind) (c : Tree) → holds is_param (alone c) ≡ false → holds is_param (opens u ks 0 (after_first c.children)) ≡ false
facts_free u ks c n =
    opened_marked u ks is_param is_param (λ h e. e) bound_free (placeholder_free u) (each_error (λ h. is_param h ≡ false) refl refl refl) 0 (after_first c.children)
    (after_first_marked is_param c.children (holds_parts is_param c.head c.children none n).under)

with_facts_free : (c : Tree) (ts : Forest) → holds is_param (alone c) ≡ false → holds is_param ts ≡ false → holds is_param (alone (with_facts c ts)) ≡ false
with_facts_free c ts n m = whole is_param c.head (tree (H.Part P.Vars) none ts) none (holds_parts is_param c.head c.children none n).here (whole is_param (H.Part P.Vars) none ts refl refl m) refl

pub instance_free : (p : Pending) (ks : List Kind) (ts : Forest) → GoalHasNoParameter p.goal → holds is_param ts ≡ false → GoalHasNoParameter (instance_of p ks ts).goal
instance_free p [] ts a m = a
instance_free p (k ∷ ks) ts a m = record { env = a.env; clause = with_facts_free p.goal.clause ts a.clause m }

last_free : (t : Tree) (ts : Forest) → holds is_param (alone t) ≡ false → holds is_param ts ≡ false → holds is_param (alone (last_or t ts)) ≡ false
last_free t none a m = a
last_free t (tree h below rest) a m =
    let k = holds_parts is_param h below rest m in
    last_free (record { head = h; children = below }) rest (whole is_param h below none k.here k.under refl) k.others

pub first_free : (ts : Forest) → holds is_param ts ≡ false → holds is_param (alone (first_fact ts)) ≡ false
first_free none m = refl
first_free (tree h below rest) m = let k = holds_parts is_param h below rest m in whole is_param h below none k.here k.under refl

pub term_free : (ts : Forest) → holds is_param ts ≡ false → holds is_param (alone (term_of ts)) ≡ false
term_free none m = refl
term_free (tree h below rest) m =
    let k = holds_parts is_param h below rest m in
    last_free (record { head = h; children = below }) rest (whole is_param h below none k.here k.under refl) k.others

module _ (l : Listing) (listing : IsListing l) (L : Live) (before_it : Type 0) where
  module _ (S : State) (sound : IsSound S L) (fits : ValuesFit S L) (free : HasNoParameter S L) (none_recorded : before_it → RegionsHaveNoParameter S) (p : Pending) (goal : GoalHasNoParameter p.goal) where
    staying : StaysFree before_it L (p ∷ [], S)
    staying = record { values = free; goals = All-cons (λ (p : Pending). GoalHasNoParameter p.goal) p [] goal (All-nil (λ (p : Pending). GoalHasNoParameter p.goal)); regions = none_recorded }

    recording : (c : Tree) → holds is_param (alone c) ≡ false → StaysFree before_it L ([], recorded S c)
    recording c n = record {
      values = free;
      goals = All-nil (λ (p : Pending). GoalHasNoParameter p.goal);
      regions = λ b. All-append (λ t. holds is_param (alone t) ≡ false) S.regions (c ∷ []) (none_recorded b) (All-cons (λ t. holds is_param (alone t) ≡ false) c [] n (All-nil (λ t. holds is_param (alone t) ≡ false)));
    }

    equating : (o : Bool) (t u : Tree) → AreTreesOf S L (alone t) → AreTreesOf S L (alone u) → holds is_param (alone t) ≡ false → holds is_param (alone u) ≡ false → (q : List Pending × State)
        → stays_or S p o (without_goals (equated l S (alone t) (alone u))) ≡ Some q → StaysFree before_it L q
    equating true t u a b m n q e = same_outcome (StaysFree before_it L) (p ∷ [], S) q e staying
    equating false t u a b m k q e =
        let n = no_goals (equated l S (alone t) (alone u)) q.0 q.1 e in
        let left = equated-free l listing S q.1 L before_it (alone t) (alone u) sound fits a b free none_recorded m k n.is in
        record { values = left.values; goals = subst GoalsHaveNoParameter n.none (All-nil (λ (p : Pending). GoalHasNoParameter p.goal)); regions = left.regions }

    projecting : (i : AssocId) (ts : Forest) → AreTreesOf S L ts → holds is_param ts ≡ false → (o : Option Tree) → listed l (resolved_tree S (alias_of i ts)) ≡ o
        → (q : List Pending × State) → projected l S p (term_of ts) o ≡ Some q → StaysFree before_it L q
    projecting i ts a m None f q e = same_outcome (StaysFree before_it L) (p ∷ [], S) q e staying
    projecting i ts a m (Some u) f q e =
        let type : AreTreesOf S L (alone u) = record { known = listed_known l listing (resolved_tree S (alias_of i ts)) u f S L; is_closed = (listed_fixed l listing (resolved_tree S (alias_of i ts)) u f).is_closed } in
        equating (are_open l S && has_unlisted l S (alone (term_of ts))) u (term_of ts) type (term_is_of S L ts a) (listed_fixed l listing (resolved_tree S (alias_of i ts)) u f).no_parameter (term_free ts m) q e

    relating : (t u : Tree) → AreTreesOf S L (alone t) → AreTreesOf S L (alone u) → holds is_param (alone t) ≡ false → holds is_param (alone u) ≡ false → (q : List Pending × State) → related l S p t u ≡ Some q → StaysFree before_it L q
    relating t u a b m n q e = equating (has_unlisted l S (alone t) || has_unlisted l S (alone u)) t u a b m n q e

    pub instance_stays : (ts : Forest) → AreTreesOf S L ts → holds is_param ts ≡ false → (h : Head) (q : List Pending × State) → tried_as l S p ts h ≡ Some q → StaysFree before_it L q
    instance_stays ts a m (H.Part (P.Clause (Cl.Projection i))) q e = projecting i ts a m (listed l (resolved_tree S (alias_of i ts))) refl q e
    instance_stays ts a m (H.Part (P.Clause Cl.AliasRelate)) q e = relating (first_fact ts) (term_of ts) (first_is_of S L ts a) (term_is_of S L ts a) (first_free ts m) (term_free ts m) q e
    instance_stays ts a m (H.Part (P.Clause Cl.ConstEquate)) q e = relating (first_fact ts) (term_of ts) (first_is_of S L ts a) (term_is_of S L ts a) (first_free ts m) (term_free ts m) q e
    instance_stays ts a m (H.Part (P.Clause Cl.TypeOutlives)) q e = same_outcome (StaysFree before_it L) ([], recorded S p.goal.clause) q e (recording p.goal.clause goal.clause)
    instance_stays ts a m (H.Part (P.Clause Cl.RegionOutlives)) q e = same_outcome (StaysFree before_it L) ([], recorded S p.goal.clause) q e (recording p.goal.clause goal.clause)
    instance_stays ts a m _ q e = same_outcome (StaysFree before_it L) (p ∷ [], S) q e staying
