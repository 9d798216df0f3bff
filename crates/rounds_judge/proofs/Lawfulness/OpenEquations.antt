-- Equations of sides in which aliases may be open keep the laws: sides without aliases are made equal as they are in rigid equations, and of
-- others the laws say what is left.
use Rattle.std.proofs.Common.{◌≡◌, ◌≤◌, Bool, true, false, ◌&&◌, ◌||◌, List, [], ◌∷◌, length, Option, Some, None, refl, sym, ap, subst, ◌∙◌, arith, if◌then◌else◌}
use Rattle.std.specs.List.{All}
use Rattle.std.proofs.lemmas.List.Elements.{All-cons, All-head, All-nil, All-tail}
use Rattle.ir_trees.specs.declared.ir.heads.Head.{Head}
use Rattle.ir_trees.specs.declared.ir.heads.Head.TheVariants as H
use Rattle.ir_trees.specs.declared.ir.heads.PartHead.TheVariants as P
use Rattle.ir_trees.specs.declared.ir.heads.ClauseHead.TheVariants as Cl
use Rattle.ir_trees.specs.Syntax.Binders.{escapes}
use Rattle.ir_trees.specs.Syntax.Trees.{Kind, ConstantKind, Forest, none, tree, Tree, holds, is_param, kind_of}
use Rattle.ir_trees.specs.Unification.Substitutions.{alone}
use Rattle.candidate_eval.specs.Judges.Lawful.{AreSides, EquationLaws, GoalHasNoParameter, GoalsHaveNoParameter, HasNoParameter, LeavesGoals, RegionsHaveNoParameter}
use Rattle.candidate_eval.specs.Judges.Soundness.{Live, IsSound, ValuesFit, AreTreesOf, GoalIsOf, GoalsAreOf, is_strange}
use Rattle.candidate_eval.specs.Judges.States.{Env, State, Judge, Pending, fresh_variables, next, resolved}
use Rattle.candidate_eval.proofs.Marks.Holds.{holds_parts}
use Rattle.rounds_judge.specs.Aliases.Listed.{Listing, listed}
use Rattle.rounds_judge.specs.Aliases.OpenParts.{all_to_be, are_one, kinds_of, opened, relation, to_be_one, with_parts}
use Rattle.rounds_judge.specs.Equations.Equating.{equated, without_goals}
use Rattle.rounds_judge.specs.Equations.Opening.{Opened, are_open, equated_openly, equation, has_alias, opening, readied}
use Rattle.rounds_judge.specs.Equations.Standing.{IsListing}
use Rattle.rounds_judge.specs.Equations.WithErrors.{EquatesErrors}
use Rattle.rounds_judge.proofs.Aliases.OpenedParts.{AllPairs, AreClosed, AreFree, opened_closed, opened_unmarked, pairs_closed, pairs_unmarked, parts_closed, parts_unmarked}
use Rattle.rounds_judge.proofs.Equations.Current.{listed_fixed, listed_known}
use Rattle.rounds_judge.proofs.Equations.Looks.{SoundLater, equated_pending, equated_variables}
use Rattle.rounds_judge.proofs.Obligations.Settling.{goals_later, lead_along, lead_equated}
use Rattle.rounds_judge.proofs.Parameters.Parameterless.{LeavesFree, equated-free, resolved-free}
use Rattle.rounds_judge.proofs.States.Later.{fits_later, resolved_closed, resolved_known, trees_later}
use Rattle.rounds_judge.proofs.States.Marks.{escape_parts, escape_whole, escapes_on, fold_closed, fold_marked, whole}
use Rattle.rounds_judge.proofs.Table.FreshRows.{lead_rows, rows_free, rows_known, rows_many, rows_pending, rows_regions, variables_free}
use Rattle.rounds_judge.proofs.Table.TableSettled.{counts_as, fewer_later, fits_with_new, new_count, sound_with_new, still_counts, trees_with_new, with_new}
use Rattle.rounds_judge.proofs.Unifiers.EquatingLaws.{equating_follows, equating_keeps_pending, equating_keeps_variables, no_goals}
use Rattle.rounds_judge.proofs.Unifiers.Solutions.{equated_equal, equated_general, unequated_unsolved}

-- The goals that are left

relation_unmarked : (mark : Head → Bool) → ((h : _) → mark (H.Part h) ≡ false) → (k : Kind) → mark (relation k) ≡ false
relation_unmarked mark parts ConstantKind = parts (P.Clause Cl.ConstEquate)
relation_unmarked mark parts _ = parts (P.Clause Cl.AliasRelate)

one_unmarked : (mark : Head → Bool) → ((h : _) → mark (H.Part h) ≡ false) → (t u : Tree) → holds mark (alone t) ≡ false → holds mark (alone u) ≡ false → holds mark (alone (are_one t u)) ≡ false
one_unmarked mark parts t u e f =
    let p = holds_parts mark t.head t.children none e in
    let q = holds_parts mark u.head u.children none f in
    let second : holds mark (tree u.head u.children none) ≡ false = whole mark u.head u.children none q.here q.under refl in
    let first : holds mark (tree t.head t.children (tree u.head u.children none)) ≡ false = whole mark t.head t.children (tree u.head u.children none) p.here p.under second in
    let facts : holds mark (tree (H.Part P.Vars) none (tree t.head t.children (tree u.head u.children none))) ≡ false = whole mark (H.Part P.Vars) none (tree t.head t.children (tree u.head u.children none)) (parts P.Vars) refl first in
    whole mark (relation (kind_of t.head)) (tree (H.Part P.Vars) none (tree t.head t.children (tree u.head u.children none))) none (relation_unmarked mark parts (kind_of t.head)) facts refl

one_closed : (t u : Tree) → escapes 0 (alone t) ≡ false → escapes 0 (alone u) ≡ false → escapes 0 (alone (are_one t u)) ≡ false
one_closed t u e f = at (kind_of t.head)
  where
    facts : Forest
    facts = tree (H.Part P.Vars) none (tree t.head t.children (tree u.head u.children none))

    facts_closed : escapes 1 facts ≡ false
    facts_closed =
        let a = escapes_on 0 1 (alone t) (omega arith) e in
        let b = escapes_on 0 1 (alone u) (omega arith) f in
        let p = escape_parts 1 t.head t.children none a in
        escape_whole 1 (H.Part P.Vars) none (tree t.head t.children (tree u.head u.children none)) refl refl (escape_whole 1 t.head t.children (tree u.head u.children none) p.here p.under b)

    at : (k : Kind) → escapes 0 (tree (relation k) facts none) ≡ false
    at ConstantKind = escape_whole 0 (H.Part (P.Clause Cl.ConstEquate)) facts none refl facts_closed refl
    at _ = escape_whole 0 (H.Part (P.Clause Cl.AliasRelate)) facts none refl facts_closed refl

module _ (T : State) (L : Live) (e : Env) (env : AreTreesOf T L e) where
  abbrev IsThere : Pending → Type 0
  IsThere p = GoalIsOf T L p.goal

  goals_are_of : (ps : List (Tree × Tree)) → AllPairs (AreFree (is_strange T L)) ps → AllPairs AreClosed ps → GoalsAreOf T L (all_to_be e ps)
  goals_are_of [] known closed = All-nil IsThere
  goals_are_of (p ∷ ps) known closed =
      let k = All-head (λ (q : Tree × Tree). AreFree (is_strange T L) q.0 q.1) p ps known in
      let c = All-head (λ (q : Tree × Tree). AreClosed q.0 q.1) p ps closed in
      All-cons IsThere (to_be_one e p.0 p.1) (all_to_be e ps)
      (record { env = env; clause = record { known = one_unmarked (is_strange T L) (λ h. refl) p.0 p.1 k.0 k.1; is_closed = one_closed p.0 p.1 c.0 c.1 } })
      (goals_are_of ps (All-tail (λ (q : Tree × Tree). AreFree (is_strange T L) q.0 q.1) p ps known) (All-tail (λ (q : Tree × Tree). AreClosed q.0 q.1) p ps closed))

pub goals_free : (e : Env) → holds is_param e ≡ false → (ps : List (Tree × Tree)) → AllPairs (AreFree is_param) ps → GoalsHaveNoParameter (all_to_be e ps)
goals_free e free [] a = All-nil (λ (p : Pending). GoalHasNoParameter p.goal)
goals_free e free (p ∷ ps) a =
    let k = All-head (λ (q : Tree × Tree). AreFree is_param q.0 q.1) p ps a in
    All-cons (λ (p : Pending). GoalHasNoParameter p.goal) (to_be_one e p.0 p.1) (all_to_be e ps)
    (record { env = free; clause = one_unmarked is_param (λ h. refl) p.0 p.1 k.0 k.1 }) (goals_free e free ps (All-tail (λ (q : Tree × Tree). AreFree is_param q.0 q.1) p ps a))

-- The trees that are opened

module _ (l : Listing) (listing : IsListing l) (M : Live) (S : State) (sound : IsSound S M) (ts : Forest) where
  pub readied_trees : ValuesFit S M → AreTreesOf S M ts → AreTreesOf S M (readied l S ts)
  readied_trees fits a =
      let r = resolved_known S M sound ts a.known in
      record {
        known = fold_marked (λ d u. listed l u) (is_strange S M) (is_strange S M) (is_strange S M) (λ d t a b f. a) (λ d t u a b f. listed_known l listing t u f S M) 0 (resolved S ts) r r;
        is_closed = fold_closed (λ d u. listed l u) (λ d t u f. (listed_fixed l listing t u f).is_closed) 0 0 (resolved S ts) (resolved_closed S M fits 0 ts a.known a.is_closed);
      }

  readied_free : HasNoParameter S M → holds (is_strange S M) ts ≡ false → holds is_param ts ≡ false → holds is_param (readied l S ts) ≡ false
  readied_free free k p =
      let r = resolved-free l listing S M sound free ts k p in
      fold_marked (λ d u. listed l u) is_param is_param is_param (λ d t a b f. a) (λ d t u a b f. (listed_fixed l listing t u f).no_parameter) 0 (resolved S ts) r r

-- Both sides

pub record IsOpened (o : Option State) (xs gs : List Pending) (T : State) : Type 0 where
  pub is : o ≡ Some T
  pub left : xs ≡ gs

pub is_opened : (o : Option State) (xs gs : List Pending) (T : State) → next {B = List Pending × State} o (λ R. Some (xs, R)) ≡ Some (gs, T) → IsOpened o xs gs T
is_opened None xs gs T e = cc
is_opened (Some R) xs gs T e =
    let is : (xs, R) ≡ (gs, T) = cc in
    record { is = ap Some (ap (λ (q : List Pending × State). q.1) is); left = ap (λ (q : List Pending × State). q.0) is }

module _ (l : Listing) (S : State) (a b : Forest) where
  abbrev pub by : Opened
  by = opening l S a b

  abbrev pub left_opened : Forest
  left_opened = opened by.pairs (readied l S a)

  abbrev pub right_opened : Forest
  right_opened = opened by.pairs (readied l S b)

  opened_answer : (e : Env) (gs : List Pending) (T : State) → equated_openly l S e a b ≡ Some (gs, T) → IsOpened (equated l by.state left_opened right_opened) (all_to_be e by.pairs) gs T
  opened_answer e gs T h = is_opened (equated l by.state left_opened right_opened) (all_to_be e by.pairs) gs T h

  openly_pending : (e : Env) (gs : List Pending) (T : State) → equated_openly l S e a b ≡ Some (gs, T) → T.pending ≡ S.pending
  openly_pending e gs T h = equated_pending l by.state T left_opened right_opened (opened_answer e gs T h).is ∙ rows_pending S (kinds_of by.parts)

  openly_variables : (e : Env) (gs : List Pending) (T : State) → equated_openly l S e a b ≡ Some (gs, T) → length S.variables ≤ length T.variables
  openly_variables e gs T h =
      let x = rows_many S (kinds_of by.parts) in
      let same = equated_variables l by.state T left_opened right_opened (opened_answer e gs T h).is in
      omega (arith, x, same)

abbrev pub NoneBefore : State → Live → Env → Forest → Forest → Type 0
NoneBefore S L e a b = HasNoParameter S L × (holds is_param e ≡ false) × (holds is_param a ≡ false) × (holds is_param b ≡ false)

module _ (l : Listing) (listing : IsListing l) (S T : State) (L : Live) (e a b : Forest) (gs : List Pending) (sound_before : IsSound S L) (fits_before : ValuesFit S L) (env_before : AreTreesOf S L e) (left_before : AreTreesOf S L a)
    (right_before : AreTreesOf S L b) (answer : equated_openly l S e a b ≡ Some (gs, T)) where
  abbrev pub M : Live
  M = with_new S L

  pub sound : IsSound S M
  sound = sound_with_new S L sound_before

  pub fits : ValuesFit S M
  fits = fits_with_new S L fits_before

  env : AreTreesOf S M e
  env = trees_with_new S L e env_before

  left : AreTreesOf S M a
  left = trees_with_new S L a left_before

  right : AreTreesOf S M b
  right = trees_with_new S L b right_before

  abbrev pub o : Opened
  o = by l S a b

  a_ready : AreTreesOf S M (readied l S a)
  a_ready = readied_trees l listing M S sound a fits left

  b_ready : AreTreesOf S M (readied l S b)
  b_ready = readied_trees l listing M S sound b fits right

  pub leads : SoundLater S M o.state
  leads = lead_rows S M (kinds_of o.parts) sound

  there : (ts : Forest) → AreTreesOf S M ts → AreTreesOf o.state M ts
  there ts k = trees_later S o.state M M (λ n l c. c) leads.later ts k

  variables : AreTreesOf o.state M (fresh_variables S (kinds_of o.parts))
  variables = rows_known S M (kinds_of o.parts) sound (new_count S L)

  -- a mark that neither side has, nor a fresh variable
  parts_without : (mark : Head → Bool) → holds mark (readied l S a) ≡ false → holds mark (readied l S b) ≡ false → All (λ t. holds mark (alone t) ≡ false) o.parts
  parts_without mark x y = parts_unmarked mark (with_parts [] (readied l S a)) (readied l S b) (parts_unmarked mark [] (readied l S a) (All-nil (λ t. holds mark (alone t) ≡ false)) x) y

  pub parts_shut : All (λ t. escapes 0 (alone t) ≡ false) o.parts
  parts_shut = parts_closed (with_parts [] (readied l S a)) (readied l S b) (parts_closed [] (readied l S a) (All-nil (λ t. escapes 0 (alone t) ≡ false)))

  pub pairs_known : AllPairs (AreFree (is_strange o.state M)) o.pairs
  pairs_known =
      pairs_unmarked (is_strange o.state M) o.parts (fresh_variables S (kinds_of o.parts)) (parts_without (is_strange o.state M) (there (readied l S a) a_ready).known (there (readied l S b) b_ready).known) variables.known

  pub pairs_shut : AllPairs AreClosed o.pairs
  pairs_shut = pairs_closed o.parts (fresh_variables S (kinds_of o.parts)) parts_shut variables.is_closed

  opened_trees : (ts : Forest) → AreTreesOf S M ts → AreTreesOf o.state M (opened o.pairs ts)
  opened_trees ts k = record {
    known = opened_unmarked (is_strange o.state M) o.pairs ts pairs_known (there ts k).known;
    is_closed = opened_closed o.pairs ts pairs_shut k.is_closed;
  }

  pub left_trees : AreTreesOf o.state M (left_opened l S a b)
  left_trees = opened_trees (readied l S a) a_ready

  pub right_trees : AreTreesOf o.state M (right_opened l S a b)
  right_trees = opened_trees (readied l S b) b_ready

  pub is : IsOpened (equated l o.state (left_opened l S a b) (right_opened l S a b)) (all_to_be e o.pairs) gs T
  is = opened_answer l S a b e gs T answer

  pub fits_there : ValuesFit o.state M
  fits_there = fits_later leads.later fits

  pub end : SoundLater o.state M T
  end = lead_equated l listing o.state T M (left_opened l S a b) (right_opened l S a b) leads.sound fits_there left_trees right_trees is.is

  pub whole_lead : SoundLater S M T
  whole_lead = lead_along S o.state T M sound leads end

  pub goals : GoalsAreOf T M (all_to_be e o.pairs)
  goals = goals_later o.state T M end.later (all_to_be e o.pairs) (goals_are_of o.state M e (there e env) o.pairs pairs_known pairs_shut)

  module _ (free : NoneBefore S L e a b) where
    free_before : HasNoParameter S M
    free_before = λ n i t c f v. free.0 n i t (counts_as S L n i f c) f v

    a_free : holds is_param (readied l S a) ≡ false
    a_free = readied_free l listing M S sound a free_before left.known free.2

    b_free : holds is_param (readied l S b) ≡ false
    b_free = readied_free l listing M S sound b free_before right.known free.3

    pub pairs_free : AllPairs (AreFree is_param) o.pairs
    pairs_free = pairs_unmarked is_param o.parts (fresh_variables S (kinds_of o.parts)) (parts_without is_param a_free b_free) (variables_free S (kinds_of o.parts))

    pub free_end : LeavesFree (RegionsHaveNoParameter S) T M
    free_end =
        equated-free l listing o.state T M (RegionsHaveNoParameter S) (left_opened l S a b) (right_opened l S a b) leads.sound fits_there left_trees right_trees (rows_free S M (kinds_of o.parts) free_before)
        (λ r. subst (All (λ t. holds is_param (alone t) ≡ false)) (sym (rows_regions S (kinds_of o.parts))) r)
        (opened_unmarked is_param o.pairs (readied l S a) pairs_free a_free) (opened_unmarked is_param o.pairs (readied l S b) pairs_free b_free) is.is

  pub openly_follows : LeavesGoals S T L gs (NoneBefore S L e a b)
  openly_follows = record {
    follows = record { live = M; within = λ n h c. still_counts S L n c; sound = whole_lead.sound; fits = fits_later whole_lead.later fits; later = fewer_later S L T whole_lead.later };
    goals = subst (GoalsAreOf T M) is.left goals;
    no_parameter = λ free. ((free_end free).values, subst GoalsHaveNoParameter is.left (goals_free e free.1 o.pairs (pairs_free free)));
    regions_without = λ free r. (free_end free).regions r;
  }

no_answer : (o : Option State) → without_goals o ≡ None → o ≡ None
no_answer None e = refl
no_answer (Some T) e = cc

-- What holds of open equations and of rigid ones holds of all.
abbrev pub equation_if : Bool → Listing → State → Env → Forest → Forest → Option (List Pending × State)
equation_if o l S e a b = if o then equated_openly l S e a b else without_goals (equated l S a b)

abbrev pub asks_openly : Listing → State → Forest → Forest → Bool
asks_openly l S a b = are_open l S && has_alias S a b

-- sides without aliases are not opened
not_opened : (l : Listing) (S : State) (L : Live) (a b : Forest) → AreSides S L a b → asks_openly l S a b ≡ false
not_opened l S L a b sides = rw (sides.left_has_no_alias, sides.right_has_no_alias) (and_false (are_open l S))
  where
    and_false : (o : Bool) → o && (false || false) ≡ false
    and_false true = refl
    and_false false = refl

module _ (l : Listing) (listing : IsListing l) where
  as_rigid : (S : State) (L : Live) (e : Env) (a b : Forest) → AreSides S L a b → equation l S e a b ≡ without_goals (equated l S a b)
  as_rigid S L e a b sides = ap (λ o. equation_if o l S e a b) (not_opened l S L a b sides)

  accepted : (S T : State) (L : Live) (e : Env) (a b : Forest) (gs : List Pending) → AreSides S L a b → equation l S e a b ≡ Some (gs, T) → equated l S a b ≡ Some T
  accepted S T L e a b gs sides h = (no_goals (equated l S a b) gs T (sym (as_rigid S L e a b sides) ∙ h)).is

  refused : (S : State) (L : Live) (e : Env) (a b : Forest) → AreSides S L a b → equation l S e a b ≡ None → equated l S a b ≡ None
  refused S L e a b sides h = no_answer (equated l S a b) (sym (as_rigid S L e a b sides) ∙ h)

  pub keeps_pending : (S T : State) (e : Env) (a b : Forest) (gs : List Pending) → equation l S e a b ≡ Some (gs, T) → T.pending ≡ S.pending
  keeps_pending S T e a b gs h = at (asks_openly l S a b) h
    where
      at : (o : Bool) → equation_if o l S e a b ≡ Some (gs, T) → T.pending ≡ S.pending
      at true h = openly_pending l S a b e gs T h
      at false h = equating_keeps_pending l S T a b gs h

  pub keeps_variables : (S T : State) (e : Env) (a b : Forest) (gs : List Pending) → equation l S e a b ≡ Some (gs, T) → length S.variables ≤ length T.variables
  keeps_variables S T e a b gs h = at (asks_openly l S a b) h
    where
      at : (o : Bool) → equation_if o l S e a b ≡ Some (gs, T) → length S.variables ≤ length T.variables
      at true h = openly_variables l S a b e gs T h
      at false h = equating_keeps_variables l S T a b gs h

  pub follows : (S T : State) (L : Live) (e : Env) (a b : Forest) (gs : List Pending) → IsSound S L → ValuesFit S L → AreTreesOf S L e → AreTreesOf S L a → AreTreesOf S L b → equation l S e a b ≡ Some (gs, T)
      → LeavesGoals S T L gs (NoneBefore S L e a b)
  follows S T L e a b gs sound fits env left right h = at (asks_openly l S a b) h
    where
      at : (o : Bool) → equation_if o l S e a b ≡ Some (gs, T) → LeavesGoals S T L gs (NoneBefore S L e a b)
      at true h = openly_follows l listing S T L e a b gs sound fits env left right h
      at false h = equating_follows l listing S T L e a b gs sound fits left right h

  -- whatever errors stand in the sides
  pub equates_errors : (J : Judge) → ((S : State) (e : Env) (a b : Forest) → J.equated S e a b ≡ equation l S e a b) → EquatesErrors J
  equates_errors J answers = record {
    equates = λ S T L e a b gs sides h. equated_equal l listing S L a b sides T (accepted S T L e a b gs sides (sym (answers S e a b) ∙ h));
    is_most_general = λ S T L M e a b gs sides h within wide s solves. equated_general l listing S L a b sides T M (accepted S T L e a b gs sides (sym (answers S e a b) ∙ h)) within wide s solves;
  }

  pub open_equation_laws : (J : Judge) → ((S : State) (e : Env) (a b : Forest) → J.equated S e a b ≡ equation l S e a b) → EquationLaws J
  open_equation_laws J answers = record {
    equation_equates = λ S T L e a b gs sides x y h. (equates_errors J answers).equates S T L e a b gs sides h;
    equation_is_most_general = λ S T L M e a b gs sides x y h within wide s solves. (equates_errors J answers).is_most_general S T L M e a b gs sides h within wide s solves;
    refused_has_no_solution = λ S L e a b sides h s solves. unequated_unsolved l listing S L a b sides (refused S L e a b sides (sym (answers S e a b) ∙ h)) s solves;
    equating_keeps_variables = λ S T e a b gs h. keeps_variables S T e a b gs (sym (answers S e a b) ∙ h);
    equating_keeps_pending = λ S T e a b gs h. keeps_pending S T e a b gs (sym (answers S e a b) ∙ h);
    equating_follows = λ S T L e a b gs sound fits env left right h. follows S T L e a b gs sound fits env left right (sym (answers S e a b) ∙ h);
  }
