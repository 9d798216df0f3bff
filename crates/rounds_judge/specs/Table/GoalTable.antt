-- A table of goals, each with its verdict.
use Rattle.std.specs.Prelude.{◌≡◌, ℕ, Bool, true, false, not, ◌&&◌, ◌||◌, Option, Some, None, List, [], ◌∷◌, ◌++◌, if◌then◌else◌}
use Rattle.std.specs.List.{list_all}
use Rattle.ir_trees.specs.declared.ir.heads.Head.{Head}
use Rattle.ir_trees.specs.declared.ir.heads.Head.TheVariants as H
use Rattle.ir_trees.specs.declared.ir.kinds.RegionKind.TheVariants as R
use Rattle.ir_trees.specs.Syntax.Binders.{escapes}
use Rattle.ir_trees.specs.Unification.Substitutions.{alone}
use Rattle.ir_trees.specs.Syntax.Trees.{Tree, holds, is_param}
use Rattle.candidate_eval.specs.declared.eval.mode.TypingMode.TheVariants.{PostAnalysis}
use Rattle.candidate_eval.specs.Outcomes.Merging.{is_yes}
use Rattle.candidate_eval.specs.Outcomes.Responses.{Response}
use Rattle.candidate_eval.specs.Judges.Soundness.{is_strange}
use Rattle.candidate_eval.specs.Judges.States.{State}
use Rattle.rounds_judge.specs.Table.Keys.{Key, same_key, goal_trees, newest_of, fresh_state, every}
use Rattle.rounds_judge.specs.Table.Verdicts.{Verdict, Yes}

-- A goal, and its verdict, once a round has written one.
pub record Entry (W : Type 0) : Type 0 where
  pub key : Key
  pub verdict : Option (Verdict W)

-- In the order in which the goals were first asked.
abbrev pub GoalTable : Type 0 → Type 0
GoalTable W = List (Entry W)

-- What was last written for a key, if anything was.
abbrev pub verdict_in : {W : Type 0} → GoalTable W → Key → Option (Verdict W)
verdict_in [] k = None
verdict_in (e ∷ es) k = if same_key e.key k then e.verdict else verdict_in es k

abbrev pub is_entered : {W : Type 0} → GoalTable W → Key → Bool
is_entered [] k = false
is_entered (e ∷ es) k = same_key e.key k || is_entered es k

-- A goal that isn't there comes last, with no verdict yet.

abbrev pub unanswered : {W : Type 0} → Key → Entry W
unanswered k = record { key = k; verdict = None }

abbrev pub entered_in : {W : Type 0} → GoalTable W → Key → GoalTable W
entered_in T k = if is_entered T k then T else T ++ unanswered k ∷ []

-- goals that the table doesn't have, each once
abbrev pub AreNew : {W : Type 0} → GoalTable W → List Key → Type 0
AreNew T [] = Unit {0}
AreNew T (k ∷ ks) = (is_entered T k ≡ false) × AreNew (entered_in T k) ks

abbrev pub with_verdict : {W : Type 0} → Entry W → Verdict W → Entry W
with_verdict e v = record { key = e.key; verdict = Some v }

-- The state of which a response to a key speaks: it has the variables that the response leaves open, and no universe above the key's.
abbrev pub left_by : Key → Response → State
left_by k r = fresh_state PostAnalysis (newest_of k) r.vars

-- What a table must hold for the laws: the values are closed trees of that state, but that their regions may be of universes that came
-- with the response, and neither they nor the constraints hold a parameter. What is read of a table is what passes this test.

abbrev pub is_foreign : State → Head → Bool
is_foreign S (H.Region (R.Placeholder p)) = false
is_foreign S h = is_strange S every h

abbrev pub has_parameter : Tree → Bool
has_parameter t = holds is_param (alone t)

abbrev pub may_be_given : Key → Response → Bool
may_be_given k r =
    not (holds (is_foreign (left_by k r)) r.values)
    && (not (escapes 0 r.values) && (not (holds is_param r.values) && list_all (λ t. not (has_parameter t)) r.regions))

abbrev pub may_be_read : {W : Type 0} → Key → Option (Verdict W) → Bool
may_be_read k (Some (Yes r w)) = is_yes r.certainty && may_be_given k r
may_be_read k _ = true

abbrev pub well_entered : {W : Type 0} → GoalTable W → GoalTable W
well_entered [] = []
well_entered (e ∷ es) = if may_be_read e.key e.verdict then e ∷ well_entered es else well_entered es

-- Whether the goal of a key may be computed: its trees are closed trees of the state at which it is, without parameters.
abbrev pub may_be_asked : Key → Bool
may_be_asked k =
    not (holds (is_strange (fresh_state PostAnalysis (newest_of k) k.variables) every) (goal_trees k.goal))
    && (not (escapes 0 (goal_trees k.goal)) && not (holds is_param (goal_trees k.goal)))

-- as many goals as a table may have
abbrev pub most_goals : ℕ
most_goals = 65536
