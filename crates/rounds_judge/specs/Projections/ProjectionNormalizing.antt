-- Normal forms by tables that say what projections are.
use Rattle.std.specs.Prelude.{◌&&◌, Option, Some, None, if◌then◌else◌}
use Rattle.ir_trees.specs.declared.ir.heads.Head.{Head}
use Rattle.ir_trees.specs.declared.ir.heads.Head.TheVariants as H
use Rattle.ir_trees.specs.declared.ir.kinds.AliasKind.TheVariants as A
use Rattle.ir_trees.specs.declared.ir.kinds.AssocId.{AssocId}
use Rattle.ir_trees.specs.Syntax.Trees.{Forest, Tree, is_alias, is_type}
use Rattle.candidate_eval.specs.Derivations.ImplRules.{TraitGoal}
use Rattle.candidate_eval.specs.Judges.States.{Env, State, resolved, resolved_tree}
use Rattle.rounds_judge.specs.Aliases.Listed.{Listing}
use Rattle.rounds_judge.specs.Aliases.Normalizing.{open_form, type_or_itself}
use Rattle.rounds_judge.specs.Equations.Opening.{are_open}
use Rattle.rounds_judge.specs.Projections.ProjectionGoals.{ProjectionTables, new_term, term_asked, with_term}
use Rattle.rounds_judge.specs.Table.GoalTable.{GoalTable, verdict_in}
use Rattle.rounds_judge.specs.Table.Keys.{goal_trees, key_at, numbers_at}
use Rattle.rounds_judge.specs.Table.TableSettling.{are_bare, given}
use Rattle.rounds_judge.specs.Table.Verdicts.{Verdict, Yes}

-- what a Yes gives the goal, if it is one
abbrev pub given_by : {W : Type 0} → Listing → State → TraitGoal → Option (Verdict W) → Option State
given_by l S g (Some (Yes r w)) = given l S (key_at S g) (numbers_at S g) r
given_by l S g _ = None

-- The state in which the new variable has what the projection is, if the table has a Yes.
abbrev pub term_given : {W : Type 0} → GoalTable W → Listing → State → Env → AssocId → Forest → Option State
term_given T l S e i args =
    let R = with_term S e i args in
    let g = term_asked S e i args in
    if are_bare (resolved R (goal_trees g)) then given_by l R g (verdict_in T (key_at R g)) else None

-- A value that is no alias is the normal form.
abbrev pub value_or_open : State → Option State → Tree × State
value_or_open S None = open_form S
value_or_open S (Some T) = if is_alias (resolved_tree T (new_term S)).head then open_form S else (resolved_tree T (new_term S), T)

-- What may be any type is what a table says that it is, and else a fresh variable.
abbrev pub open_form_by : {W : Type 0} → ProjectionTables W → Listing → State → Env → Head → Forest → Tree × State
open_form_by Q l S e (H.Alias A.Projection i) args = value_or_open S (term_given (Q (record { 0 = i.0 })) l S e (record { 0 = i.0 }) args)
open_form_by Q l S e h below = open_form S

abbrev pub normal_form_by : {W : Type 0} → ProjectionTables W → Listing → State → Env → Tree → Tree × State
normal_form_by Q l S e t = if are_open l S && (is_alias t.head && is_type t.head) then open_form_by Q l S e t.head t.children else (t, S)

-- The tree with all values put in; if it is then a listed alias, its type; and if it is an open alias of a type, what the tables say. It is
-- never refused.
abbrev pub normalized_by : {W : Type 0} → ProjectionTables W → Listing → State → Env → Tree → Option (Tree × State)
normalized_by Q l S e t = Some (normal_form_by Q l S e (type_or_itself l (resolved_tree S t)))
