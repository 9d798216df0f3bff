-- The goals of a table, by numbers of a context.
use Rattle.std.specs.Prelude.{◌≡◌, ◌≤◌, ◌<◌, ◌+◌, Bool, true, false, Option, Some, None, List, [], ◌∷◌, ◌++◌, map, length, if◌then◌else◌}
use Rattle.std.specs.List.{list_any}
use Rattle.std.specs.Map.{keys_of}
use Rattle.std.specs.Option.{option_map}
use Rattle.ir_trees.specs.declared.ir.heads.Head.{Head}
use Rattle.ir_trees.specs.declared.ir.heads.Head.TheVariants as H
use Rattle.ir_trees.specs.declared.ir.heads.PartHead.TheVariants as P
use Rattle.ir_trees.specs.declared.ir.heads.ClauseHead.TheVariants as Cl
use Rattle.ir_trees.specs.declared.ir.kinds.Clause.{Clause}
use Rattle.ir_trees.specs.declared.ir.kinds.Goal.{Goal}
use Rattle.ir_trees.specs.declared.ir.kinds.PredicatePolarity.TheVariants.{Positive}
use Rattle.ir_trees.specs.Hierarchy.Supers.{after_first}
use Rattle.ir_trees.specs.Syntax.Trees.{Forest, none, tree, Tree}
use Rattle.ir_trees.specs.Syntax.Words.{clause_tree, env_forest}
use Rattle.candidate_assembly.specs.declared.assembly.merging.TraitGoalProvenVia.{TraitGoalProvenVia}
use Rattle.candidate_eval.specs.Interface.Evaluators.{IsGoal}
use Rattle.candidate_eval.specs.Derivations.ImplRules.{TraitGoal}
use Rattle.candidate_eval.specs.Dynamic.ObjectRequirements.{trait_said}
use Rattle.candidate_eval.specs.Outcomes.ResponseTrees.{IsResponse, response_of}
use Rattle.candidate_eval.specs.Judges.States.{Env, is_some}
use Rattle.candidate_rounds.specs.declared.rounds.goals.GoalKey.{GoalKey}
use Rattle.candidate_rounds.specs.declared.rounds.goals.Verdict.{Verdict}
use Rattle.candidate_rounds.specs.declared.rounds.goals.Verdict.TheVariants as V
use Rattle.candidate_rounds.specs.Table.Entries.{GoalEntry}
use Rattle.candidate_rounds.specs.Table.KeyNumbers.{same_numbers}
use Rattle.rounds_judge.specs.Table.GoalTable.{Entry, GoalTable, AreNew, may_be_asked, may_be_read, most_goals, verdict_in}
use Rattle.rounds_judge.specs.Table.Keys.{Key, trait_goal_of}
use Rattle.rounds_judge.specs.Aliases.Listed.{Listing}
use Rattle.rounds_judge.specs.Table.Verdicts as J

-- The table, the goals that were asked for since the last round and aren't in it, and whether a round asks for more.
pub record Goals : Type 0 where
  pub table : List GoalEntry
  pub asked : List GoalKey
  pub asks : Bool

-- whether the goal is in the table, or was asked for
abbrev pub is_noted : Goals → GoalKey → Bool
is_noted g k = list_any (same_numbers k) (keys_of g.table ++ g.asked)

-- it is asked for, if it is neither
abbrev pub noting : Goals → GoalKey → Goals
noting g k = record g { asked = if is_noted g k then g.asked else g.asked ++ k ∷ [] }

-- it is neither, and there is no room for it
pub record IsFullFor (g : Goals) (k : GoalKey) : Type 0 where
  pub missing : is_noted g k ≡ false
  pub full : most_goals ≤ length g.table + length g.asked

-- there is room for it, if it is neither
abbrev pub HasRoomFor : Goals → GoalKey → Type 0
HasRoomFor g k = is_noted g k ≡ false → length g.table + length g.asked < most_goals

-- how a goal of a trait is proved
abbrev pub Via : Type 0
Via = TraitGoalProvenVia

-- what an evaluator reads while goals are evaluated: the listed pairs, and what may be read of the table
pub record Reads : Type 0 where
  pub listing : Listing
  pub table : GoalTable Via

-- The goal that a clause of a trait says, under an environment; no other clause is asked about.

abbrev pub goal_by : Env → Head → Forest → TraitGoal
goal_by e (H.Part (P.Clause (Cl.Trait i p))) ts = trait_goal_of e i p ts
goal_by e _ ts = trait_goal_of e (record { 0 = 0 }) Positive ts

abbrev pub goal_said : Env → Tree → TraitGoal
goal_said e c = goal_by e c.head (after_first c.children)

abbrev pub goal_seen : List Tree → Goal Clause → TraitGoal
goal_seen ts g = goal_said (env_forest ts g.param_env) (clause_tree ts g.predicate)

-- The same, by the trees of the numbers.

abbrev pub key_seen : List Tree → GoalKey → Key
key_seen ts k = record { goal = goal_seen ts k.goal; variables = k.variables.items }

abbrev pub verdict_seen : List Tree → Verdict → J.Verdict Via
verdict_seen ts (V.Yes r w) = J.Yes (response_of ts r) w
verdict_seen ts (V.Maybe r w) = J.Maybe (response_of ts r) w
verdict_seen ts V.Refused = J.Refused

-- what a table has for a key, where that was last written for it
abbrev pub entry_of : List Tree → GoalKey → Option Verdict → Entry Via
entry_of ts k v = record { key = key_seen ts k; verdict = option_map (verdict_seen ts) v }

abbrev pub entry_seen : List Tree → GoalEntry → Entry Via
entry_seen ts e = entry_of ts e.0 e.1.verdict

abbrev pub table_seen : List Tree → List GoalEntry → GoalTable Via
table_seen ts es = map (entry_seen ts) es

-- What is noted beside a verdict takes it away; and so in a table, goal by goal.

abbrev pub unless_noted : {A : Type 0} → Bool → Option A → Option A
unless_noted true v = None
unless_noted false v = v

-- Whether the first table has for the key what the second one has, but nothing where the key is noted.
abbrev pub HasUnlessNoted : GoalTable Via → GoalTable Via → Key → Bool → Type 0
HasUnlessNoted sure all k noted = verdict_in sure k ≡ unless_noted noted (verdict_in all k)

abbrev pub without_noted : List Bool → GoalTable Via → GoalTable Via
without_noted [] es = es
without_noted (b ∷ bs) [] = []
without_noted (b ∷ bs) (e ∷ es) = record { key = e.key; verdict = unless_noted b e.verdict } ∷ without_noted bs es

abbrev pub keys_seen : List Tree → List GoalKey → List Key
keys_seen ts ks = map (key_seen ts) ks

-- a clause of a trait, under a binder without variables
pub record SaysTrait (c : Tree) : Type 0 where
  pub is_trait : is_some (trait_said c.head) ≡ true
  pub unbound : c.children ≡ tree (H.Part P.Vars) none (after_first c.children)

-- The numbers are of an environment and such a clause.
pub record IsTraitGoal (ts : List Tree) (g : Goal Clause) : Type 0 where
  pub goal : IsGoal ts g
  pub says : SaysTrait (clause_tree ts g.predicate)

-- The goal of the key may be computed.
pub record IsKeyOf (ts : List Tree) (k : GoalKey) : Type 0 where
  pub goal : IsTraitGoal ts k.goal
  pub asked : may_be_asked (key_seen ts k) ≡ true

abbrev pub IsVerdict : List Tree → Option Verdict → Type 0
IsVerdict ts (Some (V.Yes r w)) = IsResponse ts r
IsVerdict ts (Some (V.Maybe r w)) = IsResponse ts r
IsVerdict ts _ = Unit {0}

-- Whether it may be read is noted beside it.
pub record IsEntryOf (ts : List Tree) (e : GoalEntry) : Type 0 where
  pub key : IsKeyOf ts e.0
  pub verdict : IsVerdict ts e.1.verdict
  pub readable : e.1.is_readable ≡ may_be_read (key_seen ts e.0) (option_map (verdict_seen ts) e.1.verdict)

-- of each member
abbrev pub Each : {A : Type 0} → (A → Type 0) → List A → Type 0
Each P [] = Unit {0}
Each P (x ∷ xs) = P x × Each P xs

pub record TableParts (ts : List Tree) (g : Goals) : Type 0 where
  pub entries : Each (IsEntryOf ts) g.table
  pub keys : Each (IsKeyOf ts) g.asked
  -- what is asked for isn't in the table, and is there once
  pub are_new : AreNew (table_seen ts g.table) (keys_seen ts g.asked)
  pub room : length g.table + length g.asked ≤ most_goals

-- All that holds of the table between calls. It is opaque, as what holds of all of an evaluator is.
unfoldable pub IsTabled : List Tree → Goals → Type 0
IsTabled ts g = TableParts ts g
