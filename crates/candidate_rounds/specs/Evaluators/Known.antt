-- What is known so far, as a state.
use Rattle.std.specs.Prelude.{◌≡◌, ℕ, suc, ◌≤◌, ◌<◌, Bool, false, Option, Some, None, List, [], ◌∷◌, ◌++◌, true, map, drop, length}
use Rattle.std.specs.Option.{option_map}
use Rattle.ir_trees.specs.declared.ir.heads.Head.{Head}
use Rattle.ir_trees.specs.declared.ir.heads.Head.TheVariants as H
use Rattle.ir_trees.specs.declared.ir.kinds.Clause.{Clause}
use Rattle.ir_trees.specs.declared.ir.kinds.GenericArg.{GenericArg}
use Rattle.ir_trees.specs.declared.ir.kinds.Goal.{Goal as OfNumbers}
use Rattle.ir_trees.specs.declared.ir.kinds.GoalSource.{GoalSource}
use Rattle.ir_trees.specs.Declarations.Context.{Context, Grows}
use Rattle.ir_trees.specs.Instantiation.Folds.{IsArg, arg_tree}
use Rattle.ir_trees.specs.Syntax.Binders.{escapes}
use Rattle.ir_trees.specs.Instantiation.Owned.{is_unsolved}
use Rattle.ir_trees.specs.Unification.Substitutions.{alone}
use Rattle.ir_trees.specs.Syntax.Nodes.{tree_at}
use Rattle.ir_trees.specs.Syntax.Trees.{Forest, Tree, holds, is_param, tree_holds}
use Rattle.ir_trees.specs.declared.ir.kinds.AliasKind.TheVariants as AK
use Rattle.ir_trees.specs.declared.ir.kinds.AliasTy.{AliasTy}
use Rattle.ir_trees.specs.declared.ir.kinds.Ty.{Ty}
use Rattle.ir_trees.specs.declared.ir.kinds.TyKind.TheVariants as K
use Rattle.ir_trees.specs.Syntax.Words.{IsTy, IsClause, KindFits, kind_tree, ty_tree, clause_tree}
use Rattle.candidate_eval.specs.declared.eval.mode.TypingMode.{TypingMode}
use Rattle.candidate_eval.specs.declared.eval.variable.VariableKind.{VariableKind}
use Rattle.candidate_eval.specs.Judges.States as states
use Rattle.candidate_eval.specs.Judges.States.{Pending, State, VariableInfo, value_as}
use Rattle.candidate_eval.specs.Judges.Soundness.{fits_kind}
use Rattle.candidate_eval.specs.Interface.Evaluators.{IsGoal, NoFault, pendings_of, alias_trees}
use Rattle.candidate_rounds.specs.declared.rounds.inference.Change.{Change}
use Rattle.candidate_rounds.specs.declared.rounds.inference.Change.TheVariants as C
use Rattle.candidate_rounds.specs.declared.rounds.inference.Entry.{Entry}
use Rattle.rounds_judge.specs.Table.GoalTable.{GoalTable, well_entered}
use Rattle.rounds_judge.specs.Aliases.Listed.{Listing}
use Rattle.rounds_judge.specs.Equations.Standing.{AreResolved, IsListing}
use Rattle.derivations.specs.DerivedTables.{TableIsDerived}
use Rattle.candidate_rounds.specs.Table.Entries.{GoalEntry}
use Rattle.candidate_rounds.specs.Table.Goals.{Goals, IsTabled, Reads, Via, table_seen, without_noted}
pub use Rattle.candidate_rounds.specs.Table.Goals.{Each}
use Rattle.candidate_rounds.specs.Evaluators.Inferences.{Inference, IsFurther, back_to}

-- The trees of numbers of a context.

-- the members of the list of that number
abbrev pub members_of : List Tree → ℕ → Forest
members_of ts n = (tree_at ts n).children

abbrev pub info_of : List Tree → Entry → VariableInfo
info_of ts e = record { kind = e.kind; universe = e.universe; value = option_map (arg_tree ts) e.value; is_root = e.is_root }

abbrev pub state_of : List Tree → TypingMode → Inference → State
state_of ts mode s = record {
  newest_universe = s.newest_universe;
  variables = map (info_of ts) s.variables;
  regions = map (clause_tree ts) s.regions;
  pending = pendings_of ts (drop s.first_pending s.goals);
  mode = mode;
}

-- the members of the list of that number, with all values put in
abbrev pub resolved_members : List Tree → TypingMode → Inference → ℕ → Forest
resolved_members ts m s n = states.resolved (state_of ts m s) (members_of ts n)

-- The states at which probes began, the newest first: each began when there were so many changes.
abbrev pub states_at : List Tree → TypingMode → Inference → List ℕ → List State
states_at ts mode s marks = map (λ n. state_of ts mode (back_to n s)) marks

-- All numbers are of the context, also those that are kept to undo changes.

abbrev pub IsValue : List Tree → Option GenericArg → Type 0
IsValue ts None = Unit {0}
IsValue ts (Some v) = IsArg ts v

abbrev pub IsEntry : List Tree → Entry → Type 0
IsEntry ts e = IsValue ts e.value

abbrev pub IsChange : List Tree → Change → Type 0
IsChange ts (C.Value n v) = IsValue ts v
IsChange ts _ = Unit {0}

pub record IsKnown (ts : List Tree) (s : Inference) : Type 0 where
  pub values : Each (IsEntry ts) s.variables
  pub regions : Each (IsClause ts) s.regions
  pub goals : Each (λ g. IsGoal ts g.1) s.goals
  pub changes : Each (IsChange ts) s.trail

-- Each probe began no later than those after it, of so many changes; the newest first.
abbrev pub AreMarks : ℕ → List ℕ → Type 0
AreMarks n [] = Unit {0}
AreMarks n (k ∷ ks) = (k ≤ n) × AreMarks k ks

-- a value is of its variable's kind
abbrev pub SuitsKind : List Tree → Entry → Type 0
SuitsKind ts e = (v : GenericArg) → e.value ≡ Some v → fits_kind e.kind (arg_tree ts v).head ≡ true

-- a variable of types or constants
abbrev pub is_open : Head → Bool
is_open (H.Infer v) = true
is_open _ = false

-- Where a variable stands in its value, the number of the variable that has it is one of these.
abbrev pub IsWithin : List Tree → ℕ → ℕ → ℕ → Entry → Type 0
IsWithin ts first end n e = (v : GenericArg) → e.value ≡ Some v → tree_holds is_open (arg_tree ts v) ≡ true → (first ≤ n) × (n < end)

-- of each member, told its number
abbrev pub EachAt : {A : Type 0} → (ℕ → A → Type 0) → ℕ → List A → Type 0
EachAt P n [] = Unit {0}
EachAt P n (x ∷ xs) = P n x × EachAt P (suc n) xs

-- The goals that are pending are among those that were added, values are of their variables' kinds, those in which a variable stands
-- are where they are said to be, and no universe is above the newest.
pub record IsTidy (ts : List Tree) (s : Inference) : Type 0 where
  pub pending : s.first_pending ≤ length s.goals
  pub kinds : Each (SuitsKind ts) s.variables
  pub room : EachAt (IsWithin ts s.first_open s.end_open) 0 s.variables
  pub universes : Each (λ (e : Entry). e.universe ≤ s.newest_universe) s.variables

-- It is so now, and whatever is undone.
abbrev pub StaysTidy : List Tree → Inference → Type 0
StaysTidy ts s = (n : ℕ) → IsTidy ts (back_to n s)

-- What holds of all that is kept, between calls.
pub record IsConsistent (ts : List Tree) (s : Inference) (ks : List ℕ) : Type 0 where
  pub known : IsKnown ts s
  pub marks : AreMarks (length s.trail) ks
  pub tidy : StaysTidy ts s

-- Aliases, each with the type that it is normalised to; and whether others may be any type in coherence.
pub record NormalForms : Type 0 where
  pub pairs : List (Ty × Ty)
  pub is_open : Bool

-- The pairs by their trees.

abbrev pub pairs_of : List Tree → List (Ty × Ty) → List (Tree × Tree)
pairs_of ts ps = map (λ (p : Ty × Ty). (ty_tree ts p.0, ty_tree ts p.1)) ps

abbrev pub rigid_otherwise : List (Tree × Tree) → Listing
rigid_otherwise ps = record { pairs = ps; is_open = false }

-- Other aliases are rigid.
abbrev pub listing_of : List Tree → List (Ty × Ty) → Listing
listing_of ts ps = rigid_otherwise (pairs_of ts ps)

-- Other aliases are as it is said.
abbrev pub listing_by : List Tree → NormalForms → Listing
listing_by ts n = record { pairs = pairs_of ts n.pairs; is_open = n.is_open }

abbrev pub AreTypes : List Tree → Ty × Ty → Type 0
AreTypes ts p = IsTy ts p.0 × IsTy ts p.1

abbrev pub is_opaque : Head → Bool
is_opaque (H.Alias AK.Opaque i) = true
is_opaque _ = false

-- An opaque type that may be hidden behind a variable: no bound variable escapes from it, and it has no variable and no parameter.
pub record MayBeHidden (t : Tree) : Type 0 where
  pub is_opaque : is_opaque t.head ≡ true
  pub is_closed : escapes 0 (alone t) ≡ false
  pub has_no_variable : holds is_unsolved (alone t) ≡ false
  pub no_parameter : holds is_param (alone t) ≡ false

-- The alias is a type of the context.
pub record IsType (ts : List Tree) (a : AliasTy) : Type 0 where
  pub ty : Ty
  pub sort : IsTy ts ty
  pub tree : ty_tree ts ty ≡ kind_tree ts (K.Alias a)

-- What an evaluator is given besides the context: listed pairs, and opaque types that may be hidden.
pub record IsGiven (ts : List Tree) (normal : List (Ty × Ty)) (opaques : List AliasTy) : Type 0 where
  pub types : Each (AreTypes ts) normal
  pub listing : IsListing (listing_of ts normal)
  pub opaques_fit : Each (λ a. KindFits ts (K.Alias a)) opaques
  pub opaques_are : Each (IsType ts) opaques
  pub opaques_hidden : Each MayBeHidden (alias_trees ts opaques)

-- Values hold no variable that has a value: now, and when each open probe began. While a variable gets its value, and the values of
-- others with it, it may be otherwise.

abbrev pub HasResolvedValues : List Tree → Inference → Type 0
HasResolvedValues ts s = (m : TypingMode) → AreResolved (state_of ts m s)

pub record StaysResolved (ts : List Tree) (s : Inference) (ks : List ℕ) : Type 0 where
  pub now : HasResolvedValues ts s
  pub at_marks : Each (λ n. HasResolvedValues ts (back_to n s)) ks

pub record EvaluatorParts (c : Context) (s : Inference) (ks : List ℕ) (normal : NormalForms) (opaques : List AliasTy) (goals : Goals) : Type 0 where
  pub consistent : IsConsistent c.trees s ks
  pub resolved : StaysResolved c.trees s ks
  pub given : IsGiven c.trees normal.pairs opaques
  pub tabled : IsTabled c.trees goals
  -- each Yes of the table has a derivation
  pub derived : TableIsDerived c (listing_by c.trees normal) (table_seen c.trees goals.table)

-- All that holds of an evaluator between calls. It is opaque: a tactic reads each part of a fact that it can see into, and few proofs
-- need one.
unfoldable pub IsEvaluator : Context → Inference → List ℕ → NormalForms → List AliasTy → Goals → Type 0
IsEvaluator c s ks normal opaques goals = EvaluatorParts c s ks normal opaques goals

-- What contracts see of an evaluator that works in rounds.
pub record Evaluator : Type 0 where
  pub context : Context
  pub mode : TypingMode
  pub normal : NormalForms
  pub opaques : List AliasTy
  pub goals : Goals
  pub inference : Inference
  -- how many changes there were when each open probe began, the newest first
  pub marks : List ℕ

abbrev pub state : Evaluator → State
state r = state_of r.context.trees r.mode r.inference

-- the tree of a number of the context
abbrev pub tree_of : Evaluator → ℕ → Tree
tree_of r n = tree_at r.context.trees n

-- The argument is the value of the variable of that kind and number, and is of that kind.
abbrev pub IsValueAs : Evaluator → VariableKind → ℕ → GenericArg → Type 0
IsValueAs r k n v =
    let t = arg_tree r.context.trees v in IsArg r.context.trees v × (value_as (state r) k n ≡ Some t) × (fits_kind k t.head ≡ true)

abbrev pub probes : Evaluator → List State
probes r = states_at r.context.trees r.mode r.inference r.marks

-- A variable that comes with a goal is of the root universe.
abbrev pub with_root : State → VariableKind → State
with_root S k = record S { variables = S.variables ++ record { kind = k; universe = 0; value = None; is_root = true } ∷ [] }

-- What the evaluator was given besides the context stays as it was, its mode and the table with it.
abbrev pub KeepsGiven : Evaluator → Evaluator → Type 0
KeepsGiven old new = (new.normal ≡ old.normal) × (new.opaques ≡ old.opaques) × (new.goals.table ≡ old.goals.table) × (new.mode ≡ old.mode)

-- The listed pairs by their trees.
abbrev pub listing : Evaluator → Listing
listing r = listing_by r.context.trees r.normal

-- What is said by listed pairs and a state, said at the evaluator: by its own.
abbrev pub judged_at : {A : Type 0} → Evaluator → (Listing → State → A) → A
judged_at r f = f (listing r) (state r)

-- What equating comes to that leaves these goals pending: their trees, and the evaluator's state.
abbrev pub leaving : Evaluator → List (GoalSource × OfNumbers Clause) → Option (List Pending × State)
leaving r gs = Some (pendings_of r.context.trees gs, state r)

-- The table by its trees, and what of it may be read.

abbrev pub table_of : Evaluator → GoalTable Via
table_of r = table_seen r.context.trees r.goals.table

-- of each goal of the table, whether it is noted that its verdict may rest on a region that leaks
abbrev pub notes_of : Evaluator → List Bool
notes_of r = map (λ (e : GoalEntry). e.1.leaks) r.goals.table

-- The part of the table that is sure: nothing is written there for the goals of which that is noted.
abbrev pub sure_of : Evaluator → GoalTable Via
sure_of r = without_noted (notes_of r) (table_of r)

abbrev pub reading : Evaluator → GoalTable Via
reading r = well_entered (table_of r)

abbrev pub reads : Evaluator → Reads
reads r = record { listing = listing r; table = reading r }

-- The evaluator goes on: nodes may have been made, and what is known may be more. Nothing else is changed, no fault is
-- put off, and what is known can be undone.
abbrev pub GoesOn : Evaluator → Evaluator → Type 0
GoesOn old new =
    Grows old.context new.context × KeepsGiven old new × (new.mode ≡ old.mode) × (new.marks ≡ old.marks) × IsFurther old.inference new.inference
    × NoFault old.context new.context
