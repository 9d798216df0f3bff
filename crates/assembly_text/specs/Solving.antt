-- What a goal of a text comes to: an evaluator is made for it, and so many rounds at most are done.
use Rattle.std.specs.Prelude.{◌≡◌, ℕ, zero, suc, true, false, Option, Some, None, List, [], ◌++◌, All, if◌then◌else◌, take}
use Rattle.ir_trees.specs.declared.ir.kinds.Clause.{Clause}
use Rattle.ir_trees.specs.declared.ir.kinds.ParamEnv.{ParamEnv}
use Rattle.ir_trees.specs.declared.ir.kinds.TraitPredicate.{TraitPredicate}
use Rattle.ir_trees.specs.declared.ir.kinds.Ty.{Ty}
use Rattle.ir_trees.specs.Declarations.Context.{Context, Grows, world}
use Rattle.ir_trees.specs.Declarations.References.{ArgumentsFit}
use Rattle.ir_trees.specs.Instantiation.Owned.{is_unsolved}
use Rattle.ir_trees.specs.Syntax.Binders.{escapes}
use Rattle.ir_trees.specs.Syntax.Trees.{Forest, Tree, holds}
use Rattle.ir_trees.specs.Syntax.Words.{IsArgs, IsParamEnv, IsTy, args_forest, clause_list_forest, env_forest, ty_tree}
use Rattle.ir_trees.specs.declared.ir.heads.VariableSort.TheVariants.{General}
use Rattle.candidate_eval.specs.declared.eval.mode.TypingMode.{TypingMode}
use Rattle.candidate_eval.specs.declared.eval.variable.VariableKind.TheVariants.{Term}
use Rattle.candidate_eval.specs.Judges.States.{State}
use Rattle.candidate_eval.specs.Knowability.Calls.{HasNoParam}
use Rattle.candidate_assembly.specs.Goals.TraitGoals.{trait_goal}
use Rattle.candidate_rounds.specs.declared.rounds.goals.Verdict.{Verdict}
use Rattle.candidate_rounds.specs.Evaluators.Interface.{Fixed, fixed}
use Rattle.candidate_rounds.specs.Evaluators.Known.{Evaluator, listing_of, state, table_of, with_root}
use Rattle.candidate_rounds.specs.Table.Goals.{verdict_seen}
use Rattle.candidate_rounds.specs.Table.Running.{StaysBesideTable, computing}
use Rattle.rounds_judge.specs.Aliases.WellListed.{may_be_listed, well_listed}
use Rattle.rounds_judge.specs.Table.GoalTable.{may_be_asked, verdict_in}
use Rattle.rounds_judge.specs.Table.Keys.{Key, fresh_state, key_at}
use Rattle.candidate_rounds.specs.Table.Efforts.{Runs}
use Rattle.assembly_notation.specs.declared.given.Given.{Given}
use Rattle.assembly_notation.specs.Given.{GivenFits}
use Rattle.assembly_text.specs.Printing.{AddsVerdict, verdict_text}
use Rattle.candidate_rounds.specs.declared.rounds.effort.Effort.{Effort}

-- An alias that may be listed with the type beside it.
pub record IsListedForm (ts : List Tree) (p : Ty × Ty) : Type 0 where
  pub sort : IsTy ts p.0
  pub ty : IsTy ts p.1
  pub may_be : may_be_listed (ty_tree ts p.0, ty_tree ts p.1) ≡ true

-- What is given is of the context, and each of its aliases may be listed, so that an evaluator may take them all.
pub record GivenIsListed (ts : List Tree) (g : Given) : Type 0 where
  pub fits : GivenFits ts g
  pub listed : All (IsListedForm ts) g.normal_forms.items

-- These nodes came with the declarations, so they are never taken back.
abbrev pub ListedIsDeclared : Context → Given → Type 0
ListedIsDeclared c g = GivenIsListed (take c.declared_nodes c.trees) g

-- So many root variables more, for any types.
abbrev pub with_roots : ℕ → State → State
with_roots zero S = S
with_roots (suc n) S = with_root (with_roots n S) (Term General)

-- As many as a text can spell, where a variable stands in the arguments; else none.
abbrev pub roots_for : Forest → ℕ
roots_for f = if holds is_unsolved f then 256 else 0

-- nothing is known
abbrev pub nothing_known : TypingMode → State
nothing_known m = fresh_state m 0 []

-- What an evaluator answers by that has the context's declarations, and the mode and the normal forms that are given, of which it takes those that
-- may be listed; no opaque types that may be hidden, and an empty table.
abbrev pub fixed_for : Context → Given → Fixed
fixed_for c g = record {
  world = world c;
  local_crate = c.local.0;
  limits = c.limits;
  mode = g.mode;
  listing = well_listed (listing_of c.trees g.normal_forms.items);
  opaques = [];
  table = [];
  notes = [];
}

-- The same, but that aliases that aren't listed may be any type in coherence.
abbrev pub fixed_openly : Context → Given → Fixed
fixed_openly c g = record (fixed_for c g) { listing = record { pairs = (fixed_for c g).listing.pairs; is_open = true } }

-- The key of a goal at what an evaluator knows.
abbrev pub key_for : Evaluator → ParamEnv → TraitPredicate → Key
key_for r env p = key_at (state r) (trait_goal r.context.trees env p)

-- The predicate of a goal that was read: its arguments are the context's, no parameter stands in them, and its trait takes them.
pub record IsReadGoal (c : Context) (p : TraitPredicate) : Type 0 where
  pub args : IsArgs c.trees p.trait_ref.args
  pub no_param : HasNoParam c p.trait_ref
  pub fit : ArgumentsFit c p.trait_ref

-- What a goal comes to in an evaluator, and the evaluator that is left: nothing, where it may not be asked; else the verdict that a run of
-- so many rounds at most leaves for it. Its key is looked at first, which changes nothing but nodes.
pub data Comes (r : Evaluator) (env : ParamEnv) (p : TraitPredicate) (effort : Effort) (last : Evaluator) : Option Verdict → Type 0 where
  not_asked : (s : Evaluator) → StaysBesideTable r s → may_be_asked (key_for s env p) ≡ false → Comes r env p effort last None
  ran : (s : Evaluator) (v : Verdict) → StaysBesideTable r s → table_of s ≡ table_of r → Runs (computing s) (key_for s env p) effort (table_of s) (table_of last)
      → verdict_in (table_of last) (key_for s env p) ≡ Some (verdict_seen last.context.trees v) → Comes r env p effort last (Some v)

-- The evaluator is the first one, with root variables if the goal has variables; and the environment has these clauses, in their order.
pub record IsReady (first : Evaluator) (cs : List Clause) (p : TraitPredicate) (r : Evaluator) (env : ParamEnv) : Type 0 where
  pub grows : Grows first.context r.context
  pub fixed_same : fixed r ≡ fixed first
  pub roots : state r ≡ with_roots (roots_for (args_forest first.context.trees p.trait_ref.args)) (state first)
  pub sort : IsParamEnv r.context.trees env
  pub clauses : env_forest r.context.trees env ≡ clause_list_forest first.context.trees cs

-- What a goal comes to under clauses; nothing, where a bound variable escapes from it.
pub data ComesUnder (first last : Evaluator) (cs : List Clause) (p : TraitPredicate) (effort : Effort) : Option Verdict → Type 0 where
  open_goal : escapes 0 (args_forest first.context.trees p.trait_ref.args) ≡ true → ComesUnder first last cs p effort None
  asked : (r : Evaluator) (env : ParamEnv) {v : Option Verdict} → IsReady first cs p r env → Comes r env p effort last v → ComesUnder first last cs p effort v

-- A new evaluator over the context: it answers by what is given, knows nothing yet, and is in the given mode.
pub record IsNewFor (c : Context) (g : Given) (r : Evaluator) : Type 0 where
  pub context : r.context ≡ c
  pub fixed_is : fixed r ≡ fixed_for c g
  pub state_is : state r ≡ nothing_known g.mode

-- The same, but that aliases that aren't listed may be any type in coherence.
pub record IsOpenFor (c : Context) (g : Given) (r : Evaluator) : Type 0 where
  pub context : r.context ≡ c
  pub fixed_is : fixed r ≡ fixed_openly c g
  pub state_is : state r ≡ nothing_known g.mode

-- What a goal of a text comes to under what is given: what it comes to under the given clauses in a new evaluator, which knows nothing yet
-- and is in the given mode.
pub record IsSolved (c : Context) (g : Given) (p : TraitPredicate) (effort : Effort) (last : Context) (v : Option Verdict) : Type 0 where
  pub first : Evaluator
  pub left : Evaluator
  pub context : first.context ≡ c
  pub fixed_is : fixed first ≡ fixed_for c g
  pub state_is : state first ≡ nothing_known g.mode
  pub comes : ComesUnder first left g.clauses.items p effort v
  pub leaves : left.context ≡ last

-- To a text is added what the goal comes to, in words.
pub record AddsGoal (c : Context) (g : Given) (p : TraitPredicate) (effort : Effort) (last : Context) (old new : List ℕ) : Type 0 where
  pub verdict : Option Verdict
  pub solved : IsSolved c g p effort last verdict
  pub added : new ≡ old ++ verdict_text verdict

-- The same where values of variables are asked for besides, so that the evaluator and its context have gone on since.

abbrev pub ComesBefore : Evaluator → Evaluator → List Clause → TraitPredicate → Effort → Option Verdict → Type 0
ComesBefore first last cs p effort v = (left : Evaluator) × ComesUnder first left cs p effort v × Grows left.context last.context

abbrev pub IsSolvedBefore : Context → Given → TraitPredicate → Effort → Context → Option Verdict → Type 0
IsSolvedBefore c g p effort last v = (left : Context) × IsSolved c g p effort left v × Grows left last

-- the types that variables stand for are of the context
abbrev pub AreValues : List Tree → List (ℕ × Ty) → Type 0
AreValues ts xs = All (λ (x : ℕ × Ty). IsTy ts x.1) xs

-- To a text is added what the goal comes to, in words, and then some words for what variables stand for, or why it is so.
pub record AddsGoalWithValues (c : Context) (g : Given) (p : TraitPredicate) (effort : Effort) (last : Context) (old new : List ℕ) : Type 0 where
  pub verdict : Option Verdict
  pub solved : IsSolvedBefore c g p effort last verdict
  pub added : AddsVerdict verdict old new
