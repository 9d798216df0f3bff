-- Why it isn't known of two impls that both hold where their headers are equal: which where clauses are open there, each with a cause.
use Rattle.std.specs.Prelude.{◌≡◌, ◌++◌, ◌∷◌, [], ℕ, zero, suc, true, false, Option, None, Some, List, length, slice_get, if◌then◌else◌}
use Rattle.ir_trees.specs.declared.decl.contents.ImplId.{ImplId}
use Rattle.ir_trees.specs.declared.ir.kinds.Clause.{Clause}
use Rattle.ir_trees.specs.declared.ir.kinds.ParamEnv.{ParamEnv}
use Rattle.ir_trees.specs.declared.ir.kinds.TraitId.{TraitId}
use Rattle.ir_trees.specs.Declarations.Context.{Context, Grows}
use Rattle.ir_trees.specs.Declarations.Contents.{Impl}
use Rattle.ir_trees.specs.Declarations.Worlds.{Reference}
use Rattle.ir_trees.specs.Syntax.Trees.{Forest, none, Tree, holds, is_alias}
use Rattle.ir_trees.specs.Syntax.Words.{IsClause, args_forest, clause_tree, env_forest}
use Rattle.candidate_eval.specs.declared.coherence.Conflict.{Conflict}
use Rattle.candidate_eval.specs.declared.coherence.Conflict.TheVariants as K
use Rattle.candidate_eval.specs.declared.eval.mode.TypingMode.TheVariants.{Coherence}
use Rattle.candidate_eval.specs.Derivations.ImplRules.{TraitGoal}
use Rattle.candidate_eval.specs.Derivations.Judging.{judge_knows}
use Rattle.candidate_eval.specs.Dynamic.ObjectRequirements.{trait_said}
use Rattle.candidate_eval.specs.Interface.Evaluators.{accepted}
use Rattle.candidate_eval.specs.Judges.States.{Env, Judge, State}
use Rattle.candidate_eval.specs.Knowability.Orphan.{Downstream, Knowability, Upstream}
use Rattle.candidate_eval.specs.Outcomes.Responses.{Response, has_only_region_constraints}
use Rattle.candidate_assembly.specs.Answers.KnownImpls.{header_at}
use Rattle.candidate_rounds.specs.Calls.Standing.{stands_at}
use Rattle.candidate_rounds.specs.Evaluators.Interface.{Fixed, fixed, judge_of}
use Rattle.candidate_rounds.specs.Evaluators.Known.{Evaluator, listing, state}
use Rattle.candidate_rounds.specs.Table.Running.{judged_by}
use Rattle.candidate_rounds.specs.Table.Goals.{Via}
use Rattle.rounds_judge.specs.Equations.Opening.{are_open}
use Rattle.rounds_judge.specs.Table.GoalTable.{verdict_in}
use Rattle.rounds_judge.specs.Table.Keys.{key_at}
use Rattle.rounds_judge.specs.Table.Verdicts.{Maybe, Refused, Verdict, Yes}
use Rattle.overlaps.specs.Answered.{HoldsWith, is_outlives}
use Rattle.overlaps.specs.Apart.{AreOfOtherTraits, OfDeclared, aside, opened}
use Rattle.overlaps.specs.Asked.{AsksUnder}
use Rattle.overlaps.specs.Instance.{first_header, second_header}
use Rattle.overlaps.specs.Ordered.{in_order}
use Rattle.overlaps.specs.PartTraits.{MayRestOnPart}
use Rattle.overlaps.specs.Refused.{MakesHeadersEqual, clause_at, headers_equated, locals_of}
use Rattle.overlaps.specs.Uncertain.{HeadersHaveAlias}
use Rattle.overlaps.specs.declared.opening.Opened.{Opened}
use Rattle.overlaps.specs.declared.opening.Pair.{Pair}
use Rattle.overlaps.specs.declared.reasons.Cause.{Cause}
use Rattle.overlaps.specs.declared.reasons.Cause.TheVariants as C
use Rattle.overlaps.specs.declared.reasons.OpenClause.{OpenClause}

-- which other crate may write impls, by what is known of a reference
abbrev pub conflict_known : Knowability (Unit {0}) → Option Conflict
conflict_known Upstream = Some K.Upstream
conflict_known Downstream = Some K.Downstream
conflict_known _ = None

-- the same, as a judge knows it at a state, where types are normalised in that environment
abbrev pub conflict_at : Judge → State → Env → Reference → Option Conflict
conflict_at J S e r = conflict_known (judge_knows J e S r).answer

-- Why a goal of the reference may hold, whose verdict is a Maybe: an alias stands in its arguments; if none does, in coherence another crate
-- may write an impl of it; or there is no such reason.
pub data IsCauseOfMaybe (J : Judge) (S : State) (e : Env) (r : Reference) : Cause → Type 0 where
  by_alias : holds is_alias r.arguments ≡ true → IsCauseOfMaybe J S e r C.Alias
  by_conflict : (w : Conflict) → holds is_alias r.arguments ≡ false → S.mode ≡ Coherence → conflict_at J S e r ≡ Some w → IsCauseOfMaybe J S e r (C.Conflict w)
  by_nothing_else : holds is_alias r.arguments ≡ false → (S.mode ≡ Coherence → conflict_at J S e r ≡ None) → IsCauseOfMaybe J S e r C.Ambiguous

-- the cause where the table has nothing for a goal of the reference
abbrev pub cause_of_unasked : Reference → Cause
cause_of_unasked r = if holds is_alias r.arguments then C.Alias else C.NotAsked

-- Why a Yes isn't certain, for a goal of the trait: it gives a variable a value; or it gives none, and may rest on an impl of an auto trait, or on
-- unsizing, as a context has it that comes after.
pub data IsCauseOfYes (c : Context) (a : Response) (t : TraitId) : Cause → Type 0 where
  gives_values : has_only_region_constraints a ≡ false → IsCauseOfYes c a t C.GivesValues
  rests_on_part : (later : Context) → Grows c later → has_only_region_constraints a ≡ true → MayRestOnPart later t → IsCauseOfYes c a t C.RestsOnPart

-- Where clauses are looked at: what is declared, what is fixed of an evaluator with its table, what is known, and under which environment.
pub record Here : Type 0 where
  pub context : Context
  pub fixed : Fixed
  pub state : State
  pub env : Env

-- where an evaluator stands
abbrev pub here_at : Evaluator → ParamEnv → Here
here_at r env = record { context = r.context; fixed = judged_by r; state = state r; env = env_forest r.context.trees env }

-- what the first evaluator declares and the last one's table has, at that state, without an environment
abbrev pub here_after : Evaluator → Evaluator → State → Here
here_after old new S = record { context = old.context; fixed = judged_by new; state = S; env = none }

-- That is the cause, by what the table has for the goal.
abbrev pub IsCauseByVerdict : Here → TraitGoal → Option (Verdict Via) → Cause → Type 0
IsCauseByVerdict h g None w = w ≡ cause_of_unasked g.reference
IsCauseByVerdict h g (Some Refused) w = w ≡ C.Refused
IsCauseByVerdict h g (Some (Maybe a v)) w = IsCauseOfMaybe (judge_of h.fixed) h.state g.env g.reference w
IsCauseByVerdict h g (Some (Yes a v)) w = IsCauseOfYes h.context a (record { 0 = g.reference.trait }) w

-- Why it isn't certain that the goal holds: it doesn't stand there; or that is so by what the table has.
pub data IsCauseOfGoal (h : Here) (g : TraitGoal) : Cause → Type 0 where
  stands_not : (stands_at h.state g ≡ true → ⊥) → IsCauseOfGoal h g C.NotAsked
  by_verdict : {w : Cause} → IsCauseByVerdict h g (verdict_in h.fixed.table (key_at h.state g)) w → IsCauseOfGoal h g w

-- Why a clause, with all values put in, isn't certain: it says neither what outlives what, nor anything of a trait; or its goal isn't.
pub data IsCause (h : Here) (clause : Tree) : Cause → Type 0 where
  says_else : is_outlives clause.head ≡ false → trait_said clause.head ≡ None → IsCause h clause C.NoTrait
  of_goal : {w : Cause} (g : TraitGoal) → AsksUnder h.env clause g → IsCauseOfGoal h g w → IsCause h clause w

-- An impl with that in the place of its parameters, and with those where clauses.
pub record OpenImpl : Type 0 where
  pub number : ImplId
  pub locals : Forest
  pub wheres : List Clause

-- that of an open impl, and of a declared one with that number

abbrev pub open_impl : List Tree → Opened → OpenImpl
open_impl ts o = record { number = o.of; locals = args_forest ts o.locals; wheres = o.wheres.items }

abbrev pub declared_impl : ImplId → Forest → Impl → OpenImpl
declared_impl n locals i = record { number = n; locals = locals; wheres = i.wheres }

-- The where clause of that number holds by the table.
pub record IsAnsweredAt (h : Here) (o : OpenImpl) (n : ℕ) : Type 0 where
  pub clause : Clause
  pub is : slice_get o.wheres n ≡ Some clause
  pub holds : HoldsWith h.env h.context.trees h.fixed.table h.state o.locals clause

-- The where clause of that number is open there: it is named by the impl and the number, and said by a number of those trees, with its cause.
pub record IsOpenAt (h : Here) (ts : List Tree) (o : OpenImpl) (n : ℕ) (x : OpenClause) : Type 0 where
  pub clause : Clause
  pub is : slice_get o.wheres n ≡ Some clause
  pub place : x.place ≡ record { of = o.number; number = n }
  pub sort : IsClause ts x.clause
  pub says : clause_tree ts x.clause ≡ clause_at h.context h.state o.locals clause
  pub cause : IsCause h (clause_at h.context h.state o.locals clause) x.cause

-- one or the other
abbrev pub IsAskedAt : Here → List Tree → OpenImpl → ℕ → Option OpenClause → Type 0
IsAskedAt h ts o n None = IsAnsweredAt h o n
IsAskedAt h ts o n (Some x) = IsOpenAt h ts o n x

-- to a list is added the clause, if there is one
abbrev pub AddsIfOpen : Option OpenClause → List OpenClause → List OpenClause → Type 0
AddsIfOpen None old new = new ≡ old
AddsIfOpen (Some x) old new = new ≡ old ++ x ∷ []

-- Of so many where clauses of the impl those that are open are listed behind what was listed before, in their order, and each other one holds.
pub data ListsOpen (h : Here) (ts : List Tree) (o : OpenImpl) (before : List OpenClause) : ℕ → List OpenClause → Type 0 where
  lists_none : ListsOpen h ts o before zero before
  passes_over : {n : ℕ} {l : List OpenClause} → ListsOpen h ts o before n l → IsAnsweredAt h o n → ListsOpen h ts o before (suc n) l
  lists_one : {n : ℕ} {l : List OpenClause} (x : OpenClause) → ListsOpen h ts o before n l → IsOpenAt h ts o n x → ListsOpen h ts o before (suc n) (l ++ x ∷ [])

-- The same of all of them; and of those of two impls, one after the other.

abbrev pub ListsAll : Here → List Tree → OpenImpl → List OpenClause → List OpenClause → Type 0
ListsAll h ts o before l = ListsOpen h ts o before (length o.wheres) l

pub record ListsBoth (h : Here) (ts : List Tree) (first second : OpenImpl) (l : List OpenClause) : Type 0 where
  pub between : List OpenClause
  pub of_first : ListsAll h ts first [] between
  pub of_second : ListsAll h ts second between l

-- The same of open impls whose headers are equal at that state.
abbrev pub ListsWhereEqual : Evaluator → Evaluator → State → Pair → List OpenClause → Type 0
ListsWhereEqual old new S p l =
    ListsBoth (here_after old new S) new.context.trees (open_impl old.context.trees p.first) (open_impl old.context.trees p.second) l

-- Of open impls: their headers can't be made equal, or their equation decides nothing, and then no clause is listed; or the open ones are
-- listed at what it leaves.
pub data ListsOfPair (old new : Evaluator) (p : Pair) (l : List OpenClause) : Type 0 where
  pair_apart : headers_equated old p ≡ None → l ≡ [] → ListsOfPair old new p l
  pair_undecided : are_open (listing old) (state old) ≡ false → HeadersHaveAlias (args_forest old.context.trees p.first.header) (args_forest old.context.trees p.second.header) → l ≡ []
      → ListsOfPair old new p l
  pair_equal : (after : State) → headers_equated old p ≡ Some after → ListsWhereEqual old new (aside after) p l → ListsOfPair old new p l

-- the headers of two declared impls can't be made equal
abbrev pub KeepsHeadersApart : Judge → Context → State → Impl → Impl → Type 0
KeepsHeadersApart J c S i j = accepted J (opened (opened S i) j) none (header_at c S i).arguments (header_at c (opened S i) j).arguments ≡ None

-- The same of declared impls with these numbers, opened at that state.
pub data ListsOfImpls (old new : Evaluator) (S : State) (a b : ImplId) (l : List OpenClause) (i j : Impl) : Type 0 where
  impls_apart : KeepsHeadersApart (judge_of (fixed old)) old.context S i j → l ≡ [] → ListsOfImpls old new S a b l i j
  impls_undecided : are_open (listing old) (opened (opened S i) j) ≡ false → HeadersHaveAlias (first_header old.context S i j) (second_header old.context S i j) → l ≡ []
      → ListsOfImpls old new S a b l i j
  impls_equal : (after : State) → MakesHeadersEqual (judge_of (fixed old)) old.context S i j after
      → ListsBoth (here_after old new (aside after)) new.context.trees (declared_impl a (locals_of S i) i) (declared_impl b (locals_of (opened S i) j) j) l
      → ListsOfImpls old new S a b l i j

-- Of the impls of these numbers, at that state: they are of different traits, and no clause is listed; or both are declared, and it is so.
pub data HasOpenClausesAt (old new : Evaluator) (S : State) (a b : ImplId) (l : List OpenClause) : Type 0 where
  of_other_traits : AreOfOtherTraits old.context a b → l ≡ [] → HasOpenClausesAt old new S a b l
  of_declared : OfDeclared old.context a b (ListsOfImpls old new S a b l) → HasOpenClausesAt old new S a b l

-- Of two impls, with nothing pending: that of the lower number is the first one, whichever is given first.
abbrev pub HasOpenClauses : Evaluator → Evaluator → ImplId → ImplId → List OpenClause → Type 0
HasOpenClauses old new a b l = let p = in_order a b in HasOpenClausesAt old new (aside (state old)) p.0 p.1 l
