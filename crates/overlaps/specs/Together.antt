-- When goals can't hold together where an evaluator stands: what one of them gives is known to the others, and what projections in them are.
use Rattle.std.specs.Prelude.{◌≡◌, ◌∷◌, ◌++◌, [], ℕ, Bool, true, false, List, Option, Some, None, Ok, length, map}
use Rattle.std.specs.List.{Contains}
use Rattle.ir_trees.specs.declared.decl.contents.ImplId.{ImplId}
use Rattle.ir_trees.specs.declared.ir.heads.ClauseHead.TheVariants as clause
use Rattle.ir_trees.specs.declared.ir.heads.Head.TheVariants as head
use Rattle.ir_trees.specs.declared.ir.heads.PartHead.TheVariants as part
use Rattle.ir_trees.specs.declared.ir.heads.VariableSort.TheVariants.{General}
use Rattle.ir_trees.specs.declared.ir.kinds.AliasTy.{AliasTy}
use Rattle.ir_trees.specs.declared.ir.kinds.AssocId.{AssocId}
use Rattle.ir_trees.specs.declared.ir.kinds.Clause.{Clause}
use Rattle.ir_trees.specs.declared.ir.kinds.AliasKind.TheVariants as AK
use Rattle.ir_trees.specs.declared.ir.kinds.Goal.{Goal}
use Rattle.ir_trees.specs.declared.ir.kinds.GoalSource.{GoalSource}
use Rattle.ir_trees.specs.declared.ir.kinds.GoalSource.TheVariants.{ImplWhereBound}
use Rattle.ir_trees.specs.declared.ir.kinds.Ty.{Ty}
use Rattle.ir_trees.specs.declared.ir.kinds.ParamEnv.{ParamEnv}
use Rattle.ir_trees.specs.declared.ir.kinds.TyKind.TheVariants as kind
use Rattle.ir_trees.specs.Declarations.Context.{Context, Grows}
use Rattle.ir_trees.specs.Declarations.Contents.{Impl}
use Rattle.ir_trees.specs.Hierarchy.Supers.{after_first}
use Rattle.ir_trees.specs.Instantiation.Folding.{substituted_tree}
use Rattle.ir_trees.specs.Instantiation.Opening.{opened_clause}
use Rattle.ir_trees.specs.Syntax.Trees.{Forest, none, tree, Tree}
use Rattle.ir_trees.specs.Syntax.Words.{IsTy, KindFits, args_forest, clause_tree, env_forest, kind_tree, ty_tree}
use Rattle.ir_trees.specs.Unification.Substitutions.{alone}
use Rattle.candidate_eval.specs.declared.eval.certainty.Certainty.{Certainty}
use Rattle.candidate_eval.specs.declared.eval.certainty.Certainty.TheVariants.{Yes}
use Rattle.candidate_eval.specs.declared.eval.response.CanonicalResponse.{CanonicalResponse}
use Rattle.candidate_eval.specs.declared.eval.variable.VariableKind.TheVariants.{Term}
use Rattle.candidate_eval.specs.Derivations.Characterization.{bound_kinds}
use Rattle.candidate_eval.specs.Interface.Evaluators.{HasTree, IsGoal, accepted, pending_of, pendings_of, rigid, with_rigid}
use Rattle.candidate_eval.specs.Judges.States.{Env, Pending, State, resolved_tree, variable, with_pending}
use Rattle.candidate_eval.specs.Outcomes.ResponseTrees.{response_of}
use Rattle.candidate_eval.specs.Outcomes.Responses.{Response}
use Rattle.candidate_assembly.specs.Rules.Opaques.{with_type_for}
use Rattle.candidate_rounds.specs.Evaluators.Interface.{fixed, judge_of}
use Rattle.candidate_rounds.specs.Evaluators.Known.{Each, Evaluator, listing, state, sure_of, table_of}
use Rattle.candidate_rounds.specs.Table.Goals.{Via}
use Rattle.candidate_rounds.specs.Table.Normalized.{IsNormalized}
use Rattle.candidate_rounds.specs.Table.Normalizing.{goal_of_trait}
use Rattle.candidate_rounds.specs.Table.Projected.{with_normal}
use Rattle.rounds_judge.specs.Obligations.Settling.{alias_of, term_of}
use Rattle.rounds_judge.specs.Table.GoalTable.{GoalTable, verdict_in}
use Rattle.rounds_judge.specs.Table.Keys.{Key, key_at}
use Rattle.rounds_judge.specs.Table.Verdicts as verdict
use Rattle.overlaps.specs.Apart.{OfDeclared, aside, opened}
use Rattle.overlaps.specs.Ordered.{in_order}
use Rattle.overlaps.specs.Refused.{ClauseWasRefused, MakesHeadersEqual, headers_equated, locals_of}
use Rattle.overlaps.specs.PartTraits.{IsOfInstances, SpeaksOfNoPart}
use Rattle.overlaps.specs.Stopping.{IsLater}
use Rattle.overlaps.specs.declared.opening.Opened.{Opened}
use Rattle.overlaps.specs.declared.opening.Pair.{Pair}
use Rattle.overlaps.specs.declared.together.ProjectionType.{ProjectionType}
use Rattle.overlaps.specs.declared.together.ProjectionType.TheVariants as P
use Rattle.candidate_rounds.specs.declared.rounds.effort.Effort.{Effort}

-- The tree is one of the trees, or stands below one of them.
pub data StandsIn (t : Tree) : Forest → Type 0 where
  here : {rest : Forest} → StandsIn t (tree t.head t.children rest)
  below : {u : Tree} {rest : Forest} → StandsIn t u.children → StandsIn t (tree u.head u.children rest)
  beside : {u : Tree} {rest : Forest} → StandsIn t rest → StandsIn t (tree u.head u.children rest)

-- The clause says that the projection is the term.
pub record SaysOfProjection (c projection term : Tree) : Type 0 where
  pub item : AssocId
  pub head_is : c.head ≡ head.Part (part.Clause (clause.Projection item))
  pub projection_is : projection ≡ alias_of item (after_first c.children)
  pub term_is : term ≡ term_of (after_first c.children)

-- a goal with another clause, with all values put in, and with a type in the place of a projection

abbrev pub with_clause : Pending → Tree → Pending
with_clause p c = record p { goal = record { env = p.goal.env; clause = c } }

abbrev pub with_values : State → Pending → Pending
with_values S p = with_clause p (resolved_tree S p.goal.clause)

abbrev pub with_type : Tree → Tree → Pending → Pending
with_type projection type p = with_clause p (with_type_for projection type p.goal.clause)

-- the state in which that goal alone is pending
abbrev pub with_alone : State → Pending → State
with_alone S p = with_pending S (p ∷ [])

-- a state with placeholders of a fresh universe for what a clause binds, and the clause with these in the place of that

abbrev pub entered : State → Tree → State
entered S c = with_rigid S (bound_kinds c.children)

abbrev pub entered_clause : State → Tree → Tree
entered_clause S c = opened_clause (rigid S (bound_kinds c.children)) c

-- the variable that comes next where the state is left
abbrev pub next_type : State → Tree
next_type S = variable (Term General) (length S.variables)

-- The goal asks without an environment for what its clause says of a trait, and that is refused at the state, as coherence has it, by the table
-- of an evaluator that comes after.
pub record GoalIsRefused (r : Evaluator) (S : State) (p : Pending) : Type 0 where
  pub no_env : p.goal.env ≡ none
  pub by : Evaluator
  pub later : IsLater r by
  pub context : Context
  pub grows : Grows r.context context
  pub refused : ClauseWasRefused (judge_of (fixed by)) context S p.goal.clause

-- What the clause says under its binder was refused for placeholders in the place of what that binds, by the table that is left, as a context has it that
-- comes after the first.
pub record RefusesEntered (old new : Evaluator) (clause : Tree) : Type 0 where
  pub context : Context
  pub earlier : Grows old.context context
  pub refused : ClauseWasRefused (judge_of (fixed new)) context (entered (state old) clause) (entered_clause (state old) clause)

-- what is known once a response for a projection is given
abbrev pub gives_at : Evaluator → ParamEnv → AliasTy → CanonicalResponse → Option State
gives_at r env alias response = with_normal (listing r) (state r) (goal_of_trait r.context env alias) (response_of r.context.trees response)

-- The table has a yes for the goal of that key, which no further round takes back.
pub record HasYes (T : GoalTable Via) (k : Key) : Type 0 where
  pub response : Response
  pub way : Option Via
  pub yes : verdict_in T k ≡ Some (verdict.Yes response way)

-- What the projection's trait's goal comes to is so of its instances.
abbrev pub IsOfProjection : Context → ParamEnv → AliasTy → Type 0
IsOfProjection c env alias = let g = goal_of_trait c env alias in IsOfInstances c (record { 0 = g.reference.trait }) g.reference.arguments

-- At the state a sure answer says what the projection is and its instances are, asked of an evaluator that comes after, under that environment, and whose
-- table has a yes for the goal that the projection's trait holds, which rests on no region that leaks; and this is known once what it says is given, with the variable that comes next for
-- the type: nothing, where that can't be.
pub record IsNormalUnder (r : Evaluator) (S : State) (e : Env) (projection : Tree) (known : Option State) : Type 0 where
  pub by : Evaluator
  pub later : IsLater r by
  pub stands : state by ≡ S
  pub env : ParamEnv
  pub under : env_forest by.context.trees env ≡ e
  pub alias : AliasTy
  pub is : kind_tree by.context.trees (kind.Alias alias) ≡ projection
  pub effort : Effort
  pub table : GoalTable Via
  pub trees : List Tree
  pub response : CanonicalResponse
  pub trait_holds : HasYes (sure_of by) (key_at S (goal_of_trait by.context env alias))
  pub comes : IsNormalized trees by env alias effort table (Ok (Some response))
  pub sure : response.certainty ≡ Yes
  pub of_instances : IsOfProjection by.context env alias
  pub gives : with_normal (listing by) S (goal_of_trait by.context env alias) (response_of trees response) ≡ known

-- the same without an environment
abbrev pub IsNormalAt : Evaluator → State → Tree → Option State → Type 0
IsNormalAt r S projection known = IsNormalUnder r S none projection known

-- From the state on the goals can't hold together.
pub data CannotHold (r : Evaluator) : State → List Pending → Type 0 where
  -- one of them is refused
  one_is_refused : {S : State} {ps : List Pending} (p : Pending) → Contains ps p → GoalIsRefused r S p → CannotHold r S ps
  -- they can't with one in which all values are put in
  one_with_values : {S : State} {ps : List Pending} (p : Pending) → Contains ps p → CannotHold r S (with_values S p ∷ ps) → CannotHold r S ps
  -- they can't with what one says under its binder, for placeholders in the place of what that binds
  for_placeholders : {S : State} {ps : List Pending} (p : Pending) → Contains ps p
      → CannotHold r (entered S p.goal.clause) (with_clause p (entered_clause S p.goal.clause) ∷ ps) → CannotHold r S ps
  -- the judge of an evaluator that comes after refuses to settle one alone, which speaks of no trait that rests on a part of an auto trait's impls; or the
  -- others can't by what it gives, with what stays of it
  one_is_unsettled : {S : State} {ps : List Pending} (p : Pending) (by : Evaluator) → Contains ps p → SpeaksOfNoPart r.context p.goal.clause → IsLater r by
      → (judge_of (fixed by)).settled (with_alone S p) ≡ None → CannotHold r S ps
  one_is_settled : {S : State} {ps : List Pending} (p : Pending) (by : Evaluator) (x : Certainty) (T : State) → Contains ps p → SpeaksOfNoPart r.context p.goal.clause → IsLater r by
      → (judge_of (fixed by)).settled (with_alone S p) ≡ Some (x, T) → CannotHold r (aside T) (T.pending ++ ps) → CannotHold r S ps
  -- the type of a projection in the clause of one isn't possible; or they can't with it in the projection's place
  no_type : {S : State} {ps : List Pending} (p : Pending) (projection : Tree) → Contains ps p → StandsIn projection (alone p.goal.clause) → IsNormalAt r S projection None → CannotHold r S ps
  with_its_type : {S : State} {ps : List Pending} (p : Pending) (projection : Tree) (T : State) → Contains ps p → StandsIn projection (alone p.goal.clause)
      → IsNormalAt r S projection (Some T) → CannotHold r (aside T) (T.pending ++ with_type projection (next_type S) p ∷ ps) → CannotHold r S ps
  -- the same of a projection that a clause says is a term: it can't be that; or they can't where it is
  no_type_as_said : {S : State} {ps : List Pending} (p : Pending) (projection term : Tree) → Contains ps p → SaysOfProjection p.goal.clause projection term → IsNormalAt r S projection None
      → CannotHold r S ps
  other_type : {S : State} {ps : List Pending} (p : Pending) (projection term : Tree) (T : State) (by : Evaluator) → Contains ps p → SaysOfProjection p.goal.clause projection term
      → IsNormalAt r S projection (Some T) → IsLater r by → accepted (judge_of (fixed by)) T none (alone (next_type S)) (alone term) ≡ None → CannotHold r S ps
  same_type : {S : State} {ps : List Pending} (p : Pending) (projection term : Tree) (T U : State) (by : Evaluator) → Contains ps p → SaysOfProjection p.goal.clause projection term
      → IsNormalAt r S projection (Some T) → IsLater r by → accepted (judge_of (fixed by)) T none (alone (next_type S)) (alone term) ≡ Some U
      → CannotHold r (aside U) (U.pending ++ ps) → CannotHold r S ps

-- The goals of these numbers, each with its source.

abbrev pub Obligation : Type 0
Obligation = GoalSource × Goal Clause

abbrev pub IsObligation : List Tree → Obligation → Type 0
IsObligation ts g = IsGoal ts g.1

abbrev pub pending_at : Evaluator → Obligation → Pending
pending_at r g = pending_of r.context.trees g.0 g.1

abbrev pub pendings_at : Evaluator → List Obligation → List Pending
pendings_at r gs = pendings_of r.context.trees gs

-- These goals are left in the place of those before, by a call that took that one up: where all of them can't hold together with others, among
-- which it is, those before couldn't where the call began.
pub record AreLeft (old new : Evaluator) (goal : Obligation) (before after : List Obligation) : Type 0 where
  pub fit : Each (IsObligation new.context.trees) after
  pub none_pending : (state new).pending ≡ []
  pub follows : (ps : List Pending) → Contains ps (pending_at old goal) → CannotHold new (state new) (pendings_at new after ++ ps) → CannotHold old (state old) (pendings_at old before ++ ps)

-- The same of a call that took up all that were there.
pub record AreLeftOfAll (old new : Evaluator) (goals left : List Obligation) : Type 0 where
  pub fit : Each (IsObligation new.context.trees) left
  pub none_pending : (state new).pending ≡ []
  pub follows : CannotHold new (state new) (pendings_at new left) → CannotHold old (state old) (pendings_at old goals)

-- No goals among which this one is can hold together; or these are left in its place.
abbrev pub IsTried : Evaluator → Evaluator → Obligation → List Obligation → List Obligation → Bool → Type 0
IsTried old new goal before after true = (ps : List Pending) → Contains ps (pending_at old goal) → CannotHold old (state old) ps
IsTried old new goal before after false = AreLeft old new goal before after

-- What normalising a projection under an environment says of it, and leaves.
abbrev pub IsProjectedAs : Evaluator → Evaluator → Env → Tree → ProjectionType → Type 0
IsProjectedAs old new e projection P.Open = state new ≡ state old
IsProjectedAs old new e projection P.Impossible = IsNormalUnder old (state old) e projection None
IsProjectedAs old new e projection (P.Type type) =
    IsNormalUnder old (state old) e projection (Some (state new)) × HasTree new.context.trees type (next_type (state old))

-- That response came of normalising the projection by some effort, where the state stayed and the goal of its trait holds.
pub record CameOf (old new : Evaluator) (env : ParamEnv) (alias : AliasTy) (response : CanonicalResponse) : Type 0 where
  pub by : Evaluator
  pub later : IsLater old by
  pub stands : state by ≡ state old
  pub effort : Effort
  pub trait_holds : HasYes (sure_of by) (key_at (state by) (goal_of_trait by.context env alias))
  pub comes : IsNormalized new.context.trees by env alias effort (table_of new) (Ok (Some response))
  pub of_instances : IsOfProjection by.context env alias

-- What a response says of a projection was given, if it is sure.
abbrev pub IsGivenAs : Evaluator → Evaluator → ParamEnv → AliasTy → CanonicalResponse → ProjectionType → Type 0
IsGivenAs old new env alias response P.Open = state new ≡ state old
IsGivenAs old new env alias response P.Impossible = (response.certainty ≡ Yes) × (gives_at old env alias response ≡ None)
IsGivenAs old new env alias response (P.Type type) =
    (response.certainty ≡ Yes) × (gives_at old env alias response ≡ Some (state new)) × HasTree new.context.trees type (next_type (state old))

-- the type and the alias are a projection
pub record IsProjectionType (ts : List Tree) (type : Ty) (alias : AliasTy) : Type 0 where
  pub sort : IsTy ts type
  pub fits : KindFits ts (kind.Alias alias)
  pub projection : alias.kind ≡ AK.Projection
  pub is : kind_tree ts (kind.Alias alias) ≡ ty_tree ts type

-- The goals that declared where clauses are, with these for their parameters, and without an environment; and those of an open impl.

abbrev pub goals_of : Context → Forest → List Clause → List Pending
goals_of c locals xs = map (λ x. record { source = ImplWhereBound; goal = record { env = none; clause = substituted_tree locals (clause_tree c.trees x) } }) xs

abbrev pub goals_of_opened : Context → Opened → List Pending
goals_of_opened c o = goals_of c (args_forest c.trees o.locals) o.wheres.items

-- Of open impls: their headers were made equal, and there what that left pending and the where clauses of both can't hold together.
pub record CannotBothHold (r : Evaluator) (p : Pair) : Type 0 where
  pub after : State
  pub equal : headers_equated r p ≡ Some after
  pub cannot : CannotHold r (aside after) (after.pending ++ (goals_of_opened r.context p.first ++ goals_of_opened r.context p.second))

-- The same of declared impls, where the evaluator is at that state.
pub record ImplsCannotHold (r : Evaluator) (S : State) (i j : Impl) : Type 0 where
  pub after : State
  pub equal : MakesHeadersEqual (judge_of (fixed r)) r.context S i j after
  pub cannot : CannotHold r (aside after) (after.pending ++ (goals_of r.context (locals_of S i) i.wheres ++ goals_of r.context (locals_of (opened S i) j) j.wheres))

-- Of two impls, with nothing pending: that of the lower number is the first one, whichever is given first.
abbrev pub ClausesKeepApart : Evaluator → ImplId → ImplId → Type 0
ClausesKeepApart r a b = let p = in_order a b in OfDeclared r.context p.0 p.1 (ImplsCannotHold r (aside (state r)))
