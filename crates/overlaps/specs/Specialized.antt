-- When an impl specialises another one.
use Rattle.std.specs.Prelude.{◌≡◌, ◌++◌, ◌∷◌, [], ℕ, List, Some, map}
use Rattle.ir_trees.specs.declared.decl.contents.ImplId.{ImplId}
use Rattle.ir_trees.specs.declared.ir.kinds.Clause.{Clause}
use Rattle.ir_trees.specs.Declarations.Context.{Context, Grows}
use Rattle.ir_trees.specs.Declarations.Contents.{Impl}
use Rattle.ir_trees.specs.Hierarchy.Elaboration.{IsElaboration}
use Rattle.ir_trees.specs.Instantiation.Folding.{substituted, substituted_tree}
use Rattle.ir_trees.specs.Syntax.Trees.{Forest, Tree}
use Rattle.ir_trees.specs.Syntax.Words.{IsClause, args_forest, clause_tree}
use Rattle.ir_trees.specs.Unification.Substitutions.{alone}
use Rattle.candidate_eval.specs.Interface.Evaluators.{accepted, rigid}
use Rattle.candidate_eval.specs.Judges.States.{Env, Judge, State, resolved_tree}
use Rattle.candidate_assembly.specs.Answers.KnownImpls.{header_at, header_of, kinds_of_impl}
use Rattle.candidate_assembly.specs.Rules.Opaques.{with_type_for}
use Rattle.candidate_eval.specs.Dynamic.Required.{each_of}
use Rattle.candidate_rounds.specs.Evaluators.Interface.{fixed, judge_of}
use Rattle.candidate_rounds.specs.Evaluators.Known.{Each, Evaluator, state, sure_of}
use Rattle.candidate_rounds.specs.Evaluators.Leaking.{Leaks}
use Rattle.candidate_rounds.specs.Table.Goals.{Via}
use Rattle.rounds_judge.specs.Table.GoalTable.{GoalTable}
use Rattle.overlaps.specs.Answered.{Holds}
use Rattle.overlaps.specs.Apart.{IfDeclared, OfDeclared, aside, entered, opened}
use Rattle.overlaps.specs.Instance.{HaveNoAlias}
use Rattle.overlaps.specs.Refused.{locals_of}
use Rattle.overlaps.specs.Stopping.{IsLater}
use Rattle.overlaps.specs.Together.{IsNormalUnder, SaysOfProjection, StandsIn, next_type}
use Rattle.overlaps.specs.declared.opening.Opened.{Opened}
use Rattle.overlaps.specs.declared.opening.Pair.{Pair}
use Rattle.overlaps.specs.declared.specializing.Specialization.{Specialization}
use Rattle.overlaps.specs.declared.specializing.Specialization.TheVariants as answer

-- Both are for one trait, and say the same of whether it holds.
pub record AreAlike (i j : Impl) : Type 0 where
  pub one_trait : i.trait_ref.def_id ≡ j.trait_ref.def_id
  pub one_polarity : i.polarity ≡ j.polarity

-- clauses with these in the place of their parameters
abbrev pub clauses_with : List Tree → Forest → List Clause → List Tree
clauses_with ts values xs = map (λ x. substituted_tree values (clause_tree ts x)) xs

-- the header and the where clauses of an impl, with placeholders of a fresh universe in the place of its parameters

abbrev pub entered_header : Context → State → Impl → Forest
entered_header c S i = substituted (rigid S (kinds_of_impl i)) 0 (header_of c i)

abbrev pub entered_wheres : Context → State → Impl → List Tree
entered_wheres c S i = clauses_with c.trees (rigid S (kinds_of_impl i)) i.wheres

-- The environment of these clauses and of all that they imply, as a context has it that comes after.
pub record IsEnvironmentOf (c : Context) (ts : List Tree) (env : Env) : Type 0 where
  pub later : Context
  pub grows : Grows c later
  pub elaborated : IsElaboration later ts (each_of env)

-- the same of an open impl's where clauses, with what stands for its parameters
abbrev pub IsEnvironmentOfOpen : Context → Opened → Env → Type 0
IsEnvironmentOfOpen c o env = IsEnvironmentOf c (clauses_with c.trees (args_forest c.trees o.locals) o.wheres.items) env

-- the header of an impl at the state, with fresh variables in the place of its parameters
abbrev pub open_header : Context → State → Impl → Forest
open_header c S i = (header_at c S i).arguments

-- A clause with types in the place of projections, from a state on under that environment, and the state that this leaves: all values are put in,
-- or a projection in it has a type, which stands in its place, where nothing is left pending; and so on.
pub data IsTypedAs (r : Evaluator) (env : Env) : State → Tree → State → Tree → Type 0 where
  as_it_is : {S : State} {x : Tree} → IsTypedAs r env S x S x
  with_values : {S T : State} {x y : Tree} → IsTypedAs r env S (resolved_tree S x) T y → IsTypedAs r env S x T y
  with_its_type : {S T U : State} {x y : Tree} (projection : Tree) → StandsIn projection (alone x) → IsNormalUnder r S env projection (Some T) → T.pending ≡ []
      → IsTypedAs r env T (with_type_for projection (next_type S) x) U y → IsTypedAs r env S x U y

-- Clauses hold by a table under that environment, from a state on, where some others were left before: what is left holds where no clause
-- remains, with all values put in. Of those that remain one may get types for projections in it; one is left; or what one says of a projection
-- holds, since that has a type, and this is made equal to what the clause says, with nothing left pending.
pub data HoldBy (r : Evaluator) (env : Env) (T : GoalTable Via) : State → List Tree → List Tree → Type 0 where
  what_is_left : {S : State} {left : List Tree} → Each (λ x. Holds env T S (resolved_tree S x)) left → HoldBy r env T S left []
  one_is_left : {S : State} {left xs : List Tree} {x : Tree} → HoldBy r env T S (left ++ x ∷ []) xs → HoldBy r env T S left (x ∷ xs)
  one_is_typed : {S U : State} {left xs : List Tree} {x y : Tree} → IsTypedAs r env S x U y → HoldBy r env T U left (y ∷ xs) → HoldBy r env T S left (x ∷ xs)
  one_is_as_said : {S U V : State} {left xs : List Tree} {x : Tree} (projection term : Tree) (by : Evaluator) → SaysOfProjection x projection term
      → IsNormalUnder r S env projection (Some U) → IsLater r by → accepted (judge_of (fixed by)) U env (alone (next_type S)) (alone term) ≡ Some V → V.pending ≡ []
      → HoldBy r env T V left xs → HoldBy r env T S left (x ∷ xs)

-- a clause that is left, with its number; and the trees of such

abbrev pub Left : Type 0
Left = ℕ × Clause

abbrev pub IsLeft : List Tree → Left → Type 0
IsLeft ts l = IsClause ts l.1

abbrev pub trees_of : List Tree → List Left → List Tree
trees_of ts ls = map (λ l. clause_tree ts l.1) ls

-- A clause holds by an evaluator's table, with all values put in.
abbrev pub HoldsAt : Evaluator → Env → Tree → Type 0
HoldsAt r env x = Holds env (sure_of r) (state r) (resolved_tree (state r) x)

-- What a call made of a clause is this one, with types in the place of projections.
abbrev pub IsTypedBy : Evaluator → Evaluator → Env → Tree → Clause → Type 0
IsTypedBy old new env x y = IsTypedAs old env (state old) x (state new) (clause_tree new.context.trees y)

-- After a call each clause that says that the projection is the term holds: where others do after it, they do before it beside the clause.
abbrev pub HoldsAsSaid : Evaluator → Evaluator → Env → Tree → Tree → Type 0
HoldsAsSaid old new env projection term = (x : Tree) (T : GoalTable Via) (left xs : List Tree) → SaysOfProjection x projection term
    → HoldBy new env T (state new) left xs → HoldBy old env T (state old) left (x ∷ xs)

-- A clause was taken up by a call, and these are left in the place of those before: where others hold after it, they do before it beside the
-- clause; and the same of all clauses.

pub record IsTakenUp (old new : Evaluator) (env : Env) (x : Tree) (before after : List Left) : Type 0 where
  pub fit : Each (IsLeft new.context.trees) after
  pub follows : (T : GoalTable Via) (xs : List Tree) → HoldBy new env T (state new) (trees_of new.context.trees after) xs → HoldBy old env T (state old) (trees_of old.context.trees before) (x ∷ xs)

pub record AreTakenUp (old new : Evaluator) (env : Env) (xs : List Tree) (left : List Left) : Type 0 where
  pub fit : Each (IsLeft new.context.trees) left
  pub follows : (T : GoalTable Via) → HoldBy new env T (state new) (trees_of new.context.trees left) [] → HoldBy old env T (state old) [] xs

-- By an accepted equation of both headers, told the state that it leaves, that of the second impl is that of the first one: no alias stands in
-- them, and the second one has fresh variables for its impl's parameters.
pub record IsInstanceBy (J : Judge) (c : Context) (S : State) (env : Env) (i j : Impl) (after : State) : Type 0 where
  pub no_alias : HaveNoAlias (open_header c (entered S i) j) (entered_header c S i)
  pub equal : accepted J (opened (entered S i) j) env (open_header c (entered S i) j) (entered_header c S i) ≡ Some after

-- At that state of an evaluator the first impl specialises the second one. They are alike; under the environment of the first one's where clauses
-- its header is an instance of the other's, where no region leaks that a binder of them binds; and from there on the where clauses of the other hold by the table.
pub record Specializes (old : Evaluator) (S : State) (T : GoalTable Via) (i j : Impl) : Type 0 where
  pub alike : AreAlike i j
  pub env : Env
  pub is_env : IsEnvironmentOf old.context (entered_wheres old.context S i) env
  pub after : State
  pub instance : IsInstanceBy (judge_of (fixed old)) old.context S env i j after
  pub no_leak : Leaks (entered S i).newest_universe after → ⊥
  pub hold : HoldBy old env T (aside after) [] (clauses_with old.context.trees (locals_of (entered S i) j) j.wheres)

-- What an answer says of two impls, with nothing pending.
abbrev pub IsSpecialization : Evaluator → Evaluator → ImplId → ImplId → Specialization → Type 0
IsSpecialization old new a b answer.Specializes = OfDeclared old.context a b (Specializes old (aside (state old)) (sure_of new))
IsSpecialization old new a b answer.Unlike = IfDeclared old.context a b (λ i j. AreAlike i j → ⊥)
IsSpecialization old new a b _ = Unit {0}

-- What it says of impls at that state that are alike.
abbrev pub IsSpecializationAt : Evaluator → State → GoalTable Via → ImplId → ImplId → Specialization → Type 0
IsSpecializationAt old S T a b answer.Specializes = OfDeclared old.context a b (Specializes old S T)
IsSpecializationAt old S T a b answer.Unlike = IfDeclared old.context a b (λ i j. ⊥)
IsSpecializationAt old S T a b _ = Unit {0}

-- What it says of where clauses that are left.
abbrev pub IsFoundOfLeft : Evaluator → Env → GoalTable Via → List Left → Specialization → Type 0
IsFoundOfLeft r env T left answer.Specializes = Each (λ l. Holds env T (state r) (resolved_tree (state r) (clause_tree r.context.trees l.1))) left
IsFoundOfLeft r env T left answer.Unlike = ⊥
IsFoundOfLeft r env T left _ = Unit {0}

-- What it says of open impls under that environment: of the second one, where the headers are equal; and of both.

abbrev pub IsFoundWhereEqual : Evaluator → Env → GoalTable Via → Opened → Specialization → Type 0
IsFoundWhereEqual r env T o answer.Specializes = HoldBy r env T (state r) [] (clauses_with r.context.trees (args_forest r.context.trees o.locals) o.wheres.items)
IsFoundWhereEqual r env T o answer.Unlike = ⊥
IsFoundWhereEqual r env T o _ = Unit {0}

pub record PairSpecializes (r : Evaluator) (env : Env) (T : GoalTable Via) (p : Pair) : Type 0 where
  pub no_alias : HaveNoAlias (args_forest r.context.trees p.second.header) (args_forest r.context.trees p.first.header)
  pub after : State
  pub equal : accepted (judge_of (fixed r)) (state r) env (args_forest r.context.trees p.second.header) (args_forest r.context.trees p.first.header) ≡ Some after
  pub no_leak : Leaks (state r).newest_universe after → ⊥
  pub hold : HoldBy r env T (aside after) [] (clauses_with r.context.trees (args_forest r.context.trees p.second.locals) p.second.wheres.items)

abbrev pub IsFoundOfPair : Evaluator → Env → GoalTable Via → Pair → Specialization → Type 0
IsFoundOfPair r env T p answer.Specializes = PairSpecializes r env T p
IsFoundOfPair r env T p answer.Unlike = ⊥
IsFoundOfPair r env T p _ = Unit {0}
