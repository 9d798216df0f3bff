-- What the parts of an evaluated goal come to.
use Rattle.std.specs.Prelude.{◌≡◌, ℕ, Bool, ◌&&◌, ◌||◌, true, false, Option, Some, None, List, [], ◌∷◌, if◌then◌else◌}
use Rattle.ir_trees.specs.declared.ir.heads.Head.{Head}
use Rattle.ir_trees.specs.declared.ir.heads.Head.TheVariants as H
use Rattle.ir_trees.specs.declared.ir.heads.PartHead.TheVariants as P
use Rattle.ir_trees.specs.declared.ir.heads.ClauseHead.{ClauseHead}
use Rattle.ir_trees.specs.declared.ir.heads.ClauseHead.TheVariants as Cl
use Rattle.ir_trees.specs.declared.ir.kinds.AliasKind.TheVariants as A
use Rattle.ir_trees.specs.declared.ir.kinds.Clause.{Clause}
use Rattle.ir_trees.specs.declared.ir.kinds.ClauseKind.{ClauseKind}
use Rattle.ir_trees.specs.declared.ir.kinds.ClauseKind.TheVariants as CK
use Rattle.ir_trees.specs.declared.ir.kinds.GenericArg.{GenericArg}
use Rattle.ir_trees.specs.declared.ir.kinds.Goal.{Goal}
use Rattle.ir_trees.specs.declared.ir.kinds.GoalSource.{GoalSource}
use Rattle.ir_trees.specs.declared.ir.kinds.ParamEnv.{ParamEnv}
use Rattle.ir_trees.specs.declared.ir.kinds.ProjectionPredicate.{ProjectionPredicate}
use Rattle.ir_trees.specs.declared.ir.kinds.TyKind.{TyKind}
use Rattle.ir_trees.specs.declared.ir.kinds.TyKind.TheVariants as K
use Rattle.ir_trees.specs.declared.ir.kinds.VarKind.{VarKind}
use Rattle.ir_trees.specs.Declarations.Context.{Context, world}
use Rattle.ir_trees.specs.Declarations.References.{Takes}
use Rattle.ir_trees.specs.Instantiation.Folds.{IsArg, arg_tree}
use Rattle.ir_trees.specs.Unification.Substitutions.{alone}
use Rattle.ir_trees.specs.Hierarchy.Supers.{after_first}
use Rattle.ir_trees.specs.Syntax.Trees.{Forest, Tree, join}
use Rattle.ir_trees.specs.Syntax.Words.{IsArgs, IsTy, args_forest, clause_tree, env_forest, kind_tree, ty_tree}
use Rattle.candidate_eval.specs.Interface.Evaluators.{pending_of}
use Rattle.candidate_eval.specs.Derivations.ImplRules.{TraitGoal}
use Rattle.candidate_eval.specs.Judges.States.{Env, State, Pending, resolved, resolved_tree, next}
use Rattle.candidate_rounds.specs.declared.rounds.inference.Entry.{Entry}
use Rattle.candidate_rounds.specs.Evaluators.Known.{Evaluator, reads, state}
use Rattle.candidate_rounds.specs.Table.Goals.{Reads, Via}
use Rattle.rounds_judge.specs.Equations.Equating.{equated}
use Rattle.rounds_judge.specs.Aliases.Listed.{Listing, listed}
use Rattle.rounds_judge.specs.Table.GoalTable.{verdict_in}
use Rattle.rounds_judge.specs.Table.Keys.{Key, goal_trees, key_at, numbers_at, trait_goal_of}
use Rattle.rounds_judge.specs.Obligations.Settling.{alias_of, first_fact, has_unlisted, recorded, term_of}
use Rattle.rounds_judge.specs.Equations.Opening.{are_open}
use Rattle.rounds_judge.specs.Table.TableSettling.{Try, are_bare, given, tried_with}
use Rattle.rounds_judge.specs.Table.Verdicts.{Verdict, Yes, Refused}

-- the goal that stays, if one does
abbrev pub left_of : List Tree → Option (GoalSource × Goal Clause) → List Pending
left_of ts None = []
left_of ts (Some g) = pending_of ts g.0 g.1 ∷ []

-- An alias of which all values were put in, by the type that is listed for it: that is made equal to the term. The answer says
-- whether one is listed.

abbrev pub answered_by : Listing → State → Tree → Option Tree → Option (Bool × State)
answered_by l S t None = Some (false, S)
answered_by l S t (Some u) = if are_open l S && has_unlisted l S (alone t) then Some (false, S) else next (equated l S (alone u) (alone t)) (λ T. Some (true, T))

abbrev pub answered : Listing → State → Tree → Tree → Option (Bool × State)
answered l S a t = answered_by l S t (listed l (resolved_tree S a))

-- Two trees that are to be one are made equal, once no alias stands in them that isn't listed.
abbrev pub answered_related : Listing → State → Tree → Tree → Option (Bool × State)
answered_related l S t u =
    if has_unlisted l S (alone t) || has_unlisted l S (alone u) then Some (false, S) else next (equated l S (alone t) (alone u)) (λ T. Some (true, T))

-- the alias of a projection
abbrev pub projection_of : ProjectionPredicate → TyKind
projection_of p = K.Alias (record { kind = A.Projection; id = record { 0 = p.projection_term.def_id.0 }; args = p.projection_term.args })

-- A goal of a trait by what the table says of its key: a refusal refuses it, a Yes gives what it says, and nothing stays of the goal.

abbrev pub answered_verdict : Listing → State → Key → List ℕ → Option (Verdict Via) → Option (Bool × State)
answered_verdict l S k ns (Some Refused) = None
answered_verdict l S k ns (Some (Yes r w)) = next (given l S k ns r) (λ T. Some (true, T))
answered_verdict l S k ns _ = Some (false, S)

abbrev pub answered_trait : Reads → State → TraitGoal → Option (Bool × State)
answered_trait q S g =
    if are_bare (resolved S (goal_trees g)) then answered_verdict q.listing S (key_at S g) (numbers_at S g) (verdict_in q.table (key_at S g)) else Some (false, S)

-- An instance with these facts, under an environment, by the head of its clause: whether nothing stays of it, and the state then.
abbrev pub evaluated_as : Reads → State → Env → Tree → Forest → Head → Option (Bool × State)
evaluated_as q S e c ts (H.Part (P.Clause (Cl.Trait i p))) = answered_trait q S (trait_goal_of e i p ts)
evaluated_as q S e c ts (H.Part (P.Clause (Cl.Projection i))) = answered q.listing S (alias_of i ts) (term_of ts)
evaluated_as q S e c ts (H.Part (P.Clause Cl.AliasRelate)) = answered_related q.listing S (first_fact ts) (term_of ts)
evaluated_as q S e c ts (H.Part (P.Clause Cl.ConstEquate)) = answered_related q.listing S (first_fact ts) (term_of ts)
evaluated_as q S e c ts (H.Part (P.Clause Cl.TypeOutlives)) = Some (true, recorded S c)
evaluated_as q S e c ts (H.Part (P.Clause Cl.RegionOutlives)) = Some (true, recorded S c)
evaluated_as q S e c ts _ = Some (false, S)

-- the same at an evaluator, of the instance and the clause that is recorded of it, by their numbers
abbrev pub evaluated_at : Evaluator → ParamEnv → Clause → Clause → Option (Bool × State)
evaluated_at r e x c =
    let ts = r.context.trees in
    let t = clause_tree ts x in
    evaluated_as (reads r) (state r) (env_forest ts e) (clause_tree ts c) (after_first t.children) t.head

-- one goal, by what is read
abbrev pub try_of : Reads → Try
try_of q = tried_with q.table q.listing

-- What is read of a clause, by what it says: its head, and of a projection its alias and its term.

pub record IsProjection (c : Context) (x : Tree) (p : ProjectionPredicate) : Type 0 where
  pub arguments : IsArgs c.trees p.projection_term.args
  pub term : IsTy c.trees p.term
  pub head : x.head ≡ H.Part (P.Clause (Cl.Projection p.projection_term.def_id))
  pub facts : after_first x.children ≡ join (args_forest c.trees p.projection_term.args) (alone (ty_tree c.trees p.term))
  pub takes : Takes (world c) (kind_tree c.trees (projection_of p))

-- two arguments that are to be one
pub record IsRelation (c : Context) (x : Tree) (h : ClauseHead) (a b : GenericArg) : Type 0 where
  pub first : IsArg c.trees a
  pub second : IsArg c.trees b
  pub head : x.head ≡ H.Part (P.Clause h)
  pub facts : after_first x.children ≡ join (alone (arg_tree c.trees a)) (alone (arg_tree c.trees b))

abbrev pub Says : Context → Tree → ClauseKind → Type 0
Says c x (CK.Trait p) = x.head ≡ H.Part (P.Clause (Cl.Trait p.trait_ref.def_id p.polarity))
Says c x (CK.Projection p) = IsProjection c x p
Says c x (CK.TypeOutlives t r) = x.head ≡ H.Part (P.Clause Cl.TypeOutlives)
Says c x (CK.RegionOutlives s r) = x.head ≡ H.Part (P.Clause Cl.RegionOutlives)
Says c x (CK.AliasRelate t u) = IsRelation c x Cl.AliasRelate (GenericArg.Ty t) (GenericArg.Ty u)
Says c x (CK.ConstEquate t u) = IsRelation c x Cl.ConstEquate (GenericArg.Const t) (GenericArg.Const u)

-- the second, where there are variables
abbrev pub second_if_bound : {A : Type 0} → List VarKind → A → A → A
second_if_bound [] a b = a
second_if_bound (k ∷ ks) a b = b

-- whether a variable that had no value has one now

abbrev pub got_one : Option GenericArg → Option GenericArg → Bool
got_one None (Some v) = true
got_one _ _ = false

abbrev pub entries_gave : List Entry → List Entry → Bool
entries_gave [] fs = false
entries_gave (e ∷ es) [] = false
entries_gave (e ∷ es) (f ∷ fs) = got_one e.value f.value || entries_gave es fs
