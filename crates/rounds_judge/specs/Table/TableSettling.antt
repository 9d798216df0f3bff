-- Pending goals are evaluated with a table of goals: a goal of a trait is done or refused, where the table says so.
use Rattle.std.specs.Prelude.{ℕ, zero, suc, ◌+◌, ◌-◌, Bool, true, false, ◌&&◌, nat_lt, max, min, Option, Some, None, List, [], ◌∷◌, ◌++◌, length, map, slice_index_or, if◌then◌else◌}
use Rattle.ir_trees.specs.declared.ir.heads.ConstHead.TheVariants as C
use Rattle.ir_trees.specs.declared.ir.heads.Head.{Head}
use Rattle.ir_trees.specs.declared.ir.heads.Head.TheVariants as H
use Rattle.ir_trees.specs.declared.ir.heads.PartHead.TheVariants as P
use Rattle.ir_trees.specs.declared.ir.heads.ClauseHead.TheVariants as Cl
use Rattle.ir_trees.specs.declared.ir.kinds.Placeholder.{Placeholder}
use Rattle.ir_trees.specs.declared.ir.kinds.RegionKind.TheVariants as R
use Rattle.ir_trees.specs.Instantiation.Folding.{leaf}
use Rattle.ir_trees.specs.Syntax.Trees.{Forest, none, tree, Tree, is_number}
use Rattle.ir_trees.specs.Unification.Substitutions.{alone}
use Rattle.candidate_eval.specs.contracts.eval.variable.CanonicalVarPartialEq.TheImpl as variable
use Rattle.candidate_eval.specs.declared.eval.certainty.Certainty.{Certainty}
use Rattle.candidate_eval.specs.declared.eval.variable.CanonicalVar.{CanonicalVar}
use Rattle.candidate_eval.specs.Outcomes.Certainties.{certainty_and}
use Rattle.candidate_eval.specs.Derivations.Characterization.{bound_kinds}
use Rattle.candidate_eval.specs.Derivations.ImplRules.{TraitGoal}
use Rattle.candidate_eval.specs.Outcomes.Responses.{Response}
use Rattle.candidate_eval.specs.Judges.States.{State, Pending, Values, resolved, valued, valued_tree, next}
use Rattle.candidate_eval.specs.Judges.States as states
use Rattle.rounds_judge.specs.Aliases.Listed.{Listing}
use Rattle.rounds_judge.specs.Equations.Binding.{numbered}
use Rattle.rounds_judge.specs.Equations.Equating.{equated, without_goals}
use Rattle.rounds_judge.specs.Obligations.Settling.{Outcome, instantiated, instance_of, stays, tried_as, before, with_staying, gave_a_value, with_certainty}
use Rattle.rounds_judge.specs.Obligations.Responding.{response}
use Rattle.rounds_judge.specs.Table.Keys.{Key, goal_trees, key_at, numbers_at, trait_goal_of, greatest_named, newest_of}
use Rattle.rounds_judge.specs.Table.Verdicts.{Verdict, Yes, Refused}
use Rattle.rounds_judge.specs.Table.GoalTable.{GoalTable, verdict_in}

-- What a Yes gives a goal that asks.

-- The goal's own variable for one that a response leaves open: it is the first whose value is that one, and is of the same kind and
-- universe still.
abbrev pub own_variable : List CanonicalVar → List ℕ → Forest → ℕ → CanonicalVar → Option ℕ
own_variable (v ∷ vs) (n ∷ ns) (tree h below rest) j c =
    if is_number j h && variable.eq-value.it v c then Some n else own_variable vs ns rest j c
own_variable _ _ _ j c = None

-- a fresh variable of its kind, of no universe that the state doesn't have
abbrev pub with_open : State → CanonicalVar → State
with_open S c = record S { variables = S.variables ++ record { kind = c.kind; universe = min c.universe S.newest_universe; value = None; is_root = false } ∷ [] }

-- Fresh variables are made where the goal has none of its own: the state then, and the number of each.
abbrev pub named_at : State → List CanonicalVar → List (Option ℕ) → State × List ℕ
named_at S (c ∷ cs) (Some n ∷ os) = let q = named_at S cs os in (q.0, n ∷ q.1)
named_at S (c ∷ cs) (None ∷ os) = let q = named_at (with_open S c) cs os in (q.0, length S.variables ∷ q.1)
named_at S _ _ = (S, [])

-- A response may name universes that its key doesn't have. The state that asks gets as many new ones, and these stand for them, in order.

abbrev pub greatest_in : List Tree → ℕ
greatest_in [] = 0
greatest_in (t ∷ ts) = max (greatest_named (alone t)) (greatest_in ts)

abbrev pub greatest_said : Response → ℕ
greatest_said r = max (greatest_named r.values) (greatest_in r.regions)

abbrev pub with_universes : State → Key → Response → State
with_universes S k r = record S { newest_universe = S.newest_universe + (greatest_said r - newest_of k) }

-- what is above the key's newest universe, up to the greatest that is named, and the newest of the state, which stands for that one
pub record Lift : Type 0 where
  pub above : ℕ
  pub greatest : ℕ
  pub newest : ℕ

abbrev pub lift_to : State → Key → Response → Lift
lift_to S k r = record { above = newest_of k; greatest = greatest_said r; newest = S.newest_universe }

abbrev pub lifted : Lift → Placeholder → Placeholder
lifted x p = record { universe = x.newest - (x.greatest - p.universe); index = p.index }

abbrev pub lifted_leaf : Lift → Placeholder → (Placeholder → Head) → Option Tree
lifted_leaf x p head = if nat_lt x.above p.universe then Some (leaf (head (lifted x p))) else None

-- What stands for what a response says of its own: variables with these numbers for those that it leaves open, and placeholders of the
-- state's new universes for those of universes that the key doesn't have.
abbrev pub translation : Lift → List ℕ → Values
translation x ns (H.Infer v) = Some (leaf (H.Infer (record { sort = v.sort; number = slice_index_or ns v.number 0 })))
translation x ns (H.Region (R.Var n)) = Some (leaf (H.Region (R.Var (slice_index_or ns n 0))))
translation x ns (H.Placeholder p) = lifted_leaf x p H.Placeholder
translation x ns (H.Const (C.Placeholder p)) = lifted_leaf x p (λ q. H.Const (C.Placeholder q))
translation x ns (H.Region (R.Placeholder p)) = lifted_leaf x p (λ q. H.Region (R.Placeholder q))
translation x ns _ = None

abbrev pub variables_row : List CanonicalVar → List ℕ → Forest
variables_row (v ∷ vs) (n ∷ ns) =
    let t = states.variable v.kind n in
    tree t.head t.children (variables_row vs ns)
variables_row _ _ = none

-- The state that asks, with variables for those that the response leaves open, and with its new universes; and the number of each variable.
abbrev pub ready_for : State → Key → List ℕ → Response → State × List ℕ
ready_for S k ns r =
    let q = named_at S r.vars (numbered (own_variable k.variables ns r.values) 0 r.vars) in
    (with_universes q.0 k r, q.1)

-- The goal's variables, of these numbers, are made equal to the values that the response says, and its constraints are recorded.
abbrev pub given : Listing → State → Key → List ℕ → Response → Option State
given l S k ns r =
    let q = ready_for S k ns r in
    let v = translation (lift_to q.0 k r) q.1 in
    next (equated l q.0 (variables_row k.variables ns) (valued v r.values))
    (λ T. Some (record T { regions = T.regions ++ map (valued_tree v) r.regions }))

-- One goal.

-- A refusal refuses it; a Yes gives its values, and it is done; else it stays.
abbrev pub tried_by : {W : Type 0} → Listing → State → Pending → Key → List ℕ → Option (Verdict W) → Outcome
tried_by l S p k ns (Some Refused) = None
tried_by l S p k ns (Some (Yes r w)) = without_goals (given l S k ns r)
tried_by l S p k ns _ = stays S p

-- Variables of types and constants have nothing below them, as in all trees that are well formed: else a key wouldn't say all of its goal.

abbrev pub is_bare : Head → Forest → Bool
is_bare (H.Infer v) (tree h below rest) = false
is_bare _ _ = true

abbrev pub are_bare : Forest → Bool
are_bare none = true
are_bare (tree h below rest) = is_bare h below && (are_bare below && are_bare rest)

abbrev pub tried_trait : {W : Type 0} → GoalTable W → Listing → State → Pending → TraitGoal → Outcome
tried_trait T l S p g =
    if are_bare (resolved S (goal_trees g)) then tried_by l S p (key_at S g) (numbers_at S g) (verdict_in T (key_at S g)) else stays S p

-- An instance by the head of its clause: of traits by the table, which no other needs.
abbrev pub tried_as_with : {W : Type 0} → GoalTable W → Listing → State → Pending → Forest → Head → Outcome
tried_as_with T l S p ts (H.Part (P.Clause (Cl.Trait i q))) = tried_trait T l S p (trait_goal_of p.goal.env i q ts)
tried_as_with T l S p ts h = tried_as l S p ts h

abbrev pub tried_with : {W : Type 0} → GoalTable W → Listing → State → Pending → Outcome
tried_with T l S p =
    let f = instantiated S p.goal.clause in
    tried_as_with T l f.0 (instance_of p (bound_kinds p.goal.clause.children) f.1) f.1 p.goal.clause.head

-- All goals, by any way to try one: in order, each at the state that the one before it left; at most so many passes, another one while
-- the last gave a variable a value.

abbrev pub Try : Type 0
Try = State → Pending → Outcome

abbrev pub all_by : Try → State → List Pending → Outcome
all_by try S [] = Some ([], S)
all_by try S (p ∷ ps) = next (try S p) (λ q. before q.0 (all_by try q.1 ps))

abbrev pub pass_by : Try → State → Option State
pass_by try S = next (all_by try S S.pending) (λ q. Some (with_staying q))

abbrev pub passes_by : Try → ℕ → State → Option State
passes_by try zero S = Some S
passes_by try (suc n) S = next (pass_by try S) (λ T. if gave_a_value S.variables T.variables then passes_by try n T else Some T)

-- What is pending, evaluated with the table; and the response then, no surer than that.

abbrev pub settled_with : {W : Type 0} → GoalTable W → Listing → State → Option (Certainty × State)
settled_with T l S = next (passes_by (tried_with T l) 8 S) (λ U. Some (with_certainty U))

abbrev pub responded_with : {W : Type 0} → GoalTable W → Listing → State → Certainty → Option Response
responded_with T l S c = next (settled_with T l S) (λ q. Some (response q.1 (certainty_and c q.0)))
