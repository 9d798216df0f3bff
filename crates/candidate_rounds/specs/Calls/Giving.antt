-- What giving a goal the values of a Yes is made of.
use Rattle.std.specs.Prelude.{false, ◌+◌, ◌≤◌, ℕ, min, Option, Some, None, List, [], ◌∷◌, ◌++◌, length, map}
use Rattle.std.specs.List.{Contains}
use Rattle.ir_trees.specs.declared.ir.stop.Stop.{Stop}
use Rattle.ir_trees.specs.declared.ir.stop.Stop.TheVariants.{Memory}
use Rattle.ir_trees.specs.declared.ir.heads.ConstHead.TheVariants as Co
use Rattle.ir_trees.specs.declared.ir.heads.Head.{Head}
use Rattle.ir_trees.specs.declared.ir.heads.Head.TheVariants as H
use Rattle.ir_trees.specs.declared.ir.kinds.Clause.{Clause}
use Rattle.ir_trees.specs.declared.ir.kinds.Placeholder.{Placeholder}
use Rattle.ir_trees.specs.declared.ir.kinds.RegionKind.TheVariants as R
use Rattle.ir_trees.specs.declared.ir.kinds.VarKind.{VarKind}
use Rattle.ir_trees.specs.declared.ir.kinds.VarKind.TheVariants as K
use Rattle.ir_trees.specs.Declarations.Context.{parameter_kind}
use Rattle.ir_trees.specs.Instantiation.Folding.{IsSubstStop}
use Rattle.ir_trees.specs.Unification.Substitutions.{alone}
use Rattle.ir_trees.specs.Syntax.Trees.{Forest, Tree}
use Rattle.ir_trees.specs.Syntax.Words.{clause_tree}
use Rattle.candidate_eval.specs.declared.eval.variable.VariableKind.{VariableKind}
use Rattle.candidate_eval.specs.Judges.States.{State, Values, placeholder, valued, valued_tree}
use Rattle.candidate_rounds.specs.declared.rounds.giving.Lift.{Lift as KeptLift}
use Rattle.candidate_rounds.specs.declared.rounds.giving.Translation.{Translation}
use Rattle.candidate_rounds.specs.declared.rounds.inference.Change.TheVariants as C
use Rattle.candidate_rounds.specs.Evaluators.Inferences.{Inference, IsFullAt, noted}
use Rattle.rounds_judge.specs.Table.TableSettling.{Lift, lifted_leaf, translation}

-- A fresh variable of that kind, which is no root, of that universe, or of the newest, if that is lower.
abbrev pub with_open_variable : Inference → VariableKind → ℕ → Inference
with_open_variable s k u =
    noted (record s { variables = s.variables ++ record { kind = k; universe = min u s.newest_universe; value = None; is_root = false } ∷ [] }) C.Variable

-- these constraints, recorded after those that are
abbrev pub with_constraints : State → List Tree → State
with_constraints S cs = record S { regions = S.regions ++ cs }

-- so many more universes
abbrev pub with_more_universes : State → ℕ → State
with_more_universes S n = record S { newest_universe = S.newest_universe + n }

-- What is kept of how universes are lifted, and what stands for what a response says of its own.

abbrev pub lift_of : KeptLift → Lift
lift_of x = record { above = x.above; greatest = x.greatest; newest = x.newest }

abbrev pub translation_of : Translation → Values
translation_of t = translation (lift_of t.lift) t.names.now

-- trees with that put in, and clauses

abbrev pub forest_translated : Translation → Forest → Forest
forest_translated t = valued (translation_of t)

abbrev pub clauses_translated : List Tree → Translation → List Clause → List Tree
clauses_translated ts t cs = map (valued_tree (translation_of t)) (map (clause_tree ts) cs)

-- the placeholder that a head is, with its kind
abbrev pub placeholder_in : Head → Option (VarKind × Placeholder)
placeholder_in (H.Placeholder p) = Some (K.Ty, p)
placeholder_in (H.Const (Co.Placeholder p)) = Some (K.Const, p)
placeholder_in (H.Region (R.Placeholder p)) = Some (K.Region, p)
placeholder_in _ = None

-- what stands for a placeholder, if it is lifted
abbrev pub lifted_as : Lift → Option (VarKind × Placeholder) → Option Tree
lifted_as x None = None
lifted_as x (Some p) = lifted_leaf x p.1 (λ q. placeholder (parameter_kind p.0) q.universe q.index)

-- Why variables weren't named, where there are so many at most: one wasn't made, or the list didn't grow.
pub data IsNamingStop (most : ℕ) : Stop → Type 0 where
  no_name : IsNamingStop most Memory
  of_open : {s : Stop} (n : ℕ) → n ≤ most → IsFullAt n s → IsNamingStop most s

-- Why a constraint wasn't recorded with these values, and why constraints weren't.

pub data IsConstraintStop (ts : List Tree) (v : Values) (c : Tree) : Stop → Type 0 where
  no_constraint : IsConstraintStop ts v c Memory
  of_constraint_put : {s : Stop} → IsSubstStop (length ts) (alone (valued_tree v c)) s → IsConstraintStop ts v c s

pub data AreConstraintsStop (ts : List Tree) (v : Values) (cs : List Tree) (s : Stop) : Type 0 where
  of_this : (c : Tree) → Contains cs c → IsConstraintStop ts v c s → AreConstraintsStop ts v cs s
