-- What a call about an object's bounds says by the definitions: over its numbers, in an environment, by what the evaluator shows before it
-- (`V`) and after it (`W`).
use Rattle.std.specs.Prelude.{Bool, Option, List, map}
use Rattle.ir_trees.specs.declared.ir.kinds.AliasTerm.{AliasTerm}
use Rattle.ir_trees.specs.declared.ir.kinds.Args.{Args}
use Rattle.ir_trees.specs.declared.ir.kinds.Binder.{Binder}
use Rattle.ir_trees.specs.declared.ir.kinds.Clause.{Clause}
use Rattle.ir_trees.specs.declared.ir.kinds.Goal.{Goal as OfNumbers}
use Rattle.ir_trees.specs.declared.ir.kinds.ParamEnv.{ParamEnv}
use Rattle.ir_trees.specs.declared.ir.kinds.Preds.{Preds}
use Rattle.ir_trees.specs.declared.ir.kinds.TraitRef.{TraitRef}
use Rattle.ir_trees.specs.declared.ir.kinds.Ty.{Ty}
use Rattle.ir_trees.specs.Syntax.Trees.{Forest, Tree}
use Rattle.ir_trees.specs.Syntax.Words.{args_forest, clause_kind_tree, clause_tree, env_forest, preds_forest, ty_tree}
use Rattle.candidate_eval.specs.Dynamic.ObjectRequirements.{AreAsked, AreUnknown, first_tree, fresh_arguments, reference_clause}
use Rattle.candidate_eval.specs.Dynamic.Objects.{bound_equated, bound_matches, is_equated, projection_at, Projection, Tried, IsPicked, IsPickedAtOnce, IsAmbiguous}
use Rattle.candidate_eval.specs.Dynamic.Replacing.{Picks, IsStuck, IsReplaced, AreReplaced, AreStuck, clauses_at, projections_at, types_at}
use Rattle.candidate_eval.specs.Dynamic.Required.{AreRequirements, own_bounds}
use Rattle.candidate_eval.specs.Interface.Evaluators.{goal_of}
use Rattle.candidate_eval.specs.Interface.Shown.{View}
use Rattle.candidate_eval.specs.Judges.States.{State}

-- An instance of a bound is equated with arguments: the state then, and whether what this leaves isn't refused.

abbrev pub bound_equated_here : View → ParamEnv → Clause → Args → Option State
bound_equated_here V env bound args =
    bound_equated V.judge (env_forest V.trees env) V.state (clause_tree V.trees bound) (args_forest V.trees args)

abbrev pub is_equated_here : View → ParamEnv → Clause → Args → Bool
is_equated_here V env bound args = is_equated V.judge (bound_equated_here V env bound args)

-- Whether a bound matches the projection.
abbrev pub bound_matches_here : View → ParamEnv → Clause → AliasTerm → Bool
bound_matches_here V env bound p = bound_matches V.judge (env_forest V.trees env) V.state (clause_tree V.trees bound) (projection_at V.trees p)

module _ (V W : View) (env : ParamEnv) where
  -- All bounds were tried, and these match the projection.
  abbrev pub TriedHere : AliasTerm → List Clause → List Clause → Type 0
  TriedHere p bounds found =
      Tried V.judge (env_forest V.trees env) (projection_at V.trees p) V.state (map (clause_tree V.trees) bounds)
      (map (clause_tree W.trees) found) W.state

  -- The type is what the only bound that matches gives for the projection.
  abbrev pub IsPickedHere : AliasTerm → List Clause → Ty → Type 0
  IsPickedHere p bounds t =
      IsPicked V.judge (env_forest V.trees env) (projection_at V.trees p) V.state (map (clause_tree V.trees) bounds)
      (ty_tree W.trees t) W.state

  -- The same, where all bounds are tried at one state.
  abbrev pub IsPickedAtOnceHere : AliasTerm → List Clause → Ty → Type 0
  IsPickedAtOnceHere p bounds t =
      IsPickedAtOnce V.judge (env_forest V.trees env) (projection_at V.trees p) V.state (map (clause_tree V.trees) bounds)
      (ty_tree W.trees t) W.state

  -- No bound gives a type for it.
  abbrev pub IsAmbiguousHere : AliasTerm → List Clause → Type 0
  IsAmbiguousHere p bounds =
      IsAmbiguous V.judge (env_forest V.trees env) (projection_at V.trees p) V.state (map (clause_tree V.trees) bounds) W.state

  -- The bounds give these types for projections, one after the other.
  abbrev pub PicksHere : List Clause → List AliasTerm → List Ty → Type 0
  PicksHere bounds ps us =
      Picks V.judge (env_forest V.trees env) (clauses_at V.trees bounds) V.state (projections_at V.trees ps) (types_at W.trees us) W.state

  -- For one of the projections they give none.
  abbrev pub IsStuckHere : List Clause → List Projection → Type 0
  IsStuckHere bounds ps = IsStuck V.judge (env_forest V.trees env) (clauses_at V.trees bounds) V.state ps W.state

  -- A clause, and clauses, with what the bounds say in the place of each projection of the object's own.

  abbrev pub IsReplacedHere : Ty → List Clause → Clause → Clause → Type 0
  IsReplacedHere object bounds c d =
      IsReplaced V.judge (env_forest V.trees env) (ty_tree V.trees object) (clauses_at V.trees bounds) V.state
      (clause_tree V.trees c) (clause_tree W.trees d) W.state

  abbrev pub AreReplacedHere : Ty → List Clause → List Clause → List Clause → Type 0
  AreReplacedHere object bounds cs ds =
      AreReplaced V.judge (env_forest V.trees env) (ty_tree V.trees object) (clauses_at V.trees bounds) V.state
      (clauses_at V.trees cs) (clauses_at W.trees ds) W.state

  -- In one of the clauses too little is known of a projection.
  abbrev pub AreStuckHere : Ty → List Clause → List Clause → Type 0
  AreStuckHere object bounds cs =
      AreStuck V.judge (env_forest V.trees env) (ty_tree V.trees object) (clauses_at V.trees bounds) V.state
      (clauses_at V.trees cs) W.state

  -- What is asked of the object of a reference, whose type has these bounds; or that too little is known.

  abbrev pub AreAskedHere : Binder TraitRef → Preds → List (OfNumbers Clause) → Type 0
  AreAskedHere r bounds goals =
      AreAsked V.judge (env_forest V.trees env) V.context V.state r.value.def_id.0
      (clause_kind_tree V.trees (reference_clause r)) (preds_forest V.trees bounds) (map (goal_of W.trees) goals) W.state

  abbrev pub AreUnknownHere : Binder TraitRef → Preds → Type 0
  AreUnknownHere r bounds =
      AreUnknown V.judge (env_forest V.trees env) V.context V.state r.value.def_id.0
      (clause_kind_tree V.trees (reference_clause r)) (preds_forest V.trees bounds) W.state

-- A reference's arguments, with fresh variables for those of its binder; the first of them, the object's type; and what the bounds of that
-- type say of it.

abbrev pub fresh_arguments_here : View → Binder TraitRef → Forest
fresh_arguments_here V r = fresh_arguments V.state (clause_kind_tree V.trees (reference_clause r))

abbrev pub object_here : View → Binder TraitRef → Tree
object_here V r = first_tree (fresh_arguments_here V r)

abbrev pub own_bounds_here : View → Binder TraitRef → Preds → List Tree
own_bounds_here V r bounds = own_bounds (object_here V r) (preds_forest V.trees bounds)

-- What an object of its trait has to fulfil.
abbrev pub AreRequirementsHere : View → View → Binder TraitRef → List Clause → Type 0
AreRequirementsHere V W r cs = AreRequirements V.context r.value.def_id.0 (fresh_arguments_here V r) (clauses_at W.trees cs)
