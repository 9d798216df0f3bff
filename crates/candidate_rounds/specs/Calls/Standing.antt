-- Goals that stand at what is known: of what counts there, only what has no value.
use Rattle.std.specs.Prelude.{Bool, false, not, ◌&&◌, nat_lt, Option, Some, None, slice_get}
use Rattle.ir_trees.specs.declared.ir.heads.Head.{Head}
use Rattle.ir_trees.specs.declared.ir.heads.Head.TheVariants as H
use Rattle.ir_trees.specs.declared.ir.heads.ConstHead.TheVariants as C
use Rattle.ir_trees.specs.declared.ir.kinds.RegionKind.TheVariants as R
use Rattle.candidate_eval.specs.declared.eval.variable.VariableKind.{VariableKind}
use Rattle.candidate_eval.specs.declared.eval.variable.VariableKind.TheVariants.{Term, Region}
use Rattle.candidate_eval.specs.Derivations.ImplRules.{TraitGoal}
use Rattle.candidate_eval.specs.Judges.Alike.{info}
use Rattle.candidate_eval.specs.Judges.Soundness.{Live, is_strange}
use Rattle.ir_trees.specs.Syntax.Trees.{Forest}
use Rattle.candidate_eval.specs.Judges.States.{Env, State, VariableInfo, is_some, same_kind}
use Rattle.candidate_rounds.specs.declared.rounds.inference.Entry.{Entry}
use Rattle.candidate_rounds.specs.Calls.Starting.{stand}
use Rattle.candidate_rounds.specs.Evaluators.Inferences.{Inference}

-- a variable that is there and has no value
abbrev pub is_free : Option VariableInfo → Bool
is_free None = false
is_free (Some i) = not (is_some i.value)

-- The variables of a state that have no value.
abbrev pub free : State → Live
free S n = is_free (info S n)

-- An environment and trees are closed trees of variables without a value, and hold no parameter.
abbrev pub forests_stand_at : State → Env → Forest → Bool
forests_stand_at S e ts = stand (is_strange S (free S)) e && stand (is_strange S (free S)) ts

-- so are a goal's environment and its arguments
abbrev pub stands_at : State → TraitGoal → Bool
stands_at S g = forests_stand_at S g.env g.reference.arguments

-- The same mark by what is known: a variable that isn't there, is of another kind or has a value; and a placeholder of a universe above
-- the newest.

abbrev pub is_free_as : VariableKind → Option Entry → Bool
is_free_as k None = false
is_free_as k (Some e) = not (is_some e.value) && same_kind e.kind k

abbrev pub is_strange_to : Inference → Head → Bool
is_strange_to s (H.Infer v) = not (is_free_as (Term v.sort) (slice_get s.variables v.number))
is_strange_to s (H.Region (R.Var n)) = not (is_free_as Region (slice_get s.variables n))
is_strange_to s (H.Placeholder p) = nat_lt s.newest_universe p.universe
is_strange_to s (H.Const (C.Placeholder p)) = nat_lt s.newest_universe p.universe
is_strange_to s (H.Region (R.Placeholder p)) = nat_lt s.newest_universe p.universe
is_strange_to s _ = false
