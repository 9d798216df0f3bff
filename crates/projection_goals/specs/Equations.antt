-- Equations that come one after the other, and what is answered then.
use Rattle.std.specs.Prelude.{Option}
use Rattle.ir_trees.specs.declared.ir.kinds.Args.{Args}
use Rattle.ir_trees.specs.declared.ir.kinds.ParamEnv.{ParamEnv}
use Rattle.ir_trees.specs.declared.ir.kinds.TraitRef.{TraitRef}
use Rattle.ir_trees.specs.declared.ir.kinds.Ty.{Ty}
use Rattle.ir_trees.specs.declared.ir.kinds.TyKind.TheVariants as type_kind
use Rattle.ir_trees.specs.Syntax.Trees.{Forest, Tree}
use Rattle.ir_trees.specs.Syntax.Words.{args_forest, env_forest, kind_tree, ty_tree}
use Rattle.ir_trees.specs.Unification.Substitutions.{alone}
use Rattle.candidate_eval.specs.declared.eval.certainty.Certainty.TheVariants.{Yes}
use Rattle.candidate_eval.specs.Interface.Evaluators.{accepted}
use Rattle.candidate_eval.specs.Interface.Shown.{View}
use Rattle.candidate_eval.specs.Judges.States.{Env, Judge, State, next}
use Rattle.candidate_eval.specs.Outcomes.Responses.{Response}
use Rattle.candidate_assembly.specs.Calls.Seen.{matched_with_inputs}
use Rattle.projection_goals.specs.declared.kind.NormalizesTo.{NormalizesTo}

-- Two rows are made equal, and then two others. The goals that this leaves are pending.
abbrev pub both_accepted : Judge → State → Env → Forest → Forest → Forest → Forest → Option State
both_accepted J S e a b x y = next (accepted J S e a b) (λ T. accepted J T e x y)

abbrev pub both_accepted_here : View → ParamEnv → Args → Args → Ty → Ty → Option State
both_accepted_here V env a b x y =
    both_accepted V.judge V.state (env_forest V.trees env) (args_forest V.trees a) (args_forest V.trees b) (alone (ty_tree V.trees x)) (alone (ty_tree V.trees y))

-- The arguments of a reference are made equal to its self type and the inputs of what is called, where they pass quick rejection, and then a term to
-- the output.
abbrev pub called_accepted : View → ParamEnv → TraitRef → Ty → Ty × Ty → Option State
called_accepted V env r term called =
    next (matched_with_inputs V env r called.0) (λ T. accepted V.judge T (env_forest V.trees env) (alone (ty_tree V.trees term)) (alone (ty_tree V.trees called.1)))

-- The response where two types were made equal.

abbrev pub equal_by : Judge → State → Env → Tree → Tree → Option Response
equal_by J S e x y = next (accepted J S e (alone x) (alone y)) (λ T. J.responded T Yes)

abbrev pub equal_response : View → ParamEnv → Ty → Ty → Option Response
equal_response V env x y = equal_by V.judge V.state (env_forest V.trees env) (ty_tree V.trees x) (ty_tree V.trees y)

-- The response where an alias is rigid: its term is the alias itself, as a type.
abbrev pub rigid_response : View → ParamEnv → NormalizesTo → Option Response
rigid_response V env p = equal_by V.judge V.state (env_forest V.trees env) (ty_tree V.trees p.term) (kind_tree V.trees (type_kind.Alias p.alias))
