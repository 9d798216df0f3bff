-- What a rule requires besides the clause that it matches: clauses, each with the source of the goal that it becomes.
use Rattle.std.specs.Prelude.{◌≡◌, All, false, true, List, ◌++◌, map}
use Rattle.ir_trees.specs.declared.ir.kinds.Clause.{Clause}
use Rattle.ir_trees.specs.declared.ir.kinds.GoalSource.{GoalSource}
use Rattle.ir_trees.specs.declared.ir.kinds.ParamEnv.{ParamEnv}
use Rattle.ir_trees.specs.Syntax.Trees.{Tree, is_param, tree_holds}
use Rattle.ir_trees.specs.Syntax.Words.{IsClause, clause_tree}
use Rattle.candidate_eval.specs.declared.eval.certainty.Certainty.TheVariants.{Yes}
use Rattle.candidate_eval.specs.declared.eval.source.BuiltinImplSource.TheVariants.{Misc}
use Rattle.candidate_eval.specs.declared.eval.source.CandidateSource.TheVariants.{BuiltinImpl}
use Rattle.candidate_eval.specs.Interface.Evaluators.{pending_of}
use Rattle.candidate_eval.specs.Derivations.Rules.{Rule, Step, add, ask}
use Rattle.candidate_eval.specs.Judges.States.{Env, Pending, State, with_pending}

abbrev pub Requirement : Type 0
Requirement = GoalSource × Clause

-- They are clauses of the context.
abbrev pub RequirementsFit : List Tree → List Requirement → Type 0
RequirementsFit ts rs = All (λ r. IsClause ts r.1) rs

-- No parameter stands in them.
abbrev pub RequireNoParameter : List Tree → List Requirement → Type 0
RequireNoParameter ts rs = All (λ r. tree_holds is_param (clause_tree ts r.1) ≡ false) rs

-- the steps of a rule that requires them
abbrev pub requirement_steps : List Tree → List Requirement → List Step
requirement_steps ts rs = map (λ r. add r.0 (clause_tree ts r.1)) rs

-- the goal that one becomes
abbrev pub required_goal : List Tree → ParamEnv → Requirement → Pending
required_goal ts env r = pending_of ts r.0 (record { param_env = env; predicate = r.1 })

-- the state with them pending, in their order
abbrev pub with_requirements : List Tree → ParamEnv → State → List Requirement → State
with_requirements ts env S rs = with_pending S (S.pending ++ map (required_goal ts env) rs)

-- A rule of the language that matches nothing: by these steps, which require something, and then it asks.
abbrev pub requiring_rule : Env → List Step → Rule
requiring_rule e steps = record { env = e; applies = true; steps = steps; ending = ask (BuiltinImpl Misc) Yes }
