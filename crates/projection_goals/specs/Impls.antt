-- What is read of an impl for a projection, and what its rule does then.
use Rattle.std.specs.Prelude.{◌≡◌, false, Option, Some, List, [], ◌∷◌, ◌++◌}
use Rattle.ir_trees.specs.declared.decl.contents.ImplId.{ImplId}
use Rattle.ir_trees.specs.declared.ir.kinds.Args.{Args}
use Rattle.ir_trees.specs.declared.ir.kinds.AssocId.{AssocId}
use Rattle.ir_trees.specs.declared.ir.kinds.Clause.{Clause}
use Rattle.ir_trees.specs.declared.ir.kinds.ParamEnv.{ParamEnv}
use Rattle.ir_trees.specs.declared.ir.kinds.Ty.{Ty}
use Rattle.ir_trees.specs.Declarations.Context.{Context}
use Rattle.ir_trees.specs.Declarations.Contents.{Impl}
use Rattle.ir_trees.specs.Declarations.Declaring.{impl_at}
use Rattle.ir_trees.specs.Declarations.Lookups.{value_of}
use Rattle.ir_trees.specs.Instantiation.Folding.{lacks_argument}
use Rattle.ir_trees.specs.Instantiation.Owned.{ImplIsOwned}
use Rattle.ir_trees.specs.Syntax.Trees.{Forest, Tree, tree_holds}
use Rattle.ir_trees.specs.Syntax.Words.{IsTy, args_forest, env_forest, ty_tree}
use Rattle.ir_trees.specs.Unification.Substitutions.{alone}
use Rattle.ir_trees.specs.Validity.WellFormed.{ImplIsGiven}
use Rattle.candidate_eval.specs.declared.eval.source.CandidateSource.{CandidateSource}
use Rattle.candidate_eval.specs.Derivations.Judging.{Judged}
use Rattle.candidate_eval.specs.Derivations.Rules.{Step, equate, nested}
use Rattle.candidate_eval.specs.Dynamic.Replacing.{clauses_at}
use Rattle.candidate_eval.specs.Interface.Shown.{View}
use Rattle.candidate_eval.specs.Judges.States.{State}
use Rattle.candidate_eval.specs.Outcomes.Responses.{Response}
use Rattle.candidate_assembly.specs.Goals.Kinds.{steps_judged}
use Rattle.projection_goals.specs.declared.impls.Declared.{Declared}
use Rattle.projection_goals.specs.declared.kind.NormalizesTo.{NormalizesTo}
use Rattle.projection_goals.specs.Normalizing.{impl_part, normalizes_goal}

-- It was read of the impl of that number, whose parameters have these arguments.
pub record IsDeclared (c : Context) (n : ImplId) (item : AssocId) (args : Forest) (d : Declared) : Type 0 where
  pub by : Impl
  pub is : impl_at c n ≡ Some by
  pub given : ImplIsGiven c by
  pub owned : ImplIsOwned c.trees args by
  pub header : d.header ≡ by.trait_ref.args
  pub wheres : d.wheres.items ≡ by.wheres
  pub value : value_of item by ≡ Some d.value
  pub sort : IsTy c.trees d.value
  pub has : tree_holds (lacks_argument args) (ty_tree c.trees d.value) ≡ false

-- The goal's arguments are equated with a header's, and what the associated type is with the goal's term; then where clauses become pending.

abbrev pub declared_equations : List Tree → NormalizesTo → Args → Ty → List Step
declared_equations ts p header value =
    equate (args_forest ts p.alias.args) (args_forest ts header) ∷ equate (alone (ty_tree ts value)) (alone (ty_tree ts p.term)) ∷ []

abbrev pub declared_steps : List Tree → NormalizesTo → Args → Ty → List Clause → List Step
declared_steps ts p header value wheres = declared_equations ts p header value ++ nested (clauses_at ts wheres)

-- what the steps of an impl come to, where the rest of its rule answers so
abbrev pub judged_as : View → ParamEnv → NormalizesTo → CandidateSource → ImplId → (State → Option Response) → Judged
judged_as V env p s n = steps_judged V.judge (env_forest V.trees env) V.state s (impl_part V.context V.state.mode (normalizes_goal V.trees env p) n).steps
