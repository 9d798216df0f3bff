-- A goal of a trait says the same where a context has grown: the law that kinds of goals have.
use Rattle.std.proofs.Common.{◌≡◌, refl, ap, ◌∙◌}
use Rattle.ir_trees.specs.declared.ir.heads.Head.{Head}
use Rattle.ir_trees.specs.declared.ir.kinds.ParamEnv.{ParamEnv}
use Rattle.ir_trees.specs.declared.ir.kinds.TraitPredicate.{TraitPredicate}
use Rattle.ir_trees.specs.Declarations.Context.{Context, Grows}
use Rattle.ir_trees.specs.Declarations.Contents.{Contents}
use Rattle.ir_trees.specs.Syntax.Trees.{Forest}
use Rattle.ir_trees.specs.Syntax.Words.{args_forest, env_forest}
use Rattle.ir_trees.proofs.Growth.Kept.{args-kept}
use Rattle.candidate_eval.specs.Derivations.ImplRules.{TraitGoal}
use Rattle.candidate_eval.specs.Judges.States.{Env}
use Rattle.candidate_eval.proofs.Dynamic.Objects.{env-kept}
use Rattle.candidate_assembly.specs.Goals.Kinds.{IsGoal, SaysTheSame}
use Rattle.candidate_assembly.specs.Goals.TraitGoals.{arguments_held, fits, trait_goal, types_held}
use Rattle.candidate_assembly.specs.Goals.TraitRules.{trait_rules}

abbrev goal_with : TraitPredicate → Env → Forest → TraitGoal
goal_with p e a = record { env = e; reference = record { trait = p.trait_ref.def_id.0; arguments = a }; polarity = p.polarity }

pub same_fits : (old new : Context) (g : TraitGoal) → new.contents ≡ old.contents → (h : Head) → fits new g h ≡ fits old g h
same_fits old new g e h = ap (λ (x : Contents). fits (record old { contents = x }) g h) e

pub trait_goal_stays : (old new : Context) (env : ParamEnv) (p : TraitPredicate) → Grows old new → IsGoal trait_rules arguments_held types_held trait_goal old env p → SaysTheSame trait_rules trait_goal old new env p
trait_goal_stays old new env p grows h = record {
  seen = ap (λ z. goal_with p z (args_forest new.trees p.trait_ref.args)) (env-kept old new env grows h.env).1 ∙ ap (goal_with p (env_forest old.trees env)) (args-kept old new p.trait_ref.args grows h.arguments).1;
  reference = refl;
  fits = same_fits old new (trait_goal old.trees env p) (ap (λ (c : Context). c.contents) grows.same);
}
