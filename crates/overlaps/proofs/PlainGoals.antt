-- Goals that leave nothing open, in contexts that have grown.
use Rattle.std.proofs.Common.{◌≡◌, false, [], sym, ap, subst, ◌∙◌}
use Rattle.ir_trees.specs.declared.ir.kinds.ParamEnv.{ParamEnv}
use Rattle.ir_trees.specs.declared.ir.kinds.TraitPredicate.{TraitPredicate}
use Rattle.ir_trees.specs.Declarations.Context.{Context, Grows}
use Rattle.ir_trees.specs.Syntax.Trees.{holds, is_alias}
use Rattle.ir_trees.specs.Syntax.Words.{IsArgs, args_forest}
use Rattle.ir_trees.proofs.Growth.Kept.{args-kept}
use Rattle.candidate_eval.specs.declared.eval.mode.TypingMode.TheVariants.{Coherence}
use Rattle.candidate_eval.specs.Judges.Soundness.{IsResolved}
use Rattle.candidate_eval.specs.Judges.States.{State, resolved}
use Rattle.candidate_assembly.specs.Answers.CoherentRefusals.{IsPlainGoal}
use Rattle.candidate_assembly.specs.Goals.Standing.{GoalIsValid}
use Rattle.candidate_assembly.specs.Goals.TraitGoals.{trait_goal}
use Rattle.candidate_assembly.specs.Goals.TraitRules.{trait_rules}
use Rattle.rounds_judge.proofs.States.Later.{resolved_once}

-- A goal that stands is plain, if it is asked in coherence with nothing pending, and its arguments are resolved and without aliases.
pub plain-goal : (S T : State) (old new : Context) (env : ParamEnv) (p : TraitPredicate) → T ≡ S → Grows old new → IsArgs old.trees p.trait_ref.args → S.mode ≡ Coherence → S.pending ≡ []
    → holds is_alias (args_forest old.trees p.trait_ref.args) ≡ false → resolved S (args_forest old.trees p.trait_ref.args) ≡ args_forest old.trees p.trait_ref.args
    → GoalIsValid trait_rules T (trait_goal new.trees env p) → IsPlainGoal T (trait_goal new.trees env p)
plain-goal S T old new env p same grows args mode pending free once valid =
    let kept = (args-kept old new p.trait_ref.args grows args).1 in
    let f = args_forest new.trees p.trait_ref.args in
    let stays : resolved T f ≡ f = ap (λ U. resolved U f) same ∙ (ap (resolved S) kept ∙ (once ∙ sym kept)) in
    record {
      in_coherence = ap (λ (U : State). U.mode) same ∙ mode;
      nothing_pending = ap (λ (U : State). U.pending) same ∙ pending;
      is_resolved = subst (IsResolved T) stays (resolved_once T valid.live valid.sound f valid.trees.known);
      no_alias = ap (holds is_alias) kept ∙ free;
    }
