-- Projections that a text gives, as evaluators ask them.
use Rattle.std.proofs.Common.{◌≡◌, false, Some, sym, ◌∙◌, ap, subst}
use Rattle.ir_trees.specs.declared.ir.kinds.AliasTy.{AliasTy}
use Rattle.ir_trees.specs.declared.ir.kinds.ParamEnv.{ParamEnv}
use Rattle.ir_trees.specs.declared.ir.kinds.TraitPredicate.{TraitPredicate}
use Rattle.ir_trees.specs.Declarations.Context.{Context, Grows}
use Rattle.ir_trees.specs.Declarations.Worlds.{World, alias_kinds, kinds_of}
use Rattle.ir_trees.specs.Syntax.Binders.{escapes}
use Rattle.ir_trees.specs.Syntax.Words.{IsParamEnv, args_forest}
use Rattle.ir_trees.proofs.Growth.Kept.{args-kept, world-kept}
use Rattle.candidate_assembly.specs.Goals.KindShown.{IsGoal, trait_kind}
use Rattle.candidate_assembly.proofs.Calls.Keeping.{trait-goal-kept}
use Rattle.candidate_assembly.specs.Goals.TraitGoals.{trait_goal}
use Rattle.candidate_rounds.specs.Evaluators.Known.{Evaluator}
use Rattle.candidate_rounds.specs.Table.Normalizing.{IsProjection, goal_of_trait, trait_predicate}
use Rattle.candidate_rounds.specs.Table.Running.{StaysBesideTable}
use Rattle.rounds_judge.specs.Table.Keys.{key_at}
use Rattle.assembly_text.specs.Normalizing.{IsReadProjection, trait_key}
use Rattle.assembly_text.proofs.MayBeGiven.{goal-of}

-- What its trait's goal says stays as a context grows.
pub predicate-kept : (c d : Context) (a : AliasTy) → Grows c d → trait_predicate d a ≡ trait_predicate c a
predicate-kept c d a g = ap (λ (y : Context). trait_predicate y a) g.same

pub projection-kept : (c d : Context) (e : ParamEnv) (a : AliasTy) → Grows c d → IsProjection c e a → IsProjection d e a
projection-kept c d e a g h =
    let args = args-kept c d a.args g h.goal.arguments in
    record {
      projection = h.projection;
      fits = ap (λ (w : World). alias_kinds w a.kind a.id.0) (world-kept c d g).0 ∙ (h.fits ∙ ap (λ ts. Some (kinds_of ts)) (sym args.1));
      goal = subst (IsGoal trait_kind d e) (sym (predicate-kept c d a g)) (trait-goal-kept c d e (trait_predicate c a) g h.goal).0;
    }

-- The key of its trait's goal is the same later on, where the state stays.
pub trait-key-later : (r s : Evaluator) (e : ParamEnv) (a : AliasTy) → StaysBesideTable r s → IsProjection r.context e a → trait_key s e a ≡ trait_key r e a
trait-key-later r s e a stays h =
    let goal : goal_of_trait s.context e a ≡ goal_of_trait r.context e a
    = ap (λ (p : TraitPredicate). trait_goal s.context.trees e p) (predicate-kept r.context s.context a stays.grows)
    ∙ (trait-goal-kept r.context s.context e (trait_predicate r.context a) stays.grows h.goal).1 in
    let stands = stays.state_same in
    λ i. key_at (stands i) (goal i)

-- A projection that is read is one that may be normalised, in an environment.
pub projection-of : (c d : Context) (e : ParamEnv) (a : AliasTy) → Grows c d → IsParamEnv d.trees e → IsReadProjection c a → escapes 0 (args_forest c.trees a.args) ≡ false → IsProjection d e a
projection-of c d e a g env h closed =
    let args = args-kept c d a.args g h.sort in
    record {
      projection = h.projection;
      fits = ap (λ (w : World). alias_kinds w a.kind a.id.0) (world-kept c d g).0 ∙ (h.fits ∙ ap (λ ts. Some (kinds_of ts)) (sym args.1));
      goal = subst (IsGoal trait_kind d e) (sym (predicate-kept c d a g)) (goal-of c d e (trait_predicate c a) g env (record { args = h.sort; no_param = h.no_param; fit = h.reference_fits }) closed);
    }
