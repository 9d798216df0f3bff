use Rattle.std.proofs.Common.{◌≡◌, Bool, IfErr, IfOk, None, Option, Some, refl, subst}
use Rattle.ir_trees.specs.declared.ir.heads.ClauseHead.TheVariants as Cl
use Rattle.ir_trees.specs.declared.ir.kinds.GenericArg.TheVariants as GenericArg
use Rattle.ir_trees.specs.Instantiation.Folds.{arg_tree}
use Rattle.ir_trees.specs.Syntax.Words.{clause_tree, env_forest, kind_tree, ty_tree}
use Rattle.ir_trees.specs.Hierarchy.Supers.{after_first}
use Rattle.candidate_eval.specs.declared.eval.refusal.NoSolutionOrStop.TheVariants.{NoSolution}
use Rattle.candidate_eval.specs.Judges.States.{State}
use Rattle.candidate_rounds.specs.Evaluators.Known.{listing, reads, state}
use Rattle.candidate_rounds.specs.Evaluators.Stopping.{IsEvaluationStop, IsProjectionStop, IsRelationStop, IsTraitStop, held, not_recorded, of_trait}
use Rattle.candidate_rounds.specs.Table.Trying.{projection_of}
use Rattle.candidate_rounds.proofs.Table.Asking.{says-trait, trait-evaluated}
use Rattle.candidate_rounds.proofs.Obligations.Evaluating.{projection-evaluated}
use Rattle.candidate_rounds.proofs.Stops.SettlingStops.{projection-evaluates, relation-evaluates, stops-then, growth-becomes}
use Rattle.candidate_rounds.proofs.rounds.Rounds.try_instance.Goals as goal

pub returns-in-Projection-clause-ok : goal.returns-in-Projection-clause-ok
returns-in-Projection-clause-ok c =
    let old = c.args.self.now in
    subst (λ (o : Option (Bool × State)). IfOk c.try_projection.result (λ b. o ≡ Some (b, state c.try_projection.new.self)))
    (projection-evaluated (reads old) (state old) (env_forest old.context.trees c.args.env) (clause_tree old.context.trees c.args.clause) old.context (clause_tree old.context.trees c.args.instance) c.in-Projection.projection c.in-Projection.ensures)
    c.try_projection.ensures.ok

pub returns-in-Projection-clause-refused : goal.returns-in-Projection-clause-refused
returns-in-Projection-clause-refused c =
    let old = c.args.self.now in
    subst (λ (o : Option (Bool × State)). IfErr c.try_projection.result (λ e. e ≡ NoSolution → o ≡ None))
    (projection-evaluated (reads old) (state old) (env_forest old.context.trees c.args.env) (clause_tree old.context.trees c.args.clause) old.context (clause_tree old.context.trees c.args.instance) c.in-Projection.projection c.in-Projection.ensures)
    c.try_projection.ensures.refused

pub returns-in-Projection-clause-cause : goal.returns-in-Projection-clause-cause
returns-in-Projection-clause-cause c =
    let old = c.args.self.now in
    let h = held c.try_projection.new.self in
    let e = env_forest old.context.trees c.args.env in
    let x = clause_tree old.context.trees c.args.instance in
    let p = c.in-Projection.projection in
    stops-then (IsEvaluationStop h (reads old) (state old) e x)
    (IsProjectionStop h.trees (listing old) (state old) (kind_tree old.context.trees (projection_of p)) (ty_tree old.context.trees p.term)) c.try_projection.result c.try_projection.ensures.cause
    (λ s k. projection-evaluates h (reads old) (state old) e old.context x p s c.in-Projection.ensures k)

pub returns-in_err-record_region-in-TypeOutlives-clause-cause : goal.returns-in_err-record_region-in-TypeOutlives-clause-cause
returns-in_err-record_region-in-TypeOutlives-clause-cause c =
    let old = c.args.self.now in
    let x = clause_tree old.context.trees c.args.instance in
    growth-becomes (IsEvaluationStop (held c.record_region.new.self) (reads old) (state old) (env_forest old.context.trees c.args.env) x) c.from_residual.result c.in_err-record_region-in-TypeOutlives.field-0.0
    c.from_residual.ensures.1 c.in_err-record_region-in-TypeOutlives.ensures.cause not_recorded

pub returns-in-Trait-clause-ok : goal.returns-in-Trait-clause-ok
returns-in-Trait-clause-ok c =
    let old = c.args.self.now in
    let e = env_forest old.context.trees c.args.env in
    let x = clause_tree old.context.trees c.args.instance in
    let p = c.in-Trait.field-0 in
    subst (λ (o : Option (Bool × State)). IfOk c.try_trait.result (λ b. o ≡ Some (b, state c.try_trait.new.self)))
    (trait-evaluated (reads old) (state old) e (clause_tree old.context.trees c.args.clause) (after_first x.children) x.head p.trait_ref.def_id p.polarity c.in-Trait.ensures) c.try_trait.ensures.ok

pub returns-in-Trait-clause-refused : goal.returns-in-Trait-clause-refused
returns-in-Trait-clause-refused c =
    let old = c.args.self.now in
    let e = env_forest old.context.trees c.args.env in
    let x = clause_tree old.context.trees c.args.instance in
    let p = c.in-Trait.field-0 in
    subst (λ (o : Option (Bool × State)). IfErr c.try_trait.result (λ f. f ≡ NoSolution → o ≡ None))
    (trait-evaluated (reads old) (state old) e (clause_tree old.context.trees c.args.clause) (after_first x.children) x.head p.trait_ref.def_id p.polarity c.in-Trait.ensures) c.try_trait.ensures.refused

pub returns-in-Trait-clause-cause : goal.returns-in-Trait-clause-cause
returns-in-Trait-clause-cause c =
    let old = c.args.self.now in
    let h = held c.try_trait.new.self in
    let e = env_forest old.context.trees c.args.env in
    let x = clause_tree old.context.trees c.args.instance in
    let p = c.in-Trait.field-0 in
    stops-then (IsEvaluationStop h (reads old) (state old) e x) (IsTraitStop h (reads old) (state old) e x) c.try_trait.result c.try_trait.ensures.cause
    (λ s k. of_trait (says-trait x.head p.trait_ref.def_id p.polarity c.in-Trait.ensures) k)

pub returns-in-AliasRelate-clause-cause : goal.returns-in-AliasRelate-clause-cause
returns-in-AliasRelate-clause-cause c =
    let old = c.args.self.now in
    let h = held c.try_related.new.self in
    let e = env_forest old.context.trees c.args.env in
    let x = clause_tree old.context.trees c.args.instance in
    stops-then (IsEvaluationStop h (reads old) (state old) e x)
    (IsRelationStop h.trees (listing old) (state old) (arg_tree old.context.trees (GenericArg.Ty c.in-AliasRelate.left)) (arg_tree old.context.trees (GenericArg.Ty c.in-AliasRelate.right))) c.try_related.result c.try_related.ensures.cause
    (λ s k. relation-evaluates h (reads old) (state old) e old.context x Cl.AliasRelate (GenericArg.Ty c.in-AliasRelate.left) (GenericArg.Ty c.in-AliasRelate.right) s c.in-AliasRelate.ensures refl k)

pub returns-in-ConstEquate-clause-cause : goal.returns-in-ConstEquate-clause-cause
returns-in-ConstEquate-clause-cause c =
    let old = c.args.self.now in
    let h = held c.try_related-in-ConstEquate.new.self in
    let e = env_forest old.context.trees c.args.env in
    let x = clause_tree old.context.trees c.args.instance in
    stops-then (IsEvaluationStop h (reads old) (state old) e x)
    (IsRelationStop h.trees (listing old) (state old) (arg_tree old.context.trees (GenericArg.Const c.in-ConstEquate.left)) (arg_tree old.context.trees (GenericArg.Const c.in-ConstEquate.right))) c.try_related-in-ConstEquate.result c.try_related-in-ConstEquate.ensures.cause
    (λ s k. relation-evaluates h (reads old) (state old) e old.context x Cl.ConstEquate (GenericArg.Const c.in-ConstEquate.left) (GenericArg.Const c.in-ConstEquate.right) s c.in-ConstEquate.ensures refl k)
