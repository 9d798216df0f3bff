use Rattle.std.proofs.Common.{◌≡◌, IfErr, IfOk, None, Option, Some, Bool, ◌∙◌, ap, subst}
use Rattle.ir_trees.specs.declared.ir.kinds.AliasTy.{AliasTy}
use Rattle.ir_trees.specs.declared.ir.kinds.TyKind.TheVariants as K
use Rattle.ir_trees.specs.Syntax.Words.{kind_tree, ty_tree}
use Rattle.ir_trees.specs.Syntax.Trees.{Tree}
use Rattle.ir_trees.proofs.Growth.Kept.{ty-kept}
use Rattle.candidate_eval.specs.declared.eval.refusal.NoSolutionOrStop.TheVariants.{NoSolution}
use Rattle.candidate_eval.specs.Judges.States.{State}
use Rattle.candidate_rounds.specs.Evaluators.Known.{listing, state}
use Rattle.candidate_rounds.specs.Table.Trying.{projection_of}
use Rattle.candidate_rounds.specs.Evaluators.Stopping.{IsProjectionStop, IsTreeStop, of_alias}
use Rattle.candidate_rounds.proofs.Obligations.Evaluating.{answered-same}
use Rattle.candidate_rounds.proofs.Evaluators.Going.{goes-listing, goes-trans}
use Rattle.candidate_rounds.proofs.Stops.SettlingStops.{projection-same, stop-becomes, stops-then}
use Rattle.candidate_rounds.proofs.Evaluators.Between.{parts}
use Rattle.candidate_rounds.proofs.Evaluators.Exits.{not-refused}
use Rattle.std.proofs.Common.{reverse, sym}
use Rattle.ir_trees.specs.Declarations.Context.{world}
use Rattle.ir_trees.specs.Declarations.References.{Takes}
use Rattle.ir_trees.specs.Syntax.Words.{KindFits}
use Rattle.candidate_rounds.specs.Evaluators.Known.{Evaluator}
use Rattle.candidate_rounds.proofs.Evaluators.Interface.{made-goes, made-same}
use Rattle.candidate_rounds.proofs.Snapshots.ResolvedValues.{evaluator-grown}
use Rattle.candidate_rounds.proofs.Stops.SettlingStops.{type-unmade}
use Rattle.candidate_rounds.proofs.rounds.Rounds.try_projection.Goals as goal

pub try_alias-requires-clause-term : goal.try_alias-requires-clause-term
try_alias-requires-clause-term c = (ty-kept c.args.self.now.context c.mk_ty.new.self c.args.projection.term (made-goes c.self.view_is c.mk_ty.ensures.made.kept c.mk_ty.ensures.made.faults).0 c.requires.term).0

pub returns-clause-ok : goal.returns-clause-ok
returns-clause-ok c =
    let old = c.args.self.now in
    let i = c.self.inside in
    let mid : Evaluator = record { context = c.mk_ty.new.self; mode = i.mode; normal = record { pairs = i.normal.items; is_open = i.opens }; opaques = i.opaques.items; goals = i.goals; inference = i.inference; marks = reverse i.probes.items } in
    subst (λ (o : Option (Bool × State)). IfOk c.try_alias.result (λ b. o ≡ Some (b, state c.try_alias.new.self)))
    (answered-same (listing old) (listing mid) (state old) (state mid) (kind_tree old.context.trees (projection_of c.args.projection)) (ty_tree mid.context.trees c.in_ok-alias.alias)
    (ty_tree old.context.trees c.args.projection.term) (ty_tree mid.context.trees c.args.projection.term)
    (goes-listing old mid (made-goes c.self.view_is c.mk_ty.ensures.made.kept c.mk_ty.ensures.made.faults) (parts c.recall_well_kept.ensures).given) (made-same c.self.view_is c.mk_ty.ensures.made.kept c.mk_ty.ensures.made.faults c.self.invariant) (subst (λ (e : Evaluator). ty_tree c.mk_ty.new.self.trees c.in_ok-alias.alias ≡ kind_tree e.context.trees (K.Alias c.projection.result)) c.self.view_is c.in_ok-alias.ensures.made.tree ∙ ap (λ (a : AliasTy). kind_tree old.context.trees (K.Alias a)) c.projection.ensures) (ty-kept old.context mid.context c.args.projection.term (made-goes c.self.view_is c.mk_ty.ensures.made.kept c.mk_ty.ensures.made.faults).0 c.requires.term).1)
    c.try_alias.ensures.ok

pub returns-clause-refused : goal.returns-clause-refused
returns-clause-refused c =
    let old = c.args.self.now in
    let i = c.self.inside in
    let mid : Evaluator = record { context = c.mk_ty.new.self; mode = i.mode; normal = record { pairs = i.normal.items; is_open = i.opens }; opaques = i.opaques.items; goals = i.goals; inference = i.inference; marks = reverse i.probes.items } in
    subst (λ (o : Option (Bool × State)). IfErr c.try_alias.result (λ e. e ≡ NoSolution → o ≡ None))
    (answered-same (listing old) (listing mid) (state old) (state mid) (kind_tree old.context.trees (projection_of c.args.projection)) (ty_tree mid.context.trees c.in_ok-alias.alias)
    (ty_tree old.context.trees c.args.projection.term) (ty_tree mid.context.trees c.args.projection.term)
    (goes-listing old mid (made-goes c.self.view_is c.mk_ty.ensures.made.kept c.mk_ty.ensures.made.faults) (parts c.recall_well_kept.ensures).given) (made-same c.self.view_is c.mk_ty.ensures.made.kept c.mk_ty.ensures.made.faults c.self.invariant) (subst (λ (e : Evaluator). ty_tree c.mk_ty.new.self.trees c.in_ok-alias.alias ≡ kind_tree e.context.trees (K.Alias c.projection.result)) c.self.view_is c.in_ok-alias.ensures.made.tree ∙ ap (λ (a : AliasTy). kind_tree old.context.trees (K.Alias a)) c.projection.ensures) (ty-kept old.context mid.context c.args.projection.term (made-goes c.self.view_is c.mk_ty.ensures.made.kept c.mk_ty.ensures.made.faults).0 c.requires.term).1)
    c.try_alias.ensures.refused

pub returns-in_err-alias-clause-cause : goal.returns-in_err-alias-clause-cause
returns-in_err-alias-clause-cause c =
    let old = c.args.self.now in
    let ts = c.mk_ty.new.self.trees in
    stop-becomes (IsProjectionStop ts (listing old) (state old) (kind_tree old.context.trees (projection_of c.args.projection)) (ty_tree old.context.trees c.args.projection.term)) c.from_residual.result
    c.in_err-alias.field-0.0 c.from_residual.ensures.1
    (of_alias
    (subst (λ (t : Tree). IsTreeStop ts t c.in_err-alias.field-0.0) (ap (λ (a : AliasTy). kind_tree old.context.trees (K.Alias a)) c.projection.ensures) (subst (λ (e : Evaluator). IsTreeStop ts (kind_tree e.context.trees (K.Alias c.projection.result)) c.in_err-alias.field-0.0) c.self.view_is
    (type-unmade c.self.inside.cx c.mk_ty.new.self (kind_tree c.self.inside.cx.trees (K.Alias c.projection.result)) c.in_err-alias.field-0.0 c.in_err-alias.ensures.made.unchanged c.in_err-alias.ensures.made.cause))))

pub returns-clause-cause : goal.returns-clause-cause
returns-clause-cause c =
    let old = c.args.self.now in
    let i = c.self.inside in
    let mid : Evaluator = record { context = c.mk_ty.new.self; mode = i.mode; normal = record { pairs = i.normal.items; is_open = i.opens }; opaques = i.opaques.items; goals = i.goals; inference = i.inference; marks = reverse i.probes.items } in
    let ts = c.try_alias.new.self.context.trees in
    let t = kind_tree old.context.trees (projection_of c.args.projection) in
    let u = ty_tree mid.context.trees c.in_ok-alias.alias in
    let x = ty_tree mid.context.trees c.args.projection.term in
    stops-then (IsProjectionStop ts (listing old) (state old) t (ty_tree old.context.trees c.args.projection.term)) (IsProjectionStop ts (listing mid) (state mid) u x) c.try_alias.result c.try_alias.ensures.cause
    (λ s k. projection-same ts (listing old) (listing mid) (state old) (state mid) t u (ty_tree old.context.trees c.args.projection.term) x s (goes-listing old mid (made-goes c.self.view_is c.mk_ty.ensures.made.kept c.mk_ty.ensures.made.faults) (parts c.recall_well_kept.ensures).given)
    (made-same c.self.view_is c.mk_ty.ensures.made.kept c.mk_ty.ensures.made.faults c.self.invariant) (subst (λ (e : Evaluator). ty_tree c.mk_ty.new.self.trees c.in_ok-alias.alias ≡ kind_tree e.context.trees (K.Alias c.projection.result)) c.self.view_is c.in_ok-alias.ensures.made.tree ∙ ap (λ (a : AliasTy). kind_tree old.context.trees (K.Alias a)) c.projection.ensures)
    (ty-kept old.context mid.context c.args.projection.term (made-goes c.self.view_is c.mk_ty.ensures.made.kept c.mk_ty.ensures.made.faults).0 c.requires.term).1 k)

pub returns-in_err-alias-clause-refused : goal.returns-in_err-alias-clause-refused
returns-in_err-alias-clause-refused c = not-refused _ c.from_residual.result _ c.from_residual.ensures.1

pub returns-clause-goes : goal.returns-clause-goes
returns-clause-goes c =
    let i = c.self.inside in
    let mid : Evaluator = record { context = c.mk_ty.new.self; mode = i.mode; normal = record { pairs = i.normal.items; is_open = i.opens }; opaques = i.opaques.items; goals = i.goals; inference = i.inference; marks = reverse i.probes.items } in
    goes-trans c.args.self.now mid c.try_alias.new.self (made-goes c.self.view_is c.mk_ty.ensures.made.kept c.mk_ty.ensures.made.faults) c.try_alias.ensures.goes

pub mk_ty-requires-clause-fits : goal.mk_ty-requires-clause-fits
mk_ty-requires-clause-fits c =
    subst (λ (e : Evaluator). KindFits e.context.trees (K.Alias c.projection.result)) (sym c.self.view_is)
    (subst (λ (a : AliasTy). KindFits c.args.self.now.context.trees (K.Alias a)) (sym c.projection.ensures) c.requires.fits)

pub mk_ty-requires-clause-takes : goal.mk_ty-requires-clause-takes
mk_ty-requires-clause-takes c = λ _.
    subst (λ (e : Evaluator). Takes (world e.context) (kind_tree e.context.trees (K.Alias c.projection.result))) (sym c.self.view_is)
    (subst (λ (a : AliasTy). Takes (world c.args.self.now.context) (kind_tree c.args.self.now.context.trees (K.Alias a))) (sym c.projection.ensures) c.requires.takes)

pub invariant_of-self : goal.invariant_of-self
invariant_of-self c = evaluator-grown _ _ _ _ _ _ _ c.mk_ty.ensures.made.kept c.self.invariant

pub invariant_of-self-2 : goal.invariant_of-self-2
invariant_of-self-2 c = evaluator-grown _ _ _ _ _ _ _ c.mk_ty.ensures.made.kept c.self.invariant
