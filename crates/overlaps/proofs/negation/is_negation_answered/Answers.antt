use Rattle.std.proofs.Common.{◌≡◌, Some, ap, subst, sym, ◌∙◌}
use Rattle.std.proofs.lemmas.Result.{IfOk-weaker}
use Rattle.ir_trees.specs.Declarations.Context.{Context}
use Rattle.ir_trees.specs.Declarations.References.{ArgumentsFit}
use Rattle.ir_trees.specs.declared.ir.kinds.TraitRef.{TraitRef}
use Rattle.ir_trees.specs.Syntax.Words.{IsArgs, args_forest, clause_tree}
use Rattle.ir_trees.proofs.Growth.Kept.{args-kept}
use Rattle.candidate_eval.specs.Dynamic.ObjectRequirements.{arguments_of, trait_said}
use Rattle.candidate_eval.proofs.Dynamic.Objects.{env-kept}
use Rattle.candidate_assembly.proofs.Calls.Causes.{so-err}
use Rattle.candidate_rounds.specs.Evaluators.Known.{state, sure_of}
use Rattle.overlaps.proofs.AskedClauses.{arguments-fit-kept}
use Rattle.overlaps.proofs.Negated.{both-ok, clause-denied}
use Rattle.overlaps.proofs.Stopping.{later-steps, stop-later}
use Rattle.overlaps.specs.Answered.{IsPlainYes}
use Rattle.overlaps.specs.Negated.{IsDenied}
use Rattle.overlaps.specs.Refused.{StaysBesideSteps}
use Rattle.overlaps.proofs.Staying.{stays-refl, stays-trans}
use Rattle.rounds_judge.specs.Table.GoalTable.{GoalTable}
use Rattle.candidate_rounds.specs.Table.Goals.{Via}
use Rattle.ir_trees.specs.Syntax.Words.{env_forest}
use Rattle.overlaps.proofs.negation.is_negation_answered.Goals as goal

pub returns-in_default-clause-stays : goal.returns-in_default-clause-stays
returns-in_default-clause-stays c = stays-refl c.args.rounds.now

pub run_predicate-requires-clause-args : goal.run_predicate-requires-clause-args
run_predicate-requires-clause-args c =
    subst (λ (r : TraitRef). IsArgs c.args.rounds.now.context.trees r.args) (sym c.negated-opposite.ensures.reference)
    (subst (λ (x : Context). IsArgs x.trees c.in-Some.predicate.trait_ref.args) c.cx.ensures c.in-Some.ensures.fits.0)

pub run_predicate-requires-clause-fit : goal.run_predicate-requires-clause-fit
run_predicate-requires-clause-fit c =
    subst (λ (r : TraitRef). ArgumentsFit c.args.rounds.now.context r) (sym c.negated-opposite.ensures.reference)
    (subst (λ (x : Context). ArgumentsFit x c.in-Some.predicate.trait_ref) c.cx.ensures c.in-Some.ensures.fits.1)

pub is_answered_for_all-requires-clause-env : goal.is_answered_for_all-requires-clause-env
is_answered_for_all-requires-clause-env c = (env-kept _ _ c.args.env c.run_predicate.ensures.stays.grows c.requires.env).0

pub is_answered_for_all-requires-clause-args : goal.is_answered_for_all-requires-clause-args
is_answered_for_all-requires-clause-args c =
    let a = subst (λ (r : TraitRef). IsArgs c.args.rounds.now.context.trees r.args) (sym c.negated-opposite.ensures.reference)
    (subst (λ (x : Context). IsArgs x.trees c.in-Some.predicate.trait_ref.args) c.cx.ensures c.in-Some.ensures.fits.0) in
    (args-kept _ _ c.negated-opposite.result.trait_ref.args c.run_predicate.ensures.stays.grows a).0

pub is_answered_for_all-requires-clause-fit : goal.is_answered_for_all-requires-clause-fit
is_answered_for_all-requires-clause-fit c =
    let a = subst (λ (r : TraitRef). IsArgs c.args.rounds.now.context.trees r.args) (sym c.negated-opposite.ensures.reference)
    (subst (λ (x : Context). IsArgs x.trees c.in-Some.predicate.trait_ref.args) c.cx.ensures c.in-Some.ensures.fits.0) in
    let f = subst (λ (r : TraitRef). ArgumentsFit c.args.rounds.now.context r) (sym c.negated-opposite.ensures.reference)
    (subst (λ (x : Context). ArgumentsFit x c.in-Some.predicate.trait_ref) c.cx.ensures c.in-Some.ensures.fits.1) in
    arguments-fit-kept c.args.rounds.now.context c.run_predicate.new.rounds.context c.negated-opposite.result.trait_ref c.run_predicate.ensures.stays.grows a f

pub returns-clause-stays : goal.returns-clause-stays
returns-clause-stays c = stays-trans c.run_predicate.ensures.stays c.is_answered_for_all.ensures.stays

pub returns-clause-denied : goal.returns-clause-denied
returns-clause-denied c =
    let old = c.args.rounds.now in
    let mid = c.run_predicate.new.rounds in
    let x = c.args.clause in
    let p = c.in-Some.predicate in
    let a = subst (λ (y : Context). IsArgs y.trees p.trait_ref.args) c.cx.ensures c.in-Some.ensures.fits.0 in
    let said = subst (λ (y : Context). trait_said (clause_tree y.trees x).head ≡ Some (p.trait_ref.def_id, p.polarity)) c.cx.ensures c.in-Some.ensures.said in
    let fits = subst (λ (y : Context). arguments_of (clause_tree y.trees x) ≡ args_forest y.trees p.trait_ref.args) c.cx.ensures c.in-Some.ensures.fits.2 in
    IfOk-weaker c.is_answered_for_all.result _ _
    (λ b h e.
    subst (λ (T : GoalTable Via). IsDenied (env_forest old.context.trees c.args.env) T (state old) (clause_tree old.context.trees x)) (sym c.is_answered_for_all.ensures.sure)
    (clause-denied old mid c.args.env x p c.negated-opposite.result (sure_of mid) c.run_predicate.ensures.stays c.requires.env a c.negated-opposite.ensures.reference c.negated-opposite.ensures.turned said fits (h.0 e) (h.1 e)))
    (both-ok _ _ c.is_answered_for_all.result c.is_answered_for_all.ensures.answered c.is_answered_for_all.ensures.for_all)

pub returns-clause-cause : goal.returns-clause-cause
returns-clause-cause c = so-err c.is_answered_for_all.result (λ s k. stop-later (later-steps c.run_predicate.ensures.stays) k) c.is_answered_for_all.ensures.cause
