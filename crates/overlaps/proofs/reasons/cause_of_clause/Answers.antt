use Rattle.std.proofs.Common.{◌≡◌, true, false, None, Some, refl, sym, subst, ◌∙◌}
use Rattle.std.proofs.lemmas.Result.{IfOk-weaker}
use Rattle.ir_trees.specs.Declarations.Context.{Context}
use Rattle.ir_trees.specs.Declarations.References.{ArgumentsFit}
use Rattle.ir_trees.specs.Syntax.Words.{IsArgs, args_forest, clause_tree}
use Rattle.candidate_eval.specs.Dynamic.ObjectRequirements.{arguments_of, trait_said}
use Rattle.candidate_assembly.specs.Goals.TraitGoals.{trait_goal}
use Rattle.overlaps.specs.Answered.{answered, assumed, is_outlives}
use Rattle.overlaps.specs.Reasons.{here_at, says_else}
use Rattle.overlaps.proofs.OpenClauses.{some-cause}
use Rattle.overlaps.proofs.Staying.{stays-refl}
use Rattle.overlaps.proofs.reasons.cause_of_clause.Goals as goal

pub returns-then-is_outlives-clause-stays : goal.returns-then-is_outlives-clause-stays
returns-then-is_outlives-clause-stays c = stays-refl c.args.rounds.now

pub returns-then-is_outlives-clause-holds : goal.returns-then-is_outlives-clause-holds
returns-then-is_outlives-clause-holds c = λ e.
    assumed (subst (λ (x : Context). is_outlives (clause_tree x.trees c.args.clause).head ≡ true) c.cx.ensures (sym c.is_outlives.ensures ∙ c.if-is_outlives.true))

pub returns-in_default-clause-stays : goal.returns-in_default-clause-stays
returns-in_default-clause-stays c = stays-refl c.args.rounds.now

pub returns-in_default-clause-is : goal.returns-in_default-clause-is
returns-in_default-clause-is c =
    says_else (subst (λ (x : Context). is_outlives (clause_tree x.trees c.args.clause).head ≡ false) c.cx.ensures (sym c.is_outlives.ensures ∙ c.if-is_outlives.false))
    (subst (λ (x : Context). trait_said (clause_tree x.trees c.args.clause).head ≡ None) c.cx-2.ensures c.in_default.ensures.said)

pub cause_of_goal-requires-clause-args : goal.cause_of_goal-requires-clause-args
cause_of_goal-requires-clause-args c = subst (λ (x : Context). IsArgs x.trees c.in-Some.predicate.trait_ref.args) c.cx-2.ensures c.in-Some.ensures.fits.0

pub cause_of_goal-requires-clause-fit : goal.cause_of_goal-requires-clause-fit
cause_of_goal-requires-clause-fit c = subst (λ (x : Context). ArgumentsFit x c.in-Some.predicate.trait_ref) c.cx-2.ensures c.in-Some.ensures.fits.1

pub returns-clause-holds : goal.returns-clause-holds
returns-clause-holds c =
    let p = c.in-Some.predicate in
    let x = c.args.clause in
    let said = subst (λ (y : Context). trait_said (clause_tree y.trees x).head ≡ Some (p.trait_ref.def_id, p.polarity)) c.cx-2.ensures c.in-Some.ensures.said in
    let fits = subst (λ (y : Context). arguments_of (clause_tree y.trees x) ≡ args_forest y.trees p.trait_ref.args) c.cx-2.ensures c.in-Some.ensures.fits.2 in
    IfOk-weaker c.cause_of_goal.result _ _
    (λ o h e. answered (record { goal = trait_goal c.args.rounds.now.context.trees c.args.env p; says = said; arguments = sym fits; under = refl; answered = h e }))
    c.cause_of_goal.ensures.answered

pub returns-clause-is : goal.returns-clause-is
returns-clause-is c =
    let r = c.args.rounds.now in
    let p = c.in-Some.predicate in
    let x = c.args.clause in
    let said = subst (λ (y : Context). trait_said (clause_tree y.trees x).head ≡ Some (p.trait_ref.def_id, p.polarity)) c.cx-2.ensures c.in-Some.ensures.said in
    let fits = subst (λ (y : Context). arguments_of (clause_tree y.trees x) ≡ args_forest y.trees p.trait_ref.args) c.cx-2.ensures c.in-Some.ensures.fits.2 in
    IfOk-weaker c.cause_of_goal.result _ _
    (λ o h. some-cause o (here_at r c.args.env) (clause_tree r.context.trees x) (trait_goal r.context.trees c.args.env p) (record { says = said; arguments = sym fits; under = refl }) h)
    c.cause_of_goal.ensures.is
