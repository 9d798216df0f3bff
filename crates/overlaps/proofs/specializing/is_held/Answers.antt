use Rattle.std.proofs.Common.{◌≡◌, true, Some, sym, ap, subst, ◌∙◌}
use Rattle.std.proofs.lemmas.Result.{IfOk-weaker}
use Rattle.ir_trees.specs.Declarations.Context.{Context}
use Rattle.ir_trees.specs.Declarations.References.{ArgumentsFit}
use Rattle.ir_trees.specs.Syntax.Words.{IsArgs, args_forest, clause_tree, env_forest}
use Rattle.ir_trees.specs.Unification.Substitutions.{alone}
use Rattle.candidate_eval.specs.Dynamic.ObjectRequirements.{arguments_of, trait_said}
use Rattle.candidate_eval.specs.Interface.Accounts.{resolve}
use Rattle.candidate_eval.proofs.Dynamic.Objects.{env-kept}
use Rattle.candidate_assembly.proofs.Calls.Causes.{asked-somehow, so-err}
use Rattle.overlaps.specs.Answered.{is_outlives}
use Rattle.overlaps.proofs.PureFolder.{sure-kept, sure-then, clause-answered, clause-assumed}
use Rattle.overlaps.proofs.Stopping.{asking-stop, later-kept, later-refl, passed-on, stop-later}
use Rattle.overlaps.specs.Stopping.{IsOverlapStop}
use Rattle.overlaps.proofs.specializing.is_held.Goals as goal

pub returns-in_err-clause-clause-stays : goal.returns-in_err-clause-clause-stays
returns-in_err-clause-clause-stays c = (sure-kept c.resolve_clause_if_possible.ensures.kept c.resolve_clause_if_possible.ensures.same).stays

pub returns-in_err-clause-clause-sure : goal.returns-in_err-clause-clause-sure
returns-in_err-clause-clause-sure c = (sure-kept c.resolve_clause_if_possible.ensures.kept c.resolve_clause_if_possible.ensures.same).sure

pub returns-then-is_outlives-clause-stays : goal.returns-then-is_outlives-clause-stays
returns-then-is_outlives-clause-stays c = (sure-kept c.resolve_clause_if_possible.ensures.kept c.resolve_clause_if_possible.ensures.same).stays

pub returns-then-is_outlives-clause-sure : goal.returns-then-is_outlives-clause-sure
returns-then-is_outlives-clause-sure c = (sure-kept c.resolve_clause_if_possible.ensures.kept c.resolve_clause_if_possible.ensures.same).sure

pub returns-then-is_outlives-clause-holds : goal.returns-then-is_outlives-clause-holds
returns-then-is_outlives-clause-holds c = λ e.
    let old = c.args.rounds.now in
    let ts = old.context.trees in
    let mid = c.resolve_clause_if_possible.new.self in
    let x = c.in_ok-clause.clause in
    let outlives : is_outlives (clause_tree mid.context.trees x).head ≡ true = ap (λ (y : Context). is_outlives (clause_tree y.trees x).head) (sym c.cx.ensures) ∙ (sym c.is_outlives.ensures ∙ c.if-is_outlives.true) in
    clause-assumed old (env_forest ts c.args.env) (clause_tree ts c.args.clause) (clause_tree mid.context.trees x) c.in_ok-clause.ensures.tree outlives

pub returns-in_default-clause-stays : goal.returns-in_default-clause-stays
returns-in_default-clause-stays c = (sure-kept c.resolve_clause_if_possible.ensures.kept c.resolve_clause_if_possible.ensures.same).stays

pub returns-in_default-clause-sure : goal.returns-in_default-clause-sure
returns-in_default-clause-sure c = (sure-kept c.resolve_clause_if_possible.ensures.kept c.resolve_clause_if_possible.ensures.same).sure

pub is_predicate_answered-requires-clause-env : goal.is_predicate_answered-requires-clause-env
is_predicate_answered-requires-clause-env c = (env-kept _ _ c.args.env c.resolve_clause_if_possible.ensures.kept.grows c.requires.env).0

pub is_predicate_answered-requires-clause-args : goal.is_predicate_answered-requires-clause-args
is_predicate_answered-requires-clause-args c = subst (λ (x : Context). IsArgs x.trees c.in-Some.predicate.trait_ref.args) c.cx-2.ensures c.in-Some.ensures.fits.0

pub is_predicate_answered-requires-clause-fit : goal.is_predicate_answered-requires-clause-fit
is_predicate_answered-requires-clause-fit c = subst (λ (x : Context). ArgumentsFit x c.in-Some.predicate.trait_ref) c.cx-2.ensures c.in-Some.ensures.fits.1

pub returns-clause-stays : goal.returns-clause-stays
returns-clause-stays c =
    (sure-then (sure-kept c.resolve_clause_if_possible.ensures.kept c.resolve_clause_if_possible.ensures.same) c.is_predicate_answered.ensures.stays c.is_predicate_answered.ensures.sure).stays

pub returns-clause-sure : goal.returns-clause-sure
returns-clause-sure c =
    (sure-then (sure-kept c.resolve_clause_if_possible.ensures.kept c.resolve_clause_if_possible.ensures.same) c.is_predicate_answered.ensures.stays c.is_predicate_answered.ensures.sure).sure

pub returns-clause-holds : goal.returns-clause-holds
returns-clause-holds c =
    let old = c.args.rounds.now in
    let mid = c.resolve_clause_if_possible.new.self in
    let x = c.in_ok-clause.clause in
    let p = c.in-Some.predicate in
    let so = sure-kept c.resolve_clause_if_possible.ensures.kept c.resolve_clause_if_possible.ensures.same in
    let said = subst (λ (y : Context). trait_said (clause_tree y.trees x).head ≡ Some (p.trait_ref.def_id, p.polarity)) c.cx-2.ensures c.in-Some.ensures.said in
    let fits = subst (λ (y : Context). arguments_of (clause_tree y.trees x) ≡ args_forest y.trees p.trait_ref.args) c.cx-2.ensures c.in-Some.ensures.fits.2 in
    IfOk-weaker c.is_predicate_answered.result _ _
    (λ b h e. clause-answered old mid c.args.env (clause_tree old.context.trees c.args.clause) x p so c.requires.env c.in_ok-clause.ensures.tree said fits (h e)) c.is_predicate_answered.ensures.answered

pub returns-in_err-clause-clause-cause : goal.returns-in_err-clause-clause-cause
returns-in_err-clause-clause-cause c = passed-on (IsOverlapStop c.args.rounds.now c.resolve_clause_if_possible.new.self) c.from_residual.result c.in_err-clause.field-0.0 c.from_residual.ensures.1 (asking-stop (later-refl c.args.rounds.now) (asked-somehow (resolve (alone (clause_tree c.args.rounds.now.context.trees c.args.clause))) c.resolve_clause_if_possible.ensures.kept c.in_err-clause.ensures.cause))

pub returns-clause-cause : goal.returns-clause-cause
returns-clause-cause c = so-err c.is_predicate_answered.result (λ s k. stop-later (later-kept c.resolve_clause_if_possible.ensures.kept) k) c.is_predicate_answered.ensures.cause
