use Rattle.std.proofs.Common.{◌≡◌, Some, List, [], ap, subst, sym, ◌∙◌}
use Rattle.std.proofs.lemmas.Result.{IfOk-weaker}
use Rattle.ir_trees.specs.Declarations.Context.{Context}
use Rattle.ir_trees.specs.Declarations.References.{ArgumentsFit}
use Rattle.ir_trees.specs.Syntax.Trees.{Forest}
use Rattle.ir_trees.specs.Syntax.Words.{IsArgs, args_forest, clause_tree}
use Rattle.candidate_eval.proofs.Dynamic.Objects.{env-kept}
use Rattle.candidate_eval.proofs.Interface.Accounts.{reaches, somehow}
use Rattle.candidate_eval.specs.Derivations.Characterization.{bound_kinds}
use Rattle.candidate_eval.specs.Dynamic.ObjectRequirements.{arguments_of, trait_said}
use Rattle.candidate_eval.specs.Interface.Unmade.{AreValues, IsMade}
use Rattle.candidate_assembly.proofs.Calls.Causes.{so-err}
use Rattle.candidate_rounds.specs.Evaluators.Known.{state}
use Rattle.overlaps.proofs.Jointly.{entered-refused, quiet-entered}
use Rattle.overlaps.proofs.Staying.{known-kept, known-then}
use Rattle.overlaps.proofs.Stopping.{asking-stop, later-kept, later-refl, passed-on, stop-later}
use Rattle.overlaps.specs.Stopping.{IsOverlapStop}
use Rattle.overlaps.proofs.together.is_refused_once_entered.Goals as goal

pub returns-in_err-clause-clause-stays : goal.returns-in_err-clause-clause-stays
returns-in_err-clause-clause-stays c = known-kept c.enter_clause.ensures.kept

pub returns-in_err-clause-clause-cause : goal.returns-in_err-clause-clause-cause
returns-in_err-clause-clause-cause c =
    let ts = c.args.rounds.now.context.trees in
    let ks = bound_kinds (clause_tree ts c.args.clause).children in
    passed-on (IsOverlapStop c.args.rounds.now c.enter_clause.new.ecx) c.from_residual.result c.in_err-clause.field-0.0 c.from_residual.ensures.1
    (asking-stop (later-refl c.args.rounds.now)
    (somehow (reaches c.enter_clause.ensures.kept) (λ us e. subst (IsMade ts) (sym e) (IsMade.instance c.args.clause.0 (AreValues.rigid (state c.args.rounds.now) ks))) c.in_err-clause.ensures.cause))

pub returns-in_default-clause-stays : goal.returns-in_default-clause-stays
returns-in_default-clause-stays c = known-kept c.enter_clause.ensures.kept

pub is_predicate_refused-requires-clause-env : goal.is_predicate_refused-requires-clause-env
is_predicate_refused-requires-clause-env c = (env-kept _ _ c.args.env c.enter_clause.ensures.kept.grows c.requires.env).0

pub is_predicate_refused-requires-clause-empty : goal.is_predicate_refused-requires-clause-empty
is_predicate_refused-requires-clause-empty c = (env-kept _ _ c.args.env c.enter_clause.ensures.kept.grows c.requires.env).1 ∙ c.requires.empty

pub is_predicate_refused-requires-clause-args : goal.is_predicate_refused-requires-clause-args
is_predicate_refused-requires-clause-args c = subst (λ (x : Context). IsArgs x.trees c.in-Some.predicate.trait_ref.args) c.cx.ensures c.in-Some.ensures.fits.0

pub is_predicate_refused-requires-clause-fit : goal.is_predicate_refused-requires-clause-fit
is_predicate_refused-requires-clause-fit c = subst (λ (x : Context). ArgumentsFit x c.in-Some.predicate.trait_ref) c.cx.ensures c.in-Some.ensures.fits.1

pub is_predicate_refused-requires-clause-pending : goal.is_predicate_refused-requires-clause-pending
is_predicate_refused-requires-clause-pending c =
    quiet-entered (state c.args.rounds.now) (state c.enter_clause.new.ecx) (clause_tree c.args.rounds.now.context.trees c.args.clause) c.in_ok-clause.ensures.state c.requires.pending

pub returns-clause-stays : goal.returns-clause-stays
returns-clause-stays c = known-then (known-kept c.enter_clause.ensures.kept) c.is_predicate_refused.ensures.stays

pub returns-clause-refused : goal.returns-clause-refused
returns-clause-refused c =
    let old = c.args.rounds.now in
    let mid = c.enter_clause.new.ecx in
    let x = c.in_ok-clause.clause in
    let p = c.in-Some.predicate in
    let said = subst (λ (y : Context). trait_said (clause_tree y.trees x).head ≡ Some (p.trait_ref.def_id, p.polarity)) c.cx.ensures c.in-Some.ensures.said in
    let fits = subst (λ (y : Context). arguments_of (clause_tree y.trees x) ≡ args_forest y.trees p.trait_ref.args) c.cx.ensures c.in-Some.ensures.fits.2 in
    IfOk-weaker c.is_predicate_refused.result _ _
    (λ b h e. entered-refused old mid c.is_predicate_refused.new.rounds (clause_tree old.context.trees c.args.clause) x p c.enter_clause.ensures.kept.grows c.in_ok-clause.ensures.state
    c.in_ok-clause.ensures.tree said fits (h e)) c.is_predicate_refused.ensures.refused

pub returns-clause-cause : goal.returns-clause-cause
returns-clause-cause c = so-err c.is_predicate_refused.result (λ s k. stop-later (later-kept c.enter_clause.ensures.kept) k) c.is_predicate_refused.ensures.cause
