use Rattle.std.proofs.Common.{subst}
use Rattle.ir_trees.specs.Declarations.Context.{Context}
use Rattle.ir_trees.specs.Declarations.References.{ArgumentsFit}
use Rattle.ir_trees.specs.Syntax.Words.{IsArgs, clause_tree}
use Rattle.ir_trees.specs.Unification.Substitutions.{alone}
use Rattle.candidate_eval.specs.Interface.Accounts.{resolve}
use Rattle.candidate_eval.proofs.Dynamic.Objects.{env-kept}
use Rattle.candidate_assembly.proofs.Calls.Causes.{asked-somehow, so-err}
use Rattle.overlaps.proofs.Staying.{stays-kept, stays-trans}
use Rattle.overlaps.proofs.Stopping.{asking-stop, later-kept, later-refl, passed-on, stop-later}
use Rattle.overlaps.specs.Stopping.{IsOverlapStop}
use Rattle.overlaps.proofs.specializing.run_clause.Goals as goal

pub returns-in_err-clause-clause-stays : goal.returns-in_err-clause-clause-stays
returns-in_err-clause-clause-stays c = stays-kept c.resolve_clause_if_possible.ensures.kept c.resolve_clause_if_possible.ensures.same

pub returns-in_default-clause-stays : goal.returns-in_default-clause-stays
returns-in_default-clause-stays c = stays-kept c.resolve_clause_if_possible.ensures.kept c.resolve_clause_if_possible.ensures.same

pub returns-clause-stays : goal.returns-clause-stays
returns-clause-stays c = stays-trans (stays-kept c.resolve_clause_if_possible.ensures.kept c.resolve_clause_if_possible.ensures.same) c.run_predicate.ensures.stays

pub run_predicate-requires-clause-env : goal.run_predicate-requires-clause-env
run_predicate-requires-clause-env c = (env-kept _ _ c.args.env c.resolve_clause_if_possible.ensures.kept.grows c.requires.env).0

pub run_predicate-requires-clause-args : goal.run_predicate-requires-clause-args
run_predicate-requires-clause-args c = subst (λ (x : Context). IsArgs x.trees c.in-Some.predicate.trait_ref.args) c.cx.ensures c.in-Some.ensures.fits.0

pub run_predicate-requires-clause-fit : goal.run_predicate-requires-clause-fit
run_predicate-requires-clause-fit c = subst (λ (x : Context). ArgumentsFit x c.in-Some.predicate.trait_ref) c.cx.ensures c.in-Some.ensures.fits.1

pub returns-in_err-clause-clause-cause : goal.returns-in_err-clause-clause-cause
returns-in_err-clause-clause-cause c = passed-on (IsOverlapStop c.args.rounds.now c.resolve_clause_if_possible.new.self) c.from_residual.result c.in_err-clause.field-0.0 c.from_residual.ensures.1 (asking-stop (later-refl c.args.rounds.now) (asked-somehow (resolve (alone (clause_tree c.args.rounds.now.context.trees c.args.clause))) c.resolve_clause_if_possible.ensures.kept c.in_err-clause.ensures.cause))

pub returns-clause-cause : goal.returns-clause-cause
returns-clause-cause c = so-err c.run_predicate.result (λ s k. stop-later (later-kept c.resolve_clause_if_possible.ensures.kept) k) c.run_predicate.ensures.cause
