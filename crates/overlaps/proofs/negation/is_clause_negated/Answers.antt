use Rattle.std.proofs.Common.{sym, subst}
use Rattle.std.proofs.lemmas.Result.{IfOk-weaker}
use Rattle.ir_trees.specs.Syntax.Words.{ClauseListFits}
use Rattle.candidate_eval.proofs.Dynamic.Objects.{env-kept}
use Rattle.candidate_assembly.proofs.Calls.Causes.{so-err}
use Rattle.candidate_rounds.specs.Evaluators.Known.{sure_of}
use Rattle.overlaps.proofs.Negated.{clause-negated}
use Rattle.overlaps.proofs.Staying.{stays-kept, stays-trans}
use Rattle.overlaps.proofs.Stopping.{asking-stop, later-kept, later-refl, passed-on, stop-later}
use Rattle.overlaps.specs.Stopping.{IsOverlapStop}
use Rattle.overlaps.proofs.negation.is_clause_negated.Goals as goal

pub returns-in_err-implied-clause-stays : goal.returns-in_err-implied-clause-stays
returns-in_err-implied-clause-stays c = stays-kept c.implied_by.ensures.kept c.implied_by.ensures.same

pub returns-in_err-implied-clause-cause : goal.returns-in_err-implied-clause-cause
returns-in_err-implied-clause-cause c = passed-on (IsOverlapStop c.args.rounds.now c.implied_by.new.ecx) c.from_residual.result c.in_err-implied.field-0.0 c.from_residual.ensures.1 (asking-stop (later-refl c.args.rounds.now) c.in_err-implied.ensures.cause)

pub is_one_negated-requires-clause-env : goal.is_one_negated-requires-clause-env
is_one_negated-requires-clause-env c = (env-kept _ _ c.args.env c.implied_by.ensures.kept.grows c.requires.env).0

pub is_one_negated-requires-clause-clauses : goal.is_one_negated-requires-clause-clauses
is_one_negated-requires-clause-clauses c = subst (ClauseListFits c.implied_by.new.ecx.context.trees) (sym c.as_slice.ensures.value) c.in_ok-implied.ensures.fit

pub returns-clause-stays : goal.returns-clause-stays
returns-clause-stays c = stays-trans (stays-kept c.implied_by.ensures.kept c.implied_by.ensures.same) c.is_one_negated.ensures.stays

pub returns-clause-negated : goal.returns-clause-negated
returns-clause-negated c =
    IfOk-weaker c.is_one_negated.result _ _
    (λ b h e. clause-negated c.args.rounds.now c.implied_by.new.ecx c.args.env c.args.locals c.args.clause c.in_ok-implied.implied.items c.as_slice.result.now (sure_of c.is_one_negated.new.rounds) c.implied_by.ensures.kept.grows
    c.implied_by.ensures.same c.requires.env c.in_ok-implied.ensures.are c.as_slice.ensures.value (h e))
    c.is_one_negated.ensures.denied

pub returns-clause-cause : goal.returns-clause-cause
returns-clause-cause c = so-err c.is_one_negated.result (λ s k. stop-later (later-kept c.implied_by.ensures.kept) k) c.is_one_negated.ensures.cause
