use Rattle.std.proofs.Common.{◌≡◌, Some, refl, ap, sym, subst, ◌∙◌}
use Rattle.std.specs.Prelude.{IfSome}
use Rattle.ir_trees.specs.Syntax.Trees.{Tree}
use Rattle.ir_trees.specs.Syntax.Words.{clause_tree, env_forest}
use Rattle.ir_folds.proofs.Instantiation.Joining.{clause-kept}
use Rattle.candidate_eval.proofs.Dynamic.Objects.{env-kept}
use Rattle.candidate_rounds.specs.Evaluators.Known.{state, table_of}
use Rattle.overlaps.specs.Answered.{Holds}
use Rattle.overlaps.specs.Reasons.{IsCause, here_at}
use Rattle.overlaps.specs.Stopping.{IsOverlapStop}
use Rattle.overlaps.proofs.OpenClauses.{cause-before, holds-before}
use Rattle.overlaps.proofs.PureFolder.{asked-kept}
use Rattle.overlaps.proofs.Refusing.{got-fits, got-there}
use Rattle.overlaps.proofs.Staying.{stays-kept, stays-trans}
use Rattle.overlaps.proofs.Stopping.{asking-stop, later-kept, later-refl, passed-on, stop-later}
use Rattle.overlaps.proofs.reasons.open_clause.Goals as goal

pub with_values-requires-clause-clause : goal.with_values-requires-clause-clause
with_values-requires-clause-clause c =
    let xs = c.args.of.now.wheres.items in
    let x = c.index.result.now in
    got-fits c.args.rounds.now.context.trees xs c.args.number x c.requires.open.2.fit (got-there xs c.args.number x c.requires.number ∙ ap Some (sym c.index.ensures))

pub returns-in_err-clause-clause-stays : goal.returns-in_err-clause-clause-stays
returns-in_err-clause-clause-stays c = stays-kept c.with_values.ensures.kept c.with_values.ensures.same

pub returns-in_err-clause-clause-cause : goal.returns-in_err-clause-clause-cause
returns-in_err-clause-clause-cause c = passed-on (IsOverlapStop c.args.rounds.now c.with_values.new.ecx) c.from_residual.result c.in_err-clause.field-0.0 c.from_residual.ensures.1 (asking-stop (later-refl c.args.rounds.now) c.in_err-clause.ensures.cause)

pub cause_of_clause-requires-clause-env : goal.cause_of_clause-requires-clause-env
cause_of_clause-requires-clause-env c = (env-kept _ _ c.args.env c.with_values.ensures.kept.grows c.requires.env).0

pub returns-in_err-cause-clause-cause : goal.returns-in_err-cause-clause-cause
returns-in_err-cause-clause-cause c = passed-on (IsOverlapStop c.args.rounds.now c.cause_of_clause.new.rounds) c.from_residual-in_err-cause.result c.in_err-cause.field-0.0 c.from_residual-in_err-cause.ensures.1 (stop-later (later-kept c.with_values.ensures.kept) c.in_err-cause.ensures.cause)

pub returns-in_default-clause-is : goal.returns-in_default-clause-is
returns-in_default-clause-is c =
    let old = c.args.rounds.now in
    let mid = c.with_values.new.ecx in
    let env = c.args.env in
    let xs = c.args.of.now.wheres.items in
    let x = c.index.result.now in
    let t = clause_tree mid.context.trees c.in_ok-clause.clause in
    record {
      clause = x;
      is = got-there xs c.args.number x c.requires.number ∙ ap Some (sym c.index.ensures);
      holds = subst (λ (u : Tree). Holds (env_forest old.context.trees env) (table_of old) (state old) u) c.in_ok-clause.ensures.tree
          (holds-before old mid env t (asked-kept c.with_values.ensures.kept c.with_values.ensures.same) c.requires.env (c.in_ok-cause.ensures.holds c.in_default.is));
    }

pub returns-clause-is : goal.returns-clause-is
returns-clause-is c =
    let old = c.args.rounds.now in
    let mid = c.with_values.new.ecx in
    let new = c.cause_of_clause.new.rounds in
    let env = c.args.env in
    let xs = c.args.of.now.wheres.items in
    let x = c.index.result.now in
    let y = c.in_ok-clause.clause in
    let w = c.in-Some.cause in
    let t = clause_tree mid.context.trees y in
    let kept = clause-kept mid.context new.context y c.cause_of_clause.ensures.stays.grows c.in_ok-clause.ensures.sort in
    let why : IsCause (here_at mid env) t w = subst (λ o. IfSome o (IsCause (here_at mid env) t)) c.in-Some.is c.in_ok-cause.ensures.is in
    record {
      clause = x;
      is = got-there xs c.args.number x c.requires.number ∙ ap Some (sym c.index.ensures);
      place = refl;
      sort = kept.0;
      says = kept.1 ∙ c.in_ok-clause.ensures.tree;
      cause = subst (λ (u : Tree). IsCause (here_at old env) u w) c.in_ok-clause.ensures.tree
          (cause-before old mid env t w (asked-kept c.with_values.ensures.kept c.with_values.ensures.same) c.requires.env why);
    }

pub returns-in_err-cause-clause-stays : goal.returns-in_err-cause-clause-stays
returns-in_err-cause-clause-stays c = stays-trans (stays-kept c.with_values.ensures.kept c.with_values.ensures.same) c.cause_of_clause.ensures.stays

pub returns-in_default-clause-stays : goal.returns-in_default-clause-stays
returns-in_default-clause-stays c = stays-trans (stays-kept c.with_values.ensures.kept c.with_values.ensures.same) c.cause_of_clause.ensures.stays

pub returns-clause-stays : goal.returns-clause-stays
returns-clause-stays c = stays-trans (stays-kept c.with_values.ensures.kept c.with_values.ensures.same) c.cause_of_clause.ensures.stays
