use Rattle.std.proofs.Common.{◌≡◌, List, map, sym, subst}
use Rattle.std.proofs.lemmas.Result.{IfOk-weaker}
use Rattle.ir_trees.specs.declared.ir.kinds.Clause.{Clause}
use Rattle.ir_trees.specs.Instantiation.Owned.{ClausesAreOwned}
use Rattle.ir_trees.specs.Syntax.Words.{ClauseListFits, args_forest, clause_tree, env_forest}
use Rattle.ir_trees.proofs.Growth.Kept.{grows-trans}
use Rattle.candidate_eval.proofs.Dynamic.Objects.{env-kept}
use Rattle.candidate_assembly.proofs.Calls.Causes.{so-err}
use Rattle.candidate_rounds.specs.Evaluators.Known.{Each, sure_of}
use Rattle.overlaps.proofs.Staying.{known-beside, known-kept, known-then}
use Rattle.overlaps.proofs.Stopping.{asking-stop, later-kept, later-known, later-refl, later-then, passed-on, stop-later}
use Rattle.overlaps.proofs.Typed.{found-where-left}
use Rattle.overlaps.specs.Specialized.{AreTakenUp, IsFoundOfLeft, IsLeft, Left, clauses_with}
use Rattle.overlaps.specs.Stopping.{IsOverlapStop}
use Rattle.overlaps.proofs.specializing.specializes_where_equal.Goals as goal

pub with_locals-requires-clause-locals : goal.with_locals-requires-clause-locals
with_locals-requires-clause-locals c = c.requires.open.0

pub with_locals-requires-clause-clauses : goal.with_locals-requires-clause-clauses
with_locals-requires-clause-clauses c =
    let ts = c.args.rounds.now.context.trees in
    subst (ClausesAreOwned ts (args_forest ts c.args.general.now.locals)) (sym c.as_slice.ensures.value) c.requires.open.2

pub returns-in_err-clauses-clause-stays : goal.returns-in_err-clauses-clause-stays
returns-in_err-clauses-clause-stays c = known-kept c.with_locals.ensures.kept

pub returns-in_err-clauses-clause-cause : goal.returns-in_err-clauses-clause-cause
returns-in_err-clauses-clause-cause c = passed-on (IsOverlapStop c.args.rounds.now c.with_locals.new.ecx) c.from_residual.result c.in_err-clauses.field-0.0 c.from_residual.ensures.1 (asking-stop (later-refl c.args.rounds.now) c.in_err-clauses.ensures.cause)

pub take_up_all-requires-clause-env : goal.take_up_all-requires-clause-env
take_up_all-requires-clause-env c = (env-kept _ _ c.args.env c.with_locals.ensures.kept.grows c.requires.env).0

pub take_up_all-requires-clause-clauses : goal.take_up_all-requires-clause-clauses
take_up_all-requires-clause-clauses c = subst (ClauseListFits c.with_locals.new.ecx.context.trees) (sym c.as_slice-2.ensures.value) c.in_ok-clauses.ensures.fit

pub returns-in_err-number-clause-stays : goal.returns-in_err-number-clause-stays
returns-in_err-number-clause-stays c = known-then (known-kept c.with_locals.ensures.kept) c.take_up_all.ensures.stays

pub returns-in_err-number-clause-cause : goal.returns-in_err-number-clause-cause
returns-in_err-number-clause-cause c = passed-on (IsOverlapStop c.args.rounds.now c.take_up_all.new.rounds) c.from_residual-in_err-number.result c.in_err-number.field-0.0 c.from_residual-in_err-number.ensures.1 (stop-later (later-kept c.with_locals.ensures.kept) c.in_err-number.ensures.cause)

pub returns-in-Some-clause-stays : goal.returns-in-Some-clause-stays
returns-in-Some-clause-stays c = known-then (known-kept c.with_locals.ensures.kept) c.take_up_all.ensures.stays

pub what_is_left_holds-requires-clause-env : goal.what_is_left_holds-requires-clause-env
what_is_left_holds-requires-clause-env c = (env-kept _ _ c.args.env (grows-trans _ _ _ c.with_locals.ensures.kept.grows c.take_up_all.ensures.stays.grows) c.requires.env).0

pub what_is_left_holds-requires-clause-left : goal.what_is_left_holds-requires-clause-left
what_is_left_holds-requires-clause-left c =
    let taken = c.in_ok-number.ensures.taken c.in-None.is in
    subst (Each (IsLeft c.take_up_all.new.rounds.context.trees)) (sym c.as_slice-in-None.ensures.value) taken.fit

pub returns-clause-stays : goal.returns-clause-stays
returns-clause-stays c = known-then (known-then (known-kept c.with_locals.ensures.kept) c.take_up_all.ensures.stays) (known-beside c.what_is_left_holds.ensures.stays)

pub returns-clause-is : goal.returns-clause-is
returns-clause-is c =
    let old = c.args.rounds.now in
    let mid = c.with_locals.new.ecx in
    let at = c.take_up_all.new.rounds in
    let o = c.args.general.now in
    let T = sure_of c.what_is_left_holds.new.rounds in
    let e = env_forest mid.context.trees c.args.env in
    let xs = c.in_ok-clauses.clauses.items in
    let left = c.take_up_all.new.left.items in
    let ts = old.context.trees in
    let trees : map (clause_tree mid.context.trees) xs ≡ clauses_with ts (args_forest ts o.locals) o.wheres.items
    = subst (λ (ys : List Clause). map (clause_tree mid.context.trees) xs ≡ clauses_with ts (args_forest ts o.locals) ys) c.as_slice.ensures.value c.in_ok-clauses.ensures.trees in
    let taken : AreTakenUp mid at e (map (clause_tree mid.context.trees) xs) left
    = subst (λ (ys : List Clause). AreTakenUp mid at e (map (clause_tree mid.context.trees) ys) left) c.as_slice-2.ensures.value (c.in_ok-number.ensures.taken c.in-None.is) in
    IfOk-weaker c.what_is_left_holds.result _ _
    (λ x h. found-where-left old mid at c.args.env T o xs left (known-kept c.with_locals.ensures.kept) c.with_locals.ensures.same c.requires.env trees taken c.take_up_all.ensures.stays.grows x
    (subst (λ (ls : List Left). IsFoundOfLeft at (env_forest at.context.trees c.args.env) T ls x) c.as_slice-in-None.ensures.value h)) c.what_is_left_holds.ensures.is

pub returns-clause-cause : goal.returns-clause-cause
returns-clause-cause c =
    so-err c.what_is_left_holds.result (λ s k. stop-later (later-then (later-kept c.with_locals.ensures.kept) (later-known c.take_up_all.ensures.stays)) k) c.what_is_left_holds.ensures.cause
