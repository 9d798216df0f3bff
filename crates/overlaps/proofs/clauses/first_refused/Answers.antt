use Rattle.std.proofs.Common.{◌≡◌, arith, length, slice_index_or, subst, ◌∙◌}
use Rattle.ir_trees.specs.Syntax.Words.{args_forest}
use Rattle.ir_trees.proofs.Growth.Kept.{args-kept}
use Rattle.ir_folds.proofs.Instantiation.Joining.{clause-kept}
use Rattle.candidate_eval.proofs.Dynamic.Objects.{env-kept}
use Rattle.candidate_eval.proofs.Outcomes.Pairs.{clause_there}
use Rattle.candidate_rounds.specs.Evaluators.Known.{state, table_of}
use Rattle.overlaps.specs.Asked.{SoManyStay, none_asked}
use Rattle.overlaps.proofs.AskedClauses.{one-more}
use Rattle.overlaps.proofs.Refusing.{got-there, one-refused}
use Rattle.overlaps.proofs.Stopping.{later-steps, passed-on, stop-later}
use Rattle.overlaps.specs.Stopping.{IsOverlapStop}
use Rattle.overlaps.proofs.Staying.{stays-refl, stays-trans}
use Rattle.overlaps.proofs.clauses.first_refused.Goals as goal

pub loop-number-init : goal.loop-number-init
loop-number-init c = (stays-refl c.args.rounds.now, none_asked)

pub probe_clause-requires-clause-env : goal.probe_clause-requires-clause-env
probe_clause-requires-clause-env c = (env-kept _ _ c.args.env c.loop-number.invariant.0.grows c.requires.env).0

pub probe_clause-requires-clause-empty : goal.probe_clause-requires-clause-empty
probe_clause-requires-clause-empty c = (env-kept _ _ c.args.env c.loop-number.invariant.0.grows c.requires.env).1 ∙ c.requires.empty

pub probe_clause-requires-clause-clause : goal.probe_clause-requires-clause-clause
probe_clause-requires-clause-clause c =
    let x = slice_index_or c.args.clauses.now c.loop-number.number (record { 0 = 0 }) in
    (clause-kept _ _ x c.loop-number.invariant.0.grows (clause_there _ c.args.clauses.now (record { 0 = 0 }) c.loop-number.number c.requires.clauses.fit c.loop-number-test.true)).0

pub probe_clause-requires-clause-locals : goal.probe_clause-requires-clause-locals
probe_clause-requires-clause-locals c = (args-kept _ _ c.args.locals c.loop-number.invariant.0.grows c.requires.locals).0

pub probe_clause-requires-clause-there : goal.probe_clause-requires-clause-there
probe_clause-requires-clause-there c =
    let lt = c.loop-number-test.true in
    let x = slice_index_or c.args.clauses.now c.loop-number.number (record { 0 = 0 }) in
    let grows = c.loop-number.invariant.0.grows in
    let is = clause-kept _ _ x grows (clause_there _ c.args.clauses.now (record { 0 = 0 }) c.loop-number.number c.requires.clauses.fit lt) in
    rw (is.1, (args-kept _ _ c.args.locals grows c.requires.locals).1) (c.requires.clauses.have c.loop-number.number (record { 0 = 0 }) lt)

pub returns-in_err-probe_clause-clause-stays : goal.returns-in_err-probe_clause-clause-stays
returns-in_err-probe_clause-clause-stays c = stays-trans c.loop-number.invariant.0 c.probe_clause.ensures.stays

pub returns-then-branch-clause-stays : goal.returns-then-branch-clause-stays
returns-then-branch-clause-stays c = stays-trans c.loop-number.invariant.0 c.probe_clause.ensures.stays

pub returns-then-branch-clause-refused : goal.returns-then-branch-clause-refused
returns-then-branch-clause-refused c =
    let xs = c.args.clauses.now in
    let n = c.loop-number.number in
    let x = slice_index_or xs n (record { 0 = 0 }) in
    one-refused c.args.rounds.now c.loop-number.rounds c.probe_clause.new.rounds c.args.locals xs n x c.loop-number.invariant.0 c.requires.locals c.requires.clauses.fit (got-there xs n (record { 0 = 0 }) c.loop-number-test.true)
    (c.in_ok-probe_clause.ensures.refused c.if-branch.true)

pub loop-number-preserved : goal.loop-number-preserved
loop-number-preserved c =
    let xs = c.args.clauses.now in
    let n = c.loop-number.number in
    let x = slice_index_or xs n (record { 0 = 0 }) in (
      stays-trans c.loop-number.invariant.0 c.probe_clause.ensures.stays,
      one-more c.args.rounds.now c.loop-number.rounds c.args.effort c.args.locals xs n x (table_of c.args.rounds.now) (table_of c.probe_clause.new.rounds) c.loop-number.invariant.0 c.requires.locals c.requires.clauses.fit
          c.loop-number.invariant.1 (got-there xs n (record { 0 = 0 }) c.loop-number-test.true) (c.in_ok-probe_clause.ensures.asked c.if-branch.false),
    )

pub returns-clause-asked : goal.returns-clause-asked
returns-clause-asked c = λ none.
    let r = c.args.rounds.now in
    let xs = c.args.clauses.now in
    let all : c.loop-number.number ≡ length xs = omega (arith, c.loop-number-test.false, c.loop-number.auto.number-end) in
    subst (λ n. SoManyStay r (state r) c.args.effort (args_forest r.context.trees c.args.locals) xs (table_of r) n (table_of c.loop-number.rounds)) all c.loop-number.invariant.1

pub returns-in_err-probe_clause-clause-cause : goal.returns-in_err-probe_clause-clause-cause
returns-in_err-probe_clause-clause-cause c = passed-on (IsOverlapStop c.args.rounds.now c.probe_clause.new.rounds) c.from_residual.result c.in_err-probe_clause.field-0.0 c.from_residual.ensures.1 (stop-later (later-steps c.loop-number.invariant.0) c.in_err-probe_clause.ensures.cause)

pub returns-then-branch-clause-before : goal.returns-then-branch-clause-before
returns-then-branch-clause-before c = (table_of c.loop-number.rounds, c.loop-number.invariant.1)
