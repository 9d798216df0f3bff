use Rattle.std.proofs.Common.{add-one, arith, drop-cons, ◌≡◌, ◌+◌, ◌∷◌, drop, slice_index_or}
use Rattle.ir_folds.proofs.Instantiation.Joining.{clause-kept}
use Rattle.ir_trees.specs.Syntax.Words.{env_forest}
use Rattle.candidate_eval.proofs.Dynamic.Objects.{env-kept}
use Rattle.candidate_rounds.proofs.Obligations.Gathering.{each-index}
use Rattle.overlaps.proofs.PureFolder.{sure-refl, sure-then}
use Rattle.overlaps.proofs.Stopping.{later-steps, passed-on, stop-later}
use Rattle.overlaps.proofs.Typed.{all-held, one-held}
use Rattle.overlaps.specs.Specialized.{IsLeft}
use Rattle.overlaps.specs.Stopping.{IsOverlapStop}
use Rattle.overlaps.proofs.specializing.first_not_held.Goals as goal

pub loop-i-init : goal.loop-i-init
loop-i-init c = record { asked = sure-refl c.args.rounds.now; follows = λ h. h }

pub is_held-requires-clause-env : goal.is_held-requires-clause-env
is_held-requires-clause-env c = (env-kept _ _ c.args.env c.loop-i.invariant.asked.stays.grows c.requires.env).0

pub is_held-requires-clause-clause : goal.is_held-requires-clause-clause
is_held-requires-clause-clause c =
    (clause-kept _ _ _ c.loop-i.invariant.asked.stays.grows (each-index (IsLeft c.args.rounds.now.context.trees) c.args.left.now c.loop-i.i _ c.requires.left c.loop-i-test.true)).0

pub returns-in_err-is_held-clause-stays : goal.returns-in_err-is_held-clause-stays
returns-in_err-is_held-clause-stays c = (sure-then c.loop-i.invariant.asked c.is_held.ensures.stays c.is_held.ensures.sure).stays

pub returns-in_err-is_held-clause-sure : goal.returns-in_err-is_held-clause-sure
returns-in_err-is_held-clause-sure c = (sure-then c.loop-i.invariant.asked c.is_held.ensures.stays c.is_held.ensures.sure).sure

pub returns-then-not-branch-clause-stays : goal.returns-then-not-branch-clause-stays
returns-then-not-branch-clause-stays c = (sure-then c.loop-i.invariant.asked c.is_held.ensures.stays c.is_held.ensures.sure).stays

pub returns-then-not-branch-clause-sure : goal.returns-then-not-branch-clause-sure
returns-then-not-branch-clause-sure c = (sure-then c.loop-i.invariant.asked c.is_held.ensures.stays c.is_held.ensures.sure).sure

pub loop-i-preserved : goal.loop-i-preserved
loop-i-preserved c =
    let ls = c.args.left.now in
    let n = c.loop-i.i in
    let x = slice_index_or ls n (0, record { 0 = 0 }) in
    let split : drop n ls ≡ x ∷ drop (n + 1) ls = rw add-one (drop-cons ls n (0, record { 0 = 0 }) c.loop-i-test.true) in
    one-held c.args.rounds.now c.loop-i.rounds c.is_held.new.rounds c.args.env ls x n c.loop-i.invariant c.is_held.ensures.stays c.is_held.ensures.sure c.requires.env
    (each-index (IsLeft c.args.rounds.now.context.trees) ls n (0, record { 0 = 0 }) c.requires.left c.loop-i-test.true) split (c.in_ok-is_held.ensures.holds c.if-not-branch.false)

pub returns-clause-stays : goal.returns-clause-stays
returns-clause-stays c = c.loop-i.invariant.asked.stays

pub returns-clause-sure : goal.returns-clause-sure
returns-clause-sure c = c.loop-i.invariant.asked.sure

pub returns-clause-hold : goal.returns-clause-hold
returns-clause-hold c = λ e.
    all-held c.args.rounds.now c.loop-i.rounds (env_forest c.args.rounds.now.context.trees c.args.env) c.args.left.now c.loop-i.i c.loop-i.invariant (omega (arith, c.loop-i-test.false))

pub returns-in_err-is_held-clause-cause : goal.returns-in_err-is_held-clause-cause
returns-in_err-is_held-clause-cause c = passed-on (IsOverlapStop c.args.rounds.now c.is_held.new.rounds) c.from_residual.result c.in_err-is_held.field-0.0 c.from_residual.ensures.1 (stop-later (later-steps c.loop-i.invariant.asked.stays) c.in_err-is_held.ensures.cause)
