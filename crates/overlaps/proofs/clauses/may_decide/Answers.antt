use Rattle.ir_trees.proofs.Growth.Kept.{args-kept}
use Rattle.candidate_eval.proofs.Dynamic.Objects.{env-kept}
use Rattle.candidate_rounds.specs.Evaluators.Known.{state}
use Rattle.overlaps.proofs.AskedClauses.{stands-not}
use Rattle.overlaps.proofs.PlainGoals.{plain-goal}
use Rattle.overlaps.proofs.Staying.{stays-kept, stays-refl}
use Rattle.overlaps.proofs.Stopping.{asking-stop, later-refl, passed-on}
use Rattle.overlaps.specs.Stopping.{IsOverlapStop}
use Rattle.overlaps.proofs.clauses.may_decide.Goals as goal

pub returns-then-not-is_without_aliases-clause-stays : goal.returns-then-not-is_without_aliases-clause-stays
returns-then-not-is_without_aliases-clause-stays c = stays-refl c.args.rounds.now

pub returns-in_err-is_resolved-clause-stays : goal.returns-in_err-is_resolved-clause-stays
returns-in_err-is_resolved-clause-stays c = stays-kept c.is_resolved.ensures.kept c.is_resolved.ensures.same

pub returns-then-not-branch-clause-stays : goal.returns-then-not-branch-clause-stays
returns-then-not-branch-clause-stays c = stays-kept c.is_resolved.ensures.kept c.is_resolved.ensures.same

pub stands_here-requires-clause-env : goal.stands_here-requires-clause-env
stands_here-requires-clause-env c = (env-kept _ _ c.args.env c.is_resolved.ensures.kept.grows c.requires.env).0

pub stands_here-requires-clause-args : goal.stands_here-requires-clause-args
stands_here-requires-clause-args c = (args-kept _ _ c.args.predicate.trait_ref.args c.is_resolved.ensures.kept.grows c.requires.args).0

pub returns-clause-stays : goal.returns-clause-stays
returns-clause-stays c = stays-kept c.is_resolved.ensures.kept c.is_resolved.ensures.same

pub returns-clause-plain : goal.returns-clause-plain
returns-clause-plain c = λ t.
    let old = c.args.rounds.now in
    let new = c.is_resolved.new.ecx in
    plain-goal (state old) (state new) old.context new.context c.args.env c.args.predicate c.is_resolved.ensures.same c.is_resolved.ensures.kept.grows c.requires.args
    (c.is_without_aliases.ensures.mode c.if-not-is_without_aliases.false) c.requires.pending (c.is_without_aliases.ensures.no_alias c.if-not-is_without_aliases.false) (c.in_ok-is_resolved.ensures.is c.if-not-branch.false)
    (c.stands_here.ensures.stands t)

pub returns-in_err-is_resolved-clause-cause : goal.returns-in_err-is_resolved-clause-cause
returns-in_err-is_resolved-clause-cause c = passed-on (IsOverlapStop c.args.rounds.now c.is_resolved.new.ecx) c.from_residual.result c.in_err-is_resolved.field-0.0 c.from_residual.ensures.1 (asking-stop (later-refl c.args.rounds.now) c.in_err-is_resolved.ensures.cause)

pub returns-clause-nothing : goal.returns-clause-nothing
returns-clause-nothing c = λ no fit.
    let old = c.args.rounds.now in
    let new = c.is_resolved.new.ecx in
    let grows = c.is_resolved.ensures.kept.grows in
    stands-not old new c.args.env c.args.predicate c.stands_here.result grows c.is_resolved.ensures.same c.requires.env c.requires.args no fit c.stands_here.ensures.all
