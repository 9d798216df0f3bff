use Rattle.std.proofs.Common.{Some, subst}
use Rattle.std.proofs.lemmas.Result.{IfOk-weaker}
use Rattle.ir_trees.specs.declared.ir.kinds.TyKind.TheVariants as K
use Rattle.ir_trees.specs.Syntax.Words.{env_forest, kind_tree, ty_tree}
use Rattle.ir_trees.proofs.Growth.Kept.{ty-kept}
use Rattle.candidate_eval.proofs.Dynamic.Objects.{env-kept}
use Rattle.candidate_assembly.proofs.Calls.Causes.{so-err}
use Rattle.candidate_rounds.specs.Evaluators.Known.{state}
use Rattle.overlaps.proofs.JointNormals.{equal-under}
use Rattle.overlaps.proofs.Staying.{known-kept, known-then}
use Rattle.overlaps.proofs.Stopping.{asking-stop, later-kept, later-known, later-then, passed-on, stop-later}
use Rattle.overlaps.proofs.Typed.{said-holds}
use Rattle.overlaps.specs.Stopping.{IsOverlapStop}
use Rattle.overlaps.specs.Together.{IsProjectedAs}
use Rattle.overlaps.proofs.specializing.holds_as_said.Goals as goal

pub make_one_equal-requires-clause-env : goal.make_one_equal-requires-clause-env
make_one_equal-requires-clause-env c = (env-kept _ _ c.args.env c.projected.ensures.stays.grows c.requires.env).0

pub make_one_equal-requires-clause-other : goal.make_one_equal-requires-clause-other
make_one_equal-requires-clause-other c = (ty-kept _ _ c.args.said.1 c.projected.ensures.stays.grows c.requires.term).0

pub returns-in_err-make_one_equal-in-Type-clause-stays : goal.returns-in_err-make_one_equal-in-Type-clause-stays
returns-in_err-make_one_equal-in-Type-clause-stays c = known-then c.projected.ensures.stays (known-kept c.make_one_equal.ensures.kept)

pub returns-in_err-make_one_equal-in-Type-clause-cause : goal.returns-in_err-make_one_equal-in-Type-clause-cause
returns-in_err-make_one_equal-in-Type-clause-cause c =
    passed-on (IsOverlapStop c.args.rounds.now c.make_one_equal.new.ecx) c.from_residual-in_err-make_one_equal-in-Type.result c.in_err-make_one_equal-in-Type.field-0.0
    c.from_residual-in_err-make_one_equal-in-Type.ensures.1 (asking-stop (later-known c.projected.ensures.stays) c.in_err-make_one_equal-in-Type.ensures.cause)

pub returns-then-not-branch-clause-stays : goal.returns-then-not-branch-clause-stays
returns-then-not-branch-clause-stays c = known-then c.projected.ensures.stays (known-kept c.make_one_equal.ensures.kept)

pub returns-else-not-branch-clause-stays : goal.returns-else-not-branch-clause-stays
returns-else-not-branch-clause-stays c = known-then (known-then c.projected.ensures.stays (known-kept c.make_one_equal.ensures.kept)) c.is_quiet.ensures.stays

pub returns-else-not-branch-clause-holds : goal.returns-else-not-branch-clause-holds
returns-else-not-branch-clause-holds c =
    let old = c.args.rounds.now in
    let at = c.projected.new.rounds in
    let done = c.make_one_equal.new.ecx in
    let e = env_forest old.context.trees c.args.env in
    let t = kind_tree old.context.trees (K.Alias c.args.said.0) in
    let u = ty_tree old.context.trees c.args.said.1 in
    let p = subst (IsProjectedAs old at e t) c.in-Type.is c.in_ok-projected.ensures.is in
    let equal = equal-under old at c.args.env c.in-Type.ty c.args.said.1 (Some (state done)) c.projected.ensures.stays.grows c.requires.env p.1 c.requires.term
    (c.in_ok-make_one_equal-in-Type.ensures.equal c.if-not-branch.false) in
    let all = known-then (known-then c.projected.ensures.stays (known-kept c.make_one_equal.ensures.kept)) c.is_quiet.ensures.stays in
    IfOk-weaker c.is_quiet.result _ _ (λ b h q. said-holds old at done c.is_quiet.new.rounds e t u c.projected.ensures.stays all p.0 equal (h q).0 (h q).1) c.is_quiet.ensures.quiet

pub returns-else-not-branch-clause-cause : goal.returns-else-not-branch-clause-cause
returns-else-not-branch-clause-cause c =
    so-err c.is_quiet.result (λ s k. stop-later (later-then (later-known c.projected.ensures.stays) (later-kept c.make_one_equal.ensures.kept)) k) c.is_quiet.ensures.cause
