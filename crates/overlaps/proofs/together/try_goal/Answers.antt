use Rattle.std.proofs.Common.{◌≡◌, ap, refl, rules, ◌∙◌}
use Rattle.std.proofs.lemmas.Result.{IfOk-weaker}
use Rattle.ir_trees.specs.declared.ir.kinds.ParamEnv.{ParamEnv}
use Rattle.ir_trees.specs.Unification.Substitutions.{alone}
use Rattle.ir_trees.specs.Syntax.Words.{clause_tree, env_forest}
use Rattle.candidate_eval.specs.Interface.Accounts.{resolve}
use Rattle.candidate_eval.specs.Judges.States.{Pending}
use Rattle.candidate_eval.proofs.Interface.Accounts.{memory-somehow}
use Rattle.candidate_eval.proofs.Dynamic.Objects.{env-kept}
use Rattle.candidate_assembly.proofs.Calls.Causes.{asked-somehow, so-err}
use Rattle.candidate_rounds.specs.Evaluators.Known.{state}
use Rattle.overlaps.proofs.Jointly.{kept-tried, obligations-there, tried-with-values}
use Rattle.overlaps.proofs.Staying.{known-kept, known-refl, known-then}
use Rattle.overlaps.proofs.Stopping.{asking-stop, later-kept, later-refl, passed-on, stop-later}
use Rattle.overlaps.specs.Stopping.{IsOverlapStop}
use Rattle.overlaps.specs.Together.{Obligation, pending_at, with_values}
use Rattle.overlaps.proofs.together.try_goal.Goals as goal

pub returns-then-ne-clause-stays : goal.returns-then-ne-clause-stays
returns-then-ne-clause-stays c = known-refl c.args.rounds.now

pub returns-then-ne-clause-tried : goal.returns-then-ne-clause-tried
returns-then-ne-clause-tried c = kept-tried c.args.rounds.now c.args.rounds.now c.args.goal c.args.left.now.items c.keep.new.left.items c.keep.result (later-refl c.args.rounds.now) refl c.requires.pending c.requires.fit c.requires.left c.keep.ensures.open c.keep.ensures.pushed

pub returns-then-ne-clause-cause : goal.returns-then-ne-clause-cause
returns-then-ne-clause-cause c = so-err c.keep.result (λ s k. asking-stop (later-refl c.args.rounds.now) (memory-somehow k)) c.keep.ensures.cause

pub returns-in_err-predicate-clause-stays : goal.returns-in_err-predicate-clause-stays
returns-in_err-predicate-clause-stays c = known-kept c.resolve_clause_if_possible.ensures.kept

pub returns-in_err-predicate-clause-cause : goal.returns-in_err-predicate-clause-cause
returns-in_err-predicate-clause-cause c = passed-on (IsOverlapStop c.args.rounds.now c.resolve_clause_if_possible.new.self) c.from_residual.result c.in_err-predicate.field-0.0 c.from_residual.ensures.1 (asking-stop (later-refl c.args.rounds.now) (asked-somehow (resolve (alone (clause_tree c.args.rounds.now.context.trees c.args.goal.1.predicate))) c.resolve_clause_if_possible.ensures.kept c.in_err-predicate.ensures.cause))

pub try_with_values-requires-clause-fit : goal.try_with_values-requires-clause-fit
try_with_values-requires-clause-fit c = ((env-kept _ _ c.args.goal.1.param_env c.resolve_clause_if_possible.ensures.kept.grows c.requires.fit.0).0, c.in_ok-predicate.ensures.sort)

pub try_with_values-requires-clause-empty : goal.try_with_values-requires-clause-empty
try_with_values-requires-clause-empty c =
    let same : c.args.goal.1.param_env.0 ≡ c.args.env.0 = search rules in
    (env-kept _ _ c.args.goal.1.param_env c.resolve_clause_if_possible.ensures.kept.grows c.requires.fit.0).1
    ∙ (ap (λ n. let v : ParamEnv = record { 0 = n } in env_forest c.args.rounds.now.context.trees v) same ∙ c.requires.empty)

pub try_with_values-requires-clause-left : goal.try_with_values-requires-clause-left
try_with_values-requires-clause-left c = obligations-there c.args.rounds.now c.resolve_clause_if_possible.new.self c.args.left.now.items (later-kept c.resolve_clause_if_possible.ensures.kept) c.requires.left

pub returns-clause-stays : goal.returns-clause-stays
returns-clause-stays c = known-then (known-kept c.resolve_clause_if_possible.ensures.kept) c.try_with_values.ensures.stays

pub returns-clause-tried : goal.returns-clause-tried
returns-clause-tried c =
    let old = c.args.rounds.now in
    let mid = c.resolve_clause_if_possible.new.self in
    let h : Obligation = (c.args.goal.0, record { param_env = c.args.goal.1.param_env; predicate = c.in_ok-predicate.predicate }) in
    let e = (env-kept _ _ c.args.goal.1.param_env c.resolve_clause_if_possible.ensures.kept.grows c.requires.fit.0).1 in
    let t = c.in_ok-predicate.ensures.tree in
    let is : pending_at mid h ≡ with_values (state old) (pending_at old c.args.goal) = λ i. record { source = c.args.goal.0; goal = record { env = e i; clause = t i } } in
    IfOk-weaker c.try_with_values.result _ _
    (λ b k. tried-with-values old mid c.try_with_values.new.rounds c.args.goal h c.args.left.now.items c.try_with_values.new.left.items b (later-kept c.resolve_clause_if_possible.ensures.kept) c.resolve_clause_if_possible.ensures.same
    c.requires.left is k) c.try_with_values.ensures.tried

pub returns-clause-cause : goal.returns-clause-cause
returns-clause-cause c = so-err c.try_with_values.result (λ s k. stop-later (later-kept c.resolve_clause_if_possible.ensures.kept) k) c.try_with_values.ensures.cause
