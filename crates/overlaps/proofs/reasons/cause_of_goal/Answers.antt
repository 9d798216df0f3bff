use Rattle.std.proofs.Common.{◌≡◌, true, false, None, Some, refl, ap, sym, subst, ◌∙◌}
use Rattle.std.specs.Prelude.{IfOk, IfSome}
use Rattle.std.specs.Option.{option_map}
use Rattle.std.proofs.lemmas.Result.{IfOk-weaker}
use Rattle.ir_trees.specs.Declarations.Context.{Context}
use Rattle.ir_trees.specs.Syntax.Trees.{Forest}
use Rattle.ir_trees.specs.Syntax.Words.{IsArgs, args_forest}
use Rattle.ir_trees.proofs.Growth.Kept.{args-kept}
use Rattle.candidate_eval.specs.Outcomes.ResponseTrees.{response_of}
use Rattle.candidate_eval.proofs.Dynamic.Objects.{env-kept}
use Rattle.candidate_eval.proofs.Interface.Accounts.{memory-somehow}
use Rattle.candidate_assembly.specs.Goals.TraitGoals.{trait_goal}
use Rattle.candidate_assembly.proofs.Calls.Causes.{so-err}
use Rattle.candidate_rounds.specs.Evaluators.Known.{state, table_of}
use Rattle.candidate_rounds.specs.Table.Goals.{verdict_seen}
use Rattle.rounds_judge.specs.Table.GoalTable.{verdict_in}
use Rattle.rounds_judge.specs.Table.Keys.{key_at}
use Rattle.rounds_judge.specs.Table.Verdicts.{Maybe, Refused, Yes}
use Rattle.overlaps.specs.Reasons.{IsCauseOfYes, cause_of_unasked, here_at, stands_not}
use Rattle.overlaps.specs.Stopping.{IsOverlapStop, step_key}
use Rattle.overlaps.specs.declared.reasons.Cause.TheVariants as C
use Rattle.overlaps.proofs.OpenClauses.{cause-by, maybe-earlier, some-yes}
use Rattle.overlaps.proofs.Staying.{stays-refl, stays-same, stays-trans}
use Rattle.overlaps.proofs.Stopping.{asking-stop, later-refl, later-steps, passed-on, step-stop, stop-later, there}
use Rattle.overlaps.proofs.reasons.cause_of_goal.Goals as goal

pub returns-then-not-stands_here-clause-stays : goal.returns-then-not-stands_here-clause-stays
returns-then-not-stands_here-clause-stays c = stays-refl c.args.rounds.now

pub returns-then-not-stands_here-clause-is : goal.returns-then-not-stands_here-clause-is
returns-then-not-stands_here-clause-is c =
    stands_not
    (λ t.
    let clash : true ≡ false = sym (c.stands_here.ensures.all c.requires.fit t) ∙ c.if-not-stands_here.true in
    absurd cc)

pub returns-in_err-verdict-clause-cause : goal.returns-in_err-verdict-clause-cause
returns-in_err-verdict-clause-cause c = passed-on (IsOverlapStop c.args.rounds.now c.entry.new.self) c.from_residual.result c.in_err-verdict.field-0.0 c.from_residual.ensures.1 (step-stop (later-refl c.args.rounds.now) (step_key c.args.env c.args.predicate (there c.args.env c.args.predicate (later-refl c.args.rounds.now) c.requires.env c.requires.args c.entry.ensures.stays.grows.kept) c.in_err-verdict.ensures.cause))

pub cause_of_unasked-requires : goal.cause_of_unasked-requires
cause_of_unasked-requires c =
    let args = c.args.predicate.trait_ref.args in
    subst (λ (x : Context). IsArgs x.trees args) (sym c.cx.ensures) (args-kept _ _ args c.entry.ensures.stays.grows c.requires.args).0

pub returns-in-None-clause-is : goal.returns-in-None-clause-is
returns-in-None-clause-is c =
    let old = c.args.rounds.now in
    let mid = c.entry.new.self in
    let g = trait_goal old.context.trees c.args.env c.args.predicate in
    let r = c.args.predicate.trait_ref in
    let none : verdict_in (table_of old) (key_at (state old) g) ≡ None = sym c.in_ok-verdict.ensures.is ∙ ap (option_map (verdict_seen mid.context.trees)) c.in-None.is in
    let there : args_forest c.cx.result.now.trees r.args ≡ args_forest old.context.trees r.args
    = ap (λ (x : Context). args_forest x.trees r.args) c.cx.ensures ∙ (args-kept old.context mid.context r.args c.entry.ensures.stays.grows c.requires.args).1 in
    cause-by (here_at old c.args.env) g None c.cause_of_unasked.result none
    (c.cause_of_unasked.ensures ∙ ap (λ (f : Forest). cause_of_unasked (record { trait = r.def_id.0; arguments = f })) there)

pub returns-in-Some-Refused-clause-is : goal.returns-in-Some-Refused-clause-is
returns-in-Some-Refused-clause-is c =
    let old = c.args.rounds.now in
    let mid = c.entry.new.self in
    let g = trait_goal old.context.trees c.args.env c.args.predicate in
    let says = rw c.in-Some-Refused.is at c.in-Some-Refused.field-0-is in
    let refused : verdict_in (table_of old) (key_at (state old) g) ≡ Some Refused
    = sym c.in_ok-verdict.ensures.is ∙ ap (option_map (verdict_seen mid.context.trees)) (c.in-Some-Refused.is ∙ ap Some says) in
    cause-by (here_at old c.args.env) g (Some Refused) C.Refused refused refl

pub cause_of_maybe-requires-clause-env : goal.cause_of_maybe-requires-clause-env
cause_of_maybe-requires-clause-env c = (env-kept _ _ c.args.env c.entry.ensures.stays.grows c.requires.env).0

pub cause_of_maybe-requires-clause-args : goal.cause_of_maybe-requires-clause-args
cause_of_maybe-requires-clause-args c = (args-kept _ _ c.args.predicate.trait_ref.args c.entry.ensures.stays.grows c.requires.args).0

pub returns-in_err-cause_of_maybe-in-Some-Maybe-clause-cause : goal.returns-in_err-cause_of_maybe-in-Some-Maybe-clause-cause
returns-in_err-cause_of_maybe-in-Some-Maybe-clause-cause c =
    passed-on (IsOverlapStop c.args.rounds.now c.cause_of_maybe.new.rounds) c.from_residual-in_err-cause_of_maybe-in-Some-Maybe.result c.in_err-cause_of_maybe-in-Some-Maybe.field-0.0
    c.from_residual-in_err-cause_of_maybe-in-Some-Maybe.ensures.1 (stop-later (later-steps (stays-same c.entry.ensures.stays c.entry.ensures.table)) c.in_err-cause_of_maybe-in-Some-Maybe.ensures.cause)

pub returns-in-Some-Maybe-clause-is : goal.returns-in-Some-Maybe-clause-is
returns-in-Some-Maybe-clause-is c =
    let old = c.args.rounds.now in
    let mid = c.entry.new.self in
    let g = trait_goal old.context.trees c.args.env c.args.predicate in
    let says = rw c.in-Some-Maybe.is at c.in-Some-Maybe.field-0-is in
    let seen = response_of mid.context.trees c.in-Some-Maybe.field-0-0 in
    let maybe : verdict_in (table_of old) (key_at (state old) g) ≡ Some (Maybe seen c.in-Some-Maybe.field-0-1)
    = sym c.in_ok-verdict.ensures.is ∙ ap (option_map (verdict_seen mid.context.trees)) (c.in-Some-Maybe.is ∙ ap Some says) in
    cause-by (here_at old c.args.env) g (Some (Maybe seen c.in-Some-Maybe.field-0-1)) c.in_ok-cause_of_maybe-in-Some-Maybe.field-0 maybe
    (maybe-earlier old mid c.args.env c.args.predicate.trait_ref c.in_ok-cause_of_maybe-in-Some-Maybe.field-0 (record { stays = (stays-same c.entry.ensures.stays c.entry.ensures.table); table = c.entry.ensures.table }) c.requires.env c.requires.args
    c.in_ok-cause_of_maybe-in-Some-Maybe.ensures.is)

pub returns-clause-is : goal.returns-clause-is
returns-clause-is c =
    let old = c.args.rounds.now in
    let mid = c.entry.new.self in
    let g = trait_goal old.context.trees c.args.env c.args.predicate in
    let a = c.in-Some-Yes.response in
    let v = c.in-Some-Yes.field-0-1 in
    let says = rw c.in-Some-Yes.is at c.in-Some-Yes.field-0-is in
    let yes : verdict_in (table_of old) (key_at (state old) g) ≡ Some (Yes (response_of mid.context.trees a) v)
    = sym c.in_ok-verdict.ensures.is ∙ ap (option_map (verdict_seen mid.context.trees)) (c.in-Some-Yes.is ∙ ap Some says) in
    let is = subst (λ (x : Context). IfOk c.cause_of_yes.result (λ o. IfSome o (IsCauseOfYes x (response_of x.trees a) c.args.predicate.trait_ref.def_id))) c.cx-in-Some-Yes.ensures c.cause_of_yes.ensures.is in
    IfOk-weaker c.cause_of_yes.result _ _ (λ o h. some-yes (here_at old c.args.env) mid.context g (response_of mid.context.trees a) v o c.entry.ensures.stays.grows yes h) is

pub returns-clause-cause : goal.returns-clause-cause
returns-clause-cause c = so-err c.cause_of_yes.result (λ s k. asking-stop (later-refl c.args.rounds.now) (memory-somehow k)) c.cause_of_yes.ensures.cause

pub returns-in_err-verdict-clause-stays : goal.returns-in_err-verdict-clause-stays
returns-in_err-verdict-clause-stays c = stays-same c.entry.ensures.stays c.entry.ensures.table

pub returns-in-None-clause-stays : goal.returns-in-None-clause-stays
returns-in-None-clause-stays c = stays-same c.entry.ensures.stays c.entry.ensures.table

pub returns-in-Some-Refused-clause-stays : goal.returns-in-Some-Refused-clause-stays
returns-in-Some-Refused-clause-stays c = stays-same c.entry.ensures.stays c.entry.ensures.table

pub returns-in_err-cause_of_maybe-in-Some-Maybe-clause-stays : goal.returns-in_err-cause_of_maybe-in-Some-Maybe-clause-stays
returns-in_err-cause_of_maybe-in-Some-Maybe-clause-stays c = stays-trans (stays-same c.entry.ensures.stays c.entry.ensures.table) c.cause_of_maybe.ensures.stays

pub returns-in-Some-Maybe-clause-stays : goal.returns-in-Some-Maybe-clause-stays
returns-in-Some-Maybe-clause-stays c = stays-trans (stays-same c.entry.ensures.stays c.entry.ensures.table) c.cause_of_maybe.ensures.stays

pub returns-clause-stays : goal.returns-clause-stays
returns-clause-stays c = stays-same c.entry.ensures.stays c.entry.ensures.table
