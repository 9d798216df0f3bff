use Rattle.std.proofs.Common.{◌≡◌, Bool, true, false, sym, ◌∙◌}
use Rattle.ir_trees.specs.declared.ir.kinds.GenericArg.{GenericArg}
use Rattle.std.proofs.lemmas.Result.{err_from_is_err_and}
use Rattle.ir_trees.specs.Instantiation.Folds.{IsArg, arg_tree}
use Rattle.ir_trees.specs.Unification.Substitutions.{alone}
use Rattle.ir_folds.proofs.Hierarchy.Implying.{arg-kept}
use Rattle.candidate_rounds.specs.Evaluators.Known.{Evaluator, GoesOn, IsEvaluator, judged_at, listing, state}
use Rattle.rounds_judge.specs.Obligations.Settling.{has_unlisted}
use Rattle.candidate_rounds.specs.Evaluators.Stopping.{IsEquationStop, IsRelationStop}
use Rattle.candidate_rounds.proofs.Obligations.Evaluating.{first-unlisted, related-equal, related-refused, second-unlisted, unlisted-same}
use Rattle.candidate_rounds.proofs.Evaluators.Going.{goes-listing, goes-trans}
use Rattle.candidate_rounds.proofs.Stops.SettlingStops.{refusal-passed, related-stop, second-value-stop, stop-becomes}
use Rattle.candidate_rounds.proofs.Evaluators.Between.{parts}
use Rattle.candidate_rounds.proofs.rounds.Rounds.try_related.Goals as goal

-- The calls lead on, one after another.

both : (old mid last : Evaluator) → GoesOn old mid → GoesOn mid last → GoesOn old last
both old mid last f g = goes-trans old mid last f g

pub has_unlisted-requires-2 : goal.has_unlisted-requires-2
has_unlisted-requires-2 c = (arg-kept c.args.self.now.context c.has_unlisted.new.self.context c.args.right c.has_unlisted.ensures.goes.0 c.requires.right).0

pub equate-requires-clause-left : goal.equate-requires-clause-left
equate-requires-clause-left c =
    (arg-kept c.args.self.now.context c.has_unlisted-2.new.self.context c.args.left (both c.args.self.now c.has_unlisted.new.self c.has_unlisted-2.new.self c.has_unlisted.ensures.goes c.has_unlisted-2.ensures.goes).0 c.requires.left).0

pub equate-requires-clause-right : goal.equate-requires-clause-right
equate-requires-clause-right c =
    (arg-kept c.args.self.now.context c.has_unlisted-2.new.self.context c.args.right (both c.args.self.now c.has_unlisted.new.self c.has_unlisted-2.new.self c.has_unlisted.ensures.goes c.has_unlisted-2.ensures.goes).0 c.requires.right).0

-- The second answer, said of where the call began.
module _ (old mid : Evaluator) (goes : GoesOn old mid) (kept : IsEvaluator old.context old.inference old.marks old.normal old.opaques old.goals) (state_is : state mid ≡ state old) (right : GenericArg) (sort : IsArg old.context.trees right) where
  second-is : (b c : Bool) → b ≡ judged_at mid has_unlisted (alone (arg_tree mid.context.trees right)) → b ≡ c → judged_at old has_unlisted (alone (arg_tree old.context.trees right)) ≡ c
  second-is b c e f =
      sym (unlisted-same (listing old) (listing mid) (state old) (state mid) (arg_tree old.context.trees right) (arg_tree mid.context.trees right) (goes-listing old mid goes (parts kept).given) state_is (arg-kept old.context mid.context right goes.0 sort).1)
      ∙ (sym e ∙ f)

pub returns-then-second-clause-ok : goal.returns-then-second-clause-ok
returns-then-second-clause-ok c =
    let old = c.args.self.now in
    let mid = c.has_unlisted.new.self in
    second-unlisted (listing old) (state old) (arg_tree old.context.trees c.args.left) (arg_tree old.context.trees c.args.right) (state c.has_unlisted-2.new.self) (c.has_unlisted-2.ensures.state ∙ c.has_unlisted.ensures.state)
    (sym c.in_ok-first.ensures.is ∙ c.if-first.false)
    (second-is old mid c.has_unlisted.ensures.goes c.recall_well_kept.ensures c.has_unlisted.ensures.state c.args.right c.requires.right c.in_ok-second.second true c.in_ok-second.ensures.is c.if-second.true)

pub returns-in_err-equate-clause-refused : goal.returns-in_err-equate-clause-refused
returns-in_err-equate-clause-refused c =
    let old = c.args.self.now in
    let mid = c.has_unlisted.new.self in
    let last = c.has_unlisted-2.new.self in
    let goes = both old mid last c.has_unlisted.ensures.goes c.has_unlisted-2.ensures.goes in
    let p = err_from_is_err_and c.from_residual-in_err-equate.result c.from_residual-in_err-equate.ensures.1 in
    rw p.1
    (λ e. related-refused (listing old) (state old) (arg_tree old.context.trees c.args.left) (arg_tree old.context.trees c.args.right) (listing last) (state last) (arg_tree last.context.trees c.args.left) (arg_tree last.context.trees c.args.right)
    (goes-listing old last goes (parts c.recall_well_kept.ensures).given) (c.has_unlisted-2.ensures.state ∙ c.has_unlisted.ensures.state)
    (arg-kept old.context last.context c.args.left goes.0 c.requires.left).1 (arg-kept old.context last.context c.args.right goes.0 c.requires.right).1
    (sym c.in_ok-first.ensures.is ∙ c.if-first.false)
    (second-is old mid c.has_unlisted.ensures.goes c.recall_well_kept.ensures c.has_unlisted.ensures.state c.args.right c.requires.right c.in_ok-second.second false c.in_ok-second.ensures.is c.if-second.false)
    (c.in_err-equate.ensures.refused (sym p.2 ∙ e)))

pub returns-clause-ok : goal.returns-clause-ok
returns-clause-ok c =
    let old = c.args.self.now in
    let mid = c.has_unlisted.new.self in
    let last = c.has_unlisted-2.new.self in
    let goes = both old mid last c.has_unlisted.ensures.goes c.has_unlisted-2.ensures.goes in
    related-equal (listing old) (state old) (arg_tree old.context.trees c.args.left) (arg_tree old.context.trees c.args.right) (listing last) (state last) (arg_tree last.context.trees c.args.left) (arg_tree last.context.trees c.args.right)
    (goes-listing old last goes (parts c.recall_well_kept.ensures).given) (c.has_unlisted-2.ensures.state ∙ c.has_unlisted.ensures.state)
    (arg-kept old.context last.context c.args.left goes.0 c.requires.left).1 (arg-kept old.context last.context c.args.right goes.0 c.requires.right).1
    (sym c.in_ok-first.ensures.is ∙ c.if-first.false)
    (second-is old mid c.has_unlisted.ensures.goes c.recall_well_kept.ensures c.has_unlisted.ensures.state c.args.right c.requires.right c.in_ok-second.second false c.in_ok-second.ensures.is c.if-second.false)
    (state c.equate.new.self) c.in_ok-equate.ensures.ok

pub returns-in_err-second-clause-cause : goal.returns-in_err-second-clause-cause
returns-in_err-second-clause-cause c =
    let old = c.args.self.now in
    let mid = c.has_unlisted.new.self in
    let ts = c.has_unlisted-2.new.self.context.trees in
    stop-becomes (IsRelationStop ts (listing old) (state old) (arg_tree old.context.trees c.args.left) (arg_tree old.context.trees c.args.right)) c.from_residual-in_err-second.result c.in_err-second.field-0.0
    c.from_residual-in_err-second.ensures.1
    (second-value-stop ts (listing old) (state old) (arg_tree old.context.trees c.args.left) (arg_tree old.context.trees c.args.right) c.in_err-second.field-0.0 (listing mid) (state mid) (arg_tree mid.context.trees c.args.right)
    (goes-listing old mid c.has_unlisted.ensures.goes (parts c.recall_well_kept.ensures).given) c.has_unlisted.ensures.state (arg-kept old.context mid.context c.args.right c.has_unlisted.ensures.goes.0 c.requires.right).1 c.in_err-second.ensures.cause)

pub returns-in_err-equate-clause-cause : goal.returns-in_err-equate-clause-cause
returns-in_err-equate-clause-cause c =
    let old = c.args.self.now in
    let mid = c.has_unlisted.new.self in
    let last = c.has_unlisted-2.new.self in
    let goes = both old mid last c.has_unlisted.ensures.goes c.has_unlisted-2.ensures.goes in
    let ts = c.equate.new.self.context.trees in
    let x = arg_tree last.context.trees c.args.left in
    let y = arg_tree last.context.trees c.args.right in
    refusal-passed (IsRelationStop ts (listing old) (state old) (arg_tree old.context.trees c.args.left) (arg_tree old.context.trees c.args.right)) (IsEquationStop ts (listing last) (state last) (alone x) (alone y))
    c.from_residual-in_err-equate.result c.in_err-equate.field-0.0 c.from_residual-in_err-equate.ensures.1 c.in_err-equate.ensures.cause
    (λ s k. related-stop ts (listing old) (state old) (arg_tree old.context.trees c.args.left) (arg_tree old.context.trees c.args.right) s (listing last) (state last) x y
    (goes-listing old last goes (parts c.recall_well_kept.ensures).given) (c.has_unlisted-2.ensures.state ∙ c.has_unlisted.ensures.state)
    (arg-kept old.context last.context c.args.left goes.0 c.requires.left).1 (arg-kept old.context last.context c.args.right goes.0 c.requires.right).1 k)

pub returns-in_err-second-clause-goes : goal.returns-in_err-second-clause-goes
returns-in_err-second-clause-goes c = both c.args.self.now c.has_unlisted.new.self c.has_unlisted-2.new.self c.has_unlisted.ensures.goes c.has_unlisted-2.ensures.goes

pub returns-then-first-clause-goes : goal.returns-then-first-clause-goes
returns-then-first-clause-goes c = both c.args.self.now c.has_unlisted.new.self c.has_unlisted-2.new.self c.has_unlisted.ensures.goes c.has_unlisted-2.ensures.goes

pub returns-then-first-clause-ok : goal.returns-then-first-clause-ok
returns-then-first-clause-ok c =
    let old = c.args.self.now in
    first-unlisted (listing old) (state old) (arg_tree old.context.trees c.args.left) (arg_tree old.context.trees c.args.right) (state c.has_unlisted-2.new.self) (c.has_unlisted-2.ensures.state ∙ c.has_unlisted.ensures.state)
    (sym c.in_ok-first.ensures.is ∙ c.if-first.true)

pub returns-then-second-clause-goes : goal.returns-then-second-clause-goes
returns-then-second-clause-goes c = both c.args.self.now c.has_unlisted.new.self c.has_unlisted-2.new.self c.has_unlisted.ensures.goes c.has_unlisted-2.ensures.goes

pub returns-in_err-equate-clause-goes : goal.returns-in_err-equate-clause-goes
returns-in_err-equate-clause-goes c =
    goes-trans c.args.self.now c.has_unlisted-2.new.self c.equate.new.self (both c.args.self.now c.has_unlisted.new.self c.has_unlisted-2.new.self c.has_unlisted.ensures.goes c.has_unlisted-2.ensures.goes) c.equate.ensures.goes

pub returns-clause-goes : goal.returns-clause-goes
returns-clause-goes c =
    goes-trans c.args.self.now c.has_unlisted-2.new.self c.equate.new.self (both c.args.self.now c.has_unlisted.new.self c.has_unlisted-2.new.self c.has_unlisted.ensures.goes c.has_unlisted-2.ensures.goes) c.equate.ensures.goes
