use Rattle.std.proofs.Common.{inl, sym, ◌∙◌}
use Rattle.std.proofs.lemmas.Result.{err_from_is_err_and}
use Rattle.ir_trees.specs.Syntax.Words.{ty_tree}
use Rattle.ir_trees.specs.Unification.Substitutions.{alone}
use Rattle.ir_trees.proofs.Growth.Kept.{ty-kept}
use Rattle.candidate_rounds.specs.Evaluators.Known.{listing, state}
use Rattle.candidate_rounds.specs.Evaluators.Stopping.{IsEquationStop, IsListedStop}
use Rattle.candidate_rounds.proofs.Obligations.Evaluating.{listed-equal, listed-refused, listed-stays}
use Rattle.candidate_rounds.proofs.Evaluators.Between.{parts}
use Rattle.candidate_rounds.proofs.Evaluators.Going.{goes-listing, goes-trans}
use Rattle.candidate_rounds.proofs.Stops.SettlingStops.{listed-unequal, refusal-passed, stop-becomes}
use Rattle.candidate_rounds.proofs.rounds.Rounds.try_listed.Goals as goal

pub returns-in_err-stays_open-clause-cause : goal.returns-in_err-stays_open-clause-cause
returns-in_err-stays_open-clause-cause c =
    let old = c.args.self.now in
    let ts = old.context.trees in
    stop-becomes (IsListedStop c.stays_open.new.self.context.trees (listing old) (state old) (ty_tree ts c.args.listed) (ty_tree ts c.args.term)) c.from_residual.result c.in_err-stays_open.field-0.0 c.from_residual.ensures.1
    (inl c.in_err-stays_open.ensures.cause)

pub returns-then-branch-clause-ok : goal.returns-then-branch-clause-ok
returns-then-branch-clause-ok c =
    let old = c.args.self.now in
    let ts = old.context.trees in
    listed-stays (listing old) (state old) (state c.stays_open.new.self) (ty_tree ts c.args.term) (ty_tree ts c.args.listed) (sym c.in_ok-stays_open.ensures.is ∙ c.if-branch.true) c.stays_open.ensures.state

pub equate-requires-clause-left : goal.equate-requires-clause-left
equate-requires-clause-left c = (ty-kept c.args.self.now.context c.stays_open.new.self.context c.args.listed c.stays_open.ensures.goes.0 c.requires.listed).0

pub equate-requires-clause-right : goal.equate-requires-clause-right
equate-requires-clause-right c = (ty-kept c.args.self.now.context c.stays_open.new.self.context c.args.term c.stays_open.ensures.goes.0 c.requires.term).0

pub returns-in_err-equate-clause-goes : goal.returns-in_err-equate-clause-goes
returns-in_err-equate-clause-goes c = goes-trans c.args.self.now c.stays_open.new.self c.equate.new.self c.stays_open.ensures.goes c.equate.ensures.goes

pub returns-in_err-equate-clause-refused : goal.returns-in_err-equate-clause-refused
returns-in_err-equate-clause-refused c =
    let old = c.args.self.now in
    let mid = c.stays_open.new.self in
    let g = c.stays_open.ensures.goes in
    let p = err_from_is_err_and c.from_residual-in_err-equate.result c.from_residual-in_err-equate.ensures.1 in
    rw p.1
    (λ n. listed-refused (listing old) (listing mid) (state old) (state mid) (ty_tree old.context.trees c.args.term) (ty_tree old.context.trees c.args.listed) (ty_tree mid.context.trees c.args.term) (ty_tree mid.context.trees c.args.listed)
    (sym c.in_ok-stays_open.ensures.is ∙ c.if-branch.false) (goes-listing old mid g (parts c.recall_well_kept.ensures).given) c.stays_open.ensures.state
    (ty-kept old.context mid.context c.args.term g.0 c.requires.term).1 (ty-kept old.context mid.context c.args.listed g.0 c.requires.listed).1 (c.in_err-equate.ensures.refused (sym p.2 ∙ n)))

pub returns-in_err-equate-clause-cause : goal.returns-in_err-equate-clause-cause
returns-in_err-equate-clause-cause c =
    let old = c.args.self.now in
    let mid = c.stays_open.new.self in
    let us = c.equate.new.self.context.trees in
    let g = c.stays_open.ensures.goes in
    let x = ty_tree mid.context.trees c.args.listed in
    let y = ty_tree mid.context.trees c.args.term in
    refusal-passed (IsListedStop us (listing old) (state old) (ty_tree old.context.trees c.args.listed) (ty_tree old.context.trees c.args.term)) (IsEquationStop us (listing mid) (state mid) (alone x) (alone y))
    c.from_residual-in_err-equate.result c.in_err-equate.field-0.0 c.from_residual-in_err-equate.ensures.1 c.in_err-equate.ensures.cause
    (λ s k. listed-unequal us (listing old) (listing mid) (state old) (state mid) (ty_tree old.context.trees c.args.listed) (ty_tree old.context.trees c.args.term) x y s (goes-listing old mid g (parts c.recall_well_kept.ensures).given)
    c.stays_open.ensures.state (ty-kept old.context mid.context c.args.listed g.0 c.requires.listed).1 (ty-kept old.context mid.context c.args.term g.0 c.requires.term).1 k)

pub returns-clause-goes : goal.returns-clause-goes
returns-clause-goes c = goes-trans c.args.self.now c.stays_open.new.self c.equate.new.self c.stays_open.ensures.goes c.equate.ensures.goes

pub returns-clause-ok : goal.returns-clause-ok
returns-clause-ok c =
    let old = c.args.self.now in
    let mid = c.stays_open.new.self in
    let g = c.stays_open.ensures.goes in
    listed-equal (listing old) (listing mid) (state old) (state mid) (state c.equate.new.self) (ty_tree old.context.trees c.args.term) (ty_tree old.context.trees c.args.listed) (ty_tree mid.context.trees c.args.term) (ty_tree mid.context.trees c.args.listed)
    (sym c.in_ok-stays_open.ensures.is ∙ c.if-branch.false) (goes-listing old mid g (parts c.recall_well_kept.ensures).given) c.stays_open.ensures.state
    (ty-kept old.context mid.context c.args.term g.0 c.requires.term).1 (ty-kept old.context mid.context c.args.listed g.0 c.requires.listed).1 c.in_ok-equate.ensures.ok
