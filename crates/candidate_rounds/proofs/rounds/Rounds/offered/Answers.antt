use Rattle.std.proofs.Common.{◌≡◌, Some, None, reverse, sym, ◌∙◌, ap, subst}
use Rattle.ir_trees.specs.Instantiation.Folds.{arg_tree}
use Rattle.ir_trees.specs.Syntax.Nodes.{tree_at}
use Rattle.ir_trees.specs.Unification.Substitutions.{alone}
use Rattle.candidate_eval.specs.Judges.Soundness.{IsResolved}
use Rattle.rounds_judge.specs.Equations.Binding.{bound, may_take}
use Rattle.rounds_judge.specs.Equations.Equating.{Left, offered, value_for}
use Rattle.candidate_rounds.specs.Evaluators.Known.{Evaluator, listing, state, state_of}
use Rattle.rounds_judge.proofs.Equations.Ending.{value_resolved}
use Rattle.candidate_rounds.proofs.Resolution.Alone.{infer-is}
use Rattle.candidate_rounds.proofs.Evaluators.Going.{goes-trans}
use Rattle.candidate_rounds.proofs.Equations.Offering.{declined, none-asked, taken-by}
use Rattle.std.proofs.lemmas.Result.{err_from_is_err_and}
use Rattle.candidate_rounds.specs.Evaluators.Stopping.{IsBindingStop, IsValueStop, of_offered, of_taken}
use Rattle.candidate_rounds.proofs.Evaluators.Between.{parts}
use Rattle.candidate_rounds.proofs.Evaluators.Exits.{free-value}
use Rattle.candidate_rounds.proofs.rounds.Rounds.offered.Goals as goal

pub returns-in_default-argument-clause-taken : goal.returns-in_default-argument-clause-taken
returns-in_default-argument-clause-taken c more =
    let i = c.self.inside in
    let us = reverse c.args.universes.now in
    subst (λ (e : Evaluator). offered (listing e) (state e) us (tree_at e.context.trees c.args.to).head (tree_at e.context.trees c.args.number) more ≡ None) c.self.view_is
    (none-asked i.cx.trees i.normal.items (state_of i.cx.trees i.mode i.inference) us (tree_at i.cx.trees c.args.to).head c.in-Some.variable (tree_at i.cx.trees c.args.number) more
    (parts c.self.invariant).given.types (infer-is (tree_at i.cx.trees c.args.to).head c.in-Some.variable (sym c.variable_at.ensures ∙ c.in-Some.is)) c.in_default-argument.ensures)

pub returns-then-not-may_take-clause-taken : goal.returns-then-not-may_take-clause-taken
returns-then-not-may_take-clause-taken c more =
    let old = c.args.self.now in
    let v = c.in-Some.variable in
    let us = reverse c.args.universes.now in
    let t = tree_at old.context.trees c.args.number in
    let x = arg_tree c.value_for.new.self.context.trees c.in_ok-value.value in
    let is : x ≡ value_for (listing old) (state old) us t = c.in_ok-value.ensures.tree ∙ ap (λ n. value_for (listing old) (state old) us (tree_at old.context.trees n)) c.in-Some-argument.ensures.0 in
    let may = ap (may_take (state old) v) (sym is) ∙ (ap (λ S. may_take S v x) (sym c.value_for.ensures.state) ∙ (sym c.may_take.ensures ∙ c.if-not-may_take.true)) in
    let head = ap (λ (e : Evaluator). (tree_at e.context.trees c.args.to).head) (sym c.self.view_is) ∙ infer-is (tree_at c.self.inside.cx.trees c.args.to).head v (sym c.variable_at.ensures ∙ c.in-Some.is) in
    declined (listing old) (state old) us (tree_at old.context.trees c.args.to).head v t more head may

pub bind-requires-clause-resolved : goal.bind-requires-clause-resolved
bind-requires-clause-resolved c =
    let old = c.args.self.now in
    let us = reverse c.args.universes.now in
    let x = arg_tree c.value_for.new.self.context.trees c.in_ok-value.value in
    let whole = value_resolved (listing old) (parts c.recall_well_kept.ensures).given.listing (state old) ((parts c.recall_well_kept.ensures).resolved.now old.mode) us (arg_tree old.context.trees c.in-Some-argument.arg) in
    subst (λ S. IsResolved S (alone x)) (sym c.value_for.ensures.state) (subst (λ y. IsResolved (state old) (alone y)) (sym c.in_ok-value.ensures.tree) whole)

pub returns-clause-goes : goal.returns-clause-goes
returns-clause-goes c = goes-trans c.args.self.now c.value_for.new.self c.bind.new.self c.value_for.ensures.goes c.bind.ensures.goes

pub returns-clause-taken : goal.returns-clause-taken
returns-clause-taken c more =
    let old = c.args.self.now in
    let v = c.in-Some.variable in
    let us = reverse c.args.universes.now in
    let t = tree_at old.context.trees c.args.number in
    let x = arg_tree c.value_for.new.self.context.trees c.in_ok-value.value in
    let is : x ≡ value_for (listing old) (state old) us t = c.in_ok-value.ensures.tree ∙ ap (λ n. value_for (listing old) (state old) us (tree_at old.context.trees n)) c.in-Some-argument.ensures.0 in
    let may = ap (may_take (state old) v) (sym is) ∙ (ap (λ S. may_take S v x) (sym c.value_for.ensures.state) ∙ (sym c.may_take.ensures ∙ c.if-not-may_take.false)) in
    let head = ap (λ (e : Evaluator). (tree_at e.context.trees c.args.to).head) (sym c.self.view_is) ∙ infer-is (tree_at c.self.inside.cx.trees c.args.to).head v (sym c.variable_at.ensures ∙ c.in-Some.is) in
    taken-by (listing old) (state old) us (tree_at old.context.trees c.args.to).head v t more head may
    ∙ sym (ap (λ S. Some (Left S more)) (c.in_ok-bind.ensures.bound ∙ (ap (λ S. bound S v x) c.value_for.ensures.state ∙ ap (bound (state old) v) is)))

pub returns-in_err-value-clause-cause : goal.returns-in_err-value-clause-cause
returns-in_err-value-clause-cause c =
    let old = c.args.self.now in
    let v = c.in-Some.variable in
    let us = reverse c.args.universes.now in
    let p = err_from_is_err_and c.from_residual.result c.from_residual.ensures.1 in
    let head = ap (λ (e : Evaluator). (tree_at e.context.trees c.args.to).head) (sym c.self.view_is) ∙ infer-is (tree_at c.self.inside.cx.trees c.args.to).head v (sym c.variable_at.ensures ∙ c.in-Some.is) in
    rw (p.1, p.2)
    (of_offered v head
    (subst (λ n. IsValueStop c.value_for.new.self.context.trees (listing old) (state old) us (tree_at old.context.trees n) c.in_err-value.field-0.0) c.in-Some-argument.ensures.0 c.in_err-value.ensures.cause))

pub returns-in_err-bind-clause-cause : goal.returns-in_err-bind-clause-cause
returns-in_err-bind-clause-cause c =
    let old = c.args.self.now in
    let v = c.in-Some.variable in
    let us = reverse c.args.universes.now in
    let t = tree_at old.context.trees c.args.number in
    let x = arg_tree c.value_for.new.self.context.trees c.in_ok-value.value in
    let ts = c.bind.new.self.context.trees in
    let s = c.in_err-bind.field-0.0 in
    let p = err_from_is_err_and c.from_residual-in_err-bind.result c.from_residual-in_err-bind.ensures.1 in
    let is : x ≡ value_for (listing old) (state old) us t = c.in_ok-value.ensures.tree ∙ ap (λ n. value_for (listing old) (state old) us (tree_at old.context.trees n)) c.in-Some-argument.ensures.0 in
    let head = ap (λ (e : Evaluator). (tree_at e.context.trees c.args.to).head) (sym c.self.view_is) ∙ infer-is (tree_at c.self.inside.cx.trees c.args.to).head v (sym c.variable_at.ensures ∙ c.in-Some.is) in
    rw (p.1, p.2) (of_taken v head (subst (λ y. IsBindingStop ts (state old) v y s) is (subst (λ S. IsBindingStop ts S v x s) c.value_for.ensures.state c.in_err-bind.ensures.cause)))

pub bind-requires-clause-value : goal.bind-requires-clause-value
bind-requires-clause-value c = c.in_ok-value.ensures.sort

pub bind-requires-clause-may : goal.bind-requires-clause-may
bind-requires-clause-may c = sym c.may_take.ensures ∙ c.if-not-may_take.false

pub bind-requires-clause-free : goal.bind-requires-clause-free
bind-requires-clause-free c =
    let old = c.args.self.now in
    let v = c.in-Some.variable in
    let head = ap (λ (e : Evaluator). (tree_at e.context.trees c.args.to).head) (sym c.self.view_is) ∙ infer-is (tree_at c.self.inside.cx.trees c.args.to).head v (sym c.variable_at.ensures ∙ c.in-Some.is) in
    free-value (state old) (state c.value_for.new.self) v (tree_at old.context.trees c.args.to).head (arg_tree c.value_for.new.self.context.trees c.in_ok-value.value) head c.requires.free c.value_for.ensures.state
    (sym c.may_take.ensures ∙ c.if-not-may_take.false)

pub returns-in_err-bind-clause-goes : goal.returns-in_err-bind-clause-goes
returns-in_err-bind-clause-goes c = goes-trans c.args.self.now c.value_for.new.self c.bind.new.self c.value_for.ensures.goes c.bind.ensures.goes
