use Rattle.std.proofs.Common.{◌≡◌, ◌∙◌, ap, sym}
use Rattle.std.proofs.lemmas.Bool.{ne_eqb}
use Rattle.ir_trees.specs.Instantiation.Folds.{arg_tree}
use Rattle.ir_trees.specs.Syntax.Trees.{tree_holds, is_number}
use Rattle.candidate_rounds.specs.declared.rounds.inference.Entry.{Entry}
use Rattle.candidate_rounds.specs.Calls.Assigning.{with_its_value}
use Rattle.candidate_rounds.specs.Evaluators.Inferences.{assign}
use Rattle.candidate_rounds.proofs.Equations.Assigning.{get-below, some-is, value-stays, value-own, renewed-call}
use Rattle.candidate_rounds.proofs.Evaluators.Going.{further-assign, further-call}
use Rattle.candidate_rounds.proofs.Snapshots.Probing.{holds-grown}
use Rattle.candidate_rounds.proofs.Equations.Renewing.{none-there, holds-own, value-is, holds-put, renewed-put}
use Rattle.std.proofs.lemmas.Result.{err_from_is_err_and}
use Rattle.candidate_rounds.specs.Evaluators.Stopping.{of_value}
use Rattle.candidate_rounds.specs.Evaluators.Known.{state_of}
use Rattle.candidate_rounds.proofs.Stops.BindingStops.{not-noted, value-there}
use Rattle.candidate_rounds.proofs.rounds.binding.renew_value.Goals as goal

pub returns-in_default-clause-renewed : goal.returns-in_default-clause-renewed
returns-in_default-clause-renewed c = λ m. none-there c.args.cx.now.trees m c.args.inference.now c.args.number (with_its_value c.args.variable (arg_tree c.args.cx.now.trees c.args.value) c.args.number) (λ e g. c.in_default.not-Some e (c.entry.ensures ∙ g))

pub assign-requires : goal.assign-requires
assign-requires c = get-below c.args.inference.now.variables c.args.number c.in-Some.entry (sym c.entry.ensures ∙ c.in-Some.is)

pub returns-then-number-variable-clause-further : goal.returns-then-number-variable-clause-further
returns-then-number-variable-clause-further c = further-call c.args.inference.now c.assign.new.self (assign c.args.inference.now c.args.number c.args.value) c.assign.result (further-assign c.args.inference.now c.args.number c.args.value) c.assign.ensures.assigned c.assign.ensures.unchanged

pub returns-then-number-variable-clause-consistent : goal.returns-then-number-variable-clause-consistent
returns-then-number-variable-clause-consistent c =
    holds-own c.args.cx.now.trees c.args.inference.now c.assign.new.self c.args.number c.args.variable c.args.value c.assign.result c.requires.consistent c.requires.value c.requires.fits c.requires.kind c.if-number-variable.true c.requires.room c.assign.ensures.assigned c.assign.ensures.unchanged

pub returns-then-number-variable-clause-renewed : goal.returns-then-number-variable-clause-renewed
returns-then-number-variable-clause-renewed c = λ m.
    renewed-call c.args.cx.now.trees m c.assign.new.self (assign c.args.inference.now c.args.number c.args.value) _ c.assign.result
    (value-own c.args.cx.now.trees m c.args.inference.now c.args.number c.args.variable c.args.value c.if-number-variable.true) c.assign.ensures.assigned

pub returns-in_default-value-clause-renewed : goal.returns-in_default-value-clause-renewed
returns-in_default-value-clause-renewed c = λ m.
    value-stays c.args.cx.now.trees m c.args.inference.now c.args.number c.args.variable (arg_tree c.args.cx.now.trees c.args.value) (ne_eqb c.args.number c.args.variable.number c.if-number-variable.false)
    (λ e y g f. let same : c.in-Some.entry ≡ e = some-is (sym c.in-Some.is ∙ (c.entry.ensures ∙ g)) in absurd (c.in_default-value.not-Some y (ap (λ (d : Entry). d.value) same ∙ f)))

pub holds_variable-requires : goal.holds_variable-requires
holds_variable-requires c = value-is c.args.cx.now.trees c.args.inference.now c.args.number c.in-Some.entry c.in-Some-value.old c.requires.consistent.known (sym c.entry.ensures ∙ c.in-Some.is) c.in-Some-value.is

pub returns-then-not-holds_variable-clause-renewed : goal.returns-then-not-holds_variable-clause-renewed
returns-then-not-holds_variable-clause-renewed c = λ m.
    value-stays c.args.cx.now.trees m c.args.inference.now c.args.number c.args.variable (arg_tree c.args.cx.now.trees c.args.value) (ne_eqb c.args.number c.args.variable.number c.if-number-variable.false)
    (λ e y g f.
    let same : c.in-Some.entry ≡ e = some-is (sym c.in-Some.is ∙ (c.entry.ensures ∙ g)) in
    let old : c.in-Some-value.old ≡ y = some-is (sym c.in-Some-value.is ∙ (ap (λ (d : Entry). d.value) same ∙ f)) in
    ap (λ y. tree_holds (is_number c.args.variable.number) (arg_tree c.args.cx.now.trees y)) (sym old) ∙ (sym c.holds_variable.ensures ∙ c.if-not-holds_variable.true))

pub put_value-requires-clause-arg : goal.put_value-requires-clause-arg
put_value-requires-clause-arg c = value-is c.args.cx.now.trees c.args.inference.now c.args.number c.in-Some.entry c.in-Some-value.old c.requires.consistent.known (sym c.entry.ensures ∙ c.in-Some.is) c.in-Some-value.is

pub returns-in_err-new-clause-consistent : goal.returns-in_err-new-clause-consistent
returns-in_err-new-clause-consistent c = holds-grown c.args.cx.now.trees c.put_value.new.cx.trees c.args.inference.now _ c.put_value.ensures.grows.kept c.requires.consistent

pub assign-requires-2 : goal.assign-requires-2
assign-requires-2 c = get-below c.args.inference.now.variables c.args.number c.in-Some.entry (sym c.entry.ensures ∙ c.in-Some.is)

pub returns-clause-further : goal.returns-clause-further
returns-clause-further c = further-call c.args.inference.now c.assign-2.new.self (assign c.args.inference.now c.args.number c.in_ok-new.new) c.assign-2.result (further-assign c.args.inference.now c.args.number c.in_ok-new.new) c.assign-2.ensures.assigned c.assign-2.ensures.unchanged

pub returns-clause-consistent : goal.returns-clause-consistent
returns-clause-consistent c =
    holds-put c.args.cx.now.trees c.put_value.new.cx.trees c.args.inference.now c.assign-2.new.self c.args.number c.args.variable (arg_tree c.args.cx.now.trees c.args.value) c.in-Some.entry c.in_ok-new.new c.in-Some-value.old c.assign-2.result
    c.put_value.ensures.grows.kept c.requires.consistent c.in_ok-new.ensures.sort c.requires.fits (sym c.entry.ensures ∙ c.in-Some.is) c.in-Some-value.is c.in_ok-new.ensures.tree c.if-number-variable.false c.requires.room c.assign-2.ensures.assigned c.assign-2.ensures.unchanged

pub returns-clause-renewed : goal.returns-clause-renewed
returns-clause-renewed c = λ m.
    renewed-put c.args.cx.now c.put_value.new.cx m c.args.inference.now c.assign-2.new.self c.args.number c.args.variable (arg_tree c.args.cx.now.trees c.args.value) c.in-Some.entry c.in_ok-new.new c.in-Some-value.old c.assign-2.result
    c.put_value.ensures.grows c.requires.consistent.known c.if-number-variable.false (sym c.entry.ensures ∙ c.in-Some.is) c.in-Some-value.is c.in_ok-new.ensures.tree c.assign-2.ensures.assigned

pub returns-then-number-variable-clause-cause : goal.returns-then-number-variable-clause-cause
returns-then-number-variable-clause-cause c = λ m. not-noted _ (state_of c.args.cx.now.trees m c.args.inference.now) c.args.variable _ c.args.number c.assign.result c.assign.ensures.cause

pub returns-in_err-new-clause-cause : goal.returns-in_err-new-clause-cause
returns-in_err-new-clause-cause c = λ m.
    let ts = c.args.cx.now.trees in
    let p = err_from_is_err_and c.from_residual.result c.from_residual.ensures.1 in
    rw (p.1, p.2)
    (of_value (arg_tree ts c.in-Some-value.old) c.if-number-variable.false
    (value-there ts m c.args.inference.now c.args.number c.in-Some.entry c.in-Some-value.old (sym c.entry.ensures ∙ c.in-Some.is) c.in-Some-value.is) c.in_err-new.ensures.cause)

pub returns-clause-cause : goal.returns-clause-cause
returns-clause-cause c = λ m. not-noted _ (state_of c.args.cx.now.trees m c.args.inference.now) c.args.variable _ c.args.number c.assign-2.result c.assign-2.ensures.cause
