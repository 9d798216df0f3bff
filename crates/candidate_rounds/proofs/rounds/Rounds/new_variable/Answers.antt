use Rattle.std.proofs.Common.{reverse, sym, ◌∙◌, ap, subst}
use Rattle.candidate_rounds.specs.Evaluators.Inferences.{with_variable}
use Rattle.candidate_rounds.specs.Evaluators.Known.{states_at, probes}
use Rattle.candidate_rounds.proofs.Snapshots.Undoing.{undo-variable}
use Rattle.candidate_rounds.proofs.Snapshots.Knowing.{probes-stay, probes-grow}
use Rattle.candidate_rounds.proofs.Snapshots.Holding.{holds-variable, before-grown}
use Rattle.candidate_rounds.proofs.Snapshots.ResolvedValues.{evaluator-further, evaluator-grown, resolved-variable}
use Rattle.candidate_rounds.proofs.Evaluators.Going.{further-variable}
use Rattle.candidate_rounds.specs.Evaluators.Inferences.{with_variable}
use Rattle.candidate_rounds.specs.Evaluators.Known.{IsEvaluator}
use Rattle.candidate_rounds.proofs.Evaluators.Between.{parts}
use Rattle.candidate_rounds.proofs.rounds.Rounds.new_variable.Goals as goal

pub invariant_of-self : goal.invariant_of-self
invariant_of-self c =
    let i = c.self.inside in
    evaluator-grown i.cx c.variable.new.cx i.inference (reverse i.probes.items) (record { pairs = i.normal.items; is_open = i.opens }) i.opaques.items i.goals c.variable.ensures.grows c.self.invariant

pub returns-in_err-arg-clause-probes : goal.returns-in_err-arg-clause-probes
returns-in_err-arg-clause-probes c =
    let i = c.self.inside in
    probes-grow i.cx.trees c.variable.new.cx.trees i.mode i.inference (reverse i.probes.items) c.variable.ensures.grows.kept (parts c.self.invariant).consistent.known ∙ ap probes c.self.view_is

pub invariant_of-self-in_err-add_variable : goal.invariant_of-self-in_err-add_variable
invariant_of-self-in_err-add_variable c =
    let i = c.self.inside in
    subst (λ x. IsEvaluator c.variable.new.cx x (reverse i.probes.items) (record { pairs = i.normal.items; is_open = i.opens }) i.opaques.items i.goals) (sym c.in_err-add_variable.ensures.unchanged)
    (evaluator-grown i.cx c.variable.new.cx i.inference (reverse i.probes.items) (record { pairs = i.normal.items; is_open = i.opens }) i.opaques.items i.goals c.variable.ensures.grows c.self.invariant)

pub returns-in_err-add_variable-clause-probes : goal.returns-in_err-add_variable-clause-probes
returns-in_err-add_variable-clause-probes c =
    let i = c.self.inside in
    ap (λ x. states_at c.variable.new.cx.trees i.mode x (reverse i.probes.items)) c.in_err-add_variable.ensures.unchanged
    ∙ (probes-grow i.cx.trees c.variable.new.cx.trees i.mode i.inference (reverse i.probes.items) c.variable.ensures.grows.kept (parts c.self.invariant).consistent.known ∙ ap probes c.self.view_is)

pub invariant_of-self-2 : goal.invariant_of-self-2
invariant_of-self-2 c =
    let i = c.self.inside in
    let us = c.variable.new.cx.trees in
    let ks = reverse i.probes.items in
    let grown = evaluator-grown i.cx c.variable.new.cx i.inference (reverse i.probes.items) (record { pairs = i.normal.items; is_open = i.opens }) i.opaques.items i.goals c.variable.ensures.grows c.self.invariant in
    subst (λ x. IsEvaluator c.variable.new.cx x ks (record { pairs = i.normal.items; is_open = i.opens }) i.opaques.items i.goals) (sym c.in_ok-add_variable.ensures.added)
    (evaluator-further c.variable.new.cx i.inference (with_variable i.inference c.args.kind c.args.is_root) ks (record { pairs = i.normal.items; is_open = i.opens }) i.opaques.items i.goals grown (further-variable i.inference c.args.kind c.args.is_root)
    (holds-variable us i.inference ks c.args.kind c.args.is_root (parts grown).consistent) (resolved-variable us i.inference c.args.kind c.args.is_root (parts grown).resolved.now))

pub returns-clause-probes : goal.returns-clause-probes
returns-clause-probes c =
    let i = c.self.inside in
    let us = c.variable.new.cx.trees in
    let ks = reverse i.probes.items in
    ap (λ x. states_at us i.mode x ks) c.in_ok-add_variable.ensures.added
    ∙ (probes-stay us i.mode i.inference (with_variable i.inference c.args.kind c.args.is_root) ks (parts c.self.invariant).consistent.marks (undo-variable i.inference c.args.kind c.args.is_root)
    ∙ (probes-grow i.cx.trees us i.mode i.inference ks c.variable.ensures.grows.kept (parts c.self.invariant).consistent.known ∙ ap probes c.self.view_is))

pub returns-in_err-arg-clause-before : goal.returns-in_err-arg-clause-before
returns-in_err-arg-clause-before c = before-grown c.variable.new.cx.trees _ c.args.self.now c.self.view_is c.variable.ensures.grows.kept (parts c.self.invariant).consistent.known

pub returns-in_err-add_variable-clause-before : goal.returns-in_err-add_variable-clause-before
returns-in_err-add_variable-clause-before c = before-grown c.variable.new.cx.trees _ c.args.self.now c.self.view_is c.variable.ensures.grows.kept (parts c.self.invariant).consistent.known

pub returns-clause-before : goal.returns-clause-before
returns-clause-before c = before-grown c.variable.new.cx.trees _ c.args.self.now c.self.view_is c.variable.ensures.grows.kept (parts c.self.invariant).consistent.known
