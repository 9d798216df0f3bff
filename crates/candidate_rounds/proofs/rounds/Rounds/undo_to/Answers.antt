use Rattle.std.proofs.Common.{◌≤◌, length, reverse, sym, subst}
use Rattle.candidate_rounds.specs.Evaluators.Known.{Evaluator, AreMarks}
use Rattle.candidate_rounds.proofs.Equations.Assigning.{holds-back-to}
use Rattle.candidate_rounds.proofs.Snapshots.ResolvedValues.{resolved-back}
use Rattle.candidate_rounds.specs.Evaluators.Known.{HasResolvedValues, IsEvaluator}
use Rattle.candidate_rounds.specs.Evaluators.Inferences.{back_to}
use Rattle.candidate_rounds.proofs.Evaluators.Between.{of-parts, parts}
use Rattle.candidate_rounds.proofs.rounds.Rounds.undo_to.Goals as goal

pub invariant_of-self : goal.invariant_of-self
invariant_of-self c =
    let i = c.self.inside in
    let ks = reverse i.probes.items in
    let few = subst (λ (e : Evaluator). c.args.changes ≤ length e.inference.trail) (sym c.self.view_is) c.requires.few in
    let marks = subst (λ (e : Evaluator). AreMarks c.args.changes e.marks) (sym c.self.view_is) c.requires.probes in
    let resolved = subst (λ (e : Evaluator). HasResolvedValues e.context.trees (back_to c.args.changes e.inference)) (sym c.self.view_is) c.requires.resolved in
    subst (λ x. IsEvaluator i.cx x ks (record { pairs = i.normal.items; is_open = i.opens }) i.opaques.items i.goals) (sym c.undo_to.ensures)
    (of-parts (record {
      consistent = holds-back-to i.cx.trees i.inference c.args.changes ks (parts c.self.invariant).consistent few marks;
      resolved = resolved-back i.cx.trees i.inference c.args.changes ks marks resolved (parts c.self.invariant).resolved.at_marks;
      given = (parts c.self.invariant).given;
      tabled = (parts c.self.invariant).tabled;
      derived = (parts c.self.invariant).derived;
    }))
