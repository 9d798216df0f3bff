use Rattle.std.proofs.Common.{◌≡◌, ◌∷◌, [], length, reverse, sym, ◌∙◌, ap, subst}
use Rattle.std.proofs.lemmas.List.{reverse-append}
use Rattle.candidate_rounds.specs.Evaluators.Inferences.{back_to}
use Rattle.candidate_rounds.specs.Evaluators.Known.{probes, state_of, states_at, AreMarks, IsConsistent}
use Rattle.candidate_rounds.proofs.Snapshots.Probing.{others-stay, holds-back}
use Rattle.candidate_rounds.proofs.Snapshots.ResolvedValues.{resolved-back}
use Rattle.candidate_rounds.specs.Evaluators.Known.{IsEvaluator, StaysResolved}
use Rattle.candidate_rounds.proofs.Evaluators.Between.{of-parts, parts}
use Rattle.candidate_rounds.proofs.rounds.evaluator.RoundsEvalCtxt.end_probe.Goals as goal

marks-were : (c : goal.After-new-2) → reverse c.self.inside.probes.items ≡ c.in-Some.changes ∷ reverse c.pop.new.self.items
marks-were c = ap reverse c.in-Some.ensures.items ∙ reverse-append c.pop.new.self.items (c.in-Some.changes ∷ [])

pub invariant_of-self-2 : goal.invariant_of-self-2
invariant_of-self-2 c =
    let s = c.self.inside in
    let i = s.inference in
    let ts = s.cx.trees in
    let n = c.in-Some.changes in
    let ks = reverse c.pop.new.self.items in
    let h = subst (IsConsistent ts i) (marks-were c) (parts c.self.invariant).consistent in
    let r = subst (StaysResolved ts i) (marks-were c) (parts c.self.invariant).resolved in
    subst (λ x. IsEvaluator s.cx x ks (record { pairs = s.normal.items; is_open = s.opens }) s.opaques.items s.goals) (sym c.undo_to.ensures)
    (of-parts (record {
      consistent = holds-back ts i n ks h;
      resolved = resolved-back ts i n ks h.marks.1 r.at_marks.0 r.at_marks.1;
      given = (parts c.self.invariant).given;
      tabled = (parts c.self.invariant).tabled;
      derived = (parts c.self.invariant).derived;
    }))

pub returns-clause-left : goal.returns-clause-left
returns-clause-left c S others e =
    let i = c.self.inside.inference in
    let ts = c.self.inside.cx.trees in
    let mode = c.self.inside.mode in
    let ks = reverse c.pop.new.self.items in
    let n = c.in-Some.changes in
    let m = subst (AreMarks (length i.trail)) (marks-were c) (parts c.self.invariant).consistent.marks in
    let was : state_of ts mode (back_to n i) ∷ states_at ts mode i ks ≡ S ∷ others = ap (states_at ts mode i) (sym (marks-were c)) ∙ (ap probes c.self.view_is ∙ e) in
    let tail : states_at ts mode i ks ≡ others = cc in
    ap (λ x. states_at ts mode x ks) c.undo_to.ensures ∙ (others-stay ts mode i n ks m.1 ∙ tail)
