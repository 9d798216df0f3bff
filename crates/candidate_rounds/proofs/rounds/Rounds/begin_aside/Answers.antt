use Rattle.std.proofs.Common.{◌≡◌, ◌∷◌, [], length, reverse, sym, ◌∙◌, ap, subst, arith}
use Rattle.std.proofs.lemmas.List.{reverse-append}
use Rattle.candidate_eval.specs.Judges.States.{with_pending}
use Rattle.candidate_rounds.specs.Evaluators.Inferences.{begin_pending}
use Rattle.candidate_rounds.specs.Evaluators.Known.{Evaluator, state, probes, state_of, states_at}
use Rattle.candidate_rounds.proofs.Snapshots.Undoing.{undo-pending}
use Rattle.candidate_rounds.proofs.Snapshots.Probing.{probe-begins, none-pending}
use Rattle.candidate_rounds.proofs.Snapshots.Holding.{holds-begun}
use Rattle.candidate_rounds.proofs.Snapshots.ResolvedValues.{resolved-begun, resolved-further, resolved-pending}
use Rattle.candidate_rounds.proofs.Evaluators.Going.{further-pending}
use Rattle.candidate_rounds.specs.Evaluators.Known.{IsEvaluator}
use Rattle.candidate_rounds.proofs.Evaluators.Between.{of-parts, parts}
use Rattle.candidate_rounds.proofs.rounds.Rounds.begin_aside.Goals as goal

marks-are : (c : goal.In-Ok) → reverse c.push.new.self.items ≡ length c.self.inside.inference.trail ∷ reverse c.self.inside.probes.items
marks-are c =
    ap reverse c.in_ok-push.ensures.items
    ∙ (reverse-append c.self.inside.probes.items (c.changes.result ∷ []) ∙ ap (λ n. n ∷ reverse c.self.inside.probes.items) c.changes.ensures)

pub invariant_of-self-in-Ok : goal.invariant_of-self-in-Ok
invariant_of-self-in-Ok c =
    let s = c.self.inside in
    let i = s.inference in
    let ts = s.cx.trees in
    let ks = reverse s.probes.items in
    let t = begin_pending i (length i.goals) in
    let m = (parts c.self.invariant).consistent.marks in
    let begun : IsEvaluator s.cx t (length i.trail ∷ ks) (record { pairs = s.normal.items; is_open = s.opens }) s.opaques.items s.goals = of-parts (record {
      consistent = holds-begun ts i ks (parts c.self.invariant).consistent;
      resolved = resolved-further ts i t (length i.trail ∷ ks) (omega arith, m) (further-pending i (length i.goals)) (resolved-pending ts i (length i.goals) (parts c.self.invariant).resolved.now) (resolved-begun ts i ks (parts c.self.invariant).resolved);
      given = (parts c.self.invariant).given;
      tabled = (parts c.self.invariant).tabled;
      derived = (parts c.self.invariant).derived;
    }) in
    subst (λ x. IsEvaluator s.cx x (reverse c.push.new.self.items) (record { pairs = s.normal.items; is_open = s.opens }) s.opaques.items s.goals) (sym c.in-Ok.ensures.aside) (subst (λ ks. IsEvaluator s.cx t ks (record { pairs = s.normal.items; is_open = s.opens }) s.opaques.items s.goals) (sym (marks-are c)) begun)

pub returns-in-Ok-clause-ok : goal.returns-in-Ok-clause-ok
returns-in-Ok-clause-ok c =
    let i = c.self.inside.inference in
    let ts = c.self.inside.cx.trees in
    let mode = c.self.inside.mode in
    let ks = reverse c.self.inside.probes.items in
    let aside = c.in-Ok.ensures.aside in
    let marks = marks-are c in
    let st = ap (state_of ts mode) aside ∙ (none-pending ts mode i ∙ ap (λ (e : Evaluator). with_pending (state e) []) c.self.view_is) in
    let ps = ap (λ ns. states_at ts mode c.set_aside.new.self ns) marks
    ∙ (ap (λ x. states_at ts mode x (length i.trail ∷ ks)) aside
    ∙ (probe-begins ts mode i (begin_pending i (length i.goals)) ks (parts c.self.invariant).consistent.marks (undo-pending i (length i.goals))
    ∙ ap (λ (e : Evaluator). state e ∷ probes e) c.self.view_is)) in
    (st, ps)
