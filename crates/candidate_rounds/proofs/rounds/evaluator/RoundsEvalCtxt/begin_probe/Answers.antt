use Rattle.std.proofs.Common.{◌≡◌, ◌∷◌, [], length, reverse, sym, ◌∙◌, ap, subst}
use Rattle.std.proofs.lemmas.List.{reverse-append}
use Rattle.candidate_rounds.specs.Evaluators.Known.{IsEvaluator}
use Rattle.candidate_rounds.proofs.Snapshots.Holding.{holds-kept}
use Rattle.candidate_rounds.proofs.Snapshots.ResolvedValues.{resolved-begun}
use Rattle.candidate_rounds.proofs.Evaluators.Between.{of-parts, parts}
use Rattle.candidate_rounds.proofs.rounds.evaluator.RoundsEvalCtxt.begin_probe.Goals as goal

pub invariant_of-self-in-Kept : goal.invariant_of-self-in-Kept
invariant_of-self-in-Kept c =
    let s = c.self.inside in
    let ks = reverse s.probes.items in
    let marks : reverse c.push.new.self.items ≡ length s.inference.trail ∷ ks =
    ap reverse c.in_ok-push-in-Kept.ensures.items ∙ (reverse-append s.probes.items (c.changes.result ∷ []) ∙ ap (λ n. n ∷ ks) c.changes.ensures) in
    subst (λ ms. IsEvaluator s.cx s.inference ms (record { pairs = s.normal.items; is_open = s.opens }) s.opaques.items s.goals) (sym marks)
    (of-parts (record {
      consistent = holds-kept s.cx.trees s.inference ks (parts c.self.invariant).consistent;
      resolved = resolved-begun s.cx.trees s.inference ks (parts c.self.invariant).resolved;
      given = (parts c.self.invariant).given;
      tabled = (parts c.self.invariant).tabled;
      derived = (parts c.self.invariant).derived;
    }))
