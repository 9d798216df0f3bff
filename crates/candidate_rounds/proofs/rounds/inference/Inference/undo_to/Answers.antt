use Rattle.std.proofs.Common.{◌≡◌, ◌∷◌, [], ◌≤◌, length, sym, ◌∙◌, ap, arith}
use Rattle.std.proofs.lemmas.List.{length-append}
use Rattle.candidate_rounds.specs.Evaluators.Inferences.{Inference, noted, before, back_to}
use Rattle.candidate_rounds.proofs.Snapshots.Undoing.{back-before}
use Rattle.candidate_rounds.proofs.rounds.inference.Inference.undo_to.Goals as goal

pub loop-self-preserved-in-Some : goal.loop-self-preserved-in-Some
loop-self-preserved-in-Some c =
    let e = c.in-Some.ensures.items in
    let t : Inference = record c.loop-self.self { trail = c.pop.new.self.items } in
    let is : noted t c.in-Some.change ≡ c.loop-self.self = ap (λ x. record c.loop-self.self { trail = x }) (sym e ∙ ap (λ (x : Inference). x.trail) c.self.view_is) in
    let l : c.args.changes ≤ length c.pop.new.self.items =
    let n = ap length e ∙ length-append c.pop.new.self.items (c.in-Some.change ∷ []) in
    let m = c.self.inside.trail.ok.0 in
    omega (arith, n, m, c.len.ensures, c.loop-self-test.true) in
    let u : c.undo.new.self ≡ before c.in-Some.change t = c.undo.ensures ∙ ap (λ (x : Inference). before c.in-Some.change (record x { trail = c.pop.new.self.items })) c.self.view_is in
    ap (back_to c.args.changes) u ∙ (back-before c.loop-self.self t c.in-Some.change c.args.changes is l ∙ c.loop-self.invariant)
