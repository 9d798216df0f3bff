use Rattle.std.proofs.Common.{◌≡◌, [], sym, ◌∙◌, ap, subst}
use Rattle.ir_trees.specs.Instantiation.Folds.{arg_tree}
use Rattle.candidate_rounds.specs.Evaluators.Inferences.{IsFurther, back_to}
use Rattle.candidate_rounds.specs.Evaluators.Known.{IsConsistent}
use Rattle.candidate_rounds.proofs.Evaluators.Going.{back-to-before, further-refl}
use Rattle.candidate_rounds.proofs.Snapshots.Probing.{holds-grown}
use Rattle.candidate_rounds.proofs.Equations.Renewing.{all-bound}
use Rattle.candidate_rounds.proofs.rounds.binding.bind_in.Goals as goal

pub returns-in-Err-clause-consistent : goal.returns-in-Err-clause-consistent
returns-in-Err-clause-consistent c =
    let s = c.args.inference.now in
    let t = c.renew_all.new.inference in
    let us = c.renew_all.new.cx.trees in
    let back : c.undo_to.new.self ≡ s = c.undo_to.ensures ∙ (ap (λ n. back_to n t) c.changes-changes.ensures ∙ back-to-before s t c.renew_all.ensures.further) in
    subst (λ x. IsConsistent us x []) (sym back) (holds-grown c.args.cx.now.trees us s [] c.renew_all.ensures.grows.kept c.requires.consistent)

pub returns-in-Err-clause-further : goal.returns-in-Err-clause-further
returns-in-Err-clause-further c =
    let s = c.args.inference.now in
    let back : c.undo_to.new.self ≡ s = c.undo_to.ensures ∙ (ap (λ n. back_to n c.renew_all.new.inference) c.changes-changes.ensures ∙ back-to-before s c.renew_all.new.inference c.renew_all.ensures.further) in
    subst (λ x. IsFurther s x) (sym back) (further-refl s)

pub returns-in-Err-clause-undone : goal.returns-in-Err-clause-undone
returns-in-Err-clause-undone c =
    c.undo_to.ensures ∙ (ap (λ n. back_to n c.renew_all.new.inference) c.changes-changes.ensures ∙ back-to-before c.args.inference.now c.renew_all.new.inference c.renew_all.ensures.further)

pub returns-clause-bound : goal.returns-clause-bound
returns-clause-bound c = λ m.
    let s = c.args.inference.now in
    let x = arg_tree c.args.cx.now.trees c.args.value in
    all-bound c.args.cx.now.trees c.renew_all.new.cx.trees m s c.renew_all.new.inference c.args.variable x c.in-Some.entry (sym c.entry.ensures ∙ c.in-Some.is) (c.in_default-renew_all.ensures.renewed m)
