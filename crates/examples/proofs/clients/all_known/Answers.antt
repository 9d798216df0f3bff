use Rattle.std.proofs.Common.{rules, refl, sym, ◌∙◌}
use Rattle.candidate_eval.proofs.Knowability.PlainCalls.{answers-its-input}
use Rattle.examples.proofs.clients.all_known.Goals as goal

pub returns-in-Ok-Ok : goal.returns-in-Ok-Ok
returns-in-Ok-Ok c = λ e.
    c.trait_ref_is_knowable-known.ensures.no_unnamed_header
    (answers-its-input (λ by lent left t answer next k. search rules)) (sym (c.has.ensures.list refl) ∙ c.if-has.false) (search rules)
