use Rattle.std.proofs.Common.{rules, refl}
use Rattle.candidate_eval.proofs.Knowability.PlainCalls.{answers-its-input}
use Rattle.examples.proofs.writing.may_write.Goals as goal

pub returns-in-Ok-Ok : goal.returns-in-Ok-Ok
returns-in-Ok-Ok c = λ e.
    c.orphan_check_trait_ref-checked.ensures.no_foreign_header
    (answers-its-input (λ by lent left t answer next k. search rules)) (c.trait_ref_is_plain.ensures.plain (search rules)) refl (search rules)
