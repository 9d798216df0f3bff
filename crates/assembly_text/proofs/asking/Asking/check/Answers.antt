use Rattle.std.proofs.Common.{OnOk, subst}
use Rattle.std.specs.Prelude.{string_bytes}
use Rattle.ir_trees.specs.Declarations.Context.{Context}
use Rattle.assembly_notation.specs.declared.given.Given.{Given}
use Rattle.assembly_notation.specs.declared.names.Names.{Names}
use Rattle.assembly_text.specs.Checking.{SaysFindingsOfLine}
use Rattle.assembly_text.proofs.Finding.{alone-again, says-of-line}
use Rattle.assembly_text.proofs.asking.Asking.check.Goals as goal

pub answered_with_findings-asking-requires-clause-declared : goal.answered_with_findings-asking-requires-clause-declared
answered_with_findings-asking-requires-clause-declared c = alone-again _ _ c.forget.ensures.context

pub returns-in-Ok : goal.returns-in-Ok
returns-in-Ok c =
    let f = c.forget.ensures in
    let said = c.answered_with_findings-asking in
    subst (λ (x : Names × Context × Given). OnOk said.result.1 (SaysFindingsOfLine c.args.words.rest.now x.0 x.1 x.2 (string_bytes said.result.0.answer))) (λ i. (f.names i, f.context i, f.given i))
    (says-of-line said.result.1 _ _ _ c.in-Ok.effort c.args.words.rest.now (string_bytes said.result.0.answer) c.in-Ok.ensures.named said.ensures)
