use Rattle.std.proofs.Common.{ap, subst, sym}
use Rattle.std.specs.Prelude.{string_bytes}
use Rattle.ir_trees.specs.Declarations.Context.{Context}
use Rattle.assembly_text.specs.Printing.{AddsVerdict}
use Rattle.assembly_text.specs.Solving.{IsSolvedBefore}
use Rattle.assembly_text.proofs.Answered.{printed-as}
use Rattle.assembly_text.proofs.asking.Asking.answered_with_reasons.Goals as goal

pub returns-clause-adds : goal.returns-clause-adds
returns-clause-adds c =
    let first = c.args.self in
    let mid = c.explained-asking.result.0 in
    let last = c.print_explained-made.new.self in
    printed-as c.explained-asking.result.1 c.print_explained-made.result (λ e. AddsVerdict e.verdict (string_bytes mid.answer) (string_bytes last.answer)) c.explained-asking.ensures.comes c.print_explained-made.ensures.printed c.print_explained-made.ensures.stopped
    (λ e h p. record {
      verdict = e.verdict;
      solved = subst (λ (x : Context). IsSolvedBefore first.scope.maker first.given c.args.predicate c.args.effort x e.verdict) (sym (ap (λ x. x.maker) c.print_explained-made.ensures.scope)) h;
      added = subst (λ a. AddsVerdict e.verdict (string_bytes a) (string_bytes last.answer)) c.explained-asking.ensures.answer p;
    })
