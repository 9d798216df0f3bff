use Rattle.std.proofs.Common.{ap, subst, sym}
use Rattle.std.specs.Prelude.{string_bytes}
use Rattle.ir_trees.specs.Declarations.Context.{Context}
use Rattle.assembly_text.specs.Printing.{AddsWordsBefore}
use Rattle.assembly_text.specs.Solving.{IsSolvedBefore}
use Rattle.assembly_text.proofs.Answered.{printed-as}
use Rattle.assembly_text.proofs.asking.Asking.answered_with_candidates.Goals as goal

pub returns-clause-adds : goal.returns-clause-adds
returns-clause-adds c =
    let first = c.args.self in
    let mid = c.considered-asking.result.0 in
    let last = c.print_considered-made.new.self in
    printed-as c.considered-asking.result.1 c.print_considered-made.result (λ r. AddsWordsBefore r.verdict (string_bytes mid.answer) (string_bytes last.answer)) c.considered-asking.ensures.comes c.print_considered-made.ensures.printed c.print_considered-made.ensures.stopped
    (λ r h p. record {
      verdict = r.verdict;
      solved = subst (λ (x : Context). IsSolvedBefore first.scope.maker first.given c.args.predicate c.args.effort x r.verdict) (sym (ap (λ x. x.maker) c.print_considered-made.ensures.scope)) h;
      added = subst (λ a. AddsWordsBefore r.verdict (string_bytes a) (string_bytes last.answer)) c.considered-asking.ensures.answer p;
    })
