use Rattle.std.proofs.Common.{ap, subst, sym}
use Rattle.std.specs.Prelude.{string_bytes}
use Rattle.ir_trees.specs.Declarations.Context.{Context}
use Rattle.assembly_text.specs.Printing.{AddsVerdict}
use Rattle.assembly_text.specs.Solving.{IsSolvedBefore}
use Rattle.assembly_text.proofs.Answered.{printed-as}
use Rattle.assembly_text.proofs.asking.Asking.answered_with_values.Goals as goal

pub returns-clause-adds : goal.returns-clause-adds
returns-clause-adds c =
    let first = c.args.self in
    let mid = c.solved_for_values-asking.result.0 in
    let last = c.print_solved-made.new.self in
    printed-as c.solved_for_values-asking.result.1 c.print_solved-made.result (λ s. AddsVerdict s.verdict (string_bytes mid.answer) (string_bytes last.answer)) c.solved_for_values-asking.ensures.comes c.print_solved-made.ensures.printed c.print_solved-made.ensures.stopped
    (λ s h p. record {
      verdict = s.verdict;
      solved = subst (λ (x : Context). IsSolvedBefore first.scope.maker first.given c.args.predicate c.args.effort x s.verdict) (sym (ap (λ x. x.maker) c.print_solved-made.ensures.scope)) h;
      added = subst (λ a. AddsVerdict s.verdict (string_bytes a) (string_bytes last.answer)) c.solved_for_values-asking.ensures.answer p;
    })
