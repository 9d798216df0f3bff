use Rattle.std.proofs.Common.{◌≡◌, ◌++◌, ap, subst, sym, ◌∙◌}
use Rattle.std.specs.Prelude.{string_bytes}
use Rattle.ir_trees.specs.Declarations.Context.{Context}
use Rattle.assembly_text.specs.Printing.{verdict_text}
use Rattle.assembly_text.specs.Solving.{IsSolved}
use Rattle.assembly_text.proofs.Answered.{printed-as}
use Rattle.assembly_text.proofs.asking.Asking.answered.Goals as goal

pub returns-clause-adds : goal.returns-clause-adds
returns-clause-adds c =
    let first = c.args.self in
    let mid = c.solved-asking.result.0 in
    let last = c.print_verdict-made.new.self in
    printed-as c.solved-asking.result.1 c.print_verdict-made.result (λ v. string_bytes last.answer ≡ string_bytes mid.answer ++ verdict_text v) c.solved-asking.ensures.comes c.print_verdict-made.ensures.printed c.print_verdict-made.ensures.stopped
    (λ v h p. record {
      verdict = v;
      solved = subst (λ (x : Context). IsSolved first.scope.maker first.given c.args.predicate c.args.effort x v) (sym (ap (λ s. s.maker) c.print_verdict-made.ensures.scope)) h;
      added = p ∙ ap (λ a. string_bytes a ++ verdict_text v) c.solved-asking.ensures.answer;
    })
