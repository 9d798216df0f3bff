use Rattle.std.proofs.Common.{subst}
use Rattle.std.specs.Prelude.{string_bytes}
use Rattle.ir_trees.proofs.Growth.Kept.{grows-trans}
use Rattle.assembly_text.specs.Normalizing.{AddsNormalWords}
use Rattle.assembly_text.proofs.Answered.{printed-as}
use Rattle.assembly_text.proofs.asking.Asking.answered_with_normal.Goals as goal

pub returns-clause-grows : goal.returns-clause-grows
returns-clause-grows c = grows-trans _ _ _ c.normalized-asking.ensures.grows c.print_normal-made.ensures.grows

pub returns-clause-adds : goal.returns-clause-adds
returns-clause-adds c =
    let mid = c.normalized-asking.result.0 in
    let last = c.print_normal-made.new.self in
    printed-as c.normalized-asking.result.1 c.print_normal-made.result (λ n. AddsNormalWords n (string_bytes mid.answer) (string_bytes last.answer)) c.normalized-asking.ensures.comes c.print_normal-made.ensures.printed c.print_normal-made.ensures.stopped
    (λ n h p. record {
      normal = n;
      left = mid.scope.maker;
      solved = h;
      goes_on = c.print_normal-made.ensures.grows;
      added = subst (λ a. AddsNormalWords n (string_bytes a) (string_bytes last.answer)) c.normalized-asking.ensures.answer p;
    })
