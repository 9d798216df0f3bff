use Rattle.std.proofs.Common.{ap, subst, sym}
use Rattle.std.specs.Prelude.{string_bytes}
use Rattle.ir_trees.specs.Declarations.Context.{Context}
use Rattle.ir_trees.proofs.Growth.Kept.{args-kept}
use Rattle.assembly_text.specs.Negating.{AddsNegation}
use Rattle.assembly_text.specs.Specializing.{IsNegationAnswered}
use Rattle.assembly_text.proofs.Answered.{printed-as}
use Rattle.assembly_text.proofs.asking.Asking.answered_unless_negated.Goals as goal

pub print_unless_negated-made-requires : goal.print_unless_negated-made-requires
print_unless_negated-made-requires c = (args-kept c.args.self.scope.maker c.negated-asking.result.0.scope.maker c.args.instance.trait_ref.args c.negated-asking.ensures.grows c.requires.printable).0

pub returns : goal.returns
returns c =
    let mid = c.negated-asking.result.0 in
    let last = c.print_unless_negated-made.new.self in
    let x = c.args.instance in
    printed-as c.negated-asking.result.1 c.print_unless_negated-made.result (λ o. AddsNegation c.args.first x o (string_bytes mid.answer) (string_bytes last.answer)) c.negated-asking.ensures.is c.print_unless_negated-made.ensures.printed
    c.print_unless_negated-made.ensures.stopped
    (λ o h p. record {
      clause = o;
      answered = subst (λ (y : Context). IsNegationAnswered c.args.self.scope.maker c.args.self.given c.args.first c.args.second y o) (sym (ap (λ s. s.maker) c.print_unless_negated-made.ensures.scope)) h;
      added = subst (λ a. AddsNegation c.args.first x o (string_bytes a) (string_bytes last.answer)) c.negated-asking.ensures.answer p;
    })
