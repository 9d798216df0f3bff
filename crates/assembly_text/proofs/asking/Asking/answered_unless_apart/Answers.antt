use Rattle.std.proofs.Common.{◌≡◌, ◌++◌, Ok, false, true, ap, rules, subst, sym, ◌∙◌}
use Rattle.std.specs.Prelude.{string_bytes}
use Rattle.ir_trees.specs.Declarations.Context.{Context}
use Rattle.ir_trees.proofs.Growth.Kept.{args-kept}
use Rattle.assembly_notation.specs.declared.given.Given.{Given}
use Rattle.assembly_text.specs.Negating.{AddsUnlessNegated, adds_apart, adds_instance, adds_negation}
use Rattle.assembly_text.specs.Overlapping.{AddsInstance}
use Rattle.assembly_text.specs.Together.{IsApartAnswered, apart_text}
use Rattle.assembly_text.proofs.Compared.{ok-value}
use Rattle.assembly_text.proofs.Negating.{on-ok-weaker}
use Rattle.assembly_text.proofs.asking.Asking.answered_unless_apart.Goals as goal

pub returns-in-Ok-true : goal.returns-in-Ok-true
returns-in-Ok-true c =
    let first = c.args.self in
    let last = c.print_apart-made.new.self in
    let is : c.kept_apart-asking.result.1 ≡ Ok true = search rules in
    let h = ok-value _ c.kept_apart-asking.result.1 true is c.kept_apart-asking.ensures.is in
    on-ok-weaker c.print_apart-made.result
    (λ p. adds_apart (subst (λ (y : Context). IsApartAnswered first.scope.maker first.given c.args.first c.args.second y true) (sym (ap (λ s. s.maker) c.print_apart-made.ensures.scope)) h)
    (subst (λ t. string_bytes last.answer ≡ string_bytes t ++ apart_text) c.kept_apart-asking.ensures.answer p))
    c.print_apart-made.ensures.printed

pub answered_unless_negated-requires-clause-printable : goal.answered_unless_negated-requires-clause-printable
answered_unless_negated-requires-clause-printable c = (args-kept c.args.self.scope.maker c.kept_apart-asking.result.0.scope.maker c.args.instance.trait_ref.args c.kept_apart-asking.ensures.grows c.requires.printable).0

pub returns-then-asking : goal.returns-then-asking
returns-then-asking c =
    let first = c.args.self in
    let mid = c.kept_apart-asking.result.0 in
    let last = c.answered_unless_negated.result.0 in
    let is : c.kept_apart-asking.result.1 ≡ Ok false = search rules in
    let h = ok-value _ c.kept_apart-asking.result.1 false is c.kept_apart-asking.ensures.is in
    let asked : mid.given.negative ≡ true = search rules in
    let same = c.kept_apart-asking.ensures.given in
    on-ok-weaker c.answered_unless_negated.result.1
    (λ k. adds_negation mid.scope.maker h (ap (λ (g : Given). g.negative) (sym same) ∙ asked)
    (subst (λ (g : Given). AddsUnlessNegated mid.scope.maker g c.args.first c.args.second c.args.instance last.scope.maker (string_bytes first.answer) (string_bytes last.answer)) same
    (subst (λ t. AddsUnlessNegated mid.scope.maker mid.given c.args.first c.args.second c.args.instance last.scope.maker (string_bytes t) (string_bytes last.answer)) c.kept_apart-asking.ensures.answer k)))
    c.answered_unless_negated.ensures

pub print_instance-made-requires : goal.print_instance-made-requires
print_instance-made-requires c = (args-kept c.args.self.scope.maker c.kept_apart-asking.result.0.scope.maker c.args.instance.trait_ref.args c.kept_apart-asking.ensures.grows c.requires.printable).0

pub returns-else-asking : goal.returns-else-asking
returns-else-asking c =
    let first = c.args.self in
    let mid = c.kept_apart-asking.result.0 in
    let last = c.print_instance-made.new.self in
    let x = c.args.instance in
    let is : c.kept_apart-asking.result.1 ≡ Ok false = search rules in
    let h = ok-value _ c.kept_apart-asking.result.1 false is c.kept_apart-asking.ensures.is in
    let unasked : mid.given.negative ≡ false = search rules in
    on-ok-weaker c.print_instance-made.result
    (λ p. adds_instance (subst (λ (y : Context). IsApartAnswered first.scope.maker first.given c.args.first c.args.second y false) (sym (ap (λ s. s.maker) c.print_instance-made.ensures.scope)) h)
    (ap (λ (g : Given). g.negative) (sym c.kept_apart-asking.ensures.given) ∙ unasked)
    (subst (λ t. AddsInstance x (string_bytes t) (string_bytes last.answer)) c.kept_apart-asking.ensures.answer p))
    c.print_instance-made.ensures.printed
