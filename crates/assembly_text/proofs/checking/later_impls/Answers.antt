use Rattle.std.proofs.Common.{◌≡◌, ◌∙◌, None, ap, false, filter, rules}
use Rattle.assembly_text.specs.Paired.{is_asked_with, trait_with_alias}
use Rattle.assembly_text.proofs.Pairing.{paired-with-all}
use Rattle.assembly_text.proofs.checking.later_impls.Goals as goal

pub returns : goal.returns
returns c =
    let cx = c.args.cx.now in
    let none : trait_with_alias cx c.args.of ≡ None → c.is_some-has_alias.result ≡ false = search rules in
    let back : c.is_some-has_alias.result ≡ false → trait_with_alias cx c.args.of ≡ None = search rules in
    paired-with-all cx c.args.of c.args.header c.requires.open c.args.with_aliases.now.number c.is_some-has_alias.result none back c.in_ok-impls.impls.items c.in_ok-later.later.items c.in_order.result.items
    c.in_ok-impls.ensures (c.in_ok-later.ensures ∙ ap (filter (is_asked_with cx c.args.of c.args.header c.is_some-has_alias.result)) c.as_slice.ensures.value) c.in_order.ensures.order c.in_order.ensures.same
