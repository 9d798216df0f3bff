use Rattle.std.proofs.Common.{◌≡◌, IfOk, Ok, length, rules, subst, sym}
use Rattle.std.specs.Prelude.{string_bytes}
use Rattle.assembly_text.specs.Checking.{AddsOfImpl, AddsOfLines, Stays}
use Rattle.assembly_text.specs.Paired.{IsPairedHere}
use Rattle.assembly_text.specs.Specializing.{specialized_by}
use Rattle.assembly_text.proofs.Finding.{adds-same, alone-again, stays-forgot, stays-then, with-others}
use Rattle.assembly_text.proofs.asking.Asking.with_impl.Goals as goal

pub with_lines-asking-requires-clause-declared : goal.with_lines-asking-requires-clause-declared
with_lines-asking-requires-clause-declared c = alone-again _ _ c.forget_nodes.ensures.context

pub returns-in-Err-clause-declared : goal.returns-in-Err-clause-declared
returns-in-Err-clause-declared c = alone-again _ _ c.forget_nodes.ensures.context

pub returns-in-Err-clause-stays : goal.returns-in-Err-clause-stays
returns-in-Err-clause-stays c =
    let f = c.forget_nodes.ensures in
    stays-forgot c.args.self c.look_at-made.new.self c.forget_nodes.new.self c.requires.declared c.look_at-made.ensures.stays f.context f.names f.given

pub returns-clause-stays : goal.returns-clause-stays
returns-clause-stays c =
    let f = c.forget_nodes.ensures in
    stays-then c.args.self c.forget_nodes.new.self c.with_lines-asking.result.0
    (stays-forgot c.args.self c.look_at-made.new.self c.forget_nodes.new.self c.requires.declared c.look_at-made.ensures.stays f.context f.names f.given) c.with_lines-asking.ensures.stays

pub returns-in-Ok-made-clause-stays : goal.returns-in-Ok-made-clause-stays
returns-in-Ok-made-clause-stays c =
    let f = c.forget_nodes.ensures in
    stays-then c.args.self c.forget_nodes.new.self c.with_pairs.result.0
    (stays-forgot c.args.self c.look_at-made.new.self c.forget_nodes.new.self c.requires.declared c.look_at-made.ensures.stays f.context f.names f.given)
    (stays-then c.forget_nodes.new.self c.with_lines-asking.result.0 c.with_pairs.result.0 c.with_lines-asking.ensures.stays c.with_pairs.ensures.stays)

pub returns-in-Ok-made-clause-found : goal.returns-in-Ok-made-clause-found
returns-in-Ok-made-clause-found c =
    let f = c.forget_nodes.ensures in
    let told = c.with_lines-asking.result.0 in
    let stays : Stays c.args.self c.forget_nodes.new.self = stays-forgot c.args.self c.look_at-made.new.self c.forget_nodes.new.self c.requires.declared c.look_at-made.ensures.stays f.context f.names f.given in
    let seen : AddsOfImpl c.args.of c.args.self c.look_at-made.new.self = search rules in
    let lines : AddsOfLines c.args.of (length (specialized_by c.forget_nodes.new.self.scope.maker c.args.of)) c.forget_nodes.new.self told = search rules in
    let first = c.args.self.scope.maker in
    let number = c.args.with_aliases.now.number in
    let later : c.look_at-made.result ≡ Ok c.in-Ok.later = search rules in
    let those : IsPairedHere first number c.args.of c.in-Ok.later.items = subst (λ r. IfOk r (λ v. IsPairedHere first number c.args.of v.items)) later c.look_at-made.ensures.paired in
    let paired : IsPairedHere first number c.args.of c.as_slice.result.now = subst (IsPairedHere first number c.args.of) (sym c.as_slice.ensures.value) those in
    with-others c.with_pairs.result.1 c.args.effort number c.args.of c.as_slice.result.now c.args.self c.forget_nodes.new.self told c.with_pairs.result.0 stays c.with_lines-asking.ensures.stays
    (adds-same _ (Ok tt) (string_bytes c.args.self.answer) c.look_at-made.new.self c.forget_nodes.new.self f.answer seen) lines paired c.with_pairs.ensures.found
