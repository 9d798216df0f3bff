use Rattle.std.proofs.Common.{◌≡◌, List, ap, arith, length, refl, slice_index_or, subst, sym, ◌∙◌}
use Rattle.std.specs.List.{Contains}
use Rattle.ir_trees.specs.declared.decl.contents.ImplId.{ImplId}
use Rattle.overlaps.specs.PartTraits.{IsForPart, impls_at}
use Rattle.overlaps.proofs.PartTraits.{impl-in, no-part-listed, none-for-part, one-for-whole}
use Rattle.overlaps.proofs.Uncertainty.{of-not}
use Rattle.overlaps.proofs.auto.is_implemented_by_part.Goals as goal

pub loop-number-init : goal.loop-number-init
loop-number-init c = let cx = c.args.cx.now in none-for-part cx (impls_at cx c.args.of) (record { 0 = 0 })

pub loop-number-preserved : goal.loop-number-preserved
loop-number-preserved c =
    let cx = c.args.cx.now in
    let n = c.loop-number.number in
    one-for-whole cx (impls_at cx c.args.of) (record { 0 = 0 }) n c.loop-number.invariant
    (subst (λ (xs : List ImplId). IsForPart cx (slice_index_or xs n (record { 0 = 0 })) → ⊥) c.impls_of-impls.ensures (c.if-is_for_part.ensures refl))

pub returns-then-is_for_part-clause-by : goal.returns-then-is_for_part-clause-by
returns-then-is_for_part-clause-by c = λ yes.
    let impls = c.impls_of-impls.result.now in
    let n = c.loop-number.number in
    record {
      flags = c.in-Some.flags;
      is = sym c.trait_flags.ensures ∙ c.in-Some.is;
      auto = of-not c.in-Some.flags.auto c.if-not-flags.false;
      by_type = c.if-flags.false;
      impl_of = slice_index_or impls n (record { 0 = 0 });
      listed = subst (λ (ns : List ImplId). Contains ns (slice_index_or impls n (record { 0 = 0 }))) c.impls_of-impls.ensures (impl-in impls n (record { 0 = 0 }) c.loop-number-test.true);
      such = tt;
    }

pub returns-clause-never : goal.returns-clause-never
returns-clause-never c = λ no.
    let cx = c.args.cx.now in
    let all : c.loop-number.number ≡ length c.impls_of-impls.result.now = omega (arith, c.loop-number-test.false, c.loop-number.auto.number-end) in
    no-part-listed cx c.args.of (impls_at cx c.args.of) (record { 0 = 0 }) c.loop-number.number refl (all ∙ ap (λ (xs : List ImplId). length xs) c.impls_of-impls.ensures) c.loop-number.invariant
