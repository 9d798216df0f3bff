use Rattle.std.proofs.Common.{string_bytes, refl, subst}
use Rattle.ir_trees.specs.declared.ir.kinds.GenericArg.TheVariants as A
use Rattle.ir_trees.specs.Syntax.Trees.{Forest}
use Rattle.assembly_notation.specs.Spelling.{AddsEach}
use Rattle.assembly_notation.proofs.Listed.{IsArg-listed}
use Rattle.assembly_notation.proofs.Printed.{prints-all, prints-more}
use Rattle.assembly_notation.proofs.types.Scope+Cx.print_types.Goals as goal

pub print_arg-requires : goal.print_arg-requires
print_arg-requires c = IsArg-listed _ c.args-arg-items.result.now c.loop-arg.arg-index (A.Ty (record { 0 = 0 })) _ c.loop-arg-test.true refl c.loop-arg.invariant.0

pub loop-arg-preserved : goal.loop-arg-preserved
loop-arg-preserved c =
    let ts = c.args.self.now.maker.trees in
    let xs = c.args-arg-items.result.now in
    let d = A.Ty (record { 0 = 0 }) in
    let i = c.loop-arg.arg-index in
    let is = IsArg-listed ts xs i d _ c.loop-arg-test.true refl c.loop-arg.invariant.0 in (
      c.loop-arg.invariant.0,
      λ new more. c.loop-arg.invariant.1 new (prints-more ts xs i d (string_bytes c.loop-arg.text) (string_bytes c.print_arg.new.text) new c.loop-arg-test.true is c.in_ok-print_arg.ensures more),
    )

pub returns : goal.returns
returns c =
    let ts = c.args.self.now.maker.trees in
    let text = string_bytes c.loop-arg.text in
    let all = c.loop-arg.invariant.1 text (prints-all ts c.args-arg-items.result.now c.loop-arg.arg-index text c.loop-arg-test.false) in
    subst (λ (f : Forest). AddsEach f (string_bytes c.args.text.now) text) c.args-arg-items.ensures.tree all
