use Rattle.std.proofs.Common.{rules}
use Rattle.ir_trees.specs.Syntax.Words.{IsTy}
use Rattle.ir_trees.proofs.Growth.Made.{IsTy-listed}
use Rattle.assembly_text.proofs.telling.print_found.Goals as goal

pub print_found_type-requires : goal.print_found_type-requires
print_found_type-requires c =
    let listed : IsTy c.args.scope.now.maker.trees c.in-Ty.ty =
    IsTy-listed _ _ c.loop-arg.arg-index _ c.in-Ty.ty c.loop-arg-test.true c.in-Ty.is c.loop-arg.invariant in
    search (rules, listed)
