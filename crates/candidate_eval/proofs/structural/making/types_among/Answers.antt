use Rattle.std.proofs.Common.{rules, ◌≡◌, ◌∷◌, [], ◌++◌}
use Rattle.candidate_eval.proofs.Builtins.Types.{another_type, no_type}
use Rattle.candidate_eval.proofs.structural.making.types_among.Goals as goal

pub loop-arg-preserved-in_default : goal.loop-arg-preserved-in_default
loop-arg-preserved-in_default c = no_type c.args.list.now c.loop-arg.types.items c.loop-arg.arg-index _ c.loop-arg.invariant c.loop-arg-test.true c.in_default.not-Ty

pub loop-arg-preserved : goal.loop-arg-preserved
loop-arg-preserved c =
    let items : c.push.new.self.items ≡ c.loop-arg.types.items ++ c.in-Ty.ty ∷ [] = search rules in
    another_type c.args.list.now c.loop-arg.types.items _ c.loop-arg.arg-index _ c.in-Ty.ty c.loop-arg.invariant c.loop-arg-test.true c.in-Ty.is items
