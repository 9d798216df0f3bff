use Rattle.std.proofs.Common.{arith, ◌≤◌, ◌++◌, length, refl}
use Rattle.ir_trees.specs.declared.ir.kinds.Clause.{Clause}
use Rattle.candidate_assembly.specs.Calls.ObjectCalls.{numbered_from}
use Rattle.candidate_assembly.proofs.Objects.ObjectClauses.{all-numbered, one-numbered}
use Rattle.candidate_assembly.proofs.assembly.object_bounds.push_supertraits.Goals as goal

pub loop-number-init : goal.loop-number-init
loop-number-init c = refl

pub loop-number-preserved : goal.loop-number-preserved
loop-number-preserved c =
    let d : Clause = record { 0 = 0 } in
    one-numbered c.args.supers.now c.loop-number.number d c.loop-number.clauses.items c.push.new.self.items (c.args.clauses.now.items ++ numbered_from 0 c.args.supers.now) c.loop-number-test.true c.loop-number.invariant c.in_ok-push.ensures.items

pub returns : goal.returns
returns c =
    let past : length c.args.supers.now ≤ c.loop-number.number = omega (arith, c.loop-number-test.false) in
    all-numbered c.args.supers.now c.loop-number.number c.loop-number.clauses.items (c.args.clauses.now.items ++ numbered_from 0 c.args.supers.now) past c.loop-number.invariant
