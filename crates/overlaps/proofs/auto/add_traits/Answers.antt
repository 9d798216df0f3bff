use Rattle.std.proofs.Common.{◌≡◌, Some, arith, length}
use Rattle.candidate_eval.proofs.Outcomes.Pairs.{clause_there}
use Rattle.ir_trees.specs.declared.ir.kinds.Clause.{Clause}
use Rattle.ir_trees.specs.declared.ir.kinds.TraitId.{TraitId}
use Rattle.ir_trees.specs.Syntax.Words.{clause_tree}
use Rattle.overlaps.specs.PartTraits.{trait_spoken_of}
use Rattle.overlaps.proofs.PartTraits.{before-all, before-more, before-none}
use Rattle.overlaps.proofs.auto.add_traits.Goals as goal

pub add_trait_of_clause-requires : goal.add_trait_of_clause-requires
add_trait_of_clause-requires c = clause_there _ c.args.clauses.now (record { 0 = 0 }) c.loop-number.number c.requires c.loop-number-test.true

pub loop-number-init : goal.loop-number-init
loop-number-init c =
    let cx = c.args.cx.now in
    before-none (λ (x : Clause) (t : TraitId). trait_spoken_of cx (clause_tree cx.trees x).head ≡ Some t) c.args.clauses.now (record { 0 = 0 }) c.args.traits.now.items

pub loop-number-preserved : goal.loop-number-preserved
loop-number-preserved c =
    let cx = c.args.cx.now in
    before-more (λ (x : Clause) (t : TraitId). trait_spoken_of cx (clause_tree cx.trees x).head ≡ Some t) c.args.clauses.now (record { 0 = 0 }) c.loop-number.number c.args.traits.now.items
    c.loop-number.traits.items c.add_trait_of_clause.new.traits.items c.loop-number.invariant c.in_ok-add_trait_of_clause.ensures.adds

pub returns-clause-adds : goal.returns-clause-adds
returns-clause-adds c =
    let cx = c.args.cx.now in
    let all : c.loop-number.number ≡ length c.args.clauses.now = omega (arith, c.loop-number-test.false, c.loop-number.auto.number-end) in
    before-all (λ (x : Clause) (t : TraitId). trait_spoken_of cx (clause_tree cx.trees x).head ≡ Some t) c.args.clauses.now (record { 0 = 0 }) c.loop-number.number c.args.traits.now.items
    c.loop-number.traits.items all c.loop-number.invariant
