use Rattle.std.proofs.lemmas.List.Elements.{All-get_or}
use Rattle.ir_trees.specs.Syntax.Words.{IsClause}
use Rattle.ir_trees.proofs.Growth.Kept.{grows-refl, grows-trans}
use Rattle.ir_folds.proofs.Instantiation.Joining.{clause-kept}
use Rattle.overlaps.specs.declared.reasons.OpenClause.{OpenClause}
use Rattle.assembly_text.proofs.reasons.print_all.Goals as goal

pub loop-number-init : goal.loop-number-init
loop-number-init c = grows-refl c.args.scope.now.maker

pub print_because-requires : goal.print_because-requires
print_because-requires c =
    let cx = c.args.scope.now.maker in
    (clause-kept cx c.loop-number.scope.maker _ c.loop-number.invariant
    (All-get_or (λ (x : OpenClause). IsClause cx.trees x.clause) c.args.clauses.now c.loop-number.number _ c.loop-number-test.true c.requires)).0

pub loop-number-preserved : goal.loop-number-preserved
loop-number-preserved c = grows-trans c.args.scope.now.maker c.loop-number.scope.maker c.print_because.new.scope.maker c.loop-number.invariant c.print_because.ensures
