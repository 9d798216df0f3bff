use Rattle.std.proofs.Common.{sym, ◌∙◌}
use Rattle.std.proofs.lemmas.Result.{IfOk-weaker}
use Rattle.ir_trees.specs.Syntax.Words.{clause_tree}
use Rattle.overlaps.specs.PartTraits.{trait_spoken_of}
use Rattle.overlaps.proofs.PartTraits.{adds-said, adds-unsaid}
use Rattle.overlaps.proofs.auto.add_trait_of_clause.Goals as goal

pub returns-in-Some-clause-adds : goal.returns-in-Some-clause-adds
returns-in-Some-clause-adds c =
    let cx = c.args.cx.now in
    let o = trait_spoken_of cx (clause_tree cx.trees c.args.clause).head in
    IfOk-weaker c.add_trait.result _ _ (λ x h. adds-said o c.in-Some.of c.args.traits.now.items c.add_trait.new.traits.items (sym c.trait_spoken_of.ensures ∙ c.in-Some.is) h) c.add_trait.ensures.adds

pub returns-in-None-clause-adds : goal.returns-in-None-clause-adds
returns-in-None-clause-adds c =
    let cx = c.args.cx.now in
    adds-unsaid (trait_spoken_of cx (clause_tree cx.trees c.args.clause).head) c.args.traits.now.items (sym c.trait_spoken_of.ensures ∙ c.in-None.is)
