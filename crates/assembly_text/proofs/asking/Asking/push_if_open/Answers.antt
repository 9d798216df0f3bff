use Rattle.std.proofs.Common.{◌∙◌, refl}
use Rattle.ir_trees.proofs.Growth.Kept.{grows-refl}
use Rattle.assembly_text.proofs.Finding.{alone-again, stays-forgot}
use Rattle.assembly_text.proofs.asking.Asking.push_if_open.Goals as goal

pub returns-then-are_of_prelude-clause-stays : goal.returns-then-are_of_prelude-clause-stays
returns-then-are_of_prelude-clause-stays c = record { grows = grows-refl c.args.self.scope.maker; names = refl; given = refl }

pub returns-clause-declared : goal.returns-clause-declared
returns-clause-declared c = alone-again _ _ c.forget_nodes.ensures.context

pub returns-clause-stays : goal.returns-clause-stays
returns-clause-stays c =
    let f = c.forget_nodes.ensures in
    stays-forgot c.args.self c.compare-asking.result.0 c.forget_nodes.new.self c.requires.declared c.compare-asking.ensures.stays f.context f.names f.given

pub returns-clause-answer : goal.returns-clause-answer
returns-clause-answer c = c.forget_nodes.ensures.answer ∙ c.compare-asking.ensures.answer
