use Rattle.std.proofs.Common.{◌∙◌, ap, sym}
use Rattle.std.specs.Prelude.{not}
use Rattle.ir_trees.specs.declared.ir.kinds.ExistentialPredicate.TheVariants.{AutoTrait}
use Rattle.ir_trees.specs.declared.ir.heads.Head.{Head}
use Rattle.candidate_assembly.specs.Calls.Upcasting.{lacks_auto, names_by}
use Rattle.candidate_assembly.proofs.Upcasting.UpcastMet.{head-read}
use Rattle.candidate_assembly.proofs.trait_goals.upcasting.lacks_auto_trait.Goals as goal

pub returns-in-AutoTrait : goal.returns-in-AutoTrait
returns-in-AutoTrait c =
    let ts = c.args.cx.now.trees in
    ap not c.is_auto_bound.ensures ∙ sym (ap (λ (h : Head). lacks_auto (names_by ts c.args.sources.now) h) (head-read ts c.args.target c.pred.result (AutoTrait c.in-AutoTrait.of) c.pred.ensures.tree c.in-AutoTrait.is))
