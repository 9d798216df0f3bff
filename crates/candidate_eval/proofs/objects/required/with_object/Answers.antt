use Rattle.std.proofs.Common.{rules, ◌≡◌, ◌∷◌}
use Rattle.ir_trees.specs.declared.ir.kinds.GenericArg.TheVariants as G
use Rattle.candidate_eval.proofs.Dynamic.Required.{object_first}
use Rattle.candidate_eval.proofs.objects.required.with_object.Goals as goal

pub returns-clause-forest : goal.returns-clause-forest
returns-clause-forest c =
    let items : c.extend_from_slice.new.self.items ≡ G.Ty c.args.object ∷ c.args-2.result.now = search rules in
    object_first c.args.cx.now.trees c.args.object c.args-2.result.now c.extend_from_slice.new.self.items c.args.args c.requires.object c.args-2.ensures.tree items
