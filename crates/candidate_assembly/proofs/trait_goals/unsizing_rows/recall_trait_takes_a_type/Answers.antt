use Rattle.std.proofs.Common.{refl}
use Rattle.ir_trees.specs.declared.decl.contents.LangItem.TheVariants as L
use Rattle.candidate_assembly.proofs.Rules.LangItems.{item-takes-a-type}
use Rattle.candidate_assembly.proofs.trait_goals.unsizing_rows.recall_trait_takes_a_type.Goals as goal

pub returns : goal.returns
returns c = item-takes-a-type c.args.cx.now c.recall_well_formed_table.ensures L.Unsize refl c.args.trait_id.0 c.requires
