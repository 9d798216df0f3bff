use Rattle.candidate_assembly.proofs.Objects.ObjectReferences.{item-has-trait, reference-of-item, reference-of-trait}
use Rattle.candidate_assembly.proofs.assembly.object_bounds.reference_in.Goals as goal
use Rattle.candidate_assembly.proofs.assembly.object_bounds.reference_in.Goals.{in-Trait, in-Projection+in-Some}

pub unreachable-requires : goal.unreachable-requires
unreachable-requires c =
    item-has-trait c.args.cx.now c.args.clause c.clause-said.result c.in-Projection.projection c.assoc_trait.result c.recall_well_formed.ensures c.clause-said.ensures.fits c.clause-said.ensures.tree c.in-Projection.is c.assoc_trait.ensures c.in-None.is

pub returns : goal.returns
returns c =
    let said = c.clause-said in
    elim c.match-said.branch [
      | in-Trait w ↦ reference-of-trait c.args.cx.now c.args.clause said.result w.in-Trait.predicate c.match-said.trait_ref said.ensures.fits said.ensures.tree w.in-Trait.is w.trait_ref-is
      | in-Projection+in-Some w ↦
          reference-of-item c.args.cx.now c.args.clause said.result w.in-Projection.projection w.in-Some.def_id w.assoc_trait.result c.match-said.trait_ref said.ensures.fits said.ensures.tree w.in-Projection.is w.assoc_trait.ensures w.in-Some.is w.trait_ref-is
    ]
