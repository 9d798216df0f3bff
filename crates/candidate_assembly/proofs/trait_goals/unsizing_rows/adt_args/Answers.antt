use Rattle.candidate_assembly.proofs.Unsizing.AdtParts.{adt-args}
use Rattle.candidate_assembly.proofs.trait_goals.unsizing_rows.adt_args.Goals as goal

pub returns-clause-fit : goal.returns-clause-fit
returns-clause-fit c = (adt-args c.args.cx.now c.args.ty c.args.adt _ c.in-Adt.args c.recall_well_formed.ensures c.requires.sort c.in-Adt.ensures.fits c.in-Adt.ensures.tree c.requires.head).fit

pub returns-clause-tree : goal.returns-clause-tree
returns-clause-tree c = (adt-args c.args.cx.now c.args.ty c.args.adt _ c.in-Adt.args c.recall_well_formed.ensures c.requires.sort c.in-Adt.ensures.fits c.in-Adt.ensures.tree c.requires.head).tree
