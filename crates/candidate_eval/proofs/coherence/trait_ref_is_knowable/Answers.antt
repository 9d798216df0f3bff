use Rattle.ir_trees.proofs.Kinding.References.{is-reference}
use Rattle.candidate_eval.proofs.Knowability.CallLaws.{no-unnamed-header-said, no-covered-header-said, downstream-header-said, changed-by-calls}
use Rattle.candidate_eval.proofs.coherence.trait_ref_is_knowable.Goals as goal

pub returns-clause-no_unnamed_header : goal.returns-clause-no_unnamed_header
returns-clause-no_unnamed_header g c =
    no-unnamed-header-said c.knowable.ensures.answer (is-reference (g.C.Build.context c.args.infcx.now) c.args.trait_ref (rw c.cx.ensures at c.recall_well_formed.ensures) c.requires.args c.requires.fit)

pub returns-clause-downstream_header : goal.returns-clause-downstream_header
returns-clause-downstream_header g c =
    downstream-header-said c.knowable.ensures.answer (is-reference (g.C.Build.context c.args.infcx.now) c.args.trait_ref (rw c.cx.ensures at c.recall_well_formed.ensures) c.requires.args c.requires.fit)

pub returns-clause-no_covered_header : goal.returns-clause-no_covered_header
returns-clause-no_covered_header g c =
    no-covered-header-said c.knowable.ensures.answer (is-reference (g.C.Build.context c.args.infcx.now) c.args.trait_ref (rw c.cx.ensures at c.recall_well_formed.ensures) c.requires.args c.requires.fit)

pub returns-clause-answer : goal.returns-clause-answer
returns-clause-answer g c = c.knowable.ensures.answer.at

pub returns-clause-calls : goal.returns-clause-calls
returns-clause-calls g c = changed-by-calls c.knowable.ensures.calls

pub returns-clause-grows : goal.returns-clause-grows
returns-clause-grows g c = c.knowable.ensures.calls.grows
