use Rattle.ir_trees.proofs.Kinding.References.{is-reference}
use Rattle.candidate_eval.proofs.Knowability.CallLaws.{limit-read, no-foreign-header-said, answer-said, proper-passes-compat-said, remote-said, changed-by-calls}
use Rattle.candidate_eval.proofs.Knowability.OrphanLaws.{proper_then_compat, remote_law, first_input_law}
use Rattle.candidate_eval.proofs.Knowability.Safety.{link_safety}
use Rattle.candidate_eval.proofs.coherence.orphan_check_trait_ref.Goals as goal

pub returns-clause-no_foreign_header : goal.returns-clause-no_foreign_header
returns-clause-no_foreign_header g c =
    no-foreign-header-said (rw (limit-read _ _ _ c.limits-levels.ensures.is c.cx-2.ensures) at c.check.ensures.answer)
    (is-reference (g.C.Build.context c.args.infcx.now) c.args.trait_ref (rw c.cx.ensures at c.recall_well_formed.ensures) c.requires.args c.requires.fit)

pub returns-clause-calls : goal.returns-clause-calls
returns-clause-calls g c = changed-by-calls (rw (limit-read _ _ _ c.limits-levels.ensures.is c.cx-2.ensures) at c.check.ensures.calls)

pub returns-clause-answer : goal.returns-clause-answer
returns-clause-answer g c = answer-said (rw (limit-read _ _ _ c.limits-levels.ensures.is c.cx-2.ensures) at c.check.ensures.answer)

pub returns-clause-proper_passes_compat : goal.returns-clause-proper_passes_compat
returns-clause-proper_passes_compat g c = proper-passes-compat-said (rw (limit-read _ _ _ c.limits-levels.ensures.is c.cx-2.ensures) at c.check.ensures.answer)

pub returns-clause-remote_ignores_the_local_crate : goal.returns-clause-remote_ignores_the_local_crate
returns-clause-remote_ignores_the_local_crate g c = remote-said (rw (limit-read _ _ _ c.limits-levels.ensures.is c.cx-2.ensures) at c.check.ensures.answer)

pub returns-clause-grows : goal.returns-clause-grows
returns-clause-grows g c = c.check.ensures.calls.grows

pub returns-clause-types : goal.returns-clause-types
returns-clause-types g c = c.check.ensures.types

pub returns-clause-remote_covers : goal.returns-clause-remote_covers
returns-clause-remote_covers g c = c.check.ensures.covers

pub returns-clause-first_input_once : goal.returns-clause-first_input_once
returns-clause-first_input_once g c = c.check.ensures.first_input_once

pub returns-clause-proper_then_compat : goal.returns-clause-proper_then_compat
returns-clause-proper_then_compat g c = proper_then_compat _ _

pub returns-clause-remote_law : goal.returns-clause-remote_law
returns-clause-remote_law g c = remote_law _ _

pub returns-clause-first_input_law : goal.returns-clause-first_input_law
returns-clause-first_input_law g c = first_input_law _ _

pub returns-clause-link_safety : goal.returns-clause-link_safety
returns-clause-link_safety g c = link_safety
