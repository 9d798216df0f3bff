use Rattle.std.proofs.Common.{rules, arith, ◌<◌, ◌≤◌, length, ap, sym, ◌∙◌, subst}
use Rattle.ir_trees.specs.Declarations.Context.{Context}
use Rattle.candidate_eval.specs.Outcomes.ResponseTrees.{AreCandidates, candidates_of}
use Rattle.candidate_assembly.specs.Answers.Assembled.{is_coherence}
use Rattle.candidate_assembly.proofs.Answers.Specializing.{all-scanned, goes-on-with, goes-on-without, none-scanned, specialization_is_pairwise}
use Rattle.candidate_assembly.proofs.assembly.specialization.filter_specialized_impls.Goals as goal

pub loop-number-init : goal.loop-number-init
loop-number-init g c = none-scanned _ c.args.allow _ c.args.candidates.now.items c.requires

pub is_driven_out-requires-clause-fit : goal.is_driven_out-requires-clause-fit
is_driven_out-requires-clause-fit g c =
    subst (λ (e : Context). AreCandidates e.trees c.as_slice.result.now) (sym c.cx-cx.ensures)
    (subst (AreCandidates (g.E.Build.context c.args.ecx.now).trees) (sym c.as_slice.ensures.value) c.loop-number.invariant.fit)

pub loop-number-preserved-then-is_driven_out : goal.loop-number-preserved-then-is_driven_out
loop-number-preserved-then-is_driven_out g c =
    let inside : c.loop-number.number < length c.loop-number.candidates.items = search rules in
    goes-on-without (g.E.Build.context c.args.ecx.now) c.cx-cx.result.now c.args.allow c.args.candidates.now.items c.loop-number.candidates.items c.as_slice.result.now c.remove.new.self.items c.loop-number.number _
    c.cx-cx.ensures c.as_slice.ensures.value c.loop-number.invariant inside c.is_driven_out.ensures c.if-is_driven_out.true c.remove.ensures.items

pub loop-number-smaller : goal.loop-number-smaller
loop-number-smaller g c =
    let inside : c.loop-number.number < length c.loop-number.candidates.items = search rules in
    omega (arith, inside)

pub loop-number-preserved : goal.loop-number-preserved
loop-number-preserved g c =
    let inside : c.loop-number.number < length c.loop-number.candidates.items = search rules in
    goes-on-with (g.E.Build.context c.args.ecx.now) c.cx-cx.result.now c.args.allow c.args.candidates.now.items c.loop-number.candidates.items c.as_slice.result.now c.loop-number.number _
    c.cx-cx.ensures c.as_slice.ensures.value c.loop-number.invariant inside c.is_driven_out.ensures c.if-is_driven_out.false

pub returns-clause-fit : goal.returns-clause-fit
returns-clause-fit g c = c.loop-number.invariant.fit

pub returns-clause-list : goal.returns-clause-list
returns-clause-list g c =
    let past : length c.loop-number.candidates.items ≤ c.loop-number.number = search rules in
    all-scanned _ _ _ _ c.args.candidates.now.items c.loop-number.candidates.items c.loop-number.number c.loop-number.invariant past
    (sym (c.is_coherence.ensures ∙ ap is_coherence c.typing_mode.ensures) ∙ c.if-is_coherence.false)

pub returns-clause-pairwise : goal.returns-clause-pairwise
returns-clause-pairwise g c =
    let past : length c.loop-number.candidates.items ≤ c.loop-number.number = search rules in
    let start = g.E.Build.context c.args.ecx.now in
    λ strict. all-scanned _ _ c.args.allow _ c.args.candidates.now.items c.loop-number.candidates.items c.loop-number.number c.loop-number.invariant past
    (sym (c.is_coherence.ensures ∙ ap is_coherence c.typing_mode.ensures) ∙ c.if-is_coherence.false)
    ∙ specialization_is_pairwise start c.args.allow strict (g.E.EvalCtxt.state c.args.ecx.now).mode (candidates_of start.trees c.args.candidates.now.items)
