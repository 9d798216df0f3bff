use Rattle.std.proofs.Common.{ap, sym, ◌∙◌}
use Rattle.std.specs.Prelude.{option_map}
use Rattle.candidate_eval.specs.Outcomes.ResponseTrees.{candidates_of}
use Rattle.candidate_assembly.specs.Answers.Assembled.{is_coherence}
use Rattle.candidate_assembly.specs.Answers.Preference.{class_of}
use Rattle.candidate_assembly.proofs.Answers.Preferring.{by-assumed, by-least, in-coherence, least-of}
use Rattle.candidate_assembly.proofs.trait_goals.preference.keep_preferred.Goals as goal

pub returns-then-is_coherence-clause-class : goal.returns-then-is_coherence-clause-class
returns-then-is_coherence-clause-class g c =
    let context = g.E.Build.context c.args.ecx.now in
    in-coherence context (g.E.EvalCtxt.state c.args.ecx.now).mode c.args.mode (candidates_of context.trees c.args.candidates.now.items) (sym (c.is_coherence.ensures ∙ ap is_coherence c.typing_mode.ensures) ∙ c.if-is_coherence.true)

pub returns-in-Some-clause-fit : goal.returns-in-Some-clause-fit
returns-in-Some-clause-fit g c = c.keep_trivial_or_assumptions.ensures.fit (g.E.Build.context c.args.ecx.now).trees c.requires

pub returns-in-Some-clause-class : goal.returns-in-Some-clause-class
returns-in-Some-clause-class g c =
    let context = g.E.Build.context c.args.ecx.now in
    let new = candidates_of context.trees c.keep_trivial_or_assumptions.new.candidates.items in
    by-assumed context (g.E.EvalCtxt.state c.args.ecx.now).mode c.args.mode (candidates_of context.trees c.args.candidates.now.items) (class_of new c.in-Some.via)
    (sym (c.is_coherence.ensures ∙ ap is_coherence c.typing_mode.ensures) ∙ c.if-is_coherence.false)
    (c.keep_trivial_or_assumptions.ensures.class context.trees ∙ ap (option_map (class_of new)) c.in-Some.is)

pub keep_impls_or_global-requires : goal.keep_impls_or_global-requires
keep_impls_or_global-requires g c = c.keep_trivial_or_assumptions.ensures.fit (g.E.Build.context c.args.ecx.now).trees c.requires

pub returns-in-None-clause-class : goal.returns-in-None-clause-class
returns-in-None-clause-class g c =
    let context = g.E.Build.context c.args.ecx.now in
    let mode = (g.E.EvalCtxt.state c.args.ecx.now).mode in
    let new = candidates_of context.trees c.keep_trivial_or_assumptions.new.candidates.items in
    by-least context mode c.args.mode (candidates_of context.trees c.args.candidates.now.items)
    (class_of (candidates_of context.trees c.keep_impls_or_global.new.candidates.items) c.keep_impls_or_global.result)
    (sym (c.is_coherence.ensures ∙ ap is_coherence c.typing_mode.ensures) ∙ c.if-is_coherence.false)
    (c.keep_trivial_or_assumptions.ensures.class context.trees ∙ ap (option_map (class_of new)) c.in-None.is)
    (least-of context mode context.trees c.args.candidates.now.items c.keep_trivial_or_assumptions.new.candidates.items (c.keep_trivial_or_assumptions.ensures.none c.in-None.is) ∙ c.keep_impls_or_global.ensures.class)
