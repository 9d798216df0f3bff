use Rattle.std.proofs.Common.{ap, not, ◌∙◌}
use Rattle.candidate_assembly.specs.Answers.Preference.{prefer_objects}
use Rattle.candidate_assembly.specs.Answers.Sources.{is_global}
use Rattle.candidate_assembly.proofs.Answers.Preferring.{fit-kept, global-row, other-row, read-all}
use Rattle.candidate_assembly.proofs.trait_goals.preference.keep_impls_or_global.Goals as goal

pub returns-then-has_only-clause-class : goal.returns-then-has_only-clause-class
returns-then-has_only-clause-class g c =
    let context = g.E.Build.context c.args.ecx.now in
    let kept = c.unsound_prefer_builtin_dyn_impl in
    let now = kept.new.candidates.items in
    global-row context.trees _ now (kept.ensures.list ∙ ap (prefer_objects (g.E.EvalCtxt.state c.args.ecx.now).mode) c.filter_specialized_impls.ensures.list)
    (read-all is_global context.trees now c.as_slice.result.now _ _ c.as_slice.ensures.value c.has_only.ensures c.if-has_only.true)

pub returns-clause-fit : goal.returns-clause-fit
returns-clause-fit g c = fit-kept (λ s. not (is_global s)) _ c.unsound_prefer_builtin_dyn_impl.new.candidates.items c.remove.new.candidates.items c.remove.ensures c.unsound_prefer_builtin_dyn_impl.ensures.fit

pub returns-clause-class : goal.returns-clause-class
returns-clause-class g c =
    let context = g.E.Build.context c.args.ecx.now in
    let kept = c.unsound_prefer_builtin_dyn_impl in
    let now = kept.new.candidates.items in
    other-row context.trees _ now c.remove.new.candidates.items (kept.ensures.list ∙ ap (prefer_objects (g.E.EvalCtxt.state c.args.ecx.now).mode) c.filter_specialized_impls.ensures.list)
    (read-all is_global context.trees now c.as_slice.result.now _ _ c.as_slice.ensures.value c.has_only.ensures c.if-has_only.false) c.remove.ensures
