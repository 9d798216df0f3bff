use Rattle.candidate_assembly.specs.Answers.Assembled.{is_of_environment, is_trivial}
use Rattle.candidate_assembly.specs.Answers.Sources.{is_alias_bound}
use Rattle.candidate_assembly.proofs.Answers.Preferring.{alias-row, environment-row, fit-kept, no-row, self-row, trivial-row}
use Rattle.candidate_assembly.proofs.trait_goals.preference.keep_trivial_or_assumptions.Goals as goal

pub returns-then-has_any-clause-class : goal.returns-then-has_any-clause-class
returns-then-has_any-clause-class c =
    trivial-row c.args.mode c.args.candidates.now.items c.as_slice-list.result.now c.as_slice-list.ensures.value _ c.has_any.ensures c.keep.new.candidates.items c.if-has_any.true c.keep.ensures

pub returns-then-has_any-clause-fit : goal.returns-then-has_any-clause-fit
returns-then-has_any-clause-fit c = λ ts. fit-kept is_trivial ts c.args.candidates.now.items c.keep.new.candidates.items c.keep.ensures

pub returns-then-prefers_self_bounds-clause-class : goal.returns-then-prefers_self_bounds-clause-class
returns-then-prefers_self_bounds-clause-class c =
    self-row c.args.mode c.args.candidates.now.items c.as_slice-list.result.now c.as_slice-list.ensures.value _ c.has_any.ensures
    c.if-has_any.false _ c.prefers_self_bounds.ensures c.keep-then-prefers_self_bounds.new.candidates.items c.if-prefers_self_bounds.true c.keep-then-prefers_self_bounds.ensures

pub returns-then-prefers_self_bounds-clause-fit : goal.returns-then-prefers_self_bounds-clause-fit
returns-then-prefers_self_bounds-clause-fit c = λ ts. fit-kept is_alias_bound ts c.args.candidates.now.items c.keep-then-prefers_self_bounds.new.candidates.items c.keep-then-prefers_self_bounds.ensures

pub returns-then-has_any-2-clause-class : goal.returns-then-has_any-2-clause-class
returns-then-has_any-2-clause-class c =
    environment-row c.args.mode c.args.candidates.now.items c.as_slice-list.result.now c.as_slice-list.ensures.value _ c.has_any.ensures
    c.if-has_any.false _ c.prefers_self_bounds.ensures c.if-prefers_self_bounds.false _ c.has_any-2.ensures c.keep-then-has_any-2.new.candidates.items c.if-has_any-2.true c.keep-then-has_any-2.ensures

pub returns-then-has_any-2-clause-fit : goal.returns-then-has_any-2-clause-fit
returns-then-has_any-2-clause-fit c = λ ts. fit-kept is_of_environment ts c.args.candidates.now.items c.keep-then-has_any-2.new.candidates.items c.keep-then-has_any-2.ensures

pub returns-then-has_any-3-clause-class : goal.returns-then-has_any-3-clause-class
returns-then-has_any-3-clause-class c =
    let kept = c.keep-then-has_any-3 in
    alias-row c.args.mode c.args.candidates.now.items c.as_slice-list.result.now c.as_slice-list.ensures.value _ c.has_any.ensures
    c.if-has_any.false _ c.prefers_self_bounds.ensures c.if-prefers_self_bounds.false _ c.has_any-2.ensures c.if-has_any-2.false _ c.has_any-3.ensures kept.new.candidates.items c.if-has_any-3.true kept.ensures

pub returns-then-has_any-3-clause-fit : goal.returns-then-has_any-3-clause-fit
returns-then-has_any-3-clause-fit c =
    let kept = c.keep-then-has_any-3 in
    λ ts. fit-kept is_alias_bound ts c.args.candidates.now.items kept.new.candidates.items kept.ensures

pub returns-clause-class : goal.returns-clause-class
returns-clause-class c =
    no-row c.args.mode c.args.candidates.now.items c.as_slice-list.result.now c.as_slice-list.ensures.value _ c.has_any.ensures
    c.if-has_any.false _ c.prefers_self_bounds.ensures c.if-prefers_self_bounds.false _ c.has_any-2.ensures c.if-has_any-2.false _ c.has_any-3.ensures c.if-has_any-3.false
