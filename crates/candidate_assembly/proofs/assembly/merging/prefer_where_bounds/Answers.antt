use Rattle.candidate_assembly.specs.Answers.Assembled.{is_of_environment}
use Rattle.candidate_assembly.proofs.Answers.MergedKinds.{where-bounds-win}
use Rattle.candidate_assembly.proofs.Answers.Preferring.{fit-kept}
use Rattle.candidate_assembly.proofs.assembly.merging.prefer_where_bounds.Goals as goal

pub returns-then-has_where_bound-clause-list : goal.returns-then-has_where_bound-clause-list
returns-then-has_where_bound-clause-list c =
    where-bounds-win c.args.candidates.now.items c.as_slice.result.now c.keep.new.candidates.items _ c.as_slice.ensures.value c.has_where_bound.ensures c.if-has_where_bound.true c.keep.ensures

pub returns-then-has_where_bound-clause-fit : goal.returns-then-has_where_bound-clause-fit
returns-then-has_where_bound-clause-fit c = λ ts. fit-kept is_of_environment ts c.args.candidates.now.items c.keep.new.candidates.items c.keep.ensures
