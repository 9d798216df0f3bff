use Rattle.std.proofs.Common.{◌≡◌, [], length, sym, ap, ◌∙◌, arith}
use Rattle.std.specs.Vec.Iter.{into_iter_items}
use Rattle.candidate_rounds.specs.Table.Entries.{all_written_into}
use Rattle.candidate_rounds.proofs.Table.Writing.{all-put, nothing-left, one-put, put_so_far}
use Rattle.candidate_rounds.proofs.rounds.writing.put_all_in.Goals as goal

pub returns : goal.returns
returns c =
    let at = c.loop-written in
    let none = c.in-None.ensures.steps in
    let empty : into_iter_items at.written-iterator ≡ [] = nothing-left _ (sym at.invariant.1 ∙ none.0) in
    sym (all-put at.entries.entries at.place)
    ∙ (ap (put_so_far at.entries.entries at.place) (sym empty)
    ∙ (at.invariant.0 ∙ ap (all_written_into c.args.entries.now.entries) c.into_iter-written-iterator.ensures.into_iter_gives.0))

pub loop-written-preserved-then-place-len : goal.loop-written-preserved-then-place-len
loop-written-preserved-then-place-len c =
    let at = c.loop-written in
    let step = c.in-Some.ensures.steps in (
      one-put at.entries.entries at.place c.in-Some.written (into_iter_items c.next.new.self) _ c.write_verdict.new.slot c.index_mut.ensures.value c.write_verdict.ensures
          ∙ (ap (put_so_far at.entries.entries at.place) (sym step.0) ∙ at.invariant.0),
      let many = ap length step.0 in let was = at.invariant.1 in omega (arith, many, was, step.1),
    )
