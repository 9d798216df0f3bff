use Rattle.std.proofs.Common.{◌≡◌, length}
use Rattle.std.specs.Vec.Iter.{into_iter_items, into_iter_len}
use Rattle.candidate_rounds.specs.Table.Entries.{all_written_into}
use Rattle.candidate_rounds.proofs.Table.Writing.{put_so_far}
use Rattle.candidate_rounds.proofs.rounds.writing.put_all_in.Given as goal

abbrev pub invariant-loop-written : goal.invariant-loop-written
invariant-loop-written l = (put_so_far l.entries.entries l.place (into_iter_items l.written-iterator) ≡ all_written_into l.initial.entries.entries (into_iter_items l.initial.written-iterator))
    × (into_iter_len l.written-iterator ≡ length (into_iter_items l.written-iterator))
