use Rattle.std.proofs.Common.{◌≡◌, All, take}
use Rattle.candidate_rounds.specs.Evaluators.Known.{listing_of}
use Rattle.rounds_judge.specs.Aliases.WellListed.{well_listed}
use Rattle.assembly_text.specs.Solving.{IsListedForm}
use Rattle.assembly_text.proofs.solving.which_may_be_listed.Given as goal

-- the pairs so far may be listed, and are those of the first so many that may be listed
abbrev pub invariant-loop-i : goal.invariant-loop-i
invariant-loop-i l =
    let ts = l.cx.trees in
    All (IsListedForm ts) l.list.items × (listing_of ts l.list.items ≡ well_listed (listing_of ts (take l.i l.given.normal_forms.items)))
