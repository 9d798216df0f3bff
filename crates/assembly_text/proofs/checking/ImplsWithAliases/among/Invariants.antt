use Rattle.std.proofs.Common.{◌≡◌, ℕ}
use Rattle.assembly_text.specs.Paired.{listed_of, with_aliases_below}
use Rattle.assembly_text.proofs.checking.ImplsWithAliases.among.Given as goal

-- of each trait it has those that were looked at
abbrev pub invariant-loop-place : goal.invariant-loop-place
invariant-loop-place l = ((t : ℕ) → listed_of l.found.of t ≡ with_aliases_below l.fn.cx t l.place) × (l.found.number ≡ l.fn.number)
