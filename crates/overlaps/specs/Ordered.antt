-- Two impls in the order of their numbers.
use Rattle.std.specs.Prelude.{nat_lt, if◌then◌else◌}
use Rattle.ir_trees.specs.declared.decl.contents.ImplId.{ImplId}

-- the two, the one of the lower number first: the same pair whichever is given first
abbrev pub in_order : ImplId → ImplId → ImplId × ImplId
in_order a b = if nat_lt b.0 a.0 then (b, a) else (a, b)
