-- Where walks end: how many visits of an orphan check, aliases of a chain and constants may be nested, and how many types a
-- characterisation goes down.
use Rattle.std.specs.Prelude.{Bool, ◌||◌, ◌==◌}
use Rattle.ir_trees.specs.declared.decl.limits.Limits.{Limits}

-- those of declarations that set none
abbrev pub first_limits : Limits
first_limits = record { orphan_walk = 256; alias_chain = 64; const_depth = 128; recursion = 128 }

-- One of them is 0.
abbrev pub has_bad_limit : Limits → Bool
has_bad_limit l = l.orphan_walk == 0 || (l.alias_chain == 0 || (l.const_depth == 0 || l.recursion == 0))
