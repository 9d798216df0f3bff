use Rattle.std.proofs.Common.{◌≡◌, ◌++◌, take}
use Rattle.ir_trees.specs.Validity.Held.{definitions_held, impls_held}
use Rattle.ir_trees.specs.Declarations.Declaring.{contents_of}
use Rattle.ir_trees.proofs.decl.held.all_held.Given as goal

-- what the definitions before hold is added
abbrev pub invariant-loop-number : goal.invariant-loop-number
invariant-loop-number l = l.held.items ≡ definitions_held (contents_of l.contents) 0 (take l.number l.definitions)

-- and what the impls before hold
abbrev pub invariant-loop-number-2 : goal.invariant-loop-number-2
invariant-loop-number-2 l = l.held.items ≡ definitions_held (contents_of l.contents) 0 l.definitions ++ impls_held 0 (take l.number l.contents.impls.items)
