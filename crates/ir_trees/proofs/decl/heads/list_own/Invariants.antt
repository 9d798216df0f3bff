use Rattle.std.proofs.Common.{◌≡◌, take}
use Rattle.std.specs.Prelude.{◌==◌}
use Rattle.ir_trees.specs.declared.decl.heads.ImplList.{ImplList}
use Rattle.ir_trees.specs.Unification.ImplLists.{impl_is_in, listed_at}
use Rattle.ir_trees.proofs.Unification.ImplLists.{own_listed}
use Rattle.ir_trees.proofs.decl.heads.list_own.Given as goal

-- those before are listed
abbrev pub invariant-loop-place : goal.invariant-loop-place
invariant-loop-place l =
    (k : ImplList) → listed_at l.lists k ≡ own_listed (l.of == k.of) (listed_at l.fn.lists k) (impl_is_in l.nodes l.impls k.class) (take l.place l.own)
