-- The table of views without the views themselves: the class by head and children.
use Rattle.std.specs.Prelude.{Bool, true, false, not, ◌&&◌}
use Rattle.ir_trees.specs.Syntax.Trees.{Forest, holds, is_loose}
use Rattle.ir_trees.specs.Declarations.Worlds.{World}
use Rattle.ir_trees.specs.declared.ir.heads.Head.{Head}
use Rattle.ir_trees.specs.declared.ir.heads.Head.TheVariants as H
use Rattle.ir_trees.specs.declared.ir.kinds.AliasKind.{AliasKind}
use Rattle.ir_trees.specs.declared.ir.kinds.AliasKind.TheVariants as AK
use Rattle.candidate_eval.specs.declared.coherence.table.ViewClass.{ViewClass}
use Rattle.candidate_eval.specs.declared.coherence.table.ViewClass.TheVariants as V
use Rattle.candidate_eval.specs.Knowability.Orphan.{InCrate, Local, Remote, Proper, Compat, CrateTest, is_local, is_fundamental, principal_passes}

abbrev pub loose_in : InCrate → ViewClass
loose_in (Local m) = V.Uncovered
loose_in Remote = V.Local

abbrev pub projection_in : InCrate → ViewClass
projection_in (Local Proper) = V.Uncovered
projection_in (Local Compat) = V.Skipped
projection_in Remote = V.Local

abbrev pub loose_alias_in : InCrate → AliasKind → ViewClass
loose_alias_in m AK.Projection = projection_in m
loose_alias_in m _ = loose_in m

abbrev pub alias_in : InCrate → AliasKind → Bool → ViewClass
alias_in m k true = loose_alias_in m k
alias_in m k false = V.NonLocal

abbrev pub owned_in : Bool → ViewClass
owned_in true = V.Local
owned_in false = V.NonLocal

abbrev pub table : World → CrateTest → InCrate → Head → Forest → ViewClass
table w test m (H.Placeholder u) below = loose_in m
table w test m (H.Bound d) below = loose_in m
table w test m (H.Infer v) below = loose_in m
table w test m (H.Alias k i) below = alias_in m k (holds is_loose below)
table w test m (H.Adt i) below = owned_in (is_local w test i.0)
table w test m (H.Foreign i) below = owned_in (is_local w test i.0)
table w test m H.Dynamic below = owned_in (principal_passes w test below)
table w test m H.Error below = V.Local
table w test m (H.FnDef i) below = V.Unnameable
table w test m (H.Closure i k) below = V.Unnameable
table w test m (H.Param n) below = V.Unnameable
table w test m _ below = V.NonLocal

-- whether a view is no item: the walk goes on below it
abbrev pub is_walked : World → CrateTest → Head → Bool
is_walked w test (H.Ref m) = true
is_walked w test (H.Adt i) = not (is_local w test i.0) && is_fundamental w i.0
is_walked w test _ = false
