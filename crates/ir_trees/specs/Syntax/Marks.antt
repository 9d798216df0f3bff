-- Which flags' marks stand in a tree, as they are kept: a bit for each flag.
use Rattle.std.specs.Prelude.{◌≡◌, ℕ, Bool, nat_eq}
use Rattle.std.specs.Int.{bit_at}
use Rattle.ir_trees.specs.declared.ir.heads.Flag.{Flag}
use Rattle.ir_trees.specs.declared.ir.heads.Flag.TheVariants as F
use Rattle.ir_trees.specs.declared.ir.heads.Head.{Head}
use Rattle.ir_trees.specs.declared.ir.heads.Head.TheVariants as H
use Rattle.ir_trees.specs.declared.ir.heads.ConstHead.{ConstHead}
use Rattle.ir_trees.specs.declared.ir.heads.ConstHead.TheVariants as C
use Rattle.ir_trees.specs.declared.ir.heads.Marks.{Marks}
use Rattle.ir_trees.specs.declared.ir.heads.VariableSort.{VariableSort}
use Rattle.ir_trees.specs.declared.ir.heads.VariableSort.TheVariants as V
use Rattle.ir_trees.specs.declared.ir.kinds.RegionKind.{RegionKind}
use Rattle.ir_trees.specs.declared.ir.kinds.RegionKind.TheVariants as R
use Rattle.ir_trees.specs.Syntax.Flags.{mark}
use Rattle.ir_trees.specs.Syntax.Trees.{Tree, tree_holds}

-- the place of a flag's bit
abbrev pub bit_place : Flag → ℕ
bit_place F.TyInfer = 0
bit_place F.RegionInfer = 1
bit_place F.ConstInfer = 2
bit_place F.TyPlaceholder = 3
bit_place F.RegionPlaceholder = 4
bit_place F.ConstPlaceholder = 5
bit_place F.TyBound = 6
bit_place F.RegionBound = 7
bit_place F.ConstBound = 8
bit_place F.Param = 9
bit_place F.Alias = 10
bit_place F.Error = 11

abbrev pub marked : Marks → Flag → Bool
marked m f = nat_eq (bit_at m.bits (bit_place f)) 1

-- what is kept says which marks stand in the tree
abbrev pub AreMarks : Marks → Tree → Type 0
AreMarks m t = (f : Flag) → marked m f ≡ tree_holds (mark f) t

-- the bit of the one flag that marks a head, or 0
abbrev pub const_mark_bit : ConstHead → ℕ
const_mark_bit (C.Value _) = 0
const_mark_bit (C.Param _) = 512
const_mark_bit (C.Placeholder _) = 32
const_mark_bit (C.Bound _) = 256
const_mark_bit (C.Unevaluated _) = 1024
const_mark_bit C.Error = 2048

abbrev pub region_mark_bit : RegionKind → ℕ
region_mark_bit R.Static = 0
region_mark_bit R.Error = 2048
region_mark_bit (R.Bound _) = 128
region_mark_bit (R.Placeholder _) = 16
region_mark_bit (R.Var _) = 2

abbrev pub sort_mark_bit : VariableSort → ℕ
sort_mark_bit V.Constant = 4
sort_mark_bit _ = 1

abbrev pub mark_bit : Head → ℕ
mark_bit (H.Infer v) = sort_mark_bit v.sort
mark_bit (H.Placeholder _) = 8
mark_bit (H.Bound _) = 64
mark_bit (H.Param _) = 512
mark_bit (H.Alias _ _) = 1024
mark_bit H.Error = 2048
mark_bit (H.Const c) = const_mark_bit c
mark_bit (H.Region r) = region_mark_bit r
mark_bit _ = 0
