-- The flags of a tree as a set: the sum of the bits of the flags whose mark stands in it.
use Rattle.std.specs.Prelude.{ℕ, ◌+◌, if◌then◌else◌}
use Rattle.ir_trees.specs.declared.ir.flags.TypeFlags.{TypeFlags}
use Rattle.ir_trees.specs.declared.ir.heads.Flag.{Flag}
use Rattle.ir_trees.specs.declared.ir.heads.Flag.TheVariants as F
use Rattle.ir_trees.specs.Syntax.Flags.{mark}
use Rattle.ir_trees.specs.Syntax.Trees.{Tree, tree_holds}

abbrev pub bit_of : Flag → ℕ
bit_of F.TyInfer = 1
bit_of F.RegionInfer = 2
bit_of F.ConstInfer = 4
bit_of F.TyPlaceholder = 8
bit_of F.RegionPlaceholder = 16
bit_of F.ConstPlaceholder = 32
bit_of F.TyBound = 64
bit_of F.RegionBound = 128
bit_of F.ConstBound = 256
bit_of F.Param = 512
bit_of F.Alias = 1024
bit_of F.Error = 2048

abbrev pub bit_in : Tree → Flag → ℕ
bit_in t f = if tree_holds (mark f) t then bit_of f else 0

abbrev pub type_flags : Tree → TypeFlags
type_flags t = record {
  0 = bit_in t F.TyInfer + bit_in t F.RegionInfer + bit_in t F.ConstInfer
      + bit_in t F.TyPlaceholder + bit_in t F.RegionPlaceholder + bit_in t F.ConstPlaceholder
      + bit_in t F.TyBound + bit_in t F.RegionBound + bit_in t F.ConstBound
      + bit_in t F.Param + bit_in t F.Alias + bit_in t F.Error;
}
