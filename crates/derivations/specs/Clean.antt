-- Goals without errors of regions.
use Rattle.std.specs.Prelude.{◌≡◌, Bool, true, false}
use Rattle.ir_trees.specs.declared.ir.heads.Flag.TheVariants as F
use Rattle.ir_trees.specs.declared.ir.heads.Head.{Head}
use Rattle.ir_trees.specs.declared.ir.heads.Head.TheVariants as H
use Rattle.ir_trees.specs.declared.ir.kinds.RegionKind.TheVariants as R
use Rattle.ir_trees.specs.Syntax.Flags.{mark}
use Rattle.ir_trees.specs.Syntax.Trees.{Forest, none, tree, holds}
use Rattle.candidate_eval.specs.Judges.Soundness.{is_leaf}

abbrev pub is_error_region : Head → Bool
is_error_region (H.Region R.Error) = true
is_error_region _ = false

-- No error of regions stands in the trees. Since any two regions are equal, one that no one gave could be read for any region, and an error
-- fulfils each trait. Nor does an error of types or constants stand below a variable or a region, where no equality sees it.
abbrev pub IsClean : Forest → Type 0
IsClean none = Unit {0}
IsClean (tree h below rest) = (is_error_region h ≡ false) × (is_leaf h ≡ true → holds (mark F.Error) below ≡ false) × IsClean below × IsClean rest
