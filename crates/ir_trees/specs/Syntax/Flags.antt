-- The mark of each flag.
use Rattle.std.specs.Prelude.{◌≡◌, refl, Bool, true, false}
use Rattle.ir_trees.specs.declared.ir.heads.Head.{Head}
use Rattle.ir_trees.specs.declared.ir.heads.Head.TheVariants as H
use Rattle.ir_trees.specs.declared.ir.heads.Flag.{Flag}
use Rattle.ir_trees.specs.declared.ir.heads.Flag.TheVariants as F
use Rattle.ir_trees.specs.declared.ir.heads.ConstHead.TheVariants as C
use Rattle.ir_trees.specs.declared.ir.heads.ListHead.{ListHead}
use Rattle.ir_trees.specs.declared.ir.heads.VariableSort.{VariableSort}
use Rattle.ir_trees.specs.declared.ir.heads.VariableSort.TheVariants as V
use Rattle.ir_trees.specs.declared.ir.kinds.RegionKind.TheVariants as R
use Rattle.ir_trees.specs.Syntax.Trees.{is_param, is_alias}

abbrev pub of_constant : VariableSort → Bool
of_constant V.Constant = true
of_constant _ = false

abbrev pub of_type : VariableSort → Bool
of_type V.Constant = false
of_type _ = true

abbrev pub mark : Flag → Head → Bool
mark F.TyInfer (H.Infer v) = of_type v.sort
mark F.ConstInfer (H.Infer v) = of_constant v.sort
mark F.RegionInfer (H.Region (R.Var _)) = true
mark F.TyPlaceholder (H.Placeholder _) = true
mark F.RegionPlaceholder (H.Region (R.Placeholder _)) = true
mark F.ConstPlaceholder (H.Const (C.Placeholder _)) = true
mark F.TyBound (H.Bound _) = true
mark F.RegionBound (H.Region (R.Bound _)) = true
mark F.ConstBound (H.Const (C.Bound _)) = true
mark F.Param h = is_param h
mark F.Alias h = is_alias h
mark F.Error H.Error = true
mark F.Error (H.Const C.Error) = true
mark F.Error (H.Region R.Error) = true
mark _ _ = false

-- no flag marks a list
pub mark_of_list : (f : Flag) (l : ListHead) → mark f (H.List l) ≡ false
mark_of_list F.TyInfer l = refl
mark_of_list F.RegionInfer l = refl
mark_of_list F.ConstInfer l = refl
mark_of_list F.TyPlaceholder l = refl
mark_of_list F.RegionPlaceholder l = refl
mark_of_list F.ConstPlaceholder l = refl
mark_of_list F.TyBound l = refl
mark_of_list F.RegionBound l = refl
mark_of_list F.ConstBound l = refl
mark_of_list F.Param l = refl
mark_of_list F.Alias l = refl
mark_of_list F.Error l = refl
