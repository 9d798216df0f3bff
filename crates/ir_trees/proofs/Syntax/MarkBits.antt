-- The bits of kept marks.
use Rattle.std.proofs.Common.{◌≡◌, ℕ, zero, suc, ◌<◌, Bool, false, max, refl, ◌∙◌, ap, arith}
use Rattle.std.specs.Prelude.{◌||◌, nat_eq}
use Rattle.std.specs.Int.{bit_at}
use Rattle.std.specs.Int.RustNames.{bit_or}
use Rattle.std.proofs.lemmas.Nat.Bits.{bit_at-lt, bit_at_or}
use Rattle.ir_trees.specs.declared.ir.heads.Flag.{Flag}
use Rattle.ir_trees.specs.declared.ir.heads.Flag.TheVariants as F
use Rattle.ir_trees.specs.declared.ir.heads.Head.{Head}
use Rattle.ir_trees.specs.declared.ir.heads.Head.TheVariants as H
use Rattle.ir_trees.specs.declared.ir.heads.ConstHead.{ConstHead}
use Rattle.ir_trees.specs.declared.ir.heads.ConstHead.TheVariants as C
use Rattle.ir_trees.specs.declared.ir.heads.Variable.{Variable}
use Rattle.ir_trees.specs.declared.ir.heads.VariableSort.{VariableSort}
use Rattle.ir_trees.specs.declared.ir.heads.VariableSort.TheVariants as V
use Rattle.ir_trees.specs.declared.ir.kinds.RegionKind.{RegionKind}
use Rattle.ir_trees.specs.declared.ir.kinds.RegionKind.TheVariants as R
use Rattle.ir_trees.specs.Syntax.Flags.{mark, of_constant, of_type}
use Rattle.ir_trees.specs.Syntax.Marks.{bit_place, const_mark_bit, mark_bit, region_mark_bit, sort_mark_bit}

either-one : (x y : ℕ) → x < 2 → y < 2 → nat_eq (max x y) 1 ≡ nat_eq x 1 || nat_eq y 1
either-one zero zero h k = refl
either-one zero (suc zero) h k = refl
either-one (suc zero) zero h k = refl
either-one (suc zero) (suc zero) h k = refl
either-one (suc (suc x)) y h k = absurd (omega arith)
either-one x (suc (suc y)) h k = absurd (omega arith)

-- a bit is set in both together where it is in one
pub bit-or : (a b i : ℕ) → nat_eq (bit_at (bit_or a b) i) 1 ≡ nat_eq (bit_at a i) 1 || nat_eq (bit_at b i) 1
bit-or a b i = ap (λ (x : ℕ). nat_eq x 1) (bit_at_or a b i) ∙ either-one (bit_at a i) (bit_at b i) (bit_at-lt a i) (bit_at-lt b i)

const-bit : (c : ConstHead) (f : Flag) → nat_eq (bit_at (const_mark_bit c) (bit_place f)) 1 ≡ mark f (H.Const c)
const-bit C.Error F.TyInfer = refl
const-bit _ F.TyInfer = refl
const-bit C.Error F.RegionInfer = refl
const-bit _ F.RegionInfer = refl
const-bit C.Error F.ConstInfer = refl
const-bit _ F.ConstInfer = refl
const-bit C.Error F.TyPlaceholder = refl
const-bit _ F.TyPlaceholder = refl
const-bit C.Error F.RegionPlaceholder = refl
const-bit _ F.RegionPlaceholder = refl
const-bit C.Error F.ConstPlaceholder = refl
const-bit _ F.ConstPlaceholder = refl
const-bit C.Error F.TyBound = refl
const-bit _ F.TyBound = refl
const-bit C.Error F.RegionBound = refl
const-bit _ F.RegionBound = refl
const-bit C.Error F.ConstBound = refl
const-bit _ F.ConstBound = refl
const-bit C.Error F.Param = refl
const-bit _ F.Param = refl
const-bit C.Error F.Alias = refl
const-bit _ F.Alias = refl
const-bit C.Error F.Error = refl
const-bit _ F.Error = refl

region-bit : (r : RegionKind) (f : Flag) → nat_eq (bit_at (region_mark_bit r) (bit_place f)) 1 ≡ mark f (H.Region r)
region-bit R.Error F.TyInfer = refl
region-bit _ F.TyInfer = refl
region-bit R.Error F.RegionInfer = refl
region-bit _ F.RegionInfer = refl
region-bit R.Error F.ConstInfer = refl
region-bit _ F.ConstInfer = refl
region-bit R.Error F.TyPlaceholder = refl
region-bit _ F.TyPlaceholder = refl
region-bit R.Error F.RegionPlaceholder = refl
region-bit _ F.RegionPlaceholder = refl
region-bit R.Error F.ConstPlaceholder = refl
region-bit _ F.ConstPlaceholder = refl
region-bit R.Error F.TyBound = refl
region-bit _ F.TyBound = refl
region-bit R.Error F.RegionBound = refl
region-bit _ F.RegionBound = refl
region-bit R.Error F.ConstBound = refl
region-bit _ F.ConstBound = refl
region-bit R.Error F.Param = refl
region-bit _ F.Param = refl
region-bit R.Error F.Alias = refl
region-bit _ F.Alias = refl
region-bit R.Error F.Error = refl
region-bit _ F.Error = refl

-- what the mark of a flag says of a variable's sort
abbrev of_sort : Flag → VariableSort → Bool
of_sort F.TyInfer s = of_type s
of_sort F.ConstInfer s = of_constant s
of_sort _ s = false

sort-bit : (s : VariableSort) (f : Flag) → nat_eq (bit_at (sort_mark_bit s) (bit_place f)) 1 ≡ of_sort f s
sort-bit V.Constant F.TyInfer = refl
sort-bit _ F.TyInfer = refl
sort-bit V.Constant F.RegionInfer = refl
sort-bit _ F.RegionInfer = refl
sort-bit V.Constant F.ConstInfer = refl
sort-bit _ F.ConstInfer = refl
sort-bit V.Constant F.TyPlaceholder = refl
sort-bit _ F.TyPlaceholder = refl
sort-bit V.Constant F.RegionPlaceholder = refl
sort-bit _ F.RegionPlaceholder = refl
sort-bit V.Constant F.ConstPlaceholder = refl
sort-bit _ F.ConstPlaceholder = refl
sort-bit V.Constant F.TyBound = refl
sort-bit _ F.TyBound = refl
sort-bit V.Constant F.RegionBound = refl
sort-bit _ F.RegionBound = refl
sort-bit V.Constant F.ConstBound = refl
sort-bit _ F.ConstBound = refl
sort-bit V.Constant F.Param = refl
sort-bit _ F.Param = refl
sort-bit V.Constant F.Alias = refl
sort-bit _ F.Alias = refl
sort-bit V.Constant F.Error = refl
sort-bit _ F.Error = refl

sort-mark : (f : Flag) (v : Variable) → of_sort f v.sort ≡ mark f (H.Infer v)
sort-mark F.TyInfer v = refl
sort-mark F.RegionInfer v = refl
sort-mark F.ConstInfer v = refl
sort-mark F.TyPlaceholder v = refl
sort-mark F.RegionPlaceholder v = refl
sort-mark F.ConstPlaceholder v = refl
sort-mark F.TyBound v = refl
sort-mark F.RegionBound v = refl
sort-mark F.ConstBound v = refl
sort-mark F.Param v = refl
sort-mark F.Alias v = refl
sort-mark F.Error v = refl

-- the bit of a head is that of the flag that marks it
pub head-bit : (h : Head) (f : Flag) → nat_eq (bit_at (mark_bit h) (bit_place f)) 1 ≡ mark f h
head-bit (H.Infer v) f = sort-bit v.sort f ∙ sort-mark f v
head-bit (H.Const c) f = const-bit c f
head-bit (H.Region r) f = region-bit r f
head-bit _ F.TyInfer = refl
head-bit _ F.RegionInfer = refl
head-bit _ F.ConstInfer = refl
head-bit _ F.TyPlaceholder = refl
head-bit _ F.RegionPlaceholder = refl
head-bit _ F.ConstPlaceholder = refl
head-bit _ F.TyBound = refl
head-bit _ F.RegionBound = refl
head-bit _ F.ConstBound = refl
head-bit _ F.Param = refl
head-bit _ F.Alias = refl
head-bit _ F.Error = refl
