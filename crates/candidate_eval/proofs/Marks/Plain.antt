-- What the flags say of aliases and errors.
use Rattle.std.proofs.Common.{◌≡◌, Bool, true, false, IsTrue, refl, sym, rules}
use Rattle.std.specs.Prelude.{not}
use Rattle.ir_trees.specs.declared.ir.heads.Head.{Head}
use Rattle.ir_trees.specs.declared.ir.heads.Head.TheVariants as H
use Rattle.ir_trees.specs.declared.ir.heads.ConstHead.TheVariants as C
use Rattle.ir_trees.specs.declared.ir.heads.Flag.TheVariants as F
use Rattle.ir_trees.specs.Syntax.Flags.{mark}
use Rattle.ir_trees.specs.Syntax.Trees.{Forest, holds, is_alias, is_error}
use Rattle.candidate_eval.specs.Knowability.Orphan.{IsPlainForest}
use Rattle.candidate_eval.proofs.Marks.Holds.{holds_imply}

-- the flag marks error regions besides
error-marked : (h : Head) → mark F.Error h ≡ false → is_error h ≡ false
error-marked H.Error e = e
error-marked (H.Const C.Error) e = e
error-marked (H.Const (C.Value _)) e = refl
error-marked (H.Const (C.Param _)) e = refl
error-marked (H.Const (C.Placeholder _)) e = refl
error-marked (H.Const (C.Bound _)) e = refl
error-marked (H.Const (C.Unevaluated _)) e = refl
error-marked (H.Builtin _) e = refl
error-marked (H.Ref _) e = refl
error-marked (H.Adt _) e = refl
error-marked (H.Foreign _) e = refl
error-marked H.Dynamic e = refl
error-marked (H.FnDef _) e = refl
error-marked (H.Closure _ _) e = refl
error-marked (H.Param _) e = refl
error-marked (H.Alias _ _) e = refl
error-marked (H.Placeholder _) e = refl
error-marked (H.Bound _) e = refl
error-marked (H.Infer _) e = refl
error-marked (H.Region _) e = refl
error-marked (H.Part _) e = refl
error-marked (H.List _) e = refl

-- what has neither flag is plain
pub plain-unflagged : (a : Forest) (alias error : Bool) → alias ≡ holds is_alias a → error ≡ holds (mark F.Error) a
    → alias ≡ false → IsTrue (not error) → IsPlainForest a
plain-unflagged a true error e f n t = cc
plain-unflagged a false true e f n t = absurd (search rules)
plain-unflagged a false false e f n t = record { no_alias = sym e; no_error = holds_imply (mark F.Error) is_error error-marked a (sym f) }
