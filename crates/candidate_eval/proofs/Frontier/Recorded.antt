-- What a walk records first, and that in `Remote` nothing is uncovered.
use Rattle.std.proofs.Common.{◌≡◌, Bool, true, false, List, [], ◌∷◌, ◌++◌, Result, Ok, Err, refl, sym, subst}
use Rattle.std.specs.Prelude.{OnOk}
use Rattle.ir_trees.specs.declared.ir.heads.Head.{Head}
use Rattle.ir_trees.specs.declared.ir.heads.Head.TheVariants as H
use Rattle.ir_trees.specs.declared.ir.kinds.AliasKind.{AliasKind}
use Rattle.ir_trees.specs.declared.ir.kinds.AliasKind.TheVariants as AK
use Rattle.ir_trees.specs.declared.ir.kinds.Ty.{Ty}
use Rattle.ir_trees.specs.Syntax.Trees.{Forest, Tree, holds, is_loose}
use Rattle.ir_trees.specs.Declarations.Worlds.{World}
use Rattle.candidate_eval.specs.declared.coherence.IsFirstInputType.{IsFirstInputType}
use Rattle.candidate_eval.specs.declared.coherence.NormalizeErr.{NormalizeErr}
use Rattle.candidate_eval.specs.declared.coherence.NormalizeErr.TheVariants as N
use Rattle.candidate_eval.specs.declared.coherence.table.ViewClass.{ViewClass}
use Rattle.candidate_eval.specs.declared.coherence.table.ViewClass.TheVariants as V
use Rattle.candidate_eval.specs.declared.coherence.walk.EarlyExit.{EarlyExit}
use Rattle.candidate_eval.specs.declared.coherence.walk.EarlyExit.TheVariants as X
use Rattle.candidate_eval.specs.declared.coherence.walk.Walk.{Walk}
use Rattle.candidate_eval.specs.Knowability.Answers.{is_first_input, entries_of}
use Rattle.candidate_eval.specs.Calls.Exits.{broken_by, exit_of, IsAdded, IsTaken}
use Rattle.candidate_eval.specs.Knowability.Laws.{NoneFirst, OnlyFirst}
use Rattle.candidate_eval.specs.Knowability.Orphan.{InCrate, Remote, CrateTest, is_local, principal_passes}
use Rattle.candidate_eval.specs.Calls.Table.{table, loose_alias_in, alias_in, owned_in}
use Rattle.candidate_eval.specs.Calls.Walk.{FirstOnce}

loose-alias-covers : (k : AliasKind) → loose_alias_in Remote k ≡ V.Uncovered → ⊥
loose-alias-covers AK.Projection e = cc
loose-alias-covers AK.Opaque e = cc
loose-alias-covers AK.Inherent e = cc
loose-alias-covers AK.Free e = cc

alias-covers : (k : AliasKind) (b : Bool) → alias_in Remote k b ≡ V.Uncovered → ⊥
alias-covers k true e = loose-alias-covers k e
alias-covers k false e = cc

owned-covers : (b : Bool) → owned_in b ≡ V.Uncovered → ⊥
owned-covers true e = cc
owned-covers false e = cc

remote-covers : (w : World) (x : CrateTest) (h : Head) (a : Forest) → table w x Remote h a ≡ V.Uncovered → ⊥
remote-covers w x (H.Placeholder u) a e = cc
remote-covers w x (H.Bound d) a e = cc
remote-covers w x (H.Infer v) a e = cc
remote-covers w x (H.Alias k i) a e = alias-covers k (holds is_loose a) e
remote-covers w x (H.Adt i) a e = owned-covers (is_local w x i.0) e
remote-covers w x (H.Foreign i) a e = owned-covers (is_local w x i.0) e
remote-covers w x H.Dynamic a e = owned-covers (principal_passes w x a) e
remote-covers w x _ a e = cc

pub table-covers : (w : World) (x : CrateTest) (m : InCrate) (h : Head) (a : Forest) → m ≡ Remote → table w x m h a ≡ V.Uncovered → ⊥
table-covers w x m h a r e = remote-covers w x h a (subst (λ (z : InCrate). table w x z h a ≡ V.Uncovered) r e)

exit-covers : {E : Type 0} (k : ViewClass) (t u : Ty) (x : EarlyExit E) → x ≡ (let y : EarlyExit E = X.Uncovered u in y) → x ≡ exit_of k t → k ≡ V.Uncovered
exit-covers V.NonLocal t u x e f = cc
exit-covers V.Skipped t u x e f = cc
exit-covers V.Unnameable t u x e f = cc
exit-covers V.Local t u x e f = cc
exit-covers V.Uncovered t u x e f = refl

-- what breaks a walk off with an uncovered view is one
pub take-covers : {E : Type 0} (old new : Walk) (k : ViewClass) (t u : Ty) (r : Result (Unit {0}) (EarlyExit E)) → IsTaken old new k t r → r ≡ Err (X.Uncovered u) → k ≡ V.Uncovered
take-covers old new k t u (Ok v) a e = cc
take-covers {E} old new k t u (Err x) a e = let y : x ≡ X.Uncovered u = cc in exit-covers k t u x y a.0

pub broken-covers : {E : Type 0} (e : NormalizeErr E) (t : Ty) → broken_by e ≡ X.Uncovered t → ⊥
broken-covers (N.Failed x) t e = cc
broken-covers (N.Stop s) t e = cc

none-then : (ts : List Tree) (es : List (Ty × IsFirstInputType)) (e : Ty × IsFirstInputType) → NoneFirst (entries_of ts es) → is_first_input e.1 ≡ false
    → NoneFirst (entries_of ts (es ++ e ∷ []))
none-then ts [] e n f = (f, tt)
none-then ts (x ∷ xs) e n f = (n.0, none-then ts xs e n.1 f)

once-then : (ts : List Tree) (es : List (Ty × IsFirstInputType)) (e : Ty × IsFirstInputType) → OnlyFirst (entries_of ts es) → is_first_input e.1 ≡ false
    → OnlyFirst (entries_of ts (es ++ e ∷ []))
once-then ts [] e n f = tt
once-then ts (x ∷ xs) e n f = none-then ts xs e n f

one-more : (b : Bool) (es : List (Ty × IsFirstInputType)) (e : Ty × IsFirstInputType) → FirstOnce b es → is_first_input e.1 ≡ b → (ts : List Tree)
    → OnlyFirst (entries_of ts (es ++ e ∷ []))
one-more true es e h f ts = subst (λ (l : List (Ty × IsFirstInputType)). OnlyFirst (entries_of ts (l ++ e ∷ []))) (sym (h.none refl)) tt
one-more false es e h f ts = once-then ts es e (h.once ts) f

-- the first visit has ended
pub later-once : (b : Bool) (es : List (Ty × IsFirstInputType)) → FirstOnce b es → FirstOnce false es
later-once b es h = record { none = λ e. cc; once = h.once }

added-once : (old new : Walk) (k : ViewClass) (t : Ty) → FirstOnce old.is_first old.non_local.items → IsAdded k old new t → FirstOnce false new.non_local.items
added-once old new V.NonLocal t h a =
    record {
      none = λ e. cc;
      once = λ ts. subst (λ (l : List (Ty × IsFirstInputType)). OnlyFirst (entries_of ts l)) (sym a.added) (one-more old.is_first old.non_local.items (t, a.first) h a.is_first ts);
    }
added-once old new V.Skipped t h a = subst (FirstOnce false) (sym a) (later-once old.is_first old.non_local.items h)
added-once old new V.Local t h a = subst (FirstOnce false) (sym a) (later-once old.is_first old.non_local.items h)
added-once old new V.Uncovered t h a = subst (FirstOnce false) (sym a) (later-once old.is_first old.non_local.items h)
added-once old new V.Unnameable t h a = subst (FirstOnce false) (sym a) (later-once old.is_first old.non_local.items h)

pub taken-once : {E : Type 0} (old new : Walk) (k : ViewClass) (t : Ty) (r : Result (Unit {0}) (EarlyExit E)) → FirstOnce old.is_first old.non_local.items → IsTaken old new k t r
    → OnOk r (FirstOnce false new.non_local.items)
taken-once old new k t (Ok u) h a = added-once old new k t h a.1
taken-once old new k t (Err x) h a = tt

pub ended-once : {E : Type 0} (b : Bool) (es : List (Ty × IsFirstInputType)) (r : Result (Unit {0}) (EarlyExit E)) → OnOk r (FirstOnce b es) → OnOk r (FirstOnce false es)
ended-once b es (Ok u) h = later-once b es h
ended-once b es (Err x) h = tt
