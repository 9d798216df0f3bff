-- What decides nothing in the remote check decides nothing in a proper one where nothing is local.
use Rattle.std.proofs.Common.{◌≡◌, Bool, true, false, List, [], ◌∷◌, Option, Some, None, slice_get, refl, if◌then◌else◌}
use Rattle.ir_trees.specs.declared.ir.heads.PartHead.TheVariants as P
use Rattle.ir_trees.specs.declared.ir.heads.PredHead.TheVariants as PH
use Rattle.ir_trees.specs.declared.ir.heads.ClauseHead.TheVariants as Cl
use Rattle.ir_trees.specs.Syntax.Trees.{Forest, none, tree, Tree, erased_head, holds, is_loose}
use Rattle.ir_trees.specs.Declarations.Worlds.{Definition, World}
use Rattle.ir_trees.specs.declared.ir.heads.Head.{Head}
use Rattle.ir_trees.specs.declared.ir.kinds.AliasKind.{AliasKind}
use Rattle.ir_trees.specs.declared.ir.heads.Head.TheVariants as H
use Rattle.ir_trees.specs.declared.ir.heads.ConstHead.TheVariants as C
use Rattle.ir_trees.specs.declared.ir.kinds.AliasKind.TheVariants as AK
use Rattle.candidate_eval.specs.Knowability.Orphan.{CrateTest, crate_passes, names_here, Item, Viewed, Empty, Broken, Step, Class, IsNonLocal, class_of, view_class, alias_class, decides, Local, Proper, Remote}
use Rattle.candidate_eval.proofs.Frontier.Walks.{Clear}
use Rattle.candidate_eval.proofs.Knowability.Agree.{U, Proper_class}

abbrev pub Remote_class : World → Item (Unit {0}) → Class (Unit {0})
Remote_class w = class_of w None Remote

pub none_passes : (o : Option Definition) → crate_passes None o ≡ false
none_passes None = refl
none_passes (Some d) = refl

alias_carried : (b : Bool) (k : AliasKind) (t : Tree)
    → decides {E = U} (if b then alias_class Remote k t else IsNonLocal t) ≡ false
    → decides {E = U} (if b then alias_class (Local Proper) k t else IsNonLocal t) ≡ false
alias_carried false k t c = refl
alias_carried true AK.Projection t c = cc
alias_carried true _ t c = cc

-- what doesn't decide the remote check doesn't decide a proper one where nothing is local
item_carried : (w : World) (i : Item U) → decides (Remote_class w i) ≡ false → decides (Proper_class w None i) ≡ false
item_carried w Empty c = refl
item_carried w (Broken f) c = cc
item_carried w (Viewed t) c = at t.head t.children c
  where
    at : (h : Head) (a : Forest) → decides {E = U} (view_class w None Remote h a) ≡ false
        → decides {E = U} (view_class w None (Local Proper) h a) ≡ false
    at (H.Alias k i) a c = alias_carried (holds is_loose a) k _ c
    at (H.Placeholder l) a c = cc
    at (H.Bound d) a c = cc
    at (H.Infer n) a c = cc
    at _ a c = c

pub carry : (w : World) (xs : List (Step (Unit {0}) (Unit {0}))) → Clear (Remote_class w) xs → Clear (Proper_class w None) xs
carry w [] c = tt
carry w (x ∷ xs) c = (item_carried w x.item c.0, carry w xs c.1)

here_none : (w : World) (h : Head) → names_here w None h ≡ false
here_none w (H.Adt i) = none_passes (slice_get w i.0)
here_none w (H.Foreign i) = none_passes (slice_get w i.0)
here_none w (H.Part (P.Pred (PH.Trait i))) = none_passes (slice_get w i.0)
here_none w (H.Part (P.Pred (PH.Projection i))) = none_passes (slice_get w i.0)
here_none w (H.Part (P.Pred (PH.AutoTrait i))) = none_passes (slice_get w i.0)
here_none w (H.Part (P.Clause (Cl.Trait i p))) = none_passes (slice_get w i.0)
here_none w (H.Part (P.Clause (Cl.Projection i))) = none_passes (slice_get w i.0)
here_none w (H.FnDef i) = none_passes (slice_get w i.0)
here_none w (H.Closure i k) = none_passes (slice_get w i.0)
here_none w (H.Alias k i) = none_passes (slice_get w i.0)
here_none w (H.Const (C.Unevaluated i)) = none_passes (slice_get w i.0)
here_none w _ = refl

pub names_none : (w : World) (a : Forest) → holds (names_here w None) a ≡ false
names_none w none = refl
names_none w (tree h a a') = rw (here_none w h, names_none w a, names_none w a')

pub erased_names : (w : World) (x : CrateTest) (h : Head) → names_here w x (erased_head h) ≡ names_here w x h
erased_names w x (H.Region r) = refl
erased_names w x _ = refl
