-- What fits the declared world is in it, and fits every world that extends it.
use Rattle.std.proofs.Common.{◌≡◌, ℕ, Bool, false, List, [], ◌∷◌, Option, Some, None, is_none, slice_get, refl, sym, ◌∙◌, ap}
use Rattle.ir_trees.specs.declared.ir.heads.PartHead.{PartHead}
use Rattle.ir_trees.specs.declared.ir.heads.PartHead.TheVariants as P
use Rattle.ir_trees.specs.declared.ir.heads.PredHead.TheVariants as PH
use Rattle.ir_trees.specs.declared.ir.heads.ClauseHead.TheVariants as Cl
use Rattle.ir_trees.specs.Syntax.Trees.{Kind, SignatureKind, BinderKind, TypeKind, Forest, none, tree, holds}
use Rattle.ir_trees.specs.Declarations.Worlds.{AdtSort, ForeignSort, FunctionSort, ClosureSort, OpaqueSort, AliasSort, AssociatedConstantSort, DefinitionSort, TraitSort, AssociatedTypeSort, Definition, World, Reference, Extends, parameters, parameters_of, joined, alias_kinds, clause_kinds, part_kinds, child_kinds, kinds_of, Fits, IsOf}
use Rattle.ir_trees.specs.declared.ir.heads.Head.{Head}
use Rattle.ir_trees.specs.declared.ir.kinds.AliasKind.{AliasKind}
use Rattle.ir_trees.specs.declared.ir.heads.Head.TheVariants as H
use Rattle.ir_trees.specs.declared.ir.heads.ConstHead.TheVariants as C
use Rattle.ir_trees.specs.declared.ir.kinds.AliasKind.TheVariants as AK

-- whether a definition in the head isn't in the world
abbrev pub is_missing : World → Head → Bool
is_missing w (H.Adt i) = is_none (slice_get w i.0)
is_missing w (H.Foreign i) = is_none (slice_get w i.0)
is_missing w (H.Part (P.Pred (PH.Trait i))) = is_none (slice_get w i.0)
is_missing w (H.Part (P.Pred (PH.Projection i))) = is_none (slice_get w i.0)
is_missing w (H.Part (P.Pred (PH.AutoTrait i))) = is_none (slice_get w i.0)
is_missing w (H.Part (P.Clause (Cl.Trait i p))) = is_none (slice_get w i.0)
is_missing w (H.Part (P.Clause (Cl.Projection i))) = is_none (slice_get w i.0)
is_missing w (H.FnDef i) = is_none (slice_get w i.0)
is_missing w (H.Closure i k) = is_none (slice_get w i.0)
is_missing w (H.Alias k i) = is_none (slice_get w i.0)
is_missing w (H.Const (C.Unevaluated i)) = is_none (slice_get w i.0)
is_missing w _ = false

parameters_there : (s : DefinitionSort) (o : Option Definition) (ks : List Kind) → parameters_of s o ≡ Some ks → is_none o ≡ false
parameters_there s None ks e = cc
parameters_there s (Some d) ks e = refl

has : (w : World) (s : DefinitionSort) (i : ℕ) (ks : List Kind) → parameters w s i ≡ Some ks → is_none (slice_get w i) ≡ false
has w s i ks e = parameters_there s (slice_get w i) ks e

abbrev Self : Option (List Kind)
Self = Some (TypeKind ∷ [])

abbrev Parts3 : Option (List Kind)
Parts3 = Some (SignatureKind ∷ TypeKind ∷ [])

record Joined (a b : Option (List Kind)) : Type 0 where
  left : List Kind
  right : List Kind
  left_is : a ≡ Some left
  right_is : b ≡ Some right

joined_parts : (a b : Option (List Kind)) (ks : List Kind) → joined a b ≡ Some ks → Joined a b
joined_parts (Some a) (Some b) ks e = record { left = a; right = b; left_is = refl; right_is = refl }
joined_parts (Some a) None ks e = cc
joined_parts None b ks e = cc

abbrev Binds : Option (List Kind)
Binds = Some (BinderKind ∷ [])

part_there : (w : World) (p : PartHead) (js ks : List Kind) → part_kinds w p js ≡ Some ks → is_missing w (H.Part p) ≡ false
part_there w (P.Pred (PH.Trait i)) js ks e =
    let p = joined_parts Binds (parameters w TraitSort i.0) ks e in has w TraitSort i.0 p.right p.right_is
part_there w (P.Pred (PH.Projection i)) js ks e =
    let p = joined_parts Binds (joined (parameters w AssociatedTypeSort i.0) Self) ks e in
    let q = joined_parts (parameters w AssociatedTypeSort i.0) Self p.right p.right_is in
    has w AssociatedTypeSort i.0 q.left q.left_is
part_there w (P.Pred (PH.AutoTrait i)) js ks e =
    let p = joined_parts Binds (parameters w TraitSort i.0) ks e in has w TraitSort i.0 p.right p.right_is
part_there w (P.Clause (Cl.Trait i p)) js ks e =
    let q = joined_parts Binds (clause_kinds w (Cl.Trait i p)) ks e in
    let r = joined_parts Self (parameters w TraitSort i.0) q.right q.right_is in has w TraitSort i.0 r.right r.right_is
part_there w (P.Clause (Cl.Projection i)) js ks e =
    let q = joined_parts Binds (clause_kinds w (Cl.Projection i)) ks e in
    let r = joined_parts (joined Self (parameters w AssociatedTypeSort i.0)) Self q.right q.right_is in
    let t = joined_parts Self (parameters w AssociatedTypeSort i.0) r.left r.left_is in has w AssociatedTypeSort i.0 t.right t.right_is
part_there w (P.Clause Cl.TypeOutlives) js ks e = refl
part_there w (P.Clause Cl.RegionOutlives) js ks e = refl
part_there w (P.Clause Cl.AliasRelate) js ks e = refl
part_there w (P.Clause Cl.ConstEquate) js ks e = refl
part_there w P.Sig js ks e = refl
part_there w P.Vars js ks e = refl
part_there w (P.Var k) js ks e = refl

alias_there : (w : World) (k : AliasKind) (i : ℕ) (ks : List Kind) → alias_kinds w k i ≡ Some ks → is_none (slice_get w i) ≡ false
alias_there w AK.Projection i ks e =
    let p = joined_parts Self (parameters w AssociatedTypeSort i) ks e in has w AssociatedTypeSort i p.right p.right_is
alias_there w AK.Opaque i ks e = has w OpaqueSort i ks e
alias_there w AK.Inherent i ks e = has w AliasSort i ks e
alias_there w AK.Free i ks e = has w AliasSort i ks e

head_there : (w : World) (h : Head) (js ks : List Kind) → child_kinds w h js ≡ Some ks → is_missing w h ≡ false
head_there w (H.Adt i) js ks e = has w AdtSort i.0 ks e
head_there w (H.Foreign i) js ks e = has w ForeignSort i.0 ks e
head_there w (H.FnDef i) js ks e = has w FunctionSort i.0 ks e
head_there w (H.Closure i k) js ks e =
    let p = joined_parts (parameters w ClosureSort i.0) Parts3 ks e in has w ClosureSort i.0 p.left p.left_is
head_there w (H.Alias k i) js ks e = alias_there w k i.0 ks e
head_there w (H.Const (C.Unevaluated i)) js ks e =
    let p = joined_parts Self (parameters w AssociatedConstantSort i.0) ks e in has w AssociatedConstantSort i.0 p.right p.right_is
head_there w (H.Part p) js ks e = part_there w p js ks e
head_there w _ js ks e = refl

-- what fits is there
pub fits_there : (w : World) (a : Forest) → Fits w a → holds (is_missing w) a ≡ false
fits_there w none f = refl
fits_there w (tree h a b) f = rw (head_there w h (kinds_of a) (kinds_of a) f.0, fits_there w a f.1, fits_there w b f.2)

pub trait_there : (w : World) (r : Reference) → IsOf w r → is_none (slice_get w r.trait) ≡ false
trait_there w r o =
    let p = joined_parts Self (parameters w TraitSort r.trait) (kinds_of r.arguments) o.takes in has w TraitSort r.trait p.right p.right_is

-- what is in the declared world is in the other
pub still_there : (v w : World) → Extends v w → (i : ℕ) → is_none (slice_get v i) ≡ false → slice_get v i ≡ slice_get w i
still_there v w ext i there = at (slice_get v i) refl there
  where
    at : (o : Option Definition) → slice_get v i ≡ o → is_none o ≡ false → slice_get v i ≡ slice_get w i
    at None e n = cc
    at (Some d) e n = e ∙ sym (ext i d e)

parameters_same : (v w : World) → Extends v w → (s : DefinitionSort) (i : ℕ) → is_none (slice_get v i) ≡ false → parameters v s i ≡ parameters w s i
parameters_same v w ext s i there = ap (parameters_of s) (still_there v w ext i there)

part_same : (v w : World) → Extends v w → (p : PartHead) (ks : List Kind) → is_missing v (H.Part p) ≡ false → part_kinds v p ks ≡ part_kinds w p ks
part_same v w ext (P.Pred (PH.Trait i)) ks there = rw (still_there v w ext i.0 there)
part_same v w ext (P.Pred (PH.Projection i)) ks there = rw (still_there v w ext i.0 there)
part_same v w ext (P.Pred (PH.AutoTrait i)) ks there = rw (still_there v w ext i.0 there)
part_same v w ext (P.Clause (Cl.Trait i p)) ks there = rw (still_there v w ext i.0 there)
part_same v w ext (P.Clause (Cl.Projection i)) ks there = rw (still_there v w ext i.0 there)
part_same v w ext (P.Clause Cl.TypeOutlives) ks there = refl
part_same v w ext (P.Clause Cl.RegionOutlives) ks there = refl
part_same v w ext (P.Clause Cl.AliasRelate) ks there = refl
part_same v w ext (P.Clause Cl.ConstEquate) ks there = refl
part_same v w ext P.Sig ks there = refl
part_same v w ext P.Vars ks there = refl
part_same v w ext (P.Var k) ks there = refl

alias_same : (v w : World) → Extends v w → (k : AliasKind) (i : ℕ) → is_none (slice_get v i) ≡ false → alias_kinds v k i ≡ alias_kinds w k i
alias_same v w ext AK.Projection i there = rw (still_there v w ext i there)
alias_same v w ext AK.Opaque i there = rw (still_there v w ext i there)
alias_same v w ext AK.Inherent i there = rw (still_there v w ext i there)
alias_same v w ext AK.Free i there = rw (still_there v w ext i there)

kinds_same : (v w : World) → Extends v w → (h : Head) (ks : List Kind) → is_missing v h ≡ false → child_kinds v h ks ≡ child_kinds w h ks
kinds_same v w ext (H.Adt i) ks there = rw (still_there v w ext i.0 there)
kinds_same v w ext (H.Foreign i) ks there = rw (still_there v w ext i.0 there)
kinds_same v w ext (H.FnDef i) ks there = rw (still_there v w ext i.0 there)
kinds_same v w ext (H.Closure i k) ks there = rw (still_there v w ext i.0 there)
kinds_same v w ext (H.Alias k i) ks there = alias_same v w ext k i.0 there
kinds_same v w ext (H.Const (C.Unevaluated i)) ks there = rw (still_there v w ext i.0 there)
kinds_same v w ext (H.Part p) ks there = part_same v w ext p ks there
kinds_same v w ext _ ks there = refl

pub fits_still : (v w : World) → Extends v w → (h : Head) (ks : List Kind) → child_kinds v h ks ≡ Some ks → child_kinds w h ks ≡ Some ks
fits_still v w ext h ks e = sym (kinds_same v w ext h ks (head_there v h ks ks e)) ∙ e

pub takes_still : (v w : World) → Extends v w → (r : Reference) → IsOf v r
    → joined (Some (TypeKind ∷ [])) (parameters w TraitSort r.trait) ≡ Some (kinds_of r.arguments)
takes_still v w ext r o =
    ap (joined (Some (TypeKind ∷ []))) (sym (parameters_same v w ext TraitSort r.trait (trait_there v r o))) ∙ o.takes
