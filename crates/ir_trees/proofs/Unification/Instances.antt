-- What an allowed substitution makes of a tree.
use Rattle.std.proofs.Common.{◌≡◌, Bool, true, false, [], ◌∷◌, ◌&&◌, refl, sym, ◌∙◌, ap, subst, if◌then◌else◌}
use Rattle.ir_trees.specs.declared.ir.heads.PartHead.{PartHead}
use Rattle.ir_trees.specs.declared.ir.heads.PartHead.TheVariants as P
use Rattle.ir_trees.specs.declared.ir.heads.ListHead.{ListHead}
use Rattle.ir_trees.specs.declared.ir.heads.ListHead.TheVariants as L
use Rattle.ir_trees.specs.Syntax.Trees.{Kind, ConstantKind, Forest, kind_of, is_type, is_type_kind, sort_kind, erase, erased_head}
use Rattle.ir_trees.specs.declared.ir.heads.VariableSort.{VariableSort}
use Rattle.ir_trees.specs.declared.ir.heads.Variable.{Variable}
use Rattle.ir_trees.specs.declared.ir.heads.Head.{Head}
use Rattle.ir_trees.specs.declared.ir.heads.Head.TheVariants as H
use Rattle.ir_trees.specs.declared.ir.heads.VariableSort.TheVariants as V
use Rattle.ir_trees.specs.Unification.Substitutions.{Substitution, lookup, apply, replaced, same_sort, same_variable, fits_sort, is_constant_kind, Universes, IsAllowed, is_integer, is_float, is_variable}

pub same_sort_is : (s t : VariableSort) → same_sort s t ≡ true → s ≡ t
same_sort_is V.General V.General e = refl
same_sort_is V.Integer V.Integer e = refl
same_sort_is V.Floating V.Floating e = refl
same_sort_is V.Constant V.Constant e = refl
same_sort_is _ _ e = cc

pub and_left : (a b : Bool) → (a && b) ≡ true → a ≡ true
and_left true b e = refl
and_left false b e = cc

constant_is_no_type : (k : Kind) → is_constant_kind k ≡ true → is_type_kind k ≡ false
constant_is_no_type ConstantKind e = refl
constant_is_no_type _ e = cc

integer_is_type : (h : Head) → is_integer h ≡ true → is_type h ≡ true
integer_is_type (H.Infer v) e = ap (λ s. is_type_kind (sort_kind s)) (same_sort_is v.sort V.Integer e)
integer_is_type (H.Builtin b) e = refl
integer_is_type _ e = cc

float_is_type : (h : Head) → is_float h ≡ true → is_type h ≡ true
float_is_type (H.Infer v) e = ap (λ s. is_type_kind (sort_kind s)) (same_sort_is v.sort V.Floating e)
float_is_type (H.Builtin b) e = refl
float_is_type _ e = cc

fits_kind : (s : VariableSort) (h : Head) → fits_sort s h ≡ true → is_type h ≡ is_type_kind (sort_kind s)
fits_kind V.General h e = e
fits_kind V.Integer h e = integer_is_type h e
fits_kind V.Floating h e = float_is_type h e
fits_kind V.Constant h e = constant_is_no_type (kind_of h) e

lookup_kind : (u : Universes) (s : Substitution) (v : Variable) (below : Forest) → IsAllowed u s
    → is_type (lookup s v (record { head = H.Infer v; children = below })).head ≡ is_type_kind (sort_kind v.sort)
lookup_kind u [] v below ok = refl
lookup_kind u (b ∷ bs) v below ok = at (same_variable b.variable v) refl (lookup_kind u bs v below ok.1)
  where
    at : (t : Bool) → same_variable b.variable v ≡ t
        → is_type (lookup bs v (record { head = H.Infer v; children = below })).head ≡ is_type_kind (sort_kind v.sort)
        → is_type (if t then b.value else lookup bs v (record { head = H.Infer v; children = below })).head ≡ is_type_kind (sort_kind v.sort)
    at false e ih = ih
    at true e ih =
        fits_kind b.variable.sort b.value.head ok.0.fits
        ∙ ap (λ s. is_type_kind (sort_kind s)) (same_sort_is _ _ (and_left _ _ e))

-- an instance of a tree is a type exactly if the tree is
pub replaced_kind : (u : Universes) (s : Substitution) (h : Head) (below : Forest) → IsAllowed u s
    → is_type (replaced s h below).head ≡ is_type h
replaced_kind u s (H.Infer v) below ok = lookup_kind u s v below ok
replaced_kind u s _ below ok = refl

pub erased_kind : (h : Head) → is_type (erased_head h) ≡ is_type h
erased_kind (H.Region r) = refl
erased_kind _ = refl

-- a type that is no variable stays its own head
pub stays : (s : Substitution) (h : Head) (below : Forest) → is_type h ≡ true → is_variable h ≡ false
    → erased_head (replaced s h below).head ≡ h
stays s (H.Infer v) below t n = cc
stays s (H.Region r) below t n = cc
stays s _ below t n = refl

pub stays_below : (s : Substitution) (h : Head) (below : Forest) → is_variable h ≡ false
    → (replaced s h below).children ≡ below
stays_below s (H.Infer v) below n = cc
stays_below s _ below n = refl

own_fits : (v : Variable) (s : VariableSort) → v.sort ≡ s → fits_sort s (H.Infer v) ≡ true
own_fits v V.General e = rw e
own_fits v V.Integer e = rw e
own_fits v V.Floating e = rw e
own_fits v V.Constant e = rw e

pub lookup_fits : (u : Universes) (s : Substitution) (v : Variable) (below : Forest) → IsAllowed u s
    → fits_sort v.sort (lookup s v (record { head = H.Infer v; children = below })).head ≡ true
lookup_fits u [] v below ok = own_fits v v.sort refl
lookup_fits u (b ∷ bs) v below ok = at (same_variable b.variable v) refl (lookup_fits u bs v below ok.1)
  where
    at : (t : Bool) → same_variable b.variable v ≡ t
        → fits_sort v.sort (lookup bs v (record { head = H.Infer v; children = below })).head ≡ true
        → fits_sort v.sort (if t then b.value else lookup bs v (record { head = H.Infer v; children = below })).head ≡ true
    at false e ih = ih
    at true e ih = subst (λ s. fits_sort s b.value.head ≡ true) (same_sort_is b.variable.sort v.sort (and_left _ _ e)) ok.0.fits

pub part_no_type : (p : PartHead) → is_type (H.Part p) ≡ false
part_no_type (P.Pred _) = refl
part_no_type (P.Clause _) = refl
part_no_type P.Sig = refl
part_no_type P.Vars = refl
part_no_type (P.Var _) = refl

pub list_no_type : (l : ListHead) → is_type (H.List l) ≡ false
list_no_type L.Args = refl
list_no_type L.Preds = refl
list_no_type L.Clauses = refl

-- The trees that a substitution and erasing make.
abbrev pub made : Substitution → Forest → Forest
made r a = erase (apply r a)

abbrev pub head_made : Substitution → Head → Forest → Head
head_made r h a = erased_head (replaced r h (apply r a)).head

pub below_made : (p q : Substitution) (h g : Head) (a b : Forest) → is_variable h ≡ false → is_variable g ≡ false
    → erase (replaced p h (apply p a)).children ≡ erase (replaced q g (apply q b)).children → made p a ≡ made q b
below_made p q h g a b vh vg e =
    sym (ap erase (stays_below p h (apply p a) vh)) ∙ (e ∙ ap erase (stays_below q g (apply q b) vg))
