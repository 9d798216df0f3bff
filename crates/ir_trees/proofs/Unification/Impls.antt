-- What impls are for.
use Rattle.std.proofs.Common.{◌≡◌, List, [], ◌∷◌, Option, Some, None, Bool, true, false, IsTrue, ◌↔◌, arith, refl, sym, ◌∙◌, ap, subst}
use Rattle.std.specs.Prelude.{if◌then◌else◌}
use Rattle.std.specs.List.{slice_get}
use Rattle.ir_trees.specs.declared.ir.kinds.GenericArg.{GenericArg}
use Rattle.ir_trees.specs.declared.ir.kinds.GenericArg.TheVariants as A
use Rattle.ir_trees.specs.declared.ir.kinds.TraitRef.{TraitRef}
use Rattle.ir_trees.specs.declared.ir.kinds.Ty.{Ty}
use Rattle.ir_trees.specs.declared.ir.kinds.Const.{Const}
use Rattle.ir_trees.specs.declared.ir.kinds.Region.{Region}
use Rattle.ir_trees.specs.Syntax.Trees.{Kind, ArgumentsKind, Forest, Tree, kind_of, is_type_kind}
use Rattle.ir_trees.specs.Syntax.Kinds.{arg_number, arg_kind}
use Rattle.ir_trees.specs.Syntax.Nodes.{tree_at, kind_at}
use Rattle.ir_trees.specs.Declarations.Contents.{Impl}
use Rattle.ir_trees.specs.Declarations.Lookups.{maybe}
use Rattle.ir_trees.specs.Unification.Impls.{first_type, listed_type, self_type}
use Rattle.ir_trees.specs.Syntax.Words.{IsTy, IsArgs, ListFits, list_forest, args_forest, ty_tree}
use Rattle.ir_trees.proofs.Syntax.Rows.{kind-of}
use Rattle.ir_trees.proofs.Syntax.Members.{member, member-kind, arg-there}

-- the header of an impl that is there
abbrev pub header : Option Impl → Option TraitRef
header o = maybe None (λ i. Some i.trait_ref) o

listed : (ts : List Tree) (o : Option Impl) (r : TraitRef) → header o ≡ Some r → self_type ts o ≡ listed_type (kind_at ts r.args.0) (args_forest ts r.args)
listed ts None r e = absurd cc
listed ts (Some i) r e = let s : i.trait_ref ≡ r = cc in ap (λ (x : TraitRef). listed_type (kind_at ts x.args.0) (args_forest ts x.args)) s

-- of a list of arguments
members : (ts : List Tree) (o : Option Impl) (r : TraitRef) (xs : List GenericArg) → header o ≡ Some r → IsArgs ts r.args → list_forest ts xs ≡ args_forest ts r.args
    → self_type ts o ≡ first_type (list_forest ts xs)
members ts o r xs e k f = listed ts o r e ∙ (ap (λ (x : Kind). listed_type x (args_forest ts r.args)) k ∙ ap first_type (sym f))

not-list : (k : Kind) (f : Forest) → (k ≡ ArgumentsKind → ⊥) → listed_type k f ≡ None
not-list ArgumentsKind f n = absurd (n refl)
not-list _ f n = refl

pub no_list : (ts : List Tree) (o : Option Impl) (r : TraitRef) (b : Bool) → header o ≡ Some r → (IsTrue b ↔ IsArgs ts r.args) → b ≡ false → self_type ts o ≡ None
no_list ts o r true e k n = absurd cc
no_list ts o r false e k n = listed ts o r e ∙ not-list (kind_at ts r.args.0) (args_forest ts r.args) (λ i. let h : false ≡ true = k.1 i in absurd cc)

pub empty_header : (ts : List Tree) (o : Option Impl) (r : TraitRef) (xs : List GenericArg) → header o ≡ Some r → IsArgs ts r.args → list_forest ts xs ≡ args_forest ts r.args
    → None ≡ slice_get xs 0 → self_type ts o ≡ None
empty_header ts o r [] e k f g = members ts o r [] e k f
empty_header ts o r (x ∷ xs) e k f g = absurd cc

-- the first of them decides
begins : (ts : List Tree) (o : Option Impl) (r : TraitRef) (xs : List GenericArg) (x : GenericArg) → header o ≡ Some r → IsArgs ts r.args → ListFits ts xs
    → list_forest ts xs ≡ args_forest ts r.args → Some x ≡ slice_get xs 0 → self_type ts o ≡ (if is_type_kind (arg_kind x) then Some (tree_at ts (arg_number x)) else None)
begins ts o r [] x e k f g h = absurd cc
begins ts o r (y ∷ ys) x e k f g h =
    let same : y ≡ x = cc in
    let n : kind_at ts (arg_number y) ≡ arg_kind y = member-kind ts (y ∷ ys) 0 y f (omega arith) in
    let t = tree_at ts (arg_number y) in
    let found : self_type ts o ≡ (if is_type_kind (kind_of t.head) then Some t else None) = members ts o r (y ∷ ys) e k g ∙ ap first_type (member ts y ys f) in
    let decided : self_type ts o ≡ (if is_type_kind (arg_kind y) then Some t else None) =
    found ∙ ap (λ (j : Kind). if is_type_kind j then Some t else None) (kind-of ts (arg_number y) (arg_kind y) (arg-there y) n) in
    subst (λ (z : GenericArg). self_type ts o ≡ (if is_type_kind (arg_kind z) then Some (tree_at ts (arg_number z)) else None)) same decided

pub header_kind : (ts : List Tree) (xs : List GenericArg) (x : GenericArg) (t : Ty) → ListFits ts xs → Some x ≡ slice_get xs 0 → x ≡ A.Ty t → IsTy ts t
header_kind ts [] x t f h i = absurd cc
header_kind ts (y ∷ ys) x t f h i = let same : y ≡ A.Ty t = cc in subst (λ (z : GenericArg). kind_at ts (arg_number z) ≡ arg_kind z) same (member-kind ts (y ∷ ys) 0 y f (omega arith))

pub header_type : (ts : List Tree) (o : Option Impl) (r : TraitRef) (xs : List GenericArg) (x : GenericArg) (t : Ty) → header o ≡ Some r → IsArgs ts r.args → ListFits ts xs
    → list_forest ts xs ≡ args_forest ts r.args → Some x ≡ slice_get xs 0 → x ≡ A.Ty t → self_type ts o ≡ Some (ty_tree ts t)
header_type ts o r xs x t e k f g h i = begins ts o r xs (A.Ty t) e k f g (ap Some (sym i) ∙ h)

pub header_constant : (ts : List Tree) (o : Option Impl) (r : TraitRef) (xs : List GenericArg) (x : GenericArg) (t : Const) → header o ≡ Some r → IsArgs ts r.args → ListFits ts xs
    → list_forest ts xs ≡ args_forest ts r.args → Some x ≡ slice_get xs 0 → x ≡ A.Const t → self_type ts o ≡ None
header_constant ts o r xs x t e k f g h i = begins ts o r xs (A.Const t) e k f g (ap Some (sym i) ∙ h)

pub header_region : (ts : List Tree) (o : Option Impl) (r : TraitRef) (xs : List GenericArg) (x : GenericArg) (t : Region) → header o ≡ Some r → IsArgs ts r.args → ListFits ts xs
    → list_forest ts xs ≡ args_forest ts r.args → Some x ≡ slice_get xs 0 → x ≡ A.Region t → self_type ts o ≡ None
header_region ts o r xs x t e k f g h i = begins ts o r xs (A.Region t) e k f g (ap Some (sym i) ∙ h)
