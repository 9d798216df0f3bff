-- When a node takes its children, by the kinds of its arguments.
use Rattle.std.proofs.Common.{◌≡◌, ◌↔◌, ◌⊎◌, inl, inr, IsTrue, ℕ, suc, ◌+◌, ◌<◌, ◌≤◌, length, get_or, Bool, true, false, Option, Some, None, List, [], ◌∷◌, ◌++◌, refl, sym, ◌∙◌, ap, subst, arith}
use Rattle.std.specs.Prelude.{map, drop}
use Rattle.std.specs.List.{list_all}
use Rattle.ir_trees.specs.declared.ir.kinds.GenericArg.{GenericArg}
use Rattle.ir_trees.specs.declared.ir.kinds.GenericArg.TheVariants as A
use Rattle.ir_trees.specs.declared.ir.kinds.Args.{Args}
use Rattle.ir_trees.specs.declared.ir.kinds.Pred.{Pred}
use Rattle.ir_trees.specs.declared.ir.kinds.AdtId.{AdtId}
use Rattle.ir_trees.specs.declared.ir.kinds.FnId.{FnId}
use Rattle.ir_trees.specs.declared.ir.kinds.ForeignId.{ForeignId}
use Rattle.ir_trees.specs.declared.ir.kinds.ClosureId.{ClosureId}
use Rattle.ir_trees.specs.declared.ir.kinds.ClosureArgs.{ClosureArgs}
use Rattle.ir_trees.specs.declared.ir.kinds.AliasTy.{AliasTy}
use Rattle.ir_trees.specs.declared.ir.kinds.AssocId.{AssocId}
use Rattle.ir_trees.specs.declared.ir.kinds.TraitId.{TraitId}
use Rattle.ir_trees.specs.declared.ir.kinds.Preds.{Preds}
use Rattle.ir_trees.specs.declared.ir.kinds.Const.{Const}
use Rattle.ir_trees.specs.declared.ir.kinds.Region.{Region}
use Rattle.ir_trees.specs.declared.ir.kinds.Ty.{Ty}
use Rattle.ir_trees.specs.declared.ir.kinds.Pattern.TheVariants as Pat
use Rattle.ir_trees.specs.declared.ir.kinds.Binder.{Binder}
use Rattle.ir_trees.specs.declared.ir.kinds.FnSig.{FnSig}
use Rattle.ir_trees.specs.declared.ir.kinds.TyKind.{TyKind}
use Rattle.ir_trees.specs.declared.ir.kinds.TyKind.TheVariants as K
use Rattle.ir_trees.specs.declared.ir.kinds.ConstKind.{ConstKind}
use Rattle.ir_trees.specs.declared.ir.kinds.ConstKind.TheVariants as CK
use Rattle.ir_trees.specs.declared.ir.kinds.ExistentialPredicate.{ExistentialPredicate}
use Rattle.ir_trees.specs.declared.ir.kinds.ExistentialPredicate.TheVariants as E
use Rattle.ir_trees.specs.declared.ir.kinds.ExistentialTraitRef.{ExistentialTraitRef}
use Rattle.ir_trees.specs.declared.ir.kinds.ExistentialProjection.{ExistentialProjection}
use Rattle.ir_trees.specs.declared.ir.kinds.ClauseKind.{ClauseKind}
use Rattle.ir_trees.specs.declared.ir.kinds.ClauseKind.TheVariants as Cl
use Rattle.ir_trees.specs.declared.ir.kinds.TraitPredicate.{TraitPredicate}
use Rattle.ir_trees.specs.declared.ir.kinds.ProjectionPredicate.{ProjectionPredicate}
use Rattle.ir_trees.specs.Syntax.Trees.{Kind, TypeKind, ConstantKind, RegionKind, PredicateKind, SignatureKind, BinderKind, Forest, none, tree, Tree, kind_of, is_list, is_list_kind, row, join}
use Rattle.ir_trees.specs.Syntax.Kinds.{arg_child, arg_kind, sorts}
use Rattle.ir_trees.specs.Syntax.Nodes.{tree_at, kind_at}
use Rattle.ir_trees.specs.Declarations.Worlds.{World, AdtSort, ForeignSort, FunctionSort, ClosureSort, TraitSort, AssociatedTypeSort, AssociatedConstantSort, parameters, alias_kinds, child_kinds, kinds_of, joined, all_of, bounds_of}
use Rattle.ir_trees.specs.Declarations.Parameters.{is_type_arg}
use Rattle.ir_trees.specs.declared.ir.kinds.TraitRef.{TraitRef}
use Rattle.ir_trees.specs.Declarations.Declaration.{Declaration}
use Rattle.ir_trees.specs.Declarations.Context.{Context, Grows, world_of}
use Rattle.ir_trees.specs.Declarations.References.{Takes, AllTake, ArgumentsFit}
use Rattle.ir_trees.specs.Syntax.Words.{IsArgs, IsPreds, KindFits, ConstKindFits, PredFits, ClauseFits, ListFits, PredListFits, kind_tree, const_kind_tree, pred_kind_tree, clause_kind_tree, args_forest, preds_forest, list_forest, pred_list_forest, bounds_forest}
use Rattle.ir_trees.specs.Syntax.Trees.{there}
use Rattle.ir_trees.proofs.Growth.Kept.{preds-kept}
use Rattle.ir_trees.proofs.Growth.Made.{list-kinds}
use Rattle.std.proofs.Math.Nat.{eq-or-lt_of_le}
use Rattle.ir_trees.proofs.Kinding.References.{row-kinds, take-at}
use Rattle.ir_trees.proofs.Syntax.Rows.{row-list}

-- what takes the kinds of its children is what takes their list
pub takes-iff : (w : World) (t : Tree) (ks : List Kind) (p : Option (List Kind)) (b : Bool) → is_list t.head ≡ false → kinds_of t.children ≡ ks
    → child_kinds w t.head ks ≡ p → IsTrue b ↔ (p ≡ Some ks) → IsTrue b ↔ Takes w t
takes-iff w t ks p b l k c r = (
  (λ h _. ap (child_kinds w t.head) k ∙ (c ∙ (r.0 h ∙ ap Some (sym k)))),
  (λ h. r.1 (sym c ∙ (ap (child_kinds w t.head) (sym k) ∙ (h l ∙ ap Some k)))),
)

pub arg-kinds : (xs : List GenericArg) → sorts (map arg_child xs) ≡ map arg_kind xs
arg-kinds [] = refl
arg-kinds (x ∷ xs) = ap (λ (ks : List Kind). arg_kind x ∷ ks) (arg-kinds xs)

-- kinds of a row that begins with a list of arguments
kinds-join : (a b : Forest) → kinds_of (join a b) ≡ kinds_of a ++ kinds_of b
kinds-join none b = refl
kinds-join (tree h below rest) b = ap (λ (ks : List Kind). kind_of h ∷ ks) (kinds-join rest b)

-- the list that a number stands for, as it was read
pub record IsRead (ts : List Tree) (a : Args) (xs : List GenericArg) : Type 0 where
  pub list : IsArgs ts a
  pub fits : ListFits ts xs
  pub tree : list_forest ts xs ≡ args_forest ts a

pub read-kinds : (ts : List Tree) (a : Args) (xs : List GenericArg) (f : Forest) → IsRead ts a xs
    → kinds_of (row (tree_at ts a.0) f) ≡ map arg_kind xs ++ kinds_of f
read-kinds ts a xs f r =
    ap kinds_of (row-list ts a.0 _ f refl refl r.list)
    ∙ (kinds-join (args_forest ts a) f
    ∙ ap (λ (ks : List Kind). ks ++ kinds_of f) (ap kinds_of (sym r.tree) ∙ (list-kinds ts xs r.fits ∙ arg-kinds xs)))

append-none : (ks : List Kind) → ks ++ [] ≡ ks
append-none [] = refl
append-none (k ∷ ks) = ap (λ (js : List Kind). k ∷ js) (append-none ks)

pub read-alone : (ts : List Tree) (a : Args) (xs : List GenericArg) → IsRead ts a xs → kinds_of (row (tree_at ts a.0) none) ≡ map arg_kind xs
read-alone ts a xs r = read-kinds ts a xs none r ∙ append-none (map arg_kind xs)

-- what is joined is its parts
tail-same : (k : Kind) (ks js : List Kind) → k ∷ ks ≡ k ∷ js → ks ≡ js
tail-same k ks js e = cc

some-same : (ks js : List Kind) → Some ks ≡ Some js → ks ≡ js
some-same ks js e = cc

append-same : (ks js : List Kind) (k : Kind) → ks ++ k ∷ [] ≡ js ++ k ∷ [] → ks ≡ js
append-same [] [] k e = refl
append-same [] (j ∷ []) k e = absurd cc
append-same [] (j ∷ (i ∷ js)) k e = absurd cc
append-same (j ∷ []) [] k e = absurd cc
append-same (j ∷ (i ∷ js)) [] k e = absurd cc
append-same (i ∷ ks) (j ∷ js) k e =
    let first : i ≡ j = cc in
    let rest : ks ++ k ∷ [] ≡ js ++ k ∷ [] = cc in
    let same = append-same ks js k rest in
    cc

split : (ks : List Kind) (j k : Kind) → ks ++ j ∷ k ∷ [] ≡ (ks ++ j ∷ []) ++ k ∷ []
split [] j k = refl
split (i ∷ ks) j k = ap (λ (is : List Kind). i ∷ is) (split ks j k)

append-two : (ks js : List Kind) → ks ++ (SignatureKind ∷ TypeKind ∷ []) ≡ js ++ (SignatureKind ∷ TypeKind ∷ []) → ks ≡ js
append-two ks js e =
    append-same ks js SignatureKind
    (append-same (ks ++ SignatureKind ∷ []) (js ++ SignatureKind ∷ []) TypeKind (sym (split ks SignatureKind TypeKind) ∙ (e ∙ split js SignatureKind TypeKind)))

pub first-iff : (k : Kind) (o : Option (List Kind)) (ks : List Kind) → (joined (Some (k ∷ [])) o ≡ Some (k ∷ ks)) ↔ (o ≡ Some ks)
first-iff k (Some js) ks = (λ e. ap Some (tail-same k js ks (some-same (k ∷ js) (k ∷ ks) e)), λ e. ap (λ (is : Option (List Kind)). joined (Some (k ∷ [])) is) e)
first-iff k None ks = (λ e. absurd cc, λ e. absurd cc)

pub last-iff : (k : Kind) (o : Option (List Kind)) (ks : List Kind) → (joined o (Some (k ∷ [])) ≡ Some (ks ++ k ∷ [])) ↔ (o ≡ Some ks)
last-iff k (Some js) ks = (λ e. ap Some (append-same js ks k (some-same (js ++ k ∷ []) (ks ++ k ∷ []) e)), λ e. ap (λ (is : Option (List Kind)). joined is (Some (k ∷ []))) e)
last-iff k None ks = (λ e. absurd cc, λ e. absurd cc)

pub last-two : (o : Option (List Kind)) (ks : List Kind)
    → (joined o (Some (SignatureKind ∷ TypeKind ∷ [])) ≡ Some (ks ++ (SignatureKind ∷ TypeKind ∷ []))) ↔ (o ≡ Some ks)
last-two (Some js) ks = (
  λ e. ap Some (append-two js ks (some-same (js ++ (SignatureKind ∷ TypeKind ∷ [])) (ks ++ (SignatureKind ∷ TypeKind ∷ [])) e)),
  λ e. ap (λ (is : Option (List Kind)). joined is (Some (SignatureKind ∷ TypeKind ∷ []))) e,
)
last-two None ks = (λ e. absurd cc, λ e. absurd cc)

pub both : {P Q R : Type 0} → P ↔ Q → Q ↔ R → P ↔ R
both f g = (λ p. g.0 (f.0 p), λ r. f.1 (g.1 r))

pub back : {P Q : Type 0} → P ↔ Q → Q ↔ P
back f = (f.1, f.0)

-- What it is that the test of a kind comes to.
abbrev pub Tests : World → List Tree → Bool → TyKind → Type 0
Tests w ts b k = IsTrue b ↔ Takes w (kind_tree ts k)

-- What was read of the list of a number.
abbrev pub Reads : List Tree → List GenericArg → Args → Type 0
Reads ts xs a = ListFits ts xs × (list_forest ts xs ≡ args_forest ts a)

read-as : (ts : List Tree) (a : Args) (xs : List GenericArg) → IsArgs ts a → Reads ts xs a → IsRead ts a xs
read-as ts a xs i r = record { list = i; fits = r.0; tree = r.1 }

pub adt-tests : (w : World) (ts : List Tree) (b : Bool) (k : TyKind) (d : AdtId) (a : Args) (xs : List GenericArg) → k ≡ K.Adt d a → KindFits ts k
    → Reads ts xs a → IsTrue b ↔ (parameters w AdtSort d.0 ≡ Some (map arg_kind xs)) → Tests w ts b k
adt-tests w ts b k d a xs is f r e =
    let g = subst (KindFits ts) is f in
    let i : IsArgs ts a = cc in
    subst (Tests w ts b) (sym is)
    (takes-iff w (kind_tree ts (K.Adt d a)) (map arg_kind xs) (parameters w AdtSort d.0) b refl (read-alone ts a xs (read-as ts a xs i r)) refl e)

pub function-tests : (w : World) (ts : List Tree) (b : Bool) (k : TyKind) (d : FnId) (a : Args) (xs : List GenericArg) → k ≡ K.FnDef d a → KindFits ts k
    → Reads ts xs a → IsTrue b ↔ (parameters w FunctionSort d.0 ≡ Some (map arg_kind xs)) → Tests w ts b k
function-tests w ts b k d a xs is f r e =
    let g = subst (KindFits ts) is f in
    let i : IsArgs ts a = cc in
    subst (Tests w ts b) (sym is)
    (takes-iff w (kind_tree ts (K.FnDef d a)) (map arg_kind xs) (parameters w FunctionSort d.0) b refl (read-alone ts a xs (read-as ts a xs i r)) refl e)

pub alias-tests : (w : World) (ts : List Tree) (b : Bool) (k : TyKind) (a : AliasTy) (xs : List GenericArg) → k ≡ K.Alias a → KindFits ts k
    → Reads ts xs a.args → IsTrue b ↔ (alias_kinds w a.kind a.id.0 ≡ Some (map arg_kind xs)) → Tests w ts b k
alias-tests w ts b k a xs is f r e =
    let g = subst (KindFits ts) is f in
    let i : IsArgs ts a.args = cc in
    subst (Tests w ts b) (sym is)
    (takes-iff w (kind_tree ts (K.Alias a)) (map arg_kind xs) (alias_kinds w a.kind a.id.0) b refl (read-alone ts a.args xs (read-as ts a.args xs i r)) refl e)

pub closure-tests : (w : World) (ts : List Tree) (b : Bool) (k : TyKind) (d : ClosureId) (a : ClosureArgs) (xs : List GenericArg) → k ≡ K.Closure d a → KindFits ts k
    → Reads ts xs a.parent → IsTrue b ↔ (parameters w ClosureSort d.0 ≡ Some (map arg_kind xs)) → Tests w ts b k
closure-tests w ts b k d a xs is f r e =
    let g = subst (KindFits ts) is f in
    let i : IsArgs ts a.parent = cc in
    let s : kind_at ts a.sig.0 ≡ SignatureKind = cc in
    let u : kind_at ts a.upvars.0 ≡ TypeKind = cc in
    let last = row-kinds ts a.upvars.0 TypeKind none refl refl u in
    let two = row-kinds ts a.sig.0 SignatureKind (row (tree_at ts a.upvars.0) none) refl refl s ∙ ap (λ (ks : List Kind). SignatureKind ∷ ks) last in
    let all = read-kinds ts a.parent xs (row (tree_at ts a.sig.0) (row (tree_at ts a.upvars.0) none)) (read-as ts a.parent xs i r) ∙ ap (λ (ks : List Kind). map arg_kind xs ++ ks) two in
    subst (Tests w ts b) (sym is)
    (takes-iff w (kind_tree ts (K.Closure d a)) (map arg_kind xs ++ (SignatureKind ∷ TypeKind ∷ [])) (joined (parameters w ClosureSort d.0) (Some (SignatureKind ∷ TypeKind ∷ []))) b
    refl all refl (both e (back (last-two (parameters w ClosureSort d.0) (map arg_kind xs)))))

-- a tuple has types alone
types-only : (xs : List GenericArg) → (list_all is_type_arg xs ≡ true) ↔ (all_of TypeKind (map arg_kind xs) ≡ map arg_kind xs)
types-only [] = (λ _. refl, λ _. refl)
types-only (A.Ty t ∷ xs) = let more = types-only xs in
    (λ h. ap (λ (ks : List Kind). TypeKind ∷ ks) (more.0 h), λ h. more.1 (tail-same TypeKind _ _ h))
types-only (A.Const t ∷ xs) = (λ h. absurd cc, λ h. absurd cc)
types-only (A.Region t ∷ xs) = (λ h. absurd cc, λ h. absurd cc)

some-iff : (ks js : List Kind) → (Some ks ≡ Some js) ↔ (ks ≡ js)
some-iff ks js = (λ e. some-same ks js e, λ e. ap Some e)

by-all : (xs : List GenericArg) (b : Bool) → b ≡ list_all is_type_arg xs → IsTrue b ↔ (list_all is_type_arg xs ≡ true)
by-all xs b e = (λ h. sym e ∙ h, λ h. e ∙ h)

pub tuple-tests : (w : World) (ts : List Tree) (b : Bool) (k : TyKind) (a : Args) (xs : List GenericArg) → k ≡ K.Tuple a → KindFits ts k
    → Reads ts xs a → b ≡ list_all is_type_arg xs → Tests w ts b k
tuple-tests w ts b k a xs is f r e =
    let g = subst (KindFits ts) is f in
    let i : IsArgs ts a = cc in
    subst (Tests w ts b) (sym is)
    (takes-iff w (kind_tree ts (K.Tuple a)) (map arg_kind xs) (Some (all_of TypeKind (map arg_kind xs))) b refl (read-alone ts a xs (read-as ts a xs i r)) refl
    (both (by-all xs b e) (both (types-only xs) (back (some-iff (all_of TypeKind (map arg_kind xs)) (map arg_kind xs))))))

-- so have the inputs of a function pointer, before its output
inputs-only : (xs : List GenericArg)
    → (list_all is_type_arg xs ≡ true) ↔ (TypeKind ∷ all_of TypeKind (drop 1 (map arg_kind xs ++ TypeKind ∷ [])) ≡ map arg_kind xs ++ TypeKind ∷ [])
inputs-only [] = (λ _. refl, λ _. refl)
inputs-only (A.Ty t ∷ xs) =
    let more = types-only xs in
    let same = types-last (map arg_kind xs) in (
      λ h. ap (λ (ks : List Kind). TypeKind ∷ ks) (same ∙ ap (λ (ks : List Kind). ks ++ TypeKind ∷ []) (more.0 h)),
      λ h. more.1 (append-same (all_of TypeKind (map arg_kind xs)) (map arg_kind xs) TypeKind (sym same ∙ tail-same TypeKind _ _ h)),
    )
  where
    types-last : (ks : List Kind) → all_of TypeKind (ks ++ TypeKind ∷ []) ≡ all_of TypeKind ks ++ TypeKind ∷ []
    types-last [] = refl
    types-last (k ∷ ks) = ap (λ (js : List Kind). TypeKind ∷ js) (types-last ks)
inputs-only (A.Const t ∷ xs) = (λ h. absurd cc, λ h. absurd cc)
inputs-only (A.Region t ∷ xs) = (λ h. absurd cc, λ h. absurd cc)

second-same : (k : Kind) (ks js : List Kind) → (Some (k ∷ ks) ≡ Some (k ∷ js)) ↔ (ks ≡ js)
second-same k ks js = (λ e. tail-same k ks js (some-same (k ∷ ks) (k ∷ js) e), λ e. ap (λ (is : List Kind). Some (k ∷ is)) e)

pub pointer-tests : (w : World) (ts : List Tree) (b : Bool) (k : TyKind) (s : Binder FnSig) (xs : List GenericArg) → k ≡ K.FnPtr s → KindFits ts k
    → Reads ts xs s.value.inputs → b ≡ list_all is_type_arg xs → Tests w ts b k
pointer-tests w ts b k s xs is f r e =
    let g = subst (KindFits ts) is f in
    let v : kind_at ts s.vars.0 ≡ BinderKind = cc in
    let i : IsArgs ts s.value.inputs = cc in
    let o : kind_at ts s.value.output.0 ≡ TypeKind = cc in
    let last = row-kinds ts s.value.output.0 TypeKind none refl refl o in
    let two = read-kinds ts s.value.inputs xs (row (tree_at ts s.value.output.0) none) (read-as ts s.value.inputs xs i r) ∙ ap (λ (ks : List Kind). map arg_kind xs ++ ks) last in
    let all = row-kinds ts s.vars.0 BinderKind (row (tree_at ts s.value.inputs.0) (row (tree_at ts s.value.output.0) none)) refl refl v ∙ ap (λ (ks : List Kind). BinderKind ∷ ks) two in
    let ks = map arg_kind xs ++ TypeKind ∷ [] in
    subst (Tests w ts b) (sym is)
    (takes-iff w (kind_tree ts (K.FnPtr s)) (BinderKind ∷ ks) (Some (BinderKind ∷ (TypeKind ∷ all_of TypeKind (drop 1 ks)))) b refl all refl
    (both (by-all xs b e) (both (inputs-only xs) (back (second-same BinderKind (TypeKind ∷ all_of TypeKind (drop 1 ks)) ks)))))

pub foreign-tests : (w : World) (ts : List Tree) (b : Bool) (k : TyKind) (d : ForeignId) → k ≡ K.Foreign d
    → IsTrue b ↔ (parameters w ForeignSort d.0 ≡ Some []) → Tests w ts b k
foreign-tests w ts b k d is e =
    subst (Tests w ts b) (sym is) (takes-iff w (kind_tree ts (K.Foreign d)) [] (parameters w ForeignSort d.0) b refl refl refl e)

-- bounds, and a region after them
bounds-before : (ks : List Kind) → all_of PredicateKind ks ≡ ks → bounds_of (ks ++ RegionKind ∷ []) ≡ ks ++ RegionKind ∷ []
bounds-before [] e = refl
bounds-before (k ∷ []) e = let f : k ≡ PredicateKind = cc in ap (λ (j : Kind). j ∷ RegionKind ∷ []) (sym f)
bounds-before (k ∷ (j ∷ ks)) e =
    let f : k ≡ PredicateKind = cc in
    let g : all_of PredicateKind (j ∷ ks) ≡ j ∷ ks = cc in
    ap (λ (is : List Kind). PredicateKind ∷ is) (bounds-before (j ∷ ks) g) ∙ ap (λ (i : Kind). i ∷ ((j ∷ ks) ++ RegionKind ∷ [])) (sym f)

pub bounds-take : (w : World) (ts : List Tree) (k : TyKind) (p : Preds) (r : Region) → k ≡ K.Dynamic p r → KindFits ts k
    → kinds_of (preds_forest ts p) ≡ all_of PredicateKind (kinds_of (preds_forest ts p)) → Takes w (kind_tree ts k)
bounds-take w ts k p r is f e =
    let g = subst (KindFits ts) is f in
    let i : IsPreds ts p = cc in
    let o : kind_at ts r.0 ≡ RegionKind = cc in
    let last = row-kinds ts r.0 RegionKind none refl refl o in
    let all = ap kinds_of (row-list ts p.0 _ (row (tree_at ts r.0) none) refl refl i)
    ∙ (kinds-join (preds_forest ts p) (row (tree_at ts r.0) none) ∙ ap (λ (ks : List Kind). kinds_of (preds_forest ts p) ++ ks) last) in
    let ks = kinds_of (preds_forest ts p) ++ RegionKind ∷ [] in
    subst (λ (j : TyKind). Takes w (kind_tree ts j)) (sym is)
    (λ _. ap (λ (js : List Kind). Some (bounds_of js)) all ∙ (ap Some (bounds-before (kinds_of (preds_forest ts p)) (sym e)) ∙ ap Some (sym all)))

-- whether it depends on declarations, or on the members of a list, what the type takes
abbrev pub asks : TyKind → Bool
asks (K.Adt _ _) = true
asks (K.Foreign _) = true
asks (K.FnDef _ _) = true
asks (K.FnPtr _) = true
asks (K.Dynamic _ _) = true
asks (K.Closure _ _) = true
asks (K.Tuple _) = true
asks (K.Alias _) = true
asks _ = false

one-child : (ts : List Tree) (n : ℕ) (k : Kind) → there k ≡ true → is_list_kind k ≡ false → kind_at ts n ≡ k → kinds_of (row (tree_at ts n) none) ≡ k ∷ []
one-child ts n k h l e = row-kinds ts n k none h l e

two-children : (ts : List Tree) (m n : ℕ) (j k : Kind) → there j ≡ true → is_list_kind j ≡ false → kind_at ts m ≡ j → there k ≡ true → is_list_kind k ≡ false → kind_at ts n ≡ k
    → kinds_of (row (tree_at ts m) (row (tree_at ts n) none)) ≡ j ∷ k ∷ []
two-children ts m n j k g l d h i e = row-kinds ts m j (row (tree_at ts n) none) g l d ∙ ap (λ (ks : List Kind). j ∷ ks) (one-child ts n k h i e)

three-children : (ts : List Tree) (l m n : ℕ) (i j k : Kind) → there i ≡ true → is_list_kind i ≡ false → kind_at ts l ≡ i
    → there j ≡ true → is_list_kind j ≡ false → kind_at ts m ≡ j → there k ≡ true → is_list_kind k ≡ false → kind_at ts n ≡ k
    → kinds_of (row (tree_at ts l) (row (tree_at ts m) (row (tree_at ts n) none))) ≡ i ∷ j ∷ k ∷ []
three-children ts l m n i j k a b c d e f g h o =
    row-kinds ts l i (row (tree_at ts m) (row (tree_at ts n) none)) a b c ∙ ap (λ (ks : List Kind). i ∷ ks) (two-children ts m n j k d e f g h o)

pub plain-takes : (w : World) (ts : List Tree) (k : TyKind) → asks k ≡ false → KindFits ts k → Takes w (kind_tree ts k)
plain-takes w ts (K.Adt _ _) a f = absurd cc
plain-takes w ts (K.Foreign _) a f = absurd cc
plain-takes w ts (K.FnDef _ _) a f = absurd cc
plain-takes w ts (K.FnPtr _) a f = absurd cc
plain-takes w ts (K.Dynamic _ _) a f = absurd cc
plain-takes w ts (K.Closure _ _) a f = absurd cc
plain-takes w ts (K.Tuple _) a f = absurd cc
plain-takes w ts (K.Alias _) a f = absurd cc
plain-takes w ts (K.Array t n) a f =
    let i : kind_at ts t.0 ≡ TypeKind = cc in
    let j : kind_at ts n.0 ≡ ConstantKind = cc in
    λ _. ap Some (sym (two-children ts t.0 n.0 TypeKind ConstantKind refl refl i refl refl j))
plain-takes w ts (K.Slice t) a f = let i : kind_at ts t.0 ≡ TypeKind = cc in λ _. ap Some (sym (one-child ts t.0 TypeKind refl refl i))
plain-takes w ts (K.RawPtr t m) a f = let i : kind_at ts t.0 ≡ TypeKind = cc in λ _. ap Some (sym (one-child ts t.0 TypeKind refl refl i))
plain-takes w ts (K.Pat t Pat.NotNull) a f = let i : kind_at ts t.0 ≡ TypeKind = cc in λ _. ap Some (sym (one-child ts t.0 TypeKind refl refl i))
plain-takes w ts (K.Pat t (Pat.Range m n)) a f =
    let i : kind_at ts t.0 ≡ TypeKind = cc in
    let j : kind_at ts m.0 ≡ ConstantKind = cc in
    let k : kind_at ts n.0 ≡ ConstantKind = cc in
    λ _. ap Some (sym (three-children ts t.0 m.0 n.0 TypeKind ConstantKind ConstantKind refl refl i refl refl j refl refl k))
plain-takes w ts (K.Ref r t m) a f =
    let i : kind_at ts r.0 ≡ RegionKind = cc in
    let j : kind_at ts t.0 ≡ TypeKind = cc in
    λ _. ap Some (sym (two-children ts r.0 t.0 RegionKind TypeKind refl refl i refl refl j))
plain-takes w ts (K.UnsafeBinder b) a f =
    let i : kind_at ts b.vars.0 ≡ BinderKind = cc in
    let j : kind_at ts b.value.0 ≡ TypeKind = cc in
    λ _. ap Some (sym (two-children ts b.vars.0 b.value.0 BinderKind TypeKind refl refl i refl refl j))
plain-takes w ts _ a f = λ _. refl

pub surely : {P : Type 0} (b : Bool) → b ≡ true → P → IsTrue b ↔ P
surely b e p = (λ _. p, λ _. e)

-- the same of constants
pub unevaluated-tests : (w : World) (ts : List Tree) (b : Bool) (k : ConstKind) (d : AssocId) (a : Args) (xs : List GenericArg) → k ≡ CK.Unevaluated d a → ConstKindFits ts k
    → Reads ts xs a → IsTrue b ↔ (joined (Some (TypeKind ∷ [])) (parameters w AssociatedConstantSort d.0) ≡ Some (map arg_kind xs))
    → IsTrue b ↔ Takes w (const_kind_tree ts k)
unevaluated-tests w ts b k d a xs is f r e =
    let g = subst (ConstKindFits ts) is f in
    let i : IsArgs ts a = cc in
    subst (λ (j : ConstKind). IsTrue b ↔ Takes w (const_kind_tree ts j)) (sym is)
    (takes-iff w (const_kind_tree ts (CK.Unevaluated d a)) (map arg_kind xs) (joined (Some (TypeKind ∷ [])) (parameters w AssociatedConstantSort d.0)) b refl
    (read-alone ts a xs (read-as ts a xs i r)) refl e)

-- a binder, a list, and a type after them
binder-list : (ts : List Tree) (n : ℕ) (a : Args) (xs : List GenericArg) → kind_at ts n ≡ BinderKind → IsRead ts a xs
    → kinds_of (row (tree_at ts n) (row (tree_at ts a.0) none)) ≡ BinderKind ∷ map arg_kind xs
binder-list ts n a xs v r = row-kinds ts n BinderKind (row (tree_at ts a.0) none) refl refl v ∙ ap (λ (ks : List Kind). BinderKind ∷ ks) (read-alone ts a xs r)

binder-list-type : (ts : List Tree) (n : ℕ) (a : Args) (xs : List GenericArg) (m : ℕ) → kind_at ts n ≡ BinderKind → IsRead ts a xs → kind_at ts m ≡ TypeKind
    → kinds_of (row (tree_at ts n) (row (tree_at ts a.0) (row (tree_at ts m) none))) ≡ BinderKind ∷ (map arg_kind xs ++ TypeKind ∷ [])
binder-list-type ts n a xs m v r t =
    row-kinds ts n BinderKind (row (tree_at ts a.0) (row (tree_at ts m) none)) refl refl v
    ∙ ap (λ (ks : List Kind). BinderKind ∷ ks) (read-kinds ts a xs (row (tree_at ts m) none) r ∙ ap (λ (ks : List Kind). map arg_kind xs ++ ks) (one-child ts m TypeKind refl refl t))

-- the same of bounds
abbrev pub BoundTests : World → List Tree → Bool → Binder ExistentialPredicate → Type 0
BoundTests w ts b p = IsTrue b ↔ Takes w (pred_kind_tree ts p)

abbrev bound-of : Binder ExistentialPredicate → ExistentialPredicate → Binder ExistentialPredicate
bound-of p v = record { vars = p.vars; value = v }

bound-is : (P : Binder ExistentialPredicate → Type 0) (p : Binder ExistentialPredicate) (v : ExistentialPredicate) → p.value ≡ v → P (bound-of p v) → P p
bound-is P p v e h = subst (λ (x : ExistentialPredicate). P (bound-of p x)) (sym e) h

pub trait-bound-tests : (w : World) (ts : List Tree) (b : Bool) (p : Binder ExistentialPredicate) (t : ExistentialTraitRef) (xs : List GenericArg)
    → p.value ≡ E.Trait t → PredFits ts p → Reads ts xs t.args → IsTrue b ↔ (parameters w TraitSort t.def_id.0 ≡ Some (map arg_kind xs)) → BoundTests w ts b p
trait-bound-tests w ts b p t xs is f r e =
    let q = bound-of p (E.Trait t) in
    let g : PredFits ts q = subst (λ (x : ExistentialPredicate). PredFits ts (bound-of p x)) is f in
    let v : kind_at ts p.vars.0 ≡ BinderKind = cc in
    let i : IsArgs ts t.args = cc in
    bound-is (BoundTests w ts b) p (E.Trait t) is
    (takes-iff w (pred_kind_tree ts q) (BinderKind ∷ map arg_kind xs) (joined (Some (BinderKind ∷ [])) (parameters w TraitSort t.def_id.0)) b refl
    (binder-list ts p.vars.0 t.args xs v (read-as ts t.args xs i r)) refl
    (both e (back (first-iff BinderKind (parameters w TraitSort t.def_id.0) (map arg_kind xs)))))

pub projection-bound-tests : (w : World) (ts : List Tree) (b : Bool) (p : Binder ExistentialPredicate) (t : ExistentialProjection) (xs : List GenericArg)
    → p.value ≡ E.Projection t → PredFits ts p → Reads ts xs t.args → IsTrue b ↔ (parameters w AssociatedTypeSort t.def_id.0 ≡ Some (map arg_kind xs)) → BoundTests w ts b p
projection-bound-tests w ts b p t xs is f r e =
    let q = bound-of p (E.Projection t) in
    let g : PredFits ts q = subst (λ (x : ExistentialPredicate). PredFits ts (bound-of p x)) is f in
    let v : kind_at ts p.vars.0 ≡ BinderKind = cc in
    let i : IsArgs ts t.args = cc in
    let o : kind_at ts t.term.0 ≡ TypeKind = cc in
    let ks = map arg_kind xs ++ TypeKind ∷ [] in
    let ps = parameters w AssociatedTypeSort t.def_id.0 in
    bound-is (BoundTests w ts b) p (E.Projection t) is
    (takes-iff w (pred_kind_tree ts q) (BinderKind ∷ ks) (joined (Some (BinderKind ∷ [])) (joined ps (Some (TypeKind ∷ [])))) b refl
    (binder-list-type ts p.vars.0 t.args xs t.term.0 v (read-as ts t.args xs i r) o) refl
    (both e (both (back (last-iff TypeKind ps (map arg_kind xs))) (back (first-iff BinderKind (joined ps (Some (TypeKind ∷ []))) ks)))))

pub auto-bound-tests : (w : World) (ts : List Tree) (b : Bool) (p : Binder ExistentialPredicate) (t : TraitId)
    → p.value ≡ E.AutoTrait t → PredFits ts p → IsTrue b ↔ (parameters w TraitSort t.0 ≡ Some []) → BoundTests w ts b p
auto-bound-tests w ts b p t is f e =
    let q = bound-of p (E.AutoTrait t) in
    let g : PredFits ts q = subst (λ (x : ExistentialPredicate). PredFits ts (bound-of p x)) is f in
    let v : kind_at ts p.vars.0 ≡ BinderKind = cc in
    bound-is (BoundTests w ts b) p (E.AutoTrait t) is
    (takes-iff w (pred_kind_tree ts q) (BinderKind ∷ []) (joined (Some (BinderKind ∷ [])) (parameters w TraitSort t.0)) b refl
    (one-child ts p.vars.0 BinderKind refl refl v) refl
    (both e (back (first-iff BinderKind (parameters w TraitSort t.0) []))))

-- and of clauses
abbrev pub ClauseTests : World → List Tree → Bool → Binder ClauseKind → Type 0
ClauseTests w ts b p = IsTrue b ↔ Takes w (clause_kind_tree ts p)

abbrev clause-of : Binder ClauseKind → ClauseKind → Binder ClauseKind
clause-of p v = record { vars = p.vars; value = v }

clause-is : (P : Binder ClauseKind → Type 0) (p : Binder ClauseKind) (v : ClauseKind) → p.value ≡ v → P (clause-of p v) → P p
clause-is P p v e h = subst (λ (x : ClauseKind). P (clause-of p x)) (sym e) h

pub trait-clause-tests : (w : World) (ts : List Tree) (b : Bool) (p : Binder ClauseKind) (t : TraitPredicate) (xs : List GenericArg)
    → p.value ≡ Cl.Trait t → ClauseFits ts p → Reads ts xs t.trait_ref.args
    → IsTrue b ↔ (joined (Some (TypeKind ∷ [])) (parameters w TraitSort t.trait_ref.def_id.0) ≡ Some (map arg_kind xs)) → ClauseTests w ts b p
trait-clause-tests w ts b p t xs is f r e =
    let q = clause-of p (Cl.Trait t) in
    let g : ClauseFits ts q = subst (λ (x : ClauseKind). ClauseFits ts (clause-of p x)) is f in
    let v : kind_at ts p.vars.0 ≡ BinderKind = cc in
    let i : IsArgs ts t.trait_ref.args = cc in
    let ps = joined (Some (TypeKind ∷ [])) (parameters w TraitSort t.trait_ref.def_id.0) in
    clause-is (ClauseTests w ts b) p (Cl.Trait t) is
    (takes-iff w (clause_kind_tree ts q) (BinderKind ∷ map arg_kind xs) (joined (Some (BinderKind ∷ [])) ps) b refl
    (binder-list ts p.vars.0 t.trait_ref.args xs v (read-as ts t.trait_ref.args xs i r)) refl
    (both e (back (first-iff BinderKind ps (map arg_kind xs)))))

pub projection-clause-tests : (w : World) (ts : List Tree) (b : Bool) (p : Binder ClauseKind) (t : ProjectionPredicate) (xs : List GenericArg)
    → p.value ≡ Cl.Projection t → ClauseFits ts p → Reads ts xs t.projection_term.args
    → IsTrue b ↔ (joined (Some (TypeKind ∷ [])) (parameters w AssociatedTypeSort t.projection_term.def_id.0) ≡ Some (map arg_kind xs)) → ClauseTests w ts b p
projection-clause-tests w ts b p t xs is f r e =
    let q = clause-of p (Cl.Projection t) in
    let g : ClauseFits ts q = subst (λ (x : ClauseKind). ClauseFits ts (clause-of p x)) is f in
    let v : kind_at ts p.vars.0 ≡ BinderKind = cc in
    let i : IsArgs ts t.projection_term.args = cc in
    let o : kind_at ts t.term.0 ≡ TypeKind = cc in
    let ks = map arg_kind xs ++ TypeKind ∷ [] in
    let ps = joined (Some (TypeKind ∷ [])) (parameters w AssociatedTypeSort t.projection_term.def_id.0) in
    clause-is (ClauseTests w ts b) p (Cl.Projection t) is
    (takes-iff w (clause_kind_tree ts q) (BinderKind ∷ ks) (joined (Some (BinderKind ∷ [])) (joined ps (Some (TypeKind ∷ [])))) b refl
    (binder-list-type ts p.vars.0 t.projection_term.args xs t.term.0 v (read-as ts t.projection_term.args xs i r) o) refl
    (both e (both (back (last-iff TypeKind ps (map arg_kind xs))) (back (first-iff BinderKind (joined ps (Some (TypeKind ∷ []))) ks)))))

-- that something outlives a region takes what it says
outlives-take : (w : World) (ts : List Tree) (p : Binder ClauseKind) (t : Ty) (r : Region) → p.value ≡ Cl.TypeOutlives t r → ClauseFits ts p → Takes w (clause_kind_tree ts p)
outlives-take w ts p t r is f =
    let q = clause-of p (Cl.TypeOutlives t r) in
    let g : ClauseFits ts q = subst (λ (x : ClauseKind). ClauseFits ts (clause-of p x)) is f in
    let v : kind_at ts p.vars.0 ≡ BinderKind = cc in
    let i : kind_at ts t.0 ≡ TypeKind = cc in
    let o : kind_at ts r.0 ≡ RegionKind = cc in
    clause-is (λ x. Takes w (clause_kind_tree ts x)) p (Cl.TypeOutlives t r) is
    (λ _. ap Some (sym (three-children ts p.vars.0 t.0 r.0 BinderKind TypeKind RegionKind refl refl v refl refl i refl refl o)))

region-outlives-take : (w : World) (ts : List Tree) (p : Binder ClauseKind) (s r : Region) → p.value ≡ Cl.RegionOutlives s r → ClauseFits ts p → Takes w (clause_kind_tree ts p)
region-outlives-take w ts p s r is f =
    let q = clause-of p (Cl.RegionOutlives s r) in
    let g : ClauseFits ts q = subst (λ (x : ClauseKind). ClauseFits ts (clause-of p x)) is f in
    let v : kind_at ts p.vars.0 ≡ BinderKind = cc in
    let i : kind_at ts s.0 ≡ RegionKind = cc in
    let o : kind_at ts r.0 ≡ RegionKind = cc in
    clause-is (λ x. Takes w (clause_kind_tree ts x)) p (Cl.RegionOutlives s r) is
    (λ _. ap Some (sym (three-children ts p.vars.0 s.0 r.0 BinderKind RegionKind RegionKind refl refl v refl refl i refl refl o)))

-- and that two are one
pub relate-takes : (w : World) (ts : List Tree) (p : Binder ClauseKind) (s r : Ty) → p.value ≡ Cl.AliasRelate s r → ClauseFits ts p → Takes w (clause_kind_tree ts p)
relate-takes w ts p s r is f =
    let q = clause-of p (Cl.AliasRelate s r) in
    let g : ClauseFits ts q = subst (λ (x : ClauseKind). ClauseFits ts (clause-of p x)) is f in
    let v : kind_at ts p.vars.0 ≡ BinderKind = cc in
    let i : kind_at ts s.0 ≡ TypeKind = cc in
    let o : kind_at ts r.0 ≡ TypeKind = cc in
    clause-is (λ x. Takes w (clause_kind_tree ts x)) p (Cl.AliasRelate s r) is
    (λ _. ap Some (sym (three-children ts p.vars.0 s.0 r.0 BinderKind TypeKind TypeKind refl refl v refl refl i refl refl o)))

pub equate-takes : (w : World) (ts : List Tree) (p : Binder ClauseKind) (s r : Const) → p.value ≡ Cl.ConstEquate s r → ClauseFits ts p → Takes w (clause_kind_tree ts p)
equate-takes w ts p s r is f =
    let q = clause-of p (Cl.ConstEquate s r) in
    let g : ClauseFits ts q = subst (λ (x : ClauseKind). ClauseFits ts (clause-of p x)) is f in
    let v : kind_at ts p.vars.0 ≡ BinderKind = cc in
    let i : kind_at ts s.0 ≡ ConstantKind = cc in
    let o : kind_at ts r.0 ≡ ConstantKind = cc in
    clause-is (λ x. Takes w (clause_kind_tree ts x)) p (Cl.ConstEquate s r) is
    (λ _. ap Some (sym (three-children ts p.vars.0 s.0 r.0 BinderKind ConstantKind ConstantKind refl refl v refl refl i refl refl o)))

-- all that is not asked of constants
pub plain-constant-takes : (w : World) (ts : List Tree) (k : ConstKind) → ((d : AssocId) (a : Args) → k ≡ CK.Unevaluated d a → ⊥) → Takes w (const_kind_tree ts k)
plain-constant-takes w ts (CK.Unevaluated d a) n = absurd (n d a refl)
plain-constant-takes w ts _ n = λ _. refl

-- the members of a list of bounds are bounds
bound-kinds : (ts : List Tree) (xs : List Pred) → PredListFits ts xs → kinds_of (pred_list_forest ts xs) ≡ all_of PredicateKind (kinds_of (pred_list_forest ts xs))
bound-kinds ts [] e = refl
bound-kinds ts (x ∷ xs) e =
    let i : kind_at ts x.0 ≡ PredicateKind = cc in
    let f : PredListFits ts xs = cc in
    let here = row-kinds ts x.0 PredicateKind (pred_list_forest ts xs) refl refl i in
    here ∙ (ap (λ (ks : List Kind). PredicateKind ∷ ks) (bound-kinds ts xs f) ∙ ap (all_of PredicateKind) (sym here))

pub list-of-bounds : (ts : List Tree) (p : Preds) (xs : List Pred) → PredListFits ts xs → pred_list_forest ts xs ≡ preds_forest ts p
    → kinds_of (preds_forest ts p) ≡ all_of PredicateKind (kinds_of (preds_forest ts p))
list-of-bounds ts p xs f e = subst (λ (x : Forest). kinds_of x ≡ all_of PredicateKind (kinds_of x)) e (bound-kinds ts xs f)

pub either-outlives : (w : World) (ts : List Tree) (p : Binder ClauseKind)
    → ((t : Ty) × (r : Region) × (p.value ≡ Cl.TypeOutlives t r)) ⊎ ((s : Region) × (r : Region) × (p.value ≡ Cl.RegionOutlives s r))
    → ClauseFits ts p → Takes w (clause_kind_tree ts p)
either-outlives w ts p (inl (t, r, is)) f = outlives-take w ts p t r is f
either-outlives w ts p (inr (s, r, is)) f = region-outlives-take w ts p s r is f

-- a reference whose arguments were read
pub reference-tests : (old v : Context) (ds : List Declaration) (r : TraitRef) (xs : List GenericArg) (b : Bool) → v ≡ old → ds ≡ v.declarations → Reads v.trees xs r.args
    → IsTrue b ↔ (joined (Some (TypeKind ∷ [])) (parameters (world_of ds) TraitSort r.def_id.0) ≡ Some (map arg_kind xs)) → IsTrue b ↔ ArgumentsFit old r
reference-tests old v ds r xs b same there read e =
    let ks = ap kinds_of (sym read.1) ∙ (list-kinds v.trees xs read.0 ∙ arg-kinds xs) in
    let f = subst (λ (es : List Declaration). IsTrue b ↔ (joined (Some (TypeKind ∷ [])) (parameters (world_of es) TraitSort r.def_id.0) ≡ Some (map arg_kind xs))) there e in
    subst (λ (c : Context). IsTrue b ↔ ArgumentsFit c r) same (λ h. f.0 h ∙ ap Some (sym ks), λ h. f.1 (h ∙ ap Some ks))

-- bounds that were asked one after the other
pub one-more-takes : (w : World) (ts : List Tree) (bs : List (Binder ExistentialPredicate)) (n : ℕ) (d : Binder ExistentialPredicate)
    → ((k : ℕ) → k < n → Takes w (pred_kind_tree ts (get_or bs k d))) → Takes w (pred_kind_tree ts (get_or bs n d))
    → (k : ℕ) → k < n + 1 → Takes w (pred_kind_tree ts (get_or bs k d))
one-more-takes w ts bs n d f e k b = at (eq-or-lt_of_le (omega (arith, b)))
  where
    at : (k ≡ n) ⊎ (k < n) → Takes w (pred_kind_tree ts (get_or bs k d))
    at (inl q) = subst (λ (m : ℕ). Takes w (pred_kind_tree ts (get_or bs m d))) (sym q) e
    at (inr h) = f k h

bounds-all : (w : World) (ts : List Tree) (bs : List (Binder ExistentialPredicate)) (d : Binder ExistentialPredicate)
    → ((k : ℕ) → k < length bs → Takes w (pred_kind_tree ts (get_or bs k d))) → AllTake w (map (pred_kind_tree ts) bs)
bounds-all w ts [] d f = tt
bounds-all w ts (b ∷ bs) d f = (f 0 (omega arith), bounds-all w ts bs d (λ k h. f (suc k) (omega (arith, h))))

pub all-take : (w : World) (ts : List Tree) (bs : List (Binder ExistentialPredicate)) (n : ℕ) (d : Binder ExistentialPredicate) → length bs ≤ n
    → ((k : ℕ) → k < n → Takes w (pred_kind_tree ts (get_or bs k d))) → IsTrue true ↔ AllTake w (map (pred_kind_tree ts) bs)
all-take w ts bs n d l f = (λ _. bounds-all w ts bs d (λ k h. f k (omega (arith, h, l))), λ _. refl)

pub one-takes-not : (w : World) (ts : List Tree) (bs : List (Binder ExistentialPredicate)) (n : ℕ) (d : Binder ExistentialPredicate) (b : Bool) → n < length bs
    → BoundTests w ts b (get_or bs n d) → b ≡ false → IsTrue false ↔ AllTake w (map (pred_kind_tree ts) bs)
one-takes-not w ts bs n d b h r e = (λ t. absurd cc, λ a. absurd (let t : IsTrue b = r.1 (take-at w (pred_kind_tree ts) bs n d a h) in cc))

-- bounds that were made are bounds
pub bounds-made : (ts : List Tree) (bs : List (Binder ExistentialPredicate)) → kinds_of (bounds_forest ts bs) ≡ all_of PredicateKind (kinds_of (bounds_forest ts bs))
bounds-made ts [] = refl
bounds-made ts (b ∷ bs) = ap (λ (ks : List Kind). PredicateKind ∷ ks) (bounds-made ts bs)

-- so a `dyn` type of them takes them
pub made-bounds-take : (w : World) (old new : Context) (ts : List Tree) (bs : List (Binder ExistentialPredicate)) (p : Preds) (r : Region)
    → Grows old new → IsPreds old.trees p → preds_forest old.trees p ≡ bounds_forest ts bs → KindFits new.trees (K.Dynamic p r)
    → Takes w (kind_tree new.trees (K.Dynamic p r))
made-bounds-take w old new ts bs p r g i e f =
    bounds-take w new.trees (K.Dynamic p r) p r refl f
    (subst (λ (x : Forest). kinds_of x ≡ all_of PredicateKind (kinds_of x)) (sym ((preds-kept old new p g i).1 ∙ e)) (bounds-made ts bs))
