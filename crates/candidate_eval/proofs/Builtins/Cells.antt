-- The cells of the table, over the trees of kinds.
use Rattle.std.proofs.Common.{◌≡◌, ◌↔◌, IsTrue, not, ℕ, List, [], ◌∷◌, ◌++◌, Bool, true, false, Some, refl, sym, ◌∙◌, ap, subst}
use Rattle.std.specs.Prelude.{if◌then◌else◌}
use Rattle.ir_trees.specs.declared.ir.heads.Head.TheVariants as H
use Rattle.ir_trees.specs.declared.ir.kinds.TyKind.{TyKind}
use Rattle.ir_trees.specs.declared.ir.kinds.TyKind.TheVariants as K
use Rattle.ir_trees.specs.declared.ir.kinds.Pattern.{Pattern}
use Rattle.ir_trees.specs.declared.ir.kinds.Pattern.TheVariants as Pat
use Rattle.ir_trees.specs.declared.ir.kinds.Ty.{Ty}
use Rattle.ir_trees.specs.declared.ir.kinds.ClosureId.{ClosureId}
use Rattle.ir_trees.specs.declared.ir.kinds.ClosureArgs.{ClosureArgs}
use Rattle.ir_trees.specs.declared.ir.kinds.InferTy.TheVariants as I
use Rattle.ir_trees.specs.declared.ir.kinds.AliasKind.{AliasKind}
use Rattle.ir_trees.specs.declared.ir.kinds.AliasKind.TheVariants as AK
use Rattle.ir_trees.specs.declared.ir.kinds.AliasTy.{AliasTy}
use Rattle.ir_trees.specs.declared.ir.kinds.AdtId.{AdtId}
use Rattle.ir_trees.specs.declared.ir.kinds.Args.{Args}
use Rattle.ir_trees.specs.declared.decl.contents.Sizedness.TheVariants as S
use Rattle.ir_trees.specs.Syntax.Trees.{Kind, TypeKind, ConstantKind, RegionKind, BinderKind, SignatureKind, ArgumentsKind, Forest, none, tree, Tree, kind_of, is_type_kind, is_list_kind, row, join}
use Rattle.ir_trees.specs.Syntax.Nodes.{tree_at, kind_at}
use Rattle.ir_trees.specs.Declarations.Context.{Context, Grows, world}
use Rattle.ir_trees.specs.declared.ir.stop.Stop.{Stop}
use Rattle.ir_trees.specs.Hierarchy.Elaboration.{first_children}
use Rattle.ir_trees.specs.Declarations.Lookups.{adt_flags, definition}
use Rattle.ir_trees.specs.Declarations.References.{Takes, IsWellFormed}
use Rattle.ir_trees.specs.Syntax.Words.{IsTy, KindFits, IsArgs, ty_tree, kind_tree, args_forest}
use Rattle.ir_trees.specs.Declarations.Worlds.{AdtSort, OpaqueSort, Fits, alias_kinds, child_kinds, parameters, kinds_of}
use Rattle.ir_trees.proofs.Syntax.Lists.{below_kind}
use Rattle.ir_trees.specs.Syntax.Trees.{there}
use Rattle.ir_trees.proofs.Growth.Kept.{number-kept}
use Rattle.ir_trees.proofs.Kinding.References.{fit-at}
use Rattle.ir_trees.proofs.Syntax.Rows.{join-none, kind-of, row-single, row-list}
use Rattle.candidate_eval.specs.declared.structural.asked.Asked.{Asked}
use Rattle.candidate_eval.specs.declared.structural.asked.Asked.TheVariants as A
use Rattle.candidate_eval.specs.declared.structural.Under.{Under}
use Rattle.candidate_eval.specs.declared.structural.Column.{Column}
use Rattle.candidate_eval.specs.declared.structural.Column.TheVariants as C
use Rattle.candidate_eval.specs.Builtins.Tables.{Cell, Excluded, Refused, Asks, IsTypesStop, IsCellStop, always, asks, cell, cells, under, types_of, last_of, first_of, last_type, is_phantom, is_manually_drop, is_excluded, field_types, constraint_types, hidden_types, alias_row, row_of}
use Rattle.candidate_eval.specs.Builtins.Tables as tables
use Rattle.candidate_eval.specs.Builtins.Asked.{asked_types, asked_variables, asked_cell, is_refused, under_of, variables, IsUnder, AskedFits, alias_asked, asked_for, known}

-- The types among the children of a kind.

types-if : (t : Tree) (f : Forest) (b : Bool) → is_type_kind (kind_of t.head) ≡ b → types_of (tree t.head t.children f) ≡ (if b then t ∷ types_of f else types_of f)
types-if t f b e = ap (λ (x : Bool). if x then t ∷ types_of f else types_of f) e

pub one-more : (ts : List Tree) (n : ℕ) (f : Forest) → kind_at ts n ≡ TypeKind → types_of (row (tree_at ts n) f) ≡ tree_at ts n ∷ types_of f
one-more ts n f e = ap types_of (row-single ts n TypeKind f refl refl e) ∙ types-if (tree_at ts n) f true (ap is_type_kind (kind-of ts n TypeKind refl e))

pub no-more : (ts : List Tree) (n : ℕ) (k : Kind) (f : Forest) → there k ≡ true → is_list_kind k ≡ false → is_type_kind k ≡ false → kind_at ts n ≡ k → types_of (row (tree_at ts n) f) ≡ types_of f
no-more ts n k f h l i e = ap types_of (row-single ts n k f h l e) ∙ types-if (tree_at ts n) f false (ap is_type_kind (kind-of ts n k h e) ∙ i)

below-list : (ts : List Tree) (a : Args) → IsArgs ts a → row (tree_at ts a.0) none ≡ args_forest ts a
below-list ts a i = row-list ts a.0 ArgumentsKind none refl refl i ∙ join-none (args_forest ts a)

types-if-join : (b : Bool) (t : Tree) (xs ys : List Tree) → (if b then t ∷ (xs ++ ys) else xs ++ ys) ≡ (if b then t ∷ xs else xs) ++ ys
types-if-join true t xs ys = refl
types-if-join false t xs ys = refl

types-join : (a b : Forest) → types_of (join a b) ≡ types_of a ++ types_of b
types-join none b = refl
types-join (tree h below rest) b =
    let t : Tree = record { head = h; children = below } in
    ap (λ (xs : List Tree). if is_type_kind (kind_of h) then t ∷ xs else xs) (types-join rest b) ∙ types-if-join (is_type_kind (kind_of h)) t (types_of rest) (types_of b)

pub last_pushed : {X : Type 0} (xs : List X) (x : X) → last_of (xs ++ x ∷ []) ≡ x ∷ []
last_pushed [] x = refl
last_pushed (y ∷ []) x = refl
last_pushed (y ∷ (z ∷ zs)) x = last_pushed (z ∷ zs) x

closure-last : (ts : List Tree) (p s u : ℕ) → kind_at ts p ≡ ArgumentsKind → kind_at ts s ≡ SignatureKind → kind_at ts u ≡ TypeKind
    → last_type (row (tree_at ts p) (row (tree_at ts s) (row (tree_at ts u) none))) ≡ tree_at ts u ∷ []
closure-last ts p s u e f g =
    let below = (tree_at ts p).children in
    let own : types_of (row (tree_at ts s) (row (tree_at ts u) none)) ≡ tree_at ts u ∷ [] = no-more ts s SignatureKind _ refl refl refl f ∙ one-more ts u none g in
    ap last_type (row-list ts p ArgumentsKind _ refl refl e)
    ∙ (ap last_of (types-join below (row (tree_at ts s) (row (tree_at ts u) none)) ∙ ap (λ (xs : List Tree). types_of below ++ xs) own) ∙ last_pushed (types_of below) (tree_at ts u))

binder-cell : (ts : List Tree) (v t : ℕ) → kind_at ts v ≡ BinderKind → kind_at ts t ≡ TypeKind
    → Asks (record { variables = (tree_at ts v).children; types = tree_at ts t ∷ [] }) ≡ under (row (tree_at ts v) (row (tree_at ts t) none))
binder-cell ts v t e f =
    let r = row-single ts v BinderKind (row (tree_at ts t) none) refl refl e in
    let types = no-more ts v BinderKind (row (tree_at ts t) none) refl refl refl e ∙ one-more ts t none f in
    λ i. Asks (record { variables = first_children (sym r i); types = sym types i })

pattern-types : (ts : List Tree) (t : Ty) (p : Pattern) → KindFits ts (K.Pat t p) → types_of (kind_tree ts (K.Pat t p)).children ≡ tree_at ts t.0 ∷ []
pattern-types ts t Pat.NotNull f = let e : kind_at ts t.0 ≡ TypeKind = cc in one-more ts t.0 none e
pattern-types ts t (Pat.Range from to) f =
    let e : kind_at ts t.0 ≡ TypeKind = cc in
    let g : kind_at ts from.0 ≡ ConstantKind = cc in
    let h : kind_at ts to.0 ≡ ConstantKind = cc in
    one-more ts t.0 _ e
    ∙ ap (λ (xs : List Tree). tree_at ts t.0 ∷ xs) (no-more ts from.0 ConstantKind _ refl refl refl g ∙ no-more ts to.0 ConstantKind none refl refl refl h)

closure-types : (ts : List Tree) (i : ClosureId) (a : ClosureArgs) → KindFits ts (K.Closure i a) → last_type (kind_tree ts (K.Closure i a)).children ≡ tree_at ts a.upvars.0 ∷ []
closure-types ts i a f =
    let e : kind_at ts a.parent.0 ≡ ArgumentsKind = cc in
    let g : kind_at ts a.sig.0 ≡ SignatureKind = cc in
    let h : kind_at ts a.upvars.0 ≡ TypeKind = cc in
    closure-last ts a.parent.0 a.sig.0 a.upvars.0 e g h

-- A cell that asks about one type, about a list of them, or about one under a binder

one-cell : (c : Context) (t : Ty) (ts : List Tree) → ts ≡ ty_tree c.trees t ∷ [] → asked_cell c (A.Type t) ≡ asks ts
one-cell c t ts e = sym (ap asks e)

members-cell : (c : Context) (a : Args) → IsArgs c.trees a → asked_cell c (A.Members a) ≡ asks (types_of (row (tree_at c.trees a.0) none))
members-cell c a e = sym (ap (λ (y : Forest). asks (types_of y)) (below-list c.trees a e))

array-types : (ts : List Tree) (t : Ty) (n : ℕ) → IsTy ts t → kind_at ts n ≡ ConstantKind → types_of (row (tree_at ts t.0) (row (tree_at ts n) none)) ≡ ty_tree ts t ∷ []
array-types ts t n e g = one-more ts t.0 _ e ∙ ap (λ (xs : List Tree). tree_at ts t.0 ∷ xs) (no-more ts n ConstantKind none refl refl refl g)

owned-cell : (c : Context) (i : AdtId) (a : Args) (b : Bool) (f : Forest) → f ≡ args_forest c.trees a
    → asked_cell c (if b then A.FirstArgument a else A.Fields i a) ≡ asks (if b then first_of f else field_types c i.0 f)
owned-cell c i a true f e = ap (λ (x : Forest). asks (first_of x)) (sym e)
owned-cell c i a false f e = ap (λ (x : Forest). asks (field_types c i.0 x)) (sym e)

dropped-cell : (c : Context) (i : AdtId) (a : Args) (b : Bool) (f : Forest) → f ≡ args_forest c.trees a
    → asked_cell c (if b then A.Nothing else A.Fields i a) ≡ asks (if b then [] else field_types c i.0 f)
dropped-cell c i a true f e = refl
dropped-cell c i a false f e = ap (λ (x : Forest). asks (field_types c i.0 x)) (sym e)

adt-cell : (c : Context) (o : Column) (i : AdtId) (a : Args) (f : Forest) → f ≡ args_forest c.trees a → asked_cell c (asked_for c o (K.Adt i a)) ≡ cell o (tables.row c (H.Adt i) f)
adt-cell c C.Auto i a f e = owned-cell c i a (is_phantom (adt_flags (definition c i.0))) f e
adt-cell c (C.Sizedness s) i a f e = sym (ap (λ (y : Forest). asks (constraint_types c i.0 y s)) e)
adt-cell c C.CopyClone i a f e = refl
adt-cell c C.Destruct i a f e = dropped-cell c i a (is_manually_drop (adt_flags (definition c i.0))) f e

alias-cell : (c : Context) (o : Column) (a : AliasTy) (k : AliasKind) → a.kind ≡ k → (f : Forest) → f ≡ args_forest c.trees a.args → is_excluded (cell o (alias_row c k a.id.0 f)) ≡ false
    → asked_cell c (asked_for c o (K.Alias a)) ≡ cell o (alias_row c k a.id.0 f)
alias-cell c C.Auto a AK.Opaque q f e x = ap (λ (k : AliasKind). asked_cell c (alias_asked k a)) q ∙ ap (λ (y : Forest). asks (hidden_types c a.id.0 y)) (sym e)
alias-cell c C.Auto a AK.Projection q f e x = absurd cc
alias-cell c C.Auto a AK.Inherent q f e x = absurd cc
alias-cell c C.Auto a AK.Free q f e x = absurd cc
alias-cell c _ a AK.Opaque q f e x = refl
alias-cell c _ a _ q f e x = refl

excluded : (o : Column) → is_excluded (cell o (cells Excluded (always Excluded) Excluded Excluded)) ≡ false → ⊥
excluded C.Auto x = absurd cc
excluded (C.Sizedness s) x = absurd cc
excluded C.CopyClone x = absurd cc
excluded C.Destruct x = absurd cc

-- The cell of a kind, in each column

pub kind_cell : (c : Context) (o : Column) (k : TyKind) → KindFits c.trees k → is_excluded (cell o (row_of c (kind_tree c.trees k))) ≡ false
    → asked_cell c (asked_for c o k) ≡ cell o (row_of c (kind_tree c.trees k))
kind_cell c o (K.Adt i a) f x = let e : IsArgs c.trees a = cc in adt-cell c o i a _ (below-list c.trees a e)
kind_cell c o (K.Alias a) f x = let e : IsArgs c.trees a.args = cc in alias-cell c o a a.kind refl _ (below-list c.trees a.args e) x
kind_cell c C.Auto (K.Array t n) f x =
    let e : kind_at c.trees t.0 ≡ TypeKind = cc in
    let g : kind_at c.trees n.0 ≡ ConstantKind = cc in
    one-cell c t _ (array-types c.trees t n.0 e g)
kind_cell c C.Destruct (K.Array t n) f x =
    let e : kind_at c.trees t.0 ≡ TypeKind = cc in
    let g : kind_at c.trees n.0 ≡ ConstantKind = cc in
    one-cell c t _ (array-types c.trees t n.0 e g)
kind_cell c (C.Sizedness S.Sized) (K.Slice t) f x = refl
kind_cell c (C.Sizedness S.MetaSized) (K.Slice t) f x = refl
kind_cell c C.CopyClone (K.Slice t) f x = refl
kind_cell c _ (K.Slice t) f x = let e : kind_at c.trees t.0 ≡ TypeKind = cc in one-cell c t _ (one-more c.trees t.0 none e)
kind_cell c (C.Sizedness s) (K.Pat t Pat.NotNull) f x = refl
kind_cell c _ (K.Pat t Pat.NotNull) f x = one-cell c t _ (pattern-types c.trees t Pat.NotNull f)
kind_cell c (C.Sizedness s) (K.Pat t (Pat.Range from to)) f x = refl
kind_cell c _ (K.Pat t (Pat.Range from to)) f x = one-cell c t _ (pattern-types c.trees t (Pat.Range from to) f)
kind_cell c C.Auto (K.RawPtr t m) f x = let e : kind_at c.trees t.0 ≡ TypeKind = cc in one-cell c t _ (one-more c.trees t.0 none e)
kind_cell c C.Auto (K.Ref r t m) f x =
    let e : kind_at c.trees r.0 ≡ RegionKind = cc in
    let g : kind_at c.trees t.0 ≡ TypeKind = cc in
    one-cell c t _ (no-more c.trees r.0 RegionKind _ refl refl refl e ∙ one-more c.trees t.0 none g)
kind_cell c C.Auto (K.UnsafeBinder b) f x =
    let e : kind_at c.trees b.vars.0 ≡ BinderKind = cc in
    let g : kind_at c.trees b.value.0 ≡ TypeKind = cc in
    binder-cell c.trees b.vars.0 b.value.0 e g
kind_cell c (C.Sizedness s) (K.UnsafeBinder b) f x =
    let e : kind_at c.trees b.vars.0 ≡ BinderKind = cc in
    let g : kind_at c.trees b.value.0 ≡ TypeKind = cc in
    binder-cell c.trees b.vars.0 b.value.0 e g
kind_cell c (C.Sizedness s) (K.Closure i a) f x = refl
kind_cell c _ (K.Closure i a) f x = one-cell c a.upvars _ (closure-types c.trees i a f)
kind_cell c (C.Sizedness s) (K.Tuple a) f x = let e : IsArgs c.trees a = cc in sym (ap (λ (y : Forest). asks (last_type y)) (below-list c.trees a e))
kind_cell c _ (K.Tuple a) f x = let e : IsArgs c.trees a = cc in members-cell c a e
kind_cell c (C.Sizedness S.Sized) K.Str f x = refl
kind_cell c (C.Sizedness S.MetaSized) K.Str f x = refl
kind_cell c (C.Sizedness S.Sized) (K.Dynamic p r) f x = refl
kind_cell c (C.Sizedness S.MetaSized) (K.Dynamic p r) f x = refl
kind_cell c C.Auto (K.Dynamic p r) f x = absurd cc
kind_cell c C.Auto (K.Param n) f x = absurd cc
kind_cell c C.Auto (K.Placeholder p) f x = absurd cc
kind_cell c o (K.Bound v) f x = absurd (excluded o x)
kind_cell c o (K.Infer (I.TyVar n)) f x = absurd (excluded o x)
kind_cell c C.Auto (K.Infer (I.IntVar n)) f x = absurd cc
kind_cell c _ (K.Infer (I.IntVar n)) f x = refl
kind_cell c C.Auto (K.Infer (I.FloatVar n)) f x = absurd cc
kind_cell c _ (K.Infer (I.FloatVar n)) f x = refl
kind_cell c C.Auto _ f x = refl
kind_cell c (C.Sizedness s) _ f x = refl
kind_cell c C.CopyClone _ f x = refl
kind_cell c C.Destruct _ f x = refl

-- What a cell is read from fits the context

alias-fits : (c : Context) (a : AliasTy) (k : AliasKind) → a.kind ≡ k → KindFits c.trees (K.Alias a) → Takes (world c) (kind_tree c.trees (K.Alias a)) → AskedFits c (alias_asked k a)
alias-fits c a AK.Opaque q f t =
    let e : IsArgs c.trees a.args = cc in
    let takes = subst (λ (k : AliasKind). alias_kinds (world c) k a.id.0 ≡ Some (kinds_of (row (tree_at c.trees a.args.0) none))) q (t refl) in
    (e, subst (λ (x : Forest). parameters (world c) OpaqueSort a.id.0 ≡ Some (kinds_of x)) (below-list c.trees a.args e) takes)
alias-fits c a AK.Projection q f t = tt
alias-fits c a AK.Inherent q f t = tt
alias-fits c a AK.Free q f t = tt

adt-fits : (c : Context) (i : AdtId) (a : Args) → KindFits c.trees (K.Adt i a) → Takes (world c) (kind_tree c.trees (K.Adt i a))
    → IsArgs c.trees a × (parameters (world c) AdtSort i.0 ≡ Some (kinds_of (args_forest c.trees a)))
adt-fits c i a f t =
    let e : IsArgs c.trees a = cc in
    (e, subst (λ (x : Forest). parameters (world c) AdtSort i.0 ≡ Some (kinds_of x)) (below-list c.trees a e) (t refl))

owned-fits : (c : Context) (i : AdtId) (a : Args) (b : Bool) → IsArgs c.trees a × (parameters (world c) AdtSort i.0 ≡ Some (kinds_of (args_forest c.trees a)))
    → AskedFits c (if b then A.FirstArgument a else A.Fields i a)
owned-fits c i a true e = e.0
owned-fits c i a false e = e

dropped-fits : (c : Context) (i : AdtId) (a : Args) (b : Bool) → IsArgs c.trees a × (parameters (world c) AdtSort i.0 ≡ Some (kinds_of (args_forest c.trees a)))
    → AskedFits c (if b then A.Nothing else A.Fields i a)
dropped-fits c i a true e = tt
dropped-fits c i a false e = e

pub kind_fits : (c : Context) (o : Column) (k : TyKind) → KindFits c.trees k → Takes (world c) (kind_tree c.trees k) → AskedFits c (asked_for c o k)
kind_fits c C.Auto (K.Adt i a) f t = owned-fits c i a (is_phantom (adt_flags (definition c i.0))) (adt-fits c i a f t)
kind_fits c (C.Sizedness s) (K.Adt i a) f t = adt-fits c i a f t
kind_fits c C.Destruct (K.Adt i a) f t = dropped-fits c i a (is_manually_drop (adt_flags (definition c i.0))) (adt-fits c i a f t)
kind_fits c C.Auto (K.Alias a) f t = alias-fits c a a.kind refl f t
kind_fits c (C.Sizedness S.Sized) K.Str f t = tt
kind_fits c (C.Sizedness S.MetaSized) K.Str f t = tt
kind_fits c (C.Sizedness S.Sized) (K.Slice u) f t = tt
kind_fits c (C.Sizedness S.MetaSized) (K.Slice u) f t = tt
kind_fits c C.CopyClone (K.Slice u) f t = tt
kind_fits c _ (K.Slice u) f t = cc
kind_fits c (C.Sizedness S.Sized) (K.Dynamic p r) f t = tt
kind_fits c (C.Sizedness S.MetaSized) (K.Dynamic p r) f t = tt
kind_fits c C.Auto (K.Array u n) f t = cc
kind_fits c C.Destruct (K.Array u n) f t = cc
kind_fits c (C.Sizedness s) (K.Pat u p) f t = tt
kind_fits c _ (K.Pat u Pat.NotNull) f t = cc
kind_fits c _ (K.Pat u (Pat.Range from to)) f t = cc
kind_fits c C.Auto (K.RawPtr u m) f t = cc
kind_fits c C.Auto (K.Ref r u m) f t = cc
kind_fits c C.Auto (K.UnsafeBinder b) f t = (cc, cc)
kind_fits c (C.Sizedness s) (K.UnsafeBinder b) f t = (cc, cc)
kind_fits c (C.Sizedness s) (K.Closure i a) f t = tt
kind_fits c _ (K.Closure i a) f t = cc
kind_fits c _ (K.Tuple a) f t = cc
kind_fits c C.Auto _ f t = tt
kind_fits c (C.Sizedness s) _ f t = tt
kind_fits c C.CopyClone _ f t = tt
kind_fits c C.Destruct _ f t = tt

-- The cell of a type of that kind

pub kind_takes : (c : Context) (t : Ty) (k : TyKind) → IsWellFormed c → IsTy c.trees t → kind_tree c.trees k ≡ ty_tree c.trees t → Takes (world c) (kind_tree c.trees k)
kind_takes c t k w i e = λ l.
    let fit : Fits (world c) (row (ty_tree c.trees t) none) = fit-at (world c) c.trees w t.0 in
    let one = subst (Fits (world c)) (row-single c.trees t.0 TypeKind none refl refl i) fit in
    subst (λ (u : Tree). child_kinds (world c) u.head (kinds_of u.children) ≡ Some (kinds_of u.children)) (sym e) one.0

pub asked_fits : (c : Context) (o : Column) (k : TyKind) (a : Asked) → KindFits c.trees k → Takes (world c) (kind_tree c.trees k) → a ≡ asked_for c o k → AskedFits c a
asked_fits c o k a f t q = subst (AskedFits c) (sym q) (kind_fits c o k f t)

pub cell_of_kind : (c : Context) (o : Column) (t : Ty) (k : TyKind) (a : Asked) → KindFits c.trees k → kind_tree c.trees k ≡ ty_tree c.trees t → is_excluded (cell o (row_of c (ty_tree c.trees t))) ≡ false
    → a ≡ asked_for c o k → asked_cell c a ≡ cell o (row_of c (ty_tree c.trees t))
cell_of_kind c o t k a f e x q =
    ap (asked_cell c) q
    ∙ (kind_cell c o k f (ap (λ (u : Tree). is_excluded (cell o (row_of c u))) e ∙ x) ∙ ap (λ (u : Tree). cell o (row_of c u)) e)

-- A cell whose types were made

pub refused_cell : (c : Context) (a : Asked) → is_refused a ≡ true → asked_cell c a ≡ Refused
refused_cell c A.Refused e = refl
refused_cell c _ e = absurd cc

pub not-refused : (c : Context) (a : Asked) → is_refused a ≡ false → asked_cell c a ≡ Asks (record { variables = asked_variables c a; types = asked_types c a })
not-refused c A.Refused e = absurd cc
not-refused c _ e = refl

variables-kept : (old new : Context) (a : Asked) → Grows old new → AskedFits old a → asked_variables old a ≡ variables new.trees (under_of a)
variables-kept old new (A.Under b) g f = ap (λ (t : Tree). t.children) (sym (number-kept old.trees new.trees b.vars.0 g.kept (below_kind old.trees b.vars.0 BinderKind refl f.0)).1)
variables-kept old new _ g f = refl

pub under_kept : (old new : Context) (a : Asked) → Grows old new → AskedFits old a → IsUnder new.trees (under_of a)
under_kept old new (A.Under b) g f =
    let k = number-kept old.trees new.trees b.vars.0 g.kept (below_kind old.trees b.vars.0 BinderKind refl f.0) in
    k.0 ∙ f.0
under_kept old new _ g f = tt

pub asked_parts : (old new : Context) (a : Asked) (u : Under) (ts : List Tree) → Grows old new → AskedFits old a → is_refused a ≡ false → u ≡ under_of a → ts ≡ asked_types old a
    → asked_cell old a ≡ Asks (record { variables = variables new.trees u; types = ts })
asked_parts old new a u ts g f e q m =
    let v : asked_variables old a ≡ variables new.trees u = variables-kept old new a g f ∙ ap (variables new.trees) (sym q) in
    not-refused old a e ∙ (λ i. Asks (record { variables = v i; types = sym m i }))

pub asked_stop : (old : Context) (a : Asked) (given : ℕ) (s : Stop) → is_refused a ≡ false → IsTypesStop given (asked_types old a) s → IsCellStop given (asked_cell old a) s
asked_stop old a given s e h = subst (λ (c : Cell). IsCellStop given c s) (sym (not-refused old a e)) h

-- Which kinds a column excludes

known-of : (b : Bool) (x : Bool) → x ≡ not b → IsTrue b ↔ (x ≡ false)
known-of true x e = (λ t. e, λ t. refl)
known-of false x e = (λ t. absurd cc, λ t. absurd (let z = sym e ∙ t in cc))

known-is : (c : Context) (o : Column) (k : TyKind) → is_excluded (cell o (row_of c (kind_tree c.trees k))) ≡ not (known o k)
known-is c (C.Sizedness S.Sized) K.Str = refl
known-is c (C.Sizedness S.MetaSized) K.Str = refl
known-is c (C.Sizedness S.Sized) (K.Slice t) = refl
known-is c (C.Sizedness S.MetaSized) (K.Slice t) = refl
known-is c (C.Sizedness S.Sized) (K.Dynamic p r) = refl
known-is c (C.Sizedness S.MetaSized) (K.Dynamic p r) = refl
known-is c _ (K.Pat t Pat.NotNull) = refl
known-is c _ (K.Pat t (Pat.Range from to)) = refl
known-is c o (K.Alias a) = of o a.kind _
  where
    of : (p : Column) → (k : AliasKind) → (g : Forest) → is_excluded (cell p (alias_row c k a.id.0 g)) ≡ not (known p (K.Alias (record a { kind = k })))
    of C.Auto AK.Opaque g = refl
    of C.Auto _ g = refl
    of (C.Sizedness s) AK.Opaque g = refl
    of (C.Sizedness s) _ g = refl
    of C.CopyClone AK.Opaque g = refl
    of C.CopyClone _ g = refl
    of C.Destruct AK.Opaque g = refl
    of C.Destruct _ g = refl
known-is c C.Auto (K.Infer (I.TyVar n)) = refl
known-is c (C.Sizedness s) (K.Infer (I.TyVar n)) = refl
known-is c C.CopyClone (K.Infer (I.TyVar n)) = refl
known-is c C.Destruct (K.Infer (I.TyVar n)) = refl
known-is c _ (K.Infer (I.IntVar n)) = refl
known-is c _ (K.Infer (I.FloatVar n)) = refl
known-is c C.Auto _ = refl
known-is c (C.Sizedness s) _ = refl
known-is c C.CopyClone _ = refl
known-is c C.Destruct _ = refl

pub known_of : (c : Context) (o : Column) (t : Ty) (k : TyKind) (b : Bool) → kind_tree c.trees k ≡ ty_tree c.trees t → b ≡ known o k
    → IsTrue b ↔ (is_excluded (cell o (row_of c (ty_tree c.trees t))) ≡ false)
known_of c o t k b e q = known-of b _ (sym (ap (λ (u : Tree). is_excluded (cell o (row_of c u))) e) ∙ (known-is c o k ∙ sym (ap not q)))
