-- What is known of nodes that were made, and stays while a context grows.
use Rattle.std.proofs.Common.{◌≡◌, ℕ, zero, suc, ◌+◌, ◌<◌, List, [], ◌∷◌, ◌++◌, length, get_or, Some, refl, sym, ◌∙◌, ap, subst, arith}
use Rattle.std.specs.Prelude.{map, Bool, true, false, ◌||◌, cond, count_by}
use Rattle.std.proofs.lemmas.List.Sums.{sum_by_push}
use Rattle.std.proofs.lemmas.List.Elements.{All-push, All-weaker}
use Rattle.ir_trees.specs.Syntax.Trees.{Kind, TypeKind, ConstantKind, RegionKind, Forest, none, Tree, is_list_kind, row, holds, tree_holds}
use Rattle.ir_trees.specs.Syntax.Kinds.{numbers, sorts, arg_child}
use Rattle.ir_trees.specs.Syntax.Nodes.{kind_at, tree_at}
use Rattle.ir_trees.specs.Declarations.Context.{Context, Grows, world}
use Rattle.ir_trees.specs.Declarations.References.{Takes}
use Rattle.ir_trees.specs.Syntax.Words.{IsTy, IsConst, IsRegion, IsArgs, IsPreds, IsPred, IsSig, IsClause, IsParamEnv, IsVars, IsVar, ListFits, PredListFits, VarListFits, ClauseListFits, PredFits, BoundsFit, names_trait, ty_tree, const_tree, region_tree, args_forest, list_forest, kind_tree}
use Rattle.ir_trees.specs.Declarations.Worlds.{World, AdtSort, TraitSort, parameters, joined, kinds_of}
use Rattle.ir_trees.specs.declared.ir.heads.Head.{Head}
use Rattle.ir_trees.specs.declared.ir.heads.Head.TheVariants as H
use Rattle.ir_trees.specs.declared.ir.kinds.AdtId.{AdtId}
use Rattle.ir_trees.specs.declared.ir.kinds.TraitId.{TraitId}
use Rattle.ir_trees.specs.declared.ir.kinds.TyKind.TheVariants as K
use Rattle.ir_trees.specs.declared.ir.kinds.Args.{Args}
use Rattle.ir_trees.specs.declared.ir.kinds.Const.{Const}
use Rattle.ir_trees.specs.declared.ir.kinds.Region.{Region}
use Rattle.ir_trees.specs.declared.ir.kinds.Sig.{Sig}
use Rattle.ir_trees.specs.declared.ir.kinds.Clause.{Clause}
use Rattle.ir_trees.specs.declared.ir.kinds.ParamEnv.{ParamEnv}
use Rattle.ir_trees.specs.declared.ir.kinds.Vars.{Vars}
use Rattle.ir_trees.specs.declared.ir.kinds.Var.{Var}
use Rattle.ir_trees.specs.declared.ir.kinds.Pred.{Pred}
use Rattle.ir_trees.specs.declared.ir.kinds.Preds.{Preds}
use Rattle.ir_trees.specs.declared.ir.kinds.Binder.{Binder}
use Rattle.ir_trees.specs.declared.ir.kinds.ExistentialPredicate.{ExistentialPredicate}
use Rattle.ir_trees.specs.declared.ir.node.Node.TheVariants as N
use Rattle.ir_trees.specs.declared.ir.kinds.Ty.{Ty}
use Rattle.ir_trees.specs.declared.ir.kinds.GenericArg.{GenericArg}
use Rattle.ir_trees.specs.declared.ir.kinds.GenericArg.TheVariants as A
use Rattle.ir_trees.proofs.Growth.Kept.{world-kept, grows-trans}
use Rattle.ir_trees.proofs.Syntax.Lists.{all_there, kind_at-append, below_kind, kinds_at-append, Below-there, Fits-append}
use Rattle.ir_trees.specs.Syntax.Trees.{there}
use Rattle.ir_trees.proofs.Kinding.References.{args-fit}
use Rattle.ir_trees.proofs.Syntax.Rows.{row-list, row-single, join-none, kind-of}

-- a number that has a kind keeps it
pub kind_at-grows : (a b : Context) (n : ℕ) (k : Kind) → Grows a b → there k ≡ true → kind_at a.trees n ≡ k → kind_at b.trees n ≡ k
kind_at-grows a b n k g h e =
    rw g.kept.is (kind_at-append a.trees g.kept.added n (below_kind a.trees n k h e) ∙ e)

pub IsTy-grows : (a b : Context) (t : Ty) → Grows a b → IsTy a.trees t → IsTy b.trees t
IsTy-grows a b t g e = kind_at-grows a b t.0 _ g refl e

there-args : (xs : List GenericArg) → all_there (sorts (map arg_child xs)) ≡ true
there-args [] = refl
there-args (A.Ty t ∷ xs) = there-args xs
there-args (A.Const t ∷ xs) = there-args xs
there-args (A.Region t ∷ xs) = there-args xs

pub ListFits-grows : (a b : Context) (xs : List GenericArg) → Grows a b → ListFits a.trees xs → ListFits b.trees xs
ListFits-grows a b xs g e =
    rw g.kept.is
    (kinds_at-append a.trees g.kept.added (numbers (map arg_child xs))
    (Below-there a.trees (numbers (map arg_child xs)) (sorts (map arg_child xs)) e (there-args xs))
    ∙ e)

-- a list that fits still does with one more type
pub ListFits-ty : (ts : List Tree) (xs : List GenericArg) (t : Ty) → ListFits ts xs → IsTy ts t → ListFits ts (xs ++ A.Ty t ∷ [])
ListFits-ty ts [] t e h = cc
ListFits-ty ts (x ∷ xs) t e h =
    let tail : ListFits ts xs = cc in
    let more : ListFits ts (xs ++ A.Ty t ∷ []) = ListFits-ty ts xs t tail h in
    cc

-- a type in a list that fits is a type
pub IsTy-listed : (ts : List Tree) (xs : List GenericArg) (i : ℕ) (d : GenericArg) (t : Ty) → i < length xs → get_or xs i d ≡ A.Ty t → ListFits ts xs → IsTy ts t
IsTy-listed ts [] i d t b e f = absurd (omega arith)
IsTy-listed ts (x ∷ xs) zero d t b e f =
    let Head : GenericArg → Type 0 = λ y. ListFits ts (y ∷ xs) in
    let fits : ListFits ts (A.Ty t ∷ xs) = subst Head e f in
    cc
IsTy-listed ts (x ∷ xs) (suc i) d t b e f = let tail : ListFits ts xs = cc in IsTy-listed ts xs i d t (omega arith) e tail

pub IsConst-grows : (a b : Context) (x : Const) → Grows a b → IsConst a.trees x → IsConst b.trees x
IsConst-grows a b x g e = kind_at-grows a b x.0 _ g refl e

pub IsVars-grows : (a b : Context) (x : Vars) → Grows a b → IsVars a.trees x → IsVars b.trees x
IsVars-grows a b x g e = kind_at-grows a b x.0 _ g refl e

pub IsArgs-grows : (a b : Context) (x : Args) → Grows a b → IsArgs a.trees x → IsArgs b.trees x
IsArgs-grows a b x g e = kind_at-grows a b x.0 _ g refl e

pub IsRegion-grows : (a b : Context) (x : Region) → Grows a b → IsRegion a.trees x → IsRegion b.trees x
IsRegion-grows a b x g e = kind_at-grows a b x.0 _ g refl e

pub IsSig-grows : (a b : Context) (x : Sig) → Grows a b → IsSig a.trees x → IsSig b.trees x
IsSig-grows a b x g e = kind_at-grows a b x.0 _ g refl e

pub IsClause-grows : (a b : Context) (x : Clause) → Grows a b → IsClause a.trees x → IsClause b.trees x
IsClause-grows a b x g e = kind_at-grows a b x.0 _ g refl e

pub IsParamEnv-grows : (a b : Context) (x : ParamEnv) → Grows a b → IsParamEnv a.trees x → IsParamEnv b.trees x
IsParamEnv-grows a b x g e = kind_at-grows a b x.0 _ g refl e

pub IsPreds-grows : (a b : Context) (p : Preds) → Grows a b → IsPreds a.trees p → IsPreds b.trees p
IsPreds-grows a b p g e = kind_at-grows a b p.0 _ g refl e

pub PredFits-grows : (a b : Context) (x : Binder ExistentialPredicate) → Grows a b → PredFits a.trees x → PredFits b.trees x
PredFits-grows a b x g e =
    let At : List Tree → Type 0 = λ ts. PredFits ts x in
    subst At (sym g.kept.is) (Fits-append a.trees g.kept.added (N.Pred x) e)

-- bounds that fit still do, with one more that does
pub BoundsFit-one : (a b : Context) (xs : List (Binder ExistentialPredicate)) (x : Binder ExistentialPredicate)
    → Grows a b → BoundsFit a.trees xs → PredFits b.trees x → BoundsFit b.trees (xs ++ x ∷ [])
BoundsFit-one a b xs x g fit e =
    All-push (PredFits b.trees) xs x
    (All-weaker (PredFits a.trees) (PredFits b.trees) (λ y h. PredFits-grows a b y g h) xs fit) e

-- a bound that fits alone, and two that do
pub BoundsFit-single : (ts : List Tree) (x : Binder ExistentialPredicate) → PredFits ts x → BoundsFit ts (x ∷ [])
BoundsFit-single ts x e = All-push (PredFits ts) [] x (λ k d h. absurd (omega arith)) e

pub BoundsFit-pair : (ts : List Tree) (x y : Binder ExistentialPredicate) → PredFits ts x → PredFits ts y → BoundsFit ts (x ∷ y ∷ [])
BoundsFit-pair ts x y e f = All-push (PredFits ts) (x ∷ []) y (BoundsFit-single ts x e) f

-- a bound in a list that fits is a bound
pub IsPred-listed : (ts : List Tree) (xs : List Pred) (i : ℕ) (d : Pred) → i < length xs → PredListFits ts xs → IsPred ts (get_or xs i d)
IsPred-listed ts [] i d b f = absurd (omega arith)
IsPred-listed ts (x ∷ xs) zero d b f = cc
IsPred-listed ts (x ∷ xs) (suc i) d b f = let tail : PredListFits ts xs = cc in IsPred-listed ts xs i d (omega arith) tail

-- the same of a binder's variables and of an environment's clauses
pub IsVar-listed : (ts : List Tree) (xs : List Var) (i : ℕ) (d : Var) → i < length xs → VarListFits ts xs → IsVar ts (get_or xs i d)
IsVar-listed ts [] i d b f = absurd (omega arith)
IsVar-listed ts (x ∷ xs) zero d b f = cc
IsVar-listed ts (x ∷ xs) (suc i) d b f = let tail : VarListFits ts xs = cc in IsVar-listed ts xs i d (omega arith) tail

pub IsClause-listed : (ts : List Tree) (xs : List Clause) (i : ℕ) (d : Clause) → i < length xs → ClauseListFits ts xs → IsClause ts (get_or xs i d)
IsClause-listed ts [] i d b f = absurd (omega arith)
IsClause-listed ts (x ∷ xs) zero d b f = cc
IsClause-listed ts (x ∷ xs) (suc i) d b f = let tail : ClauseListFits ts xs = cc in IsClause-listed ts xs i d (omega arith) tail

abbrev pub one_if : Bool → ℕ
one_if b = cond b 1 0

-- how many principals there are with one more bound
pub principals-one : (xs : List (Binder ExistentialPredicate)) (x : Binder ExistentialPredicate)
    → count_by (λ b. names_trait b.value) (xs ++ x ∷ []) ≡ count_by (λ b. names_trait b.value) xs + one_if (names_trait x.value)
principals-one xs x = sum_by_push (λ (b : Binder ExistentialPredicate). one_if (names_trait b.value)) xs x

pub one_if-or : (a b : Bool) → (a ≡ true → b ≡ false) → one_if a + one_if b ≡ one_if (a || b)
one_if-or true b h = let e : b ≡ false = h refl in rw e refl
one_if-or false true h = refl
one_if-or false false h = refl

one-more : (ts : List Tree) (n : ℕ) (k : Kind) (xs : List GenericArg) → there k ≡ true → is_list_kind k ≡ false → kind_at ts n ≡ k
    → {ks : List Kind} → kinds_of (list_forest ts xs) ≡ ks → kinds_of (row (tree_at ts n) (list_forest ts xs)) ≡ k ∷ ks
one-more ts n k xs h l i e =
    ap kinds_of (row-single ts n k (list_forest ts xs) h l i)
    ∙ (ap (λ (j : Kind). j ∷ kinds_of (list_forest ts xs)) (kind-of ts n k h i) ∙ ap (λ (js : List Kind). k ∷ js) e)

or-three : (a b c : Bool) → a || b ≡ false → c ≡ false → a || (b || c) ≡ false
or-three true b c e f = e
or-three false b c e f = rw e f

lacks-more : (m : Head → Bool) (ts : List Tree) (n : ℕ) (k : Kind) (xs : List GenericArg) → there k ≡ true → is_list_kind k ≡ false → kind_at ts n ≡ k
    → tree_holds m (tree_at ts n) ≡ false → holds m (list_forest ts xs) ≡ false → holds m (row (tree_at ts n) (list_forest ts xs)) ≡ false
lacks-more m ts n k xs h l i e f =
    ap (holds m) (row-single ts n k (list_forest ts xs) h l i)
    ∙ or-three (m (tree_at ts n).head) (holds m (tree_at ts n).children) (holds m (list_forest ts xs)) e f

-- a list that fits has the kinds of its arguments
pub list-kinds : (ts : List Tree) (xs : List GenericArg) → ListFits ts xs → kinds_of (list_forest ts xs) ≡ sorts (map arg_child xs)
list-kinds ts [] e = refl
list-kinds ts (A.Ty t ∷ xs) e = let i : IsTy ts t = cc in let f : ListFits ts xs = cc in one-more ts t.0 TypeKind xs refl refl i (list-kinds ts xs f)
list-kinds ts (A.Const t ∷ xs) e = let i : IsConst ts t = cc in let f : ListFits ts xs = cc in one-more ts t.0 ConstantKind xs refl refl i (list-kinds ts xs f)
list-kinds ts (A.Region t ∷ xs) e = let i : IsRegion ts t = cc in let f : ListFits ts xs = cc in one-more ts t.0 RegionKind xs refl refl i (list-kinds ts xs f)

-- a list that was made has them still
pub made-kinds : (old new : Context) (a : Args) (xs : List GenericArg) → ListFits old.trees xs → args_forest new.trees a ≡ list_forest old.trees xs
    → kinds_of (args_forest new.trees a) ≡ sorts (map arg_child xs)
made-kinds old new a xs f e = ap kinds_of e ∙ list-kinds old.trees xs f

below-adt : (ts : List Tree) (a : Args) → IsArgs ts a → row (tree_at ts a.0) none ≡ args_forest ts a
below-adt ts a i = row-list ts a.0 _ none refl refl i ∙ join-none (args_forest ts a)

-- a data type over a list with the kinds of its parameters takes it
pub adt-takes : (old new : Context) (d : AdtId) (a : Args) (xs : List GenericArg)
    → Grows old new → ListFits old.trees xs → IsArgs new.trees a → args_forest new.trees a ≡ list_forest old.trees xs
    → parameters (world old) AdtSort d.0 ≡ Some (sorts (map arg_child xs))
    → Takes (world new) (kind_tree new.trees (K.Adt d a))
adt-takes old new d a xs g f i e p =
    λ l. subst (λ (x : Forest). parameters (world new) AdtSort d.0 ≡ Some (kinds_of x)) (sym (below-adt new.trees a i))
    (ap (λ (w : World). parameters w AdtSort d.0) (world-kept old new g).0 ∙ (p ∙ ap Some (sym (made-kinds old new a xs f e))))

-- a trait with a list of the kinds of `Self` and its parameters takes it
pub reference-takes : (old new : Context) (d : TraitId) (a : Args) (xs : List GenericArg)
    → Grows old new → ListFits old.trees xs → args_forest new.trees a ≡ list_forest old.trees xs
    → joined (Some (TypeKind ∷ [])) (parameters (world old) TraitSort d.0) ≡ Some (sorts (map arg_child xs))
    → joined (Some (TypeKind ∷ [])) (parameters (world new) TraitSort d.0) ≡ Some (kinds_of (args_forest new.trees a))
reference-takes old new d a xs g f e p =
    ap (λ (x : World). joined (Some (TypeKind ∷ [])) (parameters x TraitSort d.0)) (world-kept old new g).0
    ∙ (p ∙ ap Some (sym (made-kinds old new a xs f e)))

-- none of the arguments holds the mark
abbrev pub ListLacks : (Head → Bool) → List Tree → List GenericArg → Type 0
ListLacks m ts [] = Unit {0}
ListLacks m ts (A.Ty t ∷ xs) = (tree_holds m (ty_tree ts t) ≡ false) × ListLacks m ts xs
ListLacks m ts (A.Const t ∷ xs) = (tree_holds m (const_tree ts t) ≡ false) × ListLacks m ts xs
ListLacks m ts (A.Region t ∷ xs) = (tree_holds m (region_tree ts t) ≡ false) × ListLacks m ts xs

-- then their row doesn't
pub list-lacks : (m : Head → Bool) (ts : List Tree) (xs : List GenericArg) → ListFits ts xs → ListLacks m ts xs → holds m (list_forest ts xs) ≡ false
list-lacks m ts [] f l = refl
list-lacks m ts (A.Ty t ∷ xs) e l = let i : IsTy ts t = cc in let f : ListFits ts xs = cc in lacks-more m ts t.0 TypeKind xs refl refl i l.0 (list-lacks m ts xs f l.1)
list-lacks m ts (A.Const t ∷ xs) e l = let i : IsConst ts t = cc in let f : ListFits ts xs = cc in lacks-more m ts t.0 ConstantKind xs refl refl i l.0 (list-lacks m ts xs f l.1)
list-lacks m ts (A.Region t ∷ xs) e l = let i : IsRegion ts t = cc in let f : ListFits ts xs = cc in lacks-more m ts t.0 RegionKind xs refl refl i l.0 (list-lacks m ts xs f l.1)

-- nor does a data type over what doesn't hold it, if its own head hasn't got it
pub adt-lacks : (m : Head → Bool) (ts : List Tree) (d : AdtId) (a : Args) → IsArgs ts a → m (H.Adt d) ≡ false
    → holds m (args_forest ts a) ≡ false → tree_holds m (kind_tree ts (K.Adt d a)) ≡ false
adt-lacks m ts d a i e f =
    ap (λ (b : Bool). b || holds m (row (tree_at ts a.0) none)) e ∙ (ap (holds m) (below-adt ts a i) ∙ f)

-- what a caller names that makes data types and references of them
pub ruleset making = (adt-takes, reference-takes, args-fit, IsTy-grows, grows-trans)
