-- What is made of trees without a parameter has none, but for its own head.
use Rattle.std.proofs.Common.{◌≡◌, ℕ, List, [], ◌∷◌, ◌++◌, refl, sym, ◌∙◌, ap, Result, Ok, Err}
use Rattle.std.specs.Prelude.{map, IfOk, Bool, true, false, ◌||◌}
use Rattle.std.proofs.lemmas.List.{map-append}
use Rattle.std.proofs.lemmas.List.Elements.{All-head, All-tail, All-weaker}
use Rattle.ir_trees.specs.declared.ir.kinds.Args.{Args}
use Rattle.ir_trees.specs.declared.ir.kinds.Preds.{Preds}
use Rattle.ir_trees.specs.declared.ir.kinds.Region.{Region}
use Rattle.ir_trees.specs.declared.ir.kinds.Const.{Const}
use Rattle.ir_trees.specs.declared.ir.kinds.ConstKind.{ConstKind}
use Rattle.ir_trees.specs.declared.ir.kinds.VarKind.{VarKind}
use Rattle.ir_trees.specs.declared.ir.kinds.VarKind.TheVariants as V
use Rattle.ir_trees.specs.declared.ir.kinds.FnSig.{FnSig}
use Rattle.ir_trees.specs.declared.ir.kinds.Vars.{Vars}
use Rattle.ir_trees.specs.declared.ir.kinds.Ty.{Ty}
use Rattle.ir_trees.specs.declared.ir.kinds.TyKind.{TyKind}
use Rattle.ir_trees.specs.declared.ir.kinds.TyKind.TheVariants as K
use Rattle.ir_trees.specs.declared.ir.kinds.RegionKind.{RegionKind}
use Rattle.ir_trees.specs.declared.ir.kinds.RegionKind.TheVariants as R
use Rattle.ir_trees.specs.declared.ir.kinds.Binder.{Binder}
use Rattle.ir_trees.specs.declared.ir.kinds.ExistentialPredicate.{ExistentialPredicate}
use Rattle.ir_trees.specs.declared.ir.kinds.ExistentialPredicate.TheVariants as E
use Rattle.ir_trees.specs.declared.ir.kinds.AdtId.{AdtId}
use Rattle.ir_trees.specs.declared.ir.kinds.AliasTy.{AliasTy}
use Rattle.ir_trees.specs.declared.ir.kinds.TraitId.{TraitId}
use Rattle.ir_trees.specs.declared.ir.kinds.AssocId.{AssocId}
use Rattle.ir_trees.specs.declared.ir.kinds.GenericArg.{GenericArg}
use Rattle.ir_trees.specs.declared.ir.kinds.GenericArg.TheVariants as A
use Rattle.ir_trees.specs.declared.ir.heads.Flag.TheVariants as F
use Rattle.ir_trees.specs.declared.ir.node.Node.{Node}
use Rattle.ir_trees.specs.declared.ir.node.Node.TheVariants as N
use Rattle.ir_trees.specs.Syntax.Trees.{Tree, Kind, ArgumentsKind, PredicatesKind, is_list, is_list_kind, holds, tree_holds, is_param}
use Rattle.ir_trees.specs.Syntax.Kinds.{numbers, sorts, arg_child, arg_number, ty_head}
use Rattle.ir_trees.specs.Syntax.Nodes.{tree_at, kind_at, trees_at, rows, any_holds, head_of, children_of, node_tree}
use Rattle.ir_trees.specs.Declarations.Context.{Context, Grows}
use Rattle.ir_trees.specs.Syntax.Words.{IsArgs, IsPreds, ListFits, BoundsFit, PredFits, kind_tree, const_tree, const_kind_tree, pred_kind_tree, region_kind_tree, region_tree, vars_tree, binder_tree, var_kind_tree, ty_tree, args_forest, preds_forest, list_forest}
use Rattle.ir_trees.specs.Instantiation.Folds.{IsArg}
use Rattle.ir_trees.proofs.Growth.Made.{PredFits-grows}
use Rattle.ir_trees.proofs.Syntax.Lists.{all_there, tree_at-append, below_kind, kind_of-tree_at, trees_at-append, Below-there, node_tree-append}
use Rattle.ir_trees.specs.Syntax.Trees.{there}
use Rattle.ir_trees.proofs.Syntax.Splits.{list-head, rows-holds}
use Rattle.ir_trees.proofs.Syntax.Children.{list-holds}
use Rattle.assembly_notation.specs.Notation.{IsLeaf}
use Rattle.assembly_notation.specs.Params.{LacksParam, ListLacksParam, BoundLacksParam, BoundsLackParam, Lacks}

or-left : (a b : Bool) → a || b ≡ false → a ≡ false
or-left true b e = e
or-left false b e = refl

pub or-right : (a b : Bool) → a || b ≡ false → b ≡ false
or-right true b e = absurd cc
or-right false b e = e

or-both : (a b : Bool) → a ≡ false → b ≡ false → a || b ≡ false
or-both a b e f = ap (λ (x : Bool). x || b) e ∙ f

in-rows : (ts : List Tree) → holds is_param (rows ts) ≡ any_holds is_param ts
in-rows ts = rows-holds is_param (λ l. refl) ts

-- a number keeps that it has none
pub lacks-grows : (a b : Context) (n : ℕ) (k : Kind) → Grows a b → there k ≡ true → kind_at a.trees n ≡ k → LacksParam a.trees n → LacksParam b.trees n
lacks-grows a b n k g h i l =
    ap (λ (ts : List Tree). tree_holds is_param (tree_at ts n)) g.kept.is
    ∙ (ap (tree_holds is_param) (tree_at-append a.trees g.kept.added n (below_kind a.trees n k h i)) ∙ l)

-- what is made has none where its kind has none
pub made-lacks : {E : Type 0} (strict : Bool) (r : Result Ty E) (new : List Tree) (t : Tree) → IfOk r (λ x. ty_tree new x ≡ t)
    → (strict ≡ true → tree_holds is_param t ≡ false) → IfOk r (λ x. Lacks strict new x.0)
made-lacks strict (Ok x) new t e l = λ s. ap (tree_holds is_param) e ∙ l s
made-lacks strict (Err f) new t e l = tt

pub same-lacks : (ts : List Tree) (j k : TyKind) → j ≡ k → tree_holds is_param (kind_tree ts k) ≡ false → tree_holds is_param (kind_tree ts j) ≡ false
same-lacks ts j k e l = ap (λ (x : TyKind). tree_holds is_param (kind_tree ts x)) e ∙ l

-- a region is no parameter
region-kind-lacks : (k : RegionKind) → tree_holds is_param (region_kind_tree k) ≡ false
region-kind-lacks R.Static = refl
region-kind-lacks R.Error = refl
region-kind-lacks (R.Bound x) = refl
region-kind-lacks (R.Placeholder x) = refl
region-kind-lacks (R.Var n) = refl

pub region-lacks : (ts : List Tree) (r : Region) (k : RegionKind) → region_tree ts r ≡ region_kind_tree k → LacksParam ts r.0
region-lacks ts r k e = ap (tree_holds is_param) e ∙ region-kind-lacks k

pub regions-lack : {E : Type 0} (ts : List Tree) (k : RegionKind) (r : Result Region E) → IfOk r (λ x. region_tree ts x ≡ region_kind_tree k) → IfOk r (λ x. LacksParam ts x.0)
regions-lack ts k (Ok x) e = region-lacks ts x k e
regions-lack ts k (Err f) e = tt

-- a constant without children, which isn't a parameter
pub const-lacks : {E : Type 0} (strict : Bool) (ts old : List Tree) (k : ConstKind) (r : Result Const E) → IfOk r (λ x. const_tree ts x ≡ const_kind_tree old k)
    → tree_holds is_param (const_kind_tree old k) ≡ false → IfOk r (λ x. Lacks strict ts x.0)
const-lacks strict ts old k (Ok x) e l = λ s. ap (tree_holds is_param) e ∙ l
const-lacks strict ts old k (Err f) e l = tt

-- the variables of a binder
vars-of-kinds : (ks : List VarKind) → any_holds is_param (map var_kind_tree ks) ≡ false
vars-of-kinds [] = refl
vars-of-kinds (V.Ty ∷ ks) = vars-of-kinds ks
vars-of-kinds (V.Const ∷ ks) = vars-of-kinds ks
vars-of-kinds (V.Region ∷ ks) = vars-of-kinds ks

pub vars-lack : {E : Type 0} (ts : List Tree) (ks : List VarKind) (r : Result Vars E) → IfOk r (λ v. vars_tree ts v ≡ binder_tree ks) → IfOk r (λ v. LacksParam ts v.0)
vars-lack ts ks (Ok v) e = ap (tree_holds is_param) e ∙ (in-rows (map var_kind_tree ks) ∙ vars-of-kinds ks)
vars-lack ts ks (Err f) e = tt

-- a node, by its head and its children
node-lacks : (ts : List Tree) (d : Node) → is_param (head_of d) ≡ false → any_holds is_param (trees_at ts (numbers (children_of d))) ≡ false
    → tree_holds is_param (node_tree ts d) ≡ false
node-lacks ts d h e = or-both (is_param (head_of d)) _ h (in-rows (trees_at ts (numbers (children_of d))) ∙ e)

one : (a : Bool) → a ≡ false → a || false ≡ false
one a e = or-both a false e refl

pub leaf-lacks : (ts : List Tree) (k : TyKind) → IsLeaf k → is_param (ty_head k) ≡ false → tree_holds is_param (kind_tree ts k) ≡ false
leaf-lacks ts k l h = node-lacks ts (N.Ty k) h (ap (λ cs. any_holds is_param (trees_at ts (numbers cs))) l)

pub ref-lacks : (ts : List Tree) (r : Region) (t : Ty) (m : _) → LacksParam ts r.0 → LacksParam ts t.0 → tree_holds is_param (kind_tree ts (K.Ref r t m)) ≡ false
ref-lacks ts r t m e f = node-lacks ts (N.Ty (K.Ref r t m)) refl (or-both _ _ e (one _ f))

pub pointer-lacks : (ts : List Tree) (t : Ty) (m : _) → LacksParam ts t.0 → tree_holds is_param (kind_tree ts (K.RawPtr t m)) ≡ false
pointer-lacks ts t m f = node-lacks ts (N.Ty (K.RawPtr t m)) refl (one _ f)

pub array-lacks : (ts : List Tree) (t : Ty) (n : Const) → LacksParam ts t.0 → LacksParam ts n.0 → tree_holds is_param (kind_tree ts (K.Array t n)) ≡ false
array-lacks ts t n e f = node-lacks ts (N.Ty (K.Array t n)) refl (or-both _ _ e (one _ f))

-- a function pointer
abbrev fn_sig : Bool → Bool → Bool → Vars → Args → Ty → Binder FnSig
fn_sig safe abi more v a t = record { vars = v; value = record { inputs = a; output = t; safe = safe; rust_abi = abi; variadic = more } }

pub fn-lacks : (ts : List Tree) (safe abi more : Bool) (v : Vars) (a : Args) (t : Ty) → LacksParam ts v.0 → LacksParam ts a.0 → LacksParam ts t.0
    → tree_holds is_param (kind_tree ts (K.FnPtr (record { vars = v; value = record { inputs = a; output = t; safe = safe; rust_abi = abi; variadic = more } }))) ≡ false
fn-lacks ts safe abi more v a t e f h = node-lacks ts (N.Ty (K.FnPtr (fn_sig safe abi more v a t))) refl (or-both _ _ e (or-both _ _ f (one _ h)))

pub slice-lacks : (ts : List Tree) (t : Ty) → LacksParam ts t.0 → tree_holds is_param (kind_tree ts (K.Slice t)) ≡ false
slice-lacks ts t f = node-lacks ts (N.Ty (K.Slice t)) refl (one _ f)

-- a list, by its members
pub args-lacks : (ts : List Tree) (a : Args) → IsArgs ts a → holds is_param (args_forest ts a) ≡ false → LacksParam ts a.0
args-lacks ts a i h = list-holds ts a.0 F.Param ArgumentsKind refl refl i ∙ h

pub preds-lacks : (ts : List Tree) (p : Preds) → IsPreds ts p → holds is_param (preds_forest ts p) ≡ false → LacksParam ts p.0
preds-lacks ts p i h =
    let t = tree_at ts p.0 in
    let k : is_list t.head ≡ true = ap is_list_kind (sym (kind_of-tree_at ts p.0 (below_kind ts p.0 PredicatesKind refl i)) ∙ i) in
    let l = list-head t.head k in
    or-both (is_param t.head) _ (ap is_param l.1) h

any-push : (xs : List Tree) (t : Tree) → any_holds is_param xs ≡ false → tree_holds is_param t ≡ false → any_holds is_param (xs ++ t ∷ []) ≡ false
any-push [] t e f = one _ f
any-push (x ∷ xs) t e f = or-both _ _ (or-left _ _ e) (any-push xs t (or-right _ _ e) f)

rows-push : (xs : List Tree) (t : Tree) → holds is_param (rows xs) ≡ false → tree_holds is_param t ≡ false → holds is_param (rows (xs ++ t ∷ [])) ≡ false
rows-push xs t e f = in-rows (xs ++ t ∷ []) ∙ any-push xs t (sym (in-rows xs) ∙ e) f

trees-push : (ts : List Tree) (xs : List GenericArg) (a : GenericArg) → trees_at ts (numbers (map arg_child (xs ++ a ∷ []))) ≡ trees_at ts (numbers (map arg_child xs)) ++ tree_at ts (arg_number a) ∷ []
trees-push ts [] a = refl
trees-push ts (x ∷ xs) a = ap (λ (ys : List Tree). tree_at ts (arg_child x).0 ∷ ys) (trees-push ts xs a)

-- arguments, with one more
pub list-lacks-one : (ts : List Tree) (xs : List GenericArg) (a : GenericArg) → ListLacksParam ts xs → LacksParam ts (arg_number a) → ListLacksParam ts (xs ++ a ∷ [])
list-lacks-one ts xs a e f =
    ap (λ (ys : List Tree). holds is_param (rows ys)) (trees-push ts xs a)
    ∙ rows-push (trees_at ts (numbers (map arg_child xs))) (tree_at ts (arg_number a)) e f

pub fits-one : (ts : List Tree) (xs : List GenericArg) (a : GenericArg) → ListFits ts xs → IsArg ts a → ListFits ts (xs ++ a ∷ [])
fits-one ts [] a e h = cc
fits-one ts (x ∷ xs) a e h =
    let tail : ListFits ts xs = cc in
    let more : ListFits ts (xs ++ a ∷ []) = fits-one ts xs a tail h in
    cc

there-args : (xs : List GenericArg) → all_there (sorts (map arg_child xs)) ≡ true
there-args [] = refl
there-args (A.Ty t ∷ xs) = there-args xs
there-args (A.Const t ∷ xs) = there-args xs
there-args (A.Region t ∷ xs) = there-args xs

pub list-lacks-grows : (a b : Context) (xs : List GenericArg) → Grows a b → ListFits a.trees xs → ListLacksParam a.trees xs → ListLacksParam b.trees xs
list-lacks-grows a b xs g e l =
    ap (λ (ts : List Tree). holds is_param (list_forest ts xs)) g.kept.is
    ∙ (ap (λ (ts : List Tree). holds is_param (rows ts))
    (trees_at-append a.trees g.kept.added (numbers (map arg_child xs))
    (Below-there a.trees (numbers (map arg_child xs)) (sorts (map arg_child xs)) e (there-args xs)))
    ∙ l)

bound-kept : (a b : Context) (x : Binder ExistentialPredicate) → Grows a b → PredFits a.trees x → pred_kind_tree b.trees x ≡ pred_kind_tree a.trees x
bound-kept a b x g f =
    ap (λ (ts : List Tree). pred_kind_tree ts x) g.kept.is ∙ node_tree-append a.trees g.kept.added (N.Pred x) f

bounds-kept : (a b : Context) (xs : List (Binder ExistentialPredicate)) → Grows a b → BoundsFit a.trees xs → map (pred_kind_tree b.trees) xs ≡ map (pred_kind_tree a.trees) xs
bounds-kept a b [] g f = refl
bounds-kept a b (x ∷ xs) g f =
    let e = bound-kept a b x g (All-head (PredFits a.trees) x xs f) in
    let h = bounds-kept a b xs g (All-tail (PredFits a.trees) x xs f) in
    cc

-- bounds keep that they fit, and that they have none
pub bounds-fit-grows : (a b : Context) (xs : List (Binder ExistentialPredicate)) → Grows a b → BoundsFit a.trees xs → BoundsFit b.trees xs
bounds-fit-grows a b xs g f = All-weaker (PredFits a.trees) (PredFits b.trees) (λ y h. PredFits-grows a b y g h) xs f

pub bounds-lack-grows : (a b : Context) (xs : List (Binder ExistentialPredicate)) → Grows a b → BoundsFit a.trees xs → BoundsLackParam a.trees xs → BoundsLackParam b.trees xs
bounds-lack-grows a b xs g f l = ap (λ (ts : List Tree). holds is_param (rows ts)) (bounds-kept a b xs g f) ∙ l

-- bounds, with one more
pub bounds-lack-one : (a b : Context) (xs : List (Binder ExistentialPredicate)) (x : Binder ExistentialPredicate)
    → Grows a b → BoundsFit a.trees xs → BoundsLackParam a.trees xs → BoundLacksParam b.trees x → BoundsLackParam b.trees (xs ++ x ∷ [])
bounds-lack-one a b xs x g f l m =
    ap (λ (ts : List Tree). holds is_param (rows ts)) (map-append (pred_kind_tree b.trees) xs (x ∷ []))
    ∙ rows-push (map (pred_kind_tree b.trees) xs) (pred_kind_tree b.trees x)
    (ap (λ (ts : List Tree). holds is_param (rows ts)) (bounds-kept a b xs g f) ∙ l) m

-- the head of a type over a list
pub tuple-lacks : (ts : List Tree) (a : Args) → LacksParam ts a.0 → tree_holds is_param (kind_tree ts (K.Tuple a)) ≡ false
tuple-lacks ts a f = node-lacks ts (N.Ty (K.Tuple a)) refl (one _ f)

pub adt-lacks : (ts : List Tree) (d : AdtId) (a : Args) → LacksParam ts a.0 → tree_holds is_param (kind_tree ts (K.Adt d a)) ≡ false
adt-lacks ts d a f = node-lacks ts (N.Ty (K.Adt d a)) refl (one _ f)

pub alias-lacks : (ts : List Tree) (x : AliasTy) → LacksParam ts x.args.0 → tree_holds is_param (kind_tree ts (K.Alias x)) ≡ false
alias-lacks ts x f = node-lacks ts (N.Ty (K.Alias x)) refl (one _ f)

pub dyn-lacks : (ts : List Tree) (p : Preds) (r : Region) → LacksParam ts p.0 → LacksParam ts r.0 → tree_holds is_param (kind_tree ts (K.Dynamic p r)) ≡ false
dyn-lacks ts p r e f = node-lacks ts (N.Ty (K.Dynamic p r)) refl (or-both _ _ e (one _ f))

-- bounds under a binder
pub auto-lacks : (ts : List Tree) (v : Vars) (d : TraitId) → LacksParam ts v.0 → BoundLacksParam ts (record { vars = v; value = E.AutoTrait d })
auto-lacks ts v d e = node-lacks ts (N.Pred (record { vars = v; value = E.AutoTrait d })) refl (one _ e)

pub trait-lacks : (ts : List Tree) (v : Vars) (d : TraitId) (a : Args) → LacksParam ts v.0 → LacksParam ts a.0 → BoundLacksParam ts (record { vars = v; value = E.Trait (record { def_id = d; args = a }) })
trait-lacks ts v d a e f = node-lacks ts (N.Pred (record { vars = v; value = E.Trait (record { def_id = d; args = a }) })) refl (or-both _ _ e (one _ f))

pub projection-lacks : (ts : List Tree) (v : Vars) (d : AssocId) (a : Args) (t : Ty) → LacksParam ts v.0 → LacksParam ts a.0 → LacksParam ts t.0
    → BoundLacksParam ts (record { vars = v; value = E.Projection (record { def_id = d; args = a; term = t }) })
projection-lacks ts v d a t e f g =
    node-lacks ts (N.Pred (record { vars = v; value = E.Projection (record { def_id = d; args = a; term = t }) })) refl (or-both _ _ e (or-both _ _ f (one _ g)))
