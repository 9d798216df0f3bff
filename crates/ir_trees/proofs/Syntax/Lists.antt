-- Lists of trees that grow.
use Rattle.std.proofs.Common.{◌≡◌, ℕ, zero, suc, ◌<◌, List, [], ◌∷◌, ◌++◌, length, refl, ◌∙◌, ap, arith}
use Rattle.std.specs.Prelude.{map, IfOk, Bool, true, false, ◌&&◌}
use Rattle.std.proofs.Common.{Result, Ok, Err}
use Rattle.ir_trees.specs.declared.ir.stop.Stop.{Stop}
use Rattle.std.proofs.Math.ListN.{get_or-append}
use Rattle.ir_trees.specs.declared.ir.kinds.TyKind.{TyKind}
use Rattle.ir_trees.specs.declared.ir.kinds.TyKind.TheVariants as K
use Rattle.ir_trees.specs.declared.ir.kinds.Pattern.TheVariants as Pat
use Rattle.ir_trees.specs.declared.ir.kinds.ConstKind.{ConstKind}
use Rattle.ir_trees.specs.declared.ir.kinds.ConstKind.TheVariants as CK
use Rattle.ir_trees.specs.declared.ir.kinds.ExistentialPredicate.{ExistentialPredicate}
use Rattle.ir_trees.specs.declared.ir.kinds.ExistentialPredicate.TheVariants as E
use Rattle.ir_trees.specs.declared.ir.kinds.Binder.{Binder}
use Rattle.ir_trees.specs.declared.ir.kinds.Pred.{Pred}
use Rattle.ir_trees.specs.declared.ir.kinds.Var.{Var}
use Rattle.ir_trees.specs.declared.ir.kinds.Clause.{Clause}
use Rattle.ir_trees.specs.declared.ir.kinds.ClauseKind.{ClauseKind}
use Rattle.ir_trees.specs.declared.ir.kinds.ClauseKind.TheVariants as Cl
use Rattle.ir_trees.specs.declared.ir.kinds.GenericArg.{GenericArg}
use Rattle.ir_trees.specs.declared.ir.kinds.GenericArg.TheVariants as A
use Rattle.ir_trees.specs.Syntax.Trees.{Kind, Tree, kind_of}
use Rattle.ir_trees.specs.Syntax.Kinds.{numbers, sorts, arg_child, ty_children, const_children, pred_children, clause_children}
use Rattle.ir_trees.specs.Syntax.Nodes.{tree_at, kind_at, trees_at, kinds_at, error_tree, rows, node_tree, head_of, children_of, pred_child, clause_child, var_child, Fits}
use Rattle.ir_trees.specs.Syntax.Trees.{there}
use Rattle.ir_trees.specs.declared.ir.node.Node.{Node}
use Rattle.ir_trees.specs.declared.ir.node.Node.TheVariants as N
use Rattle.ir_trees.specs.Syntax.Table.{Below}

abbrev pub all_there : List Kind → Bool
all_there [] = true
all_there (k ∷ ks) = there k && all_there ks

pub kind_at-present : (ts : List Tree) (n : ℕ) → there (kind_at ts n) ≡ true → n < length ts
kind_at-present [] n h = absurd cc
kind_at-present (t ∷ ts) zero h = omega arith
kind_at-present (t ∷ ts) (suc n) h = let l : n < length ts = kind_at-present ts n h in omega arith

-- a number of a kind is one of the list
pub below_kind : (ts : List Tree) (n : ℕ) (k : Kind) → there k ≡ true → kind_at ts n ≡ k → n < length ts
below_kind ts n k h e = kind_at-present ts n (ap there e ∙ h)

pub kind_at-append : (ts us : List Tree) (n : ℕ) → n < length ts → kind_at (ts ++ us) n ≡ kind_at ts n
kind_at-append [] us n h = absurd (omega arith)
kind_at-append (t ∷ ts) us zero h = refl
kind_at-append (t ∷ ts) us (suc n) h = kind_at-append ts us n (omega arith)

pub tree_at-append : (ts us : List Tree) (n : ℕ) → n < length ts → tree_at (ts ++ us) n ≡ tree_at ts n
tree_at-append ts us n h = get_or-append ts us error_tree n h

pub kind_of-tree_at : (ts : List Tree) (n : ℕ) → n < length ts → kind_at ts n ≡ kind_of (tree_at ts n).head
kind_of-tree_at [] n h = absurd (omega arith)
kind_of-tree_at (t ∷ ts) zero h = refl
kind_of-tree_at (t ∷ ts) (suc n) h = kind_of-tree_at ts n (omega arith)

pub kind_at-last : (ts : List Tree) (t : Tree) → kind_at (ts ++ t ∷ []) (length ts) ≡ kind_of t.head
kind_at-last [] t = refl
kind_at-last (u ∷ ts) t = kind_at-last ts t

pub tree_at-last : (ts : List Tree) (t : Tree) → tree_at (ts ++ t ∷ []) (length ts) ≡ t
tree_at-last [] t = refl
tree_at-last (u ∷ ts) t = tree_at-last ts t

pub trees_at-append : (ts us : List Tree) (ks : List ℕ) → Below (length ts) ks → trees_at (ts ++ us) ks ≡ trees_at ts ks
trees_at-append ts us [] h = refl
trees_at-append ts us (k ∷ ks) h =
    let e = tree_at-append ts us k h.0 in let f = trees_at-append ts us ks h.1 in cc

pub kinds_at-append : (ts us : List Tree) (ks : List ℕ) → Below (length ts) ks → kinds_at (ts ++ us) ks ≡ kinds_at ts ks
kinds_at-append ts us [] h = refl
kinds_at-append ts us (k ∷ ks) h =
    let e = kind_at-append ts us k h.0 in let f = kinds_at-append ts us ks h.1 in cc

and-both : (a b : Bool) → a && b ≡ true → (a ≡ true) × (b ≡ true)
and-both true b e = (refl, e)
and-both false b e = absurd cc

pub Below-there : (ts : List Tree) (ks : List ℕ) (ss : List Kind) → kinds_at ts ks ≡ ss → all_there ss ≡ true → Below (length ts) ks
Below-there ts [] ss e p = tt
Below-there ts (k ∷ ks) [] e p = absurd cc
Below-there ts (k ∷ ks) (s ∷ ss) e p =
    let e1 : kind_at ts k ≡ s = cc in let e2 : kinds_at ts ks ≡ ss = cc in
    let b = and-both (there s) (all_there ss) p in
    (below_kind ts k s b.0 e1, Below-there ts ks ss e2 b.1)

there-args : (xs : List GenericArg) → all_there (sorts (map arg_child xs)) ≡ true
there-args [] = refl
there-args (A.Ty t ∷ xs) = there-args xs
there-args (A.Const t ∷ xs) = there-args xs
there-args (A.Region t ∷ xs) = there-args xs

pub there-preds : (xs : List Pred) → all_there (sorts (map pred_child xs)) ≡ true
there-preds [] = refl
there-preds (p ∷ xs) = there-preds xs

pub there-clauses : (xs : List Clause) → all_there (sorts (map clause_child xs)) ≡ true
there-clauses [] = refl
there-clauses (c ∷ xs) = there-clauses xs

pub there-vars : (xs : List Var) → all_there (sorts (map var_child xs)) ≡ true
there-vars [] = refl
there-vars (p ∷ xs) = there-vars xs

there-ty : (k : TyKind) → all_there (sorts (ty_children k)) ≡ true
there-ty (K.Pat _ Pat.NotNull) = refl
there-ty (K.Pat _ (Pat.Range _ _)) = refl
there-ty _ = refl

there-const : (k : ConstKind) → all_there (sorts (const_children k)) ≡ true
there-const (CK.Unevaluated _ _) = refl
there-const _ = refl

there-pred : (v : ExistentialPredicate) (b : Binder ExistentialPredicate) → b.value ≡ v → all_there (sorts (pred_children b)) ≡ true
there-pred (E.Trait _) b e = rw e refl
there-pred (E.Projection _) b e = rw e refl
there-pred (E.AutoTrait _) b e = rw e refl

there-clause : (v : ClauseKind) (b : Binder ClauseKind) → b.value ≡ v → all_there (sorts (clause_children b)) ≡ true
there-clause (Cl.Trait _) b e = rw e refl
there-clause (Cl.Projection _) b e = rw e refl
there-clause (Cl.TypeOutlives _ _) b e = rw e refl
there-clause (Cl.RegionOutlives _ _) b e = rw e refl
there-clause (Cl.AliasRelate _ _) b e = rw e refl
there-clause (Cl.ConstEquate _ _) b e = rw e refl

pub there-children : (d : Node) → all_there (sorts (children_of d)) ≡ true
there-children (N.Ty k) = there-ty k
there-children (N.Const k) = there-const k
there-children (N.Region k) = refl
there-children (N.Args v) = there-args v.items
there-children (N.Preds v) = there-preds v.items
there-children (N.Clauses v) = there-clauses v.items
there-children (N.Pred b) = there-pred b.value b refl
there-children (N.Clause b) = there-clause b.value b refl
there-children (N.Sig b) = refl
there-children (N.Vars v) = there-vars v.items
there-children (N.Var k) = refl

pub Fits-below : (ts : List Tree) (n : Node) → Fits ts n → Below (length ts) (numbers (children_of n))
Fits-below ts n f = Below-there ts (numbers (children_of n)) (sorts (children_of n)) f (there-children n)

pub Fits-append : (ts us : List Tree) (n : Node) → Fits ts n → Fits (ts ++ us) n
Fits-append ts us n f = kinds_at-append ts us (numbers (children_of n)) (Fits-below ts n f) ∙ f

pub node_tree-append : (ts us : List Tree) (n : Node) → Fits ts n → node_tree (ts ++ us) n ≡ node_tree ts n
node_tree-append ts us n f =
    ap (λ (x : List Tree). let t : Tree = record { head = head_of n; children = rows x } in t)
    (trees_at-append ts us (numbers (children_of n)) (Fits-below ts n f))

-- the tree that was added last
pub kind-added : (ts us : List Tree) (t : Tree) (n : ℕ) → us ≡ ts ++ t ∷ [] → n ≡ length ts → kind_at us n ≡ kind_of t.head
kind-added ts us t n e m = rw (e, m) (kind_at-last ts t)

pub kind-pushed : (ts us : List Tree) (t : Tree) (r : Result ℕ Stop)
    → IfOk r (λ n. n ≡ length ts) → IfOk r (λ _. us ≡ ts ++ t ∷ []) → IfOk r (λ n. kind_at us n ≡ kind_of t.head)
kind-pushed ts us t (Ok n) m e = kind-added ts us t n e m
kind-pushed ts us t (Err s) m e = tt
