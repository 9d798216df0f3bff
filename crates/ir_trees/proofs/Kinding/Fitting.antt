-- A table whose nodes take their children, one after the other, fits.
use Rattle.std.proofs.Common.{◌≡◌, ◌↔◌, ◌⊎◌, inl, inr, IsTrue, ℕ, zero, suc, ◌+◌, ◌<◌, ◌≤◌, Bool, true, false, Some, List, [], ◌∷◌, length, refl, sym, ◌∙◌, ap, subst, arith}
use Rattle.std.specs.Prelude.{map, ◌||◌}
use Rattle.std.specs.List.{list_any}
use Rattle.std.proofs.Math.Nat.{eq-or-lt_of_le}
use Rattle.ir_trees.specs.declared.ir.heads.Head.{Head}
use Rattle.ir_trees.specs.declared.ir.node.Node.{Node}
use Rattle.ir_trees.specs.declared.ir.node.Node.TheVariants as N
use Rattle.ir_trees.specs.declared.ir.kinds.TyKind.{TyKind}
use Rattle.ir_trees.specs.declared.ir.kinds.ConstKind.{ConstKind}
use Rattle.ir_trees.specs.declared.ir.kinds.Var.{Var}
use Rattle.ir_trees.specs.declared.ir.kinds.Binder.{Binder}
use Rattle.ir_trees.specs.declared.ir.kinds.ExistentialPredicate.{ExistentialPredicate}
use Rattle.ir_trees.specs.declared.ir.kinds.ClauseKind.{ClauseKind}
use Rattle.ir_trees.specs.Syntax.Trees.{Kind, VariableKind, none, Tree, put}
use Rattle.ir_trees.specs.Syntax.Kinds.{numbers}
use Rattle.ir_trees.specs.Syntax.Nodes.{Fits, rows, tree_at, trees_at, kind_at, head_of, children_of, node_tree, var_child}
use Rattle.ir_trees.specs.Syntax.Table.{Below, IsNodeOf}
use Rattle.ir_trees.specs.Declarations.Worlds.{World, Fits as FitsWorld, kinds_of, all_of}
use Rattle.ir_trees.specs.Declarations.References.{Takes, FitsAmong, AllFit}
use Rattle.ir_trees.specs.Syntax.Words.{VarListFits}
use Rattle.ir_trees.proofs.Kinding.References.{made-fits, fit-at, row-kinds, signature-takes}

variable-list : (ts : List Tree) (xs : List Var) → VarListFits ts xs
    → all_of VariableKind (kinds_of (rows (trees_at ts (numbers (map var_child xs))))) ≡ kinds_of (rows (trees_at ts (numbers (map var_child xs))))
variable-list ts [] e = refl
variable-list ts (x ∷ xs) e =
    let i : kind_at ts x.0 ≡ VariableKind = cc in
    let f : VarListFits ts xs = cc in
    let here = row-kinds ts x.0 VariableKind (rows (trees_at ts (numbers (map var_child xs)))) refl refl i in
    ap (all_of VariableKind) here ∙ (ap (λ (ks : List Kind). VariableKind ∷ ks) (variable-list ts xs f) ∙ sym here)

-- what is no type, constant, bound or clause takes its children wherever they are of their kinds
pub plain-node-takes : (w : World) (ts : List Tree) (d : Node) → Fits ts d → ((k : TyKind) → d ≡ N.Ty k → ⊥) → ((k : ConstKind) → d ≡ N.Const k → ⊥)
    → ((b : Binder ExistentialPredicate) → d ≡ N.Pred b → ⊥) → ((b : Binder ClauseKind) → d ≡ N.Clause b → ⊥) → Takes w (node_tree ts d)
plain-node-takes w ts (N.Ty k) f t c p l = absurd (t k refl)
plain-node-takes w ts (N.Const k) f t c p l = absurd (c k refl)
plain-node-takes w ts (N.Pred b) f t c p l = absurd (p b refl)
plain-node-takes w ts (N.Clause b) f t c p l = absurd (l b refl)
plain-node-takes w ts (N.Sig s) f t c p l = signature-takes w ts s f
plain-node-takes w ts (N.Vars v) f t c p l = λ _. ap Some (variable-list ts v.items f)
plain-node-takes w ts (N.Region k) f t c p l = λ _. refl
plain-node-takes w ts (N.Var k) f t c p l = λ _. refl
plain-node-takes w ts (N.Args v) f t c p l = λ h. absurd cc
plain-node-takes w ts (N.Preds v) f t c p l = λ h. absurd cc
plain-node-takes w ts (N.Clauses v) f t c p l = λ h. absurd cc

below-fit : (w : World) (ts : List Tree) (n : ℕ) (ks : List ℕ) → ((k : ℕ) → k < n → FitsAmong w (tree_at ts k)) → Below n ks → AllFit w (trees_at ts ks)
below-fit w ts n [] f b = tt
below-fit w ts n (k ∷ ks) f b = (f k b.0, below-fit w ts n ks f b.1)

-- one tree more that fits
pub one-fits : (w : World) (ts : List Tree) (n : ℕ) (d : Node) → IsNodeOf ts n d → Takes w (node_tree ts d)
    → ((k : ℕ) → k < n → FitsAmong w (tree_at ts k)) → (k : ℕ) → k < n + 1 → FitsAmong w (tree_at ts k)
one-fits w ts n d i t f k b = at (eq-or-lt_of_le (omega (arith, b)))
  where
    here : FitsAmong w (tree_at ts n)
    here = subst (FitsAmong w) (sym i.tree) (made-fits w (head_of d) (trees_at ts (numbers (children_of d))) (below-fit w ts n (numbers (children_of d)) f i.below) t)

    at : (k ≡ n) ⊎ (k < n) → FitsAmong w (tree_at ts k)
    at (inl e) = subst (λ (m : ℕ). FitsAmong w (tree_at ts m)) (sym e) here
    at (inr h) = f k h

fits-all : (w : World) (ts : List Tree) → ((k : ℕ) → k < length ts → FitsAmong w (tree_at ts k)) → AllFit w ts
fits-all w [] f = tt
fits-all w (t ∷ ts) f = (f 0 (omega arith), fits-all w ts (λ k b. f (suc k) (omega (arith, b))))

pub all-fit : (w : World) (ts : List Tree) (n : ℕ) → length ts ≤ n → ((k : ℕ) → k < n → FitsAmong w (tree_at ts k)) → IsTrue true ↔ AllFit w ts
all-fit w ts n l f = (λ _. fits-all w ts (λ k b. f k (omega (arith, b, l))), λ _. refl)

takes-of : (w : World) (t : Tree) → FitsAmong w t → Takes w t
takes-of w t f l = let g : FitsWorld w (put false t none) = subst (λ (b : Bool). FitsWorld w (put b t none)) l f in g.0

-- one node that doesn't take its children
pub one-misfits : (w : World) (ts : List Tree) (n : ℕ) (d : Node) (b : Bool) → IsNodeOf ts n d → IsTrue b ↔ Takes w (node_tree ts d) → b ≡ false → IsTrue false ↔ AllFit w ts
one-misfits w ts n d b i r e =
    (λ h. absurd cc, λ f. absurd (let t : IsTrue b = r.1 (takes-of w (node_tree ts d) (subst (FitsAmong w) i.tree (fit-at w ts f n))) in cc))

-- marks of roots, asked one after the other
pub one-more-lacks : (m : Head → Bool) (ts : List Tree) (n : ℕ) → ((k : ℕ) → k < n → m (tree_at ts k).head ≡ false) → m (tree_at ts n).head ≡ false
    → (k : ℕ) → k < n + 1 → m (tree_at ts k).head ≡ false
one-more-lacks m ts n f e k b = at (eq-or-lt_of_le (omega (arith, b)))
  where
    at : (k ≡ n) ⊎ (k < n) → m (tree_at ts k).head ≡ false
    at (inl q) = ap (λ (j : ℕ). m (tree_at ts j).head) q ∙ e
    at (inr h) = f k h

all-lack : (m : Head → Bool) (ts : List Tree) → ((k : ℕ) → k < length ts → m (tree_at ts k).head ≡ false) → false ≡ list_any (λ t. m t.head) ts
all-lack m [] f = refl
all-lack m (t ∷ ts) f = rw (f 0 (omega arith)) (all-lack m ts (λ k b. f (suc k) (omega (arith, b))))

pub none-has : (m : Head → Bool) (ts : List Tree) (n : ℕ) → length ts ≤ n → ((k : ℕ) → k < n → m (tree_at ts k).head ≡ false) → false ≡ list_any (λ t. m t.head) ts
none-has m ts n l f = all-lack m ts (λ k b. f k (omega (arith, b, l)))

pub one-has : (m : Head → Bool) (ts : List Tree) (n : ℕ) → n < length ts → m (tree_at ts n).head ≡ true → true ≡ list_any (λ t. m t.head) ts
one-has m [] n b e = absurd (omega arith)
one-has m (t ∷ ts) zero b e = rw e refl
one-has m (t ∷ ts) (suc n) b e = more (m t.head) (one-has m ts n (omega (arith, b)) e)
  where
    more : (a : Bool) → true ≡ list_any (λ t. m t.head) ts → true ≡ (a || list_any (λ t. m t.head) ts)
    more true h = refl
    more false h = h

pub head-at : (m : Head → Bool) (ts : List Tree) (n : ℕ) (d : Node) (h : Head) (b c : Bool) → IsNodeOf ts n d → h ≡ head_of d → b ≡ m h → b ≡ c → m (tree_at ts n).head ≡ c
head-at m ts n d h b c i e r f = ap (λ (t : Tree). m t.head) i.tree ∙ (ap m (sym e) ∙ (sym r ∙ f))
