-- The trees of a table.
use Rattle.std.proofs.Common.{◌≡◌, ℕ, zero, suc, ◌+◌, ◌<◌, ◌≤◌, List, [], ◌∷◌, ◌++◌, length, get_or, refl, sym, ◌∙◌, ap, subst, arith, append_assoc, length-append}
use Rattle.std.proofs.lemmas.List.{append-nil, get_or_default}
use Rattle.ir_trees.specs.declared.ir.heads.Marks.{Marks}
use Rattle.ir_trees.specs.Syntax.Flags.{mark}
use Rattle.ir_trees.specs.Syntax.Marks.{AreMarks}
use Rattle.ir_trees.specs.Syntax.Trees.{VariableKind, Tree, height, tree_holds}
use Rattle.std.specs.Prelude.{map}
use Rattle.ir_trees.specs.Syntax.Kinds.{numbers}
use Rattle.ir_trees.specs.Syntax.Nodes.{tree_at, node_tree, Fits, children_of, Extends}
use Rattle.ir_trees.specs.Syntax.Table.{Row, trees_after, IsRow, AreRows, Below, IsNodeOf, HasOnePrincipal}
use Rattle.ir_trees.specs.declared.ir.node.Node.{Node}
use Rattle.ir_trees.specs.declared.ir.node.Node.TheVariants as N
use Rattle.ir_trees.specs.Declarations.Names.{principals}
use Rattle.ir_trees.specs.Syntax.Nodes.{pred_child, rows}
use Rattle.ir_trees.specs.declared.ir.kinds.RegionKind.TheVariants as R
use Rattle.ir_trees.specs.Syntax.Nodes.{AreLeaves}
use Rattle.ir_trees.proofs.Growth.Sorts.{var_node}
use Rattle.ir_trees.proofs.Syntax.Lists.{below_kind, Fits-below, Fits-append, node_tree-append, trees_at-append, tree_at-append, tree_at-last}

pub trees_after-push : (ts : List Tree) (rs : List Row) (r : Row) → trees_after ts (rs ++ r ∷ []) ≡ trees_after ts rs ++ node_tree (trees_after ts rs) r.0 ∷ []
trees_after-push ts [] r = refl
trees_after-push ts (q ∷ rs) r = trees_after-push (ts ++ node_tree ts q.0 ∷ []) rs r

pub AreRows-push : (ts : List Tree) (rs : List Row) (r : Row) → AreRows ts rs → IsRow (trees_after ts rs) r → AreRows ts (rs ++ r ∷ [])
AreRows-push ts [] r a i = (i, tt)
AreRows-push ts (q ∷ rs) r a i = (a.0, AreRows-push (ts ++ node_tree ts q.0 ∷ []) rs r a.1 i)

pub trees_after-length : (ts : List Tree) (rs : List Row) → length (trees_after ts rs) ≡ length ts + length rs
trees_after-length ts [] = omega arith
trees_after-length ts (q ∷ rs) =
    omega (arith, trees_after-length (ts ++ node_tree ts q.0 ∷ []) rs, length-append ts (node_tree ts q.0 ∷ []))

pub trees_after-extends : (ts : List Tree) (rs : List Row) → Extends ts (trees_after ts rs)
trees_after-extends ts [] = record { added = []; is = sym (append-nil ts) }
trees_after-extends ts (q ∷ rs) =
    let x = node_tree ts q.0 in
    let e : Extends (ts ++ x ∷ []) (trees_after (ts ++ x ∷ []) rs) = trees_after-extends (ts ++ x ∷ []) rs in
    record { added = x ∷ e.added; is = e.is ∙ append_assoc ts (x ∷ []) e.added }

-- what the row of number n says
pub record RowAt (ts : List Tree) (n : ℕ) (r : Row) : Type 0 where
  pub fits : Fits ts r.0
  pub tree : tree_at ts n ≡ node_tree ts r.0
  pub below : Below n (numbers (children_of r.0))
  pub height_is : r.1.height ≡ height (tree_at ts n)
  pub low : r.1.height ≤ 1024
  pub marks_are : AreMarks r.1.marks (tree_at ts n)
  pub principal : HasOnePrincipal ts r.0

-- a list of bounds keeps its principals while the table grows
HasOnePrincipal-append : (ts us : List Tree) (d : Node) → Fits ts d → HasOnePrincipal ts d → HasOnePrincipal (ts ++ us) d
HasOnePrincipal-append ts us (N.Preds v) f h =
    let e = ap (λ (xs : List Tree). principals (rows xs)) (trees_at-append ts us (numbers (map pred_child v.items)) (Fits-below ts (N.Preds v) f)) in
    omega arith
HasOnePrincipal-append ts us (N.Ty k) f h = tt
HasOnePrincipal-append ts us (N.Const k) f h = tt
HasOnePrincipal-append ts us (N.Region k) f h = tt
HasOnePrincipal-append ts us (N.Args v) f h = tt
HasOnePrincipal-append ts us (N.Clauses v) f h = tt
HasOnePrincipal-append ts us (N.Pred b) f h = tt
HasOnePrincipal-append ts us (N.Clause b) f h = tt
HasOnePrincipal-append ts us (N.Sig b) f h = tt
HasOnePrincipal-append ts us (N.Vars v) f h = tt
HasOnePrincipal-append ts us (N.Var k) f h = tt

RowAt-grown : (ts us : List Tree) (n : ℕ) (r : Row) → n < length ts → RowAt ts n r → RowAt (ts ++ us) n r
RowAt-grown ts us n r h a =
    let t = tree_at-append ts us n h in
    record {
      fits = Fits-append ts us r.0 a.fits;
      tree = t ∙ (a.tree ∙ sym (node_tree-append ts us r.0 a.fits));
      below = a.below;
      height_is = a.height_is ∙ ap height (sym t);
      low = a.low;
      marks_are = λ f. a.marks_are f ∙ ap (tree_holds (mark f)) (sym t);
      principal = HasOnePrincipal-append ts us r.0 a.fits a.principal;
    }

RowAt-last : (ts : List Tree) (r : Row) → IsRow ts r → RowAt (ts ++ node_tree ts r.0 ∷ []) (length ts) r
RowAt-last ts r i =
    let x = node_tree ts r.0 in
    let t = tree_at-last ts x in
    record {
      fits = Fits-append ts (x ∷ []) r.0 i.fits;
      tree = t ∙ sym (node_tree-append ts (x ∷ []) r.0 i.fits);
      below = Fits-below ts r.0 i.fits;
      height_is = i.height_is ∙ ap height (sym t);
      low = i.low;
      marks_are = λ f. i.marks_are f ∙ ap (tree_holds (mark f)) (sym t);
      principal = HasOnePrincipal-append ts (x ∷ []) r.0 i.fits i.principal;
    }

pub row_at : (ts : List Tree) (rs : List Row) (k n : ℕ) (r : Row) → AreRows ts rs → k < length rs → r ≡ get_or rs k r → n ≡ length ts + k → RowAt (trees_after ts rs) n r
row_at ts [] k n r a h e m = absurd (omega arith)
row_at ts (q ∷ rs) zero n r a h e m =
    let x = node_tree ts q.0 in
    let g : Extends (ts ++ x ∷ []) (trees_after (ts ++ x ∷ []) rs) = trees_after-extends (ts ++ x ∷ []) rs in
    let l : n ≡ length ts = omega arith in
    let P : List Tree → Type 0 = λ us. RowAt us n r in
    let Q : Row → Type 0 = λ p. RowAt (ts ++ x ∷ []) n p in
    let R : ℕ → Type 0 = λ i. RowAt (ts ++ x ∷ []) i q in
    subst P (sym g.is)
    (RowAt-grown (ts ++ x ∷ []) g.added n r (omega (arith, length-append ts (x ∷ [])))
    (subst Q (sym e) (subst R (sym l) (RowAt-last ts q a.0))))
row_at ts (q ∷ rs) (suc k) n r a h e m =
    row_at (ts ++ node_tree ts q.0 ∷ []) rs k n r a.1 (omega arith) e
    (omega (arith, length-append ts (node_tree ts q.0 ∷ [])))

pub table_length : (ts : List Tree) (rs : List Row) → trees_after [] rs ≡ ts → length ts ≡ length rs
table_length ts rs e = ap length (sym e) ∙ (trees_after-length [] rs ∙ omega arith)

pub table_row : (ts : List Tree) (rs : List Row) (n : ℕ) (r : Row) → trees_after [] rs ≡ ts → AreRows [] rs → n < length ts → r ≡ get_or rs n r → RowAt ts n r
table_row ts rs n r e a h i =
    let P : List Tree → Type 0 = λ us. RowAt us n r in
    subst P e (row_at [] rs n n r a (omega (arith, table_length ts rs e)) i (omega arith))

pub RowAt-node : (ts : List Tree) (n : ℕ) (r : Row) → RowAt ts n r → IsNodeOf ts n r.0
RowAt-node ts n r a = record { fits = a.fits; tree = a.tree; below = a.below; principal = a.principal }

pub record Pushed (ts : List Tree) (us : List Row) (r : Row) : Type 0 where
  pub rows : AreRows [] us
  pub trees : trees_after [] us ≡ ts ++ node_tree ts r.0 ∷ []
  pub count : length us ≡ length ts + 1

pub pushed : (ts : List Tree) (rs us : List Row) (r : Row) → trees_after [] rs ≡ ts → us ≡ rs ++ r ∷ [] → AreRows [] rs → IsRow ts r → Pushed ts us r
pushed ts rs us r e f a i =
    let P : List Tree → Type 0 = λ xs. IsRow xs r in
    let Q : List Row → Type 0 = λ xs. Pushed ts xs r in
    let F : List Tree → List Tree = λ xs. xs ++ node_tree xs r.0 ∷ [] in
    subst Q (sym f)
    (record {
      rows = AreRows-push [] rs r a (subst P (sym e) i);
      trees = trees_after-push [] rs r ∙ ap F e;
      count = omega (arith, length-append rs (r ∷ []), table_length ts rs e);
    })

-- no mark
pub no_marks : Marks
no_marks = record { bits = 0 }

-- the variables of binders are leaves of every table
pub leaves : (ts : List Tree) (rs : List Row) → trees_after [] rs ≡ ts → AreRows [] rs → AreLeaves ts
leaves ts rs e a n k =
    let h : n < length ts = below_kind ts n VariableKind refl k in
    let l : n < length rs = omega (arith, table_length ts rs e) in
    let past : Row = (N.Region R.Static, record { height = 0; marks = no_marks }) in
    let x = table_row ts rs n (get_or rs n past) e a h (get_or_default rs n past (get_or rs n past) l) in
    let v = var_node ts n (get_or rs n past).0 k (RowAt-node ts n (get_or rs n past) x) in
    ap (λ (t : Tree). t.children) (x.tree ∙ ap (node_tree ts) v.1)
