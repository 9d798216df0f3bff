-- A node that is put into a table: it is there, or becomes the last.
use Rattle.std.proofs.Common.{◌≡◌, ℕ, zero, suc, ◌+◌, ◌<◌, ◌≤◌, List, [], ◌∷◌, ◌++◌, length, Option, Some, None, Ok, Err, Result, refl, sym, ◌∙◌, ap, subst, arith, inl, inr, length-append}
use Rattle.std.specs.Prelude.{IfOk, IfErr}
use Rattle.std.specs.List.{position, position_or_len}
use Rattle.std.specs.Map.{keys_of}
use Rattle.indexmap.specs.IndexMap.{insert_entry, set_value_at}
use Rattle.indexmap.specs.Layout.{length-set_value_at}
use Rattle.indexmap.proofs.MapLemmas.{Missing-position, Found-position, insert_entry-absent, insert_entry-first}
use Rattle.ir_trees.specs.declared.ir.node.Kept.{Kept}
use Rattle.ir_trees.specs.declared.ir.node.Node.{Node}
use Rattle.ir_trees.specs.declared.ir.stop.Stop.{Stop}
use Rattle.ir_trees.specs.Declarations.References.{Takes, AllFit}
use Rattle.ir_trees.specs.Declarations.Worlds.{World}
use Rattle.ir_trees.specs.Syntax.Flags.{mark}
use Rattle.ir_trees.specs.Syntax.Marks.{AreMarks}
use Rattle.ir_trees.specs.Syntax.Nodes.{tree_at, kind_at, node_tree, Extends}
use Rattle.ir_trees.specs.Syntax.Shapes.{same_shape}
use Rattle.ir_trees.specs.Syntax.Table.{Row, trees_after, IsRow, AreRows, AreDistinct, Puts}
use Rattle.ir_trees.specs.Syntax.Trees.{Tree, height, kind_of, tree_holds}
use Rattle.ir_trees.proofs.Syntax.Lists.{kind-pushed, kind_of-tree_at, tree_at-append, tree_at-last}
use Rattle.ir_trees.proofs.Growth.Distinct.{absent, distinct-more, found}
use Rattle.ir_trees.proofs.Growth.Growing.{extends-refl}
use Rattle.ir_trees.proofs.Growth.Tables.{pushed, table_length, trees_after-extends}
use Rattle.ir_trees.proofs.Kinding.References.{added-fits}

-- what is kept beside a node is nothing to the trees
replaced-trees : (ts : List Tree) (es : List Row) (i : ℕ) (k : Kept) → trees_after ts (set_value_at es i k) ≡ trees_after ts es
replaced-trees ts [] i k = refl
replaced-trees ts (e ∷ es) zero k = refl
replaced-trees ts (e ∷ es) (suc i) k = replaced-trees (ts ++ node_tree ts e.0 ∷ []) es i k

-- a row's tree is that of its number
first-tree : (ts : List Tree) (e : Row) (es : List Row) → tree_at (trees_after ts (e ∷ es)) (length ts) ≡ node_tree ts e.0
first-tree ts e es =
    let x = node_tree ts e.0 in
    let g = trees_after-extends (ts ++ x ∷ []) es in
    ap (λ (us : List Tree). tree_at us (length ts)) g.is
    ∙ (tree_at-append (ts ++ x ∷ []) g.added (length ts) (omega (arith, length-append ts (x ∷ []))) ∙ tree_at-last ts x)

-- what is kept of the same tree may be kept beside the node
replaced-rows : (ts : List Tree) (es : List Row) (i : ℕ) (k : Kept) (t : Tree) → AreRows ts es → i < length es
    → tree_at (trees_after ts es) (length ts + i) ≡ t → k.height ≡ height t → k.height ≤ 1024 → AreMarks k.marks t
    → AreRows ts (set_value_at es i k)
replaced-rows ts [] i k t a l e h w m = absurd (omega arith)
replaced-rows ts (e ∷ es) zero k t a l p h w m =
    let n : length ts + 0 ≡ length ts = omega arith in
    let q : t ≡ node_tree ts e.0 = sym p ∙ (ap (tree_at (trees_after ts (e ∷ es))) n ∙ first-tree ts e es) in (
      record {
        fits = a.0.fits;
        height_is = h ∙ ap height q;
        low = w;
        marks_are = λ f. m f ∙ ap (tree_holds (mark f)) q;
        principal = a.0.principal;
      },
      a.1,
    )
replaced-rows ts (e ∷ es) (suc i) k t a l p h w m =
    let x = node_tree ts e.0 in
    let n : length (ts ++ x ∷ []) + i ≡ length ts + suc i = omega (arith, length-append ts (x ∷ [])) in
    (a.0, replaced-rows (ts ++ x ∷ []) es i k t a.1 (omega arith) (ap (tree_at (trees_after ts (e ∷ es))) n ∙ p) h w m)

-- the table after a node was put into it
pub record IsPut (ts : List Tree) (us : List Row) (d : Node) (n : ℕ) : Type 0 where
  pub rows : AreRows [] us
  pub count : length us ≤ length ts + 1
  pub number : Puts ts (trees_after [] us) (node_tree ts d) n
  pub distinct : AreDistinct (trees_after [] us)

pub put : (ts : List Tree) (es us : List Row) (d : Node) (k : Kept) (n : ℕ) → trees_after [] es ≡ ts → AreRows [] es → AreDistinct (trees_after [] es)
    → IsRow ts (d, k) → us ≡ insert_entry same_shape es d k → n ≡ position_or_len (same_shape d) (keys_of es) → IsPut ts us d n
put ts es us d k n e a u i p q = by (position (same_shape d) (keys_of es)) refl
  where
    by : (r : Option ℕ) → position (same_shape d) (keys_of es) ≡ r → IsPut ts us d n
    by None m =
        let x = Missing-position (same_shape d) es m in
        let v : AreDistinct ts = subst AreDistinct e u in
        let w = pushed ts es us (d, k) e (p ∙ insert_entry-absent same_shape d k es x.absent) a i in
        record {
          rows = w.rows;
          count = omega (arith, w.count);
          number = inr (w.trees, q ∙ (x.or_len ∙ sym (table_length ts es e)));
          distinct = distinct-more ts _ _ w.trees v (absent ts es d e a v i.fits (sym m));
        }
    by (Some j) m =
        let x = Found-position (same_shape d) es j m in
        let f = found ts es d j e a (sym m) in
        let o : n ≡ j = q ∙ x.or_len in
        let new : us ≡ set_value_at es j k = p ∙ insert_entry-first same_shape d k es j x.first in
        let same : trees_after [] us ≡ ts = ap (trees_after []) new ∙ (replaced-trees [] es j k ∙ e) in
        let z : 0 + j ≡ j = omega arith in
        let t : tree_at (trees_after [] es) (0 + j) ≡ node_tree ts d = ap (tree_at (trees_after [] es)) z ∙ (ap (λ (xs : List Tree). tree_at xs j) e ∙ f.1) in
        record {
          rows = subst (AreRows []) (sym new) (replaced-rows [] es j k (node_tree ts d) a x.within t i.height_is i.low i.marks_are);
          count = omega (arith, ap length new, length-set_value_at es j k, table_length ts es e);
          number = inl (same, omega (arith, f.0), ap (tree_at ts) o ∙ f.1);
          distinct = subst AreDistinct (e ∙ sym same) u;
        }

-- what the number of a tree says of the table before and after
pub put-extends : (old new : List Tree) (t : Tree) (r : Result ℕ Stop) → IfOk r (Puts old new t) → IfErr r (λ _. new ≡ old) → Extends old new
put-extends old new t (Ok n) (inl p) u = subst (Extends old) (sym p.0) (extends-refl old)
put-extends old new t (Ok n) (inr p) u = record { added = t ∷ []; is = p.0 }
put-extends old new t (Err s) p u = subst (Extends old) (sym u) (extends-refl old)

pub put-fits : (w : World) (old new : List Tree) (d : Node) (r : Result ℕ Stop) → IfOk r (Puts old new (node_tree old d)) → IfErr r (λ _. new ≡ old)
    → AllFit w old → Takes w (node_tree old d) → AllFit w new
put-fits w old new d (Ok n) (inl p) u f k = subst (AllFit w) (sym p.0) f
put-fits w old new d (Ok n) (inr p) u f k = added-fits w old new d (Ok n) p.0 tt f k
put-fits w old new d (Err s) p u f k = subst (AllFit w) (sym u) f

pub put-most : (old new : List Tree) (t : Tree) (r : Result ℕ Stop) → IfOk r (Puts old new t) → IfOk r (λ _. length new ≤ length old + 1)
put-most old new t (Ok n) (inl p) = omega (arith, ap length p.0)
put-most old new t (Ok n) (inr p) = omega (arith, ap length p.0, length-append old (t ∷ []))
put-most old new t (Err s) p = tt

pub put-kind : (old new : List Tree) (t : Tree) (r : Result ℕ Stop) → IfOk r (Puts old new t) → IfOk r (λ n. kind_at new n ≡ kind_of t.head)
put-kind old new t (Ok n) (inl p) =
    ap (λ (us : List Tree). kind_at us n) p.0 ∙ (kind_of-tree_at old n p.1 ∙ ap (λ (x : Tree). kind_of x.head) p.2)
put-kind old new t (Ok n) (inr p) = kind-pushed old new t (Ok n) p.1 p.0
put-kind old new t (Err s) p = tt

pub put-tree : (old new : List Tree) (t : Tree) (r : Result ℕ Stop) → IfOk r (Puts old new t) → IfOk r (λ n. tree_at new n ≡ t)
put-tree old new t (Ok n) (inl p) = ap (λ (us : List Tree). tree_at us n) p.0 ∙ p.2
put-tree old new t (Ok n) (inr p) = ap (λ (us : List Tree). tree_at us n) p.0 ∙ (ap (tree_at (old ++ t ∷ [])) p.1 ∙ tree_at-last old t)
put-tree old new t (Err s) p = tt
