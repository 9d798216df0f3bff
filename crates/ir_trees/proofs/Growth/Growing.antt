-- Nodes that are added one by one, and a table that is cut back.
use Rattle.std.proofs.Common.{◌≡◌, ℕ, zero, suc, ◌+◌, ◌<◌, ◌≤◌, List, [], ◌∷◌, ◌++◌, length, get_or, take, true, sym, ◌∙◌, ap, subst, arith, append_assoc, length-append, ◌⊎◌, inl, inr}
use Rattle.std.proofs.lemmas.List.{append-nil, map_push, map_more, take_at, take_all, length-map, length-take-le}
use Rattle.std.specs.Prelude.{map}
use Rattle.ir_trees.specs.declared.ir.node.Node.TheVariants as N
use Rattle.ir_trees.specs.declared.ir.heads.Head.TheVariants as H
use Rattle.ir_trees.specs.declared.ir.heads.PartHead.TheVariants as P
use Rattle.ir_trees.specs.declared.ir.kinds.Var.{Var}
use Rattle.ir_trees.specs.declared.ir.kinds.VarKind.{VarKind}
use Rattle.ir_trees.specs.declared.ir.kinds.Pred.{Pred}
use Rattle.ir_trees.specs.declared.ir.kinds.Binder.{Binder}
use Rattle.ir_trees.specs.declared.ir.kinds.ExistentialPredicate.{ExistentialPredicate}
use Rattle.ir_trees.specs.declared.ir.stop.Stop.{Stop}
use Rattle.ir_trees.specs.Syntax.Trees.{Kind, VariableKind, PredicateKind, Tree, height, heights}
use Rattle.ir_trees.specs.Syntax.Kinds.{Child, numbers, sorts}
use Rattle.ir_trees.specs.Syntax.Nodes.{tree_at, kind_at, trees_at, kinds_at, rows, node_of, node_tree, tallest, pred_child, var_child, Extends}
use Rattle.ir_trees.specs.Syntax.Table.{Row, trees_after, AreRows, Below}
use Rattle.ir_trees.specs.Syntax.Words.{IsVar, IsPred, PredFits, BoundsFit, var_tree, pred_tree, var_kind_tree, vars_kind_tree, binder_tree, pred_kind_tree, pred_list_forest, bounds_forest, IsMkStop, IsMkListStop}
use Rattle.ir_trees.proofs.Syntax.Lists.{all_there, there-preds, there-vars, Below-there, kinds_at-append, trees_at-append, Fits-append, node_tree-append}
use Rattle.ir_trees.specs.Declarations.Worlds.{World}
use Rattle.ir_trees.specs.Declarations.References.{Takes, AllTake, AllFit}
use Rattle.ir_trees.proofs.Kinding.References.{take-at}
use Rattle.ir_trees.proofs.Syntax.Splits.{rows-height}
use Rattle.ir_trees.proofs.Growth.Tables.{trees_after-extends}

trees_after-take : (ts : List Tree) (rs : List Row) (n : ℕ) → trees_after ts (take n rs) ≡ take (length ts + n) (trees_after ts rs)
trees_after-take ts rs zero =
    let e = trees_after-extends ts rs in
    sym (ap (take (length ts + 0)) e.is ∙ take_at ts e.added (length ts + 0) (omega arith))
trees_after-take ts [] (suc n) = sym (take_all (length ts + suc n) ts (omega arith))
trees_after-take ts (q ∷ rs) (suc n) =
    let x = node_tree ts q.0 in
    let m : length (ts ++ x ∷ []) + n ≡ length ts + suc n = omega (arith, length-append ts (x ∷ [])) in
    trees_after-take (ts ++ x ∷ []) rs n ∙ ap (λ (k : ℕ). take k (trees_after (ts ++ x ∷ []) rs)) m

-- the trees of the first rows are the first trees
pub front-trees : (rs : List Row) (n : ℕ) → trees_after [] (take n rs) ≡ take n (trees_after [] rs)
front-trees rs n =
    let m : 0 + n ≡ n = omega arith in
    trees_after-take [] rs n ∙ ap (λ (k : ℕ). take k (trees_after [] rs)) m

pub front-rows : (ts : List Tree) (rs : List Row) (n : ℕ) → AreRows ts rs → AreRows ts (take n rs)
front-rows ts rs zero a = tt
front-rows ts [] (suc n) a = tt
front-rows ts (q ∷ rs) (suc n) a = (a.0, front-rows (ts ++ node_tree ts q.0 ∷ []) rs n a.1)

pub extends-refl : (ts : List Tree) → Extends ts ts
extends-refl ts = record { added = []; is = sym (append-nil ts) }

pub extends-trans : (a b c : List Tree) → Extends a b → Extends b c → Extends a c
extends-trans a b c g h = record {
  added = g.added ++ h.added;
  is = h.is ∙ (ap (λ (ts : List Tree). ts ++ h.added) g.is ∙ append_assoc a g.added h.added);
}

-- a table that nodes were added to: their numbers, with what they stand for, and their trees, which fit where P says so
pub record Made (P : World → Type 0) (old new : List Tree) (cs : List Child) (ts : List Tree) : Type 0 where
  pub kept : Extends old new
  pub fit : (w : World) → P w → AllFit w old → AllFit w new
  pub most : length new ≤ length old + length cs
  pub fits : kinds_at new (numbers cs) ≡ sorts cs
  pub trees : trees_at new (numbers cs) ≡ ts

pub made-one : (P : World → Type 0) (old now new : List Tree) (cs : List Child) (ts : List Tree) (n : ℕ) (k : Kind) (t : Tree)
    → Made P old now cs ts → all_there (sorts cs) ≡ true
    → Extends now new → ((w : World) → P w → AllFit w now → AllFit w new) → length new ≤ length now + 1 → kind_at new n ≡ k → tree_at new n ≡ t
    → Made P old new (cs ++ (n, k) ∷ []) (ts ++ t ∷ [])
made-one P old now new cs ts n k t m p e j l f g =
    let ks = numbers cs in
    let c : Child = (n, k) in
    let b : Below (length now) ks = Below-there now ks (sorts cs) m.fits p in
    let nums : numbers (cs ++ c ∷ []) ≡ ks ++ n ∷ [] = map_push (λ (x : Child). x.0) cs c in
    let kinds : kinds_at new ks ≡ sorts cs = ap (λ (us : List Tree). kinds_at us ks) e.is ∙ (kinds_at-append now e.added ks b ∙ m.fits) in
    let trees : trees_at new ks ≡ ts = ap (λ (us : List Tree). trees_at us ks) e.is ∙ (trees_at-append now e.added ks b ∙ m.trees) in
    let last-kind : kinds_at new (ks ++ n ∷ []) ≡ kinds_at new ks ++ kind_at new n ∷ [] = map_push (kind_at new) ks n in
    let last-tree : trees_at new (ks ++ n ∷ []) ≡ trees_at new ks ++ tree_at new n ∷ [] = map_push (tree_at new) ks n in
    let all : sorts (cs ++ c ∷ []) ≡ sorts cs ++ k ∷ [] = map_push (λ (x : Child). x.1) cs c in
    record {
      kept = extends-trans old now new m.kept e;
      fit = λ w q a. j w q (m.fit w q a);
      most = omega (arith, m.most, l, length-append cs (c ∷ []));
      fits = ap (kinds_at new) nums ∙ (last-kind ∙ cc);
      trees = ap (trees_at new) nums ∙ (last-tree ∙ cc);
    }

pub tallest-at : {X : Type 0} → (f : X → Tree) (xs : List X) (i : ℕ) (d : X) → i < length xs → height (f (get_or xs i d)) ≤ tallest (map f xs)
tallest-at f [] i d h = absurd (omega arith)
tallest-at f (x ∷ xs) zero d h = omega arith
tallest-at f (x ∷ xs) (suc i) d h = omega (arith, tallest-at f xs i d (omega arith))

made-length : (P : World → Type 0) (old new : List Tree) (cs : List Child) (ts : List Tree) → Made P old new cs ts → length cs ≡ length ts
made-length P old new cs ts m =
    sym (length-map cs (λ (x : Child). x.0)) ∙ (sym (length-map (numbers cs) (tree_at new)) ∙ ap length m.trees)

-- of every world
abbrev pub Always : World → Type 0
Always w = Unit {0}

-- of the worlds in which each bound takes its children
abbrev pub BoundsTake : List Tree → List (Binder ExistentialPredicate) → World → Type 0
BoundsTake ts bs w = AllTake w (map (pred_kind_tree ts) bs)

-- one more variable
pub made-var : (old now new : List Tree) (vs us : List Var) (ks : List VarKind) (i : ℕ) (d : VarKind) (v : Var)
    → Made Always old now (map var_child vs) (map var_kind_tree (take i ks)) → i < length ks
    → Extends now new → ((w : World) → AllFit w now → AllFit w new) → length new ≤ length now + 1 → IsVar new v → var_tree new v ≡ var_kind_tree (get_or ks i d)
    → us ≡ vs ++ v ∷ []
    → Made Always old new (map var_child us) (map var_kind_tree (take (i + 1) ks))
made-var old now new vs us ks i d v m h e j l f g u =
    let F : List Child → Type 0 = λ cs. Made Always old new cs (map var_kind_tree (take (i + 1) ks)) in
    let Q : List Tree → Type 0 = λ ts. Made Always old new (map var_child vs ++ var_child v ∷ []) ts in
    subst F (sym (ap (map var_child) u ∙ map_push var_child vs v))
    (subst Q (sym (map_more var_kind_tree ks i d h))
    (made-one Always old now new (map var_child vs) (map var_kind_tree (take i ks)) v.0 VariableKind (var_kind_tree (get_or ks i d)) m (there-vars vs) e (λ w q a. j w a) l f g))

-- a bound that fits a table fits the grown one, with its tree
pub pred-fits-grown : (old new : List Tree) (b : Binder ExistentialPredicate) → Extends old new → PredFits old b → PredFits new b
pred-fits-grown old new b e f =
    let P : List Tree → Type 0 = λ ts. PredFits ts b in
    subst P (sym e.is) (Fits-append old e.added (N.Pred b) f)

pub pred-tree-grown : (old new : List Tree) (b : Binder ExistentialPredicate) → Extends old new → PredFits old b → pred_kind_tree new b ≡ pred_kind_tree old b
pred-tree-grown old new b e f =
    ap (λ (ts : List Tree). pred_kind_tree ts b) e.is ∙ node_tree-append old e.added (N.Pred b) f

-- one more bound
pub made-pred : (old now new : List Tree) (ps us : List Pred) (bs : List (Binder ExistentialPredicate)) (i : ℕ) (d : Binder ExistentialPredicate) (p : Pred)
    → Made (BoundsTake old bs) old now (map pred_child ps) (map (pred_kind_tree old) (take i bs)) → BoundsFit old bs → i < length bs
    → Extends now new → ((w : World) → AllFit w now → Takes w (pred_kind_tree now (get_or bs i d)) → AllFit w new) → length new ≤ length now + 1 → IsPred new p → pred_tree new p ≡ pred_kind_tree now (get_or bs i d)
    → us ≡ ps ++ p ∷ []
    → Made (BoundsTake old bs) old new (map pred_child us) (map (pred_kind_tree old) (take (i + 1) bs))
made-pred old now new ps us bs i d p m q h e j l f g u =
    let F : List Child → Type 0 = λ cs. Made (BoundsTake old bs) old new cs (map (pred_kind_tree old) (take (i + 1) bs)) in
    let Q : List Tree → Type 0 = λ ts. Made (BoundsTake old bs) old new (map pred_child ps ++ pred_child p ∷ []) ts in
    let same = pred-tree-grown old now (get_or bs i d) m.kept (q i d h) in
    let t = g ∙ pred-tree-grown old now (get_or bs i d) m.kept (q i d h) in
    subst F (sym (ap (map pred_child) u ∙ map_push pred_child ps p))
    (subst Q (sym (map_more (pred_kind_tree old) bs i d h))
    (made-one (BoundsTake old bs) old now new (map pred_child ps) (map (pred_kind_tree old) (take i bs)) p.0 PredicateKind (pred_kind_tree old (get_or bs i d)) m (there-preds ps) e
    (λ w r a. j w a (subst (Takes w) (sym same) (take-at w (pred_kind_tree old) bs i d r h))) l f t))

-- a number is wanting where all are needed with one for the list
no-room : (P : World → Type 0) (old now : List Tree) (cs : List Child) (ts : List Tree) (i n : ℕ)
    → Made P old now cs ts → length ts ≡ i → i ≤ n → length now ≡ 4294967295 → 4294967295 < length old + (n + 1)
no-room P old now cs ts i n m k h e = let l = made-length P old now cs ts m in omega (arith, m.most, l, k, e)

-- why a bound was not added
pub pred-stop : (old now : List Tree) (ps : List Pred) (bs : List (Binder ExistentialPredicate)) (i : ℕ) (d : Binder ExistentialPredicate) (s : Stop)
    → Made (BoundsTake old bs) old now (map pred_child ps) (map (pred_kind_tree old) (take i bs)) → BoundsFit old bs → i < length bs
    → IsMkStop now (height (pred_kind_tree now (get_or bs i d))) s
    → IsMkListStop old (length bs + 1) (heights (bounds_forest old bs)) s
pred-stop old now ps bs i d s m q h (inl x) = inl x
pred-stop old now ps bs i d s m q h (inr x) = inr (x.0, at x.1)
  where
    at : (length now ≡ 4294967295) ⊎ (1024 < height (pred_kind_tree now (get_or bs i d)))
        → (4294967295 < length old + (length bs + 1)) ⊎ (1024 < heights (bounds_forest old bs))
    at (inl e) =
        let j : length (map (pred_kind_tree old) (take i bs)) ≡ i = length-map (take i bs) (pred_kind_tree old) ∙ length-take-le i bs (omega arith) in
        inl (no-room (BoundsTake old bs) old now (map pred_child ps) (map (pred_kind_tree old) (take i bs)) i (length bs) m j (omega arith) e)
    at (inr e) =
        let t = ap height (pred-tree-grown old now (get_or bs i d) m.kept (q i d h)) in
        let a = tallest-at (pred_kind_tree old) bs i d h in
        let r = rows-height (map (pred_kind_tree old) bs) in
        inr (omega (arith, t, a, r, e))

-- why a variable was not added
pub var-stop : (old now : List Tree) (vs : List Var) (ks : List VarKind) (i : ℕ) (s : Stop)
    → Made Always old now (map var_child vs) (map var_kind_tree (take i ks)) → i < length ks
    → IsMkStop now 0 s
    → IsMkListStop old (length ks + 1) (height (binder_tree ks)) s
var-stop old now vs ks i s m h (inl x) = inl x
var-stop old now vs ks i s m h (inr x) = inr (x.0, at x.1)
  where
    at : (length now ≡ 4294967295) ⊎ (1024 < 0)
        → (4294967295 < length old + (length ks + 1)) ⊎ (1024 < height (binder_tree ks))
    at (inl e) =
        let j : length (map var_kind_tree (take i ks)) ≡ i = length-map (take i ks) var_kind_tree ∙ length-take-le i ks (omega arith) in
        inl (no-room Always old now (map var_child vs) (map var_kind_tree (take i ks)) i (length ks) m j (omega arith) e)
    at (inr e) = absurd (omega arith)

-- why the list of all variables was not added
pub vars-stop : (old now : List Tree) (vs : List Var) (ks : List VarKind) (i : ℕ) (s : Stop)
    → Made Always old now (map var_child vs) (map var_kind_tree (take i ks)) → length ks ≤ i
    → IsMkStop now (height (vars_kind_tree now vs)) s
    → IsMkListStop old (length ks + 1) (height (binder_tree ks)) s
vars-stop old now vs ks i s m h (inl x) = inl x
vars-stop old now vs ks i s m h (inr x) = inr (x.0, at x.1)
  where
    all : map var_kind_tree (take i ks) ≡ map var_kind_tree ks
    all = ap (map var_kind_tree) (take_all i ks h)

    at : (length now ≡ 4294967295) ⊎ (1024 < height (vars_kind_tree now vs))
        → (4294967295 < length old + (length ks + 1)) ⊎ (1024 < height (binder_tree ks))
    at (inl e) =
        let j = ap length all ∙ length-map ks var_kind_tree in
        inl (no-room Always old now (map var_child vs) (map var_kind_tree (take i ks)) (length ks) (length ks) m j (omega arith) e)
    at (inr e) = inr (subst (λ (ts : List Tree). 1024 < height (node_of (H.Part P.Vars) ts)) (m.trees ∙ all) e)

-- why the list of all bounds was not added
pub preds-stop : (old now : List Tree) (ps : List Pred) (bs : List (Binder ExistentialPredicate)) (i : ℕ) (s : Stop)
    → Made (BoundsTake old bs) old now (map pred_child ps) (map (pred_kind_tree old) (take i bs)) → length bs ≤ i
    → IsMkStop now (heights (pred_list_forest now ps)) s
    → IsMkListStop old (length bs + 1) (heights (bounds_forest old bs)) s
preds-stop old now ps bs i s m h (inl x) = inl x
preds-stop old now ps bs i s m h (inr x) = inr (x.0, at x.1)
  where
    all : map (pred_kind_tree old) (take i bs) ≡ map (pred_kind_tree old) bs
    all = ap (map (pred_kind_tree old)) (take_all i bs h)

    at : (length now ≡ 4294967295) ⊎ (1024 < heights (pred_list_forest now ps))
        → (4294967295 < length old + (length bs + 1)) ⊎ (1024 < heights (bounds_forest old bs))
    at (inl e) =
        let j = ap length all ∙ length-map bs (pred_kind_tree old) in
        inl (no-room (BoundsTake old bs) old now (map pred_child ps) (map (pred_kind_tree old) (take i bs)) (length bs) (length bs) m j (omega arith) e)
    at (inr e) = inr (subst (λ (ts : List Tree). 1024 < heights (rows ts)) (m.trees ∙ all) e)
