-- What the children of two nodes say, pair by pair.
use Rattle.std.proofs.Common.{◌≡◌, ℕ, ◌+◌, List, [], ◌∷◌, length, drop, Option, Some, None, slice_get, refl, sym, ◌∙◌, ap, arith}
use Rattle.std.specs.Option.{unwrap_or}
use Rattle.std.specs.Prelude.{Bool, true, false, ◌&&◌, ◌||◌, if◌then◌else◌}
use Rattle.ir_trees.specs.declared.ir.heads.Head.{Head}
use Rattle.ir_trees.specs.declared.ir.heads.Head.TheVariants as H
use Rattle.ir_trees.specs.declared.ir.heads.VariableSort.TheVariants as V
use Rattle.ir_trees.specs.declared.ir.heads.ListHead.{ListHead}
use Rattle.ir_trees.specs.declared.ir.heads.ListHead.TheVariants as L
use Rattle.ir_trees.specs.declared.ir.unify.RightSide.{RightSide}
use Rattle.ir_trees.specs.declared.ir.unify.RightSide.TheVariants as S
use Rattle.ir_trees.specs.Syntax.Trees.{ArgumentsKind, Forest, none, tree, Tree, kind_of, join, count}
use Rattle.ir_trees.specs.Unification.Substitutions.{is_integer, is_float}
use Rattle.ir_trees.specs.Unification.Unify.{meets_any, meets_any_on_right, is_variable_of, same_head, pair_may, may_unify, trees_may_unify}
use Rattle.ir_trees.specs.Syntax.Kinds.{numbers}
use Rattle.ir_trees.specs.Syntax.Nodes.{kind_at, trees_at, rows, tree_at, head_of, children_of, node_tree, Fits}
use Rattle.ir_trees.specs.declared.ir.node.Node.{Node}
use Rattle.ir_trees.proofs.Syntax.Equal.{head_is, head_itself}
use Rattle.ir_trees.specs.Syntax.Table.{IsNodeOf}
use Rattle.ir_trees.proofs.Syntax.Lists.{below_kind, kind_of-tree_at}
use Rattle.ir_trees.proofs.Syntax.Children.{drop_at}
use Rattle.ir_trees.proofs.Syntax.Splits.{list_of, lists, one_list, no-one, list-head_of, single-row, list-row, count-join, count-single, counts-agree, shape-one, lists-node}

-- The lines of the table, of which the first that applies decides.
abbrev pub by_lines : Bool → Bool → Bool → Bool → Bool → Bool → Bool
by_lines any integer integers float floats heads =
    if any then true else (if integer then integers else (if float then floats else heads))

pub each_line : (any integer integers float floats heads : Bool)
    → (any ≡ false → integer ≡ true → integers ≡ true)
    → (any ≡ false → float ≡ true → floats ≡ true)
    → (any ≡ false → integer ≡ false → float ≡ false → heads ≡ true)
    → by_lines any integer integers float floats heads ≡ true
each_line true integer integers float floats heads p q r = refl
each_line false true integers float floats heads p q r = p refl refl
each_line false false integers true floats heads p q r = q refl refl
each_line false false integers false floats heads p q r = r refl refl refl

pub and_true : (a b : Bool) → a ≡ true → b ≡ true → a && b ≡ true
and_true a b e f = rw (e, f)

and_false : (a b : Bool) → b ≡ false → a && b ≡ false
and_false true b e = e
and_false false b e = refl

and_assoc : (a b c : Bool) → (a && b) && c ≡ a && (b && c)
and_assoc true b c = refl
and_assoc false b c = refl

pub var_integer : (h : Head) → is_variable_of V.Integer h ≡ true → is_integer h ≡ true
var_integer (H.Infer v) e = e
var_integer _ e = absurd cc

pub var_float : (h : Head) → is_variable_of V.Floating h ≡ true → is_float h ≡ true
var_float (H.Infer v) e = e
var_float _ e = absurd cc

pub either : (a : Bool) → (a || a) ≡ true → a ≡ true
either true e = refl
either false e = e

-- a tree may be made equal to itself
pair_itself : (right : RightSide) (h : Head) (below : Bool) → below ≡ true → pair_may right h h below ≡ true
pair_itself right h below e =
    each_line (meets_any h || meets_any_on_right right h) (is_variable_of V.Integer h || is_variable_of V.Integer h) (is_integer h && is_integer h)
    (is_variable_of V.Floating h || is_variable_of V.Floating h) (is_float h && is_float h) (same_head h h && below)
    (λ _ i. let k = var_integer h (either _ i) in and_true _ _ k k)
    (λ _ f. let k = var_float h (either _ f) in and_true _ _ k k)
    (λ _ _ _. and_true _ _ (head_itself h) e)

row_itself : (right : RightSide) (a : Forest) → may_unify right a a ≡ true
row_itself right none = refl
row_itself right (tree h a r) = and_true _ _ (pair_itself right h (may_unify right a a) (row_itself right a)) (row_itself right r)

pub tree_itself : (right : RightSide) (t : Tree) → trees_may_unify right t t ≡ true
tree_itself right t = pair_itself right t.head (may_unify right t.children t.children) (row_itself right t.children)

-- rows that aren't equally long
pub uneven : (right : RightSide) (a b : Forest) → (count a ≡ count b → ⊥) → may_unify right a b ≡ false
uneven right none none n = absurd (n refl)
uneven right none (tree g b s) n = refl
uneven right (tree h a r) none n = refl
uneven right (tree h a r) (tree g b s) n =
    and_false (pair_may right h g (may_unify right a b)) (may_unify right r s) (uneven right r s (λ e. n (omega (arith, e))))

-- one row before another
may-join : (right : RightSide) (a b c d : Forest) → count c ≡ count d
    → may_unify right (join a c) (join b d) ≡ may_unify right a b && may_unify right c d
may-join right none none c d e = refl
may-join right none (tree g b s) c d e = uneven right c (tree g b (join s d)) (λ f. omega (arith, e, f, count-join s d))
may-join right (tree h a r) none c d e = uneven right (tree h a (join r c)) d (λ f. omega (arith, e, f, count-join r c))
may-join right (tree h a r) (tree g b s) c d e =
    ap (λ (x : Bool). pair_may right h g (may_unify right a b) && x) (may-join right r s c d e)
    ∙ sym (and_assoc (pair_may right h g (may_unify right a b)) (may_unify right r s) (may_unify right c d))

-- two lists say what their members say
list-pair : (right : RightSide) (l : ListHead) (below : Bool) → pair_may right (H.List l) (H.List l) below ≡ below
list-pair S.Plain l below = rw (head_itself (H.List l)) refl
list-pair S.Header l below = rw (head_itself (H.List l)) refl

list-trees : (right : RightSide) (l : ListHead) (t u : Tree) → t.head ≡ H.List l → u.head ≡ H.List l
    → trees_may_unify right t u ≡ may_unify right t.children u.children
list-trees right l t u e f =
    ap (λ (h : Head). pair_may right h u.head (may_unify right t.children u.children)) e
    ∙ (ap (λ (g : Head). pair_may right (H.List l) g (may_unify right t.children u.children)) f
    ∙ list-pair right l (may_unify right t.children u.children))

pub list_answer : (right : RightSide) (ts : List Tree) (n m : ℕ) → kind_at ts n ≡ ArgumentsKind → kind_at ts m ≡ ArgumentsKind
    → trees_may_unify right (tree_at ts n) (tree_at ts m) ≡ may_unify right (tree_at ts n).children (tree_at ts m).children
list_answer right ts n m e f = list-trees right L.Args (tree_at ts n) (tree_at ts m) (args_head ts n e) (args_head ts m f)
  where
    args_head : (ts : List Tree) (n : ℕ) → kind_at ts n ≡ ArgumentsKind → (tree_at ts n).head ≡ H.List L.Args
    args_head ts n e =
        list-head_of (tree_at ts n).head L.Args (ap list_of (sym (kind_of-tree_at ts n (below_kind ts n ArgumentsKind refl e)) ∙ e))

-- each pair may
abbrev pub all_may : RightSide → List Tree → List Tree → Bool
all_may right [] [] = true
all_may right (t ∷ ts) (u ∷ us) = trees_may_unify right t u && all_may right ts us
all_may right _ _ = false

rows-may : (right : RightSide) (bs : List (Option ListHead)) (xs ys : List Tree) → lists xs ≡ bs → lists ys ≡ bs → one_list bs ≡ true
    → may_unify right (rows xs) (rows ys) ≡ all_may right xs ys
rows-may right [] [] [] e f o = refl
rows-may right [] [] (y ∷ ys) e f o = absurd cc
rows-may right [] (x ∷ xs) ys e f o = absurd cc
rows-may right (b ∷ bs) [] ys e f o = absurd cc
rows-may right (b ∷ bs) (x ∷ xs) [] e f o = absurd cc
rows-may right (None ∷ bs) (x ∷ xs) (y ∷ ys) e f o =
    let ex : list_of (kind_of x.head) ≡ None = cc in let ey : list_of (kind_of y.head) ≡ None = cc in
    let es : lists xs ≡ bs = cc in let fs : lists ys ≡ bs = cc in
    ap (λ (r : Forest). may_unify right r (rows (y ∷ ys))) (single-row x (rows xs) ex)
    ∙ (ap (may_unify right (tree x.head x.children (rows xs))) (single-row y (rows ys) ey)
    ∙ ap (λ (b : Bool). trees_may_unify right x y && b) (rows-may right bs xs ys es fs o))
rows-may right (Some l ∷ bs) (x ∷ xs) (y ∷ ys) e f o =
    let ex : list_of (kind_of x.head) ≡ Some l = cc in let ey : list_of (kind_of y.head) ≡ Some l = cc in
    let es : lists xs ≡ bs = cc in let fs : lists ys ≡ bs = cc in
    let n : count (rows xs) ≡ count (rows ys) = count-single bs xs es o ∙ sym (count-single bs ys fs o) in
    let t = list-trees right l x y (list-head_of x.head l ex) (list-head_of y.head l ey) in
    ap (λ (r : Forest). may_unify right r (rows (y ∷ ys))) (list-row x (rows xs) l ex)
    ∙ (ap (may_unify right (join x.children (rows xs))) (list-row y (rows ys) l ey)
    ∙ (may-join right x.children y.children (rows xs) (rows ys) n
    ∙ (ap (λ (b : Bool). b && may_unify right (rows xs) (rows ys)) (sym t)
    ∙ ap (λ (b : Bool). trees_may_unify right x y && b) (rows-may right bs xs ys es fs (no-one bs o)))))

-- nodes with one head and equally many children
children-may : (right : RightSide) (ts : List Tree) (d f : Node) → Fits ts d → Fits ts f → head_of d ≡ head_of f
    → length (children_of d) ≡ length (children_of f)
    → may_unify right (node_tree ts d).children (node_tree ts f).children
    ≡ all_may right (trees_at ts (numbers (children_of d))) (trees_at ts (numbers (children_of f)))
children-may right ts d f p q h n =
    let shape_is : lists (trees_at ts (numbers (children_of f))) ≡ lists (trees_at ts (numbers (children_of d))) =
    lists-node ts f q ∙ (rw (h, n) refl ∙ sym (lists-node ts d p)) in
    rows-may right (lists (trees_at ts (numbers (children_of d)))) _ _ refl shape_is
    (ap one_list (lists-node ts d p) ∙ shape-one (head_of d) (length (children_of d)))

-- the pairs from number i on
pub next-pair : (right : RightSide) (ts : List Tree) (ks js : List ℕ) (i k j : ℕ) → slice_get ks i ≡ Some k → slice_get js i ≡ Some j
    → all_may right (trees_at ts (drop i ks)) (trees_at ts (drop i js))
    ≡ trees_may_unify right (tree_at ts k) (tree_at ts j) && all_may right (trees_at ts (drop (i + 1) ks)) (trees_at ts (drop (i + 1) js))
next-pair right ts ks js i k j e f =
    ap (λ (ns : List ℕ). all_may right (trees_at ts ns) (trees_at ts (drop i js))) (drop_at ks i k e)
    ∙ ap (λ (ns : List ℕ). all_may right (trees_at ts (k ∷ drop (i + 1) ks)) (trees_at ts ns)) (drop_at js i j f)

pub next_may : (right : RightSide) (ts : List Tree) (ks js : List ℕ) (i k j : ℕ) → slice_get ks i ≡ Some k → slice_get js i ≡ Some j
    → trees_may_unify right (tree_at ts k) (tree_at ts j) ≡ true
    → all_may right (trees_at ts ks) (trees_at ts js) ≡ all_may right (trees_at ts (drop i ks)) (trees_at ts (drop i js))
    → all_may right (trees_at ts ks) (trees_at ts js) ≡ all_may right (trees_at ts (drop (i + 1) ks)) (trees_at ts (drop (i + 1) js))
next_may right ts ks js i k j e f t so_far =
    so_far ∙ (next-pair right ts ks js i k j e f ∙ ap (λ (b : Bool). b && all_may right (trees_at ts (drop (i + 1) ks)) (trees_at ts (drop (i + 1) js))) t)

-- The heads are equal, and leave it to the children.
pub record IsLeft (right : RightSide) (h g : Head) : Type 0 where
  pub one_head : h ≡ g
  pub undecided : (below : Bool) → pair_may right h g below ≡ below

pub is_left : (right : RightSide) (h g x y : Head) (o : Option Bool) → x ≡ h → y ≡ g → o ≡ None
    → ((below : Bool) → pair_may right x y below ≡ unwrap_or o below) → (o ≡ None → x ≡ y) → IsLeft right h g
is_left right h g x y o e f n said same =
    record {
      one_head = sym e ∙ (same n ∙ f);
      undecided = λ below.
          ap (λ (z : Head). pair_may right z g below) (sym e)
          ∙ (ap (λ (z : Head). pair_may right x z below) (sym f) ∙ (said below ∙ ap (λ (z : Option Bool). unwrap_or z below) n));
    }

-- What the trees of two numbers say, where the heads leave it to the children.
module _ (right : RightSide) (ts : List Tree) (a b : ℕ) (d f : Node) (p : IsNodeOf ts a d) (q : IsNodeOf ts b f)
    (l : IsLeft right (head_of d) (head_of f)) where
  by_children : trees_may_unify right (tree_at ts a) (tree_at ts b)
      ≡ may_unify right (rows (trees_at ts (numbers (children_of d)))) (rows (trees_at ts (numbers (children_of f))))
  by_children =
      ap (λ (t : Tree). trees_may_unify right t (tree_at ts b)) p.tree
      ∙ (ap (trees_may_unify right (node_tree ts d)) q.tree
      ∙ l.undecided (may_unify right (node_tree ts d).children (node_tree ts f).children))

  pub not_as_many : (length (children_of d) ≡ length (children_of f) → ⊥) → false ≡ trees_may_unify right (tree_at ts a) (tree_at ts b)
  not_as_many n = sym (by_children ∙ uneven right _ _ (λ e. n (counts-agree ts d f p.fits q.fits l.one_head e)))

  module _ (as_many : length (children_of d) ≡ length (children_of f)) (i : ℕ)
      (so_far : all_may right (trees_at ts (numbers (children_of d))) (trees_at ts (numbers (children_of f)))
      ≡ all_may right (trees_at ts (drop i (numbers (children_of d)))) (trees_at ts (drop i (numbers (children_of f))))) where
    left : trees_may_unify right (tree_at ts a) (tree_at ts b)
        ≡ all_may right (trees_at ts (drop i (numbers (children_of d)))) (trees_at ts (drop i (numbers (children_of f))))
    left = by_children ∙ (children-may right ts d f p.fits q.fits l.one_head as_many ∙ so_far)

    -- none is left
    pub all_did : trees_at ts (drop i (numbers (children_of d))) ≡ [] → trees_at ts (drop i (numbers (children_of f))) ≡ []
        → true ≡ trees_may_unify right (tree_at ts a) (tree_at ts b)
    all_did e g = sym (left ∙ rw (e, g) refl)

    -- one pair may not
    pub one_not : (k j : ℕ) → slice_get (numbers (children_of d)) i ≡ Some k → slice_get (numbers (children_of f)) i ≡ Some j
        → trees_may_unify right (tree_at ts k) (tree_at ts j) ≡ false → false ≡ trees_may_unify right (tree_at ts a) (tree_at ts b)
    one_not k j e g n = sym (left ∙ (next-pair right ts _ _ i k j e g ∙ rw n refl))

-- one of them meets any
pub left_meets : (right : RightSide) (h g : Head) → meets_any h ≡ true → (below : Bool) → pair_may right h g below ≡ true
left_meets right h g a below = rw a refl

pub right_meets : (right : RightSide) (h g : Head) → meets_any h ≡ false → meets_any_on_right right g ≡ true
    → (below : Bool) → pair_may right h g below ≡ true
right_meets right h g a b below = rw (a, b) refl

-- none of them does, and one is an integer variable
pub integers : (right : RightSide) (h g : Head) → meets_any h ≡ false → meets_any_on_right right g ≡ false
    → (is_variable_of V.Integer h || is_variable_of V.Integer g) ≡ true
    → (below : Bool) → pair_may right h g below ≡ (is_integer h && is_integer g)
integers right h g a b i below = rw (a, b, i) refl

pub one_of : (a b : Bool) → a ≡ true → (a || b) ≡ true
one_of a b e = rw e refl

pub other_of : (a b : Bool) → a ≡ false → b ≡ true → (a || b) ≡ true
other_of a b e f = rw (e, f) refl

-- equal heads, of which none is a variable or meets any
pub heads_agree : (right : RightSide) (h g : Head) → meets_any h ≡ false → meets_any_on_right right g ≡ false
    → is_variable_of V.Integer h ≡ false → is_variable_of V.Integer g ≡ false
    → is_variable_of V.Floating h ≡ false → is_variable_of V.Floating g ≡ false
    → h ≡ g → (below : Bool) → pair_may right h g below ≡ below
heads_agree right h g a b i j f k e below =
    let s : same_head h g ≡ true = ap (λ (x : Head). same_head x g) e ∙ head_itself g in rw (a, b, i, j, f, k, s) refl

-- different heads, of which none is a variable or meets any
pub heads_differ : (right : RightSide) (h g : Head) → meets_any h ≡ false → meets_any_on_right right g ≡ false
    → is_variable_of V.Integer h ≡ false → is_variable_of V.Integer g ≡ false
    → is_variable_of V.Floating h ≡ false → is_variable_of V.Floating g ≡ false
    → (h ≡ g → ⊥) → (below : Bool) → pair_may right h g below ≡ false
heads_differ right h g a b i j f k n below = rw (a, b, i, j, f, k, differ (same_head h g) refl) refl
  where
    differ : (s : Bool) → same_head h g ≡ s → same_head h g ≡ false
    differ true e = absurd (n (head_is h g e))
    differ false e = e

-- what was said isn't nothing
pub was_said : {X A : Type 0} (x : X) → Some x ≡ None → A
was_said x e = absurd cc
