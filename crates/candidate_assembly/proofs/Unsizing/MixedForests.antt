-- The trees of lists of arguments of which some come from another list.
use Rattle.std.proofs.Common.{◌≡◌, ℕ, suc, Bool, true, false, List, [], ◌∷◌, length, map, Option, Some, refl, sym, ap, subst, ◌∙◌, arith}
use Rattle.std.specs.Prelude.{if◌then◌else◌}
use Rattle.ir_trees.specs.declared.ir.kinds.Args.{Args}
use Rattle.ir_trees.specs.declared.ir.kinds.GenericArg.{GenericArg}
use Rattle.ir_trees.specs.declared.ir.kinds.GenericArg.TheVariants as G
use Rattle.ir_trees.specs.Hierarchy.Elaboration.{number_listed}
use Rattle.ir_trees.specs.Instantiation.Folds.{IsArg, arg_tree}
use Rattle.ir_trees.specs.Syntax.Kinds.{arg_child, numbers}
use Rattle.ir_trees.specs.Syntax.Nodes.{kinds_at, tree_at}
use Rattle.ir_trees.specs.Syntax.Trees.{Kind, TypeKind, ConstantKind, RegionKind, ArgumentsKind, Forest, none, tree, Tree, holds, is_param, kind_of, row}
use Rattle.ir_trees.specs.Syntax.Words.{IsArgs, ListFits, args_forest, list_forest}
use Rattle.ir_trees.specs.Declarations.Worlds.{kinds_of}
use Rattle.ir_trees.proofs.Syntax.Rows.{join-none, row-list, row-single}
use Rattle.candidate_eval.proofs.Marks.Holds.{holds_parts}
use Rattle.candidate_eval.proofs.Marks.Marking.{unmarked}
use Rattle.candidate_assembly.specs.Rules.Unsizing.{mixed, mixed_list}

-- Lists, argument by argument.

pub fits-parts : (ts : List Tree) (x : GenericArg) (xs : List GenericArg) → ListFits ts (x ∷ xs) → IsArg ts x × ListFits ts xs
fits-parts ts (G.Ty t) xs h = (cc, cc)
fits-parts ts (G.Const t) xs h = (cc, cc)
fits-parts ts (G.Region t) xs h = (cc, cc)

fits-again : (ts : List Tree) (x : GenericArg) (xs : List GenericArg) → IsArg ts x → ListFits ts xs → ListFits ts (x ∷ xs)
fits-again ts (G.Ty t) xs i h = ap (λ k. k ∷ kinds_at ts (numbers (map arg_child xs))) i ∙ ap (λ ks. TypeKind ∷ ks) h
fits-again ts (G.Const t) xs i h = ap (λ k. k ∷ kinds_at ts (numbers (map arg_child xs))) i ∙ ap (λ ks. ConstantKind ∷ ks) h
fits-again ts (G.Region t) xs i h = ap (λ k. k ∷ kinds_at ts (numbers (map arg_child xs))) i ∙ ap (λ ks. RegionKind ∷ ks) h

pub one-row : (ts : List Tree) (x : GenericArg) (xs : List GenericArg) → IsArg ts x → list_forest ts (x ∷ xs) ≡ tree (arg_tree ts x).head (arg_tree ts x).children (list_forest ts xs)
one-row ts (G.Ty t) xs i = row-single ts t.0 TypeKind (list_forest ts xs) refl refl i
one-row ts (G.Const t) xs i = row-single ts t.0 ConstantKind (list_forest ts xs) refl refl i
one-row ts (G.Region t) xs i = row-single ts t.0 RegionKind (list_forest ts xs) refl refl i

kinds-length : (ts : List Tree) (xs : List GenericArg) → ListFits ts xs → length (kinds_of (list_forest ts xs)) ≡ length xs
kinds-length ts [] h = refl
kinds-length ts (x ∷ xs) h =
    let p = fits-parts ts x xs h in
    ap (λ f. length (kinds_of f)) (one-row ts x xs p.0) ∙ ap suc (kinds-length ts xs p.1)

pub same-length : (ts : List Tree) (xs ys : List GenericArg) → ListFits ts xs → ListFits ts ys → kinds_of (list_forest ts xs) ≡ kinds_of (list_forest ts ys) → length xs ≡ length ys
same-length ts xs ys h k e = sym (kinds-length ts xs h) ∙ (ap length e ∙ kinds-length ts ys k)

-- What is mixed.

abbrev one_of : Bool → Tree → Tree → Tree
one_of b t u = if b then t else u

picked-fits : (ts : List Tree) (b : Bool) (x y : GenericArg) → IsArg ts x → IsArg ts y → IsArg ts (if b then y else x)
picked-fits ts true x y i j = j
picked-fits ts false x y i j = i

picked-tree : (ts : List Tree) (b : Bool) (x y : GenericArg) → arg_tree ts (if b then y else x) ≡ one_of b (arg_tree ts y) (arg_tree ts x)
picked-tree ts true x y = refl
picked-tree ts false x y = refl

pub mixed-fits : (ts : List Tree) (changed : List ℕ) (n : ℕ) (xs ys : List GenericArg) → ListFits ts xs → ListFits ts ys → ListFits ts (mixed_list changed n xs ys)
mixed-fits ts changed n [] ys h k = refl
mixed-fits ts changed n (x ∷ xs) [] h k = refl
mixed-fits ts changed n (x ∷ xs) (y ∷ ys) h k =
    let p = fits-parts ts x xs h in
    let q = fits-parts ts y ys k in
    fits-again ts (if number_listed changed n then y else x) (mixed_list changed (suc n) xs ys) (picked-fits ts (number_listed changed n) x y p.0 q.0) (mixed-fits ts changed (suc n) xs ys p.1 q.1)

abbrev begun-by : Tree → Forest → Forest
begun-by t f = tree t.head t.children f

pub mixed-forest : (ts : List Tree) (changed : List ℕ) (n : ℕ) (xs ys : List GenericArg) → ListFits ts xs → ListFits ts ys → length xs ≡ length ys
    → list_forest ts (mixed_list changed n xs ys) ≡ mixed changed n (list_forest ts xs) (list_forest ts ys)
mixed-forest ts changed n [] ys h k e = refl
mixed-forest ts changed n (x ∷ xs) [] h k e = absurd (omega (arith, e))
mixed-forest ts changed n (x ∷ xs) (y ∷ ys) h k e =
    let p = fits-parts ts x xs h in
    let q = fits-parts ts y ys k in
    let b = number_listed changed n in
    let more = mixed_list changed (suc n) xs ys in
    one-row ts (if b then y else x) more (picked-fits ts b x y p.0 q.0)
    ∙ (ap (λ (t : Tree). begun-by t (list_forest ts more)) (picked-tree ts b x y)
    ∙ (ap (begun-by (one_of b (arg_tree ts y) (arg_tree ts x))) (mixed-forest ts changed (suc n) xs ys p.1 q.1 (omega (arith, e)))
    ∙ (ap (λ f. mixed changed n (begun-by (arg_tree ts x) (list_forest ts xs)) f) (sym (one-row ts y ys q.0))
    ∙ ap (λ f. mixed changed n f (list_forest ts (y ∷ ys))) (sym (one-row ts x xs p.0)))))

-- It has the kinds of the first.
pub mixed-kinds : (changed : List ℕ) (n : ℕ) (f g : Forest) → kinds_of f ≡ kinds_of g → kinds_of (mixed changed n f g) ≡ kinds_of f
mixed-kinds changed n none g e = refl
mixed-kinds changed n (tree h a rest) none e = absurd cc
mixed-kinds changed n (tree h a rest) (tree i b more) e =
    let here : kind_of h ≡ kind_of i = cc in
    let after : kinds_of rest ≡ kinds_of more = cc in
    ap (λ (k : Kind). k ∷ kinds_of (mixed changed (suc n) rest more)) (of here (number_listed changed n)) ∙ ap (λ ks. kind_of h ∷ ks) (mixed-kinds changed (suc n) rest more after)
  where
    of : kind_of h ≡ kind_of i → (q : Bool) → kind_of (one_of q (record { head = i; children = b }) (record { head = h; children = a })).head ≡ kind_of h
    of e true = sym e
    of e false = refl

-- No parameter stands in it where none stands in both.
pub mixed-free : (changed : List ℕ) (n : ℕ) (f g : Forest) → holds is_param f ≡ false → holds is_param g ≡ false → holds is_param (mixed changed n f g) ≡ false
mixed-free changed n none g p q = refl
mixed-free changed n (tree h a rest) none p q = refl
mixed-free changed n (tree h a rest) (tree i b more) p q =
    let x = holds_parts is_param h a rest p in
    let y = holds_parts is_param i b more q in
    of (number_listed changed n) (x.here, x.under) (y.here, y.under) (mixed-free changed (suc n) rest more x.others y.others)
  where
    of : (z : Bool) → (is_param h ≡ false) × (holds is_param a ≡ false) → (is_param i ≡ false) × (holds is_param b ≡ false) → holds is_param (mixed changed (suc n) rest more) ≡ false
        → holds is_param (begun-by (one_of z (record { head = i; children = b }) (record { head = h; children = a })) (mixed changed (suc n) rest more)) ≡ false
    of true x y r = unmarked is_param i b (mixed changed (suc n) rest more) y.0 y.1 r
    of false x y r = unmarked is_param h a (mixed changed (suc n) rest more) x.0 x.1 r

some-same : {X : Type 0} (a b : X) → Some a ≡ Some b → a ≡ b
some-same a b e = cc

-- the list that was mixed of two that a data type takes
pub mixed-row : (ts : List Tree) (o : Option (List Kind)) (cs ds : List ℕ) (f g : Forest) (xs ys zs : List GenericArg) → ListFits ts xs × (list_forest ts xs ≡ f) → ListFits ts ys × (list_forest ts ys ≡ g)
    → o ≡ Some (kinds_of f) → o ≡ Some (kinds_of g) → cs ≡ ds → zs ≡ mixed_list cs 0 xs ys → ListFits ts zs × (list_forest ts zs ≡ mixed ds 0 f g) × (kinds_of (list_forest ts zs) ≡ kinds_of f)
mixed-row ts o cs ds f g xs ys zs h k p q d z =
    let s : kinds_of f ≡ kinds_of g = some-same (kinds_of f) (kinds_of g) (sym p ∙ q) in
    let l : length xs ≡ length ys = same-length ts xs ys h.0 k.0 (ap kinds_of h.1 ∙ (s ∙ ap kinds_of (sym k.1))) in
    let is : list_forest ts zs ≡ mixed ds 0 f g
    = ap (list_forest ts) z ∙ (mixed-forest ts cs 0 xs ys h.0 k.0 l ∙ (ap (λ q. mixed cs 0 q (list_forest ts ys)) h.1 ∙ (ap (mixed cs 0 f) k.1 ∙ ap (λ ns. mixed ns 0 f g) d))) in
    (subst (ListFits ts) (sym z) (mixed-fits ts cs 0 xs ys h.0 k.0), is, ap kinds_of is ∙ mixed-kinds ds 0 f g s)

pub args-length : (ts : List Tree) (o : Option (List Kind)) (f g : Forest) (xs ys : List GenericArg) → ListFits ts xs × (list_forest ts xs ≡ f) → ListFits ts ys × (list_forest ts ys ≡ g)
    → o ≡ Some (kinds_of f) → o ≡ Some (kinds_of g) → length xs ≡ length ys
args-length ts o f g xs ys h k p q = same-length ts xs ys h.0 k.0 (ap kinds_of h.1 ∙ (some-same (kinds_of f) (kinds_of g) (sym p ∙ q) ∙ ap kinds_of (sym k.1)))

-- a list of arguments is what stands below a data type
pub args-row : (ts : List Tree) (a : Args) → IsArgs ts a → row (tree_at ts a.0) none ≡ args_forest ts a
args-row ts a i = row-list ts a.0 ArgumentsKind none refl refl i ∙ join-none (args_forest ts a)
