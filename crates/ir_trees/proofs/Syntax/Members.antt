-- The members of a list, one after the other.
use Rattle.std.proofs.Common.{◌≡◌, ℕ, zero, suc, ◌+◌, ◌<◌, List, [], ◌∷◌, length, get_or, Bool, true, false, refl, sym, ◌∙◌, ap, arith, add-one}
use Rattle.ir_trees.specs.declared.ir.kinds.GenericArg.{GenericArg}
use Rattle.ir_trees.specs.declared.ir.kinds.GenericArg.TheVariants as A
use Rattle.ir_trees.specs.Syntax.Kinds.{arg_number, arg_kind}
use Rattle.ir_trees.specs.Syntax.Nodes.{tree_at, kind_at}
use Rattle.ir_trees.specs.Syntax.Trees.{Forest, none, tree, Tree, count, is_list_kind, skip}
use Rattle.ir_trees.specs.Syntax.Words.{ListFits, list_forest}
use Rattle.ir_trees.specs.Unification.Substitutions.{alone, as_row, row_of}
use Rattle.ir_trees.specs.Syntax.Trees.{there}
use Rattle.ir_trees.proofs.Syntax.Rows.{row-single}

pub arg-there : (x : GenericArg) → there (arg_kind x) ≡ true
arg-there (A.Ty _) = refl
arg-there (A.Const _) = refl
arg-there (A.Region _) = refl

pub arg-single : (x : GenericArg) → is_list_kind (arg_kind x) ≡ false
arg-single (A.Ty _) = refl
arg-single (A.Const _) = refl
arg-single (A.Region _) = refl

-- so in a row it is one tree
pub arg-row : (x : GenericArg) (t : Tree) → row_of (arg_kind x) t ≡ alone t
arg-row x t = ap (λ (b : Bool). as_row b t) (arg-single x)

pub member : (ts : List Tree) (x : GenericArg) (xs : List GenericArg) → ListFits ts (x ∷ xs)
    → list_forest ts (x ∷ xs) ≡ tree (tree_at ts (arg_number x)).head (tree_at ts (arg_number x)).children (list_forest ts xs)
member ts x xs f =
    let e : kind_at ts (arg_number x) ≡ arg_kind x = cc in
    row-single ts (arg_number x) (arg_kind x) (list_forest ts xs) (arg-there x) (arg-single x) e

pub member-kind : (ts : List Tree) (xs : List GenericArg) (i : ℕ) (d : GenericArg) → ListFits ts xs → i < length xs
    → kind_at ts (arg_number (get_or xs i d)) ≡ arg_kind (get_or xs i d)
member-kind ts [] i d f h = absurd (omega arith)
member-kind ts (x ∷ xs) zero d f h = cc
member-kind ts (x ∷ xs) (suc i) d f h = let g : ListFits ts xs = cc in member-kind ts xs i d g (omega arith)

skip-next : (ts : List Tree) (xs : List GenericArg) (i : ℕ) (d : GenericArg) → ListFits ts xs → i < length xs
    → skip i (list_forest ts xs)
    ≡ tree (tree_at ts (arg_number (get_or xs i d))).head (tree_at ts (arg_number (get_or xs i d))).children (skip (suc i) (list_forest ts xs))
skip-next ts [] i d f h = absurd (omega arith)
skip-next ts (x ∷ xs) zero d f h =
    let t = tree_at ts (arg_number x) in
    let m = member ts x xs f in
    m ∙ ap (tree t.head t.children) (sym (ap (skip 1) m))
skip-next ts (x ∷ xs) (suc i) d f h =
    let g : ListFits ts xs = cc in
    let t = tree_at ts (arg_number (get_or xs i d)) in
    let m = member ts x xs f in
    ap (skip (suc i)) m ∙ (skip-next ts xs i d g (omega arith) ∙ ap (tree t.head t.children) (sym (ap (skip (suc (suc i))) m)))

-- from number i on: that member, and the others
pub skip-member : (ts : List Tree) (xs : List GenericArg) (i : ℕ) (d : GenericArg) → ListFits ts xs → i < length xs
    → skip i (list_forest ts xs)
    ≡ tree (tree_at ts (arg_number (get_or xs i d))).head (tree_at ts (arg_number (get_or xs i d))).children (skip (i + 1) (list_forest ts xs))
skip-member ts xs i d f h = rw add-one (skip-next ts xs i d f h)

pub count-members : (ts : List Tree) (xs : List GenericArg) → ListFits ts xs → count (list_forest ts xs) ≡ length xs
count-members ts [] f = refl
count-members ts (x ∷ xs) f =
    let g : ListFits ts xs = cc in
    let e = count-members ts xs g in
    let c : count (list_forest ts (x ∷ xs)) ≡ 1 + count (list_forest ts xs) = ap count (member ts x xs f) in
    omega arith

skip-past : (f : Forest) → skip (count f) f ≡ none
skip-past none = refl
skip-past (tree h below rest) =
    let e : 1 + count rest ≡ suc (count rest) = omega arith in
    ap (λ (n : ℕ). skip n (tree h below rest)) e ∙ skip-past rest

pub skip-all : (f : Forest) (i : ℕ) → i ≡ count f → skip i f ≡ none
skip-all f i e = ap (λ (n : ℕ). skip n f) e ∙ skip-past f
