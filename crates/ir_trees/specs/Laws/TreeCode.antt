-- A forest as the list of its heads in order, with a mark at the end of each row.
use Rattle.std.specs.Prelude.{◌≡◌, List, [], ◌∷◌, ◌++◌, Option, Some, None}
use Rattle.std.proofs.Common.{refl, ap, sym, ◌∙◌, append_assoc}
use Rattle.std.specs.Coded.{Coded, code_by, coded×, coded_list, coded_option}
use Rattle.ir_trees.specs.declared.ir.heads.Head.{Head}
use Rattle.ir_trees.specs.Syntax.Trees.{Forest, none, tree, Tree}

abbrev pub written : Forest → List (Option Head)
written none = None ∷ []
written (tree h below rest) = Some h ∷ (written below ++ written rest)

abbrev pub grow : Head → List Forest → List Forest
grow h (below ∷ (rest ∷ others)) = tree h below rest ∷ others
grow h _ = []

abbrev pub read_one : Option Head → List Forest → List Forest
read_one None fs = none ∷ fs
read_one (Some h) fs = grow h fs

abbrev pub read : List (Option Head) → List Forest
read [] = []
read (e ∷ es) = read_one e (read es)

abbrev pub first : List Forest → Forest
first [] = none
first (f ∷ fs) = f

read-written : (f : Forest) (es : List (Option Head)) → read (written f ++ es) ≡ f ∷ read es
read-written none es = refl
read-written (tree h below rest) es =
    ap (λ (x : List (Option Head)). grow h (read x)) (append_assoc (written below) (written rest) es)
    ∙ (ap (grow h) (read-written below (written rest ++ es))
    ∙ ap (λ (x : List Forest). grow h (below ∷ x)) (read-written rest es))

append_nil : {A : Type 0} → (xs : List A) → xs ++ [] ≡ xs
append_nil [] = refl
append_nil (x ∷ xs) = ap (λ (ys : List _). x ∷ ys) (append_nil xs)

pub first-read-written : (f : Forest) → first (read (written f)) ≡ f
first-read-written f = ap (λ (es : List (Option Head)). first (read es)) (sym (append_nil (written f))) ∙ ap first (read-written f [])

abbrev pub forest_code : Coded Head → Coded Forest
forest_code c = code_by (List (Option Head)) (coded_list (coded_option c)) written (λ es. first (read es)) first-read-written

abbrev pub tree_code : Coded Head → Coded Tree
tree_code c =
    code_by (Head × Forest) (coded× c (forest_code c)) (λ t. (t.head, t.children)) (λ p. record { head = p.0; children = p.1 }) (λ _. refl)
