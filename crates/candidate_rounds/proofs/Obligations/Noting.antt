-- The members of a list, the numbers of the variables in them, and lists in which there are none.
use Rattle.std.proofs.Common.{◌≡◌, ◌≤◌, ◌<◌, ◌+◌, ◌==◌, ℕ, zero, suc, Bool, true, false, List, [], ◌∷◌, ◌++◌, length, map, drop, slice_index_or, Option, Some, None, refl, sym, ◌∙◌, ap, subst, arith, if◌then◌else◌}
use Rattle.std.specs.Option.{unwrap_or}
use Rattle.std.proofs.lemmas.Bool.{eqb-true}
use Rattle.ir_trees.specs.declared.ir.heads.Head.{Head}
use Rattle.ir_trees.specs.declared.ir.kinds.GenericArg.{GenericArg}
use Rattle.ir_trees.specs.declared.ir.kinds.GenericArg.TheVariants as A
use Rattle.ir_trees.specs.Instantiation.Folding.{fold}
use Rattle.ir_trees.specs.Instantiation.Folds.{IsArg, arg_tree, node}
use Rattle.ir_trees.specs.Syntax.Kinds.{arg_child, arg_kind, arg_number, numbers}
use Rattle.ir_trees.specs.Syntax.Nodes.{kind_at, tree_at, trees_at}
use Rattle.ir_trees.specs.Unification.Substitutions.{alone}
use Rattle.ir_trees.specs.Syntax.Trees.{Forest, none, tree, Tree, binders_of, is_list_kind, put, row, skip, variable_number}
use Rattle.ir_trees.specs.Syntax.Words.{ListFits, list_forest}
use Rattle.ir_trees.proofs.Traversal.Asking.{arg-below}
use Rattle.ir_trees.proofs.Instantiation.Folding.{begin}
use Rattle.ir_trees.proofs.Syntax.Rows.{kind-of}
use Rattle.rounds_judge.specs.Obligations.Responding.{is_seen, renumbered, with_number, with_numbers, with_numbers_of}
use Rattle.candidate_rounds.proofs.Obligations.Anew.{answers, fold-is, no-variable}
use Rattle.candidate_rounds.proofs.Snapshots.Knowing.{there-arg}
use Rattle.candidate_rounds.proofs.Snapshots.Undoing.{drop-one, drop-beyond}

-- A list's members stand in a row.

pub arg-row : (ts : List Tree) (x : GenericArg) (r : Forest) → IsArg ts x → row (arg_tree ts x) r ≡ begin (arg_tree ts x) r
arg-row ts x r i = ap (λ b. put b (arg_tree ts x) r) (ap is_list_kind (kind-of ts (arg_number x) (arg_kind x) (there-arg x) i) ∙ no-list x)
  where
    no-list : (y : GenericArg) → is_list_kind (arg_kind y) ≡ false
    no-list (A.Ty _) = refl
    no-list (A.Const _) = refl
    no-list (A.Region _) = refl

abbrev pub in_row : List Tree → Forest
in_row [] = none
in_row (t ∷ us) = begin t (in_row us)

pub list-row : (ts : List Tree) (xs : List GenericArg) → ListFits ts xs → list_forest ts xs ≡ in_row (trees_at ts (numbers (map arg_child xs)))
list-row ts [] f = refl
list-row ts (x ∷ xs) f =
    let i : kind_at ts (arg_number x) ≡ arg_kind x = cc in
    let g : ListFits ts xs = cc in
    arg-row ts x (list_forest ts xs) i ∙ ap (begin (arg_tree ts x)) (list-row ts xs g)

pub arg-listed : (ts : List Tree) (xs : List GenericArg) (i : ℕ) (d : GenericArg) → i < length xs → ListFits ts xs → IsArg ts (slice_index_or xs i d)
arg-listed ts [] i d l f = absurd (omega (arith, l))
arg-listed ts (x ∷ xs) zero d l f = cc
arg-listed ts (x ∷ xs) (suc i) d l f = let g : ListFits ts xs = cc in arg-listed ts xs i d (omega (arith, l)) g

-- The member of a place.

skip-none : (i : ℕ) → skip i none ≡ none
skip-none zero = refl
skip-none (suc i) = refl

module _ (ts : List Tree) where
  first : (x : GenericArg) (xs : List GenericArg) → ListFits ts (x ∷ xs) → list_forest ts (x ∷ xs) ≡ begin (arg_tree ts x) (list_forest ts xs)
  first x xs f = let a : IsArg ts x = cc in arg-row ts x (list_forest ts xs) a

  skip-member : (xs : List GenericArg) (i : ℕ) (d : GenericArg) → ListFits ts xs → i < length xs → skip i (list_forest ts xs) ≡ begin (arg_tree ts (slice_index_or xs i d)) (skip (suc i) (list_forest ts xs))
  skip-member [] i d f l = absurd (omega (arith, l))
  skip-member (x ∷ xs) zero d f l = first x xs f ∙ ap (begin (arg_tree ts x)) (sym (ap (skip 1) (first x xs f)))
  skip-member (x ∷ xs) (suc i) d f l =
      let g : ListFits ts xs = cc in
      ap (skip (suc i)) (first x xs f)
      ∙ (skip-member xs i d g (omega (arith, l)) ∙ ap (begin (arg_tree ts (slice_index_or xs i d))) (sym (ap (skip (suc (suc i))) (first x xs f))))

  skip-members : (xs : List GenericArg) (i : ℕ) → ListFits ts xs → length xs ≤ i → skip i (list_forest ts xs) ≡ none
  skip-members [] i f l = skip-none i
  skip-members (x ∷ xs) zero f l = absurd (omega (arith, l))
  skip-members (x ∷ xs) (suc i) f l =
      let g : ListFits ts xs = cc in
      ap (skip (suc i)) (first x xs f) ∙ skip-members xs i g (omega (arith, l))

  -- of the list of a number
  module _ (n : ℕ) (xs : List GenericArg) (f : ListFits ts xs) (e : list_forest ts xs ≡ (tree_at ts n).children) where
    pub member-at : (i c : ℕ) (d : GenericArg) → i < length xs → c ≡ arg_number (slice_index_or xs i d)
        → (c < length ts) × (skip i (tree_at ts n).children ≡ tree (tree_at ts c).head (tree_at ts c).children (skip (suc i) (tree_at ts n).children))
    member-at i c d l k =
        let x = slice_index_or xs i d in
        let one : c < length ts = subst (λ m. m < length ts) (sym k) (arg-below ts x (arg-listed ts xs i d l f)) in
        let two = subst (λ r. skip i r ≡ begin (arg_tree ts x) (skip (suc i) r)) e (skip-member xs i d f l) in
        (one, two ∙ ap (λ m. begin (tree_at ts m) (skip (suc i) (tree_at ts n).children)) (sym k))

    pub members-end : (i : ℕ) → length xs ≤ i → skip i (tree_at ts n).children ≡ none
    members-end i l = subst (λ r. skip i r ≡ none) e (skip-members xs i f l)

-- One member after the other.

abbrev pub IsNotedTo : List Tree → List ℕ → List GenericArg → ℕ → List ℕ → Type 0
IsNotedTo ts from xs i ns = with_numbers ns (list_forest ts (drop i xs)) ≡ with_numbers from (list_forest ts xs)

pub one-more-noted : (ts : List Tree) (from : List ℕ) (xs : List GenericArg) (i : ℕ) (d : GenericArg) (ns ms : List ℕ) → ListFits ts xs → IsNotedTo ts from xs i ns → i < length xs
    → ms ≡ with_numbers ns (alone (arg_tree ts (slice_index_or xs i d))) → IsNotedTo ts from xs (i + 1) ms
one-more-noted ts from xs i d ns ms f e l q =
    let j : i + 1 ≡ suc i = omega arith in
    let rest = list_forest ts (drop (suc i) xs) in
    ap (λ k. with_numbers ms (list_forest ts (drop k xs))) j
    ∙ (ap (λ zs. with_numbers zs rest) q
    ∙ (sym (ap (with_numbers ns) (ap (list_forest ts) (drop-one xs i d l) ∙ arg-row ts (slice_index_or xs i d) rest (arg-listed ts xs i d l f))) ∙ e))

pub all-are-noted : (ts : List Tree) (from : List ℕ) (xs : List GenericArg) (i : ℕ) (ns : List ℕ) → IsNotedTo ts from xs i ns → length xs ≤ i → ns ≡ with_numbers from (list_forest ts xs)
all-are-noted ts from xs i ns e l = ap (λ ys. with_numbers ns (list_forest ts ys)) (sym (drop-beyond xs i l)) ∙ e

-- Where no number is noted there is no variable.

pushed-some : (ns : List ℕ) (n : ℕ) → ns ++ n ∷ [] ≡ [] → ⊥
pushed-some [] n e = cc
pushed-some (m ∷ ns) n e = cc

number-from : (ns : List ℕ) (o : Option ℕ) → with_number ns o ≡ [] → ns ≡ []
number-from ns None e = e
number-from ns (Some n) e = at (is_seen ns n) e
  where
    at : (b : Bool) → (if b then ns else ns ++ n ∷ []) ≡ [] → ns ≡ []
    at true e = e
    at false e = absurd (pushed-some ns n e)

pub numbers-from : (ns : List ℕ) (ts : Forest) → with_numbers ns ts ≡ [] → ns ≡ []
numbers-from ns none e = e
numbers-from ns (tree h below rest) e = number-from ns (variable_number h) (numbers-from (with_number ns (variable_number h)) below (numbers-from (with_numbers (with_number ns (variable_number h)) below) rest e))

pub numbers-of-from : (ns : List ℕ) (ts : List Tree) → with_numbers_of ns ts ≡ [] → ns ≡ []
numbers-of-from ns [] e = e
numbers-of-from ns (t ∷ ts) e = numbers-from ns (alone t) (numbers-of-from (with_numbers ns (alone t)) ts e)

no-number : (o : Option ℕ) → with_number [] o ≡ [] → o ≡ None
no-number None e = refl
no-number (Some n) e = cc

parts : (h : Head) (below rest : Forest) → with_numbers [] (tree h below rest) ≡ [] → (variable_number h ≡ None) × (with_numbers [] below ≡ []) × (with_numbers [] rest ≡ [])
parts h below rest e =
    let a = numbers-from (with_numbers (with_number [] (variable_number h)) below) rest e in
    let b = numbers-from (with_number [] (variable_number h)) below a in
    (no-number (variable_number h) b, subst (λ ns. with_numbers ns below ≡ []) b a, subst (λ ns. with_numbers ns rest ≡ []) a e)

unnumbered : (ns : List ℕ) (d : ℕ) (ts : Forest) → with_numbers [] ts ≡ [] → fold (answers ns) d ts ≡ ts
unnumbered ns d none e = refl
unnumbered ns d (tree h below rest) e =
    let p = parts h below rest e in
    ap (λ o. begin (unwrap_or o (record { head = h; children = fold (answers ns) (d + binders_of h) below })) (fold (answers ns) d rest)) (no-variable ns (node h below) p.0)
    ∙ (ap (λ b. tree h b (fold (answers ns) d rest)) (unnumbered ns (d + binders_of h) below p.1) ∙ ap (tree h below) (unnumbered ns d rest p.2))

none-there : (ns : List ℕ) → (length ns == 0) ≡ true → ns ≡ []
none-there [] e = refl
none-there (n ∷ ns) e = let z = eqb-true (suc (length ns)) 0 e in absurd (omega (arith, z))

pub none-anew : (ns : List ℕ) (ts : Forest) → (length ns == 0) ≡ true → (ns ≡ [] → with_numbers [] ts ≡ []) → ts ≡ renumbered ns ts
none-anew ns ts e f = sym (sym (fold-is ns 0 ts) ∙ unnumbered ns 0 ts (f (none-there ns e)))
