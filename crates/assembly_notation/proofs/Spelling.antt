-- How many words types are spelled in.
use Rattle.std.proofs.Common.{◌≡◌, ℕ, ◌+◌, ◌≤◌, Bool, true, false, cond, List, [], ◌∷◌, nat_eq, if◌then◌else◌, refl, sym, ◌∙◌, ap, subst, arith, Result, Ok, Err}
use Rattle.std.specs.Prelude.{IfSome, OnOk, OnErr, Some, suc}
use Rattle.std.specs.Map.{lookup}
use Rattle.std.proofs.lemmas.Bool.{eqb-true}
use Rattle.indexmap.specs.IndexMap.{insert_entry}
use Rattle.ir_trees.specs.Syntax.Trees.{Forest, none, tree, Tree, skip}
use Rattle.ir_trees.specs.Syntax.Nodes.{tree_at}
use Rattle.assembly_notation.specs.Spelling.{AreCounted, IsCount, head_words, is_closed, words, tree_words, words_at}
use Rattle.assembly_notation.specs.declared.counting.Uncounted.{Uncounted}
use Rattle.assembly_notation.specs.declared.counting.Uncounted.TheVariants.{TooMany, NodesFull}

-- What is noted of each number, and of one more.

pub noted-found : (ts : List Tree) (n : ℕ) (es : List (ℕ × ℕ)) → AreCounted ts es → IfSome (lookup (nat_eq n) es) (λ w. w ≡ words_at ts n)
noted-found ts n [] a = tt
noted-found ts n (e ∷ es) a = at (nat_eq n e.0) refl (noted-found ts n es a.1)
  where
    at : (b : Bool) → nat_eq n e.0 ≡ b → IfSome (lookup (nat_eq n) es) (λ w. w ≡ words_at ts n) → IfSome (cond b (Some e.1) (lookup (nat_eq n) es)) (λ w. w ≡ words_at ts n)
    at true r f = a.0 ∙ ap (words_at ts) (sym (eqb-true n e.0 r))
    at false r f = f

pub noted-inserted : (ts : List Tree) (n w : ℕ) (es : List (ℕ × ℕ)) → AreCounted ts es → w ≡ words_at ts n → AreCounted ts (insert_entry nat_eq es n w)
noted-inserted ts n w [] a q = (q, tt)
noted-inserted ts n w (e ∷ es) a q = at (nat_eq n e.0) refl (noted-inserted ts n w es a.1 q)
  where
    at : (b : Bool) → nat_eq n e.0 ≡ b → AreCounted ts (insert_entry nat_eq es n w) → AreCounted ts (if b then (e.0, w) ∷ es else e ∷ insert_entry nat_eq es n w)
    at true r f = (q ∙ ap (words_at ts) (eqb-true n e.0 r), a.1)
    at false r f = (a.0, f)

pub noted-anyway : {A B : Type 0} (ts : List Tree) (n w : ℕ) (r : Result A B) (old new : List (ℕ × ℕ)) → OnOk r (new ≡ insert_entry nat_eq old n w) → OnErr r (new ≡ old)
    → AreCounted ts old → w ≡ words_at ts n → AreCounted ts new
noted-anyway ts n w (Ok x) old new f g a q = subst (AreCounted ts) (sym f) (noted-inserted ts n w old a q)
noted-anyway ts n w (Err x) old new f g a q = subst (AreCounted ts) (sym g) a

-- Words are too many where fewer are.
pub more-words : (m n : ℕ) (e : Uncounted) → m ≤ n → IsCount m (Err e) → IsCount n (Err e)
more-words m n TooMany l c = omega (arith, l, c)
more-words m n NodesFull l c = tt

-- The words below a head, counted from left to right.

pub child-words : (ts : List Tree) (below : Forest) (place child : ℕ) → skip place below ≡ tree (tree_at ts child).head (tree_at ts child).children (skip (suc place) below)
    → words (skip place below) ≡ words_at ts child + words (skip (place + 1) below)
child-words ts below place child at =
    let j : suc place ≡ place + 1 = omega arith in
    ap words at ∙ ap (λ k. words_at ts child + words (skip k below)) j

pub no-words : (below : Forest) (place : ℕ) → skip place below ≡ none → words (skip place below) ≡ 0
no-words below place at = ap words at

-- the words of a head, and those below one that is open
pub of-closed : (t : Tree) → is_closed t.head ≡ true → tree_words t ≡ head_words t.head t.children
of-closed t e = let r : tree_words t ≡ head_words t.head t.children + 0 = ap (λ b. head_words t.head t.children + cond b 0 (words t.children)) e in omega (arith, r)

pub of-open : (t : Tree) → is_closed t.head ≡ false → tree_words t ≡ head_words t.head t.children + words t.children
of-open t e = ap (λ b. head_words t.head t.children + cond b 0 (words t.children)) e

pub head-le : (t : Tree) → head_words t.head t.children ≤ tree_words t
head-le t = omega arith
