-- What walks that go once into each number find, and what is so of the numbers that they note.
use Rattle.std.proofs.Common.{◌≡◌, inl, inr, ℕ, suc, ◌+◌, Bool, true, false, List, [], ◌∷◌, ◌++◌, nat_eq, refl, sym, ◌∙◌, ap, subst, arith}
use Rattle.std.specs.Prelude.{◌||◌}
use Rattle.std.specs.List.{list_any}
use Rattle.std.proofs.lemmas.Bool.{eqb-true}
use Rattle.ir_trees.specs.declared.ir.heads.Head.{Head}
use Rattle.ir_trees.specs.Syntax.Nodes.{tree_at}
use Rattle.ir_trees.specs.Syntax.Trees.{Forest, none, tree, Tree, holds, skip, tree_holds}
use Rattle.ir_trees.proofs.Syntax.Children.{or-false, or-true_right}
use Rattle.ir_trees.proofs.Syntax.Splits.{or-assoc}
use Rattle.ir_trees.specs.Calls.Walked.{MayBeNoted}
use Rattle.candidate_rounds.specs.Table.Goals.{Each}

-- What is so of each noted number, and of that one, is so of each that is noted then.

module _ (P : ℕ → Type 0) where
  each-added : (ns : List ℕ) (n : ℕ) → Each P ns → P n → Each P (ns ++ n ∷ [])
  each-added [] n e p = (p, tt)
  each-added (m ∷ ns) n e p = (e.0, each-added ns n e.1 p)

  pub each-of-none : (ns : List ℕ) → ns ≡ [] → Each P ns
  each-of-none ns e = subst (Each P) (sym e) tt

  pub each-noted : (old new : List ℕ) (n : ℕ) → MayBeNoted n old new → Each P old → P n → Each P new
  each-noted old new n (inl q) e p = subst (Each P) (sym q) e
  each-noted old new n (inr q) e p = subst (Each P) (sym q) (each-added old n e p)

  noted : (ns : List ℕ) (n : ℕ) → Each P ns → list_any (nat_eq n) ns ≡ true → P n
  noted [] n e q = absurd cc
  noted (m ∷ ns) n e q = at (nat_eq n m) refl (noted ns n e.1) q
    where
      at : (b : Bool) → nat_eq n m ≡ b → (list_any (nat_eq n) ns ≡ true → P n) → b || list_any (nat_eq n) ns ≡ true → P n
      at true r f s = subst P (sym (eqb-true n m r)) e.0
      at false r f s = f s

  pub noted-is : (ns : List ℕ) (n : ℕ) (b : Bool) → Each P ns → b ≡ list_any (nat_eq n) ns → b ≡ true → P n
  noted-is ns n b e q t = noted ns n e (sym q ∙ t)

  pub each-weaker : (Q : ℕ → Type 0) → ((n : ℕ) → P n → Q n) → (ns : List ℕ) → Each P ns → Each Q ns
  each-weaker Q f [] e = tt
  each-weaker Q f (n ∷ ns) e = (f n e.0, each-weaker Q f ns e.1)

-- A look for a mark at one child after the other.

module _ (mark : Head → Bool) (ts : List Tree) where
  abbrev pub IsLookedTo : Forest → ℕ → Type 0
  IsLookedTo below place = holds mark (skip place below) ≡ holds mark below

  module _ (below : Forest) (place child : ℕ) (to : IsLookedTo below place)
      (at : skip place below ≡ tree (tree_at ts child).head (tree_at ts child).children (skip (suc place) below)) where
    child-or-rest : holds mark (skip place below) ≡ tree_holds mark (tree_at ts child) || holds mark (skip (suc place) below)
    child-or-rest = ap (holds mark) at ∙ sym (or-assoc (mark (tree_at ts child).head) (holds mark (tree_at ts child).children) (holds mark (skip (suc place) below)))

    pub next-child : tree_holds mark (tree_at ts child) ≡ false → IsLookedTo below (place + 1)
    next-child e =
        let j : place + 1 ≡ suc place = omega arith in
        ap (λ k. holds mark (skip k below)) j
        ∙ (sym (child-or-rest ∙ ap (λ b. b || holds mark (skip (suc place) below)) e) ∙ to)

    found-below : tree_holds mark (tree_at ts child) ≡ true → holds mark below ≡ true
    found-below e = sym to ∙ (child-or-rest ∙ ap (λ b. b || holds mark (skip (suc place) below)) e)

  pub found-child : (t : Tree) (place child : ℕ) → IsLookedTo t.children place → skip place t.children ≡ tree (tree_at ts child).head (tree_at ts child).children (skip (suc place) t.children)
      → tree_holds mark (tree_at ts child) ≡ true → true ≡ tree_holds mark t
  found-child t place child to at e = sym (or-true_right (mark t.head) (holds mark t.children) (found-below t.children place child to at e))

  pub none-found : (t : Tree) (place : ℕ) → IsLookedTo t.children place → skip place t.children ≡ none → mark t.head ≡ false → tree_holds mark t ≡ false
  none-found t place to end e = or-false (mark t.head) (holds mark t.children) e ∙ (sym to ∙ ap (holds mark) end)
