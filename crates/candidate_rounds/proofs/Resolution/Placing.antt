-- Placeholders stand for nothing but regions, and for none where no binder was entered.
use Rattle.std.proofs.Common.{◌≡◌, ◌+◌, ◌==◌, ℕ, suc, Bool, true, false, nat_le, List, [], ◌∷◌, length, reverse, Option, None, refl, sym, ◌∙◌, ap, arith, if◌then◌else◌}
use Rattle.std.specs.Option.{unwrap_or}
use Rattle.std.proofs.lemmas.Bool.{eqb-true}
use Rattle.ir_trees.specs.declared.ir.heads.Head.{Head}
use Rattle.ir_trees.specs.declared.ir.heads.Head.TheVariants as H
use Rattle.ir_trees.specs.declared.ir.kinds.RegionKind.{RegionKind}
use Rattle.ir_trees.specs.declared.ir.kinds.RegionKind.TheVariants as R
use Rattle.ir_trees.specs.Instantiation.Folding.{fold}
use Rattle.ir_trees.specs.Instantiation.Folds.{is_asked}
use Rattle.ir_trees.specs.Syntax.Trees.{Forest, none, tree, Tree, binders_of, holds}
use Rattle.ir_trees.proofs.Instantiation.Folding.{fold-nothing}
use Rattle.rounds_judge.specs.Equations.Scopes.{Scope, placed_head, placed_tree}

pub placed-only : (us : Scope) (d : ℕ) (h : Head) → is_asked h ≡ false → placed_head us d h ≡ None
placed-only us d (H.Region r) e = absurd cc
placed-only us d _ e = refl

-- Without binders nothing is changed.

none-anyway : (b : Bool) (o : Option Tree) → o ≡ None → (if b then o else None) ≡ None
none-anyway true o e = e
none-anyway false o e = refl

quiet : (d : ℕ) (h : Head) → placed_head [] d h ≡ None
quiet d (H.Region r) = at r
  where
    at : (r : RegionKind) → placed_head [] d (H.Region r) ≡ None
    at (R.Bound v) = none-anyway (nat_le d v.depth) None refl
    at _ = refl
quiet d _ = refl

unmarked : (ts : Forest) → holds (λ h. false) ts ≡ false
unmarked none = refl
unmarked (tree h below rest) = rw (unmarked below, unmarked rest) refl

pub nothing-placed : (t : Tree) → placed_tree [] t ≡ t
nothing-placed t =
    ap (λ (o : Option Tree). unwrap_or o (record { head = t.head; children = fold (λ d u. placed_head [] d u.head) (0 + binders_of t.head) t.children })) (quiet 0 t.head)
    ∙ ap (λ (b : Forest). let u : Tree = record { head = t.head; children = b } in u)
    (fold-nothing (λ d u. placed_head [] d u.head) (λ h. false) (λ d u e. quiet d u.head) (0 + binders_of t.head) t.children (unmarked t.children))

pub empty-places : (us : List ℕ) (t : Tree) → (length us == 0) ≡ true → t ≡ placed_tree (reverse us) t
empty-places [] t e = sym (nothing-placed t)
empty-places (u ∷ us) t e = let z = eqb-true (suc (length us)) 0 e in absurd (omega (arith, z))
