-- The bounds of a list are bounds.
use Rattle.std.proofs.Common.{◌≡◌, ℕ, zero, suc, ◌<◌, ◌≤◌, List, [], ◌∷◌, length, get_or, take, refl, ◌∙◌, ap, arith}
use Rattle.std.proofs.lemmas.List.{take_all}
use Rattle.std.proofs.lemmas.List.Sums.{sum_by-cons}
use Rattle.std.specs.Prelude.{map, count_by}
use Rattle.ir_trees.specs.declared.ir.kinds.Pred.{Pred}
use Rattle.ir_trees.specs.declared.ir.kinds.Binder.{Binder}
use Rattle.ir_trees.specs.declared.ir.kinds.ExistentialPredicate.{ExistentialPredicate}
use Rattle.ir_trees.specs.declared.ir.kinds.ExistentialPredicate.TheVariants as E
use Rattle.ir_trees.specs.Syntax.Trees.{Tree}
use Rattle.ir_trees.specs.Syntax.Kinds.{numbers}
use Rattle.ir_trees.specs.Declarations.Names.{is_principal, principals}
use Rattle.ir_trees.specs.Syntax.Nodes.{trees_at, rows, pred_child}
use Rattle.ir_trees.specs.Syntax.Words.{IsPred, PredListFits, AtMostOnePrincipal, names_trait, pred_kind_tree, pred_list_forest, bounds_forest}
use Rattle.ir_trees.proofs.Growth.Made.{one_if}

pub pred-get : (ts : List Tree) (xs : List Pred) (i : ℕ) (d : Pred) → PredListFits ts xs → i < length xs → IsPred ts (get_or xs i d)
pred-get ts [] i d f h = absurd (omega arith)
pred-get ts (x ∷ xs) zero d f h = cc
pred-get ts (x ∷ xs) (suc i) d f h = let g : PredListFits ts xs = cc in pred-get ts xs i d g (omega arith)

-- the principals of bounds, and those of their row
pub bound-principal : (ts : List Tree) (v : ExistentialPredicate) (b : Binder ExistentialPredicate) → b.value ≡ v
    → is_principal (pred_kind_tree ts b).head ≡ names_trait b.value
bound-principal ts (E.Trait _) b e = rw e refl
bound-principal ts (E.Projection _) b e = rw e refl
bound-principal ts (E.AutoTrait _) b e = rw e refl

pub bounds-principals : (ts : List Tree) (bs : List (Binder ExistentialPredicate)) → principals (bounds_forest ts bs) ≡ count_by (λ b. names_trait b.value) bs
bounds-principals ts [] = refl
bounds-principals ts (b ∷ bs) =
    let e = ap one_if (bound-principal ts b.value b refl) in
    let f = bounds-principals ts bs in
    let more = sum_by-cons (λ (x : Binder ExistentialPredicate). one_if (names_trait x.value)) b bs in
    omega arith

-- bounds that were added have one principal at most, as before
pub list-principal : (old now : List Tree) (ps : List Pred) (bs : List (Binder ExistentialPredicate)) (i : ℕ)
    → trees_at now (numbers (map pred_child ps)) ≡ map (pred_kind_tree old) (take i bs) → length bs ≤ i → AtMostOnePrincipal bs
    → principals (pred_list_forest now ps) ≤ 1
list-principal old now ps bs i t l h =
    let e = ap (λ (xs : List Tree). principals (rows xs)) (t ∙ ap (map (pred_kind_tree old)) (take_all i bs l)) in
    let f = bounds-principals old bs in
    omega arith
