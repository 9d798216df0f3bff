-- Lists of variables and placeholders, made one after another.
use Rattle.std.proofs.Common.{◌≡◌, ℕ, suc, ◌+◌, ◌<◌, ◌≤◌, List, [], ◌∷◌, ◌++◌, length, drop, map, slice_index_or, append_assoc, refl, sym, ◌∙◌, ap, subst, arith}
use Rattle.std.proofs.lemmas.List.{length-append, append-nil}
use Rattle.ir_trees.specs.declared.ir.kinds.GenericArg.{GenericArg}
use Rattle.ir_trees.specs.declared.ir.kinds.VarKind.{VarKind}
use Rattle.ir_trees.specs.declared.ir.kinds.VarKind.TheVariants as K
use Rattle.ir_trees.specs.Declarations.Context.{Context, Grows}
use Rattle.ir_trees.specs.Instantiation.Folds.{IsArg, arg_tree}
use Rattle.ir_trees.specs.Syntax.Kinds.{arg_child, arg_number, arg_kind, numbers}
use Rattle.ir_trees.specs.Syntax.Nodes.{kind_at, trees_at, kinds_at, rows}
use Rattle.ir_trees.specs.Syntax.Trees.{TypeKind, ConstantKind, RegionKind, none, tree, Tree}
use Rattle.ir_trees.specs.Syntax.Words.{ListFits, list_forest}
use Rattle.ir_trees.specs.Syntax.Table.{Below}
use Rattle.ir_trees.proofs.Traversal.Asking.{arg-below}
use Rattle.ir_trees.proofs.Growth.Kept.{grows-trans}
use Rattle.ir_trees.proofs.Syntax.Lists.{trees_at-append}
use Rattle.ir_trees.proofs.Growth.Made.{ListFits-grows}
use Rattle.ir_trees.specs.declared.ir.heads.VariableSort.TheVariants as V
use Rattle.candidate_eval.specs.declared.eval.variable.VariableKind.{VariableKind}
use Rattle.candidate_eval.specs.declared.eval.variable.VariableKind.TheVariants.{Term, Region}
use Rattle.candidate_eval.specs.Judges.States.{State, fresh_variables, with_fresh, fresh_info, variable, placeholder, placeholders}
use Rattle.candidate_eval.specs.Interface.Evaluators.{kinds_listed}
use Rattle.candidate_rounds.specs.declared.rounds.fresh.Leaves.{Leaves}
use Rattle.candidate_rounds.specs.declared.rounds.fresh.Leaves.TheVariants.{Variables, Placeholders}
use Rattle.candidate_rounds.proofs.Snapshots.Undoing.{drop-one, drop-beyond}
use Rattle.candidate_rounds.specs.Calls.Leaves.{leaf_of, leaves, all_leaves}

pub push-fits : (ts : List Tree) (xs : List GenericArg) (x : GenericArg) → ListFits ts xs → IsArg ts x → ListFits ts (xs ++ x ∷ [])
push-fits ts [] x e k = ap (λ y. y ∷ []) k
push-fits ts (y ∷ xs) x e k =
    let i : kind_at ts (arg_number y) ≡ arg_kind y = cc in
    let f : ListFits ts xs = cc in
    ap (λ z. z ∷ kinds_at ts (numbers (map arg_child (xs ++ x ∷ [])))) i ∙ ap (λ zs. arg_kind y ∷ zs) (push-fits ts xs x f k)

pub push-trees : (ts : List Tree) (xs : List GenericArg) (x : GenericArg) → trees_at ts (numbers (map arg_child (xs ++ x ∷ []))) ≡ trees_at ts (numbers (map arg_child xs)) ++ arg_tree ts x ∷ []
push-trees ts [] x = refl
push-trees ts (y ∷ xs) x = ap (λ us. arg_tree ts y ∷ us) (push-trees ts xs x)

pub below-args : (ts : List Tree) (xs : List GenericArg) → ListFits ts xs → Below (length ts) (numbers (map arg_child xs))
below-args ts [] e = tt
below-args ts (y ∷ xs) e =
    let i : kind_at ts (arg_number y) ≡ arg_kind y = cc in
    let f : ListFits ts xs = cc in (arg-below ts y i, below-args ts xs f)

-- So many were made: with what is left they are all.
pub record LeavesSoFar (old now : Context) (l : Leaves) (ks : List VarKind) (i : ℕ) (xs : List GenericArg) : Type 0 where
  pub grows : Grows old now
  pub fits : ListFits now.trees xs
  pub left : trees_at now.trees (numbers (map arg_child xs)) ++ leaves l i (drop i ks) ≡ leaves l 0 ks

pub no-leaves : (c : Context) (l : Leaves) (ks : List VarKind) → Grows c c → LeavesSoFar c c l ks 0 []
no-leaves c l ks g = record { grows = g; fits = refl; left = refl }

pub one-more-leaf : (a b c : Context) (l : Leaves) (ks : List VarKind) (i : ℕ) (xs ys : List GenericArg) (x : GenericArg) (d : VarKind) → LeavesSoFar a b l ks i xs → i < length ks
    → Grows b c → IsArg c.trees x → arg_tree c.trees x ≡ leaf_of l (slice_index_or ks i d) i → ys ≡ xs ++ x ∷ [] → LeavesSoFar a c l ks (i + 1) ys
one-more-leaf a b c l ks i xs ys x d s j g k t e = subst (λ zs. LeavesSoFar a c l ks (i + 1) zs) (sym e) (record {
  grows = grows-trans a b c s.grows g;
  fits = push-fits c.trees xs x (ListFits-grows b c xs g s.fits) k;
  left =
      ap (λ n. trees_at c.trees (numbers (map arg_child (xs ++ x ∷ []))) ++ leaves l n (drop n ks)) (let n : i + 1 ≡ suc i = omega arith in n)
      ∙ (ap (λ us. us ++ leaves l (suc i) (drop (suc i) ks)) (push-trees c.trees xs x)
      ∙ (append_assoc (trees_at c.trees (numbers (map arg_child xs))) (arg_tree c.trees x ∷ []) (leaves l (suc i) (drop (suc i) ks))
      ∙ (ap (λ us. us ++ arg_tree c.trees x ∷ leaves l (suc i) (drop (suc i) ks)) stay
      ∙ (ap (λ u. trees_at b.trees (numbers (map arg_child xs)) ++ u ∷ leaves l (suc i) (drop (suc i) ks)) t
      ∙ (ap (λ us. trees_at b.trees (numbers (map arg_child xs)) ++ leaves l i us) (sym (drop-one ks i d j)) ∙ s.left)))));
})
  where
    stay : trees_at c.trees (numbers (map arg_child xs)) ≡ trees_at b.trees (numbers (map arg_child xs))
    stay =
        ap (λ us. trees_at us (numbers (map arg_child xs))) g.kept.is
        ∙ trees_at-append b.trees g.kept.added (numbers (map arg_child xs)) (below-args b.trees xs s.fits)

pub all-leaves-made : (a b : Context) (l : Leaves) (ks : List VarKind) (i : ℕ) (xs : List GenericArg) → LeavesSoFar a b l ks i xs → length ks ≤ i → list_forest b.trees xs ≡ rows (all_leaves l ks)
all-leaves-made a b l ks i xs s j =
    ap rows (sym (append-nil (trees_at b.trees (numbers (map arg_child xs))))
    ∙ (ap (λ us. trees_at b.trees (numbers (map arg_child xs)) ++ leaves l i us) (sym (drop-beyond ks i j)) ∙ s.left))

-- As definitions have them.

later : (S : State) (n i : ℕ) (k : VariableKind) → n + i ≡ length S.variables → n + suc i ≡ length (with_fresh S k).variables
later S n i k e = let m = length-append S.variables (fresh_info S k ∷ []) in omega (arith, m, e)

pub variables-are : (S : State) (n : ℕ) (i : ℕ) (ks : List VarKind) → n + i ≡ length S.variables → rows (leaves (Variables n) i ks) ≡ fresh_variables S (kinds_listed ks)
variables-are S n i [] e = refl
variables-are S n i (K.Ty ∷ ks) e =
    ap (λ m. tree (variable (Term V.General) m).head none (rows (leaves (Variables n) (suc i) ks))) e
    ∙ ap (λ r. tree (variable (Term V.General) (length S.variables)).head none r) (variables-are (with_fresh S (Term V.General)) n (suc i) ks (later S n i (Term V.General) e))
variables-are S n i (K.Const ∷ ks) e =
    ap (λ m. tree (variable (Term V.Constant) m).head none (rows (leaves (Variables n) (suc i) ks))) e
    ∙ ap (λ r. tree (variable (Term V.Constant) (length S.variables)).head none r) (variables-are (with_fresh S (Term V.Constant)) n (suc i) ks (later S n i (Term V.Constant) e))
variables-are S n i (K.Region ∷ ks) e =
    ap (λ m. tree (variable (Region) m).head none (rows (leaves (Variables n) (suc i) ks))) e
    ∙ ap (λ r. tree (variable (Region) (length S.variables)).head none r) (variables-are (with_fresh S (Region)) n (suc i) ks (later S n i (Region) e))

pub placeholders-are : (u i : ℕ) (ks : List VarKind) → rows (leaves (Placeholders u) i ks) ≡ placeholders u i (kinds_listed ks)
placeholders-are u i [] = refl
placeholders-are u i (K.Ty ∷ ks) = ap (λ r. tree (placeholder TypeKind u i) none r) (placeholders-are u (suc i) ks)
placeholders-are u i (K.Const ∷ ks) = ap (λ r. tree (placeholder ConstantKind u i) none r) (placeholders-are u (suc i) ks)
placeholders-are u i (K.Region ∷ ks) = ap (λ r. tree (placeholder RegionKind u i) none r) (placeholders-are u (suc i) ks)
