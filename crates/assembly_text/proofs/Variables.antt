-- Variables that are made one after another, to stand in the place of parameters.
use Rattle.std.proofs.Common.{◌≡◌, ◌<◌, ◌≤◌, ◌+◌, ℕ, suc, List, [], ◌∷◌, ◌++◌, append_assoc, drop, length, map, slice_index_or, arith, refl, sym, ◌∙◌, ap, subst}
use Rattle.std.proofs.lemmas.List.{append-nil}
use Rattle.ir_trees.specs.declared.ir.kinds.GenericArg.{GenericArg}
use Rattle.ir_trees.specs.declared.ir.kinds.VarKind.{VarKind}
use Rattle.ir_trees.specs.Declarations.Context.{Context, Grows, parameter_kind}
use Rattle.ir_trees.specs.Instantiation.Folds.{IsArg, arg_tree}
use Rattle.ir_trees.specs.Syntax.Kinds.{arg_child, numbers}
use Rattle.ir_trees.specs.Syntax.Nodes.{rows, trees_at}
use Rattle.ir_trees.specs.Syntax.Words.{ListFits, list_forest}
use Rattle.ir_trees.proofs.Growth.Kept.{grows-refl, grows-trans}
use Rattle.ir_trees.proofs.Growth.Made.{ListFits-grows}
use Rattle.ir_trees.proofs.Syntax.Lists.{trees_at-append}
use Rattle.candidate_eval.specs.Judges.States.{variable, variable_kind}
use Rattle.candidate_rounds.proofs.Resolution.Leafing.{below-args, push-fits, push-trees}
use Rattle.candidate_rounds.proofs.Snapshots.Undoing.{drop-one, drop-beyond}
use Rattle.assembly_text.specs.Paired.{variables_for}

-- So many of the variables were made: with what is left they are all.
pub record VariablesSoFar (old now : Context) (ks : List VarKind) (i : ℕ) (xs : List GenericArg) : Type 0 where
  pub grows : Grows old now
  pub fits : ListFits now.trees xs
  pub left : trees_at now.trees (numbers (map arg_child xs)) ++ variables_for i (drop i ks) ≡ variables_for 0 ks

pub no-variables : (c : Context) (ks : List VarKind) → VariablesSoFar c c ks 0 []
no-variables c ks = record { grows = grows-refl c; fits = refl; left = refl }

pub one-more-variable : (a b c : Context) (ks : List VarKind) (i : ℕ) (xs ys : List GenericArg) (x : GenericArg) (d : VarKind) → VariablesSoFar a b ks i xs → i < length ks
    → Grows b c → IsArg c.trees x → arg_tree c.trees x ≡ variable (variable_kind (parameter_kind (slice_index_or ks i d))) i → ys ≡ xs ++ x ∷ [] → VariablesSoFar a c ks (i + 1) ys
one-more-variable a b c ks i xs ys x d s j g k t e = subst (λ zs. VariablesSoFar a c ks (i + 1) zs) (sym e) (record {
  grows = grows-trans a b c s.grows g;
  fits = push-fits c.trees xs x (ListFits-grows b c xs g s.fits) k;
  left =
      ap (λ n. trees_at c.trees (numbers (map arg_child (xs ++ x ∷ []))) ++ variables_for n (drop n ks)) (let n : i + 1 ≡ suc i = omega arith in n)
      ∙ (ap (λ us. us ++ variables_for (suc i) (drop (suc i) ks)) (push-trees c.trees xs x)
      ∙ (append_assoc (trees_at c.trees (numbers (map arg_child xs))) (arg_tree c.trees x ∷ []) (variables_for (suc i) (drop (suc i) ks))
      ∙ (ap (λ us. us ++ arg_tree c.trees x ∷ variables_for (suc i) (drop (suc i) ks)) stay
      ∙ (ap (λ u. trees_at b.trees (numbers (map arg_child xs)) ++ u ∷ variables_for (suc i) (drop (suc i) ks)) t
      ∙ (ap (λ us. trees_at b.trees (numbers (map arg_child xs)) ++ variables_for i us) (sym (drop-one ks i d j)) ∙ s.left)))));
})
  where
    stay : trees_at c.trees (numbers (map arg_child xs)) ≡ trees_at b.trees (numbers (map arg_child xs))
    stay = ap (λ us. trees_at us (numbers (map arg_child xs))) g.kept.is ∙ trees_at-append b.trees g.kept.added (numbers (map arg_child xs)) (below-args b.trees xs s.fits)

pub all-variables : (a b : Context) (ks : List VarKind) (i : ℕ) (xs : List GenericArg) → VariablesSoFar a b ks i xs → length ks ≤ i → list_forest b.trees xs ≡ rows (variables_for 0 ks)
all-variables a b ks i xs s j =
    ap rows (sym (append-nil (trees_at b.trees (numbers (map arg_child xs))))
    ∙ (ap (λ us. trees_at b.trees (numbers (map arg_child xs)) ++ variables_for i us) (sym (drop-beyond ks i j)) ∙ s.left))
