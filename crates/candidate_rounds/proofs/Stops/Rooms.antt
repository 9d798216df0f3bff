-- Why variables and placeholders aren't made: no numbers are left.
use Rattle.std.proofs.Common.{◌≡◌, ◌⊎◌, ℕ, suc, ◌+◌, ◌<◌, ◌≤◌, List, [], ◌∷◌, false, inl, inr, length, drop, Result, Ok, Err, sym, ◌∙◌, ap, subst, arith}
use Rattle.std.specs.Prelude.{IfErr}
use Rattle.std.proofs.lemmas.List.{length-append, length-drop}
use Rattle.std.proofs.Math.Nat.{max-le}
use Rattle.ir_trees.specs.declared.ir.kinds.VarKind.{VarKind}
use Rattle.ir_trees.specs.declared.ir.kinds.VarKind.TheVariants as K
use Rattle.ir_trees.specs.declared.ir.kinds.GenericArg.{GenericArg}
use Rattle.ir_trees.specs.declared.ir.stop.Stop.{Stop}
use Rattle.ir_trees.specs.declared.ir.stop.Stop.TheVariants.{NodesFull}
use Rattle.ir_trees.specs.Declarations.Context.{Context, parameter_kind}
use Rattle.ir_trees.specs.Syntax.Nodes.{rows}
use Rattle.ir_trees.specs.Syntax.Trees.{heights}
use Rattle.ir_trees.specs.Syntax.Words.{IsMkStop, list_forest}
use Rattle.candidate_eval.specs.Judges.States.{variable_kind}
use Rattle.candidate_rounds.specs.declared.rounds.fresh.Leaves.{Leaves}
use Rattle.candidate_rounds.specs.declared.rounds.fresh.Leaves.TheVariants.{Variables, Placeholders}
use Rattle.candidate_rounds.specs.Evaluators.Inferences.{Inference, IsFullAt, IsOutOfRoom, with_variable, with_variables}
use Rattle.candidate_rounds.specs.Calls.Leaves.{leaves, all_leaves}
use Rattle.candidate_rounds.proofs.Resolution.Leafing.{LeavesSoFar, all-leaves-made}
use Rattle.candidate_rounds.proofs.Snapshots.Undoing.{VariablesSoFar}

-- A list of leaves is no higher than one.

low : (l : Leaves) (i : ℕ) (ks : List VarKind) → heights (rows (leaves l i ks)) ≤ 1
low l i [] = omega arith
low (Variables n) i (K.Ty ∷ ks) = max-le (omega arith) (low (Variables n) (suc i) ks)
low (Variables n) i (K.Const ∷ ks) = max-le (omega arith) (low (Variables n) (suc i) ks)
low (Variables n) i (K.Region ∷ ks) = max-le (omega arith) (low (Variables n) (suc i) ks)
low (Placeholders u) i (K.Ty ∷ ks) = max-le (omega arith) (low (Placeholders u) (suc i) ks)
low (Placeholders u) i (K.Const ∷ ks) = max-le (omega arith) (low (Placeholders u) (suc i) ks)
low (Placeholders u) i (K.Region ∷ ks) = max-le (omega arith) (low (Placeholders u) (suc i) ks)

pub full : (n m h : ℕ) (s : Stop) → n ≡ m → h ≤ 1 → (s ≡ NodesFull) × ((m ≡ 4294967295) ⊎ (1024 < h)) → (s ≡ NodesFull) × (4294967295 ≤ n)
full n m h s e l (q, inl f) = (q, let g : n ≡ 4294967295 = e ∙ f in omega (arith, g))
full n m h s e l (q, inr f) = absurd (omega (arith, l, f))

-- So the only stop of making it, besides a refused growth, is that all numbers of nodes are given.
pub leaves-stop : {A : Type 0} (a b d : Context) (l : Leaves) (ks : List VarKind) (i : ℕ) (xs ys : List GenericArg) (r : Result A Stop) → LeavesSoFar a b l ks i xs → length ks ≤ i → ys ≡ xs
    → IfErr r (λ s. IsMkStop b.trees (heights (list_forest b.trees ys)) s) → IfErr r (λ _. d ≡ b) → IfErr r (λ s. IsFullAt (length d.trees) s)
leaves-stop a b d l ks i xs ys (Err s) so n y (inl e) k = inl e
leaves-stop a b d l ks i xs ys (Err s) so n y (inr c) k =
    let e : heights (list_forest b.trees ys) ≡ heights (rows (all_leaves l ks)) = ap (λ zs. heights (list_forest b.trees zs)) y ∙ ap heights (all-leaves-made a b l ks i xs so n) in
    let h : heights (list_forest b.trees ys) ≤ 1 = subst (λ m. m ≤ 1) (sym e) (low l 0 ks) in
    inr (full (length d.trees) (length b.trees) (heights (list_forest b.trees ys)) s (ap (λ x. length x.trees) k) h c)
leaves-stop a b d l ks i xs ys (Ok x) so n y c k = tt

-- How many variables there are with more.
more-variables : (s : Inference) (ks : List VarKind) → length (with_variables s ks).variables ≡ length s.variables + length ks
more-variables s [] = omega arith
more-variables s (k ∷ ks) =
    let e = more-variables (with_variable s (variable_kind (parameter_kind k)) false) ks in
    let f : length (with_variable s (variable_kind (parameter_kind k)) false).variables ≡ length s.variables + 1 = length-append s.variables _ in
    omega (arith, e, f)

pub out-of-room : (s t : Inference) (ks : List VarKind) (i : ℕ) (x : Stop) → VariablesSoFar s t ks i → i < length ks → IsFullAt (length t.variables) x → IsOutOfRoom (length s.variables) (length ks) x
out-of-room s t ks i x so l (inl e) = inl e
out-of-room s t ks i x so l (inr (e, f)) =
    let whole : length t.variables + length (drop i ks) ≡ length s.variables + length ks = sym (more-variables t (drop i ks)) ∙ (ap (λ y. length y.variables) so.left ∙ more-variables s ks) in
    let rest = length-drop i ks in
    inr (e, omega (arith, whole, rest, l, f))
