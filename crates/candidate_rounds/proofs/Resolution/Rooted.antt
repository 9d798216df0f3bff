-- What stands at the root of an argument.
use Rattle.std.proofs.Common.{◌≡◌, List, Option, refl, sym, ◌∙◌, ap, subst}
use Rattle.std.specs.Option.{option_map, unwrap_or}
use Rattle.ir_trees.specs.declared.ir.heads.Head.{Head}
use Rattle.ir_trees.specs.declared.ir.heads.Head.TheVariants as H
use Rattle.ir_trees.specs.declared.ir.heads.VariableSort.{VariableSort}
use Rattle.ir_trees.specs.declared.ir.heads.VariableSort.TheVariants as V
use Rattle.ir_trees.specs.declared.ir.kinds.GenericArg.{GenericArg}
use Rattle.ir_trees.specs.declared.ir.kinds.GenericArg.TheVariants as A
use Rattle.ir_trees.specs.declared.ir.kinds.Region.{Region}
use Rattle.ir_trees.specs.Instantiation.Folds.{IsArg, IsOfKind, arg_tree}
use Rattle.ir_trees.specs.Syntax.Kinds.{arg_kind, arg_number}
use Rattle.ir_trees.specs.Syntax.Trees.{RegionKind, Tree, kind_of, sort_kind}
use Rattle.ir_trees.proofs.Syntax.Rows.{kind-of}
use Rattle.candidate_eval.specs.declared.eval.mode.TypingMode.{TypingMode}
use Rattle.candidate_eval.specs.Interface.Evaluators.{resolved_root, root_value}
use Rattle.candidate_eval.specs.Judges.States.{State, value_at}
use Rattle.candidate_rounds.specs.Evaluators.Inferences.{Inference, kept_at}
use Rattle.candidate_rounds.specs.Evaluators.Known.{Each, IsKnown, SuitsKind, state_of}
use Rattle.candidate_rounds.proofs.Snapshots.Knowing.{there-arg}
use Rattle.candidate_rounds.proofs.Resolution.Listing.{or-itself, or-of-kind}
use Rattle.candidate_rounds.proofs.Resolution.Resolving.{kept-of-kind, kept-tree}

-- A region is its own root.

region-root : (S : State) (t : Tree) → kind_of t.head ≡ RegionKind → resolved_root S t ≡ t
region-root S t e = at t.head e
  where
    sort : (s : VariableSort) → sort_kind s ≡ RegionKind → ⊥
    sort V.General e = cc
    sort V.Integer e = cc
    sort V.Floating e = cc
    sort V.Constant e = cc

    at : (h : Head) → kind_of h ≡ RegionKind → unwrap_or (root_value S h) t ≡ t
    at (H.Infer v) e = absurd (sort v.sort e)
    at _ e = refl

pub region-stays : (ts : List Tree) (S : State) (x : GenericArg) (r : Region) → IsArg ts x → x ≡ A.Region r → arg_tree ts x ≡ resolved_root S (arg_tree ts x)
region-stays ts S x r i e = sym (region-root S (arg_tree ts x) (kind-of ts (arg_number x) (arg_kind x) (there-arg x) i ∙ ap arg_kind e))

-- Of another argument it is the value, if it has one.

value-root : (S : State) (h : Head) → (kind_of h ≡ RegionKind → ⊥) → root_value S h ≡ value_at S h
value-root S (H.Infer v) n = refl
value-root S (H.Region r) n = absurd (n refl)
value-root S _ n = refl

no-region : (x : GenericArg) → ((r : Region) → x ≡ A.Region r → ⊥) → arg_kind x ≡ RegionKind → ⊥
no-region (A.Region r) n e = n r refl
no-region (A.Ty t) n e = cc
no-region (A.Const c) n e = cc

module _ (ts : List Tree) (s : Inference) (x : GenericArg) (i : IsArg ts x) (n : (r : Region) → x ≡ A.Region r → ⊥) where
  root-tree : (m : TypingMode) (o : Option GenericArg) → o ≡ kept_at s (arg_tree ts x).head → unwrap_or (option_map (arg_tree ts) o) (arg_tree ts x) ≡ resolved_root (state_of ts m s) (arg_tree ts x)
  root-tree m o e =
      let S = state_of ts m s in
      let h = (arg_tree ts x).head in
      ap (λ u. unwrap_or u (arg_tree ts x))
      (ap (option_map (arg_tree ts)) e ∙ (kept-tree ts m s h ∙ sym (value-root S h (λ q. no-region x n (sym (kind-of ts (arg_number x) (arg_kind x) (there-arg x) i) ∙ q)))))

  pub or-root : (m : TypingMode) (o : Option GenericArg) → o ≡ kept_at s (arg_tree ts x).head → arg_tree ts (unwrap_or o x) ≡ resolved_root (state_of ts m s) (arg_tree ts x)
  or-root m o e = or-itself ts o x ∙ root-tree m o e

  pub root-sort : (o : Option GenericArg) → IsKnown ts s → Each (SuitsKind ts) s.variables → o ≡ kept_at s (arg_tree ts x).head → IsArg ts (unwrap_or o x) × (arg_kind (unwrap_or o x) ≡ arg_kind x)
  root-sort o k f e = or-of-kind ts o x x i refl (subst (IsOfKind ts x) (sym e) (kept-of-kind ts s k.values f x i))
