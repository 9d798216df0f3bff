-- Variables and types without children that are neither bound nor placeholders: what folds say of them.
use Rattle.std.proofs.Common.{◌≡◌, ◌+◌, Bool, true, false, List, Option, Some, None, refl, sym, ◌∙◌, ap, subst, if◌then◌else◌}
use Rattle.std.specs.Option.{option_map, unwrap_or}
use Rattle.ir_trees.specs.declared.ir.heads.Builtin.{Builtin}
use Rattle.ir_trees.specs.declared.ir.heads.Head.{Head}
use Rattle.ir_trees.specs.declared.ir.heads.Head.TheVariants as H
use Rattle.ir_trees.specs.declared.ir.heads.Variable.{Variable}
use Rattle.ir_trees.specs.declared.ir.heads.VariableSort.{VariableSort}
use Rattle.ir_trees.specs.declared.ir.heads.VariableSort.TheVariants as V
use Rattle.ir_trees.specs.declared.ir.kinds.GenericArg.{GenericArg}
use Rattle.ir_trees.specs.declared.ir.kinds.GenericArg.TheVariants as A
use Rattle.ir_trees.specs.declared.ir.kinds.Region.{Region}
use Rattle.ir_trees.specs.Instantiation.Folding.{Answers, fold, fold_tree}
use Rattle.ir_trees.specs.Instantiation.Folds.{IsArg, IsOfKind, arg_tree}
use Rattle.ir_trees.specs.Syntax.Kinds.{arg_kind, arg_number}
use Rattle.ir_trees.specs.Unification.Substitutions.{same_variable}
use Rattle.ir_trees.specs.Syntax.Trees.{RegionKind, Tree, none, binders_of, kind_of, sort_kind}
use Rattle.ir_trees.proofs.Syntax.Rows.{kind-of}
use Rattle.candidate_eval.specs.declared.eval.mode.TypingMode.{TypingMode}
use Rattle.candidate_eval.specs.Judges.States.{resolved_tree, value_at}
use Rattle.candidate_rounds.specs.declared.rounds.resolving.Lone.{Lone}
use Rattle.candidate_rounds.specs.declared.rounds.resolving.Lone.TheVariants as L
use Rattle.candidate_rounds.specs.Calls.Assigning.{single_arg}
use Rattle.candidate_rounds.specs.Evaluators.Inferences.{Inference, kept_at}
use Rattle.candidate_rounds.specs.Evaluators.Known.{Each, IsKnown, SuitsKind, state_of}
use Rattle.candidate_rounds.specs.Calls.Lone.{IsLone, infer_at, is_lone, is_plain, lone_value}
use Rattle.candidate_rounds.proofs.Equations.Assigning.{some-is}
use Rattle.candidate_rounds.proofs.Snapshots.Knowing.{there-arg}
use Rattle.candidate_rounds.proofs.Resolution.Listing.{or-itself, or-of-kind}
use Rattle.candidate_rounds.proofs.Resolution.Resolving.{kept-of-kind, kept-tree}

-- It is a builtin type.
plain-is : (h : Head) → is_plain h ≡ true → (b : Builtin) × (h ≡ H.Builtin b)
plain-is (H.Builtin b) e = (b, refl)
plain-is _ e = cc

-- Folds

pub leaf-stays : (f : Answers) (t : Tree) → t.children ≡ none → unwrap_or (f 0 t) t ≡ fold_tree f 0 t
leaf-stays f t e = ap (unwrap_or (f 0 t)) (λ i. record { head = t.head; children = (e ∙ sym (ap (fold f (0 + binders_of t.head)) e)) i })

lone-kept : (s : Inference) (t : Tree) (l : Lone) → IsLone t l → lone_value s l ≡ kept_at s t.head
lone-kept s t (L.Variable v) p = ap (kept_at s) (sym p.0)
lone-kept s t L.Plain p = ap (kept_at s) (sym (plain-is t.head p.0).1)

module _ (ts : List Tree) (s : Inference) (x : GenericArg) (l : Lone) (o : Option GenericArg) (p : IsLone (arg_tree ts x) l) (e : o ≡ lone_value s l) where
  kept : o ≡ kept_at s (arg_tree ts x).head
  kept = e ∙ lone-kept s (arg_tree ts x) l p

  pub lone-sort : IsArg ts x → IsKnown ts s → Each (SuitsKind ts) s.variables → IsArg ts (unwrap_or o x) × (arg_kind (unwrap_or o x) ≡ arg_kind x)
  lone-sort i k f = or-of-kind ts o x x i refl (subst (IsOfKind ts x) (sym kept) (kept-of-kind ts s k.values f x i))

  pub lone-resolved : (m : TypingMode) → arg_tree ts (unwrap_or o x) ≡ resolved_tree (state_of ts m s) (arg_tree ts x)
  lone-resolved m =
      let t = arg_tree ts x in
      or-itself ts o x
      ∙ (ap (λ u. unwrap_or u t) (ap (option_map (arg_tree ts)) kept ∙ kept-tree ts m s t.head)
      ∙ leaf-stays (λ _ u. value_at (state_of ts m s) u.head) t p.1)

-- The value that stands for the one variable is that value.
pub single-itself : (v : Variable) (x p : GenericArg) (h : Head) → single_arg v x h ≡ Some p → x ≡ p
single-itself v x p (H.Infer w) e = at (same_variable v w) e
  where
    at : (b : Bool) → (if b then Some x else None) ≡ Some p → x ≡ p
    at true e = cc
    at false e = cc
single-itself v x p _ e = cc

-- The variable of types or constants at a root.

pub infer-is : (h : Head) (v : Variable) → infer_at h ≡ Some v → h ≡ H.Infer v
infer-is (H.Infer w) v e = ap H.Infer (some-is e)
infer-is _ v e = cc

-- A region is neither.

region-sort : (s : VariableSort) → sort_kind s ≡ RegionKind → ⊥
region-sort V.General e = cc
region-sort V.Integer e = cc
region-sort V.Floating e = cc
region-sort V.Constant e = cc

module _ (ts : List Tree) (x : GenericArg) (r : Region) (i : IsArg ts x) (e : x ≡ A.Region r) where
  region-kind : kind_of (arg_tree ts x).head ≡ RegionKind
  region-kind = kind-of ts (arg_number x) (arg_kind x) (there-arg x) i ∙ ap arg_kind e

  pub region-is-not : is_lone (arg_tree ts x).head ≡ false
  region-is-not = at (arg_tree ts x).head region-kind
    where
      at : (h : Head) → kind_of h ≡ RegionKind → is_lone h ≡ false
      at (H.Infer v) k = absurd (region-sort v.sort k)
      at (H.Region s) k = refl
      at _ k = cc
