-- The values that are kept are those of the state.
use Rattle.std.proofs.Common.{◌≡◌, ℕ, true, List, Option, Some, None, MatchOption, refl, sym, ◌∙◌, ap}
use Rattle.std.specs.Option.{unwrap_or}
use Rattle.ir_trees.specs.declared.ir.kinds.GenericArg.{GenericArg}
use Rattle.ir_trees.specs.Instantiation.Folds.{IsArg, arg_tree}
use Rattle.ir_trees.specs.declared.ir.heads.Head.{Head}
use Rattle.ir_trees.specs.declared.ir.heads.Head.TheVariants as H
use Rattle.ir_trees.specs.declared.ir.kinds.InferTy.TheVariants as I
use Rattle.ir_trees.specs.declared.ir.kinds.TyKind.{TyKind}
use Rattle.ir_trees.specs.declared.ir.kinds.TyKind.TheVariants as K
use Rattle.ir_trees.specs.declared.ir.kinds.Pattern.TheVariants as Pat
use Rattle.ir_trees.specs.Syntax.Words.{kind_tree}
use Rattle.candidate_eval.specs.Knowability.Orphan.{is_general}
use Rattle.candidate_eval.specs.Interface.Evaluators.{resolved_root}
use Rattle.ir_trees.specs.Syntax.Kinds.{arg_kind, arg_number, ty_head, is_general_variable}
use Rattle.ir_trees.specs.Syntax.Trees.{Kind, TypeKind, RegionKind, Tree, kind_of, is_type_kind}
use Rattle.ir_trees.proofs.Syntax.Rows.{kind-of}
use Rattle.candidate_eval.specs.declared.eval.variable.VariableKind.{VariableKind}
use Rattle.candidate_eval.specs.Judges.States.{State, value_as, value_at, resolved, resolved_tree}
use Rattle.candidate_eval.specs.Judges.Soundness.{fits_kind, is_region}
use Rattle.candidate_rounds.specs.Evaluators.Known.{Evaluator, state}
use Rattle.candidate_rounds.proofs.Snapshots.Knowing.{there-arg}

abbrev pub IsValueOf : Evaluator → VariableKind → ℕ → Option GenericArg → Type 0
IsValueOf r k n o = MatchOption o (value_as (state r) k n ≡ None) (λ v. IsArg r.context.trees v × (value_as (state r) k n ≡ Some (arg_tree r.context.trees v)) × (fits_kind k (arg_tree r.context.trees v).head ≡ true))

pub is-type-kind : (k : Kind) → is_type_kind k ≡ true → k ≡ TypeKind
is-type-kind TypeKind e = refl
is-type-kind _ e = cc

pub region-head : (h : Head) → is_region h ≡ true → kind_of h ≡ RegionKind
region-head (H.Region r) e = refl
region-head _ e = cc

-- One of a region's variable is a region.
pub region-value : (ts : List Tree) (x : GenericArg) → IsArg ts x → is_region (arg_tree ts x).head ≡ true → arg_kind x ≡ RegionKind
region-value ts x i f = sym (kind-of ts (arg_number x) (arg_kind x) (there-arg x) i) ∙ region-head (arg_tree ts x).head f

-- Whether a type stands for a general variable shows at its root.

general-head : (k : TyKind) → is_general_variable k ≡ is_general (ty_head k)
general-head (K.Infer (I.TyVar n)) = refl
general-head (K.Infer (I.IntVar n)) = refl
general-head (K.Infer (I.FloatVar n)) = refl
general-head (K.Pat b Pat.NotNull) = refl
general-head (K.Pat b (Pat.Range x y)) = refl
general-head _ = refl

pub general-root : (S : State) (t : Tree) → is_type_kind (kind_of t.head) ≡ true → is_general (resolved_root S t).head ≡ is_general (resolved_tree S t).head
general-root S t e = at t.head e
  where
    at : (h : Head) → is_type_kind (kind_of h) ≡ true → is_general (resolved_root S (record { head = h; children = t.children })).head ≡ is_general (resolved_tree S (record { head = h; children = t.children })).head
    at (H.Infer v) e = infer (value_at S (H.Infer v))
      where
        infer : (o : Option Tree) → is_general (unwrap_or o (record { head = H.Infer v; children = t.children })).head ≡ is_general (unwrap_or o (record { head = H.Infer v; children = resolved S t.children })).head
        infer None = refl
        infer (Some x) = refl
    at (H.Region r) e = cc
    at _ e = refl

-- of a type that was read: it is one, or it isn't
pub general-read : (ts : List Tree) (S : State) (k : TyKind) (t u : Tree) → kind_tree ts k ≡ u → u ≡ resolved_root S t → is_type_kind (kind_of t.head) ≡ true → is_general_variable k ≡ is_general (resolved_tree S t).head
general-read ts S k t u e f g = general-head k ∙ (ap (λ (x : Tree). is_general x.head) (e ∙ f) ∙ general-root S t g)
