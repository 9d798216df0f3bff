-- What folds that put values in ask about.
use Rattle.std.proofs.Common.{◌≡◌, ℕ, Bool, true, false, List, slice_get, Option, Some, None, refl, sym, ◌∙◌, ap, subst, if◌then◌else◌}
use Rattle.std.specs.Option.{option_map}
use Rattle.std.proofs.lemmas.Option.{slice_get-map}
use Rattle.ir_trees.specs.declared.ir.kinds.GenericArg.{GenericArg}
use Rattle.ir_trees.specs.Instantiation.Folds.{IsArg, IsOfKind, arg_tree}
use Rattle.ir_trees.specs.declared.ir.heads.Head.{Head}
use Rattle.ir_trees.specs.declared.ir.heads.Head.TheVariants as H
use Rattle.ir_trees.specs.declared.ir.heads.VariableSort.{VariableSort}
use Rattle.ir_trees.specs.declared.ir.heads.VariableSort.TheVariants as V
use Rattle.ir_trees.specs.declared.ir.kinds.RegionKind.{RegionKind}
use Rattle.ir_trees.specs.declared.ir.kinds.RegionKind.TheVariants as R
use Rattle.ir_trees.specs.Instantiation.Folding.{Answers}
use Rattle.ir_trees.specs.Syntax.Kinds.{arg_kind, arg_number}
use Rattle.ir_trees.specs.Syntax.Nodes.{Extends}
use Rattle.ir_trees.specs.Unification.Substitutions.{fits_sort, is_constant_kind}
use Rattle.ir_trees.specs.Syntax.Trees.{Kind, ConstantKind, Tree, kind_of, sort_kind}
use Rattle.ir_trees.proofs.Syntax.Rows.{kind-of}
use Rattle.candidate_eval.specs.declared.eval.mode.TypingMode.{TypingMode}
use Rattle.candidate_eval.specs.declared.eval.variable.VariableKind.{VariableKind}
use Rattle.candidate_eval.specs.declared.eval.variable.VariableKind.TheVariants.{Term, Region}
use Rattle.candidate_eval.specs.declared.eval.mode.TypingMode.TheVariants.{PostAnalysis}
use Rattle.candidate_eval.specs.Judges.States.{State, value_in, value_as, value_at, same_kind, has_kind}
use Rattle.candidate_eval.specs.Judges.Soundness.{fits_kind}
use Rattle.candidate_rounds.specs.declared.rounds.inference.Entry.{Entry}
use Rattle.candidate_rounds.specs.Calls.PureFolder.{kept_answers}
use Rattle.candidate_rounds.specs.Evaluators.Inferences.{Inference, value_of, is_of_kind, kept_value, kept_at}
use Rattle.candidate_rounds.specs.Evaluators.Known.{Evaluator, IsConsistent, state_of, info_of, Each, IsValue, IsEntry, SuitsKind, IsKnown}
use Rattle.candidate_rounds.proofs.Snapshots.Knowing.{each-get, there-arg, state-stays}
use Rattle.candidate_rounds.proofs.Snapshots.Holding.{kinds-now}
use Rattle.rounds_judge.proofs.States.Bound.{integer_is_type, float_is_type}
use Rattle.rounds_judge.proofs.Unifiers.Solving.{kind_same}
use Rattle.candidate_rounds.proofs.Resolution.Values.{IsValueOf, is-type-kind, region-head}

-- The tree of what is kept is the state's value.

value-tree : (ts : List Tree) (m : TypingMode) (s : Inference) (k : VariableKind) (n : ℕ) → option_map (arg_tree ts) (kept_value s k n) ≡ value_as (state_of ts m s) k n
value-tree ts m s k n = sym (ap (λ o. if has_kind k o then value_in o else None) (slice_get-map (info_of ts) s.variables n) ∙ at (slice_get s.variables n))
  where
    by : (e : Entry) (b : Bool) → (if b then option_map (arg_tree ts) e.value else None) ≡ option_map (arg_tree ts) (if b then e.value else None)
    by e true = refl
    by e false = refl

    at : (o : Option Entry) → (if has_kind k (option_map (info_of ts) o) then value_in (option_map (info_of ts) o) else None) ≡ option_map (arg_tree ts) (if is_of_kind k o then value_of o else None)
    at None = refl
    at (Some e) = by e (same_kind e.kind k)

pub kept-tree : (ts : List Tree) (m : TypingMode) (s : Inference) (h : Head) → option_map (arg_tree ts) (kept_at s h) ≡ value_at (state_of ts m s) h
kept-tree ts m s (H.Infer v) = value-tree ts m s (Term v.sort) v.number
kept-tree ts m s (H.Region r) = at r
  where
    at : (r : RegionKind) → option_map (arg_tree ts) (kept_at s (H.Region r)) ≡ value_at (state_of ts m s) (H.Region r)
    at (R.Var n) = value-tree ts m s Region n
    at _ = refl
kept-tree ts m s _ = refl

-- It is of its variable's kind.

is-constant-kind : (k : Kind) → is_constant_kind k ≡ true → k ≡ ConstantKind
is-constant-kind ConstantKind e = refl
is-constant-kind _ e = cc

sort-head : (s : VariableSort) (h : Head) → fits_sort s h ≡ true → kind_of h ≡ sort_kind s
sort-head V.General h f = is-type-kind (kind_of h) f
sort-head V.Integer h f = is-type-kind (kind_of h) (integer_is_type h f)
sort-head V.Floating h f = is-type-kind (kind_of h) (float_is_type h f)
sort-head V.Constant h f = is-constant-kind (kind_of h) f

module _ (ts : List Tree) (s : Inference) (i : Each (IsEntry ts) s.variables) (f : Each (SuitsKind ts) s.variables) where
  value-fits : (k : VariableKind) (n : ℕ) (v : GenericArg) → kept_value s k n ≡ Some v → IsArg ts v × (fits_kind k (arg_tree ts v).head ≡ true)
  value-fits k n v q = at (slice_get s.variables n) refl q
    where
      by : (e : Entry) → slice_get s.variables n ≡ Some e → (b : Bool) → same_kind e.kind k ≡ b → (if b then e.value else None) ≡ Some v → IsArg ts v × (fits_kind k (arg_tree ts v).head ≡ true)
      by e g false c q = cc
      by e g true c q = (subst (IsValue ts) q (each-get (IsEntry ts) s.variables n e i g), ap (λ l. fits_kind l (arg_tree ts v).head) (sym (kind_same e.kind k c)) ∙ each-get (SuitsKind ts) s.variables n e f g v q)

      at : (o : Option Entry) → slice_get s.variables n ≡ o → (if is_of_kind k o then value_of o else None) ≡ Some v → IsArg ts v × (fits_kind k (arg_tree ts v).head ≡ true)
      at None g q = cc
      at (Some e) g q = by e g (same_kind e.kind k) refl q

  kept-kind : (h : Head) (v : GenericArg) → kept_at s h ≡ Some v → IsArg ts v × (arg_kind v ≡ kind_of h)
  kept-kind (H.Infer w) v q =
      let p = value-fits (Term w.sort) w.number v q in
      (p.0, sym (kind-of ts (arg_number v) (arg_kind v) (there-arg v) p.0) ∙ sort-head w.sort (arg_tree ts v).head p.1)
  kept-kind (H.Region r) v q = at r q
    where
      at : (r : RegionKind) → kept_at s (H.Region r) ≡ Some v → IsArg ts v × (arg_kind v ≡ kind_of (H.Region r))
      at (R.Var n) q =
          let p = value-fits Region n v q in
          (p.0, sym (kind-of ts (arg_number v) (arg_kind v) (there-arg v) p.0) ∙ region-head (arg_tree ts v).head p.1)
      at _ q = cc
  kept-kind _ v q = cc

  -- what stands for a type, constant or region is one
  pub kept-of-kind : (x : GenericArg) → IsArg ts x → IsOfKind ts x (kept_at s (arg_tree ts x).head)
  kept-of-kind x a = at (kept_at s (arg_tree ts x).head) refl
    where
      at : (o : Option GenericArg) → kept_at s (arg_tree ts x).head ≡ o → IsOfKind ts x o
      at None q = tt
      at (Some v) q = let p = kept-kind (arg_tree ts x).head v q in (p.0, p.1 ∙ kind-of ts (arg_number x) (arg_kind x) (there-arg x) a)

-- so the kept value is the evaluator's
pub own-value : (r : Evaluator) (k : VariableKind) (n : ℕ) (o : Option GenericArg) → IsConsistent r.context.trees r.inference r.marks → o ≡ kept_value r.inference k n → IsValueOf r k n o
own-value r k n None c e = sym (value-tree r.context.trees r.mode r.inference k n) ∙ ap (option_map (arg_tree r.context.trees)) (sym e)
own-value r k n (Some v) c e =
    let p = value-fits r.context.trees r.inference c.known.values (kinds-now r.context.trees r.inference r.marks c) k n v (sym e) in
    (p.0, sym (value-tree r.context.trees r.mode r.inference k n) ∙ ap (option_map (arg_tree r.context.trees)) (sym e), p.1)

-- What stands for a tree's root.

abbrev pub value_answers : State → Answers
value_answers S d t = value_at S t.head

pub kept-are : (ts : List Tree) (m : TypingMode) (s : Inference) → kept_answers ts s ≡ value_answers (state_of ts m s)
kept-are ts m s = λ i d t. kept-tree ts m s t.head i

-- It stays as more numbers are given.
pub kept-stay : (ts us : List Tree) (s : Inference) → Extends ts us → IsKnown ts s → kept_answers us s ≡ kept_answers ts s
kept-stay ts us s x k =
    kept-are us PostAnalysis s ∙ (ap value_answers (state-stays ts us PostAnalysis s x k) ∙ sym (kept-are ts PostAnalysis s))
