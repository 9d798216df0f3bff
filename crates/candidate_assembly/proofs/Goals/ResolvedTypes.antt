-- A type that is no general variable is none where values are put in, and no bound type.
use Rattle.std.proofs.Common.{◌≡◌, ◌+◌, true, false, Option, Some, None, refl, sym, ap, ◌∙◌, arith}
use Rattle.std.proofs.lemmas.Bool.{leb-false}
use Rattle.std.specs.Option.{unwrap_or}
use Rattle.ir_trees.specs.declared.ir.heads.Head.{Head}
use Rattle.ir_trees.specs.declared.ir.heads.Head.TheVariants as H
use Rattle.ir_trees.specs.declared.ir.kinds.RegionKind.TheVariants as R
use Rattle.ir_trees.specs.declared.ir.heads.VariableSort.{VariableSort}
use Rattle.ir_trees.specs.declared.ir.heads.VariableSort.TheVariants as V
use Rattle.ir_trees.specs.Syntax.Binders.{is_beyond}
use Rattle.ir_trees.specs.Instantiation.Folding.{fold}
use Rattle.ir_trees.specs.Unification.Substitutions.{alone, fits_sort, is_float, is_integer, same_sort}
use Rattle.ir_trees.specs.Syntax.Trees.{TypeKind, none, Tree, binders_of, kind_of, sort_kind}
use Rattle.candidate_eval.specs.declared.eval.variable.VariableKind.{VariableKind}
use Rattle.candidate_eval.specs.declared.eval.variable.VariableKind.TheVariants.{Term}
use Rattle.candidate_eval.specs.Judges.Alike.{info}
use Rattle.candidate_eval.specs.Builtins.Callable.{is_general as is_unsettled, is_unknown}
use Rattle.candidate_eval.specs.Knowability.Orphan.{is_general, is_general_sort}
use Rattle.candidate_eval.specs.Judges.Soundness.{Live, ValuesFit, fits_kind, is_strange}
use Rattle.candidate_eval.specs.Judges.States.{State, Env, has_kind, resolved_tree, same_kind, value_at}
use Rattle.candidate_eval.proofs.Marks.Closed.{closed-parts}
use Rattle.candidate_eval.proofs.Marks.Holds.{holds_parts}
use Rattle.candidate_assembly.specs.Goals.Standing.{IsValidAt}
use Rattle.candidate_assembly.proofs.Goals.Standing.{counted, kind-there, value-as-is}

fits-as : (k : VariableKind) (s : VariableSort) → same_kind k (Term s) ≡ true → (h : Head) → fits_kind k h ≡ true → fits_sort s h ≡ true
fits-as (Term V.General) V.General e h f = f
fits-as (Term V.Integer) V.Integer e h f = f
fits-as (Term V.Floating) V.Floating e h f = f
fits-as (Term V.Constant) V.Constant e h f = f
fits-as _ _ e h f = cc

integer-known : (h : Head) → is_integer h ≡ true → is_unknown h ≡ false
integer-known (H.Infer v) e = of v.sort e
  where
    of : (s : VariableSort) → same_sort s V.Integer ≡ true → is_unsettled s ≡ false
    of V.Integer e = refl
    of _ e = cc
integer-known (H.Builtin b) e = refl
integer-known _ e = cc

float-known : (h : Head) → is_float h ≡ true → is_unknown h ≡ false
float-known (H.Infer v) e = of v.sort e
  where
    of : (s : VariableSort) → same_sort s V.Floating ≡ true → is_unsettled s ≡ false
    of V.Floating e = refl
    of _ e = cc
float-known (H.Builtin b) e = refl
float-known _ e = cc

value-known : (s : VariableSort) (h : Head) → sort_kind s ≡ TypeKind → is_general_sort s ≡ false → fits_sort s h ≡ true → is_unknown h ≡ false
value-known V.General h k g f = cc
value-known V.Integer h k g f = integer-known h f
value-known V.Floating h k g f = float-known h f
value-known V.Constant h k g f = cc

sort-known : (s : VariableSort) → sort_kind s ≡ TypeKind → is_general_sort s ≡ false → is_unsettled s ≡ false
sort-known V.General k g = cc
sort-known V.Integer k g = refl
sort-known V.Floating k g = refl
sort-known V.Constant k g = cc

-- the head of a type, and of what stands for it
head-known : (h : Head) → kind_of h ≡ TypeKind → is_general h ≡ false → is_beyond 0 h ≡ false → is_unknown h ≡ false
head-known (H.Infer v) k g b = sort-known v.sort k g
head-known (H.Bound v) k g b = let l = leb-false 0 v.depth b in absurd (omega (arith, l))
head-known _ k g b = refl

put-known : (S : State) (L : Live) → ValuesFit S L → (h : Head) (u : Tree) → is_strange S L h ≡ false → kind_of h ≡ TypeKind → is_general h ≡ false → value_at S h ≡ Some u → is_unknown u.head ≡ false
put-known S L fits (H.Infer v) u e k g is =
    let i = counted (L v.number) (Term v.sort) (info S v.number) e in
    let there = ap (has_kind (Term v.sort)) (sym i.1) ∙ kind-there (L v.number) (Term v.sort) (info S v.number) e in
    value-known v.sort u.head k g (fits-as i.0.kind v.sort there u.head ((fits v.number i.2).kind i.0 u i.1 (value-as-is (L v.number) S (Term v.sort) v.number u i.0 e i.1 is)))
put-known S L fits (H.Region (R.Var n)) u e k g is = cc
put-known S L fits _ u e k g is = cc

pub resolved-known : (S : State) (e : Env) (t : Tree) → IsValidAt S e (alone t) → kind_of t.head ≡ TypeKind → is_general t.head ≡ false → is_unknown (resolved_tree S t).head ≡ false
resolved-known S e t s k g =
    let p = holds_parts (is_strange S s.live) t.head t.children none s.trees.known in
    let q = closed-parts 0 t.head t.children none s.trees.is_closed in
    of (value_at S t.head) refl p.here q.here
  where
    of : (o : Option Tree) → value_at S t.head ≡ o → is_strange S s.live t.head ≡ false → is_beyond 0 t.head ≡ false
        → is_unknown (unwrap_or o (record { head = t.head; children = fold (λ _ u. value_at S u.head) (0 + binders_of t.head) t.children })).head ≡ false
    of None is here free = head-known t.head k g free
    of (Some u) is here free = put-known S s.live s.fits t.head u here k g is
