-- Trees that stood under a binder, with names in the place of its variables: of what is put in after the trees for these nothing counts.
use Rattle.std.proofs.Common.{◌≡◌, ◌<◌, ◌+◌, ◌==◌, ℕ, zero, suc, Bool, true, false, Option, Some, None, List, arith, length, nat_le, nat_lt, refl, sym, ap, subst, ◌∙◌}
use Rattle.std.specs.Prelude.{slice_get, if◌then◌else◌}
use Rattle.std.proofs.lemmas.Option.{slice_get_within}
use Rattle.ir_trees.specs.declared.ir.heads.ConstHead.TheVariants as C
use Rattle.ir_trees.specs.declared.ir.heads.Head.{Head}
use Rattle.ir_trees.specs.declared.ir.heads.Head.TheVariants as H
use Rattle.ir_trees.specs.declared.ir.kinds.BoundVar.{BoundVar}
use Rattle.ir_trees.specs.declared.ir.kinds.RegionKind.TheVariants as R
use Rattle.ir_trees.specs.declared.ir.kinds.VarKind.{VarKind}
use Rattle.ir_trees.specs.declared.ir.kinds.VarKind.TheVariants as V
use Rattle.ir_trees.specs.Instantiation.Folding.{argument, leaf, put, shift_tree, substituted}
use Rattle.ir_trees.specs.Instantiation.Opening.{bound_head, error_of, is_of, nearer, opened}
use Rattle.ir_trees.specs.Unification.Substitutions.{alone}
use Rattle.ir_trees.specs.Syntax.Trees.{Kind, Forest, none, tree, Tree, count, holds, is_param, join}
use Rattle.ir_trees.proofs.Syntax.Splits.{count-join}
use Rattle.ir_folds.proofs.Instantiation.Substituting.{fold-agree}
use Rattle.candidate_eval.specs.Derivations.Naming.{name_of, named, named_head, named_variable}
use Rattle.candidate_eval.proofs.Marks.Marking.{IsUnmarked, fold-unmarked}
use Rattle.candidate_eval.proofs.Derivations.Naming.{StandFor, named-row}

-- a name from that number on
abbrev is_past : ℕ → Head → Bool
is_past n (H.Param i) = nat_le n i
is_past n (H.Const (C.Param i)) = nat_le n i
is_past n _ = false

argument-first : (a b : Forest) (i : ℕ) → nat_le (count a) i ≡ false → argument (join a b) i ≡ argument a i
argument-first none b i e = absurd (no i e)
  where
    no : (i : ℕ) → nat_le 0 i ≡ false → ⊥
    no i e = grind (arith, e)
argument-first (tree h below rest) b zero e = refl
argument-first (tree h below rest) b (suc i) e = argument-first rest b i (less (count rest) i e)
  where
    less : (n i : ℕ) → nat_le (1 + n) (suc i) ≡ false → nat_le n i ≡ false
    less n i e = grind (arith, e)

put-first : (a b : Forest) (d : ℕ) (h : Head) → is_past (count a) h ≡ false → put (join a b) d h ≡ put a d h
put-first a b d (H.Param i) e = ap (λ (t : Tree). Some (shift_tree d t)) (argument-first a b i e)
put-first a b d (H.Const (C.Param i)) e = ap (λ (t : Tree). Some (shift_tree d t)) (argument-first a b i e)
put-first a b d (H.Const _) e = refl
put-first a b d _ e = refl

module _ (first : ℕ) (ks : List Kind) where
  abbrev last : ℕ
  last = first + length ks

  error-within : (k : VarKind) → holds (is_past last) (alone (leaf (error_of k))) ≡ false
  error-within V.Ty = refl
  error-within V.Const = refl
  error-within V.Region = refl

  bound-within : (k : VarKind) (v : BoundVar) → holds (is_past last) (alone (leaf (bound_head k v))) ≡ false
  bound-within V.Ty v = refl
  bound-within V.Const v = refl
  bound-within V.Region v = refl

  name-within : (k : VarKind) (i : ℕ) → holds (is_past last) (alone (name_of first k i (slice_get ks i))) ≡ false
  name-within k i = of (slice_get ks i) refl
    where
      under : (j : Kind) → slice_get ks i ≡ Some j → nat_le (first + length ks) (first + i) ≡ false
      under j e = let l : i < length ks = slice_get_within ks i j e in grind (arith, l)

      named-so : (j : Kind) → slice_get ks i ≡ Some j → holds (is_past (first + length ks)) (alone (leaf (H.Param (first + i)))) ≡ false
      named-so j e = ap (λ b. Rattle.std.specs.Prelude.◌||◌ b false) (under j e)

      by : (j : Kind) (b : Bool) → slice_get ks i ≡ Some j → holds (is_past (first + length ks)) (alone (if b then leaf (H.Param (first + i)) else leaf (error_of k))) ≡ false
      by j true e = named-so j e
      by j false e = error-within k

      of : (o : Option Kind) → slice_get ks i ≡ o → holds (is_past (first + length ks)) (alone (name_of first k i o)) ≡ false
      of None e = error-within k
      of (Some j) e = by j (is_of k j) e

  variable-within : (d : ℕ) (k : VarKind) (v : BoundVar) → IsUnmarked (is_past last) (named_variable first ks d k v)
  variable-within d k v = at (v.depth == d) (nat_lt d v.depth)
    where
      at : (b further : Bool) → IsUnmarked (is_past (first + length ks)) (if b then Some (name_of first k v.index (slice_get ks v.index)) else (if further then Some (leaf (bound_head k (nearer v))) else None))
      at true further = name-within k v.index
      at false true = bound-within k (nearer v)
      at false false = tt

  head-within : (d : ℕ) (h : Head) → IsUnmarked (is_past last) (named_head first ks d h)
  head-within d (H.Bound v) = variable-within d V.Ty v
  head-within d (H.Const (C.Bound v)) = variable-within d V.Const v
  head-within d (H.Region (R.Bound v)) = variable-within d V.Region v
  head-within d _ = tt

  no-param : (h : Head) → is_param h ≡ false → is_past last h ≡ false
  no-param (H.Param i) e = cc
  no-param (H.Const (C.Param i)) e = cc
  no-param (H.Const _) e = refl
  no-param _ e = refl

  row-within : (ts : Forest) → holds is_param ts ≡ false → holds (is_past last) (named first ks ts) ≡ false
  row-within ts e = fold-unmarked (named_head first ks) is_param (is_past last) no-param head-within 0 ts e

-- With other trees after the row, it is opened by the row.
pub named-within : (row ls more : Forest) (ks : List Kind) (ts : Forest) → StandFor ks row → count row ≡ length ks → holds is_param ts ≡ false
    → substituted (join (join ls row) more) 0 (named (count ls) ks ts) ≡ opened row ts
named-within row ls more ks ts stand many e =
    let long : count ls + length ks ≡ count (join ls row) = ap (λ n. count ls + n) (sym many) ∙ sym (count-join ls row) in
    fold-agree (put (join (join ls row) more)) (put (join ls row)) (is_past (count (join ls row))) (put-first (join ls row) more) 0 (named (count ls) ks ts)
    (subst (λ (n : ℕ). holds (is_past n) (named (count ls) ks ts) ≡ false) long (row-within (count ls) ks ts e))
    ∙ named-row row ls ks stand ts e
