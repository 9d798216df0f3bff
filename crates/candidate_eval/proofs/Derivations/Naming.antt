-- Trees and clauses opened by names: with the row's next trees in the place of the names, they are what these trees open them to.
use Rattle.std.proofs.Common.{◌≡◌, ℕ, zero, suc, ◌+◌, ◌==◌, ◌<◌, ◌≤◌, Bool, true, false, List, [], ◌∷◌, length, Option, Some, None, arith, nat_le, nat_lt, refl, sym, ap, ◌∙◌}
use Rattle.std.proofs.lemmas.List.{length-append}
use Rattle.std.specs.Prelude.{slice_get, if◌then◌else◌}
use Rattle.std.specs.Option.{unwrap_or}
use Rattle.ir_trees.specs.declared.ir.heads.ConstHead.{ConstHead}
use Rattle.ir_trees.specs.declared.ir.heads.ConstHead.TheVariants as C
use Rattle.ir_trees.specs.declared.ir.heads.Head.{Head}
use Rattle.ir_trees.specs.declared.ir.heads.Head.TheVariants as H
use Rattle.ir_trees.specs.declared.ir.heads.PartHead.TheVariants as P
use Rattle.ir_trees.specs.declared.ir.kinds.BoundVar.{BoundVar}
use Rattle.ir_trees.specs.declared.ir.kinds.RegionKind.{RegionKind}
use Rattle.ir_trees.specs.declared.ir.kinds.RegionKind.TheVariants as R
use Rattle.ir_trees.specs.declared.ir.kinds.VarKind.{VarKind}
use Rattle.ir_trees.specs.declared.ir.kinds.VarKind.TheVariants as V
use Rattle.ir_trees.specs.Syntax.Binders.{is_beyond, escapes}
use Rattle.ir_trees.specs.Declarations.Context.{parameter_kind}
use Rattle.ir_trees.specs.Instantiation.Folding.{Answers, fold, fold_tree, leaf, shift_tree, argument, put, substituted, substituted_tree}
use Rattle.ir_trees.specs.Instantiation.Folds.{node}
use Rattle.ir_trees.specs.Syntax.Nodes.{error_tree}
use Rattle.ir_trees.specs.Instantiation.Opening.{is_of, of_kind, error_of, bound_head, nearer, opened, opened_clause, opened_tree, opened_variable, opened_head}
use Rattle.ir_trees.specs.Unification.Substitutions.{alone}
use Rattle.ir_trees.specs.Hierarchy.Supers.{after_first}
use Rattle.ir_trees.specs.Syntax.Trees.{Kind, TypeKind, ConstantKind, RegionKind as OfRegion, Forest, none, tree, Tree, kind_of, binders_of, count, holds, tree_holds, is_param, join}
use Rattle.ir_trees.proofs.Instantiation.Folding.{HeadAnswers, begin, by_head}
use Rattle.candidate_eval.specs.declared.eval.variable.VariableKind.{VariableKind}
use Rattle.candidate_eval.specs.declared.eval.variable.VariableKind.TheVariants.{Term, Region}
use Rattle.candidate_eval.specs.Builtins.Callable.{all_but_last, last_tree}
use Rattle.candidate_eval.specs.Derivations.Characterization.{binder_kinds, bound_kinds}
use Rattle.candidate_eval.specs.Interface.Evaluators.{rigid}
use Rattle.candidate_eval.specs.Derivations.Mentions.{IsBelow, is_from}
use Rattle.candidate_eval.specs.Dynamic.Objects.{arguments_in, fresh_instance, term_in, with_instance}
use Rattle.candidate_eval.specs.Judges.States.{State, placeholder, placeholders, fresh_info, fresh_variables, variable, variable_kind, with_fresh, with_fresh_variables}
use Rattle.candidate_eval.proofs.Marks.Holds.{holds_parts}
use Rattle.candidate_eval.proofs.Marks.Closed.{after-closed, binder-one, closed, closed-on, closed-parts, closed-shift, last-closed}
use Rattle.candidate_eval.proofs.Marks.Marking.{IsUnmarked, after-unmarked, alone-unmarked, argument-unmarked, but-last-unmarked, below-more, below-shifted, fold-unmarked, last-unmarked, unmarked}
use Rattle.candidate_eval.specs.Derivations.Naming.{name_of, named, named_clause, named_head, named_tree, named_variable}

-- Folds one after another.

-- what stands in a place after both: the first's answer with the second's put in, and where it has none, the second's
abbrev pub both_answers : (Tree → Tree) → Option Tree → Option Tree → Option Tree
both_answers put_second None o = o
both_answers put_second (Some u) o = Some (put_second u)

-- One fold after another is the fold by the answers of both, asked of heads without the mark.
module _ (f g k : HeadAnswers) (mark : Head → Bool)
    (same : (d : ℕ) (h : Head) → mark h ≡ false → k d h ≡ both_answers (fold_tree (by_head g) d) (f d h) (g d h)) where
  pub fold-twice : (d : ℕ) (ts : Forest) → holds mark ts ≡ false → fold (by_head g) d (fold (by_head f) d ts) ≡ fold (by_head k) d ts
  fold-twice d none e = refl
  fold-twice d (tree h below rest) e =
      let p = holds_parts mark h below rest e in
      at (f d h) (fold-twice (d + binders_of h) below p.under)
      ∙ (ap (λ (o : Option Tree). begin (unwrap_or o (node h (fold (by_head k) (d + binders_of h) below))) (fold (by_head g) d (fold (by_head f) d rest))) (sym (same d h p.here))
      ∙ ap (begin (unwrap_or (k d h) (node h (fold (by_head k) (d + binders_of h) below)))) (fold-twice d rest p.others))
    where
      at : (o : Option Tree) → fold (by_head g) (d + binders_of h) (fold (by_head f) (d + binders_of h) below) ≡ fold (by_head k) (d + binders_of h) below
          → fold (by_head g) d (begin (unwrap_or o (node h (fold (by_head f) (d + binders_of h) below))) (fold (by_head f) d rest))
          ≡ begin (unwrap_or (both_answers (fold_tree (by_head g) d) o (g d h)) (node h (fold (by_head k) (d + binders_of h) below))) (fold (by_head g) d (fold (by_head f) d rest))
      at None under = ap (λ (b : Forest). begin (unwrap_or (g d h) (node h b)) (fold (by_head g) d (fold (by_head f) d rest))) under
      at (Some u) under = refl

-- Rows.

pub argument-join : (a b : Forest) (i : ℕ) → argument (join a b) (count a + i) ≡ argument b i
argument-join none b i = let e : 0 + i ≡ i = omega arith in ap (argument b) e
argument-join (tree h below rest) b i =
    let e : 1 + count rest + i ≡ suc (count rest + i) = omega arith in
    ap (argument (tree h below (join rest b))) e ∙ argument-join rest b i

-- The kinds of a binder's variables are those of types, constants and regions.

-- a fresh variable for such a kind is of that kind
abbrev pub AreOfVariables : List Kind → Type 0
AreOfVariables [] = Unit {0}
AreOfVariables (k ∷ ks) = ((n : ℕ) → kind_of (variable (variable_kind k) n).head ≡ k) × AreOfVariables ks

variable-of : (k : VarKind) (n : ℕ) → kind_of (variable (variable_kind (parameter_kind k)) n).head ≡ parameter_kind k
variable-of V.Ty n = refl
variable-of V.Const n = refl
variable-of V.Region n = refl

pub binder-kinds : (ts : Forest) → AreOfVariables (binder_kinds ts)
binder-kinds none = tt
binder-kinds (tree (H.Part (P.Var k)) below rest) = (variable-of k, binder-kinds rest)
binder-kinds (tree _ below rest) = binder-kinds rest

pub kinds-bound : (ts : Forest) → AreOfVariables (bound_kinds ts)
kinds-bound none = tt
kinds-bound (tree h below rest) = binder-kinds below

-- Fresh variables by their numbers.

fresh-kind : (S : State) (ks : List Kind) (i : ℕ) (k : Kind) → AreOfVariables ks → slice_get ks i ≡ Some k → kind_of (argument (fresh_variables S ks) i).head ≡ k
fresh-kind S [] i k a e = absurd cc
fresh-kind S (j ∷ ks) zero k a e = let same : j ≡ k = cc in a.0 _ ∙ same
fresh-kind S (j ∷ ks) (suc i) k a e = fresh-kind (with_fresh S (variable_kind j)) ks i k a.1 e

fresh-none : (S : State) (ks : List Kind) (i : ℕ) → slice_get ks i ≡ None → argument (fresh_variables S ks) i ≡ error_tree
fresh-none S [] i e = refl
fresh-none S (j ∷ ks) zero e = absurd cc
fresh-none S (j ∷ ks) (suc i) e = fresh-none (with_fresh S (variable_kind j)) ks i e

-- Trees that stand for the variables of a binder: they are of these kinds, and past them there is none.
pub record StandFor (ks : List Kind) (row : Forest) : Type 0 where
  pub kind : (i : ℕ) (k : Kind) → slice_get ks i ≡ Some k → kind_of (argument row i).head ≡ k
  pub past : (i : ℕ) → slice_get ks i ≡ None → argument row i ≡ error_tree

pub fresh-stand : (S : State) (ks : List Kind) → AreOfVariables ks → StandFor ks (fresh_variables S ks)
fresh-stand S ks a = record { kind = λ i k e. fresh-kind S ks i k a e; past = fresh-none S ks }

-- Placeholders by their numbers.

placeholder-kind : (u n : ℕ) (ks : List Kind) (i : ℕ) (k : Kind) → AreOfVariables ks → slice_get ks i ≡ Some k → kind_of (argument (placeholders u n ks) i).head ≡ k
placeholder-kind u n [] i k a e = absurd cc
placeholder-kind u n (j ∷ ks) zero k a e = let same : j ≡ k = cc in placeholder-of j a.0 ∙ same
  where
    placeholder-of : (j : Kind) → ((n : ℕ) → kind_of (variable (variable_kind j) n).head ≡ j) → kind_of (placeholder j u n) ≡ j
    placeholder-of TypeKind h = refl
    placeholder-of ConstantKind h = refl
    placeholder-of OfRegion h = refl
    placeholder-of _ h = h 0
placeholder-kind u n (j ∷ ks) (suc i) k a e = placeholder-kind u (suc n) ks i k a.1 e

placeholder-none : (u n : ℕ) (ks : List Kind) (i : ℕ) → slice_get ks i ≡ None → argument (placeholders u n ks) i ≡ error_tree
placeholder-none u n [] i e = refl
placeholder-none u n (j ∷ ks) zero e = absurd cc
placeholder-none u n (j ∷ ks) (suc i) e = placeholder-none u (suc n) ks i e

pub placeholders-stand : (u n : ℕ) (ks : List Kind) → AreOfVariables ks → StandFor ks (placeholders u n ks)
placeholders-stand u n ks a = record { kind = λ i k e. placeholder-kind u n ks i k a e; past = placeholder-none u n ks }

-- What is put in for a name is what stands for the variable.
module _ (row ls : Forest) (ks : List Kind) (stand : StandFor ks row) where
  abbrev put_row : HeadAnswers
  put_row = put (join ls row)

  error-put : (d : ℕ) (k : VarKind) → fold_tree (by_head put_row) d (leaf (error_of k)) ≡ shift_tree d (leaf (error_of k))
  error-put d V.Ty = refl
  error-put d V.Const = refl
  error-put d V.Region = refl

  name-put : (d : ℕ) (k : VarKind) (i : ℕ) → fold_tree (by_head put_row) d (name_of (count ls) k i (slice_get ks i)) ≡ shift_tree d (of_kind k (argument row i))
  name-put d k i = at (slice_get ks i) refl
    where
      error-kept : (k : VarKind) → leaf (error_of k) ≡ of_kind k error_tree
      error-kept V.Ty = refl
      error-kept V.Const = refl
      error-kept V.Region = refl

      by : (b : Bool) → fold_tree (by_head put_row) d (if b then leaf (H.Param (count ls + i)) else leaf (error_of k)) ≡ shift_tree d (if b then argument row i else leaf (error_of k))
      by true = ap (shift_tree d) (argument-join ls row i)
      by false = error-put d k

      at : (o : Option Kind) → slice_get ks i ≡ o → fold_tree (by_head put_row) d (name_of (count ls) k i o) ≡ shift_tree d (of_kind k (argument row i))
      at None e = error-put d k ∙ ap (shift_tree d) (error-kept k ∙ ap (of_kind k) (sym (stand.past i e)))
      at (Some j) e =
          by (is_of k j)
          ∙ ap (λ (l : Kind). shift_tree d (if is_of k l then argument row i else leaf (error_of k))) (sym (stand.kind i j e))

  variable-put : (d : ℕ) (k : VarKind) (v : BoundVar) → opened_variable row d k v ≡ both_answers (fold_tree (by_head put_row) d) (named_variable (count ls) ks d k v) None
  variable-put d k v = at (v.depth == d)
    where
      bound-put : (k : VarKind) (x : BoundVar) → leaf (bound_head k x) ≡ fold_tree (by_head put_row) d (leaf (bound_head k x))
      bound-put V.Ty x = refl
      bound-put V.Const x = refl
      bound-put V.Region x = refl

      by : (b : Bool) → (if b then Some (leaf (bound_head k (nearer v))) else None)
          ≡ both_answers (fold_tree (by_head put_row) d) (if b then Some (leaf (bound_head k (nearer v))) else None) None
      by true = ap Some (bound-put k (nearer v))
      by false = refl

      at : (b : Bool) → (if b then Some (shift_tree d (of_kind k (argument row v.index))) else (if nat_lt d v.depth then Some (leaf (bound_head k (nearer v))) else None))
          ≡ both_answers (fold_tree (by_head put_row) d) (if b then Some (name_of (count ls) k v.index (slice_get ks v.index)) else (if nat_lt d v.depth then Some (leaf (bound_head k (nearer v))) else None)) None
      at true = ap Some (sym (name-put d k v.index))
      at false = by (nat_lt d v.depth)

  head-put : (d : ℕ) (h : Head) → is_param h ≡ false → opened_head row d h ≡ both_answers (fold_tree (by_head put_row) d) (named_head (count ls) ks d h) (put_row d h)
  head-put d (H.Bound v) e = variable-put d V.Ty v
  head-put d (H.Param i) e = absurd cc
  head-put d (H.Const c) e = at c e
    where
      at : (c : ConstHead) → is_param (H.Const c) ≡ false
          → opened_head row d (H.Const c) ≡ both_answers (fold_tree (by_head put_row) d) (named_head (count ls) ks d (H.Const c)) (put_row d (H.Const c))
      at (C.Bound v) e = variable-put d V.Const v
      at (C.Param i) e = absurd cc
      at _ e = refl
  head-put d (H.Region r) e = at r
    where
      at : (r : RegionKind)
          → opened_head row d (H.Region r) ≡ both_answers (fold_tree (by_head put_row) d) (named_head (count ls) ks d (H.Region r)) (put_row d (H.Region r))
      at (R.Bound v) = variable-put d V.Region v
      at _ = refl
  head-put d _ e = refl

  -- Trees that are opened by names, with the row in their place, are the trees that are opened by the row: a row of trees, and one.

  pub named-row : (ts : Forest) → holds is_param ts ≡ false → substituted (join ls row) 0 (named (count ls) ks ts) ≡ opened row ts
  named-row ts e = fold-twice (named_head (count ls) ks) put_row (opened_head row) is_param head-put 0 ts e

  pub named-one : (t : Tree) → tree_holds is_param t ≡ false → substituted_tree (join ls row) (named_tree (count ls) ks t) ≡ opened_tree row t
  named-one t e = ap last_tree (named-row (alone t) (alone-unmarked is_param t e))

-- The same of a clause, and where fresh variables, or placeholders, stand for those of the binder.

pub named-opened : (row ls : Forest) (c : Tree) → StandFor (bound_kinds c.children) row → holds is_param c.children ≡ false
    → substituted (join ls row) 0 (after_first (named_clause (count ls) c).children) ≡ after_first (opened_clause row c).children
named-opened row ls c stand e = named-row row ls (bound_kinds c.children) stand (after_first c.children) (after-unmarked is_param c.children e)

pub named-instance : (S : State) (ls : Forest) (c : Tree) → holds is_param c.children ≡ false
    → substituted (join ls (fresh_variables S (bound_kinds c.children))) 0 (after_first (named_clause (count ls) c).children) ≡ after_first (fresh_instance S c).children
named-instance S ls c e = let ks = bound_kinds c.children in named-opened (fresh_variables S ks) ls c (fresh-stand S ks (kinds-bound c.children)) e

pub named-entered : (S : State) (ls : Forest) (c : Tree) → holds is_param c.children ≡ false
    → substituted (join ls (rigid S (bound_kinds c.children))) 0 (after_first (named_clause (count ls) c).children) ≡ after_first (opened_clause (rigid S (bound_kinds c.children)) c).children
named-entered S ls c e =
    let ks = bound_kinds c.children in
    named-opened (rigid S ks) ls c (placeholders-stand (suc S.newest_universe) 0 ks (kinds-bound c.children)) e

pub named-fresh : (S : State) (ls : Forest) (ks : List Kind) (ts : Forest) → AreOfVariables ks → holds is_param ts ≡ false
    → substituted (join ls (fresh_variables S ks)) 0 (named (count ls) ks ts) ≡ opened (fresh_variables S ks) ts
named-fresh S ls ks ts a e = named-row (fresh_variables S ks) ls ks (fresh-stand S ks a) ts e

pub named-fresh-tree : (S : State) (ls : Forest) (ks : List Kind) (t : Tree) → AreOfVariables ks → tree_holds is_param t ≡ false
    → substituted_tree (join ls (fresh_variables S ks)) (named_tree (count ls) ks t) ≡ opened_tree (fresh_variables S ks) t
named-fresh-tree S ls ks t a e = named-one (fresh_variables S ks) ls ks (fresh-stand S ks a) t e

pub named-rigid : (S : State) (ls : Forest) (ks : List Kind) (ts : Forest) → AreOfVariables ks → holds is_param ts ≡ false
    → substituted (join ls (rigid S ks)) 0 (named (count ls) ks ts) ≡ opened (rigid S ks) ts
named-rigid S ls ks ts a e = named-row (rigid S ks) ls ks (placeholders-stand (suc S.newest_universe) 0 ks a) ts e

pub named-rigid-tree : (S : State) (ls : Forest) (ks : List Kind) (t : Tree) → AreOfVariables ks → tree_holds is_param t ≡ false
    → substituted_tree (join ls (rigid S ks)) (named_tree (count ls) ks t) ≡ opened_tree (rigid S ks) t
named-rigid-tree S ls ks t a e = named-one (rigid S ks) ls ks (placeholders-stand (suc S.newest_universe) 0 ks a) t e

-- The last tree of a row that is folded, and those before it.

but-last-folded : (f : Answers) (d : ℕ) (ts : Forest) → fold f d (all_but_last ts) ≡ all_but_last (fold f d ts)
but-last-folded f d none = refl
but-last-folded f d (tree h below none) = refl
but-last-folded f d (tree h below (tree g inner rest)) = ap (begin (fold_tree f d (node h below))) (but-last-folded f d (tree g inner rest))

pub but-last-substituted : (args : Forest) (ts : Forest) → substituted args 0 (all_but_last ts) ≡ all_but_last (substituted args 0 ts)
but-last-substituted args ts = but-last-folded (by_head (put args)) 0 ts

pub last-substituted : (args : Forest) (ts : Forest) → substituted_tree args (last_tree ts) ≡ last_tree (substituted args 0 ts)
last-substituted args none = refl
last-substituted args (tree h below none) = refl
last-substituted args (tree h below (tree g inner rest)) = last-substituted args (tree g inner rest)

pub named-arguments : (S : State) (ls : Forest) (c : Tree) → holds is_param c.children ≡ false
    → substituted (join ls (fresh_variables S (bound_kinds c.children))) 0 (arguments_in (named_clause (count ls) c)) ≡ arguments_in (fresh_instance S c)
named-arguments S ls c e =
    but-last-substituted (join ls (fresh_variables S (bound_kinds c.children))) (after_first (named_clause (count ls) c).children) ∙ ap all_but_last (named-instance S ls c e)

pub named-term : (S : State) (ls : Forest) (c : Tree) → holds is_param c.children ≡ false
    → substituted_tree (join ls (fresh_variables S (bound_kinds c.children))) (term_in (named_clause (count ls) c)) ≡ term_in (fresh_instance S c)
named-term S ls c e =
    last-substituted (join ls (fresh_variables S (bound_kinds c.children))) (after_first (named_clause (count ls) c).children) ∙ ap last_tree (named-instance S ls c e)

-- Which variables are mentioned.

error-below : (n : ℕ) (k : VarKind) → IsBelow n (alone (leaf (error_of k)))
error-below n V.Ty = refl
error-below n V.Const = refl
error-below n V.Region = refl

bound-below : (n : ℕ) (k : VarKind) (v : BoundVar) → IsBelow n (alone (leaf (bound_head k v)))
bound-below n V.Ty v = refl
bound-below n V.Const v = refl
bound-below n V.Region v = refl

named-variable-below : (n first : ℕ) (ks : List Kind) (d : ℕ) (k : VarKind) (v : BoundVar) → IsUnmarked (is_from n) (named_variable first ks d k v)
named-variable-below n first ks d k v = at (v.depth == d) (nat_lt d v.depth)
  where
    name : (b : Bool) → IsBelow n (alone (if b then leaf (H.Param (first + v.index)) else leaf (error_of k)))
    name true = refl
    name false = error-below n k

    named : (o : Option Kind) → IsBelow n (alone (name_of first k v.index o))
    named None = error-below n k
    named (Some j) = name (is_of k j)

    at : (b further : Bool) → IsUnmarked (is_from n) (if b then Some (name_of first k v.index (slice_get ks v.index)) else (if further then Some (leaf (bound_head k (nearer v))) else None))
    at true further = named (slice_get ks v.index)
    at false true = bound-below n k (nearer v)
    at false false = tt

named-head-below : (n first : ℕ) (ks : List Kind) (d : ℕ) (h : Head) → IsUnmarked (is_from n) (named_head first ks d h)
named-head-below n first ks d (H.Bound v) = named-variable-below n first ks d V.Ty v
named-head-below n first ks d (H.Const (C.Bound v)) = named-variable-below n first ks d V.Const v
named-head-below n first ks d (H.Region (R.Bound v)) = named-variable-below n first ks d V.Region v
named-head-below n first ks d _ = tt

-- what stands under a clause's binder
under-below : (n : ℕ) (c : Tree) → IsBelow n (alone c) → IsBelow n (after_first c.children)
under-below n c e = after-unmarked (is_from n) c.children (holds_parts (is_from n) c.head c.children none e).under

pub named-row-below : (n first : ℕ) (ks : List Kind) (ts : Forest) → IsBelow n ts → IsBelow n (named first ks ts)
named-row-below n first ks ts e = fold-unmarked (named_head first ks) (is_from n) (is_from n) (λ h m. m) (named-head-below n first ks) 0 ts e

pub named-below : (n first : ℕ) (c : Tree) → IsBelow n (alone c) → IsBelow n (arguments_in (named_clause first c)) × IsBelow n (alone (term_in (named_clause first c)))
named-below n first c e =
    let ks = bound_kinds c.children in
    let all : IsBelow n (after_first (named_clause first c).children) = named-row-below n first ks (after_first c.children) (under-below n c e) in (
      but-last-unmarked (is_from n) (after_first (named_clause first c).children) all,
      last-unmarked (is_from n) (after_first (named_clause first c).children) refl all,
    )

-- Fresh variables are the highest of the state with them.

fresh-longer : (S : State) (ks : List Kind) → length S.variables ≤ length (with_fresh_variables S ks).variables
fresh-longer S [] = omega arith
fresh-longer S (k ∷ ks) =
    let more = fresh-longer (with_fresh S (variable_kind k)) ks in
    let one = length-append S.variables (fresh_info S (variable_kind k) ∷ []) in
    omega (arith, more, one)

pub instance-longer : (S : State) (c : Tree) → length S.variables ≤ length (with_instance S c).variables
instance-longer S c = fresh-longer S (bound_kinds c.children)

variable-below : (m : ℕ) (w : VariableKind) (n : ℕ) → n < m → is_from m (variable w n).head ≡ false
variable-below m w n l = at w
  where
    under : nat_le m n ≡ false
    under = grind (arith, l)

    at : (w : VariableKind) → is_from m (variable w n).head ≡ false
    at (Term s) = under
    at Region = under

variable-leaf : (w : VariableKind) (n : ℕ) → (variable w n).children ≡ none
variable-leaf (Term s) n = refl
variable-leaf Region n = refl

fresh-below : (S : State) (ks : List Kind) (m : ℕ) → length (with_fresh_variables S ks).variables ≤ m → IsBelow m (fresh_variables S ks)
fresh-below S [] m l = refl
fresh-below S (k ∷ ks) m l =
    let t : Tree = variable (variable_kind k) (length S.variables) in
    let more = fresh-longer (with_fresh S (variable_kind k)) ks in
    let one = length-append S.variables (fresh_info S (variable_kind k) ∷ []) in
    let inside : length S.variables < m = omega (arith, more, one, l) in
    unmarked (is_from m) t.head t.children (fresh_variables (with_fresh S (variable_kind k)) ks) (variable-below m (variable_kind k) (length S.variables) inside)
    (ap (holds (is_from m)) (variable-leaf (variable_kind k) (length S.variables))) (fresh-below (with_fresh S (variable_kind k)) ks m l)

module _ (m : ℕ) (values : Forest) (below : IsBelow m values) where
  value-below : (d : ℕ) (k : VarKind) (i : ℕ) → IsBelow m (alone (shift_tree d (of_kind k (argument values i))))
  value-below d k i = below-shifted m d (of_kind k (argument values i)) (at (is_of k (kind_of (argument values i).head)))
    where
      at : (b : Bool) → IsBelow m (alone (if b then argument values i else leaf (error_of k)))
      at true = argument-unmarked (is_from m) values i refl below
      at false = error-below m k

  opened-variable-below : (d : ℕ) (k : VarKind) (v : BoundVar) → IsUnmarked (is_from m) (opened_variable values d k v)
  opened-variable-below d k v = at (v.depth == d) (nat_lt d v.depth)
    where
      at : (b further : Bool) → IsUnmarked (is_from m) (if b then Some (shift_tree d (of_kind k (argument values v.index))) else (if further then Some (leaf (bound_head k (nearer v))) else None))
      at true further = value-below d k v.index
      at false true = bound-below m k (nearer v)
      at false false = tt

  opened-head-below : (d : ℕ) (h : Head) → IsUnmarked (is_from m) (opened_head values d h)
  opened-head-below d (H.Bound v) = opened-variable-below d V.Ty v
  opened-head-below d (H.Const (C.Bound v)) = opened-variable-below d V.Const v
  opened-head-below d (H.Region (R.Bound v)) = opened-variable-below d V.Region v
  opened-head-below d _ = tt

  pub opened-below : (ts : Forest) → IsBelow m ts → IsBelow m (opened values ts)
  opened-below ts e = fold-unmarked (opened_head values) (is_from m) (is_from m) (λ h x. x) opened-head-below 0 ts e

-- Placeholders are no variables: a clause with placeholders mentions none but those that it mentioned.

placeholders-below : (m u n : ℕ) (ks : List Kind) → IsBelow m (placeholders u n ks)
placeholders-below m u n [] = refl
placeholders-below m u n (k ∷ ks) = unmarked (is_from m) (placeholder k u n) none (placeholders u (suc n) ks) (at k) refl (placeholders-below m u (suc n) ks)
  where
    at : (k : Kind) → is_from m (placeholder k u n) ≡ false
    at ConstantKind = refl
    at OfRegion = refl
    at _ = refl

pub rigid-below : (m : ℕ) (S : State) (ks : List Kind) (ts : Forest) → IsBelow m ts → IsBelow m (opened (rigid S ks) ts)
rigid-below m S ks ts e = opened-below m (rigid S ks) (placeholders-below m (suc S.newest_universe) 0 ks) ts e

pub entered-below : (m : ℕ) (S : State) (c : Tree) → IsBelow m (alone c) → IsBelow m (after_first (opened_clause (rigid S (bound_kinds c.children)) c).children)
entered-below m S c e = rigid-below m S (bound_kinds c.children) (after_first c.children) (under-below m c e)

-- A clause with fresh variables mentions none but those of the state then; so do its arguments and its term.
pub instance-below : (S : State) (c : Tree) → IsBelow (length S.variables) (alone c) → IsBelow (length (with_instance S c).variables) (after_first (fresh_instance S c).children)
instance-below S c e =
    let ks = bound_kinds c.children in
    let m = length (with_instance S c).variables in
    opened-below m (fresh_variables S ks) (fresh-below S ks m (omega arith)) (after_first c.children)
    (below-more (length S.variables) m (after_first c.children) (instance-longer S c) (under-below (length S.variables) c e))

pub arguments-below : (S : State) (c : Tree) → IsBelow (length S.variables) (alone c) → IsBelow (length (with_instance S c).variables) (arguments_in (fresh_instance S c))
arguments-below S c e = but-last-unmarked (is_from (length (with_instance S c).variables)) (after_first (fresh_instance S c).children) (instance-below S c e)

pub term-below : (S : State) (c : Tree) → IsBelow (length S.variables) (alone c) → IsBelow (length (with_instance S c).variables) (alone (term_in (fresh_instance S c)))
term-below S c e = last-unmarked (is_from (length (with_instance S c).variables)) (after_first (fresh_instance S c).children) refl (instance-below S c e)

-- Nothing escapes from a clause's term with fresh variables, where nothing escapes from the clause.

-- what stands in a place lets nothing escape; where nothing stands, the head is bound
abbrev IsClosedAnswer : ℕ → Bool → Option Tree → Type 0
IsClosedAnswer d escaped None = escaped ≡ false
IsClosedAnswer d escaped (Some t) = escapes d (alone t) ≡ false

module _ (values : Forest) (are_closed : (k : VarKind) (i : ℕ) → escapes 0 (alone (of_kind k (argument values i))) ≡ false) where
  value-closed : (d : ℕ) (k : VarKind) (i : ℕ) → escapes d (alone (shift_tree d (of_kind k (argument values i)))) ≡ false
  value-closed d k i =
      let t = of_kind k (argument values i) in
      ap (λ (u : Tree). escapes d (alone u)) (closed-shift d t (are_closed k i)) ∙ closed-on 0 d (alone t) (omega arith) (are_closed k i)

  opened-variable-closed : (d : ℕ) (k : VarKind) (v : BoundVar) → nat_le (suc d) v.depth ≡ false → IsClosedAnswer d (nat_le d v.depth) (opened_variable values d k v)
  opened-variable-closed d k v e = at (v.depth == d) (nat_lt d v.depth) refl refl
    where
      not_further : (n m : ℕ) → nat_le (suc n) m ≡ false → nat_lt n m ≡ true → ⊥
      not_further n m e l = grind (arith, e, l)

      nearer_still : (n m : ℕ) → (m == n) ≡ false → nat_lt n m ≡ false → nat_le n m ≡ false
      nearer_still n m s l = grind (arith, s, l)

      at : (same further : Bool) → (v.depth == d) ≡ same → nat_lt d v.depth ≡ further
          → IsClosedAnswer d (nat_le d v.depth) (if same then Some (shift_tree d (of_kind k (argument values v.index))) else (if further then Some (leaf (bound_head k (nearer v))) else None))
      at true further s l = value-closed d k v.index
      at false true s l = absurd (not_further d v.depth e l)
      at false false s l = nearer_still d v.depth s l

  opened-head-closed : (d : ℕ) (h : Head) → is_beyond (suc d) h ≡ false → IsClosedAnswer d (is_beyond d h) (opened_head values d h)
  opened-head-closed d (H.Bound v) e = opened-variable-closed d V.Ty v e
  opened-head-closed d (H.Const (C.Bound v)) e = opened-variable-closed d V.Const v e
  opened-head-closed d (H.Region (R.Bound v)) e = opened-variable-closed d V.Region v e
  opened-head-closed d _ e = refl

  pub opened-closed : (d : ℕ) (ts : Forest) → escapes (suc d) ts ≡ false → escapes d (fold (by_head (opened_head values)) d ts) ≡ false
  opened-closed d none e = refl
  opened-closed d (tree h below rest) e =
      let p = closed-parts (suc d) h below rest e in
      at (opened_head values d h) (opened-head-closed d h p.here)
      (opened-closed (d + binders_of h) below (closed-on (suc d + binders_of h) (suc (d + binders_of h)) below (omega arith) p.under)) (opened-closed d rest p.others)
    where
      at : (o : Option Tree) → IsClosedAnswer d (is_beyond d h) o → escapes (d + binders_of h) (fold (by_head (opened_head values)) (d + binders_of h) below) ≡ false
          → escapes d (fold (by_head (opened_head values)) d rest) ≡ false
          → escapes d (begin (unwrap_or o (node h (fold (by_head (opened_head values)) (d + binders_of h) below))) (fold (by_head (opened_head values)) d rest)) ≡ false
      at None n under others = closed d h (fold (by_head (opened_head values)) (d + binders_of h) below) (fold (by_head (opened_head values)) d rest) n under others
      at (Some u) n under others =
          let p = closed-parts d u.head u.children none n in
          closed d u.head u.children (fold (by_head (opened_head values)) d rest) p.here p.under others

fresh-closed : (S : State) (ks : List Kind) (k : VarKind) (i : ℕ) → escapes 0 (alone (of_kind k (argument (fresh_variables S ks) i))) ≡ false
fresh-closed S ks k i = at (is_of k (kind_of (argument (fresh_variables S ks) i).head))
  where
    error : (k : VarKind) → escapes 0 (alone (leaf (error_of k))) ≡ false
    error V.Ty = refl
    error V.Const = refl
    error V.Region = refl

    one : (w : VariableKind) (n : ℕ) → escapes 0 (alone (variable w n)) ≡ false
    one (Term s) n = refl
    one Region n = refl

    each : (S : State) (ks : List Kind) (i : ℕ) → escapes 0 (alone (argument (fresh_variables S ks) i)) ≡ false
    each S [] i = refl
    each S (j ∷ js) zero = one (variable_kind j) (length S.variables)
    each S (j ∷ js) (suc i) = each (with_fresh S (variable_kind j)) js i

    at : (b : Bool) → escapes 0 (alone (if b then argument (fresh_variables S ks) i else leaf (error_of k))) ≡ false
    at true = each S ks i
    at false = error k

pub term-closed : (S : State) (c : Tree) → escapes 0 (alone c) ≡ false → escapes 0 (alone (term_in (fresh_instance S c))) ≡ false
term-closed S c e =
    let ks = bound_kinds c.children in
    let p = closed-parts 0 c.head c.children none e in
    let one = binder-one c.head in
    let below : escapes 1 c.children ≡ false = closed-on (0 + binders_of c.head) 1 c.children (omega (arith, one)) p.under in
    last-closed 0 (after_first (fresh_instance S c).children) (opened-closed (fresh_variables S ks) (fresh-closed S ks) 0 (after_first c.children) (after-closed 1 c.children below))
