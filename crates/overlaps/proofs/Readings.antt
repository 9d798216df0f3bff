-- Trees as they are read: what a substitution keeps of open parts, and what reading keeps of a tree.
use Rattle.std.proofs.Common.{◌≡◌, ℕ, ◌+◌, Bool, true, false, not, ◌&&◌, ◌||◌, Some, None, refl, sym, ap, subst, ◌∙◌, arith, if◌then◌else◌}
use Rattle.std.specs.Option.{unwrap_or}
use Rattle.std.proofs.lemmas.Bool.{and_parts, not-true}
use Rattle.ir_trees.specs.declared.ir.heads.Head.{Head}
use Rattle.ir_trees.specs.declared.ir.heads.Head.TheVariants as H
use Rattle.ir_trees.specs.declared.ir.heads.Variable.{Variable}
use Rattle.ir_trees.specs.declared.ir.heads.VariableSort.{VariableSort}
use Rattle.ir_trees.specs.declared.ir.heads.VariableSort.TheVariants as V
use Rattle.ir_trees.specs.Instantiation.Folding.{fold, fold_tree}
use Rattle.ir_trees.specs.Instantiation.Folds.{node}
use Rattle.ir_trees.specs.Syntax.Binders.{escapes}
use Rattle.ir_trees.specs.Syntax.Trees.{Kind, TypeKind, ConstantKind, Forest, none, tree, Tree, binders_of, erase, erased_head, holds, is_alias, is_type, is_type_kind, kind_of, sort_kind}
use Rattle.ir_trees.specs.Unification.Substitutions.{IsAllowed, Substitution, Universes, alone, apply, fits_sort, is_constant_kind, is_float, is_integer, is_placeholder_above}
use Rattle.ir_trees.proofs.Instantiation.Folding.{begin}
use Rattle.ir_trees.proofs.Unification.Instances.{same_sort_is}
use Rattle.candidate_eval.specs.Judges.Lawful.{is_type_or_constant}
use Rattle.candidate_eval.specs.Judges.Soundness.{AreLeaves, is_leaf}
use Rattle.candidate_eval.proofs.Marks.Holds.{holds_parts}
use Rattle.rounds_judge.specs.Aliases.OpenParts.{has_loose_alias, is_closed_term, is_open_part}
use Rattle.rounds_judge.proofs.States.Marks.{escape_parts, escapes_on, fold_closed, holds_erased, whole}
use Rattle.rounds_judge.proofs.Unifiers.Further.{lookup_allowed}
use Rattle.rounds_judge.proofs.Unifiers.Solving.{value_under}
use Rattle.overlaps.specs.Readings.{IsReading, Reading, read, read_part}

-- What fits a variable is a type or a constant.

type_is_term : (k : Kind) → is_type_kind k ≡ true → is_type_or_constant k ≡ true
type_is_term TypeKind e = refl
type_is_term _ e = absurd cc

constant_is_term : (k : Kind) → is_constant_kind k ≡ true → is_type_or_constant k ≡ true
constant_is_term ConstantKind e = refl
constant_is_term _ e = absurd cc

integer_type : (h : Head) → is_integer h ≡ true → is_type h ≡ true
integer_type (H.Infer v) e = ap (λ s. is_type_kind (sort_kind s)) (same_sort_is v.sort V.Integer e)
integer_type (H.Builtin b) e = refl
integer_type _ e = absurd cc

float_type : (h : Head) → is_float h ≡ true → is_type h ≡ true
float_type (H.Infer v) e = ap (λ s. is_type_kind (sort_kind s)) (same_sort_is v.sort V.Floating e)
float_type (H.Builtin b) e = refl
float_type _ e = absurd cc

fits_is_term : (z : VariableSort) (h : Head) → fits_sort z h ≡ true → is_type_or_constant (kind_of h) ≡ true
fits_is_term V.General h e = type_is_term (kind_of h) e
fits_is_term V.Integer h e = type_is_term (kind_of h) (integer_type h e)
fits_is_term V.Floating h e = type_is_term (kind_of h) (float_type h e)
fits_is_term V.Constant h e = constant_is_term (kind_of h) e

sort_is_term : (z : VariableSort) → is_type_or_constant (sort_kind z) ≡ true
sort_is_term V.General = refl
sort_is_term V.Integer = refl
sort_is_term V.Floating = refl
sort_is_term V.Constant = refl

pub closed_is : (h : Head) (below : Forest) → is_type_or_constant (kind_of h) ≡ true → escapes 0 (tree h below none) ≡ false → is_closed_term h below ≡ true
closed_is h below k e = rw (k, e) refl

-- no alias is loose in a closed term, so it adds none to those of a row
pub closed_adds : (h : Head) (below rest : Forest) → is_closed_term h below ≡ true → has_loose_alias (tree h below rest) ≡ has_loose_alias rest
closed_adds h below rest e = rw e refl

neither_then : (b : Bool) → b && (false || false) ≡ false
neither_then true = refl
neither_then false = refl

-- A variable is no open part.
pub variable_not_open : (v : Variable) → is_open_part (H.Infer v) none ≡ false
variable_not_open v = neither_then (is_closed_term (H.Infer v) none)

-- Variables stand for closed terms, so a substitution leaves what is closed, and which aliases are loose.
module _ (u : Universes) (s : Substitution) (ok : IsAllowed u s) where
  value_closed : (d : ℕ) (v : Variable) → escapes d (alone (value_under s v)) ≡ false
  value_closed d v = escapes_on 0 d (alone (value_under s v)) (omega arith) (lookup_allowed u s ok v).is_closed

  value_is_term : (v : Variable) → is_type_or_constant (kind_of (value_under s v).head) ≡ true
  value_is_term v = fits_is_term v.sort (value_under s v).head (lookup_allowed u s ok v).fits

  pub escapes_same : (d : ℕ) (ts : Forest) → AreLeaves ts → escapes d (apply s ts) ≡ escapes d ts
  escapes_same d none a = refl
  escapes_same d (tree h below rest) a = at h a.0 (escapes_same (d + binders_of h) below a.1) (escapes_same d rest a.2)
    where
      at : (h : Head) → (is_leaf h ≡ true → below ≡ none) → escapes (d + binders_of h) (apply s below) ≡ escapes (d + binders_of h) below → escapes d (apply s rest) ≡ escapes d rest
          → escapes d (apply s (tree h below rest)) ≡ escapes d (tree h below rest)
      at (H.Infer v) single under others =
          let p = escape_parts d (value_under s v).head (value_under s v).children none (value_closed d v) in
          subst (λ b. escapes d (apply s (tree (H.Infer v) b rest)) ≡ escapes d (tree (H.Infer v) b rest)) (sym (single refl)) (rw (p.here, p.under, others) refl)
      at h single under others = rw (under, others) refl

  closed_same : (h : Head) (below : Forest) → AreLeaves below → is_closed_term h (apply s below) ≡ is_closed_term h below
  closed_same h below a = rw (escapes_same (0 + binders_of h) below a) refl

  pub loose_same : (ts : Forest) → AreLeaves ts → has_loose_alias (apply s ts) ≡ has_loose_alias ts
  loose_same none a = refl
  loose_same (tree h below rest) a = at h a.0 (closed_same h below a.1) (loose_same below a.1) (loose_same rest a.2)
    where
      at : (h : Head) → (is_leaf h ≡ true → below ≡ none) → is_closed_term h (apply s below) ≡ is_closed_term h below → has_loose_alias (apply s below) ≡ has_loose_alias below
          → has_loose_alias (apply s rest) ≡ has_loose_alias rest → has_loose_alias (apply s (tree h below rest)) ≡ has_loose_alias (tree h below rest)
      at (H.Infer v) single closed under others =
          let t = value_under s v in
          subst (λ b. has_loose_alias (apply s (tree (H.Infer v) b rest)) ≡ has_loose_alias (tree (H.Infer v) b rest)) (sym (single refl))
          (closed_adds t.head t.children (apply s rest) (closed_is t.head t.children (value_is_term v) (value_closed 0 v)) ∙ others
          ∙ sym (closed_adds (H.Infer v) none rest (closed_is (H.Infer v) none (sort_is_term v.sort) refl)))
      at h single closed under others =
          ap (λ c. not c && (is_alias h || has_loose_alias (apply s below)) || has_loose_alias (apply s rest)) closed
          ∙ ap (λ l. not (is_closed_term h below) && (is_alias h || l) || has_loose_alias (apply s rest)) under
          ∙ ap (λ o. not (is_closed_term h below) && (is_alias h || has_loose_alias below) || o) others

  -- what is an open part stays one, and nothing else becomes one but in the place of a variable
  pub open_same : (h : Head) (below : Forest) → AreLeaves below → is_open_part h (apply s below) ≡ is_open_part h below
  open_same h below a = rw (escapes_same (0 + binders_of h) below a, loose_same below a) refl

-- One tree, read.
abbrev pub read_tree : Reading → Tree → Tree
read_tree r t = fold_tree (λ d u. read_part r u) 0 t

-- what is read is an open part
pub record IsRead (r : Reading) (t u : Tree) : Type 0 where
  pub is_open : is_open_part t.head t.children ≡ true
  pub is : r t ≡ u

pub is_read : (r : Reading) (t u : Tree) → read_part r t ≡ Some u → IsRead r t u
is_read r t u e = at (is_open_part t.head t.children) refl e
  where
    at : (b : Bool) → is_open_part t.head t.children ≡ b → (if b then Some (r t) else None) ≡ Some u → IsRead r t u
    at true o e = record { is_open = o; is = cc }
    at false o e = absurd cc

-- Reading keeps the kind of a tree, lets no bound variable escape, and brings in no placeholder of a higher universe.
module _ (n : ℕ) (r : Reading) (reading : IsReading n r) where
  pub read_kind : (t : Tree) → kind_of (read_tree r t).head ≡ kind_of t.head
  read_kind t = at (is_open_part t.head t.children) refl
    where
      at : (b : Bool) → is_open_part t.head t.children ≡ b
          → kind_of (unwrap_or (if b then Some (r t) else None) (node t.head (fold (λ d u. read_part r u) (0 + binders_of t.head) t.children))).head ≡ kind_of t.head
      at true e = reading.kind t.head t.children e
      at false e = refl

  pub read_closed : (d : ℕ) (ts : Forest) → escapes d ts ≡ false → escapes d (read r ts) ≡ false
  read_closed d ts e =
      fold_closed (λ d t. read_part r t)
      (λ d t u f. let k = is_read r t u f in subst (λ x. escapes 0 (alone x) ≡ false) k.is (reading.is_closed t.head t.children k.is_open)) d 0 ts e

  abbrev above : Head → Bool
  above h = is_placeholder_above n (erased_head h)

  low_at : (d : ℕ) (ts : Forest) → holds above ts ≡ false → holds above (fold (λ d t. read_part r t) d ts) ≡ false
  low_at d none e = refl
  low_at d (tree h below rest) e =
      let p = holds_parts above h below rest e in
      at (is_open_part h below) refl (whole above h below none p.here p.under refl) p.here (low_at (d + binders_of h) below p.under) (low_at d rest p.others)
    where
      at : (b : Bool) → is_open_part h below ≡ b → holds above (alone (node h below)) ≡ false → above h ≡ false → holds above (fold (λ d t. read_part r t) (d + binders_of h) below) ≡ false
          → holds above (fold (λ d t. read_part r t) d rest) ≡ false
          → holds above (begin (unwrap_or (if b then Some (r (node h below)) else None) (node h (fold (λ d t. read_part r t) (d + binders_of h) below))) (fold (λ d t. read_part r t) d rest)) ≡ false
      at true o one here under others =
          let t = r (node h below) in
          let low = reading.in_universe h below o (holds_erased (is_placeholder_above n) (alone (node h below)) ∙ one) in
          let p = holds_parts above t.head t.children none (sym (holds_erased (is_placeholder_above n) (alone t)) ∙ low) in
          whole above t.head t.children (fold (λ d t. read_part r t) d rest) p.here p.under others
      at false o one here under others = whole above h (fold (λ d t. read_part r t) (d + binders_of h) below) (fold (λ d t. read_part r t) d rest) here under others

  pub read_low : (ts : Forest) → holds (is_placeholder_above n) (erase ts) ≡ false → holds (is_placeholder_above n) (erase (read r ts)) ≡ false
  read_low ts e = holds_erased (is_placeholder_above n) (read r ts) ∙ low_at 0 ts (sym (holds_erased (is_placeholder_above n) ts) ∙ e)

-- Open parts may be read as they are: then all is as it is.

open_closed : (h : Head) (below : Forest) → is_open_part h below ≡ true → escapes 0 (alone (node h below)) ≡ false
open_closed h below e =
    let p = and_parts (is_closed_term h below) (is_alias h || has_loose_alias below) e in
    not-true (escapes 0 (tree h below none)) (and_parts (is_type_or_constant (kind_of h)) (not (escapes 0 (tree h below none))) p.0).1

pub itself_reads : (u : ℕ) → IsReading u (λ t. t)
itself_reads u = record { kind = λ h below o. refl; is_closed = open_closed; in_universe = λ h below o low. low }

pub read_itself : (d : ℕ) (ts : Forest) → fold (λ d t. read_part (λ u. u) t) d ts ≡ ts
read_itself d none = refl
read_itself d (tree h below rest) = at (is_open_part h below) (read_itself (d + binders_of h) below) (read_itself d rest)
  where
    at : (b : Bool) → fold (λ d t. read_part (λ u. u) t) (d + binders_of h) below ≡ below → fold (λ d t. read_part (λ u. u) t) d rest ≡ rest
        → begin (unwrap_or (if b then Some (node h below) else None) (node h (fold (λ d t. read_part (λ u. u) t) (d + binders_of h) below))) (fold (λ d t. read_part (λ u. u) t) d rest) ≡ tree h below rest
    at true under others = ap (tree h below) others
    at false under others = λ i. tree h (under i) (others i)
