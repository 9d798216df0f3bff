-- Rules by which a goal of a trait holds by a clause, an impl or at once: their trees are those of a state of which the goal is.
use Rattle.std.proofs.Common.{◌≡◌, ◌+◌, ◌==◌, ℕ, suc, Bool, true, false, Option, Some, None, List, refl, sym, ◌∙◌, arith, nat_le, nat_lt, if◌then◌else◌}
use Rattle.std.specs.List.{All}
use Rattle.std.specs.Option.{unwrap_or}
use Rattle.std.specs.Prelude.{slice_get}
use Rattle.std.proofs.lemmas.List.Elements.{All-cons, All-nil}
use Rattle.ir_trees.specs.declared.ir.heads.ConstHead.TheVariants as C
use Rattle.ir_trees.specs.declared.ir.heads.Head.{Head}
use Rattle.ir_trees.specs.declared.ir.heads.Head.TheVariants as H
use Rattle.ir_trees.specs.declared.ir.kinds.BoundVar.{BoundVar}
use Rattle.ir_trees.specs.declared.ir.kinds.RegionKind.TheVariants as R
use Rattle.ir_trees.specs.declared.ir.kinds.VarKind.{VarKind}
use Rattle.ir_trees.specs.declared.ir.kinds.VarKind.TheVariants as V
use Rattle.ir_trees.specs.Syntax.Binders.{escapes, is_beyond}
use Rattle.ir_trees.specs.Instantiation.Folding.{fold, leaf}
use Rattle.ir_trees.specs.Instantiation.Opening.{bound_head, error_of, is_of, nearer}
use Rattle.ir_trees.specs.Unification.Substitutions.{alone}
use Rattle.ir_trees.specs.Hierarchy.Supers.{after_first}
use Rattle.ir_trees.specs.Syntax.Trees.{Forest, Kind, Tree, binders_of, holds, none, tree}
use Rattle.ir_trees.proofs.Instantiation.Folding.{begin}
use Rattle.candidate_eval.specs.Derivations.Characterization.{bound_kinds}
use Rattle.candidate_eval.specs.Derivations.Naming.{name_of, named, named_head, named_variable}
use Rattle.candidate_eval.specs.Dynamic.Required.{each_of}
use Rattle.candidate_eval.specs.Judges.Soundness.{AreTreesOf, Live, is_strange}
use Rattle.candidate_eval.specs.Judges.States.{State}
use Rattle.candidate_eval.proofs.Marks.Closed.{after-closed, binder-one, closed, closed-on, closed-parts}
use Rattle.candidate_eval.proofs.Marks.Holds.{holds_parts}
use Rattle.candidate_eval.proofs.Marks.Marking.{after-unmarked, unmarked}
use Rattle.candidate_assembly.proofs.Sense.SenseWalks.{bound-known, error-known}

-- What stands for a head where names do for what a binder binds: a name or an error, a variable that is bound further out, or nothing.
data Names (d : ℕ) (h : Head) : Option Tree → Type 0 where
  a_leaf : (g : Head) → ((n : ℕ) → is_beyond n g ≡ false) → ((S : State) (L : Live) → is_strange S L g ≡ false) → Names d h (Some (leaf g))
  further_out : (k : VarKind) (v : BoundVar) → is_beyond (suc d) h ≡ true → Names d h (Some (leaf (bound_head k v)))
  itself : (is_beyond (suc d) h ≡ false → is_beyond d h ≡ false) → Names d h None

an-error : (d : ℕ) (h : Head) (k : VarKind) → Names d h (Some (leaf (error_of k)))
an-error d h k = a_leaf (error_of k) (closed-error k) (λ S L. error-known S L k)
  where
    closed-error : (k : VarKind) (n : ℕ) → is_beyond n (error_of k) ≡ false
    closed-error V.Ty n = refl
    closed-error V.Const n = refl
    closed-error V.Region n = refl

a-name : (d : ℕ) (h : Head) (first i : ℕ) (k : VarKind) (o : Option Kind) → Names d h (Some (name_of first k i o))
a-name d h first i k None = an-error d h k
a-name d h first i k (Some j) = at (is_of k j)
  where
    at : (b : Bool) → Names d h (Some (if b then leaf (H.Param (first + i)) else leaf (error_of k)))
    at true = a_leaf (H.Param (first + i)) (λ n. refl) (λ S L. refl)
    at false = an-error d h k

module _ (first : ℕ) (ks : List Kind) where
  names-variable : (d : ℕ) (h : Head) (v : BoundVar) (k : VarKind) → ((n : ℕ) → is_beyond n h ≡ nat_le n v.depth) → Names d h (named_variable first ks d k v)
  names-variable d h v k depth = at (v.depth == d) refl
    where
      less : (n m : ℕ) → (n == m) ≡ false → nat_lt m n ≡ false → nat_le m n ≡ false
      less n m e f = grind (arith, e, f)

      by : (b : Bool) → nat_lt d v.depth ≡ b → (v.depth == d) ≡ false → Names d h (if b then Some (leaf (bound_head k (nearer v))) else None)
      by true e f = further_out k (nearer v) (depth (suc d) ∙ e)
      by false e f = itself (λ g. depth d ∙ less v.depth d f e)

      at : (b : Bool) → (v.depth == d) ≡ b → Names d h (if b then Some (name_of first k v.index (slice_get ks v.index)) else (if nat_lt d v.depth then Some (leaf (bound_head k (nearer v))) else None))
      at true e = a-name d h first v.index k (slice_get ks v.index)
      at false e = by (nat_lt d v.depth) refl e

  which-names : (d : ℕ) (h : Head) → Names d h (named_head first ks d h)
  which-names d (H.Bound v) = names-variable d (H.Bound v) v V.Ty (λ n. refl)
  which-names d (H.Const (C.Bound v)) = names-variable d (H.Const (C.Bound v)) v V.Const (λ n. refl)
  which-names d (H.Region (R.Bound v)) = names-variable d (H.Region (R.Bound v)) v V.Region (λ n. refl)
  which-names d _ = itself (λ e. refl)

  abbrev pub names-at : ℕ → Forest → Forest
  names-at d ts = fold (λ d t. named_head first ks d t.head) d ts

  pub named-closed : (d : ℕ) (ts : Forest) → escapes (suc d) ts ≡ false → escapes d (names-at d ts) ≡ false
  named-closed d none x = refl
  named-closed d (tree h below rest) x =
      let p = closed-parts (suc d) h below rest x in
      node (named_head first ks d h) (which-names d h) p.here
      (named-closed (d + binders_of h) below (closed-on (suc d + binders_of h) (suc (d + binders_of h)) below (omega arith) p.under))
      (named-closed d rest p.others)
    where
      node : (o : Option Tree) → Names d h o → is_beyond (suc d) h ≡ false → escapes (d + binders_of h) (names-at (d + binders_of h) below) ≡ false → escapes d (names-at d rest) ≡ false
          → escapes d (begin (unwrap_or o (record { head = h; children = names-at (d + binders_of h) below })) (names-at d rest)) ≡ false
      node _ (a_leaf g c m) q under others = closed d g none (names-at d rest) (c d) refl others
      node _ (further_out k v f) q under others = absurd (let clash : true ≡ false = sym f ∙ q in cc)
      node _ (itself f) q under others = closed d h (names-at (d + binders_of h) below) (names-at d rest) (f q) under others

  pub named-known : (S : State) (L : Live) (d : ℕ) (ts : Forest) → holds (is_strange S L) ts ≡ false → holds (is_strange S L) (names-at d ts) ≡ false
  named-known S L d none x = refl
  named-known S L d (tree h below rest) x =
      let p = holds_parts (is_strange S L) h below rest x in
      node (named_head first ks d h) (which-names d h) p.here (named-known S L (d + binders_of h) below p.under) (named-known S L d rest p.others)
    where
      node : (o : Option Tree) → Names d h o → is_strange S L h ≡ false → holds (is_strange S L) (names-at (d + binders_of h) below) ≡ false → holds (is_strange S L) (names-at d rest) ≡ false
          → holds (is_strange S L) (begin (unwrap_or o (record { head = h; children = names-at (d + binders_of h) below })) (names-at d rest)) ≡ false
      node _ (a_leaf g c m) q under others = unmarked (is_strange S L) g none (names-at d rest) (m S L) refl others
      node _ (further_out k v f) q under others = unmarked (is_strange S L) (bound_head k v) none (names-at d rest) (bound-known S L k v) refl others
      node _ (itself f) q under others = unmarked (is_strange S L) h (names-at (d + binders_of h) below) (names-at d rest) q under others

-- What stands under a clause's binder, with the rule's variables from a number on for its own.
pub named-from : (S : State) (L : Live) (first : ℕ) (c : Tree) → AreTreesOf S L (alone c) → AreTreesOf S L (named first (bound_kinds c.children) (after_first c.children))
named-from S L first c a =
    let p = holds_parts (is_strange S L) c.head c.children none a.known in
    let q = closed-parts 0 c.head c.children none a.is_closed in
    let few = binder-one c.head in
    let ks = bound_kinds c.children in
    record {
      known = named-known first ks S L 0 (after_first c.children) (after-unmarked (is_strange S L) c.children p.under);
      is_closed = named-closed first ks 0 (after_first c.children) (after-closed 1 c.children (closed-on (0 + binders_of c.head) 1 c.children (omega (arith, few)) q.under));
    }

pub named-trees : (S : State) (L : Live) (c : Tree) → AreTreesOf S L (alone c) → AreTreesOf S L (named 0 (bound_kinds c.children) (after_first c.children))
named-trees S L c a = named-from S L 0 c a

-- each of the trees in a row
pub each-tree : (S : State) (L : Live) (ts : Forest) → AreTreesOf S L ts → All (λ t. AreTreesOf S L (alone t)) (each_of ts)
each-tree S L none a = All-nil (λ t. AreTreesOf S L (alone t))
each-tree S L (tree h below rest) a =
    let p = holds_parts (is_strange S L) h below rest a.known in
    let q = closed-parts 0 h below rest a.is_closed in
    All-cons (λ t. AreTreesOf S L (alone t)) (record { head = h; children = below }) (each_of rest)
    (record { known = unmarked (is_strange S L) h below none p.here p.under refl; is_closed = closed 0 h below none q.here q.under refl })
    (each-tree S L rest (record { known = p.others; is_closed = q.others }))
