-- Where no bound variable escapes from a projection of an object's own in trees, none does where these are put into trees without bound variables.
use Rattle.std.proofs.Common.{◌≡◌, ℕ, zero, suc, ◌+◌, Bool, true, false, not, ◌&&◌, ◌||◌, Option, Some, None, List, [], ◌∷◌, refl, sym, ap, subst, ◌∙◌, ◌≤◌, length, arith, nat_le, nat_lt, ◌==◌, if◌then◌else◌}
use Rattle.std.specs.List.{All}
use Rattle.std.specs.Option.{unwrap_or}
use Rattle.std.proofs.lemmas.List.Elements.{All-append, All-cons, All-nil}
use Rattle.ir_trees.specs.declared.ir.heads.Head.{Head}
use Rattle.ir_trees.specs.declared.ir.heads.Head.TheVariants as H
use Rattle.ir_trees.specs.declared.ir.heads.ConstHead.TheVariants as C
use Rattle.ir_trees.specs.declared.ir.kinds.BoundVar.{BoundVar}
use Rattle.ir_trees.specs.declared.ir.kinds.RegionKind.TheVariants as R
use Rattle.ir_trees.specs.declared.ir.kinds.VarKind.{VarKind}
use Rattle.ir_trees.specs.declared.ir.kinds.VarKind.TheVariants as VK
use Rattle.ir_trees.specs.Declarations.Worlds.{kinds_of}
use Rattle.ir_trees.specs.Hierarchy.Elaboration.{first_children, later_head, renumbered}
use Rattle.ir_trees.specs.Hierarchy.Supers.{after_first, first_head, is_self}
use Rattle.ir_trees.specs.Instantiation.Folding.{argument, fold, further, lacks_argument, leaf, moved, put, shift, shift_tree, substituted}
use Rattle.ir_trees.specs.Instantiation.Folds.{node}
use Rattle.ir_trees.specs.Instantiation.Opening.{bound_head, error_of, is_bound_variable, is_of, nearer, of_kind, opened_head, opened_variable}
use Rattle.ir_trees.specs.Syntax.Binders.{escapes, is_beyond}
use Rattle.ir_trees.specs.Syntax.Trees.{ConstantKind, Forest, Kind, RegionKind, TypeKind, Tree, binders_of, count, holds, is_type, is_type_kind, join, kind_of, none, tree}
use Rattle.ir_trees.specs.Unification.Substitutions.{alone, is_constant_kind}
use Rattle.ir_trees.specs.Declarations.Context.{parameter_kind}
use Rattle.ir_context.proofs.Hierarchy.Elaboration.{tree_is}
use Rattle.ir_folds.proofs.Instantiation.Bound.{unnumbered, unopened}
use Rattle.ir_trees.proofs.Instantiation.Folding.{begin, fold-kinds, fold-nothing}
use Rattle.ir_folds.proofs.Instantiation.Opening.{bound-kind}
use Rattle.ir_trees.proofs.Instantiation.Quiet.{escapes-quiet}
use Rattle.candidate_eval.specs.declared.eval.variable.VariableKind.{VariableKind}
use Rattle.candidate_eval.specs.declared.eval.variable.VariableKind.TheVariants.{Region, Term}
use Rattle.candidate_eval.specs.Builtins.Callable.{all_but_last}
use Rattle.candidate_eval.specs.Dynamic.ObjectRequirements.{first_tree}
use Rattle.candidate_eval.specs.Dynamic.ObjectRules.{projections_in}
use Rattle.candidate_eval.specs.Dynamic.Objects.{Projection}
use Rattle.candidate_eval.specs.Dynamic.Replacing.{any_is_about, found_or, item_of, own_item, own_projection, projection_if, projections, starts_with}
use Rattle.candidate_eval.specs.Judges.States.{State, fresh_variables, is_some, variable, variable_kind, with_fresh}
use Rattle.candidate_eval.proofs.Marks.Closed.{closed, closed-on, closed-parts, closed-shift}
use Rattle.candidate_eval.proofs.Marks.Holds.{holds_parts, or_false}
use Rattle.candidate_assembly.proofs.Refusals.KnownHeaders.{argument-closed, filled-closed}
use Rattle.candidate_assembly.specs.Laws.SuperLaws.{Each}
use Rattle.derivations.specs.Ordinary.{AreBare}

-- How large trees are.
abbrev pub size : Forest → ℕ
size none = 0
size (tree h below rest) = 1 + (size below + size rest)

module _ (object : Tree) where
  -- Whether a projection stands in the trees of which the object is the self type, and from which a bound variable escapes.
  abbrev pub open_in : Forest → Bool
  open_in none = false
  open_in (tree h below rest) = is_some (item_of h) && (starts_with object below && escapes 0 below) || (open_in below || open_in rest)

  -- No bound variable escapes from the trees, or from such a projection in them.
  pub record AreShut (ts : Forest) : Type 0 where
    pub is_closed : escapes 0 ts ≡ false
    pub projections : open_in ts ≡ false

  -- Rows of trees.

  pub record Shut (h : Head) (below rest : Forest) : Type 0 where
    pub here : is_some (item_of h) && (starts_with object below && escapes 0 below) ≡ false
    pub under : open_in below ≡ false
    pub others : open_in rest ≡ false

  pub shut_parts : (h : Head) (below rest : Forest) → open_in (tree h below rest) ≡ false → Shut h below rest
  shut_parts h below rest e =
      let p = or_false (is_some (item_of h) && (starts_with object below && escapes 0 below)) (open_in below || open_in rest) e in
      let q = or_false (open_in below) (open_in rest) p.1 in
      record { here = p.0; under = q.0; others = q.1 }

  pub shut : (h : Head) (below rest : Forest) → is_some (item_of h) && (starts_with object below && escapes 0 below) ≡ false → open_in below ≡ false → open_in rest ≡ false → open_in (tree h below rest) ≡ false
  shut h below rest a b c = rw (a, b, c) refl

  both-none : (a b c : Bool) → c ≡ false → a && (b && c) ≡ false
  both-none true true c e = e
  both-none true false c e = refl
  both-none false b c e = refl

  -- what holds of a row holds of its parts
  pub after_shut : (ts : Forest) → open_in ts ≡ false → open_in (after_first ts) ≡ false
  after_shut none e = refl
  after_shut (tree h below rest) e = (shut_parts h below rest e).others

  pub first_shut : (ts : Forest) → open_in ts ≡ false → open_in (first_children ts) ≡ false
  first_shut none e = refl
  first_shut (tree h below rest) e = (shut_parts h below rest e).under

  pub but_last_shut : (ts : Forest) → open_in ts ≡ false → open_in (all_but_last ts) ≡ false
  but_last_shut none e = refl
  but_last_shut (tree h below none) e = refl
  but_last_shut (tree h below (tree g under rest)) e =
      let p = shut_parts h below (tree g under rest) e in
      shut h below (all_but_last (tree g under rest)) p.here p.under (but_last_shut (tree g under rest) p.others)

  pub but_last_closed : (n : ℕ) (ts : Forest) → escapes n ts ≡ false → escapes n (all_but_last ts) ≡ false
  but_last_closed n none e = refl
  but_last_closed n (tree h below none) e = refl
  but_last_closed n (tree h below (tree g under rest)) e =
      let p = closed-parts n h below (tree g under rest) e in
      closed n h below (all_but_last (tree g under rest)) p.here p.under (but_last_closed n (tree g under rest) p.others)

  pub join_shut : (a b : Forest) → open_in a ≡ false → open_in b ≡ false → open_in (join a b) ≡ false
  join_shut none b e f = f
  join_shut (tree h below rest) b e f = let p = shut_parts h below rest e in shut h below (join rest b) p.here p.under (join_shut rest b p.others f)

  -- No such projection stands in trees that are no larger than the object.

  -- a row that begins with the object is no smaller
  size-there : (b : Forest) → starts_with object b ≡ true → size (alone object) ≤ size b
  size-there none e = absurd cc
  size-there (tree h below rest) e =
      let same : node h below ≡ object = tree_is (node h below) object e in
      let whole : size (alone object) ≡ 1 + (size below + 0) = ap (λ (t : Tree). size (alone t)) (sym same) in
      omega (arith, whole)

  pub small_shut : (ts : Forest) → size ts ≤ size (alone object) → open_in ts ≡ false
  small_shut none l = refl
  small_shut (tree h below rest) l = shut h below rest (at (starts_with object below) refl) (small_shut below (omega (arith, l))) (small_shut rest (omega (arith, l)))
    where
      first : (a b : Bool) → a && (false && b) ≡ false
      first true b = refl
      first false b = refl

      at : (b : Bool) → starts_with object below ≡ b → is_some (item_of h) && (starts_with object below && escapes 0 below) ≡ false
      at true e = let large = size-there below e in absurd (omega (arith, l, large))
      at false e = ap (λ b. is_some (item_of h) && (b && escapes 0 below)) e ∙ first (is_some (item_of h)) (escapes 0 below)

  pub after_size : (ts : Forest) → size (after_first ts) ≤ size ts
  after_size none = omega arith
  after_size (tree h below rest) = omega arith

  pub but_last_size : (ts : Forest) → size (all_but_last ts) ≤ size ts
  but_last_size none = omega arith
  but_last_size (tree h below none) = omega arith
  but_last_size (tree h below (tree g under rest)) = let l = but_last_size (tree g under rest) in omega (arith, l)

  -- Trees without bound variables.

  pub unbound_closed : (n : ℕ) (ts : Forest) → holds is_bound_variable ts ≡ false → escapes n ts ≡ false
  unbound_closed n none e = refl
  unbound_closed n (tree h below rest) e =
      let p = holds_parts is_bound_variable h below rest e in
      let whole : (is_bound_variable h || holds is_bound_variable below) ≡ false = rw (p.here, p.under) refl in
      let q = or_false (is_beyond n h) (escapes (n + binders_of h) below) (escapes-quiet n (node h below) whole) in
      closed n h below rest q.0 q.1 (unbound_closed n rest p.others)

  pub unbound_shut : (ts : Forest) → holds is_bound_variable ts ≡ false → open_in ts ≡ false
  unbound_shut none e = refl
  unbound_shut (tree h below rest) e =
      let p = holds_parts is_bound_variable h below rest e in
      shut h below rest (both-none (is_some (item_of h)) (starts_with object below) (escapes 0 below) (unbound_closed 0 below p.under)) (unbound_shut below p.under) (unbound_shut rest p.others)

  -- They stay where variables are numbered from some number on.
  pub unbound_renumbered : (n : ℕ) (ts : Forest) → holds is_bound_variable ts ≡ false → renumbered n ts ≡ ts
  unbound_renumbered n ts e = fold-nothing (λ d t. later_head n d t.head) is_bound_variable (λ d t q. unnumbered n d t.head q) 0 ts e

  argument_shut : (ts : Forest) (i : ℕ) → open_in ts ≡ false → open_in (alone (argument ts i)) ≡ false
  argument_shut none i e = refl
  argument_shut (tree h below rest) zero e = let p = shut_parts h below rest e in shut h below none p.here p.under refl
  argument_shut (tree h below rest) (suc i) e = argument_shut rest i (shut_parts h below rest e).others

  -- Closed arguments without such projections, put into trees without bound variables.
  module _ (F : Forest) (is-closed : escapes 0 F ≡ false) (is-shut : open_in F ≡ false) where
    unmoved : (d i : ℕ) → shift_tree d (argument F i) ≡ argument F i
    unmoved d i = closed-shift d (argument F i) (argument-closed F i is-closed)

    abbrev IsShut : Option Tree → Type 0
    IsShut None = Unit {0}
    IsShut (Some u) = open_in (alone u) ≡ false

    there-shut : (d i : ℕ) → open_in (alone (shift_tree d (argument F i))) ≡ false
    there-shut d i = subst (λ u. open_in (alone u) ≡ false) (sym (unmoved d i)) (argument_shut F i is-shut)

    put-shut : (d : ℕ) (h : Head) → IsShut (put F d h)
    put-shut d (H.Param i) = there-shut d i
    put-shut d (H.Const (C.Param i)) = there-shut d i
    put-shut d _ = tt

    -- nothing escapes from what comes
    pub filled_closed : (d : ℕ) (ts : Forest) → holds is_bound_variable ts ≡ false → escapes 0 (substituted F d ts) ≡ false
    filled_closed d ts e = filled-closed F is-closed 0 d ts (unbound_closed 0 ts e)

    pub filled_shut : (d : ℕ) (ts : Forest) → holds is_bound_variable ts ≡ false → open_in (substituted F d ts) ≡ false
    filled_shut d none e = refl
    filled_shut d (tree h below rest) e =
        let p = holds_parts is_bound_variable h below rest e in
        at (put F d h) (put-shut d h) (filled_closed (d + binders_of h) below p.under) (filled_shut (d + binders_of h) below p.under) (filled_shut d rest p.others)
      where
        at : (o : Option Tree) → IsShut o → escapes 0 (substituted F (d + binders_of h) below) ≡ false → open_in (substituted F (d + binders_of h) below) ≡ false → open_in (substituted F d rest) ≡ false
            → open_in (begin (unwrap_or o (node h (substituted F (d + binders_of h) below))) (substituted F d rest)) ≡ false
        at None s c under others =
            let inner = substituted F (d + binders_of h) below in
            shut h inner (substituted F d rest) (both-none (is_some (item_of h)) (starts_with object inner) (escapes 0 inner) c) under others
        at (Some u) s c under others = let q = shut_parts u.head u.children none s in shut u.head u.children (substituted F d rest) q.here q.under others

  -- Trees that come to stand under more binders keep their kinds.

  abbrev KeepsKind : Head → Option Tree → Type 0
  KeepsKind h None = Unit {0}
  KeepsKind h (Some u) = kind_of u.head ≡ kind_of h

  moved-kind : (n d : ℕ) (h : Head) → KeepsKind h (moved n d h)
  moved-kind n d (H.Bound v) = at (nat_le d v.depth)
    where
      at : (b : Bool) → KeepsKind (H.Bound v) (if b then Some (leaf (H.Bound (further n v))) else None)
      at true = refl
      at false = tt
  moved-kind n d (H.Const (C.Bound v)) = at (nat_le d v.depth)
    where
      at : (b : Bool) → KeepsKind (H.Const (C.Bound v)) (if b then Some (leaf (H.Const (C.Bound (further n v)))) else None)
      at true = refl
      at false = tt
  moved-kind n d (H.Region (R.Bound v)) = at (nat_le d v.depth)
    where
      at : (b : Bool) → KeepsKind (H.Region (R.Bound v)) (if b then Some (leaf (H.Region (R.Bound (further n v)))) else None)
      at true = refl
      at false = tt
  moved-kind n d _ = tt

  shift-kind : (n : ℕ) (t : Tree) → kind_of (shift_tree n t).head ≡ kind_of t.head
  shift-kind n t = at (moved n 0 t.head) (moved-kind n 0 t.head)
    where
      at : (o : Option Tree) → KeepsKind t.head o → kind_of (unwrap_or o (node t.head (fold (λ e u. moved n e u.head) (0 + binders_of t.head) t.children))).head ≡ kind_of t.head
      at None k = refl
      at (Some u) k = k

  -- Arguments that are put in are of their parameters' kinds, where these are there.
  module _ (F : Forest) where
    type-kind : (k : Kind) → is_type_kind k ≡ true → k ≡ TypeKind
    type-kind TypeKind e = refl
    type-kind _ e = absurd cc

    constant-kind : (k : Kind) → is_constant_kind k ≡ true → k ≡ ConstantKind
    constant-kind ConstantKind e = refl
    constant-kind _ e = absurd cc

    second : (a b : Bool) → not (a && b) ≡ false → b ≡ true
    second true true e = refl
    second true false e = absurd cc
    second false b e = absurd cc

    there-kind : (d i : ℕ) (u : Tree) (k : Kind) → kind_of (argument F i).head ≡ k → Some (shift_tree d (argument F i)) ≡ Some u → kind_of u.head ≡ k
    there-kind d i u k e q = let same : shift_tree d (argument F i) ≡ u = cc in ap (λ (t : Tree). kind_of t.head) (sym same) ∙ (shift-kind d (argument F i) ∙ e)

    put-kind : (d : ℕ) (h : Head) (u : Tree) → lacks_argument F h ≡ false → put F d h ≡ Some u → kind_of u.head ≡ kind_of h
    put-kind d (H.Param i) u m q = there-kind d i u TypeKind (type-kind (kind_of (argument F i).head) (second (nat_lt i (count F)) (is_type (argument F i).head) m)) q
    put-kind d (H.Const (C.Param i)) u m q =
        there-kind d i u ConstantKind (constant-kind (kind_of (argument F i).head) (second (nat_lt i (count F)) (is_constant_kind (kind_of (argument F i).head)) m)) q
    put-kind d _ u m q = absurd cc

    -- so a row keeps its kinds
    pub filled_kinds : (d : ℕ) (ts : Forest) → holds (lacks_argument F) ts ≡ false → kinds_of (substituted F d ts) ≡ kinds_of ts
    filled_kinds d ts e = fold-kinds (λ n t. put F n t.head) (lacks_argument F) (λ n t u m q. put-kind n t.head u m q) d ts e

  -- A binder's variables replaced by trees from which no bound variable escapes.
  module _ (more : Forest) where
    abbrev opens : ℕ → Forest → Forest
    opens d ts = fold (λ d t. opened_head more d t.head) d ts

    -- what stands for its variable of that number
    abbrev value : VarKind → BoundVar → Tree
    value k v = of_kind k (argument more v.index)

    variable-opens : (d : ℕ) (k : VarKind) (v : BoundVar) → opened_head more d (bound_head k v) ≡ opened_variable more d k v
    variable-opens d VK.Ty v = refl
    variable-opens d VK.Const v = refl
    variable-opens d VK.Region v = refl

    not-same : (n m : ℕ) → nat_le m n ≡ false → (n == m) ≡ false
    not-same n m e = grind (arith, e)

    not-less : (n m : ℕ) → nat_le m n ≡ false → nat_lt m n ≡ false
    not-less n m e = grind (arith, e)

    -- what is bound nearer stays
    variable-stays : (d : ℕ) (k : VarKind) (v : BoundVar) → nat_le d v.depth ≡ false → opened_variable more d k v ≡ None
    variable-stays d k v e =
        ap (λ b. if b then Some (shift_tree d (value k v)) else (if nat_lt d v.depth then Some (leaf (bound_head k (nearer v))) else None)) (not-same v.depth d e)
        ∙ ap (λ b. if b then Some (leaf (bound_head k (nearer v))) else None) (not-less v.depth d e)

    head-stays : (d : ℕ) (h : Head) → is_beyond d h ≡ false → opened_head more d h ≡ None
    head-stays d (H.Bound v) e = variable-stays d VK.Ty v e
    head-stays d (H.Const (C.Bound v)) e = variable-stays d VK.Const v e
    head-stays d (H.Region (R.Bound v)) e = variable-stays d VK.Region v e
    head-stays d _ e = refl

    -- what is closed stays
    pub closed_stays : (d : ℕ) (ts : Forest) → escapes d ts ≡ false → opens d ts ≡ ts
    closed_stays d none e = refl
    closed_stays d (tree h below rest) e =
        let p = closed-parts d h below rest e in
        ap (λ (o : Option Tree). begin (unwrap_or o (node h (opens (d + binders_of h) below))) (opens d rest)) (head-stays d h p.here)
        ∙ (ap (λ (b : Forest). tree h b (opens d rest)) (closed_stays (d + binders_of h) below p.under) ∙ ap (tree h below) (closed_stays d rest p.others))

    -- Rows keep their places, and their trees' kinds.

    pub opened_but_last : (ts : Forest) → opens 0 (all_but_last ts) ≡ all_but_last (opens 0 ts)
    opened_but_last none = refl
    opened_but_last (tree h below none) = refl
    opened_but_last (tree h below (tree g under rest)) =
        let t = unwrap_or (opened_head more 0 h) (node h (opens (0 + binders_of h) below)) in
        ap (tree t.head t.children) (opened_but_last (tree g under rest))

    error-kind : (k : VarKind) → kind_of (error_of k) ≡ parameter_kind k
    error-kind VK.Ty = refl
    error-kind VK.Const = refl
    error-kind VK.Region = refl

    of-kind : (k : VarKind) (j : Kind) → is_of k j ≡ true → j ≡ parameter_kind k
    of-kind VK.Ty TypeKind e = refl
    of-kind VK.Const ConstantKind e = refl
    of-kind VK.Region RegionKind e = refl
    of-kind _ _ e = absurd cc

    -- a value is of its variable's kind
    value-kind : (k : VarKind) (t : Tree) → kind_of (of_kind k t).head ≡ parameter_kind k
    value-kind k t = at (is_of k (kind_of t.head)) refl
      where
        at : (b : Bool) → is_of k (kind_of t.head) ≡ b → kind_of (if b then t else leaf (error_of k)).head ≡ parameter_kind k
        at true e = of-kind k (kind_of t.head) e
        at false e = error-kind k

    variable-kind : (d : ℕ) (k : VarKind) (v : BoundVar) → KeepsKind (bound_head k v) (opened_variable more d k v)
    variable-kind d k v = at (v.depth == d)
      where
        by : (b : Bool) → KeepsKind (bound_head k v) (if b then Some (leaf (bound_head k (nearer v))) else None)
        by true = bound-kind k (nearer v) ∙ sym (bound-kind k v)
        by false = tt

        at : (b : Bool) → KeepsKind (bound_head k v) (if b then Some (shift_tree d (value k v)) else (if nat_lt d v.depth then Some (leaf (bound_head k (nearer v))) else None))
        at true = shift-kind d (value k v) ∙ (value-kind k (argument more v.index) ∙ sym (bound-kind k v))
        at false = by (nat_lt d v.depth)

    head-kind : (d : ℕ) (h : Head) → KeepsKind h (opened_head more d h)
    head-kind d (H.Bound v) = variable-kind d VK.Ty v
    head-kind d (H.Const (C.Bound v)) = variable-kind d VK.Const v
    head-kind d (H.Region (R.Bound v)) = variable-kind d VK.Region v
    head-kind d _ = tt

    pub opened_kinds : (ts : Forest) → kinds_of (opens 0 ts) ≡ kinds_of ts
    opened_kinds none = refl
    opened_kinds (tree h below rest) = at (opened_head more 0 h) (head-kind 0 h) (opened_kinds rest)
      where
        at : (o : Option Tree) → KeepsKind h o → kinds_of (opens 0 rest) ≡ kinds_of rest → kind_of (unwrap_or o (node h (opens (0 + binders_of h) below))).head ∷ kinds_of (opens 0 rest) ≡ kind_of h ∷ kinds_of rest
        at None k others = ap (λ ks. kind_of h ∷ ks) others
        at (Some u) k others = ap (λ j. j ∷ kinds_of (opens 0 rest)) k ∙ ap (λ ks. kind_of h ∷ ks) others

    module _ (is : AreBare more) where
      -- What stands at the place of a head: nothing, or a value.
      data Opened (d : ℕ) (h : Head) : Option Tree → Type 0 where
        a_value : (u : Tree) → AreShut (alone u) → u.children ≡ none → Opened d h (Some u)
        itself : is_beyond d h ≡ false → Opened d h None

      error-shut : (k : VarKind) → AreShut (alone (leaf (error_of k)))
      error-shut VK.Ty = record { is_closed = refl; projections = refl }
      error-shut VK.Const = record { is_closed = refl; projections = refl }
      error-shut VK.Region = record { is_closed = refl; projections = refl }

      -- a bare tree
      record IsBare (t : Tree) : Type 0 where
        shut : AreShut (alone t)
        leaf-like : t.children ≡ none

      bare-leaf : (h : Head) → is_bound_variable h ≡ false → IsBare (leaf h)
      bare-leaf h e =
          let quiet : holds is_bound_variable (alone (leaf h)) ≡ false = rw e refl in
          record { shut = record { is_closed = unbound_closed 0 (alone (leaf h)) quiet; projections = unbound_shut (alone (leaf h)) quiet }; leaf-like = refl }

      bare-argument : (ts : Forest) (i : ℕ) → AreBare ts → IsBare (argument ts i)
      bare-argument none i a = record { shut = record { is_closed = refl; projections = refl }; leaf-like = refl }
      bare-argument (tree h below rest) zero a = subst (λ b. IsBare (node h b)) (sym a.1) (bare-leaf h a.0)
      bare-argument (tree h below rest) (suc i) a = bare-argument rest i a.2

      value-bare : (k : VarKind) (v : BoundVar) → IsBare (value k v)
      value-bare k v = at (is_of k (kind_of (argument more v.index).head))
        where
          at : (b : Bool) → IsBare (if b then argument more v.index else leaf (error_of k))
          at true = bare-argument more v.index is
          at false = record { shut = error-shut k; leaf-like = refl }

      value-shut : (k : VarKind) (v : BoundVar) → AreShut (alone (value k v))
      value-shut k v = (value-bare k v).shut

      value-leaf : (k : VarKind) (v : BoundVar) → (value k v).children ≡ none
      value-leaf k v = (value-bare k v).leaf-like

      -- it stays under however many binders
      value-stays : (d : ℕ) (k : VarKind) (v : BoundVar) → shift_tree d (value k v) ≡ value k v
      value-stays d k v = closed-shift d (value k v) (value-shut k v).is_closed

      module _ (d : ℕ) (h : Head) (k : VarKind) (v : BoundVar) (beyond : (n : ℕ) → is_beyond n h ≡ nat_le n v.depth) where
        variable-opened : is_beyond (suc d) h ≡ false → Opened d h (opened_variable more d k v)
        variable-opened e = at (v.depth == d) refl
          where
            under : nat_le (suc d) v.depth ≡ false
            under = sym (beyond (suc d)) ∙ e

            not-more : (n m : ℕ) → nat_le (suc m) n ≡ false → nat_lt m n ≡ false
            not-more n m e = grind (arith, e)

            not-there : (n m : ℕ) → nat_le (suc m) n ≡ false → (n == m) ≡ false → nat_le m n ≡ false
            not-there n m e f = grind (arith, e, f)

            at : (b : Bool) → (v.depth == d) ≡ b → Opened d h (if b then Some (shift_tree d (value k v)) else (if nat_lt d v.depth then Some (leaf (bound_head k (nearer v))) else None))
            at true q = subst (λ u. Opened d h (Some u)) (sym (value-stays d k v)) (a_value (value k v) (value-shut k v) (value-leaf k v))
            at false q =
                subst (λ b. Opened d h (if b then Some (leaf (bound_head k (nearer v))) else None)) (sym (not-more v.depth d under))
                (itself (beyond d ∙ not-there v.depth d under q))

      -- what stands for a head from which nothing further out escapes
      how-opened : (d : ℕ) (h : Head) → is_beyond (suc d) h ≡ false → Opened d h (opened_head more d h)
      how-opened d (H.Bound v) e = variable-opened d (H.Bound v) VK.Ty v (λ n. refl) e
      how-opened d (H.Const (C.Bound v)) e = variable-opened d (H.Const (C.Bound v)) VK.Const v (λ n. refl) e
      how-opened d (H.Region (R.Bound v)) e = variable-opened d (H.Region (R.Bound v)) VK.Region v (λ n. refl) e
      how-opened d _ e = itself refl

      -- Trees under the binder, from which no other variable escapes.

      pub opened_closed : (d : ℕ) (ts : Forest) → escapes (suc d) ts ≡ false → escapes d (opens d ts) ≡ false
      opened_closed d none e = refl
      opened_closed d (tree h below rest) e =
          let p = closed-parts (suc d) h below rest e in
          at (opened_head more d h) (how-opened d h p.here) (opened_closed (d + binders_of h) below (closed-on (suc d + binders_of h) (suc (d + binders_of h)) below (omega arith) p.under)) (opened_closed d rest p.others)
        where
          at : (o : Option Tree) → Opened d h o → escapes (d + binders_of h) (opens (d + binders_of h) below) ≡ false → escapes d (opens d rest) ≡ false
              → escapes d (begin (unwrap_or o (node h (opens (d + binders_of h) below))) (opens d rest)) ≡ false
          at _ (a_value u s leaf-like) under others =
              let q = closed-parts d u.head u.children none (closed-on 0 d (alone u) (omega arith) s.is_closed) in
              closed d u.head u.children (opens d rest) q.here q.under others
          at _ (itself b) under others = closed d h (opens (d + binders_of h) below) (opens d rest) b under others

      -- They are no larger.
      pub opened_size : (d : ℕ) (ts : Forest) → escapes (suc d) ts ≡ false → size (opens d ts) ≤ size ts
      opened_size d none e = omega arith
      opened_size d (tree h below rest) e =
          let p = closed-parts (suc d) h below rest e in
          at (opened_head more d h) (how-opened d h p.here) (opened_size (d + binders_of h) below (closed-on (suc d + binders_of h) (suc (d + binders_of h)) below (omega arith) p.under)) (opened_size d rest p.others)
        where
          at : (o : Option Tree) → Opened d h o → size (opens (d + binders_of h) below) ≤ size below → size (opens d rest) ≤ size rest
              → size (begin (unwrap_or o (node h (opens (d + binders_of h) below))) (opens d rest)) ≤ 1 + (size below + size rest)
          at _ (a_value u s leaf-like) under others = let none-below = ap size leaf-like in omega (arith, others, none-below)
          at _ (itself b) under others = omega (arith, under, others)

      -- Trees that came to stand under more binders are opened as before.

      data Lifted (d e : ℕ) (h : Head) : Type 0 where
        a_variable : (k : VarKind) (v : BoundVar) → h ≡ bound_head k v → v.depth ≡ e → Lifted d e h
        still : is_beyond e h ≡ false → Lifted d e h

      variable-lifted : (d e : ℕ) (h : Head) (k : VarKind) (v : BoundVar) → h ≡ bound_head k v → ((n : ℕ) → is_beyond n h ≡ nat_le n v.depth) → is_beyond (suc e) h ≡ false → Lifted d e h
      variable-lifted d e h k v is-head beyond x = at (nat_le e v.depth) refl
        where
          there : (n m : ℕ) → nat_le (suc m) n ≡ false → nat_le m n ≡ true → n ≡ m
          there n m e f = grind (arith, e, f)

          at : (b : Bool) → nat_le e v.depth ≡ b → Lifted d e h
          at true q = a_variable k v is-head (there v.depth e (sym (beyond (suc e)) ∙ x) q)
          at false q = still (beyond e ∙ q)

      how-lifted : (d e : ℕ) (h : Head) → is_beyond (suc e) h ≡ false → Lifted d e h
      how-lifted d e (H.Bound v) x = variable-lifted d e (H.Bound v) VK.Ty v refl (λ n. refl) x
      how-lifted d e (H.Const (C.Bound v)) x = variable-lifted d e (H.Const (C.Bound v)) VK.Const v refl (λ n. refl) x
      how-lifted d e (H.Region (R.Bound v)) x = variable-lifted d e (H.Region (R.Bound v)) VK.Region v refl (λ n. refl) x
      how-lifted d e _ x = still refl

      unmoved-head : (n d : ℕ) (h : Head) → is_beyond d h ≡ false → moved n d h ≡ None
      unmoved-head n d (H.Bound v) e = ap (λ b. if b then Some (leaf (H.Bound (further n v))) else None) e
      unmoved-head n d (H.Const (C.Bound v)) e = ap (λ b. if b then Some (leaf (H.Const (C.Bound (further n v)))) else None) e
      unmoved-head n d (H.Region (R.Bound v)) e = ap (λ b. if b then Some (leaf (H.Region (R.Bound (further n v)))) else None) e
      unmoved-head n d _ e = refl

      moves-head : (n d : ℕ) (k : VarKind) (v : BoundVar) → nat_le d v.depth ≡ true → moved n d (bound_head k v) ≡ Some (leaf (bound_head k (further n v)))
      moves-head n d VK.Ty v e = ap (λ b. if b then Some (leaf (H.Bound (further n v))) else None) e
      moves-head n d VK.Const v e = ap (λ b. if b then Some (leaf (H.Const (C.Bound (further n v)))) else None) e
      moves-head n d VK.Region v e = ap (λ b. if b then Some (leaf (H.Region (R.Bound (further n v)))) else None) e

      -- at the binder's own depth it has a value
      opens-here : (d : ℕ) (k : VarKind) (v : BoundVar) → v.depth ≡ d → opened_head more d (bound_head k v) ≡ Some (value k v)
      opens-here d k v e =
          variable-opens d k v
          ∙ (ap (λ b. if b then Some (shift_tree d (value k v)) else (if nat_lt d v.depth then Some (leaf (bound_head k (nearer v))) else None)) (same v.depth d e) ∙ ap Some (value-stays d k v))
        where
          same : (n m : ℕ) → n ≡ m → (n == m) ≡ true
          same n m e = grind (arith, e)

      -- the row is opened as it was
      lifted : (d e : ℕ) (ts : Forest) → escapes (suc e) ts ≡ false → opens (e + d) (shift d e ts) ≡ opens e ts
      lifted d e none x = refl
      lifted d e (tree h below rest) x =
          let p = closed-parts (suc e) h below rest x in
          at (how-lifted d e h p.here) (lifted d (e + binders_of h) below (closed-on (suc e + binders_of h) (suc (e + binders_of h)) below (omega arith) p.under)) (lifted d e rest p.others)
        where
          b : ℕ
          b = binders_of h

          row : Option Tree → Forest
          row o = begin (unwrap_or o (node h (shift d (e + binders_of h) below))) (shift d e rest)

          below-on : (n m : ℕ) → n ≤ m → is_beyond n h ≡ false → is_beyond m h ≡ false
          below-on n m l q = (closed-parts m h none none (closed-on n m (tree h none none) l (closed n h none none q refl refl))).here

          at : Lifted d e h → opens (e + binders_of h + d) (shift d (e + binders_of h) below) ≡ opens (e + binders_of h) below → opens (e + d) (shift d e rest) ≡ opens e rest → opens (e + d) (shift d e (tree h below rest)) ≡ opens e (tree h below rest)
          at (a_variable k v q depth) under others =
              let u : Tree = leaf (bound_head k (further d v)) in
              let moves : moved d e h ≡ Some u = ap (moved d e) q ∙ moves-head d e k v (le-itself e v.depth depth) in
              let deeper : (further d v).depth ≡ e + d = ap (λ n. n + d) depth in
              let here : opened_head more (e + d) (bound_head k (further d v)) ≡ Some (value k v) = opens-here (e + d) k (further d v) deeper in
              let left : opens (e + d) (shift d e (tree h below rest)) ≡ begin (value k v) (opens (e + d) (shift d e rest)) =
              ap (λ (o : Option Tree). opens (e + d) (begin (unwrap_or o (node h (shift d (e + binders_of h) below))) (shift d e rest))) moves
              ∙ ap (λ (o : Option Tree). begin (unwrap_or o (node (bound_head k (further d v)) none)) (opens (e + d) (shift d e rest))) here in
              let right : opens e (tree h below rest) ≡ begin (value k v) (opens e rest) =
              ap (λ (o : Option Tree). begin (unwrap_or o (node h (opens (e + binders_of h) below))) (opens e rest)) (ap (opened_head more e) q ∙ opens-here e k v depth) in
              left ∙ (ap (begin (value k v)) others ∙ sym right)
            where
              le-itself : (n m : ℕ) → m ≡ n → nat_le n m ≡ true
              le-itself n m e = grind (arith, e)
          at (still q) under others =
              let turned : e + d + binders_of h ≡ e + binders_of h + d = omega arith in
              let left : opens (e + d) (shift d e (tree h below rest)) ≡ tree h (opens (e + d + binders_of h) (shift d (e + binders_of h) below)) (opens (e + d) (shift d e rest)) =
              ap (λ (o : Option Tree). opens (e + d) (begin (unwrap_or o (node h (shift d (e + binders_of h) below))) (shift d e rest))) (unmoved-head d e h q)
              ∙ ap (λ (o : Option Tree). begin (unwrap_or o (node h (opens (e + d + binders_of h) (shift d (e + binders_of h) below)))) (opens (e + d) (shift d e rest))) (head-stays (e + d) h (below-on e (e + d) (omega arith) q)) in
              let right : opens e (tree h below rest) ≡ tree h (opens (e + binders_of h) below) (opens e rest) =
              ap (λ (o : Option Tree). begin (unwrap_or o (node h (opens (e + binders_of h) below))) (opens e rest)) (head-stays e h q) in
              left
              ∙ (ap (λ (n : ℕ). tree h (opens n (shift d (e + binders_of h) below)) (opens (e + d) (shift d e rest))) turned
              ∙ (ap (λ (ts : Forest). tree h ts (opens (e + d) (shift d e rest))) under ∙ (ap (tree h (opens (e + binders_of h) below)) others ∙ sym right)))

      -- Arguments under the binder, put into trees without bound variables and then opened.
      module _ (F : Forest) (under : escapes 1 F ≡ false) (F-closed : escapes 0 (opens 0 F) ≡ false) (F-shut : open_in (opens 0 F) ≡ false) where
        argument-under : (ts : Forest) (i : ℕ) → escapes 1 ts ≡ false → escapes 1 (alone (argument ts i)) ≡ false
        argument-under none i e = refl
        argument-under (tree h below rest) zero e = let p = closed-parts 1 h below rest e in closed 1 h below none p.here p.under refl
        argument-under (tree h below rest) (suc i) e = argument-under rest i (closed-parts 1 h below rest e).others

        opened-argument : (ts : Forest) (i : ℕ) → AreShut (opens 0 ts) → AreShut (opens 0 (alone (argument ts i)))
        opened-argument none i s = record { is_closed = refl; projections = refl }
        opened-argument (tree h below rest) zero s =
            let t = unwrap_or (opened_head more 0 h) (node h (opens (0 + binders_of h) below)) in
            let p = closed-parts 0 t.head t.children (opens 0 rest) s.is_closed in
            let q = shut_parts t.head t.children (opens 0 rest) s.projections in
            record { is_closed = closed 0 t.head t.children none p.here p.under refl; projections = shut t.head t.children none q.here q.under refl }
        opened-argument (tree h below rest) (suc i) s =
            let t = unwrap_or (opened_head more 0 h) (node h (opens (0 + binders_of h) below)) in
            opened-argument rest i (record { is_closed = (closed-parts 0 t.head t.children (opens 0 rest) s.is_closed).others; projections = (shut_parts t.head t.children (opens 0 rest) s.projections).others })

        -- one of them, under so many binders
        put-opened : (d i : ℕ) → AreShut (opens d (alone (shift_tree d (argument F i))))
        put-opened d i =
            let ts = alone (argument F i) in
            let begun : 0 + d ≡ d = omega arith in
            let same : opens d (shift d 0 ts) ≡ opens 0 ts = ap (λ n. opens n (shift d 0 ts)) (sym begun) ∙ lifted d 0 ts (argument-under F i under) in
            subst AreShut (sym same) (opened-argument F i (record { is_closed = F-closed; projections = F-shut }))

        -- the first of them
        first-opened : (ts : Forest) → first_tree (opens 0 (alone (argument ts 0))) ≡ first_tree (opens 0 ts)
        first-opened none = refl
        first-opened (tree h below rest) = refl

        -- `Self` is what the first argument is opened to
        pub filled_first : (ts : Forest) → is_self (first_head ts) ≡ true → first_tree (opens 0 (substituted F 0 ts)) ≡ first_tree (opens 0 F)
        filled_first none e = absurd cc
        filled_first (tree (H.Param i) below rest) e =
            let zeroth : i ≡ 0 = same i 0 e in
            let begun : 0 + 0 ≡ 0 = omega arith in
            let u : Tree = shift_tree 0 (argument F i) in
            let whole : first_tree (opens 0 (tree u.head u.children (substituted F 0 rest))) ≡ first_tree (opens 0 (alone u)) = refl in
            let lower : opens 0 (shift 0 0 (alone (argument F i))) ≡ opens 0 (alone (argument F i)) = lifted 0 0 (alone (argument F i)) (argument-under F i under) in
            whole ∙ (ap first_tree lower ∙ (ap (λ n. first_tree (opens 0 (alone (argument F n)))) zeroth ∙ first-opened F))
          where
            same : (n m : ℕ) → (n == m) ≡ true → n ≡ m
            same n m e = grind (arith, e)
        filled_first (tree _ below rest) e = absurd cc

        -- what is put at a head is opened so, and what isn't put stays where it is unbound
        abbrev PutOpens : ℕ → Head → Option Tree → Type 0
        PutOpens d h None = Unit {0}
        PutOpens d h (Some u) = AreShut (opens d (alone u))

        put-opens : (d : ℕ) (h : Head) → PutOpens d h (put F d h)
        put-opens d (H.Param i) = put-opened d i
        put-opens d (H.Const (C.Param i)) = put-opened d i
        put-opens d _ = tt

        -- they are shut when opened
        pub filled_opened : (d : ℕ) (ts : Forest) → holds is_bound_variable ts ≡ false → AreShut (opens d (substituted F d ts))
        filled_opened d none e = record { is_closed = refl; projections = refl }
        filled_opened d (tree h below rest) e =
            let p = holds_parts is_bound_variable h below rest e in
            at (put F d h) (put-opens d h) p.here (filled_opened (d + binders_of h) below p.under) (filled_opened d rest p.others)
          where
            at : (o : Option Tree) → PutOpens d h o → is_bound_variable h ≡ false → AreShut (opens (d + binders_of h) (substituted F (d + binders_of h) below)) → AreShut (opens d (substituted F d rest))
                → AreShut (opens d (begin (unwrap_or o (node h (substituted F (d + binders_of h) below))) (substituted F d rest)))
            at None s quiet under others =
                let inner = opens (d + binders_of h) (substituted F (d + binders_of h) below) in
                let outer = opens d (substituted F d rest) in
                let c = closed 0 h inner outer (or_false (is_beyond 0 h) (escapes (0 + binders_of h) none) (escapes-quiet 0 (node h none) (rw quiet refl))).0 (closed-on 0 (0 + binders_of h) inner (omega arith) under.is_closed) others.is_closed in
                let s = shut h inner outer (both-none (is_some (item_of h)) (starts_with object inner) (escapes 0 inner) under.is_closed) under.projections others.projections in
                subst (λ (o : Option Tree). AreShut (begin (unwrap_or o (node h inner)) outer)) (sym (unopened more d h quiet)) (record { is_closed = c; projections = s })
            at (Some u) s quiet under others =
                let t = unwrap_or (opened_head more d u.head) (node u.head (opens (d + binders_of u.head) u.children)) in
                let outer = opens d (substituted F d rest) in
                let p = closed-parts 0 t.head t.children none s.is_closed in
                let q = shut_parts t.head t.children none s.projections in
                record { is_closed = closed 0 t.head t.children outer p.here p.under others.is_closed; projections = shut t.head t.children outer q.here q.under others.projections }

-- Fresh variables are bare.

pub fresh_bare : (S : State) (ks : List Kind) → AreBare (fresh_variables S ks)
fresh_bare S [] = tt
fresh_bare S (k ∷ ks) = let x = bare (variable_kind k) (length S.variables) in (x.0, x.1, fresh_bare (with_fresh S (variable_kind k)) ks)
  where
    bare : (w : VariableKind) (n : ℕ) → AreBare (alone (variable w n))
    bare (Term s) n = (refl, refl, tt)
    bare Region n = (refl, refl, tt)

-- The projections of an object's own among them are closed.
module _ (object : Tree) (bs : List Tree) where
  abbrev IsClosed : Projection → Type 0
  IsClosed p = escapes 0 p.arguments ≡ false

  -- what is found at a head
  own-closed : (h : Head) (b : Forest) (p : Projection) → is_some (item_of h) && (starts_with object b && escapes 0 b) ≡ false → own_projection object bs h b ≡ Some p → IsClosed p
  own-closed h b p e q = of (item_of h) e q
    where
      where-own : (i : ℕ) (x y : Bool) → x && escapes 0 b ≡ false → projection_if (x && y) i b ≡ Some p → IsClosed p
      where-own i false y e q = absurd cc
      where-own i true false e q = absurd cc
      where-own i true true e q = let same : record { item = i; arguments = b } ≡ p = cc in subst (λ (y : Projection). escapes 0 y.arguments ≡ false) same e

      of : (o : Option ℕ) → is_some o && (starts_with object b && escapes 0 b) ≡ false → own_item object bs b o ≡ Some p → IsClosed p
      of None e q = absurd cc
      of (Some i) e q = where-own i (starts_with object b) (any_is_about i bs) e q

  row-closed : (ts : Forest) → open_in object ts ≡ false → All IsClosed (projections (own_projection object bs) ts)
  row-closed none e = All-nil IsClosed
  row-closed (tree h b r) e =
      let p = shut_parts object h b r e in
      let own = own_projection object bs in
      All-append IsClosed (found_or (own h b) (projections own b)) (projections own r) (at (own h b) refl p.here (row-closed b p.under)) (row-closed r p.others)
    where
      at : (o : Option Projection) → own_projection object bs h b ≡ o → is_some (item_of h) && (starts_with object b && escapes 0 b) ≡ false → All IsClosed (projections (own_projection object bs) b) → All IsClosed (found_or o (projections (own_projection object bs) b))
      at None q e more = more
      at (Some x) q e more = All-cons IsClosed x [] (own-closed h b x e q) (All-nil IsClosed)

  -- all of them, in clauses
  pub own_are_closed : (cs : List Tree) → Each (λ c. open_in object c.children ≡ false) cs → All IsClosed (projections_in (own_projection object bs) cs)
  own_are_closed [] a = All-nil IsClosed
  own_are_closed (c ∷ cs) a =
      let own = own_projection object bs in
      All-append IsClosed (projections own c.children) (projections_in own cs) (row-closed c.children a.0) (own_are_closed cs a.1)
