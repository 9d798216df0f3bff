-- What clauses imply, what an object states of itself, and what it has to fulfil: of a state, where what these are made of is.
use Rattle.std.proofs.Common.{◌≡◌, ◌+◌, ◌==◌, ℕ, zero, suc, Bool, true, false, Option, Some, None, List, [], ◌∷◌, map, refl, sym, ap, subst, ◌∙◌, arith, nat_le, if◌then◌else◌}
use Rattle.std.specs.List.{flat_map}
use Rattle.std.specs.Option.{unwrap_or}
use Rattle.ir_trees.specs.declared.ir.heads.ConstHead.TheVariants as C
use Rattle.ir_trees.specs.declared.ir.heads.Head.{Head}
use Rattle.ir_trees.specs.declared.ir.heads.Head.TheVariants as H
use Rattle.ir_trees.specs.declared.ir.heads.ListHead.{ListHead}
use Rattle.ir_trees.specs.declared.ir.heads.ListHead.TheVariants as LH
use Rattle.ir_trees.specs.declared.ir.heads.PartHead.TheVariants as P
use Rattle.ir_trees.specs.declared.ir.heads.PredHead.TheVariants as PH
use Rattle.ir_trees.specs.declared.ir.heads.VariableSort.{VariableSort}
use Rattle.ir_trees.specs.declared.ir.heads.VariableSort.TheVariants as VS
use Rattle.ir_trees.specs.declared.ir.kinds.RegionKind.TheVariants as R
use Rattle.ir_trees.specs.Declarations.References.{FitsAmong}
use Rattle.ir_trees.specs.Declarations.Worlds.{World, child_kinds, clause_kinds, joined, kinds_of, parameters, AssociatedTypeSort, TraitSort}
use Rattle.ir_trees.specs.Hierarchy.Elaboration.{first_children, implied, later, later_head, renumbered, under_binder, variables_of}
use Rattle.ir_trees.specs.Hierarchy.Supers.{after_first}
use Rattle.ir_trees.specs.Instantiation.Folding.{argument, fold, further, lacks_argument, leaf, moved, put, shift, substituted, substituted_tree}
use Rattle.ir_trees.specs.Syntax.Binders.{escapes, is_beyond}
use Rattle.ir_trees.specs.Syntax.Trees.{Kind, BinderKind, ClauseKind, PredicateKind, TypeKind, Forest, none, tree, Tree, binders_of, count, holds, join, kind_of, list_kind, sort_kind, tree_holds}
use Rattle.ir_trees.specs.Unification.Substitutions.{alone}
use Rattle.ir_trees.proofs.Instantiation.Folding.{HeadAnswers, begin, by_head}
use Rattle.ir_folds.proofs.Instantiation.Joining.{binder-head}
use Rattle.candidate_eval.specs.Builtins.Callable.{all_but_last}
use Rattle.candidate_eval.specs.Dynamic.Required.{clause_head_of, each_of, is_projection_bound, own_bound, own_bounds, said_of, with_arguments}
use Rattle.candidate_eval.specs.Judges.Soundness.{AreTreesOf, Live, is_strange}
use Rattle.candidate_eval.specs.Judges.States.{State}
use Rattle.candidate_eval.proofs.Marks.Closed.{after-closed, binder-one, closed, closed-on, closed-parts}
use Rattle.candidate_eval.proofs.Marks.Holds.{holds_parts}
use Rattle.candidate_eval.proofs.Marks.Marking.{IsUnmarked, after-unmarked, but-last-unmarked, fold-unmarked, unmarked}
use Rattle.candidate_assembly.proofs.Objects.ObjectLaws.{IsPredicate, are_predicates, dynamic_bounds, no_list, no_variable}
use Rattle.candidate_assembly.specs.Laws.SuperLaws.{Each, IsFitting, TakeTheirs}
use Rattle.candidate_assembly.proofs.Objects.SuperLaws.{bounds_take, each_of_both}
use Rattle.candidate_assembly.specs.Rules.DynBounds.{bound_said, bounds_in, clause_head_by, is_dynamic}
use Rattle.candidate_assembly.proofs.Refusals.KnownHeaders.{filled-closed, filled-unmarked}
use Rattle.candidate_assembly.proofs.Sense.Sense.{StaysKnown, join-closed, join-unmarked, trees-stay}

-- Answers put in under binders: where so many of those above are bound, if each answer is.

abbrev StaysWithin : ℕ → Head → Option Tree → Type 0
StaysWithin k h None = is_beyond k h ≡ false
StaysWithin k h (Some t) = escapes k (alone t) ≡ false

module _ (f : HeadAnswers) (m k : ℕ) (answers : (d : ℕ) (h : Head) → is_beyond (m + d) h ≡ false → StaysWithin (k + d) h (f d h)) where
  folded-closed : (d : ℕ) (ts : Forest) → escapes (m + d) ts ≡ false → escapes (k + d) (fold (by_head f) d ts) ≡ false
  folded-closed d none e = refl
  folded-closed d (tree h below rest) e =
      let p = closed-parts (m + d) h below rest e in
      node (f d h) (answers d h p.here)
      (closed-on (k + (d + binders_of h)) (k + d + binders_of h) (fold (by_head f) (d + binders_of h) below) (omega arith)
      (folded-closed (d + binders_of h) below (closed-on (m + d + binders_of h) (m + (d + binders_of h)) below (omega arith) p.under)))
      (folded-closed d rest p.others)
    where
      node : (o : Option Tree) → StaysWithin (k + d) h o → escapes (k + d + binders_of h) (fold (by_head f) (d + binders_of h) below) ≡ false → escapes (k + d) (fold (by_head f) d rest) ≡ false
          → escapes (k + d) (begin (unwrap_or o (record { head = h; children = fold (by_head f) (d + binders_of h) below })) (fold (by_head f) d rest)) ≡ false
      node None x under others = closed (k + d) h (fold (by_head f) (d + binders_of h) below) (fold (by_head f) d rest) x under others
      node (Some u) x under others = let z = closed-parts (k + d) u.head u.children none x in closed (k + d) u.head u.children (fold (by_head f) d rest) z.here z.under others

-- a shift

further-in : (m n d k : ℕ) → nat_le (m + d) k ≡ false → nat_le (m + n + d) (k + n) ≡ false
further-in m n d k e = grind (arith, e)

as-far : (m n d k : ℕ) → nat_le (m + d) k ≡ false → nat_le (m + n + d) k ≡ false
as-far m n d k e = grind (arith, e)

moved-within : (m n d : ℕ) (h : Head) → is_beyond (m + d) h ≡ false → StaysWithin (m + n + d) h (moved n d h)
moved-within m n d (H.Bound v) e = at (nat_le d v.depth)
  where
    at : (b : Bool) → StaysWithin (m + n + d) (H.Bound v) (if b then Some (leaf (H.Bound (further n v))) else None)
    at true = closed (m + n + d) (H.Bound (further n v)) none none (further-in m n d v.depth e) refl refl
    at false = as-far m n d v.depth e
moved-within m n d (H.Const (C.Bound v)) e = at (nat_le d v.depth)
  where
    at : (b : Bool) → StaysWithin (m + n + d) (H.Const (C.Bound v)) (if b then Some (leaf (H.Const (C.Bound (further n v)))) else None)
    at true = closed (m + n + d) (H.Const (C.Bound (further n v))) none none (further-in m n d v.depth e) refl refl
    at false = as-far m n d v.depth e
moved-within m n d (H.Region (R.Bound v)) e = at (nat_le d v.depth)
  where
    at : (b : Bool) → StaysWithin (m + n + d) (H.Region (R.Bound v)) (if b then Some (leaf (H.Region (R.Bound (further n v)))) else None)
    at true = closed (m + n + d) (H.Region (R.Bound (further n v))) none none (further-in m n d v.depth e) refl refl
    at false = as-far m n d v.depth e
moved-within m n d _ e = refl

shifted-closed : (m n : ℕ) (ts : Forest) → escapes m ts ≡ false → escapes (m + n) (shift n 0 ts) ≡ false
shifted-closed m n ts e =
    closed-on (m + n + 0) (m + n) (shift n 0 ts) (omega arith) (folded-closed (moved n) m (m + n) (moved-within m n) 0 ts (closed-on m (m + 0) ts (omega arith) e))

-- arguments that stand under the same binder

argument-within : (m : ℕ) (F : Forest) (i : ℕ) → escapes m F ≡ false → escapes m (alone (argument F i)) ≡ false
argument-within m none i e = refl
argument-within m (tree h below rest) zero e = let p = closed-parts m h below rest e in closed m h below none p.here p.under refl
argument-within m (tree h below rest) (suc i) e = argument-within m rest i (closed-parts m h below rest e).others

put-within : (m : ℕ) (F : Forest) → escapes m F ≡ false → (d : ℕ) (h : Head) → is_beyond (m + d) h ≡ false → StaysWithin (m + d) h (put F d h)
put-within m F a d (H.Param i) e = shifted-closed m d (alone (argument F i)) (argument-within m F i a)
put-within m F a d (H.Const (C.Param i)) e = shifted-closed m d (alone (argument F i)) (argument-within m F i a)
put-within m F a d _ e = e

put-closed : (m : ℕ) (F ts : Forest) → escapes m F ≡ false → escapes m ts ≡ false → escapes m (substituted F 0 ts) ≡ false
put-closed m F ts a e = closed-on (m + 0) m (substituted F 0 ts) (omega arith) (folded-closed (put F) m m (put-within m F a) 0 ts (closed-on m (m + 0) ts (omega arith) e))

-- variables of a binder with higher numbers

later-within : (m k d : ℕ) (h : Head) → is_beyond (m + d) h ≡ false → StaysWithin (m + d) h (later_head k d h)
later-within m k d (H.Bound v) e = at (v.depth == d)
  where
    at : (b : Bool) → StaysWithin (m + d) (H.Bound v) (if b then Some (leaf (H.Bound (later k v))) else None)
    at true = closed (m + d) (H.Bound (later k v)) none none e refl refl
    at false = e
later-within m k d (H.Const (C.Bound v)) e = at (v.depth == d)
  where
    at : (b : Bool) → StaysWithin (m + d) (H.Const (C.Bound v)) (if b then Some (leaf (H.Const (C.Bound (later k v)))) else None)
    at true = closed (m + d) (H.Const (C.Bound (later k v))) none none e refl refl
    at false = e
later-within m k d (H.Region (R.Bound v)) e = at (v.depth == d)
  where
    at : (b : Bool) → StaysWithin (m + d) (H.Region (R.Bound v)) (if b then Some (leaf (H.Region (R.Bound (later k v)))) else None)
    at true = closed (m + d) (H.Region (R.Bound (later k v))) none none e refl refl
    at false = e
later-within m k d _ e = e

renumbered-closed : (m k : ℕ) (ts : Forest) → escapes m ts ≡ false → escapes m (renumbered k ts) ≡ false
renumbered-closed m k ts e = closed-on (m + 0) m (renumbered k ts) (omega arith) (folded-closed (later_head k) m m (later-within m k) 0 ts (closed-on m (m + 0) ts (omega arith) e))

-- A head that a clause has, and a first child that holds the variables of a binder.

no-sort : (s : VariableSort) → sort_kind s ≡ ClauseKind → ⊥
no-sort VS.Constant e = absurd cc
no-sort _ e = absurd cc

no-clause-list : (l : ListHead) → list_kind l ≡ ClauseKind → ⊥
no-clause-list LH.Args e = absurd cc
no-clause-list LH.Preds e = absurd cc
no-clause-list LH.Clauses e = absurd cc

clause-binds : (h : Head) → kind_of h ≡ ClauseKind → binders_of h ≡ 1
clause-binds (H.Part (P.Clause k)) e = refl
clause-binds (H.Part P.Vars) e = absurd cc
clause-binds (H.Part (P.Var k)) e = absurd cc
clause-binds (H.Part P.Sig) e = absurd cc
clause-binds (H.Part (P.Pred p)) e = absurd cc
clause-binds (H.Infer v) e = absurd (no-sort v.sort e)
clause-binds (H.List l) e = absurd (no-clause-list l e)
clause-binds _ e = absurd cc

clause-stays : (F : Forest) (h : Head) → kind_of h ≡ ClauseKind → put F 0 h ≡ None
clause-stays F (H.Param i) e = absurd cc
clause-stays F (H.Const k) e = absurd cc
clause-stays F _ e = refl

-- a clause keeps its head where arguments are put in
pub clause-filled : (F : Forest) (s : Tree) → kind_of s.head ≡ ClauseKind → substituted_tree F s ≡ record { head = s.head; children = substituted F (0 + binders_of s.head) s.children }
clause-filled F s e = ap (λ (o : Option Tree). unwrap_or o (record { head = s.head; children = substituted F (0 + binders_of s.head) s.children })) (clause-stays F s.head e)

abbrev pub BindsFirst : Forest → Type 0
BindsFirst none = Unit {0}
BindsFirst (tree h below rest) = h ≡ H.Part P.Vars

-- what its variables mention is bound there
pub variables-closed : (m : ℕ) (ts : Forest) → BindsFirst ts → escapes m ts ≡ false → escapes m (first_children ts) ≡ false
variables-closed m none b e = refl
variables-closed m (tree h below rest) b e =
    closed-on (m + 0) m below (omega arith) (subst (λ k. escapes (m + binders_of k) below ≡ false) b (closed-parts m h below rest e).under)

put-first : (F : Forest) (d : ℕ) (ts : Forest) → BindsFirst ts → BindsFirst (substituted F d ts)
put-first F d none b = tt
put-first F d (tree h below rest) b = subst (λ k. BindsFirst (substituted F d (tree k below rest))) (sym b) refl

pub first-unmarked : (mark : Head → Bool) (ts : Forest) → holds mark ts ≡ false → holds mark (first_children ts) ≡ false
first-unmarked mark none e = refl
first-unmarked mark (tree h below rest) e = (holds_parts mark h below rest e).under

binder-first : (o : Option (List Kind)) (k : Kind) (ks : List Kind) → joined (Some (BinderKind ∷ [])) o ≡ Some (k ∷ ks) → k ≡ BinderKind
binder-first None k ks e = absurd cc
binder-first (Some js) k ks e = cc

joined-first : (o : Option (List Kind)) (below : Forest) → joined (Some (BinderKind ∷ [])) o ≡ Some (kinds_of below) → BindsFirst below
joined-first o none e = tt
joined-first o (tree h below rest) e = binder-head h (binder-first o (kind_of h) (kinds_of rest) e)

pub clause-first : (w : World) (h : Head) (below : Forest) → kind_of h ≡ ClauseKind → (let u : Tree = record { head = h; children = below } in FitsAmong w u) → BindsFirst below
clause-first w (H.Part (P.Clause k)) below e f = joined-first (clause_kinds w k) below f.0
clause-first w (H.Infer v) below e f = absurd (no-sort v.sort e)
clause-first w (H.List l) below e f = absurd (no-clause-list l e)
clause-first w _ below e f = absurd cc

bound-first : (w : World) (h : Head) (below : Forest) → kind_of h ≡ PredicateKind → child_kinds w h (kinds_of below) ≡ Some (kinds_of below) → BindsFirst below
bound-first w (H.Part (P.Pred (PH.Trait i))) below e f = joined-first (parameters w TraitSort i.0) below f
bound-first w (H.Part (P.Pred (PH.Projection i))) below e f = joined-first (joined (parameters w AssociatedTypeSort i.0) (Some (TypeKind ∷ []))) below f
bound-first w (H.Part (P.Pred (PH.AutoTrait i))) below e f = joined-first (parameters w TraitSort i.0) below f
bound-first w (H.Infer v) below e f = absurd (no_variable v.sort e)
bound-first w (H.List l) below e f = absurd (no_list l e)
bound-first w _ below e f = absurd cc

-- A clause of a state: its trees are, it has a clause's head, and its binder stands first.
pub record IsClauseOf (S : State) (L : Live) (t : Tree) : Type 0 where
  pub trees : AreTreesOf S L (alone t)
  pub head : kind_of t.head ≡ ClauseKind
  pub binder : BindsFirst t.children

pub clause-stays-of : (S : State) (L : Live) (T : State) (M : Live) → StaysKnown S L T M → (t : Tree) → IsClauseOf S L t → IsClauseOf T M t
clause-stays-of S L T M stays t a = record { trees = trees-stay S L T M stays (alone t) a.trees; head = a.head; binder = a.binder }

module _ (S : State) (L : Live) where
  abbrev mark : Head → Bool
  mark = is_strange S L

  -- what stands below a tree is under one binder at most
  pub below-known : (t : Tree) → AreTreesOf S L (alone t) → holds mark t.children ≡ false
  below-known t a = (holds_parts mark t.head t.children none a.known).under

  pub below-closed : (t : Tree) → AreTreesOf S L (alone t) → escapes 1 t.children ≡ false
  below-closed t a =
      let few = binder-one t.head in
      closed-on (0 + binders_of t.head) 1 t.children (omega (arith, few)) (closed-parts 0 t.head t.children none a.is_closed).under

  -- A clause with arguments, and one that it implies.

  later-unmarked : (k d : ℕ) (h : Head) → IsUnmarked mark (later_head k d h)
  later-unmarked k d (H.Bound v) = at (v.depth == d)
    where
      at : (b : Bool) → IsUnmarked (is_strange S L) (if b then Some (leaf (H.Bound (later k v))) else None)
      at true = refl
      at false = tt
  later-unmarked k d (H.Const (C.Bound v)) = at (v.depth == d)
    where
      at : (b : Bool) → IsUnmarked (is_strange S L) (if b then Some (leaf (H.Const (C.Bound (later k v)))) else None)
      at true = refl
      at false = tt
  later-unmarked k d (H.Region (R.Bound v)) = at (v.depth == d)
    where
      at : (b : Bool) → IsUnmarked (is_strange S L) (if b then Some (leaf (H.Region (R.Bound (later k v)))) else None)
      at true = refl
      at false = tt
  later-unmarked k d _ = tt

  put-unmarked : (F ts : Forest) → holds mark F ≡ false → holds mark ts ≡ false → holds mark (substituted F 0 ts) ≡ false
  put-unmarked F ts a e = filled-unmarked mark refl (λ v. refl) (λ v. refl) (λ v. refl) F a mark (λ h x. x) ts e

  pub implied-of : (t s : Tree) → IsClauseOf S L t → IsClauseOf S L s → IsClauseOf S L (implied t s)
  implied-of t s a b =
      let n = count (variables_of t) in
      let F = under_binder t in
      let ts = renumbered n (under_binder s) in
      let vars = join (variables_of t) (variables_of s) in
      let body = substituted F 0 ts in
      let row : Forest = tree (H.Part P.Vars) vars body in
      let first = below-known t a.trees in
      let second = below-known s b.trees in
      let outer = below-closed t a.trees in
      let inner = below-closed s b.trees in
      let vars-known = join-unmarked mark (variables_of t) (variables_of s) (first-unmarked mark t.children first) (first-unmarked mark s.children second) in
      let vars-closed = join-closed 1 (variables_of t) (variables_of s) (variables-closed 1 t.children a.binder outer) (variables-closed 1 s.children b.binder inner) in
      let body-known = put-unmarked F ts (after-unmarked mark t.children first) (fold-unmarked (later_head n) mark mark (λ h x. x) (later-unmarked n) 0 (under_binder s) (after-unmarked mark s.children second)) in
      let body-closed = put-closed 1 F ts (after-closed 1 t.children outer) (renumbered-closed 1 n (under_binder s) (after-closed 1 s.children inner)) in
      let p = holds_parts mark s.head s.children none b.trees.known in
      let q = closed-parts 0 s.head s.children none b.trees.is_closed in
      record {
        trees = record {
          known = unmarked mark s.head row none p.here (unmarked mark (H.Part P.Vars) vars body refl vars-known body-known) refl;
          is_closed = closed 0 s.head row none q.here (subst (λ k. escapes (0 + k) row ≡ false) (sym (clause-binds s.head b.head)) (closed 1 (H.Part P.Vars) vars body refl vars-closed body-closed)) refl;
        };
        head = b.head;
        binder = refl;
      }

  filled-of : (F : Forest) → AreTreesOf S L F → (s : Tree) → IsClauseOf S L s → IsClauseOf S L (substituted_tree F s)
  filled-of F a s b =
      let same = clause-filled F s b.head in
      record {
        trees = record { known = put-unmarked F (alone s) a.known b.trees.known; is_closed = filled-closed F a.is_closed 0 0 (alone s) b.trees.is_closed };
        head = ap (λ (t : Tree). kind_of t.head) same ∙ b.head;
        binder = subst (λ (t : Tree). BindsFirst t.children) (sym same) (put-first F (0 + binders_of s.head) s.children b.binder);
      }

  with-arguments-of : (F : Forest) → AreTreesOf S L F → (s : Tree) → IsClauseOf S L s → IsClauseOf S L (with_arguments F s)
  with-arguments-of F a s b = at (tree_holds (lacks_argument F) s)
    where
      at : (x : Bool) → IsClauseOf S L (if x then s else substituted_tree F s)
      at true = b
      at false = filled-of F a s b

  pub all-with-arguments : (F : Forest) → AreTreesOf S L F → (ts : List Tree) → Each (IsClauseOf S L) ts → Each (IsClauseOf S L) (map (with_arguments F) ts)
  all-with-arguments F a [] e = tt
  all-with-arguments F a (t ∷ ts) e = (with-arguments-of F a t e.0, all-with-arguments F a ts e.1)

  -- What a bound says of a type.

  said-of-clause : (type b : Tree) (h : Head) → kind_of h ≡ ClauseKind → mark h ≡ false → is_beyond 0 h ≡ false → AreTreesOf S L (alone type) → AreTreesOf S L (alone b) → BindsFirst b.children
      → (let t : Tree = record { head = h; children = (said_of type b).children } in IsClauseOf S L t)
  said-of-clause type b h kind m n a c first =
      let vars = first_children b.children in
      let more = after_first b.children in
      let known = below-known b c in
      let shut = below-closed b c in
      let p = holds_parts mark type.head type.children none a.known in
      let q = closed-parts 1 type.head type.children none (closed-on 0 1 (alone type) (omega arith) a.is_closed) in
      let rest : Forest = tree type.head type.children more in
      let row : Forest = tree (H.Part P.Vars) vars rest in
      record {
        trees = record {
          known = unmarked mark h row none m (unmarked mark (H.Part P.Vars) vars rest refl (first-unmarked mark b.children known) (unmarked mark type.head type.children more p.here p.under (after-unmarked mark b.children known))) refl;
          is_closed = closed 0 h row none n
              (subst (λ k. escapes (0 + k) row ≡ false) (sym (clause-binds h kind))
              (closed 1 (H.Part P.Vars) vars rest refl (variables-closed 1 b.children first shut) (closed 1 type.head type.children more q.here q.under (after-closed 1 b.children shut)))) refl;
        };
        head = kind;
        binder = refl;
      }

  said-by : (type b : Tree) (h : Head) → kind_of h ≡ PredicateKind → AreTreesOf S L (alone type) → AreTreesOf S L (alone b) → BindsFirst b.children
      → (let t : Tree = record { head = clause_head_by h; children = (said_of type b).children } in IsClauseOf S L t)
  said-by type b (H.Part (P.Pred (PH.Trait i))) e a c first = said-of-clause type b (clause_head_by (H.Part (P.Pred (PH.Trait i)))) refl refl refl a c first
  said-by type b (H.Part (P.Pred (PH.Projection i))) e a c first = said-of-clause type b (clause_head_by (H.Part (P.Pred (PH.Projection i)))) refl refl refl a c first
  said-by type b (H.Part (P.Pred (PH.AutoTrait i))) e a c first = said-of-clause type b (clause_head_by (H.Part (P.Pred (PH.AutoTrait i)))) refl refl refl a c first
  said-by type b (H.Infer v) e a c first = absurd (no_variable v.sort e)
  said-by type b (H.List l) e a c first = absurd (no_list l e)
  said-by type b _ e a c first = absurd cc

  -- Bounds of a `dyn` type.
  pub record IsBoundOf (b : Tree) : Type 0 where
    pub trees : AreTreesOf S L (alone b)
    pub head : kind_of b.head ≡ PredicateKind
    pub binder : BindsFirst b.children

  bounds-of-row : (ts : Forest) → AreTreesOf S L ts → Each (λ b. AreTreesOf S L (alone b)) (each_of ts)
  bounds-of-row none a = tt
  bounds-of-row (tree h below rest) a =
      let p = holds_parts mark h below rest a.known in
      let q = closed-parts 0 h below rest a.is_closed in
      (record { known = unmarked mark h below none p.here p.under refl; is_closed = closed 0 h below none q.here q.under refl }, bounds-of-row rest (record { known = p.others; is_closed = q.others }))

  each-bound : (w : World) (bs : List Tree) → Each IsPredicate bs → TakeTheirs w bs → Each (λ b. AreTreesOf S L (alone b)) bs → Each IsBoundOf bs
  each-bound w [] p f a = tt
  each-bound w (b ∷ bs) p f a = (record { trees = a.0; head = p.0; binder = bound-first w b.head b.children p.0 f.0 }, each-bound w bs p.1 f.1 a.1)

  pub but-last-closed : (n : ℕ) (ts : Forest) → escapes n ts ≡ false → escapes n (all_but_last ts) ≡ false
  but-last-closed n none e = refl
  but-last-closed n (tree h below none) e = refl
  but-last-closed n (tree h below (tree g inner rest)) e =
      let p = closed-parts n h below (tree g inner rest) e in
      closed n h below (all_but_last (tree g inner rest)) p.here p.under (but-last-closed n (tree g inner rest) p.others)

  no-binder : (h : Head) → is_dynamic h ≡ true → binders_of h ≡ 0
  no-binder H.Dynamic e = refl
  no-binder _ e = absurd cc

  pub bounds-of-type : (w : World) (type : Tree) → is_dynamic type.head ≡ true → IsFitting w type → AreTreesOf S L (alone type) → Each IsBoundOf (bounds_in type)
  bounds-of-type w type d f a =
      let p = holds_parts mark type.head type.children none a.known in
      let q = closed-parts 0 type.head type.children none a.is_closed in
      let shut : escapes 0 type.children ≡ false = subst (λ n. escapes (0 + n) type.children ≡ false) (no-binder type.head d) q.under in
      each-bound w (bounds_in type) (are_predicates type.children (dynamic_bounds w type.head (kinds_of type.children) d f.takes)) (bounds_take w type f.below)
      (bounds-of-row (all_but_last type.children) (record { known = but-last-unmarked mark type.children p.under; is_closed = but-last-closed 0 type.children shut }))

  -- what they say of a type of the state
  pub each-said : (type : Tree) → AreTreesOf S L (alone type) → (bs : List Tree) → Each IsBoundOf bs → Each (λ b. IsClauseOf S L (bound_said type b)) bs
  each-said type a [] e = tt
  each-said type a (b ∷ bs) e = (said-by type b b.head e.0.head a e.0.trees e.0.binder, each-said type a bs e.1)

  -- and of an object of it
  own-bound-of : (object b : Tree) (h : Head) → b.head ≡ h → AreTreesOf S L (alone object) → IsBoundOf b → Each (IsClauseOf S L) (own_bound object b)
  own-bound-of object b h is a e = subst (Each (IsClauseOf S L)) (sym (ap said is)) (of h)
    where
      said : Head → List Tree
      said x = if is_projection_bound x then record { head = clause_head_of x; children = (said_of object b).children } ∷ [] else []

      of : (h : Head) → Each (IsClauseOf S L) (said h)
      of (H.Part (P.Pred (PH.Projection i))) = (said-of-clause object b (clause_head_of (H.Part (P.Pred (PH.Projection i)))) refl refl refl a e.trees e.binder, tt)
      of _ = tt

  own-bounds-of-each : (object : Tree) → AreTreesOf S L (alone object) → (bs : List Tree) → Each IsBoundOf bs → Each (IsClauseOf S L) (flat_map (own_bound object) bs)
  own-bounds-of-each object a [] e = tt
  own-bounds-of-each object a (b ∷ bs) e = each_of_both (IsClauseOf S L) (own_bound object b) (flat_map (own_bound object) bs) (own-bound-of object b b.head refl a e.0) (own-bounds-of-each object a bs e.1)

  pub own-bounds-of : (object : Tree) → AreTreesOf S L (alone object) → (bounds : Forest) → Each IsBoundOf (each_of bounds) → Each (IsClauseOf S L) (own_bounds object bounds)
  own-bounds-of object a bounds e = own-bounds-of-each object a (each_of bounds) e
