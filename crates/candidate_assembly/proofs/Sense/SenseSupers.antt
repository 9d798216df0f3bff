-- The supertraits of a `dyn` type of a state, whose bounds take the children that they have: clauses of the state.
use Rattle.std.proofs.Common.{◌≡◌, ◌+◌, ◌++◌, ℕ, Bool, true, false, Option, Some, None, List, [], ◌∷◌, map, refl, sym, ap, subst, arith}
use Rattle.std.specs.List.{All, filter}
use Rattle.std.specs.Prelude.{IfSome}
use Rattle.std.proofs.lemmas.List.Elements.{All-head, All-nil, All-tail}
use Rattle.ir_trees.specs.declared.ir.heads.Head.{Head}
use Rattle.ir_trees.specs.declared.ir.heads.Head.TheVariants as H
use Rattle.ir_trees.specs.declared.ir.heads.ListHead.{ListHead}
use Rattle.ir_trees.specs.declared.ir.heads.ListHead.TheVariants as LH
use Rattle.ir_trees.specs.declared.ir.heads.PartHead.TheVariants as P
use Rattle.ir_trees.specs.declared.ir.heads.PredHead.TheVariants as PH
use Rattle.ir_trees.specs.declared.ir.heads.VariableSort.{VariableSort}
use Rattle.ir_trees.specs.declared.ir.heads.VariableSort.TheVariants as V
use Rattle.ir_trees.specs.declared.ir.kinds.Clause.{Clause}
use Rattle.ir_trees.specs.Syntax.Binders.{escapes, is_beyond}
use Rattle.ir_trees.specs.Declarations.Contents.{TraitContents}
use Rattle.ir_trees.specs.Declarations.Context.{Context, world}
use Rattle.ir_trees.specs.Declarations.Declaring.{trait_at}
use Rattle.ir_trees.specs.Declarations.References.{FitsAmong}
use Rattle.ir_trees.specs.Declarations.Worlds.{AssociatedTypeSort, Fits, TraitSort, World, child_kinds, clause_kinds, joined, kinds_of, parameters}
use Rattle.ir_trees.specs.Hierarchy.Elaboration.{AreSupertraits, Elaborates, IsElaboration, ended, first_children, implied, implied_by, is_there, renumbered, step, super_clauses, supers_if, trait_of, under_binder, unlisted, variables_of}
use Rattle.ir_trees.specs.Hierarchy.Supers.{after_first, supers_at}
use Rattle.ir_trees.specs.Hierarchy.Supertraits.{head_trait}
use Rattle.ir_trees.specs.Instantiation.Folding.{substituted}
use Rattle.ir_trees.specs.Unification.Substitutions.{alone}
use Rattle.ir_trees.specs.Syntax.Nodes.{kind_at}
use Rattle.ir_trees.specs.Syntax.Trees.{BinderKind, ClauseKind, Forest, Kind, PredicateKind, Tree, binders_of, count, holds, join, kind_of, list_kind, none, sort_kind, tree, TypeKind}
use Rattle.ir_trees.specs.Validity.WellFormed.{IsWellFormedTable}
use Rattle.ir_trees.specs.Syntax.Words.{ClauseListFits, clause_tree}
use Rattle.ir_trees.proofs.Kinding.References.{fit-at}
use Rattle.ir_trees.proofs.Syntax.Rows.{kind-of}
use Rattle.candidate_eval.specs.Builtins.Callable.{all_but_last}
use Rattle.candidate_eval.specs.Dynamic.Required.{each_of}
use Rattle.candidate_eval.specs.Judges.Soundness.{AreTreesOf, Live, is_strange}
use Rattle.candidate_eval.specs.Judges.States.{State}
use Rattle.candidate_eval.proofs.Marks.Closed.{after-closed, closed, closed-on, closed-parts}
use Rattle.candidate_eval.proofs.Marks.Holds.{holds_parts}
use Rattle.candidate_eval.proofs.Marks.Marking.{after-unmarked, but-last-unmarked, unmarked}
use Rattle.candidate_assembly.specs.Laws.BuiltinLaws.{nodes_fit}
use Rattle.candidate_assembly.specs.Laws.Given.{IsCounted, all_is_given}
use Rattle.candidate_assembly.proofs.Objects.ObjectLaws.{are_predicates, dynamic_bounds, no_list, no_variable}
use Rattle.candidate_assembly.specs.Laws.SuperLaws.{Each, TakeTheirs}
use Rattle.candidate_assembly.proofs.Objects.SuperLaws.{bounds_take, each_of_both, filtered_each, unlisted_each}
use Rattle.candidate_assembly.specs.Rules.DynBounds.{ArePrincipalSupers, AreSupersOf, bound_said, bounds_in, clause_head_by, first_listed, is_dynamic, is_principal, principal_in}
use Rattle.candidate_assembly.proofs.Refusals.KnownHeaders.{filled-unmarked}
use Rattle.candidate_assembly.proofs.Sense.Sense.{join-closed, join-unmarked}
use Rattle.candidate_assembly.proofs.Sense.SenseDeclared.{ClauseIsBareToo, IsBare, trait-bare}
use Rattle.candidate_assembly.proofs.Sense.SenseKinds.{declared-trees}
use Rattle.candidate_assembly.proofs.Sense.SenseParts.{AreUnderOne, below-head, but-last-closed}
use Rattle.candidate_assembly.proofs.Sense.SenseShifts.{put-closed, renumbered-closed, renumbered-known}

-- What stands first among the children of a clause or a bound binds nothing itself: it is the binder's row of variables.

abbrev pub StartsPlain : Forest → Type 0
StartsPlain none = Unit {0}
StartsPlain (tree h below rest) = binders_of h ≡ 0

binder-plain : (h : Head) → BinderKind ≡ kind_of h → binders_of h ≡ 0
binder-plain (H.Part P.Vars) e = refl
binder-plain (H.Part P.Sig) e = absurd cc
binder-plain (H.Part (P.Clause c)) e = absurd cc
binder-plain (H.Part (P.Pred p)) e = absurd cc
binder-plain (H.Part (P.Var k)) e = refl
binder-plain (H.Infer v) e = refl
binder-plain (H.Const x) e = refl
binder-plain (H.Region r) e = refl
binder-plain (H.List l) e = refl
binder-plain _ e = absurd cc

starts-plain : (o : Option (List Kind)) (below : Forest) → joined (Some (BinderKind ∷ [])) o ≡ Some (kinds_of below) → StartsPlain below
starts-plain None below e = absurd cc
starts-plain (Some ks) none e = tt
starts-plain (Some ks) (tree h below rest) e = let here : BinderKind ≡ kind_of h = cc in binder-plain h here

first-closed : (n : ℕ) (ts : Forest) → StartsPlain ts → escapes n ts ≡ false → escapes n (first_children ts) ≡ false
first-closed n none s e = refl
first-closed n (tree h below rest) s e = subst (λ m. escapes m below ≡ false) (same (binders_of h) s) (closed-parts n h below rest e).under
  where
    same : (b : ℕ) → b ≡ 0 → n + b ≡ n
    same b z = omega (arith, z)

first-known : (mark : Head → Bool) (ts : Forest) → holds mark ts ≡ false → holds mark (first_children ts) ≡ false
first-known mark none e = refl
first-known mark (tree h below rest) e = (holds_parts mark h below rest e).under

-- A clause: it binds, and its children start with its variables.
pub record IsClauseShaped (t : Tree) : Type 0 where
  pub binds : binders_of t.head ≡ 1
  pub plain : StartsPlain t.children

clause-shaped : (w : World) (h : Head) (below : Forest) → kind_of h ≡ ClauseKind → (let u : Tree = record { head = h; children = below } in FitsAmong w u) → IsClauseShaped (record { head = h; children = below })
clause-shaped w (H.Part (P.Clause x)) below k f = record { binds = refl; plain = starts-plain (clause_kinds w x) below f.0 }
clause-shaped w (H.Part (P.Pred p)) below k f = absurd cc
clause-shaped w (H.Part P.Sig) below k f = absurd cc
clause-shaped w (H.Part P.Vars) below k f = absurd cc
clause-shaped w (H.Part (P.Var i)) below k f = absurd cc
clause-shaped w (H.Infer v) below k f = absurd (of v.sort k)
  where
    of : (s : VariableSort) → sort_kind s ≡ ClauseKind → ⊥
    of V.Constant e = absurd cc
    of V.General e = absurd cc
    of V.Integer e = absurd cc
    of V.Floating e = absurd cc
clause-shaped w (H.List l) below k f = absurd (of l k)
  where
    of : (l : ListHead) → list_kind l ≡ ClauseKind → ⊥
    of LH.Args e = absurd cc
    of LH.Preds e = absurd cc
    of LH.Clauses e = absurd cc
clause-shaped w _ below k f = absurd cc

-- A clause of the state, and the variables of its binder.
pub record IsClauseOf (S : State) (L : Live) (t : Tree) : Type 0 where
  pub tree : AreTreesOf S L (alone t)
  pub variables : escapes 1 (variables_of t) ≡ false

-- A bound of the state, which takes the children that it has.
pub record IsBoundOf (S : State) (L : Live) (t : Tree) : Type 0 where
  pub tree : AreTreesOf S L (alone t)
  pub is_bound : kind_of t.head ≡ PredicateKind
  pub plain : StartsPlain t.children

module _ (S : State) (L : Live) where
  under-clause : (t : Tree) → AreTreesOf S L (alone t) → AreUnderOne S L (under_binder t)
  under-clause t a =
      let b = below-head S L t a in
      record { known = after-unmarked (is_strange S L) t.children b.known; is_closed = after-closed 1 t.children b.is_closed }

  variables-known : (t : Tree) → AreTreesOf S L (alone t) → holds (is_strange S L) (variables_of t) ≡ false
  variables-known t a = first-known (is_strange S L) t.children (below-head S L t a).known

  -- what a super clause says of a clause
  implied-of : (u s : Tree) → IsClauseOf S L u → IsBare s → IsClauseShaped s → IsClauseOf S L (implied u s)
  implied-of u s a b shape =
      let mark = is_strange S L in
      let n = count (variables_of u) in
      let args = under_clause u a in
      let d = declared-trees S L (alone s) b.bare b.is_closed in
      let p = holds_parts mark s.head s.children none d.known in
      let q = closed-parts 0 s.head s.children none d.is_closed in
      let below = below-head S L s d in
      let row = after_first s.children in
      let joint = join (variables_of u) (variables_of s) in
      let more = substituted (under_binder u) 0 (renumbered n (under_binder s)) in
      let vars-known : holds mark joint ≡ false = join-unmarked mark (variables_of u) (variables_of s) (variables-known u a.tree) (first-known mark s.children below.known) in
      let vars-closed : escapes 1 joint ≡ false = join-closed 1 (variables_of u) (variables_of s) a.variables (first-closed 1 s.children shape.plain below.is_closed) in
      let late : escapes 1 (renumbered n row) ≡ false = renumbered-closed n 1 0 row (after-closed 1 s.children below.is_closed) in
      let low : escapes (1 + 0) (renumbered n row) ≡ false = late in
      let filled-closed : escapes (1 + 0) more ≡ false = put-closed (under_binder u) 1 args.is_closed 0 (renumbered n row) low in
      let filled-known : holds mark more ≡ false =
      filled-unmarked mark refl (λ v. refl) (λ v. refl) (λ v. refl) (under_binder u) args.known mark (λ h x. x) (renumbered n row) (renumbered-known S L n row (after-unmarked mark s.children below.known)) in
      let v = H.Part P.Vars in
      let children = tree v joint more in
      let all-closed : escapes 1 children ≡ false = closed 1 v joint more refl vars-closed filled-closed in
      record {
        tree = record {
          known = unmarked mark s.head children none p.here (unmarked mark v joint more refl vars-known filled-known) refl;
          is_closed = closed 0 s.head children none q.here (subst (λ m. escapes m children ≡ false) (sym (ap (λ m. 0 + m) shape.binds)) all-closed) refl;
        };
        variables = vars-closed;
      }
    where
      under_clause : (t : Tree) → IsClauseOf S L t → AreUnderOne S L (under_binder t)
      under_clause t x = under-clause t x.tree

  module _ (c : Context) (w : IsWellFormedTable c) (few : IsCounted c) where
    abbrev IsOf : Tree → Type 0
    IsOf t = IsClauseOf S L t

    all-implied : (u : Tree) → IsOf u → (xs : List Clause) → ClauseListFits c.trees xs → All (ClauseIsBareToo c w) xs → Each IsOf (map (implied u) (map (clause_tree c.trees) xs))
    all-implied u a [] k b = tt
    all-implied u a (x ∷ xs) k b =
        let s = clause_tree c.trees x in
        let here : kind_at c.trees x.0 ≡ ClauseKind = cc in
        let others : ClauseListFits c.trees xs = cc in
        let shape = clause-shaped (world c) s.head s.children (kind-of c.trees x.0 ClauseKind refl here) (fit-at (world c) c.trees (nodes_fit c w) x.0) in
        (implied-of u s a (All-head (ClauseIsBareToo c w) x xs b) shape, all-implied u a xs others (All-tail (ClauseIsBareToo c w) x xs b))

    supers-bare : (n : ℕ) → All (ClauseIsBareToo c w) (supers_at (trait_at c n))
    supers-bare n = of (trait_at c n) refl
      where
        of : (o : Option TraitContents) → trait_at c n ≡ o → All (ClauseIsBareToo c w) (supers_at o)
        of None e = All-nil (ClauseIsBareToo c w)
        of (Some a) e = (trait-bare c w few.traits n a e).supers

    by-trait : (u : Tree) (o : Option ℕ) → IsOf u → Each IsOf (map (implied u) (supers_if (super_clauses c) o))
    by-trait u None a = tt
    by-trait u (Some n) a = all-implied u a (supers_at (trait_at c n)) ((all_is_given c w few).traits n).supers (supers-bare n)

    walk-of : {walked left all : List Tree} → Elaborates (super_clauses c) walked left all → Each IsOf walked → Each IsOf left → Each IsOf all
    walk-of ended a b = a
    walk-of {walked} (step {left = left} {t = u} e) a b =
        let next = implied_by (super_clauses c) u in
        let more = unlisted_each IsOf (walked ++ u ∷ left) next (by-trait u (head_trait u.head) b.0) in
        walk-of e (each_of_both IsOf walked (u ∷ []) a (b.0, tt)) (each_of_both IsOf left (unlisted (walked ++ u ∷ left) next) b.1 more)

    pub elaborated-of : (start all : List Tree) → Each IsOf start → IsElaboration c start all → Each IsOf all
    elaborated-of start all f e = walk-of e tt (unlisted_each IsOf [] start f)

    supertraits-of : (u : Tree) (ts : List Tree) → IsOf u → AreSupertraits c u ts → Each IsOf ts
    supertraits-of u ts a s = subst (Each IsOf) (sym s.are) (filtered_each IsOf (λ t. is_there (trait_of t.head)) s.all (elaborated-of (u ∷ []) s.all (a, tt) s.elaborated))

  -- Bounds.

  -- what a bound says of a type, by the bound's head
  record SaysAClause (h : Head) : Type 0 where
    pub bound : binders_of h ≡ 1
    pub clause : binders_of (clause_head_by h) ≡ 1
    pub known : is_strange S L (clause_head_by h) ≡ false
    pub is_closed : is_beyond 0 (clause_head_by h) ≡ false

  says-a-clause : (h : Head) → kind_of h ≡ PredicateKind → SaysAClause h
  says-a-clause (H.Part (P.Pred (PH.Trait i))) e = record { bound = refl; clause = refl; known = refl; is_closed = refl }
  says-a-clause (H.Part (P.Pred (PH.Projection i))) e = record { bound = refl; clause = refl; known = refl; is_closed = refl }
  says-a-clause (H.Part (P.Pred (PH.AutoTrait i))) e = record { bound = refl; clause = refl; known = refl; is_closed = refl }
  says-a-clause (H.Part P.Sig) e = absurd cc
  says-a-clause (H.Part P.Vars) e = absurd cc
  says-a-clause (H.Part (P.Var k)) e = absurd cc
  says-a-clause (H.Part (P.Clause x)) e = absurd cc
  says-a-clause (H.Infer v) e = absurd (no_variable v.sort e)
  says-a-clause (H.List l) e = absurd (no_list l e)
  says-a-clause _ e = absurd cc

  pub said-of : (type b : Tree) → AreTreesOf S L (alone type) → IsBoundOf S L b → IsClauseOf S L (bound_said type b)
  said-of type b a x =
      let mark = is_strange S L in
      let says = says-a-clause b.head x.is_bound in
      let below = below-head S L b x.tree in
      let v = H.Part P.Vars in
      let vars = first_children b.children in
      let rest = after_first b.children in
      let row = tree type.head type.children rest in
      let h = clause_head_by b.head in
      let p = holds_parts mark type.head type.children none a.known in
      let q = closed-parts 1 type.head type.children none (closed-on 0 1 (alone type) (omega arith) a.is_closed) in
      let vars-closed = first-closed 1 b.children x.plain below.is_closed in
      let row-known = unmarked mark type.head type.children rest p.here p.under (after-unmarked mark b.children below.known) in
      let row-closed = closed 1 type.head type.children rest q.here q.under (after-closed 1 b.children below.is_closed) in
      let children = tree v vars row in
      let all-closed : escapes 1 children ≡ false = closed 1 v vars row refl vars-closed row-closed in
      record {
        tree = record {
          known = unmarked mark h children none says.known (unmarked mark v vars row refl (first-known mark b.children below.known) row-known) refl;
          is_closed = closed 0 h children none says.is_closed (subst (λ m. escapes m children ≡ false) (sym (ap (λ m. 0 + m) says.clause)) all-closed) refl;
        };
        variables = vars-closed;
      }

  bound-plain : (w : World) (h : Head) (below : Forest) → kind_of h ≡ PredicateKind → child_kinds w h (kinds_of below) ≡ Some (kinds_of below) → StartsPlain below
  bound-plain w (H.Part (P.Pred (PH.Trait i))) below k e = starts-plain (parameters w TraitSort i.0) below e
  bound-plain w (H.Part (P.Pred (PH.Projection i))) below k e = starts-plain (joined (parameters w AssociatedTypeSort i.0) (Some (TypeKind ∷ []))) below e
  bound-plain w (H.Part (P.Pred (PH.AutoTrait i))) below k e = starts-plain (parameters w TraitSort i.0) below e
  bound-plain w (H.Part P.Sig) below k e = absurd cc
  bound-plain w (H.Part P.Vars) below k e = absurd cc
  bound-plain w (H.Part (P.Var i)) below k e = absurd cc
  bound-plain w (H.Part (P.Clause x)) below k e = absurd cc
  bound-plain w (H.Infer v) below k e = absurd (no_variable v.sort k)
  bound-plain w (H.List l) below k e = absurd (no_list l k)
  bound-plain w _ below k e = absurd cc

  each-bound : (w : World) (ts : Forest) → AreTreesOf S L ts → Each (λ t. kind_of t.head ≡ PredicateKind) (each_of ts) → TakeTheirs w (each_of ts) → Each (IsBoundOf S L) (each_of ts)
  each-bound w none a k f = tt
  each-bound w (tree h below rest) a k f =
      let p = holds_parts (is_strange S L) h below rest a.known in
      let q = closed-parts 0 h below rest a.is_closed in
      let here : AreTreesOf S L (tree h below none) = record { known = unmarked (is_strange S L) h below none p.here p.under refl; is_closed = closed 0 h below none q.here q.under refl } in
      (record { tree = here; is_bound = k.0; plain = bound-plain w h below k.0 f.0 }, each-bound w rest (record { known = p.others; is_closed = q.others }) k.1 f.1)

  -- The bounds of a `dyn` type that fits.
  pub bounds-are : (w : World) (t : Tree) → is_dynamic t.head ≡ true → Fits w (alone t) → AreTreesOf S L t.children → Each (IsBoundOf S L) (bounds_in t)
  bounds-are w t d f a =
      let ts = all_but_last t.children in
      each-bound w ts (record { known = but-last-unmarked (is_strange S L) t.children a.known; is_closed = but-last-closed 0 t.children a.is_closed })
      (are_predicates t.children (dynamic_bounds w t.head (kinds_of t.children) d f.0)) (bounds_take w t f.1)

  -- and the supertraits of its principal
  module _ (c : Context) (w : IsWellFormedTable c) (few : IsCounted c) where
    first-of-each : (P : Tree → Type 0) (ts : List Tree) → Each P ts → IfSome (first_listed ts) P
    first-of-each P [] a = tt
    first-of-each P (t ∷ ts) a = a.0

    supers-said : (type : Tree) (o : Option Tree) (ts : List Tree) → AreTreesOf S L (alone type) → IfSome o (IsBoundOf S L) → AreSupersOf c type o ts → Each (IsClauseOf S L) ts
    supers-said type None ts a b s = subst (Each (IsClauseOf S L)) (sym s) tt
    supers-said type (Some p) ts a b s = supertraits-of c w few (bound_said type p) ts (said-of type p a b) s

    pub principal-supers-of : (type : Tree) (ts : List Tree) → AreTreesOf S L (alone type) → Each (IsBoundOf S L) (bounds_in type) → ArePrincipalSupers c type ts → Each (IsClauseOf S L) ts
    principal-supers-of type ts a bs s =
        supers-said type (principal_in type) ts a
        (first-of-each (IsBoundOf S L) (filter (λ b. is_principal b.head) (bounds_in type)) (filtered_each (IsBoundOf S L) (λ b. is_principal b.head) (bounds_in type) bs)) s
