-- What may not stand in a declaration.
use Rattle.std.proofs.Common.{◌≡◌, ℕ, zero, suc, ◌+◌, ◌<◌, ◌≤◌, List, [], ◌∷◌, length, get_or, drop, add-one, Bool, true, false, IsTrue, ◌↔◌, refl, sym, ◌∙◌, ap, subst, arith}
use Rattle.std.specs.Prelude.{not, ◌||◌}
use Rattle.std.specs.List.{list_any}
use Rattle.ir_trees.proofs.Instantiation.Folding.{or-left, or-right}
use Rattle.ir_trees.specs.declared.ir.heads.Head.TheVariants as H
use Rattle.ir_trees.specs.declared.ir.heads.ListHead.{ListHead}
use Rattle.ir_trees.specs.declared.ir.kinds.VarKind.{VarKind}
use Rattle.ir_trees.specs.declared.ir.node.Node.{Node}
use Rattle.ir_trees.specs.declared.ir.node.Node.TheVariants as N
use Rattle.ir_trees.specs.declared.decl.misplaced.Misplaced.{Misplaced}
use Rattle.ir_trees.specs.declared.decl.held.HeldSort.{HeldSort}
use Rattle.ir_trees.specs.declared.decl.held.HeldSort.TheVariants as S
use Rattle.ir_trees.specs.declared.decl.held.Held.{Held}
use Rattle.ir_trees.specs.Syntax.Trees.{Kind, TypeKind, ConstantKind, RegionKind, PredicateKind, ClauseKind, SignatureKind, BinderKind, VariableKind, ArgumentsKind, PredicatesKind, ClausesKind, NoKind, Tree, kind_of}
use Rattle.ir_trees.specs.Syntax.Nodes.{kind_at, head_of}
use Rattle.ir_trees.specs.declared.ir.kinds.Args.{Args}
use Rattle.ir_trees.specs.declared.ir.kinds.Clause.{Clause}
use Rattle.ir_trees.specs.Syntax.Words.{IsArgs, IsClause}
use Rattle.ir_trees.specs.Syntax.Table.{IsNodeOf}
use Rattle.ir_trees.specs.Validity.Misplaced.{is_misplaced, is_held_kind, is_held_node, is_not_given}
use Rattle.ir_trees.proofs.Syntax.Lists.{kind_at-present, below_kind}
use Rattle.ir_trees.specs.Syntax.Trees.{there}
use Rattle.ir_trees.proofs.Growth.Sorts.{node_kind, ty_is_type, const_is_constant}

-- a list is never misplaced
pub misplaced-list : (m : Misplaced) (ks : List VarKind) (l : ListHead) → is_misplaced m ks (H.List l) ≡ false
misplaced-list m ks l = refl

-- a node is what is held exactly if its kind is
held-node : (s : HeldSort) (d : Node) → is_held_kind s (kind_of (head_of d)) ≡ is_held_node s d
held-node S.Ty (N.Ty k) = ap (is_held_kind S.Ty) (ty_is_type k)
held-node S.Ty (N.Const k) = ap (is_held_kind S.Ty) (const_is_constant k)
held-node S.Ty (N.Region _) = refl
held-node S.Ty (N.Args _) = refl
held-node S.Ty (N.Preds _) = refl
held-node S.Ty (N.Clauses _) = refl
held-node S.Ty (N.Pred _) = refl
held-node S.Ty (N.Clause _) = refl
held-node S.Ty (N.Sig _) = refl
held-node S.Ty (N.Vars _) = refl
held-node S.Ty (N.Var _) = refl
held-node S.Args (N.Ty k) = ap (is_held_kind S.Args) (ty_is_type k)
held-node S.Args (N.Const k) = ap (is_held_kind S.Args) (const_is_constant k)
held-node S.Args (N.Region _) = refl
held-node S.Args (N.Args _) = refl
held-node S.Args (N.Preds _) = refl
held-node S.Args (N.Clauses _) = refl
held-node S.Args (N.Pred _) = refl
held-node S.Args (N.Clause _) = refl
held-node S.Args (N.Sig _) = refl
held-node S.Args (N.Vars _) = refl
held-node S.Args (N.Var _) = refl
held-node S.Clause (N.Ty k) = ap (is_held_kind S.Clause) (ty_is_type k)
held-node S.Clause (N.Const k) = ap (is_held_kind S.Clause) (const_is_constant k)
held-node S.Clause (N.Region _) = refl
held-node S.Clause (N.Args _) = refl
held-node S.Clause (N.Preds _) = refl
held-node S.Clause (N.Clauses _) = refl
held-node S.Clause (N.Pred _) = refl
held-node S.Clause (N.Clause _) = refl
held-node S.Clause (N.Sig _) = refl
held-node S.Clause (N.Vars _) = refl
held-node S.Clause (N.Var _) = refl
held-node S.Vars (N.Ty k) = ap (is_held_kind S.Vars) (ty_is_type k)
held-node S.Vars (N.Const k) = ap (is_held_kind S.Vars) (const_is_constant k)
held-node S.Vars (N.Region _) = refl
held-node S.Vars (N.Args _) = refl
held-node S.Vars (N.Preds _) = refl
held-node S.Vars (N.Clauses _) = refl
held-node S.Vars (N.Pred _) = refl
held-node S.Vars (N.Clause _) = refl
held-node S.Vars (N.Sig _) = refl
held-node S.Vars (N.Vars _) = refl
held-node S.Vars (N.Var _) = refl

pub given_node : (ts : List Tree) (h : Held) (d : Node) (b : Bool) → h.number < length ts → IsNodeOf ts h.number d → b ≡ is_held_node h.sort d → not b ≡ is_not_given ts h
given_node ts h d b l is e =
    ap not (e ∙ sym (ap (is_held_kind h.sort) (node_kind ts h.number d l is) ∙ held-node h.sort d))

list-kind : (k : Kind) → IsTrue (is_held_kind S.Args k) ↔ (k ≡ ArgumentsKind)
list-kind ArgumentsKind = (λ e. refl, λ e. refl)
list-kind TypeKind = (λ e. cc, λ e. cc)
list-kind ConstantKind = (λ e. cc, λ e. cc)
list-kind RegionKind = (λ e. cc, λ e. cc)
list-kind PredicateKind = (λ e. cc, λ e. cc)
list-kind ClauseKind = (λ e. cc, λ e. cc)
list-kind SignatureKind = (λ e. cc, λ e. cc)
list-kind BinderKind = (λ e. cc, λ e. cc)
list-kind VariableKind = (λ e. cc, λ e. cc)
list-kind PredicatesKind = (λ e. cc, λ e. cc)
list-kind ClausesKind = (λ e. cc, λ e. cc)
list-kind NoKind = (λ e. cc, λ e. cc)

-- a node is a list of arguments exactly if its kind is that of one
pub list_node : (ts : List Tree) (a : Args) (d : Node) (b : Bool) → a.0 < length ts → IsNodeOf ts a.0 d → b ≡ is_held_node S.Args d → IsTrue b ↔ IsArgs ts a
list_node ts a d b l is e =
    let same : b ≡ is_held_kind S.Args (kind_at ts a.0) = e ∙ sym (ap (is_held_kind S.Args) (node_kind ts a.0 d l is) ∙ held-node S.Args d) in
    subst (λ (x : Bool). IsTrue x ↔ IsArgs ts a) (sym same) (list-kind (kind_at ts a.0))

pub past_lists : (ts : List Tree) (a : Args) → length ts ≤ a.0 → IsTrue false ↔ IsArgs ts a
past_lists ts a l = (λ e. cc, λ e. let h = below_kind ts a.0 ArgumentsKind refl e in absurd (omega (arith, h, l)))

clause-kind : (k : Kind) → IsTrue (is_held_kind S.Clause k) ↔ (k ≡ ClauseKind)
clause-kind ClauseKind = (λ e. refl, λ e. refl)
clause-kind TypeKind = (λ e. cc, λ e. cc)
clause-kind ConstantKind = (λ e. cc, λ e. cc)
clause-kind RegionKind = (λ e. cc, λ e. cc)
clause-kind PredicateKind = (λ e. cc, λ e. cc)
clause-kind ArgumentsKind = (λ e. cc, λ e. cc)
clause-kind SignatureKind = (λ e. cc, λ e. cc)
clause-kind BinderKind = (λ e. cc, λ e. cc)
clause-kind VariableKind = (λ e. cc, λ e. cc)
clause-kind PredicatesKind = (λ e. cc, λ e. cc)
clause-kind ClausesKind = (λ e. cc, λ e. cc)
clause-kind NoKind = (λ e. cc, λ e. cc)

-- the same of a clause
pub clause_node : (ts : List Tree) (c : Clause) (d : Node) (b : Bool) → c.0 < length ts → IsNodeOf ts c.0 d → b ≡ is_held_node S.Clause d → IsTrue b ↔ IsClause ts c
clause_node ts c d b l is e =
    let same : b ≡ is_held_kind S.Clause (kind_at ts c.0) = e ∙ sym (ap (is_held_kind S.Clause) (node_kind ts c.0 d l is) ∙ held-node S.Clause d) in
    subst (λ (x : Bool). IsTrue x ↔ IsClause ts c) (sym same) (clause-kind (kind_at ts c.0))

pub past_clauses : (ts : List Tree) (c : Clause) → length ts ≤ c.0 → IsTrue false ↔ IsClause ts c
past_clauses ts c l = (λ e. cc, λ e. let h = below_kind ts c.0 ClauseKind refl e in absurd (omega (arith, h, l)))

-- what is held has a node
there-held : (s : HeldSort) (k : Kind) → is_held_kind s k ≡ true → there k ≡ true
there-held S.Ty TypeKind e = refl
there-held S.Args ArgumentsKind e = refl
there-held S.Clause ClauseKind e = refl
there-held S.Vars BinderKind e = refl
there-held _ _ e = absurd cc

not-false : (b : Bool) → not b ≡ false → b ≡ true
not-false true e = refl
not-false false e = cc

pub given_below : (ts : List Tree) (h : Held) → is_not_given ts h ≡ false → h.number < length ts
given_below ts h e = kind_at-present ts h.number (there-held h.sort (kind_at ts h.number) (not-false (is_held_kind h.sort (kind_at ts h.number)) e))

pub past_given : (ts : List Tree) (h : Held) → length ts ≤ h.number → true ≡ is_not_given ts h
past_given ts h l = of (is_not_given ts h) refl
  where
    of : (b : Bool) → is_not_given ts h ≡ b → true ≡ b
    of true e = refl
    of false e = let g = given_below ts h e in absurd (omega (arith, l, g))

-- Whether some member of a list passes a test, one after the other.
pub any_there : {X : Type 0} (f : X → Bool) (xs : List X) (i : ℕ) (x : X) → i < length xs → x ≡ get_or xs i x → list_any f xs ≡ false → f x ≡ false
any_there f [] i x h e n = absurd (omega (arith, h))
any_there f (y ∷ xs) zero x h e n = ap f e ∙ or-left (f y) (list_any f xs) n
any_there f (y ∷ xs) (suc i) x h e n = any_there f xs i x (omega (arith, h)) e (or-right (f y) (list_any f xs) n)

pub any_in : {X : Type 0} (f : X → Bool) (xs : List X) (i : ℕ) (x : X) → i < length xs → x ≡ get_or xs i x → f x ≡ true → list_any f xs ≡ true
any_in f xs i x h e t = of (list_any f xs) refl
  where
    of : (b : Bool) → list_any f xs ≡ b → list_any f xs ≡ true
    of true n = n
    of false n = let g = sym t ∙ any_there f xs i x h e n in absurd cc

pub any_on : {X : Type 0} (f : X → Bool) (xs : List X) (i : ℕ) (x : X) → i < length xs → x ≡ get_or xs i x → f x ≡ false
    → list_any f xs ≡ list_any f (drop i xs) → list_any f xs ≡ list_any f (drop (i + 1) xs)
any_on {X = X} f xs i x h e n s = s ∙ step xs i h e
  where
    step : (ys : List X) (j : ℕ) → j < length ys → x ≡ get_or ys j x → list_any f (drop j ys) ≡ list_any f (drop (j + 1) ys)
    step [] j h e = absurd (omega (arith, h))
    step (y ∷ ys) zero h e = ap (λ (b : Bool). b || list_any f ys) (ap f (sym e) ∙ n)
    step (y ∷ ys) (suc j) h e = rw (← add-one) (rw add-one (step ys j (omega (arith, h)) e))

pub any_past : {X : Type 0} (f : X → Bool) (xs : List X) (i : ℕ) → length xs ≤ i → list_any f xs ≡ list_any f (drop i xs) → list_any f xs ≡ false
any_past {X = X} f xs i h s = s ∙ none xs i h
  where
    none : (ys : List X) (j : ℕ) → length ys ≤ j → list_any f (drop j ys) ≡ false
    none [] zero h = refl
    none [] (suc j) h = refl
    none (y ∷ ys) zero h = absurd (omega (arith, h))
    none (y ∷ ys) (suc j) h = none ys j (omega (arith, h))
