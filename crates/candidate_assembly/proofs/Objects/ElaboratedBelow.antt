-- What clauses imply mentions the variables that these do: what is declared mentions none.
use Rattle.std.proofs.Common.{◌≡◌, ◌==◌, ℕ, Bool, true, false, Option, Some, None, List, [], ◌∷◌, ◌++◌, All, map, refl}
use Rattle.std.specs.Prelude.{IfSome, if◌then◌else◌}
use Rattle.std.proofs.lemmas.List.Elements.{All-cons, All-head, All-nil, All-tail}
use Rattle.ir_trees.specs.declared.ir.heads.Builtin.TheVariants as B
use Rattle.ir_trees.specs.declared.ir.heads.ClauseHead.TheVariants as Cl
use Rattle.ir_trees.specs.declared.ir.heads.ConstHead.TheVariants as C
use Rattle.ir_trees.specs.declared.ir.heads.Head.{Head}
use Rattle.ir_trees.specs.declared.ir.heads.Head.TheVariants as H
use Rattle.ir_trees.specs.declared.ir.heads.PartHead.TheVariants as P
use Rattle.ir_trees.specs.declared.ir.kinds.BoundVar.{BoundVar}
use Rattle.ir_trees.specs.declared.ir.kinds.Clause.{Clause}
use Rattle.ir_trees.specs.declared.ir.kinds.PredicatePolarity.TheVariants as Pol
use Rattle.ir_trees.specs.declared.ir.kinds.RegionKind.TheVariants as R
use Rattle.ir_trees.specs.Declarations.Context.{Context, world}
use Rattle.ir_trees.specs.Declarations.Declaring.{trait_at}
use Rattle.ir_trees.specs.Hierarchy.Elaboration.{Elaborates, IsElaboration, ended, implied, implied_by, later, later_head, later_leaf, renumbered, step, super_clauses, supers_if, trait_of, under_binder, unlisted, variables_of}
use Rattle.ir_trees.specs.Instantiation.Folding.{leaf, substituted}
use Rattle.ir_trees.specs.Syntax.Nodes.{kind_at}
use Rattle.ir_trees.specs.Instantiation.Owned.{is_unsolved}
use Rattle.ir_trees.specs.Declarations.References.{FitsAmong}
use Rattle.ir_trees.specs.Unification.Substitutions.{alone}
use Rattle.ir_trees.specs.Hierarchy.Supers.{supers_at}
use Rattle.ir_trees.specs.Hierarchy.Supertraits.{head_trait}
use Rattle.ir_trees.specs.Syntax.Trees.{Kind, BinderKind, ClauseKind, TypeKind, Forest, none, Tree, count, holds, tree_holds}
use Rattle.ir_trees.specs.Validity.WellFormed.{IsWellFormedTable}
use Rattle.ir_trees.specs.Syntax.Words.{ClauseListFits, clause_tree}
use Rattle.ir_trees.specs.Declarations.Worlds.{TraitSort, joined, kinds_of, parameters}
use Rattle.ir_trees.proofs.Instantiation.Folding.{or-right}
use Rattle.ir_trees.proofs.Kinding.References.{fit-at}
use Rattle.ir_trees.proofs.Syntax.Rows.{kind-of}
use Rattle.candidate_eval.specs.Derivations.Mentions.{IsBelow, is_from}
use Rattle.candidate_eval.proofs.Marks.Marking.{IsUnmarked, after-unmarked, alone-unmarked, fold-unmarked, unmarked}
use Rattle.candidate_eval.proofs.Builtins.PartsFree.{put-below}
use Rattle.candidate_assembly.specs.Laws.BuiltinLaws.{nodes_fit}
use Rattle.candidate_assembly.specs.Laws.DeclaredClosed.{IsClosed, supers-closed}
use Rattle.candidate_assembly.specs.Laws.SuperLaws.{Each}
use Rattle.candidate_assembly.proofs.Objects.SuperLaws.{each_of_both, unlisted_each}
use Rattle.candidate_assembly.proofs.Objects.Elaborated.{clause-free}

-- The trait that a clause speaks of is declared.

abbrev pub IsDeclared : Context → Head → Type 0
IsDeclared c h = IfSome (trait_of h) (λ n. (ks : List Kind) × (parameters (world c) TraitSort n ≡ Some ks))

module _ (c : Context) (t : IsWellFormedTable c) where
  takes-some : (o : Option (List Kind)) (ks : List Kind) → joined (Some (BinderKind ∷ [])) (joined (Some (TypeKind ∷ [])) o) ≡ Some ks → (ps : List Kind) × (o ≡ Some ps)
  takes-some None ks e = absurd cc
  takes-some (Some ps) ks e = (ps, refl)

  fitting-declared : (h : Head) (below : Forest) → (let u : Tree = record { head = h; children = below } in FitsAmong (world c) u) → IsDeclared c h
  fitting-declared (H.Part (P.Clause (Cl.Trait i p))) below f = takes-some (parameters (world c) TraitSort i.0) (kinds_of below) f.0
  fitting-declared _ below f = tt

  pub clause-declared : (x : Clause) → IsDeclared c (clause_tree c.trees x).head
  clause-declared x = let u = clause_tree c.trees x in fitting-declared u.head u.children (fit-at (world c) c.trees (nodes_fit c t) x.0)

  -- Its super clauses mention no variable.

  later-unsolved : (k d : ℕ) (v : BoundVar) (f : BoundVar → Head) → ((w : BoundVar) → is_unsolved (f w) ≡ false) → IsUnmarked is_unsolved (later_leaf k d v f)
  later-unsolved k d v f none-is = at (v.depth == d)
    where
      at : (b : Bool) → IsUnmarked is_unsolved (if b then Some (leaf (f (later k v))) else None)
      at true = unmarked is_unsolved (f (later k v)) none none (none-is (later k v)) refl refl
      at false = tt

  heads-later : (k d : ℕ) (h : Head) → IsUnmarked is_unsolved (later_head k d h)
  heads-later k d (H.Bound v) = later-unsolved k d v H.Bound (λ w. refl)
  heads-later k d (H.Const (C.Bound v)) = later-unsolved k d v (λ x. H.Const (C.Bound x)) (λ w. refl)
  heads-later k d (H.Region (R.Bound v)) = later-unsolved k d v (λ x. H.Region (R.Bound x)) (λ w. refl)
  heads-later k d _ = tt

  renumbered-closed : (k : ℕ) (ts : Forest) → holds is_unsolved ts ≡ false → holds is_unsolved (renumbered k ts) ≡ false
  renumbered-closed k ts e = fold-unmarked (later_head k) is_unsolved is_unsolved (λ h p. p) (heads-later k) 0 ts e

  -- What a clause implies, where the trees under its binder are below n.
  module _ (n : ℕ) where
    abbrev pub IsLowUnder : Tree → Type 0
    IsLowUnder u = IsBelow n (under_binder u)

    put-in-low : (args ts : Forest) → IsBelow n args → holds is_unsolved ts ≡ false → IsBelow n (substituted args 0 ts)
    put-in-low args ts a e =
        let whole : Tree = record { head = H.Builtin B.Tuple; children = ts } in
        or-right false (holds (is_from n) (substituted args 0 ts)) (put-below n args whole a e)

    implied-low : (u : Tree) → IsLowUnder u → (xs : List Clause) → All (IsClosed c) xs → Each (λ v. IsDeclared c v.head × IsLowUnder v) (map (implied u) (map (clause_tree c.trees) xs))
    implied-low u f [] a = tt
    implied-low u f (x ∷ xs) a =
        let s = clause_tree c.trees x in
        let here : tree_holds is_unsolved s ≡ false = All-head (IsClosed c) x xs a in
        let under = after-unmarked is_unsolved s.children (or-right (is_unsolved s.head) (holds is_unsolved s.children) here) in
        let low = put-in-low (under_binder u) (renumbered (count (variables_of u)) (under_binder s)) f (renumbered-closed (count (variables_of u)) (under_binder s) under) in
        ((clause-declared x, low), implied-low u f xs (All-tail (IsClosed c) x xs a))

    abbrev Both : Tree → Type 0
    Both v = IsDeclared c v.head × IsLowUnder v

    supers-low : (u : Tree) (h : Head) → IsDeclared c h → IsLowUnder u → Each Both (map (implied u) (supers_if (super_clauses c) (head_trait h)))
    supers-low u (H.Part (P.Clause (Cl.Trait i Pol.Positive))) d f = implied-low u f (supers_at (trait_at c i.0)) (supers-closed c t i.0 d.0 d.1)
    supers-low u _ d f = tt

    walk-low : {walked left all : List Tree} → Elaborates (super_clauses c) walked left all → Each Both walked → Each Both left → Each Both all
    walk-low ended a b = a
    walk-low {walked} (step {left = left} {t = u} e) a b =
        let next = implied_by (super_clauses c) u in
        let more = unlisted_each Both (walked ++ u ∷ left) next (supers-low u u.head b.0.0 b.0.1) in
        walk-low e (each_of_both Both walked (u ∷ []) a (b.0, tt)) (each_of_both Both left (unlisted (walked ++ u ∷ left) next) b.1 more)

    pub elaborated-low : (start all : List Tree) → Each Both start → IsElaboration c start all → Each Both all
    elaborated-low start all f e = walk-low e tt (unlisted_each Both [] start f)

-- So clauses of a context are below n, where what stands under their binders is.
pub clauses-low : (c : Context) → IsWellFormedTable c → (n : ℕ) (xs : List Clause) → ClauseListFits c.trees xs → Each (λ u. IsBelow n (under_binder u)) (map (clause_tree c.trees) xs) → All (λ x. IsBelow n (alone (clause_tree c.trees x))) xs
clauses-low c t n [] k f = All-nil (λ x. IsBelow n (alone (clause_tree c.trees x)))
clauses-low c t n (x ∷ xs) k f =
    let here : kind_at c.trees x.0 ≡ ClauseKind = cc in
    let others : ClauseListFits c.trees xs = cc in
    let u = clause_tree c.trees x in
    let now = clause-free (is_from n) (λ p. refl) (world c) u.head u.children (kind-of c.trees x.0 ClauseKind refl here) (fit-at (world c) c.trees (nodes_fit c t) x.0, f.0) in
    All-cons (λ x. IsBelow n (alone (clause_tree c.trees x))) x xs (alone-unmarked (is_from n) u now) (clauses-low c t n xs others f.1)
