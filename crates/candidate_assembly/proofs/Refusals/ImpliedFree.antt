-- No parameter stands in what clauses imply, where none stands in them.
use Rattle.std.proofs.Common.{◌≡◌, false, refl, Option, Some, None, List, [], ◌∷◌, ◌++◌, map}
use Rattle.std.specs.Prelude.{IfSome, ℕ}
use Rattle.ir_trees.specs.declared.ir.heads.Head.{Head}
use Rattle.ir_trees.specs.declared.ir.heads.Head.TheVariants as H
use Rattle.ir_trees.specs.declared.ir.heads.ListHead.{ListHead}
use Rattle.ir_trees.specs.declared.ir.heads.ListHead.TheVariants as LH
use Rattle.ir_trees.specs.declared.ir.heads.VariableSort.{VariableSort}
use Rattle.ir_trees.specs.declared.ir.heads.VariableSort.TheVariants as VS
use Rattle.ir_trees.specs.declared.ir.kinds.Clause.{Clause}
use Rattle.ir_trees.specs.Declarations.Context.{Context, world}
use Rattle.ir_trees.specs.Declarations.Declaring.{trait_at}
use Rattle.ir_trees.specs.Hierarchy.Elaboration.{Elaborates, IsElaboration, ended, implied, implied_by, step, super_clauses, supers_if, unlisted}
use Rattle.ir_trees.specs.Syntax.Nodes.{kind_at}
use Rattle.ir_trees.specs.Hierarchy.Supers.{supers_at}
use Rattle.ir_trees.specs.Hierarchy.Supertraits.{head_trait}
use Rattle.ir_trees.specs.Syntax.Trees.{ClauseKind, Tree, holds, is_param, kind_of, list_kind, sort_kind, tree_holds}
use Rattle.ir_trees.specs.Validity.WellFormed.{IsWellFormedTable}
use Rattle.ir_trees.specs.Syntax.Words.{ClauseListFits, clause_tree}
use Rattle.ir_context.proofs.Instantiation.Owned.{or-none}
use Rattle.ir_trees.proofs.Kinding.References.{fit-at}
use Rattle.ir_trees.proofs.Syntax.Rows.{kind-of}
use Rattle.candidate_assembly.specs.Laws.BuiltinLaws.{nodes_fit}
use Rattle.candidate_assembly.specs.Laws.Given.{TraitIsGiven}
use Rattle.candidate_assembly.specs.Laws.SuperLaws.{Each, NamesGiven}
use Rattle.candidate_assembly.proofs.Objects.SuperLaws.{declared_name, each_of_both, unlisted_each}
use Rattle.candidate_assembly.proofs.Objects.ObjectPlain.{Free, children-free, head-vars, held, implied-free}

-- a clause is no parameter

no-sort : (s : VariableSort) → sort_kind s ≡ ClauseKind → ⊥
no-sort VS.Constant e = absurd cc
no-sort _ e = absurd cc

no-list : (l : ListHead) → list_kind l ≡ ClauseKind → ⊥
no-list LH.Args e = absurd cc
no-list LH.Preds e = absurd cc
no-list LH.Clauses e = absurd cc

clause-is-none : (h : Head) → kind_of h ≡ ClauseKind → is_param h ≡ false
clause-is-none (H.Part p) e = refl
clause-is-none (H.Infer v) e = absurd (no-sort v.sort e)
clause-is-none (H.List l) e = absurd (no-list l e)
clause-is-none _ e = absurd cc

-- no parameter stands in the tree
abbrev pub HasNone : Tree → Type 0
HasNone u = tree_holds is_param u ≡ false

module _ (c : Context) (t : IsWellFormedTable c) where
  -- its trait is given, and no parameter stands in it
  abbrev Good : Tree → Type 0
  Good u = NamesGiven c u.head × HasNone u

  each-implied : (u : Tree) (xs : List Clause) → Free u → ClauseListFits c.trees xs → Each Good (map (implied u) (map (clause_tree c.trees) xs))
  each-implied u [] e f = tt
  each-implied u (x ∷ xs) e f =
      let here : kind_at c.trees x.0 ≡ ClauseKind = cc in
      let others : ClauseListFits c.trees xs = cc in
      let s = clause_tree c.trees x in
      let kind = kind-of c.trees x.0 ClauseKind refl here in
      let vars = head-vars (world c) s.head s.children kind (fit-at (world c) c.trees (nodes_fit c t) x.0) in
      (((declared_name c t (x ∷ xs)).0, or-none (is_param s.head) (holds is_param (implied u s).children) (clause-is-none s.head kind) (implied-free u s e vars)), each-implied u xs e others)

  by-trait : (u : Tree) (o : Option ℕ) → Free u → IfSome o (TraitIsGiven c) → Each Good (map (implied u) (supers_if (super_clauses c) o))
  by-trait u None e f = tt
  by-trait u (Some n) e f = each-implied u (supers_at (trait_at c n)) e f.supers

  walk-good : {walked left all : List Tree} → Elaborates (super_clauses c) walked left all → Each Good walked → Each Good left → Each Good all
  walk-good ended a b = a
  walk-good {walked} (step {left = left} {t = u} e) a b =
      let next = implied_by (super_clauses c) u in
      let more = by-trait u (head_trait u.head) (children-free u b.0.1) (held c u.head b.0.0) in
      walk-good e (each_of_both Good walked (u ∷ []) a (b.0, tt)) (each_of_both Good left (unlisted (walked ++ u ∷ left) next) b.1 (unlisted_each Good (walked ++ u ∷ left) next more))

  each-none : (us : List Tree) → Each Good us → Each HasNone us
  each-none [] a = tt
  each-none (u ∷ us) a = (a.0.1, each-none us a.1)

  pub all-free : (u : Tree) (all : List Tree) → NamesGiven c u.head → HasNone u → IsElaboration c (u ∷ []) all → Each HasNone all
  all-free u all given free e = each-none all (walk-good e tt (unlisted_each Good [] (u ∷ []) ((given, free), tt)))
