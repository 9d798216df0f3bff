-- Folds that number variables anew.
use Rattle.std.proofs.Common.{◌≡◌, ℕ, ◌+◌, List, Some, None, refl, sym, ◌∙◌, ap}
use Rattle.std.specs.Option.{unwrap_or}
use Rattle.ir_trees.specs.declared.ir.kinds.GenericArg.{GenericArg}
use Rattle.ir_trees.specs.declared.ir.kinds.RegionKind.{RegionKind}
use Rattle.ir_trees.specs.declared.ir.kinds.RegionKind.TheVariants as R
use Rattle.ir_trees.specs.declared.ir.heads.Head.{Head}
use Rattle.ir_trees.specs.declared.ir.heads.Head.TheVariants as H
use Rattle.ir_trees.specs.Instantiation.Folding.{Answers, fold, fold_tree}
use Rattle.ir_trees.specs.Instantiation.Folds.{IsArg, IsOfKind, arg_tree, node}
use Rattle.ir_trees.specs.Syntax.Kinds.{arg_kind, arg_number}
use Rattle.ir_trees.specs.Unification.Substitutions.{alone}
use Rattle.ir_trees.specs.Syntax.Trees.{Forest, none, tree, Tree, binders_of, kind_of, variable_number}
use Rattle.ir_trees.proofs.Instantiation.Folding.{begin}
use Rattle.ir_trees.proofs.Syntax.Rows.{kind-of}
use Rattle.candidate_eval.specs.declared.eval.variable.VariableKind.{VariableKind}
use Rattle.candidate_eval.specs.declared.eval.variable.VariableKind.TheVariants.{Term, Region}
use Rattle.candidate_eval.specs.Judges.Instances.{instance}
use Rattle.candidate_eval.specs.Judges.States.{valued, variable}
use Rattle.candidate_rounds.specs.Calls.Gathered.{renumbered_at}
use Rattle.rounds_judge.specs.Obligations.Responding.{place_of, renumbered, renumbered_regions, renumbered_tree, renumbering}
use Rattle.candidate_rounds.proofs.Snapshots.Knowing.{there-arg}
use Rattle.rounds_judge.proofs.States.Marks.{same_depth, valued_node}

-- What a fold with these answers comes to.

module _ (ns : List ℕ) where
  abbrev pub answers : Answers
  answers d t = renumbered_at ns t

  at-node : (d : ℕ) (h : Head) (below rest : Forest) → fold answers (d + binders_of h) below ≡ renumbered ns below → fold answers d rest ≡ renumbered ns rest
      → fold answers d (tree h below rest) ≡ renumbered ns (tree h below rest)
  at-node d h below rest b r = ap (begin (unwrap_or (renumbered_at ns (node h below)) (record { head = h; children = fold answers (d + binders_of h) below }))) r ∙ (here h b ∙ sym (ap (renumbered_regions ns) (valued_node (instance (renumbering ns)) h below rest)))
    where
      -- a head that stays
      stays : (g : Head) → fold answers (d + binders_of h) below ≡ renumbered ns below → tree g (fold answers (d + binders_of h) below) (renumbered ns rest) ≡ tree g (renumbered ns below) (renumbered ns rest)
      stays g b = ap (λ c. tree g c (renumbered ns rest)) b

      here : (g : Head) → fold answers (d + binders_of h) below ≡ renumbered ns below
          → begin (unwrap_or (renumbered_at ns (node g below)) (record { head = g; children = fold answers (d + binders_of h) below })) (renumbered ns rest)
          ≡ renumbered_regions ns (begin (unwrap_or (instance (renumbering ns) g) (record { head = g; children = valued (instance (renumbering ns)) below })) (valued (instance (renumbering ns)) rest))
      here (H.Infer v) b = refl
      here (H.Region r) b = at r
        where
          at : (r : RegionKind) → begin (unwrap_or (renumbered_at ns (node (H.Region r) below)) (record { head = H.Region r; children = fold answers (d + binders_of h) below })) (renumbered ns rest)
              ≡ renumbered_regions ns (begin (unwrap_or (instance (renumbering ns) (H.Region r)) (record { head = H.Region r; children = valued (instance (renumbering ns)) below })) (valued (instance (renumbering ns)) rest))
          at (R.Var n) = refl
          at _ = stays _ b
      here _ b = stays _ b

  pub fold-is : (d : ℕ) (ts : Forest) → fold answers d ts ≡ renumbered ns ts
  fold-is d none = refl
  fold-is d (tree h below rest) = at-node d h below rest (fold-is (d + binders_of h) below) (fold-is d rest)

  abbrev pub first : Tree → Forest → Tree
  first t none = t
  first t (tree h below rest) = node h below

  pub fold-tree-is : (t : Tree) → fold_tree answers 0 t ≡ renumbered_tree ns t
  fold-tree-is t = ap (first t) (fold-is 0 (alone t) ∙ ap (renumbered_regions ns) (valued_node (instance (renumbering ns)) t.head t.children none)) ∙ one
    where
      one : first t (renumbered_regions ns (begin (unwrap_or (instance (renumbering ns) t.head) (record { head = t.head; children = valued (instance (renumbering ns)) t.children })) none)) ≡ renumbered_tree ns t
      one =
          ap (λ c. first t (renumbered_regions ns (begin (unwrap_or (instance (renumbering ns) t.head) (record { head = t.head; children = c })) none)))
          (same_depth (instance (renumbering ns)) 0 (0 + binders_of t.head) t.children)

  -- one tree, in a row and alone
  pub alone-is : (t : Tree) → renumbered ns (alone t) ≡ alone (renumbered_tree ns t)
  alone-is t = sym (fold-is 0 (alone t)) ∙ ap alone (fold-tree-is t)

  -- What is no variable stays, and a variable is another one.

  pub no-variable : (t : Tree) → variable_number t.head ≡ None → renumbered_at ns t ≡ None
  no-variable t e = at t.head e
    where
      region : (r : RegionKind) → variable_number (H.Region r) ≡ None → renumbered_at ns (record { head = H.Region r; children = t.children }) ≡ None
      region (R.Var n) e = cc
      region _ e = refl

      at : (h : Head) → variable_number h ≡ None → renumbered_at ns (record { head = h; children = t.children }) ≡ None
      at (H.Infer v) e = cc
      at (H.Region r) e = region r e
      at _ e = refl

  pub variable-anew : (k : VariableKind) (n : ℕ) → renumbered_at ns (variable k n) ≡ Some (variable k (place_of ns n))
  variable-anew (Term s) n = refl
  variable-anew Region n = refl

-- it is of the same kind
variable-kind : (k : VariableKind) (m n : ℕ) → kind_of (variable k m).head ≡ kind_of (variable k n).head
variable-kind (Term s) m n = refl
variable-kind Region m n = refl

pub same-kind : (ts us : List Tree) (x y : GenericArg) → IsArg ts x → IsArg us y → kind_of (arg_tree us y).head ≡ kind_of (arg_tree ts x).head → IsOfKind us x (Some y)
same-kind ts us x y i j e = (j, sym (kind-of us (arg_number y) (arg_kind y) (there-arg y) j) ∙ (e ∙ kind-of ts (arg_number x) (arg_kind x) (there-arg x) i))

pub anew-kind : (ts us : List Tree) (x y : GenericArg) (k : VariableKind) (m n : ℕ) → IsArg ts x → arg_tree ts x ≡ variable k m → IsArg us y → arg_tree us y ≡ variable k n → IsOfKind us x (Some y)
anew-kind ts us x y k m n i e j f = same-kind ts us x y i j (ap (λ (t : Tree). kind_of t.head) f ∙ (variable-kind k n m ∙ ap (λ (t : Tree). kind_of t.head) (sym e)))
