-- What clauses imply: no parameter stands in it where none stands in these, and it is the same in the context before.
use Rattle.std.proofs.Common.{◌≡◌, Bool, false, Option, Some, None, List, [], ◌∷◌, ◌++◌, map, refl, ap}
use Rattle.std.specs.Prelude.{◌||◌}
use Rattle.std.proofs.lemmas.List.Elements.{All-cons, All-nil}
use Rattle.ir_trees.specs.declared.ir.heads.Builtin.TheVariants as B
use Rattle.ir_trees.specs.declared.ir.heads.Head.{Head}
use Rattle.ir_trees.specs.declared.ir.heads.Head.TheVariants as H
use Rattle.ir_trees.specs.declared.ir.heads.ListHead.{ListHead}
use Rattle.ir_trees.specs.declared.ir.heads.ListHead.TheVariants as LH
use Rattle.ir_trees.specs.declared.ir.heads.PartHead.{PartHead}
use Rattle.ir_trees.specs.declared.ir.heads.PartHead.TheVariants as P
use Rattle.ir_trees.specs.declared.ir.heads.VariableSort.{VariableSort}
use Rattle.ir_trees.specs.declared.ir.heads.VariableSort.TheVariants as V
use Rattle.ir_trees.specs.declared.ir.kinds.Clause.{Clause}
use Rattle.ir_trees.specs.Declarations.Context.{Context, world}
use Rattle.ir_trees.specs.Hierarchy.Elaboration.{Elaborates, IsElaboration, SuperClauses, ended, implied, implied_by, renumbered, step, supers_if, under_binder, unlisted, variables_of}
use Rattle.ir_trees.specs.Instantiation.Folding.{substituted}
use Rattle.ir_trees.specs.Syntax.Nodes.{kind_at}
use Rattle.ir_trees.specs.Declarations.References.{FitsAmong}
use Rattle.ir_trees.specs.Hierarchy.Supertraits.{head_trait}
use Rattle.ir_trees.specs.Syntax.Trees.{Kind, BinderKind, ClauseKind, VariableKind, Forest, none, tree, Tree, count, holds, is_param, kind_of, list_kind, sort_kind, tree_holds}
use Rattle.ir_trees.specs.Validity.WellFormed.{IsWellFormedTable}
use Rattle.ir_trees.specs.Syntax.Words.{ClauseListFits, clause_tree}
use Rattle.ir_trees.specs.Declarations.Worlds.{Fits, World, all_of, child_kinds, clause_kinds, joined, kinds_of}
use Rattle.ir_trees.proofs.Instantiation.Folding.{or-right}
use Rattle.ir_context.proofs.Instantiation.Owned.{or-none}
use Rattle.ir_trees.proofs.Kinding.References.{fit-at}
use Rattle.ir_trees.proofs.Syntax.Rows.{kind-of}
use Rattle.candidate_eval.proofs.Marks.Marking.{unmarked}
use Rattle.candidate_eval.proofs.Builtins.PartsFree.{put-parameterless}
use Rattle.candidate_assembly.specs.Laws.BuiltinLaws.{nodes_fit}
use Rattle.candidate_assembly.specs.Laws.SuperLaws.{Each}
use Rattle.candidate_assembly.proofs.Objects.SuperLaws.{each_of_both, unlisted_each}
use Rattle.candidate_assembly.specs.Answers.Telling.{HaveNoParameter}

-- No parameter stands under the clause's binder.
abbrev pub IsFreeUnder : Tree → Type 0
IsFreeUnder t = holds is_param (under_binder t) ≡ false

put-in-row : (args ts : Forest) → holds is_param args ≡ false → holds is_param (substituted args 0 ts) ≡ false
put-in-row args ts e =
    let whole : Tree = record { head = H.Builtin B.Tuple; children = ts } in
    or-right false (holds is_param (substituted args 0 ts)) (put-parameterless args whole e)

implied-free : (t : Tree) → IsFreeUnder t → (ss : List Tree) → Each IsFreeUnder (map (implied t) ss)
implied-free t f [] = tt
implied-free t f (s ∷ ss) = (put-in-row (under_binder t) (renumbered (count (variables_of t)) (under_binder s)) f, implied-free t f ss)

walk-free : (supers : SuperClauses) {walked left all : List Tree} → Elaborates supers walked left all → Each IsFreeUnder walked → Each IsFreeUnder left → Each IsFreeUnder all
walk-free supers ended a b = a
walk-free supers {walked} (step {left = left} {t = u} e) a b =
    let next = implied_by supers u in
    let more = unlisted_each IsFreeUnder (walked ++ u ∷ left) next (implied-free u b.0 (supers_if supers (head_trait u.head))) in
    walk-free supers e (each_of_both IsFreeUnder walked (u ∷ []) a (b.0, tt)) (each_of_both IsFreeUnder left (unlisted (walked ++ u ∷ left) next) b.1 more)

pub elaborated-under : (c : Context) (start all : List Tree) → Each IsFreeUnder start → IsElaboration c start all → Each IsFreeUnder all
elaborated-under c start all f e = walk-free _ e tt (unlisted_each IsFreeUnder [] start f)

-- Nor does one stand in a clause's binder; nor does any head there that bears a mark that no part bears.
module _ (mark : Head → Bool) (parts : (p : PartHead) → mark (H.Part p) ≡ false) where
  abbrev HasNone : Head → Forest → Type 0
  HasNone h below = (mark h ≡ false) × (holds mark below ≡ false)

  variable-free : (w : World) (h : Head) (below : Forest) → VariableKind ≡ kind_of h → child_kinds w h (kinds_of below) ≡ Some (kinds_of below) → HasNone h below
  variable-free w (H.Part (P.Var k)) none e f = (parts (P.Var k), refl)
  variable-free w (H.Part (P.Var k)) (tree g under rest) e f = absurd cc
  variable-free w (H.Part P.Vars) below e f = absurd cc
  variable-free w (H.Part P.Sig) below e f = absurd cc
  variable-free w (H.Part (P.Clause c)) below e f = absurd cc
  variable-free w (H.Part (P.Pred p)) below e f = absurd cc
  variable-free w (H.Infer v) below e f = absurd (of v.sort e)
    where
      of : (s : VariableSort) → VariableKind ≡ sort_kind s → ⊥
      of V.Constant e = absurd cc
      of V.General e = absurd cc
      of V.Integer e = absurd cc
      of V.Floating e = absurd cc
  variable-free w (H.List l) below e f = absurd (of l e)
    where
      of : (l : ListHead) → VariableKind ≡ list_kind l → ⊥
      of LH.Args e = absurd cc
      of LH.Preds e = absurd cc
      of LH.Clauses e = absurd cc
  variable-free w _ below e f = absurd cc

  variables-free : (w : World) (ts : Forest) → all_of VariableKind (kinds_of ts) ≡ kinds_of ts → Fits w ts → holds mark ts ≡ false
  variables-free w none e f = refl
  variables-free w (tree h below rest) e f =
      let here : VariableKind ≡ kind_of h = cc in
      let others : all_of VariableKind (kinds_of rest) ≡ kinds_of rest = cc in
      let v = variable-free w h below here f.0 in
      unmarked mark h below rest v.0 v.1 (variables-free w rest others f.2)

  binder-free : (w : World) (h : Head) (below : Forest) → BinderKind ≡ kind_of h → child_kinds w h (kinds_of below) ≡ Some (kinds_of below) → Fits w below → HasNone h below
  binder-free w (H.Part P.Vars) below e f g =
      let same : all_of VariableKind (kinds_of below) ≡ kinds_of below = cc in
      (parts P.Vars, variables-free w below same g)
  binder-free w (H.Part (P.Var k)) below e f g = absurd cc
  binder-free w (H.Part P.Sig) below e f g = absurd cc
  binder-free w (H.Part (P.Clause c)) below e f g = absurd cc
  binder-free w (H.Part (P.Pred p)) below e f g = absurd cc
  binder-free w (H.Infer v) below e f g = absurd (of v.sort e)
    where
      of : (s : VariableSort) → BinderKind ≡ sort_kind s → ⊥
      of V.Constant e = absurd cc
      of V.General e = absurd cc
      of V.Integer e = absurd cc
      of V.Floating e = absurd cc
  binder-free w (H.List l) below e f g = absurd (of l e)
    where
      of : (l : ListHead) → BinderKind ≡ list_kind l → ⊥
      of LH.Args e = absurd cc
      of LH.Preds e = absurd cc
      of LH.Clauses e = absurd cc
  binder-free w _ below e f g = absurd cc

  first-kind : (o : Option (List Kind)) (k : Kind) (ks : List Kind) → joined (Some (BinderKind ∷ [])) o ≡ Some (k ∷ ks) → BinderKind ≡ k
  first-kind None k ks e = absurd cc
  first-kind (Some ls) k ks e = cc

  pub clause-free : (w : World) (h : Head) (below : Forest) → kind_of h ≡ ClauseKind → (let t : Tree = record { head = h; children = below } in FitsAmong w t × (holds mark (under_binder t) ≡ false) → tree_holds mark t ≡ false)
  clause-free w (H.Part (P.Clause c)) none e f = ap (λ b. b || false) (parts (P.Clause c))
  clause-free w (H.Part (P.Clause c)) (tree b vars rest) e f =
      let v = binder-free w b vars (first-kind (clause_kinds w c) (kind_of b) (kinds_of rest) f.0.0) f.0.1.0 f.0.1.1 in
      or-none (mark (H.Part (P.Clause c))) (holds mark (tree b vars rest)) (parts (P.Clause c)) (unmarked mark b vars rest v.0 v.1 f.1)
  clause-free w (H.Part P.Vars) below e f = absurd cc
  clause-free w (H.Part (P.Var k)) below e f = absurd cc
  clause-free w (H.Part P.Sig) below e f = absurd cc
  clause-free w (H.Part (P.Pred p)) below e f = absurd cc
  clause-free w (H.Infer v) below e f = absurd (of v.sort e)
    where
      of : (s : VariableSort) → sort_kind s ≡ ClauseKind → ⊥
      of V.Constant e = absurd cc
      of V.General e = absurd cc
      of V.Integer e = absurd cc
      of V.Floating e = absurd cc
  clause-free w (H.List l) below e f = absurd (of l e)
    where
      of : (l : ListHead) → list_kind l ≡ ClauseKind → ⊥
      of LH.Args e = absurd cc
      of LH.Preds e = absurd cc
      of LH.Clauses e = absurd cc
  clause-free w _ below e f = absurd cc

-- So clauses of a context have no parameter, where none stands under their binders.
pub clauses-free : (c : Context) → IsWellFormedTable c → (xs : List Clause) → ClauseListFits c.trees xs → Each IsFreeUnder (map (clause_tree c.trees) xs) → HaveNoParameter c.trees xs
clauses-free c t [] k f = All-nil (λ (x : Clause). tree_holds is_param (clause_tree c.trees x) ≡ false)
clauses-free c t (x ∷ xs) k f =
    let here : kind_at c.trees x.0 ≡ ClauseKind = cc in
    let others : ClauseListFits c.trees xs = cc in
    let u = clause_tree c.trees x in
    let now = clause-free is_param (λ p. refl) (world c) u.head u.children (kind-of c.trees x.0 ClauseKind refl here) (fit-at (world c) c.trees (nodes_fit c t) x.0, f.0) in
    All-cons (λ (x : Clause). tree_holds is_param (clause_tree c.trees x) ≡ false) x xs now (clauses-free c t xs others f.1)
