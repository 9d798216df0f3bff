-- The reference that a clause speaks of, as a clause: it is of the state of which the clause is.
use Rattle.std.proofs.Common.{◌≡◌, ℕ, Bool, false, List, [], ◌∷◌, refl}
use Rattle.ir_trees.specs.declared.ir.heads.ClauseHead.TheVariants as Cl
use Rattle.ir_trees.specs.declared.ir.heads.Head.{Head}
use Rattle.ir_trees.specs.declared.ir.heads.Head.TheVariants as H
use Rattle.ir_trees.specs.declared.ir.heads.PartHead.TheVariants as P
use Rattle.ir_trees.specs.Declarations.Context.{Context}
use Rattle.ir_trees.specs.Hierarchy.Elaboration.{first_children}
use Rattle.ir_trees.specs.Hierarchy.Supers.{after_first}
use Rattle.ir_trees.specs.Syntax.Binders.{escapes}
use Rattle.ir_trees.specs.Syntax.Trees.{Forest, Tree, holds, none, tree}
use Rattle.ir_trees.specs.Unification.Substitutions.{alone}
use Rattle.candidate_eval.specs.Judges.Soundness.{AreTreesOf, Live, is_strange}
use Rattle.candidate_eval.specs.Judges.States.{State}
use Rattle.candidate_eval.proofs.Marks.Closed.{after-closed, closed}
use Rattle.candidate_eval.proofs.Marks.Marking.{after-unmarked, but-last-unmarked, unmarked}
use Rattle.candidate_assembly.specs.Goals.Kinds.{arguments_by}
use Rattle.candidate_assembly.specs.Laws.SuperLaws.{Each}
use Rattle.candidate_assembly.specs.Rules.ObjectBounds.{reference_by}
use Rattle.candidate_assembly.proofs.Sense.SenseClauses.{IsClauseOf, below-closed, below-known, but-last-closed, first-unmarked, variables-closed}
use Rattle.candidate_assembly.proofs.Sense.SensePicks.{IsTerm}

pub arguments-unmarked : (mark : Head → Bool) (h : Head) (ts : Forest) → holds mark ts ≡ false → holds mark (arguments_by h ts) ≡ false
arguments-unmarked mark (H.Part (P.Clause (Cl.Projection i))) ts e = but-last-unmarked mark ts e
arguments-unmarked mark _ ts e = e

module _ (S : State) (L : Live) where
  arguments-closed : (n : ℕ) (h : Head) (ts : Forest) → escapes n ts ≡ false → escapes n (arguments_by h ts) ≡ false
  arguments-closed n (H.Part (P.Clause (Cl.Projection i))) ts e = but-last-closed S L n ts e
  arguments-closed n _ ts e = e

  pub reference-of : (c : Context) (t : Tree) → IsClauseOf S L t → AreTreesOf S L (alone (reference_by c t))
  reference-of c t a =
      let mark = is_strange S L in
      let u = reference_by c t in
      let vars = first_children t.children in
      let more = arguments_by t.head (after_first t.children) in
      let known = below-known S L t a.trees in
      let shut = below-closed S L t a.trees in
      record {
        known = unmarked mark u.head (tree (H.Part P.Vars) vars more) none refl
            (unmarked mark (H.Part P.Vars) vars more refl (first-unmarked mark t.children known) (arguments-unmarked mark t.head (after_first t.children) (after-unmarked mark t.children known))) refl;
        is_closed = closed 0 u.head (tree (H.Part P.Vars) vars more) none refl
            (closed 1 (H.Part P.Vars) vars more refl (variables-closed 1 t.children a.binder shut) (arguments-closed 1 t.head (after_first t.children) (after-closed 1 t.children shut))) refl;
      }

  pub clauses-terms : (ts : List Tree) → Each (IsClauseOf S L) ts → Each (IsTerm S L) ts
  clauses-terms [] a = tt
  clauses-terms (t ∷ ts) a = (a.0.trees, clauses-terms ts a.1)
