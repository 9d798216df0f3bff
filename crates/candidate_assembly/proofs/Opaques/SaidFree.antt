-- What stands in the bounds of opaque types that are said of another type: nothing that neither that nor their arguments hold.
use Rattle.std.proofs.Common.{◌≡◌, ◌<◌, ◌+◌, arith, ℕ, suc, Bool, true, false, Some, None, All, List, [], ◌∷◌, length, map, get_or, refl, sym, subst}
use Rattle.std.specs.Prelude.{if◌then◌else◌, unwrap_or}
use Rattle.std.specs.List.{flat_map}
use Rattle.std.proofs.lemmas.List.Elements.{All-append, All-map, All-nil}
use Rattle.ir_trees.specs.declared.decl.contents.AliasBoundKind.TheVariants.{SelfBounds}
use Rattle.ir_trees.specs.declared.ir.heads.Head.{Head}
use Rattle.ir_trees.specs.declared.ir.heads.Head.TheVariants as H
use Rattle.ir_trees.specs.declared.ir.kinds.AliasTy.{AliasTy}
use Rattle.ir_trees.specs.declared.ir.kinds.Clause.{Clause}
use Rattle.ir_trees.specs.declared.ir.kinds.TyKind.TheVariants as TK
use Rattle.ir_trees.specs.Declarations.Context.{Context}
use Rattle.ir_trees.specs.Hierarchy.Elaboration.{same_tree}
use Rattle.ir_trees.specs.Instantiation.Folding.{fold}
use Rattle.ir_trees.specs.Instantiation.Folds.{node}
use Rattle.ir_trees.specs.Unification.Substitutions.{alone}
use Rattle.ir_trees.specs.Syntax.Trees.{Forest, none, tree, Tree, binders_of, holds, is_param, tree_holds}
use Rattle.ir_trees.specs.Syntax.Words.{IsArgs, args_forest, clause_tree, kind_tree}
use Rattle.ir_trees.proofs.Instantiation.Folding.{begin}
use Rattle.candidate_eval.specs.Interface.Evaluators.{IsHiddenOpaque}
use Rattle.candidate_eval.specs.Derivations.Mentions.{IsBelow, is_from}
use Rattle.candidate_eval.specs.Dynamic.Required.{self_bounds}
use Rattle.candidate_eval.proofs.Marks.Holds.{holds_parts}
use Rattle.candidate_eval.proofs.Marks.Marking.{alone-unmarked, unmarked}
use Rattle.candidate_eval.proofs.Builtins.PartsFree.{put-below, put-parameterless}
use Rattle.candidate_assembly.specs.Rules.AliasBounds.{alias_bounds}
use Rattle.candidate_assembly.specs.Rules.Opaques.{AreBelow, AreClosedBounds, bounds_said, type_for, with_type_for}
use Rattle.candidate_assembly.specs.Answers.Telling.{HaveNoParameter}
use Rattle.candidate_assembly.proofs.Aliases.BoundRules.{as-many, in-place}
use Rattle.candidate_assembly.proofs.Opaques.SaidBounds.{bounds-read, put}

-- One type in the place of another.
module _ (mark : Head → Bool) (old new : Tree) (free : holds mark (alone new) ≡ false) where
  replaced-unmarked : (d : ℕ) (ts : Forest) → holds mark ts ≡ false → holds mark (fold (λ _ t. type_for old new t) d ts) ≡ false
  replaced-unmarked d none e = refl
  replaced-unmarked d (tree h below rest) e =
      let p = holds_parts mark h below rest e in
      at (same_tree (node h below) old) p.here (replaced-unmarked (d + binders_of h) below p.under) (replaced-unmarked d rest p.others)
    where
      at : (b : Bool) → mark h ≡ false → holds mark (fold (λ _ t. type_for old new t) (d + binders_of h) below) ≡ false → holds mark (fold (λ _ t. type_for old new t) d rest) ≡ false
          → holds mark (begin (unwrap_or (if b then Some new else None) (node h (fold (λ _ t. type_for old new t) (d + binders_of h) below))) (fold (λ _ t. type_for old new t) d rest)) ≡ false
      at true here under others = let q = holds_parts mark new.head new.children none free in unmarked mark new.head new.children (fold (λ _ t. type_for old new t) d rest) q.here q.under others
      at false here under others = unmarked mark h (fold (λ _ t. type_for old new t) (d + binders_of h) below) (fold (λ _ t. type_for old new t) d rest) here under others

tree-unmarked : (mark : Head → Bool) (t : Tree) → holds mark (alone t) ≡ false → tree_holds mark t ≡ false
tree-unmarked mark t e = let p = holds_parts mark t.head t.children none e in rw (p.here, p.under) refl

pub with-type-unmarked : (mark : Head → Bool) (old new t : Tree) → tree_holds mark new ≡ false → tree_holds mark t ≡ false → tree_holds mark (with_type_for old new t) ≡ false
with-type-unmarked mark old new t e f = tree-unmarked mark (with_type_for old new t) (replaced-unmarked mark old new (alone-unmarked mark new e) 0 (alone t) (alone-unmarked mark t f))

-- The bounds of one opaque type.

abbrev Unmarked : (Head → Bool) → Tree → Type 0
Unmarked mark t = tree_holds mark t ≡ false

said-unmarked : (mark : Head → Bool) (c : Context) (a : AliasTy) (t : Tree) → IsArgs c.trees a.args → tree_holds mark t ≡ false
    → ((k : ℕ) (d : Clause) → k < length (self_bounds c a.id.0) → Unmarked mark (put c.trees (args_forest c.trees a.args) (get_or (self_bounds c a.id.0) k d))) → All (Unmarked mark) (bounds_said c t (kind_tree c.trees (TK.Alias a)))
said-unmarked mark c a t is e each =
    let u = kind_tree c.trees (TK.Alias a) in
    All-map (Unmarked mark) (with_type_for u t) (alias_bounds c SelfBounds u)
    (subst (All (λ (x : Tree). Unmarked mark (with_type_for u t x))) (sym (bounds-read c a is))
    (All-map (λ (x : Tree). Unmarked mark (with_type_for u t x)) (put c.trees (args_forest c.trees a.args)) (self_bounds c a.id.0)
    (λ k d l. with-type-unmarked mark u t (put c.trees (args_forest c.trees a.args) (get_or (self_bounds c a.id.0) k d)) e (each k d l))))

said-free : (c : Context) (n : ℕ) (a : AliasTy) (t : Tree) → IsHiddenOpaque c n a → tree_holds is_param t ≡ false → All (Unmarked is_param) (bounds_said c t (kind_tree c.trees (TK.Alias a)))
said-free c n a t h e = said-unmarked is_param c a t h.args e (λ k d l. put-parameterless (args_forest c.trees a.args) (clause_tree c.trees (get_or (self_bounds c a.id.0) k d)) h.no_parameter)

said-below : (c : Context) (n : ℕ) (a : AliasTy) (t : Tree) → IsHiddenOpaque c n a → AreClosedBounds c a → tree_holds (is_from n) t ≡ false → All (Unmarked (is_from n)) (bounds_said c t (kind_tree c.trees (TK.Alias a)))
said-below c n a t h closed e = said-unmarked (is_from n) c a t h.args e (λ k d l. put-below n (args_forest c.trees a.args) (clause_tree c.trees (get_or (self_bounds c a.id.0) k d)) h.below (closed k d l))

-- Those of all of them.

each-said : {X : Type 0} (P : Tree → Type 0) (f : X → List Tree) (xs : List X) → ((k : ℕ) (d : X) → k < length xs → All P (f (get_or xs k d))) → All P (flat_map f xs)
each-said P f [] h = All-nil P
each-said P f (x ∷ xs) h = All-append P (f x) (flat_map f xs) (h 0 x (omega arith)) (each-said P f xs (λ k d l. h (suc k) d (omega (arith, l))))

-- what is said of the trees, of the clauses
of-clauses : (P : Tree → Type 0) (ts : List Tree) (xs : List Clause) (us : List Tree) → map (clause_tree ts) xs ≡ us → All P us → All (λ x. P (clause_tree ts x)) xs
of-clauses P ts xs us is h = λ k d l.
    let past : Tree = record { head = H.Dynamic; children = none } in
    subst P (sym (in-place (clause_tree ts) xs us k d past is l)) (h k past (as-many (clause_tree ts) xs us k is l))

module _ (c : Context) (n : ℕ) (opaques : List AliasTy) (t : Tree) (hidden : All (IsHiddenOpaque c n) opaques) (ts : List Tree) (xs : List Clause)
    (are : map (clause_tree ts) xs ≡ flat_map (λ (a : AliasTy). bounds_said c t (kind_tree c.trees (TK.Alias a))) opaques) where
  pub all-said-free : holds is_param (alone t) ≡ false → HaveNoParameter ts xs
  all-said-free e =
      of-clauses (Unmarked is_param) ts xs (flat_map (λ (a : AliasTy). bounds_said c t (kind_tree c.trees (TK.Alias a))) opaques) are
      (each-said (Unmarked is_param) (λ (a : AliasTy). bounds_said c t (kind_tree c.trees (TK.Alias a))) opaques (λ k d l. said-free c n (get_or opaques k d) t (hidden k d l) (tree-unmarked is_param t e)))

  pub all-said-below : All (AreClosedBounds c) opaques → IsBelow n (alone t) → AreBelow ts n xs
  all-said-below closed e =
      of-clauses (λ (x : Tree). IsBelow n (alone x)) ts xs (flat_map (λ (a : AliasTy). bounds_said c t (kind_tree c.trees (TK.Alias a))) opaques) are
      (λ k d l. alone-unmarked (is_from n) (get_or (flat_map (λ (a : AliasTy). bounds_said c t (kind_tree c.trees (TK.Alias a))) opaques) k d)
      (each-said (Unmarked (is_from n)) (λ (a : AliasTy). bounds_said c t (kind_tree c.trees (TK.Alias a))) opaques
      (λ i f m. said-below c n (get_or opaques i f) t (hidden i f m) (closed i f m) (tree-unmarked (is_from n) t e)) k d l))
