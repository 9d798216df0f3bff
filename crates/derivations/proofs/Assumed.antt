-- Objects' own clauses that are assumed: whether what an object has to fulfil is ordinary can be told, and where what is declared is ordinary
-- nothing is assumed.
use Rattle.std.proofs.Common.{◌≡◌, ◌⊎◌, inl, inr, Bool, true, false, List, [], ◌∷◌, refl, sym, ap, ◌∙◌}
use Rattle.std.specs.List.{All}
use Rattle.std.proofs.lemmas.List.Elements.{All-cons, All-head, All-nil, All-tail}
use Rattle.ir_trees.specs.declared.ir.heads.Head.{Head}
use Rattle.ir_trees.specs.declared.ir.heads.Head.TheVariants as H
use Rattle.ir_trees.specs.declared.ir.kinds.RegionKind.TheVariants as R
use Rattle.ir_trees.specs.Declarations.Context.{Context, Grows}
use Rattle.ir_trees.specs.Instantiation.Owned.{is_unsolved}
use Rattle.ir_trees.specs.Syntax.Binders.{escapes}
use Rattle.ir_trees.specs.Syntax.Trees.{Forest, Tree, holds, is_param, none, tree}
use Rattle.ir_trees.specs.Unification.Substitutions.{alone, is_made}
use Rattle.ir_trees.specs.Validity.WellFormed.{IsWellFormedTable}
use Rattle.candidate_eval.specs.Derivations.ImplRules.{TraitGoal}
use Rattle.candidate_eval.specs.Dynamic.ObjectRequirements.{first_tree}
use Rattle.candidate_eval.specs.Dynamic.ObjectRules.{projections_in}
use Rattle.candidate_eval.specs.Dynamic.Objects.{Projection}
use Rattle.candidate_eval.specs.Dynamic.Replacing.{own_projection}
use Rattle.candidate_eval.specs.Dynamic.Required.{own_bounds}
use Rattle.candidate_eval.specs.Judges.States.{Values, valued_tree}
use Rattle.candidate_eval.proofs.Marks.Closed.{closed, closed-parts}
use Rattle.candidate_assembly.specs.Laws.Given.{IsCounted}
use Rattle.candidate_assembly.proofs.Objects.ObjectLaws.{has_dynamic}
use Rattle.candidate_assembly.proofs.Sense.SenseFree.{first-free}
use Rattle.rounds_judge.specs.Aliases.Congruence.{SameTree, pair, same}
use Rattle.rounds_judge.specs.Aliases.Listed.{Listing}
use Rattle.rounds_judge.specs.Aliases.Normalizing.{type_or_itself}
use Rattle.rounds_judge.specs.Equations.Standing.{IsListing}
use Rattle.rounds_judge.proofs.Aliases.Congruent.{fixed_stays, listed_pair, pair_counts, same_to}
use Rattle.rounds_judge.proofs.Aliases.Equated.{pair_listed}
use Rattle.rounds_judge.proofs.Lawfulness.JudgeLaws.{WhichType, is_type, itself, which_type}
use Rattle.rounds_judge.proofs.Table.TableSettled.{apart}
use Rattle.derivations.specs.Ordinary.{IsObjectType, IsOfVariables, IsOrdinary, IsUnordinary, ObjectsAreOrdinary, TypeIsOrdinary}
use Rattle.derivations.proofs.Declared.{ordinary_grown}

-- Of each member of a list, or not.
each_or_not : {A : Type 0} (f : A → Bool) (xs : List A) → All (λ x. f x ≡ false) xs ⊎ (All (λ x. f x ≡ false) xs → ⊥)
each_or_not f [] = inl (All-nil (λ x. f x ≡ false))
each_or_not f (x ∷ xs) = at (f x) refl (each_or_not f xs)
  where
    at : (b : Bool) → f x ≡ b → All (λ x. f x ≡ false) xs ⊎ (All (λ x. f x ≡ false) xs → ⊥) → All (λ x. f x ≡ false) (x ∷ xs) ⊎ (All (λ x. f x ≡ false) (x ∷ xs) → ⊥)
    at true e rest = inr (λ all. let no : true ≡ false = sym e ∙ All-head (λ x. f x ≡ false) x xs all in cc)
    at false e (inl all) = inl (All-cons (λ x. f x ≡ false) x xs e all)
    at false e (inr not) = inr (λ all. not (All-tail (λ x. f x ≡ false) x xs all))

both_or_not : {A B : Type 0} → A ⊎ (A → ⊥) → B ⊎ (B → ⊥) → (A × B) ⊎ (A × B → ⊥)
both_or_not (inl a) (inl b) = inl (a, b)
both_or_not (inl a) (inr not) = inr (λ p. not p.1)
both_or_not (inr not) b = inr (λ p. not p.0)

pub ordinary_or_not : (object : Tree) (bounds : Forest) (required : List Tree) → IsOrdinary object bounds required ⊎ (IsOrdinary object bounds required → ⊥)
ordinary_or_not object bounds required =
    both_or_not (each_or_not (λ (p : Projection). escapes 0 p.arguments) (projections_in (own_projection object (own_bounds object bounds)) required)) (each_or_not (λ (t : Tree). holds is_param (alone t)) required)

-- An object's own clause is assumed of a `dyn` type that isn't ordinary.

-- a closed row has a closed first tree
first-closed : (ts : Forest) → escapes 0 ts ≡ false → escapes 0 (alone (first_tree ts)) ≡ false
first-closed none e = refl
first-closed (tree h below rest) e = let p = closed-parts 0 h below rest e in closed 0 h below none p.here p.under refl

pub unordinary_type : (c : Context) (g : TraitGoal) → IsUnordinary c g → IsObjectType c (first_tree g.reference.arguments)
unordinary_type c g x = record {
  dynamic = has_dynamic c g.reference.trait (first_tree g.reference.arguments) x.has_own;
  fits = x.fits;
  no_parameter = first-free g.reference.arguments (apart is_param g.env g.reference.arguments x.no_parameter).1;
  is_closed = first-closed g.reference.arguments x.closed;
}

-- of an ordinary one none is
pub unassumed : (c : Context) (g : TraitGoal) → IsUnordinary c g → TypeIsOrdinary c (first_tree g.reference.arguments) → ⊥
unassumed c g x o = x.unordinary (o x.supers x.own x.more x.required x.are_supers x.is_own x.bare x.is_closed x.free x.are)

-- Where what is declared is ordinary, so is what each object has to fulfil.
pub none_assumed : (d c : Context) → IsWellFormedTable d → IsCounted d → Grows d c → ObjectsAreOrdinary d → (g : TraitGoal) → IsUnordinary c g → ⊥
none_assumed d c well few grows o g x = unassumed c g x (ordinary_grown d c well few grows o (first_tree g.reference.arguments) (unordinary_type c g x))

-- A type and what is listed for it are equal with trees for variables put in.

unmade_unsolved : (h : Head) → is_made h ≡ false → is_unsolved h ≡ false
unmade_unsolved (H.Infer v) e = cc
unmade_unsolved (H.Region (R.Var n)) e = cc
unmade_unsolved _ e = refl

pub normal_under : (l : Listing) → IsListing l → (v : Values) → IsOfVariables v → (s : Tree) → SameTree l (valued_tree v s) (valued_tree v (type_or_itself l s))
normal_under l listing v of s = at (type_or_itself l s) (which_type l s)
  where
    free : (h : Head) → is_made h ≡ false → v h ≡ Rattle.std.specs.Prelude.None
    free h e = of h (unmade_unsolved h e)

    at : (t : Tree) → WhichType l s t → SameTree l (valued_tree v s) (valued_tree v t)
    at t (is_type u e) =
        let k = pair_listed l s u e in
        let f = listed_pair l listing k.of k.there in
        same_to l (alone k.of.0) (alone k.of.1) (alone (valued_tree v s)) (alone (valued_tree v u)) (ap alone (sym (fixed_stays v free k.of.0 f.alias) ∙ ap (valued_tree v) k.alias)) (ap alone (sym (fixed_stays v free k.of.1 f.type) ∙ ap (valued_tree v) k.type))
        (pair k.of.0 k.of.1 (pair_counts l listing k.of k.there) (same none))
    at _ itself = same (alone (valued_tree v s))
