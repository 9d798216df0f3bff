-- What an object's own bounds give, on the small judge.
use Rattle.std.proofs.Common.{◌≡◌, refl, ℕ, true, false, List, [], ◌∷◌, map}
use Rattle.ir_trees.specs.declared.ir.heads.ClauseHead.TheVariants as Cl
use Rattle.ir_trees.specs.declared.ir.heads.Head.TheVariants as H
use Rattle.ir_trees.specs.declared.ir.kinds.AliasKind.TheVariants as AK
use Rattle.ir_trees.specs.declared.ir.kinds.PredicatePolarity.TheVariants as Pol
use Rattle.ir_trees.specs.declared.ir.kinds.RegionKind.TheVariants as R
use Rattle.ir_trees.specs.Instantiation.Folding.{leaf}
use Rattle.ir_trees.specs.Unification.Substitutions.{alone}
use Rattle.ir_trees.specs.Syntax.Trees.{none, Tree}
use Rattle.candidate_eval.specs.declared.eval.certainty.Certainty.TheVariants.{Yes}
use Rattle.candidate_eval.specs.declared.eval.source.BuiltinImplSource.TheVariants.{Misc, Object}
use Rattle.candidate_eval.specs.declared.eval.source.CandidateSource.TheVariants.{BuiltinImpl}
use Rattle.candidate_eval.specs.Outcomes.Certainties.{AMBIGUOUS}
use Rattle.candidate_eval.proofs.Cases.RuleToy.{judge, u8, u16, meets}
use Rattle.candidate_assembly.specs.Answers.Listing.{answers}
use Rattle.candidate_assembly.specs.Rules.ObjectBounds.{has_own_clauses, object_rule, own_clause, own_clauses}
use Rattle.candidate_assembly.specs.Goals.TraitRules.{trait_rules}
use Rattle.candidate_assembly.specs.Rules.Unsizing.{outlives}
use Rattle.candidate_assembly.proofs.Cases.ShownLists.{Shown, Row, show}
use Rattle.candidate_assembly.proofs.Cases.UnsizingCases.{also, dyn, principal, says, start, supers, types}
use Rattle.candidate_assembly.specs.Rules.BuiltinRules.{pair_of}

-- An object of A, whose supertrait is B of `u8`, with an auto trait: an associated type of it, for `u8`, is `u16`.
abbrev object : Tree
object = dyn (principal 2 [] ∷ says 9 (u8 ∷ u16 ∷ []) ∷ also 3 ∷ [])

-- its projection bound and its auto trait, then A and B
pub sources_in_order :
    map (λ o. o.source) (own_clauses object (supers object)) ≡ BuiltinImpl Misc ∷ BuiltinImpl Misc ∷ BuiltinImpl (Object 0) ∷ BuiltinImpl (Object 1) ∷ []
sources_in_order = refl

pub has_some : has_own_clauses types 2 object ≡ true
has_some = refl

pub none_for_sized : has_own_clauses types 6 object ≡ false
none_for_sized = refl

pub none_of_others : has_own_clauses types 2 u8 ≡ false
none_of_others = refl

pub none_where_no_objects_are : has_own_clauses types 5 (dyn (principal 5 [] ∷ [])) ≡ false
none_where_no_objects_are = refl

-- The rule of the clause that A holds of the object, where this is required of objects of A.
abbrev holds_by : ℕ → List Tree → Shown
holds_by i required =
    show (answers (judge []) start (object_rule trait_rules types (record { env = none; reference = record { trait = 2; arguments = alone object }; polarity = Pol.Positive }) (own_clause (BuiltinImpl (Object 0)) (meets i object)) object required ∷ []))

pub nothing_required : holds_by 2 [] ≡ Row ((BuiltinImpl (Object 0), Yes) ∷ [])
nothing_required = refl

pub another_trait : holds_by 1 [] ≡ Row []
another_trait = refl

-- that the associated type of the object, for this type, outlives a region
abbrev item_outlives : Tree → Tree
item_outlives t = outlives Cl.TypeOutlives (record { head = H.Alias AK.Projection (record { 0 = 9 }); children = pair_of object t }) (leaf (H.Region R.Static))

-- the object's bound says what it is
pub bound_matches : holds_by 2 (item_outlives u8 ∷ []) ≡ Row ((BuiltinImpl (Object 0), Yes) ∷ [])
bound_matches = refl

-- the object's bound says it of another type
pub bound_differs : holds_by 2 (item_outlives u16 ∷ []) ≡ Row ((BuiltinImpl (Object 0), AMBIGUOUS) ∷ [])
bound_differs = refl
