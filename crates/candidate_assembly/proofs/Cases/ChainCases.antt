-- Chains of aliases on the small judge, and what their bounds give.
use Rattle.std.proofs.Common.{◌≡◌, refl, ℕ, zero, suc, false, [], ◌∷◌, Some, None, length, map, cond}
use Rattle.ir_trees.specs.declared.decl.contents.AliasBoundKind.TheVariants.{SelfBounds, NonSelfBounds}
use Rattle.ir_trees.specs.declared.decl.definition.AssocKind.TheVariants as A
use Rattle.ir_trees.specs.declared.decl.definition.DefinitionKind.TheVariants as D
use Rattle.ir_trees.specs.declared.ir.heads.Head.TheVariants as H
use Rattle.ir_trees.specs.declared.ir.kinds.AliasKind.TheVariants as AK
use Rattle.ir_trees.specs.declared.ir.kinds.PredicatePolarity.TheVariants as Pol
use Rattle.ir_trees.specs.Declarations.Context.{Context}
use Rattle.ir_trees.specs.Declarations.Limits.{first_limits}
use Rattle.ir_trees.specs.Declarations.Declaring.{nothing}
use Rattle.ir_trees.specs.Hierarchy.Elaboration.{same_tree}
use Rattle.ir_trees.specs.Unification.Substitutions.{alone}
use Rattle.ir_trees.specs.Syntax.Trees.{none, Tree}
use Rattle.candidate_eval.specs.declared.eval.mode.TypingMode.TheVariants.{PostAnalysis}
use Rattle.candidate_eval.specs.declared.eval.source.CandidateSource.TheVariants.{AliasBound}
use Rattle.candidate_eval.specs.declared.eval.certainty.Certainty.TheVariants.{Yes}
use Rattle.ir_trees.specs.declared.ir.stop.Stop.TheVariants.{AliasDepth}
use Rattle.candidate_eval.specs.Outcomes.Certainties.{AMBIGUOUS}
use Rattle.candidate_eval.specs.Derivations.ImplRules.{TraitGoal}
use Rattle.candidate_eval.specs.Judges.States.{State, Judge}
use Rattle.candidate_eval.proofs.Cases.RuleToy.{judge, start_with, u8, u16, param, var, meets}
use Rattle.candidate_assembly.specs.Rules.AliasBounds.{Chain, ChainEnd, Done, Misplaced, AtVariable, TooLong, chain, chain_answers}
use Rattle.candidate_assembly.specs.Goals.TraitRules.{trait_rules}
use Rattle.candidate_assembly.proofs.Cases.ShownLists.{Shown, Row, StopsBy, show}

-- a judge that refuses the normal form of `u16`
abbrev fussy : Judge
fussy = record (judge []) { normalized = λ S e t. cond (same_tree t u16) None (Some (t, S)) }

abbrev start : State
start = start_with PostAnalysis 1

-- the associated type number 0 of a type, once and so often
abbrev out : Tree → Tree
out t = record { head = H.Alias AK.Projection (record { 0 = 0 }); children = alone t }

abbrev tower : ℕ → Tree → Tree
tower zero t = t
tower (suc n) t = out (tower n t)

abbrev hidden : Tree
hidden = record { head = H.Alias AK.Opaque (record { 0 = 0 }); children = none }

abbrev inherent : Tree
inherent = record { head = H.Alias AK.Inherent (record { 0 = 0 }); children = none }

-- how many aliases there are, and the end
abbrev told : Chain → ℕ × ChainEnd
told c = (length c.links, c.end)

abbrev from : Tree → Chain
from t = chain fussy none 64 SelfBounds start t

pub no_alias : told (from u8) ≡ (0, Done)
no_alias = refl

pub three : told (from (tower 3 u8)) ≡ (3, Done)
three = refl

-- the first is by its own bounds, further ones aren't
pub bounds_of_three : map (λ l. l.bounds) (from (tower 3 u8)).links ≡ SelfBounds ∷ NonSelfBounds ∷ NonSelfBounds ∷ []
bounds_of_three = refl

pub sixty_four : told (from (tower 64 u8)) ≡ (64, Done)
sixty_four = refl

pub sixty_five : told (from (tower 65 u8)) ≡ (64, TooLong)
sixty_five = refl

pub variable_behind : told (from (tower 2 (var 0))) ≡ (2, AtVariable start)
variable_behind = refl

-- the variable comes in place of a 65th
pub variable_at_the_limit : told (from (tower 64 (var 0))) ≡ (64, AtVariable start)
variable_at_the_limit = refl

pub refused_normal_form : told (from (tower 2 u16)) ≡ (2, Done)
refused_normal_form = refl

pub opaque_ends : told (from (out hidden)) ≡ (2, Done)
opaque_ends = refl

pub inherent_ends : told (from (out inherent)) ≡ (1, Misplaced)
inherent_ends = refl

pub inherent_at_the_limit : told (from (tower 64 inherent)) ≡ (64, Misplaced)
inherent_at_the_limit = refl

-- The associated type has the bounds `Out: Trait1` of its own and `<Out as _>::Out: Trait2`.

abbrev types : Context
types = record {
  crates = 1;
  local = record { 0 = 0 };
  limits = first_limits;
  declarations = record { crate = record { 0 = 0 }; parameters = []; kind = D.Assoc (record { 0 = 7 }) A.Type false 0 } ∷ [];
  contents = record nothing { bounds = record { self_bounds = record { 0 = 0 } ∷ []; non_self_bounds = record { 0 = 1 } ∷ [] } ∷ [] };
  trees = meets 1 (out (param 0)) ∷ meets 2 (out (out (param 0))) ∷ [];
  declared_nodes = 2;
  delayed_bugs = [];
}

abbrev goal : ℕ → Tree → TraitGoal
goal i t = record { env = none; reference = record { trait = i; arguments = alone t }; polarity = Pol.Positive }

abbrev answer : ℕ → Tree → Shown
answer i t = show (chain_answers trait_rules (λ c g u. []) fussy types (goal i t) (from t))

pub own_bound : answer 1 (out u8) ≡ Row ((AliasBound SelfBounds, Yes) ∷ [])
own_bound = refl

-- of the second alias those bounds alone count that aren't its own
pub further_bound : answer 2 (tower 2 u8) ≡ Row ((AliasBound NonSelfBounds, Yes) ∷ [])
further_bound = refl

pub no_such_bound : answer 3 (tower 2 u8) ≡ Row []
no_such_bound = refl

pub bound_and_variable : answer 1 (out (var 0)) ≡ Row ((AliasBound SelfBounds, Yes) ∷ (AliasBound NonSelfBounds, AMBIGUOUS) ∷ [])
bound_and_variable = refl

pub too_long_stops : answer 3 (tower 65 u8) ≡ StopsBy AliasDepth
too_long_stops = refl
