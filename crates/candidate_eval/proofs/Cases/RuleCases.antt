-- Rules worked out on the small judge: an impl, a bound that is picked among others, a clause that is characterised.
use Rattle.std.proofs.Common.{◌≡◌, refl, ℕ, List, [], ◌∷◌, ◌++◌, Bool, true, false}
use Rattle.ir_trees.specs.declared.ir.heads.Head.TheVariants as H
use Rattle.ir_trees.specs.declared.ir.heads.ListHead.TheVariants as L
use Rattle.ir_trees.specs.declared.ir.kinds.PredicatePolarity.TheVariants as Polarity
use Rattle.ir_trees.specs.declared.ir.kinds.VarKind.TheVariants as K
use Rattle.ir_trees.specs.declared.decl.contents.ImplPolarity.{ImplPolarity}
use Rattle.ir_trees.specs.declared.decl.contents.ImplPolarity.TheVariants as I
use Rattle.ir_trees.specs.Declarations.Contents.{Impl}
use Rattle.ir_trees.specs.declared.ir.heads.PartHead.TheVariants as P
use Rattle.ir_trees.specs.declared.ir.heads.ClauseHead.TheVariants as Cl
use Rattle.ir_trees.specs.Syntax.Trees.{TypeKind, Forest, none, tree, Tree}
use Rattle.ir_trees.specs.Unification.Substitutions.{alone}
use Rattle.candidate_eval.specs.declared.eval.mode.TypingMode.{TypingMode}
use Rattle.candidate_eval.specs.declared.eval.mode.TypingMode.TheVariants.{Coherence, PostAnalysis}
use Rattle.candidate_eval.specs.declared.eval.source.CandidateSource.{CandidateSource}
use Rattle.candidate_eval.specs.declared.eval.source.CandidateSource.TheVariants as Source
use Rattle.candidate_eval.specs.declared.eval.source.BuiltinImplSource.TheVariants.{Misc}
use Rattle.candidate_eval.specs.declared.eval.source.ParamEnvSource.TheVariants.{NonGlobal, Global}
use Rattle.candidate_eval.specs.Outcomes.Certainties.{Certainty, Yes, AMBIGUOUS}
use Rattle.candidate_eval.specs.Derivations.Rules.{Rule, Step, Match, Upcast, Require, fresh, equate, pick, still_general, unknowable, ask, characterise, Ending}
use Rattle.candidate_eval.specs.Derivations.Judging.{Judged, Gives, Refused, Stopped, judged}
use Rattle.candidate_eval.specs.Derivations.Characterization.{too_deep}
use Rattle.candidate_eval.specs.Derivations.ImplRules.{TraitGoal, impl_rule}
use Rattle.candidate_eval.specs.Dynamic.ObjectRules.{matches_of, picks_of, IsRuleTree}
use Rattle.candidate_eval.specs.Dynamic.Objects.{Projection}
use Rattle.ir_trees.specs.Declarations.Worlds.{World, Reference, TraitSort}
use Rattle.candidate_eval.proofs.Cases.RuleToy.{judge, start_with, u8, u16, slice, param, rigid, rigid_above, bound, var, meets}

-- What is told of an answer: its source, the values of the root variables, and how sure it is.
pub data Told : Type 0 where
  Says : CandidateSource → Forest → Certainty → Told
  Nothing : Told
  Stops : Told

abbrev pub told : Judged → Told
told (Gives c) = Says c.source c.result.values c.result.certainty
told Refused = Nothing
told (Stopped s) = Stops

-- An impl: `impl<T> Trait for [T] where T: Trait`, which is number 0. The trees by their numbers: the header's arguments, and
-- the clause.

abbrev pub trait_number : ℕ
trait_number = 0

abbrev pub impl_trees : List Tree
impl_trees = record { head = H.List L.Args; children = alone (slice (param 0)) } ∷ meets trait_number (param 0) ∷ []

abbrev pub one_impl : ImplPolarity → Impl
one_impl p = record {
  crate = record { 0 = 0 };
  parameters = K.Ty ∷ [];
  trait_ref = record { def_id = record { 0 = trait_number }; args = record { 0 = 0 } };
  polarity = p;
  is_default = false;
  wheres = record { 0 = 1 } ∷ [];
  super_outlives = [];
  specializes = [];
  values = [];
}

-- the trait is declared in that crate
abbrev pub world_of : ℕ → World
world_of crate = record { sort = TraitSort; crate = crate; parameters = []; is_fundamental = false } ∷ []

abbrev pub of_type : Tree → Reference
of_type t = record { trait = trait_number; arguments = alone t }

abbrev pub goal_of : Tree → TraitGoal
goal_of t = record { env = none; reference = of_type t; polarity = Polarity.Positive }

abbrev pub by_impl : TypingMode → ImplPolarity → ℕ → Tree → Told
by_impl m p n t = told (judged (judge (world_of 1)) (start_with m n) (impl_rule impl_trees m (goal_of t) (record { 0 = 0 }) (one_impl p)))

abbrev pub the_impl : CandidateSource
the_impl = Source.Impl (record { 0 = 0 })

-- the where clause stays pending
pub impl_of_slice : by_impl PostAnalysis I.Positive 0 (slice u8) ≡ Says the_impl none AMBIGUOUS
impl_of_slice = refl

-- the root variable becomes a slice of the impl's variable, which is fresh
pub impl_of_variable : by_impl PostAnalysis I.Positive 1 (var 0) ≡ Says the_impl (alone (slice (var 1))) AMBIGUOUS
impl_of_variable = refl

-- another type, another polarity
pub impl_of_other : by_impl PostAnalysis I.Positive 0 u8 ≡ Nothing
impl_of_other = refl

pub impl_negative : by_impl PostAnalysis I.Negative 0 (slice u8) ≡ Nothing
impl_negative = refl

-- a reservation counts in coherence alone
pub reservation_in_coherence : by_impl Coherence I.Reservation 0 (slice u8) ≡ Says the_impl none AMBIGUOUS
reservation_in_coherence = refl

pub reservation_outside : by_impl PostAnalysis I.Reservation 0 (slice u8) ≡ Nothing
reservation_outside = refl

-- Steps and an ending, with so many root variables.

abbrev pub misc : Ending
misc = ask (Source.BuiltinImpl Misc) Yes

abbrev pub rule_of : List Step → Ending → Rule
rule_of steps end = record { env = none; applies = true; steps = steps; ending = end }

abbrev pub by_steps : ℕ → List Step → Told
by_steps n steps = told (judged (judge (world_of 1)) (start_with Coherence n) (rule_of steps misc))

abbrev pub misc_says : Forest → Certainty → Told
misc_says ts c = Says (Source.BuiltinImpl Misc) ts c

-- A projection bound is picked: `for<T> [T]`, which stands for T, or `u16`, which stands for itself.

abbrev pub of_slice : Tree → Match
of_slice target = record { entered = []; instantiated = TypeKind ∷ []; left = alone (slice (param 0)); right = alone target; term = param 0 }

abbrev pub of_u16 : Tree → Match
of_u16 target = record { entered = []; instantiated = []; left = alone u16; right = alone target; term = u16 }

abbrev pub both : Tree → List Match
both target = of_slice target ∷ of_u16 target ∷ []

-- the one that matches is equated, and its term becomes the rule's first variable
pub picks_slice : by_steps 1 (pick Upcast (both (slice u8)) ∷ equate (alone (var 0)) (alone (param 0)) ∷ []) ≡ misc_says (alone u8) Yes
picks_slice = refl

pub picks_plain : by_steps 1 (pick Upcast (both u16) ∷ equate (alone (var 0)) (alone (param 0)) ∷ []) ≡ misc_says (alone u16) Yes
picks_plain = refl

-- the term counts after the variables that the rule has
pub picks_after_fresh : by_steps 1 (fresh (TypeKind ∷ []) ∷ pick Upcast (of_u16 u16 ∷ []) ∷ equate (alone (var 0)) (alone (param 1)) ∷ []) ≡ misc_says (alone u16) Yes
picks_after_fresh = refl

-- none refuses, or is ambiguous
pub picks_none : by_steps 0 (pick Upcast (both u8) ∷ []) ≡ Nothing
picks_none = refl

pub requires_none : by_steps 0 (pick Require (both u8) ∷ []) ≡ misc_says none AMBIGUOUS
requires_none = refl

-- two are ambiguous, and equate nothing; what follows isn't done
pub picks_two : by_steps 1 (pick Upcast (both (var 0)) ∷ equate (alone u8) (alone u16) ∷ []) ≡ misc_says (alone (var 0)) AMBIGUOUS
picks_two = refl

-- The same bounds as an object's: of its associated type with any slice, that it is the slice's element; with `u16`, that it is that.

abbrev pub bound_says : Forest → Tree → Tree → Tree
bound_says vs argument term = record {
  head = H.Part (P.Clause (Cl.Projection (record { 0 = 0 })));
  children = tree (H.Part P.Vars) vs (tree u8.head u8.children (tree argument.head argument.children (alone term)));
}

abbrev pub own_bounds : List Tree
own_bounds = bound_says (tree (H.Part (P.Var K.Ty)) none none) (slice bound) bound ∷ bound_says none u16 u16 ∷ []

abbrev pub of_target : Tree → Projection
of_target t = record { item = 0; arguments = tree u8.head u8.children (alone t) }

-- opened by names they are such matches, with the object's type before the target
pub matches_by_names : (t : Tree) → matches_of 0 own_bounds (of_target t)
    ≡ record { entered = []; instantiated = TypeKind ∷ []; left = tree u8.head u8.children (alone (slice (param 0))); right = tree u8.head u8.children (alone t); term = param 0 }
    ∷ record { entered = []; instantiated = []; left = tree u8.head u8.children (alone u16); right = tree u8.head u8.children (alone t); term = u16 } ∷ []
matches_by_names t = refl

-- the terms of two picks are the rule's first variables
pub object_picks : by_steps 1 (picks_of 0 own_bounds (of_target (slice u8) ∷ of_target u16 ∷ []) ++ equate (alone (var 0)) (alone (param 0)) ∷ []) ≡ misc_says (alone u8) Yes
object_picks = refl

pub object_unknown : by_steps 1 (picks_of 0 own_bounds (of_target u16 ∷ of_target u8 ∷ []) ++ equate (alone (var 0)) (alone (param 0)) ∷ []) ≡ misc_says (alone (var 0)) AMBIGUOUS
object_unknown = refl

-- a rule may hold them, whatever its variables
pub own_bounds_in_rules : (n : ℕ) → IsRuleTree n (bound_says (tree (H.Part (P.Var K.Ty)) none none) (slice bound) bound)
own_bounds_in_rules n = record { no_parameter = refl; below = refl }

-- A variable that has got a value is no general variable any more.

pub general : by_steps 1 (still_general (var 0) ∷ []) ≡ misc_says (alone (var 0)) Yes
general = refl

pub general_no_more : by_steps 1 (equate (alone (var 0)) (alone u8) ∷ still_general (var 0) ∷ []) ≡ Nothing
general_no_more = refl

-- Impls may be unknown upstream and downstream, and are known of a local trait.

pub unknown_upstream : by_steps 0 (unknowable (of_type u8) ∷ []) ≡ misc_says none Yes
unknown_upstream = refl

pub unknown_downstream : by_steps 1 (unknowable (of_type (var 0)) ∷ []) ≡ misc_says (alone (var 0)) Yes
unknown_downstream = refl

pub known : told (judged (judge (world_of 0)) (start_with Coherence 0) (rule_of (unknowable (of_type u8) ∷ []) misc)) ≡ Nothing
known = refl

-- Clauses are characterised.

abbrev pub by_clause : Tree → Told
by_clause t = told (judged (judge (world_of 1)) (start_with PostAnalysis 1) (rule_of [] (characterise (meets trait_number t))))

abbrev pub env_says : Bool → Certainty → Told
env_says true c = Says (Source.ParamEnv Global) (alone (var 0)) c
env_says false c = Says (Source.ParamEnv NonGlobal) (alone (var 0)) c

pub global : by_clause (slice u8) ≡ env_says true Yes
global = refl

pub of_parameter : by_clause (slice (rigid 0)) ≡ env_says false Yes
of_parameter = refl

pub of_variable : by_clause (slice (var 0)) ≡ env_says false AMBIGUOUS
of_variable = refl

pub of_bound : by_clause (slice bound) ≡ env_says false Yes
of_bound = refl

-- a placeholder of another universe says nothing
pub of_inner : by_clause (slice (rigid_above 1)) ≡ env_says true Yes
of_inner = refl

-- what is nested deeper isn't looked at, if it may still say something
pub too_deep_down : by_clause (slice (slice (slice (rigid 0)))) ≡ env_says false too_deep
too_deep_down = refl

pub deep_and_plain : by_clause (slice (slice (slice u8))) ≡ env_says true Yes
deep_and_plain = refl
