-- Lists on the small judge: what opaque types give, which rule a trait has, and what shadows impls.
use Rattle.std.proofs.Common.{◌≡◌, refl, ℕ, Bool, true, false, [], ◌∷◌, Some, None}
use Rattle.ir_trees.specs.declared.decl.contents.AliasBoundKind.TheVariants.{SelfBounds}
use Rattle.ir_trees.specs.declared.decl.contents.ImplPolarity.{ImplPolarity}
use Rattle.ir_trees.specs.declared.decl.contents.ImplPolarity.TheVariants as I
use Rattle.ir_trees.specs.declared.decl.contents.Sizedness.TheVariants as S
use Rattle.ir_trees.specs.declared.decl.definition.DefinitionKind.TheVariants as D
use Rattle.ir_trees.specs.declared.decl.definition.TraitFlags.{TraitFlags}
use Rattle.ir_trees.specs.declared.ir.heads.Head.TheVariants as H
use Rattle.ir_trees.specs.declared.ir.heads.ListHead.TheVariants as L
use Rattle.ir_trees.specs.declared.ir.kinds.AliasKind.TheVariants as AK
use Rattle.ir_trees.specs.declared.ir.kinds.PredicatePolarity.TheVariants as Pol
use Rattle.ir_trees.specs.declared.ir.kinds.VarKind.TheVariants as K
use Rattle.ir_trees.specs.Declarations.Context.{Context}
use Rattle.ir_trees.specs.Declarations.Limits.{first_limits}
use Rattle.ir_trees.specs.Declarations.Contents.{Impl}
use Rattle.ir_trees.specs.Declarations.Declaration.{Declaration}
use Rattle.ir_trees.specs.Declarations.Declaring.{nothing}
use Rattle.ir_trees.specs.Unification.Substitutions.{alone}
use Rattle.ir_trees.specs.Syntax.Trees.{none, Tree}
use Rattle.candidate_eval.specs.declared.eval.mode.TypingMode.{TypingMode}
use Rattle.candidate_eval.specs.declared.eval.mode.TypingMode.TheVariants.{Analysis, Coherence, PostAnalysis}
use Rattle.candidate_eval.specs.declared.eval.certainty.Certainty.TheVariants.{Yes, Maybe}
use Rattle.candidate_eval.specs.declared.eval.certainty.MaybeCause.TheVariants.{Ambiguity}
use Rattle.candidate_eval.specs.declared.eval.certainty.OpaqueTypesJank.TheVariants.{ErrorIfRigidSelfTy}
use Rattle.candidate_eval.specs.declared.eval.source.BuiltinImplSource.TheVariants.{Misc}
use Rattle.candidate_eval.specs.declared.eval.source.CandidateSource.TheVariants as Source
use Rattle.candidate_eval.specs.Outcomes.Certainties.{AMBIGUOUS}
use Rattle.candidate_eval.specs.Derivations.ImplRules.{TraitGoal}
use Rattle.candidate_eval.specs.Judges.States.{Judge}
use Rattle.candidate_eval.proofs.Cases.RuleToy.{judge, start_with, u8, slice, param, rigid, var, meets}
use Rattle.candidate_assembly.specs.Answers.Assembled.{rule_of_trait, impl_rules, leaves_out, where_rules}
use Rattle.candidate_assembly.specs.Goals.Kinds.{AutoTraitRule, SizednessRule}
use Rattle.candidate_assembly.specs.Answers.Listing.{Listed, Lists, Stops, answers}
use Rattle.candidate_assembly.specs.declared.assembly.opaques.AssembleCandidatesFrom.{AssembleCandidatesFrom}
use Rattle.candidate_assembly.specs.declared.assembly.opaques.AssembleCandidatesFrom.TheVariants.{All, EnvAndBounds}
use Rattle.candidate_assembly.specs.Rules.Opaques.{variable_answers}
use Rattle.candidate_assembly.specs.Goals.TraitRules.{trait_rules}
use Rattle.candidate_assembly.proofs.Cases.ShownLists.{Shown, Row, show}

-- Traits 0 to 3: a plain one; an auto trait; one that is `MetaSized` and `Copy`; one that is `Unsize` alone. The opaque type 4 has one
-- bound: that trait 0 holds of it.

abbrev flags : TraitFlags
flags = record { auto = false; alias = false; unsafe_ = false; fundamental = false; dyn_compatible = true; default = false; by_head = false; marker = false }

abbrev of_trait : ℕ → TraitFlags → Declaration
of_trait n f = record { crate = record { 0 = 0 }; parameters = []; kind = D.Trait f n }

abbrev hidden : Tree
hidden = record { head = H.Alias AK.Opaque (record { 0 = 4 }); children = none }

abbrev one_impl : ImplPolarity → ℕ → Impl
one_impl p n = record {
  crate = record { 0 = 0 };
  parameters = K.Ty ∷ [];
  trait_ref = record { def_id = record { 0 = 0 }; args = record { 0 = n } };
  polarity = p;
  is_default = false;
  wheres = [];
  super_outlives = [];
  specializes = [];
  values = [];
}

-- The impls of trait 0: for all types; for slices; a default one for all; a reservation for all; and that it doesn't hold of any type.
abbrev types : Context
types = record {
  crates = 1;
  local = record { 0 = 0 };
  limits = first_limits;
  declarations = of_trait 0 flags ∷ of_trait 1 (record flags { auto = true }) ∷ of_trait 1 flags ∷ of_trait 1 flags
      ∷ record { crate = record { 0 = 0 }; parameters = []; kind = D.Opaque (record { 0 = 2 }) 0 } ∷ [];
  contents = record nothing {
    traits = record { supers = []; wheres = []; items = []; impls = record { 0 = 0 } ∷ record { 0 = 1 } ∷ record { 0 = 2 } ∷ record { 0 = 3 } ∷ record { 0 = 4 } ∷ [] }
        ∷ record { supers = []; wheres = []; items = []; impls = [] } ∷ [];
    bounds = record { self_bounds = record { 0 = 3 } ∷ []; non_self_bounds = [] } ∷ [];
    impls = one_impl I.Positive 0 ∷ one_impl I.Positive 1 ∷ record (one_impl I.Positive 0) { is_default = true } ∷ one_impl I.Reservation 0 ∷ one_impl I.Negative 0 ∷ [];
    lang_items = None ∷ Some (record { 0 = 2 }) ∷ Some (record { 0 = 2 }) ∷ None ∷ None ∷ None ∷ None ∷ None ∷ None ∷ None ∷ None ∷ None ∷ None ∷ None ∷ None
        ∷ Some (record { 0 = 3 }) ∷ [];
  };
  trees = record { head = H.List L.Args; children = alone (param 0) } ∷ record { head = H.List L.Args; children = alone (slice (param 0)) } ∷ u8 ∷ meets 0 hidden ∷ [];
  declared_nodes = 4;
  delayed_bugs = [];
}

-- Which rule the language has for a trait.

pub rule_of_auto_trait : rule_of_trait types 1 ≡ Some AutoTraitRule
rule_of_auto_trait = refl

-- of two items the first
pub rule_of_two_items : rule_of_trait types 2 ≡ Some (SizednessRule S.MetaSized)
rule_of_two_items = refl

pub no_rule_for_unsizing : rule_of_trait types 3 ≡ None
no_rule_for_unsizing = refl

pub no_rule : rule_of_trait types 0 ≡ None
no_rule = refl

-- Goals of trait 0.

abbrev goal : Tree → TraitGoal
goal t = record { env = none; reference = record { trait = 0; arguments = alone t }; polarity = Pol.Positive }

abbrev impls_of : TypingMode → Tree → Shown
impls_of m t = show (answers (judge []) (start_with m 1) (impl_rules trait_rules types m (goal t)))

-- a default impl gives none, a reservation one in coherence alone, a negative impl none
pub impls_for_slices : impls_of PostAnalysis (slice u8) ≡ Row ((Source.Impl (record { 0 = 0 }), Yes) ∷ (Source.Impl (record { 0 = 1 }), Yes) ∷ [])
impls_for_slices = refl

pub impls_for_bytes : impls_of PostAnalysis u8 ≡ Row ((Source.Impl (record { 0 = 0 }), Yes) ∷ [])
impls_for_bytes = refl

pub impls_in_coherence : impls_of Coherence u8 ≡ Row ((Source.Impl (record { 0 = 0 }), Yes) ∷ (Source.Impl (record { 0 = 3 }), AMBIGUOUS) ∷ [])
impls_in_coherence = refl

-- A general variable, with an opaque type behind it and with none.

abbrev with_opaque : Judge
with_opaque = record (judge []) { opaques = λ S t. hidden ∷ [] }

abbrev of_variable : Judge → TypingMode → ℕ → AssembleCandidatesFrom → Shown
of_variable J m n from =
    show (variable_answers trait_rules J types (start_with m 1) (record { env = none; reference = record { trait = n; arguments = alone (var 0) }; polarity = Pol.Positive }) from)

pub nothing_behind : of_variable (judge []) Analysis 0 All ≡ Row ((Source.BuiltinImpl Misc, AMBIGUOUS) ∷ [])
nothing_behind = refl

-- opaque types are looked for in one mode alone
pub not_looked_for : of_variable with_opaque PostAnalysis 0 All ≡ Row ((Source.BuiltinImpl Misc, AMBIGUOUS) ∷ [])
not_looked_for = refl

-- of the impls for all types those that leave the variable open
pub opaque_and_impls : of_variable with_opaque Analysis 0 All ≡ Row ((Source.AliasBound SelfBounds, AMBIGUOUS) ∷ (Source.Impl (record { 0 = 0 }), AMBIGUOUS) ∷ [])
opaque_and_impls = refl

pub opaque_alone : of_variable with_opaque Analysis 0 EnvAndBounds ≡ Row ((Source.AliasBound SelfBounds, AMBIGUOUS) ∷ [])
opaque_alone = refl

pub nothing_said : of_variable with_opaque Analysis 2 All ≡ Row ((Source.BuiltinImpl Misc, Maybe (record { cause = Ambiguity; opaque_types_jank = ErrorIfRigidSelfTy })) ∷ [])
nothing_said = refl

-- Impls are left out by a clause on a placeholder, which asks for nothing; not by one that gives the goal's variable a value, and never in
-- coherence.

abbrev left_out_by : TypingMode → Listed → Bool
left_out_by m (Lists xs) = leaves_out m xs
left_out_by m (Stops s) = false

abbrev by_clause : TypingMode → Tree → Tree → Bool
by_clause m given t =
    left_out_by m (answers (judge []) (start_with m 1) (where_rules trait_rules types (record { env = alone (meets 0 given); reference = record { trait = 0; arguments = alone t }; polarity = Pol.Positive })))

pub left_out : by_clause PostAnalysis (rigid 0) (rigid 0) ≡ true
left_out = refl

pub kept_beside_a_constraint : by_clause PostAnalysis (slice (rigid 0)) (slice (var 0)) ≡ false
kept_beside_a_constraint = refl

pub kept_beside_a_global_clause : by_clause PostAnalysis u8 u8 ≡ false
kept_beside_a_global_clause = refl

pub kept_in_coherence : by_clause Coherence (rigid 0) (rigid 0) ≡ false
kept_in_coherence = refl
