-- Unsizing on the small judge: each row, and what refuses it. Nested goals of traits stay open there, so that their answers are ambiguous.
use Rattle.std.proofs.Common.{◌≡◌, refl, ℕ, true, false, List, [], ◌∷◌, ◌++◌, Some, None}
use Rattle.ir_trees.specs.declared.decl.definition.AdtShape.TheVariants as Shape
use Rattle.ir_trees.specs.declared.decl.definition.DefinitionKind.TheVariants as D
use Rattle.ir_trees.specs.declared.decl.definition.TraitFlags.{TraitFlags}
use Rattle.ir_trees.specs.declared.ir.heads.Builtin.TheVariants as B
use Rattle.ir_trees.specs.declared.ir.heads.ConstHead.TheVariants as C
use Rattle.ir_trees.specs.declared.ir.heads.Head.TheVariants as H
use Rattle.ir_trees.specs.declared.ir.heads.PartHead.TheVariants as P
use Rattle.ir_trees.specs.declared.ir.heads.PredHead.{PredHead}
use Rattle.ir_trees.specs.declared.ir.heads.PredHead.TheVariants as PH
use Rattle.ir_trees.specs.declared.ir.kinds.PredicatePolarity.TheVariants as Pol
use Rattle.ir_trees.specs.declared.ir.kinds.RegionKind.TheVariants as R
use Rattle.ir_trees.specs.Declarations.Context.{Context}
use Rattle.ir_trees.specs.Declarations.Limits.{first_limits}
use Rattle.ir_trees.specs.Declarations.Declaration.{Declaration}
use Rattle.ir_trees.specs.Declarations.Declaring.{nothing}
use Rattle.ir_trees.specs.Instantiation.Folding.{leaf}
use Rattle.ir_trees.specs.Syntax.Trees.{none, tree, Tree}
use Rattle.candidate_eval.specs.declared.eval.mode.TypingMode.TheVariants.{PostAnalysis}
use Rattle.candidate_eval.specs.declared.eval.certainty.Certainty.{Certainty}
use Rattle.candidate_eval.specs.declared.eval.certainty.Certainty.TheVariants.{Yes}
use Rattle.candidate_eval.specs.declared.eval.source.BuiltinImplSource.TheVariants.{Misc, TraitUpcasting}
use Rattle.candidate_eval.specs.declared.eval.source.CandidateSource.TheVariants.{BuiltinImpl}
use Rattle.candidate_eval.specs.Outcomes.Certainties.{AMBIGUOUS}
use Rattle.candidate_eval.specs.Derivations.Naming.{row_of}
use Rattle.candidate_eval.specs.Judges.States.{State}
use Rattle.candidate_eval.proofs.Cases.RuleToy.{judge, start_with, u8, u16, slice, param, var}
use Rattle.candidate_assembly.specs.Rules.BuiltinRules.{holds_of, pair_of}
use Rattle.candidate_assembly.specs.Answers.Listing.{answers}
use Rattle.candidate_assembly.specs.Rules.Unsizing.{unsizing_rules}
use Rattle.candidate_assembly.proofs.Cases.ShownLists.{Shown, Row, show}

-- Traits: 0 is `Unsize`, 1 the supertrait B of 2, which is A; 3 and 4 are auto traits; of 5 no objects can be made. 6 is `Sized`. The
-- structure 7 holds a value of its first parameter and one of its second, which unsizing may change; 8 has none that it may change.

abbrev pub flags : TraitFlags
flags = record { auto = false; alias = false; unsafe_ = false; fundamental = false; dyn_compatible = true; default = false; by_head = false; marker = false }

abbrev pub of_trait : TraitFlags → Declaration
of_trait f = record { crate = record { 0 = 0 }; parameters = []; kind = D.Trait f 0 }

abbrev pub of_struct : ℕ → Declaration
of_struct n = record {
  crate = record { 0 = 0 };
  parameters = [];
  kind = D.Adt Shape.Struct (record { fundamental = false; phantom_data = false; manually_drop = false; unsafe_fields = false }) n;
}

abbrev pub auto : TraitFlags
auto = record flags { auto = true }

abbrev pub types : Context
types = record {
  crates = 1;
  local = record { 0 = 0 };
  limits = first_limits;
  declarations = of_trait flags ∷ of_trait flags ∷ of_trait flags ∷ of_trait auto ∷ of_trait auto ∷ of_trait (record flags { dyn_compatible = false }) ∷ of_trait flags
      ∷ of_struct 0 ∷ of_struct 1 ∷ [];
  contents = record nothing {
    adts = record { fields = record { 0 = 0 } ∷ record { 0 = 1 } ∷ []; sized = None; meta_sized = None; destructor = None; unsizing = 1 ∷ [] }
        ∷ record { fields = record { 0 = 0 } ∷ []; sized = None; meta_sized = None; destructor = None; unsizing = [] } ∷ [];
    lang_items = Some (record { 0 = 6 }) ∷ [];
  };
  trees = param 0 ∷ param 1 ∷ [];
  declared_nodes = 2;
  delayed_bugs = [];
}

abbrev pub start : State
start = start_with PostAnalysis 1

-- Types.

abbrev pub bound : PredHead → List Tree → Tree
bound h ts = record { head = H.Part (P.Pred h); children = tree (H.Part P.Vars) none (row_of ts) }

abbrev pub principal : ℕ → List Tree → Tree
principal i ts = bound (PH.Trait (record { 0 = i })) ts

abbrev pub says : ℕ → List Tree → Tree
says i ts = bound (PH.Projection (record { 0 = i })) ts

abbrev pub also : ℕ → Tree
also i = bound (PH.AutoTrait (record { 0 = i })) []

abbrev pub dyn : List Tree → Tree
dyn bs = record { head = H.Dynamic; children = row_of (bs ++ leaf (H.Region R.Static) ∷ []) }

abbrev pub array : Tree → Tree
array t = record { head = H.Builtin B.Array; children = pair_of t (leaf (H.Const (C.Value 3))) }

abbrev pub struct : ℕ → Tree → Tree → Tree
struct n t u = record { head = H.Adt (record { 0 = n }); children = pair_of t u }

-- the supertraits of `dyn A`: A, and B of `u8`
abbrev pub supers : Tree → List Tree
supers t = holds_of (record { 0 = 2 }) Pol.Positive none (row_of (t ∷ [])) ∷ holds_of (record { 0 = 1 }) Pol.Positive none (row_of (t ∷ u8 ∷ [])) ∷ []

-- What is told of each rule that isn't refused.

abbrev pub with_supers : List Tree → Tree → Tree → Shown
with_supers ts from to =
    show (answers (judge []) start (unsizing_rules types ts (record { env = none; reference = record { trait = 0; arguments = pair_of from to }; polarity = Pol.Positive }) to))

abbrev pub unsized : Tree → Tree → Shown
unsized from to = with_supers [] from to

-- of an object of A
abbrev pub upcast : Tree → Tree → Shown
upcast from to = with_supers (supers from) from to

abbrev pub by_misc : Certainty → Shown
by_misc c = Row ((BuiltinImpl Misc, c) ∷ [])

abbrev pub by_upcast : Certainty → Shown
by_upcast c = Row ((BuiltinImpl (TraitUpcasting 1), c) ∷ [])

pub variable_is_ambiguous : unsized (array u8) (var 0) ≡ by_misc AMBIGUOUS
variable_is_ambiguous = refl

-- The principal stays, or goes.

pub to_the_same : upcast (dyn (principal 2 [] ∷ also 3 ∷ [])) (dyn (principal 2 [] ∷ also 3 ∷ [])) ≡ by_misc Yes
to_the_same = refl

pub auto_trait_dropped : upcast (dyn (principal 2 [] ∷ also 3 ∷ [])) (dyn (principal 2 [] ∷ [])) ≡ by_misc Yes
auto_trait_dropped = refl

pub auto_trait_missing : upcast (dyn (principal 2 [] ∷ also 3 ∷ [])) (dyn (principal 2 [] ∷ also 4 ∷ [])) ≡ Row []
auto_trait_missing = refl

pub principal_dropped : upcast (dyn (principal 2 [] ∷ also 3 ∷ [])) (dyn (also 3 ∷ [])) ≡ by_misc Yes
principal_dropped = refl

pub no_principal_to_get : unsized (dyn (also 3 ∷ [])) (dyn (principal 2 [] ∷ [])) ≡ Row []
no_principal_to_get = refl

-- Upcasting.

pub to_supertrait : upcast (dyn (principal 2 [] ∷ [])) (dyn (principal 1 (u8 ∷ []) ∷ [])) ≡ by_upcast Yes
to_supertrait = refl

pub to_supertrait_of_other_type : upcast (dyn (principal 2 [] ∷ [])) (dyn (principal 1 (u16 ∷ []) ∷ [])) ≡ Row []
to_supertrait_of_other_type = refl

pub to_other_trait : upcast (dyn (principal 2 [] ∷ [])) (dyn (principal 5 [] ∷ [])) ≡ Row []
to_other_trait = refl

-- the target's projection bound, by one that the source has
pub projection_matches :
    upcast (dyn (principal 2 [] ∷ says 9 (u8 ∷ u16 ∷ []) ∷ [])) (dyn (principal 1 (u8 ∷ []) ∷ says 9 (u8 ∷ u16 ∷ []) ∷ [])) ≡ by_upcast Yes
projection_matches = refl

pub projection_differs :
    upcast (dyn (principal 2 [] ∷ says 9 (u8 ∷ u16 ∷ []) ∷ [])) (dyn (principal 1 (u8 ∷ []) ∷ says 9 (u8 ∷ u8 ∷ []) ∷ [])) ≡ Row []
projection_differs = refl

pub projection_missing : upcast (dyn (principal 2 [] ∷ [])) (dyn (principal 1 (u8 ∷ []) ∷ says 9 (u8 ∷ u16 ∷ []) ∷ [])) ≡ Row []
projection_missing = refl

-- two of the source's match, and neither is taken
pub two_projections_match :
    upcast (dyn (principal 2 [] ∷ says 9 (u8 ∷ u16 ∷ []) ∷ says 9 (var 0 ∷ u16 ∷ []) ∷ [])) (dyn (principal 1 (u8 ∷ []) ∷ says 9 (u8 ∷ u16 ∷ []) ∷ [])) ≡ by_upcast AMBIGUOUS
two_projections_match = refl

-- Any type to `dyn`.

pub to_object : unsized u8 (dyn (principal 2 [] ∷ also 3 ∷ [])) ≡ by_misc AMBIGUOUS
to_object = refl

pub to_auto_traits : unsized u8 (dyn (also 3 ∷ [])) ≡ by_misc AMBIGUOUS
to_auto_traits = refl

pub no_objects : unsized u8 (dyn (principal 5 [] ∷ [])) ≡ Row []
no_objects = refl

-- Arrays.

pub array_of_the_same : unsized (array u8) (slice u8) ≡ by_misc Yes
array_of_the_same = refl

pub array_of_others : unsized (array u8) (slice u16) ≡ Row []
array_of_others = refl

pub array_of_variables : unsized (array (var 0)) (slice u16) ≡ by_misc Yes
array_of_variables = refl

-- Structures.

pub struct_by_its_tail : unsized (struct 7 u8 (array u16)) (struct 7 u8 (slice u16)) ≡ by_misc AMBIGUOUS
struct_by_its_tail = refl

pub struct_by_another : unsized (struct 7 u8 (array u16)) (struct 7 u16 (slice u16)) ≡ Row []
struct_by_another = refl

pub struct_without_parameters : unsized (struct 8 u8 u8) (struct 8 u8 u8) ≡ Row []
struct_without_parameters = refl

pub to_another_struct : unsized (struct 7 u8 u8) (struct 8 u8 u8) ≡ Row []
to_another_struct = refl

pub nothing_else : unsized u8 u16 ≡ Row []
nothing_else = refl
