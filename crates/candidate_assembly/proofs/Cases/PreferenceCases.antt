-- Which candidates win, row by row, on small lists.
use Rattle.std.proofs.Common.{◌≡◌, refl, ℕ, false, [], ◌∷◌, Option, Some, None, List, map}
use Rattle.std.specs.Prelude.{option_map}
use Rattle.ir_trees.specs.declared.decl.contents.AliasBoundKind.TheVariants.{NonSelfBounds, SelfBounds}
use Rattle.ir_trees.specs.declared.decl.contents.ImplId.{ImplId}
use Rattle.ir_trees.specs.declared.decl.contents.ImplPolarity.TheVariants as I
use Rattle.ir_trees.specs.Declarations.Context.{Context}
use Rattle.ir_trees.specs.Declarations.Limits.{first_limits}
use Rattle.ir_trees.specs.Declarations.Contents.{Impl}
use Rattle.ir_trees.specs.Declarations.Declaring.{nothing}
use Rattle.ir_trees.specs.Unification.Substitutions.{alone}
use Rattle.ir_trees.specs.Syntax.Trees.{Forest, none}
use Rattle.candidate_eval.specs.declared.eval.certainty.Certainty.{Certainty}
use Rattle.candidate_eval.specs.declared.eval.certainty.Certainty.TheVariants.{Yes}
use Rattle.candidate_eval.specs.declared.eval.mode.TypingMode.{TypingMode}
use Rattle.candidate_eval.specs.declared.eval.mode.TypingMode.TheVariants.{Coherence, PostAnalysis}
use Rattle.candidate_eval.specs.declared.eval.source.BuiltinImplSource.TheVariants as Builtin
use Rattle.candidate_eval.specs.declared.eval.source.CandidateSource.{CandidateSource}
use Rattle.candidate_eval.specs.declared.eval.source.CandidateSource.TheVariants as Source
use Rattle.candidate_eval.specs.declared.eval.source.ParamEnvSource.TheVariants.{Global, NonGlobal}
use Rattle.candidate_eval.specs.Outcomes.Certainties.{AMBIGUOUS}
use Rattle.candidate_eval.specs.Outcomes.Responses.{Candidate}
use Rattle.candidate_eval.proofs.Cases.RuleToy.{judge, slice, start_with, u8}
use Rattle.candidate_assembly.specs.declared.assembly.specialization.AllowInferenceConstraints.TheVariants as Allow
use Rattle.candidate_assembly.specs.declared.trait_goals.preference.CandidatePreferenceMode.{CandidatePreferenceMode}
use Rattle.candidate_assembly.specs.declared.trait_goals.preference.CandidatePreferenceMode.TheVariants.{Default, Marker}
use Rattle.candidate_assembly.specs.declared.assembly.merging.TraitGoalProvenVia.{TraitGoalProvenVia}
use Rattle.candidate_assembly.specs.declared.assembly.merging.TraitGoalProvenVia.TheVariants.{AliasBound, Misc, ParamEnv}
use Rattle.candidate_assembly.specs.Answers.Preference.{Proved, answer_by, preferred}
use Rattle.candidate_assembly.specs.Answers.Specialization.{unspecialized}

abbrev impl : ℕ → ImplId
impl n = record { 0 = n }

abbrev special : List ImplId → Impl
special ns = record {
  crate = record { 0 = 0 };
  parameters = [];
  trait_ref = record { def_id = record { 0 = 0 }; args = record { 0 = 0 } };
  polarity = I.Positive;
  is_default = false;
  wheres = [];
  super_outlives = [];
  specializes = ns;
  values = [];
}

-- Impl 1 specialises impl 0, and impl 2 impl 1, but not impl 0.
abbrev types : Context
types = record {
  crates = 1;
  local = record { 0 = 0 };
  limits = first_limits;
  declarations = [];
  contents = record nothing { impls = special [] ∷ special (impl 0 ∷ []) ∷ special (impl 1 ∷ []) ∷ [] };
  trees = [];
  declared_nodes = 0;
  delayed_bugs = [];
}

-- a candidate that gives the root variables these values
abbrev with_values : Forest → CandidateSource → Certainty → Candidate
with_values ts s c = record { source = s; result = record { vars = []; values = ts; regions = []; certainty = c } }

-- one that finds nothing of variables
abbrev plain : CandidateSource → Certainty → Candidate
plain s c = with_values none s c

abbrev show : Option Proved → Option (Certainty × Option TraitGoalProvenVia)
show a = option_map (λ (p : Proved). (p.0.certainty, p.1)) a

abbrev answer : TypingMode → CandidatePreferenceMode → List Candidate → Option (Certainty × Option TraitGoalProvenVia)
answer t m xs = show (answer_by (judge []) (start_with t 1) (preferred types t m xs))

abbrev by_default : List Candidate → Option (Certainty × Option TraitGoalProvenVia)
by_default xs = answer PostAnalysis Default xs

abbrev trivial : CandidateSource
trivial = Source.BuiltinImpl Builtin.Trivial

abbrev object : CandidateSource
object = Source.BuiltinImpl (Builtin.Object 0)

abbrev local : CandidateSource
local = Source.ParamEnv NonGlobal

abbrev global : CandidateSource
global = Source.ParamEnv Global

abbrev own_bound : CandidateSource
own_bound = Source.AliasBound SelfBounds

abbrev outer_bound : CandidateSource
outer_bound = Source.AliasBound NonSelfBounds

-- in coherence all are merged
pub in_coherence : answer Coherence Default (plain (Source.Impl (impl 0)) AMBIGUOUS ∷ plain (Source.Impl (impl 1)) Yes ∷ []) ≡ Some (Yes, Some Misc)
in_coherence = refl

pub in_coherence_no_row_applies : answer Coherence Default (plain (Source.Impl (impl 0)) AMBIGUOUS ∷ plain trivial Yes ∷ plain local Yes ∷ []) ≡ Some (Yes, Some Misc)
in_coherence_no_row_applies = refl

-- the trivial one wins, whatever it is
pub trivial_wins : by_default (plain trivial AMBIGUOUS ∷ plain local Yes ∷ []) ≡ Some (AMBIGUOUS, Some Misc)
trivial_wins = refl

-- a clause of the environment before bounds of aliases, but for markers, where a bound of the alias itself
pub environment_before_aliases : by_default (plain local AMBIGUOUS ∷ plain own_bound Yes ∷ []) ≡ Some (AMBIGUOUS, Some ParamEnv)
environment_before_aliases = refl

pub aliases_before_environment : answer PostAnalysis Marker (plain local AMBIGUOUS ∷ plain own_bound Yes ∷ []) ≡ Some (Yes, Some AliasBound)
aliases_before_environment = refl

pub outer_bounds_after_environment : answer PostAnalysis Marker (plain local AMBIGUOUS ∷ plain outer_bound Yes ∷ []) ≡ Some (AMBIGUOUS, Some ParamEnv)
outer_bounds_after_environment = refl

-- with a bound of the alias itself win all bounds of aliases
pub outer_bounds_win_with_own : answer PostAnalysis Marker (plain outer_bound Yes ∷ plain own_bound AMBIGUOUS ∷ []) ≡ Some (Yes, Some AliasBound)
outer_bounds_win_with_own = refl

-- global clauses win with others, and don't merge with these where they say something else
pub global_wins_with_local : by_default (plain local AMBIGUOUS ∷ plain global Yes ∷ []) ≡ Some (Yes, Some ParamEnv)
global_wins_with_local = refl

pub environment_differs : by_default (with_values (alone u8) local Yes ∷ with_values (alone (slice u8)) global Yes ∷ []) ≡ Some (AMBIGUOUS, None)
environment_differs = refl

-- bounds of aliases before impls and before global clauses
pub aliases_before_impls : by_default (plain (Source.Impl (impl 0)) Yes ∷ plain global Yes ∷ plain outer_bound AMBIGUOUS ∷ []) ≡ Some (AMBIGUOUS, Some AliasBound)
aliases_before_impls = refl

-- global clauses where there is nothing else
pub global_alone : by_default (plain global Yes ∷ []) ≡ Some (Yes, Some ParamEnv)
global_alone = refl

pub global_after_impls : by_default (plain global Yes ∷ plain (Source.Impl (impl 0)) AMBIGUOUS ∷ []) ≡ Some (AMBIGUOUS, Some Misc)
global_after_impls = refl

pub nothing_is_refused : by_default [] ≡ None
nothing_is_refused = refl

-- an object's own bounds before impls, unless they find values of variables
pub objects_before_impls : by_default (plain object AMBIGUOUS ∷ plain (Source.Impl (impl 0)) Yes ∷ []) ≡ Some (AMBIGUOUS, Some Misc)
objects_before_impls = refl

pub objects_beside_impls : by_default (with_values (alone u8) object AMBIGUOUS ∷ plain (Source.Impl (impl 0)) Yes ∷ []) ≡ Some (Yes, Some Misc)
objects_beside_impls = refl

-- impls that others specialise go, if these find no values of variables
pub special_case_wins : by_default (plain (Source.Impl (impl 0)) Yes ∷ plain (Source.Impl (impl 1)) AMBIGUOUS ∷ []) ≡ Some (AMBIGUOUS, Some Misc)
special_case_wins = refl

pub special_case_finds_values : by_default (plain (Source.Impl (impl 0)) Yes ∷ with_values (alone u8) (Source.Impl (impl 1)) AMBIGUOUS ∷ []) ≡ Some (Yes, Some Misc)
special_case_finds_values = refl

-- Which stay, from the front on.

abbrev sources : List Candidate → List CandidateSource
sources xs = map (λ (x : Candidate). x.source) xs

abbrev of_impls : List ℕ → List Candidate
of_impls ns = map (λ n. plain (Source.Impl (impl n)) Yes) ns

abbrev stay : List ℕ → List CandidateSource
stay ns = sources (unspecialized types PostAnalysis Allow.No (of_impls ns))

pub each_goes_by_the_next : stay (0 ∷ 1 ∷ 2 ∷ []) ≡ Source.Impl (impl 2) ∷ []
each_goes_by_the_next = refl

-- what is gone no longer counts
pub gone_before : stay (1 ∷ 0 ∷ 2 ∷ []) ≡ Source.Impl (impl 0) ∷ Source.Impl (impl 2) ∷ []
gone_before = refl

pub values_allowed : sources (unspecialized types PostAnalysis Allow.Yes (plain (Source.Impl (impl 0)) Yes ∷ with_values (alone u8) (Source.Impl (impl 1)) Yes ∷ [])) ≡ Source.Impl (impl 1) ∷ []
values_allowed = refl

pub all_stay_in_coherence : sources (unspecialized types Coherence Allow.Yes (of_impls (0 ∷ 1 ∷ []))) ≡ Source.Impl (impl 0) ∷ Source.Impl (impl 1) ∷ []
all_stay_in_coherence = refl
