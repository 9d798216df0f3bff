-- The list of all ways in which a goal can be proved, in its order.
use Rattle.std.specs.Prelude.{◌≡◌, ◌≤◌, ℕ, Bool, true, false, not, ◌&&◌, Option, Some, None, List, [], ◌∷◌, map, count_by, if◌then◌else◌, Result, IfOk}
use Rattle.std.specs.List.{list_any}
use Rattle.ir_trees.specs.declared.decl.contents.ImplId.{ImplId}
use Rattle.ir_trees.specs.declared.decl.contents.LangItem.{LangItem}
use Rattle.ir_trees.specs.declared.decl.contents.LangItem.TheVariants as L
use Rattle.ir_trees.specs.declared.decl.contents.Sizedness.TheVariants as S
use Rattle.ir_trees.specs.declared.ir.heads.Flag.TheVariants as F
use Rattle.ir_trees.specs.declared.ir.kinds.ClosureKind.TheVariants as C
use Rattle.ir_trees.specs.declared.ir.stop.Stop.{Stop}
use Rattle.ir_trees.specs.Declarations.Context.{Context}
use Rattle.ir_trees.specs.Validity.Faults.{all_items}
use Rattle.ir_trees.specs.Syntax.Flags.{mark}
use Rattle.ir_trees.specs.Unification.Impls.{relevant_impls}
use Rattle.ir_trees.specs.Syntax.Trees.{Tree, holds}
use Rattle.candidate_eval.specs.declared.eval.mode.TypingMode.{TypingMode}
use Rattle.candidate_eval.specs.declared.eval.source.CandidateSource.{CandidateSource}
use Rattle.candidate_eval.specs.declared.eval.source.CandidateSource.TheVariants as Source
use Rattle.candidate_eval.specs.declared.eval.source.ParamEnvSource.TheVariants.{NonGlobal}
use Rattle.candidate_eval.specs.declared.eval.source.BuiltinImplSource.TheVariants as Builtin
use Rattle.candidate_eval.specs.Derivations.ImplRules.{TraitGoal}
use Rattle.candidate_eval.specs.Derivations.Judging.{Judged, Gives, Refused, Stopped, source_of}
use Rattle.candidate_eval.specs.Knowability.Orphan.{is_general}
use Rattle.candidate_eval.specs.Dynamic.Required.{each_of}
use Rattle.candidate_eval.specs.Outcomes.Responses.{Candidate, has_no_inference_or_external_constraints}
use Rattle.candidate_eval.specs.Derivations.Rules.{Rule, characterise, settle}
use Rattle.candidate_eval.specs.Judges.States.{State, Judge, resolved}
pub use Rattle.candidate_eval.specs.Judges.Modes.{is_coherence}
use Rattle.candidate_assembly.specs.declared.assembly.opaques.AssembleCandidatesFrom.{AssembleCandidatesFrom}
use Rattle.candidate_assembly.specs.declared.assembly.opaques.AssembleCandidatesFrom.TheVariants.{All, EnvAndBounds}
use Rattle.candidate_assembly.specs.Rules.AliasBounds.{ChainComes}
use Rattle.candidate_assembly.specs.Rules.BuiltinRules.{flag_of_trait}
use Rattle.candidate_assembly.specs.Goals.KindBounds.{KindBounds, UnsizingList}
use Rattle.candidate_assembly.specs.Goals.Kinds.{BuiltinRule, ErrorRule, AutoTraitRule, TraitAliasRule, SizednessRule, CopyCloneRule, FnTraitRule, FnPtrTraitRule, TupleRule, PointeeRule, DiscriminantKindRule, DestructRule, NoDropRule, KindRules, match_rule, rule_of_part, self_type}
use Rattle.candidate_assembly.specs.Answers.Listing.{Listed, Lists, Stops, GoesOn, answers, together}
use Rattle.candidate_assembly.specs.Rules.ObjectBounds.{ObjectList}
use Rattle.candidate_assembly.specs.Rules.Opaques.{non_default_impls, variable_answers}
use Rattle.candidate_assembly.specs.Goals.TraitGoals.{is_item}
use Rattle.candidate_assembly.specs.Goals.TraitRules.{trait_bounds, trait_rules}
use Rattle.candidate_assembly.specs.Rules.Unknowable.{UnknowableJudged}
use Rattle.candidate_eval.specs.declared.eval.response.Candidate.{Candidate as OfNumbers}

-- The rule of the language for a trait, by its name.

abbrev pub rule_of_item : LangItem → Option BuiltinRule
rule_of_item L.Sized = Some (SizednessRule S.Sized)
rule_of_item L.MetaSized = Some (SizednessRule S.MetaSized)
rule_of_item L.Copy = Some CopyCloneRule
rule_of_item L.Clone = Some CopyCloneRule
rule_of_item L.TrivialClone = Some CopyCloneRule
rule_of_item L.Fn = Some (FnTraitRule C.Fn)
rule_of_item L.FnMut = Some (FnTraitRule C.FnMut)
rule_of_item L.FnOnce = Some (FnTraitRule C.FnOnce)
rule_of_item L.FnPtrTrait = Some FnPtrTraitRule
rule_of_item L.Tuple = Some TupleRule
rule_of_item L.PointeeTrait = Some PointeeRule
rule_of_item L.DiscriminantKind = Some DiscriminantKindRule
rule_of_item L.Destruct = Some DestructRule
rule_of_item L.Drop = None
rule_of_item L.BikeshedGuaranteedNoDrop = Some NoDropRule
rule_of_item L.Unsize = None

abbrev pub or_else : Option BuiltinRule → Option BuiltinRule → Option BuiltinRule
or_else None other = other
or_else (Some r) other = Some r

-- the rule of the first of these items that the trait is and that has one
abbrev pub rule_among : Context → ℕ → List LangItem → Option BuiltinRule
rule_among c n [] = None
rule_among c n (i ∷ is) = or_else (if is_item c i n then rule_of_item i else None) (rule_among c n is)

-- An auto trait and a trait alias have their rules whatever items they are.
abbrev pub rule_of_trait : Context → ℕ → Option BuiltinRule
rule_of_trait c n =
    if flag_of_trait (λ f. f.auto) c n then Some AutoTraitRule
    else (if flag_of_trait (λ f. f.alias) c n then Some TraitAliasRule
    else rule_among c n all_items)

-- Sources that count.

abbrev pub is_of_environment : CandidateSource → Bool
is_of_environment (Source.ParamEnv s) = true
is_of_environment _ = false

abbrev pub is_local_assumption : CandidateSource → Bool
is_local_assumption (Source.ParamEnv NonGlobal) = true
is_local_assumption (Source.AliasBound b) = true
is_local_assumption _ = false

-- A clause that isn't global, or a bound of an alias, which asks for nothing of its own: impls and objects would lose against it.
abbrev pub shadows : Candidate → Bool
shadows x = is_local_assumption x.source && has_no_inference_or_external_constraints x.result

abbrev pub is_shadowed : List Candidate → Bool
is_shadowed xs = list_any shadows xs

abbrev pub has_where_bound : List Candidate → Bool
has_where_bound xs = list_any (λ (x : Candidate). is_of_environment x.source) xs

-- Outside of coherence impls and objects are left out where something shadows them.
abbrev pub leaves_out : TypingMode → List Candidate → Bool
leaves_out m xs = not (is_coherence m) && is_shadowed xs

-- What the rules alone say of a goal, one part after the other.
module _ {G : Type 0} (K : KindRules G) (c : Context) where
  abbrev pub trait_of : G → ℕ
  trait_of g = (K.reference_of c g).trait

  abbrev pub where_rule : G → Tree → Rule
  where_rule g t = match_rule K c g t (settle ∷ []) (characterise t)

  abbrev pub where_rules : G → List Rule
  where_rules g = map (where_rule g) (each_of (K.env_of g))

  abbrev pub rule_name : G → Option BuiltinRule
  rule_name g = if holds (mark F.Error) (K.trees_of g) then Some ErrorRule else rule_of_trait c (trait_of g)

  abbrev pub named_rules : G → Option BuiltinRule → List Rule
  named_rules g None = []
  named_rules g (Some r) = K.builtin_rule r c g ∷ []

  abbrev pub language_rules : G → List Rule
  language_rules g = named_rules g (rule_name g)

  abbrev pub impl_rule : TypingMode → G → ImplId → Rule
  impl_rule m g n = rule_of_part (K.env_of g) (Source.Impl n) (K.impl_part c m g n)

  abbrev pub impl_rules : TypingMode → G → List Rule
  impl_rules m g = map (impl_rule m g) (non_default_impls c (relevant_impls c (trait_of g) (self_type K c g)))

module _ {G : Type 0} (K : KindRules G) (B : KindBounds G) (c : Context) where
  abbrev pub resolved_goal : State → G → G
  resolved_goal S g = B.with_trees g (resolved S (K.env_of g)) (resolved S (K.trees_of g))

  module _ (J : Judge) where
    -- the answer by what is unknowable
    abbrev pub Unknowable : State → G → Judged → Type 0
    Unknowable S g = UnknowableJudged J c S (K.env_of g) (K.reference_of c g)

    -- Impls and objects follow what is there, unless they are left out.
    pub data ThenImplsAndObjects (S : State) (g : G) (xs : List Candidate) : Listed → Type 0 where
      left_out : leaves_out S.mode xs ≡ true → ThenImplsAndObjects S g xs (Lists xs)
      stopped : {s : Stop} → leaves_out S.mode xs ≡ false → answers J S (impl_rules K c S.mode g) ≡ Stops s → ThenImplsAndObjects S g xs (Stops s)
      followed : {l : Listed} → leaves_out S.mode xs ≡ false → ObjectList K J c S g l → ThenImplsAndObjects S g xs (together (Lists xs) (together (answers J S (impl_rules K c S.mode g)) l))

    -- Unsizing, for goals of its trait.
    pub data IfUnsizing (S : State) (g : G) : Listed → Type 0 where
      not_asked : is_item c L.Unsize (trait_of K c g) ≡ false → IfUnsizing S g (Lists [])
      asked : {l : Listed} → is_item c L.Unsize (trait_of K c g) ≡ true → UnsizingList K B J c S g l → IfUnsizing S g l

    pub record ThenUnsizing (S : State) (g : G) (xs : List Candidate) (l : Listed) : Type 0 where
      pub unsized : Listed
      pub by_unsizing : IfUnsizing S g unsized
      pub further : GoesOn (ThenImplsAndObjects S g) (together (Lists xs) unsized) l

    -- After bounds of aliases and where-bounds: the language's rule, unsizing, impls and objects; or objects alone where no clause of the
    -- environment served.
    pub data AfterWhereBounds (S : State) (g : G) (xs : List Candidate) : AssembleCandidatesFrom → Listed → Type 0 where
      everything : {l : Listed} → GoesOn (ThenUnsizing S g) (together (Lists xs) (answers J S (language_rules K c g))) l → AfterWhereBounds S g xs All l
      by_clauses : has_where_bound xs ≡ true → AfterWhereBounds S g xs EnvAndBounds (Lists xs)
      by_objects : {l : Listed} → has_where_bound xs ≡ false → ObjectList K J c S g l → AfterWhereBounds S g xs EnvAndBounds (together (Lists xs) l)

    -- Bounds of aliases, where-bounds in the order of the environment, and what follows them.
    pub record AllKnown (S : State) (g : G) (from : AssembleCandidatesFrom) (l : Listed) : Type 0 where
      pub by_aliases : Listed
      pub chain : ChainComes K B.additional J c g S by_aliases
      pub further : GoesOn (λ xs. AfterWhereBounds S g xs from) (together by_aliases (answers J S (where_rules K c g))) l

    -- In coherence what is unknowable is all that there is.
    pub data Assembled (S : State) (g : G) (from : AssembleCandidatesFrom) : Listed → Type 0 where
      outside : {l : Listed} → is_coherence S.mode ≡ false → AllKnown S g from l → Assembled S g from l
      alone : {x : Candidate} → is_coherence S.mode ≡ true → Unknowable S g (Gives x) → Assembled S g from (Lists (x ∷ []))
      stops : {s : Stop} → is_coherence S.mode ≡ true → Unknowable S g (Stopped s) → Assembled S g from (Stops s)
      knowable : {l : Listed} → is_coherence S.mode ≡ true → Unknowable S g Refused → AllKnown S g from l → Assembled S g from l

    -- The list of a goal whose self type has that normal form: a general variable is answered by opaque types; else by all that is known of
    -- the goal, resolved.
    pub data OfNormalSelfType (S : State) (g : G) (t : Tree) (from : AssembleCandidatesFrom) : Listed → Type 0 where
      variable : is_general t.head ≡ true → OfNormalSelfType S g t from (variable_answers K J c S (K.with_self_type g t) from)
      others : {l : Listed} → is_general t.head ≡ false → Assembled S (resolved_goal S (K.with_self_type g t)) from l → OfNormalSelfType S g t from l

    -- The list of a goal, and the state that normalising its self type leaves; where that is refused the list is empty.
    pub data IsAssembled (S : State) (g : G) (from : AssembleCandidatesFrom) : Listed → State → Type 0 where
      refused : J.normalized S (K.env_of g) (self_type K c g) ≡ None → IsAssembled S g from (Lists []) S
      normal : {t : Tree} {T : State} {l : Listed} → J.normalized S (K.env_of g) (self_type K c g) ≡ Some (t, T) → OfNormalSelfType T g t from l → IsAssembled S g from l T

-- How many of the candidates win over all others.

abbrev pub is_trivial : CandidateSource → Bool
is_trivial (Source.BuiltinImpl Builtin.Trivial) = true
is_trivial _ = false

-- One at most does: of a goal of a trait the language has one rule.
abbrev pub HasOneTrivial : Listed → Type 0
HasOneTrivial (Lists xs) = count_by (λ (x : Candidate). is_trivial x.source) xs ≤ 1
HasOneTrivial (Stops s) = Unit {0}

abbrev pub OneTrivial : Judge → Context → Type 0
OneTrivial J c = (S T : State) (g : TraitGoal) (from : AssembleCandidatesFrom) (l : Listed) → IsAssembled trait_rules trait_bounds c J S g from l T → HasOneTrivial l

-- Rules whose candidates have other sources than what wins over all others.
abbrev pub HaveOtherSources : List Rule → Type 0
HaveOtherSources [] = Unit {0}
HaveOtherSources (r ∷ rs) = (is_trivial (source_of r.ending) ≡ false) × HaveOtherSources rs

-- What a kind of goals adds at aliases, and its rules for unsizing, have other sources.
pub record AddsOthers {G : Type 0} (B : KindBounds G) (c : Context) : Type 0 where
  pub additional : (g : G) (t : Tree) → HaveOtherSources (B.additional c g t)
  pub unsizing : (supers : List Tree) (g : G) (t : Tree) → HaveOtherSources (B.unsizing_rules c supers g t)

-- An answered list has one at most.
abbrev pub AnswersOneTrivial : {A : Type 0} → (A → List OfNumbers) → Result A Stop → Type 0
AnswersOneTrivial items result = IfOk result (λ a. count_by (λ (x : OfNumbers). is_trivial x.source) (items a) ≤ 1)
