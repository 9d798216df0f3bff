-- Goals whose self type is a general variable: what the opaque types say that may be hidden behind it.
use Rattle.std.specs.Prelude.{◌≡◌, ℕ, Bool, true, false, not, Option, Some, None, List, [], ◌∷◌, ◌++◌, map, if◌then◌else◌}
use Rattle.std.specs.List.{All as Each, filter, flat_map}
use Rattle.ir_trees.specs.declared.decl.contents.AliasBoundKind.TheVariants.{SelfBounds}
use Rattle.ir_trees.specs.declared.decl.contents.ImplId.{ImplId}
use Rattle.ir_trees.specs.Declarations.Context.{Context}
use Rattle.ir_trees.specs.Declarations.Contents.{Impl}
use Rattle.ir_trees.specs.Declarations.Declaring.{impl_at}
use Rattle.ir_trees.specs.Hierarchy.Elaboration.{same_tree}
use Rattle.ir_trees.specs.Instantiation.Folding.{Answers, fold_tree}
use Rattle.ir_trees.specs.Instantiation.Folds.{is_asked}
use Rattle.ir_trees.specs.Unification.Impls.{blanket_impls}
use Rattle.ir_trees.specs.Declarations.Lookups.{maybe}
use Rattle.ir_trees.specs.declared.ir.kinds.AliasTy.{AliasTy}
use Rattle.ir_trees.specs.declared.ir.kinds.Clause.{Clause}
use Rattle.ir_trees.specs.Instantiation.Owned.{is_unsolved}
use Rattle.ir_trees.specs.Unification.Substitutions.{alone}
use Rattle.ir_trees.specs.Syntax.Trees.{Tree, tree_holds}
use Rattle.ir_trees.specs.Syntax.Words.{clause_tree}
use Rattle.candidate_eval.specs.declared.eval.mode.TypingMode.{TypingMode}
use Rattle.candidate_eval.specs.declared.eval.mode.TypingMode.TheVariants.{Analysis}
use Rattle.candidate_eval.specs.declared.eval.source.CandidateSource.TheVariants as Source
use Rattle.candidate_eval.specs.declared.eval.certainty.Certainty.{Certainty}
use Rattle.candidate_eval.specs.declared.eval.certainty.Certainty.TheVariants.{Maybe}
use Rattle.candidate_eval.specs.declared.eval.certainty.MaybeCause.TheVariants.{Ambiguity}
use Rattle.candidate_eval.specs.declared.eval.certainty.OpaqueTypesJank.TheVariants.{ErrorIfRigidSelfTy}
use Rattle.candidate_eval.specs.Outcomes.Certainties.{AMBIGUOUS, certainty_and}
use Rattle.candidate_eval.specs.Derivations.Mentions.{IsBelow}
use Rattle.candidate_eval.specs.Knowability.Orphan.{is_general}
use Rattle.candidate_eval.specs.Dynamic.Required.{self_bounds}
use Rattle.candidate_eval.specs.Outcomes.Responses.{Candidate, Response}
use Rattle.candidate_eval.specs.Derivations.Rules.{Rule, ask, still_general}
use Rattle.candidate_eval.specs.Judges.States.{Env, State, Judge, resolved_tree}
use Rattle.candidate_assembly.specs.declared.assembly.opaques.AssembleCandidatesFrom.{AssembleCandidatesFrom}
use Rattle.candidate_assembly.specs.declared.assembly.opaques.AssembleCandidatesFrom.TheVariants.{All, EnvAndBounds}
use Rattle.candidate_assembly.specs.Rules.AliasBounds.{alias_bounds}
use Rattle.candidate_assembly.specs.Goals.Kinds.{ImplPart, KindRules, match_rule, self_type}
use Rattle.candidate_assembly.specs.Answers.Listing.{Listed, Lists, after_list, answers}
use Rattle.candidate_assembly.specs.Answers.Telling.{asking_rule}

-- A clause with one type in the place of another, which no binder of the clause reaches.

abbrev pub type_for : Tree → Tree → Tree → Option Tree
type_for old new t = if same_tree t old then Some new else None

abbrev pub with_type_for : Tree → Tree → Tree → Tree
with_type_for old new c = fold_tree (λ d t. type_for old new t) 0 c

-- the same where a fold may answer: of lists and of parts of nodes none is a type
abbrev pub answer_for : Tree → Tree → Answers
answer_for old new d t = if is_asked t.head then type_for old new t else None

-- A clause that is said of the variable. That the variable is the opaque type isn't known.
abbrev pub ambiguous_rule : {G : Type 0} → KindRules G → Context → G → Tree → Rule
ambiguous_rule K c g x = match_rule K c g x [] (ask (Source.AliasBound SelfBounds) AMBIGUOUS)

-- The bounds of the opaque type itself, said of another type; of the variable they are rules.

abbrev pub bounds_said : Context → Tree → Tree → List Tree
bounds_said c new t = map (with_type_for t new) (alias_bounds c SelfBounds t)

-- no variable stands in them as they are declared
abbrev pub AreClosedBounds : Context → AliasTy → Type 0
AreClosedBounds c a = Each (λ x. tree_holds is_unsolved (clause_tree c.trees x) ≡ false) (self_bounds c a.id.0)

abbrev pub opaque_rules : {G : Type 0} → KindRules G → Context → G → Tree → List Rule
opaque_rules K c g t = map (ambiguous_rule K c g) (bounds_said c (self_type K c g) t)

-- Impls that others specialise are no rules of their own.

abbrev pub is_default_impl : Context → ImplId → Bool
is_default_impl c n = maybe false (λ (i : Impl). i.is_default) (impl_at c n)

abbrev pub non_default_impls : Context → List ImplId → List ImplId
non_default_impls c ns = filter (λ n. not (is_default_impl c n)) ns

-- An impl for any type serves, if it leaves open what the variable is.
abbrev pub open_impl_rule : Env → ImplId → Tree → ImplPart → Rule
open_impl_rule e n t p = record { env = e; applies = p.applies; steps = p.steps ++ still_general t ∷ []; ending = ask (Source.Impl n) (certainty_and p.certainty AMBIGUOUS) }

abbrev pub open_rule_of : {G : Type 0} → KindRules G → Context → TypingMode → G → ImplId → Rule
open_rule_of K c m g n = open_impl_rule (K.env_of g) n (self_type K c g) (K.impl_part c m g n)

abbrev pub open_rules : {G : Type 0} → KindRules G → Context → TypingMode → G → List Rule
open_rules K c m g = map (open_rule_of K c m g) (non_default_impls c (blanket_impls c (K.reference_of c g).trait))

-- Clauses mention no other variables than the first n.
abbrev pub AreBelow : List Tree → ℕ → List Clause → Type 0
AreBelow ts n xs = Each (λ x. IsBelow n (alone (clause_tree ts x))) xs

-- What is answered after the impl's steps: nothing, if the type is no general variable any more.
abbrev pub responded_if_general : Judge → Tree → Certainty → State → Option Response
responded_if_general J t certainty S = if is_general (resolved_tree S t).head then J.responded S certainty else None

-- Opaque types are looked for where their hidden types are being found out.
abbrev pub hidden_behind : Judge → State → Tree → TypingMode → List Tree
hidden_behind J S t Analysis = J.opaques S t
hidden_behind J S t _ = []

module _ {G : Type 0} (K : KindRules G) (J : Judge) (c : Context) where
  abbrev pub open_impl_rules : TypingMode → G → AssembleCandidatesFrom → List Rule
  open_impl_rules m g EnvAndBounds = []
  open_impl_rules m g All = open_rules K c m g

  -- Nothing said anything: an answer too little is known for, and an error should the variable become a rigid type.
  abbrev pub or_rigid : State → G → List Candidate → Listed
  or_rigid S g [] = answers J S (asking_rule (K.env_of g) true (Maybe (record { cause = Ambiguity; opaque_types_jank = ErrorIfRigidSelfTy })) ∷ [])
  or_rigid S g (x ∷ xs) = Lists (x ∷ xs)

  abbrev pub by_opaques : State → G → AssembleCandidatesFrom → List Tree → Listed
  by_opaques S g from [] = answers J S (asking_rule (K.env_of g) true AMBIGUOUS ∷ [])
  by_opaques S g from (t ∷ ts) = after_list (answers J S (flat_map (opaque_rules K c g) (t ∷ ts) ++ open_impl_rules S.mode g from)) (or_rigid S g)

  abbrev pub variable_answers : State → G → AssembleCandidatesFrom → Listed
  variable_answers S g from = by_opaques S g from (hidden_behind J S (self_type K c g) S.mode)
