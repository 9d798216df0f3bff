-- What a kind of goals gives, as data: all of assembly is defined over it.
use Rattle.std.specs.Prelude.{◌≡◌, ℕ, Bool, true, false, ◌&&◌, Option, Some, List, [], ◌∷◌, ◌++◌, if◌then◌else◌}
use Rattle.ir_trees.specs.declared.decl.contents.ImplId.{ImplId}
use Rattle.ir_trees.specs.declared.decl.contents.Sizedness.{Sizedness}
use Rattle.ir_trees.specs.declared.ir.heads.ClauseHead.TheVariants as Cl
use Rattle.ir_trees.specs.declared.ir.heads.Head.{Head}
use Rattle.ir_trees.specs.declared.ir.heads.Head.TheVariants as H
use Rattle.ir_trees.specs.declared.ir.heads.PartHead.TheVariants as P
use Rattle.ir_trees.specs.declared.ir.kinds.Args.{Args}
use Rattle.ir_trees.specs.declared.ir.kinds.ClosureKind.{ClosureKind}
use Rattle.ir_trees.specs.declared.ir.kinds.ParamEnv.{ParamEnv}
use Rattle.ir_trees.specs.declared.ir.kinds.Ty.{Ty}
use Rattle.ir_trees.specs.declared.ir.unify.RightSide.TheVariants as S
use Rattle.ir_trees.specs.Syntax.Binders.{escapes}
use Rattle.ir_trees.specs.Declarations.Context.{Context, world}
use Rattle.ir_trees.specs.Hierarchy.Supers.{after_first}
use Rattle.ir_trees.specs.Syntax.Trees.{TypeKind, Forest, Tree, holds, is_param}
use Rattle.ir_trees.specs.Unification.Unify.{may_unify}
use Rattle.ir_trees.specs.Validity.WellFormed.{TypesFit}
use Rattle.ir_trees.specs.Syntax.Words.{IsArgs, IsParamEnv}
use Rattle.ir_trees.specs.Declarations.Worlds.{Reference, TraitSort, joined, kinds_of, parameters}
use Rattle.candidate_eval.specs.declared.eval.mode.TypingMode.{TypingMode}
use Rattle.candidate_eval.specs.declared.eval.source.CandidateSource.{CandidateSource}
use Rattle.candidate_eval.specs.Builtins.Callable.{all_but_last, is_unknown}
use Rattle.candidate_eval.specs.declared.eval.certainty.Certainty.{Certainty}
use Rattle.candidate_eval.specs.Outcomes.Certainties.{AMBIGUOUS}
use Rattle.candidate_eval.specs.Derivations.Judging.{Judged, Refused, answered, continued, run, start}
use Rattle.candidate_eval.specs.Derivations.Mentions.{IsBelow}
use Rattle.candidate_eval.specs.Dynamic.ObjectRequirements.{first_tree}
use Rattle.candidate_eval.specs.Outcomes.Responses.{Response}
use Rattle.candidate_eval.specs.Derivations.Rules.{Step, Rule, Ending, ask}
use Rattle.candidate_eval.specs.Judges.States.{Env, State, Judge}

-- The rules that the language has for some traits.
pub data BuiltinRule : Type 0 where
  ErrorRule : BuiltinRule
  AutoTraitRule : BuiltinRule
  TraitAliasRule : BuiltinRule
  SizednessRule : Sizedness → BuiltinRule
  CopyCloneRule : BuiltinRule
  FnTraitRule : ClosureKind → BuiltinRule
  FnPtrTraitRule : BuiltinRule
  TupleRule : BuiltinRule
  PointeeRule : BuiltinRule
  DiscriminantKindRule : BuiltinRule
  DestructRule : BuiltinRule
  NoDropRule : BuiltinRule

-- An impl's rule before what its closure does: whether it applies, its steps, and the certainty that the closure is given.
pub record ImplPart : Type 0 where
  pub applies : Bool
  pub steps : List Step
  pub certainty : Certainty

-- What a kind of goals says of a goal.
pub record KindRules (G : Type 0) : Type 0 where
  pub env_of : G → Env
  pub reference_of : Context → G → Reference
  -- the trees of its predicate, and the goal with another self type
  pub trees_of : G → Forest
  pub with_self_type : G → Tree → G
  -- quick rejection of a clause: whether one with the head may serve, and what is compared with its arguments
  pub fits : Context → G → Head → Bool
  pub compared : G → Forest
  -- how a clause is matched, whose variables are the rule's first
  pub match_steps : G → Tree → List Step
  -- the rule of an impl, and those of the language
  pub impl_part : Context → TypingMode → G → ImplId → ImplPart
  pub builtin_rule : BuiltinRule → Context → G → Rule
  -- whether an object has to fulfil what its trait asks for, where a bound of its own is to prove a goal
  pub asks_of_objects : Bool

-- The arguments that a clause is compared by: those of its trait, or of its associated type.
abbrev pub arguments_by : Head → Forest → Forest
arguments_by (H.Part (P.Clause (Cl.Projection i))) below = all_but_last below
arguments_by h below = below

abbrev pub compared_arguments : Tree → Forest
compared_arguments c = arguments_by c.head (after_first c.children)

-- a clause passes quick rejection
abbrev pub passes : {G : Type 0} → KindRules G → Context → G → Tree → Bool
passes K c g t = K.fits c g t.head && may_unify S.Plain (K.compared g) (compared_arguments t)

abbrev pub self_type : {G : Type 0} → KindRules G → Context → G → Tree
self_type K c g = first_tree (K.reference_of c g).arguments

-- What makes up a goal: its numbers are of the context, its reference has the arguments that its trait takes, and neither a parameter nor
-- an escaping bound variable stands in it. By its parts: the numbers that it holds, and how its rules see it.
pub record IsGoal {G P : Type 0} (K : KindRules G) (arguments_of : P → Args) (types_of : P → List Ty) (see : List Tree → ParamEnv → P → G) (c : Context) (e : ParamEnv) (p : P) : Type 0 where
  pub env : IsParamEnv c.trees e
  pub arguments : IsArgs c.trees (arguments_of p)
  pub types : TypesFit c.trees (types_of p)
  pub fit : joined (Some (TypeKind ∷ [])) (parameters (world c) TraitSort (K.reference_of c (see c.trees e p)).trait) ≡ Some (kinds_of (K.reference_of c (see c.trees e p)).arguments)
  pub no_parameter : holds is_param (K.trees_of (see c.trees e p)) ≡ false
  pub is_closed : escapes 0 (K.trees_of (see c.trees e p)) ≡ false

-- its self type is neither a general variable nor a bound type, as the tables ask
abbrev pub HasKnownSelfType : {G : Type 0} → KindRules G → Context → G → Type 0
HasKnownSelfType K c g = is_unknown (self_type K c g).head ≡ false

-- A goal mentions no other variables than the first n.
pub record GoalBelow {G : Type 0} (K : KindRules G) (n : ℕ) (g : G) : Type 0 where
  pub env : IsBelow n (K.env_of g)
  pub trees : IsBelow n (K.trees_of g)

-- A clause that a goal can be matched with: it passes quick rejection, and no parameter stands in it.
pub record IsAssumption {G : Type 0} (K : KindRules G) (c : Context) (g : G) (t : Tree) : Type 0 where
  pub passes : passes K c g t ≡ true
  pub no_parameter : holds is_param t.children ≡ false

-- A goal says the same where a context has grown.
pub record SaysTheSame {G P : Type 0} (K : KindRules G) (see : List Tree → ParamEnv → P → G) (old new : Context) (env : ParamEnv) (p : P) : Type 0 where
  pub seen : see new.trees env p ≡ see old.trees env p
  pub reference : K.reference_of new (see old.trees env p) ≡ K.reference_of old (see old.trees env p)
  pub fits : (h : Head) → K.fits new (see old.trees env p) h ≡ K.fits old (see old.trees env p) h

-- What is judged of steps, where k says what the closure answers that is asked then.
abbrev pub steps_judged : Judge → Env → State → CandidateSource → List Step → (State → Option Response) → Judged
steps_judged J e S s steps k = continued J (ask s AMBIGUOUS) (run J e (start S) steps) (λ q. answered s (k q.state))

-- of an impl, and of a clause that is matched
abbrev pub part_judged : Judge → Env → State → CandidateSource → ImplPart → (State → Option Response) → Judged
part_judged J e S s p k = if p.applies then steps_judged J e S s p.steps k else Refused

abbrev pub clause_judged : {G : Type 0} → KindRules G → Judge → Context → State → G → CandidateSource → Tree → (State → Option Response) → Judged
clause_judged K J c S g s t k = if passes K c g t then steps_judged J (K.env_of g) S s (K.match_steps g t) k else Refused

-- the rule of an impl, and of a clause that is matched and followed by more steps
abbrev pub rule_of_part : Env → CandidateSource → ImplPart → Rule
rule_of_part e s p = record { env = e; applies = p.applies; steps = p.steps; ending = ask s p.certainty }

abbrev pub match_rule : {G : Type 0} → KindRules G → Context → G → Tree → List Step → Ending → Rule
match_rule K c g t more end = record { env = K.env_of g; applies = passes K c g t; steps = K.match_steps g t ++ more; ending = end }
