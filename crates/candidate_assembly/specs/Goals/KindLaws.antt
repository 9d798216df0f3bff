-- The laws of a kind of goals: what its rules mention, that they stay where a context grows, and what a goal with other trees holds.
use Rattle.std.specs.Prelude.{◌≡◌, ℕ, Bool, true, false, Some, List, [], ◌∷◌}
use Rattle.std.specs.List.{All}
use Rattle.ir_trees.specs.declared.decl.contents.ImplId.{ImplId}
use Rattle.ir_trees.specs.declared.ir.heads.Head.{Head}
use Rattle.ir_trees.specs.declared.ir.heads.Head.TheVariants as H
use Rattle.ir_trees.specs.declared.ir.kinds.Args.{Args}
use Rattle.ir_trees.specs.declared.ir.kinds.Clause.{Clause}
use Rattle.ir_trees.specs.declared.ir.kinds.ParamEnv.{ParamEnv}
use Rattle.ir_trees.specs.declared.ir.kinds.Ty.{Ty}
use Rattle.ir_trees.specs.Syntax.Binders.{escapes}
use Rattle.ir_trees.specs.Declarations.Context.{Context, Grows, world}
use Rattle.ir_trees.specs.Declarations.References.{IsWellFormed}
use Rattle.ir_trees.specs.Unification.Substitutions.{alone}
use Rattle.ir_trees.specs.Syntax.Trees.{TypeKind, Forest, Tree, holds}
use Rattle.ir_trees.specs.Validity.WellFormed.{IsWellFormedTable}
use Rattle.ir_trees.specs.Syntax.Words.{IsClause, clause_tree}
use Rattle.ir_trees.specs.Declarations.Worlds.{Reference, TraitSort, Fits, joined, kinds_of, parameters}
use Rattle.candidate_eval.specs.declared.eval.mode.TypingMode.{TypingMode}
use Rattle.candidate_eval.specs.Derivations.Mentions.{IsBelow, RuleBelow, StepsBelow}
use Rattle.candidate_eval.specs.Judges.States.{Env, State, resolved, resolved_tree}
use Rattle.candidate_assembly.specs.Goals.KindBounds.{KindBounds}
use Rattle.candidate_assembly.specs.Goals.Kinds.{BuiltinRule, GoalBelow, IsGoal, KindRules, passes, self_type}
use Rattle.candidate_assembly.specs.Goals.TraitGoals.{with_first}
use Rattle.candidate_assembly.specs.Rules.ObjectBounds.{HasArguments}
use Rattle.candidate_assembly.specs.Answers.Assembled.{AddsOthers}

-- The rules mention no other variables than the goal, and what they are made of besides.
pub record RulesBelow {G P : Type 0} (K : KindRules G) (B : KindBounds G) (arguments_of : P → Args) (types_of : P → List Ty) (see : List Tree → ParamEnv → P → G) : Type 0 where
  -- by a clause
  pub matches : (n : ℕ) (g : G) (clause : Tree) → IsBelow n (K.trees_of g) → IsBelow n (alone clause) → StepsBelow n (K.match_steps g clause)
  -- by an impl: what is declared mentions no variable
  pub impls : (c : Context) → IsWellFormedTable c → (n : ℕ) (mode : TypingMode) (g : G) (of : ImplId) → IsBelow n (K.trees_of g) → StepsBelow n (K.impl_part c mode g of).steps
  -- by the language
  pub builtins : (c : Context) → IsWellFormedTable c → IsWellFormed c → (n : ℕ) (r : BuiltinRule) (env : ParamEnv) (p : P) → IsGoal K arguments_of types_of see c env p
      → GoalBelow K n (see c.trees env p) → RuleBelow n (K.builtin_rule r c (see c.trees env p))
  -- at an alias
  pub additional : (c : Context) → IsWellFormedTable c → (n : ℕ) (g : G) (alias : Tree) → GoalBelow K n g → IsBelow n (alone alias) → All (RuleBelow n) (B.additional c g alias)

-- The arguments of the goal's reference are those that its trait takes, and so are all that stand in them.
pub record ReferenceFits {G : Type 0} (K : KindRules G) (c : Context) (g : G) : Type 0 where
  pub takes : joined (Some (TypeKind ∷ [])) (parameters (world c) TraitSort (K.reference_of c g).trait) ≡ Some (kinds_of (K.reference_of c g).arguments)
  pub fits : Fits (world c) (K.reference_of c g).arguments

-- What is said of a goal stays where a context grows.
pub record RulesStay {G : Type 0} (K : KindRules G) (B : KindBounds G) : Type 0 where
  pub reference : (old new : Context) → IsWellFormedTable old → Grows old new → (g : G) → K.reference_of new g ≡ K.reference_of old g
  pub fits : (old new : Context) → IsWellFormedTable old → Grows old new → (g : G) (h : Head) → K.fits new g h ≡ K.fits old g h
  pub impls : (old new : Context) → IsWellFormedTable old → Grows old new → (mode : TypingMode) (g : G) (of : ImplId) → K.impl_part new mode g of ≡ K.impl_part old mode g of
  pub builtins : (old new : Context) → IsWellFormedTable old → Grows old new → (g : G) → ReferenceFits K old g → (r : BuiltinRule) → K.builtin_rule r new g ≡ K.builtin_rule r old g
  pub additional : (old new : Context) → IsWellFormedTable old → Grows old new → (g : G) (alias : Tree) → B.additional new g alias ≡ B.additional old g alias
  pub unsizing : (old new : Context) → IsWellFormedTable old → Grows old new → (supers : List Tree) (g : G) (target : Tree)
      → B.unsizing_rules new supers g target ≡ B.unsizing_rules old supers g target

-- A reference with another self type, and with a state's values put in: its trait stays.

abbrev pub with_self_argument : Tree → Reference → Reference
with_self_argument t r = record { trait = r.trait; arguments = with_first t r.arguments }

abbrev pub resolved_reference : State → Reference → Reference
resolved_reference S r = record { trait = r.trait; arguments = resolved S r.arguments }

-- A goal with another self type holds nothing that neither it nor the type holds; one with other trees holds these.
pub record TreesChange {G : Type 0} (K : KindRules G) (B : KindBounds G) : Type 0 where
  pub same_env : (g : G) (t : Tree) → K.env_of (K.with_self_type g t) ≡ K.env_of g
  pub self_type_is : (c : Context) (g : G) (t : Tree) → self_type K c (K.with_self_type g t) ≡ t
  -- the self type alone is replaced: the trait stays, and so does each other argument
  pub self_type_alone : (c : Context) (g : G) (t : Tree) → K.reference_of c (K.with_self_type g t) ≡ with_self_argument t (K.reference_of c g)
  -- the arguments of the reference stand among the goal's trees, and so does the self type
  pub reference_holds : (mark : Head → Bool) (c : Context) (g : G) → holds mark (K.trees_of g) ≡ false → holds mark (K.reference_of c g).arguments ≡ false
  pub self_type_holds : (mark : Head → Bool) (c : Context) (g : G) → mark H.Error ≡ false → holds mark (K.trees_of g) ≡ false → holds mark (alone (self_type K c g)) ≡ false
  pub self_type_escapes : (n : ℕ) (c : Context) (g : G) → escapes n (K.trees_of g) ≡ false → escapes n (alone (self_type K c g)) ≡ false
  pub holds_no_more : (mark : Head → Bool) (g : G) (t : Tree) → holds mark (K.trees_of g) ≡ false → holds mark (alone t) ≡ false → holds mark (K.trees_of (K.with_self_type g t)) ≡ false
  pub escapes_no_more : (n : ℕ) (g : G) (t : Tree) → escapes n (K.trees_of g) ≡ false → escapes n (alone t) ≡ false → escapes n (K.trees_of (K.with_self_type g t)) ≡ false
  pub put_env : (g : G) (e : Env) (ts : Forest) → K.env_of (B.with_trees g e ts) ≡ e
  pub put_trees : (g : G) (e : Env) (ts : Forest) → K.trees_of (B.with_trees g e ts) ≡ ts
  -- where all values are put in, they are put into the reference
  pub put_reference : (S : State) (c : Context) (g : G) (e : Env) → K.reference_of c (B.with_trees g e (resolved S (K.trees_of g))) ≡ resolved_reference S (K.reference_of c g)
  pub put_self_type : (S : State) (c : Context) (g : G) (e : Env) → self_type K c (B.with_trees g e (resolved S (K.trees_of g))) ≡ resolved_tree S (self_type K c g)

-- A clause of the context that passes quick rejection for a goal has the arguments that the trait takes of which it speaks.
pub record MatchesFit {G P : Type 0} (K : KindRules G) (arguments_of : P → Args) (types_of : P → List Ty) (see : List Tree → ParamEnv → P → G) : Type 0 where
  pub arguments : (c : Context) → IsWellFormedTable c → (env : ParamEnv) (p : P) → IsGoal K arguments_of types_of see c env p → (x : Clause) → IsClause c.trees x
      → passes K c (see c.trees env p) (clause_tree c.trees x) ≡ true → HasArguments c (clause_tree c.trees x)

pub record KindLaws {G P : Type 0} (K : KindRules G) (B : KindBounds G) (arguments_of : P → Args) (types_of : P → List Ty) (see : List Tree → ParamEnv → P → G) : Type 0 where
  pub arguments : (c : Context) → IsWellFormedTable c → (env : ParamEnv) (p : P) → IsGoal K arguments_of types_of see c env p → Fits (world c) (K.reference_of c (see c.trees env p)).arguments
  pub fit : MatchesFit K arguments_of types_of see
  -- what it adds at aliases wins over nothing, and neither do its unsizing rules
  pub adds : (c : Context) → AddsOthers B c
  pub below : RulesBelow K B arguments_of types_of see
  pub stay : RulesStay K B
  pub change : TreesChange K B
