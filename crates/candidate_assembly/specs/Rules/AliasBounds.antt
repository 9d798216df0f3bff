-- The bounds of a goal's self type as an alias, of the alias whose projection that is, and so on.
use Rattle.std.specs.Prelude.{◌≡◌, ℕ, zero, suc, Bool, true, false, ◌||◌, Option, Some, None, List, [], ◌∷◌, ◌++◌, map, if◌then◌else◌}
use Rattle.ir_trees.specs.declared.decl.contents.AliasBoundKind.{AliasBoundKind}
use Rattle.ir_trees.specs.declared.decl.contents.AliasBoundKind.TheVariants.{SelfBounds, NonSelfBounds}
use Rattle.ir_trees.specs.declared.ir.heads.Head.{Head}
use Rattle.ir_trees.specs.declared.ir.heads.Head.TheVariants as H
use Rattle.ir_trees.specs.declared.ir.kinds.AliasKind.TheVariants as AK
use Rattle.ir_trees.specs.declared.ir.kinds.Clause.{Clause}
use Rattle.ir_trees.specs.declared.ir.stop.Stop.TheVariants.{AliasDepth}
use Rattle.ir_trees.specs.Declarations.Context.{Context}
use Rattle.ir_trees.specs.Instantiation.Folding.{substituted_tree}
use Rattle.ir_trees.specs.Syntax.Trees.{Tree}
use Rattle.ir_trees.specs.Syntax.Words.{clause_tree}
use Rattle.candidate_eval.specs.declared.eval.certainty.Certainty.TheVariants.{Yes}
use Rattle.candidate_eval.specs.declared.eval.source.CandidateSource.TheVariants.{AliasBound}
use Rattle.candidate_eval.specs.Outcomes.Certainties.{AMBIGUOUS}
use Rattle.candidate_eval.specs.Dynamic.ObjectRequirements.{first_tree}
use Rattle.candidate_eval.specs.Knowability.Orphan.{is_general}
use Rattle.candidate_eval.specs.Dynamic.Required.{non_self_bounds, self_bounds}
use Rattle.candidate_eval.specs.Derivations.Rules.{Rule, ask}
use Rattle.candidate_eval.specs.Judges.States.{Env, State, Judge}
use Rattle.candidate_assembly.specs.Goals.KindBounds.{Additional}
use Rattle.candidate_assembly.specs.Goals.Kinds.{KindRules, match_rule, self_type}
use Rattle.candidate_assembly.specs.Answers.Listing.{Listed, Lists, Stops, RulesAt, all_answers, answers, together}

-- An alias of a chain: the state at which it stands, and which of its bounds count.
pub record Link : Type 0 where
  pub state : State
  pub alias : Tree
  pub bounds : AliasBoundKind

abbrev pub link : AliasBoundKind → State → Tree → Link
link b S t = record { state = S; alias = t; bounds = b }

-- How a chain ends: with nothing more; at an alias that has no bounds and that no normal form is, of which a fault is noted; at a general
-- variable, behind which further aliases may stand; or at one alias too many.
pub data ChainEnd : Type 0 where
  Done : ChainEnd
  Misplaced : ChainEnd
  AtVariable : State → ChainEnd
  TooLong : ChainEnd

pub record Chain : Type 0 where
  pub links : List Link
  pub end : ChainEnd

abbrev pub ended : ChainEnd → Chain
ended end = record { links = []; end = end }

abbrev pub with_link : Link → Chain → Chain
with_link l c = record { links = l ∷ c.links; end = c.end }

-- Where no alias with bounds stands, by the head. The self type itself is no variable: goals about one are answered otherwise.

abbrev pub at_variable : AliasBoundKind → State → ChainEnd
at_variable SelfBounds S = Done
at_variable NonSelfBounds S = AtVariable S

abbrev pub end_at : AliasBoundKind → State → Head → ChainEnd
end_at b S (H.Alias k i) = Misplaced
end_at b S h = if is_general h then at_variable b S else Done

abbrev pub is_projection : Head → Bool
is_projection (H.Alias AK.Projection i) = true
is_projection _ = false

abbrev pub is_opaque : Head → Bool
is_opaque (H.Alias AK.Opaque i) = true
is_opaque _ = false

abbrev pub has_bounds : Head → Bool
has_bounds h = is_projection h || is_opaque h

abbrev pub go_on : Option (Tree × State) → (State → Tree → Chain) → Chain
go_on None k = ended Done
go_on (Some n) k = k n.1 n.0

abbrev pub by_alias : Chain → Chain → Chain → Head → Chain
by_alias further last other (H.Alias AK.Projection i) = further
by_alias further last other (H.Alias AK.Opaque i) = last
by_alias further last other h = other

-- The chain from a type on, with so many aliases to go. A projection goes on with its self type in normal form, of which the bounds that
-- aren't its own count; a refused normal form ends the chain, and so does an opaque type. What normalising changes stays along it.
abbrev pub chain : Judge → Env → ℕ → AliasBoundKind → State → Tree → Chain
chain J e zero b S t = by_alias (ended TooLong) (ended TooLong) (ended (end_at b S t.head)) t.head
chain J e (suc n) b S t =
    by_alias (with_link (link b S t) (go_on (J.normalized S e (first_tree t.children)) (chain J e n NonSelfBounds))) (with_link (link b S t) (ended Done))
    (ended (end_at b S t.head)) t.head

-- The bounds of an alias that count, with its arguments in the place of parameters.

abbrev pub bounds_of_kind : Context → AliasBoundKind → ℕ → List Clause
bounds_of_kind c SelfBounds n = self_bounds c n
bounds_of_kind c NonSelfBounds n = non_self_bounds c n

abbrev pub bounds_by : Context → AliasBoundKind → Head → List Clause
bounds_by c b (H.Alias k i) = bounds_of_kind c b i.0
bounds_by c b _ = []

abbrev pub alias_bounds : Context → AliasBoundKind → Tree → List Tree
alias_bounds c b t = map (λ (x : Clause). substituted_tree t.children (clause_tree c.trees x)) (bounds_by c b t.head)

-- Each bound is matched, and then what the kind adds.
abbrev pub bound_rules : {G : Type 0} → KindRules G → Context → G → AliasBoundKind → Tree → List Rule
bound_rules K c g b t = map (λ x. match_rule K c g x [] (ask (AliasBound b) Yes)) (alias_bounds c b t)

abbrev pub link_rules : {G : Type 0} → KindRules G → Additional G → Context → G → Link → RulesAt
link_rules K more c g l = record { state = l.state; rules = bound_rules K c g l.bounds l.alias ++ more c g l.alias }

-- too little is known of what stands behind a variable
abbrev pub variable_rule : {G : Type 0} → KindRules G → G → Rule
variable_rule K g = record { env = K.env_of g; applies = true; steps = []; ending = ask (AliasBound NonSelfBounds) AMBIGUOUS }

abbrev pub end_answers : {G : Type 0} → KindRules G → Judge → G → ChainEnd → Listed
end_answers K J g (AtVariable S) = answers J S (variable_rule K g ∷ [])
end_answers K J g TooLong = Stops AliasDepth
end_answers K J g _ = Lists []

-- what a chain comes to, from the self type on
abbrev pub chain_answers : {G : Type 0} → KindRules G → Additional G → Judge → Context → G → Chain → Listed
chain_answers K more J c g ch = together (all_answers J (map (link_rules K more c g) ch.links)) (end_answers K J g ch.end)

-- The chain over an evaluator whose closed probes leave states alike the one before: the bounds of an alias are tried in probes, and then the
-- normal form is asked for at a state alike the one at which the alias stands.
pub data IsChain (J : Judge) (e : Env) : ℕ → AliasBoundKind → State → Tree → Chain → Type 0 where
  no_alias : {n : ℕ} {b : AliasBoundKind} {S : State} {t : Tree} → has_bounds t.head ≡ false → IsChain J e n b S t (ended (end_at b S t.head))
  one_too_many : {b : AliasBoundKind} {S : State} {t : Tree} → has_bounds t.head ≡ true → IsChain J e zero b S t (ended TooLong)
  at_opaque : {n : ℕ} {b : AliasBoundKind} {S : State} {t : Tree} → is_opaque t.head ≡ true → IsChain J e (suc n) b S t (with_link (link b S t) (ended Done))
  no_normal_form : {n : ℕ} {b : AliasBoundKind} {S : State} {t : Tree} (T : State) → is_projection t.head ≡ true → J.alike S T
      → J.normalized T e (first_tree t.children) ≡ None → IsChain J e (suc n) b S t (with_link (link b S t) (ended Done))
  at_projection : {n : ℕ} {b : AliasBoundKind} {S U : State} {t u : Tree} {rest : Chain} (T : State) → is_projection t.head ≡ true → J.alike S T
      → J.normalized T e (first_tree t.children) ≡ Some (u, U) → IsChain J e n NonSelfBounds U u rest → IsChain J e (suc n) b S t (with_link (link b S t) rest)

module _ {G : Type 0} (K : KindRules G) (more : Additional G) (J : Judge) (c : Context) (g : G) where
  -- The chain from the goal's self type on, at a state alike this one, and what it comes to.
  pub record ChainComes (S : State) (l : Listed) : Type 0 where
    pub at : State
    pub alike : J.alike S at
    pub aliases : Chain
    pub is_chain : IsChain J (K.env_of g) J.limits.alias_chain SelfBounds at (self_type K c g) aliases
    pub is : l ≡ chain_answers K more J c g aliases

  -- Where probes leave the very state before, this is what it comes to.
  abbrev pub chain_at_once : State → Listed
  chain_at_once S = chain_answers K more J c g (chain J (K.env_of g) J.limits.alias_chain SelfBounds S (self_type K c g))
