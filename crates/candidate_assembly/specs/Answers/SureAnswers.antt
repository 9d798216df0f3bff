-- What a sure answer to a goal rests on: one rule of the goal, whose side condition holds and whose nested goals are granted.
use Rattle.std.specs.Prelude.{◌≡◌, ◌<◌, ◌≤◌, ℕ, true, false, Option, Some, None, List, Result, IfOk, length}
use Rattle.std.specs.List.{Contains}
use Rattle.ir_trees.specs.declared.decl.contents.AliasBoundKind.{AliasBoundKind}
use Rattle.ir_trees.specs.declared.decl.contents.AliasBoundKind.TheVariants.{NonSelfBounds, SelfBounds}
use Rattle.ir_trees.specs.declared.decl.contents.ImplId.{ImplId}
use Rattle.ir_trees.specs.declared.decl.contents.LangItem.TheVariants as L
use Rattle.ir_trees.specs.Declarations.Context.{Context, world}
use Rattle.ir_trees.specs.Declarations.Worlds.{Fits}
use Rattle.ir_trees.specs.Unification.Impls.{relevant_impls}
use Rattle.ir_trees.specs.Syntax.Trees.{Forest, Tree, holds}
use Rattle.candidate_eval.specs.declared.eval.certainty.Certainty.TheVariants.{Yes}
use Rattle.candidate_eval.specs.declared.eval.refusal.NoSolutionOrStop.{NoSolutionOrStop}
use Rattle.candidate_eval.specs.declared.eval.response.CanonicalResponse.{CanonicalResponse}
use Rattle.candidate_eval.specs.Derivations.ImplRules.{TraitGoal}
use Rattle.candidate_eval.specs.Derivations.Characterization.{Walk, Goes, Finds, characterization}
use Rattle.candidate_eval.specs.Derivations.Judging.{Place, At, Gives, judged, run, start}
use Rattle.candidate_eval.specs.Judges.Lawful.{AnswersYes}
use Rattle.candidate_eval.specs.Dynamic.ObjectRequirements.{first_tree}
use Rattle.candidate_eval.specs.Knowability.Orphan.{is_general}
use Rattle.candidate_eval.specs.Dynamic.Required.{each_of}
use Rattle.candidate_eval.specs.Outcomes.Responses.{Candidate, Response}
use Rattle.candidate_eval.specs.Outcomes.ResponseTrees.{response_of}
use Rattle.candidate_eval.specs.Derivations.Rules.{Rule, Ending, ask, characterise}
use Rattle.candidate_eval.specs.Judges.Alike.{info}
use Rattle.candidate_eval.specs.Judges.Soundness.{GoalsAreOf, IsSound, Live, Stays, ValuesFit, Within, is_strange, universe_in}
use Rattle.candidate_eval.specs.Judges.States.{Env, Goal, Judge, State, VariableInfo, resolved}
use Rattle.candidate_assembly.specs.declared.assembly.merging.TraitGoalProvenVia.{TraitGoalProvenVia}
use Rattle.candidate_assembly.specs.Rules.AliasBounds.{has_bounds, is_projection, link, link_rules}
use Rattle.candidate_assembly.specs.Answers.Assembled.{impl_rule, resolved_goal, rule_name, trait_of, where_rule}
use Rattle.candidate_assembly.specs.Rules.DynBounds.{ArePrincipalSupers}
use Rattle.candidate_assembly.specs.Goals.KindBounds.{KindBounds}
use Rattle.candidate_assembly.specs.Goals.Kinds.{BuiltinRule, KindRules, passes, self_type}
use Rattle.candidate_assembly.specs.Rules.ObjectBounds.{AreAskedIf, OwnClause, object_bounds, has_own_clauses, match_at, nested_goals, own_clauses, reference_by, trait_by}
use Rattle.candidate_assembly.specs.Rules.BuiltinRules.{pair_of}
use Rattle.candidate_assembly.specs.Rules.Opaques.{non_default_impls}
use Rattle.candidate_assembly.specs.Goals.Standing.{StandsWithPending}
use Rattle.candidate_assembly.specs.Goals.TraitGoals.{is_item}
use Rattle.candidate_assembly.specs.Goals.TraitRules.{trait_bounds, trait_rules}
use Rattle.candidate_assembly.specs.Rules.Unsizing.{AreUnsizingSupers}

-- A sure response of a state: where the values of the state make sense, all that was pending is granted at a state that follows, of which
-- the response is.
pub record AnswersGranted (J : Judge) (S : State) (r : Response) : Type 0 where
  pub responded : J.responded S Yes ≡ Some r
  pub granted : (L : Live) → IsSound S L → ValuesFit S L → GoalsAreOf S L S.pending → AnswersYes J S L r

-- A state that comes after another: what counted there counts still, its values make sense, and the values of what counted are those of the
-- earlier state, or more. What a closed probe left behind may be there besides, whatever value it has.
pub record ComesAfter (S T : State) (L : Live) : Type 0 where
  pub live : Live
  pub within : Within S L live
  pub sound : IsSound T live
  pub fits : ValuesFit T live
  pub longer : length S.variables ≤ length T.variables
  pub infos : (n : ℕ) (i : VariableInfo) → info S n ≡ Some i → Stays i (info T n)
  pub no_root : (n : ℕ) (j : VariableInfo) → info S n ≡ None → info T n ≡ Some j → j.is_root ≡ false
  pub universes : (n : ℕ) → n < length S.variables → universe_in (info T n) ≤ universe_in (info S n)
  pub values : (ts : Forest) → holds (is_strange S L) ts ≡ false → resolved T (resolved S ts) ≡ resolved T ts
  pub newest : S.newest_universe ≤ T.newest_universe
  pub mode : T.mode ≡ S.mode

-- A sure response, asked for at the second state, which comes after the first: all that was pending at the second is granted at a state that
-- follows it, of which the response is.
pub record AnswersAfter (J : Judge) (S : State) (L : Live) (T : State) (r : Response) : Type 0 where
  pub after : ComesAfter S T L
  pub granted : AnswersYes J T after.live r

-- What is pending at the second state is granted where the values there make sense; and where the goal stands at the first state beside what
-- is pending, they do, since the second comes after the first.
pub record GoalGranted (J : Judge) (S : State) (g : TraitGoal) (T : State) (r : Response) : Type 0 where
  pub here : AnswersGranted J T r
  pub granted : (L : Live) → StandsWithPending S L g → AnswersAfter J S L T r

-- What may be said of a sure response of a state.
abbrev pub Granting : Type 1
Granting = State → Response → Type 0

-- The state at which an ending asks for a response: the one that steps come to; or the one that characterising the clause does.

abbrev pub walked_to : Walk → Option State
walked_to (Goes S) = Some S
walked_to (Finds S c) = Some S
walked_to _ = None

abbrev pub asked_at : Judge → Env → Ending → State → Option State
asked_at J e (ask s c) S = Some S
asked_at J e (characterise c) S = walked_to (characterization J e S c)

-- The rule gives the candidate: its side condition holds, its steps come to a place, and what is pending there, the rule's nested goals among
-- it, is granted. A clause is characterised in between, which leaves what is pending.
pub record RuleGrants (Granted : Granting) (J : Judge) (S : State) (r : Rule) (x : Candidate) : Type 0 where
  pub applies : r.applies ≡ true
  pub gives : judged J S r ≡ Gives x
  pub place : Place
  pub reached : run J r.env (start S) r.steps ≡ At place
  pub last : State
  pub asked : asked_at J r.env r.ending place.state ≡ Some last
  pub pending : last.pending ≡ place.state.pending
  pub granted : Granted last x.result

module _ {G : Type 0} (K : KindRules G) (B : KindBounds G) (J : Judge) (c : Context) (S : State) (g : G) where
  -- An alias of the chain that the goal's self type begins, the state at which its bounds are tried, and which of them count: the self type,
  -- and then each projection's own self type, in normal form.
  pub data IsOnChain : AliasBoundKind → State → Tree → Type 0 where
    first : {T : State} → J.alike S T → IsOnChain SelfBounds T (self_type K c g)
    further : {U : State} {u : Tree} (b : AliasBoundKind) (T V : State) (t : Tree) → IsOnChain b T t → is_projection t.head ≡ true → J.alike T V
        → J.normalized V (K.env_of g) (first_tree t.children) ≡ Some (u, U) → IsOnChain NonSelfBounds U u

  -- The rules by which the goal may be proved, each with the state at which it is judged: by a clause of the environment; by a bound of an
  -- alias; the language's; by unsizing to the target's normal form; and by an impl.
  pub data IsRuleOf : Rule → State → Type 0 where
    by_clause : (t : Tree) → Contains (each_of (K.env_of g)) t → IsRuleOf (where_rule K c g t) S
    by_bound : {r : Rule} {T : State} (b : AliasBoundKind) (t : Tree) → IsOnChain b T t → has_bounds t.head ≡ true
        → Contains (link_rules K B.additional c g (link b T t)).rules r → IsRuleOf r T
    by_language : (n : BuiltinRule) → rule_name K c g ≡ Some n → IsRuleOf (K.builtin_rule n c g) S
    by_unsizing : {r : Rule} {U : State} (t u : Tree) (T : State) (supers : List Tree) → is_item c L.Unsize (trait_of K c g) ≡ true → B.unsizing_target g ≡ Some t → J.alike S T
        → J.normalized T (K.env_of g) t ≡ Some (u, U) → AreUnsizingSupers c (self_type K c g) u supers
        → Fits (world c) (pair_of (self_type K c g) u) → Contains (B.unsizing_rules c supers g u) r → IsRuleOf r U
    by_impl : (n : ImplId) → Contains (non_default_impls c (relevant_impls c (trait_of K c g) (self_type K c g))) n → IsRuleOf (impl_rule K c S.mode g n) S

  -- A clause that an object states of itself gives the candidate: the clause is matched, and what is required of the object is granted.
  pub record ObjectGrants (x : Candidate) : Type 0 where
    pub supers : List Tree
    pub own : OwnClause
    pub has_own : has_own_clauses c (K.reference_of c g).trait (self_type K c g) ≡ true
    pub are_supers : ArePrincipalSupers c (self_type K c g) supers
    pub is_own : Contains (own_clauses (self_type K c g) supers) own
    pub source : x.source ≡ own.source
    pub before : State
    pub alike : J.alike S before
    pub passed : passes K c g own.clause ≡ true
    pub place : Place
    pub matched : match_at K J c S g before own ≡ At place
    pub goals : List Goal
    pub last : State
    pub are_asked : AreAskedIf K.asks_of_objects J (K.env_of g) c place.state (trait_by c own.clause.head) (reference_by c own.clause) (object_bounds K c g) goals last
    pub granted : AnswersGranted J (nested_goals last goals) x.result

  -- The candidate is that of one rule of the goal, and that is said of its response at the state at which the rule asks; of an object's own
  -- clause, that all is granted where the values of that state make sense.
  pub data IsProvedBy (Granted : Granting) (x : Candidate) : Type 0 where
    by_rule : {r : Rule} {T : State} → IsRuleOf r T → RuleGrants Granted J T r x → IsProvedBy Granted x
    by_object : ObjectGrants x → IsProvedBy Granted x

-- The response is that of one rule: of the goal with its self type in normal form and with all values put in, at the state that normalising
-- leaves.
pub record IsProvedWith (Granted : Granting) {G : Type 0} (K : KindRules G) (B : KindBounds G) (J : Judge) (c : Context) (S : State) (g : G) (r : Response) : Type 0 where
  pub normal : Tree
  pub at : State
  pub is_normal : J.normalized S (K.env_of g) (self_type K c g) ≡ Some (normal, at)
  -- of a general variable nothing is sure
  pub is_known : is_general normal.head ≡ false
  pub candidate : Candidate
  pub proved_by : IsProvedBy K B J c at (resolved_goal K B c at (K.with_self_type g normal)) Granted candidate
  pub response : candidate.result ≡ r

-- Of a goal of a trait: what is pending where the rule asks is granted.
abbrev pub IsProved : Judge → Context → State → TraitGoal → Response → Type 0
IsProved J c S g r = IsProvedWith (GoalGranted J S g) trait_rules trait_bounds J c S g r

-- A sure answer of a goal of a trait is that of one rule.
abbrev pub YesIsProved : Judge → Context → State → TraitGoal → List Tree → Result (CanonicalResponse × Option TraitGoalProvenVia) NoSolutionOrStop → Type 0
YesIsProved J c S g ts result = IfOk result (λ a. a.0.certainty ≡ Yes → IsProved J c S g (response_of ts a.0))
