-- What a judge answers to a rule: one interpreter for all rules.
use Rattle.std.specs.Prelude.{suc, Bool, true, false, Option, Some, None, List, [], ◌∷◌, ◌++◌, if◌then◌else◌}
use Rattle.std.specs.List.{filter}
use Rattle.ir_trees.specs.declared.ir.heads.Head.{Head}
use Rattle.ir_trees.specs.declared.ir.heads.Head.TheVariants as H
use Rattle.ir_trees.specs.declared.ir.kinds.RegionKind.TheVariants as R
use Rattle.ir_trees.specs.declared.ir.kinds.GoalSource.{GoalSource}
use Rattle.ir_trees.specs.declared.ir.unify.RightSide.TheVariants as S
use Rattle.ir_trees.specs.declared.ir.stop.Stop.{Stop}
use Rattle.ir_trees.specs.Syntax.Trees.{Kind, Forest, none, Tree, join}
use Rattle.ir_trees.specs.Instantiation.Folding.{substituted, substituted_tree}
use Rattle.ir_trees.specs.Unification.Substitutions.{alone}
use Rattle.ir_trees.specs.Unification.Unify.{may_unify}
use Rattle.ir_trees.specs.Declarations.Worlds.{Reference}
use Rattle.candidate_eval.specs.declared.eval.source.CandidateSource.{CandidateSource}
use Rattle.candidate_eval.specs.declared.eval.source.CandidateSource.TheVariants.{ParamEnv}
use Rattle.candidate_eval.specs.declared.eval.source.ParamEnvSource.TheVariants.{NonGlobal, Global}
use Rattle.candidate_eval.specs.Knowability.Orphan.{Fault, Sight, Sees, Fails, View, view, Checked, Knowability, Knowable, Upstream, Downstream, Unknown, knowability, is_general}
use Rattle.candidate_eval.specs.Outcomes.Certainties.{Certainty, Yes, AMBIGUOUS}
use Rattle.candidate_eval.specs.Outcomes.Responses.{Response, Candidate}
use Rattle.candidate_eval.specs.Judges.States.{Env, State, Pending, Judge, added, with_pending, with_universe, placeholders, fresh_variables, with_fresh_variables, resolved_root, resolved_tree, is_some, next}
use Rattle.candidate_eval.specs.Derivations.Characterization.{Walk, Goes, Finds, Refuses, Stops, characterization}
use Rattle.candidate_eval.specs.Derivations.Rules.{Match, Pick, Upcast, Require, Step, fresh, enter, equate, quick, add, settle, pick, still_general, unknowable, Ending, ask, characterise, Rule}

-- Where a rule stands: the state, and what stands for the rule's variables.
pub record Place : Type 0 where
  pub state : State
  pub locals : Forest

-- What comes of a rule: a candidate, a refusal, or a stop.
pub data Judged : Type 0 where
  Gives : Candidate → Judged
  Refused : Judged
  Stopped : Stop → Judged

-- How far steps come: to a place; to an end with ambiguity; to another end.
pub data Reached : Type 0 where
  At : Place → Reached
  Ambiguous : State → Reached
  Over : Judged → Reached

-- The variables of a place are put into the trees of a rule.

abbrev pub put_in : Place → Forest → Forest
put_in p ts = substituted p.locals 0 ts

abbrev pub put_in_tree : Place → Tree → Tree
put_in_tree p t = substituted_tree p.locals t

abbrev pub at_state : Place → State → Place
at_state p S = record { state = S; locals = p.locals }

abbrev pub with_locals : Place → State → Forest → Place
with_locals p S more = record { state = S; locals = join p.locals more }

abbrev pub made_fresh : Place → List Kind → Place
made_fresh p ks = with_locals p (with_fresh_variables p.state ks) (fresh_variables p.state ks)

-- no variables, no universe
abbrev pub made_rigid : Place → List Kind → Place
made_rigid p [] = p
made_rigid p (k ∷ ks) = with_locals p (with_universe p.state) (placeholders (suc p.state.newest_universe) 0 (k ∷ ks))

abbrev pub with_goals : Place → List Pending × State → Place
with_goals p q = at_state p (with_pending q.1 (q.1.pending ++ q.0))

abbrev pub equated_at : Judge → Env → Place → Forest → Forest → Option Place
equated_at J e p a b = next (J.equated p.state e (put_in p a) (put_in p b)) (λ q. Some (with_goals p q))

abbrev pub settled_at : Judge → Place → Option Place
settled_at J p = next (J.settled p.state) (λ q. Some (at_state p q.1))

abbrev pub reached : Judged → Option Place → Reached
reached other None = Over other
reached other (Some p) = At p

-- One of some matches.

abbrev pub matched : Judge → Env → Place → Match → Option Place
matched J e p m = equated_at J e (made_fresh (made_rigid p m.entered) m.instantiated) m.left m.right

abbrev pub matched_and_settled : Judge → Env → Place → Match → Option Place
matched_and_settled J e p m = next (matched J e p m) (settled_at J)

abbrev pub with_nothing_pending : Place → Place
with_nothing_pending p = at_state p (with_pending p.state [])

-- whether it matches, in a probe
abbrev pub matches : Judge → Env → Pick → Place → Match → Bool
matches J e Upcast p m = is_some (matched_and_settled J e p m)
matches J e Require p m = is_some (matched_and_settled J e (with_nothing_pending p) m)

-- the term of a match, where the match's own variables stand at the second place
abbrev pub with_term : Place → Tree → Place → Reached
with_term p t q = At (with_locals p q.state (alone (put_in_tree q t)))

abbrev pub taken : Pick → Place → Tree → Option Place → Reached
taken Upcast p t None = Over Refused
taken Require p t None = Ambiguous p.state
taken k p t (Some q) = with_term p t q

abbrev pub picked : Judge → Env → Pick → Place → List Match → Reached
picked J e Upcast p [] = Over Refused
picked J e Upcast p (m ∷ []) = taken Upcast p m.term (matched_and_settled J e p m)
picked J e Require p (m ∷ []) = taken Require p m.term (matched J e p m)
picked J e k p ms = Ambiguous p.state

-- Whether other crates may write impls: the judge is the normaliser of the orphan check, which resolves a type at its root alone.

abbrev pub seen_of : State → Option (Tree × State) → Sight State (Unit {0})
seen_of S None = record { seen = Fails (Fault.Refused tt); after = S }
seen_of S (Some n) = record { seen = Sees n.0; after = n.1 }

abbrev pub judge_view : Judge → Env → View State (Unit {0})
judge_view J e = view resolved_root (λ S t. seen_of S (J.normalized S e t))

abbrev pub judge_knows : Judge → Env → State → Reference → Checked State (Knowability (Unit {0}))
judge_knows J e S r = knowability J.world J.local_crate (judge_view J e) J.limits.orphan_walk S r

abbrev pub by_fault : Fault (Unit {0}) → Judged
by_fault (Fault.Refused e) = Refused
by_fault (Fault.Stopped s) = Stopped s

abbrev pub by_knowledge : Place → State → Knowability (Unit {0}) → Reached
by_knowledge p S Knowable = Over Refused
by_knowledge p S Upstream = At (at_state p S)
by_knowledge p S Downstream = At (at_state p S)
by_knowledge p S (Unknown f) = Over (by_fault f)

abbrev pub reference_at : Place → Reference → Reference
reference_at p r = record { trait = r.trait; arguments = put_in p r.arguments }

abbrev pub knowledge_at : Judge → Env → Place → Reference → Reached
knowledge_at J e p r =
    let k = judge_knows J e p.state (reference_at p r) in
    by_knowledge p k.after k.answer

-- the goal, with what stands for the rule's variables
abbrev pub goal_at : Env → Place → GoalSource → Tree → Pending
goal_at e p s c = record { source = s; goal = record { env = e; clause = put_in_tree p c } }

abbrev pub at_if : Place → Bool → Reached
at_if p true = At p
at_if p false = Over Refused

-- The interpreter.

abbrev pub step : Judge → Env → Place → Step → Reached
step J e p (fresh ks) = At (made_fresh p ks)
step J e p (enter ks) = At (made_rigid p ks)
step J e p (equate a b) = reached Refused (equated_at J e p a b)
step J e p (quick a b) = at_if p (may_unify S.Plain (put_in p a) (substituted p.locals 1 b))
step J e p (add s c) = At (at_state p (added p.state (goal_at e p s c)))
step J e p settle = reached Refused (settled_at J p)
step J e p (pick k ms) = picked J e k p (filter (matches J e k p) ms)
step J e p (still_general t) = at_if p (is_general (resolved_tree p.state (put_in_tree p t)).head)
step J e p (unknowable r) = knowledge_at J e p r

abbrev pub go_on : Reached → (Place → Reached) → Reached
go_on (At p) k = k p
go_on r k = r

abbrev pub run : Judge → Env → Place → List Step → Reached
run J e p [] = At p
run J e p (s ∷ ss) = go_on (step J e p s) (λ q. run J e q ss)

-- whether steps come to a place
abbrev pub is_at : Reached → Bool
is_at (At p) = true
is_at r = false

abbrev pub answered : CandidateSource → Option Response → Judged
answered s None = Refused
answered s (Some r) = Gives (record { source = s; result = r })

abbrev pub asked : Judge → State → CandidateSource → Certainty → Judged
asked J S s c = answered s (J.responded S c)

abbrev pub by_finding : Judge → Walk → Judged
by_finding J (Goes S) = asked J S (ParamEnv Global) Yes
by_finding J (Finds S c) = asked J S (ParamEnv NonGlobal) c
by_finding J Refuses = Refused
by_finding J (Stops s) = Stopped s

abbrev pub source_of : Ending → CandidateSource
source_of (ask s c) = s
source_of (characterise c) = ParamEnv NonGlobal

abbrev pub concluded : Judge → Env → Ending → State → Judged
concluded J e (ask s c) S = asked J S s c
concluded J e (characterise c) S = by_finding J (characterization J e S c)

-- What follows steps, where it answers `k` at the place that they come to.
abbrev pub continued : Judge → Ending → Reached → (Place → Judged) → Judged
continued J end (At p) k = k p
continued J end (Ambiguous S) k = asked J S (source_of end) AMBIGUOUS
continued J end (Over other) k = other

-- what steps and an ending come to from a place on
abbrev pub comes_to : Judge → Env → Place → List Step → Ending → Judged
comes_to J e p steps end = continued J end (run J e p steps) (λ q. concluded J e end q.state)

abbrev pub start : State → Place
start S = record { state = S; locals = none }

-- What the judge answers to the rule at the state.
abbrev pub judged : Judge → State → Rule → Judged
judged J S r = if r.applies then comes_to J r.env (start S) r.steps r.ending else Refused

-- Between rules: a term's normal form, by its head; its children become the first variables. Which variable it is counts for
-- nothing.

pub record Normal : Type 0 where
  pub head : Head
  pub place : Place

abbrev pub plain_head : Head → Head
plain_head (H.Infer v) = H.Infer (record { sort = v.sort; number = 0 })
plain_head (H.Region (R.Var n)) = H.Region (R.Var 0)
plain_head h = h

abbrev pub normal_place : Tree × State → Normal
normal_place n = record { head = plain_head n.0.head; place = record { state = n.1; locals = n.0.children } }

abbrev pub normal_at : Judge → Env → Place → Tree → Option Normal
normal_at J e p t = next (J.normalized p.state e (put_in_tree p t)) (λ n. Some (normal_place n))
