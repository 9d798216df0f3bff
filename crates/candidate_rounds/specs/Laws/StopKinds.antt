-- Each stop is a refused growth, or that numbers ran out or a tree would be too high, or that the table is full.
use Rattle.std.proofs.Common.{◌≡◌, inl, inr, length, ℕ, List, sym, subst}
use Rattle.ir_trees.specs.declared.ir.stop.Stop.{Stop}
use Rattle.ir_trees.specs.declared.ir.stop.Stop.TheVariants as K
use Rattle.ir_trees.specs.declared.ir.heads.Head.{Head}
use Rattle.ir_trees.specs.declared.ir.heads.Variable.{Variable}
use Rattle.ir_trees.specs.Instantiation.Folding.{IsSubstStop}
use Rattle.ir_trees.specs.Syntax.Trees.{Forest, Tree}
use Rattle.candidate_eval.specs.Interface.Accounts.{Question}
use Rattle.candidate_eval.specs.Interface.Accounts as Q
use Rattle.candidate_eval.specs.Interface.Evaluators.{IsEvaluatorStop, IsMakingStop}
use Rattle.candidate_eval.specs.Outcomes.Responses.{Response}
use Rattle.candidate_eval.specs.Judges.States.{Env, State, Pending}
use Rattle.candidate_rounds.specs.Table.Goals.{Reads}
use Rattle.rounds_judge.specs.Table.Keys.{Key}
use Rattle.candidate_eval.proofs.Interface.StopKinds.{noting_making, subst_making}
use Rattle.rounds_judge.specs.Equations.Equating.{Pair}
use Rattle.rounds_judge.specs.Aliases.Listed.{Listing}
use Rattle.rounds_judge.specs.Equations.Opening.{Opened}
use Rattle.rounds_judge.specs.Equations.Scopes.{Scope}
use Rattle.candidate_rounds.specs.Evaluators.Inferences.{IsFullAt, IsOutOfRoom}
use Rattle.candidate_rounds.specs.Evaluators.Known.{Evaluator}
use Rattle.candidate_rounds.specs.Evaluators.Stopping as W
use Rattle.candidate_rounds.specs.Evaluators.Stopping.{AreGoalsStop, ArePassesStop, AreRenumberingStops, Held, IsPureFolderStop, IsAskingStop, IsBindingStop, IsEqualityStop, IsEquationStop, IsEvaluationStop, IsGivingStop, IsGoalStop, IsInstanceStop, IsKeyStop, IsLiftStop, IsLookStop, IsMatchStop, IsMeetingStop, IsNormalStop, IsNumberedStop, IsOfferStop, IsOpeningStop, IsPairsStop, IsPassStop, IsProjectionStop, IsReadyStop, IsRegionsStop, IsRelationStop, IsRenewalStop, IsRenumberingStop, IsResponseStop, IsSidesStop, AreReadyStop, IsTraitStop, IsUnifyingStop, IsValueStop, IsVariablesStop, accounts}

full_making : {n : ℕ} {s : Stop} → IsFullAt n s → IsMakingStop s
full_making (inl e) = subst IsMakingStop (sym e) tt
full_making (inr e) = subst IsMakingStop (sym e.0) tt

tree_making : {given : ℕ} {made : Forest} {s : Stop} → IsSubstStop given made s → IsMakingStop s
tree_making {given} {made} {s} k = subst_making given made s k

memory_making : {s : Stop} → s ≡ K.Memory → IsMakingStop s
memory_making e = subst IsMakingStop (sym e) tt

room_making : (n more : ℕ) (s : Stop) → IsOutOfRoom n more s → IsMakingStop s
room_making n more s (inl e) = memory_making e
room_making n more s (inr e) = subst IsMakingStop (sym e.0) tt

-- Equations

value_making : {ts : List Tree} {l : Listing} {S : State} {us : Scope} {t : Tree} {s : Stop} → IsValueStop ts l S us t s → IsMakingStop s
value_making (W.of_resolved k) = tree_making k
value_making (W.of_listed k) = tree_making k
value_making (W.of_placed k) = tree_making k

renewal_making : {ts : List Tree} {S : State} {v : Variable} {t : Tree} {n : ℕ} {s : Stop} → IsRenewalStop ts S v t n s → IsMakingStop s
renewal_making W.not_noted = tt
renewal_making (W.of_value u apart is k) = tree_making k

binding_making : {ts : List Tree} {S : State} {v : Variable} {t : Tree} {s : Stop} → IsBindingStop ts S v t s → IsMakingStop s
binding_making W.no_memory = tt
binding_making (W.many_variables l) = tt
binding_making (W.of_renewed n k) = renewal_making k

regions_making : {ts : List Tree} {a b : Tree} {s : Stop} → IsRegionsStop ts a b s → IsMakingStop s
regions_making W.no_room = tt
regions_making (W.of_first k) = tree_making k
regions_making (W.of_second k) = tree_making k

offer_making : {ts : List Tree} {l : Listing} {S : State} {us : Scope} {h : Head} {t : Tree} {s : Stop} → IsOfferStop ts l S us h t s → IsMakingStop s
offer_making (W.of_offered v e k) = value_making k
offer_making (W.of_taken v e k) = binding_making k

equality_making : {ts : List Tree} {us : Scope} {x y : Tree} {s : Stop} → IsEqualityStop ts us x y s → IsMakingStop s
equality_making (W.of_left_region k) = tree_making k
equality_making (W.of_right_region k) = tree_making k
equality_making (W.of_regions k) = regions_making k

match_making : {ts : List Tree} {S : State} {us : Scope} {x y : Tree} {s : Stop} → IsMatchStop ts S us x y s → IsMakingStop s
match_making W.no_space = tt
match_making (W.of_equality e k) = equality_making k
match_making (W.no_universe e k) = full_making k

meeting_making : {ts : List Tree} {l : Listing} {S : State} {us : Scope} {x y : Tree} {s : Stop} → IsMeetingStop ts l S us x y s → IsMakingStop s
meeting_making (W.of_left_offer k) = offer_making k
meeting_making (W.of_right_offer k) = offer_making k
meeting_making (W.of_match k) = match_making k

look_making : {ts : List Tree} {l : Listing} {S : State} {us : Scope} {t u : Tree} {s : Stop} → IsLookStop ts l S us t u s → IsMakingStop s
look_making W.refused_growth = tt
look_making (W.wide_node w) = tt
look_making (W.of_left k) = tree_making k
look_making (W.of_right k) = tree_making k
look_making (W.of_meeting k) = meeting_making k

unifying_making : {ts : List Tree} {l : Listing} {s : Stop} {S : State} {ps : List Pair} → IsUnifyingStop ts l s S ps → IsMakingStop s
unifying_making (W.at_once k) = look_making k
unifying_making (W.later v k) = unifying_making k

equation_making : {ts : List Tree} {l : Listing} {S : State} {a b : Forest} {s : Stop} → IsEquationStop ts l S a b s → IsMakingStop s
equation_making W.not_begun = tt
equation_making (W.begun k) = unifying_making k

pairs_making : {ts : List Tree} {ps : List (Tree × Tree)} {s : Stop} → IsPairsStop ts ps s → IsMakingStop s
pairs_making W.pairs_memory = tt
pairs_making (W.of_pair p c k) = tree_making k

ready_making : {ts : List Tree} {l : Listing} {S : State} {c : Forest} {s : Stop} → IsReadyStop ts l S c s → IsMakingStop s
ready_making (W.values_put k) = tree_making k
ready_making (W.types_put k) = tree_making k

variables_making : {ts : List Tree} {S : State} {ps : List Tree} {s : Stop} → IsVariablesStop ts S ps s → IsMakingStop s
variables_making {ts} {S} {ps} {s} (W.parts_noted k) = noting_making ts s k
variables_making {ts} {S} {ps} {s} (W.variables_entered k) = room_making (length S.variables) (length ps) s k
variables_making (W.variables_made k) = full_making k

both_making : {ts : List Tree} {l : Listing} {S : State} {a b : Forest} {s : Stop} → AreReadyStop ts l S a b s → IsMakingStop s
both_making (W.left_readied k) = ready_making k
both_making (W.right_readied k) = ready_making k

sides_making : {ts : List Tree} {a b : Forest} {o : Opened} {S : State} {s : Stop} → IsSidesStop ts a b o S s → IsMakingStop s
sides_making (W.of_opening k) = variables_making k
sides_making (W.of_side c w k) = tree_making k
sides_making (W.of_pairs k) = pairs_making k

opening_making : {ts : List Tree} {l : Listing} {S : State} {e : Env} {a b : Forest} {s : Stop} → IsOpeningStop ts l S e a b s → IsMakingStop s
opening_making (W.as_it_is k) = equation_making k
opening_making (W.resolved_side c o w k) = tree_making k
opening_making (W.side_listed c o side k) = tree_making k
opening_making (W.sides_readied o k) = both_making k
opening_making (W.sides_opened o k) = sides_making k
opening_making (W.sides_equated o k) = equation_making k
opening_making (W.goals_left o) = tt

normal_making : {ts : List Tree} {l : Listing} {S : State} {t : Tree} {s : Stop} → IsNormalStop ts l S t s → IsMakingStop s
normal_making (W.normal_value k) = tree_making k
normal_making (W.normal_variable o k) = full_making k
normal_making (W.normal_number o k) = full_making k

-- Pending goals

instance_making : {ts : List Tree} {S : State} {c : Tree} {s : Stop} → IsInstanceStop ts S c s → IsMakingStop s
instance_making (W.of_list k) = full_making k
instance_making (W.of_universe k) = full_making k
instance_making (W.of_kinds k) = full_making k
instance_making (W.of_instance k) = tree_making k

listed_making : {ts : List Tree} {l : Listing} {S : State} {u t : Tree} {s : Stop} → W.IsListedStop ts l S u t s → IsMakingStop s
listed_making (inl k) = value_making k
listed_making (inr k) = equation_making k

projection_making : {ts : List Tree} {l : Listing} {S : State} {a t : Tree} {s : Stop} → IsProjectionStop ts l S a t s → IsMakingStop s
projection_making (W.of_alias k) = tree_making k
projection_making (W.of_resolved_alias k) = tree_making k
projection_making (W.of_equation u e k) = listed_making k

renumbering_making : {many given : ℕ} {made : Forest} {s : Stop} → IsRenumberingStop many given made s → IsMakingStop s
renumbering_making (W.too_many_open l) = tt
renumbering_making (W.of_made k) = tree_making k

-- What an evaluator makes isn't all that stops it: the table may be full.

making_evaluator : (s : Stop) → IsMakingStop s → IsEvaluatorStop s
making_evaluator K.Memory k = tt
making_evaluator K.NodesFull k = tt
making_evaluator K.WalkDepth k = absurd k
making_evaluator K.AliasDepth k = absurd k
making_evaluator K.ConstDepth k = absurd k
making_evaluator K.Unnameable k = absurd k
making_evaluator K.EvaluatorLimit k = absurd k

numbered_making : {ts : List Tree} {ns : List ℕ} {e : Forest} {c : Tree} {s : Stop} → IsNumberedStop ts ns e c s → IsMakingStop s
numbered_making (W.of_numbered_env k) = renumbering_making k
numbered_making (W.of_numbered_clause k) = renumbering_making k

pub key_making : {ts : List Tree} {S : State} {e : Env} {c : Tree} {s : Stop} → IsKeyStop ts S e c s → IsMakingStop s
key_making W.key_memory = tt
key_making (W.of_env k) = tree_making k
key_making (W.of_goal_clause k) = tree_making k
key_making {ts} {S} {e} {c} {s} (W.of_noted k) = noting_making ts s k
key_making (W.of_numbered k) = numbered_making k

lift_making : {ts : List Tree} {S : State} {k : Key} {r : Response} {s : Stop} → IsLiftStop ts S k r s → IsMakingStop s
lift_making {ts} {S} {k} {r} {s} (W.of_names x) = noting_making ts s x
lift_making {ts} {S} {k} {r} {s} (W.of_more x) = room_making _ _ s x

relation_making : {ts : List Tree} {l : Listing} {S : State} {t u : Tree} {s : Stop} → IsRelationStop ts l S t u s → IsMakingStop s
relation_making (W.of_first_value k) = value_making k
relation_making (W.of_second_value k) = value_making k
relation_making (W.of_related k) = equation_making k

giving_making : {ts : List Tree} {l : Listing} {S : State} {k : Key} {ns : List ℕ} {r : Response} {s : Stop} → IsGivingStop ts l S k ns r s → IsMakingStop s
giving_making W.giving_memory = tt
giving_making (W.of_row k) = full_making k
giving_making (W.of_fresh n l k) = full_making k
giving_making (W.of_lift k) = lift_making k
giving_making (W.of_given_values k) = tree_making k
giving_making (W.of_given_equation k) = equation_making k
giving_making (W.of_given_constraint c i k) = tree_making k

asking_evaluator : {h : Held} {s : Stop} → IsAskingStop h s → IsEvaluatorStop s
asking_evaluator {h} {s} (W.of_looking k) = making_evaluator s (noting_making h.trees s k)
asking_evaluator (W.many_goals m) = tt

trait_evaluator : {h : Held} {q : Reads} {S : State} {e : Env} {c : Tree} {s : Stop} → IsTraitStop h q S e c s → IsEvaluatorStop s
trait_evaluator {h} {q} {S} {e} {c} {s} (W.of_key k) = making_evaluator s (key_making k)
trait_evaluator (W.of_asking k) = asking_evaluator k
trait_evaluator {h} {q} {S} {e} {c} {s} (W.of_giving r w v k) = making_evaluator s (giving_making k)

evaluation_evaluator : {h : Held} {q : Reads} {S : State} {e : Env} {c : Tree} {s : Stop} → IsEvaluationStop h q S e c s → IsEvaluatorStop s
evaluation_evaluator W.not_recorded = tt
evaluation_evaluator {h} {q} {S} {e} {c} {s} (W.of_projection i is k) = making_evaluator s (projection_making k)
evaluation_evaluator {h} {q} {S} {e} {c} {s} (W.of_relation is k) = making_evaluator s (relation_making k)
evaluation_evaluator (W.of_trait e k) = trait_evaluator k

goal_evaluator : {h : Held} {q : Reads} {S : State} {p : Pending} {s : Stop} → IsGoalStop h q S p s → IsEvaluatorStop s
goal_evaluator W.goal_memory = tt
goal_evaluator {h} {q} {S} {p} {s} (W.of_clause k) = making_evaluator s (instance_making k)
goal_evaluator (W.of_evaluation k) = evaluation_evaluator k

goals_evaluator : {h : Held} {q : Reads} {s : Stop} {S : State} {ps : List Pending} → AreGoalsStop h q s S ps → IsEvaluatorStop s
goals_evaluator (W.this_goal k) = goal_evaluator k
goals_evaluator (W.later_goal v k) = goals_evaluator k

pass_evaluator : {h : Held} {q : Reads} {S : State} {s : Stop} → IsPassStop h q S s → IsEvaluatorStop s
pass_evaluator W.pass_memory = tt
pass_evaluator (W.of_goals k) = goals_evaluator k

passes_evaluator : {h : Held} {q : Reads} {s : Stop} {n : ℕ} {S : State} → ArePassesStop h q s n S → IsEvaluatorStop s
passes_evaluator (W.this_pass k) = pass_evaluator k
passes_evaluator (W.later_pass v less k) = passes_evaluator k

-- Responses

renumberings_making : {ts : List Tree} {ns : List ℕ} {cs : List Tree} {s : Stop} → AreRenumberingStops ts ns cs s → IsMakingStop s
renumberings_making W.no_list = tt
renumberings_making (W.of_one c i k) = renumbering_making k

response_making : {ts : List Tree} {S : State} {s : Stop} → IsResponseStop ts S s → IsMakingStop s
response_making W.response_memory = tt
response_making (W.full_table k) = full_making k
response_making (W.too_many_variables l) = tt
response_making (W.of_roots k) = tree_making k
response_making (W.of_constraint c i k) = tree_making k
response_making {ts} {S} {s} (W.of_noting k) = noting_making ts s k
response_making (W.of_values k) = renumbering_making k
response_making (W.of_renumbered k) = renumberings_making k

answering_evaluator : {h : Held} {q : Reads} {S : State} {s : Stop} → IsPureFolderStop h q S s → IsEvaluatorStop s
answering_evaluator (W.of_settling k) = passes_evaluator k
answering_evaluator {h} {q} {S} {s} (W.of_response c T e k) = making_evaluator s (response_making k)

-- So the evaluator accounts for its own stops alone.

pub stops_itself : (r : Evaluator) (S : State) (q : Question) (s : Stop) → accounts r S q s → IsEvaluatorStop s
stops_itself r S (Q.resolve ts) s k = making_evaluator s (tree_making k)
stops_itself r S (Q.normalize e t) s k = making_evaluator s (normal_making k)
stops_itself r S (Q.make_variables ks) s (inl k) = making_evaluator s (room_making (length S.variables) (length ks) s k)
stops_itself r S (Q.make_variables ks) s (inr k) = making_evaluator s (full_making k)
stops_itself r S (Q.make_placeholders ks) s (inl k) = making_evaluator s (full_making k)
stops_itself r S (Q.make_placeholders ks) s (inr (inl k)) = making_evaluator s (full_making k)
stops_itself r S (Q.make_placeholders ks) s (inr (inr k)) = making_evaluator s (full_making k)
stops_itself r S (Q.equate e a b) s k = making_evaluator s (opening_making k)
stops_itself r S (Q.add_goals ps) s k = making_evaluator s (memory_making k)
stops_itself r S Q.evaluate s k = passes_evaluator k
stops_itself r S (Q.respond c) s k = answering_evaluator k
stops_itself r S (Q.begin_probe p) s k = making_evaluator s (memory_making k)
stops_itself r S (Q.find_opaques t) s k = making_evaluator s (memory_making k)
stops_itself r S (Q.delay text) s k = making_evaluator s (memory_making k)
