-- Why calls of an evaluator that works in rounds stop: a growth was refused, numbers ran out, or a tree would be higher than 1,024. A stop
-- is said of what would have been made, at the state that the judge says is there then, and of the context's trees at the stop.
use Rattle.std.specs.Prelude.{◌≡◌, ◌≢◌, ◌<◌, ◌≤◌, ◌+◌, ◌-◌, ◌⊎◌, ℕ, suc, length, Bool, true, false, ◌&&◌, Option, Some, None, List, [], ◌∷◌}
use Rattle.std.specs.List.{Contains}
use Rattle.ir_trees.specs.declared.ir.heads.Head.{Head}
use Rattle.ir_trees.specs.declared.ir.heads.Head.TheVariants as H
use Rattle.ir_trees.specs.declared.ir.heads.Variable.{Variable}
use Rattle.ir_trees.specs.declared.ir.heads.PartHead.TheVariants as P
use Rattle.ir_trees.specs.declared.ir.heads.ClauseHead.TheVariants as Cl
use Rattle.ir_trees.specs.declared.ir.kinds.AssocId.{AssocId}
use Rattle.ir_trees.specs.declared.ir.stop.Stop.{Stop}
use Rattle.ir_trees.specs.declared.ir.stop.Stop.TheVariants.{Memory, NodesFull, EvaluatorLimit}
use Rattle.ir_trees.specs.Instantiation.Folding.{IsSubstStop}
use Rattle.ir_trees.specs.Unification.Substitutions.{alone}
use Rattle.ir_trees.specs.Syntax.Trees.{Forest, none, tree, Tree}
use Rattle.candidate_eval.specs.declared.eval.certainty.Certainty.{Certainty}
use Rattle.candidate_eval.specs.Interface.Accounts.{Question}
use Rattle.candidate_eval.specs.Interface.Accounts as Q
use Rattle.candidate_eval.specs.Derivations.Characterization.{bound_kinds}
use Rattle.candidate_eval.specs.Interface.Evaluators.{resolved_root}
use Rattle.candidate_eval.specs.Derivations.ImplRules.{TraitGoal}
use Rattle.candidate_eval.specs.Interface.Noting.{HasWideNode, IsNotingStop}
use Rattle.candidate_eval.specs.Judges.Soundness.{is_region}
use Rattle.candidate_eval.specs.Dynamic.ObjectRequirements.{trait_said}
use Rattle.candidate_eval.specs.Outcomes.Responses.{Response}
use Rattle.candidate_eval.specs.Judges.States.{Env, State, Pending, Values, resolved, resolved_tree, valued, valued_tree, value_of, is_some}
use Rattle.ir_trees.specs.Hierarchy.Supers.{after_first}
use Rattle.rounds_judge.specs.Aliases.OpenParts.{are_one, opened}
use Rattle.rounds_judge.specs.Equations.Opening.{Opened, are_open, opening, readied}
use Rattle.rounds_judge.specs.Equations.Binding.{numbered, single}
use Rattle.rounds_judge.specs.Equations.Equating.{Pair, Left, outlives, value_for, visited}
use Rattle.rounds_judge.specs.Aliases.Listed.{Listing, current, listed, normalized_tree}
use Rattle.rounds_judge.specs.Obligations.Responding.{constraints, open_numbers, renumbered, renumbered_tree, root_values, with_numbers}
use Rattle.rounds_judge.specs.Equations.Scopes.{Scope, has_binder, has_variables, placed_tree}
use Rattle.rounds_judge.specs.Table.GoalTable.{most_goals, verdict_in}
use Rattle.rounds_judge.specs.Table.Keys.{Key, key_at, newest_of, numbers_at}
use Rattle.rounds_judge.specs.Obligations.Settling.{alias_of, first_fact, instantiated, term_of, with_facts, gave_a_value}
use Rattle.rounds_judge.specs.Table.TableSettling.{greatest_said, lift_to, named_at, own_variable, pass_by, ready_for, settled_with, translation, variables_row}
use Rattle.rounds_judge.specs.Table.Verdicts.{Yes}
use Rattle.candidate_rounds.specs.Evaluators.Inferences.{IsFullAt, IsOutOfRoom}
use Rattle.candidate_rounds.specs.Table.Goals.{Reads, Via, goal_said}
use Rattle.candidate_rounds.specs.Evaluators.Known.{Evaluator, listing, reads, state}
use Rattle.candidate_rounds.specs.Table.Trying.{try_of}

-- Why a call stopped that began at the first evaluator and left the second: it is said of the trees that are there then, and of the listed
-- pairs and the state at which it began.
abbrev pub StopsFrom : {A : Type 1} → (List Tree → Listing → State → A) → Evaluator → Evaluator → A
StopsFrom P old new = P new.context.trees (listing old) (state old)

-- Why a tree wasn't made.
abbrev pub IsTreeStop : List Tree → Tree → Stop → Type 0
IsTreeStop ts t s = IsSubstStop (length ts) (alone t) s

-- Why the value for a variable that meets the tree wasn't made: with all values put in, then with listed types in the place of their
-- aliases, then with placeholders.
pub data IsValueStop (ts : List Tree) (l : Listing) (S : State) (us : Scope) (t : Tree) (s : Stop) : Type 0 where
  of_resolved : IsTreeStop ts (resolved_tree S t) s → IsValueStop ts l S us t s
  of_listed : IsTreeStop ts (normalized_tree l (resolved_tree S t)) s → IsValueStop ts l S us t s
  of_placed : IsTreeStop ts (value_for l S us t) s → IsValueStop ts l S us t s

-- Why the variable of a number didn't get the value that it has once that variable has the value: its own value, with this one put in,
-- wasn't made.
pub data IsRenewalStop (ts : List Tree) (S : State) (v : Variable) (t : Tree) (n : ℕ) : Stop → Type 0 where
  not_noted : IsRenewalStop ts S v t n Memory
  of_value : {s : Stop} (u : Tree) → n ≢ v.number → value_of S n ≡ Some u → IsTreeStop ts (valued_tree (single v t) u) s → IsRenewalStop ts S v t n s

-- Why a variable didn't get the value: another's value, with this one put in, wasn't made; or too many variables are there.
pub data IsBindingStop (ts : List Tree) (S : State) (v : Variable) (t : Tree) : Stop → Type 0 where
  no_memory : IsBindingStop ts S v t Memory
  many_variables : 4294967295 ≤ length S.variables → IsBindingStop ts S v t NodesFull
  of_renewed : {s : Stop} (n : ℕ) → IsRenewalStop ts S v t n s → IsBindingStop ts S v t s

-- Why it wasn't recorded that two regions are equal.
pub data IsRegionsStop (ts : List Tree) (a b : Tree) : Stop → Type 0 where
  no_room : IsRegionsStop ts a b Memory
  of_first : {s : Stop} → IsTreeStop ts (outlives a b) s → IsRegionsStop ts a b s
  of_second : {s : Stop} → IsTreeStop ts (outlives b a) s → IsRegionsStop ts a b s

-- Why a variable, which the head is, wasn't offered the tree as its value: the value wasn't made, or the variable didn't get it.
pub data IsOfferStop (ts : List Tree) (l : Listing) (S : State) (us : Scope) (h : Head) (t : Tree) (s : Stop) : Type 0 where
  of_offered : (v : Variable) → h ≡ H.Infer v → IsValueStop ts l S us t s → IsOfferStop ts l S us h t s
  of_taken : (v : Variable) → h ≡ H.Infer v → IsBindingStop ts S v (value_for l S us t) s → IsOfferStop ts l S us h t s

-- Why two regions weren't recorded as equal under these binders: what stands for one of them there wasn't made, or both weren't recorded.
pub data IsEqualityStop (ts : List Tree) (us : Scope) (x y : Tree) (s : Stop) : Type 0 where
  of_left_region : IsTreeStop ts (placed_tree us x) s → IsEqualityStop ts us x y s
  of_right_region : IsTreeStop ts (placed_tree us y) s → IsEqualityStop ts us x y s
  of_regions : IsRegionsStop ts (placed_tree us x) (placed_tree us y) s → IsEqualityStop ts us x y s

-- Why two trees weren't matched under these binders: two regions weren't recorded as equal; or no universe was left for a binder, which
-- has variables.
pub data IsMatchStop (ts : List Tree) (S : State) (us : Scope) (x y : Tree) : Stop → Type 0 where
  no_space : IsMatchStop ts S us x y Memory
  of_equality : {s : Stop} → is_region x.head && is_region y.head ≡ true → IsEqualityStop ts us x y s → IsMatchStop ts S us x y s
  no_universe : {s : Stop} → has_binder x.head && has_variables x.children ≡ true → IsFullAt S.newest_universe s → IsMatchStop ts S us x y s

-- Why two trees, as they are at the state, weren't made equal under these binders: one was offered to the other, or both were matched.
pub data IsMeetingStop (ts : List Tree) (l : Listing) (S : State) (us : Scope) (x y : Tree) (s : Stop) : Type 0 where
  of_left_offer : IsOfferStop ts l S us x.head y s → IsMeetingStop ts l S us x y s
  of_right_offer : IsOfferStop ts l S us y.head x s → IsMeetingStop ts l S us x y s
  of_match : IsMatchStop ts S us x y s → IsMeetingStop ts l S us x y s

-- Why a look at the first trees of two rows stopped: what they are at the state wasn't made, or they weren't made equal.
pub data IsLookStop (ts : List Tree) (l : Listing) (S : State) (us : Scope) (t u : Tree) : Stop → Type 0 where
  refused_growth : IsLookStop ts l S us t u Memory
  wide_node : HasWideNode ts → IsLookStop ts l S us t u NodesFull
  of_left : {s : Stop} → IsTreeStop ts (resolved_tree S (resolved_root S t)) s → IsLookStop ts l S us t u s
  of_right : {s : Stop} → IsTreeStop ts (resolved_tree S (resolved_root S u)) s → IsLookStop ts l S us t u s
  of_meeting : {s : Stop} → IsMeetingStop ts l S us (current l S t) (current l S u) s → IsLookStop ts l S us t u s

-- Why an equation of which this is left stopped: at the look at what is first, or after it.
pub data IsUnifyingStop (ts : List Tree) (l : Listing) (s : Stop) : State → List Pair → Type 0 where
  at_once : {S : State} {us : Scope} {h g : Head} {a b : Forest} {r q : Forest} {more : List Pair}
      → IsLookStop ts l S us (record { head = h; children = a }) (record { head = g; children = b }) s
      → IsUnifyingStop ts l s S (record { scope = us; left = tree h a r; right = tree g b q } ∷ more)
  later : {S T : State} {ps qs : List Pair} → visited l S ps ≡ Left T qs → IsUnifyingStop ts l s T qs → IsUnifyingStop ts l s S ps

-- Each stop of what is left at a state is one of what was left at a state before.
abbrev pub StopsAsBefore : Listing → State → List Pair → Listing → State → List Pair → Type 0
StopsAsBefore l S ps m T qs = (ts : List Tree) (s : Stop) → IsUnifyingStop ts m s T qs → IsUnifyingStop ts l s S ps

-- Why two rows weren't made equal: nothing was begun, or what was left stopped.
pub data IsEquationStop (ts : List Tree) (l : Listing) (S : State) (a b : Forest) : Stop → Type 0 where
  not_begun : IsEquationStop ts l S a b Memory
  begun : {s : Stop} → IsUnifyingStop ts l s S (record { scope = []; left = a; right = b } ∷ []) → IsEquationStop ts l S a b s

-- Why no variables for open parts were made: the parts weren't noted, or the variables weren't made.
pub data IsVariablesStop (ts : List Tree) (S : State) (ps : List Tree) : Stop → Type 0 where
  parts_noted : {s : Stop} → IsNotingStop ts s → IsVariablesStop ts S ps s
  variables_entered : {s : Stop} → IsOutOfRoom (length S.variables) (length ps) s → IsVariablesStop ts S ps s
  variables_made : {s : Stop} → IsFullAt (length ts) s → IsVariablesStop ts S ps s

-- Why values and listed types weren't put into a side.
pub data IsReadyStop (ts : List Tree) (l : Listing) (S : State) (c : Forest) (s : Stop) : Type 0 where
  values_put : IsSubstStop (length ts) (resolved S c) s → IsReadyStop ts l S c s
  types_put : IsSubstStop (length ts) (readied l S c) s → IsReadyStop ts l S c s

-- Why the clauses weren't made that the trees of each pair are one.
pub data IsPairsStop (ts : List Tree) (ps : List (Tree × Tree)) : Stop → Type 0 where
  pairs_memory : IsPairsStop ts ps Memory
  of_pair : {s : Stop} (p : Tree × Tree) → Contains ps p → IsTreeStop ts (are_one p.0 p.1) s → IsPairsStop ts ps s

-- one of the sides
abbrev pub ReadiedSide : Forest → Forest → Forest → Type 0
ReadiedSide a b c = (c ≡ a) ⊎ (c ≡ b)

-- Why values and listed types weren't put into one of both sides.
pub data AreReadyStop (ts : List Tree) (l : Listing) (S : State) (a b : Forest) (s : Stop) : Type 0 where
  left_readied : IsReadyStop ts l S a s → AreReadyStop ts l S a b s
  right_readied : IsReadyStop ts l S b s → AreReadyStop ts l S a b s

-- Why both sides weren't opened: the variables for open parts, what comes of a side, or a goal wasn't made.
pub data IsSidesStop (ts : List Tree) (a b : Forest) (o : Opened) (S : State) : Stop → Type 0 where
  of_opening : {s : Stop} → IsVariablesStop ts S o.parts s → IsSidesStop ts a b o S s
  of_side : {s : Stop} (c : Forest) → ReadiedSide a b c → IsSubstStop (length ts) (opened o.pairs c) s → IsSidesStop ts a b o S s
  of_pairs : {s : Stop} → IsPairsStop ts o.pairs s → IsSidesStop ts a b o S s

-- Why an equation stopped in which aliases may be open.
pub data IsOpeningStop (ts : List Tree) (l : Listing) (S : State) (e : Env) (a b : Forest) : Stop → Type 0 where
  as_it_is : {s : Stop} → IsEquationStop ts l S a b s → IsOpeningStop ts l S e a b s
  resolved_side : {s : Stop} (c : Forest) → are_open l S ≡ true → ReadiedSide a b c → IsSubstStop (length ts) (resolved S c) s → IsOpeningStop ts l S e a b s
  side_listed : {s : Stop} (c : Forest) → are_open l S ≡ true → ReadiedSide a b c → IsSubstStop (length ts) c s → IsOpeningStop ts l S e a b s
  sides_readied : {s : Stop} → are_open l S ≡ true → AreReadyStop ts l S a b s → IsOpeningStop ts l S e a b s
  sides_opened : {s : Stop} → are_open l S ≡ true → IsSidesStop ts (readied l S a) (readied l S b) (opening l S a b) S s → IsOpeningStop ts l S e a b s
  sides_equated : {s : Stop} → are_open l S ≡ true
      → IsEquationStop ts l (opening l S a b).state (opened (opening l S a b).pairs (readied l S a)) (opened (opening l S a b).pairs (readied l S b)) s → IsOpeningStop ts l S e a b s
  goals_left : are_open l S ≡ true → IsOpeningStop ts l S e a b Memory

-- Pending goals.

-- Why the instance of a clause, with placeholders of a fresh universe, wasn't made.
pub data IsInstanceStop (ts : List Tree) (S : State) (c : Tree) (s : Stop) : Type 0 where
  of_list : IsFullAt (length ts) s → IsInstanceStop ts S c s
  of_universe : IsFullAt S.newest_universe s → IsInstanceStop ts S c s
  of_kinds : IsFullAt (length (bound_kinds c.children)) s → IsInstanceStop ts S c s
  of_instance : IsTreeStop ts (with_facts c (instantiated S c).1) s → IsInstanceStop ts S c s

-- Why a listed type wasn't equated with this term: the term wasn't made with all values and listed types put in, or the equation stopped.
abbrev pub IsListedStop : List Tree → Listing → State → Tree → Tree → Stop → Type 0
IsListedStop ts l S u t s = IsValueStop ts l S [] t s ⊎ IsEquationStop ts l S (alone u) (alone t) s

-- Why the type that is listed for this alias wasn't equated with this term.
pub data IsProjectionStop (ts : List Tree) (l : Listing) (S : State) (a t : Tree) (s : Stop) : Type 0 where
  of_alias : IsTreeStop ts a s → IsProjectionStop ts l S a t s
  of_resolved_alias : IsTreeStop ts (resolved_tree S a) s → IsProjectionStop ts l S a t s
  of_equation : (u : Tree) → listed l (resolved_tree S a) ≡ Some u → IsListedStop ts l S u t s → IsProjectionStop ts l S a t s

-- Why two trees that are to be one weren't made equal: one of them wasn't made with all values put in and listed types in the place of their
-- aliases, or the equation stopped.
pub data IsRelationStop (ts : List Tree) (l : Listing) (S : State) (t u : Tree) (s : Stop) : Type 0 where
  of_first_value : IsValueStop ts l S [] t s → IsRelationStop ts l S t u s
  of_second_value : IsValueStop ts l S [] u s → IsRelationStop ts l S t u s
  of_related : IsEquationStop ts l S (alone t) (alone u) s → IsRelationStop ts l S t u s

abbrev pub is_relation : Head → Bool
is_relation (H.Part (P.Clause Cl.AliasRelate)) = true
is_relation (H.Part (P.Clause Cl.ConstEquate)) = true
is_relation _ = false

-- What an evaluator holds when it stops: the trees of its context, and how many goals it knows of.
pub record Held : Type 0 where
  pub trees : List Tree
  pub goals : ℕ

abbrev pub held : Evaluator → Held
held r = record { trees = r.context.trees; goals = length r.goals.table + length r.goals.asked }

-- Why variables weren't numbered anew, where so many are noted and so many numbers of nodes are given: there are more variables than
-- numbers, or the trees weren't made that were to come.
pub data IsRenumberingStop (many given : ℕ) (made : Forest) : Stop → Type 0 where
  too_many_open : 4294967295 < many → IsRenumberingStop many given made NodesFull
  of_made : {s : Stop} → IsSubstStop given made s → IsRenumberingStop many given made s

-- Why a list wasn't made with its variables numbered from 0 on: they weren't noted, or not numbered anew.
pub data IsCanonicalStop (ts : List Tree) (f : Forest) (s : Stop) : Type 0 where
  of_own_numbers : IsNotingStop ts s → IsCanonicalStop ts f s
  of_own_list : IsRenumberingStop (length (with_numbers [] f)) (length ts) (renumbered (with_numbers [] f) f) s → IsCanonicalStop ts f s

-- Why a goal, with this environment and this clause, wasn't made with its variables numbered anew.
pub data IsNumberedStop (ts : List Tree) (ns : List ℕ) (e : Forest) (c : Tree) : Stop → Type 0 where
  of_numbered_env : {s : Stop} → IsRenumberingStop (length ns) (length ts) (renumbered ns e) s → IsNumberedStop ts ns e c s
  of_numbered_clause : {s : Stop} → IsRenumberingStop (length ns) (length ts) (alone (renumbered_tree ns c)) s → IsNumberedStop ts ns e c s

-- Why the key of a goal wasn't made, which this clause says under this environment: values weren't put in, variables weren't noted, or
-- they weren't numbered anew.
pub data IsKeyStop (ts : List Tree) (S : State) (e : Env) (c : Tree) : Stop → Type 0 where
  key_memory : IsKeyStop ts S e c Memory
  of_env : {s : Stop} → IsSubstStop (length ts) (resolved S e) s → IsKeyStop ts S e c s
  of_goal_clause : {s : Stop} → IsTreeStop ts (resolved_tree S c) s → IsKeyStop ts S e c s
  of_noted : {s : Stop} → IsNotingStop ts s → IsKeyStop ts S e c s
  of_numbered : {s : Stop} → IsNumberedStop ts (numbers_at S (goal_said e c)) (resolved S e) (resolved_tree S c) s → IsKeyStop ts S e c s

-- the clause that says a goal, under a binder without variables
abbrev pub clause_saying : TraitGoal → Tree
clause_saying g = record {
  head = H.Part (P.Clause (Cl.Trait (record { 0 = g.reference.trait }) g.polarity));
  children = tree (H.Part P.Vars) none g.reference.arguments;
}

-- Why the key of a goal wasn't made that is given by its environment and what it says of a trait: the clause wasn't made that says it, or
-- then the key.
pub data IsGoalKeyStop (ts : List Tree) (S : State) (g : TraitGoal) (s : Stop) : Type 0 where
  of_saying : IsTreeStop ts (clause_saying g) s → IsGoalKeyStop ts S g s
  of_key_then : IsKeyStop ts S g.env (clause_saying g) s → IsGoalKeyStop ts S g s

-- what stands for the variables that a response leaves open, where these are the numbers of the key's
abbrev pub named_for : State → Key → List ℕ → Response → State × List ℕ
named_for S k ns r = named_at S r.vars (numbered (own_variable k.variables ns r.values) 0 r.vars)

-- what stands for what it says of its own
abbrev pub said_for : State → Key → List ℕ → Response → Values
said_for S k ns r = let q = ready_for S k ns r in translation (lift_to q.0 k r) q.1

-- Why a state didn't get the universes that a response names: they weren't looked for, or are too many.
pub data IsLiftStop (ts : List Tree) (S : State) (k : Key) (r : Response) (s : Stop) : Type 0 where
  of_names : IsNotingStop ts s → IsLiftStop ts S k r s
  of_more : IsOutOfRoom S.newest_universe (greatest_said r - newest_of k) s → IsLiftStop ts S k r s

-- Why the values that a response says weren't given: the list, the fresh variables or the new universes weren't made, the values weren't
-- made or not made equal, or the constraints weren't made.
pub data IsGivingStop (ts : List Tree) (l : Listing) (S : State) (k : Key) (ns : List ℕ) (r : Response) : Stop → Type 0 where
  giving_memory : IsGivingStop ts l S k ns r Memory
  of_row : {s : Stop} → IsFullAt (length ts) s → IsGivingStop ts l S k ns r s
  of_fresh : {s : Stop} (n : ℕ) → n ≤ length S.variables + length r.vars → IsFullAt n s → IsGivingStop ts l S k ns r s
  of_lift : {s : Stop} → IsLiftStop ts S k r s → IsGivingStop ts l S k ns r s
  of_given_values : {s : Stop} → IsSubstStop (length ts) (valued (said_for S k ns r) r.values) s → IsGivingStop ts l S k ns r s
  of_given_equation : {s : Stop} → IsEquationStop ts l (ready_for S k ns r).0 (variables_row k.variables ns) (valued (said_for S k ns r) r.values) s → IsGivingStop ts l S k ns r s
  of_given_constraint : {s : Stop} (c : Tree) → Contains r.regions c → IsTreeStop ts (valued_tree (said_for S k ns r) c) s → IsGivingStop ts l S k ns r s

-- Why a goal wasn't asked for: there is no room for one more, or its variables weren't looked at.
pub data IsAskingStop (h : Held) : Stop → Type 0 where
  of_looking : {s : Stop} → IsNotingStop h.trees s → IsAskingStop h s
  many_goals : most_goals ≤ h.goals → IsAskingStop h EvaluatorLimit

-- Why a goal of a trait wasn't evaluated, which this clause says: its key wasn't made, it wasn't asked for, or what a Yes says wasn't given.
pub data IsTraitStop (h : Held) (q : Reads) (S : State) (e : Env) (c : Tree) : Stop → Type 0 where
  of_key : {s : Stop} → IsKeyStop h.trees S e c s → IsTraitStop h q S e c s
  of_asking : {s : Stop} → IsAskingStop h s → IsTraitStop h q S e c s
  of_giving : {s : Stop} (r : Response) (w : Option Via) → verdict_in q.table (key_at S (goal_said e c)) ≡ Some (Yes r w)
      → IsGivingStop h.trees q.listing S (key_at S (goal_said e c)) (numbers_at S (goal_said e c)) r s → IsTraitStop h q S e c s

-- Why an instance wasn't evaluated, under its environment, by the head of its clause: it wasn't recorded, or what it says of a projection
-- or of a trait wasn't made to hold.
pub data IsEvaluationStop (h : Held) (q : Reads) (S : State) (e : Env) (c : Tree) : Stop → Type 0 where
  not_recorded : IsEvaluationStop h q S e c Memory
  of_projection : {s : Stop} (i : AssocId) → c.head ≡ H.Part (P.Clause (Cl.Projection i))
      → IsProjectionStop h.trees q.listing S (alias_of i (after_first c.children)) (term_of (after_first c.children)) s → IsEvaluationStop h q S e c s
  of_relation : {s : Stop} → is_relation c.head ≡ true → IsRelationStop h.trees q.listing S (first_fact (after_first c.children)) (term_of (after_first c.children)) s → IsEvaluationStop h q S e c s
  of_trait : {s : Stop} → is_some (trait_said c.head) ≡ true → IsTraitStop h q S e c s → IsEvaluationStop h q S e c s

-- Why a goal wasn't evaluated: its instance wasn't made, or wasn't evaluated at the state that has its placeholders.
pub data IsGoalStop (h : Held) (q : Reads) (S : State) (p : Pending) : Stop → Type 0 where
  goal_memory : IsGoalStop h q S p Memory
  of_clause : {s : Stop} → IsInstanceStop h.trees S p.goal.clause s → IsGoalStop h q S p s
  of_evaluation : {s : Stop} → IsEvaluationStop h q (instantiated S p.goal.clause).0 p.goal.env (with_facts p.goal.clause (instantiated S p.goal.clause).1) s → IsGoalStop h q S p s

-- Why goals, one after the other, weren't evaluated: one of them stopped.
pub data AreGoalsStop (h : Held) (q : Reads) (s : Stop) : State → List Pending → Type 0 where
  this_goal : {S : State} {p : Pending} {ps : List Pending} → IsGoalStop h q S p s → AreGoalsStop h q s S (p ∷ ps)
  later_goal : {S T : State} {p : Pending} {ps qs : List Pending} → try_of q S p ≡ Some (qs, T) → AreGoalsStop h q s T ps → AreGoalsStop h q s S (p ∷ ps)

-- Why what is pending wasn't evaluated once: a goal stopped, or what stayed didn't become pending.
pub data IsPassStop (h : Held) (q : Reads) (S : State) : Stop → Type 0 where
  pass_memory : IsPassStop h q S Memory
  of_goals : {s : Stop} → AreGoalsStop h q s S S.pending → IsPassStop h q S s

-- Why what is pending wasn't evaluated so many times at most: one pass stopped, and each before it gave a variable a value.
pub data ArePassesStop (h : Held) (q : Reads) (s : Stop) : ℕ → State → Type 0 where
  this_pass : {n : ℕ} {S : State} → IsPassStop h q S s → ArePassesStop h q s (suc n) S
  later_pass : {n : ℕ} {S T : State} → pass_by (try_of q) S ≡ Some T → gave_a_value S.variables T.variables ≡ true → ArePassesStop h q s n T → ArePassesStop h q s (suc n) S

-- Why what is pending wasn't evaluated: one of the passes stopped.
abbrev pub IsSettlingStop : Held → Reads → State → Stop → Type 0
IsSettlingStop h q S s = ArePassesStop h q s 8 S

-- Responses.

-- why an answer wasn't numbered anew; where nothing is answered, nothing stops
abbrev pub IsNewNumberStop : ℕ → ℕ → Option Tree → Stop → Type 0
IsNewNumberStop many given None s = ⊥
IsNewNumberStop many given (Some t) s = IsRenumberingStop many given (alone t) s

-- the same of trees, one after the other, whose new numbers are the places of the old ones among these
pub data AreRenumberingStops (ts : List Tree) (ns : List ℕ) (cs : List Tree) : Stop → Type 0 where
  no_list : AreRenumberingStops ts ns cs Memory
  of_one : {s : Stop} (c : Tree) → Contains cs c → IsRenumberingStop (length ns) (length ts) (alone (renumbered_tree ns c)) s → AreRenumberingStops ts ns cs s

-- Why the response of what is known wasn't made.
pub data IsResponseStop (ts : List Tree) (S : State) : Stop → Type 0 where
  response_memory : IsResponseStop ts S Memory
  full_table : {s : Stop} → IsFullAt (length ts) s → IsResponseStop ts S s
  too_many_variables : 4294967295 ≤ length S.variables → IsResponseStop ts S NodesFull
  of_roots : {s : Stop} → IsSubstStop (length ts) (root_values S) s → IsResponseStop ts S s
  of_constraint : {s : Stop} (c : Tree) → Contains S.regions c → IsTreeStop ts (resolved_tree S c) s → IsResponseStop ts S s
  of_noting : {s : Stop} → IsNotingStop ts s → IsResponseStop ts S s
  of_values : {s : Stop} → IsRenumberingStop (length (open_numbers S)) (length ts) (renumbered (open_numbers S) (root_values S)) s → IsResponseStop ts S s
  of_renumbered : {s : Stop} → AreRenumberingStops ts (open_numbers S) (constraints S) s → IsResponseStop ts S s

-- Why what is pending wasn't evaluated, or no response was made of what is known then.
pub data IsPureFolderStop (h : Held) (q : Reads) (S : State) (s : Stop) : Type 0 where
  of_settling : IsSettlingStop h q S s → IsPureFolderStop h q S s
  of_response : (c : Certainty) (T : State) → settled_with q.table q.listing S ≡ Some (c, T) → IsResponseStop h.trees T s → IsPureFolderStop h q S s

-- Why a normal form wasn't made: values weren't put in, or a variable for an open alias wasn't made.
pub data IsNormalStop (ts : List Tree) (l : Listing) (S : State) (t : Tree) : Stop → Type 0 where
  normal_value : {s : Stop} → IsTreeStop ts (resolved_tree S t) s → IsNormalStop ts l S t s
  normal_variable : {s : Stop} → are_open l S ≡ true → IsFullAt (length S.variables) s → IsNormalStop ts l S t s
  normal_number : {s : Stop} → are_open l S ≡ true → IsFullAt (length ts) s → IsNormalStop ts l S t s

-- The evaluator's account of its stops: of the evaluator that is left, by the state at which it was asked and what.
abbrev pub accounts : Evaluator → State → Question → Stop → Type 0
accounts r S (Q.resolve ts) s = IsSubstStop (length r.context.trees) (resolved S ts) s
accounts r S (Q.normalize e t) s = IsNormalStop r.context.trees (listing r) S t s
accounts r S (Q.make_variables ks) s = IsOutOfRoom (length S.variables) (length ks) s ⊎ IsFullAt (length r.context.trees) s
accounts r S (Q.make_placeholders ks) s = IsFullAt (length ks) s ⊎ IsFullAt S.newest_universe s ⊎ IsFullAt (length r.context.trees) s
accounts r S (Q.equate e a b) s = IsOpeningStop r.context.trees (listing r) S e a b s
accounts r S (Q.add_goals ps) s = s ≡ Memory
accounts r S Q.evaluate s = IsSettlingStop (held r) (reads r) S s
accounts r S (Q.respond c) s = IsPureFolderStop (held r) (reads r) S s
accounts r S (Q.begin_probe k) s = s ≡ Memory
accounts r S (Q.find_opaques t) s = s ≡ Memory
accounts r S (Q.delay text) s = s ≡ Memory
