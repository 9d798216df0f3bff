-- Why goals that are pending aren't evaluated.
use Rattle.std.proofs.Common.{◌≡◌, inl, inr, ℕ, suc, true, ◌<◌, ◌+◌, ◌-◌, List, [], ◌∷◌, ◌++◌, length, drop, slice_index_or, Option, Some, IfSome, Result, Ok, Err, sym, ◌∙◌, ap, subst, arith}
use Rattle.std.proofs.lemmas.List.{length-drop}
use Rattle.std.specs.Prelude.{IfErr, IsErrAnd}
use Rattle.std.specs.Option.{option_to_list}
use Rattle.ir_trees.specs.declared.ir.heads.ClauseHead.{ClauseHead}
use Rattle.ir_trees.specs.declared.ir.heads.Head.TheVariants as H
use Rattle.ir_trees.specs.declared.ir.heads.PartHead.TheVariants as P
use Rattle.ir_trees.specs.declared.ir.kinds.GenericArg.{GenericArg}
use Rattle.ir_trees.specs.declared.ir.kinds.ProjectionPredicate.{ProjectionPredicate}
use Rattle.ir_trees.specs.declared.ir.stop.Stop.{Stop}
use Rattle.ir_trees.specs.declared.ir.stop.Stop.TheVariants.{Memory}
use Rattle.ir_trees.specs.Declarations.Context.{Context}
use Rattle.ir_trees.specs.Instantiation.Folding.{no_memory, few_numbers, high_tree}
use Rattle.ir_trees.specs.Instantiation.Folds.{arg_tree}
use Rattle.ir_trees.specs.Unification.Substitutions.{alone}
use Rattle.ir_trees.specs.Hierarchy.Supers.{after_first}
use Rattle.ir_trees.specs.Syntax.Trees.{Tree, height}
use Rattle.ir_trees.specs.Syntax.Words.{IsMkStop, kind_tree, ty_tree}
use Rattle.candidate_eval.specs.declared.eval.certainty.Certainty.{Certainty}
use Rattle.candidate_eval.specs.declared.eval.refusal.NoSolutionOrStop.{NoSolutionOrStop}
use Rattle.candidate_eval.specs.declared.eval.refusal.NoSolutionOrStop.TheVariants as refusal
use Rattle.candidate_eval.specs.Interface.Evaluators.{IsGoal, pending_of, pendings_of}
use Rattle.candidate_eval.specs.Judges.States.{Env, Pending, State, resolved_tree}
use Rattle.candidate_rounds.specs.Table.Goals.{Reads}
use Rattle.candidate_rounds.specs.Evaluators.Known.{Each, Evaluator, GoesOn, IsEvaluator, reads, state}
use Rattle.candidate_rounds.specs.Evaluators.Stopping.{Held, IsRelationStop, IsTreeStop, IsValueStop, is_relation, of_related, of_relation, of_second_value, IsEquationStop, IsInstanceStop, of_instance, IsListedStop, IsProjectionStop, of_equation, IsEvaluationStop, of_projection, IsGoalStop, goal_memory, of_evaluation, AreGoalsStop, this_goal, later_goal, IsPassStop, of_goals, ArePassesStop, this_pass, later_pass, IsResponseStop, IsPureFolderStop, of_response}
use Rattle.candidate_rounds.specs.Table.Trying.{IsProjection, IsRelation, left_of, projection_of, try_of}
use Rattle.rounds_judge.specs.Aliases.Listed.{Listing, listed}
use Rattle.rounds_judge.specs.Obligations.Settling.{alias_of, first_fact, gave_a_value, term_of, instantiated, with_facts}
use Rattle.rounds_judge.specs.Table.TableSettling.{pass_by, settled_with}
use Rattle.candidate_rounds.proofs.Obligations.Evaluating.{PassesSoFar, Sourced, TriesSoFar, no-passes, no-tries, one-more-pass, one-more-try, pending-kept}
use Rattle.candidate_rounds.proofs.Evaluators.Going.{goes-reads}
use Rattle.candidate_rounds.proofs.Obligations.Projecting.{alias-is, term-is, term-joined}
use Rattle.candidate_rounds.proofs.Snapshots.Undoing.{drop-one}

-- What a call that is refused or stops says of its stops.
abbrev pub IfStops : {A : Type 0} → Result A NoSolutionOrStop → (Stop → Type 0) → Type 0
IfStops r P = IfErr r (λ e. (s : Stop) → e ≡ refusal.Stop s → P s)

one-stop : (x s : Stop) → refusal.Stop x ≡ refusal.Stop s → x ≡ s
one-stop x s e = cc

-- A stop becomes such a stop, or is passed on as one.

pub stop-said : (P : Stop → Type 0) (x : Stop) → P x → (s : Stop) → refusal.Stop x ≡ refusal.Stop s → P s
stop-said P x p s e = subst P (one-stop x s e) p

pub stop-becomes : {A : Type 0} (P : Stop → Type 0) (r : Result A NoSolutionOrStop) (x : Stop) → IsErrAnd r (λ e. e ≡ refusal.Stop x) → P x → IfStops r P
stop-becomes P (Ok a) x q p = absurd q
stop-becomes P (Err e) x q p = λ s k. subst P (one-stop x s (sym q ∙ k)) p

pub growth-becomes : {A : Type 0} (P : Stop → Type 0) (r : Result A NoSolutionOrStop) (x : Stop) → IsErrAnd r (λ e. e ≡ refusal.Stop x) → x ≡ Memory → P Memory → IfStops r P
growth-becomes P r x q m p = stop-becomes P r x q (subst P (sym m) p)

pub refusal-passed : {A : Type 0} (P Q : Stop → Type 0) (r : Result A NoSolutionOrStop) (x : NoSolutionOrStop) → IsErrAnd r (λ e. e ≡ x) → ((s : Stop) → x ≡ refusal.Stop s → Q s) → ((s : Stop) → Q s → P s)
    → IfStops r P
refusal-passed P Q (Ok a) x q f g = absurd q
refusal-passed P Q (Err e) x q f g = λ s k. g s (f s (sym q ∙ k))

pub stops-then : {A : Type 0} (P Q : Stop → Type 0) (r : Result A NoSolutionOrStop) → IfStops r Q → ((s : Stop) → Q s → P s) → IfStops r P
stops-then P Q (Ok a) f g = tt
stops-then P Q (Err e) f g = λ s k. g s (f s k)

pub cause-then : {A : Type 0} (P Q : Stop → Type 0) (r : Result A Stop) → IfErr r Q → ((s : Stop) → Q s → P s) → IfErr r P
cause-then P Q (Ok a) f g = tt
cause-then P Q (Err s) f g = g s f

-- A type that is made.
pub type-unmade : (a b : Context) (t : Tree) (s : Stop) → b ≡ a → IsMkStop a.trees (height t) s → IsTreeStop b.trees t s
type-unmade a b t s e (inl z) = subst (IsTreeStop b.trees t) (sym z) no_memory
type-unmade a b t s e (inr (z, inl few)) = let same = ap (λ (c : Context). length c.trees) e in subst (IsTreeStop b.trees t) (sym z) (few_numbers (omega (arith, few, same)))
type-unmade a b t s e (inr (z, inr tall)) = subst (IsTreeStop b.trees t) (sym z) (high_tree (omega (arith, tall)))

pub type-stop : {A : Type 0} (a b : Context) (t : Tree) (r : Result A Stop) → IfErr r (λ _. b ≡ a) → IfErr r (λ s. IsMkStop a.trees (height t) s) → IfErr r (λ s. IsTreeStop b.trees t s)
type-stop a b t (Ok x) e c = tt
type-stop a b t (Err s) e c = type-unmade a b t s e c

-- An instance that isn't made.
pub instance-stop : {A : Type 0} (ts : List Tree) (S : State) (c t : Tree) (r : Result A Stop) → t ≡ with_facts c (instantiated S c).1 → IfErr r (λ s. IsTreeStop ts t s) → IfErr r (λ s. IsInstanceStop ts S c s)
instance-stop ts S c t r e f = cause-then (IsInstanceStop ts S c) (IsTreeStop ts t) r f (λ s k. of_instance (subst (λ u. IsTreeStop ts u s) e k))

-- A listed type that isn't equated with the term.

pub alias-unequal : (ts : List Tree) (l m : Listing) (S T : State) (a t r u x : Tree) (s : Stop) → m ≡ l → T ≡ S → r ≡ resolved_tree S a → x ≡ t → listed m r ≡ Some u
    → IsListedStop ts m T u x s → IsProjectionStop ts l S a t s
alias-unequal ts l m S T a t r u x s i j e f n c =
    let found : listed l (resolved_tree S a) ≡ Some u = ap (listed l) (sym e) ∙ (ap (λ k. listed k r) (sym i) ∙ n) in
    of_equation u found (subst (λ (q : Listing × (State × Tree)). IsListedStop ts q.0 q.1.0 u q.1.1 s) (λ y. (i y, (j y, f y))) c)

pub listed-unequal : (ts : List Tree) (l m : Listing) (S T : State) (u t v x : Tree) (s : Stop) → m ≡ l → T ≡ S → v ≡ u → x ≡ t → IsEquationStop ts m T (alone v) (alone x) s → IsListedStop ts l S u t s
listed-unequal ts l m S T u t v x s i j e f c =
    inr (subst (λ (q : Listing × (State × (Tree × Tree))). IsEquationStop ts q.0 q.1.0 (alone q.1.1.0) (alone q.1.1.1) s) (λ y. (i y, (j y, (e y, f y)))) c)

pub projection-same : (ts : List Tree) (l m : Listing) (S T : State) (a b t u : Tree) (s : Stop) → m ≡ l → T ≡ S → b ≡ a → u ≡ t → IsProjectionStop ts m T b u s → IsProjectionStop ts l S a t s
projection-same ts l m S T a b t u s i j e f c =
    subst (λ y. IsProjectionStop ts l S a y s) f
    (subst (λ x. IsProjectionStop ts l S x u s) e (subst (λ V. IsProjectionStop ts l V b u s) j (subst (λ k. IsProjectionStop ts k T b u s) i c)))

-- what a projection says
pub projection-evaluates : (h : Held) (q : Reads) (S : State) (e : Env) (c : Context) (x : Tree) (p : ProjectionPredicate) (s : Stop) → IsProjection c x p
    → IsProjectionStop h.trees q.listing S (kind_tree c.trees (projection_of p)) (ty_tree c.trees p.term) s → IsEvaluationStop h q S e x s
projection-evaluates h q S e c x p s r k =
    of_projection p.projection_term.def_id r.head
    (subst (λ y. IsProjectionStop h.trees q.listing S (alias_of p.projection_term.def_id (after_first x.children)) y s) (sym (term-is c x p r))
    (subst (λ y. IsProjectionStop h.trees q.listing S y (ty_tree c.trees p.term) s) (sym (alias-is c x p r)) k))

-- Two arguments that are to be one.

module _ (ts : List Tree) (l : Listing) (S : State) (t u : Tree) (s : Stop) where
  pub second-value-stop : (m : Listing) (T : State) (v : Tree) → m ≡ l → T ≡ S → v ≡ u → IsValueStop ts m T [] v s → IsRelationStop ts l S t u s
  second-value-stop m T v i j e k =
      of_second_value (subst (λ x. IsValueStop ts l S [] x s) e (subst (λ U. IsValueStop ts l U [] v s) j (subst (λ n. IsValueStop ts n T [] v s) i k)))

  pub related-stop : (m : Listing) (T : State) (x v : Tree) → m ≡ l → T ≡ S → x ≡ t → v ≡ u → IsEquationStop ts m T (alone x) (alone v) s → IsRelationStop ts l S t u s
  related-stop m T x v i j a b k =
      of_related
      (subst (λ y. IsEquationStop ts l S (alone t) (alone y) s) b (subst (λ y. IsEquationStop ts l S (alone y) (alone v) s) a
      (subst (λ U. IsEquationStop ts l U (alone x) (alone v) s) j (subst (λ n. IsEquationStop ts n T (alone x) (alone v) s) i k))))

pub relation-evaluates : (h : Held) (q : Reads) (S : State) (e : Env) (c : Context) (x : Tree) (k : ClauseHead) (a b : GenericArg) (s : Stop) → IsRelation c x k a b → is_relation (H.Part (P.Clause k)) ≡ true
    → IsRelationStop h.trees q.listing S (arg_tree c.trees a) (arg_tree c.trees b) s → IsEvaluationStop h q S e x s
relation-evaluates h q S e c x k a b s r is stop =
    of_relation (ap is_relation r.head ∙ is)
    (subst (λ ts. IsRelationStop h.trees q.listing S (first_fact ts) (term_of ts) s) (sym r.facts)
    (subst (λ y. IsRelationStop h.trees q.listing S (arg_tree c.trees a) y s) (sym (term-joined (alone (arg_tree c.trees a)) (arg_tree c.trees b))) stop))

-- the instance of a goal
pub evaluation-stop : (h : Held) (q r : Reads) (S T : State) (p : Pending) (env : Env) (x : Tree) (s : Stop) → r ≡ q → T ≡ (instantiated S p.goal.clause).0 → env ≡ p.goal.env
    → x ≡ with_facts p.goal.clause (instantiated S p.goal.clause).1 → IsEvaluationStop h r T env x s → IsGoalStop h q S p s
evaluation-stop h q r S T p env x s i j a e c =
    of_evaluation
    (subst (λ (y : Tree). IsEvaluationStop h q (instantiated S p.goal.clause).0 p.goal.env y s) e
    (subst (λ z. IsEvaluationStop h q (instantiated S p.goal.clause).0 z x s) a
    (subst (λ V. IsEvaluationStop h q V env x s) j (subst (λ k. IsEvaluationStop h k T env x s) i c))))

-- Goals, one after another: what stops those that are left stops all.

pub record TriesOn (old now : Evaluator) (gs : List Sourced) (i : ℕ) (staying : List Sourced) : Type 0 where
  pub tries : TriesSoFar old now gs i staying
  pub stops : (h : Held) (s : Stop) → AreGoalsStop h (reads old) s (state now) (pendings_of old.context.trees (drop i gs))
      → AreGoalsStop h (reads old) s (state old) (pendings_of old.context.trees gs)

pub begin-tries : (old : Evaluator) (gs xs : List Sourced) → xs ≡ [] → GoesOn old old → TriesOn old old gs 0 xs
begin-tries old gs xs e g = record { tries = no-tries old gs xs e g; stops = λ h s c. c }

module _ (old now new : Evaluator) (gs : List Sourced) (i : ℕ) (d : Sourced) (staying : List Sourced) (kept : IsEvaluator old.context old.inference old.marks old.normal old.opaques old.goals) (fits : Each (λ g. IsGoal old.context.trees g.1) gs)
    (a : TriesOn old now gs i staying) (l : i < length gs) (fit : IsGoal old.context.trees (slice_index_or gs i d).1) where
  abbrev first : Pending
  first = pending_of old.context.trees (slice_index_or gs i d).0 (slice_index_or gs i d).1

  abbrev others : List Pending
  others = pendings_of old.context.trees (drop (suc i) gs)

  left-are : pendings_of old.context.trees (drop i gs) ≡ first ∷ others
  left-are = ap (pendings_of old.context.trees) (drop-one gs i d l)

  first-is : pending_of now.context.trees (slice_index_or gs i d).0 (slice_index_or gs i d).1 ≡ first
  first-is = pending-kept old.context now.context (slice_index_or gs i d).0 (slice_index_or gs i d).1 a.tries.goes.0 fit

  stops-here : (h : Held) (s : Stop) → AreGoalsStop h (reads old) s (state now) (first ∷ others) → AreGoalsStop h (reads old) s (state old) (pendings_of old.context.trees gs)
  stops-here h s c = a.stops h s (subst (λ ps. AreGoalsStop h (reads old) s (state now) ps) (sym left-are) c)

  pub goal-stops : (h : Held) (s : Stop) → IsGoalStop h (reads now) (state now) (pending_of now.context.trees (slice_index_or gs i d).0 (slice_index_or gs i d).1) s
      → AreGoalsStop h (reads old) s (state old) (pendings_of old.context.trees gs)
  goal-stops h s c =
      let p = pending_of now.context.trees (slice_index_or gs i d).0 (slice_index_or gs i d).1 in
      stops-here h s
      (this_goal (subst (λ q. IsGoalStop h (reads old) (state now) q s) first-is (subst (λ m. IsGoalStop h m (state now) p s) (goes-reads old now a.tries.goes kept) c)))

  pub one-more-goal : (o : Option Sourced) (made : List Sourced) → GoesOn now new → IfSome o (λ g. IsGoal new.context.trees g.1)
      → try_of (reads now) (state now) (pending_of now.context.trees (slice_index_or gs i d).0 (slice_index_or gs i d).1) ≡ Some (left_of new.context.trees o, state new)
      → made ≡ staying ++ option_to_list o → TriesOn old new gs (i + 1) made
  one-more-goal o made g s t m = record {
    tries = one-more-try old now new gs i d staying kept fits a.tries l fit o made g s t m;
    stops = λ h x c.
        let next-one : i + 1 ≡ suc i = omega arith in
        let t' : try_of (reads old) (state now) first ≡ Some (left_of new.context.trees o, state new)
        = ap (try_of (reads old) (state now)) (sym first-is)
        ∙ (ap (λ k. try_of k (state now) (pending_of now.context.trees (slice_index_or gs i d).0 (slice_index_or gs i d).1)) (sym (goes-reads old now a.tries.goes kept)) ∙ t) in
        stops-here h x (later_goal t' (subst (λ n. AreGoalsStop h (reads old) x (state new) (pendings_of old.context.trees (drop n gs))) next-one c));
  }

-- where a growth was refused while a goal was evaluated
pub growth-stops : (old now : Evaluator) (gs : List Sourced) (i : ℕ) (staying : List Sourced) → TriesOn old now gs i staying → i < length gs → (h : Held)
    → AreGoalsStop h (reads old) Memory (state old) (pendings_of old.context.trees gs)
growth-stops old now gs i staying a l h = let n = length-drop i gs in a.stops h Memory (at (drop i gs) (omega (arith, n, l)))
  where
    at : (xs : List Sourced) → 0 < length xs → AreGoalsStop h (reads old) Memory (state now) (pendings_of old.context.trees xs)
    at [] k = absurd (omega (arith, k))
    at (x ∷ xs) k = this_goal goal_memory

-- Passes, one after another.

pub record PassesOn (old now : Evaluator) (most i : ℕ) : Type 0 where
  pub passes : PassesSoFar old now most i
  pub stops : (h : Held) (s : Stop) → ArePassesStop h (reads old) s (most - i) (state now) → ArePassesStop h (reads old) s most (state old)

pub begin-passes : (old : Evaluator) (most : ℕ) → GoesOn old old → PassesOn old old most 0
begin-passes old most g = record {
  passes = no-passes old most g;
  stops = λ h s c. let n : most - 0 ≡ most = omega arith in subst (λ k. ArePassesStop h (reads old) s k (state old)) n c;
}

module _ (old now : Evaluator) (most i : ℕ) (kept : IsEvaluator old.context old.inference old.marks old.normal old.opaques old.goals) (a : PassesOn old now most i) (l : i < most) where
  stops-now : (h : Held) (s : Stop) → ArePassesStop h (reads old) s (suc (most - (i + 1))) (state now) → ArePassesStop h (reads old) s most (state old)
  stops-now h s c = let n : suc (most - (i + 1)) ≡ most - i = omega (arith, l) in a.stops h s (subst (λ k. ArePassesStop h (reads old) s k (state now)) n c)

  pub pass-stops : (h : Held) (s : Stop) → IsPassStop h (reads now) (state now) s → ArePassesStop h (reads old) s most (state old)
  pass-stops h s c = stops-now h s (this_pass (subst (λ k. IsPassStop h k (state now) s) (goes-reads old now a.passes.goes kept) c))

  pub one-more-settled : (new : Evaluator) → GoesOn now new → pass_by (try_of (reads now)) (state now) ≡ Some (state new) → gave_a_value (state now).variables (state new).variables ≡ true → PassesOn old new most (i + 1)
  one-more-settled new g p fewer = record {
    passes = one-more-pass old now most i kept a.passes l new g p fewer;
    stops = λ h s k.
        let p' : pass_by (try_of (reads old)) (state now) ≡ Some (state new) = ap (λ m. pass_by (try_of m) (state now)) (sym (goes-reads old now a.passes.goes kept)) ∙ p in
        stops-now h s (later_pass p' fewer k);
  }

-- What is pending is evaluated, and then comes the response.

pub pass-goals : (h : Held) (q : Reads) (S : State) (ps : List Pending) (s : Stop) → ps ≡ S.pending → AreGoalsStop h q s S ps → IsPassStop h q S s
pass-goals h q S ps s e c = of_goals (subst (λ qs. AreGoalsStop h q s S qs) e c)

pub response-stop : (ts : List Tree) (h : Held) (q : Reads) (S T : State) (c : Certainty) (x : Stop) → settled_with q.table q.listing S ≡ Some (c, T) → h.trees ≡ ts → IsResponseStop ts T x
    → (s : Stop) → refusal.Stop x ≡ refusal.Stop s → IsPureFolderStop h q S s
response-stop ts h q S T c x e same k = stop-said (IsPureFolderStop h q S) x (of_response c T e (subst (λ vs. IsResponseStop vs T x) (sym same) k))
