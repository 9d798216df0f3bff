-- What a Yes gives, one part after the other.
use Rattle.std.proofs.Common.{◌≡◌, ◌≤◌, ◌<◌, ◌+◌, ◌-◌, ℕ, suc, List, [], ◌∷◌, ◌++◌, length, drop, map, slice_index_or, append_assoc, Option, Some, None, refl, sym, ◌∙◌, ap, subst, arith}
use Rattle.std.proofs.lemmas.List.{append-nil, length-append}
use Rattle.std.specs.List.{Contains}
use Rattle.ir_trees.specs.declared.ir.kinds.Args.{Args}
use Rattle.ir_trees.specs.declared.ir.kinds.Clause.{Clause}
use Rattle.ir_trees.specs.declared.ir.kinds.GenericArg.{GenericArg}
use Rattle.ir_trees.specs.declared.ir.stop.Stop.{Stop}
use Rattle.ir_trees.specs.Declarations.Context.{Context}
use Rattle.ir_trees.specs.Instantiation.Folding.{IsSubstStop}
use Rattle.ir_trees.specs.Syntax.Trees.{Forest, Tree}
use Rattle.ir_trees.specs.Syntax.Words.{ClauseListFits, args_forest, clause_tree, list_forest}
use Rattle.ir_trees.proofs.Growth.Made.{IsClause-listed}
use Rattle.candidate_eval.specs.declared.eval.variable.CanonicalVar.{CanonicalVar}
use Rattle.candidate_eval.specs.declared.eval.response.CanonicalResponse.{CanonicalResponse}
use Rattle.candidate_eval.specs.Outcomes.Responses.{Response}
use Rattle.candidate_eval.specs.Outcomes.ResponseTrees.{response_of}
use Rattle.candidate_eval.specs.Judges.States.{State, Values, next, valued, valued_tree}
use Rattle.candidate_rounds.specs.Calls.Giving.{AreConstraintsStop, IsConstraintStop, IsNamingStop, lift_of, no_constraint, no_name, of_constraint_put, of_open, of_this, with_constraints}
use Rattle.candidate_rounds.specs.Table.Goals.{key_seen}
use Rattle.candidate_rounds.specs.declared.rounds.giving.Lift.{Lift as KeptLift}
use Rattle.candidate_rounds.specs.declared.rounds.goals.GoalKey.{GoalKey}
use Rattle.candidate_rounds.specs.Evaluators.Inferences.{IsFullAt, IsOutOfRoom}
use Rattle.candidate_rounds.specs.Evaluators.Known.{Evaluator, GoesOn, state}
use Rattle.candidate_rounds.specs.Evaluators.Stopping.{IsEquationStop, IsGivingStop, IsLiftStop, IsTreeStop, giving_memory, named_for, of_fresh, of_given_constraint, of_given_equation, of_given_values, of_lift, of_more, of_names, said_for}
use Rattle.candidate_rounds.proofs.Evaluators.Going.{goes-trans}
use Rattle.candidate_rounds.proofs.Snapshots.Knowing.{clause-stays}
use Rattle.candidate_rounds.proofs.Stops.ResponseStops.{contains-mapped}
use Rattle.candidate_rounds.proofs.Snapshots.Undoing.{drop-beyond, drop-one}
use Rattle.rounds_judge.specs.Equations.Binding.{numbered}
use Rattle.rounds_judge.specs.Equations.Equating.{equated}
use Rattle.rounds_judge.specs.Table.Keys.{Key, newest_of}
use Rattle.rounds_judge.specs.Aliases.Listed.{Listing}
use Rattle.rounds_judge.specs.Obligations.Settling.{recorded}
use Rattle.rounds_judge.specs.Table.TableSettling.{given, greatest_said, lift_to, named_at, own_variable, ready_for, translation, variables_row, with_open, with_universes}

-- Variables were named, one after the other: with those that are left they are all.

abbrev Namer : Type 0
Namer = ℕ → CanonicalVar → Option ℕ

abbrev named_from : Namer → State → List CanonicalVar → ℕ → State × List ℕ
named_from f S cs i = named_at S (drop i cs) (numbered f i (drop i cs))

abbrev after : List ℕ → State × List ℕ → State × List ℕ
after ns q = (q.0, ns ++ q.1)

pub record NamedSoFar (f : Namer) (old now : Evaluator) (cs : List CanonicalVar) (i : ℕ) (ns : List ℕ) : Type 0 where
  pub goes : GoesOn old now
  pub context : now.context ≡ old.context
  pub few : length (state now).variables ≤ length (state old).variables + i
  pub left : named_at (state old) cs (numbered f 0 cs) ≡ after ns (named_from f (state now) cs i)

pub none-named : (f : Namer) (r : Evaluator) (cs : List CanonicalVar) → GoesOn r r → NamedSoFar f r r cs 0 []
none-named f r cs g = record { goes = g; context = refl; few = omega arith; left = refl }

more-after : (ns : List ℕ) (n : ℕ) (q : State × List ℕ) → after ns (q.0, n ∷ q.1) ≡ after (ns ++ n ∷ []) q
more-after ns n q = ap (λ ms. (q.0, ms)) (sym (append_assoc ns (n ∷ []) q.1))

module _ (f : Namer) (old now : Evaluator) (cs : List CanonicalVar) (i : ℕ) (ns ms : List ℕ) (d : CanonicalVar) (s : NamedSoFar f old now cs i ns) (l : i < length cs) where
  one : (S : State) (o : Option ℕ) → f i (slice_index_or cs i d) ≡ o → named_from f S cs i ≡ named_at S (slice_index_or cs i d ∷ drop (suc i) cs) (o ∷ numbered f (suc i) (drop (suc i) cs))
  one S o e =
      ap (λ xs. named_at S xs (numbered f i xs)) (drop-one cs i d l)
      ∙ ap (λ p. named_at S (slice_index_or cs i d ∷ drop (suc i) cs) (p ∷ numbered f (suc i) (drop (suc i) cs))) e

  pub own-named : (n : ℕ) → f i (slice_index_or cs i d) ≡ Some n → ms ≡ ns ++ n ∷ [] → NamedSoFar f old now cs (i + 1) ms
  own-named n e q = record {
    goes = s.goes;
    context = s.context;
    few = (let w = s.few in omega (arith, w));
    left =
        (let next : suc i ≡ i + 1 = omega arith in
        s.left
        ∙ (ap (after ns) (one (state now) (Some n) e)
        ∙ (more-after ns n (named_from f (state now) cs (suc i))
        ∙ (ap (λ xs. after xs (named_from f (state now) cs (suc i))) (sym q) ∙ ap (λ k. after ms (named_from f (state now) cs k)) next))));
  }

  pub fresh-named : (new : Evaluator) (n : ℕ) → f i (slice_index_or cs i d) ≡ None → GoesOn now new → new.context ≡ now.context → n ≡ length (state now).variables → state new ≡ with_open (state now) (slice_index_or cs i d)
      → ms ≡ ns ++ n ∷ [] → NamedSoFar f old new cs (i + 1) ms
  fresh-named new n e g x m w q = record {
    goes = goes-trans old now new s.goes g;
    context = x ∙ s.context;
    few =
        (let a = s.few in
        let b = ap (λ (S : State). length S.variables) w ∙ length-append (state now).variables _ in
        omega (arith, a, b));
    left =
        (let next : suc i ≡ i + 1 = omega arith in
        s.left
        ∙ (ap (after ns) (one (state now) None e)
        ∙ (more-after ns (length (state now).variables) (named_from f (with_open (state now) (slice_index_or cs i d)) cs (suc i))
        ∙ (ap (λ k. after (ns ++ k ∷ []) (named_from f (with_open (state now) (slice_index_or cs i d)) cs (suc i))) (sym m)
        ∙ (ap (λ xs. after xs (named_from f (with_open (state now) (slice_index_or cs i d)) cs (suc i))) (sym q)
        ∙ (ap (λ S. after ms (named_from f S cs (suc i))) (sym w) ∙ ap (λ k. after ms (named_from f (state new) cs k)) next))))));
  }

  pub open-stop : (x : Stop) → IsFullAt (length (state now).variables) x → IsNamingStop (length (state old).variables + length cs) x
  open-stop x h = of_open (length (state now).variables) (let a = s.few in omega (arith, a, l)) h

pub all-named : (f : Namer) (old now : Evaluator) (cs : List CanonicalVar) (i : ℕ) (ns : List ℕ) → NamedSoFar f old now cs i ns → length cs ≤ i → named_at (state old) cs (numbered f 0 cs) ≡ (state now, ns)
all-named f old now cs i ns s l =
    s.left ∙ (ap (λ xs. after ns (named_at (state now) xs (numbered f i xs))) (drop-beyond cs i l) ∙ ap (λ ms. (state now, ms)) (append-nil ns))

-- What is looked for in the context is so at first.
pub own-said : (old now : Evaluator) (x : Context) (vs ws : List CanonicalVar) (ns : List ℕ) (xs : List GenericArg) (a : Args) (j : ℕ) (c d : CanonicalVar) (o : Option ℕ) → x ≡ now.context → now.context ≡ old.context
    → list_forest x.trees xs ≡ args_forest x.trees a → ws ≡ vs → c ≡ d → o ≡ own_variable ws ns (list_forest x.trees xs) j c → own_variable vs ns (args_forest old.context.trees a) j d ≡ o
own-said old now x vs ws ns xs a j c d o p q e v i f =
    sym (f ∙ (ap (λ ts. own_variable ws ns ts j c) (e ∙ ap (λ (y : Context). args_forest y.trees a) (p ∙ q))
    ∙ (ap (λ us. own_variable us ns (args_forest old.context.trees a) j c) v ∙ ap (own_variable vs ns (args_forest old.context.trees a) j) i)))

-- Constraints were recorded, one after the other: with those that are left they are all.

abbrev put_all : Values → List Tree → List Tree
put_all v cs = map (valued_tree v) cs

pub record RecordedSoFar (old now : Evaluator) (v : Values) (cs : List Clause) (i : ℕ) : Type 0 where
  pub goes : GoesOn old now
  pub left : with_constraints (state now) (put_all v (map (clause_tree old.context.trees) (drop i cs))) ≡ with_constraints (state old) (put_all v (map (clause_tree old.context.trees) cs))

pub none-recorded : (r : Evaluator) (v : Values) (cs : List Clause) → GoesOn r r → RecordedSoFar r r v cs 0
none-recorded r v cs g = record { goes = g; left = refl }

module _ (old now new : Evaluator) (v : Values) (cs : List Clause) (i : ℕ) (d : Clause) (f : ClauseListFits old.context.trees cs) (s : RecordedSoFar old now v cs i) (l : i < length cs) where
  same : clause_tree now.context.trees (slice_index_or cs i d) ≡ clause_tree old.context.trees (slice_index_or cs i d)
  same = clause-stays old.context.trees now.context.trees (slice_index_or cs i d) s.goes.0.kept (IsClause-listed old.context.trees cs i d l f)

  pub one-recorded : GoesOn now new → state new ≡ recorded (state now) (valued_tree v (clause_tree now.context.trees (slice_index_or cs i d))) → RecordedSoFar old new v cs (i + 1)
  one-recorded g e = record {
    goes = goes-trans old now new s.goes g;
    left =
        (let t = clause_tree old.context.trees (slice_index_or cs i d) in
        let rest = put_all v (map (clause_tree old.context.trees) (drop (suc i) cs)) in
        let next : i + 1 ≡ suc i = omega arith in
        ap (λ k. with_constraints (state new) (put_all v (map (clause_tree old.context.trees) (drop k cs)))) next
        ∙ (ap (λ S. with_constraints S rest) (e ∙ ap (λ u. recorded (state now) (valued_tree v u)) same)
        ∙ (ap (λ rs. record (state now) { regions = rs }) (append_assoc (state now).regions (valued_tree v t ∷ []) rest)
        ∙ (ap (λ xs. with_constraints (state now) (put_all v (map (clause_tree old.context.trees) xs))) (sym (drop-one cs i d l)) ∙ s.left))));
  }

  pub constraint-unput : (x : Stop) → IsConstraintStop new.context.trees v (clause_tree now.context.trees (slice_index_or cs i d)) x → AreConstraintsStop new.context.trees v (map (clause_tree old.context.trees) cs) x
  constraint-unput x k =
      of_this (clause_tree old.context.trees (slice_index_or cs i d)) (contains-mapped (clause_tree old.context.trees) cs i d l)
      (subst (λ t. IsConstraintStop new.context.trees v t x) same k)

pub all-recorded : (old now : Evaluator) (v : Values) (cs : List Clause) (i : ℕ) → RecordedSoFar old now v cs i → length cs ≤ i
    → state now ≡ with_constraints (state old) (put_all v (map (clause_tree old.context.trees) cs))
all-recorded old now v cs i s l =
    ap (λ rs. record (state now) { regions = rs }) (sym (append-nil (state now).regions))
    ∙ (ap (λ xs. with_constraints (state now) (put_all v (map (clause_tree old.context.trees) xs))) (sym (drop-beyond cs i l)) ∙ s.left)

-- Its universes are lifted.

newest-named : (S : State) (cs : List CanonicalVar) (os : List (Option ℕ)) → (named_at S cs os).0.newest_universe ≡ S.newest_universe
newest-named S (c ∷ cs) (Some n ∷ os) = newest-named S cs os
newest-named S (c ∷ cs) (None ∷ os) = newest-named (with_open S c) cs os
newest-named S [] os = refl
newest-named S (c ∷ cs) [] = refl

-- All that is given.

abbrev saying : Key → Response → State × List ℕ → Values
saying k r q = translation (lift_to q.0 k r) q.1

-- That state is ready, with variables of these numbers, and these values are what the response says there.
pub record IsReady (S : State) (k : Key) (ns : List ℕ) (r : Response) (T : State) (ms : List ℕ) (v : Values) : Type 0 where
  pub ready : ready_for S k ns r ≡ (T, ms)
  pub says : v ≡ saying k r (T, ms)

pub is-ready : (old one two : Evaluator) (key : GoalKey) (ns : List ℕ) (response : CanonicalResponse) (x : KeptLift) (ms names : List ℕ)
    → named_for (state old) (key_seen old.context.trees key) ns (response_of old.context.trees response) ≡ (state one, ms) → one.context ≡ old.context
    → state two ≡ with_universes (state one) (key_seen one.context.trees key) (response_of one.context.trees response)
    → lift_of x ≡ lift_to (state two) (key_seen one.context.trees key) (response_of one.context.trees response) → names ≡ ms
    → IsReady (state old) (key_seen old.context.trees key) ns (response_of old.context.trees response) (state two) ms (translation (lift_of x) names)
is-ready old one two key ns response x ms names named same lifted lift given = record {
  ready =
      ap (λ (q : State × List ℕ). (with_universes q.0 (key_seen old.context.trees key) (response_of old.context.trees response), q.1)) named
      ∙ ap (λ U. (U, ms)) (sym (lifted ∙ ap (λ (c : Context). with_universes (state one) (key_seen c.trees key) (response_of c.trees response)) same));
  says = λ i. translation ((lift ∙ ap (λ (c : Context). lift_to (state two) (key_seen c.trees key) (response_of c.trees response)) same) i) (given i);
}

module _ (l : Listing) (S : State) (k : Key) (ns : List ℕ) (r : Response) where
  abbrev equation : State × List ℕ → Option State
  equation q = equated l q.0 (variables_row k.variables ns) (valued (saying k r q) r.values)

  abbrev with_given : Values → State → State
  with_given v T = with_constraints T (map (valued_tree v) r.regions)

  finishes : (q : State × List ℕ) (o : Option State) → ready_for S k ns r ≡ q → equation q ≡ o → given l S k ns r ≡ next {B = State} o (λ V. Some (with_given (saying k r q) V))
  finishes q o e x = ap (λ (z : State × List ℕ). next {B = State} (equation z) (λ V. Some (with_given (saying k r z) V))) e ∙ ap (λ w. next {B = State} w (λ V. Some (with_given (saying k r q) V))) x

  module _ (T : State) (ms : List ℕ) (v : Values) (y : IsReady S k ns r T ms v) where
    said : said_for S k ns r ≡ v
    said = ap (saying k r) y.ready ∙ sym y.says

    module _ (m : Listing) (U : State) (a b : Forest) (i : m ≡ l) (j : U ≡ T) (p : a ≡ variables_row k.variables ns) (q : b ≡ valued v r.values) where
      same_equation : equation (T, ms) ≡ equated m U a b
      same_equation = ap (λ w. equated l T (variables_row k.variables ns) (valued w r.values)) (sym y.says) ∙ sym (λ n. equated (i n) (j n) (p n) (q n))

      pub all-given : (V W : State) (cs : List Tree) → equated m U a b ≡ Some V → cs ≡ r.regions → W ≡ with_constraints V (map (valued_tree v) cs) → given l S k ns r ≡ Some W
      all-given V W cs x c w =
          finishes (T, ms) (Some V) y.ready (same_equation ∙ x)
          ∙ (ap (λ z. Some (with_given z V)) (sym y.says) ∙ ap Some (ap (λ us. with_constraints V (map (valued_tree v) us)) (sym c) ∙ sym w))

      pub none-given : equated m U a b ≡ None → given l S k ns r ≡ None
      none-given x = finishes (T, ms) None y.ready (same_equation ∙ x)

      pub unequal : (ts : List Tree) (s : Stop) → IsEquationStop ts m U a b s → IsGivingStop ts l S k ns r s
      unequal ts s x =
          of_given_equation
          (subst (λ w. IsEquationStop ts l (ready_for S k ns r).0 (variables_row k.variables ns) (valued w r.values) s) (sym said)
          (subst (λ (z : State × List ℕ). IsEquationStop ts l z.0 (variables_row k.variables ns) (valued v r.values) s) (sym y.ready)
          (subst (λ f. IsEquationStop ts l T (variables_row k.variables ns) f s) q
          (subst (λ f. IsEquationStop ts l T f b s) p
          (subst (λ V. IsEquationStop ts l V a b s) j (subst (λ n. IsEquationStop ts n U a b s) i x))))))

    pub no-values : (ts : List Tree) (f : Forest) (s : Stop) → f ≡ r.values → IsSubstStop (length ts) (valued v f) s → IsGivingStop ts l S k ns r s
    no-values ts f s q x =
        of_given_values
        (subst (λ w. IsSubstStop (length ts) (valued w r.values) s) (sym said)
        (subst (λ g. IsSubstStop (length ts) (valued v g) s) q x))

    no-constraint : (ts : List Tree) (c : Tree) (s : Stop) → Contains r.regions c → IsConstraintStop ts v c s → IsGivingStop ts l S k ns r s
    no-constraint ts c s i no_constraint = giving_memory
    no-constraint ts c s i (of_constraint_put x) = of_given_constraint c i (subst (λ w. IsTreeStop ts (valued_tree w c) s) (sym said) x)

    pub no-constraints : (ts : List Tree) (cs : List Tree) (s : Stop) → cs ≡ r.regions → AreConstraintsStop ts v cs s → IsGivingStop ts l S k ns r s
    no-constraints ts cs s q (of_this c i x) = no-constraint ts c s (subst (λ us. Contains us c) q i) x

  pub not-named : (ts : List Tree) (s : Stop) → IsNamingStop (length S.variables + length r.vars) s → IsGivingStop ts l S k ns r s
  not-named ts s no_name = giving_memory
  not-named ts s (of_open n w f) = of_fresh n w f

  pub not-lifted : (R : State) (ms : List ℕ) (ts : List Tree) (s : Stop) → named_for S k ns r ≡ (R, ms) → IsLiftStop ts R k r s → IsGivingStop ts l S k ns r s
  not-lifted R ms ts s e (of_names x) = of_lift (of_names x)
  not-lifted R ms ts s e (of_more x) =
      let newest = ap (λ (q : State × List ℕ). q.0.newest_universe) (sym e) ∙ newest-named S r.vars (numbered (own_variable k.variables ns r.values) 0 r.vars) in
      of_lift (of_more (subst (λ u. IsOutOfRoom u (greatest_said r - newest_of k) s) newest x))
