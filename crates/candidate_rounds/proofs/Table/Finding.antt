-- Keys that are the same, and what a table says of a key, found by numbers.
use Rattle.std.proofs.Common.{◌≡◌, ℕ, zero, suc, ◌+◌, ◌<◌, ◌==◌, Bool, true, false, List, [], ◌∷◌, ◌++◌, length, map, slice_get, Option, Some, None, unwrap_or, if◌then◌else◌, refl, sym, ◌∙◌, ap, subst, arith, rules}
use Rattle.std.specs.Prelude.{◌&&◌, ◌||◌}
use Rattle.std.specs.List.{list_any}
use Rattle.std.specs.Option.{option_map}
use Rattle.std.specs.Cmp.Lexicographic.{pointwise}
use Rattle.ir_trees.specs.Declarations.Context.{Context}
use Rattle.ir_trees.specs.contracts.ir.kinds.PredicatePolarityPartialEq.TheImpl as polarity
use Rattle.ir_trees.specs.declared.ir.heads.Head.{Head}
use Rattle.ir_trees.specs.declared.ir.heads.Head.TheVariants as H
use Rattle.ir_trees.specs.declared.ir.heads.PartHead.TheVariants as P
use Rattle.ir_trees.specs.declared.ir.heads.ClauseHead.TheVariants as Cl
use Rattle.ir_trees.specs.declared.ir.heads.ListHead.TheVariants as L
use Rattle.ir_trees.specs.declared.ir.kinds.PredicatePolarity.{PredicatePolarity}
use Rattle.ir_trees.specs.Hierarchy.Elaboration.{same_forest}
use Rattle.ir_trees.specs.Syntax.Nodes.{tree_at}
use Rattle.ir_trees.specs.Hierarchy.Supers.{after_first}
use Rattle.ir_trees.specs.Syntax.Trees.{Forest, none, tree, Tree, ClausesKind}
use Rattle.ir_trees.specs.Syntax.Words.{ClauseListFits, IsArgs, args_forest, clause_tree, env_forest}
use Rattle.ir_trees.specs.declared.ir.kinds.AliasTy.{AliasTy}
use Rattle.ir_context.proofs.Hierarchy.Elaboration.{forest_itself}
use Rattle.ir_trees.proofs.Syntax.Splits.{lists-agree}
use Rattle.candidate_eval.specs.contracts.eval.variable.CanonicalVarPartialEq.TheImpl as variable
use Rattle.candidate_eval.specs.declared.eval.variable.CanonicalVar.{CanonicalVar}
use Rattle.candidate_eval.specs.Derivations.ImplRules.{TraitGoal}
use Rattle.candidate_eval.specs.Dynamic.ObjectRequirements.{trait_said}
use Rattle.candidate_eval.specs.Judges.States.{Env, is_some}
use Rattle.candidate_rounds.specs.Table.Entries.{GoalEntry}
use Rattle.candidate_rounds.specs.declared.rounds.goals.Verdict.{Verdict as Numbers}
use Rattle.candidate_rounds.specs.declared.rounds.goals.Verdict.TheVariants as V
use Rattle.candidate_rounds.specs.declared.rounds.table.Found.TheVariants as F
use Rattle.candidate_rounds.specs.Calls.Found.{IsFound, IsOpen, lookup_of}
use Rattle.rounds_judge.specs.Table.GoalTable.{AreNew, Entry, GoalTable, entered_in, is_entered, may_be_asked, may_be_read, most_goals, unanswered, verdict_in, well_entered}
use Rattle.rounds_judge.specs.Table.Keys.{Key, same_goal, same_key}
use Rattle.rounds_judge.specs.Table.Verdicts.{Verdict}
use Rattle.rounds_judge.proofs.Table.TableKeys.{key_is}
use Rattle.candidate_rounds.specs.declared.rounds.goals.GoalKey.{GoalKey}
use Rattle.candidate_rounds.specs.Table.Goals.{Goals, IsEntryOf, IsKeyOf, IsTabled, IsTraitGoal, IsVerdict, Via, entry_seen, goal_by, goal_said, key_seen, keys_seen, table_seen, verdict_seen}
use Rattle.std.proofs.lemmas.List.{length-append}
use Rattle.candidate_eval.specs.declared.eval.response.CanonicalResponse.{CanonicalResponse}
use Rattle.candidate_eval.specs.Outcomes.ResponseTrees.{IsCopy, IsResponse, response_of}
use Rattle.candidate_rounds.specs.Evaluators.Inferences.{Inference}
use Rattle.candidate_rounds.specs.Evaluators.Known.{IsEvaluator, NormalForms, listing_by}
use Rattle.derivations.specs.DerivedTables.{TableIsDerived}
use Rattle.candidate_rounds.proofs.Evaluators.Between.{of-parts, parts}
use Rattle.candidate_rounds.proofs.Snapshots.Knowing.{each-append}
use Rattle.candidate_rounds.specs.Table.Running.{IsOnlyPlaceOf, IsPlaceOf}
use Rattle.candidate_rounds.proofs.Table.Running.{get-map}
use Rattle.candidate_rounds.proofs.Table.Tabled.{of-table-parts, table-parts}
use Rattle.candidate_rounds.proofs.Table.Keying.{arguments-seen, env-seen}

-- A key is the same as itself.

pub both : (a b : Bool) → a ≡ true → b ≡ true → (a && b) ≡ true
both true b e f = f
both false b e f = e

variable-itself : (v : CanonicalVar) → variable.eq-value.it v v ≡ true
variable-itself v = search rules

polarity-itself : (p : PredicatePolarity) → polarity.eq-value.it p p ≡ true
polarity-itself p = search rules

number-itself : (n : ℕ) → (n == n) ≡ true
number-itself n = search rules

pub variables-themselves : (vs : List CanonicalVar) → pointwise variable.eq-value.it vs vs ≡ true
variables-themselves [] = refl
variables-themselves (v ∷ vs) = both (variable.eq-value.it v v) (pointwise variable.eq-value.it vs vs) (variable-itself v) (variables-themselves vs)

goal-itself : (g : TraitGoal) → same_goal g g ≡ true
goal-itself g =
    both (g.reference.trait == g.reference.trait) _ (number-itself g.reference.trait)
    (both (polarity.eq-value.it g.polarity g.polarity) _ (polarity-itself g.polarity) (both (same_forest g.env g.env) _ (forest_itself g.env) (forest_itself g.reference.arguments)))

key-itself : (k : Key) → same_key k k ≡ true
key-itself k = both (same_goal k.goal k.goal) _ (goal-itself k.goal) (variables-themselves k.variables)

-- so an answer that is true exactly where two are equal is a test whether they are the same
pub decides : (b : Bool) (k m : Key) → (b ≡ true → k ≡ m) → (k ≡ m → b ≡ true) → b ≡ same_key k m
decides true k m f g = sym (ap (same_key k) (sym (f refl)) ∙ key-itself k)
decides false k m f g = at (same_key k m) refl
  where
    at : (c : Bool) → same_key k m ≡ c → false ≡ same_key k m
    at true q = g (key_is k m q) ∙ sym q
    at false q = sym q

-- Keys are equal where the trees of their numbers are.

head-of : (e : Env) (h : Head) (ts : Forest) → is_some (trait_said h) ≡ true → h ≡ H.Part (P.Clause (Cl.Trait (record { 0 = (goal_by e h ts).reference.trait }) (goal_by e h ts).polarity))
head-of e (H.Part (P.Clause (Cl.Trait i p))) ts s = refl
head-of e _ ts s = absurd cc

module _ (ts : List Tree) (a b : GoalKey) (x : IsTraitGoal ts a.goal) (y : IsTraitGoal ts b.goal) where
  pub key-from : a.variables.items ≡ b.variables.items → clause_tree ts a.goal.predicate ≡ clause_tree ts b.goal.predicate → tree_at ts a.goal.param_env.0 ≡ tree_at ts b.goal.param_env.0
      → key_seen ts a ≡ key_seen ts b
  key-from v c e = λ i. record { goal = goal_said (e i).children (c i); variables = v i }

  pub envs-are : key_seen ts a ≡ key_seen ts b → tree_at ts a.goal.param_env.0 ≡ tree_at ts b.goal.param_env.0
  envs-are k =
      lists-agree ts a.goal.param_env.0 b.goal.param_env.0 ClausesKind L.Clauses refl refl x.goal.0 y.goal.0
      (sym (env-seen ts a.goal) ∙ (ap (λ (k : Key). k.goal.env) k ∙ env-seen ts b.goal))

  pub clauses-are : key_seen ts a ≡ key_seen ts b → clause_tree ts a.goal.predicate ≡ clause_tree ts b.goal.predicate
  clauses-are k =
      let args = sym (arguments-seen ts a.goal) ∙ (ap (λ (k : Key). k.goal.reference.arguments) k ∙ arguments-seen ts b.goal) in
      let children = x.says.unbound ∙ (ap (λ r. tree (H.Part P.Vars) none r) args ∙ sym y.says.unbound) in
      let head = head-of (env_forest ts a.goal.param_env) (clause_tree ts a.goal.predicate).head (after_first (clause_tree ts a.goal.predicate).children) x.says.is_trait
      ∙ ((λ i. H.Part (P.Clause (Cl.Trait (record { 0 = (k i).goal.reference.trait }) (k i).goal.polarity)))
      ∙ sym (head-of (env_forest ts b.goal.param_env) (clause_tree ts b.goal.predicate).head (after_first (clause_tree ts b.goal.predicate).children) y.says.is_trait)) in
      λ i. record { head = head i; children = children i }

module _ (k : Key) (x : Entry Via) (xs : GoalTable Via) where
  passed-by : same_key x.key k ≡ false → verdict_in (well_entered (x ∷ xs)) k ≡ verdict_in (well_entered xs) k
  passed-by e = at (may_be_read x.key x.verdict)
    where
      at : (b : Bool) → verdict_in (if b then x ∷ well_entered xs else well_entered xs) k ≡ verdict_in (well_entered xs) k
      at true = ap (λ c. if c then x.verdict else verdict_in (well_entered xs) k) e
      at false = refl

  unread : may_be_read x.key x.verdict ≡ false → verdict_in (well_entered (x ∷ xs)) k ≡ verdict_in (well_entered xs) k
  unread q = ap (λ b. verdict_in (if b then x ∷ well_entered xs else well_entered xs) k) q

  is-read : may_be_read x.key x.verdict ≡ true → same_key x.key k ≡ true → verdict_in (well_entered (x ∷ xs)) k ≡ x.verdict
  is-read q e = ap (λ b. verdict_in (if b then x ∷ well_entered xs else well_entered xs) k) q ∙ ap (λ c. if c then x.verdict else verdict_in (well_entered xs) k) e

-- a goal that isn't there has no verdict that may be read
unread-missing : (T : GoalTable Via) (k : Key) → is_entered T k ≡ false → verdict_in (well_entered T) k ≡ None
unread-missing [] k m = refl
unread-missing (x ∷ T) k m = let p = neither (same_key x.key k) (is_entered T k) m in passed-by k x T p.0 ∙ unread-missing T k p.1
  where
    neither : (a b : Bool) → (a || b) ≡ false → (a ≡ false) × (b ≡ false)
    neither true b e = absurd cc
    neither false b e = (refl, e)

-- What is said of a key by the one goal that has it.

pub only-entered : (T : GoalTable Via) (k : Key) (n : ℕ) → IsOnlyPlaceOf T k n → is_entered T k ≡ true
only-entered [] k n h = absurd h
only-entered (x ∷ T) k zero h = ap (λ b. b || is_entered T k) h.0
only-entered (x ∷ T) k (suc n) h = ap (λ b. b || is_entered T k) h.0 ∙ only-entered T k n h.1

pub only-place : (T : GoalTable Via) (k : Key) (n : ℕ) → IsOnlyPlaceOf T k n → IsPlaceOf T k n
only-place [] k n h = h
only-place (x ∷ T) k zero h = h.0
only-place (x ∷ T) k (suc n) h = (h.0, only-place T k n h.1)

abbrev read_of : Entry Via → Option (Verdict Via)
read_of e = if may_be_read e.key e.verdict then e.verdict else None

only-read : (T : GoalTable Via) (k : Key) (n : ℕ) (e : Entry Via) → IsOnlyPlaceOf T k n → slice_get T n ≡ Some e → verdict_in (well_entered T) k ≡ read_of e
only-read [] k n e h g = absurd h
only-read (x ∷ T) k zero e h g = let q : x ≡ e = cc in by (may_be_read x.key x.verdict) refl ∙ ap read_of q
  where
    by : (b : Bool) → may_be_read x.key x.verdict ≡ b → verdict_in (well_entered (x ∷ T)) k ≡ read_of x
    by true r = is-read k x T r h.0 ∙ sym (ap (λ b. if b then x.verdict else None) r)
    by false r = unread k x T r ∙ (unread-missing T k h.1 ∙ sym (ap (λ b. if b then x.verdict else None) r))
only-read (x ∷ T) k (suc n) e h g = passed-by k x T h.0 ∙ only-read T k n e h.1 g

module _ (ts : List Tree) (es : List GoalEntry) (k : Key) (n : ℕ) (e : GoalEntry) (there : slice_get es n ≡ Some e) (only : IsOnlyPlaceOf (table_seen ts es) k n) (is : IsEntryOf ts e) where
  reads : verdict_in (well_entered (table_seen ts es)) k ≡ read_of (entry_seen ts e)
  reads = only-read (table_seen ts es) k n (entry_seen ts e) only (get-map (entry_seen ts) es n e there)

  pub unread-found : e.1.is_readable ≡ false → IsFound ts es k F.Open
  unread-found r =
      let says = reads ∙ ap (λ b. if b then option_map (verdict_seen ts) e.1.verdict else None) (sym is.readable ∙ r) in
      (only-entered (table_seen ts es) k n only, subst IsOpen (sym says) tt)

  pub read-found : e.1.is_readable ≡ true → IsFound ts es k (lookup_of e.1.verdict n)
  read-found r = at e.1.verdict refl
    where
      says : verdict_in (well_entered (table_seen ts es)) k ≡ option_map (verdict_seen ts) e.1.verdict
      says = reads ∙ ap (λ b. if b then option_map (verdict_seen ts) e.1.verdict else None) (sym is.readable ∙ r)

      there-too : is_entered (table_seen ts es) k ≡ true
      there-too = only-entered (table_seen ts es) k n only

      at : (v : Option Numbers) → e.1.verdict ≡ v → IsFound ts es k (lookup_of v n)
      at None q = (there-too, subst IsOpen (sym (says ∙ ap (option_map (verdict_seen ts)) q)) tt)
      at (Some (V.Yes a w)) q = record { entry = e; there = there; response = a; way = w; says = q; read = says ∙ ap (option_map (verdict_seen ts)) q }
      at (Some (V.Maybe a w)) q = (there-too, subst IsOpen (sym (says ∙ ap (option_map (verdict_seen ts)) q)) tt)
      at (Some V.Refused) q = says ∙ ap (option_map (verdict_seen ts)) q

-- One more key is asked for.

after-new : (T : GoalTable Via) (x k : Key) → is_entered T k ≡ false → same_key x k ≡ false → is_entered (T ++ unanswered x ∷ []) k ≡ false
after-new [] x k e s = ap (λ b. b || false) s
after-new (y ∷ T) x k e s = let p = neither (same_key y.key k) (is_entered T k) e in (λ i. p.0 i || after-new T x k p.1 s i)
  where
    neither : (a b : Bool) → (a || b) ≡ false → (a ≡ false) × (b ≡ false)
    neither true b e = absurd cc
    neither false b e = (refl, e)

pub new-pushed : (T : GoalTable Via) (ks : List Key) (k : Key) → AreNew T ks → is_entered T k ≡ false → list_any (λ x. same_key x k) ks ≡ false → AreNew T (ks ++ k ∷ [])
new-pushed T [] k a e s = (e, tt)
new-pushed T (x ∷ ks) k a e s =
    let p = neither (same_key x k) (list_any (λ y. same_key y k) ks) s in
    let q = ap (λ b. if b then T else T ++ unanswered x ∷ []) a.0 in
    let r = subst (λ U. is_entered U k ≡ false) (sym q) (after-new T x k e p.0) in
    (a.0, new-pushed (entered_in T x) ks k a.1 r p.1)
  where
    neither : (a b : Bool) → (a || b) ≡ false → (a ≡ false) × (b ≡ false)
    neither true b e = absurd cc
    neither false b e = (refl, e)

pub map-pushed : {A B : Type 0} (f : A → B) (xs : List A) (x : A) → map f (xs ++ x ∷ []) ≡ map f xs ++ f x ∷ []
map-pushed f [] x = refl
map-pushed f (y ∷ xs) x = ap (λ ys. f y ∷ ys) (map-pushed f xs x)

-- the table after it
pub asked-last : (ts : List Tree) (g : Goals) (k : GoalKey) → IsTabled ts g → IsTraitGoal ts k.goal → may_be_asked (key_seen ts k) ≡ true → is_entered (table_seen ts g.table) (key_seen ts k) ≡ false
    → list_any (λ x. same_key x (key_seen ts k)) (keys_seen ts g.asked) ≡ false → length g.table + length g.asked < most_goals → IsTabled ts (record g { asked = g.asked ++ k ∷ [] })
asked-last ts g k t i m e s r =
    let p = table-parts t in
    let l = length-append g.asked (k ∷ []) in
    of-table-parts (record {
      entries = p.entries;
      keys = each-append (IsKeyOf ts) g.asked k p.keys (record { goal = i; asked = m });
      are_new = subst (AreNew (table_seen ts g.table)) (sym (map-pushed (key_seen ts) g.asked k)) (new-pushed (table_seen ts g.table) (keys_seen ts g.asked) (key_seen ts k) p.are_new e s);
      room = omega (arith, l, r);
    })

-- where nothing but what is asked for is another
pub other-goals : (c : Context) (s : Inference) (ks : List ℕ) (ns : NormalForms) (os : List AliasTy) (g h : Goals) → IsEvaluator c s ks ns os g → h.table ≡ g.table → IsTabled c.trees h → IsEvaluator c s ks ns os h
other-goals c s ks ns os g h e q t =
    let p = parts e in
    of-parts (record {
      consistent = p.consistent;
      resolved = p.resolved;
      given = p.given;
      tabled = t;
      derived = subst (λ es. TableIsDerived c (listing_by c.trees ns) (table_seen c.trees es)) (sym q) p.derived;
    })

-- A copy of a response.

pub copy-sees : (ts : List Tree) (r s : CanonicalResponse) → IsCopy r s → response_of ts s ≡ response_of ts r
copy-sees ts r s c =
    let a = c.vars in
    let v = c.values in
    let g = c.regions in
    let y = c.certainty in
    λ i. record { vars = a i; values = args_forest ts (v i); regions = map (clause_tree ts) (g i); certainty = y i }

pub copy-is : (ts : List Tree) (r s : CanonicalResponse) → IsResponse ts r → IsCopy r s → IsResponse ts s
copy-is ts r s i c = record { values = subst (IsArgs ts) (sym c.values) i.values; regions = subst (ClauseListFits ts) (sym c.regions) i.regions }

-- one thing stands at a place
pub get-same : {A : Type 0} (xs : List A) (i : ℕ) (x y : A) → slice_get xs i ≡ Some x → slice_get xs i ≡ Some y → x ≡ y
get-same {A} xs i x y e g = ap (λ (o : Option A). unwrap_or o x) (sym e ∙ g)

pub yes-same : (v : Option Numbers) (a b : CanonicalResponse) (w u : Option Via) → v ≡ Some (V.Yes a w) → v ≡ Some (V.Yes b u) → a ≡ b
yes-same v a b w u p q = let e : Some (V.Yes a w) ≡ Some (V.Yes b u) = sym p ∙ q in cc

pub yes-fits : (ts : List Tree) (e : GoalEntry) (r : CanonicalResponse) (w : Option Via) → IsEntryOf ts e → e.1.verdict ≡ Some (V.Yes r w) → IsResponse ts r
yes-fits ts e r w i q = subst (IsVerdict ts) q i.verdict
