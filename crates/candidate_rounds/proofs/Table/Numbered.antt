-- Over one context keys are the same where their numbers are.
use Rattle.std.proofs.Common.{◌≡◌, ◌⊎◌, inl, inr, ◌+◌, ℕ, zero, suc, Bool, true, false, not, nat_eq, List, [], ◌∷◌, ◌++◌, length, Option, Some, None, MatchOption, Result, Ok, Err, IfErr, OnOk, OnErr, if◌then◌else◌, refl, sym, ◌∙◌, ap, subst}
use Rattle.std.proofs.lemmas.List.Folds.{list_any-append}
use Rattle.std.specs.Prelude.{◌&&◌, ◌||◌}
use Rattle.std.specs.Cmp.{unsigned_Decides}
use Rattle.std.specs.Cmp.Lexicographic.{pointwise}
use Rattle.std.specs.List.{AllByRecursion, IsDistinct, list_any}
use Rattle.std.specs.Map.{keys_of}
use Rattle.ir_trees.specs.declared.ir.stop.Stop.{Stop}
use Rattle.ir_trees.specs.declared.ir.stop.Stop.TheVariants as K
use Rattle.ir_trees.specs.Syntax.Nodes.{tree_at}
use Rattle.ir_trees.specs.Syntax.Table.{AreDistinct}
use Rattle.ir_trees.specs.Syntax.Trees.{ClauseKind, ClausesKind, Tree}
use Rattle.ir_context.proofs.Growth.One.{number-one}
use Rattle.candidate_eval.specs.contracts.eval.variable.CanonicalVarPartialEq.TheImpl as variable
use Rattle.candidate_eval.specs.Interface.Noting.{refused_note}
use Rattle.candidate_rounds.specs.declared.rounds.goals.GoalKey.{GoalKey}
use Rattle.candidate_rounds.specs.Evaluators.Stopping.{IsAskingStop, many_goals, of_looking}
use Rattle.candidate_rounds.specs.Table.Entries.{GoalEntry, IsNumberedAt}
use Rattle.candidate_rounds.specs.Calls.Requesting.{is_requested, requested}
use Rattle.candidate_rounds.specs.Table.Goals.{Each, Goals, HasRoomFor, IsFullFor, IsEntryOf, IsKeyOf, IsTabled, IsTraitGoal, is_noted, key_seen, keys_seen, noting, table_seen}
use Rattle.candidate_rounds.specs.Table.KeyNumbers.{same_numbers, same_numbers_equiv}
use Rattle.candidate_rounds.specs.Table.Running.{IsOnlyPlaceOf}
use Rattle.rounds_judge.specs.Table.GoalTable.{is_entered, may_be_asked}
use Rattle.rounds_judge.specs.Table.Keys.{Key, same_key}
use Rattle.rounds_judge.proofs.Table.TableKeys.{variables_are}
use Rattle.candidate_rounds.proofs.Snapshots.Knowing.{each-imply}
use Rattle.candidate_rounds.proofs.Table.Finding.{asked-last, both, clauses-are, decides, envs-are, key-from, map-pushed, variables-themselves}
use Rattle.candidate_rounds.proofs.Table.Tabled.{table-parts}

both-of : (a b : Bool) → (a && b) ≡ true → (a ≡ true) × (b ≡ true)
both-of true b e = (refl, e)
both-of false b e = absurd cc

abbrev IsTrait : List Tree → GoalKey → Type 0
IsTrait ts k = IsTraitGoal ts k.goal

module _ (ts : List Tree) (one : AreDistinct ts) where
  pub by-numbers : (a b : GoalKey) → IsTrait ts a → IsTrait ts b → same_numbers a b ≡ same_key (key_seen ts b) (key_seen ts a)
  by-numbers a b x y = decides (same_numbers a b) (key_seen ts b) (key_seen ts a) same numbers
    where
      same : same_numbers a b ≡ true → key_seen ts b ≡ key_seen ts a
      same t =
          let p = both-of (nat_eq a.goal.predicate.0 b.goal.predicate.0) _ t in
          let q = both-of (nat_eq a.goal.param_env.0 b.goal.param_env.0) _ p.1 in
          sym (key-from ts a b x y (variables_are a.variables.items b.variables.items q.1)
          (ap (tree_at ts) ((unsigned_Decides a.goal.predicate.0 b.goal.predicate.0).0 p.0))
          (ap (tree_at ts) ((unsigned_Decides a.goal.param_env.0 b.goal.param_env.0).0 q.0)))

      numbers : key_seen ts b ≡ key_seen ts a → same_numbers a b ≡ true
      numbers k =
          let c = number-one ts ClauseKind a.goal.predicate.0 b.goal.predicate.0 refl one x.goal.1 y.goal.1 (clauses-are ts a b x y (sym k)) in
          let e = number-one ts ClausesKind a.goal.param_env.0 b.goal.param_env.0 refl one x.goal.0 y.goal.0 (envs-are ts a b x y (sym k)) in
          let v : a.variables.items ≡ b.variables.items = ap (λ (m : Key). m.variables) (sym k) in
          both (nat_eq a.goal.predicate.0 b.goal.predicate.0) _ ((unsigned_Decides a.goal.predicate.0 b.goal.predicate.0).1 c)
          (both (nat_eq a.goal.param_env.0 b.goal.param_env.0) _ ((unsigned_Decides a.goal.param_env.0 b.goal.param_env.0).1 e)
          (subst (λ vs. pointwise variable.eq-value.it a.variables.items vs ≡ true) v (variables-themselves a.variables.items)))

  module _ (k : GoalKey) (x : IsTrait ts k) where
    pub entered-is : (es : List GoalEntry) → Each (λ e. IsTrait ts e.0) es → is_entered (table_seen ts es) (key_seen ts k) ≡ list_any (same_numbers k) (keys_of es)
    entered-is [] h = refl
    entered-is (e ∷ es) h = λ i. sym (by-numbers k e.0 x h.0) i || entered-is es h.1 i

    pub listed-is : (ks : List GoalKey) → Each (IsTrait ts) ks → list_any (λ m. same_key m (key_seen ts k)) (keys_seen ts ks) ≡ list_any (same_numbers k) ks
    listed-is [] h = refl
    listed-is (m ∷ ks) h = λ i. sym (by-numbers k m x h.0) i || listed-is ks h.1 i

    -- no other key has the numbers, where no two have the same
    none-like : (e : GoalKey) → same_numbers k e ≡ true → (ks : List GoalKey) → AllByRecursion (λ m. same_numbers e m ≡ false) ks → list_any (same_numbers k) ks ≡ false
    none-like e t [] a = refl
    none-like e t (m ∷ ks) a = λ i. (same_numbers_equiv.congr k e m t ∙ a.0) i || none-like e t ks a.1 i

    pub only-at : (es : List GoalEntry) (n : ℕ) → Each (λ e. IsTrait ts e.0) es → IsDistinct same_numbers (keys_of es) → IsNumberedAt k es n → IsOnlyPlaceOf (table_seen ts es) (key_seen ts k) n
    unfolding IsDistinct
    only-at [] n h d a = a
    only-at (e ∷ es) zero h d a = (sym (by-numbers k e.0 x h.0) ∙ a, entered-is es h.1 ∙ none-like e.0 a (keys_of es) d.0)
    only-at (e ∷ es) (suc n) h d a = (sym (by-numbers k e.0 x h.0) ∙ a.0, only-at es n h.1 d.1 a.1)

    pub place-found : (es : List GoalEntry) (o : Option ℕ) → Each (λ e. IsTrait ts e.0) es → IsDistinct same_numbers (keys_of es)
        → MatchOption o (list_any (same_numbers k) (keys_of es) ≡ false) (IsNumberedAt k es)
        → MatchOption o (is_entered (table_seen ts es) (key_seen ts k) ≡ false) (IsOnlyPlaceOf (table_seen ts es) (key_seen ts k))
    place-found es None h d m = entered-is es h ∙ m
    place-found es (Some n) h d m = only-at es n h d m

-- A goal that the table doesn't have is asked for.

-- the goals of the table are goals of traits
pub trait-entries : (ts : List Tree) (g : Goals) → IsTabled ts g → Each (λ (e : GoalEntry). IsTraitGoal ts e.0.goal) g.table
trait-entries ts g t = each-imply (IsEntryOf ts) (λ (e : GoalEntry). IsTraitGoal ts e.0.goal) g.table (λ e i. i.key.goal) (table-parts t).entries

-- it has none of the numbers of a key that isn't entered
pub unnumbered : (ts : List Tree) → AreDistinct ts → (g : Goals) (k : GoalKey) → IsTabled ts g → IsTraitGoal ts k.goal → is_entered (table_seen ts g.table) (key_seen ts k) ≡ false
    → list_any (same_numbers k) (keys_of g.table) ≡ false
unnumbered ts one g k t x m = sym (entered-is ts one k x g.table (trait-entries ts g t)) ∙ m

module _ (ts : List Tree) (one : AreDistinct ts) (g : Goals) (k : GoalKey) (t : IsTabled ts g) (x : IsTraitGoal ts k.goal) (m : is_entered (table_seen ts g.table) (key_seen ts k) ≡ false) where
  pub noted-is : is_noted g k ≡ list_any (λ y. same_key y (key_seen ts k)) (keys_seen ts g.asked)
  noted-is =
      let keys = each-imply (IsKeyOf ts) (λ (y : GoalKey). IsTraitGoal ts y.goal) g.asked (λ y h. h.goal) (table-parts t).keys in
      list_any-append (same_numbers k) (keys_of g.table) g.asked ∙ (λ i. unnumbered ts one g k t x m i || sym (listed-is ts one k x g.asked keys) i)

  pub tabled-noting : may_be_asked (key_seen ts k) ≡ true → HasRoomFor g k → IsTabled ts (noting g k)
  tabled-noting may room = at (is_noted g k) refl
    where
      at : (b : Bool) → is_noted g k ≡ b → IsTabled ts (record g { asked = if b then g.asked else g.asked ++ k ∷ [] })
      at true q = t
      at false q = asked-last ts g k t x may m (sym noted-is ∙ q) (room q)

  -- the table is what it was
  pub table-either : {E : Type 0} (q : Result (Unit {0}) E) (h : Goals) → OnOk q (h ≡ noting g k) → OnErr q (h ≡ g) → h.table ≡ g.table
  table-either (Ok y) h p e = ap (λ (f : Goals). f.table) p
  table-either (Err y) h p e = ap (λ (f : Goals). f.table) e

  pub tabled-either : {E : Type 0} (q : Result (Unit {0}) E) (h : Goals) → may_be_asked (key_seen ts k) ≡ true → OnOk q (h ≡ noting g k) → OnOk q (HasRoomFor g k) → OnErr q (h ≡ g) → IsTabled ts h
  tabled-either (Ok y) h may p room e = subst (IsTabled ts) (sym p) (tabled-noting may room)
  tabled-either (Err y) h may p room e = subst (IsTabled ts) (sym e) t

  pub requested-is : g.asks ≡ true → may_be_asked (key_seen ts k) ≡ true → is_requested g.asks (table_seen ts g.table) (keys_seen ts g.asked) (key_seen ts k) ≡ not (is_noted g k)
  requested-is a may = λ i. a i && (not (m i) && (may i && not (sym noted-is i)))

  pub asked-is : g.asks ≡ true → may_be_asked (key_seen ts k) ≡ true → keys_seen ts (noting g k).asked ≡ requested g.asks (table_seen ts g.table) (keys_seen ts g.asked) (key_seen ts k)
  asked-is a may =
      let ks = keys_seen ts g.asked in
      by (is_noted g k) ∙ ap (λ b. if b then ks ++ key_seen ts k ∷ [] else ks) (sym (requested-is a may))
    where
      by : (b : Bool) → keys_seen ts (if b then g.asked else g.asked ++ k ∷ []) ≡ (if not b then keys_seen ts g.asked ++ key_seen ts k ∷ [] else keys_seen ts g.asked)
      by true = refl
      by false = map-pushed (key_seen ts) g.asked k

  pub asked-either : {E : Type 0} (q : Result (Unit {0}) E) (h : Goals) → g.asks ≡ true → may_be_asked (key_seen ts k) ≡ true → OnOk q (h ≡ noting g k)
      → OnOk q (keys_seen ts h.asked ≡ requested g.asks (table_seen ts g.table) (keys_seen ts g.asked) (key_seen ts k))
  asked-either (Ok y) h a may p = ap (λ (f : Goals). keys_seen ts f.asked) p ∙ asked-is a may
  asked-either (Err y) h a may p = tt

  -- where there is no room for it, it would have been asked for
  pub full-for : {X : Type 0} (q : Result X Stop) → g.asks ≡ true → may_be_asked (key_seen ts k) ≡ true → IfErr q (λ s. (s ≡ K.Memory) ⊎ ((s ≡ K.EvaluatorLimit) × IsFullFor g k))
      → IfErr q (λ s. s ≡ K.EvaluatorLimit → is_requested g.asks (table_seen ts g.table) (keys_seen ts g.asked) (key_seen ts k) ≡ true)
  full-for (Ok y) a may c = tt
  full-for (Err s) a may (inl m) = λ l. absurd (let clash : K.Memory ≡ K.EvaluatorLimit = sym m ∙ l in cc)
  full-for (Err s) a may (inr f) = λ l. requested-is a may ∙ ap not f.1.missing

-- why it wasn't asked for
pub unasked : {X : Type 0} (ts : List Tree) (g h : Goals) (k : GoalKey) (q : Result X Stop) → OnErr q (h ≡ g) → IfErr q (λ s. (s ≡ K.Memory) ⊎ ((s ≡ K.EvaluatorLimit) × IsFullFor g k))
    → IfErr q (λ s. IsAskingStop (record { trees = ts; goals = length h.table + length h.asked }) s)
unasked ts g h k (Ok y) e c = tt
unasked ts g h k (Err s) e (inl m) = subst (IsAskingStop (record { trees = ts; goals = length h.table + length h.asked })) (sym m) (of_looking refused_note)
unasked ts g h k (Err s) e (inr f) =
    subst (λ (x : Goals). IsAskingStop (record { trees = ts; goals = length x.table + length x.asked }) s) (sym e)
    (subst (IsAskingStop (record { trees = ts; goals = length g.table + length g.asked })) (sym f.0) (many_goals f.1.full))
