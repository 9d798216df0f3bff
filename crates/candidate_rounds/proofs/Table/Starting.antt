-- Where the goal of a key is computed: nothing is known but the key's variables, and the goal stands there.
use Rattle.std.proofs.Common.{◌≡◌, ℕ, zero, suc, ◌+◌, ◌≤◌, Bool, true, false, not, ◌&&◌, ◌||◌, List, [], ◌∷◌, map, slice_get, Option, Some, None, refl, sym, ◌∙◌, ap, subst, arith, if◌then◌else◌}
use Rattle.std.proofs.lemmas.Bool.{and_parts, not-true, or_parts}
use Rattle.ir_trees.specs.declared.ir.heads.Head.{Head}
use Rattle.ir_trees.specs.declared.ir.heads.Head.TheVariants as H
use Rattle.ir_trees.specs.declared.ir.heads.ConstHead.TheVariants as C
use Rattle.ir_trees.specs.declared.ir.kinds.RegionKind.TheVariants as R
use Rattle.ir_trees.specs.declared.ir.kinds.TraitPredicate.{TraitPredicate}
use Rattle.ir_trees.specs.Syntax.Binders.{escapes, is_beyond}
use Rattle.ir_trees.specs.Declarations.Context.{Context}
use Rattle.ir_trees.specs.Declarations.References.{ArgumentsFit}
use Rattle.ir_trees.specs.Syntax.Trees.{Forest, none, tree, Tree, binders_of, holds, is_param, join}
use Rattle.ir_trees.specs.Syntax.Words.{IsArgs}
use Rattle.ir_trees.proofs.Syntax.Splits.{holds-join, or-assoc}
use Rattle.candidate_eval.specs.declared.eval.mode.TypingMode.{TypingMode}
use Rattle.candidate_eval.specs.declared.eval.mode.TypingMode.TheVariants.{PostAnalysis}
use Rattle.candidate_eval.specs.declared.eval.variable.CanonicalVar.{CanonicalVar}
use Rattle.candidate_eval.specs.declared.eval.variable.VariableKind.TheVariants.{Term, Region}
use Rattle.candidate_eval.specs.Derivations.ImplRules.{TraitGoal}
use Rattle.candidate_eval.specs.Judges.Soundness.{AreTreesOf, IsSound, ValuesFit, is_strange}
use Rattle.candidate_eval.specs.Judges.States.{VariableInfo, has_kind, value_at, value_in}
use Rattle.candidate_assembly.specs.Goals.Kinds.{IsGoal}
use Rattle.candidate_assembly.specs.Goals.Standing.{GoalIsValid, IsValidAt}
use Rattle.candidate_assembly.specs.Goals.TraitGoals.{arguments_held, trait_goal, types_held}
use Rattle.candidate_assembly.specs.Goals.TraitRules.{trait_rules}
use Rattle.rounds_judge.specs.Table.GoalTable.{may_be_asked}
use Rattle.rounds_judge.specs.Table.Keys.{Key, every, fresh_state, goal_trees, greatest_of, newest_of, root_of, start_of}
use Rattle.rounds_judge.specs.Equations.Standing.{AreResolved}
use Rattle.candidate_rounds.specs.declared.rounds.goals.GoalKey.{GoalKey}
use Rattle.candidate_rounds.specs.declared.rounds.inference.Entry.{Entry}
use Rattle.candidate_rounds.specs.Table.Goals.{IsKeyOf, key_seen}
use Rattle.candidate_rounds.specs.Evaluators.Inferences.{back_to}
use Rattle.candidate_rounds.specs.Evaluators.Known.{Each, EachAt, IsConsistent, IsEntry, IsTidy, IsWithin, StaysResolved, SuitsKind, info_of, state_of}
use Rattle.candidate_rounds.specs.Calls.Starting.{root_variable, started}

-- A row of rows.

escapes-join : (n : ℕ) (a b : Forest) → escapes n (join a b) ≡ escapes n a || escapes n b
escapes-join n none b = refl
escapes-join n (tree h x r) b =
    let p = is_beyond n h in let q = escapes (n + binders_of h) x in
    ap (λ (y : Bool). p || (q || y)) (escapes-join n r b)
    ∙ (ap (λ (y : Bool). p || y) (sym (or-assoc q (escapes n r) (escapes n b)))
    ∙ sym (or-assoc p (q || escapes n r) (escapes n b)))

-- What a test of a key says of its goal's environment and arguments.

pub record IsAsked (k : Key) : Type 0 where
  pub known : holds (is_strange (fresh_state PostAnalysis (newest_of k) k.variables) every) (goal_trees k.goal) ≡ false
  pub is_closed : escapes 0 (goal_trees k.goal) ≡ false
  pub no_parameter : holds is_param (goal_trees k.goal) ≡ false

pub is-asked : (k : Key) → may_be_asked k ≡ true → IsAsked k
is-asked k e =
    let a = holds (is_strange (fresh_state PostAnalysis (newest_of k) k.variables) every) (goal_trees k.goal) in
    let b = escapes 0 (goal_trees k.goal) in
    let d = holds is_param (goal_trees k.goal) in
    let p = and_parts (not a) (not b && not d) e in
    let q = and_parts (not b) (not d) p.1 in
    record { known = not-true a p.0; is_closed = not-true b q.0; no_parameter = not-true d q.1 }

free-parts : (p : Head → Bool) (a b : Forest) → holds p (join a b) ≡ false → (holds p a ≡ false) × (holds p b ≡ false)
free-parts p a b e = or_parts (holds p a) (holds p b) (sym (holds-join p a b) ∙ e)

closed-parts : (a b : Forest) → escapes 0 (join a b) ≡ false → (escapes 0 a ≡ false) × (escapes 0 b ≡ false)
closed-parts a b e = or_parts (escapes 0 a) (escapes 0 b) (sym (escapes-join 0 a b) ∙ e)

-- The goal is one by its numbers.
pub key-goal : (c : Context) (k : GoalKey) (p : TraitPredicate) → IsKeyOf c.trees k → IsArgs c.trees p.trait_ref.args → ArgumentsFit c p.trait_ref
    → trait_goal c.trees k.goal.param_env p ≡ (key_seen c.trees k).goal → IsGoal trait_rules arguments_held types_held trait_goal c k.goal.param_env p
key-goal c k p i a f e =
    let g = trait_goal c.trees k.goal.param_env p in
    let asked = is-asked (key_seen c.trees k) i.asked in
    let free = free-parts is_param g.env g.reference.arguments (ap (λ (x : TraitGoal). holds is_param (goal_trees x)) e ∙ asked.no_parameter) in
    let closed = closed-parts g.env g.reference.arguments (ap (λ (x : TraitGoal). escapes 0 (goal_trees x)) e ∙ asked.is_closed) in
    record { env = i.goal.goal.0; arguments = a; types = refl; fit = f; no_parameter = free.1; is_closed = closed.1 }

-- No variable of the state has a value.

no-value : (vs : List CanonicalVar) (n : ℕ) (i : VariableInfo) → slice_get (map root_of vs) n ≡ Some i → i.value ≡ None
no-value [] n i e = absurd cc
no-value (v ∷ vs) zero i e = let f : root_of v ≡ i = cc in ap (λ (x : VariableInfo). x.value) (sym f)
no-value (v ∷ vs) (suc n) i e = no-value vs n i e

none-known : {A : Type 0} (vs : List CanonicalVar) (n : ℕ) (i : VariableInfo) (t : Tree) → slice_get (map root_of vs) n ≡ Some i → i.value ≡ Some t → A
none-known vs n i t e f = absurd (let g : None ≡ Some t = sym (no-value vs n i e) ∙ f in cc)

-- All are of no universe above the newest.

below-greatest : (vs : List CanonicalVar) (u n : ℕ) (i : VariableInfo) → greatest_of vs ≤ u → slice_get (map root_of vs) n ≡ Some i → i.universe ≤ u
below-greatest [] u n i l e = absurd cc
below-greatest (v ∷ vs) u zero i l e =
    let f : root_of v ≡ i = cc in
    subst (λ (x : VariableInfo). x.universe ≤ u) f (omega (arith, l))
below-greatest (v ∷ vs) u (suc n) i l e = below-greatest vs u n i (omega (arith, l)) e

pub greatest-below : (k : Key) → greatest_of k.variables ≤ newest_of k
greatest-below k = omega arith

-- What is strange at the state doesn't depend on its mode.

same-strange : (m : TypingMode) (u : ℕ) (vs : List CanonicalVar) (h : Head) → is_strange (fresh_state m u vs) every h ≡ is_strange (fresh_state PostAnalysis u vs) every h
same-strange m u vs (H.Infer v) = refl
same-strange m u vs (H.Region (R.Var n)) = refl
same-strange m u vs (H.Placeholder p) = refl
same-strange m u vs (H.Const (C.Placeholder p)) = refl
same-strange m u vs (H.Region (R.Placeholder p)) = refl
same-strange m u vs _ = refl

-- No variable has a value there, so the values make sense.

pub start-sound : (m : TypingMode) (k : Key) → IsSound (start_of m k) every
start-sound m k =
    let vs = k.variables in
    record {
      allowed = λ s n i t l a v. none-known vs n i t a v;
      no_higher = λ n i t l a v. none-known vs n i t a v;
      is_resolved = λ n i t l a v. none-known vs n i t a v;
      known = λ n i t l a v. none-known vs n i t a v;
      universes = λ n i l a. below-greatest vs (newest_of k) n i (greatest-below k) a;
    }

pub start-fits : (m : TypingMode) (k : Key) → ValuesFit (start_of m k) every
start-fits m k = λ n l. record { kind = λ i t a v. none-known k.variables n i t a v; is_closed = λ i t a v. none-known k.variables n i t a v }

-- Closed trees of the key's variables, without parameters, stand where its goal is computed.
pub trees-stand : (m : TypingMode) (k : Key) (e ts : Forest) → AreTreesOf (start_of m k) every e → AreTreesOf (start_of m k) every ts → holds is_param e ≡ false → holds is_param ts ≡ false → IsValidAt (start_of m k) e ts
trees-stand m k e ts env trees env_free trees_free = record {
  live = every;
  sound = start-sound m k;
  fits = start-fits m k;
  values = λ n i t l a v. none-known k.variables n i t a v;
  env = env;
  trees = trees;
  env_free = env_free;
  trees_free = trees_free;
}

-- So do those of its goal.

pub record GoalTreesStand (m : TypingMode) (k : Key) : Type 0 where
  pub env : AreTreesOf (start_of m k) every k.goal.env
  pub arguments : AreTreesOf (start_of m k) every k.goal.reference.arguments
  pub env_free : holds is_param k.goal.env ≡ false
  pub arguments_free : holds is_param k.goal.reference.arguments ≡ false

pub goal-trees-stand : (m : TypingMode) (k : Key) → may_be_asked k ≡ true → GoalTreesStand m k
goal-trees-stand m k e =
    let asked = is-asked k e in
    let g = k.goal in
    let free = free-parts is_param g.env g.reference.arguments asked.no_parameter in
    let closed = closed-parts g.env g.reference.arguments asked.is_closed in
    let strange = free-parts (is_strange (start_of m k) every) g.env g.reference.arguments
    (ap (λ (q : Head → Bool). holds q (goal_trees g)) (λ i h. same-strange m (newest_of k) k.variables h i) ∙ asked.known) in
    record {
      env = record { known = strange.0; is_closed = closed.0 };
      arguments = record { known = strange.1; is_closed = closed.1 };
      env_free = free.0;
      arguments_free = free.1;
    }

-- The goal of a key stands where it is computed.
pub key-stands : (m : TypingMode) (k : Key) (g : TraitGoal) → may_be_asked k ≡ true → g ≡ k.goal → GoalIsValid trait_rules (start_of m k) g
key-stands m k g e f =
    let there = goal-trees-stand m k e in
    subst (GoalIsValid trait_rules (start_of m k)) (sym f) (trees-stand m k k.goal.env k.goal.reference.arguments there.env there.arguments there.env_free there.arguments_free)

-- The state is that of what is known there.

map-root : (ts : List Tree) (vs : List CanonicalVar) → map (info_of ts) (map root_variable vs) ≡ map root_of vs
map-root ts [] = refl
map-root ts (v ∷ vs) = ap (λ is. root_of v ∷ is) (map-root ts vs)

pub started-at : (ts : List Tree) (m : TypingMode) (u : ℕ) (vs : List CanonicalVar) → state_of ts m (started u vs) ≡ fresh_state m u vs
started-at ts m u vs = ap (λ is. record { newest_universe = u; variables = is; regions = []; pending = []; mode = m }) (map-root ts vs)

-- All holds of it that always holds of what is known.

each-variable : (P : Entry → Type 0) (vs : List CanonicalVar) → ((v : CanonicalVar) → P (root_variable v)) → Each P (map root_variable vs)
each-variable P [] f = tt
each-variable P (v ∷ vs) f = (f v, each-variable P vs f)

each-at-variable : (P : ℕ → Entry → Type 0) (n : ℕ) (vs : List CanonicalVar) → ((n : ℕ) (v : CanonicalVar) → P n (root_variable v)) → EachAt P n (map root_variable vs)
each-at-variable P n [] f = tt
each-at-variable P n (v ∷ vs) f = (f n v, each-at-variable P (suc n) vs f)

each-below : (u : ℕ) (vs : List CanonicalVar) → greatest_of vs ≤ u → Each (λ (e : Entry). e.universe ≤ u) (map root_variable vs)
each-below u [] l = tt
each-below u (v ∷ vs) l = (omega (arith, l), each-below u vs (omega (arith, l)))

tidy-started : (ts : List Tree) (u : ℕ) (vs : List CanonicalVar) → greatest_of vs ≤ u → IsTidy ts (started u vs)
tidy-started ts u vs l = record {
  pending = omega arith;
  kinds = each-variable (SuitsKind ts) vs (λ v x e. absurd (let g : None ≡ Some x = e in cc));
  room = each-at-variable (IsWithin ts 4294967295 0) 0 vs (λ n v x e h. absurd (let g : None ≡ Some x = e in cc));
  universes = each-below u vs l;
}

back-started : (n u : ℕ) (vs : List CanonicalVar) → back_to n (started u vs) ≡ started u vs
back-started zero u vs = refl
back-started (suc n) u vs = refl

pub started-consistent : (ts : List Tree) (u : ℕ) (vs : List CanonicalVar) → greatest_of vs ≤ u → IsConsistent ts (started u vs) []
started-consistent ts u vs l = record {
  known = record { values = each-variable (IsEntry ts) vs (λ v. tt); regions = tt; goals = tt; changes = tt };
  marks = tt;
  tidy = λ n. subst (IsTidy ts) (sym (back-started n u vs)) (tidy-started ts u vs l);
}

none-if : (b : Bool) (o : Option VariableInfo) → ((i : VariableInfo) → o ≡ Some i → i.value ≡ None) → (if b then value_in o else None) ≡ None
none-if true None f = refl
none-if true (Some i) f = f i refl
none-if false o f = refl

nothing-at : (m : TypingMode) (u : ℕ) (vs : List CanonicalVar) (h : Head) → value_at (fresh_state m u vs) h ≡ None
nothing-at m u vs (H.Infer v) = none-if (has_kind (Term v.sort) (slice_get (map root_of vs) v.number)) (slice_get (map root_of vs) v.number) (λ i. no-value vs v.number i)
nothing-at m u vs (H.Region (R.Var n)) = none-if (has_kind Region (slice_get (map root_of vs) n)) (slice_get (map root_of vs) n) (λ i. no-value vs n i)
nothing-at m u vs _ = refl

pub started-resolved : (ts : List Tree) (u : ℕ) (vs : List CanonicalVar) → StaysResolved ts (started u vs) []
started-resolved ts u vs = record { now = λ m. subst AreResolved (sym (started-at ts m u vs)) (λ h t e. absurd (let g : None ≡ Some t = sym (nothing-at m u vs h) ∙ e in cc)); at_marks = tt }
