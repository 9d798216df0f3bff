-- What holds of all that is kept holds after each change; and what the state is then.
use Rattle.std.proofs.Common.{◌≡◌, ℕ, suc, ◌≤◌, min, max, Bool, true, false, List, [], ◌∷◌, ◌++◌, length, drop, map, Result, Ok, Err, IfOk, IfErr, OnOk, OnErr, append_assoc, refl, sym, ◌∙◌, ap, subst, arith}
use Rattle.std.proofs.lemmas.List.{length-append, map-append, drop-append-le, append-nil}
use Rattle.ir_trees.specs.declared.ir.kinds.Clause.{Clause}
use Rattle.ir_trees.specs.declared.ir.kinds.Goal.{Goal}
use Rattle.ir_trees.specs.declared.ir.kinds.GoalSource.{GoalSource}
use Rattle.ir_trees.specs.declared.ir.kinds.VarKind.{VarKind}
use Rattle.ir_trees.specs.declared.ir.stop.Stop.{Stop}
use Rattle.ir_trees.specs.Declarations.Context.{parameter_kind}
use Rattle.ir_trees.specs.Syntax.Nodes.{Extends}
use Rattle.ir_trees.specs.Syntax.Trees.{Tree}
use Rattle.candidate_eval.specs.declared.eval.mode.TypingMode.{TypingMode}
use Rattle.candidate_eval.specs.declared.eval.variable.VariableKind.{VariableKind}
use Rattle.candidate_eval.specs.Judges.States.{State, added, with_pending, with_fresh, with_fresh_variables, variable_kind}
use Rattle.candidate_eval.specs.Interface.Evaluators.{IsGoal, pending_of, pendings_of, with_goals_of, kinds_listed}
use Rattle.candidate_rounds.specs.declared.rounds.inference.Change.TheVariants as C
use Rattle.candidate_rounds.specs.declared.rounds.inference.Entry.{Entry}
use Rattle.candidate_rounds.specs.Evaluators.Inferences.{Inference, universe_for, with_variable, with_variables, with_newest, add, add_all, widen, begin_pending, back_to}
use Rattle.candidate_rounds.specs.Evaluators.Known.{info_of, state_of, IsEntry, IsChange, IsConsistent, IsKnown, IsTidy, IsWithin, SuitsKind, Each, Evaluator, state, with_root}
use Rattle.candidate_rounds.proofs.Snapshots.Undoing.{IsUndone, undo-variable, undo-newest, undo-goal, undo-pending, undo-widen, back-to-now}
use Rattle.candidate_rounds.proofs.Snapshots.Knowing.{state-stays, each-append, each-at-append, each-at-imply, each-imply}
use Rattle.candidate_rounds.proofs.Snapshots.Probing.{holds-after}

pub one-more : {A : Type 0} (xs : List A) (x : A) → length (xs ++ x ∷ []) ≡ suc (length xs)
one-more xs x = length-append xs (x ∷ []) ∙ omega arith

-- It is tidy now.
pub tidy-now : (ts : List Tree) (s : Inference) (ks : List ℕ) → IsConsistent ts s ks → IsTidy ts s
tidy-now ts s ks h = subst (IsTidy ts) (back-to-now s) (h.tidy (length s.trail))

first-fits : (ts : List Tree) (s : Inference) (ks : List ℕ) → IsConsistent ts s ks → s.first_pending ≤ length s.goals
first-fits ts s ks h = (tidy-now ts s ks h).pending

pub kinds-now : (ts : List Tree) (s : Inference) (ks : List ℕ) → IsConsistent ts s ks → Each (SuitsKind ts) s.variables
kinds-now ts s ks h = (tidy-now ts s ks h).kinds

-- A probe in which nothing is pending began.
pub holds-begun : (ts : List Tree) (s : Inference) (ks : List ℕ) → IsConsistent ts s ks → IsConsistent ts (begin_pending s (length s.goals)) (length s.trail ∷ ks)
holds-begun ts s ks h =
    holds-after ts s (begin_pending s (length s.goals)) (length s.trail ∷ ks) (record { known = h.known; marks = (omega arith, h.marks); tidy = h.tidy })
    (undo-pending s (length s.goals)) (one-more s.trail _)
    (record { values = h.known.values; regions = h.known.regions; goals = h.known.goals; changes = each-append (IsChange ts) s.trail _ h.known.changes tt })
    (let t = tidy-now ts s ks h in record { pending = omega arith; kinds = t.kinds; room = t.room; universes = t.universes })

-- One began in which what was pending is.
pub holds-kept : (ts : List Tree) (s : Inference) (ks : List ℕ) → IsConsistent ts s ks → IsConsistent ts s (length s.trail ∷ ks)
holds-kept ts s ks h = record { known = h.known; marks = (omega arith, h.marks); tidy = h.tidy }

pub holds-goal : (ts : List Tree) (s : Inference) (ks : List ℕ) (f : GoalSource) (g : Goal Clause) → IsConsistent ts s ks → IsGoal ts g → IsConsistent ts (add s f g) ks
holds-goal ts s ks f g h i =
    holds-after ts s (add s f g) ks h (undo-goal s f g) (one-more s.trail _)
    (record { values = h.known.values; regions = h.known.regions; goals = each-append (λ (x : GoalSource × Goal Clause). IsGoal ts x.1) s.goals (f, g) h.known.goals i; changes = each-append (IsChange ts) s.trail _ h.known.changes tt })
    (let t = tidy-now ts s ks h in record { pending = (let n = one-more s.goals (f, g) in let p = first-fits ts s ks h in omega (arith, n, p)); kinds = t.kinds; room = t.room; universes = t.universes })

universe-fits : (s : Inference) (r : Bool) → universe_for s r ≤ s.newest_universe
universe-fits s true = omega arith
universe-fits s false = omega arith

pub holds-variable : (ts : List Tree) (s : Inference) (ks : List ℕ) (k : VariableKind) (r : Bool) → IsConsistent ts s ks → IsConsistent ts (with_variable s k r) ks
holds-variable ts s ks k r h =
    holds-after ts s (with_variable s k r) ks h (undo-variable s k r) (one-more s.trail _)
    (record { values = each-append (IsEntry ts) s.variables _ h.known.values tt; regions = h.known.regions; goals = h.known.goals; changes = each-append (IsChange ts) s.trail _ h.known.changes tt })
    (let t = tidy-now ts s ks h in record {
      pending = t.pending;
      kinds = each-append (SuitsKind ts) s.variables _ t.kinds (λ v e. cc);
      room = each-at-append (IsWithin ts s.first_open s.end_open) 0 s.variables _ t.room (λ m v e. cc);
      universes = each-append (λ (e : Entry). e.universe ≤ s.newest_universe) s.variables _ t.universes (universe-fits s r);
    })

pub holds-newest : (ts : List Tree) (s : Inference) (ks : List ℕ) (u : ℕ) → s.newest_universe ≤ u → IsConsistent ts s ks → IsConsistent ts (with_newest s u) ks
holds-newest ts s ks u more h =
    holds-after ts s (with_newest s u) ks h (undo-newest s u) (one-more s.trail _)
    (record { values = h.known.values; regions = h.known.regions; goals = h.known.goals; changes = each-append (IsChange ts) s.trail _ h.known.changes tt })
    (let t = tidy-now ts s ks h in record {
      pending = t.pending;
      kinds = t.kinds;
      room = t.room;
      universes = each-imply (λ (e : Entry). e.universe ≤ s.newest_universe) (λ (e : Entry). e.universe ≤ u) s.variables (λ e l. omega (arith, l, more)) t.universes;
    })

-- Where values in which a variable stands may be in more places, they are in these, too.
pub holds-widen : (ts : List Tree) (s : Inference) (ks : List ℕ) (n : ℕ) → IsConsistent ts s ks → IsConsistent ts (widen s n) ks
holds-widen ts s ks n h =
    holds-after ts s (widen s n) ks h (undo-widen s n) (one-more s.trail _)
    (record { values = h.known.values; regions = h.known.regions; goals = h.known.goals; changes = each-append (IsChange ts) s.trail _ h.known.changes tt })
    (let t = tidy-now ts s ks h in record {
      pending = t.pending;
      kinds = t.kinds;
      room = each-at-imply (IsWithin ts s.first_open s.end_open) (IsWithin ts (min s.first_open n) (max s.end_open (suc n))) 0 s.variables (λ m e k v q o. let l = k v q o in (omega (arith, l.0), omega (arith, l.1))) t.room;
      universes = t.universes;
    })

-- The state after each change.

pub state-goal : (ts : List Tree) (mode : TypingMode) (s : Inference) (ks : List ℕ) (f : GoalSource) (g : Goal Clause) → IsConsistent ts s ks → state_of ts mode (add s f g) ≡ added (state_of ts mode s) (pending_of ts f g)
state-goal ts mode s ks f g h =
    ap (λ gs. record (state_of ts mode s) { pending = pendings_of ts gs }) (drop-append-le s.first_pending s.goals ((f, g) ∷ []) (first-fits ts s ks h))
    ∙ ap (λ ps. record (state_of ts mode s) { pending = ps }) (map-append (λ (x : GoalSource × Goal Clause). pending_of ts x.0 x.1) (drop s.first_pending s.goals) _)

pub state-variable : (ts : List Tree) (mode : TypingMode) (s : Inference) (k : VariableKind) → state_of ts mode (with_variable s k false) ≡ with_fresh (state_of ts mode s) k
state-variable ts mode s k = ap (λ vs. record (state_of ts mode s) { variables = vs }) (map-append (info_of ts) s.variables _)

-- Of a call that changed this or nothing.

pub either : {A : Type 0} {P : Type 0} (r : Result A Stop) → IfOk r (λ _. P) → IfErr r (λ _. P) → P
either (Ok a) p q = p
either (Err e) p q = q

pub goal-holds : {A : Type 0} (ts : List Tree) (s t : Inference) (ks : List ℕ) (f : GoalSource) (g : Goal Clause) (r : Result A Stop) → IsConsistent ts s ks → IsGoal ts g → IfOk r (λ _. t ≡ add s f g) → IfErr r (λ _. t ≡ s)
    → IsConsistent ts t ks
goal-holds ts s t ks f g (Ok a) h i p q = subst (λ x. IsConsistent ts x ks) (sym p) (holds-goal ts s ks f g h i)
goal-holds ts s t ks f g (Err e) h i p q = subst (λ x. IsConsistent ts x ks) (sym q) h

pub goal-undone : {A : Type 0} (s t : Inference) (f : GoalSource) (g : Goal Clause) (r : Result A Stop) → IfOk r (λ _. t ≡ add s f g) → IfErr r (λ _. t ≡ s) → IsUndone s t
goal-undone s t f g (Ok a) p q n l = ap (back_to n) p ∙ undo-goal s f g n l
goal-undone s t f g (Err e) p q n l = ap (back_to n) q

pub goal-state : {A : Type 0} (ts : List Tree) (mode : TypingMode) (s t : Inference) (ks : List ℕ) (f : GoalSource) (g : Goal Clause) (r : Result A Stop) → IsConsistent ts s ks → IfOk r (λ _. t ≡ add s f g)
    → OnOk r (state_of ts mode t ≡ added (state_of ts mode s) (pending_of ts f g))
goal-state ts mode s t ks f g (Ok a) h p = ap (state_of ts mode) p ∙ state-goal ts mode s ks f g h
goal-state ts mode s t ks f g (Err e) h p = tt

-- The same of several goals.

pub holds-goals : (ts : List Tree) (s : Inference) (ks : List ℕ) (f : GoalSource) (gs : List (Goal Clause)) → IsConsistent ts s ks → Each (IsGoal ts) gs → IsConsistent ts (add_all s f gs) ks
holds-goals ts s ks f [] h e = h
holds-goals ts s ks f (g ∷ gs) h e = holds-goals ts (add s f g) ks f gs (holds-goal ts s ks f g h e.0) e.1

pub undo-goals : (s : Inference) (f : GoalSource) (gs : List (Goal Clause)) → IsUndone s (add_all s f gs)
undo-goals s f [] n l = refl
undo-goals s f (g ∷ gs) n l = undo-goals (add s f g) f gs n (let m = one-more s.trail C.Goal in omega (arith, l, m)) ∙ undo-goal s f g n l

pub state-goals : (ts : List Tree) (mode : TypingMode) (s : Inference) (ks : List ℕ) (f : GoalSource) (gs : List (Goal Clause)) → IsConsistent ts s ks → Each (IsGoal ts) gs
    → state_of ts mode (add_all s f gs) ≡ with_goals_of ts (state_of ts mode s) f gs
state-goals ts mode s ks f [] h e = ap (with_pending (state_of ts mode s)) (sym (append-nil _))
state-goals ts mode s ks f (g ∷ gs) h e =
    state-goals ts mode (add s f g) ks f gs (holds-goal ts s ks f g h e.0) e.1
    ∙ (ap (λ S. with_goals_of ts S f gs) (state-goal ts mode s ks f g h)
    ∙ ap (with_pending (state_of ts mode s)) (append_assoc (state_of ts mode s).pending (pending_of ts f g ∷ []) (map (pending_of ts f) gs)))

pub goals-hold : {A : Type 0} (ts : List Tree) (s t : Inference) (ks : List ℕ) (f : GoalSource) (gs : List (Goal Clause)) (r : Result A Stop) → IsConsistent ts s ks → Each (IsGoal ts) gs
    → IfOk r (λ _. t ≡ add_all s f gs) → IfErr r (λ _. t ≡ s) → IsConsistent ts t ks
goals-hold ts s t ks f gs (Ok a) h i p q = subst (λ x. IsConsistent ts x ks) (sym p) (holds-goals ts s ks f gs h i)
goals-hold ts s t ks f gs (Err e) h i p q = subst (λ x. IsConsistent ts x ks) (sym q) h

pub goals-undone : {A : Type 0} (s t : Inference) (f : GoalSource) (gs : List (Goal Clause)) (r : Result A Stop) → IfOk r (λ _. t ≡ add_all s f gs) → IfErr r (λ _. t ≡ s) → IsUndone s t
goals-undone s t f gs (Ok a) p q n l = ap (back_to n) p ∙ undo-goals s f gs n l
goals-undone s t f gs (Err e) p q n l = ap (back_to n) q

pub goals-state : {A : Type 0} (ts : List Tree) (mode : TypingMode) (s t : Inference) (ks : List ℕ) (f : GoalSource) (gs : List (Goal Clause)) (r : Result A Stop) → IsConsistent ts s ks → Each (IsGoal ts) gs
    → IfOk r (λ _. t ≡ add_all s f gs) → OnOk r (state_of ts mode t ≡ with_goals_of ts (state_of ts mode s) f gs)
goals-state ts mode s t ks f gs (Ok a) h i p = ap (state_of ts mode) p ∙ state-goals ts mode s ks f gs h i
goals-state ts mode s t ks f gs (Err e) h i p = tt

-- The state as it was, once more numbers are given.
pub before-grown : (us : List Tree) (v e : Evaluator) → v ≡ e → Extends v.context.trees us → IsKnown v.context.trees v.inference → state_of us e.mode e.inference ≡ state e
before-grown us v e q x k = sym (ap (λ (y : Evaluator). state_of us y.mode y.inference) q) ∙ (state-stays v.context.trees us v.mode v.inference x k ∙ ap state q)

pub root-made : {A : Type 0} (us : List Tree) (mode : TypingMode) (s t : Inference) (S : State) (k : VariableKind) (r : Result A Stop) → state_of us mode s ≡ S → IfOk r (λ _. t ≡ with_variable s k true)
    → OnOk r (state_of us mode t ≡ with_root S k)
root-made us mode s t S k (Ok a) b p =
    ap (state_of us mode) p
    ∙ (ap (λ vs. record (state_of us mode s) { variables = vs }) (map-append (info_of us) s.variables _)
    ∙ ap (λ S. with_root S k) b)
root-made us mode s t S k (Err e) b p = tt

pub none-made : {A : Type 0} (us : List Tree) (mode : TypingMode) (s t : Inference) (S : State) (r : Result A Stop) → state_of us mode s ≡ S → IfErr r (λ _. t ≡ s) → OnErr r (state_of us mode t ≡ S)
none-made us mode s t S (Ok a) b p = tt
none-made us mode s t S (Err e) b p = ap (state_of us mode) p ∙ b

-- The same of several variables, and of a universe.

pub holds-variables : (ts : List Tree) (s : Inference) (ks : List ℕ) (vs : List VarKind) → IsConsistent ts s ks → IsConsistent ts (with_variables s vs) ks
holds-variables ts s ks [] h = h
holds-variables ts s ks (v ∷ vs) h = holds-variables ts (with_variable s (variable_kind (parameter_kind v)) false) ks vs (holds-variable ts s ks (variable_kind (parameter_kind v)) false h)

pub undo-variables : (s : Inference) (vs : List VarKind) → IsUndone s (with_variables s vs)
undo-variables s [] n l = refl
undo-variables s (v ∷ vs) n l =
    let k = variable_kind (parameter_kind v) in
    undo-variables (with_variable s k false) vs n (let m = one-more s.trail C.Variable in omega (arith, l, m)) ∙ undo-variable s k false n l

pub state-variables : (ts : List Tree) (mode : TypingMode) (s : Inference) (vs : List VarKind) → state_of ts mode (with_variables s vs) ≡ with_fresh_variables (state_of ts mode s) (kinds_listed vs)
state-variables ts mode s [] = refl
state-variables ts mode s (v ∷ vs) =
    let k = variable_kind (parameter_kind v) in
    state-variables ts mode (with_variable s k false) vs ∙ ap (λ S. with_fresh_variables S (kinds_listed vs)) (state-variable ts mode s k)

-- A call that made one change or none.

pub change-holds : {A : Type 0} (ts : List Tree) (s t u : Inference) (ks : List ℕ) (r : Result A Stop) → IsConsistent ts s ks → IsConsistent ts u ks → IfOk r (λ _. t ≡ u) → IfErr r (λ _. t ≡ s) → IsConsistent ts t ks
change-holds ts s t u ks (Ok a) h k p q = subst (λ x. IsConsistent ts x ks) (sym p) k
change-holds ts s t u ks (Err e) h k p q = subst (λ x. IsConsistent ts x ks) (sym q) h

pub change-undone : {A : Type 0} (s t u : Inference) (r : Result A Stop) → IsUndone s u → IfOk r (λ _. t ≡ u) → IfErr r (λ _. t ≡ s) → IsUndone s t
change-undone s t u (Ok a) k p q n l = ap (back_to n) p ∙ k n l
change-undone s t u (Err e) k p q n l = ap (back_to n) q

pub change-state : {A : Type 0} (ts : List Tree) (mode : TypingMode) (t u : Inference) (S : State) (r : Result A Stop) → state_of ts mode u ≡ S → IfOk r (λ _. t ≡ u) → OnOk r (state_of ts mode t ≡ S)
change-state ts mode t u S (Ok a) k p = ap (state_of ts mode) p ∙ k
change-state ts mode t u S (Err e) k p = tt
