-- Values hold no variable that has a value: this stays so.
use Rattle.std.proofs.Common.{◌≡◌, ℕ, zero, suc, ◌≤◌, Bool, true, false, not, List, [], ◌∷◌, ◌++◌, length, slice_get, Option, Some, None, Result, Ok, Err, IfOk, IfErr, OnOk, if◌then◌else◌, refl, sym, ◌∙◌, ap, subst, arith}
use Rattle.std.proofs.lemmas.Bool.{and_parts, not-true}
use Rattle.std.proofs.lemmas.List.{map-append}
use Rattle.ir_trees.specs.declared.ir.heads.Head.{Head}
use Rattle.ir_trees.specs.declared.ir.heads.Head.TheVariants as H
use Rattle.ir_trees.specs.declared.ir.heads.Variable.{Variable}
use Rattle.ir_trees.specs.declared.ir.kinds.AliasTy.{AliasTy}
use Rattle.ir_trees.specs.declared.ir.kinds.Goal.{Goal}
use Rattle.ir_trees.specs.declared.ir.kinds.GoalSource.{GoalSource}
use Rattle.ir_trees.specs.declared.ir.kinds.RegionKind.TheVariants as R
use Rattle.ir_trees.specs.declared.ir.kinds.Clause.{Clause}
use Rattle.ir_trees.specs.declared.ir.kinds.VarKind.{VarKind}
use Rattle.ir_trees.specs.declared.ir.stop.Stop.{Stop}
use Rattle.ir_trees.specs.Declarations.Context.{Context, Grows, parameter_kind}
use Rattle.ir_trees.specs.Syntax.Nodes.{Extends}
use Rattle.ir_trees.specs.Unification.Substitutions.{alone, fits_sort}
use Rattle.ir_trees.specs.Syntax.Trees.{Tree}
use Rattle.ir_trees.specs.Validity.WellFormed.{IsWellFormedTable}
use Rattle.candidate_eval.specs.declared.eval.mode.TypingMode.{TypingMode}
use Rattle.candidate_eval.specs.declared.eval.variable.VariableKind.{VariableKind}
use Rattle.candidate_eval.specs.declared.eval.variable.VariableKind.TheVariants.{Term, Region}
use Rattle.candidate_eval.specs.Judges.States.{State, VariableInfo, has_kind, is_some, same_kind, value_at, value_in, value_of, variable_kind}
use Rattle.candidate_eval.specs.Judges.Alike.{info}
use Rattle.candidate_eval.specs.Judges.Soundness.{IsResolved, has_value}
use Rattle.candidate_rounds.specs.declared.rounds.inference.Entry.{Entry}
use Rattle.rounds_judge.specs.Equations.Binding.{bound, may_take, occurs}
use Rattle.candidate_rounds.specs.Evaluators.Inferences.{Inference, IsFurther, add, add_all, back_to, begin_pending, with_newest, record_region, universe_for, with_variable, with_variables}
use Rattle.candidate_rounds.specs.Evaluators.Known.{AreMarks, AreTypes, Each, HasResolvedValues, IsConsistent, IsEvaluator, IsGiven, IsKnown, IsTidy, StaysResolved, info_of, state_of, NormalForms, listing_by}
use Rattle.rounds_judge.specs.Aliases.Listed.{Listing}
use Rattle.rounds_judge.specs.Equations.Standing.{AreResolved}
use Rattle.rounds_judge.specs.Table.GoalTable.{GoalTable}
use Rattle.derivations.specs.DerivedTables.{TableIsDerived}
use Rattle.derivations.proofs.Declared.{none_derived, table_grown}
use Rattle.rounds_judge.proofs.Equations.Ending.{CanGet, resolved_then}
use Rattle.candidate_rounds.proofs.Evaluators.Between.{of-parts, parts}
use Rattle.candidate_rounds.specs.Table.Goals.{Goals, IsTabled, Via, table_seen}
use Rattle.candidate_rounds.proofs.Table.Tabled.{none_tabled, tabled-grown, tabled-sees}
use Rattle.candidate_rounds.proofs.Snapshots.Knowing.{each-imply, given-grown, known-back, normals-extend, state-stays}
use Rattle.rounds_judge.proofs.States.Marks.{holds_to}
use Rattle.candidate_rounds.proofs.Snapshots.Probing.{back-back, holds-grown}
use Rattle.candidate_rounds.proofs.Snapshots.Undoing.{back-to-now}

-- Numbers have their trees still.

pub resolved-with : (ts us : List Tree) (s : Inference) → Extends ts us → IsKnown ts s → HasResolvedValues ts s → HasResolvedValues us s
resolved-with ts us s e k h m = subst AreResolved (sym (state-stays ts us m s e k)) (h m)

pub resolved-grown : (ts us : List Tree) (s : Inference) (ks : List ℕ) → Extends ts us → IsKnown ts s → StaysResolved ts s ks → StaysResolved us s ks
resolved-grown ts us s ks e k r = record {
  now = resolved-with ts us s e k r.now;
  at_marks =
      each-imply (λ n. HasResolvedValues ts (back_to n s)) (λ n. HasResolvedValues us (back_to n s)) ks
      (λ n h. resolved-with ts us (back_to n s) e (known-back ts s n k) h) r.at_marks;
}

pub derived-grown : (b c : Context) (ns : NormalForms) (gs : Goals) → Grows b c → Each (AreTypes b.trees) ns.pairs → IsTabled b.trees gs → TableIsDerived b (listing_by b.trees ns) (table_seen b.trees gs.table)
    → TableIsDerived c (listing_by c.trees ns) (table_seen c.trees gs.table)
derived-grown b c ns gs e k t h =
    let l = normals-extend b.trees c.trees ns e.kept k in
    let m = tabled-sees b.trees c.trees e.kept gs t in
    subst (λ (x : Listing × GoalTable Via). TableIsDerived c x.0 x.1) (sym (λ i. (l i, m i))) (table_grown b c e _ _ h)

pub evaluator-grown : (b c : Context) (s : Inference) (ks : List ℕ) (ns : NormalForms) (os : List AliasTy) (gs : Goals) → Grows b c → IsEvaluator b s ks ns os gs → IsEvaluator c s ks ns os gs
evaluator-grown b c s ks ns os gs e h = of-parts (record {
  consistent = holds-grown b.trees c.trees s ks e.kept (parts h).consistent;
  resolved = resolved-grown b.trees c.trees s ks e.kept (parts h).consistent.known (parts h).resolved;
  given = given-grown b.trees c.trees ns.pairs os e.kept (parts h).given;
  tabled = tabled-grown b.trees c.trees e.kept gs (parts h).tabled;
  derived = derived-grown b c ns gs e (parts h).given.types (parts h).tabled (parts h).derived;
})

-- What is known is more.

pub resolved-further : (ts : List Tree) (s t : Inference) (ks : List ℕ) → AreMarks (length s.trail) ks → IsFurther s t → HasResolvedValues ts t → StaysResolved ts s ks → StaysResolved ts t ks
resolved-further ts s t ks m f h r = record { now = h; at_marks = go (length s.trail) ks (omega arith) m r.at_marks }
  where
    go : (n : ℕ) (ks : List ℕ) → n ≤ length s.trail → AreMarks n ks → Each (λ k. HasResolvedValues ts (back_to k s)) ks → Each (λ k. HasResolvedValues ts (back_to k t)) ks
    go n [] l a e = tt
    go n (k ∷ ks) l a e =
        let below : k ≤ length s.trail = omega (arith, l, a.0) in
        (subst (HasResolvedValues ts) (sym (f.1 k below)) e.0, go k ks below a.1 e.1)

pub evaluator-further : (c : Context) (s t : Inference) (ks : List ℕ) (ns : NormalForms) (os : List AliasTy) (gs : Goals) → IsEvaluator c s ks ns os gs → IsFurther s t → IsConsistent c.trees t ks → HasResolvedValues c.trees t
    → IsEvaluator c t ks ns os gs
evaluator-further c s t ks ns os gs h f k r = of-parts (record {
  consistent = k;
  resolved = resolved-further c.trees s t ks (parts h).consistent.marks f r (parts h).resolved;
  given = (parts h).given;
  tabled = (parts h).tabled;
  derived = (parts h).derived;
})

-- A call that made one change or none.
pub evaluator-changed : {A : Type 0} (c : Context) (s t u : Inference) (ks : List ℕ) (ns : NormalForms) (os : List AliasTy) (gs : Goals) (r : Result A Stop) → IsEvaluator c s ks ns os gs → IsFurther s u → IsConsistent c.trees u ks
    → HasResolvedValues c.trees u → IfOk r (λ _. t ≡ u) → IfErr r (λ _. t ≡ s) → IsEvaluator c t ks ns os gs
evaluator-changed c s t u ks ns os gs (Ok a) h f k v p q = subst (λ x. IsEvaluator c x ks ns os gs) (sym p) (evaluator-further c s u ks ns os gs h f k v)
evaluator-changed c s t u ks ns os gs (Err e) h f k v p q = subst (λ x. IsEvaluator c x ks ns os gs) (sym q) h

-- A variable without a value gives none.

abbrev of_kind : VariableKind → Option VariableInfo → Option Tree
of_kind k o = if has_kind k o then value_in o else None

none-of : (b : Bool) (o : Option Tree) → o ≡ None → ◌≡◌ {A = Option Tree} (if b then o else None) None
none-of true o e = e
none-of false o e = refl

same-value : (k : VariableKind) (is : List VariableInfo) (i : VariableInfo) (n : ℕ) → i.value ≡ None → of_kind k (slice_get (is ++ i ∷ []) n) ≡ of_kind k (slice_get is n)
same-value k [] i zero e = none-of (same_kind i.kind k) i.value e
same-value k [] i (suc n) e = refl
same-value k (j ∷ is) i zero e = refl
same-value k (j ∷ is) i (suc n) e = same-value k is i n e

abbrev pub with_another : State → VariableInfo → State
with_another S i = record S { variables = S.variables ++ i ∷ [] }

same-at : (S : State) (i : VariableInfo) → i.value ≡ None → (h : Head) → value_at (with_another S i) h ≡ value_at S h
same-at S i e (H.Infer v) = same-value (Term v.sort) S.variables i v.number e
same-at S i e (H.Region (R.Var n)) = same-value Region S.variables i n e
same-at S i e _ = refl

pub another-resolved : (S : State) (i : VariableInfo) → i.value ≡ None → AreResolved S → AreResolved (with_another S i)
another-resolved S i e r h t f =
    let was : IsResolved S (alone t) = r h t (sym (same-at S i e h) ∙ f) in
    holds_to (has_value S) (has_value S) (has_value (with_another S i)) (λ g a b. ap is_some (same-at S i e g) ∙ a) (alone t) was was

pub resolved-variable : (ts : List Tree) (s : Inference) (k : VariableKind) (r : Bool) → HasResolvedValues ts s → HasResolvedValues ts (with_variable s k r)
resolved-variable ts s k r h m =
    let e : Entry = record { kind = k; universe = universe_for s r; value = None; is_root = r } in
    subst (λ vs. AreResolved (record (state_of ts m s) { variables = vs })) (sym (map-append (info_of ts) s.variables (e ∷ []))) (another-resolved (state_of ts m s) (info_of ts e) refl (h m))

pub resolved-variables : (ts : List Tree) (s : Inference) (ks : List VarKind) → HasResolvedValues ts s → HasResolvedValues ts (with_variables s ks)
resolved-variables ts s [] h = h
resolved-variables ts s (k ∷ ks) h = resolved-variables ts (with_variable s (variable_kind (parameter_kind k)) false) ks (resolved-variable ts s (variable_kind (parameter_kind k)) false h)

-- What changes no variable changes no value.

pub resolved-newest : (ts : List Tree) (s : Inference) (u : ℕ) → HasResolvedValues ts s → HasResolvedValues ts (with_newest s u)
resolved-newest ts s u h m = h m

pub resolved-region : (ts : List Tree) (s : Inference) (c : Clause) → HasResolvedValues ts s → HasResolvedValues ts (record_region s c)
resolved-region ts s c h m = h m

pub resolved-goal : (ts : List Tree) (s : Inference) (f : GoalSource) (g : Goal Clause) → HasResolvedValues ts s → HasResolvedValues ts (add s f g)
resolved-goal ts s f g h m = h m

pub resolved-goals : (ts : List Tree) (s : Inference) (f : GoalSource) (gs : List (Goal Clause)) → HasResolvedValues ts s → HasResolvedValues ts (add_all s f gs)
resolved-goals ts s f [] h = h
resolved-goals ts s f (g ∷ gs) h = resolved-goals ts (add s f g) f gs (resolved-goal ts s f g h)

pub resolved-pending : (ts : List Tree) (s : Inference) (n : ℕ) → HasResolvedValues ts s → HasResolvedValues ts (begin_pending s n)
resolved-pending ts s n h m = h m

-- A variable got a value that it can get.
pub resolved-bound : {A : Type 0} (ts us : List Tree) (s t : Inference) (v : Variable) (x : Tree) (r : Result A Stop) → HasResolvedValues ts s → ((m : TypingMode) → CanGet (state_of ts m s) v x)
    → Extends ts us → IsKnown ts s → ((m : TypingMode) → OnOk r (state_of us m t ≡ bound (state_of ts m s) v x)) → IfErr r (λ _. t ≡ s) → HasResolvedValues us t
resolved-bound ts us s t v x (Ok a) h c e k p q m = subst AreResolved (sym (p m)) (resolved_then (state_of ts m s) (h m) v x (c m))
resolved-bound ts us s t v x (Err f) h c e k p q m = subst (HasResolvedValues us) (sym q) (resolved-with ts us s e k h) m

-- What a variable without a value may take, it can get, where no variable with a value stands in it.
pub can-get : (S : State) (v : Variable) (t : Tree) → may_take S v t ≡ true → value_of S v.number ≡ None → IsResolved S (alone t) → CanGet S v t
can-get S v t may free r =
    let p = and_parts (has_kind (Term v.sort) (info S v.number)) _ may in
    let q = and_parts (fits_sort v.sort t.head) _ p.1 in
    let n = and_parts (not (occurs v.number t)) _ q.1 in
    record { kind = p.0; free = free; not_in = not-true (occurs v.number t) n.0; is_resolved = r }

-- Probes that begin and end.

pub resolved-begun : (ts : List Tree) (s : Inference) (ks : List ℕ) → StaysResolved ts s ks → StaysResolved ts s (length s.trail ∷ ks)
resolved-begun ts s ks h = record { now = h.now; at_marks = (subst (HasResolvedValues ts) (sym (back-to-now s)) h.now, h.at_marks) }

-- what was when there were so many changes, of which each open probe has no more
pub resolved-back : (ts : List Tree) (s : Inference) (n : ℕ) (ks : List ℕ) → AreMarks n ks → HasResolvedValues ts (back_to n s) → Each (λ k. HasResolvedValues ts (back_to k s)) ks → StaysResolved ts (back_to n s) ks
resolved-back ts s n ks m h e = record { now = h; at_marks = go n ks (omega arith) m e }
  where
    go : (i : ℕ) (ks : List ℕ) → i ≤ n → AreMarks i ks → Each (λ k. HasResolvedValues ts (back_to k s)) ks → Each (λ k. HasResolvedValues ts (back_to k (back_to n s))) ks
    go i [] l a e = tt
    go i (k ∷ ks) l a e =
        let below : k ≤ n = omega (arith, l, a.0) in
        (subst (HasResolvedValues ts) (sym (back-back k n s below)) e.0, go k ks below a.1 e.1)

-- Nothing is known at the beginning.

abbrev pub nothing_known : Inference
nothing_known = record { newest_universe = 0; variables = []; regions = []; goals = []; first_pending = 0; first_open = 4294967295; end_open = 0; trail = [] }

no-change : (n : ℕ) → back_to n nothing_known ≡ nothing_known
no-change zero = refl
no-change (suc n) = refl

nothing-tidy : (ts : List Tree) → IsTidy ts nothing_known
nothing-tidy ts = record { pending = omega arith; kinds = tt; room = tt; universes = tt }

nothing-resolved : (ts : List Tree) → HasResolvedValues ts nothing_known
nothing-resolved ts m h t e = absurd (at h e)
  where
    at : (h : Head) → value_at (state_of ts m nothing_known) h ≡ Some t → ⊥
    at (H.Infer v) e = absurd (let clash : None ≡ Some t = e in cc)
    at (H.Region (R.Var n)) e = absurd (let clash : None ≡ Some t = e in cc)
    at _ e = absurd (let clash : None ≡ Some t = e in cc)

pub evaluator-begins : (c : Context) (ns : NormalForms) (os : List AliasTy) → IsWellFormedTable c → IsGiven c.trees ns.pairs os → IsEvaluator c nothing_known [] ns os (record { table = []; asked = []; asks = false })
evaluator-begins c ns os w g = of-parts (record {
  consistent = record {
    known = record { values = tt; regions = tt; goals = tt; changes = tt };
    marks = tt;
    tidy = λ n. subst (IsTidy c.trees) (sym (no-change n)) (nothing-tidy c.trees);
  };
  resolved = record { now = nothing-resolved c.trees; at_marks = tt };
  given = g;
  tabled = none_tabled c.trees;
  derived = none_derived Via c (listing_by c.trees ns) w;
})
