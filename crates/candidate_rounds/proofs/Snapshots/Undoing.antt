-- Changes, and what was before them.
use Rattle.std.proofs.Common.{false, Bool, ◌+◌, ◌≡◌, ℕ, zero, suc, ◌<◌, ◌≤◌, min, max, List, [], ◌∷◌, ◌++◌, length, take, drop, set, slice_get, slice_index_or, Option, Some, None, IsSome, ◌↔◌, refl, sym, ◌∙◌, ap, subst, arith}
use Rattle.std.proofs.Math.Seq.{drop-length, take-length}
use Rattle.std.proofs.lemmas.List.{take-append-le, drop-append-le, length-append}
use Rattle.std.specs.Option.{option_to_list}
use Rattle.ir_trees.specs.declared.ir.kinds.Clause.{Clause}
use Rattle.ir_trees.specs.declared.ir.kinds.GenericArg.{GenericArg}
use Rattle.ir_trees.specs.declared.ir.kinds.Goal.{Goal}
use Rattle.ir_trees.specs.declared.ir.kinds.GoalSource.{GoalSource}
use Rattle.ir_trees.specs.declared.ir.kinds.VarKind.{VarKind}
use Rattle.ir_trees.specs.Declarations.Context.{parameter_kind}
use Rattle.candidate_eval.specs.Judges.States.{variable_kind}
use Rattle.candidate_eval.specs.declared.eval.variable.VariableKind.{VariableKind}
use Rattle.candidate_rounds.specs.declared.rounds.inference.Entry.{Entry}
use Rattle.candidate_rounds.specs.declared.rounds.inference.Change.{Change}
use Rattle.candidate_rounds.specs.declared.rounds.inference.Change.TheVariants as C
use Rattle.candidate_rounds.specs.Evaluators.Inferences.{Inference, shorter, with_entry, with_value, with_universe, value_of, universe_of, universe_for, noted, with_variable, with_variables, assign, lower, with_newest, record_region, add, add_all, widen, begin_pending, before, undone, back_to}

-- A variable that is set is changed, and where there is none nothing is.

pub set-with_entry : (es : List Entry) (n : ℕ) (e : Entry) (f : Entry → Entry) → n < length es → e ≡ slice_index_or es n e → set es n (f e) ≡ with_entry es n f
set-with_entry [] n e f l g = absurd (omega arith)
set-with_entry (d ∷ es) zero e f l g = ap (λ x. f x ∷ es) g
set-with_entry (d ∷ es) (suc n) e f l g = ap (λ xs. d ∷ xs) (set-with_entry es n e f (omega arith) g)

pub with_entry-none : (es : List Entry) (n : ℕ) (f : Entry → Entry) → length es ≤ n → with_entry es n f ≡ es
with_entry-none [] n f l = refl
with_entry-none (e ∷ es) zero f l = absurd (omega arith)
with_entry-none (e ∷ es) (suc n) f l = ap (λ xs. e ∷ xs) (with_entry-none es n f (omega arith))

-- what was changed and changed back
pub with_entry-twice : (es : List Entry) (n : ℕ) (f g : Entry → Entry) → ((e : Entry) → slice_get es n ≡ Some e → g (f e) ≡ e) → with_entry (with_entry es n f) n g ≡ es
with_entry-twice [] n f g k = refl
with_entry-twice (e ∷ es) zero f g k = ap (λ x. x ∷ es) (k e refl)
with_entry-twice (e ∷ es) (suc n) f g k = ap (λ xs. e ∷ xs) (with_entry-twice es n f g k)

pub length-with_entry : (es : List Entry) (n : ℕ) (f : Entry → Entry) → length (with_entry es n f) ≡ length es
length-with_entry [] n f = refl
length-with_entry (e ∷ es) zero f = refl
length-with_entry (e ∷ es) (suc n) f = ap suc (length-with_entry es n f)

pub shorter-append : {A : Type 0} (xs : List A) (x : A) → shorter (xs ++ x ∷ []) ≡ xs
shorter-append [] x = refl
shorter-append (y ∷ []) x = refl
shorter-append (y ∷ z ∷ ys) x = ap (λ xs. y ∷ xs) (shorter-append (z ∷ ys) x)

-- what is left once the last is taken off, if there is one
pub popped : {A : Type 0} (xs ys : List A) (o : Option A) (n : ℕ) → n ≡ length xs → xs ≡ ys ++ option_to_list o → (IsSome o ↔ (0 < n)) → shorter xs ≡ ys
popped xs ys (Some x) n l e v = ap shorter e ∙ shorter-append ys x
popped [] [] None n l e v = refl
popped [] (y ∷ ys) None n l e v = cc
popped (x ∷ xs) ys None n l e v = let h = v.1 (omega (arith, l)) in cc

-- The newest of several changes is undone first.
pub undone-append : (cs : List Change) (c : Change) (s : Inference) → undone (cs ++ c ∷ []) s ≡ undone cs (before c s)
undone-append [] c s = refl
undone-append (d ∷ cs) c s = ap (before d) (undone-append cs c s)

-- The trail itself matters nothing to what was before.

before-trail : (c : Change) (s : Inference) (x : List Change) → before c (record s { trail = x }) ≡ record (before c s) { trail = x }
before-trail C.Variable s x = refl
before-trail (C.Value n v) s x = refl
before-trail (C.Universe n u) s x = refl
before-trail (C.NewestUniverse u) s x = refl
before-trail C.Region s x = refl
before-trail C.Goal s x = refl
before-trail (C.Pending n) s x = refl
before-trail (C.Open n m) s x = refl

pub undone-trail : (cs : List Change) (s : Inference) (x : List Change) → undone cs (record s { trail = x }) ≡ record (undone cs s) { trail = x }
undone-trail [] s x = refl
undone-trail (d ∷ cs) s x = ap (before d) (undone-trail cs s x) ∙ before-trail d (undone cs s) x

-- A change that is noted can be undone.
pub back-noted : (s t : Inference) (c : Change) (n : ℕ) → n ≤ length s.trail → t.trail ≡ s.trail → before c t ≡ s → back_to n (noted t c) ≡ back_to n s
back-noted s t c n l same k =
    let d : drop n (t.trail ++ c ∷ []) ≡ drop n s.trail ++ c ∷ [] = ap (λ x. drop n (x ++ c ∷ [])) same ∙ drop-append-le n s.trail (c ∷ []) l in
    let e : take n (t.trail ++ c ∷ []) ≡ take n s.trail = ap (λ x. take n (x ++ c ∷ [])) same ∙ take-append-le n s.trail (c ∷ []) l in
    let all : Inference = noted t c in
    let one : undone (drop n (t.trail ++ c ∷ [])) all ≡ record (undone (drop n s.trail) s) { trail = t.trail ++ c ∷ [] } =
    ap (λ x. undone x all) d ∙ (undone-append (drop n s.trail) c all
    ∙ (ap (undone (drop n s.trail)) (before-trail c t (t.trail ++ c ∷ []) ∙ ap (λ (x : Inference). record x { trail = t.trail ++ c ∷ [] }) k)
    ∙ undone-trail (drop n s.trail) s (t.trail ++ c ∷ []))) in
    ap (λ (x : Inference). record x { trail = take n (t.trail ++ c ∷ []) }) one ∙ ap (λ x. record (undone (drop n s.trail) s) { trail = x }) e

before-keeps-trail : (c : Change) (s : Inference) → (before c s).trail ≡ s.trail
before-keeps-trail C.Variable s = refl
before-keeps-trail (C.Value n v) s = refl
before-keeps-trail (C.Universe n u) s = refl
before-keeps-trail (C.NewestUniverse u) s = refl
before-keeps-trail C.Region s = refl
before-keeps-trail C.Goal s = refl
before-keeps-trail (C.Pending n) s = refl
before-keeps-trail (C.Open n m) s = refl

-- To undo the newest change leaves what was before the others.
pub back-before : (s t : Inference) (c : Change) (n : ℕ) → noted t c ≡ s → n ≤ length t.trail → back_to n (before c t) ≡ back_to n s
back-before s t c n is l =
    let k = before-keeps-trail c t in
    sym (back-noted (before c t) t c n (subst (λ x. n ≤ length x) (sym k) l) (sym k) refl) ∙ ap (back_to n) is

-- Each change of what is known is undone by going back to what was before.

abbrev pub IsUndone : Inference → Inference → Type 0
IsUndone s t = (n : ℕ) → n ≤ length s.trail → back_to n t ≡ back_to n s

pub undo-variable : (s : Inference) (k : VariableKind) (r : Bool) → IsUndone s (with_variable s k r)
undo-variable s k r n l =
    back-noted s (record s { variables = s.variables ++ record { kind = k; universe = universe_for s r; value = None; is_root = r } ∷ [] }) C.Variable n l refl
    (ap (λ x. record s { variables = x }) (shorter-append s.variables _))

pub undo-assign : (s : Inference) (i : ℕ) (v : GenericArg) → IsUndone s (assign s i v)
undo-assign s i v n l =
    back-noted s (record s { variables = with_entry s.variables i (with_value (Some v)) }) (C.Value i (value_of (slice_get s.variables i))) n l refl
    (ap (λ x. record s { variables = x }) (with_entry-twice s.variables i (with_value (Some v)) (with_value (value_of (slice_get s.variables i))) (λ e g. ap (λ o. record e { value = value_of o }) g)))

pub undo-lower : (s : Inference) (i u : ℕ) → IsUndone s (lower s i u)
undo-lower s i u n l =
    back-noted s (record s { variables = with_entry s.variables i (with_universe u) }) (C.Universe i (universe_of (slice_get s.variables i))) n l refl
    (ap (λ x. record s { variables = x }) (with_entry-twice s.variables i (with_universe u) (with_universe (universe_of (slice_get s.variables i))) (λ e g. ap (λ o. record e { universe = universe_of o }) g)))

pub undo-newest : (s : Inference) (u : ℕ) → IsUndone s (with_newest s u)
undo-newest s u n l = back-noted s (record s { newest_universe = u }) (C.NewestUniverse s.newest_universe) n l refl refl

pub undo-region : (s : Inference) (c : Clause) → IsUndone s (record_region s c)
undo-region s c n l = back-noted s (record s { regions = s.regions ++ c ∷ [] }) C.Region n l refl (ap (λ x. record s { regions = x }) (shorter-append s.regions c))

pub undo-goal : (s : Inference) (f : GoalSource) (g : Goal Clause) → IsUndone s (add s f g)
undo-goal s f g n l = back-noted s (record s { goals = s.goals ++ (f, g) ∷ [] }) C.Goal n l refl (ap (λ x. record s { goals = x }) (shorter-append s.goals (f, g)))

pub undo-pending : (s : Inference) (i : ℕ) → IsUndone s (begin_pending s i)
undo-pending s i n l = back-noted s (record s { first_pending = i }) (C.Pending s.first_pending) n l refl refl

pub undo-widen : (s : Inference) (i : ℕ) → IsUndone s (widen s i)
undo-widen s i n l = back-noted s (record s { first_open = min s.first_open i; end_open = max s.end_open (suc i) }) (C.Open s.first_open s.end_open) n l refl refl

pub back-to-now : (s : Inference) → back_to (length s.trail) s ≡ s
back-to-now s =
    ap (λ x. record (undone x s) { trail = take (length s.trail) s.trail }) (drop-length s.trail)
    ∙ ap (λ x. record s { trail = x }) (take-length s.trail)

-- So many of the goals were added: what is left comes to what all come to, and they can be undone.
pub record AddsSoFar (s t : Inference) (f : GoalSource) (gs : List (Goal Clause)) (i : ℕ) : Type 0 where
  pub left : add_all t f (drop i gs) ≡ add_all s f gs
  pub undone : back_to (length s.trail) t ≡ s
  pub longer : length s.trail ≤ length t.trail

pub drop-one : {A : Type 0} (xs : List A) (i : ℕ) (d : A) → i < length xs → drop i xs ≡ slice_index_or xs i d ∷ drop (suc i) xs
drop-one [] i d l = absurd (omega (arith, l))
drop-one (y ∷ ys) zero d l = refl
drop-one (y ∷ ys) (suc i) d l = drop-one ys i d (omega (arith, l))

pub drop-beyond : {A : Type 0} (xs : List A) (i : ℕ) → length xs ≤ i → drop i xs ≡ []
drop-beyond [] zero l = refl
drop-beyond [] (suc i) l = refl
drop-beyond (x ∷ xs) zero l = absurd (omega (arith, l))
drop-beyond (x ∷ xs) (suc i) l = drop-beyond xs i (omega (arith, l))

pub no-adds : (s : Inference) (f : GoalSource) (gs : List (Goal Clause)) → AddsSoFar s s f gs 0
no-adds s f gs = record { left = refl; undone = back-to-now s; longer = omega arith }

pub one-more-add : (s t u : Inference) (f : GoalSource) (gs : List (Goal Clause)) (i : ℕ) (d : Goal Clause) → AddsSoFar s t f gs i → i < length gs → u ≡ add t f (slice_index_or gs i d) → AddsSoFar s u f gs (i + 1)
one-more-add s t u f gs i d a l k = subst (λ x. AddsSoFar s x f gs (i + 1)) (sym k) (record {
  left =
      ap (λ n. add_all (add t f g) f (drop n gs)) (let n : i + 1 ≡ suc i = omega arith in n)
      ∙ (sym (ap (add_all t f) (drop-one gs i d l)) ∙ a.left);
  undone = undo-goal t f g (length s.trail) a.longer ∙ a.undone;
  longer = (let m = a.longer in let n = length-append t.trail (C.Goal ∷ []) in omega (arith, m, n));
})
  where
    g : Goal Clause
    g = slice_index_or gs i d

pub all-added : (s t : Inference) (f : GoalSource) (gs : List (Goal Clause)) (i : ℕ) → AddsSoFar s t f gs i → length gs ≤ i → t ≡ add_all s f gs
all-added s t f gs i a l = ap (add_all t f) (sym (drop-beyond gs i l)) ∙ a.left

-- The same of variables.
pub record VariablesSoFar (s t : Inference) (ks : List VarKind) (i : ℕ) : Type 0 where
  pub left : with_variables t (drop i ks) ≡ with_variables s ks
  pub undone : back_to (length s.trail) t ≡ s
  pub longer : length s.trail ≤ length t.trail

pub no-variables : (s : Inference) (ks : List VarKind) → VariablesSoFar s s ks 0
no-variables s ks = record { left = refl; undone = back-to-now s; longer = omega arith }

pub one-more-variable : (s t u : Inference) (ks : List VarKind) (i : ℕ) (d : VarKind) → VariablesSoFar s t ks i → i < length ks
    → u ≡ with_variable t (variable_kind (parameter_kind (slice_index_or ks i d))) false → VariablesSoFar s u ks (i + 1)
one-more-variable s t u ks i d a l k = subst (λ x. VariablesSoFar s x ks (i + 1)) (sym k) (record {
  left =
      ap (λ n. with_variables (with_variable t kind false) (drop n ks)) (let n : i + 1 ≡ suc i = omega arith in n)
      ∙ (sym (ap (with_variables t) (drop-one ks i d l)) ∙ a.left);
  undone = undo-variable t kind false (length s.trail) a.longer ∙ a.undone;
  longer = (let m = a.longer in let n = length-append t.trail (C.Variable ∷ []) in omega (arith, m, n));
})
  where
    kind : VariableKind
    kind = variable_kind (parameter_kind (slice_index_or ks i d))

pub all-variables : (s t : Inference) (ks : List VarKind) (i : ℕ) → VariablesSoFar s t ks i → length ks ≤ i → t ≡ with_variables s ks
all-variables s t ks i a l = ap (with_variables t) (sym (drop-beyond ks i l)) ∙ a.left
