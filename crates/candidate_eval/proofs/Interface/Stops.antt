-- Which results are stops, in words that answers can give without a search among all that they know.
use Rattle.std.proofs.Common.{◌≡◌, ◌≢◌, ◌<◌, ℕ, ◌-◌, suc, List, Result, Ok, Err, sym, ◌∙◌, ap, subst, arith}
use Rattle.std.specs.Prelude.{OnOk}
use Rattle.ir_trees.specs.Syntax.Trees.{Tree}
use Rattle.ir_trees.specs.declared.ir.kinds.Ty.{Ty}
use Rattle.ir_trees.specs.declared.ir.stop.Stop.{Stop}
use Rattle.candidate_eval.specs.declared.coherence.NormalizeErr.{NormalizeErr}
use Rattle.candidate_eval.specs.declared.coherence.NormalizeErr.TheVariants as N
use Rattle.candidate_eval.specs.declared.coherence.OrphanStop.{OrphanStop}
use Rattle.candidate_eval.specs.declared.coherence.OrphanStop.TheVariants as O
use Rattle.candidate_eval.specs.declared.coherence.walk.EarlyExit.{EarlyExit}
use Rattle.candidate_eval.specs.declared.coherence.walk.EarlyExit.TheVariants as X
use Rattle.candidate_eval.specs.Calls.Exits.{broken_by}
use Rattle.candidate_eval.specs.Knowability.Normalizer.{StopsWith}
use Rattle.candidate_eval.specs.Calls.Walk.{IsExit}
use Rattle.candidate_eval.proofs.Frontier.Causes.{broken-stop, stop-broken}

-- what an error that is passed on says
pub passed-error : {A E : Type 0} (r : Result A E) (x y z : E) → r ≡ Err x → x ≡ y → r ≡ Err z → y ≡ z
passed-error r x y z e f k = cc

-- a normaliser's answer is no stop
pub view-ends : {E : Type 0} (t : Ty) (s : Stop) → (let r : Result Ty (NormalizeErr E) = Ok t in r ≡ Err (N.Stop s)) → ⊥
view-ends t s e = cc

-- a normaliser's stop breaks a walk off
module _ {A E : Type 0} (r : Result A (EarlyExit E)) (x : EarlyExit E) (y : NormalizeErr E) where
  pub view-stops : r ≡ Err x → x ≡ broken_by y → (s : Stop) → (let n : Result Ty (NormalizeErr E) = Err y in n ≡ Err (N.Stop s)) → r ≡ Err (X.Broken (O.Stop s))
  view-stops e f s k = let n : y ≡ N.Stop s = cc in e ∙ ap Err (f ∙ stop-broken y s n)

  pub stops-view : r ≡ Err x → x ≡ broken_by y → (s : Stop) → r ≡ Err (X.Broken (O.Stop s)) → (let n : Result Ty (NormalizeErr E) = Err y in n ≡ Err (N.Stop s))
  stops-view e f s k = ap Err (broken-stop y s (passed-error r x (broken_by y) _ e f k))

-- a walk that goes on, or finds a type, does not stop
module _ {A E : Type 0} where
  pub walk-goes-on : (a : A) (s : Stop) → (let r : Result A (EarlyExit E) = Ok a in r ≡ Err (X.Broken (O.Stop s))) → ⊥
  walk-goes-on a s e = cc

  pub local-ends : (x : EarlyExit E) (t : Ty) → x ≡ X.Local t → (s : Stop) → (let r : Result A (EarlyExit E) = Err x in r ≡ Err (X.Broken (O.Stop s))) → ⊥
  local-ends x t i s e = cc

  pub uncovered-ends : (x : EarlyExit E) (t : Ty) → x ≡ X.Uncovered t → (s : Stop) → (let r : Result A (EarlyExit E) = Err x in r ≡ Err (X.Broken (O.Stop s))) → ⊥
  uncovered-ends x t i s e = cc

  pub deep-ends : (z s : Stop) → (let r : Result A (EarlyExit E) = Err (X.Broken (O.Stop z)) in r ≡ Err (X.Broken (O.Stop s))) → s ≡ z
  deep-ends z s e = cc

pub local-is-no-stop : {E : Type 0} (t : Ty) (s : Stop) → (let x : EarlyExit E = X.Local t in x ≡ X.Broken (O.Stop s)) → ⊥
local-is-no-stop t s e = cc

pub uncovered-is-no-stop : {E : Type 0} (t : Ty) (s : Stop) → (let x : EarlyExit E = X.Uncovered t in x ≡ X.Broken (O.Stop s)) → ⊥
uncovered-is-no-stop t s e = cc

pub broken-stops : {A E : Type 0} (o : OrphanStop E) (s : Stop) → X.Broken o ≡ X.Broken (O.Stop s) → StopsWith {A = A} {E = E} (Err o) s
broken-stops o s e = let k : o ≡ O.Stop s = cc in ap Err k

-- a walk's stop is the check's
module _ {A B E : Type 0} (x : EarlyExit E) (o : OrphanStop E) where
  pub walk-stops : x ≡ X.Broken o → (s : Stop) → (let r : Result A (EarlyExit E) = Err x in r ≡ Err (X.Broken (O.Stop s))) → StopsWith {A = B} {E = E} (Err o) s
  walk-stops i s e = let k : o ≡ O.Stop s = cc in ap Err k

  pub stops-walk : x ≡ X.Broken o → (s : Stop) → StopsWith {A = B} {E = E} (Err o) s → (let r : Result A (EarlyExit E) = Err x in r ≡ Err (X.Broken (O.Stop s)))
  stops-walk i s e = let k : o ≡ O.Stop s = cc in ap Err (i ∙ ap X.Broken k)

-- the second walk's answer is no stop, and its stop is the check's
pub second-ends : {A : Type 0} (a : A) (s : Stop) → (let r : Result A Stop = Ok a in r ≡ Err s) → ⊥
second-ends a s e = cc

pub second-stops : {A B E : Type 0} (z s : Stop) → (let r : Result A Stop = Err z in r ≡ Err s) → StopsWith {A = B} {E = E} (Err (O.Stop z)) s
second-stops z s e = let k : z ≡ s = cc in ap Err (ap O.Stop k)

pub stops-second : {A B E : Type 0} (z s : Stop) → StopsWith {A = B} {E = E} (Err (O.Stop z)) s → (let r : Result A Stop = Err z in r ≡ Err s)
stops-second z s e = let k : z ≡ s = cc in ap Err k

-- a check's answer is no stop
pub check-ends : {A E : Type 0} (a : A) (s : Stop) → StopsWith {A = A} {E = E} (Ok a) s → ⊥
check-ends a s e = cc

pub answers-alike : {A B E : Type 0} (a : A) (b : B) (s : Stop) → StopsWith {A = A} {E = E} (Ok a) s → StopsWith {A = B} {E = E} (Ok b) s
answers-alike a b s e = absurd (check-ends a s e)

-- a check's stop that is passed on
module _ {A B E : Type 0} (r : Result B (OrphanStop E)) (x y : OrphanStop E) where
  pub check-stops : r ≡ Err x → x ≡ y → (s : Stop) → StopsWith {A = A} {E = E} (Err y) s → StopsWith r s
  check-stops e f s k = let n : y ≡ O.Stop s = cc in e ∙ ap Err (f ∙ n)

  pub stops-check : r ≡ Err x → x ≡ y → (s : Stop) → StopsWith r s → StopsWith {A = A} {E = E} (Err y) s
  stops-check e f s k = ap Err (passed-error r x y (O.Stop s) e f k)

-- what holds after any result holds after an answer
pub on-answer : {A E : Type 0} {P : Type 0} (r : Result A E) → P → OnOk r P
on-answer (Ok a) p = p
on-answer (Err x) p = tt

pub is-answer : {A E : Type 0} (a : A) (x : E) → (let r : Result A E = Ok a in r ≡ Err x) → ⊥
is-answer a x e = cc

-- what breaks a walk off at its depth, or by the normaliser, is no uncovered type
pub depth-covers : {A E : Type 0} (s : Stop) (t : Ty) → (let r : Result A (EarlyExit E) = Err (X.Broken (O.Stop s)) in r ≡ Err (X.Uncovered t)) → ⊥
depth-covers s t e = cc

pub broken-exit : {E : Type 0} (ts : List Tree) (e : NormalizeErr E) → IsExit ts (broken_by e)
broken-exit ts (N.Failed x) = tt
broken-exit ts (N.Stop s) = tt

pub some-level : (n : ℕ) → n ≢ 0 → 0 < n
some-level n h = omega (arith, h)

-- a level is left
pub level-left : (n : ℕ) → n ≢ 0 → n ≡ suc (n - 1)
level-left n h = omega (arith, h)

-- what holds of what an arm leaves holds of what the match leaves
pub after-match : {A B C D : Type 0} (P : A → B → C → D → Type 0) {a a' : A} {b b' : B} {c c' : C} {d d' : D} → a ≡ a' → b ≡ b' → c ≡ c' → d ≡ d' → P a' b' c' d' → P a b c d
after-match {A} {B} {C} {D} P {a} {a'} {b} {b'} {c} {c'} {d} {d'} i j k l h =
    let at_a : A → Type 0 = λ x. P x b' c' d' in
    let at_b : B → Type 0 = λ x. P a x c' d' in
    let at_c : C → Type 0 = λ x. P a b x d' in
    let at_d : D → Type 0 = λ x. P a b c x in
    subst at_d (sym l) (subst at_c (sym k) (subst at_b (sym j) (subst at_a (sym i) h)))
