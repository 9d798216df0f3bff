-- What calls of an evaluator keep, one after the other and in a probe.
use Rattle.std.proofs.Common.{◌≡◌, ℕ, subst, sym, ◌∙◌, List, ◌∷◌, Result, Ok, Err, IfErr, OnOk}
use Rattle.ir_trees.specs.Declarations.Context.{Context, Grows}
use Rattle.ir_trees.proofs.Growth.Kept.{grows-trans}
use Rattle.candidate_eval.specs.Judges.States.{State, Judge}
use Rattle.candidate_eval.specs.Interface.Evaluators.{Keeps, KeepsBut, NoFault}

module _ {E F : Type 0} (fixed : E → F) (probes : E → List State) (context : E → Context) where
  pub keeps-trans : (a b c : E) → Keeps fixed probes context a b → Keeps fixed probes context b c → Keeps fixed probes context a c
  keeps-trans a b c g h = record {
    fixed_same = h.fixed_same ∙ g.fixed_same;
    probes_same = h.probes_same ∙ g.probes_same;
    grows = grows-trans (context a) (context b) (context c) g.grows h.grows;
    faults = h.faults ∙ g.faults;
  }

  -- where nothing was done but a context grew
  pub keeps-grown : (a b : E) → fixed b ≡ fixed a → probes b ≡ probes a → Grows (context a) (context b) → NoFault (context a) (context b) → Keeps fixed probes context a b
  keeps-grown a b f p g n = record { fixed_same = f; probes_same = p; grows = g; faults = n }

  -- Before and after a call that puts off none, others put off what they say.

  pub keeps-then : {P Q : List (List ℕ) → List (List ℕ) → Type 0} (a b c : E) → ((xs ys : List (List ℕ)) → P xs ys → Q xs ys) → Keeps fixed probes context a b → KeepsBut P fixed probes context b c
      → KeepsBut Q fixed probes context a c
  keeps-then {P = P} {Q = Q} a b c f g h = record {
    fixed_same = h.fixed_same ∙ g.fixed_same;
    probes_same = h.probes_same ∙ g.probes_same;
    grows = grows-trans (context a) (context b) (context c) g.grows h.grows;
    faults = f _ _ (subst (λ (xs : List (List ℕ)). P xs (context c).delayed_bugs) g.faults h.faults);
  }

  pub then-keeps : {P Q : List (List ℕ) → List (List ℕ) → Type 0} (a b c : E) → ((xs ys : List (List ℕ)) → P xs ys → Q xs ys) → KeepsBut P fixed probes context a b → Keeps fixed probes context b c
      → KeepsBut Q fixed probes context a c
  then-keeps {P = P} {Q = Q} a b c f g h = record {
    fixed_same = h.fixed_same ∙ g.fixed_same;
    probes_same = h.probes_same ∙ g.probes_same;
    grows = grows-trans (context a) (context b) (context c) g.grows h.grows;
    faults = f _ _ (subst (λ (ys : List (List ℕ)). P (context a).delayed_bugs ys) (sym h.faults) g.faults);
  }

  pub keeps-but : {P : List (List ℕ) → List (List ℕ) → Type 0} (a b : E) → ((xs ys : List (List ℕ)) → ys ≡ xs → P xs ys) → Keeps fixed probes context a b → KeepsBut P fixed probes context a b
  keeps-but a b f k = record { fixed_same = k.fixed_same; probes_same = k.probes_same; grows = k.grows; faults = f _ _ k.faults }

  pub keeps-as : {P Q : List (List ℕ) → List (List ℕ) → Type 0} (a b : E) → ((xs ys : List (List ℕ)) → P xs ys → Q xs ys) → KeepsBut P fixed probes context a b → KeepsBut Q fixed probes context a b
  keeps-as a b f k = record { fixed_same = k.fixed_same; probes_same = k.probes_same; grows = k.grows; faults = f _ _ k.faults }

  -- A probe that began and has ended, over what keeps its own probes.
  pub keeps-probe : (old began ran new : E) (S : State) → fixed began ≡ fixed old → Grows (context old) (context began) → NoFault (context old) (context began)
      → probes began ≡ S ∷ probes old → Keeps fixed probes context began ran → fixed new ≡ fixed ran → Grows (context ran) (context new) → NoFault (context ran) (context new)
      → ((T : State) (others : List State) → probes ran ≡ T ∷ others → probes new ≡ others) → Keeps fixed probes context old new
  keeps-probe old began ran new S f g n p k h i m left = record {
    fixed_same = h ∙ (k.fixed_same ∙ f);
    probes_same = left S (probes old) (k.probes_same ∙ p);
    grows = grows-trans (context old) (context ran) (context new) (grows-trans (context old) (context began) (context ran) g k.grows) i;
    faults = m ∙ (k.faults ∙ n);
  }

  -- the same where faults may be put off in it
  pub keeps-but-probe : {P Q : List (List ℕ) → List (List ℕ) → Type 0} (old began ran new : E) (S : State) → ((xs ys : List (List ℕ)) → P xs ys → Q xs ys) → fixed began ≡ fixed old
      → Grows (context old) (context began) → NoFault (context old) (context began)
      → probes began ≡ S ∷ probes old → KeepsBut P fixed probes context began ran → fixed new ≡ fixed ran → Grows (context ran) (context new) → NoFault (context ran) (context new)
      → ((T : State) (others : List State) → probes ran ≡ T ∷ others → probes new ≡ others) → KeepsBut Q fixed probes context old new
  keeps-but-probe {P = P} {Q = Q} old began ran new S w f g n p k h i m left = record {
    fixed_same = h ∙ (k.fixed_same ∙ f);
    probes_same = left S (probes old) (k.probes_same ∙ p);
    grows = grows-trans (context old) (context ran) (context new) (grows-trans (context old) (context began) (context ran) g k.grows) i;
    faults = w _ _ (subst (λ (ys : List (List ℕ)). P (context old).delayed_bugs ys) (sym m) (subst (λ (xs : List (List ℕ)). P xs (context ran).delayed_bugs) n k.faults));
  }

-- what is said of an error that was answered
pub of-error : {A E : Type 0} (r : Result A E) (e : E) (P : E → Type 0) → r ≡ Err e → IfErr r P → P e
of-error {A = A} {E = E} r e P is h = subst (λ (x : Result A E). IfErr x P) is h

-- what holds whatever was answered
pub on-ok : {A E : Type 0} {P : Type 0} (r : Result A E) → P → OnOk r P
on-ok (Ok x) p = p
on-ok (Err e) p = tt

-- The state after a probe has ended is alike the one at which it began.
module _ {E F : Type 0} (fixed : E → F) (probes : E → List State) (judge : F → Judge) (state : E → State) where
  pub alike-probe : (old began ran new : E) → fixed began ≡ fixed old → probes began ≡ state old ∷ probes old → fixed ran ≡ fixed began → probes ran ≡ probes began
      → ((T : State) (others : List State) → probes ran ≡ T ∷ others → (judge (fixed ran)).alike T (state new)) → (judge (fixed old)).alike (state old) (state new)
  alike-probe old began ran new f p kf kp closed = subst (λ (x : F). (judge x).alike (state old) (state new)) (kf ∙ f) (closed (state old) (probes old) (kp ∙ p))

-- What one call keeps, and the next.
pub then : {E F : Type 0} {fixed : E → F} {probes : E → List State} {context : E → Context} {a b c : E} → Keeps fixed probes context a b → Keeps fixed probes context b c → Keeps fixed probes context a c
then {fixed = fixed} {probes = probes} {context = context} {a = a} {b = b} {c = c} g h = keeps-trans fixed probes context a b c g h

-- What making nodes keeps of an evaluator: nothing is done but a context grows.
pub made : {E F P : Type 0} {fixed : E → F} {probes : E → List State} {context : E → Context} {a b : E} → (fixed b ≡ fixed a) × P × (probes b ≡ probes a) × NoFault (context a) (context b)
    → Grows (context a) (context b) → Keeps fixed probes context a b
made r g = record { fixed_same = r.0; probes_same = r.2; grows = g; faults = r.3 }
