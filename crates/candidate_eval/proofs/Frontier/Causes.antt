-- Why a walk stops.
use Rattle.std.proofs.Common.{◌≡◌, ℕ, ◌-◌, ◌<◌, ◌≤◌, ◌⊎◌, inl, inr, Bool, true, false, List, [], ◌∷◌, ◌++◌, length, Result, Ok, Err, refl, sym, ◌∙◌, ap, subst, arith}
use Rattle.std.specs.Fn.{Mut}
use Rattle.std.specs.Borrow.{MutBor}
use Rattle.ir_trees.specs.declared.ir.kinds.Ty.{Ty}
use Rattle.ir_trees.specs.declared.ir.stop.Stop.{Stop}
use Rattle.ir_trees.specs.declared.ir.stop.Stop.TheVariants.{Memory, WalkDepth, Unnameable}
use Rattle.ir_trees.specs.declared.ir.heads.Head.{Head}
use Rattle.ir_trees.specs.declared.ir.heads.Head.TheVariants as H
use Rattle.ir_trees.specs.declared.ir.kinds.AliasKind.{AliasKind}
use Rattle.ir_trees.specs.declared.ir.kinds.AliasKind.TheVariants as AK
use Rattle.ir_trees.specs.Declarations.Context.{Context, Grows}
use Rattle.ir_trees.specs.Syntax.Trees.{Forest, Tree, holds, is_loose}
use Rattle.ir_trees.specs.Declarations.Worlds.{World}
use Rattle.ir_trees.specs.Syntax.Words.{IsTy, ty_tree}
use Rattle.ir_trees.proofs.Growth.Kept.{grows-refl, grows-trans}
use Rattle.candidate_eval.specs.declared.coherence.NormalizeErr.{NormalizeErr}
use Rattle.candidate_eval.specs.declared.coherence.NormalizeErr.TheVariants as N
use Rattle.candidate_eval.specs.declared.coherence.OrphanStop.TheVariants as O
use Rattle.candidate_eval.specs.declared.coherence.table.ViewClass.{ViewClass}
use Rattle.candidate_eval.specs.declared.coherence.table.ViewClass.TheVariants as V
use Rattle.candidate_eval.specs.declared.coherence.walk.EarlyExit.{EarlyExit}
use Rattle.candidate_eval.specs.declared.coherence.walk.EarlyExit.TheVariants as X
use Rattle.candidate_eval.specs.declared.coherence.walk.Walk.{Walk}
use Rattle.candidate_eval.specs.Calls.Exits.{broken_by, exit_of, IsTaken}
use Rattle.candidate_eval.specs.Knowability.Orphan.{InCrate, Local, Remote, Proper, Compat, CrateTest, is_local, principal_passes, is_unnameable}
use Rattle.candidate_eval.specs.Calls.Table.{table, loose_in, projection_in, loose_alias_in, alias_in, owned_in}
use Rattle.candidate_eval.specs.Knowability.Normalizer.{Call, Answers, NoneStops, EndsAtStop, LastIs, Normalizes, IsReached, SeesUnnameable, IsNormalizer, IsFunction, Description, IsStopCause, IsLeftByCalls, IsViewed}
use Rattle.candidate_eval.proofs.Frontier.Calls.{lead-then, reached-same, normalizer-later, function-later}

-- the table says that a view stands in no header only of such heads
loose-named : (m : InCrate) → loose_in m ≡ V.Unnameable → ⊥
loose-named (Local q) e = cc
loose-named Remote e = cc

projection-named : (m : InCrate) → projection_in m ≡ V.Unnameable → ⊥
projection-named (Local Proper) e = cc
projection-named (Local Compat) e = cc
projection-named Remote e = cc

loose-alias-named : (m : InCrate) (k : AliasKind) → loose_alias_in m k ≡ V.Unnameable → ⊥
loose-alias-named m AK.Projection e = projection-named m e
loose-alias-named m AK.Opaque e = loose-named m e
loose-alias-named m AK.Inherent e = loose-named m e
loose-alias-named m AK.Free e = loose-named m e

alias-named : (m : InCrate) (k : AliasKind) (b : Bool) → alias_in m k b ≡ V.Unnameable → ⊥
alias-named m k true e = loose-alias-named m k e
alias-named m k false e = cc

owned-named : (b : Bool) → owned_in b ≡ V.Unnameable → ⊥
owned-named true e = cc
owned-named false e = cc

pub table-unnameable : (w : World) (x : CrateTest) (m : InCrate) (h : Head) (a : Forest) → table w x m h a ≡ V.Unnameable → is_unnameable h ≡ true
table-unnameable w x m (H.FnDef i) a e = refl
table-unnameable w x m (H.Closure i k) a e = refl
table-unnameable w x m (H.Param n) a e = refl
table-unnameable w x m (H.Placeholder u) a e = absurd (loose-named m e)
table-unnameable w x m (H.Bound d) a e = absurd (loose-named m e)
table-unnameable w x m (H.Infer v) a e = absurd (loose-named m e)
table-unnameable w x m (H.Alias k i) a e = absurd (alias-named m k (holds is_loose a) e)
table-unnameable w x m (H.Adt i) a e = absurd (owned-named (is_local w x i.0) e)
table-unnameable w x m (H.Foreign i) a e = absurd (owned-named (is_local w x i.0) e)
table-unnameable w x m H.Dynamic a e = absurd (owned-named (principal_passes w x a) e)
table-unnameable w x m _ a e = cc

-- what a normaliser's stop breaks a walk off with is that stop
pub broken-stop : {E : Type 0} (e : NormalizeErr E) (s : Stop) → broken_by e ≡ X.Broken (O.Stop s) → e ≡ N.Stop s
broken-stop (N.Failed x) s e = cc
broken-stop (N.Stop x) s e = cc

pub stop-broken : {E : Type 0} (e : NormalizeErr E) (s : Stop) → e ≡ N.Stop s → broken_by e ≡ X.Broken (O.Stop s)
stop-broken e s k = ap broken_by k

-- an item stops a walk for want of memory, or since it stands in no header
exit-stop : {E : Type 0} (k : ViewClass) (t : Ty) (x : EarlyExit E) (s : Stop)
    → x ≡ (let y : EarlyExit E = X.Broken (O.Stop s) in y) → x ≡ exit_of k t → (s ≡ Memory) ⊎ ((s ≡ Unnameable) × (k ≡ V.Unnameable))
exit-stop V.NonLocal t x s e f = inl cc
exit-stop V.Skipped t x s e f = inl cc
exit-stop V.Unnameable t x s e f = inr (cc, refl)
exit-stop V.Local t x s e f = cc
exit-stop V.Uncovered t x s e f = cc

pub take-stop : {E : Type 0} (old new : Walk) (k : ViewClass) (t : Ty) (r : Result (Unit {0}) (EarlyExit E)) (s : Stop)
    → IsTaken old new k t r → r ≡ Err (X.Broken (O.Stop s)) → (s ≡ Memory) ⊎ ((s ≡ Unnameable) × (k ≡ V.Unnameable))
take-stop old new k t (Ok u) s a e = cc
take-stop {E} old new k t (Err x) s a e = let y : x ≡ X.Broken (O.Stop s) = cc in exit-stop k t x s y a.0

-- the last of calls
pub last-on : {F C E : Type 0} (P : Call F C E → Type 0) (xs ys : List (Call F C E)) → LastIs P ys → LastIs P (xs ++ ys)
last-on {F} {C} {E} P [] ys h = h
last-on {F} {C} {E} P (x ∷ xs) ys h = at (xs ++ ys) (last-on P xs ys h)
  where
    at : (zs : List (Call F C E)) → LastIs P zs → LastIs P (x ∷ zs)
    at [] k = absurd k
    at (z ∷ zs) k = k

last-tail : {F C E : Type 0} (s : Stop) (x : Call F C E) (zs : List (Call F C E)) → (Answers s x → ⊥) → LastIs (Answers s) (x ∷ zs) → LastIs (Answers s) zs
last-tail s x [] n h = absurd (n h)
last-tail s x (z ∷ zs) n h = h

last-after : {F C E : Type 0} (s : Stop) (xs ys : List (Call F C E)) → NoneStops xs → LastIs (Answers s) (xs ++ ys) → LastIs (Answers s) ys
last-after s [] ys n h = h
last-after s (x ∷ xs) ys n h = last-after s xs ys n.1 (last-tail s x (xs ++ ys) (n.0 s) h)

ends-on : {F C E : Type 0} (xs ys : List (Call F C E)) → NoneStops xs → EndsAtStop ys → EndsAtStop (xs ++ ys)
ends-on [] ys n h = h
ends-on (x ∷ xs) ys n h = (λ s e. absurd (n.0 s e), ends-on xs ys n.1 h)

longer : {F C E : Type 0} (xs ys : List (Call F C E)) → length ys ≤ length (xs ++ ys)
longer [] ys = omega arith
longer (x ∷ xs) ys = let h = longer xs ys in omega (arith, h)

deeper : {F C E : Type 0} (levels : ℕ) (x : Call F C E) (ys : List (Call F C E)) → 0 < levels → levels - 1 ≤ length ys → levels ≤ length (x ∷ ys)
deeper levels x ys h k = omega (arith, h, k)

-- none of the calls answers a stop where the last doesn't
none-of : {F C E : Type 0} (xs : List (Call F C E)) → EndsAtStop xs → ((s : Stop) → LastIs (Answers s) xs → ⊥) → NoneStops xs
none-of [] e n = tt
none-of {F} {C} {E} (x ∷ xs) e n =
    (λ s a. n s (subst (λ (zs : List (Call F C E)). LastIs (Answers s) (x ∷ zs)) (sym (e.0 s a)) a), none-of xs e.1 (λ s h. n s (last-on (Answers s) (x ∷ []) xs h)))

module _ {C F E : Type 0} (context : C → Context) (g : Mut F (MutBor C × (Ty × Unit {0})) (Result Ty (NormalizeErr E) × (MutBor C × Unit {0}))) where
  -- the cause of a stop after calls is one after those and the calls before
  cause-on : (levels more : ℕ) (xs ys : List (Call F C E)) (s : Stop) → (levels ≤ length ys → more ≤ length (xs ++ ys))
      → IsStopCause context g levels ys s → IsStopCause context g more (xs ++ ys) s
  cause-on levels more xs ys s h (inl e) = inl e
  cause-on levels more xs ys s h (inr (inl e)) = inr (inl (e.0, h e.1))
  cause-on levels more xs ys s h (inr (inr (inl e))) = inr (inr (inl (e.0, last-on (SeesUnnameable context g) xs ys e.1)))
  cause-on levels more xs ys s h (inr (inr (inr e))) = inr (inr (inr (last-on (Answers s) xs ys e)))

  -- calls of a part of a walk are those of the walk
  left-on : (levels more : ℕ) (f : F) (c : C) (f1 : F) (c1 : C) (f2 : F) (c2 : C) (P Q : Stop → Type 0) (l : IsReached context g f c f1 c1)
      → Grows (context c) (context c1) → ((ys : List (Call F C E)) → levels ≤ length ys → more ≤ length (l.calls ++ ys)) → ((s : Stop) → P s → Q s) → ((s : Stop) → Q s → P s)
      → IsLeftByCalls context g levels f1 c1 f2 c2 P → IsLeftByCalls context g more f c f2 c2 Q
  left-on levels more f c f1 c1 f2 c2 P Q l h d p q r = record {
    grows = grows-trans (context c) (context c1) (context c2) h r.grows;
    calls = l.calls ++ r.calls;
    lead = lead-then context g l.calls r.calls f c f1 c1 f2 c2 l.lead r.lead;
    ends = ends-on l.calls r.calls l.none r.ends;
    passed_on = λ s h. p s (r.passed_on s (last-after s l.calls r.calls l.none h));
    cause = λ s h. cause-on levels more l.calls r.calls s (d r.calls) (r.cause s (q s h));
  }

  pub left-after : (levels : ℕ) (f : F) (c : C) (f1 : F) (c1 : C) (f2 : F) (c2 : C) (P Q : Stop → Type 0) → IsReached context g f c f1 c1 → Grows (context c) (context c1)
      → ((s : Stop) → P s → Q s) → ((s : Stop) → Q s → P s) → IsLeftByCalls context g levels f1 c1 f2 c2 P → IsLeftByCalls context g levels f c f2 c2 Q
  left-after levels f c f1 c1 f2 c2 P Q l grows p q r =
      left-on levels levels f c f1 c1 f2 c2 P Q l grows (λ ys h. let k = longer l.calls ys in omega (arith, h, k)) p q r

  pub left-same : (levels : ℕ) (f : F) (c : C) (f1 : F) (c1 : C) (P Q : Stop → Type 0)
      → ((s : Stop) → P s → Q s) → ((s : Stop) → Q s → P s) → IsLeftByCalls context g levels f c f1 c1 P → IsLeftByCalls context g levels f c f1 c1 Q
  left-same levels f c f1 c1 P Q p q r = left-after levels f c f c f1 c1 P Q (reached-same context g f c) (grows-refl (context c)) p q r

  -- calls without a stop
  pub left-quietly : (levels : ℕ) (f : F) (c : C) (f1 : F) (c1 : C) (Q : Stop → Type 0) → IsReached context g f c f1 c1 → Grows (context c) (context c1)
      → ((s : Stop) → Q s → ⊥) → IsLeftByCalls context g levels f c f1 c1 Q
  left-quietly levels f c f1 c1 Q l h n = record {
    grows = h;
    calls = l.calls;
    lead = l.lead;
    ends = quiet-ends l.calls l.none;
    passed_on = λ s h. absurd (quiet-last l.calls l.none s h);
    cause = λ s h. absurd (n s h);
  }
    where
      quiet-ends : (xs : List (Call F C E)) → NoneStops xs → EndsAtStop xs
      quiet-ends [] h = tt
      quiet-ends (x ∷ xs) h = (λ s e. absurd (h.0 s e), quiet-ends xs h.1)

      quiet-last : (xs : List (Call F C E)) → NoneStops xs → (s : Stop) → LastIs (Answers s) xs → ⊥
      quiet-last [] h s e = e
      quiet-last (x ∷ xs) h s e = quiet-last xs h.1 s (last-tail s x xs (h.0 s) e)

  -- where the result is no stop a further call may come
  pub left-reached : (levels : ℕ) (f : F) (c : C) (f1 : F) (c1 : C) (P : Stop → Type 0) → IsLeftByCalls context g levels f c f1 c1 P → ((s : Stop) → P s → ⊥)
      → IsReached context g f c f1 c1
  left-reached levels f c f1 c1 P r n = record { calls = r.calls; lead = r.lead; none = none-of r.calls r.ends (λ s h. n s (r.passed_on s h)) }

  -- so it may where a walk or a check went on
  module _ {levels : ℕ} {f : F} {c : C} {f1 : F} {c1 : C} {P : Stop → Type 0} (r : IsLeftByCalls context g levels f c f1 c1 P) (n : (s : Stop) → P s → ⊥) where
    pub normalizer-left : IsNormalizer context g f c → IsNormalizer context g f1 c1
    normalizer-left = normalizer-later context g f c f1 c1 (left-reached levels f c f1 c1 P r n) r.grows

    pub function-left : {V : Type 0} (shows : C → V) (resolve : V → Tree → Tree) (d : Description F C V E) → IsFunction context g shows resolve d f c → IsFunction context g shows resolve d f1 c1
    function-left = function-later context g f c f1 c1 (left-reached levels f c f1 c1 P r n) r.grows

    -- and the calls of both are those of the whole
    pub left-then : {f2 : F} {c2 : C} {R Q : Stop → Type 0} → ((s : Stop) → R s → Q s) → ((s : Stop) → Q s → R s)
        → IsLeftByCalls context g levels f1 c1 f2 c2 R → IsLeftByCalls context g levels f c f2 c2 Q
    left-then {f2 = f2} {c2 = c2} {R = R} {Q = Q} p q w = left-after levels f c f1 c1 f2 c2 R Q (left-reached levels f c f1 c1 P r n) r.grows p q w

  -- no level is left
  pub left-deep : (levels : ℕ) (f : F) (c : C) (Q : Stop → Type 0) → levels ≡ 0 → ((s : Stop) → Q s → s ≡ WalkDepth) → IsLeftByCalls context g levels f c f c Q
  left-deep levels f c Q h d = record {
    grows = grows-refl (context c);
    calls = [];
    lead = (refl, refl);
    ends = tt;
    passed_on = λ s e. absurd e;
    cause = λ s e. inr (inl (d s e, omega (arith, h)));
  }

  -- one call
  module _ (f : F) (c : C) (r : Result Ty (NormalizeErr E)) (f1 : F) (c1 : C) (v : IsViewed context g f c r f1 c1) where
    pub viewed-reached : ((s : Stop) → r ≡ Err (N.Stop s) → ⊥) → IsReached context g f c f1 c1
    viewed-reached n = record { calls = v.call ∷ []; lead = v.lead; none = (λ s e. n s (v.stops s e), tt) }

    -- which has no answer
    pub viewed-nothing : (levels : ℕ) (Q : Stop → Type 0) → Grows (context c) (context c1) → ((s : Stop) → r ≡ Err (N.Stop s) → Q s) → ((s : Stop) → Q s → r ≡ Err (N.Stop s))
        → IsLeftByCalls context g levels f c f1 c1 Q
    viewed-nothing levels Q h p q = record {
      grows = h;
      calls = v.call ∷ [];
      lead = v.lead;
      ends = (λ s e. refl, tt);
      passed_on = λ s e. p s (v.stops s e);
      cause = λ s e. inr (inr (inr (v.stopped s (q s e))));
    }

    -- whose view is an item
    pub viewed-item : (levels : ℕ) (u : Ty) → r ≡ Ok u → (k : ViewClass) (Q : Stop → Type 0) → Grows (context c) (context c1)
        → ((s : Stop) → Q s → (s ≡ Memory) ⊎ ((s ≡ Unnameable) × (k ≡ V.Unnameable)))
        → (k ≡ V.Unnameable → is_unnameable (ty_tree (context c1).trees u).head ≡ true) → IsLeftByCalls context g levels f c f1 c1 Q
    viewed-item levels u e k Q grows q n = record {
      grows = grows;
      calls = v.call ∷ [];
      lead = v.lead;
      ends = (λ s h. refl, tt);
      passed_on = λ s h. absurd (ok-no-stop s u e (v.stops s h));
      cause = λ s h. at s (q s h);
    }
      where
        ok-no-stop : (s : Stop) (u : Ty) → r ≡ Ok u → r ≡ Err (N.Stop s) → ⊥
        ok-no-stop s u a b = cc

        at : (s : Stop) → (s ≡ Memory) ⊎ ((s ≡ Unnameable) × (k ≡ V.Unnameable)) → IsStopCause context g levels (v.call ∷ []) s
        at s (inl h) = inl h
        at s (inr h) = inr (inr (inl (h.0, v.unnameable u e (n h.1))))

    -- below whose view the walk goes on
    pub viewed-below : (levels : ℕ) (u : Ty) → r ≡ Ok u → 0 < levels → (f2 : F) (c2 : C) (P Q : Stop → Type 0) → Grows (context c) (context c1)
        → ((s : Stop) → P s → Q s) → ((s : Stop) → Q s → P s) → IsLeftByCalls context g (levels - 1) f1 c1 f2 c2 P → IsLeftByCalls context g levels f c f2 c2 Q
    viewed-below levels u e h f2 c2 P Q grows p q w =
        left-on (levels - 1) levels f c f1 c1 f2 c2 P Q (record { calls = v.call ∷ []; lead = v.lead; none = (λ s k. let x = v.stops s k in cc, tt) }) grows
        (λ ys k. deeper levels v.call ys h k) p q w

  -- a view that is the normaliser's answer, or the type itself
  pub viewed-answer : (f : F) (c : C) (t : Ty) (r : Result Ty (NormalizeErr E)) (f' : F) (c' : C) → IsTy (context c).trees t → Normalizes context g f c t r f' c'
      → IsViewed context g f c r f' c'
  viewed-answer f c t r f' c' i h = record {
    call = record { by = f; before = c; type = t; answer = r; next = f'; after = c' };
    lead = (refl, refl, record { at_type = i; call = h }, (refl, refl));
    stops = λ s e. e;
    stopped = λ s e. e;
    unnameable = λ u e k. record { seen = u; answers = e; is = inl k };
  }

  pub viewed-itself : (f : F) (c : C) (t : Ty) (r : Result Ty (NormalizeErr E)) (f' : F) (c' : C) → IsTy (context c).trees t → Normalizes context g f c t r f' c'
      → (v : Ty) → r ≡ Ok v → ty_tree (context c').trees t ≡ ty_tree (context c).trees t → IsViewed context g f c (Ok t) f' c'
  viewed-itself f c t r f' c' i h v e same = record {
    call = record { by = f; before = c; type = t; answer = r; next = f'; after = c' };
    lead = (refl, refl, record { at_type = i; call = h }, (refl, refl));
    stops = λ s k. cc;
    stopped = λ s k. cc;
    unnameable = λ u k j. record { seen = v; answers = e; is = inr (here u k j) };
  }
    where
      here : (u : Ty) → Ok t ≡ (let y : Result Ty (NormalizeErr E) = Ok u in y) → is_unnameable (ty_tree (context c').trees u).head ≡ true → is_unnameable (ty_tree (context c).trees t).head ≡ true
      here u k j =
          let m : t ≡ u = cc in
          ap (λ (x : Tree). is_unnameable x.head) (sym same) ∙ (ap (λ (x : Ty). is_unnameable (ty_tree (context c').trees x).head) m ∙ j)
