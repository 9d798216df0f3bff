-- What the search for a supertrait cycle knows stays true at each step, and says at the end whether there is a cycle.
use Rattle.std.proofs.Common.{◌≡◌, ◌≢◌, ℕ, zero, suc, ◌+◌, ◌<◌, ◌≤◌, List, [], ◌∷◌, length, Bool, true, false, Option, Some, None, ◌⊎◌, inl, inr, Ok, Err, Result, refl, sym, ◌∙◌, ap, subst, arith}
use Rattle.std.specs.Prelude.{slice_get, slice_set, replicate, IfOk}
use Rattle.std.specs.declared.alloc.AllocError.{AllocError}
use Rattle.std.proofs.lemmas.List.{length-replicate}
use Rattle.std.proofs.lemmas.Option.{slice_get_within, same_Some}
use Rattle.ir_builder.specs.declared.decl.cycles.Visit.{Visit}
use Rattle.ir_builder.specs.declared.decl.cycles.Visit.TheVariants as V
use Rattle.ir_builder.specs.declared.decl.cycles.Frame.{Frame}
use Rattle.ir_trees.specs.Hierarchy.Supertraits.{Names, IsDirectSupertrait, IsSupertrait, direct, further, IsCyclic, IsRanked}
use Rattle.ir_builder.specs.Calls.Cycles.{Search, visit_of, is_past, is_open, opened, closed, met, met_as, IsIn, LeadsTo, ArePath, Knows, unseen_work, unseen_left, frames_left, left, KeepsSeen, framed, IsNearer, Steps, HasEnded, Ends}

-- what is read after a write
get-set-same : {X : Type 0} (xs : List X) (i : ℕ) (x y : X) → slice_get xs i ≡ Some y → slice_get (slice_set xs i x) i ≡ Some x
get-set-same [] i x y e = absurd cc
get-set-same (z ∷ xs) zero x y e = refl
get-set-same (z ∷ xs) (suc i) x y e = get-set-same xs i x y e

get-set-other : {X : Type 0} (xs : List X) (i j : ℕ) (x : X) → j ≢ i → slice_get (slice_set xs i x) j ≡ slice_get xs j
get-set-other [] i j x n = refl
get-set-other (z ∷ xs) zero zero x n = absurd (n refl)
get-set-other (z ∷ xs) zero (suc j) x n = refl
get-set-other (z ∷ xs) (suc i) zero x n = refl
get-set-other (z ∷ xs) (suc i) (suc j) x n = get-set-other xs i j x (λ e. n (ap suc e))

-- a place before one that is past the end
place-below : {X : Type 0} (xs : List X) (i k : ℕ) (x : X) → slice_get xs i ≡ None → slice_get xs k ≡ Some x → k < i
place-below [] i k x n e = absurd cc
place-below (z ∷ xs) zero k x n e = absurd cc
place-below (z ∷ xs) (suc i) zero x n e = omega arith
place-below (z ∷ xs) (suc i) (suc k) x n e = omega (arith, place-below xs i k x n e)

beyond : {X : Type 0} (xs : List X) (i : ℕ) → slice_get xs i ≡ None → length xs ≤ i
beyond [] i n = omega arith
beyond (z ∷ xs) zero n = absurd cc
beyond (z ∷ xs) (suc i) n = omega (arith, beyond xs i n)

set-keeps-length : {X : Type 0} (xs : List X) (i : ℕ) (x : X) → length (slice_set xs i x) ≡ length xs
set-keeps-length [] i x = refl
set-keeps-length (z ∷ xs) zero x = refl
set-keeps-length (z ∷ xs) (suc i) x = ap suc (set-keeps-length xs i x)

same-or-not : (i j : ℕ) → (i ≡ j) ⊎ (i ≢ j)
same-or-not zero zero = inl refl
same-or-not zero (suc j) = inr (λ e. omega (arith, e))
same-or-not (suc i) zero = inr (λ e. omega (arith, e))
same-or-not (suc i) (suc j) = at (same-or-not i j)
  where
    at : (i ≡ j) ⊎ (i ≢ j) → (suc i ≡ suc j) ⊎ (suc i ≢ suc j)
    at (inl e) = inl (ap suc e)
    at (inr n) = inr (λ e. n (omega (arith, e)))

-- One visit is written over another.
module _ (vs : List Visit) (i : ℕ) (v w : Visit) (was : slice_get vs i ≡ Some w) where
  -- where that was no past one, what is past stays so
  set-past : (j : ℕ) → is_past (Some w) ≡ false → is_past (slice_get vs j) ≡ true → is_past (slice_get (slice_set vs i v) j) ≡ true
  set-past j n p = at (same-or-not j i)
    where
      at : (j ≡ i) ⊎ (j ≢ i) → is_past (slice_get (slice_set vs i v) j) ≡ true
      at (inl e) = absurd (let q = ap is_past (ap (slice_get vs) e ∙ was) in cc)
      at (inr m) = ap is_past (get-set-other vs i j v m) ∙ p

  not-past-here : (j : ℕ) → is_past (Some w) ≡ false → is_past (slice_get vs j) ≡ true → j ≢ i
  not-past-here j n p e = let q = ap is_past (ap (slice_get vs) e ∙ was) in cc

  -- what isn't the new one was there before
  read-back : (j : ℕ) (x : Visit) → (v ≡ x → ⊥) → slice_get (slice_set vs i v) j ≡ Some x → (j ≢ i) × (slice_get vs j ≡ Some x)
  read-back j x n e = at (same-or-not j i)
    where
      at : (j ≡ i) ⊎ (j ≢ i) → (j ≢ i) × (slice_get vs j ≡ Some x)
      at (inl s) = absurd (n (same_Some v x (sym (get-set-same vs i v w was) ∙ (ap (slice_get (slice_set vs i v)) (sym s) ∙ e))))
      at (inr m) = (m, sym (get-set-other vs i j v m) ∙ e)

open-is-not-done : V.Open ≡ V.Done → ⊥
open-is-not-done e = cc

open-is-not-unseen : V.Open ≡ V.Unseen → ⊥
open-is-not-unseen e = cc

done-is-not-open : V.Done ≡ V.Open → ⊥
done-is-not-open e = cc

done-is-not-unseen : V.Done ≡ V.Unseen → ⊥
done-is-not-unseen e = cc

-- one more step at the end
one-more : (names : Names) {i j k : ℕ} → IsSupertrait names i j → IsDirectSupertrait names j k → IsSupertrait names i k
one-more names (direct d) e = further d (direct e)
one-more names (further d rest) e = further d (one-more names rest e)

-- What the search knows of a path stays true where open ones stay open, and past ones past.
path-keeps : (names : Names) (s t : Search) (next : Option ℕ) (fs : List Frame)
    → ((i : ℕ) → IsIn i fs → visit_of s i ≡ Some V.Open → visit_of t i ≡ Some V.Open)
    → ((j : ℕ) → is_past (visit_of s j) ≡ true → is_past (visit_of t j) ≡ true)
    → ArePath names s next fs → ArePath names t next fs
path-keeps names s t next [] o p a = tt
path-keeps names s t next (f ∷ fs) o p a = (
  record { entered = o f.number (inl refl) a.0.entered; leads = a.0.leads; before = λ k j l e. still j (a.0.before k j l e) },
  (a.1.0, path-keeps names s t (Some f.number) fs (λ i q. o i (inr q)) p a.1.1),
)
  where
    still : (j : ℕ) → (is_past (visit_of s j) ≡ true) ⊎ (next ≡ Some j) → (is_past (visit_of t j) ≡ true) ⊎ (next ≡ Some j)
    still j (inl q) = inl (p j q)
    still j (inr e) = inr e

-- The search has come back from a trait that is past.
path-back : (names : Names) (s : Search) (n : ℕ) (fs : List Frame) → is_past (visit_of s n) ≡ true → ArePath names s (Some n) fs → ArePath names s None fs
path-back names s n [] p a = tt
path-back names s n (f ∷ fs) p a =
    (record { entered = a.0.entered; leads = tt; before = λ k j l e. back j (a.0.before k j l e) }, a.1)
  where
    back : (j : ℕ) → (is_past (visit_of s j) ≡ true) ⊎ (Some n ≡ Some j) → (is_past (visit_of s j) ≡ true) ⊎ (None ≡ Some j)
    back j (inl q) = inl q
    back j (inr e) = inl (ap (λ (m : ℕ). is_past (visit_of s m)) (sym (same_Some n j e)) ∙ p)

-- those on a path are open
path-open : (names : Names) (s : Search) (next : Option ℕ) (fs : List Frame) (i : ℕ) → ArePath names s next fs → IsIn i fs → visit_of s i ≡ Some V.Open
path-open names s next [] i a q = absurd q
path-open names s next (f ∷ fs) i a (inl e) = ap (visit_of s) e ∙ a.0.entered
path-open names s next (f ∷ fs) i a (inr q) = path-open names s (Some f.number) fs i a.1.1 q

-- and each leads to where the path goes
path-leads : (names : Names) (s : Search) (next i : ℕ) (fs : List Frame) → ArePath names s (Some next) fs → IsIn i fs → IsSupertrait names i next
path-leads names s next i [] a q = absurd q
path-leads names s next i (f ∷ fs) a (inl e) = subst (λ (m : ℕ). IsSupertrait names m next) (sym e) (direct a.0.leads)
path-leads names s next i (f ∷ fs) a (inr q) = one-more names (path-leads names s f.number i fs a.1.1 q) a.0.leads

-- the path with one more super clause looked at, which names a trait or none
abbrev pub looked_more : Frame → Frame
looked_more f = record { number = f.number; looked = f.looked + 1 }

path-more : (names : Names) (s : Search) (f : Frame) (fs : List Frame) (e : Option ℕ) → slice_get (names f.number) f.looked ≡ Some e
    → ArePath names s None (f ∷ fs) → ArePath names s e (looked_more f ∷ fs)
path-more names s f fs e g a = (record { entered = a.0.entered; leads = to e g; before = upto }, a.1)
  where
    to : (x : Option ℕ) → slice_get (names f.number) f.looked ≡ Some x → LeadsTo names f.number x
    to None h = tt
    to (Some j) h = record { place = f.looked; named = h }

    upto-last : (k : ℕ) → k < f.looked + 1 → (k ≡ f.looked) ⊎ (k ≢ f.looked) → (k < f.looked) ⊎ (k ≡ f.looked)
    upto-last k l (inl e) = inr e
    upto-last k l (inr n) = inl (omega (arith, l, n))

    upto : (k j : ℕ) → k < f.looked + 1 → slice_get (names f.number) k ≡ Some (Some j) → (is_past (visit_of s j) ≡ true) ⊎ (e ≡ Some j)
    upto k j l h = at (upto-last k l (same-or-not k f.looked))
      where
        before-that : (is_past (visit_of s j) ≡ true) ⊎ (None ≡ Some j) → (is_past (visit_of s j) ≡ true) ⊎ (e ≡ Some j)
        before-that (inl q) = inl q
        before-that (inr q) = absurd cc

        at : (k < f.looked) ⊎ (k ≡ f.looked) → (is_past (visit_of s j) ≡ true) ⊎ (e ≡ Some j)
        at (inl m) = before-that (a.0.before k j m h)
        at (inr m) = inr (same_Some e (Some j) (sym g ∙ (ap (slice_get (names f.number)) (sym m) ∙ h)))

pub knows_more : (names : Names) (s : Search) (f : Frame) (fs : List Frame) (e : Option ℕ) → s.frames ≡ f ∷ fs → slice_get (names f.number) f.looked ≡ Some e
    → Knows names s None → Knows names (record { visits = s.visits; frames = looked_more f ∷ fs }) e
knows_more names s f fs e is g k = record {
  path = path-keeps names s (record { visits = s.visits; frames = looked_more f ∷ fs }) e (looked_more f ∷ fs) (λ i q o. o) (λ j p. p) (path-more names s f fs e g (subst (ArePath names s None) is k.path));
  entered = λ i o. head-same i (subst (IsIn i) is (k.entered i o));
  rank = k.rank;
  highest = k.highest;
  bounded = k.bounded;
  done = k.done;
}
  where
    head-same : (i : ℕ) → IsIn i (f ∷ fs) → IsIn i (looked_more f ∷ fs)
    head-same i (inl q) = inl q
    head-same i (inr q) = inr q

-- what is past is not met again
knows-back : (names : Names) (s : Search) (j : ℕ) → is_past (visit_of s j) ≡ true → Knows names s (Some j) → Knows names s None
knows-back names s j p k = record {
  path = path-back names s j s.frames p k.path;
  entered = k.entered;
  rank = k.rank;
  highest = k.highest;
  bounded = k.bounded;
  done = k.done;
}

-- what isn't seen is opened
knows-opened : (names : Names) (s : Search) (n : ℕ) → visit_of s n ≡ Some V.Unseen → Knows names s (Some n) → Knows names (opened n s) None
knows-opened names s n u k = record {
  path = (
    record { entered = get-set-same s.visits n V.Open V.Unseen u; leads = tt; before = λ i j l e. absurd (omega (arith, l)) },
    (
      (λ q. unseen-open (path-open names s (Some n) s.frames n k.path q)),
      path-keeps names s (opened n s) (Some n) s.frames (λ i q o. get-set-other s.visits n i V.Open (other i o) ∙ o) past k.path,
    ),
  );
  entered = λ i o. in-frames i o (same-or-not i n);
  rank = k.rank;
  highest = k.highest;
  bounded = k.bounded;
  done = λ i j d e. (past j (was-done i j d e).0, (was-done i j d e).1);
}
  where
    unseen-open : visit_of s n ≡ Some V.Open → ⊥
    unseen-open o = open-is-not-unseen (same_Some V.Open V.Unseen (sym o ∙ u))

    other : (i : ℕ) → visit_of s i ≡ Some V.Open → i ≢ n
    other i o e = unseen-open (ap (visit_of s) (sym e) ∙ o)

    past : (j : ℕ) → is_past (visit_of s j) ≡ true → is_past (visit_of (opened n s) j) ≡ true
    past j p = set-past s.visits n V.Open V.Unseen u j refl p

    in-frames : (i : ℕ) → visit_of (opened n s) i ≡ Some V.Open → (i ≡ n) ⊎ (i ≢ n) → IsIn i (opened n s).frames
    in-frames i o (inl e) = inl e
    in-frames i o (inr m) = inr (k.entered i (sym (get-set-other s.visits n i V.Open m) ∙ o))

    was-done : (i j : ℕ) → visit_of (opened n s) i ≡ Some V.Done → IsDirectSupertrait names i j → (is_past (visit_of s j) ≡ true) × (k.rank j < k.rank i)
    was-done i j d e = k.done i j (read-back s.visits n V.Open V.Unseen u i V.Done open-is-not-done d).1 e

-- a trait that is met on the path is its own supertrait
pub open_is_cyclic : (names : Names) (s : Search) (j : ℕ) → is_open (visit_of s j) ≡ true → Knows names s (Some j) → IsCyclic names
open_is_cyclic names s j o k = (j, path-leads names s j j s.frames k.path (k.entered j (at-open (visit_of s j) o)))
  where
    at-open : (v : Option Visit) → is_open v ≡ true → v ≡ Some V.Open
    at-open (Some V.Open) e = refl
    at-open (Some V.Unseen) e = absurd cc
    at-open (Some V.Done) e = absurd cc
    at-open None e = absurd cc

-- and any other is met without a cycle
pub knows_met : (names : Names) (s : Search) (j : ℕ) → is_open (visit_of s j) ≡ false → Knows names s (Some j) → Knows names (met j s) None
knows_met names s j o k = of (visit_of s j) refl
  where
    of : (v : Option Visit) → visit_of s j ≡ v → Knows names (met_as j s (visit_of s j)) None
    of None e = subst (λ (v : Option Visit). Knows names (met_as j s v) None) (sym e) (knows-back names s j (ap is_past e) k)
    of (Some V.Done) e = subst (λ (v : Option Visit). Knows names (met_as j s v) None) (sym e) (knows-back names s j (ap is_past e) k)
    of (Some V.Unseen) e = subst (λ (v : Option Visit). Knows names (met_as j s v) None) (sym e) (knows-opened names s j e k)
    of (Some V.Open) e = absurd (let q = sym o ∙ ap is_open e in cc)

-- where no trait is entered, any may be met
pub knows_root : (names : Names) (s : Search) (j : ℕ) → s.frames ≡ [] → Knows names s None → Knows names s (Some j)
knows_root names s j e k = record {
  path = subst (ArePath names s (Some j)) (sym e) tt;
  entered = k.entered;
  rank = k.rank;
  highest = k.highest;
  bounded = k.bounded;
  done = k.done;
}

-- The rank of what is done last is higher than all before.
abbrev raised : {i n : ℕ} → (i ≡ n) ⊎ (i ≢ n) → ℕ → ℕ → ℕ
raised (inl e) h r = suc h
raised (inr m) h r = r

raised-here : (i n h r : ℕ) → i ≡ n → (d : (i ≡ n) ⊎ (i ≢ n)) → raised d h r ≡ suc h
raised-here i n h r s (inl e) = refl
raised-here i n h r s (inr m) = absurd (m s)

raised-other : (i n h r : ℕ) → i ≢ n → (d : (i ≡ n) ⊎ (i ≢ n)) → raised d h r ≡ r
raised-other i n h r m (inl e) = absurd (m e)
raised-other i n h r m (inr o) = refl

raised-bounded : (i n h r : ℕ) → r ≤ h → (d : (i ≡ n) ⊎ (i ≢ n)) → raised d h r ≤ suc h
raised-bounded i n h r l (inl e) = omega arith
raised-bounded i n h r l (inr m) = omega (arith, l)

abbrev rank-after : ℕ → ℕ → (ℕ → ℕ) → ℕ → ℕ
rank-after n h r i = raised (same-or-not i n) h (r i)

-- A trait all of whose super clauses were looked at is done.
module _ (names : Names) (s : Search) (f : Frame) (fs : List Frame) (is : s.frames ≡ f ∷ fs) (g : slice_get (names f.number) f.looked ≡ None) (k : Knows names s None) where
  last-path : ArePath names s None (f ∷ fs)
  last-path = subst (ArePath names s None) is k.path

  last-open : slice_get s.visits f.number ≡ Some V.Open
  last-open = last-path.0.entered

  closed-past : (j : ℕ) → is_past (visit_of s j) ≡ true → is_past (slice_get (slice_set s.visits f.number V.Done) j) ≡ true
  closed-past j p = set-past s.visits f.number V.Done V.Open last-open j refl p

  closed-other : (j : ℕ) → is_past (visit_of s j) ≡ true → j ≢ f.number
  closed-other j p = not-past-here s.visits f.number V.Done V.Open last-open j refl p

  closed-path : ArePath names (closed f.number (record { visits = s.visits; frames = fs })) None fs
  closed-path =
      path-back names (closed f.number (record { visits = s.visits; frames = fs })) f.number fs (ap is_past (get-set-same s.visits f.number V.Done V.Open last-open))
      (path-keeps names s (closed f.number (record { visits = s.visits; frames = fs })) (Some f.number) fs
      (λ i q o. get-set-other s.visits f.number i V.Done (λ e. last-path.1.0 (subst (λ (m : ℕ). IsIn m fs) e q)) ∙ o) closed-past last-path.1.1)

  closed-entered : (i : ℕ) → slice_get (slice_set s.visits f.number V.Done) i ≡ Some V.Open → IsIn i fs
  closed-entered i o = below (subst (IsIn i) is (k.entered i was.1))
    where
      was : (i ≢ f.number) × (visit_of s i ≡ Some V.Open)
      was = read-back s.visits f.number V.Done V.Open last-open i V.Open done-is-not-open o

      below : IsIn i (f ∷ fs) → IsIn i fs
      below (inl e) = absurd (was.0 e)
      below (inr q) = q

  -- its direct supertraits are past
  supers-past : (j : ℕ) → IsDirectSupertrait names f.number j → is_past (visit_of s j) ≡ true
  supers-past j d = at (last-path.0.before d.place j (place-below (names f.number) f.looked d.place (Some j) g d.named) d.named)
    where
      at : (is_past (visit_of s j) ≡ true) ⊎ (None ≡ Some j) → is_past (visit_of s j) ≡ true
      at (inl p) = p
      at (inr e) = absurd cc

  ranked-other : (i : ℕ) → i ≢ f.number → rank-after f.number k.highest k.rank i ≡ k.rank i
  ranked-other i m = raised-other i f.number k.highest (k.rank i) m (same-or-not i f.number)

  closed-done : (i j : ℕ) → slice_get (slice_set s.visits f.number V.Done) i ≡ Some V.Done → IsDirectSupertrait names i j
      → (is_past (slice_get (slice_set s.visits f.number V.Done) j) ≡ true) × (rank-after f.number k.highest k.rank j < rank-after f.number k.highest k.rank i)
  closed-done i j d e = at (same-or-not i f.number)
    where
      last : (m : i ≡ f.number) → is_past (visit_of s j) ≡ true
      last m = supers-past j (subst (λ (x : ℕ). IsDirectSupertrait names x j) m e)

      before : (m : i ≢ f.number) → (is_past (visit_of s j) ≡ true) × (k.rank j < k.rank i)
      before m = k.done i j (sym (get-set-other s.visits f.number i V.Done m) ∙ d) e

      at : (i ≡ f.number) ⊎ (i ≢ f.number)
          → (is_past (slice_get (slice_set s.visits f.number V.Done) j) ≡ true) × (rank-after f.number k.highest k.rank j < rank-after f.number k.highest k.rank i)
      at (inl m) = (
        closed-past j (last m),
        omega (arith, k.bounded j, ranked-other j (closed-other j (last m)), raised-here i f.number k.highest (k.rank i) m (same-or-not i f.number)),
      )
      at (inr m) = (
        closed-past j (before m).0,
        omega (arith, (before m).1, ranked-other j (closed-other j (before m).0), ranked-other i m),
      )

  knows-closed : Knows names (closed f.number (record { visits = s.visits; frames = fs })) None
  knows-closed = record {
    path = closed-path;
    entered = closed-entered;
    rank = rank-after f.number k.highest k.rank;
    highest = suc k.highest;
    bounded = λ i. raised-bounded i f.number k.highest (k.rank i) (k.bounded i) (same-or-not i f.number);
    done = closed-done;
  }

pub knows_closed : (names : Names) (s : Search) (f : Frame) (fs : List Frame) → s.frames ≡ f ∷ fs → slice_get (names f.number) f.looked ≡ None
    → Knows names s None → Knows names (closed f.number (record { visits = s.visits; frames = fs })) None
knows_closed names s f fs is g k = knows-closed names s f fs is g k

-- how much is left where one visit is written over another
unseen-opened : (names : Names) (b i : ℕ) (vs : List Visit) → slice_get vs i ≡ Some V.Unseen
    → unseen_left names b vs ≡ suc (suc (length (names (b + i)))) + unseen_left names b (slice_set vs i V.Open)
unseen-opened names b i [] e = absurd cc
unseen-opened names b zero (v ∷ vs) e =
    let same : v ≡ V.Unseen = same_Some v V.Unseen e in
    let here : unseen_work v (names b) ≡ suc (suc (length (names b))) = ap (λ (x : Visit). unseen_work x (names b)) same in
    let zero-more : length (names (b + 0)) ≡ length (names b) = ap (λ (x : ℕ). length (names x)) (omega arith) in
    omega (arith, here, zero-more)
unseen-opened names b (suc i) (v ∷ vs) e =
    let one-further : length (names (suc b + i)) ≡ length (names (b + suc i)) = ap (λ (x : ℕ). length (names x)) (omega arith) in
    omega (arith, unseen-opened names (suc b) i vs e, one-further)

unseen-closed : (names : Names) (b i : ℕ) (vs : List Visit) → slice_get vs i ≡ Some V.Open → unseen_left names b (slice_set vs i V.Done) ≡ unseen_left names b vs
unseen-closed names b i [] e = absurd cc
unseen-closed names b zero (v ∷ vs) e = ap (λ (x : Visit). unseen_work x (names b) + unseen_left names (suc b) vs) (sym (same_Some v V.Open e))
unseen-closed names b (suc i) (v ∷ vs) e = ap (λ (n : ℕ). unseen_work v (names b) + n) (unseen-closed names (suc b) i vs e)

opened-left : (names : Names) (s : Search) (n : ℕ) → visit_of s n ≡ Some V.Unseen → left names (opened n s) < left names s
opened-left names s n u =
    let same : length (names (0 + n)) ≡ length (names n) = ap (λ (x : ℕ). length (names x)) (omega arith) in
    omega (arith, unseen-opened names 0 n s.visits u, same)

pub met_left : (names : Names) (s : Search) (n : ℕ) → left names (met n s) ≤ left names s
met_left names s n = of (visit_of s n) refl
  where
    of : (v : Option Visit) → visit_of s n ≡ v → left names (met_as n s (visit_of s n)) ≤ left names s
    of None e = subst (λ (v : Option Visit). left names (met_as n s v) ≤ left names s) (sym e) (omega arith)
    of (Some V.Done) e = subst (λ (v : Option Visit). left names (met_as n s v) ≤ left names s) (sym e) (omega arith)
    of (Some V.Open) e = subst (λ (v : Option Visit). left names (met_as n s v) ≤ left names s) (sym e) (omega arith)
    of (Some V.Unseen) e = subst (λ (v : Option Visit). left names (met_as n s v) ≤ left names s) (sym e) (omega (arith, opened-left names s n e))

-- what was seen stays so
pub same_seen : (s : Search) → KeepsSeen s s
same_seen s = record { same = refl; seen = λ i e. e }

pub seen_further : (s t u : Search) → KeepsSeen s t → KeepsSeen t u → KeepsSeen s u
seen_further s t u a b = record { same = b.same ∙ a.same; seen = λ i e. a.seen i (b.seen i e) }

pub met_keeps : (s : Search) (n : ℕ) → KeepsSeen s (met n s)
met_keeps s n = of (visit_of s n) refl
  where
    of : (v : Option Visit) → visit_of s n ≡ v → KeepsSeen s (met_as n s (visit_of s n))
    of None e = subst (λ (v : Option Visit). KeepsSeen s (met_as n s v)) (sym e) (same_seen s)
    of (Some V.Done) e = subst (λ (v : Option Visit). KeepsSeen s (met_as n s v)) (sym e) (same_seen s)
    of (Some V.Open) e = subst (λ (v : Option Visit). KeepsSeen s (met_as n s v)) (sym e) (same_seen s)
    of (Some V.Unseen) e =
        subst (λ (v : Option Visit). KeepsSeen s (met_as n s v)) (sym e)
        (record { same = set-keeps-length s.visits n V.Open; seen = λ i u. (read-back s.visits n V.Open V.Unseen e i V.Unseen open-is-not-unseen u).1 })

-- what was met is seen
pub met_is_seen : (s : Search) (n : ℕ) → visit_of (met n s) n ≡ Some V.Unseen → ⊥
met_is_seen s n u = of (visit_of s n) refl
  where
    of : (v : Option Visit) → visit_of s n ≡ v → ⊥
    of None e = let q : visit_of s n ≡ Some V.Unseen = subst (λ (v : Option Visit). visit_of (met_as n s v) n ≡ Some V.Unseen) e u in cc
    of (Some V.Done) e = let q : visit_of s n ≡ Some V.Unseen = subst (λ (v : Option Visit). visit_of (met_as n s v) n ≡ Some V.Unseen) e u in cc
    of (Some V.Open) e = let q : visit_of s n ≡ Some V.Unseen = subst (λ (v : Option Visit). visit_of (met_as n s v) n ≡ Some V.Unseen) e u in cc
    of (Some V.Unseen) e =
        let q : slice_get (slice_set s.visits n V.Open) n ≡ Some V.Unseen = subst (λ (v : Option Visit). visit_of (met_as n s v) n ≡ Some V.Unseen) e u in
        open-is-not-unseen (same_Some V.Open V.Unseen (sym (get-set-same s.visits n V.Open V.Unseen e) ∙ q))

-- Steps that end in no cycle: a trait is done; a super clause names nothing; it names a trait, which is met.
pub step_closes : (names : Names) (s : Search) (f : Frame) (fs : List Frame) → s.frames ≡ f ∷ fs → slice_get (names f.number) f.looked ≡ None
    → Knows names s None → IsNearer names s (closed f.number (record { visits = s.visits; frames = fs }))
step_closes names s f fs is g k =
    let o : slice_get s.visits f.number ≡ Some V.Open = last-open names s f fs is g k in record {
      knows = knows_closed names s f fs is g k;
      less = omega (arith, unseen-closed names 0 f.number s.visits o, ap (frames_left names) is);
      kept = record { same = set-keeps-length s.visits f.number V.Done; seen = λ i u. (read-back s.visits f.number V.Done V.Open o i V.Unseen done-is-not-unseen u).1 };
    }

more-left : (names : Names) (s : Search) (f : Frame) (fs : List Frame) (e : Option ℕ) → s.frames ≡ f ∷ fs → slice_get (names f.number) f.looked ≡ Some e
    → left names (record { visits = s.visits; frames = looked_more f ∷ fs }) < left names s
more-left names s f fs e is g = omega (arith, slice_get_within (names f.number) f.looked e g, ap (frames_left names) is)

pub step_passes : (names : Names) (s : Search) (f : Frame) (fs : List Frame) → s.frames ≡ f ∷ fs → slice_get (names f.number) f.looked ≡ Some None
    → Knows names s None → IsNearer names s (record { visits = s.visits; frames = looked_more f ∷ fs })
step_passes names s f fs is g k = record {
  knows = knows_more names s f fs None is g k;
  less = more-left names s f fs None is g;
  kept = record { same = refl; seen = λ i e. e };
}

pub step_meets : (names : Names) (s : Search) (f : Frame) (fs : List Frame) (j : ℕ) → s.frames ≡ f ∷ fs → slice_get (names f.number) f.looked ≡ Some (Some j)
    → is_open (visit_of s j) ≡ false → Knows names s None → IsNearer names s (met j (record { visits = s.visits; frames = looked_more f ∷ fs }))
step_meets names s f fs j is g o k =
    let t : Search = record { visits = s.visits; frames = looked_more f ∷ fs } in record {
      knows = knows_met names t j o (knows_more names s f fs (Some j) is g k);
      less = omega (arith, met_left names t j, more-left names s f fs (Some j) is g);
      kept = seen_further s t (met j t) (record { same = refl; seen = λ i e. e }) (met_keeps t j);
    }

pub step_finds : (names : Names) (s : Search) (f : Frame) (fs : List Frame) (j : ℕ) → s.frames ≡ f ∷ fs → slice_get (names f.number) f.looked ≡ Some (Some j)
    → is_open (visit_of s j) ≡ true → Knows names s None → IsCyclic names
step_finds names s f fs j is g o k =
    open_is_cyclic names (record { visits = s.visits; frames = looked_more f ∷ fs }) j o (knows_more names s f fs (Some j) is g k)

pub step_by_meeting : (names : Names) (s t u : Search) (f : Frame) (j : ℕ) (r : Result Bool AllocError) → slice_get (names f.number) f.looked ≡ Some (Some j)
    → t ≡ framed (looked_more f) s → IfOk r (λ b. b ≡ is_open (visit_of t j)) → IfOk r (λ _. u ≡ met j t) → Knows names (framed f s) None
    → IfOk r (Steps names (framed f s) u)
step_by_meeting names s t u f j (Err e) g is o m k = tt
step_by_meeting names s t u f j (Ok true) g is o m k =
    step_finds names (framed f s) f s.frames j refl g (sym (ap (λ (x : Search). is_open (visit_of x j)) is) ∙ sym o) k
step_by_meeting names s t u f j (Ok false) g is o m k =
    subst (IsNearer names (framed f s)) (sym (m ∙ ap (met j) is))
    (step_meets names (framed f s) f s.frames j refl g (sym (ap (λ (x : Search). is_open (visit_of x j)) is) ∙ sym o) k)

-- at the start nothing is seen
unseen-only : (n i : ℕ) (v : Visit) → slice_get (replicate n V.Unseen) i ≡ Some v → v ≡ V.Unseen
unseen-only zero i v e = absurd cc
unseen-only (suc n) zero v e = sym (same_Some V.Unseen v e)
unseen-only (suc n) (suc i) v e = unseen-only n i v e

pub knows_start : (names : Names) (n : ℕ) → Knows names (record { visits = replicate n V.Unseen; frames = [] }) None
knows_start names n = record {
  path = tt;
  entered = λ i o. absurd (open-is-not-unseen (unseen-only n i V.Open o));
  rank = λ i. 0;
  highest = 0;
  bounded = λ i. omega arith;
  done = λ i j d e. absurd (done-is-not-unseen (unseen-only n i V.Done d));
}

-- at the end, where all is seen and no trait is entered, the ranks fall
pub all_seen_ranked : (names : Names) (s : Search) → Knows names s None → s.frames ≡ []
    → ((i : ℕ) → length s.visits ≤ i → names i ≡ []) → ((i : ℕ) → i < length s.visits → visit_of s i ≡ Some V.Unseen → ⊥) → IsRanked names
all_seen_ranked names s k e past seen = record { rank = k.rank; falls = λ i j d. falls i j d (visit_of s i) refl }
  where
    no-super : (i j : ℕ) → IsDirectSupertrait names i j → visit_of s i ≡ None → ⊥
    no-super i j d n = let q = sym (ap (λ (xs : List (Option ℕ)). slice_get xs d.place) (past i (beyond s.visits i n))) ∙ d.named in cc

    falls : (i j : ℕ) → IsDirectSupertrait names i j → (v : Option Visit) → visit_of s i ≡ v → k.rank j < k.rank i
    falls i j d None n = absurd (no-super i j d n)
    falls i j d (Some V.Unseen) n = absurd (seen i (slice_get_within s.visits i V.Unseen n) n)
    falls i j d (Some V.Open) n = absurd (subst (IsIn i) e (k.entered i n))
    falls i j d (Some V.Done) n = (k.done i j n d).1

-- One turn of the loop over all definitions: where what is met next isn't entered already, the search goes on from it.
pub turn_knows : (names : Names) (s t : Search) (n : ℕ) (b : Bool) → Knows names s None → s.frames ≡ [] → b ≡ is_open (visit_of s n) → b ≡ false → t ≡ met n s
    → Knows names t None
turn_knows names s t n b k e o f m = subst (λ (x : Search). Knows names x None) (sym m) (knows_met names s n (sym o ∙ f) (knows_root names s n e k))

-- and all up to it are seen
pub turn_seen : (s t u : Search) (n : ℕ) → ((i : ℕ) → i < n → visit_of s i ≡ Some V.Unseen → ⊥) → t ≡ met n s → KeepsSeen t u
    → (i : ℕ) → i < n + 1 → visit_of u i ≡ Some V.Unseen → ⊥
turn_seen s t u n seen m k i l e = at (same-or-not i n)
  where
    then : visit_of t i ≡ Some V.Unseen
    then = k.seen i e

    at : (i ≡ n) ⊎ (i ≢ n) → ⊥
    at (inl q) = met_is_seen s n (ap (visit_of (met n s)) (sym q) ∙ (ap (λ (x : Search). visit_of x i) (sym m) ∙ then))
    at (inr q) = seen i (omega (arith, l, q)) ((met_keeps s n).seen i (ap (λ (x : Search). visit_of x i) (sym m) ∙ then))

pub turn_length : (s t u : Search) (n : ℕ) → t ≡ met n s → KeepsSeen t u → length u.visits ≡ length s.visits
turn_length s t u n m k = k.same ∙ (ap (λ (x : Search). length x.visits) m ∙ (met_keeps s n).same)

pub none_seen_length : (n : ℕ) → length (replicate n V.Unseen) ≡ n
none_seen_length n = length-replicate n V.Unseen

pub ended : (names : Names) (s t : Search) (b : Bool) → b ≡ false → Ends names s t b → HasEnded names s t
ended names s t b f e = subst (Ends names s t) f e
