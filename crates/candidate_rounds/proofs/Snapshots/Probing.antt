-- Probes that begin and end.
use Rattle.std.proofs.Common.{Bool, true, false, ◌≡◌, ℕ, zero, suc, ◌≤◌, List, [], ◌∷◌, ◌++◌, length, take, drop, refl, sym, ◌∙◌, ap, subst, arith}
use Rattle.std.proofs.Math.Dec.{leb}
use Rattle.std.proofs.Math.Seq.{drop-length}
use Rattle.std.proofs.lemmas.Bool.{leb-true, leb-false}
use Rattle.std.proofs.lemmas.List.{take-append-drop}
use Rattle.ir_trees.specs.Syntax.Nodes.{Extends}
use Rattle.ir_trees.specs.Syntax.Trees.{Tree}
use Rattle.candidate_eval.specs.declared.eval.mode.TypingMode.{TypingMode}
use Rattle.candidate_eval.specs.Judges.States.{with_pending}
use Rattle.candidate_eval.specs.Interface.Evaluators.{pendings_of}
use Rattle.candidate_rounds.specs.declared.rounds.inference.Change.{Change}
use Rattle.candidate_rounds.specs.Evaluators.Inferences.{Inference, begin_pending, before, undone, back_to}
use Rattle.candidate_rounds.specs.Evaluators.Known.{state_of, states_at, AreMarks, IsTidy, StaysTidy, IsKnown, IsConsistent}
use Rattle.candidate_rounds.proofs.Snapshots.Undoing.{IsUndone, undone-trail, back-to-now}
use Rattle.candidate_rounds.proofs.Snapshots.Knowing.{probes-stay, known-back, known-stays, kinds-grown, open-grown}

-- A probe that begins is the newest.
pub probe-begins : (ts : List Tree) (mode : TypingMode) (s t : Inference) (ks : List ℕ) → AreMarks (length s.trail) ks → IsUndone s t
    → states_at ts mode t (length s.trail ∷ ks) ≡ state_of ts mode s ∷ states_at ts mode s ks
probe-begins ts mode s t ks m u =
    ap (λ x. state_of ts mode x ∷ states_at ts mode t ks) (u (length s.trail) (omega arith) ∙ back-to-now s)
    ∙ ap (λ xs. state_of ts mode s ∷ xs) (probes-stay ts mode s t ks m u)

-- Where only later goals are pending, none is.
pub none-pending : (ts : List Tree) (mode : TypingMode) (s : Inference) → state_of ts mode (begin_pending s (length s.goals)) ≡ with_pending (state_of ts mode s) []
none-pending ts mode s = ap (λ gs. with_pending (state_of ts mode s) (pendings_of ts gs)) (drop-length s.goals)

undone-several : (xs ys : List Change) (s : Inference) → undone (xs ++ ys) s ≡ undone xs (undone ys s)
undone-several [] ys s = refl
undone-several (x ∷ xs) ys s = ap (before x) (undone-several xs ys s)

take-drop : (k n : ℕ) (xs : List Change) → k ≤ n → drop k (take n xs) ++ drop n xs ≡ drop k xs
take-drop zero n xs l = take-append-drop n xs
take-drop (suc k) zero xs l = absurd (omega (arith, l))
take-drop (suc k) (suc n) [] l = refl
take-drop (suc k) (suc n) (x ∷ xs) l = take-drop k n xs (omega (arith, l))

take-twice : (k n : ℕ) (xs : List Change) → k ≤ n → take k (take n xs) ≡ take k xs
take-twice zero n xs l = refl
take-twice (suc k) zero xs l = absurd (omega (arith, l))
take-twice (suc k) (suc n) [] l = refl
take-twice (suc k) (suc n) (x ∷ xs) l = ap (λ ys. x ∷ ys) (take-twice k n xs (omega (arith, l)))

-- To go back, and then further back.
pub back-back : (k n : ℕ) (s : Inference) → k ≤ n → back_to k (back_to n s) ≡ back_to k s
back-back k n s l =
    let one = undone-trail (drop k (take n s.trail)) (undone (drop n s.trail) s) (take n s.trail) in
    let two = sym (undone-several (drop k (take n s.trail)) (drop n s.trail) s) ∙ ap (λ x. undone x s) (take-drop k n s.trail l) in
    ap (λ (x : Inference). record x { trail = take k (take n s.trail) }) one
    ∙ (ap (λ (x : Inference). record x { trail = take k (take n s.trail) }) two
    ∙ ap (λ x. record (undone (drop k s.trail) s) { trail = x }) (take-twice k n s.trail l))

-- The others are where they were, once the newest probe has ended.
pub others-stay : (ts : List Tree) (mode : TypingMode) (s : Inference) (n : ℕ) (ks : List ℕ) → AreMarks n ks → states_at ts mode (back_to n s) ks ≡ states_at ts mode s ks
others-stay ts mode s n ks m = go ks n m (omega arith)
  where
    go : (ks : List ℕ) (i : ℕ) → AreMarks i ks → i ≤ n → states_at ts mode (back_to n s) ks ≡ states_at ts mode s ks
    go [] i m l = refl
    go (k ∷ ks) i m l =
        ap (λ x. state_of ts mode x ∷ states_at ts mode (back_to n s) ks) (back-back k n s (omega (arith, m.0, l)))
        ∙ ap (λ xs. state_of ts mode (back_to k s) ∷ xs) (go ks k m.1 (omega (arith, m.0, l)))

length-take : (n : ℕ) (xs : List Change) → n ≤ length xs → length (take n xs) ≡ n
length-take zero xs l = refl
length-take (suc n) [] l = absurd (omega (arith, l))
length-take (suc n) (x ∷ xs) l = ap suc (length-take n xs (omega (arith, l)))

pub marks-left : (s : Inference) (n : ℕ) (ks : List ℕ) → n ≤ length s.trail → AreMarks n ks → AreMarks (length (back_to n s).trail) ks
marks-left s n ks l m = subst (λ i. AreMarks i ks) (sym (length-take n s.trail l)) m

-- What holds whatever is undone, and after a change, holds whatever is undone of that.

back-beyond : (n : ℕ) (s : Inference) → length s.trail ≤ n → back_to n s ≡ s
back-beyond n s l =
    ap (λ x. record (undone x s) { trail = take n s.trail }) (drop-beyond n s.trail l)
    ∙ ap (λ x. record s { trail = x }) (take-beyond n s.trail l)
  where
    drop-beyond : (n : ℕ) (xs : List Change) → length xs ≤ n → drop n xs ≡ []
    drop-beyond zero [] l = refl
    drop-beyond zero (x ∷ xs) l = absurd (omega (arith, l))
    drop-beyond (suc n) [] l = refl
    drop-beyond (suc n) (x ∷ xs) l = drop-beyond n xs (omega (arith, l))

    take-beyond : (n : ℕ) (xs : List Change) → length xs ≤ n → take n xs ≡ xs
    take-beyond zero [] l = refl
    take-beyond zero (x ∷ xs) l = absurd (omega (arith, l))
    take-beyond (suc n) [] l = refl
    take-beyond (suc n) (x ∷ xs) l = ap (λ ys. x ∷ ys) (take-beyond n xs (omega (arith, l)))

pub tidy-after : (ts : List Tree) (s t : Inference) → IsUndone s t → length t.trail ≡ suc (length s.trail) → IsTidy ts t → StaysTidy ts s → StaysTidy ts t
tidy-after ts s t u l f p n = at (leb n (length s.trail)) refl
  where
    at : (b : Bool) → leb n (length s.trail) ≡ b → IsTidy ts (back_to n t)
    at true e = subst (IsTidy ts) (sym (u n (leb-true n (length s.trail) e))) (p n)
    at false e = subst (IsTidy ts) (sym (back-beyond n t (let g = leb-false n (length s.trail) e in omega (arith, g, l)))) f

shorter-than : (k : ℕ) (xs : List Change) → length (take k xs) ≤ k
shorter-than zero xs = omega arith
shorter-than (suc k) [] = omega arith
shorter-than (suc k) (x ∷ xs) = let h = shorter-than k xs in omega (arith, h)

tidy-back : (ts : List Tree) (s : Inference) (k : ℕ) → StaysTidy ts s → StaysTidy ts (back_to k s)
tidy-back ts s k p n = at (leb n k) refl
  where
    at : (b : Bool) → leb n k ≡ b → IsTidy ts (back_to n (back_to k s))
    at true e = subst (IsTidy ts) (sym (back-back n k s (leb-true n k e))) (p n)
    at false e = subst (IsTidy ts) (sym (back-beyond n (back_to k s) (let g = leb-false n k e in let h = shorter-than k s.trail in omega (arith, g, h)))) (p k)

tidy-grown : (ts us : List Tree) (s : Inference) → Extends ts us → IsKnown ts s → IsTidy ts s → IsTidy us s
tidy-grown ts us s x k t = record {
  pending = t.pending;
  kinds = kinds-grown ts us s.variables x k.values t.kinds;
  room = open-grown ts us s.first_open s.end_open 0 s.variables x k.values t.room;
  universes = t.universes;
}

-- A change keeps what holds of all that is kept; and so does going back, and giving more numbers.

pub holds-after : (ts : List Tree) (s t : Inference) (ks : List ℕ) → IsConsistent ts s ks → IsUndone s t → length t.trail ≡ suc (length s.trail) → IsKnown ts t → IsTidy ts t
    → IsConsistent ts t ks
holds-after ts s t ks h u l k f = record {
  known = k;
  marks = later (length s.trail) (length t.trail) ks (omega (arith, l)) h.marks;
  tidy = tidy-after ts s t u l f h.tidy;
}
  where
    later : (n m : ℕ) (ks : List ℕ) → n ≤ m → AreMarks n ks → AreMarks m ks
    later n m [] l a = tt
    later n m (k ∷ ks) l a = (omega (arith, l, a.0), a.1)

pub holds-back : (ts : List Tree) (s : Inference) (n : ℕ) (ks : List ℕ) → IsConsistent ts s (n ∷ ks) → IsConsistent ts (back_to n s) ks
holds-back ts s n ks h = record {
  known = known-back ts s n h.known;
  marks = marks-left s n ks h.marks.0 h.marks.1;
  tidy = tidy-back ts s n h.tidy;
}

pub holds-grown : (ts us : List Tree) (s : Inference) (ks : List ℕ) → Extends ts us → IsConsistent ts s ks → IsConsistent us s ks
holds-grown ts us s ks x h = record { known = known-stays ts us s x h.known; marks = h.marks; tidy = λ n. tidy-grown ts us (back_to n s) x (known-back ts s n h.known) (h.tidy n) }
