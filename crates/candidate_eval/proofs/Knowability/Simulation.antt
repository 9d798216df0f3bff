-- A view whose states are seen through a map answers as the one that it is seen as.
use Rattle.std.proofs.Common.{◌≡◌, ℕ, zero, suc, Bool, true, false, List, [], ◌∷◌, ◌++◌, Option, Some, None, refl, sym, ◌∙◌, ap, subst, if◌then◌else◌}
use Rattle.ir_trees.specs.declared.ir.heads.Head.{Head}
use Rattle.ir_trees.specs.declared.ir.heads.Head.TheVariants as H
use Rattle.ir_trees.specs.Syntax.Trees.{Forest, none, tree, Tree, is_type}
use Rattle.ir_trees.specs.Declarations.Worlds.{World, Reference}
use Rattle.candidate_eval.specs.Knowability.Orphan.{Seen, Sees, Fails, Sight, View, Item, Step, left, or_empty, walked, looked, visit, over, CrateTest, crate_test, is_local, is_fundamental, InCrate, Class, IsNonLocal, IsSkipped, IsEmpty, IsLocal, IsUncovered, IsBroken, class_of, Answer, NonLocalInput, Checked, decides, decides_again, first_step, entry, entries, second, decided, judged, orphan_answer, Local, Remote, Proper, Passes, UncoveredInput, Faulty, Knowability, Knowable, by_answer, by_proper_check, by_remote_check, local_or_fundamental, knowability}

module _ {S T E : Type 0} (h : S → T) where
  abbrev steps_seen : List (Step S E) → List (Step T E)
  steps_seen [] = []
  steps_seen (x ∷ xs) = record { item = x.item; after = h x.after } ∷ steps_seen xs

  abbrev found_seen : Option (Step S E) → Option (Step T E)
  found_seen None = None
  found_seen (Some x) = Some (record { item = x.item; after = h x.after })

  append_seen : (xs ys : List (Step S E)) → steps_seen (xs ++ ys) ≡ steps_seen xs ++ steps_seen ys
  append_seen [] ys = refl
  append_seen (x ∷ xs) ys = ap (λ (l : List (Step T E)). record { item = x.item; after = h x.after } ∷ l) (append_seen xs ys)

  left_seen : (s : S) (xs : List (Step S E)) → left (h s) (steps_seen xs) ≡ h (left s xs)
  left_seen s [] = refl
  left_seen s (x ∷ xs) = left_seen x.after xs

  empty_seen : (s : S) (xs : List (Step S E)) → or_empty (h s) (steps_seen xs) ≡ steps_seen (or_empty s xs)
  empty_seen s [] = refl
  empty_seen s (x ∷ xs) = refl

  if_seen : (b : Bool) (xs ys : List (Step S E)) (xs' ys' : List (Step T E)) → xs' ≡ steps_seen xs → ys' ≡ steps_seen ys
      → (if b then xs' else ys') ≡ steps_seen (if b then xs else ys)
  if_seen true xs ys xs' ys' e f = e
  if_seen false xs ys xs' ys' e f = f

  walked_seen : (w : World) (x : CrateTest) (deep : S → Forest → List (Step S E)) (deep' : T → Forest → List (Step T E)) (s : S) (d : Head) (a : Forest)
      → deep' (h s) a ≡ steps_seen (deep s a) → walked w x deep' (h s) d a ≡ steps_seen (walked w x deep s d a)
  walked_seen w x deep deep' s (H.Ref m) a e = e
  walked_seen w x deep deep' s (H.Adt i) a e =
      if_seen (is_local w x i.0) _ _ _ _ refl
      (if_seen (is_fundamental w i.0) _ _ _ _ (ap (or_empty (h s)) e ∙ empty_seen s (deep s a)) refl)
  walked_seen w x deep deep' s d a e = refl

  over_seen : (f : S → Tree → List (Step S E)) (f' : T → Tree → List (Step T E)) → ((s : S) (t : Tree) → f' (h s) t ≡ steps_seen (f s t))
      → (s : S) (a : Forest) → over f' (h s) a ≡ steps_seen (over f s a)
  over_seen f f' e s none = refl
  over_seen f f' e s (tree d below rest) =
      let t : Tree = record { head = d; children = below } in
      let here = e s t in
      if_seen (is_type d) _ _ _ _
      (ap (λ (l : List (Step T E)). l ++ over f' (left (h s) l) rest) here
      ∙ (ap (λ (z : T). steps_seen (f s t) ++ over f' z rest) (left_seen s (f s t))
      ∙ (ap (λ (l : List (Step T E)). steps_seen (f s t) ++ l) (over_seen f f' e (left s (f s t)) rest)
      ∙ sym (append_seen (f s t) (over f (left s (f s t)) rest)))))
      (over_seen f f' e s rest)

  entries_seen : (b : Bool) (k : Item E → Class E) (xs : List (Step S E)) → entries b k (steps_seen xs) ≡ entries b k xs
  entries_seen b k [] = refl
  entries_seen b k (x ∷ xs) = ap (λ l. entry b (k x.item) ++ l) (entries_seen false k xs)

  first_seen : (test : Class E → Bool) (k : Item E → Class E) (xs : List (Step S E)) → first_step test k (steps_seen xs) ≡ found_seen (first_step test k xs)
  first_seen test k [] = refl
  first_seen test k (x ∷ xs) = at (test (k x.item)) (first_seen test k xs)
    where
      at : (b : Bool) → first_step test k (steps_seen xs) ≡ found_seen (first_step test k xs)
          → (if b then Some (record { item = x.item; after = h x.after }) else first_step test k (steps_seen xs)) ≡ found_seen (if b then Some x else first_step test k xs)
      at true e = refl
      at false e = e

  -- the same answer, and what is left is seen
  pub record SeenAs (c : Checked S (Answer E)) (d : Checked T (Answer E)) : Type 0 where
    pub answer : d.answer ≡ c.answer
    pub leaves : d.after ≡ h c.after

  second_seen : (k : Item E → Class E) (t : Tree) (s : S) (xs : List (Step S E)) (o : Option (Step S E))
      → SeenAs (second k t s xs o) (second k t (h s) (steps_seen xs) (found_seen o))
  second_seen k t s xs None = record { answer = refl; leaves = left_seen s xs }
  second_seen k t s xs (Some x) = record { answer = refl; leaves = refl }

  module _ (k : Item E → Class E) (again : S → List (Step S E)) (again' : T → List (Step T E)) (r : (s : S) → again' (h s) ≡ steps_seen (again s)) where
    decided_seen : (s : S) (c : Class E) → SeenAs (decided k again s c) (decided k again' (h s) c)
    decided_seen s (IsLocal t) = record { answer = refl; leaves = refl }
    decided_seen s (IsUncovered t) =
        let P : List (Step T E) → Type 0 = λ l. SeenAs (decided k again s (IsUncovered t)) (second k t (h s) l (first_step decides_again k l)) in
        let Q : Option (Step T E) → Type 0 = λ o. SeenAs (decided k again s (IsUncovered t)) (second k t (h s) (steps_seen (again s)) o) in
        subst P (sym (r s)) (subst Q (sym (first_seen decides_again k (again s))) (second_seen k t s (again s) (first_step decides_again k (again s))))
    decided_seen s (IsBroken f) = record { answer = refl; leaves = refl }
    decided_seen s (IsNonLocal t) = record { answer = refl; leaves = refl }
    decided_seen s IsSkipped = record { answer = refl; leaves = refl }
    decided_seen s IsEmpty = record { answer = refl; leaves = refl }

    judged_seen : (s : S) (xs : List (Step S E)) (o : Option (Step S E)) → SeenAs (judged k again s xs o) (judged k again' (h s) (steps_seen xs) (found_seen o))
    judged_seen s xs None = record { answer = ap (λ l. NonLocalInput l) (entries_seen true k xs); leaves = left_seen s xs }
    judged_seen s xs (Some x) = decided_seen x.after (k x.item)

  module _ (v : View S E) (u : View T E) (sim : (s : S) (t : Tree) → u (h s) t ≡ record { seen = (v s t).seen; after = h (v s t).after }) (w : World) (x : CrateTest) where
    looked_seen : (deep : S → Forest → List (Step S E)) (deep' : T → Forest → List (Step T E)) → ((s : S) (a : Forest) → deep' (h s) a ≡ steps_seen (deep s a))
        → (s : S) (z : Seen E) → looked w x deep' (h s) z ≡ steps_seen (looked w x deep s z)
    looked_seen deep deep' e s (Sees t) = walked_seen w x deep deep' s t.head t.children (e s t.children)
    looked_seen deep deep' e s (Fails f) = refl

    visit_seen : (n : ℕ) (s : S) (t : Tree) → visit w x u n (h s) t ≡ steps_seen (visit w x v n s t)
    visit_seen zero s t = refl
    visit_seen (suc n) s t =
        ap (λ (y : Sight T E). looked w x (over (visit w x u n)) y.after y.seen) (sim s t)
        ∙ looked_seen (over (visit w x v n)) (over (visit w x u n)) (over_seen (visit w x v n) (visit w x u n) (visit_seen n)) (v s t).after (v s t).seen

  pub answer_seen : (v : View S E) (u : View T E) → ((s : S) (t : Tree) → u (h s) t ≡ record { seen = (v s t).seen; after = h (v s t).after })
      → (w : World) (c : ℕ) (m : InCrate) (limit : ℕ) (s : S) (a : Forest)
      → SeenAs (orphan_answer w c m v limit s a) (orphan_answer w c m u limit (h s) a)
  answer_seen v u sim w c m limit s a =
      let x = crate_test m c in
      let k = class_of w x m in
      let again : S → List (Step S E) = λ z. over (visit w x v limit) z a in
      let again' : T → List (Step T E) = λ z. over (visit w x u limit) z a in
      let r : (z : S) → again' (h z) ≡ steps_seen (again z) = λ z. over_seen (visit w x v limit) (visit w x u limit) (visit_seen v u sim w x limit) z a in
      let P : List (Step T E) → Type 0 = λ l. SeenAs (orphan_answer w c m v limit s a) (judged k again' (h s) l (first_step decides k l)) in
      let Q : Option (Step T E) → Type 0 = λ o. SeenAs (orphan_answer w c m v limit s a) (judged k again' (h s) (steps_seen (again s)) o) in
      subst P (sym (r s)) (subst Q (sym (first_seen decides k (again s))) (judged_seen k again again' r s (again s) (first_step decides k (again s))))

  -- what is known of impls, likewise
  abbrev known_seen : Checked S (Knowability E) → Checked T (Knowability E)
  known_seen k = record { answer = k.answer; after = h k.after }

  proper_seen : (c : Checked S (Answer E)) (d : Checked T (Answer E)) → SeenAs c d → by_proper_check d ≡ known_seen (by_proper_check c)
  proper_seen c d e =
      ap (λ (a : Answer E). let k : Checked T (Knowability E) = record { answer = by_answer a; after = d.after } in k) e.answer
      ∙ ap (λ (z : T). let k : Checked T (Knowability E) = record { answer = by_answer c.answer; after = z } in k) e.leaves

  own_seen : (b : Bool) (s : S) (c : Checked S (Answer E)) (d : Checked T (Answer E)) → SeenAs c d
      → (if b then record { answer = Knowable; after = h s } else by_proper_check d) ≡ known_seen (if b then record { answer = Knowable; after = s } else by_proper_check c)
  own_seen true s c d e = refl
  own_seen false s c d e = proper_seen c d e

  remote_seen : (own : Bool) (proper : S → Checked S (Answer E)) (proper' : T → Checked T (Answer E)) → ((s : S) → SeenAs (proper s) (proper' (h s)))
      → (s : S) (a : Answer E) → by_remote_check own proper' (h s) a ≡ known_seen (by_remote_check own proper s a)
  remote_seen own proper proper' e s Passes = refl
  remote_seen own proper proper' e s (Faulty f) = refl
  remote_seen own proper proper' e s (NonLocalInput l) = own_seen own s (proper s) (proper' (h s)) (e s)
  remote_seen own proper proper' e s (UncoveredInput t o) = own_seen own s (proper s) (proper' (h s)) (e s)

  pub knowledge_seen : (v : View S E) (u : View T E) → ((s : S) (t : Tree) → u (h s) t ≡ record { seen = (v s t).seen; after = h (v s t).after })
      → (w : World) (c limit : ℕ) (s : S) (r : Reference)
      → knowability w c u limit (h s) r ≡ record { answer = (knowability w c v limit s r).answer; after = h (knowability w c v limit s r).after }
  knowledge_seen v u sim w c limit s r =
      let own = local_or_fundamental w c r.trait in
      let proper : S → Checked S (Answer E) = λ z. orphan_answer w c (Local Proper) v limit z r.arguments in
      let proper' : T → Checked T (Answer E) = λ z. orphan_answer w c (Local Proper) u limit z r.arguments in
      let remote : Checked S (Answer E) = orphan_answer w c Remote v limit s r.arguments in
      let remote' : Checked T (Answer E) = orphan_answer w c Remote u limit (h s) r.arguments in
      let e : SeenAs remote remote' = answer_seen v u sim w c Remote limit s r.arguments in
      ap (λ (a : Answer E). by_remote_check own proper' remote'.after a) e.answer
      ∙ (ap (λ (z : T). by_remote_check own proper' z remote.answer) e.leaves
      ∙ remote_seen own proper proper' (λ z. answer_seen v u sim w c (Local Proper) limit z r.arguments) remote.after remote.answer)
