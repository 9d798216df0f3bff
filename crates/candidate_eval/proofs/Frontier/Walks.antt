-- Lists of steps of which none decides a check, or a local type does: parts of them, and lists put together.
use Rattle.std.proofs.Common.{◌≡◌, false, List, [], ◌∷◌, ◌++◌}
use Rattle.candidate_eval.specs.Knowability.Orphan.{Item, Step, Class, IsNonLocal, IsSkipped, IsEmpty, IsLocal, IsUncovered, IsBroken, decides}

-- nothing in the list decides
abbrev pub Clear : {S E : Type 0} → (Item E → Class E) → List (Step S E) → Type 0
Clear k [] = Unit {0}
Clear k (x ∷ xs) = (decides (k x.item) ≡ false) × Clear k xs

abbrev pub goes : {E : Type 0} → Class E → Type 0 → Type 0
goes (IsNonLocal t) P = P
goes IsSkipped P = P
goes IsEmpty P = P
goes (IsLocal t) P = Unit {0}
goes _ P = ⊥

-- nothing in the list decides, or a local type does
abbrev pub Good : {S E : Type 0} → (Item E → Class E) → List (Step S E) → Type 0
Good k [] = Unit {0}
Good k (x ∷ xs) = goes (k x.item) (Good k xs)

goes_map : {E : Type 0} (c : Class E) (P Q : Type 0) → (P → Q) → goes c P → goes c Q
goes_map (IsNonLocal t) P Q f g = f g
goes_map IsSkipped P Q f g = f g
goes_map IsEmpty P Q f g = f g
goes_map (IsLocal t) P Q f g = tt
goes_map (IsUncovered t) P Q f g = absurd g
goes_map (IsBroken t) P Q f g = absurd g

goes_on : {E : Type 0} (c : Class E) (P : Type 0) → goes c P → decides c ≡ false → P
goes_on (IsNonLocal t) P g d = g
goes_on IsSkipped P g d = g
goes_on IsEmpty P g d = g
goes_on _ P g d = cc

pub good_left : {S E : Type 0} (k : Item E → Class E) (xs ys : List (Step S E)) → Good k (xs ++ ys) → Good k xs
good_left k [] ys g = tt
good_left k (x ∷ xs) ys g = goes_map (k x.item) _ _ (good_left k xs ys) g

pub good_right : {S E : Type 0} (k : Item E → Class E) (xs ys : List (Step S E)) → Good k (xs ++ ys) → Clear k xs → Good k ys
good_right k [] ys g c = g
good_right k (x ∷ xs) ys g c = good_right k xs ys (goes_on (k x.item) _ g c.0) c.1

pub clear_append : {S E : Type 0} (k : Item E → Class E) (xs ys : List (Step S E)) → Clear k xs → Clear k ys → Clear k (xs ++ ys)
clear_append k [] ys c d = d
clear_append k (x ∷ xs) ys c d = (c.0, clear_append k xs ys c.1 d)

pub clear_left : {S E : Type 0} (k : Item E → Class E) (xs ys : List (Step S E)) → Clear k (xs ++ ys) → Clear k xs
clear_left k [] ys c = tt
clear_left k (x ∷ xs) ys c = (c.0, clear_left k xs ys c.1)

pub clear_right : {S E : Type 0} (k : Item E → Class E) (xs ys : List (Step S E)) → Clear k (xs ++ ys) → Clear k ys
clear_right k [] ys c = c
clear_right k (x ∷ xs) ys c = clear_right k xs ys c.1

-- a class that decides nothing goes on
goes_clear : {E : Type 0} (c : Class E) (P : Type 0) → decides c ≡ false → P → goes c P
goes_clear (IsNonLocal t) P d p = p
goes_clear IsSkipped P d p = p
goes_clear IsEmpty P d p = p
goes_clear _ P d p = cc

pub clear_good : {S E : Type 0} (k : Item E → Class E) (xs : List (Step S E)) → Clear k xs → Good k xs
clear_good k [] c = tt
clear_good k (x ∷ xs) c = goes_clear (k x.item) _ c.0 (clear_good k xs c.1)
