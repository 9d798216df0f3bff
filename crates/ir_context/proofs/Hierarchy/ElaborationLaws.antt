-- What an elaboration is: it begins with the clauses, has none twice, has all that its clauses imply, and nothing else.
use Rattle.std.proofs.Common.{◌≡◌, List, [], ◌∷◌, ◌++◌, Bool, true, false, refl, sym, ◌∙◌, ap, subst, append_assoc}
use Rattle.std.specs.Prelude.{if◌then◌else◌, ◌||◌}
use Rattle.std.specs.List.{IsDistinct, AllByRecursion}
use Rattle.std.proofs.lemmas.List.{append-nil}
use Rattle.std.proofs.lemmas.List.Folds.{list_any-append}
use Rattle.ir_trees.specs.Syntax.Trees.{Tree}
use Rattle.ir_trees.specs.Hierarchy.Elaboration.{SuperClauses, implied_by, same_tree, lists, unlisted, Elaborates, ended, step, AreListed, HasImplied, IsImplied, by, AreImplied}
use Rattle.ir_context.proofs.Hierarchy.Elaboration.{tree_itself}
use Rattle.ir_trees.proofs.Instantiation.Folding.{or-left, or-right}

or-first : (a b : Bool) → a ≡ true → a || b ≡ true
or-first true b e = refl
or-first false b e = absurd cc

or-second : (a b : Bool) → b ≡ true → a || b ≡ true
or-second true b e = refl
or-second false b e = e

listed-first : (xs ys : List Tree) (t : Tree) → lists xs t ≡ true → lists (xs ++ ys) t ≡ true
listed-first xs ys t e = list_any-append (λ u. same_tree u t) xs ys ∙ or-first (lists xs t) (lists ys t) e

listed-last : (xs : List Tree) (t : Tree) → lists (xs ++ t ∷ []) t ≡ true
listed-last xs t = list_any-append (λ u. same_tree u t) xs (t ∷ []) ∙ or-second (lists xs t) (lists (t ∷ []) t) (or-first (same_tree t t) false (tree_itself t))

-- what is listed stays listed
are-listed : (xs ys ts : List Tree) → AreListed xs ts → AreListed (xs ++ ys) ts
are-listed xs ys [] l = tt
are-listed xs ys (t ∷ ts) l = (listed-first xs ys t l.0, are-listed xs ys ts l.1)

have-implied : (supers : SuperClauses) (xs ys ts : List Tree) → HasImplied supers xs ts → HasImplied supers (xs ++ ys) ts
have-implied supers xs ys [] h = tt
have-implied supers xs ys (t ∷ ts) h = (are-listed xs ys (implied_by supers t) h.0, have-implied supers xs ys ts h.1)

have-both : (supers : SuperClauses) (xs ts us : List Tree) → HasImplied supers xs ts → HasImplied supers xs us → HasImplied supers xs (ts ++ us)
have-both supers xs [] us h k = k
have-both supers xs (t ∷ ts) us h k = (h.0, have-both supers xs ts us h.1 k)

-- what is appended makes all of it listed
listed-either : (seen ts us vs : List Tree) (t : Tree) (b : Bool) → lists seen t ≡ b → AreListed (seen ++ us) ts → AreListed ((seen ++ t ∷ []) ++ vs) ts
    → AreListed (seen ++ (if b then us else t ∷ vs)) (t ∷ ts)
listed-either seen ts us vs t true e h k = (listed-first seen us t e, h)
listed-either seen ts us vs t false e h k =
    let P : List Tree → Type 0 = λ xs. AreListed xs (t ∷ ts) in
    subst P (append_assoc seen (t ∷ []) vs) (listed-first (seen ++ t ∷ []) vs t (listed-last seen t), k)

all-listed : (seen ts : List Tree) → AreListed (seen ++ unlisted seen ts) ts
all-listed seen [] = tt
all-listed seen (t ∷ ts) =
    listed-either seen ts (unlisted seen ts) (unlisted (seen ++ t ∷ []) ts) t (lists seen t) refl (all-listed seen ts) (all-listed (seen ++ t ∷ []) ts)

-- one step, as a list
regroup : (walked left more : List Tree) (t : Tree) → (walked ++ t ∷ []) ++ (left ++ more) ≡ (walked ++ t ∷ left) ++ more
regroup walked left more t = append_assoc walked (t ∷ []) (left ++ more) ∙ sym (append_assoc walked (t ∷ left) more)

-- An elaboration has all that its clauses imply.
pub elaboration_is_closed : {supers : SuperClauses} {walked left all : List Tree} → Elaborates supers walked left all → HasImplied supers (walked ++ left) walked → HasImplied supers all all
elaboration_is_closed {supers} {walked} ended h = subst (λ (xs : List Tree). HasImplied supers xs walked) (append-nil walked) h
elaboration_is_closed {supers} {walked} (step {left = left} {t = t} e) h =
    let seen = walked ++ t ∷ left in
    let more = unlisted seen (implied_by supers t) in
    elaboration_is_closed e
    (subst (λ (xs : List Tree). HasImplied supers xs (walked ++ t ∷ [])) (sym (regroup walked left more t))
    (have-both supers (seen ++ more) walked (t ∷ []) (have-implied supers seen more walked h) (all-listed seen (implied_by supers t), tt)))

-- It begins with them.
pub record Begins (xs all : List Tree) : Type 0 where
  pub more : List Tree
  pub is : all ≡ xs ++ more

pub elaboration_begins : {supers : SuperClauses} {walked left all : List Tree} → Elaborates supers walked left all → Begins (walked ++ left) all
elaboration_begins {walked = walked} ended = record { more = []; is = sym (append-nil (walked ++ []) ∙ append-nil walked) }
elaboration_begins {supers} {walked} (step {left = left} {t = t} e) =
    let seen = walked ++ t ∷ left in
    let more = unlisted seen (implied_by supers t) in
    let b = elaboration_begins e in
    record { more = more ++ b.more; is = b.is ∙ (ap (λ (xs : List Tree). xs ++ b.more) (regroup walked left more t) ∙ append_assoc seen more b.more) }

-- Nothing else is in it.
pub implied-listed : (supers : SuperClauses) (start : List Tree) (t : Tree) → IsImplied supers start t → (us : List Tree) → AreListed (implied_by supers t) us → AreImplied supers start us
implied-listed supers start t i [] l = tt
implied-listed supers start t i (u ∷ us) l = (by i l.0, implied-listed supers start t i us l.1)

pub each-listed : (seen ts : List Tree) → AreListed (seen ++ ts) ts
each-listed seen [] = tt
each-listed seen (t ∷ ts) =
    let P : List Tree → Type 0 = λ xs. AreListed xs (t ∷ ts) in
    subst P (append_assoc seen (t ∷ []) ts) (listed-first (seen ++ t ∷ []) ts t (listed-last seen t), each-listed (seen ++ t ∷ []) ts)

pub implied-both : (supers : SuperClauses) (start ts us : List Tree) → AreImplied supers start ts → AreImplied supers start us → AreImplied supers start (ts ++ us)
implied-both supers start [] us i j = j
implied-both supers start (t ∷ ts) us i j = (i.0, implied-both supers start ts us i.1 j)

implied-either : (supers : SuperClauses) (start us vs : List Tree) (t : Tree) (b : Bool) → IsImplied supers start t → AreImplied supers start us → AreImplied supers start vs
    → AreImplied supers start (if b then us else t ∷ vs)
implied-either supers start us vs t true i j k = j
implied-either supers start us vs t false i j k = (i, k)

pub implied-unlisted : (supers : SuperClauses) (start seen ts : List Tree) → AreImplied supers start ts → AreImplied supers start (unlisted seen ts)
implied-unlisted supers start seen [] i = tt
implied-unlisted supers start seen (t ∷ ts) i =
    implied-either supers start (unlisted seen ts) (unlisted (seen ++ t ∷ []) ts) t (lists seen t) i.0 (implied-unlisted supers start seen ts i.1)
    (implied-unlisted supers start (seen ++ t ∷ []) ts i.1)

pub elaboration_is_implied : {supers : SuperClauses} (start : List Tree) {walked left all : List Tree} → Elaborates supers walked left all
    → AreImplied supers start walked → AreImplied supers start left → AreImplied supers start all
elaboration_is_implied start ended i j = i
elaboration_is_implied {supers} start {walked} (step {left = left} {t = t} e) i j =
    elaboration_is_implied start e (implied-both supers start walked (t ∷ []) i (j.0, tt))
    (implied-both supers start left (unlisted (walked ++ t ∷ left) (implied_by supers t)) j.1
    (implied-unlisted supers start (walked ++ t ∷ left) (implied_by supers t) (implied-listed supers start t j.0 (implied_by supers t) (each-listed [] (implied_by supers t)))))

-- and nothing twice
all-pushed : (P : Tree → Type 0) (xs : List Tree) (t : Tree) → AllByRecursion P xs → P t → AllByRecursion P (xs ++ t ∷ [])
all-pushed P [] t a p = (p, tt)
all-pushed P (x ∷ xs) t a p = (a.0, all-pushed P xs t a.1 p)

distinct-pushed : (xs : List Tree) (t : Tree) → lists xs t ≡ false → IsDistinct same_tree xs → IsDistinct same_tree (xs ++ t ∷ [])
unfolding IsDistinct
distinct-pushed [] t e d = (tt, tt)
distinct-pushed (x ∷ xs) t e d =
    (all-pushed (λ y. same_tree x y ≡ false) xs t d.0 (or-left (same_tree x t) (lists xs t) e), distinct-pushed xs t (or-right (same_tree x t) (lists xs t) e) d.1)

distinct-if : (seen us vs : List Tree) (t : Tree) (b : Bool) → lists seen t ≡ b → IsDistinct same_tree (seen ++ us) → (lists seen t ≡ false → IsDistinct same_tree ((seen ++ t ∷ []) ++ vs))
    → IsDistinct same_tree (seen ++ (if b then us else t ∷ vs))
distinct-if seen us vs t true i d e = d
distinct-if seen us vs t false i d e = subst (IsDistinct same_tree) (append_assoc seen (t ∷ []) vs) (e i)

distinct-more : (seen ts : List Tree) → IsDistinct same_tree seen → IsDistinct same_tree (seen ++ unlisted seen ts)
distinct-more seen [] d = subst (IsDistinct same_tree) (sym (append-nil seen)) d
distinct-more seen (t ∷ ts) d =
    distinct-if seen (unlisted seen ts) (unlisted (seen ++ t ∷ []) ts) t (lists seen t) refl (distinct-more seen ts d)
    (λ e. distinct-more (seen ++ t ∷ []) ts (distinct-pushed seen t e d))

pub elaboration_is_distinct : {supers : SuperClauses} {walked left all : List Tree} → Elaborates supers walked left all → IsDistinct same_tree (walked ++ left) → IsDistinct same_tree all
elaboration_is_distinct {walked = walked} ended d = subst (IsDistinct same_tree) (append-nil walked) d
elaboration_is_distinct {supers} {walked} (step {left = left} {t = t} e) d =
    let seen = walked ++ t ∷ left in
    elaboration_is_distinct e
    (subst (IsDistinct same_tree) (sym (regroup walked left (unlisted seen (implied_by supers t)) t)) (distinct-more seen (implied_by supers t) d))

-- The elaboration of clauses.
pub start_is_distinct : (ts : List Tree) → IsDistinct same_tree (unlisted [] ts)
unfolding IsDistinct
start_is_distinct ts = distinct-more [] ts tt
