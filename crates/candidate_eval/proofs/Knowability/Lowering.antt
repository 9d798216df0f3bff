-- A check by the plain normaliser, of trees without values, has the answer of the plain check.
use Rattle.std.proofs.Common.{◌≡◌, ℕ, zero, suc, Bool, true, false, List, [], ◌∷◌, ◌++◌, Option, Some, refl, sym, ◌∙◌, ap, subst, if◌then◌else◌}
use Rattle.ir_trees.specs.declared.ir.heads.Head.{Head}
use Rattle.ir_trees.specs.declared.ir.heads.Head.TheVariants as H
use Rattle.ir_trees.specs.declared.ir.kinds.AliasKind.{AliasKind}
use Rattle.ir_trees.specs.declared.ir.kinds.AliasKind.TheVariants as AK
use Rattle.ir_trees.specs.Syntax.Trees.{Forest, none, tree, Tree, is_type, is_loose, holds}
use Rattle.ir_trees.specs.Declarations.Worlds.{World, Reference}
use Rattle.candidate_eval.specs.Knowability.Orphan.{Refused, Stopped, Seen, Sees, View, is_general, view, plain, Item, Viewed, Empty, Broken, Step, left, or_empty, walked, looked, visit, over, frontier, CrateTest, crate_test, is_local, is_fundamental, InCrate, Local, Remote, Proper, Compat, Class, IsNonLocal, IsSkipped, IsEmpty, IsLocal, IsUncovered, IsBroken, loose_class, projection_class, alias_class, owned_class, principal_passes, view_class, class_of, Answer, Passes, NonLocalInput, UncoveredInput, Faulty, Checked, decides, decides_again, first_step, entry, entries, uncovered, second, decided, judged, orphan_answer, plain_check, Knowable, by_answer, by_proper_check, by_remote_check, local_or_fundamental, knowability, plain_knowability, bare_fault, bare_answer, bare_knowledge}
use Rattle.candidate_eval.specs.Knowability.Laws.{AreResolved}
use Rattle.candidate_eval.proofs.Knowability.Agree.{U, Steps}
use Rattle.candidate_eval.proofs.Knowability.Answers.{judged_if}

-- whatever is refused, it is refused
abbrev pub lower_item : {E : Type 0} → Item E → Item U
lower_item (Viewed t) = Viewed t
lower_item Empty = Empty
lower_item (Broken f) = Broken (bare_fault f)

abbrev pub lower_class : {E : Type 0} → Class E → Class U
lower_class (IsNonLocal t) = IsNonLocal t
lower_class IsSkipped = IsSkipped
lower_class IsEmpty = IsEmpty
lower_class (IsLocal t) = IsLocal t
lower_class (IsUncovered t) = IsUncovered t
lower_class (IsBroken f) = IsBroken (bare_fault f)

loose_lower : (E : Type 0) (m : InCrate) (t : Tree) → lower_class (loose_class {E = E} m t) ≡ loose_class m t
loose_lower E (Local q) t = refl
loose_lower E Remote t = refl

projection_lower : (E : Type 0) (m : InCrate) (t : Tree) → lower_class (projection_class {E = E} m t) ≡ projection_class m t
projection_lower E (Local Proper) t = refl
projection_lower E (Local Compat) t = refl
projection_lower E Remote t = refl

alias_lower : (E : Type 0) (m : InCrate) (k : AliasKind) (t : Tree) → lower_class (alias_class {E = E} m k t) ≡ alias_class m k t
alias_lower E m AK.Projection t = projection_lower E m t
alias_lower E m AK.Opaque t = loose_lower E m t
alias_lower E m AK.Inherent t = loose_lower E m t
alias_lower E m AK.Free t = loose_lower E m t

if_lower : {E : Type 0} (b : Bool) (c d : Class E) (c' d' : Class U) → lower_class c ≡ c' → lower_class d ≡ d'
    → lower_class (if b then c else d) ≡ (if b then c' else d')
if_lower true c d c' d' e f = e
if_lower false c d c' d' e f = f

owned_lower : (E : Type 0) (b : Bool) (t : Tree) → lower_class (owned_class {E = E} b t) ≡ owned_class b t
owned_lower E true t = refl
owned_lower E false t = refl

view_lower : (E : Type 0) (w : World) (x : CrateTest) (m : InCrate) (h : Head) (a : Forest) → lower_class (view_class {E = E} w x m h a) ≡ view_class w x m h a
view_lower E w x m (H.Placeholder u) a = loose_lower E m (record { head = H.Placeholder u; children = a })
view_lower E w x m (H.Bound d) a = loose_lower E m (record { head = H.Bound d; children = a })
view_lower E w x m (H.Infer v) a = loose_lower E m (record { head = H.Infer v; children = a })
view_lower E w x m (H.Alias k i) a =
    let t : Tree = record { head = H.Alias k i; children = a } in
    if_lower (holds is_loose a) (alias_class m k t) (IsNonLocal t) (alias_class m k t) (IsNonLocal t) (alias_lower E m k t) refl
view_lower E w x m (H.Adt i) a = owned_lower E (is_local w x i.0) (record { head = H.Adt i; children = a })
view_lower E w x m (H.Foreign i) a = owned_lower E (is_local w x i.0) (record { head = H.Foreign i; children = a })
view_lower E w x m H.Dynamic a = owned_lower E (principal_passes w x a) (record { head = H.Dynamic; children = a })
view_lower E w x m _ a = refl

class_lower : {E : Type 0} (w : World) (x : CrateTest) (m : InCrate) (i : Item E) → lower_class (class_of w x m i) ≡ class_of w x m (lower_item i)
class_lower {E} w x m (Viewed t) = view_lower E w x m t.head t.children
class_lower w x m Empty = refl
class_lower w x m (Broken f) = refl

decides_lower : {E : Type 0} (c : Class E) → decides c ≡ decides (lower_class c)
decides_lower (IsNonLocal t) = refl
decides_lower IsSkipped = refl
decides_lower IsEmpty = refl
decides_lower (IsLocal t) = refl
decides_lower (IsUncovered t) = refl
decides_lower (IsBroken f) = refl

decides_again_lower : {E : Type 0} (c : Class E) → decides_again c ≡ decides_again (lower_class c)
decides_again_lower (IsNonLocal t) = refl
decides_again_lower IsSkipped = refl
decides_again_lower IsEmpty = refl
decides_again_lower (IsLocal t) = refl
decides_again_lower (IsUncovered t) = refl
decides_again_lower (IsBroken f) = refl

entry_lower : {E : Type 0} (b : Bool) (c : Class E) → entry b c ≡ entry b (lower_class c)
entry_lower b (IsNonLocal t) = refl
entry_lower b IsSkipped = refl
entry_lower b IsEmpty = refl
entry_lower b (IsLocal t) = refl
entry_lower b (IsUncovered t) = refl
entry_lower b (IsBroken f) = refl

uncovered_lower : {E : Type 0} (t : Tree) (c : Class E) → bare_answer (uncovered t c) ≡ uncovered t (lower_class c)
uncovered_lower t (IsLocal u) = refl
uncovered_lower t (IsBroken (Stopped n)) = refl
uncovered_lower t (IsBroken (Refused f)) = refl
uncovered_lower t (IsNonLocal u) = refl
uncovered_lower t IsSkipped = refl
uncovered_lower t IsEmpty = refl
uncovered_lower t (IsUncovered u) = refl

-- the same items, and each leaves the context as it was
record Same {S E : Type 0} (s : S) (x : Step S E) (y : Step U U) : Type 0 where
  item : lower_item x.item ≡ y.item
  leaves : x.after ≡ s

abbrev AreSame : {S E : Type 0} → S → List (Step S E) → List (Step U U) → Type 0
AreSame s [] [] = Unit {0}
AreSame s (x ∷ xs) (y ∷ ys) = Same s x y × AreSame s xs ys
AreSame s _ _ = ⊥

same_append : {S E : Type 0} (s : S) (xs xs' : List (Step S E)) (ys ys' : List (Step U U)) → AreSame s xs ys → AreSame s xs' ys' → AreSame s (xs ++ xs') (ys ++ ys')
same_append s [] xs' [] ys' p q = q
same_append s (x ∷ xs) xs' (y ∷ ys) ys' p q = (p.0, same_append s xs xs' ys ys' p.1 q)
same_append s [] xs' (y ∷ ys) ys' p q = absurd p
same_append s (x ∷ xs) xs' [] ys' p q = absurd p

same_left : {S E : Type 0} (s : S) (xs : List (Step S E)) (ys : List (Step U U)) → AreSame s xs ys → left s xs ≡ s
same_left s [] [] p = refl
same_left s (x ∷ xs) (y ∷ ys) p = ap (λ z. left z xs) p.0.leaves ∙ same_left s xs ys p.1
same_left s [] (y ∷ ys) p = absurd p
same_left s (x ∷ xs) [] p = absurd p

same_empty : {S E : Type 0} (s : S) (u : U) (xs : List (Step S E)) (ys : List (Step U U)) → AreSame s xs ys → AreSame s (or_empty s xs) (or_empty u ys)
same_empty s u [] [] p = (record { item = refl; leaves = refl }, tt)
same_empty s u (x ∷ xs) (y ∷ ys) p = p
same_empty s u [] (y ∷ ys) p = absurd p
same_empty s u (x ∷ xs) [] p = absurd p

same_adt : {S E : Type 0} (s : S) (b f : Bool) (one xs : List (Step S E)) (one' ys : List (Step U U)) → AreSame s one one' → AreSame s xs ys
    → AreSame s (if b then one else (if f then xs else one)) (if b then one' else (if f then ys else one'))
same_adt s true f one xs one' ys p q = p
same_adt s false true one xs one' ys p q = q
same_adt s false false one xs one' ys p q = p

one_item : {S E : Type 0} (s : S) (u : U) (t : Tree) → AreSame {S = S} {E = E} s (record { item = Viewed t; after = s } ∷ []) (record { item = Viewed t; after = u } ∷ [])
one_item s u t = (record { item = refl; leaves = refl }, tt)

same_walked : {S E : Type 0} (w : World) (x : CrateTest) (deep : S → Forest → List (Step S E)) (deep' : U → Forest → List (Step U U)) (s : S) (u : U) (h : Head) (a : Forest)
    → AreSame s (deep s a) (deep' u a) → AreSame s (walked w x deep s h a) (walked w x deep' u h a)
same_walked w x deep deep' s u (H.Ref m) a p = p
same_walked w x deep deep' s u (H.Adt i) a p =
    let t : Tree = record { head = H.Adt i; children = a } in
    same_adt s (is_local w x i.0) (is_fundamental w i.0)
    (record { item = Viewed t; after = s } ∷ []) (or_empty s (deep s a))
    (record { item = Viewed t; after = u } ∷ []) (or_empty u (deep' u a))
    (one_item s u t) (same_empty s u (deep s a) (deep' u a) p)
same_walked w x deep deep' s u h a p = one_item s u (record { head = h; children = a })

both : {A : Type 0} (b : Bool) (x : A) → (if b then x else x) ≡ x
both true x = refl
both false x = refl

plain_view : {S E : Type 0} (resolve : S → Tree → Tree) (s : S) (t : Tree) → resolve s t ≡ t → (view {S = S} {E = E} resolve plain s t).seen ≡ Sees t
plain_view resolve s t e = both (is_general (resolve s t).head) (Sees (resolve s t)) ∙ ap Sees e

same_visit : {S : Type 0} (E : Type 0) (w : World) (x : CrateTest) (resolve : S → Tree → Tree) (s : S) (h : Head) (a : Forest)
    → resolve s (record { head = h; children = a }) ≡ record { head = h; children = a }
    → ((n : ℕ) (u : U) → AreSame s (over (visit {S = S} {E = E} w x (view resolve plain) n) s a) (Steps w x n u a))
    → (n : ℕ) (u : U) → AreSame s (visit {S = S} {E = E} w x (view resolve plain) n s (record { head = h; children = a })) (visit w x plain n u (record { head = h; children = a }))
same_visit E w x resolve s h a r ih zero u = (record { item = refl; leaves = refl }, tt)
same_visit {S} E w x resolve s h a r ih (suc n) u =
    let deep : S → Forest → List (Step S E) = over (visit w x (view resolve plain) n) in
    let goal : Seen E → Type 0 = λ z. AreSame s (looked w x deep s z) (visit w x plain (suc n) u (record { head = h; children = a })) in
    subst goal (sym (plain_view resolve s (record { head = h; children = a }) r))
    (same_walked w x deep (λ v b. Steps w x n v b) s u h a (ih n u))

same_if : {S E : Type 0} (s : S) (b : Bool) (xs xs' : List (Step S E)) (ys ys' : List (Step U U)) → (b ≡ true → AreSame s xs ys) → AreSame s xs' ys'
    → AreSame s (if b then xs else xs') (if b then ys else ys')
same_if s true xs xs' ys ys' p q = p refl
same_if s false xs xs' ys ys' p q = q

same_steps : {S : Type 0} (E : Type 0) (w : World) (x : CrateTest) (resolve : S → Tree → Tree) (s : S) (a : Forest) → AreResolved (resolve s) a
    → (n : ℕ) (u : U) → AreSame {S = S} {E = E} s (over (visit w x (view resolve plain) n) s a) (Steps w x n u a)
same_steps E w x resolve s none r n u = tt
same_steps {S} E w x resolve s (tree h a b) r n u =
    let t : Tree = record { head = h; children = a } in
    let see : View S E = view resolve plain in
    let seen : List (Step S E) = visit w x see n s t in
    let plainly : List (Step U U) = visit w x plain n u t in
    let here : is_type h ≡ true → AreSame s seen plainly =
    λ e. same_visit E w x resolve s h a (r.0 e) (same_steps E w x resolve s a r.1) n u in
    same_if s (is_type h) _ _ _ _
    (λ e. same_append s seen _ plainly _ (here e)
    (subst (λ z. AreSame s (over (visit w x see n) z b) (Steps w x n (left u plainly) b))
    (sym (same_left s seen plainly (here e)))
    (same_steps E w x resolve s b r.2 n (left u plainly))))
    (same_steps E w x resolve s b r.2 n u)

-- the same answer, and the context is left as it was
record Agrees {S E : Type 0} (s : S) (c : Checked S (Answer E)) (d : Checked U (Answer U)) : Type 0 where
  answer : bare_answer c.answer ≡ d.answer
  leaves : c.after ≡ s

module _ {S E : Type 0} (k : Item U → Class U) (l : Item E → Class E) (q : (i : Item E) → lower_class (l i) ≡ k (lower_item i)) (s : S) where
  class_same : (x : Step S E) (y : Step U U) → Same s x y → lower_class (l x.item) ≡ k y.item
  class_same x y p = q x.item ∙ ap k p.item

  entries_lower : (b : Bool) (xs : List (Step S E)) (ys : List (Step U U)) → AreSame s xs ys → entries b l xs ≡ entries b k ys
  entries_lower b [] [] p = refl
  entries_lower b (x ∷ xs) (y ∷ ys) p =
      ap (λ z. z ++ entries false l xs) (entry_lower b (l x.item) ∙ ap (entry b) (class_same x y p.0))
      ∙ ap (λ z. entry b (k y.item) ++ z) (entries_lower false xs ys p.1)
  entries_lower b [] (y ∷ ys) p = absurd p
  entries_lower b (x ∷ xs) [] p = absurd p

  second_if : (t : Tree) (z : S) (all : List (Step S E)) (b : Bool) (x : Step S E) (o : Option (Step S E))
      → second l t z all (if b then Some x else o) ≡ (if b then record { answer = uncovered t (l x.item); after = x.after } else second l t z all o)
  second_if t z all true x o = refl
  second_if t z all false x o = refl

  plain_second_if : (t : Tree) (z : U) (all : List (Step U U)) (b : Bool) (x : Step U U) (o : Option (Step U U))
      → second k t z all (if b then Some x else o) ≡ (if b then record { answer = uncovered t (k x.item); after = x.after } else second k t z all o)
  plain_second_if t z all true x o = refl
  plain_second_if t z all false x o = refl

  agrees_if : (b b' : Bool) (c c' : Checked S (Answer E)) (d d' : Checked U (Answer U)) → b ≡ b' → Agrees s c d → Agrees s c' d'
      → Agrees s (if b then c else c') (if b' then d else d')
  agrees_if true true c c' d d' e p q = p
  agrees_if false false c c' d d' e p q = q
  agrees_if true false c c' d d' e p q = cc
  agrees_if false true c c' d d' e p q = cc

  agrees_by : (c c' : Checked S (Answer E)) (d d' : Checked U (Answer U)) → c ≡ c' → d ≡ d' → Agrees s c' d' → Agrees s c d
  agrees_by c c' d d' e f p = record { answer = ap (λ z. bare_answer z.answer) e ∙ (p.answer ∙ sym (ap (λ z. z.answer) f)); leaves = ap (λ z. z.after) e ∙ p.leaves }

  second_lower : (t : Tree) (z : U) (all xs : List (Step S E)) (all' ys : List (Step U U)) → AreSame s all all' → AreSame s xs ys
      → Agrees s (second l t s all (first_step decides_again l xs)) (second k t z all' (first_step decides_again k ys))
  second_lower t z all [] all' [] pall p = record { answer = refl; leaves = same_left s all all' pall }
  second_lower t z all (x ∷ xs) all' (y ∷ ys) pall p =
      agrees_by _ _ _ _
      (second_if t s all (decides_again (l x.item)) x (first_step decides_again l xs))
      (plain_second_if t z all' (decides_again (k y.item)) y (first_step decides_again k ys))
      (agrees_if (decides_again (l x.item)) (decides_again (k y.item)) _ _ _ _
      (decides_again_lower (l x.item) ∙ ap decides_again (class_same x y p.0))
      (record { answer = uncovered_lower t (l x.item) ∙ ap (uncovered t) (class_same x y p.0); leaves = p.0.leaves })
      (second_lower t z all xs all' ys pall p.1))
  second_lower t z all [] all' (y ∷ ys) pall p = absurd p
  second_lower t z all (x ∷ xs) all' [] pall p = absurd p

  decided_lower : (again : S → List (Step S E)) (again' : U → List (Step U U)) (z : S) (z' : U) → z ≡ s → AreSame s (again s) (again' z') → (c : Class E)
      → Agrees s (decided l again z c) (decided k again' z' (lower_class c))
  decided_lower again again' z z' e p (IsLocal t) = record { answer = refl; leaves = e }
  decided_lower again again' z z' e p (IsUncovered t) =
      subst (λ y. Agrees s (second l t y (again y) (first_step decides_again l (again y))) (second k t z' (again' z') (first_step decides_again k (again' z')))) (sym e)
      (second_lower t z' (again s) (again s) (again' z') (again' z') p p)
  decided_lower again again' z z' e p (IsBroken f) = record { answer = refl; leaves = e }
  decided_lower again again' z z' e p (IsNonLocal t) = record { answer = refl; leaves = e }
  decided_lower again again' z z' e p IsSkipped = record { answer = refl; leaves = e }
  decided_lower again again' z z' e p IsEmpty = record { answer = refl; leaves = e }

  judged_lower : (again : S → List (Step S E)) (again' : U → List (Step U U)) → ((z : U) → AreSame s (again s) (again' z))
      → (u : U) (all xs : List (Step S E)) (all' ys : List (Step U U)) → AreSame s all all' → AreSame s xs ys
      → Agrees s (judged l again s all (first_step decides l xs)) (judged k again' u all' (first_step decides k ys))
  judged_lower again again' r u all [] all' [] pall p =
      record { answer = ap NonLocalInput (entries_lower true all all' pall); leaves = same_left s all all' pall }
  judged_lower again again' r u all (x ∷ xs) all' (y ∷ ys) pall p =
      agrees_by _ _ _ _
      (judged_if l again s all (decides (l x.item)) x (first_step decides l xs))
      (judged_if k again' u all' (decides (k y.item)) y (first_step decides k ys))
      (agrees_if (decides (l x.item)) (decides (k y.item)) _ _ _ _
      (decides_lower (l x.item) ∙ ap decides (class_same x y p.0))
      (subst (λ z. Agrees s (decided l again x.after (l x.item)) (decided k again' y.after z)) (class_same x y p.0)
      (decided_lower again again' x.after y.after p.0.leaves (r y.after) (l x.item)))
      (judged_lower again again' r u all xs all' ys pall p.1))
  judged_lower again again' r u all [] all' (y ∷ ys) pall p = absurd p
  judged_lower again again' r u all (x ∷ xs) all' [] pall p = absurd p

-- a check by the plain normaliser, of trees without values
check_lower : {S E : Type 0} (w : World) (c : ℕ) (m : InCrate) (limit : ℕ) (resolve : S → Tree → Tree) (s : S) (u : U) (a : Forest) → AreResolved (resolve s) a
    → Agrees {S = S} {E = E} s (orphan_answer w c m (view resolve plain) limit s a) (orphan_answer w c m plain limit u a)
check_lower {S} {E} w c m limit resolve s u a r =
    let x = crate_test m c in
    let walk = λ (z : _). frontier w x (view resolve plain) limit z a in
    let walk' = λ (z : U). Steps w x limit z a in
    let same = λ (z : U). same_steps E w x resolve s a r limit z in
    judged_lower (class_of w x m) (class_of w x m) (class_lower w x m) s walk walk' same u (walk s) (walk s) (walk' u) (walk' u) (same u) (same u)

pub plain_answer : {S : Type 0} (E : Type 0) (w : World) (c : ℕ) (m : InCrate) (limit : ℕ) (resolve : S → Tree → Tree) (s : S) (a : Forest) → AreResolved (resolve s) a
    → bare_answer (orphan_answer {S = S} {E = E} w c m (view resolve plain) limit s a).answer ≡ plain_check w c m limit a
plain_answer E w c m limit resolve s a r = (check_lower w c m limit resolve s tt a r).answer

by_lower : {E : Type 0} (a : Answer E) → bare_knowledge (by_answer a) ≡ by_answer (bare_answer a)
by_lower Passes = refl
by_lower (Faulty f) = refl
by_lower (NonLocalInput l) = refl
by_lower (UncoveredInput t o) = refl

own_lower : {S E : Type 0} (own : Bool) (s : S) (u : U) (p : Checked S (Answer E)) (p' : Checked U (Answer U)) → bare_answer p.answer ≡ p'.answer
    → bare_knowledge (if own then record { answer = Knowable; after = s } else by_proper_check p).answer
    ≡ (if own then record { answer = Knowable; after = u } else by_proper_check p').answer
own_lower true s u p p' e = refl
own_lower false s u p p' e = by_lower p.answer ∙ ap by_answer e

remote_lower : {S E : Type 0} (own : Bool) (proper : S → Checked S (Answer E)) (proper' : U → Checked U (Answer U)) (s : S) (u : U) (a : Answer E)
    → bare_answer (proper s).answer ≡ (proper' u).answer
    → bare_knowledge (by_remote_check own proper s a).answer ≡ (by_remote_check own proper' u (bare_answer a)).answer
remote_lower own proper proper' s u Passes e = refl
remote_lower own proper proper' s u (Faulty f) e = refl
remote_lower own proper proper' s u (NonLocalInput l) e = own_lower own s u (proper s) (proper' u) e
remote_lower own proper proper' s u (UncoveredInput t o) e = own_lower own s u (proper s) (proper' u) e

pub plain_knowledge : {S : Type 0} (E : Type 0) (w : World) (c limit : ℕ) (resolve : S → Tree → Tree) (s : S) (r : Reference) → AreResolved (resolve s) r.arguments
    → bare_knowledge (knowability {S = S} {E = E} w c (view resolve plain) limit s r).answer ≡ plain_knowability w c limit r
plain_knowledge {S} E w c limit resolve s r h =
    let own = local_or_fundamental w c r.trait in
    let proper : S → Checked S (Answer E) = λ t. orphan_answer w c (Local Proper) (view resolve plain) limit t r.arguments in
    let proper' : U → Checked U (Answer U) = λ t. orphan_answer w c (Local Proper) plain limit t r.arguments in
    let remote : Checked S (Answer E) = orphan_answer w c Remote (view resolve plain) limit s r.arguments in
    let plainly : Checked U (Answer U) = orphan_answer w c Remote plain limit tt r.arguments in
    let p = check_lower w c Remote limit resolve s tt r.arguments h in
    ap (λ z. bare_knowledge (by_remote_check own proper z remote.answer).answer) p.leaves
    ∙ (remote_lower own proper proper' s plainly.after remote.answer (check_lower w c (Local Proper) limit resolve s plainly.after r.arguments h).answer
    ∙ ap (λ z. (by_remote_check own proper' plainly.after z).answer) p.answer)
