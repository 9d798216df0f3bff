-- Checks and knowability are the same in every world that extends the declared one.
use Rattle.std.proofs.Common.{◌≡◌, ℕ, zero, suc, Bool, true, false, List, [], ◌∷◌, ◌++◌, Option, Some, is_none, slice_get, refl, sym, ◌∙◌, ap, if◌then◌else◌}
use Rattle.std.proofs.Math.Path.{fun_ext}
use Rattle.ir_trees.specs.declared.ir.heads.PartHead.TheVariants as P
use Rattle.ir_trees.specs.declared.ir.heads.PredHead.TheVariants as PH
use Rattle.ir_trees.specs.Syntax.Trees.{Forest, none, tree, Tree, is_type, holds}
use Rattle.ir_trees.specs.Declarations.Worlds.{IsOf, Reference, World, Extends}
use Rattle.ir_trees.specs.declared.ir.heads.Head.{Head}
use Rattle.ir_trees.specs.declared.ir.heads.Head.TheVariants as H
use Rattle.candidate_eval.specs.Knowability.Orphan.{crate_passes, Checked, Answer, plain_knowability, Knowability, orphan_answer, local_or_fundamental, by_remote_check, Local, Proper, Remote, CrateTest, is_local, is_fundamental, by_bound, principal_passes, Item, Viewed, Empty, Step, Class, IsLocal, IsUncovered, class_of, view_class, owned_class, decides, decides_again, first_step, entries, uncovered, second, decided, judged, InCrate, crate_test, or_empty, walked, visit, plain}
use Rattle.candidate_eval.proofs.Marks.Holds.{holds_parts}
use Rattle.candidate_eval.proofs.Knowability.Fitting.{is_missing, still_there, fits_there, trait_there}
use Rattle.candidate_eval.proofs.Knowability.Agree.{U, Walk, Steps}
use Rattle.candidate_eval.proofs.Knowability.Answers.{judged_if}

pub local_same : (v w : World) → Extends v w → (x : CrateTest) (i : ℕ) → is_none (slice_get v i) ≡ false → is_local v x i ≡ is_local w x i
local_same v w ext x i there = ap (crate_passes x) (still_there v w ext i there)

bound_same : (v w : World) → Extends v w → (x : CrateTest) (h : Head) (r : Bool) → is_missing v h ≡ false → by_bound v x h r ≡ by_bound w x h r
bound_same v w ext x (H.Part (P.Pred (PH.Trait i))) r there = local_same v w ext x i.0 there
bound_same v w ext x _ r there = refl

principal_same : (v w : World) → Extends v w → (x : CrateTest) (a : Forest) → holds (is_missing v) a ≡ false
    → principal_passes v x a ≡ principal_passes w x a
principal_same v w ext x none there = refl
principal_same v w ext x (tree h a b) there =
    let p = holds_parts (is_missing v) h a b there in
    bound_same v w ext x h (principal_passes v x b) p.here ∙ ap (by_bound w x h) (principal_same v w ext x b p.others)

view_same : (v w : World) → Extends v w → (x : CrateTest) (m : InCrate) (h : Head) (a : Forest) → is_missing v h ≡ false → holds (is_missing v) a ≡ false
    → view_class {E = U} v x m h a ≡ view_class w x m h a
view_same v w ext x m (H.Adt i) a there under = ap (λ b. owned_class b (record { head = H.Adt i; children = a })) (local_same v w ext x i.0 there)
view_same v w ext x m (H.Foreign i) a there under = ap (λ b. owned_class b (record { head = H.Foreign i; children = a })) (local_same v w ext x i.0 there)
view_same v w ext x m H.Dynamic a there under = ap (λ b. owned_class b (record { head = H.Dynamic; children = a })) (principal_same v w ext x a under)
view_same v w ext x m _ a there under = refl

walked_same : (v w : World) → Extends v w → (x : CrateTest) (deep deep' : Walk) (s : U) (h : Head) (a : Forest) → is_missing v h ≡ false
    → deep s a ≡ deep' s a → walked v x deep s h a ≡ walked w x deep' s h a
walked_same v w ext x deep deep' s (H.Ref m) a there e = e
walked_same v w ext x deep deep' s (H.Adt i) a there e =
    rw (still_there v w ext i.0 there, e)
walked_same v w ext x deep deep' s _ a there e = refl

visit_same : (v w : World) → Extends v w → (x : CrateTest) (h : Head) (a : Forest) → is_missing v h ≡ false
    → ((n : ℕ) (s : U) → Steps v x n s a ≡ Steps w x n s a)
    → (n : ℕ) (s : U) → visit {E = U} v x plain n s (record { head = h; children = a }) ≡ visit w x plain n s (record { head = h; children = a })
visit_same v w ext x h a there ih zero s = refl
visit_same v w ext x h a there ih (suc n) s = walked_same v w ext x (λ s a. Steps v x n s a) (λ s a. Steps w x n s a) s h a there (ih n s)

joined : (b : Bool) (f r n f' r' n' : List (Step U U)) → f ≡ f' → r ≡ r' → n ≡ n'
    → (if b then f ++ r else n) ≡ (if b then f' ++ r' else n')
joined true f r n f' r' n' e e' e'' = cc
joined false f r n f' r' n' e e' e'' = e''

-- The frontier of a declared world's trees is the same in every world that extends it.
pub steps_same : (v w : World) → Extends v w → (x : CrateTest) (a : Forest) → holds (is_missing v) a ≡ false
    → (n : ℕ) (s : Unit {0}) → Steps v x n s a ≡ Steps w x n s a
steps_same v w ext x none there n s = refl
steps_same v w ext x (tree h a b) there n s =
    let p = holds_parts (is_missing v) h a b there in
    joined (is_type h) _ _ _ _ _ _ (visit_same v w ext x h a p.here (steps_same v w ext x a p.under) n s)
    (steps_same v w ext x b p.others n s) (steps_same v w ext x b p.others n s)

-- one and the same class for each item
abbrev Same : (Item U → Class U) → (Item U → Class U) → List (Step U U) → Type 0
Same k l [] = Unit {0}
Same k l (x ∷ xs) = (k x.item ≡ l x.item) × Same k l xs

same_append : (k l : Item U → Class U) (xs ys : List (Step U U)) → Same k l xs → Same k l ys → Same k l (xs ++ ys)
same_append k l [] ys p q = q
same_append k l (x ∷ xs) ys p q = (p.0, same_append k l xs ys p.1 q)

same_if : (k l : Item U → Class U) (b : Bool) (f r n : List (Step U U)) → Same k l f → Same k l r → Same k l n
    → Same k l (if b then f ++ r else n)
same_if k l true f r n p q o = same_append k l f r p q
same_if k l false f r n p q o = o

same_empty : (k l : Item U → Class U) (s : U) (xs : List (Step U U)) → k Empty ≡ l Empty → Same k l xs → Same k l (or_empty s xs)
same_empty k l s [] e p = (e, tt)
same_empty k l s (x ∷ xs) e p = p

same_adt : (k l : Item U → Class U) (b f : Bool) (one xs : List (Step U U)) → Same k l one → Same k l xs
    → Same k l (if b then one else (if f then xs else one))
same_adt k l true f one xs p q = p
same_adt k l false true one xs p q = q
same_adt k l false false one xs p q = p

same_walked : (v w : World) → Extends v w → (x y : CrateTest) (m : InCrate) (deep : Walk) (s : U) (h : Head) (a : Forest) → is_missing v h ≡ false → holds (is_missing v) a ≡ false
    → Same (class_of v x m) (class_of w x m) (deep s a) → Same (class_of v x m) (class_of w x m) (walked v y deep s h a)
same_walked v w ext x y m deep s (H.Ref q) a there under p = p
same_walked v w ext x y m deep s (H.Adt i) a there under p =
    same_adt (class_of v x m) (class_of w x m) (is_local v y i.0) (is_fundamental v i.0)
    (record { item = Viewed (record { head = H.Adt i; children = a }); after = s } ∷ []) (or_empty s (deep s a))
    (view_same v w ext x m (H.Adt i) a there under, tt) (same_empty (class_of v x m) (class_of w x m) s (deep s a) refl p)
same_walked v w ext x y m deep s h a there under p = (view_same v w ext x m h a there under, tt)

same_visit : (v w : World) → Extends v w → (x y : CrateTest) (m : InCrate) (h : Head) (a : Forest) → is_missing v h ≡ false → holds (is_missing v) a ≡ false
    → ((n : ℕ) (s : U) → Same (class_of v x m) (class_of w x m) (Steps v y n s a))
    → (n : ℕ) (s : U) → Same (class_of v x m) (class_of w x m) (visit v y plain n s (record { head = h; children = a }))
same_visit v w ext x y m h a there under ih zero s = (refl, tt)
same_visit v w ext x y m h a there under ih (suc n) s = same_walked v w ext x y m (λ s a. Steps v y n s a) s h a there under (ih n s)

same_classes : (v w : World) → Extends v w → (x y : CrateTest) (m : InCrate) (a : Forest) → holds (is_missing v) a ≡ false
    → (n : ℕ) (s : U) → Same (class_of v x m) (class_of w x m) (Steps v y n s a)
same_classes v w ext x y m none there n s = tt
same_classes v w ext x y m (tree h a b) there n s =
    let p = holds_parts (is_missing v) h a b there in
    same_if (class_of v x m) (class_of w x m) (is_type h) _ _ _
    (same_visit v w ext x y m h a p.here p.under (same_classes v w ext x y m a p.under) n s)
    (same_classes v w ext x y m b p.others n s) (same_classes v w ext x y m b p.others n s)

entries_same : (k l : Item U → Class U) (b : Bool) (xs : List (Step U U)) → Same k l xs → entries b k xs ≡ entries b l xs
entries_same k l b [] p = refl
entries_same k l b (x ∷ xs) p = rw (p.0, entries_same k l false xs p.1)

second_if : (k : Item U → Class U) (t : Tree) (s : U) (all : List (Step U U)) (b : Bool) (x : Step U U) (o : Option (Step U U))
    → second k t s all (if b then Some x else o)
    ≡ (if b then record { answer = uncovered t (k x.item); after = x.after } else second k t s all o)
second_if k t s all true x o = refl
second_if k t s all false x o = refl

second_same : (k l : Item U → Class U) (t : Tree) (s : U) (all xs : List (Step U U)) → Same k l xs
    → second k t s all (first_step decides_again k xs) ≡ second l t s all (first_step decides_again l xs)
second_same k l t s all [] p = refl
second_same k l t s all (x ∷ xs) p =
    second_if k t s all (decides_again (k x.item)) x (first_step decides_again k xs)
    ∙ ((rw (p.0, second_same k l t s all xs p.1))
    ∙ sym (second_if l t s all (decides_again (l x.item)) x (first_step decides_again l xs)))

decided_same : (k l : Item U → Class U) (again : U → List (Step U U)) (s : U) (c : Class U) → Same k l (again s)
    → decided k again s c ≡ decided l again s c
decided_same k l again s (IsUncovered t) p = second_same k l t s (again s) (again s) p
decided_same k l again s (IsLocal t) p = refl
decided_same k l again s _ p = refl

judged_same : (k l : Item U → Class U) (again : U → List (Step U U)) → ((s : U) → Same k l (again s))
    → (s : U) (all xs : List (Step U U)) → Same k l all → Same k l xs
    → judged k again s all (first_step decides k xs) ≡ judged l again s all (first_step decides l xs)
judged_same k l again q s all [] pall p = rw (entries_same k l true all pall)
judged_same k l again q s all (x ∷ xs) pall p =
    judged_if k again s all (decides (k x.item)) x (first_step decides k xs)
    ∙ ((rw (p.0, decided_same k l again x.after (l x.item) (q x.after), judged_same k l again q s all xs pall p.1))
    ∙ sym (judged_if l again s all (decides (l x.item)) x (first_step decides l xs)))

-- A check of a declared world's trees has one and the same answer in every world that extends it.
pub check_same : (v w : World) → Extends v w → (c : ℕ) (m : InCrate) (limit : ℕ) (a : Forest) → holds (is_missing v) a ≡ false
    → (s : Unit {0}) → orphan_answer {E = U} v c m plain limit s a ≡ orphan_answer w c m plain limit s a
check_same v w ext c m limit a there s =
    let x = crate_test m c in
    let k = class_of {E = U} v x m in
    let l = class_of {E = U} w x m in
    let walk = λ (s : U). Steps v x limit s a in
    let same = λ (s : U). same_classes v w ext x x m a there limit s in
    let far : walk ≡ (λ s. Steps w x limit s a) = fun_ext (λ s. steps_same v w ext x a there limit s) in
    judged_same k l walk same s (walk s) (walk s) (same s) (same s)
    ∙ ap (λ (walk : U → List (Step U U)). judged l walk s (walk s) (first_step decides l (walk s))) far

abbrev known : Bool → (U → Checked U (Answer U)) → Checked U (Answer U) → Knowability U
known own proper remote = (by_remote_check own proper remote.after remote.answer).answer

-- So is what may be known of a reference.
pub knowability_same : (v w : World) → Extends v w → (c limit : ℕ) (r : Reference) → IsOf v r
    → plain_knowability v c limit r ≡ plain_knowability w c limit r
knowability_same v w ext c limit r there =
    let own : local_or_fundamental v c r.trait ≡ local_or_fundamental w c r.trait =
    rw (still_there v w ext r.trait (trait_there v r there)) in
    let remote = check_same v w ext c Remote limit r.arguments (fits_there v r.arguments there.fits) tt in
    let proper : (λ (t : U). orphan_answer {E = U} v c (Local Proper) plain limit t r.arguments)
    ≡ (λ t. orphan_answer {E = U} w c (Local Proper) plain limit t r.arguments) =
    fun_ext (λ t. check_same v w ext c (Local Proper) limit r.arguments (fits_there v r.arguments there.fits) t) in
    ap (λ o. known o (λ (t : U). orphan_answer {E = U} v c (Local Proper) plain limit t r.arguments)
    (orphan_answer {E = U} v c Remote plain limit tt r.arguments)) own
    ∙ (ap (λ p. known (local_or_fundamental w c r.trait) p (orphan_answer {E = U} v c Remote plain limit tt r.arguments)) proper
    ∙ ap (λ q. known (local_or_fundamental w c r.trait) (λ (t : U). orphan_answer {E = U} w c (Local Proper) plain limit t r.arguments) q) remote)
