-- Two tests that take none of the definitions of some trees: where neither walk over them goes wrong, neither decides.
use Rattle.std.proofs.Common.{◌≡◌, ℕ, zero, suc, Bool, true, false, List, [], ◌∷◌, ◌++◌, refl, sym, ◌∙◌, ap, subst, if◌then◌else◌}
use Rattle.ir_trees.specs.declared.ir.heads.PartHead.{PartHead}
use Rattle.ir_trees.specs.declared.ir.heads.PartHead.TheVariants as P
use Rattle.ir_trees.specs.declared.ir.heads.PredHead.TheVariants as PH
use Rattle.ir_trees.specs.declared.ir.kinds.AdtId.{AdtId}
use Rattle.ir_trees.specs.declared.ir.heads.VariableSort.{VariableSort}
use Rattle.ir_trees.specs.declared.ir.heads.VariableSort.TheVariants as V
use Rattle.ir_trees.specs.Syntax.Trees.{Forest, none, tree, Tree, kind_of, is_type, erase, erased_head, holds, is_alias, is_error}
use Rattle.ir_trees.specs.Declarations.Worlds.{World}
use Rattle.ir_trees.specs.declared.ir.heads.Head.{Head}
use Rattle.ir_trees.specs.declared.ir.heads.Head.TheVariants as H
use Rattle.ir_trees.specs.Unification.Substitutions.{Substitution, Universes, IsAllowed, apply, replaced, fits_sort, is_constant_kind, lookup}
use Rattle.candidate_eval.specs.Knowability.Orphan.{CrateTest, is_local, is_fundamental, names_here, by_bound, principal_passes, Item, Viewed, Step, Class, class_of, owned_class, decides, Local, Proper, or_empty, walked, visit, frontier, plain, is_variable}
use Rattle.candidate_eval.proofs.Marks.Holds.{holds_parts}
use Rattle.ir_trees.proofs.Unification.Instances.{replaced_kind, erased_kind, stays, part_no_type, list_no_type, lookup_fits, made, head_made, below_made}
use Rattle.candidate_eval.proofs.Frontier.Walks.{Clear, Good, good_left, good_right, clear_append}

abbrev pub U : Type 0
U = Unit {0}

abbrev pub Walk : Type 0
Walk = U → Forest → List (Step U U)

abbrev pub Proper_class : World → CrateTest → Item (Unit {0}) → Class (Unit {0})
Proper_class w x = class_of w x (Local Proper)

abbrev pub Steps : World → CrateTest → ℕ → Unit {0} → Forest → List (Step (Unit {0}) (Unit {0}))
Steps w x n s a = frontier {E = Unit {0}} w x plain n s a

pub owned_clear : (b : Bool) (t : Tree) → b ≡ false → decides {E = U} (owned_class b t) ≡ false
owned_clear true t e = cc
owned_clear false t e = refl

bound_clear : (w : World) (x : CrateTest) (h : Head) (b : Bool) → names_here w x h ≡ false → b ≡ false → by_bound w x h b ≡ false
bound_clear w x (H.Part (P.Pred (PH.Trait i))) b e f = e
bound_clear w x _ b e f = f

pub principal_clear : (w : World) (x : CrateTest) (a : Forest) → holds (names_here w x) a ≡ false → principal_passes w x a ≡ false
principal_clear w x none e = refl
principal_clear w x (tree h a b) e =
    let p = holds_parts (names_here w x) h a b e in
    bound_clear w x h (principal_passes w x b) p.here (principal_clear w x b p.others)

pub no_variable : (w : World) (x : CrateTest) (deeper : Walk) (s : U) (h : Head) (below : Forest)
    → Good (Proper_class w x) (walked w x deeper s h below) → is_variable h ≡ false
no_variable w x deeper s (H.Infer v) below g = absurd g
no_variable w x deeper s _ below g = refl

good_of_empty : (w : World) (x : CrateTest) (s : U) (l : List (Step U U)) → Good (Proper_class w x) (or_empty s l) → Good (Proper_class w x) l
good_of_empty w x s [] g = tt
good_of_empty w x s (a ∷ l) g = g

pub clear_or_empty : (w : World) (x : CrateTest) (s : U) (l : List (Step U U)) → Clear (Proper_class w x) l → Clear (Proper_class w x) (or_empty s l)
clear_or_empty w x s [] c = (refl, tt)
clear_or_empty w x s (a ∷ l) c = c

abbrev pub adt_steps : (f : Bool) → AdtId → U → List (Step U U) → Forest → List (Step U U)
adt_steps f i s l a = if f then or_empty s l else record { item = Viewed (record { head = H.Adt i; children = a }); after = s } ∷ []

pub adt_is : (w : World) (x : CrateTest) (deep : Walk) (s : U) (i : AdtId) (a : Forest) → is_local w x i.0 ≡ false
    → walked w x deep s (H.Adt i) a ≡ adt_steps (is_fundamental w i.0) i s (deep s a) a
adt_is w x deep s i a e = rw e

pub adt_good : (w : World) (x : CrateTest) (f : Bool) (i : AdtId) (s : U) (l : List (Step U U)) (a : Forest)
    → Good (Proper_class w x) (adt_steps f i s l a) → f ≡ true → Good (Proper_class w x) l
adt_good w x true i s l a g e = good_of_empty w x s l g
adt_good w x false i s l a g e = cc

pub adt_clear : (w : World) (x : CrateTest) (f : Bool) (i : AdtId) (s : U) (l : List (Step U U)) (a : Forest)
    → is_local w x i.0 ≡ false → (f ≡ true → Clear (Proper_class w x) l) → Clear (Proper_class w x) (adt_steps f i s l a)
adt_clear w x true i s l a e c = clear_or_empty w x s l (c refl)
adt_clear w x false i s l a e c = (owned_clear _ _ e, tt)

-- One and the same head, of a definition that neither test takes: where neither walk goes wrong, neither decides.
walks : (w : World) (x y : CrateTest) (deep deep' : Walk) (s t : U) (h : Head) (a b : Forest)
    → names_here w y h ≡ false → names_here w x h ≡ false → is_alias h ≡ false → is_error h ≡ false → is_type h ≡ true
    → principal_passes w x a ≡ false → principal_passes w y b ≡ false
    → (Good (Proper_class w x) (deep s a) → Good (Proper_class w y) (deep' t b)
    → Clear (Proper_class w x) (deep s a) × Clear (Proper_class w y) (deep' t b))
    → Good (Proper_class w x) (walked w x deep s h a) → Good (Proper_class w y) (walked w y deep' t h b)
    → Clear (Proper_class w x) (walked w x deep s h a) × Clear (Proper_class w y) (walked w y deep' t h b)
walks w x y deep deep' s t (H.Ref m) a b ny nx na ne ty ua ub ih g g' = ih g g'
walks w x y deep deep' s t (H.Adt i) a b ny nx na ne ty ua ub ih g g' =
    let f = is_fundamental w i.0 in
    let gx = adt_good w x f i s (deep s a) a (rw (adt_is w x deep s i a nx) at g) in
    let gy = adt_good w y f i t (deep' t b) b (rw (adt_is w y deep' t i b ny) at g') in
    rw (adt_is w x deep s i a nx, adt_is w y deep' t i b ny)
    (adt_clear w x f i s (deep s a) a nx (λ e. (ih (gx e) (gy e)).0), adt_clear w y f i t (deep' t b) b ny (λ e. (ih (gx e) (gy e)).1))
walks w x y deep deep' s t (H.Foreign i) a b ny nx na ne ty ua ub ih g g' = ((owned_clear _ _ nx, tt), (owned_clear _ _ ny, tt))
walks w x y deep deep' s t H.Dynamic a b ny nx na ne ty ua ub ih g g' =
    ((owned_clear _ _ ua, tt), (owned_clear _ _ ub, tt))
walks w x y deep deep' s t (H.Builtin k) a b ny nx na ne ty ua ub ih g g' = ((refl, tt), (refl, tt))
walks w x y deep deep' s t (H.FnDef i) a b ny nx na ne ty ua ub ih g g' = absurd g
walks w x y deep deep' s t (H.Closure i k) a b ny nx na ne ty ua ub ih g g' = absurd g
walks w x y deep deep' s t (H.Param n) a b ny nx na ne ty ua ub ih g g' = absurd g
walks w x y deep deep' s t (H.Placeholder l) a b ny nx na ne ty ua ub ih g g' = absurd g
walks w x y deep deep' s t (H.Bound d) a b ny nx na ne ty ua ub ih g g' = absurd g
walks w x y deep deep' s t (H.Infer n) a b ny nx na ne ty ua ub ih g g' = absurd g
walks w x y deep deep' s t (H.Alias k i) a b ny nx na ne ty ua ub ih g g' = cc
walks w x y deep deep' s t H.Error a b ny nx na ne ty ua ub ih g g' = cc
walks w x y deep deep' s t (H.Part p) a b ny nx na ne ty ua ub ih g g' = absurd (let f = part_no_type p in cc)
walks w x y deep deep' s t (H.List l) a b ny nx na ne ty ua ub ih g g' = absurd (let f = list_no_type l in cc)
walks w x y deep deep' s t _ a b ny nx na ne ty ua ub ih g g' = cc

pub both_type : (u v : Universes) (p q : Substitution) (h g : Head) (a b : Forest) → IsAllowed u p → IsAllowed v q
    → head_made p h a ≡ head_made q g b → is_type h ≡ is_type g
both_type u v p q h g a b ok ok' e =
    sym (erased_kind (replaced p h (apply p a)).head ∙ replaced_kind u p h (apply p a) ok)
    ∙ (ap is_type e ∙ (erased_kind (replaced q g (apply q b)).head ∙ replaced_kind v q g (apply q b) ok'))

pub same_head : (p q : Substitution) (h g : Head) (a b : Forest) → is_type h ≡ true → is_type g ≡ true
    → is_variable h ≡ false → is_variable g ≡ false → head_made p h a ≡ head_made q g b → h ≡ g
same_head p q h g a b th tg vh vg e =
    sym (stays p h (apply p a) th vh) ∙ (e ∙ stays q g (apply q b) tg vg)

constant_no_part : (p : PartHead) → is_constant_kind (kind_of (H.Part p)) ≡ false
constant_no_part (P.Pred _) = refl
constant_no_part (P.Clause _) = refl
constant_no_part P.Sig = refl
constant_no_part P.Vars = refl
constant_no_part (P.Var _) = refl

no_part : (s : VariableSort) (p : PartHead) → fits_sort s (H.Part p) ≡ true → ⊥
no_part V.General p e = let f = part_no_type p in cc
no_part V.Integer p e = cc
no_part V.Floating p e = cc
no_part V.Constant p e = let f = constant_no_part p in cc

fitting_bound : (w : World) (x : CrateTest) (s : VariableSort) (h : Head) (r : Bool) → fits_sort s h ≡ true → by_bound w x (erased_head h) r ≡ r
fitting_bound w x s (H.Part p) r e = absurd (no_part s p e)
fitting_bound w x s (H.Region c) r e = refl
fitting_bound w x s _ r e = refl

unerased : (w : World) (x : CrateTest) (h : Head) (r : Bool) → by_bound w x (erased_head h) r ≡ by_bound w x h r
unerased w x (H.Region c) r = refl
unerased w x _ r = refl

-- an instance has the principal of the tree
pub principal_applied : (w : World) (x : CrateTest) (u : Universes) (p : Substitution) → IsAllowed u p → (a : Forest)
    → principal_passes w x (apply p a) ≡ principal_passes w x a
principal_applied w x u p ok none = refl
principal_applied w x u p ok (tree h a b) = at h (principal_applied w x u p ok b)
  where
    at : (h : Head) → principal_passes w x (apply p b) ≡ principal_passes w x b
        → by_bound w x (replaced p h (apply p a)).head (principal_passes w x (apply p b)) ≡ by_bound w x h (principal_passes w x b)
    at (H.Infer v) e =
        sym (unerased w x (lookup p v (record { head = H.Infer v; children = apply p a })).head (principal_passes w x (apply p b)))
        ∙ (fitting_bound w x v.sort (lookup p v (record { head = H.Infer v; children = apply p a })).head (principal_passes w x (apply p b)) (lookup_fits u p v (apply p a) ok) ∙ e)
    at (H.Part k) e = ap (by_bound w x (H.Part k)) e
    at _ e = e

pub principal_erased : (w : World) (x : CrateTest) (a : Forest) → principal_passes w x (erase a) ≡ principal_passes w x a
principal_erased w x none = refl
principal_erased w x (tree h a b) =
    unerased w x h (principal_passes w x (erase b)) ∙ ap (by_bound w x h) (principal_erased w x b)

pub principal_made : (w : World) (x : CrateTest) (u v : Universes) (p q : Substitution) → IsAllowed u p → IsAllowed v q
    → (a b : Forest) → made p a ≡ made q b → principal_passes w x a ≡ principal_passes w x b
principal_made w x u v p q ok ok' a b e =
    sym (principal_erased w x (apply p a) ∙ principal_applied w x u p ok a)
    ∙ (ap (principal_passes w x) e ∙ (principal_erased w x (apply q b) ∙ principal_applied w x v q ok' b))

-- One type after the other, in step.
in_step : (k l : Item U → Class U) (c d : Bool) (f r n f' r' n' : List (Step U U)) → c ≡ d
    → (c ≡ true → Good k f → Good l f' → Clear k f × Clear l f')
    → (Good k r → Good l r' → Clear k r × Clear l r')
    → (Good k n → Good l n' → Clear k n × Clear l n')
    → Good k (if c then f ++ r else n) → Good l (if d then f' ++ r' else n')
    → Clear k (if c then f ++ r else n) × Clear l (if d then f' ++ r' else n')
in_step k l true true f r n f' r' n' e first rest other g g' =
    let c = first refl (good_left k f r g) (good_left l f' r' g') in
    let d = rest (good_right k f r g c.0) (good_right l f' r' g' c.1) in
    (clear_append k f r c.0 d.0, clear_append l f' r' c.1 d.1)
in_step k l false false f r n f' r' n' e first rest other g g' = other g g'
in_step k l _ _ f r n f' r' n' e first rest other g g' = cc

abbrev InStep : World → CrateTest → CrateTest → Forest → Forest → Type 0
InStep w x y a b = (n m : ℕ) (s t : U) → Good (Proper_class w x) (Steps w x n s a) → Good (Proper_class w y) (Steps w y m t b)
    → Clear (Proper_class w x) (Steps w x n s a) × Clear (Proper_class w y) (Steps w y m t b)

visits : (w : World) (x y : CrateTest) (u v : Universes) (p q : Substitution) → IsAllowed u p → IsAllowed v q → (h g : Head) (a b : Forest)
    → holds (names_here w y) a ≡ false → holds (names_here w x) b ≡ false
    → names_here w y h ≡ false → names_here w x g ≡ false → is_alias h ≡ false → is_error h ≡ false
    → is_type h ≡ true → is_type g ≡ true
    → head_made p h a ≡ head_made q g b
    → erase (replaced p h (apply p a)).children ≡ erase (replaced q g (apply q b)).children
    → (made p a ≡ made q b → InStep w x y a b)
    → (n m : ℕ) (s t : U)
    → Good (Proper_class w x) (visit w x plain n s (record { head = h; children = a }))
    → Good (Proper_class w y) (visit w y plain m t (record { head = g; children = b }))
    → Clear (Proper_class w x) (visit w x plain n s (record { head = h; children = a }))
    × Clear (Proper_class w y) (visit w y plain m t (record { head = g; children = b }))
visits w x y u v p q ok ok' h g a b na_y nb_x ny nx na ne th tg eh eb ih zero m s t good good' = absurd good
visits w x y u v p q ok ok' h g a b na_y nb_x ny nx na ne th tg eh eb ih (suc n) zero s t good good' = absurd good'
visits w x y u v p q ok ok' h g a b na_y nb_x ny nx na ne th tg eh eb ih (suc n) (suc m) s t good good' =
    let vh = no_variable w x (λ s a. Steps w x n s a) s h a good in
    let vg = no_variable w y (λ s a. Steps w y m s a) t g b good' in
    let e = same_head p q h g a b th tg vh vg eh in
    let m_ab = below_made p q h g a b vh vg eb in
    let ua : principal_passes w x a ≡ false = principal_made w x u v p q ok ok' a b m_ab ∙ principal_clear w x b nb_x in
    let ub : principal_passes w y b ≡ false = sym (principal_made w y u v p q ok ok' a b m_ab) ∙ principal_clear w y a na_y in
    at g e ua ub nx good' (ih m_ab n m s t)
  where
    at : (g : Head) → h ≡ g → principal_passes w x a ≡ false → principal_passes w y b ≡ false → names_here w x g ≡ false
        → Good (Proper_class w y) (visit w y plain (suc m) t (record { head = g; children = b }))
        → (Good (Proper_class w x) (Steps w x n s a) → Good (Proper_class w y) (Steps w y m t b)
        → Clear (Proper_class w x) (Steps w x n s a) × Clear (Proper_class w y) (Steps w y m t b))
        → Clear (Proper_class w x) (visit w x plain (suc n) s (record { head = h; children = a }))
        × Clear (Proper_class w y) (visit w y plain (suc m) t (record { head = g; children = b }))
    at g e ua ub = subst (λ g. names_here w x g ≡ false
        → Good (Proper_class w y) (visit w y plain (suc m) t (record { head = g; children = b }))
        → (Good (Proper_class w x) (Steps w x n s a) → Good (Proper_class w y) (Steps w y m t b)
        → Clear (Proper_class w x) (Steps w x n s a) × Clear (Proper_class w y) (Steps w y m t b))
        → Clear (Proper_class w x) (visit w x plain (suc n) s (record { head = h; children = a }))
        × Clear (Proper_class w y) (visit w y plain (suc m) t (record { head = g; children = b }))) e
        (λ nx good' ih. walks w x y (λ s a. Steps w x n s a) (λ s a. Steps w y m s a) s t h a b ny nx na ne th ua ub ih good good')

-- Two trees with a common instance, neither of which names a definition that the other's test takes: where neither
-- frontier goes wrong, nothing in them decides.
pub agree : (w : World) (x y : CrateTest) (u v : Universes) (p q : Substitution) → IsAllowed u p → IsAllowed v q
    → (a b : Forest) → made p a ≡ made q b
    → holds (names_here w y) a ≡ false → holds (names_here w x) b ≡ false
    → holds is_alias a ≡ false → holds is_error a ≡ false
    → InStep w x y a b
agree w x y u v p q ok ok' none none e ny nx na ne n m s t good good' = (tt, tt)
agree w x y u v p q ok ok' none (tree g b b') e ny nx na ne n m s t good good' = cc
agree w x y u v p q ok ok' (tree h a a') none e ny nx na ne n m s t good good' = cc
agree w x y u v p q ok ok' (tree h a a') (tree g b b') e ny nx na ne n m s t good good' =
    let ny = holds_parts (names_here w y) h a a' ny in
    let nx = holds_parts (names_here w x) g b b' nx in
    let na = holds_parts is_alias h a a' na in
    let ne = holds_parts is_error h a a' ne in
    let eh : head_made p h a ≡ head_made q g b = cc in
    let eb : erase (replaced p h (apply p a)).children ≡ erase (replaced q g (apply q b)).children = cc in
    let er : made p a' ≡ made q b' = cc in
    let ty = both_type u v p q h g a b ok ok' eh in
    in_step (Proper_class w x) (Proper_class w y) (is_type h) (is_type g) _ _ _ _ _ _ ty
    (λ th. visits w x y u v p q ok ok' h g a b ny.under nx.under ny.here nx.here na.here ne.here th (sym ty ∙ th) eh eb
    (λ e. agree w x y u v p q ok ok' a b e ny.under nx.under na.under ne.under) n m s t)
    (agree w x y u v p q ok ok' a' b' er ny.others nx.others na.others ne.others n m _ _)
    (agree w x y u v p q ok ok' a' b' er ny.others nx.others na.others ne.others n m s t)
    good good'
