-- A covered header and a check that doesn't go wrong, whose trees have a common instance: nothing decides the check.
use Rattle.std.proofs.Common.{◌≡◌, ℕ, zero, suc, Bool, true, false, List, [], ◌∷◌, ◌++◌, None, slice_get, refl, sym, ◌∙◌, ap, if◌then◌else◌}
use Rattle.ir_trees.specs.declared.ir.kinds.AdtId.{AdtId}
use Rattle.ir_trees.specs.Syntax.Trees.{Forest, none, tree, is_type, erase, holds, is_alias, is_error}
use Rattle.ir_trees.specs.Declarations.Worlds.{World}
use Rattle.ir_trees.specs.declared.ir.heads.Head.{Head}
use Rattle.ir_trees.specs.declared.ir.heads.Head.TheVariants as H
use Rattle.ir_trees.specs.Unification.Substitutions.{Substitution, Universes, IsAllowed, apply, replaced}
use Rattle.candidate_eval.specs.Knowability.Orphan.{CrateTest, is_fundamental, names_here, principal_passes, Item, Step, Class, or_empty, walked, visit, plain, is_variable, any_variable, shows_variable}
use Rattle.candidate_eval.proofs.Marks.Holds.{or_false, holds_parts}
use Rattle.candidate_eval.proofs.Frontier.Walks.{Clear, Good, good_left, good_right, clear_append}
use Rattle.candidate_eval.proofs.Knowability.Agree.{U, Walk, adt_steps, adt_is, adt_good, adt_clear, owned_clear, principal_clear, principal_made, no_variable, both_type, same_head, Proper_class, Steps}
use Rattle.ir_trees.proofs.Unification.Instances.{made, head_made, below_made}
use Rattle.candidate_eval.proofs.Frontier.Carry.{none_passes}

variable_left : (xs ys : List (Step U U)) → any_variable (xs ++ ys) ≡ false → any_variable xs ≡ false
variable_left [] ys e = refl
variable_left (x ∷ xs) ys e = let p = or_false (shows_variable x.item) _ e in rw (p.0, variable_left xs ys p.1)

variable_right : (xs ys : List (Step U U)) → any_variable (xs ++ ys) ≡ false → any_variable ys ≡ false
variable_right [] ys e = e
variable_right (x ∷ xs) ys e = variable_right xs ys (or_false (shows_variable x.item) _ e).1

covered_head : (w : World) (deep : Walk) (s : U) (h : Head) (a : Forest)
    → any_variable (walked w None deep s h a) ≡ false → is_variable h ≡ false
covered_head w deep s (H.Infer v) a e = cc
covered_head w deep s _ a e = refl

covered_empty : (s : U) (l : List (Step U U)) → any_variable (or_empty s l) ≡ false → any_variable l ≡ false
covered_empty s [] e = refl
covered_empty s (x ∷ l) e = e

covered_adt : (f : Bool) (i : AdtId) (s : U) (l : List (Step U U)) (a : Forest)
    → any_variable (adt_steps f i s l a) ≡ false → f ≡ true → any_variable l ≡ false
covered_adt true i s l a c e = covered_empty s l c
covered_adt false i s l a c e = cc

cover_walk : (w : World) (x : CrateTest) (deep deep' : Walk) (s t : U) (h : Head) (a b : Forest)
    → names_here w x h ≡ false → is_alias h ≡ false → is_error h ≡ false → principal_passes w x a ≡ false
    → (Good (Proper_class w x) (deep s a) → any_variable (deep' t b) ≡ false → Clear (Proper_class w x) (deep s a))
    → Good (Proper_class w x) (walked w x deep s h a) → any_variable (walked w None deep' t h b) ≡ false
    → Clear (Proper_class w x) (walked w x deep s h a)
cover_walk w x deep deep' s t (H.Ref m) a b nx na ne ua ih g c = ih g c
cover_walk w x deep deep' s t (H.Adt i) a b nx na ne ua ih g c =
    let f = is_fundamental w i.0 in
    let cb = covered_adt f i t (deep' t b) b (rw (adt_is w None deep' t i b (none_passes (slice_get w i.0))) at c) in
    let ga = adt_good w x f i s (deep s a) a (rw (adt_is w x deep s i a nx) at g) in
    rw (adt_is w x deep s i a nx) (adt_clear w x f i s (deep s a) a nx (λ e. ih (ga e) (cb e)))
cover_walk w x deep deep' s t (H.Foreign i) a b nx na ne ua ih g c = (owned_clear _ _ nx, tt)
cover_walk w x deep deep' s t H.Dynamic a b nx na ne ua ih g c = (owned_clear _ _ ua, tt)
cover_walk w x deep deep' s t (H.FnDef i) a b nx na ne ua ih g c = absurd g
cover_walk w x deep deep' s t (H.Closure i k) a b nx na ne ua ih g c = absurd g
cover_walk w x deep deep' s t (H.Param n) a b nx na ne ua ih g c = absurd g
cover_walk w x deep deep' s t (H.Placeholder l) a b nx na ne ua ih g c = absurd g
cover_walk w x deep deep' s t (H.Bound d) a b nx na ne ua ih g c = absurd g
cover_walk w x deep deep' s t (H.Infer n) a b nx na ne ua ih g c = absurd g
cover_walk w x deep deep' s t (H.Alias k i) a b nx na ne ua ih g c = cc
cover_walk w x deep deep' s t H.Error a b nx na ne ua ih g c = cc
cover_walk w x deep deep' s t _ a b nx na ne ua ih g c = (refl, tt)

cover_step : (k : Item U → Class U) (c d : Bool) (f r n f' r' n' : List (Step U U)) → c ≡ d
    → (c ≡ true → Good k f → any_variable f' ≡ false → Clear k f)
    → (Good k r → any_variable r' ≡ false → Clear k r)
    → (Good k n → any_variable n' ≡ false → Clear k n)
    → Good k (if c then f ++ r else n) → any_variable (if d then f' ++ r' else n') ≡ false
    → Clear k (if c then f ++ r else n)
cover_step k true true f r n f' r' n' e first rest other g v =
    let c = first refl (good_left k f r g) (variable_left f' r' v) in
    clear_append k f r c (rest (good_right k f r g c) (variable_right f' r' v))
cover_step k false false f r n f' r' n' e first rest other g v = other g v
cover_step k _ _ f r n f' r' n' e first rest other g v = cc

abbrev Covers : World → CrateTest → Forest → Forest → Type 0
Covers w x a b = (n : ℕ) (s t : U) → Good (Proper_class w x) (Steps w x n s a) → any_variable (Steps w None n t b) ≡ false
    → Clear (Proper_class w x) (Steps w x n s a)

cover_visit : (w : World) (x : CrateTest) (u u' : Universes) (p q : Substitution) → IsAllowed u p → IsAllowed u' q → (h g : Head) (a b : Forest)
    → holds (names_here w x) b ≡ false
    → names_here w x g ≡ false → is_alias g ≡ false → is_error g ≡ false
    → is_type h ≡ true → is_type g ≡ true
    → head_made p h a ≡ head_made q g b
    → erase (replaced p h (apply p a)).children ≡ erase (replaced q g (apply q b)).children
    → (made p a ≡ made q b → Covers w x a b)
    → (n : ℕ) (s t : U)
    → Good (Proper_class w x) (visit w x plain n s (record { head = h; children = a }))
    → any_variable {E = U} (visit w None plain n t (record { head = g; children = b })) ≡ false
    → Clear (Proper_class w x) (visit w x plain n s (record { head = h; children = a }))
cover_visit w x u u' p q ok ok' h g a b nb nx na ne th tg eh eb ih zero s t good c = absurd good
cover_visit w x u u' p q ok ok' h g a b nb nx na ne th tg eh eb ih (suc n) s t good c =
    let vh = no_variable w x (λ s a. Steps w x n s a) s h a good in
    let vg = covered_head w (λ s a. Steps w None n s a) t g b c in
    let e = same_head p q h g a b th tg vh vg eh in
    let m_ab = below_made p q h g a b vh vg eb in
    let ua : principal_passes w x a ≡ false = principal_made w x u u' p q ok ok' a b m_ab ∙ principal_clear w x b nb in
    let named : names_here w x h ≡ false = ap (names_here w x) e ∙ nx in
    let alias : is_alias h ≡ false = ap is_alias e ∙ na in
    let error : is_error h ≡ false = ap is_error e ∙ ne in
    let covered : any_variable (walked w None (λ s a. Steps w None n s a) t h b) ≡ false =
    ap (λ h. any_variable (walked w None (λ s a. Steps w None n s a) t h b)) e ∙ c in
    cover_walk w x (λ s a. Steps w x n s a) (λ s a. Steps w None n s a) s t h a b named alias error ua
    (ih (below_made p q h g a b vh vg eb) n s t) good covered

-- Where a check doesn't go wrong, and a covered header that names nothing of its crate has a common instance with
-- its trees, nothing decides the check.
pub cover : (w : World) (x : CrateTest) (u u' : Universes) (p q : Substitution) → IsAllowed u p → IsAllowed u' q
    → (a b : Forest) → made p a ≡ made q b
    → holds (names_here w x) b ≡ false → holds is_alias b ≡ false → holds is_error b ≡ false
    → Covers w x a b
cover w x u u' p q ok ok' none none e nx na ne n s t good c = tt
cover w x u u' p q ok ok' none (tree g b b') e nx na ne n s t good c = cc
cover w x u u' p q ok ok' (tree h a a') none e nx na ne n s t good c = cc
cover w x u u' p q ok ok' (tree h a a') (tree g b b') e nx na ne n s t good c =
    let nx = holds_parts (names_here w x) g b b' nx in
    let na = holds_parts is_alias g b b' na in
    let ne = holds_parts is_error g b b' ne in
    let eh : head_made p h a ≡ head_made q g b = cc in
    let eb : erase (replaced p h (apply p a)).children ≡ erase (replaced q g (apply q b)).children = cc in
    let er : made p a' ≡ made q b' = cc in
    let ty = both_type u u' p q h g a b ok ok' eh in
    cover_step (Proper_class w x) (is_type h) (is_type g) _ _ _
    (visit w None plain n t (record { head = g; children = b })) (Steps w None n t b') (Steps w None n t b') ty
    (λ th. cover_visit w x u u' p q ok ok' h g a b nx.under nx.here na.here ne.here th (sym ty ∙ th) eh eb
    (λ e. cover w x u u' p q ok ok' a b e nx.under na.under ne.under) n s t)
    (cover w x u u' p q ok ok' a' b' er nx.others na.others ne.others n _ _)
    (cover w x u u' p q ok ok' a' b' er nx.others na.others ne.others n s t)
    good c
