-- A crate with one type of its own that takes the place of a variable: a header of it that overlaps a downstream reference.
use Rattle.std.proofs.Common.{◌≡◌, ℕ, zero, suc, ◌+◌, ◌<◌, ◌==◌, ◌⊎◌, inl, inr, Bool, true, false, List, [], ◌∷◌, ◌++◌, Option, Some, None, is_none, slice_get, refl, sym, ◌∙◌, ap, subst, if◌then◌else◌, arith}
use Rattle.std.proofs.lemmas.Bool.{ne_eqb}
use Rattle.ir_trees.specs.declared.ir.heads.PartHead.TheVariants as P
use Rattle.ir_trees.specs.declared.ir.heads.PredHead.TheVariants as PH
use Rattle.ir_trees.specs.declared.ir.heads.ClauseHead.TheVariants as Cl
use Rattle.ir_trees.specs.declared.ir.kinds.AdtId.{AdtId}
use Rattle.ir_trees.specs.Syntax.Trees.{kind_of, sort_kind, Forest, none, tree, Tree, is_type, holds, is_alias, is_error, erase}
use Rattle.ir_trees.specs.Declarations.Worlds.{IsOf, Fits, kinds_of, child_kinds, parameters_of, AdtSort, Definition, World, Reference, Extends}
use Rattle.ir_trees.specs.declared.ir.heads.VariableSort.{VariableSort}
use Rattle.ir_trees.specs.declared.ir.heads.Variable.{Variable}
use Rattle.ir_trees.specs.declared.ir.heads.Head.{Head}
use Rattle.ir_trees.specs.declared.ir.heads.Head.TheVariants as H
use Rattle.ir_trees.specs.declared.ir.heads.ConstHead.TheVariants as C
use Rattle.ir_trees.specs.declared.ir.heads.VariableSort.TheVariants as V
use Rattle.ir_trees.specs.Unification.Substitutions.{Substitution, apply, replaced, lookup, same_variable, same_sort, IsAllowed, Universes}
use Rattle.candidate_eval.specs.Knowability.Orphan.{crate_passes, is_local, is_fundamental, fundamental_flag, names_here, principal_passes, Item, Viewed, Step, Class, IsLocal, owned_class, decides, or_empty, walked, visit, plain, first_step, is_general, is_general_sort, names, MayWrite, remote_decision, judged, Passes, decided, IsPlainForest, plain_knowability, Downstream}
use Rattle.candidate_eval.specs.Knowability.Laws.{IsDecidedByGeneral, HasDownstream}
use Rattle.candidate_eval.proofs.Marks.Holds.{holds_parts, holds_imply, holds_erase}
use Rattle.ir_trees.proofs.Unification.Instances.{replaced_kind, same_sort_is, and_left}
use Rattle.candidate_eval.proofs.Frontier.Walks.{Clear, clear_append, clear_left, clear_right}
use Rattle.candidate_eval.proofs.Knowability.Agree.{U, Walk, adt_steps, adt_is, owned_clear, principal_clear, principal_applied, Proper_class, Steps}
use Rattle.candidate_eval.proofs.Knowability.Answers.{judged_if}
use Rattle.candidate_eval.proofs.Frontier.Carry.{Remote_class, none_passes, erased_names}
use Rattle.candidate_eval.proofs.Knowability.Fitting.{is_missing, still_there, fits_there, trait_there, fits_still, takes_still}

-- A crate that no definition belongs to, and the world with one type of it.
abbrev fresh : World → ℕ
fresh [] = 0
fresh (d ∷ ds) = suc (d.crate + fresh ds)

abbrev place : World → ℕ
place [] = 0
place (d ∷ ds) = suc (place ds)

abbrev newcomer : World → Definition
newcomer w = record { sort = AdtSort; crate = fresh w; parameters = []; is_fundamental = false }

abbrev grown : World → World
grown w = w ++ newcomer w ∷ []

old_stays : (w : World) (n : Definition) (i : ℕ) (d : Definition) → slice_get w i ≡ Some d → slice_get (w ++ n ∷ []) i ≡ Some d
old_stays [] n i d e = cc
old_stays (x ∷ w) n zero d e = e
old_stays (x ∷ w) n (suc i) d e = old_stays w n i d e

new_there : (w : World) (n : Definition) → slice_get (w ++ n ∷ []) (place w) ≡ Some n
new_there [] n = refl
new_there (x ∷ w) n = new_there w n

grown_extends : (w : World) → Extends w (grown w)
grown_extends w i d e = old_stays w (newcomer w) i d e

crate_below : (w : World) (i : ℕ) (d : Definition) → slice_get w i ≡ Some d → d.crate < fresh w
crate_below [] i d e = cc
crate_below (x ∷ w) zero d e = let f : x ≡ d = cc in let g : x.crate ≡ d.crate = ap (λ d. d.crate) f in omega arith
crate_below (x ∷ w) (suc i) d e = let h = crate_below w i d e in omega arith

old_apart : (w : World) (i : ℕ) → is_none (slice_get w i) ≡ false → is_local (grown w) (Some (fresh w)) i ≡ false
old_apart w i there = at (slice_get w i) refl there
  where
    at : (o : Option Definition) → slice_get w i ≡ o → is_none o ≡ false → is_local (grown w) (Some (fresh w)) i ≡ false
    at None e n = cc
    at (Some d) e n =
        let h = crate_below w i d e in
        ap (crate_passes (Some (fresh w))) (grown_extends w i d e) ∙ ne_eqb d.crate (fresh w) (omega arith)

new_here : (w : World) → is_local (grown w) (Some (fresh w)) (place w) ≡ true
new_here w = ap (crate_passes (Some (fresh w))) (new_there w (newcomer w)) ∙ same (fresh w)
  where
    same : (n : ℕ) → (n == n) ≡ true
    same n = grind arith

here_apart : (w : World) (h : Head) → is_missing w h ≡ false → names_here (grown w) (Some (fresh w)) h ≡ false
here_apart w (H.Adt i) e = old_apart w i.0 e
here_apart w (H.Foreign i) e = old_apart w i.0 e
here_apart w (H.Part (P.Pred (PH.Trait i))) e = old_apart w i.0 e
here_apart w (H.Part (P.Pred (PH.Projection i))) e = old_apart w i.0 e
here_apart w (H.Part (P.Pred (PH.AutoTrait i))) e = old_apart w i.0 e
here_apart w (H.Part (P.Clause (Cl.Trait i p))) e = old_apart w i.0 e
here_apart w (H.Part (P.Clause (Cl.Projection i))) e = old_apart w i.0 e
here_apart w (H.FnDef i) e = old_apart w i.0 e
here_apart w (H.Closure i k) e = old_apart w i.0 e
here_apart w (H.Alias k i) e = old_apart w i.0 e
here_apart w (H.Const (C.Unevaluated i)) e = old_apart w i.0 e
here_apart w _ e = refl

-- The newcomer for one variable.
abbrev taken : World → Variable → Substitution
taken w v = record { variable = v; value = record { head = H.Adt (record { 0 = place w }); children = none } } ∷ []

abbrev taken_tree : World → Tree
taken_tree w = record { head = H.Adt (record { 0 = place w }); children = none }

abbrev itself : Variable → Forest → Tree
itself n a = record { head = H.Infer n; children = a }

holds_taken : (mark : Head → Bool) (w : World) (v : Variable) → mark (H.Adt (record { 0 = place w })) ≡ false
    → (a : Forest) → holds mark a ≡ false → holds mark (apply (taken w v) a) ≡ false
holds_taken mark w v new none e = refl
holds_taken mark w v new (tree h b c) e =
    let p = holds_parts mark h b c e in
    at h p.here (holds_taken mark w v new b p.under) (holds_taken mark w v new c p.others)
  where
    var : (n : Variable) (t : Bool) → mark (H.Infer n) ≡ false
        → holds mark (apply (taken w v) b) ≡ false → holds mark (apply (taken w v) c) ≡ false
        → holds mark (tree (if t then taken_tree w else itself n (apply (taken w v) b)).head
        (if t then taken_tree w else itself n (apply (taken w v) b)).children (apply (taken w v) c)) ≡ false
    var n true m eb ec = rw (new, ec)
    var n false m eb ec = rw (m, eb, ec)

    at : (h : Head) → mark h ≡ false → holds mark (apply (taken w v) b) ≡ false → holds mark (apply (taken w v) c) ≡ false
        → holds mark (tree (replaced (taken w v) h (apply (taken w v) b)).head (replaced (taken w v) h (apply (taken w v) b)).children (apply (taken w v) c)) ≡ false
    at (H.Infer n) m eb ec = var n (same_variable v n) m eb ec
    at _ m eb ec = rw (m, eb, ec)

-- The first view that decides, or one before it, is one of those wanted.
abbrev Reaches : (Item U → Class U) → (Item U → Type 0) → List (Step U U) → Type 0
Reaches k Q [] = ⊥
Reaches k Q (x ∷ xs) = Q x.item ⊎ ((decides (k x.item) ≡ false) × Reaches k Q xs)

reaches_split : (k : Item U → Class U) (Q : Item U → Type 0) (xs ys : List (Step U U))
    → Reaches k Q (xs ++ ys) → Reaches k Q xs ⊎ (Clear k xs × Reaches k Q ys)
reaches_split k Q [] ys r = inr (tt, r)
reaches_split k Q (x ∷ xs) ys r = elim r [
  | inl q ↦ inl (inl q)
  | inr p ↦ elim (reaches_split k Q xs ys p.1) [
    | inl h ↦ inl (inr (p.0, h))
    | inr h ↦ inr ((p.0, h.0), h.1)
  ]
]

reaches_left : (k : Item U → Class U) (Q : Item U → Type 0) (xs ys : List (Step U U)) → Reaches k Q xs → Reaches k Q (xs ++ ys)
reaches_left k Q [] ys r = absurd r
reaches_left k Q (x ∷ xs) ys r = elim r [ inl q ↦ inl q | inr p ↦ inr (p.0, reaches_left k Q xs ys p.1) ]

reaches_right : (k : Item U → Class U) (Q : Item U → Type 0) (xs ys : List (Step U U))
    → Clear k xs → Reaches k Q ys → Reaches k Q (xs ++ ys)
reaches_right k Q [] ys c r = r
reaches_right k Q (x ∷ xs) ys c r = inr (c.0, reaches_right k Q xs ys c.1 r)

abbrev IsView : Variable → Item U → Type 0
IsView v (Viewed t) = t.head ≡ H.Infer v
IsView v _ = ⊥

abbrev IsLocalClass : Class U → Type 0
IsLocalClass (IsLocal t) = Unit {0}
IsLocalClass _ = ⊥

-- What the one frontier does the other does: the one in the declared world, the other in the grown.
record Moves (w : World) (v : Variable) (xs ys : List (Step U U)) : Type 0 where
  clear : Clear (Remote_class w) xs → Clear (Proper_class (grown w) (Some (fresh w))) ys
  reach : Reaches (Remote_class w) (IsView v) xs
      → Reaches (Proper_class (grown w) (Some (fresh w))) (λ i. IsLocalClass (Proper_class (grown w) (Some (fresh w)) i)) ys

one : (w : World) (v : Variable) (x y : Step U U)
    → (decides (Remote_class w x.item) ≡ false → decides (Proper_class (grown w) (Some (fresh w)) y.item) ≡ false)
    → (IsView v x.item → ⊥) → Moves w v (x ∷ []) (y ∷ [])
one w v x y c q = record {
  clear = λ d. (c d.0, tt);
  reach = λ r. elim r [ inl h ↦ absurd (q h) | inr h ↦ absurd h.1 ];
}

joined : (w : World) (v : Variable) (c d : Bool) (f r n f' r' n' : List (Step U U)) → c ≡ d
    → Moves w v f f' → Moves w v r r' → Moves w v n n'
    → Moves w v (if c then f ++ r else n) (if d then f' ++ r' else n')
joined w v true true f r n f' r' n' e first rest other = record {
  clear = λ c. clear_append (Proper_class (grown w) (Some (fresh w))) f' r'
      (first.clear (clear_left (Remote_class w) f r c)) (rest.clear (clear_right (Remote_class w) f r c));
  reach = λ h. elim (reaches_split (Remote_class w) (IsView v) f r h) [
    | inl p ↦ reaches_left (Proper_class (grown w) (Some (fresh w))) _ f' r' (first.reach p)
    | inr p ↦ reaches_right (Proper_class (grown w) (Some (fresh w))) _ f' r' (first.clear p.0) (rest.reach p.1)
  ];
}
joined w v false false f r n f' r' n' e first rest other = other
joined w v _ _ f r n f' r' n' e first rest other = cc

or_empties : (w : World) (v : Variable) (s t : U) (l m : List (Step U U)) → Moves w v l m → Moves w v (or_empty s l) (or_empty t m)
or_empties w v s t [] [] h = one w v _ _ (λ c. c) (λ q. q)
or_empties w v s t (x ∷ l) (y ∷ m) h = h
or_empties w v s t [] (y ∷ m) h = record { clear = λ c. h.clear tt; reach = λ r. elim r [ inl q ↦ absurd q | inr p ↦ absurd p.1 ] }
or_empties w v s t (x ∷ l) [] h = record { clear = λ c. (refl, tt); reach = λ r. absurd (h.reach r) }

adts : (w : World) (v : Variable) (f : Bool) (i : AdtId) (s t : U) (l m : List (Step U U)) (a b : Forest)
    → is_local (grown w) (Some (fresh w)) i.0 ≡ false
    → Moves w v l m → Moves w v (adt_steps f i s l a) (adt_steps f i t m b)
adts w v true i s t l m a b e h = or_empties w v s t l m h
adts w v false i s t l m a b e h = one w v _ _ (λ c. owned_clear _ _ e) (λ q. cc)

move_walk : (w : World) (v : Variable) (deep deep' : Walk) (s t : U) (h : Head) (a b : Forest)
    → is_missing w h ≡ false → is_alias h ≡ false → principal_passes (grown w) (Some (fresh w)) b ≡ false → (n : (m : Variable) → h ≡ H.Infer m → ⊥)
    → Moves w v (deep s a) (deep' t b)
    → Moves w v (walked w None deep s h a) (walked (grown w) (Some (fresh w)) deep' t h b)
move_walk w v deep deep' s t (H.Ref m) a b there na pr nv ih = ih
move_walk w v deep deep' s t (H.Adt i) a b there na pr nv ih =
    let no : is_local w None i.0 ≡ false = none_passes (slice_get w i.0) in
    let new = old_apart w i.0 there in
    let same : is_fundamental w i.0 ≡ is_fundamental (grown w) i.0 = ap fundamental_flag (still_there w (grown w) (grown_extends w) i.0 there) in
    rw (adt_is w None deep s i a no, adt_is (grown w) (Some (fresh w)) deep' t i b new, ← same)
    (adts w v (is_fundamental w i.0) i s t (deep s a) (deep' t b) a b new ih)
move_walk w v deep deep' s t (H.Foreign i) a b there na pr nv ih =
    one w v _ _ (λ c. owned_clear _ _ (old_apart w i.0 there)) (λ q. cc)
move_walk w v deep deep' s t H.Dynamic a b there na pr nv ih =
    one w v _ _ (λ c. owned_clear _ _ pr) (λ q. cc)
move_walk w v deep deep' s t (H.Infer n) a b there na pr nv ih = absurd (nv n refl)
move_walk w v deep deep' s t (H.Alias k i) a b there na pr nv ih = cc
move_walk w v deep deep' s t (H.FnDef i) a b there na pr nv ih = one w v _ _ (λ c. cc) (λ q. cc)
move_walk w v deep deep' s t (H.Closure i k) a b there na pr nv ih = one w v _ _ (λ c. cc) (λ q. cc)
move_walk w v deep deep' s t (H.Param n) a b there na pr nv ih = one w v _ _ (λ c. cc) (λ q. cc)
move_walk w v deep deep' s t (H.Placeholder l) a b there na pr nv ih = one w v _ _ (λ c. cc) (λ q. cc)
move_walk w v deep deep' s t (H.Bound d) a b there na pr nv ih = one w v _ _ (λ c. cc) (λ q. cc)
move_walk w v deep deep' s t H.Error a b there na pr nv ih = one w v _ _ (λ c. cc) (λ q. cc)
move_walk w v deep deep' s t (H.Builtin k) a b there na pr nv ih = one w v _ _ (λ c. refl) (λ q. cc)
move_walk w v deep deep' s t (H.Const k) a b there na pr nv ih = one w v _ _ (λ c. refl) (λ q. cc)
move_walk w v deep deep' s t (H.Region r) a b there na pr nv ih = one w v _ _ (λ c. refl) (λ q. cc)
move_walk w v deep deep' s t (H.Part n) a b there na pr nv ih = one w v _ _ (λ c. refl) (λ q. cc)
move_walk w v deep deep' s t (H.List n) a b there na pr nv ih = one w v _ _ (λ c. refl) (λ q. cc)

owned_local : (b : Bool) (t : Tree) → b ≡ true → IsLocalClass (owned_class b t)
owned_local true t e = tt
owned_local false t e = cc

new_walked : (w : World) (deep : Walk) (t : U)
    → walked (grown w) (Some (fresh w)) deep t (H.Adt (record { 0 = place w })) none ≡ record { item = Viewed (taken_tree w); after = t } ∷ []
new_walked w deep t = rw (new_here w)

same_self : (v : Variable) → same_variable v v ≡ true
same_self v = rw (sorts v.sort) (numbers v.number)
  where
    sorts : (s : VariableSort) → same_sort s s ≡ true
    sorts V.General = refl
    sorts V.Integer = refl
    sorts V.Floating = refl
    sorts V.Constant = refl

    numbers : (n : ℕ) → (n == n) ≡ true
    numbers n = grind arith

-- a variable decides, and where it is the one taken its place has a local type
move_variable : (w : World) (v n : Variable) (deep deep' : Walk) (s t : U) (a b : Forest)
    → Moves w v (walked w None deep s (H.Infer n) a)
    (walked (grown w) (Some (fresh w)) deep' t (lookup (taken w v) n (itself n b)).head (lookup (taken w v) n (itself n b)).children)
move_variable w v n deep deep' s t a b = record {
  clear = λ c. cc;
  reach = λ r. elim r [ inl q ↦ there q | inr p ↦ absurd p.1 ];
}
  where
    there : (H.Infer n ≡ H.Infer v)
        → Reaches (Proper_class (grown w) (Some (fresh w))) (λ i. IsLocalClass (Proper_class (grown w) (Some (fresh w)) i))
        (walked (grown w) (Some (fresh w)) deep' t (lookup (taken w v) n (itself n b)).head (lookup (taken w v) n (itself n b)).children)
    there q =
        let e : n ≡ v = cc in
        let f : lookup (taken w v) n (itself n b) ≡ taken_tree w = rw (e, same_self v) in
        rw (f, new_walked w deep' t) (inl (owned_local _ _ (new_here w)))

move_visit : (w : World) (v : Variable) (h : Head) (a : Forest)
    → is_missing w h ≡ false → is_alias h ≡ false → principal_passes (grown w) (Some (fresh w)) (apply (taken w v) a) ≡ false
    → ((n : ℕ) (s t : U) → Moves w v (Steps w None n s a) (Steps (grown w) (Some (fresh w)) n t (apply (taken w v) a)))
    → (n : ℕ) (s t : U)
    → Moves w v (visit w None plain n s (record { head = h; children = a }))
    (visit (grown w) (Some (fresh w)) plain n t (replaced (taken w v) h (apply (taken w v) a)))
move_visit w v h a there na pr ih zero s t = one w v _ _ (λ c. cc) (λ q. q)
move_visit w v h a there na pr ih (suc n) s t = at h there na
  where
    at : (h : Head) → is_missing w h ≡ false → is_alias h ≡ false
        → Moves w v (visit w None plain (suc n) s (record { head = h; children = a }))
        (visit (grown w) (Some (fresh w)) plain (suc n) t (replaced (taken w v) h (apply (taken w v) a)))
    at (H.Infer m) there na = move_variable w v m (λ s a. Steps w None n s a) (λ s a. Steps (grown w) (Some (fresh w)) n s a) s t a (apply (taken w v) a)
    at h there na =
        move_walk w v (λ s a. Steps w None n s a) (λ s a. Steps (grown w) (Some (fresh w)) n s a) s t h a
        (apply (taken w v) a) there na pr (λ m e. cc) (ih n s t)

taken_allowed : (u : Universes) (w : World) (v : Variable) → v.sort ≡ V.General → IsAllowed u (taken w v)
taken_allowed u w v e = (record { fits = rw e; is_closed = refl; in_universe = refl }, tt)

move : (w : World) (v : Variable) → v.sort ≡ V.General → (a : Forest)
    → holds (is_missing w) a ≡ false → holds is_alias a ≡ false → (n : ℕ) (s t : U)
    → Moves w v (Steps w None n s a) (Steps (grown w) (Some (fresh w)) n t (apply (taken w v) a))
move w v g none there na n s t = record { clear = λ c. tt; reach = λ r. r }
move w v g (tree h a b) there na n s t =
    let p = holds_parts (is_missing w) h a b there in
    let q = holds_parts is_alias h a b na in
    joined w v (is_type h) (is_type (replaced (taken w v) h (apply (taken w v) a)).head) _ _ _ _ _ _
    (sym (replaced_kind (λ v. 0) (taken w v) h (apply (taken w v) a) (taken_allowed (λ v. 0) w v g)))
    (move_visit w v h a p.here q.here
    (principal_applied (grown w) (Some (fresh w)) (λ v. 0) (taken w v) (taken_allowed (λ v. 0) w v g) a
    ∙ principal_clear (grown w) (Some (fresh w)) a (holds_imply (is_missing w) (names_here (grown w) (Some (fresh w))) (here_apart w) a p.under))
    (move w v g a p.under q.under) n s t)
    (move w v g b p.others q.others n _ _) (move w v g b p.others q.others n s t)

found : (k : Item U → Class U) (v : Variable) (xs : List (Step U U)) (x : Step U U)
    → first_step decides k xs ≡ Some x → IsView v x.item → Reaches k (IsView v) xs
found k v [] x e q = cc
found k v (y ∷ xs) x e q = at (decides (k y.item)) refl e (found k v xs x)
  where
    at : (b : Bool) → decides (k y.item) ≡ b → (if b then Some y else first_step decides k xs) ≡ Some x
        → (first_step decides k xs ≡ Some x → IsView v x.item → Reaches k (IsView v) xs)
        → Reaches k (IsView v) (y ∷ xs)
    at true d e ih = let f : y ≡ x = cc in inl (subst (λ z. IsView v z.item) (sym f) q)
    at false d e ih = inr (d, ih e q)

reach_passes : (k : Item U → Class U) (again : U → List (Step U U)) (s : U) (all xs : List (Step U U))
    → Reaches k (λ i. IsLocalClass (k i)) xs → (judged k again s all (first_step decides k xs)).answer ≡ Passes
reach_passes k again s all [] r = absurd r
reach_passes k again s all (x ∷ xs) r =
    ap (λ c. c.answer) (judged_if k again s all (decides (k x.item)) x (first_step decides k xs))
    ∙ elim r [
      | inl q ↦ here (k x.item) q
      | inr p ↦ rw p.0 (reach_passes k again s all xs p.1)
    ]
  where
    here : (c : Class U) → IsLocalClass c
        → (if decides c then decided k again x.after c else judged k again s all (first_step decides k xs)).answer ≡ Passes
    here (IsLocal t) q = refl
    here _ q = absurd q

apply_nothing : (a : Forest) → apply [] a ≡ a
apply_nothing none = refl
apply_nothing (tree h a b) = at h (apply_nothing a) (apply_nothing b)
  where
    at : (h : Head) → apply [] a ≡ a → apply [] b ≡ b
        → tree (replaced [] h (apply [] a)).head (replaced [] h (apply [] a)).children (apply [] b) ≡ tree h a b
    at (H.Infer v) e f = rw (e, f)
    at _ e f = rw (e, f)

is_general_head : (h : Head) → is_general h ≡ true → record { variable : Variable; is : h ≡ H.Infer variable; general : variable.sort ≡ V.General }
is_general_head (H.Infer v) e = record { variable = v; is = refl; general = sorts v.sort e }
  where
    sorts : (s : VariableSort) → is_general_sort s ≡ true → s ≡ V.General
    sorts V.General e = refl
    sorts _ e = cc
is_general_head _ e = cc

-- What the reference's header becomes where the newcomer takes the variable.
abbrev made_header : World → Variable → Reference → Reference
made_header w v r = record { trait = r.trait; arguments = apply (taken w v) r.arguments }

newcomer_writes : (w : World) (v : Variable) (limit : ℕ) (r : Reference) (x : Step U U) → v.sort ≡ V.General
    → IsOf w r → holds is_alias r.arguments ≡ false → holds is_error r.arguments ≡ false
    → remote_decision w limit r ≡ Some x → IsView v x.item
    → MayWrite (grown w) (fresh w) (made_header w v r)
newcomer_writes w v limit r x g there na ne e q = record {
  is_plain = record {
    no_alias = holds_taken is_alias w v refl r.arguments na;
    no_error = holds_taken is_error w v refl r.arguments ne;
  };
  limit = limit;
  passes =
      let k = Proper_class (grown w) (Some (fresh w)) in
      let walk = λ (s : U). Steps (grown w) (Some (fresh w)) limit s (apply (taken w v) r.arguments) in
      let reach = (move w v g r.arguments (fits_there w r.arguments there.fits) na limit tt tt).reach
      (found (Remote_class w) v (Steps w None limit tt r.arguments) x e q) in
      reach_passes k walk tt (walk tt) (walk tt) reach;
}

names_apart : (w : World) (r : Reference) → IsOf w r → names (grown w) r (fresh w) ≡ false
names_apart w r there =
    let named : holds (names_here (grown w) (Some (fresh w))) (erase r.arguments) ≡ false =
    holds_erase (names_here (grown w) (Some (fresh w))) (erased_names (grown w) (Some (fresh w))) r.arguments
    ∙ holds_imply (is_missing w) (names_here (grown w) (Some (fresh w))) (here_apart w) r.arguments (fits_there w r.arguments there.fits) in
    rw (old_apart w r.trait (trait_there w r there), named)

infer_kind : (w : World) (v n : Variable) (a : Forest) → v.sort ≡ V.General → kind_of (lookup (taken w v) n (itself n a)).head ≡ kind_of (H.Infer n)
infer_kind w v n a g = at (same_variable v n) refl
  where
    at : (t : Bool) → same_variable v n ≡ t → kind_of (if t then taken_tree w else itself n a).head ≡ kind_of (H.Infer n)
    at false e = refl
    at true e = ap sort_kind (sym g ∙ same_sort_is _ _ (and_left _ _ e))

kinds_taken : (w : World) (v : Variable) → v.sort ≡ V.General → (a : Forest) → kinds_of (apply (taken w v) a) ≡ kinds_of a
kinds_taken w v g none = refl
kinds_taken w v g (tree h a b) = at h (kinds_taken w v g b)
  where
    at : (h : Head) → kinds_of (apply (taken w v) b) ≡ kinds_of b
        → kinds_of (tree (replaced (taken w v) h (apply (taken w v) a)).head (replaced (taken w v) h (apply (taken w v) a)).children (apply (taken w v) b))
        ≡ kinds_of (tree h a b)
    at (H.Infer n) e = rw (infer_kind w v n (apply (taken w v) a) g, e)
    at _ e = rw e

fits_taken : (w : World) (v : Variable) → v.sort ≡ V.General → (a : Forest) → Fits w a → Fits (grown w) (apply (taken w v) a)
fits_taken w v g none f = tt
fits_taken w v g (tree h a b) f =
    at h (fits_still w (grown w) (grown_extends w) h (kinds_of a) f.0) (kinds_taken w v g a) (fits_taken w v g a f.1) (fits_taken w v g b f.2)
  where
    var : (n : Variable) (t : Bool) → Fits (grown w) (apply (taken w v) b) → Fits (grown w) (apply (taken w v) a)
        → child_kinds (grown w) (H.Infer n) (kinds_of (apply (taken w v) a)) ≡ Some (kinds_of (apply (taken w v) a))
        → Fits (grown w) (tree (if t then taken_tree w else itself n (apply (taken w v) a)).head
        (if t then taken_tree w else itself n (apply (taken w v) a)).children (apply (taken w v) b))
    var n true fb fa e = (ap (parameters_of AdtSort) (new_there w (newcomer w)), tt, fb)
    var n false fb fa e = (e, fa, fb)

    at : (h : Head) → child_kinds (grown w) h (kinds_of a) ≡ Some (kinds_of a) → kinds_of (apply (taken w v) a) ≡ kinds_of a
        → Fits (grown w) (apply (taken w v) a) → Fits (grown w) (apply (taken w v) b)
        → Fits (grown w) (tree (replaced (taken w v) h (apply (taken w v) a)).head (replaced (taken w v) h (apply (taken w v) a)).children (apply (taken w v) b))
    at (H.Infer n) e k fa fb = var n (same_variable v n) fb fa (subst (λ ks. child_kinds (grown w) (H.Infer n) ks ≡ Some ks) (sym k) e)
    at h e k fa fb = (subst (λ ks. child_kinds (grown w) h ks ≡ Some ks) (sym k) e, fa, fb)

-- Where a general variable decides that a reference is a downstream one, a header that overlaps it is to be had.
pub downstream_world : (declared : World) (local limit : ℕ) (r : Reference) → IsOf declared r → IsPlainForest r.arguments
    → plain_knowability declared local limit r ≡ Downstream → IsDecidedByGeneral declared limit r
    → HasDownstream declared r
downstream_world declared local limit r there ok know d =
    let x = d.step in
    let h = is_general_head d.variable.head d.general in
    let a = h.variable in
    let is : x.item ≡ Viewed d.variable = d.shows in
    let q : IsView a x.item = rw is h.is in
    record {
      world = grown declared;
      crate = fresh declared;
      header = made_header declared a r;
      extends = grown_extends declared;
      of_world = record {
        takes = takes_still declared (grown declared) (grown_extends declared) r there
            ∙ ap Some (sym (kinds_taken declared a h.general r.arguments));
        fits = fits_taken declared a h.general r.arguments there.fits;
      };
      unnamed = names_apart declared r there;
      written = newcomer_writes declared a limit r x h.general there ok.no_alias ok.no_error d.decides q;
      overlap = λ u v. record {
        same_trait = refl;
        left = taken declared a;
        right = [];
        left_allowed = taken_allowed u declared a h.general;
        right_allowed = tt;
        common = ap erase (sym (apply_nothing (apply (taken declared a) r.arguments)));
      };
    }
