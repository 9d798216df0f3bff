-- The cases of a visit.
use Rattle.std.proofs.Common.{◌≡◌, ℕ, zero, suc, Bool, true, false, List, [], ◌∷◌, ◌++◌, Some, None, refl, sym, ◌∙◌, ap, subst, arith, Result, Ok, Err, get_or, if◌then◌else◌}
use Rattle.std.proofs.lemmas.List.{append-nil}
use Rattle.std.proofs.lemmas.List.Elements.{All-append}
use Rattle.std.specs.Prelude.{not, ◌&&◌, OnOk, IfErr}
use Rattle.ir_trees.specs.declared.ir.kinds.Ty.{Ty}
use Rattle.ir_trees.specs.declared.ir.kinds.Args.{Args}
use Rattle.ir_trees.specs.declared.ir.kinds.AliasKind.{AliasKind}
use Rattle.ir_trees.specs.declared.ir.kinds.AliasKind.TheVariants as AK
use Rattle.ir_trees.specs.declared.ir.heads.Head.{Head}
use Rattle.ir_trees.specs.declared.ir.heads.Head.TheVariants as H
use Rattle.ir_trees.specs.declared.ir.stop.Stop.TheVariants.{Memory, WalkDepth}
use Rattle.ir_trees.specs.Declarations.Context.{Context, Grows, world}
use Rattle.ir_trees.specs.Syntax.Trees.{TypeKind, Forest, none, tree, Tree, is_type, is_type_kind, holds, is_loose}
use Rattle.ir_trees.specs.Declarations.Worlds.{World}
use Rattle.ir_trees.specs.Syntax.Words.{IsTy, ty_tree, args_forest}
use Rattle.ir_trees.proofs.Growth.Kept.{world-kept, ty-kept}
use Rattle.ir_trees.proofs.Syntax.Rows.{kind-of}
use Rattle.candidate_eval.specs.declared.coherence.IsFirstInputType.{IsFirstInputType}
use Rattle.candidate_eval.specs.declared.coherence.table.ViewClass.{ViewClass}
use Rattle.candidate_eval.specs.declared.coherence.table.ViewClass.TheVariants as V
use Rattle.candidate_eval.specs.declared.coherence.walk.EarlyExit.{EarlyExit}
use Rattle.candidate_eval.specs.declared.coherence.walk.Walk.{Walk}
use Rattle.candidate_eval.specs.Knowability.Answers.{is_first_input}
use Rattle.candidate_eval.specs.Calls.Exits.{breaks, IsAdded, exit_of, IsTaken}
use Rattle.candidate_eval.specs.Knowability.Normalizer.{Untold, IsUntold}
use Rattle.candidate_eval.specs.Knowability.Orphan.{InCrate, Local, Remote, Proper, Compat, CrateTest, is_local, is_fundamental, principal_passes, Fault, Stopped, Sees, Fails, Sight, View, Item, Viewed, Empty, Broken, Step, left, or_empty, walked, looked, Class, IsNonLocal, IsEmpty, IsBroken, owned_class, loose_class, projection_class, alias_class, view_class, Entry, entry}
use Rattle.candidate_eval.specs.Calls.Shapes.{IsReference, IsFundamental}
use Rattle.candidate_eval.specs.Calls.Table.{table, is_walked, owned_in, loose_in, projection_in, loose_alias_in, alias_in}
use Rattle.candidate_eval.specs.Calls.Walk.{Setting, setting, test_of, classes, type_steps, list_steps, of_view, deciding, still, entries_of, AreTypes, IsExit, exit_class, Passed, Found, Outcome}
use Rattle.candidate_eval.proofs.Frontier.Steps.{left-some}

pub setting-kept : (old new : Context) (m : InCrate) → Grows old new → setting new m ≡ setting old m
setting-kept old new m g =
    let w = world-kept old new g in
    ap (λ (x : World). let p : Setting = record { definitions = x; local = new.local.0; in_crate = m } in p) w.0
    ∙ ap (λ (x : _). let p : Setting = record { definitions = world old; local = x; in_crate = m } in p) (ap (λ c. c.0) w.1)

is-type : (ts : List Tree) (t : Ty) → IsTy ts t → is_type (ty_tree ts t).head ≡ true
is-type ts t h = ap is_type_kind (kind-of ts t.0 TypeKind refl h)

broken-decides : {E : Type 0} (b : Bool) (f : Fault E) → deciding b (IsBroken f) ≡ true
broken-decides true f = refl
broken-decides false f = refl

-- one step that breaks the walk off
found-one : {S E : Type 0} (k : Item E → Class E) (seeks : Bool) (x : Step S E) (c : Class E) → k x.item ≡ c → deciding seeks c ≡ true
    → Found k seeks (x ∷ []) c x.after
found-one k seeks x c e d = record {
  step = x;
  is = ap (λ (b : Bool). if b then Some x else None) (ap (deciding seeks) e ∙ d);
  class_is = e;
  leaves = refl;
}

module _ {S E : Type 0} (p : Setting) (see : View S E) where
  -- no level is left
  pub too-deep : (n : ℕ) (s : S) (t : Tree) (seeks : Bool) → n ≡ 0 → Found (classes p) seeks (type_steps p see n s t) (IsBroken (Stopped WalkDepth)) s
  too-deep n s t seeks e =
      let P : ℕ → Type 0 = λ m. Found (classes p) seeks (type_steps p see m s t) (IsBroken (Stopped WalkDepth)) s in
      subst P (sym e) (found-one (classes p) seeks (record { item = Broken (Stopped WalkDepth); after = s }) (IsBroken (Stopped WalkDepth)) refl (broken-decides seeks (Stopped WalkDepth)))

  -- the steps at a level by what is seen
  steps-are : (n m : ℕ) (s : S) (t : Tree) (x : Sight S E) → n ≡ suc m → see s t ≡ x
      → type_steps p see n s t ≡ looked p.definitions (test_of p) (list_steps p see m) x.after x.seen
  steps-are n m s t x e f =
      ap (λ (i : ℕ). type_steps p see i s t) e
      ∙ ap (λ (y : Sight S E). looked p.definitions (test_of p) (list_steps p see m) y.after y.seen) f

  -- nothing is seen
  pub not-seen : (n m : ℕ) (s s1 : S) (t : Tree) (f : Fault E) (seeks : Bool) → n ≡ suc m → see s t ≡ record { seen = Fails f; after = s1 }
      → Found (classes p) seeks (type_steps p see n s t) (IsBroken f) s1
  not-seen n m s s1 t f seeks e h =
      let P : List (Step S E) → Type 0 = λ xs. Found (classes p) seeks xs (IsBroken f) s1 in
      subst P (sym (steps-are n m s t (record { seen = Fails f; after = s1 }) e h))
      (found-one (classes p) seeks (record { item = Broken f; after = s1 }) (IsBroken f) refl (broken-decides seeks f))

  opened : (n m : ℕ) (s s1 : S) (t u : Tree) → n ≡ suc m → see s t ≡ record { seen = Sees u; after = s1 }
      → type_steps p see n s t ≡ walked p.definitions (test_of p) (list_steps p see m) s1 u.head u.children
  opened n m s s1 t u e h = steps-are n m s t (record { seen = Sees u; after = s1 }) e h

  item-if : (l f : Bool) (a b : List (Step S E)) → not l && f ≡ false → (if l then a else (if f then b else a)) ≡ a
  item-if true f a b e = refl
  item-if false true a b e = cc
  item-if false false a b e = refl

  view-item : (deeper : S → Forest → List (Step S E)) (s : S) (h : Head) (below : Forest) → is_walked p.definitions (test_of p) h ≡ false
      → walked p.definitions (test_of p) deeper s h below ≡ record { item = Viewed (record { head = h; children = below }); after = s } ∷ []
  view-item deeper s (H.Ref m) below e = cc
  view-item deeper s (H.Adt i) below e =
      item-if (is_local p.definitions (test_of p) i.0) (is_fundamental p.definitions i.0) _ (or_empty s (deeper s below)) e
  view-item deeper s _ below e = refl

  -- the only step of an item that doesn't break the walk off
  one-passed : (ts : List Tree) (old new : Walk) (s : S) (x : Step S E) → deciding old.seeks_local (classes p x.item) ≡ false
      → entries_of ts new.non_local.items ≡ entries_of ts old.non_local.items ++ entry old.is_first (classes p x.item)
      → Passed ts (classes p) old new s x.after (x ∷ [])
  one-passed ts old new s x d r = record {
    none = ap (λ (b : Bool). if b then Some x else None) d;
    leaves = refl;
    recorded = r ∙ ap (λ (es : List Entry). entries_of ts old.non_local.items ++ es) (sym (append-nil (entry old.is_first (classes p x.item))));
  }

owned-view : {E : Type 0} (b : Bool) (t : Tree) → owned_class {E = E} b t ≡ of_view (owned_in b) t
owned-view true t = refl
owned-view false t = refl

loose-view : {E : Type 0} (m : InCrate) (t : Tree) → loose_class {E = E} m t ≡ of_view (loose_in m) t
loose-view (Local m) t = refl
loose-view Remote t = refl

projection-view : {E : Type 0} (m : InCrate) (t : Tree) → projection_class {E = E} m t ≡ of_view (projection_in m) t
projection-view (Local Proper) t = refl
projection-view (Local Compat) t = refl
projection-view Remote t = refl

loose-alias-view : {E : Type 0} (m : InCrate) (k : AliasKind) (t : Tree) → alias_class {E = E} m k t ≡ of_view (loose_alias_in m k) t
loose-alias-view m AK.Projection t = projection-view m t
loose-alias-view m AK.Opaque t = loose-view m t
loose-alias-view m AK.Inherent t = loose-view m t
loose-alias-view m AK.Free t = loose-view m t

alias-view : {E : Type 0} (m : InCrate) (k : AliasKind) (b : Bool) (t : Tree)
    → (if b then alias_class {E = E} m k t else IsNonLocal t) ≡ of_view (alias_in m k b) t
alias-view m k true t = loose-alias-view m k t
alias-view m k false t = refl

-- the class of a view is what the table says of it
view-is : {E : Type 0} (w : World) (test : CrateTest) (m : InCrate) (h : Head) (below : Forest)
    → view_class {E = E} w test m h below ≡ of_view (table w test m h below) (record { head = h; children = below })
view-is w test m (H.Placeholder u) below = loose-view m (record { head = H.Placeholder u; children = below })
view-is w test m (H.Bound d) below = loose-view m (record { head = H.Bound d; children = below })
view-is w test m (H.Infer v) below = loose-view m (record { head = H.Infer v; children = below })
view-is w test m (H.Alias k i) below = alias-view m k (holds is_loose below) (record { head = H.Alias k i; children = below })
view-is w test m (H.Adt i) below = owned-view (is_local w test i.0) (record { head = H.Adt i; children = below })
view-is w test m (H.Foreign i) below = owned-view (is_local w test i.0) (record { head = H.Foreign i; children = below })
view-is w test m H.Dynamic below = owned-view (principal_passes w test below) (record { head = H.Dynamic; children = below })
view-is w test m _ below = refl

breaks-view : (E : Type 0) (seeks : Bool) (k : ViewClass) (t : Tree) → deciding {E = E} seeks (of_view k t) ≡ breaks seeks k
breaks-view E true V.NonLocal t = refl
breaks-view E true V.Skipped t = refl
breaks-view E true V.Local t = refl
breaks-view E true V.Uncovered t = refl
breaks-view E true V.Unnameable t = refl
breaks-view E false V.NonLocal t = refl
breaks-view E false V.Skipped t = refl
breaks-view E false V.Local t = refl
breaks-view E false V.Uncovered t = refl
breaks-view E false V.Unnameable t = refl

entries_of-append : (ts : List Tree) (xs ys : List (Ty × IsFirstInputType)) → entries_of ts (xs ++ ys) ≡ entries_of ts xs ++ entries_of ts ys
entries_of-append ts [] ys = refl
entries_of-append ts (x ∷ xs) ys = ap (λ (es : List Entry). let n : Entry = record { type = ty_tree ts x.0; is_first_input = is_first_input x.1 } in n ∷ es) (entries_of-append ts xs ys)

same-items : (ts : List Tree) (old new : Walk) (es : List Entry) → new.non_local.items ≡ old.non_local.items → es ≡ []
    → entries_of ts new.non_local.items ≡ entries_of ts old.non_local.items ++ es
same-items ts old new es e f =
    ap (entries_of ts) e ∙ (sym (append-nil (entries_of ts old.non_local.items)) ∙ ap (λ (x : List Entry). entries_of ts old.non_local.items ++ x) (sym f))

-- what is recorded of an item that was taken
added-view : (E : Type 0) (ts : List Tree) (old new : Walk) (k : ViewClass) (t : Ty) → breaks old.seeks_local k ≡ false → IsAdded k old new t
    → entries_of ts new.non_local.items ≡ entries_of ts old.non_local.items ++ entry {E = E} old.is_first (of_view k (ty_tree ts t))
added-view E ts old new V.NonLocal t b a =
    ap (entries_of ts) a.added
    ∙ (entries_of-append ts old.non_local.items ((t, a.first) ∷ [])
    ∙ ap (λ (f : Bool). let n : Entry = record { type = ty_tree ts t; is_first_input = f } in entries_of ts old.non_local.items ++ n ∷ []) a.is_first)
added-view E ts old new V.Skipped t b a = same-items ts old new [] a refl
added-view E ts old new V.Uncovered t b a = same-items ts old new [] a refl
added-view E ts old new V.Local t b a = same-items ts old new [] a refl
added-view E ts old new V.Unnameable t b a = same-items ts old new [] a refl

exit-view : {E : Type 0} (ts : List Tree) (seeks : Bool) (k : ViewClass) (t : Ty) → breaks seeks k ≡ true → of_view {E = E} k (ty_tree ts t) ≡ exit_class ts (exit_of k t)
exit-view ts seeks V.NonLocal t b = cc
exit-view ts seeks V.Skipped t b = cc
exit-view ts seeks V.Local t b = refl
exit-view ts seeks V.Uncovered t b = refl
exit-view ts seeks V.Unnameable t b = refl

module _ {S E : Type 0} (p : Setting) (see : View S E) (ts : List Tree) (n m : ℕ) (e : n ≡ suc m) (s s1 : S) (t : Tree) (v : Ty)
    (seen : see s t ≡ record { seen = Sees (ty_tree ts v); after = s1 }) where
  step : Step S E
  step = record { item = Viewed (ty_tree ts v); after = s1 }

  item-steps : is_walked p.definitions (test_of p) (ty_tree ts v).head ≡ false → type_steps p see n s t ≡ record { item = Viewed (ty_tree ts v); after = s1 } ∷ []
  item-steps w = opened p see n m s s1 t (ty_tree ts v) e seen ∙ view-item p see (list_steps p see m) s1 (ty_tree ts v).head (ty_tree ts v).children w

  class-is : (k : ViewClass) → table p.definitions (test_of p) p.in_crate (ty_tree ts v).head (ty_tree ts v).children ≡ k
      → classes {E = E} p (Viewed (ty_tree ts v)) ≡ of_view k (ty_tree ts v)
  class-is k h = view-is p.definitions (test_of p) p.in_crate (ty_tree ts v).head (ty_tree ts v).children ∙ ap (λ (x : ViewClass). of_view x (ty_tree ts v)) h

  -- an item that was taken
  pub passed-item : (k : ViewClass) (old new : Walk) → is_walked p.definitions (test_of p) (ty_tree ts v).head ≡ false
      → table p.definitions (test_of p) p.in_crate (ty_tree ts v).head (ty_tree ts v).children ≡ k
      → breaks old.seeks_local k ≡ false → IsAdded k old new v
      → Passed ts (classes p) old new s s1 (type_steps p see n s t)
  passed-item k old new w h b a =
      let P : List (Step S E) → Type 0 = λ xs. Passed ts (classes p) old new s s1 xs in
      let c = class-is k h in
      subst P (sym (item-steps w))
      (one-passed p see ts old new s (record { item = Viewed (ty_tree ts v); after = s1 })
      (ap (deciding old.seeks_local) c ∙ (breaks-view E old.seeks_local k (ty_tree ts v) ∙ b))
      (added-view E ts old new k v b a ∙ ap (λ (x : Class E). entries_of ts old.non_local.items ++ entry old.is_first x) (sym c)))

  pub some-item : is_walked p.definitions (test_of p) (ty_tree ts v).head ≡ false → still true (type_steps p see n s t) ≡ false
  some-item w = ap (still true) (item-steps w)

  -- an item that breaks the walk off
  pub found-item : (k : ViewClass) (seeks : Bool) (x : EarlyExit E) → is_walked p.definitions (test_of p) (ty_tree ts v).head ≡ false
      → table p.definitions (test_of p) p.in_crate (ty_tree ts v).head (ty_tree ts v).children ≡ k
      → x ≡ exit_of k v → breaks seeks k ≡ true
      → Found (classes p) seeks (type_steps p see n s t) (exit_class ts x) s1
  found-item k seeks x w h f b =
      let P : List (Step S E) → Type 0 = λ xs. Found (classes p) seeks xs (exit_class ts x) s1 in
      let c = class-is k h ∙ (exit-view ts seeks k v b ∙ ap (exit_class ts) (sym f)) in
      subst P (sym (item-steps w))
      (found-one (classes p) seeks (record { item = Viewed (ty_tree ts v); after = s1 }) (exit_class ts x) c
      (ap (deciding seeks) (sym c ∙ class-is k h) ∙ (breaks-view E seeks k (ty_tree ts v) ∙ b)))

  -- below a reference
  pub target-steps : (u : Ty) → IsReference ts (ty_tree ts v) u → type_steps p see n s t ≡ type_steps p see m s1 (ty_tree ts u)
  target-steps u r =
      let w = type_steps p see m s1 (ty_tree ts u) in
      opened p see n m s s1 t (ty_tree ts v) e seen
      ∙ (ap (λ (x : Tree). walked p.definitions (test_of p) (list_steps p see m) s1 x.head x.children) r.is
      ∙ (ap (λ (b : Bool). if b then type_steps p see m s1 r.lifetime ++ list_steps p see m (left s1 (type_steps p see m s1 r.lifetime)) (tree (ty_tree ts u).head (ty_tree ts u).children none)
      else list_steps p see m s1 (tree (ty_tree ts u).head (ty_tree ts u).children none)) r.is_no_type
      ∙ (ap (λ (b : Bool). if b then w ++ [] else []) (is-type ts u r.sort) ∙ append-nil w)))

  arguments-if : (l f : Bool) (a b : List (Step S E)) → l ≡ false → f ≡ true → (if l then a else (if f then b else a)) ≡ b
  arguments-if true f a b g h = cc
  arguments-if false true a b g h = refl
  arguments-if false false a b g h = cc

  -- below a fundamental type
  pub arguments-steps : (c : Context) (u : Args) → world c ≡ p.definitions → IsFundamental c (test_of p) (ty_tree ts v) u
      → type_steps p see n s t ≡ or_empty s1 (list_steps p see m s1 (args_forest c.trees u))
  arguments-steps c u w r =
      let deeper = list_steps p see m in
      opened p see n m s s1 t (ty_tree ts v) e seen
      ∙ (ap (λ (x : Tree). walked p.definitions (test_of p) deeper s1 x.head x.children) r.is
      ∙ arguments-if (is_local p.definitions (test_of p) r.adt.0) (is_fundamental p.definitions r.adt.0) _ (or_empty s1 (deeper s1 (args_forest c.trees u)))
      (ap (λ (x : World). is_local x (test_of p) r.adt.0) (sym w) ∙ r.is_foreign)
      (ap (λ (x : World). is_fundamental x r.adt.0) (sym w) ∙ r.fundamental))

-- a walk that found something below went over it
pub some-arguments : {S E : Type 0} (s : S) (xs : List (Step S E)) → still true (or_empty s xs) ≡ false
some-arguments s [] = refl
some-arguments s (x ∷ xs) = refl

pub found-arguments : {S E : Type 0} (k : Item E → Class E) (seeks : Bool) (s after : S) (xs : List (Step S E)) (c : Class E)
    → Found k seeks xs c after → Found k seeks (or_empty s xs) c after
found-arguments k seeks s after [] c f = let g = f.is in absurd cc
found-arguments k seeks s after (x ∷ xs) c f = f

empty-passes : (E : Type 0) (b : Bool) → deciding {E = E} b IsEmpty ≡ false
empty-passes E true = refl
empty-passes E false = refl

pub passed-arguments : {S E : Type 0} (p : Setting) (ts : List Tree) (old new : Walk) (s s1 after : S) (xs : List (Step S E))
    → Passed ts (classes p) old new s1 after xs → Passed ts (classes p) old new s after (or_empty s1 xs)
passed-arguments {S} {E} p ts old new s s1 after [] f = record {
  none = ap (λ (b : Bool). if b then Some (record { item = Empty; after = s1 }) else None) (empty-passes E old.seeks_local);
  leaves = f.leaves;
  recorded = f.recorded;
}
passed-arguments p ts old new s s1 after (x ∷ xs) f = record { none = f.none; leaves = f.leaves; recorded = f.recorded }

-- what was recorded stays recorded, with the types of a context that grew
pub types-kept : (old new : Context) (es : List (Ty × IsFirstInputType)) → Grows old new → AreTypes old.trees es → AreTypes new.trees es
types-kept old new es g a = λ k d h. (ty-kept old new (get_or es k d).0 g (a k d h)).0

pub entries-kept : (old new : Context) (es : List (Ty × IsFirstInputType)) → Grows old new → AreTypes old.trees es
    → entries_of new.trees es ≡ entries_of old.trees es
entries-kept old new [] g a = refl
entries-kept old new (e ∷ es) g a =
    let here : ty_tree new.trees e.0 ≡ ty_tree old.trees e.0 = (ty-kept old new e.0 g (a 0 e (omega arith))).1 in
    let others = entries-kept old new es g (λ k d h. a (suc k) d (omega arith)) in
    let first : (let n : Entry = record { type = ty_tree new.trees e.0; is_first_input = is_first_input e.1 } in n)
    ≡ record { type = ty_tree old.trees e.0; is_first_input = is_first_input e.1 } =
    ap (λ (t : Tree). let n : Entry = record { type = t; is_first_input = is_first_input e.1 } in n) here in
    cc

added-same : (k : ViewClass) (old new last : Walk) (t : Ty) → last.non_local.items ≡ new.non_local.items → IsAdded k old new t → IsAdded k old last t
added-same V.NonLocal old new last t e a = record { first = a.first; is_first = a.is_first; added = e ∙ a.added }
added-same V.Skipped old new last t e a = e ∙ a
added-same V.Local old new last t e a = e ∙ a
added-same V.Uncovered old new last t e a = e ∙ a
added-same V.Unnameable old new last t e a = e ∙ a

-- an item in whole
pub item-outcome : {S E : Type 0} (p : Setting) (see : View S E) (ts : List Tree) (n m : ℕ) → n ≡ suc m → (s s1 : S) (t : Tree) (v : Ty)
    → see s t ≡ record { seen = Sees (ty_tree ts v); after = s1 }
    → (k : ViewClass) (old new last : Walk) (r : Result (Unit {0}) (EarlyExit E)) → is_walked p.definitions (test_of p) (ty_tree ts v).head ≡ false
    → table p.definitions (test_of p) p.in_crate (ty_tree ts v).head (ty_tree ts v).children ≡ k
    → last.non_local.items ≡ new.non_local.items → IsTaken old new k v r
    → (untold : Untold) → IsUntold untold Memory → Outcome untold ts (classes p) old last s s1 (type_steps p see n s t) r
item-outcome p see ts n m e s s1 t v seen k old new last (Ok u) w h l a untold y =
    passed-item p see ts n m e s s1 t v seen k old last w h a.0 (added-same k old new last v l a.1)
item-outcome p see ts n m e s s1 t v seen k old new last (Err x) w h l a untold y = λ ne.
    found-item p see ts n m e s s1 t v seen k old.seeks_local x w h a.0 (a.1 (λ i. ne Memory y i))

-- what the walk below a reference says of the visit
pub target-outcome : {S E : Type 0} (ts : List Tree) (k : Item E → Class E) (old new last : Walk) (s s1 after : S) (xs ys : List (Step S E))
    (r : Result (Unit {0}) (EarlyExit E)) → xs ≡ ys → last.non_local.items ≡ new.non_local.items
    → OnOk r (still true ys ≡ false) → (untold : Untold) → Outcome untold ts k old new s1 after ys r → Outcome untold ts k old last s after xs r
target-outcome ts k old new last s s1 after xs ys (Ok u) e l some untold o =
    let P : List _ → Type 0 = λ zs. Passed ts k old last s after zs in
    subst P (sym e) (record { none = o.none; leaves = left-some s s1 ys some ∙ o.leaves; recorded = ap (entries_of ts) l ∙ o.recorded })
target-outcome ts k old new last s s1 after xs ys (Err x) e l some untold o = λ ne.
    let P : List _ → Type 0 = λ zs. Found k old.seeks_local zs (exit_class ts x) after in
    subst P (sym e) (o ne)

-- what the walk below a fundamental type says of the visit
pub arguments-outcome : {S E : Type 0} (p : Setting) (ts : List Tree) (old new last : Walk) (s s1 after : S) (xs ys : List (Step S E))
    (r : Result (Unit {0}) (EarlyExit E)) → xs ≡ or_empty s1 ys → last.non_local.items ≡ new.non_local.items
    → (untold : Untold) → Outcome untold ts (classes p) old new s1 after ys r → Outcome untold ts (classes p) old last s after xs r
arguments-outcome p ts old new last s s1 after xs ys (Ok u) e l untold o =
    let P : List _ → Type 0 = λ zs. Passed ts (classes p) old last s after zs in
    subst P (sym e)
    (passed-arguments p ts old last s s1 after ys (record { none = o.none; leaves = o.leaves; recorded = ap (entries_of ts) l ∙ o.recorded }))
arguments-outcome p ts old new last s s1 after xs ys (Err x) e l untold o = λ ne.
    let P : List _ → Type 0 = λ zs. Found (classes p) old.seeks_local zs (exit_class ts x) after in
    subst P (sym e) (found-arguments (classes p) old.seeks_local s1 after ys (exit_class ts x) (o ne))

types-one : (ts : List Tree) (e : Ty × IsFirstInputType) → IsTy ts e.0 → AreTypes ts (e ∷ [])
types-one ts e h zero d l = h
types-one ts e h (suc k) d l = absurd (omega arith)

-- the numbers in what is recorded and in an exit are types
pub item-types : {E : Type 0} (ts : List Tree) (k : ViewClass) (old new : Walk) (t : Ty) (r : Result (Unit {0}) (EarlyExit E)) → IsTy ts t
    → AreTypes ts old.non_local.items → IsTaken old new k t r → AreTypes ts new.non_local.items
item-types ts k old new t (Err x) h a i = rw i.2 a
item-types ts V.NonLocal old new t (Ok u) h a i =
    let one : AreTypes ts ((t, i.1.first) ∷ []) = types-one ts (t, i.1.first) h in
    let P : Ty × IsFirstInputType → Type 0 = λ e. IsTy ts e.0 in
    rw i.1.added (All-append P old.non_local.items ((t, i.1.first) ∷ []) a one)
item-types ts V.Skipped old new t (Ok u) h a i = rw i.1 a
item-types ts V.Local old new t (Ok u) h a i = rw i.1 a
item-types ts V.Uncovered old new t (Ok u) h a i = rw i.1 a
item-types ts V.Unnameable old new t (Ok u) h a i = rw i.1 a

pub item-exit : {E : Type 0} (ts : List Tree) (k : ViewClass) (old new : Walk) (t : Ty) (r : Result (Unit {0}) (EarlyExit E)) → IsTy ts t
    → IsTaken old new k t r → IfErr r (λ x. IsExit ts x)
item-exit ts k old new t (Ok u) h i = tt
item-exit {E} ts k old new t (Err x) h i = let P : EarlyExit E → Type 0 = λ y. IsExit ts y in subst P (sym i.0) (at k)
  where
    at : (k : ViewClass) → IsExit {E = E} ts (exit_of k t)
    at V.NonLocal = tt
    at V.Skipped = tt
    at V.Local = h
    at V.Uncovered = h
    at V.Unnameable = tt
