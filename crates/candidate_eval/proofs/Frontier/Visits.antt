-- A visit in whole, from the shape of its view.
use Rattle.std.proofs.Common.{◌≡◌, ℕ, suc, true, false, List, Result, Ok, Err, refl, sym, ◌∙◌, ap, subst}
use Rattle.std.specs.Prelude.{OnOk}
use Rattle.ir_trees.specs.declared.ir.kinds.Ty.{Ty}
use Rattle.ir_trees.specs.declared.ir.kinds.Args.{Args}
use Rattle.ir_trees.specs.declared.ir.stop.Stop.{Stop}
use Rattle.ir_trees.specs.declared.ir.stop.Stop.TheVariants.{Memory}
use Rattle.ir_trees.specs.Declarations.Context.{Context, Grows}
use Rattle.ir_trees.specs.Syntax.Trees.{Tree}
use Rattle.ir_trees.specs.Syntax.Words.{ty_tree, args_forest}
use Rattle.ir_trees.proofs.Growth.Kept.{world-kept}
use Rattle.candidate_eval.specs.declared.coherence.NormalizeErr.{NormalizeErr}
use Rattle.candidate_eval.specs.declared.coherence.NormalizeErr.TheVariants as N
use Rattle.candidate_eval.specs.declared.coherence.table.ViewClass.{ViewClass}
use Rattle.candidate_eval.specs.declared.coherence.table.Shape.TheVariants as Sh
use Rattle.candidate_eval.specs.declared.coherence.OrphanStop.TheVariants as O
use Rattle.candidate_eval.specs.declared.coherence.walk.EarlyExit.{EarlyExit}
use Rattle.candidate_eval.specs.declared.coherence.walk.EarlyExit.TheVariants as X
use Rattle.candidate_eval.specs.declared.coherence.walk.Walk.{Walk}
use Rattle.candidate_eval.specs.Calls.Exits.{IsTaken, broken_by}
use Rattle.candidate_eval.specs.Knowability.Normalizer.{Untold, IsUntold, IsToldAnswer, shown_fault}
use Rattle.candidate_eval.specs.Knowability.Orphan.{InCrate, crate_test, Sees, Fails, View, Class, IsBroken}
use Rattle.candidate_eval.specs.Calls.Shapes.{IsShape, IsReference, IsFundamental}
use Rattle.candidate_eval.specs.Calls.Table.{table, is_walked}
use Rattle.candidate_eval.specs.Calls.Walk.{Setting, setting, test_of, classes, type_steps, list_steps, still, exit_class, Found, Outcome}
use Rattle.candidate_eval.proofs.Frontier.Walking.{setting-kept, not-seen, item-outcome, target-outcome, arguments-outcome, target-steps, arguments-steps, some-item, some-arguments}

broken-class : {E : Type 0} (ts : List Tree) (e : NormalizeErr E) → exit_class ts (broken_by e) ≡ IsBroken (shown_fault e)
broken-class ts (N.Failed e) = refl
broken-class ts (N.Stop s) = refl

broken-by-stop : {E : Type 0} (e : NormalizeErr E) (z : Stop) → Err e ≡ (let y : Result Ty (NormalizeErr E) = Err (N.Stop z) in y) → broken_by e ≡ X.Broken (O.Stop z)
broken-by-stop (N.Failed x) z w = cc
broken-by-stop (N.Stop x) z w = cc

-- the normaliser has no answer
pub visited-nothing : {S E : Type 0} (p : Setting) (see : View S E) (ts : List Tree) (n m : ℕ) → n ≡ suc m → (s s1 : S) (t : Tree)
    (e : NormalizeErr E) (old : Walk) (r : Result (Unit {0}) (EarlyExit E)) (y : EarlyExit E) → r ≡ Err y → y ≡ broken_by e
    → (untold : Untold) → (IsToldAnswer untold (Err e) → see s t ≡ record { seen = Fails (shown_fault e); after = s1 })
    → Outcome untold ts (classes p) old old s s1 (type_steps p see n s t) r
visited-nothing {S} {E} p see ts n m h s s1 t e old r y i j untold k =
    let P : Result (Unit {0}) (EarlyExit E) → Type 0 = λ x. Outcome untold ts (classes p) old old s s1 (type_steps p see n s t) x in
    let Q : Class E → Type 0 = λ x. Found (classes p) old.seeks_local (type_steps p see n s t) x s1 in
    subst P (sym (i ∙ ap Err j))
    (λ ne. subst Q (sym (broken-class ts e)) (not-seen p see n m s s1 t (shown_fault e) old.seeks_local h (k (λ z u w. ne z u (broken-by-stop e z w)))))

module _ {S E : Type 0} (c0 c1 : Context) (m : InCrate) (g : Grows c0 c1) (see : View S E) (n l : ℕ) (h : n ≡ suc l) (s s1 : S) (t : Tree) (v : Ty)
    (seen : see s t ≡ record { seen = Sees (ty_tree c1.trees v); after = s1 }) where
  shape-there : (k : ViewClass) → IsShape c1 m (ty_tree c1.trees v) (Sh.Item k) → IsShape c0 m (ty_tree c1.trees v) (Sh.Item k)
  shape-there k i =
      let P : Setting → Type 0 = λ p. (is_walked p.definitions (test_of p) (ty_tree c1.trees v).head ≡ false) × (table p.definitions (test_of p) p.in_crate (ty_tree c1.trees v).head (ty_tree c1.trees v).children ≡ k) in
      subst P (setting-kept c0 c1 m g) i

  pub visited-item : (k : ViewClass) (old new last : Walk) (r : Result (Unit {0}) (EarlyExit E)) → IsShape c1 m (ty_tree c1.trees v) (Sh.Item k)
      → last.non_local.items ≡ new.non_local.items → IsTaken old new k v r
      → (untold : Untold) → IsUntold untold Memory → Outcome untold c1.trees (classes (setting c0 m)) old last s s1 (type_steps (setting c0 m) see n s t) r
  visited-item k old new last r i e a =
      let j = shape-there k i in
      item-outcome (setting c0 m) see c1.trees n l h s s1 t v seen k old new last r j.0 j.1 e a

  pub item-some : (k : ViewClass) (r : Result (Unit {0}) (EarlyExit E)) → IsShape c1 m (ty_tree c1.trees v) (Sh.Item k)
      → OnOk r (still true (type_steps (setting c0 m) see n s t) ≡ false)
  item-some k (Err x) i = tt
  item-some k (Ok u) i = some-item (setting c0 m) see c1.trees n l h s s1 t v seen (shape-there k i).0

  here : (A : Setting → Type 0) → A (setting c1 m) → A (setting c0 m)
  here A a = subst A (setting-kept c0 c1 m g) a

  pub visited-target : (u : Ty) (old new last : Walk) (after : S) (ts : List Tree) (r : Result (Unit {0}) (EarlyExit E)) → IsReference c1.trees (ty_tree c1.trees v) u
      → last.non_local.items ≡ new.non_local.items
      → OnOk r (still true (type_steps (setting c1 m) see l s1 (ty_tree c1.trees u)) ≡ false)
      → (untold : Untold) → Outcome untold ts (classes (setting c1 m)) old new s1 after (type_steps (setting c1 m) see l s1 (ty_tree c1.trees u)) r
      → Outcome untold ts (classes (setting c0 m)) old last s after (type_steps (setting c0 m) see n s t) r
  visited-target u old new last after ts r i e some untold o =
      let P : Setting → Type 0 = λ p. OnOk r (still true (type_steps p see l s1 (ty_tree c1.trees u)) ≡ false) in
      let Q : Setting → Type 0 = λ p. Outcome untold ts (classes p) old new s1 after (type_steps p see l s1 (ty_tree c1.trees u)) r in
      target-outcome ts (classes (setting c0 m)) old new last s s1 after _ (type_steps (setting c0 m) see l s1 (ty_tree c1.trees u)) r
      (target-steps (setting c0 m) see c1.trees n l h s s1 t v seen u i) e (here P some) untold (here Q o)

  pub target-some : (u : Ty) (r : Result (Unit {0}) (EarlyExit E)) → IsReference c1.trees (ty_tree c1.trees v) u
      → OnOk r (still true (type_steps (setting c1 m) see l s1 (ty_tree c1.trees u)) ≡ false)
      → OnOk r (still true (type_steps (setting c0 m) see n s t) ≡ false)
  target-some u (Err x) i some = tt
  target-some u (Ok x) i some =
      let P : Setting → Type 0 = λ p. still true (type_steps p see l s1 (ty_tree c1.trees u)) ≡ false in
      ap (still true) (target-steps (setting c0 m) see c1.trees n l h s s1 t v seen u i) ∙ here P some

  fundamental-there : (a : Args) → IsFundamental c1 (crate_test m c1.local.0) (ty_tree c1.trees v) a → IsFundamental c1 (test_of (setting c0 m)) (ty_tree c1.trees v) a
  fundamental-there a i = let P : Setting → Type 0 = λ p. IsFundamental c1 (test_of p) (ty_tree c1.trees v) a in here P i

  pub visited-arguments : (a : Args) (old new last : Walk) (after : S) (ts : List Tree) (r : Result (Unit {0}) (EarlyExit E))
      → IsFundamental c1 (crate_test m c1.local.0) (ty_tree c1.trees v) a → last.non_local.items ≡ new.non_local.items
      → (untold : Untold) → Outcome untold ts (classes (setting c1 m)) old new s1 after (list_steps (setting c1 m) see l s1 (args_forest c1.trees a)) r
      → Outcome untold ts (classes (setting c0 m)) old last s after (type_steps (setting c0 m) see n s t) r
  visited-arguments a old new last after ts r i e untold o =
      let Q : Setting → Type 0 = λ p. Outcome untold ts (classes p) old new s1 after (list_steps p see l s1 (args_forest c1.trees a)) r in
      arguments-outcome (setting c0 m) ts old new last s s1 after _ (list_steps (setting c0 m) see l s1 (args_forest c1.trees a)) r
      (arguments-steps (setting c0 m) see c1.trees n l h s s1 t v seen c1 a (world-kept c0 c1 g).0 (fundamental-there a i)) e untold (here Q o)

  pub arguments-some : (a : Args) (r : Result (Unit {0}) (EarlyExit E)) → IsFundamental c1 (crate_test m c1.local.0) (ty_tree c1.trees v) a
      → OnOk r (still true (type_steps (setting c0 m) see n s t) ≡ false)
  arguments-some a (Err x) i = tt
  arguments-some a (Ok x) i =
      ap (still true) (arguments-steps (setting c0 m) see c1.trees n l h s s1 t v seen c1 a (world-kept c0 c1 g).0 (fundamental-there a i))
      ∙ some-arguments s1 (list_steps (setting c0 m) see l s1 (args_forest c1.trees a))
