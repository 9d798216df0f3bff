-- What is left of an equation, by numbers.
use Rattle.std.proofs.Common.{◌≡◌, ℕ, ◌≤◌, Bool, true, false, ◌&&◌, List, [], ◌∷◌, ◌++◌, length, map, reverse, Result, Ok, Err, OnOk, refl, sym, ◌∙◌, ap, subst, arith, if◌then◌else◌}
use Rattle.std.proofs.lemmas.List.{reverse-append, take-append-le, length-append}
use Rattle.std.proofs.Math.Seq.{take-length}
use Rattle.ir_trees.specs.declared.ir.heads.Head.{Head}
use Rattle.ir_trees.specs.Syntax.Nodes.{Extends, tree_at}
use Rattle.ir_trees.specs.Syntax.Trees.{Forest, Tree, skip}
use Rattle.ir_trees.specs.Unification.Unify.{same_head}
use Rattle.ir_trees.proofs.Growth.Kept.{number-kept}
use Rattle.candidate_eval.specs.Judges.States.{State, with_universe}
use Rattle.candidate_eval.specs.Judges.Soundness.{is_region}
use Rattle.candidate_rounds.specs.declared.rounds.equating.Frame.{Frame}
use Rattle.rounds_judge.specs.Equations.Equating.{Pair, Left, Refused, matched, with_equal_regions}
use Rattle.candidate_rounds.specs.Calls.Frames.{scope_of, pair_of, pairs_of, IsFrame, AreNested, AreFrames, with_binder}
use Rattle.candidate_rounds.specs.Evaluators.Known.{Each}
use Rattle.rounds_judge.specs.Equations.Scopes.{Scope, placed_tree, entered, has_binder, has_variables, scope_below}
use Rattle.candidate_rounds.proofs.Snapshots.Knowing.{each-map, each-imply}

-- Numbers have their trees still.

frame-kept : (ts us : List Tree) (ns : List ℕ) (f : Frame) → Extends ts us → IsFrame ts f → pair_of us ns f ≡ pair_of ts ns f
frame-kept ts us ns f e i =
    let a = (number-kept ts us f.left e i.0).1 in
    let b = (number-kept ts us f.right e i.1).1 in
    λ j. record { scope = scope_of ns f.binders; left = skip f.place (a j).children; right = skip f.place (b j).children }

pub pairs-kept : (ts us : List Tree) (ns : List ℕ) (fs : List Frame) → Extends ts us → AreFrames ts ns fs → pairs_of us ns fs ≡ pairs_of ts ns fs
pairs-kept ts us ns fs e a = each-map (IsFrame ts) (pair_of us ns) (pair_of ts ns) (reverse fs) (λ f i. frame-kept ts us ns f e i) a.0

longer : (ts us : List Tree) → Extends ts us → length ts ≤ length us
longer ts us e = let n = ap length e.is in let m = length-append ts e.added in omega (arith, n, m)

pub frames-kept : (ts us : List Tree) (ns : List ℕ) (fs : List Frame) → Extends ts us → AreFrames ts ns fs → AreFrames us ns fs
frames-kept ts us ns fs x a =
    let l = longer ts us x in
    (each-imply (IsFrame ts) (IsFrame us) (reverse fs) (λ f i. (omega (arith, i.0, l), omega (arith, i.1, l), λ e. let k = i.2 e in ((number-kept ts us f.left x i.0).0 ∙ k.0, (number-kept ts us f.right x i.1).0 ∙ k.1))) a.0, a.1)

-- Binders

scope-kept : (ns ms : List ℕ) (n : ℕ) → n ≤ length ns → scope_of (ns ++ ms) n ≡ scope_of ns n
scope-kept ns ms n l = ap reverse (take-append-le n ns ms l)

pub nested-kept : (ts : List Tree) (ns ms : List ℕ) (n : ℕ) (fs : List Frame) → n ≤ length ns → AreNested n fs → map (pair_of ts (ns ++ ms)) fs ≡ map (pair_of ts ns) fs
nested-kept ts ns ms n [] l a = refl
nested-kept ts ns ms n (f ∷ fs) l a =
    let m : f.binders ≤ length ns = omega (arith, l, a.0) in
    let s = scope-kept ns ms f.binders m in
    ap (λ us. record { scope = us; left = skip f.place (tree_at ts f.left).children; right = skip f.place (tree_at ts f.right).children } ∷ map (pair_of ts (ns ++ ms)) fs) s
    ∙ ap (λ ps. pair_of ts ns f ∷ ps) (nested-kept ts ns ms f.binders fs m a.1)

pub pairs-entered : (ts : List Tree) (ns ms : List ℕ) (fs : List Frame) → AreFrames ts ns fs → pairs_of ts (ns ++ ms) fs ≡ pairs_of ts ns fs
pairs-entered ts ns ms fs a = nested-kept ts ns ms (length ns) (reverse fs) (omega arith) a.1

pub scope-all : (ns : List ℕ) → scope_of ns (length ns) ≡ reverse ns
scope-all ns = ap reverse (take-length ns)

pub reverse-one : {A : Type 0} (xs : List A) (x : A) → reverse (xs ++ x ∷ []) ≡ x ∷ reverse xs
reverse-one xs x = reverse-append xs (x ∷ [])

-- a frame that comes next
pub pairs-pushed : (ts : List Tree) (ns : List ℕ) (fs : List Frame) (f : Frame) → pairs_of ts ns (fs ++ f ∷ []) ≡ pair_of ts ns f ∷ pairs_of ts ns fs
pairs-pushed ts ns fs f = ap (map (pair_of ts ns)) (reverse-one fs f)

weaker : (n m : ℕ) (fs : List Frame) → n ≤ m → AreNested n fs → AreNested m fs
weaker n m [] l a = tt
weaker n m (f ∷ fs) l a = (omega (arith, l, a.0), a.1)

pub frames-pushed : (ts : List Tree) (ns ms : List ℕ) (fs : List Frame) (f : Frame) → AreFrames ts ns fs → IsFrame ts f → f.binders ≡ length (ns ++ ms) → AreFrames ts (ns ++ ms) (fs ++ f ∷ [])
frames-pushed ts ns ms fs f a i b =
    let l = length-append ns ms in (
      subst (Each (IsFrame ts)) (sym (reverse-one fs f)) (i, a.0),
      subst (AreNested (length (ns ++ ms))) (sym (reverse-one fs f)) (omega (arith, b), weaker (length ns) f.binders (reverse fs) (omega (arith, b, l)) a.1),
    )

-- a frame on the same binders, from its next place on
pub frames-on : (ts : List Tree) (ns : List ℕ) (fs : List Frame) (f : Frame) → AreFrames ts ns fs → IsFrame ts f → f.binders ≡ length ns → AreFrames ts ns (fs ++ f ∷ [])
frames-on ts ns fs f a i b = (
  subst (Each (IsFrame ts)) (sym (reverse-one fs f)) (i, a.0),
  subst (AreNested (length ns)) (sym (reverse-one fs f)) (omega (arith, b), weaker (length ns) f.binders (reverse fs) (omega (arith, b)) a.1),
)

-- What is below two numbers comes next, under the binders that were there and those that were entered.

module _ {A E : Type 0} (r : Result A E) (ts : List Tree) (us ms vs ws : List ℕ) (fs gs hs : List Frame) (f : Frame) (v : vs ≡ us ++ ms) (g : gs ≡ fs) (w : ws ≡ vs) (b : f.binders ≡ length vs)
    (a : AreFrames ts us fs) (h : OnOk r (hs ≡ gs ++ f ∷ [])) where
  abbrev ns : List ℕ
  ns = us ++ ms

  binders-are : f.binders ≡ length ns
  binders-are = b ∙ ap length v

  frames-are : hs ≡ gs ++ f ∷ [] → hs ≡ fs ++ f ∷ []
  frames-are e = e ∙ ap (λ xs. xs ++ f ∷ []) g

  pub below-frames : IsFrame ts f → OnOk r (AreFrames ts ws hs)
  below-frames i = at r h
    where
      at : (r : Result A E) → OnOk r (hs ≡ gs ++ f ∷ []) → OnOk r (AreFrames ts ws hs)
      at (Ok x) e = subst (λ us. AreFrames ts us hs) (sym (w ∙ v)) (subst (AreFrames ts ns) (sym (frames-are e)) (frames-pushed ts us ms fs f a i binders-are))
      at (Err x) e = tt

  pub below-pairs : (sc : Scope) → sc ≡ reverse vs
      → OnOk r (pairs_of ts ws hs ≡ record { scope = sc; left = skip f.place (tree_at ts f.left).children; right = skip f.place (tree_at ts f.right).children } ∷ pairs_of ts us fs)
  below-pairs sc s = at r h
    where
      at : (r : Result A E) → OnOk r (hs ≡ gs ++ f ∷ []) → OnOk r (pairs_of ts ws hs ≡ record { scope = sc; left = skip f.place (tree_at ts f.left).children; right = skip f.place (tree_at ts f.right).children } ∷ pairs_of ts us fs)
      at (Ok x) e =
          ap (λ us. pairs_of ts us hs) (w ∙ v)
          ∙ (ap (pairs_of ts ns) (frames-are e)
          ∙ (pairs-pushed ts ns fs f
          ∙ (ap (λ ps. pair_of ts ns f ∷ ps) (pairs-entered ts us ms fs a)
          ∙ ap (λ sc. record { scope = sc; left = skip f.place (tree_at ts f.left).children; right = skip f.place (tree_at ts f.right).children } ∷ pairs_of ts us fs)
          (ap (scope_of ns) binders-are ∙ (scope-all ns ∙ sym (s ∙ ap reverse v))))))
      at (Err x) e = tt

-- A binder is entered, or there is none.

if-binder : (v : Bool) (S : State) → (if v then with_universe S else S) ≡ with_binder v S
if-binder true S = refl
if-binder false S = refl

pub scope-then : (S T : State) (us : List ℕ) (h : Head) (below : Forest) (u : ℕ) → has_binder h ≡ true → T ≡ with_binder (has_variables below) S → u ≡ T.newest_universe → scope_below S (reverse us) h below ≡ reverse (us ++ u ∷ [])
scope-then S T us h below u e t n =
    ap (λ b. if b then (if b && has_variables below then with_universe S else S).newest_universe ∷ reverse us else reverse us) e
    ∙ (ap (λ (R : State). R.newest_universe ∷ reverse us) (if-binder (has_variables below) S ∙ sym t)
    ∙ (ap (λ n. n ∷ reverse us) (sym n) ∙ sym (reverse-one us u)))

pub scope-else : (S : State) (us : Scope) (h : Head) (below : Forest) → has_binder h ≡ false → scope_below S us h below ≡ us
scope-else S us h below e = ap (λ b. if b then (if b && has_variables below then with_universe S else S).newest_universe ∷ us else us) e

-- What a match comes to

pub matched-regions : (S : State) (us : Scope) (x y : Tree) (more : List Pair) → is_region x.head && is_region y.head ≡ true
    → matched S us x y more ≡ Left (with_equal_regions S (placed_tree us x) (placed_tree us y)) more
matched-regions S us x y more e =
    ap (λ b. if b then Left (with_equal_regions S (placed_tree us x) (placed_tree us y)) more
    else (if same_head x.head y.head then Left (entered S x.head x.children) (record { scope = scope_below S us x.head x.children; left = x.children; right = y.children } ∷ more) else Refused)) e

pub matched-below : (S : State) (us : Scope) (x y : Tree) (more : List Pair) (b : Bool) → is_region x.head && is_region y.head ≡ false → b ≡ same_head x.head y.head
    → matched S us x y more ≡ (if b then Left (entered S x.head x.children) (record { scope = scope_below S us x.head x.children; left = x.children; right = y.children } ∷ more) else Refused)
matched-below S us x y more b e f =
    ap (λ b. if b then Left (with_equal_regions S (placed_tree us x) (placed_tree us y)) more
    else (if same_head x.head y.head then Left (entered S x.head x.children) (record { scope = scope_below S us x.head x.children; left = x.children; right = y.children } ∷ more) else Refused)) e
    ∙ ap (λ b. if b then Left (entered S x.head x.children) (record { scope = scope_below S us x.head x.children; left = x.children; right = y.children } ∷ more) else Refused) (sym f)
