-- What is made and what is seen.
use Rattle.std.proofs.Common.{◌≡◌, ℕ, inl, inr, true, List, Result, Ok, Err, refl, sym, ◌∙◌, ap, subst}
use Rattle.std.specs.Prelude.{IfOk, IfErr}
use Rattle.ir_trees.specs.declared.ir.heads.Head.TheVariants as H
use Rattle.ir_trees.specs.declared.ir.kinds.Mutability.{Mutability}
use Rattle.ir_trees.specs.declared.ir.kinds.Region.{Region}
use Rattle.ir_trees.specs.declared.ir.kinds.Ty.{Ty}
use Rattle.ir_trees.specs.declared.ir.kinds.TyKind.TheVariants as K
use Rattle.ir_trees.specs.declared.ir.stop.Stop.{Stop}
use Rattle.ir_trees.specs.declared.ir.stop.Stop.TheVariants.{Memory, NodesFull}
use Rattle.candidate_eval.specs.declared.coherence.OrphanStop.{OrphanStop}
use Rattle.candidate_eval.specs.declared.coherence.OrphanStop.TheVariants as O
use Rattle.ir_trees.specs.Syntax.Nodes.{tree_at}
use Rattle.ir_trees.specs.Syntax.Trees.{TypeKind, RegionKind, Forest, none, tree, Tree, row}
use Rattle.ir_trees.specs.Syntax.Words.{IsTy, IsRegion, ty_tree, region_tree, kind_tree, region_kind_tree, IsMkStop}
use Rattle.ir_trees.specs.Declarations.Context.{Context, Grows}
use Rattle.ir_trees.specs.declared.ir.kinds.Mutability.TheVariants as M
use Rattle.ir_trees.specs.declared.ir.kinds.RegionKind.TheVariants as R
use Rattle.ir_trees.proofs.Growth.Kept.{ty-kept, grows-refl}
use Rattle.examples.specs.Looks.{reference_to, refused_node}
use Rattle.ir_trees.proofs.Syntax.Rows.{row-single}
use Rattle.candidate_eval.specs.declared.coherence.NormalizeErr.{NormalizeErr}
use Rattle.candidate_eval.specs.declared.coherence.NormalizeErr.TheVariants as N
use Rattle.candidate_eval.specs.Knowability.Normalizer.{IsToldAnswer, IsTold, shown}
use Rattle.candidate_eval.specs.Knowability.Orphan.{Seen, Sees, Sight}

pub reference-made : (ts : List Tree) (r : Region) (t : Ty) (m : Mutability) → IsRegion ts r → IsTy ts t
    → kind_tree ts (K.Ref r t m) ≡ record { head = H.Ref m; children = tree (region_tree ts r).head (region_tree ts r).children (tree (ty_tree ts t).head (ty_tree ts t).children none) }
reference-made ts r t m i j =
    ap (λ (f : Forest). let x : Tree = record { head = H.Ref m; children = f } in x)
    (row-single ts r.0 RegionKind (row (tree_at ts t.0) none) refl refl i
    ∙ ap (λ (f : Forest). tree (region_tree ts r).head (region_tree ts r).children f) (row-single ts t.0 TypeKind none refl refl j))

pub node-stop : (ts : List Tree) (high : ℕ) (s : Stop) → IsMkStop ts high s → refused_node s ≡ true
node-stop ts high s (inl e) = ap refused_node e
node-stop ts high s (inr e) = ap refused_node e.0

pub node-stops : {A : Type 0} (ts : List Tree) (high : ℕ) (r : Result A Stop) → IfErr r (IsMkStop ts high) → IfErr r (λ s. refused_node s ≡ true)
node-stops ts high (Ok a) h = tt
node-stops ts high (Err s) h = node-stop ts high s h

-- an answer that isn't left open is seen
pub sees-answer : {E : Type 0} (ts : List Tree) (u : Tree) (r : Result Ty (NormalizeErr E)) → IfOk r (λ t. ty_tree ts t ≡ u)
    → IfErr r (λ e. (s : Stop) × ((e ≡ N.Stop s) × (refused_node s ≡ true))) → IsToldAnswer refused_node r → Sees u ≡ shown ts r
sees-answer {E} ts u (Ok t) h k told = ap (λ (x : Tree). let y : Seen E = Sees x in y) (sym h)
sees-answer ts u (Err e) h k told = absurd (told k.0 k.1.1 (ap Err k.1.0))

pub told-unless-full : {A E : Type 0} (r : Result A (OrphanStop E)) → (r ≡ Err (O.Stop Memory) → ⊥) → (r ≡ Err (O.Stop NodesFull) → ⊥) → IsTold refused_node r
told-unless-full r m f Memory u e = m e
told-unless-full r m f NodesFull u e = f e
told-unless-full r m f _ u e = cc

-- the reference that is made of a type, in a context that has grown by its region
pub reference-is : (old mid : Context) (us : List Tree) (r : Region) (t : Ty) (made : Result Ty Stop) → Grows old mid → IsTy old.trees t → IsRegion mid.trees r
    → region_tree mid.trees r ≡ region_kind_tree R.Static → IfOk made (λ u. ty_tree us u ≡ kind_tree mid.trees (K.Ref r t M.Not))
    → IfOk made (λ u. ty_tree us u ≡ reference_to (ty_tree old.trees t))
reference-is old mid us r t (Err e) g i j k h = tt
reference-is old mid us r t (Ok u) g i j k h =
    let kept = ty-kept old mid t g i in
    h
    ∙ (reference-made mid.trees r t M.Not j kept.0
    ∙ (ap (λ (z : Tree). let x : Tree = record { head = H.Ref M.Not; children = tree z.head z.children (tree (ty_tree mid.trees t).head (ty_tree mid.trees t).children none) } in x) k
    ∙ ap reference_to kept.1))

-- what is seen by a call that answers so, and leaves the normaliser as it was
pub sight-answer : {F C E : Type 0} (f f' : F) (c : C) (ts : List Tree) (u : Tree) (r : Result Ty (NormalizeErr E)) → f' ≡ f → Sees u ≡ shown ts r
    → (let x : Sight (F × C) E = record { seen = Sees u; after = (f, c) } in x) ≡ record { seen = shown ts r; after = (f', c) }
sight-answer {F} {C} {E} f f' c ts u r e h =
    ap (λ (z : Seen E). let x : Sight (F × C) E = record { seen = z; after = (f, c) } in x) h
    ∙ ap (λ (z : F). let x : Sight (F × C) E = record { seen = shown ts r; after = (z, c) } in x) (sym e)

pub sees-held : {E : Type 0} (old here left : Context) (held : Ty) (r : Result Ty (NormalizeErr E)) → Grows old here → IsTy old.trees held → left ≡ here → r ≡ Ok held
    → Sees (ty_tree old.trees held) ≡ shown left.trees r
sees-held {E} old here left held r g i e h =
    ap (λ (t : Tree). let y : Seen E = Sees t in y) (sym (ty-kept old here held g i).1)
    ∙ (ap (λ (x : Context). let y : Seen E = Sees (ty_tree x.trees held) in y) (sym e) ∙ ap (shown left.trees) (sym h))

-- a normaliser that answers a type which it holds
pub keeps-held : {E : Type 0} (old here left : Context) (held : Ty) (r : Result Ty (NormalizeErr E)) → Grows old here → IsTy old.trees held
    → left ≡ here → r ≡ Ok held → Grows here left × IfOk r (λ u. IsTy left.trees u)
keeps-held {E} old here left held r g i e h =
    let P : Context → Type 0 = λ x. Grows here x × IfOk r (λ u. IsTy x.trees u) in
    let Q : Result Ty (NormalizeErr E) → Type 0 = λ z. IfOk z (λ u. IsTy here.trees u) in
    subst P (sym e) (grows-refl here, subst Q (sym h) (ty-kept old here held g i).0)
