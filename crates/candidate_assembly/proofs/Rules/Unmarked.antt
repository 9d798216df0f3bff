-- A walk that looks for heads of some flags finds none in a tree of which none of those flags is kept.
use Rattle.std.proofs.Common.{◌≡◌, Bool, true, false, refl, sym, ◌∙◌}
use Rattle.std.specs.Prelude.{◌||◌}
use Rattle.ir_trees.specs.declared.ir.heads.ConstHead.{ConstHead}
use Rattle.ir_trees.specs.declared.ir.heads.ConstHead.TheVariants as C
use Rattle.ir_trees.specs.declared.ir.heads.Flag.{Flag}
use Rattle.ir_trees.specs.declared.ir.heads.Flag.TheVariants as F
use Rattle.ir_trees.specs.declared.ir.heads.Head.{Head}
use Rattle.ir_trees.specs.declared.ir.heads.Head.TheVariants as H
use Rattle.ir_trees.specs.declared.ir.heads.Marks.{Marks}
use Rattle.ir_trees.specs.declared.ir.heads.VariableSort.{VariableSort}
use Rattle.ir_trees.specs.declared.ir.heads.VariableSort.TheVariants as V
use Rattle.ir_trees.specs.declared.ir.kinds.RegionKind.{RegionKind}
use Rattle.ir_trees.specs.declared.ir.kinds.RegionKind.TheVariants as R
use Rattle.ir_trees.specs.Syntax.Flags.{mark, of_constant, of_type}
use Rattle.ir_trees.specs.Syntax.Marks.{AreMarks, marked}
use Rattle.ir_trees.specs.Syntax.Trees.{Forest, none, tree, Tree, holds, tree_holds}
use Rattle.ir_trees.proofs.Instantiation.Folding.{or-left, or-right}
use Rattle.candidate_eval.specs.Derivations.Characterization.{is_any_bound, is_of_interest}

abbrev Lack : (Flag → Bool) → (Flag → Bool) → Type 0
Lack these holds_it = (f : Flag) → these f ≡ true → holds_it f ≡ false

-- neither the head nor what is below or beside it
none-of : (these : Flag → Bool) (q : Head → Bool) → ((h : Head) → Lack these (λ f. mark f h) → q h ≡ false)
    → (ts : Forest) → Lack these (λ f. holds (mark f) ts) → holds q ts ≡ false
none-of these q per none lack = refl
none-of these q per (tree h below rest) lack =
    let inner : (f : Flag) → these f ≡ true → (holds (mark f) below || holds (mark f) rest) ≡ false = λ f e. or-right (mark f h) (holds (mark f) below || holds (mark f) rest) (lack f e) in
    let a = per h (λ f e. or-left (mark f h) (holds (mark f) below || holds (mark f) rest) (lack f e)) in
    let b = none-of these q per below (λ f e. or-left (holds (mark f) below) (holds (mark f) rest) (inner f e)) in
    let c = none-of these q per rest (λ f e. or-right (holds (mark f) below) (holds (mark f) rest) (inner f e)) in
    λ i. a i || (b i || c i)

pub none-in : (these : Flag → Bool) (q : Head → Bool) → ((h : Head) → Lack these (λ f. mark f h) → q h ≡ false)
    → (m : Marks) (t : Tree) → AreMarks m t → Lack these (marked m) → tree_holds q t ≡ false
none-in these q per m t kept lack =
    let held : (f : Flag) → these f ≡ true → tree_holds (mark f) t ≡ false = λ f e. sym (kept f) ∙ lack f e in
    let a = per t.head (λ f e. or-left (mark f t.head) (holds (mark f) t.children) (held f e)) in
    let b = none-of these q per t.children (λ f e. or-right (mark f t.head) (holds (mark f) t.children) (held f e)) in
    λ i. a i || b i

-- flags of what is bound

abbrev of_bound : Flag → Bool
of_bound F.TyBound = true
of_bound F.RegionBound = true
of_bound F.ConstBound = true
of_bound _ = false

not-bound : (h : Head) → Lack of_bound (λ f. mark f h) → is_any_bound h ≡ false
not-bound (H.Bound v) lack = lack F.TyBound refl
not-bound (H.Const c) lack = at c (lack F.ConstBound refl)
  where
    at : (k : ConstHead) → mark F.ConstBound (H.Const k) ≡ false → is_any_bound (H.Const k) ≡ false
    at (C.Bound v) e = e
    at _ e = refl
not-bound (H.Region r) lack = at r (lack F.RegionBound refl)
  where
    at : (k : RegionKind) → mark F.RegionBound (H.Region k) ≡ false → is_any_bound (H.Region k) ≡ false
    at (R.Bound v) e = e
    at _ e = refl
not-bound _ lack = refl

none-of-three : (f g k : Flag) (m : Marks) (b : Bool) → b ≡ marked m f || (marked m g || marked m k) → b ≡ false
    → (marked m f ≡ false) × (marked m g ≡ false) × (marked m k ≡ false)
none-of-three f g k m b e n =
    let all = sym e ∙ n in
    let others = or-right (marked m f) (marked m g || marked m k) all in
    (or-left (marked m f) (marked m g || marked m k) all, or-left (marked m g) (marked m k) others, or-right (marked m g) (marked m k) others)

lack-bound : (m : Marks) → (marked m F.TyBound ≡ false) × (marked m F.RegionBound ≡ false) × (marked m F.ConstBound ≡ false) → Lack of_bound (marked m)
lack-bound m three F.TyBound q = three.0
lack-bound m three F.RegionBound q = three.1
lack-bound m three F.ConstBound q = three.2
lack-bound m three _ q = absurd cc

pub none-bound : (m : Marks) (t : Tree) (b : Bool) → AreMarks m t → b ≡ marked m F.TyBound || (marked m F.RegionBound || marked m F.ConstBound) → b ≡ false
    → tree_holds is_any_bound t ≡ false
none-bound m t b kept e n = none-in of_bound is_any_bound not-bound m t kept (lack-bound m (none-of-three F.TyBound F.RegionBound F.ConstBound m b e n))

-- flags of what may still say something

abbrev of_interest : Flag → Bool
of_interest F.TyInfer = true
of_interest F.RegionInfer = true
of_interest F.ConstInfer = true
of_interest F.TyPlaceholder = true
of_interest F.RegionPlaceholder = true
of_interest F.ConstPlaceholder = true
of_interest F.Alias = true
of_interest _ = false

no-sort : (s : VariableSort) → of_type s ≡ false → of_constant s ≡ false → true ≡ false
no-sort V.Constant t c = c
no-sort _ t c = t

not-of-interest : (h : Head) → Lack of_interest (λ f. mark f h) → is_of_interest h ≡ false
not-of-interest (H.Infer v) lack = no-sort v.sort (lack F.TyInfer refl) (lack F.ConstInfer refl)
not-of-interest (H.Placeholder p) lack = lack F.TyPlaceholder refl
not-of-interest (H.Alias k d) lack = lack F.Alias refl
not-of-interest (H.Const c) lack = at c (lack F.ConstPlaceholder refl) (lack F.Alias refl)
  where
    at : (k : ConstHead) → mark F.ConstPlaceholder (H.Const k) ≡ false → mark F.Alias (H.Const k) ≡ false → is_of_interest (H.Const k) ≡ false
    at (C.Placeholder p) e a = e
    at (C.Unevaluated d) e a = a
    at _ e a = refl
not-of-interest (H.Region r) lack = at r (lack F.RegionPlaceholder refl) (lack F.RegionInfer refl)
  where
    at : (k : RegionKind) → mark F.RegionPlaceholder (H.Region k) ≡ false → mark F.RegionInfer (H.Region k) ≡ false → is_of_interest (H.Region k) ≡ false
    at (R.Placeholder p) e v = e
    at (R.Var n) e v = v
    at _ e v = refl
not-of-interest _ lack = refl

lack-of-interest : (m : Marks) → (marked m F.TyInfer ≡ false) × (marked m F.RegionInfer ≡ false) × (marked m F.ConstInfer ≡ false)
    → (marked m F.TyPlaceholder ≡ false) × (marked m F.RegionPlaceholder ≡ false) × (marked m F.ConstPlaceholder ≡ false) → marked m F.Alias ≡ false → Lack of_interest (marked m)
lack-of-interest m vs ps a F.TyInfer q = vs.0
lack-of-interest m vs ps a F.RegionInfer q = vs.1
lack-of-interest m vs ps a F.ConstInfer q = vs.2
lack-of-interest m vs ps a F.TyPlaceholder q = ps.0
lack-of-interest m vs ps a F.RegionPlaceholder q = ps.1
lack-of-interest m vs ps a F.ConstPlaceholder q = ps.2
lack-of-interest m vs ps a F.Alias q = a
lack-of-interest m vs ps a _ q = absurd cc

pub none-of-interest : (m : Marks) (t : Tree) (v p a : Bool) → AreMarks m t → v ≡ marked m F.TyInfer || (marked m F.RegionInfer || marked m F.ConstInfer) → v ≡ false
    → p ≡ marked m F.TyPlaceholder || (marked m F.RegionPlaceholder || marked m F.ConstPlaceholder) → p ≡ false → a ≡ marked m F.Alias → a ≡ false
    → tree_holds is_of_interest t ≡ false
none-of-interest m t v p a kept e n f k g l = none-in of_interest is_of_interest not-of-interest m t kept
    (lack-of-interest m (none-of-three F.TyInfer F.RegionInfer F.ConstInfer m v e n) (none-of-three F.TyPlaceholder F.RegionPlaceholder F.ConstPlaceholder m p f k) (sym g ∙ l))
