-- What is noted of trees where no variable stands, and of trees where no placeholder does.
use Rattle.std.proofs.Common.{◌≡◌, ℕ, Bool, true, false, List, Option, None, Some, max, refl, sym, ◌∙◌, ap}
use Rattle.std.specs.Prelude.{◌&&◌, ◌||◌}
use Rattle.ir_trees.specs.declared.ir.heads.Flag.TheVariants as F
use Rattle.ir_trees.specs.declared.ir.heads.Head.{Head}
use Rattle.ir_trees.specs.declared.ir.heads.Head.TheVariants as H
use Rattle.ir_trees.specs.declared.ir.heads.ConstHead.{ConstHead}
use Rattle.ir_trees.specs.declared.ir.heads.ConstHead.TheVariants as C
use Rattle.ir_trees.specs.declared.ir.heads.Marks.{Marks}
use Rattle.ir_trees.specs.declared.ir.kinds.RegionKind.{RegionKind}
use Rattle.ir_trees.specs.declared.ir.kinds.RegionKind.TheVariants as R
use Rattle.ir_trees.specs.Instantiation.Owned.{is_numbered, is_unsolved}
use Rattle.ir_trees.specs.Syntax.Flags.{mark}
use Rattle.ir_trees.specs.Syntax.Marks.{AreMarks, marked}
use Rattle.ir_trees.specs.Syntax.Trees.{Forest, none, tree, Tree, holds, tree_holds, variable_number}
use Rattle.ir_trees.proofs.Instantiation.Folding.{or-left, or-right}
use Rattle.rounds_judge.specs.Obligations.Responding.{with_number, with_numbers}
use Rattle.rounds_judge.specs.Table.Keys.{greatest_named, universe_named}
use Rattle.rounds_judge.specs.Table.TableSettling.{are_bare, is_bare}

pub unsolved-below : (t : Tree) → tree_holds is_unsolved t ≡ false → holds is_unsolved t.children ≡ false
unsolved-below t e = or-right (is_unsolved t.head) (holds is_unsolved t.children) e

none-noted : (ns : List ℕ) (o : Option ℕ) → is_numbered o ≡ false → ns ≡ with_number ns o
none-noted ns None e = refl
none-noted ns (Some n) e = absurd cc

pub noted-quiet : (ns : List ℕ) (ts : Forest) → holds is_unsolved ts ≡ false → ns ≡ with_numbers ns ts
noted-quiet ns none e = refl
noted-quiet ns (tree h below rest) e =
    let inner = or-right (is_unsolved h) (holds is_unsolved below || holds is_unsolved rest) e in
    let here = none-noted ns (variable_number h) (or-left (is_unsolved h) (holds is_unsolved below || holds is_unsolved rest) e) in
    noted-quiet ns rest (or-right (holds is_unsolved below) (holds is_unsolved rest) inner)
    ∙ ap (λ (ms : List ℕ). with_numbers ms rest)
    (noted-quiet ns below (or-left (holds is_unsolved below) (holds is_unsolved rest) inner) ∙ ap (λ (ms : List ℕ). with_numbers ms below) here)

is-bare : (h : Head) (below : Forest) → is_unsolved h ≡ false → is_bare h below ≡ true
is-bare (H.Infer v) below e = absurd cc
is-bare _ below e = refl

pub bare-quiet : (ts : Forest) → holds is_unsolved ts ≡ false → are_bare ts ≡ true
bare-quiet none e = refl
bare-quiet (tree h below rest) e =
    let inner = or-right (is_unsolved h) (holds is_unsolved below || holds is_unsolved rest) e in
    ap (λ (b : Bool). b && (are_bare below && are_bare rest)) (is-bare h below (or-left (is_unsolved h) (holds is_unsolved below || holds is_unsolved rest) e))
    ∙ (ap (λ (b : Bool). b && are_bare rest) (bare-quiet below (or-left (holds is_unsolved below) (holds is_unsolved rest) inner))
    ∙ bare-quiet rest (or-right (holds is_unsolved below) (holds is_unsolved rest) inner))

-- none of three marks
abbrev Lack : (Head → Bool) → Forest → Type 0
Lack m ts = holds m ts ≡ false

unnamed : (h : Head) → mark F.TyPlaceholder h ≡ false → mark F.RegionPlaceholder h ≡ false → mark F.ConstPlaceholder h ≡ false → 0 ≡ universe_named h
unnamed (H.Placeholder p) t r c = absurd cc
unnamed (H.Const k) t r c = at k c
  where
    at : (k : ConstHead) → mark F.ConstPlaceholder (H.Const k) ≡ false → 0 ≡ universe_named (H.Const k)
    at (C.Placeholder p) e = absurd cc
    at _ e = refl
unnamed (H.Region k) t r c = at k r
  where
    at : (k : RegionKind) → mark F.RegionPlaceholder (H.Region k) ≡ false → 0 ≡ universe_named (H.Region k)
    at (R.Placeholder p) e = absurd cc
    at _ e = refl
unnamed _ t r c = refl

named : (ts : Forest) → Lack (mark F.TyPlaceholder) ts → Lack (mark F.RegionPlaceholder) ts → Lack (mark F.ConstPlaceholder) ts → 0 ≡ greatest_named ts
named none t r c = refl
named (tree h below rest) t r c =
    let inner : (m : Head → Bool) → Lack m (tree h below rest) → (holds m below || holds m rest) ≡ false = λ m e. or-right (m h) (holds m below || holds m rest) e in
    let here : (m : Head → Bool) → Lack m (tree h below rest) → m h ≡ false = λ m e. or-left (m h) (holds m below || holds m rest) e in
    let under : (m : Head → Bool) → Lack m (tree h below rest) → holds m below ≡ false = λ m e. or-left (holds m below) (holds m rest) (inner m e) in
    let after : (m : Head → Bool) → Lack m (tree h below rest) → holds m rest ≡ false = λ m e. or-right (holds m below) (holds m rest) (inner m e) in
    let a = unnamed h (here (mark F.TyPlaceholder) t) (here (mark F.RegionPlaceholder) r) (here (mark F.ConstPlaceholder) c) in
    let b = named below (under (mark F.TyPlaceholder) t) (under (mark F.RegionPlaceholder) r) (under (mark F.ConstPlaceholder) c) in
    let d = named rest (after (mark F.TyPlaceholder) t) (after (mark F.RegionPlaceholder) r) (after (mark F.ConstPlaceholder) c) in
    λ i. max (a i) (max (b i) (d i))

-- a tree of which no placeholder is kept
record Unplaced (t : Tree) : Type 0 where
  types : tree_holds (mark F.TyPlaceholder) t ≡ false
  regions : tree_holds (mark F.RegionPlaceholder) t ≡ false
  constants : tree_holds (mark F.ConstPlaceholder) t ≡ false

unplaced : (m : Marks) (t : Tree) (b : Bool) → AreMarks m t → b ≡ marked m F.TyPlaceholder || (marked m F.RegionPlaceholder || marked m F.ConstPlaceholder) → b ≡ false → Unplaced t
unplaced m t b a e n =
    let all : (tree_holds (mark F.TyPlaceholder) t || (tree_holds (mark F.RegionPlaceholder) t || tree_holds (mark F.ConstPlaceholder) t)) ≡ false =
    (λ i. sym (a F.TyPlaceholder) i || (sym (a F.RegionPlaceholder) i || sym (a F.ConstPlaceholder) i)) ∙ (sym e ∙ n) in
    let others = or-right (tree_holds (mark F.TyPlaceholder) t) (tree_holds (mark F.RegionPlaceholder) t || tree_holds (mark F.ConstPlaceholder) t) all in
    record {
      types = or-left (tree_holds (mark F.TyPlaceholder) t) (tree_holds (mark F.RegionPlaceholder) t || tree_holds (mark F.ConstPlaceholder) t) all;
      regions = or-left (tree_holds (mark F.RegionPlaceholder) t) (tree_holds (mark F.ConstPlaceholder) t) others;
      constants = or-right (tree_holds (mark F.RegionPlaceholder) t) (tree_holds (mark F.ConstPlaceholder) t) others;
    }

pub greatest-quiet : (m : Marks) (t : Tree) (b : Bool) → AreMarks m t → b ≡ marked m F.TyPlaceholder || (marked m F.RegionPlaceholder || marked m F.ConstPlaceholder) → b ≡ false
    → 0 ≡ greatest_named t.children
greatest-quiet m t b a e n =
    let u = unplaced m t b a e n in
    let below : (p : Head → Bool) → tree_holds p t ≡ false → holds p t.children ≡ false = λ p q. or-right (p t.head) (holds p t.children) q in
    named t.children (below (mark F.TyPlaceholder) u.types) (below (mark F.RegionPlaceholder) u.regions) (below (mark F.ConstPlaceholder) u.constants)

pub root-quiet : (m : Marks) (t : Tree) (b : Bool) → AreMarks m t → b ≡ marked m F.TyPlaceholder || (marked m F.RegionPlaceholder || marked m F.ConstPlaceholder) → b ≡ false
    → 0 ≡ universe_named t.head
root-quiet m t b a e n =
    let u = unplaced m t b a e n in
    let here : (p : Head → Bool) → tree_holds p t ≡ false → p t.head ≡ false = λ p q. or-left (p t.head) (holds p t.children) q in
    unnamed t.head (here (mark F.TyPlaceholder) u.types) (here (mark F.RegionPlaceholder) u.regions) (here (mark F.ConstPlaceholder) u.constants)
