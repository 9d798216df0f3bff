-- Rows of trees in two parts, and their first trees: lemmas that the laws of goals of projections rest on.
use Rattle.std.proofs.Common.{◌≡◌, ℕ, Bool, false, refl, ap}
use Rattle.ir_trees.specs.declared.ir.heads.Head.{Head}
use Rattle.ir_trees.specs.declared.ir.heads.Head.TheVariants as H
use Rattle.ir_trees.specs.Hierarchy.Supers.{after_first}
use Rattle.ir_trees.specs.Syntax.Binders.{escapes}
use Rattle.ir_trees.specs.Syntax.Trees.{Forest, Tree, holds, join, none, tree}
use Rattle.ir_trees.specs.Unification.Substitutions.{alone}
use Rattle.ir_trees.proofs.Instantiation.Folding.{begin}
use Rattle.candidate_eval.specs.Dynamic.ObjectRequirements.{first_tree}
use Rattle.candidate_eval.specs.Judges.States.{State, resolved, resolved_tree}
use Rattle.candidate_eval.proofs.Marks.Closed.{after-closed, closed, closed-parts}
use Rattle.candidate_eval.proofs.Marks.Holds.{holds_parts}
use Rattle.candidate_eval.proofs.Marks.Marking.{after-unmarked, unmarked}
use Rattle.candidate_assembly.specs.Goals.TraitGoals.{with_first}
use Rattle.projection_goals.specs.Normalizing.{as_many, left_after}

-- Rows of trees in two parts.

pub held-parts : (mark : Head → Bool) (a b : Forest) → holds mark (join a b) ≡ false → (holds mark a ≡ false) × (holds mark b ≡ false)
held-parts mark none b e = (refl, e)
held-parts mark (tree h below rest) b e =
    let p = holds_parts mark h below (join rest b) e in
    let q = held-parts mark rest b p.others in
    (unmarked mark h below rest p.here p.under q.0, q.1)

pub held-join : (mark : Head → Bool) (a b : Forest) → holds mark a ≡ false → holds mark b ≡ false → holds mark (join a b) ≡ false
held-join mark none b e f = f
held-join mark (tree h below rest) b e f =
    let p = holds_parts mark h below rest e in
    unmarked mark h below (join rest b) p.here p.under (held-join mark rest b p.others f)

pub escaping-parts : (n : ℕ) (a b : Forest) → escapes n (join a b) ≡ false → (escapes n a ≡ false) × (escapes n b ≡ false)
escaping-parts n none b e = (refl, e)
escaping-parts n (tree h below rest) b e =
    let p = closed-parts n h below (join rest b) e in
    let q = escaping-parts n rest b p.others in
    (closed n h below rest p.here p.under q.0, q.1)

pub escaping-join : (n : ℕ) (a b : Forest) → escapes n a ≡ false → escapes n b ≡ false → escapes n (join a b) ≡ false
escaping-join n none b e f = f
escaping-join n (tree h below rest) b e f =
    let p = closed-parts n h below rest e in
    closed n h below (join rest b) p.here p.under (escaping-join n rest b p.others f)

pub parts-join : (a ts : Forest) → join (as_many a ts) (left_after a ts) ≡ ts
parts-join none ts = refl
parts-join (tree h below rest) none = refl
parts-join (tree h below rest) (tree g inner more) = ap (tree g inner) (parts-join rest more)

pub as-many-resolved : (S : State) (a b : Forest) → as_many a (resolved S (join a b)) ≡ resolved S a
as-many-resolved S none b = refl
as-many-resolved S (tree h below rest) b = ap (begin (resolved_tree S (record { head = h; children = below }))) (as-many-resolved S rest b)

pub left-resolved : (S : State) (a b : Forest) → left_after a (resolved S (join a b)) ≡ resolved S b
left-resolved S none b = refl
left-resolved S (tree h below rest) b = left-resolved S rest b

-- The first tree.

pub first-held : (mark : Head → Bool) (ts : Forest) → mark H.Error ≡ false → holds mark ts ≡ false → holds mark (alone (first_tree ts)) ≡ false
first-held mark none x h = unmarked mark H.Error none none x refl refl
first-held mark (tree h below rest) x e = let p = holds_parts mark h below rest e in unmarked mark h below none p.here p.under refl

pub first-escapes : (n : ℕ) (ts : Forest) → escapes n ts ≡ false → escapes n (alone (first_tree ts)) ≡ false
first-escapes n none h = refl
first-escapes n (tree h below rest) e = let p = closed-parts n h below rest e in closed n h below none p.here p.under refl

pub first-resolved : (S : State) (ts : Forest) → first_tree (resolved S ts) ≡ resolved_tree S (first_tree ts)
first-resolved S none = refl
first-resolved S (tree h below rest) = refl

pub with-first-held : (mark : Head → Bool) (t : Tree) (ts more : Forest) → holds mark (join ts more) ≡ false → holds mark (alone t) ≡ false → holds mark (join (with_first t ts) more) ≡ false
with-first-held mark t ts more h k =
    let p = holds_parts mark t.head t.children none k in
    let q = held-parts mark ts more h in
    unmarked mark t.head t.children (join (after_first ts) more) p.here p.under (held-join mark (after_first ts) more (after-unmarked mark ts q.0) q.1)

pub with-first-closed : (n : ℕ) (t : Tree) (ts more : Forest) → escapes n (join ts more) ≡ false → escapes n (alone t) ≡ false → escapes n (join (with_first t ts) more) ≡ false
with-first-closed n t ts more h k =
    let p = closed-parts n t.head t.children none k in
    let q = escaping-parts n ts more h in
    closed n t.head t.children (join (after_first ts) more) p.here p.under (escaping-join n (after_first ts) more (after-closed n ts q.0) q.1)
