-- Trees with others in the place of their open parts: what stands in neither stands in none of what comes, and where each part is equal to what
-- stands in its place, so are the trees.
use Rattle.std.proofs.Common.{◌≡◌, Bool, true, false, not, ◌||◌, List, [], ◌∷◌, ◌++◌, Some, refl, subst, if◌then◌else◌}
use Rattle.std.specs.List.{All}
use Rattle.std.proofs.lemmas.Bool.{and_parts, not-true}
use Rattle.std.proofs.lemmas.List.Elements.{All-append, All-cons, All-head, All-nil, All-tail}
use Rattle.ir_trees.specs.declared.ir.heads.Head.{Head}
use Rattle.ir_trees.specs.Hierarchy.Elaboration.{same_tree}
use Rattle.ir_trees.specs.Hierarchy.Supers.{after_first}
use Rattle.ir_trees.specs.Instantiation.Folds.{node}
use Rattle.ir_trees.specs.Syntax.Binders.{escapes}
use Rattle.ir_trees.specs.Syntax.Trees.{Forest, none, tree, Tree, holds, is_alias, kind_of}
use Rattle.ir_trees.specs.Unification.Substitutions.{alone}
use Rattle.ir_context.proofs.Hierarchy.Elaboration.{tree_is}
use Rattle.candidate_eval.specs.Judges.Lawful.{is_type_or_constant}
use Rattle.candidate_eval.specs.Judges.Soundness.{Live, ValuesFit}
use Rattle.candidate_eval.specs.Judges.States.{State, resolved, resolved_tree}
use Rattle.candidate_eval.proofs.Marks.Holds.{holds_parts}
use Rattle.rounds_judge.specs.Aliases.Congruence.{Same, SameTree}
use Rattle.rounds_judge.specs.Aliases.Listed.{Listing, listed_in}
use Rattle.rounds_judge.specs.Aliases.OpenParts.{first_or, has_loose_alias, is_among, is_closed_term, is_open_part, opened, paired, with_part, with_parts}
use Rattle.rounds_judge.specs.Equations.Standing.{IsListing}
use Rattle.rounds_judge.proofs.Aliases.Equated.{fold_same}
use Rattle.rounds_judge.proofs.Obligations.Settling.{after_first_closed, after_first_marked}
use Rattle.rounds_judge.proofs.States.Marks.{escape_parts, escape_whole, fold_closed, fold_marked, whole}

-- What holds of each open part holds of all that are noted.

part_all : (P : Tree → Type 0) (ps : List Tree) (t : Tree) → All P ps → P t → All P (with_part ps t)
part_all P ps t a p = at (is_among ps t)
  where
    at : (b : Bool) → All P (if b then ps else ps ++ t ∷ [])
    at true = a
    at false = All-append P ps (t ∷ []) a (All-cons P t [] p (All-nil P))

pub parts_unmarked : (mark : Head → Bool) (ps : List Tree) (ts : Forest) → All (λ t. holds mark (alone t) ≡ false) ps → holds mark ts ≡ false → All (λ t. holds mark (alone t) ≡ false) (with_parts ps ts)
parts_unmarked mark ps none a e = a
parts_unmarked mark ps (tree h below rest) a e =
    let p = holds_parts mark h below rest e in
    parts_unmarked mark (if is_open_part h below then with_part ps (node h below) else with_parts ps below) rest (at (is_open_part h below) (whole mark h below none p.here p.under refl) (parts_unmarked mark ps below a p.under)) p.others
  where
    at : (b : Bool) → holds mark (alone (node h below)) ≡ false → All (λ t. holds mark (alone t) ≡ false) (with_parts ps below)
        → All (λ t. holds mark (alone t) ≡ false) (if b then with_part ps (node h below) else with_parts ps below)
    at true one under = part_all (λ t. holds mark (alone t) ≡ false) ps (node h below) a one
    at false one under = under

open_closed : (h : Head) (below : Forest) → is_open_part h below ≡ true → escapes 0 (alone (node h below)) ≡ false
open_closed h below e =
    let p = and_parts (is_closed_term h below) (is_alias h || has_loose_alias below) e in
    not-true (escapes 0 (tree h below none)) (and_parts (is_type_or_constant (kind_of h)) (not (escapes 0 (tree h below none))) p.0).1

pub parts_closed : (ps : List Tree) (ts : Forest) → All (λ t. escapes 0 (alone t) ≡ false) ps → All (λ t. escapes 0 (alone t) ≡ false) (with_parts ps ts)
parts_closed ps none a = a
parts_closed ps (tree h below rest) a =
    parts_closed (if is_open_part h below then with_part ps (node h below) else with_parts ps below) rest (at (is_open_part h below) refl (parts_closed ps below a))
  where
    at : (b : Bool) → is_open_part h below ≡ b → All (λ t. escapes 0 (alone t) ≡ false) (with_parts ps below)
        → All (λ t. escapes 0 (alone t) ≡ false) (if b then with_part ps (node h below) else with_parts ps below)
    at true e under = part_all (λ t. escapes 0 (alone t) ≡ false) ps (node h below) a (open_closed h below e)
    at false e under = under

-- Pairs

pub first_unmarked : (mark : Head → Bool) (t : Tree) (vs : Forest) → holds mark (alone t) ≡ false → holds mark vs ≡ false → holds mark (alone (first_or t vs)) ≡ false
first_unmarked mark t none e f = e
first_unmarked mark t (tree h below rest) e f = let p = holds_parts mark h below rest f in whole mark h below none p.here p.under refl

pub first_closed : (t : Tree) (vs : Forest) → escapes 0 (alone t) ≡ false → escapes 0 vs ≡ false → escapes 0 (alone (first_or t vs)) ≡ false
first_closed t none e f = e
first_closed t (tree h below rest) e f = let p = escape_parts 0 h below rest f in escape_whole 0 h below none p.here p.under refl

-- what holds of each part and what it is paired with
abbrev pub AllPairs : (Tree → Tree → Type 0) → List (Tree × Tree) → Type 0
AllPairs P ps = All (λ (p : Tree × Tree). P p.0 p.1) ps

-- no mark stands in either
abbrev pub AreFree : (Head → Bool) → Tree → Tree → Type 0
AreFree mark t u = (holds mark (alone t) ≡ false) × (holds mark (alone u) ≡ false)

abbrev pub AreClosed : Tree → Tree → Type 0
AreClosed t u = (escapes 0 (alone t) ≡ false) × (escapes 0 (alone u) ≡ false)

pub pairs_unmarked : (mark : Head → Bool) (ps : List Tree) (vs : Forest) → All (λ t. holds mark (alone t) ≡ false) ps → holds mark vs ≡ false → AllPairs (AreFree mark) (paired ps vs)
pairs_unmarked mark [] vs a e = All-nil (λ (p : Tree × Tree). AreFree mark p.0 p.1)
pairs_unmarked mark (t ∷ ts) vs a e =
    let k = All-head (λ t. holds mark (alone t) ≡ false) t ts a in
    All-cons (λ (p : Tree × Tree). AreFree mark p.0 p.1) (t, first_or t vs) (paired ts (after_first vs)) (k, first_unmarked mark t vs k e)
    (pairs_unmarked mark ts (after_first vs) (All-tail (λ t. holds mark (alone t) ≡ false) t ts a) (after_first_marked mark vs e))

pub pairs_closed : (ps : List Tree) (vs : Forest) → All (λ t. escapes 0 (alone t) ≡ false) ps → escapes 0 vs ≡ false → AllPairs AreClosed (paired ps vs)
pairs_closed [] vs a e = All-nil (λ (p : Tree × Tree). AreClosed p.0 p.1)
pairs_closed (t ∷ ts) vs a e =
    let k = All-head (λ t. escapes 0 (alone t) ≡ false) t ts a in
    All-cons (λ (p : Tree × Tree). AreClosed p.0 p.1) (t, first_or t vs) (paired ts (after_first vs)) (k, first_closed t vs k e)
    (pairs_closed ts (after_first vs) (All-tail (λ t. escapes 0 (alone t) ≡ false) t ts a) (after_first_closed 0 vs e))

-- what holds of all pairs holds of a tree and what is found for it
pub pair_found : (P : Tree → Tree → Type 0) (ps : List (Tree × Tree)) (t u : Tree) → listed_in ps t ≡ Some u → AllPairs P ps → P t u
pair_found P [] t u e a = cc
pair_found P (p ∷ ps) t u e a = at (same_tree p.0 t) refl e (λ f. pair_found P ps t u f (All-tail (λ (q : Tree × Tree). P q.0 q.1) p ps a))
  where
    at : (b : Bool) → same_tree p.0 t ≡ b → (if b then Some p.1 else listed_in ps t) ≡ Some u → (listed_in ps t ≡ Some u → P t u) → P t u
    at true s f g = let is : p.1 ≡ u = cc in subst (λ (q : Tree × Tree). P q.0 q.1) (λ i. (tree_is p.0 t s i, is i)) (All-head (λ (q : Tree × Tree). P q.0 q.1) p ps a)
    at false s f g = g f

-- What is opened

pub opened_unmarked : (mark : Head → Bool) (ps : List (Tree × Tree)) (ts : Forest) → AllPairs (AreFree mark) ps → holds mark ts ≡ false → holds mark (opened ps ts) ≡ false
opened_unmarked mark ps ts a e =
    fold_marked (λ d u. listed_in ps u) mark mark mark (λ d t x y f. x) (λ d t u x y f. (pair_found (AreFree mark) ps t u f a).1) 0 ts e e

pub opened_closed : (ps : List (Tree × Tree)) (ts : Forest) → AllPairs AreClosed ps → escapes 0 ts ≡ false → escapes 0 (opened ps ts) ≡ false
opened_closed ps ts a e = fold_closed (λ d u. listed_in ps u) (λ d t u f. (pair_found AreClosed ps t u f a).1) 0 0 ts e

-- each part is equal to what stands in its place
abbrev pub AreEqual : Listing → State → Tree → Tree → Type 0
AreEqual l U t u = SameTree l (resolved_tree U t) (resolved_tree U u)

pub opened_same : (l : Listing) → IsListing l → (U : State) (L : Live) → ValuesFit U L → (ps : List (Tree × Tree)) (ts : Forest) → AllPairs (AreEqual l U) ps → Same l (resolved U ts) (resolved U (opened ps ts))
opened_same l listing U L fits ps ts a = fold_same l listing U L fits (λ d u. listed_in ps u) (λ d t x e. pair_found (AreEqual l U) ps t x e a) 0 ts
