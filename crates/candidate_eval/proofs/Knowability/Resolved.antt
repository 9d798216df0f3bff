-- What makes a reference resolved.
use Rattle.std.proofs.Common.{◌≡◌, false, refl}
use Rattle.ir_trees.specs.Syntax.Trees.{Forest, none, tree, Tree, holds}
use Rattle.candidate_eval.specs.Knowability.Laws.{AreResolved}
use Rattle.candidate_eval.specs.Knowability.Orphan.{is_variable}
use Rattle.candidate_eval.proofs.Marks.Holds.{holds_parts}

-- in a context without values everything is
pub all-resolved : (a : Forest) → AreResolved (λ t. t) a
all-resolved none = tt
all-resolved (tree h below rest) = (λ e. refl, all-resolved below, all-resolved rest)

-- where what is no variable stays, all that holds no variable is
pub resolved-without-variables : (resolve : Tree → Tree) → ((t : Tree) → is_variable t.head ≡ false → resolve t ≡ t)
    → (a : Forest) → holds is_variable a ≡ false → AreResolved resolve a
resolved-without-variables resolve stays none e = tt
resolved-without-variables resolve stays (tree h below rest) e =
    let p = holds_parts is_variable h below rest e in
    (λ k. stays (record { head = h; children = below }) p.here, resolved-without-variables resolve stays below p.under, resolved-without-variables resolve stays rest p.others)
