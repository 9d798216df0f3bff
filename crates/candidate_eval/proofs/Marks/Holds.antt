-- Whether a head with a mark stands in trees: of a tree, of its parts, of trees without regions, and by another mark.
use Rattle.std.proofs.Common.{◌≡◌, Bool, true, false, ◌||◌, refl}
use Rattle.ir_trees.specs.Syntax.Trees.{Forest, none, tree, erase, erased_head, holds}
use Rattle.ir_trees.specs.declared.ir.heads.Head.{Head}

pub or_false : (a b : Bool) → (a || b) ≡ false → (a ≡ false) × (b ≡ false)
or_false true b e = cc
or_false false b e = (refl, e)

pub record Parts (mark : Head → Bool) (h : Head) (below rest : Forest) : Type 0 where
  pub here : mark h ≡ false
  pub under : holds mark below ≡ false
  pub others : holds mark rest ≡ false

pub holds_parts : (mark : Head → Bool) (h : Head) (below rest : Forest)
    → holds mark (tree h below rest) ≡ false → Parts mark h below rest
holds_parts mark h below rest e =
    let p = or_false (mark h) _ e in
    let q = or_false (holds mark below) _ p.1 in
    record { here = p.0; under = q.0; others = q.1 }

pub holds_erase : (mark : Head → Bool) → ((h : Head) → mark (erased_head h) ≡ mark h)
    → (a : Forest) → holds mark (erase a) ≡ holds mark a
holds_erase mark keeps none = refl
holds_erase mark keeps (tree h below rest) =
    rw (keeps h, holds_erase mark keeps below, holds_erase mark keeps rest)

-- trees without the one mark have none of the other
pub holds_imply : (mark other : Head → Bool) → ((h : Head) → mark h ≡ false → other h ≡ false)
    → (a : Forest) → holds mark a ≡ false → holds other a ≡ false
holds_imply mark other imply none e = refl
holds_imply mark other imply (tree h below rest) e =
    let p = holds_parts mark h below rest e in
    rw (imply h p.here, holds_imply mark other imply below p.under, holds_imply mark other imply rest p.others)
