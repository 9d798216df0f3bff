-- The view of a type by its resolved form and the normaliser's answer.
use Rattle.std.proofs.Common.{◌≡◌, Bool, true, false, sym, ◌∙◌, ap, if◌then◌else◌}
use Rattle.ir_trees.specs.declared.ir.kinds.Ty.{Ty}
use Rattle.ir_trees.specs.Declarations.Context.{Context}
use Rattle.ir_trees.specs.Syntax.Trees.{Tree}
use Rattle.ir_trees.specs.Syntax.Words.{ty_tree}
use Rattle.candidate_eval.specs.Knowability.Orphan.{Seen, Sees, Sight, View, view, is_general, unless_general}

pub view-general : {S E : Type 0} (resolve : S → Tree → Tree) (normal : View S E) (s after : S) (t u v w : Tree)
    → u ≡ resolve s t → normal s u ≡ record { seen = Sees v; after = after } → true ≡ is_general v.head → w ≡ u
    → view resolve normal s t ≡ record { seen = Sees w; after = after }
view-general {S} {E} resolve normal s after t u v w r n g k =
    ap (λ (x : Tree). let y : Sight S E = record { seen = unless_general x (normal s x).seen; after = (normal s x).after } in y) (sym r)
    ∙ (ap (λ (x : Sight S E). let y : Sight S E = record { seen = unless_general u x.seen; after = x.after } in y) n
    ∙ (ap (λ (b : Bool). let y : Sight S E = record { seen = if b then Sees u else Sees v; after = after } in y) (sym g)
    ∙ ap (λ (x : Tree). let y : Sight S E = record { seen = Sees x; after = after } in y) (sym k)))

-- where the answer is none
pub view-other : {S E : Type 0} (resolve : S → Tree → Tree) (normal : View S E) (s after : S) (t u : Tree) (x y : Seen E)
    → u ≡ resolve s t → normal s u ≡ record { seen = x; after = after } → unless_general u x ≡ y
    → view resolve normal s t ≡ record { seen = y; after = after }
view-other {S} {E} resolve normal s after t u x y r n k =
    ap (λ (z : Tree). let w : Sight S E = record { seen = unless_general z (normal s z).seen; after = (normal s z).after } in w) (sym r)
    ∙ (ap (λ (z : Sight S E). let w : Sight S E = record { seen = unless_general u z.seen; after = z.after } in w) n
    ∙ ap (λ (z : Seen E). let w : Sight S E = record { seen = z; after = after } in w) k)

pub sees-other : {E : Type 0} (u v : Tree) → is_general v.head ≡ false → unless_general {E = E} u (Sees v) ≡ Sees v
sees-other {E} u v e = ap (λ (b : Bool). let x : Seen E = if b then Sees u else Sees v in x) e

-- what a test of the context that is lent says of the context itself
pub general-there : (lent c : Context) (t : Ty) (r b : Bool) → r ≡ is_general (ty_tree lent.trees t).head → lent ≡ c → r ≡ b → is_general (ty_tree c.trees t).head ≡ b
general-there lent c t r b h e k = sym (ap (λ (x : Context). is_general (ty_tree x.trees t).head) e) ∙ (sym h ∙ k)
