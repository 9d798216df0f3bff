-- What a look at two trees comes to.
use Rattle.std.proofs.Common.{◌≡◌, Bool, true, false, ◌&&◌, Option, Some, None, List, ◌∷◌, refl, ap, subst, ◌∙◌, if◌then◌else◌}
use Rattle.ir_trees.specs.declared.ir.heads.Head.{Head}
use Rattle.ir_trees.specs.declared.ir.heads.Head.TheVariants as H
use Rattle.ir_trees.specs.declared.ir.heads.Variable.{Variable}
use Rattle.ir_trees.specs.Syntax.Trees.{Tree}
use Rattle.ir_trees.specs.Unification.Unify.{same_head}
use Rattle.ir_trees.proofs.Syntax.Equal.{head_is}
use Rattle.candidate_eval.specs.Judges.States.{State}
use Rattle.candidate_eval.specs.Judges.Soundness.{is_region}
use Rattle.rounds_judge.specs.Aliases.Listed.{Listing}
use Rattle.rounds_judge.specs.Equations.Scopes.{Scope, placed_tree, scope_below, entered}
use Rattle.rounds_judge.specs.Equations.Binding.{may_take, bound}
use Rattle.rounds_judge.specs.Equations.Equating.{Pair, Visit, Refused, Left, value_for, offered, with_equal_regions, matched, first_of, met}

-- The head is no variable that may take the tree.
abbrev pub Declines : State → Head → Tree → Type 0
Declines S h t = (v : Variable) → h ≡ H.Infer v → may_take S v t ≡ false

-- Two trees meet; `t` is what the left one's variable is offered, and `u` what the right one's.
pub data Met (S : State) (us : Scope) (x y t u : Tree) (more : List Pair) : Visit → Type 0 where
  by_left : (v : Variable) → x.head ≡ H.Infer v → may_take S v t ≡ true → Met S us x y t u more (Left (bound S v t) more)
  by_right : (v : Variable) → y.head ≡ H.Infer v → may_take S v u ≡ true → Met S us x y t u more (Left (bound S v u) more)
  regions : is_region x.head ≡ true → is_region y.head ≡ true → Met S us x y t u more (Left (with_equal_regions S (placed_tree us x) (placed_tree us y)) more)
  below : x.head ≡ y.head → is_region x.head ≡ false
      → Met S us x y t u more (Left (entered S x.head x.children) (record { scope = scope_below S us x.head x.children; left = x.children; right = y.children } ∷ more))
  stuck : Declines S x.head t → Declines S y.head u → (is_region x.head && is_region y.head) ≡ false → same_head x.head y.head ≡ false → Met S us x y t u more Refused

data Offer (S : State) (h : Head) (t : Tree) (more : List Pair) : Option Visit → Type 0 where
  takes : (v : Variable) → h ≡ H.Infer v → may_take S v t ≡ true → Offer S h t more (Some (Left (bound S v t) more))
  declines : Declines S h t → Offer S h t more None

offer : (l : Listing) (S : State) (us : Scope) (h : Head) (t : Tree) (more : List Pair) → Offer S h (value_for l S us t) more (offered l S us h t more)
offer l S us (H.Infer v) t more = at (may_take S v (value_for l S us t)) refl
  where
    at : (b : Bool) → may_take S v (value_for l S us t) ≡ b → Offer S (H.Infer v) (value_for l S us t) more (if b then Some (Left (bound S v (value_for l S us t)) more) else None)
    at true e = takes v refl e
    at false e = declines (λ w f. let same : v ≡ w = cc in subst (λ z. may_take S z (value_for l S us t) ≡ false) same e)
offer l S us h t more = declines (λ v e. cc)

both : (a b : Bool) → (a && b) ≡ true → (a ≡ true) × (b ≡ true)
both true b e = (refl, e)
both false b e = cc

own_region : (h g : Head) → h ≡ g → (is_region h && is_region g) ≡ false → is_region h ≡ false
own_region h g e f = at (is_region h) (is_region g) (ap is_region e) f
  where
    at : (a b : Bool) → a ≡ b → (a && b) ≡ false → a ≡ false
    at false b e f = refl
    at true b e f = e ∙ f

matching : (S : State) (us : Scope) (x y t u : Tree) (more : List Pair) → Declines S x.head t → Declines S y.head u → Met S us x y t u more (matched S us x y more)
matching S us x y t u more f g = at (is_region x.head && is_region y.head) refl (same_head x.head y.head) refl
  where
    at : (a : Bool) → (is_region x.head && is_region y.head) ≡ a → (b : Bool) → same_head x.head y.head ≡ b
        → Met S us x y t u more (if a then Left (with_equal_regions S (placed_tree us x) (placed_tree us y)) more
        else (if b then Left (entered S x.head x.children) (record { scope = scope_below S us x.head x.children; left = x.children; right = y.children } ∷ more)
        else Refused))
    at true e b k = let p = both (is_region x.head) (is_region y.head) e in regions p.0 p.1
    at false e true k = let same : x.head ≡ y.head = head_is x.head y.head k in below same (own_region x.head y.head same e)
    at false e false k = stuck f g e k

pub meeting : (l : Listing) (S : State) (us : Scope) (x y : Tree) (more : List Pair) → Met S us x y (value_for l S us y) (value_for l S us x) more (met l S us x y more)
meeting l S us x y more = at (offered l S us x.head y more) (offer l S us x.head y more) (offered l S us y.head x more) (offer l S us y.head x more)
  where
    at : (o : Option Visit) → Offer S x.head (value_for l S us y) more o → (q : Option Visit) → Offer S y.head (value_for l S us x) more q
        → Met S us x y (value_for l S us y) (value_for l S us x) more (first_of o q (matched S us x y more))
    at _ (takes v e m) q o = by_left v e m
    at _ (declines f) _ (takes v e m) = by_right v e m
    at _ (declines f) _ (declines g) = matching S us x y (value_for l S us y) (value_for l S us x) more f g
