-- What super clauses are instantiated to.
use Rattle.std.proofs.Common.{◌≡◌, ℕ, ◌+◌, ◌<◌, Option, Some, None, Bool, true, false, refl, sym, ◌∙◌, ap, subst, arith}
use Rattle.std.specs.Prelude.{Result, Ok, Err, IfErr, option_map, ◌==◌, ◌||◌, nat_eq, nat_lt, if◌then◌else◌}
use Rattle.ir_trees.specs.declared.ir.kinds.BoundVar.{BoundVar}
use Rattle.ir_trees.specs.declared.ir.heads.Head.{Head}
use Rattle.ir_trees.specs.declared.ir.heads.Head.TheVariants as H
use Rattle.ir_trees.specs.declared.ir.heads.ConstHead.TheVariants as C
use Rattle.ir_trees.specs.declared.ir.kinds.RegionKind.TheVariants as R
use Rattle.ir_trees.specs.declared.ir.stop.Stop.{Stop}
use Rattle.ir_trees.specs.declared.ir.stop.Stop.TheVariants.{NodesFull}
use Rattle.ir_trees.specs.Syntax.Trees.{Forest, none, tree, Tree, holds}
use Rattle.ir_trees.specs.Unification.Substitutions.{alone}
use Rattle.ir_trees.specs.Declarations.Context.{Context, Grows}
use Rattle.ir_trees.specs.Instantiation.Folding.{leaf, IsSubstStop, no_memory, few_numbers, high_tree, put_if_there, IsAnswerStop}
use Rattle.ir_trees.specs.Instantiation.Folds.{is_asked, IsArg, arg_tree}
use Rattle.ir_trees.specs.Hierarchy.Elaboration.{later, later_leaf, later_head, either, instance_head, is_too_high, IsRenumberStop, unput, high_variable, IsHeadStop}
use Rattle.ir_trees.specs.declared.ir.kinds.GenericArg.{GenericArg}
use Rattle.ir_trees.specs.Syntax.Kinds.{arg_number}
use Rattle.ir_trees.proofs.Growth.Kept.{number-kept}
use Rattle.ir_trees.proofs.Traversal.Asking.{arg-below}
use Rattle.ir_folds.proofs.Traversal.FoldStops.{IsCause, SaidOfAnswer, subst-cause}

-- a head that is a bound variable
pub record IsVariable (h : Head) (v : BoundVar) : Type 0 where
  pub head : BoundVar → Head
  pub is : h ≡ head v
  pub moves : (n d : ℕ) → later_head n d (head v) ≡ later_leaf n d v head
  pub high : (w : BoundVar) → is_too_high (head w) ≡ nat_lt 4294967295 w.index

pub type-variable : (h : Head) (v : BoundVar) → h ≡ H.Bound v → IsVariable h v
type-variable h v e = record { head = H.Bound; is = e; moves = λ n d. refl; high = λ w. refl }

pub constant-variable : (h : Head) (v : BoundVar) → h ≡ H.Const (C.Bound v) → IsVariable h v
constant-variable h v e = record { head = λ w. H.Const (C.Bound w); is = e; moves = λ n d. refl; high = λ w. refl }

pub region-variable : (h : Head) (v : BoundVar) → h ≡ H.Region (R.Bound v) → IsVariable h v
region-variable h v e = record { head = λ w. H.Region (R.Bound w); is = e; moves = λ n d. refl; high = λ w. refl }

-- one that was not made, and one that can't be
pub variable-unmade : (given n d : ℕ) (h : Head) (v w : BoundVar) (x : Stop) → IsVariable h v → Some w ≡ (if v.depth == d then Some (later n v) else None)
    → ((made : Forest) → IsSubstStop given made x) → IsHeadStop given (later_head n d h) x
variable-unmade given n d h v w x i e c =
    let P : Option Tree → Type 0 = λ o. IsHeadStop given o x in
    subst P (sym (ap (later_head n d) i.is ∙ i.moves n d)) (at (v.depth == d) e)
  where
    at : (b : Bool) → Some w ≡ (if b then Some (later n v) else None) → IsHeadStop given (if b then Some (leaf (i.head (later n v))) else None) x
    at true e = unput (c (alone (leaf (i.head (later n v)))))
    at false e = absurd cc

lt-true : (i n : ℕ) → i < n → nat_lt i n ≡ true
lt-true i n h = grind (arith, h)

pub variable-too-high : (given n d : ℕ) (h : Head) (v : BoundVar) (x : Stop) → IsVariable h v → (x ≡ NodesFull) × (nat_eq v.depth d ≡ true) × (4294967295 < v.index + n)
    → IsHeadStop given (later_head n d h) x
variable-too-high given n d h v x i (is, own, high) =
    let P : Option Tree → Type 0 = λ o. IsHeadStop given o x in
    let Q : Stop → Type 0 = λ y. IsRenumberStop given (alone (leaf (i.head (later n v)))) y in
    let here = ap (λ (b : Bool). b || false) (i.high (later n v) ∙ lt-true 4294967295 (v.index + n) high) in
    subst P (sym (ap (later_head n d) i.is ∙ (i.moves n d ∙ ap (λ (b : Bool). if b then Some (leaf (i.head (later n v))) else None) own))) (subst Q (sym is) (high_variable here))

-- An argument of a context stays one, with its tree.
pub arg-kept : (old new : Context) (x : GenericArg) → Grows old new → IsArg old.trees x → IsArg new.trees x × (arg_tree new.trees x ≡ arg_tree old.trees x)
arg-kept old new x g h =
    let k = number-kept old.trees new.trees (arg_number x) g.kept (arg-below old.trees x h) in
    (k.0 ∙ h, k.1)

-- What is put for a parameter comes first.
put-stops : (given : ℕ) (o p : Option Tree) (x : Stop) → IsAnswerStop given o x → IsHeadStop given (either o p) x
put-stops given None p x c = absurd c
put-stops given (Some t) p x c = unput c

pub put-stop : (given : ℕ) (args : Forest) (n d e : ℕ) (h : Head) (x : Stop) → d ≡ e → IsAnswerStop given (put_if_there args d h) x → IsHeadStop given (instance_head args n e h) x
put-stop given args n d e h x i c =
    subst (λ (m : ℕ). IsHeadStop given (instance_head args n m h) x) i (put-stops given (put_if_there args d h) (later_head n d h) x c)

-- It is asked about types, constants and regions alone.
pub instance-only : (args : Forest) (n d : ℕ) (h : Head) → is_asked h ≡ false → instance_head args n d h ≡ None
instance-only args n d (H.Param i) e = absurd cc
instance-only args n d (H.Const k) e = absurd cc
instance-only args n d (H.Bound v) e = absurd cc
instance-only args n d (H.Region k) e = absurd cc
instance-only args n d _ e = refl

-- where nothing is put, the variable decides
pub passed : (args : Forest) (n d e : ℕ) (old new : Context) (x : GenericArg) (o : Option GenericArg) → IsArg old.trees x → Grows old new → d ≡ e → o ≡ None
    → option_map (arg_tree new.trees) o ≡ put_if_there args d (arg_tree old.trees x).head
    → later_head n d (arg_tree new.trees x).head ≡ instance_head args n e (arg_tree old.trees x).head
passed args n d e old new x o i g j k p =
    let h = (arg_tree old.trees x).head in
    let kept = ap (λ (t : Tree). t.head) (arg-kept old new x g i).1 in
    let empty : None ≡ put_if_there args d h = ap (option_map (arg_tree new.trees)) (sym k) ∙ p in
    ap (later_head n d) kept ∙ (ap (λ (q : Option Tree). either q (later_head n d h)) empty ∙ ap (λ (m : ℕ). instance_head args n m h) j)

or-true : (b : Bool) → b || true ≡ true
or-true true = refl
or-true false = refl

more : (a b c : Bool) → a || (b || false) ≡ true → a || (b || c) ≡ true
more true b c e = refl
more false true c e = refl
more false false c e = absurd cc

-- What is said of why renumbered trees weren't made may be said of folds.
pub renumber-cause : IsCause IsRenumberStop
renumber-cause = record {
  of_memory = λ given made. unput no_memory;
  of_numbers = λ given made l. unput (few_numbers l);
  of_height = λ given made l. unput (high_tree l);
  of_below = in-below;
  of_rest = in-rest;
  of_first = in-first;
}
  where
    in-below : (given : ℕ) (h : Head) (below rest : Forest) (x : Stop) → IsRenumberStop given below x → IsRenumberStop given (tree h below rest) x
    in-below given h below rest x (unput c) = unput (subst-cause.of_below given h below rest x c)
    in-below given h below rest x (high_variable e) = high_variable (ap (λ (b : Bool). is_too_high h || (b || holds is_too_high rest)) e ∙ or-true (is_too_high h))

    in-rest : (given : ℕ) (h : Head) (below rest : Forest) (x : Stop) → IsRenumberStop given rest x → IsRenumberStop given (tree h below rest) x
    in-rest given h below rest x (unput c) = unput (subst-cause.of_rest given h below rest x c)
    in-rest given h below rest x (high_variable e) =
        high_variable (ap (λ (b : Bool). is_too_high h || (holds is_too_high below || b)) e ∙ (ap (λ (b : Bool). is_too_high h || b) (or-true (holds is_too_high below)) ∙ or-true (is_too_high h)))

    in-first : (given : ℕ) (h : Head) (below rest : Forest) (x : Stop) → IsRenumberStop given (tree h below none) x → IsRenumberStop given (tree h below rest) x
    in-first given h below rest x (unput c) = unput (subst-cause.of_first given h below rest x c)
    in-first given h below rest x (high_variable e) = high_variable (more (is_too_high h) (holds is_too_high below) (holds is_too_high rest) e)

pub heads : (given : ℕ) (o : Option Tree) (r : Result (Option GenericArg) Stop) → IfErr r (λ z. IsHeadStop given o z) → IfErr r (λ z. SaidOfAnswer IsRenumberStop given o z)
heads given o (Ok v) c = tt
heads given None (Err x) c = c
heads given (Some t) (Err x) c = c
