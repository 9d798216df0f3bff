-- A variable that meets a tree: whether it takes it, by numbers.
use Rattle.std.proofs.Common.{◌≡◌, ◌+◌, ◌&&◌, Bool, true, false, List, Option, Some, None, Result, Ok, Err, OnOk, reverse, refl, sym, ◌∙◌, ap, if◌then◌else◌}
use Rattle.std.specs.Option.{unwrap_or}
use Rattle.ir_trees.specs.declared.ir.heads.Head.{Head}
use Rattle.ir_trees.specs.declared.ir.heads.Head.TheVariants as H
use Rattle.ir_trees.specs.declared.ir.heads.Variable.{Variable}
use Rattle.ir_trees.specs.declared.ir.heads.VariableSort.{VariableSort}
use Rattle.ir_trees.specs.declared.ir.heads.VariableSort.TheVariants as V
use Rattle.ir_trees.specs.declared.ir.kinds.Ty.{Ty}
use Rattle.ir_trees.specs.Instantiation.Folding.{Answers, fold, fold_tree}
use Rattle.ir_trees.specs.Instantiation.Folds.{is_asked, is_asked_kind}
use Rattle.ir_trees.specs.Unification.Substitutions.{fits_sort, is_constant_kind}
use Rattle.ir_trees.specs.Syntax.Trees.{Kind, TypeKind, ConstantKind, Tree, binders_of, is_type_kind, kind_of}
use Rattle.candidate_eval.specs.declared.eval.variable.VariableKind.TheVariants.{Term}
use Rattle.candidate_eval.specs.Judges.States.{State, has_kind, resolved_tree, value_at}
use Rattle.candidate_eval.specs.Judges.Alike.{info}
use Rattle.candidate_eval.specs.Judges.Soundness.{is_region}
use Rattle.rounds_judge.specs.Equations.Binding.{bound, may_take}
use Rattle.rounds_judge.specs.Equations.Equating.{Left, Pair, matched, offered, value_for, with_equal_regions}
use Rattle.candidate_rounds.specs.Evaluators.Known.{AreTypes, Each, listing_of}
use Rattle.rounds_judge.specs.Aliases.Listed.{Listing, listed, normalized_tree}
use Rattle.rounds_judge.specs.Equations.Scopes.{Scope, placed_head, placed_tree}
use Rattle.rounds_judge.proofs.States.Bound.{float_is_type, integer_is_type}
use Rattle.candidate_rounds.proofs.Equations.Framing.{matched-regions}
use Rattle.candidate_rounds.proofs.Resolution.Listing.{listed-unasked}
use Rattle.candidate_rounds.proofs.Resolution.Placing.{placed-only}

-- What is no type, constant or region keeps its head, and fits no sort.

head-stays : (f : Answers) (t : Tree) → f 0 t ≡ None → (fold_tree f 0 t).head ≡ t.head
head-stays f t e = ap (λ (o : Option Tree). (unwrap_or o (record { head = t.head; children = fold f (0 + binders_of t.head) t.children })).head) e

unvalued : (S : State) (h : Head) → is_asked h ≡ false → value_at S h ≡ None
unvalued S (H.Infer v) e = sort v.sort e
  where
    sort : (s : VariableSort) → is_asked (H.Infer (record v { sort = s })) ≡ false → value_at S (H.Infer (record v { sort = s })) ≡ None
    sort V.General e = cc
    sort V.Integer e = cc
    sort V.Floating e = cc
    sort V.Constant e = cc
unvalued S (H.Region r) e = cc
unvalued S _ e = refl

value-head : (ts : List Tree) (ps : List (Ty × Ty)) (S : State) (us : Scope) (t : Tree) → Each (AreTypes ts) ps → is_asked t.head ≡ false → (value_for (listing_of ts ps) S us t).head ≡ t.head
value-head ts ps S us t k e =
    let l = listing_of ts ps in
    let r = resolved_tree S t in
    let n = normalized_tree l r in
    let one : r.head ≡ t.head = head-stays (λ d u. value_at S u.head) t (unvalued S t.head e) in
    let two : n.head ≡ r.head = head-stays (λ d u. listed l u) r (listed-unasked ts ps r k (ap is_asked one ∙ e)) in
    let three : (placed_tree us n).head ≡ n.head = head-stays (λ d u. placed_head us d u.head) n (placed-only us 0 n.head (ap is_asked two ∙ (ap is_asked one ∙ e))) in
    three ∙ (two ∙ one)

type-asked : (k : Kind) → is_type_kind k ≡ true → is_asked_kind k ≡ true
type-asked TypeKind e = refl
type-asked _ e = cc

constant-asked : (k : Kind) → is_constant_kind k ≡ true → is_asked_kind k ≡ true
constant-asked ConstantKind e = refl
constant-asked _ e = cc

fits-asked : (s : VariableSort) (h : Head) → fits_sort s h ≡ true → is_asked h ≡ true
fits-asked V.General h e = type-asked (kind_of h) e
fits-asked V.Integer h e = type-asked (kind_of h) (integer_is_type h e)
fits-asked V.Floating h e = type-asked (kind_of h) (float_is_type h e)
fits-asked V.Constant h e = constant-asked (kind_of h) e

fits-none : (s : VariableSort) (h : Head) → is_asked h ≡ false → fits_sort s h ≡ false
fits-none s h e = at (fits_sort s h) refl
  where
    at : (b : Bool) → fits_sort s h ≡ b → b ≡ false
    at false f = refl
    at true f = let clash : false ≡ true = sym e ∙ fits-asked s h f in cc

no-both : (a b c : Bool) → b ≡ false → a && (b && c) ≡ false
no-both true b c e = ap (λ (x : Bool). x && c) e
no-both false b c e = refl

-- A variable that declines, or takes the value.

pub declined : (l : Listing) (S : State) (us : Scope) (g : Head) (v : Variable) (t : Tree) (more : List Pair) → g ≡ H.Infer v → may_take S v (value_for l S us t) ≡ false → offered l S us g t more ≡ None
declined l S us g v t more e m = ap (λ h. offered l S us h t more) e ∙ ap (λ (b : Bool). if b then Some (Left (bound S v (value_for l S us t)) more) else None) m

pub taken-by : (l : Listing) (S : State) (us : Scope) (g : Head) (v : Variable) (t : Tree) (more : List Pair) → g ≡ H.Infer v → may_take S v (value_for l S us t) ≡ true → offered l S us g t more ≡ Some (Left (bound S v (value_for l S us t)) more)
taken-by l S us g v t more e m = ap (λ h. offered l S us h t more) e ∙ ap (λ (b : Bool). if b then Some (Left (bound S v (value_for l S us t)) more) else None) m

pub none-asked : (ts : List Tree) (ps : List (Ty × Ty)) (S : State) (us : Scope) (g : Head) (v : Variable) (t : Tree) (more : List Pair) → Each (AreTypes ts) ps → g ≡ H.Infer v → is_asked t.head ≡ false
    → offered (listing_of ts ps) S us g t more ≡ None
none-asked ts ps S us g v t more k e n =
    let x = value_for (listing_of ts ps) S us t in
    declined (listing_of ts ps) S us g v t more e
    (no-both (has_kind (Term v.sort) (info S v.number)) (fits_sort v.sort x.head) _ (fits-none v.sort x.head (ap is_asked (value-head ts ps S us t k n) ∙ n)))

-- Regions that match

pub regions-matched : (S T : State) (us vs : Scope) (x y p q : Tree) (more left : List Pair) → is_region x.head && is_region y.head ≡ true → vs ≡ us → p ≡ x → q ≡ y → left ≡ more
    → T ≡ with_equal_regions S (placed_tree (reverse vs) p) (placed_tree (reverse vs) q) → matched S (reverse us) x y more ≡ Left T left
regions-matched S T us vs x y p q more left e v f g l t =
    matched-regions S (reverse us) x y more e
    ∙ sym (ap (λ U. Left U left) t
    ∙ (ap (λ ws. Left (with_equal_regions S (placed_tree (reverse ws) p) (placed_tree (reverse ws) q)) left) v
    ∙ (ap (λ z. Left (with_equal_regions S (placed_tree (reverse us) z) (placed_tree (reverse us) q)) left) f
    ∙ (ap (λ z. Left (with_equal_regions S (placed_tree (reverse us) x) (placed_tree (reverse us) z)) left) g
    ∙ ap (Left (with_equal_regions S (placed_tree (reverse us) x) (placed_tree (reverse us) y))) l))))

pub regions-equal : {A E : Type 0} (r : Result A E) (N S T U : State) (x y p q : Tree) → U ≡ T → T ≡ S → x ≡ p → y ≡ q → OnOk r (N ≡ with_equal_regions U x y) → OnOk r (N ≡ with_equal_regions S p q)
regions-equal (Ok a) N S T U x y p q f g h k e = e ∙ (ap (λ V. with_equal_regions V x y) (f ∙ g) ∙ (ap (λ z. with_equal_regions S z y) h ∙ ap (with_equal_regions S p) k))
regions-equal (Err a) N S T U x y p q f g h k e = tt
