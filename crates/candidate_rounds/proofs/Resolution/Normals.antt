-- Normal forms by numbers.
use Rattle.std.proofs.Common.{◌&&◌, ◌⊎◌, inl, inr, ◌≡◌, ℕ, zero, suc, ◌+◌, ◌<◌, ◌≤◌, get_or, Bool, true, false, List, [], ◌∷◌, length, drop, Some, None, Result, Ok, Err, IfOk, refl, sym, ◌∙◌, ap, subst, arith, add-one, if◌then◌else◌}
use Rattle.std.specs.Option.{unwrap_or}
use Rattle.ir_trees.specs.declared.ir.kinds.Const.{Const}
use Rattle.ir_trees.specs.declared.ir.kinds.Ty.{Ty}
use Rattle.ir_trees.specs.declared.ir.stop.Stop.{Stop}
use Rattle.ir_trees.specs.Declarations.Context.{Grows}
use Rattle.ir_trees.specs.Hierarchy.Elaboration.{same_tree}
use Rattle.ir_trees.specs.Syntax.Trees.{Tree, ConstantKind, TypeKind, kind_of, is_alias, is_type, is_type_kind}
use Rattle.ir_trees.specs.Syntax.Words.{IsConst, const_tree, ty_tree}
use Rattle.ir_context.proofs.Hierarchy.Elaboration.{tree_is, tree_itself}
use Rattle.ir_trees.proofs.Growth.Kept.{ty-kept}
use Rattle.ir_trees.proofs.Syntax.Rows.{kind-of}
use Rattle.candidate_eval.specs.Judges.States.{Env, State, resolved_tree}
use Rattle.candidate_rounds.specs.Evaluators.Inferences.{IsFullAt}
use Rattle.candidate_rounds.specs.Evaluators.Stopping.{IsNormalStop, normal_number, normal_variable}
use Rattle.candidate_rounds.specs.Evaluators.Known.{Evaluator, IsGiven, AreTypes, Each, listing, listing_of, state, NormalForms, listing_by}
use Rattle.rounds_judge.specs.Aliases.Listed.{Listing, listed}
use Rattle.rounds_judge.specs.Aliases.Normalizing.{normal_form, normalized, open_form, type_or_itself}
use Rattle.rounds_judge.specs.Equations.Opening.{are_open}
use Rattle.candidate_rounds.proofs.Snapshots.Knowing.{each-imply, normals-extend}

-- What is listed is what it was.
pub listing-kept : (r s : Evaluator) → Grows r.context s.context → s.normal ≡ r.normal → IsGiven r.context.trees r.normal.pairs r.opaques → listing s ≡ listing r
listing-kept r s g n k =
    ap (listing_by s.context.trees) n ∙ normals-extend r.context.trees s.context.trees r.normal g.kept k.types

-- A constant is not listed.
pub constant-itself : (ts : List Tree) (ns : NormalForms) (t : Tree) → Each (AreTypes ts) ns.pairs → kind_of t.head ≡ ConstantKind → type_or_itself (listing_by ts ns) t ≡ t
constant-itself ts ns t e k = at (is_alias t.head) (nothing ns.pairs e)
  where
    differs : (p : Ty × Ty) → AreTypes ts p → (b : Bool) → same_tree (ty_tree ts p.0) t ≡ b → b ≡ false
    differs p i true f =
        let is : ty_tree ts p.0 ≡ t = tree_is (ty_tree ts p.0) t f in
        let kind : TypeKind ≡ ConstantKind = sym (kind-of ts p.0.0 TypeKind refl i.0) ∙ ap (λ (t : Tree). kind_of t.head) is ∙ k in cc
    differs p i false f = refl

    nothing : (ps : List (Ty × Ty)) → Each (AreTypes ts) ps → listed (listing_of ts ps) t ≡ None
    nothing [] e = refl
    nothing (p ∷ ps) e = ap (λ b. if b then Some (ty_tree ts p.1) else listed (listing_of ts ps) t) (differs p e.0 (same_tree (ty_tree ts p.0) t) refl) ∙ nothing ps e.1

    at : (b : Bool) → listed (listing_by ts ns) t ≡ None → (if b then unwrap_or (listed (listing_by ts ns) t) t else t) ≡ t
    at true f = ap (λ o. unwrap_or o t) f
    at false f = refl

-- From that pair on nothing else was found.

abbrev pub ListedFrom : List Tree → List (Ty × Ty) → ℕ → Tree → Type 0
ListedFrom ts ps i t = listed (listing_of ts ps) t ≡ listed (listing_of ts (drop i ps)) t

module _ (ts : List Tree) (t : Tree) where
  after : (ps : List (Ty × Ty)) (i : ℕ) (d : Ty × Ty) → i < length ps → drop i ps ≡ get_or ps i d ∷ drop (suc i) ps
  after [] i d l = absurd (omega arith)
  after (p ∷ ps) zero d l = refl
  after (p ∷ ps) (suc i) d l = after ps i d (omega arith)

  next : (ps : List (Ty × Ty)) (i : ℕ) (d : Ty × Ty) → i < length ps → drop i ps ≡ get_or ps i d ∷ drop (i + 1) ps
  next ps i d l = rw add-one (after ps i d l)

  by_first : (p : Ty × Ty) (ps : List (Ty × Ty)) (b : Bool) → same_tree (ty_tree ts p.0) t ≡ b → listed (listing_of ts (p ∷ ps)) t ≡ (if b then Some (ty_tree ts p.1) else listed (listing_of ts ps) t)
  by_first p ps b e = ap (λ b. if b then Some (ty_tree ts p.1) else listed (listing_of ts ps) t) e

  pub is-listed : (ps : List (Ty × Ty)) (i : ℕ) (d : Ty × Ty) → i < length ps → ListedFrom ts ps i t → ty_tree ts (get_or ps i d).0 ≡ t → listed (listing_of ts ps) t ≡ Some (ty_tree ts (get_or ps i d).1)
  is-listed ps i d l f e =
      f ∙ ap (λ ps. listed (listing_of ts ps) t) (next ps i d l)
      ∙ by_first (get_or ps i d) (drop (i + 1) ps) true (ap (λ x. same_tree x t) e ∙ tree_itself t)

  pub is-passed : (ps : List (Ty × Ty)) (i : ℕ) (d : Ty × Ty) → i < length ps → ListedFrom ts ps i t → (ty_tree ts (get_or ps i d).0 ≡ t → ⊥) → ListedFrom ts ps (i + 1) t
  is-passed ps i d l f n =
      f ∙ ap (λ ps. listed (listing_of ts ps) t) (next ps i d l)
      ∙ by_first (get_or ps i d) (drop (i + 1) ps) false (differs (same_tree (ty_tree ts (get_or ps i d).0) t) refl)
    where
      differs : (b : Bool) → same_tree (ty_tree ts (get_or ps i d).0) t ≡ b → b ≡ false
      differs true e = absurd (n (tree_is (ty_tree ts (get_or ps i d).0) t e))
      differs false e = refl

  pub none-listed : (ps : List (Ty × Ty)) (i : ℕ) → length ps ≤ i → ListedFrom ts ps i t → listed (listing_of ts ps) t ≡ None
  none-listed ps i l f = f ∙ ap (λ ps. listed (listing_of ts ps) t) (nothing ps i l)
    where
      nothing : (ps : List (Ty × Ty)) (i : ℕ) → length ps ≤ i → drop i ps ≡ []
      nothing [] zero l = refl
      nothing [] (suc i) l = refl
      nothing (p ∷ ps) zero l = absurd (omega arith)
      nothing (p ∷ ps) (suc i) l = nothing ps i (omega arith)

  pub is-typed : (ps : List (Ty × Ty)) (i : ℕ) (d : Ty × Ty) → i < length ps → Each (AreTypes ts) ps → AreTypes ts (get_or ps i d)
  is-typed [] i d l e = absurd (omega arith)
  is-typed (p ∷ ps) zero d l e = e.0
  is-typed (p ∷ ps) (suc i) d l e = is-typed ps i d (omega arith) e.1

-- Whether a normal form is a fresh variable.

abbrev pub may_be_any : Listing → State → Tree → Bool
may_be_any l S t = are_open l S && (is_alias t.head && is_type t.head)

pub normal-itself : (l : Listing) (S : State) (t : Tree) → may_be_any l S t ≡ false → normal_form l S t ≡ (t, S)
normal-itself l S t e = ap (λ (b : Bool). if b then open_form S else (t, S)) e

pub normal-open : (l : Listing) (S : State) (t : Tree) → may_be_any l S t ≡ true → normal_form l S t ≡ open_form S
normal-open l S t e = ap (λ (b : Bool). if b then open_form S else (t, S)) e

normal-same : {l m : Listing} {S T : State} {t u : Tree} → l ≡ m → S ≡ T → t ≡ u → normal_form l S t ≡ normal_form m T u
normal-same x y z = λ i. normal_form (x i) (y i) (z i)

both-false : (o a k : Bool) → k ≡ false → o && (a && k) ≡ false
both-false true true k e = e
both-false true false k e = refl
both-false false a k e = refl

-- A constant's normal form is the constant with all values put in.
pub constant-normalized : (r s : Evaluator) (x : Const) (e : Env) (o : Result Const Stop) → Grows r.context s.context → s.normal ≡ r.normal → IsGiven r.context.trees r.normal.pairs r.opaques → state s ≡ state r
    → IfOk o (λ y. IsConst s.context.trees y) → IfOk o (λ y. const_tree s.context.trees y ≡ resolved_tree (state r) (const_tree r.context.trees x))
    → IfOk o (λ y. normalized (listing r) (state r) e (const_tree r.context.trees x) ≡ Some (const_tree s.context.trees y, state s))
constant-normalized r s x e (Err stop) g n k same sort tree = tt
constant-normalized r s x e (Ok y) g n k same sort tree =
    let l = listing-kept r s g n k in
    let here : Each (AreTypes s.context.trees) s.normal.pairs = subst (λ (m : NormalForms). Each (AreTypes s.context.trees) m.pairs) (sym n) (each-imply (AreTypes r.context.trees) (AreTypes s.context.trees) r.normal.pairs (λ p i. ((ty-kept r.context s.context p.0 g i.0).0, (ty-kept r.context s.context p.1 g i.1).0)) k.types) in
    let itself = constant-itself s.context.trees s.normal (const_tree s.context.trees y) here (kind-of s.context.trees y.0 ConstantKind refl sort) in
    let a : type_or_itself (listing r) (resolved_tree (state r) (const_tree r.context.trees x)) ≡ const_tree s.context.trees y = ap (type_or_itself (listing r)) (sym tree) ∙ ap (λ l. type_or_itself l (const_tree s.context.trees y)) (sym l) ∙ itself in
    let no_type : is_type (const_tree s.context.trees y).head ≡ false = ap is_type_kind (kind-of s.context.trees y.0 ConstantKind refl sort) in
    ap Some
    (normal-same (sym l) (sym same) a
    ∙ normal-itself (listing s) (state s) (const_tree s.context.trees y) (both-false (are_open (listing s) (state s)) (is_alias (const_tree s.context.trees y).head) (is_type (const_tree s.context.trees y).head) no_type))

-- what a type is once values and its listed type are put in
module _ (r s : Evaluator) (x y z : Ty) (grows : Grows r.context s.context) (same_normal : s.normal ≡ r.normal) (given : IsGiven r.context.trees r.normal.pairs r.opaques) (same : state s ≡ state r)
    (tree : ty_tree s.context.trees y ≡ resolved_tree (state r) (ty_tree r.context.trees x)) (is : ty_tree s.context.trees z ≡ type_or_itself (listing s) (ty_tree s.context.trees y)) where
  listing_is : listing s ≡ listing r
  listing_is = listing-kept r s grows same_normal given

  type_is : type_or_itself (listing r) (resolved_tree (state r) (ty_tree r.context.trees x)) ≡ ty_tree s.context.trees z
  type_is = ap (type_or_itself (listing r)) (sym tree) ∙ ap (λ l. type_or_itself l (ty_tree s.context.trees y)) (sym listing_is) ∙ sym is

  form_is : normal_form (listing r) (state r) (type_or_itself (listing r) (resolved_tree (state r) (ty_tree r.context.trees x))) ≡ normal_form (listing s) (state s) (ty_tree s.context.trees z)
  form_is = normal-same (sym listing_is) (sym same) type_is

  -- A type's normal form, where it is its own or its listed type.
  pub type-normalized : (e : Env) → may_be_any (listing s) (state s) (ty_tree s.context.trees z) ≡ false → normalized (listing r) (state r) e (ty_tree r.context.trees x) ≡ Some (ty_tree s.context.trees z, state s)
  type-normalized e closed = ap Some (form_is ∙ normal-itself (listing s) (state s) (ty_tree s.context.trees z) closed)

  -- And where it may be any type, a fresh variable.
  pub type-opened : (e : Env) (t : Evaluator) (w : Ty) → may_be_any (listing s) (state s) (ty_tree s.context.trees z) ≡ true → (ty_tree t.context.trees w, state t) ≡ open_form (state s)
      → normalized (listing r) (state r) e (ty_tree r.context.trees x) ≡ Some (ty_tree t.context.trees w, state t)
  type-opened e t w any made = ap Some (form_is ∙ (normal-open (listing s) (state s) (ty_tree s.context.trees z) any ∙ sym made))

-- why no variable was made for what may be any type
pub open-stop : (l m n : Listing) (S T : State) (ts : List Tree) (t z : Tree) (s : Stop) → m ≡ l → n ≡ l → T ≡ S → may_be_any m T z ≡ true → IsFullAt (length T.variables) s ⊎ IsFullAt (length ts) s → IsNormalStop ts n S t s
open-stop l m n S T ts t z s i k j any c = at (open-there (are_open m T) (is_alias z.head && is_type z.head) any) c
  where
    open-there : (o b : Bool) → o && b ≡ true → o ≡ true
    open-there true b e = refl
    open-there false b e = absurd cc

    at : are_open m T ≡ true → IsFullAt (length T.variables) s ⊎ IsFullAt (length ts) s → IsNormalStop ts n S t s
    at o (inl f) = normal_variable ((λ x. are_open ((k ∙ sym i) x) (sym j x)) ∙ o) (subst (λ (U : State). IsFullAt (length U.variables) s) j f)
    at o (inr f) = normal_number ((λ x. are_open ((k ∙ sym i) x) (sym j x)) ∙ o) f
