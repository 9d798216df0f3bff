-- The type that pairs list for a tree, and folds that put such types in.
use Rattle.std.proofs.Common.{◌≡◌, ◌↔◌, ℕ, suc, ◌<◌, ◌≤◌, ◌+◌, ◌==◌, ◌||◌, Bool, true, false, IsTrue, List, [], ◌∷◌, length, drop, slice_index_or, Option, Some, None, ◌⊎◌, inl, inr, refl, sym, ◌∙◌, ap, arith, if◌then◌else◌}
use Rattle.std.specs.Option.{option_map, unwrap_or}
use Rattle.std.proofs.lemmas.Bool.{eqb-true}
use Rattle.ir_trees.specs.declared.ir.kinds.Const.{Const}
use Rattle.ir_trees.specs.declared.ir.kinds.GenericArg.{GenericArg}
use Rattle.ir_trees.specs.declared.ir.kinds.GenericArg.TheVariants as A
use Rattle.ir_trees.specs.declared.ir.kinds.Region.{Region}
use Rattle.ir_trees.specs.declared.ir.kinds.Ty.{Ty}
use Rattle.ir_trees.specs.Declarations.Context.{Context, Grows}
use Rattle.ir_trees.specs.Hierarchy.Elaboration.{same_tree}
use Rattle.ir_trees.specs.Instantiation.Folding.{Answers}
use Rattle.ir_trees.specs.Instantiation.Folds.{IsArg, IsOfKind, arg_tree, is_asked, is_asked_kind}
use Rattle.ir_trees.specs.Syntax.Kinds.{arg_kind, arg_number}
use Rattle.ir_trees.specs.Syntax.Nodes.{Extends}
use Rattle.ir_trees.specs.Syntax.Trees.{TypeKind, Tree, Forest, none, tree, binders_of, holds, is_alias, kind_of}
use Rattle.ir_trees.specs.Syntax.Words.{IsTy, ty_tree}
use Rattle.ir_context.proofs.Hierarchy.Elaboration.{tree_is, tree_itself}
use Rattle.ir_trees.proofs.Instantiation.Folding.{fold-nothing}
use Rattle.ir_folds.proofs.Hierarchy.Implying.{arg-kept}
use Rattle.ir_trees.proofs.Syntax.Rows.{kind-of}
use Rattle.candidate_eval.specs.Judges.States.{State, resolved_tree}
use Rattle.candidate_rounds.specs.Calls.PureFolder.{listed_answers}
use Rattle.candidate_rounds.specs.Evaluators.Known.{AreTypes, Each, listing_of, rigid_otherwise}
use Rattle.rounds_judge.specs.Aliases.Listed.{Listing, listed, listed_at, normalized_tree}
use Rattle.candidate_rounds.proofs.Obligations.Gathering.{each-index}
use Rattle.candidate_rounds.proofs.Snapshots.Knowing.{listing-extend, there-arg, types-extend}
use Rattle.candidate_rounds.proofs.Snapshots.Undoing.{drop-one, drop-beyond}

-- One pair after the other.

abbrev pub IsListedFrom : List Tree → List (Ty × Ty) → Tree → ℕ → Type 0
IsListedFrom ts ps t i = listed (listing_of ts ps) t ≡ listed (listing_of ts (drop i ps)) t

pub same-says : (t u : Tree) (b : Bool) → IsTrue b ↔ (t ≡ u) → same_tree t u ≡ b
same-says t u true e = ap (same_tree t) (sym (e.0 refl)) ∙ tree_itself t
same-says t u false e = of (same_tree t u) refl
  where
    of : (b : Bool) → same_tree t u ≡ b → b ≡ false
    of true q = let f : IsTrue false = e.1 (tree_is t u q) in absurd cc
    of false q = refl

module _ (ts : List Tree) (ps : List (Ty × Ty)) (t : Tree) (i : ℕ) (d : Ty × Ty) (a : IsListedFrom ts ps t i) (l : i < length ps) where
  this : (b c : Bool) → same_tree (ty_tree ts (slice_index_or ps i d).0) t ≡ b → b ≡ c
      → listed (listing_of ts ps) t ≡ (if c then Some (ty_tree ts (slice_index_or ps i d).1) else listed (listing_of ts (drop (suc i) ps)) t)
  this b c e f =
      a ∙ (ap (λ qs. listed (listing_of ts qs) t) (drop-one ps i d l)
      ∙ ap (λ x. if x then Some (ty_tree ts (slice_index_or ps i d).1) else listed (listing_of ts (drop (suc i) ps)) t) (e ∙ f))

  pub not-this : (b : Bool) → IsTrue b ↔ (ty_tree ts (slice_index_or ps i d).0 ≡ t) → b ≡ false → IsListedFrom ts ps t (i + 1)
  not-this b s f =
      let j : suc i ≡ i + 1 = omega arith in
      this b false (same-says (ty_tree ts (slice_index_or ps i d).0) t b s) f ∙ ap (λ k. listed (listing_of ts (drop k ps)) t) j

  pub this-one : (b : Bool) → Each (AreTypes ts) ps → IsTrue b ↔ (ty_tree ts (slice_index_or ps i d).0 ≡ t) → b ≡ true
      → IsTy ts (slice_index_or ps i d).1 × (listed (listing_of ts ps) t ≡ Some (ty_tree ts (slice_index_or ps i d).1))
  this-one b k s f = ((each-index (AreTypes ts) ps i d k l).1, this b true (same-says (ty_tree ts (slice_index_or ps i d).0) t b s) f)

pub none-left : (ts : List Tree) (ps : List (Ty × Ty)) (t : Tree) (i : ℕ) → IsListedFrom ts ps t i → length ps ≤ i → listed (listing_of ts ps) t ≡ None
none-left ts ps t i a l = a ∙ ap (λ qs. listed (listing_of ts qs) t) (drop-beyond ps i l)

-- Nothing but types is listed.

pub type-head : (ts : List Tree) (t : Ty) → IsTy ts t → kind_of (ty_tree ts t).head ≡ TypeKind
type-head ts t i = kind-of ts t.0 TypeKind refl i

pub listed-types : (ts : List Tree) (ps : List (Ty × Ty)) (t : Tree) → Each (AreTypes ts) ps → (kind_of t.head ≡ TypeKind → ⊥) → listed (listing_of ts ps) t ≡ None
listed-types ts [] t k n = refl
listed-types ts (p ∷ ps) t k n = at (same_tree (ty_tree ts p.0) t) refl (listed-types ts ps t k.1 n)
  where
    at : (b : Bool) → same_tree (ty_tree ts p.0) t ≡ b → listed (listing_of ts ps) t ≡ None → (if b then Some (ty_tree ts p.1) else listed (listing_of ts ps) t) ≡ None
    at true e r = absurd (n (ap (λ (x : Tree). kind_of x.head) (sym (tree_is (ty_tree ts p.0) t e)) ∙ type-head ts p.0 k.0.0))
    at false e r = r

pub listed-unasked : (ts : List Tree) (ps : List (Ty × Ty)) (t : Tree) → Each (AreTypes ts) ps → is_asked t.head ≡ false → listed (listing_of ts ps) t ≡ None
listed-unasked ts ps t k e = listed-types ts ps t k (λ q. let f = sym e ∙ ap is_asked_kind q in absurd cc)

-- As more numbers are given.

pub types-kept : (a b : Context) (ps : List (Ty × Ty)) → Grows a b → Each (AreTypes a.trees) ps → Each (AreTypes b.trees) ps
types-kept a b ps g k = types-extend a.trees b.trees ps g.kept k

pub listing-kept : (a b : Context) (ps : List (Ty × Ty)) → Grows a b → Each (AreTypes a.trees) ps → listing_of b.trees ps ≡ listing_of a.trees ps
listing-kept a b ps g k = listing-extend a.trees b.trees ps g.kept k

-- What is no type has none listed.
pub other-unlisted : (ts : List Tree) (ps : List (Ty × Ty)) (x : GenericArg) → IsArg ts x → Each (AreTypes ts) ps → ((c : Const) × (x ≡ A.Const c)) ⊎ ((r : Region) × (x ≡ A.Region r))
    → listed (listing_of ts ps) (arg_tree ts x) ≡ None
other-unlisted ts ps x i k s = listed-types ts ps (arg_tree ts x) k (λ q. other s (sym (kind-of ts (arg_number x) (arg_kind x) (there-arg x) i) ∙ q))
  where
    other : ((c : Const) × (x ≡ A.Const c)) ⊎ ((r : Region) × (x ≡ A.Region r)) → arg_kind x ≡ TypeKind → ⊥
    other (inl e) q = let f = sym (ap arg_kind e.1) ∙ q in absurd cc
    other (inr e) q = let f = sym (ap arg_kind e.1) ∙ q in absurd cc

-- What stands for an alias, where this is listed for it with all values put in.

pub or-itself : (ts : List Tree) (o : Option GenericArg) (x : GenericArg) → arg_tree ts (unwrap_or o x) ≡ unwrap_or (option_map (arg_tree ts) o) (arg_tree ts x)
or-itself ts None x = refl
or-itself ts (Some y) x = refl

pub or-of-kind : (ts : List Tree) (o : Option GenericArg) (x y : GenericArg) → IsArg ts x → arg_kind y ≡ arg_kind x → IsOfKind ts y o → IsArg ts (unwrap_or o x) × (arg_kind (unwrap_or o x) ≡ arg_kind x)
or-of-kind ts None x y i e k = (i, refl)
or-of-kind ts (Some v) x y i e k = (k.0, k.1 ∙ e)

module _ (a b : Context) (S : State) (ps : List (Ty × Ty)) (x : GenericArg) where
  pub listed-root : (y : GenericArg) (o : Option GenericArg) → Grows a b → IsArg a.trees x → Each (AreTypes a.trees) ps → is_alias (arg_tree a.trees x).head ≡ true
      → arg_tree b.trees y ≡ resolved_tree S (arg_tree a.trees x) → option_map (arg_tree b.trees) o ≡ listed (listing_of b.trees ps) (arg_tree b.trees y)
      → arg_tree b.trees (unwrap_or o x) ≡ listed_at (listing_of a.trees ps) S (arg_tree a.trees x)
  listed-root y o g i k q e f =
      or-itself b.trees o x
      ∙ (ap (λ u. unwrap_or u (arg_tree b.trees x)) f
      ∙ (ap (λ t. unwrap_or (listed (listing_of b.trees ps) (arg_tree b.trees y)) t) (arg-kept a b x g i).1
      ∙ (ap (λ l. unwrap_or (listed l (arg_tree b.trees y)) (arg_tree a.trees x)) (listing-kept a b ps g k)
      ∙ (ap (λ t. unwrap_or (listed (listing_of a.trees ps) t) (arg_tree a.trees x)) e
      ∙ sym (ap (λ c. if c then unwrap_or (listed (listing_of a.trees ps) (resolved_tree S (arg_tree a.trees x))) (arg_tree a.trees x) else arg_tree a.trees x) q)))))

  pub other-root : is_alias (arg_tree a.trees x).head ≡ false → arg_tree a.trees x ≡ listed_at (listing_of a.trees ps) S (arg_tree a.trees x)
  other-root q = sym (ap (λ c. if c then unwrap_or (listed (listing_of a.trees ps) (resolved_tree S (arg_tree a.trees x))) (arg_tree a.trees x) else arg_tree a.trees x) q)

-- Where nothing is listed it stays.
pub empty-root : (ts : List Tree) (ps : List (Ty × Ty)) (S : State) (t : Tree) → (length ps == 0) ≡ true → t ≡ listed_at (listing_of ts ps) S t
empty-root ts [] S t e = at (is_alias t.head)
  where
    at : (b : Bool) → t ≡ (if b then t else t)
    at true = refl
    at false = refl
empty-root ts (p ∷ ps) S t e = let z = eqb-true (suc (length ps)) 0 e in absurd (omega (arith, z))

-- What is listed for types is what is listed for all that is asked about.

abbrev pub type_answers : Listing → Answers
type_answers l d t = listed l t

pub listed-are : (ts : List Tree) (ps : List (Ty × Ty)) → Each (AreTypes ts) ps → listed_answers ts ps ≡ type_answers (listing_of ts ps)
listed-are ts ps k = λ i d t. at t (is_asked t.head) refl i
  where
    at : (t : Tree) (b : Bool) → is_asked t.head ≡ b → (if b then listed (listing_of ts ps) t else None) ≡ listed (listing_of ts ps) t
    at t true e = refl
    at t false e = sym (listed-unasked ts ps t k e)

pub listed-stay : (ts us : List Tree) (ps : List (Ty × Ty)) → Extends ts us → Each (AreTypes ts) ps → listed_answers us ps ≡ listed_answers ts ps
listed-stay ts us ps x k = ap (λ (l : Listing). let a : Answers = λ d t. if is_asked t.head then listed l t else None in a) (listing-extend ts us ps x k)

pub nothing-unasked : (ts : List Tree) (ps : List (Ty × Ty)) (d : ℕ) (t : Tree) → is_asked t.head ≡ false → listed_answers ts ps d t ≡ None
nothing-unasked ts ps d t e = ap (λ (b : Bool). if b then listed (listing_of ts ps) t else None) e

-- Where nothing is listed, a tree is as it stands.

unmarked : (ts : Forest) → holds (λ h. false) ts ≡ false
unmarked none = refl
unmarked (tree h below rest) = ap (λ b. b || holds (λ h. false) rest) (unmarked below) ∙ unmarked rest

nothing-listed : (t : Tree) → normalized_tree (rigid_otherwise []) t ≡ t
nothing-listed t =
    ap (λ (b : Forest). let u : Tree = record { head = t.head; children = b } in u)
    (fold-nothing (λ d u. listed (rigid_otherwise []) u) (λ h. false) (λ d u e. refl) (0 + binders_of t.head) t.children (unmarked t.children))

pub empty-listing : (ts : List Tree) (ps : List (Ty × Ty)) (t : Tree) → (length ps == 0) ≡ true → t ≡ normalized_tree (listing_of ts ps) t
empty-listing ts [] t e = sym (nothing-listed t)
empty-listing ts (p ∷ ps) t e = let z = eqb-true (suc (length ps)) 0 e in absurd (omega (arith, z))
