-- Terms put in the place of projections, by a fold.
use Rattle.std.proofs.Common.{◌≡◌, ◌==◌, ℕ, true, false, List, [], ◌∷◌, length, eqb-true, Option, Some, None, Result, Ok, Err, refl, sym, ◌∙◌, ap, subst}
use Rattle.std.specs.Prelude.{IfOk, option_map}
use Rattle.std.specs.Fn.{Mut}
use Rattle.std.specs.Borrow.{MutBor}
use Rattle.ir_trees.specs.declared.ir.heads.Head.{Head}
use Rattle.ir_trees.specs.declared.ir.kinds.Clause.{Clause}
use Rattle.ir_trees.specs.declared.ir.kinds.GenericArg.{GenericArg}
use Rattle.ir_trees.specs.declared.ir.kinds.Ty.{Ty}
use Rattle.ir_trees.specs.declared.ir.stop.Stop.{Stop}
use Rattle.ir_trees.specs.Declarations.Context.{Context, Grows}
use Rattle.ir_trees.specs.Instantiation.Folds.{Asks, FoldsBy, IsReached, arg_tree, by_call, by_nodes, ended, here, is_asked, made, node, opened, passed, replaced}
use Rattle.ir_trees.specs.Unification.Substitutions.{alone}
use Rattle.ir_trees.specs.Syntax.Trees.{Forest, none, tree, Tree}
use Rattle.ir_trees.specs.Validity.WellFormed.{TypesFit}
use Rattle.ir_trees.specs.Syntax.Words.{ClauseListFits, IsTy, ty_tree}
use Rattle.ir_folds.proofs.Traversal.FoldSteps.{folds-reached, reached-then}
use Rattle.ir_trees.proofs.Growth.Kept.{grows-refl, grows-trans, ty-kept}
use Rattle.candidate_eval.specs.Dynamic.Objects.{Projection}
use Rattle.candidate_eval.specs.Dynamic.Replacing.{Filled, Finds, without_first, answered, clauses_at, filled, filled_clause, filled_from, finds_own, first_or, left_by, own_projection, then_filled, types_at}
use Rattle.candidate_eval.proofs.Dynamic.Replacing.{left-fit, left-types}
use Rattle.candidate_eval.proofs.Outcomes.Responding.{clauses-kept}
use Rattle.candidate_eval.proofs.Builtins.Types.{types_kept}

pub ok-then : {A E : Type 0} (r : Result A E) (P Q : A → Type 0) → ((a : A) → P a → Q a) → IfOk r P → IfOk r Q
ok-then (Ok a) P Q f p = f a p
ok-then (Err e) P Q f p = tt

abbrev comes : Forest → List Tree → Filled
comes us left = record { trees = us; left = left }

pub empty-list : {A : Type 0} (xs : List A) → (length xs == 0) ≡ true → xs ≡ []
empty-list [] e = refl
empty-list (x ∷ xs) e = let n = eqb-true (length (x ∷ xs)) 0 e in absurd cc

-- Without terms all stays as it is.
no-terms : (f : Finds) (ts : Forest) → filled f ts [] ≡ comes ts []
no-terms f none = refl
no-terms f (tree h below rest) = at (f h below) (no-terms f below) (no-terms f rest)
  where
    at : (o : Option Projection) → filled f below [] ≡ comes below [] → filled f rest [] ≡ comes rest [] → filled_from o (node h below) (filled f below []) [] (filled f rest) ≡ comes (tree h below rest) []
    at None b r = ap (λ (v : Filled). then_filled (node h v.trees) (filled f rest v.left)) b ∙ ap (then_filled (node h below)) r
    at (Some p) b r = ap (then_filled (node h below)) r

pub clause-without-terms : (f : Finds) (us : List Tree) (c : Tree) → us ≡ [] → c ≡ filled_clause f us c
clause-without-terms f us c e = sym (ap (λ (vs : List Tree). filled_clause f vs c) e ∙ ap (λ (v : Filled). node c.head v.trees) (no-terms f c.children))

module _ {M Rest F : Type 0} (context : M → Context) (others : M → Rest)
    (g : Mut F (MutBor M × (GenericArg × (ℕ × Unit {0}))) (Result (Option GenericArg) Stop × (MutBor M × Unit {0}))) where
  module _ (f : Finds) (left : F → List Tree) (s0 : F × M) (unasked : (h : Head) (below : Forest) → is_asked h ≡ false → f h below ≡ None)
      (answers : (s : F × M) (d : ℕ) (t : Tree) (o : Option Tree) (e : F × M) → IsReached context others g s0 s → Asks context others g s d t o e
      → (answered (f t.head t.children) t (left s.0) ≡ o) × (left e.0 ≡ left_by (f t.head t.children) (left s.0))) where
    -- of a node without an answer
    kept-node : (h : Head) (below rest inner us : Forest) (start now then last : List Tree) → f h below ≡ None → now ≡ start → filled f below now ≡ comes inner then → filled f rest then ≡ comes us last
        → filled f (tree h below rest) start ≡ comes (tree h inner us) last
    kept-node h below rest inner us start now then last n s b r =
        ap (λ (o : Option Projection). filled_from o (node h below) (filled f below start) start (filled f rest)) n
        ∙ (ap (λ (v : Filled). then_filled (node h v.trees) (filled f rest v.left)) (ap (filled f below) (sym s) ∙ b) ∙ ap (then_filled (node h inner)) r)

    pub folds-fill : {s e : F × M} {d : ℕ} {ts us : Forest} → IsReached context others g s0 s → FoldsBy context others g s d ts us e → filled f ts (left s.0) ≡ comes us (left e.0)
    folds-fill l ended = refl
    folds-fill {ts = ts} l (made i p) = ap (λ (z : F). filled f ts (left z)) (sym i.same) ∙ folds-fill (by_nodes l i) p
    folds-fill {s = s} {e = e} l (replaced {m = m} {d = d} {h = h} {g = j} {below = below} {inner = inner} {rest = rest} {us = us} x i p) =
        let a = answers s d (node h below) (Some (node j inner)) m l i in
        at (f h below) refl a.0 a.1 (folds-fill (by_call l i) p)
      where
        at : (o : Option Projection) → f h below ≡ o → answered (f h below) (node h below) (left s.0) ≡ Some (node j inner) → left m.0 ≡ left_by (f h below) (left s.0)
            → filled f rest (left m.0) ≡ comes us (left e.0) → filled f (tree h below rest) (left s.0) ≡ comes (tree j inner us) (left e.0)
        at None q a b r = let z = sym (ap (λ (o : Option Projection). answered o (node h below) (left s.0)) q) ∙ a in absurd cc
        at (Some y) q a b r =
            let z : first_or (node h below) (left s.0) ≡ node j inner = let w = sym (ap (λ (o : Option Projection). answered o (node h below) (left s.0)) q) ∙ a in cc in
            ap (λ (o : Option Projection). filled_from o (node h below) (filled f below (left s.0)) (left s.0) (filled f rest)) q
            ∙ (ap (λ (t : Tree). then_filled t (filled f rest (without_first (left s.0)))) z
            ∙ ap (then_filled (node j inner)) (ap (filled f rest) (sym (b ∙ ap (λ (o : Option Projection). left_by o (left s.0)) q)) ∙ r))
    folds-fill {s = s} {e = e} l (opened {m = m} {n = n} {d = d} {h = h} {below = below} {inner = inner} {rest = rest} {us = us} x i p r) =
        let a = answers s d (node h below) None m l i in
        at (f h below) refl a.0 a.1 (folds-fill (by_call l i) p) (folds-fill (reached-then context others g (by_call l i) (folds-reached context others g p)) r)
      where
        at : (o : Option Projection) → f h below ≡ o → answered (f h below) (node h below) (left s.0) ≡ None → left m.0 ≡ left_by (f h below) (left s.0)
            → filled f below (left m.0) ≡ comes inner (left n.0) → filled f rest (left n.0) ≡ comes us (left e.0) → filled f (tree h below rest) (left s.0) ≡ comes (tree h inner us) (left e.0)
        at None q a b u v = kept-node h below rest inner us (left s.0) (left m.0) (left n.0) (left e.0) q (b ∙ ap (λ (o : Option Projection). left_by o (left s.0)) q) u v
        at (Some y) q a b u v = let z = sym (ap (λ (o : Option Projection). answered o (node h below) (left s.0)) q) ∙ a in absurd cc
    folds-fill {s = s} {e = e} l (passed {n = n} {d = d} {h = h} {below = below} {inner = inner} {rest = rest} {us = us} x p r) =
        kept-node h below rest inner us (left s.0) (left s.0) (left n.0) (left e.0) (unasked h below x) refl (folds-fill l p) (folds-fill (reached-then context others g l (folds-reached context others g p)) r)

    -- so of a clause, which is no projection itself
    pub clause-fill : {e : F × M} {d : ℕ} (c x : Tree) → IsReached context others g s0 s0 → f c.head c.children ≡ None → FoldsBy context others g s0 d (alone c) (alone x) e → x ≡ filled_clause f (left s0.0) c
    clause-fill {e = e} c x l n p =
        let all = folds-fill l p in
        let one = ap (λ (o : Option Projection). filled_from o (node c.head c.children) (filled f c.children (left s0.0)) (left s0.0) (filled f none)) n in
        ap (λ (v : Filled). first x v.trees) (sym all ∙ one)
      where
        first : Tree → Forest → Tree
        first t none = t
        first t (tree h below rest) = node h below

module _ {M Rest F : Type 0} (context : M → Context) (others : M → Rest)
    (g : Mut F (MutBor M × (GenericArg × (ℕ × Unit {0}))) (Result (Option GenericArg) Stop × (MutBor M × Unit {0}))) where
  pub reached-grows : (s0 s : F × M) → IsReached context others g s0 s → Grows (context s0.1) (context s.1)
  reached-grows s0 s here = grows-refl (context s0.1)
  reached-grows s0 s (by_call {m = m} l k) = grows-trans (context s0.1) (context m.1) (context s.1) (reached-grows s0 m l) k.grows
  reached-grows s0 s (by_nodes {m = m} l k) = grows-trans (context s0.1) (context m.1) (context s.1) (reached-grows s0 m l) k.grows

-- terms that are left are types still
pub left-by-fit : (ts : List Tree) (o : Option Projection) (old new : List Ty) → new ≡ left_by o old → TypesFit ts old → TypesFit ts new
left-by-fit ts o old new e f = subst (TypesFit ts) (sym e) (left-fit ts o old f)

-- What a call answers, said of the trees that were there at the start.
pub said-at-start : (a b : Context) (object : Ty) (bounds : List Clause) (terms lefts : List Ty) (x : GenericArg) (t : Tree) (answer : Option GenericArg) (o : Option Tree) → Grows a b
    → IsTy a.trees object → ClauseListFits a.trees bounds → TypesFit a.trees terms → arg_tree b.trees x ≡ t → option_map (arg_tree b.trees) answer ≡ o
    → option_map (arg_tree b.trees) answer ≡ answered (finds_own b.trees object bounds (arg_tree b.trees x).head (arg_tree b.trees x).children) (arg_tree b.trees x) (types_at b.trees terms)
    → lefts ≡ left_by (finds_own b.trees object bounds (arg_tree b.trees x).head (arg_tree b.trees x).children) terms
    → (answered (finds_own a.trees object bounds t.head t.children) t (types_at a.trees terms) ≡ o)
    × (types_at a.trees lefts ≡ left_by (finds_own a.trees object bounds t.head t.children) (types_at a.trees terms))
said-at-start a b object bounds terms lefts x t answer o g i cs us e w says rest =
    let same : (h : Head) (below : Forest) → finds_own a.trees object bounds h below ≡ finds_own b.trees object bounds h below =
    λ h below. ap (λ (y : Tree). own_projection y (clauses_at a.trees bounds) h below) (sym (ty-kept a b object g i).1)
    ∙ ap (λ (ds : List Tree). own_projection (ty_tree b.trees object) ds h below) (sym (clauses-kept a b bounds g cs).1) in
    let found : finds_own a.trees object bounds t.head t.children ≡ finds_own b.trees object bounds (arg_tree b.trees x).head (arg_tree b.trees x).children =
    ap (λ (y : Tree). finds_own a.trees object bounds y.head y.children) (sym e) ∙ same (arg_tree b.trees x).head (arg_tree b.trees x).children in (
      ap (λ (p : Option Projection). answered p t (types_at a.trees terms)) found
          ∙ (ap (λ (y : Tree). answered (finds_own b.trees object bounds (arg_tree b.trees x).head (arg_tree b.trees x).children) y (types_at a.trees terms)) (sym e)
          ∙ (ap (answered (finds_own b.trees object bounds (arg_tree b.trees x).head (arg_tree b.trees x).children) (arg_tree b.trees x)) (sym (types_kept a.trees b.trees terms g.kept cs-terms).1)
          ∙ (sym says ∙ w))),
      ap (types_at a.trees) rest ∙ (left-types a.trees _ terms ∙ ap (λ (p : Option Projection). left_by p (types_at a.trees terms)) (sym found)),
    )
  where
    cs-terms : TypesFit a.trees terms
    cs-terms = us
