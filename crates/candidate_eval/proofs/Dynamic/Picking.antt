-- Terms that bounds give for projections, one after the other.
use Rattle.std.proofs.Common.{◌≡◌, ℕ, zero, suc, ◌+◌, ◌<◌, ◌≤◌, get_or, take, drop, length, List, [], ◌∷◌, ◌++◌, map, refl, sym, ◌∙◌, ap, subst, arith}
use Rattle.std.proofs.lemmas.List.{map_push, map_more, take_all}
use Rattle.ir_trees.specs.declared.ir.kinds.AliasTerm.{AliasTerm}
use Rattle.ir_trees.specs.declared.ir.kinds.Clause.{Clause}
use Rattle.ir_trees.specs.declared.ir.kinds.Ty.{Ty}
use Rattle.ir_trees.specs.Declarations.Context.{Context, Grows}
use Rattle.ir_trees.specs.Syntax.Trees.{Forest, Tree}
use Rattle.ir_trees.specs.Validity.WellFormed.{TypesFit}
use Rattle.ir_trees.specs.Syntax.Words.{ClauseListFits, IsArgs, IsClause, IsTy, clause_tree, ty_tree}
use Rattle.ir_folds.proofs.Instantiation.Joining.{clause-kept}
use Rattle.ir_trees.proofs.Growth.Kept.{args-kept, grows-refl, grows-trans, ty-kept}
use Rattle.candidate_eval.specs.Dynamic.Objects.{IsAmbiguous, IsPicked, Projection, projection_at}
use Rattle.candidate_eval.specs.Dynamic.Replacing.{AreProjections, AreReplaced, AreStuck, IsReplaced, IsStuck, Picks, clauses_at, filled_clause, finds_own, own_projection, projections, projections_at, types_at}
use Rattle.candidate_eval.specs.Judges.States.{Env, State, Judge}
use Rattle.ir_context.proofs.Hierarchy.Listing.{pushed_fits}
use Rattle.candidate_eval.proofs.Outcomes.Responding.{clauses-kept}
use Rattle.candidate_eval.proofs.Builtins.Types.{pushed_fit, types_kept}

module _ (J : Judge) (e : Env) (bounds : List Tree) where
  pub picks-then : {S T U : State} {ps : List Projection} {us : List Tree} (p : Projection) (u : Tree) → Picks J e bounds S ps us T → IsPicked J e p T bounds u U → Picks J e bounds S (ps ++ p ∷ []) (us ++ u ∷ []) U
  picks-then p u Picks.none_left i = Picks.one i Picks.none_left
  picks-then p u (Picks.one x r) i = Picks.one x (picks-then p u r i)

-- Projections that have their terms so far.
pub record PickedSoFar (J : Judge) (e : Env) (bounds : List Tree) (start now : Context) (S T : State) (ps : List AliasTerm) (k : ℕ) (terms : List Ty) : Type 0 where
  pub grows : Grows start now
  pub fit : TypesFit now.trees terms
  pub picked : Picks J e bounds S (projections_at start.trees (take k ps)) (types_at now.trees terms) T

pub none-picked : (J : Judge) (e : Env) (bounds : List Tree) (start : Context) (S : State) (ps : List AliasTerm) (terms : List Ty) → terms ≡ [] → PickedSoFar J e bounds start start S S ps 0 terms
none-picked J e bounds start S ps terms n = record {
  grows = grows-refl start;
  fit = subst (TypesFit start.trees) (sym n) refl;
  picked = subst (λ (xs : List Ty). Picks J e bounds S [] (types_at start.trees xs) S) (sym n) Picks.none_left;
}

-- a projection of the list, in a context that has grown
pub projection-listed : (ts : List Tree) (ps : List AliasTerm) (k : ℕ) (d : AliasTerm) → AreProjections ts ps → k < length ps → IsArgs ts (get_or ps k d).args
projection-listed ts [] k d a l = absurd (omega (arith, l))
projection-listed ts (p ∷ ps) zero d a l = a.0
projection-listed ts (p ∷ ps) (suc k) d a l = projection-listed ts ps k d a.1 (omega (arith, l))

pub projection-later : (start now : Context) (ps : List AliasTerm) (k : ℕ) (d : AliasTerm) → Grows start now → AreProjections start.trees ps → k < length ps
    → IsArgs now.trees (get_or ps k d).args × (projection_at now.trees (get_or ps k d) ≡ projection_at start.trees (get_or ps k d))
projection-later start now ps k d g a l =
    let p = get_or ps k d in
    let k = args-kept start now p.args g (projection-listed start.trees ps k d a l) in
    (k.0, ap (λ (f : Forest). let v : Projection = record { item = p.def_id.0; arguments = f } in v) k.1)

pub one-picked : (J : Judge) (e : Env) (bounds : List Tree) (start now new : Context) (S T U : State) (ps : List AliasTerm) (k : ℕ) (d : AliasTerm) (terms more : List Ty) (u : Ty)
    → PickedSoFar J e bounds start now S T ps k terms → k < length ps → Grows now new → IsTy new.trees u → IsPicked J e (projection_at start.trees (get_or ps k d)) T bounds (ty_tree new.trees u) U
    → more ≡ terms ++ u ∷ [] → PickedSoFar J e bounds start new S U ps (k + 1) more
one-picked J e bounds start now new S T U ps k d terms more u s l g i p m =
    let c = types_kept now.trees new.trees terms g.kept s.fit in
    let all : types_at new.trees more ≡ types_at now.trees terms ++ ty_tree new.trees u ∷ [] = ap (types_at new.trees) m ∙ (map_push (ty_tree new.trees) terms u ∙ ap (λ (xs : List Tree). xs ++ ty_tree new.trees u ∷ []) c.1) in
    let then = picks-then J e bounds (projection_at start.trees (get_or ps k d)) (ty_tree new.trees u) s.picked p in
    record {
      grows = grows-trans start now new s.grows g;
      fit = pushed_fit now new terms more u g s.fit i m;
      picked = subst (λ (xs : List Tree). Picks J e bounds S (projections_at start.trees (take (k + 1) ps)) xs U) (sym all)
          (subst (λ (qs : List Projection). Picks J e bounds S qs (types_at now.trees terms ++ ty_tree new.trees u ∷ []) U) (sym (map_more (projection_at start.trees) ps k d l)) then);
    }

pub all-picked : (J : Judge) (e : Env) (bounds : List Tree) (start now : Context) (S T : State) (ps : List AliasTerm) (k : ℕ) (terms : List Ty) → PickedSoFar J e bounds start now S T ps k terms → length ps ≤ k
    → Picks J e bounds S (projections_at start.trees ps) (types_at now.trees terms) T
all-picked J e bounds start now S T ps k terms s l = subst (λ (qs : List AliasTerm). Picks J e bounds S (projections_at start.trees qs) (types_at now.trees terms) T) (take_all k ps l) s.picked

parts : {A B : Type 0} (f : A → B) (xs : List A) (k : ℕ) (d : A) → k < length xs → map f xs ≡ map f (take k xs) ++ f (get_or xs k d) ∷ map f (drop (suc k) xs)
parts f [] k d l = absurd (omega (arith, l))
parts f (x ∷ xs) zero d l = refl
parts {B = B} f (x ∷ xs) (suc k) d l = ap (λ (ys : List B). f x ∷ ys) (parts f xs k d (omega (arith, l)))

pub one-stuck : (J : Judge) (e : Env) (bounds : List Tree) (start now : Context) (S T : State) (ps : List AliasTerm) (k : ℕ) (d : AliasTerm) (terms : List Ty)
    → PickedSoFar J e bounds start now S T ps k terms → k < length ps → (U : State) → IsAmbiguous J e (projection_at start.trees (get_or ps k d)) T bounds U → IsStuck J e bounds S (projections_at start.trees ps) U
one-stuck J e bounds start now S T ps k d terms s l U a = record {
  before = projections_at start.trees (take k ps);
  terms = types_at now.trees terms;
  last = T;
  projection = projection_at start.trees (get_or ps k d);
  after = projections_at start.trees (drop (suc k) ps);
  are = parts (projection_at start.trees) ps k d l;
  picked = s.picked;
  ambiguous = a;
}

-- What is said in a context that has grown, said in the one at the start.
module _ {F : Type 0} (judge : F → Judge) where
  pub picked-then : (f g : F) (e d : Env) (p q : Projection) (T U : State) (bs cs : List Tree) (u : Tree) → g ≡ f → d ≡ e → q ≡ p → cs ≡ bs → IsPicked (judge g) d q T cs u U → IsPicked (judge f) e p T bs u U
  picked-then f g e d p q T U bs cs u h i j k x =
      subst (λ (y : F). IsPicked (judge y) e p T bs u U) h
      (subst (λ (y : Env). IsPicked (judge g) y p T bs u U) i
      (subst (λ (y : Projection). IsPicked (judge g) d y T bs u U) j (subst (λ (y : List Tree). IsPicked (judge g) d q T y u U) k x)))

  pub ambiguous-then : (f g : F) (e d : Env) (p q : Projection) (T U : State) (bs cs : List Tree) → g ≡ f → d ≡ e → q ≡ p → cs ≡ bs → IsAmbiguous (judge g) d q T cs U → IsAmbiguous (judge f) e p T bs U
  ambiguous-then f g e d p q T U bs cs h i j k x =
      subst (λ (y : F). IsAmbiguous (judge y) e p T bs U) h
      (subst (λ (y : Env). IsAmbiguous (judge g) y p T bs U) i
      (subst (λ (y : Projection). IsAmbiguous (judge g) d y T bs U) j (subst (λ (y : List Tree). IsAmbiguous (judge g) d q T y U) k x)))

  pub replaced-then : (f g : F) (e d : Env) (o p c x u : Tree) (S T : State) (bs cs : List Tree) → g ≡ f → d ≡ e → p ≡ o → x ≡ c → cs ≡ bs → IsReplaced (judge g) d p cs S x u T → IsReplaced (judge f) e o bs S c u T
  replaced-then f g e d o p c x u S T bs cs h i j l k r =
      subst (λ (y : F). IsReplaced (judge y) e o bs S c u T) h
      (subst (λ (y : Env). IsReplaced (judge g) y o bs S c u T) i
      (subst (λ (y : Tree). IsReplaced (judge g) d y bs S c u T) j
      (subst (λ (y : Tree). IsReplaced (judge g) d p bs S y u T) l (subst (λ (y : List Tree). IsReplaced (judge g) d p y S x u T) k r))))

  -- of the projections in a clause
  pub stuck-at : (f g : F) (e d : Env) (o p c x : Tree) (T U : State) (bs cs : List Tree) → g ≡ f → d ≡ e → p ≡ o → x ≡ c → cs ≡ bs → IsStuck (judge g) d cs T (projections (own_projection p cs) x.children) U
      → IsStuck (judge f) e bs T (projections (own_projection o bs) c.children) U
  stuck-at f g e d o p c x T U bs cs h i j l k r =
      subst (λ (y : F). IsStuck (judge y) e bs T (projections (own_projection o bs) c.children) U) h
      (subst (λ (y : Env). IsStuck (judge g) y bs T (projections (own_projection o bs) c.children) U) i
      (subst (λ (y : Tree). IsStuck (judge g) d bs T (projections (own_projection y bs) c.children) U) j
      (subst (λ (y : Tree). IsStuck (judge g) d bs T (projections (own_projection p bs) y.children) U) l
      (subst (λ (y : List Tree). IsStuck (judge g) d y T (projections (own_projection p y) x.children) U) k r))))

-- Clauses that are replaced so far.

module _ (J : Judge) (e : Env) (object : Tree) (bounds : List Tree) where
  pub are-replaced-then : {S T U : State} {cs ds : List Tree} (c d : Tree) → AreReplaced J e object bounds S cs ds T → IsReplaced J e object bounds T c d U → AreReplaced J e object bounds S (cs ++ c ∷ []) (ds ++ d ∷ []) U
  are-replaced-then c d AreReplaced.none_left i = AreReplaced.one i AreReplaced.none_left
  are-replaced-then c d (AreReplaced.one x r) i = AreReplaced.one x (are-replaced-then c d r i)

pub record ReplacedSoFar (J : Judge) (e : Env) (object : Tree) (bounds : List Tree) (start now : Context) (S T : State) (cs : List Clause) (k : ℕ) (ds : List Clause) : Type 0 where
  pub grows : Grows start now
  pub fit : ClauseListFits now.trees ds
  pub replaced : AreReplaced J e object bounds S (clauses_at start.trees (take k cs)) (clauses_at now.trees ds) T

pub none-replaced : (J : Judge) (e : Env) (object : Tree) (bounds : List Tree) (start : Context) (S : State) (cs ds : List Clause) → ds ≡ [] → ReplacedSoFar J e object bounds start start S S cs 0 ds
none-replaced J e object bounds start S cs ds n = record {
  grows = grows-refl start;
  fit = subst (ClauseListFits start.trees) (sym n) refl;
  replaced = subst (λ (xs : List Clause). AreReplaced J e object bounds S [] (clauses_at start.trees xs) S) (sym n) AreReplaced.none_left;
}

pub one-replaced : (J : Judge) (e : Env) (object : Tree) (bounds : List Tree) (start now new : Context) (S T U : State) (cs : List Clause) (k : ℕ) (c : Clause) (ds more : List Clause) (d : Clause)
    → ReplacedSoFar J e object bounds start now S T cs k ds → k < length cs → Grows now new → IsClause new.trees d → IsReplaced J e object bounds T (clause_tree start.trees (get_or cs k c)) (clause_tree new.trees d) U
    → more ≡ ds ++ d ∷ [] → ReplacedSoFar J e object bounds start new S U cs (k + 1) more
one-replaced J e object bounds start now new S T U cs k c ds more d s l g i p m =
    let kept = clauses-kept now new ds g s.fit in
    let all : clauses_at new.trees more ≡ clauses_at now.trees ds ++ clause_tree new.trees d ∷ [] =
    ap (clauses_at new.trees) m ∙ (map_push (clause_tree new.trees) ds d ∙ ap (λ (xs : List Tree). xs ++ clause_tree new.trees d ∷ []) kept.1) in
    let then = are-replaced-then J e object bounds (clause_tree start.trees (get_or cs k c)) (clause_tree new.trees d) s.replaced p in
    record {
      grows = grows-trans start now new s.grows g;
      fit = pushed_fits new.trees ds more d kept.0 i m;
      replaced = subst (λ (xs : List Tree). AreReplaced J e object bounds S (clauses_at start.trees (take (k + 1) cs)) xs U) (sym all)
          (subst (λ (qs : List Tree). AreReplaced J e object bounds S qs (clauses_at now.trees ds ++ clause_tree new.trees d ∷ []) U) (sym (map_more (clause_tree start.trees) cs k c l)) then);
    }

pub all-replaced : (J : Judge) (e : Env) (object : Tree) (bounds : List Tree) (start now : Context) (S T : State) (cs : List Clause) (k : ℕ) (ds : List Clause)
    → ReplacedSoFar J e object bounds start now S T cs k ds → length cs ≤ k → AreReplaced J e object bounds S (clauses_at start.trees cs) (clauses_at now.trees ds) T
all-replaced J e object bounds start now S T cs k ds s l = subst (λ (qs : List Clause). AreReplaced J e object bounds S (clauses_at start.trees qs) (clauses_at now.trees ds) T) (take_all k cs l) s.replaced

pub one-clause-stuck : (J : Judge) (e : Env) (object : Tree) (bounds : List Tree) (start now : Context) (S T : State) (cs : List Clause) (k : ℕ) (c : Clause) (ds : List Clause)
    → ReplacedSoFar J e object bounds start now S T cs k ds → k < length cs → (U : State) → IsStuck J e bounds T (projections (own_projection object bounds) (clause_tree start.trees (get_or cs k c)).children) U
    → AreStuck J e object bounds S (clauses_at start.trees cs) U
one-clause-stuck J e object bounds start now S T cs k c ds s l U a = record {
  before = clauses_at start.trees (take k cs);
  replaced = clauses_at now.trees ds;
  last = T;
  clause = clause_tree start.trees (get_or cs k c);
  after = clauses_at start.trees (drop (suc k) cs);
  are = parts (clause_tree start.trees) cs k c l;
  first = s.replaced;
  stuck = a;
}

-- A clause whose projections were picked and which was filled then.
pub replaced-by : (J : Judge) (e : Env) (a b : Context) (object : Ty) (bounds : List Clause) (clause : Clause) (u : Tree) (qs : List Projection) (us : List Tree) (S T U : State) → Grows a b
    → IsTy a.trees object → ClauseListFits a.trees bounds → IsClause a.trees clause → qs ≡ projections (finds_own a.trees object bounds) (clause_tree a.trees clause).children
    → Picks J e (clauses_at a.trees bounds) S qs us T → U ≡ T → u ≡ filled_clause (finds_own b.trees object bounds) us (clause_tree b.trees clause)
    → IsReplaced J e (ty_tree a.trees object) (clauses_at a.trees bounds) S (clause_tree a.trees clause) u U
replaced-by J e a b object bounds clause u qs us S T U g i cs k q p s f = record {
  terms = us;
  picked = subst (λ (y : State). Picks J e (clauses_at a.trees bounds) S (projections (finds_own a.trees object bounds) (clause_tree a.trees clause).children) us y) (sym s)
      (subst (λ (y : List Projection). Picks J e (clauses_at a.trees bounds) S y us T) q p);
  is = f
      ∙ (ap (λ (y : Tree). filled_clause (own_projection y (clauses_at b.trees bounds)) us (clause_tree b.trees clause)) (ty-kept a b object g i).1
      ∙ (ap (λ (y : List Tree). filled_clause (own_projection (ty_tree a.trees object) y) us (clause_tree b.trees clause)) (clauses-kept a b bounds g cs).1
      ∙ ap (filled_clause (own_projection (ty_tree a.trees object) (clauses_at a.trees bounds)) us) (clause-kept a b clause g k).1));
}
