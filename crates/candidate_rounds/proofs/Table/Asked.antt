-- The key of a goal that stands at a state may be computed.
use Rattle.std.proofs.Common.{◌≡◌, ◌≤◌, ℕ, suc, ◌+◌, ◌==◌, Bool, true, false, not, ◌&&◌, ◌||◌, List, [], ◌∷◌, map, slice_get, Option, Some, None, refl, sym, ◌∙◌, ap, subst, arith, if◌then◌else◌}
use Rattle.std.proofs.lemmas.Bool.{eqb-true, le-ltb, or_parts}
use Rattle.std.proofs.lemmas.List.Elements.{All-nil}
use Rattle.ir_trees.specs.declared.ir.heads.ConstHead.TheVariants as C
use Rattle.ir_trees.specs.declared.ir.heads.Head.{Head}
use Rattle.ir_trees.specs.declared.ir.heads.Head.TheVariants as H
use Rattle.ir_trees.specs.declared.ir.heads.Flag.TheVariants as F
use Rattle.ir_trees.specs.declared.ir.heads.Marks.{Marks}
use Rattle.ir_trees.specs.declared.ir.kinds.RegionKind.{RegionKind}
use Rattle.ir_trees.specs.declared.ir.kinds.RegionKind.TheVariants as R
use Rattle.ir_trees.specs.Syntax.Binders.{escapes, is_beyond}
use Rattle.ir_trees.specs.Instantiation.Folding.{leaf}
use Rattle.ir_trees.specs.Unification.Substitutions.{alone}
use Rattle.ir_trees.specs.Instantiation.Owned.{is_unsolved}
use Rattle.ir_trees.specs.Syntax.Marks.{AreMarks, marked}
use Rattle.ir_trees.specs.Syntax.Trees.{Forest, none, tree, Tree, binders_of, holds, is_param, join, tree_holds}
use Rattle.ir_trees.proofs.Instantiation.Folding.{or-left, or-right}
use Rattle.ir_trees.proofs.Instantiation.Quiet.{variable-kept}
use Rattle.candidate_eval.specs.declared.eval.mode.TypingMode.TheVariants.{PostAnalysis}
use Rattle.candidate_eval.specs.declared.eval.variable.CanonicalVar.{CanonicalVar}
use Rattle.candidate_eval.specs.declared.eval.variable.VariableKind.{VariableKind}
use Rattle.candidate_eval.specs.declared.eval.variable.VariableKind.TheVariants.{Term, Region}
use Rattle.candidate_eval.specs.Judges.Alike.{info}
use Rattle.candidate_eval.specs.Derivations.ImplRules.{TraitGoal}
use Rattle.candidate_eval.specs.Judges.Instances.{instance}
use Rattle.candidate_eval.specs.Judges.Soundness.{Live, is_strange}
use Rattle.candidate_eval.specs.Judges.States.{State, VariableInfo, has_kind, resolved, valued}
use Rattle.candidate_eval.proofs.Marks.Holds.{holds_imply, holds_parts}
use Rattle.candidate_assembly.specs.Goals.Standing.{GoalIsValid}
use Rattle.candidate_assembly.specs.Goals.TraitRules.{trait_rules}
use Rattle.rounds_judge.specs.Table.GoalTable.{is_foreign, may_be_asked}
use Rattle.rounds_judge.specs.Table.Keys.{every, fresh_state, goal_trees, greatest_named, key_at, newest_of, numbers_at, root_of, universe_named}
use Rattle.rounds_judge.specs.Obligations.Responding.{is_seen, open_variable, place_of, renumbered, renumbered_region, renumbered_regions, renumbering}
use Rattle.rounds_judge.specs.Equations.Standing.{IsListed}
use Rattle.rounds_judge.proofs.States.Later.{kind_there, resolved_closed, resolved_known}
use Rattle.rounds_judge.proofs.States.Marks.{fold_closed_among, fold_marked, whole}
use Rattle.rounds_judge.proofs.Parameters.Parameterless.{resolved-free}
use Rattle.rounds_judge.proofs.Parameters.ParameterlessResponses.{renumbered-free}
use Rattle.rounds_judge.proofs.Obligations.Renumbering.{all_seen, is_missing}
use Rattle.rounds_judge.proofs.Table.TableSettled.{apart, joined}
use Rattle.candidate_rounds.specs.Evaluators.Known.{rigid_otherwise}
use Rattle.candidate_rounds.proofs.Resolution.Unmarked.{greatest-quiet, root-quiet}
use Rattle.candidate_rounds.proofs.Table.KeyGoals.{trees-resolved}

-- The universes that trees name are no newer than one, and their variables are among these: nothing in them is strange.

abbrev is_unplaced : List CanonicalVar → Head → Bool
is_unplaced vs (H.Infer v) = not (has_kind (Term v.sort) (slice_get (map root_of vs) v.number))
is_unplaced vs (H.Region (R.Var n)) = not (has_kind Region (slice_get (map root_of vs) n))
is_unplaced vs _ = false

low-head : (u : ℕ) (vs : List CanonicalVar) (h : Head) → universe_named h ≤ u → is_unplaced vs h ≡ false → is_strange (fresh_state PostAnalysis u vs) every h ≡ false
low-head u vs (H.Infer v) l e = e
low-head u vs (H.Region (R.Var n)) l e = e
low-head u vs (H.Placeholder p) l e = le-ltb u p.universe l
low-head u vs (H.Const (C.Placeholder p)) l e = le-ltb u p.universe l
low-head u vs (H.Region (R.Placeholder p)) l e = le-ltb u p.universe l
low-head u vs _ l e = refl

low-trees : (u : ℕ) (vs : List CanonicalVar) (ts : Forest) → greatest_named ts ≤ u → holds (is_unplaced vs) ts ≡ false → holds (is_strange (fresh_state PostAnalysis u vs) every) ts ≡ false
low-trees u vs none l e = refl
low-trees u vs (tree h below rest) l e =
    let p = holds_parts (is_unplaced vs) h below rest e in
    whole (is_strange (fresh_state PostAnalysis u vs) every) h below rest (low-head u vs h (omega (arith, l)) p.here) (low-trees u vs below (omega (arith, l)) p.under) (low-trees u vs rest (omega (arith, l)) p.others)

-- Nothing is strange in a tree in which there is no variable and no placeholder.

placed-root : (vs : List CanonicalVar) (h : Head) → is_unsolved h ≡ false → is_unplaced vs h ≡ false
placed-root vs (H.Infer v) e = absurd cc
placed-root vs (H.Region r) e = at r e
  where
    at : (k : RegionKind) → is_unsolved (H.Region k) ≡ false → is_unplaced vs (H.Region k) ≡ false
    at (R.Var n) f = absurd cc
    at _ f = refl
placed-root vs _ e = refl

pub strange-kept : (m : Marks) (u : ℕ) (vs : List CanonicalVar) (t : Tree) (b d : Bool) → AreMarks m t
    → b ≡ marked m F.TyInfer || (marked m F.RegionInfer || marked m F.ConstInfer) → b ≡ false
    → d ≡ marked m F.TyPlaceholder || (marked m F.RegionPlaceholder || marked m F.ConstPlaceholder) → d ≡ false
    → tree_holds (is_strange (fresh_state PostAnalysis u vs) every) t ≡ false
strange-kept m u vs t b d a e n f k =
    let solved = variable-kept m t b a e n in
    let here = root-quiet m t d a f k in
    let under = greatest-quiet m t d a f k in
    let strange = is_strange (fresh_state PostAnalysis u vs) every in
    ap (λ (x : Bool). x || holds strange t.children) (low-head u vs t.head (omega (arith, here)) (placed-root vs t.head (or-left (is_unsolved t.head) (holds is_unsolved t.children) solved)))
    ∙ low-trees u vs t.children (omega (arith, under))
    (holds_imply is_unsolved (is_unplaced vs) (placed-root vs) t.children (or-right (is_unsolved t.head) (holds is_unsolved t.children) solved))

-- What is strange but for regions is strange.

foreign-head : (S : State) (h : Head) → is_strange S every h ≡ false → is_foreign S h ≡ false
foreign-head S (H.Region r) e = at r e
  where
    at : (k : RegionKind) → is_strange S every (H.Region k) ≡ false → is_foreign S (H.Region k) ≡ false
    at (R.Placeholder p) f = refl
    at _ f = f
foreign-head S _ e = e

pub foreign-less : (S : State) (t : Tree) → tree_holds (is_strange S every) t ≡ false → tree_holds (is_foreign S) t ≡ false
foreign-less S t e =
    let strange = is_strange S every in
    ap (λ (x : Bool). x || holds (is_foreign S) t.children) (foreign-head S t.head (or-left (strange t.head) (holds strange t.children) e))
    ∙ holds_imply strange (is_foreign S) (foreign-head S) t.children (or-right (strange t.head) (holds strange t.children) e)

-- A number that is seen has a place, where its variable's kind is.

kind-open : (k : VariableKind) (o : Option VariableInfo) → has_kind k o ≡ true → has_kind k (Some (root_of (open_variable o))) ≡ true
kind-open k None e = absurd cc
kind-open k (Some i) e = e

seen-by : (b : Bool) → not b ≡ false → b ≡ true
seen-by true e = refl
seen-by false e = absurd cc

module _ (S : State) where
  abbrev vars_of : List ℕ → List CanonicalVar
  vars_of ns = map (λ n. open_variable (info S n)) ns

  placed : (k : VariableKind) (ns : List ℕ) (n : ℕ) → is_seen ns n ≡ true → has_kind k (info S n) ≡ true → has_kind k (slice_get (map root_of (vars_of ns)) (place_of ns n)) ≡ true
  placed k [] n e f = absurd cc
  placed k (m ∷ ms) n e f = at (m == n) refl (λ g. placed k ms n g f) e
    where
      at : (b : Bool) → (m == n) ≡ b → (is_seen ms n ≡ true → has_kind k (slice_get (map root_of (vars_of ms)) (place_of ms n)) ≡ true) → b || is_seen ms n ≡ true
          → has_kind k (slice_get (map root_of (vars_of (m ∷ ms))) (if b then 0 else suc (place_of ms n))) ≡ true
      at true q more e = kind-open k (info S m) (subst (λ j. has_kind k (info S j) ≡ true) (sym (eqb-true m n q)) f)
      at false q more e = more e

  -- Terms are numbered anew first, and regions after them.

  abbrev is_half : List ℕ → Head → Bool
  is_half ns (H.Infer v) = not (has_kind (Term v.sort) (slice_get (map root_of (vars_of ns)) v.number))
  is_half ns (H.Region (R.Var n)) = not (is_seen ns n && has_kind Region (info S n))
  is_half ns _ = false

  half-both : (a b : Bool) → a ≡ true → b ≡ true → not (a && b) ≡ false
  half-both a b e f = ap (λ x. not (x && b)) e ∙ ap not f

  half-parts : (a b : Bool) → not (a && b) ≡ false → (a ≡ true) × (b ≡ true)
  half-parts true b e = (refl, seen-by b e)
  half-parts false b e = absurd cc

  module _ (L : Live) (ns : List ℕ) where
    half-head : (h : Head) → is_missing ns h ≡ false → is_strange S L h ≡ false → instance (renumbering ns) h ≡ None → is_half ns h ≡ false
    half-head (H.Infer v) m s e = absurd cc
    half-head (H.Region (R.Var n)) m s e = half-both (is_seen ns n) (has_kind Region (info S n)) (seen-by (is_seen ns n) m) (kind_there (L n) Region (info S n) s)
    half-head _ m s e = refl

    half-put : (h : Head) (u : Tree) → is_missing ns h ≡ false → is_strange S L h ≡ false → instance (renumbering ns) h ≡ Some u → holds (is_half ns) (alone u) ≡ false
    half-put (H.Infer v) u m s e =
        let t : Tree = leaf (H.Infer (record { sort = v.sort; number = place_of ns v.number })) in
        let is : t ≡ u = cc in
        let here = ap not (placed (Term v.sort) ns v.number (seen-by (is_seen ns v.number) m) (kind_there (L v.number) (Term v.sort) (info S v.number) s)) in
        subst (λ (x : Tree). holds (is_half ns) (alone x) ≡ false) is (whole (is_half ns) t.head none none here refl refl)
    half-put _ u m s e = absurd cc

    half-trees : (ts : Forest) → holds (is_missing ns) ts ≡ false → holds (is_strange S L) ts ≡ false → holds (is_half ns) (valued (instance (renumbering ns)) ts) ≡ false
    half-trees ts m s = fold_marked (λ d t. instance (renumbering ns) t.head) (is_missing ns) (is_strange S L) (is_half ns) (λ d t a b f. half-head t.head a b f) (λ d t u a b f. half-put t.head u a b f) 0 ts m s

    region-head : (h : Head) → is_half ns h ≡ false → is_unplaced (vars_of ns) (renumbered_region ns h) ≡ false
    region-head (H.Infer v) e = e
    region-head (H.Region (R.Var n)) e = let p = half-parts (is_seen ns n) (has_kind Region (info S n)) e in ap not (placed Region ns n p.0 p.1)
    region-head _ e = refl

    region-trees : (ts : Forest) → holds (is_half ns) ts ≡ false → holds (is_unplaced (vars_of ns)) (renumbered_regions ns ts) ≡ false
    region-trees none e = refl
    region-trees (tree h below rest) e =
        let p = holds_parts (is_half ns) h below rest e in
        whole (is_unplaced (vars_of ns)) (renumbered_region ns h) (renumbered_regions ns below) (renumbered_regions ns rest) (region-head h p.here) (region-trees below p.under) (region-trees rest p.others)

    pub placed-trees : (ts : Forest) → holds (is_missing ns) ts ≡ false → holds (is_strange S L) ts ≡ false → holds (is_unplaced (vars_of ns)) (renumbered ns ts) ≡ false
    placed-trees ts m s = region-trees (valued (instance (renumbering ns)) ts) (half-trees ts m s)

    -- No bound variable escapes.

    leaf-closed : (h : Head) (u : Tree) → instance (renumbering ns) h ≡ Some u → escapes 0 (alone u) ≡ false
    leaf-closed (H.Infer v) u e =
        let t : Tree = leaf (H.Infer (record { sort = v.sort; number = place_of ns v.number })) in
        let is : t ≡ u = cc in
        subst (λ (x : Tree). escapes 0 (alone x) ≡ false) is refl
    leaf-closed _ u e = absurd cc

    same-beyond : (n : ℕ) (h : Head) → is_beyond n (renumbered_region ns h) ≡ is_beyond n h
    same-beyond n (H.Region (R.Var m)) = refl
    same-beyond n _ = refl

    same-binders : (h : Head) → binders_of (renumbered_region ns h) ≡ binders_of h
    same-binders (H.Region (R.Var m)) = refl
    same-binders _ = refl

    regions-escape : (n : ℕ) (ts : Forest) → escapes n (renumbered_regions ns ts) ≡ escapes n ts
    regions-escape n none = refl
    regions-escape n (tree h below rest) =
        let a = same-beyond n h in
        let b = ap (λ m. escapes (n + m) (renumbered_regions ns below)) (same-binders h) ∙ regions-escape (n + binders_of h) below in
        let c = regions-escape n rest in
        λ i. a i || (b i || c i)

    pub renumbered-closed : (ts : Forest) → holds (is_strange S L) ts ≡ false → escapes 0 ts ≡ false → escapes 0 (renumbered ns ts) ≡ false
    renumbered-closed ts k e =
        regions-escape 0 (valued (instance (renumbering ns)) ts)
        ∙ fold_closed_among (λ d t. instance (renumbering ns) t.head) (is_strange S L) (λ d t u m f. leaf-closed t.head u f) 0 0 ts k e

-- A row of rows is closed.
closed-row : (n : ℕ) (a b : Forest) → escapes n a ≡ false → escapes n b ≡ false → escapes n (join a b) ≡ false
closed-row n none b e f = f
closed-row n (tree h below rest) b e f =
    let p = or_parts (is_beyond n h) (escapes (n + binders_of h) below || escapes n rest) e in
    let q = or_parts (escapes (n + binders_of h) below) (escapes n rest) p.1 in
    ap (λ x. x || (escapes (n + binders_of h) below || escapes n (join rest b))) p.0 ∙ (ap (λ x. x || escapes n (join rest b)) q.0 ∙ closed-row n rest b q.1 f)

all-three : (a b c : Bool) → a ≡ false → b ≡ false → c ≡ false → not a && (not b && not c) ≡ true
all-three a b c e f g = ap (λ x. not x && (not b && not c)) e ∙ (ap (λ x. not x && not c) f ∙ ap not g)

pub may-be-asked : (S : State) (g : TraitGoal) → GoalIsValid trait_rules S g → may_be_asked (key_at S g) ≡ true
may-be-asked S g h =
    let L = h.live in
    let ns = numbers_at S g in
    let k = key_at S g in
    let e = resolved S g.env in
    let a = resolved S g.reference.arguments in
    let known_e = resolved_known S L h.sound g.env h.env.known in
    let known_a = resolved_known S L h.sound g.reference.arguments h.trees.known in
    let missing = apart (is_missing ns) e a (ap (holds (is_missing ns)) (trees-resolved S g) ∙ all_seen [] (resolved S (goal_trees g))) in
    let unplaced = joined (is_unplaced k.variables) (renumbered ns e) (renumbered ns a) (placed-trees S L ns e missing.0 known_e) (placed-trees S L ns a missing.1 known_a) in
    let newest : greatest_named (goal_trees k.goal) ≤ newest_of k = omega arith in
    let closed = closed-row 0 (renumbered ns e) (renumbered ns a)
    (renumbered-closed S L ns e known_e (resolved_closed S L h.fits 0 g.env h.env.known h.env.is_closed))
    (renumbered-closed S L ns a known_a (resolved_closed S L h.fits 0 g.reference.arguments h.trees.known h.trees.is_closed)) in
    let free = joined is_param (renumbered ns e) (renumbered ns a)
    (renumbered-free ns e (resolved-free (rigid_otherwise []) (All-nil IsListed) S L h.sound h.values g.env h.env.known h.env_free))
    (renumbered-free ns a (resolved-free (rigid_otherwise []) (All-nil IsListed) S L h.sound h.values g.reference.arguments h.trees.known h.trees_free)) in
    all-three (holds (is_strange (fresh_state PostAnalysis (newest_of k) k.variables) every) (goal_trees k.goal)) (escapes 0 (goal_trees k.goal)) (holds is_param (goal_trees k.goal))
    (low-trees (newest_of k) k.variables (goal_trees k.goal) newest unplaced) closed free
