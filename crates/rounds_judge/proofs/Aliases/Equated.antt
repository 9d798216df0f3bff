-- After an accepted equation both sides are equal modulo the listed pairs, at every later state.
use Rattle.std.proofs.Common.{◌≡◌, ◌<◌, ℕ, zero, suc, ◌+◌, Bool, true, false, ◌&&◌, List, [], ◌∷◌, Option, Some, None, length, arith, refl, sym, ap, subst, ◌∙◌, if◌then◌else◌}
use Rattle.std.specs.Option.{unwrap_or}
use Rattle.std.specs.List.{All, Contains}
use Rattle.std.proofs.lemmas.Bool.{and_parts}
use Rattle.std.proofs.lemmas.List.Elements.{All-head, All-tail, All-cons, All-nil}
use Rattle.ir_trees.specs.declared.ir.heads.Head.{Head}
use Rattle.ir_trees.specs.declared.ir.heads.Head.TheVariants as H
use Rattle.ir_trees.specs.declared.ir.heads.Variable.{Variable}
use Rattle.ir_trees.specs.declared.ir.kinds.RegionKind.TheVariants as R
use Rattle.ir_trees.specs.Syntax.Trees.{Forest, none, tree, Tree, join, holds, binders_of}
use Rattle.ir_trees.specs.Hierarchy.Elaboration.{same_tree}
use Rattle.ir_trees.specs.Instantiation.Folding.{Answers, fold, leaf}
use Rattle.ir_trees.specs.Unification.Substitutions.{alone}
use Rattle.ir_trees.specs.Unification.Unify.{same_head}
use Rattle.ir_context.proofs.Hierarchy.Elaboration.{tree_is}
use Rattle.ir_trees.proofs.Syntax.Equal.{head_is}
use Rattle.ir_trees.proofs.Instantiation.Folding.{begin}
use Rattle.candidate_eval.specs.declared.eval.variable.VariableKind.TheVariants.{Region}
use Rattle.candidate_eval.specs.Interface.Evaluators.{root_value, resolved_root}
use Rattle.candidate_eval.specs.Judges.States.{State, value_at, resolved, resolved_tree, value_as}
use Rattle.candidate_eval.specs.Judges.Soundness.{Live, IsSound, ValuesFit, IsLater, AreTreesOf, is_strange, is_region}
use Rattle.candidate_eval.proofs.Marks.Holds.{holds_parts}
use Rattle.rounds_judge.specs.Aliases.Listed.{Listing, listed, listed_in, normalized_tree, current}
use Rattle.rounds_judge.specs.Equations.Scopes.{Scope, placed_head, placed_tree, entered, scope_below}
use Rattle.rounds_judge.specs.Equations.Binding.{may_take, bound}
use Rattle.rounds_judge.specs.Equations.Equating.{Pair, Visit, Done, Refused, Left, value_for, with_equal_regions, offered, matched, first_of, met, visited, looked, looks, equated}
use Rattle.rounds_judge.specs.Equations.Standing.{IsListing, is_made, Stands}
use Rattle.rounds_judge.specs.Aliases.Congruence.{Same, same, heads, regions, pair, back, along}
use Rattle.rounds_judge.proofs.States.Marks.{valued_node}
use Rattle.rounds_judge.proofs.States.Later.{known_later, later_along, no_value, value_as_of}
use Rattle.rounds_judge.proofs.States.Bound.{value_given, known_bound}
use Rattle.rounds_judge.proofs.Equations.Current.{WhichListed, is_type, itself, which_listed, root_at, root_known, fixed_unvalued, placed_is}
use Rattle.rounds_judge.proofs.Equations.Looks.{same_left, meets, left_known, right_known, x_known, y_known, left_takes, right_takes, visited_keeps, looked_keeps, start_stands}
use Rattle.rounds_judge.proofs.Aliases.Congruent.{same_to, same_node, fixed_stays, listed_pair, pair_counts, region_value}

-- Rows, one after another

same_ahead : (l : Listing) (ts : Forest) {r s : Forest} → Same l r s → Same l (join ts r) (join ts s)
same_ahead l none e = e
same_ahead l (tree h below rest) e = heads h (same below) (same_ahead l rest e)

pub same_join : (l : Listing) (a b r s : Forest) → Same l a b → Same l r s → Same l (join a r) (join b s)
same_join l _ _ r s (same ts) e = same_ahead l ts e
same_join l _ _ r s (heads h {a = a} {b = b} {r = x} {s = y} f g) e = heads h f (same_join l x y r s g e)
same_join l _ _ r s (regions g h a b {r = x} {s = y} p q f) e = regions g h a b p q (same_join l x y r s f e)
same_join l _ _ r s (pair t u {r = x} {s = y} c f) e = pair t u c (same_join l x y r s f e)
same_join l _ _ r s (back {a = a} {b = b} f) e = back (same_join l a b s r f (back e))
same_join l _ _ r s (along {a = a} {b = b} {c = c} f g) e = along (same_join l a b r s f e) (same_join l b c s s g (same s))

-- Listed pairs

pub record ListedPair (l : Listing) (t u : Tree) : Type 0 where
  pub of : Tree × Tree
  pub there : Contains l.pairs of
  pub alias : of.0 ≡ t
  pub type : of.1 ≡ u

pair_among : (os : List (Tree × Tree)) (b : Bool) (t u : Tree) → listed_in os t ≡ Some u → ListedPair (record { pairs = os; is_open = b }) t u
pair_among [] o t u e = cc
pair_among (p ∷ ps) o t u e = at (same_tree p.0 t) refl (pair_among ps o t u) e
  where
    further : (a b : ℕ) → a < b → suc a < suc b
    further a b h = omega (arith, h)

    at : (b : Bool) → same_tree p.0 t ≡ b → (listed_in ps t ≡ Some u → ListedPair (record { pairs = ps; is_open = o }) t u) → (if b then Some p.1 else listed_in ps t) ≡ Some u
        → ListedPair (record { pairs = p ∷ ps; is_open = o }) t u
    at true s f e = record { of = p; there = (0, omega arith, refl); alias = tree_is p.0 t s; type = let is : p.1 ≡ u = cc in is }
    at false s f e = let k = f e in record { of = k.of; there = (suc k.there.0, further k.there.0 (length ps) k.there.1, k.there.2); alias = k.alias; type = k.type }

pub pair_listed : (l : Listing) (t u : Tree) → listed l t ≡ Some u → ListedPair l t u
pair_listed l t u e = pair_among l.pairs l.is_open t u e

-- At a later state

module _ (l : Listing) (listing : IsListing l) (U : State) (L : Live) (fits : ValuesFit U L) where
  unmade_free : (h : Head) → is_made h ≡ false → value_at U h ≡ None
  unmade_free h e = no_value (value_at U h) (fixed_unvalued U h e)

  -- a listed alias and its type
  pub listed_same : (t u : Tree) → listed l t ≡ Some u → Same l (resolved U (alone t)) (resolved U (alone u))
  listed_same t u e =
      let k = pair_listed l t u e in
      let f = listed_pair l listing k.of k.there in
      same_to l (alone k.of.0) (alone k.of.1) (resolved U (alone t)) (resolved U (alone u))
      (ap alone (sym (fixed_stays (value_at U) unmade_free k.of.0 f.alias)) ∙ ap (λ x. resolved U (alone x)) k.alias)
      (ap alone (sym (fixed_stays (value_at U) unmade_free k.of.1 f.type)) ∙ ap (λ x. resolved U (alone x)) k.type)
      (pair k.of.0 k.of.1 (pair_counts l listing k.of k.there) (same none))

  -- answers that are equal to what they stand for
  pub fold_same : (f : Answers) → ((d : ℕ) (t x : Tree) → f d t ≡ Some x → Same l (resolved U (alone t)) (resolved U (alone x))) → (d : ℕ) (ts : Forest) → Same l (resolved U ts) (resolved U (fold f d ts))
  fold_same f each d none = same none
  fold_same f each d (tree h below rest) = node (f d (record { head = h; children = below })) refl (fold_same f each (d + binders_of h) below) (fold_same f each d rest)
    where
      node : (o : Option Tree) → f d (record { head = h; children = below }) ≡ o → Same l (resolved U below) (resolved U (fold f (d + binders_of h) below)) → Same l (resolved U rest) (resolved U (fold f d rest))
          → Same l (resolved U (tree h below rest)) (resolved U (begin (unwrap_or o (record { head = h; children = fold f (d + binders_of h) below })) (fold f d rest)))
      node None e under others = same_node l (value_at U) h below (fold f (d + binders_of h) below) rest (fold f d rest) under others
      node (Some x) e under others =
          same_join l (resolved U (alone (record { head = h; children = below }))) (resolved U (alone x)) (resolved U rest) (resolved U (fold f d rest)) (each d (record { head = h; children = below }) x e) others

  pub listed_fold_same : (ts : Forest) → Same l (resolved U ts) (resolved U (fold (λ d u. listed l u) 0 ts))
  listed_fold_same ts = fold_same (λ d u. listed l u) (λ d t x e. listed_same t x e) 0 ts

  normalized_same : (t : Tree) → Same l (resolved U (alone t)) (resolved U (alone (normalized_tree l t)))
  normalized_same t = fold_same (λ d u. listed l u) (λ d t x e. listed_same t x e) 0 (alone t)

  placed_same : (us : Scope) (t : Tree) → Same l (resolved U (alone t)) (resolved U (alone (placed_tree us t)))
  placed_same us t = fold_same (λ d u. placed_head us d u.head) (λ d t x e. placed d t x e) 0 (alone t)
    where
      bound_region : (us : Scope) (d : ℕ) (h : Head) (x : Tree) → placed_head us d h ≡ Some x → (value_at U h ≡ None) × (is_region h ≡ true)
      bound_region us d (H.Region (R.Bound v)) x e = (refl, refl)
      bound_region us d _ x e = cc

      placed : (d : ℕ) (t x : Tree) → placed_head us d t.head ≡ Some x → Same l (resolved U (alone t)) (resolved U (alone x))
      placed d t x e =
          let p = placed_is us d t.head x e in
          let b = bound_region us d t.head x e in
          let y : Tree = leaf (H.Region (R.Placeholder (record { universe = p.1; index = p.0.index }))) in
          same_to l (tree t.head (resolved U t.children) none) (alone y) (resolved U (alone t)) (resolved U (alone x))
          (ap (λ o. alone (unwrap_or o (record { head = t.head; children = resolved U t.children }))) (sym b.0) ∙ sym (valued_node (value_at U) t.head t.children none)) (ap (λ x. resolved U (alone x)) p.3)
          (regions t.head y.head (resolved U t.children) none b.1 refl (same none))

  module _ (S : State) (later : IsLater S U L) where
    -- what is a value at the root
    root_same : (t : Tree) → holds (is_strange S L) (alone t) ≡ false → resolved U (alone t) ≡ resolved U (alone (resolved_root S t))
    root_same t k = at (root_value S t.head) refl
      where
        at : (o : Option Tree) → root_value S t.head ≡ o → resolved U (alone t) ≡ resolved U (alone (unwrap_or o t))
        at None e = refl
        at (Some x) e =
            sym (later.values (alone t) k) ∙ ap (resolved U) (valued_node (value_at S) t.head t.children none)
            ∙ ap (λ o. resolved U (alone (unwrap_or o (record { head = t.head; children = resolved S t.children })))) (root_at S t.head x e)

    current_same : IsSound S L → (t : Tree) → holds (is_strange S L) (alone t) ≡ false → Same l (resolved U (alone t)) (resolved U (alone (current l S t)))
    current_same sound t k =
        same_to l (resolved U (alone (resolved_root S t))) (resolved U (alone (current l S t))) (resolved U (alone t)) (resolved U (alone (current l S t))) (sym (root_same t k)) refl
        (at (current l S t) (which_listed l S (resolved_root S t)))
      where
        at : (x : Tree) → WhichListed l S (resolved_root S t) x → Same l (resolved U (alone (resolved_root S t))) (resolved U (alone x))
        at _ (is_type u a e) =
            same_to l (resolved U (resolved S (alone (resolved_root S t)))) (resolved U (alone u)) (resolved U (alone (resolved_root S t))) (resolved U (alone u))
            (later.values (alone (resolved_root S t)) (root_known l listing S L sound t k)) refl (listed_same (resolved_tree S (resolved_root S t)) u e)
        at _ itself = same (resolved U (alone (resolved_root S t)))

    -- the value for a variable that meets the tree
    value_same : (us : Scope) (t : Tree) → holds (is_strange S L) (alone t) ≡ false → Same l (resolved U (alone t)) (resolved U (alone (value_for l S us t)))
    value_same us t k =
        same_to l (resolved U (resolved S (alone t))) (resolved U (alone (value_for l S us t))) (resolved U (alone t)) (resolved U (alone (value_for l S us t))) (later.values (alone t) k) refl
        (along (normalized_same (resolved_tree S t)) (placed_same us (normalized_tree l (resolved_tree S t))))

    -- a region resolves to one
    resolved_region : (t : Tree) → holds (is_strange S L) (alone t) ≡ false → is_region t.head ≡ true → is_region (resolved_tree U t).head ≡ true
    resolved_region t k e = at t.head (holds_parts (is_strange U L) t.head t.children none (known_later S U L L (λ n l c. c) later (alone t) k)).here e
      where
        by : (n : ℕ) (o : Option Tree) (x : Forest) → value_as U Region n ≡ o → is_strange U L (H.Region (R.Var n)) ≡ false → is_region (unwrap_or o (record { head = H.Region (R.Var n); children = x })).head ≡ true
        by n None x f k = refl
        by n (Some v) x f k = region_value l U L fits n v k (value_as_of U Region n v f)

        at : (h : Head) → is_strange U L h ≡ false → is_region h ≡ true → is_region (resolved_tree U (record { head = h; children = t.children })).head ≡ true
        at (H.Region (R.Var n)) k e = by n (value_as U Region n) _ refl k
        at (H.Region r) k e = refl
        at _ k e = cc

    regions_same : (x y : Tree) → holds (is_strange S L) (alone x) ≡ false → holds (is_strange S L) (alone y) ≡ false → is_region x.head && is_region y.head ≡ true → Same l (resolved U (alone x)) (resolved U (alone y))
    regions_same x y k m e =
        let p = and_parts (is_region x.head) (is_region y.head) e in
        regions (resolved_tree U x).head (resolved_tree U y).head (resolved_tree U x).children (resolved_tree U y).children (resolved_region x k p.0) (resolved_region y m p.1) (same none)

    heads_same : (x y : Tree) → same_head x.head y.head ≡ true → Same l (resolved U x.children) (resolved U y.children) → Same l (resolved U (alone x)) (resolved U (alone y))
    heads_same x y e f =
        subst (λ h. Same l (resolved U (alone x)) (resolved U (tree h y.children none))) (head_is x.head y.head e) (same_node l (value_at U) x.head x.children y.children none none f (same none))

  -- a variable that got a value
  taken_same : (S : State) (v : Variable) (t x : Tree) → IsLater (bound S v t) U L → holds (is_strange S L) (alone x) ≡ false → is_strange S L (H.Infer v) ≡ false → x.head ≡ H.Infer v → resolved U (alone x) ≡ resolved U (alone t)
  taken_same S v t x later k m e =
      sym (later.values (alone x) (known_bound S v t L (alone x) k)) ∙ ap (resolved U) (valued_node (value_at (bound S v t)) x.head x.children none)
      ∙ ap (λ o. resolved U (alone (unwrap_or o (record { head = x.head; children = resolved (bound S v t) x.children })))) (ap (value_at (bound S v t)) e ∙ value_given S v t L m)

  -- One look

  abbrev pub EqualAt : Pair → Type 0
  EqualAt p = Same l (resolved U p.left) (resolved U p.right)

  -- Two trees that begin a pair: what they are at the state is equal, and what comes after them.
  module _ (S : State) (us : Scope) (h g : Head) (a r b s : Forest) (more : List Pair) (st : Stands S L (record { scope = us; left = tree h a r; right = tree g b s } ∷ more)) (later : IsLater S U L) where
    abbrev x : Tree
    x = current l S (record { head = h; children = a })

    abbrev y : Tree
    y = current l S (record { head = g; children = b })

    abbrev rest_pair : Pair
    rest_pair = record { scope = us; left = r; right = s }

    first_equal : Same l (resolved U (alone x)) (resolved U (alone y)) → All EqualAt (rest_pair ∷ more) → All EqualAt (record { scope = us; left = tree h a r; right = tree g b s } ∷ more)
    first_equal e others =
        let left = current_same S later st.sound (record { head = h; children = a }) (left_known l listing L S us h g a r b s more st) in
        let right = current_same S later st.sound (record { head = g; children = b }) (right_known l listing L S us h g a r b s more st) in
        All-cons EqualAt (record { scope = us; left = tree h a r; right = tree g b s }) more
        (same_join l (resolved U (alone (record { head = h; children = a }))) (resolved U (alone (record { head = g; children = b }))) (resolved U r) (resolved U s) (along left (along e (back right))) (All-head EqualAt rest_pair more others))
        (All-tail EqualAt rest_pair more others)

    x_is : holds (is_strange S L) (alone x) ≡ false
    x_is = x_known l listing L S us h g a r b s more st

    y_is : holds (is_strange S L) (alone y) ≡ false
    y_is = y_known l listing L S us h g a r b s more st

    left_taken : (v : Variable) → x.head ≡ H.Infer v → may_take S v (value_for l S us y) ≡ true → IsLater (bound S v (value_for l S us y)) U L → Same l (resolved U (alone x)) (resolved U (alone y))
    left_taken v i m after =
        same_to l (resolved U (alone (value_for l S us y))) (resolved U (alone y)) (resolved U (alone x)) (resolved U (alone y))
        (sym (taken_same S v (value_for l S us y) x after x_is (left_takes l listing L S us h g a r b s more st v i m).is_known i)) refl (back (value_same S later us y y_is))

    right_taken : (v : Variable) → y.head ≡ H.Infer v → may_take S v (value_for l S us x) ≡ true → IsLater (bound S v (value_for l S us x)) U L → Same l (resolved U (alone x)) (resolved U (alone y))
    right_taken v i m after =
        same_to l (resolved U (alone x)) (resolved U (alone (value_for l S us x))) (resolved U (alone x)) (resolved U (alone y))
        refl (sym (taken_same S v (value_for l S us x) y after y_is (right_takes l listing L S us h g a r b s more st v i m).is_known i)) (value_same S later us x x_is)

    met_equal : (T : State) (rest : List Pair) → met l S us x y (rest_pair ∷ more) ≡ Left T rest → IsLater T U L → All EqualAt rest → All EqualAt (record { scope = us; left = tree h a r; right = tree g b s } ∷ more)
    met_equal T rest e after equal =
        meets l S us x y (rest_pair ∷ more) (λ R ps. IsLater R U L → All EqualAt ps → All EqualAt (record { scope = us; left = tree h a r; right = tree g b s } ∷ more))
        (λ v i m after equal. first_equal (left_taken v i m after) equal)
        (λ v i m after equal. first_equal (right_taken v i m after) equal)
        (λ n after equal. first_equal (regions_same S later x y x_is y_is n) equal)
        (λ n i after equal.
        let p : Pair = record { scope = scope_below S us x.head x.children; left = x.children; right = y.children } in
        first_equal (heads_same S later x y i (All-head EqualAt p (rest_pair ∷ more) equal)) (All-tail EqualAt p (rest_pair ∷ more) equal))
        T rest e after equal

  visited_equal : (S T : State) (ps rest : List Pair) → Stands S L ps → visited l S ps ≡ Left T rest → IsLater S U L → IsLater T U L → All EqualAt rest → All EqualAt ps
  visited_equal S T [] rest st e later after equal = All-nil EqualAt
  visited_equal S T (p ∷ more) rest st e later after equal = rows p.left p.right st e
    where
      rows : (a b : Forest) → Stands S L (record { scope = p.scope; left = a; right = b } ∷ more) → visited l S (record { scope = p.scope; left = a; right = b } ∷ more) ≡ Left T rest
          → All EqualAt (record { scope = p.scope; left = a; right = b } ∷ more)
      rows none none st e = same_left (λ R ps. All EqualAt ps → All EqualAt (record { scope = p.scope; left = none; right = none } ∷ more)) S T more rest e (λ equal. All-cons EqualAt (record { scope = p.scope; left = none; right = none }) more (same none) equal) equal
      rows none (tree g b s) st e = cc
      rows (tree h a r) none st e = cc
      rows (tree h a r) (tree g b s) st e = met_equal S p.scope h g a r b s more st later T rest e after equal

  -- Nothing is left where looks are done.
  visited_done : (S : State) (ps : List Pair) → visited l S ps ≡ Done → ps ≡ []
  visited_done S [] e = refl
  visited_done S (p ∷ more) e = absurd (rows p.left p.right e)
    where
      offers : (us : Scope) (h : Head) (t : Tree) (ps : List Pair) (w : Visit) → offered l S us h t ps ≡ Some w → w ≡ Done → ⊥
      offers us (H.Infer v) t ps w f g = at (may_take S v (value_for l S us t)) f
        where
          at : (b : Bool) → (if b then Some (Left (bound S v (value_for l S us t)) ps) else None) ≡ Some w → ⊥
          at true f = let is : Left (bound S v (value_for l S us t)) ps ≡ w = cc in let clash : Left (bound S v (value_for l S us t)) ps ≡ Done = is ∙ g in cc
          at false f = cc
      offers us _ t ps w f g = cc

      matches : (us : Scope) (x y : Tree) (ps : List Pair) → matched S us x y ps ≡ Done → ⊥
      matches us x y ps f = at (is_region x.head && is_region y.head) (same_head x.head y.head) f
        where
          at : (b c : Bool) → (if b then Left (with_equal_regions S (placed_tree us x) (placed_tree us y)) ps
              else (if c then Left (entered S x.head x.children) (record { scope = scope_below S us x.head x.children; left = x.children; right = y.children } ∷ ps) else Refused)) ≡ Done → ⊥
          at true c f = cc
          at false true f = cc
          at false false f = cc

      meet : (us : Scope) (x y : Tree) (ps : List Pair) (o q : Option Visit) → offered l S us x.head y ps ≡ o → offered l S us y.head x ps ≡ q → first_of o q (matched S us x y ps) ≡ Done → ⊥
      meet us x y ps (Some w) q f g e = offers us x.head y ps w f e
      meet us x y ps None (Some w) f g e = offers us y.head x ps w g e
      meet us x y ps None None f g e = matches us x y ps e

      rows : (a b : Forest) → visited l S (record { scope = p.scope; left = a; right = b } ∷ more) ≡ Done → ⊥
      rows none none e = cc
      rows none (tree g b s) e = cc
      rows (tree h a r) none e = cc
      rows (tree h a r) (tree g b s) e =
          let x = current l S (record { head = h; children = a }) in
          let y = current l S (record { head = g; children = b }) in
          let ps : List Pair = record { scope = p.scope; left = r; right = s } ∷ more in
          meet p.scope x y ps (offered l S p.scope x.head y ps) (offered l S p.scope y.head x ps) refl refl e

  -- Looks
  looked_equal : (n : ℕ) (S T : State) (ps : List Pair) → Stands S L ps → looked l n S ps ≡ Some T → IsLater T U L → All EqualAt ps
  looked_equal zero S T ps st e after = cc
  looked_equal (suc n) S T ps st e after = at (visited l S ps) refl (λ R rest st e. looked_equal n R T rest st e after) e
    where
      at : (w : Visit) → visited l S ps ≡ w → ((R : State) (rest : List Pair) → Stands R L rest → looked l n R rest ≡ Some T → All EqualAt rest)
          → elim w [ Done ↦ Some S | Refused ↦ None | Left R more ↦ looked l n R more ] ≡ Some T → All EqualAt ps
      at Done f ih e = subst (All EqualAt) (sym (visited_done S ps f)) (All-nil EqualAt)
      at Refused f ih e = cc
      at (Left R rest) f ih e =
          let k = visited_keeps l listing L S R ps rest st f in
          let m = looked_keeps l listing L n R T rest k.stands e in
          let onwards : IsLater R U L = later_along R T U L L k.stands.sound (λ n l c. c) m.later after in
          visited_equal S R ps rest st f (later_along S R U L L st.sound (λ n l c. c) k.later onwards) onwards (ih R rest k.stands e)

  -- After an accepted equation both sides are equal.
  pub equated_equal : (S T : State) (a b : Forest) → IsSound S L → ValuesFit S L → AreTreesOf S L a → AreTreesOf S L b → equated l S a b ≡ Some T → IsLater T U L → Same l (resolved U a) (resolved U b)
  equated_equal S T a b sound fit left right e after =
      let ps : List Pair = record { scope = []; left = a; right = b } ∷ [] in
      All-head EqualAt (record { scope = []; left = a; right = b }) [] (looked_equal (looks l S ps) S T ps (start_stands S L a b sound fit left right) e after)
