-- Equality modulo pairs of trees: of rows, of trees with others in their places, and where values are put in.
use Rattle.std.proofs.Common.{◌≡◌, ℕ, ◌+◌, true, List, Option, Some, None, refl, sym, ap, subst, ◌∙◌}
use Rattle.std.specs.Option.{unwrap_or}
use Rattle.ir_trees.specs.declared.ir.heads.Head.{Head}
use Rattle.ir_trees.specs.declared.ir.heads.Head.TheVariants as H
use Rattle.ir_trees.specs.Hierarchy.Supers.{after_first}
use Rattle.ir_trees.specs.Instantiation.Folding.{Answers, fold}
use Rattle.ir_trees.specs.Syntax.Nodes.{error_tree}
use Rattle.ir_trees.specs.Syntax.Trees.{Forest, none, tree, Tree, binders_of, join}
use Rattle.ir_trees.specs.Unification.Substitutions.{alone}
use Rattle.ir_trees.proofs.Instantiation.Folding.{begin}
use Rattle.ir_trees.specs.declared.ir.kinds.AssocId.{AssocId}
use Rattle.candidate_eval.specs.Judges.Instances.{Instance, instance}
use Rattle.candidate_eval.specs.Judges.Soundness.{is_region}
use Rattle.candidate_eval.specs.Judges.States.{State, Values, resolved, resolved_tree, valued, valued_tree, value_at}
use Rattle.rounds_judge.specs.Aliases.Congruence.{SameBy, same, heads, regions, pair, back, along}
use Rattle.rounds_judge.specs.Aliases.Listed.{listed_in}
use Rattle.rounds_judge.specs.Aliases.OpenParts.{opened}
use Rattle.rounds_judge.specs.Obligations.Settling.{alias_of, arguments_of, first_fact, last_or, term_of, without_last}
use Rattle.rounds_judge.proofs.Aliases.OpenedParts.{AllPairs, pair_found}
use Rattle.rounds_judge.proofs.States.Marks.{valued_node}

-- With more pairs what is equal stays so.
pub wider : (P Q : Tree → Tree → Type 0) → ((t u : Tree) → P t u → Q t u) → {a b : Forest} → SameBy P a b → SameBy Q a b
wider P Q f (same ts) = same ts
wider P Q f (heads h p q) = heads h (wider P Q f p) (wider P Q f q)
wider P Q f (regions g h a b x y q) = regions g h a b x y (wider P Q f q)
wider P Q f (pair t u x q) = pair t u (f t u x) (wider P Q f q)
wider P Q f (back p) = back (wider P Q f p)
wider P Q f (along p q) = along (wider P Q f p) (wider P Q f q)

module _ (P : Tree → Tree → Type 0) where
  pub moved : (a b c d : Forest) → a ≡ c → b ≡ d → SameBy P a b → SameBy P c d
  moved a b c d e f s = subst (SameBy P c) f (subst (λ x. SameBy P x b) e s)

  -- one tree and the rest
  pub begun : (t : Tree) {r s : Forest} → SameBy P r s → SameBy P (begin t r) (begin t s)
  begun t e = heads t.head (same t.children) e

  ahead : (ts : Forest) {r s : Forest} → SameBy P r s → SameBy P (join ts r) (join ts s)
  ahead none e = e
  ahead (tree h below rest) e = heads h (same below) (ahead rest e)

  pub joined : {a b r s : Forest} → SameBy P a b → SameBy P r s → SameBy P (join a r) (join b s)
  joined (same ts) e = ahead ts e
  joined (heads h p q) e = heads h p (joined q e)
  joined (regions g h a b x y q) e = regions g h a b x y (joined q e)
  joined (pair t u x q) e = pair t u x (joined q e)
  joined (back p) e = back (joined p (back e))
  joined {s = s} (along p q) e = along (joined p e) (joined q (same s))

  -- two trees that are equal, and the rest
  pub first_joined : (s t : Tree) {r q : Forest} → SameBy P (alone s) (alone t) → SameBy P r q → SameBy P (begin s r) (begin t q)
  first_joined s t e f = joined e f

  -- Values, below a head

  node_to : (v w : Values) (h g : Head) (a b r s : Forest)
      → SameBy P (begin (unwrap_or (v h) (record { head = h; children = valued v a })) (valued v r)) (begin (unwrap_or (w g) (record { head = g; children = valued w b })) (valued w s))
      → SameBy P (valued v (tree h a r)) (valued w (tree g b s))
  node_to v w h g a b r s e = moved _ _ _ _ (sym (valued_node v h a r)) (sym (valued_node w g b s)) e

  pub valued_below : (v : Values) (h : Head) (a b r s : Forest) → SameBy P (valued v a) (valued v b) → SameBy P (valued v r) (valued v s) → SameBy P (valued v (tree h a r)) (valued v (tree h b s))
  valued_below v h a b r s e f = node_to v v h h a b r s (at (v h))
    where
      at : (o : Option Tree) → SameBy P (begin (unwrap_or o (record { head = h; children = valued v a })) (valued v r)) (begin (unwrap_or o (record { head = h; children = valued v b })) (valued v s))
      at None = heads h e f
      at (Some t) = begun t f

  -- answers that are equal to what they stand for
  pub fold_equal : (U : State) (f : Answers) → ((d : ℕ) (t x : Tree) → f d t ≡ Some x → SameBy P (resolved U (alone t)) (resolved U (alone x))) → (d : ℕ) (ts : Forest)
      → SameBy P (resolved U ts) (resolved U (fold f d ts))
  fold_equal U f each d none = same none
  fold_equal U f each d (tree h below rest) = node (f d (record { head = h; children = below })) refl (fold_equal U f each (d + binders_of h) below) (fold_equal U f each d rest)
    where
      node : (o : Option Tree) → f d (record { head = h; children = below }) ≡ o → SameBy P (resolved U below) (resolved U (fold f (d + binders_of h) below)) → SameBy P (resolved U rest) (resolved U (fold f d rest))
          → SameBy P (resolved U (tree h below rest)) (resolved U (begin (unwrap_or o (record { head = h; children = fold f (d + binders_of h) below })) (fold f d rest)))
      node None e under others = valued_below (value_at U) h below (fold f (d + binders_of h) below) rest (fold f d rest) under others
      node (Some x) e under others = joined (each d (record { head = h; children = below }) x e) others

  -- where each part is equal to what stands in its place, so are the trees
  pub opened_equal : (U : State) (ps : List (Tree × Tree)) (ts : Forest) → AllPairs (λ t u. SameBy P (alone (resolved_tree U t)) (alone (resolved_tree U u))) ps → SameBy P (resolved U ts) (resolved U (opened ps ts))
  opened_equal U ps ts a = fold_equal U (λ d u. listed_in ps u) (λ d t x e. pair_found (λ t u. SameBy P (alone (resolved_tree U t)) (alone (resolved_tree U u))) ps t x e a) 0 ts

  -- Facts of equal trees

  rest_equal : {a b : Forest} → SameBy P a b → SameBy P (after_first a) (after_first b)
  rest_equal (same ts) = same (after_first ts)
  rest_equal (heads h p q) = q
  rest_equal (regions g h a b x y q) = q
  rest_equal (pair t u x q) = q
  rest_equal (back q) = back (rest_equal q)
  rest_equal (along p q) = along (rest_equal p) (rest_equal q)

  last_equal : {a b : Forest} → SameBy P a b → (s t : Tree) → SameBy P (alone s) (alone t) → SameBy P (alone (last_or s a)) (alone (last_or t b))
  last_equal (same none) s t e = e
  last_equal (same (tree h below rest)) s t e = same (alone (last_or (record { head = h; children = below }) rest))
  last_equal (heads h {a = a} {b = b} p q) s t e = last_equal q (record { head = h; children = a }) (record { head = h; children = b }) (heads h p (same none))
  last_equal (regions g h a b x y q) s t e = last_equal q (record { head = g; children = a }) (record { head = h; children = b }) (regions g h a b x y (same none))
  last_equal (pair x y z q) s t e = last_equal q x y (pair x y z (same none))
  last_equal (back q) s t e = back (last_equal q t s (back e))
  last_equal (along p q) s t e = along (last_equal p s s (same (alone s))) (last_equal q s t e)

  others_equal : {a b : Forest} → SameBy P a b → (s t : Tree) → SameBy P (alone s) (alone t) → SameBy P (without_last s a) (without_last t b)
  others_equal (same none) s t e = same none
  others_equal (same (tree h below rest)) s t e = first_joined s t e (same (without_last (record { head = h; children = below }) rest))
  others_equal (heads h {a = a} {b = b} p q) s t e = first_joined s t e (others_equal q (record { head = h; children = a }) (record { head = h; children = b }) (heads h p (same none)))
  others_equal (regions g h a b x y q) s t e = first_joined s t e (others_equal q (record { head = g; children = a }) (record { head = h; children = b }) (regions g h a b x y (same none)))
  others_equal (pair x y z q) s t e = first_joined s t e (others_equal q x y (pair x y z (same none)))
  others_equal (back q) s t e = back (others_equal q t s (back e))
  others_equal (along p q) s t e = along (others_equal p s s (same (alone s))) (others_equal q s t e)

  pub firsts_equal : {a b : Forest} → SameBy P a b → SameBy P (alone (first_fact a)) (alone (first_fact b))
  firsts_equal (same ts) = same (alone (first_fact ts))
  firsts_equal (heads h p q) = heads h p (same none)
  firsts_equal (regions g h a b x y q) = regions g h a b x y (same none)
  firsts_equal (pair t u x q) = pair t u x (same none)
  firsts_equal (back q) = back (firsts_equal q)
  firsts_equal (along p q) = along (firsts_equal p) (firsts_equal q)

  term_is : (ts : Forest) → last_or error_tree ts ≡ term_of ts
  term_is none = refl
  term_is (tree h below rest) = refl

  arguments_are : (ts : Forest) → after_first (without_last error_tree ts) ≡ arguments_of ts
  arguments_are none = refl
  arguments_are (tree h below rest) = refl

  pub terms_equal : (a b : Forest) → SameBy P a b → SameBy P (alone (term_of a)) (alone (term_of b))
  terms_equal a b e =
      subst (λ t. SameBy P (alone (term_of a)) (alone t)) (term_is b) (subst (λ t. SameBy P (alone t) (alone (last_or error_tree b))) (term_is a) (last_equal e error_tree error_tree (same (alone error_tree))))

  arguments_equal : (a b : Forest) → SameBy P a b → SameBy P (arguments_of a) (arguments_of b)
  arguments_equal a b e = moved _ _ _ _ (arguments_are a) (arguments_are b) (rest_equal (others_equal e error_tree error_tree (same (alone error_tree))))

  pub aliases_equal : (i : AssocId) (a b : Forest) → SameBy P a b → SameBy P (alone (alias_of i a)) (alone (alias_of i b))
  aliases_equal i a b e = heads (alias_of i a).head (arguments_equal a b e) (same none)

-- Values of types and constants

instance_region : (i : Instance) (h : Head) → is_region h ≡ true → instance i h ≡ None
instance_region i (H.Region r) e = refl
instance_region i _ e = cc

-- the sides of each pair become equal
abbrev pub Carries : (P Q : Tree → Tree → Type 0) → Instance → Type 0
Carries P Q i = (t u : Tree) → P t u → SameBy Q (alone (valued_tree (instance i) t)) (alone (valued_tree (instance i) u))

-- What is equal becomes so.
pub carried : (P Q : Tree → Tree → Type 0) (i : Instance) → Carries P Q i → (a b : Forest) → SameBy P a b → SameBy Q (valued (instance i) a) (valued (instance i) b)
carried P Q i f _ _ (same ts) = same (valued (instance i) ts)
carried P Q i f _ _ (heads h {a = a} {b = b} {r = r} {s = s} p q) = valued_below Q (instance i) h a b r s (carried P Q i f a b p) (carried P Q i f r s q)
carried P Q i f _ _ (regions g h a b {r = r} {s = s} x y q) =
    moved Q _ _ _ _
    (sym (valued_node (instance i) g a r ∙ ap (λ o. begin (unwrap_or o (record { head = g; children = valued (instance i) a })) (valued (instance i) r)) (instance_region i g x)))
    (sym (valued_node (instance i) h b s ∙ ap (λ o. begin (unwrap_or o (record { head = h; children = valued (instance i) b })) (valued (instance i) s)) (instance_region i h y)))
    (regions g h (valued (instance i) a) (valued (instance i) b) x y (carried P Q i f r s q))
carried P Q i f _ _ (pair t u {r = r} {s = s} x q) =
    moved Q (begin (valued_tree (instance i) t) (valued (instance i) r)) (begin (valued_tree (instance i) u) (valued (instance i) s)) (valued (instance i) (begin t r)) (valued (instance i) (begin u s)) refl refl
    (first_joined Q (valued_tree (instance i) t) (valued_tree (instance i) u) (f t u x) (carried P Q i f r s q))
carried P Q i f _ _ (back {a = a} {b = b} p) = back (carried P Q i f a b p)
carried P Q i f _ _ (along {a = a} {b = b} {c = c} p q) = along (carried P Q i f a b p) (carried P Q i f b c q)
