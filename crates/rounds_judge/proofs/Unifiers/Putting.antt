-- Trees with values put in, and what erasing makes of them.
use Rattle.std.proofs.Common.{◌≡◌, ℕ, ◌+◌, Bool, true, false, Option, Some, None, refl, sym, ap, ◌∙◌}
use Rattle.std.specs.Option.{unwrap_or}
use Rattle.ir_trees.specs.declared.ir.heads.Head.{Head}
use Rattle.ir_trees.specs.declared.ir.heads.Head.TheVariants as H
use Rattle.ir_trees.specs.Syntax.Trees.{Forest, none, tree, Tree, erase, erased_head, holds, binders_of}
use Rattle.ir_trees.specs.Instantiation.Folding.{Answers, fold, leaf}
use Rattle.ir_trees.specs.Unification.Substitutions.{Substitution, lookup, apply, alone}
use Rattle.ir_trees.proofs.Instantiation.Folding.{begin}
use Rattle.candidate_eval.specs.Judges.States.{Values, valued}
use Rattle.candidate_eval.specs.Judges.Soundness.{AreLeaves, is_leaf}
use Rattle.candidate_eval.proofs.Marks.Holds.{holds_parts}
use Rattle.rounds_judge.proofs.States.Marks.{whole, valued_node}

abbrev pub node : Values → Head → Forest → Tree
node v h a = unwrap_or (v h) (record { head = h; children = a })

-- the trees with the values put in, whatever binders are passed
abbrev pub put_in : Values → Forest → Forest
put_in v none = none
put_in v (tree h a r) = begin (node v h (put_in v a)) (put_in v r)

pub valued_is : (v : Values) (ts : Forest) → valued v ts ≡ put_in v ts
valued_is v none = refl
valued_is v (tree h a r) = valued_node v h a r ∙ ap (λ b. begin (node v h b) (valued v r)) (valued_is v a) ∙ ap (begin (node v h (put_in v a))) (valued_is v r)

-- A substitution as values, of trees whose variables are leaves.
abbrev pub assigned : Substitution → Values
assigned s (H.Infer v) = Some (lookup s v (leaf (H.Infer v)))
assigned s _ = None

pub apply_is : (s : Substitution) (ts : Forest) → AreLeaves ts → apply s ts ≡ put_in (assigned s) ts
apply_is s none l = refl
apply_is s (tree h a r) l = at h l.0 (apply_is s a l.1) (apply_is s r l.2)
  where
    at : (h : Head) → (is_leaf h ≡ true → a ≡ none) → apply s a ≡ put_in (assigned s) a → apply s r ≡ put_in (assigned s) r → apply s (tree h a r) ≡ put_in (assigned s) (tree h a r)
    at (H.Infer v) l below rest = ap (λ b. begin (lookup s v (record { head = H.Infer v; children = apply s b })) (apply s r)) (l refl) ∙ ap (begin (lookup s v (leaf (H.Infer v)))) rest
    at h l below rest = ap (λ b. tree h b (apply s r)) below ∙ ap (tree h (put_in (assigned s) a)) rest

-- rows of trees that are the same once regions are erased
pub erased_row : (x y : Tree) (r q : Forest) → erase (alone x) ≡ erase (alone y) → erase r ≡ erase q → erase (begin x r) ≡ erase (begin y q)
erased_row x y r q e f = at (erased_head x.head) (erased_head y.head) (erase x.children) (erase y.children) e
  where
    at : (h g : Head) (a b : Forest) → tree h a none ≡ tree g b none → tree h a (erase r) ≡ tree g b (erase q)
    at h g a b e = let i : h ≡ g = cc in let j : a ≡ b = cc in ap (λ k. tree k a (erase r)) i ∙ ap (λ c. tree g c (erase r)) j ∙ ap (tree g b) f

pub erased_node : (w : Values) (h : Head) (a b : Forest) → erase a ≡ erase b → erase (alone (node w h a)) ≡ erase (alone (node w h b))
erased_node w h a b e = at (w h)
  where
    at : (o : Option Tree) → erase (alone (unwrap_or o (record { head = h; children = a }))) ≡ erase (alone (unwrap_or o (record { head = h; children = b })))
    at None = ap (λ c. tree (erased_head h) c none) e
    at (Some t) = refl

-- a mark that no head bears
pub nowhere : (ts : Forest) → holds (λ h. false) ts ≡ false
nowhere none = refl
nowhere (tree h a r) = whole (λ h. false) h a r refl (nowhere a) (nowhere r)

-- Leaves

-- answers of which variables and regions are leaves; asked of heads without the mark
module _ (f : Answers) (mark : Head → Bool) (says : (d : ℕ) (t u : Tree) → mark t.head ≡ false → f d t ≡ Some u → AreLeaves (alone u)) where
  pub fold_leaves : (d : ℕ) (ts : Forest) → holds mark ts ≡ false → AreLeaves ts → AreLeaves (fold f d ts)
  fold_leaves d none m l = tt
  fold_leaves d (tree h a r) m l =
      let p = holds_parts mark h a r m in
      at (f d (record { head = h; children = a })) refl p.here (fold_leaves (d + binders_of h) a p.under l.1) (fold_leaves d r p.others l.2)
    where
      at : (o : Option Tree) → f d (record { head = h; children = a }) ≡ o → mark h ≡ false → AreLeaves (fold f (d + binders_of h) a) → AreLeaves (fold f d r)
          → AreLeaves (begin (unwrap_or o (record { head = h; children = fold f (d + binders_of h) a })) (fold f d r))
      at None e q under others = (λ is. ap (fold f (d + binders_of h)) (l.0 is), under, others)
      at (Some u) e q under others = let k = says d (record { head = h; children = a }) u q e in (k.0, k.1, others)

-- Answers that come to the same as the leaves that they are put for, once the values are put in and regions are erased.
module _ (f : Answers) (w : Values) (mark : Head → Bool)
    (says : (d : ℕ) (t u : Tree) → mark t.head ≡ false → f d t ≡ Some u → (is_leaf t.head ≡ true) × (erase (put_in w (alone u)) ≡ erase (put_in w (tree t.head none none)))) where
  pub absorbed : (d : ℕ) (ts : Forest) → holds mark ts ≡ false → AreLeaves ts → erase (put_in w (fold f d ts)) ≡ erase (put_in w ts)
  absorbed d none m l = refl
  absorbed d (tree h a r) m l =
      let p = holds_parts mark h a r m in
      at (f d (record { head = h; children = a })) refl p.here (absorbed (d + binders_of h) a p.under l.1) (absorbed d r p.others l.2)
    where
      at : (o : Option Tree) → f d (record { head = h; children = a }) ≡ o → mark h ≡ false
          → erase (put_in w (fold f (d + binders_of h) a)) ≡ erase (put_in w a) → erase (put_in w (fold f d r)) ≡ erase (put_in w r)
          → erase (put_in w (begin (unwrap_or o (record { head = h; children = fold f (d + binders_of h) a })) (fold f d r))) ≡ erase (put_in w (tree h a r))
      at None e q under others =
          erased_row (node w h (put_in w (fold f (d + binders_of h) a))) (node w h (put_in w a)) (put_in w (fold f d r)) (put_in w r)
          (erased_node w h (put_in w (fold f (d + binders_of h) a)) (put_in w a) under) others
      at (Some u) e q under others =
          let k = says d (record { head = h; children = a }) u q e in
          erased_row (node w u.head (put_in w u.children)) (node w h (put_in w a)) (put_in w (fold f d r)) (put_in w r)
          (k.1 ∙ ap (λ b. erase (alone (node w h (put_in w b)))) (sym (l.0 k.0))) others
