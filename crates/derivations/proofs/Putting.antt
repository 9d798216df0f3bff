-- Values after values, and what is of a universe where they are put in.
use Rattle.std.proofs.Common.{◌≡◌, ◌<◌, ℕ, true, false, not, Option, Some, None, List, [], ◌∷◌, arith, refl, sym, ap, subst, ◌∙◌}
use Rattle.std.specs.Option.{unwrap_or}
use Rattle.std.proofs.lemmas.Bool.{leb-false, lt-leb, ltb-false}
use Rattle.ir_trees.specs.declared.ir.heads.Head.{Head}
use Rattle.ir_trees.specs.declared.ir.heads.Head.TheVariants as H
use Rattle.ir_trees.specs.declared.ir.heads.ConstHead.TheVariants as C
use Rattle.ir_trees.specs.declared.ir.heads.Variable.{Variable}
use Rattle.ir_trees.specs.declared.ir.heads.VariableSort.{VariableSort}
use Rattle.ir_trees.specs.Unification.Substitutions.{Universes, alone, fits_sort, is_placeholder_above}
use Rattle.ir_trees.specs.Syntax.Trees.{Forest, Kind, none, tree, Tree, erased_head, holds, kind_of, sort_kind}
use Rattle.ir_trees.specs.Declarations.Worlds.{kinds_of}
use Rattle.ir_trees.proofs.Instantiation.Folding.{begin}
use Rattle.candidate_eval.specs.declared.eval.variable.VariableKind.TheVariants.{Term}
use Rattle.candidate_eval.specs.Judges.Alike.{info}
use Rattle.candidate_eval.specs.Judges.Instances.{Instance, IsAllowedInto, instance, is_of_universe}
use Rattle.candidate_eval.specs.Dynamic.ObjectRequirements.{first_tree}
use Rattle.candidate_eval.specs.Judges.Soundness.{IsSound, Live, ValuesFit, fits_kind, is_strange, is_variable_above, universe_in, universes}
use Rattle.candidate_eval.specs.Judges.States.{State, Values, VariableInfo, has_kind, valued, valued_tree}
use Rattle.candidate_eval.proofs.Marks.Holds.{holds_imply, holds_parts}
use Rattle.candidate_assembly.proofs.Goals.Standing.{not-false, sort-kind}
use Rattle.rounds_judge.specs.Obligations.Granted.{IsFreshFor}
use Rattle.rounds_judge.proofs.States.Bound.{fits_through}
use Rattle.rounds_judge.proofs.Aliases.Congruent.{terms_of}
use Rattle.rounds_judge.proofs.States.Later.{has_info, kind_there, value_there}
use Rattle.rounds_judge.proofs.States.Marks.{fold_marked, holds_erased, holds_to, valued_node, valued_twice}
use Rattle.rounds_judge.proofs.Unifiers.Putting.{nowhere}
use Rattle.rounds_judge.proofs.Table.TableGranting.{kind_is}
use Rattle.derivations.specs.Derivations.{Suits, suits}
use Rattle.derivations.specs.Ordinary.{IsOfVariables}

-- Values after values.

abbrev pub after_value : Instance → Option Tree → Option Tree → Option Tree
after_value w None o = o
after_value w (Some t) o = Some (valued_tree (instance w) t)

abbrev pub after : Instance → Instance → Instance
after w v x = after_value w (v x) (w x)

module _ (w v : Instance) where
  some_after : (h : Head) (t : Tree) → instance v h ≡ Some t → instance (after w v) h ≡ Some (valued_tree (instance w) t)
  some_after (H.Infer x) t e = ap (λ o. after_value w o (w x)) e
  some_after _ t e = cc

  none_after : (h : Head) → instance v h ≡ None → instance (after w v) h ≡ instance w h
  none_after (H.Infer x) e = ap (λ o. after_value w o (w x)) e
  none_after _ e = refl

  pub valued_after : (ts : Forest) → valued (instance w) (valued (instance v) ts) ≡ valued (instance (after w v)) ts
  valued_after ts = valued_twice (instance v) (instance w) (instance (after w v)) (λ h. false) (λ h t m e. some_after h t e) (λ h m e. none_after h e) ts (nowhere ts)

  pub tree_after : (t : Tree) → valued_tree (instance w) (valued_tree (instance v) t) ≡ valued_tree (instance (after w v)) t
  tree_after t = ap first_tree (valued_after (alone t))

-- So it is of trees that are put in for any heads.

abbrev pub then_put : Values → Option Tree → Option Tree → Option Tree
then_put w None o = o
then_put w (Some t) o = Some (valued_tree w t)

abbrev pub put_after : Values → Values → Values
put_after w v h = then_put w (v h) (w h)

module _ (w v : Values) where
  some_put : (h : Head) (t : Tree) → v h ≡ Some t → put_after w v h ≡ Some (valued_tree w t)
  some_put h t e = ap (λ o. then_put w o (w h)) e

  none_put : (h : Head) → v h ≡ None → put_after w v h ≡ w h
  none_put h e = ap (λ o. then_put w o (w h)) e

  pub valued_put : (ts : Forest) → valued w (valued v ts) ≡ valued (put_after w v) ts
  valued_put ts = valued_twice v w (put_after w v) (λ h. false) (λ h t m e. some_put h t e) (λ h m e. none_put h e) ts (nowhere ts)

  pub variables_put : IsOfVariables w → IsOfVariables v → IsOfVariables (put_after w v)
  variables_put of_w of_v = λ h e. none_put h (of_v h e) ∙ of_w h e

pub instance_of_variables : (o : Instance) → IsOfVariables (instance o)
instance_of_variables o (H.Infer v) e = cc
instance_of_variables o _ e = refl

-- Values that suit trees keep their kinds.

pub suited_kinds : (v : Instance) (ts : Forest) → Suits v ts → kinds_of (valued (instance v) ts) ≡ kinds_of ts
suited_kinds v none e = refl
suited_kinds v (tree h below rest) e =
    let p = holds_parts (λ h. not (suits (instance v h) h)) h below rest e in
    ap kinds_of (valued_node (instance v) h below rest) ∙ node h (not-false (suits (instance v h) h) p.here) (suited_kinds v rest p.others)
  where
    node : (h : Head) → suits (instance v h) h ≡ true → kinds_of (valued (instance v) rest) ≡ kinds_of rest
        → kinds_of (begin (unwrap_or (instance v h) (record { head = h; children = valued (instance v) below })) (valued (instance v) rest)) ≡ kinds_of (tree h below rest)
    node (H.Infer x) e others = at (v x) e
      where
        at : (o : Option Tree) → suits o (H.Infer x) ≡ true → kinds_of (begin (unwrap_or o (record { head = H.Infer x; children = valued (instance v) below })) (valued (instance v) rest)) ≡ kinds_of (tree (H.Infer x) below rest)
        at None e = ap (λ ks. sort_kind x.sort ∷ ks) others
        at (Some t) e = ap (λ k. k ∷ kinds_of (valued (instance v) rest)) (sort-kind x.sort t.head e) ∙ ap (λ ks. sort_kind x.sort ∷ ks) others
    node h e others = ap (λ ks. kind_of h ∷ ks) others

-- An allowed instance keeps sorts, kinds, and what is fresh.

module _ (u w : Universes) (o : Instance) (allowed : IsAllowedInto u w o) where
  suits_all : (h : Head) → suits (instance o h) h ≡ true
  suits_all (H.Infer x) = at (o x) refl
    where
      at : (m : Option Tree) → o x ≡ m → suits m (H.Infer x) ≡ true
      at None f = refl
      at (Some t) f = allowed.fits x t f
  suits_all _ = refl

  pub instance_kinds : (ts : Forest) → kinds_of (valued (instance o) ts) ≡ kinds_of ts
  instance_kinds ts = suited_kinds o ts (holds_imply (λ h. false) (λ h. not (suits (instance o h) h)) (λ h e. ap not (suits_all h)) ts (nowhere ts))

  fits_kept : (s : VariableSort) (t : Tree) → fits_sort s t.head ≡ true → fits_sort s (valued_tree (instance o) t).head ≡ true
  fits_kept s t = at t.head t.children
    where
      variable : (x : Variable) (below : Forest) → fits_sort s (H.Infer x) ≡ true → (m : Option Tree) → o x ≡ m → fits_sort s (unwrap_or m (record { head = H.Infer x; children = below })).head ≡ true
      variable x below e None f = e
      variable x below e (Some y) f = fits_through s x y.head e (allowed.fits x y f)

      at : (h : Head) (below : Forest) → fits_sort s h ≡ true → fits_sort s (valued_tree (instance o) (record { head = h; children = below })).head ≡ true
      at (H.Infer x) below e = variable x (valued (instance o) below) e (o x) refl
      at h below e = e

  suits_one : (v : Instance) (h : Head) → suits (instance v h) h ≡ true → suits (instance (after o v) h) h ≡ true
  suits_one v (H.Infer x) e = at (v x) e
    where
      at : (m : Option Tree) → suits m (H.Infer x) ≡ true → suits (after_value o m (o x)) (H.Infer x) ≡ true
      at None e = suits_all (H.Infer x)
      at (Some t) e = fits_kept x.sort t e
  suits_one v _ e = refl

  -- what suits trees suits them still
  pub suits_after : (v : Instance) (ts : Forest) → Suits v ts → Suits (after o v) ts
  suits_after v ts e =
      holds_imply (λ h. not (suits (instance v h) h)) (λ h. not (suits (instance (after o v) h) h))
      (λ h f. ap not (suits_one v h (not-false (suits (instance v h) h) f))) ts e

  fresh_head : (n : ℕ) (h : Head) → is_of_universe u n h ≡ false → instance o h ≡ None → is_of_universe w n h ≡ false
  fresh_head n (H.Infer x) e f =
      let low = allowed.stays x f in
      let less = leb-false n (u x) e in
      lt-leb n (w x) (omega (arith, low, less))
  fresh_head n (H.Placeholder p) e f = e
  fresh_head n (H.Const (C.Placeholder p)) e f = e
  fresh_head n _ e f = refl

  fresh_put : (n : ℕ) (h : Head) (t : Tree) → is_of_universe u n h ≡ false → instance o h ≡ Some t → holds (is_of_universe w n) (alone t) ≡ false
  fresh_put n (H.Infer x) t e f = allowed.in_universe x t n f (leb-false n (u x) e)
  fresh_put n _ t e f = cc

  pub fresh_after : (ks : List Kind) (n : ℕ) (ts : Forest) → IsFreshFor u ks n ts → IsFreshFor w ks n (valued (instance o) ts)
  fresh_after [] n ts f = tt
  fresh_after (k ∷ ks) n ts f = record {
    above_root = f.above_root;
    unmentioned = fold_marked (λ d t. instance o t.head) (is_of_universe u n) (is_of_universe u n) (is_of_universe w n) (λ d t a b e. fresh_head n t.head a e) (λ d t x a b e. fresh_put n t.head x a e) 0 ts f.unmentioned f.unmentioned;
  }

-- So do the values of a state that makes sense.

module _ (U : State) (M : Live) where
  -- what is known of a variable that counts and has a value
  record IsValued (x : Variable) (t : Tree) : Type 0 where
    entry : VariableInfo
    there : info U x.number ≡ Some entry
    live : M x.number ≡ true
    kind : entry.kind ≡ Term x.sort
    value : entry.value ≡ Some t

  is_valued : (x : Variable) (t : Tree) → is_strange U M (H.Infer x) ≡ false → terms_of U x ≡ Some t → IsValued x t
  is_valued x t k e =
      let i = has_info (M x.number) (Term x.sort) (info U x.number) k in
      record {
        entry = i.0;
        there = i.1;
        live = i.2;
        kind = kind_is i.0.kind x.sort (ap (has_kind (Term x.sort)) (sym i.1) ∙ kind_there (M x.number) (Term x.sort) (info U x.number) k);
        value = value_there U (Term x.sort) x.number i.0 t i.1 e;
      }

  pub terms_suit : ValuesFit U M → (ts : Forest) → holds (is_strange U M) ts ≡ false → Suits (terms_of U) ts
  terms_suit fits ts k = holds_imply (is_strange U M) (λ h. not (suits (instance (terms_of U) h) h)) (λ h e. ap not (one h e)) ts k
    where
      one : (h : Head) → is_strange U M h ≡ false → suits (instance (terms_of U) h) h ≡ true
      one (H.Infer x) e = at (terms_of U x) refl
        where
          at : (m : Option Tree) → terms_of U x ≡ m → suits m (H.Infer x) ≡ true
          at None f = refl
          at (Some t) f =
              let i = is_valued x t e f in
              subst (λ k. fits_kind k t.head ≡ true) i.kind ((fits x.number i.live).kind i.entry t i.there i.value)
      one _ e = refl

  module _ (sound : IsSound U M) where
    low : (n a m : ℕ) → a < n → m < n → (h : Head) → is_placeholder_above a (erased_head h) ≡ false → is_variable_above (universes U) m (erased_head h) ≡ false → is_of_universe (universes U) n h ≡ false
    low n a m p q (H.Placeholder v) x y = let less = ltb-false a v.universe x in lt-leb n v.universe (omega (arith, p, less))
    low n a m p q (H.Const (C.Placeholder v)) x y = let less = ltb-false a v.universe x in lt-leb n v.universe (omega (arith, p, less))
    low n a m p q (H.Infer v) x y = let less = ltb-false m (universes U v) y in lt-leb n (universes U v) (omega (arith, q, less))
    low n a m p q _ x y = refl

    term_low : (x : Variable) (t : Tree) (n : ℕ) → is_strange U M (H.Infer x) ≡ false → universes U x < n → terms_of U x ≡ Some t → holds (is_of_universe (universes U) n) (alone t) ≡ false
    term_low x t n k less e =
        let i = is_valued x t k e in
        let own : universes U x ≡ i.entry.universe = ap universe_in i.there in
        let placeholders = sound.allowed x.sort x.number i.entry t i.live i.there i.value i.kind in
        let variables = sound.no_higher x.number i.entry t i.live i.there i.value in
        holds_to (λ h. is_placeholder_above (universes U x) (erased_head h)) (λ h. is_variable_above (universes U) i.entry.universe (erased_head h)) (is_of_universe (universes U) n)
        (low n (universes U x) i.entry.universe less (omega (arith, less, own))) (alone t)
        (sym (holds_erased (is_placeholder_above (universes U x)) (alone t)) ∙ placeholders.in_universe) (sym (holds_erased (is_variable_above (universes U) i.entry.universe) (alone t)) ∙ variables)

    put_low : (n : ℕ) (h : Head) (t : Tree) → is_strange U M h ≡ false → is_of_universe (universes U) n h ≡ false → instance (terms_of U) h ≡ Some t → holds (is_of_universe (universes U) n) (alone t) ≡ false
    put_low n (H.Infer x) t k e f = term_low x t n k (leb-false n (universes U x) e) f
    put_low n _ t k e f = cc

    pub fresh_terms : (ks : List Kind) (n : ℕ) (ts : Forest) → holds (is_strange U M) ts ≡ false → IsFreshFor (universes U) ks n ts → IsFreshFor (universes U) ks n (valued (instance (terms_of U)) ts)
    fresh_terms [] n ts k f = tt
    fresh_terms (x ∷ ks) n ts k f = record {
      above_root = f.above_root;
      unmentioned = fold_marked (λ d t. instance (terms_of U) t.head) (is_strange U M) (is_of_universe (universes U) n) (is_of_universe (universes U) n) (λ d t a b e. b) (λ d t y a b e. put_low n t.head y a b e) 0 ts k f.unmentioned;
    }
