-- Looks come to an end, and more of them change nothing.
use Rattle.std.proofs.Common.{◌≡◌, ◌≤◌, ◌<◌, ℕ, zero, suc, ◌+◌, ◌*◌, Bool, true, false, ◌&&◌, List, [], ◌∷◌, Option, Some, None, refl, sym, ap, subst, ◌∙◌, arith, if◌then◌else◌}
use Rattle.std.specs.Option.{unwrap_or}
use Rattle.std.specs.List.{All}
use Rattle.std.proofs.Math.Nat.{mul-add, le_trans}
use Rattle.std.proofs.lemmas.List.Elements.{All-head, All-tail}
use Rattle.std.proofs.lemmas.Nat.{mul-le}
use Rattle.ir_trees.specs.declared.ir.heads.Head.{Head}
use Rattle.ir_trees.specs.declared.ir.heads.Head.TheVariants as H
use Rattle.ir_trees.specs.declared.ir.heads.Variable.{Variable}
use Rattle.ir_trees.specs.Syntax.Trees.{Forest, none, tree, Tree, holds, is_alias}
use Rattle.ir_trees.specs.Unification.Substitutions.{alone}
use Rattle.ir_trees.specs.Unification.Unify.{same_head}
use Rattle.ir_trees.proofs.Syntax.Equal.{head_is}
use Rattle.ir_trees.proofs.Instantiation.Folding.{begin}
use Rattle.candidate_eval.specs.declared.eval.variable.VariableKind.TheVariants.{Term}
use Rattle.candidate_eval.specs.Interface.Evaluators.{root_value, resolved_root}
use Rattle.candidate_eval.specs.Judges.States.{State, value_in, value_at, resolved, resolved_tree, with_universe}
use Rattle.candidate_eval.specs.Judges.Alike.{info}
use Rattle.candidate_eval.specs.Judges.Soundness.{Live, IsSound, is_strange, is_region, universe_in}
use Rattle.candidate_eval.proofs.Marks.Holds.{holds_parts}
use Rattle.rounds_judge.specs.Aliases.Listed.{Listing, listed, normalized_tree, current}
use Rattle.rounds_judge.specs.Equations.Scopes.{Scope, placed_head, placed_tree, has_binder, has_variables, entered, scope_below}
use Rattle.rounds_judge.specs.Equations.Binding.{single, bound}
use Rattle.rounds_judge.specs.Equations.Equating.{Pair, Visit, Done, Refused, Left, value_for, met, visited, looked, size, size_of_types, size_of_pairs, count_unbound, enough, looks, unified}
use Rattle.rounds_judge.specs.Equations.Standing.{IsListing, PairStands, Stands}
use Rattle.rounds_judge.proofs.States.Marks.{valued_node}
use Rattle.rounds_judge.proofs.States.Later.{has_info, value_resolved, resolved_stays}
use Rattle.rounds_judge.proofs.States.Bound.{CanTake, resolved_bound, single_is}
use Rattle.rounds_judge.proofs.Equations.Current.{WhichListed, is_type, itself, which_listed, placed_is, root_at, listed_resolved, current_rests}
use Rattle.rounds_judge.proofs.Equations.Looks.{same_left, meets, with_regions, only_regions, left_known, right_known, others_stand, left_takes, right_takes, visited_stands}
use Rattle.rounds_judge.proofs.Equations.Sizes.{size_begin, size_two, size_below, size_alias, size_shrinks, size_grows, listed_size, count_bound, enough_fewer, enough_bound}

-- Sizes at a state

pub same_le : {a b : ℕ} → a ≡ b → a ≤ b
same_le e = omega (arith, e)

pub alias_unvalued : (S : State) (h : Head) → is_alias h ≡ true → value_at S h ≡ None
alias_unvalued S (H.Infer v) e = cc
alias_unvalued S (H.Region r) e = cc
alias_unvalued S _ e = refl

-- a root that is no variable, of regions or others, has no value
pub rests : (S : State) (h : Head) → root_value S h ≡ None → is_region h ≡ false → value_at S h ≡ None
rests S (H.Infer v) e r = e
rests S (H.Region x) e r = cc
rests S _ e r = refl

-- a root without a value keeps its head
pub kept_root : (S : State) (t : Tree) → value_at S t.head ≡ None → resolved S (alone t) ≡ alone (record { head = t.head; children = resolved S t.children })
kept_root S t e =
    valued_node (value_at S) t.head t.children none ∙ ap (λ o. begin (unwrap_or o (record { head = t.head; children = resolved S t.children })) none) e

module _ (l : Listing) (listing : IsListing l) where
  abbrev types : ℕ
  types = size_of_types l

  pub value_for_size : (S : State) (us : Scope) (t : Tree) → size types (alone (value_for l S us t)) ≤ size types (resolved S (alone t))
  value_for_size S us t =
      le_trans (size_shrinks (λ d u. placed_head us d u.head) types place 0 (alone (normalized_tree l (resolved_tree S t))))
      (size_shrinks (λ d u. listed l u) types type 0 (alone (resolved_tree S t)))
    where
      place : (d : ℕ) (x w : Tree) → placed_head us d x.head ≡ Some w → size types (alone w) ≤ size types (alone x)
      place d x w e = subst (λ w. size types (alone w) ≤ size types (alone x)) (placed_is us d x.head w e).3 (size_two types x)

      type : (d : ℕ) (x w : Tree) → listed l x ≡ Some w → size types (alone w) ≤ size types (alone x)
      type d x w e = let s = listed_size l listing x w e in le_trans s.small (size_alias types x s.alias)

  pub children_size : (S : State) (x : Tree) → value_at S x.head ≡ None → 2 + size types (resolved S x.children) ≤ size types (resolved S (alone x))
  children_size S x e =
      subst (λ ts. 2 + size types (resolved S x.children) ≤ size types ts) (sym (kept_root S x e)) (size_below types (record { head = x.head; children = resolved S x.children }))

  module _ (S : State) (L : Live) (sound : IsSound S L) where
    root_resolves : (t : Tree) → holds (is_strange S L) (alone t) ≡ false → resolved S (alone (resolved_root S t)) ≡ resolved S (alone t)
    root_resolves t k = at (root_value S t.head) refl
      where
        at : (o : Option Tree) → root_value S t.head ≡ o → resolved S (alone (unwrap_or o t)) ≡ resolved S (alone t)
        at None e = refl
        at (Some x) e =
            let v : value_at S t.head ≡ Some x = root_at S t.head x e in
            resolved_stays S (alone x) (value_resolved S L sound t.head x (holds_parts (is_strange S L) t.head t.children none k).here v)
            ∙ sym (valued_node (value_at S) t.head t.children none ∙ ap (λ o. begin (unwrap_or o (record { head = t.head; children = resolved S t.children })) none) v)

    current_size : (t : Tree) → holds (is_strange S L) (alone t) ≡ false → size types (resolved S (alone (current l S t))) ≤ size types (resolved S (alone t))
    current_size t k = at (current l S t) (which_listed l S (resolved_root S t))
      where
        at : (x : Tree) → WhichListed l S (resolved_root S t) x → size types (resolved S (alone x)) ≤ size types (resolved S (alone t))
        at _ (is_type u a e) =
            let root : Tree = resolved_root S t in
            let small : size types (resolved S (alone u)) ≤ types = subst (λ ts. size types ts ≤ types) (sym (resolved_stays S (alone u) (listed_resolved l listing (resolved_tree S root) u e S))) (listed_size l listing (resolved_tree S root) u e).small in
            let large : types ≤ size types (resolved S (alone root)) = subst (λ ts. types ≤ size types ts) (sym (kept_root S root (alias_unvalued S root.head a))) (size_alias types (record { head = root.head; children = resolved S root.children }) a) in
            le_trans small (subst (λ ts. types ≤ size types ts) (root_resolves t k) large)
        at _ itself = same_le (ap (size types) (root_resolves t k))

    -- what is left, once a variable has a value
    module _ (v : Variable) (t : Tree) (can : CanTake S L v t) where
      abbrev grows : ℕ
      grows = size types (alone t)

      side_grows : (ts : Forest) → holds (is_strange S L) ts ≡ false → size types (resolved (bound S v t) ts) ≤ grows * size types (resolved S ts)
      side_grows ts k =
          subst (λ us. size types us ≤ grows * size types (resolved S ts)) (sym (resolved_bound S L v t can ts k))
          (size_grows (λ _ x. single v t x.head) types grows one (λ d x w e. same_le (ap (λ x. size types (alone x)) (sym (single_is v t x.head w e).1))) 0 (resolved S ts))
        where
          one : 1 ≤ grows
          one = le_trans (omega arith) (size_two types t)

      pairs_grow : (ps : List Pair) → All (PairStands S L) ps → size_of_pairs l (bound S v t) ps ≤ grows * size_of_pairs l S ps
      pairs_grow [] a = omega arith
      pairs_grow (p ∷ ps) a =
          let here = All-head (PairStands S L) p ps a in
          sums (size types (resolved S p.left)) (size types (resolved S p.right)) (size_of_pairs l S ps)
          (size types (resolved (bound S v t) p.left)) (size types (resolved (bound S v t) p.right)) (size_of_pairs l (bound S v t) ps)
          (side_grows p.left here.left) (side_grows p.right here.right) (pairs_grow ps (All-tail (PairStands S L) p ps a))
        where
          times : (a b c : ℕ) → grows * (1 + a + b + c) ≡ grows * 1 + grows * a + grows * b + grows * c
          times a b c = mul-add grows (1 + a + b) c ∙ ap (λ n. n + grows * c) (mul-add grows (1 + a) b ∙ ap (λ n. n + grows * b) (mul-add grows 1 a))

          one : 1 ≤ grows * 1
          one = le_trans (le_trans (omega arith) (size_two types t)) (same_le (once grows))
            where
              once : (m : ℕ) → m ≡ m * 1
              once m = omega arith

          adds : (p q r s x y z : ℕ) → 1 ≤ p → x ≤ q → y ≤ r → z ≤ s → 1 + x + y + z ≤ p + q + r + s
          adds p q r s x y z f g h i = omega (arith, f, g, h, i)

          sums : (a b c x y z : ℕ) → x ≤ grows * a → y ≤ grows * b → z ≤ grows * c → 1 + x + y + z ≤ grows * (1 + a + b + c)
          sums a b c x y z f g h = subst (λ n. 1 + x + y + z ≤ n) (sym (times a b c)) (adds (grows * 1) (grows * a) (grows * b) (grows * c) x y z one f g h)

      fewer_unbound : count_unbound S.variables ≡ suc (count_unbound (bound S v t).variables)
      fewer_unbound =
          let i = has_info (L v.number) (Term v.sort) (info S v.number) can.is_known in
          count_bound v (universe_in (info S v.number)) t 0 v.number S.variables i.0 i.1 (sym (ap value_in i.1) ∙ can.free) (no_more v.number)
        where
          no_more : (n : ℕ) → 0 + n ≡ n
          no_more n = omega arith

      bound_less : (n : ℕ) (ps : List Pair) → All (PairStands S L) ps → grows ≤ n → size_of_pairs l S ps ≤ n → looks l (bound S v t) ps < enough (count_unbound S.variables) n
      bound_less n ps a h g =
          subst (λ u. looks l (bound S v t) ps < enough u n) (sym fewer_unbound)
          (enough_bound (count_unbound (bound S v t).variables) n (size_of_pairs l (bound S v t) ps) (le_trans (pairs_grow ps a) (mul-le grows (size_of_pairs l S ps) n n h g)))

  -- Each look leaves fewer looks

  pub entered_looks : (S : State) (h : Head) (below : Forest) (ps : List Pair) → looks l (entered S h below) ps ≡ looks l S ps
  entered_looks S h below ps = at (has_binder h && has_variables below)
    where
      pairs : (ps : List Pair) → size_of_pairs l (with_universe S) ps ≡ size_of_pairs l S ps
      pairs [] = refl
      pairs (p ∷ ps) = ap (λ n. 1 + size types (resolved S p.left) + size types (resolved S p.right) + n) (pairs ps)

      at : (b : Bool) → looks l (if b then with_universe S else S) ps ≡ looks l S ps
      at true = ap (enough (count_unbound S.variables)) (pairs ps)
      at false = refl

  pub regions_looks : (S : State) (rs : List Tree) (ps : List Pair) → looks l (with_regions S rs) ps ≡ looks l S ps
  regions_looks S rs ps = ap (enough (count_unbound S.variables)) (pairs ps)
    where
      pairs : (ps : List Pair) → size_of_pairs l (with_regions S rs) ps ≡ size_of_pairs l S ps
      pairs [] = refl
      pairs (p ∷ ps) = ap (λ n. 1 + size types (resolved S p.left) + size types (resolved S p.right) + n) (pairs ps)

  module _ (L : Live) where
    module _ (S : State) (us : Scope) (h g : Head) (a r b s : Forest) (more : List Pair)
        (st : Stands S L (record { scope = us; left = tree h a r; right = tree g b s } ∷ more)) where
      abbrev all : List Pair
      all = record { scope = us; left = tree h a r; right = tree g b s } ∷ more

      abbrev others : List Pair
      others = record { scope = us; left = r; right = s } ∷ more

      abbrev x : Tree
      x = current l S (record { head = h; children = a })

      abbrev y : Tree
      y = current l S (record { head = g; children = b })

      abbrev left_size : ℕ
      left_size = size types (resolved S (alone (record { head = h; children = a })))

      abbrev right_size : ℕ
      right_size = size types (resolved S (alone (record { head = g; children = b })))

      abbrev further_left : ℕ
      further_left = size types (resolved S r)

      abbrev further_right : ℕ
      further_right = size types (resolved S s)

      whole_size : size_of_pairs l S all ≡ 1 + (left_size + further_left) + (right_size + further_right) + size_of_pairs l S more
      whole_size =
          ap (λ n. 1 + n + size types (resolved S (tree g b s)) + size_of_pairs l S more) (size_begin types (resolved_tree S (record { head = h; children = a })) (resolved S r))
          ∙ ap (λ n. 1 + (left_size + further_left) + n + size_of_pairs l S more) (size_begin types (resolved_tree S (record { head = g; children = b })) (resolved S s))

      x_size : size types (resolved S (alone x)) ≤ left_size
      x_size = current_size S L st.sound (record { head = h; children = a }) (left_known l listing L S us h g a r b s more st)

      y_size : size types (resolved S (alone y)) ≤ right_size
      y_size = current_size S L st.sound (record { head = g; children = b }) (right_known l listing L S us h g a r b s more st)

      others_small : size_of_pairs l S others < size_of_pairs l S all
      others_small =
          fewer left_size right_size further_left further_right (size_of_pairs l S more) (size_of_pairs l S all) whole_size (size_two types (resolved_tree S (record { head = h; children = a })))
        where
          fewer : (p q m n k j : ℕ) → j ≡ 1 + (p + m) + (q + n) + k → 2 ≤ p → 1 + m + n + k < j
          fewer p q m n k j e f = omega (arith, e, f)

      left_within : (n : ℕ) → n ≤ left_size → n ≤ size_of_pairs l S all
      left_within i e = within left_size right_size further_left further_right (size_of_pairs l S more) (size_of_pairs l S all) whole_size e
        where
          within : (p q m n k j : ℕ) → j ≡ 1 + (p + m) + (q + n) + k → i ≤ p → i ≤ j
          within p q m n k j e f = omega (arith, e, f)

      right_within : (n : ℕ) → n ≤ right_size → n ≤ size_of_pairs l S all
      right_within i e = within left_size right_size further_left further_right (size_of_pairs l S more) (size_of_pairs l S all) whole_size e
        where
          within : (p q m n k j : ℕ) → j ≡ 1 + (p + m) + (q + n) + k → i ≤ q → i ≤ j
          within p q m n k j e f = omega (arith, e, f)

      abbrev Less : State → List Pair → Type 0
      Less T rest = looks l T rest < looks l S all

      takes_less : (v : Variable) (t : Tree) → CanTake S L v t → size types (alone t) ≤ size_of_pairs l S all → Less (bound S v t) others
      takes_less v t can e =
          bound_less S L st.sound v t can (size_of_pairs l S all) others (others_stand l listing L S us h g a r b s more st) e (le_trans (omega arith) others_small)

      others_less : Less S others
      others_less = enough_fewer (count_unbound S.variables) (size_of_pairs l S others) (size_of_pairs l S all) others_small

      not_both : (b c : Bool) → b ≡ c → b && c ≡ false → (b ≡ false) × (c ≡ false)
      not_both true true e f = cc
      not_both true false e f = cc
      not_both false true e f = cc
      not_both false false e f = (refl, refl)

      enters_less : is_region x.head && is_region y.head ≡ false → same_head x.head y.head ≡ true
          → Less (entered S x.head x.children) (record { scope = scope_below S us x.head x.children; left = x.children; right = y.children } ∷ others)
      enters_less n e =
          let p : Pair = record { scope = scope_below S us x.head x.children; left = x.children; right = y.children } in
          let no_region = not_both (is_region x.head) (is_region y.head) (ap is_region (head_is x.head y.head e)) n in
          let left = children_size S x (rests S x.head (current_rests l listing S L st.sound (record { head = h; children = a }) (left_known l listing L S us h g a r b s more st)) no_region.0) in
          let right = children_size S y (rests S y.head (current_rests l listing S L st.sound (record { head = g; children = b }) (right_known l listing L S us h g a r b s more st)) no_region.1) in
          subst (λ n. n < looks l S all) (sym (entered_looks S x.head x.children (p ∷ others)))
          (enough_fewer (count_unbound S.variables) (size_of_pairs l S (p ∷ others)) (size_of_pairs l S all)
          (fewer left_size right_size further_left further_right (size_of_pairs l S more) (size_of_pairs l S all) (size types (resolved S x.children)) (size types (resolved S y.children)) whole_size (le_trans left x_size) (le_trans right y_size)))
        where
          fewer : (p q m n k j c d : ℕ) → j ≡ 1 + (p + m) + (q + n) + k → 2 + c ≤ p → 2 + d ≤ q → 1 + c + d + (1 + m + n + k) < j
          fewer p q m n k j c d e f g = omega (arith, e, f, g)

      met_less : (T : State) (rest : List Pair) → met l S us x y others ≡ Left T rest → Less T rest
      met_less T rest e =
          meets l S us x y others Less
          (λ v i m. takes_less v (value_for l S us y) (left_takes l listing L S us h g a r b s more st v i m) (right_within (size types (alone (value_for l S us y))) (le_trans (value_for_size S us y) y_size)))
          (λ v i m. takes_less v (value_for l S us x) (right_takes l listing L S us h g a r b s more st v i m) (left_within (size types (alone (value_for l S us x))) (le_trans (value_for_size S us x) x_size)))
          (λ n. let o = only_regions S (placed_tree us x) (placed_tree us y) in subst (λ R. Less R others) (sym o.1) (subst (λ n. n < looks l S all) (sym (regions_looks S o.0 others)) others_less))
          enters_less T rest e

    pub visited_less : (S T : State) (ps rest : List Pair) → Stands S L ps → visited l S ps ≡ Left T rest → looks l T rest < looks l S ps
    visited_less S T [] rest st e = cc
    visited_less S T (p ∷ more) rest st e = rows p.left p.right st e
      where
        rows : (a b : Forest) → Stands S L (record { scope = p.scope; left = a; right = b } ∷ more) → visited l S (record { scope = p.scope; left = a; right = b } ∷ more) ≡ Left T rest
            → looks l T rest < looks l S (record { scope = p.scope; left = a; right = b } ∷ more)
        rows none none st e =
            same_left (λ R ps. looks l R ps < looks l S (record { scope = p.scope; left = none; right = none } ∷ more)) S T more rest e
            (enough_fewer (count_unbound S.variables) (size_of_pairs l S more) (1 + 0 + 0 + size_of_pairs l S more) (omega arith))
        rows none (tree g b s) st e = cc
        rows (tree h a r) none st e = cc
        rows (tree h a r) (tree g b s) st e = met_less S p.scope h g a r b s more st T rest e

    -- More looks change nothing

    looks_some : (S : State) (ps : List Pair) → 1 ≤ looks l S ps
    looks_some S ps = at (count_unbound S.variables) (size_of_pairs l S ps)
      where
        at : (u n : ℕ) → 1 ≤ enough u n
        at zero n = omega arith
        at (suc u) n = omega arith

    pub looked_enough : (n m : ℕ) (S : State) (ps : List Pair) → Stands S L ps → looks l S ps ≤ n → looks l S ps ≤ m → looked l n S ps ≡ looked l m S ps
    looked_enough zero m S ps st e f = let one = looks_some S ps in absurd (omega (arith, e, one))
    looked_enough (suc n) zero S ps st e f = let one = looks_some S ps in absurd (omega (arith, f, one))
    looked_enough (suc n) (suc m) S ps st e f = at (visited l S ps) refl (λ R rest stands a b. looked_enough n m R rest stands a b)
      where
        at_most : (j k n : ℕ) → j < k → k ≤ suc n → j ≤ n
        at_most j k n a b = omega (arith, a, b)

        at : (w : Visit) → visited l S ps ≡ w → ((R : State) (rest : List Pair) → Stands R L rest → looks l R rest ≤ n → looks l R rest ≤ m → looked l n R rest ≡ looked l m R rest)
            → ◌≡◌ {A = Option State} (elim w [ Done ↦ Some S | Refused ↦ None | Left R more ↦ looked l n R more ]) (elim w [ Done ↦ Some S | Refused ↦ None | Left R more ↦ looked l m R more ])
        at Done g ih = refl
        at Refused g ih = refl
        at (Left R rest) g ih =
            let less = visited_less S R ps rest st g in
            ih R rest (visited_stands l listing L S R ps rest st g) (at_most (looks l R rest) (looks l S ps) n less e) (at_most (looks l R rest) (looks l S ps) m less f)

    -- What all looks come to is what those after the first one come to.
    pub unified_visit : (S : State) (ps : List Pair) → Stands S L ps → unified l S ps ≡ (elim (visited l S ps) [ Done ↦ Some S | Refused ↦ None | Left T more ↦ unified l T more ])
    unified_visit S ps st = looked_enough (looks l S ps) (suc (looks l S ps)) S ps st (omega arith) (omega arith) ∙ at (visited l S ps) refl
      where
        at : (w : Visit) → visited l S ps ≡ w
            → ◌≡◌ {A = Option State} (elim w [ Done ↦ Some S | Refused ↦ None | Left T more ↦ looked l (looks l S ps) T more ]) (elim w [ Done ↦ Some S | Refused ↦ None | Left T more ↦ unified l T more ])
        at Done g = refl
        at Refused g = refl
        at (Left T rest) g = looked_enough (looks l S ps) (looks l T rest) T rest (visited_stands l listing L S T ps rest st g) (weaker (visited_less S T ps rest st g)) (omega arith)
          where
            weaker : {j k : ℕ} → j < k → j ≤ k
            weaker h = omega (arith, h)
