-- Looks come to an end at each state whose values are resolved, whatever the sides hold; and more of them change nothing.
use Rattle.std.proofs.Common.{◌≡◌, ◌≤◌, ◌<◌, ℕ, zero, suc, ◌+◌, ◌*◌, Bool, true, false, ◌&&◌, ◌==◌, not, List, [], ◌∷◌, Option, Some, None, refl, sym, ap, subst, ◌∙◌, arith, if◌then◌else◌}
use Rattle.std.specs.Option.{unwrap_or, option_map}
use Rattle.std.proofs.Math.Nat.{mul-add, le_trans}
use Rattle.std.proofs.lemmas.Nat.{mul-le}
use Rattle.std.proofs.lemmas.Bool.{false_from_ne_true, eqb-true, eq-eqb, and_from, and_parts, not-true}
use Rattle.ir_trees.specs.declared.ir.heads.Head.{Head}
use Rattle.ir_trees.specs.declared.ir.heads.Head.TheVariants as H
use Rattle.ir_trees.specs.declared.ir.heads.Variable.{Variable}
use Rattle.ir_trees.specs.declared.ir.kinds.RegionKind.TheVariants as R
use Rattle.ir_trees.specs.Syntax.Trees.{Forest, none, tree, Tree, is_number}
use Rattle.ir_trees.specs.Unification.Substitutions.{alone, fits_sort, same_sort, same_variable}
use Rattle.ir_trees.specs.Unification.Unify.{same_head}
use Rattle.ir_trees.proofs.Syntax.Equal.{head_is}
use Rattle.ir_trees.proofs.Instantiation.Folding.{begin}
use Rattle.ir_trees.proofs.Unification.Instances.{same_sort_is}
use Rattle.candidate_eval.specs.declared.eval.variable.VariableKind.{VariableKind}
use Rattle.candidate_eval.specs.declared.eval.variable.VariableKind.TheVariants.{Term, Region}
use Rattle.candidate_eval.specs.Interface.Evaluators.{root_value, resolved_root}
use Rattle.candidate_eval.specs.Judges.States.{State, VariableInfo, value_at, value_as, value_in, value_of, resolved, resolved_tree, valued, valued_tree, has_kind, same_kind, with_universe, is_some}
use Rattle.candidate_eval.specs.Judges.Alike.{info}
use Rattle.candidate_eval.specs.Judges.Soundness.{IsResolved, has_value, is_region, universe_in}
use Rattle.candidate_eval.proofs.Marks.Holds.{holds_parts}
use Rattle.rounds_judge.specs.Aliases.Listed.{Listing, listed, normalized_tree, current}
use Rattle.rounds_judge.specs.Equations.Scopes.{Scope, placed_head, placed_tree, has_binder, has_variables, entered, scope_below}
use Rattle.rounds_judge.specs.Equations.Binding.{occurs, may_take, single, bound}
use Rattle.rounds_judge.specs.Equations.Equating.{Pair, Visit, Done, Refused, Left, value_for, met, visited, looked, size, size_of_types, size_of_pairs, count_unbound, enough, looks, unified}
use Rattle.rounds_judge.specs.Equations.Standing.{IsListing, AreResolved}
use Rattle.rounds_judge.proofs.States.Marks.{fold_marked, valued_node, valued_twice, holds_to}
use Rattle.rounds_judge.proofs.States.Later.{no_value, value_as_is, value_as_of, resolved_stays}
use Rattle.rounds_judge.proofs.States.Bound.{Single, given, stays, which_single, single_is, same_sort_itself, kind_bound, value_as_other, value_own}
use Rattle.rounds_judge.proofs.Unifiers.Putting.{nowhere}
use Rattle.rounds_judge.proofs.Equations.Current.{WhichListed, is_type, itself, which_listed, placed_is, root_at, root_free, listed_resolved}
use Rattle.rounds_judge.proofs.Equations.Looks.{same_left, meets, with_regions, only_regions}
use Rattle.rounds_judge.proofs.Equations.Sizes.{size_begin, size_two, size_alias, size_grows, listed_size, count_bound, enough_fewer, enough_bound}
use Rattle.rounds_judge.proofs.Equations.Ends.{same_le, alias_unvalued, rests, kept_root, value_for_size, children_size, entered_looks, regions_looks}

-- a variable that is there, and of that kind, is known
pub record Known (k : VariableKind) (o : Option VariableInfo) : Type 0 where
  pub of : VariableInfo
  pub is : o ≡ Some of
  pub kind : same_kind of.kind k ≡ true

pub kind_known : (k : VariableKind) (o : Option VariableInfo) → has_kind k o ≡ true → Known k o
kind_known k None e = cc
kind_known k (Some i) e = record { of = i; is = refl; kind = e }

-- variables of one number are of one kind
one_kind : (k m : VariableKind) (o : Option VariableInfo) → has_kind k o ≡ true → has_kind m o ≡ true → k ≡ m
one_kind k m None e f = cc
one_kind k m (Some i) e f = at i.kind k m e f
  where
    at : (i k m : VariableKind) → same_kind i k ≡ true → same_kind i m ≡ true → k ≡ m
    at (Term a) (Term b) (Term c) e f = ap Term (sym (same_sort_is a b e) ∙ same_sort_is a c f)
    at (Term a) (Term b) Region e f = cc
    at (Term a) Region m e f = cc
    at Region (Term b) m e f = cc
    at Region Region (Term c) e f = cc
    at Region Region Region e f = refl

-- A variable without a value, and a tree that it may get.
pub record CanGet (S : State) (v : Variable) (t : Tree) : Type 0 where
  pub kind : has_kind (Term v.sort) (info S v.number) ≡ true
  pub free : value_of S v.number ≡ None
  pub not_in : occurs v.number t ≡ false
  pub is_resolved : IsResolved S (alone t)

module _ (S : State) (resolved_values : AreResolved S) where
  -- once put in, values are put in
  pub all_once : (ts : Forest) → IsResolved S (resolved S ts)
  all_once ts =
      fold_marked (λ d t. value_at S t.head) (λ h. false) (λ h. false) (has_value S) (λ d t a b f. ap is_some f) (λ d t u a b f. resolved_values t.head u f) 0 ts (nowhere ts) (nowhere ts)

  module _ (v : Variable) (t : Tree) (can : CanGet S v t) where
    abbrev T : State
    T = bound S v t

    own_value : value_at T (H.Infer v) ≡ Some t
    own_value =
        let k = kind_known (Term v.sort) (info S v.number) can.kind in
        value_as_is T (Term v.sort) v.number (kind_bound S v t (Term v.sort) v.number ∙ can.kind) ∙ value_own S v t k.of k.is

    given_before : (h : Head) (x : Tree) → value_at S h ≡ Some x → value_at T h ≡ Some (valued_tree (single v t) x)
    given_before h x e = at h e
      where
        by : (k : VariableKind) (n : ℕ) → value_as S k n ≡ Some x → value_as T k n ≡ Some (valued_tree (single v t) x)
        by k n e =
            value_as_other S v t k n (false_from_ne_true (n == v.number) (λ m. let clash : Some x ≡ None = sym (value_as_of S k n x e) ∙ ap (value_of S) (eqb-true n v.number m) ∙ can.free in cc))
            ∙ ap (option_map (valued_tree (single v t))) e

        at : (h : Head) → value_at S h ≡ Some x → value_at T h ≡ Some (valued_tree (single v t) x)
        at (H.Infer w) e = by (Term w.sort) w.number e
        at (H.Region (R.Var n)) e = by Region n e
        at _ e = cc

    -- of another kind than the variable of its number
    not_given : (k : VariableKind) (n : ℕ) → value_as S k n ≡ None → (k ≡ Term v.sort → n ≡ v.number → ⊥) → value_as T k n ≡ None
    not_given k n e other = at (n == v.number) refl
      where
        no_kind : n ≡ v.number → has_kind k (info T n) ≡ false
        no_kind m = kind_bound S v t k n ∙ false_from_ne_true (has_kind k (info S n)) (λ f. other (one_kind k (Term v.sort) (info S n) f (subst (λ j. has_kind (Term v.sort) (info S j) ≡ true) (sym m) can.kind)) m)

        at : (b : Bool) → (n == v.number) ≡ b → value_as T k n ≡ None
        at true m = ap (λ b. if b then value_of T n else None) (no_kind (eqb-true n v.number m))
        at false m = value_as_other S v t k n m ∙ ap (option_map (valued_tree (single v t))) e

    given_now : (h : Head) → value_at S h ≡ None → value_at T h ≡ single v t h
    given_now h e = at (single v t h) (which_single v t h)
      where
        by : (h : Head) → value_at S h ≡ None → single v t h ≡ None → value_at T h ≡ None
        by (H.Infer w) e f = not_given (Term w.sort) w.number e (λ k n. clash k n)
          where
            clash : Term w.sort ≡ Term v.sort → w.number ≡ v.number → ⊥
            clash k n =
                let s : w.sort ≡ v.sort = cc in
                let is : same_variable v w ≡ true = and_from (same_sort v.sort w.sort) (v.number == w.number) (subst (λ s. same_sort v.sort s ≡ true) (sym s) (same_sort_itself v.sort)) (eq-eqb v.number w.number (sym n)) in
                let bad : Some t ≡ None = sym (ap (λ b. if b then Some t else None) is) ∙ f in cc
        by (H.Region (R.Var n)) e f = not_given Region n e (λ k m. cc)
        by _ e f = refl

        at : (o : Option Tree) → Single v t h o → value_at T h ≡ o
        at _ (given f) = ap (value_at T) f ∙ own_value
        at _ (stays f) = by h e f

    pub resolved_after : (ts : Forest) → resolved T ts ≡ valued (single v t) (resolved S ts)
    resolved_after ts = sym (valued_twice (value_at S) (single v t) (value_at T) (λ h. false) (λ h x m e. given_before h x e) (λ h m e. given_now h e) ts (nowhere ts))

    value_stays : IsResolved T (alone t)
    value_stays = holds_to (has_value S) (is_number v.number) (has_value T) (λ h a b. ap is_some (given_now h (no_value (value_at S h) a) ∙ quiet h b)) (alone t) can.is_resolved can.not_in
      where
        quiet : (h : Head) → is_number v.number h ≡ false → single v t h ≡ None
        quiet h n = at (single v t h) (which_single v t h)
          where
            at : (o : Option Tree) → Single v t h o → o ≡ None
            at _ (given f) = let clash : true ≡ false = sym (eq-eqb v.number v.number refl) ∙ sym (ap (is_number v.number) f) ∙ n in cc
            at _ (stays f) = refl

    pub resolved_then : AreResolved T
    resolved_then h x e = at (value_at S h) refl
      where
        put : (y : Tree) → IsResolved S (alone y) → IsResolved T (alone (valued_tree (single v t) y))
        put y r =
            fold_marked (λ _ u. single v t u.head) (has_value S) (has_value S) (has_value T) (λ d u a b f. ap is_some (given_now u.head (no_value (value_at S u.head) a) ∙ f))
            (λ d u w a b f. subst (λ w. IsResolved T (alone w)) (single_is v t u.head w f).1 value_stays) 0 (alone y) r r

        at : (o : Option Tree) → value_at S h ≡ o → IsResolved T (alone x)
        at (Some y) f =
            let both : Some (valued_tree (single v t) y) ≡ Some x = sym (given_before h y f) ∙ e in
            let is : valued_tree (single v t) y ≡ x = cc in
            subst (λ x. IsResolved T (alone x)) is (put y (resolved_values h y f))
        at None f = subst (λ x. IsResolved T (alone x)) (single_is v t h x (sym (given_now h f) ∙ e)).1 value_stays

module _ (l : Listing) (listing : IsListing l) where
  abbrev types : ℕ
  types = size_of_types l

  module _ (S : State) (resolved_values : AreResolved S) where
    root_resolves : (t : Tree) → resolved S (alone (resolved_root S t)) ≡ resolved S (alone t)
    root_resolves t = at (root_value S t.head) refl
      where
        at : (o : Option Tree) → root_value S t.head ≡ o → resolved S (alone (unwrap_or o t)) ≡ resolved S (alone t)
        at None e = refl
        at (Some x) e =
            let v : value_at S t.head ≡ Some x = root_at S t.head x e in
            resolved_stays S (alone x) (resolved_values t.head x v)
            ∙ sym (valued_node (value_at S) t.head t.children none ∙ ap (λ o. begin (unwrap_or o (record { head = t.head; children = resolved S t.children })) none) v)

    root_rests : (t : Tree) → root_value S (resolved_root S t).head ≡ None
    root_rests t = at (root_value S t.head) refl
      where
        at : (o : Option Tree) → root_value S t.head ≡ o → root_value S (unwrap_or o t).head ≡ None
        at None e = e
        at (Some x) e = root_free S x.head (holds_parts (has_value S) x.head x.children none (resolved_values t.head x (root_at S t.head x e))).here

    current_size : (t : Tree) → size types (resolved S (alone (current l S t))) ≤ size types (resolved S (alone t))
    current_size t = at (current l S t) (which_listed l S (resolved_root S t))
      where
        at : (x : Tree) → WhichListed l S (resolved_root S t) x → size types (resolved S (alone x)) ≤ size types (resolved S (alone t))
        at _ (is_type u a e) =
            let root : Tree = resolved_root S t in
            let small : size types (resolved S (alone u)) ≤ types = subst (λ ts. size types ts ≤ types) (sym (resolved_stays S (alone u) (listed_resolved l listing (resolved_tree S root) u e S))) (listed_size l listing (resolved_tree S root) u e).small in
            let large : types ≤ size types (resolved S (alone root)) = subst (λ ts. types ≤ size types ts) (sym (kept_root S root (alias_unvalued S root.head a))) (size_alias types (record { head = root.head; children = resolved S root.children }) a) in
            le_trans small (subst (λ ts. types ≤ size types ts) (root_resolves t) large)
        at _ itself = same_le (ap (size types) (root_resolves t))

    -- a variable at its root has no value
    pub current_rests : (t : Tree) → root_value S (current l S t).head ≡ None
    current_rests t = at (current l S t) (which_listed l S (resolved_root S t))
      where
        at : (x : Tree) → WhichListed l S (resolved_root S t) x → root_value S x.head ≡ None
        at _ (is_type u a e) = root_free S u.head (holds_parts (has_value S) u.head u.children none (listed_resolved l listing (resolved_tree S (resolved_root S t)) u e S)).here
        at _ itself = root_rests t

    pub value_resolved : (us : Scope) (t : Tree) → IsResolved S (alone (value_for l S us t))
    value_resolved us t =
        let k = all_once S resolved_values (alone t) in
        let n : IsResolved S (alone (normalized_tree l (resolved_tree S t))) =
        fold_marked (λ d u. listed l u) (has_value S) (has_value S) (has_value S) (λ d x a b e. a) (λ d x u a b e. listed_resolved l listing x u e S) 0 (alone (resolved_tree S t)) k k in
        fold_marked (λ d u. placed_head us d u.head) (has_value S) (has_value S) (has_value S) (λ d x a b e. a)
        (λ d x w a b e. let p = placed_is us d x.head w e in subst (λ w. IsResolved S (alone w)) p.3 refl) 0 (alone (normalized_tree l (resolved_tree S t))) n n

    -- a variable that meets a tree and may take its value
    pub can_get : (us : Scope) (x y : Tree) (v : Variable) → root_value S x.head ≡ None → x.head ≡ H.Infer v → may_take S v (value_for l S us y) ≡ true → CanGet S v (value_for l S us y)
    can_get us x y v rests is may =
        let t = value_for l S us y in
        let p = and_parts (has_kind (Term v.sort) (info S v.number)) _ may in
        let q = and_parts (fits_sort v.sort t.head) _ p.1 in
        let r = and_parts (not (occurs v.number t)) _ q.1 in
        record {
          kind = p.0;
          free = sym (value_as_is S (Term v.sort) v.number p.0) ∙ sym (ap (root_value S) is) ∙ rests;
          not_in = not-true (occurs v.number t) r.0;
          is_resolved = value_resolved us y;
        }

    -- what is left, once a variable has a value
    module _ (v : Variable) (t : Tree) (can : CanGet S v t) where
      abbrev grows : ℕ
      grows = size types (alone t)

      side_grows : (ts : Forest) → size types (resolved (bound S v t) ts) ≤ grows * size types (resolved S ts)
      side_grows ts =
          subst (λ us. size types us ≤ grows * size types (resolved S ts)) (sym (resolved_after S resolved_values v t can ts))
          (size_grows (λ _ x. single v t x.head) types grows one (λ d x w e. same_le (ap (λ x. size types (alone x)) (sym (single_is v t x.head w e).1))) 0 (resolved S ts))
        where
          one : 1 ≤ grows
          one = le_trans (omega arith) (size_two types t)

      pairs_grow : (ps : List Pair) → size_of_pairs l (bound S v t) ps ≤ grows * size_of_pairs l S ps
      pairs_grow [] = omega arith
      pairs_grow (p ∷ ps) =
          sums (size types (resolved S p.left)) (size types (resolved S p.right)) (size_of_pairs l S ps)
          (size types (resolved (bound S v t) p.left)) (size types (resolved (bound S v t) p.right)) (size_of_pairs l (bound S v t) ps)
          (side_grows p.left) (side_grows p.right) (pairs_grow ps)
        where
          times : (a b c : ℕ) → grows * (1 + a + b + c) ≡ grows * 1 + grows * a + grows * b + grows * c
          times a b c = mul-add grows (1 + a + b) c ∙ ap (λ n. n + grows * c) (mul-add grows (1 + a) b ∙ ap (λ n. n + grows * b) (mul-add grows 1 a))

          one : 1 ≤ grows * 1
          one = le_trans (le_trans (omega arith) (size_two types t)) (same_le (once grows))
            where
              once : (m : ℕ) → m ≡ m * 1
              once m = omega arith

          adds : (p q r s x y z : ℕ) → 1 ≤ p → x ≤ q → y ≤ r → z ≤ s → 1 + x + y + z ≤ p + q + r + s
          adds p q r s x y z f g h i = omega (arith, f, g, h, i)

          sums : (a b c x y z : ℕ) → x ≤ grows * a → y ≤ grows * b → z ≤ grows * c → 1 + x + y + z ≤ grows * (1 + a + b + c)
          sums a b c x y z f g h = subst (λ n. 1 + x + y + z ≤ n) (sym (times a b c)) (adds (grows * 1) (grows * a) (grows * b) (grows * c) x y z one f g h)

      fewer_unbound : count_unbound S.variables ≡ suc (count_unbound (bound S v t).variables)
      fewer_unbound =
          let k = kind_known (Term v.sort) (info S v.number) can.kind in
          count_bound v (universe_in (info S v.number)) t 0 v.number S.variables k.of k.is (sym (ap value_in k.is) ∙ can.free) (no_more v.number)
        where
          no_more : (n : ℕ) → 0 + n ≡ n
          no_more n = omega arith

      bound_less : (n : ℕ) (ps : List Pair) → grows ≤ n → size_of_pairs l S ps ≤ n → looks l (bound S v t) ps < enough (count_unbound S.variables) n
      bound_less n ps h g =
          subst (λ u. looks l (bound S v t) ps < enough u n) (sym fewer_unbound)
          (enough_bound (count_unbound (bound S v t).variables) n (size_of_pairs l (bound S v t) ps) (le_trans (pairs_grow ps) (mul-le grows (size_of_pairs l S ps) n n h g)))

  -- Values are resolved after each look.

  pub regions_resolved : (S : State) (rs : List Tree) → AreResolved S → AreResolved (with_regions S rs)
  regions_resolved S rs r = r

  pub entered_resolved : (S : State) (h : Head) (below : Forest) → AreResolved S → AreResolved (entered S h below)
  entered_resolved S h below r = at (has_binder h && has_variables below)
    where
      at : (b : Bool) → AreResolved (if b then with_universe S else S)
      at true = r
      at false = r

  module _ (S : State) (resolved_values : AreResolved S) (us : Scope) (h g : Head) (a r b s : Forest) (more : List Pair) where
    abbrev all : List Pair
    all = record { scope = us; left = tree h a r; right = tree g b s } ∷ more

    abbrev others : List Pair
    others = record { scope = us; left = r; right = s } ∷ more

    abbrev x : Tree
    x = current l S (record { head = h; children = a })

    abbrev y : Tree
    y = current l S (record { head = g; children = b })

    met_resolved : (T : State) (rest : List Pair) → met l S us x y others ≡ Left T rest → AreResolved T
    met_resolved T rest e =
        meets l S us x y others (λ T rest. AreResolved T)
        (λ v i m. resolved_then S resolved_values v (value_for l S us y) (can_get S resolved_values us x y v (current_rests S resolved_values (record { head = h; children = a })) i m))
        (λ v i m. resolved_then S resolved_values v (value_for l S us x) (can_get S resolved_values us y x v (current_rests S resolved_values (record { head = g; children = b })) i m))
        (λ n. let o = only_regions S (placed_tree us x) (placed_tree us y) in subst AreResolved (sym o.1) resolved_values)
        (λ n i. entered_resolved S x.head x.children resolved_values) T rest e

    abbrev left_size : ℕ
    left_size = size types (resolved S (alone (record { head = h; children = a })))

    abbrev right_size : ℕ
    right_size = size types (resolved S (alone (record { head = g; children = b })))

    abbrev further_left : ℕ
    further_left = size types (resolved S r)

    abbrev further_right : ℕ
    further_right = size types (resolved S s)

    whole_size : size_of_pairs l S all ≡ 1 + (left_size + further_left) + (right_size + further_right) + size_of_pairs l S more
    whole_size =
        ap (λ n. 1 + n + size types (resolved S (tree g b s)) + size_of_pairs l S more) (size_begin types (resolved_tree S (record { head = h; children = a })) (resolved S r))
        ∙ ap (λ n. 1 + (left_size + further_left) + n + size_of_pairs l S more) (size_begin types (resolved_tree S (record { head = g; children = b })) (resolved S s))

    x_size : size types (resolved S (alone x)) ≤ left_size
    x_size = current_size S resolved_values (record { head = h; children = a })

    y_size : size types (resolved S (alone y)) ≤ right_size
    y_size = current_size S resolved_values (record { head = g; children = b })

    others_small : size_of_pairs l S others < size_of_pairs l S all
    others_small =
        fewer left_size right_size further_left further_right (size_of_pairs l S more) (size_of_pairs l S all) whole_size (size_two types (resolved_tree S (record { head = h; children = a })))
      where
        fewer : (p q m n k j : ℕ) → j ≡ 1 + (p + m) + (q + n) + k → 2 ≤ p → 1 + m + n + k < j
        fewer p q m n k j e f = omega (arith, e, f)

    left_within : (n : ℕ) → n ≤ left_size → n ≤ size_of_pairs l S all
    left_within i e = within left_size right_size further_left further_right (size_of_pairs l S more) (size_of_pairs l S all) whole_size e
      where
        within : (p q m n k j : ℕ) → j ≡ 1 + (p + m) + (q + n) + k → i ≤ p → i ≤ j
        within p q m n k j e f = omega (arith, e, f)

    right_within : (n : ℕ) → n ≤ right_size → n ≤ size_of_pairs l S all
    right_within i e = within left_size right_size further_left further_right (size_of_pairs l S more) (size_of_pairs l S all) whole_size e
      where
        within : (p q m n k j : ℕ) → j ≡ 1 + (p + m) + (q + n) + k → i ≤ q → i ≤ j
        within p q m n k j e f = omega (arith, e, f)

    abbrev Less : State → List Pair → Type 0
    Less T rest = looks l T rest < looks l S all

    takes_less : (v : Variable) (t : Tree) → CanGet S v t → size types (alone t) ≤ size_of_pairs l S all → Less (bound S v t) others
    takes_less v t can e = bound_less S resolved_values v t can (size_of_pairs l S all) others e (le_trans (omega arith) others_small)

    others_less : Less S others
    others_less = enough_fewer (count_unbound S.variables) (size_of_pairs l S others) (size_of_pairs l S all) others_small

    not_both : (b c : Bool) → b ≡ c → b && c ≡ false → (b ≡ false) × (c ≡ false)
    not_both true true e f = cc
    not_both true false e f = cc
    not_both false true e f = cc
    not_both false false e f = (refl, refl)

    enters_less : is_region x.head && is_region y.head ≡ false → same_head x.head y.head ≡ true
        → Less (entered S x.head x.children) (record { scope = scope_below S us x.head x.children; left = x.children; right = y.children } ∷ others)
    enters_less n e =
        let p : Pair = record { scope = scope_below S us x.head x.children; left = x.children; right = y.children } in
        let no_region = not_both (is_region x.head) (is_region y.head) (ap is_region (head_is x.head y.head e)) n in
        let left = children_size l listing S x (rests S x.head (current_rests S resolved_values (record { head = h; children = a })) no_region.0) in
        let right = children_size l listing S y (rests S y.head (current_rests S resolved_values (record { head = g; children = b })) no_region.1) in
        subst (λ n. n < looks l S all) (sym (entered_looks l listing S x.head x.children (p ∷ others)))
        (enough_fewer (count_unbound S.variables) (size_of_pairs l S (p ∷ others)) (size_of_pairs l S all)
        (fewer left_size right_size further_left further_right (size_of_pairs l S more) (size_of_pairs l S all) (size types (resolved S x.children)) (size types (resolved S y.children)) whole_size (le_trans left x_size) (le_trans right y_size)))
      where
        fewer : (p q m n k j c d : ℕ) → j ≡ 1 + (p + m) + (q + n) + k → 2 + c ≤ p → 2 + d ≤ q → 1 + c + d + (1 + m + n + k) < j
        fewer p q m n k j c d e f g = omega (arith, e, f, g)

    met_less : (T : State) (rest : List Pair) → met l S us x y others ≡ Left T rest → Less T rest
    met_less T rest e =
        meets l S us x y others Less
        (λ v i m. takes_less v (value_for l S us y) (can_get S resolved_values us x y v (current_rests S resolved_values (record { head = h; children = a })) i m) (right_within (size types (alone (value_for l S us y))) (le_trans (value_for_size l listing S us y) y_size)))
        (λ v i m. takes_less v (value_for l S us x) (can_get S resolved_values us y x v (current_rests S resolved_values (record { head = g; children = b })) i m) (left_within (size types (alone (value_for l S us x))) (le_trans (value_for_size l listing S us x) x_size)))
        (λ n. let o = only_regions S (placed_tree us x) (placed_tree us y) in subst (λ R. Less R others) (sym o.1) (subst (λ n. n < looks l S all) (sym (regions_looks l listing S o.0 others)) others_less))
        enters_less T rest e

  pub visited_resolved : (S T : State) (ps rest : List Pair) → AreResolved S → visited l S ps ≡ Left T rest → AreResolved T
  visited_resolved S T [] rest r e = cc
  visited_resolved S T (p ∷ more) rest r e = rows p.left p.right e
    where
      rows : (a b : Forest) → visited l S (record { scope = p.scope; left = a; right = b } ∷ more) ≡ Left T rest → AreResolved T
      rows none none e = same_left (λ R ps. AreResolved R) S T more rest e r
      rows none (tree g b s) e = cc
      rows (tree h a r) none e = cc
      rows (tree h a f) (tree g b s) e = met_resolved S r p.scope h g a f b s more T rest e

  pub visited_less : (S T : State) (ps rest : List Pair) → AreResolved S → visited l S ps ≡ Left T rest → looks l T rest < looks l S ps
  visited_less S T [] rest r e = cc
  visited_less S T (p ∷ more) rest r e = rows p.left p.right e
    where
      rows : (a b : Forest) → visited l S (record { scope = p.scope; left = a; right = b } ∷ more) ≡ Left T rest
          → looks l T rest < looks l S (record { scope = p.scope; left = a; right = b } ∷ more)
      rows none none e =
          same_left (λ R ps. looks l R ps < looks l S (record { scope = p.scope; left = none; right = none } ∷ more)) S T more rest e
          (enough_fewer (count_unbound S.variables) (size_of_pairs l S more) (1 + 0 + 0 + size_of_pairs l S more) (omega arith))
      rows none (tree g b s) e = cc
      rows (tree h a f) none e = cc
      rows (tree h a f) (tree g b s) e = met_less S r p.scope h g a f b s more T rest e

  -- More looks change nothing

  pub looks_some : (S : State) (ps : List Pair) → 1 ≤ looks l S ps
  looks_some S ps = at (count_unbound S.variables) (size_of_pairs l S ps)
    where
      at : (u n : ℕ) → 1 ≤ enough u n
      at zero n = omega arith
      at (suc u) n = omega arith

  pub looked_enough : (n m : ℕ) (S : State) (ps : List Pair) → AreResolved S → looks l S ps ≤ n → looks l S ps ≤ m → looked l n S ps ≡ looked l m S ps
  looked_enough zero m S ps st e f = let one = looks_some S ps in absurd (omega (arith, e, one))
  looked_enough (suc n) zero S ps st e f = let one = looks_some S ps in absurd (omega (arith, f, one))
  looked_enough (suc n) (suc m) S ps st e f = at (visited l S ps) refl (λ R rest stands a b. looked_enough n m R rest stands a b)
    where
      at_most : (j k n : ℕ) → j < k → k ≤ suc n → j ≤ n
      at_most j k n a b = omega (arith, a, b)

      at : (w : Visit) → visited l S ps ≡ w → ((R : State) (rest : List Pair) → AreResolved R → looks l R rest ≤ n → looks l R rest ≤ m → looked l n R rest ≡ looked l m R rest)
          → ◌≡◌ {A = Option State} (elim w [ Done ↦ Some S | Refused ↦ None | Left R more ↦ looked l n R more ]) (elim w [ Done ↦ Some S | Refused ↦ None | Left R more ↦ looked l m R more ])
      at Done g ih = refl
      at Refused g ih = refl
      at (Left R rest) g ih =
          let less = visited_less S R ps rest st g in
          ih R rest (visited_resolved S R ps rest st g) (at_most (looks l R rest) (looks l S ps) n less e) (at_most (looks l R rest) (looks l S ps) m less f)

  -- What all looks come to is what those after the first one come to.
  pub unified_visit : (S : State) (ps : List Pair) → AreResolved S → unified l S ps ≡ (elim (visited l S ps) [ Done ↦ Some S | Refused ↦ None | Left T more ↦ unified l T more ])
  unified_visit S ps st = looked_enough (looks l S ps) (suc (looks l S ps)) S ps st (omega arith) (omega arith) ∙ at (visited l S ps) refl
    where
      at : (w : Visit) → visited l S ps ≡ w
          → ◌≡◌ {A = Option State} (elim w [ Done ↦ Some S | Refused ↦ None | Left T more ↦ looked l (looks l S ps) T more ]) (elim w [ Done ↦ Some S | Refused ↦ None | Left T more ↦ unified l T more ])
      at Done g = refl
      at Refused g = refl
      at (Left T rest) g = looked_enough (looks l S ps) (looks l T rest) T rest (visited_resolved S T ps rest st g) (weaker (visited_less S T ps rest st g)) (omega arith)
        where
          weaker : {j k : ℕ} → j < k → j ≤ k
          weaker h = omega (arith, h)
