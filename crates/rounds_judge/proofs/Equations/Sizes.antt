-- How large trees are, and what is put in them.
use Rattle.std.proofs.Common.{◌≡◌, ◌≤◌, ◌<◌, ℕ, zero, suc, ◌+◌, ◌*◌, Bool, true, false, max, List, [], ◌∷◌, Option, Some, None, slice_get, refl, sym, ap, subst, ◌∙◌, arith, if◌then◌else◌}
use Rattle.std.specs.Option.{option_map, unwrap_or}
use Rattle.std.proofs.Math.Nat.{mul-add, le_trans}
use Rattle.std.specs.List.{All}
use Rattle.std.proofs.lemmas.Bool.{and_parts, ne_eqb, eq-eqb}
use Rattle.std.proofs.lemmas.List.Elements.{All-head, All-tail}
use Rattle.std.proofs.lemmas.Nat.{mul-le}
use Rattle.ir_trees.specs.declared.ir.heads.Variable.{Variable}
use Rattle.ir_trees.specs.Syntax.Trees.{Forest, none, tree, Tree, holds, is_alias, binders_of}
use Rattle.ir_trees.specs.Hierarchy.Elaboration.{same_tree, same_forest}
use Rattle.ir_trees.specs.Instantiation.Folding.{Answers, fold}
use Rattle.ir_trees.specs.Unification.Substitutions.{alone}
use Rattle.ir_trees.specs.Unification.Unify.{same_head}
use Rattle.ir_trees.proofs.Syntax.Equal.{head_is}
use Rattle.ir_trees.proofs.Instantiation.Folding.{begin}
use Rattle.candidate_eval.specs.Judges.States.{VariableInfo, valued_tree}
use Rattle.candidate_eval.proofs.Marks.Holds.{holds_parts}
use Rattle.rounds_judge.specs.Aliases.Listed.{Listing, listed, listed_in}
use Rattle.rounds_judge.specs.Equations.Binding.{info_after, numbered, single}
use Rattle.rounds_judge.specs.Equations.Equating.{size, greatest_type, size_of_types, unbound_of, count_unbound, enough}
use Rattle.rounds_judge.specs.Equations.Standing.{IsListed, IsListing}

pub size_begin : (k : ℕ) (t : Tree) (rest : Forest) → size k (begin t rest) ≡ size k (alone t) + size k rest
size_begin k t rest = no_more (2 + (if is_alias t.head then k else 0) + size k t.children) (size k rest)
  where
    no_more : (a b : ℕ) → a + b ≡ a + 0 + b
    no_more a b = omega arith

-- each tree counts
pub size_two : (k : ℕ) (t : Tree) → 2 ≤ size k (alone t)
size_two k t = more (if is_alias t.head then k else 0) (size k t.children)
  where
    more : (a b : ℕ) → 2 ≤ 2 + a + b + 0
    more a b = omega arith

-- what is below it counts for as much less
pub size_below : (k : ℕ) (t : Tree) → 2 + size k t.children ≤ size k (alone t)
size_below k t = more (if is_alias t.head then k else 0) (size k t.children)
  where
    more : (a b : ℕ) → 2 + b ≤ 2 + a + b + 0
    more a b = omega arith

pub size_alias : (k : ℕ) (t : Tree) → is_alias t.head ≡ true → k ≤ size k (alone t)
size_alias k t e = subst (λ n. k ≤ 2 + n + size k t.children + 0) (sym (ap (λ b. if b then k else 0) e)) (more (size k t.children))
  where
    more : (b : ℕ) → k ≤ 2 + k + b + 0
    more b = omega arith

pub size_no_alias : (k : ℕ) (ts : Forest) → holds is_alias ts ≡ false → size k ts ≡ size 0 ts
size_no_alias k none e = refl
size_no_alias k (tree h below rest) e =
    let p = holds_parts is_alias h below rest e in
    rw (p.here, size_no_alias k below p.under, size_no_alias k rest p.others) refl

-- what is answered is no larger than what it stands for
module _ (f : Answers) (k : ℕ) (smaller : (d : ℕ) (t u : Tree) → f d t ≡ Some u → size k (alone u) ≤ size k (alone t)) where
  pub size_shrinks : (d : ℕ) (ts : Forest) → size k (fold f d ts) ≤ size k ts
  size_shrinks d none = omega arith
  size_shrinks d (tree h below rest) = node (f d (record { head = h; children = below })) refl (size_shrinks (d + binders_of h) below) (size_shrinks d rest)
    where
      sums : (a b c d e : ℕ) → b ≤ c → d ≤ e → 2 + a + b + d ≤ 2 + a + c + e
      sums a b c d e g h = omega (arith, g, h)

      puts : (a b c d e : ℕ) → a ≤ 2 + b + c + 0 → d ≤ e → a + d ≤ 2 + b + c + e
      puts a b c d e g h = omega (arith, g, h)

      node : (o : Option Tree) → f d (record { head = h; children = below }) ≡ o → size k (fold f (d + binders_of h) below) ≤ size k below → size k (fold f d rest) ≤ size k rest
          → size k (begin (unwrap_or o (record { head = h; children = fold f (d + binders_of h) below })) (fold f d rest)) ≤ size k (tree h below rest)
      node None e under others = sums (if is_alias h then k else 0) (size k (fold f (d + binders_of h) below)) (size k below) (size k (fold f d rest)) (size k rest) under others
      node (Some u) e under others =
          subst (λ n. n ≤ size k (tree h below rest)) (sym (size_begin k u (fold f d rest)))
          (puts (size k (alone u)) (if is_alias h then k else 0) (size k below) (size k (fold f d rest)) (size k rest) (smaller d (record { head = h; children = below }) u e) others)

-- where each answer is no larger than a number, trees grow so many times at most
times_more : (m a b c : ℕ) → m * (a + b + c) ≡ m * a + m * b + m * c
times_more m a b c = mul-add m (a + b) c ∙ ap (λ n. n + m * c) (mul-add m a b)

times_one : (m a : ℕ) → 1 ≤ m → a ≤ m * a
times_one m a h = subst (λ n. n ≤ m * a) (once a) (mul-le 1 a m a h (omega arith))
  where
    once : (a : ℕ) → 1 * a ≡ a
    once a = omega arith

pub grown_sum : (m a b c x y : ℕ) → 1 ≤ m → x ≤ m * b → y ≤ m * c → a + x + y ≤ m * (a + b + c)
grown_sum m a b c x y h g f = subst (λ n. a + x + y ≤ n) (sym (times_more m a b c)) (sums (m * a) (m * b) (m * c) (times_one m a h) g f)
  where
    sums : (p q r : ℕ) → a ≤ p → x ≤ q → y ≤ r → a + x + y ≤ p + q + r
    sums p q r e g f = omega (arith, e, g, f)

grown_put : (m a b c x y : ℕ) → 1 ≤ a → x ≤ m → y ≤ m * c → x + y ≤ m * (a + b + c)
grown_put m a b c x y h g f = subst (λ n. x + y ≤ n) (sym (times_more m a b c)) (sums (m * a) (m * b) (m * c) (subst (λ n. n ≤ m * a) (once m) (mul-le m 1 m a (omega arith) h)) f)
  where
    once : (m : ℕ) → m * 1 ≡ m
    once m = omega arith

    sums : (p q r : ℕ) → m ≤ p → y ≤ r → x + y ≤ p + q + r
    sums p q r e d = omega (arith, e, g, d)

module _ (f : Answers) (k m : ℕ) (is_one : 1 ≤ m) (small : (d : ℕ) (t u : Tree) → f d t ≡ Some u → size k (alone u) ≤ m) where
  pub size_grows : (d : ℕ) (ts : Forest) → size k (fold f d ts) ≤ m * size k ts
  size_grows d none = omega arith
  size_grows d (tree h below rest) = node (f d (record { head = h; children = below })) refl (size_grows (d + binders_of h) below) (size_grows d rest)
    where
      two : (a : ℕ) → 1 ≤ 2 + a
      two a = omega arith

      node : (o : Option Tree) → f d (record { head = h; children = below }) ≡ o → size k (fold f (d + binders_of h) below) ≤ m * size k below → size k (fold f d rest) ≤ m * size k rest
          → size k (begin (unwrap_or o (record { head = h; children = fold f (d + binders_of h) below })) (fold f d rest)) ≤ m * size k (tree h below rest)
      node None e under others =
          grown_sum m (2 + (if is_alias h then k else 0)) (size k below) (size k rest) (size k (fold f (d + binders_of h) below)) (size k (fold f d rest)) is_one under others
      node (Some u) e under others =
          subst (λ n. n ≤ m * size k (tree h below rest)) (sym (size_begin k u (fold f d rest)))
          (grown_put m (2 + (if is_alias h then k else 0)) (size k below) (size k rest) (size k (alone u)) (size k (fold f d rest)) (two (if is_alias h then k else 0)) (small d (record { head = h; children = below }) u e) others)

-- Listed types

-- a listed type comes in the place of an alias, and is no larger
pub record ListedSize (l : Listing) (t u : Tree) : Type 0 where
  pub alias : is_alias t.head ≡ true
  pub small : size (size_of_types l) (alone u) ≤ size_of_types l

same_root : (t u : Tree) → same_tree t u ≡ true → t.head ≡ u.head
same_root t u e = head_is t.head u.head (and_parts (same_head t.head u.head) (same_forest t.children u.children) e).0

types_small : (ps : List (Tree × Tree)) → All IsListed ps → (t u : Tree) → listed_in ps t ≡ Some u → (is_alias t.head ≡ true) × (holds is_alias (alone u) ≡ false) × (size 0 (alone u) ≤ greatest_type ps)
types_small [] a t u e = cc
types_small (p ∷ ps) a t u e = at (same_tree p.0 t) refl (types_small ps (All-tail IsListed p ps a) t u) e
  where
    left_max : (a b : ℕ) → a ≤ max a b
    left_max a b = omega arith

    right_max : (a b c : ℕ) → a ≤ c → a ≤ max b c
    right_max a b c h = omega (arith, h)

    at : (b : Bool) → same_tree p.0 t ≡ b → (listed_in ps t ≡ Some u → (is_alias t.head ≡ true) × (holds is_alias (alone u) ≡ false) × (size 0 (alone u) ≤ greatest_type ps))
        → (if b then Some p.1 else listed_in ps t) ≡ Some u → (is_alias t.head ≡ true) × (holds is_alias (alone u) ≡ false) × (size 0 (alone u) ≤ greatest_type (p ∷ ps))
    at true s f e =
        let here = All-head IsListed p ps a in
        let is : p.1 ≡ u = cc in
        (ap is_alias (sym (same_root p.0 t s)) ∙ here.is_alias, subst (λ u. holds is_alias (alone u) ≡ false) is here.no_alias, subst (λ u. size 0 (alone u) ≤ greatest_type (p ∷ ps)) is (left_max (size 0 (alone p.1)) (greatest_type ps)))
    at false s f e = let g = f e in (g.0, g.1, right_max (size 0 (alone u)) (size 0 (alone p.1)) (greatest_type ps) g.2)

pub listed_size : (l : Listing) → IsListing l → (t u : Tree) → listed l t ≡ Some u → ListedSize l t u
listed_size l a t u e =
    let s = types_small l.pairs a t u e in
    record { alias = s.0; small = subst (λ n. n ≤ size_of_types l) (sym (size_no_alias (size_of_types l) (alone u) s.1)) s.2 }

-- Variables without a value

unbound_map : (f : Tree → Tree) (o : Option Tree) → unbound_of (option_map f o) ≡ unbound_of o
unbound_map f None = refl
unbound_map f (Some t) = refl

-- another variable has a value if it had one
unbound_other : (v : Variable) (u : ℕ) (t : Tree) (m : ℕ) (i : VariableInfo) → (m ≡ v.number → ⊥) → unbound_of (info_after v u t m i).value ≡ unbound_of i.value
unbound_other v u t m i n = ap (λ b. unbound_of (if b then Some t else option_map (valued_tree (single v t)) i.value)) (ne_eqb m v.number n) ∙ unbound_map (valued_tree (single v t)) i.value

count_same : (v : Variable) (u : ℕ) (t : Tree) (k : ℕ) (is : List VariableInfo) → v.number < k → count_unbound (numbered (info_after v u t) k is) ≡ count_unbound is
count_same v u t k [] h = refl
count_same v u t k (i ∷ is) h =
    ap (λ n. n + count_unbound (numbered (info_after v u t) (suc k) is)) (unbound_other v u t k i (λ e. apart e)) ∙ ap (λ n. unbound_of i.value + n) (count_same v u t (suc k) is (omega (arith, h)))
  where
    apart : k ≡ v.number → ⊥
    apart e = omega (arith, e, h)

pub count_bound : (v : Variable) (u : ℕ) (t : Tree) (k n : ℕ) (is : List VariableInfo) (i : VariableInfo) → slice_get is n ≡ Some i → i.value ≡ None → k + n ≡ v.number
    → count_unbound is ≡ suc (count_unbound (numbered (info_after v u t) k is))
count_bound v u t k n [] i e f g = cc
count_bound v u t k zero (j ∷ is) i e f g =
    let is_one : j ≡ i = cc in
    let here : k ≡ v.number = no_more g in
    let now : unbound_of (info_after v u t k j).value ≡ 0 = ap (λ b. unbound_of (if b then Some t else option_map (valued_tree (single v t)) j.value)) (eq-eqb k v.number here) in
    let before : unbound_of j.value ≡ 1 = ap (λ (i : VariableInfo). unbound_of i.value) is_one ∙ ap unbound_of f in
    one_less (unbound_of j.value) (count_unbound is) (unbound_of (info_after v u t k j).value) (count_unbound (numbered (info_after v u t) (suc k) is)) before now (count_same v u t (suc k) is (next here))
  where
    no_more : k + 0 ≡ v.number → k ≡ v.number
    no_more e = omega (arith, e)

    next : k ≡ v.number → v.number < suc k
    next e = omega (arith, e)

    one_less : (a b c d : ℕ) → a ≡ 1 → c ≡ 0 → d ≡ b → a + b ≡ suc (c + d)
    one_less a b c d e f g = omega (arith, e, f, g)
count_bound v u t k (suc n) (j ∷ is) i e f g =
    steps (unbound_of j.value) (count_unbound is) (unbound_of (info_after v u t k j).value) (count_unbound (numbered (info_after v u t) (suc k) is))
    (unbound_other v u t k j (λ h. apart h)) (count_bound v u t (suc k) n is i e f (one_more g))
  where
    apart : k ≡ v.number → ⊥
    apart h = omega (arith, h, g)

    one_more : k + suc n ≡ v.number → suc k + n ≡ v.number
    one_more g = omega (arith, g)

    steps : (a b c d : ℕ) → c ≡ a → b ≡ suc d → a + b ≡ suc (c + d)
    steps a b c d e f = omega (arith, e, f)

-- How many looks are enough

square : (n m : ℕ) → n ≤ m → suc n * suc n ≤ suc m * suc m
square n m h = mul-le (suc n) (suc n) (suc m) (suc m) (omega (arith, h)) (omega (arith, h))

pub enough_more : (u n m : ℕ) → n ≤ m → enough u n ≤ enough u m
enough_more zero n m h = omega (arith, h)
enough_more (suc u) n m h = sums (enough u (suc n * suc n)) (enough u (suc m * suc m)) (enough_more u (suc n * suc n) (suc m * suc m) (square n m h))
  where
    sums : (a b : ℕ) → a ≤ b → suc n + a ≤ suc m + b
    sums a b e = omega (arith, e, h)

pub enough_fewer : (u n m : ℕ) → n < m → enough u n < enough u m
enough_fewer zero n m h = omega (arith, h)
enough_fewer (suc u) n m h = sums (enough u (suc n * suc n)) (enough u (suc m * suc m)) (enough_more u (suc n * suc n) (suc m * suc m) (square n m (omega (arith, h))))
  where
    sums : (a b : ℕ) → a ≤ b → suc n + a < suc m + b
    sums a b e = omega (arith, e, h)

-- a variable less, and trees as large as they can be
pub enough_bound : (u n m : ℕ) → m ≤ n * n → enough u m < enough (suc u) n
enough_bound u n m h = sums (enough u m) (enough u (suc n * suc n)) (enough_more u m (suc n * suc n) (le_trans h (mul-le n n (suc n) (suc n) (omega arith) (omega arith))))
  where
    sums : (a b : ℕ) → a ≤ b → a < suc n + b
    sums a b e = omega (arith, e)
