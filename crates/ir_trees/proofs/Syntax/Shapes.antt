-- Nodes with one head over the same numbers.
use Rattle.std.proofs.Common.{◌≡◌, ℕ, zero, suc, ◌+◌, ◌≤◌, Bool, true, false, List, [], ◌∷◌, length, take, Some, slice_get, refl, sym, ◌∙◌, ap, arith, subst, ◌++◌, append_assoc}
use Rattle.std.proofs.lemmas.List.{take_all, length-map}
use Rattle.std.specs.Prelude.{◌&&◌, nat_eq, fold}
use Rattle.std.specs.List.{flat_map}
use Rattle.std.specs.Hash.{HashWrites, u32, fed_then, fed_along}
use Rattle.std.specs.Cmp.{first_so, second_so, unsigned_Decides}
use Rattle.std.specs.Cmp.Lexicographic.{pointwise, pointwise_decides}
use Rattle.ir_trees.specs.declared.ir.node.Node.{Node}
use Rattle.ir_trees.specs.declared.ir.heads.Head.{Head}
use Rattle.ir_trees.specs.Syntax.Nodes.{head_of, children_of}
use Rattle.ir_trees.specs.Syntax.Shapes.{child_numbers, same_head, same_shape}
use Rattle.ir_trees.proofs.Syntax.Equal.{head_is, head_itself, no_true}

-- lists that agree up to a place, and there, agree up to the next
agree-suc : (xs ys : List ℕ) (i a : ℕ) → take i xs ≡ take i ys → slice_get xs i ≡ Some a → slice_get ys i ≡ Some a → take (suc i) xs ≡ take (suc i) ys
agree-suc [] ys i a e g h = absurd cc
agree-suc (x ∷ xs) [] i a e g h = absurd cc
agree-suc (x ∷ xs) (y ∷ ys) zero a e g h = let p : x ≡ y = cc in ap (λ (z : ℕ). z ∷ []) p
agree-suc (x ∷ xs) (y ∷ ys) (suc i) a e g h =
    let p : x ≡ y = cc in let q : take i xs ≡ take i ys = cc in
    let r : take (suc i) xs ≡ take (suc i) ys = agree-suc xs ys i a q g h in λ k. p k ∷ r k

pub agree-more : (xs ys : List ℕ) (i a : ℕ) → take i xs ≡ take i ys → slice_get xs i ≡ Some a → slice_get ys i ≡ Some a → take (i + 1) xs ≡ take (i + 1) ys
agree-more xs ys i a e g h =
    let n : suc i ≡ i + 1 = omega arith in
    subst (λ (j : ℕ). take j xs ≡ take j ys) n (agree-suc xs ys i a e g h)

pub agree-end : (xs ys : List ℕ) (i : ℕ) → length xs ≤ i → length xs ≡ length ys → take i xs ≡ take i ys → xs ≡ ys
agree-end xs ys i h l e = sym (take_all i xs h) ∙ (e ∙ take_all i ys (omega (arith, l)))

pub differ : {A : Type 0} (xs ys : List ℕ) (i a b : ℕ) → slice_get xs i ≡ Some a → slice_get ys i ≡ Some b → xs ≡ ys → (a ≡ b → A) → A
differ xs ys i a b g h e f = f (let p : slice_get xs i ≡ slice_get ys i = ap (λ (zs : List ℕ). slice_get zs i) e in cc)

-- what nodes of one shape have in common, and the other way round
pub shape-is : (d f : Node) → same_shape d f ≡ true → (head_of d ≡ head_of f) × (child_numbers d ≡ child_numbers f)
shape-is d f e = (
  head_is (head_of d) (head_of f) (first_so (same_head (head_of d) (head_of f)) (pointwise nat_eq (child_numbers d) (child_numbers f)) e),
  (pointwise_decides unsigned_Decides (child_numbers d) (child_numbers f)).0 (second_so (same_head (head_of d) (head_of f)) (pointwise nat_eq (child_numbers d) (child_numbers f)) e),
)

pub shape-same : (d f : Node) → head_of d ≡ head_of f → child_numbers d ≡ child_numbers f → same_shape d f ≡ true
shape-same d f h n =
    let a : same_head (head_of d) (head_of f) ≡ true = ap (λ (x : Head). same_head x (head_of f)) h ∙ head_itself (head_of f) in
    let b : pointwise nat_eq (child_numbers d) (child_numbers f) ≡ true = (pointwise_decides unsigned_Decides (child_numbers d) (child_numbers f)).1 n in
    λ i. a i && b i

-- an answer that decides what nodes of one shape have in common
pub shape-answer : (d f : Node) (r : Bool) → (r ≡ true → (head_of d ≡ head_of f) × (child_numbers d ≡ child_numbers f)) → (same_shape d f ≡ true → r ≡ true) → r ≡ same_shape d f
shape-answer d f true y n = let p = y refl in sym (shape-same d f p.0 p.1)
shape-answer d f false y n = at (same_shape d f) refl
  where
    at : (b : Bool) → same_shape d f ≡ b → false ≡ same_shape d f
    at true e = no_true (n e)
    at false e = sym e

-- as many numbers as children
pub same-length : (d f : Node) → length (children_of d) ≡ length (children_of f) → length (child_numbers d) ≡ length (child_numbers f)
same-length d f e = length-map (children_of d) (λ c. c.0) ∙ (e ∙ sym (length-map (children_of f) (λ c. c.0)))

pub child-count : (d f : Node) → child_numbers d ≡ child_numbers f → length (children_of d) ≡ length (children_of f)
child-count d f e = sym (length-map (children_of d) (λ c. c.0)) ∙ (ap length e ∙ length-map (children_of f) (λ c. c.0))

-- what is fed of one more number
flat-suc : (ns : List ℕ) (i a : ℕ) → slice_get ns i ≡ Some a → flat_map u32 (take (suc i) ns) ≡ flat_map u32 (take i ns) ++ u32 a
flat-suc [] i a e = absurd cc
flat-suc (n ∷ ns) zero a e = let p : n ≡ a = cc in ap u32 p
flat-suc (n ∷ ns) (suc i) a e = ap (λ (ws : HashWrites). u32 n ++ ws) (flat-suc ns i a e) ∙ sym (append_assoc (u32 n) (flat_map u32 (take i ns)) (u32 a))

flat-more : (h k : HashWrites) (ns : List ℕ) (i a : ℕ) → slice_get ns i ≡ Some a
    → (h ++ (k ++ flat_map u32 (take i ns))) ++ u32 a ≡ h ++ (k ++ flat_map u32 (take (i + 1) ns))
flat-more h k ns i a e =
    let n : suc i ≡ i + 1 = omega arith in
    append_assoc h (k ++ flat_map u32 (take i ns)) (u32 a)
    ∙ ap (λ (ws : HashWrites). h ++ ws) (append_assoc k (flat_map u32 (take i ns)) (u32 a)
    ∙ ap (λ (ws : HashWrites). k ++ ws) (sym (flat-suc ns i a e) ∙ ap (λ (j : ℕ). flat_map u32 (take j ns)) n))

pub fed-more : {S : Type 0} (write : S → List ℕ → S) (s t u : S) (h k : HashWrites) (ns : List ℕ) (i a : ℕ) → slice_get ns i ≡ Some a
    → t ≡ fold write s (h ++ (k ++ flat_map u32 (take i ns))) → u ≡ fold write t (u32 a) → u ≡ fold write s (h ++ (k ++ flat_map u32 (take (i + 1) ns)))
fed-more write s t u h k ns i a e p q =
    fed_along write s u (flat-more h k ns i a e) (fed_then write s t u (h ++ (k ++ flat_map u32 (take i ns))) (u32 a) p q)
