-- Impls that may be for a type are listed by its head, or are for open types; and two such lists are joined in order.
use Rattle.std.proofs.Common.{◌≡◌, ℕ, suc, ◌+◌, ◌<◌, Bool, true, false, List, [], ◌∷◌, ◌++◌, length, Option, Some, None, refl, sym, ◌∙◌, ap, arith, le-ltb, lt-ltb}
use Rattle.std.specs.Prelude.{not, ◌&&◌, ◌||◌, nat_lt, map, is_some, if◌then◌else◌}
use Rattle.std.specs.List.{filter}
use Rattle.std.proofs.lemmas.List.{length-map}
use Rattle.ir_trees.specs.declared.ir.heads.Head.{Head}
use Rattle.ir_trees.specs.declared.ir.classes.ImplClass.{ImplClass}
use Rattle.ir_trees.specs.declared.ir.classes.ImplClass.TheVariants as K
use Rattle.ir_trees.specs.declared.ir.heads.VariableSort.TheVariants as V
use Rattle.ir_trees.specs.declared.ir.unify.RightSide.TheVariants as S
use Rattle.ir_trees.specs.Syntax.Trees.{Tree}
use Rattle.ir_trees.specs.Unification.ImplClasses.{is_in, is_listed, is_open, joined, joined_from, places, sought}
use Rattle.ir_trees.specs.Unification.Impls.{may_be_for}
use Rattle.ir_trees.specs.Unification.Substitutions.{is_float, is_integer}
use Rattle.ir_trees.specs.Unification.Unify.{is_variable_of, may_unify, meets_any, meets_any_on_right, pair_may, same_head}
use Rattle.ir_trees.proofs.Syntax.Equal.{head_is, head_itself}
use Rattle.ir_trees.proofs.Instantiation.Folding.{or-left, or-right}

not-true : (b : Bool) → not b ≡ true → b ≡ false
not-true false e = refl
not-true true e = absurd cc

pub and-left : (a b : Bool) → a && b ≡ true → a ≡ true
and-left true b e = refl
and-left false b e = absurd cc

pub and-right : (a b : Bool) → a && b ≡ true → b ≡ true
and-right true b e = e
and-right false b e = absurd cc

or-second : (a b : Bool) → b ≡ true → a || b ≡ true
or-second true b e = refl
or-second false b e = e

-- What a pair says, where neither may be equal to any, and the second is no variable of numbers
of-integers : (a b i j x y r : Bool) → a ≡ false → b ≡ false → i ≡ true → (if a || b then true else (if i || j then x && y else r)) ≡ true → y ≡ true
of-integers true b i j x y r p q s e = absurd cc
of-integers false true i j x y r p q s e = absurd cc
of-integers false false false j x y r p q s e = absurd cc
of-integers false false true j x y r p q s e = and-right x y e

of-floats : (a b i j u v f g x y r : Bool) → a ≡ false → b ≡ false → i ≡ false → j ≡ false → f ≡ true
    → (if a || b then true else (if i || j then u && v else (if f || g then x && y else r))) ≡ true → y ≡ true
of-floats true b i j u v f g x y r p q s t w e = absurd cc
of-floats false true i j u v f g x y r p q s t w e = absurd cc
of-floats false false true j u v f g x y r p q s t w e = absurd cc
of-floats false false false true u v f g x y r p q s t w e = absurd cc
of-floats false false false false u v false g x y r p q s t w e = absurd cc
of-floats false false false false u v true g x y r p q s t w e = and-right x y e

of-others : (a b i j u v f g w x y r : Bool) → a ≡ false → b ≡ false → i ≡ false → j ≡ false → f ≡ false → g ≡ false
    → (if a || b then true else (if i || j then u && v else (if f || g then w && x else y && r))) ≡ true → y ≡ true
of-others true b i j u v f g w x y r p q s t k l e = absurd cc
of-others false true i j u v f g w x y r p q s t k l e = absurd cc
of-others false false true j u v f g w x y r p q s t k l e = absurd cc
of-others false false false true u v f g w x y r p q s t k l e = absurd cc
of-others false false false false u v true g w x y r p q s t k l e = absurd cc
of-others false false false false u v false true w x y r p q s t k l e = absurd cc
of-others false false false false u v false false w x y r p q s t k l e = and-left y r e

-- what is sought
abbrev choice : Head → Bool → Bool → Bool → Option ImplClass
choice h a b c = if a then None else (if b then Some K.Integer else (if c then Some K.Float else Some (K.Of h)))

sought-by : (h : Head) (a b c : Bool) → meets_any h ≡ a → is_variable_of V.Integer h ≡ b → is_variable_of V.Floating h ≡ c → sought h ≡ choice h a b c
sought-by h a b c p q r =
    ap (λ x. choice h x (is_variable_of V.Integer h) (is_variable_of V.Floating h)) p ∙ (ap (λ x. choice h a x (is_variable_of V.Floating h)) q ∙ ap (choice h a b) r)

class-is : (j k : ImplClass) → Some j ≡ Some k → j ≡ k
class-is j k e = cc

closed-in : (k : ImplClass) (g : Head) (x : Bool) → is_open g ≡ false → x ≡ true → not (is_open g) && x ≡ true
closed-in k g x o e = ap (λ b. not b && x) o ∙ e

found : (h g : Head) (k : ImplClass) (x : Bool) → is_open g ≡ false → sought h ≡ Some k → pair_may S.Header h g x ≡ true → is_in k g ≡ true
found h g k x o s m = by (meets_any h) (is_variable_of V.Integer h) (is_variable_of V.Floating h) refl refl refl
  where
    any : meets_any_on_right S.Header g ≡ false
    any = or-left (meets_any_on_right S.Header g) (is_variable_of V.Integer g || is_variable_of V.Floating g) o

    rest : is_variable_of V.Integer g || is_variable_of V.Floating g ≡ false
    rest = or-right (meets_any_on_right S.Header g) (is_variable_of V.Integer g || is_variable_of V.Floating g) o

    int : is_variable_of V.Integer g ≡ false
    int = or-left (is_variable_of V.Integer g) (is_variable_of V.Floating g) rest

    float : is_variable_of V.Floating g ≡ false
    float = or-right (is_variable_of V.Integer g) (is_variable_of V.Floating g) rest

    by : (a b c : Bool) → meets_any h ≡ a → is_variable_of V.Integer h ≡ b → is_variable_of V.Floating h ≡ c → is_in k g ≡ true
    by true b c p q r = absurd (let e : None ≡ Some k = sym (sought-by h true b c p q r) ∙ s in cc)
    by false true c p q r =
        let j = class-is K.Integer k (sym (sought-by h false true c p q r) ∙ s) in
        let y = of-integers (meets_any h) (meets_any_on_right S.Header g) (is_variable_of V.Integer h) (is_variable_of V.Integer g) (is_integer h) (is_integer g) _ p any q m in
        ap (λ (i : ImplClass). is_in i g) (sym j) ∙ closed-in k g (is_integer g) o y
    by false false true p q r =
        let j = class-is K.Float k (sym (sought-by h false false true p q r) ∙ s) in
        let y = of-floats (meets_any h) (meets_any_on_right S.Header g) (is_variable_of V.Integer h) (is_variable_of V.Integer g) (is_integer h) (is_integer g)
        (is_variable_of V.Floating h) (is_variable_of V.Floating g) (is_float h) (is_float g) _ p any q int r m in
        ap (λ (i : ImplClass). is_in i g) (sym j) ∙ closed-in k g (is_float g) o y
    by false false false p q r =
        let j = class-is (K.Of h) k (sym (sought-by h false false false p q r) ∙ s) in
        let y = of-others (meets_any h) (meets_any_on_right S.Header g) (is_variable_of V.Integer h) (is_variable_of V.Integer g) (is_integer h) (is_integer g)
        (is_variable_of V.Floating h) (is_variable_of V.Floating g) (is_float h) (is_float g) (same_head h g) x p any q int r float m in
        let same : same_head g h ≡ true = ap (same_head g) (head_is h g y) ∙ head_itself g in
        ap (λ (i : ImplClass). is_in i g) (sym j) ∙ closed-in k g (same_head g h) o same

-- an impl that may be for the type is in one of both lists
pub relevant-listed : (t : Tree) (k : ImplClass) (o : Option Tree) → sought t.head ≡ Some k → may_be_for t o ≡ true → is_listed k o || is_listed K.Open o ≡ true
relevant-listed t k None e m = absurd cc
relevant-listed t k (Some u) e m = by (is_open u.head) refl
  where
    by : (b : Bool) → is_open u.head ≡ b → is_in k u.head || is_open u.head ≡ true
    by true o = or-second (is_in k u.head) (is_open u.head) o
    by false o = ap (λ (b : Bool). b || is_open u.head) (found t.head u.head k (may_unify S.Header t.children u.children) o e m)

-- What is sought is never the open types.
closed : (h : Head) → sought h ≡ Some K.Open → false ≡ true
closed h e = by (meets_any h) (is_variable_of V.Integer h) (is_variable_of V.Floating h) refl refl refl
  where
    by : (a b c : Bool) → meets_any h ≡ a → is_variable_of V.Integer h ≡ b → is_variable_of V.Floating h ≡ c → false ≡ true
    by true b c p q r = absurd (let n : None ≡ Some K.Open = sym (sought-by h true b c p q r) ∙ e in cc)
    by false true c p q r = absurd (let n : K.Integer ≡ K.Open = class-is K.Integer K.Open (sym (sought-by h false true c p q r) ∙ e) in cc)
    by false false true p q r = absurd (let n : K.Float ≡ K.Open = class-is K.Float K.Open (sym (sought-by h false false true p q r) ∙ e) in cc)
    by false false false p q r = absurd (let n : K.Of h ≡ K.Open = class-is (K.Of h) K.Open (sym (sought-by h false false false p q r) ∙ e) in cc)

-- none is in both
pub listed-apart : (h : Head) (k : ImplClass) (o : Option Tree) → sought h ≡ Some k → is_listed k o ≡ true → is_listed K.Open o ≡ false
listed-apart h k None e m = refl
listed-apart h (K.Of g) (Some u) e m = not-true (is_open u.head) (and-left (not (is_open u.head)) (same_head u.head g) m)
listed-apart h K.Integer (Some u) e m = not-true (is_open u.head) (and-left (not (is_open u.head)) (is_integer u.head) m)
listed-apart h K.Float (Some u) e m = not-true (is_open u.head) (and-left (not (is_open u.head)) (is_float u.head) m)
listed-apart h K.Open (Some u) e m = absurd (let f = closed h e in cc)

-- Where nothing is sought, each impl may be for the type.
pub all-relevant : (t : Tree) (o : Option Tree) → sought t.head ≡ None → may_be_for t o ≡ is_some o
all-relevant t None e = refl
all-relevant t (Some u) e = by (meets_any t.head) (is_variable_of V.Integer t.head) (is_variable_of V.Floating t.head) refl refl refl
  where
    by : (a b c : Bool) → meets_any t.head ≡ a → is_variable_of V.Integer t.head ≡ b → is_variable_of V.Floating t.head ≡ c
        → pair_may S.Header t.head u.head (may_unify S.Header t.children u.children) ≡ true
    by true b c p q r = rw p refl
    by false true c p q r = absurd (let n : None ≡ Some K.Integer = sym e ∙ sought-by t.head false true c p q r in cc)
    by false false true p q r = absurd (let n : None ≡ Some K.Float = sym e ∙ sought-by t.head false false true p q r in cc)
    by false false false p q r = absurd (let n : None ≡ Some (K.Of t.head) = sym e ∙ sought-by t.head false false false p q r in cc)

-- A list that begins later is joined behind what comes before it.
first-joined : {X : Type 0} (f : X → Bool) (n m : ℕ) (z : X) (r : List (ℕ × X) → List (ℕ × X)) (xs : List X) → n < m
    → joined_from (n, z) r (places f m xs) ≡ (n, z) ∷ r (places f m xs)
first-joined f n m z r [] l = refl
first-joined {X = X} f n m z r (x ∷ xs) l = by (f x) (first-joined f n (suc m) z r xs (omega (arith, l)))
  where
    by : (b : Bool) → joined_from (n, z) r (places f (suc m) xs) ≡ (n, z) ∷ r (places f (suc m) xs)
        → joined_from (n, z) r (if b then (m, x) ∷ places f (suc m) xs else places f (suc m) xs) ≡ (n, z) ∷ r (if b then (m, x) ∷ places f (suc m) xs else places f (suc m) xs)
    by true e = ap (λ (b : Bool). if b then (n, z) ∷ r ((m, x) ∷ places f (suc m) xs) else (m, x) ∷ joined_from (n, z) r (places f (suc m) xs)) (lt-ltb n m l)
    by false e = e

joined-first : {X : Type 0} (f : X → Bool) (n m : ℕ) (z : X) (xs : List X) (ys : List (ℕ × X)) → n < m
    → joined (places f m xs) ((n, z) ∷ ys) ≡ (n, z) ∷ joined (places f m xs) ys
joined-first f n m z [] ys l = refl
joined-first {X = X} f n m z (x ∷ xs) ys l = by (f x) (joined-first f n (suc m) z xs ys (omega (arith, l)))
  where
    by : (b : Bool) → joined (places f (suc m) xs) ((n, z) ∷ ys) ≡ (n, z) ∷ joined (places f (suc m) xs) ys
        → joined (if b then (m, x) ∷ places f (suc m) xs else places f (suc m) xs) ((n, z) ∷ ys)
        ≡ (n, z) ∷ joined (if b then (m, x) ∷ places f (suc m) xs else places f (suc m) xs) ys
    by true e =
        let after : nat_lt m n ≡ false = le-ltb m n (omega (arith, l)) in
        ap (λ (b : Bool). if b then (m, x) ∷ joined (places f (suc m) xs) ((n, z) ∷ ys) else (n, z) ∷ joined_from (m, x) (joined (places f (suc m) xs)) ys) after
    by false e = e

-- what passes one test or another, which nothing passes both
pub places-joined : {X : Type 0} (f g : X → Bool) → ((x : X) → f x ≡ true → g x ≡ false) → (n : ℕ) (xs : List X)
    → joined (places f n xs) (places g n xs) ≡ places (λ x. f x || g x) n xs
places-joined f g apart n [] = refl
places-joined {X = X} f g apart n (x ∷ xs) = by (f x) (g x) refl refl (places-joined f g apart (suc n) xs)
  where
    by : (a b : Bool) → f x ≡ a → g x ≡ b → joined (places f (suc n) xs) (places g (suc n) xs) ≡ places (λ y. f y || g y) (suc n) xs
        → joined (if a then (n, x) ∷ places f (suc n) xs else places f (suc n) xs) (if b then (n, x) ∷ places g (suc n) xs else places g (suc n) xs)
        ≡ (if a || b then (n, x) ∷ places (λ y. f y || g y) (suc n) xs else places (λ y. f y || g y) (suc n) xs)
    by true true p q e = absurd (let r : true ≡ false = sym q ∙ apart x p in cc)
    by true false p q e = first-joined g n (suc n) x (joined (places f (suc n) xs)) xs (omega arith) ∙ ap (λ (l : List (ℕ × X)). (n, x) ∷ l) e
    by false true p q e = joined-first f n (suc n) x xs (places g (suc n) xs) (omega arith) ∙ ap (λ (l : List (ℕ × X)). (n, x) ∷ l) e
    by false false p q e = e

-- one more
pub places-more : {X : Type 0} (f : X → Bool) (n : ℕ) (xs : List X) (x : X) → places f n (xs ++ x ∷ []) ≡ places f n xs ++ (if f x then (n + length xs, x) ∷ [] else [])
places-more {X = X} f n [] x =
    let m : n ≡ n + 0 = omega arith in
    ap (λ (m : ℕ). if f x then (m, x) ∷ [] else []) m
places-more {X = X} f n (y ∷ ys) x =
    let m : suc n + length ys ≡ n + suc (length ys) = omega arith in
    by (f y) (places-more f (suc n) ys x ∙ ap (λ (k : ℕ). places f (suc n) ys ++ (if f x then (k, x) ∷ [] else [])) m)
  where
    by : (b : Bool) → places f (suc n) (ys ++ x ∷ []) ≡ places f (suc n) ys ++ (if f x then (n + suc (length ys), x) ∷ [] else [])
        → (if b then (n, y) ∷ places f (suc n) (ys ++ x ∷ []) else places f (suc n) (ys ++ x ∷ []))
        ≡ (if b then (n, y) ∷ places f (suc n) ys else places f (suc n) ys) ++ (if f x then (n + suc (length ys), x) ∷ [] else [])
    by true e = ap (λ (l : List (ℕ × X)). (n, y) ∷ l) e
    by false e = e

-- without the places
pub placed : {X : Type 0} (f : X → Bool) (n : ℕ) (xs : List X) → map (λ (x : ℕ × X). x.1) (places f n xs) ≡ filter f xs
placed f n [] = refl
placed {X = X} f n (x ∷ xs) = by (f x) (placed f (suc n) xs)
  where
    by : (b : Bool) → map (λ (y : ℕ × X). y.1) (places f (suc n) xs) ≡ filter f xs
        → map (λ (y : ℕ × X). y.1) (if b then (n, x) ∷ places f (suc n) xs else places f (suc n) xs) ≡ (if b then x ∷ filter f xs else filter f xs)
    by true e = ap (λ (l : List X). x ∷ l) e
    by false e = e

pub length-placed : {X : Type 0} (f : X → Bool) (n : ℕ) (xs : List X) → length (places f n xs) ≡ length (filter f xs)
length-placed {X = X} f n xs = sym (length-map (places f n xs) (λ (x : ℕ × X). x.1)) ∙ ap length (placed f n xs)

-- Joined lists are as long as both.
length-from : {X : Type 0} (x : ℕ × X) (n : ℕ) (r : List (ℕ × X) → List (ℕ × X)) (ys : List (ℕ × X)) → ((zs : List (ℕ × X)) → length (r zs) ≡ n + length zs)
    → length (joined_from x r ys) ≡ suc (n + length ys)
length-from x n r [] e = ap suc (e [])
length-from {X = X} x n r (y ∷ ys) e = by (nat_lt x.0 y.0) (length-from x n r ys e)
  where
    by : (b : Bool) → length (joined_from x r ys) ≡ suc (n + length ys) → length (if b then x ∷ r (y ∷ ys) else y ∷ joined_from x r ys) ≡ suc (n + suc (length ys))
    by true l = ap suc (e (y ∷ ys))
    by false l = omega (arith, l)

pub length-joined : {X : Type 0} (xs ys : List (ℕ × X)) → length (joined xs ys) ≡ length xs + length ys
length-joined [] ys = omega arith
length-joined (x ∷ xs) ys =
    let n = length-from x (length xs) (joined xs) ys (λ zs. length-joined xs zs) in
    omega (arith, n)

-- What passes the first test is among what passes the second.
pub filter-within : {X : Type 0} (f g : X → Bool) → ((x : X) → f x ≡ true → g x ≡ true) → (xs : List X) → filter f (filter g xs) ≡ filter f xs
filter-within f g within [] = refl
filter-within {X = X} f g within (x ∷ xs) = by (f x) (g x) refl refl (filter-within f g within xs)
  where
    by : (a b : Bool) → f x ≡ a → g x ≡ b → filter f (filter g xs) ≡ filter f xs
        → filter f (if b then x ∷ filter g xs else filter g xs) ≡ (if a then x ∷ filter f xs else filter f xs)
    by true true p q e = ap (λ (c : Bool). if c then x ∷ filter f (filter g xs) else filter f (filter g xs)) p ∙ ap (λ (l : List X). x ∷ l) e
    by true false p q e = absurd (let r : false ≡ true = sym q ∙ within x p in cc)
    by false true p q e = ap (λ (c : Bool). if c then x ∷ filter f (filter g xs) else filter f (filter g xs)) p ∙ e
    by false false p q e = e
