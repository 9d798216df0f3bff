-- Lists of impls, one place more.
use Rattle.std.proofs.Common.{◌≡◌, ℕ, suc, ◌+◌, ◌<◌, Bool, true, false, cond, List, [], ◌∷◌, ◌++◌, length, take, get_or, arith, le-ltb, lt-ltb, Option, Some, None, Vec, Global, refl, sym, ◌∙◌, ap, rules}
use Rattle.std.specs.Prelude.{◌≤◌, ◌==◌, ◌&&◌, ◌||◌, nat_lt, if◌then◌else◌}
use Rattle.std.specs.Option.{option_map_or, unwrap_or}
use Rattle.indexmap.specs.IndexMap.{IndexMap, IsEmpty, Updates, get}
use Rattle.std.specs.Map.{lookup}
use Rattle.ir_trees.specs.Syntax.Trees.{Tree}
use Rattle.ir_trees.specs.Declarations.Contents.{Impl, TraitContents}
use Rattle.ir_trees.specs.Declarations.Lookups.{maybe}
use Rattle.ir_trees.specs.declared.decl.contents.ImplId.{ImplId}
use Rattle.ir_trees.specs.declared.decl.heads.ImplList.{ImplList}
use Rattle.ir_trees.specs.declared.ir.classes.ImplClass.{ImplClass}
use Rattle.ir_trees.specs.declared.ir.classes.ImplClass.TheVariants as K
use Rattle.ir_trees.specs.declared.ir.heads.Head.{Head}
use Rattle.ir_trees.specs.declared.ir.heads.Head.TheVariants as H
use Rattle.ir_trees.specs.declared.ir.heads.Builtin.TheVariants as B
use Rattle.ir_trees.specs.declared.ir.heads.VariableSort.{VariableSort}
use Rattle.ir_trees.specs.declared.ir.heads.VariableSort.TheVariants as V
use Rattle.ir_trees.specs.Unification.ImplClasses.{class_of, is_in, is_open, number_class, places}
use Rattle.ir_trees.specs.Unification.ImplLists.{AreListed, impl_is_in, list_of, listed_at, own_impls, same_class, same_list}
use Rattle.ir_trees.specs.Unification.Substitutions.{is_float, is_integer, same_sort}
use Rattle.ir_trees.specs.Unification.Unify.{same_head}
use Rattle.ir_trees.proofs.Syntax.Equal.{head_is}
use Rattle.ir_trees.proofs.Unification.ImplClasses.{and-left, and-right, places-more}
use Rattle.std.proofs.Math.Seq.{take-suc}
use Rattle.std.proofs.lemmas.List.{append_assoc, append-nil, length-take}
use Rattle.std.proofs.lemmas.Option.{slice_get-get_or, slice_get_past}

pub class-is : (a b : ImplClass) → same_class a b ≡ true → a ≡ b
class-is (K.Of h) (K.Of g) e = ap K.Of (head_is h g e)
class-is K.Integer K.Integer e = refl
class-is K.Float K.Float e = refl
class-is K.Open K.Open e = refl
class-is _ _ e = absurd cc

number-is : (m n : ℕ) → m == n ≡ true → m ≡ n
number-is m n e = search rules

pub list-is : (a b : ImplList) → same_list a b ≡ true → a ≡ b
list-is a b e =
    let o : a.of ≡ b.of = number-is a.of b.of (and-left (a.of == b.of) (same_class a.class b.class) e) in
    let k : a.class ≡ b.class = class-is a.class b.class (and-right (a.of == b.of) (same_class a.class b.class) e) in
    let first : ℕ → ImplList = λ n. record { of = n; class = a.class } in
    let second : ImplClass → ImplList = λ c. record { of = b.of; class = c } in
    ap first o ∙ ap second k

pub items-or : (o : Option (Vec (ℕ × ImplId) Global)) (v : Vec (ℕ × ImplId) Global) → v.items ≡ [] → (unwrap_or o v).items ≡ option_map_or (λ w. w.items) o []
items-or None v e = e
items-or (Some w) v e = refl

pub one-updated : {S : Type 0} (m n : IndexMap ImplList (Vec (ℕ × ImplId) Global) S) (es : List (ImplList × Vec (ℕ × ImplId) Global)) (a : ImplList) (w : Vec (ℕ × ImplId) Global)
    (x : ℕ × ImplId) → w.items ≡ listed_at m a ++ x ∷ [] → Updates same_list m n a (Some w) → es ≡ n.entries
    → (k : ImplList) → option_map_or (λ v. v.items) (lookup (same_list k) es) [] ≡ (if same_list a k then listed_at m k ++ x ∷ [] else listed_at m k)
one-updated m n es a w x e u i k = ap (λ xs. listed (lookup (same_list k) xs)) i ∙ by (same_list a k) refl
  where
    listed : Option (Vec (ℕ × ImplId) Global) → List (ℕ × ImplId)
    listed o = option_map_or (λ v. v.items) o []

    by : (b : Bool) → same_list a k ≡ b → listed_at n k ≡ (if b then listed_at m k ++ x ∷ [] else listed_at m k)
    by true s = ap listed (u.0 k ∙ ap (λ (b : Bool). cond b (Some w) (get same_list m k)) s) ∙ (e ∙ ap (λ (j : ImplList). listed_at m j ++ x ∷ []) (list-is a k s))
    by false s = ap listed (u.0 k ∙ ap (λ (b : Bool). cond b (Some w) (get same_list m k)) s)

-- Each impl is in the list of its class, and in that of its class of numbers besides.
or-false : (b : Bool) → b ≡ b || false
or-false true = refl
or-false false = refl

abbrev among : Option ImplClass → ImplClass → Bool
among o k = option_map_or (λ j. same_class j k) o false

both-kinds : (g : Head) → is_integer g ≡ true → is_float g ≡ false
both-kinds (H.Builtin (B.Int w)) e = refl
both-kinds (H.Builtin (B.Uint w)) e = refl
both-kinds (H.Infer v) e = of-sort v.sort e
  where
    of-sort : (s : VariableSort) → same_sort s V.Integer ≡ true → same_sort s V.Floating ≡ false
    of-sort V.Integer e = refl
    of-sort V.General e = absurd cc
    of-sort V.Floating e = absurd cc
    of-sort V.Constant e = absurd cc
both-kinds _ e = absurd cc

-- by whether it is open, of integers or of floating-point numbers
abbrev own : Head → Bool → ImplClass
own g o = if o then K.Open else K.Of g

abbrev numbers : Bool → Bool → Bool → Option ImplClass
numbers o i f = if o then None else (if i then Some K.Integer else (if f then Some K.Float else None))

by-class : (g : Head) (k : ImplClass) (o i f : Bool) → is_open g ≡ o → is_integer g ≡ i → is_float g ≡ f → (i ≡ true → f ≡ false)
    → is_in k g ≡ same_class (own g o) k || among (numbers o i f) k
by-class g (K.Of h) true i f p q r d = rw p refl
by-class g (K.Of h) false true f p q r d = rw p (or-false (same_head g h))
by-class g (K.Of h) false false true p q r d = rw p (or-false (same_head g h))
by-class g (K.Of h) false false false p q r d = rw p (or-false (same_head g h))
by-class g K.Integer true i f p q r d = rw p refl
by-class g K.Integer false true f p q r d = rw p q
by-class g K.Integer false false true p q r d = rw p q
by-class g K.Integer false false false p q r d = rw p q
by-class g K.Float true i f p q r d = rw p refl
by-class g K.Float false true f p q r d = rw p (r ∙ d refl)
by-class g K.Float false false true p q r d = rw p r
by-class g K.Float false false false p q r d = rw p r
by-class g K.Open true i f p q r d = p
by-class g K.Open false true f p q r d = p
by-class g K.Open false false true p q r d = p
by-class g K.Open false false false p q r d = p

in-class : (g : Head) (k : ImplClass) → is_in k g ≡ same_class (class_of g) k || among (number_class g) k
in-class g k = by-class g k (is_open g) (is_integer g) (is_float g) refl refl refl (both-kinds g)

apart-by : (g : Head) (k : ImplClass) (o i f : Bool) → same_class (own g o) k ≡ true → among (numbers o i f) k ≡ false
apart-by g (K.Of h) true i f e = refl
apart-by g (K.Of h) false true f e = refl
apart-by g (K.Of h) false false true e = refl
apart-by g (K.Of h) false false false e = refl
apart-by g K.Integer true i f e = absurd cc
apart-by g K.Integer false i f e = absurd cc
apart-by g K.Float true i f e = absurd cc
apart-by g K.Float false i f e = absurd cc
apart-by g K.Open true i f e = refl
apart-by g K.Open false i f e = absurd cc

classes-apart : (g : Head) (k : ImplClass) → same_class (class_of g) k ≡ true → among (number_class g) k ≡ false
classes-apart g k e = apart-by g k (is_open g) (is_integer g) (is_float g) e

-- one more in each list of the trait with a mark
abbrev more : List (ℕ × ImplId) → ℕ × ImplId → Bool → List (ℕ × ImplId)
more xs x b = if b then xs ++ x ∷ [] else xs

pub unmarked : (d : Bool) (xs : List (ℕ × ImplId)) (x : ℕ × ImplId) → xs ≡ more xs x (d && false)
unmarked true xs x = refl
unmarked false xs x = refl

twice : (xs ys zs : List (ℕ × ImplId)) (x : ℕ × ImplId) (d s t u : Bool) → ys ≡ more xs x (d && s) → zs ≡ more ys x (d && t) → u ≡ s || t → (s ≡ true → t ≡ false)
    → zs ≡ more xs x (d && u)
twice xs ys zs x false s t u p q e a = q ∙ p
twice xs ys zs x true true true u p q e a = absurd (let r : true ≡ false = a refl in cc)
twice xs ys zs x true true false u p q e a = q ∙ (p ∙ ap (more xs x) (sym e))
twice xs ys zs x true false t u p q e a = q ∙ (ap (λ l. more l x t) p ∙ ap (more xs x) (sym e))

marked : {S : Type 0} (m n : IndexMap ImplList (Vec (ℕ × ImplId) Global) S) (of : ℕ) (j k : ImplClass) (x : ℕ × ImplId) → j ≡ k
    → ((l : ImplList) → listed_at n l ≡ (if same_list (record { of = of; class = j }) l then listed_at m l ++ x ∷ [] else listed_at m l))
    → (l : ImplList) → listed_at n l ≡ more (listed_at m l) x (of == l.of && same_class k l.class)
marked m n of j k x e p l = p l ∙ ap (λ (c : ImplClass). more (listed_at m l) x (of == l.of && same_class c l.class)) e

pub impl-once : {S : Type 0} (m n : IndexMap ImplList (Vec (ℕ × ImplId) Global) S) (of : ℕ) (g : Head) (j : ImplClass) (x : ℕ × ImplId) → j ≡ class_of g → number_class g ≡ None
    → ((l : ImplList) → listed_at n l ≡ (if same_list (record { of = of; class = j }) l then listed_at m l ++ x ∷ [] else listed_at m l))
    → (l : ImplList) → listed_at n l ≡ (if of == l.of && is_in l.class g then listed_at m l ++ x ∷ [] else listed_at m l)
impl-once m n of g j x i e p l =
    twice (listed_at m l) (listed_at n l) (listed_at n l) x (of == l.of) (same_class (class_of g) l.class) false (is_in l.class g) (marked m n of j (class_of g) x i p l) (unmarked (of == l.of) (listed_at n l) x)
    (in-class g l.class ∙ ap (λ o. same_class (class_of g) l.class || among o l.class) e) (λ s. refl)

pub impl-twice : {S : Type 0} (m n r : IndexMap ImplList (Vec (ℕ × ImplId) Global) S) (of : ℕ) (g : Head) (j k : ImplClass) (x : ℕ × ImplId) → j ≡ class_of g → number_class g ≡ Some k
    → ((l : ImplList) → listed_at n l ≡ (if same_list (record { of = of; class = j }) l then listed_at m l ++ x ∷ [] else listed_at m l))
    → ((l : ImplList) → listed_at r l ≡ (if same_list (record { of = of; class = k }) l then listed_at n l ++ x ∷ [] else listed_at n l))
    → (l : ImplList) → listed_at r l ≡ (if of == l.of && is_in l.class g then listed_at m l ++ x ∷ [] else listed_at m l)
impl-twice m n r of g j k x i e p q l =
    twice (listed_at m l) (listed_at n l) (listed_at r l) x (of == l.of) (same_class (class_of g) l.class) (same_class k l.class) (is_in l.class g)
    (marked m n of j (class_of g) x i p l) (q l) (in-class g l.class ∙ ap (λ o. same_class (class_of g) l.class || among o l.class) e)
    (λ s. sym (ap (λ o. among o l.class) e) ∙ classes-apart g l.class s)

-- The impls of a trait, one after the other
abbrev pub own_listed : Bool → List (ℕ × ImplId) → (ImplId → Bool) → List ImplId → List (ℕ × ImplId)
own_listed d o f xs = if d then o ++ places f 0 xs else o

pub none-listed : (d : Bool) (o : List (ℕ × ImplId)) (f : ImplId → Bool) → o ≡ own_listed d o f []
none-listed true o f = sym (append-nil o)
none-listed false o f = refl

pub one-listed : (d : Bool) (o ys zs : List (ℕ × ImplId)) (f : ImplId → Bool) (own : List ImplId) (n : ℕ) (x y : ImplId) (u : Bool) → n < length own → x ≡ get_or own n y
    → ys ≡ own_listed d o f (take n own) → f x ≡ u → zs ≡ more ys (n, x) (d && u) → zs ≡ own_listed d o f (take (n + 1) own)
one-listed d o ys zs f own n x y u l e p q r = by d u q p r
  where
    more-taken : take (n + 1) own ≡ take n own ++ x ∷ []
    more-taken =
        let s : n + 1 ≡ suc n = omega arith in
        ap (λ (m : ℕ). take m own) s ∙ (take-suc own n y l ∙ ap (λ z. take n own ++ z ∷ []) (sym e))

    placed-more : places f 0 (take (n + 1) own) ≡ places f 0 (take n own) ++ (if f x then (n, x) ∷ [] else [])
    placed-more =
        let k : 0 + length (take n own) ≡ n = omega (arith, length-take n own, l) in
        ap (places f 0) more-taken ∙ (places-more f 0 (take n own) x ∙ ap (λ (m : ℕ). places f 0 (take n own) ++ (if f x then (m, x) ∷ [] else [])) k)

    by : (d u : Bool) → f x ≡ u → ys ≡ own_listed d o f (take n own) → zs ≡ more ys (n, x) (d && u) → zs ≡ own_listed d o f (take (n + 1) own)
    by false u q p r = r ∙ p
    by true true q p r =
        let here : places f 0 (take (n + 1) own) ≡ places f 0 (take n own) ++ (n, x) ∷ [] =
        placed-more ∙ ap (λ (b : Bool). places f 0 (take n own) ++ (if b then (n, x) ∷ [] else [])) q in
        r ∙ (ap (λ ls. ls ++ (n, x) ∷ []) p ∙ (append_assoc o (places f 0 (take n own)) ((n, x) ∷ []) ∙ ap (λ ls. o ++ ls) (sym here)))
    by true false q p r =
        let here : places f 0 (take (n + 1) own) ≡ places f 0 (take n own) ++ [] =
        placed-more ∙ ap (λ (b : Bool). places f 0 (take n own) ++ (if b then (n, x) ∷ [] else [])) q in
        r ∙ (p ∙ ap (λ ls. o ++ ls) (sym (here ∙ append-nil (places f 0 (take n own)))))

not-that : (m n : ℕ) → n == m ≡ false → nat_lt m (n + 1) ≡ nat_lt m n
not-that m n q = search rules

not-below : (m n k : ℕ) → nat_lt m n ≡ false → k ≤ n → k ≤ m
not-below m n k q l = search rules

-- The lists of the traits before that place have their impls, the others nothing.
abbrev pub ListedSoFar : {S : Type 0} → IndexMap ImplList (Vec (ℕ × ImplId) Global) S → List Tree → List TraitContents → List Impl → ℕ → Type 0
ListedSoFar m ts traits impls n = (l : ImplList) → listed_at m l ≡ (if nat_lt l.of n then list_of ts traits impls l else [])

pub own-at : (traits : List TraitContents) (of : ℕ) (t : TraitContents) → of < length traits → t ≡ get_or traits of t → own_impls traits of ≡ t.impls
own-at traits of t l e = ap (λ o. maybe [] (λ x. x.impls) o) (slice_get-get_or traits of t l ∙ ap Some (sym e))

pub none-listed-yet : {S : Type 0} (m : IndexMap ImplList (Vec (ℕ × ImplId) Global) S) (ts : List Tree) (traits : List TraitContents) (impls : List Impl) → IsEmpty m
    → ListedSoFar m ts traits impls 0
none-listed-yet m ts traits impls e l =
    let empty : listed_at m l ≡ [] = ap (λ es. option_map_or (λ v. v.items) (lookup (same_list l) es) []) e in
    empty ∙ ap (λ (b : Bool). if b then list_of ts traits impls l else []) (sym (le-ltb l.of 0 (omega arith)))

-- one trait more
pub trait-listed : {S : Type 0} (m n : IndexMap ImplList (Vec (ℕ × ImplId) Global) S) (ts : List Tree) (traits : List TraitContents) (impls given : List Impl) (of : ℕ) (own : List ImplId)
    → own ≡ own_impls traits of → given ≡ impls → ListedSoFar m ts traits impls of
    → ((l : ImplList) → listed_at n l ≡ (if of == l.of then listed_at m l ++ places (impl_is_in ts given l.class) 0 own else listed_at m l))
    → ListedSoFar n ts traits impls (of + 1)
trait-listed m n ts traits impls given of own e g s q l = by (of == l.of) refl
  where
    p : (l : ImplList) → listed_at n l ≡ (if of == l.of then listed_at m l ++ places (impl_is_in ts impls l.class) 0 own else listed_at m l)
    p l = q l ∙ ap (λ (is : List Impl). if of == l.of then listed_at m l ++ places (impl_is_in ts is l.class) 0 own else listed_at m l) g

    by : (b : Bool) → (of == l.of) ≡ b → listed_at n l ≡ (if nat_lt l.of (of + 1) then list_of ts traits impls l else [])
    by true q =
        let o : of ≡ l.of = number-is of l.of q in
        let before : nat_lt l.of of ≡ false = le-ltb l.of of (omega (arith, o)) in
        let after : nat_lt l.of (of + 1) ≡ true = lt-ltb l.of (of + 1) (omega (arith, o)) in
        let empty : listed_at m l ≡ [] = s l ∙ ap (λ (b : Bool). if b then list_of ts traits impls l else []) before in
        let here : listed_at n l ≡ places (impl_is_in ts impls l.class) 0 own =
        p l ∙ (ap (λ (b : Bool). if b then listed_at m l ++ places (impl_is_in ts impls l.class) 0 own else listed_at m l) q
        ∙ ap (λ xs. xs ++ places (impl_is_in ts impls l.class) 0 own) empty) in
        here ∙ (ap (places (impl_is_in ts impls l.class) 0) (e ∙ ap (own_impls traits) o) ∙ ap (λ (b : Bool). if b then list_of ts traits impls l else []) (sym after))
    by false q =
        let same : nat_lt l.of (of + 1) ≡ nat_lt l.of of = not-that l.of of q in
        p l ∙ (ap (λ (b : Bool). if b then listed_at m l ++ places (impl_is_in ts impls l.class) 0 own else listed_at m l) q
        ∙ (s l ∙ ap (λ (b : Bool). if b then list_of ts traits impls l else []) (sym same)))

pub all-listed : {S : Type 0} (m : IndexMap ImplList (Vec (ℕ × ImplId) Global) S) (ts : List Tree) (traits : List TraitContents) (impls : List Impl) (n : ℕ)
    → length traits ≤ n → ListedSoFar m ts traits impls n → AreListed m ts traits impls
unfolding AreListed
all-listed m ts traits impls n e s = λ l. by l (nat_lt l.of n) refl
  where
    by : (l : ImplList) (b : Bool) → nat_lt l.of n ≡ b → listed_at m l ≡ list_of ts traits impls l
    by l true q = s l ∙ ap (λ (b : Bool). if b then list_of ts traits impls l else []) q
    by l false q =
        let past : length traits ≤ l.of = not-below l.of n (length traits) q e in
        let none : own_impls traits l.of ≡ [] = ap (λ o. maybe [] (λ t. t.impls) o) (slice_get_past traits l.of past) in
        s l ∙ (ap (λ (b : Bool). if b then list_of ts traits impls l else []) q ∙ sym (ap (places (impl_is_in ts impls l.class) 0) none))
