-- Elaborations: there is one where supertraits have a rank, and only one.
use Rattle.std.proofs.Common.{◌≡◌, ℕ, zero, suc, ◌+◌, ◌<◌, ◌≤◌, List, [], ◌∷◌, ◌++◌, Bool, true, false, Option, Some, None, refl, sym, ◌∙◌, ap, subst, arith}
use Rattle.std.specs.Prelude.{map, if◌then◌else◌, ◌&&◌}
use Rattle.ir_trees.specs.declared.ir.heads.Head.{Head}
use Rattle.ir_trees.specs.Syntax.Trees.{Forest, none, tree, Tree}
use Rattle.ir_trees.specs.Unification.Unify.{same_head}
use Rattle.ir_trees.specs.Hierarchy.Supertraits.{head_trait}
use Rattle.ir_trees.specs.Hierarchy.Elaboration.{implied, SuperClauses, supers_if, implied_by, same_forest, same_tree, lists, unlisted, Elaborates, ended, step, IsLower, AreLower, IsRank}
use Rattle.ir_trees.proofs.Syntax.Equal.{head_is, head_itself}

-- It has at most one result.
pub one_elaboration : {supers : SuperClauses} {walked left a b : List Tree} → Elaborates supers walked left a → Elaborates supers walked left b → a ≡ b
one_elaboration ended ended = refl
one_elaboration (step x) (step y) = one_elaboration x y

-- The equality of trees decides.
and-both : (a b : Bool) → (a && b) ≡ true → (a ≡ true) × (b ≡ true)
and-both true b e = (refl, e)
and-both false b e = absurd cc

pub forest_is : (a b : Forest) → same_forest a b ≡ true → a ≡ b
forest_is none none e = refl
forest_is (tree h a r) (tree g b s) e =
    let x = and-both (same_head h g) (same_forest a b && same_forest r s) e in
    let y = and-both (same_forest a b) (same_forest r s) x.1 in
    let k : h ≡ g = head_is h g x.0 in
    let l : a ≡ b = forest_is a b y.0 in
    let m : r ≡ s = forest_is r s y.1 in cc
forest_is none (tree g b s) e = absurd cc
forest_is (tree h a r) none e = absurd cc

both : (a b : Bool) → a ≡ true → b ≡ true → (a && b) ≡ true
both true b e f = f
both false b e f = absurd cc

pub forest_itself : (a : Forest) → same_forest a a ≡ true
forest_itself none = refl
forest_itself (tree h a r) = both (same_head h h) _ (head_itself h) (both (same_forest a a) _ (forest_itself a) (forest_itself r))

-- What a row of clauses weighs.
abbrev pub total : (Head → ℕ) → List Tree → ℕ
total f [] = 0
total f (t ∷ ts) = f t.head + total f ts

-- A clause weighs one more than its super clauses together, as far down as is asked.
abbrev pub weigh : SuperClauses → ℕ → Head → ℕ
weigh supers zero h = 1
weigh supers (suc n) h = suc (total (weigh supers n) (supers_if supers (head_trait h)))

total-both : (f : Head → ℕ) (ts us : List Tree) → total f (ts ++ us) ≡ total f ts + total f us
total-both f [] us = omega arith
total-both f (t ∷ ts) us = let e = total-both f ts us in omega (arith, e)

-- instances weigh what the super clauses do
total-implied : (f : Head → ℕ) (t : Tree) (ss : List Tree) → total f (map (implied t) ss) ≡ total f ss
total-implied f t [] = refl
total-implied f t (s ∷ ss) = ap (λ (n : ℕ). f s.head + n) (total-implied f t ss)

listed-or-not : (f : Head → ℕ) (t : Tree) (ts us vs : List Tree) (b : Bool) → total f us ≤ total f ts → total f vs ≤ total f ts
    → total f (if b then us else t ∷ vs) ≤ f t.head + total f ts
listed-or-not f t ts us vs true h k = omega arith
listed-or-not f t ts us vs false h k = omega arith

total-unlisted : (f : Head → ℕ) (seen ts : List Tree) → total f (unlisted seen ts) ≤ total f ts
total-unlisted f seen [] = omega arith
total-unlisted f seen (t ∷ ts) =
    listed-or-not f t ts (unlisted seen ts) (unlisted (seen ++ t ∷ []) ts) (lists seen t) (total-unlisted f seen ts) (total-unlisted f (seen ++ t ∷ []) ts)

-- Below a rank, a clause weighs the same however much further down is asked.
less : (rank : ℕ → ℕ) (m n : ℕ) (o : Option ℕ) → m ≤ n → IsLower rank m o → IsLower rank n o
less rank m n None h l = tt
less rank m n (Some i) h l = omega arith

all-less : (rank : ℕ → ℕ) (m n : ℕ) (ts : List Tree) → m ≤ n → AreLower rank m ts → AreLower rank n ts
all-less rank m n [] h l = tt
all-less rank m n (t ∷ ts) h l = (less rank m n (head_trait t.head) h l.0, all-less rank m n ts h l.1)

-- the super clauses of a clause below a rank are below the next lower one
below : (supers : SuperClauses) (rank : ℕ → ℕ) (m : ℕ) (o : Option ℕ) → IsRank supers rank → IsLower rank (suc m) o → AreLower rank m (supers_if supers o)
below supers rank m None r l = tt
below supers rank m (Some i) r l = all-less rank (rank i) m (supers i) (omega arith) (r.lower i)

nothing-below : (supers : SuperClauses) (rank : ℕ → ℕ) (o : Option ℕ) → IsLower rank 0 o → supers_if supers o ≡ []
nothing-below supers rank None l = refl
nothing-below supers rank (Some i) l = absurd (omega arith)

total-same : (f g : Head → ℕ) (rank : ℕ → ℕ) (n : ℕ) → ((h : Head) → IsLower rank n (head_trait h) → f h ≡ g h) → (ts : List Tree) → AreLower rank n ts → total f ts ≡ total g ts
total-same f g rank n e [] l = refl
total-same f g rank n e (t ∷ ts) l = let a = e t.head l.0 in let b = total-same f g rank n e ts l.1 in omega (arith, a, b)

steady : (supers : SuperClauses) (rank : ℕ → ℕ) → IsRank supers rank → (n : ℕ) (h : Head) → IsLower rank n (head_trait h) → weigh supers (suc n) h ≡ weigh supers n h
steady supers rank r zero h l = ap (λ (ts : List Tree). suc (total (weigh supers 0) ts)) (nothing-below supers rank (head_trait h) l)
steady supers rank r (suc n) h l =
    ap suc (total-same (weigh supers (suc n)) (weigh supers n) rank n (steady supers rank r n) (supers_if supers (head_trait h)) (below supers rank n (head_trait h) r l))

-- what a clause implies weighs less than it
implied-weigh : (supers : SuperClauses) (rank : ℕ → ℕ) → IsRank supers rank → (n : ℕ) (t : Tree) → IsLower rank n (head_trait t.head)
    → total (weigh supers n) (implied_by supers t) < weigh supers n t.head
implied-weigh supers rank r n t l =
    let e = steady supers rank r n t.head l in
    let i = total-implied (weigh supers n) t (supers_if supers (head_trait t.head)) in
    omega (arith, e, i)

-- so the row still to be walked gets lighter
lighter : (supers : SuperClauses) (rank : ℕ → ℕ) → IsRank supers rank → (n : ℕ) (seen left : List Tree) (t : Tree) → IsLower rank n (head_trait t.head)
    → total (weigh supers n) (left ++ unlisted seen (implied_by supers t)) < total (weigh supers n) (t ∷ left)
lighter supers rank r n seen left t l =
    let a = total-both (weigh supers n) left (unlisted seen (implied_by supers t)) in
    let b = total-unlisted (weigh supers n) seen (implied_by supers t) in
    let d = implied-weigh supers rank r n t l in
    omega (arith, a, b, d)

lower-both : (rank : ℕ → ℕ) (n : ℕ) (ts us : List Tree) → AreLower rank n ts → AreLower rank n us → AreLower rank n (ts ++ us)
lower-both rank n [] us l k = k
lower-both rank n (t ∷ ts) us l k = (l.0, lower-both rank n ts us l.1 k)

lower-implied : (rank : ℕ → ℕ) (n : ℕ) (t : Tree) (ss : List Tree) → AreLower rank n ss → AreLower rank n (map (implied t) ss)
lower-implied rank n t [] l = tt
lower-implied rank n t (s ∷ ss) l = (l.0, lower-implied rank n t ss l.1)

lower-if : (rank : ℕ → ℕ) (n : ℕ) (t : Tree) (us vs : List Tree) (b : Bool) → IsLower rank n (head_trait t.head) → AreLower rank n us → AreLower rank n vs
    → AreLower rank n (if b then us else t ∷ vs)
lower-if rank n t us vs true l k m = k
lower-if rank n t us vs false l k m = (l, m)

lower-unlisted : (rank : ℕ → ℕ) (n : ℕ) (seen ts : List Tree) → AreLower rank n ts → AreLower rank n (unlisted seen ts)
lower-unlisted rank n seen [] l = tt
lower-unlisted rank n seen (t ∷ ts) l =
    lower-if rank n t (unlisted seen ts) (unlisted (seen ++ t ∷ []) ts) (lists seen t) l.0 (lower-unlisted rank n seen ts l.1) (lower-unlisted rank n (seen ++ t ∷ []) ts l.1)

lower-implied_by : (supers : SuperClauses) (rank : ℕ → ℕ) → IsRank supers rank → (n : ℕ) (t : Tree) → IsLower rank n (head_trait t.head) → AreLower rank n (implied_by supers t)
lower-implied_by supers rank r zero t l = subst (λ (ss : List Tree). AreLower rank 0 (map (implied t) ss)) (sym (nothing-below supers rank (head_trait t.head) l)) tt
lower-implied_by supers rank r (suc n) t l =
    lower-implied rank (suc n) t (supers_if supers (head_trait t.head)) (all-less rank n (suc n) (supers_if supers (head_trait t.head)) (omega arith) (below supers rank n (head_trait t.head) r l))

-- Where traits have a rank, a row of clauses below one has an elaboration.
pub record HasElaboration (supers : SuperClauses) (walked left : List Tree) : Type 0 where
  pub all : List Tree
  pub elaborates : Elaborates supers walked left all

walks : (supers : SuperClauses) (rank : ℕ → ℕ) → IsRank supers rank → (n k : ℕ) (walked left : List Tree) → total (weigh supers n) left < k → AreLower rank n left
    → HasElaboration supers walked left
walks supers rank r n zero walked left h l = absurd (omega arith)
walks supers rank r n (suc k) walked [] h l = record { all = walked; elaborates = ended }
walks supers rank r n (suc k) walked (t ∷ left) h l =
    let seen = walked ++ t ∷ left in
    let d = lighter supers rank r n seen left t l.0 in
    let x = walks supers rank r n k (walked ++ t ∷ []) (left ++ unlisted seen (implied_by supers t)) (omega (arith, h, d))
    (lower-both rank n left (unlisted seen (implied_by supers t)) l.1 (lower-unlisted rank n seen (implied_by supers t) (lower-implied_by supers rank r n t l.0))) in
    record { all = x.all; elaborates = step x.elaborates }

-- some rank is above all of a row
above-one : (rank : ℕ → ℕ) (o : Option ℕ) → (n : ℕ) × IsLower rank n o
above-one rank None = (0, tt)
above-one rank (Some i) = (suc (rank i), omega arith)

above : (rank : ℕ → ℕ) (ts : List Tree) → (n : ℕ) × AreLower rank n ts
above rank [] = (0, tt)
above rank (t ∷ ts) =
    let a = above-one rank (head_trait t.head) in
    let b = above rank ts in
    (a.0 + b.0, (less rank a.0 (a.0 + b.0) (head_trait t.head) (omega arith) a.1, all-less rank b.0 (a.0 + b.0) ts (omega arith) b.1))

-- Where traits have a rank, all clauses have an elaboration.
pub has_elaboration : (supers : SuperClauses) (rank : ℕ → ℕ) → IsRank supers rank → (walked left : List Tree) → HasElaboration supers walked left
has_elaboration supers rank r walked left =
    let a = above rank left in
    walks supers rank r a.0 (suc (total (weigh supers a.0) left)) walked left (omega arith) a.1

pub tree_is : (t u : Tree) → same_tree t u ≡ true → t ≡ u
tree_is t u e =
    let x = and-both (same_head t.head u.head) (same_forest t.children u.children) e in
    let h = head_is t.head u.head x.0 in
    let f = forest_is t.children u.children x.1 in
    ap (λ (g : Head). let v : Tree = record { head = g; children = t.children } in v) h ∙ ap (λ (b : Forest). let v : Tree = record { head = u.head; children = b } in v) f

pub tree_itself : (t : Tree) → same_tree t t ≡ true
tree_itself t = both (same_head t.head t.head) _ (head_itself t.head) (forest_itself t.children)
