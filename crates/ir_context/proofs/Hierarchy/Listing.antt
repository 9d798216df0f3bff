-- Lists of clauses in which no tree stands twice, one clause more after the other.
use Rattle.std.proofs.Common.{◌≡◌, ◌↔◌, ℕ, zero, suc, ◌+◌, ◌<◌, ◌≤◌, List, [], ◌∷◌, ◌++◌, length, get_or, take, Bool, true, false, IsTrue, refl, sym, ◌∙◌, ap, subst, arith, append_assoc}
use Rattle.std.specs.Prelude.{map, ◌||◌, Option, Some, None, if◌then◌else◌, nat_eq, slice_get}
use Rattle.std.specs.Cmp.{unsigned_Decides}
use Rattle.std.specs.List.{list_any}
use Rattle.indexmap.specs.IndexSet.{insert_key}
use Rattle.ir_trees.specs.Syntax.Nodes.{tree_at}
use Rattle.ir_trees.specs.Syntax.Table.{AreDistinct}
use Rattle.ir_trees.specs.contracts.ir.kinds.ClausePartialEq.TheImpl.{eq-value}
use Rattle.std.proofs.lemmas.List.{append-nil, map_push, take_more, take_all, length-map}
use Rattle.ir_trees.specs.declared.ir.kinds.Clause.{Clause}
use Rattle.ir_trees.specs.Syntax.Trees.{Forest, Tree, ClauseKind, BinderKind}
use Rattle.ir_trees.specs.Declarations.Context.{Context, Grows}
use Rattle.ir_trees.specs.Declarations.Contents.{TraitContents}
use Rattle.ir_trees.specs.Declarations.Declaring.{trait_at}
use Rattle.ir_trees.specs.Declarations.Lookups.{maybe}
use Rattle.ir_trees.specs.Hierarchy.Supers.{supers_at}
use Rattle.ir_trees.proofs.Syntax.Lists.{below_kind}
use Rattle.ir_trees.proofs.Growth.Kept.{number-kept, args-kept, grows-refl, grows-trans}
use Rattle.ir_trees.specs.Syntax.Nodes.{kind_at, Extends}
use Rattle.ir_trees.specs.declared.ir.kinds.Vars.{Vars}
use Rattle.ir_trees.specs.declared.ir.kinds.Args.{Args}
use Rattle.ir_trees.specs.Syntax.Words.{IsClause, IsVars, IsArgs, ClauseListFits, clause_tree, vars_tree, args_forest}
use Rattle.ir_trees.specs.Hierarchy.Elaboration.{same_tree, is_same_clause, lists, unlisted, instance, super_clauses}
use Rattle.ir_trees.specs.declared.ir.stop.Stop.{Stop}
use Rattle.ir_trees.specs.Hierarchy.Elaboration.{IsInstanceStop, IsUnmade}
use Rattle.ir_context.proofs.Hierarchy.Elaboration.{tree_is, tree_itself}

abbrev same_clause : Clause → Clause → Bool
same_clause = eq-value.it

pub same_says : (ts : List Tree) (c x : Clause) (b : Bool) → IsTrue b ↔ (clause_tree ts x ≡ clause_tree ts c) → b ≡ is_same_clause ts c x
same_says ts c x true e = sym (ap (same_tree (clause_tree ts x)) (sym (e.0 refl)) ∙ tree_itself (clause_tree ts x))
same_says ts c x false e = of (is_same_clause ts c x) refl
  where
    of : (b : Bool) → is_same_clause ts c x ≡ b → false ≡ is_same_clause ts c x
    of true q = let t : IsTrue false = e.1 (tree_is (clause_tree ts x) (clause_tree ts c) q) in absurd cc
    of false q = sym q

pub listed_clause : (ts : List Tree) (xs : List Clause) (i : ℕ) (x : Clause) → ClauseListFits ts xs → i < length xs → x ≡ get_or xs i x → IsClause ts x
listed_clause ts [] i x f l e = absurd (omega (arith, l))
listed_clause ts (y ∷ ys) zero x f l e = let here : kind_at ts y.0 ≡ ClauseKind = cc in ap (λ (z : Clause). kind_at ts z.0) e ∙ here
listed_clause ts (y ∷ ys) (suc i) x f l e =
    let g : ClauseListFits ts ys = cc in
    let m : i < length ys = omega (arith, l) in
    listed_clause ts ys i x g m e

-- the same over the trees
lists-of : (ts : List Tree) (c : Clause) (xs : List Clause) → list_any (is_same_clause ts c) xs ≡ lists (map (clause_tree ts) xs) (clause_tree ts c)
lists-of ts c [] = refl
lists-of ts c (x ∷ xs) = ap (λ b. is_same_clause ts c x || b) (lists-of ts c xs)

pub pushed_fits : (ts : List Tree) (xs ys : List Clause) (c : Clause) → ClauseListFits ts xs → IsClause ts c → ys ≡ xs ++ c ∷ [] → ClauseListFits ts ys
pushed_fits ts xs ys c f k e = subst (ClauseListFits ts) (sym e) (more xs f)
  where
    more : (zs : List Clause) → ClauseListFits ts zs → ClauseListFits ts (zs ++ c ∷ [])
    more [] g = ap (λ x. x ∷ []) k
    more (z ∷ zs) g = let here : kind_at ts z.0 ≡ ClauseKind = cc in let rest = more zs cc in cc

-- one that isn't listed yet, and one that is
pub pushed_unlisted : (ts : List Tree) (xs ys : List Clause) (c : Clause) (b : Bool) → b ≡ list_any (is_same_clause ts c) xs → b ≡ false → ys ≡ xs ++ c ∷ []
    → map (clause_tree ts) ys ≡ map (clause_tree ts) xs ++ unlisted (map (clause_tree ts) xs) (clause_tree ts c ∷ [])
pushed_unlisted ts xs ys c b e n p =
    let none : lists (map (clause_tree ts) xs) (clause_tree ts c) ≡ false = sym (lists-of ts c xs) ∙ (sym e ∙ n) in
    let one : unlisted (map (clause_tree ts) xs) (clause_tree ts c ∷ []) ≡ clause_tree ts c ∷ [] = rw none refl in
    ap (map (clause_tree ts)) p ∙ (map_push (clause_tree ts) xs c ∙ ap (λ (us : List Tree). map (clause_tree ts) xs ++ us) (sym one))

pub left_unlisted : (ts : List Tree) (xs : List Clause) (c : Clause) (b : Bool) → b ≡ list_any (is_same_clause ts c) xs → b ≡ true
    → map (clause_tree ts) xs ≡ map (clause_tree ts) xs ++ unlisted (map (clause_tree ts) xs) (clause_tree ts c ∷ [])
left_unlisted ts xs c b e n =
    let there : lists (map (clause_tree ts) xs) (clause_tree ts c) ≡ true = sym (lists-of ts c xs) ∙ (sym e ∙ n) in
    let nothing : unlisted (map (clause_tree ts) xs) (clause_tree ts c ∷ []) ≡ [] = rw there refl in
    sym (ap (λ (us : List Tree). map (clause_tree ts) xs ++ us) nothing ∙ append-nil (map (clause_tree ts) xs))

-- Equal clauses have one number, so that numbers say whether a clause is listed.
equal-numbers : (ts : List Tree) (c x : Clause) → AreDistinct ts → IsClause ts c → IsClause ts x → nat_eq c.0 x.0 ≡ is_same_clause ts c x
equal-numbers ts c x a h g = same_says ts c x (nat_eq c.0 x.0) (
  (λ e. ap (tree_at ts) (sym ((unsigned_Decides c.0 x.0).0 e))),
  (λ e. (unsigned_Decides c.0 x.0).1 (sym (a x.0 c.0 (below_kind ts x.0 ClauseKind refl g) (below_kind ts c.0 ClauseKind refl h) e))),
)

listed-number : (ts : List Tree) (c : Clause) (xs : List Clause) → AreDistinct ts → IsClause ts c → ClauseListFits ts xs
    → list_any (same_clause c) xs ≡ list_any (is_same_clause ts c) xs
listed-number ts c [] a h f = refl
listed-number ts c (x ∷ xs) a h f =
    let here : kind_at ts x.0 ≡ ClauseKind = cc in
    let others : ClauseListFits ts xs = cc in
    let p = equal-numbers ts c x a h here in
    let q = listed-number ts c xs a h others in
    λ i. p i || q i

-- a clause put into a set of those that are listed
pub inserted : (ts : List Tree) (xs ys : List Clause) (c : Clause) → AreDistinct ts → IsClause ts c → ClauseListFits ts xs → ys ≡ insert_key same_clause xs c
    → ClauseListFits ts ys × (map (clause_tree ts) ys ≡ map (clause_tree ts) xs ++ unlisted (map (clause_tree ts) xs) (clause_tree ts c ∷ []))
inserted ts xs ys c a h f e = by (list_any (same_clause c) xs) refl
  where
    by : (b : Bool) → list_any (same_clause c) xs ≡ b
        → ClauseListFits ts ys × (map (clause_tree ts) ys ≡ map (clause_tree ts) xs ++ unlisted (map (clause_tree ts) xs) (clause_tree ts c ∷ []))
    by true q =
        let s : ys ≡ xs = e ∙ ap (λ (b : Bool). if b then xs else xs ++ c ∷ []) q in
        (subst (ClauseListFits ts) (sym s) f, ap (map (clause_tree ts)) s ∙ left_unlisted ts xs c true (sym q ∙ listed-number ts c xs a h f) refl)
    by false q =
        let s : ys ≡ xs ++ c ∷ [] = e ∙ ap (λ (b : Bool). if b then xs else xs ++ c ∷ []) q in
        (pushed_fits ts xs ys c f h s, pushed_unlisted ts xs ys c false (sym q ∙ listed-number ts c xs a h f) refl s)

-- what is unlisted of more
abbrev MoreUnlisted : List Tree → List Tree → Tree → Type 0
MoreUnlisted seen ts t = unlisted seen (ts ++ t ∷ []) ≡ unlisted seen ts ++ unlisted (seen ++ unlisted seen ts) (t ∷ [])

more-if : (seen ts : List Tree) (t u : Tree) (b : Bool) → lists seen u ≡ b → MoreUnlisted seen ts t → MoreUnlisted (seen ++ u ∷ []) ts t → MoreUnlisted seen (u ∷ ts) t
more-if seen ts t u true q a b = rw q a
more-if seen ts t u false q a b =
    rw q
    (ap (λ (xs : List Tree). u ∷ xs)
    (b ∙ ap (λ (xs : List Tree). unlisted (seen ++ u ∷ []) ts ++ unlisted xs (t ∷ [])) (append_assoc seen (u ∷ []) (unlisted (seen ++ u ∷ []) ts))))

pub unlisted_more : (seen ts : List Tree) (t : Tree) → MoreUnlisted seen ts t
unlisted_more seen [] t = ap (λ (xs : List Tree). unlisted xs (t ∷ [])) (sym (append-nil seen))
unlisted_more seen (u ∷ ts) t = more-if seen ts t u (lists seen u) refl (unlisted_more seen ts t) (unlisted_more (seen ++ u ∷ []) ts t)

-- the clauses so far, each once
pub record EachOnce (ts : List Tree) (clauses : List Clause) (i : ℕ) (list : List Clause) : Type 0 where
  pub fit : ClauseListFits ts list
  pub trees : map (clause_tree ts) list ≡ unlisted [] (map (clause_tree ts) (take i clauses))

pub none_once : (ts : List Tree) (clauses : List Clause) → EachOnce ts clauses 0 []
none_once ts clauses = record { fit = refl; trees = refl }

pub one_more_once : (ts : List Tree) (clauses old new : List Clause) (i : ℕ) (c : Clause) → EachOnce ts clauses i old → i < length clauses → c ≡ get_or clauses i c
    → ClauseListFits ts new → map (clause_tree ts) new ≡ map (clause_tree ts) old ++ unlisted (map (clause_tree ts) old) (clause_tree ts c ∷ []) → EachOnce ts clauses (i + 1) new
one_more_once ts clauses old new i c o l e f n =
    let f-more : map (clause_tree ts) (take (i + 1) clauses) ≡ map (clause_tree ts) (take i clauses) ++ clause_tree ts c ∷ [] =
    ap (map (clause_tree ts)) (take_more clauses i c l ∙ ap (λ (x : Clause). take i clauses ++ x ∷ []) (sym e)) ∙ map_push (clause_tree ts) (take i clauses) c in
    let all = unlisted_more [] (map (clause_tree ts) (take i clauses)) (clause_tree ts c) in
    record {
      fit = f;
      trees = n ∙ (ap (λ (us : List Tree). us ++ unlisted us (clause_tree ts c ∷ [])) o.trees ∙ sym (ap (unlisted []) f-more ∙ all));
    }

pub all_unlisted : (ts : List Tree) (clauses list : List Clause) (i : ℕ) → EachOnce ts clauses i list → length clauses ≤ i
    → map (clause_tree ts) list ≡ unlisted [] (map (clause_tree ts) clauses)
all_unlisted ts clauses list i o l = o.trees ∙ ap (λ (xs : List Clause). unlisted [] (map (clause_tree ts) xs)) (take_all i clauses l)

or-true-left : (a b : Bool) → a ≡ true → a || b ≡ true
or-true-left true b e = refl
or-true-left false b e = absurd cc

or-true-right : (a b : Bool) → b ≡ true → a || b ≡ true
or-true-right true b e = refl
or-true-right false b e = e

-- Clauses stay what they are while a table grows.
pub clauses_kept : (old new : List Tree) (xs : List Clause) → Extends old new → ClauseListFits old xs
    → ClauseListFits new xs × (map (clause_tree new) xs ≡ map (clause_tree old) xs)
clauses_kept old new [] e f = (refl, refl)
clauses_kept old new (x ∷ xs) e f =
    let here : kind_at old x.0 ≡ ClauseKind = cc in
    let others : ClauseListFits old xs = cc in
    let k = number-kept old new x.0 e (below_kind old x.0 ClauseKind refl here) in
    let rest = clauses_kept old new xs e others in
    let now : kind_at new x.0 ≡ ClauseKind = k.0 ∙ here in
    let all : ClauseListFits new xs = rest.0 in
    (cc, ap (λ (t : Tree). t ∷ map (clause_tree new) xs) k.1 ∙ ap (λ (us : List Tree). clause_tree old x ∷ us) rest.1)

-- The instances of a trait's super clauses so far, each unless it was listed, behind what was listed before.
pub record SupersSoFar (start now : Context) (before list : List Clause) (v a : Forest) (i k : ℕ) : Type 0 where
  pub grows : Grows start now
  pub fit : ClauseListFits now.trees list
  pub trees : map (clause_tree now.trees) list
      ≡ map (clause_tree start.trees) before ++ unlisted (map (clause_tree start.trees) before) (take k (map (instance v a) (super_clauses start i)))

pub no_supers : (start : Context) (before : List Clause) (v a : Forest) (i : ℕ) → ClauseListFits start.trees before → SupersSoFar start start before before v a i 0
no_supers start before v a i f = record {
  grows = grows-refl start;
  fit = f;
  trees = sym (append-nil (map (clause_tree start.trees) before));
}

supers-same : (start now : Context) (i : ℕ) → Grows start now → supers_at (trait_at now i) ≡ supers_at (trait_at start i)
supers-same start now i g = ap (λ (c : Context). supers_at (trait_at c i)) g.same

taken-past : {X : Type 0} (xs : List X) (k : ℕ) → length xs ≤ k → take (k + 1) xs ≡ take k xs
taken-past xs k l = take_all (k + 1) xs (omega (arith, l)) ∙ sym (take_all k xs l)

none-past : {X : Type 0} (xs : List X) (k : ℕ) → slice_get xs k ≡ None → length xs ≤ k
none-past [] k e = omega arith
none-past (x ∷ xs) zero e = absurd cc
none-past (x ∷ xs) (suc k) e = let l = none-past xs k e in omega (arith, l)

pub some-inside : {X : Type 0} (xs : List X) (k : ℕ) (x : X) → slice_get xs k ≡ Some x → (k < length xs) × (x ≡ get_or xs k x)
some-inside [] k x e = absurd cc
some-inside (y ∷ ys) zero x e = let same : y ≡ x = cc in (omega arith, sym same)
some-inside (y ∷ ys) (suc k) x e = let r = some-inside ys k x e in (omega (arith, r.0), r.1)

pub no_more_supers : (start now : Context) (before list : List Clause) (v a : Forest) (i k : ℕ) → SupersSoFar start now before list v a i k
    → None ≡ slice_get (supers_at (trait_at now i)) k → SupersSoFar start now before list v a i (k + 1)
no_more_supers start now before list v a i k s e =
    let past : length (supers_at (trait_at start i)) ≤ k = none-past _ k (ap (λ (xs : List Clause). slice_get xs k) (sym (supers-same start now i s.grows)) ∙ sym e) in
    let clauses = length-map (supers_at (trait_at start i)) (clause_tree start.trees) in
    let instances = length-map (super_clauses start i) (instance v a) in
    let same = taken-past (map (instance v a) (super_clauses start i)) k (omega (arith, past, clauses, instances)) in
    record {
      grows = s.grows;
      fit = s.fit;
      trees = s.trees ∙ ap (λ (ts : List Tree). map (clause_tree start.trees) before ++ unlisted (map (clause_tree start.trees) before) ts) (sym same);
    }

maps-both : (ts : List Tree) (v a : Forest) (ys : List Clause) → map (λ (c : Clause). instance v a (clause_tree ts c)) ys ≡ map (instance v a) (map (clause_tree ts) ys)
maps-both ts v a [] = refl
maps-both ts v a (y ∷ ys) = ap (λ (us : List Tree). instance v a (clause_tree ts y) ∷ us) (maps-both ts v a ys)

map-take : (h : Clause → Tree) (ys : List Clause) (n : ℕ) (y : Clause) → n < length ys → y ≡ get_or ys n y → take (suc n) (map h ys) ≡ take n (map h ys) ++ h y ∷ []
map-take h [] n y l q = absurd (omega (arith, l))
map-take h (z ∷ zs) zero y l q = ap (λ (w : Clause). h w ∷ []) (sym q)
map-take h (z ∷ zs) (suc n) y l q = ap (λ (us : List Tree). h z ∷ us) (let m : n < length zs = omega (arith, l) in map-take h zs n y m q)

pub one_more_super : (start now new : Context) (before old list : List Clause) (v a : Forest) (i k : ℕ) (own x : Clause) → SupersSoFar start now before old v a i k → Grows now new
    → ClauseListFits new.trees list
    → map (clause_tree new.trees) list ≡ map (clause_tree new.trees) old ++ unlisted (map (clause_tree new.trees) old) (clause_tree new.trees x ∷ [])
    → clause_tree new.trees x ≡ instance v a (clause_tree now.trees own) → Some own ≡ slice_get (supers_at (trait_at now i)) k → ClauseListFits start.trees (supers_at (trait_at start i))
    → SupersSoFar start new before list v a i (k + 1)
one_more_super start now new before old list v a i k own x s g f t is e supers =
    let xs = supers_at (trait_at start i) in
    let at = some-inside xs k own (ap (λ (ys : List Clause). slice_get ys k) (sym (supers-same start now i s.grows)) ∙ sym e) in
    let kept : clause_tree now.trees own ≡ clause_tree start.trees own =
    (number-kept start.trees now.trees own.0 s.grows.kept (below_kind start.trees own.0 ClauseKind refl (listed_clause start.trees xs k own supers at.0 at.1))).1 in
    let made : clause_tree new.trees x ≡ instance v a (clause_tree start.trees own) = is ∙ ap (instance v a) kept in
    let was : map (clause_tree new.trees) old ≡ map (clause_tree now.trees) old = (clauses_kept now.trees new.trees old g.kept s.fit).1 in
    let L : List Tree = map (clause_tree start.trees) before in
    let ts : List Tree = map (instance v a) (super_clauses start i) in
    let so-far : map (clause_tree new.trees) old ≡ L ++ unlisted L (take k ts) = was ∙ s.trees in
    let one : k + 1 ≡ suc k = omega arith in
    let f-own : Clause → Tree = λ c. instance v a (clause_tree start.trees c) in
    let next : take (suc k) (map f-own xs) ≡ take k (map f-own xs) ++ instance v a (clause_tree start.trees own) ∷ [] = map-take f-own xs k own at.0 at.1 in
    let both : map f-own xs ≡ ts = maps-both start.trees v a xs in
    let more : take (k + 1) ts ≡ take k ts ++ instance v a (clause_tree start.trees own) ∷ [] =
    ap (λ (m : ℕ). take m ts) one ∙ subst (λ (us : List Tree). take (suc k) us ≡ take k us ++ instance v a (clause_tree start.trees own) ∷ []) both next in
    record {
      grows = grows-trans start now new s.grows g;
      fit = f;
      trees = t ∙ (ap (λ (us : List Tree). us ++ unlisted us (clause_tree new.trees x ∷ [])) so-far
          ∙ (ap (λ (u : Tree). (L ++ unlisted L (take k ts)) ++ unlisted (L ++ unlisted L (take k ts)) (u ∷ [])) made
          ∙ (append_assoc L (unlisted L (take k ts)) (unlisted (L ++ unlisted L (take k ts)) (instance v a (clause_tree start.trees own) ∷ []))
          ∙ (ap (λ (us : List Tree). L ++ us) (sym (unlisted_more L (take k ts) (instance v a (clause_tree start.trees own))))
          ∙ ap (λ (us : List Tree). L ++ unlisted L us) (sym more)))));
    }

-- all of them
pub all_supers : (start now : Context) (before list : List Clause) (v a : Forest) (i k : ℕ) → SupersSoFar start now before list v a i k → length (supers_at (trait_at start i)) ≤ k
    → map (clause_tree now.trees) list ≡ map (clause_tree start.trees) before ++ unlisted (map (clause_tree start.trees) before) (map (instance v a) (super_clauses start i))
all_supers start now before list v a i k s l =
    let clauses = length-map (supers_at (trait_at start i)) (clause_tree start.trees) in
    let instances = length-map (super_clauses start i) (instance v a) in
    s.trees ∙ ap (λ (ts : List Tree). map (clause_tree start.trees) before ++ unlisted (map (clause_tree start.trees) before) ts)
    (take_all k (map (instance v a) (super_clauses start i)) (omega (arith, l, clauses, instances)))

pub vars_kept : (old new : Context) (v : Vars) → Grows old new → IsVars old.trees v → IsVars new.trees v × (vars_tree new.trees v ≡ vars_tree old.trees v)
vars_kept old new v g h =
    let k = number-kept old.trees new.trees v.0 g.kept (below_kind old.trees v.0 BinderKind refl h) in
    (k.0 ∙ h, k.1)

-- an instance over the same variables and arguments
pub instance_kept : (old new : Context) (v : Vars) (a : Args) (t : Tree) → Grows old new → IsVars old.trees v → IsArgs old.trees a
    → instance (vars_tree new.trees v).children (args_forest new.trees a) t ≡ instance (vars_tree old.trees v).children (args_forest old.trees a) t
instance_kept old new v a t g h i =
    ap (λ (u : Tree). instance u.children (args_forest new.trees a) t) (vars_kept old new v g h).1
    ∙ ap (λ (b : Forest). instance (vars_tree old.trees v).children b t) (args-kept old new a g i).1

-- the super clauses that were read at the start
pub supers_read : (c d : Context) (i : ℕ) (xs : List Clause) → d ≡ c → xs ≡ maybe [] (λ (t : TraitContents). t.supers) (trait_at d i) → ClauseListFits d.trees xs
    → (xs ≡ supers_at (trait_at c i)) × ClauseListFits c.trees (supers_at (trait_at c i))
supers_read c d i xs q e f =
    let same : xs ≡ supers_at (trait_at c i) = e ∙ (is (trait_at d i) ∙ ap (λ (x : Context). supers_at (trait_at x i)) q) in
    let there : ClauseListFits c.trees xs = subst (λ (x : Context). ClauseListFits x.trees xs) q f in
    (same, subst (ClauseListFits c.trees) same there)
  where
    is : (o : Option TraitContents) → maybe [] (λ (t : TraitContents). t.supers) o ≡ supers_at o
    is None = refl
    is (Some t) = refl

listed-at : (us : List Tree) (f : Clause → Tree) (xs : List Clause) (k : ℕ) (x : Clause) → us ≡ map f xs → k < length xs → x ≡ get_or xs k x → lists us (f x) ≡ true
listed-at us f xs k x e l g = subst (λ (vs : List Tree). lists vs (f x) ≡ true) (sym e) (at xs k l g)
  where
    at : (ys : List Clause) (n : ℕ) → n < length ys → x ≡ get_or ys n x → lists (map f ys) (f x) ≡ true
    at [] n h q = absurd (omega (arith, h))
    at (y ∷ ys) zero h q = or-true-left _ _ (ap (λ (z : Clause). same_tree (f z) (f x)) (sym q) ∙ tree_itself (f x))
    at (y ∷ ys) (suc n) h q = let m : n < length ys = omega (arith, h) in or-true-right _ _ (at ys n m q)

-- an instance that was not made
pub super_unmade : (start now : Context) (before list : List Clause) (v a : Forest) (i k given : ℕ) (own : Clause) (t : Tree) (s : Stop) → SupersSoFar start now before list v a i k
    → t ≡ instance v a (clause_tree now.trees own) → Some own ≡ slice_get (supers_at (trait_at now i)) k → ClauseListFits start.trees (supers_at (trait_at start i))
    → IsInstanceStop given t s → IsUnmade given (map (instance v a) (super_clauses start i)) s
super_unmade start now before list v a i k given own t s w is e supers c =
    let xs = supers_at (trait_at start i) in
    let at = some-inside xs k own (ap (λ (ys : List Clause). slice_get ys k) (sym (supers-same start now i w.grows)) ∙ sym e) in
    let kept : clause_tree now.trees own ≡ clause_tree start.trees own =
    (number-kept start.trees now.trees own.0 w.grows.kept (below_kind start.trees own.0 ClauseKind refl (listed_clause start.trees xs k own supers at.0 at.1))).1 in
    let made : t ≡ instance v a (clause_tree start.trees own) = is ∙ ap (instance v a) kept in
    let f : Clause → Tree = λ c. instance v a (clause_tree start.trees c) in
    record {
      tree = f own;
      listed = listed-at (map (instance v a) (super_clauses start i)) f xs k own (sym (maps-both start.trees v a xs)) at.0 at.1;
      stop = subst (λ (u : Tree). IsInstanceStop given u s) made c;
    }
