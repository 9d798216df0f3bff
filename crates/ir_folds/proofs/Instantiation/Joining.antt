-- Joint binders, and clauses under them.
use Rattle.std.proofs.Common.{◌≡◌, ℕ, ◌+◌, ◌-◌, ◌<◌, ◌≤◌, List, [], ◌∷◌, ◌++◌, take, length, get_or, Option, Some, None, Bool, true, false, refl, sym, ◌∙◌, ap, subst, arith, inl, inr}
use Rattle.std.specs.Prelude.{map, ◌||◌, ◌==◌, if◌then◌else◌, Result, Ok, Err, IfErr}
use Rattle.std.proofs.lemmas.List.{map_push, map_more}
use Rattle.std.proofs.Math.Seq.{take-length}
use Rattle.ir_trees.specs.Declarations.Context.{Context, Grows}
use Rattle.ir_trees.specs.declared.ir.kinds.Clause.{Clause}
use Rattle.ir_trees.specs.declared.ir.kinds.Args.{Args}
use Rattle.ir_trees.proofs.Growth.Kept.{number-kept, args-kept}
use Rattle.ir_trees.proofs.Growth.Made.{IsVars-grows}
use Rattle.ir_trees.specs.declared.ir.heads.ClauseHead.{ClauseHead}
use Rattle.ir_trees.specs.declared.ir.heads.ListHead.{ListHead}
use Rattle.ir_trees.specs.declared.ir.heads.ListHead.TheVariants as L
use Rattle.ir_trees.specs.declared.ir.heads.VariableSort.{VariableSort}
use Rattle.ir_trees.specs.declared.ir.heads.VariableSort.TheVariants as V
use Rattle.std.specs.Option.{unwrap_or}
use Rattle.ir_trees.specs.declared.ir.kinds.VarKind.{VarKind}
use Rattle.ir_trees.specs.declared.ir.kinds.Var.{Var}
use Rattle.ir_trees.specs.declared.ir.kinds.Vars.{Vars}
use Rattle.ir_trees.specs.declared.ir.kinds.Binder.{Binder}
use Rattle.ir_trees.specs.declared.ir.kinds.ClauseKind.{ClauseKind}
use Rattle.ir_trees.specs.declared.ir.heads.Head.{Head}
use Rattle.ir_trees.specs.declared.ir.heads.Head.TheVariants as H
use Rattle.ir_trees.specs.declared.ir.heads.ConstHead.TheVariants as C
use Rattle.ir_trees.specs.declared.ir.heads.PartHead.TheVariants as P
use Rattle.ir_trees.specs.declared.ir.kinds.RegionKind.TheVariants as R
use Rattle.ir_trees.specs.declared.ir.stop.Stop.{Stop}
use Rattle.ir_trees.specs.Syntax.Trees.{VariableKind, BinderKind, ClauseKind as ClauseKindOf, Forest, none, tree, Tree, kind_of, join, count, height, heights, holds, tree_holds, binders_of, sort_kind, list_kind}
use Rattle.ir_trees.specs.Syntax.Kinds.{numbers, fact_children, clause_head}
use Rattle.ir_trees.specs.Syntax.Nodes.{tree_at, kind_at, trees_at, rows, var_child}
use Rattle.ir_trees.specs.Unification.Substitutions.{alone}
use Rattle.ir_trees.specs.Syntax.Words.{IsVars, IsArgs, IsClause, args_forest, clause_tree, VarListFits, ClauseFits, var_kind_tree, var_tree, vars_tree, vars_kind_tree, binder_tree, clause_kind_tree, IsMkStop, IsMkListStop}
use Rattle.ir_trees.specs.Declarations.Worlds.{World}
use Rattle.ir_trees.specs.Declarations.References.{Takes, FitsAmong}
use Rattle.ir_trees.specs.Hierarchy.Supers.{after_first}
use Rattle.ir_trees.specs.Instantiation.Folding.{Answers, fold, fold_tree, leaf, put, lacks_argument, substituted, most_bounds, bounds_in, is_too_far, IsSubstStop, no_memory, few_numbers, high_tree, far_variable}
use Rattle.ir_trees.specs.Hierarchy.Elaboration.{later, later_head, either, instance_head, renumbered, under_binder, instance, is_too_high, IsRenumberStop, unput, high_variable, IsInstanceStop, IsJoint, IsJointStop}
use Rattle.ir_trees.proofs.Instantiation.Folding.{HeadAnswers, by_head, same_row, fuse, or-right}
use Rattle.ir_folds.proofs.Traversal.FoldRows.{rows-append, join-assoc}
use Rattle.ir_folds.proofs.Traversal.FoldStops.{row-bounds}
use Rattle.ir_folds.proofs.Traversal.FoldKinds.{takes-again}
use Rattle.ir_trees.proofs.Syntax.Lists.{below_kind}
use Rattle.ir_trees.proofs.Syntax.Rows.{row-single, kind-of, join-none}
use Rattle.ir_trees.specs.Instantiation.Folds.{node}
use Rattle.ir_trees.specs.declared.ir.kinds.BoundVar.{BoundVar}
use Rattle.ir_trees.specs.declared.ir.kinds.RegionKind.{RegionKind}
use Rattle.ir_trees.specs.declared.ir.heads.ConstHead.{ConstHead}
use Rattle.ir_folds.proofs.Instantiation.Substituting.{fold-agree, there-is-put}
use Rattle.ir_folds.proofs.Hierarchy.Implying.{renumber-cause}

-- The trees of a binder's variables.
abbrev pub AreVariables : Forest → Type 0
AreVariables none = Unit {0}
AreVariables (tree h below rest) = ((k : VarKind) × (h ≡ H.Part (P.Var k))) × (below ≡ none) × AreVariables rest

pub kinds-variables : (ks : List VarKind) → AreVariables (rows (map var_kind_tree ks))
kinds-variables [] = tt
kinds-variables (k ∷ ks) = ((k, refl), refl, kinds-variables ks)

pub second-variables : (a b : Forest) → AreVariables (join a b) → AreVariables b
second-variables none b v = v
second-variables (tree h below rest) b v = second-variables rest b v.2

-- They add nothing to what is said of the trees beside them.
no-height : (vs : Forest) → AreVariables vs → heights vs ≡ 0
no-height none v = refl
no-height (tree h below rest) v =
    let e = ap (λ (x : Head). heights (tree x below rest)) v.0.1 in
    let b = ap heights v.1 in
    let r = no-height rest v.2 in omega (arith, e, b, r)

no-bounds : (vs : Forest) → AreVariables vs → bounds_in vs ≡ 0
no-bounds none v = refl
no-bounds (tree h below rest) v =
    let e = ap (λ (x : Head). bounds_in (tree x below rest)) v.0.1 in
    let r = no-bounds rest v.2 in omega (arith, e, r)

no-most : (vs : Forest) → AreVariables vs → most_bounds vs ≡ 0
no-most none v = refl
no-most (tree h below rest) v =
    let e = no-bounds (tree h below rest) v in
    let b = ap most_bounds v.1 in
    let r = no-most rest v.2 in omega (arith, e, b, r)

no-mark : (mark : Head → Bool) → ((k : VarKind) → mark (H.Part (P.Var k)) ≡ false) → (vs : Forest) → AreVariables vs → holds mark vs ≡ false
no-mark mark m none v = refl
no-mark mark m (tree h below rest) v =
    ap (λ (x : Head). mark x || (holds mark below || holds mark rest)) v.0.1
    ∙ (ap (λ (b : Bool). b || (holds mark below || holds mark rest)) (m v.0.0)
    ∙ (ap (λ (f : Forest). holds mark f || holds mark rest) v.1 ∙ no-mark mark m rest v.2))

-- nothing happens to them where answers look at heads that are asked about
pub fold-variables : (f : HeadAnswers) → ((d : ℕ) (k : VarKind) → f d (H.Part (P.Var k)) ≡ None) → (d : ℕ) (vs : Forest) → AreVariables vs → fold (by_head f) d vs ≡ vs
fold-variables f q d none v = refl
fold-variables f q d (tree h below rest) v =
    subst (λ (x : Head). fold (by_head f) d (tree x below rest) ≡ tree x below rest) (sym v.0.1)
    (subst (λ (b : Forest). fold (by_head f) d (tree (H.Part (P.Var v.0.0)) b rest) ≡ tree (H.Part (P.Var v.0.0)) b rest) (sym v.1)
    (ap (λ (o : Option Tree). let it = unwrap_or o (leaf (H.Part (P.Var v.0.0))) in tree it.head it.children (fold (by_head f) d rest)) (q d v.0.0)
    ∙ ap (tree (H.Part (P.Var v.0.0)) none) (fold-variables f q d rest v.2)))

-- The kinds of a binder's variables, one after the other.
var-trees : (ts : List Tree) (xs : List Var) → trees_at ts (numbers (map var_child xs)) ≡ map (var_tree ts) xs
var-trees ts [] = refl
var-trees ts (x ∷ xs) = ap (λ (us : List Tree). var_tree ts x ∷ us) (var-trees ts xs)

abbrev pub KindsSoFar : List Tree → List Var → List VarKind → ℕ → List VarKind → Type 0
KindsSoFar ts xs old i now = rows (map var_kind_tree now) ≡ join (rows (map var_kind_tree old)) (rows (map (var_tree ts) (take i xs)))

pub no-kinds : (ts : List Tree) (xs : List Var) (ks : List VarKind) → KindsSoFar ts xs ks 0 ks
no-kinds ts xs ks = sym (join-none (rows (map var_kind_tree ks)))

pub one-more-kind : (ts : List Tree) (xs : List Var) (old now next : List VarKind) (i : ℕ) (d : Var) (k : VarKind) → i < length xs → KindsSoFar ts xs old i now → next ≡ now ++ k ∷ []
    → var_kind_tree k ≡ var_tree ts (get_or xs i d) → KindsSoFar ts xs old (i + 1) next
one-more-kind ts xs old now next i d k l so n e =
    let before = rows (map (var_tree ts) (take i xs)) in
    ap (λ (ks : List VarKind). rows (map var_kind_tree ks)) n
    ∙ (ap rows (map_push var_kind_tree now k)
    ∙ (rows-append (map var_kind_tree now) (var_kind_tree k ∷ [])
    ∙ (ap (λ (f : Forest). join f (rows (var_kind_tree k ∷ []))) so
    ∙ (join-assoc (rows (map var_kind_tree old)) before (rows (var_kind_tree k ∷ []))
    ∙ ap (join (rows (map var_kind_tree old)))
    (ap (λ (t : Tree). join before (rows (t ∷ []))) e
    ∙ (sym (rows-append (map (var_tree ts) (take i xs)) (var_tree ts (get_or xs i d) ∷ []))
    ∙ ap rows (sym (map_more (var_tree ts) xs i d l))))))))

pub all-kinds : (ts : List Tree) (xs : List Var) (old now : List VarKind) (i : ℕ) (v : Vars) → length xs ≤ i → i ≤ length xs → KindsSoFar ts xs old i now
    → vars_kind_tree ts xs ≡ vars_tree ts v → rows (map var_kind_tree now) ≡ join (rows (map var_kind_tree old)) (vars_tree ts v).children
all-kinds ts xs old now i v l m so e =
    let whole : take i xs ≡ xs = ap (λ (j : ℕ). take j xs) (omega arith) ∙ take-length xs in
    so ∙ ap (join (rows (map var_kind_tree old)))
    (ap (λ (us : List Var). rows (map (var_tree ts) us)) whole ∙ (ap rows (sym (var-trees ts xs)) ∙ ap (λ (t : Tree). t.children) e))

count-kinds : (ks : List VarKind) → count (rows (map var_kind_tree ks)) ≡ length ks
count-kinds [] = refl
count-kinds (k ∷ ks) = let e = count-kinds ks in omega (arith, e)

-- the kinds of two binders
pub both-kinds : (c d e : Context) (none_yet first both list : List VarKind) (outer inner : Vars) → d ≡ c → e ≡ c → none_yet ≡ []
    → rows (map var_kind_tree first) ≡ join (rows (map var_kind_tree none_yet)) (vars_tree d.trees outer).children
    → rows (map var_kind_tree both) ≡ join (rows (map var_kind_tree first)) (vars_tree e.trees inner).children → list ≡ both
    → rows (map var_kind_tree list) ≡ join (vars_tree c.trees outer).children (vars_tree c.trees inner).children
both-kinds c d e none_yet first both list outer inner i j n f g l =
    let empty = ap (λ (ks : List VarKind). join (rows (map var_kind_tree ks)) (vars_tree d.trees outer).children) n in
    let one = f ∙ (empty ∙ ap (λ (x : Context). (vars_tree x.trees outer).children) i) in
    ap (λ (ks : List VarKind). rows (map var_kind_tree ks)) l
    ∙ (g ∙ (ap (λ (x : Context). join (rows (map var_kind_tree first)) (vars_tree x.trees inner).children) j ∙ ap (λ (x : Forest). join x (vars_tree c.trees inner).children) one))

-- a joint binder that was not made
pub joint-stop : (old new : Context) (ks : List VarKind) (variables : Forest) (r : Result Vars Stop) → rows (map var_kind_tree ks) ≡ variables
    → IfErr r (λ _. new ≡ old) → IfErr r (λ s. IsMkListStop old.trees (length ks + 1) (height (binder_tree ks)) s)
    → IfErr r (λ s. IsJointStop (length new.trees) variables s)
joint-stop old new ks variables (Ok v) e u c = tt
joint-stop old new ks variables (Err s) e u (inl m) = inl m
joint-stop old new ks variables (Err s) e u (inr (n, inl few)) =
    let same = ap (λ (x : Context). length x.trees) u in
    let number = ap count e in
    let k = count-kinds ks in
    inr (n, omega (arith, few, same, number, k))
joint-stop old new ks variables (Err s) e u (inr (n, inr tall)) =
    let flat = no-height (rows (map var_kind_tree ks)) (kinds-variables ks) in absurd (omega (arith, tall, flat))

-- A clause over variables and the trees under its binder.
abbrev pub over : ClauseHead → Forest → Forest → Tree
over c variables below = record { head = H.Part (P.Clause c); children = tree (H.Part P.Vars) variables below }

pub binder-head : (h : Head) → kind_of h ≡ BinderKind → h ≡ H.Part P.Vars
binder-head (H.Part (P.Clause c)) e = absurd cc
binder-head (H.Part (P.Pred c)) e = absurd cc
binder-head (H.Part P.Sig) e = absurd cc
binder-head (H.Part P.Vars) e = refl
binder-head (H.Part (P.Var k)) e = absurd cc
binder-head (H.Infer v) e = at v.sort e
  where
    at : (s : VariableSort) → sort_kind s ≡ BinderKind → H.Infer v ≡ H.Part P.Vars
    at V.Constant e = absurd cc
    at _ e = absurd cc
binder-head (H.List l) e = at l e
  where
    at : (m : ListHead) → list_kind m ≡ BinderKind → H.List l ≡ H.Part P.Vars
    at L.Args e = absurd cc
    at L.Preds e = absurd cc
    at L.Clauses e = absurd cc
binder-head _ e = absurd cc

abbrev pub below_binder : List Tree → Binder ClauseKind → Forest
below_binder ts b = rows (trees_at ts (numbers (fact_children b.value)))

pub clause-over : (ts : List Tree) (b : Binder ClauseKind) → ClauseFits ts b → clause_kind_tree ts b ≡ over (clause_head b) (vars_tree ts b.vars).children (below_binder ts b)
clause-over ts b f =
    let k : kind_at ts b.vars.0 ≡ BinderKind = cc in
    let h : (tree_at ts b.vars.0).head ≡ H.Part P.Vars = binder-head (tree_at ts b.vars.0).head (kind-of ts b.vars.0 BinderKind refl k) in
    let e = row-single ts b.vars.0 BinderKind (below_binder ts b) refl refl k in
    ap (λ (x : Forest). let t : Tree = record { head = H.Part (P.Clause (clause_head b)); children = x } in t)
    (e ∙ ap (λ (x : Head). tree x (tree_at ts b.vars.0).children (below_binder ts b)) h)

-- A fold that counts one binder more.
pub one-deeper : (k : HeadAnswers) (d : ℕ) (ts : Forest) → fold (λ e t. k (e - 1) t.head) (d + 1) ts ≡ fold (by_head k) d ts
one-deeper k d none = refl
one-deeper k d (tree h below rest) =
    let here : d + 1 - 1 ≡ d = omega arith in
    let turned : d + 1 + binders_of h ≡ d + binders_of h + 1 = omega arith in
    let A : Answers = λ e t. k (e - 1) t.head in
    let under : fold A (d + 1 + binders_of h) below ≡ fold (by_head k) (d + binders_of h) below = ap (λ (e : ℕ). fold A e below) turned ∙ one-deeper k (d + binders_of h) below in
    same_row (unwrap_or (k (d + 1 - 1) h) (node h (fold A (d + 1 + binders_of h) below))) (unwrap_or (k d h) (node h (fold (by_head k) (d + binders_of h) below)))
    (fold A (d + 1) rest) (fold (by_head k) d rest)
    (ap (λ (e : ℕ). unwrap_or (k e h) (node h (fold A (d + 1 + binders_of h) below))) here ∙ ap (λ (x : Forest). unwrap_or (k d h) (node h x)) under)
    (one-deeper k d rest)

-- Both steps of an instance are one fold: parameters are put in after variables are renumbered.
abbrev merged : Forest → ℕ → HeadAnswers
merged args n d h = either (put args d h) (later_head n d h)

later-some : (args : Forest) (n e : ℕ) (head : BoundVar → Head) (v : BoundVar) (u : Tree) → ((w : BoundVar) → put args (e + 0) (head w) ≡ None) → (b : Bool)
    → (if b then Some (leaf (head (later n v))) else None) ≡ Some u → (if b then Some (leaf (head (later n v))) else None) ≡ Some (fold_tree (by_head (put args)) (e + 0) u)
later-some args n e head v u q false i = absurd cc
later-some args n e head v u q true i =
    let is : leaf (head (later n v)) ≡ u = cc in
    let still : fold_tree (by_head (put args)) (e + 0) (leaf (head (later n v))) ≡ leaf (head (later n v)) = ap (λ (o : Option Tree). unwrap_or o (leaf (head (later n v)))) (q (later n v)) in
    ap Some (sym still ∙ ap (fold_tree (by_head (put args)) (e + 0)) is)

some-later : (args : Forest) (n e : ℕ) (h : Head) (u : Tree) → later_head n e h ≡ Some u → merged args n e h ≡ Some (fold_tree (by_head (put args)) (e + 0) u)
some-later args n e (H.Bound v) u i = later-some args n e H.Bound v u (λ w. refl) (v.depth == e) i
some-later args n e (H.Const k) u i = at k i
  where
    at : (c : ConstHead) → later_head n e (H.Const c) ≡ Some u → merged args n e (H.Const c) ≡ Some (fold_tree (by_head (put args)) (e + 0) u)
    at (C.Bound v) j = later-some args n e (λ w. H.Const (C.Bound w)) v u (λ w. refl) (v.depth == e) j
    at _ j = absurd cc
some-later args n e (H.Region k) u i = at k i
  where
    at : (r : RegionKind) → later_head n e (H.Region r) ≡ Some u → merged args n e (H.Region r) ≡ Some (fold_tree (by_head (put args)) (e + 0) u)
    at (R.Bound v) j = later-some args n e (λ w. H.Region (R.Bound w)) v u (λ w. refl) (v.depth == e) j
    at _ j = absurd cc
some-later args n e _ u i = absurd cc

either-none : (o p : Option Tree) → p ≡ None → either o p ≡ o
either-none None p e = e
either-none (Some x) p e = refl

no-later : (args : Forest) (n e : ℕ) (h : Head) → later_head n e h ≡ None → merged args n e h ≡ put args (e + 0) h
no-later args n e h i = either-none (put args e h) (later_head n e h) i ∙ ap (λ (d : ℕ). put args d h) (omega arith)

pub both-steps : (args : Forest) (n : ℕ) (ts : Forest) → holds (lacks_argument args) ts ≡ false
    → fold (by_head (instance_head args n)) 0 ts ≡ substituted args 0 (renumbered n ts)
both-steps args n ts e =
    fold-agree (instance_head args n) (merged args n) (lacks_argument args) (λ d h m. ap (λ (o : Option Tree). either o (later_head n d h)) (there-is-put args d h m)) 0 ts e
    ∙ sym (fuse (later_head n) (put args) (merged args n) 0 (some-later args n) (no-later args n) 0 ts)

-- The fold of a whole clause, and what an instance of it is.
abbrev pub deeper : Forest → ℕ → HeadAnswers
deeper args n d = instance_head args n (d - 1)

pub folded-clause : (args : Forest) (n : ℕ) (c : ClauseHead) (vs below : Forest) → AreVariables vs → holds (lacks_argument args) below ≡ false
    → fold_tree (by_head (deeper args n)) 0 (over c vs below) ≡ over c vs (substituted args 0 (renumbered n below))
folded-clause args n c vs below v e =
    ap (λ (x : Forest). over c x (fold (by_head (deeper args n)) 1 below)) (fold-variables (deeper args n) (λ d k. refl) 1 vs v)
    ∙ ap (over c vs) (one-deeper (instance_head args n) 0 below ∙ both-steps args n below e)

-- what is said of a clause's trees is said under its binder
or-false : (a b : Bool) → a ≡ false → a || b ≡ b
or-false true b e = absurd cc
or-false false b e = refl

or-nothing : (a : Bool) → a || false ≡ a
or-nothing true = refl
or-nothing false = refl

below-mark : (mark : Head → Bool) (c : ClauseHead) (vs below : Forest) → mark (H.Part (P.Clause c)) ≡ false → mark (H.Part P.Vars) ≡ false → ((k : VarKind) → mark (H.Part (P.Var k)) ≡ false)
    → AreVariables vs → holds mark (alone (over c vs below)) ≡ holds mark below
below-mark mark c vs below m n o v =
    or-false (mark (H.Part (P.Clause c))) _ m
    ∙ (or-nothing (holds mark (tree (H.Part P.Vars) vs below))
    ∙ (or-false (mark (H.Part P.Vars)) _ n ∙ or-false (holds mark vs) (holds mark below) (no-mark mark o vs v)))

pub below-subst : (given : ℕ) (c : ClauseHead) (vs below : Forest) (x : Stop) → AreVariables vs → IsSubstStop given (alone (over c vs below)) x → IsSubstStop given below x
below-subst given c vs below x v no_memory = no_memory
below-subst given c vs below x v (few_numbers l) =
    few_numbers (let a = no-most vs v in let b = row-bounds below in omega (arith, l, a, b))
below-subst given c vs below x v (high_tree l) = high_tree (let a = no-height vs v in omega (arith, l, a))
below-subst given c vs below x v (far_variable e) = far_variable (sym (below-mark is_too_far c vs below refl refl (λ k. refl) v) ∙ e)

below-stop : (given : ℕ) (c : ClauseHead) (vs below : Forest) (x : Stop) → AreVariables vs → IsRenumberStop given (alone (over c vs below)) x → IsRenumberStop given below x
below-stop given c vs below x v (unput s) = unput (below-subst given c vs below x v s)
below-stop given c vs below x v (high_variable e) = high_variable (sym (below-mark is_too_high c vs below refl refl (λ k. refl) v) ∙ e)

other-binder : (given : ℕ) (c : ClauseHead) (vs us below : Forest) (x : Stop) → AreVariables vs → IsRenumberStop given (alone (over c vs below)) x → IsRenumberStop given (alone (over c us below)) x
other-binder given c vs us below x v s =
    renumber-cause.of_below given (H.Part (P.Clause c)) (tree (H.Part P.Vars) us below) none x
    (renumber-cause.of_rest given (H.Part P.Vars) us below x (below-stop given c vs below x v s))

-- What is read of a clause, in a context that is this one.
pub read-clause : (c d : Context) (x : Clause) (b : Binder ClauseKind) → d ≡ c → ClauseFits d.trees b → clause_kind_tree d.trees b ≡ clause_tree d.trees x
    → clause_tree c.trees x ≡ over (clause_head b) (vars_tree c.trees b.vars).children (below_binder c.trees b)
read-clause c d x b i f e =
    subst (λ (y : Context). clause_tree y.trees x ≡ over (clause_head b) (vars_tree y.trees b.vars).children (below_binder y.trees b)) i (sym e ∙ clause-over d.trees b f)

pub read-fits : (c d : Context) (b : Binder ClauseKind) → d ≡ c → ClauseFits d.trees b → ClauseFits c.trees b
read-fits c d b i f = subst (λ (y : Context). ClauseFits y.trees b) i f

-- and of a binder
count-vars : (ts : List Tree) (xs : List Var) → VarListFits ts xs → count (rows (trees_at ts (numbers (map var_child xs)))) ≡ length xs
count-vars ts [] f = refl
count-vars ts (x ∷ xs) f =
    let k : kind_at ts x.0 ≡ VariableKind = cc in
    let g : VarListFits ts xs = cc in
    let e = ap count (row-single ts x.0 VariableKind (rows (trees_at ts (numbers (map var_child xs)))) refl refl k) in
    let r = count-vars ts xs g in omega (arith, e, r)

pub read-count : (c d : Context) (v : Vars) (xs : List Var) → d ≡ c → VarListFits d.trees xs → vars_kind_tree d.trees xs ≡ vars_tree d.trees v → length xs ≡ count (vars_tree c.trees v).children
read-count c d v xs i f e =
    subst (λ (y : Context). length xs ≡ count (vars_tree y.trees v).children) i (sym (count-vars d.trees xs f) ∙ ap (λ (t : Tree). count t.children) e)

pub joint-variables : (ts : List Tree) (v : Vars) (outer inner : Forest) → IsJoint ts v outer inner → AreVariables inner
joint-variables ts v outer inner j = second-variables outer inner (subst AreVariables j.both (kinds-variables j.kinds))

-- a clause of a context that has grown
pub clause-kept : (old new : Context) (x : Clause) → Grows old new → IsClause old.trees x → IsClause new.trees x × (clause_tree new.trees x ≡ clause_tree old.trees x)
clause-kept old new x g h =
    let k = number-kept old.trees new.trees x.0 g.kept (below_kind old.trees x.0 ClauseKindOf refl h) in (k.0 ∙ h, k.1)

pub fold-kept : (old new : Context) (a : Args) (x : Clause) (n : ℕ) → Grows old new → IsArgs old.trees a → IsClause old.trees x
    → fold_tree (by_head (deeper (args_forest new.trees a) n)) 0 (clause_tree new.trees x) ≡ fold_tree (by_head (deeper (args_forest old.trees a) n)) 0 (clause_tree old.trees x)
fold-kept old new a x n g i h =
    ap (λ (f : Forest). fold_tree (by_head (deeper f n)) 0 (clause_tree new.trees x)) (args-kept old new a g i).1
    ∙ ap (fold_tree (by_head (deeper (args_forest old.trees a) n)) 0) (clause-kept old new x g h).1

-- a clause over the joint binder is of the context
pub joint-fits : (old new : Context) (v : Vars) (b : Binder ClauseKind) → Grows old new → IsVars old.trees v → ClauseFits new.trees b
    → ClauseFits new.trees (record { vars = v; value = b.value })
joint-fits old new v b g i f = let k : kind_at new.trees v.0 ≡ BinderKind = IsVars-grows old new v g i in cc

vars-kept : (old new : Context) (v : Vars) → Grows old new → IsVars old.trees v → vars_tree new.trees v ≡ vars_tree old.trees v
vars-kept old new v g i = (number-kept old.trees new.trees v.0 g.kept (below_kind old.trees v.0 BinderKind refl i)).1

pub joint-cause : (given : ℕ) (os args : Forest) (s : Tree) (h : ClauseHead) (vs below : Forest) (x : Stop) → s ≡ over h vs below → IsJointStop given (join os vs) x
    → IsInstanceStop given (instance os args s) x
joint-cause given os args s h vs below x e c = subst (λ (t : Tree). IsInstanceStop given (instance os args t) x) (sym e) (at c)
  where
    at : IsJointStop given (join os vs) x → IsInstanceStop given (instance os args (over h vs below)) x
    at (inl m) = let P : Stop → Type 0 = λ y. IsInstanceStop given (instance os args (over h vs below)) y in subst P (sym m) (inl (unput no_memory))
    at (inr f) = inr f

-- what lacks no argument has none lacking under its binder
pub under-lacks : (mark : Head → Bool) (t : Tree) → tree_holds mark t ≡ false → holds mark (under_binder t) ≡ false
under-lacks mark t e = at t.children (or-right (mark t.head) (holds mark t.children) e)
  where
    at : (f : Forest) → holds mark f ≡ false → holds mark (after_first f) ≡ false
    at none e = refl
    at (tree h below rest) e = or-right (holds mark below) (holds mark rest) (or-right (mark h) (holds mark below || holds mark rest) e)

-- An instance of a clause: its trees, and what is made of them.
module _ (os args : Forest) (n : ℕ) (s : Tree) (h : ClauseHead) (vs below : Forest) (e : s ≡ over h vs below) (k : n ≡ count os) (v : AreVariables vs)
    (l : holds (lacks_argument args) (under_binder s) ≡ false) where
  abbrev put_in : Forest
  put_in = substituted args 0 (renumbered (count os) below)

  whole : instance os args s ≡ over h (join os vs) put_in
  whole = ap (instance os args) e

  still : fold_tree (by_head (deeper args n)) 0 s ≡ over h vs put_in
  still =
      ap (fold_tree (by_head (deeper args n)) 0) e
      ∙ (folded-clause args n h vs below v (sym (ap (λ (t : Tree). holds (lacks_argument args) (under_binder t)) e) ∙ l)
      ∙ ap (λ (m : ℕ). over h vs (substituted args 0 (renumbered m below))) k)

  pub instance-cause : (given : ℕ) (x : Stop) → IsRenumberStop given (alone (fold_tree (by_head (deeper args n)) 0 s)) x → IsInstanceStop given (instance os args s) x
  instance-cause given x c =
      let P : Tree → Type 0 = λ t. IsRenumberStop given (alone t) x in
      inl (subst P (sym whole) (other-binder given h vs (join os vs) put_in x v (subst P still c)))

  module _ (old new : Context) (joint : Vars) (b : Binder ClauseKind) (x : Clause) (g : Grows old new) (i : IsVars old.trees joint) (f : ClauseFits new.trees b)
      (j : IsJoint old.trees joint os vs) (r : clause_tree new.trees x ≡ over (clause_head b) (vars_tree new.trees b.vars).children (below_binder new.trees b))
      (t : clause_tree new.trees x ≡ fold_tree (by_head (deeper args n)) 0 s) where
    abbrev made : Binder ClauseKind
    made = record { vars = joint; value = b.value }

    same : over (clause_head b) (vars_tree new.trees b.vars).children (below_binder new.trees b) ≡ over h vs put_in
    same = sym r ∙ (t ∙ still)

    abbrev head_clause : Tree → ClauseHead
    head_clause u = clause_of u.head
      where
        clause_of : Head → ClauseHead
        clause_of (H.Part (P.Clause c)) = c
        clause_of _ = h

    pub instance-tree : clause_kind_tree new.trees made ≡ instance os args s
    instance-tree =
        clause-over new.trees made (joint-fits old new joint b g i f)
        ∙ (ap (λ (u : Tree). over (clause_head b) u.children (below_binder new.trees b)) (vars-kept old new joint g i ∙ j.is)
        ∙ (ap (λ (u : Forest). over (clause_head b) u (below_binder new.trees b)) j.both
        ∙ (ap (λ (u : Tree). over (head_clause u) (join os vs) (under_binder u)) same
        ∙ sym whole)))

    pub instance-takes : (w : World) → FitsAmong w (clause_tree new.trees x) → Takes w (clause_kind_tree new.trees made)
    instance-takes w fit =
        let own : FitsAmong w (over h vs put_in) = subst (FitsAmong w) (t ∙ still) fit in
        let again : Takes w (over h (join os vs) put_in) = takes-again w (over h vs put_in) (tree (H.Part P.Vars) (join os vs) put_in) own refl in
        subst (Takes w) (sym (instance-tree ∙ whole)) again

-- a clause that was not made
pub clause-unmade : (old new : Context) (made t : Tree) (r : Result Clause Stop) → made ≡ t → IfErr r (λ _. new ≡ old) → IfErr r (λ s. IsMkStop old.trees (height made) s)
    → IfErr r (λ s. IsSubstStop (length new.trees) (alone t) s)
clause-unmade old new made t (Ok x) e u c = tt
clause-unmade old new made t (Err s) e u (inl m) = let Q : Stop → Type 0 = λ y. IsSubstStop (length new.trees) (alone t) y in subst Q (sym m) no_memory
clause-unmade old new made t (Err s) e u (inr (m, inl full)) =
    let Q : Stop → Type 0 = λ y. IsSubstStop (length new.trees) (alone t) y in
    let same = ap (λ (x : Context). length x.trees) u in
    subst Q (sym m) (few_numbers (omega (arith, full, same)))
clause-unmade old new made t (Err s) e u (inr (m, inr tall)) =
    let Q : Stop → Type 0 = λ y. IsSubstStop (length new.trees) (alone t) y in
    let same = ap height e in
    subst Q (sym m) (high_tree (omega (arith, tall, same)))

pub clause-stop : (old new : Context) (made t : Tree) (r : Result Clause Stop) → made ≡ t → IfErr r (λ _. new ≡ old) → IfErr r (λ s. IsMkStop old.trees (height made) s)
    → IfErr r (λ s. IsInstanceStop (length new.trees) t s)
clause-stop old new made t r e u c = at r (clause-unmade old new made t r e u c)
  where
    at : (q : Result Clause Stop) → IfErr q (λ s. IsSubstStop (length new.trees) (alone t) s) → IfErr q (λ s. IsInstanceStop (length new.trees) t s)
    at (Ok x) k = tt
    at (Err s) k = inl (unput k)
