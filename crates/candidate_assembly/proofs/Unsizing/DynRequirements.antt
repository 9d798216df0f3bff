-- What a type has to fulfil so as to become a `dyn` type, as requirements that are gathered.
use Rattle.std.proofs.Common.{◌≡◌, ℕ, ◌+◌, ◌<◌, ◌≤◌, Bool, false, refl, sym, ap, subst, ◌∙◌, List, [], ◌∷◌, ◌++◌, Some, get_or, length, map, take}
use Rattle.std.specs.Prelude.{◌||◌}
use Rattle.std.proofs.lemmas.List.{map-append, map_more, map_push, take_all}
use Rattle.std.proofs.lemmas.List.Elements.{All-cons, All-nil, All-push}
use Rattle.std.proofs.lemmas.Simd.{map-map}
use Rattle.ir_trees.specs.declared.ir.heads.ClauseHead.TheVariants as Cl
use Rattle.ir_trees.specs.declared.ir.kinds.Binder.{Binder}
use Rattle.ir_trees.specs.declared.ir.kinds.Clause.{Clause}
use Rattle.ir_trees.specs.declared.ir.kinds.ClauseKind.{ClauseKind}
use Rattle.ir_trees.specs.declared.ir.kinds.ClauseKind.TheVariants as K
use Rattle.ir_trees.specs.declared.ir.kinds.GoalSource.{GoalSource}
use Rattle.ir_trees.specs.declared.ir.kinds.GoalSource.TheVariants.{ImplWhereBound, Misc}
use Rattle.ir_trees.specs.declared.ir.kinds.Pred.{Pred}
use Rattle.ir_trees.specs.declared.ir.kinds.Preds.{Preds}
use Rattle.ir_trees.specs.declared.ir.kinds.Region.{Region}
use Rattle.ir_trees.specs.declared.ir.kinds.TraitId.{TraitId}
use Rattle.ir_trees.specs.declared.ir.kinds.Ty.{Ty}
use Rattle.ir_trees.specs.declared.ir.kinds.Vars.{Vars}
use Rattle.ir_trees.specs.Declarations.Context.{Context, Grows, world}
use Rattle.ir_trees.specs.Syntax.Nodes.{kind_at, tree_at}
use Rattle.ir_trees.specs.Declarations.References.{Takes}
use Rattle.ir_trees.specs.Unification.Substitutions.{alone}
use Rattle.ir_trees.specs.Syntax.Trees.{Kind, TypeKind, BinderKind, RegionKind, PredicateKind, Forest, none, tree, Tree, holds, is_param, kind_of, tree_holds}
use Rattle.ir_trees.specs.Syntax.Words.{ClauseFits, IsClause, IsPred, IsRegion, IsTy, IsVars, PredListFits, binder_tree, clause_kind_tree, clause_tree, pred_list_forest, pred_tree, preds_forest, region_tree, ty_tree, vars_tree}
use Rattle.ir_trees.specs.Declarations.Worlds.{World}
use Rattle.ir_trees.proofs.Instantiation.Folding.{or-left, or-right}
use Rattle.ir_folds.proofs.Instantiation.Joining.{clause-over, over}
use Rattle.ir_trees.proofs.Growth.Kept.{grows-refl, grows-trans, number-kept, ty-kept}
use Rattle.ir_trees.proofs.Syntax.Lists.{below_kind}
use Rattle.ir_trees.proofs.Syntax.Rows.{kind-of, row-single}
use Rattle.candidate_eval.specs.Builtins.Callable.{all_but_last}
use Rattle.candidate_eval.specs.Dynamic.ObjectRequirements.{first_tree}
use Rattle.candidate_eval.specs.Dynamic.Required.{each_of}
use Rattle.candidate_eval.specs.Derivations.Rules.{Step, add, nested, nested_misc}
use Rattle.candidate_eval.proofs.Marks.Holds.{holds_parts}
use Rattle.candidate_eval.proofs.Marks.Marking.{but-last-unmarked, last-unmarked, unmarked}
use Rattle.candidate_assembly.specs.Rules.BuiltinRules.{meets, pair_of}
use Rattle.candidate_assembly.specs.Rules.DynBounds.{bound_said, bounds_in, region_in}
use Rattle.candidate_assembly.specs.Rules.Requirements.{RequireNoParameter, Requirement, RequirementsFit, requirement_steps}
use Rattle.candidate_assembly.specs.Rules.Unsizing.{dyn_steps, outlives}
use Rattle.candidate_assembly.proofs.Objects.BoundClauses.{said-free}
use Rattle.candidate_assembly.proofs.Rules.Requiring.{fits-kept, steps-kept}

-- Requirements that were gathered, over a context that grows: they are these steps.
pub record RequiredSoFar (start now : Context) (list : List Requirement) (steps : List Step) : Type 0 where
  pub grows : Grows start now
  pub fit : RequirementsFit now.trees list
  pub are : requirement_steps now.trees list ≡ steps

pub none-yet : (start : Context) (list : List Requirement) → list ≡ [] → RequiredSoFar start start list []
none-yet start list e = record {
  grows = grows-refl start;
  fit = subst (RequirementsFit start.trees) (sym e) (All-nil (λ r. IsClause start.trees r.1));
  are = ap (requirement_steps start.trees) e;
}

pub one-more : (start now new : Context) (old list : List Requirement) (s : GoalSource) (x : Clause) (t : Tree) (ss all : List Step) → RequiredSoFar start now old ss → Grows now new → IsClause new.trees x → clause_tree new.trees x ≡ t
    → list ≡ old ++ (s, x) ∷ [] → all ≡ ss ++ add s t ∷ [] → RequiredSoFar start new list all
one-more start now new old list s x t ss all so g k is e sum = record {
  grows = grows-trans start now new so.grows g;
  fit = subst (RequirementsFit new.trees) (sym e) (All-push (λ r. IsClause new.trees r.1) old (s, x) (fits-kept now new old g so.fit) k);
  are = ap (requirement_steps new.trees) e
      ∙ (map_push (λ r. add r.0 (clause_tree new.trees r.1)) old (s, x)
      ∙ (ap (λ zs. zs ++ add s (clause_tree new.trees x) ∷ []) (steps-kept now new old g so.fit ∙ so.are)
      ∙ (ap (λ z. ss ++ add s z ∷ []) is ∙ sym sum)));
}

-- Bounds, one after the other.

-- what one of them becomes
abbrev pub said-step : List Tree → Ty → Pred → Step
said-step ts t x = add ImplWhereBound (bound_said (ty_tree ts t) (pred_tree ts x))

pub each-pred : (ts : List Tree) (xs : List Pred) → PredListFits ts xs → each_of (pred_list_forest ts xs) ≡ map (pred_tree ts) xs
each-pred ts [] f = refl
each-pred ts (x ∷ xs) f =
    let here : kind_at ts x.0 ≡ PredicateKind = cc in
    let others : PredListFits ts xs = cc in
    ap each_of (row-single ts x.0 PredicateKind (pred_list_forest ts xs) refl refl here) ∙ ap (λ (us : List Tree). pred_tree ts x ∷ us) (each-pred ts xs others)

all-said : (ts : List Tree) (t : Ty) (bs : Preds) (xs : List Pred) → PredListFits ts xs → pred_list_forest ts xs ≡ preds_forest ts bs
    → map (said-step ts t) xs ≡ nested (map (bound_said (ty_tree ts t)) (each_of (preds_forest ts bs)))
all-said ts t bs xs f e =
    sym (map-map (λ u. add ImplWhereBound (bound_said (ty_tree ts t) u)) (pred_tree ts) xs)
    ∙ (sym (map-map (add ImplWhereBound) (bound_said (ty_tree ts t)) (map (pred_tree ts) xs))
    ∙ ap (λ us. nested (map (bound_said (ty_tree ts t)) us)) (sym (each-pred ts xs f) ∙ ap each_of e))

-- one bound more
pub next-said : (start now new : Context) (t : Ty) (old list : List Requirement) (x : Clause) (xs : List Pred) (k : ℕ) (d : Pred) → RequiredSoFar start now old (map (said-step start.trees t) (take k xs)) → k < length xs → Grows now new
    → IsClause new.trees x → clause_tree new.trees x ≡ bound_said (ty_tree start.trees t) (pred_tree start.trees (get_or xs k d)) → list ≡ old ++ (ImplWhereBound, x) ∷ []
    → RequiredSoFar start new list (map (said-step start.trees t) (take (k + 1) xs))
next-said start now new t old list x xs k d so l g sort is e =
    one-more start now new old list ImplWhereBound x (bound_said (ty_tree start.trees t) (pred_tree start.trees (get_or xs k d))) (map (said-step start.trees t) (take k xs)) _ so g sort is e (map_more (said-step start.trees t) xs k d l)

-- all of them
pub all-required : (start now : Context) (t : Ty) (list : List Requirement) (bs : Preds) (xs : List Pred) (k : ℕ) → RequiredSoFar start now list (map (said-step start.trees t) (take k xs)) → length xs ≤ k → PredListFits start.trees xs
    → pred_list_forest start.trees xs ≡ preds_forest start.trees bs → requirement_steps now.trees list ≡ nested (map (bound_said (ty_tree start.trees t)) (each_of (preds_forest start.trees bs)))
all-required start now t list bs xs k so past f e = so.are ∙ (ap (map (said-step start.trees t)) (take_all k xs past) ∙ all-said start.trees t bs xs f e)

-- what was read of a type and a bound stays
pub said-still : (start now : Context) (t : Ty) (x : Pred) → Grows start now → IsTy start.trees t → IsPred start.trees x
    → IsPred now.trees x × (bound_said (ty_tree now.trees t) (pred_tree now.trees x) ≡ bound_said (ty_tree start.trees t) (pred_tree start.trees x))
said-still start now t x g i j =
    let k = number-kept start.trees now.trees x.0 g.kept (below_kind start.trees x.0 PredicateKind refl j) in
    (k.0 ∙ j, ap (λ u. bound_said u (pred_tree now.trees x)) (ty-kept start now t g i).1 ∙ ap (bound_said (ty_tree start.trees t)) k.1)

pub region-still : (old new : Context) (r : Region) → Grows old new → IsRegion old.trees r → IsRegion new.trees r × (region_tree new.trees r ≡ region_tree old.trees r)
region-still old new r g h =
    let k = number-kept old.trees new.trees r.0 g.kept (below_kind old.trees r.0 RegionKind refl h) in
    (k.0 ∙ h, k.1)

-- That the type outlives the region.

abbrev pub lives-clause : Vars → Ty → Region → Binder ClauseKind
lives-clause v t r = record { vars = v; value = K.TypeOutlives t r }

pub lives-fits : (ts : List Tree) (v : Vars) (t : Ty) (r : Region) → IsVars ts v → IsTy ts t → IsRegion ts r → ClauseFits ts (lives-clause v t r)
lives-fits ts v t r i k l = ap (λ x. x ∷ kind_at ts t.0 ∷ kind_at ts r.0 ∷ []) i ∙ (ap (λ x. BinderKind ∷ x ∷ kind_at ts r.0 ∷ []) k ∙ ap (λ x. BinderKind ∷ TypeKind ∷ x ∷ []) l)

pub lives-is : (ts : List Tree) (v : Vars) (t : Ty) (r : Region) → IsVars ts v → IsTy ts t → IsRegion ts r → vars_tree ts v ≡ binder_tree []
    → clause_kind_tree ts (lives-clause v t r) ≡ outlives Cl.TypeOutlives (ty_tree ts t) (region_tree ts r)
lives-is ts v t r i k l e =
    clause-over ts (lives-clause v t r) (lives-fits ts v t r i k l)
    ∙ (ap (over Cl.TypeOutlives (vars_tree ts v).children)
    (row-single ts t.0 TypeKind _ refl refl k ∙ ap (tree (ty_tree ts t).head (ty_tree ts t).children) (row-single ts r.0 RegionKind none refl refl l))
    ∙ ap (λ (x : Tree). over Cl.TypeOutlives x.children (pair_of (ty_tree ts t) (region_tree ts r))) e)

lives-takes-pair : (w : World) (vs : Forest) (t r : Tree) → kind_of t.head ≡ TypeKind → kind_of r.head ≡ RegionKind → Takes w (over Cl.TypeOutlives vs (pair_of t r))
lives-takes-pair w vs t r k l = λ s. ap (λ (x : List Kind). Some (BinderKind ∷ x)) (ap (λ x. TypeKind ∷ x ∷ []) (sym l) ∙ ap (λ x. x ∷ kind_of r.head ∷ []) (sym k))

pub lives-takes : (c : Context) (v : Vars) (t : Ty) (r : Region) → IsVars c.trees v → IsTy c.trees t → IsRegion c.trees r → vars_tree c.trees v ≡ binder_tree [] → Takes (world c) (clause_kind_tree c.trees (lives-clause v t r))
lives-takes c v t r i k l e =
    subst (Takes (world c)) (sym (lives-is c.trees v t r i k l e))
    (lives-takes-pair (world c) none (ty_tree c.trees t) (region_tree c.trees r) (kind-of c.trees t.0 TypeKind refl k) (kind-of c.trees r.0 RegionKind refl l))

-- All that is required: the bounds, and then both others.

both-more : (start now mid new : Context) (from u : Tree) (sized : TraitId) (old list last : List Requirement) (x y : Clause) → RequiredSoFar start now old (nested (map (bound_said from) (bounds_in u)))
    → Grows now mid → IsClause mid.trees x → clause_tree mid.trees x ≡ meets sized from → Grows mid new → IsClause new.trees y → clause_tree new.trees y ≡ outlives Cl.TypeOutlives from (region_in u)
    → list ≡ old ++ (ImplWhereBound, x) ∷ [] → last ≡ list ++ (Misc, y) ∷ [] → RequiredSoFar start new last (dyn_steps sized from u)
both-more start now mid new from u sized old list last x y so g k is h l lives e f =
    let bs = map (bound_said from) (bounds_in u) in
    let first = one-more start now mid old list ImplWhereBound x (meets sized from) (nested bs) (nested (bs ++ meets sized from ∷ [])) so g k is e (map-append (add ImplWhereBound) bs (meets sized from ∷ [])) in
    one-more start mid new list last Misc y (outlives Cl.TypeOutlives from (region_in u)) (nested (bs ++ meets sized from ∷ [])) (dyn_steps sized from u) first h l lives f refl

-- the parts of a `dyn` type, as they were read
pub record ArePartsOf (ts : List Tree) (u : Ty) (p : Preds) (r : Region) : Type 0 where
  pub region : IsRegion ts r
  pub bounds : bounds_in (ty_tree ts u) ≡ each_of (preds_forest ts p)
  pub region_tree : region_in (ty_tree ts u) ≡ tree_at ts r.0

pub dyn-required : (start first mid new : Context) (t u : Ty) (p : Preds) (r : Region) (sized : TraitId) (old list last : List Requirement) (x y : Clause) → ArePartsOf start.trees u p r → IsTy start.trees t
    → Grows start first → RequirementsFit first.trees old → requirement_steps first.trees old ≡ nested (map (bound_said (ty_tree start.trees t)) (each_of (preds_forest start.trees p)))
    → Grows first mid → IsClause mid.trees x → clause_tree mid.trees x ≡ meets sized (ty_tree first.trees t)
    → Grows mid new → IsClause new.trees y → clause_tree new.trees y ≡ outlives Cl.TypeOutlives (ty_tree mid.trees t) (region_tree mid.trees r)
    → list ≡ old ++ (ImplWhereBound, x) ∷ [] → last ≡ list ++ (Misc, y) ∷ [] → RequiredSoFar start new last (dyn_steps sized (ty_tree start.trees t) (ty_tree start.trees u))
dyn-required start first mid new t u p r sized old list last x y parts i g fit are h k is j l lives e f =
    let from = ty_tree start.trees t in
    let grown = grows-trans start first mid g h in
    both-more start first mid new from (ty_tree start.trees u) sized old list last x y
    (record { grows = g; fit = fit; are = are ∙ ap (λ bs. nested (map (bound_said from) bs)) (sym parts.bounds) })
    h k (is ∙ ap (meets sized) (ty-kept start first t g i).1) j l
    (lives
    ∙ (ap (λ (z : Tree). outlives Cl.TypeOutlives z (region_tree mid.trees r)) (ty-kept start mid t grown i).1
    ∙ ap (outlives Cl.TypeOutlives from) ((region-still start mid r grown parts.region).1 ∙ sym parts.region_tree)))
    e f

-- No parameter stands in it, where none stands in the types.

abbrev pub StepFree : Step → Type 0
StepFree (add s t) = tree_holds is_param t ≡ false
StepFree _ = Unit {0}

abbrev pub StepsFree : List Step → Type 0
StepsFree [] = Unit {0}
StepsFree (s ∷ ss) = StepFree s × StepsFree ss

both-free : (xs ys : List Step) → StepsFree xs → StepsFree ys → StepsFree (xs ++ ys)
both-free [] ys a b = b
both-free (x ∷ xs) ys a b = (a.0, both-free xs ys a.1 b)

abbrev TreesFree : List Tree → Type 0
TreesFree [] = Unit {0}
TreesFree (t ∷ ts) = (tree_holds is_param t ≡ false) × TreesFree ts

trees-both : (xs ys : List Tree) → TreesFree xs → TreesFree ys → TreesFree (xs ++ ys)
trees-both [] ys a b = b
trees-both (x ∷ xs) ys a b = (a.0, trees-both xs ys a.1 b)

added-free : (s : GoalSource) (ts : List Tree) → TreesFree ts → StepsFree (map (add s) ts)
added-free s [] f = tt
added-free s (t ∷ ts) f = (f.0, added-free s ts f.1)

tree-free : (h : Bool) (b : Bool) → h ≡ false → b ≡ false → (h || b) ≡ false
tree-free h b p q = rw (p, q) refl

bounds-free : (t : Tree) (f : Forest) → tree_holds is_param t ≡ false → holds is_param f ≡ false → TreesFree (map (bound_said t) (each_of f))
bounds-free t none e h = tt
bounds-free t (tree g below rest) e h =
    let p = holds_parts is_param g below rest h in
    (said-free t (record { head = g; children = below }) e (tree-free (is_param g) (holds is_param below) p.here p.under), bounds-free t rest e p.others)

row-free : (t : Tree) (rest : Forest) → tree_holds is_param t ≡ false → holds is_param rest ≡ false → holds is_param (tree t.head t.children rest) ≡ false
row-free t rest e h = unmarked is_param t.head t.children rest (or-left _ _ e) (or-right _ _ e) h

pub alone-free : (t : Tree) → holds is_param (alone t) ≡ false → tree_holds is_param t ≡ false
alone-free t e = let p = holds_parts is_param t.head t.children none e in tree-free (is_param t.head) (holds is_param t.children) p.here p.under

self-free : (f : Forest) → holds is_param f ≡ false → tree_holds is_param (first_tree f) ≡ false
self-free none e = refl
self-free (tree g below rest) e = let p = holds_parts is_param g below rest e in tree-free (is_param g) (holds is_param below) p.here p.under

dyn-steps-free : (sized : TraitId) (from to : Tree) → tree_holds is_param from ≡ false → tree_holds is_param to ≡ false → StepsFree (dyn_steps sized from to)
dyn-steps-free sized from to e f =
    let children : holds is_param to.children ≡ false = or-right _ _ f in
    let bounds = bounds-free from (all_but_last to.children) e (but-last-unmarked is_param to.children children) in
    let region = alone-free (region_in to) (last-unmarked is_param to.children refl children) in
    let is_sized : tree_holds is_param (meets sized from) ≡ false = row-free from none e refl in
    let lives : tree_holds is_param (outlives Cl.TypeOutlives from (region_in to)) ≡ false = row-free from (alone (region_in to)) e (row-free (region_in to) none region refl) in
    both-free (nested (map (bound_said from) (bounds_in to) ++ meets sized from ∷ [])) (nested_misc (outlives Cl.TypeOutlives from (region_in to) ∷ []))
    (added-free ImplWhereBound (map (bound_said from) (bounds_in to) ++ meets sized from ∷ []) (trees-both (map (bound_said from) (bounds_in to)) (meets sized from ∷ []) bounds (is_sized, tt)))
    (lives, tt)

require-free : (ts : List Tree) (rs : List Requirement) (ss : List Step) → requirement_steps ts rs ≡ ss → StepsFree ss → RequireNoParameter ts rs
require-free ts [] ss e f = All-nil (λ (r : Requirement). tree_holds is_param (clause_tree ts r.1) ≡ false)
require-free ts (r ∷ rs) [] e f = absurd cc
require-free ts (r ∷ rs) (s ∷ ss) e f =
    let here : add r.0 (clause_tree ts r.1) ≡ s = cc in
    let others : requirement_steps ts rs ≡ ss = cc in
    All-cons (λ (r : Requirement). tree_holds is_param (clause_tree ts r.1) ≡ false) r rs (subst StepFree (sym here) f.0) (require-free ts rs ss others f.1)

-- so of what was gathered for the first of some arguments
pub dyn-required-free : (ts : List Tree) (rs : List Requirement) (sized : TraitId) (from to : Tree) (args : Forest) → requirement_steps ts rs ≡ dyn_steps sized from to → from ≡ first_tree args → holds is_param args ≡ false
    → tree_holds is_param to ≡ false → RequireNoParameter ts rs
dyn-required-free ts rs sized from to args are is e f = require-free ts rs (dyn_steps sized from to) are (dyn-steps-free sized from to (ap (tree_holds is_param) is ∙ self-free args e) f)

-- the steps, as they were read
pub steps-read : (ts : List Tree) (list items : List Requirement) (sized : TraitId) (read from to : Tree) → list ≡ items → requirement_steps ts items ≡ dyn_steps sized read to → read ≡ from → requirement_steps ts list ≡ dyn_steps sized from to
steps-read ts list items sized read from to e are is = ap (requirement_steps ts) e ∙ (are ∙ ap (λ (t : Tree). dyn_steps sized t to) is)
