-- Clauses that are added to a list, and what bounds of an object's type say as clauses.
use Rattle.std.proofs.Common.{◌≡◌, ℕ, ◌+◌, ◌<◌, ◌≤◌, List, [], ◌∷◌, ◌++◌, length, get_or, take, Option, Some, None, refl, sym, ◌∙◌, ap, subst, append_assoc}
use Rattle.std.specs.Prelude.{map}
use Rattle.std.specs.List.{flat_map}
use Rattle.std.proofs.lemmas.List.{append-nil, map_push, take_all, take_more}
use Rattle.std.proofs.lemmas.List.Folds.{flat_map-map}
use Rattle.std.proofs.lemmas.Grind.{flat_map-append}
use Rattle.ir_trees.specs.declared.ir.heads.Head.TheVariants as H
use Rattle.ir_trees.specs.declared.ir.heads.PartHead.TheVariants as P
use Rattle.ir_trees.specs.declared.ir.heads.PredHead.TheVariants as PH
use Rattle.ir_trees.specs.declared.ir.heads.ClauseHead.TheVariants as Cl
use Rattle.ir_trees.specs.declared.ir.kinds.Args.{Args}
use Rattle.ir_trees.specs.declared.ir.kinds.AssocId.{AssocId}
use Rattle.ir_trees.specs.declared.ir.kinds.Binder.{Binder}
use Rattle.ir_trees.specs.declared.ir.kinds.Clause.{Clause}
use Rattle.ir_trees.specs.declared.ir.kinds.ClauseKind.{ClauseKind}
use Rattle.ir_trees.specs.declared.ir.kinds.ClauseKind.TheVariants as K
use Rattle.ir_trees.specs.declared.ir.kinds.ExistentialPredicate.{ExistentialPredicate}
use Rattle.ir_trees.specs.declared.ir.kinds.ExistentialPredicate.TheVariants as E
use Rattle.ir_trees.specs.declared.ir.kinds.ExistentialProjection.{ExistentialProjection}
use Rattle.ir_trees.specs.declared.ir.kinds.GenericArg.{GenericArg}
use Rattle.ir_trees.specs.declared.ir.kinds.GenericArg.TheVariants as G
use Rattle.ir_trees.specs.declared.ir.kinds.Pred.{Pred}
use Rattle.ir_trees.specs.declared.ir.kinds.Preds.{Preds}
use Rattle.ir_trees.specs.declared.ir.kinds.Ty.{Ty}
use Rattle.ir_trees.specs.Declarations.Context.{Context, Grows, world}
use Rattle.ir_trees.specs.Syntax.Nodes.{kind_at, tree_at, trees_at, rows}
use Rattle.ir_trees.specs.Declarations.References.{IsWellFormed, FitsAmong, Takes}
use Rattle.ir_trees.specs.Unification.Substitutions.{alone}
use Rattle.ir_trees.specs.Syntax.Trees.{Kind, TypeKind, PredicateKind, BinderKind, ArgumentsKind, Forest, none, tree, Tree, kind_of, join}
use Rattle.ir_trees.specs.Syntax.Words.{IsArgs, IsClause, IsPred, IsTy, IsVars, ClauseFits, ClauseListFits, PredFits, PredListFits, args_forest, clause_kind_tree, clause_tree, list_forest, pred_kind_tree, pred_list_forest, pred_tree, preds_forest, ty_tree, vars_tree}
use Rattle.ir_trees.specs.Declarations.Worlds.{World, AssociatedTypeSort, joined, kinds_of, parameters}
use Rattle.ir_folds.proofs.Instantiation.Joining.{clause-over, over}
use Rattle.ir_trees.proofs.Growth.Kept.{grows-refl, grows-trans, number-kept, ty-kept, world-kept}
use Rattle.ir_trees.proofs.Syntax.Lists.{below_kind}
use Rattle.ir_context.proofs.Hierarchy.Listing.{clauses_kept, pushed_fits, vars_kept}
use Rattle.ir_trees.proofs.Kinding.References.{fit-at}
use Rattle.ir_trees.proofs.Syntax.Rows.{kind-of, row-list, row-single}
use Rattle.candidate_eval.specs.Dynamic.Required.{as_bound, each_of, own_bound, own_bounds, said_of}

-- One clause more

pub pushed_fit : (c d : Context) (old new : List Clause) (x : Clause) → Grows c d → ClauseListFits c.trees old → IsClause d.trees x → new ≡ old ++ x ∷ [] → ClauseListFits d.trees new
pushed_fit c d old new x g f e n = pushed_fits d.trees old new x (clauses_kept c.trees d.trees old g.kept f).0 e n

pub pushed_trees : (c d : Context) (old new : List Clause) (x : Clause) (t : Tree) → Grows c d → ClauseListFits c.trees old → new ≡ old ++ x ∷ [] → clause_tree d.trees x ≡ t
    → map (clause_tree d.trees) new ≡ map (clause_tree c.trees) old ++ t ∷ []
pushed_trees c d old new x t g f n e =
    ap (map (clause_tree d.trees)) n
    ∙ (map_push (clause_tree d.trees) old x
    ∙ (ap (λ (ts : List Tree). ts ++ clause_tree d.trees x ∷ []) (clauses_kept c.trees d.trees old g.kept f).1 ∙ ap (λ (u : Tree). map (clause_tree c.trees) old ++ u ∷ []) e))

-- Clauses that were added to those before, over a context that grows.
pub record AddedSoFar (start now : Context) (before list : List Clause) (added : List Tree) : Type 0 where
  pub grows : Grows start now
  pub fit : ClauseListFits now.trees list
  pub trees : map (clause_tree now.trees) list ≡ map (clause_tree start.trees) before ++ added

pub none_added : (start : Context) (before list : List Clause) (added : List Tree) → ClauseListFits start.trees before → list ≡ before → added ≡ [] → AddedSoFar start start before list added
none_added start before list added f e n = record {
  grows = grows-refl start;
  fit = subst (ClauseListFits start.trees) (sym e) f;
  trees =
      ap (map (clause_tree start.trees)) e
      ∙ (sym (append-nil (map (clause_tree start.trees) before)) ∙ ap (λ (ts : List Tree). map (clause_tree start.trees) before ++ ts) (sym n));
}

pub more_added : (start now new : Context) (before old list : List Clause) (added more all : List Tree) → AddedSoFar start now before old added → Grows now new → ClauseListFits new.trees list
    → map (clause_tree new.trees) list ≡ map (clause_tree now.trees) old ++ more → all ≡ added ++ more → AddedSoFar start new before list all
more_added start now new before old list added more all s g f e n = record {
  grows = grows-trans start now new s.grows g;
  fit = f;
  trees =
      e
      ∙ (ap (λ (ts : List Tree). ts ++ more) s.trees
      ∙ (append_assoc (map (clause_tree start.trees) before) added more ∙ ap (λ (ts : List Tree). map (clause_tree start.trees) before ++ ts) (sym n)));
}

-- What is gathered of the members of a list, one after the other

pub more_gathered : {X : Type 0} (start now new : Context) (before old list : List Clause) (f : X → List Tree) (xs : List X) (k : ℕ) (d : X) → AddedSoFar start now before old (flat_map f (take k xs))
    → k < length xs → Grows now new → ClauseListFits new.trees list → map (clause_tree new.trees) list ≡ map (clause_tree now.trees) old ++ f (get_or xs k d)
    → AddedSoFar start new before list (flat_map f (take (k + 1) xs))
more_gathered start now new before old list f xs k d s l g fit e =
    let one : flat_map f (get_or xs k d ∷ []) ≡ f (get_or xs k d) = append-nil (f (get_or xs k d)) in
    let next = ap (flat_map f) (take_more xs k d l) ∙ (flat_map-append f (take k xs) (get_or xs k d ∷ []) ∙ ap (λ (us : List Tree). flat_map f (take k xs) ++ us) one) in
    more_added start now new before old list (flat_map f (take k xs)) (f (get_or xs k d)) (flat_map f (take (k + 1) xs)) s g fit e next

pub all_gathered : {X : Type 0} (start now : Context) (before list : List Clause) (f : X → List Tree) (xs : List X) (k : ℕ) → AddedSoFar start now before list (flat_map f (take k xs)) → length xs ≤ k
    → map (clause_tree now.trees) list ≡ map (clause_tree start.trees) before ++ flat_map f xs
all_gathered {X} start now before list f xs k s l = s.trees ∙ ap (λ (ys : List X). map (clause_tree start.trees) before ++ flat_map f ys) (take_all k xs l)

-- The object before the arguments of a bound

pub object_first : (ts : List Tree) (o : Ty) (xs ys : List GenericArg) (a : Args) → IsTy ts o → list_forest ts xs ≡ args_forest ts a → ys ≡ G.Ty o ∷ xs
    → list_forest ts ys ≡ tree (ty_tree ts o).head (ty_tree ts o).children (args_forest ts a)
object_first ts o xs ys a k e s =
    ap (list_forest ts) s ∙ (row-single ts o.0 TypeKind (list_forest ts xs) refl refl k ∙ ap (tree (ty_tree ts o).head (ty_tree ts o).children) e)

-- A projection bound, and the clause that says the same of the object

abbrev pub said_clause : Binder ExistentialProjection → Args → Binder ClauseKind
said_clause b a = record {
  vars = b.vars;
  value = K.Projection (record { projection_term = record { def_id = b.value.def_id; args = a }; term = b.value.term });
}

record Parts (ts : List Tree) (b : Binder ExistentialProjection) : Type 0 where
  vars : IsVars ts b.vars
  args : IsArgs ts b.value.args
  term : IsTy ts b.value.term

parts : (ts : List Tree) (b : Binder ExistentialProjection) → PredFits ts (as_bound b) → Parts ts b
parts ts b f =
    let v : kind_at ts b.vars.0 ≡ BinderKind = cc in
    let a : kind_at ts b.value.args.0 ≡ ArgumentsKind = cc in
    let t : kind_at ts b.value.term.0 ≡ TypeKind = cc in
    record { vars = v; args = a; term = t }

-- the trees after the binder
below : (ts : List Tree) (a t : ℕ) → kind_at ts a ≡ ArgumentsKind → kind_at ts t ≡ TypeKind → rows (trees_at ts (a ∷ t ∷ [])) ≡ join (tree_at ts a).children (alone (tree_at ts t))
below ts a t i k = row-list ts a ArgumentsKind (rows (tree_at ts t ∷ [])) refl refl i ∙ ap (join (tree_at ts a).children) (row-single ts t TypeKind none refl refl k)

abbrev bound-over : AssocId → Tree → Forest → Tree
bound-over i v rest = record { head = H.Part (P.Pred (PH.Projection i)); children = tree v.head v.children rest }

bound-is : (ts : List Tree) (b : Binder ExistentialProjection) → Parts ts b
    → pred_kind_tree ts (as_bound b) ≡ bound-over b.value.def_id (vars_tree ts b.vars) (join (args_forest ts b.value.args) (alone (ty_tree ts b.value.term)))
bound-is ts b p =
    ap (λ (f : Forest). let t : Tree = record { head = H.Part (P.Pred (PH.Projection b.value.def_id)); children = f } in t)
    (row-single ts b.vars.0 BinderKind (rows (trees_at ts (b.value.args.0 ∷ b.value.term.0 ∷ []))) refl refl p.vars
    ∙ ap (tree (vars_tree ts b.vars).head (vars_tree ts b.vars).children) (below ts b.value.args.0 b.value.term.0 p.args p.term))

-- the numbers in the clause are of the context
pub said_fits : (old new : Context) (b : Binder ExistentialProjection) (a : Args) → PredFits old.trees (as_bound b) → Grows old new → IsArgs new.trees a → ClauseFits new.trees (said_clause b a)
said_fits old new b a f g i =
    let p = parts old.trees b f in
    let v : kind_at new.trees b.vars.0 ≡ BinderKind = (vars_kept old new b.vars g p.vars).0 in
    let t : kind_at new.trees b.value.term.0 ≡ TypeKind = (ty-kept old new b.value.term g p.term).0 in
    let l : kind_at new.trees a.0 ≡ ArgumentsKind = i in
    cc

pub said_tree : (old new : Context) (o : Ty) (b : Binder ExistentialProjection) (a : Args) → PredFits old.trees (as_bound b) → Grows old new → IsArgs new.trees a
    → args_forest new.trees a ≡ tree (ty_tree old.trees o).head (ty_tree old.trees o).children (args_forest old.trees b.value.args)
    → clause_kind_tree new.trees (said_clause b a) ≡ said_of (ty_tree old.trees o) (pred_kind_tree old.trees (as_bound b))
said_tree old new o b a f g i e =
    let p = parts old.trees b f in
    let t = ty-kept old new b.value.term g p.term in
    let object = ty_tree old.trees o in
    clause-over new.trees (said_clause b a) (said_fits old new b a f g i)
    ∙ (ap (over (Cl.Projection b.value.def_id) (vars_tree new.trees b.vars).children)
    (below new.trees a.0 b.value.term.0 i t.0
    ∙ (ap (λ (x : Forest). join x (alone (ty_tree new.trees b.value.term))) e
    ∙ ap (λ (x : Tree). tree object.head object.children (join (args_forest old.trees b.value.args) (alone x))) t.1))
    ∙ (ap (λ (x : Tree). over (Cl.Projection b.value.def_id) x.children (tree object.head object.children (join (args_forest old.trees b.value.args) (alone (ty_tree old.trees b.value.term))))) (vars_kept old new b.vars g p.vars).1
    ∙ ap (said_of object) (sym (bound-is old.trees b p))))

-- A clause takes what the bound takes, and the object before.
kinds-said : (o : Option (List Kind)) (k : Kind) (ks : List Kind) → joined (Some (BinderKind ∷ [])) (joined o (Some (TypeKind ∷ []))) ≡ Some (k ∷ ks)
    → joined (Some (BinderKind ∷ [])) (joined (joined (Some (TypeKind ∷ [])) o) (Some (TypeKind ∷ []))) ≡ Some (BinderKind ∷ TypeKind ∷ ks)
kinds-said None k ks e = absurd cc
kinds-said (Some ps) k ks e =
    let same : ps ++ TypeKind ∷ [] ≡ ks = cc in
    ap (λ (us : List Kind). Some (BinderKind ∷ TypeKind ∷ us)) same

over-takes : (w : World) (object : Tree) (i : AssocId) (v : Tree) (rest : Forest) → kind_of object.head ≡ TypeKind → Takes w (bound-over i v rest) → Takes w (said_of object (bound-over i v rest))
over-takes w object i v rest k t =
    λ l. subst (λ (x : Kind). joined (Some (BinderKind ∷ [])) (joined (joined (Some (TypeKind ∷ [])) (parameters w AssociatedTypeSort i.0)) (Some (TypeKind ∷ []))) ≡ Some (BinderKind ∷ x ∷ kinds_of rest)) (sym k)
    (kinds-said (parameters w AssociatedTypeSort i.0) (kind_of v.head) (kinds_of rest) (t refl))

pub said_takes : (old new : Context) (o : Ty) (b : Binder ExistentialProjection) (a : Args) → IsTy old.trees o → PredFits old.trees (as_bound b) → Takes (world old) (pred_kind_tree old.trees (as_bound b))
    → Grows old new → IsArgs new.trees a → args_forest new.trees a ≡ tree (ty_tree old.trees o).head (ty_tree old.trees o).children (args_forest old.trees b.value.args)
    → Takes (world new) (clause_kind_tree new.trees (said_clause b a))
said_takes old new o b a h f t g i e =
    let p = parts old.trees b f in
    let is = bound-is old.trees b p in
    let object = ty_tree old.trees o in
    let k : kind_of object.head ≡ TypeKind = kind-of old.trees o.0 TypeKind refl h in
    let said : Takes (world old) (said_of object (pred_kind_tree old.trees (as_bound b))) =
    subst (λ (x : Tree). Takes (world old) (said_of object x)) (sym is)
    (over-takes (world old) object b.value.def_id (vars_tree old.trees b.vars) (join (args_forest old.trees b.value.args) (alone (ty_tree old.trees b.value.term))) k (subst (Takes (world old)) is t)) in
    subst (λ (w : World). Takes w (clause_kind_tree new.trees (said_clause b a))) (sym (world-kept old new g).0)
    (subst (Takes (world old)) (sym (said_tree old new o b a f g i e)) said)

-- What a bound is, as it is read.

abbrev about : Binder ExistentialPredicate → ExistentialPredicate → Binder ExistentialPredicate
about b v = record { vars = b.vars; value = v }

pub projection_fits : (ts : List Tree) (b : Binder ExistentialPredicate) (p : ExistentialProjection) → PredFits ts b → b.value ≡ E.Projection p → PredFits ts (as_bound (record { vars = b.vars; value = p }))
projection_fits ts b p f e = subst (λ (v : ExistentialPredicate). PredFits ts (about b v)) e f

projection-tree : (ts : List Tree) (x : Pred) (b : Binder ExistentialPredicate) (p : ExistentialProjection) → pred_kind_tree ts b ≡ pred_tree ts x → b.value ≡ E.Projection p
    → pred_kind_tree ts (as_bound (record { vars = b.vars; value = p })) ≡ pred_tree ts x
projection-tree ts x b p s e = sym (ap (λ (v : ExistentialPredicate). pred_kind_tree ts (about b v)) e) ∙ s

pub projection_takes : (c : Context) (x : Pred) (b : Binder ExistentialPredicate) (p : ExistentialProjection) → IsWellFormed c → pred_kind_tree c.trees b ≡ pred_tree c.trees x → b.value ≡ E.Projection p
    → Takes (world c) (pred_kind_tree c.trees (as_bound (record { vars = b.vars; value = p })))
projection_takes c x b p w s e =
    let is = projection-tree c.trees x b p s e in
    let fits : FitsAmong (world c) (pred_kind_tree c.trees (as_bound (record { vars = b.vars; value = p }))) = subst (FitsAmong (world c)) (sym is) (fit-at (world c) c.trees w x.0) in
    λ l. fits.0

pub projection_said : (ts : List Tree) (object : Tree) (x : Pred) (b : Binder ExistentialPredicate) (p : ExistentialProjection) → pred_kind_tree ts b ≡ pred_tree ts x → b.value ≡ E.Projection p
    → said_of object (pred_kind_tree ts (as_bound (record { vars = b.vars; value = p }))) ∷ [] ≡ own_bound object (pred_tree ts x)
projection_said ts object x b p s e = ap (own_bound object) (projection-tree ts x b p s e)

pub no_projection : (ts : List Tree) (object : Tree) (x : Pred) (b : Binder ExistentialPredicate) → pred_kind_tree ts b ≡ pred_tree ts x → ((p : ExistentialProjection) → b.value ≡ E.Projection p → ⊥)
    → own_bound object (pred_tree ts x) ≡ []
no_projection ts object x b s n = ap (own_bound object) (sym s) ∙ of b.value refl
  where
    of : (v : ExistentialPredicate) → b.value ≡ v → own_bound object (pred_kind_tree ts b) ≡ []
    of (E.Trait r) e = ap (λ (v : ExistentialPredicate). own_bound object (pred_kind_tree ts (about b v))) e
    of (E.Projection p) e = absurd (n p e)
    of (E.AutoTrait i) e = ap (λ (v : ExistentialPredicate). own_bound object (pred_kind_tree ts (about b v))) e

-- The bounds of a row

-- what one of them says of the object
abbrev pub bound_said : List Tree → Ty → Pred → List Tree
bound_said ts o x = own_bound (ty_tree ts o) (pred_tree ts x)

each-pred : (ts : List Tree) (xs : List Pred) → PredListFits ts xs → each_of (pred_list_forest ts xs) ≡ map (pred_tree ts) xs
each-pred ts [] f = refl
each-pred ts (x ∷ xs) f =
    let here : kind_at ts x.0 ≡ PredicateKind = cc in
    let others : PredListFits ts xs = cc in
    ap each_of (row-single ts x.0 PredicateKind (pred_list_forest ts xs) refl refl here) ∙ ap (λ (us : List Tree). pred_tree ts x ∷ us) (each-pred ts xs others)

pub all_said : (ts : List Tree) (o : Ty) (p : Preds) (xs : List Pred) → PredListFits ts xs → pred_list_forest ts xs ≡ preds_forest ts p → flat_map (bound_said ts o) xs ≡ own_bounds (ty_tree ts o) (preds_forest ts p)
all_said ts o p xs f e =
    sym (flat_map-map (own_bound (ty_tree ts o)) (pred_tree ts) xs)
    ∙ ap (flat_map (own_bound (ty_tree ts o))) (sym (each-pred ts xs f) ∙ ap each_of e)

pub preds_read : (c d : Context) (p : Preds) (xs ys : List Pred) → d ≡ c → ys ≡ xs → PredListFits d.trees xs → pred_list_forest d.trees xs ≡ preds_forest d.trees p
    → PredListFits c.trees ys × (pred_list_forest c.trees ys ≡ preds_forest c.trees p)
preds_read c d p xs ys q s f e = rw s (subst (λ (x : Context). PredListFits x.trees xs) q f, subst (λ (x : Context). pred_list_forest x.trees xs ≡ preds_forest x.trees p) q e)

-- what is read of the object and of a bound stays
pub said_stays : (start now : Context) (o : Ty) (x : Pred) → Grows start now → IsTy start.trees o → IsPred start.trees x → IsPred now.trees x × (bound_said now.trees o x ≡ bound_said start.trees o x)
said_stays start now o x g i j =
    let k = number-kept start.trees now.trees x.0 g.kept (below_kind start.trees x.0 PredicateKind refl j) in
    (k.0 ∙ j, ap (λ (t : Tree). own_bound t (pred_tree now.trees x)) (ty-kept start now o g i).1 ∙ ap (own_bound (ty_tree start.trees o)) k.1)
