-- The bounds of `dyn` types, and what each says of a type as a clause.
use Rattle.std.proofs.Common.{◌≡◌, Bool, false, true, List, [], ◌∷◌, Option, Some, None, refl, sym, ap, subst, ◌∙◌}
use Rattle.std.specs.List.{filter}
use Rattle.ir_trees.specs.declared.ir.heads.Head.{Head}
use Rattle.ir_trees.specs.declared.ir.heads.Head.TheVariants as H
use Rattle.ir_trees.specs.declared.ir.heads.PartHead.TheVariants as P
use Rattle.ir_trees.specs.declared.ir.heads.PredHead.{PredHead}
use Rattle.ir_trees.specs.declared.ir.heads.PredHead.TheVariants as PH
use Rattle.ir_trees.specs.declared.ir.kinds.Args.{Args}
use Rattle.ir_trees.specs.declared.ir.kinds.Binder.{Binder}
use Rattle.ir_trees.specs.declared.ir.kinds.ClauseKind.{ClauseKind}
use Rattle.ir_trees.specs.declared.ir.kinds.ExistentialPredicate.{ExistentialPredicate}
use Rattle.ir_trees.specs.declared.ir.kinds.ExistentialPredicate.TheVariants as E
use Rattle.ir_trees.specs.declared.ir.kinds.ExistentialTraitRef.{ExistentialTraitRef}
use Rattle.ir_trees.specs.declared.ir.kinds.GenericArg.{GenericArg}
use Rattle.ir_trees.specs.declared.ir.kinds.GenericArg.TheVariants as G
use Rattle.ir_trees.specs.declared.ir.kinds.PredicatePolarity.TheVariants as Pol
use Rattle.ir_trees.specs.declared.ir.kinds.Pred.{Pred}
use Rattle.ir_trees.specs.declared.ir.kinds.Preds.{Preds}
use Rattle.ir_trees.specs.declared.ir.kinds.Region.{Region}
use Rattle.ir_trees.specs.declared.ir.kinds.TraitId.{TraitId}
use Rattle.ir_trees.specs.declared.ir.kinds.TraitPredicate.{TraitPredicate}
use Rattle.ir_trees.specs.declared.ir.kinds.Ty.{Ty}
use Rattle.ir_trees.specs.declared.ir.kinds.TyKind.TheVariants as K
use Rattle.ir_trees.specs.declared.ir.kinds.Vars.{Vars}
use Rattle.ir_trees.specs.Declarations.Context.{Context, Grows, world}
use Rattle.ir_trees.specs.Declarations.Names.{principal_of}
use Rattle.ir_trees.specs.Syntax.Nodes.{kind_at, tree_at}
use Rattle.ir_trees.specs.Declarations.References.{ArgumentsFit, FitsAmong, IsWellFormed, Takes}
use Rattle.ir_trees.specs.Unification.Substitutions.{alone}
use Rattle.ir_trees.specs.Hierarchy.Supers.{after_first}
use Rattle.ir_trees.specs.Hierarchy.Elaboration.{first_children}
use Rattle.ir_trees.specs.Syntax.Trees.{Kind, TypeKind, RegionKind, BinderKind, ArgumentsKind, PredicatesKind, Forest, none, tree, Tree, holds, is_param, join, kind_of, tree_holds}
use Rattle.ir_trees.specs.Syntax.Words.{ClauseFits, IsArgs, IsTy, IsVars, KindFits, PredFits, args_forest, clause_kind_tree, kind_tree, list_forest, pred_kind_tree, pred_tree, preds_forest, region_tree, ty_tree, vars_tree}
use Rattle.ir_trees.specs.Declarations.Worlds.{World, TraitSort, joined, kinds_of, parameters}
use Rattle.ir_trees.proofs.Instantiation.Folding.{or-left, or-right}
use Rattle.ir_trees.proofs.Growth.Kept.{world-kept}
use Rattle.ir_context.proofs.Hierarchy.Listing.{vars_kept}
use Rattle.ir_trees.proofs.Kinding.References.{fit-at}
use Rattle.ir_trees.proofs.Syntax.Rows.{join-none, kind-of, row-list, row-single}
use Rattle.candidate_eval.specs.Builtins.Callable.{all_but_last, last_tree}
use Rattle.candidate_eval.specs.Dynamic.ObjectRequirements.{trait_fact}
use Rattle.candidate_eval.specs.Dynamic.Required.{each_of}
use Rattle.candidate_eval.proofs.Marks.Holds.{holds_parts}
use Rattle.candidate_eval.proofs.Marks.Marking.{unmarked}
use Rattle.candidate_eval.proofs.Dynamic.Required as required
use Rattle.candidate_assembly.specs.Rules.BuiltinRules.{holds_of}
use Rattle.candidate_assembly.specs.Rules.DynBounds.{bound_arguments, bound_said, bounds_in, clause_head_by, first_listed, is_compatible, is_principal, kind_said, number_is_compatible, principal_in, region_in}
use Rattle.candidate_assembly.proofs.Goals.TraitClauses.{fact-fits, fact-is, fact-takes}

-- The parts of a `dyn` type.

last-alone : (a : Forest) (t : Tree) → all_but_last (join a (alone t)) ≡ a
last-alone none t = refl
last-alone (tree g b none) t = refl
last-alone (tree g b (tree k c rest)) t = ap (tree g b) (last-alone (tree k c rest) t)

last-is : (a : Forest) (t : Tree) → last_tree (join a (alone t)) ≡ t
last-is none t = refl
last-is (tree g b none) t = refl
last-is (tree g b (tree k c rest)) t = last-is (tree k c rest) t

children-are : (ts : List Tree) (b : Preds) (r : Region) → KindFits ts (K.Dynamic b r) → (kind_tree ts (K.Dynamic b r)).children ≡ join (preds_forest ts b) (alone (region_tree ts r))
children-are ts b r f =
    let p : kind_at ts b.0 ≡ PredicatesKind = cc in
    let k : kind_at ts r.0 ≡ RegionKind = cc in
    row-list ts b.0 PredicatesKind _ refl refl p ∙ ap (join (tree_at ts b.0).children) (row-single ts r.0 RegionKind none refl refl k)

pub dyn-bounds : (ts : List Tree) (b : Preds) (r : Region) (t : Tree) → KindFits ts (K.Dynamic b r) → kind_tree ts (K.Dynamic b r) ≡ t → bounds_in t ≡ each_of (preds_forest ts b)
dyn-bounds ts b r t f is =
    sym (ap bounds_in is) ∙ (ap (λ x. each_of (all_but_last x)) (children-are ts b r f) ∙ ap each_of (last-alone (preds_forest ts b) (region_tree ts r)))

pub dyn-region : (ts : List Tree) (b : Preds) (r : Region) (t : Tree) → KindFits ts (K.Dynamic b r) → kind_tree ts (K.Dynamic b r) ≡ t → region_in t ≡ region_tree ts r
dyn-region ts b r t f is =
    sym (ap region_in is) ∙ (ap last_tree (children-are ts b r f) ∙ last-is (preds_forest ts b) (region_tree ts r))

-- The trait of the principal, by its number.

abbrev pub compatible-with : Context → Option TraitId → Bool
compatible-with c None = true
compatible-with c (Some i) = number_is_compatible c (Some i.0)

principal-is : (c : Context) (f : Forest) → compatible-with c (principal_of f) ≡ is_compatible c (first_listed (filter (λ b. is_principal b.head) (each_of f)))
principal-is c none = refl
principal-is c (tree (H.Part (P.Pred (PH.Trait i))) below rest) = refl
principal-is c (tree (H.Part (P.Pred (PH.Projection i))) below rest) = principal-is c rest
principal-is c (tree (H.Part (P.Pred (PH.AutoTrait i))) below rest) = principal-is c rest
principal-is c (tree (H.Part (P.Clause i)) below rest) = principal-is c rest
principal-is c (tree (H.Part P.Sig) below rest) = principal-is c rest
principal-is c (tree (H.Part P.Vars) below rest) = principal-is c rest
principal-is c (tree (H.Part (P.Var k)) below rest) = principal-is c rest
principal-is c (tree _ below rest) = principal-is c rest

pub no-principal : (c : Context) (o : Option TraitId) → ((i : TraitId) → o ≡ Some i → ⊥) → true ≡ compatible-with c o
no-principal c None n = refl
no-principal c (Some i) n = absurd (n i refl)

pub compatible-is : (c : Context) (t : Tree) (b : Preds) (o : Option TraitId) → bounds_in t ≡ each_of (preds_forest c.trees b) → o ≡ principal_of (preds_forest c.trees b)
    → compatible-with c o ≡ is_compatible c (principal_in t)
compatible-is c t b o is p =
    ap (compatible-with c) p
    ∙ (principal-is c (preds_forest c.trees b) ∙ ap (λ bs. is_compatible c (first_listed (filter (λ b. is_principal b.head) bs))) (sym is))

-- The clause.

abbrev pub bound-of : Vars → ExistentialPredicate → Binder ExistentialPredicate
bound-of vs v = record { vars = vs; value = v }

abbrev pub said-clause : Vars → ExistentialPredicate → Args → Binder ClauseKind
said-clause vs v a = record { vars = vs; value = kind_said v a }

abbrev holds-fact : TraitId → Args → TraitPredicate
holds-fact i a = record { trait_ref = record { def_id = i; args = a }; polarity = Pol.Positive }

-- the type, and then the arguments of the bound
abbrev pub type-first : Tree → Forest → Forest
type-first t ts = tree t.head t.children ts

vars-there : (ts : List Tree) (vs : Vars) (v : ExistentialPredicate) → PredFits ts (bound-of vs v) → IsVars ts vs
vars-there ts vs (E.Trait r) f = cc
vars-there ts vs (E.Projection p) f = cc
vars-there ts vs (E.AutoTrait i) f = cc

pub said-fits : (old new : Context) (vs : Vars) (v : ExistentialPredicate) (a : Args) → PredFits old.trees (bound-of vs v) → Grows old new → IsArgs new.trees a → ClauseFits new.trees (said-clause vs v a)
said-fits old new vs (E.Trait r) a f g i = fact-fits new.trees vs (holds-fact r.def_id a) (vars_kept old new vs g (vars-there old.trees vs (E.Trait r) f)).0 i
said-fits old new vs (E.Projection p) a f g i = required.said_fits old new (record { vars = vs; value = p }) a f g i
said-fits old new vs (E.AutoTrait t) a f g i = fact-fits new.trees vs (holds-fact t a) (vars_kept old new vs g (vars-there old.trees vs (E.AutoTrait t) f)).0 i

-- a bound that says that a trait holds
abbrev trait-over : PredHead → Tree → Forest → Tree
trait-over h v args = record { head = H.Part (P.Pred h); children = tree v.head v.children args }

trait-is : (ts : List Tree) (vs : Vars) (r : ExistentialTraitRef) → PredFits ts (bound-of vs (E.Trait r)) → pred_kind_tree ts (bound-of vs (E.Trait r)) ≡ trait-over (PH.Trait r.def_id) (vars_tree ts vs) (args_forest ts r.args)
trait-is ts vs r f =
    let v : kind_at ts vs.0 ≡ BinderKind = cc in
    let a : kind_at ts r.args.0 ≡ ArgumentsKind = cc in
    ap (λ (x : Forest). let t : Tree = record { head = H.Part (P.Pred (PH.Trait r.def_id)); children = x } in t)
    (row-single ts vs.0 BinderKind _ refl refl v
    ∙ ap (tree (vars_tree ts vs).head (vars_tree ts vs).children) (row-list ts r.args.0 ArgumentsKind none refl refl a ∙ join-none (args_forest ts r.args)))

auto-is : (ts : List Tree) (vs : Vars) (i : TraitId) → PredFits ts (bound-of vs (E.AutoTrait i)) → pred_kind_tree ts (bound-of vs (E.AutoTrait i)) ≡ trait-over (PH.AutoTrait i) (vars_tree ts vs) none
auto-is ts vs i f =
    let v : kind_at ts vs.0 ≡ BinderKind = cc in
    ap (λ (x : Forest). let t : Tree = record { head = H.Part (P.Pred (PH.AutoTrait i)); children = x } in t) (row-single ts vs.0 BinderKind none refl refl v)

-- What is made over the type and the arguments says it.
fact-said : (old new : Context) (vs : Vars) (i : TraitId) (a : Args) (args : Forest) → IsVars old.trees vs → Grows old new → IsArgs new.trees a → args_forest new.trees a ≡ args
    → clause_kind_tree new.trees (trait_fact vs (holds-fact i a)) ≡ holds_of i Pol.Positive (vars_tree old.trees vs).children args
fact-said old new vs i a args v g k e =
    let there = vars_kept old new vs g v in
    fact-is new.trees vs (holds-fact i a) there.0 k
    ∙ (ap (λ (x : Tree). holds_of i Pol.Positive x.children (args_forest new.trees a)) there.1 ∙ ap (holds_of i Pol.Positive (vars_tree old.trees vs).children) e)

pub said-tree : (old new : Context) (t : Ty) (vs : Vars) (v : ExistentialPredicate) (a : Args) → PredFits old.trees (bound-of vs v) → Grows old new → IsArgs new.trees a
    → args_forest new.trees a ≡ type-first (ty_tree old.trees t) (bound_arguments old.trees v)
    → clause_kind_tree new.trees (said-clause vs v a) ≡ bound_said (ty_tree old.trees t) (pred_kind_tree old.trees (bound-of vs v))
said-tree old new t vs (E.Trait r) a f g i e =
    fact-said old new vs r.def_id a (type-first (ty_tree old.trees t) (args_forest old.trees r.args)) (vars-there old.trees vs (E.Trait r) f) g i e
    ∙ sym (ap (bound_said (ty_tree old.trees t)) (trait-is old.trees vs r f))
said-tree old new t vs (E.Projection p) a f g i e = required.said_tree old new t (record { vars = vs; value = p }) a f g i e
said-tree old new t vs (E.AutoTrait j) a f g i e =
    fact-said old new vs j a (type-first (ty_tree old.trees t) none) (vars-there old.trees vs (E.AutoTrait j) f) g i e
    ∙ sym (ap (bound_said (ty_tree old.trees t)) (auto-is old.trees vs j f))

-- It takes what the bound takes, and the type before.

after-binder : (o : Option (List Kind)) (k : Kind) (ks : List Kind) → joined (Some (BinderKind ∷ [])) o ≡ Some (k ∷ ks) → o ≡ Some ks
after-binder None k ks e = absurd cc
after-binder (Some ps) k ks e =
    let same : ps ≡ ks = cc in ap Some same

arguments-fit : (old new : Context) (t : Ty) (i : TraitId) (a : Args) (args : Forest) → IsTy old.trees t → Grows old new → parameters (world old) TraitSort i.0 ≡ Some (kinds_of args)
    → args_forest new.trees a ≡ type-first (ty_tree old.trees t) args → ArgumentsFit new (record { def_id = i; args = a })
arguments-fit old new t i a args k g p e =
    ap (λ (w : World). joined (Some (TypeKind ∷ [])) (parameters w TraitSort i.0)) (world-kept old new g).0
    ∙ (ap (joined (Some (TypeKind ∷ []))) p
    ∙ (ap (λ (x : Kind). Some (x ∷ kinds_of args)) (sym (kind-of old.trees t.0 TypeKind refl k)) ∙ ap (λ x. Some (kinds_of x)) (sym e)))

takes-trait : (w : World) (i : TraitId) (v : Tree) (args : Forest) → Takes w (trait-over (PH.Trait i) v args) → parameters w TraitSort i.0 ≡ Some (kinds_of args)
takes-trait w i v args t = after-binder (parameters w TraitSort i.0) (kind_of v.head) (kinds_of args) (t refl)

takes-auto : (w : World) (i : TraitId) (v : Tree) → Takes w (trait-over (PH.AutoTrait i) v none) → parameters w TraitSort i.0 ≡ Some []
takes-auto w i v t = after-binder (parameters w TraitSort i.0) (kind_of v.head) [] (t refl)

pub said-takes : (old new : Context) (t : Ty) (vs : Vars) (v : ExistentialPredicate) (a : Args) → IsTy old.trees t → PredFits old.trees (bound-of vs v) → Takes (world old) (pred_kind_tree old.trees (bound-of vs v))
    → Grows old new → IsArgs new.trees a → args_forest new.trees a ≡ type-first (ty_tree old.trees t) (bound_arguments old.trees v)
    → Takes (world new) (clause_kind_tree new.trees (said-clause vs v a))
said-takes old new t vs (E.Trait r) a h f takes g i e =
    let there = vars_kept old new vs g (vars-there old.trees vs (E.Trait r) f) in
    let p = takes-trait (world old) r.def_id (vars_tree old.trees vs) (args_forest old.trees r.args) (subst (Takes (world old)) (trait-is old.trees vs r f) takes) in
    fact-takes new vs (holds-fact r.def_id a) there.0 i (arguments-fit old new t r.def_id a (args_forest old.trees r.args) h g p e)
said-takes old new t vs (E.Projection p) a h f takes g i e = required.said_takes old new t (record { vars = vs; value = p }) a h f takes g i e
said-takes old new t vs (E.AutoTrait j) a h f takes g i e =
    let there = vars_kept old new vs g (vars-there old.trees vs (E.AutoTrait j) f) in
    let p = takes-auto (world old) j (vars_tree old.trees vs) (subst (Takes (world old)) (auto-is old.trees vs j f) takes) in
    fact-takes new vs (holds-fact j a) there.0 i (arguments-fit old new t j a none h g p e)

-- a bound of the context takes what it is to take
pub bound-takes : (c : Context) (x : Pred) (b : Binder ExistentialPredicate) → IsWellFormed c → pred_kind_tree c.trees b ≡ pred_tree c.trees x → Takes (world c) (pred_kind_tree c.trees b)
bound-takes c x b w s =
    let fits : FitsAmong (world c) (pred_kind_tree c.trees b) = subst (FitsAmong (world c)) (sym s) (fit-at (world c) c.trees w x.0) in
    λ l. fits.0

-- The arguments of a bound, as they are read.

pub trait-args-there : (ts : List Tree) (b : Binder ExistentialPredicate) (r : ExistentialTraitRef) → PredFits ts b → b.value ≡ E.Trait r → IsArgs ts r.args
trait-args-there ts b r f e = of (subst (λ (v : ExistentialPredicate). PredFits ts (bound-of b.vars v)) e f)
  where
    of : PredFits ts (bound-of b.vars (E.Trait r)) → IsArgs ts r.args
    of f = cc

-- the type before them
pub type-before : (ts : List Tree) (t : Ty) (xs ys : List GenericArg) (args : Forest) → IsTy ts t → list_forest ts xs ≡ args → ys ≡ G.Ty t ∷ xs → list_forest ts ys ≡ type-first (ty_tree ts t) args
type-before ts t xs ys args k e s = ap (list_forest ts) s ∙ (row-single ts t.0 TypeKind (list_forest ts xs) refl refl k ∙ ap (type-first (ty_tree ts t)) e)

-- and the list that is made of them, where it was read in a context that is this one
pub list-made : (old seen : Context) (t : Ty) (v : ExistentialPredicate) (xs ys : List GenericArg) (f : Forest) → f ≡ list_forest old.trees ys → ys ≡ xs → seen ≡ old
    → list_forest seen.trees xs ≡ type-first (ty_tree seen.trees t) (bound_arguments seen.trees v) → f ≡ type-first (ty_tree old.trees t) (bound_arguments old.trees v)
list-made old seen t v xs ys f made same this e =
    made
    ∙ (ap (list_forest old.trees) same
    ∙ subst (λ (x : Context). list_forest x.trees xs ≡ type-first (ty_tree x.trees t) (bound_arguments x.trees v)) this e)

-- No parameter stands in what a bound says of a type, where none stands in either.

head-free : (h : Head) → is_param h ≡ false → is_param (clause_head_by h) ≡ false
head-free (H.Part (P.Pred (PH.Trait i))) e = refl
head-free (H.Part (P.Pred (PH.Projection i))) e = refl
head-free (H.Part (P.Pred (PH.AutoTrait i))) e = refl
head-free (H.Part (P.Clause i)) e = e
head-free (H.Part P.Sig) e = e
head-free (H.Part P.Vars) e = e
head-free (H.Part (P.Var k)) e = e
head-free _ e = e

parts-free : (f : Forest) → holds is_param f ≡ false → (holds is_param (first_children f) ≡ false) × (holds is_param (after_first f) ≡ false)
parts-free none e = (refl, refl)
parts-free (tree h below rest) e =
    let p = holds_parts is_param h below rest e in
    (p.under, p.others)

pub said-free : (t b : Tree) → tree_holds is_param t ≡ false → tree_holds is_param b ≡ false → tree_holds is_param (bound_said t b) ≡ false
said-free t b e f =
    let p = parts-free b.children (or-right _ _ f) in
    let inner = unmarked is_param t.head t.children (after_first b.children) (or-left _ _ e) (or-right _ _ e) p.1 in
    let below = unmarked is_param (H.Part P.Vars) (first_children b.children) (tree t.head t.children (after_first b.children)) refl p.0 inner in
    rw (head-free b.head (or-left _ _ f), below) refl
