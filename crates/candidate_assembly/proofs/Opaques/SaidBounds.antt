-- The bounds of opaque types, said of another type.
use Rattle.std.proofs.Common.{◌≡◌, ◌<◌, ◌+◌, ℕ, false, All, List, [], ◌∷◌, ◌++◌, length, map, take, get_or, refl, sym, ap, subst, ◌∙◌}
use Rattle.std.specs.List.{flat_map}
use Rattle.std.proofs.lemmas.List.{map-append, take_more}
use Rattle.std.proofs.lemmas.List.Elements.{All-append, All-cons, All-nil}
use Rattle.std.proofs.lemmas.List.Folds.{flat_map-map}
use Rattle.ir_trees.specs.declared.decl.contents.AliasBoundKind.TheVariants.{SelfBounds}
use Rattle.ir_trees.specs.declared.ir.heads.Head.TheVariants as H
use Rattle.ir_trees.specs.declared.ir.kinds.AliasKind.{AliasKind}
use Rattle.ir_trees.specs.declared.ir.kinds.AliasTy.{AliasTy}
use Rattle.ir_trees.specs.declared.ir.kinds.Clause.{Clause}
use Rattle.ir_trees.specs.declared.ir.kinds.Ty.{Ty}
use Rattle.ir_trees.specs.declared.ir.kinds.TyKind.TheVariants as TK
use Rattle.ir_trees.specs.Declarations.Context.{Context, Grows, world}
use Rattle.ir_trees.specs.Instantiation.Folding.{substituted_tree}
use Rattle.ir_trees.specs.Instantiation.Owned.{is_unsolved}
use Rattle.ir_trees.specs.Declarations.References.{Takes}
use Rattle.ir_trees.specs.Syntax.Trees.{ArgumentsKind, Forest, none, Tree, tree_holds}
use Rattle.ir_trees.specs.Validity.WellFormed.{IsWellFormedTable}
use Rattle.ir_trees.specs.Syntax.Words.{ClauseListFits, IsArgs, IsClause, IsTy, KindFits, args_forest, clause_tree, kind_tree, ty_tree}
use Rattle.ir_folds.proofs.Instantiation.Joining.{clause-kept}
use Rattle.ir_trees.proofs.Growth.Kept.{grows-trans, ty-kept}
use Rattle.ir_trees.proofs.Growth.Made.{IsClause-listed}
use Rattle.ir_trees.proofs.Syntax.Rows.{join-none, row-list}
use Rattle.candidate_eval.specs.Interface.Evaluators.{IsHiddenOpaque, alias_trees}
use Rattle.candidate_eval.specs.Dynamic.Required.{self_bounds}
use Rattle.candidate_eval.proofs.Outcomes.Responding.{clauses-kept}
use Rattle.candidate_assembly.specs.Rules.AliasBounds.{alias_bounds, has_bounds}
use Rattle.candidate_assembly.specs.Calls.AliasChains.{IsBoundedAlias}
use Rattle.candidate_assembly.specs.Rules.Opaques.{AreClosedBounds, bounds_said, with_type_for}
use Rattle.candidate_assembly.proofs.Aliases.AliasChains.{alias-kept, alias-tree, bounds-fit, same-bounds}

-- A clause with one type in the place of another, as one of a list.
abbrev pub one-with-type : List Tree → Ty → Ty → Clause → List Tree
one-with-type ts old new x = with_type_for (ty_tree ts old) (ty_tree ts new) (clause_tree ts x) ∷ []

-- It stays where a context grows.
pub with-type-kept : (a b : Context) (old new : Ty) (x : Clause) → Grows a b → IsTy a.trees old → IsTy a.trees new → IsClause a.trees x → one-with-type b.trees old new x ≡ one-with-type a.trees old new x
with-type-kept a b old new x g i j k =
    ap (λ (t : Tree). with_type_for t (ty_tree b.trees new) (clause_tree b.trees x) ∷ []) (ty-kept a b old g i).1
    ∙ (ap (λ (t : Tree). with_type_for (ty_tree a.trees old) t (clause_tree b.trees x) ∷ []) (ty-kept a b new g j).1
    ∙ ap (λ (t : Tree). with_type_for (ty_tree a.trees old) (ty_tree a.trees new) t ∷ []) (clause-kept a b x g k).1)

pub all-with-type : (ts : List Tree) (old new : Ty) (xs : List Clause) → flat_map (one-with-type ts old new) xs ≡ map (with_type_for (ty_tree ts old) (ty_tree ts new)) (map (clause_tree ts) xs)
all-with-type ts old new [] = refl
all-with-type ts old new (x ∷ xs) = ap (λ (us : List Tree). with_type_for (ty_tree ts old) (ty_tree ts new) (clause_tree ts x) ∷ us) (all-with-type ts old new xs)

-- Opaque types that may be hidden behind a variable.

pub hidden-bounded : (c : Context) (n : ℕ) (a : AliasTy) → IsHiddenOpaque c n a → IsBoundedAlias c a
hidden-bounded c n a h = record { args = h.args; fit = h.fit; has = ap (λ (k : AliasKind). has_bounds (H.Alias k a.id)) h.is_opaque }

pub alias-fits : (c : Context) (a : AliasTy) → IsBoundedAlias c a → KindFits c.trees (TK.Alias a)
alias-fits c a b = ap (λ k. k ∷ []) b.args

pub alias-takes : (c : Context) (a : AliasTy) → IsBoundedAlias c a → Takes (world c) (kind_tree c.trees (TK.Alias a))
alias-takes c a b = subst (Takes (world c)) (sym (alias-tree c.trees a b.args)) (λ no. b.fit)

-- The bounds of one of them.

abbrev pub put : List Tree → Forest → Clause → Tree
put ts args x = substituted_tree args (clause_tree ts x)

pub bounds-read : (c : Context) (a : AliasTy) → IsArgs c.trees a.args → alias_bounds c SelfBounds (kind_tree c.trees (TK.Alias a)) ≡ map (put c.trees (args_forest c.trees a.args)) (self_bounds c a.id.0)
bounds-read c a is = ap (λ (ts : Forest). map (put c.trees ts) (self_bounds c a.id.0)) (row-list c.trees a.args.0 ArgumentsKind none refl refl is ∙ join-none (args_forest c.trees a.args))

-- They are said of another type, after nodes were made.
pub said-is : (old mid late : Context) (a : AliasTy) (ty made : Ty) (xs : List Clause) → IsBoundedAlias old a → Grows old mid → Grows mid late → IsTy old.trees ty → ty_tree late.trees made ≡ kind_tree mid.trees (TK.Alias a) → ClauseListFits mid.trees xs
    → map (clause_tree mid.trees) xs ≡ map (put old.trees (args_forest old.trees a.args)) (self_bounds old a.id.0)
    → map (with_type_for (ty_tree late.trees made) (ty_tree late.trees ty)) (map (clause_tree late.trees) xs) ≡ bounds_said old (ty_tree old.trees ty) (kind_tree old.trees (TK.Alias a))
said-is old mid late a ty made xs b g h i is fit read =
    let t = kind_tree old.trees (TK.Alias a) in
    ap (λ (x : Tree). map (with_type_for x (ty_tree late.trees ty)) (map (clause_tree late.trees) xs)) (is ∙ (alias-kept old mid a g b).1)
    ∙ (ap (λ (x : Tree). map (with_type_for t x) (map (clause_tree late.trees) xs)) (ty-kept old late ty (grows-trans old mid late g h) i).1
    ∙ ap (map (with_type_for t (ty_tree old.trees ty))) ((clauses-kept mid late xs h fit).1 ∙ (read ∙ sym (bounds-read old a b.args))))

-- They stay where a context grows.

pub put-kept : (c now : Context) (f : Forest) (xs : List Clause) → Grows c now → ClauseListFits c.trees xs → map (put now.trees f) xs ≡ map (put c.trees f) xs
put-kept c now f [] g h = refl
put-kept c now f (x ∷ xs) g h =
    let here : IsClause c.trees x = cc in
    let rest : ClauseListFits c.trees xs = cc in
    ap (λ (t : Tree). substituted_tree f t ∷ map (put now.trees f) xs) (clause-kept c now x g here).1 ∙ ap (λ (us : List Tree). put c.trees f x ∷ us) (put-kept c now f xs g rest)

pub bounds-kept : (c now : Context) (a : AliasTy) → IsWellFormedTable c → Grows c now → IsBoundedAlias c a → alias_bounds now SelfBounds (kind_tree now.trees (TK.Alias a)) ≡ alias_bounds c SelfBounds (kind_tree c.trees (TK.Alias a))
bounds-kept c now a t g b =
    let u = kind_tree c.trees (TK.Alias a) in
    let later = alias-kept c now a g b in
    ap (alias_bounds now SelfBounds) later.1
    ∙ (ap (map (put now.trees u.children)) (same-bounds c now SelfBounds a.id.0 g) ∙ put-kept c now u.children (self_bounds c a.id.0) g (bounds-fit c now a SelfBounds t g later.0))

pub said-kept : (c now : Context) (a : AliasTy) (ty : Ty) → IsWellFormedTable c → Grows c now → IsBoundedAlias c a → IsTy c.trees ty
    → bounds_said now (ty_tree now.trees ty) (kind_tree now.trees (TK.Alias a)) ≡ bounds_said c (ty_tree c.trees ty) (kind_tree c.trees (TK.Alias a))
said-kept c now a ty t g b i =
    ap (λ (x : Tree). bounds_said now x (kind_tree now.trees (TK.Alias a))) (ty-kept c now ty g i).1
    ∙ (ap (λ (x : Tree). map (with_type_for x (ty_tree c.trees ty)) (alias_bounds now SelfBounds (kind_tree now.trees (TK.Alias a)))) (alias-kept c now a g b).1
    ∙ ap (map (with_type_for (kind_tree c.trees (TK.Alias a)) (ty_tree c.trees ty))) (bounds-kept c now a t g b))

pub closed-before : (c now : Context) (a : AliasTy) → IsWellFormedTable c → Grows c now → IsBoundedAlias c a → AreClosedBounds now a → AreClosedBounds c a
closed-before c now a t g b h =
    let fit = bounds-fit c now a SelfBounds t g (alias-kept c now a g b).0 in
    let same : All (λ (x : Clause). tree_holds is_unsolved (clause_tree now.trees x) ≡ false) (self_bounds c a.id.0)
    = subst (λ (ws : List Clause). All (λ (x : Clause). tree_holds is_unsolved (clause_tree now.trees x) ≡ false) ws) (same-bounds c now SelfBounds a.id.0 g) h in
    λ k d l. ap (tree_holds is_unsolved) (sym (clause-kept c now (get_or (self_bounds c a.id.0) k d) g (IsClause-listed c.trees (self_bounds c a.id.0) k d l fit)).1) ∙ same k d l

pub one-more-of : {X : Type 0} (P : X → Type 0) (xs : List X) (k : ℕ) (d : X) → k < length xs → All P (take k xs) → P (get_or xs k d) → All P (take (k + 1) xs)
one-more-of P xs k d l h p = subst (All P) (sym (take_more xs k d l)) (All-append P (take k xs) (get_or xs k d ∷ []) h (All-cons P (get_or xs k d) [] p (All-nil P)))

-- Clauses that were added behind others.

pub both-fit : (ts : List Tree) (xs ys : List Clause) → ClauseListFits ts xs → ClauseListFits ts ys → ClauseListFits ts (xs ++ ys)
both-fit ts [] ys f h = h
both-fit ts (x ∷ xs) ys f h =
    let here : IsClause ts x = cc in
    let rest : ClauseListFits ts xs = cc in
    let more = both-fit ts xs ys rest h in
    cc

pub appended-fit : (now new : Context) (old list said : List Clause) → Grows now new → ClauseListFits now.trees old → ClauseListFits new.trees said → list ≡ old ++ said → ClauseListFits new.trees list
appended-fit now new old list said g f h is = subst (ClauseListFits new.trees) (sym is) (both-fit new.trees old said (clauses-kept now new old g f).0 h)

pub appended-trees : (now new : Context) (old list said : List Clause) (us : List Tree) → Grows now new → ClauseListFits now.trees old → list ≡ old ++ said → map (clause_tree new.trees) said ≡ us
    → map (clause_tree new.trees) list ≡ map (clause_tree now.trees) old ++ us
appended-trees now new old list said us g f is e =
    ap (map (clause_tree new.trees)) is
    ∙ (map-append (clause_tree new.trees) old said
    ∙ (ap (λ (ts : List Tree). ts ++ map (clause_tree new.trees) said) (clauses-kept now new old g f).1 ∙ ap (λ (ts : List Tree). map (clause_tree now.trees) old ++ ts) e))

-- what one of them says of the type, by its numbers
abbrev pub said-of : Context → Ty → AliasTy → List Tree
said-of c ty a = bounds_said c (ty_tree c.trees ty) (kind_tree c.trees (TK.Alias a))

pub all-said-of : (c : Context) (ty : Ty) (xs : List AliasTy) → flat_map (said-of c ty) xs ≡ flat_map (bounds_said c (ty_tree c.trees ty)) (alias_trees c.trees xs)
all-said-of c ty xs = sym (flat_map-map (bounds_said c (ty_tree c.trees ty)) (λ (a : AliasTy). kind_tree c.trees (TK.Alias a)) xs)
