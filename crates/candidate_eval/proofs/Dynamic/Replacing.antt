-- Projections of an object's own, found and replaced.
use Rattle.std.proofs.Common.{◌≡◌, ◌↔◌, ℕ, Bool, true, false, ◌&&◌, List, [], ◌∷◌, ◌++◌, Option, Some, None, refl, sym, ◌∙◌, ap, subst, append_assoc, IsTrue}
use Rattle.std.proofs.lemmas.List.{append-nil, map_push}
use Rattle.std.specs.Prelude.{◌||◌}
use Rattle.std.specs.List.{list_any}
use Rattle.ir_trees.specs.declared.ir.heads.Head.{Head}
use Rattle.ir_trees.specs.declared.ir.kinds.AliasTerm.{AliasTerm}
use Rattle.ir_trees.specs.declared.ir.kinds.AssocId.{AssocId}
use Rattle.ir_trees.specs.declared.ir.kinds.Clause.{Clause}
use Rattle.ir_trees.specs.declared.ir.kinds.GenericArg.{GenericArg}
use Rattle.ir_trees.specs.declared.ir.kinds.GenericArg.TheVariants as G
use Rattle.ir_trees.specs.declared.ir.heads.Head.TheVariants as H
use Rattle.ir_trees.specs.declared.ir.kinds.AliasTy.{AliasTy}
use Rattle.ir_trees.specs.declared.ir.kinds.Args.{Args}
use Rattle.ir_trees.specs.declared.ir.kinds.Ty.{Ty}
use Rattle.ir_trees.specs.declared.ir.kinds.TyKind.{TyKind}
use Rattle.ir_trees.specs.declared.ir.kinds.TyKind.TheVariants as K
use Rattle.ir_trees.specs.Hierarchy.Elaboration.{same_tree}
use Rattle.ir_trees.specs.Instantiation.Folds.{IsArg, arg_tree, is_asked, is_asked_kind}
use Rattle.ir_trees.specs.Syntax.Kinds.{arg_number, arg_kind}
use Rattle.ir_trees.specs.Syntax.Nodes.{tree_at, kind_at}
use Rattle.ir_trees.specs.Syntax.Trees.{Kind, TypeKind, ConstantKind, RegionKind, ArgumentsKind, ClauseKind, Forest, none, tree, Tree, holds, is_alias, kind_of}
use Rattle.ir_trees.specs.Validity.WellFormed.{TypesFit}
use Rattle.ir_trees.specs.Syntax.Words.{IsArgs, IsClause, IsTy, KindFits, ListFits, args_forest, clause_tree, kind_tree, list_forest, ty_tree}
use Rattle.ir_context.proofs.Hierarchy.Elaboration.{tree_is, tree_itself}
use Rattle.ir_trees.proofs.Instantiation.Folding.{or-left, or-right}
use Rattle.ir_trees.specs.Syntax.Trees.{there}
use Rattle.ir_trees.proofs.Syntax.Rows.{join-none, kind-of, row-list, row-single}
use Rattle.candidate_eval.specs.Builtins.Asked.{first_ty}
use Rattle.candidate_eval.specs.Dynamic.Objects.{Projection, is_about, projection_at}
use Rattle.candidate_eval.specs.Dynamic.Replacing.{alias_in, any_is_about, clauses_at, finds_own, item_of, left_by, own_item, own_projection, projection_if, starts_with, types_at, Finds, projections, found_or, AreProjections, projections_at}

-- Bounds that are about an associated type.

abbrev pub about : List Tree → AssocId → Clause → Bool
about ts i c = is_about i.0 (clause_tree ts c).head

pub any-listed : (ts : List Tree) (i : AssocId) (cs : List Clause) → list_any (about ts i) cs ≡ any_is_about i.0 (clauses_at ts cs)
any-listed ts i [] = refl
any-listed ts i (c ∷ cs) = ap (λ (b : Bool). about ts i c || b) (any-listed ts i cs)

-- Trees that are compared.

pub same-says : (t u : Tree) (b : Bool) → IsTrue b ↔ (t ≡ u) → b ≡ same_tree t u
same-says t u true e = sym (ap (same_tree t) (sym (e.0 refl)) ∙ tree_itself t)
same-says t u false e = of (same_tree t u) refl
  where
    of : (b : Bool) → same_tree t u ≡ b → false ≡ same_tree t u
    of true q = let s : IsTrue false = e.1 (tree_is t u q) in absurd cc
    of false q = sym q

-- The first of some arguments.

first-tree : (ts : List Tree) (n : ℕ) (k : Kind) (t : Tree) → there k ≡ true → kind_at ts n ≡ k → (k ≡ TypeKind → ⊥) → kind_of t.head ≡ TypeKind → same_tree (tree_at ts n) t ≡ false
first-tree ts n k t th e x s = of (same_tree (tree_at ts n) t) refl
  where
    of : (b : Bool) → same_tree (tree_at ts n) t ≡ b → same_tree (tree_at ts n) t ≡ false
    of true q = absurd (x (sym (kind-of ts n k th e) ∙ (ap (λ (u : Tree). kind_of u.head) (tree_is (tree_at ts n) t q) ∙ s)))
    of false q = q

pub first-fits : (ts : List Tree) (xs : List GenericArg) (f : Ty) → ListFits ts xs → first_ty xs ≡ Some f → IsTy ts f
first-fits ts [] f l e = absurd cc
first-fits ts (G.Ty g ∷ xs) f l e = let s : g ≡ f = cc in let i : IsTy ts g = cc in subst (IsTy ts) s i
first-fits ts (G.Const g ∷ xs) f l e = absurd cc
first-fits ts (G.Region g ∷ xs) f l e = absurd cc

pub starts-typed : (ts : List Tree) (xs : List GenericArg) (a : Forest) (f t : Ty) (b : Bool) → ListFits ts xs → list_forest ts xs ≡ a → first_ty xs ≡ Some f
    → IsTrue b ↔ (ty_tree ts f ≡ ty_tree ts t) → b ≡ starts_with (ty_tree ts t) a
starts-typed ts [] a f t b l s e i = absurd cc
starts-typed ts (G.Ty g ∷ xs) a f t b l s e i =
    let same : g ≡ f = cc in
    let fits : IsTy ts g = cc in
    same-says (ty_tree ts f) (ty_tree ts t) b i
    ∙ (ap (λ (y : Ty). same_tree (ty_tree ts y) (ty_tree ts t)) (sym same)
    ∙ (ap (starts_with (ty_tree ts t)) (sym (row-single ts g.0 TypeKind (list_forest ts xs) refl refl fits)) ∙ ap (starts_with (ty_tree ts t)) s))
starts-typed ts (G.Const g ∷ xs) a f t b l s e i = absurd cc
starts-typed ts (G.Region g ∷ xs) a f t b l s e i = absurd cc

pub starts-other : (ts : List Tree) (xs : List GenericArg) (a : Forest) (t : Ty) → ListFits ts xs → list_forest ts xs ≡ a → first_ty xs ≡ None → IsTy ts t → false ≡ starts_with (ty_tree ts t) a
starts-other ts [] a t l s e i = ap (starts_with (ty_tree ts t)) s
starts-other ts (G.Ty g ∷ xs) a t l s e i = absurd cc
starts-other ts (G.Const g ∷ xs) a t l s e i =
    let fits : kind_at ts g.0 ≡ ConstantKind = cc in
    let k = kind-of ts t.0 TypeKind refl i in
    sym (first-tree ts g.0 ConstantKind (ty_tree ts t) refl fits (λ z. absurd cc) k)
    ∙ (ap (starts_with (ty_tree ts t)) (sym (row-single ts g.0 ConstantKind (list_forest ts xs) refl refl fits)) ∙ ap (starts_with (ty_tree ts t)) s)
starts-other ts (G.Region g ∷ xs) a t l s e i =
    let fits : kind_at ts g.0 ≡ RegionKind = cc in
    let k = kind-of ts t.0 TypeKind refl i in
    sym (first-tree ts g.0 RegionKind (ty_tree ts t) refl fits (λ z. absurd cc) k)
    ∙ (ap (starts_with (ty_tree ts t)) (sym (row-single ts g.0 RegionKind (list_forest ts xs) refl refl fits)) ∙ ap (starts_with (ty_tree ts t)) s)

-- Projections that are found, one child after the other.

-- where no alias stands there is none
pub none-found : (object : Tree) (bounds : List Tree) (ts : Forest) → holds is_alias ts ≡ false → [] ≡ projections (own_projection object bounds) ts
none-found object bounds none e = refl
none-found object bounds (tree h below rest) e =
    let inner = or-right (is_alias h) (holds is_alias below || holds is_alias rest) e in
    let here : None ≡ own_projection object bounds h below = ap (own_item object bounds below) (sym (no-item h (or-left (is_alias h) (holds is_alias below || holds is_alias rest) e))) in
    let under = none-found object bounds below (or-left (holds is_alias below) (holds is_alias rest) inner) in
    let after = none-found object bounds rest (or-right (holds is_alias below) (holds is_alias rest) inner) in
    λ i. found_or (here i) (under i) ++ after i
  where
    no-item : (h : Head) → is_alias h ≡ false → item_of h ≡ None
    no-item (H.Alias k i) e = absurd cc
    no-item _ e = refl

pub one-found : (ts : List Tree) (f : Finds) (whole : List Projection) (xs ys : List AliasTerm) (p : AliasTerm) (h : Head) (b now next : Forest) → AreProjections ts xs
    → whole ≡ projections_at ts xs ++ projections f now → now ≡ tree h b next → IsArgs ts p.args → f h b ≡ Some (projection_at ts p) → ys ≡ xs ++ p ∷ []
    → AreProjections ts ys × (whole ≡ projections_at ts ys ++ projections f next)
one-found ts f whole xs ys p h b now next a w n i e y = (
  subst (AreProjections ts) (sym y) (listed-more xs a),
  w
      ∙ (ap (λ (t : Forest). projections_at ts xs ++ projections f t) n
      ∙ (ap (λ (o : Option Projection). projections_at ts xs ++ (found_or o (projections f b) ++ projections f next)) e
      ∙ (sym (append_assoc (projections_at ts xs) (projection_at ts p ∷ []) (projections f next))
      ∙ ap (λ (l : List Projection). l ++ projections f next) (sym (map_push (projection_at ts) xs p) ∙ ap (projections_at ts) (sym y))))),
)
  where
    listed-more : (zs : List AliasTerm) → AreProjections ts zs → AreProjections ts (zs ++ p ∷ [])
    listed-more [] a = (i, tt)
    listed-more (z ∷ zs) a = (a.0, listed-more zs a.1)

pub one-below : (ts : List Tree) (f : Finds) (whole : List Projection) (xs ys : List AliasTerm) (h : Head) (b now next : Forest) → AreProjections ts ys
    → whole ≡ projections_at ts xs ++ projections f now → now ≡ tree h b next → f h b ≡ None → projections_at ts ys ≡ projections_at ts xs ++ projections f b
    → AreProjections ts ys × (whole ≡ projections_at ts ys ++ projections f next)
one-below ts f whole xs ys h b now next a w n e y = (
  a,
  w
      ∙ (ap (λ (t : Forest). projections_at ts xs ++ projections f t) n
      ∙ (ap (λ (o : Option Projection). projections_at ts xs ++ (found_or o (projections f b) ++ projections f next)) e
      ∙ (sym (append_assoc (projections_at ts xs) (projections f b) (projections f next)) ∙ ap (λ (l : List Projection). l ++ projections f next) (sym y)))),
)

pub none-added : (ts : List Tree) (f : Finds) (xs : List AliasTerm) (below : Forest) → [] ≡ projections f below → projections_at ts xs ≡ projections_at ts xs ++ projections f below
none-added ts f xs below e = sym (append-nil (projections_at ts xs)) ∙ ap (λ (l : List Projection). projections_at ts xs ++ l) e

-- Types that are projections of the object's own, and other arguments.

no-alias : (h : Head) → (kind_of h ≡ TypeKind → ⊥) → item_of h ≡ None
no-alias (H.Alias k i) x = absurd (x refl)
no-alias _ x = refl

pub no-type-kind : (a : GenericArg) → ((t : Ty) → a ≡ G.Ty t → ⊥) → arg_kind a ≡ TypeKind → ⊥
no-type-kind (G.Ty t) n e = n t refl
no-type-kind (G.Const t) n e = absurd cc
no-type-kind (G.Region t) n e = absurd cc

pub not-type : (ts : List Tree) (a : GenericArg) (object : Ty) (bounds : List Clause) → IsArg ts a → (arg_kind a ≡ TypeKind → ⊥) → finds_own ts object bounds (arg_tree ts a).head (arg_tree ts a).children ≡ None
not-type ts a object bounds i x =
    ap (own_item (ty_tree ts object) (clauses_at ts bounds) (arg_tree ts a).children)
    (no-alias (arg_tree ts a).head (λ e. x (sym (kind-of ts (arg_number a) (arg_kind a) (is-there a) i) ∙ e)))
  where
    is-there : (b : GenericArg) → there (arg_kind b) ≡ true
    is-there (G.Ty t) = refl
    is-there (G.Const t) = refl
    is-there (G.Region t) = refl

pub clause-none : (ts : List Tree) (c : Clause) (object : Ty) (bounds : List Clause) → IsClause ts c → finds_own ts object bounds (clause_tree ts c).head (clause_tree ts c).children ≡ None
clause-none ts c object bounds i =
    ap (own_item (ty_tree ts object) (clauses_at ts bounds) (clause_tree ts c).children)
    (no-alias (clause_tree ts c).head (λ e. let k = sym (kind-of ts c.0 ClauseKind refl i) ∙ e in absurd cc))

pub unasked-none : (object : Tree) (bounds : List Tree) (h : Head) (below : Forest) → is_asked h ≡ false → own_projection object bounds h below ≡ None
unasked-none object bounds h below e = ap (own_item object bounds below) (no-alias h (λ k. let z = sym (ap is_asked_kind k) ∙ e in absurd cc))

alias-is : (k : TyKind) (a : AliasTy) → alias_in k ≡ Some a → k ≡ K.Alias a
alias-is (K.Alias b) a e = cc
alias-is _ a e = absurd cc

alias-tree : (ts : List Tree) (a : AliasTy) → KindFits ts (K.Alias a) → kind_tree ts (K.Alias a) ≡ record { head = H.Alias a.kind a.id; children = args_forest ts a.args }
alias-tree ts a f =
    let i : IsArgs ts a.args = cc in
    ap (λ (b : Forest). let v : Tree = record { head = H.Alias a.kind a.id; children = b } in v) (row-list ts a.args.0 ArgumentsKind none refl refl i ∙ join-none (args_forest ts a.args))

-- What is found at a type, by what was tested.
pub own-found : (ts : List Tree) (t object : Ty) (bounds : List Clause) (k : TyKind) (a : AliasTy) (p : AliasTerm) (b : Bool) → KindFits ts k → kind_tree ts k ≡ ty_tree ts t → alias_in k ≡ Some a
    → p.args ≡ a.args → item_of (H.Alias a.kind a.id) ≡ Some p.def_id.0 → b ≡ (starts_with (ty_tree ts object) (args_forest ts p.args) && any_is_about p.def_id.0 (clauses_at ts bounds))
    → finds_own ts object bounds (ty_tree ts t).head (ty_tree ts t).children ≡ projection_if b p.def_id.0 (args_forest ts p.args)
own-found ts t object bounds k a p b f e s x y z =
    let o = ty_tree ts object in
    let cs = clauses_at ts bounds in
    let is = alias-is k a s in
    let tree : ty_tree ts t ≡ record { head = H.Alias a.kind a.id; children = args_forest ts a.args } = sym e ∙ (ap (kind_tree ts) is ∙ alias-tree ts a (subst (KindFits ts) is f)) in
    ap (λ (u : Tree). own_projection o cs u.head u.children) tree
    ∙ (ap (own_item o cs (args_forest ts a.args)) y
    ∙ (ap (λ (l : Args). own_item o cs (args_forest ts l) (Some p.def_id.0)) (sym x) ∙ ap (λ (c : Bool). projection_if c p.def_id.0 (args_forest ts p.args)) (sym z)))

pub alias-args : (ts : List Tree) (k : TyKind) (a : AliasTy) (p : AliasTerm) → KindFits ts k → alias_in k ≡ Some a → p.args ≡ a.args → IsArgs ts p.args
alias-args ts k a p f s x =
    let g = subst (KindFits ts) (alias-is k a s) f in
    let i : IsArgs ts a.args = cc in
    subst (IsArgs ts) (sym x) i

pub projections-fit : (ts : List Tree) (k : TyKind) (a : AliasTy) → KindFits ts k → alias_in k ≡ Some a → IsArgs ts a.args
projections-fit ts k a f s = let g = subst (KindFits ts) (alias-is k a s) f in cc

-- Terms that are left.

pub left-types : (ts : List Tree) (o : Option Projection) (us : List Ty) → types_at ts (left_by o us) ≡ left_by o (types_at ts us)
left-types ts None us = refl
left-types ts (Some p) [] = refl
left-types ts (Some p) (u ∷ us) = refl

pub left-fit : (ts : List Tree) (o : Option Projection) (us : List Ty) → TypesFit ts us → TypesFit ts (left_by o us)
left-fit ts None us f = f
left-fit ts (Some p) [] f = f
left-fit ts (Some p) (u ∷ us) f = cc

pub first-type-fits : (ts : List Tree) (u : Ty) (us : List Ty) → TypesFit ts (u ∷ us) → IsTy ts u
first-type-fits ts u us f = cc

-- What is found is found at a type.
pub is-a-type : (ts : List Tree) (a : GenericArg) (object : Ty) (bounds : List Clause) → IsArg ts a → (finds_own ts object bounds (arg_tree ts a).head (arg_tree ts a).children ≡ None → ⊥) → TypeKind ≡ arg_kind a
is-a-type ts (G.Ty t) object bounds i n = refl
is-a-type ts (G.Const t) object bounds i n = absurd (n (not-type ts (G.Const t) object bounds i (λ e. absurd cc)))
is-a-type ts (G.Region t) object bounds i n = absurd (n (not-type ts (G.Region t) object bounds i (λ e. absurd cc)))
