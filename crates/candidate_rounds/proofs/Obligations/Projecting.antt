-- Projection clauses as they are read: the alias, and the term.
use Rattle.std.proofs.Common.{◌≡◌, List, [], ◌∷◌, ◌++◌, Option, Some, refl, sym, ◌∙◌, ap, subst}
use Rattle.ir_trees.specs.declared.ir.heads.Head.TheVariants as H
use Rattle.ir_trees.specs.declared.ir.heads.PartHead.TheVariants as P
use Rattle.ir_trees.specs.declared.ir.heads.ClauseHead.TheVariants as Cl
use Rattle.ir_trees.specs.declared.ir.kinds.Binder.{Binder}
use Rattle.ir_trees.specs.declared.ir.kinds.Clause.{Clause}
use Rattle.ir_trees.specs.declared.ir.kinds.ClauseKind.{ClauseKind}
use Rattle.ir_trees.specs.declared.ir.kinds.ClauseKind.TheVariants as K
use Rattle.ir_trees.specs.declared.ir.kinds.Const.{Const}
use Rattle.ir_trees.specs.declared.ir.kinds.GenericArg.{GenericArg}
use Rattle.ir_trees.specs.declared.ir.kinds.ProjectionPredicate.{ProjectionPredicate}
use Rattle.ir_trees.specs.declared.ir.kinds.Ty.{Ty}
use Rattle.ir_trees.specs.Declarations.Context.{Context, world}
use Rattle.ir_trees.specs.Syntax.Kinds.{clause_head, fact_children, numbers}
use Rattle.ir_trees.specs.Syntax.Nodes.{tree_at, trees_at, rows}
use Rattle.ir_trees.specs.Declarations.References.{IsWellFormed, FitsAmong}
use Rattle.ir_trees.specs.Unification.Substitutions.{alone}
use Rattle.ir_trees.specs.Hierarchy.Supers.{after_first}
use Rattle.ir_trees.specs.Syntax.Trees.{Kind, TypeKind, ConstantKind, BinderKind, ArgumentsKind, Forest, none, tree, Tree, join, kind_of}
use Rattle.ir_trees.specs.Syntax.Words.{IsArgs, IsConst, IsTy, ClauseFits, KindFits, args_forest, clause_tree, clause_kind_tree, const_tree, kind_tree, ty_tree, vars_tree}
use Rattle.ir_trees.specs.Declarations.Worlds.{AssociatedTypeSort, joined, kinds_of, parameters}
use Rattle.ir_trees.proofs.Kinding.Arity.{first-iff, last-iff}
use Rattle.ir_folds.proofs.Instantiation.Joining.{below_binder, clause-over, over}
use Rattle.ir_trees.proofs.Kinding.References.{fit-at}
use Rattle.ir_trees.proofs.Syntax.Rows.{join-none, kind-of, row-list, row-single}
use Rattle.rounds_judge.specs.Obligations.Settling.{alias_of, arguments_of, last_or, term_of, without_last}
use Rattle.candidate_rounds.specs.Table.Trying.{IsProjection, IsRelation, Says, projection_of}

-- The last of several trees, and those before it.

last-joined : (t : Tree) (a : Forest) (u : Tree) → last_or t (join a (alone u)) ≡ u
last-joined t none u = refl
last-joined t (tree h below rest) u = last-joined (record { head = h; children = below }) rest u

pub term-joined : (a : Forest) (t : Tree) → term_of (join a (alone t)) ≡ t
term-joined none t = refl
term-joined (tree h below rest) t = last-joined (record { head = h; children = below }) rest t

without-joined : (t : Tree) (a : Forest) (u : Tree) → without_last t (join a (alone u)) ≡ tree t.head t.children a
without-joined t none u = refl
without-joined t (tree h below rest) u = ap (tree t.head t.children) (without-joined (record { head = h; children = below }) rest u)

pub arguments-joined : (a : Forest) (t : Tree) → arguments_of (join a (alone t)) ≡ a
arguments-joined none t = refl
arguments-joined (tree h below rest) t = without-joined (record { head = h; children = below }) rest t

kinds-joined : (a : Forest) (t : Tree) → kinds_of (join a (alone t)) ≡ kinds_of a ++ kind_of t.head ∷ []
kinds-joined none t = refl
kinds-joined (tree h below rest) t = ap (λ ks. kind_of h ∷ ks) (kinds-joined rest t)

abbrev about : Binder ClauseKind → ClauseKind → Binder ClauseKind
about b v = record { vars = b.vars; value = v }

fits-as : (ts : List Tree) (b : Binder ClauseKind) (v : ClauseKind) → b.value ≡ v → ClauseFits ts b → ClauseFits ts (about b v)
fits-as ts b v e f = subst (λ (y : ClauseKind). ClauseFits ts (about b y)) e f

alias-tree : (ts : List Tree) (p : ProjectionPredicate) → IsArgs ts p.projection_term.args
    → kind_tree ts (projection_of p) ≡ record { head = (kind_tree ts (projection_of p)).head; children = args_forest ts p.projection_term.args }
alias-tree ts p i =
    ap (λ (f : Forest). let t : Tree = record { head = (kind_tree ts (projection_of p)).head; children = f } in t)
    (row-list ts p.projection_term.args.0 ArgumentsKind none refl refl i ∙ join-none (args_forest ts p.projection_term.args))

-- The alias is the one of the facts.
pub alias-is : (c : Context) (x : Tree) (p : ProjectionPredicate) → IsProjection c x p → alias_of p.projection_term.def_id (after_first x.children) ≡ kind_tree c.trees (projection_of p)
alias-is c x p r =
    let a = args_forest c.trees p.projection_term.args in
    ap (alias_of p.projection_term.def_id) r.facts
    ∙ (ap (λ (f : Forest). let t : Tree = record { head = (kind_tree c.trees (projection_of p)).head; children = f } in t) (arguments-joined a (ty_tree c.trees p.term))
    ∙ sym (alias-tree c.trees p r.arguments))

pub term-is : (c : Context) (x : Tree) (p : ProjectionPredicate) → IsProjection c x p → term_of (after_first x.children) ≡ ty_tree c.trees p.term
term-is c x p r = ap term_of r.facts ∙ term-joined (args_forest c.trees p.projection_term.args) (ty_tree c.trees p.term)

pub projection-fits : (c : Context) (x : Tree) (p : ProjectionPredicate) → IsProjection c x p → KindFits c.trees (projection_of p)
projection-fits c x p r = ap (λ k. k ∷ []) r.arguments

takes-alias : (ps : Option (List Kind)) (ks : List Kind)
    → joined (Some (BinderKind ∷ [])) (joined (joined (Some (TypeKind ∷ [])) ps) (Some (TypeKind ∷ []))) ≡ Some (BinderKind ∷ (ks ++ TypeKind ∷ []))
    → joined (Some (TypeKind ∷ [])) ps ≡ Some ks
takes-alias ps ks e =
    let o = joined (Some (TypeKind ∷ [])) ps in
    (last-iff TypeKind o ks).0 ((first-iff BinderKind (joined o (Some (TypeKind ∷ []))) (ks ++ TypeKind ∷ [])).0 e)

pub projection-read : (c : Context) (x : Clause) (b : Binder ClauseKind) (p : ProjectionPredicate) → IsWellFormed c → ClauseFits c.trees b → clause_kind_tree c.trees b ≡ clause_tree c.trees x
    → b.value ≡ K.Projection p → IsProjection c (clause_tree c.trees x) p
projection-read c x b p w f s e = record {
  arguments = i;
  term = o;
  head = ap (λ (t : Tree). t.head) is;
  facts = ap (λ (t : Tree). after_first t.children) is;
  takes = λ _. subst (λ (t : Tree). joined (Some (TypeKind ∷ [])) ps ≡ Some (kinds_of t.children)) (sym (alias-tree c.trees p i)) (takes-alias ps (kinds_of a) fact-kinds);
}
  where
    a : Forest
    a = args_forest c.trees p.projection_term.args

    t : Tree
    t = ty_tree c.trees p.term

    ps : Option (List Kind)
    ps = parameters (world c) AssociatedTypeSort p.projection_term.def_id.0

    g : ClauseFits c.trees (about b (K.Projection p))
    g = fits-as c.trees b (K.Projection p) e f

    i : IsArgs c.trees p.projection_term.args
    i = let h = g in cc

    o : IsTy c.trees p.term
    o = let h = g in cc

    below : rows (trees_at c.trees (numbers (fact_children (K.Projection p)))) ≡ join a (alone t)
    below = row-list c.trees p.projection_term.args.0 ArgumentsKind (rows (tree_at c.trees p.term.0 ∷ [])) refl refl i ∙ ap (join a) (row-single c.trees p.term.0 TypeKind none refl refl o)

    is : clause_tree c.trees x ≡ over (Cl.Projection p.projection_term.def_id) (vars_tree c.trees b.vars).children (join a (alone t))
    is =
        sym s
        ∙ (clause-over c.trees b f
        ∙ (ap (λ (y : ClauseKind). over (clause_head (about b y)) (vars_tree c.trees b.vars).children (below_binder c.trees (about b y))) e
        ∙ ap (over (Cl.Projection p.projection_term.def_id) (vars_tree c.trees b.vars).children) below))

    fact-kinds : joined (Some (BinderKind ∷ [])) (joined (joined (Some (TypeKind ∷ [])) ps) (Some (TypeKind ∷ []))) ≡ Some (BinderKind ∷ (kinds_of a ++ TypeKind ∷ []))
    fact-kinds =
        let h : FitsAmong (world c) (over (Cl.Projection p.projection_term.def_id) (vars_tree c.trees b.vars).children (join a (alone t))) = subst (FitsAmong (world c)) is (fit-at (world c) c.trees w x.0) in
        let k : kind_of t.head ≡ TypeKind = kind-of c.trees p.term.0 TypeKind refl o in
        h.0 ∙ (ap (λ ks. Some (BinderKind ∷ ks)) (kinds-joined a t) ∙ ap (λ j. Some (BinderKind ∷ (kinds_of a ++ j ∷ []))) k)

-- Two arguments that are to be one, as they are read.

module _ (c : Context) (x : Clause) (b : Binder ClauseKind) (f : ClauseFits c.trees b) (s : clause_kind_tree c.trees b ≡ clause_tree c.trees x) where
  clause-is-over : (v : ClauseKind) (below : Forest) → b.value ≡ v → below_binder c.trees (about b v) ≡ below → clause_tree c.trees x ≡ over (clause_head (about b v)) (vars_tree c.trees b.vars).children below
  clause-is-over v below e is =
      sym s
      ∙ (clause-over c.trees b f
      ∙ (ap (λ (y : ClauseKind). over (clause_head (about b y)) (vars_tree c.trees b.vars).children (below_binder c.trees (about b y))) e
      ∙ ap (over (clause_head (about b v)) (vars_tree c.trees b.vars).children) is))

  types-read : (t u : Ty) → b.value ≡ K.AliasRelate t u → IsRelation c (clause_tree c.trees x) Cl.AliasRelate (GenericArg.Ty t) (GenericArg.Ty u)
  types-read t u e =
      let g : ClauseFits c.trees (about b (K.AliasRelate t u)) = fits-as c.trees b (K.AliasRelate t u) e f in
      let i : IsTy c.trees t = cc in
      let o : IsTy c.trees u = cc in
      let below = row-single c.trees t.0 TypeKind (rows (tree_at c.trees u.0 ∷ [])) refl refl i ∙ ap (join (alone (ty_tree c.trees t))) (row-single c.trees u.0 TypeKind none refl refl o) in
      let is = clause-is-over (K.AliasRelate t u) (join (alone (ty_tree c.trees t)) (alone (ty_tree c.trees u))) e below in
      record { first = i; second = o; head = ap (λ (t : Tree). t.head) is; facts = ap (λ (t : Tree). after_first t.children) is }

  constants-read : (t u : Const) → b.value ≡ K.ConstEquate t u → IsRelation c (clause_tree c.trees x) Cl.ConstEquate (GenericArg.Const t) (GenericArg.Const u)
  constants-read t u e =
      let g : ClauseFits c.trees (about b (K.ConstEquate t u)) = fits-as c.trees b (K.ConstEquate t u) e f in
      let i : IsConst c.trees t = cc in
      let o : IsConst c.trees u = cc in
      let below = row-single c.trees t.0 ConstantKind (rows (tree_at c.trees u.0 ∷ [])) refl refl i ∙ ap (join (alone (const_tree c.trees t))) (row-single c.trees u.0 ConstantKind none refl refl o) in
      let is = clause-is-over (K.ConstEquate t u) (join (alone (const_tree c.trees t)) (alone (const_tree c.trees u))) e below in
      record { first = i; second = o; head = ap (λ (t : Tree). t.head) is; facts = ap (λ (t : Tree). after_first t.children) is }

-- What is read of any clause.
pub clause-read : (c : Context) (x : Clause) (b : Binder ClauseKind) → IsWellFormed c → ClauseFits c.trees b → clause_kind_tree c.trees b ≡ clause_tree c.trees x → Says c (clause_tree c.trees x) b.value
clause-read c x b w f s = at b.value refl
  where
    head-as : (v : ClauseKind) → b.value ≡ v → (clause_tree c.trees x).head ≡ H.Part (P.Clause (clause_head (about b v)))
    head-as v e = ap (λ (t : Tree). t.head) (sym s) ∙ ap (λ (y : ClauseKind). H.Part (P.Clause (clause_head (about b y)))) e

    at : (v : ClauseKind) → b.value ≡ v → Says c (clause_tree c.trees x) v
    at (K.Trait p) e = head-as (K.Trait p) e
    at (K.Projection p) e = projection-read c x b p w f s e
    at (K.TypeOutlives t r) e = head-as (K.TypeOutlives t r) e
    at (K.RegionOutlives t r) e = head-as (K.RegionOutlives t r) e
    at (K.AliasRelate t u) e = types-read c x b f s t u e
    at (K.ConstEquate t u) e = constants-read c x b f s t u e
