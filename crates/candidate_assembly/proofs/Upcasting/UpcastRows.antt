-- What stands under the binders of bounds and of trait clauses, by their numbers.
use Rattle.std.proofs.Common.{◌≡◌, ◌≤◌, ◌-◌, ℕ, suc, true, Some, arith, length, take, List, [], ◌∷◌, ◌++◌, map, refl, sym, ◌∙◌, ap, subst}
use Rattle.std.proofs.Math.ListN.{drop}
use Rattle.std.proofs.lemmas.List.{take_all}
use Rattle.ir_trees.specs.declared.ir.heads.Head.{Head}
use Rattle.ir_trees.specs.declared.ir.heads.Head.TheVariants as H
use Rattle.ir_trees.specs.declared.ir.heads.PartHead.TheVariants as P
use Rattle.ir_trees.specs.declared.ir.heads.PredHead.TheVariants as PH
use Rattle.ir_trees.specs.declared.ir.kinds.Args.{Args}
use Rattle.ir_trees.specs.declared.ir.kinds.Binder.{Binder}
use Rattle.ir_trees.specs.declared.ir.heads.ClauseHead.TheVariants as Cl
use Rattle.ir_trees.specs.declared.ir.kinds.Pred.{Pred}
use Rattle.ir_trees.specs.declared.ir.kinds.Clause.{Clause}
use Rattle.ir_trees.specs.declared.ir.kinds.ClauseKind.{ClauseKind}
use Rattle.ir_trees.specs.declared.ir.kinds.ClauseKind.TheVariants as K
use Rattle.ir_trees.specs.declared.ir.kinds.TraitPredicate.{TraitPredicate}
use Rattle.ir_trees.specs.declared.ir.kinds.ExistentialPredicate.{ExistentialPredicate}
use Rattle.ir_trees.specs.declared.ir.kinds.ExistentialPredicate.TheVariants as E
use Rattle.ir_trees.specs.declared.ir.kinds.ExistentialProjection.{ExistentialProjection}
use Rattle.ir_trees.specs.declared.ir.kinds.ExistentialTraitRef.{ExistentialTraitRef}
use Rattle.ir_trees.specs.declared.ir.kinds.GenericArg.{GenericArg}
use Rattle.ir_trees.specs.declared.ir.kinds.GenericArg.TheVariants as G
use Rattle.ir_trees.specs.declared.ir.kinds.TraitId.{TraitId}
use Rattle.ir_trees.specs.declared.ir.kinds.Ty.{Ty}
use Rattle.ir_trees.specs.declared.ir.kinds.Vars.{Vars}
use Rattle.ir_trees.specs.Declarations.Context.{Context, Grows}
use Rattle.ir_trees.specs.Syntax.Kinds.{arg_child, clause_head, fact_children, numbers}
use Rattle.ir_trees.specs.Syntax.Nodes.{kind_at, rows, tree_at, trees_at}
use Rattle.ir_trees.specs.Unification.Substitutions.{alone}
use Rattle.ir_trees.specs.Syntax.Trees.{ArgumentsKind, BinderKind, ConstantKind, Kind, PredicateKind, RegionKind, TypeKind, Forest, none, Tree, join, row}
use Rattle.ir_trees.specs.Hierarchy.Supers.{after_first}
use Rattle.ir_trees.specs.Syntax.Words.{ClauseFits, IsArgs, IsPred, IsTy, IsVars, ListFits, PredFits, args_forest, clause_kind_tree, clause_tree, list_forest, pred_kind_tree, pred_tree, ty_tree, vars_tree}
use Rattle.ir_trees.proofs.Growth.Kept.{args-kept, number-kept}
use Rattle.ir_trees.proofs.Syntax.Lists.{below_kind}
use Rattle.ir_folds.proofs.Traversal.FoldRows.{rows-append}
use Rattle.ir_folds.proofs.Instantiation.Joining.{below_binder, clause-over, over as clause-with}
use Rattle.ir_context.proofs.Hierarchy.Listing.{vars_kept}
use Rattle.ir_trees.proofs.Syntax.Rows.{join-none, row-list, row-single}
use Rattle.candidate_eval.specs.Derivations.Characterization.{binder_kinds}
use Rattle.candidate_assembly.specs.Rules.DynBounds.{same_number, trait_of_bound}
use Rattle.candidate_assembly.specs.Calls.Upcasting.{IsReferenceOf, IsRow, IsRowOf, Row, rest_of, row_at, row_under}

-- A type after arguments.

pub pushed-fits : (ts : List Tree) (xs ys : List GenericArg) (t : Ty) → ListFits ts xs → IsTy ts t → ys ≡ xs ++ G.Ty t ∷ [] → ListFits ts ys
pushed-fits ts xs ys t f i e = subst (ListFits ts) (sym e) (whole xs f)
  where
    whole : (xs : List GenericArg) → ListFits ts xs → ListFits ts (xs ++ G.Ty t ∷ [])
    whole [] f = ap (λ (k : Kind). k ∷ []) i
    whole (x ∷ xs) f =
        let here : kind_at ts (arg_child x).0 ≡ (arg_child x).1 = cc in
        let rest : ListFits ts xs = cc in
        let all = whole xs rest in
        cc

pub pushed-trees : (ts : List Tree) (xs ys : List GenericArg) (t : Ty) → IsTy ts t → ys ≡ xs ++ G.Ty t ∷ [] → list_forest ts ys ≡ join (list_forest ts xs) (alone (ty_tree ts t))
pushed-trees ts xs ys t i e =
    ap (list_forest ts) e
    ∙ (ap rows (seen xs)
    ∙ (rows-append (trees_at ts (numbers (map arg_child xs))) (tree_at ts t.0 ∷ []) ∙ ap (join (list_forest ts xs)) (row-single ts t.0 TypeKind none refl refl i)))
  where
    seen : (xs : List GenericArg) → trees_at ts (numbers (map arg_child (xs ++ G.Ty t ∷ []))) ≡ trees_at ts (numbers (map arg_child xs)) ++ tree_at ts t.0 ∷ []
    seen [] = refl
    seen (x ∷ xs) = ap (λ (us : List Tree). tree_at ts (arg_child x).0 ∷ us) (seen xs)

-- The row of a bound.

abbrev over : Tree → Forest → Row
over v below = record { kinds = binder_kinds v.children; trees = below }

abbrev about : Binder ExistentialPredicate → ExistentialPredicate → Binder ExistentialPredicate
about b v = record { vars = b.vars; value = v }

binder-first : (ts : List Tree) (v : Vars) (h : Head) (below : Forest) → IsVars ts v
    → row_under (record { head = h; children = row (vars_tree ts v) below }) ≡ over (vars_tree ts v) below
binder-first ts v h below i = ap (λ (f : Forest). row_under (record { head = h; children = f })) (row-single ts v.0 BinderKind below refl refl i)

module _ (ts : List Tree) (b : Binder ExistentialPredicate) where
  pub trait-row : (r : ExistentialTraitRef) → b.value ≡ E.Trait r → PredFits ts b → IsVars ts b.vars × IsArgs ts r.args × (row_under (pred_kind_tree ts b) ≡ over (vars_tree ts b.vars) (args_forest ts r.args))
  trait-row r is f =
      let fits : PredFits ts (about b (E.Trait r)) = subst (λ (v : ExistentialPredicate). PredFits ts (about b v)) is f in
      let v : kind_at ts b.vars.0 ≡ BinderKind = cc in
      let a : kind_at ts r.args.0 ≡ ArgumentsKind = cc in (
        v,
        a,
        ap (λ (v : ExistentialPredicate). row_under (pred_kind_tree ts (about b v))) is
            ∙ (binder-first ts b.vars (H.Part (P.Pred (PH.Trait r.def_id))) (row (tree_at ts r.args.0) none) v
            ∙ ap (over (vars_tree ts b.vars)) (row-list ts r.args.0 ArgumentsKind none refl refl a ∙ join-none (args_forest ts r.args))),
      )

  pub projection-row : (r : ExistentialProjection) → b.value ≡ E.Projection r → PredFits ts b
      → IsVars ts b.vars × IsArgs ts r.args × IsTy ts r.term × (row_under (pred_kind_tree ts b) ≡ over (vars_tree ts b.vars) (join (args_forest ts r.args) (alone (ty_tree ts r.term))))
  projection-row r is f =
      let fits : PredFits ts (about b (E.Projection r)) = subst (λ (v : ExistentialPredicate). PredFits ts (about b v)) is f in
      let v : kind_at ts b.vars.0 ≡ BinderKind = cc in
      let a : kind_at ts r.args.0 ≡ ArgumentsKind = cc in
      let t : kind_at ts r.term.0 ≡ TypeKind = cc in (
        v,
        a,
        t,
        ap (λ (v : ExistentialPredicate). row_under (pred_kind_tree ts (about b v))) is
            ∙ (binder-first ts b.vars (H.Part (P.Pred (PH.Projection r.def_id))) (row (tree_at ts r.args.0) (row (tree_at ts r.term.0) none)) v
            ∙ ap (over (vars_tree ts b.vars)) (row-list ts r.args.0 ArgumentsKind (row (tree_at ts r.term.0) none) refl refl a ∙ ap (join (args_forest ts r.args)) (row-single ts r.term.0 TypeKind none refl refl t))),
      )

  pub auto-row : (i : TraitId) → b.value ≡ E.AutoTrait i → PredFits ts b → IsVars ts b.vars × (row_under (pred_kind_tree ts b) ≡ over (vars_tree ts b.vars) none)
  auto-row i is f =
      let fits : PredFits ts (about b (E.AutoTrait i)) = subst (λ (v : ExistentialPredicate). PredFits ts (about b v)) is f in
      let v : kind_at ts b.vars.0 ≡ BinderKind = cc in (
        v,
        ap (λ (v : ExistentialPredicate). row_under (pred_kind_tree ts (about b v))) is ∙ binder-first ts b.vars (H.Part (P.Pred (PH.AutoTrait i))) none v,
      )

-- The row that was made, where the binder stays.
pub row-made : (old new : Context) (v : Vars) (a : Args) (below : Forest) (r : Row) → Grows old new → IsVars old.trees v → IsArgs new.trees a → args_forest new.trees a ≡ below → r ≡ over (vars_tree old.trees v) below
    → IsRow new.trees (record { vars = v; value = a }) × (row_at new.trees (record { vars = v; value = a }) ≡ r)
row-made old new v a below r g i j e is =
    let k = vars_kept old new v g i in (
      (k.0, j),
      ap (λ (t : Tree). over t (args_forest new.trees a)) k.1 ∙ (ap (over (vars_tree old.trees v)) e ∙ sym is),
    )

-- The arguments after the first.

abbrev after-one : List GenericArg → List GenericArg
after-one xs = take (length xs - 1) (drop 1 xs)

all-after : (x : GenericArg) (xs : List GenericArg) → after-one (x ∷ xs) ≡ xs
all-after x xs = let long : length xs ≤ suc (length xs) - 1 = omega arith in take_all (length (x ∷ xs) - 1) xs long

pub rest-trees : (ts : List Tree) (xs : List GenericArg) (a : Forest) → 1 ≤ length xs → ListFits ts xs → list_forest ts xs ≡ a → list_forest ts (take (length xs - 1) (drop 1 xs)) ≡ after_first a
rest-trees ts [] a l f e = absurd (omega (arith, l))
rest-trees ts (x ∷ xs) a l f e = ap (list_forest ts) (all-after x xs) ∙ (sym (one x f) ∙ ap after_first e)
  where
    one : (x : GenericArg) → ListFits ts (x ∷ xs) → after_first (list_forest ts (x ∷ xs)) ≡ list_forest ts xs
    one (G.Ty t) f = let i : kind_at ts t.0 ≡ TypeKind = cc in ap after_first (row-single ts t.0 TypeKind (list_forest ts xs) refl refl i)
    one (G.Const t) f = let i : kind_at ts t.0 ≡ ConstantKind = cc in ap after_first (row-single ts t.0 ConstantKind (list_forest ts xs) refl refl i)
    one (G.Region t) f = let i : kind_at ts t.0 ≡ RegionKind = cc in ap after_first (row-single ts t.0 RegionKind (list_forest ts xs) refl refl i)

-- A clause's reference, as it is read.
abbrev says : Binder ClauseKind → ClauseKind → Binder ClauseKind
says b v = record { vars = b.vars; value = v }

pub reference-read : (ts : List Tree) (x : Clause) (b : Binder ClauseKind) (p : TraitPredicate) (n : ℕ) → ClauseFits ts b → clause_kind_tree ts b ≡ clause_tree ts x → b.value ≡ K.Trait p → p.trait_ref.def_id.0 ≡ n
    → IsReferenceOf ts (record { vars = b.vars; value = p.trait_ref }) n (Some (clause_tree ts x))
reference-read ts x b p n f s e same =
    let r = p.trait_ref in
    let g : ClauseFits ts (says b (K.Trait p)) = subst (λ (y : ClauseKind). ClauseFits ts (says b y)) e f in
    let v : kind_at ts b.vars.0 ≡ BinderKind = cc in
    let i : kind_at ts r.args.0 ≡ ArgumentsKind = cc in
    let vs = (vars_tree ts b.vars).children in
    let below : rows (trees_at ts (numbers (fact_children (K.Trait p)))) ≡ args_forest ts r.args = row-list ts r.args.0 ArgumentsKind none refl refl i ∙ join-none (args_forest ts r.args) in
    let o : clause_tree ts x ≡ clause-with (Cl.Trait r.def_id p.polarity) vs (args_forest ts r.args) =
    sym s ∙ (clause-over ts b f ∙ (ap (λ (y : ClauseKind). clause-with (clause_head (says b y)) vs (below_binder ts (says b y))) e ∙ ap (clause-with (Cl.Trait r.def_id p.polarity) vs) below)) in
    record {
      vars = v;
      arguments = i;
      is = ap (λ (t : Tree). same_number (trait_of_bound t.head) (Some n)) o ∙ same-numbers r.def_id.0 n same;
      row = sym (ap row_under o);
    }
  where
    same-numbers : (a b : ℕ) → a ≡ b → same_number (Some a) (Some b) ≡ true
    same-numbers a b e = grind (arith, e)

-- A row stays where a context has grown.
pub row-kept : (old new : Context) (b : Binder Args) → Grows old new → IsRow old.trees b → IsRow new.trees b × (row_at new.trees b ≡ row_at old.trees b)
row-kept old new b g i =
    let v = vars_kept old new b.vars g i.0 in
    let a = args-kept old new b.value g i.1 in
    ((v.0, a.0), ap (λ (t : Tree). over t (args_forest new.trees b.value)) v.1 ∙ ap (over (vars_tree old.trees b.vars)) a.1)

pub row-of-kept : (old new : Context) (b : Binder Args) (r : Row) → Grows old new → IsRowOf old.trees b r → IsRowOf new.trees b r
row-of-kept old new b r g i = let k = row-kept old new b g i.0 in (k.0, k.1 ∙ i.1)

-- So does a bound.
pub pred-kept : (old new : Context) (p : Pred) → Grows old new → IsPred old.trees p → IsPred new.trees p × (pred_tree new.trees p ≡ pred_tree old.trees p)
pred-kept old new p g i =
    let k = number-kept old.trees new.trees p.0 g.kept (below_kind old.trees p.0 PredicateKind refl i) in
    (k.0 ∙ i, k.1)

-- the same said of a bound as it was
pub row-of-bound : (old mid new : Context) (p : Pred) (b : Binder Args) → Grows old mid → IsPred old.trees p → IsRowOf new.trees b (row_under (pred_tree mid.trees p)) → IsRowOf new.trees b (row_under (pred_tree old.trees p))
row-of-bound old mid new p b g i r = (r.0, r.1 ∙ ap row_under (pred-kept old mid p g i).1)

-- The row of a principal without its first argument.
pub rest-made : (old new : Context) (v : Vars) (a b : Args) → Grows old new → IsVars old.trees v → IsArgs new.trees b → args_forest new.trees b ≡ after_first (args_forest old.trees a)
    → IsRowOf new.trees (record { vars = v; value = b }) (rest_of (row_at old.trees (record { vars = v; value = a })))
rest-made old new v a b g i j e =
    let k = vars_kept old new v g i in
    ((k.0, j), ap (λ (t : Tree). over t (args_forest new.trees b)) k.1 ∙ ap (over (vars_tree old.trees v)) e)
