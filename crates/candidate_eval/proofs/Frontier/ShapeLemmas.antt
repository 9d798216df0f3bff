-- The shapes of views.
use Rattle.std.proofs.Common.{◌≡◌, ◌&&◌, not, List, Bool, true, false, Option, Some, None, refl, sym, ◌∙◌, ap}
use Rattle.ir_trees.specs.declared.ir.heads.Head.{Head}
use Rattle.ir_trees.specs.declared.ir.heads.Head.TheVariants as H
use Rattle.ir_trees.specs.declared.ir.heads.PartHead.TheVariants as P
use Rattle.ir_trees.specs.declared.ir.heads.PredHead.TheVariants as PH
use Rattle.ir_trees.specs.declared.ir.kinds.TyKind.TheVariants as K
use Rattle.ir_trees.specs.declared.ir.kinds.TraitId.{TraitId}
use Rattle.ir_trees.specs.declared.ir.kinds.AdtId.{AdtId}
use Rattle.ir_trees.specs.declared.ir.kinds.Args.{Args}
use Rattle.ir_trees.specs.declared.ir.kinds.Preds.{Preds}
use Rattle.ir_trees.specs.declared.ir.kinds.Region.{Region}
use Rattle.ir_trees.specs.declared.ir.kinds.Ty.{Ty}
use Rattle.ir_trees.specs.declared.ir.kinds.Mutability.{Mutability}
use Rattle.ir_trees.specs.Declarations.Context.{Context, world}
use Rattle.ir_trees.specs.Declarations.Names.{principal_of}
use Rattle.ir_trees.specs.Declarations.Names as names
use Rattle.ir_trees.specs.Syntax.Nodes.{kind_at, tree_at}
use Rattle.ir_trees.specs.Syntax.Trees.{TypeKind, RegionKind, ArgumentsKind, PredicatesKind, Forest, none, tree, Tree, row, join, kind_of, is_type_kind}
use Rattle.ir_trees.specs.Declarations.Worlds.{World}
use Rattle.ir_trees.specs.Syntax.Words.{KindFits, kind_tree, args_forest, preds_forest}
use Rattle.ir_trees.proofs.Syntax.Rows.{join-none, kind-of, row-single, row-list}
use Rattle.candidate_eval.specs.Knowability.Orphan.{InCrate, CrateTest, crate_test, is_local, is_fundamental, by_bound, principal_passes}
use Rattle.candidate_eval.specs.Calls.Shapes.{IsReference, IsFundamental, IsShape}
use Rattle.candidate_eval.specs.Calls.Table.{owned_in}
use Rattle.candidate_eval.specs.declared.coherence.table.Shape.TheVariants as S
use Rattle.candidate_eval.specs.declared.coherence.table.ViewClass.TheVariants as V

pub fundamental-shape : (c : Context) (test : CrateTest) (id : AdtId) (a : Args) → KindFits c.trees (K.Adt id a)
    → is_local (world c) test id.0 ≡ false → is_fundamental (world c) id.0 ≡ true
    → IsFundamental c test (kind_tree c.trees (K.Adt id a)) a
fundamental-shape c test id a f l u =
    let e : kind_at c.trees a.0 ≡ ArgumentsKind = cc in
    record {
      sort = e;
      adt = id;
      is = ap (λ (x : Forest). let t : Tree = record { head = H.Adt id; children = x } in t) (row-list c.trees a.0 ArgumentsKind none refl refl e ∙ join-none (args_forest c.trees a));
      is_foreign = l;
      fundamental = u;
    }

pub foreign-shape : (c : Context) (m : InCrate) (id : AdtId) (a : Args) → is_local (world c) (crate_test m c.local.0) id.0 ≡ false → is_fundamental (world c) id.0 ≡ false
    → IsShape c m (kind_tree c.trees (K.Adt id a)) (S.Item V.NonLocal)
foreign-shape c m id a l u = (ap (λ (b : Bool). not (is_local (world c) (crate_test m c.local.0) id.0) && b) u ∙ and-false (not (is_local (world c) (crate_test m c.local.0) id.0)), ap owned_in l)
  where
    and-false : (b : Bool) → (b && false) ≡ false
    and-false true = refl
    and-false false = refl

pub reference-shape : (ts : List Tree) (r : Region) (t : Ty) (m : Mutability) → KindFits ts (K.Ref r t m)
    → IsReference ts (kind_tree ts (K.Ref r t m)) t
reference-shape ts r t m f =
    let e : kind_at ts r.0 ≡ RegionKind = cc in
    let g : kind_at ts t.0 ≡ TypeKind = cc in
    record {
      sort = g;
      mutability = m;
      lifetime = tree_at ts r.0;
      is_no_type = ap is_type_kind (kind-of ts r.0 RegionKind refl e);
      is = ap (λ (x : Forest). let u : Tree = record { head = H.Ref m; children = x } in u)
          (row-single ts r.0 RegionKind (row (tree_at ts t.0) none) refl refl e
          ∙ ap (tree (tree_at ts r.0).head (tree_at ts r.0).children) (row-single ts t.0 TypeKind none refl refl g));
    }

abbrev passes : World → CrateTest → Option TraitId → Bool
passes w test None = false
passes w test (Some i) = is_local w test i.0

bound-passes : (w : World) (test : CrateTest) (h : Head) (o : Option TraitId) (b : Bool) → b ≡ passes w test o
    → by_bound w test h b ≡ passes w test (names.by_bound h o)
bound-passes w test (H.Part (P.Pred (PH.Trait i))) o b e = refl
bound-passes w test (H.Part (P.Pred (PH.Projection i))) o b e = e
bound-passes w test (H.Part (P.Pred (PH.AutoTrait i))) o b e = e
bound-passes w test (H.Part P.Sig) o b e = e
bound-passes w test (H.Part P.Vars) o b e = e
bound-passes w test (H.Part (P.Var k)) o b e = e
bound-passes w test _ o b e = e

pub passes-principal : (w : World) (test : CrateTest) (f : Forest) → principal_passes w test f ≡ passes w test (principal_of f)
passes-principal w test none = refl
passes-principal w test (tree h below rest) = bound-passes w test h (principal_of rest) (principal_passes w test rest) (passes-principal w test rest)

pub principal-some : (w : World) (test : CrateTest) (f : Forest) (i : TraitId) → Some i ≡ principal_of f → principal_passes w test f ≡ is_local w test i.0
principal-some w test f i e = passes-principal w test f ∙ ap (passes w test) (sym e)

pub principal-none : (w : World) (test : CrateTest) (f : Forest) → None ≡ principal_of f → principal_passes w test f ≡ false
principal-none w test f e = passes-principal w test f ∙ ap (passes w test) (sym e)

region-bound : (w : World) (test : CrateTest) (h : Head) (b : Bool) → kind_of h ≡ RegionKind → by_bound w test h b ≡ b
region-bound w test (H.Part (P.Pred p)) b e = absurd cc
region-bound w test (H.Part (P.Clause c)) b e = refl
region-bound w test (H.Part P.Sig) b e = refl
region-bound w test (H.Part P.Vars) b e = refl
region-bound w test (H.Part (P.Var k)) b e = refl
region-bound w test _ b e = refl

principal-join : (w : World) (test : CrateTest) (f g : Forest) → principal_passes w test g ≡ false → principal_passes w test (join f g) ≡ principal_passes w test f
principal-join w test none g e = e
principal-join w test (tree h below rest) g e = ap (by_bound w test h) (principal-join w test rest g e)

-- the region of a `dyn` type is none of its bounds
pub dynamic-principal : (w : World) (test : CrateTest) (ts : List Tree) (p : Preds) (r : Region) → KindFits ts (K.Dynamic p r)
    → principal_passes w test (kind_tree ts (K.Dynamic p r)).children ≡ principal_passes w test (preds_forest ts p)
dynamic-principal w test ts p r f =
    let e : kind_at ts p.0 ≡ PredicatesKind = cc in
    let g : kind_at ts r.0 ≡ RegionKind = cc in
    ap (principal_passes w test)
    (row-list ts p.0 PredicatesKind (row (tree_at ts r.0) none) refl refl e
    ∙ ap (join (preds_forest ts p)) (row-single ts r.0 RegionKind none refl refl g))
    ∙ principal-join w test (preds_forest ts p) (tree (tree_at ts r.0).head (tree_at ts r.0).children none)
    (region-bound w test (tree_at ts r.0).head false (kind-of ts r.0 RegionKind refl g))
