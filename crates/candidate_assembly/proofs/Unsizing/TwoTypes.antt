-- Lists of two types: the arguments of a trait that takes one.
use Rattle.std.proofs.Common.{◌≡◌, ◌<◌, refl, sym, ap, ◌∙◌, arith, List, [], ◌∷◌, length, get_or, map, Option, Some}
use Rattle.ir_trees.specs.declared.ir.kinds.GenericArg.{GenericArg}
use Rattle.ir_trees.specs.declared.ir.kinds.GenericArg.TheVariants as G
use Rattle.ir_trees.specs.declared.ir.kinds.TraitRef.{TraitRef}
use Rattle.ir_trees.specs.declared.ir.kinds.Ty.{Ty}
use Rattle.ir_trees.specs.Declarations.Context.{Context, world}
use Rattle.ir_trees.specs.Instantiation.Folds.{IsArg, arg_tree}
use Rattle.ir_trees.specs.Declarations.References.{ArgumentsFit}
use Rattle.ir_trees.specs.Hierarchy.Supers.{after_first}
use Rattle.ir_trees.specs.Syntax.Trees.{Kind, TypeKind, ConstantKind, RegionKind, Forest, Tree, kind_of}
use Rattle.ir_trees.specs.Syntax.Words.{IsTy, ListFits, args_forest, list_forest, ty_tree}
use Rattle.ir_trees.specs.Declarations.Worlds.{TraitSort, joined, kinds_of, parameters}
use Rattle.ir_trees.proofs.Syntax.Rows.{kind-of}
use Rattle.candidate_eval.specs.Dynamic.ObjectRequirements.{first_tree}
use Rattle.candidate_assembly.proofs.Unsizing.MixedForests.{fits-parts, one-row}

abbrev argument-kind : GenericArg → Kind
argument-kind (G.Ty t) = TypeKind
argument-kind (G.Const t) = ConstantKind
argument-kind (G.Region t) = RegionKind

kinds-listed : (ts : List Tree) (xs : List GenericArg) → ListFits ts xs → kinds_of (list_forest ts xs) ≡ map argument-kind xs
kinds-listed ts [] f = refl
kinds-listed ts (x ∷ xs) f =
    let p = fits-parts ts x xs f in
    ap kinds_of (one-row ts x xs p.0) ∙ (of x p.0 ∙ ap (λ ks. argument-kind x ∷ ks) (kinds-listed ts xs p.1))
  where
    of : (y : GenericArg) → IsArg ts y → kind_of (arg_tree ts y).head ∷ kinds_of (list_forest ts xs) ≡ argument-kind y ∷ kinds_of (list_forest ts xs)
    of (G.Ty t) i = ap (λ k. k ∷ kinds_of (list_forest ts xs)) (kind-of ts t.0 TypeKind refl i)
    of (G.Const t) i = ap (λ k. k ∷ kinds_of (list_forest ts xs)) (kind-of ts t.0 ConstantKind refl i)
    of (G.Region t) i = ap (λ k. k ∷ kinds_of (list_forest ts xs)) (kind-of ts t.0 RegionKind refl i)

pub record AreTwoTypes (ts : List Tree) (xs : List GenericArg) : Type 0 where
  pub first : Ty
  pub second : Ty
  pub are : xs ≡ G.Ty first ∷ (G.Ty second ∷ [])
  pub sort : IsTy ts second
  pub tree : ty_tree ts second ≡ first_tree (after_first (list_forest ts xs))

two-types : (ts : List Tree) (xs : List GenericArg) → ListFits ts xs → map argument-kind xs ≡ TypeKind ∷ (TypeKind ∷ []) → AreTwoTypes ts xs
two-types ts [] f k = absurd cc
two-types ts (x ∷ []) f k = absurd cc
two-types ts (G.Ty a ∷ (G.Ty b ∷ [])) f k =
    let p = fits-parts ts (G.Ty a) (G.Ty b ∷ []) f in
    let q = fits-parts ts (G.Ty b) [] p.1 in
    record {
      first = a;
      second = b;
      are = refl;
      sort = q.0;
      tree = sym (ap (λ (g : Forest). first_tree (after_first g)) (one-row ts (G.Ty a) (G.Ty b ∷ []) p.0) ∙ ap first_tree (one-row ts (G.Ty b) [] q.0));
    }
two-types ts (x ∷ (y ∷ (z ∷ zs))) f k = absurd cc
two-types ts (G.Const a ∷ (y ∷ [])) f k = absurd cc
two-types ts (G.Region a ∷ (y ∷ [])) f k = absurd cc
two-types ts (G.Ty a ∷ (G.Const b ∷ [])) f k = absurd cc
two-types ts (G.Ty a ∷ (G.Region b ∷ [])) f k = absurd cc

both-kinds : (o : Option (List Kind)) (args : Forest) → o ≡ Some (TypeKind ∷ []) → joined (Some (TypeKind ∷ [])) o ≡ Some (kinds_of args) → kinds_of args ≡ TypeKind ∷ (TypeKind ∷ [])
both-kinds o args p f = let e : Some (TypeKind ∷ (TypeKind ∷ [])) ≡ Some (kinds_of args) = ap (joined (Some (TypeKind ∷ []))) (sym p) ∙ f in cc

pub two-arguments : (c : Context) (r : TraitRef) (xs : List GenericArg) → ListFits c.trees xs → list_forest c.trees xs ≡ args_forest c.trees r.args → ArgumentsFit c r → parameters (world c) TraitSort r.def_id.0 ≡ Some (TypeKind ∷ [])
    → AreTwoTypes c.trees xs
two-arguments c r xs f e fit p =
    two-types c.trees xs f (sym (kinds-listed c.trees xs f) ∙ (ap kinds_of e ∙ both-kinds (parameters (world c) TraitSort r.def_id.0) (args_forest c.trees r.args) p fit))

pub second-there : (ts : List Tree) (xs : List GenericArg) → AreTwoTypes ts xs → 1 < length xs
second-there ts xs t = let e = ap length t.are in omega (arith, e)

pub second-is : (ts : List Tree) (xs : List GenericArg) (d : GenericArg) (t : AreTwoTypes ts xs) → get_or xs 1 d ≡ G.Ty t.second
second-is ts xs d t = ap (λ ys. get_or ys 1 d) t.are
