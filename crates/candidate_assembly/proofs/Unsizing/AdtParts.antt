-- Data types by their arguments.
use Rattle.std.proofs.Common.{◌≡◌, sym, ap, subst, ◌∙◌, Some}
use Rattle.ir_trees.specs.declared.decl.contents.Sizedness.TheVariants as S
use Rattle.ir_trees.specs.declared.ir.heads.Head.TheVariants as H
use Rattle.ir_trees.specs.declared.ir.kinds.AdtId.{AdtId}
use Rattle.ir_trees.specs.declared.ir.kinds.Args.{Args}
use Rattle.ir_trees.specs.declared.ir.kinds.Ty.{Ty}
use Rattle.ir_trees.specs.declared.ir.kinds.TyKind.TheVariants as K
use Rattle.ir_trees.specs.Declarations.Context.{Context, world}
use Rattle.ir_trees.specs.Declarations.References.{IsWellFormed}
use Rattle.ir_trees.specs.Syntax.Trees.{Forest, Tree}
use Rattle.ir_trees.specs.Syntax.Words.{IsArgs, IsTy, KindFits, args_forest, kind_tree, ty_tree}
use Rattle.ir_trees.specs.Declarations.Worlds.{AdtSort, kinds_of, parameters}
use Rattle.candidate_eval.specs.declared.structural.Column.TheVariants as C
use Rattle.candidate_eval.proofs.Builtins.Cells.{kind_fits, kind_takes}
use Rattle.candidate_assembly.proofs.Unsizing.MixedForests.{args-row}

pub record AdtArgs (c : Context) (t : Tree) (i : AdtId) (a : Args) : Type 0 where
  pub sort : IsArgs c.trees a
  pub fit : parameters (world c) AdtSort i.0 ≡ Some (kinds_of (args_forest c.trees a))
  pub tree : t ≡ record { head = H.Adt i; children = args_forest c.trees a }

abbrev adt-with : AdtId → Forest → Tree
adt-with i f = record { head = H.Adt i; children = f }

same-adt : (i j : AdtId) → H.Adt j ≡ H.Adt i → j ≡ i
same-adt i j e = cc

pub adt-args : (c : Context) (t : Ty) (i j : AdtId) (a : Args) → IsWellFormed c → IsTy c.trees t → KindFits c.trees (K.Adt j a) → kind_tree c.trees (K.Adt j a) ≡ ty_tree c.trees t → (ty_tree c.trees t).head ≡ H.Adt i
    → AdtArgs c (ty_tree c.trees t) i a
adt-args c t i j a w s f e h =
    let same : j ≡ i = same-adt i j (ap (λ (u : Tree). u.head) e ∙ h) in
    let fits = kind_fits c (C.Sizedness S.Sized) (K.Adt j a) f (kind_takes c t (K.Adt j a) w s e) in
    record {
      sort = fits.0;
      fit = subst (λ (x : AdtId). parameters (world c) AdtSort x.0 ≡ Some (kinds_of (args_forest c.trees a))) same fits.1;
      tree = sym e ∙ (ap (adt-with j) (args-row c.trees a fits.0) ∙ ap (λ (x : AdtId). adt-with x (args_forest c.trees a)) same);
    }
