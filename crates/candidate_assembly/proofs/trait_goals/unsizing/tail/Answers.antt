use Rattle.std.proofs.Common.{◌≡◌, [], None, Some, sym, subst, ◌∙◌}
use Rattle.ir_trees.specs.declared.ir.kinds.Ty.{Ty}
use Rattle.ir_trees.specs.Declarations.Context.{Context}
use Rattle.ir_trees.specs.Declarations.Contents.{AdtContents}
use Rattle.ir_trees.specs.Declarations.Declaring.{adt_at}
use Rattle.ir_trees.specs.Instantiation.Folding.{substituted_tree}
use Rattle.ir_trees.specs.Declarations.Lookups.{maybe}
use Rattle.ir_trees.specs.Syntax.Trees.{Tree, TypeKind}
use Rattle.ir_trees.specs.Syntax.Words.{args_forest, ty_tree}
use Rattle.candidate_eval.specs.Builtins.Tables.{last_of, optional}
use Rattle.candidate_assembly.proofs.Calls.Causes.{so-err, so-ok}
use Rattle.candidate_assembly.proofs.Unsizing.Tails.{no-tail, tail-there}
use Rattle.candidate_eval.specs.Interface.Unmade.IsUnmade.{of_trees}
use Rattle.candidate_eval.specs.Interface.Unmade.IsMade.{with_arguments}
use Rattle.candidate_eval.proofs.Interface.Unmade.{type-unmade}
use Rattle.ir_trees.specs.declared.ir.kinds.TyKind.TheVariants as TK
use Rattle.ir_trees.proofs.Growth.Kept.{grows-refl}
use Rattle.candidate_assembly.proofs.trait_goals.unsizing.tail.Goals as goal

pub returns-in-Some-clause-tree : goal.returns-in-Some-clause-tree
returns-in-Some-clause-tree g c =
    let old = g.M.Build.context c.args.make.now in
    let read = subst (λ (y : Context). optional (Some c.in-Some.ty) ≡ last_of (maybe [] (λ (a : AdtContents). a.fields) (adt_at y c.args.adt.0))) c.cx.ensures c.in-Some.ensures.is in
    let is = tail-there old c.args.adt.0 (args_forest old.trees c.args.args) c.in-Some.ty read in
    let new = g.M.Build.context c.subst.new.make in
    let put : Tree = substituted_tree (args_forest old.trees c.args.args) (ty_tree old.trees c.in-Some.ty) in
    so-ok c.subst.result {P = λ (x : Ty). ty_tree new.trees x ≡ put} (λ x m. m ∙ sym is) c.subst.ensures.tree

pub returns-in-None-clause-tree : goal.returns-in-None-clause-tree
returns-in-None-clause-tree g c =
    let old = g.M.Build.context c.args.make.now in
    let read = subst (λ (y : Context). optional None ≡ last_of (maybe [] (λ (a : AdtContents). a.fields) (adt_at y c.args.adt.0))) c.cx.ensures c.in-None.ensures.is in
    let is = no-tail old c.args.adt.0 (args_forest old.trees c.args.args) read in
    so-ok c.mk_ty.result (λ x m. m ∙ sym is) c.mk_ty.ensures.made.tree

pub returns-in-Some-clause-cause : goal.returns-in-Some-clause-cause
returns-in-Some-clause-cause g c =
    so-err c.subst.result (λ s x. of_trees (g.M.Build.context c.args.make.now) (grows-refl _) c.subst.ensures.grows (with_arguments TypeKind c.in-Some.ty.0 c.args.args.0) x) c.subst.ensures.cause

pub returns-in-None-clause-cause : goal.returns-in-None-clause-cause
returns-in-None-clause-cause g c = so-err c.mk_ty.result (λ s x. type-unmade (TK.Error) c.mk_ty.ensures.made.kept x) c.mk_ty.ensures.made.cause
