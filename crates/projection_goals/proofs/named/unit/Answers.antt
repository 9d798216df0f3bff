use Rattle.std.proofs.Common.{◌≡◌, ◌∙◌, Some, [], ap, refl, subst, sym}
use Rattle.std.proofs.lemmas.Result.{err_from_is_err_and}
use Rattle.ir_trees.specs.declared.ir.kinds.TyKind.TheVariants as TK
use Rattle.ir_trees.specs.Declarations.Worlds.{all_of, kinds_of}
use Rattle.ir_trees.specs.Syntax.Nodes.{tree_at}
use Rattle.ir_trees.specs.Syntax.Trees.{ArgumentsKind, Forest, TypeKind, join, none, row}
use Rattle.ir_trees.proofs.Syntax.Rows.{row-list}
use Rattle.candidate_eval.specs.Builtins.Callable.{tuple_of}
use Rattle.candidate_eval.proofs.Interface.Unmade.{members-unmade, type-unmade}
use Rattle.candidate_assembly.proofs.Calls.Causes.{so-err, so-ok}
use Rattle.projection_goals.proofs.named.unit.Goals as goal

pub returns-in_err-none-clause-cause : goal.returns-in_err-none-clause-cause
returns-in_err-none-clause-cause g c =
    let p = err_from_is_err_and c.from_residual.result c.from_residual.ensures.1 in
    rw (p.1, p.2) (members-unmade [] c.mk_args.ensures.made.kept c.in_err-none.ensures.made.cause)

pub mk_ty-requires-clause-takes : goal.mk_ty-requires-clause-takes
mk_ty-requires-clause-takes g c = λ strict listed.
    let ts = (g.M.Build.context c.mk_args.new.self).trees in
    let n = c.in_ok-none.none.0 in
    let empty : row (tree_at ts n) none ≡ none = row-list ts n ArgumentsKind none refl refl c.in_ok-none.ensures.made.sort ∙ ap (λ (f : Forest). join f none) c.in_ok-none.ensures.made.tree in
    subst (λ (f : Forest). Some (all_of TypeKind (kinds_of f)) ≡ Some (kinds_of f)) (sym empty) refl

pub returns-clause-tree : goal.returns-clause-tree
returns-clause-tree g c =
    let ts = (g.M.Build.context c.mk_args.new.self).trees in
    let n = c.in_ok-none.none.0 in
    let empty : row (tree_at ts n) none ≡ none = row-list ts n ArgumentsKind none refl refl c.in_ok-none.ensures.made.sort ∙ ap (λ (f : Forest). join f none) c.in_ok-none.ensures.made.tree in
    so-ok c.mk_ty.result (λ t h. h ∙ ap tuple_of empty) c.mk_ty.ensures.made.tree

pub returns-clause-cause : goal.returns-clause-cause
returns-clause-cause g c = so-err c.mk_ty.result (λ s x. type-unmade (TK.Tuple c.in_ok-none.none) c.mk_ty.ensures.made.kept x) c.mk_ty.ensures.made.cause
