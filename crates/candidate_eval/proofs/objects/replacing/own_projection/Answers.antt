use Rattle.std.proofs.Common.{rules, ◌≡◌, Bool, Some, ◌∙◌, ap}
use Rattle.ir_trees.specs.declared.ir.kinds.GenericArg.{GenericArg}
use Rattle.ir_trees.specs.declared.ir.kinds.GenericArg.TheVariants as G
use Rattle.ir_trees.specs.Instantiation.Folds.{arg_tree}
use Rattle.ir_trees.specs.Syntax.Words.{args_forest}
use Rattle.candidate_eval.specs.Dynamic.Replacing.{alias_in, finds_own, projection_if}
use Rattle.candidate_eval.proofs.Dynamic.Replacing.{alias-args, no-type-kind, not-type, own-found}
use Rattle.candidate_eval.proofs.objects.replacing.own_projection.Goals as goal

pub returns-in_default : goal.returns-in_default
returns-in_default c = not-type c.args.cx.now.trees c.args.arg c.args.object c.args.bounds.now c.requires.arg (no-type-kind c.args.arg c.in_default.not-Ty)

pub returns-then-is_own : goal.returns-then-is_own
returns-then-is_own c =
    let ts = c.args.cx.now.trees in
    let p = c.in_ok-projection.projection in
    let s : alias_in c.kind.result ≡ Some c.in_ok-alias.alias = search rules in
    let arg : c.args.arg ≡ G.Ty c.in-Ty.ty = c.in-Ty.is in
    let found = own-found ts c.in-Ty.ty c.args.object c.args.bounds.now c.kind.result c.in_ok-alias.alias p c.is_own.result c.kind.ensures.fits c.kind.ensures.tree s c.in_ok-projection.ensures.0 c.in_ok-projection.ensures.1 c.is_own.ensures in (
      alias-args ts c.kind.result c.in_ok-alias.alias p c.kind.ensures.fits s c.in_ok-projection.ensures.0,
      ap (λ (a : GenericArg). finds_own ts c.args.object c.args.bounds.now (arg_tree ts a).head (arg_tree ts a).children) arg ∙ (found ∙ ap (λ (b : Bool). projection_if b p.def_id.0 (args_forest ts p.args)) c.if-is_own.true),
    )

pub returns-else-is_own : goal.returns-else-is_own
returns-else-is_own c =
    let ts = c.args.cx.now.trees in
    let p = c.in_ok-projection.projection in
    let s : alias_in c.kind.result ≡ Some c.in_ok-alias.alias = search rules in
    let arg : c.args.arg ≡ G.Ty c.in-Ty.ty = c.in-Ty.is in
    let found = own-found ts c.in-Ty.ty c.args.object c.args.bounds.now c.kind.result c.in_ok-alias.alias p c.is_own.result c.kind.ensures.fits c.kind.ensures.tree s c.in_ok-projection.ensures.0 c.in_ok-projection.ensures.1 c.is_own.ensures in
    ap (λ (a : GenericArg). finds_own ts c.args.object c.args.bounds.now (arg_tree ts a).head (arg_tree ts a).children) arg ∙ (found ∙ ap (λ (b : Bool). projection_if b p.def_id.0 (args_forest ts p.args)) c.if-is_own.false)
