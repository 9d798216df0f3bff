use Rattle.std.proofs.Common.{◌≡◌, subst}
use Rattle.std.specs.Prelude.{Option, IfOk, IfErr, option_map, length}
use Rattle.std.proofs.lemmas.Result.{err_from_is_err_and}
use Rattle.ir_trees.specs.Syntax.Trees.{Tree}
use Rattle.ir_trees.specs.Instantiation.Folds.{arg_tree}
use Rattle.ir_trees.specs.Hierarchy.Elaboration.{IsHeadStop}
use Rattle.ir_trees.specs.Syntax.Words.{args_forest}
use Rattle.ir_folds.proofs.Hierarchy.Implying.{arg-kept, put-stop, passed}
use Rattle.ir_trees.proofs.Growth.Kept.{grows-trans}
use Rattle.ir_folds.proofs.decl.elaborate.put_or_renumber.Goals as goal

pub returns-in_err-value-clause-cause : goal.returns-in_err-value-clause-cause
returns-in_err-value-clause-cause g c =
    let p = err_from_is_err_and c.from_residual.result c.from_residual.ensures.1 in
    rw (p.1, p.2)
    (put-stop (length (g.M.Build.context c.put.new.make).trees) (args_forest (g.M.Build.context c.args.make.now).trees c.args.args) c.args.by _ _ (arg_tree (g.M.Build.context c.args.make.now).trees c.args.arg).head
    c.in_err-value.field-0.0 c.saturating_sub-below.ensures c.in_err-value.ensures.cause)

pub renumbered-requires : goal.renumbered-requires
renumbered-requires g c = (arg-kept _ _ c.args.arg c.put.ensures.grows c.requires.arg).0

pub returns-in-None-clause-answer : goal.returns-in-None-clause-answer
returns-in-None-clause-answer g c =
    subst (λ (t : Option Tree). IfOk c.renumbered.result (λ o. option_map (arg_tree (g.M.Build.context c.renumbered.new.make).trees) o ≡ t))
    (passed (args_forest (g.M.Build.context c.args.make.now).trees c.args.args) c.args.by _ _ _ _ c.args.arg _ c.requires.arg c.put.ensures.grows c.saturating_sub-below.ensures c.in-None.is c.in_ok-value.ensures.answer)
    c.renumbered.ensures.answer

pub returns-in-None-clause-cause : goal.returns-in-None-clause-cause
returns-in-None-clause-cause g c =
    subst (λ (t : Option Tree). IfErr c.renumbered.result (λ s. IsHeadStop (length (g.M.Build.context c.renumbered.new.make).trees) t s))
    (passed (args_forest (g.M.Build.context c.args.make.now).trees c.args.args) c.args.by _ _ _ _ c.args.arg _ c.requires.arg c.put.ensures.grows c.saturating_sub-below.ensures c.in-None.is c.in_ok-value.ensures.answer)
    c.renumbered.ensures.cause

pub returns-in-None-clause-grows : goal.returns-in-None-clause-grows
returns-in-None-clause-grows g c = grows-trans _ _ _ c.in_ok-value.ensures.grows c.renumbered.ensures.grows
