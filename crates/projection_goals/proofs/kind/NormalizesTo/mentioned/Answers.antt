use Rattle.std.proofs.Common.{◌≡◌, ◌++◌, ◌∷◌, [], rules, subst, ◌∙◌, ap}
use Rattle.ir_trees.specs.declared.ir.kinds.GenericArg.TheVariants as G
use Rattle.ir_trees.specs.Declarations.Context.{Context}
use Rattle.ir_trees.specs.Syntax.Trees.{heights, join}
use Rattle.ir_trees.specs.Syntax.Words.{IsMkStop, ListFits, args_forest, list_forest, ty_tree}
use Rattle.ir_trees.specs.Unification.Substitutions.{alone}
use Rattle.candidate_assembly.proofs.Calls.Causes.{so-err, so-ok}
use Rattle.candidate_assembly.proofs.Upcasting.UpcastRows.{pushed-trees}
use Rattle.projection_goals.proofs.kind.NormalizesTo.mentioned.Goals as goal

pub returns-clause-is : goal.returns-clause-is
returns-clause-is g c =
    let ts = (g.M.Build.context c.args.make.now).trees in
    let xs = c.args-2.result.now in
    let read = subst (λ (y : Context). ListFits y.trees xs × (list_forest y.trees xs ≡ args_forest y.trees c.args.self.alias.args)) c.cx.ensures (c.args-2.ensures.fits, c.args-2.ensures.tree) in
    let items : c.as_slice.result.now ≡ xs ++ G.Ty c.args.self.term ∷ [] = search rules in
    so-ok c.mk_args.result (λ l h. h ∙ (pushed-trees ts xs c.as_slice.result.now c.args.self.term c.requires.term items ∙ ap (λ f. join f (alone (ty_tree ts c.args.self.term))) read.1)) c.mk_args.ensures.made.tree

pub returns-clause-cause : goal.returns-clause-cause
returns-clause-cause g c =
    let ts = (g.M.Build.context c.args.make.now).trees in
    let xs = c.args-2.result.now in
    let read = subst (λ (y : Context). ListFits y.trees xs × (list_forest y.trees xs ≡ args_forest y.trees c.args.self.alias.args)) c.cx.ensures (c.args-2.ensures.fits, c.args-2.ensures.tree) in
    let items : c.as_slice.result.now ≡ xs ++ G.Ty c.args.self.term ∷ [] = search rules in
    let trees = pushed-trees ts xs c.as_slice.result.now c.args.self.term c.requires.term items ∙ ap (λ f. join f (alone (ty_tree ts c.args.self.term))) read.1 in
    so-err c.mk_args.result (λ s h. subst (λ f. IsMkStop ts (heights f) s) trees h) c.mk_args.ensures.made.cause
