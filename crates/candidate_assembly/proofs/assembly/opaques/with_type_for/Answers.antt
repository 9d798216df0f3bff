use Rattle.std.proofs.Common.{◌≡◌, refl, sym, subst, ap, ◌∙◌}
use Rattle.ir_trees.specs.Declarations.Context.{Context}
use Rattle.ir_trees.specs.Instantiation.Folding.{Answers, fold_tree}
use Rattle.ir_trees.specs.Syntax.Trees.{ClauseKind, TypeKind, is_alias, tree_holds}
use Rattle.ir_trees.specs.Syntax.Words.{clause_tree, ty_tree}
use Rattle.ir_trees.proofs.Growth.Kept.{grows-refl}
use Rattle.ir_trees.proofs.Syntax.Rows.{kind-of}
use Rattle.candidate_assembly.proofs.Calls.Causes.{so-err, so-ok}
use Rattle.candidate_assembly.proofs.Opaques.TypesFor.{answer-for-is, no-alias-put, type-filled}
use Rattle.candidate_eval.specs.Interface.Unmade.IsUnmade.{of_trees}
use Rattle.candidate_eval.specs.Interface.Unmade.IsMade.{filled}
use Rattle.ir_trees.specs.Unification.Substitutions.{row_of}
use Rattle.ir_trees.proofs.Syntax.Lists.{below_kind}
use Rattle.candidate_assembly.proofs.assembly.opaques.with_type_for.Goals as goal

pub returns-clause-tree : goal.returns-clause-tree
returns-clause-tree g c =
    let ts = (g.M.Build.context c.args.make.now).trees in
    let is = answer-for-is (ty_tree ts c.args.old) (ty_tree ts c.args.new) (kind-of ts c.args.old.0 TypeKind refl c.requires.old) in
    so-ok c.fold_answers.result (λ x e. e ∙ ap (λ (a : Answers). fold_tree a 0 (clause_tree ts c.args.clause)) is) c.fold_answers.ensures.tree

pub returns-clause-cause : goal.returns-clause-cause
returns-clause-cause g c =
    let old = g.M.Build.context c.args.make.now in
    so-err c.fold_answers.result
    (λ s e. of_trees old (grows-refl old) c.fold_answers.ensures.grows
    (filled ClauseKind c.args.clause.0 (type-filled old.trees c.args.new.0 (below_kind old.trees c.args.new.0 TypeKind refl c.requires.new) (ty_tree old.trees c.args.old) 0 (row_of ClauseKind (clause_tree old.trees c.args.clause)))) e)
    c.fold_answers.ensures.cause

pub returns-then-not-has-clause-tree : goal.returns-then-not-has-clause-tree
returns-then-not-has-clause-tree g c =
    let ts = (g.M.Build.context c.args.make.now).trees in
    let off = subst (λ (x : Context). c.has.result ≡ tree_holds is_alias (clause_tree x.trees c.args.clause)) c.cx.ensures c.has.ensures.is in
    no-alias-put (ty_tree ts c.args.old) (ty_tree ts c.args.new) (clause_tree ts c.args.clause) c.requires.alias (sym off ∙ c.if-not-has.true)

pub returns-then-not-has-clause-grows : goal.returns-then-not-has-clause-grows
returns-then-not-has-clause-grows g c = grows-refl _
