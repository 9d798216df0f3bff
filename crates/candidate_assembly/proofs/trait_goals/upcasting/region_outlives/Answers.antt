use Rattle.std.proofs.Common.{◌∙◌, ap}
use Rattle.ir_trees.specs.declared.ir.heads.ClauseHead.TheVariants.{RegionOutlives}
use Rattle.ir_trees.specs.Syntax.Trees.{Tree}
use Rattle.ir_trees.specs.Syntax.Words.{region_tree}
use Rattle.ir_trees.proofs.Growth.Kept.{grows-trans}
use Rattle.candidate_assembly.specs.Rules.Unsizing.{outlives}
use Rattle.candidate_assembly.proofs.Calls.Causes.{so-err, so-ok}
use Rattle.candidate_assembly.proofs.Unsizing.DynRequirements.{region-still}
use Rattle.candidate_assembly.proofs.Upcasting.UpcastParts.{regions-fits, regions-is, regions-takes}
use Rattle.std.proofs.lemmas.Result.{err_from_is_err_and}
use Rattle.candidate_eval.proofs.Interface.Unmade.{binder-unmade, clause-unmade}
use Rattle.ir_trees.specs.declared.ir.kinds.ClauseKind.TheVariants as K
use Rattle.candidate_assembly.proofs.trait_goals.upcasting.region_outlives.Goals as goal

pub mk_clause-requires-clause-fits : goal.mk_clause-requires-clause-fits
mk_clause-requires-clause-fits g c =
    let old = g.M.Build.context c.args.make.now in
    let mid = g.M.Build.context c.mk_vars.new.self in
    let grows = c.mk_vars.ensures.made.kept in
    regions-fits mid.trees c.in_ok-vars.vars c.args.longer c.args.shorter c.in_ok-vars.ensures.made.sort (region-still old mid c.args.longer grows c.requires.longer).0 (region-still old mid c.args.shorter grows c.requires.shorter).0

pub mk_clause-requires-clause-takes : goal.mk_clause-requires-clause-takes
mk_clause-requires-clause-takes g c = λ strict.
    let old = g.M.Build.context c.args.make.now in
    let mid = g.M.Build.context c.mk_vars.new.self in
    let grows = c.mk_vars.ensures.made.kept in
    regions-takes mid c.in_ok-vars.vars c.args.longer c.args.shorter c.in_ok-vars.ensures.made.sort (region-still old mid c.args.longer grows c.requires.longer).0 (region-still old mid c.args.shorter grows c.requires.shorter).0 c.in_ok-vars.ensures.made.tree

pub returns-clause-tree : goal.returns-clause-tree
returns-clause-tree g c =
    let old = g.M.Build.context c.args.make.now in
    let mid = g.M.Build.context c.mk_vars.new.self in
    let grows = c.mk_vars.ensures.made.kept in
    let longer = region-still old mid c.args.longer grows c.requires.longer in
    let shorter = region-still old mid c.args.shorter grows c.requires.shorter in
    let is = regions-is mid.trees c.in_ok-vars.vars c.args.longer c.args.shorter c.in_ok-vars.ensures.made.sort longer.0 shorter.0 c.in_ok-vars.ensures.made.tree in
    let same = ap (λ (t : Tree). outlives RegionOutlives t (region_tree mid.trees c.args.shorter)) longer.1 ∙ ap (outlives RegionOutlives (region_tree old.trees c.args.longer)) shorter.1 in
    so-ok c.mk_clause.result (λ x m. m ∙ (is ∙ same)) c.mk_clause.ensures.made.tree

pub returns-clause-grows : goal.returns-clause-grows
returns-clause-grows g c =
    grows-trans (g.M.Build.context c.args.make.now) (g.M.Build.context c.mk_vars.new.self) (g.M.Build.context c.mk_clause.new.self) c.mk_vars.ensures.made.kept c.mk_clause.ensures.made.kept

pub returns-in_err-vars-clause-cause : goal.returns-in_err-vars-clause-cause
returns-in_err-vars-clause-cause g c =
    let p = err_from_is_err_and c.from_residual.result c.from_residual.ensures.1 in
    rw (p.1, p.2) (binder-unmade c.mk_vars.ensures.made.kept c.in_err-vars.ensures.made.cause)

pub returns-clause-cause : goal.returns-clause-cause
returns-clause-cause g c = so-err c.mk_clause.result (λ s x. clause-unmade (record { vars = c.in_ok-vars.vars; value = K.RegionOutlives c.args.longer c.args.shorter }) c.mk_clause.ensures.made.kept x) c.mk_clause.ensures.made.cause
