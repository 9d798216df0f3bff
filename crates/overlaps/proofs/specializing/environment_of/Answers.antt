use Rattle.std.proofs.Common.{ap, subst, sym, ◌∙◌}
use Rattle.std.specs.Prelude.{map}
use Rattle.std.proofs.lemmas.Result.{IfOk-weaker}
use Rattle.ir_trees.specs.Syntax.Words.{ClauseListFits, args_forest, clause_tree, env_forest}
use Rattle.candidate_eval.proofs.Interface.Accounts.{reaches, somehow-later}
use Rattle.candidate_eval.proofs.Interface.Probing.{then}
use Rattle.candidate_assembly.proofs.Calls.Causes.{so-err}
use Rattle.overlaps.specs.Specialized.{clauses_with}
use Rattle.overlaps.proofs.Specialized.{environment-earlier}
use Rattle.overlaps.proofs.specializing.environment_of.Goals as goal

pub environment_with-requires : goal.environment_with-requires
environment_with-requires g c = subst (ClauseListFits (g.E.Build.context c.with_locals.new.ecx).trees) (sym c.as_slice.ensures.value) c.in_ok-clauses.ensures.fit

pub returns-clause-kept : goal.returns-clause-kept
returns-clause-kept g c = then c.with_locals.ensures.kept c.environment_with.ensures.kept

pub returns-clause-same : goal.returns-clause-same
returns-clause-same g c = c.environment_with.ensures.same ∙ c.with_locals.ensures.same

pub returns-clause-is : goal.returns-clause-is
returns-clause-is g c =
    let start = g.E.Build.context c.args.ecx.now in
    let mid = g.E.Build.context c.with_locals.new.ecx in
    let new = g.E.Build.context c.environment_with.new.ecx in
    let ts = clauses_with start.trees (args_forest start.trees c.args.locals) c.args.clauses.now in
    let us = map (clause_tree mid.trees) c.as_slice.result.now in
    IfOk-weaker c.environment_with.result _ _
    (λ e h. environment-earlier start mid ts us (env_forest new.trees e) c.with_locals.ensures.kept.grows (ap (map (clause_tree mid.trees)) c.as_slice.ensures.value ∙ c.in_ok-clauses.ensures.trees) h) c.environment_with.ensures.is

pub returns-clause-cause : goal.returns-clause-cause
returns-clause-cause g c = so-err c.environment_with.result (λ s k. somehow-later (reaches c.with_locals.ensures.kept) k) c.environment_with.ensures.cause
