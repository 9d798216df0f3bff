use Rattle.std.proofs.Common.{List, ap, subst, sym, ◌∙◌}
use Rattle.std.specs.Prelude.{map}
use Rattle.std.proofs.lemmas.Result.{IfOk-weaker}
use Rattle.ir_trees.specs.declared.ir.kinds.Clause.{Clause}
use Rattle.ir_trees.specs.Instantiation.Owned.{ClausesAreOwned}
use Rattle.ir_trees.specs.Syntax.Words.{ClauseListFits, args_forest, clause_tree, env_forest}
use Rattle.candidate_eval.proofs.Interface.Accounts.{reaches, somehow-later}
use Rattle.candidate_eval.proofs.Interface.Probing.{then}
use Rattle.candidate_assembly.proofs.Calls.Causes.{so-err}
use Rattle.overlaps.specs.Negated.{clauses_at}
use Rattle.overlaps.proofs.Specialized.{environment-earlier}
use Rattle.overlaps.proofs.negation.environment_here.Goals as goal

pub all_with_values-requires-clause-locals : goal.all_with_values-requires-clause-locals
all_with_values-requires-clause-locals g c = c.requires.0

pub all_with_values-requires-clause-clauses : goal.all_with_values-requires-clause-clauses
all_with_values-requires-clause-clauses g c =
    let ts = (g.E.Build.context c.args.ecx.now).trees in
    subst (ClausesAreOwned ts (args_forest ts c.args.of.now.locals)) (sym c.as_slice.ensures.value) c.requires.2

pub environment_with-requires : goal.environment_with-requires
environment_with-requires g c = subst (ClauseListFits (g.E.Build.context c.all_with_values.new.ecx).trees) (sym c.as_slice-2.ensures.value) c.in_ok-clauses.ensures.fit

pub returns-clause-kept : goal.returns-clause-kept
returns-clause-kept g c = then c.all_with_values.ensures.kept c.environment_with.ensures.kept

pub returns-clause-same : goal.returns-clause-same
returns-clause-same g c = c.environment_with.ensures.same ∙ c.all_with_values.ensures.same

pub returns-clause-is : goal.returns-clause-is
returns-clause-is g c =
    let start = g.E.Build.context c.args.ecx.now in
    let mid = g.E.Build.context c.all_with_values.new.ecx in
    let new = g.E.Build.context c.environment_with.new.ecx in
    let S = g.E.EvalCtxt.state c.args.ecx.now in
    let o = c.args.of.now in
    let ls = args_forest start.trees o.locals in
    let us = map (clause_tree mid.trees) c.as_slice-2.result.now in
    let same = ap (map (clause_tree mid.trees)) c.as_slice-2.ensures.value ∙ (c.in_ok-clauses.ensures.trees ∙ ap (λ (xs : List Clause). clauses_at start S ls xs) c.as_slice.ensures.value) in
    IfOk-weaker c.environment_with.result _ _
    (λ e h. environment-earlier start mid (clauses_at start S ls o.wheres.items) us (env_forest new.trees e) c.all_with_values.ensures.kept.grows same h) c.environment_with.ensures.is

pub returns-clause-cause : goal.returns-clause-cause
returns-clause-cause g c = so-err c.environment_with.result (λ s k. somehow-later (reaches c.all_with_values.ensures.kept) k) c.environment_with.ensures.cause
