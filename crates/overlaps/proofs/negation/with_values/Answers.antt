use Rattle.std.proofs.Common.{ap, ◌∙◌}
use Rattle.std.proofs.lemmas.Result.{IfOk-weaker, err_from_is_err_and}
use Rattle.ir_trees.specs.Syntax.Trees.{ClauseKind}
use Rattle.ir_trees.specs.Syntax.Words.{clause_tree}
use Rattle.ir_trees.specs.Unification.Substitutions.{alone}
use Rattle.candidate_eval.specs.Interface.Accounts.{resolve}
use Rattle.candidate_eval.specs.Judges.States.{State, resolved_tree}
use Rattle.candidate_eval.proofs.Interface.Accounts.{reaches, somehow-later}
use Rattle.candidate_eval.proofs.Interface.Probing.{then}
use Rattle.candidate_eval.specs.Interface.Accounts.{StopsSomehow}
use Rattle.candidate_assembly.proofs.Calls.Causes.{asked-somehow, so-err}
use Rattle.overlaps.proofs.Stopping.{passed-on, substitute-somehow}
use Rattle.overlaps.proofs.negation.with_values.Goals as goal

pub returns-in_err-clause-clause-cause : goal.returns-in_err-clause-clause-cause
returns-in_err-clause-clause-cause g c =
    passed-on (StopsSomehow g.E.EvalCtxt.fixed g.E.Build.context g.E.EvalCtxt.state g.E.EvalCtxt.stops c.args.ecx.now c.substitute.new.ecx) c.from_residual.result c.in_err-clause.field-0.0 c.from_residual.ensures.1
    (substitute-somehow ClauseKind c.args.clause.0 c.args.locals.0 c.substitute.ensures.kept c.in_err-clause.ensures.cause)

pub returns-clause-kept : goal.returns-clause-kept
returns-clause-kept g c = then c.substitute.ensures.kept c.resolve_clause_if_possible.ensures.kept

pub returns-clause-same : goal.returns-clause-same
returns-clause-same g c = c.resolve_clause_if_possible.ensures.same ∙ c.substitute.ensures.same

pub returns-clause-tree : goal.returns-clause-tree
returns-clause-tree g c =
    let mid = g.E.Build.context c.substitute.new.ecx in
    let S = g.E.EvalCtxt.state c.args.ecx.now in
    IfOk-weaker c.resolve_clause_if_possible.result _ _
    (λ x h. h ∙ (ap (λ (T : State). resolved_tree T (clause_tree mid.trees c.in_ok-clause.clause)) c.substitute.ensures.same ∙ ap (resolved_tree S) c.in_ok-clause.ensures.tree)) c.resolve_clause_if_possible.ensures.tree

pub returns-clause-cause : goal.returns-clause-cause
returns-clause-cause g c =
    let mid = g.E.Build.context c.substitute.new.ecx in
    so-err c.resolve_clause_if_possible.result
    (λ s k. somehow-later (reaches c.substitute.ensures.kept) (asked-somehow (resolve (alone (clause_tree mid.trees c.in_ok-clause.clause))) c.resolve_clause_if_possible.ensures.kept k)) c.resolve_clause_if_possible.ensures.cause
