use Rattle.std.proofs.Common.{rules, refl}
use Rattle.std.specs.Fn.{FnOnceReturnsAtMut}
use Rattle.std.proofs.lemmas.Result.{err_from_is_err_and}
use Rattle.ir_trees.specs.Syntax.Words.{clause_tree}
use Rattle.candidate_eval.specs.Derivations.Characterization.{bound_kinds}
use Rattle.candidate_eval.specs.Derivations.Judging.{run, start}
use Rattle.candidate_eval.specs.Judges.States.{fresh_variables}
use Rattle.candidate_assembly.specs.Answers.Closures.After.{called}
use Rattle.candidate_assembly.specs.Answers.Telling.{standing}
use Rattle.candidate_assembly.specs.Goals.TraitGoals.{match_trait, trait_goal}
use Rattle.candidate_assembly.proofs.Rules.PureFolder.{error-after}
use Rattle.candidate_assembly.proofs.Calls.Causes.{answered-error}
use Rattle.candidate_assembly.proofs.Calls.Quieting.{any-kept, any-then}
use Rattle.candidate_assembly.proofs.trait_goals.matching.match_clause.Goals as goal

pub returns-clause-kept : goal.returns-clause-kept
returns-clause-kept g c =
    let is : FnOnceReturnsAtMut g.F.FnOnce c.args.then c.equate_clause.new.ecx c.then.result c.then.new.arg2 = search rules in
    any-then c.equate_clause.ensures.kept (c.requires.callable.keeps c.equate_clause.new.ecx c.then.result c.then.new.arg2 c.equate_clause.ensures.kept is)

pub returns-clause-after : goal.returns-clause-after
returns-clause-after g c =
    let is : FnOnceReturnsAtMut g.F.FnOnce c.args.then c.equate_clause.new.ecx c.then.result c.then.new.arg2 = search rules in
    called c.equate_clause.new.ecx
    (standing (g.E.EvalCtxt.state c.equate_clause.new.ecx) (fresh_variables (g.E.EvalCtxt.state c.args.ecx.now) (bound_kinds (clause_tree (g.E.Build.context c.args.ecx.now).trees c.args.clause).children)))
    c.in_ok-equate_clause.ensures.ok refl c.equate_clause.ensures.kept is

pub returns-in_err-equate_clause-clause-after : goal.returns-in_err-equate_clause-clause-after
returns-in_err-equate_clause-clause-after g c =
    let E = g.E.EvalCtxt in
    let why = c.in_err-equate_clause.field-0.0 in
    let is = answered-error c.from_residual.result why (err_from_is_err_and c.from_residual.result c.from_residual.ensures.1) in
    let first = c.args.ecx.now in
    let ts = (g.E.Build.context first).trees in
    let goal-here = trait_goal ts c.args.env c.args.predicate in
    error-after E.fixed E.state E.probes g.E.Build.context E.stops g.F.FnOnce c.args.then first (run (E.judge (E.fixed first)) goal-here.env (start (E.state first)) (match_trait goal-here (clause_tree ts c.args.clause)))
    c.equate_clause.new.ecx c.from_residual.result why g.met.E.EvalCtxt.stops_itself is c.in_err-equate_clause.ensures.refused c.in_err-equate_clause.ensures.cause c.equate_clause.ensures.kept.faults

pub returns-in_err-equate_clause-clause-kept : goal.returns-in_err-equate_clause-clause-kept
returns-in_err-equate_clause-clause-kept g c = any-kept c.equate_clause.ensures.kept
