use Rattle.std.proofs.Common.{◌≡◌, map}
use Rattle.std.proofs.lemmas.Result.{err_from_is_err_and}
use Rattle.ir_trees.specs.Syntax.Words.{args_forest, clause_tree, env_forest}
use Rattle.ir_trees.proofs.Growth.Kept.{args-kept}
use Rattle.candidate_eval.specs.Derivations.Judging.{At, run}
use Rattle.candidate_eval.specs.Derivations.Rules.{equate, nested, nested_misc}
use Rattle.candidate_eval.proofs.Interface.Accounts.{reaches, somehow-later}
use Rattle.candidate_eval.proofs.Dynamic.Objects.{env-kept}
use Rattle.candidate_eval.proofs.Interface.Probing.{then}
use Rattle.candidate_eval.proofs.Outcomes.Responding.{clauses-kept}
use Rattle.candidate_assembly.specs.Answers.Telling.{standing}
use Rattle.candidate_assembly.proofs.Rules.ImplSteps.{owned-still}
use Rattle.candidate_assembly.proofs.Calls.Stepping.{run-three}
use Rattle.candidate_assembly.proofs.trait_goals.impls.equate_and_nest.Goals as goal

pub nest_clauses-requires-clause-env : goal.nest_clauses-requires-clause-env
nest_clauses-requires-clause-env g c = (env-kept _ _ c.args.env c.equate_header.ensures.kept.grows c.requires.env).0

pub nest_clauses-requires-clause-clauses : goal.nest_clauses-requires-clause-clauses
nest_clauses-requires-clause-clauses g c = owned-still _ _ c.args.locals c.args.wheres.now c.equate_header.ensures.kept.grows c.requires.locals c.requires.wheres

pub nest_clauses-requires-clause-locals : goal.nest_clauses-requires-clause-locals
nest_clauses-requires-clause-locals g c = (args-kept _ _ c.args.locals c.equate_header.ensures.kept.grows c.requires.locals).0

pub returns-in_err-nest_clauses-clause-kept : goal.returns-in_err-nest_clauses-clause-kept
returns-in_err-nest_clauses-clause-kept g c = then c.equate_header.ensures.kept c.nest_clauses.ensures.kept

pub returns-in_err-nest_clauses-clause-cause : goal.returns-in_err-nest_clauses-clause-cause
returns-in_err-nest_clauses-clause-cause g c =
    let p = err_from_is_err_and c.from_residual-in_err-nest_clauses.result c.from_residual-in_err-nest_clauses.ensures.1 in
    rw (p.1, p.2) (somehow-later (reaches c.equate_header.ensures.kept) c.in_err-nest_clauses.ensures.cause)

pub nest_clauses-requires-2-clause-env : goal.nest_clauses-requires-2-clause-env
nest_clauses-requires-2-clause-env g c = (env-kept _ _ c.args.env (then c.equate_header.ensures.kept c.nest_clauses.ensures.kept).grows c.requires.env).0

pub nest_clauses-requires-2-clause-clauses : goal.nest_clauses-requires-2-clause-clauses
nest_clauses-requires-2-clause-clauses g c =
    owned-still _ _ c.args.locals c.args.super_outlives.now (then c.equate_header.ensures.kept c.nest_clauses.ensures.kept).grows c.requires.locals c.requires.super_outlives

pub nest_clauses-requires-2-clause-locals : goal.nest_clauses-requires-2-clause-locals
nest_clauses-requires-2-clause-locals g c = (args-kept _ _ c.args.locals (then c.equate_header.ensures.kept c.nest_clauses.ensures.kept).grows c.requires.locals).0

pub returns-in_err-nest_clauses-2-clause-kept : goal.returns-in_err-nest_clauses-2-clause-kept
returns-in_err-nest_clauses-2-clause-kept g c = then (then c.equate_header.ensures.kept c.nest_clauses.ensures.kept) c.nest_clauses-2.ensures.kept

pub returns-in_err-nest_clauses-2-clause-cause : goal.returns-in_err-nest_clauses-2-clause-cause
returns-in_err-nest_clauses-2-clause-cause g c =
    let p = err_from_is_err_and c.from_residual-in_err-nest_clauses-2.result c.from_residual-in_err-nest_clauses-2.ensures.1 in
    rw (p.1, p.2) (somehow-later (reaches (then c.equate_header.ensures.kept c.nest_clauses.ensures.kept)) c.in_err-nest_clauses-2.ensures.cause)

pub returns-clause-kept : goal.returns-clause-kept
returns-clause-kept g c = then (then c.equate_header.ensures.kept c.nest_clauses.ensures.kept) c.nest_clauses-2.ensures.kept

pub returns-clause-ok : goal.returns-clause-ok
returns-clause-ok g c =
    let E = g.E.EvalCtxt in
    let ts = (g.E.Build.context c.args.ecx.now).trees in
    let J = E.judge (E.fixed c.args.ecx.now) in
    let S = E.state c.args.ecx.now in
    let T = E.state c.equate_header.new.ecx in
    let U = E.state c.nest_clauses.new.ecx in
    let V = E.state c.nest_clauses-2.new.ecx in
    let e = env_forest ts c.args.env in
    let ls = args_forest ts c.args.locals in
    let a = args_forest ts c.args.args in
    let b = args_forest ts c.args.header in
    let ws = nested (map (clause_tree ts) c.args.wheres.now) in
    let os = nested_misc (map (clause_tree ts) c.args.super_outlives.now) in
    let k = c.equate_header.ensures.kept in
    let l = then k c.nest_clauses.ensures.kept in
    let second : run J e (standing T ls) ws ≡ At (standing U ls)
    = rw (k.fixed_same, (env-kept _ _ c.args.env k.grows c.requires.env).1, (args-kept _ _ c.args.locals k.grows c.requires.locals).1, (clauses-kept _ _ c.args.wheres.now k.grows c.requires.wheres.fit).1) at c.in_ok-nest_clauses.ensures.ok in
    let third : run J e (standing U ls) os ≡ At (standing V ls)
    = rw (l.fixed_same, (env-kept _ _ c.args.env l.grows c.requires.env).1, (args-kept _ _ c.args.locals l.grows c.requires.locals).1, (clauses-kept _ _ c.args.super_outlives.now l.grows c.requires.super_outlives.fit).1) at c.in_ok-nest_clauses-2.ensures.ok in
    run-three J e (standing S ls) (standing T ls) (standing U ls) (standing V ls) (equate a b) ws os c.in_ok-equate_header.ensures.ok second third
