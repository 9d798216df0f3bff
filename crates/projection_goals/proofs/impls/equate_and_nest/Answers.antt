use Rattle.std.proofs.Common.{◌≡◌, ◌∙◌, map, sym}
use Rattle.std.proofs.lemmas.Result.{err_from_is_err_and}
use Rattle.ir_trees.specs.Syntax.Words.{args_forest, clause_tree, env_forest}
use Rattle.ir_trees.proofs.Growth.Kept.{args-kept}
use Rattle.candidate_eval.specs.Derivations.Judging.{At, run}
use Rattle.candidate_eval.specs.Derivations.Rules.{nested}
use Rattle.candidate_eval.proofs.Dynamic.Objects.{env-kept}
use Rattle.candidate_eval.proofs.Interface.Accounts.{reaches, somehow-later}
use Rattle.candidate_eval.proofs.Interface.Probing.{then}
use Rattle.candidate_eval.proofs.Outcomes.Responding.{clauses-kept}
use Rattle.candidate_assembly.specs.Answers.Telling.{standing}
use Rattle.candidate_assembly.proofs.Calls.Stepping.{run-both}
use Rattle.candidate_assembly.proofs.Rules.ImplSteps.{owned-still}
use Rattle.projection_goals.specs.Impls.{declared_equations}
use Rattle.projection_goals.proofs.ImplSteps.{refused-first}
use Rattle.projection_goals.proofs.impls.equate_and_nest.Goals as goal

pub returns-in_err-equate_declared-clause-refused : goal.returns-in_err-equate_declared-clause-refused
returns-in_err-equate_declared-clause-refused g c =
    let E = g.E.EvalCtxt in
    let ts = (g.E.Build.context c.args.ecx.now).trees in
    let p = err_from_is_err_and c.from_residual.result c.from_residual.ensures.1 in
    rw p.1 (λ n. refused-first (E.judge (E.fixed c.args.ecx.now)) (env_forest ts c.args.env) (standing (E.state c.args.ecx.now) (args_forest ts c.args.locals))
    (declared_equations ts c.args.predicate c.args.header c.args.value) (nested (map (clause_tree ts) c.args.wheres.now)) (c.in_err-equate_declared.ensures.refused (sym p.2 ∙ n)))

pub nest_clauses-requires-clause-env : goal.nest_clauses-requires-clause-env
nest_clauses-requires-clause-env g c = (env-kept _ _ c.args.env c.equate_declared.ensures.kept.grows c.requires.goal.env).0

pub nest_clauses-requires-clause-clauses : goal.nest_clauses-requires-clause-clauses
nest_clauses-requires-clause-clauses g c = owned-still _ _ c.args.locals c.args.wheres.now c.equate_declared.ensures.kept.grows c.requires.locals c.requires.wheres

pub nest_clauses-requires-clause-locals : goal.nest_clauses-requires-clause-locals
nest_clauses-requires-clause-locals g c = (args-kept _ _ c.args.locals c.equate_declared.ensures.kept.grows c.requires.locals).0

pub returns-in_err-nest_clauses-clause-kept : goal.returns-in_err-nest_clauses-clause-kept
returns-in_err-nest_clauses-clause-kept g c = then c.equate_declared.ensures.kept c.nest_clauses.ensures.kept

pub returns-in_err-nest_clauses-clause-cause : goal.returns-in_err-nest_clauses-clause-cause
returns-in_err-nest_clauses-clause-cause g c =
    let p = err_from_is_err_and c.from_residual-in_err-nest_clauses.result c.from_residual-in_err-nest_clauses.ensures.1 in
    rw (p.1, p.2) (somehow-later (reaches c.equate_declared.ensures.kept) c.in_err-nest_clauses.ensures.cause)

pub returns-clause-kept : goal.returns-clause-kept
returns-clause-kept g c = then c.equate_declared.ensures.kept c.nest_clauses.ensures.kept

pub returns-clause-ok : goal.returns-clause-ok
returns-clause-ok g c =
    let E = g.E.EvalCtxt in
    let ts = (g.E.Build.context c.args.ecx.now).trees in
    let J = E.judge (E.fixed c.args.ecx.now) in
    let T = E.state c.equate_declared.new.ecx in
    let U = E.state c.nest_clauses.new.ecx in
    let e = env_forest ts c.args.env in
    let ls = args_forest ts c.args.locals in
    let ws = nested (map (clause_tree ts) c.args.wheres.now) in
    let k = c.equate_declared.ensures.kept in
    let second : run J e (standing T ls) ws ≡ At (standing U ls)
    = rw (k.fixed_same, (env-kept _ _ c.args.env k.grows c.requires.goal.env).1, (args-kept _ _ c.args.locals k.grows c.requires.locals).1, (clauses-kept _ _ c.args.wheres.now k.grows c.requires.wheres.fit).1) at c.in_ok-nest_clauses.ensures.ok in
    run-both J e (standing (E.state c.args.ecx.now) ls) (standing T ls) (standing U ls) (declared_equations ts c.args.predicate c.args.header c.args.value) ws c.in_ok-equate_declared.ensures.ok second
