use Rattle.std.proofs.Common.{◌≡◌, map, drop}
use Rattle.ir_trees.specs.Syntax.Words.{args_forest, clause_tree, env_forest}
use Rattle.candidate_eval.specs.Interface.Evaluators.{Keeps}
use Rattle.candidate_eval.specs.Derivations.Judging.{run}
use Rattle.candidate_eval.specs.Derivations.Rules.{add}
use Rattle.candidate_assembly.specs.Answers.Telling.{standing}
use Rattle.candidate_assembly.proofs.trait_goals.impls.nest_clauses.Given as goal

-- what is left to be added from here comes to what all of it comes to from the start
abbrev pub invariant-loop-clause : goal.invariant-loop-clause
invariant-loop-clause g l =
    let E = g.E.EvalCtxt in
    let ts = (g.E.Build.context l.fn.ecx).trees in
    let J = E.judge (E.fixed l.fn.ecx) in
    let e = env_forest ts l.env in
    let ls = args_forest ts l.locals in
    record {
      kept : Keeps E.fixed E.probes g.E.Build.context l.fn.ecx l.ecx;
      run : run J e (standing (E.state l.ecx) ls) (map (add l.source) (map (clause_tree ts) (drop l.clause-index l.clauses))) ≡ run J e (standing (E.state l.fn.ecx) ls) (map (add l.source) (map (clause_tree ts) l.clauses));
    }
