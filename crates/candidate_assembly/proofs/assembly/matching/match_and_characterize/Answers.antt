use Rattle.std.proofs.Common.{rules, [], ◌∷◌, subst, sym, ◌∙◌, IfErr}
use Rattle.ir_trees.specs.Syntax.Words.{IsClause, IsParamEnv, clause_tree, env_forest}
use Rattle.ir_folds.proofs.Instantiation.Joining.{clause-kept}
use Rattle.candidate_eval.specs.Interface.Accounts.{by_stop}
use Rattle.candidate_eval.specs.Interface.Evaluators.{Keeps}
use Rattle.candidate_eval.specs.Derivations.Judging.{comes_to, run, start}
use Rattle.candidate_eval.specs.Derivations.Rules.{characterise, settle}
use Rattle.candidate_eval.proofs.Dynamic.Objects.{env-kept}
use Rattle.candidate_assembly.specs.Answers.Telling.{StopsOfItself, Told}
use Rattle.candidate_assembly.proofs.Calls.Quieting.{after-quiet, any-kept, quiet-kept}
use Rattle.candidate_assembly.proofs.Rules.PureFolder.{after-accounted, after-ruled, rule-comes}
use Rattle.candidate_assembly.proofs.Rules.WhereBounds.{characterised-same, settled-same}
use Rattle.candidate_assembly.proofs.assembly.matching.match_and_characterize.Goals as goal

pub match_assumption-requires-clause-callable : goal.match_assumption-requires-clause-callable
match_assumption-requires-clause-callable g c =
    let context = g.E.Build.context in
    let old = context c.args.ecx.now in
    record {
      may = λ x k p e.
          let env-there : IsParamEnv (context p.now).trees c.args.env = subst (λ z. IsParamEnv (context z).trees c.args.env) (sym e) (env-kept old (context x) c.args.env k.grows c.requires.goal.env).0 in
          let clause-there : IsClause (context p.now).trees c.args.clause = subst (λ z. IsClause (context z).trees c.args.clause) (sym e) (clause-kept old (context x) c.args.clause k.grows c.requires.clause).0 in
          search rules;
      keeps = λ x r y k is.
          let kept : Keeps g.E.EvalCtxt.fixed g.E.EvalCtxt.probes context x y = search rules in
          any-kept kept;
    }

pub returns-clause-kept : goal.returns-clause-kept
returns-clause-kept g c =
    let E = g.E.EvalCtxt in
    let K = g.G.GoalKind in
    let context = g.E.Build.context in
    let first = c.args.ecx.now in
    let seen = K.kind.seen (context first).trees c.args.env c.args.predicate in
    let reached = run (E.judge (E.fixed first)) (K.kind.rules.env_of seen) (start (E.state first)) (K.kind.rules.match_steps seen (clause_tree (context first).trees c.args.clause)) in
    quiet-kept c.match_assumption.ensures.kept
    (after-quiet first reached c.match_assumption.result c.match_assumption.new.ecx
    (λ x r y k met.
    let kept : Keeps E.fixed E.probes context x y = search rules in
    kept.faults)
    c.match_assumption.ensures.after)

pub returns-clause-told : goal.returns-clause-told
returns-clause-told g c =
    let E = g.E.EvalCtxt in
    let K = g.G.GoalKind in
    let context = g.E.Build.context in
    let first = c.args.ecx.now in
    let old = context first in
    let ts = old.trees in
    let J = E.judge (E.fixed first) in
    let S = E.state first in
    let seen = K.kind.seen ts c.args.env c.args.predicate in
    let t = clause_tree ts c.args.clause in
    let steps = K.kind.rules.match_steps seen t in
    let given = g.met.G.GoalKind.env_given ts c.args.env c.args.predicate in
    subst (λ j. Told (context c.match_assumption.new.ecx).trees c.match_assumption.result j) (rule-comes K.kind.rules J old S seen t (settle ∷ []) (characterise t) c.requires.matches.passes)
    (after-ruled J (K.kind.rules.env_of seen) S steps (settle ∷ []) (characterise t) first c.match_assumption.result c.match_assumption.new.ecx
    (λ x r y ls k met.
    let told : Told (context y).trees r (comes_to (E.judge (E.fixed x)) (env_forest (context x).trees c.args.env) (start (E.state x)) (settle ∷ []) (characterise (clause_tree (context x).trees c.args.clause))) = search rules in
    subst (λ j. Told (context y).trees r j)
    (characterised-same E.judge (E.fixed first) (E.fixed x) (E.state x) (K.kind.rules.env_of seen) (env_forest (context x).trees c.args.env) t (clause_tree (context x).trees c.args.clause) k.fixed_same
    ((env-kept old (context x) c.args.env k.grows c.requires.goal.env).1 ∙ sym given) (clause-kept old (context x) c.args.clause k.grows c.requires.clause).1
    ∙ sym (settled-same J (K.kind.rules.env_of seen) (E.state x) ls (characterise t)))
    told)
    c.match_assumption.ensures.after)

pub returns-clause-cause : goal.returns-clause-cause
returns-clause-cause g c =
    let E = g.E.EvalCtxt in
    let K = g.G.GoalKind in
    let context = g.E.Build.context in
    let first = c.args.ecx.now in
    let seen = K.kind.seen (context first).trees c.args.env c.args.predicate in
    let reached = run (E.judge (E.fixed first)) (K.kind.rules.env_of seen) (start (E.state first)) (K.kind.rules.match_steps seen (clause_tree (context first).trees c.args.clause)) in
    after-accounted first reached c.match_assumption.result c.match_assumption.new.ecx
    (λ x r y k met.
    let cause : IfErr r (by_stop (StopsOfItself E.fixed context E.state E.stops x y)) = search rules in
    cause)
    c.match_assumption.ensures.after
