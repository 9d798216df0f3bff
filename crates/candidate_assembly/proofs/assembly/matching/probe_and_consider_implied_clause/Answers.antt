use Rattle.std.proofs.Common.{rules, Option, subst, sym, ap, ◌∙◌}
use Rattle.ir_trees.specs.Syntax.Words.{IsParamEnv, clause_tree}
use Rattle.candidate_eval.specs.declared.eval.certainty.Certainty.TheVariants.{Yes}
use Rattle.candidate_eval.specs.Derivations.Judging.{comes_to, run, start}
use Rattle.candidate_eval.specs.Interface.Evaluators.{Keeps}
use Rattle.candidate_eval.specs.Outcomes.Responses.{Response}
use Rattle.candidate_eval.specs.Derivations.Rules.{ask}
use Rattle.candidate_eval.specs.Judges.States.{State}
use Rattle.candidate_eval.proofs.Dynamic.Objects.{env-kept}
use Rattle.candidate_assembly.specs.Answers.Closures.{Responds}
use Rattle.candidate_assembly.specs.Rules.Requirements.{RequirementsFit, requirement_steps, with_requirements}
use Rattle.candidate_assembly.specs.Answers.Telling.{Told, standing}
use Rattle.candidate_assembly.proofs.Calls.Quieting.{any-kept, quiet-kept, tried-quiet}
use Rattle.candidate_assembly.proofs.Rules.PureFolder.{closure-as-steps}
use Rattle.candidate_assembly.proofs.Rules.Requiring.{fits-kept, requirements-come, requirements-kept}
use Rattle.candidate_assembly.proofs.assembly.matching.probe_and_consider_implied_clause.Goals as goal

pub probe_and_match_goal_against_assumption-requires-clause-callable : goal.probe_and_match_goal_against_assumption-requires-clause-callable
probe_and_match_goal_against_assumption-requires-clause-callable g c =
    let context = g.E.Build.context in
    let old = context c.args.ecx.now in
    record {
      may = λ x k p e.
          let env-there : IsParamEnv (context p.now).trees c.args.env = subst (λ z. IsParamEnv (context z).trees c.args.env) (sym e) (env-kept old (context x) c.args.env k.grows c.requires.goal.env).0 in
          let fit-there : RequirementsFit (context p.now).trees c.args.requirements.now = subst (λ z. RequirementsFit (context z).trees c.args.requirements.now) (sym e) (fits-kept old (context x) c.args.requirements.now k.grows c.requires.requirements) in
          search rules;
      keeps = λ x r y k is.
          let kept : Keeps g.E.EvalCtxt.fixed g.E.EvalCtxt.probes context x y = search rules in
          any-kept kept;
      cause = λ x r y k is. search rules;
    }

pub returns : goal.returns
returns g c =
    let E = g.E.EvalCtxt in
    let K = g.G.GoalKind in
    let context = g.E.Build.context in
    let first = c.args.ecx.now in
    let old = context first in
    let ts = old.trees in
    let rs = c.args.requirements.now in
    let J = E.judge (E.fixed first) in
    let S = E.state first in
    let seen = K.kind.seen ts c.args.env c.args.predicate in
    let t = clause_tree ts c.args.clause in
    let call = c.probe_and_match_goal_against_assumption in
    let k : State → Option Response = λ T. J.responded (with_requirements ts c.args.env T rs) Yes in
    let told = call.ensures.told k (record {
      at = λ x r y keeps met.
          let so : Responds (context y).trees r ((E.judge (E.fixed x)).responded (with_requirements (context x).trees c.args.env (E.state x) rs) Yes) = search rules in
          subst (λ o. Responds (context y).trees r o)
          (ap (λ z. (E.judge z).responded (with_requirements (context x).trees c.args.env (E.state x) rs) Yes) keeps.fixed_same
          ∙ ap (λ z. J.responded z Yes) (requirements-kept old (context x) c.args.env (E.state x) rs keeps.grows c.requires.goal.env c.requires.requirements))
          so;
    }) in
    record {
      kept = quiet-kept call.ensures.kept
          (tried-quiet (run J (K.kind.rules.env_of seen) (start S) (K.kind.rules.match_steps seen t)) first call.result call.new.ecx
          (λ x r y keeps met.
          let kept : Keeps E.fixed E.probes context x y = search rules in
          kept.faults)
          call.ensures.tried);
      alike = call.ensures.alike;
      told = subst (λ j. Told (context call.new.ecx).trees call.result j)
          (closure-as-steps K.kind.rules J old S seen c.args.source t k (requirement_steps ts rs) Yes
          (λ ls T. ap (λ e. comes_to J e (standing T ls) (requirement_steps ts rs) (ask c.args.source Yes)) (g.met.G.GoalKind.env_given ts c.args.env c.args.predicate)
          ∙ requirements-come J ts c.args.env c.args.source Yes T ls rs c.requires.required_free))
          told;
      cause = call.ensures.cause;
    }
