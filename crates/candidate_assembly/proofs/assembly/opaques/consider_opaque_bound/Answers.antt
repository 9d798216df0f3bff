use Rattle.std.proofs.Common.{rules, [], Option, refl, subst}
use Rattle.ir_trees.specs.declared.decl.contents.AliasBoundKind.TheVariants.{SelfBounds}
use Rattle.ir_trees.specs.Syntax.Words.{clause_tree}
use Rattle.candidate_eval.specs.declared.eval.source.CandidateSource.TheVariants.{AliasBound}
use Rattle.candidate_eval.specs.Outcomes.Certainties.{AMBIGUOUS}
use Rattle.candidate_eval.specs.Derivations.Judging.{run, start}
use Rattle.candidate_eval.specs.Interface.Evaluators.{Keeps}
use Rattle.candidate_eval.specs.Outcomes.Responses.{Response}
use Rattle.candidate_eval.specs.Judges.States.{State}
use Rattle.candidate_assembly.specs.Answers.Telling.{Told}
use Rattle.candidate_assembly.proofs.Calls.Quieting.{quiet-kept, tried-quiet}
use Rattle.candidate_assembly.proofs.Rules.PureFolder.{closure-as-steps}
use Rattle.candidate_assembly.proofs.Calls.Keeping.{responds-at}
use Rattle.candidate_assembly.proofs.assembly.opaques.consider_opaque_bound.Goals as goal

pub returns : goal.returns
returns g c =
    let E = g.E.EvalCtxt in
    let K = g.G.GoalKind in
    let first = c.args.ecx.now in
    let old = g.E.Build.context first in
    let J = E.judge (E.fixed first) in
    let seen = K.kind.seen old.trees c.args.env c.args.predicate in
    let call = c.probe_and_match_goal_against_assumption in
    let k : State → Option Response = λ T. J.responded T AMBIGUOUS in
    let told = call.ensures.told k (record {
      at = λ x r y same called.
          responds-at E.fixed E.judge E.state g.E.Build.context first called.shown.now x called.left.now y AMBIGUOUS r called.shows called.leaves same.fixed_same called.met.1.0;
    }) in
    record {
      kept = quiet-kept call.ensures.kept
          (tried-quiet (run J (K.kind.rules.env_of seen) (start (E.state first)) (K.kind.rules.match_steps seen (clause_tree old.trees c.args.clause))) first call.result call.new.ecx
          (λ x r y same called.
          let kept : Keeps E.fixed E.probes g.E.Build.context x y = search rules in
          kept.faults)
          call.ensures.tried);
      alike = call.ensures.alike;
      told = subst (λ j. Told (g.E.Build.context call.new.ecx).trees call.result j)
          (closure-as-steps K.kind.rules J old (E.state first) (K.kind.seen old.trees c.args.env c.args.predicate) (AliasBound SelfBounds) (clause_tree old.trees c.args.clause) k [] AMBIGUOUS (λ ls T. refl)) told;
      cause = call.ensures.cause;
    }
