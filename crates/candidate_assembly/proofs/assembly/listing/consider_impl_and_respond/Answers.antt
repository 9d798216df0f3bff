use Rattle.std.proofs.Common.{rules}
use Rattle.candidate_eval.specs.Derivations.Judging.{run, start}
use Rattle.candidate_eval.specs.Interface.Evaluators.{Keeps}
use Rattle.candidate_assembly.proofs.Calls.Keeping.{responds-at}
use Rattle.candidate_assembly.proofs.Calls.Quieting.{quiet-kept, tried-quiet-with}
use Rattle.candidate_assembly.proofs.assembly.listing.consider_impl_and_respond.Goals as goal

pub returns : goal.returns
returns g c =
    let E = g.E.EvalCtxt in
    let K = g.G.GoalKind in
    let old = g.E.Build.context c.args.ecx.now in
    let first = c.args.ecx.now in
    let seen = K.kind.seen old.trees c.args.env c.args.predicate in
    let part = K.kind.rules.impl_part old (E.state c.args.ecx.now).mode (K.kind.seen old.trees c.args.env c.args.predicate) c.args.of in
    let done = c.consider_impl_candidate.ensures in
    record {
      kept = quiet-kept done.kept
          (tried-quiet-with part.certainty (run (E.judge (E.fixed first)) (K.kind.rules.env_of seen) (start (E.state first)) part.steps) first c.consider_impl_candidate.result c.consider_impl_candidate.new.ecx
          (λ x r y same called.
          let kept : Keeps E.fixed E.probes g.E.Build.context x y = search rules in
          kept.faults)
          done.tried);
      alike = done.alike;
      told = done.told (λ S. (E.judge (E.fixed c.args.ecx.now)).responded S part.certainty) (record {
        at = λ x r y same called.
            responds-at E.fixed E.judge E.state g.E.Build.context c.args.ecx.now called.shown.now x called.left.now y part.certainty r called.shows called.leaves same.fixed_same called.met.1.1.0;
      });
      cause = done.cause;
    }
