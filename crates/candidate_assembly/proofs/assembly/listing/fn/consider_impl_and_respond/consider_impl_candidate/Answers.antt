use Rattle.std.proofs.lemmas.Result.{IfErr-weaker}
use Rattle.candidate_eval.proofs.Interface.Accounts.{by-stop, reaches}
use Rattle.candidate_assembly.proofs.Calls.Keeping.{itself-here}
use Rattle.candidate_assembly.proofs.Calls.Stepping.{evaluator-own}
use Rattle.candidate_assembly.proofs.assembly.listing.fn.consider_impl_and_respond.consider_impl_candidate.Goals as goal

pub returns : goal.returns
returns g c =
    let E = g.E.EvalCtxt in
    let r = c.evaluate_added_goals_and_make_canonical_response in
    record {
      kept = r.ensures.kept;
      told = record {
        ok = r.ensures.ok;
        fits = r.ensures.sort;
        refused = r.ensures.refused;
        stopped = IfErr-weaker r.result _ _ (λ e h. by-stop e (λ s x. evaluator-own s (g.met.E.EvalCtxt.stops_itself _ _ _ s x)) h) r.ensures.cause;
      };
      cause = itself-here E.fixed g.E.Build.context E.state E.stops r.result _ (reaches r.ensures.kept) r.ensures.cause;
    }
