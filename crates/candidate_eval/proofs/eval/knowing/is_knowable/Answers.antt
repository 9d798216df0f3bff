use Rattle.std.proofs.Common.{rules, ◌≡◌, refl}
use Rattle.candidate_eval.specs.Interface.Knowing.{NormalizesAsJudged}
use Rattle.candidate_eval.proofs.Dynamic.Objects.{env-kept}
use Rattle.candidate_eval.proofs.Interface.Knowing.{lead-judged, left-stop, knows-as-judged}
use Rattle.candidate_eval.proofs.eval.knowing.is_knowable.Goals as goal

pub knowable-requires-clause-normaliser : goal.knowable-requires-clause-normaliser
knowable-requires-clause-normaliser g c =
    let E = g.E.EvalCtxt in
    let context = g.E.Build.context in
    record {
      callable = record {
        at = λ f x t lent e q grown i small.
            let l = lead-judged context _ E.fixed E.probes E.state E.judge E.stops c.args.env (λ z. z.0 ≡ c.args.env)
            (λ f x t r f' x' h n. let k = n.called in let l = n.lends in let m = n.leaves in (search rules, search rules)) q.calls _ _ f x refl q.lead in
            let held = l.0 in
            let there = (env-kept (context c.args.ecx.now) (context x) c.args.env grown c.requires.env).0 in
            search rules;
      };
      keeps = record {
        at = λ f x t r f' x' q grown i small n.
            let l = lead-judged context _ E.fixed E.probes E.state E.judge E.stops c.args.env (λ z. z.0 ≡ c.args.env)
            (λ f x t r f' x' h n. let k = n.called in let l = n.lends in let m = n.leaves in (search rules, search rules)) q.calls _ _ f x refl q.lead in
            let held = l.0 in
            let says : NormalizesAsJudged context E.fixed E.probes E.state E.judge E.stops x x' c.args.env t r =
            (let k = n.called in let l = n.lends in let m = n.leaves in search rules) in
            (says.kept.grows, says.sort);
      };
    }

pub returns-clause-kept : goal.returns-clause-kept
returns-clause-kept g c =
    let E = g.E.EvalCtxt in
    (lead-judged g.E.Build.context _ E.fixed E.probes E.state E.judge E.stops c.args.env (λ z. z.0 ≡ c.args.env)
    (λ f x t r f' x' h n. let k = n.called in let l = n.lends in let m = n.leaves in (search rules, search rules))
    c.knowable.ensures.calls.calls _ _ _ _ refl c.knowable.ensures.calls.lead).1

pub returns-clause-answer : goal.returns-clause-answer
returns-clause-answer g c =
    let E = g.E.EvalCtxt in
    let L = g.met.E.EvalCtxt in
    let x = c.args.ecx.now in
    knows-as-judged c.knowable.ensures.answer E.fixed E.probes E.state E.judge E.stops c.args.env (λ z. z.0 ≡ c.args.env)
    (λ f x t r f' x' h n. let k = n.called in let l = n.lends in let m = n.leaves in (search rules, search rules))
    L.sees c.requires.env refl (L.declared x) (L.walks x)

pub returns-clause-cause : goal.returns-clause-cause
returns-clause-cause g c =
    let E = g.E.EvalCtxt in
    left-stop g.E.Build.context _ E.fixed E.probes E.state E.judge E.stops c.args.env (λ z. z.0 ≡ c.args.env)
    (λ f x t r f' x' h n. let k = n.called in let l = n.lends in let m = n.leaves in (search rules, search rules)) refl c.knowable.ensures.calls
