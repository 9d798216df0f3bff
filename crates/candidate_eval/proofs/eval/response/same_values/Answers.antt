use Rattle.candidate_eval.proofs.Outcomes.Equal.{lists_say}
use Rattle.candidate_eval.proofs.eval.response.same_values.Goals as goal

pub returns : goal.returns
returns c = lists_say c.args.cx.now.trees _ _ _ c.requires.a.values c.requires.b.values c.same.ensures
