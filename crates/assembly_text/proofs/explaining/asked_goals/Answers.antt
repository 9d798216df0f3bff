use Rattle.std.proofs.Common.{sym, subst}
use Rattle.std.specs.Prelude.{All}
use Rattle.std.proofs.lemmas.List.Elements.{All-push}
use Rattle.assembly_text.specs.Explaining.{IsAsked}
use Rattle.assembly_text.proofs.explaining.asked_goals.Goals as goal

pub loop-place-preserved : goal.loop-place-preserved
loop-place-preserved c =
    let ts = c.args.rounds.now.context.trees in
    subst (All (IsAsked ts)) (sym c.in_ok-push.ensures.items)
    (All-push (IsAsked ts) c.loop-place.goals.items c.asked_goal.result c.loop-place.invariant (c.asked_goal.ensures ts c.goal_at.ensures.goal c.goal_at.ensures.sort))
