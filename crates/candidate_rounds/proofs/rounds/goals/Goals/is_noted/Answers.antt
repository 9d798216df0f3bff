use Rattle.std.proofs.Common.{sym, ◌∙◌, ap}
use Rattle.candidate_rounds.specs.Table.Goals.{Goals, is_noted}
use Rattle.candidate_rounds.proofs.Table.Entries.{noted-is}
use Rattle.candidate_rounds.proofs.rounds.goals.Goals.is_noted.Goals as goal

pub returns : goal.returns
returns c =
    let i = c.self.inside in
    c.contains_key.ensures ∙ (sym (noted-is i.count i.entries.entries i.asks c.args.key.now) ∙ ap (λ (g : Goals). is_noted g c.args.key.now) c.self.view_is)
