use Rattle.std.proofs.Common.{◌≡◌, [], ◌∷◌, ◌++◌, length, ap, subst, ◌∙◌}
use Rattle.std.specs.List.{list_any}
use Rattle.std.specs.Map.{keys_of}
use Rattle.candidate_rounds.specs.Table.Goals.{Goals}
use Rattle.candidate_rounds.specs.Table.KeyNumbers.{same_numbers}
use Rattle.candidate_rounds.proofs.Table.Entries.{entered-last, put-last, seen_of, still-all}
use Rattle.candidate_rounds.proofs.rounds.goals.Goals.enter.Goals as goal

pub returns-clause-entered : goal.returns-clause-entered
returns-clause-entered c =
    let i = c.self.inside in
    let k = c.args.key in
    let asked = ap (λ (g : Goals). g.asked) c.self.view_is ∙ c.requires.none in
    let missing = ap (λ (g : Goals). list_any (same_numbers k) (keys_of g.table)) c.self.view_is ∙ c.requires.missing in
    let none = still-all i.count i.entries.entries i.asks k c.self.invariant asked missing in
    let s = c.args.slot in
    let put = put-last i.entries k s c.insert.new.self.entries c.in_ok-insert.ensures.entries none in
    subst (λ (g : Goals). seen_of c.len-self-inside.result c.insert.new.self.entries i.asks ≡ record g { table = g.table ++ (k, s) ∷ [] }) c.self.view_is
    (ap (λ es. seen_of c.len-self-inside.result es i.asks) put
    ∙ entered-last i.count i.entries.entries i.asks k c.self.invariant s c.len-self-inside.result (c.len-self-inside.ensures.len ∙ ap length put) asked)
