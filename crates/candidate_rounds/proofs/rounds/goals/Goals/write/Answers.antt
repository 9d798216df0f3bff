use Rattle.std.proofs.Common.{◌≡◌, [], ◌++◌, length, map, sym, ap, subst, ◌∙◌}
use Rattle.candidate_rounds.specs.Table.Entries.{all_written_into, new_entry}
use Rattle.candidate_rounds.specs.Table.Goals.{Goals}
use Rattle.candidate_rounds.proofs.Table.Entries.{seen_of, written-all}
use Rattle.candidate_rounds.proofs.rounds.goals.Goals.write.Goals as goal

pub returns : goal.returns
returns c =
    let i = c.self.inside in
    let ws = c.args.written.items in
    let many = c.requires ∙ sym (ap (λ (g : Goals). length g.table) c.self.view_is) in
    subst (λ (g : Goals). seen_of c.len-self-inside.result c.put_all_in.new.entries.entries i.asks ≡ record { table = all_written_into g.table ws ++ map new_entry g.asked; asked = []; asks = g.asks }) c.self.view_is
    (written-all i.count i.entries.entries ws c.self.invariant many c.len-self-inside.result c.put_all_in.new.entries.entries i.asks c.put_all_in.ensures c.len-self-inside.ensures.len)
