use Rattle.std.proofs.Common.{◌≡◌, [], drop, length, take, sym, ◌∙◌, ap, subst}
use Rattle.std.specs.Map.{keys_of}
use Rattle.candidate_rounds.specs.Calls.Writing.{ChangeTable}
use Rattle.candidate_rounds.specs.Table.Entries.{all_written_into, asked_in}
use Rattle.candidate_rounds.specs.Table.Goals.{Goals, table_seen}
use Rattle.candidate_rounds.proofs.Table.Changing.{asked-changes, some-asked}
use Rattle.candidate_rounds.proofs.Table.Entries.{none-after, taken-all}
use Rattle.candidate_rounds.proofs.rounds.goals.Goals.is_still.Goals as goal

pub are_there-requires : goal.are_there-requires
are_there-requires c =
    let i = c.self.inside in
    let es = i.entries.entries in
    let all = sym c.if-len-self.true ∙ c.len.ensures.len in
    c.requires ∙ (sym (ap (λ (g : Goals). length g.table) c.self.view_is) ∙ (ap (λ n. length (take n es)) all ∙ ap length (taken-all es)))

pub returns-then-len-self-clause-asked : goal.returns-then-len-self-clause-asked
returns-then-len-self-clause-asked c = λ _.
    let i = c.self.inside in
    let es = i.entries.entries in
    let all = sym c.if-len-self.true ∙ c.len.ensures.len in
    subst (λ (g : Goals). g.asked ≡ []) c.self.view_is (ap (λ n. keys_of (drop n es)) all ∙ ap keys_of (none-after es))

pub returns-then-len-self-clause-table : goal.returns-then-len-self-clause-table
returns-then-len-self-clause-table c = λ t ts.
    let i = c.self.inside in
    let es = i.entries.entries in
    let all = sym c.if-len-self.true ∙ c.len.ensures.len in
    let ws = c.args.written.now in
    let whole = ap (λ n. take n es) all ∙ taken-all es in
    subst (λ (g : Goals). table_seen ts (all_written_into g.table ws) ≡ table_seen ts g.table) c.self.view_is
    (subst (λ (xs : _). table_seen ts (all_written_into xs ws) ≡ table_seen ts xs) (sym whole) (c.are_there.ensures.same t ts))

pub returns-then-len-self-clause-other : goal.returns-then-len-self-clause-other
returns-then-len-self-clause-other c = λ t.
    let i = c.self.inside in
    let es = i.entries.entries in
    let all = sym c.if-len-self.true ∙ c.len.ensures.len in
    let ws = c.args.written.now in
    let whole = ap (λ n. take n es) all ∙ taken-all es in
    let none = ap (λ n. keys_of (drop n es)) all ∙ ap keys_of (none-after es) in
    subst (λ (g : Goals). ChangeTable g.table g.asked ws) c.self.view_is
    (subst (λ ks. ChangeTable (take i.count es) ks ws) (sym none)
    (subst (λ xs. ChangeTable xs [] ws) (sym whole) (c.are_there.ensures.other t)))

pub returns-else-len-self-clause-other : goal.returns-else-len-self-clause-other
returns-else-len-self-clause-other c = λ _.
    let i = c.self.inside in
    let es = i.entries.entries in
    let ws = c.args.written.now in
    let some = some-asked i.count es c.self.invariant.enough (λ q. c.if-len-self.false (c.len.ensures.len ∙ q)) in
    subst (λ (g : Goals). ChangeTable g.table g.asked ws) c.self.view_is (asked-changes (take i.count es) (asked_in i.count es) ws some)
