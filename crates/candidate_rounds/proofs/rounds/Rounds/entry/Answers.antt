use Rattle.std.proofs.Common.{sym, ◌∙◌, ap, subst, arith}
use Rattle.candidate_assembly.proofs.Calls.Causes.{so-err, so-ok}
use Rattle.candidate_assembly.specs.Goals.TraitGoals.{trait_goal}
use Rattle.candidate_rounds.specs.Table.Goals.{key_seen}
use Rattle.candidate_rounds.specs.Evaluators.Known.{listing, state, table_of}
use Rattle.candidate_rounds.specs.Evaluators.Stopping.{IsGoalKeyStop, key_memory, of_key_then}
use Rattle.derivations.specs.DerivedTables.{AnswerIsDerived}
use Rattle.derivations.proofs.Declared.{answer_derived}
use Rattle.candidate_rounds.proofs.Evaluators.Between.{parts}
use Rattle.candidate_rounds.proofs.Table.Derived.{derived-beside}
use Rattle.candidate_rounds.proofs.Table.Finding.{only-place}
use Rattle.candidate_rounds.proofs.Table.Noted.{goes-sure}
use Rattle.candidate_rounds.proofs.Table.Rounding.{goes-stays, no-verdict, place-below, place-verdict}
use Rattle.candidate_rounds.proofs.Table.Running.{seen-length}
use Rattle.rounds_judge.specs.Table.GoalTable.{verdict_in}
use Rattle.rounds_judge.specs.Table.Keys.{Key, key_at}
use Rattle.candidate_rounds.proofs.rounds.Rounds.entry.Goals as goal

pub returns-in_err-key-clause-stays : goal.returns-in_err-key-clause-stays
returns-in_err-key-clause-stays c = (goes-stays c.args.self.now c.key_for.new.self c.recall_well_kept.ensures c.key_for.ensures.goes c.key_for.ensures.state).0

pub returns-in_err-key-clause-table : goal.returns-in_err-key-clause-table
returns-in_err-key-clause-table c = (goes-stays c.args.self.now c.key_for.new.self c.recall_well_kept.ensures c.key_for.ensures.goes c.key_for.ensures.state).1

pub copied_at-requires : goal.copied_at-requires
copied_at-requires c =
    let s = c.key_for.new.self in
    let below = place-below (table_of s) (key_seen s.context.trees c.in_ok-key.key) c.in-Some.place (only-place (table_of s) (key_seen s.context.trees c.in_ok-key.key) c.in-Some.place c.in-Some.ensures) in
    let many = seen-length s in
    omega (arith, below, many)

pub returns-in-Some-clause-stays : goal.returns-in-Some-clause-stays
returns-in-Some-clause-stays c = (goes-stays c.args.self.now c.key_for.new.self c.recall_well_kept.ensures c.key_for.ensures.goes c.key_for.ensures.state).0

pub returns-in-Some-clause-table : goal.returns-in-Some-clause-table
returns-in-Some-clause-table c = (goes-stays c.args.self.now c.key_for.new.self c.recall_well_kept.ensures c.key_for.ensures.goes c.key_for.ensures.state).1

pub returns-in-Some-clause-is : goal.returns-in-Some-clause-is
returns-in-Some-clause-is c =
    let s = c.key_for.new.self in
    let g = goes-stays c.args.self.now s c.recall_well_kept.ensures c.key_for.ensures.goes c.key_for.ensures.state in
    let key = c.in_ok-key.ensures.key in
    let asked = key_at (state c.args.self.now) (trait_goal c.args.self.now.context.trees c.args.param_env c.args.predicate) in
    let there = sym (place-verdict (table_of s) (key_seen s.context.trees c.in_ok-key.key) c.in-Some.place (only-place (table_of s) (key_seen s.context.trees c.in_ok-key.key) c.in-Some.place c.in-Some.ensures)) ∙ (ap (verdict_in (table_of s)) key ∙ ap (λ T. verdict_in T asked) g.1) in
    so-ok c.copied_at.result (λ o same. same ∙ there) c.copied_at.ensures.is

pub returns-clause-stays : goal.returns-clause-stays
returns-clause-stays c = (goes-stays c.args.self.now c.key_for.new.self c.recall_well_kept.ensures c.key_for.ensures.goes c.key_for.ensures.state).0

pub returns-clause-table : goal.returns-clause-table
returns-clause-table c = (goes-stays c.args.self.now c.key_for.new.self c.recall_well_kept.ensures c.key_for.ensures.goes c.key_for.ensures.state).1

pub returns-clause-is : goal.returns-clause-is
returns-clause-is c =
    let s = c.key_for.new.self in
    let g = goes-stays c.args.self.now s c.recall_well_kept.ensures c.key_for.ensures.goes c.key_for.ensures.state in
    let asked = key_at (state c.args.self.now) (trait_goal c.args.self.now.context.trees c.args.param_env c.args.predicate) in
    sym (sym (ap (λ (k : Key). verdict_in (table_of s) k) c.in_ok-key.ensures.key ∙ ap (λ T. verdict_in T asked) g.1) ∙ no-verdict (table_of s) (key_seen s.context.trees c.in_ok-key.key) c.in-None.ensures)

pub returns-in-Some-clause-cause : goal.returns-in-Some-clause-cause
returns-in-Some-clause-cause c =
    let r = c.args.self.now in
    let g = trait_goal r.context.trees c.args.param_env c.args.predicate in
    so-err c.copied_at.result (λ s m. subst (IsGoalKeyStop c.key_for.new.self.context.trees (state r) g) (sym m) (of_key_then key_memory)) c.copied_at.ensures.cause

pub returns-in-Some-clause-yes : goal.returns-in-Some-clause-yes
returns-in-Some-clause-yes c =
    let r = c.args.self.now in
    let s = c.key_for.new.self in
    let g = goes-stays r s c.recall_well_kept.ensures c.key_for.ensures.goes c.key_for.ensures.state in
    let k = key_at (state r) (trait_goal r.context.trees c.args.param_env c.args.predicate) in
    let derived = subst (λ T. AnswerIsDerived s.context (listing s) T k (verdict_in (table_of r) k)) (sym g.1) (answer_derived s.context (listing s) (table_of r) k (derived-beside r s g.0 (table_of r) (parts c.recall_well_kept.ensures).derived)) in
    so-ok c.copied_at.result (λ o e. subst (AnswerIsDerived s.context (listing s) (table_of s) k) (sym e) derived) (returns-in-Some-clause-is c)

pub returns-clause-yes : goal.returns-clause-yes
returns-clause-yes c =
    let r = c.args.self.now in
    let s = c.key_for.new.self in
    let g = goes-stays r s c.recall_well_kept.ensures c.key_for.ensures.goes c.key_for.ensures.state in
    let k = key_at (state r) (trait_goal r.context.trees c.args.param_env c.args.predicate) in
    subst (AnswerIsDerived s.context (listing s) (table_of s) k) (sym (returns-clause-is c))
    (subst (λ T. AnswerIsDerived s.context (listing s) T k (verdict_in (table_of r) k)) (sym g.1) (answer_derived s.context (listing s) (table_of r) k (derived-beside r s g.0 (table_of r) (parts c.recall_well_kept.ensures).derived)))

pub returns-in_err-key-clause-sure : goal.returns-in_err-key-clause-sure
returns-in_err-key-clause-sure c = goes-sure c.args.self.now c.key_for.new.self c.recall_well_kept.ensures c.key_for.ensures.goes

pub returns-in-Some-clause-sure : goal.returns-in-Some-clause-sure
returns-in-Some-clause-sure c = goes-sure c.args.self.now c.key_for.new.self c.recall_well_kept.ensures c.key_for.ensures.goes

pub returns-clause-sure : goal.returns-clause-sure
returns-clause-sure c = goes-sure c.args.self.now c.key_for.new.self c.recall_well_kept.ensures c.key_for.ensures.goes
