use Rattle.std.proofs.Common.{Some, ap, subst, sym, ◌∙◌}
use Rattle.ir_trees.specs.declared.ir.kinds.TraitPredicate.{TraitPredicate}
use Rattle.ir_trees.specs.Declarations.Context.{Context}
use Rattle.ir_trees.proofs.Growth.Kept.{grows-trans}
use Rattle.candidate_assembly.specs.Goals.TraitGoals.{trait_goal}
use Rattle.candidate_eval.specs.Outcomes.ResponseTrees.{response_of}
use Rattle.candidate_rounds.specs.declared.rounds.goals.Verdict.{Verdict}
use Rattle.candidate_rounds.specs.Evaluators.Known.{state, table_of}
use Rattle.candidate_rounds.specs.Table.Goals.{verdict_seen}
use Rattle.candidate_rounds.specs.Table.Normalizing.{trait_predicate}
use Rattle.candidate_rounds.specs.Table.Running.{computing}
use Rattle.rounds_judge.specs.Table.GoalTable.{may_be_asked, verdict_in}
use Rattle.rounds_judge.specs.Table.Keys.{Key, key_at}
use Rattle.candidate_rounds.specs.Table.Efforts.{Runs}
use Rattle.assembly_text.specs.Normalizing.IsSettledNormalOf.{is_open, is_refused, is_settled}
use Rattle.assembly_text.proofs.Answered.{on-answer}
use Rattle.assembly_text.proofs.Projections.{projection-kept, trait-key-later}
use Rattle.assembly_text.proofs.solving.settled_normal.Goals as goal

pub run_by-requires-clause-asked : goal.run_by-requires-clause-asked
run_by-requires-clause-asked c =
    let r = c.args.rounds.now in
    let predicate = c.trait_predicate-predicate.ensures ∙ ap (λ (y : Context). trait_predicate y c.args.alias) c.cx.ensures in
    ap (λ (p : TraitPredicate). may_be_asked (key_at (state r) (trait_goal r.context.trees c.args.env p))) predicate ∙ c.requires.asked

pub returns-in-Maybe-clause-is : goal.returns-in-Maybe-clause-is
returns-in-Maybe-clause-is c =
    let r = c.args.rounds.now in
    let m = c.run_by.new.self in
    let predicate = c.trait_predicate-predicate.ensures ∙ ap (λ (y : Context). trait_predicate y c.args.alias) c.cx.ensures in
    let key = ap (λ (p : TraitPredicate). key_at (state r) (trait_goal r.context.trees c.args.env p)) predicate in
    is_open (response_of m.context.trees c.in-Maybe.field-0) c.in-Maybe.field-1
    (subst (λ (k : Key). Runs (computing r) k c.args.effort (table_of r) (table_of m)) key c.in_ok-run_by.ensures.ran)
    (ap (λ (k : Key). verdict_in (table_of m) k) (sym key) ∙ (c.in_ok-run_by.ensures.answer ∙ ap (λ (v : Verdict). Some (verdict_seen m.context.trees v)) c.in-Maybe.is))

pub returns-in-Refused-clause-is : goal.returns-in-Refused-clause-is
returns-in-Refused-clause-is c =
    let r = c.args.rounds.now in
    let m = c.run_by.new.self in
    let predicate = c.trait_predicate-predicate.ensures ∙ ap (λ (y : Context). trait_predicate y c.args.alias) c.cx.ensures in
    let key = ap (λ (p : TraitPredicate). key_at (state r) (trait_goal r.context.trees c.args.env p)) predicate in
    is_refused (subst (λ (k : Key). Runs (computing r) k c.args.effort (table_of r) (table_of m)) key c.in_ok-run_by.ensures.ran)
    (ap (λ (k : Key). verdict_in (table_of m) k) (sym key) ∙ (c.in_ok-run_by.ensures.answer ∙ ap (λ (v : Verdict). Some (verdict_seen m.context.trees v)) c.in-Refused.is))

pub normal_after-requires-clause-projection : goal.normal_after-requires-clause-projection
normal_after-requires-clause-projection c = projection-kept c.args.rounds.now.context c.run_by.new.self.context c.args.env c.args.alias c.run_by.ensures.stays.grows c.requires.projection

pub normal_after-requires-clause-asked : goal.normal_after-requires-clause-asked
normal_after-requires-clause-asked c =
    ap may_be_asked (trait-key-later c.args.rounds.now c.run_by.new.self c.args.env c.args.alias c.run_by.ensures.stays c.requires.projection) ∙ c.requires.asked

pub returns-clause-grows : goal.returns-clause-grows
returns-clause-grows c = grows-trans _ _ _ c.run_by.ensures.stays.grows c.normal_after.ensures.grows

pub returns-clause-is : goal.returns-clause-is
returns-clause-is c =
    let r = c.args.rounds.now in
    let m = c.run_by.new.self in
    let predicate = c.trait_predicate-predicate.ensures ∙ ap (λ (y : Context). trait_predicate y c.args.alias) c.cx.ensures in
    let key = ap (λ (p : TraitPredicate). key_at (state r) (trait_goal r.context.trees c.args.env p)) predicate in
    on-answer c.normal_after.result (λ n h. is_settled m (response_of m.context.trees c.in-Yes.field-0) c.in-Yes.field-1 c.run_by.ensures.stays
    (subst (λ (k : Key). Runs (computing r) k c.args.effort (table_of r) (table_of m)) key c.in_ok-run_by.ensures.ran)
    (ap (λ (k : Key). verdict_in (table_of m) k) (sym key) ∙ (c.in_ok-run_by.ensures.answer ∙ ap (λ (v : Verdict). Some (verdict_seen m.context.trees v)) c.in-Yes.is)) h)
    c.normal_after.ensures.is
