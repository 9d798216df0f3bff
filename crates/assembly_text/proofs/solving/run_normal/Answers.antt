use Rattle.std.proofs.Common.{Bool, ◌∙◌, ap, subst, sym}
use Rattle.ir_trees.specs.declared.ir.kinds.TraitPredicate.{TraitPredicate}
use Rattle.ir_trees.specs.Declarations.Context.{Context}
use Rattle.candidate_assembly.specs.Goals.TraitGoals.{trait_goal}
use Rattle.candidate_rounds.specs.Evaluators.Known.{state}
use Rattle.candidate_rounds.specs.Table.Normalizing.{trait_predicate}
use Rattle.rounds_judge.specs.Table.GoalTable.{may_be_asked}
use Rattle.rounds_judge.specs.Table.Keys.{key_at}
use Rattle.assembly_text.specs.Normalizing.{IsNormalBy}
use Rattle.assembly_text.specs.Normalizing.NormalComes.{normalized, not_asked}
use Rattle.assembly_text.proofs.Answered.{on-answer}
use Rattle.assembly_text.proofs.Projections.{predicate-kept}
use Rattle.assembly_text.proofs.solving.run_normal.Goals as goal

pub returns-then-not-branch-clause-comes : goal.returns-then-not-branch-clause-comes
returns-then-not-branch-clause-comes c =
    let s = c.may_be_run.new.self in
    let predicate = c.trait_predicate-predicate.ensures ∙ (ap (λ (y : Context). trait_predicate y c.args.alias) c.cx.ensures ∙ sym (predicate-kept c.args.rounds.now.context s.context c.args.alias c.may_be_run.ensures.stays.grows)) in
    let asked = ap (λ (p : TraitPredicate). may_be_asked (key_at (state s) (trait_goal s.context.trees c.args.env p))) predicate in
    not_asked s c.may_be_run.ensures.stays (sym asked ∙ (sym c.in_ok-may_be_run.ensures.is ∙ c.if-not-branch.true))

pub settled_normal-requires-clause-asked : goal.settled_normal-requires-clause-asked
settled_normal-requires-clause-asked c =
    let s = c.may_be_run.new.self in
    let predicate = c.trait_predicate-predicate.ensures ∙ (ap (λ (y : Context). trait_predicate y c.args.alias) c.cx.ensures ∙ sym (predicate-kept c.args.rounds.now.context s.context c.args.alias c.may_be_run.ensures.stays.grows)) in
    let asked = ap (λ (p : TraitPredicate). may_be_asked (key_at (state s) (trait_goal s.context.trees c.args.env p))) predicate in
    sym asked ∙ (sym c.in_ok-may_be_run.ensures.is ∙ c.if-not-branch.false)

pub normal_after-requires-clause-asked : goal.normal_after-requires-clause-asked
normal_after-requires-clause-asked c =
    let s = c.may_be_run.new.self in
    let predicate = c.trait_predicate-predicate.ensures ∙ (ap (λ (y : Context). trait_predicate y c.args.alias) c.cx.ensures ∙ sym (predicate-kept c.args.rounds.now.context s.context c.args.alias c.may_be_run.ensures.stays.grows)) in
    let asked = ap (λ (p : TraitPredicate). may_be_asked (key_at (state s) (trait_goal s.context.trees c.args.env p))) predicate in
    sym asked ∙ (sym c.in_ok-may_be_run.ensures.is ∙ c.if-not-branch.false)

pub returns-then-waits-clause-comes : goal.returns-then-waits-clause-comes
returns-then-waits-clause-comes c =
    let s = c.may_be_run.new.self in
    let last = c.settled_normal.new.rounds in
    on-answer c.settled_normal.result (λ n h. normalized s c.may_be_run.ensures.stays c.may_be_run.ensures.table
    (subst (λ (b : Bool). IsNormalBy b s c.args.env c.args.alias c.args.effort last n) (sym c.if-waits.true) h)) c.settled_normal.ensures.is

pub returns-clause-comes : goal.returns-clause-comes
returns-clause-comes c =
    let s = c.may_be_run.new.self in
    let last = c.normal_after.new.rounds in
    on-answer c.normal_after.result (λ n h. normalized s c.may_be_run.ensures.stays c.may_be_run.ensures.table
    (subst (λ (b : Bool). IsNormalBy b s c.args.env c.args.alias c.args.effort last n) (sym c.if-waits.false) h)) c.normal_after.ensures.is
