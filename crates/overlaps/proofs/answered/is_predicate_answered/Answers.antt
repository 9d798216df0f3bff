use Rattle.std.proofs.Common.{◌≡◌, true, false, subst, sym, ◌∙◌}
use Rattle.std.specs.Option.{option_map}
use Rattle.ir_trees.specs.Declarations.Context.{Context}
use Rattle.ir_trees.proofs.Growth.Kept.{grows-trans}
use Rattle.candidate_assembly.proofs.Calls.Keeping.{trait-goal-kept}
use Rattle.candidate_rounds.specs.Table.Goals.{verdict_seen}
use Rattle.overlaps.specs.Answered.{IsPlainYes}
use Rattle.overlaps.specs.PartTraits.{MayRestOnPart}
use Rattle.overlaps.specs.Uncertain.{by_part, no_goal, no_plain_yes}
use Rattle.candidate_rounds.specs.Evaluators.Known.{state, sure_of, table_of}
use Rattle.candidate_rounds.proofs.Table.Noted.{sure-keeps}
use Rattle.rounds_judge.specs.Table.GoalTable.{verdict_in}
use Rattle.rounds_judge.specs.Table.Keys.{key_at}
use Rattle.overlaps.proofs.Uncertainty.{noted-not, of-not, plain-there, sure-there}
use Rattle.candidate_eval.proofs.Interface.Accounts.{memory-somehow}
use Rattle.overlaps.proofs.Stopping.{asking-stop, later-refl, later-steps, passed-on, step-stop, there}
use Rattle.overlaps.specs.Stopping.{IsOverlapStop, step_key}
use Rattle.overlaps.proofs.Staying.{stays-refl, stays-same, stays-trans}
use Rattle.candidate_assembly.specs.Goals.TraitGoals.{trait_goal}
use Rattle.overlaps.proofs.answered.is_predicate_answered.Goals as goal

pub returns-then-not-stands_here-clause-stays : goal.returns-then-not-stands_here-clause-stays
returns-then-not-stands_here-clause-stays c = stays-refl c.args.rounds.now

pub returns-clause-answered : goal.returns-clause-answered
returns-clause-answered c = λ stable.
    let r = c.args.rounds.now in
    let mid = c.entry.new.self in
    let k = key_at (state r) (trait_goal r.context.trees c.args.env c.args.predicate) in
    let yes = subst IsPlainYes c.in_ok-verdict.ensures.is (subst (λ (x : Context). IsPlainYes (option_map (verdict_seen x.trees) c.in_ok-verdict.verdict)) c.cx.ensures (c.is_plain_yes.ensures.yes c.if-not-is_plain_yes.false)) in
    let same = sure-there r mid c.args.env c.args.predicate c.in_ok-leaks.leaks (stays-same c.entry.ensures.stays c.entry.ensures.table) c.entry.ensures.table c.entry.ensures.sure c.requires.env c.requires.args c.in_ok-leaks.ensures.is in
    plain-there (verdict_in (sure_of r) k) (verdict_in (table_of r) k) c.in_ok-leaks.leaks c.if-leaks.false same yes

pub returns-in_err-verdict-clause-cause : goal.returns-in_err-verdict-clause-cause
returns-in_err-verdict-clause-cause c = passed-on (IsOverlapStop c.args.rounds.now c.entry.new.self) c.from_residual.result c.in_err-verdict.field-0.0 c.from_residual.ensures.1 (step-stop (later-refl c.args.rounds.now) (step_key c.args.env c.args.predicate (there c.args.env c.args.predicate (later-refl c.args.rounds.now) c.requires.env c.requires.args c.entry.ensures.stays.grows.kept) c.in_err-verdict.ensures.cause))

pub returns-in_err-may_rest_on_part-clause-cause : goal.returns-in_err-may_rest_on_part-clause-cause
returns-in_err-may_rest_on_part-clause-cause c = passed-on (IsOverlapStop c.args.rounds.now c.entry_leaks.new.self) c.from_residual-in_err-may_rest_on_part.result c.in_err-may_rest_on_part.field-0.0 c.from_residual-in_err-may_rest_on_part.ensures.1 (asking-stop (later-refl c.args.rounds.now) (memory-somehow c.in_err-may_rest_on_part.ensures.cause))

pub returns-then-not-stands_here-clause-unanswered : goal.returns-then-not-stands_here-clause-unanswered
returns-then-not-stands_here-clause-unanswered c = λ no.
    no_goal
    (λ t.
    let clash : true ≡ false = sym (c.stands_here.ensures.all c.requires.fit t) ∙ c.if-not-stands_here.true in
    absurd cc)

pub returns-then-not-is_plain_yes-clause-unanswered : goal.returns-then-not-is_plain_yes-clause-unanswered
returns-then-not-is_plain_yes-clause-unanswered c = λ no.
    let r = c.args.rounds.now in
    let k = key_at (state r) (trait_goal r.context.trees c.args.env c.args.predicate) in
    no_plain_yes
    (λ yes. c.is_plain_yes.ensures.no c.if-not-is_plain_yes.true
    (subst (λ (x : Context). IsPlainYes (option_map (verdict_seen x.trees) c.in_ok-verdict.verdict)) (sym c.cx.ensures)
    (subst IsPlainYes (sym c.in_ok-verdict.ensures.is) (sure-keeps (λ v. IsPlainYes v → IsPlainYes (verdict_in (table_of r) k)) (λ none. absurd none) r k (λ y. y) yes))))

pub returns-then-leaks-clause-unanswered : goal.returns-then-leaks-clause-unanswered
returns-then-leaks-clause-unanswered c = λ no.
    let r = c.args.rounds.now in
    let k = key_at (state r) (trait_goal r.context.trees c.args.env c.args.predicate) in
    let same = sure-there r c.entry.new.self c.args.env c.args.predicate c.in_ok-leaks.leaks (stays-same c.entry.ensures.stays c.entry.ensures.table) c.entry.ensures.table c.entry.ensures.sure c.requires.env c.requires.args c.in_ok-leaks.ensures.is in
    no_plain_yes (λ yes. noted-not (verdict_in (sure_of r) k) (verdict_in (table_of r) k) c.in_ok-leaks.leaks c.if-leaks.true same yes)

pub returns-clause-unanswered : goal.returns-clause-unanswered
returns-clause-unanswered c = λ no.
    by_part c.entry_leaks.new.self.context (grows-trans _ _ _ c.entry.ensures.stays.grows c.entry_leaks.ensures.stays.grows)
    (subst (λ (x : Context). MayRestOnPart x c.args.predicate.trait_ref.def_id) c.cx-2.ensures (c.in_ok-may_rest_on_part.ensures.may (of-not c.in_ok-may_rest_on_part.field-0 no)))

pub entry_leaks-requires : goal.entry_leaks-requires
entry_leaks-requires c = (trait-goal-kept _ _ _ _ c.entry.ensures.stays.grows (c.stands_here.ensures.goal c.if-not-stands_here.false)).0

pub returns-in_err-leaks-clause-stays : goal.returns-in_err-leaks-clause-stays
returns-in_err-leaks-clause-stays c = stays-trans (stays-same c.entry.ensures.stays c.entry.ensures.table) (stays-same c.entry_leaks.ensures.stays c.entry_leaks.ensures.table)

pub returns-in_err-leaks-clause-table : goal.returns-in_err-leaks-clause-table
returns-in_err-leaks-clause-table c = c.entry_leaks.ensures.table ∙ c.entry.ensures.table

pub returns-in_err-leaks-clause-cause : goal.returns-in_err-leaks-clause-cause
returns-in_err-leaks-clause-cause c =
    passed-on (IsOverlapStop c.args.rounds.now c.entry_leaks.new.self) c.from_residual-in_err-leaks.result c.in_err-leaks.field-0.0 c.from_residual-in_err-leaks.ensures.1
    (step-stop (later-steps (stays-same c.entry.ensures.stays c.entry.ensures.table)) (step_key c.args.env c.args.predicate (there c.args.env c.args.predicate (later-steps (stays-same c.entry.ensures.stays c.entry.ensures.table)) c.requires.env c.requires.args c.entry_leaks.ensures.stays.grows.kept) c.in_err-leaks.ensures.cause))

pub returns-then-leaks-clause-stays : goal.returns-then-leaks-clause-stays
returns-then-leaks-clause-stays c = stays-trans (stays-same c.entry.ensures.stays c.entry.ensures.table) (stays-same c.entry_leaks.ensures.stays c.entry_leaks.ensures.table)

pub returns-then-leaks-clause-table : goal.returns-then-leaks-clause-table
returns-then-leaks-clause-table c = c.entry_leaks.ensures.table ∙ c.entry.ensures.table

pub returns-in_err-may_rest_on_part-clause-stays : goal.returns-in_err-may_rest_on_part-clause-stays
returns-in_err-may_rest_on_part-clause-stays c = stays-trans (stays-same c.entry.ensures.stays c.entry.ensures.table) (stays-same c.entry_leaks.ensures.stays c.entry_leaks.ensures.table)

pub returns-in_err-may_rest_on_part-clause-table : goal.returns-in_err-may_rest_on_part-clause-table
returns-in_err-may_rest_on_part-clause-table c = c.entry_leaks.ensures.table ∙ c.entry.ensures.table

pub returns-clause-stays : goal.returns-clause-stays
returns-clause-stays c = stays-trans (stays-same c.entry.ensures.stays c.entry.ensures.table) (stays-same c.entry_leaks.ensures.stays c.entry_leaks.ensures.table)

pub returns-clause-table : goal.returns-clause-table
returns-clause-table c = c.entry_leaks.ensures.table ∙ c.entry.ensures.table

pub returns-in_err-leaks-clause-sure : goal.returns-in_err-leaks-clause-sure
returns-in_err-leaks-clause-sure c = c.entry_leaks.ensures.sure ∙ c.entry.ensures.sure

pub returns-then-leaks-clause-sure : goal.returns-then-leaks-clause-sure
returns-then-leaks-clause-sure c = c.entry_leaks.ensures.sure ∙ c.entry.ensures.sure

pub returns-in_err-may_rest_on_part-clause-sure : goal.returns-in_err-may_rest_on_part-clause-sure
returns-in_err-may_rest_on_part-clause-sure c = c.entry_leaks.ensures.sure ∙ c.entry.ensures.sure

pub returns-clause-sure : goal.returns-clause-sure
returns-clause-sure c = c.entry_leaks.ensures.sure ∙ c.entry.ensures.sure

pub returns-in_err-verdict-clause-stays : goal.returns-in_err-verdict-clause-stays
returns-in_err-verdict-clause-stays c = stays-same c.entry.ensures.stays c.entry.ensures.table

pub returns-then-not-is_plain_yes-clause-stays : goal.returns-then-not-is_plain_yes-clause-stays
returns-then-not-is_plain_yes-clause-stays c = stays-same c.entry.ensures.stays c.entry.ensures.table
