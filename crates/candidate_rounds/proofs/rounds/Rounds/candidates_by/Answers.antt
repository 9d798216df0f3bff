use Rattle.std.proofs.Common.{◌≡◌, ◌++◌, true, false, sym, ap, subst, ◌∙◌, refl}
use Rattle.ir_trees.specs.Declarations.Context.{Context}
use Rattle.derivations.specs.DerivedTables.{EachIsDerived}
use Rattle.rounds_judge.specs.Table.GoalTable.{may_be_asked}
use Rattle.candidate_assembly.proofs.Calls.Causes.{so-ok}
use Rattle.candidate_rounds.specs.Evaluators.Known.{Evaluator, listing, table_of}
use Rattle.candidate_rounds.specs.Table.Goals.{Each, IsKeyOf, IsTraitGoal, key_seen}
use Rattle.candidate_rounds.specs.Table.Steps.{IsStep, entries_of}
use Rattle.candidate_rounds.proofs.Table.Running.{stays-trans}
use Rattle.candidate_rounds.proofs.Table.Steps.{goals-also, goals-only, none-sure, sure-hold}
use Rattle.candidate_rounds.specs.Table.Sources.{AreFoundBy, IsTableAt, found_none, goal_has_error, goal_not_asked}
use Rattle.candidate_rounds.specs.Table.Cleanness.{has_error}
use Rattle.candidate_rounds.proofs.Table.Cleanness.{key-without-error}
use Rattle.candidate_rounds.proofs.Table.Sources.{found-here}
use Rattle.candidate_rounds.specs.Table.StepStops.{IsAssumingStop, IsStepStop, assuming_looking, step_assuming}
use Rattle.candidate_rounds.proofs.Table.StepStops.{candidates-stop, only-same}
use Rattle.candidate_rounds.proofs.Stops.ResponseStops.{passed-on}
use Rattle.candidate_rounds.proofs.rounds.Rounds.candidates_by.Goals as goal

pub returns-in_err-assume_all-clause-stays : goal.returns-in_err-assume_all-clause-stays
returns-in_err-assume_all-clause-stays c = goals-only c.args.self.now c.assume_all.new.self c.assume_all.ensures.same

pub returns-then-not-branch-clause-stays : goal.returns-then-not-branch-clause-stays
returns-then-not-branch-clause-stays c = goals-only c.args.self.now c.assume_all.new.self c.assume_all.ensures.same

pub returns-in_err-may_be_asked-clause-stays : goal.returns-in_err-may_be_asked-clause-stays
returns-in_err-may_be_asked-clause-stays c = goals-only c.args.self.now c.assume_all.new.self c.assume_all.ensures.same

pub returns-then-not-branch-2-clause-stays : goal.returns-then-not-branch-2-clause-stays
returns-then-not-branch-2-clause-stays c = goals-only c.args.self.now c.assume_all.new.self c.assume_all.ensures.same

pub returns-then-has_error_region-clause-stays : goal.returns-then-has_error_region-clause-stays
returns-then-has_error_region-clause-stays c = goals-only c.args.self.now c.assume_all.new.self c.assume_all.ensures.same

pub returns-then-has_error_region-clause-sure : goal.returns-then-has_error_region-clause-sure
returns-then-has_error_region-clause-sure c = let n = c.assume_all.new.self in none-sure n.context (listing n) c.args.steps.now c.args.key.now _ c.new-then-has_error_region.ensures.items

pub returns-then-has_error_region-clause-found : goal.returns-then-has_error_region-clause-found
returns-then-has_error_region-clause-found c =
    let r = c.args.self.now in
    let n = c.assume_all.new.self in
    let k = c.args.key.now in
    let trees = ap (λ (x : Evaluator). x.context.trees) c.assume_all.ensures.same in
    let here = subst (λ (x : Evaluator). has_error x.context.trees k ≡ true) c.self.view_is (sym c.has_error_region.ensures ∙ c.if-has_error_region.true) in
    let wrong = subst (λ ts. has_error ts k ≡ true) trees here in
    subst (AreFoundBy r n c.args.steps.now c.args.nested.now k) (sym c.new-then-has_error_region.ensures.items) (found_none (goal_has_error wrong))

pub returns-then-not-branch-clause-sure : goal.returns-then-not-branch-clause-sure
returns-then-not-branch-clause-sure c = let n = c.assume_all.new.self in none-sure n.context (listing n) c.args.steps.now c.args.key.now _ c.new.ensures.items

pub returns-then-not-branch-2-clause-sure : goal.returns-then-not-branch-2-clause-sure
returns-then-not-branch-2-clause-sure c = let n = c.assume_all.new.self in none-sure n.context (listing n) c.args.steps.now c.args.key.now _ c.new-then-not-branch-2.ensures.items

pub returns-clause-stays : goal.returns-clause-stays
returns-clause-stays c =
    let s = c.set_asking.new.self in
    let same = goals-also c.args.self.now c.assume_all.new.self s _ c.assume_all.ensures.same c.set_asking.ensures in
    stays-trans (goals-only c.args.self.now s same) c.candidates_for.ensures.stays

pub returns-clause-sure : goal.returns-clause-sure
returns-clause-sure c =
    let s = c.set_asking.new.self in
    let ss = c.args.steps.now in
    let k = c.args.key.now in
    let cx = ap (λ (x : Evaluator). x.context) c.set_asking.ensures ∙ ap (λ (x : Evaluator). x.context) c.assume_all.ensures.same in
    let are = subst (λ (x : Context). Each (IsStep x.trees) ss) (sym cx) c.requires.holds.are in
    let derived = subst (λ (x : Evaluator). EachIsDerived x.context (listing x) (table_of x ++ entries_of x.context.trees ss)) (sym c.set_asking.ensures) c.assume_all.ensures.holds in
    let goal = subst (λ (x : Context). IsTraitGoal x.trees k.goal) (sym cx) c.requires.key in
    let asked = subst (λ (x : Evaluator). may_be_asked (key_seen x.context.trees k) ≡ true) (sym c.set_asking.ensures) (sym c.in_ok-may_be_asked.ensures.is ∙ c.if-not-branch-2.false) in
    let key : IsKeyOf s.context.trees k = record { goal = goal; asked = asked } in
    let unasked = subst (λ (x : Evaluator). has_error x.context.trees k ≡ false) c.self.view_is (sym c.has_error_region.ensures ∙ c.if-has_error_region.false) in
    let clean = subst (λ (x : Evaluator). has_error x.context.trees k ≡ false) (sym c.set_asking.ensures) unasked in
    let without = key-without-error s.context.trees k clean in
    so-ok c.candidates_for.result (λ v h. sure-hold s c.candidates_for.new.self c.recall_trees_fit.ensures.fit c.recall_trees_fit.ensures.counted c.recall_well_kept.ensures c.candidates_for.ensures.stays ss are derived k key without v.items h) c.candidates_for.ensures.listed

pub returns-in_err-assume_all-clause-cause : goal.returns-in_err-assume_all-clause-cause
returns-in_err-assume_all-clause-cause c =
    let r = c.args.self.now in
    let n = c.assume_all.new.self in
    let places = c.args.nested.now in
    let stop = c.in_err-assume_all.field-0.0 in
    let cx = ap (λ (x : Evaluator). x.context) c.assume_all.ensures.same in
    passed-on (IsStepStop n.context.trees r c.args.steps.now places (key_seen n.context.trees c.args.key.now)) c.from_residual.result stop c.from_residual.ensures.1
    (step_assuming (subst (λ (x : Context). IsAssumingStop x.trees places stop) (sym cx) c.in_err-assume_all.ensures.cause))

pub returns-in_err-may_be_asked-clause-cause : goal.returns-in_err-may_be_asked-clause-cause
returns-in_err-may_be_asked-clause-cause c =
    let r = c.args.self.now in
    let n = c.assume_all.new.self in
    passed-on (IsStepStop n.context.trees r c.args.steps.now c.args.nested.now (key_seen n.context.trees c.args.key.now)) c.from_residual-in_err-may_be_asked.result c.in_err-may_be_asked.field-0.0 c.from_residual-in_err-may_be_asked.ensures.1
    (step_assuming (assuming_looking c.in_err-may_be_asked.ensures.cause))

pub returns-clause-cause : goal.returns-clause-cause
returns-clause-cause c =
    let r = c.args.self.now in
    let m = c.assume_all.new.self in
    let s = c.set_asking.new.self in
    let ss = c.args.steps.now in
    let same = goals-also r m s _ c.assume_all.ensures.same c.set_asking.ensures in
    let only = only-same r.context.trees ss m s _ c.set_asking.ensures refl c.assume_all.ensures.only in
    candidates-stop r s c.candidates_for.new.self ss c.args.nested.now c.args.key.now c.candidates_for.result same c.requires.holds.are c.requires.key only c.candidates_for.ensures.stays c.candidates_for.ensures.cause

pub returns-then-not-branch-clause-found : goal.returns-then-not-branch-clause-found
returns-then-not-branch-clause-found c =
    let k = c.args.key.now in
    subst (AreFoundBy c.args.self.now c.assume_all.new.self c.args.steps.now c.args.nested.now k) (sym c.new.ensures.items) (found_none (c.in_ok-assume_all.ensures.not_all c.if-not-branch.true k))

pub returns-then-not-branch-2-clause-found : goal.returns-then-not-branch-2-clause-found
returns-then-not-branch-2-clause-found c =
    let r = c.args.self.now in
    let n = c.assume_all.new.self in
    let k = c.args.key.now in
    let trees = ap (λ (x : Evaluator). x.context.trees) c.assume_all.ensures.same in
    let asked = subst (λ ts. may_be_asked (key_seen ts k) ≡ false) trees (sym c.in_ok-may_be_asked.ensures.is ∙ c.if-not-branch-2.true) in
    subst (AreFoundBy r n c.args.steps.now c.args.nested.now k) (sym c.new-then-not-branch-2.ensures.items) (found_none (goal_not_asked asked))

pub returns-clause-found : goal.returns-clause-found
returns-clause-found c =
    let r = c.args.self.now in
    let m = c.assume_all.new.self in
    let s = c.set_asking.new.self in
    let n = c.candidates_for.new.self in
    let ss = c.args.steps.now in
    let places = c.args.nested.now in
    let k = c.args.key.now in
    let same = goals-also r m s _ c.assume_all.ensures.same c.set_asking.ensures in
    let trees = ap (λ (x : Evaluator). x.context.trees) c.assume_all.ensures.same in
    let asked = subst (λ ts. may_be_asked (key_seen ts k) ≡ true) trees (sym c.in_ok-may_be_asked.ensures.is ∙ c.if-not-branch-2.false) in
    let at = subst (IsTableAt r.context.trees ss places) (sym (ap table_of c.set_asking.ensures)) (c.in_ok-assume_all.ensures.table c.if-not-branch.false) in
    so-ok c.candidates_for.result (λ v h. found-here r s n ss places k v.items (goals-only r s same) (ap (λ (x : Evaluator). x.context) same) at asked h) c.candidates_for.ensures.listed
