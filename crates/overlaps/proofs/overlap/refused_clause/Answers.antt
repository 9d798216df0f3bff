use Rattle.std.proofs.Common.{rules, List, refl, sym, subst, ◌∙◌}
use Rattle.ir_trees.specs.declared.ir.kinds.Clause.{Clause}
use Rattle.ir_trees.specs.Instantiation.Owned.{ClausesAreOwned}
use Rattle.ir_trees.specs.Syntax.Words.{args_forest}
use Rattle.ir_trees.proofs.Growth.Kept.{args-kept}
use Rattle.candidate_eval.proofs.Dynamic.Objects.{env-kept}
use Rattle.candidate_assembly.proofs.Rules.ImplSteps.{owned-still}
use Rattle.candidate_rounds.specs.Evaluators.Known.{state, table_of}
use Rattle.overlaps.specs.Asked.{AllStay, FirstStay, before_of_first}
use Rattle.overlaps.proofs.AskedClauses.{before-of-second, both-stay}
use Rattle.overlaps.specs.Refused.{RefusesOne, of_first, of_second}
use Rattle.overlaps.proofs.Refusing.{one-earlier}
use Rattle.overlaps.proofs.Stopping.{later-steps, passed-on, stop-later}
use Rattle.overlaps.specs.Stopping.{IsOverlapStop}
use Rattle.overlaps.proofs.Staying.{stays-trans}
use Rattle.overlaps.proofs.overlap.refused_clause.Goals as goal

pub returns-in-Some-clause-refused : goal.returns-in-Some-clause-refused
returns-in-Some-clause-refused c =
    let old = c.args.rounds.now in
    let new = c.first_refused.new.rounds in
    let o = c.args.pair.now.first in
    let n = c.in-Some.number in
    let refused : RefusesOne old new (args_forest old.context.trees o.locals) c.as_slice-clauses.result.now n = search rules in
    record {
      side = of_first;
      of = refl;
      refuses = subst (λ (xs : List Clause). RefusesOne old new (args_forest old.context.trees o.locals) xs n) c.as_slice-clauses.ensures.value refused;
    }

pub first_refused-requires-2-clause-env : goal.first_refused-requires-2-clause-env
first_refused-requires-2-clause-env c = (env-kept _ _ c.args.env c.first_refused.ensures.stays.grows c.requires.env).0

pub first_refused-requires-2-clause-empty : goal.first_refused-requires-2-clause-empty
first_refused-requires-2-clause-empty c = (env-kept _ _ c.args.env c.first_refused.ensures.stays.grows c.requires.env).1 ∙ c.requires.empty

pub first_refused-requires-2-clause-locals : goal.first_refused-requires-2-clause-locals
first_refused-requires-2-clause-locals c = (args-kept _ _ c.args.pair.now.second.locals c.first_refused.ensures.stays.grows c.requires.pair.1.0).0

pub first_refused-requires-2-clause-clauses : goal.first_refused-requires-2-clause-clauses
first_refused-requires-2-clause-clauses c =
    let old = c.args.rounds.now.context in
    let mid = c.first_refused.new.rounds.context in
    let o = c.args.pair.now.second in
    subst (ClausesAreOwned mid.trees (args_forest mid.trees o.locals)) (sym c.as_slice-clauses-2.ensures.value)
    (owned-still old mid o.locals o.wheres.items c.first_refused.ensures.stays.grows c.requires.pair.1.0 c.requires.pair.1.2)

pub returns-in_err-number-2-clause-stays : goal.returns-in_err-number-2-clause-stays
returns-in_err-number-2-clause-stays c = stays-trans c.first_refused.ensures.stays c.first_refused-2.ensures.stays

pub returns-in-Some-2-clause-stays : goal.returns-in-Some-2-clause-stays
returns-in-Some-2-clause-stays c = stays-trans c.first_refused.ensures.stays c.first_refused-2.ensures.stays

pub returns-in-Some-2-clause-refused : goal.returns-in-Some-2-clause-refused
returns-in-Some-2-clause-refused c =
    let old = c.args.rounds.now in
    let mid = c.first_refused.new.rounds in
    let new = c.first_refused-2.new.rounds in
    let o = c.args.pair.now.second in
    let n = c.in-Some-2.number in
    let refused : RefusesOne mid new (args_forest mid.context.trees o.locals) c.as_slice-clauses-2.result.now n = search rules in
    record {
      side = of_second;
      of = refl;
      refuses = one-earlier old mid new o.locals o.wheres.items n c.first_refused.ensures.stays c.requires.pair.1.0 c.requires.pair.1.2.fit
          (subst (λ (xs : List Clause). RefusesOne mid new (args_forest mid.context.trees o.locals) xs n) c.as_slice-clauses-2.ensures.value refused);
    }

pub returns-clause-stays : goal.returns-clause-stays
returns-clause-stays c = stays-trans c.first_refused.ensures.stays c.first_refused-2.ensures.stays

pub returns-in_err-number-clause-cause : goal.returns-in_err-number-clause-cause
returns-in_err-number-clause-cause c = passed-on (IsOverlapStop c.args.rounds.now c.first_refused.new.rounds) c.from_residual.result c.in_err-number.field-0.0 c.from_residual.ensures.1 (c.in_err-number.ensures.cause)

pub returns-in_err-number-2-clause-cause : goal.returns-in_err-number-2-clause-cause
returns-in_err-number-2-clause-cause c = passed-on (IsOverlapStop c.args.rounds.now c.first_refused-2.new.rounds) c.from_residual-in_err-number-2.result c.in_err-number-2.field-0.0 c.from_residual-in_err-number-2.ensures.1 (stop-later (later-steps c.first_refused.ensures.stays) c.in_err-number-2.ensures.cause)

pub returns-clause-asked : goal.returns-clause-asked
returns-clause-asked c = λ none.
    let old = c.args.rounds.now in
    let mid = c.first_refused.new.rounds in
    let new = c.first_refused-2.new.rounds in
    let p = c.args.pair.now in
    let n = c.args.effort in
    both-stay old mid new n p c.first_refused.ensures.stays c.requires.pair
    (subst (λ (xs : List Clause). AllStay old (state old) n (args_forest old.context.trees p.first.locals) xs (table_of old) (table_of mid)) c.as_slice-clauses.ensures.value (c.in_ok-number.ensures.asked c.in_default.is))
    (subst (λ (xs : List Clause). AllStay mid (state mid) n (args_forest mid.context.trees p.second.locals) xs (table_of mid) (table_of new)) c.as_slice-clauses-2.ensures.value
    (c.in_ok-number-2.ensures.asked c.in_default-2.is))

pub returns-in-Some-clause-before : goal.returns-in-Some-clause-before
returns-in-Some-clause-before c =
    let old = c.args.rounds.now in
    let o = c.args.pair.now.first in
    let n = c.in-Some.number in
    let stay : FirstStay old (state old) c.args.effort (args_forest old.context.trees o.locals) c.as_slice-clauses.result.now (table_of old) n = search rules in
    before_of_first refl (subst (λ (xs : List Clause). FirstStay old (state old) c.args.effort (args_forest old.context.trees o.locals) xs (table_of old) n) c.as_slice-clauses.ensures.value stay)

pub returns-in-Some-2-clause-before : goal.returns-in-Some-2-clause-before
returns-in-Some-2-clause-before c =
    let old = c.args.rounds.now in
    let mid = c.first_refused.new.rounds in
    let p = c.args.pair.now in
    let effort = c.args.effort in
    let n = c.in-Some-2.number in
    let stay : FirstStay mid (state mid) effort (args_forest mid.context.trees p.second.locals) c.as_slice-clauses-2.result.now (table_of mid) n = search rules in
    before-of-second old mid effort p (record { of = p.second.of; number = n }) c.first_refused.ensures.stays c.requires.pair refl
    (subst (λ (xs : List Clause). AllStay old (state old) effort (args_forest old.context.trees p.first.locals) xs (table_of old) (table_of mid)) c.as_slice-clauses.ensures.value (c.in_ok-number.ensures.asked c.in_default.is))
    (subst (λ (xs : List Clause). FirstStay mid (state mid) effort (args_forest mid.context.trees p.second.locals) xs (table_of mid) n) c.as_slice-clauses-2.ensures.value stay)
