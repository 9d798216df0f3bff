use Rattle.std.proofs.Common.{◌≡◌, false, subst, sym}
use Rattle.candidate_rounds.specs.Evaluators.Known.{AreTypes, Evaluator}
use Rattle.candidate_rounds.specs.Table.Cleanness.{IsWithoutError, has_error}
use Rattle.candidate_rounds.specs.Table.Entries.{GoalEntry}
use Rattle.candidate_rounds.specs.Table.Goals.{Each, IsTabled}
use Rattle.candidate_rounds.proofs.Evaluators.Between.{parts}
use Rattle.candidate_rounds.proofs.Table.Cleanness.{goals-without, table-clean, types-without}
use Rattle.candidate_rounds.proofs.Table.Tabled.{table-parts}
use Rattle.candidate_rounds.proofs.rounds.Rounds.has_error_regions.Goals as goal

pub types_have_error_region-requires : goal.types_have_error_region-requires
types_have_error_region-requires c =
    let types = subst (λ (x : Evaluator). Each (AreTypes x.context.trees) x.normal.pairs) (sym c.self.view_is) (parts c.recall_well_kept.ensures).given.types in
    subst (Each (AreTypes c.self.inside.cx.trees)) (sym c.as_slice.ensures.value) types

pub goals_have_error_region-requires : goal.goals_have_error_region-requires
goals_have_error_region-requires c = subst (λ (x : Evaluator). IsTabled x.context.trees x.goals) (sym c.self.view_is) (parts c.recall_well_kept.ensures).tabled

pub returns-then-types_have_error_region-clause-error : goal.returns-then-types_have_error_region-clause-error
returns-then-types_have_error_region-clause-error c = λ _ clean.
    let r = c.args.self.now in
    let types = types-without r.context.trees r.normal.pairs clean.listed in
    let here = subst (λ (x : Evaluator). Each (IsWithoutError x.context.trees) x.normal.pairs) (sym c.self.view_is) types in
    c.types_have_error_region.ensures.error c.if-types_have_error_region.true (subst (Each (IsWithoutError c.self.inside.cx.trees)) (sym c.as_slice.ensures.value) here)

pub returns-else-types_have_error_region-clause-error : goal.returns-else-types_have_error_region-clause-error
returns-else-types_have_error_region-clause-error c = λ some clean.
    let r = c.args.self.now in
    let goals = goals-without r.context.trees r.goals.table (table-parts (parts c.recall_well_kept.ensures).tabled).entries clean.keys in
    let here = subst (λ (x : Evaluator). Each (λ (e : GoalEntry). has_error x.context.trees e.0 ≡ false) x.goals.table) (sym c.self.view_is) goals in
    c.goals_have_error_region.ensures.error some here

pub returns-else-types_have_error_region-clause-clean : goal.returns-else-types_have_error_region-clause-clean
returns-else-types_have_error_region-clause-clean c = λ none.
    let r = c.args.self.now in
    let p = parts c.recall_well_kept.ensures in
    let here = subst (Each (IsWithoutError c.self.inside.cx.trees)) c.as_slice.ensures.value (c.types_have_error_region.ensures.clean c.if-types_have_error_region.false) in
    let types = subst (λ (x : Evaluator). Each (IsWithoutError x.context.trees) x.normal.pairs) c.self.view_is here in
    let goals = subst (λ (x : Evaluator). Each (λ (e : GoalEntry). has_error x.context.trees e.0 ≡ false) x.goals.table) c.self.view_is (c.goals_have_error_region.ensures.clean none) in
    table-clean r.context c.recall_trees_fit.ensures.fit r.mode r.normal r.goals.table p.given.types types (table-parts p.tabled).entries goals
