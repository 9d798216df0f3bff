use Rattle.std.proofs.Common.{[], map, rules, ◌≡◌, length, ◌∙◌}
use Rattle.ir_trees.specs.Syntax.Words.{args_forest, clause_tree}
use Rattle.ir_trees.proofs.Growth.Kept.{args-kept, grows-trans}
use Rattle.candidate_rounds.specs.Evaluators.Stopping.{AreRenumberingStops, IsRenumberingStop, IsResponseStop, of_noting, response_memory}
use Rattle.candidate_rounds.specs.Evaluators.Known.{state_of}
use Rattle.rounds_judge.specs.Obligations.Responding.{with_numbers, renumbered, with_numbers_of}
use Rattle.candidate_rounds.proofs.Snapshots.Knowing.{kinds-grown, known-stays}
use Rattle.candidate_rounds.proofs.Obligations.Gathering.{clauses-kept, gathered}
use Rattle.candidate_rounds.proofs.Obligations.Noting.{numbers-of-from}
use Rattle.candidate_rounds.proofs.Stops.ResponseStops.{gathered-before, passed-on, passed-growth, regions-stop, state-stops, values-stop}
use Rattle.candidate_rounds.proofs.rounds.responding.response.Goals as goal

pub constraints-requires-clause-known : goal.constraints-requires-clause-known
constraints-requires-clause-known c = known-stays c.args.cx.now.trees c.root_values.new.cx.trees c.args.inference.now c.root_values.ensures.grows.kept c.requires.known

pub constraints-requires-clause-kinds : goal.constraints-requires-clause-kinds
constraints-requires-clause-kinds c = kinds-grown c.args.cx.now.trees c.root_values.new.cx.trees c.args.inference.now.variables c.root_values.ensures.grows.kept c.requires.known.values c.requires.kinds

pub numbers_of-requires-clause-args : goal.numbers_of-requires-clause-args
numbers_of-requires-clause-args c = (args-kept c.root_values.new.cx c.constraints.new.cx c.in_ok-values.values c.constraints.ensures.grows c.in_ok-values.ensures.sort).0

pub numbered_args-requires-clause-args : goal.numbered_args-requires-clause-args
numbered_args-requires-clause-args c = (args-kept c.root_values.new.cx c.constraints.new.cx c.in_ok-values.values c.constraints.ensures.grows c.in_ok-values.ensures.sort).0

pub numbered_args-requires-clause-all : goal.numbered_args-requires-clause-all
numbered_args-requires-clause-all c = λ e.
    numbers-of-from (with_numbers [] (args_forest c.constraints.new.cx.trees c.in_ok-values.values)) (map (clause_tree c.constraints.new.cx.trees) c.in_ok-regions.regions.items) (search rules)

pub renumbered_clauses-requires : goal.renumbered_clauses-requires
renumbered_clauses-requires c = let h = (clauses-kept c.constraints.new.cx c.numbered_args.new.cx c.in_ok-regions.regions.items c.numbered_args.ensures.grows c.in_ok-regions.ensures.fit).0 in search rules

pub returns-clause-sort : goal.returns-clause-sort
returns-clause-sort c = record {
  values = (args-kept c.numbered_args.new.cx c.renumbered_clauses.new.cx c.in_ok-new_values.new_values c.renumbered_clauses.ensures.grows c.in_ok-new_values.ensures.sort).0;
  regions = c.in_ok-new_regions.ensures.fit;
}

pub returns-clause-is : goal.returns-clause-is
returns-clause-is c = λ m.
    gathered m c.args.inference.now c.args.cx.now c.root_values.new.cx c.constraints.new.cx c.numbered_args.new.cx c.renumbered_clauses.new.cx c.in_ok-values.values c.in_ok-regions.regions.items c.in_ok-numbers.numbers.items
    (record { vars = c.in_ok-vars.vars; values = c.in_ok-new_values.new_values; regions = c.in_ok-new_regions.new_regions; certainty = c.args.certainty }) (record {
      known = c.requires.known;
      first = c.root_values.ensures.grows;
      second = c.constraints.ensures.grows;
      third = c.numbered_args.ensures.grows;
      fourth = c.renumbered_clauses.ensures.grows;
      are_values = c.in_ok-values.ensures.sort;
      values_are = c.in_ok-values.ensures.trees m;
      are_regions = c.in_ok-regions.ensures.fit;
      regions_are = c.in_ok-regions.ensures.trees m;
      numbers_are = search rules;
      vars_are = search rules;
      are_others = c.in_ok-new_values.ensures.sort;
      others_are = search rules;
      news_are = search rules;
    })

pub returns-in_err-regions-clause-cause : goal.returns-in_err-regions-clause-cause
returns-in_err-regions-clause-cause c = λ m.
    passed-on (IsResponseStop c.constraints.new.cx.trees (state_of c.args.cx.now.trees m c.args.inference.now)) c.from_residual-in_err-regions.result c.in_err-regions.field-0.0 c.from_residual-in_err-regions.ensures.1
    (state-stops c.constraints.new.cx.trees m c.args.inference.now c.args.cx.now c.root_values.new.cx c.in_err-regions.field-0.0 c.requires.known c.root_values.ensures.grows (c.in_err-regions.ensures.cause m))

pub returns-in_err-numbers-clause-cause : goal.returns-in_err-numbers-clause-cause
returns-in_err-numbers-clause-cause c = λ m.
    passed-on (IsResponseStop c.constraints.new.cx.trees (state_of c.args.cx.now.trees m c.args.inference.now)) c.from_residual-in_err-numbers.result c.in_err-numbers.field-0.0 c.from_residual-in_err-numbers.ensures.1 (of_noting c.in_err-numbers.ensures.cause)

pub returns-in_err-vars-clause-cause : goal.returns-in_err-vars-clause-cause
returns-in_err-vars-clause-cause c = λ m.
    passed-growth (IsResponseStop c.constraints.new.cx.trees (state_of c.args.cx.now.trees m c.args.inference.now)) c.from_residual-in_err-vars.result c.in_err-vars.field-0.0 c.from_residual-in_err-vars.ensures.1 c.in_err-vars.ensures.cause response_memory

pub returns-in_err-new_values-clause-cause : goal.returns-in_err-new_values-clause-cause
returns-in_err-new_values-clause-cause c = λ m.
    let S = state_of c.args.cx.now.trees m c.args.inference.now in
    let ns = c.in_ok-numbers.numbers.items in
    let n : ns ≡ with_numbers_of (with_numbers [] (args_forest c.constraints.new.cx.trees c.in_ok-values.values)) (map (clause_tree c.constraints.new.cx.trees) c.in_ok-regions.regions.items) = search rules in
    let s : IsRenumberingStop (length ns) (length c.numbered_args.new.cx.trees) (renumbered ns (args_forest c.constraints.new.cx.trees c.in_ok-values.values)) c.in_err-new_values.field-0.0 = search rules in
    let g = gathered-before m c.args.inference.now c.args.cx.now c.root_values.new.cx c.constraints.new.cx c.in_ok-values.values c.in_ok-regions.regions.items ns c.requires.known c.root_values.ensures.grows
    c.constraints.ensures.grows c.in_ok-values.ensures.sort (c.in_ok-values.ensures.trees m) (c.in_ok-regions.ensures.trees m) n in
    passed-on (IsResponseStop c.numbered_args.new.cx.trees S) c.from_residual-in_err-new_values.result c.in_err-new_values.field-0.0 c.from_residual-in_err-new_values.ensures.1
    (values-stop c.numbered_args.new.cx.trees S ns (args_forest c.constraints.new.cx.trees c.in_ok-values.values) c.in_err-new_values.field-0.0 g.0 g.2 s)

pub returns-in_err-new_regions-clause-cause : goal.returns-in_err-new_regions-clause-cause
returns-in_err-new_regions-clause-cause c = λ m.
    let S = state_of c.args.cx.now.trees m c.args.inference.now in
    let ns = c.in_ok-numbers.numbers.items in
    let n : ns ≡ with_numbers_of (with_numbers [] (args_forest c.constraints.new.cx.trees c.in_ok-values.values)) (map (clause_tree c.constraints.new.cx.trees) c.in_ok-regions.regions.items) = search rules in
    let s : AreRenumberingStops c.renumbered_clauses.new.cx.trees ns (map (clause_tree c.numbered_args.new.cx.trees) c.in_ok-regions.regions.items) c.in_err-new_regions.field-0.0 = search rules in
    let g = gathered-before m c.args.inference.now c.args.cx.now c.root_values.new.cx c.constraints.new.cx c.in_ok-values.values c.in_ok-regions.regions.items ns c.requires.known c.root_values.ensures.grows
    c.constraints.ensures.grows c.in_ok-values.ensures.sort (c.in_ok-values.ensures.trees m) (c.in_ok-regions.ensures.trees m) n in
    passed-on (IsResponseStop c.renumbered_clauses.new.cx.trees S) c.from_residual-in_err-new_regions.result c.in_err-new_regions.field-0.0 c.from_residual-in_err-new_regions.ensures.1
    (regions-stop c.renumbered_clauses.new.cx.trees S ns (map (clause_tree c.numbered_args.new.cx.trees) c.in_ok-regions.regions.items) c.in_err-new_regions.field-0.0
    ((clauses-kept c.constraints.new.cx c.numbered_args.new.cx c.in_ok-regions.regions.items c.numbered_args.ensures.grows c.in_ok-regions.ensures.fit).1 ∙ g.1) g.2 s)

pub returns-in_err-regions-clause-grows : goal.returns-in_err-regions-clause-grows
returns-in_err-regions-clause-grows c =
    grows-trans _ _ _ c.root_values.ensures.grows c.constraints.ensures.grows

pub returns-in_err-numbers-clause-grows : goal.returns-in_err-numbers-clause-grows
returns-in_err-numbers-clause-grows c =
    grows-trans _ _ _ c.root_values.ensures.grows c.constraints.ensures.grows

pub returns-in_err-vars-clause-grows : goal.returns-in_err-vars-clause-grows
returns-in_err-vars-clause-grows c =
    grows-trans _ _ _ c.root_values.ensures.grows c.constraints.ensures.grows

pub returns-in_err-new_values-clause-grows : goal.returns-in_err-new_values-clause-grows
returns-in_err-new_values-clause-grows c =
    grows-trans _ _ _ (grows-trans _ _ _ c.root_values.ensures.grows c.constraints.ensures.grows) c.numbered_args.ensures.grows

pub returns-in_err-new_regions-clause-grows : goal.returns-in_err-new_regions-clause-grows
returns-in_err-new_regions-clause-grows c =
    grows-trans _ _ _ (grows-trans _ _ _ (grows-trans _ _ _ c.root_values.ensures.grows c.constraints.ensures.grows) c.numbered_args.ensures.grows) c.renumbered_clauses.ensures.grows

pub returns-clause-grows : goal.returns-clause-grows
returns-clause-grows c =
    grows-trans _ _ _ (grows-trans _ _ _ (grows-trans _ _ _ c.root_values.ensures.grows c.constraints.ensures.grows) c.numbered_args.ensures.grows) c.renumbered_clauses.ensures.grows
