use Rattle.std.proofs.Common.{◌≤◌, [], Ok, Err, length, map, refl}
use Rattle.std.specs.Prelude.{option_map, slice_index_or}
use Rattle.std.proofs.lemmas.List.Elements.{All-get_or}
use Rattle.std.proofs.lemmas.Result.{err_from_is_err_and}
use Rattle.ir_trees.specs.declared.ir.kinds.Pred.{Pred}
use Rattle.ir_trees.specs.Syntax.Words.{clause_tree, env_forest, pred_tree}
use Rattle.ir_trees.proofs.Growth.Kept.{grows-refl}
use Rattle.candidate_eval.proofs.Interface.Accounts.{by-stop, reaches, somehow-later}
use Rattle.candidate_eval.proofs.Dynamic.Objects.{env-kept}
use Rattle.candidate_eval.proofs.Interface.Probing.{then}
use Rattle.candidate_assembly.specs.Calls.Upcasting.{IsRulePred}
use Rattle.candidate_assembly.proofs.Calls.Causes.{answered-error}
use Rattle.candidate_assembly.proofs.Upcasting.UpcastBounds.{bounds-all-met, bounds-ambiguous, bounds-refused, clauses-later, env-later, meets-later, next-met, none-met-yet, rule-pred-later, rule-preds-later, rule-principal-later, rule-trees-each}
use Rattle.candidate_assembly.proofs.Upcasting.UpcastMet.{principal-trees, rule-trees}
use Rattle.candidate_assembly.proofs.trait_goals.bounds_met.meet_bounds.Goals as goal

pub loop-target-init : goal.loop-target-init
loop-target-init g c =
    let E = g.E.EvalCtxt in
    let first = c.args.ecx.now in
    let start = g.E.Build.context first in
    let S = E.state first in
    let supers = map (clause_tree start.trees) c.args.supers.now in
    let sources = map (pred_tree start.trees) c.args.sources.now in
    let principal = option_map (clause_tree start.trees) c.args.principal in
    let J = E.judge (E.fixed first) in
    let e = env_forest start.trees c.args.env in
    let rules = rule-trees start.trees (length S.variables) c.args.sources.now c.requires.sources in
    let held = principal-trees start.trees (length S.variables) c.args.principal c.requires.principal in
    let all = rule-trees-each start.trees (length S.variables) c.args.targets.now c.requires.targets in (
      record { fixed_same = refl; probes_same = refl; grows = grows-refl start; faults = refl },
      none-met-yet start supers sources principal J e S rules held (pred_tree start.trees) c.args.targets.now all,
    )

pub meet_bound-requires-clause-env : goal.meet_bound-requires-clause-env
meet_bound-requires-clause-env g c =
    (env-kept (g.E.Build.context c.args.ecx.now) (g.E.Build.context c.loop-target.ecx) c.args.env c.loop-target.invariant.0.grows c.requires.env).0

pub meet_bound-requires-clause-env_below : goal.meet_bound-requires-clause-env_below
meet_bound-requires-clause-env_below g c =
    let E = g.E.EvalCtxt in
    let first = c.args.ecx.now in
    let start = g.E.Build.context first in
    let S = E.state first in
    let so = c.loop-target.invariant in
    let now = g.E.Build.context c.loop-target.ecx in
    let T = E.state c.loop-target.ecx in
    let longer = (so.1 [] tt).longer in
    env-later start now so.0.grows (length S.variables) (length T.variables) longer c.args.env c.requires.env c.requires.env_below

pub meet_bound-requires-clause-sources : goal.meet_bound-requires-clause-sources
meet_bound-requires-clause-sources g c =
    let E = g.E.EvalCtxt in
    let first = c.args.ecx.now in
    let start = g.E.Build.context first in
    let S = E.state first in
    let so = c.loop-target.invariant in
    let now = g.E.Build.context c.loop-target.ecx in
    let T = E.state c.loop-target.ecx in
    let longer = (so.1 [] tt).longer in
    rule-preds-later start now so.0.grows (length S.variables) (length T.variables) longer c.args.sources.now c.requires.sources

pub meet_bound-requires-clause-supers : goal.meet_bound-requires-clause-supers
meet_bound-requires-clause-supers g c =
    clauses-later (g.E.Build.context c.args.ecx.now) (g.E.Build.context c.loop-target.ecx) c.loop-target.invariant.0.grows c.args.supers.now c.requires.supers

pub meet_bound-requires-clause-principal : goal.meet_bound-requires-clause-principal
meet_bound-requires-clause-principal g c =
    let E = g.E.EvalCtxt in
    let first = c.args.ecx.now in
    let start = g.E.Build.context first in
    let S = E.state first in
    let so = c.loop-target.invariant in
    let now = g.E.Build.context c.loop-target.ecx in
    let T = E.state c.loop-target.ecx in
    let longer = (so.1 [] tt).longer in
    rule-principal-later start now so.0.grows (length S.variables) (length T.variables) longer c.args.principal c.requires.principal

pub meet_bound-requires-clause-target : goal.meet_bound-requires-clause-target
meet_bound-requires-clause-target g c =
    let E = g.E.EvalCtxt in
    let first = c.args.ecx.now in
    let start = g.E.Build.context first in
    let S = E.state first in
    let so = c.loop-target.invariant in
    let now = g.E.Build.context c.loop-target.ecx in
    let T = E.state c.loop-target.ecx in
    let d : Pred = record { 0 = 0 } in
    let xs = c.args.targets.now in
    let k = c.loop-target.target-index in
    let own = All-get_or (IsRulePred start.trees (length S.variables)) xs k d c.loop-target-test.true c.requires.targets in
    let longer = (so.1 [] tt).longer in
    rule-pred-later start now so.0.grows (length S.variables) (length T.variables) longer (slice_index_or xs k d) own

pub returns-in_err-meet_bound-clause-kept : goal.returns-in_err-meet_bound-clause-kept
returns-in_err-meet_bound-clause-kept g c =
    then c.loop-target.invariant.0 c.meet_bound.ensures.kept

pub returns-in_err-meet_bound-clause-met : goal.returns-in_err-meet_bound-clause-met
returns-in_err-meet_bound-clause-met g c =
    let E = g.E.EvalCtxt in
    let first = c.args.ecx.now in
    let start = g.E.Build.context first in
    let S = E.state first in
    let so = c.loop-target.invariant in
    let now = g.E.Build.context c.loop-target.ecx in
    let T = E.state c.loop-target.ecx in
    let d : Pred = record { 0 = 0 } in
    let xs = c.args.targets.now in
    let k = c.loop-target.target-index in
    let own = All-get_or (IsRulePred start.trees (length S.variables)) xs k d c.loop-target-test.true c.requires.targets in
    let supers = map (clause_tree start.trees) c.args.supers.now in
    let sources = map (pred_tree start.trees) c.args.sources.now in
    let principal = option_map (clause_tree start.trees) c.args.principal in
    let J = E.judge (E.fixed first) in
    let e = env_forest start.trees c.args.env in
    let rules = rule-trees start.trees (length S.variables) c.args.sources.now c.requires.sources in
    let held = principal-trees start.trees (length S.variables) c.args.principal c.requires.principal in
    let all = rule-trees-each start.trees (length S.variables) c.args.targets.now c.requires.targets in
    let said = meets-later start now so.0.grows E.judge (E.fixed first) (E.fixed c.loop-target.ecx) c.args.env (length S.variables) T (E.state c.meet_bound.new.ecx) c.args.supers.now c.args.sources.now c.args.principal (slice_index_or xs k d) (Err c.in_err-meet_bound.field-0.0)
    so.0.fixed_same c.requires.env c.requires.supers c.requires.sources c.requires.principal own c.in_err-meet_bound.ensures.met in
    let r = c.from_residual.result in
    let x = c.in_err-meet_bound.field-0.0 in
    bounds-refused start supers sources principal J e S rules held (pred_tree start.trees) c.args.targets.now all T k d so.1 (E.state c.meet_bound.new.ecx) r x (answered-error r x (err_from_is_err_and r c.from_residual.ensures.1)) c.loop-target-test.true said.refused

pub returns-in_err-meet_bound-clause-cause : goal.returns-in_err-meet_bound-clause-cause
returns-in_err-meet_bound-clause-cause g c =
    let r = c.from_residual.result in
    let x = c.in_err-meet_bound.field-0.0 in
    rw (answered-error r x (err_from_is_err_and r c.from_residual.ensures.1))
    (by-stop x (λ s. somehow-later (reaches c.loop-target.invariant.0)) c.in_err-meet_bound.ensures.cause)

pub returns-in-Ambiguously-clause-kept : goal.returns-in-Ambiguously-clause-kept
returns-in-Ambiguously-clause-kept g c =
    then c.loop-target.invariant.0 c.meet_bound.ensures.kept

pub returns-in-Ambiguously-clause-met : goal.returns-in-Ambiguously-clause-met
returns-in-Ambiguously-clause-met g c =
    let E = g.E.EvalCtxt in
    let first = c.args.ecx.now in
    let start = g.E.Build.context first in
    let S = E.state first in
    let so = c.loop-target.invariant in
    let now = g.E.Build.context c.loop-target.ecx in
    let T = E.state c.loop-target.ecx in
    let d : Pred = record { 0 = 0 } in
    let xs = c.args.targets.now in
    let k = c.loop-target.target-index in
    let own = All-get_or (IsRulePred start.trees (length S.variables)) xs k d c.loop-target-test.true c.requires.targets in
    let supers = map (clause_tree start.trees) c.args.supers.now in
    let sources = map (pred_tree start.trees) c.args.sources.now in
    let principal = option_map (clause_tree start.trees) c.args.principal in
    let J = E.judge (E.fixed first) in
    let e = env_forest start.trees c.args.env in
    let rules = rule-trees start.trees (length S.variables) c.args.sources.now c.requires.sources in
    let held = principal-trees start.trees (length S.variables) c.args.principal c.requires.principal in
    let all = rule-trees-each start.trees (length S.variables) c.args.targets.now c.requires.targets in
    let said = meets-later start now so.0.grows E.judge (E.fixed first) (E.fixed c.loop-target.ecx) c.args.env (length S.variables) T (E.state c.meet_bound.new.ecx) c.args.supers.now c.args.sources.now c.args.principal (slice_index_or xs k d) (Ok c.in_ok-meet_bound.field-0)
    so.0.fixed_same c.requires.env c.requires.supers c.requires.sources c.requires.principal own c.in_ok-meet_bound.ensures.met in
    bounds-ambiguous start supers sources principal J e S rules held (pred_tree start.trees) c.args.targets.now all T k d so.1 (E.state c.meet_bound.new.ecx) c.loop-target-test.true (said.ambiguously c.in-Ambiguously.is)

pub loop-target-preserved : goal.loop-target-preserved
loop-target-preserved g c =
    let E = g.E.EvalCtxt in
    let first = c.args.ecx.now in
    let start = g.E.Build.context first in
    let S = E.state first in
    let so = c.loop-target.invariant in
    let now = g.E.Build.context c.loop-target.ecx in
    let T = E.state c.loop-target.ecx in
    let d : Pred = record { 0 = 0 } in
    let xs = c.args.targets.now in
    let k = c.loop-target.target-index in
    let own = All-get_or (IsRulePred start.trees (length S.variables)) xs k d c.loop-target-test.true c.requires.targets in
    let supers = map (clause_tree start.trees) c.args.supers.now in
    let sources = map (pred_tree start.trees) c.args.sources.now in
    let principal = option_map (clause_tree start.trees) c.args.principal in
    let J = E.judge (E.fixed first) in
    let e = env_forest start.trees c.args.env in
    let rules = rule-trees start.trees (length S.variables) c.args.sources.now c.requires.sources in
    let held = principal-trees start.trees (length S.variables) c.args.principal c.requires.principal in
    let all = rule-trees-each start.trees (length S.variables) c.args.targets.now c.requires.targets in
    let said = meets-later start now so.0.grows E.judge (E.fixed first) (E.fixed c.loop-target.ecx) c.args.env (length S.variables) T (E.state c.meet_bound.new.ecx) c.args.supers.now c.args.sources.now c.args.principal (slice_index_or xs k d) (Ok c.in_ok-meet_bound.field-0)
    so.0.fixed_same c.requires.env c.requires.supers c.requires.sources c.requires.principal own c.in_ok-meet_bound.ensures.met in (
      then so.0 c.meet_bound.ensures.kept,
      next-met start supers sources principal J e S rules held (pred_tree start.trees) c.args.targets.now all T k d so.1 (E.state c.meet_bound.new.ecx) c.loop-target-test.true (said.surely c.in-Surely.is),
    )

pub returns-clause-met : goal.returns-clause-met
returns-clause-met g c =
    let E = g.E.EvalCtxt in
    let first = c.args.ecx.now in
    let start = g.E.Build.context first in
    let S = E.state first in
    let so = c.loop-target.invariant in
    let now = g.E.Build.context c.loop-target.ecx in
    let T = E.state c.loop-target.ecx in
    let d : Pred = record { 0 = 0 } in
    let k = c.loop-target.target-index in
    let last : length c.args.targets.now ≤ k = c.loop-target-test.false in
    let supers = map (clause_tree start.trees) c.args.supers.now in
    let sources = map (pred_tree start.trees) c.args.sources.now in
    let principal = option_map (clause_tree start.trees) c.args.principal in
    let J = E.judge (E.fixed first) in
    let e = env_forest start.trees c.args.env in
    let rules = rule-trees start.trees (length S.variables) c.args.sources.now c.requires.sources in
    let held = principal-trees start.trees (length S.variables) c.args.principal c.requires.principal in
    let all = rule-trees-each start.trees (length S.variables) c.args.targets.now c.requires.targets in
    bounds-all-met start supers sources principal J e S rules held (pred_tree start.trees) c.args.targets.now all T k d so.1 last
