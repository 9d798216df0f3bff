use Rattle.std.proofs.Common.{rules, ◌≤◌, Err, List, length, map, get_or, sym, ap, ◌∙◌, subst}
use Rattle.std.proofs.lemmas.Result.{err_from_is_err_and}
use Rattle.ir_trees.specs.declared.ir.heads.Head.TheVariants as Head
use Rattle.ir_trees.specs.declared.ir.kinds.Clause.{Clause}
use Rattle.ir_trees.specs.Instantiation.Folding.{substituted_tree}
use Rattle.ir_trees.specs.Syntax.Trees.{Tree, holds, is_param, none}
use Rattle.ir_trees.specs.Syntax.Words.{ClauseListFits, args_forest, clause_tree}
use Rattle.ir_trees.proofs.Growth.Made.{IsClause-listed}
use Rattle.candidate_eval.proofs.Interface.Probing.{made}
use Rattle.candidate_eval.proofs.Outcomes.Responding.{clauses-kept}
use Rattle.candidate_assembly.specs.Rules.AliasBounds.{bounds_of_kind}
use Rattle.candidate_assembly.proofs.Aliases.BoundRules.{as-few, as-many, bound-below, bound-free, bound-judged, bound-rules-read, bound_rule, in-place, none-listed-after, not-made-listed}
use Rattle.candidate_assembly.proofs.Calls.Keeping.{goal-kept}
use Rattle.candidate_assembly.proofs.Lists.Listing.{all-listed, listing-stops, next-listed}
use Rattle.candidate_assembly.proofs.assembly.alias_bounds.consider_alias_bounds.Goals as goal

pub returns-in_err-bounds : goal.returns-in_err-bounds
returns-in_err-bounds g c =
    let first = c.args.ecx.now in
    let r = g.met.E.EvalCtxt.by_rest first c.bounds_with_arguments.new.make c.bounds_with_arguments.ensures.rest in
    let p = err_from_is_err_and c.from_residual.result c.from_residual.ensures.1 in
    not-made-listed (λ f. (g.met.E.EvalCtxt.lawful f).alike_judged_alike) first c.bounds_with_arguments.new.make c.from_residual.result c.in_err-bounds.field-0.0 (p.1 ∙ ap Err p.2) c.in_err-bounds.ensures.cause
    (made r c.bounds_with_arguments.ensures.grows) r.1

pub loop-clause-init : goal.loop-clause-init
loop-clause-init g c =
    let first = c.args.ecx.now in
    let mid = c.bounds_with_arguments.new.make in
    let ts = (g.E.Build.context mid).trees in
    let r = g.met.E.EvalCtxt.by_rest first mid c.bounds_with_arguments.ensures.rest in
    let items = c.deref-clause-items.ensures.value in (
      none-listed-after (λ f. (g.met.E.EvalCtxt.lawful f).alike_judged_alike) first mid c.args.candidates.now.items c.requires.candidates (made r c.bounds_with_arguments.ensures.grows) r.1,
      subst (ClauseListFits ts) (sym items) c.in_ok-bounds.ensures.sort,
      ap (map (clause_tree ts)) items ∙ c.in_ok-bounds.ensures.trees,
    )

pub consider_alias_bound-answer-requires-clause-goal : goal.consider_alias_bound-answer-requires-clause-goal
consider_alias_bound-answer-requires-clause-goal g c =
    let grows = c.loop-clause.invariant.0.kept.grows in
    goal-kept grows (g.met.G.GoalKind.stays (g.E.Build.context c.args.ecx.now) (g.E.Build.context c.loop-clause.ecx) c.args.env c.args.predicate grows c.requires.goal) c.requires.goal

pub consider_alias_bound-answer-requires-clause-clause : goal.consider_alias_bound-answer-requires-clause-clause
consider_alias_bound-answer-requires-clause-clause g c =
    IsClause-listed (g.E.Build.context c.loop-clause.ecx).trees c.deref-clause-items.result.now c.loop-clause.clause-index (record { 0 = 0 }) c.loop-clause-test.true c.loop-clause.invariant.1

pub consider_alias_bound-answer-requires-clause-free : goal.consider_alias_bound-answer-requires-clause-free
consider_alias_bound-answer-requires-clause-free g c =
    let E = g.E.EvalCtxt in
    let G = g.G.GoalKind in
    let context = g.E.Build.context in
    let first = c.args.ecx.now in
    let start = context first in
    let now = context c.loop-clause.ecx in
    let so = c.loop-clause.invariant.0 in
    let xs = c.deref-clause-items.result.now in
    let k = c.loop-clause.clause-index in
    let d : Clause = record { 0 = 0 } in
    let args = args_forest start.trees c.args.alias.args in
    let declared = bounds_of_kind start c.args.kind c.args.alias.id.0 in
    let bounds : List Tree = map (λ (w : Clause). substituted_tree args (clause_tree start.trees w)) declared in
    let past : Tree = record { head = Head.Dynamic; children = none } in
    let inside = as-many (clause_tree now.trees) xs bounds k c.loop-clause.invariant.2 c.loop-clause-test.true in
    let is = in-place (clause_tree now.trees) xs bounds k d past c.loop-clause.invariant.2 c.loop-clause-test.true in
    ap (λ (u : Tree). holds is_param u.children) is ∙ bound-free start.trees args declared k past c.requires.free inside

pub loop-clause-preserved : goal.loop-clause-preserved
loop-clause-preserved g c =
    let E = g.E.EvalCtxt in
    let G = g.G.GoalKind in
    let context = g.E.Build.context in
    let first = c.args.ecx.now in
    let start = context first in
    let now = context c.loop-clause.ecx in
    let so = c.loop-clause.invariant.0 in
    let xs = c.deref-clause-items.result.now in
    let k = c.loop-clause.clause-index in
    let d : Clause = record { 0 = 0 } in
    let args = args_forest start.trees c.args.alias.args in
    let declared = bounds_of_kind start c.args.kind c.args.alias.id.0 in
    let bounds : List Tree = map (λ (w : Clause). substituted_tree args (clause_tree start.trees w)) declared in
    let past : Tree = record { head = Head.Dynamic; children = none } in
    let inside = as-many (clause_tree now.trees) xs bounds k c.loop-clause.invariant.2 c.loop-clause-test.true in
    let is = in-place (clause_tree now.trees) xs bounds k d past c.loop-clause.invariant.2 c.loop-clause-test.true in
    let says = g.met.G.GoalKind.stays start now c.args.env c.args.predicate so.kept.grows c.requires.goal in
    let seen = G.kind.seen start.trees c.args.env c.args.predicate in
    let there = bound-below (length (E.state first).variables) start.trees args declared k past c.requires.alias_below c.in_ok-bounds.ensures.closed inside in
    let same = bound-judged G.kind.rules E.judge (E.fixed first) (E.fixed c.loop-clause.ecx) (λ f. (g.met.E.EvalCtxt.lawful f).alike_judged_alike) g.met.G.GoalKind.laws.below.matches start now (E.state first) (E.state c.loop-clause.ecx) seen
    (G.kind.seen now.trees c.args.env c.args.predicate) c.args.kind (get_or bounds k past) (clause_tree now.trees (get_or xs k d)) so.kept.fixed_same says.seen is says.fits so.alike c.requires.below there in
    let new = context c.consider_alias_bound-answer.new.ecx in
    let stay = clauses-kept now new xs c.consider_alias_bound-answer.ensures.kept.grows c.loop-clause.invariant.1 in (
      next-listed (λ f. (g.met.E.EvalCtxt.lawful f).alike_judged_alike) (bound_rule G.kind.rules start seen c.args.kind) bounds k past first c.loop-clause.ecx c.consider_alias_bound-answer.new.ecx c.args.candidates.now.items c.loop-clause.candidates.items
          c.push_considered.new.candidates.items _ _ _ so inside c.consider_alias_bound-answer.ensures same c.in_ok-push_considered.ensures,
      stay.0,
      stay.1 ∙ c.loop-clause.invariant.2,
    )

pub returns-in_err-push_considered : goal.returns-in_err-push_considered
returns-in_err-push_considered g c =
    let E = g.E.EvalCtxt in
    let G = g.G.GoalKind in
    let context = g.E.Build.context in
    let first = c.args.ecx.now in
    let start = context first in
    let now = context c.loop-clause.ecx in
    let so = c.loop-clause.invariant.0 in
    let xs = c.deref-clause-items.result.now in
    let k = c.loop-clause.clause-index in
    let d : Clause = record { 0 = 0 } in
    let args = args_forest start.trees c.args.alias.args in
    let declared = bounds_of_kind start c.args.kind c.args.alias.id.0 in
    let bounds : List Tree = map (λ (w : Clause). substituted_tree args (clause_tree start.trees w)) declared in
    let past : Tree = record { head = Head.Dynamic; children = none } in
    let inside = as-many (clause_tree now.trees) xs bounds k c.loop-clause.invariant.2 c.loop-clause-test.true in
    let is = in-place (clause_tree now.trees) xs bounds k d past c.loop-clause.invariant.2 c.loop-clause-test.true in
    let says = g.met.G.GoalKind.stays start now c.args.env c.args.predicate so.kept.grows c.requires.goal in
    let seen = G.kind.seen start.trees c.args.env c.args.predicate in
    let there = bound-below (length (E.state first).variables) start.trees args declared k past c.requires.alias_below c.in_ok-bounds.ensures.closed inside in
    let same = bound-judged G.kind.rules E.judge (E.fixed first) (E.fixed c.loop-clause.ecx) (λ f. (g.met.E.EvalCtxt.lawful f).alike_judged_alike) g.met.G.GoalKind.laws.below.matches start now (E.state first) (E.state c.loop-clause.ecx) seen
    (G.kind.seen now.trees c.args.env c.args.predicate) c.args.kind (get_or bounds k past) (clause_tree now.trees (get_or xs k d)) so.kept.fixed_same says.seen is says.fits so.alike c.requires.below there in
    let p = err_from_is_err_and c.from_residual-in_err-push_considered.result c.from_residual-in_err-push_considered.ensures.1 in
    listing-stops (λ f. (g.met.E.EvalCtxt.lawful f).alike_judged_alike) (bound_rule G.kind.rules start seen c.args.kind) bounds k past first c.loop-clause.ecx c.consider_alias_bound-answer.new.ecx c.args.candidates.now.items c.loop-clause.candidates.items
    c.push_considered.new.candidates.items _ _ c.in_err-push_considered.field-0.0 so inside c.consider_alias_bound-answer.ensures same c.in_err-push_considered.ensures
    _ (bound-rules-read G.kind.rules start seen c.args.kind c.args.alias c.requires.args) c.from_residual-in_err-push_considered.result (p.1 ∙ ap Err p.2)

pub returns : goal.returns
returns g c =
    let E = g.E.EvalCtxt in
    let G = g.G.GoalKind in
    let first = c.args.ecx.now in
    let start = g.E.Build.context first in
    let xs = c.deref-clause-items.result.now in
    let args = args_forest start.trees c.args.alias.args in
    let bounds : List Tree = map (λ (w : Clause). substituted_tree args (clause_tree start.trees w)) (bounds_of_kind start c.args.kind c.args.alias.id.0) in
    let past : Tree = record { head = Head.Dynamic; children = none } in
    let all : length xs ≤ c.loop-clause.clause-index = search rules in
    let as-long : length bounds ≤ c.loop-clause.clause-index = as-few (clause_tree (g.E.Build.context c.loop-clause.ecx).trees) xs bounds c.loop-clause.clause-index c.loop-clause.invariant.2 all in
    all-listed (λ f. (g.met.E.EvalCtxt.lawful f).alike_judged_alike) (bound_rule G.kind.rules start (G.kind.seen start.trees c.args.env c.args.predicate) c.args.kind) bounds c.loop-clause.clause-index past first c.loop-clause.ecx c.args.candidates.now.items
    c.loop-clause.candidates.items _ c.loop-clause.invariant.0 as-long _
    (bound-rules-read G.kind.rules start (G.kind.seen start.trees c.args.env c.args.predicate) c.args.kind c.args.alias c.requires.args)
