use Rattle.std.proofs.Common.{rules, ◌≤◌, Err, get_or, length, refl, ap, ◌∙◌}
use Rattle.std.proofs.lemmas.Result.{err_from_is_err_and}
use Rattle.ir_trees.specs.declared.decl.contents.AliasBoundKind.TheVariants.{SelfBounds}
use Rattle.ir_trees.specs.declared.ir.kinds.Clause.{Clause}
use Rattle.ir_trees.specs.Syntax.Words.{clause_tree}
use Rattle.ir_trees.proofs.Growth.Made.{IsClause-listed}
use Rattle.candidate_eval.specs.declared.eval.source.CandidateSource.TheVariants.{AliasBound}
use Rattle.candidate_eval.specs.Outcomes.Certainties.{AMBIGUOUS}
use Rattle.candidate_eval.specs.Derivations.Rules.{Rule}
use Rattle.candidate_eval.proofs.Outcomes.Responding.{clauses-kept}
use Rattle.candidate_assembly.specs.Rules.Opaques.{ambiguous_rule}
use Rattle.candidate_assembly.proofs.Aliases.BoundRules.{matched-judged}
use Rattle.candidate_assembly.proofs.Calls.Keeping.{goal-kept}
use Rattle.candidate_assembly.proofs.Lists.Listing.{all-listed, listing-stops, next-listed, none-listed}
use Rattle.candidate_assembly.proofs.Opaques.OpaqueRules.{clause-at}
use Rattle.candidate_assembly.proofs.assembly.opaques.consider_opaque_bounds.Goals as goal

pub loop-clause-init : goal.loop-clause-init
loop-clause-init g c = none-listed (λ f. (g.met.E.EvalCtxt.lawful f).alike_judged_alike) c.args.ecx.now c.args.candidates.now.items c.requires.candidates

pub consider_opaque_bound-answer-requires-clause-goal : goal.consider_opaque_bound-answer-requires-clause-goal
consider_opaque_bound-answer-requires-clause-goal g c =
    let grows = c.loop-clause.invariant.kept.grows in
    goal-kept grows (g.met.G.GoalKind.stays (g.E.Build.context c.args.ecx.now) (g.E.Build.context c.loop-clause.ecx) c.args.env c.args.predicate grows c.requires.goal) c.requires.goal

pub consider_opaque_bound-answer-requires-clause-clause : goal.consider_opaque_bound-answer-requires-clause-clause
consider_opaque_bound-answer-requires-clause-clause g c =
    let start = g.E.Build.context c.args.ecx.now in
    let now = g.E.Build.context c.loop-clause.ecx in
    let xs = c.args.clauses.now in
    IsClause-listed now.trees xs c.loop-clause.clause-index (record { 0 = 0 }) c.loop-clause-test.true (clauses-kept start now xs c.loop-clause.invariant.kept.grows c.requires.clauses).0

pub consider_opaque_bound-answer-requires-clause-free : goal.consider_opaque_bound-answer-requires-clause-free
consider_opaque_bound-answer-requires-clause-free g c =
    let first = c.args.ecx.now in
    (clause-at (g.E.Build.context first) (g.E.Build.context c.loop-clause.ecx) (length (g.E.EvalCtxt.state first).variables) c.args.clauses.now c.loop-clause.clause-index (record { 0 = 0 }) c.loop-clause.invariant.kept.grows c.requires.clauses c.requires.free
    c.requires.clauses_below c.loop-clause-test.true).1

pub loop-clause-preserved : goal.loop-clause-preserved
loop-clause-preserved g c =
    let E = g.E.EvalCtxt in
    let G = g.G.GoalKind in
    let context = g.E.Build.context in
    let first = c.args.ecx.now in
    let start = context first in
    let now = context c.loop-clause.ecx in
    let so = c.loop-clause.invariant in
    let xs = c.args.clauses.now in
    let k = c.loop-clause.clause-index in
    let d : Clause = record { 0 = 0 } in
    let says = g.met.G.GoalKind.stays start now c.args.env c.args.predicate so.kept.grows c.requires.goal in
    let seen = G.kind.seen start.trees c.args.env c.args.predicate in
    let at = clause-at start now (length (E.state first).variables) xs k d so.kept.grows c.requires.clauses c.requires.free c.requires.clauses_below c.loop-clause-test.true in
    let same = matched-judged G.kind.rules E.judge (E.fixed first) (E.fixed c.loop-clause.ecx) (λ f. (g.met.E.EvalCtxt.lawful f).alike_judged_alike) g.met.G.GoalKind.laws.below.matches start now (E.state first) (E.state c.loop-clause.ecx) seen
    (G.kind.seen now.trees c.args.env c.args.predicate) (AliasBound SelfBounds) AMBIGUOUS (clause_tree start.trees (get_or xs k d)) (clause_tree now.trees (get_or xs k d)) so.kept.fixed_same says.seen at.0 says.fits so.alike c.requires.below at.2 in
    let rule : Clause → Rule = λ x. ambiguous_rule G.kind.rules start seen (clause_tree start.trees x) in
    next-listed (λ f. (g.met.E.EvalCtxt.lawful f).alike_judged_alike) rule xs k d first c.loop-clause.ecx c.consider_opaque_bound-answer.new.ecx c.args.candidates.now.items c.loop-clause.candidates.items
    c.push_considered.new.candidates.items _ _ _ so c.loop-clause-test.true c.consider_opaque_bound-answer.ensures same c.in_ok-push_considered.ensures

pub returns-in_err-push_considered : goal.returns-in_err-push_considered
returns-in_err-push_considered g c =
    let E = g.E.EvalCtxt in
    let G = g.G.GoalKind in
    let context = g.E.Build.context in
    let first = c.args.ecx.now in
    let start = context first in
    let now = context c.loop-clause.ecx in
    let so = c.loop-clause.invariant in
    let xs = c.args.clauses.now in
    let k = c.loop-clause.clause-index in
    let d : Clause = record { 0 = 0 } in
    let says = g.met.G.GoalKind.stays start now c.args.env c.args.predicate so.kept.grows c.requires.goal in
    let seen = G.kind.seen start.trees c.args.env c.args.predicate in
    let at = clause-at start now (length (E.state first).variables) xs k d so.kept.grows c.requires.clauses c.requires.free c.requires.clauses_below c.loop-clause-test.true in
    let same = matched-judged G.kind.rules E.judge (E.fixed first) (E.fixed c.loop-clause.ecx) (λ f. (g.met.E.EvalCtxt.lawful f).alike_judged_alike) g.met.G.GoalKind.laws.below.matches start now (E.state first) (E.state c.loop-clause.ecx) seen
    (G.kind.seen now.trees c.args.env c.args.predicate) (AliasBound SelfBounds) AMBIGUOUS (clause_tree start.trees (get_or xs k d)) (clause_tree now.trees (get_or xs k d)) so.kept.fixed_same says.seen at.0 says.fits so.alike c.requires.below at.2 in
    let rule : Clause → Rule = λ x. ambiguous_rule G.kind.rules start seen (clause_tree start.trees x) in
    let p = err_from_is_err_and c.from_residual.result c.from_residual.ensures.1 in
    listing-stops (λ f. (g.met.E.EvalCtxt.lawful f).alike_judged_alike) rule xs k d first c.loop-clause.ecx c.consider_opaque_bound-answer.new.ecx c.args.candidates.now.items c.loop-clause.candidates.items
    c.push_considered.new.candidates.items _ _ c.in_err-push_considered.field-0.0 so c.loop-clause-test.true c.consider_opaque_bound-answer.ensures same c.in_err-push_considered.ensures
    _ refl c.from_residual.result (p.1 ∙ ap Err p.2)

pub returns : goal.returns
returns g c =
    let G = g.G.GoalKind in
    let first = c.args.ecx.now in
    let start = g.E.Build.context first in
    let xs = c.args.clauses.now in
    let rule : Clause → Rule = λ x. ambiguous_rule G.kind.rules start (G.kind.seen start.trees c.args.env c.args.predicate) (clause_tree start.trees x) in
    let all : length xs ≤ c.loop-clause.clause-index = search rules in
    all-listed (λ f. (g.met.E.EvalCtxt.lawful f).alike_judged_alike) rule xs c.loop-clause.clause-index (record { 0 = 0 }) first c.loop-clause.ecx c.args.candidates.now.items
    c.loop-clause.candidates.items _ c.loop-clause.invariant all _ refl
