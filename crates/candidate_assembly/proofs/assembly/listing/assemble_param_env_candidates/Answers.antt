use Rattle.std.proofs.Common.{Err, ap, false, length, refl, rules, sym, ◌∙◌, ◌≡◌, ◌≤◌}
use Rattle.std.specs.Prelude.{slice_index_or}
use Rattle.std.proofs.lemmas.List.Elements.{All-get_or}
use Rattle.std.proofs.lemmas.Result.{err_from_is_err_and}
use Rattle.ir_trees.specs.declared.ir.kinds.Clause.{Clause}
use Rattle.ir_trees.specs.Unification.Substitutions.{alone}
use Rattle.ir_trees.specs.Syntax.Trees.{Tree, holds, is_param, none}
use Rattle.ir_trees.specs.Syntax.Words.{clause_tree}
use Rattle.ir_folds.proofs.Instantiation.Joining.{clause-kept}
use Rattle.ir_trees.proofs.Growth.Made.{IsClause-listed}
use Rattle.candidate_eval.specs.Derivations.Mentions.{is_from}
use Rattle.candidate_eval.proofs.Marks.Holds.{holds_parts}
use Rattle.candidate_eval.proofs.Interface.Resolving.{read-env}
use Rattle.candidate_assembly.specs.Answers.Assembled.{where_rule}
use Rattle.candidate_assembly.proofs.Rules.EnvRules.{clauses-hold-none, where-judged, where-rules-read}
use Rattle.candidate_assembly.proofs.Calls.Keeping.{goal-kept}
use Rattle.candidate_assembly.proofs.Lists.Listing.{all-listed, listing-stops, next-listed, none-listed, not-listed}
use Rattle.candidate_assembly.proofs.assembly.listing.assemble_param_env_candidates.Goals as goal

pub returns-in_err-clauses : goal.returns-in_err-clauses
returns-in_err-clauses g c =
    let p = err_from_is_err_and c.from_residual.result c.from_residual.ensures.1 in
    not-listed (λ f. (g.met.E.EvalCtxt.lawful f).alike_judged_alike) c.args.ecx.now c.from_residual.result _ (p.1 ∙ ap Err p.2) refl

pub loop-clause-init : goal.loop-clause-init
loop-clause-init g c = none-listed (λ f. (g.met.E.EvalCtxt.lawful f).alike_judged_alike) c.args.ecx.now c.args.candidates.now.items c.requires.candidates

pub probe_and_consider_param_env_candidate-answer-requires-clause-goal : goal.probe_and_consider_param_env_candidate-answer-requires-clause-goal
probe_and_consider_param_env_candidate-answer-requires-clause-goal g c =
    let grows = c.loop-clause.invariant.kept.grows in
    goal-kept grows (g.met.G.GoalKind.stays (g.E.Build.context c.args.ecx.now) (g.E.Build.context c.loop-clause.ecx) c.args.env c.args.predicate grows c.requires.goal) c.requires.goal

pub probe_and_consider_param_env_candidate-answer-requires-clause-clause : goal.probe_and_consider_param_env_candidate-answer-requires-clause-clause
probe_and_consider_param_env_candidate-answer-requires-clause-clause g c =
    let start = g.E.Build.context c.args.ecx.now in
    let xs = c.deref-clause-items.result.now in
    let read = read-env start c.cx.result.now c.args.env c.param_env.result.now xs c.cx.ensures (c.deref-clause-items.ensures.value ∙ c.in_ok-clauses.ensures.items) c.param_env.ensures.fits c.param_env.ensures.tree in
    (clause-kept start (g.E.Build.context c.loop-clause.ecx) _ c.loop-clause.invariant.kept.grows (IsClause-listed start.trees xs c.loop-clause.clause-index _ c.loop-clause-test.true read.0)).0

pub probe_and_consider_param_env_candidate-answer-requires-clause-free : goal.probe_and_consider_param_env_candidate-answer-requires-clause-free
probe_and_consider_param_env_candidate-answer-requires-clause-free g c =
    let start = g.E.Build.context c.args.ecx.now in
    let now = g.E.Build.context c.loop-clause.ecx in
    let xs = c.deref-clause-items.result.now in
    let read = read-env start c.cx.result.now c.args.env c.param_env.result.now xs c.cx.ensures (c.deref-clause-items.ensures.value ∙ c.in_ok-clauses.ensures.items) c.param_env.ensures.fits c.param_env.ensures.tree in
    let x : Clause = slice_index_or xs c.loop-clause.clause-index (record { 0 = 0 }) in
    let is = IsClause-listed start.trees xs c.loop-clause.clause-index (record { 0 = 0 }) c.loop-clause-test.true read.0 in
    let t = clause_tree start.trees x in
    let none-there = All-get_or (λ (y : Clause). holds is_param (alone (clause_tree start.trees y)) ≡ false) xs c.loop-clause.clause-index (record { 0 = 0 }) c.loop-clause-test.true
    (clauses-hold-none is_param start.trees xs read.0 (ap (holds is_param) read.1 ∙ c.requires.free)) in
    ap (λ (u : Tree). holds is_param u.children) (clause-kept start now x c.loop-clause.invariant.kept.grows is).1 ∙ (holds_parts is_param t.head t.children none none-there).under

pub loop-clause-preserved : goal.loop-clause-preserved
loop-clause-preserved g c =
    let E = g.E.EvalCtxt in
    let K = g.G.GoalKind in
    let context = g.E.Build.context in
    let first = c.args.ecx.now in
    let start = context first in
    let now = context c.loop-clause.ecx in
    let so = c.loop-clause.invariant in
    let xs = c.deref-clause-items.result.now in
    let k = c.loop-clause.clause-index in
    let d : Clause = record { 0 = 0 } in
    let read = read-env start c.cx.result.now c.args.env c.param_env.result.now xs c.cx.ensures (c.deref-clause-items.ensures.value ∙ c.in_ok-clauses.ensures.items) c.param_env.ensures.fits c.param_env.ensures.tree in
    let x : Clause = slice_index_or xs k d in
    let stays = clause-kept start now x so.kept.grows (IsClause-listed start.trees xs k d c.loop-clause-test.true read.0) in
    let says = g.met.G.GoalKind.stays start now c.args.env c.args.predicate so.kept.grows c.requires.goal in
    let seen = K.kind.seen start.trees c.args.env c.args.predicate in
    let below = c.requires.below in
    let n = length (E.state first).variables in
    let there = All-get_or (λ (y : Clause). holds (is_from n) (alone (clause_tree start.trees y)) ≡ false) xs k d c.loop-clause-test.true
    (clauses-hold-none (is_from n) start.trees xs read.0 (ap (holds (is_from n)) (read.1 ∙ sym (g.met.G.GoalKind.env_given start.trees c.args.env c.args.predicate)) ∙ below.env)) in
    let same = where-judged K.kind.rules E.judge (E.fixed first) (E.fixed c.loop-clause.ecx) (λ f. (g.met.E.EvalCtxt.lawful f).alike_judged_alike) g.met.G.GoalKind.laws.below.matches start now (E.state first) (E.state c.loop-clause.ecx) seen (K.kind.seen now.trees c.args.env c.args.predicate)
    (clause_tree start.trees x) (clause_tree now.trees x) so.kept.fixed_same says.seen stays.1 says.fits so.alike below there in
    next-listed (λ f. (g.met.E.EvalCtxt.lawful f).alike_judged_alike) (λ y. where_rule K.kind.rules start seen (clause_tree start.trees y)) xs k d first c.loop-clause.ecx c.probe_and_consider_param_env_candidate-answer.new.ecx c.args.candidates.now.items c.loop-clause.candidates.items
    c.push_or_note.new.candidates.items _ _ _ so c.loop-clause-test.true c.probe_and_consider_param_env_candidate-answer.ensures same c.in_ok-push_or_note.ensures

pub returns-in_err-push_or_note : goal.returns-in_err-push_or_note
returns-in_err-push_or_note g c =
    let E = g.E.EvalCtxt in
    let K = g.G.GoalKind in
    let context = g.E.Build.context in
    let first = c.args.ecx.now in
    let start = context first in
    let now = context c.loop-clause.ecx in
    let so = c.loop-clause.invariant in
    let xs = c.deref-clause-items.result.now in
    let k = c.loop-clause.clause-index in
    let d : Clause = record { 0 = 0 } in
    let read = read-env start c.cx.result.now c.args.env c.param_env.result.now xs c.cx.ensures (c.deref-clause-items.ensures.value ∙ c.in_ok-clauses.ensures.items) c.param_env.ensures.fits c.param_env.ensures.tree in
    let x : Clause = slice_index_or xs k d in
    let stays = clause-kept start now x so.kept.grows (IsClause-listed start.trees xs k d c.loop-clause-test.true read.0) in
    let says = g.met.G.GoalKind.stays start now c.args.env c.args.predicate so.kept.grows c.requires.goal in
    let seen = K.kind.seen start.trees c.args.env c.args.predicate in
    let below = c.requires.below in
    let n = length (E.state first).variables in
    let there = All-get_or (λ (y : Clause). holds (is_from n) (alone (clause_tree start.trees y)) ≡ false) xs k d c.loop-clause-test.true
    (clauses-hold-none (is_from n) start.trees xs read.0 (ap (holds (is_from n)) (read.1 ∙ sym (g.met.G.GoalKind.env_given start.trees c.args.env c.args.predicate)) ∙ below.env)) in
    let same = where-judged K.kind.rules E.judge (E.fixed first) (E.fixed c.loop-clause.ecx) (λ f. (g.met.E.EvalCtxt.lawful f).alike_judged_alike) g.met.G.GoalKind.laws.below.matches start now (E.state first) (E.state c.loop-clause.ecx) seen (K.kind.seen now.trees c.args.env c.args.predicate)
    (clause_tree start.trees x) (clause_tree now.trees x) so.kept.fixed_same says.seen stays.1 says.fits so.alike below there in
    let p = err_from_is_err_and c.from_residual-in_err-push_or_note.result c.from_residual-in_err-push_or_note.ensures.1 in
    listing-stops (λ f. (g.met.E.EvalCtxt.lawful f).alike_judged_alike) (λ y. where_rule K.kind.rules start seen (clause_tree start.trees y)) xs k d first c.loop-clause.ecx c.probe_and_consider_param_env_candidate-answer.new.ecx c.args.candidates.now.items c.loop-clause.candidates.items
    c.push_or_note.new.candidates.items _ _ c.in_err-push_or_note.field-0.0 so c.loop-clause-test.true c.probe_and_consider_param_env_candidate-answer.ensures same c.in_err-push_or_note.ensures
    _ (where-rules-read K.kind.rules start seen c.args.env xs (g.met.G.GoalKind.env_given start.trees c.args.env c.args.predicate) read.0 read.1) c.from_residual-in_err-push_or_note.result (p.1 ∙ ap Err p.2)

pub returns : goal.returns
returns g c =
    let E = g.E.EvalCtxt in
    let K = g.G.GoalKind in
    let first = c.args.ecx.now in
    let start = g.E.Build.context first in
    let xs = c.deref-clause-items.result.now in
    let d : Clause = record { 0 = 0 } in
    let read = read-env start c.cx.result.now c.args.env c.param_env.result.now xs c.cx.ensures (c.deref-clause-items.ensures.value ∙ c.in_ok-clauses.ensures.items) c.param_env.ensures.fits c.param_env.ensures.tree in
    let seen = K.kind.seen start.trees c.args.env c.args.predicate in
    let past : length xs ≤ c.loop-clause.clause-index = search rules in
    all-listed (λ f. (g.met.E.EvalCtxt.lawful f).alike_judged_alike) (λ y. where_rule K.kind.rules start seen (clause_tree start.trees y)) xs c.loop-clause.clause-index d first c.loop-clause.ecx c.args.candidates.now.items c.loop-clause.candidates.items _ c.loop-clause.invariant past _
    (where-rules-read K.kind.rules start seen c.args.env xs (g.met.G.GoalKind.env_given start.trees c.args.env c.args.predicate) read.0 read.1)
