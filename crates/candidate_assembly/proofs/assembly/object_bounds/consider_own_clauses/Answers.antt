use Rattle.std.proofs.Common.{rules, ◌≤◌, Err, length, map, get_or, subst, ap, ◌∙◌}
use Rattle.std.proofs.lemmas.Result.{err_from_is_err_and}
use Rattle.ir_trees.specs.declared.ir.kinds.Clause.{Clause}
use Rattle.ir_trees.specs.Syntax.Trees.{Tree, holds, is_param}
use Rattle.ir_trees.specs.Validity.WellFormed.{IsWellFormedTable}
use Rattle.ir_trees.specs.Syntax.Words.{clause_tree}
use Rattle.ir_folds.proofs.Instantiation.Joining.{clause-kept}
use Rattle.candidate_eval.specs.declared.eval.source.CandidateSource.{CandidateSource}
use Rattle.candidate_eval.specs.declared.eval.source.CandidateSource.TheVariants.{Impl}
use Rattle.candidate_assembly.specs.Rules.ObjectBounds.{own_clause, speaks_of_trait}
use Rattle.candidate_assembly.specs.Calls.ObjectCalls.{own_clause_of}
use Rattle.candidate_assembly.proofs.Objects.ObjectLaws.{clause_speaks}
use Rattle.candidate_assembly.proofs.Calls.Keeping.{goal-kept}
use Rattle.candidate_assembly.proofs.Objects.ObjectJudging.{self-kept}
use Rattle.candidate_assembly.proofs.Objects.ObjectLists.{all-objects, judged-before, next-object, no-object-yet, objects-stop}
use Rattle.candidate_assembly.proofs.assembly.object_bounds.consider_own_clauses.Goals as goal

pub loop-clause-init : goal.loop-clause-init
loop-clause-init g c =
    let old = g.E.Build.context c.args.ecx.now in
    no-object-yet (λ f. (g.met.E.EvalCtxt.lawful f).alike_judged_alike) g.G.GoalKind.kind.rules (g.G.GoalKind.kind.seen old.trees c.args.env c.args.predicate) c.args.ecx.now c.args.candidates.now.items (map (own_clause_of old.trees) c.args.clauses.now) c.requires.candidates

pub probe_and_consider_object_bound_candidate-answer-requires-clause-goal : goal.probe_and_consider_object_bound_candidate-answer-requires-clause-goal
probe_and_consider_object_bound_candidate-answer-requires-clause-goal g c =
    let grows = c.loop-clause.invariant.kept.grows in
    goal-kept grows (g.met.G.GoalKind.stays (g.E.Build.context c.args.ecx.now) (g.E.Build.context c.loop-clause.ecx) c.args.env c.args.predicate grows c.requires.goal) c.requires.goal

pub probe_and_consider_object_bound_candidate-answer-requires-clause-clause : goal.probe_and_consider_object_bound_candidate-answer-requires-clause-clause
probe_and_consider_object_bound_candidate-answer-requires-clause-clause g c =
    let none : CandidateSource × Clause = (Impl (record { 0 = 0 }), record { 0 = 0 }) in
    let k = c.loop-clause.clause-index in
    (clause-kept (g.E.Build.context c.args.ecx.now) (g.E.Build.context c.loop-clause.ecx) (get_or c.args.clauses.now k none).1 c.loop-clause.invariant.kept.grows (c.requires.clauses k none c.loop-clause-test.true).clause).0

pub probe_and_consider_object_bound_candidate-answer-requires-clause-speaks : goal.probe_and_consider_object_bound_candidate-answer-requires-clause-speaks
probe_and_consider_object_bound_candidate-answer-requires-clause-speaks g c =
    let none : CandidateSource × Clause = (Impl (record { 0 = 0 }), record { 0 = 0 }) in
    let k = c.loop-clause.clause-index in
    let own = c.requires.clauses k none c.loop-clause-test.true in
    ap (λ (u : Tree). speaks_of_trait u.head) (clause-kept (g.E.Build.context c.args.ecx.now) (g.E.Build.context c.loop-clause.ecx) (get_or c.args.clauses.now k none).1 c.loop-clause.invariant.kept.grows own.clause).1 ∙ own.speaks

pub probe_and_consider_object_bound_candidate-answer-requires-clause-free : goal.probe_and_consider_object_bound_candidate-answer-requires-clause-free
probe_and_consider_object_bound_candidate-answer-requires-clause-free g c =
    let none : CandidateSource × Clause = (Impl (record { 0 = 0 }), record { 0 = 0 }) in
    let k = c.loop-clause.clause-index in
    let own = c.requires.clauses k none c.loop-clause-test.true in
    ap (λ (u : Tree). holds is_param u.children) (clause-kept (g.E.Build.context c.args.ecx.now) (g.E.Build.context c.loop-clause.ecx) (get_or c.args.clauses.now k none).1 c.loop-clause.invariant.kept.grows own.clause).1 ∙ own.free

pub probe_and_consider_object_bound_candidate-answer-requires-clause-dynamic : goal.probe_and_consider_object_bound_candidate-answer-requires-clause-dynamic
probe_and_consider_object_bound_candidate-answer-requires-clause-dynamic g c =
    let grows = c.loop-clause.invariant.kept.grows in
    let says = g.met.G.GoalKind.stays (g.E.Build.context c.args.ecx.now) (g.E.Build.context c.loop-clause.ecx) c.args.env c.args.predicate grows c.requires.goal in
    ap (λ (u : Tree). u.head) (self-kept g.G.GoalKind.kind.rules says) ∙ c.requires.dynamic

pub loop-clause-preserved : goal.loop-clause-preserved
loop-clause-preserved g c =
    let E = g.E.EvalCtxt in
    let K = g.G.GoalKind in
    let first = c.args.ecx.now in
    let old = g.E.Build.context first in
    let now = g.E.Build.context c.loop-clause.ecx in
    let so = c.loop-clause.invariant in
    let xs = c.args.clauses.now in
    let k = c.loop-clause.clause-index in
    let none : CandidateSource × Clause = (Impl (record { 0 = 0 }), record { 0 = 0 }) in
    let x = get_or xs k none in
    let own = c.requires.clauses k none c.loop-clause-test.true in
    let table = subst IsWellFormedTable c.cx.ensures c.recall_well_formed_table.ensures in
    let says = g.met.G.GoalKind.stays old now c.args.env c.args.predicate so.kept.grows c.requires.goal in
    let seen = K.kind.seen old.trees c.args.env c.args.predicate in
    let q = own_clause x.0 (clause_tree now.trees x.1) in
    let d = K.kind.seen now.trees c.args.env c.args.predicate in
    let call = c.probe_and_consider_object_bound_candidate-answer in
    next-object (λ f. (g.met.E.EvalCtxt.lawful f).alike_judged_alike) K.kind.rules seen (own_clause_of old.trees) xs k none first c.loop-clause.ecx call.new.ecx c.args.candidates.now.items c.loop-clause.candidates.items c.push_considered.new.candidates.items d q call.result so c.loop-clause-test.true call.ensures
    (judged-before K.kind.rules E.judge (λ f. (g.met.E.EvalCtxt.lawful f).alike_judged_alike) (E.fixed first) (E.fixed c.loop-clause.ecx) old now (E.state first) (E.state c.loop-clause.ecx) seen d (own_clause_of old.trees x) q table so.kept.grows so.kept.fixed_same so.alike says.seen
    (ap (own_clause x.0) (clause-kept old now x.1 so.kept.grows own.clause).1) says.reference says.fits (clause_speaks old table x.1 own.speaks))
    _ c.in_ok-push_considered.ensures

pub returns-in_err-push_considered : goal.returns-in_err-push_considered
returns-in_err-push_considered g c =
    let E = g.E.EvalCtxt in
    let K = g.G.GoalKind in
    let first = c.args.ecx.now in
    let old = g.E.Build.context first in
    let now = g.E.Build.context c.loop-clause.ecx in
    let so = c.loop-clause.invariant in
    let xs = c.args.clauses.now in
    let k = c.loop-clause.clause-index in
    let none : CandidateSource × Clause = (Impl (record { 0 = 0 }), record { 0 = 0 }) in
    let x = get_or xs k none in
    let own = c.requires.clauses k none c.loop-clause-test.true in
    let table = subst IsWellFormedTable c.cx.ensures c.recall_well_formed_table.ensures in
    let says = g.met.G.GoalKind.stays old now c.args.env c.args.predicate so.kept.grows c.requires.goal in
    let seen = K.kind.seen old.trees c.args.env c.args.predicate in
    let q = own_clause x.0 (clause_tree now.trees x.1) in
    let d = K.kind.seen now.trees c.args.env c.args.predicate in
    let call = c.probe_and_consider_object_bound_candidate-answer in
    let p = err_from_is_err_and c.from_residual.result c.from_residual.ensures.1 in
    objects-stop (λ f. (g.met.E.EvalCtxt.lawful f).alike_judged_alike) K.kind.rules seen (own_clause_of old.trees) xs k none first c.loop-clause.ecx call.new.ecx c.args.candidates.now.items c.loop-clause.candidates.items c.push_considered.new.candidates.items d q call.result so c.loop-clause-test.true call.ensures
    (judged-before K.kind.rules E.judge (λ f. (g.met.E.EvalCtxt.lawful f).alike_judged_alike) (E.fixed first) (E.fixed c.loop-clause.ecx) old now (E.state first) (E.state c.loop-clause.ecx) seen d (own_clause_of old.trees x) q table so.kept.grows so.kept.fixed_same so.alike says.seen
    (ap (own_clause x.0) (clause-kept old now x.1 so.kept.grows own.clause).1) says.reference says.fits (clause_speaks old table x.1 own.speaks))
    c.in_err-push_considered.field-0.0 c.in_err-push_considered.ensures c.from_residual.result (p.1 ∙ ap Err p.2)

pub returns : goal.returns
returns g c =
    let K = g.G.GoalKind in
    let first = c.args.ecx.now in
    let old = g.E.Build.context first in
    let xs = c.args.clauses.now in
    let past : length xs ≤ c.loop-clause.clause-index = search rules in
    all-objects K.kind.rules (K.kind.seen old.trees c.args.env c.args.predicate) (own_clause_of old.trees) xs c.loop-clause.clause-index first c.loop-clause.ecx c.args.candidates.now.items c.loop-clause.candidates.items _ c.loop-clause.invariant past
