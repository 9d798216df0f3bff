use Rattle.std.proofs.Common.{rules, ◌≤◌, length, Err, ap, ◌∙◌, subst}
use Rattle.std.specs.Prelude.{slice_index_or}
use Rattle.std.proofs.lemmas.Result.{err_from_is_err_and}
use Rattle.ir_trees.specs.declared.decl.contents.ImplId.{ImplId}
use Rattle.ir_trees.specs.Declarations.Context.{Context}
use Rattle.ir_trees.specs.Validity.WellFormed.{IsWellFormedTable}
use Rattle.candidate_assembly.specs.Answers.Assembled.{impl_rule}
use Rattle.candidate_assembly.proofs.Rules.ImplLists.{impl-judged, impl-rules-read}
use Rattle.candidate_assembly.proofs.Calls.Keeping.{goal-kept}
use Rattle.candidate_assembly.proofs.Lists.Listing.{all-listed, listing-stops, next-listed, none-listed, not-listed}
use Rattle.candidate_assembly.proofs.assembly.listing.assemble_impl_candidates.Goals as goal

pub returns-in_err-impls : goal.returns-in_err-impls
returns-in_err-impls g c =
    let p = err_from_is_err_and c.from_residual.result c.from_residual.ensures.1 in
    not-listed (λ f. (g.met.E.EvalCtxt.lawful f).alike_judged_alike) c.args.ecx.now c.from_residual.result c.in_err-impls.field-0.0 (p.1 ∙ ap Err p.2) c.in_err-impls.ensures.cause

pub loop-of-init : goal.loop-of-init
loop-of-init g c = none-listed (λ f. (g.met.E.EvalCtxt.lawful f).alike_judged_alike) c.args.ecx.now c.args.candidates.now.items c.requires.candidates

pub consider_impl_and_respond-answer-requires : goal.consider_impl_and_respond-answer-requires
consider_impl_and_respond-answer-requires g c =
    let grows = c.loop-of.invariant.kept.grows in
    record { goal = goal-kept grows (g.met.G.GoalKind.stays (g.E.Build.context c.args.ecx.now) (g.E.Build.context c.loop-of.ecx) c.args.env c.args.predicate grows c.requires.goal) c.requires.goal }

pub loop-of-preserved : goal.loop-of-preserved
loop-of-preserved g c =
    let E = g.E.EvalCtxt in
    let K = g.G.GoalKind in
    let first = c.args.ecx.now in
    let start = g.E.Build.context first in
    let now = g.E.Build.context c.loop-of.ecx in
    let so = c.loop-of.invariant in
    let xs = c.deref-of-items.result.now in
    let k = c.loop-of.of-index in
    let d : ImplId = record { 0 = 0 } in
    let seen = K.kind.seen start.trees c.args.env c.args.predicate in
    let says = g.met.G.GoalKind.stays start now c.args.env c.args.predicate so.kept.grows c.requires.goal in
    let table : IsWellFormedTable start = subst (λ (x : Context). IsWellFormedTable x) c.cx.ensures c.recall_well_formed_table.ensures in
    let same = impl-judged K.kind.rules E.judge (E.fixed first) (E.fixed c.loop-of.ecx) (λ f. (g.met.E.EvalCtxt.lawful f).alike_judged_alike) g.met.G.GoalKind.laws.below.impls g.met.G.GoalKind.laws.stay.impls start now table so.kept.grows
    (E.state first) (E.state c.loop-of.ecx) seen (K.kind.seen now.trees c.args.env c.args.predicate) (slice_index_or xs k d) so.kept.fixed_same says.seen so.alike c.requires.below in
    next-listed (λ f. (g.met.E.EvalCtxt.lawful f).alike_judged_alike) (impl_rule K.kind.rules start (E.state first).mode seen) xs k d first c.loop-of.ecx c.consider_impl_and_respond-answer.new.ecx c.args.candidates.now.items c.loop-of.candidates.items
    c.push_considered.new.candidates.items _ _ _ so c.loop-of-test.true c.consider_impl_and_respond-answer.ensures same c.in_ok-push_considered.ensures

pub returns-in_err-push_considered : goal.returns-in_err-push_considered
returns-in_err-push_considered g c =
    let E = g.E.EvalCtxt in
    let K = g.G.GoalKind in
    let first = c.args.ecx.now in
    let start = g.E.Build.context first in
    let now = g.E.Build.context c.loop-of.ecx in
    let so = c.loop-of.invariant in
    let xs = c.deref-of-items.result.now in
    let k = c.loop-of.of-index in
    let d : ImplId = record { 0 = 0 } in
    let seen = K.kind.seen start.trees c.args.env c.args.predicate in
    let says = g.met.G.GoalKind.stays start now c.args.env c.args.predicate so.kept.grows c.requires.goal in
    let table : IsWellFormedTable start = subst (λ (x : Context). IsWellFormedTable x) c.cx.ensures c.recall_well_formed_table.ensures in
    let same = impl-judged K.kind.rules E.judge (E.fixed first) (E.fixed c.loop-of.ecx) (λ f. (g.met.E.EvalCtxt.lawful f).alike_judged_alike) g.met.G.GoalKind.laws.below.impls g.met.G.GoalKind.laws.stay.impls start now table so.kept.grows
    (E.state first) (E.state c.loop-of.ecx) seen (K.kind.seen now.trees c.args.env c.args.predicate) (slice_index_or xs k d) so.kept.fixed_same says.seen so.alike c.requires.below in
    let p = err_from_is_err_and c.from_residual-in_err-push_considered.result c.from_residual-in_err-push_considered.ensures.1 in
    listing-stops (λ f. (g.met.E.EvalCtxt.lawful f).alike_judged_alike) (impl_rule K.kind.rules start (E.state first).mode seen) xs k d first c.loop-of.ecx c.consider_impl_and_respond-answer.new.ecx c.args.candidates.now.items c.loop-of.candidates.items
    c.push_considered.new.candidates.items _ _ c.in_err-push_considered.field-0.0 so c.loop-of-test.true c.consider_impl_and_respond-answer.ensures same c.in_err-push_considered.ensures
    _ (impl-rules-read K.kind.rules K.kind.seen start c.cx-2.result.now (E.state first).mode c.args.env c.args.predicate xs c.cx-2.ensures (c.deref-of-items.ensures.value ∙ c.in_ok-impls.ensures.list)) c.from_residual-in_err-push_considered.result (p.1 ∙ ap Err p.2)

pub returns : goal.returns
returns g c =
    let E = g.E.EvalCtxt in
    let K = g.G.GoalKind in
    let first = c.args.ecx.now in
    let start = g.E.Build.context first in
    let xs = c.deref-of-items.result.now in
    let d : ImplId = record { 0 = 0 } in
    let seen = K.kind.seen start.trees c.args.env c.args.predicate in
    let past : length xs ≤ c.loop-of.of-index = search rules in
    all-listed (λ f. (g.met.E.EvalCtxt.lawful f).alike_judged_alike) (impl_rule K.kind.rules start (E.state first).mode seen) xs c.loop-of.of-index d first c.loop-of.ecx c.args.candidates.now.items c.loop-of.candidates.items _ c.loop-of.invariant past _
    (impl-rules-read K.kind.rules K.kind.seen start c.cx-2.result.now (E.state first).mode c.args.env c.args.predicate xs c.cx-2.ensures (c.deref-of-items.ensures.value ∙ c.in_ok-impls.ensures.list))
