use Rattle.std.proofs.Common.{Err, ap, refl, ◌∙◌}
use Rattle.std.proofs.lemmas.Result.{err_from_is_err_and}
use Rattle.ir_trees.specs.declared.ir.stop.Stop.TheVariants.{Memory}
use Rattle.candidate_eval.specs.Outcomes.ResponseTrees.{candidates_of}
use Rattle.candidate_assembly.proofs.Lists.AssembledLists.{first-stops, item-said, list-appended, list-not-added, not-unsized, nothing-added, unsized-after, unsizing-stops}
use Rattle.candidate_assembly.proofs.assembly.assemble.assemble_unsize_candidates.Goals as goal

pub returns-then-not-is_item : goal.returns-then-not-is_item
returns-then-not-is_item g c =
    let K = g.G.GoalKind in
    let first = c.args.ecx.now in
    let old = g.E.Build.context first in
    let before = c.args.candidates.now.items in
    nothing-added (λ f. (g.met.E.EvalCtxt.lawful f).alike_judged_alike) first before tt c.requires.candidates
    (not-unsized (candidates_of old.trees before) (item-said K.kind.rules K.kind.seen old c.cx.result.now c.cx-2.result.now c.args.env c.args.predicate c.trait_def_id-trait_id.result.0 c.is_item.result _ c.cx.ensures c.cx-2.ensures c.trait_def_id-trait_id.ensures c.is_item.ensures c.if-not-is_item.true))

pub consider_structural_builtin_unsize_candidates-requires-clause-unsize : goal.consider_structural_builtin_unsize_candidates-requires-clause-unsize
consider_structural_builtin_unsize_candidates-requires-clause-unsize g c =
    let K = g.G.GoalKind in
    item-said K.kind.rules K.kind.seen (g.E.Build.context c.args.ecx.now) c.cx.result.now c.cx-2.result.now c.args.env c.args.predicate c.trait_def_id-trait_id.result.0 c.is_item.result _ c.cx.ensures c.cx-2.ensures c.trait_def_id-trait_id.ensures c.is_item.ensures c.if-not-is_item.false

pub returns-in_err-more : goal.returns-in_err-more
returns-in_err-more g c =
    let K = g.G.GoalKind in
    let first = c.args.ecx.now in
    let old = g.E.Build.context first in
    let z = c.in_err-more.field-0.0 in
    let p = err_from_is_err_and c.from_residual.result c.from_residual.ensures.1 in
    let e = item-said K.kind.rules K.kind.seen old c.cx.result.now c.cx-2.result.now c.args.env c.args.predicate c.trait_def_id-trait_id.result.0 c.is_item.result _ c.cx.ensures c.cx-2.ensures c.trait_def_id-trait_id.ensures c.is_item.ensures c.if-not-is_item.false in
    first-stops (λ f. (g.met.E.EvalCtxt.lawful f).alike_judged_alike) first c.consider_structural_builtin_unsize_candidates.new.ecx z c.from_residual.result (p.1 ∙ ap Err p.2)
    (unsizing-stops (candidates_of old.trees c.args.candidates.now.items) z e) c.in_err-more.ensures

pub returns-in_err-append : goal.returns-in_err-append
returns-in_err-append g c =
    let p = err_from_is_err_and c.from_residual-in_err-append.result c.from_residual-in_err-append.ensures.1 in
    list-not-added (λ f. (g.met.E.EvalCtxt.lawful f).alike_judged_alike) c.args.ecx.now c.consider_structural_builtin_unsize_candidates.new.ecx c.in_ok-more.more Memory c.from_residual-in_err-append.result (p.1 ∙ ap Err p.2) refl c.in_ok-more.ensures

pub returns : goal.returns
returns g c =
    let K = g.G.GoalKind in
    let first = c.args.ecx.now in
    let old = g.E.Build.context first in
    let before = c.args.candidates.now.items in
    let e = item-said K.kind.rules K.kind.seen old c.cx.result.now c.cx-2.result.now c.args.env c.args.predicate c.trait_def_id-trait_id.result.0 c.is_item.result _ c.cx.ensures c.cx-2.ensures c.trait_def_id-trait_id.ensures c.is_item.ensures c.if-not-is_item.false in
    list-appended (λ f. (g.met.E.EvalCtxt.lawful f).alike_judged_alike) first c.consider_structural_builtin_unsize_candidates.new.ecx (λ v. v.items) before c.append.new.self.items c.in_ok-more.more _ c.requires.candidates c.in_ok-append.ensures.items
    (unsized-after (candidates_of old.trees before) e) c.in_ok-more.ensures
