use Rattle.std.proofs.Common.{Err, ap, refl, subst, ◌∙◌}
use Rattle.std.proofs.lemmas.Result.{err_from_is_err_and}
use Rattle.ir_trees.specs.declared.ir.kinds.TyKind.TheVariants as K
use Rattle.ir_trees.specs.declared.ir.stop.Stop.TheVariants.{Memory}
use Rattle.ir_trees.specs.Validity.WellFormed.{IsWellFormedTable}
use Rattle.ir_trees.specs.Syntax.Words.{kind_tree}
use Rattle.candidate_assembly.specs.Rules.AliasBounds.{bound_rules}
use Rattle.candidate_assembly.proofs.Aliases.AliasChains.{additional-at, alias-kept, alias-parts, alias-parts-later, both-listed, first-stop, not-joined, second-stop}
use Rattle.candidate_assembly.proofs.Calls.Keeping.{goal-kept}
use Rattle.candidate_assembly.proofs.assembly.alias_chain.consider_alias.Goals as goal

pub consider_alias_bounds-requires-clause-below : goal.consider_alias_bounds-requires-clause-below
consider_alias_bounds-requires-clause-below g c =
    (alias-parts g.G.GoalKind.kind.rules (g.E.EvalCtxt.state c.args.ecx.now) (g.E.Build.context c.args.ecx.now).trees _ c.args.alias c.requires.alias.args c.requires.stands).goal

pub consider_alias_bounds-requires-clause-free : goal.consider_alias_bounds-requires-clause-free
consider_alias_bounds-requires-clause-free g c =
    (alias-parts g.G.GoalKind.kind.rules (g.E.EvalCtxt.state c.args.ecx.now) (g.E.Build.context c.args.ecx.now).trees _ c.args.alias c.requires.alias.args c.requires.stands).free

pub consider_alias_bounds-requires-clause-alias_below : goal.consider_alias_bounds-requires-clause-alias_below
consider_alias_bounds-requires-clause-alias_below g c =
    (alias-parts g.G.GoalKind.kind.rules (g.E.EvalCtxt.state c.args.ecx.now) (g.E.Build.context c.args.ecx.now).trees _ c.args.alias c.requires.alias.args c.requires.stands).below

pub returns-in_err-consider_alias_bounds : goal.returns-in_err-consider_alias_bounds
returns-in_err-consider_alias_bounds g c =
    let G = g.G.GoalKind in
    let first = c.args.ecx.now in
    let old = g.E.Build.context first in
    let seen = G.kind.seen old.trees c.args.env c.args.predicate in
    let t = kind_tree old.trees (K.Alias c.args.alias) in
    let p = err_from_is_err_and c.from_residual.result c.from_residual.ensures.1 in
    first-stop (λ f. (g.met.E.EvalCtxt.lawful f).alike_judged_alike) first c.consider_alias_bounds.new.ecx c.args.candidates.now.items (bound_rules G.kind.rules old seen c.args.kind t) (G.kind.bounds.additional old seen t) c.in_err-consider_alias_bounds.field-0.0
    c.in_err-consider_alias_bounds.ensures c.from_residual.result (p.1 ∙ ap Err p.2)

pub consider_additional_alias_assumptions-requires-clause-goal : goal.consider_additional_alias_assumptions-requires-clause-goal
consider_additional_alias_assumptions-requires-clause-goal g c =
    let grows = c.consider_alias_bounds.ensures.kept.grows in
    goal-kept grows (g.met.G.GoalKind.stays (g.E.Build.context c.args.ecx.now) (g.E.Build.context c.consider_alias_bounds.new.ecx) c.args.env c.args.predicate grows c.requires.goal) c.requires.goal

pub consider_additional_alias_assumptions-requires-clause-args : goal.consider_additional_alias_assumptions-requires-clause-args
consider_additional_alias_assumptions-requires-clause-args g c =
    (alias-kept (g.E.Build.context c.args.ecx.now) (g.E.Build.context c.consider_alias_bounds.new.ecx) c.args.alias c.consider_alias_bounds.ensures.kept.grows c.requires.alias).0.args

pub consider_additional_alias_assumptions-requires-clause-fit : goal.consider_additional_alias_assumptions-requires-clause-fit
consider_additional_alias_assumptions-requires-clause-fit g c =
    (alias-kept (g.E.Build.context c.args.ecx.now) (g.E.Build.context c.consider_alias_bounds.new.ecx) c.args.alias c.consider_alias_bounds.ensures.kept.grows c.requires.alias).0.fit

pub consider_additional_alias_assumptions-requires-clause-below : goal.consider_additional_alias_assumptions-requires-clause-below
consider_additional_alias_assumptions-requires-clause-below g c =
    let E = g.E.EvalCtxt in
    let first = c.args.ecx.now in
    let mid = c.consider_alias_bounds.new.ecx in
    let done = c.consider_alias_bounds.ensures in
    (alias-parts-later g.G.GoalKind.kind.rules (E.judge (E.fixed first)) (g.met.E.EvalCtxt.lawful (E.fixed first)).alike_judged_alike (g.E.Build.context first) (g.E.Build.context mid) (E.state first) (E.state mid) _ _ c.args.alias
    (g.met.G.GoalKind.stays (g.E.Build.context first) (g.E.Build.context mid) c.args.env c.args.predicate done.kept.grows c.requires.goal).seen done.kept.grows c.requires.alias done.alike c.requires.stands).goal

pub consider_additional_alias_assumptions-requires-clause-free : goal.consider_additional_alias_assumptions-requires-clause-free
consider_additional_alias_assumptions-requires-clause-free g c =
    let E = g.E.EvalCtxt in
    let first = c.args.ecx.now in
    let mid = c.consider_alias_bounds.new.ecx in
    let done = c.consider_alias_bounds.ensures in
    (alias-parts-later g.G.GoalKind.kind.rules (E.judge (E.fixed first)) (g.met.E.EvalCtxt.lawful (E.fixed first)).alike_judged_alike (g.E.Build.context first) (g.E.Build.context mid) (E.state first) (E.state mid) _ _ c.args.alias
    (g.met.G.GoalKind.stays (g.E.Build.context first) (g.E.Build.context mid) c.args.env c.args.predicate done.kept.grows c.requires.goal).seen done.kept.grows c.requires.alias done.alike c.requires.stands).free

pub consider_additional_alias_assumptions-requires-clause-alias_below : goal.consider_additional_alias_assumptions-requires-clause-alias_below
consider_additional_alias_assumptions-requires-clause-alias_below g c =
    let E = g.E.EvalCtxt in
    let first = c.args.ecx.now in
    let mid = c.consider_alias_bounds.new.ecx in
    let done = c.consider_alias_bounds.ensures in
    (alias-parts-later g.G.GoalKind.kind.rules (E.judge (E.fixed first)) (g.met.E.EvalCtxt.lawful (E.fixed first)).alike_judged_alike (g.E.Build.context first) (g.E.Build.context mid) (E.state first) (E.state mid) _ _ c.args.alias
    (g.met.G.GoalKind.stays (g.E.Build.context first) (g.E.Build.context mid) c.args.env c.args.predicate done.kept.grows c.requires.goal).seen done.kept.grows c.requires.alias done.alike c.requires.stands).below

pub returns-in_err-more : goal.returns-in_err-more
returns-in_err-more g c =
    let E = g.E.EvalCtxt in
    let G = g.G.GoalKind in
    let first = c.args.ecx.now in
    let mid = c.consider_alias_bounds.new.ecx in
    let old = g.E.Build.context first in
    let now = g.E.Build.context mid in
    let seen = G.kind.seen old.trees c.args.env c.args.predicate in
    let t = kind_tree old.trees (K.Alias c.args.alias) in
    let done = c.in_ok-consider_alias_bounds.ensures in
    let says = g.met.G.GoalKind.stays old now c.args.env c.args.predicate done.kept.grows c.requires.goal in
    let same = additional-at G.kind.rules G.kind.bounds g.met.G.GoalKind.laws (E.judge (E.fixed first)) (E.judge (E.fixed mid)) (g.met.E.EvalCtxt.lawful (E.fixed first)).alike_judged_alike (ap E.judge done.kept.fixed_same) old now (E.state first) (E.state mid)
    seen (G.kind.seen now.trees c.args.env c.args.predicate) c.args.alias (subst IsWellFormedTable c.cx.ensures c.recall_well_formed_table.ensures) done.kept.grows says.seen c.requires.alias done.alike c.requires.stands in
    let p = err_from_is_err_and c.from_residual-in_err-more.result c.from_residual-in_err-more.ensures.1 in
    second-stop (λ f. (g.met.E.EvalCtxt.lawful f).alike_judged_alike) first mid c.args.candidates.now.items (bound_rules G.kind.rules old seen c.args.kind t) (G.kind.bounds.additional old seen t)
    c.consider_additional_alias_assumptions.new.ecx c.consider_alias_bounds.new.candidates.items _ done _ same c.in_err-more.field-0.0 c.in_err-more.ensures c.from_residual-in_err-more.result (p.1 ∙ ap Err p.2)

pub returns-in_err-append : goal.returns-in_err-append
returns-in_err-append g c =
    let E = g.E.EvalCtxt in
    let G = g.G.GoalKind in
    let first = c.args.ecx.now in
    let mid = c.consider_alias_bounds.new.ecx in
    let old = g.E.Build.context first in
    let now = g.E.Build.context mid in
    let seen = G.kind.seen old.trees c.args.env c.args.predicate in
    let t = kind_tree old.trees (K.Alias c.args.alias) in
    let done = c.in_ok-consider_alias_bounds.ensures in
    let says = g.met.G.GoalKind.stays old now c.args.env c.args.predicate done.kept.grows c.requires.goal in
    let same = additional-at G.kind.rules G.kind.bounds g.met.G.GoalKind.laws (E.judge (E.fixed first)) (E.judge (E.fixed mid)) (g.met.E.EvalCtxt.lawful (E.fixed first)).alike_judged_alike (ap E.judge done.kept.fixed_same) old now (E.state first) (E.state mid)
    seen (G.kind.seen now.trees c.args.env c.args.predicate) c.args.alias (subst IsWellFormedTable c.cx.ensures c.recall_well_formed_table.ensures) done.kept.grows says.seen c.requires.alias done.alike c.requires.stands in
    let p = err_from_is_err_and c.from_residual-in_err-append.result c.from_residual-in_err-append.ensures.1 in
    not-joined (λ f. (g.met.E.EvalCtxt.lawful f).alike_judged_alike) first mid c.args.candidates.now.items (bound_rules G.kind.rules old seen c.args.kind t) (G.kind.bounds.additional old seen t)
    c.consider_additional_alias_assumptions.new.ecx c.consider_alias_bounds.new.candidates.items _ done _ same c.in_ok-more.more Memory refl c.in_ok-more.ensures c.from_residual-in_err-append.result (p.1 ∙ ap Err p.2)

pub returns : goal.returns
returns g c =
    let E = g.E.EvalCtxt in
    let G = g.G.GoalKind in
    let first = c.args.ecx.now in
    let mid = c.consider_alias_bounds.new.ecx in
    let old = g.E.Build.context first in
    let now = g.E.Build.context mid in
    let seen = G.kind.seen old.trees c.args.env c.args.predicate in
    let t = kind_tree old.trees (K.Alias c.args.alias) in
    let done = c.in_ok-consider_alias_bounds.ensures in
    let says = g.met.G.GoalKind.stays old now c.args.env c.args.predicate done.kept.grows c.requires.goal in
    let same = additional-at G.kind.rules G.kind.bounds g.met.G.GoalKind.laws (E.judge (E.fixed first)) (E.judge (E.fixed mid)) (g.met.E.EvalCtxt.lawful (E.fixed first)).alike_judged_alike (ap E.judge done.kept.fixed_same) old now (E.state first) (E.state mid)
    seen (G.kind.seen now.trees c.args.env c.args.predicate) c.args.alias (subst IsWellFormedTable c.cx.ensures c.recall_well_formed_table.ensures) done.kept.grows says.seen c.requires.alias done.alike c.requires.stands in
    both-listed (λ f. (g.met.E.EvalCtxt.lawful f).alike_judged_alike) first mid c.args.candidates.now.items (bound_rules G.kind.rules old seen c.args.kind t) (G.kind.bounds.additional old seen t)
    c.consider_additional_alias_assumptions.new.ecx c.consider_alias_bounds.new.candidates.items _ done _ same (λ v. v.items) c.in_ok-more.more c.append.new.self.items _ c.in_ok-append.ensures.items c.in_ok-more.ensures
