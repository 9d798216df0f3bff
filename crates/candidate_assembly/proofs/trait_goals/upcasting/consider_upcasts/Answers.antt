use Rattle.std.proofs.Common.{◌≤◌, ◌<◌, ◌-◌, ℕ, Some, Err, arith, length, map, take, sym, ap, subst, ◌∙◌}
use Rattle.std.proofs.lemmas.List.Elements.{All-get_or}
use Rattle.std.proofs.lemmas.Result.{err_from_is_err_and}
use Rattle.ir_trees.specs.declared.ir.kinds.Clause.{Clause}
use Rattle.ir_trees.specs.Syntax.Words.{env_forest}
use Rattle.candidate_eval.specs.declared.eval.source.BuiltinImplSource.TheVariants.{TraitUpcasting}
use Rattle.candidate_eval.specs.declared.eval.source.CandidateSource.TheVariants.{BuiltinImpl}
use Rattle.candidate_eval.specs.Derivations.Judging.{judged}
use Rattle.candidate_eval.proofs.Dynamic.Objects.{env-kept}
use Rattle.candidate_assembly.specs.Calls.Upcasting.{IsRuleClause}
use Rattle.candidate_assembly.proofs.Lists.Listing.{ListedSoFar, all-listed, listing-stops, next-listed, none-listed}
use Rattle.candidate_assembly.proofs.Upcasting.UpcastBounds.{env-later, rule-clause-later}
use Rattle.candidate_assembly.proofs.Upcasting.UpcastMet.{alike-longer}
use Rattle.candidate_assembly.proofs.Upcasting.UpcastRules.{one-further, proper, proper-at, proper-past, proper-within, rule-by, upcast-judged, upcast-later, upcasts-proper}
use Rattle.candidate_assembly.proofs.trait_goals.upcasting.consider_upcasts.Goals as goal

pub loop-number-init : goal.loop-number-init
loop-number-init g c =
    none-listed (λ f. (g.met.E.EvalCtxt.lawful f).alike_judged_alike) c.args.ecx.now c.args.candidates.now.items c.requires.candidates

pub index-requires : goal.index-requires
index-requires g c =
    let a = c.loop-number-test.true in
    let b = c.len-number-end.ensures in
    omega (arith, a, b)

pub consider_upcast-answer-requires-clause-env : goal.consider_upcast-answer-requires-clause-env
consider_upcast-answer-requires-clause-env g c =
    (env-kept (g.E.Build.context c.args.ecx.now) (g.E.Build.context c.loop-number.ecx) c.args.env c.loop-number.invariant.kept.grows c.requires.env).0

pub consider_upcast-answer-requires-clause-env_below : goal.consider_upcast-answer-requires-clause-env_below
consider_upcast-answer-requires-clause-env_below g c =
    let E = g.E.EvalCtxt in
    let first = c.args.ecx.now in
    let start = g.E.Build.context first in
    let S = E.state first in
    let so = c.loop-number.invariant in
    let now = g.E.Build.context c.loop-number.ecx in
    let T = E.state c.loop-number.ecx in
    let longer = alike-longer (E.judge (E.fixed first)) (g.met.E.EvalCtxt.lawful (E.fixed first)).alike_judged_alike S T so.alike in
    env-later start now so.kept.grows (length S.variables) (length T.variables) longer c.args.env c.requires.env c.requires.env_below

pub consider_upcast-answer-requires-clause-upcast : goal.consider_upcast-answer-requires-clause-upcast
consider_upcast-answer-requires-clause-upcast g c =
    let E = g.E.EvalCtxt in
    let first = c.args.ecx.now in
    let start = g.E.Build.context first in
    let S = E.state first in
    let u = c.args.upcast.now in
    let so = c.loop-number.invariant in
    let now = g.E.Build.context c.loop-number.ecx in
    let T = E.state c.loop-number.ecx in
    let longer = alike-longer (E.judge (E.fixed first)) (g.met.E.EvalCtxt.lawful (E.fixed first)).alike_judged_alike S T so.alike in
    upcast-later start now so.kept.grows (length S.variables) (length T.variables) longer u c.requires.upcast

pub consider_upcast-answer-requires-clause-principal : goal.consider_upcast-answer-requires-clause-principal
consider_upcast-answer-requires-clause-principal g c =
    let E = g.E.EvalCtxt in
    let first = c.args.ecx.now in
    let start = g.E.Build.context first in
    let S = E.state first in
    let u = c.args.upcast.now in
    let so = c.loop-number.invariant in
    let now = g.E.Build.context c.loop-number.ecx in
    let T = E.state c.loop-number.ecx in
    let longer = alike-longer (E.judge (E.fixed first)) (g.met.E.EvalCtxt.lawful (E.fixed first)).alike_judged_alike S T so.alike in
    let i = c.loop-number.number in
    let x = c.index.result.now in
    let xs = u.supers.items in
    let within : i < length xs = let a = c.loop-number-test.true in let b = c.len-number-end.ensures in let o = u.supers.ok.0 in omega (arith, a, b, o) in
    let own : IsRuleClause start.trees (length S.variables) x = subst (IsRuleClause start.trees (length S.variables)) (sym c.index.ensures) (All-get_or (IsRuleClause start.trees (length S.variables)) xs i x within c.requires.upcast.supers) in
    rule-clause-later start now so.kept.grows (length S.variables) (length T.variables) longer x own

pub loop-number-preserved : goal.loop-number-preserved
loop-number-preserved g c =
    let E = g.E.EvalCtxt in
    let first = c.args.ecx.now in
    let start = g.E.Build.context first in
    let S = E.state first in
    let u = c.args.upcast.now in
    let so = c.loop-number.invariant in
    let now = g.E.Build.context c.loop-number.ecx in
    let T = E.state c.loop-number.ecx in
    let i = c.loop-number.number in
    let x = c.index.result.now in
    let xs = u.supers.items in
    let begun = c.loop-number.auto.number in
    let within : i < length xs = let a = c.loop-number-test.true in let b = c.len-number-end.ensures in let o = u.supers.ok.0 in omega (arith, a, b, o) in
    let own : IsRuleClause start.trees (length S.variables) x = subst (IsRuleClause start.trees (length S.variables)) (sym c.index.ensures) (All-get_or (IsRuleClause start.trees (length S.variables)) xs i x within c.requires.upcast.supers) in
    let e = env_forest start.trees c.args.env in
    let source = BuiltinImpl (TraitUpcasting i) in
    let listed = proper-at xs i x begun within ∙ ap (λ (y : Clause). (i, y)) (sym c.index.ensures) in
    let same = upcast-judged E.judge (λ f. (g.met.E.EvalCtxt.lawful f).alike_judged_alike) (E.fixed first) (E.fixed c.loop-number.ecx) start now S T c.args.env u (Some x) source so.kept.fixed_same so.kept.grows so.alike c.requires.env
    c.requires.env_below c.requires.upcast own ∙ ap (λ (y : ℕ × Clause). judged (E.judge (E.fixed first)) S (rule-by start e u y)) (sym listed) in
    subst (λ (k : ℕ). ListedSoFar E.fixed E.judge E.state E.probes g.E.Build.context first c.consider_upcast-answer.new.ecx c.args.candidates.now.items c.push_considered.new.candidates.items (map (rule-by start e u) (take k (proper xs)))) (one-further i begun)
    (next-listed (λ f. (g.met.E.EvalCtxt.lawful f).alike_judged_alike) (rule-by start e u) (proper xs) (i - 1) (0, x) first c.loop-number.ecx c.consider_upcast-answer.new.ecx c.args.candidates.now.items c.loop-number.candidates.items
    c.push_considered.new.candidates.items _ _ _ so (proper-within xs i begun within) c.consider_upcast-answer.ensures same c.in_ok-push_considered.ensures)

pub returns-in_err-push_considered : goal.returns-in_err-push_considered
returns-in_err-push_considered g c =
    let E = g.E.EvalCtxt in
    let first = c.args.ecx.now in
    let start = g.E.Build.context first in
    let S = E.state first in
    let u = c.args.upcast.now in
    let so = c.loop-number.invariant in
    let now = g.E.Build.context c.loop-number.ecx in
    let T = E.state c.loop-number.ecx in
    let i = c.loop-number.number in
    let x = c.index.result.now in
    let xs = u.supers.items in
    let begun = c.loop-number.auto.number in
    let within : i < length xs = let a = c.loop-number-test.true in let b = c.len-number-end.ensures in let o = u.supers.ok.0 in omega (arith, a, b, o) in
    let own : IsRuleClause start.trees (length S.variables) x = subst (IsRuleClause start.trees (length S.variables)) (sym c.index.ensures) (All-get_or (IsRuleClause start.trees (length S.variables)) xs i x within c.requires.upcast.supers) in
    let e = env_forest start.trees c.args.env in
    let source = BuiltinImpl (TraitUpcasting i) in
    let listed = proper-at xs i x begun within ∙ ap (λ (y : Clause). (i, y)) (sym c.index.ensures) in
    let same = upcast-judged E.judge (λ f. (g.met.E.EvalCtxt.lawful f).alike_judged_alike) (E.fixed first) (E.fixed c.loop-number.ecx) start now S T c.args.env u (Some x) source so.kept.fixed_same so.kept.grows so.alike c.requires.env
    c.requires.env_below c.requires.upcast own ∙ ap (λ (y : ℕ × Clause). judged (E.judge (E.fixed first)) S (rule-by start e u y)) (sym listed) in
    let p = err_from_is_err_and c.from_residual.result c.from_residual.ensures.1 in
    listing-stops (λ f. (g.met.E.EvalCtxt.lawful f).alike_judged_alike) (rule-by start e u) (proper xs) (i - 1) (0, x) first c.loop-number.ecx c.consider_upcast-answer.new.ecx c.args.candidates.now.items c.loop-number.candidates.items
    c.push_considered.new.candidates.items _ _ c.in_err-push_considered.field-0.0 so (proper-within xs i begun within) c.consider_upcast-answer.ensures same c.in_err-push_considered.ensures
    _ (upcasts-proper start e u xs) c.from_residual.result (p.1 ∙ ap Err p.2)

pub returns : goal.returns
returns g c =
    let E = g.E.EvalCtxt in
    let first = c.args.ecx.now in
    let start = g.E.Build.context first in
    let S = E.state first in
    let u = c.args.upcast.now in
    let so = c.loop-number.invariant in
    let i = c.loop-number.number in
    let xs = u.supers.items in
    let e = env_forest start.trees c.args.env in
    let past : length xs ≤ i = let a = c.loop-number-test.false in let b = c.len-number-end.ensures in let o = u.supers.ok.0 in omega (arith, a, b, o) in
    all-listed (λ f. (g.met.E.EvalCtxt.lawful f).alike_judged_alike) (rule-by start e u) (proper xs) (i - 1) (0, record { 0 = 0 }) first c.loop-number.ecx c.args.candidates.now.items c.loop-number.candidates.items _ so (proper-past xs i c.loop-number.auto.number past) _
    (upcasts-proper start e u xs)
