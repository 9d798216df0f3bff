use Rattle.std.proofs.Common.{◌+◌, ◌≤◌, ◌<◌, ◌∷◌, ◌++◌, [], arith, length, sym, subst, ap, ◌∙◌}
use Rattle.ir_trees.specs.declared.ir.stop.Stop.TheVariants.{Memory}
use Rattle.ir_trees.specs.Syntax.Words.{args_forest}
use Rattle.candidate_rounds.specs.Calls.Giving.{IsNamingStop, no_name}
use Rattle.candidate_rounds.specs.Evaluators.Known.{Evaluator, state}
use Rattle.candidate_rounds.proofs.Table.Giving.{NamedSoFar, all-named, fresh-named, open-stop, own-named, own-said}
use Rattle.candidate_rounds.proofs.Stops.ResponseStops.{passed-on}
use Rattle.rounds_judge.specs.Table.TableSettling.{own_variable, with_open}
use Rattle.candidate_rounds.proofs.rounds.Rounds.names.Goals.{in-Some, in-None+in_ok-name-in-None}
use Rattle.candidate_rounds.proofs.rounds.Rounds.names.Goals as goal

pub returns-in_err-name-in-None-clause-cause : goal.returns-in_err-name-in-None-clause-cause
returns-in_err-name-in-None-clause-cause c =
    let old = c.args.self.now in
    let f = own_variable c.args.key.now.variables.items c.args.numbers.now (args_forest old.context.trees c.args.response.now.values) in
    let cs = c.args.response.now.vars.items in
    let l : c.loop-place.place < length cs = (let a = c.loop-place-test.true in let b = c.len-place-end.ensures in omega (arith, a, b)) in
    passed-on (IsNamingStop (length (state old).variables + length cs)) c.from_residual.result c.in_err-name-in-None.field-0.0 c.from_residual.ensures.1
    (open-stop f old c.loop-place.self cs c.loop-place.place c.loop-place.names.items c.loop-place.names.items c.index-left_open.result.now c.loop-place.invariant l c.in_err-name-in-None.field-0.0 c.in_err-name-in-None.ensures.cause)

pub returns-in_err-push-clause-cause : goal.returns-in_err-push-clause-cause
returns-in_err-push-clause-cause c =
    passed-on (IsNamingStop (length (state c.args.self.now).variables + length c.args.response.now.vars.items)) c.from_residual-in_err-push.result Memory c.from_residual-in_err-push.ensures.1 no_name

pub returns-clause-names : goal.returns-clause-names
returns-clause-names c =
    let old = c.args.self.now in
    let f = own_variable c.args.key.now.variables.items c.args.numbers.now (args_forest old.context.trees c.args.response.now.values) in
    let cs = c.args.response.now.vars.items in
    let l : length cs ≤ c.loop-place.place = (let a = c.loop-place-test.false in let b = c.len-place-end.ensures in omega (arith, a, b)) in
    all-named f old c.loop-place.self cs c.loop-place.place c.loop-place.names.items c.loop-place.invariant l

pub loop-place-preserved : goal.loop-place-preserved
loop-place-preserved c =
    let old = c.args.self.now in
    let now = c.loop-place.self in
    let cs = c.args.response.now.vars.items in
    let ns = c.loop-place.names.items in
    let ms = c.push.new.self.items in
    let i = c.loop-place.place in
    let d = c.index-left_open.result.now in
    let f = own_variable c.args.key.now.variables.items c.args.numbers.now (args_forest old.context.trees c.args.response.now.values) in
    let l : i < length cs = (let a = c.loop-place-test.true in let b = c.len-place-end.ensures in omega (arith, a, b)) in
    let said =
    own-said old now c.self-in-loop-place.inside.cx c.args.key.now.variables.items c.as_slice-variables.result.now c.args.numbers.now c.args-values.result.now c.args.response.now.values i d _ c.own_variable.result
    (ap (λ (e : Evaluator). e.context) c.self-in-loop-place.view_is) c.loop-place.invariant.context c.args-values.ensures.tree c.as_slice-variables.ensures.value c.index-left_open.ensures c.own_variable.ensures in
    let P : Evaluator → Type 0 = λ e. NamedSoFar f old e cs (i + 1) ms in
    elim c.match-own_variable.branch [
      | in-Some w ↦ subst P (sym w.self-is) (own-named f old now cs i ns ms d c.loop-place.invariant l w.in-Some.own (said ∙ w.in-Some.is) (c.in_ok-push.ensures.items ∙ ap (λ n. ns ++ n ∷ []) w.name-is))
      | in-None+in_ok-name-in-None w ↦
          let e = w.in_ok-name-in-None.ensures in
          subst P (sym w.self-is)
          (fresh-named f old now cs i ns ms d c.loop-place.invariant l w.open_variable.new.self w.in_ok-name-in-None.name (said ∙ w.in-None.is) e.goes e.context e.number
          (e.made ∙ ap (with_open (state now)) c.index-left_open.ensures) (c.in_ok-push.ensures.items ∙ ap (λ n. ns ++ n ∷ []) w.name-is))
    ]
